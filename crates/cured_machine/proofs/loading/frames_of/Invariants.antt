use Rattle.std.proofs.Common.{◌≡◌, map, take, length, vec_len, vec_capacity}
use Rattle.cured_machine.specs.Ready.{frame_areas}
use Rattle.cured_machine.proofs.loading.frames_of.Given as goal

abbrev pub invariant-loop-function : goal.invariant-loop-function
invariant-loop-function l = record {
  made : l.frames.items ≡ map frame_areas (take l.function-index l.functions);
  count : vec_len l.frames ≡ l.function-index;
  room : vec_capacity l.frames ≡ length l.functions;
}

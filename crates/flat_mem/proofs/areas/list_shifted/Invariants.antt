use Rattle.std.proofs.Common.{◌≡◌, ◌+◌, ◌++◌, map, take, vec_len, vec_capacity}
use Rattle.flat_mem.proofs.areas.list_shifted.Given as goal

abbrev pub invariant-loop-offset : goal.invariant-loop-offset
invariant-loop-offset l = record {
  added : l.list.items ≡ l.initial.list.items ++ map (λ o. l.start + o) (take l.offset-index l.offsets);
  count : vec_len l.list ≡ vec_len l.initial.list + l.offset-index;
  capacity : vec_capacity l.list ≡ vec_capacity l.initial.list;
}

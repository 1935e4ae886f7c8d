use Rattle.std.proofs.Common.{◌≡◌, ◌+◌, drop}
use Rattle.flat_mem.specs.Tags.{tags_written}
use Rattle.flat_mem.proofs.tags.write_tags.Given as goal

abbrev pub invariant-loop-tag : goal.invariant-loop-tag
invariant-loop-tag l = record {
  written : tags_written (drop l.tag-index l.tags) l.bytes l.at ≡ tags_written l.tags l.initial.bytes l.t;
  place : l.at ≡ l.t + l.tag-index;
}

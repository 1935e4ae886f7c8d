use Rattle.std.proofs.Common.{◌≡◌, vec_len, vec_capacity}
use Rattle.flat_mem.specs.Tags.{tags_in}
use Rattle.flat_mem.proofs.tags.keep_tags.Given as goal

abbrev pub invariant-loop-i : goal.invariant-loop-i
invariant-loop-i l = record {
  kept : l.list.items ≡ tags_in l.i l.bytes l.t;
  count : vec_len l.list ≡ l.i;
  capacity : vec_capacity l.list ≡ vec_capacity l.fn.list;
}

use Rattle.std.proofs.Common.{◌≡◌}
use Rattle.flat_mem.specs.Memory.{with_bytes}
use Rattle.wild_tags.specs.Words.{tags_cleared}
use Rattle.wild_tags.proofs.CallCode.{so_far}
use Rattle.wild_tags.proofs.area.TaggedArea.clear_tags.Given as goal

abbrev pub invariant-loop-i : goal.invariant-loop-i
invariant-loop-i l = l.flat ≡ with_bytes l.initial.flat (tags_cleared (so_far l.first l.i) l.initial.flat.bytes l.self.at l.self.length)

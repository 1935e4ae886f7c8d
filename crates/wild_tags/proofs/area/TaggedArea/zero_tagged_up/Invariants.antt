use Rattle.std.proofs.Common.{◌≡◌}
use Rattle.wild_tags.proofs.UntagCode.{zeroed_up}
use Rattle.wild_tags.proofs.area.TaggedArea.zero_tagged_up.Given as goal

abbrev pub invariant-loop-i : goal.invariant-loop-i
invariant-loop-i l = l.flat ≡ zeroed_up l.initial.flat l.self.at l.self.length l.first l.i

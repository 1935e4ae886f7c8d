use Rattle.wild_tags.proofs.CallCode.{plain_so_far}
use Rattle.wild_tags.proofs.plain.Given as goal

abbrev pub invariant-loop-i : goal.invariant-loop-i
invariant-loop-i l = plain_so_far l.flat.bytes l.area.at l.area.length l.first l.i

use Rattle.std.proofs.Common.{◌≡◌}
use Rattle.wild_tags.proofs.CallCode.{depth_so_far}
use Rattle.wild_tags.proofs.tdepth.Given as goal

abbrev pub invariant-loop-i : goal.invariant-loop-i
invariant-loop-i l = l.depth ≡ depth_so_far l.flat l.area.at l.area.length l.first l.i

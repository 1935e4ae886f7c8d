use Rattle.std.proofs.Common.{◌≤◌}
use Rattle.std.specs.Prelude.{min}
use Rattle.wild_tags.specs.Words.{tag_at}
use Rattle.wild_tags.proofs.InsideCode.{below_so_far}
use Rattle.wild_tags.proofs.area.TaggedArea.tagged_below.Given as goal

abbrev pub invariant-loop-i : goal.invariant-loop-i
invariant-loop-i l = record {
  below : below_so_far (tag_at l.flat.bytes l.self.at l.self.length) l.limit l.first l.i;
  low : l.first ≤ l.i;
  high : l.i ≤ l.end;
  past : min l.limit l.end ≤ l.i;
}

use Rattle.std.proofs.Common.{◌≡◌, ◌≤◌}
use Rattle.wild_tags.proofs.UntagCode.{zeroed_down}
use Rattle.wild_tags.proofs.area.TaggedArea.zero_tagged_down.Given as goal

abbrev pub invariant-loop-i : goal.invariant-loop-i
invariant-loop-i l = record {
  zeroed : l.flat ≡ zeroed_down l.initial.flat l.self.at l.self.length l.i l.end;
  low : l.first ≤ l.i;
}

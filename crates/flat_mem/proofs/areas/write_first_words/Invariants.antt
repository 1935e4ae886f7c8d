use Rattle.std.proofs.Common.{◌≡◌, ◌+◌, drop, length}
use Rattle.flat_mem.specs.Placement.{areas_size}
use Rattle.flat_mem.specs.Plans.{first_words_written}
use Rattle.flat_mem.proofs.areas.write_first_words.Given as goal

abbrev pub invariant-loop-area : goal.invariant-loop-area
invariant-loop-area l = record {
  written : first_words_written (drop l.area-index l.areas) l.bytes l.at ≡ first_words_written l.areas l.initial.bytes l.start;
  place : l.at + areas_size (drop l.area-index l.areas) ≡ l.start + areas_size l.areas;
  size : length l.bytes ≡ length l.initial.bytes;
}

use Rattle.std.proofs.Common.{◌≡◌, ◌++◌, ◌<◌, length}
use Rattle.std.specs.Prelude.{flat_map}
use Rattle.std.specs.List.{AllByRecursion}
use Rattle.cured_spelling.specs.Lines.{hex_byte}
use Rattle.cured_reading.proofs.globals.pairs.Given as goal

abbrev pub invariant-pairing : goal.invariant-pairing
invariant-pairing l = record {
  cut : l.fn.digits ≡ flat_map hex_byte l.bytes.items ++ l.rest;
  small : AllByRecursion (λ byte. byte < 256) l.bytes.items;
}

abbrev pub decreases-pairing : goal.decreases-pairing
decreases-pairing l = length l.rest

use Rattle.std.proofs.Common.{refl}
use Rattle.lower_units.proofs.UnitLaws.{code_of_unit, found_ready, main_numbered}
use Rattle.lower_units.proofs.units.program.Goals as goal

pub lowered_parts-requires : goal.lowered_parts-requires
lowered_parts-requires c = rw c.as_slice.ensures.value (found_ready _ _ c.in_ok-found.found c.in_ok-found.ensures c.requires)

pub number_of-number-requires : goal.number_of-number-requires
number_of-number-requires c = rw c.as_slice-2.ensures.value (main_numbered _ _ _ c.in_ok-lowered.lowered c.in_ok-lowered.ensures c.requires.few)

pub returns-clause-code : goal.returns-clause-code
returns-clause-code c = code_of_unit _ _ c.in_ok-found.found c.in_ok-lowered.lowered c.in_ok-found.ensures (rw c.as_slice.ensures.value at c.in_ok-lowered.ensures)
    refl refl refl (rw c.as_slice-2.ensures.value at c.number_of-number.ensures) c.place_of.ensures

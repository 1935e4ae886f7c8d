use Rattle.lower_units.proofs.statics.declaration.Goals as goal

pub returns : goal.returns
returns c = rw c.as_slice.ensures at c.declarators.ensures

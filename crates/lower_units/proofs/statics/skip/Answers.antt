use Rattle.lower_units.proofs.statics.skip.Goals as goal

pub returns : goal.returns
returns c = c.keep.ensures

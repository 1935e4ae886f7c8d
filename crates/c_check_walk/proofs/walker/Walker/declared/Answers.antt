use Rattle.c_check_walk.proofs.walker.Walker.declared.Goals as goal

pub form-requires : goal.form-requires
form-requires g c = record { nests = rw c.in-Some.is at c.requires.nests }

use Rattle.cil_form.proofs.ShapedPrograms.{loop_program-in_shape, call_program-in_shape, access_program-in_shape, switch_program-in_shape}
use Rattle.cil_form.proofs.laws.small_programs_are_in_shape.Goals as goal

pub returns-clause-looping : goal.returns-clause-looping
returns-clause-looping c = loop_program-in_shape

pub returns-clause-calling : goal.returns-clause-calling
returns-clause-calling c = call_program-in_shape

pub returns-clause-accessing : goal.returns-clause-accessing
returns-clause-accessing c = access_program-in_shape

pub returns-clause-switching : goal.returns-clause-switching
returns-clause-switching c = switch_program-in_shape

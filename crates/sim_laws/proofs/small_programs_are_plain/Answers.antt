use Rattle.sim_laws.proofs.SmallPlain.{loop_program-plain, call_program-plain, access_program-plain, access_program-wild_pointer, call_program-wild_home}
use Rattle.sim_laws.proofs.small_programs_are_plain.Goals as goal

pub returns-clause-looping : goal.returns-clause-looping
returns-clause-looping c = loop_program-plain

pub returns-clause-calling : goal.returns-clause-calling
returns-clause-calling c = call_program-plain

pub returns-clause-accessing : goal.returns-clause-accessing
returns-clause-accessing c = access_program-plain

pub returns-clause-wild_pointer : goal.returns-clause-wild_pointer
returns-clause-wild_pointer c = access_program-wild_pointer

pub returns-clause-wild_home : goal.returns-clause-wild_home
returns-clause-wild_home c = call_program-wild_home

use Rattle.cure_ready.proofs.PartStarts.{members-whole, parts-whole}
use Rattle.cure_ready.proofs.parts_begin_between_pointers.Goals as goal

pub returns-clause-members : goal.returns-clause-members
returns-clause-members c table sound = members-whole table sound

pub returns-clause-parts : goal.returns-clause-parts
returns-clause-parts c table sound = parts-whole table sound

use Rattle.c_typing_unique.proofs.UniqueWhole.{place-whole, struct-whole}
use Rattle.c_typing_unique.proofs.an_expression_is_one_place.Goals as goal

pub returns-clause-place : goal.returns-clause-place
returns-clause-place c = place-whole

pub returns-clause-aggregate : goal.returns-clause-aggregate
returns-clause-aggregate c = struct-whole

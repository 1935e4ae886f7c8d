use Rattle.c_tree_sizes.proofs.PaidParts.{expression-two, place-two, specifiers-two, declarator-two}
use Rattle.c_tree_sizes.proofs.a_part_makes_two_things_for_a_token.Goals as goal

pub returns-clause-expression : goal.returns-clause-expression
returns-clause-expression c = expression-two

pub returns-clause-place : goal.returns-clause-place
returns-clause-place c = place-two

pub returns-clause-specifiers : goal.returns-clause-specifiers
returns-clause-specifiers c = specifiers-two

pub returns-clause-declarator : goal.returns-clause-declarator
returns-clause-declarator c = declarator-two

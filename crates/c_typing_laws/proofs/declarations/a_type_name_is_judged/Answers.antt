use Rattle.c_typing_laws.proofs.JudgedTrees.{type_name-judged}
use Rattle.c_typing_laws.proofs.declarations.a_type_name_is_judged.Goals as goal

pub returns : goal.returns
returns c name t s r k h = type_name-judged name t s r k h

use Rattle.sim_memory.proofs.Storing.{integers-stored, pointers-stored}
use Rattle.sim_memory.proofs.stores_are_alike.Goals as goal

pub returns-clause-integer : goal.returns-clause-integer
returns-clause-integer f w number_of kind t i p z s x a v c plain e size r h low = integers-stored w number_of kind t i p z s x a v c plain e size r h low

pub returns-clause-pointer : goal.returns-clause-pointer
returns-clause-pointer f w number_of kind t n u p q s x a v c sound plain e r h words are =
    pointers-stored w number_of kind t n u p q s x a v c sound plain e r h words are

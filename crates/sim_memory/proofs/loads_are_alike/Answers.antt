use Rattle.sim_memory.proofs.Loading.{integers-loaded, pointers-loaded}
use Rattle.sim_memory.proofs.loads_are_alike.Goals as goal

pub returns-clause-integer : goal.returns-clause-integer
returns-clause-integer f w number_of kind t i p s x v a c plain e size r h = integers-loaded w number_of kind t i p s x v a c plain e size r h

pub returns-clause-pointer : goal.returns-clause-pointer
returns-clause-pointer f w sites number_of kind t n u p s x v a c sound plain e memory r h =
    pointers-loaded w sites number_of kind t n u p s x v a c sound plain e memory r h

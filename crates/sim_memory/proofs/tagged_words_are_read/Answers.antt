use Rattle.sim_memory.proofs.WildLoads.{bytes-found, tags-read, bases-read, wild-pointers-loaded, wild-integers-loaded}
use Rattle.sim_memory.proofs.tagged_words_are_read.Goals as goal

pub returns-clause-found : goal.returns-clause-found
returns-clause-found f w number_of s c depth t q e p n x h = bytes-found w number_of s c depth t q e p n x h

pub returns-clause-tag : goal.returns-clause-tag
returns-clause-tag f w number_of p s x v a b c r y by8 = tags-read w number_of p s x v a b c r y by8

pub returns-clause-base : goal.returns-clause-base
returns-clause-base f w number_of p q s x v a b c r y by8 e = bases-read w number_of p s x v a b c r y by8 q e

pub returns-clause-pointer : goal.returns-clause-pointer
returns-clause-pointer f w number_of p s x v a b c r y by8 there = wild-pointers-loaded w number_of p s x v a b c r y by8 there

pub returns-clause-integer : goal.returns-clause-integer
returns-clause-integer f w number_of i p s x v a b c size r y none = wild-integers-loaded w number_of i p s x v a b c size r y none

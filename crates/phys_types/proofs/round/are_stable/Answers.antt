use Rattle.std.specs.Prelude.{nat_eq}
use Rattle.std.proofs.Common.{arith}
use Rattle.indexmap.specs.IndexMap.{get}
use Rattle.c_types.specs.Equality.{made_alike}
use Rattle.type_laws.proofs.Relations.{made_alike_equiv}
use Rattle.phys_types.specs.Numbers.{number_in, same_number}
use Rattle.phys_types.proofs.RoundLemmas.{number_equiv}
use Rattle.phys_types.proofs.Stable.{compared_more, compared_all}
use Rattle.phys_types.proofs.round.are_stable.Goals as goal

pub places-preserved : goal.places-preserved
places-preserved c =
    compared_more (made_alike c.args.types.now (same_number (number_in c.args.numbers.now))) c.args.order.now c.args.numbers.now (get nat_eq c.places.firsts)
    (get nat_eq c.first_with.new.firsts) c.places.place c.in_ok-first.first c.number_of.result _ c.places-test.true c.number_of.ensures c.in_ok-first.ensures.here
    c.in_ok-first.ensures.kept (λ e. c.in_ok-alike.ensures e c.if-not-alike.false) c.places.invariant

pub returns : goal.returns
returns c s t u a b h =
    compared_all (made_alike c.args.types.now (same_number (number_in c.args.numbers.now)))
    (made_alike_equiv c.args.types.now (number_equiv (number_in c.args.numbers.now))) c.args.order.now c.args.numbers.now (get nat_eq c.places.firsts) c.places.place
    (let p = c.places-test.false in omega arith) c.places.invariant t u a b h

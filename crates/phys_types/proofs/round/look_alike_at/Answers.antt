use Rattle.std.specs.Prelude.{IsTrue}
use Rattle.std.proofs.Common.{ℕ, get_or, subst, sym, arith, ◌≡◌}
use Rattle.cc_base.specs.declared.number.TypeId.{TypeId}
use Rattle.std.proofs.lemmas.List.{get_or_default}
use Rattle.std.proofs.lemmas.Result.{IfOk-weaker}
use Rattle.c_types.specs.Equality.{made_alike}
use Rattle.type_laws.proofs.Relations.{made_alike_equiv}
use Rattle.phys_types.specs.Numbers.{number_in, same_number}
use Rattle.phys_types.specs.Shown.{IsKeptOf}
use Rattle.phys_types.proofs.RoundLemmas.{number_equiv}
use Rattle.phys_types.proofs.round.look_alike_at.Goals as goal

-- a type is made like itself
pub returns-then-first-place : goal.returns-then-first-place
returns-then-first-place c d h =
    let R = made_alike c.args.types.now (same_number (number_in c.args.numbers.now)) in
    let e : c.args.first ≡ c.args.place = omega arith in
    subst (λ (i : ℕ). IsTrue (R (get_or c.args.order.now i d) (get_or c.args.order.now c.args.place d))) (sym e)
    ((made_alike_equiv c.args.types.now (number_equiv (number_in c.args.numbers.now))).refl (get_or c.args.order.now c.args.place d))

pub look_alike-requires-clause-first_kept : goal.look_alike-requires-clause-first_kept
look_alike-requires-clause-first_kept c =
    subst (IsKeptOf c.args.types.now (same_number (number_in c.args.numbers.now)) _) (sym c.index-layouts-first.is)
    (c.requires.shown c.args.first (record { 0 = 0 }) c.index-layouts-first.result (let a = c.requires.all in omega arith))

pub look_alike-requires-clause-second_kept : goal.look_alike-requires-clause-second_kept
look_alike-requires-clause-second_kept c =
    subst (IsKeptOf c.args.types.now (same_number (number_in c.args.numbers.now)) _) (sym c.index-layouts-place.is)
    (c.requires.shown c.args.place (record { 0 = 0 }) c.index-layouts-place.result (let a = c.requires.all in let p = c.requires.place in omega arith))

pub returns : goal.returns
returns c d =
    let R = made_alike c.args.types.now (same_number (number_in c.args.numbers.now)) in
    IfOk-weaker c.look_alike.result _ _
    (λ alike e h.
    subst (λ (t : TypeId). IsTrue (R t (get_or c.args.order.now c.args.place d))) (get_or_default c.args.order.now c.args.first (record { 0 = 0 }) d (omega arith))
    (subst (λ (t : TypeId). IsTrue (R (get_or c.args.order.now c.args.first (record { 0 = 0 })) t))
    (get_or_default c.args.order.now c.args.place (record { 0 = 0 }) d c.requires.place) (subst IsTrue e h)))
    c.look_alike.ensures

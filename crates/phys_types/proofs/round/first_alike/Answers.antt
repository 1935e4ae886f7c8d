use Rattle.std.proofs.Common.{subst, sym, arith}
use Rattle.c_types.specs.Equality.{made_alike}
use Rattle.phys_types.specs.Numbers.{number_in, same_number}
use Rattle.phys_types.specs.Shown.{IsKeptOf}
use Rattle.phys_types.proofs.RoundLemmas.{alike_here, alike_later}
use Rattle.phys_types.proofs.round.first_alike.Goals as goal

pub look_alike-requires-clause-first_kept : goal.look_alike-requires-clause-first_kept
look_alike-requires-clause-first_kept c =
    subst (IsKeptOf c.args.types.now (same_number (number_in c.args.numbers.now)) _) (sym c.index-layouts-i.is)
    (c.requires.shown c.loop-i.i (record { 0 = 0 }) c.index-layouts-i.result (omega arith))

pub returns-then-alike : goal.returns-then-alike
returns-then-alike c =
    alike_here (λ u. made_alike c.args.types.now (same_number (number_in c.args.numbers.now)) u c.args.t) c.args.order.now _ c.loop-i.i _ (record { 0 = 0 }) c.in_ok-alike.alike
    (omega arith) c.requires.within c.in_ok-alike.ensures c.if-alike.true c.loop-i.invariant

pub loop-i-preserved : goal.loop-i-preserved
loop-i-preserved c =
    alike_later (λ u. made_alike c.args.types.now (same_number (number_in c.args.numbers.now)) u c.args.t) c.args.order.now _ c.loop-i.i _ (record { 0 = 0 }) c.in_ok-alike.alike
    (omega arith) c.requires.within c.in_ok-alike.ensures c.if-alike.false c.loop-i.invariant

use Rattle.std.proofs.Common.{inl, inr, sym, subst, ⊎_elim}
use Rattle.std.specs.List.{Contains}
use Rattle.std.proofs.lemmas.List.{take_all}
use Rattle.phys_types.proofs.Turned.{more_in}
use Rattle.phys_types.proofs.turning.add_all.Goals as goal

pub types-preserved : goal.types-preserved
types-preserved c =
    more_in c.args.ts.now c.types.t-index (record { 0 = 0 }) c.args.set.now.keys c.types.set.keys _ c.types-test.true c.in_ok-add_union.ensures c.types.invariant

pub returns : goal.returns
returns c t h = ⊎_elim
    (λ a. c.types.invariant t (inl a))
    (λ b. c.types.invariant t (inr (subst (λ xs. Contains xs t) (sym (take_all c.types.t-index c.args.ts.now c.types-test.false)) b)))
    h

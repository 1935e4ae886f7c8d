use Rattle.std.proofs.Common.{arith, rules, ◌≡◌, ◌≤◌, ◌<◌, ◌+◌, ◌-◌, ◌∙◌, length, subst, ap, sym, refl, []}
use Rattle.std.proofs.lemmas.Grind.{common_steps}
use Rattle.cured_reading.specs.Faults.{Functions, Count, MoreGlobals, functions_left}
use Rattle.cured_reading.specs.Refusals.{AreHeadsInOrder, IsHeadKept}
use Rattle.cured_reading.proofs.ExitLaws.{exit-passes}
use Rattle.cured_reading.proofs.ReadingLaws.{heads-more}
use Rattle.cured_reading.proofs.RefusalLaws.{count-read, miscounted-fails, range-fails, read-as, refused-on, wanted}
use Rattle.cured_reading.proofs.SectionLaws.{only-functions, functions-more, next-head}
use Rattle.cured_reading.proofs.sections.heads.Goals as goal

pub returns-in_err-n-clause-refused : goal.returns-in_err-n-clause-refused
returns-in_err-n-clause-refused c =
    exit-passes c.from_residual.result _ _ c.from_residual.ensures.1
    (λ left nodes.
    miscounted-fails (MoreGlobals 0 left c.args.sigs.now nodes) Functions _ _ _ (only-functions left c.args.sigs.now nodes) (λ x. refl) (λ d. d)
    c.in_err-n.ensures.refused)

pub returns-then-n-eq0-clause-refused : goal.returns-then-n-eq0-clause-refused
returns-then-n-eq0-clause-refused c =
    λ left nodes.
    range-fails (MoreGlobals 0 left c.args.sigs.now nodes) (Count Functions c.in_ok-n.n) _ _ _ refl (c.in_ok-n.ensures.small, tt) (λ o. o)
    (λ l p. let q = p.1 in omega (arith, q, c.in_ok-n.ensures.few)) (λ r. omega (arith, r, c.if-n-eq0.true)) c.in_ok-n.ensures.spelled
    c.in_ok-n.ensures.counted

pub loop-i-init : goal.loop-i-init
loop-i-init c =
    let less : c.in_ok-n.n ≡ c.in_ok-n.n - 0 = omega arith in
    let some : 0 < c.in_ok-n.n = omega (arith, c.if-n-eq0.false) in
    record {
      spelled = first_of (search rules, grind (arith, common_steps));
      many = first_of (search rules, grind (arith, common_steps));
      kept = subst (AreHeadsInOrder c.args.sigs.now 0) (sym c.new-heads.ensures.items) tt;
      read = λ left nodes.
          read-as (MoreGlobals 0 left c.args.sigs.now nodes) (functions_left c.in_ok-n.n c.args.sigs.now nodes [])
          (functions_left (c.in_ok-n.n - 0) c.args.sigs.now nodes c.new-heads.result.items) _ _
          (ap (λ k. functions_left k c.args.sigs.now nodes []) less
          ∙ ap (λ l. functions_left (c.in_ok-n.n - 0) c.args.sigs.now nodes l) (sym c.new-heads.ensures.items))
          (count-read (MoreGlobals 0 left c.args.sigs.now nodes) Functions c.in_ok-n.n _ _ refl c.in_ok-n.ensures.small c.in_ok-n.ensures.few some
          c.in_ok-n.ensures.spelled c.in_ok-n.ensures.counted);
    }

pub returns-in_err-function_head-clause-refused : goal.returns-in_err-function_head-clause-refused
returns-in_err-function_head-clause-refused c =
    let some : 0 < c.in_ok-n.n - c.loop-i.i = omega (arith, c.loop-i-test.true) in
    exit-passes c.from_residual-in_err-function_head.result _ _ c.from_residual-in_err-function_head.ensures.1
    (λ left nodes.
    refused-on _ _ _ _ _ _
    (read-as _ _ _ _ _ (functions-more (c.in_ok-n.n - c.loop-i.i) c.args.sigs.now nodes c.loop-i.heads.items some) (c.loop-i.invariant.read left nodes))
    (c.in_err-function_head.ensures.refused (c.in_ok-n.n - c.loop-i.i) nodes c.loop-i.heads.items some c.loop-i.invariant.many))

pub returns-in_err-push-clause-refused : goal.returns-in_err-push-clause-refused
returns-in_err-push-clause-refused c =
    exit-passes c.from_residual-in_err-push.result _ _ c.from_residual-in_err-push.ensures.1
    (λ left nodes. wanted (MoreGlobals 0 left c.args.sigs.now nodes) _ 0)

pub loop-i-preserved : goal.loop-i-preserved
loop-i-preserved c =
    record {
      spelled = first_of (search rules, grind (arith, common_steps));
      many = first_of (search rules, grind (arith, common_steps));
      kept = heads-more c.args.sigs.now c.loop-i.i c.loop-i.heads.items _ _ c.in_ok-push.ensures.items c.loop-i.invariant.many c.loop-i.invariant.kept
          c.in_ok-function_head.ensures.kept;
      read = λ left nodes.
          next-head (MoreGlobals 0 left c.args.sigs.now nodes) c.in_ok-n.n c.loop-i.i c.args.sigs.now nodes c.loop-i.heads.items _
          _ _ _ _ c.loop-i-test.true c.in_ok-push.ensures.items c.loop-i.invariant.many (c.loop-i.invariant.read left nodes)
          c.in_ok-function_head.ensures.read;
    }

pub returns-clause-kept : goal.returns-clause-kept
returns-clause-kept c =
    let end = c.loop-i.auto in
    record {
      some = omega (arith, c.loop-i.invariant.many, c.loop-i-test.false, c.if-n-eq0.false);
      count = omega (arith, c.loop-i.invariant.many, c.in_ok-n.ensures.few, end);
      each = c.loop-i.invariant.kept;
    }

pub returns-clause-read : goal.returns-clause-read
returns-clause-read c =
    λ left nodes.
    let none : c.in_ok-n.n - c.loop-i.i ≡ 0 = omega (arith, c.loop-i-test.false) in
    read-as (MoreGlobals 0 left c.args.sigs.now nodes) (functions_left (c.in_ok-n.n - c.loop-i.i) c.args.sigs.now nodes c.loop-i.heads.items)
    (functions_left 0 c.args.sigs.now nodes c.loop-i.heads.items) _ _ (ap (λ k. functions_left k c.args.sigs.now nodes c.loop-i.heads.items) none)
    (c.loop-i.invariant.read left nodes)

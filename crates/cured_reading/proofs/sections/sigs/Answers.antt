use Rattle.std.proofs.Common.{arith, rules, ◌≡◌, ◌+◌, ◌-◌, ◌∙◌, ap, sym, refl, []}
use Rattle.std.proofs.lemmas.Grind.{common_steps}
use Rattle.cured_code.specs.Ranges.{IsSigInRange}
use Rattle.cured_reading.specs.Faults.{Sigs, TheSigs, MoreSigs}
use Rattle.cured_reading.proofs.ExitLaws.{exit-passes}
use Rattle.cured_reading.proofs.ReadingLaws.{all-more}
use Rattle.cured_reading.proofs.RefusalLaws.{count-read, miscounted-fails, read-as, refused-on, wanted}
use Rattle.cured_reading.proofs.SectionLaws.{only-sigs, next-sig}
use Rattle.cured_reading.proofs.sections.sigs.Goals as goal

pub returns-in_err-n-clause-refused : goal.returns-in_err-n-clause-refused
returns-in_err-n-clause-refused c =
    exit-passes c.from_residual.result _ _ c.from_residual.ensures.1
    (miscounted-fails TheSigs Sigs _ _ _ only-sigs (λ x. tt) (λ d. d) c.in_err-n.ensures.refused)

pub loop-i-init : goal.loop-i-init
loop-i-init c =
    let less : c.in_ok-n.n ≡ c.in_ok-n.n - 0 = omega arith in
    record {
      spelled = first_of (search rules, grind (arith, common_steps));
      many = first_of (search rules, grind (arith, common_steps));
      kept = first_of (search rules, grind (arith, common_steps));
      read = read-as TheSigs (MoreSigs c.in_ok-n.n []) (MoreSigs (c.in_ok-n.n - 0) c.new-sigs.result.items) _ _
          (ap (λ k. MoreSigs k []) less ∙ ap (λ l. MoreSigs (c.in_ok-n.n - 0) l) (sym c.new-sigs.ensures.items))
          (count-read TheSigs Sigs c.in_ok-n.n _ _ tt c.in_ok-n.ensures.small c.in_ok-n.ensures.few tt c.in_ok-n.ensures.spelled c.in_ok-n.ensures.counted);
    }

pub returns-in_err-sig-clause-refused : goal.returns-in_err-sig-clause-refused
returns-in_err-sig-clause-refused c =
    exit-passes c.from_residual-in_err-sig.result _ _ c.from_residual-in_err-sig.ensures.1
    (refused-on _ _ _ _ _ _ c.loop-i.invariant.read (c.in_err-sig.ensures.refused _ _ (omega (arith, c.loop-i-test.true))))

pub returns-in_err-push-clause-refused : goal.returns-in_err-push-clause-refused
returns-in_err-push-clause-refused c =
    exit-passes c.from_residual-in_err-push.result _ _ c.from_residual-in_err-push.ensures.1
    (wanted TheSigs _ 0)

pub loop-i-preserved : goal.loop-i-preserved
loop-i-preserved c = record {
  spelled = first_of (search rules, grind (arith, common_steps));
  many = first_of (search rules, grind (arith, common_steps));
  kept = all-more IsSigInRange c.loop-i.sigs.items _ _ c.in_ok-push.ensures.items c.loop-i.invariant.kept c.in_ok-sig.ensures.kept;
  read = next-sig c.in_ok-n.n c.loop-i.i c.loop-i.sigs.items _ _ _ _ _ c.loop-i-test.true c.in_ok-push.ensures.items c.loop-i.invariant.read
      c.in_ok-sig.ensures.read;
}

pub returns-clause-read : goal.returns-clause-read
returns-clause-read c =
    let none : c.in_ok-n.n - c.loop-i.i ≡ 0 = omega (arith, c.loop-i-test.false) in
    read-as TheSigs (MoreSigs (c.in_ok-n.n - c.loop-i.i) c.loop-i.sigs.items) (MoreSigs 0 c.loop-i.sigs.items) _ _
    (ap (λ k. MoreSigs k c.loop-i.sigs.items) none) c.loop-i.invariant.read

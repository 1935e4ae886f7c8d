use Rattle.std.proofs.Common.{arith, rules, ◌≡◌, ◌≤◌, ◌-◌, ◌∙◌, length, ap, sym, refl}
use Rattle.std.proofs.lemmas.Grind.{common_steps}
use Rattle.cured_reading.specs.Faults.{Nodes, MoreSigs, MoreNodes}
use Rattle.cured_reading.proofs.ExitLaws.{exit-passes}
use Rattle.cured_reading.proofs.ReadingLaws.{parents-push}
use Rattle.cured_reading.proofs.RefusalLaws.{count-read, miscounted-fails, read-as, refused-on, wanted}
use Rattle.cured_reading.proofs.SectionLaws.{only-nodes, next-node}
use Rattle.cured_reading.proofs.sections.nodes.Goals as goal

pub returns-in_err-n-clause-refused : goal.returns-in_err-n-clause-refused
returns-in_err-n-clause-refused c =
    exit-passes c.from_residual.result _ _ c.from_residual.ensures.1
    (λ sigs. miscounted-fails (MoreSigs 0 sigs) Nodes _ _ _ (only-nodes sigs) (λ x. refl) (λ d. d) c.in_err-n.ensures.refused)

pub loop-i-init : goal.loop-i-init
loop-i-init c =
    let less : c.in_ok-n.n ≡ c.in_ok-n.n - 0 = omega arith in
    record {
      spelled = first_of (search rules, grind (arith, common_steps));
      many = first_of (search rules, grind (arith, common_steps));
      kept = first_of (search rules, grind (arith, common_steps));
      read = λ sigs.
          read-as (MoreSigs 0 sigs) (MoreNodes c.in_ok-n.n sigs 0) (MoreNodes (c.in_ok-n.n - 0) sigs 0) _ _ (ap (λ k. MoreNodes k sigs 0) less)
          (count-read (MoreSigs 0 sigs) Nodes c.in_ok-n.n _ _ refl c.in_ok-n.ensures.small c.in_ok-n.ensures.few tt c.in_ok-n.ensures.spelled
          c.in_ok-n.ensures.counted);
    }

pub returns-in_err-node-clause-refused : goal.returns-in_err-node-clause-refused
returns-in_err-node-clause-refused c =
    exit-passes c.from_residual-in_err-node.result _ _ c.from_residual-in_err-node.ensures.1
    (λ sigs. refused-on _ _ _ _ _ _ (c.loop-i.invariant.read sigs) (c.in_err-node.ensures.refused _ _ (omega (arith, c.loop-i-test.true))))

pub returns-in_err-push-clause-refused : goal.returns-in_err-push-clause-refused
returns-in_err-push-clause-refused c =
    exit-passes c.from_residual-in_err-push.result _ _ c.from_residual-in_err-push.ensures.1
    (λ sigs. wanted (MoreSigs 0 sigs) _ 0)

pub loop-i-preserved : goal.loop-i-preserved
loop-i-preserved c =
    record {
      spelled = first_of (search rules, grind (arith, common_steps));
      many = first_of (search rules, grind (arith, common_steps));
      kept = parents-push c.loop-i.nodes.items _ _ c.in_ok-push.ensures.items c.loop-i.invariant.kept (omega (arith, c.in_ok-node.ensures.kept, c.loop-i.invariant.many));
      read = λ sigs. next-node c.in_ok-n.n c.loop-i.i sigs _ _ _ c.loop-i-test.true (c.loop-i.invariant.read sigs) c.in_ok-node.ensures.read;
    }

pub returns-clause-read : goal.returns-clause-read
returns-clause-read c =
    λ sigs.
    let none : c.in_ok-n.n - c.loop-i.i ≡ 0 = omega (arith, c.loop-i-test.false) in
    read-as (MoreSigs 0 sigs) (MoreNodes (c.in_ok-n.n - c.loop-i.i) sigs c.loop-i.i) (MoreNodes 0 sigs (length c.loop-i.nodes.items)) _ _
    (ap (λ k. MoreNodes k sigs c.loop-i.i) none ∙ ap (λ m. MoreNodes 0 sigs m) (sym c.loop-i.invariant.many)) (c.loop-i.invariant.read sigs)

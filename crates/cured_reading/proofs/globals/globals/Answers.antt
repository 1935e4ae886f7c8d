use Rattle.std.proofs.Common.{arith, rules, ◌≡◌, ◌+◌, ◌-◌, ◌∙◌, [], ap, sym, refl}
use Rattle.std.proofs.lemmas.Grind.{common_steps}
use Rattle.cured_code.specs.Ranges.{IsGlobalInRange, global_bytes_limit}
use Rattle.cured_reading.specs.Faults.{Globals, MoreNodes, MoreGlobals}
use Rattle.cured_reading.proofs.ExitLaws.{exit-passes, ok-holds}
use Rattle.cured_reading.proofs.ReadingLaws.{all-more, bytes-more}
use Rattle.cured_reading.proofs.RefusalLaws.{count-read, miscounted-fails, read-as, refused-on, wanted}
use Rattle.cured_reading.proofs.SectionLaws.{only-globals, next-global}
use Rattle.cured_reading.proofs.globals.globals.Goals as goal

pub returns-in_err-n-clause-refused : goal.returns-in_err-n-clause-refused
returns-in_err-n-clause-refused c =
    exit-passes c.from_residual.result _ _ c.from_residual.ensures.1
    (λ sigs nodes.
    miscounted-fails (MoreNodes 0 sigs nodes) Globals _ _ _ (only-globals sigs nodes) (λ x. refl) (λ d. d) c.in_err-n.ensures.refused)

pub loop-i-init : goal.loop-i-init
loop-i-init c =
    let less : c.in_ok-n.n ≡ c.in_ok-n.n - 0 = omega arith in
    record {
      spelled = first_of (search rules, grind (arith, common_steps));
      many = first_of (search rules, grind (arith, common_steps));
      kept = first_of (search rules, grind (arith, common_steps));
      bytes = first_of (search rules, grind (arith, common_steps));
      read = λ sigs nodes.
          read-as (MoreNodes 0 sigs nodes) (MoreGlobals c.in_ok-n.n global_bytes_limit sigs nodes) (MoreGlobals (c.in_ok-n.n - 0) global_bytes_limit sigs nodes) _ _
          (ap (λ k. MoreGlobals k global_bytes_limit sigs nodes) less)
          (count-read (MoreNodes 0 sigs nodes) Globals c.in_ok-n.n _ _ refl c.in_ok-n.ensures.small c.in_ok-n.ensures.few tt c.in_ok-n.ensures.spelled
          c.in_ok-n.ensures.counted);
    }

pub returns-in_err-global-clause-refused : goal.returns-in_err-global-clause-refused
returns-in_err-global-clause-refused c =
    exit-passes c.from_residual-in_err-global.result _ _ c.from_residual-in_err-global.ensures.1
    (λ sigs nodes.
    refused-on _ _ _ _ _ _ (c.loop-i.invariant.read sigs nodes) (c.in_err-global.ensures.refused _ sigs nodes (omega (arith, c.loop-i-test.true))))

pub returns-in_err-push-clause-refused : goal.returns-in_err-push-clause-refused
returns-in_err-push-clause-refused c =
    exit-passes c.from_residual-in_err-push.result _ _ c.from_residual-in_err-push.ensures.1
    (λ sigs nodes. wanted (MoreNodes 0 sigs nodes) _ 0)

pub loop-i-preserved : goal.loop-i-preserved
loop-i-preserved c = record {
  spelled = first_of (search rules, grind (arith, common_steps));
  many = first_of (search rules, grind (arith, common_steps));
  kept = all-more IsGlobalInRange c.loop-i.globals.items _ _ c.in_ok-push.ensures.items c.loop-i.invariant.kept c.in_ok-global.ensures.kept;
  bytes = bytes-more c.loop-i.globals.items _ _ c.loop-i.left global_bytes_limit c.in_ok-push.ensures.items c.in_ok-global.ensures.few c.loop-i.invariant.bytes;
  read = λ sigs nodes.
      next-global c.in_ok-n.n c.loop-i.i c.loop-i.left _ sigs nodes c.in_ok-global.global _ _ _ c.loop-i-test.true refl (c.loop-i.invariant.read sigs nodes)
      c.in_ok-global.ensures.read;
}

pub returns-clause-read : goal.returns-clause-read
returns-clause-read c =
    λ sigs nodes.
    let none : c.in_ok-n.n - c.loop-i.i ≡ 0 = omega (arith, c.loop-i-test.false) in (
      c.loop-i.left,
      read-as (MoreNodes 0 sigs nodes) (MoreGlobals (c.in_ok-n.n - c.loop-i.i) c.loop-i.left sigs nodes) (MoreGlobals 0 c.loop-i.left sigs nodes) _ _
          (ap (λ k. MoreGlobals k c.loop-i.left sigs nodes) none) (c.loop-i.invariant.read sigs nodes),
    )

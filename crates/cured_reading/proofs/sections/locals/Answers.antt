use Rattle.std.proofs.Common.{arith, ◌≤◌, rules, [], ◌≡◌, ◌-◌, ap, refl}
use Rattle.std.proofs.lemmas.Grind.{common_steps}
use Rattle.cured_code.specs.declared.parts.AreaLine.{AreaLine}
use Rattle.cured_code.specs.Ranges.{local_bytes_limit}
use Rattle.cured_reading.specs.Faults.{InBody}
use Rattle.cured_reading.proofs.ExitLaws.{exit-passes}
use Rattle.cured_reading.proofs.ReadingLaws.{all-more}
use Rattle.cured_reading.proofs.RefusalLaws.{none-read, read-as, refused-on, wanted}
use Rattle.cured_reading.proofs.SectionLaws.{next-local}
use Rattle.cured_reading.proofs.sections.locals.Goals as goal

pub loop-i-init : goal.loop-i-init
loop-i-init c =
    let less : c.args.n ≡ c.args.n - 0 = omega arith in
    record {
      spelled = first_of (search rules, grind (arith, common_steps));
      many = first_of (search rules, grind (arith, common_steps));
      kept = first_of (search rules, grind (arith, common_steps));
      read = λ part rest.
          read-as (InBody c.args.n part [] rest) (InBody c.args.n part [] rest) (InBody (c.args.n - 0) part [] rest) _ _
          (ap (λ k. InBody k part [] rest) less) (none-read (InBody c.args.n part [] rest) _);
    }

pub returns-in_err-local-clause-refused : goal.returns-in_err-local-clause-refused
returns-in_err-local-clause-refused c =
    exit-passes c.from_residual.result _ _ c.from_residual.ensures.1
    (λ part rest. refused-on _ _ _ _ _ _ (c.loop-i.invariant.read part rest) (c.in_err-local.ensures.refused _ part rest (omega (arith, c.loop-i-test.true))))

pub returns-in_err-push-clause-refused : goal.returns-in_err-push-clause-refused
returns-in_err-push-clause-refused c =
    exit-passes c.from_residual-in_err-push.result _ _ c.from_residual-in_err-push.ensures.1
    (λ part rest. wanted (InBody c.args.n part [] rest) _ 0)

pub loop-i-preserved : goal.loop-i-preserved
loop-i-preserved c = record {
  spelled = first_of (search rules, grind (arith, common_steps));
  many = first_of (search rules, grind (arith, common_steps));
  kept = all-more (λ (area : AreaLine). area.bytes ≤ local_bytes_limit) c.loop-i.areas.items _ _ c.in_ok-push.ensures.items c.loop-i.invariant.kept c.in_ok-local.ensures.kept;
  read = λ part rest. next-local c.args.n c.loop-i.i part rest _ _ _ c.loop-i-test.true (c.loop-i.invariant.read part rest) c.in_ok-local.ensures.read;
}

pub returns-clause-read : goal.returns-clause-read
returns-clause-read c =
    λ part rest.
    let none : c.args.n - c.loop-i.i ≡ 0 = omega (arith, c.loop-i-test.false) in
    read-as (InBody c.args.n part [] rest) (InBody (c.args.n - c.loop-i.i) part [] rest) (InBody 0 part [] rest) _ _ (ap (λ k. InBody k part [] rest) none)
    (c.loop-i.invariant.read part rest)

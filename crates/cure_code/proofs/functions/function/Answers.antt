use Rattle.std.proofs.Common.{refl, ap, sym, ◌∙◌, map, arith}
use Rattle.cc_base.specs.Kinds.{kind_at}
use Rattle.cil_form.specs.Machine.{plan}
use Rattle.cure_rules.specs.Functions.{areas_for}
use Rattle.cure_code.proofs.FunctionLaws.{frame_complete, objects_of_frame, entered_function, never_function}
use Rattle.cure_code.proofs.functions.function.Goals as goal

pub charge_of-charge-requires : goal.charge_of-charge-requires
charge_of-charge-requires c =
    frame_complete c.args.w.now c.requires.set c.args.number c.args.f.now c.requires.function c.deref.result.now (ap (map plan) c.deref.ensures.value ∙ c.in_ok-variables.ensures)

pub returns-then-charge-gt1048576 : goal.returns-then-charge-gt1048576
returns-then-charge-gt1048576 c =
    let many = c.if-charge-gt1048576.true in
    let charge = c.never_entered.ensures.charge in
    never_function c.args.w.now c.requires.set c.args.number c.args.f.now c.requires.function c.deref.result.now c.never_entered.result
    (ap (map plan) c.deref.ensures.value ∙ c.in_ok-variables.ensures) c.never_entered.ensures.slots (c.never_entered.ensures.sig ∙ c.signature_of-sig.ensures)
    (λ l. charge ∙ c.charge_of-charge.ensures.exact l) (omega (arith, many, charge)) c.never_entered.ensures.locals c.never_entered.ensures.body

pub areas_of-requires-clause-objects : goal.areas_of-requires-clause-objects
areas_of-requires-clause-objects c =
    objects_of_frame c.args.w.now c.requires.set c.args.number c.args.f.now c.requires.function c.deref-2.result.now (ap (map plan) c.deref-2.ensures.value ∙ c.in_ok-variables.ensures)

pub returns : goal.returns
returns c =
    let few = c.if-charge-gt1048576.false in
    entered_function c.args.w.now c.requires.set c.args.number c.args.f.now c.requires.function c.deref.result.now _
    (ap (map plan) c.deref.ensures.value ∙ c.in_ok-variables.ensures) refl c.signature_of-sig.ensures
    c.charge_of-charge.ensures.exact c.charge_of-charge.ensures.above (omega (arith, few))
    (c.in_ok-locals.ensures
    ∙ ap (λ x. areas_for c.args.w.now.layouts.now.table (kind_at c.args.w.now.by_node.now) (map plan x)) (c.deref-2.ensures.value ∙ sym c.deref.ensures.value))
    c.in_ok-body.ensures

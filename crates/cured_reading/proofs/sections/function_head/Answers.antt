use Rattle.std.proofs.Common.{arith, ◌≤◌, sym, subst}
use Rattle.cured_reading.specs.Faults.{HasSignature}
use Rattle.cured_reading.specs.declared.sections.Head.{Head}
use Rattle.cured_reading.specs.Refusals.{IsHeadKept}
use Rattle.cured_reading.proofs.ExitLaws.{exit-passes}
use Rattle.cured_reading.proofs.RefusalLaws.{refused-as}
use Rattle.cured_reading.proofs.SectionLaws.{head-misread, slots-over, areas-over, head-over, head-read, head-as-read}
use Rattle.cured_reading.proofs.sections.function_head.Goals as goal

pub returns-in_err-number-clause-refused : goal.returns-in_err-number-clause-refused
returns-in_err-number-clause-refused c =
    exit-passes c.from_residual.result _ _ c.from_residual.ensures.1
    (λ k nodes heads lt size. head-misread k c.args.sigs.now nodes heads lt _ _ _ c.in_err-number.ensures.misread)

pub returns-then-width-gt-SLOTS_LIMIT-clause-refused : goal.returns-then-width-gt-SLOTS_LIMIT-clause-refused
returns-then-width-gt-SLOTS_LIMIT-clause-refused c =
    λ k nodes heads lt size.
    let r = c.in_ok-number in
    let head : Head = record { sig = r.number; slots = r.width; charge = r.charge; areas = r.areas } in
    slots-over k c.args.sigs.now nodes heads lt _ head _ _
    (r.ensures.small.0, (r.ensures.small.1, (r.ensures.small.2, (r.ensures.small.3, tt)))) c.if-width-gt-SLOTS_LIMIT.true r.ensures.spelled r.ensures.counted

pub returns-then-areas-gt-LOCALS_LIMIT-clause-refused : goal.returns-then-areas-gt-LOCALS_LIMIT-clause-refused
returns-then-areas-gt-LOCALS_LIMIT-clause-refused c =
    λ k nodes heads lt size.
    let r = c.in_ok-number in
    let head : Head = record { sig = r.number; slots = r.width; charge = r.charge; areas = r.areas } in
    areas-over k c.args.sigs.now nodes heads lt _ head _ _
    (r.ensures.small.0, (r.ensures.small.1, (r.ensures.small.2, (r.ensures.small.3, tt)))) c.if-width-gt-SLOTS_LIMIT.false c.if-areas-gt-LOCALS_LIMIT.true
    r.ensures.spelled r.ensures.counted

pub returns-in_err-sig-clause-refused : goal.returns-in_err-sig-clause-refused
returns-in_err-sig-clause-refused c =
    let r = c.in_ok-number in
    let head : Head = record { sig = r.number; slots = r.width; charge = r.charge; areas = r.areas } in
    exit-passes c.from_residual-in_err-sig.result _ _ c.from_residual-in_err-sig.ensures.1
    (λ k nodes heads lt size.
    refused-as _ _ _ _ _ c.in_err-sig.ensures.over.0
    (head-over k c.args.sigs.now nodes heads lt _ head _ _
    (r.ensures.small.0, (r.ensures.small.1, (r.ensures.small.2, (r.ensures.small.3, tt)))) c.if-width-gt-SLOTS_LIMIT.false c.if-areas-gt-LOCALS_LIMIT.false
    (λ s. let there = s.there in let over = c.in_err-sig.ensures.over.1 in omega (arith, there, over, c.requires)) r.ensures.spelled r.ensures.counted))

pub returns-in_err-slots-clause-refused : goal.returns-in_err-slots-clause-refused
returns-in_err-slots-clause-refused c =
    exit-passes c.from_residual-in_err-slots.result _ _ c.from_residual-in_err-slots.ensures.1
    (λ k nodes heads lt size. absurd (let over = c.in_err-slots.ensures.over.1 in omega (arith, over, c.if-width-gt-SLOTS_LIMIT.false)))

pub returns-else-has_sig-clause-refused : goal.returns-else-has_sig-clause-refused
returns-else-has_sig-clause-refused c =
    λ k nodes heads lt size.
    let r = c.in_ok-number in
    let head : Head = record { sig = c.in_ok-sig.sig; slots = c.in_ok-slots.slots; charge = c.in_ok-number.charge; areas = c.in_ok-number.areas } in
    let slots : c.in_ok-slots.slots ≤ 2048 = omega (arith, c.in_ok-slots.ensures.same, c.if-width-gt-SLOTS_LIMIT.false) in
    head-over k c.args.sigs.now nodes heads lt _ head _ _
    (omega (arith, c.in_ok-sig.ensures.small), (omega (arith, slots), (r.ensures.small.2, (r.ensures.small.3, tt)))) slots c.if-areas-gt-LOCALS_LIMIT.false
    (λ s.
    let there = c.has_sig.ensures.1 (subst (λ n. HasSignature c.args.sigs.now n head) size s) in
    absurd (cc (there, c.if-has_sig.false)))
    (head-as-read r.number r.width r.charge r.areas c.in_ok-sig.sig c.in_ok-slots.slots _ _ r.ensures.spelled c.in_ok-sig.ensures.same
    c.in_ok-slots.ensures.same) r.ensures.counted

pub returns-then-has_sig-clause-kept : goal.returns-then-has_sig-clause-kept
returns-then-has_sig-clause-kept c = record {
  signature = c.has_sig.ensures.0 c.if-has_sig.true;
  slots = omega (arith, c.in_ok-slots.ensures.same, c.if-width-gt-SLOTS_LIMIT.false);
  areas = c.if-areas-gt-LOCALS_LIMIT.false;
}

pub returns-then-has_sig-clause-read : goal.returns-then-has_sig-clause-read
returns-then-has_sig-clause-read c =
    λ k nodes heads lt size.
    let r = c.in_ok-number in
    let head : Head = record { sig = c.in_ok-sig.sig; slots = c.in_ok-slots.slots; charge = c.in_ok-number.charge; areas = c.in_ok-number.areas } in
    let slots : c.in_ok-slots.slots ≤ 2048 = omega (arith, c.in_ok-slots.ensures.same, c.if-width-gt-SLOTS_LIMIT.false) in
    let kept : IsHeadKept c.args.sigs.now c.args.before head =
    record { signature = c.has_sig.ensures.0 c.if-has_sig.true; slots = slots; areas = c.if-areas-gt-LOCALS_LIMIT.false } in
    head-read k c.args.sigs.now nodes heads lt _ head _
    (omega (arith, c.in_ok-sig.ensures.small), (omega (arith, slots), (r.ensures.small.2, (r.ensures.small.3, tt))))
    (subst (λ n. IsHeadKept c.args.sigs.now n head) (sym size) kept)
    (head-as-read r.number r.width r.charge r.areas c.in_ok-sig.sig c.in_ok-slots.slots _ _ r.ensures.spelled c.in_ok-sig.ensures.same
    c.in_ok-slots.ensures.same) r.ensures.counted

use Rattle.std.proofs.Common.{arith, rules, ◌≡◌, ◌+◌, ◌∙◌, map, drop, get_or, ap, sym, subst}
use Rattle.std.proofs.lemmas.Grind.{common_steps}
use Rattle.cured_code.specs.Ranges.{Names, IsFunctionInRange, AreInstrsInRange, sigs_of}
use Rattle.cured_reading.specs.declared.sections.Head.{Head}
use Rattle.cured_reading.specs.Faults.{names_of}
use Rattle.cured_reading.specs.Refusals.{IsHeadKept}
use Rattle.cured_reading.proofs.ExitLaws.{exit-passes}
use Rattle.cured_reading.proofs.ReadingLaws.{all-more, head-at, found-there, names_given, names-made, names-few, bodies-left, function-kept}
use Rattle.cured_reading.proofs.RefusalLaws.{read-on, read-as, refused-on}
use Rattle.cured_reading.proofs.reading.functions.Goals as goal

pub returns-in_default-clause-refused : goal.returns-in_default-clause-refused
returns-in_default-clause-refused c =
    let none : Head = record { sig = 0; slots = 0; charge = 0; areas = 0 } in
    let head : Head = get_or c.args.heads.now c.loop-head.head-index none in
    let kept : IsHeadKept c.args.sigs.now (0 + c.loop-head.head-index) head =
    head-at c.args.sigs.now 0 c.args.heads.now c.loop-head.head-index none c.requires.heads.each c.loop-head-test.true in
    λ other. absurd (found-there c.args.sigs.now head.sig kept.signature.there (sym c.in_default.ensures))

pub body-requires-clause-few : goal.body-requires-clause-few
body-requires-clause-few c =
    let none : Head = record { sig = 0; slots = 0; charge = 0; areas = 0 } in
    let head : Head = get_or c.args.heads.now c.loop-head.head-index none in
    let kept : IsHeadKept c.args.sigs.now (0 + c.loop-head.head-index) head =
    head-at c.args.sigs.now 0 c.args.heads.now c.loop-head.head-index none c.requires.heads.each c.loop-head-test.true in
    let numbers : sigs_of c.deref.result.now ≡ map (λ h. h.sig) c.args.heads.now = ap sigs_of c.deref.ensures.value ∙ c.in_ok-named.ensures.sigs in
    names-few c.args.sigs.now (sigs_of c.deref.result.now) c.args.nodes c.args.heads.now head c.in-Some.sig.results (0 + c.loop-head.head-index) numbers
    c.requires.sigs c.requires.nodes c.requires.heads kept

pub returns-in_err-body-clause-refused : goal.returns-in_err-body-clause-refused
returns-in_err-body-clause-refused c =
    let none : Head = record { sig = 0; slots = 0; charge = 0; areas = 0 } in
    let head : Head = get_or c.args.heads.now c.loop-head.head-index none in
    let kept : IsHeadKept c.args.sigs.now (0 + c.loop-head.head-index) head =
    head-at c.args.sigs.now 0 c.args.heads.now c.loop-head.head-index none c.requires.heads.each c.loop-head-test.true in
    let numbers : sigs_of c.deref.result.now ≡ map (λ h. h.sig) c.args.heads.now = ap sigs_of c.deref.ensures.value ∙ c.in_ok-named.ensures.sigs in
    let names : Names = names_given c.args.sigs.now (sigs_of c.deref.result.now) c.args.nodes head c.in-Some.sig.results in
    let made : names ≡ names_of c.args.sigs.now c.args.nodes c.args.heads.now head =
    names-made c.args.sigs.now c.args.nodes c.args.heads.now head (sigs_of c.deref.result.now) c.in-Some.sig numbers (sym c.in-Some.ensures) in
    let all : Head → Names = names_of c.args.sigs.now c.args.nodes c.args.heads.now in
    let left = bodies-left all c.args.heads.now c.loop-head.head-index none names c.loop-head-test.true made in
    exit-passes c.from_residual-in_err-body.result _ _ c.from_residual-in_err-body.ensures.1
    (refused-on _ _ _ _ _ _ (read-as _ _ _ _ _ left c.loop-head.invariant.read)
    (c.in_err-body.ensures.refused (map all (drop (c.loop-head.head-index + 1) c.args.heads.now))))

pub loop-head-preserved : goal.loop-head-preserved
loop-head-preserved c =
    let none : Head = record { sig = 0; slots = 0; charge = 0; areas = 0 } in
    let head : Head = get_or c.args.heads.now c.loop-head.head-index none in
    let kept : IsHeadKept c.args.sigs.now (0 + c.loop-head.head-index) head =
    head-at c.args.sigs.now 0 c.args.heads.now c.loop-head.head-index none c.requires.heads.each c.loop-head-test.true in
    let numbers : sigs_of c.deref.result.now ≡ map (λ h. h.sig) c.args.heads.now = ap sigs_of c.deref.ensures.value ∙ c.in_ok-named.ensures.sigs in
    let names : Names = names_given c.args.sigs.now (sigs_of c.deref.result.now) c.args.nodes head c.in-Some.sig.results in
    let made : names ≡ names_of c.args.sigs.now c.args.nodes c.args.heads.now head =
    names-made c.args.sigs.now c.args.nodes c.args.heads.now head (sigs_of c.deref.result.now) c.in-Some.sig numbers (sym c.in-Some.ensures) in
    let all : Head → Names = names_of c.args.sigs.now c.args.nodes c.args.heads.now in
    let left = bodies-left all c.args.heads.now c.loop-head.head-index none names c.loop-head-test.true made in
    record {
      spelled = first_of (search rules, grind (arith, common_steps));
      same = first_of (search rules, grind (arith, common_steps));
      sigs = first_of (search rules, grind (arith, common_steps));
      kept = all-more (IsFunctionInRange c.args.sigs.now (map (λ h. h.sig) c.args.heads.now) c.args.nodes) c.loop-head.functions.items _ c.in_ok-body.field-0
          c.in_ok-push.ensures.items c.loop-head.invariant.kept
          (function-kept c.args.sigs.now (map (λ h. h.sig) c.args.heads.now) c.args.nodes (0 + c.loop-head.head-index) c.in_ok-body.field-0 head c.in-Some.sig
          c.in_ok-body.ensures.of kept (sym c.in-Some.ensures) c.in_ok-body.ensures.locals
          (subst (λ l. AreInstrsInRange (names_given c.args.sigs.now l c.args.nodes head c.in-Some.sig.results) c.in_ok-body.field-0.body.0.items) numbers
          c.in_ok-body.ensures.kept));
      read = read-on _ _ _ _ _ _ (read-as _ _ _ _ _ left c.loop-head.invariant.read)
          (c.in_ok-body.ensures.read (map all (drop (c.loop-head.head-index + 1) c.args.heads.now)));
    }

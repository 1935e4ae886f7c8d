use Rattle.std.proofs.Common.{arith, rules, ℕ, ◌≡◌, ◌∙◌, List, length, map, ap, sym, subst}
use Rattle.std.proofs.lemmas.Grind.{common_steps}
use Rattle.cured_code.specs.declared.parts.Sig.{Sig}
use Rattle.cured_reading.specs.declared.sections.Head.{Head}
use Rattle.cured_reading.specs.Faults.{Awaited, MoreGlobals, names_of, bodies}
use Rattle.cured_reading.specs.Refusals.{AreHeadsKept}
use Rattle.cured_reading.proofs.ExitLaws.{exit-passes}
use Rattle.cured_reading.proofs.PartsRead.{parts-read}
use Rattle.cured_reading.proofs.ReadingLaws.{parts-kept}
use Rattle.cured_reading.proofs.RefusalLaws.{read-on, read-as, refused-on}
use Rattle.cured_reading.proofs.reading.parts.Goals as goal

pub returns-clause-spelled : goal.returns-clause-spelled
returns-clause-spelled c =
    let same = rw c.deref-3.ensures.value at c.in_ok-functions.ensures.heads in
    parts-read _ _ _ _ _ _ _ _ _ _ _ _ c.in_ok-version.ensures.spelled c.in_ok-sigs.ensures.spelled c.in_ok-nodes.ensures.spelled c.in_ok-globals.ensures.spelled c.in_ok-heads.ensures.spelled c.in_ok-functions.ensures.spelled same

pub returns-in_err-sigs-clause-refused : goal.returns-in_err-sigs-clause-refused
returns-in_err-sigs-clause-refused c =
    exit-passes c.from_residual-in_err-sigs.result _ _ c.from_residual-in_err-sigs.ensures.1
    (refused-on _ _ _ _ _ _ c.in_ok-version.ensures.read c.in_err-sigs.ensures.refused)

pub returns-in_err-nodes-clause-refused : goal.returns-in_err-nodes-clause-refused
returns-in_err-nodes-clause-refused c =
    exit-passes c.from_residual-in_err-nodes.result _ _ c.from_residual-in_err-nodes.ensures.1
    (refused-on _ _ _ _ _ _ (read-on _ _ _ _ _ _ c.in_ok-version.ensures.read c.in_ok-sigs.ensures.read) (c.in_err-nodes.ensures.refused c.in_ok-sigs.sigs.items))

pub returns-in_err-globals-clause-refused : goal.returns-in_err-globals-clause-refused
returns-in_err-globals-clause-refused c =
    exit-passes c.from_residual-in_err-globals.result _ _ c.from_residual-in_err-globals.ensures.1
    (refused-on _ _ _ _ _ _ (read-on _ _ _ _ _ _ (read-on _ _ _ _ _ _ c.in_ok-version.ensures.read c.in_ok-sigs.ensures.read) (c.in_ok-nodes.ensures.read c.in_ok-sigs.sigs.items)) (c.in_err-globals.ensures.refused c.in_ok-sigs.sigs.items (length c.in_ok-nodes.nodes.items)))

pub returns-in_err-heads-clause-refused : goal.returns-in_err-heads-clause-refused
returns-in_err-heads-clause-refused c =
    exit-passes c.from_residual-in_err-heads.result _ _ c.from_residual-in_err-heads.ensures.1
    (refused-on _ _ _ _ _ _ (read-as _ _ (MoreGlobals 0 (c.in_ok-globals.ensures.read c.in_ok-sigs.sigs.items (length c.in_ok-nodes.nodes.items)).0 c.deref.result.now (length c.in_ok-nodes.nodes.items)) _ _ (ap (λ s. MoreGlobals 0 (c.in_ok-globals.ensures.read c.in_ok-sigs.sigs.items (length c.in_ok-nodes.nodes.items)).0 s (length c.in_ok-nodes.nodes.items)) (sym c.deref.ensures.value)) (read-on _ _ _ _ _ _ (read-on _ _ _ _ _ _ (read-on _ _ _ _ _ _ c.in_ok-version.ensures.read c.in_ok-sigs.ensures.read) (c.in_ok-nodes.ensures.read c.in_ok-sigs.sigs.items)) (c.in_ok-globals.ensures.read c.in_ok-sigs.sigs.items (length c.in_ok-nodes.nodes.items)).1))
    (c.in_err-heads.ensures.refused (c.in_ok-globals.ensures.read c.in_ok-sigs.sigs.items (length c.in_ok-nodes.nodes.items)).0 (length c.in_ok-nodes.nodes.items)))

pub returns-in_err-functions-clause-refused : goal.returns-in_err-functions-clause-refused
returns-in_err-functions-clause-refused c =
    let all : List Sig → ℕ → List Head → Awaited = λ s n h. bodies (map (names_of s n h) h) in
    let size : c.len.result ≡ length c.in_ok-nodes.nodes.items = first_of (search rules, grind (arith, common_steps)) in
    exit-passes c.from_residual-in_err-functions.result _ _ c.from_residual-in_err-functions.ensures.1
    (refused-on _ _ _ _ _ _ (read-as _ _ (bodies (map (names_of c.deref-2.result.now c.len.result c.deref-3.result.now) c.deref-3.result.now)) _ _
    (ap (λ s. all s (length c.in_ok-nodes.nodes.items) c.in_ok-heads.heads.items) (c.deref.ensures.value ∙ sym c.deref-2.ensures.value) ∙ ap (λ n. all c.deref-2.result.now n c.in_ok-heads.heads.items) (sym size)
    ∙ ap (λ h. all c.deref-2.result.now c.len.result h) (sym c.deref-3.ensures.value))
    (read-on _ _ _ _ _ _ (read-as _ _ (MoreGlobals 0 (c.in_ok-globals.ensures.read c.in_ok-sigs.sigs.items (length c.in_ok-nodes.nodes.items)).0 c.deref.result.now (length c.in_ok-nodes.nodes.items)) _ _ (ap (λ s. MoreGlobals 0 (c.in_ok-globals.ensures.read c.in_ok-sigs.sigs.items (length c.in_ok-nodes.nodes.items)).0 s (length c.in_ok-nodes.nodes.items)) (sym c.deref.ensures.value)) (read-on _ _ _ _ _ _ (read-on _ _ _ _ _ _ (read-on _ _ _ _ _ _ c.in_ok-version.ensures.read c.in_ok-sigs.ensures.read) (c.in_ok-nodes.ensures.read c.in_ok-sigs.sigs.items)) (c.in_ok-globals.ensures.read c.in_ok-sigs.sigs.items (length c.in_ok-nodes.nodes.items)).1)) (c.in_ok-heads.ensures.read (c.in_ok-globals.ensures.read c.in_ok-sigs.sigs.items (length c.in_ok-nodes.nodes.items)).0 (length c.in_ok-nodes.nodes.items)))) c.in_err-functions.ensures.refused)

pub returns-clause-read : goal.returns-clause-read
returns-clause-read c =
    let all : List Sig → ℕ → List Head → Awaited = λ s n h. bodies (map (names_of s n h) h) in
    let size : c.len.result ≡ length c.in_ok-nodes.nodes.items = first_of (search rules, grind (arith, common_steps)) in
    read-on _ _ _ _ _ _ (read-as _ _ (bodies (map (names_of c.deref-2.result.now c.len.result c.deref-3.result.now) c.deref-3.result.now)) _ _
    (ap (λ s. all s (length c.in_ok-nodes.nodes.items) c.in_ok-heads.heads.items) (c.deref.ensures.value ∙ sym c.deref-2.ensures.value) ∙ ap (λ n. all c.deref-2.result.now n c.in_ok-heads.heads.items) (sym size)
    ∙ ap (λ h. all c.deref-2.result.now c.len.result h) (sym c.deref-3.ensures.value))
    (read-on _ _ _ _ _ _ (read-as _ _ (MoreGlobals 0 (c.in_ok-globals.ensures.read c.in_ok-sigs.sigs.items (length c.in_ok-nodes.nodes.items)).0 c.deref.result.now (length c.in_ok-nodes.nodes.items)) _ _ (ap (λ s. MoreGlobals 0 (c.in_ok-globals.ensures.read c.in_ok-sigs.sigs.items (length c.in_ok-nodes.nodes.items)).0 s (length c.in_ok-nodes.nodes.items)) (sym c.deref.ensures.value)) (read-on _ _ _ _ _ _ (read-on _ _ _ _ _ _ (read-on _ _ _ _ _ _ c.in_ok-version.ensures.read c.in_ok-sigs.ensures.read) (c.in_ok-nodes.ensures.read c.in_ok-sigs.sigs.items)) (c.in_ok-globals.ensures.read c.in_ok-sigs.sigs.items (length c.in_ok-nodes.nodes.items)).1)) (c.in_ok-heads.ensures.read (c.in_ok-globals.ensures.read c.in_ok-sigs.sigs.items (length c.in_ok-nodes.nodes.items)).0 (length c.in_ok-nodes.nodes.items)))) c.in_ok-functions.ensures.read

pub returns-clause-kept : goal.returns-clause-kept
returns-clause-kept c =
    let size : c.len.result ≡ length c.in_ok-nodes.nodes.items = first_of (search rules, grind (arith, common_steps)) in
    let heads = subst (λ s. AreHeadsKept s c.in_ok-heads.heads.items) c.deref.ensures.value c.in_ok-heads.ensures.kept in
    let sigs = rw c.deref-3.ensures.value at c.in_ok-functions.ensures.sigs in
    let kept = rw (c.deref-2.ensures.value, c.deref-3.ensures.value, size) at c.in_ok-functions.ensures.kept in
    parts-kept _ c.in_ok-heads.heads.items c.in_ok-sigs.ensures.few c.in_ok-sigs.ensures.kept c.in_ok-nodes.ensures.few c.in_ok-nodes.ensures.kept c.in_ok-globals.ensures.few
    c.in_ok-globals.ensures.kept c.in_ok-globals.ensures.bytes heads sigs kept

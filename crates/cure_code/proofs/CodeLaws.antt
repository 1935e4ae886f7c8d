-- What was made in two steps, from an empty draft on.
use Rattle.std.proofs.Common.{◌≡◌, ap, ◌∙◌, true, List, ◌++◌, Result, Ok, Err, IfOk}
use Rattle.cil_form.specs.declared.instr.Instr as source
use Rattle.cured_code.specs.declared.instr.Instr.{Instr}
use Rattle.cured_code.specs.declared.instr.Code.{Code}
use Rattle.check_forms.specs.Pieces.{Piece, Then}
use Rattle.check_insert.specs.declared.draft.Draft.{Draft}
use Rattle.check_insert.specs.Drafts.{Grows, Starts}
use Rattle.cure_rules.specs.Known.{World}
use Rattle.cure_bodies.specs.Holding.{Makes}
use Rattle.cure_bodies.specs.Ready.{BodyReady}
use Rattle.cc_base.specs.declared.fault.NoMemory.{NoMemory}
use Rattle.cure_code.specs.Codes.{IsOf, IsCurableBody}

made_twice : (P Q : Piece) (z a b : Draft) (code : Code) → Starts z → Makes P z a → Makes Q a b → IsOf b code → Then P Q code.0.items
unfolding Starts Makes Then
made_twice P Q z a b code empty f g h =
    let q = g h.fine in let p = f q.0 in
    (p.1.0, q.1.0, p.1.1, q.1.1, h.same ∙ q.1.2 ∙ ap (λ (m : List Instr). m ++ q.1.0) (p.1.2 ∙ ap (λ (m : List Instr). m ++ p.1.0) empty.0))

makes : (P : Piece) (R : Type 0) (a b : Draft) → Grows P R a b → Makes P a b
unfolding Grows Makes
makes P R a b f = f.0

pub made_first : (P Q : Piece) (R : Type 0) (z a b : Draft) (code : Code) → Starts z → Grows P R z a → Makes Q a b → IsOf b code → Then P Q code.0.items
made_first P Q R z a b code empty f g h = made_twice P Q z a b code empty (makes P R z a f) g h

pub made_last : (P Q : Piece) (R : Type 0) (z a b : Draft) (code : Code) → Starts z → Makes P z a → Grows Q R a b → IsOf b code → Then P Q code.0.items
made_last P Q R z a b code empty f g h = made_twice P Q z a b code empty f (makes Q R a b g) h

-- what is so of what was made, where something was
pub then_made : (P Q : Code → Type 0) (r : Result Code NoMemory) → ((code : Code) → P code → Q code) → IfOk r P → IfOk r Q
then_made P Q (Ok code) more h = more code h
then_made P Q (Err e) more h = tt

-- Where all may be cured, all that was met has code.

pub ready_first : (P : Piece) (R : Type 0) (is : List source.Instr) (w : World) (z a b : Draft) → Starts z → Grows P R z a → R → BodyReady is w a b
    → IsCurableBody w is → b.ready ≡ true
unfolding Starts Grows
ready_first P R is w z a b empty f r body c = body c.context c.inside c.curable c.shaped (f.1 r empty.1)

pub ready_last : (Q : Piece) (R : Type 0) (is : List source.Instr) (w : World) (z a b : Draft) → Starts z → BodyReady is w z a → IsCurableBody w is
    → Grows Q R a b → R → b.ready ≡ true
unfolding Starts Grows
ready_last Q R is w z a b empty body c g r = g.1 r (body c.context c.inside c.curable c.shaped empty.1)

-- Rows of instructions.
use Rattle.std.proofs.Common.{◌≡◌, ℕ, false, List, [], ◌∷◌}
use Rattle.cured_code.specs.declared.instr.Instr.{Instr}
use Rattle.check_forms.specs.Pieces.{Piece, Line, Then, Choice}
use Rattle.check_insert.specs.declared.draft.Draft.{Draft}
use Rattle.check_insert.specs.Drafts.{Grows, Starts, Chosen, AreBothReady}
use Rattle.check_insert.proofs.Laws.{grows_puts, grows_failed, grows_choice, grows_then}

pub line_more : (one : Instr) (x : List Instr) (a b c : Draft) → Grows (Line (one ∷ [])) (Unit {0}) a b → Grows (Line x) (Unit {0}) b c
    → Grows (Line (one ∷ x)) (Unit {0}) a c
line_more one x a b c f g = grows_puts (one ∷ []) x a b c f g

-- what has no code
pub refused : (P : Piece) (R : Type 0) (a b : Draft) → b.fine ≡ false → (R → ⊥) → Grows P R a b
refused P R a b f none = grows_failed P R a b none f

-- of what is always ready
pub always : (P : Piece) (R : Type 0) (a b : Draft) → Grows P (Unit {0}) a b → Grows P R a b
unfolding Grows
always P R a b f = (f.0, λ r e. f.1 tt e)

-- a choice between pieces that are always ready
pub chosen : (a : ℕ) (P Q : Piece) (s r one two b c : Draft) → Grows (Chosen a one two) (AreBothReady one two) b c
    → Grows P (Unit {0}) s one → Starts s → Grows Q (Unit {0}) r two → Starts r → Grows (Choice a P Q) (Unit {0}) b c
unfolding Grows
chosen a P Q s r one two b c h f es g er =
    let p = grows_choice a P Q (Unit {0}) (Unit {0}) s r one two b c h f es g er in (p.0, λ z e. p.1 (tt, tt) e)

-- a piece that is always ready, and then another
pub then_ready : (P Q : Piece) (R : Type 0) (a b c : Draft) → Grows P (Unit {0}) a b → Grows Q R b c → Grows (Then P Q) R a c
unfolding Grows
then_ready P Q R a b c f g = let p = grows_then P Q (Unit {0}) R a b c f g in (p.0, λ z e. p.1 (tt, z) e)

-- what asks for less
pub grows_of : (P : Piece) (R S : Type 0) (a b : Draft) → (R → S) → Grows P S a b → Grows P R a b
unfolding Grows
grows_of P R S a b less f = (f.0, λ r e. f.1 (less r) e)

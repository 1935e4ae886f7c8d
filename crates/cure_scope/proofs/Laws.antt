-- How drafts grow by cured code.
use Rattle.std.proofs.Common.{◌≡◌, refl, ap, sym, subst, ◌∙◌, ℕ, true, false, List, [], ◌∷◌, ◌++◌, append_assoc, append-nil}
use Rattle.cc_base.specs.declared.kind.Kind.{Kind}
use Rattle.cc_base.specs.declared.place.Place.{Place}
use Rattle.cured_code.specs.declared.instr.Instr.{Instr}
use Rattle.cured_code.specs.declared.instr.Instr.TheVariants as instr
use Rattle.check_forms.specs.declared.slots.Fixed.{Fixed}
use Rattle.check_forms.specs.declared.op.Op.{Op}
use Rattle.check_forms.specs.Rows.{flat_conditions}
use Rattle.check_forms.specs.RowChecks.{AreChecks}
use Rattle.check_forms.specs.Pieces.{Piece, Line, Then}
use Rattle.check_insert.specs.declared.draft.Draft.{Draft}
use Rattle.check_insert.specs.Drafts.{Grows}
use Rattle.check_insert.proofs.Laws.{grows_as, grows_both}
use Rattle.cure_rules.specs.Slots.{Role}
use Rattle.cure_rules.specs.Checks.{Need, need, numbers_of}
use Rattle.cure_scope.specs.Scopes.{fixed_work}
use Rattle.cure_scope.specs.Needs.{sets, Needs, Guards}

pub needs_one : (r : Role) (n : Fixed) (a b : Draft) → Grows (Line (instr.Const n.slot n.value ∷ [])) (Unit {0}) a b
    → Grows (Needs (need r n ∷ [])) (Unit {0}) a b
unfolding Line Needs
needs_one r n a b f = grows_as (Line (instr.Const n.slot n.value ∷ [])) (Needs (need r n ∷ [])) (Unit {0}) a b (λ c e. e) f

pub needs_none : (a b : Draft) → Grows (Line []) (Unit {0}) a b → Grows (Needs []) (Unit {0}) a b
unfolding Line Needs
needs_none a b f = grows_as (Line []) (Needs []) (Unit {0}) a b (λ c e. e) f

sets-append : (xs ys : List Need) → sets (xs ++ ys) ≡ sets xs ++ sets ys
sets-append [] ys = refl
sets-append (x ∷ xs) ys = ap (λ z. instr.Const x.number.slot x.number.value ∷ z) (sets-append xs ys)

pub needs_append : (xs ys : List Need) (a b c : Draft) → Grows (Needs xs) (Unit {0}) a b → Grows (Needs ys) (Unit {0}) b c
    → Grows (Needs (xs ++ ys)) (Unit {0}) a c
unfolding Needs
needs_append xs ys a b c f g =
    grows_both (Needs xs) (Needs ys) (Needs (xs ++ ys)) a b c (λ v w e h. ap (λ z. z ++ w) e ∙ ap (λ z. sets xs ++ z) h ∙ sym (sets-append xs ys)) f g

pub needs_more : (x : Need) (ys : List Need) (a b c : Draft) → Grows (Needs (x ∷ [])) (Unit {0}) a b → Grows (Needs ys) (Unit {0}) b c
    → Grows (Needs (x ∷ ys)) (Unit {0}) a c
needs_more x ys a b c f g = needs_append (x ∷ []) ys a b c f g

-- one piece after another, which needs nothing
pub grows_row : (P Q : Piece) (a b c : Draft) → Grows P (Unit {0}) a b → Grows Q (Unit {0}) b c → Grows (Then P Q) (Unit {0}) a c
unfolding Then
grows_row P Q a b c f g = grows_both P Q (Then P Q) a b c (λ x y p q. (x, y, p, q, refl)) f g

pub grows_guards : (op : Op) (kind : Kind) (at : Place) (a b c : Draft) → Grows (Needs (numbers_of op kind)) (Unit {0}) a b
    → Grows (AreChecks fixed_work (flat_conditions op kind at)) (Unit {0}) b c → Grows (Guards op kind at) (Unit {0}) a c
unfolding Guards
grows_guards op kind at a b c f g = grows_row (Needs (numbers_of op kind)) (AreChecks fixed_work (flat_conditions op kind at)) a b c f g

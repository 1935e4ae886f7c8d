-- What is known where a scope begins and ends, and of the expressions of statements.
use Rattle.std.proofs.Common.{◌≡◌, Bool, List, Option, Some, refl, ap, ◌∙◌, arith}
use Rattle.cc_base.specs.declared.place.Place.{Place}
use Rattle.cc_base.specs.declared.number.TypeId.{TypeId}
use Rattle.c_types.specs.Table.{Table, is_aggregate_shape}
use Rattle.c_tree.specs.Erasure.{erased, erased_optional}
use Rattle.c_tree.specs.Tree as tree
use Rattle.c_tree.specs.TypedTree.{TypedExpr}
use Rattle.c_tree.specs.TypedParts.{Made, made_by, made_by_optional}
use Rattle.c_typing.specs.Checking.{checked}
use Rattle.c_typing.specs.Declaring.{entered, left}
use Rattle.c_typing.specs.Extensions.{IsExtended}
use Rattle.c_typing_laws.specs.Numbers.{AreNumberedFrom}
use Rattle.c_typing_laws.proofs.ExtensionLaws.{still_in}
use Rattle.c_typing_laws.proofs.JudgedWhole.{checked-judged}
use Rattle.c_typing_laws.proofs.JudgedDeclarators.{entered-judged, left-judged}
use Rattle.c_typing_laws.proofs.NodesKept.{entered-keeps, left-keeps}
use Rattle.c_type_order.specs.TypesUsed.{Use, used_by}
use Rattle.c_type_order.specs.Uses.{IsUsed}
use Rattle.c_unit_typing.specs.StatementJudging.{dropped, returned}
use Rattle.c_unit_typing.specs.UnitJudged.{state_of, OverLater, IsResult, IsUnitKnown, UnitGoesOn, IsOptionJudged}
use Rattle.c_unit_typing.specs.UnitJudging.{UnitState, Gives, known_of, lifted}
use Rattle.c_unit_typing.specs.Units.{Known, with_scopes, entering_known, leaving_known, IsDropped, IsReturned}
use Rattle.c_unit_typing.proofs.JudgedTests.{scopes-alone, dropped_here, dropped-judged, returned-judged}
use Rattle.c_unit_typing.proofs.NumberedTests.{value-numbers, dropped-numbers, returned-numbers}
use Rattle.c_unit_typing.proofs.UnitOutcomes.{lifted-gives}
use Rattle.c_unit_typing.proofs.UnitStates.{numbers-rise, linkage-stays}
use Rattle.c_unit_typing.specs.TypesUsed.{used_by_optional}
use Rattle.c_unit_typing.proofs.TypesOfTests.{OptionUsed, value-types, dropped-types, returned-types}

-- Tables that follow

pub result-kept : (T U : Table) (t : TypeId) → IsExtended T U → IsResult T t → IsResult U t
result-kept T U t x h = record { there = still_in T U x t h.there; no_struct = ap is_aggregate_shape (x.shapes t h.there) ∙ h.no_struct }

-- Scopes

pub enter-judged : (b : Bool) (s r : UnitState) → IsUnitKnown s → lifted entered s ≡ Gives b r
    → (known_of r ≡ entering_known (known_of s)) × UnitGoesOn s r × (r.seen.node ≡ s.seen.node)
enter-judged b s r k h =
    let l = lifted-gives entered b s r h in
    let e = entered-judged b (state_of s) (state_of r) k.known l.0 in
    let n = entered-keeps (state_of s) s.seen.node refl b (state_of r) l.0 in
    (scopes-alone s r l.1 ∙ ap (with_scopes (known_of s)) e.0, linkage-stays s r k e.1 l.1 (omega (arith, n)), n)

pub leave-judged : {A : Type 0} (at : Place) (a b : A) (s r : UnitState) → IsUnitKnown s → lifted (left at a) s ≡ Gives b r
    → (a ≡ b) × (known_of r ≡ leaving_known (known_of s)) × UnitGoesOn s r × (r.seen.node ≡ s.seen.node)
leave-judged at a b s r k h =
    let l = lifted-gives (left at a) b s r h in
    let e = left-judged at a b (state_of s) (state_of r) k.known l.0 in
    let n = left-keeps at a (state_of s) s.seen.node refl b (state_of r) l.0 in
    (e.0, scopes-alone s r l.1 ∙ ap (with_scopes (known_of s)) e.1, linkage-stays s r k e.2 l.1 (omega (arith, n)), n)

-- Expressions of statements

-- an expression of a statement, of which so much is said
pub record IsPart (P : Table → Type 0) (Erases : Type 0) (made : List Made) (used : Table → List Use) (s r : UnitState) : Type 0 where
  pub typed : OverLater r.table P
  pub erases : Erases
  pub linkage : r.linkage ≡ s.linkage
  pub numbers : AreNumberedFrom made (state_of s) (state_of r)
  pub types : IsUsed used s.table r.table
  pub goes : UnitGoesOn s r

option-part : (P : Table → Option TypedExpr → Known → Known → Type 0) (e : Option tree.Expr) (v : Option TypedExpr) (s r : UnitState) → IsUnitKnown s → IsOptionJudged P e v s r
    → AreNumberedFrom (made_by_optional v) (state_of s) (state_of r) → OptionUsed v s.table r.table
    → IsPart (λ T. P T v (known_of s) (known_of r)) (erased_optional v ≡ e) (made_by_optional v) (λ U. used_by_optional U v) s r
option-part P e v s r k j n u = record {
  typed = j.typed;
  erases = j.erases;
  linkage = j.linkage;
  numbers = n;
  types = u;
  goes = linkage-stays s r k j.goes j.linkage (numbers-rise (made_by_optional v) (state_of s) (state_of r) n);
}

-- an expression of which the value is taken
pub value-part : (e : tree.Expr) (v : TypedExpr) (s r : UnitState) → IsUnitKnown s → lifted (checked e) s ≡ Gives v r
    → IsPart (λ T. IsDropped T (Some v) (known_of s) (known_of r)) (erased v ≡ e) (made_by v) (λ U. used_by U v) s r
value-part e v s r k h =
    let c = checked-judged e v (state_of s) (state_of r) k.known (lifted-gives (checked e) v s r h).0 in
    let n = value-numbers e v s r k.known h in
    let j = option-part IsDropped (Some e) (Some v) s r k (dropped_here e v s r k.known h) n (value-types e v s r k.known h) in
    record { typed = j.typed; erases = c.erases; linkage = j.linkage; numbers = n; types = j.types; goes = j.goes }

pub dropped-part : (e : Option tree.Expr) (v : Option TypedExpr) (s r : UnitState) → IsUnitKnown s → dropped e s ≡ Gives v r
    → IsPart (λ T. IsDropped T v (known_of s) (known_of r)) (erased_optional v ≡ e) (made_by_optional v) (λ U. used_by_optional U v) s r
dropped-part e v s r k h = option-part IsDropped e v s r k (dropped-judged e v s r k.known h) (dropped-numbers e v s r k.known h) (dropped-types e v s r k.known h)

pub returned-part : (at : Place) (t : TypeId) (e : Option tree.Expr) (v : Option TypedExpr) (s r : UnitState) → IsUnitKnown s → IsResult s.table t → returned at t e s ≡ Gives v r
    → IsPart (λ T. IsReturned T at t v (known_of s) (known_of r)) (erased_optional v ≡ e) (made_by_optional v) (λ U. used_by_optional U v) s r
returned-part at t e v s r k b h = option-part (λ T. IsReturned T at t) e v s r k (returned-judged at t e v s r k.known b h) (returned-numbers at t e v s r k.known h)
    (returned-types at t e v s r k.known h)

-- What judging counts of a part of a unit is the bytes of all that lasts in it, as its types are in any table from there on.
use Rattle.std.proofs.Common.{◌≡◌, ℕ, ◌+◌, List, [], ◌++◌, Bool, Option, Some, None, refl, ap, sym, subst, ◌∙◌, arith}
use Rattle.cc_base.specs.declared.place.Place.{Place}
use Rattle.cc_base.specs.declared.number.TypeId.{TypeId}
use Rattle.c_types.specs.Sound.{IsWellFormed}
use Rattle.c_types.specs.Table.{Table, IsComplete}
use Rattle.c_tree.specs.Tree as tree
use Rattle.c_tree.specs.TypedTree as typed
use Rattle.c_tree.specs.TypedTree.{TypedExpr, TypedPlace, TypedInitialiser, TypedItems}
use Rattle.c_tree.specs.TypedParts.{Made, Copy, place_type, item_place, type_of, made_by, made_by_initialiser, made_by_items, made_by_optional}
use Rattle.c_typing.specs.Checking.{Constant, checked, checked_constant}
use Rattle.c_typing.specs.Extensions.{IsExtended}
use Rattle.c_typing.specs.Judging.{Judging, Outcome}
use Rattle.c_typing.specs.Scopes.{Scopes}
use Rattle.c_typing.specs.Shapes.{integer_at}
use Rattle.c_typing_laws.proofs.JudgedWhole.{constant-judged}
use Rattle.c_typing_laws.proofs.KeptTrees.{value-kept}
use Rattle.c_typing_laws.proofs.TableGrowth.{extended_trans}
use Rattle.c_unit_typing.specs.Initialisers.{IsInitialiser, AreItems}
use Rattle.c_unit_typing.specs.InitialiserJudging.{judge_initialiser}
use Rattle.c_unit_typing.specs.StatementJudging.{dropped, returned, promoted_by}
use Rattle.c_unit_typing.specs.UnitJudged.{state_of, IsResult, IsUnitKnown}
use Rattle.c_unit_typing.specs.UnitJudging.{UnitState, Gives, known_of, lifted}
use Rattle.c_unit_typing.specs.Units.{Known, IsDropped, IsReturned}
use Rattle.c_unit_typing.proofs.JudgedInitialisers.{initialiser-judged}
use Rattle.c_unit_typing.proofs.JudgedStatements.{value-part, dropped-part}
use Rattle.c_unit_typing.proofs.JudgedTests.{returned-judged}
use Rattle.c_unit_typing.proofs.KeptInitialisers.{initialiser-kept, complete-kept}
use Rattle.c_unit_typing.proofs.UnitOutcomes.{lifted-gives}
use Rattle.c_unit_limits.specs.Literals.{statics_made}
use Rattle.c_unit_limits.proofs.CountedInitialisers.{Counts, initialiser-counts}
use Rattle.c_unit_limits.proofs.CountedLiterals.{constant-counted}
use Rattle.c_unit_limits.proofs.CountedTests.{value-counts, dropped-counts, returned-counts, promoted-made}
use Rattle.c_unit_limits.proofs.Kept.{Kept, IsKept}
use Rattle.c_unit_limits.proofs.StaticsMade.{IsAlike, statics-append, none, alone, two, value-alike, place-alike}

-- so much is counted from the state s to the state r
pub record Lasts (made : List Made) (s r : UnitState) : Type 0 where
  pub counts : (T : Table) → IsExtended r.table T → IsWellFormed T → r.seen.globals ≡ s.seen.globals + statics_made T made

pub lasts-none : (s : UnitState) → Lasts [] s s
lasts-none s = record { counts = λ T x w. omega arith }

pub lasts-on : (xs ys : List Made) (s m r : UnitState) → Lasts xs s m → Lasts ys m r → IsExtended m.table r.table → Lasts (xs ++ ys) s r
lasts-on xs ys s m r h k up = record {
  counts = λ T x w.
      let p = h.counts T (extended_trans m.table r.table T up x) w in
      let q = k.counts T x w in
      let a = statics-append T xs ys in
      omega (arith, p, q, a);
}

-- nothing is counted before it, and nothing after it
pub lasts-inside : (made : List Made) (s e q r : UnitState) → e.seen.globals ≡ s.seen.globals → Lasts made e q → r.seen.globals ≡ q.seen.globals → IsExtended q.table r.table
    → Lasts made s r
lasts-inside made s e q r before h after up = record {
  counts = λ T x w. after ∙ (h.counts T (extended_trans q.table r.table T up x) w ∙ ap (λ (n : ℕ). n + statics_made T made) before);
}

-- where literals alone last
pub literals-last : (made : List Made) (s r : UnitState) → Counts made s r → ((T : Table) → IsExtended r.table T → IsWellFormed T → IsAlike T made 0) → Lasts made s r
literals-last made s r n alike = record {
  counts = λ T x w. let a = (alike T x w).same in omega (arith, a, n);
}

-- a step that counts no bytes
pub lifted-still : {A : Type 0} (p : Judging A) → IsKept p → (a : A) (s r : UnitState) → lifted p s ≡ Gives a r → r.seen.globals ≡ s.seen.globals
lifted-still p k a s r h = (subst (λ (m : Outcome _). Kept m (state_of s)) (lifted-gives p a s r h).0 (k.kept (state_of s))).1

-- Expressions

pub value-lasts : (e : tree.Expr) (v : TypedExpr) (s r : UnitState) → IsUnitKnown s → lifted (checked e) s ≡ Gives v r → Lasts (made_by v) s r
value-lasts e v s r k h =
    let j = value-part e v s r k h in
    literals-last (made_by v) s r (value-counts e v s r k.known h) (λ T x w. let d = j.typed T x in value-alike T w v s.seen.scopes d.0 d.1)

pub switched-lasts : (at : Place) (e : tree.Expr) (c : TypedExpr) (s m : UnitState) → IsUnitKnown s → lifted (checked e) s ≡ Gives c m
    → Lasts (made_by (promoted_by at c (integer_at m.table (type_of c)))) s m
switched-lasts at e c s m k h = subst (λ (made : List Made). Lasts made s m) (sym (promoted-made at c (integer_at m.table (type_of c)))) (value-lasts e c s m k h)

pub dropped-alike : (T : Table) → IsWellFormed T → (v : Option TypedExpr) (k k' : Known) → IsDropped T v k k' → IsAlike T (made_by_optional v) 0
dropped-alike T w None k k' h = none T
dropped-alike T w (Some e) k k' h = value-alike T w e k.scopes h.0 h.1

pub dropped-lasts : (e : Option tree.Expr) (v : Option TypedExpr) (s r : UnitState) → IsUnitKnown s → dropped e s ≡ Gives v r → Lasts (made_by_optional v) s r
dropped-lasts e v s r k h =
    let j = dropped-part e v s r k h in
    literals-last (made_by_optional v) s r (dropped-counts e v s r k.known h) (λ T x w. dropped-alike T w v (known_of s) (known_of r) (j.typed T x))

pub returned-alike : (T : Table) → IsWellFormed T → (at : Place) (t : TypeId) (v : Option TypedExpr) (k k' : Known) → IsReturned T at t v k k' → IsAlike T (made_by_optional v) 0
returned-alike T w at t None k k' h = none T
returned-alike T w at t (Some e) k k' h = value-alike T w e k.scopes h.0 h.1

pub returned-lasts : (at : Place) (t : TypeId) (e : Option tree.Expr) (v : Option TypedExpr) (s r : UnitState) → IsUnitKnown s → IsResult s.table t
    → returned at t e s ≡ Gives v r → Lasts (made_by_optional v) s r
returned-lasts at t e v s r k b h =
    let j = returned-judged at t e v s r k.known b h in
    literals-last (made_by_optional v) s r (returned-counts at t e v s r k.known b.there h) (λ T x w. returned-alike T w at t v (known_of s) (known_of r) (j.typed T x))

-- the constant of a label; its table goes on
pub constant-lasts : (e : tree.Expr) (c : Constant) (s r : UnitState) → IsUnitKnown s → lifted (checked_constant e) s ≡ Gives c r
    → Lasts (made_by c.expr) s r × IsExtended s.table r.table
constant-lasts e c s r k h =
    let l = lifted-gives (checked_constant e) c s r h in
    let j = constant-judged e c (state_of s) (state_of r) k.known l.0 in (
      literals-last (made_by c.expr) s r (constant-counted e c (state_of s) (state_of r) k.known l.0)
          (λ T x w. value-alike T w c.expr s.seen.scopes r.seen.scopes (value-kept r.table T x j.checked.goes.known.basic c.expr s.seen.scopes r.seen.scopes j.checked.typed)),
      j.checked.goes.extends,
    )

-- Initialisers

module _ (T : Table) (w : IsWellFormed T) where
  mutual
    pub initialiser-alike : (i : TypedInitialiser) (at : Place) (t : TypeId) (s s' : Scopes) → IsInitialiser T i at t s s' → IsAlike T (made_by_initialiser i) 0
    initialiser-alike (typed.Value e) at t s s' h = value-alike T w e s s' h.0
    initialiser-alike (typed.Copied p seat) at t s s' h =
        two T (place-alike T w p s s' h.0) (alone T (Copy (place_type p)) refl)
    initialiser-alike (typed.Text pieces bytes) at t s s' h = none T
    initialiser-alike (typed.Listed brace items comma u) at t s s' h = items_alike items (_) t s s' h.1

    items_alike : (all : TypedItems) (text : Bool) (t : TypeId) (s s' : Scopes) → AreItems T all text t s s' → IsAlike T (made_by_items all) 0
    items_alike typed.NoItem text t s s' h = none T
    items_alike (typed.AndItem all offset u i) text t s s' h =
        two T (items_alike all text t s h.0 h.1) (initialiser-alike i (item_place i) u h.0 s' h.2)

-- an initialiser of an object of a complete type; its table goes on
pub initialiser-lasts : (constant : Bool) (i : tree.Initialiser) (at : Place) (t : TypeId) (single : Bool) (v : TypedInitialiser) (s r : UnitState) → IsUnitKnown s → IsComplete s.table t
    → judge_initialiser constant i at (Some t) single s ≡ Gives v r → Lasts (made_by_initialiser v) s r × IsExtended s.table r.table
initialiser-lasts constant i at t single v s r k c h =
    let j = initialiser-judged i constant at t single v s r k.known c h in (
      literals-last (made_by_initialiser v) s r (initialiser-counts i constant at t single v s r k.known c h)
          (λ T x w. initialiser-alike T w v at t s.seen.scopes r.seen.scopes
          (initialiser-kept r.table T x j.goes.known.basic v at t s.seen.scopes r.seen.scopes (complete-kept s.table r.table j.goes.extends k.known.basic t c) j.typed)),
      j.goes.extends,
    )

-- `main` of a program that is lowered from a well typed unit is in shape: the first function of this name, which has the type of each.
use Rattle.std.specs.List.{Contains, position, position_or_len}
use Rattle.std.proofs.Common.{◌≡◌, ℕ, suc, ◌<◌, ◌+◌, Bool, true, false, not, cond, nat_lt, ◌&&◌, List, [], ◌∷◌, length, slice_get, Option, Some, None, inl, inr, refl, ap, sym, subst, ◌∙◌, true≢false, unwrap_or, codes, bytes_eq, ◌==◌, arith, rules, zero}
use Rattle.std.proofs.lemmas.Bool.Decides.{nat_tests}
use Rattle.cc_base.specs.declared.number.TypeId.{TypeId}
use lib.Pointwise.{pointwise}
use Rattle.c_types.specs.declared.shape.TypeShape.{TypeShape}
use Rattle.c_types.specs.declared.shape.TypeShape.TheVariants as shape
use Rattle.c_types.specs.Equality.{same_bool}
use Rattle.c_types.specs.Sameness.{same_shape, same_step}
use Rattle.c_types.specs.Table.{Table, is_function_shape, shape_at, descend}
use Rattle.c_tree.specs.declared.leaf.Identifier.{Identifier}
use Rattle.c_tree.specs.TypedTree.{TypedTranslationUnit}
use Rattle.c_tree.specs.TypedParts.{DefinedFunction, declared_type, name_of, functions_of}
use Rattle.c_typing.specs.Declarators.{name_bytes}
use Rattle.c_ready.specs.Ready.{Stage, IsAlike, IsFunctionDeclared, IsReadyFunction, IsReadyUnit, static_stage}
use Rattle.c_ready.proofs.Basics.{at-index, bytes-same, eq_from}
use Rattle.c_ready.proofs.ReadyFunctions.{result-in}
use Rattle.c_ready.proofs.Gathered.{functions-declared}
use Rattle.unit_sites.proofs.NamesAlike.{same-shapes}
use Rattle.src_machine.specs.Machine.{is_main}
use Rattle.src_machine.specs.Names.{declarators_in}
use Rattle.cil_form.specs.declared.program.Function.{Function}
use Rattle.cil_form.specs.declared.program.Program.{Program}
use Rattle.cil_form.specs.Shape.{IsMain}
use Rattle.lower_rules.specs.Units as lowered
use Rattle.lower_shape.specs.Lowered.{IsLoweredFrom}
use Rattle.lower_shape.proofs.Addresses.{In}
use Rattle.lower_shape.proofs.Bodies.{same-type}
use Rattle.lower_shape.proofs.Known.{code-at}
use Rattle.lower_shape.proofs.Lists.{all-in}

-- The first that passes a test

first-here : {A : Type 0} (q : A → Bool) (g : A) (xs : List A) → In g xs → q g ≡ true → position_or_len q xs < length xs
first-here q g [] h e = absurd h
first-here q g (x ∷ xs) (inl r) e = subst (λ b. cond (not b) (1 + position_or_len q xs) 0 < suc (length xs)) (sym (ap q (sym r) ∙ e)) (omega arith)
first-here q g (x ∷ xs) (inr r) e = by (q x) (first-here q g xs r e)
  where
    by : (b : Bool) → position_or_len q xs < length xs → cond (not b) (1 + position_or_len q xs) 0 < suc (length xs)
    by true l = omega arith
    by false l = omega (arith, l)

first-at : {A : Type 0} (q : A → Bool) (xs : List A) → position_or_len q xs < length xs
    → (x : A) × (slice_get xs (position_or_len q xs) ≡ Some x) × (q x ≡ true)
first-at q [] l = absurd (omega (arith, l))
first-at {A} q (x ∷ xs) l = by (q x) refl l (first-at q xs)
  where
    plus-one : (n : ℕ) → 1 + n ≡ suc n
    plus-one n = omega arith

    by : (b : Bool) → q x ≡ b → cond (not b) (1 + position_or_len q xs) 0 < suc (length xs)
        → (position_or_len q xs < length xs → (y : A) × (slice_get xs (position_or_len q xs) ≡ Some y) × (q y ≡ true))
        → (y : A) × (slice_get (x ∷ xs) (cond (not b) (1 + position_or_len q xs) 0) ≡ Some y) × (q y ≡ true)
    by true e m more = (x, refl, e)
    by false e m more =
        let r = more (omega (arith, m)) in (r.0, ap (λ n. slice_get (x ∷ xs) n) (plus-one (position_or_len q xs)) ∙ r.1, r.2)

below-lt : (n t : ℕ) → n < t → nat_lt n t ≡ true
below-lt n t q = grind (arith, nat_tests, q)

position-there : {A : Type 0} (q : A → Bool) (xs : List A) → position_or_len q xs < length xs
    → unwrap_or (position q xs) (length xs) ≡ position_or_len q xs
position-there q xs l =
    ap (λ b. unwrap_or (cond b (Some (position_or_len q xs)) None) (length xs)) (below-lt (position_or_len q xs) (length xs) l)

-- Types of `main`

abbrev IsInt : TypeShape → Type 0
IsInt x = x ≡ shape.Integer 4 true

and-both : (a b : Bool) → (a && b) ≡ true → (a ≡ true) × (b ≡ true)
and-both true b h = (refl, h)
and-both false b h = absurd (true≢false (sym h))

bool-left : (s : Bool) → same_bool s true ≡ true → s ≡ true
bool-left true h = refl
bool-left false h = absurd (true≢false (sym h))

bool-right : (s : Bool) → same_bool true s ≡ true → s ≡ true
bool-right true h = refl
bool-right false h = absurd (true≢false (sym h))

int-left : (R : TypeId → TypeId → Bool) (x : TypeShape) → same_shape R x (shape.Integer 4 true) ≡ true → IsInt x
int-left R (shape.Integer a s) h =
    let r = and-both (a == 4) (same_bool s true) h in
    ap (λ n. shape.Integer n s) (eq_from a 4 r.0) ∙ ap (λ b. shape.Integer 4 b) (bool-left s r.1)
int-left R shape.Void h = absurd (true≢false (sym h))
int-left R (shape.Pointer n t) h = absurd (true≢false (sym h))
int-left R (shape.Array t n) h = absurd (true≢false (sym h))
int-left R (shape.Function ps r) h = absurd (true≢false (sym h))
int-left R (shape.Struct n) h = absurd (true≢false (sym h))
int-left R (shape.Union n) h = absurd (true≢false (sym h))

int-right : (R : TypeId → TypeId → Bool) (x : TypeShape) → same_shape R (shape.Integer 4 true) x ≡ true → IsInt x
int-right R (shape.Integer a s) h =
    let r = and-both (4 == a) (same_bool true s) h in
    ap (λ n. shape.Integer n s) (sym (eq_from 4 a r.0)) ∙ ap (λ b. shape.Integer 4 b) (bool-right s r.1)
int-right R shape.Void h = absurd (true≢false (sym h))
int-right R (shape.Pointer n t) h = absurd (true≢false (sym h))
int-right R (shape.Array t n) h = absurd (true≢false (sym h))
int-right R (shape.Function ps r) h = absurd (true≢false (sym h))
int-right R (shape.Struct n) h = absurd (true≢false (sym h))
int-right R (shape.Union n) h = absurd (true≢false (sym h))

module _ (T : Table) where
  abbrev Level : ℕ → TypeId → TypeId → Bool
  Level n = descend (same_step T) (λ v. false) n

  level-left : (n : ℕ) (q r : TypeId) → Level n q r ≡ true → IsInt (shape_at T r) → IsInt (shape_at T q)
  level-left zero q r h e = absurd (true≢false (sym h))
  level-left (suc n) q r h e = int-left (Level n) (shape_at T q) (subst (λ y. same_shape (Level n) (shape_at T q) y ≡ true) e h)

  level-right : (n : ℕ) (q r : TypeId) → Level n q r ≡ true → IsInt (shape_at T q) → IsInt (shape_at T r)
  level-right zero q r h e = absurd (true≢false (sym h))
  level-right (suc n) q r h e = int-right (Level n) (shape_at T r) (subst (λ y. same_shape (Level n) y (shape_at T r) ≡ true) e h)

  -- a function that takes nothing and gives an int
  abbrev TakesNothing : TypeShape → Type 0
  TakesNothing x = (q : TypeId) × (x ≡ shape.Function [] q) × IsInt (shape_at T q)

  none-left : (R : TypeId → TypeId → Bool) (qs : List TypeId) → pointwise R qs [] ≡ true → qs ≡ []
  none-left R [] h = refl
  none-left R (q ∷ qs) h = absurd (true≢false (sym h))

  none-right : (R : TypeId → TypeId → Bool) (qs : List TypeId) → pointwise R [] qs ≡ true → qs ≡ []
  none-right R [] h = refl
  none-right R (q ∷ qs) h = absurd (true≢false (sym h))

  shape-left : (n : ℕ) (x : TypeShape) (r : TypeId) → same_shape (Level n) x (shape.Function [] r) ≡ true → IsInt (shape_at T r) → TakesNothing x
  shape-left n (shape.Function ps q) r h e =
      let b = and-both (Level n q r) (pointwise (Level n) ps []) h in
      (q, ap (λ (l : List TypeId). shape.Function l q) (none-left (Level n) ps b.1), level-left n q r b.0 e)
  shape-left n shape.Void r h e = absurd (true≢false (sym h))
  shape-left n (shape.Integer a s) r h e = absurd (true≢false (sym h))
  shape-left n (shape.Pointer m t) r h e = absurd (true≢false (sym h))
  shape-left n (shape.Array t m) r h e = absurd (true≢false (sym h))
  shape-left n (shape.Struct m) r h e = absurd (true≢false (sym h))
  shape-left n (shape.Union m) r h e = absurd (true≢false (sym h))

  shape-right : (n : ℕ) (x : TypeShape) (r : TypeId) → same_shape (Level n) (shape.Function [] r) x ≡ true → IsInt (shape_at T r) → TakesNothing x
  shape-right n (shape.Function ps q) r h e =
      let b = and-both (Level n r q) (pointwise (Level n) [] ps) h in
      (q, ap (λ (l : List TypeId). shape.Function l q) (none-right (Level n) ps b.1), level-right n r q b.0 e)
  shape-right n shape.Void r h e = absurd (true≢false (sym h))
  shape-right n (shape.Integer a s) r h e = absurd (true≢false (sym h))
  shape-right n (shape.Pointer m t) r h e = absurd (true≢false (sym h))
  shape-right n (shape.Array t m) r h e = absurd (true≢false (sym h))
  shape-right n (shape.Struct m) r h e = absurd (true≢false (sym h))
  shape-right n (shape.Union m) r h e = absurd (true≢false (sym h))

  alike-left : (g t : TypeId) → IsAlike T g t → TakesNothing (shape_at T t) → TakesNothing (shape_at T g)
  alike-left g t (inl e) h = subst (λ x. TakesNothing (shape_at T x)) (sym e) h
  alike-left g t (inr s) h =
      shape-left (length T) (shape_at T g) h.0 (subst (λ y. same_shape (Level (length T)) (shape_at T g) y ≡ true) h.1 (same-shapes T g t s)) h.2

  alike-right : (g t : TypeId) → IsAlike T g t → TakesNothing (shape_at T g) → TakesNothing (shape_at T t)
  alike-right g t (inl e) h = subst (λ x. TakesNothing (shape_at T x)) e h
  alike-right g t (inr s) h =
      shape-right (length T) (shape_at T t) h.0 (subst (λ y. same_shape (Level (length T)) y (shape_at T t) ≡ true) h.1 (same-shapes T g t s)) h.2

bytes-refl : (n : List ℕ) → bytes_eq n n ≡ true
bytes-refl n = search rules

main-named : (o : Option Identifier) → is_main o ≡ true → name_bytes o ≡ codes "main"
main-named None h = absurd (true≢false (sym h))
main-named (Some name) h = bytes-same name.bytes (codes "main") h

named-main : (o : Option Identifier) (id : Identifier) → o ≡ Some id → name_bytes o ≡ codes "main" → is_main o ≡ true
named-main o id e h =
    subst (λ (x : Option Identifier). is_main x ≡ true) (sym e)
    (subst (λ (n : List ℕ). bytes_eq n (codes "main") ≡ true) (sym (ap name_bytes (sym e) ∙ h)) (bytes-refl (codes "main")))

-- what stands at a place of a list is in it
slice-in : {A : Type 0} (xs : List A) (i : ℕ) (x : A) → slice_get xs i ≡ Some x → In x xs
slice-in xs i x e = at-index (λ y. In y xs) xs (all-in xs) i x e

module _ (u : TypedTranslationUnit) (p : Program) (w : IsReadyUnit p.types u) (l : IsLoweredFrom u p) where
  abbrev test : DefinedFunction → Bool
  test f = is_main (name_of f.declarator)

  abbrev all : List DefinedFunction
  all = functions_of u

  abbrev static : Stage
  static = static_stage p.types u

  own : In w.main.main all
  own = slice-in all w.main.number w.main.main w.main.there

  own-main : test w.main.main ≡ true
  own-main =
      let f = at-index (IsReadyFunction static) all w.functions w.main.number w.main.main w.main.there in
      named-main (name_of w.main.main.declarator) f.name f.named w.main.named

  here : position_or_len test all < length all
  here = first-here test w.main.main all own own-main

  -- a function with this name is declared where it is defined
  main-declared : (i : ℕ) (d : DefinedFunction) → slice_get all i ≡ Some d → test d ≡ true
      → IsFunctionDeclared static (codes "main") (declared_type d.declarator)
  main-declared i d there e =
      let f = at-index (IsReadyFunction static) all w.functions i d there in (
        d.declarator,
        at-index (λ (g : DefinedFunction). Contains (declarators_in u) g.declarator) all (functions-declared u) i d there,
        (f.name, f.named, ap name_bytes (sym f.named) ∙ main-named (name_of d.declarator) e),
        refl,
      )

  pub main-there : (f : Function) × (slice_get p.functions p.main.0 ≡ Some f) × IsMain p f
  main-there =
      let found = first-at test all here in
      let i = position_or_len test all in
      let number : p.main.0 ≡ i = l.code.main ∙ position-there test all here in
      let d = found.0 in
      let at = code-at p.types (lowered.homes_of u) all p.functions l.code.functions i d found.1 in
      let ready = at-index (IsReadyFunction static) all w.functions i d found.1 in
      let alike = w.alike (codes "main") (declared_type d.declarator) (declared_type w.main.main.declarator) (main-declared i d found.1 found.2)
      (main-declared w.main.number w.main.main w.main.there own-main) (ap is_function_shape ready.types.1) (ap is_function_shape w.main.shape.1) in
      let of-main = alike-left p.types alike.0 (declared_type w.main.main.declarator) alike.2 (w.main.result, w.main.shape.1, w.main.gives.1) in
      let of-mine = alike-right p.types alike.0 (declared_type d.declarator) alike.1 of-main in
      let type = same-type u p w l d at.0 at.2 in (
        at.0,
        ap (λ n. slice_get p.functions n) number ∙ at.1,
        (
          of-mine.0,
          ap (λ t. shape_at p.types t) type ∙ of-mine.1,
          (result-in p.types w.basic.formed (declared_type d.declarator) of-mine.0 [] (ready.types.0, of-mine.1), of-mine.2),
        ),
      )

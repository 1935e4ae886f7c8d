-- The parameters that a declarator has itself: their homes were given out, and what they leave in their scope is one thing.
use Rattle.std.proofs.Common.{◌≡◌, ◌≤◌, ℕ, Bool, List, [], ◌∷◌, ◌++◌, Option, Some, None, refl, ap, sym, subst, arith}
use Rattle.std.proofs.lemmas.Option.{none-some}
use Rattle.cc_base.specs.declared.number.TypeId.{TypeId}
use Rattle.c_types.specs.Table.{Table}
use Rattle.c_tree.specs.declared.leaf.Identifier.{Identifier}
use Rattle.c_tree.specs.declared.typed_word.Home.{Home}
use Rattle.c_tree.specs.declared.typed_word.Home.TheVariants as home
use Rattle.c_tree.specs.declared.typed_word.TypedStar.{TypedStar}
use Rattle.c_tree.specs.TypedTree as typed
use Rattle.c_tree.specs.TypedTree.{TypedForm, TypedCore, TypedParts, TypedParameters, TypedDeclared}
use Rattle.c_tree.specs.TypedParts.{made_by, made_by_stars, made_by_specifiers, made_by_form, made_by_core, made_by_parts, made_by_parameters, made_by_declared, made_by_adjusted, declared_home, is_void_list}
use Rattle.c_typing.specs.Refusals.{declared_identifier}
use Rattle.c_typing.specs.declared.declared.Declared.TheVariants as declared
use Rattle.c_typing.specs.Scopes.{Scopes, entering}
use Rattle.c_typing.specs.Refusals.{declared_identifier}
use Rattle.c_typing.specs.Settled.{IsBasic}
use Rattle.c_tree.specs.Erasure.{erased_parameters}
use Rattle.c_typing.specs.Typing.{IsForm, IsCore, AreParts, AreParameters, IsDeclared}
use Rattle.c_typing_unique.specs.Points.{Point, Numbers}
use Rattle.c_typing_unique.specs.Sameness.{HasOwnFunctions}
use Rattle.c_typing_unique.proofs.UniqueTrees.{parameters-one}
use Rattle.c_typing_unique.proofs.DeclaratorSteps.{name_declared, DeclaresName, declares-by}
use Rattle.c_typing_unique.proofs.Numbering.{two-parts}
use Rattle.c_typing_given.proofs.Settling.{numbers-end}
use Rattle.c_unit_typing.specs.Units.{declares_parameters, unless_pointer, parameters_of_form, parameters_of_core}
use Rattle.c_unit_typing.proofs.NameSteps.{some-same}
use Rattle.c_unit_given.proofs.UnitGiven.{AreHomesBelow, AreScopesKept}
use Rattle.c_unit_given.proofs.LevelsBelow.{homes-more}
use Rattle.c_unit_given.proofs.DeclaratorHomes.{IsMadeBetween, form-between}

-- The parameters of the part that stands nearest to the name

-- they are well typed in a scope of their own, and what they make is numbered below n
pub record AreOwnParameters (T : Table) (n : ℕ) (ps : TypedParameters) : Type 0 where
  pub before : Scopes
  pub after : Scopes
  pub typed : AreParameters T (is_void_list ps) ps (entering before) after
  pub first : ℕ
  pub last : ℕ
  pub numbers : Numbers (made_by_parameters ps) first last
  pub below : last ≤ n

unstarred : (stars : List TypedStar) (outer : Option TypedParameters) (ps : TypedParameters) → unless_pointer stars outer ≡ Some ps → outer ≡ Some ps
unstarred [] outer ps h = h
unstarred (star ∷ stars) outer ps h = absurd (none-some ps h)

module _ (T : Table) (n : ℕ) where
  -- where such parameters are known of the parts outside
  abbrev IsOwnIf : Option TypedParameters → Type 0
  IsOwnIf outer = (qs : TypedParameters) → outer ≡ Some qs → AreOwnParameters T n qs

  nothing_outside : IsOwnIf None
  nothing_outside qs h = absurd (none-some qs h)

  parts_own : (parts : TypedParts) (outer : Option TypedParameters) (s s' : Scopes) (a b : ℕ) → b ≤ n → AreParts T parts s s' → Numbers (made_by_parts parts) a b → IsOwnIf outer
      → IsOwnIf (declares_parameters parts outer)
  parts_own typed.NoPart outer s s' a b low h numbers known = known
  parts_own (typed.AndArray all at words) outer s s' a b low h numbers known = parts_own all None s s' a b low h numbers nothing_outside
  parts_own (typed.AndSizedArray all at words e size) outer s s' a b low h numbers known =
      let cut = two-parts (made_by_parts all) (made_by e) a b numbers in
      let up = numbers-end (made_by e) cut.0 b cut.2 in
      parts_own all None s h.0 a cut.0 (omega (arith, low, up)) h.1 cut.1 nothing_outside
  parts_own (typed.AndFunction all at own) outer s s' a b low h numbers known =
      let cut = two-parts (made_by_parts all) (made_by_parameters own) a b numbers in
      let up = numbers-end (made_by_parameters own) cut.0 b cut.2 in
      let one : AreOwnParameters T n own = record { before = h.0; after = h.1; typed = h.3; first = cut.0; last = b; numbers = cut.2; below = low } in
      parts_own all (Some own) s h.0 a cut.0 (omega (arith, low, up)) h.2 cut.1 (λ qs q. subst (AreOwnParameters T n) (some-same own qs q) one)

  mutual
    form_own : (form : TypedForm) (outer : Option TypedParameters) (t : TypeId) (s s' : Scopes) (a b : ℕ) → b ≤ n → IsForm T form s s' → Numbers (made_by_form form t) a b → IsOwnIf outer
        → IsOwnIf (parameters_of_form form outer)
    form_own (typed.Form stars core parts) outer t s s' a b low h numbers known =
        let last = two-parts (made_by_stars stars ++ made_by_core core t) (made_by_parts parts) a b numbers in
        let first = two-parts (made_by_stars stars) (made_by_core core t) a last.0 last.1 in
        let up = numbers-end (made_by_parts parts) last.0 b last.2 in
        core_own core (declares_parameters parts (unless_pointer stars outer)) t s h.0 first.0 last.0 (omega (arith, low, up)) h.1 first.2
        (parts_own parts (unless_pointer stars outer) h.0 s' last.0 b low h.2 last.2 (λ qs q. known qs (unstarred stars outer qs q)))

    core_own : (core : TypedCore) (found : Option TypedParameters) (t : TypeId) (s s' : Scopes) (a b : ℕ) → b ≤ n → IsCore T core s s' → Numbers (made_by_core core t) a b → IsOwnIf found
        → IsOwnIf (parameters_of_core core found)
    core_own (typed.Names name h) found t s s' a b low k numbers known = known
    core_own typed.Unnamed found t s s' a b low k numbers known = known
    core_own (typed.Nested at form) found t s s' a b low k numbers known = form_own form found t s s' a b low k numbers known

-- Names and homes

declared_between : (d : TypedDeclared) (t : TypeId) (a b : ℕ) → Numbers (made_by_declared d t) a b → IsMadeBetween a b (declared_home d)
declared_between typed.NotDeclared t a b h = tt
declared_between (typed.DeclaredBy form) t a b h = form-between form t a b h

identifier_is : (d : TypedDeclared) → declared_identifier d ≡ name_declared d
identifier_is typed.NotDeclared = refl
identifier_is (typed.DeclaredBy form) = refl

module _ (T : Table) (scopes : AreScopesKept T) (n : ℕ) where
  declared_below : (d : TypedDeclared) (c c' : Scopes) → IsDeclared T d c c' → AreHomesBelow n c.levels → AreHomesBelow n c'.levels
  declared_below typed.NotDeclared c c' h k = subst (λ (q : Scopes). AreHomesBelow n q.levels) (sym h) k
  declared_below (typed.DeclaredBy form) c c' h k = (scopes.form form c c' h).homes n k

  -- one more name
  named_below : (name : Option Identifier) (h : Home) (t : TypeId) (a b : ℕ) (c c' : Scopes) → b ≤ n → IsMadeBetween a b h → DeclaresName name h t c c' → AreHomesBelow n c.levels
      → AreHomesBelow n c'.levels
  named_below (Some name) (home.Parameter m) t a b c c' low between d k =
      let below = between.1 in
      subst (λ (q : Scopes). AreHomesBelow n q.levels) (sym d.after) (homes-more n name.bytes (declared.Object t m) c.levels (omega (arith, low, below)) k)
  named_below (Some name) home.None t a b c c' low between d k = absurd d
  named_below (Some name) (home.Static m) t a b c c' low between d k = absurd d
  named_below (Some name) (home.Local m) t a b c c' low between d k = absurd d
  named_below (Some name) (home.Known m) t a b c c' low between d k = absurd d
  named_below None h t a b c c' low between d k = subst (λ (q : Scopes). AreHomesBelow n q.levels) (sym d) k

  pub parameters-below : (void : Bool) (ps : TypedParameters) (a b : ℕ) (c c' : Scopes) → b ≤ n → AreParameters T void ps c c' → Numbers (made_by_parameters ps) a b → AreHomesBelow n c.levels
      → AreHomesBelow n c'.levels
  parameters-below void typed.NoParameter a b c c' low h numbers k = subst (λ (q : Scopes). AreHomesBelow n q.levels) (sym h) k
  parameters-below void (typed.AndParameter all specifiers d adjusted t) a b c c' low h numbers k =
      let xs = made_by_parameters all in
      let ys = made_by_specifiers specifiers in
      let zs = made_by_declared d t in
      let third = two-parts (xs ++ ys ++ zs) (made_by_adjusted adjusted) a b numbers in
      let second = two-parts (xs ++ ys) zs a third.0 third.1 in
      let first = two-parts xs ys a second.0 second.1 in
      let up1 = numbers-end ys first.0 second.0 first.2 in
      let up2 = numbers-end zs second.0 third.0 second.2 in
      let up3 = numbers-end (made_by_adjusted adjusted) third.0 b third.2 in
      let before = parameters-below void all a first.0 c h.0 (omega (arith, low, up1, up2, up3)) h.3 first.1 k in
      let inside = declared_below d h.1 h.2 h.5 ((scopes.specifiers specifiers h.0 h.1 h.4).homes n before) in
      let names : DeclaresName (declared_identifier d) (declared_home d) t h.2 c' =
      subst (λ (o : Option Identifier). DeclaresName o (declared_home d) t h.2 c') (sym (identifier_is d)) (declares-by d t h.2 c' h.9) in
      named_below (declared_identifier d) (declared_home d) t second.0 third.0 h.2 c' (omega (arith, low, up3)) (declared_between d t second.0 third.0 second.2) names inside

-- what a list leaves in its scope is one thing
pub list-leaves : (T : Table) → IsBasic T → (v w : Bool) (ps : TypedParameters) (c i j : Scopes) (m n : ℕ) → AreParameters T v ps c i → AreParameters T w ps c j
    → Numbers (made_by_parameters ps) m n → HasOwnFunctions c → i ≡ j
list-leaves T basic v w ps c i j m n h k numbers own =
    let a : Point = record { scopes = c; node = m } in
    let b : Point = record { scopes = i; node = n } in
    let e : Point = record { scopes = j; node = n } in
    let one = parameters-one T (λ t u x y. basic.formed.distinct t u x y) (erased_parameters ps) v w ps ps a b a e (refl, h, numbers) (refl, k, numbers) refl own in
    ap (λ (p : Point). p.scopes) one.1

pub own-parameters : (T : Table) (n : ℕ) (form : TypedForm) (t : TypeId) (s s' : Scopes) (a : ℕ) (ps : TypedParameters) → IsForm T form s s' → Numbers (made_by_form form t) a n
    → parameters_of_form form None ≡ Some ps → AreOwnParameters T n ps
own-parameters T n form t s s' a ps h numbers q = form_own T n form None t s s' a n (low n) h numbers (nothing_outside T n) ps q
  where
    low : (m : ℕ) → m ≤ m
    low m = omega arith

-- The types that declarators make are given: stars, arrays and functions, and what stands in parentheses round the name.
use Rattle.std.proofs.Common.{◌≡◌, ◌≤◌, ◌+◌, ℕ, suc, not, List, [], ◌∷◌, ◌++◌, length, Option, Some, None, refl, ap, sym, subst, ◌∙◌, arith}
use Rattle.std.proofs.lemmas.List.{map-append}
use Rattle.cc_base.specs.declared.place.Place.{Place}
use Rattle.cc_base.specs.declared.fault.Rule.TheVariants as rule
use Rattle.cc_base.specs.declared.number.NodeId.{NodeId}
use Rattle.cc_base.specs.declared.number.TypeId.{TypeId}
use Rattle.c_types.specs.declared.shape.TypeShape.TheVariants.{Pointer, Function}
use Rattle.c_types.specs.Table.{Table, HasShape, IsType, IsComplete, shape_at}
use Rattle.c_tree.specs.declared.leaf.Word.{Word}
use Rattle.c_tree.specs.declared.typed_word.TypedStar.{TypedStar}
use Rattle.c_tree.specs.TypedTree as typed
use Rattle.c_tree.specs.TypedTree.{TypedForm, TypedCore, TypedParts, TypedParameters, TypedDeclared}
use Rattle.c_typing.specs.Declarators.{Outermost, Written, Counts, Points, StarsMake, PartsMake, MakesArray, MakesFunction, IsFunctionOf, FormMakes, CoreMakes, DeclaredMakes, nearest, outside, taken_types, is_result_shape}
use Rattle.c_typing.specs.Declaring.{stars_make, parts_make, last_makes, array_makes, array_of, function_makes, function_as, form_makes, core_makes, declared_makes}
use Rattle.c_typing.specs.Extensions.{IsExtended}
use Rattle.c_typing.specs.Judging.{State, Outcome, Judging, Gives, next, ◌>>=◌, pointer_type}
use Rattle.c_typing.specs.Scopes.{Scopes, Seen}
use Rattle.c_typing.specs.Settled.{IsBasic, IsKnown}
use Rattle.c_typing.specs.Tests.{first_broken, function_tests, has_some}
use Rattle.c_typing_laws.proofs.JudgedForms.{array-made, function-made}
use Rattle.c_typing_laws.proofs.KnownStates.{pointer_type-gives}
use Rattle.c_typing_exact.proofs.Unbroken.{passes_one, off}
use Rattle.c_rules_alike.proofs.DeclaratorRules.{array_tests-over, function-over}
use Rattle.c_rules_alike.proofs.TypesAlike.{complete-over}
use Rattle.c_type_order.specs.TypesUsed.{IsUse, made_in, function_steps, parts_steps, form_steps, core_steps, declared_steps, AreUses, Use, OfType, types_of}
use Rattle.c_typing_given.proofs.PointersGiven.{pointer-given, array-given, function-given}
use Rattle.c_typing_given.proofs.Steps.{then-is}
use Rattle.c_typing_given.proofs.TypeGiven.{IsTypeGiven, DefinesNone, none-same, none-both}
use Rattle.c_typing_given.proofs.ValuesGiven.{uses-first}
use Rattle.c_typing_given.proofs.TypesBehind.{core-back, back, first-made, made-more, derived-is, one-more, one-back, stars-back, parts-back, array-keeps, array-passes, complete-element, function-gives, array-makes-is, function-makes-is, function-alone, function-pointed}
pub use Rattle.c_typing_given.proofs.TypesBehind.{form-back}

module _ (T : Table) (basic : IsBasic T) (few : (t : TypeId) (parameters : List TypeId) (result : TypeId) → HasShape T t (Function parameters result) → length parameters ≤ 127) where
  -- what makes a type: T goes on from the table after it, where all is known, and nothing else changes
  pub record IsMakeGiven (made : Outcome TypeId) (t : TypeId) (s : State) (m : ℕ) : Type 0 where
    pub after : State
    pub gives : made ≡ Gives t after
    pub first : IsExtended after.table T
    pub types : length after.table ≡ m
    pub seen : after.seen ≡ s.seen
    pub known : IsKnown after
    pub there : IsType after.table t
    pub bare : DefinesNone s.table after.table

  nothing_made : (s : State) (base t : TypeId) (m : ℕ) → IsKnown s → IsExtended s.table T → IsType s.table base → t ≡ base → m ≡ length s.table → IsMakeGiven (Gives base s) t s m
  nothing_made s base t m k first there h e = record {
    after = s;
    gives = ap (λ (u : TypeId). Gives u s) (sym h);
    first = first;
    types = sym e;
    seen = refl;
    known = k;
    there = subst (IsType s.table) (sym h) there;
    bare = none-same s.table;
  }

  -- one type after another
  then_made : (run : Judging TypeId) (go : TypeId → Judging TypeId) (u t : TypeId) (s : State) (k m : ℕ) → (g : IsMakeGiven (run s) u s k) → (d : IsMakeGiven (go u g.after) t g.after m)
      → IsMakeGiven (next (run s) go) t s m
  then_made run go u t s k m g d = record {
    after = d.after;
    gives = then-is run go u s g.after (Gives t d.after) g.gives d.gives;
    first = d.first;
    types = d.types;
    seen = d.seen ∙ g.seen;
    known = d.known;
    there = d.there;
    bare = none-both s.table g.after.table d.after.table g.bare d.bare;
  }

  pub pointed : (at : Place) (n : NodeId) (to t : TypeId) (s : State) (m : ℕ) → IsKnown s → IsExtended s.table T → HasShape T t (Pointer n to) → IsUse t (length s.table) m
      → IsMakeGiven (pointer_type at n to s) t s m
  pointed at n to t s m k first has used =
      let g = pointer-given T basic at n to t s m k first has used in
      let law = pointer_type-gives at n to t s g.after k g.gives in
      record { after = g.after; gives = g.gives; first = g.first; types = g.count; seen = g.seen; known = law.1.goes.known; there = law.0.0; bare = g.bare }

  use_at : (us : List Use) (u : TypeId) (s : State) (k m : ℕ) (made : Outcome TypeId) → (g : IsMakeGiven made u s k) → AreUses us k m → AreUses us (length g.after.table) m
  use_at us u s k m made g h = subst (λ (n : ℕ). AreUses us n m) (sym g.types) h

  head_use : (u : TypeId) (us : List TypeId) (all : List TypeId) (n m : ℕ) → all ≡ u ∷ us → AreUses (types_of all) n m → (k : ℕ) × IsUse u n k × AreUses (types_of us) k m
  head_use u us all n m q h = subst (λ (l : List TypeId). AreUses (types_of l) n m) q h

  pub stars-given : (at : Place) (stars : List TypedStar) (base t : TypeId) (s : State) (m : ℕ) → IsKnown s → IsExtended s.table T → IsType s.table base → StarsMake T stars base t
      → AreUses (types_of (made_in T (length stars) t)) (length s.table) m → IsMakeGiven (stars_make at stars base s) t s m
  unfolding stars_make
  stars-given at [] base t s m k first there h uses = nothing_made s base t m k first there h uses
  stars-given at (star ∷ stars) base t s m k first there h uses =
      let us = head_use h.0 (made_in T (length stars) t) (made_in T (suc (length stars)) t) (length s.table) m
      (first-made T (length stars) t ∙ ap (λ (v : TypeId). v ∷ made_in T (length stars) t) (stars-back T stars h.0 t h.2)) uses in
      let g = pointed at star.node base h.0 s us.0 k first h.1 us.1 in
      then_made (pointer_type at star.node base) (stars_make at stars) h.0 t s us.0 m g
      (stars-given at stars h.0 t g.after m g.known g.first g.there h.2 (use_at (types_of (made_in T (length stars) t)) h.0 s us.0 m (pointer_type at star.node base s) g us.2))

  -- Arrays

  array_of_given : (at : Place) (o : Outermost) (words : List Word) (count : Option ℕ) (base u : TypeId) (sc : Scopes) (s : State) (m : ℕ) → IsKnown s → IsExtended s.table T
      → IsComplete s.table base → MakesArray T sc o words count base u → IsUse u (length s.table) m → IsTypeGiven T basic (array_of at o count base s) u s m
  unfolding array_of
  array_of_given at (Points n) words count base u sc s m k first full h used = pointer-given T basic at n base u s m k first h.1 used
  array_of_given at (Counts c) words (Some count) base u sc s m k first full h used = array-given T basic at base count u s m k first h.1.1 full used
  array_of_given at Written words (Some count) base u sc s m k first full h used = array-given T basic at base count u s m k first h.1.1 full used
  array_of_given at (Counts c) words None base u sc s m k first full h used = array-given T basic at base c u s m k first h.1.1 full used
  array_of_given at Written words None base u sc s m k first full h used = absurd h

  array_given : (at : Place) (o : Outermost) (bracket : Place) (words : List Word) (count : Option ℕ) (base u : TypeId) (s : State) (m : ℕ) → IsKnown s → IsExtended s.table T → IsType s.table base
      → MakesArray T s.seen.scopes o words count base u → IsUse u (length s.table) m → IsMakeGiven (array_makes at o bracket words count base s) u s m
  array_given at o bracket words count base u s m k first there h used =
      let full = k.followed base (complete-over s.table T first k.basic s.seen.scopes base there ∙ complete-element T s.seen.scopes o words count base u h) in
      let g = array_of_given at o words count base u s.seen.scopes s m k first full h used in
      let pass =
      ap first_broken (array_tests-over s.table T first k.basic s.seen.scopes o (has_some count) bracket words base at there)
      ∙ array-passes T s.seen.scopes o (has_some count) bracket words base at (array-keeps T s.seen.scopes o words count base u h) in
      let gives = array-makes-is at o bracket words count base s (Gives u g.after) pass g.gives in
      let law = array-made at o bracket words count base u s g.after k there gives in
      record { after = g.after; gives = gives; first = g.first; types = g.count; seen = g.seen; known = law.goes.goes.known; there = law.there; bare = g.bare }

  -- Functions

  function_test : (at : Place) (o : Outermost) (parameters : TypedParameters) (base u : TypeId) (s : State) → IsKnown s → IsExtended s.table T → IsType s.table base
      → MakesFunction T o parameters base u → first_broken (function_tests s.table base at) ≡ None
  function_test at o parameters base u s k first there h =
      ap first_broken (function-over s.table T first k.basic base at there)
      ∙ passes_one rule.Mismatch at (not (is_result_shape (shape_at T base))) (off (is_result_shape (shape_at T base)) (function-gives T o parameters base u h))

  -- a function type alone
  plain_function : (at : Place) (o : Outermost) (parameters : TypedParameters) (base u : TypeId) (s : State) (m : ℕ) → IsKnown s → IsExtended s.table T → IsType s.table base
      → ((f : TypeId) (q : State) → function_as at o f q ≡ Gives f q) → MakesFunction T o parameters base u → IsFunctionOf T parameters base u → IsUse u (length s.table) m
      → IsMakeGiven (function_makes at o parameters base s) u s m
  plain_function at o parameters base u s m k first there alone h w used =
      let g = function-given T basic at (taken_types parameters) base u s m k first w.shape (few u (taken_types parameters) base w.shape) used in
      let gives = function-makes-is at o parameters base u s g.after (Gives u g.after) (function_test at o parameters base u s k first there h) g.gives (alone u g.after) in
      let law = function-made at o parameters base u s g.after k gives in
      record { after = g.after; gives = gives; first = g.first; types = g.count; seen = g.seen; known = law.goes.goes.known; there = law.there; bare = g.bare }

  function_made : (at : Place) (o : Outermost) (parameters : TypedParameters) (base u : TypeId) (s : State) (n : ℕ) (t : TypeId) (m : ℕ) → IsKnown s → IsExtended s.table T
      → IsType s.table base → MakesFunction T o parameters base u → back T n t ≡ u → AreUses (types_of (made_in T (n + function_steps o) t)) (length s.table) m
      → (k : ℕ) × IsMakeGiven (function_makes at o parameters base s) u s k × AreUses (types_of (made_in T n t)) k m
  function_made at Written parameters base u s n t m k first there h e uses =
      let us = head_use u (made_in T n t) (made_in T (n + 1) t) (length s.table) m (one-more T n t u e) uses in
      (us.0, plain_function at Written parameters base u s us.0 k first there (λ f q. (function-alone at f 0 q).0) h h us.1, us.2)
  function_made at (Counts c) parameters base u s n t m k first there h e uses =
      let us = head_use u (made_in T n t) (made_in T (n + 1) t) (length s.table) m (one-more T n t u e) uses in
      (us.0, plain_function at (Counts c) parameters base u s us.0 k first there (λ f q. (function-alone at f c q).1) h h us.1, us.2)
  function_made at (Points p) parameters base u s n t m k first there h e uses =
      let f : TypeId = h.0 in
      let two : n + 2 ≡ (n + 1) + 1 = omega arith in
      let before = one-back T n t u h.0 e (derived-is T u (Pointer p h.0) h.2) in
      let vs =
      head_use h.0 (made_in T (n + 1) t) (made_in T (n + 2) t) (length s.table) m (ap (λ (i : ℕ). made_in T i t) two ∙ one-more T (n + 1) t h.0 before) uses in
      let us = head_use u (made_in T n t) (made_in T (n + 1) t) vs.0 m (one-more T n t u e) vs.2 in
      let g = function-given T basic at (taken_types parameters) base h.0 s vs.0 k first h.1.shape (few h.0 (taken_types parameters) base h.1.shape) vs.1 in
      let alone = function-makes-is at Written parameters base h.0 s g.after (Gives h.0 g.after) (function_test at (Points p) parameters base u s k first there h) g.gives (function-alone at h.0 0 g.after).0 in
      let law = function-made at Written parameters base h.0 s g.after k alone in
      let d = pointed at p h.0 u g.after us.0 law.goes.goes.known g.first h.2 (subst (λ (i : ℕ). IsUse u i us.0) (sym g.count) us.1) in (
        us.0,
        record {
          after = d.after;
          gives = function-makes-is at (Points p) parameters base h.0 s g.after (Gives u d.after) (function_test at (Points p) parameters base u s k first there h) g.gives
              (function-pointed at p h.0 g.after ∙ d.gives);
          first = d.first;
          types = d.types;
          seen = d.seen ∙ g.seen;
          known = d.known;
          there = d.there;
          bare = none-both s.table g.after.table d.after.table g.bare d.bare;
        },
        us.2,
      )

  -- The parts, the last first

  scopes_still : (made : Outcome TypeId) (u : TypeId) (s : State) (k : ℕ) (g : IsMakeGiven made u s k) → g.after.seen.scopes ≡ s.seen.scopes
  scopes_still made u s k g = ap (λ (v : Seen). v.scopes) g.seen

  pub parts-given : (at : Place) (o : Outermost) (parts : TypedParts) (base t : TypeId) (s : State) (m : ℕ) → IsKnown s → IsExtended s.table T → IsType s.table base
      → PartsMake T s.seen.scopes parts o base t → AreUses (types_of (made_in T (parts_steps o parts) t)) (length s.table) m → IsMakeGiven (parts_make at o parts base s) t s m
  unfolding parts_make last_makes
  parts-given at o typed.NoPart base t s m k first there h uses = nothing_made s base t m k first there h uses
  parts-given at o (typed.AndArray all bracket words) base t s m k first there h uses =
      let us = head_use h.0 (made_in T (parts_steps o all) t) (made_in T (parts_steps o all + 1) t) (length s.table) m
      (one-more T (parts_steps o all) t h.0 (parts-back T s.seen.scopes all o h.0 t h.2)) uses in
      let g = array_given at (nearest all o) bracket words None base h.0 s us.0 k first there h.1 us.1 in
      then_made (array_makes at (nearest all o) bracket words None base) (parts_make at o all) h.0 t s us.0 m g
      (parts-given at o all h.0 t g.after m g.known g.first g.there
      (subst (λ (sc : Scopes). PartsMake T sc all o h.0 t) (sym (scopes_still (array_makes at (nearest all o) bracket words None base s) h.0 s us.0 g)) h.2)
      (use_at (types_of (made_in T (parts_steps o all) t)) h.0 s us.0 m (array_makes at (nearest all o) bracket words None base s) g us.2))
  parts-given at o (typed.AndSizedArray all bracket words e size) base t s m k first there h uses =
      let us = head_use h.0 (made_in T (parts_steps o all) t) (made_in T (parts_steps o all + 1) t) (length s.table) m
      (one-more T (parts_steps o all) t h.0 (parts-back T s.seen.scopes all o h.0 t h.2)) uses in
      let g = array_given at (nearest all o) bracket words (Some size) base h.0 s us.0 k first there h.1 us.1 in
      then_made (array_makes at (nearest all o) bracket words (Some size) base) (parts_make at o all) h.0 t s us.0 m g
      (parts-given at o all h.0 t g.after m g.known g.first g.there
      (subst (λ (sc : Scopes). PartsMake T sc all o h.0 t) (sym (scopes_still (array_makes at (nearest all o) bracket words (Some size) base s) h.0 s us.0 g)) h.2)
      (use_at (types_of (made_in T (parts_steps o all) t)) h.0 s us.0 m (array_makes at (nearest all o) bracket words (Some size) base s) g us.2))
  parts-given at o (typed.AndFunction all paren parameters) base t s m k first there h uses =
      let us = function_made at (nearest all o) parameters base h.0 s (parts_steps o all) t m k first there h.1 (parts-back T s.seen.scopes all o h.0 t h.2) uses in
      let g = us.1 in
      then_made (function_makes at (nearest all o) parameters base) (parts_make at o all) h.0 t s us.0 m us.1
      (parts-given at o all h.0 t g.after m g.known g.first g.there
      (subst (λ (sc : Scopes). PartsMake T sc all o h.0 t) (sym (scopes_still (function_makes at (nearest all o) parameters base s) h.0 s us.0 us.1)) h.2)
      (use_at (types_of (made_in T (parts_steps o all) t)) h.0 s us.0 m (function_makes at (nearest all o) parameters base s) us.1 us.2))

  -- The whole

  types_both : (xs ys : List TypeId) (all : List TypeId) (n m : ℕ) → all ≡ xs ++ ys → AreUses (types_of all) n m → (k : ℕ) × AreUses (types_of xs) n k × AreUses (types_of ys) k m
  types_both xs ys all n m q h =
      uses-first (types_of xs) (types_of ys) n m (subst (λ (us : List Use). AreUses us n m) (ap types_of q ∙ map-append OfType xs ys) h)

  mutual
    unfolding form_makes core_makes

    pub form-given : (at : Place) (o : Outermost) (form : TypedForm) (base t : TypeId) (s : State) (m : ℕ) → IsKnown s → IsExtended s.table T → IsType s.table base
        → FormMakes T s.seen.scopes form o base t → AreUses (types_of (made_in T (form_steps o form) t)) (length s.table) m → IsMakeGiven (form_makes at o form base s) t s m
    form-given at o (typed.Form stars core parts) base t s m k first there h uses =
        let sc : Scopes = s.seen.scopes in
        let p : ℕ = parts_steps (outside core o) parts in
        let all =
        made-more T (core_steps o core) (parts_steps (outside core o) parts + length stars) t
        ∙ ap (λ (v : TypeId). made_in T (parts_steps (outside core o) parts + length stars) v ++ made_in T (core_steps o core) t) (core-back T s.seen.scopes core o h.1 t h.4) in
        let half =
        made-more T (parts_steps (outside core o) parts) (length stars) h.1
        ∙ ap (λ (v : TypeId). made_in T (length stars) v ++ made_in T (parts_steps (outside core o) parts) h.1) (parts-back T s.seen.scopes parts (outside core o) h.0 h.1 h.3) in
        let us =
        types_both (made_in T (parts_steps (outside core o) parts + length stars) h.1) (made_in T (core_steps o core) t) (made_in T (form_steps o (typed.Form stars core parts)) t) (length s.table) m all uses in
        let vs =
        types_both (made_in T (length stars) h.0) (made_in T (parts_steps (outside core o) parts) h.1) (made_in T (parts_steps (outside core o) parts + length stars) h.1) (length s.table) us.0 half us.1 in
        let g = stars-given at stars base h.0 s vs.0 k first there h.2 vs.1 in
        let same_g = scopes_still (stars_make at stars base s) h.0 s vs.0 g in
        let d =
        parts-given at (outside core o) parts h.0 h.1 g.after us.0 g.known g.first g.there
        (subst (λ (c : Scopes). PartsMake T c parts (outside core o) h.0 h.1) (sym same_g) h.3)
        (use_at (types_of (made_in T (parts_steps (outside core o) parts) h.1)) h.0 s vs.0 us.0 (stars_make at stars base s) g vs.2) in
        let same_d = scopes_still (parts_make at (outside core o) parts h.0 g.after) h.1 g.after us.0 d in
        then_made (stars_make at stars base) (λ u. parts_make at (outside core o) parts u >>= (λ v. core_makes at o core v)) h.0 t s vs.0 m g
        (then_made (parts_make at (outside core o) parts h.0) (λ v. core_makes at o core v) h.1 t g.after us.0 m d
        (core_given at o core h.1 t d.after m d.known d.first d.there (subst (λ (c : Scopes). CoreMakes T c core o h.1 t) (sym (same_d ∙ same_g)) h.4)
        (use_at (types_of (made_in T (core_steps o core) t)) h.1 g.after us.0 m (parts_make at (outside core o) parts h.0 g.after) d us.2)))

    core_given : (at : Place) (o : Outermost) (core : TypedCore) (base t : TypeId) (s : State) (m : ℕ) → IsKnown s → IsExtended s.table T → IsType s.table base
        → CoreMakes T s.seen.scopes core o base t → AreUses (types_of (made_in T (core_steps o core) t)) (length s.table) m → IsMakeGiven (core_makes at o core base s) t s m
    core_given at o (typed.Names name home) base t s m k first there h uses = nothing_made s base t m k first there h uses
    core_given at o typed.Unnamed base t s m k first there h uses = nothing_made s base t m k first there h uses
    core_given at o (typed.Nested paren form) base t s m k first there h uses = form-given at o form base t s m k first there h uses

  pub declared-given : (at : Place) (o : Outermost) (d : TypedDeclared) (base t : TypeId) (s : State) (m : ℕ) → IsKnown s → IsExtended s.table T → IsType s.table base
      → DeclaredMakes T s.seen.scopes d o base t → AreUses (types_of (made_in T (declared_steps o d) t)) (length s.table) m → IsMakeGiven (declared_makes at o d base s) t s m
  unfolding declared_makes
  declared-given at o typed.NotDeclared base t s m k first there h uses = nothing_made s base t m k first there h uses
  declared-given at o (typed.DeclaredBy form) base t s m k first there h uses = form-given at o form base t s m k first there h uses

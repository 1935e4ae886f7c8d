-- The types that declarators make, each of the one before: stars first, then parts, then what stands in the parentheses round the name.
use Rattle.std.proofs.Common.{◌≡◌, ℕ, suc, ◌+◌, Bool, true, false, List, [], ◌∷◌, length, Option, Some, None, refl, ap, sym, subst, ◌∙◌, nat_lt, if◌then◌else◌, arith}
use Rattle.std.proofs.lemmas.List.{map-append}
use Rattle.cc_base.specs.declared.place.Place.{Place}
use Rattle.cc_base.specs.declared.number.NodeId.{NodeId}
use Rattle.cc_base.specs.declared.number.TypeId.{TypeId}
use Rattle.cc_base.specs.declared.fault.Fault.TheVariants.{TooLarge}
use Rattle.cc_base.specs.declared.fault.Limit.TheVariants.{Types, Params}
use Rattle.c_types.specs.declared.shape.TypeShape.{TypeShape}
use Rattle.c_types.specs.declared.shape.TypeShape.TheVariants.{Void, Integer, Pointer, Array, Function, Struct, Union}
use Rattle.c_types.specs.Table.{Table, shape_at}
use Rattle.c_tree.specs.declared.leaf.Word.{Word}
use Rattle.c_tree.specs.declared.typed_word.Adjusted.{Adjusted}
use Rattle.c_tree.specs.declared.typed_word.TypedStar.{TypedStar}
use Rattle.c_tree.specs.TypedTree as typed
use Rattle.c_tree.specs.TypedTree.{TypedForm, TypedCore, TypedParts, TypedParameters, TypedDeclared}
use Rattle.c_typing.specs.Declarators.{Outermost, Written, Counts, Points, taken_types, nearest, outside, is_derived_declared}
use Rattle.c_typing.specs.Declaring.{stars_make, is_element, array_type, array_of, array_makes, counting_parameters, are_types, function_type, function_as, function_makes, last_makes, parts_make, form_makes, core_makes, declared_makes, adjusted_shape, adjusted_makes, parameter_makes}
use Rattle.c_typing.specs.Judging.{State, Gives, Stops, next, ◌>>=◌, pure, stop, type_with, pointer_type}
use Rattle.c_typing.specs.Tests
use Rattle.c_typing.specs.Tests.{first_broken, has_some}
use Rattle.c_typing_laws.proofs.Outcomes.{bind-gives, unless-gives, never-gives}
use Rattle.c_typing_laws.proofs.ValuesTaken.{given-same}
use Rattle.c_type_order.specs.Uses.{IsLater, IsUsed}
use Rattle.c_type_order.specs.TypesUsed.{Use, OfType, types_of, AreUses, derived_from, made_in, function_steps, parts_steps, form_steps, core_steps, declared_steps, adjusted_steps, parameter_steps}
use Rattle.c_type_order.proofs.Uses.{later-self, later-on, uses_append, one_use, IsMade, made-used, type_with-made, pointer-made}

-- t is made of base in n steps: what base was made in comes before
pub record IsChain (n : ℕ) (base t : TypeId) (S R : Table) : Type 0 where
  pub uses : (U : Table) → IsLater R U → (k a : ℕ) → AreUses (types_of (made_in U k base)) a (length S) → AreUses (types_of (made_in U (k + n) t)) a (length R)
  pub later : IsLater S R

pub chain-none : (base : TypeId) (S : Table) → IsChain 0 base base S S
chain-none base S = record {
  uses = λ U l k a h. let whole : k ≡ k + 0 = omega arith in subst (λ (m : ℕ). AreUses (types_of (made_in U m base)) a (length S)) whole h;
  later = later-self S;
}

chain-step : (x : TypeShape) (base t : TypeId) (S R : Table) → derived_from x t ≡ base → IsMade x t S R → IsChain 1 base t S R
chain-step x base t S R d m = record {
  uses = λ U l k a h.
      let of : derived_from (shape_at U t) t ≡ base = ap (λ (y : TypeShape). derived_from y t) (l.shapes t m.shape.0 ∙ m.shape.1) ∙ d in
      let whole : suc k ≡ k + 1 = omega arith in
      subst (λ (m : ℕ). AreUses (types_of (made_in U m t)) a (length R)) whole
      (subst (λ (us : List Use). AreUses us a (length R)) (sym (map-append OfType (made_in U k (derived_from (shape_at U t) t)) (t ∷ [])))
      (uses_append (types_of (made_in U k (derived_from (shape_at U t) t))) (OfType t ∷ []) a (length S) (length R)
      (subst (λ (b : TypeId). AreUses (types_of (made_in U k b)) a (length S)) (sym of) h) (one_use t (length S) (length R) m.taken)));
  later = m.later;
}

chain-then : (n p q : ℕ) (base u t : TypeId) (S M R : Table) → q ≡ n + p → IsChain n base u S M → IsChain p u t M R → IsChain q base t S R
chain-then n p q base u t S M R e c d = record {
  uses = λ U l k a h.
      let whole : k + n + p ≡ k + q = omega (arith, e) in
      subst (λ (m : ℕ). AreUses (types_of (made_in U m t)) a (length R)) whole (d.uses U l (k + n) a (c.uses U (later-on M R U d.later l) k a h));
  later = later-on S M R c.later d.later;
}

pub chain-used : (n : ℕ) (base t : TypeId) (S R : Table) → IsChain n base t S R → IsUsed (λ U. types_of (made_in U n t)) S R
chain-used n base t S R c = record {
  uses = λ U l.
      let whole : 0 + n ≡ n = omega arith in
      subst (λ (m : ℕ). AreUses (types_of (made_in U m t)) (length S) (length R)) whole (c.uses U l 0 (length S) refl);
  later = c.later;
}

pointer-chain : (at : Place) (n : NodeId) (base t : TypeId) (s r : State) → pointer_type at n base s ≡ Gives t r → IsChain 1 base t s.table r.table
pointer-chain at n base t s r h = chain-step (Pointer n base) base t s.table r.table refl (pointer-made at n base t s r h)

stars-chain : (at : Place) (stars : List TypedStar) (base t : TypeId) (s r : State) → stars_make at stars base s ≡ Gives t r → IsChain (length stars) base t s.table r.table
unfolding stars_make
stars-chain at [] base t s r h = given-same (λ (v : TypeId) (q : State). IsChain 0 base v s.table q.table) base t s r h (chain-none base s.table)
stars-chain at (star ∷ stars) base t s r h =
    let one = bind-gives (pointer_type at star.node base s) (λ u. stars_make at stars u) t r h in
    chain-then 1 (length stars) (suc (length stars)) base one.0 t s.table one.1.table r.table (omega arith)
    (pointer-chain at star.node base one.0 s one.1 one.2) (stars-chain at stars one.0 t one.1 r one.3)

-- Arrays

array_type-chain : (at : Place) (element : TypeId) (count : ℕ) (t : TypeId) (s r : State) → array_type at element count s ≡ Gives t r → IsChain 1 element t s.table r.table
unfolding array_type
array_type-chain at element count t s r h = by (is_element s.table element count) h
  where
    by : (b : Bool) → (if b then type_with at (Array element count) s else Stops (TooLarge at Types) s) ≡ Gives t r → IsChain 1 element t s.table r.table
    by true g = chain-step (Array element count) element t s.table r.table refl (type_with-made at (Array element count) t s r g)
    by false g = never-gives t (TooLarge at Types) s r g

array-chain : (at : Place) (o : Outermost) (bracket : Place) (words : List Word) (count : Option ℕ) (element t : TypeId) (s r : State)
    → array_makes at o bracket words count element s ≡ Gives t r → IsChain 1 element t s.table r.table
unfolding array_makes array_of
array-chain at o bracket words count element t s r h =
    let go = unless-gives (first_broken (Tests.array_tests s.table s.seen.scopes o (has_some count) bracket words element at)) (array_of at o count element) s t r h in
    by o count go.1
  where
    by : (u : Outermost) (c : Option ℕ) → array_of at u c element s ≡ Gives t r → IsChain 1 element t s.table r.table
    by (Points n) c g = pointer-chain at n element t s r g
    by Written (Some c) g = array_type-chain at element c t s r g
    by (Counts given) (Some c) g = array_type-chain at element c t s r g
    by (Counts given) None g = array_type-chain at element given t s r g
    by Written None g = never-gives t (TooLarge at Types) s r g

-- Functions

function_type-chain : (at : Place) (parameters : List TypeId) (result t : TypeId) (s r : State) → function_type at parameters result s ≡ Gives t r → IsChain 1 result t s.table r.table
unfolding function_type counting_parameters
function_type-chain at parameters result t s r h = by (are_types s.table (result ∷ parameters)) h
  where
    counted : (b : Bool) (f : TypeId) (m : State) → IsChain 1 result f s.table m.table → (if b then stop (TooLarge at Params) else pure f) m ≡ Gives t r → IsChain 1 result t s.table r.table
    counted true f m c g = never-gives t (TooLarge at Params) m r g
    counted false f m c g = given-same (λ (v : TypeId) (q : State). IsChain 1 result v s.table q.table) f t m r g c

    by : (b : Bool) → (if b then (type_with at (Function parameters result) >>= counting_parameters at parameters) s else Stops (TooLarge at Types) s) ≡ Gives t r
        → IsChain 1 result t s.table r.table
    by true g =
        let one = bind-gives (type_with at (Function parameters result) s) (counting_parameters at parameters) t r g in
        counted (nat_lt 127 (length parameters)) one.0 one.1
        (chain-step (Function parameters result) result one.0 s.table one.1.table refl (type_with-made at (Function parameters result) one.0 s one.1 one.2)) one.3
    by false g = never-gives t (TooLarge at Types) s r g

function_as-chain : (at : Place) (o : Outermost) (base f t : TypeId) (S : Table) (s r : State) → IsChain 1 base f S s.table → function_as at o f s ≡ Gives t r
    → IsChain (function_steps o) base t S r.table
unfolding function_as
function_as-chain at (Points k) base f t S s r c h = chain-then 1 1 2 base f t S s.table r.table refl c (pointer-chain at k f t s r h)
function_as-chain at Written base f t S s r c h = given-same (λ (v : TypeId) (q : State). IsChain 1 base v S q.table) f t s r h c
function_as-chain at (Counts k) base f t S s r c h = given-same (λ (v : TypeId) (q : State). IsChain 1 base v S q.table) f t s r h c

function-chain : (at : Place) (o : Outermost) (parameters : TypedParameters) (result t : TypeId) (s r : State) → function_makes at o parameters result s ≡ Gives t r
    → IsChain (function_steps o) result t s.table r.table
unfolding function_makes
function-chain at o parameters result t s r h =
    let go = unless-gives (first_broken (Tests.function_tests s.table result at))
    (λ (q : State). next (function_type at (taken_types parameters) result q) (λ f. function_as at o f)) s t r h in
    let one = bind-gives (function_type at (taken_types parameters) result s) (λ f. function_as at o f) t r go.1 in
    function_as-chain at o result one.0 t s.table one.1 r (function_type-chain at (taken_types parameters) result one.0 s one.1 one.2) one.3

-- Parts and forms

parts-chain : (at : Place) (o : Outermost) (parts : TypedParts) (base t : TypeId) (s r : State) → parts_make at o parts base s ≡ Gives t r
    → IsChain (parts_steps o parts) base t s.table r.table
unfolding parts_make last_makes
parts-chain at o typed.NoPart base t s r h = given-same (λ (v : TypeId) (q : State). IsChain 0 base v s.table q.table) base t s r h (chain-none base s.table)
parts-chain at o (typed.AndArray all bracket words) base t s r h =
    let one = bind-gives (array_makes at (nearest all o) bracket words None base s) (parts_make at o all) t r h in
    chain-then 1 (parts_steps o all) (parts_steps o all + 1) base one.0 t s.table one.1.table r.table (omega arith)
    (array-chain at (nearest all o) bracket words None base one.0 s one.1 one.2) (parts-chain at o all one.0 t one.1 r one.3)
parts-chain at o (typed.AndSizedArray all bracket words e size) base t s r h =
    let one = bind-gives (array_makes at (nearest all o) bracket words (Some size) base s) (parts_make at o all) t r h in
    chain-then 1 (parts_steps o all) (parts_steps o all + 1) base one.0 t s.table one.1.table r.table (omega arith)
    (array-chain at (nearest all o) bracket words (Some size) base one.0 s one.1 one.2) (parts-chain at o all one.0 t one.1 r one.3)
parts-chain at o (typed.AndFunction all paren parameters) base t s r h =
    let one = bind-gives (function_makes at (nearest all o) parameters base s) (parts_make at o all) t r h in
    chain-then (function_steps (nearest all o)) (parts_steps o all) (parts_steps o all + function_steps (nearest all o)) base one.0 t s.table one.1.table r.table (omega arith)
    (function-chain at (nearest all o) parameters base one.0 s one.1 one.2) (parts-chain at o all one.0 t one.1 r one.3)

mutual
  unfolding form_makes core_makes

  pub form-chain : (at : Place) (o : Outermost) (form : TypedForm) (base t : TypeId) (s r : State) → form_makes at o form base s ≡ Gives t r
      → IsChain (form_steps o form) base t s.table r.table
  form-chain at o (typed.Form stars core parts) base t s r h =
      let one = bind-gives (stars_make at stars base s) (λ u. parts_make at (outside core o) parts u >>= (λ v. core_makes at o core v)) t r h in
      let two = bind-gives (parts_make at (outside core o) parts one.0 one.1) (λ v. core_makes at o core v) t r one.3 in
      chain-then (parts_steps (outside core o) parts + length stars) (core_steps o core) (core_steps o core + (parts_steps (outside core o) parts + length stars))
      base two.0 t s.table two.1.table r.table (omega arith)
      (chain-then (length stars) (parts_steps (outside core o) parts) (parts_steps (outside core o) parts + length stars) base one.0 two.0 s.table one.1.table two.1.table (omega arith)
      (stars-chain at stars base one.0 s one.1 one.2) (parts-chain at (outside core o) parts one.0 two.0 one.1 two.1 two.2))
      (core-chain at o core two.0 t two.1 r two.3)

  core-chain : (at : Place) (o : Outermost) (core : TypedCore) (base t : TypeId) (s r : State) → core_makes at o core base s ≡ Gives t r
      → IsChain (core_steps o core) base t s.table r.table
  core-chain at o (typed.Names name home) base t s r h = given-same (λ (v : TypeId) (q : State). IsChain 0 base v s.table q.table) base t s r h (chain-none base s.table)
  core-chain at o typed.Unnamed base t s r h = given-same (λ (v : TypeId) (q : State). IsChain 0 base v s.table q.table) base t s r h (chain-none base s.table)
  core-chain at o (typed.Nested paren form) base t s r h = form-chain at o form base t s r h

-- where a declarator may be missing
pub declared-chain : (at : Place) (o : Outermost) (d : TypedDeclared) (base t : TypeId) (s r : State) → declared_makes at o d base s ≡ Gives t r
    → IsChain (declared_steps o d) base t s.table r.table
unfolding declared_makes
declared-chain at o typed.NotDeclared base t s r h = given-same (λ (v : TypeId) (q : State). IsChain 0 base v s.table q.table) base t s r h (chain-none base s.table)
declared-chain at o (typed.DeclaredBy form) base t s r h = form-chain at o form base t s r h

-- Parameters

shape-used : (at : Place) (k : NodeId) (base : TypeId) (x : TypeShape) (t : TypeId) (s r : State) → adjusted_shape at k base x s ≡ Gives t r → IsUsed (λ U. OfType t ∷ []) s.table r.table
unfolding adjusted_shape
shape-used at k base (Array element count) t s r h = made-used (Pointer k element) t s.table r.table (pointer-made at k element t s r h)
shape-used at k base (Function parameters result) t s r h = made-used (Pointer k base) t s.table r.table (pointer-made at k base t s r h)
shape-used at k base Void t s r h = never-gives t (TooLarge at Types) s r h
shape-used at k base (Integer bytes signed) t s r h = never-gives t (TooLarge at Types) s r h
shape-used at k base (Pointer m u) t s r h = never-gives t (TooLarge at Types) s r h
shape-used at k base (Struct m) t s r h = never-gives t (TooLarge at Types) s r h
shape-used at k base (Union m) t s r h = never-gives t (TooLarge at Types) s r h

adjusted-used : (at : Place) (k : NodeId) (d : TypedDeclared) (base : TypeId) (b : Bool) (t : TypeId) (s r : State) → adjusted_makes at k d base b s ≡ Gives t r
    → IsUsed (λ U. types_of (made_in U (adjusted_steps b (Points k) d) t)) s.table r.table
unfolding adjusted_makes
adjusted-used at k d base true t s r h = chain-used (declared_steps (Points k) d) base t s.table r.table (declared-chain at (Points k) d base t s r h)
adjusted-used at k d base false t s r h = shape-used at k base (shape_at s.table base) t s r h

pub parameter_makes-used : (at : Place) (a : Option Adjusted) (d : TypedDeclared) (base t : TypeId) (s r : State) → parameter_makes at a d base s ≡ Gives t r
    → IsUsed (λ U. types_of (made_in U (parameter_steps a d) t)) s.table r.table
unfolding parameter_makes
parameter_makes-used at None d base t s r h = chain-used (declared_steps Written d) base t s.table r.table (declared-chain at Written d base t s r h)
parameter_makes-used at (Some adjusted) d base t s r h = adjusted-used at adjusted.node d base (is_derived_declared d) t s r h

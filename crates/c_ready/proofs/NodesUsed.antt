-- Each pointer type that is used has a node that is made there: a node is that of no more pointer types than it is made.
use Rattle.std.proofs.Common.{◌≡◌, ℕ, suc, ◌+◌, Bool, true, false, not, List, [], ◌∷◌, ◌++◌, length, Option, Some, None, refl, ap, subst, ◌∙◌, arith, ◌≤◌, if◌then◌else◌, ◌||◌, sym, true≢false}
use Rattle.std.proofs.lemmas.Option.{none-some}
use Rattle.std.proofs.lemmas.List.{map-append}
use Rattle.cc_base.specs.declared.number.NodeId.{NodeId}
use Rattle.cc_base.specs.declared.number.TypeId.{TypeId}
use Rattle.c_types.specs.declared.shape.TypeShape.{TypeShape}
use Rattle.c_types.specs.declared.shape.TypeShape.TheVariants.{Void, Integer, Pointer, Array, Function, Struct, Union}
use Rattle.c_types.specs.Table.{Table, HasShape, shape_at, is_aggregate_shape}
use Rattle.c_tree.specs.TypedTree as typed
use Rattle.c_tree.specs.TypedTree.{TypedExpr, TypedPlace, TypedArguments, TypedTypeName, TypedSpecifiers, TypedSpecifierList, TypedSpecifier, TypedMembers, TypedMemberDeclarators, TypedEnumerators, TypedForm, TypedCore, TypedParts, TypedParameters, TypedDeclared}
use Rattle.c_tree.specs.TypedParts as made
use Rattle.c_tree.specs.TypedParts.{place_type, specified_type, name_of, Made, Literal, Address, Copy, made_by_adjusted, made_by_stars, is_void_list}
use Rattle.c_ready.proofs.PointersMade.{made_by, made_by_place, made_by_arguments, made_by_type_name, made_by_specifiers, made_by_specifier_list, made_by_specifier, made_by_members, made_by_member_declarators, made_by_enumerators, made_by_form, made_by_core, made_by_parts, made_by_parameters, made_by_declared}
use Rattle.c_tree.specs.declared.typed_word.TypedStar.{TypedStar}
use Rattle.c_tree.specs.declared.leaf.Word.{Word}
use Rattle.c_tree.specs.declared.typed_word.Adjusted.{Adjusted}
use Rattle.c_tree.specs.declared.typed_word.Runtime.{Runtime}
use Rattle.c_typing.specs.Scopes.{Scopes, entering}
use Rattle.c_typing.specs.Declarators.{taken_types, Outermost, Written, Counts, Points, StarsMake, MakesArray, MakesFunction, nearest, PartsMake, outside, FormMakes, CoreMakes, DeclaredMakes, ParameterMakes, MakesAdjusted, AdjustedShape, is_derived_declared, is_derived_core, is_derived, is_no_part}
use Rattle.c_typing.specs.Rules.{number_of_shape, runtime_named}
use Rattle.c_typing.specs.Typing.{IsTyped, IsPlace, AreTyped, IsTypeName, AreSpecifiers, AreListed, IsSpecifier, AreMembers, AreMemberDeclarators, AreEnumerators, IsForm, IsCore, AreParts, AreParameters, IsDeclared, enumerating}
use Rattle.c_type_order.specs.TypesUsed.{Use, OfType, OfSize, OfMember, types_of, derived_from, made_in, function_steps, parts_steps, form_steps, core_steps, declared_steps, adjusted_steps, parameter_steps, used_by, used_by_place, used_by_arguments, used_by_type_name, used_by_specifiers, used_by_specifier_list, used_by_specifier, used_by_members, used_by_member_declarators, used_by_enumerators, used_by_declarator, used_by_form, used_by_core, used_by_parts, used_by_parameters, used_by_declared}
use Rattle.c_ready.specs.Ready.{Stage, unread, IsReady, IsReadyPlace, AreReady, IsReadyTypeName, AreReadySpecifiers, AreReadyListed, IsReadySpecifier, AreReadyMembers, AreReadyMemberDeclarators, AreReadyEnumerators, IsReadyForm, IsReadyCore, AreReadyParts, AreReadyParameters, IsReadyDeclared}
use Rattle.c_ready.proofs.Counting.{one, count}

-- how often a pointer type of the node is used
abbrev pub of_shape : ℕ → TypeShape → ℕ
of_shape n (Pointer m to) = one n m
of_shape n x = 0

abbrev pub uses : Table → ℕ → List Use → ℕ
uses T n [] = 0
uses T n (OfType t ∷ us) = of_shape n (shape_at T t) + uses T n us
uses T n (OfSize size ∷ us) = uses T n us
uses T n (OfMember name ∷ us) = uses T n us

-- how often it is made
abbrev pub pointer_made : Made → List NodeId
pointer_made (made.Written place n) = n ∷ []
pointer_made (Address n) = n ∷ []
pointer_made m = []

abbrev pub makes : ℕ → List Made → ℕ
makes n [] = 0
makes n (m ∷ ms) = count n (pointer_made m) + makes n ms

module _ (T : Table) (n : ℕ) where
  pub uses-append : (xs ys : List Use) → uses T n (xs ++ ys) ≡ uses T n xs + uses T n ys
  uses-append [] ys = omega arith
  uses-append (OfType t ∷ us) ys = let r = uses-append us ys in omega (arith, r)
  uses-append (OfSize size ∷ us) ys = uses-append us ys
  uses-append (OfMember name ∷ us) ys = uses-append us ys

  pub makes-append : (xs ys : List Made) → makes n (xs ++ ys) ≡ makes n xs + makes n ys
  makes-append [] ys = omega arith
  makes-append (m ∷ ms) ys = let r = makes-append ms ys in omega (arith, r)

  pub both : (xs ys : List Use) (ks bs : List Made) → uses T n xs ≤ makes n ks → uses T n ys ≤ makes n bs → uses T n (xs ++ ys) ≤ makes n (ks ++ bs)
  both xs ys ks bs p q = let r = uses-append xs ys in let s = makes-append ks bs in omega (arith, p, q, r, s)

  pub wide : (xs : List Use) (ks bs : List Made) → uses T n xs ≤ makes n ks → uses T n xs ≤ makes n (ks ++ bs)
  wide xs ks bs p = let s = makes-append ks bs in omega (arith, p, s)

  pub with-node : (xs : List Use) (ks : List Made) (t : TypeId) (m : NodeId) (to : TypeId) → HasShape T t (Pointer m to) → uses T n xs ≤ makes n ks
      → uses T n (xs ++ OfType t ∷ []) ≤ makes n (ks ++ Address m ∷ [])
  with-node xs ks t m to h p =
      let r = uses-append xs (OfType t ∷ []) in let s = makes-append ks (Address m ∷ []) in
      let e : of_shape n (shape_at T t) ≡ one n m = ap (of_shape n) h.1 in omega (arith, p, r, s, e)

  -- a type that is no pointer
  pub no-pointer : (t : TypeId) (x : TypeShape) → shape_at T t ≡ x → of_shape n x ≡ 0 → (ks : List Made) → uses T n (OfType t ∷ []) ≤ makes n ks
  no-pointer t x e z ks = let r : of_shape n (shape_at T t) ≡ of_shape n x = ap (of_shape n) e in omega (arith, r, z)

  -- Declarators: the nodes of stars
  pub stars-of : List TypedStar → ℕ
  stars-of [] = 0
  stars-of (star ∷ stars) = one n star.node + stars-of stars

  abbrev mutual
    pub form-stars : TypedForm → ℕ
    form-stars (typed.Form stars core parts) = stars-of stars + core-stars core

    pub core-stars : TypedCore → ℕ
    core-stars (typed.Names name home) = 0
    core-stars typed.Unnamed = 0
    core-stars (typed.Nested at form) = form-stars form

  abbrev pub point-of : Outermost → ℕ
  point-of (Points m) = one n m
  point-of o = 0

  abbrev pub madein : ℕ → TypeId → ℕ
  madein k t = uses T n (types_of (made_in T k t))

  made-suc : (k : ℕ) (t : TypeId) → madein (suc k) t ≡ madein k (derived_from (shape_at T t) t) + of_shape n (shape_at T t)
  made-suc k t = let r = uses-append (types_of (made_in T k (derived_from (shape_at T t) t))) (OfType t ∷ []) in
      let s = map-append OfType (made_in T k (derived_from (shape_at T t) t)) (t ∷ []) in
      ap (λ (us : List Use). uses T n us) s ∙ omega (arith, r)

  made-shape : (k : ℕ) (t : TypeId) (x : TypeShape) → shape_at T t ≡ x → madein (suc k) t ≡ madein k (derived_from x t) + of_shape n x
  made-shape k t x e = subst (λ (y : TypeShape). madein (suc k) t ≡ madein k (derived_from y t) + of_shape n y) e (made-suc k t)

  pub steps-move : (a b : ℕ) (t : TypeId) → a ≡ b → madein a t ≡ madein b t
  steps-move a b t h = ap (λ (k : ℕ). madein k t) h

  zero-left : (r : ℕ) → 0 + r ≡ r
  zero-left r = omega arith

  stars-made : (stars : List TypedStar) (base t : TypeId) (r : ℕ) → StarsMake T stars base t
      → madein (length stars + r) t ≡ madein r base + stars-of stars
  unfolding stars-of
  stars-made [] base t r h = ap (λ (x : TypeId). madein (0 + r) x) h ∙ (ap (λ (k : ℕ). madein k base) (zero-left r) ∙ omega arith)
  stars-made (star ∷ stars) base t r h =
      let next = stars-made stars h.0 t (suc r) h.2 in
      let own = made-shape r h.0 (Pointer star.node base) h.1.1 in
      let move = steps-move (length (star ∷ stars) + r) (length stars + suc r) t (omega arith) in
      omega (arith, next, own, move)

  array-made : (s : Scopes) (o : Outermost) (words : List Word) (size : Option ℕ) (base t : TypeId) (r : ℕ) → MakesArray T s o words size base t
      → madein (suc r) t ≤ madein r base + point-of o
  array-made s (Points m) words size base t r h = let e = made-shape r t (Pointer m base) h.1.1 in omega (arith, e)
  array-made s Written words (Some size) base t r h = let e = made-shape r t (Array base size) h.1.1.1 in omega (arith, e)
  array-made s (Counts c) words (Some size) base t r h = let e = made-shape r t (Array base size) h.1.1.1 in omega (arith, e)
  array-made s (Counts c) words None base t r h = let e = made-shape r t (Array base c) h.1.1.1 in omega (arith, e)
  array-made s Written words None base t r h = absurd h

  function-made : (o : Outermost) (ps : TypedParameters) (base t : TypeId) (r : ℕ) → MakesFunction T o ps base t
      → madein (function_steps o + r) t ≤ madein r base + point-of o
  function-made (Points m) ps base t r h =
      let e = made-shape (suc r) t (Pointer m h.0) h.2.1 in
      let g = made-shape r h.0 (Function (taken_types ps) base) h.1.shape.1 in
      let move = steps-move (2 + r) (suc (suc r)) t (omega arith) in
      omega (arith, e, g, move)
  function-made Written ps base t r h =
      let e = made-shape r t (Function (taken_types ps) base) h.shape.1 in
      let move = steps-move (1 + r) (suc r) t (omega arith) in omega (arith, e, move)
  function-made (Counts c) ps base t r h =
      let e = made-shape r t (Function (taken_types ps) base) h.shape.1 in
      let move = steps-move (1 + r) (suc r) t (omega arith) in omega (arith, e, move)

  parts-point : TypedParts → Outermost → ℕ
  parts-point typed.NoPart o = 0
  parts-point (typed.AndArray all at words) o = point-of o
  parts-point (typed.AndSizedArray all at words e size) o = point-of o
  parts-point (typed.AndFunction all at ps) o = point-of o

  nearest-point : (all : TypedParts) (o : Outermost) → point-of (nearest all o) + parts-point all o ≤ point-of o
  unfolding parts-point
  nearest-point typed.NoPart o = omega arith
  nearest-point (typed.AndArray all at words) o = omega arith
  nearest-point (typed.AndSizedArray all at words e size) o = omega arith
  nearest-point (typed.AndFunction all at ps) o = omega arith

  parts-made : (s : Scopes) (parts : TypedParts) (o : Outermost) (base t : TypeId) (r : ℕ) → PartsMake T s parts o base t
      → madein (parts_steps o parts + r) t ≤ madein r base + parts-point parts o
  unfolding parts-point
  parts-made s typed.NoPart o base t r h =
      let e : madein (0 + r) t ≡ madein r base = ap (λ (x : TypeId). madein (0 + r) x) h ∙ ap (λ (k : ℕ). madein k base) (zero-left r) in omega
      (arith, e)
  parts-made s (typed.AndArray all at words) o base t r h =
      let next = parts-made s all o h.0 t (suc r) h.2 in
      let own = array-made s (nearest all o) words None base h.0 r h.1 in
      let near = nearest-point all o in
      let move = steps-move (parts_steps o all + 1 + r) (parts_steps o all + suc r) t (omega arith) in
      omega (arith, next, own, near, move)
  parts-made s (typed.AndSizedArray all at words e size) o base t r h =
      let next = parts-made s all o h.0 t (suc r) h.2 in
      let own = array-made s (nearest all o) words (Some size) base h.0 r h.1 in
      let near = nearest-point all o in
      let move = steps-move (parts_steps o all + 1 + r) (parts_steps o all + suc r) t (omega arith) in
      omega (arith, next, own, near, move)
  parts-made s (typed.AndFunction all at ps) o base t r h =
      let next = parts-made s all o h.0 t (function_steps (nearest all o) + r) h.2 in
      let own = function-made (nearest all o) ps base h.0 r h.1 in
      let near = nearest-point all o in
      let move = steps-move (parts_steps o all + function_steps (nearest all o) + r) (parts_steps o all + (function_steps (nearest all o) + r)) t
      (omega arith) in
      omega (arith, next, own, near, move)

  pub if-point : Bool → Outermost → ℕ
  if-point b o = if b then point-of o else 0

  outside-point : (b : Bool) (stars : List TypedStar) (parts : TypedParts) (o : Outermost)
      → parts-point parts (if b then Written else o) + if-point b o ≤ if-point (not (is_no_part parts) || b) o
  unfolding parts-point if-point
  outside-point true stars typed.NoPart o = omega arith
  outside-point true stars (typed.AndArray all at words) o = omega arith
  outside-point true stars (typed.AndSizedArray all at words e size) o = omega arith
  outside-point true stars (typed.AndFunction all at ps) o = omega arith
  outside-point false stars typed.NoPart o = omega arith
  outside-point false stars (typed.AndArray all at words) o = omega arith
  outside-point false stars (typed.AndSizedArray all at words e size) o = omega arith
  outside-point false stars (typed.AndFunction all at ps) o = omega arith

  point-most : (b : Bool) (o : Outermost) → if-point b o ≤ if-point true o
  unfolding if-point
  point-most true o = omega arith
  point-most false o = omega arith

  derived-point : (stars : List TypedStar) (core : TypedCore) (parts : TypedParts) (o : Outermost)
      → if-point (not (is_no_part parts) || is_derived_core core) o ≤ if-point (is_derived (typed.Form stars core parts)) o
  derived-point [] core parts o = omega arith
  derived-point (star ∷ stars) core parts o = point-most (not (is_no_part parts) || is_derived_core core) o

  mutual
    pub form-made : (s : Scopes) (form : TypedForm) (o : Outermost) (base t : TypeId) (r : ℕ) → FormMakes T s form o base t
        → madein (form_steps o form + r) t ≤ madein r base + form-stars form + if-point (is_derived form) o
    form-made s (typed.Form stars core parts) o base t r h =
        let x = parts_steps (outside core o) parts in
        let y = length stars in
        let last = core-made s core o h.1 t (x + (y + r)) h.4 in
        let mid = parts-made s parts (outside core o) h.0 h.1 (y + r) h.3 in
        let first = stars-made stars base h.0 r h.2 in
        let out = outside-point (is_derived_core core) stars parts o in
        let der = derived-point stars core parts o in
        let move = steps-move (core_steps o core + (x + y) + r) (core_steps o core + (x + (y + r))) t (omega arith) in
        omega (arith, last, mid, first, out, der, move)

    pub core-made : (s : Scopes) (core : TypedCore) (o : Outermost) (base t : TypeId) (r : ℕ) → CoreMakes T s core o base t
        → madein (core_steps o core + r) t ≤ madein r base + core-stars core + if-point (is_derived_core core) o
    core-made s (typed.Names name home) o base t r h =
        let e : madein (0 + r) t ≡ madein r base = ap (λ (x : TypeId). madein (0 + r) x) h ∙ ap (λ (k : ℕ). madein k base) (zero-left r) in omega
        (arith, e)
    core-made s typed.Unnamed o base t r h =
        let e : madein (0 + r) t ≡ madein r base = ap (λ (x : TypeId). madein (0 + r) x) h ∙ ap (λ (k : ℕ). madein k base) (zero-left r) in omega
        (arith, e)
    core-made s (typed.Nested at form) o base t r h = form-made s form o base t r h

  pub stars-makes : (stars : List TypedStar) → stars-of stars ≤ makes n (made_by_stars stars)
  unfolding stars-of
  stars-makes [] = omega arith
  stars-makes (star ∷ stars) = let r = stars-makes stars in omega (arith, r)

  pub number-zero : (x : TypeShape) (m : ℕ) → number_of_shape x ≡ Some m → of_shape n x ≡ 0
  number-zero (Struct i) m h = refl
  number-zero (Union i) m h = refl
  number-zero Void m h = refl
  number-zero (Integer bytes signed) m h = refl
  number-zero (Pointer i t) m h = absurd (none-some m h)
  number-zero (Array t i) m h = refl
  number-zero (Function qs r) m h = refl

  pub if-written : (b : Bool) → if-point b Written ≡ 0
  unfolding if-point
  if-written true = refl
  if-written false = refl

  pub if-counts : (b : Bool) (c : ℕ) → if-point b (Counts c) ≡ 0
  unfolding if-point
  if-counts true c = refl
  if-counts false c = refl

  pub declared-stars : TypedDeclared → ℕ
  declared-stars typed.NotDeclared = 0
  declared-stars (typed.DeclaredBy form) = form-stars form

  pub named-made : (s : Scopes) (d : TypedDeclared) (base t : TypeId) → DeclaredMakes T s d Written base t
      → madein (declared_steps Written d) t ≤ declared-stars d
  unfolding declared-stars
  named-made s typed.NotDeclared base t h = omega arith
  named-made s (typed.DeclaredBy form) base t h =
      let e = form-made s form Written base t 0 h in
      let z = if-written (is_derived form) in
      let move = steps-move (form_steps Written form + 0) (form_steps Written form) t (omega arith) in omega (arith, e, z, move)

  -- what a parameter makes
  pub parameter-made : (s : Scopes) (a : Option Adjusted) (d : TypedDeclared) (base t : TypeId) → ParameterMakes T s a d base t
      → madein (parameter_steps a d) t ≤ declared-stars d + makes n (made_by_adjusted a)
  unfolding declared-stars if-point
  parameter-made s None typed.NotDeclared base t h = omega arith
  parameter-made s None (typed.DeclaredBy form) base t h =
      let e = form-made s form Written base t 0 h.0 in
      let z = if-written (is_derived form) in
      let move = steps-move (form_steps Written form + 0) (form_steps Written form) t (omega arith) in omega (arith, e, z, move)
  parameter-made s (Some a) d base t h = by (is_derived_declared d) h
    where
      shaped : (x : TypeShape) → AdjustedShape T a.node x base t → madein 1 t ≤ one n a.node
      shaped (Array element c) g = let e = made-shape 0 t (Pointer a.node element) g.1 in omega (arith, e)
      shaped (Function qs r) g = let e = made-shape 0 t (Pointer a.node base) g.1 in omega (arith, e)
      shaped Void g = absurd g
      shaped (Integer bytes signed) g = absurd g
      shaped (Pointer i u) g = absurd g
      shaped (Struct i) g = absurd g
      shaped (Union i) g = absurd g

      point : (b : Bool) → if-point b (Points a.node) ≤ one n a.node
      point true = omega arith
      point false = omega arith

      declares : (d : TypedDeclared) → DeclaredMakes T s d (Points a.node) base t
          → madein (declared_steps (Points a.node) d) t ≤ declared-stars d + makes n (made_by_adjusted (Some a))
      declares typed.NotDeclared g = omega arith
      declares (typed.DeclaredBy form) g =
          let e = form-made s form (Points a.node) base t 0 g in
          let z = point (is_derived form) in
          let move = steps-move (form_steps (Points a.node) form + 0) (form_steps (Points a.node) form) t (omega arith) in omega (arith, e, z, move)

      by : (b : Bool) → MakesAdjusted b T s a.node d base t
          → madein (adjusted_steps b (Points a.node) d) t ≤ declared-stars d + makes n (made_by_adjusted (Some a))
      by true g = declares d g
      by false g = let e = shaped (shape_at T base) g in omega (arith, e)

  pub declared-by : (form : TypedForm) (base t : TypeId) (s' : Scopes) → FormMakes T s' form Written base t
      → uses T n (used_by_form T form) + form-stars form ≤ makes n (made_by_form form t)
      → uses T n (used_by_declarator T Written (typed.Declares form t)) ≤ makes n (made_by_form form t)
  declared-by form base t s' g a =
      let b = form-made s' form Written base t 0 g in
      let z = if-written (is_derived form) in
      let x = uses-append (used_by_form T form) (types_of (made_in T (form_steps Written form) t)) in
      let move = steps-move (form_steps Written form + 0) (form_steps Written form) t (omega arith) in
      omega (arith, a, b, z, x, move)

  -- a struct or union is no pointer
  pub aggregate-zero : (t : TypeId) → is_aggregate_shape (shape_at T t) ≡ true → of_shape n (shape_at T t) ≡ 0
  aggregate-zero t h = by (shape_at T t) h
    where
      by : (x : TypeShape) → is_aggregate_shape x ≡ true → of_shape n x ≡ 0
      by (Struct i) g = refl
      by (Union i) g = refl
      by Void g = refl
      by (Integer bytes signed) g = refl
      by (Pointer i u) g = absurd (true≢false (sym g))
      by (Array u i) g = refl
      by (Function ps q) g = refl

module _ (n : ℕ) where
  -- the name of a runtime function uses no type
  runtime-uses : (k : Stage) (f : TypedExpr) (function : Runtime) → runtime_named f ≡ Some function → (made : List Made)
      → uses k.table n (used_by k.table f) ≤ makes n made
  runtime-uses k (typed.RuntimeName name other t) function h made = omega arith
  runtime-uses k (typed.Paren at e) function h made = runtime-uses k e function h made
  runtime-uses k e function h made = absurd (none-some function h)

  mutual
    unfolding declared-stars

    pub value-uses : (k : Stage) (e : TypedExpr) (s s' : Scopes) → IsTyped k.table e s s' → IsReady k e
        → uses k.table n (used_by k.table e) ≤ makes n (made_by e)
    value-uses k (typed.Integer of value at t) s s' h r = omega arith
    value-uses k (typed.Character value at t) s s' h r = omega arith
    value-uses k (typed.Enumerator name value t) s s' h r = omega arith
    value-uses k (typed.RuntimeName name function t) s s' h r = omega arith
    value-uses k (typed.FunctionName name number m t) s s' h r = with-node k.table n [] [] t m h.1.function h.1.type (omega arith)
    value-uses k (typed.Paren at e) s s' h r = value-uses k e s s' h.0 r
    value-uses k (typed.Convert which at t e) s s' h r = value-uses k e s s' h.0 r.0
    value-uses k (typed.AddressOfFunction at e) s s' h r = value-uses k e s s' h.0 r.0
    value-uses k (typed.FunctionAt at e) s s' h r = value-uses k e s s' h.0 r.0
    value-uses k (typed.Prefix operator at e t) s s' h r = value-uses k e s s' h.0 r.0
    value-uses k (typed.SizeOfValue at e size t) s s' h r = value-uses (unread k) e s s' h.0 r.0
    value-uses k (typed.Read p) s s' h r = place-uses k p s s' h.0 r.0
    value-uses k (typed.Unread p) s s' h r = place-uses k p s s' h.0 r.0
    value-uses k (typed.AddressOfElement at p t) s s' h r = place-uses k p s s' h.0 r.0
    value-uses k (typed.SizeOfPlace at p size t) s s' h r = place-uses (unread k) p s s' h.0 r.0
    value-uses k (typed.StepBefore operator at p) s s' h r = place-uses k p s s' h.0 r.0
    value-uses k (typed.StepAfter p operator at) s s' h r = place-uses k p s s' h.0 r.0
    value-uses k (typed.Decay p m t) s s' h r =
        with-node k.table n (used_by_place k.table p) (made_by_place p) t m h.1.element h.1.type (place-uses k p s s' h.0 r.0)
    value-uses k (typed.AddressOf at p m t) s s' h r =
        with-node k.table n (used_by_place k.table p) (made_by_place p) t m (place_type p) h.1.type (place-uses k p s s' h.0 r.0)
    value-uses k (typed.SizeOfType at paren name size t) s s' h r = type_name-uses (unread k) name s s' h.0 r.0
    value-uses k (typed.Cast which at to e) s s' h r =
        (both k.table n (used_by_type_name k.table to) (used_by k.table e) (made_by_type_name to) (made_by e)
        (type_name-uses (unread k) to s h.0 h.1 r.0) (value-uses k e h.0 s' h.2 r.1))
    value-uses k (typed.Arithmetic operator a at b t) s s' h r =
        (both k.table n (used_by k.table a) (used_by k.table b) (made_by a) (made_by b) (value-uses k a s h.0 h.1 r.0)
        (value-uses k b h.0 s' h.2 r.1))
    value-uses k (typed.Moved operator which a at b t) s s' h r =
        (both k.table n (used_by k.table a) (used_by k.table b) (made_by a) (made_by b) (value-uses k a s h.0 h.1 r.0)
        (value-uses k b h.0 s' h.2 r.1))
    value-uses k (typed.Difference a at b t) s s' h r =
        (both k.table n (used_by k.table a) (used_by k.table b) (made_by a) (made_by b) (value-uses k a s h.0 h.1 r.0)
        (value-uses k b h.0 s' h.2 r.1))
    value-uses k (typed.Compared operator a at b t) s s' h r =
        (both k.table n (used_by k.table a) (used_by k.table b) (made_by a) (made_by b) (value-uses k a s h.0 h.1 r.0)
        (value-uses k b h.0 s' h.2 r.1))
    value-uses k (typed.Logical operator a at b t) s s' h r =
        (both k.table n (used_by k.table a) (used_by k.table b) (made_by a) (made_by b) (value-uses k a s h.0 h.1 r.0)
        (value-uses k b h.0 s' h.2 r.1))
    value-uses k (typed.Comma a b) s s' h r =
        (both k.table n (used_by k.table a) (used_by k.table b) (made_by a) (made_by b) (value-uses k a s h.0 h.1 r.0)
        (value-uses k b h.0 s' h.2 r.1))
    value-uses k (typed.Conditional c at a b t) s s' h r =
        (both k.table n ((used_by k.table c) ++ (used_by k.table a)) (used_by k.table b) ((made_by c) ++ (made_by a)) (made_by b)
        (both k.table n (used_by k.table c) (used_by k.table a) (made_by c) (made_by a) (value-uses k c s h.0 h.2 r.0)
        (value-uses k a h.0 h.1 h.3 r.1)) (value-uses k b h.1 s' h.4 r.2))
    value-uses k (typed.PointerConditional c at a b m t) s s' h r =
        with-node k.table n (((used_by k.table c) ++ (used_by k.table a)) ++ (used_by k.table b)) (((made_by c) ++ (made_by a)) ++ (made_by b)) t m
        h.5.to h.5.type (both k.table n ((used_by k.table c) ++ (used_by k.table a)) (used_by k.table b) ((made_by c) ++ (made_by a)) (made_by b)
        (both k.table n (used_by k.table c) (used_by k.table a) (made_by c) (made_by a) (value-uses k c s h.0 h.2 r.0)
        (value-uses k a h.0 h.1 h.3 r.1)) (value-uses k b h.1 s' h.4 r.2))
    value-uses k (typed.Assign p at e) s s' h r =
        (both k.table n (used_by_place k.table p) (used_by k.table e) (made_by_place p) (made_by e) (place-uses k p s h.0 h.1 r.0)
        (value-uses k e h.0 s' h.2 r.1))
    value-uses k (typed.AssignWith operator p at e t) s s' h r =
        (both k.table n (used_by_place k.table p) (used_by k.table e) (made_by_place p) (made_by e) (place-uses k p s h.0 h.1 r.0)
        (value-uses k e h.0 s' h.2 r.1))
    value-uses k (typed.Call f at arguments t) s s' h r =
        (both k.table n (used_by k.table f) (used_by_arguments k.table arguments) (made_by f) (made_by_arguments arguments)
        (value-uses k f s h.0 h.1 r.0) (arguments-uses k arguments h.0 s' h.2 r.1))
    value-uses k (typed.CallRuntime function f at arguments t) s s' h r =
        (both k.table n (used_by k.table f) (used_by_arguments k.table arguments) (made_by f) (made_by_arguments arguments)
        (runtime-uses k f function h.3.call.named (made_by f)) (arguments-uses k arguments h.0 s' h.2 r.0))
    value-uses k (typed.AllocateFor function f at arguments t) s s' h r =
        (both k.table n (used_by k.table f) (used_by_arguments k.table arguments) (made_by f) (made_by_arguments arguments)
        (runtime-uses k f function h.3.call.named (made_by f)) (arguments-uses k arguments h.0 s' h.2 r.0))
    value-uses k (typed.Allocate function f at arguments m t) s s' h r =
        with-node k.table n ((used_by k.table f) ++ (used_by_arguments k.table arguments)) ((made_by f) ++ (made_by_arguments arguments)) t m
        h.3.void h.3.type (both k.table n (used_by k.table f) (used_by_arguments k.table arguments) (made_by f) (made_by_arguments arguments)
        (runtime-uses k f function h.3.call.named (made_by f)) (arguments-uses k arguments h.0 s' h.2 r.0))

    pub place-uses : (k : Stage) (p : TypedPlace) (s s' : Scopes) → IsPlace k.table p s s' → IsReadyPlace k p
        → uses k.table n (used_by_place k.table p) ≤ makes n (made_by_place p)
    place-uses k (typed.Variable name home t) s s' h r = omega arith
    place-uses k (typed.String pieces home t) s s' h r = no-pointer k.table n t (Array h.1.element _) h.1.shape.1 refl (Literal pieces home t ∷ [])
    place-uses k (typed.ParenPlace at p) s s' h r = place-uses k p s s' h r
    place-uses k (typed.Target at e t) s s' h r = value-uses k e s s' h.0 r.0
    place-uses k (typed.Element which a at b t) s s' h r =
        (both k.table n (used_by k.table a) (used_by k.table b) (made_by a) (made_by b) (value-uses k a s h.0 h.1 r.0)
        (value-uses k b h.0 s' h.2 r.1))
    place-uses k (typed.Member p at name i m t) s s' h r =
        place-uses k p s s' h.0 r.0
    place-uses k (typed.MemberAt e at name i m t) s s' h r =
        value-uses k e s s' h.0 r.0
    place-uses k (typed.StructAssign p at q) s s' h r =
        wide k.table n ((used_by_place k.table p) ++ (used_by_place k.table q)) ((made_by_place p) ++ (made_by_place q)) (Copy (place_type p) ∷ [])
        (both k.table n (used_by_place k.table p) (used_by_place k.table q) (made_by_place p) (made_by_place q) (place-uses k p s h.0 h.1 r.0)
        (place-uses k q h.0 s' h.2 r.1))
    place-uses k (typed.StructConditional c at p q) s s' h r =
        (both k.table n ((used_by k.table c) ++ (used_by_place k.table p)) (used_by_place k.table q) ((made_by c) ++ (made_by_place p))
        (made_by_place q) (both k.table n (used_by k.table c) (used_by_place k.table p) (made_by c) (made_by_place p) (value-uses k c s h.0 h.2 r.0)
        (place-uses k p h.0 h.1 h.3 r.1)) (place-uses k q h.1 s' h.4 r.2))
    place-uses k (typed.StructComma e p) s s' h r =
        (both k.table n (used_by k.table e) (used_by_place k.table p) (made_by e) (made_by_place p) (value-uses k e s h.0 h.1 r.0)
        (place-uses k p h.0 s' h.2 r.1))

    pub arguments-uses : (k : Stage) (all : TypedArguments) (s s' : Scopes) → AreTyped k.table all s s' → AreReady k all
        → uses k.table n (used_by_arguments k.table all) ≤ makes n (made_by_arguments all)
    arguments-uses k typed.NoArgument s s' h r = omega arith
    arguments-uses k (typed.AndArgument all e) s s' h r =
        both k.table n (used_by_arguments k.table all) (used_by k.table e) (made_by_arguments all) (made_by e) (arguments-uses k all s h.0 h.1 r.0)
        (value-uses k e h.0 s' h.2 r.1)

    pub type_name-uses : (k : Stage) (name : TypedTypeName) (s s' : Scopes) → IsTypeName k.table name s s' → IsReadyTypeName k name
        → uses k.table n (used_by_type_name k.table name) ≤ makes n (made_by_type_name name)
    type_name-uses k (typed.Named specifiers d t) s s' h r =
        let a = specifiers-uses k specifiers s h.0 h.1 r.0 in
        let b = declared-uses k d t h.0 s' h.2 r.1 in
        let c = named-made k.table n s' d (specified_type specifiers) t h.4 in
        let x = uses-append k.table n (used_by_specifiers k.table specifiers ++ used_by_declared k.table d)
        (types_of (made_in k.table (declared_steps Written d) t)) in
        let y = uses-append k.table n (used_by_specifiers k.table specifiers) (used_by_declared k.table d) in
        let z = makes-append k.table n (made_by_specifiers specifiers) (made_by_declared d t) in
        omega (arith, a, b, c, x, y, z)

    pub specifiers-uses : (k : Stage) (all : TypedSpecifiers) (s s' : Scopes) → AreSpecifiers k.table all s s' → AreReadySpecifiers k all
        → uses k.table n (used_by_specifiers k.table all) ≤ makes n (made_by_specifiers all)
    specifiers-uses k (typed.Specified list t) s s' h r = listed-uses k list s s' h.0 r

    pub listed-uses : (k : Stage) (list : TypedSpecifierList) (s s' : Scopes) → AreListed k.table list s s' → AreReadyListed k list
        → uses k.table n (used_by_specifier_list k.table list) ≤ makes n (made_by_specifier_list list)
    listed-uses k typed.NoSpecifier s s' h r = omega arith
    listed-uses k (typed.AndSpecifier all one) s s' h r =
        both k.table n (used_by_specifier_list k.table all) (used_by_specifier k.table one) (made_by_specifier_list all) (made_by_specifier one)
        (listed-uses k all s h.0 h.1 r.0) (specifier-uses k one h.0 s' h.2 r.1)

    pub specifier-uses : (k : Stage) (x : TypedSpecifier) (s s' : Scopes) → IsSpecifier k.table x s s' → IsReadySpecifier k x
        → uses k.table n (used_by_specifier k.table x) ≤ makes n (made_by_specifier x)
    specifier-uses k (typed.Keyword word) s s' h r = omega arith
    specifier-uses k (typed.Typedef name t) s s' h r = omega arith
    specifier-uses k (typed.Tagged which at name t) s s' h r = let z = aggregate-zero k.table n t r in omega (arith, z)
    specifier-uses k (typed.Aggregate which at name brace members t) s s' h r =
        let z = number-zero k.table n (shape_at k.table t) h.4.number h.4.declared in let m = members-uses k members h.0 h.1 h.3 r.0 in omega
        (arith, z, m)
    specifier-uses k (typed.Enum at name) s s' h r = omega arith
    specifier-uses k (typed.Enumeration at name brace all comma) s s' h r = enumerators-uses k all (enumerating name s) h.0 h.1 r

    pub members-uses : (k : Stage) (all : TypedMembers) (s s' : Scopes) → AreMembers k.table all s s' → AreReadyMembers k all
        → uses k.table n (used_by_members k.table all) ≤ makes n (made_by_members all)
    members-uses k typed.NoMember s s' h r = omega arith
    members-uses k (typed.AndMember all specifiers ds) s s' h r =
        both k.table n (used_by_members k.table all ++ used_by_specifiers k.table specifiers) (used_by_member_declarators k.table ds)
        (made_by_members all ++ made_by_specifiers specifiers) (made_by_member_declarators ds)
        (both k.table n (used_by_members k.table all) (used_by_specifiers k.table specifiers) (made_by_members all) (made_by_specifiers specifiers)
        (members-uses k all s h.0 h.2 r.0) (specifiers-uses k specifiers h.0 h.1 h.3 r.1))
        (member_declarators-uses k (specified_type specifiers) ds h.1 s' h.4 r.2)

    pub member_declarators-uses : (k : Stage) (base : TypeId) (all : TypedMemberDeclarators) (s s' : Scopes)
        → AreMemberDeclarators k.table base all s s' → AreReadyMemberDeclarators k all → uses k.table n (used_by_member_declarators k.table all) ≤
        makes n (made_by_member_declarators all)
    member_declarators-uses k base typed.NoDeclarator s s' h r = omega arith
    member_declarators-uses k base (typed.AndDeclarator all (typed.Declares form t)) s s' h r =
        let a = member_declarators-uses k base all s h.0 h.1 r.0 in
        let b = declared-by k.table n form base t s' h.4 (form-uses k form t h.0 s' h.2 r.1) in
        let x = uses-append k.table n (used_by_member_declarators k.table all ++ used_by_declarator k.table Written (typed.Declares form t))
        (OfMember (name_of (typed.Declares form t)) ∷ []) in
        let y = uses-append k.table n (used_by_member_declarators k.table all) (used_by_declarator k.table Written (typed.Declares form t)) in
        let z = makes-append k.table n (made_by_member_declarators all) (made_by_form form t) in
        omega (arith, a, b, x, y, z)

    pub enumerators-uses : (k : Stage) (all : TypedEnumerators) (s s' : Scopes) → AreEnumerators k.table all s s' → AreReadyEnumerators k all
        → uses k.table n (used_by_enumerators k.table all) ≤ makes n (made_by_enumerators all)
    enumerators-uses k typed.NoEnumerator s s' h r = omega arith
    enumerators-uses k (typed.AndEnumerator all name value) s s' h r = enumerators-uses k all s h.0 h.1 r
    enumerators-uses k (typed.AndValued all name at e value) s s' h r =
        both k.table n (used_by_enumerators k.table all) (used_by k.table e) (made_by_enumerators all) (made_by e)
        (enumerators-uses k all s h.0 h.2 r.0) (value-uses k e h.0 h.1 h.3 r.1)

    pub form-uses : (k : Stage) (form : TypedForm) (t : TypeId) (s s' : Scopes) → IsForm k.table form s s' → IsReadyForm k form
        → uses k.table n (used_by_form k.table form) + form-stars k.table n form ≤ makes n (made_by_form form t)
    form-uses k (typed.Form stars core parts) t s s' h r =
        let a = core-uses k core t s h.0 h.1 r.0 in
        let b = parts-uses k parts h.0 s' h.2 r.1 in
        let c = stars-makes k.table n stars in
        let x = uses-append k.table n (used_by_core k.table core) (used_by_parts k.table parts) in
        let y = makes-append k.table n (made_by_stars stars ++ made_by_core core t) (made_by_parts parts) in
        let z = makes-append k.table n (made_by_stars stars) (made_by_core core t) in
        omega (arith, a, b, c, x, y, z)

    pub core-uses : (k : Stage) (core : TypedCore) (t : TypeId) (s s' : Scopes) → IsCore k.table core s s' → IsReadyCore k core
        → uses k.table n (used_by_core k.table core) + core-stars k.table n core ≤ makes n (made_by_core core t)
    core-uses k (typed.Names name home) t s s' h r = omega arith
    core-uses k typed.Unnamed t s s' h r = omega arith
    core-uses k (typed.Nested at form) t s s' h r = form-uses k form t s s' h r

    pub parts-uses : (k : Stage) (parts : TypedParts) (s s' : Scopes) → AreParts k.table parts s s' → AreReadyParts k parts
        → uses k.table n (used_by_parts k.table parts) ≤ makes n (made_by_parts parts)
    parts-uses k typed.NoPart s s' h r = omega arith
    parts-uses k (typed.AndArray all at words) s s' h r = parts-uses k all s s' h r
    parts-uses k (typed.AndSizedArray all at words e size) s s' h r =
        let r = both k.table n (used_by_parts k.table all) (used_by k.table e) (made_by_parts all) (made_by e) (parts-uses k all s h.0 h.1 r.0)
        (value-uses k e h.0 s' h.2 r.1) in
        let x = uses-append k.table n (used_by_parts k.table all ++ used_by k.table e) (OfSize size ∷ []) in omega (arith, r, x)
    parts-uses k (typed.AndFunction all at ps) s s' h r =
        both k.table n (used_by_parts k.table all) (used_by_parameters k.table ps) (made_by_parts all) (made_by_parameters ps)
        (parts-uses k all s h.0 h.2 r.0) (parameters-uses k (is_void_list ps) ps (entering h.0) h.1 h.3 r.1)

    pub parameters-uses : (k : Stage) (void : Bool) (all : TypedParameters) (s s' : Scopes) → AreParameters k.table void all s s'
        → AreReadyParameters k all → uses k.table n (used_by_parameters k.table all) ≤ makes n (made_by_parameters all)
    parameters-uses k void typed.NoParameter s s' h r = omega arith
    parameters-uses k void (typed.AndParameter all specifiers d adjusted t) s s' h r =
        let a = parameters-uses k void all s h.0 h.3 r.0 in
        let b = specifiers-uses k specifiers h.0 h.1 h.4 r.1 in
        let c = declared-uses k d t h.1 h.2 h.5 r.2 in
        let e = parameter-made k.table n h.2 adjusted d (specified_type specifiers) t h.7 in
        let x = used_by_parameters k.table all in let y = used_by_specifiers k.table specifiers in let z = used_by_declared k.table d in
        let u = made_by_parameters all in let v = made_by_specifiers specifiers in let w = made_by_declared d t in
        let p1 = uses-append k.table n (x ++ y ++ z) (types_of (made_in k.table (parameter_steps adjusted d) t)) in let p2 = uses-append k.table n
        (x ++ y) z in let p3 = uses-append k.table n x y in
        let q1 = makes-append k.table n (u ++ v ++ w) (made_by_adjusted adjusted) in let q2 = makes-append k.table n (u ++ v) w in let
        q3 = makes-append k.table n u v in
        omega (arith, a, b, c, e, p1, p2, p3, q1, q2, q3)

    pub declared-uses : (k : Stage) (d : TypedDeclared) (t : TypeId) (s s' : Scopes) → IsDeclared k.table d s s' → IsReadyDeclared k d
        → uses k.table n (used_by_declared k.table d) + declared-stars k.table n d ≤ makes n (made_by_declared d t)
    declared-uses k typed.NotDeclared t s s' h r = omega arith
    declared-uses k (typed.DeclaredBy form) t s s' h r = form-uses k form t s s' h r

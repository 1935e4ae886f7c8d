-- No two objects of a unit have one home, since its nodes are numbered.
use Rattle.std.specs.List.{AllByRecursion, IsDistinct, range_with_len, All}
use Rattle.std.proofs.Common.{◌≡◌, ℕ, ◌+◌, ◌≤◌, ◌==◌, Bool, true, false, List, [], ◌∷◌, ◌++◌, map, flat_map, length, refl, ap, ◌∙◌, arith, nat_eq, if◌then◌else◌, ◌≢◌}
use Rattle.std.proofs.lemmas.Bool.Decides.{nat_tests}
use Rattle.std.proofs.lemmas.List.{map-append}
use Rattle.std.proofs.lemmas.List.Elements.{All-nil, All-cons, All-weaker}
use Rattle.cc_base.specs.declared.number.NodeId.{NodeId}
use Rattle.cc_base.specs.declared.number.TypeId.{TypeId}
use Rattle.c_tree.specs.declared.typed_word.Home.{Home}
use Rattle.c_tree.specs.declared.typed_word.Home.TheVariants as home
use Rattle.c_tree.specs.TypedTree as typed
use Rattle.c_tree.specs.TypedTree.{TypedForm, TypedParameters, TypedDeclared, TypedBlockItems, TypedTranslationUnit}
use Rattle.c_tree.specs.TypedParts as made
use Rattle.c_tree.specs.TypedParts.{Made, Name, MadeObject, DefinedFunction, ParameterObject, nodes_made, node_made, static_made, local_made, statics_of, locals_of, functions_of, home_of_form, declared_home, parameter_home, parameter_objects, parameters_in_form, made_by_unit, made_by_declaration, made_by_specifiers, made_by_form, made_by_declared, made_by_adjusted, made_by_parameters, made_by_stars, made_by_parts, made_by_block_items}
use Rattle.c_ready.specs.Ready.{Named, parameter_named, made_named, variables_named, homes_of}
use Rattle.c_ready.proofs.ParameterObjects.{objects_of, variables-are}
use Rattle.c_ready.proofs.Counting.{one, count, count-append, range-once}
use Rattle.c_ready.proofs.NodesUsed.{pointer_made, makes}
use Rattle.c_ready.proofs.ReadyMade.{as_variable, sum_of, vars, vars-append, form-vars}
use Rattle.c_ready.proofs.Basics.{flat-append}

abbrev one_if : Bool → ℕ
one_if b = if b then 1 else 0

abbrev is_one : ℕ → ℕ → ℕ
is_one n x = one_if (x == n)

-- how often a number stands in a list
pub occurs : ℕ → List ℕ → ℕ
occurs n [] = 0
occurs n (x ∷ xs) = is_one n x + occurs n xs

unequal : (x n : ℕ) → is_one n x ≡ 0 → nat_eq n x ≡ false
unequal x n h = by (x == n) refl h
  where
    apart : (x n : ℕ) → (x == n) ≡ false → nat_eq n x ≡ false
    apart x n g = grind (arith, nat_tests)

    by : (b : Bool) → (x == n) ≡ b → one_if b ≡ 0 → nat_eq n x ≡ false
    by true q g = absurd (omega (arith, g))
    by false q g = apart x n q

equal : (n : ℕ) → is_one n n ≡ 1
equal n = ap (λ (b : Bool). if b then 1 else 0) (self n)
  where
    self : (n : ℕ) → (n == n) ≡ true
    self n = grind (arith, nat_tests)

none-after : (n : ℕ) (xs : List ℕ) → occurs n xs ≡ 0 → AllByRecursion (λ y. nat_eq n y ≡ false) xs
unfolding occurs
none-after n [] h = tt
none-after n (x ∷ xs) h = (unequal x n (omega (arith, h)), none-after n xs (omega (arith, h)))

pub distinct-once : (xs : List ℕ) → ((n : ℕ) → occurs n xs ≤ 1) → IsDistinct nat_eq xs
unfolding occurs IsDistinct
distinct-once [] h = tt
distinct-once (x ∷ xs) h =
    let own = h x in
    let e = equal x in
    (none-after x xs (omega (arith, own, e)), distinct-once xs (λ n. let most = h n in omega (arith, most)))

pub occurs-all : (xs : List ℕ) → All (λ m. 1 ≤ occurs m xs) xs
unfolding occurs
occurs-all [] = All-nil (λ m. 1 ≤ occurs m [])
occurs-all (x ∷ xs) =
    All-cons (λ m. 1 ≤ occurs m (x ∷ xs)) x xs (let e = equal x in omega (arith, e))
    (All-weaker (λ m. 1 ≤ occurs m xs) (λ m. 1 ≤ occurs m (x ∷ xs)) (λ m l. omega (arith, l)) xs (occurs-all xs))

pub none-equal : (n : ℕ) (xs : List ℕ) → occurs n xs ≡ 0 → All (λ h. h ≢ n) xs
unfolding occurs
none-equal n [] h = All-nil (λ x. x ≢ n)
none-equal n (x ∷ xs) h =
    All-cons (λ y. y ≢ n) x xs (λ e. let one = ap (λ (y : ℕ). is_one n y) e ∙ equal n in absurd (omega (arith, one, h)))
    (none-equal n xs (omega (arith, h)))

module _ (n : ℕ) where
  pub occurs-none : occurs n [] ≡ 0
  unfolding occurs
  occurs-none = refl

  pub occurs-node : (m : NodeId) → occurs n (m.0 ∷ []) ≡ one n m
  unfolding occurs one
  occurs-node m = omega arith

  pub occurs-append : (xs ys : List ℕ) → occurs n (xs ++ ys) ≡ occurs n xs + occurs n ys
  unfolding occurs
  occurs-append [] ys = omega arith
  occurs-append (x ∷ xs) ys = let r = occurs-append xs ys in omega (arith, r)

  homes : List Named → ℕ
  homes os = occurs n (map (λ (o : Named). o.0.0) os)

  homes-append : (xs ys : List Named) → homes (xs ++ ys) ≡ homes xs + homes ys
  unfolding homes
  homes-append xs ys =
      ap (occurs n) (map-append (λ (o : Named). o.0.0) xs ys) ∙ occurs-append (map (λ (o : Named). o.0.0) xs) (map (λ (o : Named). o.0.0) ys)

  -- static objects
  abbrev as_kept : Made → ℕ
  as_kept (Name name (home.Static m) t) = one n m
  as_kept (made.Literal pieces m t) = one n m
  as_kept m = 0

  statics-occur : (xs : List Made) → occurs n (map (λ (o : MadeObject). o.home.0) (flat_map static_made xs)) ≡ sum_of n as_kept xs
  unfolding occurs one
  statics-occur [] = refl
  statics-occur (m ∷ ms) =
      let rest = statics-occur ms in
      let both = ap (occurs n) (map-append (λ (o : MadeObject). o.home.0) (static_made m) (flat_map static_made ms))
      ∙ occurs-append (map (λ (o : MadeObject). o.home.0) (static_made m)) (map (λ (o : MadeObject). o.home.0) (flat_map static_made ms)) in
      let own = of_one m in omega (arith, rest, both, own)
    where
      of_one : (m : Made) → occurs n (map (λ (o : MadeObject). o.home.0) (static_made m)) ≡ as_kept m
      of_one (made.Written place i) = refl
      of_one (made.Address i) = refl
      of_one (made.Copy t) = refl
      of_one (made.Literal pieces i t) = omega arith
      of_one (Name name home.None t) = refl
      of_one (Name name (home.Static i) t) = omega arith
      of_one (Name name (home.Known i) t) = refl
      of_one (Name name (home.Parameter i) t) = refl
      of_one (Name name (home.Local i) t) = refl

  one-place : (m : Made) → count n (pointer_made m) + as_variable n m + as_kept m ≤ count n (node_made m)
  one-place (made.Written place i) = omega arith
  one-place (made.Address i) = omega arith
  one-place (made.Copy t) = omega arith
  one-place (made.Literal pieces i t) = omega arith
  one-place (Name name home.None t) = omega arith
  one-place (Name name (home.Static i) t) = omega arith
  one-place (Name name (home.Known i) t) = omega arith
  one-place (Name name (home.Parameter i) t) = omega arith
  one-place (Name name (home.Local i) t) = omega arith

  all-places : (xs : List Made) → makes n xs + vars n xs + sum_of n as_kept xs ≤ count n (flat_map node_made xs)
  all-places [] = omega arith
  all-places (m ∷ ms) =
      let r = all-places ms in let o = one-place m in let c = count-append n (node_made m) (flat_map node_made ms) in omega (arith, r, o, c)

  -- local variables
  locals-occur : (xs : List Made) → homes (map made_named (flat_map local_made xs)) ≤ vars n xs
  unfolding occurs one homes
  locals-occur [] = omega arith
  locals-occur (made.Written place i ∷ ms) = let r = locals-occur ms in omega (arith, r)
  locals-occur (made.Address i ∷ ms) = let r = locals-occur ms in omega (arith, r)
  locals-occur (made.Copy t ∷ ms) = let r = locals-occur ms in omega (arith, r)
  locals-occur (made.Literal pieces i t ∷ ms) = let r = locals-occur ms in omega (arith, r)
  locals-occur (Name name home.None t ∷ ms) = let r = locals-occur ms in omega (arith, r)
  locals-occur (Name name (home.Static i) t ∷ ms) = let r = locals-occur ms in omega (arith, r)
  locals-occur (Name name (home.Known i) t ∷ ms) = let r = locals-occur ms in omega (arith, r)
  locals-occur (Name name (home.Parameter i) t ∷ ms) = let r = locals-occur ms in omega (arith, r)
  locals-occur (Name name (home.Local i) t ∷ ms) = let r = locals-occur ms in omega (arith, r)

  -- parameters
  as_parameter : Home → ℕ
  as_parameter (home.Parameter i) = one n i
  as_parameter h = 0

  form-occurs : (form : TypedForm) (t : TypeId) → as_parameter (home_of_form form) ≤ vars n (made_by_form form t)
  unfolding as_parameter
  form-occurs (typed.Form stars (typed.Names name h) parts) t =
      let a = vars-append n (made_by_stars stars ++ (Name name h t ∷ [])) (made_by_parts parts) in
      let b = vars-append n (made_by_stars stars) (Name name h t ∷ []) in
      let c = by h in omega (arith, a, b, c)
    where
      by : (h : Home) → as_parameter h ≤ as_variable n (Name name h t)
      by home.None = omega arith
      by (home.Static i) = omega arith
      by (home.Known i) = omega arith
      by (home.Parameter i) = omega arith
      by (home.Local i) = omega arith
  form-occurs (typed.Form stars typed.Unnamed parts) t = omega arith
  form-occurs (typed.Form stars (typed.Nested at form) parts) t =
      let r = form-occurs form t in
      let a = vars-append n (made_by_stars stars ++ made_by_form form t) (made_by_parts parts) in
      let b = vars-append n (made_by_stars stars) (made_by_form form t) in omega (arith, r, a, b)

  parameter-occurs : (d : TypedDeclared) (t : TypeId)
      → homes (parameter_named (record { home = parameter_home (declared_home d); type = t })) ≤ vars n (made_by_declared d t)
  unfolding occurs one homes as_parameter
  parameter-occurs typed.NotDeclared t = omega arith
  parameter-occurs (typed.DeclaredBy form) t = let a = by (home_of_form form) in let b = form-occurs form t in omega (arith, a, b)
    where
      by : (h : Home) → homes (parameter_named (record { home = parameter_home h; type = t })) ≤ as_parameter h
      by (home.Parameter i) = omega arith
      by home.None = omega arith
      by (home.Static i) = omega arith
      by (home.Local i) = omega arith
      by (home.Known i) = omega arith

  parameters-occur : (ps : TypedParameters) → homes (objects_of ps) ≤ vars n (made_by_parameters ps)
  unfolding occurs homes
  parameters-occur typed.NoParameter = omega arith
  parameters-occur (typed.AndParameter all specifiers d adjusted t) =
      let x = made_by_parameters all in let y = made_by_specifiers specifiers in let z = made_by_declared d t in let v = made_by_adjusted adjusted in
      let own : ParameterObject = record { home = parameter_home (declared_home d); type = t } in
      let a = parameters-occur all in
      let b = parameter-occurs d t in
      let c = ap homes (flat-append parameter_named (parameter_objects all) own) ∙ homes-append (objects_of all) (parameter_named own) in
      let p = vars-append n (x ++ y ++ z) v in let q = vars-append n (x ++ y) z in let r = vars-append n x y in
      omega (arith, a, b, c, p, q, r)

  function-occurs : (form : TypedForm) (t : TypeId) (body : TypedBlockItems)
      → homes (variables_named (record { declarator = typed.Declares form t; body = body })) ≤ vars n (made_by_form form t) + vars n
      (made_by_block_items body)
  function-occurs form t body =
      let v = ap homes (variables-are form t body) in
      let a = homes-append (objects_of (parameters_in_form form typed.NoParameter)) (map made_named (locals_of body)) in
      let b = parameters-occur (parameters_in_form form typed.NoParameter) in
      let c = form-vars n form t typed.NoParameter in
      let d = locals-occur (made_by_block_items body) in
      omega (arith, v, a, b, c, d)

  abbrev of_functions : List DefinedFunction → List ℕ
  of_functions fs = flat_map (λ f. map (λ (o : Named). o.0.0) (variables_named f)) fs

  functions-occur : (u : TypedTranslationUnit) → occurs n (of_functions (functions_of u)) ≤ vars n (made_by_unit u)
  unfolding occurs homes
  functions-occur typed.NoExternal = omega arith
  functions-occur (typed.AndExternal u d) =
      let r = functions-occur u in let a = vars-append n (made_by_unit u) (made_by_declaration d) in omega (arith, r, a)
  functions-occur (typed.AndFunctionBody u specifiers (typed.Declares form t) brace body) =
      let x = made_by_unit u in let y = made_by_specifiers specifiers in let z = made_by_form form t in let v = made_by_block_items body in
      let f : DefinedFunction = record { declarator = typed.Declares form t; body = body } in
      let r = functions-occur u in
      let own = function-occurs form t body in
      let e = ap (occurs n) (flat-append (λ (g : DefinedFunction). map (λ (o : Named). o.0.0) (variables_named g)) (functions_of u) f)
      ∙ occurs-append (of_functions (functions_of u)) (map (λ (o : Named). o.0.0) (variables_named f)) in
      let p = vars-append n (x ++ y ++ z) v in let q = vars-append n (x ++ y) z in let s = vars-append n x y in
      omega (arith, r, own, e, p, q, s)

-- a node is a home and that of a pointer type no more often than it is made
pub homes-most : (u : TypedTranslationUnit) (n : ℕ) → makes n (made_by_unit u) + occurs n (homes_of u) ≤ count n (nodes_made (made_by_unit u))
homes-most u n =
    let statics = statics-occur n (made_by_unit u) in
    let functions = functions-occur n u in
    let all = all-places n (made_by_unit u) in
    let both = occurs-append n (map (λ (o : MadeObject). o.home.0) (statics_of u)) (of_functions n (functions_of u)) in
    omega (arith, statics, functions, all, both)

pub homes-distinct : (u : TypedTranslationUnit)
    → map (λ (n : NodeId). n.0) (nodes_made (made_by_unit u)) ≡ range_with_len 0 (length (nodes_made (made_by_unit u)))
    → IsDistinct nat_eq (homes_of u)
homes-distinct u numbered = distinct-once (homes_of u) (λ n.
    let most = homes-most u n in
    let once = (range-once n 0 (length (nodes_made (made_by_unit u))) (nodes_made (made_by_unit u)) numbered).1 in
    omega (arith, most, once))

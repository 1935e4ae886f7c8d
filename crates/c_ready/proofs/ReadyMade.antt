-- What a unit makes is in its lists, and homes are apart, since its nodes are numbered.
use Rattle.std.specs.List.{All, Contains, range_with_len}
use Rattle.std.proofs.Common.{◌≡◌, ℕ, zero, suc, ◌<◌, ◌+◌, true, false, List, [], ◌∷◌, ◌++◌, map, length, refl, ap, sym, subst, ◌∙◌, true≢false, arith, ◌≤◌, flat_map}
use Rattle.std.proofs.lemmas.List.Elements.{All-nil, All-cons, All-head, All-tail, All-weaker, All-contains, All-contains_itself, All-append, All-map}
use Rattle.cc_base.specs.declared.number.NodeId.{NodeId}
use Rattle.cc_base.specs.declared.number.TypeId.{TypeId}
use Rattle.c_types.specs.Table.{Table}
use Rattle.c_types.specs.Sound.{IsWellFormed}
use Rattle.c_tree.specs.declared.typed_word.Home.{Home}
use Rattle.c_tree.specs.declared.typed_word.Home.TheVariants as home
use Rattle.c_tree.specs.TypedTree as typed
use Rattle.c_tree.specs.TypedTree.{TypedForm, TypedCore, TypedParts, TypedParameters, TypedDeclared, TypedBlockItems, TypedTranslationUnit}
use Rattle.c_tree.specs.TypedParts.{DefinedFunction, Made, Name, Literal, Address, Copy, made_by, made_by_specifiers, made_by_form, made_by_core, made_by_parts, made_by_parameters, made_by_declared, made_by_adjusted, made_by_stars, home_of_form, made_by_declaration, made_by_block_items, declared_home, ParameterObject, parameter_home, parameter_objects, parameters_of, parameters_in_form, parameters_in_core, nearest_parameters, unless_starred, locals_of, nodes_made, node_made, made_by_unit, local_made, MadeObject, named_object}
use Rattle.c_tree.specs.TypedParts as made
use Rattle.c_tree.specs.declared.typed_word.TypedStar.{TypedStar}
use Rattle.c_unit_typing.specs.Units as units
use Rattle.c_unit_typing.specs.Units.{IsUnitTyped}
use Rattle.c_unit_typing.specs.WellTyped.{known_before}
use Rattle.c_ready.specs.Ready.{Named, parameter_named, made_named, variables_named, static_stage, static_named, literal_named}
use Rattle.c_ready.proofs.Contexts.{Context, IsNode, context_of}
use Rattle.c_ready.proofs.ReadyParts.{IsMade, AreMade}
use Rattle.c_ready.proofs.ReadyUnits.{AreListed}
use Rattle.c_ready.proofs.Counting.{one, one-self, count, count-append, range-once}
use Rattle.c_ready.proofs.ReadyFunctions.{AreExternalsMade, AreExternalsReady, file_of, in_body, IsApart, no_home}
use Rattle.c_ready.proofs.ParameterObjects.{objects_of, variables-are}
use Rattle.src_machine.specs.Names.{declarators_in, declarators_in_declaration, declarators_in_items}
use Rattle.c_ready.proofs.ReadyWhole.{whole-ready, IsClosed}
use Rattle.c_ready.proofs.Basics.{all-left, all-right, flat-append, flat-left, flat-right, unmap}

-- Lists

range-below : (a n m : ℕ) → a + n ≤ m → All (λ i. i < m) (range_with_len a n)
range-below a zero m h = All-nil (λ i. i < m)
range-below a (suc n) m h = All-cons (λ i. i < m) a (range_with_len (a + 1) n) (omega (arith, h)) (range-below (a + 1) n m (omega (arith, h)))

-- What is made stands in the lists

pub record IsWithin (k : Context) (xs : List Made) : Type 0 where
  pub nodes : All (IsNode k) (flat_map node_made xs)
  pub statics : All (Contains k.statics) (flat_map static_named xs)
  pub literals : All (Contains k.literals) (flat_map literal_named xs)

within-left : (k : Context) (xs ys : List Made) → IsWithin k (xs ++ ys) → IsWithin k xs
within-left k xs ys h = record {
  nodes = flat-left (IsNode k) node_made xs ys h.nodes;
  statics = flat-left (Contains k.statics) static_named xs ys h.statics;
  literals = flat-left (Contains k.literals) literal_named xs ys h.literals;
}

within-right : (k : Context) (xs ys : List Made) → IsWithin k (xs ++ ys) → IsWithin k ys
within-right k xs ys h = record {
  nodes = flat-right (IsNode k) node_made xs ys h.nodes;
  statics = flat-right (Contains k.statics) static_named xs ys h.statics;
  literals = flat-right (Contains k.literals) literal_named xs ys h.literals;
}

module _ (k : Context) where
  abbrev IsLocal : MadeObject → Type 0
  IsLocal o = k.runs ≡ true → k.file ≡ false → Contains k.variables (o.home, o.type)

  one-made : (m : Made) → IsWithin k (m ∷ []) → All IsLocal (flat_map local_made (m ∷ [])) → IsMade k m
  one-made (made.Written place n) h l = All-head (IsNode k) n [] h.nodes
  one-made (made.Address n) h l = All-head (IsNode k) n [] h.nodes
  one-made (made.Copy t) h l = tt
  one-made (made.Literal pieces n t) h l = (All-head (IsNode k) n [] h.nodes, All-head (Contains k.literals) (n, t) [] h.literals)
  one-made (made.Name name home.None t) h l = tt
  one-made (made.Name name (home.Static n) t) h l =
      (All-head (IsNode k) n [] h.nodes, All-head (Contains k.statics) (n, t) [] h.statics)
  one-made (made.Name name (home.Known n) t) h l = tt
  one-made (made.Name name (home.Parameter n) t) h l = All-head (IsNode k) n [] h.nodes
  one-made (made.Name name (home.Local n) t) h l = (All-head (IsNode k) n [] h.nodes, All-head IsLocal (named_object name n t) [] l)

  pub all-made : (xs : List Made) → IsWithin k xs → All IsLocal (flat_map local_made xs) → AreMade k xs
  all-made [] h l = All-nil (IsMade k)
  all-made (m ∷ ms) h l =
      All-cons (IsMade k) m ms (one-made m (within-left k (m ∷ []) ms h) (flat-left IsLocal local_made (m ∷ []) ms l))
      (all-made ms (within-right k (m ∷ []) ms h) (flat-right IsLocal local_made (m ∷ []) ms l))

-- Homes are apart

abbrev pub as_variable : ℕ → Made → ℕ
as_variable n (made.Name name (home.Local m) t) = one n m
as_variable n (made.Name name (home.Parameter m) t) = one n m
as_variable n m = 0

abbrev as_static : ℕ → Made → ℕ
as_static n (made.Name name (home.Static m) t) = one n m
as_static n m = 0

module _ (n : ℕ) where
  abbrev pub sum_of : (Made → ℕ) → List Made → ℕ
  sum_of f [] = 0
  sum_of f (m ∷ ms) = f m + sum_of f ms

  pub sum-append : (f : Made → ℕ) (xs ys : List Made) → sum_of f (xs ++ ys) ≡ sum_of f xs + sum_of f ys
  sum-append f [] ys = omega arith
  sum-append f (x ∷ xs) ys = let r = sum-append f xs ys in omega (arith, r)

  one-most : (m : Made) → as_variable n m + as_static n m ≤ count n (node_made m)
  one-most (made.Written place i) = omega arith
  one-most (made.Address i) = omega arith
  one-most (made.Copy t) = omega arith
  one-most (made.Literal pieces i t) = omega arith
  one-most (made.Name name home.None t) = omega arith
  one-most (made.Name name (home.Static i) t) = omega arith
  one-most (made.Name name (home.Known i) t) = omega arith
  one-most (made.Name name (home.Parameter i) t) = omega arith
  one-most (made.Name name (home.Local i) t) = omega arith

  both-most : (xs : List Made) → sum_of (as_variable n) xs + sum_of (as_static n) xs ≤ count n (flat_map node_made xs)
  both-most [] = omega arith
  both-most (m ∷ ms) =
      let r = both-most ms in let o = one-most m in let c = count-append n (node_made m) (flat_map node_made ms) in omega (arith, r, o, c)

-- what is among the homes is counted

statics-counted : (xs : List Made) → All (λ (o : Named). 1 ≤ sum_of o.0.0 (as_static o.0.0) xs) (flat_map static_named xs)
statics-counted [] = All-nil (λ (o : Named). 1 ≤ sum_of o.0.0 (as_static o.0.0) [])
statics-counted (m ∷ ms) =
    let P : Named → Type 0 = λ o. 1 ≤ sum_of o.0.0 (as_static o.0.0) (m ∷ ms) in
    All-append P (static_named m) (flat_map static_named ms) (own m)
    (All-weaker (λ (o : Named). 1 ≤ sum_of o.0.0 (as_static o.0.0) ms) P (λ o h. omega (arith, h)) (flat_map static_named ms) (statics-counted ms))
  where
    own : (m : Made) → All (λ (o : Named). 1 ≤ as_static o.0.0 m + sum_of o.0.0 (as_static o.0.0) ms) (static_named m)
    own (made.Name name (home.Static i) t) =
        let e = one-self i in All-cons (λ (o : Named). 1 ≤ as_static o.0.0 (made.Name name (home.Static i) t) + sum_of o.0.0 (as_static o.0.0) ms)
        (i, t) [] (omega (arith, e))
        (All-nil (λ (o : Named). 1 ≤ as_static o.0.0 (made.Name name (home.Static i) t) + sum_of o.0.0 (as_static o.0.0) ms))
    own m = All-nil (λ (o : Named). 1 ≤ as_static o.0.0 m + sum_of o.0.0 (as_static o.0.0) ms)

abbrev IsCountedIn : List Made → Named → Type 0
IsCountedIn xs o = 1 ≤ sum_of o.0.0 (as_variable o.0.0) xs

locals-counted : (xs : List Made) → All (λ (o : MadeObject). IsCountedIn xs (o.home, o.type)) (flat_map local_made xs)
locals-counted [] = All-nil (λ (o : MadeObject). IsCountedIn [] (o.home, o.type))
locals-counted (m ∷ ms) =
    let P : MadeObject → Type 0 = λ o. IsCountedIn (m ∷ ms) (o.home, o.type) in
    All-append P (local_made m) (flat_map local_made ms) (own m)
    (All-weaker (λ (o : MadeObject). IsCountedIn ms (o.home, o.type)) P (λ o h. omega (arith, h)) (flat_map local_made ms) (locals-counted ms))
  where
    own : (m : Made) → All (λ (o : MadeObject). IsCountedIn (m ∷ ms) (o.home, o.type)) (local_made m)
    own (made.Name name (home.Local i) t) = let e = one-self i in
        All-cons (λ (o : MadeObject). IsCountedIn (made.Name name (home.Local i) t ∷ ms) (o.home, o.type)) (named_object name i t) []
        (omega (arith, e)) (All-nil (λ (o : MadeObject). IsCountedIn (made.Name name (home.Local i) t ∷ ms) (o.home, o.type)))
    own m = All-nil (λ (o : MadeObject). IsCountedIn (m ∷ ms) (o.home, o.type))

-- parameters

module _ (n : ℕ) where
  abbrev pub vars : List Made → ℕ
  vars xs = sum_of n (as_variable n) xs

  pub vars-append : (xs ys : List Made) → vars (xs ++ ys) ≡ vars xs + vars ys
  vars-append xs ys = sum-append n (as_variable n) xs ys

  nearest-vars : (parts : TypedParts) (outer : TypedParameters)
      → vars (made_by_parameters (nearest_parameters parts outer)) ≤ vars (made_by_parts parts) + vars (made_by_parameters outer)
  nearest-vars typed.NoPart outer = omega arith
  nearest-vars (typed.AndArray all at words) outer = let r = nearest-vars all typed.NoParameter in omega (arith, r)
  nearest-vars (typed.AndSizedArray all at words e size) outer =
      let r = nearest-vars all typed.NoParameter in let a = vars-append (made_by_parts all) (made_by e) in omega (arith, r, a)
  nearest-vars (typed.AndFunction all at ps) outer =
      let r = nearest-vars all ps in let a = vars-append (made_by_parts all) (made_by_parameters ps) in omega (arith, r, a)

  starred-vars : (stars : List TypedStar) (outer : TypedParameters)
      → vars (made_by_parameters (unless_starred stars outer)) ≤ vars (made_by_parameters outer)
  starred-vars [] outer = omega arith
  starred-vars (star ∷ stars) outer = omega arith

  mutual
    pub form-vars : (form : TypedForm) (t : TypeId) (outer : TypedParameters)
        → vars (made_by_parameters (parameters_in_form form outer)) ≤ vars (made_by_form form t) + vars (made_by_parameters outer)
    form-vars (typed.Form stars core parts) t outer =
        let a = core-vars core t (nearest_parameters parts (unless_starred stars outer)) in
        let b = nearest-vars parts (unless_starred stars outer) in
        let c = starred-vars stars outer in
        let d = vars-append (made_by_stars stars ++ made_by_core core t) (made_by_parts parts) in
        let e = vars-append (made_by_stars stars) (made_by_core core t) in omega (arith, a, b, c, d, e)

    core-vars : (core : TypedCore) (t : TypeId) (found : TypedParameters)
        → vars (made_by_parameters (parameters_in_core core found)) ≤ vars (made_by_core core t) + vars (made_by_parameters found)
    core-vars (typed.Names name home) t found = omega arith
    core-vars typed.Unnamed t found = omega arith
    core-vars (typed.Nested at form) t found = form-vars form t found

home-counted : (form : TypedForm) (t : TypeId) (i : NodeId) → home_of_form form ≡ home.Parameter i → 1 ≤ vars i.0 (made_by_form form t)
home-counted (typed.Form stars (typed.Names name h) parts) t i q =
    let a = vars-append i.0 (made_by_stars stars ++ (Name name h t ∷ [])) (made_by_parts parts) in
    let b = vars-append i.0 (made_by_stars stars) (Name name h t ∷ []) in
    let c : as_variable i.0 (Name name h t) ≡ 1 = ap (λ (x : Home). as_variable i.0 (Name name x t)) q ∙ one-self i in omega (arith, a, b, c)
home-counted (typed.Form stars typed.Unnamed parts) t i q = absurd (no_home i q)
home-counted (typed.Form stars (typed.Nested at form) parts) t i q =
    let r = home-counted form t i q in
    let a = vars-append i.0 (made_by_stars stars ++ made_by_form form t) (made_by_parts parts) in
    let b = vars-append i.0 (made_by_stars stars) (made_by_form form t) in omega (arith, r, a, b)

declared-counted : (d : TypedDeclared) (t : TypeId)
    → All (IsCountedIn (made_by_declared d t)) (parameter_named (record { home = parameter_home (declared_home d); type = t }))
declared-counted typed.NotDeclared t = All-nil (IsCountedIn (made_by_declared typed.NotDeclared t))
declared-counted (typed.DeclaredBy form) t = by (home_of_form form) refl
  where
    by : (h : Home) → home_of_form form ≡ h → All (IsCountedIn (made_by_form form t)) (parameter_named (record { home = parameter_home h; type = t }))
    by (home.Parameter i) q =
        All-cons (IsCountedIn (made_by_form form t)) (i, t) [] (home-counted form t i q) (All-nil (IsCountedIn (made_by_form form t)))
    by home.None q = All-nil (IsCountedIn (made_by_form form t))
    by (home.Static i) q = All-nil (IsCountedIn (made_by_form form t))
    by (home.Local i) q = All-nil (IsCountedIn (made_by_form form t))
    by (home.Known i) q = All-nil (IsCountedIn (made_by_form form t))

parameters-counted : (ps : TypedParameters) → All (IsCountedIn (made_by_parameters ps)) (objects_of ps)
parameters-counted typed.NoParameter = All-nil (IsCountedIn [])
parameters-counted (typed.AndParameter all specifiers d adjusted t) =
    let x = made_by_parameters all in let y = made_by_specifiers specifiers in let z = made_by_declared d t in let v = made_by_adjusted adjusted in
    let P : Named → Type 0 = IsCountedIn (x ++ y ++ z ++ v) in
    let own : ParameterObject = record { home = parameter_home (declared_home d); type = t } in
    let sums : (n : ℕ) → vars n (x ++ y ++ z ++ v) ≡ vars n x + vars n y + vars n z + vars n v = λ n.
    let a = vars-append n (x ++ y ++ z) v in let b = vars-append n (x ++ y) z in let c = vars-append n x y in omega (arith, a, b, c) in
    subst (All P) (sym (flat-append parameter_named (parameter_objects all) own))
    (All-append P (objects_of all) (parameter_named own)
    (All-weaker (IsCountedIn x) P (λ o h. let s = sums o.0.0 in omega (arith, h, s)) (objects_of all) (parameters-counted all))
    (All-weaker (IsCountedIn z) P (λ o h. let s = sums o.0.0 in omega (arith, h, s)) (parameter_named own) (declared-counted d t)))

-- a function's variables are counted where it stands
variables-counted : (form : TypedForm) (t : TypeId) (body : TypedBlockItems) (whole : List Made)
    → ((n : ℕ) → vars n (made_by_form form t) + vars n (made_by_block_items body) ≤ vars n whole)
    → All (IsCountedIn whole) (variables_named (record { declarator = typed.Declares form t; body = body }))
variables-counted form t body whole most =
    subst (All (IsCountedIn whole)) (sym (variables-are form t body))
    (All-append (IsCountedIn whole) (objects_of (parameters_in_form form typed.NoParameter)) (map made_named (locals_of body))
    (All-weaker (IsCountedIn (made_by_parameters (parameters_in_form form typed.NoParameter))) (IsCountedIn whole)
    (λ o h. let m = most o.0.0 in let f = form-vars o.0.0 form t typed.NoParameter in omega (arith, h, m, f))
    (objects_of (parameters_in_form form typed.NoParameter)) (parameters-counted (parameters_in_form form typed.NoParameter)))
    (All-map (IsCountedIn whole) made_named (locals_of body)
    (All-weaker (λ (o : MadeObject). IsCountedIn (made_by_block_items body) (o.home, o.type)) (λ (o : MadeObject). IsCountedIn whole (made_named o))
    (λ o h. let m = most o.home.0 in omega (arith, h, m)) (locals_of body) (locals-counted (made_by_block_items body)))))

-- The whole

module _ (T : Table) (w : IsWellFormed T) (u : TypedTranslationUnit) (after : units.Known)
    (numbered : map (λ (n : NodeId). n.0) (nodes_made (made_by_unit u)) ≡ range_with_len 0 (length (nodes_made (made_by_unit u)))) where
  abbrev base : Context
  base = context_of (static_stage T u) after.linked

  pub within : IsWithin base (made_by_unit u)
  within = record {
    nodes = unmap (λ (i : ℕ). i < length (nodes_made (made_by_unit u))) (λ (n : NodeId). n.0) (nodes_made (made_by_unit u))
        (subst (All (λ (i : ℕ). i < length (nodes_made (made_by_unit u)))) (sym numbered)
        (range-below 0 (length (nodes_made (made_by_unit u))) (length (nodes_made (made_by_unit u))) (omega arith)));
    statics = All-contains_itself (flat_map static_named (made_by_unit u));
    literals = All-contains_itself (flat_map literal_named (made_by_unit u));
  }

  apart : (f : DefinedFunction) → All (IsCountedIn (made_by_unit u)) (variables_named f) → IsApart base f
  apart f vs h t v c d =
      let a = All-contains (λ (o : Named). 1 ≤ sum_of o.0.0 (as_static o.0.0) (made_by_unit u)) (flat_map static_named (made_by_unit u)) (h, t)
      (statics-counted (made_by_unit u)) c in
      let b = All-contains (IsCountedIn (made_by_unit u)) (variables_named f) (h, v) vs d in
      let e = both-most h.0 (made_by_unit u) in
      let r = (range-once h.0 0 (length (nodes_made (made_by_unit u))) (nodes_made (made_by_unit u)) numbered).1 in
      omega (arith, a, b, e, r)

  no_locals : (k : Context) → k.file ≡ true → (xs : List MadeObject) → All (IsLocal k) xs
  no_locals k f [] = All-nil (IsLocal k)
  no_locals k f (o ∷ os) = All-cons (IsLocal k) o os (λ r g. absurd (true≢false (sym f ∙ g))) (no_locals k f os)

  in-file : (xs : List Made) → IsWithin base xs → AreMade (file_of base) xs
  in-file xs h =
      all-made (file_of base) xs (record { nodes = h.nodes; statics = h.statics; literals = h.literals })
      (no_locals (file_of base) refl (flat_map local_made xs))

  in-function : (f : DefinedFunction) → IsWithin base (made_by_block_items f.body) → AreMade (in_body base f) (made_by_block_items f.body)
  in-function f h =
      let k = in_body base f in
      let vs = all-right (Contains (variables_named f)) (flat_map parameter_named (parameters_of f.declarator)) (map made_named (locals_of f.body))
      (All-contains_itself (variables_named f)) in
      all-made k (made_by_block_items f.body) (record { nodes = h.nodes; statics = h.statics; literals = h.literals })
      (All-weaker (λ (o : MadeObject). Contains (variables_named f) (made_named o)) (IsLocal k) (λ o c r g. c) (locals_of f.body)
      (unmap (Contains (variables_named f)) made_named (locals_of f.body) vs))

  externals : (p : TypedTranslationUnit) → IsWithin base (made_by_unit p) → ((n : ℕ) → vars n (made_by_unit p) ≤ vars n (made_by_unit u))
      → AreListed base (declarators_in p) → AreExternalsMade base p
  externals typed.NoExternal h most listed = tt
  externals (typed.AndExternal p d) h most listed = (
    externals p (within-left base (made_by_unit p) (made_by_declaration d) h)
        (λ n. let m = most n in let a = vars-append n (made_by_unit p) (made_by_declaration d) in omega (arith, m, a))
        (all-left (Contains base.declarators) (declarators_in p) (declarators_in_declaration d) listed),
    in-file (made_by_declaration d) (within-right base (made_by_unit p) (made_by_declaration d) h),
    all-right (Contains base.declarators) (declarators_in p) (declarators_in_declaration d) listed,
  )
  externals (typed.AndFunctionBody p specifiers (typed.Declares form t) brace body) h most listed =
      let x = made_by_unit p in let y = made_by_specifiers specifiers in let z = made_by_form form t in let v = made_by_block_items body in
      let d = typed.Declares form t in
      let f : DefinedFunction = record { declarator = d; body = body } in
      let h3 = within-left base (x ++ y ++ z) v h in
      let h2 = within-left base (x ++ y) z h3 in
      let sums : (n : ℕ) → vars n (x ++ y ++ z ++ v) ≡ vars n x + vars n y + vars n z + vars n v = λ n.
      let a = vars-append n (x ++ y ++ z) v in let b = vars-append n (x ++ y) z in let c = vars-append n x y in omega (arith, a, b, c) in
      let later = all-right (Contains base.declarators) (declarators_in p) (d ∷ declarators_in_items body) listed in (
        externals p (within-left base x y h2) (λ n. let m = most n in let s = sums n in omega (arith, m, s))
            (all-left (Contains base.declarators) (declarators_in p) (d ∷ declarators_in_items body) listed),
        record {
          specified = in-file y (within-right base x y h2);
          formed = in-file z (within-right base (x ++ y) z h3);
          inside = in-function f (within-right base (x ++ y ++ z) v h);
          apart = apart f (variables-counted form t body (made_by_unit u) (λ n. let m = most n in let s = sums n in omega (arith, m, s)));
          own = All-head (Contains base.declarators) d (declarators_in_items body) later;
          listed = All-tail (Contains base.declarators) d (declarators_in_items body) later;
        },
      )

  pub unit-ready : IsUnitTyped T u (known_before u) after → IsClosed T after.scopes → AreExternalsReady base u
  unit-ready h c = whole-ready T w u after h c (externals u within (λ n. omega arith) (All-contains_itself (declarators_in u)))

-- What is known of the stages of a well typed unit holds of what its code stands in.
use Rattle.std.specs.List.{All, Contains, IsDistinct, AllByRecursion}
use Rattle.std.proofs.Common.{◌≡◌, ℕ, zero, suc, pos, Bool, true, false, List, [], ◌∷◌, ◌++◌, map, flat_map, slice_get, Option, Some, IsSome, option_map, inl, inr, refl, ap, sym, subst, ◌∙◌, nat_eq, arith}
use Rattle.std.proofs.lemmas.List.Elements.{All-nil, All-head, All-map, All-weaker, All-contains, Contains-append_left, Contains-append_right}
use Rattle.std.proofs.lemmas.Option.{none-some}
use Rattle.std.proofs.lemmas.Bool.Decides.{nat_tests}
use Rattle.cc_base.specs.declared.number.NodeId.{NodeId}
use Rattle.cc_base.specs.declared.number.TypeId.{TypeId}
use Rattle.c_types.specs.declared.shape.TypeShape.TheVariants as shape
use Rattle.c_types.specs.declared.shape.TypeShape.{TypeShape}
use Rattle.kind_sites.specs.declared.site.Site.TheVariants as site
use Rattle.c_types.specs.Sound.{IsProper, IsIntegerSize}
use Rattle.c_types.specs.Table.{Table, IsType, HasShape, named_by, is_function_shape}
use Rattle.c_tree.specs.declared.leaf.Identifier.{Identifier}
use Rattle.c_tree.specs.TypedTree.{TypedTranslationUnit}
use Rattle.c_tree.specs.TypedParts as made
use Rattle.c_tree.specs.TypedParts.{Made, MadeObject, DefinedFunction, static_made, declared_type, statics_of, functions_of, made_by_unit}
use Rattle.c_typing.specs.Declarators.{name_bytes}
use Rattle.integers.specs.Arithmetic.{IntegerType, converted}
use Rattle.c_ready.specs.Ready.{Stage, Named, IsNode, IsWhole, IsReadyUnit, IsReadyFunction, IsStaticNamed, IsObjectOf, IsFunctionNamed, IsFunctionDeclared, static_stage, literal_named, made_named, variables_named}
use Rattle.c_ready.proofs.Basics.{at-index, unmap}
use Rattle.c_ready.proofs.Gathered.{functions-declared}
use Rattle.type_laws.proofs.SameTypes.{same-is-equal}
use Rattle.unit_sites.proofs.Elements.{flat, unflat}
use Rattle.unit_sites.proofs.FramesNamed.{made_plan, plan_named, frame-named}
use Rattle.unit_sites.proofs.NamesAlike.{objects-alike, functions-alike, alike-function_left, alike-function_right, physical, physical-both}
use Rattle.c_ready.proofs.Suits.{function-in}
use Rattle.unit_sites.proofs.ObjectsAlike.{objects_made, one-type, statics-named}
use Rattle.unit_sites.proofs.SitesTold.{pointers-told}
use Rattle.src_mem.specs.Memory.{Planned}
use Rattle.src_mem.specs.Runs as runs
use Rattle.src_mem.specs.Runs.{variables_of, planned}
use Rattle.src_machine.specs.Machine as source
use Rattle.src_machine.specs.Names.{declarators_in}
use Rattle.cil_form.specs.declared.program.Function.{Function}
use Rattle.cil_form.specs.declared.program.Program.{Program}
use Rattle.cil_form.specs.declared.program.Static.{Static}
use Rattle.cil_form.specs.Machine.{plan}
use Rattle.cil_form.specs.Typing.{no_types, IsNamedAs, ArePhysicallyEqual, AreDeclaredAlike}
use Rattle.lower_rules.specs.Units.{IsCodeOfFunction, AreCodeOf}
use Rattle.lower_rules.specs.Units as lowered
use Rattle.lower_shape.specs.Lowered.{IsLoweredFrom}
use Rattle.lower_shape.specs.Stands.{Frame, stand, Knows}
use Rattle.lower_shape.proofs.Addresses.{In, in-left, in-right}
use Rattle.lower_shape.proofs.Lists.{in-contained, contained-in, all-in, in-map, in-image, slice-map}
use Rattle.lower_shape.proofs.Objects.{AreApart, IsPlanned, objects-known}

-- Plans of objects

abbrev named_plan : Named → Planned
named_plan o = record { type = o.1; node = o.0 }

abbrev static_plan : runs.Static → Planned
static_plan s = record { type = s.type; node = s.home }

plans-of : (ss : List Static) → map static_plan (map (λ (o : Static). record { type = o.planned.ty; home = o.planned.home; text = o.text }) ss)
    ≡ map (λ s. plan s.planned) ss
plans-of [] = refl
plans-of (s ∷ ss) = ap (λ (xs : List Planned). plan s.planned ∷ xs) (plans-of ss)

plans-in : (os : List MadeObject)
    → map static_plan (map (λ (o : MadeObject). record { type = o.type; home = o.home; text = option_map source.text_of o.literal }) os)
    ≡ map made_plan os
plans-in [] = refl
plans-in (o ∷ os) = ap (λ (xs : List Planned). made_plan o ∷ xs) (plans-in os)

homes-in : (os : List MadeObject) → map (λ (o : Planned). o.node) (map made_plan os) ≡ map (λ (o : MadeObject). o.home) os
homes-in [] = refl
homes-in (o ∷ os) = ap (λ (xs : List NodeId). o.home ∷ xs) (homes-in os)

-- Homes are apart

same-nat : (m n : ℕ) → m ≡ n → nat_eq m n ≡ false → ⊥
same-nat m n e h = grind (arith, nat_tests)

apart-from : (n : ℕ) (ys : List ℕ) → AllByRecursion (λ m. nat_eq n m ≡ false) ys → In n ys → ⊥
apart-from n [] h q = q
apart-from n (y ∷ ys) h (inl e) = same-nat n y e h.0
apart-from n (y ∷ ys) h (inr q) = apart-from n ys h.1 q

apart-lists : (xs ys : List ℕ) → IsDistinct nat_eq (xs ++ ys) → (n : ℕ) → In n xs → In n ys → ⊥
unfolding IsDistinct
apart-lists [] ys d n q r = q
apart-lists (x ∷ xs) ys d n (inl e) r = apart-from x (xs ++ ys) d.0 (in-right x xs ys (subst (λ m. In m ys) e r))
apart-lists (x ∷ xs) ys d n (inr q) r = apart-lists xs ys d.1 n q r

-- a list among the lists of others
flat-in : {A B : Type 0} (f : A → List B) (xs : List A) (x : A) → In x xs → (y : B) → In y (f x) → In y (flat_map f xs)
flat-in f [] x q y r = absurd q
flat-in f (z ∷ zs) x (inl e) y r = in-left y (f z) (flat_map f zs) (subst (λ w. In y (f w)) e r)
flat-in f (z ∷ zs) x (inr q) y r = in-right y (f z) (flat_map f zs) (flat-in f zs x q y r)

-- Functions

pub code-at : (T : Table) (statics : List NodeId) (ds : List DefinedFunction) (fs : List Function) → AreCodeOf T statics ds fs
    → (i : ℕ) (d : DefinedFunction) → slice_get ds i ≡ Some d → (f : Function) × (slice_get fs i ≡ Some f) × IsCodeOfFunction T statics d f
code-at T statics [] [] h i d e = absurd (none-some d e)
code-at T statics [] (f ∷ fs) h i d e = absurd h
code-at T statics (x ∷ ds) [] h i d e = absurd h
code-at T statics (x ∷ ds) (f ∷ fs) h zero d e = (f, refl, subst (λ z. IsCodeOfFunction T statics z f) (same x d e) h.0)
  where
    same : (a b : DefinedFunction) → Some a ≡ Some b → a ≡ b
    same a b g = cc
code-at T statics (x ∷ ds) (f ∷ fs) h (suc i) d e = code-at T statics ds fs h.1 i d e

-- Numbers

one-fits : (bytes : ℕ) (signed : Bool) → IsIntegerSize bytes → converted (record { bytes = bytes; signed = signed }) (pos 1) ≡ pos 1
one-fits bytes signed h = elim h [
  | inl e ↦ subst (λ n. converted (record { bytes = n; signed = signed }) (pos 1) ≡ pos 1) (sym e) (by signed)
  | inr h ↦ elim h [
    | inl e ↦ subst (λ n. converted (record { bytes = n; signed = signed }) (pos 1) ≡ pos 1) (sym e) (by2 signed)
    | inr h ↦ elim h [
      | inl e ↦ subst (λ n. converted (record { bytes = n; signed = signed }) (pos 1) ≡ pos 1) (sym e) (by4 signed)
      | inr e ↦ subst (λ n. converted (record { bytes = n; signed = signed }) (pos 1) ≡ pos 1) (sym e) (by8 signed)
    ]
  ]
]
  where
    by : (s : Bool) → converted (record { bytes = 1; signed = s }) (pos 1) ≡ pos 1
    by true = refl
    by false = refl

    by2 : (s : Bool) → converted (record { bytes = 2; signed = s }) (pos 1) ≡ pos 1
    by2 true = refl
    by2 false = refl

    by4 : (s : Bool) → converted (record { bytes = 4; signed = s }) (pos 1) ≡ pos 1
    by4 true = refl
    by4 false = refl

    by8 : (s : Bool) → converted (record { bytes = 8; signed = s }) (pos 1) ≡ pos 1
    by8 true = refl
    by8 false = refl

-- literals are static objects
literals-named : (P : Named → Type 0) (ms : List Made) → All P (map made_named (flat_map static_made ms)) → All P (flat_map literal_named ms)
literals-named P ms h =
    flat P literal_named ms
    (All-weaker (λ m. All (λ o. P (made_named o)) (static_made m)) (λ m. All P (literal_named m)) own ms
    (unflat (λ o. P (made_named o)) static_made ms (unmap P made_named (flat_map static_made ms) h)))
  where
    own : (m : Made) → All (λ o. P (made_named o)) (static_made m) → All P (literal_named m)
    own (made.Literal pieces n t) q = All-map P (λ (x : Named). x) ((n, t) ∷ []) (All-map P made_named (static_made (made.Literal pieces n t)) q)
    own (made.Name name home t) q = All-nil P
    own (made.Written place n) q = All-nil P
    own (made.Address n) q = All-nil P
    own (made.Copy t) q = All-nil P

module _ (u : TypedTranslationUnit) (p : Program) (w : IsReadyUnit p.types u) (l : IsLoweredFrom u p) where
  abbrev pub T : Table
  T = p.types

  abbrev pub static : Stage
  static = static_stage p.types u

  -- what code with these variables names, which gives this
  abbrev pub frame_in : List Planned → Option TypeId → Frame
  frame_in vs result = record {
    sites = p.sites;
    statics = map (λ s. plan s.planned) p.statics;
    variables = vs;
    functions = map (λ f. f.ty) p.functions;
    result = result;
  }

  abbrev pub stage_in : List Named → Bool → Stage
  stage_in variables calls = record static { variables = variables; calls = calls }

  pub statics-plans : map (λ s. plan s.planned) p.statics ≡ map made_plan (statics_of u)
  statics-plans = sym (plans-of p.statics) ∙ (ap (λ (ss : List runs.Static). map static_plan ss) l.code.statics ∙ plans-in (statics_of u))

  pub statics-homes : map (λ (o : Planned). o.node) (map (λ s. plan s.planned) p.statics) ≡ lowered.homes_of u
  statics-homes = ap (λ (ps : List Planned). map (λ (o : Planned). o.node) ps) statics-plans ∙ homes-in (statics_of u)

  -- Objects

  abbrev IsPlaced : Named → Type 0
  IsPlaced o = In (named_plan o) (map (λ s. plan s.planned) p.statics)

  all-placed : All IsPlaced (map made_named (statics_of u))
  all-placed =
      subst (λ (ps : List Planned). All (λ (o : Named). In (named_plan o) ps) (map made_named (statics_of u))) (sym statics-plans)
      (All-map (λ (o : Named). In (named_plan o) (map made_plan (statics_of u))) made_named (statics_of u)
      (All-weaker (λ o. In o (statics_of u)) (λ o. In (made_plan o) (map made_plan (statics_of u)))
      (λ o q. in-map made_plan (statics_of u) o q) (statics_of u) (all-in (statics_of u))))

  statics-placed : (h : NodeId) (t : TypeId) → Contains static.statics (h, t) → IsPlaced (h, t)
  statics-placed h t c = All-contains IsPlaced static.statics (h, t) (statics-named IsPlaced (made_by_unit u) all-placed) c

  literals-placed : (h : NodeId) (t : TypeId) → Contains static.literals (h, t) → IsPlaced (h, t)
  literals-placed h t c = All-contains IsPlaced static.literals (h, t) (literals-named IsPlaced (made_by_unit u) all-placed) c

  statics-whole : (h : NodeId) (t : TypeId) → Contains static.statics (h, t) → IsWhole static t
  statics-whole h t c =
      All-contains (λ (o : Named). IsWhole static o.1) static.statics (h, t)
      (statics-named (λ (o : Named). IsWhole static o.1) (made_by_unit u) (All-map (λ (o : Named). IsWhole static o.1) made_named (statics_of u)
      (All-weaker (λ (o : MadeObject). IsNode static o.home × IsWhole static o.type) (λ (o : MadeObject). IsWhole static o.type) (λ o q. q.1)
      (statics_of u) w.objects.plans))) c

  named-as : (vs : List Planned) (result : Option TypeId) (h : NodeId) (t : TypeId) → IsWhole static t → (r : IsStaticNamed static h t)
      → IsNamedAs (stand static (frame_in vs result) 0 no_types) r.first t
  named-as vs result h t whole r = elim r.alike [
    | inl e ↦ inl e
    | inr s ↦
        let f = statics-whole h r.first r.made in
        inr (
          physical p.types w.basic.formed r.first t f.0 whole.0 (inr s),
          subst (λ sites. AreDeclaredAlike sites r.first t) (sym l.sites)
              (objects-alike p.types u h r.first t f.1 whole.1 r.begun r.declared),
        )
  ]

  objects-in : (variables : List Named) (vs : List Planned) (calls : Bool) (result : Option TypeId)
      → ((h : NodeId) (t : TypeId) → Contains variables (h, t) → In (record { type = t; node = h }) vs)
      → (h : NodeId) (t : TypeId) → IsObjectOf true (stage_in variables calls) h t
      → IsPlanned (stage_in variables calls) (frame_in vs result) h t
  objects-in variables vs calls result there h t (n, whole, object) = elim object [
    | inl c ↦ inl (there h t c)
    | inr r ↦
        let own : IsStaticNamed static h t = record { first = r.first; made = r.made; alike = r.alike; declared = r.declared; begun = r.begun } in
        inr (r.first, statics-placed h r.first r.made, named-as vs result h t whole own)
  ]

  -- Functions

  functions-in : (variables : List Named) (vs : List Planned) (calls : Bool) (result : Option TypeId)
      → (name : Identifier) (number : ℕ) (n : NodeId) (t : TypeId) (named : IsFunctionNamed (stage_in variables calls) name number n t)
      → (v : TypeId) × (slice_get (map (λ f. f.ty) p.functions) number ≡ Some v)
      × ArePhysicallyEqual (stand (stage_in variables calls)
      (frame_in vs result) 0 no_types) named.function v × AreDeclaredAlike p.sites named.function v
  functions-in variables vs calls result name number n t named =
      let d = named.defined in
      let at = code-at p.types (lowered.homes_of u) (functions_of u) p.functions l.code.functions number d named.there in
      let type : at.0.ty ≡ declared_type d.declarator = ap (λ (h : runs.Head). h.type) at.2.head in
      let own = at-index (IsReadyFunction static) (functions_of u) w.functions number d named.there in
      let function = ap is_function_shape own.types.1 in
      let first = alike-function_left p.types named.first (declared_type d.declarator) named.alike.1 function in
      let other = alike-function_right p.types named.first named.function named.alike.0 first in
      let told : IsFunctionDeclared static name.bytes (declared_type d.declarator) = (
        d.declarator,
        at-index (λ (f : DefinedFunction). Contains (declarators_in u) f.declarator) (functions_of u)
            (functions-declared u) number d named.there,
        (own.name, own.named, ap name_bytes (sym own.named) ∙ named.named),
        refl,
      ) in (
        declared_type d.declarator,
        slice-map (λ f. f.ty) p.functions number at.0 at.1 ∙ ap (λ (x : TypeId). Some x) type,
        physical-both p.types w.basic.formed named.first named.function (declared_type d.declarator) (function-in p.types named.first first)
            (function-in p.types named.function other) own.types.0 named.alike.0 named.alike.1,
        subst (λ sites. AreDeclaredAlike sites named.function (declared_type d.declarator)) (sym l.sites)
            (functions-alike p.types u name.bytes named.function (declared_type d.declarator) other function named.declared told),
      )

  -- Types

  pointee-in : (a : TypeId) (n : NodeId) (t : TypeId) → HasShape p.types a (shape.Pointer n t) → IsType p.types t
  pointee-in a n t h =
      All-head (IsType p.types) t [] (subst (λ (x : TypeShape). All (IsType p.types) (named_by x)) h.1 (w.basic.formed.each a).named)

  ones-fit : (t : TypeId) (i : IntegerType) → HasShape p.types t (shape.Integer i.bytes i.signed) → converted i (pos 1) ≡ pos 1
  ones-fit t i h = one-fits i.bytes i.signed (subst IsProper h.1 (w.basic.formed.each t).proper)

  -- The whole

  pub known : (variables : List Named) (vs : List Planned) (calls : Bool) (result : Option TypeId) → (calls ≡ true → IsSome result)
      → AreApart (frame_in vs result) → ((h : NodeId) (t : TypeId) → Contains variables (h, t) → In (record { type = t; node = h }) vs)
      → Knows (stage_in variables calls) (frame_in vs result)
  known variables vs calls result gives apart there = record {
    runs = refl;
    calls = gives;
    objects = λ o h t e object. objects-known (stage_in variables calls) (frame_in vs result) apart o h t e
        (objects-in variables vs calls result there h t object);
    literals = λ o h t e literal. objects-known (stage_in variables calls) (frame_in vs result) apart o h t e
        (inr (t, literals-placed h t literal.1, inl refl));
    functions = functions-in variables vs calls result;
    same = λ a b m n t v x y h. same-is-equal p.types w.basic.formed t v (pointee-in a m t x) (pointee-in b n v y) h;
    nodes = λ t n v h. w.nodes t v n h;
    basic = w.basic.integers (record { bytes = 4; signed = true }) (inr (inr (inl refl)));
    long = w.basic.integers (record { bytes = 8; signed = false }) (inr (inr (inr refl)));
    ones = ones-fit;
    pointees = λ t n v h. subst (λ sites. Contains sites (site.Pointee n v)) (sym l.sites) (pointers-told u p.types t n v h);
  }

  -- no two objects of a function and the unit have one home

  statics-made : (q : Planned) → In q (map (λ s. plan s.planned) p.statics) → In q (map made_plan (statics_of u))
  statics-made q r = subst (λ ps. In q ps) statics-plans r

  static-object : (q : Planned) → In q (map (λ s. plan s.planned) p.statics) → Contains (objects_made u) (q.node, q.type)
  static-object q r =
      let i = in-image made_plan (statics_of u) q (statics-made q r) in
      subst (λ (x : Planned). Contains (objects_made u) (x.node, x.type)) i.2
      (Contains-append_left (map made_named (statics_of u)) (flat_map variables_named (functions_of u)) (made_named i.0)
      (contained-in (map made_named (statics_of u)) (made_named i.0) (in-map made_named (statics_of u) i.0 i.1)))

  frame-in : (d : DefinedFunction) (q : Planned) → In q (variables_of (source.head_of d)) → In (plan_named q) (variables_named d)
  frame-in d q r = subst (λ xs. In (plan_named q) xs) (frame-named d) (in-map plan_named (variables_of (source.head_of d)) q r)

  variable-object : (d : DefinedFunction) → In d (functions_of u) → (q : Planned) → In q (variables_of (source.head_of d))
      → Contains (objects_made u) (q.node, q.type)
  variable-object d c q r =
      Contains-append_right (map made_named (statics_of u)) (flat_map variables_named (functions_of u)) (plan_named q)
      (contained-in (flat_map variables_named (functions_of u)) (plan_named q)
      (flat-in variables_named (functions_of u) d c (plan_named q) (frame-in d q r)))

  one-plan : (q r : Planned) → Contains (objects_made u) (q.node, q.type) → Contains (objects_made u) (r.node, r.type) → q.node ≡ r.node → q ≡ r
  one-plan q r a b e =
      let same = one-type u w.objects.distinct r.node q.type r.type (subst (λ n. Contains (objects_made u) (n, q.type)) e a) b in
      ap (λ (t : TypeId). record { type = t; node = q.node }) same ∙ ap (λ (n : NodeId). record { type = r.type; node = n }) e

  pub frame-apart : (d : DefinedFunction) → In d (functions_of u) → (result : Option TypeId)
      → AreApart (frame_in (variables_of (source.head_of d)) result)
  frame-apart d c result = record {
    variables = λ q r a b e. one-plan q r (variable-object d c q a) (variable-object d c r b) e;
    statics = λ q r a b e. one-plan q r (static-object q a) (static-object r b) e;
    between = λ q r a b e.
        let i = in-image made_plan (statics_of u) r (statics-made r b) in
        apart-lists (map (λ (o : MadeObject). o.home.0) (statics_of u)) (flat_map (λ f. map (λ (o : Named). o.0.0) (variables_named f))
        (functions_of u))
        w.objects.distinct i.0.home.0 (in-map (λ (o : MadeObject). o.home.0) (statics_of u) i.0 i.1)
        (flat-in (λ f. map (λ (o : Named). o.0.0) (variables_named f)) (functions_of u) d c i.0.home.0
        (subst (λ (n : NodeId). In n.0 (map (λ (o : Named). o.0.0) (variables_named d))) (e ∙ ap (λ (x : Planned). x.node) (sym i.2))
        (in-map (λ (o : Named). o.0.0) (variables_named d) (plan_named q) (frame-in d q a))));
  }

  pub statics-apart : (result : Option TypeId) → AreApart (frame_in [] result)
  statics-apart result = record {
    variables = λ q r a b e. absurd a;
    statics = λ q r a b e. one-plan q r (static-object q a) (static-object r b) e;
    between = λ q r a b e. absurd a;
  }

  -- a variable that the stage has is planned
  pub variable-planned : (d : DefinedFunction) (h : NodeId) (t : TypeId) → Contains (variables_named d) (h, t)
      → In (record { type = t; node = h }) (variables_of (source.head_of d))
  variable-planned d h t c =
      let i = in-image plan_named (variables_of (source.head_of d)) (h, t)
      (subst (λ xs. In (h, t) xs) (sym (frame-named d)) (in-contained (variables_named d) (h, t) c)) in
      subst (λ (x : Planned). In x (variables_of (source.head_of d))) (ap named_plan i.2) i.1

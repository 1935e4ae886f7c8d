-- A well typed unit within its limits has code.
use Rattle.std.specs.List.{All, Contains, IsDistinct}
use Rattle.std.proofs.Common.{◌≡◌, ◌⊎◌, ℕ, suc, ◌<◌, ◌≤◌, nat_eq, List, [], ◌∷◌, ◌++◌, map, flat_map, length, inl, inr, refl, ap, sym, subst, ◌∙◌, true, false, None, arith}
use Rattle.std.proofs.lemmas.List.Elements.{All-nil, All-cons, All-head, All-tail, All-append, All-map, All-weaker, All-contains}
use Rattle.cc_base.specs.declared.number.NodeId.{NodeId}
use Rattle.cc_base.specs.declared.number.TypeId.{TypeId}
use Rattle.c_types.specs.Sound.{IsProper, IsIntegerSize}
use Rattle.c_types.specs.Table.{Table, shape_at}
use Rattle.integers.specs.Arithmetic.{IntegerType}
use Rattle.c_tree.specs.Depth.{unit_height}
use Rattle.c_tree.specs.Erasure.{erased_unit}
use Rattle.c_tree.specs.TypedTree.{TypedTranslationUnit}
use Rattle.c_tree.specs.TypedParts as made
use Rattle.c_tree.specs.TypedParts.{Made, MadeObject, DefinedFunction, StaticInitialiser, static_made, statics_of, functions_of, static_initialisers, made_by_unit, nodes_made}
use Rattle.c_typing.specs.Shapes.{IsIntegerType}
use Rattle.c_unit_typing.specs.Limits.{IsWithinLimits}
use Rattle.c_ready.specs.Rows.{Around}
use Rattle.c_unit_typing.specs.WellTyped.{IsWellTyped}
use Rattle.c_ready.specs.Ready as ready
use Rattle.c_ready.specs.Ready.{Stage, Named, IsNode, IsWhole, IsReadyUnit, IsReadyFunction, IsReadyStatic, IsObjectOf, static_stage, body_stage, literal_named, made_named, variables_named}
use Rattle.c_ready.proofs.Basics.{unmap}
use Rattle.c_ready.proofs.ReadyUnit.{well-typed-ready}
use Rattle.unit_sites.proofs.Elements.{every, flat, unflat}
use Rattle.unit_sites.proofs.FramesNamed.{plan_named, frame-named}
use Rattle.unit_sites.proofs.ObjectsAlike.{statics-named}
use Rattle.src_mem.specs.Memory.{Planned}
use Rattle.src_mem.specs.Operations.{integer_of_shape}
use Rattle.src_mem.specs.Runs.{variables_of}
use Rattle.src_machine.specs.Machine as source
use Rattle.src_machine.specs.Pieces.{Piece, pieces_of_unit}
use Rattle.lower_rules.specs.Units.{homes_of, outermost, static_context}
use Rattle.lower_exprs.specs.Ready.{HasObject, IsConstant}
use Rattle.lower_shape.proofs.Addresses.{In}
use Rattle.lower_shape.proofs.Functions.{all-both}
use Rattle.lower_shape.proofs.Lists.{all-in, in-contained, in-image, in-map}
use Rattle.lower_shape.proofs.Types.{integer-read}
use Rattle.lower_shape.proofs.UnitParts.{IsBodyWithin, IsStaticWithin, bodies-within, statics-within}
use Rattle.lower_units.specs.Ready.{HasCodeOfFunction, HasCodeOfUnit}
use Rattle.lower_units.specs.Statics.{HaveCodeOfStatics}
use Rattle.lower_ready.proofs.Expressions.{Numbers, low}
use Rattle.lower_ready.proofs.Initialisers.{has-object}
use Rattle.lower_ready.proofs.Objects.{numbered, apart-left, apart-right, apart-in, apart-homes, few}
use Rattle.lower_ready.proofs.Statements.{has-block}

-- Lists

length-map : {A B : Type 0} (f : A → B) (xs : List A) → length (map f xs) ≡ length xs
length-map f [] = refl
length-map f (x ∷ xs) = ap suc (length-map f xs)

maps : {A B C : Type 0} (f : A → B) (g : B → C) (xs : List A) → map g (map f xs) ≡ map (λ x. g (f x)) xs
maps f g [] = refl
maps f g (x ∷ xs) = ap (λ ys. g (f x) ∷ ys) (maps f g xs)

-- literals are static objects
literals-named : (P : Named → Type 0) (ms : List Made) → All P (map made_named (flat_map static_made ms)) → All P (flat_map literal_named ms)
literals-named P ms h =
    flat P literal_named ms
    (All-weaker (λ m. All (λ o. P (made_named o)) (static_made m)) (λ m. All P (literal_named m)) own ms
    (unflat (λ o. P (made_named o)) static_made ms (unmap P made_named (flat_map static_made ms) h)))
  where
    own : (m : Made) → All (λ o. P (made_named o)) (static_made m) → All P (literal_named m)
    own (made.Literal pieces n t) q = All-map P (λ (x : Named). x) ((n, t) ∷ []) (All-map P made_named (static_made (made.Literal pieces n t)) q)
    own (made.Name name home t) q = All-nil P
    own (made.Written place n) q = All-nil P
    own (made.Address n) q = All-nil P
    own (made.Copy t) q = All-nil P

-- of each piece nothing is asked
abbrev Any : Piece → Type 0
Any p = Unit {0}

module _ (T : Table) (u : TypedTranslationUnit) (w : IsWellTyped T u) (few-nodes : length (nodes_made (made_by_unit u)) < 4294967296) where
  abbrev static : Stage
  static = static_stage T u

  unit-ready : IsReadyUnit T u
  unit-ready = well-typed-ready T u w

  abbrev variables : DefinedFunction → List NodeId
  variables d = map (λ (v : Planned). v.node) (variables_of (source.head_of d))

  abbrev frame : DefinedFunction → List ℕ
  frame d = map (λ (o : Named). o.0.0) (variables_named d)

  abbrev statics : List ℕ
  statics = map (λ (o : MadeObject). o.home.0) (statics_of u)

  -- Homes

  frame-homes : (d : DefinedFunction) → frame d ≡ map (λ (n : NodeId). n.0) (variables d)
  frame-homes d =
      ap (map (λ (o : Named). o.0.0)) (sym (frame-named d))
      ∙ (maps plan_named (λ (o : Named). o.0.0) (variables_of (source.head_of d))
      ∙ sym (maps (λ (v : Planned). v.node) (λ (n : NodeId). n.0) (variables_of (source.head_of d))))

  static-homes : statics ≡ map (λ (n : NodeId). n.0) (homes_of u)
  static-homes = sym (maps (λ (o : MadeObject). o.home) (λ (n : NodeId). n.0) (statics_of u))

  small-statics : All (λ n. n < static.nodes) statics
  small-statics =
      All-map (λ n. n < static.nodes) (λ (o : MadeObject). o.home.0) (statics_of u)
      (All-weaker (λ (o : MadeObject). IsNode static o.home × IsWhole static o.type) (λ (o : MadeObject). o.home.0 < static.nodes) (λ o q. q.0)
      (statics_of u) unit-ready.objects.plans)

  small-frame : (d : DefinedFunction) → IsReadyFunction static d → All (λ n. n < static.nodes) (frame d)
  small-frame d r =
      All-map (λ n. n < static.nodes) (λ (o : Named). o.0.0) (variables_named d)
      (All-weaker (λ (o : Named). IsNode static o.0 × IsWhole static o.1) (λ (o : Named). o.0.0 < static.nodes) (λ o q. q.0) (variables_named d) r.plans)

  few-statics : length (homes_of u) < 4294967296
  few-statics =
      let a : length statics ≤ length (nodes_made (made_by_unit u)) =
      few statics static.nodes (apart-left statics (flat_map frame (functions_of u)) unit-ready.objects.distinct) small-statics in
      let b : length statics ≡ length (statics_of u) = length-map (λ (o : MadeObject). o.home.0) (statics_of u) in
      let c : length (homes_of u) ≡ length (statics_of u) = length-map (λ (o : MadeObject). o.home) (statics_of u) in
      omega (arith, few-nodes, a, b, c)

  apart-frame : (d : DefinedFunction) → In d (functions_of u) → IsDistinct nat_eq (frame d)
  apart-frame d c =
      apart-in frame (functions_of u) d c (apart-right statics (flat_map frame (functions_of u)) unit-ready.objects.distinct)

  few-variables : (d : DefinedFunction) → In d (functions_of u) → IsReadyFunction static d → length (variables d) < 4294967296
  few-variables d c r =
      let a : length (frame d) ≤ length (nodes_made (made_by_unit u)) = few (frame d) static.nodes (apart-frame d c) (small-frame d r) in
      let b : length (frame d) ≡ length (variables d) = ap length (frame-homes d) ∙ length-map (λ (n : NodeId). n.0) (variables d) in
      omega (arith, few-nodes, a, b)

  -- Objects

  abbrev IsPlaced : Named → Type 0
  IsPlaced o = In o.0 (homes_of u)

  all-placed : All IsPlaced (map made_named (statics_of u))
  all-placed =
      All-map IsPlaced made_named (statics_of u)
      (All-weaker (λ (o : MadeObject). In o (statics_of u)) (λ (o : MadeObject). In o.home (homes_of u))
      (λ o q. in-map (λ (x : MadeObject). x.home) (statics_of u) o q) (statics_of u) (all-in (statics_of u)))

  static-placed : (h : NodeId) (t : TypeId) → Contains static.statics (h, t) → In h (homes_of u)
  static-placed h t c = All-contains IsPlaced static.statics (h, t) (statics-named IsPlaced (made_by_unit u) all-placed) c

  literal-placed : (h : NodeId) (t : TypeId) → Contains static.literals (h, t) → In h (homes_of u)
  literal-placed h t c = All-contains IsPlaced static.literals (h, t) (literals-named IsPlaced (made_by_unit u) all-placed) c

  variable-placed : (d : DefinedFunction) (h : NodeId) (t : TypeId) → Contains (variables_named d) (h, t) → In h (variables d)
  variable-placed d h t c =
      let i = in-image plan_named (variables_of (source.head_of d)) (h, t)
      (subst (λ xs. In (h, t) xs) (sym (frame-named d)) (in-contained (variables_named d) (h, t) c)) in
      subst (λ n. In n (variables d)) (ap (λ (o : Named). o.0) i.2)
      (in-map (λ (v : Planned). v.node) (variables_of (source.head_of d)) i.0 i.1)

  constant : (here variables : List NodeId) (i : IntegerType) (t : TypeId) → IsIntegerType T i t
      → IsConstant (record { table = T; statics = here; variables = variables }) t
  constant here variables i t h =
      subst (λ (k : IntegerType). IsIntegerSize k.bytes) (sym (integer-read (shape_at T t) i h.1)) (subst IsProper h.1 (unit-ready.basic.formed.each t).proper)

  body-numbers : (d : DefinedFunction) → In d (functions_of u) → IsReadyFunction static d
      → Numbers (body_stage static d) (low (body_stage static d) (homes_of u) (variables d))
  body-numbers d c r = record {
    runs = refl;
    objects = λ h t o. numbered (low (body_stage static d) (homes_of u) (variables d)) h (few-variables d c r) few-statics (elim o.2 [
      | inl q ↦ inl (variable-placed d h t q)
      | inr q ↦ inr (static-placed h q.first q.made)
    ]);
    literals = λ h t l. numbered (low (body_stage static d) (homes_of u) (variables d)) h (few-variables d c r) few-statics
        (inr (literal-placed h t l.1));
    constants = constant (homes_of u) (variables d);
  }

  no-variable : (h : NodeId) (t : TypeId) → Contains {X = Named} [] (h, t) → ⊥
  no-variable h t q = absurd (omega (arith, q.1))

  static-numbers : Numbers static (low static (homes_of u) [])
  static-numbers = record {
    runs = refl;
    objects = λ h t o. numbered (low static (homes_of u) []) h (omega arith) few-statics (elim o.2 [
      | inl q ↦ absurd (no-variable h t q)
      | inr q ↦ inr (static-placed h q.first q.made)
    ]);
    literals = λ h t l. numbered (low static (homes_of u) []) h (omega arith) few-statics (inr (literal-placed h t l.1));
    constants = constant (homes_of u) [];
  }

  -- The parts of the unit

  has-function : (d : DefinedFunction) → (In d (functions_of u) × IsReadyFunction static d) × IsBodyWithin Any d
      → HasCodeOfFunction T (homes_of u) d
  has-function d ((c, r), within) =
      let a : Around = record { result = r.result; in_loop = false; breakable = false } in
      record {
        body = has-block (body_stage static d) (homes_of u) (variables d) (body-numbers d c r) unit-ready.basic.formed d.body static a None outermost r.body
            within.holds (omega (arith, within.height)) (omega arith);
        homes = apart-homes (variables d) (subst (IsDistinct nat_eq) (frame-homes d) (apart-frame d c));
      }

  have-code : (is : List StaticInitialiser) → All (IsReadyStatic static) is → All (IsStaticWithin Any) is
      → HaveCodeOfStatics is (static_context T (homes_of u))
  have-code [] r h = tt
  have-code (i ∷ is) r h =
      let own = All-head (IsReadyStatic static) i is r in
      let within = All-head (IsStaticWithin Any) i is h in (
        has-object static (homes_of u) [] static-numbers unit-ready.basic.formed i.home i.type i.initialiser own.1 own.0 within.holds within.height,
        have-code is (All-tail (IsReadyStatic static) i is r) (All-tail (IsStaticWithin Any) i is h),
      )

  pub has-unit : IsWithinLimits T u → unit_height (erased_unit u) ≤ 256 → HasCodeOfUnit T (homes_of u) u
  has-unit limits height =
      let pieces = every Any (λ p. tt) (pieces_of_unit u) in
      record {
        functions =
            All-weaker (λ d. (In d (functions_of u) × IsReadyFunction static d) × IsBodyWithin Any d) (HasCodeOfFunction T (homes_of u)) has-function
            (functions_of u)
            (all-both (λ d. In d (functions_of u) × IsReadyFunction static d) (IsBodyWithin Any) (functions_of u)
            (all-both (λ d. In d (functions_of u)) (IsReadyFunction static) (functions_of u) (all-in (functions_of u)) unit-ready.functions)
            (bodies-within Any u pieces limits.holds height));
        initialisers = have-code (static_initialisers u) unit-ready.initialisers (statics-within Any u pieces limits.holds height);
        homes = apart-homes (homes_of u)
            (subst (IsDistinct nat_eq) static-homes (apart-left statics (flat_map frame (functions_of u)) unit-ready.objects.distinct));
        few = limits.functions;
      }

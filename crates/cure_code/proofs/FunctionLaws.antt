-- Functions of a program in shape, and what they are cured to.
use Rattle.std.proofs.Common.{◌≡◌, refl, ap, sym, subst, ◌∙◌, ℕ, suc, ◌<◌, ◌≤◌, ◌⊎◌, inl, inr, List, [], ◌∷◌, length, map, flat_map, Option, Some, None, arith}
use Rattle.std.specs.Prelude.{if◌then◌else◌, sum_by}
use Rattle.std.specs.List.{All, Contains, filter_map, cons_option}
use Rattle.std.proofs.lemmas.Option.{get_or_from_slice_get}
use Rattle.cc_base.specs.declared.number.TypeId.{TypeId}
use Rattle.cc_base.specs.declared.number.NodeId.{NodeId}
use Rattle.cc_base.specs.declared.kind.Kind.{Kind}
use Rattle.cc_base.specs.declared.kind.Kind.TheVariants.{Safe, Seq, Rtti, Wild}
use Rattle.c_types.specs.declared.shape.TypeShape.{TypeShape}
use Rattle.c_types.specs.declared.shape.TypeShape.TheVariants as shape
use Rattle.kind_sites.specs.declared.site.Site.TheVariants.{Home}
use Rattle.c_types.specs.Table.{Table, IsType, IsComplete, AreNodesOf, shape_at}
use Rattle.c_types.specs.Sound.{IsWellFormed}
use Rattle.c_types.specs.Equality.{cells_of}
use Rattle.cc_base.specs.Kinds.{kind_at}
use Rattle.c_types.specs.Widths as widths
use Rattle.src_mem.specs.Memory.{Planned, frame_charge}
use Rattle.src_mem.specs.Runs as runs
use Rattle.src_mem.specs.Checks.{source_frame_limit}
use Rattle.cil_form.specs.declared.number.Planned.{Planned as PlannedObject}
use Rattle.cil_form.specs.declared.program.Parameter.{Parameter}
use Rattle.cil_form.specs.declared.program.Function.{Function}
use Rattle.cil_form.specs.Machine.{plan, variables_of}
use Rattle.cil_form.specs.Shape.{IsPlanInShape, IsFunctionInShape, context_of, context_in, result_of_shape}
use Rattle.cil_form.specs.Sites.{Each}
use Rattle.cil_form.specs.Told.{IsSolutionOf}
use Rattle.cil_form.specs.Typing.{IsScalar}
use Rattle.cured_code.specs.declared.instr.Instr.{Instr}
use Rattle.cured_code.specs.declared.parts.Function as cured
use Rattle.cured_code.specs.Tables.{areas_of}
use Rattle.check_forms.specs.Pieces.{Then, Line}
use Rattle.sim_relation.specs.Ground.{word_number}
use Rattle.cure_rules.specs.Known.{World, AreSizes, words_by, words_in}
use Rattle.cure_rules.specs.Accesses.{IsHome}
use Rattle.cure_rules.specs.Functions.{words_at, parameter_words, areas_for, IsBody, HasSlots, IsCuredFunction}
use Rattle.cure_rules.specs.Programs.{IsStart}
use Rattle.cure_scope.specs.Scopes.{fixed_slots}
use Rattle.cure_calls.specs.Storing.{HasHome, HaveHomes, CanStoreAll, ParametersStored}
use Rattle.cure_tables.specs.Objects.{IsObject}
use Rattle.cure_bodies.specs.Bodies.{IsInside, BodyCured}
use Rattle.cure_ready.specs.Curable.{IsCurable}
use Rattle.cure_ready.proofs.PartStarts.{members-whole, parts-whole}
use Rattle.cure_ready.proofs.Programs.{function-curable, initialisers-curable, parameters-stored}
use Rattle.cure_code.specs.declared.setting.Setting.{Setting}
use Rattle.cure_code.specs.Settings.{whole_in, IsSet, IsNumber, world_at, first_world}
use Rattle.cure_code.specs.Codes.{FunctionCode, StartCode, IsCurableBody}
use Rattle.cure_code.proofs.Elements.{within, all_at, each_at, all_by, all_mapped, each_front, each_back, each_flat, sum_few}
use Rattle.cure_code.proofs.SlotLaws.{are_slots}

words_few : (kind : NodeId → Kind) (s : TypeShape) → words_by kind s ≤ 3
words_few kind (shape.Integer bytes signed) = omega arith
words_few kind (shape.Pointer n u) = by (kind n)
  where
    by : (k : Kind) → word_number k ≤ 3
    by Safe = omega arith
    by Seq = omega arith
    by Rtti = omega arith
    by Wild = omega arith
words_few kind shape.Void = omega arith
words_few kind (shape.Array t n) = omega arith
words_few kind (shape.Function ps r) = omega arith
words_few kind (shape.Struct n) = omega arith
words_few kind (shape.Union n) = omega arith

-- Tables

module _ (w : Setting) (s : IsSet w) where
  pub node_kinds : All (λ e. AreNodesOf (length w.by_node.now) e.shape) w.program.now.types
  node_kinds = subst (λ (n : ℕ). All (λ e. AreNodesOf n e.shape) w.program.now.types) (sym s.count) s.shape.nodes

  formed : IsWellFormed w.layouts.now.table
  formed = subst IsWellFormed (sym s.table) s.shape.formed

  pub known_same : w.known.now ≡ w.layouts.now.table
  known_same = s.known ∙ sym s.table

  pub main_few : w.program.now.main.0 < 65535
  main_few =
      let m = s.shape.main in let l = within w.program.now.functions w.program.now.main.0 m.0 m.1 in let c = s.shape.count in omega (arith, l, c)

  same_kind : kind_at w.kinds.now ≡ kind_at w.by_node.now
  same_kind = ap kind_at s.listed

  solved : IsSolutionOf w.program.now (kind_at w.kinds.now)
  solved = subst (IsSolutionOf w.program.now) (sym same_kind) s.solution

  kinds_same : w.layouts.now.kinds ≡ w.kinds.now
  kinds_same = s.kinds ∙ sym s.listed

  sized : AreSizes (whole_in w)
  sized = record {
    size = λ u c. ap (λ b. if b then widths.cured_size w.layouts.now.table (kind_at w.layouts.now.kinds) u else 0) c
        ∙ ap (λ ks. widths.cured_size w.layouts.now.table (kind_at ks) u) kinds_same;
    none = λ u c. ap (λ b. if b then widths.cured_size w.layouts.now.table (kind_at w.layouts.now.kinds) u else 0) c;
    offset = λ u o c l b. ap (λ ks. widths.before (kind_at ks) (cells_of w.layouts.now.table u) o) kinds_same;
  }

  -- A function

  module _ (k : ℕ) (f : Function) (at : IsNumber w k f) where
    pub in_shape : IsFunctionInShape w.program.now f
    in_shape = all_at (IsFunctionInShape w.program.now) w.program.now.functions s.shape.functions k f at

    pub number_few : k < 65535
    number_few = let l = within w.program.now.functions k f at in let c = s.shape.count in omega (arith, l, c)

    pub typed_by : IsType w.program.now.types f.ty
    typed_by = in_shape.type.1

    pub parameters_few : length f.parameters ≤ 127
    parameters_few = in_shape.parameters

    pub parameters_typed : All (λ (x : Parameter). IsType w.program.now.types x.ty) f.parameters
    parameters_typed = all_by (λ (x : Parameter). IsType w.program.now.types x.ty) f.parameters (λ i x e. (each_at (λ (x : Parameter). IsScalar (context_of w.program.now) x.ty) f.parameters in_shape.scalars i x e).0)

    pub parameters_typed_too : All (λ (x : Parameter). IsType w.layouts.now.table x.ty) f.parameters
    parameters_typed_too = subst (λ (t : Table). All (λ (x : Parameter). IsType t x.ty) f.parameters) (sym s.table) parameters_typed

    words_most : parameter_words (whole_in w) f.parameters ≤ 381
    words_most =
        let l = sum_few (λ (x : Parameter). words_in (whole_in w) x.ty) f.parameters (λ x. words_few (kind_at w.kinds.now) (shape_at w.layouts.now.table x.ty)) in
        let n = parameters_few in omega (arith, l, n)

    pub objects_of_frame : (vs : List PlannedObject) → map plan vs ≡ variables_of f → All (IsObject w.layouts.now.table (length w.by_node.now)) vs
    objects_of_frame vs e =
        all_mapped (IsPlanInShape w.program.now) (IsObject w.layouts.now.table (length w.by_node.now)) plan vs (variables_of f) e in_shape.variables
        (λ x h. record {
          complete = subst (λ (t : Table). IsComplete t x.ty) (sym s.table) h.1.1;
          home = (let n = s.count in let l = h.0 in omega (arith, n, l));
        })

    pub frame_complete : (vs : List PlannedObject) → map plan vs ≡ variables_of f → All (λ (v : PlannedObject). IsComplete w.program.now.types v.ty) vs
    frame_complete vs e =
        all_mapped (IsPlanInShape w.program.now) (λ (v : PlannedObject). IsComplete w.program.now.types v.ty) plan vs (variables_of f) e in_shape.variables (λ x h. h.1.1)

    -- homes

    told : Each (λ (o : Planned). Contains w.program.now.sites (Home o.node o.type)) (variables_of f)
    told =
        each_flat (λ (o : Planned). Contains w.program.now.sites (Home o.node o.type)) variables_of w.program.now.functions
        (each_back (λ (o : Planned). Contains w.program.now.sites (Home o.node o.type)) (map (λ o. plan o.planned) w.program.now.statics)
        (flat_map variables_of w.program.now.functions) s.told.objects) k f at

    plain : (o : Planned) → Contains w.program.now.sites (Home o.node o.type) → IsHome (kind_at w.kinds.now o.node)
    plain o c = by ((s.solution.each (Home o.node o.type) c).plain)
      where
        by : (kind_at w.by_node.now o.node ≡ Safe) ⊎ (kind_at w.by_node.now o.node ≡ Wild) → IsHome (kind_at w.kinds.now o.node)
        by (inl e) = subst IsHome (sym (ap (λ (g : NodeId → Kind). g o.node) same_kind ∙ e)) tt
        by (inr e) = subst IsHome (sym (ap (λ (g : NodeId → Kind). g o.node) same_kind ∙ e)) tt

    one_home : (t : TypeId) (o : Option NodeId) (rest : List Planned) → Each (λ (p : Planned). Contains w.program.now.sites (Home p.node p.type)) (cons_option (runs.planned t o) rest)
        → HasHome (whole_in w) o × Each (λ (p : Planned). Contains w.program.now.sites (Home p.node p.type)) rest
    one_home t None rest h = (tt, h)
    one_home t (Some home) rest h = (plain (record { type = t; node = home }) h.0, h.1)

    homes_of : (ps : List Parameter)
        → Each (λ (p : Planned). Contains w.program.now.sites (Home p.node p.type)) (filter_map (λ (p : runs.Parameter). runs.planned p.type p.home) (map (λ (p : Parameter). record { type = p.ty; home = p.home }) ps))
        → HaveHomes (whole_in w) ps
    homes_of [] h = tt
    homes_of (x ∷ xs) h =
        let r = one_home x.ty x.home (filter_map (λ (p : runs.Parameter). runs.planned p.type p.home) (map (λ (p : Parameter). record { type = p.ty; home = p.home }) xs)) h in
        (r.0, homes_of xs r.1)

    have_homes : HaveHomes (whole_in w) f.parameters
    have_homes =
        homes_of f.parameters (each_front (λ (p : Planned). Contains w.program.now.sites (Home p.node p.type))
        (filter_map (λ (p : runs.Parameter). runs.planned p.type p.home) (map (λ (p : Parameter). record { type = p.ty; home = p.home }) f.parameters)) (map plan f.locals) told)

    -- code

    inside : IsInside (world_at w k f) (context_in w.program.now f) []
    inside = record {
      stands = record { formed = formed; table = sym s.table; statics = sym s.statics; variables = refl };
      result = ap (λ (t : Table). result_of_shape (shape_at t f.ty)) (sym s.table);
      numbered = λ h e. absurd (cc (e));
      members = members-whole w.layouts.now.table formed;
      parts = parts-whole w.layouts.now.table formed;
      count = refl;
      kept = λ n b e. absurd (cc (e));
    }

    there : Contains w.program.now.functions f
    there = (k, within w.program.now.functions k f at, get_or_from_slice_get w.program.now.functions k f f at)

    curable : IsCurable (context_in w.program.now f) (world_at w k f)
    curable = function-curable w.program.now f (world_at w k f) s.shape s.told solved there inside.stands sized (λ e. absurd (cc (e))) s.few

    body_curable : IsCurableBody (world_at w k f) f.body.0.items
    body_curable = record { context = context_in w.program.now f; inside = inside; curable = curable; shaped = in_shape.body.shaped }

    -- the same in a world that was made of these parts
    pub curable_by : (world : World) (number : ℕ) (variables : List Planned) (result : Option TypeId) (words : ℕ) (parameters : List Parameter)
        → world ≡ record { whole = whole_in w; number = number; variables = variables; result = result; slots = fixed_slots words }
        → number ≡ suc k → variables ≡ variables_of f → result ≡ result_of_shape (shape_at w.program.now.types f.ty)
        → words ≡ sum_by (λ x. words_at w.program.now.types (kind_at w.by_node.now) x.ty) parameters → parameters ≡ f.parameters
        → IsCurableBody world f.body.0.items
    curable_by world number variables result words parameters is n v r m p =
        let r2 : result ≡ result_of_shape (shape_at w.layouts.now.table f.ty) = r ∙ ap (λ (t : Table). result_of_shape (shape_at t f.ty)) (sym s.table) in
        let m2 : words ≡ parameter_words (whole_in w) f.parameters =
        m ∙ ap (λ (xs : List Parameter). sum_by (λ x. words_by (kind_at w.by_node.now) (shape_at w.program.now.types x.ty)) xs) p
        ∙ ap (λ (t : Table). sum_by (λ x. words_by (kind_at w.by_node.now) (shape_at t x.ty)) f.parameters) (sym s.table)
        ∙ ap (λ (g : NodeId → Kind). sum_by (λ x. words_by g (shape_at w.layouts.now.table x.ty)) f.parameters) (sym same_kind) in
        subst (λ (x : World). IsCurableBody x f.body.0.items) (sym is)
        (subst (λ (x : ℕ). IsCurableBody (record { whole = whole_in w; number = x; variables = variables; result = result; slots = fixed_slots words }) f.body.0.items) (sym n)
        (subst (λ (x : List Planned). IsCurableBody (record { whole = whole_in w; number = suc k; variables = x; result = result; slots = fixed_slots words }) f.body.0.items) (sym v)
        (subst (λ (x : Option TypeId). IsCurableBody (record { whole = whole_in w; number = suc k; variables = variables_of f; result = x; slots = fixed_slots words }) f.body.0.items) (sym r2)
        (subst (λ (x : ℕ). IsCurableBody (record {
          whole = whole_in w;
          number = suc k;
          variables = variables_of f;
          result = result_of_shape (shape_at w.layouts.now.table f.ty);
          slots = fixed_slots x;
        }) f.body.0.items) (sym m2) body_curable))))

    pub parameters_stored : CanStoreAll (whole_in w) f.parameters
    parameters_stored = (parameters-stored w.program.now f (world_at w k f) curable s.shape s.told there).1

    body_is : (body : List Instr) → FunctionCode (world_at w k f) f body → IsBody (world_at w k f) f body
    unfolding Then ParametersStored BodyCured Line
    body_is body h = record {
      sets = [];
      stores = h.0;
      code = h.1;
      after = _;
      are_set = refl;
      are_stored = h.2 have_homes;
      are_curing = h.3 (context_in w.program.now f) inside in_shape.body.shaped;
      is = h.4;
    }

    has_slots : (h : cured.Function) → h.slots ≡ 1948 → HasSlots (world_at w k f) f h
    has_slots h e = record {
      slots = are_slots (parameter_words (whole_in w) f.parameters) words_most;
      count = e;
      few = omega arith;
      parameters = refl;
      held = (let m = words_most in omega (arith, m));
      row = refl;
    }

    charge_same : (vs : List PlannedObject) → map plan vs ≡ variables_of f → frame_charge w.program.now.types (map plan vs) ≡ frame_charge w.layouts.now.table (variables_of f)
    charge_same vs e = (λ i. frame_charge (sym s.table i) (e i))

    pub entered_function : (vs : List PlannedObject) (h : cured.Function) → map plan vs ≡ variables_of f → h.slots ≡ 1948 → h.sig ≡ (whole_in w).signature f.ty
        → (frame_charge w.program.now.types (map plan vs) ≤ source_frame_limit → h.charge ≡ frame_charge w.program.now.types (map plan vs))
        → (source_frame_limit < frame_charge w.program.now.types (map plan vs) → source_frame_limit < h.charge) → h.charge ≤ 1048576
        → areas_of h.locals ≡ areas_for w.layouts.now.table (kind_at w.by_node.now) (map plan vs) → FunctionCode (world_at w k f) f h.body.0.items
        → IsCuredFunction (world_at w k f) f h
    entered_function vs h e slots sig exact above few areas code =
        let same = charge_same vs e in
        record {
          slots = has_slots h slots;
          sig = sig;
          entered = λ l. record {
            areas = areas ∙ (λ i. areas_for w.layouts.now.table (sym same_kind i) (e i));
            charge = exact (let l' = l in omega (arith, l', same)) ∙ same;
            body = body_is h.body.0.items code;
          };
          never = λ l. absurd (let m = above (let l' = l in omega (arith, l', same)) in omega (arith, m, few));
        }

    pub never_function : (vs : List PlannedObject) (h : cured.Function) → map plan vs ≡ variables_of f → h.slots ≡ 1948 → h.sig ≡ (whole_in w).signature f.ty
        → (frame_charge w.program.now.types (map plan vs) ≤ source_frame_limit → h.charge ≡ frame_charge w.program.now.types (map plan vs))
        → 1048576 < h.charge → h.locals ≡ [] → h.body.0.items ≡ [] → IsCuredFunction (world_at w k f) f h
    never_function vs h e slots sig exact many areas body =
        let same = charge_same vs e in
        record {
          slots = has_slots h slots;
          sig = sig;
          entered = λ l. absurd (let m = exact (let l' = l in omega (arith, l', same)) in let l' = l in omega (arith, m, many, l', same));
          never = λ l. record { areas = areas; charge = many; body = body };
        }

  -- Function 0

  starts_inside : IsInside (first_world w) (context_of w.program.now) []
  starts_inside = record {
    stands = record { formed = formed; table = sym s.table; statics = sym s.statics; variables = refl };
    result = refl;
    numbered = λ h e. absurd (cc (h));
    members = members-whole w.layouts.now.table formed;
    parts = parts-whole w.layouts.now.table formed;
    count = refl;
    kept = λ n b e. absurd (cc (e));
  }

  pub initialisers_curable : IsCurableBody (first_world w) w.program.now.initialisers.0.items
  initialisers_curable = record {
    context = context_of w.program.now;
    inside = starts_inside;
    curable = initialisers-curable w.program.now (first_world w) s.shape s.told solved starts_inside.stands sized s.few;
    shaped = s.shape.initialisers.shaped;
  }

  pub start_function : (h : cured.Function) → h.slots ≡ 1948 → h.sig ≡ 0 → h.charge ≡ 0 → h.locals ≡ [] → StartCode (first_world w) w.program.now h.body.0.items
      → IsStart (first_world w) w.program.now h
  unfolding Then BodyCured Line
  start_function h slots sig charge areas code = record {
    slots = are_slots 0 (omega arith);
    count = slots;
    few = omega arith;
    parameters = refl;
    row = refl;
    sig = sig;
    areas = areas;
    charge = charge;
    sets = [];
    code = code.0;
    enters = code.1;
    after = _;
    are_set = refl;
    are_curing = code.2 (context_of w.program.now) starts_inside s.shape.initialisers.shaped;
    enters_main = code.3;
    body = code.4;
  }

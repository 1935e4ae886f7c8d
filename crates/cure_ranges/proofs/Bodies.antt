-- The bodies of a cured program are in range.
use Rattle.std.specs.Prelude.{slice_index, nat_le, sum_by, IfSome, if◌then◌else◌}
use Rattle.std.proofs.Common.{◌≡◌, ℕ, zero, suc, ◌+◌, ◌<◌, ◌≤◌, Bool, true, false, List, [], ◌∷◌, ◌++◌, length, map, slice_get, Option, Some, refl, ap, sym, subst, ◌∙◌, inl, inr, ◌⊎◌, arith}
use Rattle.std.specs.List.{All, Contains}
use Rattle.kind_sites.specs.declared.site.Site.TheVariants.{Flow}
use Rattle.std.proofs.lemmas.Bool.Decides.{nat_tests}
use Rattle.std.proofs.lemmas.Option.{get_or_from_slice_get}
use Rattle.std.proofs.lemmas.List.{length-append}
use Rattle.cc_base.specs.declared.number.TypeId.{TypeId}
use Rattle.cc_base.specs.declared.number.NodeId.{NodeId}
use Rattle.cc_base.specs.declared.place.Place.{Place}
use Rattle.cc_base.specs.declared.kind.Kind.{Kind}
use Rattle.cc_base.specs.declared.kind.Kind.TheVariants.{Safe, Rtti}
use Rattle.c_types.specs.declared.shape.TypeShape.{TypeShape}
use Rattle.c_types.specs.Table.{is_function, is_function_shape}
use Rattle.src_mem.specs.Memory.{frame_charge}
use Rattle.src_mem.specs.Checks.{source_frame_limit}
use Rattle.cil_form.specs.declared.program.Parameter.{Parameter}
use Rattle.cil_form.specs.declared.program.Function.{Function}
use Rattle.cil_form.specs.declared.program.Program.{Program}
use Rattle.cil_form.specs.Machine.{plan, variables_of}
use Rattle.cil_form.specs.Shape.{parameters_limit, result_of_shape, context_of, context_in, IsFunctionInShape, IsInShape}
use Rattle.cil_form.specs.Typing.{no_types}
use Rattle.cured_code.specs.declared.instr.Instr.{Instr}
use Rattle.cured_code.specs.declared.instr.Instr.TheVariants as instr
use Rattle.cured_code.specs.declared.parts.Sig.{Sig}
use Rattle.cured_code.specs.declared.parts.Function as cured
use Rattle.cured_code.specs.declared.parts.Parts.{Parts}
use Rattle.cured_code.specs.Tables.{area_of}
use Rattle.cured_code.specs.Ranges.{Names, IsSigInRange, AreInstrsInRange, names_in, sigs_of}
use Rattle.check_forms.specs.Pieces.{Line, Then}
use Rattle.check_forms.specs.declared.op.Op.TheVariants.{EnterMain}
use Rattle.sim_relation.specs.Ground.{function_word}
use Rattle.sim_relation.specs.Points.{KeptSlot}
use Rattle.cure_rules.specs.Slots.{Slots, AreSlots, Address, First, Third, slot_of}
use Rattle.cure_rules.specs.Known.{Whole, World, nothing_known}
use Rattle.cure_rules.specs.Code.{outside}
use Rattle.cure_rules.specs.Functions.{bare, words_at, signature_by, signature_of, area_for, parameter_words, world_of, IsCuredFunction, IsEntered}
use Rattle.cure_rules.specs.Programs.{Numbers, whole_of, start_world, EntersMain, IsStart, AreCured}
use Rattle.cure_tables.proofs.Signed.{signature_small}
use Rattle.cure_ranges.specs.Bodies.{IsBodyInRange, AreTargetsNamed}
use Rattle.cure_ranges.proofs.Parts.{same_some, there, within, mapped_length, mapped_get, each_at, all_by, sigs_small}
use Rattle.cure_ranges.proofs.Fitting.{Fits, Around, names_at, Placed, CanPassIn, CanReturnIn}
use Rattle.cure_ranges.proofs.Tests.{all_in_range, appended, line, in_turn}
use Rattle.cure_ranges.proofs.Guards.{role, number, guarded}
use Rattle.cure_ranges.proofs.Calling.{passes}
use Rattle.cure_ranges.proofs.Walk.{body_in_range}
use Rattle.cure_ranges.proofs.Prologues.{named, kept_set, stored}

nothing : (w : World) → Placed w nothing_known
nothing w t x a e f = absurd (cc (e))

shallow : 0 + 4 ≤ 1024
shallow = omega arith

abbrev around : Parts → ℕ → Around
around parts results = record { sigs = parts.sigs; functions = sigs_of parts.functions; nodes = length parts.nodes; results = results }

-- the names of a function are those of its world
abbrev renamed : Parts → ℕ → ℕ → ℕ → Names
renamed parts slots areas results = record {
  sigs = parts.sigs;
  functions = sigs_of parts.functions;
  nodes = length parts.nodes;
  slots = slots;
  areas = areas;
  results = results;
  blocks = 0;
  nest = 0;
}

in_function : (parts : Parts) (w : World) (h : cured.Function) (results : ℕ) → h.slots ≡ w.slots.count → length h.locals ≡ length w.variables
    → Fits (names_at w (around parts results) 0 0) h.body.0.items → AreInstrsInRange (names_in parts.sigs (sigs_of parts.functions) (length parts.nodes) h results) h.body.0.items
in_function parts w h results e f g =
    subst (λ a. AreInstrsInRange (renamed parts h.slots a results) h.body.0.items) (sym f)
    (subst (λ n. AreInstrsInRange (renamed parts n (length w.variables) results) h.body.0.items) (sym e) (all_in_range (names_at w (around parts results) 0 0) h.body.0.items g))

-- the row has room for the most parameters
row_room : (s : Slots) → AreSlots s → s.row_width ≡ 381 → s.row + 381 ≤ s.count
row_room s a e = let l = (a.row 380 (omega (arith, e))).below in omega (arith, l)

kept_there : (s : Slots) → AreSlots s → (j : ℕ) (x : KeptSlot) → slice_get s.kept j ≡ Some x → x.slot < s.count
kept_there s a j x e = (a.kept j x e).below

module _ (p : Program) (kind : NodeId → Kind) (node : TypeId → ℕ) (parents : List ℕ) (parts : Parts) (shape : IsInShape p) (numbers : Numbers)
    (c : AreCured (whole_of p kind node numbers parts) p parents parts) (targets : AreTargetsNamed p kind node (length parents)) where
  -- a function's signature
  signed : (t : TypeId) → is_function p.types t ≡ true → slice_get parts.sigs (numbers.signature t) ≡ Some (signature_of p.types kind t)
  signed t f = (c.signatures.each t f).1

  typed : (f : Function) → IsFunctionInShape p f → is_function p.types f.ty ≡ true
  typed f s = ap is_function_shape s.type.2

  can_pass : (w : World) → AreSlots w.slots → w.whole ≡ whole_of p kind node numbers parts → w.slots.row_width ≡ 381 → (results : ℕ) → CanPassIn w (around parts results)
  can_pass w s e width results = record {
    sigs = λ g x f. let k = each_at IsSigInRange parts.sigs (sigs_small p.types kind numbers.signature parts.sigs c.signatures) g x f in (k.params_kept, k.results_kept);
    functions = λ f l. function f (let z = ap (λ (x : Whole). x.functions) e in omega (arith, l, z));
    types = λ u f. of_type u (subst (λ (x : Whole). is_function x.table u ≡ true) e f) (ap (λ (x : Whole). x.signature u) e);
    width = width;
    row = row_room w.slots s width;
  }
    where
      of_type : (u : TypeId) → is_function p.types u ≡ true → w.whole.signature u ≡ numbers.signature u → w.whole.signature u < length parts.sigs
      of_type u f same = let l = within parts.sigs (numbers.signature u) (signature_of p.types kind u) (signed u f) in omega (arith, l, same)

      function : (f : ℕ) → f < length p.functions → (suc f < length (sigs_of parts.functions)) × (slice_index (sigs_of parts.functions) (suc f) < length parts.sigs)
      function f l =
          let g = there p.functions f l in
          let at = c.functions f g.0 g.1 in
          let m = mapped_length (λ (x : cured.Function). x.sig) parts.functions in
          let n = c.count in
          let found = mapped_get (λ (x : cured.Function). x.sig) parts.functions (suc f) at.cured at.found in
          let sig : slice_index (sigs_of parts.functions) (suc f) ≡ numbers.signature g.0.ty = get_or_from_slice_get (sigs_of parts.functions) (suc f) at.cured.sig 0 found ∙ at.is.sig in
          let there' = within parts.sigs (numbers.signature g.0.ty) (signature_of p.types kind g.0.ty) (signed g.0.ty (typed g.0 (each_at (IsFunctionInShape p) p.functions shape.functions f g.0 g.1))) in
          (omega (arith, l, m, n), omega (arith, sig, there'))

  nodes_named : (a b : NodeId) (t u : TypeId) (at : Place) → Contains p.sites (Flow a t b u at) → kind a ≡ Rtti → is_function p.types u ≡ false → (0 < node u) × (node u ≤ length parts.nodes)
  nodes_named a b t u at h k f = let g = targets a b t u at h k f in let n = ap length c.nodes in (g.0, (let l = g.1 in omega (arith, l, n)))

  module _ (k : ℕ) (f : Function) (e : slice_get p.functions k ≡ Some f) (h : cured.Function) (slots : Slots) (is : IsCuredFunction (world_of (whole_of p kind node numbers parts) k f slots) f h) where
    abbrev here : World
    here = world_of (whole_of p kind node numbers parts) k f slots

    abbrev results : ℕ
    results = (signature_of p.types kind f.ty).results

    in_shape : IsFunctionInShape p f
    in_shape = each_at (IsFunctionInShape p) p.functions shape.functions k f e

    given : (signature_of p.types kind f.ty).results ≡ words_at p.types kind in_shape.type.0
    given =
        ap (λ (s : TypeShape). (signature_by (words_at p.types kind) s).results) in_shape.type.2
        ∙ by (nat_le (length (map (λ (x : Parameter). x.ty) f.parameters)) parameters_limit) refl
      where
        by : (b : Bool) → nat_le (length (map (λ (x : Parameter). x.ty) f.parameters)) parameters_limit ≡ b
            → (if b then record { params = sum_by (words_at p.types kind) (map (λ (x : Parameter). x.ty) f.parameters); results = words_at p.types kind in_shape.type.0 } else bare).results
            ≡ words_at p.types kind in_shape.type.0
        by true g = refl
        by false g =
            let l = in_shape.parameters in
            let m = mapped_length (λ (x : Parameter). x.ty) f.parameters in
            let n : parameters_limit < length (map (λ (x : Parameter). x.ty) f.parameters) = grind (arith, nat_tests) in absurd (omega (arith, l, m, n))

    can_return : CanReturnIn (world_of (whole_of p kind node numbers parts) k f slots) (around parts (signature_of p.types kind f.ty).results)
    can_return = record {
      few = (signature_small p.types kind f.ty).results_kept;
      none = λ t number result words.
          let same : in_shape.type.0 ≡ t = same_some in_shape.type.0 t (sym (ap result_of_shape in_shape.type.2) ∙ result) in
          given ∙ ap (words_at p.types kind) same ∙ words;
    }

    entered : IsEntered (world_of (whole_of p kind node numbers parts) k f slots) f h
        → AreInstrsInRange (names_in parts.sigs (sigs_of parts.functions) (length parts.nodes) h (signature_of p.types kind f.ty).results) h.body.0.items
    entered in' =
        let s = is.slots.slots in
        let w = world_of (whole_of p kind node numbers parts) k f slots in
        let n = names_at w (around parts results) 0 0 in
        let body = in'.body in
        let areas : length h.locals ≡ length (variables_of f) =
        (let a = mapped_length area_of h.locals in let b = mapped_length (area_for p.types kind) (variables_of f) in let z = ap length in'.areas in omega (arith, a, b, z)) in
        let room : 0 + parameter_words (whole_of p kind node numbers parts) f.parameters ≤ slots.count = (let q = is.slots.parameters in let l = is.slots.held in omega (arith, q, l)) in
        let few : 0 + length (named f.parameters) ≤ length (variables_of f) = (let z = length-append (named f.parameters) (map plan f.locals) in omega (arith, z)) in
        let sets = kept_set w s (around parts results) 0 0 shallow slots.kept body.sets (kept_there slots s) body.are_set in
        let stores = stored w s (around parts results) 0 0 shallow f.parameters 0 0 body.stores room few body.are_stored in
        let code = body_in_range w s (around parts results) (can_pass w s refl is.slots.row results) can_return f.body.0.items (context_in p f) no_types no_types outside 0 0 nothing_known body.after body.code
        (record { variables = refl; statics = refl; table = refl; nodes = nodes_named }) (omega arith) (let l = in_shape.body.nested in omega (arith, l)) (nothing w) in_shape.body.shaped body.are_curing in
        in_function parts w h results is.slots.count areas
        (in_turn n (body.sets ++ body.stores) body.code h.body.0.items body.is (appended n body.sets body.stores sets stores) code.0)

    order : (a b : ℕ) → (a ≤ b) ⊎ (b < a)
    order a b = grind arith

    by_charge : (frame_charge p.types (variables_of f) ≤ source_frame_limit) ⊎ (source_frame_limit < frame_charge p.types (variables_of f))
        → AreInstrsInRange (names_in parts.sigs (sigs_of parts.functions) (length parts.nodes) h (signature_of p.types kind f.ty).results) h.body.0.items
    by_charge (inl l) = entered (is.entered l)
    by_charge (inr l) = subst (λ (xs : List Instr). AreInstrsInRange (names_in parts.sigs (sigs_of parts.functions) (length parts.nodes) h (signature_of p.types kind f.ty).results) xs) (sym (is.never l).body)
        (λ i d m. absurd (omega (arith, m)))

    function_in_range : IsBodyInRange parts h
    function_in_range = subst
        (λ (o : Option Sig). IfSome o (λ sig. AreInstrsInRange (names_in parts.sigs (sigs_of parts.functions) (length parts.nodes) h sig.results) h.body.0.items))
        (sym (ap (slice_get parts.sigs) is.sig ∙ signed f.ty (typed f in_shape)))
        (by_charge (order (frame_charge p.types (variables_of f)) source_frame_limit))

  -- Function 0

  enters : (slots : Slots) → AreSlots slots → slots.row_width ≡ 381 → (lines : List Instr) → EntersMain (start_world (whole_of p kind node numbers parts) slots) p.main.0 p.main_place lines
      → Fits (names_at (start_world (whole_of p kind node numbers parts) slots) (around parts 0) 0 0) lines
  unfolding Line Then
  enters slots s width lines (a, (x, y, g, (z, u, gu, e1, e2), e)) =
      let w = start_world (whole_of p kind node numbers parts) slots in
      let n = names_at w (around parts 0) 0 0 in
      let can = can_pass w s refl width 0 in
      let address = number w s (around parts 0) 0 0 Address (function_word p.main.0) a x g in
      let main = can.functions p.main.0 (within p.functions p.main.0 shape.main.0 shape.main.1) in
      let third = role w s Third in
      in_turn n x y lines e address.0
      (in_turn n z u y e2 (guarded w s (around parts 0) 0 0 shallow (EnterMain a) Safe p.main_place z address.1 gu)
      (line n (instr.Call (suc p.main.0) slots.row (slot_of slots First) ∷ instr.Exit (slot_of slots First) ∷ []) u e1 (
        (main.0, passes w s (around parts 0) 0 0 shallow can (slice_index (sigs_of parts.functions) (suc p.main.0)) slots.row (slot_of slots First) main.1 can.row (omega (arith, third))),
        (role w s First, tt),
      )))

  start_in_range : (h : cured.Function) (slots : Slots) → IsStart (start_world (whole_of p kind node numbers parts) slots) p h → IsBodyInRange parts h
  start_in_range h slots is =
      let w = start_world (whole_of p kind node numbers parts) slots in
      let s = is.slots in
      let n = names_at w (around parts 0) 0 0 in
      let sets = kept_set w s (around parts 0) 0 0 shallow slots.kept is.sets (kept_there slots s) is.are_set in
      let code = body_in_range w s (around parts 0) (can_pass w s refl is.row 0) (record { few = omega arith; none = λ t number result words. refl }) p.initialisers.0.items (context_of p) no_types no_types outside 0 0
      nothing_known is.after is.code
      (record { variables = refl; statics = refl; table = refl; nodes = nodes_named }) (omega arith) (let l = shape.initialisers.nested in omega (arith, l)) (nothing w) shape.initialisers.shaped is.are_curing in
      subst (λ (o : Option Sig). IfSome o (λ sig. AreInstrsInRange (names_in parts.sigs (sigs_of parts.functions) (length parts.nodes) h sig.results) h.body.0.items))
      (sym (ap (slice_get parts.sigs) is.sig ∙ c.signatures.start))
      (in_function parts w h 0 is.count (ap length is.areas)
      (in_turn n is.sets (is.code ++ is.enters) h.body.0.items is.body sets (appended n is.code is.enters code.0 (enters slots s is.row is.enters is.enters_main))))

  each_in_range : (i : ℕ) (h : cured.Function) → slice_get parts.functions i ≡ Some h → IsBodyInRange parts h
  each_in_range zero h e = subst (IsBodyInRange parts) (same_some c.first h (sym c.found ∙ e)) (start_in_range c.first c.slots c.start)
  each_in_range (suc k) h e =
      let n = c.count in
      let f = there p.functions k (let l = within parts.functions (suc k) h e in omega (arith, l, n)) in
      let a = c.functions k f.0 f.1 in subst (IsBodyInRange parts) (same_some a.cured h (sym a.found ∙ e)) (function_in_range k f.0 f.1 a.cured a.slots a.is)

  pub bodies : All (IsBodyInRange parts) parts.functions
  bodies = all_by (IsBodyInRange parts) parts.functions each_in_range

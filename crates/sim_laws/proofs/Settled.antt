-- What code of a program in shape names is there, where its sites are told and the kinds are a solution for them.
use Rattle.std.proofs.Common.{◌≡◌, ℕ, ◌≤◌, true, List, length, map, slice_get, Some, None, refl, ap, sym, ◌∙◌, arith}
use Rattle.std.proofs.lemmas.List.{length-map}
use Rattle.cc_base.specs.declared.kind.Kind.{Kind}
use Rattle.cc_base.specs.declared.number.NodeId.{NodeId}
use Rattle.cc_base.specs.declared.number.TypeId.{TypeId}
use Rattle.c_types.specs.Table.{shape_at, is_function, is_function_shape}
use Rattle.flat_mem.specs.declared.Area.{Area}
use Rattle.flat_mem.specs.Placement.{globals_start}
use Rattle.src_mem.specs.State.{Defined}
use Rattle.src_mem.specs.Runs.{defined}
use Rattle.src_mem.proofs.Outlines.{mapped-from, get-mapped}
use Rattle.cil_form.specs.declared.instr.Instr.{Instr}
use Rattle.cil_form.specs.declared.instr.Instr.TheVariants as instr
use Rattle.cil_form.specs.declared.program.Function.{Function}
use Rattle.cil_form.specs.declared.program.Program.{Program}
use Rattle.cil_form.specs.Machine.{head_of}
use Rattle.cil_form.specs.Shape.{IsInShape, IsFunctionInShape, context_of, source_functions_limit, result_of_shape}
use Rattle.cil_form.specs.Told.{objects_of, IsToldOf, IsSolutionOf}
use Rattle.cil_form.specs.Typing.{no_types}
use Rattle.cil_form.proofs.TellsLaws.{function-told, outer-told}
use Rattle.cil_facts.specs.Held.{IsSolvedFor}
use Rattle.cil_facts.proofs.Functions.{listed}
use Rattle.cured_code.specs.declared.parts.Parts.{Parts}
use Rattle.cured_code.specs.FlatState.{PlacedArea}
use Rattle.cured_code.specs.FlatMachine.{global_areas, plan_of, placed}
use Rattle.sim_relation.proofs.Frames.{length-placed}
use Rattle.cure_rules.specs.Slots.{Slots, AreSlots}
use Rattle.cure_rules.specs.Setting.{IsCuringSet}
use Rattle.cure_rules.specs.Functions.{area_for}
use Rattle.cure_rules.specs.Programs.{Numbers, AreCured, whole_of}
use Rattle.sim_laws.specs.Scenes.{Programs, Running, setting_of, scene_of, first_scene}
use Rattle.sim_laws.specs.Held.{IsInCode}
use Rattle.sim_laws.specs.Statements.{AllFollow}
use Rattle.sim_laws.specs.Runs.{programs_of}
use Rattle.sim_laws.proofs.Run.{all-at}
use Rattle.sim_laws.proofs.Shaped.{Shaped, shaped-in, shaped-first}
use Rattle.sim_laws.proofs.Names.{Names, context_in}
use Rattle.sim_laws.proofs.Constants.{set-follows}

module _ (p : Program) (kind : NodeId → Kind) (node : TypeId → ℕ) (numbers : Numbers) (parents : List ℕ) (parts : Parts) (shaped : IsInShape p)
    (told : IsToldOf p) (solution : IsSolutionOf p kind) (cured : AreCured (whole_of p kind node numbers parts) p parents parts) where
  abbrev pub both : Programs
  both = programs_of p kind node numbers p.sites parts

  of-function : (f : ℕ) (v : TypeId) → slice_get (map (λ (x : Function). x.ty) p.functions) f ≡ Some v
      → (d : Defined) × (slice_get (setting_of both).functions f ≡ Some d) × (d.type ≡ v) × (is_function p.types v ≡ true)
  of-function f v found = of (mapped-from (λ (x : Function). x.ty) p.functions f v found)
    where
      of : (x : Function) × (slice_get p.functions f ≡ Some x) × (x.ty ≡ v)
          → (d : Defined) × (slice_get (setting_of both).functions f ≡ Some d) × (d.type ≡ v) × (is_function p.types v ≡ true)
      of (x, at, is) = (
        defined (head_of x),
        get-mapped (λ (y : Function). defined (head_of y)) p.functions f x at,
        is,
        ap (λ (t : TypeId). is_function p.types t) (sym is) ∙ ap is_function_shape (all-at (IsFunctionInShape p) p.functions shaped.functions f x at).type.2,
      )

  few : length (setting_of both).functions ≤ source_functions_limit
  few = let e : length (map (λ (f : Function). defined (head_of f)) p.functions) ≡ length p.functions = length-map p.functions (λ (f : Function). defined (head_of f)) in
      let n = shaped.count in omega (arith, e, n)

  -- each static object has an address
  laid : length both.whole.statics ≤ length both.whole.addresses
  laid =
      let a = length-map (placed (global_areas parts.globals) (globals_start (plan_of parts))) (λ (x : PlacedArea). x.address) in
      let b = length-placed (global_areas parts.globals) (globals_start (plan_of parts)) in
      let c = ap (λ (xs : List Area). length xs) cured.globals.areas in
      let d = length-map both.whole.statics (area_for p.types kind) in omega (arith, a, b, c, d)

  -- in a function
  pub names-in : (n : ℕ) (f : Function) → slice_get p.functions n ≡ Some f → (slots : Slots) → Names (scene_of both n f slots)
  names-in n f found slots = record {
    nodes = p.nodes;
    functions = map (λ (x : Function). x.ty) p.functions;
    result = result_of_shape (shape_at p.types f.ty);
    solved = record {
      table = refl;
      well_formed = shaped.formed;
      solution = solution;
      made = objects_of p;
      told = told;
      tells = function-told p f told (listed p.functions n f found);
      functions = of-function;
    };
    laid = laid;
    few = few;
    sizes = cured.sizes;
  }

  -- and in function 0
  pub solved-first : IsSolvedFor (context_of p) (setting_of both)
  solved-first = record {
    table = refl;
    well_formed = shaped.formed;
    solution = solution;
    made = objects_of p;
    told = told;
    tells = outer-told p told;
    functions = of-function;
  }

  pub names-first : (slots : Slots) → Names (first_scene both slots)
  names-first slots = record {
    nodes = p.nodes;
    functions = map (λ (x : Function). x.ty) p.functions;
    result = None;
    solved = solved-first;
    laid = laid;
    few = few;
    sizes = cured.sizes;
  }

  -- each instruction is in shape
  pub shaped-at : (n : ℕ) (f : Function) (found : slice_get p.functions n ≡ Some f) (slots : Slots) (j : Instr) → IsInCode j f.body.0.items
      → Shaped j (context_in (scene_of both n f slots) (names-in n f found slots) 0 no_types)
  unfolding names-in
  shaped-at n f found slots = shaped-in p shaped n f found

  pub shaped-begin : (slots : Slots) (j : Instr) → IsInCode j p.initialisers.0.items → Shaped j (context_in (first_scene both slots) (names-first slots) 0 no_types)
  unfolding names-first
  shaped-begin slots = shaped-first p shaped

  -- The laws of instructions that set a temporary, for the whole program
  pub set-in : (n : ℕ) (f : Function) → slice_get p.functions n ≡ Some f → (slots : Slots) (g : AreSlots slots) (b : Running)
      → AllFollow (scene_of both n f slots) g b f.body.0.items (λ i. instr.Set i) IsCuringSet
  unfolding names-in
  set-in n f found slots g b = set-follows (scene_of both n f slots) g b f.body.0.items (names-in n f found slots) (shaped-in p shaped n f found)

  pub set-first : (slots : Slots) (g : AreSlots slots) (b : Running) → AllFollow (first_scene both slots) g b p.initialisers.0.items (λ i. instr.Set i) IsCuringSet
  unfolding names-first
  set-first slots g b = set-follows (first_scene both slots) g b p.initialisers.0.items (names-first slots) (shaped-first p shaped)

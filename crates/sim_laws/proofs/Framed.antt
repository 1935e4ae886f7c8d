-- The laws of frames of a cured program: its calls find room, begin and end as C's do.
use Rattle.std.proofs.Common.{◌≡◌, ℕ, zero, suc, ◌≤◌, inl, inr, List, length, map, replicate, slice_get, Some, refl, ap, sym, subst, ◌∙◌, arith}
use Rattle.std.specs.List.{Contains, flat_map}
use Rattle.std.proofs.lemmas.List.{length-map}
use Rattle.cc_base.specs.declared.kind.Kind.{Kind}
use Rattle.cc_base.specs.declared.kind.Kind.TheVariants.{Safe, Seq, Rtti, Wild}
use Rattle.cc_base.specs.declared.number.NodeId.{NodeId}
use Rattle.cc_base.specs.declared.number.TypeId.{TypeId}
use Rattle.c_types.specs.declared.shape.TypeShape.{TypeShape}
use Rattle.c_types.specs.declared.shape.TypeShape.TheVariants as shape
use Rattle.kind_sites.specs.declared.site.Site.TheVariants as site
use Rattle.c_types.specs.Flows.{IsOfOneClass}
use Rattle.c_types.specs.Table.{IsType, shape_at}
use Rattle.type_laws.proofs.Pointers.{class_own}
use Rattle.flat_mem.specs.declared.Area.{Area}
use Rattle.flat_mem.specs.Memory.{Frame, frame_of, next_frame}
use Rattle.src_mem.specs.Pointers.{Null}
use Rattle.src_mem.specs.Memory.{Planned, frame_charge}
use Rattle.src_mem.specs.State as source
use Rattle.src_mem.specs.Operations.{zero_of_shape, zero_of_function}
use Rattle.src_mem.specs.Runs.{defined}
use Rattle.src_mem.proofs.Outlines.{mapped-from}
use Rattle.facts_kept.specs.Kept.{IsVariable}
use Rattle.cil_form.specs.declared.program.Function.{Function}
use Rattle.cil_form.specs.declared.program.Parameter.{Parameter}
use Rattle.cil_form.specs.declared.program.Static.{Static}
use Rattle.cil_form.specs.declared.program.Program.{Program}
use Rattle.cil_form.specs.Machine.{plan, head_of, variables_of}
use Rattle.cil_form.specs.Shape.{IsInShape, IsPlanInShape, IsStaticInShape, IsFunctionInShape, IsResult, parameters_limit, context_of, result_of_shape}
use Rattle.cil_form.specs.Told.{IsToldOf, IsSolutionOf}
use Rattle.cil_facts.proofs.Accesses.{alike-class}
use Rattle.cil_facts.proofs.Functions.{zero-fits, each-got, each-left, each-right, each-flat}
use Rattle.cured_code.specs.declared.parts.Parts.{Parts}
use Rattle.cured_code.specs.FlatState as flat
use Rattle.cured_code.specs.Tables.{areas_of, results_of}
use Rattle.cured_code.specs.FlatMachine as machine
use Rattle.cured_code.specs.FlatMachine.{noted}
use Rattle.sim_relation.specs.Ground.{Ground, pointer_words, word_number}
use Rattle.sim_relation.specs.Points.{Exact, AreWords}
use Rattle.cure_rules.specs.Known.{words_by, words_in, held_shape}
use Rattle.cure_rules.specs.Programs.{Numbers, AreCured, whole_of}
use Rattle.sim_laws.specs.Scenes.{Programs, setting_of}
use Rattle.sim_laws.specs.Points.{NamesAlike, There, ground_of}
use Rattle.sim_laws.specs.Statements.{IsPassed, held_result}
use Rattle.sim_laws.specs.Calls.{CallsFit, CallsBegin, CallsEnd, EndsGiveZero, called_from, result_type, source_entered}
use Rattle.sim_laws.specs.Runs.{programs_of}
use Rattle.sim_laws.proofs.Run.{all-at}
use Rattle.sim_laws.proofs.Returns.{result-fits}
use Rattle.sim_laws.proofs.Sets.{words-more, words-none}
use Rattle.sim_laws.proofs.Settled.{solved-first}
use Rattle.sim_laws.proofs.Fitting.{call-fits-alike}
use Rattle.sim_laws.proofs.Beginning.{IsPlanned, begun}
use Rattle.sim_laws.proofs.Leaving.{left-related, left-facts, left-laid, left-grows}

-- Zeros stand for zero

zero-words : (g : Ground) (k : Kind) → replicate (word_number k) 0 ≡ pointer_words g k Null
zero-words g Safe = refl
zero-words g Rtti = refl
zero-words g Seq = refl
zero-words g Wild = refl

are-zeros : (n : ℕ) → AreWords (replicate n 0)
are-zeros zero = words-none
are-zeros (suc n) = words-more 0 (replicate n 0) (omega arith) (are-zeros n)

zero-passed : (p : Programs) (depth : ℕ) (s : source.State) (c : flat.State) (h : TypeShape)
    → IsPassed p depth s c Exact (held_shape h) (zero_of_shape h) (replicate (words_by p.whole.kind h) 0)
zero-passed p depth s c (shape.Integer bytes signed) = (zero-fits (record { bytes = bytes; signed = signed }), (0, refl, refl))
zero-passed p depth s c (shape.Pointer n u) = (
  record { held = record { value = tt; reaches = tt }; made = λ x. tt },
  (zero-words (ground_of p s c) (p.whole.kind n), are-zeros (word_number (p.whole.kind n))),
)
zero-passed p depth s c other = refl

module _ (p : Program) (kind : NodeId → Kind) (node : TypeId → ℕ) (numbers : Numbers) (parents : List ℕ) (parts : Parts) (shaped : IsInShape p)
    (told : IsToldOf p) (solution : IsSolutionOf p kind) (cured : AreCured (whole_of p kind node numbers parts) p parents parts) where
  abbrev both : Programs
  both = programs_of p kind node numbers p.sites parts

  function-shaped : (n : ℕ) (f : Function) → slice_get p.functions n ≡ Some f → IsFunctionInShape p f
  function-shaped n f found = all-at (IsFunctionInShape p) p.functions shaped.functions n f found

  -- an object that can be made is one that frames may have: a site tells of its home
  object-plan : (v : Planned) → IsPlanInShape p v → Contains p.sites (site.Home v.node v.type) → IsVariable (setting_of both) v
  object-plan v planned told_of =
      let home = solution.each (site.Home v.node v.type) told_of in record { complete = planned.1.1; plain = home.plain; spreads = home.spreads }

  -- the variables of a function
  variable : (n : ℕ) (f : Function) → slice_get p.functions n ≡ Some f → (j : ℕ) (v : Planned) → slice_get (variables_of f) j ≡ Some v
      → IsVariable (setting_of both) v
  variable n f found j v e =
      object-plan v (each-got (IsPlanInShape p) (variables_of f) j v (function-shaped n f found).variables e)
      (each-got (λ (o : Planned). Contains p.sites (site.Home o.node o.type)) (variables_of f) j v
      (each-flat (λ (o : Planned). Contains p.sites (site.Home o.node o.type)) variables_of p.functions n f found
      (each-right (λ (o : Planned). Contains p.sites (site.Home o.node o.type)) (map (λ s. plan s.planned) p.statics) (flat_map variables_of p.functions) told.objects)) e)

  -- the static objects
  static-plan : (j : ℕ) (v : Planned) → slice_get (map (λ (o : Static). plan o.planned) p.statics) j ≡ Some v → IsVariable (setting_of both) v
  static-plan j v e =
      let o = mapped-from (λ (o : Static). plan o.planned) p.statics j v e in
      object-plan v (subst (IsPlanInShape p) o.2 (all-at (IsStaticInShape p) p.statics shaped.statics j o.0 o.1).planned)
      (each-got (λ (o : Planned). Contains p.sites (site.Home o.node o.type)) (map (λ (o : Static). plan o.planned) p.statics) j v
      (each-left (λ (o : Planned). Contains p.sites (site.Home o.node o.type)) (map (λ (o : Static). plan o.planned) p.statics) (flat_map variables_of p.functions) told.objects) e)

  alike : (t u : TypeId) → NamesAlike p.sites t u → IsOfOneClass p.types kind t u
  alike t u (inl e) = subst (λ (x : TypeId). IsOfOneClass p.types kind t x) e (class_own p.types kind t)
  alike t u (inr h) = alike-class (context_of p) (record { setting = setting_of both; depth = 0; first = 0; call = λ f depth vs. source.wrong })
      (solved-first p kind node numbers parents parts shaped told solution cured) t u h

  -- function 0 comes before the defined ones
  pub counted : length parts.functions ≡ suc (length (setting_of both).functions)
  counted = cured.count ∙ ap suc (sym (length-map p.functions (λ (x : Function). defined (head_of x))))

  pub planned-in : (n : ℕ) (f : Function) → slice_get p.functions n ≡ Some f → IsPlanned both (variables_of f)
  planned-in n f found = record {
    formed = shaped.formed;
    are = variable n f found;
    class = alike;
    count = counted;
  }

  pub planned-statics : IsPlanned both (map (λ (o : Static). plan o.planned) p.statics)
  planned-statics = record { formed = shaped.formed; are = static-plan; class = alike; count = counted }

  pub calls-fit : CallsFit both
  calls-fit b k f s c found there = call-fits-alike both shaped.formed b s c there k f (record { each = λ j v e. (variable k f found j v e).complete }) (cured.functions k f found)

  pub calls-begin : CallsBegin both
  calls-begin b k call enters s c there room =
      subst (λ (n : ℕ). Begun (areas_of k.cured.locals) n) (sym k.enters.charge)
      (subst (λ (xs : List Area). Begun xs (frame_charge p.types (variables_of k.function))) (sym k.enters.areas)
      (begun both (variables_of k.function) (planned-in k.number k.function k.found) b s c k.number there room call enters))
    where
      after : List Area → ℕ → flat.State
      after xs n = machine.with_frame xs n (noted (suc k.number) c)

      Begun : List Area → ℕ → Type 0
      Begun xs n = There both (record (called_from b k call enters s c) { frames = (after xs n).memory.frames }) (source_entered both (suc b.depth) k s) (after xs n)

  pub calls-end : CallsEnd both
  calls-end b k call enters s t c d there = record {
    related = left-related both vs is b.depth t d frame c.memory.frames there.related there.facts there.laid there.frames deep charge;
    facts = left-facts both vs is b.depth t d frame c.memory.frames there.related there.facts there.laid there.frames deep charge;
    laid = left-laid both vs is b.depth t d frame c.memory.frames there.related there.facts there.laid there.frames deep charge;
    grows = left-grows both vs is b.depth t d frame c.memory.frames there.related there.facts there.laid there.frames deep charge;
  }
    where
      vs : List Planned
      vs = variables_of k.function

      is : IsPlanned both (variables_of k.function)
      is = planned-in k.number k.function k.found

      frame : Frame
      frame = frame_of (areas_of k.cured.locals) k.cured.charge (next_frame c.memory)

      deep : length c.memory.frames ≡ suc b.depth
      deep = let e = there.deep in omega (arith, e)

      charge : k.cured.charge ≡ frame_charge p.types (variables_of k.function)
      charge = k.enters.charge

  pub ends-give-zero : EndsGiveZero both
  ends-give-zero k depth s c = of (type.0) type.2
    where
      type : (result : TypeId) × IsType p.types k.function.ty × (shape_at p.types k.function.ty ≡ shape.Function (map (λ (x : Parameter). x.ty) k.function.parameters) result)
          × IsResult p result
      type = (function-shaped k.number k.function k.found).type

      few : length (map (λ (x : Parameter). x.ty) k.function.parameters) ≤ parameters_limit
      few = let e = length-map k.function.parameters (λ (x : Parameter). x.ty) in let l = (function-shaped k.number k.function k.found).parameters in omega (arith, e, l)

      of : (r : TypeId) → shape_at p.types k.function.ty ≡ shape.Function (map (λ (x : Parameter). x.ty) k.function.parameters) r
          → IsPassed both depth s c Exact (held_result both.whole (result_type both k.function))
          (zero_of_function (setting_of both) (shape_at p.types k.function.ty)) (replicate (results_of parts (suc k.number)) 0)
      of r e =
          subst (λ (n : ℕ). IsPassed both depth s c Exact (held_result both.whole (result_type both k.function)) (zero_of_function (setting_of both) (shape_at p.types k.function.ty)) (replicate n 0))
          (sym ((result-fits both k cured.signatures (map (λ (x : Parameter). x.ty) k.function.parameters) r e few).words r (ap result_of_shape e)))
          (subst (λ (h : TypeShape). IsPassed both depth s c Exact (held_result both.whole (result_of_shape h)) (zero_of_function (setting_of both) h) (replicate (words_in both.whole r) 0))
          (sym e) (zero-passed both depth s c (shape_at p.types r)))

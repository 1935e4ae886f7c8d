-- The code of a unit converts no pointer to an integer, so that a well typed unit is wrong nowhere.
use Rattle.std.proofs.Common.{◌≡◌, ◌≢◌, ℕ, false, None, List, [], ◌∷◌, subst}
use Rattle.std.specs.List.{All}
use Rattle.std.proofs.lemmas.List.Elements.{All-nil, All-cons, All-head, All-tail}
use Rattle.cc_base.specs.declared.kind.Kind.{Kind}
use Rattle.cc_base.specs.declared.number.NodeId.{NodeId}
use Rattle.c_types.specs.Table.{Table}
use Rattle.c_tree.specs.TypedTree.{TypedTranslationUnit}
use Rattle.c_tree.specs.TypedParts.{DefinedFunction, StaticInitialiser, functions_of, static_initialisers}
use Rattle.c_ready.specs.Ready.{Stage, IsReadyFunction, IsReadyStatic, IsReadyUnit, static_stage, body_stage}
use Rattle.flat_mem.specs.Bytes.{AreBytes}
use Rattle.runs.specs.Input.{Input}
use Rattle.src_mem.specs.State.{Wrong, bytes_of}
use Rattle.src_mem.specs.Runs.{SourceOutcome}
use Rattle.src_machine.specs.Machine.{source_run}
use Rattle.cil_form.specs.declared.program.Function.{Function}
use Rattle.cil_form.specs.declared.program.Program.{Program}
use Rattle.cil_form.specs.Machine.{code_run}
use Rattle.cil_form.specs.Shape.{IsInShape}
use Rattle.cil_form.specs.Told.{IsToldOf, IsSolutionOf}
use Rattle.cil_facts.specs.Whole.{CodeNumbersNone, ProgramNumbersNone}
use Rattle.cil_facts.proofs.Programs.{never-wrong}
use Rattle.lower_rules.specs.Words as lowered
use Rattle.lower_rules.specs.Initialisers.{IsCodeOfObject, IsCodeOfStatics}
use Rattle.lower_rules.specs.Units.{outermost, homes_of, context_in, static_context, AreCodeOf, IsCodeOfUnit}
use Rattle.units_are_safe.proofs.Forms.{Spares, line, then}
use Rattle.units_are_safe.proofs.Statements.{spares-object, spares-block}

functions-spare : (T : Table) (statics : List NodeId) (static : Stage) (ds : List DefinedFunction) (fs : List Function) → All (IsReadyFunction static) ds
    → AreCodeOf T statics ds fs → All (λ (f : Function). CodeNumbersNone f.body.0.items) fs
functions-spare T statics static [] [] h c = All-nil (λ (f : Function). CodeNumbersNone f.body.0.items)
functions-spare T statics static [] (f ∷ fs) h c = absurd c
functions-spare T statics static (d ∷ ds) [] h c = absurd c
functions-spare T statics static (d ∷ ds) (f ∷ fs) h c =
    All-cons (λ (f : Function). CodeNumbersNone f.body.0.items) f fs
    (let r = All-head (IsReadyFunction static) d ds h in
    spares-block (body_stage static d) (context_in T statics d) d.body (record { result = r.result; in_loop = false; breakable = false })
    None static outermost r.body f.body.0.items c.0.body)
    (functions-spare T statics static ds fs (All-tail (IsReadyFunction static) d ds h) c.1)

statics-spare : (k : lowered.Context) (static : Stage) (all : List StaticInitialiser) → All (IsReadyStatic static) all → Spares (IsCodeOfStatics all k)
statics-spare k static [] h = line [] tt
statics-spare k static (i ∷ all) h =
    then (IsCodeOfObject i.home i.type i.place i.initialiser k) (IsCodeOfStatics all k)
    (spares-object static k i.home i.type i.place i.initialiser (All-head (IsReadyStatic static) i all h).0)
    (statics-spare k static all (All-tail (IsReadyStatic static) i all h))

-- the code of a ready unit
pub unit-spares : (u : TypedTranslationUnit) (p : Program) → IsReadyUnit p.types u → IsCodeOfUnit u p → ProgramNumbersNone p
unit-spares u p ready code = record {
  initialisers = statics-spare (static_context p.types (homes_of u)) (static_stage p.types u) (static_initialisers u) ready.initialisers
      p.initialisers.0.items code.initialisers;
  functions = functions-spare p.types (homes_of u) (static_stage p.types u) (functions_of u) p.functions ready.functions code.functions;
}

-- and the unit, where its code means what it means
pub unit-never_wrong : (u : TypedTranslationUnit) (p : Program) (kind : NodeId → Kind) (input : Input) (turns : ℕ) → IsReadyUnit p.types u → IsCodeOfUnit u p
    → IsInShape p → IsToldOf p → IsSolutionOf p kind → AreBytes (bytes_of input) → code_run p kind input turns ≡ source_run u p.types kind input turns
    → (source_run u p.types kind input turns).ending ≢ Wrong
unit-never_wrong u p kind input turns ready code shaped told solution bytes means =
    subst (λ (o : SourceOutcome). o.ending ≢ Wrong) means (never-wrong p kind shaped told solution (unit-spares u p ready code) input bytes turns)

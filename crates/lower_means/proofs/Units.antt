-- The code of a unit runs as the unit does.
use Rattle.std.proofs.Common.{ℕ, ◌≡◌, refl, ap, ◌∙◌, sym, List, [], ◌∷◌, map}
use mathlib.Core.Path.{fun_ext}
use Rattle.cc_base.specs.declared.number.NodeId.{NodeId}
use Rattle.cc_base.specs.declared.kind.Kind.{Kind}
use Rattle.c_types.specs.Table.{Table}
use Rattle.c_tree.specs.TypedTree.{TypedTranslationUnit}
use Rattle.c_tree.specs.TypedParts.{DefinedFunction, StaticInitialiser, functions_of, static_initialisers}
use Rattle.runs.specs.Outcome.{Outcome, Ended, Done, done, from, Matches}
use Rattle.runs.specs.Control.{Control, Goes}
use Rattle.runs.specs.Input.{Input}
use Rattle.runs.proofs.RunLaws.{from-from, from-done}
use Rattle.src_mem.specs.Pointers.{Value}
use Rattle.src_mem.specs.State.{Ending, State, Act, Setting, Defined}
use Rattle.src_mem.specs.Runs as runs
use Rattle.src_mem.specs.Runs.{Calls, run_all}
use Rattle.src_machine.specs.World.{World}
use Rattle.src_machine.specs.Statements.{Flow, Normal, Breaks, Continues, Returns, exec_items}
use Rattle.src_machine.specs.Machine as source
use Rattle.cil_form.specs.declared.number.Temp.{Temp}
use Rattle.cil_form.specs.declared.instr.Instr.{Instr}
use Rattle.cil_form.specs.declared.program.Function.{Function}
use Rattle.cil_form.specs.declared.program.Program.{Program}
use Rattle.cil_form.specs.State.{Temporaries, Local, Around, no_temps}
use Rattle.cil_form.specs.Computes.{EndsAlike, LeftAlike, Executes}
use Rattle.cil_form.specs.Meaning.{run}
use Rattle.cil_form.specs.Machine as code
use Rattle.lower_rules.specs.Initialisers.{IsCodeOfStatics}
use Rattle.lower_rules.specs.Units.{outermost, homes_of, static_context, IsCodeOfFunction, AreCodeOf, IsCodeOfUnit}
use Rattle.lower_means.proofs.Forms.{around_of}
use Rattle.lower_means.proofs.Loops.{control_of}
use Rattle.lower_means.proofs.Initialisers.{statics-initialised}
use Rattle.lower_means.proofs.Statements.{does-block}

-- Code with temporaries of its own

alone-same : (P : Temp → Type 0) (T : Temporaries) (m : Outcome Ending State (Control Value)) (n : Outcome Ending Local (Control Value))
    → Matches (LeftAlike P T) EndsAlike m n → code.without_temps n ≡ m
alone-same P T (Ended e s) (Ended d c) h = ap (λ z. Ended z c.state) (sym h.0) ∙ ap (λ z. Ended e z) (sym h.1)
alone-same P T (Ended e s) (Done x c) h = absurd h
alone-same P T (Done y s) (Ended d c) h = absurd h
alone-same P T (Done y s) (Done x c) h = ap (λ z. Done z c.state) h.exit ∙ ap (λ z. Done y z) h.state

runs-alone : (c : List Instr) (w : Around) (m : Act (Control Value)) (depth : ℕ) → Executes c w m depth → (s : State) → code.alone (run c w) s ≡ m s
runs-alone c w m depth h s = alone-same _ no_temps (m s) (run c w (record { state = s; temps = no_temps })) (h.by s no_temps)

-- Functions

result-same : (none : Value) (o : Outcome Ending State Flow)
    → from (from o (λ flow. done (control_of outermost flow))) (λ x. done (code.result_of none x)) ≡ from o
    (λ flow. done (source.result_of none flow))
result-same none (Ended e s) = refl
result-same none (Done Normal s) = refl
result-same none (Done Breaks s) = refl
result-same none (Done Continues s) = refl
result-same none (Done (Returns v) s) = refl

body-same : (w : Setting) (homes : List NodeId) (d : DefinedFunction) (f : Function) → IsCodeOfFunction w.table homes d f
    → (depth first : ℕ) (call : Calls) (none : Value) (s : State)
    → code.body_of w f depth first call none s ≡ source.body_of w homes d depth first call none s
body-same w homes d f h depth first call none s =
    ap (λ o. from o (λ x. done (code.result_of none x)))
    (runs-alone f.body.0.items (around_of world) (λ r. from (exec_items d.body world r) (λ flow. done (control_of outermost flow))) 0
    (does-block world d.body outermost f.body.0.items h.body) s)
    ∙ result-same none (exec_items d.body world s)
  where
    world : World
    world = source.world_in w homes d depth first call

callable-same : (w : Setting) (homes : List NodeId) (d : DefinedFunction) (f : Function) → IsCodeOfFunction w.table homes d f
    → code.callable w f ≡ source.callable w homes d
callable-same w homes d f h =
    ap (λ z. runs.callable z (code.body_of w f)) h.head
    ∙ ap (runs.callable (source.head_of d))
    (fun_ext (λ depth. fun_ext (λ first. fun_ext (λ call. fun_ext (λ none. fun_ext (λ s. body-same w homes d f h depth first call none s))))))

callables-same : (w : Setting) (homes : List NodeId) (ds : List DefinedFunction) (fs : List Function) → AreCodeOf w.table homes ds fs
    → map (code.callable w) fs ≡ map (source.callable w homes) ds
callables-same w homes [] [] h = refl
callables-same w homes [] (f ∷ fs) h = absurd h
callables-same w homes (d ∷ ds) [] h = absurd h
callables-same w homes (d ∷ ds) (f ∷ fs) h =
    ap (λ z. z ∷ map (code.callable w) fs) (callable-same w homes d f h.0)
    ∙ ap (λ l. source.callable w homes d ∷ l) (callables-same w homes ds fs h.1)

defined-same : (table : Table) (homes : List NodeId) (ds : List DefinedFunction) (fs : List Function) → AreCodeOf table homes ds fs
    → map (λ f. runs.defined (code.head_of f)) fs ≡ map (λ d. runs.defined (source.head_of d)) ds
defined-same table homes [] [] h = refl
defined-same table homes [] (f ∷ fs) h = absurd h
defined-same table homes (d ∷ ds) [] h = absurd h
defined-same table homes (d ∷ ds) (f ∷ fs) h =
    ap (λ z. runs.defined z ∷ map (λ f. runs.defined (code.head_of f)) fs) h.0.head
    ∙ ap (λ l. runs.defined (source.head_of d) ∷ l) (defined-same table homes ds fs h.1)

-- Static initialisers

statics-same : (w : Setting) (homes : List NodeId) (all : List StaticInitialiser) (c : List Instr)
    → IsCodeOfStatics all (static_context w.table homes) c
    → (s : State) → code.initialise_statics w c s ≡ source.initialise_statics all (source.static_world w homes) s
statics-same w homes all c h s =
    ap (λ o. from o (λ _. done tt)) (runs-alone c (around_of world) (λ r. from (source.initialise_statics all world r) (λ _. done Goes)) 0
    (statics-initialised world all 0 c h) s)
    ∙ from-from (source.initialise_statics all world s) (λ _. done Goes) (λ _. done tt) ∙ from-done (source.initialise_statics all world s)
  where
    world : World
    world = source.static_world w homes

-- for every kinds, input and number of turns
pub code-runs : (u : TypedTranslationUnit) (p : Program) → IsCodeOfUnit u p → (kind : NodeId → Kind) (input : Input) (turns : ℕ)
    → code.code_run p kind input turns ≡ source.source_run u p.types kind input turns
code-runs u p h kind input turns =
    ap (λ l. let x = setting l in run_all x (code.initialise_statics x p.initialisers.0.items)
    (map (code.callable x) p.functions) p.main.0 p.main_place
    (code.statics_of p) input turns) (defined-same p.types homes (functions_of u) p.functions h.functions)
    ∙ ap (λ z. run_all w z (map (code.callable w) p.functions) p.main.0 p.main_place (code.statics_of p) input turns)
    (fun_ext (statics-same w homes (static_initialisers u) p.initialisers.0.items h.initialisers))
    ∙ ap (λ z. run_all w before z p.main.0 p.main_place (code.statics_of p) input turns)
    (callables-same w homes (functions_of u) p.functions h.functions)
    ∙ ap (λ z. run_all w before functions z p.main_place (code.statics_of p) input turns) h.main
    ∙ ap (λ z. run_all w before functions (source.main_of u) z (code.statics_of p) input turns) h.main_place
    ∙ ap (λ z. run_all w before functions (source.main_of u) (source.main_place u) z input turns) h.statics
  where
    homes : List NodeId
    homes = homes_of u

    setting : List Defined → Setting
    setting = λ l. record { table = p.types; kind = kind; functions = l }

    w : Setting
    w = source.setting_of u p.types kind

    before : Act (Unit {0})
    before = source.initialise_statics (static_initialisers u) (source.static_world w homes)

    functions : List runs.Callable
    functions = map (source.callable w homes) (functions_of u)

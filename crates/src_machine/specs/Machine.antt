-- What a unit means: its static initialisers run, and then `main` (C99 5.1.2).
use Rattle.std.specs.Prelude.{ℕ, Bool, false, List, [], ◌∷◌, ◌++◌, map, length, slice_get, Option, None, Some, option_map, unwrap_or, codes, bytes_eq}
use Rattle.std.specs.List.{position}
use Rattle.cc_base.specs.declared.place.Place.{Place}
use Rattle.cc_base.specs.declared.number.NodeId.{NodeId}
use Rattle.cc_base.specs.declared.kind.Kind.{Kind}
use Rattle.c_types.specs.Table.{Table}
use Rattle.runs.specs.Outcome.{done, ◌>>=◌, ◌>>◌}
use Rattle.runs.specs.Input.{Input}
use Rattle.c_tree.specs.Literals.{pieces_bytes}
use Rattle.c_tree.specs.declared.leaf.Identifier.{Identifier}
use Rattle.c_tree.specs.declared.leaf.StringPiece.{StringPiece}
use Rattle.c_tree.specs.TypedTree.{TypedTranslationUnit}
use Rattle.c_tree.specs.TypedParts.{DefinedFunction, StaticInitialiser, declared_type, name_of, parameters_of, locals_of, statics_of, functions_of, static_initialisers}
use Rattle.c_tree.specs.Places.{nowhere}
use Rattle.src_mem.specs.Pointers.{Value}
use Rattle.src_mem.specs.State.{Act, Setting, wrong}
use Rattle.src_mem.specs.Runs as runs
use Rattle.src_mem.specs.Runs.{Calls, Body, Callable, Head, Static, SourceOutcome, defined, variables_of, run_all}
use Rattle.src_machine.specs.World.{World}
use Rattle.src_machine.specs.Statements.{Flow, Normal, Breaks, Continues, Returns, exec_items, initialise_object}

-- The parts of a unit

-- the parameters and the local variables of a function, in the order of the text
abbrev pub head_of : DefinedFunction → Head
head_of f = record {
  type = declared_type f.declarator;
  parameters = map (λ p. record { type = p.type; home = p.home }) (parameters_of f.declarator);
  locals = map (λ v. record { type = v.type; node = v.home }) (locals_of f.body);
}

-- what stays the same in the runs of a unit whose nodes have these kinds
abbrev pub setting_of : TypedTranslationUnit → Table → (NodeId → Kind) → Setting
setting_of u table kind = record { table = table; kind = kind; functions = map (λ f. defined (head_of f)) (functions_of u) }

-- the bytes of adjacent string literals, and a zero byte (C99 6.4.5)
abbrev pub text_of : List StringPiece → List ℕ
text_of pieces = pieces_bytes pieces ++ 0 ∷ []

-- the objects that live as long as the program
abbrev pub statics_in : TypedTranslationUnit → List Static
statics_in u = map (λ o. record { type = o.type; home = o.home; text = option_map text_of o.literal }) (statics_of u)

abbrev pub is_main : Option Identifier → Bool
is_main None = false
is_main (Some name) = bytes_eq name.bytes (codes "main")

-- the number of `main`; where there is none, one that no function has
abbrev pub main_of : TypedTranslationUnit → ℕ
main_of u = unwrap_or (position (λ f. is_main (name_of f.declarator)) (functions_of u)) (length (functions_of u))

abbrev pub place_of_name : Option Identifier → Place
place_of_name None = nowhere
place_of_name (Some name) = name.place

abbrev pub place_of_function : Option DefinedFunction → Place
place_of_function None = nowhere
place_of_function (Some f) = place_of_name (name_of f.declarator)

-- where the name of `main` stands
abbrev pub main_place : TypedTranslationUnit → Place
main_place u = place_of_function (slice_get (functions_of u) (main_of u))

-- Calls

-- what a body gives, by how it is left; `none` where its end is reached
abbrev pub result_of : Value → Flow → Value
result_of none Normal = none
result_of none Breaks = none
result_of none Continues = none
result_of none (Returns v) = v

-- what the body of a function is run in
abbrev pub world_in : Setting → List NodeId → DefinedFunction → ℕ → ℕ → Calls → World
world_in w statics f depth first call = record {
  setting = w;
  statics = statics;
  frame = record { depth = depth; first = first; homes = map (λ v. v.node) (variables_of (head_of f)) };
  call = call;
}

abbrev pub body_of : Setting → List NodeId → DefinedFunction → Body
body_of w statics f depth first call none =
    exec_items f.body (world_in w statics f depth first call) >>= (λ flow. done (result_of none flow))

abbrev pub callable : Setting → List NodeId → DefinedFunction → Callable
callable w statics f = runs.callable (head_of f) (body_of w statics f)

-- The run

-- the initialisers of the objects that live as long as the program, in the order of the text, as a call of depth 0
abbrev pub initialise_statics : List StaticInitialiser → World → Act (Unit {0})
initialise_statics [] w = done tt
initialise_statics (i ∷ all) w = initialise_object w i.home i.type i.place i.initialiser >> initialise_statics all w

-- what static initialisers are evaluated in: no variables of a call, and no calls
abbrev pub static_world : Setting → List NodeId → World
static_world w statics = record { setting = w; statics = statics; frame = record { depth = 0; first = 0; homes = [] }; call = λ f depth arguments. wrong }

-- The meaning of a unit, with its table of types and the kinds of its nodes, for an input and a bound on turns.
abbrev pub source_run : TypedTranslationUnit → Table → (NodeId → Kind) → Input → ℕ → SourceOutcome
source_run u table kind input turns =
    let w = setting_of u table kind in
    let statics = map (λ o. o.home) (statics_of u) in
    run_all w (initialise_statics (static_initialisers u) (static_world w statics)) (map (callable w statics) (functions_of u))
    (main_of u) (main_place u) (statics_in u) input turns

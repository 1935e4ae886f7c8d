-- What every operation on memory leaves true is true at the end of a run of a unit.
use Rattle.std.proofs.Common.{ℕ, ◌≤◌, List, [], ◌∷◌, map, length}
use Rattle.cc_base.specs.declared.number.NodeId.{NodeId}
use Rattle.cc_base.specs.declared.kind.Kind.{Kind}
use Rattle.c_types.specs.Table.{Table}
use Rattle.runs.specs.Input.{Input}
use Rattle.c_tree.specs.TypedTree.{TypedTranslationUnit}
use Rattle.c_tree.specs.TypedParts.{DefinedFunction, StaticInitialiser, functions_of, statics_of, static_initialisers}
use Rattle.src_mem.specs.State.{State, Setting, bytes_of}
use Rattle.src_mem.specs.Laws.{Keeps, IsInvariant, AreWhole}
use Rattle.src_mem.specs.RunLaws.{AllLie}
use Rattle.src_mem.proofs.Lists.{get-map}
use Rattle.src_mem.proofs.Keeping.{keep_done, keep_wrong, keep_bind, keep_then}
use Rattle.src_mem.proofs.KeepingRuns.{BodyKeeps, BodiesKeep, facts_at_end}
use Rattle.src_machine.specs.Laws.{EachRun}
use Rattle.src_machine.specs.Machine.{world_in, callable, setting_of, static_world, initialise_statics, main_of, main_place, statics_in, source_run}
use Rattle.src_machine.proofs.Running.{keep_exec_items, keep_initialise_object}

module _ (w : Setting) (statics : List NodeId) (P : State → Type 0) (I : IsInvariant P) where
  keep_body : (d : DefinedFunction) → BodyKeeps P (callable w statics d)
  keep_body d call kc depth first none = keep_bind (keep_exec_items I (world_in w statics d depth first call) kc d.body) (λ flow. keep_done P _)

  bodies_keep : (fs : List DefinedFunction) → BodiesKeep P (map (callable w statics) fs)
  bodies_keep fs = record { each = get-map (BodyKeeps P) (callable w statics) fs (λ i d e. keep_body d) }

  keep_statics : (is : List StaticInitialiser) → Keeps P (initialise_statics is (static_world w statics))
  keep_statics [] = keep_done P tt
  keep_statics (i ∷ is) =
      keep_then (keep_initialise_object I (static_world w statics) (λ f depth vs. keep_wrong P) i.home i.type i.place i.initialiser) (keep_statics is)

module _ (u : TypedTranslationUnit) (table : Table) (kind : NodeId → Kind) (input : Input) (turns : ℕ) where
  abbrev w : Setting
  w = setting_of u table kind

  abbrev homes : List NodeId
  homes = map (λ o. o.home) (statics_of u)

  facts : ((source_run u table kind input turns).read ≤ length (bytes_of input))
      × AllLie (source_run u table kind input turns) × AreWhole (source_run u table kind input turns).memory.objects
  facts = facts_at_end w (initialise_statics (static_initialisers u) (static_world w homes)) (map (callable w homes) (functions_of u))
      (main_of u) (main_place u) (statics_in u) input turns
      (λ P I. keep_statics w homes P I (static_initialisers u)) (λ P I. bodies_keep w homes P I (functions_of u))

pub reads_what_is_there : EachRun (λ input o. o.read ≤ length (bytes_of input))
reads_what_is_there u table kind input turns = (facts u table kind input turns).0

pub accesses_lie : EachRun (λ input o. AllLie o)
accesses_lie u table kind input turns = (facts u table kind input turns).1

pub whole_at_end : EachRun (λ input o. AreWhole o.memory.objects)
whole_at_end u table kind input turns = (facts u table kind input turns).2

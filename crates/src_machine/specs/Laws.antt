-- What is said of all runs.
use Rattle.std.specs.Prelude.{ℕ}
use Rattle.cc_base.specs.declared.number.NodeId.{NodeId}
use Rattle.cc_base.specs.declared.kind.Kind.{Kind}
use Rattle.c_types.specs.Table.{Table}
use Rattle.runs.specs.Input.{Input}
use Rattle.c_tree.specs.TypedTree.{TypedTranslationUnit}
use Rattle.src_mem.specs.Runs.{SourceOutcome}
use Rattle.src_machine.specs.Machine.{source_run}

-- what is true of each run on an input: of every unit, with every table and all kinds, and for every bound on turns
abbrev pub EachRun : (Input → SourceOutcome → Type 0) → Type 0
EachRun P = (u : TypedTranslationUnit) (table : Table) (kind : NodeId → Kind) (input : Input) (turns : ℕ) → P input (source_run u table kind input turns)

-- What the cured program of a text does.
use Rattle.std.specs.Prelude.{ℕ, List}
use Rattle.cc_base.specs.Kinds.{kind_at}
use Rattle.cc_base.specs.declared.number.TypeId.{TypeId}
use Rattle.c_tree.specs.TypedStatementViews.{typed_unit_view}
use Rattle.c_tree.specs.declared.typed_unit.Typed.{Typed}
use Rattle.src_machine.specs.Machine.{source_run}
use Rattle.cil_form.specs.Machine.{setting_of}
use Rattle.cil_form.specs.declared.program.Program.{Program}
use Rattle.kind_solver.specs.declared.solved.Solved.{Solved}
use Rattle.rtti_nodes.specs.TypeNodes.{node_at}
use Rattle.cured_code.specs.declared.parts.Parts.{Parts}
use Rattle.sim_relation.specs.Outcomes.{RunsAlike}
use Rattle.sim_laws.specs.Plain.{IsPlainProgram}
use Rattle.sim_laws.specs.PlainKinds.{ArePlainKinds}
use Rattle.c_build.specs.Built.{IsBuilt, IsCuringOf}

-- THE CURED RUN IS THE SOURCE'S RUN: for every input of bytes and every number of turns, where RTTI pointers carry these numbers of type nodes.
abbrev pub RunsAsSource : Typed → Program → Solved → Parts → (TypeId → ℕ) → Type 0
RunsAsSource t p s c number_of = RunsAlike (setting_of p (kind_at s.kinds)) number_of (source_run (typed_unit_view t.unit) t.types (kind_at s.kinds)) c

-- So it is where the inferred kinds make the code plain: with the type nodes by which the program was cured.
abbrev pub RunsAlikeIfPlain : Typed → Program → Solved → Parts → Type 0
RunsAlikeIfPlain t p s c = (is : IsCuringOf p s c) → IsPlainProgram p (kind_at s.kinds) → RunsAsSource t p s c (node_at is.nodes)

-- So it is where each node of the program is SAFE or SEQ.
abbrev pub RunsAlikeIfPlainKinds : Typed → Program → Solved → Parts → Type 0
RunsAlikeIfPlainKinds t p s c = (is : IsCuringOf p s c) → ArePlainKinds p.nodes (kind_at s.kinds) → RunsAsSource t p s c (node_at is.nodes)

-- THE THEOREM OF BUILT PROGRAMS: whatever cured program a text has.
abbrev pub BuiltProgramsRunAlike : Type 0
BuiltProgramsRunAlike = (text : List ℕ) (t : Typed) (p : Program) (s : Solved) (c : Parts) → IsBuilt text t p s c → RunsAlikeIfPlain t p s c

-- and of every text whose nodes, pointers and homes, are all SAFE or SEQ
abbrev pub PlainKindsRunAlike : Type 0
PlainKindsRunAlike = (text : List ℕ) (t : Typed) (p : Program) (s : Solved) (c : Parts) → IsBuilt text t p s c → RunsAlikeIfPlainKinds t p s c

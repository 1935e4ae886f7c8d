-- Code and programs that are wrong nowhere.
use Rattle.std.specs.Prelude.{◌≢◌, ℕ, List, [], ◌∷◌, All, IsSome}
use Rattle.cc_base.specs.declared.kind.Kind.{Kind}
use Rattle.cc_base.specs.declared.number.NodeId.{NodeId}
use Rattle.flat_mem.specs.Bytes.{AreBytes}
use Rattle.runs.specs.Input.{Input}
use Rattle.src_mem.specs.Pointers.{Value}
use Rattle.src_mem.specs.State.{Wrong, bytes_of}
use Rattle.src_mem.specs.Laws.{Keeps, ReadsWhatIsThere}
use Rattle.cil_form.specs.declared.instr.Convert.{Convert}
use Rattle.cil_form.specs.declared.instr.Convert.TheVariants as convert
use Rattle.cil_form.specs.declared.instr.Instr.{Instr, Row_of-Instr, end_of-Instr, more_of-Instr}
use Rattle.cil_form.specs.declared.instr.Instr.TheVariants as instr
use Rattle.cil_form.specs.declared.program.Function.{Function}
use Rattle.cil_form.specs.declared.program.Program.{Program}
use Rattle.cil_form.specs.State.{Local, Around}
use Rattle.cil_form.specs.Typing.{Typing, Context, AreShaped}
use Rattle.cil_form.specs.Meaning.{run}
use Rattle.cil_form.specs.Machine.{code_run}
use Rattle.cil_form.specs.Shape.{IsInShape}
use Rattle.cil_form.specs.Told.{IsToldOf, IsSolutionOf}
use Rattle.cil_facts.specs.Held.{IsSolvedFor, AreFacts}
use Rattle.cil_facts.specs.Calling.{CallsKeepTheFacts, IsLeftWell, ComesTo}

-- no pointer is converted to an integer, which has no meaning yet where the pointer is an object's
abbrev pub NumbersNoPointer : Convert → Type 0
NumbersNoPointer (convert.FromPointer into from t u) = ⊥
NumbersNoPointer other = Unit {0}

abbrev mutual
  pub NumbersNone : Instr → Type 0
  NumbersNone (instr.Convert i) = NumbersNoPointer i
  NumbersNone (instr.If' t shape code shape' other) = RowNumbersNone code × RowNumbersNone other
  NumbersNone (instr.Block' shape code) = RowNumbersNone code
  NumbersNone (instr.Loop' shape code) = RowNumbersNone code
  NumbersNone other = Unit {0}

  pub RowNumbersNone : {m : _} → Row_of-Instr m → Type 0
  RowNumbersNone end_of-Instr = Unit {0}
  RowNumbersNone (more_of-Instr i rest) = NumbersNone i × RowNumbersNone rest

abbrev pub CodeNumbersNone : List Instr → Type 0
CodeNumbersNone [] = Unit {0}
CodeNumbersNone (i ∷ is) = NumbersNone i × CodeNumbersNone is

-- nowhere in a program
pub record ProgramNumbersNone (p : Program) : Type 0 where
  pub initialisers : CodeNumbersNone p.initialisers.0.items
  pub functions : All (λ (f : Function). CodeNumbersNone f.body.0.items) p.functions

-- Code in shape is wrong nowhere: where the facts are true before it, a check or what it does ends the run, or it is left with
-- the facts true of what is known there.
abbrev pub CodeIsNeverWrong : Type 0
CodeIsNeverWrong = (is : List Instr) (k : Context) (a : Around) (types after : Typing) (input : Input) (c : Local) → CodeNumbersNone is
    → IsSolvedFor k a.setting → (IsSome k.result → CallsKeepTheFacts k a.setting input a.depth a.call)
    → ((f depth : ℕ) (arguments : List Value) → Keeps (ReadsWhatIsThere input) (a.call f depth arguments)) → AreBytes (bytes_of input)
    → ReadsWhatIsThere input c.state → AreShaped is k types after → AreFacts k a types c
    → ComesTo (run is a c) (IsLeftWell k a after c)

-- A program in shape whose sites are told is wrong nowhere, under kinds that are a solution for its sites: for every input, and
-- however many turns there are.
abbrev pub ProgramsAreNeverWrong : Type 0
ProgramsAreNeverWrong = (p : Program) (kind : NodeId → Kind) (input : Input) (turns : ℕ) → IsInShape p → IsToldOf p → IsSolutionOf p kind
    → ProgramNumbersNone p → AreBytes (bytes_of input) → (code_run p kind input turns).ending ≢ Wrong

-- What `run` answers is what the C program does, where its kinds make it plain.
use Rattle.std.proofs.Common.{◌≡◌, ◌∙◌, ◌≤◌, inl, inr, ℕ, List, [], IfSome, Some, ap, length, subst, sym, refl}
use Rattle.cc_base.specs.Kinds.{kind_at}
use Rattle.flat_mem.specs.Bytes.{AreBytes}
use Rattle.runs.specs.Input.{Closed}
use Rattle.cc_base.specs.declared.fault.Check.{Check}
use Rattle.cc_base.specs.declared.place.Place.{Place}
use Rattle.src_mem.specs.State as source
use Rattle.cured_code.specs.FlatMachine.{flat_run}
use Rattle.cured_code.specs.FlatState as flat
use Rattle.cured_code.specs.declared.parts.Parts.{Parts}
use Rattle.cured_machine.specs.Runs.{IsEnding, Outside}
use Rattle.cured_machine.specs.declared.ending.Ending.{Ending}
use Rattle.cured_machine.specs.declared.ending.Ending.TheVariants as machine
use Rattle.sim_relation.specs.Outcomes.{EndAlike, RunAlike}
use Rattle.cil_form.specs.Machine.{setting_of}
use Rattle.rtti_nodes.specs.TypeNodes.{node_at}
use Rattle.c_build.specs.Built.{IsCured}
use Rattle.c_build.proofs.AlikeLaws.{built_alike, kinds_alike}
use Rattle.command_words.specs.declared.command.Action.TheVariants.{Run}
use Rattle.command_words.specs.Commands.{OnFile, command_of}
use Rattle.program_answers.specs.Answers as answers
use Rattle.program_answers.specs.Answers.{Answer, IsAnswerTo, IsFileAnswer, IsTextAnswer, answer_of_run}
use Rattle.program_answers.specs.Causes.{Filed}
use Rattle.program_answers.specs.Statuses.{GivesAnswer}
use Rattle.program_answers.specs.Texts.{text_limit}
use Rattle.program_answers.specs.Verdicts.{verdict_of_run}
use Rattle.program_top.specs.AsSource.{GivesSourceAnswer, IsAnswerOf, IsPlainBy, IsSourceAnswer, IsVerdictOf, refused, runs, too_long, unit_run}
use Rattle.program_top.specs.Made.{texts}

exited_as : (n m : ℕ) (e : Ending) → m ≡ n → IsEnding e (flat.Exited m) → IsVerdictOf (source.Exited n) (verdict_of_run e)
exited_as n m (machine.Exited k) same is = cc (same, is)
exited_as n m machine.ReadFault same is = absurd is
exited_as n m machine.WriteFault same is = absurd is
exited_as n m e same is = absurd (cc (is))

stopped_as : (check other : Check) (place at : Place) (e : Ending) → (other ≡ check) × (at ≡ place) → IsEnding e (flat.Stopped other at)
    → IsVerdictOf (source.Stopped check place) (verdict_of_run e)
stopped_as check other place at (machine.Stopped it there) same is = cc (same.0, same.1, is)
stopped_as check other place at machine.ReadFault same is = absurd is
stopped_as check other place at machine.WriteFault same is = absurd is
stopped_as check other place at e same is = absurd (cc (is))

spent_as : (e : Ending) → IsEnding e flat.Turns → IsVerdictOf source.Turns (verdict_of_run e)
spent_as machine.Turns is = refl
spent_as machine.ReadFault is = absurd is
spent_as machine.WriteFault is = absurd is
spent_as e is = absurd (cc (is))

-- over a closed input nothing wants more
wants_none : (e : Ending) → IsEnding e flat.Wants → ⊥
wants_none machine.ReadFault is = is
wants_none machine.WriteFault is = is
wants_none e is = absurd (cc (is))

-- where the two runs end alike, what is reported of the cured one is how the C program ends
ended_so : (s : source.Ending) (f : flat.Ending) (e : Ending) → EndAlike s f → IsEnding e f → IsVerdictOf s (verdict_of_run e)
ended_so (source.Exited n) (flat.Exited m) e alike is = exited_as n m e alike is
ended_so (source.Stopped check place) (flat.Stopped other at) e alike is = stopped_as check other place at e alike is
ended_so source.Turns flat.Turns e alike is = spent_as e is
ended_so source.Wants flat.Wants e alike is = wants_none e is
ended_so s f e alike is = absurd alike

-- the cured program of a text runs as its unit
runs_so : (text bytes : List ℕ) (turns : ℕ) (c : Parts) (cured : IsCured text c) → IsPlainBy cured.code cured.solved → AreBytes bytes
    → RunAlike (setting_of cured.code (kind_at cured.solved.kinds)) (node_at cured.built.cured.nodes) (unit_run cured.typed cured.solved bytes turns) (flat_run c (Closed bytes) turns)
runs_so text bytes turns c cured (inl plain) are_bytes =
    built_alike text cured.typed cured.code cured.solved c cured.built cured.built.cured plain (Closed bytes) turns are_bytes
runs_so text bytes turns c cured (inr kinds) are_bytes =
    kinds_alike text cured.typed cured.code cured.solved c cured.built cured.built.cured kinds (Closed bytes) turns are_bytes

-- the answer of a run of the cured program of a text
answers_so : (text bytes : List ℕ) (turns : ℕ) (c : Parts) (cured : IsCured text c) (ending : Ending) (answer : Answer)
    → IsEnding ending (flat_run c (Closed bytes) turns).ending → answer ≡ answer_of_run [] c bytes turns ending
    → IsPlainBy cured.code cured.solved → AreBytes bytes
    → IsAnswerOf (unit_run cured.typed cured.solved bytes turns) answer
answers_so text bytes turns c cured ending answer ends same plain are_bytes =
    let alike = runs_so text bytes turns c cured plain are_bytes in
    record {
      output = ap (λ a. a.output) same ∙ alike.output;
      verdict = subst (λ v. IsVerdictOf (unit_run cured.typed cured.solved bytes turns).ending v) (sym (ap (λ a. a.verdict) same))
          (ended_so (unit_run cured.typed cured.solved bytes turns).ending (flat_run c (Closed bytes) turns).ending ending alike.ending ends);
    }

of_text : (text bytes : List ℕ) (turns : ℕ) (answer : Answer) → length text ≤ text_limit → IsTextAnswer texts (Run turns) text bytes answer → IsSourceAnswer text bytes turns answer
of_text text bytes turns answer fits (answers.refused verdict why same) = refused fits verdict why same
of_text text bytes turns answer fits (answers.writes lines is same) = absurd is
of_text text bytes turns answer fits (answers.runs c cured ending ends same) =
    runs fits cured.typed cured.code cured.solved cured.built.inferred (answers_so text bytes turns c cured ending answer ends same)

of_file : (text bytes : List ℕ) (turns : ℕ) (answer : Answer) → IsFileAnswer texts (Run turns) text bytes answer → IsSourceAnswer text bytes turns answer
of_file text bytes turns answer (answers.too_long most is_limit long same) = too_long (rw is_limit at long) (rw is_limit at same)
of_file text bytes turns answer (answers.has_text fits is) = of_text text bytes turns answer fits is

module _ (words : List (List ℕ)) (files : Filed) (input output report : Outside) (status : ℕ) where
  -- the answer that is given, for a text of C
  source_given : (given : GivesAnswer texts words files input output report status) (name : List ℕ) (turns : ℕ) (text : List ℕ)
      → IfSome (files.holds name) (λ bytes. text ≡ bytes) → IsSourceAnswer text given.bytes turns given.answer
      → GivesSourceAnswer name turns files input output report status
  source_given given name turns text is_text is = record {
    bytes = given.bytes;
    held = given.held;
    text = text;
    is_text = is_text;
    answer = given.answer;
    is_answer = is;
    written = given.written;
    reported = given.reported;
    ended = given.ended;
  }

  source_answered : (given : GivesAnswer texts words files input output report status) (name : List ℕ) (turns : ℕ)
      → command_of words ≡ Some (OnFile (Run turns) name) → IsAnswerTo texts words files.holds given.bytes given.answer
      → GivesSourceAnswer name turns files input output report status
  source_answered given name turns asked (answers.no_command none same) = absurd (cc (none, asked))
  source_answered given name turns asked (answers.of_file action other text asked' is_text is) =
      let as_run : action ≡ Run turns = cc (asked, asked') in
      let as_named : other ≡ name = cc (asked, asked') in
      source_given given name turns text (subst (λ n. IfSome (files.holds n) (λ bytes. text ≡ bytes)) as_named is_text)
      (of_file text given.bytes turns given.answer (subst (λ a. IsFileAnswer texts a text given.bytes given.answer) as_run is))
  source_answered given name turns asked (answers.of_number n asked' is) = absurd (cc (asked, asked'))

  pub gives_source : GivesAnswer texts words files input output report status → (name : List ℕ) (turns : ℕ)
      → command_of words ≡ Some (OnFile (Run turns) name) → GivesSourceAnswer name turns files input output report status
  gives_source given name turns asked = source_answered given name turns asked given.is_answer

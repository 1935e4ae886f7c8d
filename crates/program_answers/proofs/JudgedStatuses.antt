-- What each status says, from the cause of the verdict and from how it is reported.
use Rattle.std.proofs.Common.{◌≡◌, ◌≢◌, true, false, ⊎_elim, ℕ, ◌≤◌, List, [], length, Some, None, IfSome, ◌⊎◌, inl, inr, ◌∙◌, ap, subst, refl}
use Rattle.cc_io.specs.Bytes.{Gains}
use Rattle.cured_code.specs.declared.parts.Parts.{Parts}
use Rattle.cured_machine.specs.declared.ending.Ending.{Ending}
use Rattle.cured_machine.specs.declared.ending.Ending.TheVariants as machine
use Rattle.cured_machine.specs.Runs.{Outside, IsRun, RanAsMeant}
use Rattle.command_words.specs.declared.command.Action.{Action}
use Rattle.command_words.specs.Commands.{Command, OnFile, Make, command_of, default_turns}
use Rattle.command_words.specs.Passed.{are_asked}
use Rattle.command_words.proofs.Asked.{asked_words}
use Rattle.program_answers.specs.declared.verdict.Verdict.{Verdict}
use Rattle.program_answers.specs.declared.verdict.Verdict.TheVariants.{Done, Usage, FileFault, InputFault, OutputFault, TextTooLong, NoMemory}
use Rattle.program_answers.specs.Verdicts.{line_of, status_of, verdict_of_run}
use Rattle.program_answers.specs.Texts.{Texts, limit_of, turns_of}
use Rattle.program_answers.specs.Answers.{Answer, Ends, answer_of_run, silent, IsTextAnswer, refused as answers_refusal, writes, runs, too_long as answers_too_long, has_text as answers_text, IsAnswerTo, no_command as answers_no_command, of_file, of_number, made_refused as answers_made_refusal, made_runs}
use Rattle.program_answers.specs.Causes.{Filed, IsIdle, IsTextCause, refused, no_room, written, unwritten, ran, IsFileCause, unread, unheld, too_long, has_text, IsCause, no_command, unread_words, on_file, on_number, IsBehind, IsMadeCause, made_refused, made_no_room, made_unwritten, made_ran, IsReported, said, unsaid, IsJudged}
use Rattle.program_answers.specs.Statuses.{FaultsRose, FilesFailed, GivesAnswer, IsAskedRun, of_file as asks_file, of_number as asks_number, HasCause}
use Rattle.program_answers.proofs.Reasons.{kept_gains, held_bytes, held_so, long_text, is_told, is_long, is_behind_nothing, gains_behind, rose_behind}

-- the report says the verdict's line, with the verdict's status
pub record IsSaid (verdict : Verdict) (report : Outside) (status : ℕ) : Type 0 where
  pub line : Gains report.before report.after (line_of verdict)
  pub ended : status ≡ status_of verdict

said_as : (verdict other : Verdict) (report : Outside) (status : ℕ) → verdict ≡ other → IsSaid verdict report status → IsSaid other report status
said_as verdict other report status same is_said = subst (λ v. IsSaid v report status) same is_said

module _ (texts : Texts) (words : List (List ℕ)) (files : Filed) (input output report : Outside) (status : ℕ) where
  abbrev Caused : Type 0
  Caused = HasCause texts words files input output report status

  of_answer : (verdict : Verdict) (bytes : List ℕ) (answer : Answer) → IfSome input.before (λ held. held ≡ bytes) → IsAnswerTo texts words files.holds bytes answer
      → verdict ≡ answer.verdict → Gains output.before output.after answer.output → IsSaid verdict report status → Caused
  of_answer verdict bytes answer held is same gains is_said =
      let s : IsSaid answer.verdict report status = said_as verdict answer.verdict report status same is_said in
      inr (inr (inr (inr (record { bytes = bytes; held = held; answer = answer; is_answer = is; written = gains; reported = s.line; ended = s.ended }))))

  of_silence : (verdict : Verdict) → IsAnswerTo texts words files.holds (held_bytes input.before) (silent verdict) → IsIdle input output → IsSaid verdict report status → Caused
  of_silence verdict is idle is_said =
      of_answer verdict (held_bytes input.before) (silent verdict) (held_so input.before) is refl (kept_gains output.before output.after idle.unwritten) is_said

  out_of_memory : (verdict : Verdict) → are_asked words ≡ true → verdict ≡ NoMemory → IsIdle input output → IsSaid verdict report status → Caused
  out_of_memory verdict asked same idle is_said =
      let s : IsSaid NoMemory report status = said_as verdict NoMemory report status same is_said in
      inr (inr (inr (inl (s.ended, record { asked = asked; idle = idle; reported = s.line }))))

  -- what is answered where code ran that the words ask for
  ran_answer : (lines : List ℕ) (parts : Parts) (turns : ℕ) → IsAskedRun texts words files.holds lines parts turns → (bytes : List ℕ) (ending : Ending)
      → Ends parts bytes turns ending → IsAnswerTo texts words files.holds bytes (answer_of_run lines parts bytes turns ending)
  ran_answer lines parts turns (asks_file action name text asked told short code none same) bytes ending ends =
      let now : Ends parts bytes (turns_of action) ending = subst (λ n. Ends parts bytes n ending) same ends in
      let is : IsAnswerTo texts words files.holds bytes (answer_of_run [] parts bytes (turns_of action) ending) =
      of_file action name text asked told (answers_text short (runs parts code ending now refl)) in
      rw (none, same) is
  ran_answer lines parts turns (asks_number n asked made same) bytes ending ends =
      let now : Ends parts bytes default_turns ending = subst (λ n. Ends parts bytes n ending) same ends in
      let is : IsAnswerTo texts words files.holds bytes (answer_of_run lines parts bytes default_turns ending) =
      of_number n asked (made_runs lines parts made ending now refl) in
      rw same is

  module _ (lines : List ℕ) (parts : Parts) (turns : ℕ) (asked : IsAskedRun texts words files.holds lines parts turns) (rest : Outside)
      (behind : IsBehind lines output rest) where
    as_meant : (verdict : Verdict) (ending : Ending) → verdict ≡ verdict_of_run ending → RanAsMeant parts turns input rest ending
        → IsSaid verdict report status → Caused
    as_meant verdict ending same meant is_said =
        of_answer verdict meant.bytes (answer_of_run lines parts meant.bytes turns ending) meant.held
        (ran_answer lines parts turns asked meant.bytes ending meant.ends) same (gains_behind lines _ output rest behind meant.written) is_said

    run_status : (verdict : Verdict) (ending : Ending) → verdict ≡ verdict_of_run ending → IsRun parts turns input rest ending
        → IsSaid verdict report status → Caused
    run_status verdict machine.ReadFault same cut is_said =
        let s : IsSaid InputFault report status = said_as verdict InputFault report status same is_said in
        inr (inl (
          s.ended,
          record {
            lines = lines;
            parts = parts;
            turns = turns;
            asked = asked;
            failed = cut.failed;
            taken = cut.taken;
            takes = cut.takes;
            wants_more = cut.wants_more;
            written = gains_behind lines _ output rest behind cut.written;
            reported = s.line;
          },
        ))
    run_status verdict machine.WriteFault same cut is_said =
        inr (inr (inl ((said_as verdict OutputFault report status same is_said).ended, inl (rose_behind lines output rest behind cut.failed))))
    run_status verdict (machine.Exited n) same meant is_said = as_meant verdict (machine.Exited n) same meant is_said
    run_status verdict (machine.Stopped check place) same meant is_said = as_meant verdict (machine.Stopped check place) same meant is_said
    run_status verdict machine.Turns same meant is_said = as_meant verdict machine.Turns same meant is_said
    run_status verdict (machine.Trap f) same meant is_said = as_meant verdict (machine.Trap f) same meant is_said

  module _ (action : Action) (name text : List ℕ) (asked : command_of words ≡ Some (OnFile action name)) (told : IfSome (files.holds name) (λ bytes. text ≡ bytes)) (short : length text ≤ limit_of action) where
    answers : (bytes : List ℕ) (answer : Answer) → IsTextAnswer texts action text bytes answer → IsAnswerTo texts words files.holds bytes answer
    answers bytes answer is = of_file action name text asked told (answers_text short is)

    text_status : (verdict : Verdict) → IsTextCause texts action text input output verdict → IsSaid verdict report status → Caused
    text_status verdict (refused why idle) is_said =
        of_silence verdict (answers _ (silent verdict) (answers_refusal verdict why refl)) idle is_said
    text_status verdict (no_room same idle) is_said = out_of_memory verdict (asked_words words (OnFile action name) asked) same idle is_said
    text_status verdict (written bytes is same kept gains) is_said =
        of_answer verdict (held_bytes input.before) (record { output = bytes; verdict = Done }) (held_so input.before) (answers _ _ (writes bytes is refl)) same gains is_said
    text_status verdict (unwritten bytes is same kept rose front) is_said =
        inr (inr (inl ((said_as verdict OutputFault report status same is_said).ended, inl rose)))
    text_status verdict (ran parts code ending same run) is_said =
        run_status [] parts (turns_of action) (asks_file action name text asked told short code refl refl) output (is_behind_nothing output)
        verdict ending same run is_said

  file_status : (action : Action) (name : List ℕ) → command_of words ≡ Some (OnFile action name) → (verdict : Verdict)
      → IsFileCause texts action name files input output verdict → IsSaid verdict report status → Caused
  file_status action name asked verdict (unread same rose last idle) is_said =
      let s : IsSaid FileFault report status = said_as verdict FileFault report status same is_said in
      inl (s.ended, record { action = action; name = name; command = asked; rose = rose; last = last; idle = idle; reported = s.line })
  file_status action name asked verdict (unheld same idle) is_said = out_of_memory verdict (asked_words words (OnFile action name) asked) same idle is_said
  file_status action name asked verdict (too_long most is_limit long same idle) is_said =
      let s : IsSaid (TextTooLong most) report status = said_as verdict (TextTooLong most) report status same is_said in
      of_silence (TextTooLong most)
      (of_file action name (long_text most (files.holds name)) asked (is_told most (files.holds name))
      (answers_too_long most is_limit (is_long most (files.holds name) long) refl)) idle s
  file_status action name asked verdict (has_text text told short cause) is_said = text_status action name text asked told short verdict cause is_said

  made_status : (n : ℕ) → command_of words ≡ Some (Make n) → (verdict : Verdict) → IsMadeCause texts n input output verdict
      → IsSaid verdict report status → Caused
  made_status n asked verdict (made_refused why idle) is_said =
      of_silence verdict (of_number n asked (answers_made_refusal verdict why refl)) idle is_said
  made_status n asked verdict (made_no_room same idle) is_said = out_of_memory verdict (asked_words words (Make n) asked) same idle is_said
  made_status n asked verdict (made_unwritten lines parts made same kept rose front) is_said =
      inr (inr (inl ((said_as verdict OutputFault report status same is_said).ended, inl rose)))
  made_status n asked verdict (made_ran lines parts made ending same rest behind run) is_said =
      run_status lines parts default_turns (asks_number n asked made refl) rest behind verdict ending same run is_said

  said_status : (verdict : Verdict) → IsCause texts words files input output verdict → IsSaid verdict report status → Caused
  said_status verdict (no_command none same idle) is_said =
      of_silence Usage (answers_no_command none refl) idle (said_as verdict Usage report status same is_said)
  said_status verdict (unread_words asked same idle) is_said = out_of_memory verdict asked same idle is_said
  said_status verdict (on_file action name asked cause) is_said = file_status action name asked verdict cause is_said
  said_status verdict (on_number n asked cause) is_said = made_status n asked verdict cause is_said

  judged_status : (verdict : Verdict) → IsCause texts words files input output verdict → IsReported verdict report status → Caused
  judged_status verdict cause (said gains ended) = said_status verdict cause (record { line = gains; ended = ended })
  judged_status verdict cause (unsaid rose front ended) = inr (inr (inl (ended, inr rose)))

  pub has_cause : IsJudged texts words files input output report status → HasCause texts words files input output report status
  has_cause judged = judged_status judged.verdict judged.cause judged.reported

  -- where nothing failed and the status isn't 9, the answer is given
  pub gives_answer : HasCause texts words files input output report status → ¬ (FilesFailed files) → ¬ (FaultsRose input) → ¬ (FaultsRose output) → ¬ (FaultsRose report)
      → status ≢ 9 → GivesAnswer texts words files input output report status
  gives_answer (inl failed) quiet reads wrote says other = absurd (quiet failed.1.rose)
  gives_answer (inr (inl cut)) quiet reads wrote says other = absurd (reads cut.1.failed)
  gives_answer (inr (inr (inl (six, inl rose)))) quiet reads wrote says other = absurd (wrote rose)
  gives_answer (inr (inr (inl (six, inr rose)))) quiet reads wrote says other = absurd (says rose)
  gives_answer (inr (inr (inr (inl spent)))) quiet reads wrote says other = absurd (other spent.0)
  gives_answer (inr (inr (inr (inr given)))) quiet reads wrote says other = given

  no_command_verdict : (verdict : Verdict) → command_of words ≡ None → IsCause texts words files input output verdict → (verdict ≡ Usage) ⊎ (verdict ≡ NoMemory)
  no_command_verdict verdict none (no_command none' same idle) = inl same
  no_command_verdict verdict none (unread_words asked same idle) = inr same
  no_command_verdict verdict none (on_file action name asked cause) = absurd (cc (none, asked))
  no_command_verdict verdict none (on_number n asked cause) = absurd (cc (none, asked))

  unasked_verdict : (verdict : Verdict) → are_asked words ≡ false → IsCause texts words files input output verdict → verdict ≡ Usage
  unasked_verdict verdict none (no_command none' same idle) = same
  unasked_verdict verdict none (unread_words asked same idle) = absurd (cc (none, asked))
  unasked_verdict verdict none (on_file action name asked cause) = absurd (cc (none, asked_words words (OnFile action name) asked))
  unasked_verdict verdict none (on_number n asked cause) = absurd (cc (none, asked_words words (Make n) asked))

  verdict_status : (verdict other : Verdict) → verdict ≡ other → IsReported verdict report status → (status ≡ status_of other) ⊎ ((status ≡ 6) × FaultsRose report)
  verdict_status verdict other same (said gains ended) = inl (ended ∙ ap status_of same)
  verdict_status verdict other same (unsaid rose front ended) = inr (ended, rose)

  no_command_status : (verdict : Verdict) → (verdict ≡ Usage) ⊎ (verdict ≡ NoMemory) → IsReported verdict report status
      → (status ≡ 2) ⊎ ((status ≡ 9) ⊎ ((status ≡ 6) × FaultsRose report))
  no_command_status verdict (inl same) reported = ⊎_elim (λ two. inl two) (λ six. inr (inr six)) (verdict_status verdict Usage same reported)
  no_command_status verdict (inr same) reported = ⊎_elim (λ nine. inr (inl nine)) (λ six. inr (inr six)) (verdict_status verdict NoMemory same reported)

  -- where the words are no command, the status is 2, or 9, or 6 where the report could not be written
  pub says_usage : IsJudged texts words files input output report status → command_of words ≡ None
      → (status ≡ 2) ⊎ ((status ≡ 9) ⊎ ((status ≡ 6) × FaultsRose report))
  says_usage judged none = no_command_status judged.verdict (no_command_verdict judged.verdict none judged.cause) judged.reported

  -- where they don't even begin as one, memory isn't wanted
  pub says_usage_at_once : IsJudged texts words files input output report status → are_asked words ≡ false → (status ≡ 2) ⊎ ((status ≡ 6) × FaultsRose report)
  says_usage_at_once judged none = verdict_status judged.verdict Usage (unasked_verdict judged.verdict none judged.cause) judged.reported

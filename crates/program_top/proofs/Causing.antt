-- Causes of verdicts on a text of C.
use Rattle.std.proofs.Common.{◌≡◌, ◌≢◌, ℕ, List, length, Vec, Result, Ok, Err, IfOk, ◌⊎◌, inl, inr, refl}
use Rattle.std.specs.declared.alloc.Global.{Global}
use Rattle.cc_base.specs.declared.fault.Fault.{Fault}
use Rattle.cc_base.specs.declared.fault.Fault.TheVariants as fault
use Rattle.cc_base.specs.declared.fault.NoMemory.{NoMemory}
use Rattle.cc_base.specs.declared.kind.Kind.{Kind}
use Rattle.cc_base.specs.declared.kind.Kind.TheVariants.{Safe, Seq, Rtti, Wild}
use Rattle.c_tree.specs.declared.typed_unit.Typed.{Typed}
use Rattle.cil_form.specs.declared.program.Program.{Program}
use Rattle.cured_code.specs.declared.parts.Parts.{Parts}
use Rattle.cured_machine.specs.Runs.{Outside}
use Rattle.cured_spelling.specs.Spelling.{cured_spelling}
use Rattle.kind_report.specs.Report.{pointers_of}
use Rattle.kind_solver.specs.declared.solved.Solved.{Solved}
use Rattle.cured_reading.specs.declared.wrong.CuredFault.{CuredFault}
use Rattle.cured_reading.specs.declared.wrong.CuredFault.TheVariants as uncured
use Rattle.command_words.specs.declared.command.Action.{Action}
use Rattle.command_words.specs.declared.command.Action.TheVariants.{Exec}
use Rattle.c_front.specs.Refused.{IsFirstRefusal}
use Rattle.c_build.specs.Inferred.{HasKinds, IsInferred}
use Rattle.c_build.specs.Built.{IsBuilt, IsCured}
use Rattle.program_answers.specs.declared.verdict.Verdict.{Verdict}
use Rattle.program_answers.specs.declared.verdict.Verdict.TheVariants.{NoMemory as Wants}
use Rattle.program_answers.specs.declared.summary.Summary.{Summary}
use Rattle.program_answers.specs.Causes.{IsIdle, IsTextCause, refused, no_room, IsMadeCause, made_refused, made_no_room}
use Rattle.program_answers.specs.Summaries.{pointers_in, summary_lines}
use Rattle.program_answers.specs.Texts.{IsCuredAs, IsMadeOf, IsRefusedWith, Refuses}
use Rattle.program_answers.specs.Verdicts.{verdict_of_cured_fault, verdict_of_fault}
use Rattle.program_gen.specs.Generated.{generated}
use Rattle.program_top.specs.Made.{texts}

-- a fault of a text is a refusal of it, or want of memory
refusal_or_want : (text : List ℕ) (why : Fault) → (why ≢ fault.NoMemory → IsFirstRefusal text why)
    → IsRefusedWith texts text (verdict_of_fault why) ⊎ (verdict_of_fault why ≡ Wants)
refusal_or_want text (fault.Refused place rule) first =
    let other : fault.Refused place rule ≢ fault.NoMemory = λ e. absurd (cc (e)) in
    inl (record { fault = fault.Refused place rule; refused = first other; no_want = other; verdict_is = refl })
refusal_or_want text (fault.TooLarge place limit) first =
    let other : fault.TooLarge place limit ≢ fault.NoMemory = λ e. absurd (cc (e)) in
    inl (record { fault = fault.TooLarge place limit; refused = first other; no_want = other; verdict_is = refl })
refusal_or_want text fault.NoMemory first = inr refl

text_cause : (action : Action) (text : List ℕ) (verdict : Verdict) (input output : Outside)
    → (IsRefusedWith texts text verdict → Refuses texts action text verdict)
    → IsRefusedWith texts text verdict ⊎ (verdict ≡ Wants) → IsIdle input output → IsTextCause texts action text input output verdict
text_cause action text verdict input output as_asked (inl why) idle = refused (as_asked why) idle
text_cause action text verdict input output as_asked (inr want) idle = no_room want idle

-- of a command on a text of C
pub refusal_cause : (action : Action) (text : List ℕ) (why : Fault) (input output : Outside)
    → (IsRefusedWith texts text (verdict_of_fault why) → Refuses texts action text (verdict_of_fault why))
    → (why ≢ fault.NoMemory → IsFirstRefusal text why) → IsIdle input output → IsTextCause texts action text input output (verdict_of_fault why)
refusal_cause action text why input output as_asked first idle =
    text_cause action text (verdict_of_fault why) input output as_asked (refusal_or_want text why first) idle

-- of `exec`
pub uncured_cause : (turns : ℕ) (text : List ℕ) (why : CuredFault) (input output : Outside)
    → (why ≢ uncured.NoMemory → texts.IsUncured text why) → IsIdle input output
    → IsTextCause texts (Exec turns) text input output (verdict_of_cured_fault why)
uncured_cause turns text (uncured.Form line form) input output first idle =
    let other : uncured.Form line form ≢ uncured.NoMemory = λ e. absurd (cc (e)) in
    refused (record { fault = uncured.Form line form; refused = first other; no_want = other; verdict_is = refl }) idle
uncured_cause turns text (uncured.TooLarge line limit) input output first idle =
    let other : uncured.TooLarge line limit ≢ uncured.NoMemory = λ e. absurd (cc (e)) in
    refused (record { fault = uncured.TooLarge line limit; refused = first other; no_want = other; verdict_is = refl }) idle
uncured_cause turns text uncured.NoMemory input output first idle = no_room refl idle

made_cause : (n : ℕ) (verdict : Verdict) (input output : Outside) → IsRefusedWith texts (generated n) verdict ⊎ (verdict ≡ Wants)
    → IsIdle input output
    → IsMadeCause texts n input output verdict
made_cause n verdict input output (inl why) idle = made_refused why idle
made_cause n verdict input output (inr want) idle = made_no_room want idle

-- of `make`
pub made_refusal : (n : ℕ) (why : Fault) (input output : Outside) → (why ≢ fault.NoMemory → IsFirstRefusal (generated n) why) → IsIdle input output
    → IsMadeCause texts n input output (verdict_of_fault why)
made_refusal n why input output first idle = made_cause n (verdict_of_fault why) input output (refusal_or_want (generated n) why first) idle

-- the lines of the kinds of a text that were made for what was inferred of it
pub kinds_written : (text : List ℕ) (t : Typed) (p : Program) (s : Solved) (r : Result (Vec ℕ Global) NoMemory)
    → IfOk r (λ lines. (of : List ℕ) → IsInferred of t p s → HasKinds of lines.items) → IsInferred text t p s
    → IfOk r (λ lines. HasKinds text lines.items)
kinds_written text t p s (Ok lines) is inferred = is text inferred
kinds_written text t p s (Err want) is inferred = tt {0}

pub is_cured : (text : List ℕ) (t : Typed) (p : Program) (s : Solved) (c : Parts) → IsBuilt text t p s c → IsCured text c
is_cured text t p s c built = record { typed = t; code = p; solved = s; built = built }

-- the text of its cured program
pub cured_written : (text : List ℕ) (c : Parts) (r : Result (Vec ℕ Global) NoMemory)
    → IfOk r (λ bytes. bytes.items ≡ cured_spelling c) → IsCured text c → IfOk r (λ bytes. IsCuredAs texts text bytes.items)
cured_written text c (Ok bytes) same cured = record { parts = c; cured = cured; spelled = same }
cured_written text c (Err want) same cured = tt {0}

counted_in : (kinds : Typed → Solved → Kind → ℕ) (t : Typed) (s : Solved) (summary : Summary)
    → summary.safe ≡ kinds t s Safe → summary.seq ≡ kinds t s Seq → summary.rtti ≡ kinds t s Rtti → summary.wild ≡ kinds t s Wild
    → (kind : Kind) → pointers_in summary kind ≡ kinds t s kind
counted_in kinds t s summary safe seq rtti wild Safe = safe
counted_in kinds t s summary safe seq rtti wild Seq = seq
counted_in kinds t s summary safe seq rtti wild Rtti = rtti
counted_in kinds t s summary safe seq rtti wild Wild = wild

-- what is told of a generated program that was built
pub made_of : (n : ℕ) (t : Typed) (p : Program) (s : Solved) (c : Parts) (summary : Summary) → IsBuilt (generated n) t p s c
    → summary.bytes ≡ length (generated n)
    → summary.safe ≡ pointers_of s.kinds Safe t.printed → summary.seq ≡ pointers_of s.kinds Seq t.printed
    → summary.rtti ≡ pointers_of s.kinds Rtti t.printed → summary.wild ≡ pointers_of s.kinds Wild t.printed
    → IsMadeOf texts n (summary_lines summary) c
made_of n t p s c summary built bytes safe seq rtti wild =
    record {
      cured = is_cured (generated n) t p s c built;
      summary = summary;
      bytes = bytes;
      pointers = record {
        typed = t;
        code = p;
        solved = s;
        inferred = built.inferred;
        counted = counted_in (λ t s kind. pointers_of s.kinds kind t.printed) t s summary safe seq rtti wild;
      };
      lines_are = refl;
    }

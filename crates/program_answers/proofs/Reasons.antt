-- What the outside of a verdict without a run tells, and the file that is too long.
use Rattle.std.proofs.Common.{◌≡◌, ℕ, suc, ◌<◌, List, [], ◌++◌, length, replicate, Option, Some, None, IfSome, inl, inr, sym, ◌∙◌, ap, subst, refl, arith}
use Rattle.std.proofs.lemmas.List.{length-replicate, append-nil, append_assoc}
use Rattle.cc_io.specs.Bytes.{Gains, Keeps}
use Rattle.cc_io.specs.Faults.{Rose}
use Rattle.cured_machine.specs.Runs.{Outside}
use Rattle.program_answers.specs.Causes.{IsIdle, IsBehind}

pub kept_gains : (before after : Option (List ℕ)) → Keeps before after → Gains before after []
kept_gains None after kept = tt {0}
kept_gains (Some bytes) after kept = kept ∙ ap Some (sym (append-nil bytes))

pub keeps_itself : (held : Option (List ℕ)) → Keeps held held
keeps_itself None = tt {0}
keeps_itself (Some bytes) = refl

-- what is left alone is idle
pub nothing_done : (input output : Outside) → input.after ≡ input.before → output.after ≡ output.before → IsIdle input output
nothing_done input output i o = record { untaken = rw i (keeps_itself input.before); unwritten = rw o (keeps_itself output.before) }

-- the bytes that an input held, or none where it isn't told
abbrev pub held_bytes : Option (List ℕ) → List ℕ
held_bytes None = []
held_bytes (Some bytes) = bytes

pub held_so : (before : Option (List ℕ)) → IfSome before (λ held. held ≡ held_bytes before)
held_so None = tt {0}
held_so (Some bytes) = refl

-- a text that is longer than the limit, which a file of more bytes has
abbrev pub long_text : (most : ℕ) → Option (List ℕ) → List ℕ
long_text most None = replicate (suc most) 0
long_text most (Some bytes) = bytes

pub is_told : (most : ℕ) (held : Option (List ℕ)) → IfSome held (λ bytes. long_text most held ≡ bytes)
is_told most None = tt {0}
is_told most (Some bytes) = refl

pub is_long : (most : ℕ) (held : Option (List ℕ)) → IfSome held (λ bytes. most < length bytes) → most < length (long_text most held)
is_long most None long = rw (length-replicate {A = ℕ} (suc most) 0) (omega arith)
is_long most (Some bytes) long = long

-- behind no line is all of the output
pub is_behind_nothing : (output : Outside) → IsBehind [] output output
is_behind_nothing output =
    record { written = kept_gains output.before output.before (keeps_itself output.before); later = omega arith; after = refl; faults_after = refl }

gains_both : (before middle after : Option (List ℕ)) (xs ys : List ℕ) → Gains before middle xs → Gains middle after ys → Gains before after (xs ++ ys)
gains_both None middle after xs ys first second = tt {0}
gains_both (Some bytes) middle after xs ys first second =
    let gained : Gains (Some (bytes ++ xs)) after ys = rw first at second in
    gained ∙ ap Some (append_assoc bytes xs ys)

-- what is written behind lines is written, with these, to the whole output
pub gains_behind : (lines bytes : List ℕ) (output rest : Outside) → IsBehind lines output rest → Gains rest.before rest.after bytes
    → Gains output.before output.after (lines ++ bytes)
gains_behind lines bytes output rest behind gained =
    gains_both output.before rest.before output.after lines bytes behind.written
    (subst (λ now. Gains rest.before now bytes) behind.after gained)

-- a count that rose behind lines rose over the whole
pub rose_behind : (lines : List ℕ) (output rest : Outside) → IsBehind lines output rest → Rose rest.faults_before rest.faults_after
    → Rose output.faults_before output.faults_after
rose_behind lines output rest behind (inl more) =
    let same = behind.faults_after in
    let later = behind.later in
    inl (omega arith)
rose_behind lines output rest behind (inr most) = inr (sym behind.faults_after ∙ most)

-- What every operation on memory leaves true is true at the end of a run, if it is at its beginning.
use Rattle.std.proofs.Common.{◌≡◌, ℕ, ◌≤◌, List, [], map, length, slice_get, Option, None, Some, refl, arith}
use Rattle.std.proofs.lemmas.List.{length-replicate}
use Rattle.cc_base.specs.declared.place.Place.{Place}
use Rattle.c_types.specs.Layouts.{size_of}
use Rattle.runs.specs.Outcome.{Outcome, Ended, Done, ◌>>◌}
use Rattle.runs.specs.Input.{Input}
use Rattle.src_mem.specs.Pointers.{Function, Value}
use Rattle.src_mem.specs.State.{Ending, State, Act, Setting, bytes_of, given}
use Rattle.src_mem.specs.Checks.{HasRoom}
use Rattle.src_mem.specs.Runs.{Calls, Callable, Static, SourceOutcome, call_within, nested_limit, run_main, static_from, static_object, first_state, finished, seen, run_all}
use Rattle.src_mem.specs.Laws.{Keeps, IsInvariant, IsWhole, AreWhole, ReadsWhatIsThere, AccessesLie, left_by}
use Rattle.src_mem.specs.RunLaws.{AllLie}
use Rattle.src_mem.proofs.Lists.{get-map}
use Rattle.src_mem.proofs.Invariants.{reads_invariant, whole_invariant}
use Rattle.src_mem.proofs.AccessesLie.{accesses_invariant}
use Rattle.src_mem.proofs.Keeping.{keep_wrong, keep_then, keep_checked, keep_call, keep_calls}

-- a body keeps it where the calls that it makes do
abbrev pub BodyKeeps : (State → Type 0) → Callable → Type 0
BodyKeeps P c =
    (call : Calls) → ((f depth : ℕ) (vs : List Value) → Keeps P (call f depth vs)) → (depth first : ℕ) (none : Value) → Keeps P (c.body depth first call none)

pub record BodiesKeep (P : State → Type 0) (functions : List Callable) : Type 0 where
  pub each : (f : ℕ) (c : Callable) → slice_get functions f ≡ Some c → BodyKeeps P c

module _ {P : State → Type 0} (I : IsInvariant P) (w : Setting) (functions : List Callable) (B : BodiesKeep P functions) where
  keep_nested : (n f depth : ℕ) (vs : List Value) → Keeps P (call_within n w functions f depth vs)
  keep_nested n f depth vs = keep_calls I w functions B.each n f depth vs

  keep_main : (place : Place) (n f : ℕ) → Keeps P (given (slice_get functions f) (run_main w place (call_within n w functions) f))
  keep_main place n f = of (slice_get functions f) refl
    where
      of : (r : Option Callable) → slice_get functions f ≡ r → Keeps P (given r (run_main w place (call_within n w functions) f))
      of None e = keep_wrong P
      of (Some c) e =
          keep_then (keep_checked P w place (HasRoom 1 (Function f)))
          (keep_call I w (call_within n w functions) f 1 [] c.defined c.body
          (λ depth first none. B.each f c e (call_within n w functions) (keep_nested n) depth first none))

-- the end of a run
at_end : (P : State → Type 0) (Q : SourceOutcome → Type 0) → ((e : Ending) (s : State) → P s → Q (seen e s))
    → (o : Outcome Ending State Value) → P (left_by o) → Q (finished o)
at_end P Q q (Ended e s) h = q e s h
at_end P Q q (Done v s) h = q _ s h

pub kept_at_end : (P : State → Type 0) (Q : SourceOutcome → Type 0) → IsInvariant P → ((e : Ending) (s : State) → P s → Q (seen e s))
    → (w : Setting) (before : Act (Unit {0})) (functions : List Callable) (main : ℕ) (place : Place) (statics : List Static) (input : Input)
    (turns : ℕ) → Keeps P before → BodiesKeep P functions → P (first_state (map (static_object w) statics) input turns)
    → Q (run_all w before functions main place statics input turns)
kept_at_end P Q I q w before functions main place statics input turns kb B start =
    at_end P Q q ((before >> entered) (first_state (map (static_object w) statics) input turns))
    ((keep_then {m = before} {n = entered} kb (keep_main I w functions B place nested_limit main)).by
    (first_state (map (static_object w) statics) input turns) start)
  where
    entered : Act Value
    entered = given (slice_get functions main) (run_main w place (call_within nested_limit w functions) main)

-- The facts that every operation leaves true

static_whole : (w : Setting) (o : Static) → IsWhole (static_object w o)
static_whole w o = by o.text
  where
    by : (text : Option (List ℕ)) → IsWhole (static_from w o.type o.home text)
    by None = record { sized = length-replicate (size_of w.table o.type) 0; under = λ k p h. absurd (cc (h)) }
    by (Some text) = record { sized = refl; under = λ k p h. absurd (cc (h)) }

module _ (w : Setting) (before : Act (Unit {0})) (functions : List Callable) (main : ℕ) (place : Place) (statics : List Static) (input : Input)
    (turns : ℕ) (kb : (P : State → Type 0) → IsInvariant P → Keeps P before) (B : (P : State → Type 0) → IsInvariant P → BodiesKeep P functions) where
  -- no more is read than there is, each access lies in an object that is there, and all objects are whole
  pub facts_at_end : ((run_all w before functions main place statics input turns).read ≤ length (bytes_of input))
      × AllLie (run_all w before functions main place statics input turns) × AreWhole (run_all w before functions main place statics input turns).memory.objects
  facts_at_end = (reads, lie, whole)
    where
      Whole : State → Type 0
      Whole s = AreWhole s.memory.objects

      reads : (run_all w before functions main place statics input turns).read ≤ length (bytes_of input)
      reads = kept_at_end (ReadsWhatIsThere input) (λ o. o.read ≤ length (bytes_of input)) (reads_invariant input) (λ e s h. h.most)
          w before functions main place statics input turns (kb (ReadsWhatIsThere input) (reads_invariant input))
          (B (ReadsWhatIsThere input) (reads_invariant input)) (record { same = refl; most = omega arith })

      lie : AllLie (run_all w before functions main place statics input turns)
      lie = kept_at_end AccessesLie AllLie accesses_invariant (λ e s h. h.each)
          w before functions main place statics input turns (kb AccessesLie accesses_invariant) (B AccessesLie accesses_invariant)
          (record { each = λ i a h. absurd (cc (h)) })

      whole : AreWhole (run_all w before functions main place statics input turns).memory.objects
      whole = kept_at_end Whole (λ o. AreWhole o.memory.objects) whole_invariant (λ e s h. h)
          w before functions main place statics input turns (kb Whole whole_invariant) (B Whole whole_invariant)
          (record { each = get-map IsWhole (static_object w) statics (λ i o h. static_whole w o) })

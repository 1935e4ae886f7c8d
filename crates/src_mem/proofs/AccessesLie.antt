-- Each access that a run notes lies in an object that is there: every operation leaves it so.
use Rattle.std.proofs.Common.{◌≡◌, ◌≢◌, ℕ, zero, suc, ◌+◌, pos, Bool, true, false, List, [], ◌∷◌, ◌++◌, map, length, ◌≤◌, nat_le, slice_get, slice_set, Option, None, Some, refl, sym, subst, ◌∙◌, ⊎_elim, arith, if◌then◌else◌}
use Rattle.std.specs.Prelude.{◌==◌}
use Rattle.std.proofs.lemmas.Bool.{cases_eq}
use Rattle.cc_base.specs.declared.kind.Kind.{Kind}
use Rattle.cc_base.specs.declared.kind.Kind.TheVariants.{Safe, Seq, Rtti, Wild}
use Rattle.cc_base.specs.declared.number.NodeId.{NodeId}
use Rattle.cc_base.specs.declared.number.TypeId.{TypeId}
use Rattle.flat_mem.specs.Bytes.{number}
use Rattle.integers.specs.Words.{word}
use Rattle.integers.specs.Arithmetic.{converted}
use Rattle.runs.specs.Outcome.{leaves, done, allowed, either, ◌>>◌}
use Rattle.runs.specs.Input.{Input, Closed, Open}
use Rattle.src_mem.specs.Pointers.{Location, Pointer, Null, At}
use Rattle.src_mem.specs.Memory.{Object, new_variable, new_block, block_size, charge_of, cleared, with_integer, with_pointer, with_copy, holds_pointer_at, pointer_or_null}
use Rattle.src_mem.specs.State.{State, Act, Access, Setting, Wrong, bytes_of, given, touched, turn, turn_of}
use Rattle.src_mem.specs.Primitives.{Spot, spot, access, with_object, clear_at, clear, heap_limit, with_block, block_pointer, new_block_of, ended, past, next_byte, get}
use Rattle.src_mem.specs.Laws.{Keeps, IsInvariant, LiesIn, AccessesLie, left_by}
use Rattle.src_mem.proofs.Lists.{get-set_same, get-set_other, get-append}
use Rattle.src_mem.proofs.Outlines.{get-mapped}
use Rattle.src_mem.proofs.Accesses.{IsSpot, spot-is}
use Rattle.src_mem.proofs.Spots.{IsRight, Falls, falls}

-- Objects that change

lies_set : (objects : List Object) (n : ℕ) (o new : Object) (a : Access) → slice_get objects n ≡ Some o → new.size ≡ o.size → LiesIn objects a → LiesIn (slice_set objects n new) a
lies_set objects n o new a found size lies = ⊎_elim same other (cases_eq n a.object)
  where
    same : n ≡ a.object → LiesIn (slice_set objects n new) a
    same e =
        let f : slice_get objects n ≡ Some lies.object = subst (λ k. slice_get objects k ≡ Some lies.object) (sym e) lies.found in
        let is : lies.object ≡ o = cc (f, found) in record {
          object = new;
          found = subst (λ k. slice_get (slice_set objects n new) k ≡ Some new) e (get-set_same objects n o new found);
          inside = let i = subst (λ (x : Object). a.offset + a.size ≤ x.size) is lies.inside in omega (arith, i, size);
        }

    other : n ≢ a.object → LiesIn (slice_set objects n new) a
    other e = record { object = lies.object; found = get-set_other objects n a.object new e ∙ lies.found; inside = lies.inside }

front : (xs ys : List Object) (k : ℕ) (x : Object) → slice_get xs k ≡ Some x → slice_get (xs ++ ys) k ≡ Some x
front [] ys k x e = absurd (cc (e))
front (z ∷ xs) ys zero x e = e
front (z ∷ xs) ys (suc k) x e = front xs ys k x e

lies_more : (objects more : List Object) (a : Access) → LiesIn objects a → LiesIn (objects ++ more) a
lies_more objects more a lies = record { object = lies.object; found = front objects more a.object lies.object lies.found; inside = lies.inside }

lies_ended : (depth : ℕ) (objects : List Object) (a : Access) → LiesIn objects a → LiesIn (map (ended depth) objects) a
lies_ended depth objects a lies = record {
  object = ended depth lies.object;
  found = get-mapped (ended depth) objects a.object lies.object lies.found;
  inside = by (lies.object.depth == depth);
}
  where
    by : (b : Bool) → a.offset + a.size ≤ (if b then record lies.object { live = false } else lies.object).size
    by true = lies.inside
    by false = lies.inside

-- States that change

noted : (s : State) (number offset size : ℕ) → AccessesLie s → LiesIn s.memory.objects (record { object = number; offset = offset; size = size }) → AccessesLie (touched number offset size s)
noted s number offset size h lies = record { each = get-append (LiesIn s.memory.objects) s.accesses (record { object = number; offset = offset; size = size } ∷ []) h.each one }
  where
    one : (i : ℕ) (a : Access) → slice_get (record { object = number; offset = offset; size = size } ∷ []) i ≡ Some a → LiesIn s.memory.objects a
    one zero a e = let is : record { object = number; offset = offset; size = size } ≡ a = cc (e) in subst (LiesIn s.memory.objects) is lies
    one (suc i) a e = absurd (cc (e))

spot_noted : (s : State) (m : ℕ) (x : Spot) → IsSpot s.memory.objects m x → AccessesLie s → AccessesLie (touched x.number x.at m s)
spot_noted s m x is h = noted s x.number x.at m h (record { object = x.object; found = is.found; inside = is.inside })

changed : (s : State) (n : ℕ) (o new : Object) → slice_get s.memory.objects n ≡ Some o → new.size ≡ o.size → AccessesLie s → AccessesLie (with_object n new s)
changed s n o new found size h = record { each = λ i a e. lies_set s.memory.objects n o new a found size (h.each i a e) }

-- Operations

accessed : {A : Type 0} (kind : Kind) (p : Pointer) (m : ℕ) (next : Spot → Act A)
    → ((x : Spot) (s : State) → IsSpot s.memory.objects m x → AccessesLie (touched x.number x.at m s) → AccessesLie (left_by (next x (touched x.number x.at m s)))) → Keeps AccessesLie (access kind p m next)
accessed kind p m next go = record { by = λ s h. by s h (spot kind s.memory.objects p m) refl }
  where
    by : (s : State) → AccessesLie s → (r : Option Spot) → spot kind s.memory.objects p m ≡ r → AccessesLie (left_by (given r (λ at. leaves (touched at.number at.at m) >> next at) s))
    by s h None e = h
    by s h (Some x) e = let is = spot-is kind s.memory.objects p m x e in go x s is (spot_noted s m x is h)

allowed_lies : {A : Type 0} (b : Bool) (m : Act A) (s : State) → AccessesLie s → AccessesLie (left_by (m s)) → AccessesLie (left_by (allowed b Wrong m s))
allowed_lies true m s h k = k
allowed_lies false m s h k = h

clear_lies : (number : ℕ) → Keeps AccessesLie (clear number)
clear_lies number = record { by = λ s h. by s h (slice_get s.memory.objects number) refl }
  where
    by : (s : State) → AccessesLie s → (r : Option Object) → slice_get s.memory.objects number ≡ r → AccessesLie (left_by (clear_at number r s))
    by s h None e = h
    by s h (Some o) e = allowed_lies o.live (leaves (λ u. with_object number (cleared o) (touched number 0 o.size u))) s h
        (changed (touched number 0 o.size s) number o (cleared o) e refl (noted s number 0 o.size h (record { object = o; found = e; inside = omega arith })))

block_lies : (w : Setting) (node : NodeId) (t : TypeId) (size : ℕ) (s : State) → AccessesLie s → AccessesLie (left_by (new_block_of w node t size s))
block_lies w node t size s h = by (nat_le (s.memory.heap_bytes + charge_of size) heap_limit)
  where
    by : (b : Bool) → AccessesLie (left_by (either b (leaves (with_block (new_block w.table node t size)) >> done (block_pointer (length s.memory.objects) t size)) (done Null) s))
    by true = record { each = λ i a e. lies_more s.memory.objects (new_block w.table node t size ∷ []) a (h.each i a e) }
    by false = h

get_lies : Keeps AccessesLie get
get_lies = record { by = λ s h. of s h (slice_get (bytes_of s.input) s.read) }
  where
    behind : (i : Input) (s : State) → AccessesLie s → AccessesLie (left_by (past i s))
    behind (Closed bytes) s h = h
    behind (Open bytes) s h = h

    of : (s : State) → AccessesLie s → (r : Option ℕ) → AccessesLie (left_by (next_byte s.input r s))
    of s h None = behind s.input s h
    of s h (Some b) = record { each = h.each }

turn_lies : Keeps AccessesLie turn
turn_lies = record { by = λ s h. of s.turns s h }
  where
    of : (n : ℕ) (s : State) → AccessesLie s → AccessesLie (left_by (turn_of n s))
    of zero s h = h
    of (suc n) s h = record { each = h.each }

pub accesses_invariant : IsInvariant AccessesLie
accesses_invariant = record {
  integer_loaded = λ kind t p. accessed kind p t.bytes (λ x. done (converted t (pos (number t.bytes x.object.bytes x.at)))) (λ x s is h. h);
  pointer_loaded = λ kind p. accessed kind p 8 (λ x. allowed (holds_pointer_at x.at x.object) Wrong (done (pointer_or_null (x.object.pointers x.at))))
      (λ x s is h. allowed_lies (holds_pointer_at x.at x.object) (done (pointer_or_null (x.object.pointers x.at))) (touched x.number x.at 8 s) h h);
  integer_stored = λ kind t p z. accessed kind p t.bytes (λ x. leaves (with_object x.number (with_integer t.bytes x.at (word z) x.object)))
      (λ x s is h. changed (touched x.number x.at t.bytes s) x.number x.object (with_integer t.bytes x.at (word z) x.object) is.found refl h);
  pointer_stored = λ kind p q. accessed kind p 8 (λ x. leaves (with_object x.number (with_pointer x.at q x.object)))
      (λ x s is h. changed (touched x.number x.at 8 s) x.number x.object (with_pointer x.at q x.object) is.found refl h);
  cleared = clear_lies;
  copied = λ n from source to target. accessed from source n (λ x. access to target n (λ y. leaves (with_object y.number (with_copy n x.object x.at y.at y.object))))
      (λ x s is h. (accessed to target n (λ y. leaves (with_object y.number (with_copy n x.object x.at y.at y.object)))
      (λ y u js k. changed (touched y.number y.at n u) y.number y.object (with_copy n x.object x.at y.at y.object) js.found refl k)).by (touched x.number x.at n s) h);
  allocated = λ w node t n. record { by = block_lies w node t (block_size w.table (w.kind node) t n) };
  entered = λ w depth f variables. record { by = λ s h. record { each = λ i a e. lies_more s.memory.objects (map (new_variable w.table depth) variables) a (h.each i a e) } };
  left = λ w depth variables. record { by = λ s h. record { each = λ i a e. lies_ended depth s.memory.objects a (h.each i a e) } };
  read = get_lies;
  written = λ z. record { by = λ s h. record { each = h.each } };
  turned = turn_lies;
}

-- Parts

pub lies_in_part : (kind : Kind) (objects : List Object) (l : Location) (m : ℕ) (x : Spot) → kind ≢ Wild → spot kind objects (At l) m ≡ Some x
    → (l.part.low ≤ x.at) × (x.at + m ≤ l.part.high) × (x.object.live ≡ true)
lies_in_part kind objects l m x plain e = of (falls kind objects (At l) m x e)
  where
    within : (kind : Kind) (k : Location) → kind ≢ Wild → At l ≡ At k → IsRight kind objects k m x.object x.at → (l.part.low ≤ x.at) × (x.at + m ≤ l.part.high) × (x.object.live ≡ true)
    within Safe k n same r = let is : k ≡ l = cc (same) in let a = r.low in let b = r.high in subst (λ (j : Location). (j.part.low ≤ x.at) × (x.at + m ≤ j.part.high) × (x.object.live ≡ true)) is (a, grind arith, r.live)
    within Seq k n same r = let is : k ≡ l = cc (same) in let a = r.low in let b = r.high in subst (λ (j : Location). (j.part.low ≤ x.at) × (x.at + m ≤ j.part.high) × (x.object.live ≡ true)) is (a, grind arith, r.live)
    within Rtti k n same r = let is : k ≡ l = cc (same) in let a = r.low in let b = r.high in subst (λ (j : Location). (j.part.low ≤ x.at) × (x.at + m ≤ j.part.high) × (x.object.live ≡ true)) is (a, grind arith, r.live)
    within Wild k n same r = absurd (n refl)

    of : Falls kind objects (At l) m x → (l.part.low ≤ x.at) × (x.at + m ≤ l.part.high) × (x.object.live ≡ true)
    of f = within kind f.location plain f.pointer f.right

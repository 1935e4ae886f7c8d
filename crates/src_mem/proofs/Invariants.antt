-- Facts that every operation leaves true: no more is read than there is, and all objects are whole.
use Rattle.std.proofs.Common.{◌≡◌, ℕ, zero, suc, ◌<◌, ◌≤◌, List, [], ◌∷◌, length, slice_get, Option, None, Some, refl, sym, subst, ◌∙◌, arith}
use Rattle.cc_base.specs.declared.kind.Kind.{Kind}
use Rattle.cc_base.specs.declared.number.NodeId.{NodeId}
use Rattle.cc_base.specs.declared.number.TypeId.{TypeId}
use Rattle.runs.specs.Outcome.{leaves, ◌>>◌}
use Rattle.runs.specs.Input.{Input, Closed, Open}
use Rattle.src_mem.specs.Pointers.{Pointer}
use Rattle.src_mem.specs.Memory.{Object, with_integer, with_pointer, with_copy}
use Rattle.integers.specs.Words.{word}
use Rattle.src_mem.specs.State.{State, Act, Setting, Wants, Wrong, bytes_of, given, touched, turn, turn_of}
use Rattle.src_mem.specs.Primitives.{with_object, Spot, spot, access, clear, clear_at, allocate, get, next_byte, past, with_read}
use Rattle.src_mem.specs.Laws.{Keeps, IsInvariant, AreWhole, ReadsWhatIsThere, left_by}
use Rattle.src_mem.proofs.Keeping.{keep_done, keep_ends, keep_wrong, keep_then, keep_either, keep_allowed, keep_given, keep_chosen}
use Rattle.src_mem.proofs.Accesses.{store_integer-whole, store_pointer-whole, clear-whole, copy-whole, allocate-whole, enter-whole, leave-whole}

keep_leaves : (P : State → Type 0) (f : State → State) → ((s : State) → P s → P (f s)) → Keeps P (leaves f)
keep_leaves P f h = record { by = h }

module _ {P : State → Type 0} (note : (number offset size : ℕ) (s : State) → P s → P (touched number offset size s)) where
  accessed : {A : Type 0} (kind : Kind) (p : Pointer) (m : ℕ) (next : Spot → Act A) → ((x : Spot) → Keeps P (next x)) → Keeps P (access kind p m next)
  accessed kind p m next kn = keep_chosen (λ s. given (spot kind s.memory.objects p m) (λ at. leaves (touched at.number at.at m) >> next at))
      (λ s. keep_given (spot kind s.memory.objects p m) (λ x. keep_then {m = leaves (touched x.number x.at m)} (keep_leaves P (touched x.number x.at m) (note x.number x.at m)) (kn x)))

-- Reading

module _ (input : Input) where
  abbrev R : State → Type 0
  R = ReadsWhatIsThere input

  same : (s t : State) → t.input ≡ s.input → t.read ≡ s.read → R s → R t
  same s t e f h = record { same = e ∙ h.same; most = subst (λ n. n ≤ length (bytes_of input)) (sym f) h.most }

  noted : (number offset size : ℕ) (s : State) → R s → R (touched number offset size s)
  noted number offset size s h = record { same = h.same; most = h.most }

  changed : (number : ℕ) (o : Object) → Keeps R (leaves (with_object number o))
  changed number o = keep_leaves R (with_object number o) (λ s h. record { same = h.same; most = h.most })

  cleared : (number : ℕ) → Keeps R (clear number)
  cleared number = keep_chosen (λ s. clear_at number (slice_get s.memory.objects number)) (λ s. by (slice_get s.memory.objects number))
    where
      by : (r : Option Object) → Keeps R (clear_at number r)
      by None = keep_wrong R
      by (Some o) = keep_allowed o.live Wrong (keep_leaves R _ (λ s h. record { same = h.same; most = h.most }))

  allocated : (w : Setting) (node : NodeId) (t : TypeId) (n : ℕ) → Keeps R (allocate w node t n)
  allocated w node t n = keep_chosen _ (λ s. keep_either _ (keep_then (keep_leaves R _ (λ u h. record { same = h.same; most = h.most })) (keep_done R _)) (keep_done R _))

  below_length : (bytes : List ℕ) (i b : ℕ) → slice_get bytes i ≡ Some b → i < length bytes
  below_length [] i b h = absurd (cc (h))
  below_length (x ∷ bytes) zero b h = omega arith
  below_length (x ∷ bytes) (suc i) b h = let k = below_length bytes i b h in omega arith

  got : Keeps R get
  got = record { by = λ s h. of s h (slice_get (bytes_of s.input) s.read) refl }
    where
      ended : (i : Input) → Keeps R (past i)
      ended (Closed bytes) = keep_done R _
      ended (Open bytes) = keep_ends R Wants

      more : (s : State) (b : ℕ) → R s → slice_get (bytes_of s.input) s.read ≡ Some b → R (with_read s)
      more s b h e = record { same = h.same; most = (let k = below_length (bytes_of s.input) s.read b e in subst (λ i. suc s.read ≤ length (bytes_of i)) h.same k) }

      of : (s : State) → R s → (r : Option ℕ) → slice_get (bytes_of s.input) s.read ≡ r → R (left_by (next_byte s.input r s))
      of s h None e = (ended s.input).by s h
      of s h (Some b) e = more s b h e

  turned : Keeps R turn
  turned = record { by = λ s h. of s.turns s h }
    where
      of : (n : ℕ) (s : State) → R s → R (left_by (turn_of n s))
      of zero s h = h
      of (suc n) s h = record { same = h.same; most = h.most }

  pub reads_invariant : IsInvariant (ReadsWhatIsThere input)
  reads_invariant = record {
    integer_loaded = λ kind t p. accessed noted kind p t.bytes _ (λ x. keep_done R _);
    pointer_loaded = λ kind p. accessed noted kind p 8 _ (λ x. keep_allowed _ _ (keep_done R _));
    integer_stored = λ kind t p z. accessed noted kind p t.bytes (λ x. leaves (with_object x.number (with_integer t.bytes x.at (word z) x.object)))
        (λ x. changed x.number (with_integer t.bytes x.at (word z) x.object));
    pointer_stored = λ kind p q. accessed noted kind p 8 (λ x. leaves (with_object x.number (with_pointer x.at q x.object))) (λ x. changed x.number (with_pointer x.at q x.object));
    cleared = cleared;
    copied = λ n from source to target.
        accessed noted from source n (λ x. access to target n (λ y. leaves (with_object y.number (with_copy n x.object x.at y.at y.object))))
        (λ x. accessed noted to target n (λ y. leaves (with_object y.number (with_copy n x.object x.at y.at y.object))) (λ y. changed y.number (with_copy n x.object x.at y.at y.object)));
    allocated = allocated;
    entered = λ w depth f variables. keep_leaves R _ (λ s h. record { same = h.same; most = h.most });
    left = λ w depth variables. keep_leaves R _ (λ s h. record { same = h.same; most = h.most });
    read = got;
    written = λ z. keep_then (keep_leaves R _ (λ s h. record { same = h.same; most = h.most })) (keep_done R _);
    turned = turned;
  }

-- Objects

abbrev HasWhole : State → Type 0
HasWhole s = AreWhole s.memory.objects

whole_got : Keeps HasWhole get
whole_got = record { by = λ s h. of s h (slice_get (bytes_of s.input) s.read) }
  where
    ended : (i : Input) (s : State) → AreWhole s.memory.objects → AreWhole (left_by (past i s)).memory.objects
    ended (Closed bytes) s h = h
    ended (Open bytes) s h = h

    of : (s : State) → AreWhole s.memory.objects → (r : Option ℕ) → AreWhole (left_by (next_byte s.input r s)).memory.objects
    of s h None = ended s.input s h
    of s h (Some b) = h

whole_turned : Keeps HasWhole turn
whole_turned = record { by = λ s h. of s.turns s h }
  where
    of : (n : ℕ) (s : State) → AreWhole s.memory.objects → AreWhole (left_by (turn_of n s)).memory.objects
    of zero s h = h
    of (suc n) s h = h

pub whole_invariant : IsInvariant (λ s. AreWhole s.memory.objects)
whole_invariant = record {
  integer_loaded = λ kind t p. accessed (λ number offset size s h. h) kind p t.bytes _ (λ x. keep_done HasWhole _);
  pointer_loaded = λ kind p. accessed (λ number offset size s h. h) kind p 8 _ (λ x. keep_allowed _ _ (keep_done HasWhole _));
  integer_stored = λ kind t p z. record { by = store_integer-whole kind t p z };
  pointer_stored = λ kind p q. record { by = store_pointer-whole kind p q };
  cleared = λ number. record { by = clear-whole number };
  copied = λ n from source to target. record { by = copy-whole n from source to target };
  allocated = λ w node t n. record { by = allocate-whole w node t n };
  entered = λ w depth f variables. record { by = enter-whole w depth f variables };
  left = λ w depth variables. record { by = leave-whole w depth variables };
  read = whole_got;
  written = λ z. record { by = λ s h. h };
  turned = whole_turned;
}

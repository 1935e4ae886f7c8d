-- What loads, stores and copies note: accesses within the objects and the parts of their pointers.
use Rattle.std.proofs.Common.{◌≡◌, ◌≢◌, ℕ, ◌+◌, ◌≤◌, pos, Bool, true, false, List, [], ◌∷◌, ◌++◌, Option, None, Some, refl, ap, sym, subst, ◌∙◌}
use Rattle.cc_base.specs.declared.kind.Kind.{Kind}
use Rattle.cc_base.specs.declared.kind.Kind.TheVariants.{Wild}
use Rattle.flat_mem.specs.Bytes.{number}
use Rattle.integers.specs.Words.{word}
use Rattle.integers.specs.Arithmetic.{converted}
use Rattle.runs.specs.Outcome.{leaves, done, allowed, ◌>>◌}
use Rattle.src_mem.specs.Pointers.{Location, Pointer}
use Rattle.src_mem.specs.Memory.{Object, with_integer, with_pointer, with_copy, holds_pointer_at, pointer_or_null}
use Rattle.src_mem.specs.State.{State, Act, Access, Wrong, given, touched}
use Rattle.src_mem.specs.Primitives.{Spot, spot, access, with_object, load_integer, load_pointer, store_integer, store_pointer, copy}
use Rattle.src_mem.specs.Laws.{Where, LiesIn, NotesAccess, NotesTwo}
use Rattle.src_mem.proofs.Accesses.{IsSpot, spot-is}
use Rattle.src_mem.proofs.AccessesLie.{lies_in_part}
use Rattle.src_mem.proofs.Spots.{Falls, falls}

-- an access that falls somewhere, once it is noted
notes : (kind : Kind) (p : Pointer) (m : ℕ) (s r : State) (x : Spot) → spot kind s.memory.objects p m ≡ Some x
    → r.accesses ≡ (touched x.number x.at m s).accesses → NotesAccess kind p m s r
notes kind p m s r x e same = of (falls kind s.memory.objects p m x e) (spot-is kind s.memory.objects p m x e)
  where
    of : Falls kind s.memory.objects p m x → IsSpot s.memory.objects m x → NotesAccess kind p m s r
    of f is = record {
      location = f.location;
      is = f.pointer;
      offset = x.at;
      noted = same ∙ ap (λ n. s.accesses ++ record { object = n; offset = x.at; size = m } ∷ []) f.number;
      lies = subst (λ n. LiesIn s.memory.objects (record { object = n; offset = x.at; size = m })) f.number
          (record { object = x.object; found = is.found; inside = is.inside });
      part = λ plain.
          let h = lies_in_part kind s.memory.objects f.location m x plain
          (subst (λ q. spot kind s.memory.objects q m ≡ Some x) f.pointer e) in
          (h.0, h.1);
    }

-- what goes on behind an access
accessing : {A : Type 0} (kind : Kind) (p : Pointer) (m : ℕ) (next : Spot → Act A) (s : State) (P : State → Type 0)
    → ((x : Spot) → spot kind s.memory.objects p m ≡ Some x → Where (next x (touched x.number x.at m s)) P) → Where (access kind p m next s) P
accessing kind p m next s P go = by (spot kind s.memory.objects p m) refl
  where
    by : (r : Option Spot) → spot kind s.memory.objects p m ≡ r → Where (given r (λ at. leaves (touched at.number at.at m) >> next at) s) P
    by None e = tt
    by (Some x) e = go x e

pub load_integer-notes : (kind : Kind) (t : _) (p : Pointer) (s : State) → Where (load_integer kind t p s) (NotesAccess kind p t.bytes s)
load_integer-notes kind t p s =
    accessing kind p t.bytes (λ x. done (converted t (pos (number t.bytes x.object.bytes x.at)))) s (NotesAccess kind p t.bytes s)
    (λ x e. notes kind p t.bytes s (touched x.number x.at t.bytes s) x e refl)

pub load_pointer-notes : (kind : Kind) (p : Pointer) (s : State) → Where (load_pointer kind p s) (NotesAccess kind p 8 s)
load_pointer-notes kind p s =
    accessing kind p 8 (λ x. allowed (holds_pointer_at x.at x.object) Wrong (done (pointer_or_null (x.object.pointers x.at)))) s (NotesAccess kind p 8 s)
    (λ x e. by x e (holds_pointer_at x.at x.object))
  where
    by : (x : Spot) → spot kind s.memory.objects p 8 ≡ Some x → (b : Bool)
        → Where (allowed b Wrong (done (pointer_or_null (x.object.pointers x.at))) (touched x.number x.at 8 s)) (NotesAccess kind p 8 s)
    by x e true = notes kind p 8 s (touched x.number x.at 8 s) x e refl
    by x e false = tt

pub store_integer-notes : (kind : Kind) (t : _) (p : Pointer) (z : _) (s : State) → Where (store_integer kind t p z s) (NotesAccess kind p t.bytes s)
store_integer-notes kind t p z s =
    accessing kind p t.bytes (λ x. leaves (with_object x.number (with_integer t.bytes x.at (word z) x.object))) s (NotesAccess kind p t.bytes s)
    (λ x e. notes kind p t.bytes s (with_object x.number (with_integer t.bytes x.at (word z) x.object) (touched x.number x.at t.bytes s)) x e refl)

pub store_pointer-notes : (kind : Kind) (p q : Pointer) (s : State) → Where (store_pointer kind p q s) (NotesAccess kind p 8 s)
store_pointer-notes kind p q s =
    accessing kind p 8 (λ x. leaves (with_object x.number (with_pointer x.at q x.object))) s (NotesAccess kind p 8 s)
    (λ x e. notes kind p 8 s (with_object x.number (with_pointer x.at q x.object) (touched x.number x.at 8 s)) x e refl)

pub copy-notes : (n : ℕ) (from : Kind) (source : Pointer) (to : Kind) (target : Pointer) (s : State)
    → Where (copy n from source to target s) (NotesTwo from source to target n s)
copy-notes n from source to target s =
    accessing from source n (λ x. access to target n (λ y. leaves (with_object y.number (with_copy n x.object x.at y.at y.object)))) s
    (NotesTwo from source to target n s) (λ x e. behind x e)
  where
    behind : (x : Spot) → spot from s.memory.objects source n ≡ Some x
        → Where (access to target n (λ y. leaves (with_object y.number (with_copy n x.object x.at y.at y.object))) (touched x.number x.at n s))
        (NotesTwo from source to target n s)
    behind x e =
        accessing to target n (λ y. leaves (with_object y.number (with_copy n x.object x.at y.at y.object))) (touched x.number x.at n s)
        (NotesTwo from source to target n s)
        (λ y f. record {
          middle = touched x.number x.at n s;
          same = refl;
          read = notes from source n s (touched x.number x.at n s) x e refl;
          written = notes to target n (touched x.number x.at n s)
              (with_object y.number (with_copy n x.object x.at y.at y.object) (touched y.number y.at n (touched x.number x.at n s))) y f refl;
        })

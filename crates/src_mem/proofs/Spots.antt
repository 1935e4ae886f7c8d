-- When an access is right, and what a load finds after a store.
use Rattle.std.proofs.Common.{◌≡◌, ℕ, ◌+◌, ◌*◌, ◌%◌, ◌^◌, ◌≤◌, inl, inr, min, ℤ, pos, negsuc, Bool, true, false, ◌&&◌, ◌||◌, if◌then◌else◌, List, length, nat_le, nat_eq, slice_get, slice_set, Option, None, Some, refl, ap, sym, subst, ◌∙◌, arith}
use Rattle.std.specs.Prelude.{is_some, ◌==◌}
use Rattle.std.proofs.lemmas.Bool.{le-leb}
use Rattle.std.proofs.lemmas.Bool.Decides.{nat_tests}
use Rattle.cc_base.specs.declared.kind.Kind.{Kind}
use Rattle.cc_base.specs.declared.kind.Kind.TheVariants.{Safe, Seq, Rtti, Wild}
use Rattle.flat_mem.specs.Bytes.{number, IsAccessSize}
use Rattle.flat_mem.proofs.ByteLaws.{number-stored_low, number-zeroed}
use Rattle.integers.specs.Words.{residue, word, as_signed, as_unsigned, signed_of}
use Rattle.integers.specs.Arithmetic.{IntegerType, converted, bits_of}
use Rattle.runs.specs.Outcome.{Outcome, Done, done, leaves, allowed}
use Rattle.src_mem.specs.Pointers.{Part, Location, Pointer, Null, Number, At, Function}
use Rattle.src_mem.specs.Memory.{Object, with_integer, with_pointer, entry_of, untouched, holds_pointer_at, pointer_or_null}
use Rattle.src_mem.specs.State.{Ending, Wrong, State, given, touched}
use Rattle.src_mem.specs.Primitives.{Spot, reach, spot_within, spot_in, spot, with_object, load_integer, load_pointer, store_integer, store_pointer}
use Rattle.src_mem.specs.Laws.{GivesNext, AreWhole}
use Rattle.src_mem.proofs.Lists.{get-set_same}
use Rattle.src_mem.proofs.Accesses.{spot-is}

-- m bytes at a location of an object that lives, within what may be touched
pub record IsRight (kind : Kind) (objects : List Object) (l : Location) (m : ℕ) (o : Object) (at : ℕ) : Type 0 where
  pub found : slice_get objects l.object ≡ Some o
  pub live : o.live ≡ true
  pub offset : l.offset ≡ pos at
  pub low : (reach kind l o).low ≤ at
  pub high : at + m ≤ (reach kind l o).high

-- a right access falls there
pub spot-right : (kind : Kind) (objects : List Object) (l : Location) (m : ℕ) (o : Object) (at : ℕ) → IsRight kind objects l m o at
    → spot kind objects (At l) m ≡ Some (record { number = l.object; object = o; at = at })
spot-right kind objects l m o at is =
    ap (λ r. spot_in kind l r m) is.found
    ∙ ap (λ b. if b then spot_within l.object o (reach kind l o) l.offset m else None) is.live
    ∙ ap (λ z. spot_within l.object o (reach kind l o) z m) is.offset
    ∙ ap (λ b. if b && nat_le (at + m) (reach kind l o).high then Some (record { number = l.object; object = o; at = at }) else None) (le-leb (reach kind l o).low at is.low)
    ∙ ap (λ b. if b then Some (record { number = l.object; object = o; at = at }) else None) (le-leb (at + m) (reach kind l o).high is.high)

-- and each access that falls somewhere is right
pub record Falls (kind : Kind) (objects : List Object) (p : Pointer) (m : ℕ) (x : Spot) : Type 0 where
  pub location : Location
  pub pointer : p ≡ At location
  pub number : x.number ≡ location.object
  pub right : IsRight kind objects location m x.object x.at

falls_at : (kind : Kind) (objects : List Object) (l : Location) (m : ℕ) (x : Spot) → spot kind objects (At l) m ≡ Some x → Falls kind objects (At l) m x
falls_at kind objects l m x = of (slice_get objects l.object) refl
  where
    to : (o : Object) (z : ℤ) → slice_get objects l.object ≡ Some o → o.live ≡ true → l.offset ≡ z → spot_within l.object o (reach kind l o) z m ≡ Some x → Falls kind objects (At l) m x
    to o (negsuc n) found live e h = absurd (cc (h))
    to o (pos at) found live e h = by (nat_le (reach kind l o).low at) (nat_le (at + m) (reach kind l o).high) refl refl h
      where
        by : (b c : Bool) → nat_le (reach kind l o).low at ≡ b → nat_le (at + m) (reach kind l o).high ≡ c
            → (if b && c then Some (record { number = l.object; object = o; at = at }) else None) ≡ Some x → Falls kind objects (At l) m x
        by true true d f h =
            let y : Spot = record { number = l.object; object = o; at = at } in
            let g : y ≡ x = cc (h) in
            subst (Falls kind objects (At l) m) g (record {
              location = l;
              pointer = refl;
              number = refl;
              right = record { found = found; live = live; offset = e; low = grind (arith, nat_tests); high = grind (arith, nat_tests) };
            })
        by true false d f h = absurd (cc (h))
        by false true d f h = absurd (cc (h))
        by false false d f h = absurd (cc (h))

    living : (o : Object) (b : Bool) → slice_get objects l.object ≡ Some o → o.live ≡ b → (if b then spot_within l.object o (reach kind l o) l.offset m else None) ≡ Some x → Falls kind objects (At l) m x
    living o true found live h = to o l.offset found live refl h
    living o false found live h = absurd (cc (h))

    of : (r : Option Object) → slice_get objects l.object ≡ r → spot_in kind l r m ≡ Some x → Falls kind objects (At l) m x
    of None e h = absurd (cc (h))
    of (Some o) e h = living o o.live e refl h

pub falls : (kind : Kind) (objects : List Object) (p : Pointer) (m : ℕ) (x : Spot) → spot kind objects p m ≡ Some x → Falls kind objects p m x
falls kind objects Null m x h = absurd (cc (h))
falls kind objects (Number n) m x h = absurd (cc (h))
falls kind objects (At l) m x h = falls_at kind objects l m x h
falls kind objects (Function f) m x h = absurd (cc (h))

-- what may be touched of an object depends on its size alone
reach-size : (kind : Kind) (l : Location) (o new : Object) → new.size ≡ o.size → reach kind l new ≡ reach kind l o
reach-size Wild l o new e = ap (λ n. record { low = 0; high = n }) e
reach-size Safe l o new e = ap (λ n. record { low = l.part.low; high = min l.part.high n }) e
reach-size Seq l o new e = ap (λ n. record { low = l.part.low; high = min l.part.high n }) e
reach-size Rtti l o new e = ap (λ n. record { low = l.part.low; high = min l.part.high n }) e

-- where the object is replaced by one that lives as long and is as large, the access falls there again
pub spot-again : (kind : Kind) (objects : List Object) (p : Pointer) (m : ℕ) (x : Spot) (new : Object)
    → spot kind objects p m ≡ Some x → new.live ≡ x.object.live → new.size ≡ x.object.size
    → spot kind (slice_set objects x.number new) p m ≡ Some (record { number = x.number; object = new; at = x.at })
spot-again kind objects p m x new h live size = at_location (falls kind objects p m x h)
  where
    at_location : Falls kind objects p m x → spot kind (slice_set objects x.number new) p m ≡ Some (record { number = x.number; object = new; at = x.at })
    at_location f =
        let e = reach-size kind f.location x.object new size in
        let r : IsRight kind (slice_set objects x.number new) f.location m new x.at = record {
          found = subst (λ i. slice_get (slice_set objects i new) f.location.object ≡ Some new) (sym f.number) (get-set_same objects f.location.object x.object new f.right.found);
          live = live ∙ f.right.live;
          offset = f.right.offset;
          low = subst (λ (q : Part). q.low ≤ x.at) (sym e) f.right.low;
          high = subst (λ (q : Part). x.at + m ≤ q.high) (sym e) f.right.high;
        } in
        ap (λ q. spot kind (slice_set objects x.number new) q m) f.pointer
        ∙ spot-right kind (slice_set objects x.number new) f.location m new x.at r
        ∙ ap (λ i. Some (record { number = i; object = new; at = x.at })) (sym f.number)

-- Loads after stores

-- a converted integer depends on its residue alone
converted_alike : (t : IntegerType) (y z : ℤ) → residue y (2 ^ bits_of t) ≡ residue z (2 ^ bits_of t) → converted t y ≡ converted t z
converted_alike t y z e = by t.signed
  where
    by : (b : Bool) → (if b then as_signed (bits_of t) y else as_unsigned (bits_of t) y) ≡ (if b then as_signed (bits_of t) z else as_unsigned (bits_of t) z)
    by true = ap (λ r. signed_of (bits_of t) r) e
    by false = ap (λ r. pos r) e

-- the low bytes of a word have the residue of the integer that the word holds
low_bytes : (n : ℕ) → IsAccessSize n → (z : ℤ) → residue (pos (word z % 256 ^ n)) (2 ^ (8 * n)) ≡ residue z (2 ^ (8 * n))
low_bytes n size z = by n size z
  where
    by : (n : ℕ) → IsAccessSize n → (z : ℤ) → residue (pos (word z % 256 ^ n)) (2 ^ (8 * n)) ≡ residue z (2 ^ (8 * n))
    by n (inl e) z = subst (λ k. residue (pos (word z % 256 ^ k)) (2 ^ (8 * k)) ≡ residue z (2 ^ (8 * k))) (sym e) (one z)
      where
        one : (z : ℤ) → residue (pos (word z % 256 ^ 1)) (2 ^ 8) ≡ residue z (2 ^ 8)
        one (pos k) = omega arith
        one (negsuc k) = omega arith
    by n (inr (inl e)) z = subst (λ k. residue (pos (word z % 256 ^ k)) (2 ^ (8 * k)) ≡ residue z (2 ^ (8 * k))) (sym e) (two z)
      where
        two : (z : ℤ) → residue (pos (word z % 256 ^ 2)) (2 ^ 16) ≡ residue z (2 ^ 16)
        two (pos k) = omega arith
        two (negsuc k) = omega arith
    by n (inr (inr (inl e))) z = subst (λ k. residue (pos (word z % 256 ^ k)) (2 ^ (8 * k)) ≡ residue z (2 ^ (8 * k))) (sym e) (four z)
      where
        four : (z : ℤ) → residue (pos (word z % 256 ^ 4)) (2 ^ 32) ≡ residue z (2 ^ 32)
        four (pos k) = omega arith
        four (negsuc k) = omega arith
    by n (inr (inr (inr e))) z = subst (λ k. residue (pos (word z % 256 ^ k)) (2 ^ (8 * k)) ≡ residue z (2 ^ (8 * k))) (sym e) (eight z)
      where
        eight : (z : ℤ) → residue (pos (word z % 256 ^ 8)) (2 ^ 64) ≡ residue z (2 ^ 64)
        eight (pos k) = omega arith
        eight (negsuc k) = omega arith

integer_back : (t : IntegerType) (at : ℕ) (z : ℤ) (o : Object) → IsAccessSize t.bytes → at + t.bytes ≤ length o.bytes
    → converted t (pos (number t.bytes (with_integer t.bytes at (word z) o).bytes at)) ≡ converted t z
integer_back t at z o size room =
    converted_alike t (pos (number t.bytes (with_integer t.bytes at (word z) o).bytes at)) z
    (ap (λ r. residue (pos r) (2 ^ bits_of t)) (number-stored_low t.bytes o.bytes at (word z) room) ∙ low_bytes t.bytes size z)

abbrev gives : {A : Type 0} → A → State → Outcome Ending State A
gives a s = Done a s

-- an object's room is that of its bytes
room_of_bytes : (kind : Kind) (s : State) (p : Pointer) (m : ℕ) (x : Spot) → AreWhole s.memory.objects → spot kind s.memory.objects p m ≡ Some x → x.at + m ≤ length x.object.bytes
room_of_bytes kind s p m x whole e = let is = spot-is kind s.memory.objects p m x e in let sized = (whole.each x.number x.object is.found).sized in omega (arith, is.inside, sized)

pub integer_loads : (kind : Kind) (t : IntegerType) (p : Pointer) (z : ℤ) (s : State) → AreWhole s.memory.objects → IsAccessSize t.bytes → GivesNext (store_integer kind t p z s) (load_integer kind t p) (converted t z)
integer_loads kind t p z s whole size = by (spot kind s.memory.objects p t.bytes) refl
  where
    by : (r : Option Spot) → spot kind s.memory.objects p t.bytes ≡ r
        → GivesNext (given r (λ at. λ u. leaves (with_object at.number (with_integer t.bytes at.at (word z) at.object)) (touched at.number at.at t.bytes u)) s) (load_integer kind t p) (converted t z)
    by None e = tt
    by (Some x) e =
        let new : Object = with_integer t.bytes x.at (word z) x.object in
        let after : State = with_object x.number new (touched x.number x.at t.bytes s) in (
          touched x.number x.at t.bytes after,
          ap (λ r. given r (λ at. λ u. gives (converted t (pos (number t.bytes at.object.bytes at.at))) (touched at.number at.at t.bytes u)) after)
              (spot-again kind s.memory.objects p t.bytes x new e refl refl)
              ∙ ap (λ v. gives v (touched x.number x.at t.bytes after)) (integer_back t x.at z x.object size (room_of_bytes kind s p t.bytes x whole e)),
        )

-- what a pointer leaves at its place is read as the pointer
entry-here : (at : ℕ) (q : Pointer) (o : Object) → (with_pointer at q o).pointers at ≡ entry_of q
entry-here at q o = let e : nat_eq at at ≡ true = grind (arith, nat_tests) in ap (λ b. if b then entry_of q else untouched 8 at o.pointers at) e

null_back : (q : Pointer) → pointer_or_null (entry_of q) ≡ q
null_back Null = refl
null_back (Number n) = refl
null_back (At l) = refl
null_back (Function f) = refl

holds_back : (at : ℕ) (q : Pointer) (o : Object) → holds_pointer_at at (with_pointer at q o) ≡ true
holds_back at q o = by (is_some ((with_pointer at q o).pointers at)) (number-zeroed 8 8 o.bytes at at (omega arith) (omega arith))
  where
    by : (b : Bool) → number 8 (with_pointer at q o).bytes at ≡ 0 → (b || (number 8 (with_pointer at q o).bytes at == 0)) ≡ true
    by true e = refl
    by false e = ap (λ n. n == 0) e

pub pointer_loads : (kind : Kind) (p q : Pointer) (s : State) → AreWhole s.memory.objects → GivesNext (store_pointer kind p q s) (load_pointer kind p) q
pointer_loads kind p q s whole = by (spot kind s.memory.objects p 8) refl
  where
    by : (r : Option Spot) → spot kind s.memory.objects p 8 ≡ r
        → GivesNext (given r (λ at. λ u. leaves (with_object at.number (with_pointer at.at q at.object)) (touched at.number at.at 8 u)) s) (load_pointer kind p) q
    by None e = tt
    by (Some x) e =
        let new : Object = with_pointer x.at q x.object in
        let after : State = with_object x.number new (touched x.number x.at 8 s) in
        let again : State = touched x.number x.at 8 after in (
          again,
          ap (λ r. given r (λ at. λ u. allowed (holds_pointer_at at.at at.object) Wrong (done (pointer_or_null (at.object.pointers at.at))) (touched at.number at.at 8 u)) after)
              (spot-again kind s.memory.objects p 8 x new e refl refl)
              ∙ ap (λ b. allowed b Wrong (done (pointer_or_null (new.pointers x.at))) again) (holds_back x.at q x.object)
              ∙ ap (λ r. gives (pointer_or_null r) again) (entry-here x.at q x.object)
              ∙ ap (λ r. gives r again) (null_back q),
        )

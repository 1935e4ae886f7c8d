-- Where accesses fall, and what operations leave of the objects.
use Rattle.std.proofs.Common.{◌≡◌, ℕ, zero, suc, ◌+◌, ◌≤◌, ℤ, pos, negsuc, Bool, true, false, ◌&&◌, if◌then◌else◌, List, [], ◌∷◌, ◌++◌, map, length, nat_le, slice_get, slice_set, Option, None, Some, refl, sym, subst, ◌∙◌, ⊎_elim, arith}
use Rattle.std.proofs.lemmas.Bool.{cases_eq}
use Rattle.std.proofs.lemmas.List.{length-replicate}
use Rattle.std.proofs.lemmas.Bool.Decides.{nat_tests}
use Rattle.std.specs.Prelude.{◌==◌}
use Rattle.cc_base.specs.declared.number.TypeId.{TypeId}
use Rattle.cc_base.specs.declared.number.NodeId.{NodeId}
use Rattle.cc_base.specs.declared.kind.Kind.{Kind}
use Rattle.cc_base.specs.declared.kind.Kind.TheVariants.{Safe, Seq, Rtti, Wild}
use Rattle.integers.specs.Words.{word}
use Rattle.integers.specs.Arithmetic.{IntegerType}
use Rattle.c_types.specs.Layouts.{size_of}
use Rattle.c_types.specs.Cells.{Cell}
use Rattle.c_types.specs.Equality.{cells_of}
use Rattle.runs.specs.Outcome.{leaves, done, allowed, either, ◌>>◌}
use Rattle.src_mem.specs.Pointers.{Part, Location, Pointer, Null, Number, At, Function}
use Rattle.src_mem.specs.Memory.{Object, Planned, with_integer, with_pointer, with_copy, cleared, zero_object, new_variable, new_block, block_size, block_cells, charge_of}
use Rattle.src_mem.specs.State.{Wrong, Setting, given, touched}
use Rattle.src_mem.specs.Primitives.{Spot, reach, spot_within, spot_in, spot, with_object, access, store_integer, store_pointer, clear_at, clear, copy, with_block, block_pointer, heap_limit, allocate, enter, ended, leave}
use Rattle.src_mem.specs.Laws.{left_by, IsWhole, AreWhole, KeepsWhole}
use Rattle.src_mem.proofs.Lists.{get-set_same, get-set_other, get-append, get-map}
use Rattle.src_mem.proofs.Whole.{integer_whole, pointer_whole, cleared_whole, copy_whole}

-- what is known of a spot: its object is there and lives, and the bytes lie in it
pub record IsSpot (objects : List Object) (m : ℕ) (x : Spot) : Type 0 where
  pub found : slice_get objects x.number ≡ Some x.object
  pub live : x.object.live ≡ true
  pub inside : x.at + m ≤ x.object.size

reach-inside : (kind : Kind) (l : Location) (o : Object) → (reach kind l o).high ≤ o.size
reach-inside Wild l o = omega arith
reach-inside Safe l o = grind arith
reach-inside Seq l o = grind arith
reach-inside Rtti l o = grind arith

spot_within-is : (objects : List Object) (number : ℕ) (o : Object) (part : Part) (z : ℤ) (m : ℕ) (x : Spot)
    → slice_get objects number ≡ Some o → o.live ≡ true → part.high ≤ o.size → spot_within number o part z m ≡ Some x → IsSpot objects m x
spot_within-is objects number o part (pos at) m x found live room is = by (nat_le part.low at) (nat_le (at + m) part.high) refl refl is
  where
    by : (b c : Bool) → nat_le part.low at ≡ b → nat_le (at + m) part.high ≡ c
        → (if b && c then Some (record { number = number; object = o; at = at }) else None) ≡ Some x → IsSpot objects m x
    by true true d e h =
        let f : at + m ≤ part.high = grind (arith, nat_tests) in
        let y : Spot = record { number = number; object = o; at = at } in
        let g : y ≡ x = cc (h) in
        subst (IsSpot objects m) g (record { found = found; live = live; inside = omega (arith, f, room) })
    by true false d e h = absurd (cc (h))
    by false true d e h = absurd (cc (h))
    by false false d e h = absurd (cc (h))
spot_within-is objects number o part (negsuc n) m x found live room h = absurd (cc (h))

spot_in-is : (kind : Kind) (objects : List Object) (l : Location) (r : Option Object) (m : ℕ) (x : Spot)
    → slice_get objects l.object ≡ r → spot_in kind l r m ≡ Some x → IsSpot objects m x
spot_in-is kind objects l None m x found h = absurd (cc (h))
spot_in-is kind objects l (Some o) m x found is = by o.live refl is
  where
    by : (b : Bool) → o.live ≡ b → (if b then spot_within l.object o (reach kind l o) l.offset m else None) ≡ Some x → IsSpot objects m x
    by true e h = spot_within-is objects l.object o (reach kind l o) l.offset m x found e (reach-inside kind l o) h
    by false e h = absurd (cc (h))

pub spot-is : (kind : Kind) (objects : List Object) (p : Pointer) (m : ℕ) (x : Spot) → spot kind objects p m ≡ Some x → IsSpot objects m x
spot-is kind objects Null m x h = absurd (cc (h))
spot-is kind objects (Number n) m x h = absurd (cc (h))
spot-is kind objects (At l) m x h = spot_in-is kind objects l (slice_get objects l.object) m x refl h
spot-is kind objects (Function f) m x h = absurd (cc (h))

-- Objects that stay whole

pub set_whole : (objects : List Object) (number : ℕ) (o new : Object) → AreWhole objects → slice_get objects number ≡ Some o → IsWhole new → AreWhole (slice_set objects number new)
set_whole objects number o new whole found is = record { each = λ i x h. ⊎_elim (same i x h) (other i x h) (cases_eq number i) }
  where
    same : (i : ℕ) (x : Object) → slice_get (slice_set objects number new) i ≡ Some x → number ≡ i → IsWhole x
    same i x h e =
        let f : slice_get (slice_set objects number new) i ≡ Some new = subst (λ j. slice_get (slice_set objects number new) j ≡ Some new) e (get-set_same objects number o new found) in
        subst IsWhole (cc (f, h)) is

    other : (i : ℕ) (x : Object) → slice_get (slice_set objects number new) i ≡ Some x → (number ≡ i → ⊥) → IsWhole x
    other i x h n = whole.each i x (sym (get-set_other objects number i new n) ∙ h)

pub access_whole : (kind : Kind) (p : Pointer) (m : ℕ) (f : ℕ → Object → Object)
    → ((at : ℕ) (o : Object) → IsWhole o → at + m ≤ o.size → IsWhole (f at o))
    → KeepsWhole (access kind p m (λ at. leaves (with_object at.number (f at.at at.object))))
access_whole kind p m f keeps s whole = by (spot kind s.memory.objects p m) refl
  where
    by : (r : Option Spot) → spot kind s.memory.objects p m ≡ r
        → AreWhole (left_by (given r (λ at. λ t. leaves (with_object at.number (f at.at at.object)) (touched at.number at.at m t)) s)).memory.objects
    by None e = whole
    by (Some x) e =
        let is = spot-is kind s.memory.objects p m x e in
        set_whole s.memory.objects x.number x.object (f x.at x.object) whole is.found (keeps x.at x.object (whole.each x.number x.object is.found) is.inside)

pub store_integer-whole : (kind : Kind) (t : IntegerType) (p : Pointer) (z : ℤ) → KeepsWhole (store_integer kind t p z)
store_integer-whole kind t p z = access_whole kind p t.bytes (λ at o. with_integer t.bytes at (word z) o) (λ at o whole room. integer_whole t.bytes at (word z) o whole)

pub store_pointer-whole : (kind : Kind) (p q : Pointer) → KeepsWhole (store_pointer kind p q)
store_pointer-whole kind p q = access_whole kind p 8 (λ at o. with_pointer at q o) (λ at o whole room. pointer_whole at q o whole)

pub clear-whole : (number : ℕ) → KeepsWhole (clear number)
clear-whole number s whole = by (slice_get s.memory.objects number) refl
  where
    of_live : (o : Object) (b : Bool) → slice_get s.memory.objects number ≡ Some o → o.live ≡ b
        → AreWhole (left_by (allowed {A = Unit {0}} b Wrong (leaves (λ t. with_object number (cleared o) (touched number 0 o.size t))) s)).memory.objects
    of_live o true found e = set_whole s.memory.objects number o (cleared o) whole found (cleared_whole o (whole.each number o found))
    of_live o false found e = whole

    by : (r : Option Object) → slice_get s.memory.objects number ≡ r → AreWhole (left_by (clear_at number r s)).memory.objects
    by None e = whole
    by (Some o) e = of_live o o.live e refl

pub copy-whole : (n : ℕ) (from : Kind) (source : Pointer) (to : Kind) (target : Pointer) → KeepsWhole (copy n from source to target)
copy-whole n from source to target s whole = by (spot from s.memory.objects source n) refl
  where
    by : (r : Option Spot) → spot from s.memory.objects source n ≡ r
        → AreWhole (left_by (given r (λ read. λ t. access to target n (λ at. leaves (with_object at.number (with_copy n read.object read.at at.at at.object))) (touched read.number read.at n t)) s)).memory.objects
    by None e = whole
    by (Some x) e =
        let is = spot-is from s.memory.objects source n x e in
        access_whole to target n (λ at o. with_copy n x.object x.at at o)
        (λ at o w room. copy_whole n x.object x.at at o (whole.each x.number x.object is.found) w room)
        (touched x.number x.at n s) whole

zero_whole : (depth : ℕ) (node : NodeId) (size : ℕ) (cells : List Cell) → IsWhole (zero_object depth node size cells)
zero_whole depth node size cells = record { sized = length-replicate size 0; under = λ k p h. absurd (cc (h)) }

append_whole : (objects new : List Object) → AreWhole objects → ((i : ℕ) (x : Object) → slice_get new i ≡ Some x → IsWhole x) → AreWhole (objects ++ new)
append_whole objects new whole is = record { each = get-append IsWhole objects new whole.each is }

one : (o : Object) → IsWhole o → (i : ℕ) (x : Object) → slice_get (o ∷ []) i ≡ Some x → IsWhole x
one o is zero x h = subst IsWhole (cc (h)) is
one o is (suc i) x h = absurd (cc (h))

pub allocate-whole : (w : Setting) (node : NodeId) (t : TypeId) (n : ℕ) → KeepsWhole (allocate w node t n)
allocate-whole w node t n s whole = by (nat_le (s.memory.heap_bytes + charge_of size) heap_limit)
  where
    size : ℕ
    size = block_size w.table (w.kind node) t n

    by : (b : Bool) → AreWhole (left_by (either {A = Pointer} b (leaves (with_block (new_block w.table node t size)) >> done (block_pointer (length s.memory.objects) t size)) (done Null) s)).memory.objects
    by true = append_whole s.memory.objects (new_block w.table node t size ∷ []) whole (one (new_block w.table node t size) (zero_whole 0 node size (block_cells (cells_of w.table t) size)))
    by false = whole

pub enter-whole : (w : Setting) (depth f : ℕ) (variables : List Planned) → KeepsWhole (enter w depth f variables)
enter-whole w depth f variables s whole = append_whole s.memory.objects (map (new_variable w.table depth) variables) whole
    (get-map IsWhole (new_variable w.table depth) variables (λ i v h. zero_whole depth v.node (size_of w.table v.type) (cells_of w.table v.type)))

ended_whole : (depth : ℕ) (o : Object) → IsWhole o → IsWhole (ended depth o)
ended_whole depth o is = by (o.depth == depth)
  where
    by : (b : Bool) → IsWhole (if b then record o { live = false } else o)
    by true = record { sized = is.sized; under = is.under }
    by false = is

pub leave-whole : (w : Setting) (depth : ℕ) (variables : List Planned) → KeepsWhole (leave w depth variables)
leave-whole w depth variables s whole = record {
  each = get-map IsWhole (ended depth) s.memory.objects (λ i o h. ended_whole depth o (whole.each i o h));
}

-- Operations with their conditions before them are wrong nowhere, on pointers and in a memory that meet the facts.
use Rattle.std.proofs.Common.{◌≡◌, ◌≢◌, ℕ, ℤ, pos, Bool, true, false, ◌&&◌, List, [], ◌∷◌, length, slice_get, Some, refl, ap, sym, subst, ◌∙◌, arith}
use Rattle.std.specs.List.{list_all}
use Rattle.cc_base.specs.declared.place.Place.{Place}
use Rattle.cc_base.specs.declared.number.TypeId.{TypeId}
use Rattle.cc_base.specs.declared.number.NodeId.{NodeId}
use Rattle.cc_base.specs.declared.kind.Kind.{Kind}
use Rattle.cc_base.specs.declared.kind.Kind.TheVariants.{Safe, Seq, Rtti, Wild}
use Rattle.c_types.specs.declared.shape.TypeShape.{TypeShape}
use Rattle.c_types.specs.declared.shape.TypeShape.TheVariants as shape
use Rattle.c_types.specs.Table.{shape_at}
use Rattle.c_types.specs.Equality.{cells_of}
use Rattle.runs.specs.Outcome.{Outcome, Ended, Done, done, leaves, allowed, from, ◌>>=◌}
use Rattle.integers.specs.Words.{word}
use Rattle.integers.specs.Arithmetic.{IntegerType, converted}
use Rattle.flat_mem.specs.Bytes.{number}
use Rattle.src_mem.specs.Pointers.{Location, Pointer, At, Value, Integer, Address}
use Rattle.src_mem.specs.Memory.{Object, Memory, with_integer, with_pointer, holds_pointer_at, pointer_or_null}
use Rattle.src_mem.specs.State.{Ending, Exited, Stopped, Turns, Wants, Wrong, State, Act, Setting, given, touched}
use Rattle.src_mem.specs.Checks.{Condition, InObject, HoldsNone, HoldsPointer, IsAligned, Outlives, ReadInteger, ReadPointer, WriteInteger, WritePointer, conditions_of, check_of, holds, looks, object_at, all_placed, place_of_write}
use Rattle.src_mem.specs.Primitives.{Spot, spot, access, with_object, load_integer, load_pointer, store_integer, store_pointer}
use Rattle.src_mem.specs.Uses.{read_shape, store_shape, conditions_of_write}
use Rattle.kind_sites.specs.declared.site.Site.{Site}
use Rattle.src_mem.specs.Outlines.{Outline, outline, outlines_of, lives_of}
use Rattle.src_mem.specs.Facts.{IsHeldIn, IsSoundMemory, IsSafeAt, IsTypedAt, IsSequenceAt}
use Rattle.src_mem.specs.Laws.{IsNotWrong, IsScalar, IsScalarValue}
use Rattle.src_mem.proofs.Outlines.{get-mapped}
use Rattle.src_mem.proofs.Spots.{IsRight, spot-right}
use Rattle.src_mem.proofs.Right.{MayTouch, Begins, bounds_of, touches, integer_cells, pointer_cells_are, no_function, begins_holds, holds_first, made_begins, pointer_begins, sequence_begins}

-- Runs that aren't wrong

pub from_right : {A B : Type 0} (m : Outcome Ending State A) (f : A → Act B) → IsNotWrong m → ((a : A) (s : State) → IsNotWrong (f a s)) → IsNotWrong (from m f)
from_right (Done a s) f h next = next a s
from_right (Ended Turns s) f h next = tt
from_right (Ended Wants s) f h next = tt
from_right (Ended (Exited n) s) f h next = tt
from_right (Ended (Stopped c p) s) f h next = tt
from_right (Ended Wrong s) f h next = h

abbrev pub goes_on : Act (Unit {0})
goes_on = done tt

-- conditions that are tried end a run by a check, or hold
pub checked_right : {B : Type 0} (w : Setting) (place : Condition → Place) (cs : List Condition) (next : Act B) (s : State)
    → (list_all (holds w s.memory) cs ≡ true → IsNotWrong (next s)) → IsNotWrong (from (all_placed w place cs s) (λ a. next))
checked_right w place [] next s h = h refl
checked_right w place (c ∷ cs) next s h = by (holds w s.memory c) refl (checked_right w place cs next s)
  where
    by : (b : Bool) → holds w s.memory c ≡ b
        → ((list_all (holds w s.memory) cs ≡ true → IsNotWrong (next s)) → IsNotWrong (from (all_placed w place cs s) (λ a. next)))
        → IsNotWrong (from (from (allowed b (Stopped (check_of c) (place c)) goes_on s) (λ a. all_placed w place cs)) (λ a. next))
    by false e rest = tt
    by true e rest = rest (λ k. h (ap (λ b. b && list_all (holds w s.memory) cs) e ∙ k))

-- an access to what may be touched
pub access_right : {A : Type 0} (kind : Kind) (p : Pointer) (m : ℕ) (next : Spot → Act A) (s : State) → MayTouch kind s.memory.objects p m
    → ((l : Location) (o : Object) (at : ℕ) → p ≡ At l → IsRight kind s.memory.objects l m o at → IsNotWrong (next (record { number = l.object; object = o; at = at }) (touched l.object at m s)))
    → IsNotWrong (access kind p m next s)
access_right kind p m next s may h =
    let x : Spot = record { number = may.location.object; object = may.object; at = may.at } in
    let e : spot kind s.memory.objects p m ≡ Some x = ap (λ q. spot kind s.memory.objects q m) may.pointer ∙ spot-right kind s.memory.objects may.location m may.object may.at may.right in
    subst (λ r. IsNotWrong (given r (λ at. λ t. from (leaves (touched at.number at.at m) t) (λ a. next at)) s)) (sym e) (h may.location may.object may.at may.pointer may.right)

-- Reads and writes

pub first_holds : (b c : Bool) → (b && c) ≡ true → b ≡ true
first_holds true c h = refl
first_holds false c h = h

pub second_holds : (b c : Bool) → (b && c) ≡ true → c ≡ true
second_holds true c h = h
second_holds false c h = absurd (cc (h))

-- the first condition of an access is on its bounds
pub bounds_first : (w : Setting) (memory : Memory) (kind : Kind) (m : ℕ) (p : Pointer) (rest : List Condition)
    → list_all (holds w memory) (bounds_of kind m p ∷ rest) ≡ true → holds w memory (bounds_of kind m p) ≡ true
bounds_first w memory kind m p rest h = first_holds (holds w memory (bounds_of kind m p)) (list_all (holds w memory) rest) h

integer_bounds : (w : Setting) (memory : Memory) (kind : Kind) (m : ℕ) (p : Pointer)
    → list_all (holds w memory) (conditions_of (ReadInteger m) kind p) ≡ true → holds w memory (bounds_of kind m p) ≡ true
integer_bounds w memory Safe m p h = bounds_first w memory Safe m p [] h
integer_bounds w memory Rtti m p h = bounds_first w memory Rtti m p [] h
integer_bounds w memory Seq m p h = bounds_first w memory Seq m p [] h
integer_bounds w memory Wild m p h = bounds_first w memory Wild m p (HoldsNone m p ∷ []) h

pointer_bounds : (w : Setting) (memory : Memory) (kind : Kind) (p : Pointer)
    → list_all (holds w memory) (conditions_of ReadPointer kind p) ≡ true → holds w memory (bounds_of kind 8 p) ≡ true
pointer_bounds w memory Safe p h = bounds_first w memory Safe 8 p [] h
pointer_bounds w memory Rtti p h = bounds_first w memory Rtti 8 p [] h
pointer_bounds w memory Seq p h = bounds_first w memory Seq 8 p [] h
pointer_bounds w memory Wild p h = bounds_first w memory Wild 8 p (IsAligned p ∷ HoldsPointer p ∷ []) h

write_integer_bounds : (w : Setting) (memory : Memory) (kind : Kind) (m : ℕ) (p : Pointer)
    → list_all (holds w memory) (conditions_of (WriteInteger m) kind p) ≡ true → holds w memory (bounds_of kind m p) ≡ true
write_integer_bounds w memory Safe m p h = bounds_first w memory Safe m p [] h
write_integer_bounds w memory Rtti m p h = bounds_first w memory Rtti m p [] h
write_integer_bounds w memory Seq m p h = bounds_first w memory Seq m p [] h
write_integer_bounds w memory Wild m p h = bounds_first w memory Wild m p [] h

write_pointer_bounds : (w : Setting) (memory : Memory) (kind : Kind) (p q : Pointer)
    → list_all (holds w memory) (conditions_of (WritePointer q) kind p) ≡ true → holds w memory (bounds_of kind 8 p) ≡ true
write_pointer_bounds w memory Safe p q h = bounds_first w memory Safe 8 p (Outlives p q ∷ []) h
write_pointer_bounds w memory Rtti p q h = bounds_first w memory Rtti 8 p (Outlives p q ∷ []) h
write_pointer_bounds w memory Seq p q h = bounds_first w memory Seq 8 p (Outlives p q ∷ []) h
write_pointer_bounds w memory Wild p q h = bounds_first w memory Wild 8 p (IsAligned p ∷ Outlives p q ∷ []) h

read_integer_right : (w : Setting) (place : Place) (depth : ℕ) (kind : Kind) (t : TypeId) (p : Pointer) (s : State) (bytes : ℕ) (signed : Bool)
    → shape_at w.table t ≡ shape.Integer bytes signed → IsHeldIn w s.memory depth kind t p
    → IsNotWrong (read_shape w place kind (shape.Integer bytes signed) p s)
read_integer_right w place depth kind t p s bytes signed e held =
    checked_right w (λ c. place) (conditions_of (ReadInteger bytes) kind p) (load_integer kind type p >>= (λ z. done (Integer z))) s
    (λ h. from_right (load_integer kind type p s) (λ z. done (Integer z)) (load h) (λ z u. tt))
  where
    type : IntegerType
    type = record { bytes = bytes; signed = signed }

    load : list_all (holds w s.memory) (conditions_of (ReadInteger bytes) kind p) ≡ true → IsNotWrong (load_integer kind type p s)
    load h =
        let c = integer_cells w.table t bytes signed e in
        access_right kind p bytes (λ at. done (converted type (pos (number bytes at.object.bytes at.at)))) s
        (touches w s.memory depth bytes kind t p held (no_function w.table t (shape.Integer bytes signed) e refl) (omega (arith, c)) (integer_bounds w s.memory kind bytes p h))
        (λ l o at f r. tt)

write_integer_right : (w : Setting) (place : Condition → Place) (depth : ℕ) (kind : Kind) (t : TypeId) (p : Pointer) (s : State) (bytes : ℕ) (signed : Bool) (z : ℤ)
    → shape_at w.table t ≡ shape.Integer bytes signed → IsHeldIn w s.memory depth kind t p
    → IsNotWrong (from (all_placed w place (conditions_of (WriteInteger bytes) kind p) s) (λ a. store_integer kind (record { bytes = bytes; signed = signed }) p z))
write_integer_right w place depth kind t p s bytes signed z e held =
    checked_right w place (conditions_of (WriteInteger bytes) kind p) (store_integer kind (record { bytes = bytes; signed = signed }) p z) s store_it
  where
    store_it : list_all (holds w s.memory) (conditions_of (WriteInteger bytes) kind p) ≡ true → IsNotWrong (store_integer kind (record { bytes = bytes; signed = signed }) p z s)
    store_it h =
        let c = integer_cells w.table t bytes signed e in
        access_right kind p bytes (λ at. leaves (with_object at.number (with_integer bytes at.at (word z) at.object))) s
        (touches w s.memory depth bytes kind t p held (no_function w.table t (shape.Integer bytes signed) e refl) (omega (arith, c)) (write_integer_bounds w s.memory kind bytes p h))
        (λ l o at f r. tt)

write_pointer_right : (w : Setting) (place : Condition → Place) (depth : ℕ) (kind : Kind) (t : TypeId) (p q : Pointer) (s : State) (n : NodeId) (u : TypeId)
    → shape_at w.table t ≡ shape.Pointer n u → IsHeldIn w s.memory depth kind t p
    → IsNotWrong (from (all_placed w place (conditions_of (WritePointer q) kind p) s) (λ a. store_pointer kind p q))
write_pointer_right w place depth kind t p q s n u e held =
    checked_right w place (conditions_of (WritePointer q) kind p) (store_pointer kind p q) s store_it
  where
    store_it : list_all (holds w s.memory) (conditions_of (WritePointer q) kind p) ≡ true → IsNotWrong (store_pointer kind p q s)
    store_it h =
        let c : length (cells_of w.table t) ≡ 8 = ap length (pointer_cells_are w.table t n u e) in
        access_right kind p 8 (λ at. leaves (with_object at.number (with_pointer at.at q at.object))) s
        (touches w s.memory depth 8 kind t p held (no_function w.table t (shape.Pointer n u) e refl) (omega (arith, c)) (write_pointer_bounds w s.memory kind p q h))
        (λ l o at f r. tt)

-- Pointers that are read

looks_at : (objects : List Object) (p : Pointer) (l : Location) (o : Object) (at : ℕ) (test : ℕ → Object → Bool)
    → p ≡ At l → slice_get objects l.object ≡ Some o → l.offset ≡ pos at → looks objects p test ≡ test at o
looks_at objects p l o at test e found offset =
    ap (λ q. looks objects q test) e ∙ ap (λ r. object_at r l.offset test) found ∙ ap (λ z. object_at (Some o) z test) offset

-- the word that begins at a byte of a living object, where the object holds the beginning of a pointer
pub begun : (w : Setting) (sites : List Site) (memory : Memory) (l : Location) (o : Object) (v : Outline) (at a : ℕ) → IsSoundMemory w sites memory
    → slice_get memory.objects l.object ≡ Some o → o.live ≡ true → l.offset ≡ pos at
    → slice_get (outlines_of memory) l.object ≡ Some v → l.offset ≡ pos a → w.kind v.node ≢ Wild → Begins v.cells a → holds_pointer_at at o ≡ true
begun w sites memory l o v at a sound found live offset found_v offset_a untagged b =
    let x = get-mapped outline memory.objects l.object o found in
    let e : v ≡ outline o = cc (x, found_v) in
    let g : a ≡ at = cc (offset, offset_a) in
    begins_holds w sites (outlines_of memory) (lives_of memory) o at (sound.each l.object o found live)
    (subst (λ (y : Outline). w.kind y.node ≢ Wild) e untagged)
    (subst (λ (y : Outline). Begins y.cells at) e (subst (Begins v.cells) g b))

word_holds : (w : Setting) (sites : List Site) (memory : Memory) (depth : ℕ) (kind : Kind) (t : TypeId) (n : NodeId) (u : TypeId) (p : Pointer) (l : Location) (o : Object) (at : ℕ)
    → IsSoundMemory w sites memory → shape_at w.table t ≡ shape.Pointer n u → IsHeldIn w memory depth kind t (At l) → p ≡ At l → IsRight kind memory.objects l 8 o at
    → list_all (holds w memory) (conditions_of ReadPointer kind p) ≡ true → holds_pointer_at at o ≡ true
word_holds w sites memory depth Safe t n u p l o at sound e held f r h = of held.value
  where
    of : IsSafeAt w (outlines_of memory) t l → holds_pointer_at at o ≡ true
    of v = begun w sites memory l o v.object at v.at sound r.found r.live r.offset v.located.found v.stands.offset v.typed.untagged
        (holds_first w v.object.cells v.at l.part.high t v.holds (pointer_begins w.table t n u e))
word_holds w sites memory depth Rtti t n u p l o at sound e held f r h = of held.value
  where
    of : IsTypedAt w (outlines_of memory) t l → holds_pointer_at at o ≡ true
    of v = begun w sites memory l o v.object at v.at sound r.found r.live r.offset v.located.found v.stands.offset v.typed.untagged
        (holds_first w v.object.cells v.at l.part.high l.made v.holds (made_begins w.table l.made t v.covers.begins (pointer_begins w.table t n u e)))
word_holds w sites memory depth Seq t n u p l o at sound e held f r h = of held.value
  where
    of : IsSequenceAt w (outlines_of memory) t l → holds_pointer_at at o ≡ true
    of v = begun w sites memory l o v.object at at sound r.found r.live r.offset v.located.found r.offset v.typed.untagged
        (sequence_begins w (outlines_of memory) t n u l v at e r.offset r.low (let k = r.high in grind arith))
word_holds w sites memory depth Wild t n u p l o at sound e held f r h =
    sym (looks_at memory.objects p l o at holds_pointer_at f r.found r.offset)
    ∙ first_holds (holds w memory (HoldsPointer p)) true (second_holds (holds w memory (IsAligned p)) _ (second_holds (holds w memory (InObject 8 p)) _ h))

read_pointer_right : (w : Setting) (sites : List Site) (place : Place) (depth : ℕ) (kind : Kind) (t : TypeId) (p : Pointer) (s : State) (n : NodeId) (u : TypeId)
    → IsSoundMemory w sites s.memory → shape_at w.table t ≡ shape.Pointer n u → IsHeldIn w s.memory depth kind t p
    → IsNotWrong (read_shape w place kind (shape.Pointer n u) p s)
read_pointer_right w sites place depth kind t p s n u sound e held =
    checked_right w (λ c. place) (conditions_of ReadPointer kind p) (load_pointer kind p >>= (λ q. done (Address q))) s
    (λ h. from_right (load_pointer kind p s) (λ q. done (Address q)) (load h) (λ q v. tt))
  where
    allowed_right : (b : Bool) (q : Pointer) (v : State) → b ≡ true → IsNotWrong (allowed b Wrong (done q) v)
    allowed_right b q v k = subst (λ c. IsNotWrong (allowed c Wrong (done q) v)) (sym k) tt

    load : list_all (holds w s.memory) (conditions_of ReadPointer kind p) ≡ true → IsNotWrong (load_pointer kind p s)
    load h =
        let c : length (cells_of w.table t) ≡ 8 = ap length (pointer_cells_are w.table t n u e) in
        access_right kind p 8 (λ at. allowed (holds_pointer_at at.at at.object) Wrong (done (pointer_or_null (at.object.pointers at.at)))) s
        (touches w s.memory depth 8 kind t p held (no_function w.table t (shape.Pointer n u) e refl) (omega (arith, c)) (pointer_bounds w s.memory kind p h))
        (λ l o at f r. allowed_right (holds_pointer_at at o) (pointer_or_null (o.pointers at)) (touched l.object at 8 s)
        (word_holds w sites s.memory depth kind t n u p l o at sound e (subst (λ q. IsHeldIn w s.memory depth kind t q) f held) f r h))

-- a scalar is read, and written
pub read_right : (w : Setting) (sites : List Site) (place : Place) (depth : ℕ) (kind : Kind) (t : TypeId) (p : Pointer) (s : State) (sh : TypeShape)
    → IsSoundMemory w sites s.memory → IsScalar sh → shape_at w.table t ≡ sh → IsHeldIn w s.memory depth kind t p → IsNotWrong (read_shape w place kind sh p s)
read_right w sites place depth kind t p s (shape.Integer bytes signed) sound scalar e held = read_integer_right w place depth kind t p s bytes signed e held
read_right w sites place depth kind t p s (shape.Pointer n u) sound scalar e held = read_pointer_right w sites place depth kind t p s n u sound e held
read_right w sites place depth kind t p s shape.Void sound scalar e held = absurd scalar
read_right w sites place depth kind t p s (shape.Array a n) sound scalar e held = absurd scalar
read_right w sites place depth kind t p s (shape.Function ps r) sound scalar e held = absurd scalar
read_right w sites place depth kind t p s (shape.Struct n) sound scalar e held = absurd scalar
read_right w sites place depth kind t p s (shape.Union n) sound scalar e held = absurd scalar

pub write_right : (w : Setting) (own assignment : Place) (depth : ℕ) (kind : Kind) (t : TypeId) (p : Pointer) (v : Value) (s : State) (sh : TypeShape)
    → IsScalarValue sh v → shape_at w.table t ≡ sh → IsHeldIn w s.memory depth kind t p
    → IsNotWrong (from (all_placed w (place_of_write own assignment) (conditions_of_write kind sh p v) s) (λ a. store_shape kind sh p v))
write_right w own assignment depth kind t p (Integer z) s (shape.Integer bytes signed) fits_it e held =
    write_integer_right w (place_of_write own assignment) depth kind t p s bytes signed z e held
write_right w own assignment depth kind t p (Address q) s (shape.Pointer n u) fits_it e held =
    write_pointer_right w (place_of_write own assignment) depth kind t p q s n u e held
write_right w own assignment depth kind t p (Address q) s (shape.Integer bytes signed) fits_it e held = absurd fits_it
write_right w own assignment depth kind t p (Integer z) s (shape.Pointer n u) fits_it e held = absurd fits_it
write_right w own assignment depth kind t p v s shape.Void fits_it e held = absurd fits_it
write_right w own assignment depth kind t p v s (shape.Array a n) fits_it e held = absurd fits_it
write_right w own assignment depth kind t p v s (shape.Function ps r) fits_it e held = absurd fits_it
write_right w own assignment depth kind t p v s (shape.Struct n) fits_it e held = absurd fits_it
write_right w own assignment depth kind t p v s (shape.Union n) fits_it e held = absurd fits_it

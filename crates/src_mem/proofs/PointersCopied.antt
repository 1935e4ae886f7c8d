-- The copy of a struct that holds pointers, through pointers that aren't WILD: each of its pointers is loaded first.
use Rattle.std.proofs.Common.{◌≡◌, ◌≢◌, inr, ℕ, zero, suc, ◌+◌, ◌-◌, ◌%◌, ◌<◌, ◌≤◌, ℤ, pos, ◌+ℤ◌, ◌-ℤ◌, Bool, true, false, not, cond, List, [], ◌∷◌, length, slice_get, Option, None, Some, refl, ap, sym, subst, ◌∙◌, arith}
use Rattle.std.specs.Prelude.{is_some, slice_index_or}
use Rattle.std.specs.List.{filter, list_all, range_with_len}
use Rattle.cc_base.specs.declared.number.TypeId.{TypeId}
use Rattle.cc_base.specs.declared.kind.Kind.{Kind}
use Rattle.cc_base.specs.declared.kind.Kind.TheVariants.{Safe, Seq, Rtti, Wild}
use Rattle.c_types.specs.declared.shape.TypeShape.{TypeShape}
use Rattle.c_types.specs.declared.shape.TypeShape.TheVariants as shape
use Rattle.c_types.specs.Table.{Table, shape_at, members_at, is_function, is_function_shape, is_complete_entry, IsComplete}
use Rattle.c_types.specs.Layouts.{size_of}
use Rattle.c_types.specs.Cells.{holds_pointer, Cell, raw, pointer, mixed, incomplete, Relation, alike, begins}
use Rattle.c_types.specs.Equality.{cells_of, physically_equal, repeated_cell}
use Rattle.c_types.specs.Flows.{and_then, pointer_in_cell, pointer_in, pointer_at}
use native.Mathlib.Nat.{mod-eq_of_lt, mod-lt}
use Rattle.integers.specs.Words.{residue}
use Rattle.c_types.specs.Flows.{CellsAgree}
use Rattle.src_mem.specs.Pointers.{Part, Location, Pointer, At, distance}
use Rattle.src_mem.specs.Memory.{Object, Memory, holds_pointer_at, pointer_or_null}
use Rattle.runs.specs.Outcome.{Outcome, Done, done, allowed, either, from, ◌>>◌}
use Rattle.cc_base.specs.declared.place.Place.{Place}
use Rattle.src_mem.specs.State.{Ending, Stopped, Wrong, State, Act, Setting, given, touched}
use Rattle.src_mem.specs.Checks.{CopyFrom, CopyTo, conditions_of, all_checked, Outlives, check_of, checked, holds}
use Rattle.src_mem.specs.Primitives.{reach, load_pointer, copy}
use Rattle.src_mem.specs.Uses.{forward, load_pointers, keep_pointers, copy_all}
use Rattle.c_types.specs.Sound.{IsWellFormed}
use Rattle.c_types.proofs.Cells.{length_cells}
use Rattle.c_types.proofs.WholePointers.{cells_whole}
use Rattle.src_mem.specs.Laws.{IsNotWrong}
use Rattle.src_mem.proofs.Spots.{IsRight, spot-right}
use Rattle.src_mem.proofs.NotWrong.{begun, goes_on, checked_right}
use Rattle.src_mem.proofs.CopiesRight.{both_touched, from_bounds, to_bounds, copy_right}
use Rattle.kind_sites.specs.declared.site.Site.{Site}
use Rattle.src_mem.specs.Outlines.{Outline, outlines_of}
use Rattle.src_mem.specs.Facts.{HoldType, IsSequenceAt, IsSafeAt, IsTypedAt, IsHeldIn, IsSoundMemory}
use Rattle.src_mem.proofs.Right.{filled_part, MayTouch, touches, IsFirst, Begins, begins_first, second_true, first_of, distance_is, safe≢wild, seq≢wild, rtti≢wild}

-- where a data type holds a pointer, its cells begin one
cell_there : (c : Cell) → is_some (pointer_in_cell c) ≡ true → IsFirst c
cell_there raw h = absurd (cc (h))
cell_there (pointer n u zero) h = record { node = n; to = u; is = refl }
cell_there (pointer n u (suc i)) h = absurd (cc (h))
cell_there (mixed u i) h = absurd (cc (h))
cell_there (incomplete u) h = absurd (cc (h))

cells_there : (cs : List Cell) (i : ℕ) → is_some (and_then (slice_get cs i) pointer_in_cell) ≡ true → Begins cs i
cells_there cs i = by (slice_get cs i) refl
  where
    by : (r : Option Cell) → slice_get cs i ≡ r → is_some (and_then r pointer_in_cell) ≡ true → Begins cs i
    by None e h = absurd (cc (h))
    by (Some c) e h = record { cell = c; found = e; first = cell_there c h }

pub pointer_there : (table : Table) (t : TypeId) (i : ℕ) → is_function table t ≡ false → is_some (pointer_at table t i) ≡ true → Begins (cells_of table t) i
pointer_there table t i = by (shape_at table t)
  where
    by : (s : TypeShape) → is_function_shape s ≡ false → is_some (pointer_in table t s i) ≡ true → Begins (cells_of table t) i
    by (shape.Function ps r) f h = absurd (cc (f))
    by shape.Void f h = cells_there (cells_of table t) i h
    by (shape.Integer b s) f h = cells_there (cells_of table t) i h
    by (shape.Pointer n u) f h = cells_there (cells_of table t) i h
    by (shape.Array a n) f h = cells_there (cells_of table t) i h
    by (shape.Struct n) f h = cells_there (cells_of table t) i h
    by (shape.Union n) f h = cells_there (cells_of table t) i h

-- what begins with a type begins its pointers at the same places
begins_there : (E : Relation) (xs ys : List Cell) (i : ℕ) → begins E xs ys ≡ true → Begins ys i → Begins xs i
begins_there E xs [] i h b = absurd (cc (b.found))
begins_there E [] (y ∷ ys) i h b = absurd (cc (h))
begins_there E (x ∷ xs) (y ∷ ys) zero h b = begins_first E (x ∷ xs) (y ∷ ys) h b
begins_there E (x ∷ xs) (y ∷ ys) (suc i) h b = later (begins_there E xs ys i (second_true (alike E x y) (begins E xs ys) h) (record { cell = b.cell; found = b.found; first = b.first }))
  where
    later : Begins xs i → Begins (x ∷ xs) (suc i)
    later a = record { cell = a.cell; found = a.found; first = a.first }

-- an element of a list is that of its endless repetition
index_is : (cs : List Cell) (i : ℕ) (c : Cell) → slice_get cs i ≡ Some c → repeated_cell cs i ≡ c
index_is cs i c e = ap (λ k. slice_index_or cs k raw) (mod-eq_of_lt (below cs i c e)) ∙ index_at cs i c e
  where
    below : (cs : List Cell) (i : ℕ) (c : Cell) → slice_get cs i ≡ Some c → i < length cs
    below [] i c e = absurd (cc (e))
    below (x ∷ cs) zero c e = omega arith
    below (x ∷ cs) (suc i) c e = let k = below cs i c e in omega arith

    index_at : (cs : List Cell) (i : ℕ) (c : Cell) → slice_get cs i ≡ Some c → slice_index_or cs i raw ≡ c
    index_at [] i c e = absurd (cc (e))
    index_at (x ∷ cs) zero c e = cc (e)
    index_at (x ∷ cs) (suc i) c e = index_at cs i c e

-- the object's cells, where a pointer of the type is

safe_there : (w : Setting) (cells : List Cell) (at high : ℕ) (t : TypeId) (i : ℕ) → HoldType w cells at high t → Begins (cells_of w.table t) i → Begins cells (at + i)
safe_there w cells at high t i h b = of (h.agree i b.cell b.found)
  where
    of : ((c : Cell) × (slice_get cells (at + i) ≡ Some c) × CellsAgree w.table w.kind c b.cell) → Begins cells (at + i)
    of a = record { cell = a.0; found = a.1; first = first_of w a.0 b.cell a.2 b.first }

same_place : (cs : List Cell) (x y size : ℕ) → length cs ≡ size → 0 < size → x ≡ y % size → repeated_cell cs x ≡ repeated_cell cs y
same_place cs x y size l some e = ap (λ k. slice_index_or cs (x % k) raw) l ∙ ap (λ k. slice_index_or cs (k % size) raw) e ∙ ap (λ k. slice_index_or cs k raw) (mod-eq_of_lt (mod-lt y some)) ∙ ap (λ k. slice_index_or cs (y % k) raw) (sym l)

sequence_there : (w : Setting) (outlines : List Outline) (t : TypeId) (l : Location) (v : IsSequenceAt w outlines t l) (at i : ℕ)
    → IsComplete w.table t → length (cells_of w.table t) ≡ size_of w.table t → Begins (cells_of w.table t) i → i + 8 ≤ length (cells_of w.table t)
    → l.offset ≡ pos at → l.part.low ≤ at → at + size_of w.table t ≤ l.part.high → Begins v.object.cells (at + i)
sequence_there w outlines t l v at i complete sized b room offset low high = of ((filled_part (v.filled complete)).agree (at - l.part.low + i) (let s = sized in omega (arith, low, high, room, s)))
  where
    cs : List Cell
    cs = cells_of w.table t

    start : IsFirst (repeated_cell cs i)
    start = subst IsFirst (sym (index_is cs i b.cell b.found)) b.first

    steps : residue (distance l +ℤ pos i) (size_of w.table t) ≡ (at - l.part.low + i) % size_of w.table t
    steps = ap (λ z. residue ((z -ℤ pos l.part.low) +ℤ pos i) (size_of w.table t)) offset ∙ ap (λ z. residue (z +ℤ pos i) (size_of w.table t)) (distance_is l.part.low at low)

    here : IsFirst (repeated_cell cs (at - l.part.low + i))
    here = subst IsFirst (same_place cs (residue (distance l +ℤ pos i) (size_of w.table t)) (at - l.part.low + i) (size_of w.table t) sized (let s = sized in omega (arith, room, s)) steps)
        (first_of w (repeated_cell cs (residue (distance l +ℤ pos i) (size_of w.table t))) (repeated_cell cs i) ((v.shifted complete).agree i) start)

    of : ((c : Cell) × (slice_get v.object.cells (l.part.low + (at - l.part.low + i)) ≡ Some c) × CellsAgree w.table w.kind c (repeated_cell cs (at - l.part.low + i))) → Begins v.object.cells (at + i)
    of a = record {
      cell = a.0;
      found = subst (λ k. slice_get v.object.cells k ≡ Some a.0) (omega (arith, low)) a.1;
      first = first_of w a.0 (repeated_cell cs (at - l.part.low + i)) a.2 here;
    }

-- Loading one pointer of the source

abbrev pub moved_by : ℕ → Location → Location
moved_by i l = record l { offset = l.offset +ℤ pos i }

reach-moved : (kind : Kind) (l : Location) (z : ℤ) (o : Object) → reach kind (record l { offset = z }) o ≡ reach kind l o
reach-moved Safe l z o = refl
reach-moved Seq l z o = refl
reach-moved Rtti l z o = refl
reach-moved Wild l z o = refl

pub right_moved : (kind : Kind) (objects : List Object) (l : Location) (m i : ℕ) (o : Object) (at : ℕ) → IsRight kind objects l m o at → i + 8 ≤ m → IsRight kind objects (moved_by i l) 8 o (at + i)
right_moved kind objects l m i o at r room = record {
  found = r.found;
  live = r.live;
  offset = ap (λ z. z +ℤ pos i) r.offset;
  low = subst (λ (p : Part). p.low ≤ at + i) (sym (reach-moved kind l (l.offset +ℤ pos i) o)) (let a = r.low in omega arith);
  high = subst (λ (p : Part). at + i + 8 ≤ p.high) (sym (reach-moved kind l (l.offset +ℤ pos i) o)) (let a = r.high in omega arith);
}

-- the word of a pointer of the source holds one, or is zero
word_there : (w : Setting) (sites : List Site) (memory : Memory) (depth : ℕ) (kind : Kind) (t : TypeId) (l : Location) (o : Object) (at i : ℕ)
    → kind ≢ Wild → IsSoundMemory w sites memory → IsComplete w.table t → length (cells_of w.table t) ≡ size_of w.table t
    → IsHeldIn w memory depth kind t (At l) → IsRight kind memory.objects l (size_of w.table t) o at
    → Begins (cells_of w.table t) i → i + 8 ≤ length (cells_of w.table t) → holds_pointer_at (at + i) o ≡ true
word_there w sites memory depth Safe t l o at i n sound complete sized held r b room = of held.value
  where
    of : IsSafeAt w (outlines_of memory) t l → holds_pointer_at (at + i) o ≡ true
    of v = begun w sites memory (record l { offset = l.offset +ℤ pos i }) o v.object (at + i) (v.at + i) sound r.found r.live (ap (λ z. z +ℤ pos i) r.offset) v.located.found
        (ap (λ z. z +ℤ pos i) v.stands.offset) v.typed.untagged (safe_there w v.object.cells v.at l.part.high t i v.holds b)
word_there w sites memory depth Rtti t l o at i n sound complete sized held r b room = of held.value
  where
    of : IsTypedAt w (outlines_of memory) t l → holds_pointer_at (at + i) o ≡ true
    of v = begun w sites memory (record l { offset = l.offset +ℤ pos i }) o v.object (at + i) (v.at + i) sound r.found r.live (ap (λ z. z +ℤ pos i) r.offset) v.located.found
        (ap (λ z. z +ℤ pos i) v.stands.offset) v.typed.untagged
        (safe_there w v.object.cells v.at l.part.high l.made i v.holds (begins_there (physically_equal w.table) (cells_of w.table l.made) (cells_of w.table t) i
        (second_true (not (is_function w.table t)) (begins (physically_equal w.table) (cells_of w.table l.made) (cells_of w.table t)) (second_true (not (is_function w.table l.made)) _ v.covers.begins)) b))
word_there w sites memory depth Seq t l o at i n sound complete sized held r b room = of held.value
  where
    of : IsSequenceAt w (outlines_of memory) t l → holds_pointer_at (at + i) o ≡ true
    of v = begun w sites memory (record l { offset = l.offset +ℤ pos i }) o v.object (at + i) (at + i) sound r.found r.live (ap (λ z. z +ℤ pos i) r.offset) v.located.found
        (ap (λ z. z +ℤ pos i) r.offset) v.typed.untagged (sequence_there w (outlines_of memory) t l v at i complete sized b room r.offset r.low (let k = r.high in grind arith))
word_there w sites memory depth Wild t l o at i n sound complete sized held r b room = absurd (n refl)

abbrev loaded : Pointer → State → Outcome Ending State Pointer
loaded q s = Done q s

-- a load through a right access of a word that holds a pointer
load_is : (kind : Kind) (p : Pointer) (l : Location) (o : Object) (at : ℕ) (s : State) → p ≡ At l → IsRight kind s.memory.objects l 8 o at → holds_pointer_at at o ≡ true
    → load_pointer kind p s ≡ loaded (pointer_or_null (o.pointers at)) (touched l.object at 8 s)
load_is kind p l o at s e r h =
    ap (λ q. load_pointer kind q s) e
    ∙ ap (λ x. given x (λ y. λ u. allowed (holds_pointer_at y.at y.object) Wrong (done (pointer_or_null (y.object.pointers y.at))) (touched y.number y.at 8 u)) s) (spot-right kind s.memory.objects l 8 o at r)
    ∙ ap (λ b. allowed b Wrong (done (pointer_or_null (o.pointers at))) (touched l.object at 8 s)) h

-- All of them

LoadsAt : Memory → Kind → Pointer → ℕ → Type 0
LoadsAt memory kind source i = (s : State) → s.memory ≡ memory → (q : Pointer) × (n a : ℕ) × (load_pointer kind (forward i source) s ≡ loaded q (touched n a 8 s))

loads_right : (w : Setting) (place : Place) (memory : Memory) (kind : Kind) (source target : Pointer) (f : ℕ → Bool) (is : List ℕ) (next : Act (Unit {0})) (s : State)
    → ((i : ℕ) → f i ≡ true → LoadsAt memory kind source i) → s.memory ≡ memory → ((u : State) → u.memory ≡ memory → IsNotWrong (next u))
    → IsNotWrong (from (load_pointers w place kind source target (filter f is) s) (λ a. next))
unfolding LoadsAt
loads_right w place memory kind source target f [] next s loads same h = h s same
loads_right w place memory kind source target f (i ∷ is) next s loads same h =
    by (f i) refl (λ u e. loads_right w place memory kind source target f is next u loads e h)
  where
    checked_one : (q : Pointer) (u : State) (b : Bool) → u.memory ≡ memory → ((v : State) → v.memory ≡ memory → IsNotWrong (from (load_pointers w place kind source target (filter f is) v) (λ a. next)))
        → IsNotWrong (from (from (allowed b (Stopped (check_of (Outlives target q)) place) goes_on u) (λ a. load_pointers w place kind source target (filter f is))) (λ a. next))
    checked_one q u false e rest = tt
    checked_one q u true e rest = rest u e

    by : (b : Bool) → f i ≡ b → ((v : State) → v.memory ≡ memory → IsNotWrong (from (load_pointers w place kind source target (filter f is) v) (λ a. next)))
        → IsNotWrong (from (load_pointers w place kind source target (cond b (i ∷ filter f is) (filter f is)) s) (λ a. next))
    by false e rest = rest s same
    by true e rest =
        let one = loads i e s same in
        subst (λ o. IsNotWrong (from (from o (λ q. λ u. from (checked w place (Outlives target q) u) (λ a. load_pointers w place kind source target (filter f is)))) (λ a. next))) (sym one.3)
        (checked_one one.0 (touched one.1 one.2 8 s) (holds w (touched one.1 one.2 8 s).memory (Outlives target one.0)) same rest)

one_loads : (w : Setting) (sites : List Site) (memory : Memory) (depth : ℕ) (kind : Kind) (t : TypeId) (source : Pointer) (i : ℕ)
    → kind ≢ Wild → IsSoundMemory w sites memory → IsComplete w.table t → length (cells_of w.table t) ≡ size_of w.table t → IsWellFormed w.table → is_function w.table t ≡ false
    → IsHeldIn w memory depth kind t source → MayTouch kind memory.objects source (size_of w.table t) → is_some (pointer_at w.table t i) ≡ true → LoadsAt memory kind source i
unfolding LoadsAt
one_loads w sites memory depth kind t source i n sound complete sized formed data_type held may there s same =
    let l = may.location in
    let b = pointer_there w.table t i data_type there in
    let room : i + 8 ≤ length (cells_of w.table t) = cells_whole w.table formed (physically_equal w.table) t i b.first.node b.first.to (b.found ∙ ap (λ c. Some c) b.first.is) in
    let r = right_moved kind memory.objects l (size_of w.table t) i may.object may.at may.right (let e = sized in omega (arith, room, e)) in (
      pointer_or_null (may.object.pointers (may.at + i)),
      l.object,
      may.at + i,
      load_is kind (forward i source) (record l { offset = l.offset +ℤ pos i }) may.object (may.at + i) s (ap (λ p. forward i p) may.pointer)
          (subst (λ (m : Memory). IsRight kind m.objects (record l { offset = l.offset +ℤ pos i }) 8 may.object (may.at + i)) (sym same) r)
          (word_there w sites memory depth kind t l may.object may.at i n sound complete sized (subst (λ p. IsHeldIn w memory depth kind t p) may.pointer held) may.right b room),
    )

between_loads : (w : Setting) (place : Place) (kind : Kind) (source target : Pointer) (t : TypeId) (b : Bool) (next : Act (Unit {0})) (s : State) → kind ≢ Wild
    → ((i : ℕ) → is_some (pointer_at w.table t i) ≡ true → LoadsAt s.memory kind source i) → ((u : State) → u.memory ≡ s.memory → IsNotWrong (next u))
    → IsNotWrong (from (either b (keep_pointers w place kind source target t) (done tt) s) (λ a. next))
between_loads w place kind source target t false next s n loads h = h s refl
between_loads w place Safe source target t true next s n loads h =
    loads_right w place s.memory Safe source target (λ i. is_some (pointer_at w.table t i)) (range_with_len 0 (length (cells_of w.table t))) next s loads refl h
between_loads w place Seq source target t true next s n loads h =
    loads_right w place s.memory Seq source target (λ i. is_some (pointer_at w.table t i)) (range_with_len 0 (length (cells_of w.table t))) next s loads refl h
between_loads w place Rtti source target t true next s n loads h =
    loads_right w place s.memory Rtti source target (λ i. is_some (pointer_at w.table t i)) (range_with_len 0 (length (cells_of w.table t))) next s loads refl h
between_loads w place Wild source target t true next s n loads h = absurd (n refl)

pointers_copied : (w : Setting) (sites : List Site) (depth : ℕ) (t : TypeId) (source_place : Place) (from_kind : Kind) (source : Pointer) (target_place : Place) (to_kind : Kind) (target : Pointer) (place : Place) (s : State)
    → from_kind ≢ Wild → IsSoundMemory w sites s.memory → IsComplete w.table t → length (cells_of w.table t) ≡ size_of w.table t → IsWellFormed w.table → is_function w.table t ≡ false
    → IsHeldIn w s.memory depth from_kind t source → IsHeldIn w s.memory depth to_kind t target
    → IsNotWrong (copy_all w t source_place from_kind source target_place to_kind target place s)
pointers_copied w sites depth t source_place from_kind source target_place to_kind target place s n sound complete sized formed data_type a b =
    checked_right w (λ c. source_place) (conditions_of (CopyFrom (holds_pointer w.table t) (size_of w.table t)) from_kind source) (all_checked w target_place (conditions_of (CopyTo (holds_pointer w.table t) (size_of w.table t)) to_kind target) >> rest) s
    (λ h. checked_right w (λ c. target_place) (conditions_of (CopyTo (holds_pointer w.table t) (size_of w.table t)) to_kind target) rest s (λ k. go (from_touch h) (to_touch k)))
  where
    rest : Act (Unit {0})
    rest = either (holds_pointer w.table t) (keep_pointers w place from_kind source target t) (done tt) >> copy (size_of w.table t) from_kind source to_kind target

    from_touch : list_all (holds w s.memory) (conditions_of (CopyFrom (holds_pointer w.table t) (size_of w.table t)) from_kind source) ≡ true → MayTouch from_kind s.memory.objects source (size_of w.table t)
    from_touch h = touches w s.memory depth (size_of w.table t) from_kind t source a data_type (omega (arith, sized)) (from_bounds w s.memory from_kind (holds_pointer w.table t) (size_of w.table t) source h)

    to_touch : list_all (holds w s.memory) (conditions_of (CopyTo (holds_pointer w.table t) (size_of w.table t)) to_kind target) ≡ true → MayTouch to_kind s.memory.objects target (size_of w.table t)
    to_touch k = touches w s.memory depth (size_of w.table t) to_kind t target b data_type (omega (arith, sized)) (to_bounds w s.memory to_kind (holds_pointer w.table t) (size_of w.table t) target k)

    go : MayTouch from_kind s.memory.objects source (size_of w.table t) → MayTouch to_kind s.memory.objects target (size_of w.table t) → IsNotWrong (rest s)
    go x y = between_loads w place from_kind source target t (holds_pointer w.table t) (copy (size_of w.table t) from_kind source to_kind target) s n
        (λ i there. one_loads w sites s.memory depth from_kind t source i n sound complete sized formed data_type a x there)
        (λ u e. both_touched (size_of w.table t) from_kind source to_kind target u
        (subst (λ (m : Memory). MayTouch from_kind m.objects source (size_of w.table t)) (sym e) x)
        (subst (λ (m : Memory). MayTouch to_kind m.objects target (size_of w.table t)) (sym e) y))

-- the copy of a complete struct or union, through pointers of all kinds
no_function_complete : (table : Table) (t : TypeId) → IsComplete table t → is_function table t ≡ false
no_function_complete table t = by (shape_at table t)
  where
    by : (s : TypeShape) → is_complete_entry s (members_at table t) ≡ true → is_function_shape s ≡ false
    by (shape.Function ps r) h = absurd (cc (h))
    by shape.Void h = refl
    by (shape.Integer b s) h = refl
    by (shape.Pointer n u) h = refl
    by (shape.Array a n) h = refl
    by (shape.Struct n) h = refl
    by (shape.Union n) h = refl

pub all_copied : (w : Setting) (sites : List Site) (depth : ℕ) (t : TypeId) (source_place : Place) (from_kind : Kind) (source : Pointer) (target_place : Place) (to_kind : Kind) (target : Pointer) (place : Place) (s : State)
    → IsWellFormed w.table → IsComplete w.table t → IsSoundMemory w sites s.memory → IsHeldIn w s.memory depth from_kind t source → IsHeldIn w s.memory depth to_kind t target
    → IsNotWrong (copy_all w t source_place from_kind source target_place to_kind target place s)
all_copied w sites depth t source_place from_kind source target_place to_kind target place s formed complete sound a b = by from_kind a
  where
    sized : length (cells_of w.table t) ≡ size_of w.table t
    sized = length_cells w.table formed (physically_equal w.table) t complete

    data_type : is_function w.table t ≡ false
    data_type = no_function_complete w.table t complete

    by : (k : Kind) → IsHeldIn w s.memory depth k t source → IsNotWrong (copy_all w t source_place k source target_place to_kind target place s)
    by Wild c = copy_right w depth t source_place Wild source target_place to_kind target place s (inr refl) data_type sized c b
    by Safe c = pointers_copied w sites depth t source_place Safe source target_place to_kind target place s safe≢wild sound complete sized formed data_type c b
    by Seq c = pointers_copied w sites depth t source_place Seq source target_place to_kind target place s seq≢wild sound complete sized formed data_type c b
    by Rtti c = pointers_copied w sites depth t source_place Rtti source target_place to_kind target place s rtti≢wild sound complete sized formed data_type c b

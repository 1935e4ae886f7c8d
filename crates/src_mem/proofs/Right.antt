-- No access is wrong whose conditions hold, through a pointer and in a memory that meet the facts.
use Rattle.std.proofs.Common.{◌≡◌, ◌≢◌, ℕ, ◌+◌, ◌-◌, ◌%◌, ◌≤◌, ℤ, pos, negsuc, ◌+ℤ◌, ◌-ℤ◌, Bool, true, false, not, ◌&&◌, ◌||◌, List, [], ◌∷◌, length, length-take, take, nat_le, slice_get, Some, refl, ap, sym, subst, ◌∙◌, arith}
use Rattle.std.specs.Prelude.{slice_index_or, is_some, ◌==◌}
use lib.Pointwise.{pointwise_long}
use native.Mathlib.Nat.{mod-eq_of_lt}
use Rattle.std.proofs.lemmas.Bool.Decides.{nat_tests}
use Rattle.std.proofs.lemmas.List.{length-replicate}
use Rattle.flat_mem.specs.Bytes.{number}
use Rattle.cc_base.specs.declared.number.TypeId.{TypeId}
use Rattle.cc_base.specs.declared.number.NodeId.{NodeId}
use Rattle.cc_base.specs.declared.kind.Kind.{Kind}
use Rattle.cc_base.specs.declared.kind.Kind.TheVariants.{Safe, Seq, Rtti, Wild}
use Rattle.c_types.specs.declared.shape.TypeShape.{TypeShape}
use Rattle.c_types.specs.declared.shape.TypeShape.TheVariants as shape
use Rattle.c_types.specs.Table.{Table, shape_at, IsComplete, is_complete_entry, members_at, descend, is_function, is_function_shape}
use Rattle.c_types.specs.Layouts.{layout_of, layout_of_shape, layout_step, no_layout, size_of}
use Rattle.integers.specs.Words.{residue}
use Rattle.c_types.specs.Cells.{Cell, raw, pointer, mixed, incomplete, cells_at, cells_step, cells_of_shape, all_alike, begins, alike, Relation, pointer_cells}
use Rattle.c_types.specs.Equality.{cells_of, physically_equal, begins_with, repeated_cell}
use Rattle.c_types.specs.Flows.{CellsAgree}
use Rattle.src_mem.specs.Pointers.{Location, Pointer, Null, Number, At, Function, is_null, distance}
use Rattle.src_mem.specs.Memory.{Object, Memory, size_of_object, holds_pointer_at}
use Rattle.src_mem.specs.State.{Setting}
use Rattle.src_mem.specs.Checks.{Condition, NotNull, InBounds, InObject, holds, fits_between}
use Rattle.kind_sites.specs.declared.site.Site.{Site}
use Rattle.src_mem.specs.Outlines.{Outline, Life, LivesAt, outlines_of, lives_of}
use Rattle.src_mem.specs.Facts.{IsSoundObject, IsSafeAt, IsTypedAt, IsSequenceAt, IsWildAt, IsFunctionOf, IsHeldIn, HoldType, RepeatType, RepeatAlike}
use Rattle.src_mem.proofs.Outlines.{has-outline}
use Rattle.src_mem.proofs.Spots.{IsRight}

first_true : (a b : Bool) → (a && b) ≡ true → a ≡ true
first_true true b h = refl
first_true false b h = h

pub second_true : (a b : Bool) → (a && b) ≡ true → b ≡ true
second_true true b h = h
second_true false b h = absurd (cc (h))

-- m bytes through a pointer of this kind may be touched
pub record MayTouch (kind : Kind) (objects : List Object) (p : Pointer) (m : ℕ) : Type 0 where
  pub location : Location
  pub pointer : p ≡ At location
  pub object : Object
  pub at : ℕ
  pub right : IsRight kind objects location m object at

-- what is in the part and in the object may be touched
pub in_part : (kind : Kind) → (kind ≢ Wild) → (objects : List Object) (l : Location) (m : ℕ) (o : Object) (at : ℕ)
    → slice_get objects l.object ≡ Some o → o.live ≡ true → l.offset ≡ pos at → l.part.low ≤ at → at + m ≤ l.part.high → l.part.high ≤ o.size
    → IsRight kind objects l m o at
in_part Safe n objects l m o at found live offset low high inside = record { found = found; live = live; offset = offset; low = low; high = grind arith }
in_part Seq n objects l m o at found live offset low high inside = record { found = found; live = live; offset = offset; low = low; high = grind arith }
in_part Rtti n objects l m o at found live offset low high inside = record { found = found; live = live; offset = offset; low = low; high = grind arith }
in_part Wild n objects l m o at found live offset low high inside = absurd (n refl)

in_outline : (kind : Kind) → (kind ≢ Wild) → (memory : Memory) (depth : ℕ) (l : Location) (m : ℕ) (x : Outline) (at : ℕ)
    → slice_get (outlines_of memory) l.object ≡ Some x → LivesAt (lives_of memory) depth l.object → l.offset ≡ pos at → l.part.low ≤ at → at + m ≤ l.part.high → l.part.high ≤ x.size
    → MayTouch kind memory.objects (At l) m
in_outline kind n memory depth l m x at found lives offset low high inside =
    let o = has-outline memory depth l.object x found lives in
    let size : o.object.size ≡ x.size = ap (λ (y : Outline). y.size) o.is in record {
      location = l;
      pointer = refl;
      object = o.object;
      at = at;
      right = in_part kind n memory.objects l m o.object at o.found o.live offset low high (omega (arith, inside, size));
    }

pub safe≢wild : Safe ≢ Wild
safe≢wild e = absurd (cc (e))

pub seq≢wild : Seq ≢ Wild
seq≢wild e = absurd (cc (e))

pub rtti≢wild : Rtti ≢ Wild
rtti≢wild e = absurd (cc (e))

-- a SAFE pointer to a data type that isn't null may touch as many bytes as the type has cells
pub safe_touches : (w : Setting) (memory : Memory) (depth m : ℕ) (t : TypeId) (p : Pointer)
    → IsHeldIn w memory depth Safe t p → is_function w.table t ≡ false → not (is_null p) ≡ true → m ≤ length (cells_of w.table t) → MayTouch Safe memory.objects p m
safe_touches w memory depth m t Null held data_type not_null room = absurd (cc (not_null))
safe_touches w memory depth m t (Number n) held data_type not_null room = absurd held.value
safe_touches w memory depth m t (Function f) held data_type not_null room = absurd (function_is_data held.value)
  where
    function_is_data : IsFunctionOf w t f → ⊥
    function_is_data is = absurd (cc (data_type, is.type))
safe_touches w memory depth m t (At l) held data_type not_null room = of held.value held.reaches
  where
    of : IsSafeAt w (outlines_of memory) t l → LivesAt (lives_of memory) depth l.object → MayTouch Safe memory.objects (At l) m
    of v lives = in_outline Safe safe≢wild memory depth l m v.object v.at v.located.found lives v.stands.offset v.stands.low (let h = v.holds.room in omega (arith, h, room)) v.located.inside

-- m bytes that fit between two ends begin at a byte
pub record Fits (low high m : ℕ) (z : ℤ) : Type 0 where
  pub at : ℕ
  pub offset : z ≡ pos at
  pub low_end : low ≤ at
  pub high_end : at + m ≤ high

fits : (low high m : ℕ) (z : ℤ) → fits_between low high z m ≡ true → Fits low high m z
fits low high m (pos at) h = record {
  at = at;
  offset = refl;
  low_end = (let e : nat_le low at ≡ true = first_true (nat_le low at) (nat_le (at + m) high) h in grind (arith, nat_tests));
  high_end = (let e : nat_le (at + m) high ≡ true = second_true (nat_le low at) (nat_le (at + m) high) h in grind (arith, nat_tests));
}
fits low high m (negsuc n) h = absurd (cc (h))

-- a SEQ pointer with its bounds
pub sequence_touches : (w : Setting) (memory : Memory) (depth m : ℕ) (t : TypeId) (p : Pointer)
    → IsHeldIn w memory depth Seq t p → holds w memory (InBounds m p) ≡ true → MayTouch Seq memory.objects p m
sequence_touches w memory depth m t Null held bounds = absurd (cc (bounds))
sequence_touches w memory depth m t (Number n) held bounds = absurd (cc (bounds))
sequence_touches w memory depth m t (Function f) held bounds = absurd (cc (bounds))
sequence_touches w memory depth m t (At l) held bounds = of held.value held.reaches (fits l.part.low l.part.high m l.offset bounds)
  where
    of : IsSequenceAt w (outlines_of memory) t l → LivesAt (lives_of memory) depth l.object → Fits l.part.low l.part.high m l.offset → MayTouch Seq memory.objects (At l) m
    of v lives f = in_outline Seq seq≢wild memory depth l m v.object f.at v.located.found lives f.offset f.low_end f.high_end v.located.inside

-- a WILD pointer in its object
wild_touches : (w : Setting) (memory : Memory) (depth m : ℕ) (t : TypeId) (p : Pointer)
    → IsHeldIn w memory depth Wild t p → holds w memory (InObject m p) ≡ true → MayTouch Wild memory.objects p m
wild_touches w memory depth m t Null held bounds = absurd (cc (bounds))
wild_touches w memory depth m t (Number n) held bounds = absurd (cc (bounds))
wild_touches w memory depth m t (Function f) held bounds = absurd (cc (bounds))
wild_touches w memory depth m t (At l) held bounds = of held.value held.reaches (fits 0 (size_of_object (slice_get memory.objects l.object)) m l.offset bounds)
  where
    of : IsWildAt w (outlines_of memory) l → LivesAt (lives_of memory) depth l.object → Fits 0 (size_of_object (slice_get memory.objects l.object)) m l.offset → MayTouch Wild memory.objects (At l) m
    of v lives f = let o = has-outline memory depth l.object v.object v.found lives in record {
      location = l;
      pointer = refl;
      object = o.object;
      at = f.at;
      right = record {
        found = o.found;
        live = o.live;
        offset = f.offset;
        low = omega arith;
        high = subst (λ r. f.at + m ≤ size_of_object r) o.found f.high_end;
      };
    }

-- what begins with a type has as many cells
longer : (table : Table) (made t : TypeId) → begins_with table made t ≡ true → length (cells_of table t) ≤ length (cells_of table made)
longer table made t h =
    let long = pointwise_long (alike (physically_equal table)) (take (length (cells_of table t)) (cells_of table made)) (cells_of table t)
    (second_true (not (is_function table t)) (all_alike (physically_equal table) (take (length (cells_of table t)) (cells_of table made)) (cells_of table t))
    (second_true (not (is_function table made)) _ h)) in
    let l = length-take (length (cells_of table t)) (cells_of table made) in
    omega (arith, long, l)

-- an RTTI pointer that isn't null
pub typed_touches : (w : Setting) (memory : Memory) (depth m : ℕ) (t : TypeId) (p : Pointer)
    → IsHeldIn w memory depth Rtti t p → not (is_null p) ≡ true → m ≤ length (cells_of w.table t) → MayTouch Rtti memory.objects p m
typed_touches w memory depth m t Null held not_null room = absurd (cc (not_null))
typed_touches w memory depth m t (Number n) held not_null room = absurd held.value
typed_touches w memory depth m t (Function f) held not_null room = absurd held.value
typed_touches w memory depth m t (At l) held not_null room = of held.value held.reaches
  where
    of : IsTypedAt w (outlines_of memory) t l → LivesAt (lives_of memory) depth l.object → MayTouch Rtti memory.objects (At l) m
    of v lives = in_outline Rtti rtti≢wild memory depth l m v.object v.at v.located.found lives v.stands.offset v.stands.low
        (let h = v.holds.room in let k = longer w.table l.made t v.covers.begins in omega (arith, h, k, room)) v.located.inside

-- the first of the conditions of each access, by kind
abbrev pub bounds_of : Kind → ℕ → Pointer → Condition
bounds_of Safe m p = NotNull p
bounds_of Rtti m p = NotNull p
bounds_of Seq m p = InBounds m p
bounds_of Wild m p = InObject m p

-- m bytes through a pointer to a data type of as many cells may be touched, where the first condition holds
pub touches : (w : Setting) (memory : Memory) (depth m : ℕ) (kind : Kind) (t : TypeId) (p : Pointer)
    → IsHeldIn w memory depth kind t p → is_function w.table t ≡ false → m ≤ length (cells_of w.table t)
    → holds w memory (bounds_of kind m p) ≡ true → MayTouch kind memory.objects p m
touches w memory depth m Safe t p held data_type room h = safe_touches w memory depth m t p held data_type h room
touches w memory depth m Rtti t p held data_type room h = typed_touches w memory depth m t p held h room
touches w memory depth m Seq t p held data_type room h = sequence_touches w memory depth m t p held h
touches w memory depth m Wild t p held data_type room h = wild_touches w memory depth m t p held h

-- Scalars have as many cells as bytes

pub integer_cells : (table : Table) (t : TypeId) (bytes : ℕ) (signed : Bool) → shape_at table t ≡ shape.Integer bytes signed → length (cells_of table t) ≡ bytes
unfolding cells_at
integer_cells table t bytes signed e =
    ap (λ s. length (cells_of_shape table (physically_equal table) (descend (cells_step table (physically_equal table)) [] (length table)) t s (members_at table t))) e
    ∙ length-replicate bytes raw

pub pointer_cells_are : (table : Table) (t : TypeId) (n : NodeId) (u : TypeId) → shape_at table t ≡ shape.Pointer n u → cells_of table t ≡ pointer_cells n u
unfolding cells_at
pointer_cells_are table t n u e =
    ap (λ s. cells_of_shape table (physically_equal table) (descend (cells_step table (physically_equal table)) [] (length table)) t s (members_at table t)) e

pub no_function : (table : Table) (t : TypeId) (s : TypeShape) → shape_at table t ≡ s → is_function_shape s ≡ false → is_function table t ≡ false
no_function table t s e h = ap is_function_shape e ∙ h

-- Words that hold pointers

-- a cell that agrees with a pointer's first one is a pointer's first one
pub record IsFirst (c : Cell) : Type 0 where
  pub node : NodeId
  pub to : TypeId
  pub is : c ≡ pointer node to 0

pub first_of : (w : Setting) (c d : Cell) → CellsAgree w.table w.kind c d → IsFirst d → IsFirst c
first_of w raw raw a f = f
first_of w raw (pointer m u j) a f = absurd a
first_of w raw (mixed u j) a f = absurd a
first_of w raw (incomplete u) a f = absurd a
first_of w (pointer n t i) raw a f = absurd a
first_of w (pointer n t i) (pointer m u j) a f = record { node = n; to = t; is = ap (λ k. pointer n t k) (a.0 ∙ cc (f.is)) }
first_of w (pointer n t i) (mixed u j) a f = absurd a
first_of w (pointer n t i) (incomplete u) a f = absurd a
first_of w (mixed t i) raw a f = absurd a
first_of w (mixed t i) (pointer m u j) a f = absurd a
first_of w (mixed t i) (mixed u j) a f = absurd (cc (f.is))
first_of w (mixed t i) (incomplete u) a f = absurd a
first_of w (incomplete t) raw a f = absurd a
first_of w (incomplete t) (pointer m u j) a f = absurd a
first_of w (incomplete t) (mixed u j) a f = absurd a
first_of w (incomplete t) (incomplete u) a f = absurd (cc (f.is))

-- a pointer begins at the byte
pub record Begins (cells : List Cell) (at : ℕ) : Type 0 where
  pub cell : Cell
  pub found : slice_get cells at ≡ Some cell
  pub first : IsFirst cell

-- what holds a type whose first cell is a pointer's
pub holds_first : (w : Setting) (cells : List Cell) (at high : ℕ) (t : TypeId) → HoldType w cells at high t → Begins (cells_of w.table t) 0 → Begins cells at
holds_first w cells at high t h b = of (h.agree 0 b.cell b.found)
  where
    of : ((c : Cell) × (slice_get cells (at + 0) ≡ Some c) × CellsAgree w.table w.kind c b.cell) → Begins cells at
    of a = record { cell = a.0; found = subst (λ k. slice_get cells k ≡ Some a.0) (omega arith) a.1; first = first_of w a.0 b.cell a.2 b.first }

-- what begins with a type whose first cell is a pointer's
pub begins_first : (E : Relation) (xs ys : List Cell) → begins E xs ys ≡ true → Begins ys 0 → Begins xs 0
begins_first E xs [] h b = absurd (cc (b.found))
begins_first E [] (y ∷ ys) h b = absurd (cc (h))
begins_first E (x ∷ xs) (y ∷ ys) h b = record { cell = x; found = refl; first = of x y (first_true (alike E x y) _ h) y_is }
  where
    y_is : IsFirst y
    y_is = record { node = b.first.node; to = b.first.to; is = (let e : y ≡ b.cell = cc (b.found) in e ∙ b.first.is) }

    of : (c d : Cell) → alike E c d ≡ true → IsFirst d → IsFirst c
    of raw raw e f = f
    of raw (pointer m u j) e f = absurd (cc (e))
    of raw (mixed u j) e f = absurd (cc (e))
    of raw (incomplete u) e f = absurd (cc (e))
    of (pointer n t i) raw e f = absurd (cc (e))
    of (pointer n t i) (pointer m u j) e f = record {
      node = n;
      to = t;
      is = (let k : (i == j) ≡ true = first_true (i == j) (E t u) e in let l : j ≡ 0 = cc (f.is) in let g : i ≡ 0 = grind (arith, nat_tests) in ap (λ n0. pointer n t n0) g);
    }
    of (pointer n t i) (mixed u j) e f = absurd (cc (e))
    of (pointer n t i) (incomplete u) e f = absurd (cc (e))
    of (mixed t i) raw e f = absurd (cc (e))
    of (mixed t i) (pointer m u j) e f = absurd (cc (e))
    of (mixed t i) (mixed u j) e f = absurd (cc (f.is))
    of (mixed t i) (incomplete u) e f = absurd (cc (e))
    of (incomplete t) raw e f = absurd (cc (e))
    of (incomplete t) (pointer m u j) e f = absurd (cc (e))
    of (incomplete t) (mixed u j) e f = absurd (cc (e))
    of (incomplete t) (incomplete u) e f = absurd (cc (f.is))

-- a type that begins with one whose first cell is a pointer's
pub made_begins : (table : Table) (made t : TypeId) → begins_with table made t ≡ true → Begins (cells_of table t) 0 → Begins (cells_of table made) 0
made_begins table made t h b =
    begins_first (physically_equal table) (cells_of table made) (cells_of table t)
    (second_true (not (is_function table t)) (begins (physically_equal table) (cells_of table made) (cells_of table t)) (second_true (not (is_function table made)) _ h)) b

-- a word where a pointer begins is zero, or a pointer is stored there
pub begins_holds : (w : Setting) (sites : List Site) (outlines : List Outline) (lives : List Life) (o : Object) (at : ℕ) → IsSoundObject w sites outlines lives o → w.kind o.node ≢ Wild → Begins o.cells at → holds_pointer_at at o ≡ true
begins_holds w sites outlines lives o at sound untagged b =
    by (is_some (o.pointers at)) (sound.zeros untagged at b.first.node b.first.to (subst (λ c. slice_get o.cells at ≡ Some c) b.first.is b.found))
  where
    by : (s : Bool) → number 8 o.bytes at ≡ 0 → (s || (number 8 o.bytes at == 0)) ≡ true
    by true e = refl
    by false e = ap (λ n. n == 0) e

pub pointer_begins : (table : Table) (t : TypeId) (n : NodeId) (u : TypeId) → shape_at table t ≡ shape.Pointer n u → Begins (cells_of table t) 0
pointer_begins table t n u e = record {
  cell = pointer n u 0;
  found = ap (λ cs. slice_get cs 0) (pointer_cells_are table t n u e);
  first = record { node = n; to = u; is = refl };
}

-- SEQ pointers to pointers

-- a part that is a repetition again and again begins one
pub filled_part : {w : Setting} {cells : List Cell} {low high : ℕ} {t : TypeId} → RepeatAlike w cells low high t → RepeatType w cells low high t
filled_part {cells = cells} {low = low} {high = high} h = record {
  agree = λ i l.
      let e : i % (high - low) ≡ i = mod-eq_of_lt (omega (arith, l)) in
      let x = h.agree (omega (arith, l)) i in (x.0, ap (λ k. slice_get cells (low + k)) (sym e) ∙ x.1, x.2);
}

pub distance_is : (low at : ℕ) → low ≤ at → pos at -ℤ pos low ≡ pos (at - low)
distance_is low at h = grind (arith, nat_tests)

pub pointer_size : (table : Table) (t : TypeId) (n : NodeId) (u : TypeId) → shape_at table t ≡ shape.Pointer n u → size_of table t ≡ 8
unfolding layout_of
pointer_size table t n u e = ap (λ s. (layout_of_shape (descend (layout_step table) no_layout (length table)) s (members_at table t)).size) e

same_repeated : (cs : List Cell) (i j : ℕ) → length cs ≡ 8 → i % 8 ≡ j % 8 → repeated_cell cs i ≡ repeated_cell cs j
same_repeated cs i j l e =
    ap (λ k. slice_index_or cs (i % k) raw) l ∙ ap (λ k. slice_index_or cs k raw) e ∙ ap (λ k. slice_index_or cs (j % k) raw) (sym l)

pub sequence_begins : (w : Setting) (outlines : List Outline) (t : TypeId) (n : NodeId) (u : TypeId) (l : Location) (v : IsSequenceAt w outlines t l) (at : ℕ)
    → shape_at w.table t ≡ shape.Pointer n u → l.offset ≡ pos at → l.part.low ≤ at → at + 8 ≤ l.part.high → Begins v.object.cells at
sequence_begins w outlines t n u l v at e offset low high = of ((filled_part (v.filled complete)).agree (at - l.part.low) (omega (arith, low, high)))
  where
    cs : List Cell
    cs = cells_of w.table t

    complete : IsComplete w.table t
    complete = ap (λ s. is_complete_entry s (members_at w.table t)) e

    long : length cs ≡ 8
    long = ap length (pointer_cells_are w.table t n u e)

    steps : residue (distance l +ℤ pos 0) (size_of w.table t) % 8 ≡ (at - l.part.low) % 8
    steps =
        ap (λ k. residue (distance l +ℤ pos 0) k % 8) (pointer_size w.table t n u e)
        ∙ ap (λ z. residue ((z -ℤ pos l.part.low) +ℤ pos 0) 8 % 8) offset
        ∙ ap (λ z. residue (z +ℤ pos 0) 8 % 8) (distance_is l.part.low at low)
        ∙ omega arith

    start : IsFirst (repeated_cell cs 0)
    start = record { node = n; to = u; is = ap (λ c. repeated_cell c 0) (pointer_cells_are w.table t n u e) }

    here : IsFirst (repeated_cell cs (at - l.part.low))
    here = subst IsFirst (same_repeated cs (residue (distance l +ℤ pos 0) (size_of w.table t)) (at - l.part.low) long steps)
        (first_of w (repeated_cell cs (residue (distance l +ℤ pos 0) (size_of w.table t))) (repeated_cell cs 0) ((v.shifted complete).agree 0) start)

    of : ((c : Cell) × (slice_get v.object.cells (l.part.low + (at - l.part.low)) ≡ Some c) × CellsAgree w.table w.kind c (repeated_cell cs (at - l.part.low))) → Begins v.object.cells at
    of a = record {
      cell = a.0;
      found = subst (λ k. slice_get v.object.cells k ≡ Some a.0) (omega (arith, low)) a.1;
      first = first_of w a.0 (repeated_cell cs (at - l.part.low)) a.2 here;
    }

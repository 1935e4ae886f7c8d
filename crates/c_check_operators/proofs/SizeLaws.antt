-- The size of what is not complete.
use Rattle.std.proofs.Common.{◌≡◌, ◌≤◌, ℕ, zero, suc, get_or, arith, false, true≢false, List, [], ◌∷◌, length, refl, ap}
use Rattle.cc_base.specs.declared.number.TypeId.{TypeId}
use Rattle.c_types.specs.declared.layout.Layout.{Layout}
use Rattle.c_types.specs.declared.shape.TypeShape.{TypeShape}
use Rattle.c_types.specs.declared.shape.TypeShape.TheVariants.{Void, Integer, Pointer, Array, Function, Struct, Union}
use Rattle.c_types.specs.Table.{Table, entry_at, shape_at, members_at, is_complete, is_complete_entry, void_entry}
use Rattle.c_types.specs.Layouts.{layout_of, layout_of_shape, size_of}

no_size : (f : TypeId → Layout) (x : TypeShape) (ms : List TypeId) → is_complete_entry x ms ≡ false → (layout_of_shape f x ms).size ≡ 0
no_size f Void ms h = refl
no_size f (Integer b s) ms h = absurd (true≢false h)
no_size f (Pointer n t) ms h = absurd (true≢false h)
no_size f (Array t n) ms h = absurd (true≢false h)
no_size f (Function ps r) ms h = refl
no_size f (Struct n) [] h = refl
no_size f (Struct n) (m ∷ ms) h = absurd (true≢false h)
no_size f (Union n) [] h = refl
no_size f (Union n) (m ∷ ms) h = absurd (true≢false h)

-- what is not complete has no size
pub incomplete_size : (T : Table) (t : TypeId) → is_complete (entry_at T t) ≡ false → size_of T t ≡ 0
unfolding layout_of
incomplete_size T t h = no_size _ (shape_at T t) (members_at T t) h

no_entry : (T : Table) (i : ℕ) → length T ≤ i → get_or T i void_entry ≡ void_entry
no_entry [] i h = refl
no_entry (e ∷ T) zero h = absurd (omega arith)
no_entry (e ∷ T) (suc i) h = no_entry T i (omega arith)

-- nor has what is no type
pub untyped_size : (T : Table) (t : TypeId) → length T ≤ t.0 → size_of T t ≡ 0
untyped_size T t h = incomplete_size T t (ap is_complete (no_entry T t.0 h))

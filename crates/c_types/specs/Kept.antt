use Rattle.std.specs.Prelude.{◌≡◌, ◌⊎◌, ℕ, ◌<◌, List, [], ◌∷◌, ◌++◌, map, length, take, slice_index_or}
use Rattle.std.specs.List.{Contains}
use Rattle.cc_base.specs.declared.number.TypeId.{TypeId}
use Rattle.c_types.specs.declared.kept.FieldPlace.{FieldPlace}
use Rattle.c_types.specs.declared.kept.Kept.{Kept}
use Rattle.c_types.specs.declared.layout.Layout.{Layout}
use Rattle.c_types.specs.declared.shape.TypeShape.{TypeShape}
use Rattle.c_types.specs.Table.{Table, Entry, IsType, shape_at}
use Rattle.c_types.specs.Layouts.{layout_of, offset_of, offset_of_shape}
use Rattle.c_types.specs.PointerCounts.{pointers_in}
use Rattle.c_types.specs.Sound.{IsWellFormed}
use Rattle.c_types.specs.Sameness.{canonical}

-- How the struct `Types` keeps a table: beside each shape the layout, the number of pointers, the members' places and the first type that is the same, and beside
-- each canonical shape the first type that has it.

abbrev pub KeptEntry : Type 0
KeptEntry = TypeShape × Kept

abbrev pub entry_of : KeptEntry → Entry
entry_of p = record { shape = p.0; members = map (λ f. f.ty) p.1.fields.items }

abbrev pub table_of : List KeptEntry → Table
table_of entries = map entry_of entries

-- the layout, the number of pointers and the offsets that are kept of t are the definitions'
pub record IsKeptOf (table : Table) (t : TypeId) (kept : Kept) : Type 0 where
  pub layout : kept.layout ≡ layout_of table t
  pub pointers : kept.pointers ≡ pointers_in table t
  pub offsets : (i : ℕ) (d : FieldPlace) → i < length kept.fields.items
      → (slice_index_or kept.fields.items i d).offset ≡ offset_of table t i

-- the places of these members of a struct or union
pub record ArePlaces (of_part : TypeId → Layout) (shape : TypeShape) (members : List TypeId) (fields : List FieldPlace) : Type 0 where
  pub types : map (λ f. f.ty) fields ≡ members
  pub offsets : (i : ℕ) (d : FieldPlace) (e : TypeId) → i < length fields
      → (slice_index_or fields i d).offset ≡ offset_of_shape shape (map of_part (take i members)) (of_part (slice_index_or members i e))

-- a canonical shape with the first type that has it
abbrev pub KnownShape : Type 0
KnownShape = TypeShape × TypeId

-- the first types, in the order of the table
abbrev pub firsts_of : List KeptEntry → List TypeId
firsts_of entries = map (λ p. p.1.first) entries

-- the first type that is the same as t
abbrev pub first_at : List TypeId → TypeId → TypeId
first_at firsts t = slice_index_or firsts t.0 t

abbrev pub canonical_at : Table → List TypeId → TypeId → TypeShape
canonical_at table firsts t = canonical (first_at firsts) (shape_at table t)

-- the first types are right: two types have one first type exactly where their canonical shapes are equal
pub record AreFirst (table : Table) (firsts : List TypeId) (known : List KnownShape) : Type 0 where
  pub each : (t : TypeId) → IsType table t → Contains known (canonical_at table firsts t, first_at firsts t)
  pub shaped : (shape : TypeShape) (t : TypeId) → Contains known (shape, t) → IsType table t × (canonical_at table firsts t ≡ shape)
  pub unique : (shape : TypeShape) (t u : TypeId) → Contains known (shape, t) → Contains known (shape, u) → t ≡ u

-- the answer of a search for a canonical shape, which puts t beside one that is not known
abbrev pub IsFound : List KnownShape → List KnownShape → TypeShape → TypeId → TypeId → Type 0
IsFound old new shape t first =
    (Contains old (shape, first) × (new ≡ old))
    ⊎ (((u : TypeId) → Contains old (shape, u) → ⊥) × (first ≡ t) × (new ≡ old ++ (shape, t) ∷ []))

pub record IsSound (entries : List KeptEntry) (known : List KnownShape) : Type 0 where
  pub formed : IsWellFormed (table_of entries)
  pub kept : (i : ℕ) (d : KeptEntry) → i < length entries → IsKeptOf (table_of entries) (record { 0 = i }) (slice_index_or entries i d).1
  pub first : AreFirst (table_of entries) (firsts_of entries) known

-- How the nodes are made: the types come in the order of their sizes, and the first of each class stands for it.
use Rattle.std.specs.Prelude.{◌≡◌, ◌⊎◌, ℕ, suc, ◌<◌, ◌≤◌, Bool, true, false, List, [], ◌∷◌, ◌++◌, length, slice_get, slice_index, slice_set, Some}
use Rattle.cc_base.specs.declared.number.TypeId.{TypeId}
use Rattle.cc_base.specs.declared.number.NodeId.{NodeId}
use Rattle.cc_base.specs.declared.kind.Kind.{Kind}
use Rattle.c_types.specs.Table.{Table, IsType, is_function}
use Rattle.c_types.specs.Equality.{cells_of, physically_equal}
use Rattle.c_types.specs.Flows.{IsOfOneClass, Covers}
use Rattle.rtti_nodes.specs.declared.ordering.Sized.{Sized}
use Rattle.rtti_nodes.specs.declared.joining.Classes.{Classes}

-- a data type of the table
pub record IsData (table : Table) (t : TypeId) : Type 0 where
  pub typed : IsType table t
  pub plain : is_function table t ≡ false

-- p is the number of the last of the first n types that t covers, from 1, or 0 where it covers none of them
pub record IsLastCovered (table : Table) (kind : NodeId → Kind) (firsts : List TypeId) (n : ℕ) (t : TypeId) (p : ℕ) : Type 0 where
  pub within : p ≤ n
  pub covered : (i : ℕ) (u : TypeId) → p ≡ suc i → slice_get firsts i ≡ Some u → Covers table kind t u
  pub behind : (i : ℕ) (u : TypeId) → p ≤ i → i < n → slice_get firsts i ≡ Some u → Covers table kind t u → ⊥

-- the first types of classes, in the order of their sizes, and the parents of their nodes
pub record AreFirsts (table : Table) (kind : NodeId → Kind) (firsts : List TypeId) (parents : List ℕ) : Type 0 where
  pub count : length parents ≡ length firsts
  pub types : (i : ℕ) (t : TypeId) → slice_get firsts i ≡ Some t → IsData table t
  pub rising : (i j : ℕ) (t u : TypeId) → i ≤ j → slice_get firsts i ≡ Some t → slice_get firsts j ≡ Some u
      → length (cells_of table t) ≤ length (cells_of table u)
  pub apart : (i j : ℕ) (t u : TypeId) → i < j → slice_get firsts i ≡ Some t → slice_get firsts j ≡ Some u → IsOfOneClass table kind t u → ⊥
  pub parent : (i : ℕ) (t : TypeId) → slice_get firsts i ≡ Some t → IsLastCovered table kind firsts i t (slice_index parents i)

-- the number of t is that of the first type of its class
pub record IsNumbered (table : Table) (kind : NodeId → Kind) (firsts : List TypeId) (numbers : List ℕ) (t : TypeId) : Type 0 where
  pub place : ℕ
  pub first : TypeId
  pub found : slice_get firsts place ≡ Some first
  pub number : slice_index numbers t.0 ≡ suc place
  pub class : IsOfOneClass table kind t first

-- a type with the number of its cells
abbrev pub sized : Table → TypeId → Sized
sized table t = record { size = length (cells_of table t); ty = t }

pub record IsSizedType (table : Table) (s : Sized) : Type 0 where
  pub right : IsData table s.ty
  pub size : s.size ≡ length (cells_of table s.ty)

-- whether t is physically equal to the type with the number `last`, from 1
pub record IsLast (table : Table) (firsts : List TypeId) (last : ℕ) (t : TypeId) (result : Bool) : Type 0 where
  pub yes : result ≡ true → (i : ℕ) × (u : TypeId) × (last ≡ suc i) × (slice_get firsts i ≡ Some u) × (physically_equal table t u ≡ true)
  pub no : result ≡ false → (i : ℕ) (u : TypeId) → last ≡ suc i → slice_get firsts i ≡ Some u → physically_equal table t u ≡ false

-- The next type is put into its class: that of the last of the first types that it covers, or a new one. `last` is the number of that type.
pub record IsJoined (table : Table) (t : TypeId) (last : ℕ) (old new : Classes) : Type 0 where
  pub place : ℕ
  pub first : TypeId
  pub found : slice_get old.firsts.items place ≡ Some first
  pub is_last : last ≡ suc place
  pub equal : physically_equal table t first ≡ true
  pub firsts : new.firsts.items ≡ old.firsts.items
  pub parents : new.parents.items ≡ old.parents.items
  pub numbers : new.numbers.items ≡ slice_set old.numbers.items t.0 last

pub record IsBegun (table : Table) (t : TypeId) (last : ℕ) (old new : Classes) : Type 0 where
  pub other : (i : ℕ) (u : TypeId) → last ≡ suc i → slice_get old.firsts.items i ≡ Some u → physically_equal table t u ≡ false
  pub firsts : new.firsts.items ≡ old.firsts.items ++ t ∷ []
  pub parents : new.parents.items ≡ old.parents.items ++ last ∷ []
  pub numbers : new.numbers.items ≡ slice_set old.numbers.items t.0 (suc (length old.firsts.items))

pub record IsAdded (table : Table) (kind : NodeId → Kind) (t : TypeId) (old new : Classes) : Type 0 where
  pub last : ℕ
  pub covered : IsLastCovered table kind old.firsts.items (length old.firsts.items) t last
  pub put : IsJoined table t last old new ⊎ IsBegun table t last old new

-- t is one of the first n types, and has the number i + 1
pub record IsMade (ordered : List Sized) (n : ℕ) (numbers : List ℕ) (i : ℕ) (t : TypeId) : Type 0 where
  pub place : ℕ
  pub one : Sized
  pub before : place < n
  pub found : slice_get ordered place ≡ Some one
  pub is : one.ty ≡ t
  pub number : slice_index numbers t.0 ≡ suc i

-- what is so after the first n types
pub record AreSorted (table : Table) (kind : NodeId → Kind) (ordered : List Sized) (n : ℕ) (firsts : List TypeId) (parents numbers : List ℕ) : Type 0 where
  pub stand : AreFirsts table kind firsts parents
  pub fits : length numbers ≡ length table
  pub numbered : (i : ℕ) (s : Sized) → i < n → slice_get ordered i ≡ Some s → IsNumbered table kind firsts numbers s.ty
  pub low : (i j : ℕ) (t : TypeId) (s : Sized) → n ≤ j → slice_get firsts i ≡ Some t → slice_get ordered j ≡ Some s
      → length (cells_of table t) ≤ s.size
  pub made : (i : ℕ) (t : TypeId) → slice_get firsts i ≡ Some t → IsMade ordered n numbers i t

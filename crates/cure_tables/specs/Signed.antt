-- How function types get their signatures: the first of each class has a signature, and the others of the class have the same.
use Rattle.std.specs.Prelude.{◌≡◌, ◌⊎◌, ℕ, suc, ◌<◌, ◌≤◌, true, false, List, [], ◌∷◌, ◌++◌, length, slice_get, slice_index, slice_set, Some}
use Rattle.std.specs.List.{All}
use Rattle.cc_base.specs.declared.number.TypeId.{TypeId}
use Rattle.cc_base.specs.declared.number.NodeId.{NodeId}
use Rattle.cc_base.specs.declared.kind.Kind.{Kind}
use Rattle.c_types.specs.Table.{Table, is_function}
use Rattle.c_types.specs.Flows.{IsOfOneClass}
use Rattle.cured_code.specs.Ranges.{IsSigInRange}
use Rattle.cure_rules.specs.Functions.{bare, signature_of}
use Rattle.cure_tables.specs.declared.function_types.Signing.{Signing}

-- the type number i of the list is of the class of t
pub record IsAlikeAt (table : Table) (kind : NodeId → Kind) (firsts : List TypeId) (t : TypeId) (i : ℕ) : Type 0 where
  pub first : TypeId
  pub found : slice_get firsts i ≡ Some first
  pub class : IsOfOneClass table kind t first

-- none of them is
pub record IsNoneAlike (table : Table) (kind : NodeId → Kind) (firsts : List TypeId) (t : TypeId) : Type 0 where
  pub other : (i : ℕ) (u : TypeId) → slice_get firsts i ≡ Some u → IsOfOneClass table kind t u → ⊥

-- The next function type gets the signature of its class, or a new one.
pub record IsJoined (table : Table) (kind : NodeId → Kind) (t : TypeId) (old new : Signing) : Type 0 where
  pub place : ℕ
  pub alike : IsAlikeAt table kind old.firsts.items t place
  pub firsts : new.firsts.items ≡ old.firsts.items
  pub sigs : new.sigs.items ≡ old.sigs.items
  pub numbers : new.numbers.items ≡ slice_set old.numbers.items t.0 (suc place)

pub record IsBegun (table : Table) (kind : NodeId → Kind) (t : TypeId) (old new : Signing) : Type 0 where
  pub none : IsNoneAlike table kind old.firsts.items t
  pub firsts : new.firsts.items ≡ old.firsts.items ++ t ∷ []
  pub sigs : new.sigs.items ≡ old.sigs.items ++ signature_of table kind t ∷ []
  pub numbers : new.numbers.items ≡ slice_set old.numbers.items t.0 (suc (length old.firsts.items))

abbrev pub IsSigned : Table → (NodeId → Kind) → TypeId → Signing → Signing → Type 0
IsSigned table kind t old new = IsJoined table kind t old new ⊎ IsBegun table kind t old new

-- A function type is signed, and another one changes nothing.
pub record IsPassed (table : Table) (kind : NodeId → Kind) (t : TypeId) (old new : Signing) : Type 0 where
  pub function : is_function table t ≡ true → IsSigned table kind t old new
  pub other : is_function table t ≡ false → new ≡ old

-- t is a function type among the first n types, and has the number of the type at this place
pub record IsFirstOf (table : Table) (numbers : List ℕ) (n i : ℕ) (t : TypeId) : Type 0 where
  pub function : is_function table t ≡ true
  pub before : t.0 < n
  pub number : slice_index numbers t.0 ≡ suc i

-- t has the number of a type of its class
pub record HasNumber (table : Table) (kind : NodeId → Kind) (firsts : List TypeId) (numbers : List ℕ) (t : TypeId) : Type 0 where
  pub place : ℕ
  pub alike : IsAlikeAt table kind firsts t place
  pub number : slice_index numbers t.0 ≡ suc place

-- what is so after the first n types
pub record AreSigned (table : Table) (kind : NodeId → Kind) (n : ℕ) (state : Signing) : Type 0 where
  pub few : length state.firsts.items ≤ n
  pub count : length state.sigs.items ≡ suc (length state.firsts.items)
  pub fits : length state.numbers.items ≡ length table
  pub start : slice_get state.sigs.items 0 ≡ Some bare
  pub sigs : (i : ℕ) (t : TypeId) → slice_get state.firsts.items i ≡ Some t → slice_get state.sigs.items (suc i) ≡ Some (signature_of table kind t)
  pub firsts : (i : ℕ) (t : TypeId) → slice_get state.firsts.items i ≡ Some t → IsFirstOf table state.numbers.items n i t
  pub apart : (i j : ℕ) (t u : TypeId) → i < j → slice_get state.firsts.items i ≡ Some t → slice_get state.firsts.items j ≡ Some u → IsOfOneClass table kind t u → ⊥
  pub numbered : (t : TypeId) → t.0 < n → is_function table t ≡ true → HasNumber table kind state.firsts.items state.numbers.items t
  pub kept : All IsSigInRange state.sigs.items

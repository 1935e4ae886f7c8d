-- Names that are declared for the first time.
use Rattle.std.specs.Prelude.{◌≡◌, ℕ, false, List, Option, Some}
use Rattle.c_tree.specs.Words.{TypeNames, is_type_name}

-- there is a name, and it is no typedef name that is in force
pub record IsNew (names : TypeNames) (name : Option (List ℕ)) : Type 0 where
  pub bytes : List ℕ
  pub is_name : name ≡ Some bytes
  pub is_new : is_type_name names bytes ≡ false

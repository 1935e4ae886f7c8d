-- Which tokens a part spells.
use Rattle.std.specs.Prelude.{◌≡◌, List}
use Rattle.c_tree.specs.Symbols.{Symbol}

-- the part is one of those, and spells the tokens
pub record Spells {A : Type 0} (Is : A → Type 0) (spelling : A → List Symbol) (a : A) (s : List Symbol) : Type 0 where
  pub within : Is a
  pub spelled : s ≡ spelling a

-- What it is to break none of a list of rules, and how the parts of a construct stand to the values in a typed tree.
use Rattle.std.specs.Prelude.{◌≡◌, true, false, List, None}
use Rattle.std.specs.List.{AllZip}
use Rattle.cc_base.specs.declared.number.TypeId.{TypeId}
use Rattle.c_types.specs.Table.{Table}
use Rattle.c_tree.specs.TypedTree.{TypedExpr}
use Rattle.c_typing.specs.Conversions.{bare, takes_over}
use Rattle.c_typing.specs.Scopes.{Scopes}
use Rattle.c_typing.specs.Settled.{IsAlike}
use Rattle.c_typing.specs.Tests.{Test, Elaborated, AsAllocation, Argument, first_broken}

abbrev pub Passes : List Test → Type 0
Passes tests = first_broken tests ≡ None

-- the arguments are those of the tree, one after another
abbrev pub AreAlike : Table → List Argument → List TypedExpr → Type 0
AreAlike T list es = AllZip (λ (a : Argument) (e : TypedExpr). IsAlike T a.part (bare e)) list es

-- what is given to the type t stands in the tree as e: it is alike, or an allocation that the type takes over
pub record IsGivenAs (T : Table) (s : Scopes) (t : TypeId) (e : TypedExpr) (x : Elaborated) : Type 0 where
  pub alike : takes_over T s t e ≡ false → IsAlike T x (bare e)
  pub block : takes_over T s t e ≡ true → (w : TypedExpr) × (x ≡ AsAllocation w)

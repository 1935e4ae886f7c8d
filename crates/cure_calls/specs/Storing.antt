-- Where homes are SAFE or WILD, the lines of a prologue are those of the relation.
use Rattle.std.specs.Prelude.{ℕ, List, [], ◌∷◌, Option, Some, None}
use Rattle.cc_base.specs.declared.number.NodeId.{NodeId}
use Rattle.cc_base.specs.declared.number.TypeId.{TypeId}
use Rattle.cil_form.specs.declared.program.Parameter.{Parameter}
use Rattle.check_forms.specs.Pieces.{Piece}
use Rattle.cure_rules.specs.Known.{Whole, World, kind_of}
use Rattle.cure_rules.specs.Accesses.{IsHome}
use Rattle.cure_rules.specs.Functions.{StoresParameter, AreStored}
use Rattle.cure_instrs.specs.Cured.{CanReach}

unfoldable pub ParameterStored : World → NodeId → TypeId → ℕ → ℕ → Piece
ParameterStored w home t p n code = IsHome (kind_of w home) → StoresParameter w home t p n code

-- the home of a parameter that has a name is SAFE or WILD
abbrev pub HasHome : Whole → Option NodeId → Type 0
HasHome w None = Unit {0}
HasHome w (Some home) = IsHome (w.kind home)

abbrev pub HaveHomes : Whole → List Parameter → Type 0
HaveHomes w [] = Unit {0}
HaveHomes w (x ∷ xs) = HasHome w x.home × HaveHomes w xs

unfoldable pub ParametersStored : World → List Parameter → ℕ → ℕ → Piece
ParametersStored w ps p n code = HaveHomes w.whole ps → AreStored w ps p n code

-- what a parameter holds may be stored into its home
abbrev pub CanStore : Whole → Option NodeId → TypeId → Type 0
CanStore w None t = Unit {0}
CanStore w (Some home) t = CanReach w home t

abbrev pub CanStoreAll : Whole → List Parameter → Type 0
CanStoreAll w [] = Unit {0}
CanStoreAll w (x ∷ xs) = CanStore w x.home x.ty × CanStoreAll w xs

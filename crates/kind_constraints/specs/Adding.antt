use Rattle.std.specs.Prelude.{◌⊎◌, ◌↔◌, List}
use Rattle.std.specs.List.{Contains}
use Rattle.c_types.specs.Flows.{HeldPointer}

-- Lists that grow.

-- beside the elements of old, new has those of P and no others
abbrev pub Adds : {Y : Type 0} → (Y → Type 0) → List Y → List Y → Type 0
Adds P old new = (y : _) → Contains new y ↔ (Contains old y ⊎ P y)

-- R holds of one of the elements and y
abbrev pub OfSome : {X Y : Type 0} → List X → (X → Y → Type 0) → Y → Type 0
OfSome xs R y = (x : _) × Contains xs x × R x y

-- R holds of one of the elements and the two pointers
abbrev pub RelatedBySome : {X : Type 0} → List X → (X → HeldPointer → HeldPointer → Type 0) → HeldPointer → HeldPointer → Type 0
RelatedBySome xs R p q = (x : _) × Contains xs x × R x p q

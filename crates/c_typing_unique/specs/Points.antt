-- Points of the text: the scopes and the number of the next node. A typed tree is read from one point to another.
use Rattle.std.specs.Prelude.{◌≡◌, ℕ, ◌+◌, List, [], ◌∷◌, map}
use Rattle.cc_base.specs.declared.number.NodeId.{NodeId}
use Rattle.c_types.specs.Table.{Table}
use Rattle.c_tree.specs.Erasure.{erased, erased_place}
use Rattle.c_tree.specs.Tree as tree
use Rattle.c_tree.specs.TypedTree.{TypedExpr, TypedPlace}
use Rattle.c_tree.specs.TypedParts.{Made, nodes_made, made_by, made_by_place}
use Rattle.c_typing.specs.Scopes.{Scopes}
use Rattle.c_typing.specs.Typing.{IsTyped, IsPlace}
use Rattle.c_typing_unique.specs.Sameness.{HasOwnFunctions}

-- what is known at a point of the text, and the number of the next node
pub record Point : Type 0 where
  pub scopes : Scopes
  pub node : ℕ

abbrev pub HasOwn : Point → Type 0
HasOwn a = HasOwnFunctions a.scopes

-- numbers one after another, from a up to b
abbrev pub AreFrom : List ℕ → ℕ → ℕ → Type 0
AreFrom [] a b = b ≡ a
AreFrom (n ∷ ns) a b = (n ≡ a) × AreFrom ns (a + 1) b

abbrev pub numbers_of : List Made → List ℕ
numbers_of made = map (λ (k : NodeId). k.0) (nodes_made made)

abbrev pub Numbers : List Made → ℕ → ℕ → Type 0
Numbers made a b = AreFrom (numbers_of made) a b

-- y is a typed tree of x from the point a to the point b
abbrev pub IsReadAs : {A X : Type 0} → (A → X) → (A → List Made) → (A → Scopes → Scopes → Type 0) → X → A → Point → Point → Type 0
IsReadAs erase made typed x y a b = (erase y ≡ x) × typed y a.scopes b.scopes × Numbers (made y) a.node b.node

abbrev pub IsRead : Table → tree.Expr → TypedExpr → Point → Point → Type 0
IsRead T = IsReadAs erased made_by (IsTyped T)

abbrev pub IsReadPlace : Table → tree.Expr → TypedPlace → Point → Point → Type 0
IsReadPlace T = IsReadAs erased_place made_by_place (IsPlace T)

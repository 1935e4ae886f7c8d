-- What judging counts of the parts of a unit is what the assignments of structs in it move: step by step.
use Rattle.std.proofs.Common.{◌≡◌, false, List, [], ◌++◌, Option, Some, None, sym, subst}
use Rattle.cc_base.specs.declared.place.Place.{Place}
use Rattle.cc_base.specs.declared.number.TypeId.{TypeId}
use Rattle.c_tree.specs.Tree as tree
use Rattle.c_tree.specs.TypedTree.{TypedExpr}
use Rattle.c_tree.specs.TypedParts.{Made, type_of, made_by, made_by_optional}
use Rattle.c_typing.specs.Checking.{Constant, checked, checked_constant, checked_value}
use Rattle.c_typing.specs.Declaring.{entered, left}
use Rattle.c_typing.specs.Shapes.{integer_at}
use Rattle.c_cells_kept.specs.Counted.{Stays, Moves}
use Rattle.c_cells_kept.proofs.CellsMoved.{stays-refl, two-made, made-to, made-from, moves-none}
use Rattle.c_cells_kept.proofs.CountedWhole.{checked-moves, checked_value-moves, constant-moves}
use Rattle.c_cells_kept.proofs.StepsKept.{entered-keeps, left-keeps}
use Rattle.c_unit_typing.specs.StatementJudging.{dropped, returned, promoted_by}
use Rattle.c_unit_typing.specs.UnitJudged.{state_of, IsUnitKnown}
use Rattle.c_unit_typing.specs.UnitJudging.{UnitState, Gives, pure, lifted}
use Rattle.c_unit_typing.proofs.UnitOutcomes.{bind-gives, unless-gives, given-same, lifted-gives}
use Rattle.c_unit_limits.proofs.CountedTests.{promoted-made}

-- so much is counted from the state s to the state r
pub record UnitMoves (made : List Made) (s r : UnitState) : Type 0 where
  pub moves : Moves made (state_of s) (state_of r)

pub record UnitStays (s r : UnitState) : Type 0 where
  pub stays : Stays (state_of s) (state_of r)

pub unit-none : (s : UnitState) → UnitMoves [] s s
unit-none s = record { moves = moves-none (state_of s) }

pub unit-then : (xs ys : List Made) (s m r : UnitState) → UnitMoves xs s m → UnitMoves ys m r → UnitMoves (xs ++ ys) s r
unit-then xs ys s m r p q = record { moves = two-made xs ys (state_of s) (state_of m) (state_of r) p.moves q.moves }

-- nothing is counted before it, and nothing after it
pub unit-inside : (made : List Made) (s e q r : UnitState) → UnitStays s e → UnitMoves made e q → UnitStays q r → UnitMoves made s r
unit-inside made s e q r p m l = record {
  moves = made-to made (state_of s) (state_of q) (state_of r) l.stays (made-from made (state_of s) (state_of e) (state_of q) p.stays m.moves);
}

pub unit-still : (s : UnitState) → UnitStays s s
unit-still s = record { stays = stays-refl (state_of s) }

pub enter-stays : (b : _) (s r : UnitState) → lifted entered s ≡ Gives b r → UnitStays s r
enter-stays b s r h = record { stays = entered-keeps (state_of s) (state_of s) (stays-refl (state_of s)) b (state_of r) (lifted-gives entered b s r h).0 }

pub leave-stays : {A : Type 0} (at : Place) (a b : A) (s r : UnitState) → lifted (left at a) s ≡ Gives b r → UnitStays s r
leave-stays at a b s r h = record { stays = left-keeps at a (state_of s) (state_of s) (stays-refl (state_of s)) b (state_of r) (lifted-gives (left at a) b s r h).0 }

-- Expressions

pub value-moves : (e : tree.Expr) (v : TypedExpr) (s r : UnitState) → IsUnitKnown s → lifted (checked e) s ≡ Gives v r → UnitMoves (made_by v) s r
value-moves e v s r k h = record { moves = checked-moves e v (state_of s) (state_of r) k.known (lifted-gives (checked e) v s r h).0 }

pub switched-moves : (at : Place) (e : tree.Expr) (c : TypedExpr) (s m : UnitState) → IsUnitKnown s → lifted (checked e) s ≡ Gives c m
    → UnitMoves (made_by (promoted_by at c (integer_at m.table (type_of c)))) s m
switched-moves at e c s m k h = subst (λ (made : List Made). UnitMoves made s m) (sym (promoted-made at c (integer_at m.table (type_of c)))) (value-moves e c s m k h)

pub dropped-moves : (e : Option tree.Expr) (v : Option TypedExpr) (s r : UnitState) → IsUnitKnown s → dropped e s ≡ Gives v r → UnitMoves (made_by_optional v) s r
unfolding dropped
dropped-moves None v s r k h = given-same (λ (w : Option TypedExpr) (q : UnitState). UnitMoves (made_by_optional w) s q) None v s r h (unit-none s)
dropped-moves (Some e) v s r k h =
    let one = bind-gives (lifted (checked e) s) (λ w. pure (Some w)) v r h in
    given-same (λ (w : Option TypedExpr) (q : UnitState). UnitMoves (made_by_optional w) s q) (Some one.0) v one.1 r one.3 (value-moves e one.0 s one.1 k one.2)

pub returned-moves : (at : Place) (t : TypeId) (e : Option tree.Expr) (v : Option TypedExpr) (s r : UnitState) → IsUnitKnown s → returned at t e s ≡ Gives v r
    → UnitMoves (made_by_optional v) s r
unfolding returned
returned-moves at t None v s r k h =
    let go = unless-gives _ (pure {A = Option TypedExpr} None) s v r h in
    given-same (λ (w : Option TypedExpr) (q : UnitState). UnitMoves (made_by_optional w) s q) None v s r go.1 (unit-none s)
returned-moves at t (Some e) v s r k h =
    let one = bind-gives (lifted (checked_value t at false e) s) (λ w. pure (Some w)) v r h in
    let l = lifted-gives (checked_value t at false e) one.0 s one.1 one.2 in
    given-same (λ (w : Option TypedExpr) (q : UnitState). UnitMoves (made_by_optional w) s q) (Some one.0) v one.1 r one.3
    (record { moves = checked_value-moves t at false e one.0 (state_of s) (state_of one.1) k.known l.0 })

pub constant-counted : (e : tree.Expr) (c : Constant) (s r : UnitState) → IsUnitKnown s → lifted (checked_constant e) s ≡ Gives c r → UnitMoves (made_by c.expr) s r
constant-counted e c s r k h = record { moves = constant-moves e c (state_of s) (state_of r) k.known (lifted-gives (checked_constant e) c s r h).0 }

-- What it is that judging gives what is well typed: from a state at a point of a text whose table is T, the tree that stands there.
use Rattle.std.specs.Prelude.{◌≡◌, ◌≤◌, ℕ, Bool, false, List, length, None}
use Rattle.c_types.specs.Table.{Table}
use Rattle.c_tree.specs.Erasure.{erased_type_name}
use Rattle.c_tree.specs.Places.{expr_place}
use Rattle.c_tree.specs.Tree as tree
use Rattle.c_tree.specs.TypedTree.{TypedExpr, TypedTypeName}
use Rattle.c_tree.specs.TypedParts.{Made, made_by, made_by_type_name}
use Rattle.c_typing.specs.Conversions.{bare}
use Rattle.c_typing.specs.Extensions.{IsExtended}
use Rattle.c_typing.specs.Held.{held}
use Rattle.c_typing.specs.Judging.{State, Outcome, Gives, next}
use Rattle.c_typing.specs.Operands.{Operand, Value, value as value_taken}
use Rattle.c_typing.specs.Refusals.{IsElaborated}
use Rattle.c_typing.specs.Rules.{runtime_named}
use Rattle.c_typing.specs.Settled.{IsKnown, IsValueOf}
use Rattle.c_typing.specs.Tests.{Elaborated, AsPlace, AsValue, AsAllocation}
use Rattle.c_typing.specs.Typing.{IsTypeName}
use Rattle.c_typing.specs.Walks.{judge, judge_type_name}
use Rattle.c_typing_laws.specs.Numbers.{made_by_part}
use Rattle.c_typing_unique.specs.Points.{Point, HasOwn, IsReadAs}
use Rattle.c_typing_exact.specs.Numbered.{IsElaboratedAt}
use Rattle.c_rules_alike.specs.PartsThere.{IsPartThere}
use Rattle.c_unit_typing.specs.Holding.{expr_holds, type_name_holds}
use Rattle.c_typing_given.specs.Spending.{HasRoom, HasSpent, IsSmall}
use Rattle.c_type_order.specs.Uses.{used_by_part}
use Rattle.c_type_order.specs.TypesUsed.{AreUses, used_by_type_name}

abbrev pub point_at : State → Point
point_at s = record { scopes = s.seen.scopes; node = s.seen.node }

-- the state is what is known at a point of a text whose table is T: its types are the first of T
pub record IsHere (T : Table) (s : State) : Type 0 where
  pub known : IsKnown s
  pub first : IsExtended s.table T
  pub small : IsSmall s
  pub own : HasOwn (point_at s)

-- so it is later on, where there are so many types and what was made between has been counted
pub record IsOnWay (T : Table) (made : List Made) (s r : State) (count : ℕ) : Type 0 where
  pub first : IsExtended r.table T
  pub small : IsSmall r
  pub types : length r.table ≡ count
  pub spent : HasSpent T made s r

-- from one such state another one was reached, at the point b
pub record IsReached (T : Table) (made : List Made) (s r : State) (b : Point) (count : ℕ) : Type 0 where
  pub here : IsHere T r
  pub grown : IsExtended s.table r.table
  pub point : point_at r ≡ b
  pub way : IsOnWay T made s r count

-- Expressions

-- one part is the other; an allocation is any that something will take over
abbrev pub AreSame : Elaborated → Elaborated → Type 0
AreSame (AsPlace p) (AsPlace q) = p ≡ q
AreSame (AsValue v) (AsValue w) = v ≡ w
AreSame (AsAllocation v) (AsAllocation w) = Unit {0}
AreSame x y = ⊥

-- what is not called is no runtime function
abbrev pub IsCallableAs : (called : Bool) → Elaborated → Type 0
IsCallableAs false (AsValue v) = runtime_named v ≡ None
IsCallableAs called x = Unit {0}

-- judging gives the part
pub record IsPartGiven (T : Table) (called : Bool) (e : tree.Expr) (x : Elaborated) (s : State) (b : Point) (count : ℕ) : Type 0 where
  pub operand : Operand
  pub after : State
  pub gives : judge called e s ≡ Gives operand after
  pub same : AreSame operand.part x
  pub typed : IsElaborated after.table e operand.part s.seen.scopes after.seen.scopes
  pub place : operand.place ≡ expr_place e
  pub held : operand.held ≡ held e
  pub reached : IsReached T (made_by_part x) s after b count

-- what is well typed of the expression is given, wherever its types are numbered by their uses and no limit is met
abbrev pub IsGiven : Table → tree.Expr → Type 0
IsGiven T e =
    (called : Bool) (x : Elaborated) (s : State) (b : Point) (count : ℕ) → IsHere T s → IsElaboratedAt T e x (point_at s) b → IsCallableAs called x
    → AreUses (used_by_part T x) (length s.table) count → HasRoom T (made_by_part x) s → expr_holds e ≤ 256 → IsPartGiven T called e x s b count

-- judging, and taking the value of what it gives, gives the value without the conversion that is made of it
pub record IsValueGiven (T : Table) (called : Bool) (e : tree.Expr) (v : TypedExpr) (s : State) (b : Point) (count : ℕ) : Type 0 where
  pub value : Value
  pub after : State
  pub gives : next (judge called e s) value_taken ≡ Gives value after
  pub same : value.expr ≡ bare v
  pub place : value.place ≡ expr_place e
  pub held : value.held ≡ held e
  pub taken : IsValueOf after.table e value.expr s.seen.scopes after.seen.scopes
  pub there : IsPartThere after.table (AsValue value.expr)
  pub reached : IsReached T (made_by v) s after b count

-- Lists of expressions, and other parts of the text

-- judging gives what stands there
pub record IsGivenAs {A : Type 0} (T : Table) (made : List Made) (run : Outcome A) (a : A) (s : State) (b : Point) (count : ℕ) : Type 0 where
  pub after : State
  pub gives : run ≡ Gives a after
  pub reached : IsReached T made s after b count

abbrev pub IsNameGiven : Table → tree.TypeName → Type 0
IsNameGiven T name =
    (t : TypedTypeName) (s : State) (b : Point) (count : ℕ) → IsHere T s → IsReadAs erased_type_name made_by_type_name (IsTypeName T) name t (point_at s) b
    → AreUses (used_by_type_name T t) (length s.table) count → HasRoom T (made_by_type_name t) s → type_name_holds name ≤ 256
    → IsGivenAs T (made_by_type_name t) (judge_type_name name s) t s b count

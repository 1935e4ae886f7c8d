-- Expressions, by what is judged of their parts.
use Rattle.std.proofs.Common.{◌≡◌, refl, ap, ◌∙◌, Bool, true, false, ℕ, ℤ, List, [], ◌∷◌, ◌++◌}
use Rattle.cc_base.specs.declared.place.Place.{Place}
use Rattle.c_lexer.specs.declared.number.IntegerType.{IntegerType}
use Rattle.c_tree.specs.declared.leaf.Identifier.{Identifier}
use Rattle.c_tree.specs.declared.leaf.StringPiece.{StringPiece}
use Rattle.c_tree.specs.declared.operator.Assignment.{Assignment}
use Rattle.c_tree.specs.declared.operator.Assignment.TheVariants as assignment
use Rattle.c_tree.specs.Tree as tree
use Rattle.c_typing.specs.Assignments as assignments
use Rattle.c_typing.specs.Judging.{State, Outcome, Gives, next, pure}
use Rattle.c_typing.specs.Operations as operations
use Rattle.c_typing.specs.Operands.{Value}
use Rattle.c_typing.specs.Rules.{is_compound}
use Rattle.c_typing.specs.Walks.{judge, judge_arguments, judge_value}

-- a compound assignment
pub update_judged : (called : Bool) (operator : Assignment) (a : tree.Expr) (at : Place) (b : tree.Expr) (s : State) → is_compound operator ≡ true
    → judge called (tree.Assign operator a at b) s ≡ next (judge false a s) (λ x. λ m. next (judge_value b m) (λ y. assignments.update_by operator x at y))
unfolding judge judge_arguments judge_value
update_judged called assignment.Assign a at b s compound = absurd (let e : false ≡ true = compound in cc)
update_judged called assignment.Multiply a at b s compound = refl
update_judged called assignment.Divide a at b s compound = refl
update_judged called assignment.Remainder a at b s compound = refl
update_judged called assignment.Add a at b s compound = refl
update_judged called assignment.Subtract a at b s compound = refl
update_judged called assignment.ShiftLeft a at b s compound = refl
update_judged called assignment.ShiftRight a at b s compound = refl
update_judged called assignment.BitAnd a at b s compound = refl
update_judged called assignment.BitXor a at b s compound = refl
update_judged called assignment.BitOr a at b s compound = refl

-- one argument more
pub argument_goes : (all : tree.Arguments) (e : tree.Expr) (done : List Value) (s m : State) → judge_arguments all s ≡ Gives done m
    → (o : Outcome Value) → judge_value e m ≡ o → judge_arguments (tree.AndArgument all e) s ≡ next o (λ v. pure (done ++ v ∷ []))
unfolding judge judge_arguments judge_value
argument_goes all e done s m given o judged =
    ap (λ (r : Outcome (List Value)). next r (λ values. λ k. next (judge_value e k) (λ v. pure (values ++ v ∷ [])))) given
    ∙ ap (λ (r : Outcome Value). next r (λ v. pure (done ++ v ∷ []))) judged

-- names and constants

pub name_judged : (called : Bool) (word : Identifier) (s : State) → judge called (tree.Name word) s ≡ assignments.name called word s
unfolding judge judge_arguments
name_judged called word s = refl

pub integer_judged : (called : Bool) (of : IntegerType) (number : ℕ) (at : Place) (s : State) → judge called (tree.Integer of number at) s ≡ operations.integer of number at s
unfolding judge judge_arguments
integer_judged called of number at s = refl

pub character_judged : (called : Bool) (number : ℤ) (at : Place) (s : State) → judge called (tree.Character number at) s ≡ operations.character number at s
unfolding judge judge_arguments
character_judged called number at s = refl

pub literal_judged : (called : Bool) (pieces : List StringPiece) (s : State) → judge called (tree.String pieces) s ≡ assignments.literal pieces s
unfolding judge judge_arguments
literal_judged called pieces s = refl

pub ruleset leaves_judged = (name_judged, integer_judged, character_judged, literal_judged)

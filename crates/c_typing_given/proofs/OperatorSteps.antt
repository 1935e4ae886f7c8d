-- What judging an operator is made of.
use Rattle.std.proofs.Common.{◌≡◌, ℕ, ℤ, Bool, false, refl, ap, sym, ◌∙◌}
use Rattle.cc_base.specs.declared.place.Place.{Place}
use Rattle.c_lexer.specs.declared.number.IntegerType.{IntegerType as ConstantType}
use Rattle.c_tree.specs.declared.operator.Binary.{Binary}
use Rattle.c_tree.specs.declared.operator.Unary.{Unary}
use Rattle.c_tree.specs.Tree as tree
use Rattle.c_typing.specs.Judging.{State, Outcome, Judging, Gives, Stops, next, ◌>>=◌}
use Rattle.c_typing.specs.Operands.{Operand, Value, value}
use Rattle.c_typing.specs.Operations.{index, infix_of, prefix, paren, integer, character}
use Rattle.c_typing.specs.Walks.{judge}
use Rattle.c_typing_laws.proofs.Outcomes.{never-gives}
use Rattle.c_typing_given.proofs.Steps.{then-is}

pub then-again : {A B C : Type 0} (m : Outcome A) (f : A → Judging B) (g : B → Judging C) → next (next m f) g ≡ next m (λ a. f a >>= g)
then-again (Gives a s) f g = refl
then-again (Stops fault s) f g = refl

-- What judging is made of

pub judges-index : (called : Bool) (x : tree.Expr) (at : Place) (y : tree.Expr) (v w : Value) (s k r : State) (o : Outcome Operand) → next (judge false x s) value ≡ Gives v k
    → next (judge false y k) value ≡ Gives w r → index v at w r ≡ o → judge called (tree.Index x at y) s ≡ o
unfolding judge
judges-index called x at y v w s k r o h j l =
    then-is (judge false x >>= value) (λ p. (judge false y >>= value) >>= (λ q. index p at q)) v s k o h (then-is (judge false y >>= value) (λ q. index v at q) w k r o j l)

pub judges-infix : (called : Bool) (operator : Binary) (x : tree.Expr) (at : Place) (y : tree.Expr) (v w : Value) (s k r : State) (o : Outcome Operand)
    → next (judge false x s) value ≡ Gives v k → next (judge false y k) value ≡ Gives w r → infix_of operator v at w r ≡ o → judge called (tree.Infix operator x at y) s ≡ o
unfolding judge
judges-infix called operator x at y v w s k r o h j l =
    then-is (judge false x >>= value) (λ p. (judge false y >>= value) >>= (λ q. infix_of operator p at q)) v s k o h
    (then-is (judge false y >>= value) (λ q. infix_of operator v at q) w k r o j l)

pub judges-prefix : (called : Bool) (operator : Unary) (at : Place) (x : tree.Expr) (p : Operand) (s k : State) (o : Outcome Operand) → judge false x s ≡ Gives p k
    → prefix operator at p k ≡ o → judge called (tree.Prefix operator at x) s ≡ o
unfolding judge
judges-prefix called operator at x p s k o h l = then-is (judge false x) (prefix operator at) p s k o h l

pub judges-paren : (called : Bool) (at : Place) (x : tree.Expr) (p : Operand) (s k : State) (o : Outcome Operand) → judge called x s ≡ Gives p k
    → paren at p k ≡ o → judge called (tree.Paren at x) s ≡ o
unfolding judge
judges-paren called at x p s k o h l = then-is (judge called x) (paren at) p s k o h l

pub judges-integer : (called : Bool) (of : ConstantType) (number : ℕ) (at : Place) (s : State) → judge called (tree.Integer of number at) s ≡ integer of number at s
unfolding judge
judges-integer called of number at s = refl

pub judges-character : (called : Bool) (number : ℤ) (at : Place) (s : State) → judge called (tree.Character number at) s ≡ character number at s
unfolding judge
judges-character called number at s = refl

-- operators that take the value of their operand first
pub judges-valued : (called : Bool) (operator : Unary) (at : Place) (x : tree.Expr) (f : Value → Judging Operand) (v : Value) (s k : State) (o : Outcome Operand)
    → ((p : Operand) (q : State) → prefix operator at p q ≡ next (value p q) f) → next (judge false x s) value ≡ Gives v k → f v k ≡ o → judge called (tree.Prefix operator at x) s ≡ o
unfolding judge
judges-valued called operator at x f v s k o same h l = by (judge false x s) refl
  where
    by : (m : Outcome Operand) → judge false x s ≡ m → next (judge false x s) (prefix operator at) ≡ o
    by (Gives p q) g =
        ap (λ (n : Outcome Operand). next n (prefix operator at)) g ∙ same p q
        ∙ ap (λ (n : Outcome Value). next n f) (sym (ap (λ (n : Outcome Operand). next n value) g) ∙ h) ∙ l
    by (Stops fault q) g = never-gives v fault q k (sym (ap (λ (n : Outcome Operand). next n value) g) ∙ h)

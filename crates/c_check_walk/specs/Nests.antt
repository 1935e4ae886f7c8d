-- Functions that judge the parts inside: an expression, specifiers and a declarator. Each part's own rules take them as parameters.
use Rattle.std.specs.Prelude.{ℕ, Bool, ◌<◌, Result}
use Rattle.std.specs.Borrow.{Bor}
use denote.Ref.{MutBor}
use Rattle.cc_base.specs.declared.place.Place.{Place}
use Rattle.cc_base.specs.declared.fault.Fault.{Fault}
use Rattle.c_types.specs.Table.{Table}
use Rattle.c_tree.specs.Depth.{expr_height, specifier_list_height, declarator_height}
use Rattle.c_tree.specs.Views.{expr_view, specifiers_view, declarator_view}
use Rattle.c_tree.specs.TypedViews.{typed_specifiers_view, typed_form_view}
use Rattle.c_tree.specs.declared.expr.Expr.{Expr}
use Rattle.c_tree.specs.declared.expr.Specifiers.{Specifiers}
use Rattle.c_tree.specs.declared.expr.Declarator.{Declarator}
use Rattle.c_tree.specs.declared.typed_expr.TypedSpecifiers.{TypedSpecifiers}
use Rattle.c_tree.specs.declared.typed_expr.TypedForm.{TypedForm}
use Rattle.c_typing.specs.declared.naming.Naming.{Naming}
use Rattle.c_typing.specs.declared.operand.Operand.{Operand}
use Rattle.c_typing.specs.Scopes.{Seen}
use Rattle.c_typing.specs.OperandViews.{operand_view}
use Rattle.c_typing.specs.Growing.{Grows}
use Rattle.c_typing.specs.Judging.{Answers, known}
use Rattle.c_typing.specs.Walks.{judge, judge_specifiers, judge_form}

-- They may be called for trees of less than this height.
module _ (height : ℕ) where
  pub record Nests
      (expr_pre : MutBor Seen → MutBor Table → Bool → Bor Expr → Type 0)
      (expr_post : MutBor Seen → MutBor Table → Bool → Bor Expr → Result Operand Fault → MutBor Seen → MutBor Table → Type 0)
      (specifiers_pre : MutBor Seen → MutBor Table → Bor Specifiers → Type 0)
      (specifiers_post : MutBor Seen → MutBor Table → Bor Specifiers → Result TypedSpecifiers Fault → MutBor Seen → MutBor Table → Type 0)
      (form_pre : MutBor Seen → MutBor Table → Naming → Place → Bor Declarator → Type 0)
      (form_post : MutBor Seen → MutBor Table → Naming → Place → Bor Declarator → Result TypedForm Fault → MutBor Seen → MutBor Table → Type 0) : Type 0 where
    pub expr_callable : (scope : MutBor Seen) (types : MutBor Table) (called : Bool) (e : Bor Expr) → expr_height (expr_view e.now) < height → expr_pre scope types called e
    pub expr_answers : (scope after : MutBor Seen) (types later : MutBor Table) (called : Bool) (e : Bor Expr) (r : Result Operand Fault)
        → expr_height (expr_view e.now) < height → expr_post scope types called e r after later
        → Answers operand_view (judge called (expr_view e.now) (known types.now scope.now)) r (known later.now after.now)
    pub expr_grows : (scope after : MutBor Seen) (types later : MutBor Table) (called : Bool) (e : Bor Expr) (r : Result Operand Fault)
        → expr_height (expr_view e.now) < height → expr_post scope types called e r after later
        → Grows (known types.now scope.now) (known later.now after.now)
    pub specifiers_callable : (scope : MutBor Seen) (types : MutBor Table) (s : Bor Specifiers) → specifier_list_height (specifiers_view s.now) < height → specifiers_pre scope types s
    pub specifiers_answers : (scope after : MutBor Seen) (types later : MutBor Table) (s : Bor Specifiers) (r : Result TypedSpecifiers Fault)
        → specifier_list_height (specifiers_view s.now) < height → specifiers_post scope types s r after later
        → Answers typed_specifiers_view (judge_specifiers (specifiers_view s.now) (known types.now scope.now)) r (known later.now after.now)
    pub specifiers_grows : (scope after : MutBor Seen) (types later : MutBor Table) (s : Bor Specifiers) (r : Result TypedSpecifiers Fault)
        → specifier_list_height (specifiers_view s.now) < height → specifiers_post scope types s r after later
        → Grows (known types.now scope.now) (known later.now after.now)
    pub form_callable : (scope : MutBor Seen) (types : MutBor Table) (which : Naming) (at : Place) (one : Bor Declarator) → declarator_height (declarator_view one.now) < height
        → form_pre scope types which at one
    pub form_answers : (scope after : MutBor Seen) (types later : MutBor Table) (which : Naming) (at : Place) (one : Bor Declarator) (r : Result TypedForm Fault)
        → declarator_height (declarator_view one.now) < height → form_post scope types which at one r after later
        → Answers typed_form_view (judge_form which at (declarator_view one.now) (known types.now scope.now)) r (known later.now after.now)
    pub form_grows : (scope after : MutBor Seen) (types later : MutBor Table) (which : Naming) (at : Place) (one : Bor Declarator) (r : Result TypedForm Fault)
        → declarator_height (declarator_view one.now) < height → form_post scope types which at one r after later
        → Grows (known types.now scope.now) (known later.now after.now)

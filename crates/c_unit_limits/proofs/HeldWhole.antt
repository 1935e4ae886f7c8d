-- What units ask of expressions, specifiers and declarators: what is known is kept, and no more than 256 values are held.
use Rattle.std.proofs.Common.{ℕ, ℤ, Bool, true, false, Option, Some, None}
use Rattle.cc_base.specs.declared.number.TypeId.{TypeId}
use Rattle.cc_base.specs.declared.place.Place.{Place}
use Rattle.c_tree.specs.Tree as tree
use Rattle.c_typing.specs.declared.naming.Naming.{Naming}
use Rattle.c_typing.specs.Checking.{checked, taken, converted_value, checked_value, constant_as, checked_constant}
use Rattle.c_typing.specs.Operands.{Operand, Value}
use Rattle.c_typing.specs.Tests.{Elaborated}
use Rattle.c_typing.specs.Walks.{outermost_of, judge_value, judge_alone_list, judge_specifiers, judge_specifiers_of, judge_declarator_at}
use Rattle.c_unit_typing.specs.Holding.{expr_holds, specifiers_holds, declarator_holds}
use Rattle.c_unit_limits.specs.Literals.{expr_literals, specifiers_literals, declarator_literals}
use Rattle.c_unit_limits.proofs.Kept.{IsKept, pure-kept, stop-kept, bind-kept, known-kept, unless-kept}
use Rattle.c_unit_limits.proofs.KeptConstructs.{value-kept, given-kept}
use Rattle.c_unit_limits.proofs.KeptDeclarators.{tagged_alone-kept, form_makes-kept}
use Rattle.c_unit_limits.proofs.HeldSteps.{IsHeld, kept-held, first-held, known-held}
use Rattle.c_unit_limits.proofs.HeldTrees.{expr-held, specifiers-held, declarator-held}

-- Expressions

value_held : (e : tree.Expr) → IsHeld (judge_value e) (expr_holds e) (expr_literals e)
unfolding judge_value
value_held e = first-held (expr-held e false) (λ x. value-kept x)

pub checked-held : (e : tree.Expr) → IsHeld (checked e) (expr_holds e) (expr_literals e)
unfolding checked
checked-held e = first-held (value_held e) (λ v. pure-kept (_))

taken_kept : (init : Bool) (t : TypeId) (x : Operand) → IsKept (taken init t x)
unfolding taken
taken_kept true t x = given-kept t x.place x.part
taken_kept false t x = bind-kept (value-kept x) (λ v. pure-kept (_))

converted_kept : (t : TypeId) (at : Place) (x : Elaborated) → IsKept (converted_value t at x)
unfolding converted_value
converted_kept t at x = known-kept (λ q. unless-kept (_) (known-kept (λ s. pure-kept (_))))

pub checked_value-held : (t : TypeId) (at : Place) (init : Bool) (e : tree.Expr) → IsHeld (checked_value t at init e) (expr_holds e) (expr_literals e)
unfolding checked_value
checked_value-held t at init e = first-held (expr-held e false) (λ x. bind-kept (taken_kept init t x) (λ y. converted_kept t at y))

constant_kept : (v : Value) (o : Option ℤ) → IsKept (constant_as v o)
unfolding constant_as
constant_kept v None = stop-kept (_)
constant_kept v (Some z) = pure-kept (_)

pub checked_constant-held : (e : tree.Expr) → IsHeld (checked_constant e) (expr_holds e) (expr_literals e)
unfolding checked_constant
checked_constant-held e = first-held (value_held e) (λ v. known-kept (λ s. constant_kept v (_)))

-- Specifiers and declarators

alone_held : (all : tree.Specifiers) → IsHeld (judge_alone_list all) (specifiers_holds all) (specifiers_literals all)
alone_held (tree.AndSpecifier tree.NoSpecifier (tree.Tagged which at name)) = kept-held (bind-kept (tagged_alone-kept which at name) (λ one. pure-kept (_)))
alone_held tree.NoSpecifier = specifiers-held tree.NoSpecifier
alone_held (tree.AndSpecifier (tree.AndSpecifier all one) specifier) = specifiers-held (tree.AndSpecifier (tree.AndSpecifier all one) specifier)
alone_held (tree.AndSpecifier tree.NoSpecifier specifier) = specifiers-held (tree.AndSpecifier tree.NoSpecifier specifier)

pub specifiers_of-held : (alone : Bool) (all : tree.Specifiers) → IsHeld (judge_specifiers_of alone all) (specifiers_holds all) (specifiers_literals all)
unfolding judge_specifiers_of judge_specifiers
specifiers_of-held false all = first-held (specifiers-held all) (λ list. pure-kept (_))
specifiers_of-held true all = first-held (alone_held all) (λ list. pure-kept (_))

pub declarator_at-held : (at : Place) (which : Naming) (base : TypeId) (size : Option ℕ) (d : tree.Declarator) → IsHeld (judge_declarator_at at which base size d) (declarator_holds d) (declarator_literals d)
unfolding judge_declarator_at
declarator_at-held at which base size d =
    first-held (known-held (λ s. declarator-held d (_) at)) (λ form. bind-kept (form_makes-kept at (outermost_of size) form base) (λ t. pure-kept (_)))

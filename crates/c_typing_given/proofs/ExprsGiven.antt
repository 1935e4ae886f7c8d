-- Expressions of each form are given: prefix operators by their kinds, and compound literals, of which none is well typed.
use Rattle.c_types.specs.Table.{Table}
use Rattle.c_tree.specs.declared.operator.Unary.{Unary}
use Rattle.c_tree.specs.declared.operator.Unary.TheVariants as unary
use Rattle.cc_base.specs.declared.place.Place.{Place}
use Rattle.c_tree.specs.Tree as tree
use Rattle.c_typing.specs.Settled.{IsBasic}
use Rattle.c_typing_given.specs.Given.{point_at, IsGiven}
use Rattle.c_typing_given.proofs.AddressesGiven.{address-given, size-given}
use Rattle.c_typing_given.proofs.Constructing.{of-part}
use Rattle.c_typing_given.proofs.OperatorsGiven.{plus-given, minus-given, complement-given, not-given, target-given}
use Rattle.c_typing_given.proofs.PlacesGiven.{increment-given, decrement-given}

module _ (T : Table) (basic : IsBasic T) where
  pub prefix-given : (operator : Unary) (at : Place) (x : tree.Expr) → IsGiven T x → IsGiven T (tree.Prefix operator at x)
  prefix-given unary.Increment at x u = increment-given T basic at x u
  prefix-given unary.Decrement at x u = decrement-given T basic at x u
  prefix-given unary.AddressOf at x u = address-given T basic at x u
  prefix-given unary.Dereference at x u = target-given T basic at x u
  prefix-given unary.Plus at x u = plus-given T basic at x u
  prefix-given unary.Minus at x u = minus-given T basic at x u
  prefix-given unary.Complement at x u = complement-given T basic at x u
  prefix-given unary.Not at x u = not-given T basic at x u
  prefix-given unary.SizeOf at x u = size-given T basic at x u

  -- no compound literal is well typed
  pub compound-given : (at : Place) (name : tree.TypeName) (brace : Place) → IsGiven T (tree.Compound at name brace)
  compound-given at name brace called z s b count here h c uses room holds = absurd (of-part T basic (tree.Compound at name brace) z (point_at s) b h)

  pub sized-compound-given : (at paren : Place) (name : tree.TypeName) (brace : Place) → IsGiven T (tree.SizeOfCompound at paren name brace)
  sized-compound-given at paren name brace called z s b count here h c uses room holds = absurd (of-part T basic (tree.SizeOfCompound at paren name brace) z (point_at s) b h)

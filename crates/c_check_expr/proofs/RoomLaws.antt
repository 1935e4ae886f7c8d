-- The tokens that a call is given leave room for what it makes.
use Rattle.std.proofs.Common.{◌≡◌, ◌≤◌, ◌+◌, ℕ, List, length, subst, arith}
use Rattle.c_types.specs.Table.{Table}
use Rattle.c_tree.specs.Erasure.{erased, erased_place, erased_specifiers, erased_declarator}
use Rattle.c_tree.specs.Spelling.{expr_spelling, specifiers_spelling, declarator_spelling}
use Rattle.c_tree.specs.Symbols.{Symbol}
use Rattle.c_tree.specs.Tree as tree
use Rattle.c_tree.specs.TypedParts.{Made, made_by, made_by_place, made_by_specifiers, made_by_declarator}
use Rattle.c_tree.specs.TypedTree.{TypedExpr, TypedPlace, TypedSpecifiers, TypedDeclarator}
use Rattle.c_tree_sizes.proofs.PaidParts.{expression-two, place-two, specifiers-two, declarator-two}
use Rattle.c_type_order.specs.TypesUsed.{Use}
use Rattle.c_typing.specs.Judging.{State}
use Rattle.c_typing_given.specs.Spending.{HasRoom}
use Rattle.c_typing_given.proofs.NodesMade.{nodes-few}
use Rattle.c_check_expr.specs.Accepted.{CanBeGiven}

module _ {T : Table} {tokens : List Symbol} {all : List Made} {uses : List Use} {held : ℕ} {s : State} {count : ℕ} where
  room-of : CanBeGiven T tokens all uses held s count → length all ≤ length tokens + length tokens → HasRoom T all s
  room-of can two =
      let h = can.numbered in
      let n = nodes-few all in
      record { things = omega (arith, h, two); nodes = omega (arith, h, two, n); globals = can.globals; cells = can.cells }

module _ {T : Table} {uses : List Use} {held : ℕ} {s : State} {count : ℕ} where
  pub expression-room : (e : tree.Expr) (v : TypedExpr) → CanBeGiven T (expr_spelling e) (made_by v) uses held s count → erased v ≡ e
      → HasRoom T (made_by v) s
  expression-room e v can same =
      let two = expression-two v can.spelled in
      room-of can (subst (λ (x : tree.Expr). length (made_by v) ≤ length (expr_spelling x) + length (expr_spelling x)) same two)

  pub place-room : (e : tree.Expr) (p : TypedPlace) → CanBeGiven T (expr_spelling e) (made_by_place p) uses held s count → erased_place p ≡ e
      → HasRoom T (made_by_place p) s
  place-room e p can same =
      let two = place-two p can.spelled in
      room-of can (subst (λ (x : tree.Expr). length (made_by_place p) ≤ length (expr_spelling x) + length (expr_spelling x)) same two)

  pub specifiers-room : (xs : tree.Specifiers) (x : TypedSpecifiers) → CanBeGiven T (specifiers_spelling xs) (made_by_specifiers x) uses held s count
      → erased_specifiers x ≡ xs → HasRoom T (made_by_specifiers x) s
  specifiers-room xs x can same =
      let two = specifiers-two x can.spelled in
      room-of can (subst (λ (y : tree.Specifiers). length (made_by_specifiers x) ≤ length (specifiers_spelling y) + length (specifiers_spelling y)) same two)

  pub declarator-room : (d : tree.Declarator) (one : TypedDeclarator) → CanBeGiven T (declarator_spelling d) (made_by_declarator one) uses held s count
      → erased_declarator one ≡ d → HasRoom T (made_by_declarator one) s
  declarator-room d one can same =
      let two = declarator-two one can.spelled in
      room-of can (subst (λ (y : tree.Declarator). length (made_by_declarator one) ≤ length (declarator_spelling y) + length (declarator_spelling y)) same two)

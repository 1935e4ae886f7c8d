-- Statements and what blocks hold have one typed tree.
use Rattle.std.proofs.Common.{◌≡◌, ℕ, ℤ, false, List, ◌++◌, Option, Some, None, refl, ap, sym, subst, ◌∙◌}
use Rattle.cc_base.specs.declared.place.Place.{Place}
use Rattle.cc_base.specs.declared.number.TypeId.{TypeId}
use Rattle.c_types.specs.Table.{Table}
use Rattle.c_tree.specs.declared.operator.Unary.TheVariants as unary
use Rattle.c_tree.specs.Erasure.{erased, erased_optional, erased_declaration, erased_statement, erased_block_items}
use Rattle.c_tree.specs.Tree as tree
use Rattle.c_tree.specs.TypedTree as typed
use Rattle.c_tree.specs.TypedTree.{TypedExpr, TypedDeclaration, TypedStatement, TypedBlockItems}
use Rattle.c_tree.specs.TypedParts.{Made, type_of, made_by, made_by_optional, made_by_declaration, made_by_statement, made_by_block_items}
use Rattle.c_typing.specs.Conversions.{bare}
use Rattle.c_typing.specs.Scopes.{Scopes}
use Rattle.c_typing.specs.Typing.{IsTyped}
use Rattle.c_typing_unique.proofs.Numbering.{Numbers, two-parts}
use Rattle.c_typing_unique.proofs.OperatorLaws.{prefix-one}
use Rattle.c_typing_unique.proofs.Reading.{plain-over}
use Rattle.c_typing_unique.proofs.Shapes.{IsDistinct}
use Rattle.c_typing_unique.proofs.ValueLaws.{alike-plain, plain-alike}
use Rattle.c_unit_typing.specs.Units.{Known, with_scopes, IsDeclaration, Around, in_a_loop, in_a_switch, IsDropped, IsTested, IsTestedOrNone, IsReturned, IsLabel, IsSwitched, entering_known, leaving_known, IsStatement, AreBlockItems}
use Rattle.c_unit_unique.proofs.DeclarationSteps.{Spot, OwnSpot, spot-same, IsReadIn, IsUniqueIn, declaration-one}
use Rattle.c_unit_unique.proofs.StatementValues.{with-value, tested-one, dropped-one, tested-or-none, returned-one, label-plain, label-same}

abbrev pub InBoth : (Spot → Spot → Type 0) → (Spot → Spot → Type 0) → Spot → Spot → Type 0
InBoth P Q a b = (m : Spot) × P a m × Q m b

module _ {A B X Y : Type 0} (erase : A → X) (made : A → List Made) (typed : A → Known → Known → Type 0) (erase' : B → Y) (made' : B → List Made) (typed' : B → Known → Known → Type 0) where
  -- two parts, one after the other
  pub in-both : (x : A) (y : B) (m : Known) (a b : Spot) → typed x a.known m → typed' y m b.known → Numbers (made x ++ made' y) a.node b.node
      → InBoth (IsReadIn erase made typed (erase x) x) (IsReadIn erase' made' typed' (erase' y) y) a b
  in-both x y m a b h k n =
      let cut = two-parts (made x) (made' y) a.node b.node n in
      (record { known = m; node = cut.0 }, (refl, h, cut.1), (refl, k, cut.2))

  pub both-one : (x : X) (y : Y) → IsUniqueIn erase made typed x → IsUniqueIn erase' made' typed' y → (p q : A) (r s : B) (a b c d : Spot)
      → InBoth (IsReadIn erase made typed x p) (IsReadIn erase' made' typed' y r) a b → InBoth (IsReadIn erase made typed x q) (IsReadIn erase' made' typed' y s) c d → a ≡ c → OwnSpot a
      → (p ≡ q) × (r ≡ s) × (b ≡ d) × OwnSpot b
  both-one x y u v p q r s a b c d h k o own =
      let first = u p q a h.0 c k.0 h.1 k.1 o own in
      let second = v r s h.0 b k.0 d h.2 k.2 first.1 first.2 in
      (first.0, second.0, second.1, second.2)

abbrev pub entered : Spot → Spot
entered a = record { known = entering_known a.known; node = a.node }

abbrev pub left_behind : Spot → Spot
left_behind a = record { known = leaving_known a.known; node = a.node }

module _ (T : Table) (D : IsDistinct T) where
  -- Statements

  abbrev IsTestRead : tree.Expr → TypedExpr → Spot → Spot → Type 0
  IsTestRead = IsReadIn erased made_by (IsTested T)

  abbrev IsDroppedRead : Option tree.Expr → Option TypedExpr → Spot → Spot → Type 0
  IsDroppedRead = IsReadIn erased_optional made_by_optional (IsDropped T)

  abbrev IsTestOrNoneRead : Option tree.Expr → Option TypedExpr → Spot → Spot → Type 0
  IsTestOrNoneRead = IsReadIn erased_optional made_by_optional (IsTestedOrNone T)

  abbrev IsStatementRead : Around → tree.Statement → TypedStatement → Spot → Spot → Type 0
  IsStatementRead a = IsReadIn erased_statement made_by_statement (IsStatement T a)

  abbrev AreItemsRead : Around → Option TypeId → tree.BlockItems → TypedBlockItems → Spot → Spot → Type 0
  AreItemsRead a on = IsReadIn erased_block_items made_by_block_items (AreBlockItems T a on)

  abbrev IsDeclarationRead : tree.Declaration → TypedDeclaration → Spot → Spot → Type 0
  IsDeclarationRead = IsReadIn erased_declaration made_by_declaration (IsDeclaration T false)

  abbrev pub IsStatementUnique : tree.Statement → Type 0
  IsStatementUnique x = (a : Around) → IsUniqueIn erased_statement made_by_statement (IsStatement T a) x

  abbrev pub AreItemsUnique : tree.BlockItems → Type 0
  AreItemsUnique x = (a : Around) (on : Option TypeId) → IsUniqueIn erased_block_items made_by_block_items (AreBlockItems T a on) x

  -- a statement in a scope of its own
  abbrev Inner : Around → TypedStatement → Known → Known → Type 0
  Inner a y k k' = (m : Known) × IsStatement T a y (entering_known k) m × (k' ≡ leaving_known m)

  abbrev IsInnerRead : Around → tree.Statement → TypedStatement → Spot → Spot → Type 0
  IsInnerRead a = IsReadIn erased_statement made_by_statement (Inner a)

  inner_one : (a : Around) (x : tree.Statement) → IsStatementUnique x → IsUniqueIn erased_statement made_by_statement (Inner a) x
  inner_one a x u y z p q r s h k o own =
      let m : Spot = record { known = h.1.0; node = q.node } in
      let n : Spot = record { known = k.1.0; node = s.node } in
      let one = u a y z (entered p) m (entered r) n (h.0, h.1.1, h.2) (k.0, k.1.1, k.2) (ap entered o) own in
      let before = spot-same q (left_behind m) h.1.2 refl in
      let after = spot-same s (left_behind n) k.1.2 refl in
      (one.0, before ∙ ap left_behind one.1 ∙ sym after, subst OwnSpot (sym before) one.2)

  record IsSwitch (a : Around) (at : Place) (x : tree.Expr) (items : tree.BlockItems) (e : TypedExpr) (list : TypedBlockItems) (p q : Spot) : Type 0 where
    inside : Scopes
    begin : ℕ
    last : Spot
    erases : erased e ≡ x
    typed_value : IsTyped T e (entered p).known.scopes inside
    numbers : Numbers (made_by e) p.node begin
    switched : IsSwitched T at e list
    body : AreItemsRead (in_a_switch a) (Some (type_of e)) items list (entered (record { known = with_scopes p.known inside; node = begin })) last
    after : q ≡ left_behind (left_behind last)

  abbrev IsStatementOf : Around → tree.Statement → TypedStatement → Spot → Spot → Type 0
  IsStatementOf a (tree.Block at items) y p q = (x : TypedBlockItems) × (m : Spot) × AreItemsRead a None items x (entered p) m × (q ≡ left_behind m) × (y ≡ typed.Block at x)
  IsStatementOf a (tree.Express e) y p q = (f : TypedExpr) × IsDroppedRead (Some e) (Some f) p q × (y ≡ typed.Express f)
  IsStatementOf a tree.Empty y p q = (y ≡ typed.Empty) × (q ≡ p)
  IsStatementOf a (tree.If at paren c s) y p q =
      (f : TypedExpr) × (x : TypedStatement) × (m : Spot) × InBoth (IsTestRead c f) (IsInnerRead a s x) (entered p) m × (q ≡ left_behind m) × (y ≡ typed.If at paren f x)
  IsStatementOf a (tree.IfElse at paren c s r) y p q =
      (f : TypedExpr) × (x z : TypedStatement) × (m : Spot) × InBoth (IsTestRead c f) (InBoth (IsInnerRead a s x) (IsInnerRead a r z)) (entered p) m
      × (q ≡ left_behind m) × (y ≡ typed.IfElse at paren f x z)
  IsStatementOf a (tree.Switch at paren e brace items) y p q = (f : TypedExpr) × (x : TypedBlockItems) × IsSwitch a at e items f x p q × (y ≡ typed.Switch at paren f brace x)
  IsStatementOf a (tree.While at paren c s) y p q =
      (f : TypedExpr) × (x : TypedStatement) × (m : Spot) × InBoth (IsTestRead c f) (IsInnerRead (in_a_loop a) s x) (entered p) m × (q ≡ left_behind m)
      × (y ≡ typed.While at paren f x)
  IsStatementOf a (tree.DoWhile s at paren c) y p q =
      (x : TypedStatement) × (f : TypedExpr) × (m : Spot) × InBoth (IsInnerRead (in_a_loop a) s x) (IsTestRead c f) (entered p) m × (q ≡ left_behind m)
      × (y ≡ typed.DoWhile x at paren f)
  IsStatementOf a (tree.For at paren b c d s) y p q =
      (f g k : Option TypedExpr) × (x : TypedStatement) × (m : Spot)
      × InBoth (IsDroppedRead b f) (InBoth (IsTestOrNoneRead c g) (InBoth (IsDroppedRead d k) (IsInnerRead (in_a_loop a) s x))) (entered p) m
      × (q ≡ left_behind m) × (y ≡ typed.For at paren f g k x)
  IsStatementOf a (tree.ForDeclaration at paren b c d s) y p q =
      (f : TypedDeclaration) × (g k : Option TypedExpr) × (x : TypedStatement) × (m : Spot)
      × InBoth (IsDeclarationRead b f) (InBoth (IsTestOrNoneRead c g) (InBoth (IsDroppedRead d k) (IsInnerRead (in_a_loop a) s x))) (entered p) m
      × (q ≡ left_behind m) × (y ≡ typed.ForDeclaration at paren f g k x)
  IsStatementOf a (tree.Break at) y p q = (y ≡ typed.Break at) × (q ≡ p)
  IsStatementOf a (tree.Continue at) y p q = (y ≡ typed.Continue at) × (q ≡ p)
  IsStatementOf a (tree.Return at e) y p q =
      (f : Option TypedExpr) × IsReadIn erased_optional made_by_optional (IsReturned T at a.result) e f p q × (y ≡ typed.Return at f)

  statement_of : (a : Around) (y : TypedStatement) (p q : Spot) → IsStatement T a y p.known q.known → Numbers (made_by_statement y) p.node q.node → IsStatementOf a (erased_statement y) y p q
  statement_of a (typed.Block at items) p q h k = let m : Spot = record { known = h.0; node = q.node } in (items, m, (refl, h.1, k), spot-same q (left_behind m) h.2 refl, refl)
  statement_of a (typed.Express e) p q h k = (e, (refl, h, k), refl)
  statement_of a typed.Empty p q h k = (refl, spot-same q p h k)
  statement_of a (typed.If at paren c s) p q h k =
      let m : Spot = record { known = leaving_known h.1; node = q.node } in
      let both = in-both erased made_by (IsTested T) erased_statement made_by_statement (Inner a) c s h.0 (entered p) m h.2 (h.1, h.3, refl) k in
      (c, s, m, both, spot-same q (left_behind m) h.4 refl, refl)
  statement_of a (typed.IfElse at paren c s r) p q h k =
      let cut = two-parts (made_by c ++ made_by_statement s) (made_by_statement r) p.node q.node k in
      let n : Spot = record { known = leaving_known h.1; node = cut.0 } in
      let m : Spot = record { known = leaving_known h.2; node = q.node } in
      let first = in-both erased made_by (IsTested T) erased_statement made_by_statement (Inner a) c s h.0 (entered p) n h.3 (h.1, h.4, refl) cut.1 in
      (c, s, r, m, (first.0, first.1, (n, first.2, (refl, (h.2, h.5, refl), cut.2))), spot-same q (left_behind m) h.6 refl, refl)
  statement_of a (typed.Switch at paren e brace items) p q h k =
      let cut = two-parts (made_by e) (made_by_block_items items) p.node q.node k in
      let m : Spot = record { known = h.1; node = q.node } in
      (e, items, record { inside = h.0; begin = cut.0; last = m; erases = refl; typed_value = h.2; numbers = cut.1; switched = h.3; body = (refl, h.4, cut.2); after = spot-same q (left_behind (left_behind m)) h.5 refl }, refl)
  statement_of a (typed.While at paren c s) p q h k =
      let m : Spot = record { known = leaving_known h.1; node = q.node } in
      let both = in-both erased made_by (IsTested T) erased_statement made_by_statement (Inner (in_a_loop a)) c s h.0 (entered p) m h.2 (h.1, h.3, refl) k in
      (c, s, m, both, spot-same q (left_behind m) h.4 refl, refl)
  statement_of a (typed.DoWhile s at paren c) p q h k =
      let m : Spot = record { known = h.1; node = q.node } in
      let both = in-both erased_statement made_by_statement (Inner (in_a_loop a)) erased made_by (IsTested T) s c (leaving_known h.0) (entered p) m (h.0, h.2, refl) h.3 k in
      (s, c, m, both, spot-same q (left_behind m) h.4 refl, refl)
  statement_of a (typed.For at paren f g e s) p q h k =
      let last = two-parts (made_by_optional f ++ made_by_optional g ++ made_by_optional e) (made_by_statement s) p.node q.node k in
      let o : Spot = record { known = h.2; node = last.0 } in
      let next = two-parts (made_by_optional f ++ made_by_optional g) (made_by_optional e) p.node last.0 last.1 in
      let n : Spot = record { known = h.1; node = next.0 } in
      let m : Spot = record { known = leaving_known h.3; node = q.node } in
      let first = in-both erased_optional made_by_optional (IsDropped T) erased_optional made_by_optional (IsTestedOrNone T) f g h.0 (entered p) n h.4 h.5 next.1 in
      (f, g, e, s, m, (first.0, first.1, (n, first.2, (o, (refl, h.6, next.2), (refl, (h.3, h.7, refl), last.2)))), spot-same q (left_behind m) h.8 refl, refl)
  statement_of a (typed.ForDeclaration at paren f g e s) p q h k =
      let last = two-parts (made_by_declaration f ++ made_by_optional g ++ made_by_optional e) (made_by_statement s) p.node q.node k in
      let o : Spot = record { known = h.2; node = last.0 } in
      let next = two-parts (made_by_declaration f ++ made_by_optional g) (made_by_optional e) p.node last.0 last.1 in
      let n : Spot = record { known = h.1; node = next.0 } in
      let m : Spot = record { known = leaving_known h.3; node = q.node } in
      let first = in-both erased_declaration made_by_declaration (IsDeclaration T false) erased_optional made_by_optional (IsTestedOrNone T) f g h.0 (entered p) n h.4 h.5 next.1 in
      (f, g, e, s, m, (first.0, first.1, (n, first.2, (o, (refl, h.6, next.2), (refl, (h.3, h.7, refl), last.2)))), spot-same q (left_behind m) h.8 refl, refl)
  statement_of a (typed.Break at) p q h k = (refl, spot-same q p h.0 k)
  statement_of a (typed.Continue at) p q h k = (refl, spot-same q p h.0 k)
  statement_of a (typed.Return at e) p q h k = (e, (refl, h, k), refl)

  is_statement : (a : Around) (x : tree.Statement) (y : TypedStatement) (p q : Spot) → IsStatementRead a x y p q → IsStatementOf a x y p q
  is_statement a x y p q h = subst (λ (w : tree.Statement). IsStatementOf a w y p q) h.0 (statement_of a y p q h.1 h.2)

  abbrev IsAgain : tree.Statement → Type 0
  IsAgain x = (a : Around) (y z : TypedStatement) (p q r s : Spot) → IsStatementOf a x y p q → IsStatementOf a x z r s → p ≡ r → OwnSpot p → (y ≡ z) × (q ≡ s) × OwnSpot q

  again_unique : (x : tree.Statement) → IsAgain x → IsStatementUnique x
  again_unique x f a y z p q r s h k o own = f a y z p q r s (is_statement a x y p q h) (is_statement a x z r s k) o own

  block_again : (at : Place) (items : tree.BlockItems) → AreItemsUnique items → IsAgain (tree.Block at items)
  block_again at items u a y z p q r s h k o own =
      let one = u a None h.0 k.0 (entered p) h.1 (entered r) k.1 h.2 k.2 (ap entered o) own in
      (h.4 ∙ ap (typed.Block at) one.0 ∙ sym k.4, h.3 ∙ ap left_behind one.1 ∙ sym k.3, subst OwnSpot (sym h.3) one.2)

  some_expr : (e f : TypedExpr) → Some e ≡ Some f → e ≡ f
  some_expr e f h = cc

  express_again : (e : tree.Expr) → IsAgain (tree.Express e)
  express_again e a y z p q r s h k o own =
      let one = dropped-one T D (Some e) (Some h.0) (Some k.0) p q r s h.1 k.1 o own in
      (h.2 ∙ ap typed.Express (some_expr h.0 k.0 one.0) ∙ sym k.2, one.1, one.2)

  leaf_again : (y z w : TypedStatement) (p q r s : Spot) → y ≡ w → z ≡ w → q ≡ p → s ≡ r → p ≡ r → OwnSpot p → (y ≡ z) × (q ≡ s) × OwnSpot q
  leaf_again y z w p q r s h k f g o own = (h ∙ sym k, f ∙ o ∙ sym g, subst OwnSpot (sym f) own)

  if_again : (at paren : Place) (c : tree.Expr) (x : tree.Statement) → IsStatementUnique x → IsAgain (tree.If at paren c x)
  if_again at paren c x u a y z p q r s h k o own =
      let one = both-one erased made_by (IsTested T) erased_statement made_by_statement (Inner a) c x (tested-one T D c) (inner_one a x u) h.0 k.0 h.1 k.1
      (entered p) h.2 (entered r) k.2 h.3 k.3 (ap entered o) own in
      let test = one.0 in
      let body = one.1 in
      let whole : typed.If at paren h.0 h.1 ≡ typed.If at paren k.0 k.1 = (λ i. typed.If at paren (test i) (body i)) in
      (h.5 ∙ whole ∙ sym k.5, h.4 ∙ ap left_behind one.2 ∙ sym k.4, subst OwnSpot (sym h.4) one.3)

  if_else_again : (at paren : Place) (c : tree.Expr) (x w : tree.Statement) → IsStatementUnique x → IsStatementUnique w → IsAgain (tree.IfElse at paren c x w)
  if_else_again at paren c x w u v a y z p q r s h k o own =
      let first = tested-one T D c h.0 k.0 (entered p) h.4.0 (entered r) k.4.0 h.4.1 k.4.1 (ap entered o) own in
      let rest = both-one erased_statement made_by_statement (Inner a) erased_statement made_by_statement (Inner a) x w (inner_one a x u) (inner_one a w v) h.1 k.1 h.2 k.2
      h.4.0 h.3 k.4.0 k.3 h.4.2 k.4.2 first.1 first.2 in
      let test = first.0 in
      let body = rest.0 in
      let other = rest.1 in
      let whole : typed.IfElse at paren h.0 h.1 h.2 ≡ typed.IfElse at paren k.0 k.1 k.2 = (λ i. typed.IfElse at paren (test i) (body i) (other i)) in
      (h.6 ∙ whole ∙ sym k.6, h.5 ∙ ap left_behind rest.2 ∙ sym k.5, subst OwnSpot (sym h.5) rest.3)

  while_again : (at paren : Place) (c : tree.Expr) (x : tree.Statement) → IsStatementUnique x → IsAgain (tree.While at paren c x)
  while_again at paren c x u a y z p q r s h k o own =
      let b = in_a_loop a in
      let one = both-one erased made_by (IsTested T) erased_statement made_by_statement (Inner b) c x (tested-one T D c) (inner_one b x u) h.0 k.0 h.1 k.1
      (entered p) h.2 (entered r) k.2 h.3 k.3 (ap entered o) own in
      let test = one.0 in
      let body = one.1 in
      let whole : typed.While at paren h.0 h.1 ≡ typed.While at paren k.0 k.1 = (λ i. typed.While at paren (test i) (body i)) in
      (h.5 ∙ whole ∙ sym k.5, h.4 ∙ ap left_behind one.2 ∙ sym k.4, subst OwnSpot (sym h.4) one.3)

  do_again : (x : tree.Statement) (at paren : Place) (c : tree.Expr) → IsStatementUnique x → IsAgain (tree.DoWhile x at paren c)
  do_again x at paren c u a y z p q r s h k o own =
      let b = in_a_loop a in
      let one = both-one erased_statement made_by_statement (Inner b) erased made_by (IsTested T) x c (inner_one b x u) (tested-one T D c) h.0 k.0 h.1 k.1
      (entered p) h.2 (entered r) k.2 h.3 k.3 (ap entered o) own in
      let body = one.0 in
      let test = one.1 in
      let whole : typed.DoWhile h.0 at paren h.1 ≡ typed.DoWhile k.0 at paren k.1 = (λ i. typed.DoWhile (body i) at paren (test i)) in
      (h.5 ∙ whole ∙ sym k.5, h.4 ∙ ap left_behind one.2 ∙ sym k.4, subst OwnSpot (sym h.4) one.3)

  -- the test and the step of a loop, and its body
  loop_again : (c d : Option tree.Expr) (x : tree.Statement) → IsStatementUnique x → (a : Around) (g m : Option TypedExpr) (y : TypedStatement) (f n : Option TypedExpr) (z : TypedStatement) (p q r s : Spot)
      → InBoth (IsTestOrNoneRead c g) (InBoth (IsDroppedRead d m) (IsInnerRead (in_a_loop a) x y)) p q → InBoth (IsTestOrNoneRead c f) (InBoth (IsDroppedRead d n) (IsInnerRead (in_a_loop a) x z)) r s
      → p ≡ r → OwnSpot p → (g ≡ f) × (m ≡ n) × (y ≡ z) × (q ≡ s) × OwnSpot q
  loop_again c d x u a g m y f n z p q r s h k o own =
      let first = tested-or-none T D c g f p h.0 r k.0 h.1 k.1 o own in
      let rest = both-one erased_optional made_by_optional (IsDropped T) erased_statement made_by_statement (Inner (in_a_loop a)) d x (dropped-one T D d) (inner_one (in_a_loop a) x u) m n y z h.0 q k.0 s h.2 k.2 first.1 first.2 in
      (first.0, rest.0, rest.1, rest.2, rest.3)

  for_again : (at paren : Place) (b c d : Option tree.Expr) (x : tree.Statement) → IsStatementUnique x → IsAgain (tree.For at paren b c d x)
  for_again at paren b c d x u a y z p q r s h k o own =
      let first = dropped-one T D b h.0 k.0 (entered p) h.5.0 (entered r) k.5.0 h.5.1 k.5.1 (ap entered o) own in
      let rest = loop_again c d x u a h.1 h.2 h.3 k.1 k.2 k.3 h.5.0 h.4 k.5.0 k.4 h.5.2 k.5.2 first.1 first.2 in
      let begin = first.0 in
      let test = rest.0 in
      let step = rest.1 in
      let body = rest.2 in
      let whole : typed.For at paren h.0 h.1 h.2 h.3 ≡ typed.For at paren k.0 k.1 k.2 k.3 = (λ i. typed.For at paren (begin i) (test i) (step i) (body i)) in
      (h.7 ∙ whole ∙ sym k.7, h.6 ∙ ap left_behind rest.3 ∙ sym k.6, subst OwnSpot (sym h.6) rest.4)

  for_declaration_again : (at paren : Place) (b : tree.Declaration) (c d : Option tree.Expr) (x : tree.Statement) → IsStatementUnique x → IsAgain (tree.ForDeclaration at paren b c d x)
  for_declaration_again at paren b c d x u a y z p q r s h k o own =
      let first = declaration-one T D false b h.0 k.0 (entered p) h.5.0 (entered r) k.5.0 h.5.1 k.5.1 (ap entered o) own in
      let rest = loop_again c d x u a h.1 h.2 h.3 k.1 k.2 k.3 h.5.0 h.4 k.5.0 k.4 h.5.2 k.5.2 first.1 first.2 in
      let begin = first.0 in
      let test = rest.0 in
      let step = rest.1 in
      let body = rest.2 in
      let whole : typed.ForDeclaration at paren h.0 h.1 h.2 h.3 ≡ typed.ForDeclaration at paren k.0 k.1 k.2 k.3 = (λ i. typed.ForDeclaration at paren (begin i) (test i) (step i) (body i)) in
      (h.7 ∙ whole ∙ sym k.7, h.6 ∙ ap left_behind rest.3 ∙ sym k.6, subst OwnSpot (sym h.6) rest.4)

  return_again : (at : Place) (e : Option tree.Expr) → IsAgain (tree.Return at e)
  return_again at e a y z p q r s h k o own =
      let one = returned-one T D at a.result e h.0 k.0 p q r s h.1 k.1 o own in
      (h.2 ∙ ap (typed.Return at) one.0 ∙ sym k.2, one.1, one.2)

  switch_again : (at paren : Place) (e : tree.Expr) (brace : Place) (items : tree.BlockItems) → AreItemsUnique items → IsAgain (tree.Switch at paren e brace items)
  switch_again at paren e brace items u a y z p q r s h k o own =
      let x = h.2 in
      let w = k.2 in
      let begin : Spot = record { known = with_scopes p.known x.inside; node = x.begin } in
      let begin' : Spot = record { known = with_scopes r.known w.inside; node = w.begin } in
      let first = with-value T D e h.0 k.0 x.inside w.inside (entered p) begin (entered r) begin' x.erases w.erases x.typed_value w.typed_value refl refl x.numbers w.numbers (ap entered o) own
      (λ alike. (prefix-one unary.Plus T D at h.0 k.0 (type_of h.0) (type_of k.0)
      (alike-plain (bare h.0) (bare k.0) alike (plain-over (bare h.0) x.switched.operand.operand.plain) (plain-over (bare k.0) w.switched.operand.operand.plain))
      x.switched.operand w.switched.operand).0) in
      let value = first.0 in
      let body = subst (λ (t : TypeId). AreItemsRead (in_a_switch a) (Some t) items k.1 (entered begin') w.last) (sym (ap type_of value)) w.body in
      let second = u (in_a_switch a) (Some (type_of h.0)) h.1 k.1 (entered begin) x.last (entered begin') w.last x.body body (ap entered first.1) first.2 in
      let list = second.0 in
      let whole : typed.Switch at paren h.0 brace h.1 ≡ typed.Switch at paren k.0 brace k.1 = (λ i. typed.Switch at paren (value i) brace (list i)) in
      (h.3 ∙ whole ∙ sym k.3, x.after ∙ ap (λ (m : Spot). left_behind (left_behind m)) second.1 ∙ sym w.after, subst OwnSpot (sym x.after) second.2)

  -- What a block holds

  record IsCase (on : Option TypeId) (x : tree.Expr) (e : TypedExpr) (z : ℤ) (p q : Spot) : Type 0 where
    inside : Scopes
    erases : erased e ≡ x
    typed_value : IsTyped T e p.known.scopes inside
    label : IsLabel T on e z
    after : q.known ≡ with_scopes p.known inside
    numbers : Numbers (made_by e) p.node q.node

  abbrev AreItemsOf : Around → Option TypeId → tree.BlockItems → TypedBlockItems → Spot → Spot → Type 0
  AreItemsOf a on tree.NoBlockItem y p q = (y ≡ typed.NoBlockItem) × (q ≡ p)
  AreItemsOf a on (tree.AndStatement all x) y p q = (list : TypedBlockItems) × (s : TypedStatement) × InBoth (AreItemsRead a on all list) (IsStatementRead a x s) p q × (y ≡ typed.AndStatement list s)
  AreItemsOf a on (tree.AndDeclaration all x) y p q = (list : TypedBlockItems) × (d : TypedDeclaration) × InBoth (AreItemsRead a on all list) (IsDeclarationRead x d) p q × (y ≡ typed.AndDeclaration list d)
  AreItemsOf a on (tree.AndCase all at x) y p q =
      (list : TypedBlockItems) × (e : TypedExpr) × (z : ℤ) × (m : Spot) × AreItemsRead a on all list p m × IsCase on x e z m q × (y ≡ typed.AndCase list at e z)
  AreItemsOf a on (tree.AndDefault all at) y p q = (list : TypedBlockItems) × AreItemsRead a on all list p q × (y ≡ typed.AndDefault list at)

  items_of : (a : Around) (on : Option TypeId) (y : TypedBlockItems) (p q : Spot) → AreBlockItems T a on y p.known q.known → Numbers (made_by_block_items y) p.node q.node
      → AreItemsOf a on (erased_block_items y) y p q
  items_of a on typed.NoBlockItem p q h k = (refl, spot-same q p h k)
  items_of a on (typed.AndStatement all s) p q h k =
      (all, s, in-both erased_block_items made_by_block_items (AreBlockItems T a on) erased_statement made_by_statement (IsStatement T a) all s h.0 p q h.1 h.2 k, refl)
  items_of a on (typed.AndDeclaration all d) p q h k =
      (all, d, in-both erased_block_items made_by_block_items (AreBlockItems T a on) erased_declaration made_by_declaration (IsDeclaration T false) all d h.0 p q h.1 h.2 k, refl)
  items_of a on (typed.AndCase all at e z) p q h k =
      let cut = two-parts (made_by_block_items all) (made_by e) p.node q.node k in
      (all, e, z, record { known = h.0; node = cut.0 }, (refl, h.2, cut.1), record { inside = h.1; erases = refl; typed_value = h.3; label = h.4; after = h.5; numbers = cut.2 }, refl)
  items_of a on (typed.AndDefault all at) p q h k = (all, (refl, h, k), refl)

  are_items : (a : Around) (on : Option TypeId) (x : tree.BlockItems) (y : TypedBlockItems) (p q : Spot) → AreItemsRead a on x y p q → AreItemsOf a on x y p q
  are_items a on x y p q h = subst (λ (w : tree.BlockItems). AreItemsOf a on w y p q) h.0 (items_of a on y p q h.1 h.2)

  no_item : AreItemsUnique tree.NoBlockItem
  no_item a on y z p q r s h k o own =
      let left = are_items a on tree.NoBlockItem y p q h in
      let right = are_items a on tree.NoBlockItem z r s k in
      (left.0 ∙ sym right.0, left.1 ∙ o ∙ sym right.1, subst OwnSpot (sym left.1) own)

  statement_item : (all : tree.BlockItems) (x : tree.Statement) → AreItemsUnique all → IsStatementUnique x → AreItemsUnique (tree.AndStatement all x)
  statement_item all x u v a on y z p q r s h k o own =
      let left = are_items a on (tree.AndStatement all x) y p q h in
      let right = are_items a on (tree.AndStatement all x) z r s k in
      let one = both-one erased_block_items made_by_block_items (AreBlockItems T a on) erased_statement made_by_statement (IsStatement T a) all x (u a on) (v a) left.0 right.0 left.1 right.1 p q r s left.2 right.2 o own in
      let list = one.0 in
      let last = one.1 in
      let whole : typed.AndStatement left.0 left.1 ≡ typed.AndStatement right.0 right.1 = (λ i. typed.AndStatement (list i) (last i)) in
      (left.3 ∙ whole ∙ sym right.3, one.2, one.3)

  declaration_item : (all : tree.BlockItems) (x : tree.Declaration) → AreItemsUnique all → AreItemsUnique (tree.AndDeclaration all x)
  declaration_item all x u a on y z p q r s h k o own =
      let left = are_items a on (tree.AndDeclaration all x) y p q h in
      let right = are_items a on (tree.AndDeclaration all x) z r s k in
      let one = both-one erased_block_items made_by_block_items (AreBlockItems T a on) erased_declaration made_by_declaration (IsDeclaration T false) all x (u a on) (declaration-one T D false x)
      left.0 right.0 left.1 right.1 p q r s left.2 right.2 o own in
      let list = one.0 in
      let last = one.1 in
      let whole : typed.AndDeclaration left.0 left.1 ≡ typed.AndDeclaration right.0 right.1 = (λ i. typed.AndDeclaration (list i) (last i)) in
      (left.3 ∙ whole ∙ sym right.3, one.2, one.3)

  case_item : (all : tree.BlockItems) (at : Place) (x : tree.Expr) → AreItemsUnique all → AreItemsUnique (tree.AndCase all at x)
  case_item all at x u a on y z p q r s h k o own =
      let left = are_items a on (tree.AndCase all at x) y p q h in
      let right = are_items a on (tree.AndCase all at x) z r s k in
      let b = left.5 in
      let c = right.5 in
      let first = u a on left.0 right.0 p left.3 r right.3 left.4 right.4 o own in
      let second = with-value T D x left.1 right.1 b.inside c.inside left.3 q right.3 s b.erases c.erases b.typed_value c.typed_value b.after c.after b.numbers c.numbers first.1 first.2
      (λ alike. plain-alike left.1 right.1 alike (label-plain T D on left.1 left.2 b.label) (label-plain T D on right.1 right.2 c.label)) in
      let list = first.0 in
      let value = second.0 in
      let number = label-same T D on left.1 right.1 left.2 right.2 value b.label c.label in
      let whole : typed.AndCase left.0 at left.1 left.2 ≡ typed.AndCase right.0 at right.1 right.2 = (λ i. typed.AndCase (list i) at (value i) (number i)) in
      (left.6 ∙ whole ∙ sym right.6, second.1, second.2)

  default_item : (all : tree.BlockItems) (at : Place) → AreItemsUnique all → AreItemsUnique (tree.AndDefault all at)
  default_item all at u a on y z p q r s h k o own =
      let left = are_items a on (tree.AndDefault all at) y p q h in
      let right = are_items a on (tree.AndDefault all at) z r s k in
      let one = u a on left.0 right.0 p q r s left.1 right.1 o own in
      (left.2 ∙ ap (λ (l : TypedBlockItems). typed.AndDefault l at) one.0 ∙ sym right.2, one.1, one.2)

  mutual
    statement-one : (x : tree.Statement) → IsStatementUnique x
    statement-one (tree.Block at items) = again_unique (tree.Block at items) (block_again at items (items-one items))
    statement-one (tree.Express e) = again_unique (tree.Express e) (express_again e)
    statement-one tree.Empty = again_unique tree.Empty (λ a y z p q r s h k o own. leaf_again y z typed.Empty p q r s h.0 k.0 h.1 k.1 o own)
    statement-one (tree.If at paren c x) = again_unique (tree.If at paren c x) (if_again at paren c x (statement-one x))
    statement-one (tree.IfElse at paren c x y) = again_unique (tree.IfElse at paren c x y) (if_else_again at paren c x y (statement-one x) (statement-one y))
    statement-one (tree.Switch at paren e brace items) = again_unique (tree.Switch at paren e brace items) (switch_again at paren e brace items (items-one items))
    statement-one (tree.While at paren c x) = again_unique (tree.While at paren c x) (while_again at paren c x (statement-one x))
    statement-one (tree.DoWhile x at paren c) = again_unique (tree.DoWhile x at paren c) (do_again x at paren c (statement-one x))
    statement-one (tree.For at paren b c d x) = again_unique (tree.For at paren b c d x) (for_again at paren b c d x (statement-one x))
    statement-one (tree.ForDeclaration at paren b c d x) = again_unique (tree.ForDeclaration at paren b c d x) (for_declaration_again at paren b c d x (statement-one x))
    statement-one (tree.Break at) = again_unique (tree.Break at) (λ a y z p q r s h k o own. leaf_again y z (typed.Break at) p q r s h.0 k.0 h.1 k.1 o own)
    statement-one (tree.Continue at) = again_unique (tree.Continue at) (λ a y z p q r s h k o own. leaf_again y z (typed.Continue at) p q r s h.0 k.0 h.1 k.1 o own)
    statement-one (tree.Return at e) = again_unique (tree.Return at e) (return_again at e)

    pub items-one : (x : tree.BlockItems) → AreItemsUnique x
    items-one tree.NoBlockItem = no_item
    items-one (tree.AndStatement all x) = statement_item all x (items-one all) (statement-one x)
    items-one (tree.AndDeclaration all x) = declaration_item all x (items-one all)
    items-one (tree.AndCase all at x) = case_item all at x (items-one all)
    items-one (tree.AndDefault all at) = default_item all at (items-one all)

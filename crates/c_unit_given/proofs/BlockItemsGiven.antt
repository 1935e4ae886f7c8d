-- What blocks hold is given, and blocks.
use Rattle.std.proofs.Common.{◌≡◌, ◌≤◌, ◌+◌, ◌==◌, ℕ, true, false, not, [], ◌∷◌, Option, Some, None, refl, ap, sym, subst, arith}
use Rattle.std.proofs.lemmas.Bool.Decides.{nat_tests}
use Rattle.cc_base.specs.declared.number.TypeId.{TypeId}
use Rattle.cc_base.specs.declared.place.Place.{Place}
use Rattle.cc_base.specs.declared.fault.Rule.TheVariants as rule
use Rattle.c_types.specs.Table.{Table}
use Rattle.c_tree.specs.Erasure.{erased_statement, erased_declaration, erased_block_items}
use Rattle.c_tree.specs.Tree as tree
use Rattle.c_tree.specs.TypedTree as typed
use Rattle.c_tree.specs.TypedTree.{TypedDeclaration, TypedStatement, TypedBlockItems}
use Rattle.c_tree.specs.TypedParts.{made_by_statement, made_by_declaration, made_by_block_items}
use Rattle.c_typing.specs.Settled.{IsBasic}
use Rattle.c_typing.specs.Tests.{broken_at}
use Rattle.c_typing_exact.proofs.Unbroken.{passes_one}
use Rattle.c_unit_rules_alike.specs.NamesThere.{IsTypeIf}
use Rattle.c_unit_typing.specs.DeclarationJudging.{judge_declaration}
use Rattle.c_unit_typing.specs.Holding.{statement_holds, declaration_holds, block_items_holds}
use Rattle.c_unit_typing.specs.StatementJudging.{default_label, judge_statement, judge_block_items}
use Rattle.c_unit_typing.specs.Units.{Known, Around, IsDeclaration, IsStatement, AreBlockItems, AreDifferent, labels_of, defaults_in}
use Rattle.c_unit_typing.specs.UnitJudging.{UnitState, UnitJudging, Gives, pure, ◌>>=◌}
use Rattle.c_unit_given.proofs.UnitGiven.{IsRun, IsKept, Nothing, And, HasType, AreSizesWritten, AreScopesKept, AreExpressionsGiven, AreDeclaratorsGiven}
use Rattle.c_unit_typing.specs.TypesUsed.{used_by_statement, used_by_declaration, used_by_block_items}
use Rattle.c_unit_given.proofs.DeclarationsGiven.{left-held, right-held}
use Rattle.c_unit_given.proofs.DeclarationTrees.{declaration-run}
use Rattle.c_unit_given.proofs.Runs.{obeying-is, run-then, run-last, run-as, run-none, nothing-kept, type-kept, both-kept}
use Rattle.c_unit_given.proofs.ScopesGiven.{within-run}
use Rattle.c_unit_given.proofs.StatementsGiven.{IsStatementRun}

-- a `case` stands in a `switch` only
pub no-labels : (T : Table) (a : Around) (items : TypedBlockItems) (k k' : Known) → AreBlockItems T a None items k k' → labels_of items ≡ []
no-labels T a typed.NoBlockItem k k' h = refl
no-labels T a (typed.AndStatement all s) k k' h = no-labels T a all k h.0 h.1
no-labels T a (typed.AndDeclaration all d) k k' h = no-labels T a all k h.0 h.1
no-labels T a (typed.AndCase all at e value) k k' h = absurd h.4
no-labels T a (typed.AndDefault all at) k k' h = no-labels T a all k k' h

if-kept : (on : Option TypeId) → IsKept (λ J. IsTypeIf J on)
if-kept None J U x b h = tt
if-kept (Some t) J U x b h = type-kept t J U x b h

module _ (T : Table) (basic : IsBasic T) (exprs : AreExpressionsGiven T) (scopes : AreScopesKept T) (decls : AreDeclaratorsGiven T) (sizes : AreSizesWritten T) where
  abbrev pub NeedsOf : Around → Option TypeId → Table → Type 0
  NeedsOf a on = And (HasType a.result) (λ J. IsTypeIf J on)

  pub needs-kept : (a : Around) (on : Option TypeId) → IsKept (NeedsOf a on)
  needs-kept a on = both-kept (HasType a.result) (λ J. IsTypeIf J on) (type-kept a.result) (if-kept on)

  -- no two labels of it are alike
  abbrev pub AreBlockItemsRun : TypedBlockItems → Type 0
  AreBlockItemsRun list =
      (a : Around) (on : Option TypeId) → AreDifferent (labels_of list) → defaults_in list ≤ 1 → block_items_holds (erased_block_items list) ≤ 256
      → IsRun T (NeedsOf a on) Nothing (AreBlockItems T a on list) (made_by_block_items list) (used_by_block_items T list) (judge_block_items a on (erased_block_items list)) list

  pub no-item-run : AreBlockItemsRun typed.NoBlockItem
  unfolding judge_block_items
  no-item-run a on labels defaults holds = run-none T (NeedsOf a on) Nothing (judge_block_items a on tree.NoBlockItem) typed.NoBlockItem (λ s here w. (refl, tt))

  pub and-statement-run : (all : TypedBlockItems) (x : TypedStatement) → AreBlockItemsRun all → IsStatementRun T basic exprs scopes x → AreBlockItemsRun (typed.AndStatement all x)
  unfolding judge_block_items
  and-statement-run all x p q a on labels defaults holds =
      let N = NeedsOf a on in
      let u = block_items_holds (erased_block_items all) in
      let v = statement_holds (erased_statement x) in
      let give : TypedStatement → UnitJudging TypedBlockItems = λ one. pure (typed.AndStatement all one) in
      let last =
      run-last T (And N Nothing) Nothing Nothing (both-kept N Nothing (needs-kept a on) nothing-kept) (IsStatement T a x) (made_by_statement x) (used_by_statement T x)
      (judge_statement a (erased_statement x)) give x (typed.AndStatement all x)
      (run-as T (HasType a.result) (And N Nothing) Nothing Nothing (IsStatement T a x) (IsStatement T a x) (made_by_statement x) (used_by_statement T x) (judge_statement a (erased_statement x)) x
      (λ J w. w.0.0) (λ J w. w) (λ k k' w. w) (q a (right-held u v 256 holds)))
      (λ r here w e. (refl, tt)) in
      run-then T N Nothing Nothing (needs-kept a on) (AreBlockItems T a on all) (IsStatement T a x) (made_by_block_items all) (made_by_statement x) (used_by_block_items T all) (used_by_statement T x)
      (judge_block_items a on (erased_block_items all)) (λ list. judge_statement a (erased_statement x) >>= (λ one. pure (typed.AndStatement list one))) all (typed.AndStatement all x)
      (p a on labels defaults (left-held u v 256 holds)) last

  pub and-declaration-run : (all : TypedBlockItems) (x : TypedDeclaration) → AreBlockItemsRun all → AreBlockItemsRun (typed.AndDeclaration all x)
  unfolding judge_block_items
  and-declaration-run all x p a on labels defaults holds =
      let N = NeedsOf a on in
      let u = block_items_holds (erased_block_items all) in
      let v = declaration_holds (erased_declaration x) in
      let give : TypedDeclaration → UnitJudging TypedBlockItems = λ one. pure (typed.AndDeclaration all one) in
      let last =
      run-last T (And N Nothing) Nothing Nothing (both-kept N Nothing (needs-kept a on) nothing-kept) (IsDeclaration T false x) (made_by_declaration x) (used_by_declaration T x)
      (judge_declaration false (erased_declaration x)) give x (typed.AndDeclaration all x)
      (run-as T Nothing (And N Nothing) Nothing Nothing (IsDeclaration T false x) (IsDeclaration T false x) (made_by_declaration x) (used_by_declaration T x)
      (judge_declaration false (erased_declaration x)) x (λ J w. tt) (λ J w. w) (λ k k' w. w)
      (declaration-run T basic exprs scopes decls sizes x false (right-held u v 256 holds)))
      (λ r here w e. (refl, tt)) in
      run-then T N Nothing Nothing (needs-kept a on) (AreBlockItems T a on all) (IsDeclaration T false x) (made_by_block_items all) (made_by_declaration x) (used_by_block_items T all)
      (used_by_declaration T x) (judge_block_items a on (erased_block_items all)) (λ list. judge_declaration false (erased_declaration x) >>= (λ one. pure (typed.AndDeclaration list one))) all
      (typed.AndDeclaration all x) (p a on labels defaults (left-held u v 256 holds)) last

  default_gives : (at : Place) (all : TypedBlockItems) (r : UnitState) → defaults_in all + 1 ≤ 1 → default_label at all r ≡ Gives (typed.AndDefault all at) r
  unfolding default_label
  default_gives at all r h =
      let none : not (defaults_in all == 0) ≡ false = no_other (defaults_in all) h in
      obeying-is (λ (s : UnitState). broken_at rule.Redeclared at (not (defaults_in all == 0)) ∷ []) (pure (typed.AndDefault all at)) r (Gives (typed.AndDefault all at) r)
      (passes_one rule.Redeclared at (not (defaults_in all == 0)) none) refl
    where
      no_other : (n : ℕ) → n + 1 ≤ 1 → not (n == 0) ≡ false
      no_other n h = let e : (n == 0) ≡ true = grind (arith, nat_tests) in ap not e

  pub and-default-run : (all : TypedBlockItems) (at : Place) → AreBlockItemsRun all → AreBlockItemsRun (typed.AndDefault all at)
  unfolding judge_block_items
  and-default-run all at p a on labels defaults holds =
      run-last T (NeedsOf a on) Nothing Nothing (needs-kept a on) (AreBlockItems T a on all) (made_by_block_items all) (used_by_block_items T all) (judge_block_items a on (erased_block_items all))
      (default_label at) all (typed.AndDefault all at) (p a on labels (omega (arith, defaults)) holds) (λ r here w e. (default_gives at all r defaults, tt))

  -- a block
  pub block-run : (brace : Place) (items : TypedBlockItems) → AreBlockItemsRun items → IsStatementRun T basic exprs scopes (typed.Block brace items)
  unfolding judge_statement
  block-run brace items p a holds s k n count here w h numbers uses room =
      let none = no-labels T a items _ h.0 h.1 in
      let N = HasType a.result in
      let m = judge_block_items a None (erased_block_items items) in
      let P = AreBlockItems T a None items in
      let xs = made_by_block_items items in
      let us = used_by_block_items T items in
      within-run T N Nothing P xs us (m >>= (λ list. pure (typed.Block brace list))) (typed.Block brace items) brace
      (run-last T N Nothing Nothing (type-kept a.result) P xs us m (λ list. pure (typed.Block brace list)) items (typed.Block brace items)
      (run-as T (NeedsOf a None) N Nothing Nothing P P xs us m items (λ J e. (e, tt)) (λ J e. e) (λ i j e. e) (p a None (subst AreDifferent (sym none) tt) h.3 holds))
      (λ r there e f. (refl, tt)))
      s k n count here w (h.0, h.1, h.2) numbers uses room

-- A literal that stands in braces by itself.
use Rattle.std.proofs.Common.{◌≡◌, ℕ, ◌+◌, suc, Bool, true, false, List, [], ◌∷◌, length, fold, map, Option, Some, None, refl, ap, sym, ◌∙◌, subst, zero-add, arith}
use Rattle.c_tree.specs.Literals.{pieces_bytes}
use Rattle.c_tree.specs.declared.leaf.StringPiece.{StringPiece}
use Rattle.c_tree.specs.Tree as tree
use Rattle.c_tree.specs.StatementViews.{items_of, initialiser_view}
use Rattle.c_tree.specs.TypedTree as typed
use Rattle.c_tree.specs.TypedStatementViews.{typed_initialiser_layer, typed_item_layer, typed_item_view}
use Rattle.c_tree.specs.Views.{added}
use Rattle.c_tree.specs.declared.typed_statement.TypedInitialiser.TheFolds.{fold_out-TypedItem}
use Rattle.c_tree.specs.declared.typed_statement.TypedItem.{TypedItem}
use Rattle.c_unit_typing.specs.Initialisers.{items_count}
use Rattle.c_tree.specs.declared.statement.Initialiser.{Initialiser}
use Rattle.c_check_declarations.specs.ListedViews.{only_literal}
use Rattle.c_unit_typing.specs.InitialiserJudging as judging
use Rattle.c_unit_typing.specs.UnitRefusals.{listed_written, count_written}

abbrev is_some : Option (List StringPiece) → Bool
is_some None = false
is_some (Some pieces) = true

abbrev size_by : Option (List StringPiece) → ℕ → ℕ
size_by None n = n
size_by (Some pieces) n = length (pieces_bytes pieces) + 1

literal_or_not : (items : tree.Items) → judging.is_only_literal items ≡ is_some (only_literal items)
literal_or_not tree.NoItem = refl
literal_or_not (tree.AndItem (tree.AndItem all i) j) = refl
literal_or_not (tree.AndItem (tree.AndMemberDesignator all at) j) = refl
literal_or_not (tree.AndItem (tree.AndIndexDesignator all at) j) = refl
literal_or_not (tree.AndItem tree.NoItem (tree.Listed brace items comma)) = refl
literal_or_not (tree.AndItem tree.NoItem (tree.Value (tree.String pieces))) = refl
literal_or_not (tree.AndItem tree.NoItem (tree.Value (tree.Name n))) = refl
literal_or_not (tree.AndItem tree.NoItem (tree.Value (tree.Integer type value at))) = refl
literal_or_not (tree.AndItem tree.NoItem (tree.Value (tree.Character value at))) = refl
literal_or_not (tree.AndItem tree.NoItem (tree.Value (tree.Paren at e))) = refl
literal_or_not (tree.AndItem tree.NoItem (tree.Value (tree.Index e at i))) = refl
literal_or_not (tree.AndItem tree.NoItem (tree.Value (tree.Call e at a))) = refl
literal_or_not (tree.AndItem tree.NoItem (tree.Value (tree.Member e op at n))) = refl
literal_or_not (tree.AndItem tree.NoItem (tree.Value (tree.Postfix e step at))) = refl
literal_or_not (tree.AndItem tree.NoItem (tree.Value (tree.Prefix op at e))) = refl
literal_or_not (tree.AndItem tree.NoItem (tree.Value (tree.SizeOfType at paren t))) = refl
literal_or_not (tree.AndItem tree.NoItem (tree.Value (tree.Cast at t e))) = refl
literal_or_not (tree.AndItem tree.NoItem (tree.Value (tree.Infix op a at b))) = refl
literal_or_not (tree.AndItem tree.NoItem (tree.Value (tree.Conditional c at a b))) = refl
literal_or_not (tree.AndItem tree.NoItem (tree.Value (tree.Assign op a at b))) = refl
literal_or_not (tree.AndItem tree.NoItem (tree.Value (tree.Comma a b))) = refl
literal_or_not (tree.AndItem tree.NoItem (tree.Value (tree.Compound at t brace))) = refl
literal_or_not (tree.AndItem tree.NoItem (tree.Value (tree.SizeOfCompound at paren t brace))) = refl
literal_or_not (tree.AndMemberDesignator all at) = refl
literal_or_not (tree.AndIndexDesignator all at) = refl

size_or_count : (items : tree.Items) → listed_written true items ≡ size_by (only_literal items) (count_written items)
size_or_count tree.NoItem = refl
size_or_count (tree.AndItem (tree.AndItem all i) j) = refl
size_or_count (tree.AndItem (tree.AndMemberDesignator all at) j) = refl
size_or_count (tree.AndItem (tree.AndIndexDesignator all at) j) = refl
size_or_count (tree.AndItem tree.NoItem (tree.Listed brace items comma)) = refl
size_or_count (tree.AndItem tree.NoItem (tree.Value (tree.String pieces))) = refl
size_or_count (tree.AndItem tree.NoItem (tree.Value (tree.Name n))) = refl
size_or_count (tree.AndItem tree.NoItem (tree.Value (tree.Integer type value at))) = refl
size_or_count (tree.AndItem tree.NoItem (tree.Value (tree.Character value at))) = refl
size_or_count (tree.AndItem tree.NoItem (tree.Value (tree.Paren at e))) = refl
size_or_count (tree.AndItem tree.NoItem (tree.Value (tree.Index e at i))) = refl
size_or_count (tree.AndItem tree.NoItem (tree.Value (tree.Call e at a))) = refl
size_or_count (tree.AndItem tree.NoItem (tree.Value (tree.Member e op at n))) = refl
size_or_count (tree.AndItem tree.NoItem (tree.Value (tree.Postfix e step at))) = refl
size_or_count (tree.AndItem tree.NoItem (tree.Value (tree.Prefix op at e))) = refl
size_or_count (tree.AndItem tree.NoItem (tree.Value (tree.SizeOfType at paren t))) = refl
size_or_count (tree.AndItem tree.NoItem (tree.Value (tree.Cast at t e))) = refl
size_or_count (tree.AndItem tree.NoItem (tree.Value (tree.Infix op a at b))) = refl
size_or_count (tree.AndItem tree.NoItem (tree.Value (tree.Conditional c at a b))) = refl
size_or_count (tree.AndItem tree.NoItem (tree.Value (tree.Assign op a at b))) = refl
size_or_count (tree.AndItem tree.NoItem (tree.Value (tree.Comma a b))) = refl
size_or_count (tree.AndItem tree.NoItem (tree.Value (tree.Compound at t brace))) = refl
size_or_count (tree.AndItem tree.NoItem (tree.Value (tree.SizeOfCompound at paren t brace))) = refl
size_or_count (tree.AndMemberDesignator all at) = refl
size_or_count (tree.AndIndexDesignator all at) = refl

pub is_literal : (items : tree.Items) (pieces : List StringPiece) → Some pieces ≡ only_literal items → judging.is_only_literal items ≡ true
is_literal items pieces h = literal_or_not items ∙ ap is_some (sym h)

pub is_no_literal : (items : tree.Items) → None ≡ only_literal items → judging.is_only_literal items ≡ false
is_no_literal items h = literal_or_not items ∙ ap is_some (sym h)

pub literal_size : (items : tree.Items) (pieces : List StringPiece) → Some pieces ≡ only_literal items → listed_written true items ≡ length (pieces_bytes pieces) + 1
literal_size items pieces h = size_or_count items ∙ ap (λ o. size_by o (count_written items)) (sym h)

pub other_size : (items : tree.Items) → None ≡ only_literal items → listed_written true items ≡ count_written items
other_size items h = size_or_count items ∙ ap (λ o. size_by o (count_written items)) (sym h)

shifted : (n m : ℕ) → (n + 1) + m ≡ n + suc m
shifted n m = omega arith

-- each is counted
pub count_listed : (xs : List Initialiser) → count_written (items_of (map initialiser_view xs)) ≡ length xs
count_listed xs = go tree.NoItem xs ∙ zero-add (length xs)
  where
    go : (all : tree.Items) (xs : List Initialiser) → count_written (fold tree.AndItem all (map initialiser_view xs)) ≡ count_written all + length xs
    go all [] = omega arith
    go all (x ∷ xs) = go (tree.AndItem all (initialiser_view x)) xs ∙ shifted (count_written all) (length xs)

-- each typed item is one
one_more : (x : TypedItem) (all : typed.TypedItems) → items_count (typed_item_view x all) ≡ items_count all + 1
one_more x all =
    subst (λ (add : typed.TypedItems → typed.TypedItems). items_count (add all) ≡ items_count all + 1)
    (sym (fold_out-TypedItem typed.TypedInitialiser (typed.TypedItems → typed.TypedItems) typed_initialiser_layer typed_item_layer x))
    refl

pub count_typed : (xs : List TypedItem) → items_count (added typed.NoItem (map typed_item_view xs)) ≡ length xs
count_typed xs = go typed.NoItem xs ∙ zero-add (length xs)
  where
    go : (all : typed.TypedItems) (xs : List TypedItem) → items_count (added all (map typed_item_view xs)) ≡ items_count all + length xs
    go all [] = omega arith
    go all (x ∷ xs) = go (typed_item_view x all) xs ∙ ap (λ n. n + length xs) (one_more x all) ∙ shifted (items_count all) (length xs)

-- What may be called for trees of less than a height may be called for all trees of a part that is no higher.
use Rattle.std.proofs.Common.{◌≡◌, ◌≤◌, ◌<◌, ℕ, zero, suc, max, Bool, List, [], ◌∷◌, map, length, get_or, None, Some, Result, ap, sym, subst, arith}
use Rattle.std.specs.Borrow.{Bor}
use Rattle.std.specs.List.{fold}
use denote.Ref.{MutBor}
use Rattle.cc_base.specs.declared.fault.Fault.{Fault}
use Rattle.cc_base.specs.declared.place.Place.{Place}
use Rattle.c_types.specs.Table.{Table}
use Rattle.c_tree.specs.declared.expr.Core.TheFolds.{fold_out-Part, fold_out-Enumerator}
use Rattle.c_tree.specs.declared.expr.Core.TheOpen as layer
use Rattle.c_tree.specs.declared.expr.Declarator.{Declarator}
use Rattle.c_tree.specs.declared.expr.Expr.{Expr}
use Rattle.c_tree.specs.declared.expr.Part.{Part}
use Rattle.c_tree.specs.declared.expr.Specifiers.{Specifiers}
use Rattle.c_tree.specs.declared.typed_expr.TypedForm.{TypedForm}
use Rattle.c_tree.specs.declared.typed_expr.TypedSpecifiers.{TypedSpecifiers}
use Rattle.c_tree.specs.Depth.{expr_height, declarator_height, specifier_height, arguments_height, specifiers_height, member_declarators_height, parts_height, enumerators_height, members_height, parameters_height}
use Rattle.c_tree.specs.Tree as tree
use Rattle.c_tree.specs.Views.{added, core_layer, enumerator_layer, expr_layer, part_layer, specifier_layer, declarator_layer, members_layer, parameter_layer, specifiers_layer, type_name_layer, part_view, enumerator_view, members_view, parameter_view}
use Rattle.c_typing.specs.declared.naming.Naming.{Naming}
use Rattle.c_typing.specs.declared.operand.Operand.{Operand}
use Rattle.c_typing.specs.Scopes.{Seen}
use Rattle.c_check_walk.specs.Nests.{Nests}
use Rattle.c_check_walk.proofs.PartsSeen.{parameter_seen, row_seen}
use Rattle.c_check_walk.proofs.SeriesLaws.{folded}

-- The height of a list is that of its highest element

-- of an element that is added to those before
abbrev pub Counts : {X A : Type 0} → (A → ℕ) → (X → A → A) → (X → ℕ) → Type 0
Counts {X} {A} height step low = (x : X) (a : A) → height (step x a) ≡ max (height a) (low x)

module _ {X A : Type 0} (height : A → ℕ) (step : X → A → A) (low : X → ℕ) (counts : Counts height step low) where
  before_within : (xs : List X) (a : A) → height a ≤ height (added a (map step xs))
  before_within [] a = omega arith
  before_within (x ∷ xs) a = let one = counts x a in let more = before_within xs (step x a) in omega (arith, one, more)

  element_within : (xs : List X) (i : ℕ) (x : X) → i < length xs → x ≡ get_or xs i x → (a : A) → low x ≤ height (added a (map step xs))
  element_within [] i x within here a = absurd (omega arith)
  element_within (y ∷ ys) zero x within here a =
      let one = counts y a in
      let more = before_within ys (step y a) in
      let le : low y ≤ height (added (step y a) (map step ys)) = omega (arith, one, more) in
      subst (λ z. low z ≤ height (added (step y a) (map step ys))) (sym here) le
  element_within (y ∷ ys) (suc i) x within here a = element_within ys i x (omega arith) here (step y a)

  no_less : (xs : List X) (a b : A) → height a ≤ height b → height (added a (map step xs)) ≤ height (added b (map step xs))
  no_less [] a b le = le
  no_less (x ∷ xs) a b le = let one = counts x a in let other = counts x b in no_less xs (step x a) (step x b) (omega (arith, one, other, le))

  rest_within : (x : X) (xs : List X) (a : A) → height (added a (map step xs)) ≤ height (added a (map step (x ∷ xs)))
  rest_within x xs a = let one = counts x a in no_less xs a (step x a) (omega (arith, one))

abbrev Layer : (Type 0 → Type 0 → Type 0 → Type 0 → Type 0 → Type 0 → Type 0 → Type 0 → Type 0 → Type 0 → Type 0) → Type 0
Layer L = L tree.Core (tree.Enumerators → tree.Enumerators) tree.Expr (tree.Parts → tree.Parts) tree.Specifier tree.Declarator
    (tree.Members → tree.Members) (tree.Parameters → tree.Parameters) tree.Specifiers tree.TypeName

-- of one whose height is seen where it is added to none
abbrev IsCounted : {A : Type 0} → (A → ℕ) → A → (A → A) → Type 0
IsCounted {A} height none add = (a : A) → height (add a) ≡ max (height a) (height (add none))

part_counted : (y : Layer layer.Part-F) → IsCounted parts_height tree.NoPart (part_layer y)
part_counted (layer.Array bracket words None) a = omega arith
part_counted (layer.Array bracket words (Some e)) a = omega arith
part_counted (layer.Function paren parameters) a = omega arith

pub parts_count : Counts parts_height part_view (λ p. parts_height (part_view p tree.NoPart))
parts_count p =
    subst (IsCounted parts_height tree.NoPart)
    (sym (fold_out-Part tree.Core (tree.Enumerators → tree.Enumerators) tree.Expr (tree.Parts → tree.Parts) tree.Specifier tree.Declarator
    (tree.Members → tree.Members) (tree.Parameters → tree.Parameters) tree.Specifiers tree.TypeName
    core_layer enumerator_layer expr_layer part_layer specifier_layer declarator_layer members_layer parameter_layer specifiers_layer type_name_layer p))
    (part_counted _)

enumerator_counted : (y : Layer layer.Enumerator-F) → IsCounted enumerators_height tree.NoEnumerator (enumerator_layer y)
enumerator_counted (layer.Plain name) a = omega arith
enumerator_counted (layer.Valued name at e) a = omega arith

pub enumerators_count : Counts enumerators_height enumerator_view (λ e. enumerators_height (enumerator_view e tree.NoEnumerator))
enumerators_count e =
    subst (IsCounted enumerators_height tree.NoEnumerator)
    (sym (fold_out-Enumerator tree.Core (tree.Enumerators → tree.Enumerators) tree.Expr (tree.Parts → tree.Parts) tree.Specifier tree.Declarator
    (tree.Members → tree.Members) (tree.Parameters → tree.Parameters) tree.Specifiers tree.TypeName
    core_layer enumerator_layer expr_layer part_layer specifier_layer declarator_layer members_layer parameter_layer specifiers_layer type_name_layer e))
    (enumerator_counted _)

pub members_count : Counts members_height members_view (λ row. members_height (members_view row tree.NoMember))
members_count row a =
    let one = ap members_height (row_seen row a) in
    let alone = ap members_height (row_seen row tree.NoMember) in
    omega (arith, one, alone)

pub parameters_count : Counts parameters_height parameter_view (λ one. parameters_height (parameter_view one tree.NoParameter))
parameters_count one a =
    let seen = ap parameters_height (parameter_seen one a) in
    let alone = ap parameters_height (parameter_seen one tree.NoParameter) in
    omega (arith, seen, alone)

-- of one that is added by itself
pub arguments_count : Counts arguments_height (λ e. λ all. tree.AndArgument all e) expr_height
arguments_count e a = omega arith

pub specifiers_count : Counts specifiers_height (λ one. λ all. tree.AndSpecifier all one) specifier_height
specifiers_count one a = omega arith

pub row_counts : Counts member_declarators_height (λ d. λ all. tree.AndDeclarator all d) declarator_height
row_counts d a = omega arith

-- What may be called for a part

module _ {ep : MutBor Seen → MutBor Table → Bool → Bor Expr → Type 0} {eq : MutBor Seen → MutBor Table → Bool → Bor Expr → Result Operand Fault → MutBor Seen → MutBor Table → Type 0}
    {sp : MutBor Seen → MutBor Table → Bor Specifiers → Type 0} {sq : MutBor Seen → MutBor Table → Bor Specifiers → Result TypedSpecifiers Fault → MutBor Seen → MutBor Table → Type 0}
    {fp : MutBor Seen → MutBor Table → Naming → Place → Bor Declarator → Type 0} {fq : MutBor Seen → MutBor Table → Naming → Place → Bor Declarator → Result TypedForm Fault → MutBor Seen → MutBor Table → Type 0} where
  pub nests-less : (m n : ℕ) → m ≤ n → Nests n ep eq sp sq fp fq → Nests m ep eq sp sq fp fq
  nests-less m n le h = record {
    expr_callable = λ scope types called e lt. h.expr_callable scope types called e (omega (arith, lt, le));
    expr_answers = λ scope after types later called e r lt. h.expr_answers scope after types later called e r (omega (arith, lt, le));
    expr_grows = λ scope after types later called e r lt. h.expr_grows scope after types later called e r (omega (arith, lt, le));
    specifiers_callable = λ scope types s lt. h.specifiers_callable scope types s (omega (arith, lt, le));
    specifiers_answers = λ scope after types later s r lt. h.specifiers_answers scope after types later s r (omega (arith, lt, le));
    specifiers_grows = λ scope after types later s r lt. h.specifiers_grows scope after types later s r (omega (arith, lt, le));
    form_callable = λ scope types which at one lt. h.form_callable scope types which at one (omega (arith, lt, le));
    form_answers = λ scope after types later which at one r lt. h.form_answers scope after types later which at one r (omega (arith, lt, le));
    form_grows = λ scope after types later which at one r lt. h.form_grows scope after types later which at one r (omega (arith, lt, le));
  }

  -- the same, where the height is seen by what may be called
  pub nests-within : (m n : ℕ) → Nests n ep eq sp sq fp fq → m ≤ n → Nests m ep eq sp sq fp fq
  nests-within m n h le = nests-less m n le h

  -- of two or three parts
  pub nests-first : (a b : ℕ) → Nests (suc (max a b)) ep eq sp sq fp fq → Nests (suc a) ep eq sp sq fp fq
  nests-first a b h = nests-less (suc a) (suc (max a b)) (omega arith) h

  pub nests-second : (a b : ℕ) → Nests (suc (max a b)) ep eq sp sq fp fq → Nests (suc b) ep eq sp sq fp fq
  nests-second a b h = nests-less (suc b) (suc (max a b)) (omega arith) h

  pub nests-middle : (a b c : ℕ) → Nests (suc (max a (max b c))) ep eq sp sq fp fq → Nests (suc b) ep eq sp sq fp fq
  nests-middle a b c h = nests-less (suc b) (suc (max a (max b c))) (omega arith) h

  pub nests-last : (a b c : ℕ) → Nests (suc (max a (max b c))) ep eq sp sq fp fq → Nests (suc c) ep eq sp sq fp fq
  nests-last a b c h = nests-less (suc c) (suc (max a (max b c))) (omega arith) h

  -- of a list's elements
  pub nests-each : {X A : Type 0} (height : A → ℕ) (step : X → A → A) (low : X → ℕ) → Counts height step low
      → (xs : List X) (i : ℕ) (x : X) → i < length xs → x ≡ get_or xs i x → (a : A) → Nests (suc (height (added a (map step xs)))) ep eq sp sq fp fq → Nests (suc (low x)) ep eq sp sq fp fq
  nests-each height step low counts xs i x within here a =
      let le = element_within height step low counts xs i x within here a in nests-less _ _ (omega (arith, le))

  pub nests-seen : {X Y A : Type 0} (height : A → ℕ) (add : A → Y → A) (view : X → Y) (low : Y → ℕ) → Counts height (λ y. λ a. add a y) low
      → (xs : List X) (i : ℕ) (x : X) → i < length xs → x ≡ get_or xs i x → (a : A) → Nests (suc (height (fold add a (map view xs)))) ep eq sp sq fp fq → Nests (suc (low (view x))) ep eq sp sq fp fq
  nests-seen height add view low counts xs i x within here a h =
      nests-each height (λ z. λ b. add b (view z)) (λ z. low (view z)) (λ z. counts (view z)) xs i x within here a
      (subst (λ (l : _). Nests (suc (height l)) ep eq sp sq fp fq) (sym (folded add view xs a)) h)

  -- of the part nearest to a name, and of those behind it
  pub nests-nearest : (part : Part) (rest : List Part) → Nests (suc (parts_height (added tree.NoPart (map part_view (part ∷ rest))))) ep eq sp sq fp fq → Nests (suc (parts_height (part_view part tree.NoPart))) ep eq sp sq fp fq
  nests-nearest part rest =
      let le = before_within parts_height part_view (λ p. parts_height (part_view p tree.NoPart)) parts_count rest (part_view part tree.NoPart) in
      nests-less _ _ (omega (arith, le))

  pub nests-behind : (part : Part) (rest : List Part) → Nests (suc (parts_height (added tree.NoPart (map part_view (part ∷ rest))))) ep eq sp sq fp fq → Nests (suc (parts_height (added tree.NoPart (map part_view rest)))) ep eq sp sq fp fq
  nests-behind part rest =
      let le = rest_within parts_height part_view (λ p. parts_height (part_view p tree.NoPart)) parts_count part rest tree.NoPart in
      nests-less _ _ (omega (arith, le))

pub ruleset nests = (nests-first, nests-second, nests-middle, nests-last)

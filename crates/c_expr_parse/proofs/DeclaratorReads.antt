-- The spelling of each declarator leads to it.
use Rattle.std.proofs.Common.{◌≡◌, ℕ, suc, ◌≤◌, true, false, Option, Some, is_some, List, [], ◌∷◌, ◌++◌, ◌⊎◌, inl, inr, refl, sym, ◌∙◌, ap, subst, append_assoc, arith}
use Rattle.std.proofs.lemmas.Bool.{or_right, or_from, true≢false}
use Rattle.cc_base.specs.declared.place.Place.{Place}
use Rattle.c_lexer.specs.declared.punctuator.Punctuator.TheVariants as mark
use Rattle.parse_rules.specs.Parsers.{Read, first, next, skip, pure, by_first}
use Rattle.parse_rules.specs.Grammars.{Language}
use Rattle.parse_rules.proofs.Completeness.{LeadsTo, equal, ◌▷◌, leads_next, leads_passes, leads_fails, leads_first, leads_loop_stops}
use Rattle.c_tree.specs.declared.leaf.Identifier.{Identifier}
use Rattle.c_tree.specs.declared.leaf.Star.{Star}
use Rattle.c_tree.specs.declared.leaf.Separator.TheVariants as separator
use Rattle.c_tree.specs.Depth.{core_height, declarator_height, parts_height}
use Rattle.c_tree.specs.Grammar.{Naming, WithName, WithoutName, WithOrWithout, MayName, MayOmitName, AreParameters, AreParts, IsCore, IsSome, IsDeclarator}
use Rattle.c_tree.specs.Spelling.{name_symbol, close_paren, core_spelling, declarator_spelling, parameters_spelling, parts_spelling, stars_spelling}
use Rattle.c_tree.specs.Symbols.{Symbol, Name, Mark, Bare}
use Rattle.c_tree.specs.Tree as tree
use Rattle.c_tree.specs.Words.{TypeNames, InBlock, is_type_name}
use Rattle.c_parse_words.specs.Tests.{is_close_paren, open_bracket, star_sign, qualifier_word, begins_declarator, begins_part, begins_parameters, CoreStart, CoreName, NoCore, core_start, is_core, may_name, may_omit_name}
use Rattle.c_parse_words.proofs.WordReads.{stars_read}
use Rattle.c_expr_parse.specs.DeclaratorRules.{part_step, parts_from, nested, unnamed_function, after_core_paren, unnamed, with_core, declarator_layer}
use Rattle.c_expr_parse.specs.Rules.{rules}
use Rattle.c_expr_parse.proofs.Complete.{EndsDeclarator, InnerReads}
use Rattle.c_expr_parse.proofs.DeclarationStarts.{declarator_starts, declarator_apart}
use Rattle.c_expr_parse.proofs.InitialiserReads.{leads_then}
use Rattle.c_expr_parse.proofs.Kept.{InnerKeeps}
use Rattle.c_expr_parse.proofs.PartReads.{FirstPart, NothingFirst, ArrayFirst, FunctionFirst, first_part, after_open, function_lead, parts_lead, parts_loop}
use Rattle.c_expr_parse.proofs.TypeNameReads.{bare_declarator, bare_begins_none, parameters_start}

-- How parts begin.

array_first : (x : tree.Parts) (open_ : Place) (rest : List Symbol) → first_part x ≡ ArrayFirst open_ → first (parts_spelling x ++ rest) ≡ Some (Mark mark.OpenBracket open_)
array_first tree.NoPart open_ rest e = cc
array_first (tree.AndArray tree.NoPart at words) open_ rest e = array_place at open_ e
  where
    array_place : (at open_ : Place) → ArrayFirst at ≡ ArrayFirst open_ → Some (Mark mark.OpenBracket at) ≡ Some (Mark mark.OpenBracket open_)
    array_place at open_ e = cc
array_first (tree.AndSizedArray tree.NoPart at words e') open_ rest e = cc
array_first (tree.AndFunction tree.NoPart at x) open_ rest e = cc
array_first (tree.AndArray (tree.AndArray before place words') at words) open_ rest e = rw (append_assoc (parts_spelling (tree.AndArray before place words')) _ rest) (array_first (tree.AndArray before place words') open_ _ e)
array_first (tree.AndSizedArray (tree.AndArray before place words') at words size) open_ rest e = rw (append_assoc (parts_spelling (tree.AndArray before place words')) _ rest) (array_first (tree.AndArray before place words') open_ _ e)
array_first (tree.AndFunction (tree.AndArray before place words') at x) open_ rest e = rw (append_assoc (parts_spelling (tree.AndArray before place words')) _ rest) (array_first (tree.AndArray before place words') open_ _ e)
array_first (tree.AndArray (tree.AndSizedArray before place words' e') at words) open_ rest e = rw (append_assoc (parts_spelling (tree.AndSizedArray before place words' e')) _ rest) (array_first (tree.AndSizedArray before place words' e') open_ _ e)
array_first (tree.AndSizedArray (tree.AndSizedArray before place words' e') at words size) open_ rest e = rw (append_assoc (parts_spelling (tree.AndSizedArray before place words' e')) _ rest) (array_first (tree.AndSizedArray before place words' e') open_ _ e)
array_first (tree.AndFunction (tree.AndSizedArray before place words' e') at x) open_ rest e = rw (append_assoc (parts_spelling (tree.AndSizedArray before place words' e')) _ rest) (array_first (tree.AndSizedArray before place words' e') open_ _ e)
array_first (tree.AndArray (tree.AndFunction before place x') at words) open_ rest e = rw (append_assoc (parts_spelling (tree.AndFunction before place x')) _ rest) (array_first (tree.AndFunction before place x') open_ _ e)
array_first (tree.AndSizedArray (tree.AndFunction before place x') at words size) open_ rest e = rw (append_assoc (parts_spelling (tree.AndFunction before place x')) _ rest) (array_first (tree.AndFunction before place x') open_ _ e)
array_first (tree.AndFunction (tree.AndFunction before place x') at x) open_ rest e = rw (append_assoc (parts_spelling (tree.AndFunction before place x')) _ rest) (array_first (tree.AndFunction before place x') open_ _ e)

function_first : (x : tree.Parts) (open_ : Place) (y : tree.Parameters) (rest : List Symbol) → first_part x ≡ FunctionFirst open_ y → first (parts_spelling x ++ rest) ≡ Some (Mark mark.OpenParen open_)
function_first tree.NoPart open_ y rest e = cc
function_first (tree.AndArray tree.NoPart at words) open_ y rest e = cc
function_first (tree.AndSizedArray tree.NoPart at words e') open_ y rest e = cc
function_first (tree.AndFunction tree.NoPart at x) open_ y rest e = cc
function_first (tree.AndArray (tree.AndArray before place words') at words) open_ y rest e = rw (append_assoc (parts_spelling (tree.AndArray before place words')) _ rest) (function_first (tree.AndArray before place words') open_ y _ e)
function_first (tree.AndSizedArray (tree.AndArray before place words') at words size) open_ y rest e = rw (append_assoc (parts_spelling (tree.AndArray before place words')) _ rest) (function_first (tree.AndArray before place words') open_ y _ e)
function_first (tree.AndFunction (tree.AndArray before place words') at x) open_ y rest e = rw (append_assoc (parts_spelling (tree.AndArray before place words')) _ rest) (function_first (tree.AndArray before place words') open_ y _ e)
function_first (tree.AndArray (tree.AndSizedArray before place words' e') at words) open_ y rest e = rw (append_assoc (parts_spelling (tree.AndSizedArray before place words' e')) _ rest) (function_first (tree.AndSizedArray before place words' e') open_ y _ e)
function_first (tree.AndSizedArray (tree.AndSizedArray before place words' e') at words size) open_ y rest e = rw (append_assoc (parts_spelling (tree.AndSizedArray before place words' e')) _ rest) (function_first (tree.AndSizedArray before place words' e') open_ y _ e)
function_first (tree.AndFunction (tree.AndSizedArray before place words' e') at x) open_ y rest e = rw (append_assoc (parts_spelling (tree.AndSizedArray before place words' e')) _ rest) (function_first (tree.AndSizedArray before place words' e') open_ y _ e)
function_first (tree.AndArray (tree.AndFunction before place x') at words) open_ y rest e = rw (append_assoc (parts_spelling (tree.AndFunction before place x')) _ rest) (function_first (tree.AndFunction before place x') open_ y _ e)
function_first (tree.AndSizedArray (tree.AndFunction before place x') at words size) open_ y rest e = rw (append_assoc (parts_spelling (tree.AndFunction before place x')) _ rest) (function_first (tree.AndFunction before place x') open_ y _ e)
function_first (tree.AndFunction (tree.AndFunction before place x') at x) open_ y rest e = rw (append_assoc (parts_spelling (tree.AndFunction before place x')) _ rest) (function_first (tree.AndFunction before place x') open_ y _ e)

module _ (names : TypeNames) (d : ℕ) (keeps : InnerKeeps names d) (inner : InnerReads names d) (g : Language) where
  parameters_begin : (x : tree.Parameters) (rest : List Symbol) → AreParameters g names x → begins_parameters names (first ((parameters_spelling x ++ close_paren) ++ rest)) ≡ true
  parameters_begin tree.NoParameter rest w = refl
  parameters_begin (tree.AndParameter before specifiers x) rest w =
      rw (append_assoc (parameters_spelling (tree.AndParameter before specifiers x)) close_paren rest)
      (or_right (is_close_paren (first (parameters_spelling (tree.AndParameter before specifiers x) ++ Bare separator.CloseParen ∷ rest))) _
      (parameters_start names d keeps inner g (tree.AndParameter before specifiers x) (Bare separator.CloseParen ∷ rest) w refl))

  -- behind the `(` of a function part that is the first, parameters begin
  function_begins : (x : tree.Parts) (open_ : Place) (y : tree.Parameters) (rest : List Symbol) → AreParts g names x → first_part x ≡ FunctionFirst open_ y → begins_parameters names (first (after_open (parts_spelling x ++ rest))) ≡ true
  function_begins tree.NoPart open_ y rest w e = cc
  function_begins (tree.AndArray tree.NoPart at words) open_ y rest w e = cc
  function_begins (tree.AndSizedArray tree.NoPart at words e') open_ y rest w e = cc
  function_begins (tree.AndFunction tree.NoPart at x) open_ y rest w e = parameters_begin x rest w.1
  function_begins (tree.AndArray (tree.AndArray before place words') at words) open_ y rest w e = rw (append_assoc (parts_spelling (tree.AndArray before place words')) _ rest) (function_begins (tree.AndArray before place words') open_ y _ w.0 e)
  function_begins (tree.AndSizedArray (tree.AndArray before place words') at words size) open_ y rest w e = rw (append_assoc (parts_spelling (tree.AndArray before place words')) _ rest) (function_begins (tree.AndArray before place words') open_ y _ w.0 e)
  function_begins (tree.AndFunction (tree.AndArray before place words') at x) open_ y rest w e = rw (append_assoc (parts_spelling (tree.AndArray before place words')) _ rest) (function_begins (tree.AndArray before place words') open_ y _ w.0 e)
  function_begins (tree.AndArray (tree.AndSizedArray before place words' e') at words) open_ y rest w e = rw (append_assoc (parts_spelling (tree.AndSizedArray before place words' e')) _ rest) (function_begins (tree.AndSizedArray before place words' e') open_ y _ w.0 e)
  function_begins (tree.AndSizedArray (tree.AndSizedArray before place words' e') at words size) open_ y rest w e = rw (append_assoc (parts_spelling (tree.AndSizedArray before place words' e')) _ rest) (function_begins (tree.AndSizedArray before place words' e') open_ y _ w.0 e)
  function_begins (tree.AndFunction (tree.AndSizedArray before place words' e') at x) open_ y rest w e = rw (append_assoc (parts_spelling (tree.AndSizedArray before place words' e')) _ rest) (function_begins (tree.AndSizedArray before place words' e') open_ y _ w.0 e)
  function_begins (tree.AndArray (tree.AndFunction before place x') at words) open_ y rest w e = rw (append_assoc (parts_spelling (tree.AndFunction before place x')) _ rest) (function_begins (tree.AndFunction before place x') open_ y _ w.0 e)
  function_begins (tree.AndSizedArray (tree.AndFunction before place x') at words size) open_ y rest w e = rw (append_assoc (parts_spelling (tree.AndFunction before place x')) _ rest) (function_begins (tree.AndFunction before place x') open_ y _ w.0 e)
  function_begins (tree.AndFunction (tree.AndFunction before place x') at x) open_ y rest w e = rw (append_assoc (parts_spelling (tree.AndFunction before place x')) _ rest) (function_begins (tree.AndFunction before place x') open_ y _ w.0 e)

no_part : (x : tree.Parts) → first_part x ≡ NothingFirst → x ≡ tree.NoPart
no_part tree.NoPart e = refl
no_part (tree.AndArray tree.NoPart at words) e = cc
no_part (tree.AndSizedArray tree.NoPart at words e') e = cc
no_part (tree.AndFunction tree.NoPart at x) e = cc
no_part (tree.AndArray (tree.AndArray before place words') at words) e = cc (no_part (tree.AndArray before place words') e)
no_part (tree.AndSizedArray (tree.AndArray before place words') at words size) e = cc (no_part (tree.AndArray before place words') e)
no_part (tree.AndFunction (tree.AndArray before place words') at x) e = cc (no_part (tree.AndArray before place words') e)
no_part (tree.AndArray (tree.AndSizedArray before place words' e') at words) e = cc (no_part (tree.AndSizedArray before place words' e') e)
no_part (tree.AndSizedArray (tree.AndSizedArray before place words' e') at words size) e = cc (no_part (tree.AndSizedArray before place words' e') e)
no_part (tree.AndFunction (tree.AndSizedArray before place words' e') at x) e = cc (no_part (tree.AndSizedArray before place words' e') e)
no_part (tree.AndArray (tree.AndFunction before place x') at words) e = cc (no_part (tree.AndFunction before place x') e)
no_part (tree.AndSizedArray (tree.AndFunction before place x') at words size) e = cc (no_part (tree.AndFunction before place x') e)
no_part (tree.AndFunction (tree.AndFunction before place x') at x) e = cc (no_part (tree.AndFunction before place x') e)

-- Next tokens.

part_apart : (next : Option Symbol) → begins_part next ≡ true → (is_some (qualifier_word next) ≡ false) × (is_some (star_sign next) ≡ false)
part_apart (Some (Mark mark.OpenBracket at)) e = (refl, refl)
part_apart (Some (Mark mark.OpenParen at)) e = (refl, refl)
part_apart next e = cc

no_close_paren : (names : TypeNames) (naming : Naming) (next : Option Symbol) → begins_declarator names naming next ≡ true → is_close_paren next ≡ false
no_close_paren names naming (Some (Bare separator.CloseParen)) e = absurd (true≢false (sym e ∙ bare_begins_none names naming separator.CloseParen))
no_close_paren names naming (Some (Name bytes at)) e = refl
no_close_paren names naming next e = refl

-- a declarator begins no parameters
no_parameters : (g : Language) (names : TypeNames) (naming : Naming) (x : tree.Declarator) (rest : List Symbol) → IsDeclarator g names naming x → begins_parameters names (first (declarator_spelling x ++ rest)) ≡ false
no_parameters g names naming x rest w =
    or_from (is_close_paren (first (declarator_spelling x ++ rest))) _ (no_close_paren names naming _ (declarator_starts g names naming x rest w)) (declarator_apart names naming InBlock _ (declarator_starts g names naming x rest w)).no_specifier

may_have : (naming : Naming) → MayName naming → may_name naming ≡ true
may_have WithName h = refl
may_have WithoutName h = absurd h
may_have WithOrWithout h = refl

may_lack : (naming : Naming) → MayOmitName naming → may_omit_name naming ≡ true
may_lack WithName h = absurd h
may_lack WithoutName h = refl
may_lack WithOrWithout h = refl

core_name_told : (names : TypeNames) (naming : Naming) (name : Identifier) → MayName naming → is_type_name names name.bytes ≡ false → core_start names naming (Some (name_symbol name)) ≡ CoreName name
core_name_told names naming name may plain = rw (may_have naming may, plain) refl

no_core_told : (k : CoreStart) → is_core k ≡ false → k ≡ NoCore
no_core_told NoCore e = refl
no_core_told (CoreName name) e = cc
no_core_told k e = cc

skip_is : (ts : List Symbol) (t : Symbol) → first ts ≡ Some t → skip ts ≡ Read t (after_open ts)
skip_is [] t e = cc
skip_is (u ∷ ts) t e =
    let same : u ≡ t = cc in
    ap (λ z. Read z ts) same

-- What follows the stars.

module _ (names : TypeNames) (d : ℕ) (keeps : InnerKeeps names d) (inner : InnerReads names d) (g : Language) (naming : Naming) (stars : List Star) (parts : tree.Parts) (rest : List Symbol)
    (w : AreParts g names parts) (low : parts_height parts ≤ d) (ends : EndsDeclarator names naming (first rest)) where
  -- all the parts after a core
  parts_read : (core : tree.Core) → LeadsTo g (parts_from names (rules names d) stars core tree.NoPart (parts_spelling parts ++ rest)) (Read (tree.Declares stars core parts) rest)
  unfolding parts_from
  parts_read core =
      leads_next _ (parts_lead names d keeps inner g parts w low rest ▷ leads_loop_stops (λ _. begins_part) (part_step names (rules names d)) parts rest ends.no_part) (equal refl)

  nested_reads : (at : Place) (x : tree.Declarator) → IsDeclarator g names naming x → declarator_height x ≤ d
      → LeadsTo g (nested names (rules names d) naming stars at (declarator_spelling x ++ Bare separator.CloseParen ∷ (parts_spelling parts ++ rest))) (Read (tree.Declares stars (tree.Nested at x) parts) rest)
  unfolding nested
  nested_reads at x wx low_x =
      leads_next _ (inner.declarator g naming x (Bare separator.CloseParen ∷ (parts_spelling parts ++ rest)) wx low_x (bare_declarator names naming separator.CloseParen)) (parts_read (tree.Nested at x))

  after_paren_reads : (n : Naming) → naming ≡ n → (at : Place) (x : tree.Declarator) → IsDeclarator g names naming x → declarator_height x ≤ d
      → LeadsTo g (after_core_paren names (rules names d) n stars at (declarator_spelling x ++ Bare separator.CloseParen ∷ (parts_spelling parts ++ rest))) (Read (tree.Declares stars (tree.Nested at x) parts) rest)
  unfolding after_core_paren
  after_paren_reads WithName same at x wx low_x = subst (λ n. LeadsTo g (nested names (rules names d) n stars at (declarator_spelling x ++ Bare separator.CloseParen ∷ (parts_spelling parts ++ rest))) (Read (tree.Declares stars (tree.Nested at x) parts) rest)) same (nested_reads at x wx low_x)
  after_paren_reads WithoutName same at x wx low_x =
      leads_fails _ (no_parameters g names naming x (Bare separator.CloseParen ∷ (parts_spelling parts ++ rest)) wx)
      (subst (λ n. LeadsTo g (nested names (rules names d) n stars at (declarator_spelling x ++ Bare separator.CloseParen ∷ (parts_spelling parts ++ rest))) (Read (tree.Declares stars (tree.Nested at x) parts) rest)) same (nested_reads at x wx low_x))
  after_paren_reads WithOrWithout same at x wx low_x =
      leads_fails _ (no_parameters g names naming x (Bare separator.CloseParen ∷ (parts_spelling parts ++ rest)) wx)
      (subst (λ n. LeadsTo g (nested names (rules names d) n stars at (declarator_spelling x ++ Bare separator.CloseParen ∷ (parts_spelling parts ++ rest))) (Read (tree.Declares stars (tree.Nested at x) parts) rest)) same (nested_reads at x wx low_x))

  -- no name, and a function part first
  unnamed_function_reads : (at : Place) (y : tree.Parameters) → first_part parts ≡ FunctionFirst at y
      → LeadsTo g (unnamed_function names (rules names d) stars at (after_open (parts_spelling parts ++ rest))) (Read (tree.Declares stars tree.Unnamed parts) rest)
  unfolding unnamed_function parts_from
  unnamed_function_reads at y e =
      leads_then _ (parts_loop names d) (λ x. pure (tree.Declares stars tree.Unnamed x)) (function_lead names d keeps inner g parts at y w low e rest)
      (leads_next _ (leads_loop_stops (λ _. begins_part) (part_step names (rules names d)) parts rest ends.no_part) (equal refl))

  after_function_paren : (n : Naming) → MayOmitName n → (at : Place) (y : tree.Parameters) → first_part parts ≡ FunctionFirst at y
      → LeadsTo g (after_core_paren names (rules names d) n stars at (after_open (parts_spelling parts ++ rest))) (Read (tree.Declares stars tree.Unnamed parts) rest)
  unfolding after_core_paren
  after_function_paren WithName may at y e = absurd may
  after_function_paren WithoutName may at y e = leads_passes _ (function_begins names d keeps inner g parts at y rest w e) (unnamed_function_reads at y e)
  after_function_paren WithOrWithout may at y e = leads_passes _ (function_begins names d keeps inner g parts at y rest w e) (unnamed_function_reads at y e)

  abbrev Core : tree.Core → Type 0
  Core core = LeadsTo g (by_first (core_start names naming) (with_core names (rules names d) naming stars) (core_spelling core ++ (parts_spelling parts ++ rest))) (Read (tree.Declares stars core parts) rest)

  name_reads : (name : Identifier) → MayName naming → is_type_name names name.bytes ≡ false → Core (tree.Names name)
  unfolding with_core
  name_reads name may plain =
      leads_first (core_start names naming) (with_core names (rules names d) naming stars) (name_symbol name ∷ (parts_spelling parts ++ rest)) (core_name_told names naming name may plain) (parts_read (tree.Names name))

  paren_reads : (at : Place) (x : tree.Declarator) → IsDeclarator g names naming x → declarator_height x ≤ d → Core (tree.Nested at x)
  unfolding with_core
  paren_reads at x wx low_x = rw (append_assoc (declarator_spelling x) close_paren (parts_spelling parts ++ rest)) (after_paren_reads naming refl at x wx low_x)

  function_reads : (at : Place) (y : tree.Parameters) → MayOmitName naming → first_part parts ≡ FunctionFirst at y → Core tree.Unnamed
  unfolding with_core
  function_reads at y may e =
      leads_first (core_start names naming) (with_core names (rules names d) naming stars) (parts_spelling parts ++ rest) (ap (core_start names naming) (function_first parts at y rest e))
      (leads_next _ (equal (skip_is (parts_spelling parts ++ rest) (Mark mark.OpenParen at) (function_first parts at y rest e))) (after_function_paren naming may at y e))

  -- no name, and no function part first
  unnamed_reads : (stars' : List Star) → stars ≡ stars' → (is_some (open_bracket (first (parts_spelling parts ++ rest))) ≡ true) ⊎ (stars' ≡ [] → ⊥)
      → LeadsTo g (unnamed names (rules names d) stars' (parts_spelling parts ++ rest)) (Read (tree.Declares stars tree.Unnamed parts) rest)
  unfolding unnamed
  unnamed_reads [] same (inl bracket) = leads_passes _ bracket (subst (λ z. LeadsTo g (parts_from names (rules names d) z tree.Unnamed tree.NoPart (parts_spelling parts ++ rest)) (Read (tree.Declares stars tree.Unnamed parts) rest)) same (parts_read tree.Unnamed))
  unnamed_reads [] same (inr some) = absurd (some refl)
  unnamed_reads (star ∷ stars') same either = subst (λ z. LeadsTo g (parts_from names (rules names d) z tree.Unnamed tree.NoPart (parts_spelling parts ++ rest)) (Read (tree.Declares stars tree.Unnamed parts) rest)) same (parts_read tree.Unnamed)

  no_core_reads : MayOmitName naming → core_start names naming (first (parts_spelling parts ++ rest)) ≡ NoCore → (is_some (open_bracket (first (parts_spelling parts ++ rest))) ≡ true) ⊎ (stars ≡ [] → ⊥) → Core tree.Unnamed
  unfolding with_core
  no_core_reads may told either =
      let here : LeadsTo g (with_core names (rules names d) naming stars NoCore (parts_spelling parts ++ rest)) (Read (tree.Declares stars tree.Unnamed parts) rest) = rw (may_lack naming may) (unnamed_reads stars refl either) in
      leads_first (core_start names naming) (with_core names (rules names d) naming stars) (parts_spelling parts ++ rest) told here

  -- the core is read, and the tokens from it on go on with no stars
  no_name_reads : MayOmitName naming → IsSome stars tree.Unnamed parts → (k : FirstPart) → first_part parts ≡ k → Core tree.Unnamed
  no_name_reads may some (ArrayFirst at) e =
      no_core_reads may (ap (core_start names naming) (array_first parts at rest e)) (inl (ap (λ t. is_some (open_bracket t)) (array_first parts at rest e)))
  no_name_reads may some (FunctionFirst at y) e = function_reads at y may e
  no_name_reads may some NothingFirst e =
      let none : parts ≡ tree.NoPart = no_part parts e in
      no_core_reads may (subst (λ x. core_start names naming (first (parts_spelling x ++ rest)) ≡ NoCore) (sym none) (no_core_told (core_start names naming (first rest)) ends.no_core))
      (inr (λ empty. no_some (subst (λ x. IsSome x tree.Unnamed tree.NoPart) empty (subst (λ x. IsSome stars tree.Unnamed x) none some))))
    where
      no_some : IsSome [] tree.Unnamed tree.NoPart → ⊥
      no_some h = h

  core_reads : (core : tree.Core) → IsCore g names naming core → core_height core ≤ d → IsSome stars core parts → Core core
  core_reads (tree.Names name) wc low_c some = name_reads name wc.0 wc.1
  core_reads tree.Unnamed wc low_c some = no_name_reads wc some (first_part parts) refl
  core_reads (tree.Nested at x) wc low_c some = paren_reads at x wc low_c

  -- behind the stars comes neither a qualifier nor a further star
  after_stars : (core : tree.Core) → (is_some (qualifier_word (first (core_spelling core ++ (parts_spelling parts ++ rest)))) ≡ false) × (is_some (star_sign (first (core_spelling core ++ (parts_spelling parts ++ rest)))) ≡ false)
  after_stars (tree.Names name) = (refl, refl)
  after_stars (tree.Nested at x) = (refl, refl)
  after_stars tree.Unnamed = by_first_part (first_part parts) refl
    where
      by_first_part : (k : FirstPart) → first_part parts ≡ k → (is_some (qualifier_word (first (parts_spelling parts ++ rest))) ≡ false) × (is_some (star_sign (first (parts_spelling parts ++ rest))) ≡ false)
      by_first_part NothingFirst e =
          let none : parts ≡ tree.NoPart = no_part parts e in
          subst (λ x. (is_some (qualifier_word (first (parts_spelling x ++ rest))) ≡ false) × (is_some (star_sign (first (parts_spelling x ++ rest))) ≡ false)) (sym none) (ends.no_qualifier, ends.no_star)
      by_first_part (ArrayFirst at) e = part_apart (first (parts_spelling parts ++ rest)) (ap begins_part (array_first parts at rest e))
      by_first_part (FunctionFirst at y) e = part_apart (first (parts_spelling parts ++ rest)) (ap begins_part (function_first parts at y rest e))

-- the declarator, where one node more is allowed than below
pub declarator_reads : (names : TypeNames) (d : ℕ) → InnerKeeps names d → InnerReads names d → (g : Language) (naming : Naming) (x : tree.Declarator) (rest : List Symbol)
    → IsDeclarator g names naming x → declarator_height x ≤ suc d → EndsDeclarator names naming (first rest) → LeadsTo g ((rules names (suc d)).declarator naming (declarator_spelling x ++ rest)) (Read x rest)
unfolding rules declarator_layer
declarator_reads names d keeps inner g naming (tree.Declares stars core parts) rest w low ends =
    let apart = after_stars names d keeps inner g naming stars parts rest w.2 (omega arith) ends core in
    rw (flat)
    (leads_next (λ stars'. by_first (core_start names naming) (with_core names (rules names d) naming stars')) (stars_read d g [] stars (core_spelling core ++ (parts_spelling parts ++ rest)) w.0 apart.0 apart.1)
    (core_reads names d keeps inner g naming stars parts rest w.2 (omega arith) ends core w.1 (omega arith) w.3))
  where
    flat : (stars_spelling stars ++ (core_spelling core ++ parts_spelling parts)) ++ rest ≡ stars_spelling stars ++ (core_spelling core ++ (parts_spelling parts ++ rest))
    flat = simp append_assoc

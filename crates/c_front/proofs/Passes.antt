-- What each pass says of the whole text.
use Rattle.std.proofs.Common.{◌≡◌, ◌≢◌, ℕ, ◌≤◌, ◌<◌, ◌⊎◌, List, map, length, Result, Ok, Err, IfErr, IsOkAnd, inl, inr, sym, ap, ◌∙◌, subst, refl, arith}
use Rattle.std.proofs.lemmas.List.{length-map}
use Rattle.cc_base.specs.declared.place.Place.{Place}
use Rattle.cc_base.specs.declared.fault.Rule.{Rule}
use Rattle.cc_base.specs.declared.fault.Fault.{Fault}
use Rattle.cc_base.specs.declared.fault.Fault.TheVariants.{Refused, TooLarge, NoMemory}
use Rattle.parse_rules.specs.Grammars.{Supported}
use Rattle.c_lexer.specs.Cut.{IsCut, IsLexicalFault}
use Rattle.c_lexer.specs.Tokens.{Token}
use Rattle.c_lexer.proofs.FewTokens.{few_tokens}
use Rattle.c_types.specs.Table.{Table}
use Rattle.c_tree.specs.Depth.{unit_height}
use Rattle.c_tree.specs.Erasure.{erased_unit}
use Rattle.c_tree.specs.Spelling.{unit_spelling}
use Rattle.c_tree.specs.Symbols.{symbol_of}
use Rattle.c_tree.specs.Tree.{TranslationUnit}
use Rattle.c_tree.specs.TypedTree.{TypedTranslationUnit}
use Rattle.c_tree.specs.declared.typed_unit.Typed.{Typed}
use Rattle.c_expr_parse.specs.Calls.{IsFault}
use Rattle.c_parser.specs.Answers.{SpellsUnit, UnitAnswered}
use Rattle.c_unit_given.specs.Tokens.{HasFewTokens}
use Rattle.c_unit_typing.specs.DefinitionJudging.{before_unit}
use Rattle.c_unit_typing.specs.Limits.{IsWithinLimits}
use Rattle.c_unit_typing.specs.UnitJudging.{known_of}
use Rattle.c_unit_typing.specs.UnitRefusals.{RefusesUnit}
use Rattle.c_unit_typing.specs.WellTyped.{IsWellTyped}
use Rattle.c_check.specs.Judged.{IsAccepted, IsAnswered}
use Rattle.c_front.specs.Accepted.{IsTypedText, IsUnitOf}
use Rattle.c_front.specs.Refused.{IsFirstRefusal, uncut, unread, ill_typed}

pub uncut_so : (text : List ℕ) (fault : Fault) → IsLexicalFault text fault → fault ≢ NoMemory → IsFirstRefusal text fault
uncut_so text (Refused place rule) is wants = uncut place rule refl is
uncut_so text (TooLarge place limit) is wants = absurd is
uncut_so text NoMemory is wants = absurd (wants refl)

pub unread_so : {A : Type 0} (text : List ℕ) (tokens : List Token) (r : Result A Fault) → IsCut text tokens
    → IfErr r (IsFault (UnitAnswered 256 (map symbol_of tokens)) text tokens) → IfErr r (λ fault. fault ≢ NoMemory → IsFirstRefusal text fault)
unread_so text tokens (Ok a) cut is = tt {0}
unread_so text tokens (Err (Refused place rule)) cut is = λ wants. unread tokens cut is
unread_so text tokens (Err (TooLarge place limit)) cut is = λ wants. unread tokens cut is
unread_so text tokens (Err NoMemory) cut is = λ wants. absurd (wants refl)

pub ill_typed_so : (text : List ℕ) (unit : TranslationUnit) (r : Result Typed Fault) → IsUnitOf text unit → IsAnswered unit r
    → ((p : Place) (rule : Rule) → r ≡ Err (Refused p rule) → (T : Table) × RefusesUnit T unit (known_of (before_unit unit)) (Refused p rule))
    → IfErr r (λ fault. fault ≢ NoMemory → IsFirstRefusal text fault)
ill_typed_so text unit (Ok t) is answered refuses = tt {0}
ill_typed_so text unit (Err fault) is answered refuses =
    λ wants. ill_typed unit is (record { stops = answered wants; breaks = λ p rule e. refuses p rule (ap Err e) })

-- the unit of a text is spelled with few tokens
few : (text : List ℕ) (unit : TranslationUnit) → length text ≤ 1048576 → IsUnitOf text unit → HasFewTokens unit
few text unit short is =
    let most = few_tokens text is.tokens is.cut in
    let spelled : length (map symbol_of is.tokens) ≡ length (unit_spelling unit) = ap length is.spells.spelled in
    let as_many : length (map symbol_of is.tokens) ≡ length is.tokens = length-map is.tokens symbol_of in
    omega arith

-- what holds of a success, or else of its failure, holds
pub of_success : {P B E : Type 0} (b : B) (e : E) → P ⊎ (◌≡◌ {A = Result B E} (Ok b) (Err e)) → P
of_success b e (inl p) = p
of_success b e (inr other) = absurd (cc (other))

pub of_failure : {B E : Type 0} (f e : E) → ⊥ ⊎ (◌≡◌ {A = Result B E} (Err f) (Err e)) → f ≡ e
of_failure f e (inl none) = absurd none
of_failure f e (inr same) = cc (same)

-- the tokens are the only ones, so a unit of the text is one that they spell
pub read_so : {A : Type 0} (text : List ℕ) (tokens : List Token) (r : Result A Fault) (P : TranslationUnit → A → Type 0)
    → ((list : List Token) → IsCut text list → tokens ≡ list)
    → ((unit : TranslationUnit) → SpellsUnit Supported unit (map symbol_of tokens) → unit_height unit ≤ 256 → IsOkAnd r (P unit) ⊎ (r ≡ Err NoMemory))
    → (unit : TranslationUnit) → IsUnitOf text unit → IsOkAnd r (P unit) ⊎ (r ≡ Err NoMemory)
read_so text tokens r P one accepts unit is =
    accepts unit (subst (λ l. SpellsUnit Supported unit (map symbol_of l)) (sym (one is.tokens is.cut)) is.spells) is.low

pub given_so : (text : List ℕ) (unit : TranslationUnit) (r : Result Typed Fault) → length text ≤ 1048576
    → (HasFewTokens unit → (T : Table) (whole : TypedTranslationUnit) → IsWellTyped T whole → IsWithinLimits T whole → erased_unit whole ≡ unit → IsAccepted whole r)
    → (T : Table) (whole : TypedTranslationUnit) → IsTypedText text T whole → unit ≡ erased_unit whole → IsAccepted whole r
given_so text unit r short accepts T whole is same =
    accepts (subst HasFewTokens (sym same) (few text (erased_unit whole) short is.unit)) T whole is.typed is.limited (sym same)

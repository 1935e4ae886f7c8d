-- Which token it is of which a test in declarators tells something.
use Rattle.std.proofs.Common.{◌≡◌, ℕ, List, [], ◌∷◌, ◌++◌, Bool, true, false, ◌&&◌, not, Option, Some, None, refl, cond, subst}
use Rattle.cc_base.specs.declared.place.Place.{Place}
use Rattle.c_lexer.specs.declared.word.Keyword.{Keyword}
use Rattle.c_lexer.specs.declared.punctuator.Punctuator.TheVariants as mark
use Rattle.c_tree.specs.declared.leaf.Identifier.{Identifier}
use Rattle.c_tree.specs.declared.leaf.Word.{Word as PlacedWord}
use Rattle.c_tree.specs.Grammar.{Naming, WithName, WithoutName, WithOrWithout, MayName, MayOmitName}
use Rattle.c_tree.specs.Spelling.{name_symbol, word_symbol}
use Rattle.c_tree.specs.Symbols.{Symbol, Name, Word, Mark}
use Rattle.c_tree.specs.Words.{TypeNames, is_type_name, is_qualifier, are_array_words}
use Rattle.c_parse_words.specs.Tests.{star_sign, qualifier_word, array_word, may_name, may_omit_name, CoreStart, CoreName, CoreParen, NoCore, core_start, PartStart, ArrayAt, FunctionAt, NoPartStart, part_start}
use Rattle.c_parse_words.proofs.Take.{Tells}
use Rattle.c_parse_words.proofs.TokenLaws.{star_sign_here}

pub tells_star : Tells star_sign (λ at. Mark mark.Star at)
tells_star = record { none = refl; only = only }
  where
    only : (t : Symbol) (at : Place) → star_sign (Some t) ≡ Some at → t ≡ Mark mark.Star at
    only t at e =
        let here : Some t ≡ Some (Mark mark.Star at) = star_sign_here (Some t) at e in
        cc

-- a word where a test passes
chosen_word : (word : Keyword) (at : Place) (b : Bool) (w : PlacedWord) → cond b (Some (record { keyword = word; place = at })) None ≡ Some w → Word word at ≡ word_symbol w
chosen_word word at true w e =
    let same : record { keyword = word; place = at } ≡ w = cc in
    subst (λ x. Word word at ≡ word_symbol x) same refl
chosen_word word at false w e = cc

chosen_passes : {X : Type 0} (x y : X) (b : Bool) → cond b (Some x) None ≡ Some y → b ≡ true
chosen_passes x y true e = refl
chosen_passes x y false e = cc

pub tells_qualifier : Tells qualifier_word word_symbol
tells_qualifier = record { none = refl; only = only }
  where
    only : (t : Symbol) (w : PlacedWord) → qualifier_word (Some t) ≡ Some w → t ≡ word_symbol w
    only (Word word at) w e = chosen_word word at (is_qualifier word) w e
    only t w e = cc

pub qualifier_told : (w : PlacedWord) → qualifier_word (Some (word_symbol w)) ≡ Some w → is_qualifier w.keyword ≡ true
qualifier_told w e = chosen_passes (record { keyword = w.keyword; place = w.place }) w (is_qualifier w.keyword) e

pub tells_array_word : (words : List PlacedWord) → Tells (array_word words) word_symbol
tells_array_word words = record { none = refl; only = only }
  where
    only : (t : Symbol) (w : PlacedWord) → array_word words (Some t) ≡ Some w → t ≡ word_symbol w
    only (Word word at) w e = chosen_word word at (are_array_words (words ++ record { keyword = word; place = at } ∷ [])) w e
    only t w e = cc

pub array_word_told : (words : List PlacedWord) (w : PlacedWord) → array_word words (Some (word_symbol w)) ≡ Some w → are_array_words (words ++ w ∷ []) ≡ true
array_word_told words w e = chosen_passes (record { keyword = w.keyword; place = w.place }) w (are_array_words (words ++ record { keyword = w.keyword; place = w.place } ∷ [])) e

-- Parts.

abbrev BackPart : Option Symbol → PartStart → Type 0
BackPart next (ArrayAt at) = next ≡ Some (Mark mark.OpenBracket at)
BackPart next (FunctionAt at) = next ≡ Some (Mark mark.OpenParen at)
BackPart next NoPartStart = Unit {0}

part_back : (next : Option Symbol) → BackPart next (part_start next)
part_back (Some (Mark mark.OpenBracket at)) = refl
part_back (Some (Mark mark.OpenParen at)) = refl
part_back next = tt

pub array_here : (next : Option Symbol) (at : Place) → part_start next ≡ ArrayAt at → next ≡ Some (Mark mark.OpenBracket at)
array_here next at e = subst (λ x. BackPart next x) e (part_back next)

pub function_here : (next : Option Symbol) (at : Place) → part_start next ≡ FunctionAt at → next ≡ Some (Mark mark.OpenParen at)
function_here next at e = subst (λ x. BackPart next x) e (part_back next)

-- The middle.

abbrev BackCore : TypeNames → Naming → Option Symbol → CoreStart → Type 0
BackCore names naming next (CoreName name) = (next ≡ Some (name_symbol name)) × (may_name naming ≡ true) × (is_type_name names name.bytes ≡ false)
BackCore names naming next (CoreParen at) = next ≡ Some (Mark mark.OpenParen at)
BackCore names naming next NoCore = Unit {0}

core_name_back : (names : TypeNames) (naming : Naming) (bytes : List ℕ) (at : Place) (may is : Bool) → may_name naming ≡ may → is_type_name names bytes ≡ is
    → BackCore names naming (Some (Name bytes at)) (cond (may && not is) (CoreName (record { bytes = bytes; place = at })) NoCore)
core_name_back names naming bytes at true true e f = tt
core_name_back names naming bytes at true false e f = (refl, e, f)
core_name_back names naming bytes at false is e f = tt

core_back : (names : TypeNames) (naming : Naming) (next : Option Symbol) → BackCore names naming next (core_start names naming next)
core_back names naming (Some (Name bytes at)) = core_name_back names naming bytes at (may_name naming) (is_type_name names bytes) refl refl
core_back names naming (Some (Mark mark.OpenParen at)) = refl
core_back names naming next = tt

pub core_name_here : (names : TypeNames) (naming : Naming) (next : Option Symbol) (name : Identifier) → core_start names naming next ≡ CoreName name → (next ≡ Some (name_symbol name)) × (may_name naming ≡ true) × (is_type_name names name.bytes ≡ false)
core_name_here names naming next name e = subst (λ x. BackCore names naming next x) e (core_back names naming next)

pub core_paren_here : (names : TypeNames) (naming : Naming) (next : Option Symbol) (at : Place) → core_start names naming next ≡ CoreParen at → next ≡ Some (Mark mark.OpenParen at)
core_paren_here names naming next at e = subst (λ x. BackCore names naming next x) e (core_back names naming next)

pub may_have_name : (naming : Naming) → may_name naming ≡ true → MayName naming
may_have_name WithName e = tt
may_have_name WithoutName e = cc
may_have_name WithOrWithout e = tt

pub may_have_none : (naming : Naming) → may_omit_name naming ≡ true → MayOmitName naming
may_have_none WithName e = cc
may_have_none WithoutName e = tt
may_have_none WithOrWithout e = tt

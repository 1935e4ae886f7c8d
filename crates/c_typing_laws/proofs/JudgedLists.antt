-- What judging gives for a list of specifiers, one behind another, and the type that they name together.
use Rattle.std.proofs.Common.{◌==◌, Bool, true, false, refl, inl, inr, if◌then◌else◌}
use Rattle.c_types.specs.declared.shape.TypeShape.TheVariants.{Void, Integer}
use Rattle.c_types.specs.Table.{Table, HasShape, IsType}
use Rattle.c_types.specs.Sound.{IsIntegerSize}
use Rattle.c_tree.specs.Tree as tree
use Rattle.c_tree.specs.TypedTree as typed
use Rattle.c_tree.specs.TypedTree.{TypedSpecifier, TypedSpecifierList}
use Rattle.integers.specs.Arithmetic.{int}
use Rattle.c_typing.specs.Declarators
use Rattle.c_typing.specs.Declarators.{Counted, Named, NoType, IsEnumeration, IsNamedType, AreOfType, words_bytes, words_shape, counted, named_by_list, are_allowed}
use Rattle.c_typing.specs.Extensions.{IsExtended}
use Rattle.c_typing.specs.Judging.{State, void_type, integer_type}
use Rattle.c_typing.specs.Settled.{IsBasic, IsNamedThere, IsKnown, IsSpecifierJudged, IsListJudged}
use Rattle.c_typing.specs.Specifying.{words_type, listed_type, specified}
use Rattle.c_typing.specs.Typing.{AreSpecifiers}
use Rattle.c_typing_laws.proofs.ExtensionLaws.{still_in}
use Rattle.c_typing_laws.proofs.KeptTrees.{listed-kept}
use Rattle.c_typing_laws.proofs.KnownStates.{stays, goes-on}

named_kept : (T U : Table) → IsExtended T U → (n : Named) → IsNamedThere T n → IsNamedThere U n
named_kept T U x NoType h = tt
named_kept T U x (Declarators.IsType t) h = still_in T U x t h
named_kept T U x IsEnumeration h = tt

pub no_specifier-judged : (s : State) → IsKnown s → IsListJudged tree.NoSpecifier typed.NoSpecifier s s
no_specifier-judged s k = record { typed = refl; erases = refl; allowed = refl; there = tt; goes = (stays s k).goes }

pub list-judged : (all : tree.Specifiers) (specifier : tree.Specifier) (list : TypedSpecifierList) (one : TypedSpecifier) (s0 s r : State) → IsListJudged all list s0 s
    → IsSpecifierJudged (counted list) specifier one s.seen.scopes s r → IsListJudged (tree.AndSpecifier all specifier) (typed.AndSpecifier list one) s0 r
list-judged all specifier list one s0 s r l j = record {
  typed = (s.seen.scopes, listed-kept s.table r.table j.goes.extends l.goes.known.basic list s0.seen.scopes s.seen.scopes l.typed, j.typed);
  erases = λ i. tree.AndSpecifier (l.erases i) (j.erases i);
  allowed = j.allowed;
  there = j.there (named_by_list list) (named_kept s.table r.table j.goes.extends (named_by_list list) l.there);
  goes = goes-on s0 s r l.goes j.goes;
}

-- The type that is named

word_size : (c : Counted) → IsIntegerSize (words_bytes c)
word_size c = by (c.char == 1) (c.short == 1) (c.long == 1)
  where
    by : (char short long : Bool) → IsIntegerSize (if char then 1 else (if short then 2 else (if long then 8 else 4)))
    by true short long = inl refl
    by false true long = inr (inl refl)
    by false false true = inr (inr (inr refl))
    by false false false = inr (inr (inl refl))

words_there : (T : Table) → IsBasic T → (c : Counted) → HasShape T (words_type c) (words_shape c)
words_there T b c = by (c.void == 1)
  where
    by : (void : Bool) → HasShape T (if void then void_type else integer_type (record { bytes = words_bytes c; signed = c.unsigned == 0 }))
        (if void then Void else Integer (words_bytes c) (c.unsigned == 0))
    by true = b.void
    by false = b.integers (record { bytes = words_bytes c; signed = c.unsigned == 0 }) (word_size c)

named_type : (T : Table) → IsBasic T → (list : TypedSpecifierList) (n : Named) → IsNamedThere T n
    → IsType T (listed_type n (counted list)) × IsNamedType T n list (listed_type n (counted list))
named_type T b list NoType h = let words = words_there T b (counted list) in (words.0, words)
named_type T b list (Declarators.IsType t) h = (h, refl)
named_type T b list IsEnumeration h = let four = b.integers int (inr (inr (inl refl))) in (four.0, four)

pub list-typed : (specifiers : tree.Specifiers) (list : TypedSpecifierList) (s r : State) → IsListJudged specifiers list s r
    → AreSpecifiers r.table (specified list) s.seen.scopes r.seen.scopes × IsType r.table (listed_type (named_by_list list) (counted list))
list-typed specifiers list s r l =
    let named = named_type r.table l.goes.known.basic list (named_by_list list) l.there in
    ((l.typed, record { allowed = l.allowed; there = named.0; type = named.1 }), named.0)

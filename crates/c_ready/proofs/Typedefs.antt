-- What declarators declare objects and functions: those of declarations whose specifiers do not say `typedef`. On a well typed unit specifiers have
-- one storage word (C99 6.7.1), so that the word that is read last tells.
use Rattle.std.proofs.Common.{◌≡◌, ℕ, ◌<◌, ◌≤◌, Bool, true, false, List, [], ◌∷◌, ◌++◌, ◌&&◌, refl, ap, sym, ◌∙◌, if◌then◌else◌, nat_le, true≢false, arith}
use Rattle.std.proofs.lemmas.Bool.Decides.{nat_tests}
use Rattle.c_types.specs.Table.{Table}
use Rattle.c_lexer.specs.declared.word.Keyword.{Keyword}
use Rattle.c_lexer.specs.declared.word.Keyword.TheVariants as keyword
use Rattle.c_tree.specs.Words.{is_typedef_word}
use Rattle.c_tree.specs.TypedTree as typed
use Rattle.c_tree.specs.TypedTree.{TypedSpecifiers, TypedSpecifierList, TypedDeclarator, TypedInitDeclarators}
use Rattle.c_typing.specs.Declarators.{Counted, counted, counting_word}
use Rattle.c_typing.specs.Scopes.{Scopes}
use Rattle.c_typing.specs.Typing.{AreSpecifiers}
use Rattle.c_unit_typing.specs.Units.{Storage, Unstored, AsTypedef, AsExtern, AsStatic, AsAutomatic, storage_of_word, storage_of_list, storage_of}
use Rattle.src_machine.specs.Names.{is_typedef_list, is_typedef, declarators_of, declarators_in_declaration}

abbrev pub is_for_types : Storage → Bool
is_for_types AsTypedef = true
is_for_types storage = false

-- The last storage word is `typedef` only where one is

word-types : (w : Keyword) (before : Storage) (b : Bool) → (is_for_types before ≡ true → b ≡ true) → is_for_types (storage_of_word w before) ≡ true
    → (if is_typedef_word w then true else b) ≡ true
word-types keyword.Typedef before b f h = refl
word-types keyword.Extern before b f h = absurd (true≢false (sym h))
word-types keyword.Static before b f h = absurd (true≢false (sym h))
word-types keyword.Auto before b f h = absurd (true≢false (sym h))
word-types keyword.Register before b f h = absurd (true≢false (sym h))
word-types w before b f h = f h

list-types : (list : TypedSpecifierList) → is_for_types (storage_of_list list) ≡ true → is_typedef_list list ≡ true
list-types typed.NoSpecifier h = absurd (true≢false (sym h))
list-types (typed.AndSpecifier all (typed.Keyword word)) h =
    word-types word.keyword (storage_of_list all) (is_typedef_list all) (λ g. list-types all g) h
list-types (typed.AndSpecifier all specifier) h = list-types all h

pub types-are-typedefs : (specifiers : TypedSpecifiers) → is_for_types (storage_of specifiers) ≡ true → is_typedef specifiers ≡ true
types-are-typedefs (typed.Specified list t) h = list-types list h

pub plain-storage : (storage : Storage) → (storage ≡ AsTypedef → ⊥) → is_for_types storage ≡ false
plain-storage AsTypedef f = absurd (f refl)
plain-storage Unstored f = refl
plain-storage AsExtern f = refl
plain-storage AsStatic f = refl
plain-storage AsAutomatic f = refl

pub not-typedef : (a b : Bool) → (a ≡ true → b ≡ true) → b ≡ false → a ≡ false
not-typedef true b f h = absurd (true≢false (sym (f refl) ∙ h))
not-typedef false b f h = refl

-- One storage word

word-stored : (w : Keyword) (b : Bool) (c : Counted) → (b ≡ true → 0 < c.storage) → (if is_typedef_word w then true else b) ≡ true
    → 0 < (counting_word w c).storage
word-stored keyword.Typedef b c f h = omega arith
word-stored keyword.Extern b c f h = omega arith
word-stored keyword.Static b c f h = omega arith
word-stored keyword.Auto b c f h = omega arith
word-stored keyword.Register b c f h = omega arith
word-stored w b c f h = f h

list-stored : (list : TypedSpecifierList) → is_typedef_list list ≡ true → 0 < (counted list).storage
list-stored typed.NoSpecifier h = absurd (true≢false (sym h))
list-stored (typed.AndSpecifier all (typed.Keyword word)) h =
    word-stored word.keyword (is_typedef_list all) (counted all) (λ g. list-stored all g) h
list-stored (typed.AndSpecifier all specifier) h = list-stored all h

word-typedef : (w : Keyword) (before : Storage) (b : Bool) (c : Counted) → (counting_word w c).storage ≤ 1 → (b ≡ true → 0 < c.storage)
    → (c.storage ≤ 1 → b ≡ true → before ≡ AsTypedef) → (if is_typedef_word w then true else b) ≡ true → storage_of_word w before ≡ AsTypedef
word-typedef keyword.Typedef before b c few some f h = refl
word-typedef keyword.Extern before b c few some f h = absurd (omega (arith, few, some h))
word-typedef keyword.Static before b c few some f h = absurd (omega (arith, few, some h))
word-typedef keyword.Auto before b c few some f h = absurd (omega (arith, few, some h))
word-typedef keyword.Register before b c few some f h = absurd (omega (arith, few, some h))
word-typedef w before b c few some f h = f few h

list-typedef : (list : TypedSpecifierList) → (counted list).storage ≤ 1 → is_typedef_list list ≡ true → storage_of_list list ≡ AsTypedef
list-typedef typed.NoSpecifier few h = absurd (true≢false (sym h))
list-typedef (typed.AndSpecifier all (typed.Keyword word)) few h =
    word-typedef word.keyword (storage_of_list all) (is_typedef_list all) (counted all) few (λ g. list-stored all g) (λ l g. list-typedef all l g) h
list-typedef (typed.AndSpecifier all specifier) few h = list-typedef all few h

few-words : (n : ℕ) (b : Bool) → (nat_le n 1 && b) ≡ true → n ≤ 1
few-words n b h = at-most n (left (nat_le n 1) b h)
  where
    left : (a c : Bool) → (a && c) ≡ true → a ≡ true
    left true c g = refl
    left false c g = absurd (true≢false (sym g))

    at-most : (m : ℕ) → nat_le m 1 ≡ true → m ≤ 1
    at-most m g = grind (arith, nat_tests, g)

-- the words of specifiers that may be together say `typedef` where the last storage word does
specified-typedef : (T : Table) (specifiers : TypedSpecifiers) (s s' : Scopes) → AreSpecifiers T specifiers s s' → is_typedef specifiers ≡ true
    → storage_of specifiers ≡ AsTypedef
specified-typedef T (typed.Specified list t) s s' h g = list-typedef list (few-words (counted list).storage _ h.1.allowed) g

-- Declarators

-- what a declarator declares with this storage
abbrev pub unless_typedef : Storage → TypedDeclarator → List TypedDeclarator
unless_typedef AsTypedef d = []
unless_typedef storage d = d ∷ []

abbrev pub declarators_listed : Storage → TypedInitDeclarators → List TypedDeclarator
declarators_listed storage typed.NoInitDeclarator = []
declarators_listed storage (typed.AndPlain all d) = declarators_listed storage all ++ unless_typedef storage d
declarators_listed storage (typed.AndInitialised all d at i) = declarators_listed storage all ++ unless_typedef storage d

listed-none : (all : TypedInitDeclarators) → declarators_listed AsTypedef all ≡ []
listed-none typed.NoInitDeclarator = refl
listed-none (typed.AndPlain all d) = ap (λ (ds : List TypedDeclarator). ds ++ []) (listed-none all)
listed-none (typed.AndInitialised all d at i) = ap (λ (ds : List TypedDeclarator). ds ++ []) (listed-none all)

listed-one : (storage : Storage) (d : TypedDeclarator) → is_for_types storage ≡ false → unless_typedef storage d ≡ d ∷ []
listed-one AsTypedef d h = absurd (true≢false h)
listed-one AsExtern d h = refl
listed-one AsStatic d h = refl
listed-one AsAutomatic d h = refl
listed-one Unstored d h = refl

listed-all : (storage : Storage) (all : TypedInitDeclarators) → is_for_types storage ≡ false
    → declarators_listed storage all ≡ declarators_of all
listed-all storage typed.NoInitDeclarator h = refl
listed-all storage (typed.AndPlain all d) h =
    ap (λ (ds : List TypedDeclarator). ds ++ unless_typedef storage d) (listed-all storage all h)
    ∙ ap (λ (ds : List TypedDeclarator). declarators_of all ++ ds) (listed-one storage d h)
listed-all storage (typed.AndInitialised all d at i) h =
    ap (λ (ds : List TypedDeclarator). ds ++ unless_typedef storage d) (listed-all storage all h)
    ∙ ap (λ (ds : List TypedDeclarator). declarators_of all ++ ds) (listed-one storage d h)

pub declared-same : (T : Table) (specifiers : TypedSpecifiers) (all : TypedInitDeclarators) (s s' : Scopes) → AreSpecifiers T specifiers s s'
    → declarators_listed (storage_of specifiers) all ≡ declarators_in_declaration (typed.Declare specifiers all)
declared-same T specifiers all s s' h = by (is_typedef specifiers) refl
  where
    by : (b : Bool) → is_typedef specifiers ≡ b → declarators_listed (storage_of specifiers) all ≡ (if b then [] else declarators_of all)
    by true e = ap (λ (x : Storage). declarators_listed x all) (specified-typedef T specifiers s s' h e) ∙ listed-none all
    by false e = listed-all (storage_of specifiers) all
        (not-typedef (is_for_types (storage_of specifiers)) (is_typedef specifiers) (types-are-typedefs specifiers) e)

-- a declaration without declarators declares nothing
pub alone-none : (specifiers : TypedSpecifiers) → declarators_in_declaration (typed.Declare specifiers typed.NoInitDeclarator) ≡ []
alone-none specifiers = by (is_typedef specifiers)
  where
    by : (b : Bool) → ◌≡◌ {A = List TypedDeclarator} (if b then [] else []) []
    by true = refl
    by false = refl

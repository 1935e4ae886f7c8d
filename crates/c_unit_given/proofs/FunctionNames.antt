-- The names of the functions that a unit defines: none is a runtime function.
use Rattle.std.proofs.Common.{◌≡◌, ℕ, Bool, true, false, ◌||◌, List, [], ◌∷◌, ◌++◌, Some, refl, ap, sym, subst, ◌∙◌, bytes_eq, append_assoc}
use Rattle.std.specs.List.{All, Contains}
use Rattle.std.proofs.lemmas.List.{map-append}
use Rattle.std.proofs.lemmas.List.Elements.{All-nil, All-push, All-get_or, All-contains}
use Rattle.std.proofs.lemmas.List.Quantifiers.{position-Some}
use Rattle.std.proofs.lemmas.Slice.Eq.{bytes_eq-Decides}
use Rattle.c_types.specs.Table.{Table}
use Rattle.c_tree.specs.TypedTree as typed
use Rattle.c_tree.specs.TypedTree.{TypedTranslationUnit}
use Rattle.c_tree.specs.TypedParts.{DefinedFunction, functions_of, name_of, name_of_form}
use Rattle.runtime_calls.specs.Prototypes.{IsNoName}
use Rattle.c_typing.specs.Declarators.{name_bytes}
use Rattle.c_typing.specs.Scopes.{Name, place_among}
use Rattle.c_unit_typing.specs.Units.{Known, is_one_of, IsUnitTyped}
use Rattle.c_unit_typing.specs.WellTyped.{defined_names}
use Rattle.c_unit_typing.proofs.JudgedUnits.{name_in_bytes}

-- none is a runtime function

pub names-own : (T : Table) (u : TypedTranslationUnit) (k l : Known) → IsUnitTyped T u k l → All IsNoName (defined_names u)
names-own T typed.NoExternal k l h = All-nil IsNoName
names-own T (typed.AndExternal u d) k l h = names-own T u k h.0 h.1
names-own T (typed.AndFunctionBody u x (typed.Declares form t) brace body) k l h =
    let this : DefinedFunction = record { declarator = typed.Declares form t; body = body } in
    subst (All IsNoName) (sym (map-append name_in_bytes (functions_of u) (this ∷ [])))
    (All-push IsNoName (defined_names u) (name_bytes (name_of_form form)) (names-own T u k h.0 h.1) (subst IsNoName (sym (ap name_bytes h.2.named)) h.2.own))

pub place-own : (names : List Name) → All IsNoName names → (name : Name) (number : ℕ) → place_among names name ≡ Some number → IsNoName name
place-own names own name number h =
    let at = position-Some (bytes_eq name) names number [] h in
    subst IsNoName (sym ((bytes_eq-Decides name _).0 at.1)) (All-get_or IsNoName names number [] at.0 own)

-- each is one of them

or_true : (a b : Bool) → b ≡ true → (a || b) ≡ true
or_true true b h = refl
or_true false b h = h

among_own : (before : List Name) (name : Name) (rest : List Name) → is_one_of (before ++ name ∷ rest) name ≡ true
among_own [] name rest = ap (λ (b : Bool). b || is_one_of rest name) ((bytes_eq-Decides name name).1 refl)
among_own (other ∷ before) name rest = or_true (bytes_eq name other) (is_one_of (before ++ name ∷ rest) name) (among_own before name rest)

-- the functions that the unit defines are among these
abbrev pub AreAmong : List Name → TypedTranslationUnit → Type 0
AreAmong names typed.NoExternal = Unit {0}
AreAmong names (typed.AndExternal u d) = AreAmong names u
AreAmong names (typed.AndFunctionBody u x d brace body) = AreAmong names u × (is_one_of names (name_bytes (name_of d)) ≡ true)

pub all-among : (names : List Name) (u : TypedTranslationUnit) (rest : List Name) → names ≡ defined_names u ++ rest → AreAmong names u
all-among names typed.NoExternal rest e = tt
all-among names (typed.AndExternal u d) rest e = all-among names u rest e
all-among names (typed.AndFunctionBody u x d brace body) rest e =
    let this : DefinedFunction = record { declarator = d; body = body } in
    let name : Name = name_bytes (name_of d) in
    let whole : names ≡ defined_names u ++ name ∷ rest =
    e ∙ (ap (λ (all : List Name). all ++ rest) (map-append name_in_bytes (functions_of u) (this ∷ [])) ∙ append_assoc (defined_names u) (name ∷ []) rest) in
    (all-among names u (name ∷ rest) whole, ap (λ (all : List Name). is_one_of all name) whole ∙ among_own (defined_names u) name rest)

abbrev IsAmong : List Name → DefinedFunction → Type 0
IsAmong names f = is_one_of names (name_in_bytes f) ≡ true

each_among : (names : List Name) (u : TypedTranslationUnit) → AreAmong names u → All (IsAmong names) (functions_of u)
each_among names typed.NoExternal h = All-nil (IsAmong names)
each_among names (typed.AndExternal u d) h = each_among names u h
each_among names (typed.AndFunctionBody u x d brace body) h = All-push (IsAmong names) (functions_of u) (record { declarator = d; body = body }) (each_among names u h.0) h.1

pub function-among : (names : List Name) (u : TypedTranslationUnit) → AreAmong names u → (f : DefinedFunction) → Contains (functions_of u) f → is_one_of names (name_in_bytes f) ≡ true
function-among names u h f c = All-contains (IsAmong names) (functions_of u) f (each_among names u h) c

-- The size that an initialiser gives to an array part without one is the same as it is written and as it is typed, or no matter.
use Rattle.std.proofs.Common.{◌≡◌, ℕ, ◌+◌, ◌==◌, Bool, true, false, ◌&&◌, List, [], ◌∷◌, Option, Some, None, refl, ap, sym, subst, ◌∙◌, true≢false, if◌then◌else◌}
use Rattle.cc_base.specs.declared.place.Place.{Place}
use Rattle.cc_base.specs.declared.number.NodeId.{NodeId}
use Rattle.cc_base.specs.declared.number.TypeId.{TypeId}
use Rattle.c_types.specs.declared.shape.TypeShape.{TypeShape}
use Rattle.c_types.specs.declared.shape.TypeShape.TheVariants.{Void, Integer, Pointer, Array, Function, Struct, Union}
use Rattle.c_types.specs.Table.{Table, HasShape, IsComplete, shape_at, is_aggregate_shape}
use Rattle.c_tree.specs.declared.leaf.Word.{Word}
use Rattle.c_tree.specs.declared.typed_word.TypedStar.{TypedStar}
use Rattle.c_tree.specs.Erasure.{erased_form, erased_core, erased, erased_place, erased_initialiser, erased_items}
use Rattle.c_tree.specs.Tree as tree
use Rattle.c_tree.specs.TypedTree as typed
use Rattle.c_tree.specs.TypedTree.{TypedForm, TypedCore, TypedParts, TypedParameters, TypedInitialiser, TypedItems}
use Rattle.c_tree.specs.TypedParts.{place_type}
use Rattle.c_typing.specs.Walks.{outermost_of}
use Rattle.c_typing.specs.Declarators.{Outermost, Written, Counts, Points, is_pointed, MakesArray, MakesFunction, nearest, PartsMake, StarsMake, is_no_part, is_derived, is_derived_core, outside, FormMakes, CoreMakes}
use Rattle.c_typing.specs.Scopes.{Scopes}
use Rattle.c_typing.specs.Settled.{IsKnown}
use Rattle.c_typing.specs.Shapes.{is_scalar_shape}
use Rattle.c_typing_laws.proofs.ConstructLaws.{either_false}
use Rattle.c_typing_laws.proofs.ExtensionLaws.{no_true, and_left, and_right}
use Rattle.c_unit_typing.specs.Initialisers.{is_char_array, has_count, char_count_of_shape, char_count_of_element, is_bare, is_bare_core, is_one_array, is_one_array_core, is_char_shape, makes_chars, is_only_text, items_count, listed_size, size_given, IsInitialiser, AreItems}
use Rattle.c_unit_typing.specs.InitialiserJudging.{is_only_literal, judge_initialiser, judge_items}
use Rattle.c_unit_typing.specs.UnitJudged.{state_of}
use Rattle.c_unit_typing.specs.UnitJudging.{UnitState, Gives, pure}
use Rattle.c_unit_typing.specs.UnitRefusals.{count_written, listed_written, size_written}
use Rattle.c_unit_typing.proofs.JudgedInitialisers.{chars_no_scalar, array_not_struct, only_text, and_unit, initialiser-judged, items-judged}
use Rattle.c_unit_typing.proofs.KeptInitialisers.{is_chars-same}
use Rattle.c_unit_typing.proofs.UnitOutcomes.{bind-gives, given-same}

-- Shapes that are no character

no_chars : (y : TypeShape) (n : NodeId) (t : TypeId) → y ≡ Pointer n t → is_char_shape y ≡ false
no_chars y n t h = ap is_char_shape h

-- an array of char has elements of one byte
element_char : (y : TypeShape) (count : ℕ) → has_count (char_count_of_element y count) ≡ true → is_char_shape y ≡ true
element_char (Integer bytes signed) count h = by (bytes == 1) h
  where
    by : (b : Bool) → has_count (if b then Some count else None) ≡ true → b ≡ true
    by true g = refl
    by false g = no_true g
element_char Void count h = no_true h
element_char (Pointer n t) count h = no_true h
element_char (Array t n) count h = no_true h
element_char (Function ps r) count h = no_true h
element_char (Struct n) count h = no_true h
element_char (Union n) count h = no_true h

char_element : (y : TypeShape) (count : ℕ) → is_char_shape y ≡ true → has_count (char_count_of_element y count) ≡ true
char_element (Integer bytes signed) count h = ap (λ (b : Bool). has_count (if b then Some count else None)) h
char_element Void count h = no_true h
char_element (Pointer n t) count h = no_true h
char_element (Array t n) count h = no_true h
char_element (Function ps r) count h = no_true h
char_element (Struct n) count h = no_true h
char_element (Union n) count h = no_true h

pub both_false : {P : Type 0} (a : Bool) → a ≡ false → a ≡ true → P
both_false a f t = absurd (true≢false (sym t ∙ f))

and_falls : (a b : Bool) → b ≡ false → (a && b) ≡ false
and_falls true b h = h
and_falls false b h = refl

-- an array part without a size stands by itself
abbrev is_open : TypedParts → Bool
is_open (typed.AndArray all at words) = is_no_part all
is_open parts = false

mutual
  bare_form : (form : TypedForm) → is_derived form ≡ false → is_bare (erased_form form) ≡ true
  bare_form (typed.Form [] core typed.NoPart) n = bare_core core n
  bare_form (typed.Form stars core parts) n = no_true (sym n)

  bare_core : (core : TypedCore) → is_derived_core core ≡ false → is_bare_core (erased_core core) ≡ true
  bare_core (typed.Names name home) n = refl
  bare_core typed.Unnamed n = refl
  bare_core (typed.Nested at form) n = bare_form form n

mutual
  underived : (form : TypedForm) → is_bare (erased_form form) ≡ true → is_derived form ≡ false
  underived (typed.Form [] core typed.NoPart) n = underived_core core n
  underived (typed.Form stars core parts) n = no_true n

  underived_core : (core : TypedCore) → is_bare_core (erased_core core) ≡ true → is_derived_core core ≡ false
  underived_core (typed.Names name home) n = refl
  underived_core typed.Unnamed n = refl
  underived_core (typed.Nested at form) n = underived form n

module _ (T : Table) (c : Scopes) where
  -- what is no array written without its size is made the same however the size is given

  array_char : (t u : TypeId) (k : ℕ) → HasShape T t (Array u k) → is_char_array T t ≡ true → is_char_shape (shape_at T u) ≡ true
  array_char t u k h y = element_char (shape_at T u) k (ap (λ (z : TypeShape). has_count (char_count_of_shape T z)) (sym h.1) ∙ y)

  pointed_not_char : (stars : List TypedStar) (base t : TypeId) → is_char_shape (shape_at T base) ≡ false → StarsMake T stars base t → is_char_shape (shape_at T t) ≡ false
  pointed_not_char [] base t n h = ap (λ (u : TypeId). is_char_shape (shape_at T u)) h ∙ n
  pointed_not_char (star ∷ stars) base t n h = pointed_not_char stars h.0 t (ap is_char_shape h.1.1) h.2

  starred_not_char : (star : TypedStar) (stars : List TypedStar) (base t : TypeId) → StarsMake T (star ∷ stars) base t → is_char_shape (shape_at T t) ≡ false
  starred_not_char star stars base t h = pointed_not_char stars h.0 t (ap is_char_shape h.1.1) h.2

  made_not_char : (o : Outermost) (words : List Word) (count : Option ℕ) (element t : TypeId) → MakesArray T c o words count element t → is_char_shape (shape_at T t) ≡ false
  made_not_char (Points n) words count element t h = ap is_char_shape h.1.1
  made_not_char Written words (Some k) element t h = ap is_char_shape h.1.1.1
  made_not_char (Counts g) words (Some k) element t h = ap is_char_shape h.1.1.1
  made_not_char (Counts g) words None element t h = ap is_char_shape h.1.1.1
  made_not_char Written words None element t h = absurd h

  called_not_char : (o : Outermost) (ps : TypedParameters) (result t : TypeId) → MakesFunction T o ps result t → is_char_shape (shape_at T t) ≡ false
  called_not_char (Points n) ps result t h = ap is_char_shape h.2.1
  called_not_char Written ps result t h = ap is_char_shape h.shape.1
  called_not_char (Counts g) ps result t h = ap is_char_shape h.shape.1

  parts_not_char : (parts : TypedParts) (o : Outermost) (base t : TypeId) → is_char_shape (shape_at T base) ≡ false → PartsMake T c parts o base t → is_char_shape (shape_at T t) ≡ false
  parts_not_char typed.NoPart o base t n h = ap (λ (u : TypeId). is_char_shape (shape_at T u)) h ∙ n
  parts_not_char (typed.AndArray all at words) o base t n h = parts_not_char all o h.0 t (made_not_char (nearest all o) words None base h.0 h.1) h.2
  parts_not_char (typed.AndSizedArray all at words e size) o base t n h = parts_not_char all o h.0 t (made_not_char (nearest all o) words (Some size) base h.0 h.1) h.2
  parts_not_char (typed.AndFunction all at ps) o base t n h = parts_not_char all o h.0 t (called_not_char (nearest all o) ps base h.0 h.1) h.2

  -- what stands bare in its parentheses makes nothing

  mutual
    bare_form_same : (form : TypedForm) (o : Outermost) (base t : TypeId) → is_derived form ≡ false → FormMakes T c form o base t → t ≡ base
    bare_form_same (typed.Form [] core typed.NoPart) o base t n h = bare_core_same core o h.1 t n h.4 ∙ (h.3 ∙ h.2)
    bare_form_same (typed.Form stars core parts) o base t n h = no_true (sym n)

    bare_core_same : (core : TypedCore) (o : Outermost) (base t : TypeId) → is_derived_core core ≡ false → CoreMakes T c core o base t → t ≡ base
    bare_core_same (typed.Names name home) o base t n h = h
    bare_core_same typed.Unnamed o base t n h = h
    bare_core_same (typed.Nested at form) o base t n h = bare_form_same form o base t n h

  some_not_char : (parts : TypedParts) (o : Outermost) (base t : TypeId) → is_no_part parts ≡ false → PartsMake T c parts o base t → is_char_shape (shape_at T t) ≡ false
  some_not_char typed.NoPart o base t n h = no_true (sym n)
  some_not_char (typed.AndArray all at words) o base t n h = parts_not_char all o h.0 t (made_not_char (nearest all o) words None base h.0 h.1) h.2
  some_not_char (typed.AndSizedArray all at words e size) o base t n h = parts_not_char all o h.0 t (made_not_char (nearest all o) words (Some size) base h.0 h.1) h.2
  some_not_char (typed.AndFunction all at ps) o base t n h = parts_not_char all o h.0 t (called_not_char (nearest all o) ps base h.0 h.1) h.2

  open_base : (stars : List TypedStar) (core : TypedCore) (parts : TypedParts) (base u : TypeId) → is_derived_core core ≡ false → is_open parts ≡ true
      → (is_one_array (erased_form (typed.Form stars core parts)) && is_char_shape (shape_at T base)) ≡ false → StarsMake T stars base u → is_char_shape (shape_at T u) ≡ false
  open_base [] core (typed.AndArray typed.NoPart at words) base u q w n h =
      ap (λ (t : TypeId). is_char_shape (shape_at T t)) h
      ∙ either_false (is_bare_core (erased_core core)) (is_char_shape (shape_at T base)) n (bare_core core q)
  open_base [] core parts base u q w n h = no_true w
  open_base (star ∷ stars) core parts base u q w n h = starred_not_char star stars base u h

  inner : (stars : List TypedStar) (core : TypedCore) (parts : TypedParts) (o : Outermost) (base u v : TypeId)
      → (is_one_array (erased_form (typed.Form stars core parts)) && is_char_shape (shape_at T base)) ≡ false → StarsMake T stars base u → PartsMake T c parts o u v
      → (is_one_array_core (erased_core core) && is_char_shape (shape_at T v)) ≡ false
  inner [] core typed.NoPart o base u v n h g =
      ap (λ (t : TypeId). is_one_array_core (erased_core core) && is_char_shape (shape_at T t)) (g ∙ h) ∙ n
  inner [] core parts o base u v n h g = and_falls (is_one_array_core (erased_core core)) (is_char_shape (shape_at T v)) (some_not_char parts o u v refl g)
  inner (star ∷ stars) core parts o base u v n h g =
      and_falls (is_one_array_core (erased_core core)) (is_char_shape (shape_at T v)) (parts_not_char parts o u v (starred_not_char star stars base u h) g)

  module _ (o p : Outermost) (plain : is_pointed o ≡ false) (too : is_pointed p ≡ false) where
    sized_any : (a b : Outermost) → is_pointed a ≡ false → is_pointed b ≡ false → (words : List Word) (size : ℕ) (element t : TypeId)
        → MakesArray T c a words (Some size) element t → MakesArray T c b words (Some size) element t
    sized_any (Points n) b x y words size element t h = no_true (sym x)
    sized_any a (Points n) x y words size element t h = no_true (sym y)
    sized_any Written Written x y words size element t h = h
    sized_any Written (Counts k) x y words size element t h = h
    sized_any (Counts g) Written x y words size element t h = h
    sized_any (Counts g) (Counts k) x y words size element t h = h

    called_any : (a b : Outermost) → is_pointed a ≡ false → is_pointed b ≡ false → (ps : TypedParameters) (result t : TypeId)
        → MakesFunction T a ps result t → MakesFunction T b ps result t
    called_any (Points n) b x y ps result t h = no_true (sym x)
    called_any a (Points n) x y ps result t h = no_true (sym y)
    called_any Written Written x y ps result t h = h
    called_any Written (Counts k) x y ps result t h = h
    called_any (Counts g) Written x y ps result t h = h
    called_any (Counts g) (Counts k) x y ps result t h = h

    nearest_plain : (all : TypedParts) (a : Outermost) → is_pointed a ≡ false → is_pointed (nearest all a) ≡ false
    nearest_plain typed.NoPart a x = x
    nearest_plain (typed.AndArray all at words) a x = refl
    nearest_plain (typed.AndSizedArray all at words e size) a x = refl
    nearest_plain (typed.AndFunction all at ps) a x = refl

    -- an array part without a size, of what is no character, or behind which others stand
    open_any : (a : Outermost) (words : List Word) (element t : TypeId) {P : Type 0} → is_pointed a ≡ false → is_char_shape (shape_at T element) ≡ false → is_char_array T t ≡ true
        → MakesArray T c a words None element t → P
    open_any (Points n) words element t x f y h = no_true (sym x)
    open_any Written words element t x f y h = absurd h
    open_any (Counts g) words element t x f y h = both_false (is_char_shape (shape_at T element)) f (array_char t element g h.1.1 y)

    array_any : (all : TypedParts) (words : List Word) (element u t : TypeId) → is_char_shape (shape_at T element) ≡ false → is_char_array T t ≡ true
        → MakesArray T c (nearest all o) words None element u → PartsMake T c all o u t → MakesArray T c (nearest all p) words None element u
    array_any typed.NoPart words element u t n y h g =
        open_any o words element u plain n (ap (is_char_array T) (sym g) ∙ y) h
    array_any (typed.AndArray all at more) words element u t n y h g = absurd h
    array_any (typed.AndSizedArray all at more e size) words element u t n y h g = absurd h
    array_any (typed.AndFunction all at ps) words element u t n y h g = absurd h

    parts_any : (parts : TypedParts) (base t : TypeId) → is_char_shape (shape_at T base) ≡ false → is_char_array T t ≡ true
        → PartsMake T c parts o base t → PartsMake T c parts p base t
    parts_any typed.NoPart base t n y h = h
    parts_any (typed.AndArray all at words) base t n y h =
        (h.0, array_any all words base h.0 t n y h.1 h.2, parts_any all h.0 t (made_not_char (nearest all o) words None base h.0 h.1) y h.2)
    parts_any (typed.AndSizedArray all at words e size) base t n y h = (
      h.0,
      sized_any (nearest all o) (nearest all p) (nearest_plain all o plain) (nearest_plain all p too) words size base h.0 h.1,
      parts_any all h.0 t (made_not_char (nearest all o) words (Some size) base h.0 h.1) y h.2,
    )
    parts_any (typed.AndFunction all at ps) base t n y h = (
      h.0,
      called_any (nearest all o) (nearest all p) (nearest_plain all o plain) (nearest_plain all p too) ps base h.0 h.1,
      parts_any all h.0 t (called_not_char (nearest all o) ps base h.0 h.1) y h.2,
    )

    parts_top : (parts : TypedParts) (base t : TypeId) → (is_open parts ≡ true → is_char_shape (shape_at T base) ≡ false) → is_char_array T t ≡ true
        → PartsMake T c parts o base t → PartsMake T c parts p base t
    parts_top typed.NoPart base t n y h = h
    parts_top (typed.AndArray typed.NoPart at words) base t n y h = parts_any (typed.AndArray typed.NoPart at words) base t (n refl) y h
    parts_top (typed.AndArray all at words) base t n y h = absurd h.1
    parts_top (typed.AndSizedArray all at words e size) base t n y h = (
      h.0,
      sized_any (nearest all o) (nearest all p) (nearest_plain all o plain) (nearest_plain all p too) words size base h.0 h.1,
      parts_any all h.0 t (made_not_char (nearest all o) words (Some size) base h.0 h.1) y h.2,
    )
    parts_top (typed.AndFunction all at ps) base t n y h = (
      h.0,
      called_any (nearest all o) (nearest all p) (nearest_plain all o plain) (nearest_plain all p too) ps base h.0 h.1,
      parts_any all h.0 t (called_not_char (nearest all o) ps base h.0 h.1) y h.2,
    )

    outside_any : (core : TypedCore) (parts : TypedParts) (u v t : TypeId) (b : Bool) → is_derived_core core ≡ b → (b ≡ false → is_open parts ≡ true → is_char_shape (shape_at T u) ≡ false)
        → is_char_array T t ≡ true → CoreMakes T c core o v t → PartsMake T c parts (if b then Written else o) u v → PartsMake T c parts (if b then Written else p) u v
    outside_any core parts u v t true q n y g h = h
    outside_any core parts u v t false q n y g h = parts_top parts u v (n refl) (ap (is_char_array T) (sym (bare_core_same core o v t q g)) ∙ y) h

    mutual
      pub form_any : (form : TypedForm) (base t : TypeId) → is_char_array T t ≡ true → (is_one_array (erased_form form) && is_char_shape (shape_at T base)) ≡ false
          → FormMakes T c form o base t → FormMakes T c form p base t
      form_any (typed.Form stars core parts) base t y n h = (
        h.0,
        h.1,
        h.2,
        outside_any core parts h.0 h.1 t (is_derived_core core) refl (λ q w. open_base stars core parts base h.0 q w n h.2) y h.4 h.3,
        core_any core h.1 t y (inner stars core parts (outside core o) base h.0 h.1 n h.2 h.3) h.4,
      )

      core_any : (core : TypedCore) (base t : TypeId) → is_char_array T t ≡ true → (is_one_array_core (erased_core core) && is_char_shape (shape_at T base)) ≡ false
          → CoreMakes T c core o base t → CoreMakes T c core p base t
      core_any (typed.Names name home) base t y n h = h
      core_any typed.Unnamed base t y n h = h
      core_any (typed.Nested at form) base t y n h = form_any form base t y n h

  -- an array of char without its size

  counted_chars : (o : Outermost) (words : List Word) (u w : TypeId) → is_pointed o ≡ false → is_char_shape (shape_at T u) ≡ true → MakesArray T c o words None u w
      → is_char_array T w ≡ true
  counted_chars (Points n) words u w x y h = no_true (sym x)
  counted_chars Written words u w x y h = absurd h
  counted_chars (Counts g) words u w x y h = ap (λ (z : TypeShape). has_count (char_count_of_shape T z)) h.1.1.1 ∙ char_element (shape_at T u) g y

  mutual
    pub one_array_char : (form : TypedForm) (o : Outermost) (base t : TypeId) → is_one_array (erased_form form) ≡ true → is_pointed o ≡ false → is_char_shape (shape_at T base) ≡ true
        → FormMakes T c form o base t → is_char_array T t ≡ true
    one_array_char (typed.Form [] core (typed.AndArray typed.NoPart at words)) o base t n x y h =
        let q = underived_core core n in
        let same = bare_core_same core o h.1 t q h.4 in
        ap (is_char_array T) (same ∙ h.3.2) ∙ counted_chars o words h.0 h.3.0 x (ap (λ (u : TypeId). is_char_shape (shape_at T u)) h.2 ∙ y)
        (subst (λ (b : Bool). MakesArray T c (if b then Written else o) words None h.0 h.3.0) q h.3.1)
    one_array_char (typed.Form [] core typed.NoPart) o base t n x y h =
        one_array_core_char core o h.1 t n x (ap (λ (u : TypeId). is_char_shape (shape_at T u)) (h.3 ∙ h.2) ∙ y) h.4
    one_array_char (typed.Form stars core parts) o base t n x y h = no_true n

    one_array_core_char : (core : TypedCore) (o : Outermost) (base t : TypeId) → is_one_array_core (erased_core core) ≡ true → is_pointed o ≡ false → is_char_shape (shape_at T base) ≡ true
        → CoreMakes T c core o base t → is_char_array T t ≡ true
    one_array_core_char (typed.Names name home) o base t n x y h = no_true n
    one_array_core_char typed.Unnamed o base t n x y h = no_true n
    one_array_core_char (typed.Nested at form) o base t n x y h = one_array_char form o base t n x y h

-- Sizes

count_same : (items : TypedItems) → count_written (erased_items items) ≡ items_count items
count_same typed.NoItem = refl
count_same (typed.AndItem all offset t i) = ap (λ (n : ℕ). n + 1) (count_same all)

pub size_plain : (i : TypedInitialiser) → size_written false (erased_initialiser i) ≡ size_given false i
size_plain (typed.Value e) = refl
size_plain (typed.Copied p at) = refl
size_plain (typed.Text pieces bytes) = refl
size_plain (typed.Listed brace items comma t) = ap Some (count_same items)

one_written : (x : tree.Expr) → false ≡ is_only_literal (tree.AndItem tree.NoItem (tree.Value x)) → listed_written true (tree.AndItem tree.NoItem (tree.Value x)) ≡ 1
one_written (tree.String pieces) h = no_true h
one_written x h = refl

listed_same : (items : TypedItems) → is_only_text items ≡ is_only_literal (erased_items items) → listed_written true (erased_items items) ≡ listed_size true items
listed_same typed.NoItem h = refl
listed_same (typed.AndItem (typed.AndItem all o u j) offset t i) h = count_same (typed.AndItem (typed.AndItem all o u j) offset t i)
listed_same (typed.AndItem typed.NoItem offset t (typed.Text pieces bytes)) h = refl
listed_same (typed.AndItem typed.NoItem offset t (typed.Listed brace items comma u)) h = refl
listed_same (typed.AndItem typed.NoItem offset t (typed.Value e)) h = one_written (erased e) h
listed_same (typed.AndItem typed.NoItem offset t (typed.Copied p at)) h = one_written (erased_place p) h

-- a literal by itself in braces is a text as it is typed too
abbrev pub IsTextAsWritten : TypedInitialiser → Type 0
IsTextAsWritten (typed.Listed brace items comma t) = is_only_text items ≡ is_only_literal (erased_items items)
IsTextAsWritten i = Unit {0}

pub size_chars : (T : Table) (i : TypedInitialiser) (at : Place) (t : TypeId) (s s' : Scopes) → is_char_array T t ≡ true → IsInitialiser T i at t s s' → IsTextAsWritten i
    → size_written true (erased_initialiser i) ≡ size_given true i
size_chars T (typed.Value e) at t s s' y h w = both_false (is_scalar_shape (shape_at T t)) (chars_no_scalar T (shape_at T t) y) h.1
size_chars T (typed.Copied p seat) at t s s' y h w = both_false (is_aggregate_shape (shape_at T (place_type p))) (array_not_struct T t (place_type p) y h.3) h.2
size_chars T (typed.Text pieces bytes) at t s s' y h w = refl
size_chars T (typed.Listed brace items comma u) at t s s' y h w = ap Some (listed_same items w)

pub outermost_plain : (o : Option ℕ) → is_pointed (outermost_of o) ≡ false
outermost_plain None = refl
outermost_plain (Some n) = refl

-- what a declarator makes with the size that is written, it makes with the size that is given
pub size-given : (T : Table) (c : Scopes) (form : TypedForm) (base t : TypeId) (i : TypedInitialiser) (at : Place) (s s' : Scopes) → IsInitialiser T i at t s s' → (is_char_array T t ≡ true → IsTextAsWritten i)
    → FormMakes T c form (outermost_of (size_written (makes_chars T base (erased_form form)) (erased_initialiser i))) base t
    → FormMakes T c form (outermost_of (size_given (is_char_array T t) i)) base t
size-given T c form base t i at s s' typed_here w h = by (makes_chars T base (erased_form form)) (is_char_array T t) refl refl h
  where
    by : (m y : Bool) → makes_chars T base (erased_form form) ≡ m → is_char_array T t ≡ y → FormMakes T c form (outermost_of (size_written m (erased_initialiser i))) base t
        → FormMakes T c form (outermost_of (size_given y i)) base t
    by true true q r g = subst (λ (o : Option ℕ). FormMakes T c form (outermost_of o) base t) (size_chars T i at t s s' r typed_here (w r)) g
    by true false q r g =
        both_false (is_char_array T t) r
        (one_array_char T c form (outermost_of (size_written true (erased_initialiser i))) base t (and_left (is_one_array (erased_form form)) (is_char_shape (shape_at T base)) q)
        (outermost_plain (size_written true (erased_initialiser i))) (and_right (is_one_array (erased_form form)) (is_char_shape (shape_at T base)) q) g)
    by false true q r g =
        form_any T c (outermost_of (size_written false (erased_initialiser i))) (outermost_of (size_given true i)) (outermost_plain (size_written false (erased_initialiser i)))
        (outermost_plain (size_given true i)) form base t r q g
    by false false q r g = subst (λ (o : Option ℕ). FormMakes T c form (outermost_of o) base t) (size_plain i) g

is_listed : tree.Initialiser → Bool
is_listed (tree.Value e) = false
is_listed (tree.Listed brace items comma) = true

-- what is judged of a value is no list
unlisted : (e : tree.Expr) (one : TypedInitialiser) → erased_initialiser one ≡ tree.Value e → IsTextAsWritten one
unfolding is_listed
unlisted e (typed.Listed brace items comma t) h = no_true (sym (ap is_listed h))
unlisted e (typed.Value v) h = tt
unlisted e (typed.Copied p at) h = tt
unlisted e (typed.Text pieces bytes) h = tt

pub text-as-written : (constant : Bool) (i : tree.Initialiser) (at : Place) (t : TypeId) (one : TypedInitialiser) (s r : UnitState) → IsKnown (state_of s) → IsComplete s.table t
    → is_char_array s.table t ≡ true → judge_initialiser constant i at (Some t) false s ≡ Gives one r → IsTextAsWritten one
unfolding judge_initialiser
text-as-written constant (tree.Value e) at t one s r k c y h =
    unlisted e one (initialiser-judged (tree.Value e) constant at t false one s r k c h).erases
text-as-written constant (tree.Listed brace items comma) at t one s r k c y h =
    let text = is_only_literal items && is_char_array s.table t in
    let two = bind-gives (judge_items constant items text t s) (λ list. pure (typed.Listed brace list comma t)) one r h in
    let j = items-judged items constant text t two.0 s two.1 k c two.2 in
    let chars = is_chars-same s.table two.1.table j.goes.extends k.basic t c in
    let flag : text ≡ is_only_literal (erased_items two.0) =
    ap (λ (f : Bool). is_only_literal items && f) y ∙ and_unit (is_only_literal items) ∙ ap is_only_literal (sym j.erases) in
    given-same (λ (v : TypedInitialiser) (q : UnitState). IsTextAsWritten v) (typed.Listed brace two.0 comma t) one two.1 r two.3
    (only_text two.1.table t (chars ∙ y) two.0 s.seen.scopes two.1.seen.scopes
    (subst (λ (f : Bool). AreItems two.1.table two.0 f t s.seen.scopes two.1.seen.scopes) flag j.typed))

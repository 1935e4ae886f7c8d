-- What a form makes of a type, where a missing size of an array is known: all but that size is fixed by the form; and the size is fixed by
-- the initialiser.
use Rattle.std.proofs.Common.{◌≡◌, ℕ, ◌+◌, Bool, true, false, ◌==◌, if◌then◌else◌, List, [], ◌∷◌, length, Option, Some, None, refl, ap, sym, subst, ◌∙◌, inl, inr, ◌⊎◌}
use Rattle.cc_base.specs.declared.place.Place.{Place}
use Rattle.cc_base.specs.declared.number.TypeId.{TypeId}
use Rattle.c_types.specs.declared.shape.TypeShape.{TypeShape}
use Rattle.c_types.specs.declared.shape.TypeShape.TheVariants.{Void, Integer, Pointer, Array, Function, Struct, Union}
use Rattle.c_types.specs.Table.{Table, HasShape, shape_at}
use Rattle.c_tree.specs.Literals.{pieces_bytes}
use Rattle.c_tree.specs.declared.leaf.StringPiece.{StringPiece}
use Rattle.c_tree.specs.declared.leaf.Word.{Word}
use Rattle.c_tree.specs.Erasure.{erased_initialiser, erased_items}
use Rattle.c_tree.specs.Tree as tree
use Rattle.c_tree.specs.TypedTree as typed
use Rattle.c_tree.specs.TypedTree.{TypedForm, TypedCore, TypedParts, TypedParameters, TypedInitialiser, TypedItems}
use Rattle.c_tree.specs.TypedParts.{made_by_initialiser}
use Rattle.c_typing.specs.Walks.{outermost_of}
use Rattle.c_typing.specs.Declarators.{MakesFunction, Outermost, Written, MakesArray, is_derived, is_derived_core, PartsMake, FormMakes, CoreMakes}
use Rattle.c_typing.specs.Scopes.{Scopes}
use Rattle.c_typing_unique.proofs.FormLaws.{makes-array, makes-function, parts-make, stars-make}
use Rattle.c_typing_unique.proofs.Numbering.{Point, Numbers}
use Rattle.c_typing_unique.proofs.Shapes.{IsDistinct, no_true, shape-one, some-same}
use Rattle.c_unit_typing.specs.Initialisers.{IsInitialiser, char_count_of_shape, char_count_of_element, has_count, is_char_array, is_only_text, items_count, listed_size, size_given}
use Rattle.c_unit_unique.proofs.Initialisers.{only-text-same}

module _ (T : Table) (D : IsDistinct T) where
  -- two types are one, or arrays of one type whose sizes were missing
  abbrev pub AreSized : Option ℕ → Option ℕ → TypeId → TypeId → Type 0
  AreSized f g t u =
      (t ≡ u) ⊎ ((c d : ℕ) × (element : TypeId) × (f ≡ Some c) × (g ≡ Some d) × (shape_at T t ≡ Array element c) × (shape_at T u ≡ Array element d) × HasShape T t (Array element c) × HasShape T u (Array element d))

  sized_as : (f g : Option ℕ) (t u v w : TypeId) → v ≡ t → w ≡ u → AreSized f g t u → AreSized f g v w
  sized_as f g t u v w p q h = subst (λ (x : TypeId). AreSized f g x w) (sym p) (subst (AreSized f g t) (sym q) h)

  array_sized : (s : Scopes) (f g : Option ℕ) (words : List Word) (v w t u : TypeId) → v ≡ w → MakesArray T s (outermost_of f) words None v t → MakesArray T s (outermost_of g) words None w u
      → AreSized f g t u
  array_sized s (Some c) (Some d) words v w t u q h k =
      let other = subst (λ (x : TypeId). HasShape T u (Array x d)) (sym q) k.1.1 in
      inr (c, d, v, refl, refl, h.1.1.1, other.1, h.1.1, other)
  array_sized s None g words v w t u q h k = absurd h
  array_sized s (Some c) None words v w t u q h k = absurd k

  sized_array : (s : Scopes) (f g : Option ℕ) (words : List Word) (size : ℕ) (v w t u : TypeId) → v ≡ w → MakesArray T s (outermost_of f) words (Some size) v t
      → MakesArray T s (outermost_of g) words (Some size) w u → t ≡ u
  sized_array s None None words size v w t u q h k = makes-array T D s Written words (Some size) v w t u q h k
  sized_array s None (Some d) words size v w t u q h k = makes-array T D s Written words (Some size) v w t u q h k
  sized_array s (Some c) None words size v w t u q h k = makes-array T D s Written words (Some size) v w t u q h k
  sized_array s (Some c) (Some d) words size v w t u q h k = makes-array T D s Written words (Some size) v w t u q h k

  function_same : (f g : Option ℕ) (parameters : TypedParameters) (v w t u : TypeId) → v ≡ w → MakesFunction T (outermost_of f) parameters v t
      → MakesFunction T (outermost_of g) parameters w u → t ≡ u
  function_same None None parameters v w t u q h k = makes-function T D Written parameters v w t u q h k
  function_same None (Some d) parameters v w t u q h k = makes-function T D Written parameters v w t u q h k
  function_same (Some c) None parameters v w t u q h k = makes-function T D Written parameters v w t u q h k
  function_same (Some c) (Some d) parameters v w t u q h k = makes-function T D Written parameters v w t u q h k

  parts_sized : (s : Scopes) (parts : TypedParts) (f g : Option ℕ) (v w t u : TypeId) → v ≡ w → PartsMake T s parts (outermost_of f) v t → PartsMake T s parts (outermost_of g) w u → AreSized f g t u
  parts_sized s typed.NoPart f g v w t u q h k = inl (h ∙ q ∙ sym k)
  parts_sized s (typed.AndArray typed.NoPart at words) f g v w t u q h k = sized_as f g h.0 k.0 t u h.2 k.2 (array_sized s f g words v w h.0 k.0 q h.1 k.1)
  parts_sized s (typed.AndArray (typed.AndArray all to more) at words) f g v w t u q h k =
      parts_sized s (typed.AndArray all to more) f g h.0 k.0 t u (makes-array T D s Written words None v w h.0 k.0 q h.1 k.1) h.2 k.2
  parts_sized s (typed.AndArray (typed.AndSizedArray all to more e n) at words) f g v w t u q h k =
      parts_sized s (typed.AndSizedArray all to more e n) f g h.0 k.0 t u (makes-array T D s Written words None v w h.0 k.0 q h.1 k.1) h.2 k.2
  parts_sized s (typed.AndArray (typed.AndFunction all to ps) at words) f g v w t u q h k =
      parts_sized s (typed.AndFunction all to ps) f g h.0 k.0 t u (makes-array T D s Written words None v w h.0 k.0 q h.1 k.1) h.2 k.2
  parts_sized s (typed.AndSizedArray typed.NoPart at words e size) f g v w t u q h k = inl (h.2 ∙ sized_array s f g words size v w h.0 k.0 q h.1 k.1 ∙ sym k.2)
  parts_sized s (typed.AndSizedArray (typed.AndArray all to more) at words e size) f g v w t u q h k =
      parts_sized s (typed.AndArray all to more) f g h.0 k.0 t u (makes-array T D s Written words (Some size) v w h.0 k.0 q h.1 k.1) h.2 k.2
  parts_sized s (typed.AndSizedArray (typed.AndSizedArray all to more x n) at words e size) f g v w t u q h k =
      parts_sized s (typed.AndSizedArray all to more x n) f g h.0 k.0 t u (makes-array T D s Written words (Some size) v w h.0 k.0 q h.1 k.1) h.2 k.2
  parts_sized s (typed.AndSizedArray (typed.AndFunction all to ps) at words e size) f g v w t u q h k =
      parts_sized s (typed.AndFunction all to ps) f g h.0 k.0 t u (makes-array T D s Written words (Some size) v w h.0 k.0 q h.1 k.1) h.2 k.2
  parts_sized s (typed.AndFunction typed.NoPart at parameters) f g v w t u q h k = inl (h.2 ∙ function_same f g parameters v w h.0 k.0 q h.1 k.1 ∙ sym k.2)
  parts_sized s (typed.AndFunction (typed.AndArray all to more) at parameters) f g v w t u q h k =
      parts_sized s (typed.AndArray all to more) f g h.0 k.0 t u (makes-function T D Written parameters v w h.0 k.0 q h.1 k.1) h.2 k.2
  parts_sized s (typed.AndFunction (typed.AndSizedArray all to more e n) at parameters) f g v w t u q h k =
      parts_sized s (typed.AndSizedArray all to more e n) f g h.0 k.0 t u (makes-function T D Written parameters v w h.0 k.0 q h.1 k.1) h.2 k.2
  parts_sized s (typed.AndFunction (typed.AndFunction all to ps) at parameters) f g v w t u q h k =
      parts_sized s (typed.AndFunction all to ps) f g h.0 k.0 t u (makes-function T D Written parameters v w h.0 k.0 q h.1 k.1) h.2 k.2

  -- what stands in parentheses and derives nothing makes nothing
  mutual
    underived : (s : Scopes) (form : TypedForm) (o : Outermost) (v t : TypeId) → is_derived form ≡ false → FormMakes T s form o v t → t ≡ v
    underived s (typed.Form [] core typed.NoPart) o v t n h = underived_core s core o h.1 t n h.4 ∙ h.3 ∙ h.2
    underived s (typed.Form [] core (typed.AndArray all at words)) o v t n h = no_true (sym n)
    underived s (typed.Form [] core (typed.AndSizedArray all at words e size)) o v t n h = no_true (sym n)
    underived s (typed.Form [] core (typed.AndFunction all at parameters)) o v t n h = no_true (sym n)
    underived s (typed.Form (star ∷ stars) core parts) o v t n h = no_true (sym n)

    underived_core : (s : Scopes) (core : TypedCore) (o : Outermost) (v t : TypeId) → is_derived_core core ≡ false → CoreMakes T s core o v t → t ≡ v
    underived_core s (typed.Names name home) o v t n h = h
    underived_core s typed.Unnamed o v t n h = h
    underived_core s (typed.Nested at form) o v t n h = underived s form o v t n h

  abbrev IsCoreSized : Scopes → TypedCore → Option ℕ → Option ℕ → Type 0
  IsCoreSized s core f g = (v w t u : TypeId) → v ≡ w → CoreMakes T s core (outermost_of f) v t → CoreMakes T s core (outermost_of g) w u → AreSized f g t u

  form_with : (s : Scopes) (parts : TypedParts) (core : TypedCore) (f g : Option ℕ) (a b v w t u : TypeId) → IsCoreSized s core f g → a ≡ b → (derived : Bool) → is_derived_core core ≡ derived
      → PartsMake T s parts (if derived then Written else outermost_of f) a v → PartsMake T s parts (if derived then Written else outermost_of g) b w
      → CoreMakes T s core (outermost_of f) v t → CoreMakes T s core (outermost_of g) w u → AreSized f g t u
  form_with s parts core f g a b v w t u rest q true n h k j l = rest v w t u (parts-make T D s parts Written a b v w q h k) j l
  form_with s parts core f g a b v w t u rest q false n h k j l =
      sized_as f g v w t u (underived_core s core (outermost_of f) v t n j) (underived_core s core (outermost_of g) w u n l) (parts_sized s parts f g a b v w q h k)

  mutual
    form_sized : (s : Scopes) (form : TypedForm) (f g : Option ℕ) (v w t u : TypeId) → v ≡ w → FormMakes T s form (outermost_of f) v t → FormMakes T s form (outermost_of g) w u → AreSized f g t u
    form_sized s (typed.Form stars core parts) f g v w t u q h k =
        form_with s parts core f g h.0 k.0 h.1 k.1 t u (core_sized s core f g) (stars-make T D stars v w h.0 k.0 q h.2 k.2) (is_derived_core core) refl h.3 k.3 h.4 k.4

    core_sized : (s : Scopes) (core : TypedCore) (f g : Option ℕ) → IsCoreSized s core f g
    core_sized s (typed.Names name home) f g v w t u q h k = inl (h ∙ q ∙ sym k)
    core_sized s typed.Unnamed f g v w t u q h k = inl (h ∙ q ∙ sym k)
    core_sized s (typed.Nested at form) f g v w t u q h k = form_sized s form f g v w t u q h k

  -- The size that an initialiser gives

  char_sizes : (w : TypeShape) (c d : ℕ) → has_count (char_count_of_element w c) ≡ has_count (char_count_of_element w d)
  char_sizes (Integer b s) c d = by (b == 1)
    where
      by : (v : Bool) → has_count (if v then Some c else None) ≡ has_count (if v then Some d else None)
      by true = refl
      by false = refl
  char_sizes Void c d = refl
  char_sizes (Pointer n t) c d = refl
  char_sizes (Array t n) c d = refl
  char_sizes (Function ps r) c d = refl
  char_sizes (Struct n) c d = refl
  char_sizes (Union n) c d = refl

  count_erased : tree.Items → ℕ
  count_erased tree.NoItem = 0
  count_erased (tree.AndItem xs x) = count_erased xs + 1
  count_erased (tree.AndMemberDesignator xs at) = 0
  count_erased (tree.AndIndexDesignator xs at) = 0

  counted : (x : TypedItems) → items_count x ≡ count_erased (erased_items x)
  unfolding count_erased
  counted typed.NoItem = refl
  counted (typed.AndItem all offset t i) = ap (λ (n : ℕ). n + 1) (counted all)

  counts_same : (x y : TypedItems) → erased_items x ≡ erased_items y → items_count x ≡ items_count y
  counts_same x y h = counted x ∙ ap count_erased h ∙ sym (counted y)

  no_text : (x : TypedItems) → is_only_text x ≡ false → listed_size true x ≡ items_count x
  no_text (typed.AndItem typed.NoItem offset t (typed.Text pieces bytes)) h = no_true (sym h)
  no_text x h = refl

  literal_same : (p q : List StringPiece) → tree.AndItem tree.NoItem (tree.Value (tree.String p)) ≡ tree.AndItem tree.NoItem (tree.Value (tree.String q)) → p ≡ q
  literal_same p q h = cc

  texts_sized : (x y : TypedItems) → is_only_text x ≡ true → is_only_text y ≡ true → erased_items x ≡ erased_items y → listed_size true x ≡ listed_size true y
  texts_sized (typed.AndItem typed.NoItem o t (typed.Text p b)) (typed.AndItem typed.NoItem n u (typed.Text q c)) h k e =
      ap (λ (l : List StringPiece). length (pieces_bytes l) + 1) (literal_same p q e)
  texts_sized (typed.AndItem typed.NoItem o t (typed.Text p b)) y h k e = no_true k
  texts_sized x y h k e = no_true h

  listed_same : (char : Bool) (x y : TypedItems) → erased_items x ≡ erased_items y → (char ≡ true → is_only_text x ≡ is_only_text y) → listed_size char x ≡ listed_size char y
  listed_same false x y e h = counts_same x y e
  listed_same true x y e h = by (is_only_text x) refl
    where
      by : (v : Bool) → is_only_text x ≡ v → listed_size true x ≡ listed_size true y
      by true p = texts_sized x y p (sym (h refl) ∙ p) e
      by false p = no_text x p ∙ counts_same x y e ∙ sym (no_text y (sym (h refl) ∙ p))

  -- an initialiser of such an array gives one size
  abbrev pub IsTypedAt : TypeId → TypedInitialiser → Type 0
  IsTypedAt t i = (at : Place) × (a b : Point) × IsInitialiser T i at t a.scopes b.scopes × Numbers (made_by_initialiser i) a.node b.node

  none_given : {P : Type 0} (c : ℕ) → None ≡ Some c → P
  none_given c h = absurd (let g : ◌≡◌ {A = Option ℕ} None (Some c) = h in cc)

  text_given : (v w : Bool) (p q : List StringPiece) (b c : List ℕ) → v ≡ w → p ≡ q → size_given v (typed.Text p b) ≡ size_given w (typed.Text q c)
  text_given true true p q b c e h = ap (λ (l : List StringPiece). Some (length (pieces_bytes l) + 1)) h
  text_given false false p q b c e h = refl
  text_given true false p q b c e h = no_true (sym e)
  text_given false true p q b c e h = no_true e

  string_parts : (p q : List StringPiece) → tree.Value (tree.String p) ≡ tree.Value (tree.String q) → p ≡ q
  string_parts p q h = cc

  listed_items : (a b : Place) (x y : tree.Items) (c d : Bool) → tree.Listed a x c ≡ tree.Listed b y d → x ≡ y
  listed_items a b x y c d h = cc

  no_list : {P : Type 0} (x : tree.Expr) (at : Place) (xs : tree.Items) (comma : Bool) → tree.Value x ≡ tree.Listed at xs comma → P
  no_list x at xs comma h = absurd (let g : tree.Value x ≡ tree.Listed at xs comma = h in cc)

  given_same : (t u : TypeId) (i j : TypedInitialiser) (c d : ℕ) → is_char_array T t ≡ is_char_array T u → erased_initialiser i ≡ erased_initialiser j → IsTypedAt t i → IsTypedAt u j
      → size_given (is_char_array T t) i ≡ Some c → size_given (is_char_array T u) j ≡ Some d → size_given (is_char_array T t) i ≡ size_given (is_char_array T u) j
  given_same t u (typed.Value e) j c d o h k l f g = none_given c f
  given_same t u (typed.Copied p at) j c d o h k l f g = none_given c f
  given_same t u (typed.Text p b) (typed.Text q w) c d o h k l f g = text_given (is_char_array T t) (is_char_array T u) p q b w o (string_parts p q h)
  given_same t u (typed.Text p b) (typed.Value e) c d o h k l f g = none_given d g
  given_same t u (typed.Text p b) (typed.Copied q at) c d o h k l f g = none_given d g
  given_same t u (typed.Text p b) (typed.Listed brace ys comma v) c d o h k l f g = no_list (tree.String p) brace (erased_items ys) comma h
  given_same t u (typed.Listed brace xs comma v) (typed.Value e) c d o h k l f g = none_given d g
  given_same t u (typed.Listed brace xs comma v) (typed.Copied q at) c d o h k l f g = none_given d g
  given_same t u (typed.Listed brace xs comma v) (typed.Text q b) c d o h k l f g = no_list (tree.String q) brace (erased_items xs) comma (sym h)
  given_same t u (typed.Listed brace xs comma v) (typed.Listed other ys last w) c d o h k l f g =
      let items = listed_items brace other (erased_items xs) (erased_items ys) comma last h in
      let texts : is_char_array T t ≡ true → is_only_text xs ≡ is_only_text ys =
      (λ e. only-text-same T D t u xs ys k.1 k.2 l.1 l.2 items k.3.1 k.4 l.3.1 l.4 e (sym o ∙ e)) in
      ap Some (listed_same (is_char_array T t) xs ys items texts ∙ ap (λ (b : Bool). listed_size b ys) o)

  -- so the types of two declarators with such initialisers are one
  pub sized-one : (t u : TypeId) (i j : TypedInitialiser) → erased_initialiser i ≡ erased_initialiser j → IsTypedAt t i → IsTypedAt u j
      → AreSized (size_given (is_char_array T t) i) (size_given (is_char_array T u) j) t u → t ≡ u
  sized-one t u i j h k l (inl e) = e
  sized-one t u i j h k l (inr s) =
      let char : is_char_array T t ≡ is_char_array T u =
      ap (λ (z : TypeShape). has_count (char_count_of_shape T z)) s.5 ∙ char_sizes (shape_at T s.2) s.0 s.1 ∙ sym (ap (λ (z : TypeShape). has_count (char_count_of_shape T z)) s.6) in
      let count = some-same s.0 s.1 (sym s.3 ∙ given_same t u i j s.0 s.1 char h k l s.3 s.4 ∙ s.4) in
      shape-one T D t u (Array s.2 s.0) (Array s.2 s.1) (ap (Array s.2) count) s.7 s.8

  -- a form makes types of which all but the missing size is fixed
  pub form-sized : (s r : Scopes) (x y : TypedForm) (f g : Option ℕ) (v t u : TypeId) → s ≡ r → x ≡ y → FormMakes T s x (outermost_of f) v t → FormMakes T r y (outermost_of g) v u → AreSized f g t u
  form-sized s r x y f g v t u p q h k =
      form_sized s x f g v v t u refl h (subst (λ (c : Scopes). FormMakes T c x (outermost_of g) v u) (sym p) (subst (λ (z : TypedForm). FormMakes T r z (outermost_of g) v u) (sym q) k))

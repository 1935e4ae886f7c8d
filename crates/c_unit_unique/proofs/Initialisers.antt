-- An initialiser has one typed tree: by the type that it initialises it is a value, a copy, the text of an array of char, or a list.
use Rattle.std.proofs.Common.{◌≡◌, ℕ, Bool, true, false, ◌&&◌, ◌*◌, nat_lt, if◌then◌else◌, List, [], ◌∷◌, length, Option, Some, None, refl, ap, sym, subst, ◌∙◌}
use Rattle.cc_base.specs.declared.place.Place.{Place}
use Rattle.cc_base.specs.declared.number.TypeId.{TypeId}
use Rattle.c_types.specs.declared.shape.TypeShape.{TypeShape}
use Rattle.c_types.specs.declared.shape.TypeShape.TheVariants.{Void, Integer, Pointer, Array, Function, Struct, Union}
use Rattle.c_types.specs.Layouts.{size_of}
use Rattle.c_types.specs.Table.{Table, descend, is_aggregate_shape, shape_at}
use Rattle.c_types.specs.Sameness.{IsSameType, is_same_type, same_shape, same_step}
use Rattle.c_tree.specs.Literals.{pieces_bytes}
use Rattle.c_tree.specs.declared.leaf.StringPiece.{StringPiece}
use Rattle.c_tree.specs.declared.typed_word.Conversion.{Conversion}
use Rattle.c_tree.specs.Erasure.{erased, erased_initialiser, erased_items}
use Rattle.c_tree.specs.Places.{initialiser_place}
use Rattle.c_tree.specs.Tree as tree
use Rattle.c_tree.specs.TypedTree as typed
use Rattle.c_tree.specs.TypedTree.{TypedExpr, TypedPlace, TypedInitialiser, TypedItems}
use Rattle.c_tree.specs.TypedParts.{Copy, place_type, made_by, made_by_place, made_by_initialiser, made_by_items, item_place}
use Rattle.c_typing.specs.Conversions.{bare, IsAssigned, IsAssignedBy, takes_over, is_pointer_to_complete, is_allocation, implicit, implicit_between, converting_by}
use Rattle.c_typing.specs.Scopes.{Scopes}
use Rattle.c_typing.specs.Shapes.{IsScalar, is_scalar_shape, is_array_shape, is_integer_shape, is_pointer_shape}
use Rattle.c_typing_unique.proofs.Numbering.{Point, HasOwn, Numbers, ends, two-parts}
use Rattle.c_typing_unique.proofs.Reading.{IsReadAs, IsRead, IsReadPlace, place-one, point-same, value-one}
use Rattle.c_typing_unique.proofs.Shapes.{IsDistinct, no_true, two-sorts, scalar-no-aggregate, scalar-no-array, aggregate-no-array, some-same}
use Rattle.c_typing_unique.proofs.ExprSteps.{string-decays}
use Rattle.c_typing_unique.proofs.Readings.{Both}
use Rattle.c_typing_unique.proofs.UniqueTrees.{expr-one}
use Rattle.c_typing_unique.proofs.ValueLaws.{assigned-one}
use Rattle.c_unit_typing.specs.Initialisers.{IsInitialiser, AreItems, IsText, IsSlot, Slot, char_count_of_shape, char_count_of_element, has_count, is_char_array, is_only_text, items_count, slot_of_shape}

abbrev pub IsInitialiserRead : Table → Place → TypeId → tree.Initialiser → TypedInitialiser → Point → Point → Type 0
IsInitialiserRead T at t = IsReadAs erased_initialiser made_by_initialiser (λ (i : TypedInitialiser) (s r : Scopes). IsInitialiser T i at t s r)

abbrev pub AreItemsRead : Table → Bool → TypeId → tree.Items → TypedItems → Point → Point → Type 0
AreItemsRead T text t = IsReadAs erased_items made_by_items (λ (x : TypedItems) (s r : Scopes). AreItems T x text t s r)

abbrev pub IsInitialiserUnique : Table → tree.Initialiser → Type 0
IsInitialiserUnique T x =
    (at to : Place) (t u : TypeId) (y z : TypedInitialiser) (a b c d : Point) → at ≡ to → t ≡ u → IsInitialiserRead T at t x y a b → IsInitialiserRead T to u x z c d → a ≡ c → HasOwn a
    → (y ≡ z) × (b ≡ d) × HasOwn b

abbrev pub AreItemsUnique : Table → tree.Items → Type 0
AreItemsUnique T x =
    (v w : Bool) (t u : TypeId) (y z : TypedItems) (a b c d : Point) → v ≡ w → t ≡ u → AreItemsRead T v t x y a b → AreItemsRead T w u x z c d → a ≡ c → HasOwn a
    → (y ≡ z) × (b ≡ d) × HasOwn b

-- what is of one type with a struct or union is one

same_aggregate : (f : TypeId → TypeId → Bool) (x y : TypeShape) → same_shape f x y ≡ true → is_aggregate_shape y ≡ true → is_aggregate_shape x ≡ true
same_aggregate f (Struct n) y h k = refl
same_aggregate f (Union n) y h k = refl
same_aggregate f Void (Struct m) h k = h
same_aggregate f Void (Union m) h k = h
same_aggregate f (Integer b s) (Struct m) h k = h
same_aggregate f (Integer b s) (Union m) h k = h
same_aggregate f (Pointer n t) (Struct m) h k = h
same_aggregate f (Pointer n t) (Union m) h k = h
same_aggregate f (Array t n) (Struct m) h k = h
same_aggregate f (Array t n) (Union m) h k = h
same_aggregate f (Function ps r) (Struct m) h k = h
same_aggregate f (Function ps r) (Union m) h k = h
same_aggregate f x Void h k = no_true k
same_aggregate f x (Integer b s) h k = no_true k
same_aggregate f x (Pointer n t) h k = no_true k
same_aggregate f x (Array t n) h k = no_true k
same_aggregate f x (Function ps r) h k = no_true k

same_struct : (T : Table) (t u : TypeId) → IsSameType T t u → is_aggregate_shape (shape_at T u) ≡ true → is_aggregate_shape (shape_at T t) ≡ true
unfolding is_same_type
same_struct T t u h k = same_aggregate (descend (same_step T) (λ v. false) (length T)) (shape_at T t) (shape_at T u) h k

-- Texts

text_array : (T : Table) (z : TypeShape) (text bytes : List ℕ) → IsText (char_count_of_shape T z) text bytes → is_array_shape z ≡ true
text_array T (Array e n) text bytes h = refl
text_array T Void text bytes h = absurd h
text_array T (Integer b s) text bytes h = absurd h
text_array T (Pointer n t) text bytes h = absurd h
text_array T (Function ps r) text bytes h = absurd h
text_array T (Struct n) text bytes h = absurd h
text_array T (Union n) text bytes h = absurd h

text_one : (o : Option ℕ) (text x y : List ℕ) → IsText o text x → IsText o text y → x ≡ y
text_one None text x y h k = absurd h
text_one (Some n) text x y h k = h.1 ∙ sym k.1

-- what is no list in braces, by its type
pub data IsInitialising (T : Table) (at : Place) (t : TypeId) (x : tree.Expr) (a b : Point) : TypedInitialiser → Type 0 where
  by-value : (e : TypedExpr) → IsRead T x e a b → IsScalar T t → IsAssigned T b.scopes at t e → IsInitialising T at t x a b (typed.Value e)
  by-copy : (p : TypedPlace) (seat : Place) → IsReadPlace T x p a b → seat ≡ at → is_aggregate_shape (shape_at T t) ≡ true → IsInitialising T at t x a b (typed.Copied p seat)
  by-text : (pieces : List StringPiece) (bytes : List ℕ) → x ≡ tree.String pieces → b ≡ a → IsText (char_count_of_shape T (shape_at T t)) (pieces_bytes pieces) bytes
      → IsInitialising T at t x a b (typed.Text pieces bytes)

pieces_same : (x y : List StringPiece) → tree.String x ≡ tree.String y → x ≡ y
pieces_same x y h = cc

module _ (T : Table) (D : IsDistinct T) where
  initialising_one : (x : tree.Expr) (at to : Place) (t u : TypeId) (y z : TypedInitialiser) (a b c d : Point) → at ≡ to → t ≡ u → IsInitialising T at t x a b y → IsInitialising T to u x c d z
      → a ≡ c → HasOwn a → (y ≡ z) × (b ≡ d) × HasOwn b
  initialising_one x at to t u _ _ a b c d p q (by-value e h s k) (by-value f j r l) o own =
      let one = value-one T D x (expr-one T D x) e f a b c d h j o own in
      let value = assigned-one T b.scopes d.scopes at t u e f one.1 q one.0 k (subst (λ (w : Place). IsAssigned T d.scopes w u f) (sym p) l) in
      (ap typed.Value value, point-same b d one.1 (ends (made_by e) (made_by f) a.node c.node b.node d.node (ap made_by value) (ap (λ (w : Point). w.node) o) h.2 j.2), one.2)
  initialising_one x at to t u _ _ a b c d p q (by-copy e seat h s k) (by-copy f place j r l) o own =
      let one = place-one T x (expr-one T D x) e f a b c d h j o own in
      let first = one.0 in
      let second = s ∙ p ∙ sym r in
      ((λ i. typed.Copied (first i) (second i)), one.1, one.2)
  initialising_one x at to t u _ _ a b c d p q (by-text n bytes h s k) (by-text m text j r l) o own =
      let pieces = pieces_same n m (sym h ∙ j) in
      let same = text_one (char_count_of_shape T (shape_at T t)) (pieces_bytes n) bytes text k
      (subst (λ (w : TypeId). IsText (char_count_of_shape T (shape_at T w)) (pieces_bytes n) text) (sym q)
      (subst (λ (w : List StringPiece). IsText (char_count_of_shape T (shape_at T u)) (pieces_bytes w) text) (sym pieces) l)) in
      ((λ i. typed.Text (pieces i) (same i)), s ∙ o ∙ sym r, subst HasOwn (sym s) own)
  initialising_one x at to t u _ _ a b c d p q (by-value e h s k) (by-copy f place j r l) o own =
      two-sorts is_scalar_shape is_aggregate_shape scalar-no-aggregate (shape_at T t) (shape_at T u) (ap (shape_at T) q) s l
  initialising_one x at to t u _ _ a b c d p q (by-copy f place j r l) (by-value e h s k) o own =
      two-sorts is_scalar_shape is_aggregate_shape scalar-no-aggregate (shape_at T u) (shape_at T t) (ap (shape_at T) (sym q)) s l
  initialising_one x at to t u _ _ a b c d p q (by-value e h s k) (by-text m text j r l) o own =
      two-sorts is_scalar_shape is_array_shape scalar-no-array (shape_at T t) (shape_at T u) (ap (shape_at T) q) s (text_array T (shape_at T u) (pieces_bytes m) text l)
  initialising_one x at to t u _ _ a b c d p q (by-text m text j r l) (by-value e h s k) o own =
      two-sorts is_scalar_shape is_array_shape scalar-no-array (shape_at T u) (shape_at T t) (ap (shape_at T) (sym q)) s (text_array T (shape_at T t) (pieces_bytes m) text l)
  initialising_one x at to t u _ _ a b c d p q (by-copy f place h s k) (by-text m text j r l) o own =
      two-sorts is_aggregate_shape is_array_shape aggregate-no-array (shape_at T t) (shape_at T u) (ap (shape_at T) q) k (text_array T (shape_at T u) (pieces_bytes m) text l)
  initialising_one x at to t u _ _ a b c d p q (by-text m text j r l) (by-copy f place h s k) o own =
      two-sorts is_aggregate_shape is_array_shape aggregate-no-array (shape_at T u) (shape_at T t) (ap (shape_at T) (sym q)) k (text_array T (shape_at T t) (pieces_bytes m) text l)

  -- how an initialiser is read
  abbrev IsInitialiserOf : Place → TypeId → tree.Initialiser → TypedInitialiser → Point → Point → Type 0
  IsInitialiserOf at t (tree.Value x) y a b = IsInitialising T at t x a b y
  IsInitialiserOf at t (tree.Listed brace xs comma) y a b =
      (items : TypedItems) × AreItemsRead T (is_only_text items && is_char_array T t) t xs items a b × (y ≡ typed.Listed brace items comma t)

  initialiser_of : (at : Place) (t : TypeId) (y : TypedInitialiser) (a b : Point) → IsInitialiser T y at t a.scopes b.scopes → Numbers (made_by_initialiser y) a.node b.node
      → IsInitialiserOf at t (erased_initialiser y) y a b
  initialiser_of at t (typed.Value e) a b h k = by-value e (refl, h.0, k) h.1 h.2
  initialiser_of at t (typed.Copied p seat) a b h k =
      let cut = two-parts (made_by_place p) (Copy (place_type p) ∷ []) a.node b.node k in
      by-copy p seat (refl, h.0, subst (Numbers (made_by_place p) a.node) (sym cut.2) cut.1) h.1 (same_struct T t (place_type p) h.3 h.2)
  initialiser_of at t (typed.Text pieces bytes) a b h k = by-text pieces bytes refl (point-same b a h.0 k) h.1
  initialiser_of at t (typed.Listed brace items comma u) a b h k = (items, (refl, h.1, k), ap (typed.Listed brace items comma) h.0)

  pub is-initialiser : (at : Place) (t : TypeId) (x : tree.Initialiser) (y : TypedInitialiser) (a b : Point) → IsInitialiserRead T at t x y a b → IsInitialiserOf at t x y a b
  is-initialiser at t x y a b h = subst (λ (w : tree.Initialiser). IsInitialiserOf at t w y a b) h.0 (initialiser_of at t y a b h.1 h.2)

  -- Lists

  abbrev AreItemsOf : Bool → TypeId → tree.Items → TypedItems → Point → Point → Type 0
  AreItemsOf text t tree.NoItem y a b = (y ≡ typed.NoItem) × (b ≡ a)
  AreItemsOf text t (tree.AndItem xs x) y a b =
      (all : TypedItems) × (offset : ℕ) × (u : TypeId) × (i : TypedInitialiser) × Both (AreItemsRead T text t xs all) (IsInitialiserRead T (item_place i) u x i) a b
      × IsSlot text T t (items_count all) offset u × (y ≡ typed.AndItem all offset u i)
  AreItemsOf text t (tree.AndMemberDesignator xs at) y a b = ⊥
  AreItemsOf text t (tree.AndIndexDesignator xs at) y a b = ⊥

  items_of : (text : Bool) (t : TypeId) (y : TypedItems) (a b : Point) → AreItems T y text t a.scopes b.scopes → Numbers (made_by_items y) a.node b.node → AreItemsOf text t (erased_items y) y a b
  items_of text t typed.NoItem a b h k = (refl, point-same b a h k)
  items_of text t (typed.AndItem all offset u i) a b h k =
      let cut = two-parts (made_by_items all) (made_by_initialiser i) a.node b.node k in
      (all, offset, u, i, (record { scopes = h.0; node = cut.0 }, (refl, h.1, cut.1), (refl, h.2, cut.2)), h.3, refl)

  are_items : (text : Bool) (t : TypeId) (x : tree.Items) (y : TypedItems) (a b : Point) → AreItemsRead T text t x y a b → AreItemsOf text t x y a b
  are_items text t x y a b h = subst (λ (w : tree.Items). AreItemsOf text t w y a b) h.0 (items_of text t y a b h.1 h.2)

  pub no-item-unique : AreItemsUnique T tree.NoItem
  no-item-unique v w t u y z a b c d p q h k o own =
      let left = are_items v t tree.NoItem y a b h in
      let right = are_items w u tree.NoItem z c d k in
      (left.0 ∙ sym right.0, left.1 ∙ o ∙ sym right.1, subst HasOwn (sym left.1) own)

  slot_one : (v : Bool) (t : TypeId) (n o p : ℕ) (x y : TypeId) → IsSlot v T t n o x → IsSlot v T t n p y → (o ≡ p) × (x ≡ y)
  slot_one true t n o p x y h k = (h.0 ∙ sym k.0, h.1 ∙ sym k.1)
  slot_one false t n o p x y h k =
      let same = some-same (record { offset = o; type = x }) (record { offset = p; type = y }) (sym h ∙ k) in
      (ap (λ (s : Slot). s.offset) same, ap (λ (s : Slot). s.type) same)

  pub item-unique : (xs : tree.Items) (x : tree.Initialiser) → AreItemsUnique T xs → IsInitialiserUnique T x → AreItemsUnique T (tree.AndItem xs x)
  item-unique xs x u f v w t s y z a b c d p q h k o own =
      let left = are_items v t (tree.AndItem xs x) y a b h in
      let right = are_items w s (tree.AndItem xs x) z c d k in
      let first = u v w t s left.0 right.0 a left.4.0 c right.4.0 p q left.4.1 right.4.1 o own in
      let before = first.0 in
      let slot = slot_one v t (items_count left.0) left.1 right.1 left.2 right.2 left.5
      (subst (λ (b : Bool). IsSlot b T t (items_count left.0) right.1 right.2) (sym p)
      (subst (λ (n : TypeId). IsSlot w T n (items_count left.0) right.1 right.2) (sym q)
      (subst (λ (l : TypedItems). IsSlot w T s (items_count l) right.1 right.2) (sym before) right.5))) in
      let offset = slot.0 in
      let type = slot.1 in
      let place = ap initialiser_place (left.4.2.0 ∙ sym right.4.2.0) in
      let second = f (item_place left.3) (item_place right.3) left.2 right.2 left.3 right.3 left.4.0 b right.4.0 d place type left.4.2 right.4.2 first.1 first.2 in
      let one = second.0 in
      let whole : typed.AndItem left.0 left.1 left.2 left.3 ≡ typed.AndItem right.0 right.1 right.2 right.3 = (λ i. typed.AndItem (before i) (offset i) (type i) (one i)) in
      (left.6 ∙ whole ∙ sym right.6, second.1, second.2)

  pub member-designator-unique : (xs : tree.Items) (at : Place) → AreItemsUnique T (tree.AndMemberDesignator xs at)
  member-designator-unique xs at v w t u y z a b c d p q h k o own = absurd (are_items v t (tree.AndMemberDesignator xs at) y a b h)

  pub index-designator-unique : (xs : tree.Items) (at : Place) → AreItemsUnique T (tree.AndIndexDesignator xs at)
  index-designator-unique xs at v w t u y z a b c d p q h k o own = absurd (are_items v t (tree.AndIndexDesignator xs at) y a b h)

  -- A string literal in braces is the text of an array of char, and no value of its first character

  pointer_no_integer : (x y : TypeShape) → is_pointer_shape x ≡ true → is_integer_shape y ≡ true → implicit_between T false x y ≡ None
  pointer_no_integer (Pointer n t) (Integer b s) h k = refl
  pointer_no_integer (Pointer n t) Void h k = no_true k
  pointer_no_integer (Pointer n t) (Pointer m u) h k = no_true k
  pointer_no_integer (Pointer n t) (Array u m) h k = no_true k
  pointer_no_integer (Pointer n t) (Function ps r) h k = no_true k
  pointer_no_integer (Pointer n t) (Struct m) h k = no_true k
  pointer_no_integer (Pointer n t) (Union m) h k = no_true k
  pointer_no_integer Void y h k = no_true h
  pointer_no_integer (Integer b s) y h k = no_true h
  pointer_no_integer (Array u m) y h k = no_true h
  pointer_no_integer (Function ps r) y h k = no_true h
  pointer_no_integer (Struct m) y h k = no_true h
  pointer_no_integer (Union m) y h k = no_true h

  none_converted : {P : Type 0} (e : TypedExpr) → None ≡ Some e → P
  none_converted e h = absurd (let g : ◌≡◌ {A = Option TypedExpr} None (Some e) = h in cc)

  literal_no_integer : {P : Type 0} (pieces : List StringPiece) (e : TypedExpr) (a b : Point) (s : Scopes) (at : Place) (u : TypeId) → IsRead T (tree.String pieces) e a b
      → is_integer_shape (shape_at T u) ≡ true → IsAssigned T s at u e → P
  literal_no_integer {P} pieces e a b s at u h k g =
      let one = string-decays T D pieces e a b h in
      let over : takes_over T s u e ≡ false = ap (λ (f : TypedExpr). is_allocation f && is_pointer_to_complete T s u) one.3 in
      let converted = subst (λ (c : Bool). IsAssignedBy c T at u e) over g in
      let none : implicit T (bare e) u ≡ None = ap (λ (f : TypedExpr). implicit T f u) one.3 ∙ pointer_no_integer (shape_at T one.2) (shape_at T u) one.4 k in
      none_converted e (sym (ap (λ (o : Option Conversion). converting_by o at u (bare e)) none) ∙ converted.made)

  char_element : (w : TypeShape) (n : ℕ) → has_count (char_count_of_element w n) ≡ true → is_integer_shape w ≡ true
  char_element (Integer b s) n h = refl
  char_element Void n h = h
  char_element (Pointer m t) n h = h
  char_element (Array u m) n h = h
  char_element (Function ps r) n h = h
  char_element (Struct m) n h = h
  char_element (Union m) n h = h

  none_slot : {P : Type 0} (s : Slot) → None ≡ Some s → P
  none_slot s h = absurd (let g : ◌≡◌ {A = Option Slot} None (Some s) = h in cc)

  first_char : (t : TypeId) (z : TypeShape) (s : Slot) → has_count (char_count_of_shape T z) ≡ true → slot_of_shape T t z 0 ≡ Some s → is_integer_shape (shape_at T s.type) ≡ true
  first_char t (Array e n) s h k = by (nat_lt 0 n) k
    where
      by : (c : Bool) → (if c then Some (record { offset = 0 * size_of T e; type = e }) else None) ≡ Some s → is_integer_shape (shape_at T s.type) ≡ true
      by true g = subst (λ (x : Slot). is_integer_shape (shape_at T x.type) ≡ true) (some-same (record { offset = 0 * size_of T e; type = e }) s g) (char_element (shape_at T e) n h)
      by false g = none_slot s g
  first_char t Void s h k = no_true h
  first_char t (Integer b r) s h k = no_true h
  first_char t (Pointer m u) s h k = no_true h
  first_char t (Function ps r) s h k = no_true h
  first_char t (Struct m) s h k = no_true h
  first_char t (Union m) s h k = no_true h

  integer_no_scalar : (z : TypeShape) → is_integer_shape z ≡ true → is_aggregate_shape z ≡ false
  integer_no_scalar (Integer b s) h = refl
  integer_no_scalar (Struct n) h = sym h
  integer_no_scalar (Union n) h = sym h
  integer_no_scalar Void h = refl
  integer_no_scalar (Pointer n t) h = refl
  integer_no_scalar (Array t n) h = refl
  integer_no_scalar (Function ps r) h = refl

  -- one item of the other list is not a text, though it stands for the same literal
  no_text : {P : Type 0} (t : TypeId) (pieces : List StringPiece) (all : TypedItems) (offset : ℕ) (u : TypeId) (i : TypedInitialiser) (a b : Point) → is_char_array T t ≡ true
      → erased_items all ≡ tree.NoItem → erased_initialiser i ≡ tree.Value (tree.String pieces) → AreItems T (typed.AndItem all offset u i) false t a.scopes b.scopes
      → Numbers (made_by_items (typed.AndItem all offset u i)) a.node b.node → is_only_text (typed.AndItem all offset u i) ≡ false → P
  no_text t pieces typed.NoItem offset u (typed.Value e) a b c q h g k n =
      let middle : Point = record { scopes = g.0; node = a.node } in
      literal_no_integer pieces e middle b b.scopes (item_place (typed.Value e)) u (string_same (erased e) (tree.String pieces) h, g.2.0, k)
      (first_char t (shape_at T t) (record { offset = offset; type = u }) c g.3) g.2.2
    where
      string_same : (x y : tree.Expr) → tree.Value x ≡ tree.Value y → x ≡ y
      string_same x y r = cc
  no_text t pieces typed.NoItem offset u (typed.Copied p at) a b c q h g k n =
      two-sorts is_integer_shape is_aggregate_shape integer_no_scalar (shape_at T u) (shape_at T u) refl (first_char t (shape_at T t) (record { offset = offset; type = u }) c g.3)
      (same_struct T u (place_type p) g.2.3 g.2.2)
  no_text t pieces typed.NoItem offset u (typed.Text words bytes) a b c q h g k n = no_true (sym n)
  no_text {P} t pieces typed.NoItem offset u (typed.Listed brace items comma v) a b c q h g k n = absurd (let w : tree.Listed brace (erased_items items) comma ≡ tree.Value (tree.String pieces) = h in cc)
  no_text {P} t pieces (typed.AndItem all o v j) offset u i a b c q h g k n = absurd (let w : tree.AndItem (erased_items all) (erased_initialiser j) ≡ tree.NoItem = q in cc)

  abbrev pub flag : TypeId → TypedItems → Bool
  flag t x = is_only_text x && is_char_array T t

  item_parts : (xs ys : tree.Items) (x y : tree.Initialiser) → tree.AndItem xs x ≡ tree.AndItem ys y → (xs ≡ ys) × (x ≡ y)
  item_parts xs ys x y h = (cc, cc)

  text_other : {P : Type 0} (t : TypeId) (x y : TypedItems) (a b : Point) → is_char_array T t ≡ true → is_only_text x ≡ true → is_only_text y ≡ false → erased_items x ≡ erased_items y
      → AreItems T y (flag t y) t a.scopes b.scopes → Numbers (made_by_items y) a.node b.node → P
  text_other {P} t (typed.AndItem typed.NoItem o u (typed.Text pieces bytes)) typed.NoItem a b c q n h g k =
      absurd (let w : tree.AndItem tree.NoItem (tree.Value (tree.String pieces)) ≡ tree.NoItem = h in cc)
  text_other t (typed.AndItem typed.NoItem o u (typed.Text pieces bytes)) (typed.AndItem all offset v i) a b c q n h g k =
      let parts = item_parts tree.NoItem (erased_items all) (tree.Value (tree.String pieces)) (erased_initialiser i) h in
      no_text t pieces all offset v i a b c (sym parts.0) (sym parts.1)
      (subst (λ (l : Bool). AreItems T (typed.AndItem all offset v i) (l && is_char_array T t) t a.scopes b.scopes) n g) k n
  text_other t x y a b c q n h g k = no_true q

  flags_same : (t : TypeId) (x y : TypedItems) (a b c d : Point) → erased_items x ≡ erased_items y → AreItems T x (flag t x) t a.scopes b.scopes → Numbers (made_by_items x) a.node b.node
      → AreItems T y (flag t y) t c.scopes d.scopes → Numbers (made_by_items y) c.node d.node → flag t x ≡ flag t y
  flags_same t x y a b c d h g k j l = by (is_char_array T t) refl
    where
      no_flag : (v : Bool) → (v && false) ≡ false
      no_flag true = refl
      no_flag false = refl

      texts : is_char_array T t ≡ true → (v w : Bool) → is_only_text x ≡ v → is_only_text y ≡ w → is_only_text x ≡ is_only_text y
      texts e true true p q = p ∙ sym q
      texts e false false p q = p ∙ sym q
      texts e true false p q = text_other t x y c d e p q h j l
      texts e false true p q = text_other t y x a b e q p (sym h) g k

      by : (v : Bool) → is_char_array T t ≡ v → flag t x ≡ flag t y
      by true e = ap (λ (v : Bool). v && is_char_array T t) (texts e (is_only_text x) (is_only_text y) refl refl)
      by false e = ap (λ (v : Bool). is_only_text x && v) e ∙ no_flag (is_only_text x) ∙ sym (no_flag (is_only_text y)) ∙ ap (λ (v : Bool). is_only_text y && v) (sym e)

  -- which lists for arrays of char are texts, for two that stand for one
  pub only-text-same : (t u : TypeId) (x y : TypedItems) (a b c d : Point) → erased_items x ≡ erased_items y → AreItems T x (flag t x) t a.scopes b.scopes → Numbers (made_by_items x) a.node b.node
      → AreItems T y (flag u y) u c.scopes d.scopes → Numbers (made_by_items y) c.node d.node → is_char_array T t ≡ true → is_char_array T u ≡ true → is_only_text x ≡ is_only_text y
  only-text-same t u x y a b c d h g k j l e f = by (is_only_text x) (is_only_text y) refl refl
    where
      by : (v w : Bool) → is_only_text x ≡ v → is_only_text y ≡ w → is_only_text x ≡ is_only_text y
      by true true p q = p ∙ sym q
      by false false p q = p ∙ sym q
      by true false p q = text_other u x y c d f p q h j l
      by false true p q = text_other t y x a b e q p (sym h) g k

  -- Both

  pub value-unique : (x : tree.Expr) → IsInitialiserUnique T (tree.Value x)
  value-unique x at to t u y z a b c d p q h k o own =
      initialising_one x at to t u y z a b c d p q (is-initialiser at t (tree.Value x) y a b h) (is-initialiser to u (tree.Value x) z c d k) o own

  pub listed-unique : (brace : Place) (xs : tree.Items) (comma : Bool) → AreItemsUnique T xs → IsInitialiserUnique T (tree.Listed brace xs comma)
  listed-unique brace xs comma f at to t u y z a b c d p q h k o own =
      let left = is-initialiser at t (tree.Listed brace xs comma) y a b h in
      let right = is-initialiser to u (tree.Listed brace xs comma) z c d k in
      let other : AreItems T right.0 (flag t right.0) t c.scopes d.scopes = subst (λ (v : TypeId). AreItems T right.0 (flag v right.0) v c.scopes d.scopes) (sym q) right.1.1 in
      let flags = flags_same t left.0 right.0 a b c d (left.1.0 ∙ sym right.1.0) left.1.1 left.1.2 other right.1.2 in
      let one = f (flag t left.0) (flag u right.0) t u left.0 right.0 a b c d (flags ∙ ap (λ (v : TypeId). flag v right.0) q) q left.1 right.1 o own in
      let items = one.0 in
      let whole : typed.Listed brace left.0 comma t ≡ typed.Listed brace right.0 comma u = (λ i. typed.Listed brace (items i) comma (q i)) in
      (left.2 ∙ whole ∙ sym right.2, one.1, one.2)

  mutual
    pub initialiser-one : (x : tree.Initialiser) → IsInitialiserUnique T x
    initialiser-one (tree.Value x) = value-unique x
    initialiser-one (tree.Listed brace xs comma) = listed-unique brace xs comma (items-one xs)

    items-one : (x : tree.Items) → AreItemsUnique T x
    items-one tree.NoItem = no-item-unique
    items-one (tree.AndItem xs x) = item-unique xs x (items-one xs) (initialiser-one x)
    items-one (tree.AndMemberDesignator xs at) = member-designator-unique xs at
    items-one (tree.AndIndexDesignator xs at) = index-designator-unique xs at

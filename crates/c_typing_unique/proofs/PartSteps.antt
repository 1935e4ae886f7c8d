-- The parts and the parameters of declarators, and type names: each has one typed tree where its parts have one.
use Rattle.std.proofs.Common.{◌≡◌, ℕ, ◌+◌, pos, Bool, List, ◌++◌, Option, Some, None, refl, ap, sym, subst, ◌∙◌}
use Rattle.cc_base.specs.declared.place.Place.{Place}
use Rattle.cc_base.specs.declared.number.TypeId.{TypeId}
use Rattle.c_types.specs.Table.{Table, shape_at}
use Rattle.c_tree.specs.declared.leaf.Word.{Word}
use Rattle.c_tree.specs.declared.typed_word.Adjusted.{Adjusted}
use Rattle.c_tree.specs.Erasure.{erased, erased_parts, erased_parameters, erased_declared, erased_specifiers}
use Rattle.c_tree.specs.Tree as tree
use Rattle.c_tree.specs.TypedTree as typed
use Rattle.c_tree.specs.TypedTree.{TypedExpr, TypedParts, TypedParameters, TypedDeclared, TypedSpecifiers}
use Rattle.c_tree.specs.TypedParts.{made_by, made_by_parts, made_by_parameters, made_by_declared, made_by_adjusted, made_by_specifiers, specified_type, declared_home, is_void_list}
use Rattle.c_typing.specs.Adjusting.{IsAdjusted, adjusted_place, adjusted_at, derived_by_declared, typedef_place}
use Rattle.c_typing.specs.Constants.{constant_value}
use Rattle.c_typing.specs.Conversions.{bare, IsPlain}
use Rattle.c_typing.specs.Declarators.{Written, ParameterMakes}
use Rattle.c_typing.specs.Declaring.{declared_name}
use Rattle.c_typing.specs.Scopes.{entering, leaving}
use Rattle.c_typing.specs.Typing.{IsTyped, AreSpecifiers, AreParts, AreParameters, DeclaresParameter, IsTakenType}
use Rattle.c_typing_unique.proofs.DeclaratorSteps.{DeclaresName, IsDeclaredRead, IsDeclaredUnique, ArePartsUnique, AreParametersUnique, AreSpecifiersUnique, name_declared, declared-numbers, name-homes, declares-one, declares-by, declared-named, declared-homeless, homeless, homes-none}
use Rattle.c_typing_unique.proofs.ExprSteps.{IsNameUnique}
use Rattle.c_typing_unique.proofs.FormLaws.{declared-makes-one, parameter-makes-one}
use Rattle.c_typing_unique.proofs.Numbering.{Numbers, Point, HasOwn, node-same, two-parts, scopes-of, node-of}
use Rattle.c_typing_unique.proofs.OperatorLaws.{bare-plain, plain-same}
use Rattle.c_typing_unique.proofs.Reading.{IsReadAs, IsRead, IsUnique, plain-one, plain-over, point-same}
use Rattle.c_typing_unique.proofs.Readings.{Both, both}
use Rattle.c_typing_unique.proofs.Shapes.{IsDistinct, some-same}

abbrev pub entered : Point → Point
entered a = record { scopes = entering a.scopes; node = a.node }

abbrev pub left_behind : Point → Point
left_behind a = record { scopes = leaving a.scopes; node = a.node }

value_same : (m n : ℕ) → Some (pos m) ≡ Some (pos n) → m ≡ n
value_same m n h = cc

module _ (T : Table) (D : IsDistinct T) where
  -- Parts

  abbrev pub ArePartsRead : tree.Parts → TypedParts → Point → Point → Type 0
  ArePartsRead = IsReadAs erased_parts made_by_parts (AreParts T)

  abbrev pub AreParametersRead : Bool → tree.Parameters → TypedParameters → Point → Point → Type 0
  AreParametersRead void = IsReadAs erased_parameters made_by_parameters (AreParameters T void)

  abbrev pub ArePartsOf : tree.Parts → TypedParts → Point → Point → Type 0
  ArePartsOf tree.NoPart y a b = (y ≡ typed.NoPart) × (b ≡ a)
  ArePartsOf (tree.AndArray all at words) y a b = (x : TypedParts) × ArePartsRead all x a b × (y ≡ typed.AndArray x at words)
  ArePartsOf (tree.AndSizedArray all at words e) y a b =
      (x : TypedParts) × (v : TypedExpr) × (size : ℕ) × Both (ArePartsRead all x) (IsRead T e v) a b × IsPlain v × (constant_value T v ≡ Some (pos size))
      × (y ≡ typed.AndSizedArray x at words v size)
  ArePartsOf (tree.AndFunction all at parameters) y a b =
      (x : TypedParts) × (list : TypedParameters) × (m n : Point) × ArePartsRead all x a m × AreParametersRead (is_void_list list) parameters list (entered m) n
      × (b ≡ left_behind n) × (y ≡ typed.AndFunction x at list)

  parts_of : (y : TypedParts) (a b : Point) → AreParts T y a.scopes b.scopes → Numbers (made_by_parts y) a.node b.node → ArePartsOf (erased_parts y) y a b
  parts_of typed.NoPart a b h k = (refl, point-same b a h k)
  parts_of (typed.AndArray all at words) a b h k = (all, (refl, h, k), refl)
  parts_of (typed.AndSizedArray all at words e size) a b h k =
      (all, e, size, both erased_parts made_by_parts (AreParts T) erased made_by (IsTyped T) all e h.0 a b h.1 h.2 k, h.3, h.4, refl)
  parts_of (typed.AndFunction all at parameters) a b h k =
      let cut = two-parts (made_by_parts all) (made_by_parameters parameters) a.node b.node k in
      let n : Point = record { scopes = h.1; node = b.node } in
      (all, parameters, record { scopes = h.0; node = cut.0 }, n, (refl, h.2, cut.1), (refl, h.3, cut.2), point-same b (left_behind n) h.4 refl, refl)

  pub are_parts : (x : tree.Parts) (y : TypedParts) (a b : Point) → ArePartsRead x y a b → ArePartsOf x y a b
  are_parts x y a b h = subst (λ (w : tree.Parts). ArePartsOf w y a b) h.0 (parts_of y a b h.1 h.2)

  pub no-part-unique : ArePartsUnique T tree.NoPart
  no-part-unique x y a b c e h k o own =
      let left = are_parts tree.NoPart x a b h in
      let right = are_parts tree.NoPart y c e k in
      (left.0 ∙ sym right.0, left.1 ∙ o ∙ sym right.1, subst HasOwn (sym left.1) own)

  pub array-unique : (all : tree.Parts) (at : Place) (words : List Word) → ArePartsUnique T all → ArePartsUnique T (tree.AndArray all at words)
  array-unique all at words u x y a b c e h k o own =
      let left = are_parts (tree.AndArray all at words) x a b h in
      let right = are_parts (tree.AndArray all at words) y c e k in
      let one = u left.0 right.0 a b c e left.1 right.1 o own in
      (left.2 ∙ ap (λ (p : TypedParts). typed.AndArray p at words) one.0 ∙ sym right.2, one.1, one.2)

  pub sized-array-unique : (all : tree.Parts) (at : Place) (words : List Word) (e : tree.Expr) → ArePartsUnique T all → IsUnique T e → ArePartsUnique T (tree.AndSizedArray all at words e)
  sized-array-unique all at words d u v x y a b c e h k o own =
      let left = are_parts (tree.AndSizedArray all at words d) x a b h in
      let right = are_parts (tree.AndSizedArray all at words d) y c e k in
      let one = u left.0 right.0 a left.3.0 c right.3.0 left.3.1 right.3.1 o own in
      let two = plain-one T D d v left.1 right.1 left.3.0 b right.3.0 e left.3.2 right.3.2 one.1 one.2
      (plain-over (bare left.1) (bare-plain left.1 left.4)) (plain-over (bare right.1) (bare-plain right.1 right.4)) in
      let before = one.0 in
      let value = plain-same left.1 right.1 left.4 right.4 two.0 in
      let size = value_same left.2 right.2 (sym left.5 ∙ ap (constant_value T) value ∙ right.5) in
      let whole : typed.AndSizedArray left.0 at words left.1 left.2 ≡ typed.AndSizedArray right.0 at words right.1 right.2 = (λ i. typed.AndSizedArray (before i) at words (value i) (size i)) in
      (left.6 ∙ whole ∙ sym right.6, two.1, two.2)

  pub function-unique : (all : tree.Parts) (at : Place) (parameters : tree.Parameters) → ArePartsUnique T all → AreParametersUnique T parameters
      → ArePartsUnique T (tree.AndFunction all at parameters)
  function-unique all at parameters u v x y a b c e h k o own =
      let left = are_parts (tree.AndFunction all at parameters) x a b h in
      let right = are_parts (tree.AndFunction all at parameters) y c e k in
      let one = u left.0 right.0 a left.2 c right.2 left.4 right.4 o own in
      let two = v (is_void_list left.1) (is_void_list right.1) left.1 right.1 (entered left.2) left.3 (entered right.2) right.3 left.5 right.5 (ap entered one.1) one.2 in
      let before = one.0 in
      let list = two.0 in
      let whole : typed.AndFunction left.0 at left.1 ≡ typed.AndFunction right.0 at right.1 = (λ i. typed.AndFunction (before i) at (list i)) in
      (left.7 ∙ whole ∙ sym right.7, left.6 ∙ ap left_behind two.1 ∙ sym right.6, subst HasOwn (sym left.6) two.2)

  -- Parameters

  -- a parameter: its specifiers, its declarator, and the pointer that it is made
  pub record IsParameterOf (void : Bool) (specifiers : tree.Specifiers) (one : tree.Declared) (x : TypedSpecifiers) (d : TypedDeclared) (f : Option Adjusted) (t : TypeId) (a b : Point) : Type 0 where
    pub middle : Point
    pub inside : Point
    pub first : IsReadAs erased_specifiers made_by_specifiers (AreSpecifiers T) specifiers x a middle
    pub second : IsDeclaredRead T one d middle inside
    pub pointer : Numbers (made_by_adjusted f) inside.node b.node
    pub adjusted : IsAdjusted T x d f
    pub makes : ParameterMakes T inside.scopes f d (specified_type x) t
    pub taken : IsTakenType void T inside.scopes t
    pub declares : DeclaresParameter d t inside.scopes b.scopes

  abbrev pub AreParametersOf : Bool → tree.Parameters → TypedParameters → Point → Point → Type 0
  AreParametersOf void tree.NoParameter y a b = (y ≡ typed.NoParameter) × (b ≡ a)
  AreParametersOf void (tree.AndParameter all specifiers one) y a b =
      (list : TypedParameters) × (x : TypedSpecifiers) × (d : TypedDeclared) × (f : Option Adjusted) × (t : TypeId) × (m : Point) × AreParametersRead void all list a m
      × IsParameterOf void specifiers one x d f t m b × (y ≡ typed.AndParameter list x d f t)

  parameters_of : (void : Bool) (y : TypedParameters) (a b : Point) → AreParameters T void y a.scopes b.scopes → Numbers (made_by_parameters y) a.node b.node
      → AreParametersOf void (erased_parameters y) y a b
  parameters_of void typed.NoParameter a b h k = (refl, point-same b a h k)
  parameters_of void (typed.AndParameter all x d f t) a b h k =
      let last = two-parts (made_by_parameters all ++ made_by_specifiers x ++ made_by_declared d t) (made_by_adjusted f) a.node b.node k in
      let cut = two-parts (made_by_parameters all ++ made_by_specifiers x) (made_by_declared d t) a.node last.0 last.1 in
      let first = two-parts (made_by_parameters all) (made_by_specifiers x) a.node cut.0 cut.1 in
      let m : Point = record { scopes = h.0; node = first.0 } in
      let n : Point = record { scopes = h.1; node = cut.0 } in
      let o : Point = record { scopes = h.2; node = last.0 } in (
        all,
        x,
        d,
        f,
        t,
        m,
        (refl, h.3, first.1),
        record {
          middle = n;
          inside = o;
          first = (refl, h.4, first.2);
          second = (refl, h.5, declared-numbers d t n.node o.node cut.2);
          pointer = last.2;
          adjusted = h.6;
          makes = h.7;
          taken = h.8;
          declares = h.9;
        },
        refl,
      )

  pub are_parameters : (void : Bool) (x : tree.Parameters) (y : TypedParameters) (a b : Point) → AreParametersRead void x y a b → AreParametersOf void x y a b
  are_parameters void x y a b h = subst (λ (w : tree.Parameters). AreParametersOf void w y a b) h.0 (parameters_of void y a b h.1 h.2)

  pub no-parameter-unique : AreParametersUnique T tree.NoParameter
  no-parameter-unique v w x y a b c e h k o own =
      let left = are_parameters v tree.NoParameter x a b h in
      let right = are_parameters w tree.NoParameter y c e k in
      (left.0 ∙ sym right.0, left.1 ∙ o ∙ sym right.1, subst HasOwn (sym left.1) own)

  adjusted_one : (f g : Option Adjusted) (a b c d : ℕ) → adjusted_place f ≡ adjusted_place g → a ≡ c → Numbers (made_by_adjusted f) a b → Numbers (made_by_adjusted g) c d → (f ≡ g) × (b ≡ d)
  adjusted_one None None a b c d q e h k = (refl, h ∙ e ∙ sym k)
  adjusted_one None (Some g) a b c d q e h k = (cc, cc)
  adjusted_one (Some f) None a b c d q e h k = (cc, cc)
  adjusted_one (Some f) (Some g) a b c d q e h k =
      let place = some-same f.place g.place q in
      let node = node-same f.node g.node a c e h.0 k.0 in
      ((λ i. Some (record { node = node i; place = place i })), h.1 ∙ ap (λ (n : ℕ). n + 1) e ∙ sym k.1)

  pub parameter-unique : (all : tree.Parameters) (specifiers : tree.Specifiers) (one : tree.Declared) → AreParametersUnique T all → AreSpecifiersUnique T specifiers
      → IsDeclaredUnique T one → AreParametersUnique T (tree.AndParameter all specifiers one)
  parameter-unique all specifiers one u v w void other x y a b c e h k o own =
      let left = are_parameters void (tree.AndParameter all specifiers one) x a b h in
      let right = are_parameters other (tree.AndParameter all specifiers one) y c e k in
      let p = left.7 in
      let q = right.7 in
      let first = u void other left.0 right.0 a left.5 c right.5 left.6 right.6 o own in
      let second = v left.1 right.1 left.5 p.middle right.5 q.middle p.first q.first first.1 first.2 in
      let names = sym (declared-named left.2) ∙ ap declared_name (p.second.0 ∙ sym q.second.0) ∙ declared-named right.2 in
      let homes = name-homes (name_declared right.2) (declared_home left.2) (declared_home right.2) left.4 right.4 p.inside.scopes b.scopes q.inside.scopes e.scopes
      (λ none. declared-homeless left.2 (names ∙ none)) (declared-homeless right.2)
      (subst (λ n. DeclaresName n (declared_home left.2) left.4 p.inside.scopes b.scopes) names (declares-by left.2 left.4 p.inside.scopes b.scopes p.declares))
      (declares-by right.2 right.4 q.inside.scopes e.scopes q.declares) in
      let third = w left.2 right.2 p.middle p.inside q.middle q.inside p.second q.second second.1 second.2 homes in
      let list = first.0 in
      let words = second.0 in
      let declarator = third.0 in
      let places = p.adjusted
      ∙ (λ i. adjusted_at (derived_by_declared (erased_declared (declarator i))) (shape_at T (specified_type (words i))) (typedef_place (erased_specifiers (words i))))
      ∙ sym q.adjusted in
      let pointer = adjusted_one left.3 right.3 p.inside.node b.node q.inside.node e.node places (node-of p.inside q.inside third.1) p.pointer q.pointer in
      let adjusted = pointer.0 in
      let scopes = scopes-of p.inside q.inside third.1 in
      let type = parameter-makes-one T D p.inside.scopes q.inside.scopes left.3 right.3 left.2 right.2 (specified_type left.1) (specified_type right.1) left.4 right.4 scopes adjusted declarator
      (ap specified_type words) p.makes q.makes in
      let ends = declares-one left.2 right.2 left.4 right.4 p.inside.scopes q.inside.scopes b.scopes e.scopes declarator type scopes third.2 p.declares q.declares in
      let whole : typed.AndParameter left.0 left.1 left.2 left.3 left.4 ≡ typed.AndParameter right.0 right.1 right.2 right.3 right.4 =
      (λ i. typed.AndParameter (list i) (words i) (declarator i) (adjusted i) (type i)) in
      (left.8 ∙ whole ∙ sym right.8, point-same b e ends.0 pointer.1, ends.1)

  -- Type names

  pub type-name-unique : (specifiers : tree.Specifiers) (one : tree.Declared) → AreSpecifiersUnique T specifiers → IsDeclaredUnique T one → IsNameUnique T (tree.Named specifiers one)
  type-name-unique specifiers one u v (typed.Named x d t) (typed.Named y f w) a b c e h k o own =
      let left = named_parts (erased_specifiers x) specifiers (erased_declared d) one h.0 in
      let right = named_parts (erased_specifiers y) specifiers (erased_declared f) one k.0 in
      let cut = two-parts (made_by_specifiers x) (made_by_declared d t) a.node b.node h.2 in
      let cut' = two-parts (made_by_specifiers y) (made_by_declared f w) c.node e.node k.2 in
      let m : Point = record { scopes = h.1.0; node = cut.0 } in
      let m' : Point = record { scopes = k.1.0; node = cut'.0 } in
      let first = u x y a m c m' (left.0, h.1.1, cut.1) (right.0, k.1.1, cut'.1) o own in
      let second = v d f m b m' e (left.1, h.1.2, declared-numbers d t m.node b.node cut.2) (right.1, k.1.2, declared-numbers f w m'.node e.node cut'.2) first.1 first.2
      (homes-none (declared_home d) (declared_home f) (homeless d h.1.3) (homeless f k.1.3)) in
      let words = first.0 in
      let declarator = second.0 in
      let type = declared-makes-one T D b.scopes e.scopes d f Written (specified_type x) (specified_type y) t w (scopes-of b e second.1) declarator (ap specified_type words) h.1.4 k.1.4 in
      ((λ i. typed.Named (words i) (declarator i) (type i)), second.1, second.2)
    where
      named_parts : (s r : tree.Specifiers) (p q : tree.Declared) → tree.Named s p ≡ tree.Named r q → (s ≡ r) × (p ≡ q)
      named_parts s r p q g = (cc, cc)

-- The members of structs and unions, and enumerators: each list has one typed tree where its parts have one.
use Rattle.std.proofs.Common.{◌≡◌, ℤ, ◌++◌, refl, ap, sym, subst, ◌∙◌}
use Rattle.cc_base.specs.declared.place.Place.{Place}
use Rattle.cc_base.specs.declared.number.TypeId.{TypeId}
use Rattle.c_types.specs.Table.{Table}
use Rattle.integers.specs.Arithmetic.{int, converted}
use Rattle.c_tree.specs.declared.leaf.Identifier.{Identifier}
use Rattle.c_tree.specs.Erasure.{erased_specifiers, erased_members, erased_member_declarators, erased_enumerators}
use Rattle.c_tree.specs.Tree as tree
use Rattle.c_tree.specs.TypedTree as typed
use Rattle.c_tree.specs.TypedTree.{TypedExpr, TypedArguments, TypedForm, TypedSpecifiers, TypedSpecifierList, TypedSpecifier, TypedMembers, TypedMemberDeclarators, TypedEnumerators}
use Rattle.c_tree.specs.TypedParts.{made_by, made_by_form, made_by_specifiers, made_by_members, made_by_member_declarators, made_by_enumerators, specified_type, home_of_form}
use Rattle.c_typing.specs.declared.declared.Declared.TheVariants as declared
use Rattle.c_typing.specs.Constants.{constant_value}
use Rattle.c_typing.specs.Conversions.{bare}
use Rattle.c_typing.specs.Declarators.{FormMakes, Written}
use Rattle.c_typing.specs.Scopes.{Scopes, declaring}
use Rattle.c_typing.specs.Typing.{AreSpecifiers, AreMembers, AreMemberDeclarators, AreEnumerators, IsHomeless, IsNewEnumerator, IsConstant, next_value, last_value}
use Rattle.c_typing_unique.specs.Sameness.{HasOwnFunctions}
use Rattle.c_typing_unique.proofs.DeclaratorSteps.{IsFormRead, IsFormUnique, AreSpecifiersUnique, form-numbers, homes-none}
use Rattle.c_typing_unique.proofs.FormLaws.{form-makes-one}
use Rattle.c_typing_unique.proofs.Numbering.{Numbers, Point, HasOwn, two-parts, scopes-of, node-of}
use Rattle.c_typing_unique.proofs.OperatorLaws.{bare-plain, plain-same}
use Rattle.c_typing_unique.proofs.Reading.{IsReadAs, IsRead, IsUnique, plain-one, plain-over, point-same}
use Rattle.c_typing_unique.proofs.Readings.{Both}
use Rattle.c_typing_unique.proofs.Shapes.{IsDistinct, some-same}
use Rattle.c_typing_unique.proofs.SpecifierSteps.{AreMembersUnique, AreEnumeratorsUnique, IsRowUnique, AreMembersRead, AreEnumeratorsRead}

module _ (T : Table) (D : IsDistinct T) where
  -- Members

  abbrev pub IsRowRead : TypeId → tree.MemberDeclarators → TypedMemberDeclarators → Point → Point → Type 0
  IsRowRead base = IsReadAs erased_member_declarators made_by_member_declarators (AreMemberDeclarators T base)

  abbrev pub IsRowOf : TypeId → tree.MemberDeclarators → TypedMemberDeclarators → Point → Point → Type 0
  IsRowOf base tree.NoDeclarator y a b = (y ≡ typed.NoDeclarator) × (b ≡ a)
  IsRowOf base (tree.AndDeclarator all d) y a b =
      (row : TypedMemberDeclarators) × (form : TypedForm) × (t : TypeId) × Both (IsRowRead base all row) (IsFormRead T d form) a b × IsHomeless form
      × FormMakes T b.scopes form Written base t × (y ≡ typed.AndDeclarator row (typed.Declares form t))
  IsRowOf base (tree.AndBitField all d) y a b = ⊥
  IsRowOf base (tree.AndUnnamedBitField all) y a b = ⊥

  row_of : (base : TypeId) (y : TypedMemberDeclarators) (a b : Point) → AreMemberDeclarators T base y a.scopes b.scopes → Numbers (made_by_member_declarators y) a.node b.node
      → IsRowOf base (erased_member_declarators y) y a b
  row_of base typed.NoDeclarator a b h k = (refl, point-same b a h k)
  row_of base (typed.AndDeclarator all (typed.Declares form t)) a b h k =
      let cut = two-parts (made_by_member_declarators all) (made_by_form form t) a.node b.node k in
      (all, form, t, (record { scopes = h.0; node = cut.0 }, (refl, h.1, cut.1), (refl, h.2, form-numbers form t cut.0 b.node cut.2)), h.3, h.4, refl)

  pub is_row : (base : TypeId) (x : tree.MemberDeclarators) (y : TypedMemberDeclarators) (a b : Point) → IsRowRead base x y a b → IsRowOf base x y a b
  is_row base x y a b h = subst (λ (w : tree.MemberDeclarators). IsRowOf base w y a b) h.0 (row_of base y a b h.1 h.2)

  pub no-declarator-unique : IsRowUnique T tree.NoDeclarator
  no-declarator-unique v w x y a b c e q h k o own =
      let left = is_row v tree.NoDeclarator x a b h in
      let right = is_row w tree.NoDeclarator y c e k in
      (left.0 ∙ sym right.0, left.1 ∙ o ∙ sym right.1, subst HasOwn (sym left.1) own)

  pub row-unique : (all : tree.MemberDeclarators) (d : tree.Declarator) → IsRowUnique T all → IsFormUnique T d → IsRowUnique T (tree.AndDeclarator all d)
  row-unique all d u f v w x y a b c e q h k o own =
      let left = is_row v (tree.AndDeclarator all d) x a b h in
      let right = is_row w (tree.AndDeclarator all d) y c e k in
      let first = u v w left.0 right.0 a left.3.0 c right.3.0 q left.3.1 right.3.1 o own in
      let second = f left.1 right.1 left.3.0 b right.3.0 e left.3.2 right.3.2 first.1 first.2 (homes-none (home_of_form left.1) (home_of_form right.1) left.4 right.4) in
      let before = first.0 in
      let form = second.0 in
      let type = form-makes-one T D b.scopes e.scopes left.1 right.1 Written v w left.2 right.2 (scopes-of b e second.1) form q left.5 right.5 in
      let whole : typed.AndDeclarator left.0 (typed.Declares left.1 left.2) ≡ typed.AndDeclarator right.0 (typed.Declares right.1 right.2) =
      (λ i. typed.AndDeclarator (before i) (typed.Declares (form i) (type i))) in
      (left.6 ∙ whole ∙ sym right.6, second.1, second.2)

  pub bit-field-unique : (all : tree.MemberDeclarators) (d : tree.Declarator) → IsRowUnique T (tree.AndBitField all d)
  bit-field-unique all d v w x y a b c e q h k o own = absurd (is_row v (tree.AndBitField all d) x a b h)

  pub unnamed-bit-field-unique : (all : tree.MemberDeclarators) → IsRowUnique T (tree.AndUnnamedBitField all)
  unnamed-bit-field-unique all v w x y a b c e q h k o own = absurd (is_row v (tree.AndUnnamedBitField all) x a b h)

  abbrev pub AreMembersOf : tree.Members → TypedMembers → Point → Point → Type 0
  AreMembersOf tree.NoMember y a b = (y ≡ typed.NoMember) × (b ≡ a)
  AreMembersOf (tree.AndMember all specifiers declarators) y a b =
      (rows : TypedMembers) × (words : TypedSpecifiers) × (row : TypedMemberDeclarators) × (m n : Point) × AreMembersRead T D all rows a m
      × IsReadAs erased_specifiers made_by_specifiers (AreSpecifiers T) specifiers words m n × IsRowRead (specified_type words) declarators row n b × (y ≡ typed.AndMember rows words row)

  members_of : (y : TypedMembers) (a b : Point) → AreMembers T y a.scopes b.scopes → Numbers (made_by_members y) a.node b.node → AreMembersOf (erased_members y) y a b
  members_of typed.NoMember a b h k = (refl, point-same b a h k)
  members_of (typed.AndMember all specifiers declarators) a b h k =
      let cut = two-parts (made_by_members all ++ made_by_specifiers specifiers) (made_by_member_declarators declarators) a.node b.node k in
      let first = two-parts (made_by_members all) (made_by_specifiers specifiers) a.node cut.0 cut.1 in
      (all, specifiers, declarators, record { scopes = h.0; node = first.0 }, record { scopes = h.1; node = cut.0 }, (refl, h.2, first.1), (refl, h.3, first.2), (refl, h.4, cut.2), refl)

  pub are_members : (x : tree.Members) (y : TypedMembers) (a b : Point) → AreMembersRead T D x y a b → AreMembersOf x y a b
  are_members x y a b h = subst (λ (w : tree.Members). AreMembersOf w y a b) h.0 (members_of y a b h.1 h.2)

  pub no-member-unique : AreMembersUnique T tree.NoMember
  no-member-unique x y a b c e h k o own =
      let left = are_members tree.NoMember x a b h in
      let right = are_members tree.NoMember y c e k in
      (left.0 ∙ sym right.0, left.1 ∙ o ∙ sym right.1, subst HasOwn (sym left.1) own)

  pub members-unique : (all : tree.Members) (specifiers : tree.Specifiers) (declarators : tree.MemberDeclarators) → AreMembersUnique T all → AreSpecifiersUnique T specifiers
      → IsRowUnique T declarators → AreMembersUnique T (tree.AndMember all specifiers declarators)
  members-unique all specifiers declarators u v w x y a b c e h k o own =
      let left = are_members (tree.AndMember all specifiers declarators) x a b h in
      let right = are_members (tree.AndMember all specifiers declarators) y c e k in
      let first = u left.0 right.0 a left.3 c right.3 left.5 right.5 o own in
      let second = v left.1 right.1 left.3 left.4 right.3 right.4 left.6 right.6 first.1 first.2 in
      let third = w (specified_type left.1) (specified_type right.1) left.2 right.2 left.4 b right.4 e (ap specified_type second.0) left.7 right.7 second.1 second.2 in
      let rows = first.0 in
      let words = second.0 in
      let row = third.0 in
      let whole : typed.AndMember left.0 left.1 left.2 ≡ typed.AndMember right.0 right.1 right.2 = (λ i. typed.AndMember (rows i) (words i) (row i)) in
      (left.8 ∙ whole ∙ sym right.8, third.1, third.2)

  -- Enumerators

  abbrev pub AreEnumeratorsOf : tree.Enumerators → TypedEnumerators → Point → Point → Type 0
  AreEnumeratorsOf tree.NoEnumerator y a b = (y ≡ typed.NoEnumerator) × (b ≡ a)
  AreEnumeratorsOf (tree.AndEnumerator all name) y a b =
      (list : TypedEnumerators) × (z : ℤ) × (m : Point) × AreEnumeratorsRead T D all list a m × (z ≡ next_value (last_value list))
      × IsNewEnumerator name.bytes z m.scopes b.scopes × (b.node ≡ m.node) × (y ≡ typed.AndEnumerator list name z)
  AreEnumeratorsOf (tree.AndValued all name at x) y a b =
      (list : TypedEnumerators) × (v : TypedExpr) × (z : ℤ) × (m n : Point) × AreEnumeratorsRead T D all list a m × IsRead T x v m n × IsConstant T v z
      × IsNewEnumerator name.bytes z n.scopes b.scopes × (b.node ≡ n.node) × (y ≡ typed.AndValued list name at v z)

  enumerators_of : (y : TypedEnumerators) (a b : Point) → AreEnumerators T y a.scopes b.scopes → Numbers (made_by_enumerators y) a.node b.node → AreEnumeratorsOf (erased_enumerators y) y a b
  enumerators_of typed.NoEnumerator a b h k = (refl, point-same b a h k)
  enumerators_of (typed.AndEnumerator all name z) a b h k = (all, z, record { scopes = h.0; node = b.node }, (refl, h.1, k), h.2, h.3, refl, refl)
  enumerators_of (typed.AndValued all name at v z) a b h k =
      let cut = two-parts (made_by_enumerators all) (made_by v) a.node b.node k in
      (all, v, z, record { scopes = h.0; node = cut.0 }, record { scopes = h.1; node = b.node }, (refl, h.2, cut.1), (refl, h.3, cut.2), h.4, h.5, refl, refl)

  pub are_enumerators : (x : tree.Enumerators) (y : TypedEnumerators) (a b : Point) → AreEnumeratorsRead T D x y a b → AreEnumeratorsOf x y a b
  are_enumerators x y a b h = subst (λ (w : tree.Enumerators). AreEnumeratorsOf w y a b) h.0 (enumerators_of y a b h.1 h.2)

  new_name : (name : Identifier) (y z : ℤ) (s r p q : Scopes) → y ≡ z → s ≡ r → HasOwnFunctions s → IsNewEnumerator name.bytes y s p → IsNewEnumerator name.bytes z r q
      → (p ≡ q) × HasOwnFunctions p
  new_name name y z s r p q d e own h k =
      (h.after ∙ (λ i. declaring name.bytes (declared.Enumerator (d i)) (e i)) ∙ sym k.after, subst HasOwnFunctions (sym h.after) own)

  pub no-enumerator-unique : AreEnumeratorsUnique T tree.NoEnumerator
  no-enumerator-unique x y a b c e h k o own =
      let left = are_enumerators tree.NoEnumerator x a b h in
      let right = are_enumerators tree.NoEnumerator y c e k in
      (left.0 ∙ sym right.0, left.1 ∙ o ∙ sym right.1, subst HasOwn (sym left.1) own)

  pub enumerator-unique : (all : tree.Enumerators) (name : Identifier) → AreEnumeratorsUnique T all → AreEnumeratorsUnique T (tree.AndEnumerator all name)
  enumerator-unique all name u x y a b c e h k o own =
      let left = are_enumerators (tree.AndEnumerator all name) x a b h in
      let right = are_enumerators (tree.AndEnumerator all name) y c e k in
      let first = u left.0 right.0 a left.2 c right.2 left.3 right.3 o own in
      let list = first.0 in
      let value = left.4 ∙ ap (λ (l : TypedEnumerators). next_value (last_value l)) list ∙ sym right.4 in
      let ends = new_name name left.1 right.1 left.2.scopes right.2.scopes b.scopes e.scopes value (scopes-of left.2 right.2 first.1) first.2 left.5 right.5 in
      let whole : typed.AndEnumerator left.0 name left.1 ≡ typed.AndEnumerator right.0 name right.1 = (λ i. typed.AndEnumerator (list i) name (value i)) in
      (left.7 ∙ whole ∙ sym right.7, point-same b e ends.0 (left.6 ∙ node-of left.2 right.2 first.1 ∙ sym right.6), ends.1)

  pub valued-unique : (all : tree.Enumerators) (name : Identifier) (at : Place) (x : tree.Expr) → AreEnumeratorsUnique T all → IsUnique T x → AreEnumeratorsUnique T (tree.AndValued all name at x)
  valued-unique all name at x u v y z a b c e h k o own =
      let left = are_enumerators (tree.AndValued all name at x) y a b h in
      let right = are_enumerators (tree.AndValued all name at x) z c e k in
      let first = u left.0 right.0 a left.3 c right.3 left.5 right.5 o own in
      let p = left.7 in
      let q = right.7 in
      let second = plain-one T D x v left.1 right.1 left.3 left.4 right.3 right.4 left.6 right.6 first.1 first.2 (plain-over (bare left.1) (bare-plain left.1 p.plain)) (plain-over (bare right.1) (bare-plain right.1 q.plain)) in
      let list = first.0 in
      let expr = plain-same left.1 right.1 p.plain q.plain second.0 in
      let constant = some-same p.constant q.constant (sym p.known ∙ ap (constant_value T) expr ∙ q.known) in
      let value = p.int ∙ ap (converted int) constant ∙ sym q.int in
      let ends = new_name name left.2 right.2 left.4.scopes right.4.scopes b.scopes e.scopes value (scopes-of left.4 right.4 second.1) second.2 left.8 right.8 in
      let whole : typed.AndValued left.0 name at left.1 left.2 ≡ typed.AndValued right.0 name at right.1 right.2 = (λ i. typed.AndValued (list i) name at (expr i) (value i)) in
      (left.10 ∙ whole ∙ sym right.10, point-same b e ends.0 (left.9 ∙ node-of left.4 right.4 second.1 ∙ sym right.9), ends.1)

-- Specifiers, with the members and enumerators in them, and the arguments of calls: each has one typed tree where its parts have one.
use Rattle.std.proofs.Common.{◌≡◌, Bool, length, slice_set, Option, Some, None, refl, ap, sym, subst, ◌∙◌}
use Rattle.cc_base.specs.declared.place.Place.{Place}
use Rattle.cc_base.specs.declared.number.TypeId.{TypeId}
use Rattle.c_types.specs.Table.{Table, shape_at}
use Rattle.c_tree.specs.declared.leaf.Identifier.{Identifier}
use Rattle.c_tree.specs.declared.leaf.Word.{Word}
use Rattle.c_tree.specs.declared.operator.AggregateKind.{AggregateKind}
use Rattle.c_tree.specs.Erasure.{erased, erased_arguments, erased_specifier_list, erased_specifier, erased_members, erased_member_declarators, erased_enumerators}
use Rattle.c_tree.specs.Tree as tree
use Rattle.c_tree.specs.TypedTree as typed
use Rattle.c_tree.specs.TypedTree.{TypedExpr, TypedArguments, TypedForm, TypedSpecifiers, TypedSpecifierList, TypedSpecifier, TypedMembers, TypedMemberDeclarators, TypedEnumerators}
use Rattle.c_tree.specs.TypedParts.{made_by, made_by_arguments, made_by_specifier_list, made_by_specifier, made_by_members, made_by_member_declarators, made_by_enumerators}
use Rattle.c_typing.specs.declared.declared.Declared.TheVariants as declared
use Rattle.c_typing.specs.declared.declared.Tag.{Tag}
use Rattle.c_typing.specs.declared.declared.Tag.TheVariants as tag
use Rattle.c_typing.specs.Conversions.{bare}
use Rattle.c_typing.specs.Declarators.{member_names}
use Rattle.c_typing.specs.Rules.{number_of_shape}
use Rattle.c_typing.specs.Scopes.{Scopes, name_in, tag_in}
use Rattle.c_typing.specs.Typing.{IsTyped, AreTyped, AreListed, IsSpecifier, AreMembers, AreMemberDeclarators, AreEnumerators, IsTagged, IsNewAggregate, BeginsAggregate, EndsAggregate, tag_named_here, tagging, counting_aggregate, shape_of_kind, enumerating, enumerated, EndsEnumeration}
use Rattle.c_typing_unique.specs.Sameness.{HasOwnFunctions}
use Rattle.c_typing_unique.proofs.CallLaws.{ArePlain, bares, bares-last}
use Rattle.c_typing_unique.proofs.DeclaratorSteps.{AreSpecifiersUnique}
use Rattle.c_typing_unique.proofs.ExprSteps.{AreUnique}
use Rattle.c_typing_unique.proofs.FormLaws.{of-type-one}
use Rattle.c_typing_unique.proofs.Numbering.{Numbers, Point, HasOwn, scopes-of, node-of}
use Rattle.c_typing_unique.proofs.Reading.{IsReadAs, IsRead, IsUnique, IsUniqueAs, plain-one, plain-over, point-same}
use Rattle.c_typing_unique.proofs.Readings.{AreRead, Both, both}
use Rattle.c_typing_unique.proofs.Shapes.{IsDistinct, shape-one, some-same}

abbrev pub IsListUnique : Table → tree.Specifiers → Type 0
IsListUnique T all = IsUniqueAs erased_specifier_list made_by_specifier_list (AreListed T) all

abbrev pub IsSpecifierUnique : Table → tree.Specifier → Type 0
IsSpecifierUnique T x = IsUniqueAs erased_specifier made_by_specifier (IsSpecifier T) x

abbrev pub AreMembersUnique : Table → tree.Members → Type 0
AreMembersUnique T all = IsUniqueAs erased_members made_by_members (AreMembers T) all

abbrev pub AreEnumeratorsUnique : Table → tree.Enumerators → Type 0
AreEnumeratorsUnique T all = IsUniqueAs erased_enumerators made_by_enumerators (AreEnumerators T) all

-- the declarators of a row of members, which has one type before them
abbrev pub IsRowUnique : Table → tree.MemberDeclarators → Type 0
IsRowUnique T all =
    (v w : TypeId) (x y : TypedMemberDeclarators) (a b c e : Point) → v ≡ w → IsReadAs erased_member_declarators made_by_member_declarators (AreMemberDeclarators T v) all x a b
    → IsReadAs erased_member_declarators made_by_member_declarators (AreMemberDeclarators T w) all y c e → a ≡ c → HasOwn a → (x ≡ y) × (b ≡ e) × HasOwn b

typedef_same : (t u : TypeId) → Some (declared.Typedef t) ≡ Some (declared.Typedef u) → t ≡ u
typedef_same t u h = cc

tag_same : (k l : AggregateKind) (t u : TypeId) → tag.Aggregate k t ≡ tag.Aggregate l u → t ≡ u
tag_same k l t u h = cc

-- where an enumeration begins, by whether the innermost scope has its tag
unless_found : Option Identifier → Scopes → Option Tag → Scopes
unless_found name s None = tagging name tag.Enumerating s
unless_found name s (Some found) = s

enumerating_is : (name : Option Identifier) (s : Scopes) → enumerating name s ≡ unless_found name s (tag_named_here s name)
unfolding unless_found
enumerating_is name s = refl

tagging_own : (name : Option Identifier) (what : Tag) (s : Scopes) → HasOwnFunctions s → HasOwnFunctions (tagging name what s)
tagging_own None what s own = own
tagging_own (Some name) what s own = own

pub enumerating_own : (name : Option Identifier) (s : Scopes) → HasOwnFunctions s → HasOwnFunctions (enumerating name s)
unfolding unless_found
enumerating_own name s own = subst HasOwnFunctions (sym (enumerating_is name s)) (by (tag_named_here s name))
  where
    by : (o : Option Tag) → HasOwnFunctions (unless_found name s o)
    by None = tagging_own name tag.Enumerating s own
    by (Some found) = own

enumerated_own : (name : Option Identifier) (s : Scopes) → HasOwnFunctions s → HasOwnFunctions (enumerated name s)
enumerated_own None s own = own
enumerated_own (Some name) s own = own

enumerated_one : (name : Option Identifier) (s r p q : Scopes) → s ≡ r → HasOwnFunctions s → EndsEnumeration name s p → EndsEnumeration name r q → (p ≡ q) × HasOwnFunctions p
enumerated_one name s r p q e own h k = (h.after ∙ ap (enumerated name) e ∙ sym k.after, subst HasOwnFunctions (sym h.after) (enumerated_own name s own))

abbrev pub begun : Option Identifier → Point → Point
begun name a = record { scopes = enumerating name a.scopes; node = a.node }

module _ (T : Table) (D : IsDistinct T) where
  -- Arguments

  abbrev pub AreArgumentsOf : tree.Arguments → TypedArguments → Point → Point → Type 0
  AreArgumentsOf tree.NoArgument y a b = (y ≡ typed.NoArgument) × (b ≡ a)
  AreArgumentsOf (tree.AndArgument xs x) y a b = (list : TypedArguments) × (e : TypedExpr) × Both (AreRead T xs list) (IsRead T x e) a b × (y ≡ typed.AndArgument list e)

  arguments_of : (y : TypedArguments) (a b : Point) → AreTyped T y a.scopes b.scopes → Numbers (made_by_arguments y) a.node b.node → AreArgumentsOf (erased_arguments y) y a b
  arguments_of typed.NoArgument a b h k = (refl, point-same b a h k)
  arguments_of (typed.AndArgument all e) a b h k = (all, e, both erased_arguments made_by_arguments (AreTyped T) erased made_by (IsTyped T) all e h.0 a b h.1 h.2 k, refl)

  pub are_arguments : (x : tree.Arguments) (y : TypedArguments) (a b : Point) → AreRead T x y a b → AreArgumentsOf x y a b
  are_arguments x y a b h = subst (λ (w : tree.Arguments). AreArgumentsOf w y a b) h.0 (arguments_of y a b h.1 h.2)

  pub no-argument-unique : AreUnique T tree.NoArgument
  no-argument-unique x y a b c e h k o own p q =
      let left = are_arguments tree.NoArgument x a b h in
      let right = are_arguments tree.NoArgument y c e k in
      (ap bares (left.0 ∙ sym right.0), left.1 ∙ o ∙ sym right.1, subst HasOwn (sym left.1) own)

  pub argument-unique : (xs : tree.Arguments) (x : tree.Expr) → AreUnique T xs → IsUnique T x → AreUnique T (tree.AndArgument xs x)
  argument-unique xs x u v y z a b c e h k o own p q =
      let left = are_arguments (tree.AndArgument xs x) y a b h in
      let right = are_arguments (tree.AndArgument xs x) z c e k in
      let plain = subst ArePlain left.3 p in
      let plain' = subst ArePlain right.3 q in
      let first = u left.0 right.0 a left.2.0 c right.2.0 left.2.1 right.2.1 o own plain.0 plain'.0 in
      let second = plain-one T D x v left.1 right.1 left.2.0 b right.2.0 e left.2.2 right.2.2 first.1 first.2 (plain-over (bare left.1) plain.1) (plain-over (bare right.1) plain'.1) in
      (ap bares left.3 ∙ bares-last left.0 right.0 left.1 right.1 first.0 second.0 ∙ ap bares (sym right.3), second.1, second.2)

  -- Lists of specifiers

  abbrev pub AreListRead : tree.Specifiers → TypedSpecifierList → Point → Point → Type 0
  AreListRead = IsReadAs erased_specifier_list made_by_specifier_list (AreListed T)

  abbrev pub IsSpecifierRead : tree.Specifier → TypedSpecifier → Point → Point → Type 0
  IsSpecifierRead = IsReadAs erased_specifier made_by_specifier (IsSpecifier T)

  abbrev pub AreListOf : tree.Specifiers → TypedSpecifierList → Point → Point → Type 0
  AreListOf tree.NoSpecifier y a b = (y ≡ typed.NoSpecifier) × (b ≡ a)
  AreListOf (tree.AndSpecifier all x) y a b =
      (list : TypedSpecifierList) × (one : TypedSpecifier) × Both (AreListRead all list) (IsSpecifierRead x one) a b × (y ≡ typed.AndSpecifier list one)

  list_of : (y : TypedSpecifierList) (a b : Point) → AreListed T y a.scopes b.scopes → Numbers (made_by_specifier_list y) a.node b.node → AreListOf (erased_specifier_list y) y a b
  list_of typed.NoSpecifier a b h k = (refl, point-same b a h k)
  list_of (typed.AndSpecifier all one) a b h k =
      (all, one, both erased_specifier_list made_by_specifier_list (AreListed T) erased_specifier made_by_specifier (IsSpecifier T) all one h.0 a b h.1 h.2 k, refl)

  pub is_list : (x : tree.Specifiers) (y : TypedSpecifierList) (a b : Point) → AreListRead x y a b → AreListOf x y a b
  is_list x y a b h = subst (λ (w : tree.Specifiers). AreListOf w y a b) h.0 (list_of y a b h.1 h.2)

  pub no-specifier-unique : IsListUnique T tree.NoSpecifier
  no-specifier-unique x y a b c e h k o own =
      let left = is_list tree.NoSpecifier x a b h in
      let right = is_list tree.NoSpecifier y c e k in
      (left.0 ∙ sym right.0, left.1 ∙ o ∙ sym right.1, subst HasOwn (sym left.1) own)

  pub list-unique : (all : tree.Specifiers) (x : tree.Specifier) → IsListUnique T all → IsSpecifierUnique T x → IsListUnique T (tree.AndSpecifier all x)
  list-unique all x u v y z a b c e h k o own =
      let left = is_list (tree.AndSpecifier all x) y a b h in
      let right = is_list (tree.AndSpecifier all x) z c e k in
      let first = u left.0 right.0 a left.2.0 c right.2.0 left.2.1 right.2.1 o own in
      let second = v left.1 right.1 left.2.0 b right.2.0 e left.2.2 right.2.2 first.1 first.2 in
      let before = first.0 in
      let last = second.0 in
      let whole : typed.AndSpecifier left.0 left.1 ≡ typed.AndSpecifier right.0 right.1 = (λ i. typed.AndSpecifier (before i) (last i)) in
      (left.3 ∙ whole ∙ sym right.3, second.1, second.2)

  -- with the type that they name
  pub specifiers-unique : (all : tree.Specifiers) → IsListUnique T all → AreSpecifiersUnique T all
  specifiers-unique all u (typed.Specified x t) (typed.Specified y w) a b c e h k o own =
      let one = u x y a b c e (h.0, h.1.0, h.2) (k.0, k.1.0, k.2) o own in
      let list = one.0 in
      let type = of-type-one T D x y t w list h.1.1 k.1.1 in
      ((λ i. typed.Specified (list i) (type i)), one.1, one.2)

  -- Tags

  new_one : (which : AggregateKind) (name : Option Identifier) (t u : TypeId) (s r p q : Scopes) → s ≡ r → HasOwnFunctions s → IsNewAggregate T which name t s p → IsNewAggregate T which name u r q
      → (t ≡ u) × (p ≡ q) × HasOwnFunctions p
  new_one which name t u s r p q e own h k =
      let type = shape-one T D t u (shape_of_kind which (length s.members)) (shape_of_kind which (length r.members)) (ap (λ (c : Scopes). shape_of_kind which (length c.members)) e) h.shape k.shape in (
        type,
        h.after ∙ (λ i. tagging name (tag.Aggregate which (type i)) (counting_aggregate (e i))) ∙ sym k.after,
        subst HasOwnFunctions (sym h.after) (tagging_own name (tag.Aggregate which t) (counting_aggregate s) own),
      )

  tagged_by : (found : Option Tag) (which : AggregateKind) (name : Identifier) (t u : TypeId) (s r p q : Scopes) → s ≡ r → HasOwnFunctions s
      → IsTagged T found which name t s p → IsTagged T found which name u r q → (t ≡ u) × (p ≡ q) × HasOwnFunctions p
  tagged_by (Some found) which name t u s r p q e own h k = (tag_same which which t u (sym h.0 ∙ k.0), h.1 ∙ e ∙ sym k.1, subst HasOwnFunctions (sym h.1) own)
  tagged_by None which name t u s r p q e own h k = new_one which (Some name) t u s r p q e own h k

  -- a tag stands for one type
  pub tagged-one : (f g : Option Tag) (which : AggregateKind) (name : Identifier) (t u : TypeId) (s r p q : Scopes) → f ≡ g → s ≡ r → HasOwnFunctions s
      → IsTagged T f which name t s p → IsTagged T g which name u r q → (t ≡ u) × (p ≡ q) × HasOwnFunctions p
  tagged-one f g which name t u s r p q d e own h k = tagged_by f which name t u s r p q e own h (subst (λ (o : Option Tag). IsTagged T o which name u r q) (sym d) k)

  begins_by : (found : Option Tag) (which : AggregateKind) (name : Option Identifier) (t u : TypeId) (s r p q : Scopes) → s ≡ r → HasOwnFunctions s
      → BeginsAggregate T found which name t s p → BeginsAggregate T found which name u r q → (t ≡ u) × (p ≡ q) × HasOwnFunctions p
  begins_by (Some found) which name t u s r p q e own h k = (tag_same which which t u (sym h.0 ∙ k.0), h.2 ∙ e ∙ sym k.2, subst HasOwnFunctions (sym h.2) own)
  begins_by None which name t u s r p q e own h k = new_one which name t u s r p q e own h k

  pub begins_one : (which : AggregateKind) (name : Option Identifier) (t u : TypeId) (s r p q : Scopes) → s ≡ r → HasOwnFunctions s
      → BeginsAggregate T (tag_named_here s name) which name t s p → BeginsAggregate T (tag_named_here r name) which name u r q → (t ≡ u) × (p ≡ q) × HasOwnFunctions p
  begins_one which name t u s r p q e own h k =
      begins_by (tag_named_here s name) which name t u s r p q e own h (subst (λ (c : Scopes). BeginsAggregate T (tag_named_here c name) which name u r q) (sym e) k)

  ends_one : (x y : TypedMembers) (t u : TypeId) (s r p q : Scopes) → x ≡ y → t ≡ u → s ≡ r → HasOwnFunctions s → EndsAggregate T x t s p → EndsAggregate T y u r q
      → (p ≡ q) × HasOwnFunctions p
  ends_one x y t u s r p q d f e own h k =
      let number = some-same h.number k.number (sym h.declared ∙ ap (λ (v : TypeId). number_of_shape (shape_at T v)) f ∙ k.declared) in
      let after : (record s { members = slice_set s.members h.number (member_names x) }) ≡ (record r { members = slice_set r.members k.number (member_names y) }) =
      (λ i. record (e i) { members = slice_set (e i).members (number i) (member_names (d i)) }) in
      (h.after ∙ after ∙ sym k.after, subst HasOwnFunctions (sym h.after) own)

  -- Specifiers

  abbrev pub AreMembersRead : tree.Members → TypedMembers → Point → Point → Type 0
  AreMembersRead = IsReadAs erased_members made_by_members (AreMembers T)

  abbrev pub AreEnumeratorsRead : tree.Enumerators → TypedEnumerators → Point → Point → Type 0
  AreEnumeratorsRead = IsReadAs erased_enumerators made_by_enumerators (AreEnumerators T)

  -- a struct or union with its members
  pub record IsWhole (which : AggregateKind) (name : Option Identifier) (all : tree.Members) (rows : TypedMembers) (t : TypeId) (a b : Point) : Type 0 where
    pub middle : Scopes
    pub inside : Scopes
    pub begins : BeginsAggregate T (tag_named_here a.scopes name) which name t a.scopes middle
    pub members : AreMembersRead all rows (record { scopes = middle; node = a.node }) (record { scopes = inside; node = b.node })
    pub ends : EndsAggregate T rows t inside b.scopes

  -- an enumeration with its enumerators
  pub record IsEnumerationWhole (name : Option Identifier) (all : tree.Enumerators) (list : TypedEnumerators) (a b : Point) : Type 0 where
    pub inside : Scopes
    pub enumerators : AreEnumeratorsRead all list (begun name a) (record { scopes = inside; node = b.node })
    pub ends : EndsEnumeration name inside b.scopes

  abbrev pub IsSpecifierOf : tree.Specifier → TypedSpecifier → Point → Point → Type 0
  IsSpecifierOf (tree.Keyword word) y a b = (y ≡ typed.Keyword word) × (b ≡ a)
  IsSpecifierOf (tree.Typedef name) y a b = (t : TypeId) × (name_in a.scopes.levels name.bytes ≡ Some (declared.Typedef t)) × (b ≡ a) × (y ≡ typed.Typedef name t)
  IsSpecifierOf (tree.Tagged which at name) y a b =
      (t : TypeId) × IsTagged T (tag_in a.scopes.levels name.bytes) which name t a.scopes b.scopes × (b.node ≡ a.node) × (y ≡ typed.Tagged which at name t)
  IsSpecifierOf (tree.Aggregate which at name brace all) y a b =
      (rows : TypedMembers) × (t : TypeId) × IsWhole which name all rows t a b × (y ≡ typed.Aggregate which at name brace rows t)
  IsSpecifierOf (tree.Enum at name) y a b = (y ≡ typed.Enum at name) × (b ≡ a)
  IsSpecifierOf (tree.Enumeration at name brace all comma) y a b =
      (list : TypedEnumerators) × IsEnumerationWhole name all list a b × (y ≡ typed.Enumeration at name brace list comma)

  specifier_of : (y : TypedSpecifier) (a b : Point) → IsSpecifier T y a.scopes b.scopes → Numbers (made_by_specifier y) a.node b.node → IsSpecifierOf (erased_specifier y) y a b
  specifier_of (typed.Keyword word) a b h k = (refl, point-same b a h k)
  specifier_of (typed.Typedef name t) a b h k = (t, h.1, point-same b a h.0 k, refl)
  specifier_of (typed.Tagged which at name t) a b h k = (t, h, k, refl)
  specifier_of (typed.Aggregate which at name brace rows t) a b h k =
      (rows, t, record { middle = h.0; inside = h.1; begins = h.2; members = (refl, h.3, k); ends = h.4 }, refl)
  specifier_of (typed.Enum at name) a b h k = (refl, point-same b a h.0 k)
  specifier_of (typed.Enumeration at name brace all comma) a b h k = (all, record { inside = h.0; enumerators = (refl, h.1, k); ends = h.2 }, refl)

  pub is_specifier : (x : tree.Specifier) (y : TypedSpecifier) (a b : Point) → IsSpecifierRead x y a b → IsSpecifierOf x y a b
  is_specifier x y a b h = subst (λ (w : tree.Specifier). IsSpecifierOf w y a b) h.0 (specifier_of y a b h.1 h.2)

  pub keyword-unique : (word : Word) → IsSpecifierUnique T (tree.Keyword word)
  keyword-unique word x y a b c e h k o own =
      let left = is_specifier (tree.Keyword word) x a b h in
      let right = is_specifier (tree.Keyword word) y c e k in
      (left.0 ∙ sym right.0, left.1 ∙ o ∙ sym right.1, subst HasOwn (sym left.1) own)

  pub enum-unique : (at : Place) (name : Identifier) → IsSpecifierUnique T (tree.Enum at name)
  enum-unique at name x y a b c e h k o own =
      let left = is_specifier (tree.Enum at name) x a b h in
      let right = is_specifier (tree.Enum at name) y c e k in
      (left.0 ∙ sym right.0, left.1 ∙ o ∙ sym right.1, subst HasOwn (sym left.1) own)

  pub typedef-unique : (name : Identifier) → IsSpecifierUnique T (tree.Typedef name)
  typedef-unique name x y a b c e h k o own =
      let left = is_specifier (tree.Typedef name) x a b h in
      let right = is_specifier (tree.Typedef name) y c e k in
      let type = typedef_same left.0 right.0 (sym left.1 ∙ ap (λ (p : Point). name_in p.scopes.levels name.bytes) o ∙ right.1) in
      (left.3 ∙ ap (typed.Typedef name) type ∙ sym right.3, left.2 ∙ o ∙ sym right.2, subst HasOwn (sym left.2) own)

  pub tagged-unique : (which : AggregateKind) (at : Place) (name : Identifier) → IsSpecifierUnique T (tree.Tagged which at name)
  tagged-unique which at name x y a b c e h k o own =
      let left = is_specifier (tree.Tagged which at name) x a b h in
      let right = is_specifier (tree.Tagged which at name) y c e k in
      let one = tagged-one (tag_in a.scopes.levels name.bytes) (tag_in c.scopes.levels name.bytes) which name left.0 right.0 a.scopes c.scopes b.scopes e.scopes
      (ap (λ (p : Point). tag_in p.scopes.levels name.bytes) o) (scopes-of a c o) own left.1 right.1 in
      (left.3 ∙ ap (typed.Tagged which at name) one.0 ∙ sym right.3, point-same b e one.1 (left.2 ∙ node-of a c o ∙ sym right.2), one.2)

  pub aggregate-unique : (which : AggregateKind) (at : Place) (name : Option Identifier) (brace : Place) (all : tree.Members) → AreMembersUnique T all
      → IsSpecifierUnique T (tree.Aggregate which at name brace all)
  aggregate-unique which at name brace all u x y a b c e h k o own =
      let left = is_specifier (tree.Aggregate which at name brace all) x a b h in
      let right = is_specifier (tree.Aggregate which at name brace all) y c e k in
      let p = left.2 in
      let q = right.2 in
      let first = begins_one which name left.1 right.1 a.scopes c.scopes p.middle q.middle (scopes-of a c o) own p.begins q.begins in
      let begin : Point = record { scopes = p.middle; node = a.node } in
      let begin' : Point = record { scopes = q.middle; node = c.node } in
      let inside : Point = record { scopes = p.inside; node = b.node } in
      let inside' : Point = record { scopes = q.inside; node = e.node } in
      let second = u left.0 right.0 begin inside begin' inside' p.members q.members (point-same begin begin' first.1 (node-of a c o)) first.2 in
      let type = first.0 in
      let rows = second.0 in
      let third = ends_one left.0 right.0 left.1 right.1 p.inside q.inside b.scopes e.scopes rows type (scopes-of inside inside' second.1) second.2 p.ends q.ends in
      let whole : typed.Aggregate which at name brace left.0 left.1 ≡ typed.Aggregate which at name brace right.0 right.1 = (λ i. typed.Aggregate which at name brace (rows i) (type i)) in
      (left.3 ∙ whole ∙ sym right.3, point-same b e third.0 (node-of inside inside' second.1), third.1)

  pub enumeration-unique : (at : Place) (name : Option Identifier) (brace : Place) (all : tree.Enumerators) (comma : Bool) → AreEnumeratorsUnique T all
      → IsSpecifierUnique T (tree.Enumeration at name brace all comma)
  enumeration-unique at name brace all comma u x y a b c e h k o own =
      let left = is_specifier (tree.Enumeration at name brace all comma) x a b h in
      let right = is_specifier (tree.Enumeration at name brace all comma) y c e k in
      let inside : Point = record { scopes = left.1.inside; node = b.node } in
      let inside' : Point = record { scopes = right.1.inside; node = e.node } in
      let one =
      u left.0 right.0 (begun name a) inside (begun name c) inside' left.1.enumerators right.1.enumerators (ap (begun name) o) (enumerating_own name a.scopes own) in
      let ended = enumerated_one name left.1.inside right.1.inside b.scopes e.scopes (scopes-of inside inside' one.1) one.2 left.1.ends right.1.ends in (
        left.2 ∙ ap (λ (list : TypedEnumerators). typed.Enumeration at name brace list comma) one.0 ∙ sym right.2,
        point-same b e ended.0 (node-of inside inside' one.1),
        ended.1,
      )

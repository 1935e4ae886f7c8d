-- Specifiers, members and enumerators that are well typed are not refused, where their parts are not.
use Rattle.std.proofs.Common.{◌≡◌, ℕ, ◌+◌, ◌≤◌, ◌==◌, nat_le, Bool, true, false, not, ◌&&◌, ◌||◌, List, [], ◌∷◌, ◌++◌, Option, Some, None, refl, ap, sym, subst, ◌∙◌, inl, inr, ◌⊎◌, arith}
use Rattle.std.proofs.lemmas.Bool.Decides.{Decides-eqb, leb_tells}
use Rattle.cc_base.specs.declared.place.Place.{Place}
use Rattle.cc_base.specs.declared.number.TypeId.{TypeId}
use Rattle.cc_base.specs.declared.fault.Fault.{Fault}
use Rattle.cc_base.specs.declared.fault.Rule.TheVariants as rule
use Rattle.c_types.specs.Table.{Table, is_empty}
use Rattle.c_lexer.specs.declared.word.Keyword.{Keyword}
use Rattle.c_lexer.specs.declared.word.Keyword.TheVariants as keyword
use Rattle.c_tree.specs.declared.leaf.Identifier.{Identifier}
use Rattle.c_tree.specs.declared.leaf.Word.{Word}
use Rattle.c_tree.specs.declared.operator.AggregateKind.{AggregateKind}
use Rattle.c_tree.specs.declared.operator.AggregateKind.TheVariants as kind
use Rattle.c_tree.specs.Tree as tree
use Rattle.c_tree.specs.TypedTree as typed
use Rattle.c_tree.specs.TypedTree.{TypedSpecifier, TypedSpecifierList, TypedSpecifiers, TypedMembers, TypedEnumerators}
use Rattle.c_typing.specs.declared.declared.Tag.{Tag}
use Rattle.c_typing.specs.declared.declared.Tag.TheVariants as tag
use Rattle.c_typing.specs.Declarators.{Counted, counted, counting, counting_word, are_allowed, member_names}
use Rattle.c_typing.specs.Refusals.{Fails, BeginsOrStays, one_named, tag_place, is_empty_row}
use Rattle.c_typing.specs.Scopes.{Name, Level, Scopes, or_outer, entry_of, tag_here, tag_in, is_complete_at}
use Rattle.c_typing.specs.Settled.{IsBasic}
use Rattle.c_typing.specs.Tests.{broken_at, word_tests, tag_tests, enum_tests, aggregate_tests, enumeration_tests, is_tag_of, is_other_tag, is_taken_tag, is_enumeration, lacks_enumeration}
use Rattle.c_typing.specs.Typing.{IsTagged, BeginsAggregate, AreDistinct, AreSpecifiers, AreListed, AreMembers, AreEnumerators, IsSpecifier, tag_named_here, is_taken_enumeration}
use Rattle.c_typing_unique.specs.Sameness.{HasOwnFunctions}
use Rattle.c_typing_unique.specs.Points.{Point, HasOwn, IsReadAs}
use Rattle.c_tree.specs.Erasure.{erased_specifiers, erased_specifier_list, erased_specifier, erased_members, erased_enumerators}
use Rattle.c_tree.specs.TypedParts.{made_by_specifiers, made_by_specifier_list, made_by_specifier, made_by_members, made_by_enumerators}
use Rattle.c_typing_unique.proofs.Shapes.{IsDistinct, no_true}
use Rattle.c_typing_unique.proofs.SpecifierSteps.{is_list, is_specifier, begins_one, IsWhole, enumerating_own, begun}
use Rattle.c_typing_unique.proofs.UniqueTrees.{list-one, members-one, enumerators-one}
use Rattle.c_typing_exact.specs.Numbered.{RefusesSpecifiersAt, RefusesSpecifierAt, RefusesMembersAt, RefusesEnumeratorsAt, with_scopes}
use Rattle.c_typing_exact.specs.Passing.{Passes}
use Rattle.c_typing_exact.proofs.DeclaratorPasses.{passes-fails}
use Rattle.c_typing_exact.proofs.SameParts.{distinct}
use Rattle.c_typing_exact.proofs.Unbroken.{passes_one, passes_and, passes_append, or_off, or_on, off}

-- Words that may stand together may do so without the last of them

nat_less : (m n : ℕ) → m ≤ n → nat_le n 1 ≡ true → nat_le m 1 ≡ true
nat_less m n h k = grind (arith, leb_tells)

none_less : (m n : ℕ) → m ≤ n → (n == 0) ≡ true → (m == 0) ≡ true
none_less m n h k =
    let zero : n ≡ 0 = (Decides-eqb n 0).0 k in
    (Decides-eqb m 0).1 (omega arith)

and_less : (a b c d : Bool) → (a ≡ true → c ≡ true) → (b ≡ true → d ≡ true) → (a && b) ≡ true → (c && d) ≡ true
and_less true b c d f g h = (λ i. f refl i && g h i)
and_less false b c d f g h = no_true h

or_less : (a b c d : Bool) → (a ≡ true → c ≡ true) → (b ≡ true → d ≡ true) → (a || b) ≡ true → (c || d) ≡ true
or_less true b c d f g h = ap (λ (x : Bool). x || d) (f refl)
or_less false b c d f g h = or_on c d (g h)

allowed_less : (c d : Counted) → c.storage ≤ d.storage → c.void + c.char + c.short + c.long + c.named ≤ d.void + d.char + d.short + d.long + d.named → c.signed + c.unsigned ≤ d.signed + d.unsigned
    → c.int ≤ d.int → c.char + c.int ≤ d.char + d.int → c.void + c.named ≤ d.void + d.named → c.signed + c.unsigned + c.int ≤ d.signed + d.unsigned + d.int
    → are_allowed d ≡ true → are_allowed c ≡ true
allowed_less c d p q r s t u v h =
    and_less (nat_le d.storage 1) (nat_le (d.void + d.char + d.short + d.long + d.named) 1
    && (nat_le (d.signed + d.unsigned) 1 && (nat_le d.int 1 && (nat_le (d.char + d.int) 1 && ((d.void + d.named == 0) || (d.signed + d.unsigned + d.int == 0))))))
    (nat_le c.storage 1) (nat_le (c.void + c.char + c.short + c.long + c.named) 1
    && (nat_le (c.signed + c.unsigned) 1 && (nat_le c.int 1 && (nat_le (c.char + c.int) 1 && ((c.void + c.named == 0) || (c.signed + c.unsigned + c.int == 0))))))
    (nat_less c.storage d.storage p)
    (and_less (nat_le (d.void + d.char + d.short + d.long + d.named) 1)
    (nat_le (d.signed + d.unsigned) 1 && (nat_le d.int 1 && (nat_le (d.char + d.int) 1 && ((d.void + d.named == 0) || (d.signed + d.unsigned + d.int == 0)))))
    (nat_le (c.void + c.char + c.short + c.long + c.named) 1)
    (nat_le (c.signed + c.unsigned) 1 && (nat_le c.int 1 && (nat_le (c.char + c.int) 1 && ((c.void + c.named == 0) || (c.signed + c.unsigned + c.int == 0)))))
    (nat_less (c.void + c.char + c.short + c.long + c.named) (d.void + d.char + d.short + d.long + d.named) q)
    (and_less (nat_le (d.signed + d.unsigned) 1) (nat_le d.int 1 && (nat_le (d.char + d.int) 1 && ((d.void + d.named == 0) || (d.signed + d.unsigned + d.int == 0))))
    (nat_le (c.signed + c.unsigned) 1) (nat_le c.int 1 && (nat_le (c.char + c.int) 1 && ((c.void + c.named == 0) || (c.signed + c.unsigned + c.int == 0))))
    (nat_less (c.signed + c.unsigned) (d.signed + d.unsigned) r)
    (and_less (nat_le d.int 1) (nat_le (d.char + d.int) 1 && ((d.void + d.named == 0) || (d.signed + d.unsigned + d.int == 0)))
    (nat_le c.int 1) (nat_le (c.char + c.int) 1 && ((c.void + c.named == 0) || (c.signed + c.unsigned + c.int == 0)))
    (nat_less c.int d.int s)
    (and_less (nat_le (d.char + d.int) 1) ((d.void + d.named == 0) || (d.signed + d.unsigned + d.int == 0))
    (nat_le (c.char + c.int) 1) ((c.void + c.named == 0) || (c.signed + c.unsigned + c.int == 0))
    (nat_less (c.char + c.int) (d.char + d.int) t)
    (or_less (d.void + d.named == 0) (d.signed + d.unsigned + d.int == 0) (c.void + c.named == 0) (c.signed + c.unsigned + c.int == 0)
    (none_less (c.void + c.named) (d.void + d.named) u) (none_less (c.signed + c.unsigned + c.int) (d.signed + d.unsigned + d.int) v)))))) h

allowed_before : (word : Keyword) (c : Counted) → are_allowed (counting_word word c) ≡ true → are_allowed c ≡ true
allowed_before keyword.Void c h = allowed_less c (counting_word keyword.Void c) (omega arith) (omega arith) (omega arith) (omega arith) (omega arith) (omega arith) (omega arith) h
allowed_before keyword.Char c h = allowed_less c (counting_word keyword.Char c) (omega arith) (omega arith) (omega arith) (omega arith) (omega arith) (omega arith) (omega arith) h
allowed_before keyword.Short c h = allowed_less c (counting_word keyword.Short c) (omega arith) (omega arith) (omega arith) (omega arith) (omega arith) (omega arith) (omega arith) h
allowed_before keyword.Int c h = allowed_less c (counting_word keyword.Int c) (omega arith) (omega arith) (omega arith) (omega arith) (omega arith) (omega arith) (omega arith) h
allowed_before keyword.Long c h = allowed_less c (counting_word keyword.Long c) (omega arith) (omega arith) (omega arith) (omega arith) (omega arith) (omega arith) (omega arith) h
allowed_before keyword.Signed c h = allowed_less c (counting_word keyword.Signed c) (omega arith) (omega arith) (omega arith) (omega arith) (omega arith) (omega arith) (omega arith) h
allowed_before keyword.Unsigned c h = allowed_less c (counting_word keyword.Unsigned c) (omega arith) (omega arith) (omega arith) (omega arith) (omega arith) (omega arith) (omega arith) h
allowed_before keyword.Auto c h = allowed_less c (counting_word keyword.Auto c) (omega arith) (omega arith) (omega arith) (omega arith) (omega arith) (omega arith) (omega arith) h
allowed_before keyword.Register c h = allowed_less c (counting_word keyword.Register c) (omega arith) (omega arith) (omega arith) (omega arith) (omega arith) (omega arith) (omega arith) h
allowed_before keyword.Static c h = allowed_less c (counting_word keyword.Static c) (omega arith) (omega arith) (omega arith) (omega arith) (omega arith) (omega arith) (omega arith) h
allowed_before keyword.Extern c h = allowed_less c (counting_word keyword.Extern c) (omega arith) (omega arith) (omega arith) (omega arith) (omega arith) (omega arith) (omega arith) h
allowed_before keyword.Typedef c h = allowed_less c (counting_word keyword.Typedef c) (omega arith) (omega arith) (omega arith) (omega arith) (omega arith) (omega arith) (omega arith) h
allowed_before word c h = h

allowed_unnamed : (c : Counted) → are_allowed (one_named c) ≡ true → are_allowed c ≡ true
allowed_unnamed c h = allowed_less c (one_named c) (omega arith) (omega arith) (omega arith) (omega arith) (omega arith) (omega arith) (omega arith) h

allowed_without : (one : TypedSpecifier) (c : Counted) → are_allowed (counting one c) ≡ true → are_allowed c ≡ true
allowed_without (typed.Keyword word) c h = allowed_before word.keyword c h
allowed_without one c h = allowed_unnamed c h

pub word_passes : (at : Place) (c : Counted) → are_allowed c ≡ true → Passes (word_tests at c)
word_passes at c h = passes_one rule.Mismatch at (not (are_allowed c)) (off (are_allowed c) h)

-- Tags

here_innermost : (levels : List Level) (name : Name) (w : Tag) → tag_here levels name ≡ Some w → tag_in levels name ≡ Some w
here_innermost [] name w h = absurd (let q : None ≡ Some w = h in cc)
here_innermost (l ∷ []) name w h = h
here_innermost (l ∷ (m ∷ ls)) name w h = ap (λ (o : Option Tag). or_outer o (entry_of l.tags name)) (here_innermost (m ∷ ls) name w h)

other_here : (fits : Tag → Bool) (levels : List Level) (name : Name) → is_other_tag fits (tag_in levels name) ≡ false → (o : Option Tag) → tag_here levels name ≡ o → is_other_tag fits o ≡ false
other_here fits levels name h None q = refl
other_here fits levels name h (Some w) q = ap (is_other_tag fits) (sym (here_innermost levels name w q)) ∙ h

tag_passes : (s : Scopes) (fits : Tag → Bool) (name : Name) (at : Place) → is_other_tag fits (tag_in s.levels name) ≡ false → Passes (tag_tests s fits name at)
tag_passes s fits name at h =
    passes_and rule.Redeclared at (is_other_tag fits (tag_here s.levels name)) (broken_at rule.Mismatch at (is_other_tag fits (tag_in s.levels name)) ∷ [])
    (other_here fits s.levels name h (tag_here s.levels name) refl) (passes_one rule.Mismatch at (is_other_tag fits (tag_in s.levels name)) h)

own_tag : (which : AggregateKind) (t : TypeId) → is_tag_of which (tag.Aggregate which t) ≡ true
own_tag kind.Struct t = refl
own_tag kind.Union t = refl

tagged_fits : (T : Table) (o : Option Tag) (which : AggregateKind) (name : Identifier) (t : TypeId) (s r : Scopes) → IsTagged T o which name t s r → is_other_tag (is_tag_of which) o ≡ false
tagged_fits T None which name t s r h = refl
tagged_fits T (Some found) which name t s r h = ap (λ (w : Tag). not (is_tag_of which w)) h.0 ∙ ap not (own_tag which t)

begun_free : (T : Table) (o : Option Tag) (which : AggregateKind) (name : Option Identifier) (t : TypeId) (s r : Scopes) → BeginsAggregate T o which name t s r → is_taken_tag T s which o ≡ false
begun_free T None which name t s r h = refl
begun_free T (Some found) which name t s r h =
    ap (λ (w : Tag). is_taken_tag T s which (Some w)) h.0 ∙ (λ i. not (own_tag which t i) || is_complete_at T s t) ∙ h.1

-- Lists of specifiers

abbrev pub AreListExact : Table → tree.Specifiers → Type 0
AreListExact T xs =
    (list : TypedSpecifierList) (a b : Point) (f : Fault) → IsReadAs erased_specifier_list made_by_specifier_list (AreListed T) xs list a b → HasOwn a
    → are_allowed (counted list) ≡ true → RefusesSpecifiersAt T xs a f → ⊥

abbrev pub AreSpecifiersExact : Table → tree.Specifiers → Type 0
AreSpecifiersExact T xs =
    (t : TypedSpecifiers) (a b : Point) (f : Fault) → IsReadAs erased_specifiers made_by_specifiers (AreSpecifiers T) xs t a b → HasOwn a → RefusesSpecifiersAt T xs a f → ⊥

abbrev pub IsSpecifierExact : Table → tree.Specifier → Type 0
IsSpecifierExact T x =
    (before : Counted) (one : TypedSpecifier) (a b : Point) (f : Fault) → IsReadAs erased_specifier made_by_specifier (IsSpecifier T) x one a b → HasOwn a
    → are_allowed (counting one before) ≡ true → RefusesSpecifierAt T before x a f → ⊥

abbrev pub AreMembersExact : Table → tree.Members → Type 0
AreMembersExact T xs =
    (rows : TypedMembers) (a b : Point) (f : Fault) → IsReadAs erased_members made_by_members (AreMembers T) xs rows a b → HasOwn a → AreDistinct (member_names rows)
    → RefusesMembersAt T xs a f → ⊥

abbrev pub AreEnumeratorsExact : Table → tree.Enumerators → Type 0
AreEnumeratorsExact T xs =
    (list : TypedEnumerators) (a b : Point) (f : Fault) → IsReadAs erased_enumerators made_by_enumerators (AreEnumerators T) xs list a b → HasOwn a → RefusesEnumeratorsAt T xs a f → ⊥

some_members : (rows : TypedMembers) → is_empty (member_names rows) ≡ false → is_empty_row rows ≡ false
some_members typed.NoMember h = no_true (sym h)
some_members (typed.AndMember all specifiers declarators) h = refl

module _ (T : Table) (basic : IsBasic T) where
  abbrev D : IsDistinct T
  D = distinct T basic

  pub specifiers-exact : (xs : tree.Specifiers) → AreListExact T xs → AreSpecifiersExact T xs
  specifiers-exact xs u (typed.Specified list t) a b f h own k = u list a b f (h.0, h.1.0, h.2) own h.1.1.allowed k

  pub no-specifier-exact : AreListExact T tree.NoSpecifier
  no-specifier-exact list a b f h own allowed k = absurd k

  pub list-exact : (all : tree.Specifiers) (x : tree.Specifier) → AreListExact T all → IsSpecifierExact T x → AreListExact T (tree.AndSpecifier all x)
  list-exact all x u v list a b f h own allowed (inl k) =
      let left = is_list T D (tree.AndSpecifier all x) list a b h in
      u left.0 a left.2.0 f left.2.1 own
      (allowed_without left.1 (counted left.0) (subst (λ (z : TypedSpecifierList). are_allowed (counted z) ≡ true) left.3 allowed)) k
  list-exact all x u v list a b f h own allowed (inr k) =
      let left = is_list T D (tree.AndSpecifier all x) list a b h in
      let same = list-one T D all k.0 left.0 a k.1 a left.2.0 k.2 left.2.1 refl own in
      let refused = subst (λ (m : Point). RefusesSpecifierAt T (counted left.0) x m f) same.1 (subst (λ (z : TypedSpecifierList). RefusesSpecifierAt T (counted z) x k.1 f) same.0 k.4) in
      v (counted left.0) left.1 left.2.0 b f left.2.2 (subst HasOwn same.1 same.2) (subst (λ (z : TypedSpecifierList). are_allowed (counted z) ≡ true) left.3 allowed) refused

  pub keyword-exact : (word : Word) → IsSpecifierExact T (tree.Keyword word)
  keyword-exact word before one a b f h own allowed k =
      let left = is_specifier T D (tree.Keyword word) one a b h in
      passes-fails (word_tests word.place (counting_word word.keyword before)) f
      (word_passes word.place (counting_word word.keyword before) (subst (λ (z : TypedSpecifier). are_allowed (counting z before) ≡ true) left.0 allowed)) k

  pub typedef-exact : (name : Identifier) → IsSpecifierExact T (tree.Typedef name)
  typedef-exact name before one a b f h own allowed k =
      let left = is_specifier T D (tree.Typedef name) one a b h in
      passes-fails (word_tests name.place (one_named before)) f
      (word_passes name.place (one_named before) (subst (λ (z : TypedSpecifier). are_allowed (counting z before) ≡ true) left.3 allowed)) k

  pub tagged-exact : (which : AggregateKind) (at : Place) (name : Identifier) → IsSpecifierExact T (tree.Tagged which at name)
  tagged-exact which at name before one a b f h own allowed k =
      let left = is_specifier T D (tree.Tagged which at name) one a b h in
      passes-fails (tag_tests a.scopes (is_tag_of which) name.bytes name.place ++ word_tests at (one_named before)) f
      (passes_append (tag_tests a.scopes (is_tag_of which) name.bytes name.place) (word_tests at (one_named before))
      (tag_passes a.scopes (is_tag_of which) name.bytes name.place (tagged_fits T (tag_in a.scopes.levels name.bytes) which name left.0 a.scopes b.scopes left.1))
      (word_passes at (one_named before) (subst (λ (z : TypedSpecifier). are_allowed (counting z before) ≡ true) left.3 allowed))) k

  pub enum-exact : (at : Place) (name : Identifier) → IsSpecifierExact T (tree.Enum at name)
  enum-exact at name before one a b f h own allowed k =
      let left = is_specifier T D (tree.Enum at name) one a b h in
      let found = (subst (λ (z : TypedSpecifier). IsSpecifier T z a.scopes b.scopes) left.0 h.1).1 in
      passes-fails (enum_tests a.scopes name.bytes name.place ++ word_tests at (one_named before)) f
      (passes_append (enum_tests a.scopes name.bytes name.place) (word_tests at (one_named before))
      (passes_and rule.UnknownName name.place (lacks_enumeration (tag_in a.scopes.levels name.bytes)) (tag_tests a.scopes is_enumeration name.bytes name.place) (ap lacks_enumeration found)
      (tag_passes a.scopes is_enumeration name.bytes name.place (ap (is_other_tag is_enumeration) found)))
      (word_passes at (one_named before) (subst (λ (z : TypedSpecifier). are_allowed (counting z before) ≡ true) left.0 allowed))) k

  pub enumeration-exact : (at : Place) (name : Option Identifier) (brace : Place) (all : tree.Enumerators) (comma : Bool) → AreEnumeratorsExact T all
      → IsSpecifierExact T (tree.Enumeration at name brace all comma)
  enumeration-exact at name brace all comma u before one a b f h own allowed (inl k) =
      let left = is_specifier T D (tree.Enumeration at name brace all comma) one a b h in
      u left.0 (begun name a) (record { scopes = left.1.inside; node = b.node }) f left.1.enumerators (enumerating_own name a.scopes own) k
  enumeration-exact at name brace all comma u before one a b f h own allowed (inr k) =
      let left = is_specifier T D (tree.Enumeration at name brace all comma) one a b h in
      let inside : Point = record { scopes = left.1.inside; node = b.node } in
      let same = enumerators-one T D all k.0 left.0 (begun name a) k.1 (begun name a) inside k.2 left.1.enumerators refl (enumerating_own name a.scopes own) in
      let taken : Bool = is_taken_enumeration (tag_named_here k.1.scopes name) in
      let free : taken ≡ false = ap (λ (m : Point). is_taken_enumeration (tag_named_here m.scopes name)) same.1 ∙ left.1.ends.unfinished in
      passes-fails (enumeration_tests taken (tag_place at name) ++ word_tests at (one_named before)) f
      (passes_append (enumeration_tests taken (tag_place at name)) (word_tests at (one_named before))
      (passes_one rule.Redeclared (tag_place at name) taken free)
      (word_passes at (one_named before) (subst (λ (z : TypedSpecifier). are_allowed (counting z before) ≡ true) left.2 allowed))) k.3

  pub aggregate-exact : (which : AggregateKind) (at : Place) (name : Option Identifier) (brace : Place) (all : tree.Members) → AreMembersExact T all
      → IsSpecifierExact T (tree.Aggregate which at name brace all)
  aggregate-exact which at name brace all u before one a b f h own allowed k = by (k.2, k.3)
    where
      left : (rows : TypedMembers) × (t : TypeId) × IsWhole T D which name all rows t a b × (one ≡ typed.Aggregate which at name brace rows t)
      left = is_specifier T D (tree.Aggregate which at name brace all) one a b h

      free : is_taken_tag T a.scopes which (tag_named_here a.scopes name) ≡ false
      free = begun_free T (tag_named_here a.scopes name) which name left.1 a.scopes left.2.middle left.2.begins

      inside : Point
      inside = record { scopes = left.2.inside; node = b.node }

      Rest : TypeId → Scopes → Type 0
      Rest t m = RefusesMembersAt T all (with_scopes m a) f
          ⊎ ((row : TypedMembers) × (n : Point) × IsReadAs erased_members made_by_members (AreMembers T) all row (with_scopes m a) n
          × Fails (aggregate_tests (is_taken_tag T a.scopes which (tag_named_here a.scopes name) || is_complete_at T n.scopes t) (tag_place at name) (is_empty_row row)
          ++ word_tests at (one_named before)) f)

      allowed_here : are_allowed (one_named before) ≡ true
      allowed_here = subst (λ (z : TypedSpecifier). are_allowed (counting z before) ≡ true) left.3 allowed

      rest : HasOwnFunctions left.2.middle → RefusesMembersAt T all (with_scopes left.2.middle a) f
          ⊎ ((row : TypedMembers) × (n : Point) × IsReadAs erased_members made_by_members (AreMembers T) all row (with_scopes left.2.middle a) n
          × Fails (aggregate_tests (is_taken_tag T a.scopes which (tag_named_here a.scopes name) || is_complete_at T n.scopes left.1) (tag_place at name) (is_empty_row row)
          ++ word_tests at (one_named before)) f) → ⊥
      rest mine (inl r) = u left.0 (with_scopes left.2.middle a) inside f left.2.members mine left.2.ends.distinct r
      rest mine (inr r) =
          let same = members-one T D all r.0 left.0 (with_scopes left.2.middle a) r.1 (with_scopes left.2.middle a) inside r.2 left.2.members refl mine in
          let complete : is_complete_at T r.1.scopes left.1 ≡ false = ap (λ (m : Point). is_complete_at T m.scopes left.1) same.1 ∙ left.2.ends.unfinished in
          let empty : is_empty_row r.0 ≡ false = ap is_empty_row same.0 ∙ some_members left.0 left.2.ends.some in
          let taken : Bool = is_taken_tag T a.scopes which (tag_named_here a.scopes name) || is_complete_at T r.1.scopes left.1 in
          passes-fails (aggregate_tests taken (tag_place at name) (is_empty_row r.0) ++ word_tests at (one_named before)) f
          (passes_append (aggregate_tests taken (tag_place at name) (is_empty_row r.0)) (word_tests at (one_named before))
          (passes_and rule.Redeclared (tag_place at name) taken (broken_at rule.Mismatch (tag_place at name) (is_empty_row r.0) ∷ [])
          (or_off (is_taken_tag T a.scopes which (tag_named_here a.scopes name)) (is_complete_at T r.1.scopes left.1) free complete)
          (passes_one rule.Mismatch (tag_place at name) (is_empty_row r.0) empty))
          (word_passes at (one_named before) allowed_here)) r.3

      by : BeginsOrStays T which name k.0 a.scopes k.1 × (RefusesMembersAt T all (with_scopes k.1 a) f
          ⊎ ((row : TypedMembers) × (n : Point) × IsReadAs erased_members made_by_members (AreMembers T) all row (with_scopes k.1 a) n
          × Fails (aggregate_tests (is_taken_tag T a.scopes which (tag_named_here a.scopes name) || is_complete_at T n.scopes k.0) (tag_place at name) (is_empty_row row)
          ++ word_tests at (one_named before)) f)) → ⊥
      by (inl begins, r) =
          let same = begins_one T D which name k.0 left.1 a.scopes a.scopes k.1 left.2.middle refl own begins left.2.begins in
          rest (subst HasOwnFunctions same.1 same.2) (subst (λ (m : Scopes). Rest left.1 m) same.1 (subst (λ (t : TypeId). Rest t k.1) same.0 r))
      by (inr stays, r) = no_true (sym free ∙ stays.0)

-- Specifiers are given: words, typedefs' names and tags, one after another, and the type that they name together.
use Rattle.std.proofs.Common.{◌≡◌, ◌≤◌, ◌<◌, ℕ, Bool, true, false, not, List, [], ◌∷◌, ◌++◌, length, Option, Some, None, refl, ap, sym, subst, ◌∙◌, inl, inr, arith}
use Rattle.cc_base.specs.declared.fault.Rule.TheVariants as rule
use Rattle.cc_base.specs.declared.place.Place.{Place}
use Rattle.cc_base.specs.declared.number.TypeId.{TypeId}
use Rattle.c_types.specs.Table.{Table}
use Rattle.c_tree.specs.declared.leaf.Identifier.{Identifier}
use Rattle.c_tree.specs.declared.leaf.Word.{Word}
use Rattle.c_tree.specs.declared.operator.AggregateKind.{AggregateKind}
use Rattle.c_tree.specs.declared.operator.AggregateKind.TheVariants as kind
use Rattle.c_tree.specs.Tree as tree
use Rattle.c_tree.specs.TypedTree as typed
use Rattle.c_tree.specs.TypedTree.{TypedSpecifiers, TypedSpecifierList, TypedSpecifier}
use Rattle.c_tree.specs.TypedParts.{made_by_specifier_list, made_by_specifier}
use Rattle.c_typing.specs.declared.declared.Declared.{Declared}
use Rattle.c_typing.specs.declared.declared.Declared.TheVariants as declared
use Rattle.c_typing.specs.declared.declared.Tag.{Tag}
use Rattle.c_typing.specs.declared.declared.Tag.TheVariants as tag
use Rattle.c_typing.specs.Declarators.{Counted, counting, counting_word, counted, are_allowed}
use Rattle.c_typing.specs.Judging.{State, Gives, next, ◌>>=◌, pure, by_known}
use Rattle.c_typing.specs.Refusals.{one_named}
use Rattle.c_typing.specs.Scopes.{Name, Level, Scopes, name_in, tag_in, tag_here, or_outer, entry_of}
use Rattle.c_typing.specs.Settled.{IsBasic}
use Rattle.c_typing.specs.Specifying.{word, typedef_named, typedef_name, enum_tag, tagged, tagged_as, tagged_by, new_aggregate}
use Rattle.c_typing.specs.Tests.{first_broken, broken_at, word_tests, tag_tests, enum_tests, is_other_tag, is_tag_of, is_enumeration, lacks_enumeration}
use Rattle.c_typing.specs.Typing.{IsSpecifier}
use Rattle.c_typing.specs.Walks.{judge_list, judge_specifier}
use Rattle.c_typing_laws.proofs.KnownScopes.{tag-there}
use Rattle.c_typing_unique.specs.Points.{Point}
use Rattle.c_typing_unique.proofs.Reading.{point-same}
use Rattle.c_typing_unique.proofs.SpecifierSteps.{AreListRead, IsSpecifierRead, is_list, is_specifier}
use Rattle.c_typing_exact.proofs.SameParts.{distinct}
use Rattle.c_typing_exact.proofs.SpecifierExact.{word_passes}
use Rattle.c_typing_exact.proofs.Unbroken.{passes_one, passes_and, passes_append}
use Rattle.c_typing_exact.specs.Passing.{Passes}
use Rattle.c_typing_given.specs.Given.{point_at, IsHere, IsGivenAs}
use Rattle.c_unit_typing.specs.Holding.{specifiers_holds, specifier_holds}
use Rattle.c_typing_given.specs.Spending.{HasRoom}
use Rattle.c_type_order.specs.TypesUsed.{IsUse, AreUses, used_by_specifier_list, used_by_specifier}
use Rattle.c_typing_given.proofs.AllowedWords.{allowed-without}
use Rattle.c_typing_given.proofs.CallsGiven.{reached-none}
use Rattle.c_typing_given.proofs.Constructing.{reached-both, uses-at, max-left, max-right}
use Rattle.c_typing_given.proofs.Spent.{room-first, room-then}
use Rattle.c_typing_given.proofs.Steps.{then-is, obeying-is}
use Rattle.c_typing_given.proofs.ValuesGiven.{uses-first}

judges_none : (s : State) → judge_list tree.NoSpecifier s ≡ Gives typed.NoSpecifier s
unfolding judge_list
judges_none s = refl

judges_more : (all : tree.Specifiers) (x : tree.Specifier) (list : TypedSpecifierList) (one : TypedSpecifier) (s k r : State) → judge_list all s ≡ Gives list k
    → judge_specifier (counted list) x k ≡ Gives one r → judge_list (tree.AndSpecifier all x) s ≡ Gives (typed.AndSpecifier list one) r
unfolding judge_list
judges_more all x list one s k r h g =
    then-is (judge_list all) (λ l. judge_specifier (counted l) x >>= (λ o. pure (typed.AndSpecifier l o))) list s k (Gives (typed.AndSpecifier list one) r) h
    (then-is (judge_specifier (counted list) x) (λ o. pure (typed.AndSpecifier list o)) one k r (Gives (typed.AndSpecifier list one) r) g refl)

judges_word : (before : Counted) (w : Word) (s : State) → first_broken (word_tests w.place (counting_word w.keyword before)) ≡ None
    → judge_specifier before (tree.Keyword w) s ≡ Gives (typed.Keyword w) s
unfolding judge_specifier word
judges_word before w s pass = obeying-is (λ (q : State). word_tests w.place (counting_word w.keyword before)) (pure (typed.Keyword w)) s (Gives (typed.Keyword w) s) pass refl

judges_typedef : (before : Counted) (name : Identifier) (t : TypeId) (s : State) → first_broken (word_tests name.place (one_named before)) ≡ None
    → name_in s.seen.scopes.levels name.bytes ≡ Some (declared.Typedef t) → judge_specifier before (tree.Typedef name) s ≡ Gives (typed.Typedef name t) s
unfolding judge_specifier typedef_name typedef_named
judges_typedef before name t s pass h =
    obeying-is (λ (q : State). word_tests name.place (one_named before)) (by_known (λ (q : State). typedef_named name (name_in q.seen.scopes.levels name.bytes))) s (Gives (typed.Typedef name t) s) pass
    (ap (λ (o : Option Declared). typedef_named name o s) h)

-- Tags

here_innermost : (levels : List Level) (name : Name) (w : Tag) → tag_here levels name ≡ Some w → tag_in levels name ≡ Some w
here_innermost [] name w h = absurd (let q : None ≡ Some w = h in cc)
here_innermost (l ∷ []) name w h = h
here_innermost (l ∷ (m ∷ ls)) name w h = ap (λ (o : Option Tag). or_outer o (entry_of l.tags name)) (here_innermost (m ∷ ls) name w h)

other_here : (fits : Tag → Bool) (levels : List Level) (name : Name) → is_other_tag fits (tag_in levels name) ≡ false → (o : Option Tag) → tag_here levels name ≡ o → is_other_tag fits o ≡ false
other_here fits levels name h None q = refl
other_here fits levels name h (Some w) q = ap (is_other_tag fits) (sym (here_innermost levels name w q)) ∙ h

pub tag-passes : (s : Scopes) (fits : Tag → Bool) (name : Name) (at : Place) → is_other_tag fits (tag_in s.levels name) ≡ false → Passes (tag_tests s fits name at)
tag-passes s fits name at h =
    passes_and rule.Redeclared at (is_other_tag fits (tag_here s.levels name)) (broken_at rule.Mismatch at (is_other_tag fits (tag_in s.levels name)) ∷ [])
    (other_here fits s.levels name h (tag_here s.levels name) refl) (passes_one rule.Mismatch at (is_other_tag fits (tag_in s.levels name)) h)

pub own-tag : (which : AggregateKind) (t : TypeId) → is_tag_of which (tag.Aggregate which t) ≡ true
own-tag kind.Struct t = refl
own-tag kind.Union t = refl

judges_enum : (before : Counted) (at : Place) (name : Identifier) (s : State) → first_broken (enum_tests s.seen.scopes name.bytes name.place ++ word_tests at (one_named before)) ≡ None
    → judge_specifier before (tree.Enum at name) s ≡ Gives (typed.Enum at name) s
unfolding judge_specifier enum_tag
judges_enum before at name s pass =
    obeying-is (λ (q : State). enum_tests q.seen.scopes name.bytes name.place ++ word_tests at (one_named before)) (pure (typed.Enum at name)) s (Gives (typed.Enum at name) s) pass refl

pub judges-tagged : (before : Counted) (which : AggregateKind) (at : Place) (name : Identifier) (t : TypeId) (s r : State)
    → first_broken (tag_tests s.seen.scopes (is_tag_of which) name.bytes name.place ++ word_tests at (one_named before)) ≡ None
    → tagged_as which name (tag_in s.seen.scopes.levels name.bytes) s ≡ Gives t r → judge_specifier before (tree.Tagged which at name) s ≡ Gives (typed.Tagged which at name t) r
unfolding judge_specifier tagged tagged_by
judges-tagged before which at name t s r pass h =
    obeying-is (λ (q : State). tag_tests q.seen.scopes (is_tag_of which) name.bytes name.place ++ word_tests at (one_named before))
    (λ (q : State). next (tagged_as which name (tag_in q.seen.scopes.levels name.bytes) q) (λ u. pure (typed.Tagged which at name u))) s (Gives (typed.Tagged which at name t) r) pass
    (then-is (λ (q : State). tagged_as which name (tag_in q.seen.scopes.levels name.bytes) q) (λ u. pure (typed.Tagged which at name u)) t s r (Gives (typed.Tagged which at name t) r) h refl)

pub tagged-found : (which : AggregateKind) (name : Identifier) (t : TypeId) (s : State) → tagged_as which name (Some (tag.Aggregate which t)) s ≡ Gives t s
unfolding tagged_as
tagged-found which name t s = refl

pub tagged-new : (which : AggregateKind) (name : Identifier) (s : State) → tagged_as which name None s ≡ new_aggregate which name.place (Some name) s
unfolding tagged_as
tagged-new which name s = refl

module _ (T : Table) (basic : IsBasic T) where
  abbrev pub AreListGiven : tree.Specifiers → Type 0
  AreListGiven xs =
      (list : TypedSpecifierList) (s : State) (b : Point) (count : ℕ) → IsHere T s → AreListRead T (distinct T basic) xs list (point_at s) b → are_allowed (counted list) ≡ true
      → AreUses (used_by_specifier_list T list) (length s.table) count → HasRoom T (made_by_specifier_list list) s → specifiers_holds xs ≤ 256
      → IsGivenAs T (made_by_specifier_list list) (judge_list xs s) list s b count

  abbrev pub IsSpecifierGiven : tree.Specifier → Type 0
  IsSpecifierGiven x =
      (before : Counted) (one : TypedSpecifier) (s : State) (b : Point) (count : ℕ) → IsHere T s → IsSpecifierRead T (distinct T basic) x one (point_at s) b
      → are_allowed (counting one before) ≡ true → AreUses (used_by_specifier T one) (length s.table) count → HasRoom T (made_by_specifier one) s → specifier_holds x ≤ 256
      → IsGivenAs T (made_by_specifier one) (judge_specifier before x s) one s b count

  pub no-specifier-given : AreListGiven tree.NoSpecifier
  no-specifier-given list s b count here h allowed uses room holds =
      let i = is_list T (distinct T basic) tree.NoSpecifier list (point_at s) b h in
      subst (λ (y : TypedSpecifierList). IsGivenAs T (made_by_specifier_list y) (judge_list tree.NoSpecifier s) y s b count) (sym i.0)
      (record { after = s; gives = judges_none s; reached = reached-none T basic s b count here i.1 (subst (λ (y : TypedSpecifierList). AreUses (used_by_specifier_list T y) (length s.table) count) i.0 uses) })

  pub list-given : (all : tree.Specifiers) (x : tree.Specifier) → AreListGiven all → IsSpecifierGiven x → AreListGiven (tree.AndSpecifier all x)
  list-given all x gs gx list s b count here h allowed uses room holds =
      let i = is_list T (distinct T basic) (tree.AndSpecifier all x) list (point_at s) b h in
      let us =
      uses-first (used_by_specifier_list T i.0) (used_by_specifier T i.1) (length s.table) count
      (subst (λ (y : TypedSpecifierList). AreUses (used_by_specifier_list T y) (length s.table) count) i.3 uses) in
      let rm = subst (λ (y : TypedSpecifierList). HasRoom T (made_by_specifier_list y) s) i.3 room in
      let ok : are_allowed (counting i.1 (counted i.0)) ≡ true = subst (λ (y : TypedSpecifierList). are_allowed (counted y) ≡ true) i.3 allowed in
      let g =
      gs i.0 s i.2.0 us.0 here i.2.1 (allowed-without i.1 (counted i.0) ok) us.1 (room-first T (made_by_specifier_list i.0) (made_by_specifier i.1) s rm)
      (max-left (specifiers_holds all) (specifier_holds x) 256 holds) in
      let read : IsSpecifierRead T (distinct T basic) x i.1 (point_at g.after) b = subst (λ (a : Point). IsSpecifierRead T (distinct T basic) x i.1 a b) (sym g.reached.point) i.2.2 in
      let d =
      gx (counted i.0) i.1 g.after b count g.reached.here read ok (uses-at T basic (used_by_specifier T i.1) (made_by_specifier_list i.0) s g.after i.2.0 us.0 count g.reached us.2)
      (room-then T (made_by_specifier_list i.0) (made_by_specifier i.1) s g.after rm g.reached.way.spent) (max-right (specifiers_holds all) (specifier_holds x) 256 holds) in
      subst (λ (y : TypedSpecifierList). IsGivenAs T (made_by_specifier_list y) (judge_list (tree.AndSpecifier all x) s) y s b count) (sym i.3)
      (record {
        after = d.after;
        gives = judges_more all x i.0 i.1 s g.after d.after g.gives d.gives;
        reached = reached-both T basic (made_by_specifier_list i.0) (made_by_specifier i.1) s g.after d.after i.2.0 b us.0 count g.reached d.reached;
      })

  pub keyword-given : (w : Word) → IsSpecifierGiven (tree.Keyword w)
  keyword-given w before one s b count here h allowed uses room holds =
      let i = is_specifier T (distinct T basic) (tree.Keyword w) one (point_at s) b h in
      let ok = subst (λ (y : TypedSpecifier). are_allowed (counting y before) ≡ true) i.0 allowed in
      subst (λ (y : TypedSpecifier). IsGivenAs T (made_by_specifier y) (judge_specifier before (tree.Keyword w) s) y s b count) (sym i.0)
      (record {
        after = s;
        gives = judges_word before w s (word_passes w.place (counting_word w.keyword before) ok);
        reached = reached-none T basic s b count here i.1 (subst (λ (y : TypedSpecifier). AreUses (used_by_specifier T y) (length s.table) count) i.0 uses);
      })

  pub typedef-given : (name : Identifier) → IsSpecifierGiven (tree.Typedef name)
  typedef-given name before one s b count here h allowed uses room holds =
      let i = is_specifier T (distinct T basic) (tree.Typedef name) one (point_at s) b h in
      let ok = subst (λ (y : TypedSpecifier). are_allowed (counting y before) ≡ true) i.3 allowed in
      subst (λ (y : TypedSpecifier). IsGivenAs T (made_by_specifier y) (judge_specifier before (tree.Typedef name) s) y s b count) (sym i.3)
      (record {
        after = s;
        gives = judges_typedef before name i.0 s (word_passes name.place (one_named before) ok) i.1;
        reached = reached-none T basic s b count here i.2 (subst (λ (y : TypedSpecifier). AreUses (used_by_specifier T y) (length s.table) count) i.3 uses);
      })

  pub enum-given : (at : Place) (name : Identifier) → IsSpecifierGiven (tree.Enum at name)
  enum-given at name before one s b count here h allowed uses room holds =
      let i = is_specifier T (distinct T basic) (tree.Enum at name) one (point_at s) b h in
      let ok = subst (λ (y : TypedSpecifier). are_allowed (counting y before) ≡ true) i.0 allowed in
      let known : tag_in s.seen.scopes.levels name.bytes ≡ Some tag.Enumeration =
      (subst (λ (y : TypedSpecifier). IsSpecifier T y s.seen.scopes b.scopes) i.0 h.1).1 in
      let pass =
      passes_append (enum_tests s.seen.scopes name.bytes name.place) (word_tests at (one_named before))
      (passes_and rule.UnknownName name.place (lacks_enumeration (tag_in s.seen.scopes.levels name.bytes)) (tag_tests s.seen.scopes is_enumeration name.bytes name.place) (ap lacks_enumeration known)
      (tag-passes s.seen.scopes is_enumeration name.bytes name.place (ap (is_other_tag is_enumeration) known)))
      (word_passes at (one_named before) ok) in
      subst (λ (y : TypedSpecifier). IsGivenAs T (made_by_specifier y) (judge_specifier before (tree.Enum at name) s) y s b count) (sym i.0)
      (record {
        after = s;
        gives = judges_enum before at name s pass;
        reached = reached-none T basic s b count here i.1 (subst (λ (y : TypedSpecifier). AreUses (used_by_specifier T y) (length s.table) count) i.0 uses);
      })

  -- `struct S` where the tag is seen
  pub tagged-seen : (which : AggregateKind) (at : Place) (name : Identifier) (before : Counted) (t : TypeId) (s : State) (b : Point) (count : ℕ) → IsHere T s
      → tag_in s.seen.scopes.levels name.bytes ≡ Some (tag.Aggregate which t) → b.scopes ≡ s.seen.scopes → b.node ≡ s.seen.node → are_allowed (one_named before) ≡ true
      → IsUse t (length s.table) count → IsGivenAs T [] (judge_specifier before (tree.Tagged which at name) s) (typed.Tagged which at name t) s b count
  tagged-seen which at name before t s b count here known same node ok used =
      let there = (tag-there s.table s.seen.scopes.levels here.known.levels name.bytes (tag.Aggregate which t) known).1.0 in
      let pass =
      passes_append (tag_tests s.seen.scopes (is_tag_of which) name.bytes name.place) (word_tests at (one_named before))
      (tag-passes s.seen.scopes (is_tag_of which) name.bytes name.place (ap (is_other_tag (is_tag_of which)) known ∙ ap not (own-tag which t))) (word_passes at (one_named before) ok) in
      record {
        after = s;
        gives = judges-tagged before which at name t s s pass (ap (λ (o : Option Tag). tagged_as which name o s) known ∙ tagged-found which name t s);
        reached = reached-none T basic s b count here (point-same b (point_at s) same node) (old used there);
      }
    where
      old : IsUse t (length s.table) count → t.0 < length s.table → count ≡ length s.table
      old (inl u) l = u.1
      old (inr u) l = let q = u.0 in absurd (omega (arith, q, l))

-- What judging gives for one specifier: words, names of types, tags, structs and unions, and enumerations.
use Rattle.std.proofs.Common.{◌≡◌, ℤ, Bool, true, false, not, ◌||◌, List, ◌++◌, Option, Some, None, refl, ap, sym, subst, ◌∙◌, true≢false, ◌<◌, length, if◌then◌else◌}
use Rattle.std.specs.List.{All}
use Rattle.std.proofs.lemmas.Option.{none-some}
use Rattle.cc_base.specs.declared.place.Place.{Place}
use Rattle.cc_base.specs.declared.number.TypeId.{TypeId}
use Rattle.cc_base.specs.declared.fault.Fault.{Fault}
use Rattle.cc_base.specs.declared.fault.Fault.TheVariants.{Refused, TooLarge}
use Rattle.cc_base.specs.declared.fault.Limit.TheVariants.{Types}
use Rattle.cc_base.specs.declared.fault.Rule.TheVariants as rule
use Rattle.c_types.specs.declared.shape.TypeShape.{TypeShape}
use Rattle.c_types.specs.declared.shape.TypeShape.TheVariants.{Void, Integer, Pointer, Array, Function, Struct, Union}
use Rattle.c_types.specs.Table.{Table, IsType, entry_at, shape_at, is_complete, is_empty}
use Rattle.c_tree.specs.declared.leaf.Identifier.{Identifier}
use Rattle.c_tree.specs.declared.leaf.Word.{Word}
use Rattle.c_tree.specs.declared.operator.AggregateKind.{AggregateKind}
use Rattle.c_tree.specs.declared.operator.AggregateKind.TheVariants as kind
use Rattle.c_tree.specs.Erasure.{erased_members}
use Rattle.c_tree.specs.Tree as tree
use Rattle.c_tree.specs.TypedTree as typed
use Rattle.c_tree.specs.TypedTree.{TypedExpr, TypedSpecifier, TypedMembers, TypedEnumerators}
use Rattle.integers.specs.Arithmetic.{int, converted}
use Rattle.c_typing.specs.Constants.{constant_value}
use Rattle.c_typing.specs.Conversions.{is_plain, is_droppable}
use Rattle.c_typing.specs.Operands.{Value}
use Rattle.c_typing.specs.declared.declared.Declared.{Declared}
use Rattle.c_typing.specs.declared.declared.Declared.TheVariants as declared
use Rattle.c_typing.specs.declared.declared.Tag.{Tag}
use Rattle.c_typing.specs.declared.declared.Tag.TheVariants as tag
use Rattle.c_typing.specs.Declarators.{Counted, counting_word, are_allowed, member_names}
use Rattle.c_typing.specs.Judging.{State, Gives, next, pure, by_known}
use Rattle.c_typing.specs.Refusals.{one_named, tag_place, is_empty_row}
use Rattle.c_typing.specs.Scopes.{Name, Scopes, name_in, tag_in, here, tag_here, declaring, members_named, is_complete_shape_at, is_complete_at, with_scopes}
use Rattle.c_typing.specs.Settled.{IsTagThere, IsLevelThere, IsKnown, GoesOn, IsSpecifierJudged, IsBegun, AreEnumeratorsJudged, IsValueOf}
use Rattle.c_typing.specs.Specifying
use Rattle.c_typing.specs.Specifying.{in_scopes, typedef_named, tagged_as, tagged_by, begun_as, begun, ended, enum_tag, enumeration_begun, enumeration, enumerator, enumerator_with, valued_enumerator, new_aggregate, completed}
use Rattle.c_typing.specs.Tests
use Rattle.c_typing.specs.Tests.{is_tag_of, is_other_tag, is_enumeration, lacks_enumeration, is_taken_tag, has_some, first_broken}
use Rattle.c_typing.specs.Typing.{IsTagged, BeginsAggregate, AreMembers, AreDistinct, IsNewEnumerator, tag_named_here, tagging, enumerating, enumerated, is_taken_enumeration, next_value, last_value}
use Rattle.c_typing_laws.proofs.ConstructLaws.{one_unbroken, two_unbroken, three_unbroken, or_left, or_right}
use Rattle.c_typing_laws.proofs.ExtensionLaws.{no_true, still_in, extended_refl}
use Rattle.c_typing_laws.proofs.KeptTrees.{members-kept, enumerators-kept}
use Rattle.c_typing_laws.proofs.KeptDeclarators.{begins-kept}
use Rattle.c_typing_laws.proofs.KnownMembers.{completed-judged}
use Rattle.c_typing_laws.proofs.KnownScopes.{typedef-there, tag-there, tag_here-there, tagged-there, tag_set-there, declared-there}
use Rattle.c_typing_laws.proofs.KnownStates.{stays, goes-on}
use Rattle.c_typing_laws.proofs.KnownTags.{new_aggregate-judged}
use Rattle.c_typing_laws.proofs.Outcomes.{bind-gives, unless-gives, gives-value, gives-state, never-gives}

not_false : (b : Bool) → not b ≡ false → b ≡ true
not_false true h = refl
not_false false h = no_true (sym h)

-- the first of several rules, and the others
one_of : (b : Bool) (f : Fault) (rest : Option Fault) → (if b then Some f else rest) ≡ None → (b ≡ false) × (rest ≡ None)
one_of true f rest h = absurd (none-some f (sym h))
one_of false f rest h = (refl, h)

members_complete : (c d : Scopes) → d.members ≡ c.members → (w : Bool) (x : TypeShape) → is_complete_shape_at d w x ≡ is_complete_shape_at c w x
members_complete c d same w (Struct n) = ap (λ (ms : List (List Name)). not (is_empty (members_named (record c { members = ms }) n))) same
members_complete c d same w (Union n) = ap (λ (ms : List (List Name)). not (is_empty (members_named (record c { members = ms }) n))) same
members_complete c d same w Void = refl
members_complete c d same w (Integer bytes signed) = refl
members_complete c d same w (Pointer m t) = refl
members_complete c d same w (Array t m) = refl
members_complete c d same w (Function ps u) = refl

some_same : {A : Type 0} (a b : A) → Some a ≡ Some b → a ≡ b
some_same a b h = cc

-- Words

pub word-judged : (counts : Counted) (w : Word) (one : TypedSpecifier) (s r : State) → IsKnown s → Specifying.word counts w s ≡ Gives one r
    → IsSpecifierJudged counts (tree.Keyword w) one s.seen.scopes s r
unfolding Specifying.word
word-judged counts w one s r k h =
    let go = unless-gives (first_broken (Tests.word_tests w.place (counting_word w.keyword counts))) (pure (typed.Keyword w)) s one r h in
    let allowed = not_false (are_allowed (counting_word w.keyword counts)) (one_unbroken (not (are_allowed (counting_word w.keyword counts))) (Refused w.place rule.Mismatch) go.0) in
    subst (λ (v : TypedSpecifier). IsSpecifierJudged counts (tree.Keyword w) v s.seen.scopes s r) (gives-value (typed.Keyword w) one s r go.1)
    (subst (λ (q : State). IsSpecifierJudged counts (tree.Keyword w) (typed.Keyword w) s.seen.scopes s q) (gives-state (typed.Keyword w) one s r go.1)
    (record { typed = refl; erases = refl; allowed = allowed; there = λ n h. h; goes = (stays s k).goes }))

-- Names of types

module _ (counts : Counted) (name : Identifier) (one : TypedSpecifier) (s r : State) (k : IsKnown s) (allowed : are_allowed (one_named counts) ≡ true) where
  typedef_by : (o : Option Declared) → name_in s.seen.scopes.levels name.bytes ≡ o → typedef_named name o s ≡ Gives one r
      → IsSpecifierJudged counts (tree.Typedef name) one s.seen.scopes s r
  unfolding typedef_named
  typedef_by (Some (declared.Typedef t)) q h =
      let there = typedef-there s k name.bytes t q in
      subst (λ (v : TypedSpecifier). IsSpecifierJudged counts (tree.Typedef name) v s.seen.scopes s r) (gives-value (typed.Typedef name t) one s r h)
      (subst (λ (v : State). IsSpecifierJudged counts (tree.Typedef name) (typed.Typedef name t) s.seen.scopes s v) (gives-state (typed.Typedef name t) one s r h)
      (record { typed = (refl, q); erases = refl; allowed = allowed; there = λ n u. there; goes = (stays s k).goes }))
  typedef_by (Some (declared.Object t home)) q h = never-gives one (TooLarge name.place Types) s r h
  typedef_by (Some (declared.Function t)) q h = never-gives one (TooLarge name.place Types) s r h
  typedef_by (Some (declared.Enumerator n)) q h = never-gives one (TooLarge name.place Types) s r h
  typedef_by None q h = never-gives one (TooLarge name.place Types) s r h

pub typedef-judged : (counts : Counted) (name : Identifier) (one : TypedSpecifier) (s r : State) → IsKnown s → Specifying.typedef_name counts name s ≡ Gives one r
    → IsSpecifierJudged counts (tree.Typedef name) one s.seen.scopes s r
unfolding Specifying.typedef_name
typedef-judged counts name one s r k h =
    let go = unless-gives (first_broken (Tests.word_tests name.place (one_named counts)))
    (by_known (λ (q : State). typedef_named name (name_in q.seen.scopes.levels name.bytes))) s one r h in
    let allowed = not_false (are_allowed (one_named counts)) (one_unbroken (not (are_allowed (one_named counts))) (Refused name.place rule.Mismatch) go.0) in
    typedef_by counts name one s r k allowed (name_in s.seen.scopes.levels name.bytes) refl go.1

-- Tags

tag_kind : (which other : AggregateKind) (t : TypeId) → is_tag_of which (tag.Aggregate other t) ≡ true → tag.Aggregate other t ≡ tag.Aggregate which t
tag_kind kind.Struct kind.Struct t h = refl
tag_kind kind.Union kind.Union t h = refl
tag_kind kind.Struct kind.Union t h = no_true h
tag_kind kind.Union kind.Struct t h = no_true h

-- by what its tag stands for, among the scopes that were looked through
pub tagged_as-judged : (which : AggregateKind) (name : Identifier) (t : TypeId) (s m : State) (o : Option Tag) → IsKnown s
    → ((what : Tag) → o ≡ Some what → IsTagThere s.table what) → is_other_tag (is_tag_of which) o ≡ false → tagged_as which name o s ≡ Gives t m
    → IsTagged m.table o which name t s.seen.scopes m.seen.scopes × IsType m.table t × GoesOn s m
unfolding tagged_as
tagged_as-judged which name t s m None k there fits h =
    let made = new_aggregate-judged which name.place (Some name) t s m k h in
    (made.declared, made.declared.shape.0, made.goes)
tagged_as-judged which name t s m (Some (tag.Aggregate other u)) k there fits h =
    let is_one = tag_kind which other u (not_false (is_tag_of which (tag.Aggregate other u)) fits) in
    let P : TypeId → State → Type 0 = λ v p. IsTagged p.table (Some (tag.Aggregate other u)) which name v s.seen.scopes p.seen.scopes × IsType p.table v × GoesOn s p in
    subst (λ (v : TypeId). P v m) (gives-value u t s m h) (subst (P u) (gives-state u t s m h) (
      (is_one, refl),
      (there (tag.Aggregate other u) refl).1.0,
      (stays s k).goes,
    ))
tagged_as-judged which name t s m (Some tag.Enumeration) k there fits h = never-gives t (TooLarge name.place Types) s m h
tagged_as-judged which name t s m (Some tag.Enumerating) k there fits h = never-gives t (TooLarge name.place Types) s m h

module _ (counts : Counted) (which : AggregateKind) (at : Place) (name : Identifier) (one : TypedSpecifier) (s r : State) (k : IsKnown s)
    (allowed : are_allowed (one_named counts) ≡ true) where
  pub tagged_by-judged : is_other_tag (is_tag_of which) (tag_in s.seen.scopes.levels name.bytes) ≡ false
      → tagged_by which at name (λ (q : State). tag_in q.seen.scopes.levels name.bytes) s ≡ Gives one r
      → IsSpecifierJudged counts (tree.Tagged which at name) one s.seen.scopes s r
  unfolding tagged_by
  tagged_by-judged fits h =
      let two = bind-gives (tagged_as which name (tag_in s.seen.scopes.levels name.bytes) s) (λ t. pure (typed.Tagged which at name t)) one r h in
      let made = tagged_as-judged which name two.0 s two.1 (tag_in s.seen.scopes.levels name.bytes) k
      (λ what q. tag-there s.table s.seen.scopes.levels k.levels name.bytes what q) fits two.2 in
      let part : TypedSpecifier = typed.Tagged which at name two.0 in
      subst (λ (v : TypedSpecifier). IsSpecifierJudged counts (tree.Tagged which at name) v s.seen.scopes s r) (gives-value part one two.1 r two.3)
      (subst (λ (v : State). IsSpecifierJudged counts (tree.Tagged which at name) part s.seen.scopes s v) (gives-state part one two.1 r two.3)
      (record { typed = made.0; erases = refl; allowed = allowed; there = λ n u. made.1; goes = made.2 }))

pub tagged-judged : (counts : Counted) (which : AggregateKind) (at : Place) (name : Identifier) (one : TypedSpecifier) (s r : State) → IsKnown s
    → Specifying.tagged counts which at name s ≡ Gives one r → IsSpecifierJudged counts (tree.Tagged which at name) one s.seen.scopes s r
unfolding Specifying.tagged
tagged-judged counts which at name one s r k h =
    let go = unless-gives
    (first_broken (Tests.tag_tests s.seen.scopes (is_tag_of which) name.bytes name.place ++ Tests.word_tests at (one_named counts)))
    (tagged_by which at name (λ (q : State). tag_in q.seen.scopes.levels name.bytes)) s one r h in
    let three = three_unbroken (is_other_tag (is_tag_of which) (tag_here s.seen.scopes.levels name.bytes))
    (is_other_tag (is_tag_of which) (tag_in s.seen.scopes.levels name.bytes)) (not (are_allowed (one_named counts)))
    (Refused name.place rule.Redeclared) (Refused name.place rule.Mismatch) (Refused at rule.Mismatch) go.0 in
    tagged_by-judged counts which at name one s r k (not_false (are_allowed (one_named counts)) three.2) three.1 go.1

-- Structs and unions with members

pub named_here-there : (T : Table) (c : Scopes) (name : Option Identifier) (what : Tag) → All (IsLevelThere T) c.levels → tag_named_here c name ≡ Some what → IsTagThere T what
named_here-there T c None what h q = absurd (none-some what q)
named_here-there T c (Some name) what h q = tag_here-there T c.levels h name.bytes what q

module _ (which : AggregateKind) (at : Place) (name : Option Identifier) (o : Option TypeId) (s m : State) (k : IsKnown s) where
  none_begun : Gives None s ≡ Gives o m → IsBegun which name s o m
  none_begun h = subst (λ (v : Option TypeId). IsBegun which name s v m) (gives-value None o s m h)
      (subst (λ (q : State). IsBegun which name s None q) (gives-state None o s m h) (stays s k).goes)

  begun_by : (taken : Bool) (found : Option Tag) → tag_named_here s.seen.scopes name ≡ found → is_taken_tag s.table s.seen.scopes which found ≡ taken
      → begun_as which (tag_place at name) name found taken s ≡ Gives o m → IsBegun which name s o m
  unfolding begun_as
  begun_by true found q u h = none_begun h
  begun_by false (Some (tag.Aggregate other t)) q u h =
      let not_other = not_false (is_tag_of which (tag.Aggregate other t))
      (or_left (not (is_tag_of which (tag.Aggregate other t))) (is_complete_at s.table s.seen.scopes t) u) in
      let unfinished = or_right (not (is_tag_of which (tag.Aggregate other t))) (is_complete_at s.table s.seen.scopes t) u in
      let there = named_here-there s.table s.seen.scopes name (tag.Aggregate other t) k.levels q in
      subst (λ (v : Option TypeId). IsBegun which name s v m) (gives-value (Some t) o s m h)
      (subst (λ (p : State). IsBegun which name s (Some t) p) (gives-state (Some t) o s m h) (
        subst (λ (v : Option Tag). BeginsAggregate s.table v which name t s.seen.scopes s.seen.scopes) (sym q) (tag_kind which other t not_other, unfinished, refl),
        there.1.0,
        (stays s k).goes,
      ))
  begun_by false (Some tag.Enumeration) q u h = none_begun h
  begun_by false (Some tag.Enumerating) q u h = none_begun h
  begun_by false None q u h =
      let two = bind-gives (new_aggregate which (tag_place at name) name s) (λ t. pure (Some t)) o m h in
      let made = new_aggregate-judged which (tag_place at name) name two.0 s two.1 k two.2 in
      subst (λ (v : Option TypeId). IsBegun which name s v m) (gives-value (Some two.0) o two.1 m two.3)
      (subst (λ (p : State). IsBegun which name s (Some two.0) p) (gives-state (Some two.0) o two.1 m two.3) (
        subst (λ (v : Option Tag). BeginsAggregate two.1.table v which name two.0 s.seen.scopes two.1.seen.scopes) (sym q) made.declared,
        made.declared.shape.0,
        made.goes,
      ))

  pub begun-judged : begun which at name s ≡ Gives o m → IsBegun which name s o m
  unfolding begun
  begun-judged h =
      begun_by (is_taken_tag s.table s.seen.scopes which (tag_named_here s.seen.scopes name)) (tag_named_here s.seen.scopes name) refl refl h

-- s0 stands before it, m behind its brace, and s behind its members
module _ (counts : Counted) (which : AggregateKind) (at : Place) (name : Option Identifier) (brace : Place) (all : tree.Members) (members : TypedMembers)
    (one : TypedSpecifier) (s0 m s r : State) (k : IsKnown s) (goes : GoesOn m s) (rows : AreMembers s.table members m.seen.scopes s.seen.scopes)
    (distinct : AreDistinct (member_names members)) (erases : erased_members members ≡ all) where
  pub ended_by : (o : Option TypeId) → IsBegun which name s0 o m → ended counts which at name brace o members s ≡ Gives one r
      → IsSpecifierJudged counts (tree.Aggregate which at name brace all) one s0.seen.scopes s0 r
  unfolding ended
  ended_by None b h = never-gives one (Refused (tag_place at name) rule.Redeclared) s r h
  ended_by (Some t) b h =
      let go = unless-gives
      (first_broken (Tests.aggregate_tests (is_complete_at s.table s.seen.scopes t) (tag_place at name) (is_empty_row members) ++ Tests.word_tests at (one_named counts)))
      (λ (q : State). next (completed (tag_place at name) members (Some t) q) (λ u. pure (typed.Aggregate which at name brace members u))) s one r h in
      let three = three_unbroken (is_complete_at s.table s.seen.scopes t) (is_empty_row members) (not (are_allowed (one_named counts)))
      (Refused (tag_place at name) rule.Redeclared) (Refused (tag_place at name) rule.Mismatch) (Refused at rule.Mismatch) go.0 in
      let two = bind-gives (completed (tag_place at name) members (Some t) s) (λ u. pure (typed.Aggregate which at name brace members u)) one r go.1 in
      let made = completed-judged (tag_place at name) members t two.0 s two.1 k distinct three.0 two.2 in
      let whole = goes-on m s two.1 goes made.1.goes in
      let basic = b.2.known.basic in
      let part : TypedSpecifier = typed.Aggregate which at name brace members t in
      let there : IsType two.1.table t = still_in m.table two.1.table whole.extends t b.1 in
      let same : part ≡ one = ap (λ (u : TypeId). typed.Aggregate which at name brace members u) (sym made.0)
      ∙ gives-value (typed.Aggregate which at name brace members two.0) one two.1 r two.3 in
      subst (λ (v : TypedSpecifier). IsSpecifierJudged counts (tree.Aggregate which at name brace all) v s0.seen.scopes s0 r) same
      (subst (λ (v : State). IsSpecifierJudged counts (tree.Aggregate which at name brace all) part s0.seen.scopes s0 v)
      (gives-state (typed.Aggregate which at name brace members two.0) one two.1 r two.3)
      (record {
        typed = (
          m.seen.scopes,
          s.seen.scopes,
          begins-kept m.table two.1.table whole.extends basic (tag_named_here s0.seen.scopes name) which name t s0.seen.scopes m.seen.scopes b.1 b.0,
          members-kept s.table two.1.table made.1.goes.extends k.basic members m.seen.scopes s.seen.scopes rows,
          made.1.ends,
        );
        erases = ap (tree.Aggregate which at name brace) erases;
        allowed = not_false (are_allowed (one_named counts)) three.2;
        there = λ n u. there;
        goes = goes-on s0 m two.1 b.2 whole;
      }))

-- Enumerations

is_enumerated : (o : Option Tag) → lacks_enumeration o ≡ false → is_other_tag is_enumeration o ≡ false → o ≡ Some tag.Enumeration
is_enumerated None h g = absurd (true≢false h)
is_enumerated (Some tag.Enumeration) h g = refl
is_enumerated (Some tag.Enumerating) h g = absurd (true≢false h)
is_enumerated (Some (tag.Aggregate which t)) h g = absurd (true≢false g)

pub enum-judged : (counts : Counted) (at : Place) (name : Identifier) (one : TypedSpecifier) (s r : State) → IsKnown s → enum_tag counts at name s ≡ Gives one r
    → IsSpecifierJudged counts (tree.Enum at name) one s.seen.scopes s r
unfolding enum_tag
enum-judged counts at name one s r k h =
    let found = tag_in s.seen.scopes.levels name.bytes in
    let go = unless-gives (first_broken (Tests.enum_tests s.seen.scopes name.bytes name.place ++ Tests.word_tests at (one_named counts)))
    (pure (typed.Enum at name)) s one r h in
    let known = one_of (lacks_enumeration found) (Refused name.place rule.UnknownName)
    (first_broken (Tests.tag_tests s.seen.scopes is_enumeration name.bytes name.place ++ Tests.word_tests at (one_named counts))) go.0 in
    let three = three_unbroken (is_other_tag is_enumeration (tag_here s.seen.scopes.levels name.bytes)) (is_other_tag is_enumeration found)
    (not (are_allowed (one_named counts))) (Refused name.place rule.Redeclared) (Refused name.place rule.Mismatch) (Refused at rule.Mismatch) known.1 in
    subst (λ (v : TypedSpecifier). IsSpecifierJudged counts (tree.Enum at name) v s.seen.scopes s r) (gives-value (typed.Enum at name) one s r go.1)
    (subst (λ (q : State). IsSpecifierJudged counts (tree.Enum at name) (typed.Enum at name) s.seen.scopes s q) (gives-state (typed.Enum at name) one s r go.1)
    (record {
      typed = (refl, is_enumerated found known.0 three.1);
      erases = refl;
      allowed = not_false (are_allowed (one_named counts)) three.2;
      there = λ n u. tt;
      goes = (stays s k).goes;
    }))

-- scopes that keep the members of structs keep what is known
pub scopes-known : (s : State) (d : Scopes) → IsKnown s → d.members ≡ s.seen.scopes.members → All (IsLevelThere s.table) d.levels
    → GoesOn s (record s { seen = with_scopes s.seen d })
scopes-known s d k same there = record {
  extends = extended_refl s.table;
  known = record {
    basic = k.basic;
    followed = λ t h. k.followed t (sym (members_complete s.seen.scopes d same (is_complete (entry_at s.table t)) (shape_at s.table t)) ∙ h);
    levels = there;
    numbered = record {
      closed = λ t n h. ap (λ (ms : List (List Name)). length (members_named (record d { members = ms }) n)) same ∙ k.numbered.closed t n h;
      given = λ t n h. subst (λ (ms : List (List Name)). n < length ms) (sym same) (k.numbered.given t n h);
      own = k.numbered.own;
    };
  };
}

-- the scopes where the list of an enumeration begins, by whether the innermost one has its tag
unless_found : Option Identifier → Scopes → Option Tag → Scopes
unless_found name s None = tagging name tag.Enumerating s
unless_found name s (Some found) = s

begun_scopes : (T : Table) (name : Option Identifier) (c : Scopes) (o : Option Tag) → All (IsLevelThere T) c.levels
    → ((unless_found name c o).members ≡ c.members) × All (IsLevelThere T) (unless_found name c o).levels
unfolding unless_found
begun_scopes T name c (Some found) h = (refl, h)
begun_scopes T None c None h = (refl, h)
begun_scopes T (Some name) c None h = (refl, tagged-there T name.bytes tag.Enumerating c.levels tt h)

enumerating_is : (name : Option Identifier) (c : Scopes) → enumerating name c ≡ unless_found name c (tag_named_here c name)
unfolding unless_found
enumerating_is name c = refl

pub enumeration_begun-judged : (name : Option Identifier) (begun : Bool) (s m : State) → IsKnown s → enumeration_begun name s ≡ Gives begun m
    → (m.seen.scopes ≡ enumerating name s.seen.scopes) × GoesOn s m
unfolding enumeration_begun
enumeration_begun-judged name begun s m k h =
    let c = s.seen.scopes in
    let d : Scopes = enumerating name c in
    let after : State = record s { seen = with_scopes s.seen d } in
    let state = gives-state true begun after m h in
    let kept = begun_scopes s.table name c (tag_named_here c name) k.levels in
    let same = enumerating_is name c in (
      subst (λ (q : State). q.seen.scopes ≡ d) state refl,
      subst (GoesOn s) state (scopes-known s d k (ap (λ (e : Scopes). e.members) same ∙ kept.0)
          (subst (λ (e : Scopes). All (IsLevelThere s.table) e.levels) (sym same) kept.1)),
    )

-- an enumeration that ends
pub enumerated-goes : (name : Option Identifier) (s : State) → IsKnown s → GoesOn s (record s { seen = with_scopes s.seen (enumerated name s.seen.scopes) })
enumerated-goes None s k = scopes-known s (enumerated None s.seen.scopes) k refl k.levels
enumerated-goes (Some name) s k =
    scopes-known s (enumerated (Some name) s.seen.scopes) k refl (tag_set-there s.table name.bytes tag.Enumeration s.seen.scopes.levels tt k.levels)

pub enumeration-judged : (counts : Counted) (at : Place) (name : Option Identifier) (brace : Place) (all : tree.Enumerators) (list : TypedEnumerators)
    (comma : Bool) (one : TypedSpecifier) (s0 s r : State) → IsKnown s
    → AreEnumeratorsJudged all list (enumerating name s0.seen.scopes) s0 s → enumeration counts at name brace list comma s ≡ Gives one r
    → IsSpecifierJudged counts (tree.Enumeration at name brace all comma) one s0.seen.scopes s0 r
unfolding enumeration
enumeration-judged counts at name brace all list comma one s0 s r k l h =
    let c = s.seen.scopes in
    let taken = is_taken_enumeration (tag_named_here c name) in
    let part : TypedSpecifier = typed.Enumeration at name brace list comma in
    let after : State = record s { seen = with_scopes s.seen (enumerated name c) } in
    let go = unless-gives (first_broken (Tests.enumeration_tests taken (tag_place at name) ++ Tests.word_tests at (one_named counts)))
    (in_scopes (enumerated name) part) s one r h in
    let two = two_unbroken taken (not (are_allowed (one_named counts))) (Refused (tag_place at name) rule.Redeclared) (Refused at rule.Mismatch) go.0 in
    subst (λ (v : TypedSpecifier). IsSpecifierJudged counts (tree.Enumeration at name brace all comma) v s0.seen.scopes s0 r) (gives-value part one after r go.1)
    (subst (λ (q : State). IsSpecifierJudged counts (tree.Enumeration at name brace all comma) part s0.seen.scopes s0 q) (gives-state part one after r go.1)
    (record {
      typed = (c, l.typed, record { unfinished = two.0; after = refl });
      erases = ap (λ (e : tree.Enumerators). tree.Enumeration at name brace e comma) l.erases;
      allowed = not_false (are_allowed (one_named counts)) two.1;
      there = λ n u. tt;
      goes = goes-on s0 s after l.goes (enumerated-goes name s k);
    }))

-- Enumerators

pub no_name : (o : Option Declared) → has_some o ≡ false → o ≡ None
no_name None h = refl
no_name (Some found) h = absurd (true≢false h)

declaring-goes : (s : State) (name : Name) (value : ℤ) → IsKnown s → GoesOn s (record s { seen = with_scopes s.seen (declaring name (declared.Enumerator value) s.seen.scopes) })
declaring-goes s name value k =
    scopes-known s (declaring name (declared.Enumerator value) s.seen.scopes) k refl
    (declared-there s.table name (declared.Enumerator value) s.seen.scopes.levels tt k.levels)

enumerator_new : (name : Identifier) (value : ℤ) (s : Scopes) → (has_some (here s.levels name.bytes) || Tests.is_reserved s name.bytes) ≡ false
    → IsNewEnumerator name.bytes value s (declaring name.bytes (declared.Enumerator value) s)
enumerator_new name value s free = record {
  fresh = no_name (here s.levels name.bytes) (or_left (has_some (here s.levels name.bytes)) (Tests.is_reserved s name.bytes) free);
  unreserved = or_right (has_some (here s.levels name.bytes)) (Tests.is_reserved s name.bytes) free;
  after = refl;
}

-- s0 stands before the enumerators, c are the scopes where they begin
pub enumerator-judged : (all : tree.Enumerators) (list made : TypedEnumerators) (name : Identifier) (c : Scopes) (s0 s r : State) → IsKnown s
    → AreEnumeratorsJudged all list c s0 s → enumerator list name s ≡ Gives made r → AreEnumeratorsJudged (tree.AndEnumerator all name) made c s0 r
unfolding enumerator
enumerator-judged all list made name c s0 s r k l h =
    let value = next_value (last_value list) in
    let part : TypedEnumerators = typed.AndEnumerator list name value in
    let after : State = record s { seen = with_scopes s.seen (declaring name.bytes (declared.Enumerator value) s.seen.scopes) } in
    let go = unless-gives (first_broken (Tests.enumerator_tests s.seen.scopes name.bytes name.place))
    (in_scopes (declaring name.bytes (declared.Enumerator value)) part) s made r h in
    let free = one_unbroken (has_some (here s.seen.scopes.levels name.bytes) || Tests.is_reserved s.seen.scopes name.bytes) (Refused name.place rule.Redeclared) go.0 in
    subst (λ (v : TypedEnumerators). AreEnumeratorsJudged (tree.AndEnumerator all name) v c s0 r) (gives-value part made after r go.1)
    (subst (λ (q : State). AreEnumeratorsJudged (tree.AndEnumerator all name) part c s0 q) (gives-state part made after r go.1)
    (record {
      typed = (s.seen.scopes, l.typed, refl, enumerator_new name value s.seen.scopes free);
      erases = ap (λ (e : tree.Enumerators). tree.AndEnumerator e name) l.erases;
      goes = goes-on s0 s after l.goes (declaring-goes s name.bytes value k);
    }))

pub constant_plain : (T : Table) (e : TypedExpr) (z : ℤ) → is_droppable e ≡ true → constant_value T e ≡ Some z → is_plain e ≡ true
constant_plain T (typed.Unread p) z d h = absurd (none-some z h)
constant_plain T e z d h = d

module _ (all : tree.Enumerators) (list made : TypedEnumerators) (name : Identifier) (at : Place) (e : tree.Expr) (v : TypedExpr) (c : Scopes)
    (s0 m s r : State) (k : IsKnown s) (l : AreEnumeratorsJudged all list c s0 m) (goes : GoesOn m s) (value : IsValueOf s.table e v m.seen.scopes s.seen.scopes)
    (taken : is_droppable v ≡ true) (free : (has_some (here s.seen.scopes.levels name.bytes) || Tests.is_reserved s.seen.scopes name.bytes) ≡ false) where
  valued_by : (o : Option ℤ) → constant_value s.table v ≡ o → enumerator_with list name at v o s ≡ Gives made r
      → AreEnumeratorsJudged (tree.AndValued all name at e) made c s0 r
  unfolding enumerator_with
  valued_by None q h = never-gives made (TooLarge name.place Types) s r h
  valued_by (Some z) q h =
      let given = converted int z in
      let part : TypedEnumerators = typed.AndValued list name at v given in
      let after : State = record s { seen = with_scopes s.seen (declaring name.bytes (declared.Enumerator given) s.seen.scopes) } in
      subst (λ (w : TypedEnumerators). AreEnumeratorsJudged (tree.AndValued all name at e) w c s0 r) (gives-value part made after r h)
      (subst (λ (p : State). AreEnumeratorsJudged (tree.AndValued all name at e) part c s0 p) (gives-state part made after r h)
      (record {
        typed = (
          m.seen.scopes,
          s.seen.scopes,
          enumerators-kept m.table s.table goes.extends l.goes.known.basic list c m.seen.scopes l.typed,
          value.typed,
          record { plain = constant_plain s.table v z taken q; constant = z; known = q; int = refl },
          enumerator_new name given s.seen.scopes free,
        );
        erases = λ i. tree.AndValued (l.erases i) name at (value.erases i);
        goes = goes-on s0 m after l.goes (goes-on m s after goes (declaring-goes s name.bytes given k));
      }))

pub valued-judged : (all : tree.Enumerators) (list made : TypedEnumerators) (name : Identifier) (at : Place) (e : tree.Expr) (v : Value) (c : Scopes)
    (s0 m s r : State) → IsKnown s → AreEnumeratorsJudged all list c s0 m → GoesOn m s → IsValueOf s.table e v.expr m.seen.scopes s.seen.scopes
    → is_droppable v.expr ≡ true → valued_enumerator list name at v s ≡ Gives made r → AreEnumeratorsJudged (tree.AndValued all name at e) made c s0 r
unfolding valued_enumerator
valued-judged all list made name at e v c s0 m s r k l goes value taken h =
    let go = unless-gives
    (first_broken (Tests.enumerator_tests s.seen.scopes name.bytes name.place ++ Tests.constant_tests s.table v.place (Tests.AsValue v.expr)))
    (by_known (λ (q : State). enumerator_with list name at v.expr (constant_value q.table v.expr))) s made r h in
    let two = two_unbroken (has_some (here s.seen.scopes.levels name.bytes) || Tests.is_reserved s.seen.scopes name.bytes) (not (Tests.has_constant s.table (Tests.AsValue v.expr)))
    (Refused name.place rule.Redeclared) (Refused v.place rule.NotConstant) go.0 in
    valued_by all list made name at e v.expr c s0 m s r k l goes value taken two.0 (constant_value s.table v.expr) refl go.1

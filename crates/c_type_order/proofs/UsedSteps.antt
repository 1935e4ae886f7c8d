-- The types that specifiers and enumerators use, behind those of their parts.
use Rattle.std.proofs.Common.{◌≡◌, ◌<◌, ℕ, ℤ, Bool, true, false, ◌&&◌, not, List, [], ◌∷◌, ◌++◌, length, Option, Some, None, refl, ap, sym, subst, inl, nat_lt, nat_le, if◌then◌else◌, arith}
use Rattle.std.proofs.lemmas.Bool.Decides.{nat_tests}
use Rattle.std.specs.List.{list_all}
use Rattle.cc_base.specs.declared.place.Place.{Place}
use Rattle.cc_base.specs.declared.number.TypeId.{TypeId}
use Rattle.cc_base.specs.declared.fault.Fault.TheVariants.{TooLarge}
use Rattle.cc_base.specs.declared.fault.Limit.TheVariants.{Types, Object}
use Rattle.c_types.specs.Table.{Table, IsType, shape_at, entry_at, members_at, is_complete, is_aggregate_shape, is_empty}
use Rattle.c_types.specs.Calls.{defined_layout, with_members}
use Rattle.integers.specs.Arithmetic.{int, converted}
use Rattle.c_tree.specs.declared.leaf.Identifier.{Identifier}
use Rattle.c_tree.specs.declared.leaf.Word.{Word}
use Rattle.c_tree.specs.declared.operator.AggregateKind.{AggregateKind}
use Rattle.c_tree.specs.TypedTree as typed
use Rattle.c_tree.specs.TypedTree.{TypedSpecifier, TypedMembers, TypedEnumerators}
use Rattle.c_typing.specs.declared.declared.Declared.{Declared}
use Rattle.c_typing.specs.declared.declared.Declared.TheVariants as declared
use Rattle.c_typing.specs.declared.declared.Tag.{Tag}
use Rattle.c_typing.specs.declared.declared.Tag.TheVariants as tag
use Rattle.c_typing.specs.Constants.{constant_value}
use Rattle.c_typing.specs.Declarators.{Counted, counting_word, member_names, member_types}
use Rattle.c_typing.specs.Judging.{State, Gives, Stops, next, ◌>>=◌, pure, by_known, type_with}
use Rattle.c_typing.specs.Operands.{Value}
use Rattle.c_typing.specs.Operations.{numbered}
use Rattle.c_typing.specs.Refusals.{one_named, tag_place, is_empty_row}
use Rattle.c_typing.specs.Rules.{number_of_shape}
use Rattle.c_typing.specs.Scopes.{Scopes, name_in, tag_in, declaring}
use Rattle.c_typing.specs.Settled.{IsKnown, IsTagThere}
use Rattle.c_typing.specs.Specifying
use Rattle.c_typing.specs.Specifying.{in_scopes, typedef_named, tagged_by, tagged_as, new_aggregate, begun_as, begun, is_definable, defined, completing, ended, is_taken_at_end, completed, enum_tag, enumerator, enumerator_with, valued_enumerator, enumeration_begun, enumeration}
use Rattle.c_typing.specs.Tests
use Rattle.c_typing.specs.Tests.{AsValue, first_broken, is_tag_of, is_taken_tag}
use Rattle.c_typing.specs.Typing.{next_value, last_value, shape_of_kind, tagging, counting_aggregate, tag_named_here, enumerated, is_taken_enumeration}
use Rattle.c_typing_laws.proofs.ExtensionLaws.{and_left}
use Rattle.c_typing_laws.proofs.JudgedSpecifiers.{named_here-there}
use Rattle.c_typing_laws.proofs.KnownScopes.{tag-there}
use Rattle.c_typing_laws.proofs.Outcomes.{bind-gives, unless-gives, gives-state, never-gives}
use Rattle.c_typing_laws.proofs.ValuesTaken.{given-same}
use Rattle.c_type_order.specs.Uses.{IsLater, IsUsed}
use Rattle.c_type_order.specs.TypesUsed.{Use, OfType, AreUses, used_by, used_by_specifier, used_by_members, used_by_enumerators}
use Rattle.c_type_order.proofs.Uses.{later-self, later-on, members-later, members-length, one_use, used-none, made-used, type_with-made}
use Rattle.c_type_order.proofs.UsedConstructs.{Alone, number-table}

-- a type that is there
there-used : (T : Table) (t : TypeId) → IsType T t → IsUsed (Alone t) T T
there-used T t h = record { uses = λ U l. one_use t (length T) (length T) (inl (h, refl)); later = later-self T }

-- the table goes on, with as many types
used-longer : (f : Table → List Use) (S M R : Table) → IsLater M R → length R ≡ length M → IsUsed f S M → IsUsed f S R
used-longer f S M R l e p = record {
  uses = λ U k. subst (λ (n : ℕ). AreUses (f U) (length S) n) (sym e) (p.uses U (later-on M R U l k));
  later = later-on S M R p.later l;
}

-- Words and names of types

abbrev pub SpecifierUsed : TypedSpecifier → Table → Table → Type 0
SpecifierUsed one S R = IsUsed (λ U. used_by_specifier U one) S R

specifier-same : (x one : TypedSpecifier) (S : Table) (s r : State) → Gives x s ≡ Gives one r → SpecifierUsed x S s.table → SpecifierUsed one S r.table
specifier-same x one S s r h p = given-same (λ (v : TypedSpecifier) (q : State). SpecifierUsed v S q.table) x one s r h p

pub word-used : (counts : Counted) (w : Word) (one : TypedSpecifier) (s r : State) → Specifying.word counts w s ≡ Gives one r → SpecifierUsed one s.table r.table
unfolding Specifying.word
word-used counts w one s r h =
    let go = unless-gives (first_broken (Tests.word_tests w.place (counting_word w.keyword counts))) (pure (typed.Keyword w)) s one r h in
    specifier-same (typed.Keyword w) one s.table s r go.1 (used-none s.table)

typedef_by : (name : Identifier) (o : Option Declared) (one : TypedSpecifier) (s r : State) → typedef_named name o s ≡ Gives one r → SpecifierUsed one s.table r.table
unfolding typedef_named
typedef_by name (Some (declared.Typedef u)) one s r h = specifier-same (typed.Typedef name u) one s.table s r h (used-none s.table)
typedef_by name (Some (declared.Object u home)) one s r h = never-gives one (TooLarge name.place Types) s r h
typedef_by name (Some (declared.Function u)) one s r h = never-gives one (TooLarge name.place Types) s r h
typedef_by name (Some (declared.Enumerator k)) one s r h = never-gives one (TooLarge name.place Types) s r h
typedef_by name None one s r h = never-gives one (TooLarge name.place Types) s r h

pub typedef-used : (counts : Counted) (name : Identifier) (one : TypedSpecifier) (s r : State) → Specifying.typedef_name counts name s ≡ Gives one r → SpecifierUsed one s.table r.table
unfolding Specifying.typedef_name
typedef-used counts name one s r h =
    let go = unless-gives (first_broken (Tests.word_tests name.place (one_named counts))) (by_known (λ (q : State). typedef_named name (name_in q.seen.scopes.levels name.bytes))) s one r h in
    typedef_by name (name_in s.seen.scopes.levels name.bytes) one s r go.1

pub enum-used : (counts : Counted) (at : Place) (name : Identifier) (one : TypedSpecifier) (s r : State) → enum_tag counts at name s ≡ Gives one r → SpecifierUsed one s.table r.table
unfolding enum_tag
enum-used counts at name one s r h =
    let go = unless-gives (first_broken (Tests.enum_tests s.seen.scopes name.bytes name.place ++ Tests.word_tests at (one_named counts))) (pure (typed.Enum at name)) s one r h in
    specifier-same (typed.Enum at name) one s.table s r go.1 (used-none s.table)

-- Structs and unions

new_aggregate-used : (which : AggregateKind) (at : Place) (name : Option Identifier) (t : TypeId) (s r : State) → new_aggregate which at name s ≡ Gives t r
    → IsUsed (Alone t) s.table r.table
unfolding new_aggregate
new_aggregate-used which at name t s r h =
    let one = bind-gives (numbered at (Some (length s.seen.scopes.members)) s)
    (λ number. type_with at (shape_of_kind which number) >>= (λ u. in_scopes (λ (c : Scopes). tagging name (tag.Aggregate which u) (counting_aggregate c)) u)) t r h in
    let two = bind-gives (type_with at (shape_of_kind which one.0) one.1)
    (λ u. in_scopes (λ (c : Scopes). tagging name (tag.Aggregate which u) (counting_aggregate c)) u) t r one.3 in
    let same = number-table at (Some (length s.seen.scopes.members)) one.0 s one.1 one.2 in
    let taken = made-used (shape_of_kind which one.0) two.0 one.1.table two.1.table (type_with-made at (shape_of_kind which one.0) two.0 one.1 two.1 two.2) in
    given-same (λ (v : TypeId) (q : State). IsUsed (Alone v) s.table q.table) two.0 t (_) r two.3
    (subst (λ (T : Table). IsUsed (Alone two.0) T two.1.table) same taken)

tagged_as-used : (which : AggregateKind) (name : Identifier) (o : Option Tag) (t : TypeId) (s r : State) → ((what : Tag) → o ≡ Some what → IsTagThere s.table what)
    → tagged_as which name o s ≡ Gives t r → IsUsed (Alone t) s.table r.table
unfolding tagged_as
tagged_as-used which name None t s r there h = new_aggregate-used which name.place (Some name) t s r h
tagged_as-used which name (Some (tag.Aggregate other u)) t s r there h =
    given-same (λ (v : TypeId) (q : State). IsUsed (Alone v) s.table q.table) u t s r h (there-used s.table u (there (tag.Aggregate other u) refl).1.0)
tagged_as-used which name (Some tag.Enumeration) t s r there h = never-gives t (TooLarge name.place Types) s r h
tagged_as-used which name (Some tag.Enumerating) t s r there h = never-gives t (TooLarge name.place Types) s r h

pub tagged_by-used : (which : AggregateKind) (at : Place) (name : Identifier) (found : State → Option Tag) (one : TypedSpecifier) (s r : State)
    → ((what : Tag) → found s ≡ Some what → IsTagThere s.table what) → tagged_by which at name found s ≡ Gives one r → SpecifierUsed one s.table r.table
unfolding tagged_by
tagged_by-used which at name found one s r there h =
    let two = bind-gives (tagged_as which name (found s) s) (λ u. pure (typed.Tagged which at name u)) one r h in
    specifier-same (typed.Tagged which at name two.0) one s.table two.1 r two.3 (tagged_as-used which name (found s) two.0 s two.1 there two.2)

pub tagged-used : (counts : Counted) (which : AggregateKind) (at : Place) (name : Identifier) (one : TypedSpecifier) (s r : State) → IsKnown s
    → Specifying.tagged counts which at name s ≡ Gives one r → SpecifierUsed one s.table r.table
unfolding Specifying.tagged
tagged-used counts which at name one s r k h =
    let go = unless-gives (first_broken (Tests.tag_tests s.seen.scopes (is_tag_of which) name.bytes name.place ++ Tests.word_tests at (one_named counts)))
    (tagged_by which at name (λ (q : State). tag_in q.seen.scopes.levels name.bytes)) s one r h in
    tagged_by-used which at name (λ (q : State). tag_in q.seen.scopes.levels name.bytes) one s r
    (λ what q. tag-there s.table s.seen.scopes.levels k.levels name.bytes what q) go.1

abbrev pub begun_uses : Option TypeId → Table → List Use
begun_uses None U = []
begun_uses (Some t) U = OfType t ∷ []

module _ (which : AggregateKind) (at : Place) (name : Option Identifier) (o : Option TypeId) (s m : State) (k : IsKnown s) where
  begun-same : (p : Option TypeId) (q : State) → Gives p q ≡ Gives o m → IsUsed (begun_uses p) s.table q.table → IsUsed (begun_uses o) s.table m.table
  begun-same p q h u = given-same (λ (v : Option TypeId) (w : State). IsUsed (begun_uses v) s.table w.table) p o q m h u

  begun_by : (taken : Bool) (found : Option Tag) → tag_named_here s.seen.scopes name ≡ found → begun_as which (tag_place at name) name found taken s ≡ Gives o m
      → IsUsed (begun_uses o) s.table m.table
  unfolding begun_as
  begun_by true found q h = begun-same None s h (used-none s.table)
  begun_by false (Some (tag.Aggregate other t)) q h =
      begun-same (Some t) s h (there-used s.table t (named_here-there s.table s.seen.scopes name (tag.Aggregate other t) k.levels q).1.0)
  begun_by false (Some tag.Enumeration) q h = begun-same None s h (used-none s.table)
  begun_by false (Some tag.Enumerating) q h = begun-same None s h (used-none s.table)
  begun_by false None q h =
      let two = bind-gives (new_aggregate which (tag_place at name) name s) (λ t. pure (Some t)) o m h in
      begun-same (Some two.0) two.1 two.3 (new_aggregate-used which (tag_place at name) name two.0 s two.1 two.2)

  pub begun-used : begun which at name s ≡ Gives o m → IsUsed (begun_uses o) s.table m.table
  unfolding begun
  begun-used h = begun_by (is_taken_tag s.table s.seen.scopes which (tag_named_here s.seen.scopes name)) (tag_named_here s.seen.scopes name) refl h

-- a struct or union is completed: it stays the same type, and no type is added
record IsCompleted (t u : TypeId) (s r : State) : Type 0 where
  pub same : u ≡ t
  pub later : IsLater s.table r.table
  pub long : length r.table ≡ length s.table

pub below : (a b : ℕ) → nat_lt a b ≡ true → a < b
below a b h = grind (arith, nat_tests)

defined-completed : (at : Place) (t : TypeId) (members : List TypeId) (u : TypeId) (s r : State) → defined at t members s ≡ Gives u r → IsCompleted t u s r
unfolding defined
defined-completed at t members u s r h = by (is_definable s.table t members) refl (nat_le (defined_layout s.table t members).size 1048576) h
  where
    there : is_definable s.table t members ≡ true → IsType s.table t
    there d = below t.0 (length s.table) (and_left (nat_lt t.0 (length s.table)) (is_aggregate_shape (shape_at s.table t)
        && (is_empty (members_at s.table t) && (not (is_empty members) && list_all (λ m. nat_lt m.0 (length s.table) && is_complete (entry_at s.table m)) members))) d)

    by : (may : Bool) → is_definable s.table t members ≡ may → (small : Bool) → (if may
        then (if small then Gives t (record s { table = with_members s.table t members }) else Stops (TooLarge at Object) s)
        else Stops (TooLarge at Types) s) ≡ Gives u r → IsCompleted t u s r
    by true d true g =
        given-same (λ (v : TypeId) (q : State). IsCompleted t v s q) t u (record s { table = with_members s.table t members }) r g
        (record { same = refl; later = members-later s.table t members (there d); long = members-length s.table t members })
    by true d false g = never-gives u (TooLarge at Object) s r g
    by false d small g = never-gives u (TooLarge at Types) s r g

completed-same : (at : Place) (members : TypedMembers) (t u : TypeId) (s r : State) → completed at members (Some t) s ≡ Gives u r → IsCompleted t u s r
unfolding completed
completed-same at members t u s r h =
    let one = bind-gives (defined at t (member_types members) s)
    (λ v. by_known (λ q. in_scopes (completing (number_of_shape (shape_at q.table v)) (member_names members)) v)) u r h in
    let done = defined-completed at t (member_types members) one.0 s one.1 one.2 in
    given-same (λ (v : TypeId) (q : State). IsCompleted t v s q) one.0 u (_) r one.3 (record { same = done.same; later = done.later; long = done.long })

pub ended-used : (counts : Counted) (which : AggregateKind) (at : Place) (name : Option Identifier) (brace : Place) (o : Option TypeId) (rows : TypedMembers) (one : TypedSpecifier)
    (S : Table) (s r : State) → IsUsed (λ U. begun_uses o U ++ used_by_members U rows) S s.table → ended counts which at name brace o rows s ≡ Gives one r → SpecifierUsed one S r.table
unfolding ended completed
ended-used counts which at name brace None rows one S s r p h =
    let go = unless-gives (first_broken (Tests.aggregate_tests (is_taken_at_end s None) (tag_place at name) (is_empty_row rows) ++ Tests.word_tests at (one_named counts)))
    (λ (q : State). next (completed (tag_place at name) rows None q) (λ u. pure (typed.Aggregate which at name brace rows u))) s one r h in
    never-gives one (TooLarge (tag_place at name) Types) s r go.1
ended-used counts which at name brace (Some t) rows one S s r p h =
    let go = unless-gives (first_broken (Tests.aggregate_tests (is_taken_at_end s (Some t)) (tag_place at name) (is_empty_row rows) ++ Tests.word_tests at (one_named counts)))
    (λ (q : State). next (completed (tag_place at name) rows (Some t) q) (λ u. pure (typed.Aggregate which at name brace rows u))) s one r h in
    let two = bind-gives (completed (tag_place at name) rows (Some t) s) (λ u. pure (typed.Aggregate which at name brace rows u)) one r go.1 in
    let done = completed-same (tag_place at name) rows t two.0 s two.1 two.2 in
    specifier-same (typed.Aggregate which at name brace rows two.0) one S two.1 r two.3
    (subst (λ (v : TypeId). SpecifierUsed (typed.Aggregate which at name brace rows v) S two.1.table) (sym done.same)
    (used-longer (λ U. OfType t ∷ used_by_members U rows) S s.table two.1.table done.later done.long p))

-- Enumerations

pub enumerator-used : (all list : TypedEnumerators) (name : Identifier) (S : Table) (s r : State) → IsUsed (λ U. used_by_enumerators U all) S s.table → enumerator all name s ≡ Gives list r
    → IsUsed (λ U. used_by_enumerators U list) S r.table
unfolding enumerator
enumerator-used all list name S s r p h =
    let go = unless-gives (first_broken (Tests.enumerator_tests s.seen.scopes name.bytes name.place))
    (in_scopes (declaring name.bytes (declared.Enumerator (next_value (last_value all)))) (typed.AndEnumerator all name (next_value (last_value all)))) s list r h in
    given-same (λ (v : TypedEnumerators) (q : State). IsUsed (λ U. used_by_enumerators U v) S q.table) (typed.AndEnumerator all name (next_value (last_value all))) list (_) r go.1 p

valued_by : (all list : TypedEnumerators) (name : Identifier) (at : Place) (v : Value) (S : Table) (s r : State) (o : Option ℤ)
    → IsUsed (λ U. used_by_enumerators U all ++ used_by U v.expr) S s.table → enumerator_with all name at v.expr o s ≡ Gives list r → IsUsed (λ U. used_by_enumerators U list) S r.table
unfolding enumerator_with
valued_by all list name at v S s r None p h = never-gives list (TooLarge name.place Types) s r h
valued_by all list name at v S s r (Some z) p h =
    given-same (λ (w : TypedEnumerators) (q : State). IsUsed (λ U. used_by_enumerators U w) S q.table) (typed.AndValued all name at v.expr (converted int z)) list (_) r h p

pub valued-used : (all list : TypedEnumerators) (name : Identifier) (at : Place) (v : Value) (S : Table) (s r : State)
    → IsUsed (λ U. used_by_enumerators U all ++ used_by U v.expr) S s.table → valued_enumerator all name at v s ≡ Gives list r → IsUsed (λ U. used_by_enumerators U list) S r.table
unfolding valued_enumerator
valued-used all list name at v S s r p h =
    let go = unless-gives
    (first_broken (Tests.enumerator_tests s.seen.scopes name.bytes name.place ++ Tests.constant_tests s.table v.place (AsValue v.expr)))
    (by_known (λ (q : State). enumerator_with all name at v.expr (constant_value q.table v.expr))) s list r h in
    valued_by all list name at v S s r (constant_value s.table v.expr) p go.1

pub begun-table : (name : Option Identifier) (begun : Bool) (s r : State) → enumeration_begun name s ≡ Gives begun r → r.table ≡ s.table
unfolding enumeration_begun
begun-table name begun s r h = ap (λ (q : State). q.table) (sym (gives-state (_) begun (_) r h))

pub enumeration-used : (counts : Counted) (at : Place) (name : Option Identifier) (brace : Place) (list : TypedEnumerators) (comma : Bool) (one : TypedSpecifier) (S : Table) (s r : State)
    → IsUsed (λ U. used_by_enumerators U list) S s.table → enumeration counts at name brace list comma s ≡ Gives one r → SpecifierUsed one S r.table
unfolding enumeration
enumeration-used counts at name brace list comma one S s r p h =
    let go = unless-gives
    (first_broken (Tests.enumeration_tests (is_taken_enumeration (tag_named_here s.seen.scopes name)) (tag_place at name) ++ Tests.word_tests at (one_named counts)))
    (in_scopes (enumerated name) (typed.Enumeration at name brace list comma)) s one r h in
    specifier-same (typed.Enumeration at name brace list comma) one S (_) r go.1 p

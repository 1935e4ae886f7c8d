-- Structs and unions with their members are given: they begin, their members stand between the braces, and they end complete.
use Rattle.std.proofs.Common.{◌≡◌, ◌≤◌, ◌<◌, ℕ, Bool, true, false, not, ◌||◌, List, [], ◌∷◌, ◌++◌, length, Option, Some, None, refl, ap, sym, subst, ◌∙◌, inl, inr, arith}
use Rattle.std.specs.List.{All}
use Rattle.std.proofs.lemmas.List.{length-set, append-nil}
use Rattle.std.proofs.lemmas.List.Elements.{All-set}
use Rattle.cc_base.specs.declared.fault.Rule.TheVariants as rule
use Rattle.cc_base.specs.declared.place.Place.{Place}
use Rattle.cc_base.specs.declared.number.TypeId.{TypeId}
use Rattle.c_types.specs.declared.shape.TypeShape.TheVariants.{Function}
use Rattle.c_types.specs.Table.{Table, HasShape, IsType, shape_at, is_empty}
use Rattle.c_types.specs.Calls.{with_members}
use Rattle.c_tree.specs.declared.leaf.Identifier.{Identifier}
use Rattle.c_tree.specs.declared.operator.AggregateKind.{AggregateKind}
use Rattle.c_tree.specs.Tree as tree
use Rattle.c_tree.specs.TypedTree as typed
use Rattle.c_tree.specs.TypedTree.{TypedMembers, TypedSpecifier}
use Rattle.c_tree.specs.TypedParts.{Made, made_by_members, made_by_specifier}
use Rattle.c_typing.specs.declared.declared.Tag.{Tag}
use Rattle.c_typing.specs.declared.declared.Tag.TheVariants as tag
use Rattle.c_typing.specs.Declarators.{Counted, counting, are_allowed, member_names, member_types}
use Rattle.c_typing.specs.Judging.{State, Outcome, Gives, ◌>>=◌, pure}
use Rattle.c_typing.specs.Refusals.{one_named, tag_place, is_empty_row}
use Rattle.c_typing.specs.Rules.{number_of_shape}
use Rattle.c_typing.specs.Scopes.{Name, Scopes, is_complete_at, place_among}
use Rattle.c_typing.specs.Settled.{IsBasic}
use Rattle.c_typing.specs.Specifying.{new_aggregate, begun_as, begun, completed, ended, is_taken_at_end}
use Rattle.c_typing.specs.Tests.{first_broken, broken_at, aggregate_tests, word_tests, is_taken_tag, is_tag_of}
use Rattle.c_typing.specs.Typing.{BeginsAggregate, EndsAggregate, tag_named_here, counting_aggregate}
use Rattle.c_typing.specs.Walks.{judge_members, judge_specifier}
use Rattle.c_typing_laws.proofs.JudgedSpecifiers.{begun-judged, named_here-there}
use Rattle.c_typing_laws.proofs.JudgedTrees.{begun_goes}
use Rattle.c_typing_laws.proofs.KeptDeclarators.{members_alike}
use Rattle.c_typing_laws.proofs.KnownMembers.{completed-judged}
use Rattle.c_typing_laws.proofs.ExtensionLaws.{no_true, still_in}
use Rattle.c_typing_unique.specs.Points.{Point}
use Rattle.c_typing_unique.proofs.Reading.{point-same}
use Rattle.c_typing_unique.proofs.SpecifierSteps.{AreMembersRead, IsWhole, is_specifier}
use Rattle.c_typing_exact.specs.Passing.{Passes}
use Rattle.c_typing_exact.proofs.SameParts.{distinct}
use Rattle.c_typing_exact.proofs.SpecifierExact.{word_passes}
use Rattle.c_typing_exact.proofs.Unbroken.{passes_one, passes_and, passes_append}
use Rattle.c_rules_alike.proofs.TypesAlike.{complete-over}
use Rattle.c_unit_typing.specs.Holding.{members_holds}
use Rattle.c_type_order.specs.TypesUsed.{IsUse, AreUses, used_by_specifier, used_by_members}
use Rattle.c_typing_given.specs.Given.{point_at, IsHere, IsReached, IsGivenAs}
use Rattle.c_typing_given.specs.Spending.{HasRoom, IsSmall}
use Rattle.c_typing_given.proofs.CallsGiven.{reached-none}
use Rattle.c_typing_given.proofs.Constructing.{reached-both, uses-at}
use Rattle.c_typing_given.proofs.Defined.{IsOpen, members-open, defined-first, defined-length, defined-number, defined-is, defined-finished, finished, completed-is}
use Rattle.c_typing_given.proofs.MemberSteps as members
use Rattle.c_typing_given.proofs.MembersGiven.{AreMembersGiven}
use Rattle.c_typing_given.proofs.MembersMade.{members-made}
use Rattle.c_typing_given.proofs.SpecifiersGiven.{IsSpecifierGiven, own-tag}
use Rattle.c_typing_given.proofs.Spent.{room-then, spent-none}
use Rattle.c_typing_given.proofs.Steps.{then-is, obeying-is}
use Rattle.c_typing_given.proofs.TagsGiven.{tagging-keeps, aggregate-given}

-- What judging is made of

begun_is : (which : AggregateKind) (at : Place) (name : Option Identifier) (s : State) (found : Option Tag) (o : Outcome (Option TypeId)) → tag_named_here s.seen.scopes name ≡ found
    → is_taken_tag s.table s.seen.scopes which found ≡ false → begun_as which (tag_place at name) name found false s ≡ o → begun which at name s ≡ o
unfolding begun
begun_is which at name s found o q taken h =
    (λ i. begun_as which (tag_place at name) name (q i) (is_taken_tag s.table s.seen.scopes which (q i)) s)
    ∙ ap (λ (b : Bool). begun_as which (tag_place at name) name found b s) taken ∙ h

begun_found : (which : AggregateKind) (at : Place) (name : Option Identifier) (t : TypeId) (s : State)
    → begun_as which at name (Some (tag.Aggregate which t)) false s ≡ Gives (Some t) s
unfolding begun_as
begun_found which at name t s = refl

begun_new : (which : AggregateKind) (at : Place) (name : Option Identifier) (t : TypeId) (s r : State) → new_aggregate which at name s ≡ Gives t r
    → begun_as which at name None false s ≡ Gives (Some t) r
unfolding begun_as
begun_new which at name t s r h = then-is (new_aggregate which at name) (λ u. pure (Some u)) t s r (Gives (Some t) r) h refl

ended_is : (before : Counted) (which : AggregateKind) (at : Place) (name : Option Identifier) (brace : Place) (t : TypeId) (rows : TypedMembers) (s r : State)
    → first_broken (aggregate_tests (is_taken_at_end s (Some t)) (tag_place at name) (is_empty_row rows) ++ word_tests at (one_named before)) ≡ None
    → completed (tag_place at name) rows (Some t) s ≡ Gives t r → ended before which at name brace (Some t) rows s ≡ Gives (typed.Aggregate which at name brace rows t) r
unfolding ended
ended_is before which at name brace t rows s r pass h =
    obeying-is (λ (q : State). aggregate_tests (is_taken_at_end q (Some t)) (tag_place at name) (is_empty_row rows) ++ word_tests at (one_named before))
    (completed (tag_place at name) rows (Some t) >>= (λ u. pure (typed.Aggregate which at name brace rows u))) s (Gives (typed.Aggregate which at name brace rows t) r) pass
    (then-is (completed (tag_place at name) rows (Some t)) (λ u. pure (typed.Aggregate which at name brace rows u)) t s r (Gives (typed.Aggregate which at name brace rows t) r) h refl)

judges_aggregate : (before : Counted) (which : AggregateKind) (at : Place) (name : Option Identifier) (brace : Place) (all : tree.Members) (t : TypeId) (rows : TypedMembers)
    (s j k : State) (o : Outcome TypedSpecifier) → begun which at name s ≡ Gives (Some t) j → judge_members all j ≡ Gives rows k
    → ended before which at name brace (Some t) rows k ≡ o → judge_specifier before (tree.Aggregate which at name brace all) s ≡ o
unfolding judge_specifier
judges_aggregate before which at name brace all t rows s j k o h g f =
    then-is (begun which at name) (λ u. judge_members all >>= (λ r. ended before which at name brace u r)) (Some t) s j o h
    (then-is (judge_members all) (λ r. ended before which at name brace (Some t) r) rows j k o g f)

some_row : (rows : TypedMembers) → is_empty (member_names rows) ≡ false → is_empty_row rows ≡ false
some_row typed.NoMember h = no_true (sym h)
some_row (typed.AndMember all specifiers row) h = refl

some_listed : (names : List Name) → is_empty names ≡ false → 0 < length names
some_listed [] h = no_true (sym h)
some_listed (n ∷ names) h = omega arith

taken_off : (a b : Bool) → a ≡ true → b ≡ false → (not a || b) ≡ false
taken_off a b h k = rw (h, k) refl

used_there : (t : TypeId) (n m : ℕ) → IsUse t n m → t.0 < m
used_there t n m (inl u) = let a = u.0 in let b = u.1 in omega (arith, a, b)
used_there t n m (inr u) = let a = u.0 in let b = u.1 in omega (arith, a, b)

pub old-use : (t : TypeId) (n m : ℕ) → IsUse t n m → t.0 < n → m ≡ n
old-use t n m (inl u) l = u.1
old-use t n m (inr u) l = let q = u.0 in absurd (omega (arith, q, l))

module _ (T : Table) (basic : IsBasic T) (few : (t : TypeId) (parameters : List TypeId) (result : TypeId) → HasShape T t (Function parameters result) → length parameters ≤ 127) where
  -- it begins
  begin_given : (which : AggregateKind) (at : Place) (name : Option Identifier) (t : TypeId) (s : State) (c : Scopes) (count : ℕ) → IsHere T s
      → BeginsAggregate T (tag_named_here s.seen.scopes name) which name t s.seen.scopes c → IsUse t (length s.table) count
      → IsGivenAs T [] (begun which at name s) (Some t) s (record { scopes = c; node = s.seen.node }) count
  begin_given which at name t s c count here begins used = by (tag_named_here s.seen.scopes name) refl begins
    where
      by : (found : Option Tag) → tag_named_here s.seen.scopes name ≡ found → BeginsAggregate T found which name t s.seen.scopes c
          → IsGivenAs T [] (begun which at name s) (Some t) s (record { scopes = c; node = s.seen.node }) count
      by (Some found) q h =
          let own : tag_named_here s.seen.scopes name ≡ Some (tag.Aggregate which t) = q ∙ ap Some h.0 in
          let there : IsType s.table t = (named_here-there s.table s.seen.scopes name (tag.Aggregate which t) here.known.levels own).1.0 in
          let open_ : is_complete_at s.table s.seen.scopes t ≡ false = complete-over s.table T here.first here.known.basic s.seen.scopes t there ∙ h.1 in
          record {
            after = s;
            gives = begun_is which at name s (Some (tag.Aggregate which t)) (Gives (Some t) s) own
                (taken_off (is_tag_of which (tag.Aggregate which t)) (is_complete_at s.table s.seen.scopes t) (own-tag which t) open_) (begun_found which (tag_place at name) name t s);
            reached = reached-none T basic s (record { scopes = c; node = s.seen.node }) count here (point-same (record { scopes = c; node = s.seen.node }) (point_at s) h.2 refl)
                (old-use t (length s.table) count used there);
          }
      by None q h =
          let g = aggregate-given T basic which (tag_place at name) name t s count here h.shape used in
          let gives = begun_is which at name s None (Gives (Some t) g.after) q refl (begun_new which (tag_place at name) name t s g.after g.gives) in
          let goes = begun_goes which name (Some t) s g.after (begun-judged which at name (Some t) s g.after here.known gives) in
          let nodes = g.spent.nodes in
          let defined_still : g.after.seen.scopes.defined ≡ s.seen.scopes.defined =
          ap (λ (d : Scopes). d.defined) g.scopes ∙ (tagging-keeps name (tag.Aggregate which t) (counting_aggregate s.seen.scopes)).1 in
          record {
            after = g.after;
            gives = gives;
            reached = record {
              here = record { known = goes.known; first = g.first; small = g.small; own = λ word number p. here.own word number (ap (λ (names : List Name). place_among names word) (sym defined_still) ∙ p) };
              grown = goes.extends;
              point = point-same (point_at g.after) (record { scopes = c; node = s.seen.node }) (g.scopes ∙ sym h.after) (omega (arith, nodes));
              way = record { first = g.first; small = g.small; types = g.types; spent = g.spent };
            };
          }

  -- it ends
  module _ (t : TypeId) (rows : TypedMembers) (k : State) (b : Point) (here : IsHere T k) (ends : EndsAggregate T rows t k.seen.scopes b.scopes) (there : IsType k.table t)
      (whole : All (members.IsWhole k.table) (member_types rows)) (node : b.node ≡ k.seen.node) (most : length (member_names rows) ≤ 4294967296) where
    number_here : number_of_shape (shape_at k.table t) ≡ Some ends.number
    number_here = ap number_of_shape (sym (here.first.shapes t there)) ∙ ends.declared

    open_here : is_complete_at k.table k.seen.scopes t ≡ false
    open_here = complete-over k.table T here.first here.known.basic k.seen.scopes t there ∙ ends.unfinished

    some_types : 0 < length (member_types rows)
    some_types = let l = some_listed (member_names rows) ends.some in let m = members_alike rows in omega (arith, l, m)

    is_open : IsOpen k.table t ends.number (member_types rows)
    is_open = record { there = there; number = number_here; open_ = members-open k t ends.number here.small number_here open_here; some = some_types; whole = whole }

    last : State
    last = finished t (member_types rows) ends.number (member_names rows) k

    last_gives : (at : Place) → completed at rows (Some t) k ≡ Gives t (finished t (member_types rows) ends.number (member_names rows) k)
    last_gives at =
        completed-is at rows t ends.number k
        (defined-is T basic k.table here.known.basic.formed here.first t ends.number (member_types rows) is_open ends.types at k.seen)
        (defined-number T basic k.table here.known.basic.formed here.first t ends.number (member_types rows) is_open ends.types)

    below : ends.number < length k.seen.scopes.members
    below = here.known.numbered.given t ends.number number_here

    last_length : length (with_members k.table t (member_types rows)) ≡ length k.table
    last_length = defined-length T basic k.table here.known.basic.formed here.first t ends.number (member_types rows) is_open ends.types

    last_small : IsSmall (finished t (member_types rows) ends.number (member_names rows) k)
    last_small = record {
      few =
          let f = here.small.few in
          let l = last_length in
          let m = length-set k.seen.scopes.members ends.number (member_names rows) in
          omega (arith, f, l, m);
      short =
          All-set (λ (names : List Name). length names ≤ 4294967296) k.seen.scopes.members ends.number (member_names rows) most here.small.short;
      functions = here.small.functions;
      opened = here.small.opened;
      finished =
          defined-finished T basic k.table here.known.basic.formed here.first t ends.number (member_types rows) is_open ends.types k.seen.scopes.members (member_names rows) below
          ends.some here.small.finished;
    }

    last_reached : (at : Place) → IsReached T [] k (finished t (member_types rows) ends.number (member_names rows) k) b (length k.table)
    last_reached at =
        let judged =
        completed-judged at rows t t k (finished t (member_types rows) ends.number (member_names rows) k) here.known ends.distinct open_here (last_gives at) in
        let first = defined-first T basic k.table here.known.basic.formed here.first t ends.number (member_types rows) is_open ends.types in
        record {
          here = record { known = judged.1.goes.known; first = first; small = last_small; own = here.own };
          grown = judged.1.goes.extends;
          point = point-same (point_at (finished t (member_types rows) ends.number (member_names rows) k)) b (sym ends.after) (sym node);
          way = record {
            first = first;
            small = last_small;
            types = last_length;
            spent = spent-none T k (finished t (member_types rows) ends.number (member_names rows) k) refl refl refl;
          };
        }

    end_passes : (before : Counted) (at : Place) (name : Option Identifier) → are_allowed (one_named before) ≡ true
        → Passes (aggregate_tests (is_taken_at_end k (Some t)) (tag_place at name) (is_empty_row rows) ++ word_tests at (one_named before))
    end_passes before at name ok =
        passes_append (aggregate_tests (is_taken_at_end k (Some t)) (tag_place at name) (is_empty_row rows)) (word_tests at (one_named before))
        (passes_and rule.Redeclared (tag_place at name) (is_taken_at_end k (Some t)) (broken_at rule.Mismatch (tag_place at name) (is_empty_row rows) ∷ []) open_here
        (passes_one rule.Mismatch (tag_place at name) (is_empty_row rows) (some_row rows ends.some))) (word_passes at (one_named before) ok)

  module _ (which : AggregateKind) (at : Place) (name : Option Identifier) (brace : Place) (all : tree.Members) (gm : AreMembersGiven T basic few all) (before : Counted)
      (s : State) (b : Point) (count : ℕ) (here : IsHere T s) where
    end_given : (rows : TypedMembers) (t : TypeId) (j k : State) (inside : Scopes) (c : ℕ) → are_allowed (one_named before) ≡ true
        → begun which at name s ≡ Gives (Some t) j → judge_members all j ≡ Gives rows k → IsReached T (made_by_members rows) s k (record { scopes = inside; node = b.node }) count
        → EndsAggregate T rows t inside b.scopes → IsType k.table t → All (members.IsWhole k.table) (member_types rows)
        → length (member_names rows) ≤ 4294967296
        → IsGivenAs T (made_by_members rows) (judge_specifier before (tree.Aggregate which at name brace all) s) (typed.Aggregate which at name brace rows t) s b count
    end_given rows t j k inside c ok begins gives reached ends there whole most =
        let scopes : k.seen.scopes ≡ inside = ap (λ (a : Point). a.scopes) reached.point in
        let node : k.seen.node ≡ b.node = ap (λ (a : Point). a.node) reached.point in
        let ends_here : EndsAggregate T rows t k.seen.scopes b.scopes = subst (λ (q : Scopes). EndsAggregate T rows t q b.scopes) (sym scopes) ends in
        by ends_here (sym node)
      where
        by : EndsAggregate T rows t k.seen.scopes b.scopes → b.node ≡ k.seen.node
            → IsGivenAs T (made_by_members rows) (judge_specifier before (tree.Aggregate which at name brace all) s) (typed.Aggregate which at name brace rows t) s b count
        by e n = record {
          after = finished t (member_types rows) e.number (member_names rows) k;
          gives =
              judges_aggregate before which at name brace all t rows s j k (Gives (typed.Aggregate which at name brace rows t) (finished t (member_types rows) e.number (member_names rows) k)) begins gives
              (ended_is before which at name brace t rows k (finished t (member_types rows) e.number (member_names rows) k) (end_passes t rows k b reached.here e there whole n most before at name ok)
              (last_gives t rows k b reached.here e there whole n most (tag_place at name)));
          reached =
              subst (λ (made : List Made). IsReached T made s (finished t (member_types rows) e.number (member_names rows) k) b count) (append-nil (made_by_members rows))
              (reached-both T basic (made_by_members rows) [] s k (finished t (member_types rows) e.number (member_names rows) k) (record { scopes = inside; node = b.node }) b count count reached
              (subst (IsReached T [] k (finished t (member_types rows) e.number (member_names rows) k) b) reached.way.types (last_reached t rows k b reached.here e there whole n most (tag_place at name))));
        }

    aggregate_with : (rows : TypedMembers) (t : TypeId) → IsWhole T (distinct T basic) which name all rows t (point_at s) b → are_allowed (one_named before) ≡ true
        → AreUses (used_by_specifier T (typed.Aggregate which at name brace rows t)) (length s.table) count → HasRoom T (made_by_members rows) s → members_holds all ≤ 256
        → IsGivenAs T (made_by_members rows) (judge_specifier before (tree.Aggregate which at name brace all) s) (typed.Aggregate which at name brace rows t) s b count
    aggregate_with rows t w ok uses room holds =
        let g = begin_given which at name t s w.middle uses.0 here w.begins uses.1 in
        let read : AreMembersRead T (distinct T basic) all rows (point_at g.after) (record { scopes = w.inside; node = b.node }) =
        subst (λ (a : Point). AreMembersRead T (distinct T basic) all rows a (record { scopes = w.inside; node = b.node })) (sym g.reached.point) w.members in
        let m =
        gm rows g.after (record { scopes = w.inside; node = b.node }) count g.reached.here read w.ends.distinct
        (uses-at T basic (used_by_members T rows) [] s g.after (record { scopes = w.middle; node = s.seen.node }) uses.0 count g.reached uses.2)
        (room-then T [] (made_by_members rows) s g.after room g.reached.way.spent) holds in
        let types = g.reached.way.types in
        let l = used_there t (length s.table) uses.0 uses.1 in
        let there : IsType g.after.table t = omega (arith, types, l) in
        let names = members-made T rows uses.0 count uses.2 in
        let things = room.things in
        end_given rows t g.after m.given.after w.inside count ok g.gives m.given.gives
        (reached-both T basic [] (made_by_members rows) s g.after m.given.after (record { scopes = w.middle; node = s.seen.node }) (record { scopes = w.inside; node = b.node }) uses.0 count g.reached m.given.reached)
        w.ends (still_in g.after.table m.given.after.table m.given.reached.grown t there) m.whole (omega (arith, names, things))

  pub aggregate-whole-given : (which : AggregateKind) (at : Place) (name : Option Identifier) (brace : Place) (all : tree.Members) → AreMembersGiven T basic few all
      → IsSpecifierGiven T basic (tree.Aggregate which at name brace all)
  aggregate-whole-given which at name brace all gm before one s b count here h allowed uses room holds =
      let i = is_specifier T (distinct T basic) (tree.Aggregate which at name brace all) one (point_at s) b h in
      subst (λ (y : TypedSpecifier). IsGivenAs T (made_by_specifier y) (judge_specifier before (tree.Aggregate which at name brace all) s) y s b count) (sym i.3)
      (aggregate_with which at name brace all gm before s b count here i.0 i.1 i.2 (subst (λ (y : TypedSpecifier). are_allowed (counting y before) ≡ true) i.3 allowed)
      (subst (λ (y : TypedSpecifier). AreUses (used_by_specifier T y) (length s.table) count) i.3 uses) (subst (λ (y : TypedSpecifier). HasRoom T (made_by_specifier y) s) i.3 room) holds)

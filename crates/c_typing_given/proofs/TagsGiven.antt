-- Structs and unions that are named for the first time are given, and so is `struct S`.
use Rattle.std.proofs.Common.{◌≡◌, ◌≤◌, ◌<◌, ◌+◌, ℕ, zero, suc, true, List, [], ◌∷◌, ◌++◌, length, Option, Some, None, refl, ap, sym, subst, ◌∙◌, inl, inr, arith}
use Rattle.std.specs.List.{All}
use Rattle.std.proofs.lemmas.List.{length-append}
use Rattle.std.proofs.lemmas.List.Elements.{All-nil, All-cons, All-append}
use Rattle.cc_base.specs.declared.place.Place.{Place}
use Rattle.cc_base.specs.declared.number.TypeId.{TypeId}
use Rattle.c_types.specs.Table.{Table, HasShape, IsComplete, parts_of_shape, is_empty}
use Rattle.c_tree.specs.declared.leaf.Identifier.{Identifier}
use Rattle.c_tree.specs.declared.operator.AggregateKind.{AggregateKind}
use Rattle.c_tree.specs.declared.operator.AggregateKind.TheVariants as kind
use Rattle.c_tree.specs.Tree as tree
use Rattle.c_tree.specs.TypedTree as typed
use Rattle.c_tree.specs.TypedTree.{TypedSpecifier}
use Rattle.c_tree.specs.TypedParts.{made_by_specifier}
use Rattle.c_typing.specs.declared.declared.Tag.{Tag}
use Rattle.c_typing.specs.declared.declared.Tag.TheVariants as tag
use Rattle.c_typing.specs.Declarators.{Counted, counting, are_allowed}
use Rattle.c_typing.specs.Extensions.{IsExtended}
use Rattle.c_typing.specs.Judging.{State, Gives, ◌>>=◌, by_known, type_with}
use Rattle.c_typing.specs.Operations.{numbered}
use Rattle.c_typing.specs.Refusals.{one_named}
use Rattle.c_typing.specs.Rules.{number_of_shape}
use Rattle.c_typing.specs.Scopes.{Name, Scopes, Seen, tag_in, with_scopes, members_named}
use Rattle.c_typing.specs.Settled.{IsBasic}
use Rattle.c_typing.specs.Specifying.{new_aggregate, in_scopes, tagged_as}
use Rattle.c_typing.specs.Tests.{word_tests, tag_tests, is_other_tag, is_tag_of}
use Rattle.c_typing.specs.Typing.{IsTagged, IsNewAggregate, shape_of_kind, counting_aggregate, tagging}
use Rattle.c_typing.specs.Walks.{judge_specifier}
use Rattle.c_typing_laws.proofs.JudgedTrees.{specifier-judged}
use Rattle.c_typing_unique.specs.Points.{Point}
use Rattle.c_typing_unique.specs.Sameness.{HasOwnFunctions}
use Rattle.c_typing_unique.proofs.Reading.{point-same}
use Rattle.c_typing_unique.proofs.SpecifierSteps.{is_specifier}
use Rattle.c_typing_exact.proofs.SameParts.{distinct}
use Rattle.c_typing_exact.proofs.SpecifierExact.{word_passes}
use Rattle.c_typing_exact.proofs.Unbroken.{passes_append}
use Rattle.c_typing_given.specs.Given.{point_at, IsHere, IsGivenAs}
use Rattle.c_typing_given.specs.Spending.{HasSpent, IsSmall}
use Rattle.c_type_order.specs.TypesUsed.{IsUse, AreUses, used_by_specifier}
use Rattle.c_typing_given.proofs.LevelsKept.{tagging-levels}
use Rattle.c_typing_given.proofs.PlacesGiven.{numbered-is}
use Rattle.c_typing_given.proofs.Settling.{naming}
use Rattle.c_typing_given.proofs.SpecifiersGiven.{IsSpecifierGiven, tag-passes, judges-tagged, tagged-new, tagged-seen}
use Rattle.c_typing_given.proofs.Spent.{spent-none}
use Rattle.c_typing_given.proofs.Steps.{then-is}
use Rattle.c_typing_given.proofs.TypeGiven.{type-given}
use Rattle.c_typing_given.proofs.ValuesGiven.{use-one}

kind_number : (which : AggregateKind) (n : ℕ) → number_of_shape (shape_of_kind which n) ≡ Some n
kind_number kind.Struct n = refl
kind_number kind.Union n = refl

kind_parts : (J : Table) (which : AggregateKind) (n : ℕ) → All (IsComplete J) (parts_of_shape (shape_of_kind which n) [])
kind_parts J kind.Struct n = All-nil (IsComplete J)
kind_parts J kind.Union n = All-nil (IsComplete J)

pub tagging-keeps : (name : Option Identifier) (w : Tag) (c : Scopes) → ((tagging name w c).members ≡ c.members) × ((tagging name w c).defined ≡ c.defined)
tagging-keeps None w c = (refl, refl)
tagging-keeps (Some name) w c = (refl, refl)

-- a new struct or union has no names of members so far
more_names : (all : List (List Name)) (n : ℕ) → is_empty (members_named (naming (all ++ [] ∷ [])) n) ≡ is_empty (members_named (naming all) n)
more_names [] zero = refl
more_names [] (suc n) = refl
more_names (names ∷ all) zero = refl
more_names (names ∷ all) (suc n) = more_names all n

abbrev tagged_state : Option Identifier → AggregateKind → TypeId → State → State
tagged_state name which t s = record s { seen = with_scopes s.seen (tagging name (tag.Aggregate which t) (counting_aggregate s.seen.scopes)) }

aggregate_is : (which : AggregateKind) (at : Place) (name : Option Identifier) (t : TypeId) (s k : State) → length s.seen.scopes.members < 4294967296
    → type_with at (shape_of_kind which (length s.seen.scopes.members)) s ≡ Gives t k → new_aggregate which at name s ≡ Gives t (tagged_state name which t k)
unfolding new_aggregate
aggregate_is which at name t s k few h =
    then-is (by_known (λ (q : State). numbered at (Some (length q.seen.scopes.members))))
    (λ (number : ℕ). type_with at (shape_of_kind which number) >>= (λ (u : TypeId). in_scopes (λ (c : Scopes). tagging name (tag.Aggregate which u) (counting_aggregate c)) u))
    (length s.seen.scopes.members) s s (Gives t (tagged_state name which t k)) (numbered-is at (length s.seen.scopes.members) s few)
    (then-is (type_with at (shape_of_kind which (length s.seen.scopes.members))) (λ (u : TypeId). in_scopes (λ (c : Scopes). tagging name (tag.Aggregate which u) (counting_aggregate c)) u)
    t s k (Gives t (tagged_state name which t k)) h refl)

module _ (T : Table) (basic : IsBasic T) where
  -- a new struct or union is given with the next number, as a new type
  pub record IsAggregateGiven (which : AggregateKind) (at : Place) (name : Option Identifier) (t : TypeId) (s : State) (count : ℕ) : Type 0 where
    pub after : State
    pub gives : new_aggregate which at name s ≡ Gives t after
    pub first : IsExtended after.table T
    pub types : length after.table ≡ count
    pub scopes : after.seen.scopes ≡ tagging name (tag.Aggregate which t) (counting_aggregate s.seen.scopes)
    pub small : IsSmall after
    pub spent : HasSpent T [] s after

  pub aggregate-given : (which : AggregateKind) (at : Place) (name : Option Identifier) (t : TypeId) (s : State) (count : ℕ) → IsHere T s
      → HasShape T t (shape_of_kind which (length s.seen.scopes.members)) → IsUse t (length s.table) count → IsAggregateGiven which at name t s count
  aggregate-given which at name t s count here shape used =
      let n : ℕ = length s.seen.scopes.members in
      let few = here.small.few in
      let longer = here.first.longer in
      let most = basic.formed.small in
      let g = type-given T basic at (shape_of_kind which (length s.seen.scopes.members)) t s count here.known here.first shape used (kind_parts s.table which (length s.seen.scopes.members)) in
      let seen = g.seen in
      let scopes : (tagged_state name which t g.after).seen.scopes ≡ tagging name (tag.Aggregate which t) (counting_aggregate s.seen.scopes) =
      ap (λ (v : Seen). tagging name (tag.Aggregate which t) (counting_aggregate v.scopes)) seen in
      let members : (tagged_state name which t g.after).seen.scopes.members ≡ s.seen.scopes.members ++ [] ∷ [] =
      ap (λ (c : Scopes). c.members) scopes ∙ (tagging-keeps name (tag.Aggregate which t) (counting_aggregate s.seen.scopes)).0 in
      let defined : (tagged_state name which t g.after).seen.scopes.defined ≡ s.seen.scopes.defined =
      ap (λ (c : Scopes). c.defined) scopes ∙ (tagging-keeps name (tag.Aggregate which t) (counting_aggregate s.seen.scopes)).1 in
      let next_one = new_type used in
      let types = g.count in
      record {
        after = tagged_state name which t g.after;
        gives = aggregate_is which at name t s g.after (omega (arith, few, longer, most)) g.gives;
        first = g.first;
        types = g.count;
        scopes = scopes;
        small = record {
          few = let l = ap length members in omega (arith, l, few, next_one, types, length-append s.seen.scopes.members ([] ∷ []));
          short =
              subst (λ (all : List (List Name)). All (λ (names : List Name). length names ≤ 4294967296) all) (sym members)
              (All-append (λ (names : List Name). length names ≤ 4294967296) s.seen.scopes.members ([] ∷ []) here.small.short
              (All-cons (λ (names : List Name). length names ≤ 4294967296) [] [] (omega arith) (All-nil (λ (names : List Name). length names ≤ 4294967296))));
          functions = let f = here.small.functions in let l = ap length defined in omega (arith, f, l);
          opened =
              let o = here.small.opened in
              let l = ap (λ (c : Scopes). length c.levels) scopes ∙ tagging-levels name (tag.Aggregate which t) (counting_aggregate s.seen.scopes) in
              omega (arith, o, l);
          finished = λ u m p full.
              let own = g.bare u m p full in
              ap (λ (all : List (List Name)). is_empty (members_named (naming all) m)) members ∙ more_names s.seen.scopes.members m
              ∙ here.small.finished u m own.0 own.1;
        };
        spent = spent-none T s (tagged_state name which t g.after) (ap (λ (v : Seen). v.node) seen) (ap (λ (v : Seen). v.globals) seen) (ap (λ (v : Seen). v.cells) seen);
      }
    where
      -- no struct of the table has the number so far
      new_type : IsUse t (length s.table) count → count ≡ length s.table + 1
      new_type (inr u) = u.1
      new_type (inl u) =
          let below =
          here.known.numbered.given t (length s.seen.scopes.members)
          (ap number_of_shape (sym (here.first.shapes t u.0) ∙ shape.1) ∙ kind_number which (length s.seen.scopes.members)) in
          absurd (omega (arith, below))

  -- `struct S` where no tag is seen
  tagged_fresh : (which : AggregateKind) (at : Place) (name : Identifier) (before : Counted) (t : TypeId) (s : State) (b : Point) (count : ℕ) → IsHere T s
      → tag_in s.seen.scopes.levels name.bytes ≡ None → IsNewAggregate T which (Some name) t s.seen.scopes b.scopes → b.node ≡ s.seen.node → are_allowed (one_named before) ≡ true
      → IsUse t (length s.table) count → IsGivenAs T [] (judge_specifier before (tree.Tagged which at name) s) (typed.Tagged which at name t) s b count
  tagged_fresh which at name before t s b count here unknown new node ok used =
      let g = aggregate-given which name.place (Some name) t s count here new.shape used in
      let pass =
      passes_append (tag_tests s.seen.scopes (is_tag_of which) name.bytes name.place) (word_tests at (one_named before))
      (tag-passes s.seen.scopes (is_tag_of which) name.bytes name.place (ap (is_other_tag (is_tag_of which)) unknown)) (word_passes at (one_named before) ok) in
      let gives = judges-tagged before which at name t s g.after pass (ap (λ (o : Option Tag). tagged_as which name o s) unknown ∙ tagged-new which name s ∙ g.gives) in
      let law = specifier-judged (tree.Tagged which at name) before (typed.Tagged which at name t) s g.after here.known gives in
      let nodes = g.spent.nodes in
      record {
        after = g.after;
        gives = gives;
        reached = record {
          here = record {
            known = law.goes.known;
            first = g.first;
            small = g.small;
            own = subst HasOwnFunctions (sym g.scopes) here.own;
          };
          grown = law.goes.extends;
          point = point-same (point_at g.after) b (g.scopes ∙ sym new.after) (omega (arith, nodes, node));
          way = record { first = g.first; small = g.small; types = g.types; spent = g.spent };
        };
      }

  pub tagged-given : (which : AggregateKind) (at : Place) (name : Identifier) → IsSpecifierGiven T basic (tree.Tagged which at name)
  tagged-given which at name before one s b count here h allowed uses room holds =
      subst (λ (y : TypedSpecifier). IsGivenAs T (made_by_specifier y) (judge_specifier before (tree.Tagged which at name) s) y s b count) (sym i.3)
      (by (tag_in s.seen.scopes.levels name.bytes) refl i.1)
    where
      i : (t : TypeId) × IsTagged T (tag_in s.seen.scopes.levels name.bytes) which name t s.seen.scopes b.scopes × (b.node ≡ s.seen.node) × (one ≡ typed.Tagged which at name t)
      i = is_specifier T (distinct T basic) (tree.Tagged which at name) one (point_at s) b h

      ok : are_allowed (one_named before) ≡ true
      ok = subst (λ (y : TypedSpecifier). are_allowed (counting y before) ≡ true) i.3 allowed

      used : IsUse i.0 (length s.table) count
      used = use-one i.0 (length s.table) count (subst (λ (y : TypedSpecifier). AreUses (used_by_specifier T y) (length s.table) count) i.3 uses)

      by : (o : Option Tag) → tag_in s.seen.scopes.levels name.bytes ≡ o → IsTagged T o which name i.0 s.seen.scopes b.scopes
          → IsGivenAs T [] (judge_specifier before (tree.Tagged which at name) s) (typed.Tagged which at name i.0) s b count
      by (Some found) q w = tagged-seen T basic which at name before i.0 s b count here (q ∙ ap Some w.0) w.1 i.2 ok used
      by None q w = tagged_fresh which at name before i.0 s b count here q w i.2 ok used

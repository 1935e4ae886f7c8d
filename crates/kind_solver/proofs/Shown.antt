use Rattle.std.proofs.Common.{ℕ, true, List, [], ◌∷◌, ◌++◌, Option, None, Some, ◌≡◌, ◌<◌, ◌≤◌, refl, sym, ap, subst, ◌∙◌, Contains, All, filter, arith, inl, inr}
use Rattle.std.specs.List.{flat_map}
use Rattle.std.specs.Prelude.{is_none}
use Rattle.std.proofs.lemmas.List.Elements.{All-contains, All-from_recursion, Contains-append_left, Contains-append_right, Contains-append_cases}
use Rattle.std.proofs.lemmas.Option.{none-some, same_Some}
use Rattle.std.proofs.lemmas.Bool.{false≢true}
use Rattle.kind_solver.specs.declared.cause.Cause.{Cause}
use Rattle.kind_solver.specs.declared.constraint.Constraint.{Constraint}
use Rattle.kind_solver.specs.declared.gathering.Edge.{Edge}
use Rattle.kind_solver.specs.declared.gathering.Origin.{Origin}
use Rattle.kind_solver.specs.declared.gathering.Pass.TheVariants as pass
use Rattle.kind_solver.specs.declared.gathering.Start.TheVariants as start
use Rattle.kind_solver.specs.Constraints.{AreWithin}
use Rattle.kind_solver.specs.Order.{rank, Fits}
use Rattle.kind_solver.specs.Chains.{edge, origin, edges, origins, Chain}
use Rattle.kind_solver.specs.Sets.{Holds, FirstNeedFrom, WildFrom, RisesFrom, IsFree, StartsNeed, NeedFrom, TypeFrom}
use Rattle.kind_solver.specs.Tables.{Table, entry, Shows, OriginsWithin, OriginsFit, EdgesWithin, HasFitPlace, across, across_from, is_outside, free_origins}
use Rattle.kind_solver.proofs.Members.{Contains-head, Contains-cases, contains_nothing, into_flat_map, from_flat_map, into_filter, from_filter, All-flat_map, all_of_option}
use Rattle.kind_solver.proofs.Gathered.{edges_within, origins_within, origins_fit}

-- From what a table shows to what the definitions say.

-- A table shows a relation also where its causes are enough for it.
pub shows_by : (F G : Cause → ℕ → Type 0) (count : ℕ) (t : Table) → Shows F count t
    → ((n : ℕ) (c : Cause) → G c n → Fits c)
    → ((n : ℕ) (c : Cause) → F c n → G c n)
    → ((n : ℕ) (c : Cause) → G c n → (b : Cause) × F b n × (rank b ≤ rank c))
    → Shows G count t
shows_by F G count t s fits into back = record {
  len = s.len;
  fits = fits;
  real = λ n c within e. into n c (s.real n c within e);
  first = λ n c within g.
      let f = back n c g in
      let found = s.first n f.0 within f.1 in
      (found.0, found.1, omega (arith, found.2, f.2));
}

-- An entry is None exactly where nothing has the relation.
none_cases : (o : Option Cause) → is_none o ≡ true → o ≡ None
none_cases None e = refl
none_cases (Some c) e = absurd (false≢true e)

pub no_entry : (F : Cause → ℕ → Type 0) (count n : ℕ) (t : Table) → Shows F count t → n < count → entry t n ≡ None → ¬ (Holds F n)
no_entry F count n t s within e h =
    let found = s.first n h.0 within h.1 in
    none-some found.0 (sym e ∙ found.1)

entry_cases : (F : Cause → ℕ → Type 0) (n : ℕ) (o : Option Cause) → ((c : Cause) → o ≡ Some c → F c n) → ¬ (Holds F n) → is_none o ≡ true
entry_cases F n None real h = refl
entry_cases F n (Some c) real h = absurd (h (c, real c refl))

pub outside_from : (F : Cause → ℕ → Type 0) (count n : ℕ) (c : Cause) (t : Table) → Shows F count t → n < count
    → ¬ (Holds F n) → is_outside t (origin n c) ≡ true
outside_from F count n c t s within h = entry_cases F n (entry t n) (λ d e. s.real n d within e) h

pub from_outside : (F : Cause → ℕ → Type 0) (count n : ℕ) (c : Cause) (t : Table) → Shows F count t → n < count
    → is_outside t (origin n c) ≡ true → ¬ (Holds F n)
from_outside F count n c t s within e = no_entry F count n t s within (none_cases (entry t n) e)

-- The origins across edges.

pub across_within : (count : ℕ) (es : List Edge) (t : Table) → EdgesWithin count es → OriginsWithin count (flat_map (across t) es)
across_within count es t h =
    All-flat_map (λ (e : Edge). (e.from.0 < count) × (e.to.0 < count)) (λ (s : Origin). s.node.0 < count) (across t)
    (λ e within. All-from_recursion (λ (s : Origin). s.node.0 < count) (across t e)
    (all_of_option (λ (s : Origin). s.node.0 < count) (λ c. origin e.to.0 c) (entry t e.from.0) (λ c at. within.1))) es h

pub across_fit : (F : Cause → ℕ → Type 0) (count : ℕ) (es : List Edge) (t : Table) → EdgesWithin count es → Shows F count t
    → OriginsFit (flat_map (across t) es)
across_fit F count es t h s =
    All-flat_map (λ (e : Edge). (e.from.0 < count) × (e.to.0 < count)) (λ (s : Origin). Fits s.cause) (across t)
    (λ e within. All-from_recursion (λ (s : Origin). Fits s.cause) (across t e)
    (all_of_option (λ (s : Origin). Fits s.cause) (λ c. origin e.to.0 c) (entry t e.from.0)
    (λ c at. s.fits e.from.0 c (s.real e.from.0 c within.0 at)))) es h

at_across : (o : Option Cause) (e : Edge) (b : Cause) → o ≡ Some b → Contains (across_from o e) (origin e.to.0 b)
at_across None e b h = absurd (none-some b h)
at_across (Some c) e b h = subst (λ d. Contains (origin e.to.0 c ∷ []) (origin e.to.0 d)) (same_Some c b h) (Contains-head (origin e.to.0 c) [])

from_across : (o : Option Cause) (e : Edge) (n : ℕ) (b : Cause) → Contains (across_from o e) (origin n b) → (o ≡ Some b) × (e.to.0 ≡ n)
from_across None e n b h = absurd (contains_nothing (origin n b) h)
from_across (Some c) e n b h =
    elim (Contains-cases (origin e.to.0 c) (origin n b) [] h) [
      | inl same ↦ (ap (λ (s : Origin). Some s.cause) same, ap (λ (s : Origin). s.node.0) same)
      | inr later ↦ absurd (contains_nothing (origin n b) later)
    ]

-- The nodes that have to be WILD.

wild_fits : (list : List Constraint) (count : ℕ) (first : Table) → All HasFitPlace list → Shows (FirstNeedFrom list) count first
    → (n : ℕ) (c : Cause) → WildFrom list c n → Fits c
wild_fits list count first fit s n c w =
    elim w.1 [
      | inl forced ↦ All-contains (λ (s : Origin). Fits s.cause) (origins start.Wild list) (origin w.0 c) (origins_fit start.Wild list fit) forced
      | inr turned ↦ s.fits turned.0 c turned.1
    ]

wild_into : (list : List Constraint) (count : ℕ) (first : Table) → AreWithin count list → Shows (FirstNeedFrom list) count first
    → (n : ℕ) (c : Cause)
    → Chain (origins start.Wild list ++ flat_map (across first) (edges pass.Turn list)) (edges pass.Wild list) c n → WildFrom list c n
wild_into list count first within s n c chain =
    elim (Contains-append_cases (origins start.Wild list) (flat_map (across first) (edges pass.Turn list)) (origin chain.0 c) chain.1) [
      | inl forced ↦ (chain.0, inl forced, chain.2)
      | inr turned ↦
          let found = from_flat_map (across first) (edges pass.Turn list) (origin chain.0 c) turned in
          let at = from_across (entry first found.0.from.0) found.0 chain.0 c found.2 in
          let ends = All-contains (λ (e : Edge). (e.from.0 < count) × (e.to.0 < count)) (edges pass.Turn list) found.0
          (edges_within count pass.Turn list within) found.1 in (
            chain.0,
            inr (
              found.0.from.0,
              s.real found.0.from.0 c ends.0 at.0,
              subst (λ m. Contains (edges pass.Turn list) (edge found.0.from.0 m)) at.1 found.1,
            ),
            chain.2,
          )
    ]

wild_back : (list : List Constraint) (count : ℕ) (first : Table) → AreWithin count list → Shows (FirstNeedFrom list) count first
    → (n : ℕ) (c : Cause) → WildFrom list c n
    → (b : Cause)
    × Chain (origins start.Wild list ++ flat_map (across first) (edges pass.Turn list)) (edges pass.Wild list) b n
    × (rank b ≤ rank c)
wild_back list count first within s n c w =
    elim w.1 [
      | inl forced ↦
          (c, (w.0, Contains-append_left (origins start.Wild list) (flat_map (across first) (edges pass.Turn list)) (origin w.0 c) forced, w.2), omega arith)
      | inr turned ↦
          let ends = All-contains (λ (e : Edge). (e.from.0 < count) × (e.to.0 < count)) (edges pass.Turn list) (edge turned.0 w.0)
          (edges_within count pass.Turn list within) turned.2 in
          let found = s.first turned.0 c ends.0 turned.1 in (
            found.0,
            (
              w.0,
              Contains-append_right (origins start.Wild list) (flat_map (across first) (edges pass.Turn list)) (origin w.0 found.0)
                  (into_flat_map (across first) (edges pass.Turn list) (edge turned.0 w.0) (origin w.0 found.0) turned.2
                  (at_across (entry first turned.0) (edge turned.0 w.0) found.0 found.1)),
              w.2,
            ),
            found.2,
          )
    ]

pub wild_shown : (list : List Constraint) (count : ℕ) (first t : Table) → AreWithin count list → All HasFitPlace list
    → Shows (FirstNeedFrom list) count first
    → Shows (Chain (origins start.Wild list ++ flat_map (across first) (edges pass.Turn list)) (edges pass.Wild list)) count t
    → Shows (WildFrom list) count t
wild_shown list count first t within fit s shown =
    shows_by (Chain (origins start.Wild list ++ flat_map (across first) (edges pass.Turn list)) (edges pass.Wild list)) (WildFrom list)
    count t shown (wild_fits list count first fit s) (wild_into list count first within s) (wild_back list count first within s)

-- The nodes that need SEQ or WILD.

start_need_fits : (list : List Constraint) → All HasFitPlace list → (n : ℕ) (c : Cause) → StartsNeed list c n → Fits c
start_need_fits list fit n c h =
    elim h [
      | inl need ↦ All-contains (λ (s : Origin). Fits s.cause) (origins start.Sequence list) (origin n c) (origins_fit start.Sequence list fit) need
      | inr loose ↦ All-contains (λ (s : Origin). Fits s.cause) (origins start.Loose list) (origin n c) (origins_fit start.Loose list fit) loose.0
    ]

module _ (list : List Constraint) (count : ℕ) (first wild rises : Table) (within : AreWithin count list)
    (sf : Shows (FirstNeedFrom list) count first) (sw : Shows (WildFrom list) count wild) (sr : Shows (RisesFrom list) count rises) where
  loose_node : (n : ℕ) (c : Cause) → Contains (origins start.Loose list) (origin n c) → n < count
  loose_node n c h = All-contains (λ (s : Origin). s.node.0 < count) (origins start.Loose list) (origin n c) (origins_within count start.Loose list within) h

  free_from : (n : ℕ) (c : Cause) → Contains (free_origins first wild rises (origins start.Loose list)) (origin n c)
      → Contains (origins start.Loose list) (origin n c) × IsFree list n
  free_from n c h =
      let third = from_filter (is_outside rises) (filter (is_outside wild) (filter (is_outside first) (origins start.Loose list))) (origin n c) h in
      let second = from_filter (is_outside wild) (filter (is_outside first) (origins start.Loose list)) (origin n c) third.0 in
      let one = from_filter (is_outside first) (origins start.Loose list) (origin n c) second.0 in
      let node = loose_node n c one.0 in (
        one.0,
        (
          from_outside (FirstNeedFrom list) count n c first sf node one.1,
          from_outside (WildFrom list) count n c wild sw node second.1,
          from_outside (RisesFrom list) count n c rises sr node third.1,
        ),
      )

  into_free : (n : ℕ) (c : Cause) → Contains (origins start.Loose list) (origin n c) → IsFree list n
      → Contains (free_origins first wild rises (origins start.Loose list)) (origin n c)
  into_free n c h free =
      let node = loose_node n c h in
      into_filter (is_outside rises) (filter (is_outside wild) (filter (is_outside first) (origins start.Loose list))) (origin n c)
      (into_filter (is_outside wild) (filter (is_outside first) (origins start.Loose list)) (origin n c)
      (into_filter (is_outside first) (origins start.Loose list) (origin n c) h
      (outside_from (FirstNeedFrom list) count n c first sf node free.0))
      (outside_from (WildFrom list) count n c wild sw node free.1))
      (outside_from (RisesFrom list) count n c rises sr node free.2)

  need_into : (n : ℕ) (c : Cause)
      → Chain (origins start.Sequence list ++ free_origins first wild rises (origins start.Loose list)) (edges pass.Sequence list) c n
      → NeedFrom list c n
  need_into n c chain =
      elim (Contains-append_cases (origins start.Sequence list) (free_origins first wild rises (origins start.Loose list)) (origin chain.0 c) chain.1) [
        | inl need ↦ (chain.0, inl need, chain.2)
        | inr free ↦ (chain.0, inr (free_from chain.0 c free), chain.2)
      ]

  need_back : (n : ℕ) (c : Cause) → NeedFrom list c n
      → (b : Cause)
      × Chain (origins start.Sequence list ++ free_origins first wild rises (origins start.Loose list)) (edges pass.Sequence list) b n
      × (rank b ≤ rank c)
  need_back n c h =
      elim h.1 [
        | inl need ↦
            (c, (h.0, Contains-append_left (origins start.Sequence list) (free_origins first wild rises (origins start.Loose list)) (origin h.0 c) need, h.2), omega arith)
        | inr loose ↦ (
          c,
          (
            h.0,
            Contains-append_right (origins start.Sequence list) (free_origins first wild rises (origins start.Loose list)) (origin h.0 c)
                (into_free h.0 c loose.0 loose.1),
            h.2,
          ),
          omega arith,
        )
      ]

pub need_shown : (list : List Constraint) (count : ℕ) (first wild rises t : Table) → AreWithin count list → All HasFitPlace list
    → Shows (FirstNeedFrom list) count first → Shows (WildFrom list) count wild → Shows (RisesFrom list) count rises
    → Shows (Chain (origins start.Sequence list ++ free_origins first wild rises (origins start.Loose list)) (edges pass.Sequence list)) count t
    → Shows (NeedFrom list) count t
need_shown list count first wild rises t within fit sf sw sr shown =
    shows_by (Chain (origins start.Sequence list ++ free_origins first wild rises (origins start.Loose list)) (edges pass.Sequence list))
    (NeedFrom list) count t shown (λ n c h. start_need_fits list fit h.0 c h.1)
    (need_into list count first wild rises within sf sw sr) (need_back list count first wild rises within sf sw sr)

-- The nodes that carry a type.

module _ (list : List Constraint) (count : ℕ) (needs wild : Table) (within : AreWithin count list)
    (sn : Shows (NeedFrom list) count needs) (sw : Shows (WildFrom list) count wild) where
  type_into : (n : ℕ) (c : Cause)
      → Chain (filter (is_outside wild) (filter (is_outside needs) (origins start.Type list))) (edges pass.Type list) c n
      → TypeFrom list c n
  type_into n c chain =
      let second = from_filter (is_outside wild) (filter (is_outside needs) (origins start.Type list)) (origin chain.0 c) chain.1 in
      let one = from_filter (is_outside needs) (origins start.Type list) (origin chain.0 c) second.0 in
      let node = All-contains (λ (s : Origin). s.node.0 < count) (origins start.Type list) (origin chain.0 c)
      (origins_within count start.Type list within) one.0 in (
        chain.0,
        (
          one.0,
          from_outside (NeedFrom list) count chain.0 c needs sn node one.1,
          from_outside (WildFrom list) count chain.0 c wild sw node second.1,
        ),
        chain.2,
      )

  type_back : (n : ℕ) (c : Cause) → TypeFrom list c n
      → (b : Cause)
      × Chain (filter (is_outside wild) (filter (is_outside needs) (origins start.Type list))) (edges pass.Type list) b n
      × (rank b ≤ rank c)
  type_back n c h =
      let node = All-contains (λ (s : Origin). s.node.0 < count) (origins start.Type list) (origin h.0 c)
      (origins_within count start.Type list within) h.1.0 in (
        c,
        (
          h.0,
          into_filter (is_outside wild) (filter (is_outside needs) (origins start.Type list)) (origin h.0 c)
              (into_filter (is_outside needs) (origins start.Type list) (origin h.0 c) h.1.0
              (outside_from (NeedFrom list) count h.0 c needs sn node h.1.1))
              (outside_from (WildFrom list) count h.0 c wild sw node h.1.2),
          h.2,
        ),
        omega arith,
      )

pub type_shown : (list : List Constraint) (count : ℕ) (needs wild t : Table) → AreWithin count list → All HasFitPlace list
    → Shows (NeedFrom list) count needs → Shows (WildFrom list) count wild
    → Shows (Chain (filter (is_outside wild) (filter (is_outside needs) (origins start.Type list))) (edges pass.Type list)) count t
    → Shows (TypeFrom list) count t
type_shown list count needs wild t within fit sn sw shown =
    shows_by (Chain (filter (is_outside wild) (filter (is_outside needs) (origins start.Type list))) (edges pass.Type list))
    (TypeFrom list) count t shown
    (λ n c h. All-contains (λ (s : Origin). Fits s.cause) (origins start.Type list) (origin h.0 c) (origins_fit start.Type list fit) h.1.0)
    (type_into list count needs wild within sn sw) (type_back list count needs wild within sn sw)

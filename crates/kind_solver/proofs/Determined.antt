use Rattle.std.proofs.Common.{ℕ, zero, suc, List, Option, None, Some, ◌≡◌, ◌<◌, Contains, refl, sym, ap, subst, ◌∙◌, get_or, inl, inr}
use Rattle.std.proofs.lemmas.List.{ext_get_or}
use Rattle.std.proofs.lemmas.Bool.{cases_order}
use Rattle.cc_base.specs.Kinds.{kind_at}
use Rattle.cc_base.specs.declared.kind.Kind.{Kind}
use Rattle.cc_base.specs.declared.kind.Kind.TheVariants.{Safe, Seq, Rtti, Wild}
use Rattle.cc_base.specs.declared.number.NodeId.{NodeId}
use Rattle.kind_solver.specs.declared.cause.Cause.{Cause}
use Rattle.kind_solver.specs.declared.constraint.Why.{Why}
use Rattle.kind_solver.specs.declared.constraint.Why.TheVariants.{Arith, Integer, Down, Tile, Bad, Union}
use Rattle.kind_solver.specs.declared.constraint.Constraint.{Constraint}
use Rattle.kind_solver.specs.declared.gathering.Edge.{Edge}
use Rattle.kind_solver.specs.declared.gathering.Pass.{Pass}
use Rattle.kind_solver.specs.declared.gathering.Pass.TheVariants as pass
use Rattle.kind_solver.specs.declared.gathering.Start.{Start}
use Rattle.kind_solver.specs.declared.gathering.Start.TheVariants as start
use Rattle.kind_solver.specs.Order.{why_order, ComesBefore}
use Rattle.kind_solver.specs.Constraints.{HaveSameMembers}
use Rattle.kind_solver.specs.Chains.{edge, origin, edges_of, origins_of, edges, origins, Path, Leads}
use Rattle.kind_solver.specs.Sets.{Holds, FirstNeedFrom, TurnsWild, WildFrom, RisesFrom, IsFree, StartsNeed, NeedFrom, TypeFrom, ChainTo, HasKind, HasCause, AreKinds, AreCauses}
use Rattle.kind_solver.proofs.Members.{into_flat_map, from_flat_map}
use Rattle.kind_solver.proofs.Solution.{same_kinds}

-- A list has one answer.

why_at : ℕ → Why
why_at zero = Arith
why_at (suc zero) = Integer
why_at (suc (suc zero)) = Down
why_at (suc (suc (suc zero))) = Tile
why_at (suc (suc (suc (suc zero)))) = Bad
why_at (suc (suc (suc (suc (suc n))))) = Union

why_back : (w : Why) → why_at (why_order w) ≡ w
unfolding why_at
why_back Arith = refl
why_back Integer = refl
why_back Down = refl
why_back Tile = refl
why_back Bad = refl
why_back Union = refl

cause_at : ℕ → ℕ → Why → Cause
cause_at line col why = record { site = record { line = line; col = col }; why = why }

same_parts : (a b : Cause) → a.site.line ≡ b.site.line → a.site.col ≡ b.site.col → why_order a.why ≡ why_order b.why → a ≡ b
unfolding cause_at
same_parts a b line col why =
    let reason : a.why ≡ b.why = sym (why_back a.why) ∙ ap why_at why ∙ why_back b.why in
    ap (λ l. cause_at l a.site.col a.why) line ∙ ap (λ c. cause_at b.site.line c a.why) col
    ∙ ap (λ w. cause_at b.site.line b.site.col w) reason

same_cause : (a b : Cause) → ¬ (ComesBefore a b) → ¬ (ComesBefore b a) → a ≡ b
same_cause a b not_before not_after =
    elim (cases_order a.site.line b.site.line) [
      | inl line ↦ elim (cases_order a.site.col b.site.col) [
        | inl col ↦ elim (cases_order (why_order a.why) (why_order b.why)) [
          | inl why ↦ same_parts a b line col why
          | inr other ↦ elim other [
            | inl less ↦ absurd (not_before (inr (line, col, less)))
            | inr more ↦ absurd (not_after (inr (sym line, sym col, more)))
          ]
        ]
        | inr other ↦ elim other [
          | inl less ↦ absurd (not_before (inl (inr (line, less))))
          | inr more ↦ absurd (not_after (inl (inr (sym line, more))))
        ]
      ]
      | inr other ↦ elim other [
        | inl less ↦ absurd (not_before (inl (inl less)))
        | inr more ↦ absurd (not_after (inl (inl more)))
      ]
    ]

one_cause : (list : List Constraint) (n : ℕ) (kind : Kind) (a b : Option Cause) → HasCause list n kind a → HasCause list n kind b → a ≡ b
one_cause list n kind None None ha hb = refl
one_cause list n kind None (Some b) ha hb = absurd (subst (λ k. ChainTo list k b n) ha hb.0)
one_cause list n kind (Some a) None ha hb = absurd (subst (λ k. ChainTo list k a n) hb ha.0)
one_cause list n kind (Some a) (Some b) ha hb = ap Some (same_cause a b (hb.1 a ha.0) (ha.1 b hb.0))

pub one_table : (list : List Constraint) (count : ℕ) (kinds others : List Kind) → AreKinds list count kinds → AreKinds list count others
    → kinds ≡ others
one_table list count kinds others h g =
    ext_get_or Safe kinds others (h.len ∙ sym g.len)
    (λ n within.
    let inside : n < count = subst (λ m. n < m) h.len within in
    let node : NodeId = record { 0 = n } in
    same_kinds list n n (kind_at kinds node) (kind_at others node)
    (record { wild_on = λ w. w; wild_back = λ w. w; need_on = λ w. w; need_back = λ w. w; type_on = λ w. w; type_back = λ w. w })
    (h.each node inside) (g.each node inside))

pub one_table_of_causes : (list : List Constraint) (count : ℕ) (kinds : List Kind) (causes others : List (Option Cause))
    → AreCauses list count kinds causes → AreCauses list count kinds others → causes ≡ others
one_table_of_causes list count kinds causes others h g =
    ext_get_or None causes others (h.len ∙ sym g.len)
    (λ n within.
    let inside : n < count = subst (λ m. n < m) h.len within in
    let node : NodeId = record { 0 = n } in
    one_cause list n (kind_at kinds node) (get_or causes n None) (get_or others n None) (h.each node inside) (g.each node inside))

-- The order of the constraints does not matter.

abbrev Within : List Constraint → List Constraint → Type 0
Within l m = (c : Constraint) → Contains l c → Contains m c

edges_kept : (l m : List Constraint) (kind : Pass) (e : Edge) → Within l m → Contains (edges kind l) e → Contains (edges kind m) e
edges_kept l m kind e within h =
    let found = from_flat_map (edges_of kind) l e h in
    into_flat_map (edges_of kind) m found.0 e (within found.0 found.1) found.2

origins_kept : (l m : List Constraint) (kind : Start) (n : ℕ) (c : Cause) → Within l m → Contains (origins kind l) (origin n c)
    → Contains (origins kind m) (origin n c)
origins_kept l m kind n c within h =
    let found = from_flat_map (origins_of kind) l (origin n c) h in
    into_flat_map (origins_of kind) m found.0 (origin n c) (within found.0 found.1) found.2

path_kept : (l m : List Constraint) (kind : Pass) → Within l m → (k x y : ℕ) → Path (edges kind l) k x y → Path (edges kind m) k x y
path_kept l m kind within zero x y p = p
path_kept l m kind within (suc k) x y p =
    (p.0, path_kept l m kind within k x p.0 p.1, edges_kept l m kind (edge p.0 y) within p.2)

leads_kept : (l m : List Constraint) (kind : Pass) (x y : ℕ) → Within l m → Leads (edges kind l) x y → Leads (edges kind m) x y
leads_kept l m kind x y within p = (p.0, path_kept l m kind within p.0 x y p.1)

first_kept : (l m : List Constraint) (c : Cause) (n : ℕ) → Within l m → FirstNeedFrom l c n → FirstNeedFrom m c n
first_kept l m c n within h =
    (h.0, origins_kept l m start.Sequence h.0 c within h.1, leads_kept l m pass.Sequence h.0 n within h.2)

rises_kept : (l m : List Constraint) (c : Cause) (n : ℕ) → Within l m → RisesFrom l c n → RisesFrom m c n
rises_kept l m c n within h =
    (h.0, origins_kept l m start.Rise h.0 c within h.1, leads_kept l m pass.Rise h.0 n within h.2)

turns_kept : (l m : List Constraint) (c : Cause) (n : ℕ) → Within l m → TurnsWild l c n → TurnsWild m c n
turns_kept l m c n within h =
    elim h [
      | inl forced ↦ inl (origins_kept l m start.Wild n c within forced)
      | inr turned ↦
          inr (turned.0, first_kept l m c turned.0 within turned.1, edges_kept l m pass.Turn (edge turned.0 n) within turned.2)
    ]

wild_kept : (l m : List Constraint) (c : Cause) (n : ℕ) → Within l m → WildFrom l c n → WildFrom m c n
wild_kept l m c n within h = (h.0, turns_kept l m c h.0 within h.1, leads_kept l m pass.Wild h.0 n within h.2)

none_kept : (F G : Cause → ℕ → Type 0) (n : ℕ) → ((c : Cause) → G c n → F c n) → ¬ (Holds F n) → ¬ (Holds G n)
none_kept F G n back h g = h (g.0, back g.0 g.1)

module _ (l m : List Constraint) (within : Within l m) (back : Within m l) where
  free_kept : (n : ℕ) → IsFree l n → IsFree m n
  free_kept n h = (
    none_kept (FirstNeedFrom l) (FirstNeedFrom m) n (λ c g. first_kept m l c n back g) h.0,
    none_kept (WildFrom l) (WildFrom m) n (λ c g. wild_kept m l c n back g) h.1,
    none_kept (RisesFrom l) (RisesFrom m) n (λ c g. rises_kept m l c n back g) h.2,
  )

  start_need_kept : (c : Cause) (n : ℕ) → StartsNeed l c n → StartsNeed m c n
  start_need_kept c n h =
      elim h [
        | inl need ↦ inl (origins_kept l m start.Sequence n c within need)
        | inr loose ↦ inr (origins_kept l m start.Loose n c within loose.0, free_kept n loose.1)
      ]

  need_kept : (c : Cause) (n : ℕ) → NeedFrom l c n → NeedFrom m c n
  need_kept c n h = (h.0, start_need_kept c h.0 h.1, leads_kept l m pass.Sequence h.0 n within h.2)

module _ (l m : List Constraint) (within : Within l m) (back : Within m l) where
  type_kept : (c : Cause) (n : ℕ) → TypeFrom l c n → TypeFrom m c n
  type_kept c n h = (
    h.0,
    (
      origins_kept l m start.Type h.0 c within h.1.0,
      none_kept (NeedFrom l) (NeedFrom m) h.0 (λ d g. need_kept m l back within d h.0 g) h.1.1,
      none_kept (WildFrom l) (WildFrom m) h.0 (λ d g. wild_kept m l d h.0 back g) h.1.2,
    ),
    leads_kept l m pass.Type h.0 n within h.2,
  )

module _ (l m : List Constraint) (within : Within l m) (back : Within m l) where
  no_wild : (n : ℕ) → ¬ (Holds (WildFrom l) n) → ¬ (Holds (WildFrom m) n)
  no_wild n h = none_kept (WildFrom l) (WildFrom m) n (λ c g. wild_kept m l c n back g) h

  no_need : (n : ℕ) → ¬ (Holds (NeedFrom l) n) → ¬ (Holds (NeedFrom m) n)
  no_need n h = none_kept (NeedFrom l) (NeedFrom m) n (λ c g. need_kept m l back within c n g) h

  no_type : (n : ℕ) → ¬ (Holds (TypeFrom l) n) → ¬ (Holds (TypeFrom m) n)
  no_type n h = none_kept (TypeFrom l) (TypeFrom m) n (λ c g. type_kept m l back within c n g) h

  kind_kept : (n : ℕ) (k : Kind) → HasKind l n k → HasKind m n k
  kind_kept n Wild h = (h.0, wild_kept l m h.0 n within h.1)
  kind_kept n Seq h = (no_wild n h.0, (h.1.0, need_kept l m within back h.1.0 n h.1.1))
  kind_kept n Rtti h = (no_wild n h.0, no_need n h.1, (h.2.0, type_kept l m within back h.2.0 n h.2.1))
  kind_kept n Safe h = (no_wild n h.0, no_need n h.1, no_type n h.2)

  chain_kept : (k : Kind) (c : Cause) (n : ℕ) → ChainTo l k c n → ChainTo m k c n
  chain_kept Wild c n h = wild_kept l m c n within h
  chain_kept Seq c n h = need_kept l m within back c n h
  chain_kept Rtti c n h = type_kept l m within back c n h
  chain_kept Safe c n h = h

module _ (l m : List Constraint) (within : Within l m) (back : Within m l) where
  cause_kept : (n : ℕ) (k : Kind) (o : Option Cause) → HasCause l n k o → HasCause m n k o
  cause_kept n k None h = h
  cause_kept n k (Some c) h =
      (chain_kept l m within back k c n h.0, λ d g. h.1 d (chain_kept m l back within k d n g))

pub kinds_kept : (l m : List Constraint) (count : ℕ) (kinds : List Kind) → HaveSameMembers l m → AreKinds l count kinds
    → AreKinds m count kinds
kinds_kept l m count kinds same h = record {
  len = h.len;
  each = λ n inside. kind_kept l m (λ c. (same c).0) (λ c. (same c).1) n.0 (kind_at kinds n) (h.each n inside);
}

pub causes_kept : (l m : List Constraint) (count : ℕ) (kinds : List Kind) (causes : List (Option Cause)) → HaveSameMembers l m
    → AreCauses l count kinds causes → AreCauses m count kinds causes
causes_kept l m count kinds causes same h = record {
  len = h.len;
  each = λ n inside.
      cause_kept l m (λ c. (same c).0) (λ c. (same c).1) n.0 (kind_at kinds n) (get_or causes n.0 None) (h.each n inside);
}

use Rattle.std.proofs.Common.{ℕ, zero, suc, Bool, true, false, cond, List, [], ◌∷◌, ◌≡◌, ◌⊎◌, Contains, refl, subst, inl, inr, IsTrue}
use Rattle.std.specs.List.{AllByRecursion}
use Rattle.std.proofs.lemmas.Bool.{cases_Bool, false≢true}
use Rattle.cc_base.specs.declared.number.NodeId.{NodeId}
use Rattle.cc_base.specs.declared.place.Place.{Place}
use Rattle.cc_base.specs.declared.kind.Kind.{Kind}
use Rattle.cc_base.specs.declared.kind.Kind.TheVariants.{Safe, Seq, Rtti, Wild}
use Rattle.c_types.specs.declared.flow_class.FlowClass.{FlowClass}
use Rattle.c_types.specs.declared.flow_class.FlowClass.TheVariants as class
use Rattle.kind_solver.specs.declared.cause.Cause.{Cause}
use Rattle.kind_solver.specs.declared.constraint.Why.TheVariants as why
use Rattle.kind_solver.specs.declared.constraint.Constraint.{Constraint}
use Rattle.kind_solver.specs.declared.constraint.Constraint.TheVariants.{Flow, Equal, Plain}
use Rattle.kind_solver.specs.declared.gathering.Edge.{Edge}
use Rattle.kind_solver.specs.declared.gathering.Origin.{Origin}
use Rattle.kind_solver.specs.declared.gathering.Pass.{Pass}
use Rattle.kind_solver.specs.declared.gathering.Pass.TheVariants as pass
use Rattle.kind_solver.specs.declared.gathering.Start.{Start}
use Rattle.kind_solver.specs.declared.gathering.Start.TheVariants as start
use Rattle.kind_solver.specs.Constraints.{allows, is_downward, IsPlain, KeepsPlain, PlainApart}
use Rattle.kind_solver.specs.Chains.{edge, origin, step, both_ways, edges_of, origins_of, edges, origins, Path, Leads}
use Rattle.kind_solver.specs.Sets.{FirstNeedFrom, NeedFrom, NeedsSequence, MustBeWild, MustCarryType, HasKind}
use Rattle.kind_solver.proofs.Paths.{Leads-here, Leads-step, Leads-Leads, along_Leads}
use Rattle.kind_solver.proofs.Members.{Contains-head, Contains-tail, into_flat_map}
use Rattle.kind_solver.proofs.Closed.{each_edge, each_origin}

-- The three sets are closed under what each constraint says.

in_edges : (list : List Constraint) (kind : Pass) (c : Constraint) (x y : ℕ) → Contains list c
    → Contains (edges_of kind c) (edge x y) → Contains (edges kind list) (edge x y)
in_edges list kind c x y within h = into_flat_map (edges_of kind) list c (edge x y) within h

in_origins : (list : List Constraint) (kind : Start) (c : Constraint) (n : ℕ) (cause : Cause) → Contains list c
    → Contains (origins_of kind c) (origin n cause) → Contains (origins kind list) (origin n cause)
in_origins list kind c n cause within h = into_flat_map (origins_of kind) list c (origin n cause) within h

pub wild_step : (list : List Constraint) (c : Constraint) (x y : ℕ) → Contains list c
    → Contains (edges_of pass.Wild c) (edge x y) → MustBeWild list x → MustBeWild list y
wild_step list c x y within e h =
    (h.0, (h.1.0, h.1.1, Leads-step (edges pass.Wild list) h.1.0 x y h.1.2 (in_edges list pass.Wild c x y within e)))

pub need_step : (list : List Constraint) (c : Constraint) (x y : ℕ) → Contains list c
    → Contains (edges_of pass.Sequence c) (edge x y) → NeedsSequence list x → NeedsSequence list y
need_step list c x y within e h =
    (h.0, (h.1.0, h.1.1, Leads-step (edges pass.Sequence list) h.1.0 x y h.1.2 (in_edges list pass.Sequence c x y within e)))

pub type_step : (list : List Constraint) (c : Constraint) (x y : ℕ) → Contains list c
    → Contains (edges_of pass.Type c) (edge x y) → MustCarryType list x → MustCarryType list y
type_step list c x y within e h =
    (h.0, (h.1.0, h.1.1, Leads-step (edges pass.Type list) h.1.0 x y h.1.2 (in_edges list pass.Type c x y within e)))

pub need_start : (list : List Constraint) (c : Constraint) (n : ℕ) (cause : Cause) → Contains list c
    → Contains (origins_of start.Sequence c) (origin n cause) → NeedsSequence list n
need_start list c n cause within h =
    (cause, (n, inl (in_origins list start.Sequence c n cause within h), Leads-here (edges pass.Sequence list) n))

pub wild_start : (list : List Constraint) (c : Constraint) (n : ℕ) (cause : Cause) → Contains list c
    → Contains (origins_of start.Wild c) (origin n cause) → MustBeWild list n
wild_start list c n cause within h =
    (cause, (n, inl (in_origins list start.Wild c n cause within h), Leads-here (edges pass.Wild list) n))

type_start : (list : List Constraint) (c : Constraint) (n : ℕ) (cause : Cause) → Contains list c
    → Contains (origins_of start.Type c) (origin n cause) → ¬ (NeedsSequence list n) → ¬ (MustBeWild list n) → MustCarryType list n
type_start list c n cause within h no_need no_wild =
    (cause, (n, (in_origins list start.Type c n cause within h, no_need, no_wild), Leads-here (edges pass.Type list) n))

turn : (list : List Constraint) (c : Constraint) (x y : ℕ) (cause : Cause) → Contains list c
    → Contains (edges_of pass.Turn c) (edge x y) → FirstNeedFrom list cause x → MustBeWild list y
turn list c x y cause within e h =
    (cause, (y, inr (x, h, in_edges list pass.Turn c x y within e), Leads-here (edges pass.Wild list) y))

-- Where a chain leads from x to y among the nodes that need SEQ, y reaches x by flows and equalities.

edges_back : (list : List Constraint) (c : Constraint) → Contains list c
    → AllByRecursion (λ (e : Edge). Contains (edges pass.Rise list) (edge e.to.0 e.from.0)) (edges_of pass.Sequence c)
edges_back list (Flow from to class below place) within =
    (in_edges list pass.Rise (Flow from to class below place) from.0 to.0 within (Contains-head (edge from.0 to.0) []), tt)
edges_back list (Equal a b) within = (
  in_edges list pass.Rise (Equal a b) b.0 a.0 within
      (Contains-tail (edge a.0 b.0) (edge b.0 a.0) (edge b.0 a.0 ∷ []) (Contains-head (edge b.0 a.0) [])),
  (in_edges list pass.Rise (Equal a b) a.0 b.0 within (Contains-head (edge a.0 b.0) (edge b.0 a.0 ∷ [])), tt),
)
edges_back list _ within = tt

path_back : (list : List Constraint) (k x y : ℕ) → Path (edges pass.Sequence list) k x y → Leads (edges pass.Rise list) y x
path_back list zero x y e = subst (λ m. Leads (edges pass.Rise list) m x) e (Leads-here (edges pass.Rise list) x)
path_back list (suc k) x y p =
    let back = each_edge (λ a b. Contains (edges pass.Rise list) (edge b a)) pass.Sequence list (edges_back list) p.0 y p.2 in
    Leads-Leads (edges pass.Rise list) y p.0 x
    (Leads-step (edges pass.Rise list) y y p.0 (Leads-here (edges pass.Rise list) y) back)
    (path_back list k x p.0 p.1)

-- At the target of an Up flow or the source of a Down flow, and at what it reaches, no free source
-- adds to the needs.
rising_first : (list : List Constraint) (m n : ℕ) (rise need : Cause) → Contains (origins start.Rise list) (origin m rise)
    → Leads (edges pass.Rise list) m n → NeedFrom list need n → FirstNeedFrom list need n
rising_first list m n rise need begins leads h =
    elim h.1 [
      | inl first ↦ (h.0, first, h.2)
      | inr loose ↦
          absurd (loose.1.2 (rise, (m, begins, Leads-Leads (edges pass.Rise list) m n h.0 leads (path_back list h.2.0 h.0 n h.2.1))))
    ]

module _ (list : List Constraint) (from to : NodeId) (below : Bool) (place : Place) where
  up_wild : Contains list (Flow from to class.Up below place) → NeedsSequence list to.0 → MustBeWild list from.0
  up_wild within h =
      turn list (Flow from to class.Up below place) to.0 from.0 h.0 within
      (Contains-head (edge to.0 from.0) (edge to.0 to.0 ∷ []))
      (rising_first list to.0 to.0 (record { site = place; why = why.Down }) h.0
      (in_origins list start.Rise (Flow from to class.Up below place) to.0 (record { site = place; why = why.Down }) within
      (Contains-head (origin to.0 (record { site = place; why = why.Down })) []))
      (Leads-here (edges pass.Rise list) to.0) h.1)

  down_rises : Contains list (Flow from to class.Down below place)
      → Contains (origins start.Rise list) (origin from.0 (record { site = place; why = why.Down }))
  down_rises within =
      in_origins list start.Rise (Flow from to class.Down below place) from.0 (record { site = place; why = why.Down }) within
      (Contains-head (origin from.0 (record { site = place; why = why.Down })) [])

  down_in_wild : Contains list (Flow from to class.Down below place) → NeedsSequence list to.0 → MustBeWild list from.0
  down_in_wild within h =
      turn list (Flow from to class.Down below place) to.0 from.0 h.0 within
      (Contains-head (edge to.0 from.0) (edge to.0 to.0 ∷ edge from.0 from.0 ∷ edge from.0 to.0 ∷ []))
      (rising_first list from.0 to.0 (record { site = place; why = why.Down }) h.0 (down_rises within)
      (Leads-step (edges pass.Rise list) from.0 from.0 to.0 (Leads-here (edges pass.Rise list) from.0)
      (in_edges list pass.Rise (Flow from to class.Down below place) from.0 to.0 within (Contains-head (edge from.0 to.0) [])))
      h.1)

  down_out_wild : Contains list (Flow from to class.Down below place) → NeedsSequence list from.0 → MustBeWild list from.0
  down_out_wild within h =
      turn list (Flow from to class.Down below place) from.0 from.0 h.0 within
      (Contains-tail (edge to.0 from.0) (edge from.0 from.0) (edge to.0 to.0 ∷ edge from.0 from.0 ∷ edge from.0 to.0 ∷ [])
      (Contains-tail (edge to.0 to.0) (edge from.0 from.0) (edge from.0 from.0 ∷ edge from.0 to.0 ∷ [])
      (Contains-head (edge from.0 from.0) (edge from.0 to.0 ∷ []))))
      (rising_first list from.0 from.0 (record { site = place; why = why.Down }) h.0 (down_rises within)
      (Leads-here (edges pass.Rise list) from.0) h.1)

  bad_starts : Contains list (Flow from to class.Bad below place) → MustBeWild list from.0
  bad_starts within =
      wild_start list (Flow from to class.Bad below place) from.0 (record { site = place; why = why.Bad }) within
      (Contains-head (origin from.0 (record { site = place; why = why.Bad })) (origin to.0 (record { site = place; why = why.Bad }) ∷ []))

  tile_starts : Contains list (Flow from to class.Tile below place) → NeedsSequence list from.0
  tile_starts within =
      need_start list (Flow from to class.Tile below place) from.0 (record { site = place; why = why.Tile }) within
      (Contains-head (origin from.0 (record { site = place; why = why.Tile })) [])

  down_starts : (k : FlowClass) → is_downward k ≡ true → Contains list (Flow from to k below place)
      → ¬ (MustBeWild list from.0) → ¬ (NeedsSequence list from.0) → MustCarryType list from.0
  down_starts class.Down e within no_wild no_need =
      type_start list (Flow from to class.Down below place) from.0 (record { site = place; why = why.Down }) within
      (Contains-head (origin from.0 (record { site = place; why = why.Down })) []) no_need no_wild
  down_starts class.DownTile e within no_wild no_need =
      type_start list (Flow from to class.DownTile below place) from.0 (record { site = place; why = why.Tile }) within
      (Contains-head (origin from.0 (record { site = place; why = why.Tile })) []) no_need no_wild
  down_starts class.Equal e within no_wild no_need = absurd (false≢true e)
  down_starts class.UpTile e within no_wild no_need = absurd (false≢true e)
  down_starts class.Up e within no_wild no_need = absurd (false≢true e)
  down_starts class.Tile e within no_wild no_need = absurd (false≢true e)
  down_starts class.Bad e within no_wild no_need = absurd (false≢true e)

back_at : (from to : NodeId) (v : Bool) → v ≡ false → Contains (cond v [] (step to from)) (edge to.0 from.0)
back_at from to false e = Contains-head (edge to.0 from.0) []
back_at from to true e = absurd (cc)

-- What a flow says of the sets of its two ends.
pub record FlowSays (list : List Constraint) (x y : ℕ) (k : FlowClass) (below : Bool) : Type 0 where
  pub on : MustBeWild list x → MustBeWild list y
  pub back : MustBeWild list y → MustBeWild list x
  pub need : NeedsSequence list y → NeedsSequence list x
  pub up : k ≡ class.Up → NeedsSequence list y → MustBeWild list x
  pub down_in : k ≡ class.Down → NeedsSequence list y → MustBeWild list x
  pub down_out : k ≡ class.Down → NeedsSequence list x → MustBeWild list x
  pub bad : k ≡ class.Bad → MustBeWild list x
  pub tile : k ≡ class.Tile → NeedsSequence list x
  pub source : is_downward k ≡ true → ¬ (MustBeWild list x) → ¬ (NeedsSequence list x) → MustCarryType list x
  pub carry : allows Safe Rtti k below ≡ false → MustCarryType list y → MustCarryType list x

pub flow_says : (list : List Constraint) (from to : NodeId) (k : FlowClass) (below : Bool) (place : Place)
    → Contains list (Flow from to k below place) → FlowSays list from.0 to.0 k below
flow_says list from to k below place within =
    let c = Flow from to k below place in
    let as_class = λ (q : FlowClass) (e : k ≡ q). subst (λ p. Contains list (Flow from to p below place)) e within in
    record {
      on = wild_step list c from.0 to.0 within (Contains-head (edge from.0 to.0) (edge to.0 from.0 ∷ []));
      back = wild_step list c to.0 from.0 within
          (Contains-tail (edge from.0 to.0) (edge to.0 from.0) (edge to.0 from.0 ∷ []) (Contains-head (edge to.0 from.0) []));
      need = need_step list c to.0 from.0 within (Contains-head (edge to.0 from.0) []);
      up = λ e h. up_wild list from to below place (as_class class.Up e) h;
      down_in = λ e h. down_in_wild list from to below place (as_class class.Down e) h;
      down_out = λ e h. down_out_wild list from to below place (as_class class.Down e) h;
      bad = λ e. bad_starts list from to below place (as_class class.Bad e);
      tile = λ e. tile_starts list from to below place (as_class class.Tile e);
      source = λ e no_wild no_need. down_starts list from to below place k e within no_wild no_need;
      carry = λ e h. type_step list c to.0 from.0 within (back_at from to (allows Safe Rtti k below) e) h;
    }

-- The kinds of the two ends of a flow are allowed.
seq_seq : (list : List Constraint) (x y : ℕ) (k : FlowClass) (below : Bool) → FlowSays list x y k below
    → HasKind list x Seq → HasKind list y Seq → IsTrue (allows Seq Seq k below)
seq_seq list x y class.Equal below f hx hy = refl
seq_seq list x y class.UpTile below f hx hy = refl
seq_seq list x y class.Up below f hx hy = absurd (hx.0 (f.up refl hy.1))
seq_seq list x y class.DownTile below f hx hy = refl
seq_seq list x y class.Down below f hx hy = absurd (hx.0 (f.down_out refl hx.1))
seq_seq list x y class.Tile below f hx hy = refl
seq_seq list x y class.Bad below f hx hy = absurd (hx.0 (f.bad refl))

seq_safe : (list : List Constraint) (x y : ℕ) (k : FlowClass) (below : Bool) → FlowSays list x y k below
    → HasKind list x Seq → HasKind list y Safe → IsTrue (allows Seq Safe k below)
seq_safe list x y class.Equal below f hx hy = refl
seq_safe list x y class.UpTile below f hx hy = refl
seq_safe list x y class.Up below f hx hy = refl
seq_safe list x y class.DownTile below f hx hy = refl
seq_safe list x y class.Down below f hx hy = absurd (hx.0 (f.down_out refl hx.1))
seq_safe list x y class.Tile below f hx hy = refl
seq_safe list x y class.Bad below f hx hy = absurd (hx.0 (f.bad refl))

seq_rtti : (list : List Constraint) (x y : ℕ) (k : FlowClass) (below : Bool) → FlowSays list x y k below
    → HasKind list x Seq → HasKind list y Rtti → IsTrue (allows Seq Rtti k below)
seq_rtti list x y class.Equal below f hx hy = refl
seq_rtti list x y class.UpTile below f hx hy = refl
seq_rtti list x y class.Up below f hx hy = refl
seq_rtti list x y class.DownTile below f hx hy = refl
seq_rtti list x y class.Down below f hx hy = absurd (hx.0 (f.down_out refl hx.1))
seq_rtti list x y class.Tile below f hx hy = refl
seq_rtti list x y class.Bad below f hx hy = absurd (hx.0 (f.bad refl))

safe_safe : (list : List Constraint) (x y : ℕ) (k : FlowClass) (below : Bool) → FlowSays list x y k below
    → HasKind list x Safe → HasKind list y Safe → IsTrue (allows Safe Safe k below)
safe_safe list x y class.Equal below f hx hy = refl
safe_safe list x y class.UpTile below f hx hy = refl
safe_safe list x y class.Up below f hx hy = refl
safe_safe list x y class.DownTile below f hx hy = absurd (hx.2 (f.source refl hx.0 hx.1))
safe_safe list x y class.Down below f hx hy = absurd (hx.2 (f.source refl hx.0 hx.1))
safe_safe list x y class.Tile below f hx hy = absurd (hx.1 (f.tile refl))
safe_safe list x y class.Bad below f hx hy = absurd (hx.0 (f.bad refl))

rtti_safe : (list : List Constraint) (x y : ℕ) (k : FlowClass) (below : Bool) → FlowSays list x y k below
    → HasKind list x Rtti → HasKind list y Safe → IsTrue (allows Rtti Safe k below)
rtti_safe list x y class.Equal below f hx hy = refl
rtti_safe list x y class.UpTile below f hx hy = refl
rtti_safe list x y class.Up below f hx hy = refl
rtti_safe list x y class.DownTile below f hx hy = refl
rtti_safe list x y class.Down below f hx hy = refl
rtti_safe list x y class.Tile below f hx hy = absurd (hx.1 (f.tile refl))
rtti_safe list x y class.Bad below f hx hy = absurd (hx.0 (f.bad refl))

rtti_rtti : (list : List Constraint) (x y : ℕ) (k : FlowClass) (below : Bool) → FlowSays list x y k below
    → HasKind list x Rtti → HasKind list y Rtti → IsTrue (allows Rtti Rtti k below)
rtti_rtti list x y class.Equal below f hx hy = refl
rtti_rtti list x y class.UpTile below f hx hy = refl
rtti_rtti list x y class.Up below f hx hy = refl
rtti_rtti list x y class.DownTile below f hx hy = refl
rtti_rtti list x y class.Down below f hx hy = refl
rtti_rtti list x y class.Tile below f hx hy = absurd (hx.1 (f.tile refl))
rtti_rtti list x y class.Bad below f hx hy = absurd (hx.0 (f.bad refl))

safe_rtti : (list : List Constraint) (x y : ℕ) (k : FlowClass) (below : Bool) → FlowSays list x y k below
    → HasKind list x Safe → HasKind list y Rtti → IsTrue (allows Safe Rtti k below)
safe_rtti list x y k below f hx hy =
    elim (cases_Bool (allows Safe Rtti k below)) [ inl allowed ↦ allowed | inr e ↦ absurd (hx.2 (f.carry e hy.2)) ]

pub flow_allowed : (list : List Constraint) (x y : ℕ) (k : FlowClass) (below : Bool) (a b : Kind) → FlowSays list x y k below
    → HasKind list x a → HasKind list y b → IsTrue (allows a b k below)
flow_allowed list x y k below Safe Safe f hx hy = safe_safe list x y k below f hx hy
flow_allowed list x y k below Safe Seq f hx hy = absurd (hx.1 (f.need hy.1))
flow_allowed list x y k below Safe Rtti f hx hy = safe_rtti list x y k below f hx hy
flow_allowed list x y k below Safe Wild f hx hy = absurd (hx.0 (f.back hy))
flow_allowed list x y k below Seq Safe f hx hy = seq_safe list x y k below f hx hy
flow_allowed list x y k below Seq Seq f hx hy = seq_seq list x y k below f hx hy
flow_allowed list x y k below Seq Rtti f hx hy = seq_rtti list x y k below f hx hy
flow_allowed list x y k below Seq Wild f hx hy = absurd (hx.0 (f.back hy))
flow_allowed list x y k below Rtti Safe f hx hy = rtti_safe list x y k below f hx hy
flow_allowed list x y k below Rtti Seq f hx hy = absurd (hx.1 (f.need hy.1))
flow_allowed list x y k below Rtti Rtti f hx hy = rtti_rtti list x y k below f hx hy
flow_allowed list x y k below Rtti Wild f hx hy = absurd (hx.0 (f.back hy))
flow_allowed list x y k below Wild Safe f hx hy = absurd (hy.0 (f.on hx))
flow_allowed list x y k below Wild Seq f hx hy = absurd (hy.0 (f.on hx))
flow_allowed list x y k below Wild Rtti f hx hy = absurd (hy.0 (f.on hx))
flow_allowed list x y k below Wild Wild f hx hy = refl

-- Two nodes that are in the same sets have one kind.
pub record SameSets (list : List Constraint) (x y : ℕ) : Type 0 where
  pub wild_on : MustBeWild list x → MustBeWild list y
  pub wild_back : MustBeWild list y → MustBeWild list x
  pub need_on : NeedsSequence list x → NeedsSequence list y
  pub need_back : NeedsSequence list y → NeedsSequence list x
  pub type_on : MustCarryType list x → MustCarryType list y
  pub type_back : MustCarryType list y → MustCarryType list x

pub same_kinds : (list : List Constraint) (x y : ℕ) (a b : Kind) → SameSets list x y → HasKind list x a → HasKind list y b → a ≡ b
same_kinds list x y Safe Safe s hx hy = refl
same_kinds list x y Safe Seq s hx hy = absurd (hx.1 (s.need_back hy.1))
same_kinds list x y Safe Rtti s hx hy = absurd (hx.2 (s.type_back hy.2))
same_kinds list x y Safe Wild s hx hy = absurd (hx.0 (s.wild_back hy))
same_kinds list x y Seq Safe s hx hy = absurd (hy.1 (s.need_on hx.1))
same_kinds list x y Seq Seq s hx hy = refl
same_kinds list x y Seq Rtti s hx hy = absurd (hy.1 (s.need_on hx.1))
same_kinds list x y Seq Wild s hx hy = absurd (hx.0 (s.wild_back hy))
same_kinds list x y Rtti Safe s hx hy = absurd (hy.2 (s.type_on hx.2))
same_kinds list x y Rtti Seq s hx hy = absurd (hx.1 (s.need_back hy.1))
same_kinds list x y Rtti Rtti s hx hy = refl
same_kinds list x y Rtti Wild s hx hy = absurd (hx.0 (s.wild_back hy))
same_kinds list x y Wild Safe s hx hy = absurd (hy.0 (s.wild_on hx))
same_kinds list x y Wild Seq s hx hy = absurd (hy.0 (s.wild_on hx))
same_kinds list x y Wild Rtti s hx hy = absurd (hy.0 (s.wild_on hx))
same_kinds list x y Wild Wild s hx hy = refl

pub equal_sets : (list : List Constraint) (a b : NodeId) → Contains list (Equal a b) → SameSets list a.0 b.0
equal_sets list a b within =
    let first = Contains-head (edge a.0 b.0) (edge b.0 a.0 ∷ []) in
    let second = Contains-tail (edge a.0 b.0) (edge b.0 a.0) (edge b.0 a.0 ∷ []) (Contains-head (edge b.0 a.0) []) in
    record {
      wild_on = wild_step list (Equal a b) a.0 b.0 within first;
      wild_back = wild_step list (Equal a b) b.0 a.0 within second;
      need_on = need_step list (Equal a b) a.0 b.0 within first;
      need_back = need_step list (Equal a b) b.0 a.0 within second;
      type_on = type_step list (Equal a b) a.0 b.0 within first;
      type_back = type_step list (Equal a b) b.0 a.0 within second;
    }

-- A plain node that needs SEQ or carries a type has to be WILD, where plain nodes stand apart.

abbrev StandsApart : List Constraint → ℕ → Type 0
StandsApart list n = MustBeWild list n ⊎ ¬ (IsPlain list n)

apart_flow : (list : List Constraint) (from to : NodeId) (k : FlowClass) (below : Bool) (place : Place)
    → Contains list (Flow from to k below place) → KeepsPlain list (Flow from to k below place)
    → StandsApart list to.0 → StandsApart list from.0
apart_flow list from to class.Equal below place within keeps i =
    elim i [
      | inl wild ↦ inl ((flow_says list from to class.Equal below place within).back wild)
      | inr apart ↦ inr (λ p. apart (keeps.0 p))
    ]
apart_flow list from to class.Bad below place within keeps i = inl (bad_starts list from to below place within)
apart_flow list from to class.UpTile below place within keeps i = inr keeps.0
apart_flow list from to class.Up below place within keeps i = inr keeps.0
apart_flow list from to class.DownTile below place within keeps i = inr keeps.0
apart_flow list from to class.Down below place within keeps i = inr keeps.0
apart_flow list from to class.Tile below place within keeps i = inr keeps.0

apart_equal : (list : List Constraint) (a b : NodeId) → Contains list (Equal a b) → KeepsPlain list (Equal a b)
    → AllByRecursion (λ (e : Edge). StandsApart list e.from.0 → StandsApart list e.to.0) (both_ways a b)
apart_equal list a b within keeps =
    let same = equal_sets list a b within in (
      (λ i. elim i [ inl wild ↦ inl (same.wild_on wild) | inr apart ↦ inr (λ p. apart (keeps.1 p)) ]),
      ((λ i. elim i [ inl wild ↦ inl (same.wild_back wild) | inr apart ↦ inr (λ p. apart (keeps.0 p)) ]), tt),
    )

apart_needs : (list : List Constraint) (c : Constraint) → Contains list c → KeepsPlain list c
    → AllByRecursion (λ (e : Edge). StandsApart list e.from.0 → StandsApart list e.to.0) (edges_of pass.Sequence c)
apart_needs list (Flow from to k below place) within keeps = (apart_flow list from to k below place within keeps, tt)
apart_needs list (Equal a b) within keeps = apart_equal list a b within keeps
apart_needs list _ within keeps = tt

apart_cond : (P : Edge → Type 0) (from to : NodeId) (v : Bool) → P (edge to.0 from.0) → AllByRecursion P (cond v [] (step to from))
apart_cond P from to true h = tt
apart_cond P from to false h = (h, tt)

apart_types : (list : List Constraint) (c : Constraint) → Contains list c → KeepsPlain list c
    → AllByRecursion (λ (e : Edge). StandsApart list e.from.0 → StandsApart list e.to.0) (edges_of pass.Type c)
apart_types list (Flow from to k below place) within keeps =
    apart_cond (λ (e : Edge). StandsApart list e.from.0 → StandsApart list e.to.0) from to (allows Safe Rtti k below)
    (apart_flow list from to k below place within keeps)
apart_types list (Equal a b) within keeps = apart_equal list a b within keeps
apart_types list _ within keeps = tt

apart_loose : (list : List Constraint) (c : Constraint) → KeepsPlain list c
    → AllByRecursion (λ (s : Origin). ¬ (IsPlain list s.node.0)) (origins_of start.Loose c)
apart_loose list (Flow from to class.DownTile below place) keeps = (keeps.0, tt)
apart_loose list _ keeps = tt

apart_sources : (list : List Constraint) (c : Constraint) → KeepsPlain list c
    → AllByRecursion (λ (s : Origin). ¬ (IsPlain list s.node.0)) (origins_of start.Type c)
apart_sources list (Flow from to class.Down below place) keeps = (keeps.0, tt)
apart_sources list (Flow from to class.DownTile below place) keeps = (keeps.0, tt)
apart_sources list _ keeps = tt

settled : (list : List Constraint) (n : ℕ) → IsPlain list n → StandsApart list n → MustBeWild list n
settled list n plain i = elim i [ inl wild ↦ wild | inr apart ↦ absurd (apart plain) ]

pub plain_needs : (list : List Constraint) → PlainApart list → (n : ℕ) → IsPlain list n → NeedsSequence list n → MustBeWild list n
plain_needs list apart n plain h =
    elim h.1.1 [
      | inl need ↦
          turn list (Plain (record { 0 = n })) n n h.0 plain (Contains-head (edge n n) []) (h.1.0, need, h.1.2)
      | inr loose ↦
          settled list n plain
          (along_Leads (edges pass.Sequence list) (StandsApart list)
          (each_edge (λ x y. StandsApart list x → StandsApart list y) pass.Sequence list (λ c within. apart_needs list c within (apart c within)))
          h.1.0 n h.1.2
          (inr (each_origin (λ m. ¬ (IsPlain list m)) start.Loose list (λ c within. apart_loose list c (apart c within)) h.1.0 h.0 loose.0)))
    ]

pub plain_types : (list : List Constraint) → PlainApart list → (n : ℕ) → IsPlain list n → MustCarryType list n → MustBeWild list n
plain_types list apart n plain h =
    settled list n plain
    (along_Leads (edges pass.Type list) (StandsApart list)
    (each_edge (λ x y. StandsApart list x → StandsApart list y) pass.Type list (λ c within. apart_types list c within (apart c within)))
    h.1.0 n h.1.2
    (inr (each_origin (λ m. ¬ (IsPlain list m)) start.Type list (λ c within. apart_sources list c (apart c within)) h.1.0 h.0 h.1.1.0)))

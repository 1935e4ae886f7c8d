use Rattle.std.proofs.Common.{ℕ, List, [], ◌∷◌, ◌≡◌, ◌⊎◌, ◌<◌, Contains, refl, inl, inr}
use Rattle.std.proofs.lemmas.List.Elements.{All-contains}
use Rattle.cc_base.specs.declared.number.NodeId.{NodeId}
use Rattle.cc_base.specs.declared.kind.Kind.{Kind}
use Rattle.cc_base.specs.declared.kind.Kind.TheVariants.{Safe, Seq, Rtti, Wild}
use Rattle.kind_solver.specs.declared.constraint.Constraint.{Constraint}
use Rattle.kind_solver.specs.declared.constraint.Constraint.TheVariants.{Flow, Needs, Equal, Inside, Linked, Force, Plain}
use Rattle.kind_solver.specs.Constraints.{Meets, MeetsAll, IsWithin, AreWithin, PlainApart}
use Rattle.kind_solver.specs.Chains.{edge, origin}
use Rattle.kind_solver.specs.Sets.{NeedsSequence, MustBeWild, MustCarryType, HasKind}
use Rattle.kind_solver.proofs.Members.{Contains-head, Contains-tail}
use Rattle.kind_solver.proofs.Allowed.{MayMove}
use Rattle.kind_solver.proofs.Solution.{wild_step, need_start, wild_start, flow_says, flow_allowed, same_kinds, equal_sets, plain_needs, plain_types}

-- The kinds of the definition meet the list.

pub is_wild : (list : List Constraint) (n : ℕ) (k : Kind) → HasKind list n k → MustBeWild list n → k ≡ Wild
is_wild list n Wild h w = refl
is_wild list n Safe h w = absurd (h.0 w)
is_wild list n Seq h w = absurd (h.0 w)
is_wild list n Rtti h w = absurd (h.0 w)

pub has_wild : (list : List Constraint) (n : ℕ) (k : Kind) → HasKind list n k → k ≡ Wild → MustBeWild list n
has_wild list n Wild h e = h
has_wild list n Safe h e = absurd (cc)
has_wild list n Seq h e = absurd (cc)
has_wild list n Rtti h e = absurd (cc)

may_move : (list : List Constraint) (n : ℕ) (k : Kind) → HasKind list n k → NeedsSequence list n → MayMove k
may_move list n Wild h m = inr refl
may_move list n Seq h m = inl refl
may_move list n Safe h m = absurd (h.1 m)
may_move list n Rtti h m = absurd (h.1 m)

plain_kind : (list : List Constraint) (n : ℕ) (k : Kind) → HasKind list n k → (NeedsSequence list n → MustBeWild list n)
    → (MustCarryType list n → MustBeWild list n) → (k ≡ Safe) ⊎ (k ≡ Wild)
plain_kind list n Wild h needs types = inr refl
plain_kind list n Safe h needs types = inl refl
plain_kind list n Seq h needs types = absurd (h.0 (needs h.1))
plain_kind list n Rtti h needs types = absurd (h.0 (types h.2))

pub meets_one : (list : List Constraint) (count : ℕ) (k : NodeId → Kind) → ((n : NodeId) → n.0 < count → HasKind list n.0 (k n))
    → PlainApart list → (c : Constraint) → Contains list c → IsWithin count c → Meets k c
meets_one list count k has apart (Flow from to class below place) within nodes =
    flow_allowed list from.0 to.0 class below (k from) (k to) (flow_says list from to class below place within)
    (has from nodes.0) (has to nodes.1)
meets_one list count k has apart (Needs node why place) within nodes =
    may_move list node.0 (k node) (has node nodes)
    (need_start list (Needs node why place) node.0 (record { site = place; why = why }) within
    (Contains-head (origin node.0 (record { site = place; why = why })) []))
meets_one list count k has apart (Equal a b) within nodes =
    same_kinds list a.0 b.0 (k a) (k b) (equal_sets list a b within) (has a nodes.0) (has b nodes.1)
meets_one list count k has apart (Inside outer inner) within nodes = λ e.
    is_wild list inner.0 (k inner) (has inner nodes.1)
    (wild_step list (Inside outer inner) outer.0 inner.0 within (Contains-head (edge outer.0 inner.0) [])
    (has_wild list outer.0 (k outer) (has outer nodes.0) e))
meets_one list count k has apart (Linked a b) within nodes = (
  (λ e. is_wild list b.0 (k b) (has b nodes.1)
      (wild_step list (Linked a b) a.0 b.0 within (Contains-head (edge a.0 b.0) (edge b.0 a.0 ∷ []))
      (has_wild list a.0 (k a) (has a nodes.0) e))),
  (λ e. is_wild list a.0 (k a) (has a nodes.0)
      (wild_step list (Linked a b) b.0 a.0 within
      (Contains-tail (edge a.0 b.0) (edge b.0 a.0) (edge b.0 a.0 ∷ []) (Contains-head (edge b.0 a.0) []))
      (has_wild list b.0 (k b) (has b nodes.1) e))),
)
meets_one list count k has apart (Force node why place) within nodes =
    is_wild list node.0 (k node) (has node nodes)
    (wild_start list (Force node why place) node.0 (record { site = place; why = why }) within
    (Contains-head (origin node.0 (record { site = place; why = why })) []))
meets_one list count k has apart (Plain node) within nodes =
    plain_kind list node.0 (k node) (has node nodes) (plain_needs list apart node.0 within) (plain_types list apart node.0 within)

pub meets_all : (list : List Constraint) (count : ℕ) (k : NodeId → Kind) → AreWithin count list
    → ((n : NodeId) → n.0 < count → HasKind list n.0 (k n)) → PlainApart list → MeetsAll k list
meets_all list count k nodes has apart c within =
    meets_one list count k has apart c within (All-contains (IsWithin count) list c nodes within)

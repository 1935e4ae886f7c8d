use Rattle.std.proofs.Common.{ℕ, Bool, List, ◌≡◌, sym, subst, ◌∙◌, inl, inr, IsTrue}
use Rattle.std.specs.List.{AllByRecursion}
use Rattle.cc_base.specs.declared.number.NodeId.{NodeId}
use Rattle.cc_base.specs.declared.kind.Kind.{Kind}
use Rattle.cc_base.specs.declared.kind.Kind.TheVariants.{Wild}
use Rattle.c_types.specs.declared.flow_class.FlowClass.{FlowClass}
use Rattle.c_types.specs.declared.flow_class.FlowClass.TheVariants as class
use Rattle.kind_solver.specs.declared.cause.Cause.{Cause}
use Rattle.kind_solver.specs.declared.constraint.Constraint.{Constraint}
use Rattle.kind_solver.specs.declared.constraint.Constraint.TheVariants.{Flow, Needs, Equal, Inside, Linked, Force, Plain}
use Rattle.kind_solver.specs.declared.gathering.Edge.{Edge}
use Rattle.kind_solver.specs.declared.gathering.Origin.{Origin}
use Rattle.kind_solver.specs.declared.gathering.Pass.TheVariants as pass
use Rattle.kind_solver.specs.declared.gathering.Start.TheVariants as start
use Rattle.kind_solver.specs.Constraints.{allows, Meets, MeetsAll}
use Rattle.kind_solver.specs.Chains.{edges_of, origins_of, turns, edges}
use Rattle.kind_solver.specs.Sets.{FirstNeedFrom, TurnsWild, WildFrom}
use Rattle.kind_solver.proofs.Paths.{along_Leads}
use Rattle.kind_solver.proofs.Allowed.{MayMove, move_back, wild_on, wild_back, bad_wild, up_into, down_into, down_out, tile_out, plain_moves}
use Rattle.kind_solver.proofs.Closed.{each_edge, each_origin}

-- A map that meets the list makes the nodes WILD that have to be WILD.

move_origins : (k : NodeId → Kind) (c : Constraint) → Meets k c → AllByRecursion (λ (s : Origin). MayMove (k s.node)) (origins_of start.Sequence c)
move_origins k (Needs node why place) h = (h, tt)
move_origins k (Flow from to class.Tile below place) h = (tile_out (k from) (k to) below h, tt)
move_origins k _ h = tt

move_edges : (k : NodeId → Kind) (c : Constraint) → Meets k c
    → AllByRecursion (λ (e : Edge). MayMove (k e.from) → MayMove (k e.to)) (edges_of pass.Sequence c)
move_edges k (Flow from to class below place) h = (move_back (k from) (k to) class below h, tt)
move_edges k (Equal a b) h = (subst MayMove h, (subst MayMove (sym h), tt))
move_edges k _ h = tt

turn_flow : (k : NodeId → Kind) (from to : NodeId) (kind : FlowClass) (below : Bool) → IsTrue (allows (k from) (k to) kind below)
    → AllByRecursion (λ (e : Edge). MayMove (k e.from) → k e.to ≡ Wild) (turns from to kind)
turn_flow k from to class.Up below h =
    ((λ m. (up_into (k from) (k to) below h m).0), ((λ m. (up_into (k from) (k to) below h m).1), tt))
turn_flow k from to class.Down below h = (
  (λ m. (down_into (k from) (k to) below h m).0),
  (
    (λ m. (down_into (k from) (k to) below h m).1),
    ((λ m. (down_out (k from) (k to) below h m).0), ((λ m. (down_out (k from) (k to) below h m).1), tt)),
  ),
)
turn_flow k from to class.Equal below h = tt
turn_flow k from to class.UpTile below h = tt
turn_flow k from to class.DownTile below h = tt
turn_flow k from to class.Tile below h = tt
turn_flow k from to class.Bad below h = tt

turn_edges : (k : NodeId → Kind) (c : Constraint) → Meets k c
    → AllByRecursion (λ (e : Edge). MayMove (k e.from) → k e.to ≡ Wild) (edges_of pass.Turn c)
turn_edges k (Flow from to class below place) h = turn_flow k from to class below h
turn_edges k (Plain node) h = (plain_moves (k node) h, tt)
turn_edges k _ h = tt

wild_origins : (k : NodeId → Kind) (c : Constraint) → Meets k c → AllByRecursion (λ (s : Origin). k s.node ≡ Wild) (origins_of start.Wild c)
wild_origins k (Force node why place) h = (h, tt)
wild_origins k (Flow from to class.Bad below place) h =
    let both = bad_wild (k from) (k to) below h in (both.0, (both.1, tt))
wild_origins k _ h = tt

wild_edges : (k : NodeId → Kind) (c : Constraint) → Meets k c
    → AllByRecursion (λ (e : Edge). k e.from ≡ Wild → k e.to ≡ Wild) (edges_of pass.Wild c)
wild_edges k (Flow from to class below place) h =
    (wild_on (k from) (k to) class below h, (wild_back (k from) (k to) class below h, tt))
wild_edges k (Equal a b) h = ((λ e. sym h ∙ e), ((λ e. h ∙ e), tt))
wild_edges k (Linked a b) h = (h.0, (h.1, tt))
wild_edges k (Inside outer inner) h = (h, tt)
wild_edges k _ h = tt

module _ (k : NodeId → Kind) (list : List Constraint) (meets : MeetsAll k list) where
  abbrev at : ℕ → Kind
  at n = k (record { 0 = n })

  first_moves : (n : ℕ) (c : Cause) → FirstNeedFrom list c n → MayMove (at n)
  first_moves n c h =
      along_Leads (edges pass.Sequence list) (λ m. MayMove (at m))
      (each_edge (λ x y. MayMove (at x) → MayMove (at y)) pass.Sequence list (λ d within. move_edges k d (meets d within)))
      h.0 n h.2
      (each_origin (λ m. MayMove (at m)) start.Sequence list (λ d within. move_origins k d (meets d within)) h.0 c h.1)

  turns_wild : (n : ℕ) (c : Cause) → TurnsWild list c n → at n ≡ Wild
  turns_wild n c h =
      elim h [
        | inl forced ↦ each_origin (λ m. at m ≡ Wild) start.Wild list (λ d within. wild_origins k d (meets d within)) n c forced
        | inr turned ↦
            each_edge (λ x y. MayMove (at x) → at y ≡ Wild) pass.Turn list (λ d within. turn_edges k d (meets d within)) turned.0 n
            turned.2 (first_moves turned.0 c turned.1)
      ]

  least_wild : (n : ℕ) (c : Cause) → WildFrom list c n → at n ≡ Wild
  least_wild n c h =
      along_Leads (edges pass.Wild list) (λ m. at m ≡ Wild)
      (each_edge (λ x y. at x ≡ Wild → at y ≡ Wild) pass.Wild list (λ d within. wild_edges k d (meets d within)))
      h.0 n h.2 (turns_wild h.0 c h.1)

pub wild_at_least : (k : NodeId → Kind) (list : List Constraint) → MeetsAll k list → (n : NodeId) (c : Cause) → WildFrom list c n.0 → k n ≡ Wild
wild_at_least k list meets n c h = least_wild k list meets n.0 c h

-- What was given is what stands in the tree: it is well typed over the table of the whole text, its nodes are numbered, and there is one
-- such tree.
use Rattle.std.proofs.Common.{◌≡◌, ◌≤◌, ◌<◌, ◌+◌, ℕ, Bool, true, false, List, [], ◌∷◌, length, map, refl, ap, sym, subst, ◌∙◌, arith}
use Rattle.std.proofs.lemmas.List.{length-append, length-map}
use Rattle.std.specs.List.{All, flat_map}
use Rattle.cc_base.specs.declared.number.NodeId.{NodeId}
use Rattle.c_types.specs.Table.{Table, is_empty}
use Rattle.c_tree.specs.Tree as tree
use Rattle.c_tree.specs.TypedTree.{TypedExpr}
use Rattle.c_tree.specs.TypedParts.{Made, made_by, made_by_place, nodes_made, node_made}
use Rattle.c_typing.specs.Conversions.{is_taken_over}
use Rattle.c_typing.specs.Extensions.{IsExtended}
use Rattle.c_typing.specs.Judging.{State, Gives}
use Rattle.c_typing.specs.Operands.{Operand}
use Rattle.c_typing.specs.Refusals.{is_natural, IsElaborated}
use Rattle.c_typing.specs.Scopes.{Name, Scopes, members_named}
use Rattle.c_typing.specs.Settled.{IsBasic}
use Rattle.c_typing.specs.Tests.{Elaborated, AsPlace, AsValue, AsAllocation}
use Rattle.c_typing.specs.Walks.{judge}
use Rattle.c_typing_laws.specs.Numbers.{made_by_part, AreNumberedFrom}
use Rattle.c_typing_laws.proofs.HeldTrees.{held-law}
use Rattle.c_typing_laws.proofs.JudgedTrees.{expr-law}
use Rattle.c_typing_laws.proofs.KeptTrees.{value-kept, place-kept}
use Rattle.c_typing_laws.proofs.NumberedWhole.{expr-numbers}
use Rattle.c_typing_laws.proofs.ValuesTaken.{natural-no_place, natural-no_allocation}
use Rattle.c_typing_unique.specs.Points.{Point, HasOwn, AreFrom, Numbers}
use Rattle.c_typing_unique.proofs.Numbering.{numbers-from}
use Rattle.c_typing_unique.proofs.Reading.{Part, OfValue, OfPlace, IsPartRead, ArePartsAlike, point-same}
use Rattle.c_typing_unique.proofs.Shapes.{no_true}
use Rattle.c_typing_exact.specs.Numbered.{IsElaboratedAt}
use Rattle.c_typing_exact.proofs.SameParts.{one, over_allocation, over_no_place}
use Rattle.c_typing_given.specs.Given.{point_at, IsHere, IsOnWay, AreSame, IsPartGiven}
use Rattle.c_typing_given.specs.Spending.{node_cost, total, HasSpent, IsSmall}
use Rattle.c_typing_given.proofs.TypeGiven.{DefinesNone}

-- Counts of nodes

from_end : (ns : List ℕ) (a b : ℕ) → AreFrom ns a b → b ≡ a + length ns
from_end [] a b h = omega (arith, h)
from_end (n ∷ ns) a b h = let k = from_end ns (a + 1) b h.1 in omega (arith, k)

count_of_nodes : (made : List Made) → length (nodes_made made) ≡ total node_cost made
count_of_nodes [] = refl
count_of_nodes (m ∷ made) = let h = count_of_nodes made in omega (arith, h, length-append (node_made m) (flat_map node_made made))

-- what a part makes is numbered up to here
pub numbers-end : (made : List Made) (a b : ℕ) → Numbers made a b → b ≡ a + total node_cost made
numbers-end made a b h =
    let k = from_end (map (λ (n : NodeId). n.0) (nodes_made made)) a b h in
    omega (arith, k, length-map (nodes_made made) (λ (n : NodeId). n.0), count_of_nodes made)

-- A state after which the scopes know no more structs

abbrev pub naming : List (List Name) → Scopes
naming all = record { levels = []; defined = []; members = all }

pub small-kept : (s r : State) → IsSmall s → r.seen.scopes.members ≡ s.seen.scopes.members → r.seen.scopes.defined ≡ s.seen.scopes.defined → length s.table ≤ length r.table
    → (0 < length s.seen.scopes.levels → 0 < length r.seen.scopes.levels) → DefinesNone s.table r.table → IsSmall r
small-kept s r h m d l k none = record {
  few = let a = h.few in omega (arith, a, l, ap length m);
  short = subst (λ (all : List (List Name)). All (λ (names : List Name). length names ≤ 4294967296) all) (sym m) h.short;
  functions = let a = h.functions in omega (arith, a, ap length d);
  opened = k h.opened;
  finished = λ t n p full. let own = none t n p full in ap (λ (all : List (List Name)). is_empty (members_named (naming all) n)) m ∙ h.finished t n own.0 own.1;
}

-- Parts

abbrev pub of_part : Elaborated → Part
of_part (AsPlace p) = OfPlace p
of_part (AsValue v) = OfValue v
of_part (AsAllocation v) = OfValue v

natural_over : (v : TypedExpr) → is_natural v ≡ true → is_taken_over v ≡ false
natural_over v h = by (is_taken_over v) refl
  where
    by : (b : Bool) → is_taken_over v ≡ b → b ≡ false
    by false q = refl
    by true q = no_true (sym (natural-no_allocation v h) ∙ over_allocation v q)

module _ (T : Table) (basic : IsBasic T) where
  pub part-read : (e : tree.Expr) (x : Elaborated) (a b : Point) → IsElaboratedAt T e x a b → IsPartRead T e (of_part x) a b
  part-read e (AsPlace p) a b h = h
  part-read e (AsValue v) a b h = (natural-no_place v h.1, h.0)
  part-read e (AsAllocation v) a b h = (over_no_place v h.1, h.0)

  pub part-numbers : (e : tree.Expr) (x : Elaborated) (a b : Point) → IsElaboratedAt T e x a b → Numbers (made_by_part x) a.node b.node
  part-numbers e (AsPlace p) a b h = h.2
  part-numbers e (AsValue v) a b h = h.0.2
  part-numbers e (AsAllocation v) a b h = h.0.2

  same_by : (e : tree.Expr) (x y : Elaborated) (a b c d : Point) → IsElaboratedAt T e x a b → IsElaboratedAt T e y c d → ArePartsAlike (of_part x) (of_part y) → AreSame x y
  same_by e (AsPlace p) (AsPlace q) a b c d h k like = like
  same_by e (AsValue v) (AsValue w) a b c d h k like =
      like.same (natural_over v h.1 ∙ sym (natural_over w k.1)) (λ over. no_true (sym (natural_over v h.1) ∙ over))
  same_by e (AsValue v) (AsAllocation w) a b c d h k like = no_true (sym (natural-no_allocation v h.1) ∙ like.allocation ∙ over_allocation w k.1)
  same_by e (AsAllocation v) (AsValue w) a b c d h k like = no_true (sym (natural-no_allocation w k.1) ∙ sym like.allocation ∙ over_allocation v h.1)
  same_by e (AsAllocation v) (AsAllocation w) a b c d h k like = tt
  same_by e (AsPlace p) (AsValue w) a b c d h k like = absurd like
  same_by e (AsPlace p) (AsAllocation w) a b c d h k like = absurd like
  same_by e (AsValue v) (AsPlace q) a b c d h k like = absurd like
  same_by e (AsAllocation v) (AsPlace q) a b c d h k like = absurd like

  pub same-part : (e : tree.Expr) (x y : Elaborated) (a b d : Point) → IsElaboratedAt T e x a b → IsElaboratedAt T e y a d → HasOwn a
      → AreSame x y × (b.scopes ≡ d.scopes) × HasOwn b
  same-part e x y a b d h k own =
      let u = one T basic e (of_part x) (of_part y) a b a d (part-read e x a b h) (part-read e y a d k) refl own in
      (same_by e x y a b a d h k u.0, u.1, u.2)

  pub numbered-at : (made : List Made) (s r : State) → AreNumberedFrom made s r → Numbers made s.seen.node r.seen.node
  numbered-at made s r h = subst (Numbers made s.seen.node) (sym h.after) (numbers-from made s.seen.node h.numbers)

  pub elaborated-at : (e : tree.Expr) (x : Elaborated) (s r : State) → IsBasic r.table → IsExtended r.table T → IsElaborated r.table e x s.seen.scopes r.seen.scopes
      → AreNumberedFrom (made_by_part x) s r → IsElaboratedAt T e x (point_at s) (point_at r)
  elaborated-at e (AsPlace p) s r b first h n =
      (h.1, place-kept r.table T first b p s.seen.scopes r.seen.scopes h.0, numbered-at (made_by_place p) s r n)
  elaborated-at e (AsValue v) s r b first h n =
      ((h.1, value-kept r.table T first b v s.seen.scopes r.seen.scopes h.0, numbered-at (made_by v) s r n), h.2)
  elaborated-at e (AsAllocation v) s r b first h n =
      ((h.1, value-kept r.table T first b v s.seen.scopes r.seen.scopes h.0, numbered-at (made_by v) s r n), h.2)

  -- the point after what was counted
  pub point-after : (made : List Made) (s r : State) (b : Point) → Numbers made s.seen.node b.node → HasSpent T made s r → r.seen.scopes ≡ b.scopes → point_at r ≡ b
  point-after made s r b n spent same =
      let k = spent.nodes in
      let l = numbers-end made s.seen.node b.node n in
      point-same (point_at r) b same (k ∙ sym l)

  -- what judging gives is the part that stands there
  pub settle : (called : Bool) (e : tree.Expr) (x : Elaborated) (o : Operand) (s r : State) (b : Point) (count : ℕ) → IsHere T s → IsElaboratedAt T e x (point_at s) b
      → judge called e s ≡ Gives o r → IsOnWay T (made_by_part x) s r count → IsPartGiven T called e x s b count
  settle called e x o s r b count here h g way =
      let j = expr-law called e o s r here.known g in
      let at = elaborated-at e o.part s r j.goes.known.basic way.first j.part (expr-numbers called e o s r here.known g) in
      let same = same-part e o.part x (point_at s) (point_at r) b at h here.own in
      record {
        operand = o;
        after = r;
        gives = g;
        same = same.0;
        typed = j.part;
        place = j.place;
        held = held-law called e o s r g;
        reached = record {
          here = record { known = j.goes.known; first = way.first; small = way.small; own = same.2 };
          grown = j.goes.extends;
          point = point-after (made_by_part x) s r b (part-numbers e x (point_at s) b h) way.spent same.1;
          way = way;
        };
      }

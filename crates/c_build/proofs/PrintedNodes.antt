-- The nodes of a unit whose kinds are printed are among those that are counted.
use Rattle.std.proofs.Common.{◌≡◌, ℕ, ◌<◌, ◌≤◌, ◌+◌, List, [], ◌∷◌, ◌++◌, map, length, flat_map, sym, ap, ◌∙◌, refl, arith, subst}
use Rattle.std.specs.List.{All, range_with_len}
use Rattle.std.specs.List.Sorted.{IsPermutation}
use Rattle.std.proofs.lemmas.List.Elements.{All-nil, All-cons, All-head, All-tail, All-append}
use Rattle.std.proofs.lemmas.List.Concat.{flat_map-cons}
use Rattle.std.proofs.lemmas.List.Sorted.{All-permutation}
use Rattle.cc_base.specs.declared.number.NodeId.{NodeId}
use Rattle.c_tree.specs.declared.typed_unit.Printed.{Printed}
use Rattle.c_tree.specs.declared.typed_word.Home.{Home}
use Rattle.c_tree.specs.declared.typed_word.Home.TheVariants as home
use Rattle.c_tree.specs.TypedParts.{Made, Written, Name, Literal, Address, Copy, node_made, nodes_made, printed}

-- nodes that are numbered from a on are below what follows them
below : (nodes : List NodeId) (a m : ℕ) → map (λ n. n.0) nodes ≡ range_with_len a (length nodes) → a + length nodes ≤ m → All (λ n. n.0 < m) nodes
below [] a m e h = All-nil (λ n. n.0 < m)
below (n ∷ nodes) a m e h =
    let first : n.0 ≡ a = cc (e) in
    let rest : map (λ n. n.0) nodes ≡ range_with_len (a + 1) (length nodes) = cc (e) in
    All-cons (λ n. n.0 < m) n nodes (omega arith) (below nodes (a + 1) m rest (omega arith))

module _ (P : NodeId → Type 0) where
  PrintedAs : List Made → Type 0
  PrintedAs made = All (λ p. P p.node) (flat_map printed made)

  one_node : (n : NodeId) (p : Printed) (made : List Made) → p.node ≡ n → All P (n ∷ nodes_made made) → (All P (nodes_made made) → All (λ p. P p.node) (flat_map printed made))
      → All (λ p. P p.node) (p ∷ flat_map printed made)
  one_node n p made same all rest =
      All-cons (λ p. P p.node) p (flat_map printed made) (subst P (sym same) (All-head P n (nodes_made made) all)) (rest (All-tail P n (nodes_made made) all))

  are_printed : (made : List Made) → All P (nodes_made made) → All (λ p. P p.node) (flat_map printed made)
  are_printed [] all = All-nil (λ p. P p.node)
  are_printed (Written place n ∷ made) all = one_node n _ made refl all (are_printed made)
  are_printed (Name name home.None t ∷ made) all = are_printed made all
  are_printed (Name name (home.Known n) t ∷ made) all = are_printed made all
  are_printed (Name name (home.Static n) t ∷ made) all = one_node n _ made refl all (are_printed made)
  are_printed (Name name (home.Local n) t ∷ made) all = one_node n _ made refl all (are_printed made)
  are_printed (Name name (home.Parameter n) t ∷ made) all = one_node n _ made refl all (are_printed made)
  are_printed (Literal pieces n t ∷ made) all = are_printed made (All-tail P n (nodes_made made) all)
  are_printed (Address n ∷ made) all = are_printed made (All-tail P n (nodes_made made) all)
  are_printed (Copy t ∷ made) all = are_printed made all

-- each node that is printed, in whatever order, is below the number of nodes
pub printed_below : (made : List Made) (all : List Printed) (count : ℕ) → map (λ n. n.0) (nodes_made made) ≡ range_with_len 0 (length (nodes_made made))
    → count ≡ length (nodes_made made) → IsPermutation (flat_map printed made) all → All (λ p. p.node.0 < count) all
printed_below made all count numbered counted same =
    All-permutation (λ p. p.node.0 < count) (flat_map printed made) all same
    (are_printed (λ n. n.0 < count) made (below (nodes_made made) 0 count numbered (omega arith)))

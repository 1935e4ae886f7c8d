-- What one part after another costs.
use Rattle.std.proofs.Common.{◌≡◌, ◌+◌, ℕ, List, [], ◌∷◌, ◌++◌, length, arith}
use Rattle.std.proofs.lemmas.List.{length-append}
use Rattle.c_types.specs.Table.{Table}
use Rattle.c_tree.specs.TypedParts.{Made}
use Rattle.c_typing.specs.Assignments.{literal_cost}
use Rattle.c_typing.specs.Judging.{State}
use Rattle.c_typing_given.specs.Spending.{node_cost, total, HasRoom, HasSpent}
use Rattle.c_cells_kept.specs.Counted.{copied_by}

pub total-append : (cost : Made → ℕ) (xs ys : List Made) → total cost (xs ++ ys) ≡ total cost xs + total cost ys
total-append cost [] ys = omega arith
total-append cost (x ∷ xs) ys = let h = total-append cost xs ys in omega (arith, h)

-- what is made, each at the cost of 1
pub total-ones : (made : List Made) → total (λ m. 1) made ≡ length made
total-ones [] = omega arith
total-ones (m ∷ made) = let h = total-ones made in omega (arith, h)

module _ (T : Table) where
  pub room-first : (xs ys : List Made) (s : State) → HasRoom T (xs ++ ys) s → HasRoom T xs s
  room-first xs ys s h = record {
    things = let a = h.things in omega (arith, a, length-append xs ys);
    nodes = let a = h.nodes in omega (arith, a, total-append node_cost xs ys);
    globals = let a = h.globals in omega (arith, a, total-append literal_cost xs ys);
    cells = let a = h.cells in omega (arith, a, total-append (copied_by T) xs ys);
  }

  pub room-then : (xs ys : List Made) (s r : State) → HasRoom T (xs ++ ys) s → HasSpent T xs s r → HasRoom T ys r
  room-then xs ys s r h k = record {
    things = let a = h.things in omega (arith, a, length-append xs ys);
    nodes = let a = h.nodes in let b = k.nodes in omega (arith, a, b, total-append node_cost xs ys);
    globals = let a = h.globals in let b = k.globals in omega (arith, a, b, total-append literal_cost xs ys);
    cells = let a = h.cells in let b = k.cells in omega (arith, a, b, total-append (copied_by T) xs ys);
  }

  pub spent-both : (xs ys : List Made) (s m r : State) → HasSpent T xs s m → HasSpent T ys m r → HasSpent T (xs ++ ys) s r
  spent-both xs ys s m r h k = record {
    nodes = let a = h.nodes in let b = k.nodes in omega (arith, a, b, total-append node_cost xs ys);
    globals = let a = h.globals in let b = k.globals in omega (arith, a, b, total-append literal_cost xs ys);
    cells = let a = h.cells in let b = k.cells in omega (arith, a, b, total-append (copied_by T) xs ys);
  }

  pub spent-none : (s r : State) → r.seen.node ≡ s.seen.node → r.seen.globals ≡ s.seen.globals → r.seen.cells ≡ s.seen.cells → HasSpent T [] s r
  spent-none s r h k j = record { nodes = omega (arith, h); globals = omega (arith, k); cells = omega (arith, j) }

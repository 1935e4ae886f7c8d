-- What one part of a unit after another costs.
use Rattle.std.proofs.Common.{◌≡◌, ◌≤◌, List, [], ◌∷◌, ◌++◌, arith}
use Rattle.std.proofs.lemmas.List.{length-append}
use Rattle.c_types.specs.Table.{Table}
use Rattle.c_tree.specs.declared.typed_word.Home.TheVariants as home
use Rattle.c_tree.specs.TypedParts.{Made, Written, Name, Literal, Address, Copy}
use Rattle.c_typing_given.specs.Spending.{node_cost, total, HasRoom, HasSpent}
use Rattle.c_typing_given.proofs.Spent.{total-append}
use Rattle.c_unit_typing.specs.UnitJudged.{state_of}
use Rattle.c_unit_typing.specs.UnitJudging.{UnitState}
use Rattle.c_unit_given.proofs.UnitGiven.{object_cost, HasUnitRoom, HasUnitSpent}
use Rattle.c_cells_kept.specs.Counted.{copied_by}
use Rattle.c_typing.specs.Assignments.{literal_cost}

module _ (T : Table) where
  -- a literal is an object
  literal_object : (m : Made) → literal_cost m ≤ object_cost T m
  literal_object (Written at n) = omega arith
  literal_object (Name name (home.Static n) t) = omega arith
  literal_object (Name name home.None t) = omega arith
  literal_object (Name name (home.Local n) t) = omega arith
  literal_object (Name name (home.Parameter n) t) = omega arith
  literal_object (Name name (home.Known n) t) = omega arith
  literal_object (Literal pieces n t) = omega arith
  literal_object (Address n) = omega arith
  literal_object (Copy t) = omega arith

  pub literals-objects : (made : List Made) → total literal_cost made ≤ total (object_cost T) made
  literals-objects [] = omega arith
  literals-objects (m ∷ made) = let a = literal_object m in let b = literals-objects made in omega (arith, a, b)

  pub part-room : (made : List Made) (s : UnitState) → HasUnitRoom T made s → HasRoom T made (state_of s)
  part-room made s h = record {
    things = h.things;
    nodes = h.nodes;
    globals = let a = h.globals in let b = literals-objects made in omega (arith, a, b);
    cells = h.cells;
  }

  pub part-spent : (made : List Made) (s r : UnitState) → HasSpent T made (state_of s) (state_of r) → HasUnitSpent T made s r
  part-spent made s r h = record {
    nodes = h.nodes;
    globals = let a = h.globals in let b = literals-objects made in omega (arith, a, b);
    cells = h.cells;
  }

  pub unit-room-first : (xs ys : List Made) (s : UnitState) → HasUnitRoom T (xs ++ ys) s → HasUnitRoom T xs s
  unit-room-first xs ys s h = record {
    things = let a = h.things in omega (arith, a, length-append xs ys);
    nodes = let a = h.nodes in omega (arith, a, total-append node_cost xs ys);
    globals = let a = h.globals in omega (arith, a, total-append (object_cost T) xs ys);
    cells = let a = h.cells in omega (arith, a, total-append (copied_by T) xs ys);
  }

  pub unit-room-then : (xs ys : List Made) (s r : UnitState) → HasUnitRoom T (xs ++ ys) s → HasUnitSpent T xs s r → HasUnitRoom T ys r
  unit-room-then xs ys s r h k = record {
    things = let a = h.things in omega (arith, a, length-append xs ys);
    nodes = let a = h.nodes in let b = k.nodes in omega (arith, a, b, total-append node_cost xs ys);
    globals = let a = h.globals in let b = k.globals in omega (arith, a, b, total-append (object_cost T) xs ys);
    cells = let a = h.cells in let b = k.cells in omega (arith, a, b, total-append (copied_by T) xs ys);
  }

  pub unit-spent-both : (xs ys : List Made) (s m r : UnitState) → HasUnitSpent T xs s m → HasUnitSpent T ys m r → HasUnitSpent T (xs ++ ys) s r
  unit-spent-both xs ys s m r h k = record {
    nodes = let a = h.nodes in let b = k.nodes in omega (arith, a, b, total-append node_cost xs ys);
    globals = let a = h.globals in let b = k.globals in omega (arith, a, b, total-append (object_cost T) xs ys);
    cells = let a = h.cells in let b = k.cells in omega (arith, a, b, total-append (copied_by T) xs ys);
  }

  pub unit-spent-none : (s r : UnitState) → r.seen.node ≡ s.seen.node → r.seen.globals ≡ s.seen.globals → r.seen.cells ≡ s.seen.cells → HasUnitSpent T [] s r
  unit-spent-none s r h k j = record { nodes = omega (arith, h); globals = omega (arith, k); cells = omega (arith, j) }

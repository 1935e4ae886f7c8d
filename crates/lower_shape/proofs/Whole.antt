-- A program that is lowered from a well typed unit within its limits is in shape.
use Rattle.std.specs.List.{All}
use Rattle.std.proofs.Common.{◌≤◌, length, sym, subst}
use Rattle.c_types.specs.Table.{Entry, AreNodesOf}
use Rattle.c_tree.specs.Depth.{unit_height}
use Rattle.c_tree.specs.Erasure.{erased_unit}
use Rattle.c_tree.specs.TypedTree.{TypedTranslationUnit}
use Rattle.c_tree.specs.TypedParts.{functions_of, made_by_unit, nodes_made}
use Rattle.c_unit_typing.specs.Limits.{IsWithinLimits}
use Rattle.c_unit_typing.specs.WellTyped.{IsWellTyped}
use Rattle.c_ready.specs.Ready.{IsReadyUnit}
use Rattle.c_ready.proofs.ReadyUnit.{well-typed-ready}
use Rattle.cil_form.specs.declared.program.Program.{Program}
use Rattle.cil_form.specs.Shape.{IsInShape, IsSiteInShape}
use Rattle.lower_rules.specs.Units as lowered
use Rattle.lower_shape.specs.Lowered.{IsLoweredFrom}
use Rattle.lower_shape.proofs.Bodies.{IsTold, pieces-told, statics-shaped}
use Rattle.lower_shape.proofs.Functions.{functions-shaped, as-many}
use Rattle.lower_shape.proofs.MainShaped.{main-there}
use Rattle.lower_shape.proofs.SitesThere.{table-nodes, sites-there}
use Rattle.lower_shape.proofs.StaticsShaped.{statics-in_shape, globals-few}
use Rattle.lower_shape.proofs.UnitParts.{bodies-within, statics-within}
use Rattle.lower_shape.proofs.WholeCells.{cells-few}

ready-shaped : (u : TypedTranslationUnit) (p : Program) → IsReadyUnit p.types u → IsWithinLimits p.types u → unit_height (erased_unit u) ≤ 256
    → IsLoweredFrom u p → IsInShape p
ready-shaped u p w limits height l = record {
  formed = w.basic.formed;
  nodes = subst (λ n. All (λ (e : Entry). AreNodesOf n e.shape) p.types) (sym l.nodes) (table-nodes p.types u w);
  sites =
      subst (λ n. All (IsSiteInShape p.types n) p.sites) (sym l.nodes)
      (subst (λ sites. All (IsSiteInShape p.types (length (nodes_made (made_by_unit u)))) sites) (sym l.sites) (sites-there p.types u w));
  statics = statics-in_shape u p w l;
  globals = globals-few u p w l limits;
  initialisers = statics-shaped u p w l (statics-within (IsTold u p w l) u (pieces-told u p w l) limits.holds height);
  functions = functions-shaped u p w l limits (bodies-within (IsTold u p w l) u (pieces-told u p w l) limits.holds height);
  count = subst (λ n. n ≤ 65535) (sym (as-many p.types (lowered.homes_of u) (functions_of u) p.functions l.code.functions)) limits.functions;
  main = main-there u p w l;
  cells = cells-few u p w l limits;
}

pub program-shaped : (u : TypedTranslationUnit) (p : Program) → IsWellTyped p.types u → IsWithinLimits p.types u → unit_height (erased_unit u) ≤ 256
    → IsLoweredFrom u p → IsInShape p
program-shaped u p typed limits height l = ready-shaped u p (well-typed-ready p.types u typed) limits height l

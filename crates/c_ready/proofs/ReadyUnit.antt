-- A well typed unit is ready.
use Rattle.std.specs.List.{All}
use Rattle.std.proofs.Common.{◌++◌, true, false, List, [], map, flat_map, Some, None, ◌≡◌, sym, subst}
use Rattle.std.proofs.lemmas.List.Elements.{All-nil, All-append, All-map}
use Rattle.cc_base.specs.declared.number.TypeId.{TypeId}
use Rattle.c_types.specs.Table.{Table}
use Rattle.c_tree.specs.declared.leaf.Identifier.{Identifier}
use Rattle.c_tree.specs.TypedTree as typed
use Rattle.c_tree.specs.TypedTree.{TypedForm, TypedBlockItems, TypedTranslationUnit}
use Rattle.c_tree.specs.TypedParts.{Made, node_made, locals_of, functions_of, home_of_form, name_of_form, made_by_unit, made_by_declaration, made_by_specifiers, made_by_form, made_by_block_items, parameters_in_form}
use Rattle.c_unit_typing.specs.Units as units
use Rattle.c_unit_typing.specs.Units.{IsUnitTyped}
use Rattle.c_unit_typing.specs.WellTyped.{IsWellTyped, known_before}
use Rattle.c_ready.specs.Ready.{file_stage, Stage, Named, IsNode, IsWhole, made_named, static_stage, IsReadyFunction, AreReadyExternals, IsReadyUnit}
use Rattle.c_ready.proofs.Contexts.{Context, context_of}
use Rattle.c_ready.proofs.ParameterObjects.{objects_of, variables-are, taken-are}
use Rattle.c_ready.proofs.ReadyFunctions.{AreExternalsReady, IsBodyReady}
use Rattle.c_ready.proofs.ReadyMade.{unit-ready, within}
use Rattle.c_ready.proofs.HomesApart.{homes-distinct}
use Rattle.c_ready.proofs.NodesOnce.{nodes-there, pointees-one, homes-other, members-apart}
use Rattle.c_ready.proofs.AggregatesWritten.{aggregates-written}
use Rattle.c_ready.proofs.FunctionsLinked.{functions-alike}
use Rattle.c_ready.proofs.ObjectsMade.{IsObjectWhole, specifiers-objects, form-objects}
use Rattle.c_ready.proofs.ObjectsOfUnits.{home-whole, declaration-objects, block-objects, statics-planned, statics-texts, locals-planned}
use Rattle.c_ready.proofs.Gathered.{functions-gathered, initialisers-gathered, at-its-place}
use Rattle.c_ready.proofs.Basics.{flat-left, flat-right}

module _ (T : Table) (u : TypedTranslationUnit) (after : units.Known) where
  abbrev static : Stage
  static = static_stage T u

  abbrev base : Context
  base = context_of (static_stage T u) after.linked

  abbrev P : Made → Type 0
  P m = IsObjectWhole T m

  abbrev AreNodes : List Made → Type 0
  AreNodes xs = All (IsNode static) (flat_map node_made xs)

  abbrev Planned : Named → Type 0
  Planned o = IsNode static o.0 × IsWhole static o.1

  -- a function's objects
  frame : (form : TypedForm) (t : TypeId) (body : TypedBlockItems) (name : Identifier) → name_of_form form ≡ Some name
      → IsBodyReady base (record { declarator = typed.Declares form t; body = body })
      → AreNodes (made_by_block_items body)
      → All P (made_by_block_items body) → IsReadyFunction static (record { declarator = typed.Declares form t; body = body })
  frame form t body name named b nodes whole = record {
    name = name;
    named = named;
    result = b.result;
    parameters = taken-are (parameters_in_form form typed.NoParameter);
    types = b.types;
    scalars = b.scalars;
    gives = b.gives;
    plans =
        subst (All Planned) (sym (variables-are form t body)) (
        All-append Planned (objects_of (parameters_in_form form typed.NoParameter)) (map made_named (locals_of body)) b.objects
        (All-map Planned made_named (locals_of body) (locals-planned static (made_by_block_items body) nodes whole)));
    body = b.body;
  }

  externals-are : (p : TypedTranslationUnit) (k k' : units.Known) → IsUnitTyped T p k k' → AreExternalsReady base p → AreNodes (made_by_unit p)
      → AreReadyExternals static p × All P (made_by_unit p)
  externals-are typed.NoExternal k k' h r nodes = (tt, All-nil P)
  externals-are (typed.AndExternal p d) k k' h r nodes =
      let before = externals-are p k h.0 h.1 r.0 (flat-left (IsNode static) node_made (made_by_unit p) (made_by_declaration d) nodes) in
      ((before.0, r.1), All-append P (made_by_unit p) (made_by_declaration d) before.1 (declaration-objects static [] true d h.0 k' h.2 r.1))
  externals-are (typed.AndFunctionBody p specifiers (typed.Declares form t) brace body) k k' h r nodes =
      let x = made_by_unit p in let y = made_by_specifiers specifiers in let z = made_by_form form t in let v = made_by_block_items body in
      let n3 = flat-left (IsNode static) node_made (x ++ y ++ z) v nodes in
      let n2 = flat-left (IsNode static) node_made (x ++ y) z n3 in
      let before = externals-are p k h.0 h.1 r.0 (flat-left (IsNode static) node_made x y n2) in
      let specified = specifiers-objects T specifiers h.0.scopes h.2.before h.2.specified in
      let formed = form-objects T form t h.2.before h.2.declares.inside h.2.declares.parts
      (home-whole static (file_stage static) (home_of_form form) t r.3) in
      let inside = block-objects static _ (record { result = h.2.result; in_loop = false; breakable = false })
      (record { result = r.4.result; in_loop = false; breakable = false }) None body _ h.2.after h.2.statements r.4.body in (
        (before.0, r.1, r.2, r.3, frame form t body h.2.name h.2.named r.4 (flat-right (IsNode static) node_made (x ++ y ++ z) v nodes) inside),
        All-append P (x ++ y ++ z) v (All-append P (x ++ y) z (All-append P x y before.1 specified) formed) inside,
      )

pub well-typed-ready : (T : Table) (u : TypedTranslationUnit) → IsWellTyped T u → IsReadyUnit T u
well-typed-ready T u w =
    let formed = w.basic.formed in
    let parts = unit-ready T formed u w.after w.numbered w.typed w.structs.closed in
    let nodes = (within T formed u w.after w.numbered).nodes in
    let all = externals-are T u w.after u (known_before u) w.after w.typed parts nodes in
    let main = at-its-place (functions_of u) w.main.main w.main.there in
    record {
      basic = w.basic;
      externals = all.0;
      functions = functions-gathered (static_stage T u) u all.0;
      initialisers = initialisers-gathered (static_stage T u) u all.0;
      objects = record {
        plans = statics-planned (static_stage T u) (made_by_unit u) nodes all.1;
        texts = statics-texts (static_stage T u) (made_by_unit u) all.1;
        distinct = homes-distinct u w.numbered;
      };
      alike = functions-alike T u (known_before u) w.after w.typed;
      written = aggregates-written T u w;
      members = members-apart T u (known_before u) w.after w.basic w.numbered w.typed w.types all.0;
      nodes = nodes-there T u (known_before u) w.after w.basic w.numbered w.typed w.types all.0;
      pointees = pointees-one T u (known_before u) w.after w.basic w.numbered w.typed w.types all.0;
      homes = homes-other T u (known_before u) w.after w.basic w.numbered w.typed w.types all.0;
      main = record {
        number = main.0;
        main = w.main.main;
        there = main.1;
        named = w.main.named;
        result = w.main.result;
        gives = w.main.gives;
        shape = w.main.shape;
      };
    }

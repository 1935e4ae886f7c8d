use Rattle.std.proofs.Common.{◌≡◌, ap, sym, subst, ◌∙◌, suc, ◌+◌, ◌*◌, ◌≤◌, List, length, map, arith}
use Rattle.std.specs.List.{All}
use Rattle.cil_form.specs.declared.program.Static.{Static}
use Rattle.cil_form.specs.Machine.{plan}
use Rattle.cured_code.specs.declared.parts.GlobalLine.{GlobalLine}
use Rattle.cured_code.specs.FlatState.{PlacedArea}
use Rattle.cured_code.specs.FlatMachine.{global_areas, placed}
use Rattle.cure_code.proofs.ProgramLaws.{globals_given, globals_few, globals_small}
use Rattle.cure_code.proofs.programs.tables_of.Goals as goal

pub addresses-requires-clause-few : goal.addresses-requires-clause-few
addresses-requires-clause-few c =
    subst (λ (xs : List GlobalLine). length xs ≤ 1048576) (sym c.deref-3.ensures.value)
    (globals_few c.args.program.now c.args.kinds.now c.requires.shape c.in_ok-globals.globals.items
    (globals_given c.args.program.now c.args.kinds.now _ _ _ c.in_ok-layouts.ensures (c.deref-2.ensures.value ∙ c.statics.view_is) c.in_ok-globals.ensures))

pub addresses-requires-clause-small : goal.addresses-requires-clause-small
addresses-requires-clause-small c =
    subst (λ (xs : List GlobalLine). All (λ (g : GlobalLine). g.area.bytes ≤ 3145728) xs) (sym c.deref-3.ensures.value)
    (globals_small c.args.program.now c.args.kinds.now c.requires.shape c.in_ok-globals.globals.items
    (globals_given c.args.program.now c.args.kinds.now _ _ _ c.in_ok-layouts.ensures (c.deref-2.ensures.value ∙ c.statics.view_is) c.in_ok-globals.ensures))

pub returns : goal.returns
returns c = record {
  listed = c.in_ok-listed.ensures;
  known = c.in_ok-known.ensures;
  layouts = c.in_ok-layouts.ensures;
  signatures = c.in_ok-signatures.ensures.signed;
  few = c.in_ok-signatures.ensures.few;
  statics = c.in_ok-planned.ensures ∙ ap (map (λ (o : Static). plan o.planned)) (c.deref.ensures.value ∙ c.statics.view_is);
  globals = globals_given c.args.program.now c.args.kinds.now _ _ _ c.in_ok-layouts.ensures (c.deref-2.ensures.value ∙ c.statics.view_is) c.in_ok-globals.ensures;
  addresses =
      let count = c.len.ensures in
      let same = ap length c.functions.view_is in
      let e : c.len.result + 1 ≡ suc (length c.args.program.now.functions) = omega (arith, count, same) in
      c.in_ok-addresses.ensures ∙ (λ i. map (λ (a : PlacedArea). a.address) (placed (global_areas (c.deref-3.ensures.value i)) (8 * e i)));
}

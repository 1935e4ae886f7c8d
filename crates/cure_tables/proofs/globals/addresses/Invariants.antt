use Rattle.std.proofs.Common.{◌≡◌, ◌+◌, ◌*◌, ◌≤◌, map, drop}
use Rattle.cured_code.specs.FlatMachine.{global_areas, placed}
use Rattle.cure_tables.proofs.Statics.{with_rest}
use Rattle.cure_tables.proofs.globals.addresses.Given as goal

abbrev pub invariant-globals : goal.invariant-globals
invariant-globals l = record {
  rest : with_rest l.all.items (drop l.global-index l.globals) l.start ≡ map (λ a. a.address) (placed (global_areas l.globals) (8 * l.functions));
  low : l.start ≤ 524288 + l.global-index * 9437224;
}

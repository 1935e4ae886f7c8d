use Rattle.std.proofs.Common.{List, length, ap, subst, ◌∙◌, arith}
use Rattle.c_types.specs.Table.{Entry}
use Rattle.c_types.specs.Sound.{IsWellFormed}
use Rattle.phys_types.specs.Firsts.{AreFirstEquals}
use Rattle.cc_base.specs.declared.number.TypeId.{TypeId}
use Rattle.kind_constraints.specs.Pieces.{ArePointees}
use Rattle.kind_constraints.proofs.listing.ask.Goals as goal

pub pointees_of-requires : goal.pointees_of-requires
pointees_of-requires c = λ t p.
    let l = c.requires t p in
    let n = c.in_ok-firsts.ensures.count in
    let same = ap length c.in_ok-known.ensures in
    let read = ap length c.deref.ensures.value in
    omega arith

pub returns-clause-asked : goal.returns-clause-asked
returns-clause-asked c = record {
  same = c.in_ok-known.ensures;
  formed = subst IsWellFormed (c.known.view_is ∙ c.in_ok-known.ensures) c.known.invariant.formed;
  equal = subst (λ (table : List Entry). AreFirstEquals table c.in_ok-firsts.firsts.items) c.in_ok-known.ensures c.in_ok-firsts.ensures;
  typed = c.requires;
  pointed = subst (λ (firsts : List TypeId). ArePointees firsts c.args.sites.now c.in_ok-pointees.pointees.items) c.deref.ensures.value c.in_ok-pointees.ensures;
  places = c.in_ok-unions.ensures;
}

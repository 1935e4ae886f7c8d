use Rattle.std.proofs.Common.{◌<◌, length, sym, subst}
use Rattle.std.specs.List.{All}
use Rattle.std.proofs.lemmas.List.Elements.{All-tail}
use Rattle.cc_base.specs.declared.number.TypeId.{TypeId}
use Rattle.c_types.specs.declared.shape.TypeShape.{TypeShape}
use Rattle.c_types.specs.Table.{named_by}
use Rattle.c_types.proofs.canonical.canonical.Goals as goal

pub firsts_of-requires : goal.firsts_of-requires
firsts_of-requires c =
    let P : TypeId → Type 0 = λ t. t.0 < length c.args.entries.now.entries in
    subst (All P) (sym c.ids.ensures)
    (All-tail P c.in-Function.result c.in-Function.parameters (subst (λ (s : TypeShape). All P (named_by s)) c.in-Function.is c.requires))

use Rattle.std.proofs.Common.{List, length, sym, subst, ◌∙◌, arith}
use Rattle.cc_base.specs.Kinds.{kind_at}
use Rattle.c_types.specs.Table.{Entry}
use Rattle.c_types.specs.Equality.{physically_equal}
use Rattle.fat_layouts.proofs.LayoutLaws.{layout_nodes}
use Rattle.phys_types.specs.declared.spot.Layout.{Layout}
use Rattle.phys_types.specs.Lending.{lent_layout}
use Rattle.phys_types.specs.Shown.{IsLayoutOf}
use Rattle.phys_types.specs.Signatures.{mixed}
use Rattle.rtti_nodes.proofs.Depths.{none_finer, finer_more, finer_coarse}
use Rattle.rtti_nodes.proofs.numbering.finer.Goals as goal

pub types-init : goal.types-init
types-init c = none_finer c.args.types.now (kind_at c.args.kinds.now) c.args.numbers.now c.in_ok-finer.finer.items c.in_ok-finer.ensures.items

pub label_of-label-requires-clause-spots : goal.label_of-label-requires-clause-spots
label_of-label-requires-clause-spots c =
    layout_nodes c.args.types.now c.count-count.ensures.formed (length c.args.kinds.now) c.requires.nodes (record { 0 = c.types.t }) c.layout-in-types.result.now
    (subst (λ (x : Layout). IsLayoutOf c.args.types.now (physically_equal c.args.types.now) (record { 0 = c.types.t }) x) (sym c.layout-in-types.ensures)
    (subst (λ (table : List Entry). IsLayoutOf table (physically_equal table) (record { 0 = c.types.t }) (lent_layout c.in_ok-lent.lent)) c.requires.table c.in_ok-lent.ensures))

pub types-preserved : goal.types-preserved
types-preserved c =
    finer_more c.args.types.now c.count-count.ensures.formed (kind_at c.args.kinds.now) c.args.numbers.now c.types.finer.items c.push.new.self.items c.types.t c.mixed.result
    c.layout-in-types.result.now c.types.invariant
    (subst (λ (x : Layout). IsLayoutOf c.args.types.now (physically_equal c.args.types.now) (record { 0 = c.types.t }) x) (sym c.layout-in-types.ensures)
    (subst (λ (table : List Entry). IsLayoutOf table (physically_equal table) (record { 0 = c.types.t }) (lent_layout c.in_ok-lent.lent)) c.requires.table c.in_ok-lent.ensures))
    (c.mixed.ensures ∙ (λ i. mixed (c.number_of.ensures i) (c.label_of-label.ensures i))) c.in_ok-push.ensures.items

pub returns : goal.returns
returns c coarse =
    finer_coarse c.args.types.now c.count-count.ensures.formed (kind_at c.args.kinds.now) c.args.numbers.now c.types.finer.items c.types.t
    (let n = c.count-count.ensures.number in let h = c.types-test.false in omega arith) c.types.invariant coarse

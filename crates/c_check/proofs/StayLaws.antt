-- Where the declarations and functions of a unit stop, or the items of a block, so do they with one more.
use Rattle.std.proofs.Common.{◌≡◌, refl, sym, subst, Option}
use Rattle.cc_base.specs.declared.fault.Fault.{Fault}
use Rattle.cc_base.specs.declared.number.TypeId.{TypeId}
use Rattle.c_tree.specs.Tree as tree
use Rattle.c_tree.specs.StatementViews.{external_view, block_item_view, block_item_layer, statement_layer}
use Rattle.c_tree.specs.declared.statement.BlockItem.{BlockItem}
use Rattle.c_tree.specs.declared.statement.BlockItem.TheOpen as layer
use Rattle.c_tree.specs.declared.statement.BlockItem.TheFolds.{fold_out-BlockItem}
use Rattle.c_tree.specs.declared.statement.External.{External}
use Rattle.c_tree.specs.declared.statement.External.TheVariants as external
use Rattle.c_check_declarations.proofs.SeriesLaws.{Stays}
use Rattle.c_unit_typing.specs.Units.{Around}
use Rattle.c_unit_typing.specs.UnitJudging.{UnitState, Stops}
use Rattle.c_unit_typing.specs.StatementJudging.{judge_block_items}
use Rattle.c_unit_typing.specs.DefinitionJudging.{judge_unit}

pub unit-stays : Stays {X = External} judge_unit external_view
unfolding judge_unit
unit-stays (external.Declaration d) all s t f stopped = rw stopped refl
unit-stays (external.Function d) all s t f stopped = rw stopped refl

block_layer-stays : (a : Around) (on : Option TypeId) (y : layer.BlockItem-F (tree.BlockItems → tree.BlockItems) tree.Statement) (all : tree.BlockItems) (s t : UnitState) (f : Fault)
    → judge_block_items a on all s ≡ Stops f t → judge_block_items a on (block_item_layer y all) s ≡ Stops f t
unfolding judge_block_items
block_layer-stays a on (layer.Statement u) all s t f stopped = rw stopped refl
block_layer-stays a on (layer.Declaration d) all s t f stopped = rw stopped refl
block_layer-stays a on (layer.Case at e) all s t f stopped = rw stopped refl
block_layer-stays a on (layer.Default at) all s t f stopped = rw stopped refl

pub block-stays : (a : Around) (on : Option TypeId) → Stays {X = BlockItem} (judge_block_items a on) block_item_view
block-stays a on i all s t f stopped =
    subst (λ (add : tree.BlockItems → tree.BlockItems). judge_block_items a on (add all) s ≡ Stops f t)
    (sym (fold_out-BlockItem (tree.BlockItems → tree.BlockItems) tree.Statement block_item_layer statement_layer i))
    (block_layer-stays a on _ all s t f stopped)

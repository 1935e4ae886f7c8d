use Rattle.std.proofs.Common.{arith}
use Rattle.c_types.specs.Equality.{physically_equal}
use Rattle.phys_types.specs.Numbers.{number_in}
use Rattle.phys_types.proofs.Parts.{layout_low}
use Rattle.phys_types.proofs.Viewing.{apart, by_function, upward_class, downward_class, unrelated_class}
use Rattle.phys_types.proofs.phys.class_of.Goals as goal

pub returns-then-is_one_function : goal.returns-then-is_one_function
returns-then-is_one_function c =
    by_function c.args.types.now c.requires.formed (number_in c.args.numbers.now) c.args.from c.args.to c.args.x.now c.args.y.now c.requires.view c.requires.from c.requires.to
    (apart (number_in c.args.numbers.now) c.args.from c.args.to c.number_of.result c.number_of-2.result c.number_of.ensures c.number_of-2.ensures (λ e. omega arith))
    c.is_one_function.result c.is_one_function.ensures c.if-is_one_function.true

pub tiles-requires-clause-low : goal.tiles-requires-clause-low
tiles-requires-clause-low c = (layout_low c.args.types.now c.requires.formed (physically_equal c.args.types.now) c.args.from c.args.x.now c.requires.view.first).0

pub tiles-requires-clause-small : goal.tiles-requires-clause-small
tiles-requires-clause-small c = (layout_low c.args.types.now c.requires.formed (physically_equal c.args.types.now) c.args.from c.args.x.now c.requires.view.first).1

pub returns-then-begins : goal.returns-then-begins
returns-then-begins c =
    upward_class c.args.types.now c.requires.formed (number_in c.args.numbers.now) c.args.from c.args.to c.args.x.now c.args.y.now c.requires.view c.requires.from c.requires.to
    (apart (number_in c.args.numbers.now) c.args.from c.args.to c.number_of.result c.number_of-2.result c.number_of.ensures c.number_of-2.ensures (λ e. omega arith))
    c.is_one_function.result c.is_one_function.ensures c.if-is_one_function.false
    c.begins.result c.in_ok-tile.tile c.upward.result c.begins.ensures c.if-begins.true c.in_ok-tile.ensures c.upward.ensures

pub tiles-requires-then-begins-2-clause-low : goal.tiles-requires-then-begins-2-clause-low
tiles-requires-then-begins-2-clause-low c = (layout_low c.args.types.now c.requires.formed (physically_equal c.args.types.now) c.args.to c.args.y.now c.requires.view.second).0

pub tiles-requires-then-begins-2-clause-small : goal.tiles-requires-then-begins-2-clause-small
tiles-requires-then-begins-2-clause-small c = (layout_low c.args.types.now c.requires.formed (physically_equal c.args.types.now) c.args.to c.args.y.now c.requires.view.second).1

pub returns-then-begins-2 : goal.returns-then-begins-2
returns-then-begins-2 c =
    downward_class c.args.types.now c.requires.formed (number_in c.args.numbers.now) c.args.from c.args.to c.args.x.now c.args.y.now c.requires.view c.requires.from c.requires.to
    (apart (number_in c.args.numbers.now) c.args.from c.args.to c.number_of.result c.number_of-2.result c.number_of.ensures c.number_of-2.ensures (λ e. omega arith))
    c.is_one_function.result c.is_one_function.ensures c.if-is_one_function.false
    c.begins.result c.begins-2.result c.in_ok-tile-2.tile c.downward.result c.begins.ensures c.if-begins.false c.begins-2.ensures c.if-begins-2.true c.in_ok-tile-2.ensures c.downward.ensures

pub returns : goal.returns
returns c =
    unrelated_class c.args.types.now c.requires.formed (number_in c.args.numbers.now) c.args.from c.args.to c.args.x.now c.args.y.now c.requires.view c.requires.from c.requires.to
    (apart (number_in c.args.numbers.now) c.args.from c.args.to c.number_of.result c.number_of-2.result c.number_of.ensures c.number_of-2.ensures (λ e. omega arith))
    c.is_one_function.result c.is_one_function.ensures c.if-is_one_function.false
    c.begins.result c.begins-2.result c.begins.ensures c.if-begins.false c.begins-2.ensures c.if-begins-2.false

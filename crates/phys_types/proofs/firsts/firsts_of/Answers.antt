use Rattle.std.specs.Prelude.{nat_eq}
use Rattle.std.proofs.Common.{arith}
use Rattle.indexmap.specs.IndexMap.{get}
use Rattle.phys_types.specs.Numbers.{number_in}
use Rattle.phys_types.proofs.FirstEquals.{firsts_more, firsts_told}
use Rattle.phys_types.proofs.firsts.firsts_of.Goals as goal

pub types-preserved : goal.types-preserved
types-preserved c =
    firsts_more (number_in c.args.numbers.now) (get nat_eq c.types.kept) (get nat_eq c.first_of.new.kept) c.types.firsts.items c.push.new.self.items c.types.t c.number_of-number.result
    c.in_ok-first_of.field-0 c.types.invariant c.number_of-number.ensures c.in_ok-first_of.ensures.here c.in_ok-first_of.ensures.still c.in_ok-first_of.ensures.only
    c.in_ok-push.ensures.items

pub returns : goal.returns
returns c =
    firsts_told (number_in c.args.numbers.now) (get nat_eq c.types.kept) c.types.firsts.items c.types.t c.args.count (let h = c.types-test.false in omega arith) c.types.invariant

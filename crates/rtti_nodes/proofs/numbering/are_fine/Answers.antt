use Rattle.std.proofs.Common.{ℕ, refl, ap, subst, arith}
use Rattle.cc_base.specs.declared.number.TypeId.{TypeId}
use Rattle.cc_base.specs.Kinds.{kind_at}
use Rattle.phys_types.specs.Firsts.{AreFirstsWith}
use Rattle.phys_types.specs.Numbers.{number_in}
use Rattle.rtti_nodes.proofs.Depths.{fine_by_firsts, alike_more}
use Rattle.rtti_nodes.proofs.numbering.are_fine.Goals as goal

pub look_alike-requires-clause-second : goal.look_alike-requires-clause-second
look_alike-requires-clause-second c =
    let n = c.requires.count in
    let l = c.types-test.true in
    let e = c.types.auto.t-end in
    let f = c.in_ok-firsts.ensures.first (record { 0 = c.types.t }) c.index-first.result.now (omega arith) in
    let low = f.first (record { 0 = c.types.t }) refl in
    let same = ap (λ (t : TypeId). t.0) c.index-first.ensures in
    omega arith

pub types-preserved : goal.types-preserved
types-preserved c =
    alike_more c.args.known.now (kind_at c.args.kinds.now) c.args.numbers.now c.in_ok-firsts.firsts.items c.types.t c.index-first.result.now
    (let n = c.in_ok-firsts.ensures.count in let l = c.types-test.true in omega arith) c.index-first.ensures c.types.invariant (c.in_ok-look_alike.ensures c.if-not-branch.false)

pub returns : goal.returns
returns c = λ fine.
    fine_by_firsts c.args.known.now c.requires.formed (kind_at c.args.kinds.now) c.args.numbers.now c.in_ok-firsts.firsts.items
    (subst (λ (n : ℕ). AreFirstsWith (number_in c.args.numbers.now) n c.in_ok-firsts.firsts.items) c.requires.count c.in_ok-firsts.ensures)
    (λ t d l. c.types.invariant t d (let n = c.requires.count in let p = c.types-test.false in omega arith))

use Rattle.std.proofs.Common.{length, refl, ap, sym, subst, arith}
use Rattle.cc_base.specs.Kinds.{kind_at}
use Rattle.c_types.specs.Table.{Table}
use Rattle.c_types.specs.Sound.{IsWellFormed}
use Rattle.rtti_nodes.specs.Numbering.{TellClasses}
use Rattle.cure_tables.proofs.Signed.{firsts_typed, passed_one, signature_small, signed_result}
use Rattle.cure_tables.proofs.function_types.signatures_of.Goals as goal

pub sign-requires-clause-first : goal.sign-requires-clause-first
sign-requires-clause-first c =
    firsts_typed c.args.known.now (subst IsWellFormed (sym c.requires.table) c.count-count.ensures.formed) (kind_at c.args.kinds.now) c.types.t c.types.state c.types.invariant

pub sign-requires-clause-told : goal.sign-requires-clause-told
sign-requires-clause-told c =
    subst (λ (table : Table). TellClasses table (kind_at c.args.kinds.now) c.in_ok-told.told) (sym c.requires.table) c.in_ok-told.ensures

pub types-preserved : goal.types-preserved
types-preserved c =
    passed_one c.args.known.now (subst IsWellFormed (sym c.requires.table) c.count-count.ensures.formed) (kind_at c.args.kinds.now) c.types.t (record { 0 = c.types.t }) c.types.state c.sign.new.state
    refl (let n = c.count-count.ensures.number in let e = ap length c.requires.table in let l = c.types-test.true in omega arith) c.types.invariant (λ f. signature_small c.args.known.now (kind_at c.args.kinds.now) (record { 0 = c.types.t })) c.in_ok-sign.ensures

pub returns-clause-signed : goal.returns-clause-signed
returns-clause-signed c =
    signed_result c.args.types.now c.args.known.now c.requires.table c.count-count.ensures.formed (kind_at c.args.kinds.now) c.types.t
    (let n = c.count-count.ensures.number in let l = c.types-test.false in omega arith) c.types.state c.types.invariant _ c.finished.ensures.numbers _ c.finished.ensures.sigs

use Rattle.std.proofs.Common.{◌∙◌, sym, arith}
use Rattle.cc_base.specs.Kinds.{kind_at}
use Rattle.type_laws.proofs.Coverage.{covers_is}
use Rattle.rtti_nodes.proofs.Below.{last_is, not_this}
use Rattle.rtti_nodes.proofs.covering.last_covered.Goals as goal

pub returns-then-branch : goal.returns-then-branch
returns-then-branch c =
    last_is c.args.known.now (kind_at c.args.kinds.now) c.args.firsts.now c.args.t c.firsts.last (record { 0 = 0 }) c.firsts-test.true c.firsts.invariant.within
    ((covers_is c.args.known.now (kind_at c.args.kinds.now) c.args.t _).0 (sym c.in_ok-covers.ensures ∙ c.if-branch.true))
    (λ i u l m e. c.firsts.invariant.behind i u l e)

pub firsts-preserved : goal.firsts-preserved
firsts-preserved c = record {
  within = omega arith;
  behind = not_this c.args.known.now (kind_at c.args.kinds.now) c.args.firsts.now c.args.t c.firsts.last (record { 0 = 0 }) c.firsts-test.true
      (sym c.in_ok-covers.ensures ∙ c.if-branch.false) c.firsts.invariant.behind;
}

use Rattle.std.proofs.Common.{◌∙◌, get_or, sym, arith}
use Rattle.std.proofs.lemmas.Option.{slice_get-get_or}
use Rattle.cc_base.specs.Kinds.{kind_at}
use Rattle.type_laws.proofs.Coverage.{one_class_is}
use Rattle.cure_tables.proofs.Signed.{none_next, place_within}
use Rattle.cure_tables.proofs.function_types.place_of.Goals as goal

pub returns-then-branch-clause-found : goal.returns-then-branch-clause-found
returns-then-branch-clause-found c = record {
  first = get_or c.args.firsts.now c.firsts.i (record { 0 = 0 });
  found = slice_get-get_or c.args.firsts.now c.firsts.i (record { 0 = 0 }) c.firsts-test.true;
  class = (one_class_is c.args.known.now (kind_at c.args.kinds.now) c.args.t (get_or c.args.firsts.now c.firsts.i (record { 0 = 0 }))).0
      (sym c.in_ok-is_of_one_class.ensures ∙ c.if-branch.true);
}

pub firsts-preserved : goal.firsts-preserved
firsts-preserved c =
    none_next c.args.known.now (kind_at c.args.kinds.now) c.args.firsts.now c.args.t c.firsts.i (record { 0 = 0 }) c.firsts-test.true
    (sym c.in_ok-is_of_one_class.ensures ∙ c.if-branch.false) c.firsts.invariant

pub returns-clause-none : goal.returns-clause-none
returns-clause-none c = record { other = λ i u e k. c.firsts.invariant i u (let l = place_within c.args.firsts.now i u e in omega arith) e k }

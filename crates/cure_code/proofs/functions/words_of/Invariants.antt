use Rattle.std.specs.Prelude.{sum_by}
use Rattle.std.proofs.Common.{◌≡◌, ◌*◌, ◌≤◌, take}
use Rattle.cc_base.specs.Kinds.{kind_at}
use Rattle.cure_rules.specs.Functions.{words_at}
use Rattle.cure_code.proofs.functions.words_of.Given as goal

abbrev pub invariant-parameters : goal.invariant-parameters
invariant-parameters l = record {
  sum : l.sum ≡ sum_by (λ x. words_at l.types (kind_at l.kinds) x.ty) (take l.parameter-index l.parameters);
  most : l.sum ≤ 3 * l.parameter-index;
}

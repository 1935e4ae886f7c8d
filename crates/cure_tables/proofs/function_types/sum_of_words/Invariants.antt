use Rattle.std.specs.Prelude.{sum_by}
use Rattle.std.proofs.Common.{◌≡◌, ◌*◌, ◌≤◌, take}
use Rattle.cc_base.specs.Kinds.{kind_at}
use Rattle.cure_rules.specs.Functions.{words_at}
use Rattle.cure_tables.proofs.function_types.sum_of_words.Given as goal

abbrev pub invariant-types : goal.invariant-types
invariant-types l = record {
  sum : l.sum ≡ sum_by (words_at l.types (kind_at l.kinds)) (take l.t-index l.ts);
  most : l.sum ≤ 3 * l.t-index;
}

use Rattle.cc_base.specs.Kinds.{kind_at}
use Rattle.cure_tables.specs.Signed.{AreSigned}
use Rattle.cure_tables.proofs.function_types.signatures_of.Given as goal

abbrev pub invariant-types : goal.invariant-types
invariant-types l = AreSigned l.known (kind_at l.kinds) l.t l.state

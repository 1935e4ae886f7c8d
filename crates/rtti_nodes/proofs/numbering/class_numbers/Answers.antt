use Rattle.std.proofs.Common.{List, subst}
use Rattle.cc_base.specs.Kinds.{kind_at}
use Rattle.c_types.specs.Table.{Entry}
use Rattle.rtti_nodes.specs.Numbering.{AreFine}
use Rattle.rtti_nodes.proofs.numbering.class_numbers.Goals as goal

pub returns-then-branch : goal.returns-then-branch
returns-then-branch c = record {
  coarse = c.looks.invariant;
  fine = λ e. subst (λ (table : List Entry). AreFine table (kind_at c.args.kinds.now) c.looks.numbers.items) c.requires.table
      (subst (AreFine c.args.known.now (kind_at c.args.kinds.now)) c.deref.ensures.value (c.in_ok-are_fine.ensures c.if-branch.true));
}

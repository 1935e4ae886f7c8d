use Rattle.std.proofs.Common.{List, ap, sym, subst, ◌∙◌}
use Rattle.std.proofs.lemmas.Result.{IfOk-weaker, on_ok_weaker}
use Rattle.c_types.specs.Table.{Entry, IsType}
use Rattle.c_types.specs.Flows.{flow_class}
use Rattle.constraint_laws.proofs.Below.{class-alike}
use Rattle.kind_constraints.specs.Pieces.{AreClasses}
use Rattle.kind_constraints.proofs.answered.class_of.Goals as goal

pub class_between-requires-clause-from : goal.class_between-requires-clause-from
class_between-requires-clause-from c = subst (λ (table : List Entry). IsType table c.first_of-first.result) (sym c.requires.asked.same) c.first_of-first.ensures.typed

pub class_between-requires-clause-to : goal.class_between-requires-clause-to
class_between-requires-clause-to c = subst (λ (table : List Entry). IsType table c.first_of-second.result) (sym c.requires.asked.same) c.first_of-second.ensures.typed

pub class_between-requires-clause-kept : goal.class_between-requires-clause-kept
class_between-requires-clause-kept c =
    subst (λ (table : List Entry). AreClasses table c.args.answered.now.classes.entries) (sym c.requires.asked.same) c.requires.answered.classes

pub returns-clause-class : goal.returns-clause-class
returns-clause-class c =
    IfOk-weaker c.class_between.result _ _
    (λ class e. e ∙ ap (λ (table : List Entry). flow_class table c.first_of-first.result c.first_of-second.result) c.requires.asked.same
    ∙ sym (class-alike c.args.asked.now.types.now c.requires.asked.formed c.args.from c.args.to c.first_of-first.result c.first_of-second.result c.first_of-first.ensures.first.equal
    c.first_of-second.ensures.first.equal))
    c.class_between.ensures.class

pub returns-clause-answered : goal.returns-clause-answered
returns-clause-answered c =
    on_ok_weaker c.class_between.result
    (λ k. record {
      classes = subst (λ (table : List Entry). AreClasses table c.class_between.new.classes.entries) c.requires.asked.same k;
      belows = c.requires.answered.belows;
    })
    c.class_between.ensures.kept

use Rattle.std.proofs.Common.{◌≡◌, sym, subst}
use Rattle.c_types.specs.Flows.{flow_class}
use Rattle.phys_types.proofs.NumberPairs.{type_pair_eq, same_type_pair}
use Rattle.kind_constraints.specs.Pieces.{AreClasses}
use Rattle.kind_constraints.proofs.Kept.{looked_up, inserted}
use Rattle.kind_constraints.proofs.answered.class_between.Goals as goal

pub returns-in-Some-clause-class : goal.returns-in-Some-clause-class
returns-in-Some-clause-class c =
    looked_up (λ e. e.1 ≡ flow_class c.args.known.now e.0.0 e.0.1) type_pair_eq same_type_pair c.args.classes.now.entries (c.args.from, c.args.to) c.in-Some.class.now c.requires.kept
    (sym c.in-Some.ensures.value)

pub returns-clause-kept : goal.returns-clause-kept
returns-clause-kept c =
    subst (AreClasses c.args.known.now) (sym c.in_ok-insert.ensures.entries)
    (inserted (λ e. e.1 ≡ flow_class c.args.known.now e.0.0 e.0.1) type_pair_eq same_type_pair c.args.classes.now.entries (c.args.from, c.args.to) c.in_ok-class.class c.requires.kept
    c.in_ok-class.ensures)

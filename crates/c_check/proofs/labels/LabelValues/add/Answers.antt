use mir.Syntax.{w128}
use Rattle.std.proofs.lemmas.Int.{to_z-of_z}
use Rattle.std.specs.Ordering.{int_eq}
use Rattle.c_check_context.proofs.LinkageLaws.{value-added}
use Rattle.c_check.proofs.labels.LabelValues.add.Goals as goal

pub returns : goal.returns
returns c =
    value-added int_eq c.self.inside.0.keys c.insert.new.self.keys c.args.self.now c.args.value c.self.view_is (rw (to_z-of_z w128 c.args.value c.ranges.value) at c.in_ok-insert.ensures.keys) c.requires

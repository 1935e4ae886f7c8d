use Rattle.std.proofs.Common.{true, false, refl, sym, ◌∙◌}
use Rattle.c_check_context.specs.ContextViews.{state_of}
use Rattle.c_check_context.proofs.ConflictLaws.{linked_by_parts}
use Rattle.c_unit_typing.specs.UnitJudging.{known_of}
use Rattle.c_check_context.proofs.context.Context.conflicts_as_linked.Goals as goal

pub returns-then-disagrees_here : goal.returns-then-disagrees_here
returns-then-disagrees_here c =
    sym (linked_by_parts c.args.self.now.types (known_of (state_of c.args.self.now)) c.args.defines c.args.name.now.bytes c.args.what true _ _
    (sym c.if-disagrees_here.true ∙ c.disagrees_here.ensures) refl refl)

pub returns-then-disagrees_with_linked : goal.returns-then-disagrees_with_linked
returns-then-disagrees_with_linked c =
    sym (linked_by_parts c.args.self.now.types (known_of (state_of c.args.self.now)) c.args.defines c.args.name.now.bytes c.args.what false true _
    (sym c.if-disagrees_here.false ∙ c.disagrees_here.ensures) (sym c.if-disagrees_with_linked.true ∙ c.disagrees_with_linked.ensures) refl)

pub returns : goal.returns
returns c =
    sym (linked_by_parts c.args.self.now.types (known_of (state_of c.args.self.now)) c.args.defines c.args.name.now.bytes c.args.what false false c.is_defined_again.result
    (sym c.if-disagrees_here.false ∙ c.disagrees_here.ensures) (sym c.if-disagrees_with_linked.false ∙ c.disagrees_with_linked.ensures) c.is_defined_again.ensures)

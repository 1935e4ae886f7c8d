use Rattle.std.proofs.Common.{Some, true, false, refl, ap, sym, ◌∙◌}
use Rattle.c_check_context.specs.CodeViews.{storage_view}
use Rattle.c_check_context.specs.ContextViews.{state_of}
use Rattle.c_check.proofs.DefinitionLaws.{definition_by_parts}
use Rattle.c_unit_typing.specs.UnitJudging.{known_of}
use Rattle.c_check.proofs.definitions.broken_by_definition.Goals as goal

pub returns-then-is_runtime_name : goal.returns-then-is_runtime_name
returns-then-is_runtime_name c =
    ap Some c.refusal-then-is_runtime_name.ensures
    ∙ sym (definition_by_parts c.args.context.now.types (known_of (state_of c.args.context.now)) (storage_view c.args.storage) c.args.written c.args.name.now.bytes c.args.t c.args.name.now.place
    c.declared_as-what.result false true _ c.declared_as-what.ensures (sym c.if-is_redeclared.false ∙ c.is_redeclared.ensures)
    (sym c.if-is_runtime_name.true ∙ c.is_runtime_name.ensures) refl)

pub returns : goal.returns
returns c =
    ap Some c.refusal-2.ensures
    ∙ sym (definition_by_parts c.args.context.now.types (known_of (state_of c.args.context.now)) (storage_view c.args.storage) c.args.written c.args.name.now.bytes c.args.t c.args.name.now.place
    c.declared_as-what.result false false false c.declared_as-what.ensures (sym c.if-is_redeclared.false ∙ c.is_redeclared.ensures)
    (sym c.if-is_runtime_name.false ∙ c.is_runtime_name.ensures) (sym c.if-is_defined_as_function.false ∙ c.is_defined_as_function.ensures))

pub returns-then-is_defined_as_function : goal.returns-then-is_defined_as_function
returns-then-is_defined_as_function c =
    sym (definition_by_parts c.args.context.now.types (known_of (state_of c.args.context.now)) (storage_view c.args.storage) c.args.written c.args.name.now.bytes c.args.t c.args.name.now.place
    c.declared_as-what.result false false true c.declared_as-what.ensures (sym c.if-is_redeclared.false ∙ c.is_redeclared.ensures)
    (sym c.if-is_runtime_name.false ∙ c.is_runtime_name.ensures) (sym c.if-is_defined_as_function.true ∙ c.is_defined_as_function.ensures))

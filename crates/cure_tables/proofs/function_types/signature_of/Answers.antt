use Rattle.std.specs.Prelude.{List}
use Rattle.std.specs.List.{All}
use Rattle.std.proofs.Common.{◌∙◌, sym, subst}
use Rattle.std.proofs.lemmas.List.Elements.{All-tail}
use Rattle.cc_base.specs.declared.number.TypeId.{TypeId}
use Rattle.c_types.specs.Table.{IsType}
use Rattle.phys_types.proofs.Makeups.{named_types}
use Rattle.cure_tables.proofs.function_types.signature_of.Goals as goal

pub sum_of_words-requires-clause-typed : goal.sum_of_words-requires-clause-typed
sum_of_words-requires-clause-typed c =
    subst (λ (ts : List TypeId). All (IsType c.args.types.now) ts) (sym c.ids-in-Function.ensures)
    (All-tail (IsType c.args.types.now) _ _
    (named_types c.args.types.now c.count-count.ensures.formed c.args.t _ c.in-Function.result (sym c.shape.ensures ∙ c.in-Function.is)))

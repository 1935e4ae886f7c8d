use Rattle.std.proofs.Common.{sym, ◌∙◌}
use Rattle.c_parser.proofs.NameInsertion.{names_go_on, of_success}
use Rattle.c_parser.proofs.externals.with_initialiser.Goals as goal

pub returns-clause-names : goal.returns-clause-names
returns-clause-names c = λ base e.
    let declared = of_success _ c.declare.result (sym c.is_err.ensures.value ∙ c.if-is_err.false) c.declare.ensures in
    names_go_on c.args.is_typedef base _ _ _ _ _ declared (c.in_ok-list.ensures.names c.args.is_typedef base) e

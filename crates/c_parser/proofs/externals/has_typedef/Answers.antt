use Rattle.std.proofs.Common.{ap, ◌∙◌}
use Rattle.std.specs.List.{list_any}
use Rattle.c_tree.specs.Views.{specifier_view}
use Rattle.c_tree.specs.Words.{is_typedef}
use Rattle.c_parser.proofs.TypedefFlag.{flag_seen}
use Rattle.c_parser.proofs.externals.has_typedef.Goals as goal

pub returns : goal.returns
returns c = c.any_typedef.ensures ∙ ap (list_any (λ s. is_typedef (specifier_view s))) c.as_slice.ensures ∙ flag_seen c.args.specifiers.now

use Rattle.std.proofs.Common.{subst}
use Rattle.named_lists.specs.Stacks.{GetsList}
use Rattle.named_lists.proofs.StackLaws.{on-err, same-kept}
use Rattle.c_typing.proofs.level.Level.show.Goals as goal

pub returns-in_err-push_all-clause-same_names : goal.returns-in_err-push_all-clause-same_names
returns-in_err-push_all-clause-same_names c = on-err _ c.from_residual.result (λ outer are. are)

pub returns-in_err-push_all-clause-same_tags : goal.returns-in_err-push_all-clause-same_tags
returns-in_err-push_all-clause-same_tags c = on-err _ c.from_residual.result (same-kept c.args.tags.now c.push_all.new.self c.in_err-push_all.ensures.unchanged)

pub returns-in-Ok-clause-names : goal.returns-in-Ok-clause-names
returns-in-Ok-clause-names c = subst (λ l. GetsList l.names c.args.names.now c.push_all-2.new.self) c.self.view_is c.in-Ok.ensures.pushed

pub returns-in-Ok-clause-tags : goal.returns-in-Ok-clause-tags
returns-in-Ok-clause-tags c = subst (λ l. GetsList l.tags c.args.tags.now c.push_all.new.self) c.self.view_is c.in_ok-push_all.ensures.pushed

pub returns-in-Err-clause-same_names : goal.returns-in-Err-clause-same_names
returns-in-Err-clause-same_names c = same-kept c.args.names.now c.push_all-2.new.self c.in-Err.ensures.unchanged

pub returns-in-Err-clause-same_tags : goal.returns-in-Err-clause-same_tags
returns-in-Err-clause-same_tags c = λ outer are. c.pop_all.ensures outer (c.in_ok-push_all.ensures.pushed outer are)

use Rattle.std.proofs.Common.{subst}
use Rattle.named_lists.specs.Stacks.{LosesList}
use Rattle.c_typing.proofs.level.Level.hide.Goals as goal

pub returns-clause-names : goal.returns-clause-names
returns-clause-names c = subst (λ l. LosesList l.names c.args.names.now c.pop_all.new.self) c.self.view_is c.pop_all.ensures

pub returns-clause-tags : goal.returns-clause-tags
returns-clause-tags c = subst (λ l. LosesList l.tags c.args.tags.now c.pop_all-2.new.self) c.self.view_is c.pop_all-2.ensures

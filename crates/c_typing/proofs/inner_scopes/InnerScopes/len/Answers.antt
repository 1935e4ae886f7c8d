use Rattle.std.proofs.Common.{ap, ◌∙◌, length, arith}
use Rattle.c_typing.proofs.inner_scopes.InnerScopes.len.Goals as goal

pub returns-clause-count : goal.returns-clause-count
returns-clause-count c = c.len.ensures ∙ c.self.inside.levels.ok.0 ∙ ap (λ ls. length ls) c.self.view_is

pub returns-clause-small : goal.returns-clause-small
returns-clause-small c = let e = c.len.ensures in omega (arith, e, c.self.inside.levels.ok.1, c.self.inside.levels.small)

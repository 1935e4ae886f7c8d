use Rattle.std.proofs.Common.{◌≡◌, sym, ap, ◌∙◌, ◌-◌, ◌<◌, length, get_or, subst}
use Rattle.c_typing.specs.Scopes.{innermost}
use Rattle.c_typing.proofs.ScopeLaws.{innermost-last}
use Rattle.c_typing.proofs.inner_scopes.InnerScopes.last.Goals as goal

pub returns-in-Some-clause-some : goal.returns-in-Some-clause-some
returns-in-Some-clause-some c =
    let h = c.in-Some.ensures.item in
    let some : 0 < length c.self.inside.levels.items = subst (λ xs. 0 < length xs) c.deref.ensures.value h.3.0 in
    subst (λ ls. (0 < length ls) × (c.in-Some.level.now ≡ innermost ls)) c.self.view_is (
      some,
      h.1 ∙ ap (λ xs. get_or xs (length xs - 1) c.in-Some.level.now) c.deref.ensures.value
          ∙ sym (innermost-last c.self.inside.levels.items c.in-Some.level.now some),
    )

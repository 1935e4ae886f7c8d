use Rattle.std.proofs.Common.{refl, sym, ap, subst, ◌∙◌, ◌++◌, ◌∷◌, [], map}
use Rattle.named_lists.specs.Stacks.{AreStacksOf}
use Rattle.c_typing.proofs.ScopeLaws.{stacks-entered}
use Rattle.c_typing.proofs.inner_scopes.InnerScopes.enter.Goals as goal

pub invariant_of-self : goal.invariant_of-self
invariant_of-self c =
    let s = c.self.inside in
    let same = c.in_err-push.ensures.items in (
      subst (λ ls. AreStacksOf (map (λ l. l.names) ls) s.names) (sym same) c.self.invariant.0,
      subst (λ ls. AreStacksOf (map (λ l. l.tags) ls) s.tags) (sym same) c.self.invariant.1,
    )

pub invariant_of-self-2 : goal.invariant_of-self-2
invariant_of-self-2 c =
    let s = c.self.inside in
    let made = c.in_ok-push.ensures.items ∙ ap (λ l. s.levels.items ++ l ∷ []) c.new.ensures in (
      stacks-entered (λ l. l.names) refl s.levels.items c.push.new.self.items s.names made c.self.invariant.0,
      stacks-entered (λ l. l.tags) refl s.levels.items c.push.new.self.items s.tags made c.self.invariant.1,
    )

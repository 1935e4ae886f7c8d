use Rattle.std.proofs.Common.{sym, ap, ◌∙◌, ◌-◌, ◌<◌, length, get_or, subst, take, map, Some, append-nil, arith}
use Rattle.c_typing.specs.Scopes.{innermost, without_innermost}
use Rattle.named_lists.specs.Stacks.{AreStacksOf}
use Rattle.c_typing.proofs.ScopeLaws.{innermost-last, stacks-left, without-last}
use Rattle.c_typing.proofs.inner_scopes.InnerScopes.leave.Goals as goal

pub returns-in-Some-clause-left : goal.returns-in-Some-clause-left
returns-in-Some-clause-left c =
    c.pop.ensures.rest ∙ ap (λ n. take (n - 1) c.self.inside.levels.items) c.self.inside.levels.ok.0
    ∙ sym (without-last c.self.inside.levels.items) ∙ ap without_innermost c.self.view_is

pub returns-in-None-clause-left : goal.returns-in-None-clause-left
returns-in-None-clause-left c =
    c.pop.ensures.rest ∙ ap (λ n. take (n - 1) c.self.inside.levels.items) c.self.inside.levels.ok.0
    ∙ sym (without-last c.self.inside.levels.items) ∙ ap without_innermost c.self.view_is

pub returns-in-Some-clause-level : goal.returns-in-Some-clause-level
returns-in-Some-clause-level c = λ more.
    let some : 0 < length c.self.inside.levels.items = subst (λ ls. 0 < length ls) (sym c.self.view_is) more in
    let l = c.in-Some.level in
    c.in-Some.ensures.value l (let e = c.self.inside.levels.ok.0 in omega (arith, e, some))
    ∙ ap (λ n. Some (get_or c.self.inside.levels.items (n - 1) l)) c.self.inside.levels.ok.0
    ∙ ap (λ x. Some x) (sym (innermost-last c.self.inside.levels.items l some))
    ∙ ap (λ ls. Some (innermost ls)) c.self.view_is

pub returns-in-None-clause-level : goal.returns-in-None-clause-level
returns-in-None-clause-level c = λ more.
    let some : 0 < length c.self.inside.levels.items = subst (λ ls. 0 < length ls) (sym c.self.view_is) more in
    let e = c.self.inside.levels.ok.0 in
    let none = c.in-None.ensures.cases.0 in
    absurd (omega (arith, e, none, some))

pub invariant_of-self : goal.invariant_of-self
invariant_of-self c =
    let s = c.self.inside in (
      stacks-left (λ l. l.names) s.levels.items c.pop.new.self.items c.in-Some.level s.names c.hide.new.names c.in-Some.ensures.items
          c.self.invariant.0 c.hide.ensures.names,
      stacks-left (λ l. l.tags) s.levels.items c.pop.new.self.items c.in-Some.level s.tags c.hide.new.tags c.in-Some.ensures.items
          c.self.invariant.1 c.hide.ensures.tags,
    )

pub invariant_of-self-in-None : goal.invariant_of-self-in-None
invariant_of-self-in-None c =
    let s = c.self.inside in
    let same = sym (c.in-None.ensures.items ∙ append-nil c.pop.new.self.items) in (
      subst (λ ls. AreStacksOf (map (λ l. l.names) ls) s.names) (sym same) c.self.invariant.0,
      subst (λ ls. AreStacksOf (map (λ l. l.tags) ls) s.tags) (sym same) c.self.invariant.1,
    )

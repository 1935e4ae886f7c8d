use Rattle.std.proofs.Common.{refl, sym, ap, ◌∙◌}
use Rattle.named_lists.specs.Stacks.{stack_of, top_of}
use Rattle.named_lists.proofs.StackLaws.{stack-absent, stack-found}
use Rattle.named_lists.proofs.stacks.NameStacks.top.Goals as goal

pub returns-in-Some : goal.returns-in-Some
returns-in-Some g c =
    c.last.ensures.value
    ∙ ap top_of (c.deref.ensures.value
    ∙ sym (stack-found (λ k. k.items) (λ v. v.items) c.args.name.now _ (λ k. refl) c.self.inside.stacks.entries c.in-Some.stack.now
    (sym c.in-Some.ensures.value)))
    ∙ ap (λ s. top_of (stack_of s c.args.name.now)) c.self.view_is

pub returns-in-None : goal.returns-in-None
returns-in-None g c =
    ap top_of (sym (stack-absent (λ k. k.items) (λ v. v.items) c.args.name.now _ (λ k. refl) c.self.inside.stacks.entries (sym c.in-None.ensures.value)))
    ∙ ap (λ s. top_of (stack_of s c.args.name.now)) c.self.view_is

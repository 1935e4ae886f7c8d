use Rattle.std.proofs.Common.{refl, ap, ◌∙◌, ◌++◌, ◌∷◌, []}
use Rattle.named_lists.proofs.StackLaws.{begun}
use Rattle.named_lists.proofs.stacks.NameStacks.begin.Goals as goal

pub returns-clause-begun : goal.returns-clause-begun
returns-clause-begun g c =
    begun (λ k. k.items) (λ v. v.items) _ c.in_ok-key.key c.push.new.self
    (λ x. refl) c.self.inside.stacks.entries c.insert.new.self.entries c.args.name.now (c.args.what ∷ [])
    c.args.self.now c.self.view_is c.in_ok-key.ensures.items
    (c.in_ok-push.ensures.items ∙ ap (λ l. l ++ c.args.what ∷ []) (c.reserve_exact.ensures.items ∙ c.new-stack.ensures.items))
    c.in_ok-insert.ensures.entries

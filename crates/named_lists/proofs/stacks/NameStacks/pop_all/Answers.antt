use Rattle.std.proofs.Common.{refl, ap, ◌∙◌}
use Rattle.named_lists.specs.Entries.{seen_entries}
use Rattle.named_lists.specs.Stacks.{stack_of, without_each}
use Rattle.named_lists.proofs.StackLaws.{all-taken}
use Rattle.named_lists.proofs.stacks.NameStacks.pop_all.Goals as goal

pub returns : goal.returns
returns g c =
    all-taken (λ k. k.items) _ (λ k x. refl) c.args.entries.now.entries c.as_slice.ensures.unique c.args.self.now c.pop_each.new.self
    (λ n. c.pop_each.ensures n ∙ ap (λ es. without_each n (seen_entries (λ k. k.items) es) (stack_of c.args.self.now n)) c.as_slice.ensures.entries)

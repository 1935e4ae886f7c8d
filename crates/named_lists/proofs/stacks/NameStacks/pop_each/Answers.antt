use Rattle.std.proofs.Common.{sym, ap, ◌∙◌, bytes_eq, if◌then◌else◌}
use Rattle.named_lists.specs.Entries.{seen_entries}
use Rattle.named_lists.specs.Stacks.{stack_of, without_each, without_top}
use Rattle.named_lists.proofs.StackLaws.{none-left}
use Rattle.named_lists.proofs.stacks.NameStacks.pop_each.Goals as goal

pub names-preserved : goal.names-preserved
names-preserved g c = λ n.
    ap (without_each n (seen_entries (λ k. k.items) c.in-Some.later))
    (c.pop.ensures n ∙ ap (λ m. if bytes_eq n m then without_top (stack_of c.names.self n) else stack_of c.names.self n) c.deref.ensures.value)
    ∙ ap (λ es. without_each n (seen_entries (λ k. k.items) es) (stack_of c.names.self n)) (sym c.in-Some.ensures.parts)
    ∙ c.names.invariant n

pub returns : goal.returns
returns g c = λ n.
    ap (λ es. without_each n (seen_entries (λ k. k.items) es) (stack_of c.names.self n)) (sym (none-left c.names.rest (λ h. c.in_default.ensures.found.1 h)))
    ∙ c.names.invariant n

use Rattle.std.proofs.Common.{◌≡◌, length}
use Rattle.named_lists.specs.Entries.{Name, seen_entries}
use Rattle.named_lists.specs.Stacks.{stack_of, without_each}
use Rattle.named_lists.proofs.stacks.NameStacks.pop_each.Given as goal

-- to take the rest away leaves what taking all away does
abbrev pub invariant-names : goal.invariant-names
invariant-names g l = (n : Name) → without_each n (seen_entries (λ k. k.items) l.rest) (stack_of l.self n) ≡ without_each n (seen_entries
    (λ k. k.items) l.fn.entries) (stack_of l.fn.self n)

abbrev pub decreases-names : goal.decreases-names
decreases-names g l = length l.rest

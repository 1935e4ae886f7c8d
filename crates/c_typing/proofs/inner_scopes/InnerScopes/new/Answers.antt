use Rattle.std.proofs.Common.{List, ap, sym, ◌∙◌, map}
use Rattle.named_lists.specs.Stacks.{entries_of, stack_of}
use Rattle.c_typing.specs.Scopes.{Level}
use Rattle.c_typing.proofs.inner_scopes.InnerScopes.new.Goals as goal

pub invariant_of-result : goal.invariant_of-result
invariant_of-result c = (
  λ n. ap (λ s. stack_of s n) c.new-2.ensures ∙ sym (ap (λ (ls : List Level). entries_of (map (λ l. l.names) ls) n) c.new.ensures.items),
  λ n. ap (λ s. stack_of s n) c.new-3.ensures ∙ sym (ap (λ (ls : List Level). entries_of (map (λ l. l.tags) ls) n) c.new.ensures.items),
)

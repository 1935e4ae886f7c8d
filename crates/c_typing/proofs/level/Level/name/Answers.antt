use Rattle.std.proofs.Common.{refl, ap, ◌∙◌}
use Rattle.std.proofs.lemmas.List.{nil_from_length}
use Rattle.c_typing.specs.Scopes.{entry_of}
use Rattle.named_lists.proofs.EntryLaws.{lookup-seen, none-seen}
use Rattle.c_typing.proofs.level.Level.name.Goals as goal

pub returns-then-is_empty : goal.returns-then-is_empty
returns-then-is_empty c =
    none-seen (λ k. k.items) c.args.name.now c.self.inside.names.entries
    (nil_from_length c.self.inside.names.entries (c.is_empty.ensures.0 c.if-is_empty.true))
    ∙ ap (λ l. entry_of l.names c.args.name.now) c.self.view_is

pub returns : goal.returns
returns c =
    c.get.ensures.value
    ∙ lookup-seen (λ k. k.items) _ c.args.name.now (λ k. refl) c.self.inside.names.entries
    ∙ ap (λ l. entry_of l.names c.args.name.now) c.self.view_is

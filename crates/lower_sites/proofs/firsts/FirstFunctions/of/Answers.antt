use Rattle.std.proofs.Common.{refl, ap, ◌∙◌}
use Rattle.named_lists.specs.Entries.{entry_of}
use Rattle.named_lists.proofs.EntryLaws.{lookup-seen}
use Rattle.lower_sites.proofs.firsts.FirstFunctions.of.Goals as goal

pub returns : goal.returns
returns c =
    c.get.ensures.value
    ∙ lookup-seen (λ k. k.items) _ c.args.name.now (λ k. refl) c.self.inside.0.entries
    ∙ ap (λ l. entry_of l c.args.name.now) c.self.view_is

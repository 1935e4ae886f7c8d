use Rattle.std.proofs.Common.{ap, ◌∙◌}
use Rattle.named_lists.specs.Entries.{entry_of}
use Rattle.named_lists.proofs.EntryLaws.{lookup-seen}
use Rattle.lower_sites.specs.HomeNames.{home_name}
use Rattle.lower_sites.proofs.NameLaws.{home_names}
use Rattle.lower_sites.proofs.firsts.FirstObjects.of.Goals as goal

pub returns : goal.returns
returns c =
    c.get.ensures.value
    ∙ lookup-seen home_name _ (home_name c.args.home) (λ k. home_names c.args.home k) c.self.inside.0.entries
    ∙ ap (λ l. entry_of l (home_name c.args.home)) c.self.view_is

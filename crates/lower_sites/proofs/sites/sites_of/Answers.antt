use Rattle.std.proofs.Common.{ap, ◌∙◌, ◌++◌}
use Rattle.c_tree.specs.TypedStatementViews.{typed_unit_view}
use Rattle.src_machine.specs.Names.{named_in}
use Rattle.src_machine.specs.Sites.{sites_of_names}
use Rattle.lower_sites.proofs.SiteLaws.{all_told}
use Rattle.lower_sites.proofs.sites.sites_of.Goals as goal

pub returns : goal.returns
returns c = all_told _ _ _ _ _ _ c.requires.code c.requires.pieces (rw c.new-all.ensures.items at c.in_ok-put_objects.ensures)
    ((rw c.as_slice.ensures.value at c.in_ok-put_all.ensures) ∙ ap (λ p. c.put_objects.new.out.items ++ p.sites) c.program.view_is)
    (c.in_ok-named.ensures ∙ ap (λ p. sites_of_names (named_in (typed_unit_view c.args.unit.now) p.types)) c.program.view_is)
    (rw c.as_slice-2.ensures.value at c.in_ok-put_all-2.ensures)

use Rattle.std.specs.Prelude.{nat_eq}
use Rattle.std.proofs.Common.{flat_map, ap, sym, subst, ◌∙◌}
use Rattle.std.specs.List.{Contains}
use Rattle.indexmap.specs.IndexMap.{get}
use Rattle.phys_types.specs.Turning.{list_in, told_at, renamed_at, AreNew}
use Rattle.phys_types.proofs.Reading.{Lists}
use Rattle.phys_types.proofs.Turned.{are_new}
use Rattle.phys_types.proofs.turning.told_apart.Goals as goal

pub returns : goal.returns
returns c f r m =
    subst (AreNew c.args.graph.now.targets.items c.args.numbers.now c.args.fresh.now)
    (sym (c.in_ok-renamed.ensures
    ∙ ap (λ ts. flat_map (renamed_at (get nat_eq c.in_ok-keepers.keepers) c.args.numbers.now) ts)
    (c.deref-4.ensures.value ∙ c.in_ok-told.ensures ∙ (λ i. flat_map (told_at c.args.fresh.now (c.deref-2.ensures.value i)) (c.as_slice.ensures.keys i)))))
    (are_new c.args.graph.now.targets.items c.args.graph.now.readers.items (get nat_eq c.in_ok-keepers.keepers) c.args.numbers.now c.args.fresh.now c.args.changed.now
    c.in_ok-touched.touched.keys r m f
    (λ e t a b. c.in_ok-touched.ensures e t a (subst (λ (xs : Lists). Contains (list_in xs e.ty) t) (sym c.deref.ensures.value) b)))

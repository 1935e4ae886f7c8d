use Rattle.std.proofs.Common.{◌≡◌, List, Some, ap, subst, ◌∙◌, slice_get}
use Rattle.std.proofs.lemmas.Option.{slice_get_within, get_or_from_slice_get}
use Rattle.std.proofs.lemmas.List.{get_or-map}
use Rattle.cc_base.specs.declared.number.TypeId.{TypeId}
use Rattle.c_types.specs.Table.{entry_at, void_entry}
use Rattle.c_types.specs.Kept.{KeptEntry, KnownShape, IsSound, IsKeptOf, table_of, entry_of}

-- Reading what is kept of a type.

module _ (es : List KeptEntry) (t : TypeId) (p : KeptEntry) (h : slice_get es t.0 ≡ Some p) where
  pub kept_here : (known : List KnownShape) → IsSound es known → IsKeptOf (table_of es) t p.1
  kept_here known s =
      subst (λ (q : KeptEntry). IsKeptOf (table_of es) t q.1) (get_or_from_slice_get es t.0 p p h) (s.kept t.0 p (slice_get_within es t.0 p h))

  pub entry_here : entry_at (table_of es) t ≡ entry_of p
  entry_here = get_or-map entry_of es t.0 p void_entry (slice_get_within es t.0 p h) ∙ ap entry_of (get_or_from_slice_get es t.0 p p h)

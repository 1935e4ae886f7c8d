use Rattle.phys_types.specs.declared.lending.Lent.{Lent}
use Rattle.phys_types.specs.declared.lending.Lent.TheVariants.{Whole, Written}
use Rattle.phys_types.specs.declared.spot.Layout.{Layout}

-- the layout that is lent
abbrev pub lent_layout : Lent → Layout
lent_layout (Whole x) = x.now
lent_layout (Written x) = x

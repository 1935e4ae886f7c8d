use Rattle.std.specs.Prelude.{ℕ, Option, None, Some, ◌+◌, ◌*◌, ◌^◌, ◌≡◌, ◌<◌, ◌⊎◌}
use Rattle.cc_base.specs.declared.place.Place.{Place}
use Rattle.cc_base.specs.Places.{IsBefore}
use Rattle.kind_solver.specs.declared.constraint.Why.{Why}
use Rattle.kind_solver.specs.declared.constraint.Why.TheVariants.{Arith, Integer, Down, Tile, Bad, Union}
use Rattle.kind_solver.specs.declared.cause.Cause.{Cause}

-- the place of a reason among the reasons
abbrev pub why_order : Why → ℕ
why_order Arith = 0
why_order Integer = 1
why_order Down = 2
why_order Tile = 3
why_order Bad = 4
why_order Union = 5

-- The order of causes: by line, then by column, then by reason.
abbrev pub ComesBefore : Cause → Cause → Type 0
ComesBefore a b = IsBefore a.site b.site
    ⊎ ((a.site.line ≡ b.site.line) × (a.site.col ≡ b.site.col) × (why_order a.why < why_order b.why))

-- The same order as a number, for causes whose line and column are 32-bit numbers. It is used in
-- the contracts of private functions alone.
abbrev pub rank : Cause → ℕ
rank c = (c.site.line * 2 ^ 32 + c.site.col) * 8 + why_order c.why

-- no cause is later than every cause
abbrev pub late : Option Cause → ℕ
late None = 2 ^ 70
late (Some c) = rank c

-- the line and the column are 32-bit numbers
abbrev pub PlaceFits : Place → Type 0
PlaceFits place = (place.line < 2 ^ 32) × (place.col < 2 ^ 32)

abbrev pub Fits : Cause → Type 0
Fits c = PlaceFits c.site

use Rattle.std.specs.Prelude.{ℕ, List, codes}
use Rattle.kind_solver.specs.declared.constraint.Why.{Why}
use Rattle.kind_solver.specs.declared.constraint.Why.TheVariants.{Arith, Integer, Down, Tile, Bad, Union}

-- The names of reasons that reports write, as bytes.
abbrev pub why_name : Why → List ℕ
why_name Arith = codes "arith"
why_name Integer = codes "integer"
why_name Down = codes "down"
why_name Tile = codes "tile"
why_name Bad = codes "bad"
why_name Union = codes "union"

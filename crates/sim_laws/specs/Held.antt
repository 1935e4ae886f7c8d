-- Which instructions code consists of: those in order, and those that `if`, blocks and loops hold, but not these themselves.
use Rattle.std.specs.Prelude.{◌≡◌, ◌⊎◌, List, [], ◌∷◌}
use Rattle.cil_form.specs.declared.instr.Instr.{Instr, Row_of-Instr, end_of-Instr, more_of-Instr}
use Rattle.cil_form.specs.declared.instr.Instr.TheVariants as instr

abbrev mutual
  pub IsIn : Instr → Instr → Type 0
  IsIn j (instr.If' t shape code shape' other) = IsInRow j code ⊎ IsInRow j other
  IsIn j (instr.Block' shape code) = IsInRow j code
  IsIn j (instr.Loop' shape code) = IsInRow j code
  IsIn j i = j ≡ i

  pub IsInRow : {m : _} → Instr → Row_of-Instr m → Type 0
  IsInRow j end_of-Instr = ⊥
  IsInRow j (more_of-Instr i rest) = IsIn j i ⊎ IsInRow j rest

abbrev pub IsInCode : Instr → List Instr → Type 0
IsInCode j [] = ⊥
IsInCode j (i ∷ is) = IsIn j i ⊎ IsInCode j is

-- Each instruction that code in shape consists of is in shape.
use Rattle.std.proofs.Common.{◌≡◌, ℕ, suc, List, [], ◌∷◌, sym, subst, ⊎_elim, slice_get, Some}
use Rattle.cil_form.specs.declared.instr.Instr.{Instr, Row_of-Instr, end_of-Instr, more_of-Instr}
use Rattle.cil_form.specs.declared.instr.Instr.TheVariants as instr
use Rattle.cil_form.specs.declared.program.Function.{Function}
use Rattle.cil_form.specs.declared.program.Program.{Program}
use Rattle.cil_form.specs.Shape.{IsInShape, IsFunctionInShape, context_of, context_in}
use Rattle.cil_form.specs.Typing.{Context, Typing, no_types, IsShaped, IsRowShaped, AreShaped}
use Rattle.sim_laws.specs.Held.{IsIn, IsInRow, IsInCode}
use Rattle.sim_laws.proofs.Run.{all-at}

-- so many blocks are around, and so much is known where the innermost of them is left
abbrev within : Context → ℕ → Typing → Context
within k blocks kept = record k { blocks = blocks; kept = kept }

-- somewhere in code of this context
pub record Shaped (j : Instr) (k : Context) : Type 0 where
  pub blocks : ℕ
  pub kept : Typing
  pub types : Typing
  pub after : Typing
  pub is : IsShaped j (record k { blocks = blocks; kept = kept }) types after

this : (i j : Instr) (k : Context) (blocks : ℕ) (kept types after : Typing) → IsShaped i (within k blocks kept) types after → j ≡ i → Shaped j k
this i j k blocks kept types after h e =
    record { blocks = blocks; kept = kept; types = types; after = after; is = subst (λ (x : Instr). IsShaped x (within k blocks kept) types after) (sym e) h }

mutual
  one : (i j : Instr) (k : Context) (n : ℕ) (kept types after : Typing) → IsShaped i (within k n kept) types after → IsIn j i → Shaped j k
  one (instr.Set i) j k n kept types after h q = this (instr.Set i) j k n kept types after h q
  one (instr.Calculate i) j k n kept types after h q = this (instr.Calculate i) j k n kept types after h q
  one (instr.Point i) j k n kept types after h q = this (instr.Point i) j k n kept types after h q
  one (instr.Convert i) j k n kept types after h q = this (instr.Convert i) j k n kept types after h q
  one (instr.Access i) j k n kept types after h q = this (instr.Access i) j k n kept types after h q
  one (instr.Allocate i) j k n kept types after h q = this (instr.Allocate i) j k n kept types after h q
  one (instr.Call i) j k n kept types after h q = this (instr.Call i) j k n kept types after h q
  one (instr.Runtime i) j k n kept types after h q = this (instr.Runtime i) j k n kept types after h q
  one (instr.If' t shape code shape' other) j k n kept types after (scalar, first, second) q =
      ⊎_elim (row code j k n kept types after first) (row other j k n kept types after second) q
  one (instr.Block' shape code) j k n kept types after (entry, passes, inner) q = row code j k (suc n) entry entry entry inner q
  one (instr.Loop' shape code) j k n kept types after (entry, passes, inner) q = row code j k (suc n) entry entry entry inner q
  one (instr.Break m) j k n kept types after h q = this (instr.Break m) j k n kept types after h q
  one instr.Return j k n kept types after h q = this instr.Return j k n kept types after h q
  one (instr.ReturnValue v t at) j k n kept types after h q = this (instr.ReturnValue v t at) j k n kept types after h q

  row : {m : _} (r : Row_of-Instr m) (j : Instr) (k : Context) (n : ℕ) (kept types after : Typing) → IsRowShaped r (within k n kept) types after → IsInRow j r
      → Shaped j k
  row end_of-Instr j k n kept types after h q = absurd q
  row (more_of-Instr i r) j k n kept types after (middle, first, rest) q =
      ⊎_elim (one i j k n kept types middle first) (row r j k n kept middle after rest) q

pub shaped-code : (is : List Instr) (j : Instr) (k : Context) (n : ℕ) (kept types after : Typing) → AreShaped is (within k n kept) types after → IsInCode j is → Shaped j k
shaped-code [] j k n kept types after h q = absurd q
shaped-code (i ∷ is) j k n kept types after (middle, first, rest) q =
    ⊎_elim (one i j k n kept types middle first) (shaped-code is j k n kept middle after rest) q

pub shaped-in : (p : Program) → IsInShape p → (n : ℕ) (f : Function) → slice_get p.functions n ≡ Some f → (j : Instr) → IsInCode j f.body.0.items
    → Shaped j (context_in p f)
shaped-in p shape n f found j q =
    shaped-code f.body.0.items j (context_in p f) 0 no_types no_types no_types (all-at (IsFunctionInShape p) p.functions shape.functions n f found).body.shaped q

pub shaped-first : (p : Program) → IsInShape p → (j : Instr) → IsInCode j p.initialisers.0.items → Shaped j (context_of p)
shaped-first p shape j q = shaped-code p.initialisers.0.items j (context_of p) 0 no_types no_types no_types shape.initialisers.shaped q

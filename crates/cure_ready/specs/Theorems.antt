-- What the laws of the crate say.
use Rattle.std.specs.Prelude.{◌≢◌}
use Rattle.std.specs.List.{Contains}
use Rattle.cil_form.specs.declared.program.Function.{Function}
use Rattle.cil_form.specs.declared.program.Program.{Program}
use Rattle.cil_form.specs.Shape.{IsInShape, context_of, context_in}
use Rattle.cil_form.specs.Told.{IsToldOf, IsSolutionOf}
use Rattle.cure_rules.specs.Known.{World, AreSizes}
use Rattle.cure_instrs.specs.Cured.{IsIn}
use Rattle.cure_calls.specs.Storing.{HaveHomes, CanStoreAll}
use Rattle.cure_ready.specs.Curable.{HaveFewParameters, IsCurable}

abbrev pub FunctionsAreCurable : Type 0
FunctionsAreCurable =
    (p : Program) (f : Function) (w : World) → IsInShape p → IsToldOf p → IsSolutionOf p w.whole.kind → Contains p.functions f → IsIn w (context_in p f)
    → AreSizes w.whole → w.number ≢ 0 → HaveFewParameters p.types → IsCurable (context_in p f) w

abbrev pub InitialisersAreCurable : Type 0
InitialisersAreCurable =
    (p : Program) (w : World) → IsInShape p → IsToldOf p → IsSolutionOf p w.whole.kind → IsIn w (context_of p) → AreSizes w.whole
    → HaveFewParameters p.types → IsCurable (context_of p) w

abbrev pub ParametersCanBeStored : Type 0
ParametersCanBeStored =
    (p : Program) (f : Function) (w : World) → IsInShape p → IsToldOf p → Contains p.functions f → IsCurable (context_in p f) w
    → HaveHomes w.whole f.parameters × CanStoreAll w.whole f.parameters

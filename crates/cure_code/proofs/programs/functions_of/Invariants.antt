use Rattle.cure_code.specs.Settings.{AreMade, whole_in}
use Rattle.cure_code.proofs.programs.functions_of.Given as goal

abbrev pub invariant-functions : goal.invariant-functions
invariant-functions l = AreMade (whole_in l.w) l.w.program.now l.i l.made.items

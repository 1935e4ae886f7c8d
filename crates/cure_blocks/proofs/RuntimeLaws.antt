-- The lines of calls of the C library are cured code of them.
use Rattle.std.proofs.Common.{arith, Some, None, List, [], ◌∷◌}
use Rattle.integers.specs.Arithmetic.{int}
use Rattle.cil_form.specs.declared.number.Temp.{Temp}
use Rattle.cil_form.specs.declared.instr.RuntimeCall.TheVariants as runtime
use Rattle.cil_form.specs.Typing.{Typing, IntegerOf}
use Rattle.cured_code.specs.declared.instr.Instr.{Instr}
use Rattle.cured_code.specs.declared.instr.Instr.TheVariants as instr
use Rattle.cured_code.specs.declared.instr.Narrow.TheVariants.{U8}
use Rattle.check_forms.specs.Pieces.{Line}
use Rattle.cure_scope.specs.declared.scope.Scope.{Scope}
use Rattle.cure_scope.specs.Scopes.{fixed_column, world_of}
use Rattle.cure_instrs.proofs.KnownLaws.{leaves_held, is_lowly}
use Rattle.cure_blocks.specs.Cured.{RuntimeCured}

pub free_cured : (k : Scope) (types : Typing) (into p : Temp) (code : List Instr) → Line [] code → RuntimeCured (runtime.Free into p) (world_of k) types code
unfolding RuntimeCured
free_cured k types into p code line c after is h = (line, leaves_held k.parameters types after into None h.1.1)

pub getchar_cured : (k : Scope) (types : Typing) (into : Temp) (code : List Instr)
    → Line (instr.Get (fixed_column into) ∷ []) code → RuntimeCured (runtime.Getchar into) (world_of k) types code
unfolding RuntimeCured
getchar_cured k types into code line c after is h = ((h.0, omega arith), line, leaves_held k.parameters types after into (Some (IntegerOf int)) h.1)

pub putchar_cured : (k : Scope) (types : Typing) (into v : Temp) (code : List Instr)
    → Line (instr.Put (fixed_column v) ∷ instr.Ext (fixed_column into) (fixed_column v) U8 ∷ []) code → RuntimeCured (runtime.Putchar into v) (world_of k) types code
unfolding RuntimeCured
putchar_cured k types into v code line c after is h = (
  fixed_column v,
  is_lowly k.parameters types v int h.0,
  (h.1.0, omega arith),
  line,
  leaves_held k.parameters types after into (Some (IntegerOf int)) h.1.1,
)

pub exit_cured : (k : Scope) (types : Typing) (into v : Temp) (code : List Instr)
    → Line (instr.Exit (fixed_column v) ∷ []) code → RuntimeCured (runtime.Exit into v) (world_of k) types code
unfolding RuntimeCured
exit_cured k types into v code line c after is h =
    (fixed_column v, is_lowly k.parameters types v int h.0, line, leaves_held k.parameters types after into None h.1.1)

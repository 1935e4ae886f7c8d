use Rattle.std.proofs.Common.{◌≡◌, ◌++◌}
use Rattle.std.specs.Prelude.{codes}
use Rattle.program_gen.specs.Generated.{lines, definition, call}
use Rattle.program_gen.proofs.make.Given as goal

abbrev pub invariant-loop-i : goal.invariant-loop-i
invariant-loop-i l = l.text.items ≡ lines definition l.i

abbrev pub invariant-loop-j : goal.invariant-loop-j
invariant-loop-j l = l.text.items ≡ lines definition l.n ++ (codes "int main(void){int a[4];int s=0;\n" ++ lines call l.j)

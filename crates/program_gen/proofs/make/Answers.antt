use Rattle.std.proofs.Common.{◌≡◌, ◌++◌, List, ℕ, append_assoc, add-one, arith}
use Rattle.std.specs.Prelude.{codes}
use Rattle.program_gen.specs.Generated.{lines, definition, call}
use Rattle.program_gen.proofs.make.Goals as goal

-- what is added at the end stands at the end of the last part
within : (a h b c old new : List ℕ) → new ≡ old ++ c → old ≡ a ++ (h ++ b) → new ≡ a ++ (h ++ (b ++ c))
within a h b c old new e f = rw (e, f) (simp append_assoc)

pub loop-j-preserved : goal.loop-j-preserved
loop-j-preserved c =
    let added = rw add-one at c.in_ok-put_call.ensures in
    rw add-one (within (lines definition c.args.n) (codes "int main(void){int a[4];int s=0;\n") (lines call c.loop-j.j) _ _ _ added c.loop-j.invariant)

pub returns : goal.returns
returns c =
    let over : c.loop-j.j ≡ c.args.n = omega arith in
    within (lines definition c.args.n) (codes "int main(void){int a[4];int s=0;\n") (lines call c.args.n) _ _ _ c.in_ok-extend_from_slice-2.ensures.items
    (rw over at c.loop-j.invariant)

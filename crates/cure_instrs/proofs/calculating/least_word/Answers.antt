use Rattle.std.proofs.Common.{refl, ◌≡◌, arith}
use Rattle.cure_instrs.proofs.calculating.least_word.Goals as goal

pub returns-in-1 : goal.returns-in-1
returns-in-1 c = rw c.in-1.is refl

pub returns-in-2 : goal.returns-in-2
returns-in-2 c = rw c.in-2.is refl

pub returns-in-4 : goal.returns-in-4
returns-in-4 c = rw c.in-4.is refl

pub returns-in_default : goal.returns-in_default
returns-in_default c = let h = c.requires in let d = c.in_default in let e : c.args.bytes ≡ 8 = grind (arith, h, d) in rw e refl

use Rattle.std.proofs.Common.{◌≡◌, take}
use Rattle.cure_code.proofs.lists.kinds_of.Given as goal

abbrev pub invariant-nodes : goal.invariant-nodes
invariant-nodes l = l.all.items ≡ take l.n l.kinds

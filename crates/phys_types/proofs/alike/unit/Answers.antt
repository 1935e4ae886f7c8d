use Rattle.std.proofs.Common.{◌≡◌, ◌*◌, ◌<◌, ◌≤◌, ℕ, sym, subst, arith}
use Rattle.std.proofs.Math.Nat.{mul-le-mul, mul-mod_right, dvd-mul_left}
use Rattle.std.proofs.lemmas.Nat.Gcd.{mod-eq-zero_of_dvd}
use Rattle.phys_types.specs.InTurn.{IsTurn}
use Rattle.phys_types.proofs.alike.unit.Goals as goal

-- no product that is cut off is below
pub returns-else-l-k-eq0 : goal.returns-else-l-k-eq0
returns-else-l-k-eq0 c = λ h.
    let k : ℕ = c.args.k in
    let l : ℕ = c.args.l in
    let e : c.saturating_mul.result ≡ k * l = (let s = c.saturating_mul.ensures in omega arith) in
    let a : 1 ≤ k = (let r = c.requires.first in omega arith) in
    let b : 1 ≤ l = (let r = c.requires.second in omega arith) in
    let p : 0 < k * l = (let m = mul-le-mul a b in omega arith) in
    subst (λ (n : ℕ). IsTurn k l n) (sym e) (p, mul-mod_right k l, mod-eq-zero_of_dvd l (dvd-mul_left l k))

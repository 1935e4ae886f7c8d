use Rattle.std.proofs.Common.{ℕ, zero, suc, List, refl, subst, Contains}
use Rattle.kind_solver.specs.declared.gathering.Edge.{Edge}
use Rattle.kind_solver.specs.Chains.{edge, Path, Leads}

-- Paths, put together.

pub Leads-here : (es : List Edge) (x : ℕ) → Leads es x x
Leads-here es x = (0, refl)

pub Leads-step : (es : List Edge) (x z y : ℕ) → Leads es x z → Contains es (edge z y) → Leads es x y
Leads-step es x z y l h = (suc l.0, (z, l.1, h))

pub Leads-path : (es : List Edge) (x y z k : ℕ) → Leads es x y → Path es k y z → Leads es x z
Leads-path es x y z zero l e = subst (λ n. Leads es x n) e l
Leads-path es x y z (suc k) l p = Leads-step es x p.0 z (Leads-path es x y p.0 k l p.1) p.2

pub Leads-Leads : (es : List Edge) (x y z : ℕ) → Leads es x y → Leads es y z → Leads es x z
Leads-Leads es x y z l m = Leads-path es x y z m.0 l m.1

-- What each edge carries on, a path carries on.
pub along : (es : List Edge) (P : ℕ → Type 0) → ((x y : ℕ) → Contains es (edge x y) → P x → P y)
    → (k x y : ℕ) → Path es k x y → P x → P y
along es P carries zero x y e p = subst P e p
along es P carries (suc k) x y w p = carries w.0 y w.2 (along es P carries k x w.0 w.1 p)

pub along_Leads : (es : List Edge) (P : ℕ → Type 0) → ((x y : ℕ) → Contains es (edge x y) → P x → P y)
    → (x y : ℕ) → Leads es x y → P x → P y
along_Leads es P carries x y l p = along es P carries l.0 x y l.1 p

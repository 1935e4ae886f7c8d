-- What the exit of a `?` says of the error that it passes on.
use Rattle.std.proofs.Common.{◌≡◌, sym, subst, Ok, Err}
use Rattle.std.specs.Prelude.{Result}
use Rattle.std.specs.Result.{IfErr, OnOk, IsErrAnd}
use Rattle.std.proofs.lemmas.Result.{err_from_is_err_and}

pub exit-passes : {T E : Type 0} (r : Result T E) (x : E) (P : E → Type 0) → IsErrAnd r (λ y. y ≡ x) → P x → IfErr r P
exit-passes r x P h k =
    let p = err_from_is_err_and r h in
    subst (λ q. IfErr q P) (sym p.1) (subst P (sym p.2) k)

-- what holds anyway
pub ok-holds : {T E : Type 0} (r : Result T E) (P : Type 0) → P → OnOk r P
ok-holds (Ok x) P h = h
ok-holds (Err e) P h = tt

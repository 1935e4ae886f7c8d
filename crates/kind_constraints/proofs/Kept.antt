-- What is kept in a map for a key is so of the key.
use Rattle.std.specs.Prelude.{Some}
use Rattle.std.proofs.Common.{◌≡◌, Bool, true, false, cond, if◌then◌else◌, List, [], ◌∷◌, refl, sym, subst}
use Rattle.std.specs.List.{AllByRecursion}
use Rattle.std.specs.Map.{lookup}
use Rattle.indexmap.specs.IndexMap.{insert_entry}

module _ {K V : Type 0} (P : K × V → Type 0) where
  some_same : (v w : V) → Some v ≡ Some w → v ≡ w
  some_same v w e = cc

  pub looked_up : (eq : K → K → Bool) → ((x y : K) → eq x y ≡ true → x ≡ y) → (es : List (K × V)) (k : K) (v : V) → AllByRecursion P es → lookup (eq k) es ≡ Some v → P (k, v)
  looked_up eq same [] k v h e = absurd (cc (e))
  looked_up eq same (d ∷ es) k v h e = by (eq k d.0) refl e (looked_up eq same es k v h.1)
    where
      by : (b : Bool) → eq k d.0 ≡ b → cond b (Some d.1) (lookup (eq k) es) ≡ Some v → (lookup (eq k) es ≡ Some v → P (k, v)) → P (k, v)
      by true q f g = subst (λ (x : K). P (x, v)) (sym (same k d.0 q)) (subst (λ (y : V). P (d.0, y)) (some_same d.1 v f) h.0)
      by false q f g = g f

  pub inserted : (eq : K → K → Bool) → ((x y : K) → eq x y ≡ true → x ≡ y) → (es : List (K × V)) (k : K) (v : V) → AllByRecursion P es → P (k, v) → AllByRecursion P (insert_entry eq es k v)
  inserted eq same [] k v h p = (p, tt)
  inserted eq same (d ∷ es) k v h p = by (eq k d.0) refl (inserted eq same es k v h.1 p)
    where
      by : (b : Bool) → eq k d.0 ≡ b → AllByRecursion P (insert_entry eq es k v) → AllByRecursion P (if b then (d.0, v) ∷ es else d ∷ insert_entry eq es k v)
      by true q g = (subst (λ x. P (x, v)) (same k d.0 q) p, h.1)
      by false q g = (h.0, g)

-- Types whose layouts are as many copies of the same part are made alike.
use Rattle.std.proofs.Common.{◌≡◌, ℕ, Bool, true, false, ◌||◌, ap, sym, ◌∙◌, true≢false}
use Rattle.cc_base.specs.declared.number.TypeId.{TypeId}
use Rattle.c_types.specs.Table.{Table, is_function, is_function_shape}
use Rattle.c_types.specs.Equality.{made_alike}
use Rattle.c_types.specs.Sound.{IsWellFormed}
use Rattle.phys_types.specs.declared.keeping.Repeated.{Repeated}
use Rattle.phys_types.specs.Numbers.{same_number, same_spots}
use Rattle.phys_types.specs.Shown.{IsKeptOf, all_size, all_spots}
use Rattle.phys_types.proofs.InCopies.{kept_whole}
use Rattle.phys_types.proofs.Knowing.{neither}
use Rattle.phys_types.proofs.Makeups.{same_size_alike}

module _ (table : Table) (w : IsWellFormed table) (number : TypeId → ℕ) (t u : TypeId) (x y : Repeated) (h : IsKeptOf table (same_number number) t x)
    (k : IsKeptOf table (same_number number) u y) where
  pub same_seen : (b : Bool) → b ≡ (is_function table t || is_function table u) → b ≡ false
      → (all_size x ≡ all_size y) × (same_spots number (all_spots x) (all_spots y) ≡ true) → true ≡ made_alike table (same_number number) t u
  same_seen b e f s =
      let E = same_number number in
      let n = neither (is_function table t) (is_function table u) (sym e ∙ f) in
      let v = kept_whole table w E t x h in
      let z = kept_whole table w E u y k in
      same_size_alike table E number t u v.0 z.0
      (λ ps r g. true≢false (sym (ap is_function_shape g) ∙ n.0)) (λ ps r g. true≢false (sym (ap is_function_shape g) ∙ n.1)) v.4 z.4
      true (v.2 ∙ s.0 ∙ sym z.2) (sym s.1 ∙ (λ i. same_spots number (v.1 i) (z.1 i)))

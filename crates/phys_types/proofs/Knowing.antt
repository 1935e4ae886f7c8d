-- What is known of a table answers for all its types.
use Rattle.std.proofs.Common.{◌≡◌, ℕ, Bool, true, false, ◌||◌, List, refl, ap, sym, subst, ◌∙◌, true≢false}
use Rattle.cc_base.specs.declared.number.TypeId.{TypeId}
use Rattle.c_types.specs.Table.{Table, IsType, is_function}
use Rattle.c_types.specs.Equality.{physically_equal, begins_with}
use Rattle.phys_types.specs.declared.keeping.Repeated.{Repeated}
use Rattle.phys_types.specs.declared.spot.Layout.{Layout}
use Rattle.phys_types.specs.Numbers.{number_in, same_number}
use Rattle.phys_types.specs.Rounds.{AreAllKept}
use Rattle.phys_types.specs.Shown.{IsLayoutOf, begins_spots}
use Rattle.phys_types.specs.Views.{IsKnown}
use Rattle.phys_types.proofs.Classes.{begins_right}
use Rattle.phys_types.proofs.Viewing.{all_kept}

pub neither : (a b : Bool) → (a || b) ≡ false → (a ≡ false) × (b ≡ false)
neither false false k = (refl, refl)
neither false true k = absurd (true≢false k)
neither true b k = absurd (true≢false k)

module _ (table : Table) (order : List TypeId) (places numbers : List ℕ) (layouts : List Repeated) (k : IsKnown table order places numbers layouts) where
  pub known_kept : (ps : List ℕ) (ls : List Repeated) → ps ≡ places → ls ≡ layouts → AreAllKept table ps ls
  known_kept ps ls p l =
      subst (λ xs. AreAllKept table xs ls) (sym p) (subst (AreAllKept table places) (sym l) (all_kept table order places k.whole numbers layouts k.settled k.formed))

  pub known_equal : (t u : TypeId) → IsType table t → IsType table u → same_number (number_in numbers) t u ≡ physically_equal table t u
  known_equal t u a b = k.settled.equal t u (k.whole.whole t a) (k.whole.whole u b)

  pub known_begins : (t u : TypeId) (x y : Layout) (ns : List ℕ) (b c : Bool) → IsType table t → IsType table u → ns ≡ numbers
      → b ≡ begins_spots (number_in ns) x y → c ≡ (is_function table t || is_function table u) → c ≡ false
      → IsLayoutOf table (physically_equal table) t x → IsLayoutOf table (physically_equal table) u y → b ≡ begins_with table t u
  known_begins t u x y ns b c a d n e f g lx ly =
      let f' = neither (is_function table t) (is_function table u) (sym f ∙ g) in
      e ∙ ap (λ xs. begins_spots (number_in xs) x y) n
      ∙ begins_right table k.formed (number_in numbers) known_equal x y t u a d lx ly f'.0 f'.1

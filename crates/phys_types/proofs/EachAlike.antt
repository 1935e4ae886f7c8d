use Rattle.std.proofs.Common.{◌≡◌, Bool, true, false, List, ◌∷◌, Option, refl, ap, sym, subst, ◌∙◌, true≢false}
use Rattle.cc_base.specs.declared.number.TypeId.{TypeId}
use Rattle.c_types.specs.declared.shape.TypeShape.TheVariants.{Function}
use Rattle.c_types.specs.Table.{Table, IsType, shape_at, is_function, is_function_shape}
use Rattle.c_types.specs.Equality.{physically_equal}
use Rattle.c_types.specs.Flows.{HeldPointer, StandAlike, pointer_of_shape}
use Rattle.c_types.specs.Sound.{IsWellFormed}
use Rattle.phys_types.specs.declared.spot.Layout.{Layout}
use Rattle.phys_types.specs.declared.spot.Spot.{Spot}
use Rattle.phys_types.specs.Found.{Pairs, Gains}
use Rattle.phys_types.specs.Shown.{IsLayoutOf}
use Rattle.phys_types.specs.Standing.{AreBoth, IsAtSpot, IsAtSlot, StandInTurn}
use Rattle.phys_types.proofs.Classes.{function_tag}
use Rattle.phys_types.proofs.FoundLemmas.{gains_as}
use Rattle.phys_types.proofs.AddLemmas.{with_result}
use Rattle.phys_types.proofs.Turns.{equal_begins, equal_function, turns_from_alike, alike_from_turns, slots_from_alike, alike_from_slots}

-- Adding the pointers at the same places of physically equal types.

pub no_function : (table : Table) (t : TypeId) → ((ps : List TypeId) (r : TypeId) → shape_at table t ≡ Function ps r → ⊥) → is_function table t ≡ false
no_function table t h = by (is_function table t) refl
  where
    by : (b : Bool) → is_function table t ≡ b → is_function table t ≡ false
    by true f = let g = function_tag table (shape_at table t) f in absurd (h g.0 g.1 g.2)
    by false f = f

module _ (table : Table) (w : IsWellFormed table) (t u : TypeId) (e : physically_equal table t u ≡ true) where
  pub data_alike : (x y : Layout) (xs ys : List Spot) (a b : Pairs) → IsType table t → IsType table u → IsLayoutOf table (physically_equal table) t x
      → IsLayoutOf table (physically_equal table) u y → is_function table t ≡ false → xs ≡ x.spots.items → ys ≡ y.spots.items
      → Gains (StandInTurn (IsAtSpot xs) (IsAtSpot ys)) a b → Gains (StandAlike table t u) a b
  data_alike x y xs ys a b tt' uu h k f i j g =
      let s = equal_begins table w t u f e in
      gains_as (StandInTurn (IsAtSpot x.spots.items) (IsAtSpot y.spots.items)) (StandAlike table t u) a b
      (alike_from_turns table w t u x y tt' uu h k s) (turns_from_alike table w t u x y tt' uu h k s)
      (subst (λ zs. Gains (StandInTurn (IsAtSpot zs) (IsAtSpot y.spots.items)) a b) i (subst (λ zs. Gains (StandInTurn (IsAtSpot xs) (IsAtSpot zs)) a b) j g))

  pub function_alike : (ps qs ps' qs' : List TypeId) (r s : TypeId) (x y : Option HeldPointer) (a b c : Pairs) → shape_at table t ≡ Function ps r → shape_at table u ≡ Function qs s
      → ps' ≡ ps → qs' ≡ qs → x ≡ pointer_of_shape (shape_at table r) → y ≡ pointer_of_shape (shape_at table s)
      → Gains (AreBoth x y) a b → Gains (StandInTurn (IsAtSlot table ps') (IsAtSlot table qs')) b c → Gains (StandAlike table t u) a c
  function_alike ps qs ps' qs' r s x y a b c f g i j h k l m =
      gains_as (StandInTurn (IsAtSlot table (r ∷ ps)) (IsAtSlot table (s ∷ qs))) (StandAlike table t u) a c
      (alike_from_slots table w t u ps qs r s f g) (slots_from_alike table w t u ps qs r s f g)
      (with_result table r s ps qs x y a b c h k l
      (subst (λ zs. Gains (StandInTurn (IsAtSlot table zs) (IsAtSlot table qs)) b c) i (subst (λ zs. Gains (StandInTurn (IsAtSlot table ps') (IsAtSlot table zs)) b c) j m)))

  pub none_alike : (ps : List TypeId) (r : TypeId) → shape_at table t ≡ Function ps r → is_function table u ≡ false → ⊥
  none_alike ps r f g = true≢false (sym (equal_function table w t u e (ap is_function_shape f)) ∙ g)

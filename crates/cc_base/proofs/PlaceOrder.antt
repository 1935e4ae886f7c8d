-- The order of places is a strict total order.
use Rattle.std.proofs.Common.{◌≡◌, ◌⊎◌, arith}
use Rattle.cc_base.specs.declared.place.Place.{Place}
use Rattle.cc_base.specs.Places.{IsBefore}

pub is_before-irreflexive : (a : Place) → IsBefore a a → ⊥
is_before-irreflexive a before = omega arith

pub is_before-transitive : (a b c : Place) → IsBefore a b → IsBefore b c → IsBefore a c
is_before-transitive a b c before after = grind arith

pub is_before-total : (a b : Place) → IsBefore a b ⊎ ((a.line ≡ b.line) × (a.col ≡ b.col)) ⊎ IsBefore b a
is_before-total a b = grind arith

-- The numbers of each operation stand in the working slots of their roles.
use Rattle.std.proofs.Common.{◌≡◌, refl, subst, sym, ap, ℕ, Bool, true, false, List, [], ◌∷◌, ◌++◌, nat_eq, if◌then◌else◌}
use Rattle.cc_base.specs.declared.number.TypeId.{TypeId}
use Rattle.cc_base.specs.declared.place.Place.{Place}
use Rattle.cc_base.specs.declared.kind.Kind.{Kind}
use Rattle.cc_base.specs.declared.kind.Kind.TheVariants.{Safe, Seq, Rtti, Wild}
use Rattle.check_forms.specs.declared.slots.Fixed.{Fixed}
use Rattle.check_forms.specs.declared.slots.PointerSlots.{PointerSlots}
use Rattle.check_forms.specs.declared.slots.Distance.TheVariants.{Bytes, Elements}
use Rattle.cure_rules.specs.Slots.{Size, Least, Span, LeastFactor, SpanFactor, Seven, Eight, Last, Signature}
use Rattle.cure_rules.specs.Checks.{Need, need, number_at, numbers_of, size_needed, reach_needs, base_needs, aligned_needs, tagged_needs, factor_needs, distance_needs, near_needs, member_needs, size_at, wild_numbers, reach_at, factor_by, factor_at, distance_at, read_integer, read_pointer, write_integer, write_pointer, move_by, address_of_part}
use Rattle.cure_scope.specs.declared.scope.Scope.{Scope}
use Rattle.cure_scope.specs.Scopes.{seat, world_of}
use Rattle.cure_scope.specs.Needs.{AreSeated}

pub seated_append : (xs ys : List Need) → AreSeated xs → AreSeated ys → AreSeated (xs ++ ys)
seated_append [] ys f g = g
seated_append (x ∷ xs) ys f g = (f.0, seated_append xs ys f.1 g)

size-if : (one : Bool) (n : ℕ) → AreSeated (if one then [] else need Size (number_at seat Size n) ∷ [])
size-if true n = tt
size-if false n = (refl, tt)

pub seated_size : (n : ℕ) → AreSeated (size_needed (number_at seat Size n))
seated_size n = size-if (nat_eq n 1) n

pub seated_reach : (kind : Kind) (n : ℕ) → AreSeated (reach_needs kind (number_at seat Size n))
seated_reach Safe n = tt
seated_reach Rtti n = tt
seated_reach Seq n = seated_size n
seated_reach Wild n = seated_size n

pub seated_base : (k : Scope) (kind : Kind) → AreSeated (base_needs kind (wild_numbers (world_of k) seat))
seated_base k Wild = (refl, tt)
seated_base k Safe = tt
seated_base k Seq = tt
seated_base k Rtti = tt

pub seated_aligned : (k : Scope) (kind : Kind) → AreSeated (aligned_needs kind (wild_numbers (world_of k) seat))
seated_aligned k Wild = (refl, tt)
seated_aligned k Safe = tt
seated_aligned k Seq = tt
seated_aligned k Rtti = tt

pub seated_tagged : (k : Scope) (kind : Kind) → AreSeated (tagged_needs kind (wild_numbers (world_of k) seat))
seated_tagged k Wild = (refl, tt)
seated_tagged k Safe = tt
seated_tagged k Seq = tt
seated_tagged k Rtti = tt

pub seated_near : (kind : Kind) (n : ℕ) → AreSeated (near_needs (reach_at seat kind n))
seated_near Wild n = (refl, (refl, tt))
seated_near Safe n = (refl, (refl, tt))
seated_near Seq n = (refl, (refl, tt))
seated_near Rtti n = (refl, (refl, tt))

pub seated_factor : (small signed : Bool) (n : ℕ) → AreSeated (factor_needs (factor_by seat small signed n))
seated_factor true signed n = tt
seated_factor false true n = (refl, (refl, tt))
seated_factor false false n = (refl, tt)

pub seated_distance : (one : Bool) (a n : ℕ) → AreSeated (distance_needs (if one then Bytes a else Elements a (number_at seat Size n)))
seated_distance true a n = tt
seated_distance false a n = (refl, tt)

module _ (k : Scope) (kind : Kind) (t : TypeId) (p : PointerSlots) where
  pub seated_read_integer : AreSeated (numbers_of (read_integer (world_of k) seat kind t p) kind)
  seated_read_integer = seated_reach kind _

  pub seated_read_pointer : AreSeated (numbers_of (read_pointer (world_of k) seat kind t p) kind)
  seated_read_pointer = seated_append (reach_needs kind (size_at (world_of k) seat kind t) ++ aligned_needs kind (wild_numbers (world_of k) seat))
      (tagged_needs kind (wild_numbers (world_of k) seat))
      (seated_append (reach_needs kind (size_at (world_of k) seat kind t)) (aligned_needs kind (wild_numbers (world_of k) seat)) (seated_reach kind _) (seated_aligned k kind))
      (seated_tagged k kind)

  pub seated_write_integer : AreSeated (numbers_of (write_integer (world_of k) seat kind t p) kind)
  seated_write_integer = seated_reach kind _

  pub seated_write_pointer : (home : ℕ) (at : Place) → AreSeated (numbers_of (write_pointer (world_of k) seat kind t p home at) kind)
  seated_write_pointer home at = seated_append (reach_needs kind (size_at (world_of k) seat kind t)) (aligned_needs kind (wild_numbers (world_of k) seat))
      (seated_reach kind _) (seated_aligned k kind)

  seated-member : (l : Kind) (n : ℕ) → AreSeated (member_needs l (number_at seat Size n) (wild_numbers (world_of k) seat) (reach_at seat l 1))
  seated-member Wild n = (refl, seated_near Wild 1)
  seated-member Safe n = tt
  seated-member Rtti n = tt
  seated-member Seq n = seated_size n

  pub seated_part : AreSeated (numbers_of (address_of_part (world_of k) seat kind t p) kind)
  seated_part = seated-member kind _

-- A type that is looked for, and added where it is not there: the table then goes on from the one before.
use Rattle.std.proofs.Common.{◌≡◌, ◌≢◌, ◌<◌, Bool, true, false, [], ◌∷◌, ◌++◌, length, Option, Some, None, refl, ap, subst, ◌∙◌, nat_lt, nat_le, if◌then◌else◌, arith}
use Rattle.std.specs.List.{All}
use Rattle.std.proofs.lemmas.List.{length-append}
use Rattle.std.proofs.Math.Seq.{get_or-append_seam}
use Rattle.cc_base.specs.declared.place.Place.{Place}
use Rattle.cc_base.specs.declared.number.TypeId.{TypeId}
use Rattle.cc_base.specs.declared.fault.Fault.{Fault}
use Rattle.cc_base.specs.declared.fault.Fault.TheVariants.{TooLarge}
use Rattle.cc_base.specs.declared.fault.Limit.TheVariants.{Types, Object}
use Rattle.c_types.specs.declared.shape.TypeShape.{TypeShape}
use Rattle.c_types.specs.Table.{Table, Entry, IsType, IsComplete, is_complete, parts_of_shape, void_entry}
use Rattle.c_types.specs.Sound.{IsWellFormed}
use Rattle.c_types.specs.Calls.{basic_entry, new_layout}
use Rattle.c_types.proofs.Adding.{appends}
use Rattle.c_types.proofs.Growth.{Changes, not_here, layout_other}
use Rattle.c_typing.specs.Extensions.{IsExtended, IsTypeWith}
use Rattle.c_typing.specs.Judging.{State, Outcome, Gives, Stops, type_among, there_or_added, type_with}
use Rattle.c_typing_laws.proofs.ExtensionLaws.{still_in, extended_refl}
use Rattle.c_typing.proofs.TypeSearch.{type-found}

pub extended_trans : (T U V : Table) → IsExtended T U → IsExtended U V → IsExtended T V
extended_trans T U V e f = record {
  longer = let l = e.longer in let k = f.longer in omega arith;
  shapes = λ t h. f.shapes t (still_in T U e t h) ∙ e.shapes t h;
  complete = λ t h. f.complete t (ap is_complete (e.complete t h) ∙ h) ∙ e.complete t h;
  layouts = λ t h. f.layouts t (ap is_complete (e.complete t h) ∙ h) ∙ e.layouts t h;
}

-- a table that changes where no complete type was
pub changed_extends : (T U : Table) (t : TypeId) (e : Entry) → IsWellFormed T → Changes T U t e → ((u : TypeId) → IsType T u → u.0 ≢ t.0) → IsExtended T U
changed_extends T U t e w c apart = record {
  longer = c.longer;
  shapes = λ u h. ap (λ (d : Entry). d.shape) (c.other u (apart u h));
  complete = λ u h. c.other u (not_here T U t e c u h);
  layouts = λ u h. layout_other T U t e c w.order.0 w.order.1 w.each u (not_here T U t e c u h);
}

pub added_extends : (T : Table) (x : TypeShape) → IsWellFormed T → All (IsComplete T) (parts_of_shape x []) → IsExtended T (T ++ basic_entry x ∷ [])
added_extends T x w parts =
    changed_extends T (T ++ basic_entry x ∷ []) (record { 0 = length T }) (basic_entry x) w (appends T (basic_entry x) parts)
    (λ u h s. let l : u.0 < length T = h in absurd (omega (arith, s)))

-- what an outcome gives, and the state after it
value_of : {A : Type 0} → A → Outcome A → A
value_of d (Gives a s) = a
value_of d (Stops f s) = d

state_of : {A : Type 0} → Outcome A → State
state_of (Gives a s) = s
state_of (Stops f s) = s

gives_value : {A : Type 0} (a b : A) (s r : State) → Gives a s ≡ Gives b r → a ≡ b
unfolding value_of
gives_value a b s r h = ap (value_of a) h

gives_state : {A : Type 0} (a b : A) (s r : State) → Gives a s ≡ Gives b r → s ≡ r
unfolding state_of
gives_state a b s r h = ap state_of h

is_given : {A : Type 0} → Outcome A → Bool
is_given (Gives a s) = true
is_given (Stops f s) = false

never_given : {A P : Type 0} (a : A) (f : Fault) (s r : State) → Stops f s ≡ Gives a r → P
unfolding is_given
never_given a f s r h = absurd (let e : false ≡ true = ap is_given h in cc)

fresh : (at : Place) (x : TypeShape) (t : TypeId) (s r : State) (room small : Bool) → IsWellFormed s.table → All (IsComplete s.table) (parts_of_shape x [])
    → (if room
    then (if small then Gives (record { 0 = length s.table }) (record s { table = s.table ++ basic_entry x ∷ [] }) else Stops (TooLarge at Object) s)
    else Stops (TooLarge at Types) s) ≡ Gives t r → IsTypeWith x t s r
fresh at x t s r true true w parts h =
    let after : State = record s { table = s.table ++ basic_entry x ∷ [] } in
    let here : IsTypeWith x (record { 0 = length s.table }) s after = record {
      shape = (omega (arith, length-append s.table (basic_entry x ∷ [])), ap (λ (d : Entry). d.shape) (get_or-append_seam s.table (basic_entry x) [] void_entry));
      extends = added_extends s.table x w parts;
      seen = refl;
    } in
    subst (λ (u : TypeId). IsTypeWith x u s r) (gives_value (record { 0 = length s.table }) t after r h)
    (subst (λ (q : State). IsTypeWith x (record { 0 = length s.table }) s q) (gives_state (record { 0 = length s.table }) t after r h) here)
fresh at x t s r true false w parts h = never_given t (TooLarge at Object) s r h
fresh at x t s r false small w parts h = never_given t (TooLarge at Types) s r h

there_or_fresh : (at : Place) (x : TypeShape) (t : TypeId) (s r : State) (o : Option TypeId) → type_among 0 s.table x ≡ o → IsWellFormed s.table
    → All (IsComplete s.table) (parts_of_shape x []) → there_or_added at x s o ≡ Gives t r → IsTypeWith x t s r
there_or_fresh at x t s r (Some u) e w parts h =
    let here : IsTypeWith x u s s = record { shape = type-found s.table x u e; extends = extended_refl s.table; seen = refl } in
    subst (λ (v : TypeId). IsTypeWith x v s r) (gives_value u t s r h) (subst (λ (q : State). IsTypeWith x u s q) (gives_state u t s r h) here)
there_or_fresh at x t s r None e w parts h =
    fresh at x t s r (nat_lt (length s.table) 16384) (nat_le (new_layout s.table x).size 1048576) w parts h

pub type_with-law : (at : Place) (x : TypeShape) (t : TypeId) (s r : State) → IsWellFormed s.table → All (IsComplete s.table) (parts_of_shape x [])
    → type_with at x s ≡ Gives t r → IsTypeWith x t s r
unfolding type_with
type_with-law at x t s r w parts h = there_or_fresh at x t s r (type_among 0 s.table x) refl w parts h

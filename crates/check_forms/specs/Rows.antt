-- Which conditions each primitive of C asks, by the kind of its pointer, in the order in which they are tried: each with the
-- check that stops where it is false, and the place in the source that it names.
use Rattle.std.specs.Prelude.{ℕ, List, [], ◌∷◌, ◌++◌, Option, Some, None, nat_eq, if◌then◌else◌}
use Rattle.cc_base.specs.declared.fault.Check.{Check}
use Rattle.cc_base.specs.declared.fault.Check.TheVariants as check
use Rattle.cc_base.specs.declared.kind.Kind.{Kind}
use Rattle.cc_base.specs.declared.kind.Kind.TheVariants.{Safe, Seq, Rtti, Wild}
use Rattle.cc_base.specs.declared.place.Place.{Place}
use Rattle.check_forms.specs.Conditions.{PointerSlots, Fixed, Distance, Bytes, Direction, Forward, Condition, Never, IsNotZero, IsInPart, IsByteInPart, IsWithinPart, IsInArea, IsByteInArea, IsWithinArea, IsArea, IsNear, IsSmall, IsBelowBound, IsAtLeast, IsAligned, HoldsNoPointer, HoldsPointer, IsNoDeeper, AreNoDeeper, IsNotOwn, IsMadeFor, IsFunctionOf, HasRoom, AreOfPart, AreOfArea, AreElementsApart, IsNoOverflow, Unless, UnlessNull, AreOfPartOr, AreOfAreaOr, Both}
pub use Rattle.check_forms.specs.declared.op.WildNumbers.{WildNumbers}
pub use Rattle.check_forms.specs.declared.op.Reach.{Reach}
pub use Rattle.check_forms.specs.declared.op.Factor.{Factor}
pub use Rattle.check_forms.specs.declared.op.Factor.TheVariants.{Any, Signed, Unsigned}
pub use Rattle.check_forms.specs.declared.op.Conversion.{Conversion}
pub use Rattle.check_forms.specs.declared.op.Conversion.TheVariants.{Free, Down, Shrink}
pub use Rattle.check_forms.specs.declared.op.Op.{Op}
pub use Rattle.check_forms.specs.declared.op.Op.TheVariants.{ReadInteger, ReadPointer, WriteInteger, WritePointer, CopyPlain, CopyPointers, KeepCell, Member, Move, Order, Equate, Call, ReturnPointer, Convert, Allocate, DivideUnsigned, DivideSigned, EnterMain}

-- a condition, the check that stops where it is false, and the place that it names
pub record Asked : Type 0 where
  pub check : Check
  pub place : Place
  pub condition : Condition

abbrev pub asked : Check → Place → Condition → Asked
asked check place condition = record { check = check; place = place; condition = condition }

-- the slot of the word that says where a pointer's object lies
abbrev pub home_slot : Kind → PointerSlots → ℕ
home_slot Safe p = p.first
home_slot Rtti p = p.first
home_slot Seq p = p.second
home_slot Wild p = p.second

-- so many bytes from p on lie in its part, or in its area

abbrev pub in_part : PointerSlots → Fixed → Condition
in_part p size = if nat_eq size.value 1 then IsByteInPart p else IsInPart p size

abbrev pub in_area : PointerSlots → Fixed → Condition
in_area p size = if nat_eq size.value 1 then IsByteInArea p else IsInArea p size

-- so many bytes may be reached through p
abbrev pub reached : Kind → PointerSlots → Fixed → Place → List Asked
reached Safe p size at = asked check.Null at (IsNotZero p.first) ∷ []
reached Rtti p size at = asked check.Null at (IsNotZero p.first) ∷ []
reached Seq p size at = asked check.Bounds at (in_part p size) ∷ []
reached Wild p size at = asked check.Wbounds at (IsNotZero p.second) ∷ asked check.Wbounds at (in_area p size) ∷ []

-- p was made for an object
abbrev pub based : Kind → PointerSlots → WildNumbers → Place → List Asked
based Wild p numbers at = asked check.Base at (IsArea p.second numbers.last) ∷ []
based kind p numbers at = asked check.Base at (IsNotZero p.second) ∷ []

abbrev pub factor_asked : Factor → ℕ → Place → List Asked
factor_asked Any n at = []
factor_asked (Signed least span) n at = asked check.Range at (IsSmall n least span) ∷ []
factor_asked (Unsigned bound) n at = asked check.Range at (IsBelowBound n bound) ∷ []

abbrev pub near : PointerSlots → Direction → Distance → Reach → Place → Asked
near p direction d reach at = asked check.Range at (IsNear p direction d reach.least reach.span)

-- a pointer is settled where its address stays what it is whatever other objects there are: it was made for none, or lies in its own or at
-- its end
abbrev pub settled : Kind → PointerSlots → List Condition
settled Seq p = Unless p.second (IsWithinPart p) ∷ []
settled Wild p = Unless p.second (IsWithinArea p) ∷ []
settled kind p = []

abbrev pub all_asked : Check → Place → List Condition → List Asked
all_asked check at [] = []
all_asked check at (c ∷ cs) = asked check at c ∷ all_asked check at cs

-- `==` and `!=` on pointers of these kinds
abbrev pub equated : Kind → Kind → PointerSlots → PointerSlots → List Condition
equated Seq Seq p q = AreOfPartOr p q (Both (Unless p.second (IsWithinPart p)) (Unless q.second (IsWithinPart q))) ∷ []
equated Wild Wild p q = AreOfAreaOr p q (Both (Unless p.second (IsWithinArea p)) (Unless q.second (IsWithinArea q))) ∷ []
equated kind other p q = settled kind p ++ settled other q

-- two pointers that are ordered are of one part; those of different kinds never are
abbrev pub of_one : Kind → Kind → PointerSlots → PointerSlots → Condition
of_one Seq Seq p q = AreOfPart p q
of_one Wild Wild p q = AreOfArea p q
of_one kind other p q = Never

-- a whole number of elements lies between them: of one byte, or where they are only ordered, nothing is asked
abbrev pub elements_apart : PointerSlots → PointerSlots → Option Fixed → List Condition
elements_apart p q None = []
elements_apart p q (Some size) = if nat_eq size.value 1 then [] else AreElementsApart p q size ∷ []

abbrev pub kept_of : Kind → PointerSlots → PointerSlots → Fixed → Place → List Asked
kept_of Wild source target size at = asked check.Escape at (AreNoDeeper source size.value target.second) ∷ []
kept_of kind source target size at = []

abbrev pub aligned : Kind → PointerSlots → WildNumbers → Place → List Asked
aligned Wild p numbers at = asked check.Align at (IsAligned p.first numbers.seven) ∷ []
aligned kind p numbers at = []

abbrev pub plain_asked : Kind → PointerSlots → Fixed → Place → List Asked
plain_asked Wild p size at = asked check.Tag at (HoldsNoPointer p size.value) ∷ []
plain_asked kind p size at = []

abbrev pub pointer_asked : Kind → PointerSlots → WildNumbers → Place → List Asked
pointer_asked Wild p numbers at = asked check.Tag at (HoldsPointer p numbers.eight) ∷ []
pointer_asked kind p numbers at = []

abbrev pub member_asked : Kind → PointerSlots → Fixed → WildNumbers → ℕ → Reach → Place → List Asked
member_asked Wild p size numbers offset reach at = based Wild p numbers at ++ near p Forward (Bytes offset) reach at ∷ []
member_asked kind p size numbers offset reach at = reached kind p size at

abbrev pub call_asked : Kind → PointerSlots → Fixed → Place → List Asked
call_asked Wild p signature at = asked check.Fun at (IsFunctionOf p signature) ∷ asked check.Depth at (HasRoom p.first) ∷ []
call_asked kind p signature at = asked check.Null at (IsNotZero p.first) ∷ asked check.Depth at (HasRoom p.first) ∷ []

abbrev pub convert_asked : Kind → PointerSlots → Conversion → Place → List Asked
convert_asked Rtti p (Down node) at = asked check.Cast at (Unless p.first (IsMadeFor p.second node)) ∷ []
convert_asked Seq p (Shrink size) at = asked check.Bounds at (UnlessNull p (in_part p size)) ∷ []
convert_asked kind p conversion at = []

-- a pointer of one word to new bytes reaches as many as its type has
abbrev pub allocated : Kind → ℕ → ℕ → Fixed → Place → List Asked
allocated Safe made size needed at = if nat_eq needed.value 0 then [] else asked check.Bounds at (Unless made (IsAtLeast size needed)) ∷ []
allocated Rtti made size needed at = if nat_eq needed.value 0 then [] else asked check.Bounds at (Unless made (IsAtLeast size needed)) ∷ []
allocated kind made size needed at = []

-- what a primitive asks, through a pointer of this kind and at this place
abbrev pub flat_conditions : Op → Kind → Place → List Asked
flat_conditions (ReadInteger p size) kind at = reached kind p size at ++ plain_asked kind p size at
flat_conditions (ReadPointer p size numbers) kind at = reached kind p size at ++ aligned kind p numbers at ++ pointer_asked kind p numbers at
flat_conditions (WriteInteger p size) kind at = reached kind p size at
flat_conditions (WritePointer p size numbers home assignment) kind at =
    reached kind p size at ++ aligned kind p numbers at ++ asked check.Escape assignment (IsNoDeeper home (home_slot kind p)) ∷ []
flat_conditions (CopyPlain source target other size target_at) kind at =
    reached kind source size at ++ plain_asked kind source size at ++ reached other target size target_at
flat_conditions (CopyPointers source target other size numbers target_at assignment) kind at =
    reached kind source size at ++ aligned kind source numbers at ++ reached other target size target_at ++ aligned other target numbers target_at
    ++ kept_of kind source target size assignment
flat_conditions (KeepCell home target) kind at = asked check.Escape at (IsNoDeeper home target) ∷ []
flat_conditions (Member p size numbers offset reach) kind at = member_asked kind p size numbers offset reach at
flat_conditions (Move p direction n factor distance numbers reach) kind at =
    based kind p numbers at ++ factor_asked factor n at ++ near p direction distance reach at ∷ []
flat_conditions (Order p q other numbers apart) kind at =
    based kind p numbers at ++ based other q numbers at ++ all_asked check.Same at (of_one kind other p q ∷ elements_apart p q apart)
flat_conditions (Equate p q other) kind at = all_asked check.Same at (equated kind other p q)
flat_conditions (Call p signature) kind at = call_asked kind p signature at
flat_conditions (ReturnPointer home) kind at = asked check.Escape at (IsNotOwn home) ∷ []
flat_conditions (Convert p conversion) kind at = convert_asked kind p conversion at
flat_conditions (Allocate made size needed) kind at = allocated kind made size needed at
flat_conditions (DivideUnsigned a b) kind at = asked check.Divide at (IsNotZero b) ∷ []
flat_conditions (DivideSigned a b least minus_one) kind at =
    asked check.Divide at (IsNotZero b) ∷ asked check.Divide at (IsNoOverflow a b least minus_one) ∷ []
flat_conditions (EnterMain address) kind at = asked check.Depth at (HasRoom address) ∷ []

-- What adds types keeps that no function type has more than 127 parameters.
use Rattle.std.proofs.Common.{◌≡◌, ℕ, ◌+◌, ◌≤◌, subst, Bool, true, false, List, [], ◌∷◌, ◌++◌, length, Option, Some, None, refl, sym, nat_lt, nat_le, if◌then◌else◌, arith, inl, inr}
use Rattle.std.proofs.lemmas.Bool.Decides.{leb_tells, nat_tests}
use Rattle.std.proofs.lemmas.List.{get_or_past}
use Rattle.std.proofs.lemmas.List.Elements.{All-push, All-set}
use Rattle.cc_base.specs.declared.fault.Fault.TheVariants.{TooLarge}
use Rattle.cc_base.specs.declared.fault.Limit.TheVariants.{Types, Object, Params, Cells}
use Rattle.cc_base.specs.declared.number.NodeId.{NodeId}
use Rattle.cc_base.specs.declared.number.TypeId.{TypeId}
use Rattle.cc_base.specs.declared.place.Place.{Place}
use Rattle.c_types.specs.declared.shape.TypeShape.{TypeShape}
use Rattle.c_types.specs.declared.shape.TypeShape.TheVariants as shape
use Rattle.c_types.specs.Table.{Table, shape_at, void_entry}
use Rattle.c_types.specs.Calls.{basic_entry, new_layout, with_members, defined_layout}
use Rattle.c_tree.specs.declared.operator.AggregateKind.{AggregateKind}
use Rattle.c_tree.specs.declared.operator.AggregateKind.TheVariants as kind
use Rattle.c_typing.specs.Assignments.{is_char_array, string_type}
use Rattle.c_typing.specs.Cells.{count_cells, pointers_in}
use Rattle.c_typing.specs.Declaring.{is_element, array_type, counting_parameters, are_types, function_type, entered, left}
use Rattle.c_typing.specs.Judging.{State, Outcome, Judging, Gives, Stops, next, pure, stop, new_node, type_among, there_or_added, type_with, pointer_type, new_pointer, holding, integer_type}
use Rattle.c_typing.specs.Scopes.{leaving}
use Rattle.c_typing.specs.Specifying.{in_scopes, is_definable, defined}
use Rattle.c_typing.specs.Typing.{shape_of_kind}
use Rattle.c_typing.specs.Integers.{char}
use Rattle.c_unit_typing.specs.Limits.{parameters_of_shape}
use Rattle.c_unit_limits.specs.Few.{HasFewParameters, AreFew}
use Rattle.c_unit_limits.proofs.Kept.{Kept, IsKept, pure-kept, bind-kept}

-- by a test
if_kept : {A : Type 0} (b : Bool) (m k : Outcome A) (s : State) → Kept m s → Kept k s → Kept (if b then m else k) s
if_kept true m k s h g = h
if_kept false m k s h g = g

pub scopes-kept : {A : Type 0} (change : _) (a : A) → IsKept (in_scopes change a)
scopes-kept change a = record { kept = λ s. (λ h. h, refl) }

pub new_node-kept : (at : Place) → IsKept (new_node at)
unfolding new_node
new_node-kept at = record { kept = λ s. if_kept (nat_lt s.seen.node 4294967295) (Gives (_) (_)) (Stops (TooLarge at Types) s) s (λ h. h, refl) tt }

pub holding-kept : (at : Place) (n : ℕ) → IsKept (holding at n)
unfolding holding
holding-kept at n = record { kept = λ s. if_kept (nat_lt 256 n) (Stops (_) s) (Gives n s) s tt (λ h. h, refl) }

type_kept : (at : Place) (x : TypeShape) → parameters_of_shape x ≤ 127 → (s : State) (o : Option TypeId) → Kept (there_or_added at x s o) s
type_kept at x few s (Some t) = (λ h. h, refl)
type_kept at x few s None =
    if_kept (nat_lt (length s.table) 16384)
    (if nat_le (new_layout s.table x).size 1048576 then Gives (record { 0 = length s.table }) (record s { table = s.table ++ basic_entry x ∷ [] }) else Stops (TooLarge at Object) s)
    (Stops (TooLarge at Types) s) s
    (if_kept (nat_le (new_layout s.table x).size 1048576) (Gives (record { 0 = length s.table }) (record s { table = s.table ++ basic_entry x ∷ [] })) (Stops (TooLarge at Object) s) s
    (λ h. (All-push HasFewParameters s.table (basic_entry x) h.0 few, h.1, h.2), refl) tt) tt

pub type_with-kept : (at : Place) (x : TypeShape) → parameters_of_shape x ≤ 127 → IsKept (type_with at x)
unfolding type_with
type_with-kept at x few = record { kept = λ s. type_kept at x few s (type_among 0 s.table x) }

none_few : 0 ≤ 127
none_few = omega arith

pub pointer_type-kept : (at : Place) (n : NodeId) (to : TypeId) → IsKept (pointer_type at n to)
unfolding pointer_type
pointer_type-kept at n to = record {
  kept = λ s.
      if_kept (nat_lt to.0 (length s.table)) (type_with at (shape.Pointer n to) s) (Stops (TooLarge at Types) s) s ((type_with-kept at (shape.Pointer n to) none_few).kept s) tt;
}

pub new_pointer-kept : (at : Place) (to : TypeId) → IsKept (new_pointer at to)
unfolding new_pointer
new_pointer-kept at to = bind-kept (new_node-kept at) (λ n. bind-kept (pointer_type-kept at n to) (λ t. pure-kept (_)))

pub array_type-kept : (at : Place) (element : TypeId) (count : ℕ) → IsKept (array_type at element count)
unfolding array_type
array_type-kept at element count = record {
  kept = λ s.
      if_kept (is_element s.table element count) (type_with at (shape.Array element count) s) (Stops (TooLarge at Types) s) s ((type_with-kept at (shape.Array element count) none_few).kept s) tt;
}

pub string_type-kept : (at : Place) (count : ℕ) → IsKept (string_type at count)
unfolding string_type
string_type-kept at count = record {
  kept = λ s.
      if_kept (is_char_array s.table count) (type_with at (shape.Array (integer_type char) count) s) (Stops (TooLarge at Types) s) s
      ((type_with-kept at (shape.Array (integer_type char) count) none_few).kept s) tt;
}

kind_few : (which : AggregateKind) (number : ℕ) → parameters_of_shape (shape_of_kind which number) ≤ 127
kind_few kind.Struct number = none_few
kind_few kind.Union number = none_few

pub aggregate_type-kept : (at : Place) (which : AggregateKind) (number : ℕ) → IsKept (type_with at (shape_of_kind which number))
aggregate_type-kept at which number = type_with-kept at (shape_of_kind which number) (kind_few which number)

few_when : (n : ℕ) → nat_lt 127 n ≡ false → n ≤ 127
few_when n h = grind (arith, nat_tests)

-- a function type with more stops, whether it was added or not
function_kept : (at : Place) (parameters : List TypeId) (result : TypeId) (s : State) → Kept (next (type_with at (shape.Function parameters result) s) (counting_parameters at parameters)) s
unfolding counting_parameters
function_kept at parameters result s = counts (nat_lt 127 (length parameters)) refl (few_when (length parameters))
  where
    go : Bool → TypeId → Judging TypeId
    go b t = if b then stop (TooLarge at Params) else pure t

    stopped : (m : Outcome TypeId) → Kept (next m (go true)) s
    stopped (Gives t r) = tt
    stopped (Stops f r) = tt

    counts : (b : Bool) → (nat_lt 127 (length parameters) ≡ b) → (b ≡ false → length parameters ≤ 127) → Kept (next (type_with at (shape.Function parameters result) s) (go b)) s
    counts true e few = stopped (type_with at (shape.Function parameters result) s)
    counts false e few = (bind-kept (type_with-kept at (shape.Function parameters result) (few refl)) (λ t. pure-kept t)).kept s

pub function_type-kept : (at : Place) (parameters : List TypeId) (result : TypeId) → IsKept (function_type at parameters result)
unfolding function_type
function_type-kept at parameters result = record {
  kept = λ s.
      if_kept (are_types s.table (result ∷ parameters)) (next (type_with at (shape.Function parameters result) s) (counting_parameters at parameters)) (Stops (TooLarge at Types) s) s
      (function_kept at parameters result s) tt;
}

shape_few : (T : Table) (t : TypeId) → AreFew T → parameters_of_shape (shape_at T t) ≤ 127
shape_few T t h = elim (leb_tells (length T) t.0) [
  | inl past ↦ subst HasFewParameters (sym (get_or_past T t.0 void_entry past.1)) none_few
  | inr below ↦ h t.0 void_entry below.1
]

pub defined-kept : (at : Place) (t : TypeId) (members : List TypeId) → IsKept (defined at t members)
unfolding defined
defined-kept at t members = record {
  kept = λ s.
      if_kept (is_definable s.table t members)
      (if nat_le (defined_layout s.table t members).size 1048576 then Gives t (record s { table = with_members s.table t members }) else Stops (TooLarge at Object) s)
      (Stops (TooLarge at Types) s) s
      (if_kept (nat_le (defined_layout s.table t members).size 1048576) (Gives t (record s { table = with_members s.table t members })) (Stops (TooLarge at Object) s) s
      (λ h. (All-set HasFewParameters s.table t.0 (record { shape = shape_at s.table t; members = members }) (shape_few s.table t h.0) h.0, h.1, h.2), refl) tt) tt;
}

few_cells : (n : ℕ) → nat_le n 65536 ≡ true → n ≤ 65536
few_cells n h = grind (arith, nat_tests)

pub count_cells-kept : (at : Place) (t : TypeId) → IsKept (count_cells at t)
unfolding count_cells
count_cells-kept at t = record { kept = λ s. by s (nat_le (s.seen.cells + pointers_in s.table t) 65536) (few_cells (s.seen.cells + pointers_in s.table t)) }
  where
    by : (s : State) (b : Bool) → (b ≡ true → s.seen.cells + pointers_in s.table t ≤ 65536)
        → Kept (if b then Gives t (record s { seen = record s.seen { cells = s.seen.cells + pointers_in s.table t } }) else Stops (TooLarge at Cells) s) s
    by s true le = (λ h. (h.0, h.1, le refl), refl)
    by s false le = tt

pub left-kept : {A : Type 0} (at : Place) (a : A) → IsKept (left at a)
unfolding left
left-kept at a = record { kept = λ s. if_kept (nat_lt 1 (length s.seen.scopes.levels)) (in_scopes leaving a s) (Stops (TooLarge at Types) s) s (λ h. h, refl) tt }

pub entered-kept : IsKept entered
unfolding entered
entered-kept = record { kept = λ s. (λ h. h, refl) }

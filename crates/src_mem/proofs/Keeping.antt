-- What every operation on memory leaves true, all that is made of operations leaves true.
use Rattle.std.proofs.Common.{◌≡◌, ℕ, zero, suc, length, ℤ, Bool, true, false, List, [], ◌∷◌, slice_get, Option, None, Some, refl}
use Rattle.cc_base.specs.declared.place.Place.{Place}
use Rattle.cc_base.specs.declared.number.TypeId.{TypeId}
use Rattle.cc_base.specs.declared.number.NodeId.{NodeId}
use Rattle.cc_base.specs.declared.kind.Kind.{Kind}
use Rattle.cc_base.specs.declared.kind.Kind.TheVariants.{Safe, Seq, Rtti, Wild}
use Rattle.c_types.specs.declared.shape.TypeShape.{TypeShape}
use Rattle.c_types.specs.declared.shape.TypeShape.TheVariants as shape
use Rattle.c_types.specs.Table.{shape_at}
use Rattle.c_types.specs.Layouts.{size_of}
use Rattle.integers.specs.Arithmetic as integer
use Rattle.integers.specs.Arithmetic.{IntegerType, Operator}
use Rattle.runs.specs.Outcome.{Outcome, Ended, Done, done, ends, allowed, either, from, ◌>>=◌, ◌>>◌}
use Rattle.src_mem.specs.Pointers.{Pointer, Null, Number, At, Function, Value, Integer, Address}
use Rattle.src_mem.specs.Memory.{Planned}
use Rattle.src_mem.specs.State.{Ending, State, Act, Setting, Defined, wrong, given, as_integer, as_pointer}
use Rattle.src_mem.specs.Checks.{Condition, Outlives, Used, Keep, conditions_of, checked, all_placed, all_checked, holds}
use Rattle.src_mem.specs.Primitives.{load_integer, load_pointer, address, move, difference, is_before, integer_from, allocate_elements, called}
use Rattle.src_mem.specs.Runtime.{malloc, calloc, free, getchar, putchar, exits}
use Rattle.src_mem.specs.Uses.{forward, home, pointers_behind, read_shape, store, store_shape, write, load_pointers, keep_pointers, copy_all, store_arguments, enter_with}
use Rattle.src_mem.specs.Operations.{calculate, moved, subtracted, equated, order_of, compared, converted_pointer, member, decayed}
use Rattle.src_mem.specs.Runs.{Calls, Body, Callable, call_body, call_within}
use Rattle.src_mem.specs.Laws.{Keeps, IsInvariant, left_by}

-- Acts in general

pub keep_done : {A : Type 0} (P : State → Type 0) (a : A) → Keeps P (done a)
keep_done P a = record { by = λ s h. h }

pub keep_ends : {A : Type 0} (P : State → Type 0) (e : Ending) → Keeps {A = A} P (ends e)
keep_ends P e = record { by = λ s h. h }

pub keep_wrong : {A : Type 0} (P : State → Type 0) → Keeps {A = A} P wrong
keep_wrong P = record { by = λ s h. h }

pub keep_bind : {A B : Type 0} {P : State → Type 0} {m : Act A} {f : A → Act B} → Keeps P m → ((a : A) → Keeps P (f a)) → Keeps P (m >>= f)
keep_bind {A} {B} {P} {m} {f} km kf = record { by = λ s h. go (m s) (km.by s h) }
  where
    go : (o : Outcome Ending State A) → P (left_by o) → P (left_by (from o f))
    go (Ended e s) h = h
    go (Done a s) h = (kf a).by s h

pub keep_then : {A B : Type 0} {P : State → Type 0} {m : Act A} {n : Act B} → Keeps P m → Keeps P n → Keeps P (m >> n)
keep_then {A} {B} {P} {m} {n} km kn = record { by = λ s h. go (m s) (km.by s h) }
  where
    go : (o : Outcome Ending State A) → P (left_by o) → P (left_by (from o (λ a. n)))
    go (Ended e s) h = h
    go (Done a s) h = kn.by s h

pub keep_either : {A : Type 0} {P : State → Type 0} (b : Bool) {m n : Act A} → Keeps P m → Keeps P n → Keeps P (either b m n)
keep_either true km kn = km
keep_either false km kn = kn

pub keep_allowed : {A : Type 0} {P : State → Type 0} (b : Bool) (e : Ending) {m : Act A} → Keeps P m → Keeps P (allowed b e m)
keep_allowed true e km = km
keep_allowed {A} {P} false e km = keep_ends P e

pub keep_given : {A B : Type 0} {P : State → Type 0} (r : Option A) {f : A → Act B} → ((a : A) → Keeps P (f a)) → Keeps P (given r f)
keep_given {A} {B} {P} None kf = keep_wrong P
keep_given (Some a) kf = kf a

-- an act that is chosen by the state
pub keep_chosen : {A : Type 0} {P : State → Type 0} (f : State → Act A) → ((s : State) → Keeps P (f s)) → Keeps P (λ s. f s s)
keep_chosen f kf = record { by = λ s h. (kf s).by s h }

pub keep_integer : (P : State → Type 0) (v : Value) → Keeps P (as_integer v)
keep_integer P (Integer z) = keep_done P z
keep_integer P (Address p) = keep_wrong P

pub keep_pointer : (P : State → Type 0) (v : Value) → Keeps P (as_pointer v)
keep_pointer P (Integer z) = keep_wrong P
keep_pointer P (Address p) = keep_done P p

-- Conditions

pub keep_checked : (P : State → Type 0) (w : Setting) (place : Place) (c : Condition) → Keeps P (checked w place c)
keep_checked P w place c = keep_chosen (λ s. allowed (holds w s.memory c) _ (done tt)) (λ s. keep_allowed (holds w s.memory c) _ (keep_done P tt))

pub keep_placed : (P : State → Type 0) (w : Setting) (place : Condition → Place) (cs : List Condition) → Keeps P (all_placed w place cs)
keep_placed P w place [] = keep_done P tt
keep_placed P w place (c ∷ cs) = keep_then (keep_checked P w (place c) c) (keep_placed P w place cs)

pub keep_all : (P : State → Type 0) (w : Setting) (place : Place) (cs : List Condition) → Keeps P (all_checked w place cs)
keep_all P w place cs = keep_placed P w (λ c. place) cs

pub ruleset acts = (keep_done, keep_wrong, keep_ends, keep_bind, keep_then, keep_either, keep_allowed, keep_given, keep_checked, keep_placed, keep_all, keep_integer, keep_pointer)

module _ {P : State → Type 0} (I : IsInvariant P) where
  -- Primitives

  pub keep_load_integer : (kind : Kind) (t : IntegerType) (p : Pointer) → Keeps P (load_integer kind t p)
  keep_load_integer = I.integer_loaded

  pub keep_load_pointer : (kind : Kind) (p : Pointer) → Keeps P (load_pointer kind p)
  keep_load_pointer = I.pointer_loaded

  pub keep_address : (kind : Kind) (n m : ℕ) (t : TypeId) (p : Pointer) → Keeps P (address kind n m t p)
  keep_address kind n m t Null = keep_wrong P
  keep_address kind n m t (Number k) = keep_wrong P
  keep_address kind n m t (At l) = keep_chosen _ (λ s. keep_given _ (λ part. keep_done P _))
  keep_address kind n m t (Function f) = keep_wrong P

  pub keep_move : (size : ℕ) (n : ℤ) (p : Pointer) → Keeps P (move size n p)
  keep_move size n Null = keep_wrong P
  keep_move size n (Number k) = keep_wrong P
  keep_move size n (At l) = keep_done P _
  keep_move size n (Function f) = keep_wrong P

  pub keep_difference : (size : ℕ) (p q : Pointer) → Keeps P (difference size p q)
  keep_difference size Null q = keep_wrong P
  keep_difference size (Number k) q = keep_wrong P
  keep_difference size (Function f) q = keep_wrong P
  keep_difference size (At k) Null = keep_wrong P
  keep_difference size (At k) (Number n) = keep_wrong P
  keep_difference size (At k) (At l) = keep_done P _
  keep_difference size (At k) (Function f) = keep_wrong P

  pub keep_is_before : (p q : Pointer) → Keeps P (is_before p q)
  keep_is_before Null q = keep_wrong P
  keep_is_before (Number k) q = keep_wrong P
  keep_is_before (Function f) q = keep_wrong P
  keep_is_before (At k) Null = keep_wrong P
  keep_is_before (At k) (Number n) = keep_wrong P
  keep_is_before (At k) (At l) = keep_done P _
  keep_is_before (At k) (Function f) = keep_wrong P

  pub keep_integer_from : (p : Pointer) → Keeps P (integer_from p)
  keep_integer_from Null = keep_done P _
  keep_integer_from (Number n) = keep_done P _
  keep_integer_from (At l) = keep_wrong P
  keep_integer_from (Function f) = keep_wrong P

  pub keep_called : (p : Pointer) (next : ℕ → Act Value) → ((f : ℕ) → Keeps P (next f)) → Keeps P (called p next)
  keep_called Null next kn = keep_wrong P
  keep_called (Number n) next kn = keep_wrong P
  keep_called (At l) next kn = keep_wrong P
  keep_called (Function f) next kn = kn f

  -- Reads, writes and copies

  pub keep_read : (w : Setting) (place : Place) (k : Kind) (s : TypeShape) (p : Pointer) → Keeps P (read_shape w place k s p)
  keep_read w place k (shape.Integer bytes signed) p = search (acts, keep_load_integer)
  keep_read w place k (shape.Pointer n u) p = search (acts, keep_load_pointer)
  keep_read w place k shape.Void p = keep_wrong P
  keep_read w place k (shape.Array a n) p = keep_wrong P
  keep_read w place k (shape.Function ps r) p = keep_wrong P
  keep_read w place k (shape.Struct n) p = keep_wrong P
  keep_read w place k (shape.Union n) p = keep_wrong P

  pub keep_store : (k : Kind) (s : TypeShape) (p : Pointer) (v : Value) → Keeps P (store_shape k s p v)
  keep_store k (shape.Integer bytes signed) p (Integer z) = I.integer_stored k (record { bytes = bytes; signed = signed }) p z
  keep_store k (shape.Integer bytes signed) p (Address q) = keep_wrong P
  keep_store k (shape.Pointer n u) p (Integer z) = keep_wrong P
  keep_store k (shape.Pointer n u) p (Address q) = I.pointer_stored k p q
  keep_store k shape.Void p v = keep_wrong P
  keep_store k (shape.Array a n) p v = keep_wrong P
  keep_store k (shape.Function ps r) p v = keep_wrong P
  keep_store k (shape.Struct n) p v = keep_wrong P
  keep_store k (shape.Union n) p v = keep_wrong P

  pub keep_write : (w : Setting) (own assignment : Place) (k : Kind) (t : TypeId) (p : Pointer) (v : Value) → Keeps P (write w own assignment k t p v)
  keep_write w own assignment k t p v = search (acts, keep_store)

  keep_loads : (w : Setting) (place : Place) (k : Kind) (source target : Pointer) (is : List ℕ) → Keeps P (load_pointers w place k source target is)
  keep_loads w place k source target [] = keep_done P tt
  keep_loads w place k source target (i ∷ is) =
      keep_bind {m = load_pointer k (forward i source)} (keep_load_pointer k (forward i source))
      (λ q. keep_then {m = checked w place (Outlives target q)} (keep_checked P w place (Outlives target q)) (keep_loads w place k source target is))

  keep_pointers_kept : (w : Setting) (place : Place) (k : Kind) (source target : Pointer) (t : TypeId) → Keeps P (keep_pointers w place k source target t)
  keep_pointers_kept w place Wild source target t =
      keep_chosen (λ s. all_checked w place (conditions_of (Keep (pointers_behind s.memory.objects source (size_of w.table t))) Wild target)) (λ s. keep_all P w place (conditions_of (Keep (pointers_behind s.memory.objects source (size_of w.table t))) Wild target))
  keep_pointers_kept w place Safe source target t = keep_loads w place Safe source target _
  keep_pointers_kept w place Seq source target t = keep_loads w place Seq source target _
  keep_pointers_kept w place Rtti source target t = keep_loads w place Rtti source target _

  pub keep_copy : (w : Setting) (t : TypeId) (sp : Place) (from_kind : Kind) (source : Pointer) (tp : Place) (to_kind : Kind) (target : Pointer) (place : Place)
      → Keeps P (copy_all w t sp from_kind source tp to_kind target place)
  keep_copy w t sp from_kind source tp to_kind target place = search (acts, keep_pointers_kept, I.copied)

  -- Operations by type

  pub keep_calculate : (w : Setting) (at : Place) (operator : Operator) (t : IntegerType) (x y : ℤ) → Keeps P (calculate w at operator t x y)
  keep_calculate w at operator t x y = search (keep_then, keep_either, keep_checked, keep_done)

  pub keep_moved : (w : Setting) (at : Place) (t : TypeId) (n : ℤ) (p : Pointer) → Keeps P (moved w at t n p)
  keep_moved w at t n p = search (keep_then, keep_all, keep_move)

  pub keep_subtracted : (w : Setting) (at : Place) (t : TypeId) (p : Pointer) (q : Used) → Keeps P (subtracted w at t p q)
  keep_subtracted w at t p q = search (acts, keep_difference)

  keep_equated : (w : Setting) (at : Place) (p q : Used) → Keeps P (equated w at p q)
  keep_equated w at p q = search (acts, keep_done)

  keep_order : (operator : Operator) (p q : Pointer) → Keeps P (order_of operator p q)
  keep_order integer.Less p q = keep_is_before p q
  keep_order integer.Greater p q = keep_is_before q p
  keep_order integer.LessOrEqual p q = keep_bind (keep_is_before q p) (λ after. keep_done P _)
  keep_order integer.GreaterOrEqual p q = keep_bind (keep_is_before p q) (λ before. keep_done P _)
  keep_order operator p q = keep_wrong P

  pub keep_compared : (w : Setting) (at : Place) (operator : Operator) (p q : Used) → Keeps P (compared w at operator p q)
  keep_compared w at integer.Equal p q = keep_equated w at p q
  keep_compared w at integer.Different p q = search (acts, keep_equated)
  keep_compared w at operator p q = search (acts, keep_order)

  pub keep_converted : (w : Setting) (at : Place) (t u : TypeId) (p : Pointer) → Keeps P (converted_pointer w at t u p)
  keep_converted w at t u p = search (acts, keep_done)

  pub keep_member : (w : Setting) (at : Place) (kind : Kind) (t : TypeId) (i : ℕ) (node : NodeId) (u : TypeId) (p : Pointer) → Keeps P (member w at kind t i node u p)
  keep_member w at kind t i node u p = search (acts, keep_address)

  pub keep_decayed : (w : Setting) (at : Place) (kind : Kind) (array : TypeId) (check : Bool) (node : NodeId) (element : TypeId) (p : Pointer) → Keeps P (decayed w at kind array check node element p)
  keep_decayed w at kind array check node element p = search (acts, keep_address)

  -- Calls

  keep_arguments : (w : Setting) (number : ℕ) (xs : List Planned) (vs : List Value) → Keeps P (store_arguments w number xs vs)
  keep_arguments w number xs [] = keep_done P tt
  keep_arguments w number [] (v ∷ vs) = keep_wrong P
  keep_arguments w number (x ∷ xs) (v ∷ vs) =
      keep_then {m = store w (w.kind x.node) x.type (home w.table number x.type) v}
      (keep_store (w.kind x.node) (shape_at w.table x.type) (home w.table number x.type) v) (keep_arguments w (suc number) xs vs)

  keep_enter : (w : Setting) (depth f : ℕ) (variables : List Planned) (vs : List Value) → Keeps P (enter_with w depth f variables vs)
  keep_enter w depth f variables vs = keep_chosen _ (λ s. keep_then (I.entered w depth f variables) (keep_arguments w (length s.memory.objects) variables vs))

  pub keep_call : (w : Setting) (call : Calls) (f depth : ℕ) (vs : List Value) (d : Defined) (body : Body)
      → ((depth first : ℕ) (none : Value) → Keeps P (body depth first call none)) → Keeps P (call_body w call f depth vs d body)
  keep_call w call f depth vs d body kb =
      keep_chosen _ (λ s. keep_then (keep_enter w depth f d.variables vs) (keep_bind (kb depth (length s.memory.objects) _) (λ v. keep_then (I.left w depth d.variables) (keep_done P v))))

  -- the calls of functions whose bodies keep it, where their own calls do
  pub keep_calls : (w : Setting) (functions : List Callable)
      → ((f : ℕ) (c : Callable) → slice_get functions f ≡ Some c → (call : Calls) → ((g depth : ℕ) (vs : List Value) → Keeps P (call g depth vs)) → (depth first : ℕ) (none : Value) → Keeps P (c.body depth first call none))
      → (n f depth : ℕ) (vs : List Value) → Keeps P (call_within n w functions f depth vs)
  keep_calls w functions kb zero f depth vs = keep_ends P _
  keep_calls w functions kb (suc n) f depth vs = keep_then I.turned (given_one (slice_get functions f) refl (keep_calls w functions kb n))
    where
      given_one : (r : Option Callable) → slice_get functions f ≡ r → ((g d : ℕ) (us : List Value) → Keeps P (call_within n w functions g d us))
          → Keeps P (given r (λ c. call_body w (call_within n w functions) f depth (c.named vs) c.defined c.body))
      given_one None e kc = keep_wrong P
      given_one (Some c) e kc = keep_call w (call_within n w functions) f depth (c.named vs) c.defined c.body (kb f c e (call_within n w functions) kc)

  -- Runtime functions

  pub keep_malloc : (w : Setting) (node : NodeId) (t : TypeId) (vs : List Value) → Keeps P (malloc w node t vs)
  keep_malloc w node t [] = keep_wrong P
  keep_malloc w node t (Integer n ∷ []) = search (acts, I.allocated)
  keep_malloc w node t (Integer n ∷ v ∷ vs) = keep_wrong P
  keep_malloc w node t (Address p ∷ vs) = keep_wrong P

  keep_elements : (w : Setting) (node : NodeId) (t : TypeId) (a b : ℕ) → Keeps P (allocate_elements w node t a b)
  keep_elements w node t a b = search (acts, I.allocated)

  pub keep_calloc : (w : Setting) (node : NodeId) (t : TypeId) (vs : List Value) → Keeps P (calloc w node t vs)
  keep_calloc w node t [] = keep_wrong P
  keep_calloc w node t (Integer a ∷ []) = keep_wrong P
  keep_calloc w node t (Integer a ∷ Integer b ∷ []) = search (acts, keep_elements)
  keep_calloc w node t (Integer a ∷ Integer b ∷ v ∷ vs) = keep_wrong P
  keep_calloc w node t (Integer a ∷ Address p ∷ vs) = keep_wrong P
  keep_calloc w node t (Address p ∷ vs) = keep_wrong P

  pub keep_free : (vs : List Value) → Keeps P (free vs)
  keep_free [] = keep_wrong P
  keep_free (v ∷ []) = search (acts)
  keep_free (v ∷ u ∷ vs) = keep_wrong P

  pub keep_getchar : (vs : List Value) → Keeps P (getchar vs)
  keep_getchar [] = search (acts, I.read)
  keep_getchar (v ∷ vs) = keep_wrong P

  pub keep_putchar : (vs : List Value) → Keeps P (putchar vs)
  keep_putchar [] = keep_wrong P
  keep_putchar (Integer z ∷ []) = search (acts, I.written)
  keep_putchar (Integer z ∷ v ∷ vs) = keep_wrong P
  keep_putchar (Address p ∷ vs) = keep_wrong P

  pub keep_exits : (vs : List Value) → Keeps P (exits vs)
  keep_exits [] = keep_wrong P
  keep_exits (Integer z ∷ []) = search (acts)
  keep_exits (Integer z ∷ v ∷ vs) = keep_wrong P
  keep_exits (Address p ∷ vs) = keep_wrong P

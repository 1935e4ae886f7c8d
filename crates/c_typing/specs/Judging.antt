-- How the parts of a text are judged one after another: what a part gives, or where it stops, from what is known before it. Clauses
-- inside the crate cite this; laws say that what is given is well typed, and that what is refused breaks the rule that is named.
use Rattle.std.specs.Prelude.{◌≡◌, ◌≢◌, ℕ, ◌+◌, Bool, ◌==◌, ◌&&◌, true, false, nat_lt, nat_le, [], ◌∷◌, ◌++◌, length, Option, Some, None, Result, Ok, Err, if◌then◌else◌}
use lib.Pointwise.{pointwise}
use Rattle.cc_base.specs.declared.place.Place.{Place}
use Rattle.cc_base.specs.declared.number.NodeId.{NodeId}
use Rattle.cc_base.specs.declared.number.TypeId.{TypeId}
use Rattle.cc_base.specs.declared.fault.Fault.{Fault}
use Rattle.cc_base.specs.declared.fault.Fault.TheVariants.{TooLarge, NoMemory}
use Rattle.cc_base.specs.declared.fault.Limit.TheVariants.{Held, Types, Object}
use Rattle.c_types.specs.declared.shape.TypeShape.{TypeShape}
use Rattle.c_types.specs.declared.shape.TypeShape.TheVariants as shape
use Rattle.c_types.specs.Table.{Table}
use Rattle.c_types.specs.Calls.{basic_entry, new_layout}
use Rattle.c_types.specs.Equality.{same_bool}
use Rattle.integers.specs.Arithmetic.{IntegerType}
use Rattle.c_typing.specs.Scopes.{Seen}

infixr 20 ◌>>=◌
infixr 20 ◌>>◌
-- What is known where a part is judged: the types, and what a `Scope` holds.
pub record State : Type 0 where
  pub table : Table
  pub seen : Seen

abbrev pub known : Table → Seen → State
known table seen = record { table = table; seen = seen }

-- what a part gives, and what is known after it; or why it stops, and what is known there
pub data Outcome (A : Type 0) : Type 0 where
  Gives : A → State → Outcome A
  Stops : Fault → State → Outcome A

abbrev pub Judging : Type 0 → Type 0
Judging A = State → Outcome A

-- how an outcome goes on: a stop stays
abbrev pub next : {A B : Type 0} → Outcome A → (A → Judging B) → Outcome B
next (Gives a s) f = f a s
next (Stops fault s) f = Stops fault s

abbrev pub ◌>>=◌ : {A B : Type 0} → Judging A → (A → Judging B) → Judging B
◌>>=◌ p f = λ s. next (p s) f

abbrev pub ◌>>◌ : {A B : Type 0} → Judging A → Judging B → Judging B
◌>>◌ p q = λ s. next (p s) (λ _. q)

abbrev pub pure : {A : Type 0} → A → Judging A
pure a = λ s. Gives a s

abbrev pub stop : {A : Type 0} → Fault → Judging A
stop fault = λ s. Stops fault s

-- a fault that was found stops
abbrev pub unless : {A : Type 0} → Option Fault → Judging A → Judging A
unless None go = go
unless (Some fault) go = stop fault

-- by what is known
abbrev pub by_known : {A : Type 0} → (State → Judging A) → Judging A
by_known f = λ s. f s s

-- What a call of the code answers: want of memory apart, the outcome.
abbrev pub Answers : {A B : Type 0} → (B → A) → Outcome A → Result B Fault → State → Type 0
Answers view outcome (Ok b) after = outcome ≡ Gives (view b) after
Answers view outcome (Err fault) after = fault ≢ NoMemory → outcome ≡ Stops fault after

-- Nodes

-- the next node; there are no more than 32 bits can number
unfoldable pub new_node : Place → Judging NodeId
new_node at = λ s. if nat_lt s.seen.node 4294967295
    then Gives (record { 0 = s.seen.node }) (record s { seen = record s.seen { node = s.seen.node + 1 } })
    else Stops (TooLarge at Types) s

-- Types

-- two shapes are one, nodes included
abbrev pub is_shape : TypeShape → TypeShape → Bool
is_shape shape.Void shape.Void = true
is_shape (shape.Integer a s) (shape.Integer b r) = (a == b) && same_bool s r
is_shape (shape.Pointer n t) (shape.Pointer m u) = (n.0 == m.0) && (t.0 == u.0)
is_shape (shape.Array t a) (shape.Array u b) = (t.0 == u.0) && (a == b)
is_shape (shape.Function ps r) (shape.Function qs q) = pointwise (λ x y. x.0 == y.0) ps qs && (r.0 == q.0)
is_shape (shape.Struct a) (shape.Struct b) = a == b
is_shape (shape.Union a) (shape.Union b) = a == b
is_shape x y = false

-- the first type with the shape, among types of which the first has the number i
abbrev pub type_among : ℕ → Table → TypeShape → Option TypeId
type_among i [] x = None
type_among i (e ∷ es) x = if is_shape e.shape x then Some (record { 0 = i }) else type_among (i + 1) es x

-- a type that is there, or else one that is added; a limit is named at the place
abbrev pub there_or_added : Place → TypeShape → State → Option TypeId → Outcome TypeId
there_or_added at x s (Some t) = Gives t s
there_or_added at x s None =
    if nat_lt (length s.table) 16384
    then (if nat_le (new_layout s.table x).size 1048576
    then Gives (record { 0 = length s.table }) (record s { table = s.table ++ basic_entry x ∷ [] })
    else Stops (TooLarge at Object) s)
    else Stops (TooLarge at Types) s

-- the type with the shape, which is added where there is none
unfoldable pub type_with : Place → TypeShape → Judging TypeId
type_with at x = λ s. there_or_added at x s (type_among 0 s.table x)

-- the pointer type with this node to a type of the table
unfoldable pub pointer_type : Place → NodeId → TypeId → Judging TypeId
pointer_type at n to = λ s. if nat_lt to.0 (length s.table) then type_with at (shape.Pointer n to) s else Stops (TooLarge at Types) s

-- A node and the pointer type that has it.
pub record Pointing : Type 0 where
  pub node : NodeId
  pub type : TypeId

-- a pointer type with a node of its own
unfoldable pub new_pointer : Place → TypeId → Judging Pointing
new_pointer at to = do
  n ← new_node at
  t ← pointer_type at n to
  pure (record { node = n; type = t })

-- The types that each table begins with

abbrev pub void_type : TypeId
void_type = record { 0 = 0 }

abbrev pub integer_number : ℕ → Bool → ℕ
integer_number bytes signed =
    if bytes == 1 then (if signed then 1 else 2)
    else (if bytes == 2 then (if signed then 3 else 4)
    else (if bytes == 4 then (if signed then 5 else 6)
    else (if signed then 7 else 8)))

abbrev pub integer_type : IntegerType → TypeId
integer_type k = record { 0 = integer_number k.bytes k.signed }

-- Values held at once: no more than 256

unfoldable pub holding : Place → ℕ → Judging ℕ
holding at n = λ s. if nat_lt 256 n then Stops (TooLarge at Held) s else Gives n s

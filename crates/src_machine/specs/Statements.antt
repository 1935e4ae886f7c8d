-- What initialisers, declarations and statements do (C99 6.7.8, 6.8).
use Rattle.std.specs.Prelude.{ℕ, suc, ◌+◌, ℤ, pos, Bool, true, false, List, [], ◌∷◌, Option, None, Some, nat_le, if◌then◌else◌}
use Rattle.std.specs.Ordering.{int_eq}
use Rattle.cc_base.specs.declared.place.Place.{Place}
use Rattle.cc_base.specs.declared.number.NodeId.{NodeId}
use Rattle.cc_base.specs.declared.number.TypeId.{TypeId}
use Rattle.c_types.specs.declared.shape.TypeShape.{TypeShape}
use Rattle.c_types.specs.declared.shape.TypeShape.TheVariants as shape
use Rattle.c_types.specs.Table.{Table, shape_at}
use Rattle.c_tree.specs.declared.typed_word.Home.{Home}
use Rattle.c_tree.specs.declared.typed_word.Home.TheVariants as home
use Rattle.integers.specs.Arithmetic.{converted}
use Rattle.src_mem.specs.Primitives.{clear}
use Rattle.src_mem.specs.Uses as uses
use Rattle.src_mem.specs.Uses.{forward}
use Rattle.runs.specs.Outcome.{done, either, ◌>>=◌, ◌>>◌}
use Rattle.runs.specs.Control.{Control, Goes, Leaves, Gives, then_go, rounds}
use Rattle.c_tree.specs.TypedTree as typed
use Rattle.c_tree.specs.TypedTree.{TypedExpr, TypedPlace, TypedInitialiser, TypedItems, TypedInitDeclarators, TypedDeclarator, TypedDeclaration, TypedStatement, TypedBlockItems}
use Rattle.c_tree.specs.TypedParts.{type_of, place_at, item_place, declared_type, home_of}
use Rattle.src_mem.specs.Pointers.{Pointer, Value, Integer, Address, is_true}
use Rattle.src_mem.specs.State.{Act, Turns, given, as_integer, turn}
use Rattle.src_mem.specs.Operations.{integer_in}
use Rattle.src_mem.specs.Values.{stored, copied, returned}
use Rattle.src_machine.specs.World.{World, object_of}
use Rattle.src_machine.specs.Expressions.{eval, locate}

-- Initialisers

-- whether an initialiser first sets its whole object to zero: a list in braces does, unless it is the value of a scalar, and so does a string
-- literal for an array of char
abbrev pub is_aggregate_shape : TypeShape → Bool
is_aggregate_shape (shape.Array element count) = true
is_aggregate_shape (shape.Struct tag) = true
is_aggregate_shape (shape.Union tag) = true
is_aggregate_shape other = false

abbrev pub clears : Table → TypedInitialiser → Bool
clears table (typed.Value e) = false
clears table (typed.Copied p at) = false
clears table (typed.Text pieces bytes) = true
clears table (typed.Listed brace items comma t) = is_aggregate_shape (shape_at table t)

-- the element type of an array
abbrev pub element_of_shape : TypeShape → TypeId
element_of_shape (shape.Array element count) = element
element_of_shape other = record { 0 = 0 }

-- an object that is initialised: its home, and the pointer to the whole of it
pub record Whole : Type 0 where
  pub node : NodeId
  pub pointer : Pointer

-- the address of its part from this byte on
abbrev pub part : Whole → ℕ → Value
part o base = Address (forward base o.pointer)

-- the bytes are stored in the elements of an array, in order
abbrev pub store_text : World → Place → TypeId → List ℕ → ℕ → Whole → Act (Unit {0})
store_text w at char [] base o = done tt
store_text w at char (b ∷ bytes) base o = do
  stored w.setting at at o.node char (part o base) (Integer (converted (integer_in w.setting char) (pos b)))
  store_text w at char bytes (base + 1) o

abbrev mutual
  -- what initialises the type t from byte `base` of an object on; `at` is the place of the `=`, and of an item that of its first token
  pub initialise : TypedInitialiser → Place → TypeId → ℕ → Whole → World → Act (Unit {0})
  initialise (typed.Value e) at t base o w = do
    v ← eval e w
    stored w.setting at at o.node t (part o base) v
  initialise (typed.Copied p place) at t base o w = do
    r ← locate p w
    copied w.setting t (place_at p) r.node r.address place o.node (part o base) place
  initialise (typed.Text pieces bytes) at t base o w = store_text w at (element_of_shape (shape_at w.setting.table t)) bytes base o
  initialise (typed.Listed brace items comma u) at t base o w = initialise_items items base o w

  -- the items of a list, in order
  pub initialise_items : TypedItems → ℕ → Whole → World → Act (Unit {0})
  initialise_items typed.NoItem base o w = done tt
  initialise_items (typed.AndItem all offset t i) base o w = do
    initialise_items all base o w
    initialise i (item_place i) t (base + offset) o w

-- the object with this home, of type t, is initialised; `at` is the place of the `=`
abbrev pub initialise_object : World → NodeId → TypeId → Place → TypedInitialiser → Act (Unit {0})
initialise_object w node t at i = given (object_of w node) (λ number. do
  either (clears w.setting.table i) (clear number) (done tt)
  initialise i at t 0 (record { node = node; pointer = uses.home w.setting.table number t }) w)

-- Declarations. Objects that live as long as the program were initialised before `main`.

abbrev pub initialise_declared : World → Home → TypeId → Place → TypedInitialiser → Act (Unit {0})
initialise_declared w (home.Local node) t at i = initialise_object w node t at i
initialise_declared w other t at i = done tt

abbrev pub declare_all : TypedInitDeclarators → World → Act (Unit {0})
declare_all typed.NoInitDeclarator w = done tt
declare_all (typed.AndPlain all d) w = declare_all all w
declare_all (typed.AndInitialised all d at i) w = do
  declare_all all w
  initialise_declared w (home_of d) (declared_type d) at i

abbrev pub declare : TypedDeclaration → World → Act (Unit {0})
declare (typed.Declare specifiers all) w = declare_all all w

-- Statements

-- how a statement is left: by its end, by `break`, by `continue`, or with the value of its function
pub data Flow : Type 0 where
  Normal : Flow
  Breaks : Flow
  Continues : Flow
  Returns : Value → Flow

-- what stands behind a statement is reached by its end alone
abbrev pub then_do : Flow → Act Flow → Act Flow
then_do Normal next = next
then_do flow next = done flow

-- what the body of a loop does to the loop: its end and `continue` end the round
abbrev pub round_of : Flow → Control Value
round_of Normal = Goes
round_of Breaks = Leaves 0
round_of Continues = Goes
round_of (Returns v) = Gives v

-- how a loop is left
abbrev pub flow_of_loop : Control Value → Flow
flow_of_loop Goes = Normal
flow_of_loop (Leaves k) = Normal
flow_of_loop (Gives v) = Returns v

-- how a `switch` is left
abbrev pub flow_of_switch : Flow → Flow
flow_of_switch Breaks = Normal
flow_of_switch flow = flow

-- a loop: as many rounds as there are turns, each of which takes its turn first
abbrev pub loop : Act (Control Value) → Act Flow
loop round s = (rounds Turns s.turns (turn >> round) >>= (λ x. done (flow_of_loop x))) s

-- the condition of a loop; where there is none it is true
abbrev pub condition : Option TypedExpr → World → Act Bool
condition None w = done true
condition (Some e) w = eval e w >>= (λ v. done (is_true v))

-- an expression that is evaluated for what it does, where there is one
abbrev pub effect : Option TypedExpr → World → Act (Unit {0})
effect None w = done tt
effect (Some e) w = eval e w >> done tt

-- the rounds of `while` and `for`: condition, body, step
abbrev pub while_loop : Act Bool → Act Flow → Act (Unit {0}) → Act Flow
while_loop test body step = loop (do
  go ← test
  either go (do
    flow ← body
    then_go (round_of flow) (step >> done Goes)) (done (Leaves 0)))

-- where the body of a `do` goes on, its condition decides
abbrev pub again : Act Bool → Control Value → Act (Control Value)
again test Goes = do
  go ← test
  either go (done Goes) (done (Leaves 0))
again test x = done x

-- the rounds of `do`: body, condition
abbrev pub do_loop : Act Flow → Act Bool → Act Flow
do_loop body test = loop (do
  flow ← body
  again test (round_of flow))

-- The labels of a `switch` are numbered from 1 in the order of the text. They cut its block into pieces: piece j stands behind label j, up to
-- the next, and piece 0 before the first.

-- how many labels a block has
abbrev pub labels : TypedBlockItems → ℕ
labels typed.NoBlockItem = 0
labels (typed.AndStatement all s) = labels all
labels (typed.AndDeclaration all d) = labels all
labels (typed.AndCase all at e y) = suc (labels all)
labels (typed.AndDefault all at) = suc (labels all)

-- the number of the first `case z`, else this number
abbrev pub case_or : TypedBlockItems → ℤ → ℕ → ℕ
case_or typed.NoBlockItem z other = other
case_or (typed.AndStatement all s) z other = case_or all z other
case_or (typed.AndDeclaration all d) z other = case_or all z other
case_or (typed.AndCase all at e y) z other = case_or all z (if int_eq y z then suc (labels all) else other)
case_or (typed.AndDefault all at) z other = case_or all z other

-- the number of the first `default`, else this number
abbrev pub default_or : TypedBlockItems → ℕ → ℕ
default_or typed.NoBlockItem other = other
default_or (typed.AndStatement all s) other = default_or all other
default_or (typed.AndDeclaration all d) other = default_or all other
default_or (typed.AndCase all at e y) other = default_or all other
default_or (typed.AndDefault all at) other = default_or all (suc (labels all))

-- the number of `default`; where there is none, one that no label has
abbrev pub otherwise : TypedBlockItems → ℕ
otherwise items = default_or items (suc (labels items))

-- A `switch` begins behind the `case` of its value, else behind its `default`, else nowhere (C99 6.8.4.2).
abbrev pub chosen : TypedBlockItems → ℤ → ℕ
chosen items z = case_or items z (otherwise items)

-- piece j runs where the `switch` began at label k, which is its own or one before it
abbrev pub runs_from : ℕ → ℕ → Act Flow → Act Flow
runs_from k j piece = either (nat_le k j) piece (done Normal)

abbrev mutual
  pub exec : TypedStatement → World → Act Flow
  exec (typed.Block brace items) w = exec_items items w
  exec (typed.Express e) w = do
    eval e w
    done Normal
  exec typed.Empty w = done Normal
  exec (typed.If at paren c s) w = do
    v ← eval c w
    either (is_true v) (exec s w) (done Normal)
  exec (typed.IfElse at paren c s r) w = do
    v ← eval c w
    either (is_true v) (exec s w) (exec r w)
  exec (typed.Switch at paren e brace items) w = do
    v ← eval e w
    z ← as_integer v
    (do
      flow ← exec_before items (chosen items z) w
      then_do flow (runs_from (chosen items z) (labels items) (exec_piece items w))) >>= (λ flow. done (flow_of_switch flow))
  exec (typed.While at paren c s) w = while_loop (condition (Some c) w) (exec s w) (done tt)
  exec (typed.DoWhile s at paren c) w = do_loop (exec s w) (condition (Some c) w)
  exec (typed.For at paren first c step s) w = do
    effect first w
    while_loop (condition c w) (exec s w) (effect step w)
  exec (typed.ForDeclaration at paren d c step s) w = do
    declare d w
    while_loop (condition c w) (exec s w) (effect step w)
  exec (typed.Break at) w = done Breaks
  exec (typed.Continue at) w = done Continues
  exec (typed.Return at None) w = done (Returns (Integer (pos 0)))
  exec (typed.Return at (Some e)) w = do
    v ← eval e w
    u ← returned w.setting w.frame.depth at (type_of e) v
    done (Returns u)

  -- what a block holds, in order
  pub exec_items : TypedBlockItems → World → Act Flow
  exec_items typed.NoBlockItem w = done Normal
  exec_items (typed.AndStatement all s) w = do
    flow ← exec_items all w
    then_do flow (exec s w)
  exec_items (typed.AndDeclaration all d) w = do
    flow ← exec_items all w
    then_do flow (declare d w >> done Normal)
  exec_items (typed.AndCase all at e z) w = exec_items all w
  exec_items (typed.AndDefault all at) w = exec_items all w

  -- the last piece of a block
  pub exec_piece : TypedBlockItems → World → Act Flow
  exec_piece typed.NoBlockItem w = done Normal
  exec_piece (typed.AndStatement all s) w = do
    flow ← exec_piece all w
    then_do flow (exec s w)
  exec_piece (typed.AndDeclaration all d) w = do
    flow ← exec_piece all w
    then_do flow (declare d w >> done Normal)
  exec_piece (typed.AndCase all at e z) w = done Normal
  exec_piece (typed.AndDefault all at) w = done Normal

  -- the pieces before the last, of a `switch` that begins at label k
  pub exec_before : TypedBlockItems → ℕ → World → Act Flow
  exec_before typed.NoBlockItem k w = done Normal
  exec_before (typed.AndStatement all s) k w = exec_before all k w
  exec_before (typed.AndDeclaration all d) k w = exec_before all k w
  exec_before (typed.AndCase all at e z) k w = do
    flow ← exec_before all k w
    then_do flow (runs_from k (labels all) (exec_piece all w))
  exec_before (typed.AndDefault all at) k w = do
    flow ← exec_before all k w
    then_do flow (runs_from k (labels all) (exec_piece all w))

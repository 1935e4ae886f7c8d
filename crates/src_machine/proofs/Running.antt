-- What every operation on memory leaves true, a whole run leaves true.
use Rattle.std.proofs.Common.{ℕ, zero, suc, ◌+◌, pos, nat_le, Bool, true, false, List, [], ◌∷◌, Option, None, Some}
use Rattle.cc_base.specs.declared.place.Place.{Place}
use Rattle.cc_base.specs.declared.number.NodeId.{NodeId}
use Rattle.cc_base.specs.declared.number.TypeId.{TypeId}
use Rattle.c_types.specs.Table.{shape_at}
use Rattle.integers.specs.Arithmetic as integer
use Rattle.integers.specs.Arithmetic.{Operator, converted, truth}
use Rattle.runs.specs.Outcome.{done, ◌>>=◌, ◌>>◌}
use Rattle.runs.specs.Control.{Control, Goes, Leaves, Gives, then_go, rounds, go_round}
use Rattle.c_tree.specs.Arithmetic.{operator_of}
use Rattle.c_tree.specs.declared.operator.Binary.{Binary}
use Rattle.c_tree.specs.declared.operator.Unary.{Unary}
use Rattle.c_tree.specs.declared.operator.Unary.TheVariants as unary
use Rattle.c_tree.specs.declared.typed_word.Conversion.{Conversion}
use Rattle.c_tree.specs.declared.typed_word.Conversion.TheVariants as conversion
use Rattle.c_tree.specs.declared.typed_word.Home.{Home}
use Rattle.c_tree.specs.declared.typed_word.Home.TheVariants as home
use Rattle.c_tree.specs.declared.typed_word.Runtime.{Runtime}
use Rattle.c_tree.specs.declared.typed_word.Runtime.TheVariants as runtime
use Rattle.c_tree.specs.declared.typed_word.Side.{Side}
use Rattle.c_tree.specs.declared.typed_word.Side.TheVariants as side
use Rattle.c_tree.specs.TypedTree as typed
use Rattle.c_tree.specs.TypedTree.{TypedExpr, TypedPlace, TypedArguments, TypedInitialiser, TypedItems, TypedInitDeclarators, TypedDeclaration, TypedStatement, TypedBlockItems}
use Rattle.c_tree.specs.TypedParts.{place_at, item_place, home_of, declared_type, type_of, place_type, named_type, is_null}
use Rattle.runtime_calls.specs.Meanings.{call_runtime, call_allocation}
use Rattle.src_mem.specs.Pointers.{Value, Integer, is_true}
use Rattle.src_mem.specs.State.{State, Act, Setting, Turns, turn}
use Rattle.src_mem.specs.Operations.{pointee, integer_in, node_in}
use Rattle.src_mem.specs.Laws.{Keeps, IsInvariant}
use Rattle.src_mem.proofs.Keeping.{acts, keep_integer, keep_done, keep_ends, keep_chosen, keep_wrong, keep_bind, keep_then, keep_either, keep_given, keep_malloc, keep_calloc, keep_free, keep_getchar, keep_putchar, keep_exits}
use Rattle.src_mem.proofs.KeepingValues.{keep_calculated, keep_calculated_alone, keep_converted_integer, keep_pointer_from_integer, keep_integer_from_pointer, keep_pointer_value, keep_moved_value, keep_difference_value, keep_compared_value, keep_null_value, keep_member_value, keep_decayed_value, keep_addressed, keep_loaded, keep_stored, keep_copied, keep_allocated, keep_called_value, keep_returned}
use Rattle.src_machine.specs.World.{World, object_of}
use Rattle.src_machine.specs.Statements.{Flow, Normal, Breaks, Continues, Returns, Whole, part, store_text, initialise, initialise_items, element_of_shape, clears, initialise_object, initialise_declared, declare_all, declare, loop, flow_of_loop, condition, effect, round_of, while_loop, again, do_loop, then_do, labels, chosen, runs_from, exec, exec_items, exec_piece, exec_before}
use Rattle.src_machine.specs.Expressions.{is_through_pointer, is_subtract, is_pointer_in, same_type, is_different, is_or, operator_of_step, operator_of_assignment, eval, eval_all, stands, locate, locate_object, converted_unless, updated_where, updated, prefixed, converted_value, moved_by_side, compared_with, logical}

module _ {P : State → Type 0} (I : IsInvariant P) where
  keep_unless : (b : Bool) (w : World) (u : TypeId) (v : Value) → Keeps P (converted_unless b w u v)
  keep_unless true w u v = keep_done P v
  keep_unless false w u v = keep_converted_integer I w.setting u v

  keep_updated_where : (b : Bool) (w : World) (at : Place) (operator : Operator) (t u : TypeId) (old v : Value)
      → Keeps P (updated_where b w at operator t u old v)
  keep_updated_where true w at operator t u old v = keep_moved_value I w.setting at (is_subtract operator) t old v
  keep_updated_where false w at operator t u old v =
      keep_bind (keep_unless (same_type t u) w u old) (λ x. keep_bind (keep_calculated I w.setting at operator u x v)
      (λ z. keep_unless (same_type t u) w t z))

  keep_updated : (w : World) (at : Place) (operator : Operator) (t u : TypeId) (old v : Value) → Keeps P (updated w at operator t u old v)
  keep_updated w at operator t u old v = keep_updated_where (is_pointer_in w t) w at operator t u old v

  keep_prefixed : (w : World) (operator : Unary) (t : TypeId) (v : Value) → Keeps P (prefixed w operator t v)
  keep_prefixed w unary.Plus t v = keep_done P v
  keep_prefixed w unary.Minus t v = keep_calculated_alone I w.setting integer.Negate t v
  keep_prefixed w unary.Complement t v = keep_calculated_alone I w.setting integer.Complement t v
  keep_prefixed w unary.Not t v = keep_done P _
  keep_prefixed w unary.Increment t v = keep_wrong P
  keep_prefixed w unary.Decrement t v = keep_wrong P
  keep_prefixed w unary.AddressOf t v = keep_wrong P
  keep_prefixed w unary.Dereference t v = keep_wrong P
  keep_prefixed w unary.SizeOf t v = keep_wrong P

  keep_value : (w : World) (which : Conversion) (at : Place) (t u : TypeId) (v : Value) → Keeps P (converted_value w which at t u v)
  keep_value w conversion.IntegerToInteger at t u v = keep_converted_integer I w.setting u v
  keep_value w conversion.IntegerToPointer at t u v = keep_pointer_from_integer I v
  keep_value w conversion.PointerToInteger at t u v = keep_integer_from_pointer I w.setting t u v
  keep_value w conversion.PointerToPointer at t u v = keep_pointer_value I w.setting at t u v
  keep_value w conversion.NullToPointer at t u v = keep_done P _
  keep_value w conversion.AllocationToPointer at t u v = keep_done P v
  keep_value w conversion.ToVoid at t u v = keep_done P v

  keep_runtime : (function : Runtime) (vs : List Value) → Keeps P (call_runtime function vs)
  keep_runtime runtime.Malloc vs = keep_wrong P
  keep_runtime runtime.Calloc vs = keep_wrong P
  keep_runtime runtime.Free vs = keep_free I vs
  keep_runtime runtime.Getchar vs = keep_getchar I vs
  keep_runtime runtime.Putchar vs = keep_putchar I vs
  keep_runtime runtime.Exit vs = keep_exits I vs

  keep_allocation : (w : Setting) (node : NodeId) (t : TypeId) (function : Runtime) (vs : List Value) → Keeps P (call_allocation w node t function vs)
  keep_allocation w node t runtime.Malloc vs = keep_malloc I w node t vs
  keep_allocation w node t runtime.Calloc vs = keep_calloc I w node t vs
  keep_allocation w node t runtime.Free vs = keep_wrong P
  keep_allocation w node t runtime.Getchar vs = keep_wrong P
  keep_allocation w node t runtime.Putchar vs = keep_wrong P
  keep_allocation w node t runtime.Exit vs = keep_wrong P

  keep_side : (w : World) (at : Place) (which : Side) (backwards : Bool) (t u : TypeId) (a b : Value)
      → Keeps P (moved_by_side w at which backwards t u a b)
  keep_side w at side.Left backwards t u a b = keep_moved_value I w.setting at backwards t a b
  keep_side w at side.Right backwards t u a b = keep_moved_value I w.setting at backwards u b a

  keep_compared_with : (a_null b_null : Bool) (w : World) (at : Place) (operator : Binary) (t u : TypeId) (v x : Value)
      → Keeps P (compared_with a_null b_null w at operator t u v x)
  keep_compared_with true b_null w at operator t u v x = keep_null_value I (is_different operator) x
  keep_compared_with false true w at operator t u v x = keep_null_value I (is_different operator) v
  keep_compared_with false false w at operator t u v x = keep_compared_value I w.setting at (operator_of operator) t u v x

  keep_logical : (is_or is_left : Bool) (right : Act Value) → Keeps P right → Keeps P (logical is_or is_left right)
  keep_logical true is_left right k = keep_either is_left (keep_done P _) k
  keep_logical false is_left right k = keep_either is_left k (keep_done P _)

  keep_object : (w : World) (node : NodeId) (t : TypeId) → Keeps P (locate_object w node t)
  keep_object w node t = keep_given (object_of w node) (λ number. keep_done P _)

  -- a place at the address that an act gives
  keep_stands : (node : NodeId) (m : Act Value) → Keeps P m → Keeps P (m >>= stands node)
  keep_stands node m k = keep_bind k (λ a. keep_done P _)

  module _ (w : World) (kc : (f depth : ℕ) (vs : List Value) → Keeps P (w.call f depth vs)) where
    mutual
      pub keep_eval : (e : TypedExpr) → Keeps P (eval e w)
      keep_eval (typed.Integer of n at t) = keep_done P _
      keep_eval (typed.Character z at t) = keep_done P _
      keep_eval (typed.Enumerator name z t) = keep_done P _
      keep_eval (typed.FunctionName name f node t) = keep_done P _
      keep_eval (typed.RuntimeName name function t) = keep_wrong P
      keep_eval (typed.Paren at e) = keep_eval e
      keep_eval (typed.Read p) =
          keep_bind (keep_locate p) (λ l. keep_loaded I w.setting (place_at p) l.node (place_type p) l.address)
      keep_eval (typed.Unread p) = keep_bind (keep_locate p) (λ l. keep_done P _)
      keep_eval (typed.Decay p node t) =
          keep_bind (keep_locate p)
          (λ l. keep_decayed_value I w.setting (place_at p) l.node (place_type p) (is_through_pointer p) node (pointee w.setting t) l.address)
      keep_eval (typed.Convert which at t e) =
          keep_bind (keep_eval e) (λ v. keep_value w which at (type_of e) t v)
      keep_eval (typed.Cast which at name e) =
          keep_bind (keep_eval e) (λ v. keep_value w which at (type_of e) (named_type name) v)
      keep_eval (typed.AddressOf at p node t) =
          keep_bind (keep_locate p) (λ l. keep_addressed I w.setting node (place_type p) l.address)
      keep_eval (typed.AddressOfElement at p t) = keep_bind (keep_locate p) (λ l. keep_done P _)
      keep_eval (typed.AddressOfFunction at e) = keep_eval e
      keep_eval (typed.FunctionAt at e) = keep_eval e
      keep_eval (typed.Prefix operator at e t) =
          keep_bind (keep_eval e) (λ v. keep_prefixed w operator t v)
      keep_eval (typed.SizeOfPlace at p n t) = keep_done P _
      keep_eval (typed.SizeOfValue at e n t) = keep_done P _
      keep_eval (typed.SizeOfType at paren name n t) = keep_done P _
      keep_eval (typed.StepBefore which at p) =
          keep_bind (keep_locate p) (λ l. keep_bind (keep_loaded I w.setting (place_at p) l.node (place_type p) l.address)
          (λ old. keep_bind (keep_updated w at (operator_of_step which) (place_type p) (place_type p) old (Integer (pos 1)))
          (λ new. keep_then (keep_stored I w.setting (place_at p) at l.node (place_type p) l.address new) (keep_done P new))))
      keep_eval (typed.StepAfter p which at) =
          keep_bind (keep_locate p) (λ l. keep_bind (keep_loaded I w.setting (place_at p) l.node (place_type p) l.address)
          (λ old. keep_bind (keep_updated w at (operator_of_step which) (place_type p) (place_type p) old (Integer (pos 1)))
          (λ new. keep_then (keep_stored I w.setting (place_at p) at l.node (place_type p) l.address new) (keep_done P old))))
      keep_eval (typed.Arithmetic operator a at b t) =
          keep_bind (keep_eval a) (λ v. keep_bind (keep_eval b) (λ u. keep_calculated I w.setting at (operator_of operator) (type_of a) v u))
      keep_eval (typed.Moved operator which a at b t) =
          keep_bind (keep_eval a) (λ v. keep_bind (keep_eval b)
          (λ u. keep_side w at which (is_subtract (operator_of operator)) (type_of a) (type_of b) v u))
      keep_eval (typed.Difference a at b t) =
          keep_bind (keep_eval a) (λ v. keep_bind (keep_eval b) (λ u. keep_difference_value I w.setting at (type_of a) (type_of b) v u))
      keep_eval (typed.Compared operator a at b t) =
          keep_bind (keep_eval a) (λ v. keep_bind (keep_eval b)
          (λ u. keep_compared_with (is_null a) (is_null b) w at operator (type_of a) (type_of b) v u))
      keep_eval (typed.Logical operator a at b t) =
          keep_bind (keep_eval a) (λ v. keep_logical (is_or operator) (is_true v) _ (keep_bind (keep_eval b)
          (λ u. keep_done P (Integer (truth (is_true u))))))
      keep_eval (typed.Conditional c at a b t) =
          keep_bind (keep_eval c) (λ v. keep_either (is_true v) (keep_eval a) (keep_eval b))
      keep_eval (typed.PointerConditional c at a b node t) =
          keep_bind (keep_eval c) (λ v. keep_either (is_true v) (keep_eval a) (keep_eval b))
      keep_eval (typed.Comma a b) =
          keep_then (keep_eval a) (keep_eval b)
      keep_eval (typed.Assign p at e) =
          keep_bind (keep_locate p) (λ l. keep_bind (keep_eval e)
          (λ v. keep_then (keep_stored I w.setting (place_at p) at l.node (place_type p) l.address v) (keep_done P v)))
      keep_eval (typed.AssignWith operator p at e t) =
          keep_bind (keep_locate p) (λ l. keep_bind (keep_eval e)
          (λ v. keep_bind (keep_loaded I w.setting (place_at p) l.node (place_type p) l.address)
          (λ old. keep_bind (keep_updated w at (operator_of_assignment operator) (place_type p) t old v)
          (λ new. keep_then (keep_stored I w.setting (place_at p) at l.node (place_type p) l.address new) (keep_done P new)))))
      keep_eval (typed.Call f at arguments t) =
          keep_bind (keep_eval f) (λ v. keep_bind (keep_eval_all arguments)
          (λ vs. keep_called_value I w.setting w.call kc w.frame.depth at (type_of f) v vs))
      keep_eval (typed.CallRuntime function f at arguments t) =
          keep_bind (keep_eval_all arguments) (λ vs. keep_runtime function vs)
      keep_eval (typed.Allocate function f at arguments node t) =
          keep_bind (keep_eval_all arguments)
          (λ vs. keep_allocated I w.setting at node (pointee w.setting t) _ (keep_allocation w.setting node (pointee w.setting t) function vs))
      keep_eval (typed.AllocateFor function f at arguments t) =
          keep_bind (keep_eval_all arguments) (λ vs. keep_allocated I w.setting at (node_in w.setting t) (pointee w.setting t) _
          (keep_allocation w.setting (node_in w.setting t) (pointee w.setting t) function vs))

      pub keep_eval_all : (es : TypedArguments) → Keeps P (eval_all es w)
      keep_eval_all typed.NoArgument = keep_done P []
      keep_eval_all (typed.AndArgument all e) = search (acts, keep_eval_all all, keep_eval e)

      pub keep_locate : (p : TypedPlace) → Keeps P (locate p w)
      keep_locate (typed.Variable name node t) = keep_stands node _ (keep_object w node t)
      keep_locate (typed.String pieces node t) = keep_stands node _ (keep_object w node t)
      keep_locate (typed.ParenPlace at p) = keep_locate p
      keep_locate (typed.Target at e t) = keep_stands _ _ (keep_eval e)
      keep_locate (typed.Element which a at b t) =
          keep_stands _ _ (keep_bind (keep_eval a) (λ v. keep_bind (keep_eval b) (λ u. keep_side w at which false (type_of a) (type_of b) v u)))
      keep_locate (typed.Member p at name i node t) =
          keep_stands node _ (keep_bind (keep_locate p) (λ l. keep_member_value I w.setting at l.node (place_type p) i node t l.address))
      keep_locate (typed.MemberAt e at name i node t) =
          keep_stands node _ (keep_bind (keep_eval e)
          (λ v. keep_member_value I w.setting at (node_in w.setting (type_of e)) (pointee w.setting (type_of e)) i node t v))
      keep_locate (typed.StructAssign p at q) =
          keep_bind (keep_locate p) (λ l. keep_stands l.node _ (keep_bind (keep_locate q)
          (λ r. keep_then (keep_copied I w.setting (place_type p) (place_at q) r.node r.address (place_at p) l.node l.address at)
          (keep_done P l.address))))
      keep_locate (typed.StructConditional c at p q) =
          keep_bind (keep_eval c) (λ v. keep_either (is_true v) (keep_locate p) (keep_locate q))
      keep_locate (typed.StructComma e p) =
          keep_then (keep_eval e) (keep_locate p)

    -- Initialisers

    keep_text : (at : Place) (char : TypeId) (bytes : List ℕ) (base : ℕ) (o : Whole) → Keeps P (store_text w at char bytes base o)
    keep_text at char [] base o = keep_done P tt
    keep_text at char (b ∷ bytes) base o =
        keep_then (keep_stored I w.setting at at o.node char (part o base) (Integer (converted (integer_in w.setting char) (pos b))))
        (keep_text at char bytes (base + 1) o)

    mutual
      keep_initialise : (i : TypedInitialiser) (at : Place) (t : TypeId) (base : ℕ) (o : Whole) → Keeps P (initialise i at t base o w)
      keep_initialise (typed.Value e) at t base o = keep_bind (keep_eval e) (λ v. keep_stored I w.setting at at o.node t (part o base) v)
      keep_initialise (typed.Copied p place) at t base o =
          keep_bind (keep_locate p) (λ r. keep_copied I w.setting t (place_at p) r.node r.address place o.node (part o base) place)
      keep_initialise (typed.Text pieces bytes) at t base o = keep_text at (element_of_shape (shape_at w.setting.table t)) bytes base o
      keep_initialise (typed.Listed brace items comma u) at t base o = keep_items items base o

      keep_items : (items : TypedItems) (base : ℕ) (o : Whole) → Keeps P (initialise_items items base o w)
      keep_items typed.NoItem base o = keep_done P tt
      keep_items (typed.AndItem all offset t i) base o = keep_then (keep_items all base o) (keep_initialise i (item_place i) t (base + offset) o)

    pub keep_initialise_object : (node : NodeId) (t : TypeId) (at : Place) (i : TypedInitialiser) → Keeps P (initialise_object w node t at i)
    keep_initialise_object node t at i =
        keep_given (object_of w node)
        (λ number. keep_then (keep_either (clears w.setting.table i) (I.cleared number) (keep_done P tt)) (keep_initialise i at t 0 _))

    keep_declared : (h : Home) (t : TypeId) (at : Place) (i : TypedInitialiser) → Keeps P (initialise_declared w h t at i)
    keep_declared (home.Local n) t at i = keep_initialise_object n t at i
    keep_declared home.None t at i = keep_done P tt
    keep_declared (home.Static n) t at i = keep_done P tt
    keep_declared (home.Parameter n) t at i = keep_done P tt
    keep_declared (home.Known n) t at i = keep_done P tt

    keep_declare_all : (ds : TypedInitDeclarators) → Keeps P (declare_all ds w)
    keep_declare_all typed.NoInitDeclarator = keep_done P tt
    keep_declare_all (typed.AndPlain all d) = keep_declare_all all
    keep_declare_all (typed.AndInitialised all d at i) = keep_then (keep_declare_all all) (keep_declared (home_of d) (declared_type d) at i)

    keep_declare : (d : TypedDeclaration) → Keeps P (declare d w)
    keep_declare (typed.Declare specifiers all) = keep_declare_all all

    -- Loops

    keep_rounds : (n : ℕ) (round : Act (Control Value)) → Keeps P round → Keeps P (rounds Turns n round)
    keep_rounds zero round k = keep_ends P Turns
    keep_rounds (suc n) round k = keep_bind k (λ x. go x (keep_rounds n round k))
      where
        go : (x : Control Value) → Keeps P (rounds Turns n round) → Keeps P (go_round x (rounds Turns n round))
        go Goes again = again
        go (Leaves zero) again = keep_done P _
        go (Leaves (suc j)) again = keep_done P _
        go (Gives v) again = keep_done P _

    keep_loop : (round : Act (Control Value)) → Keeps P round → Keeps P (loop round)
    keep_loop round k =
        keep_chosen (λ s. rounds Turns s.turns (turn >> round) >>= (λ x. done (flow_of_loop x)))
        (λ s. keep_bind (keep_rounds s.turns (turn >> round) (keep_then I.turned k)) (λ x. keep_done P _))

    keep_condition : (c : Option TypedExpr) → Keeps P (condition c w)
    keep_condition None = keep_done P true
    keep_condition (Some e) = keep_bind (keep_eval e) (λ v. keep_done P _)

    keep_effect : (e : Option TypedExpr) → Keeps P (effect e w)
    keep_effect None = keep_done P tt
    keep_effect (Some e) = keep_then (keep_eval e) (keep_done P tt)

    keep_go : (x : Control Value) (next : Act (Control Value)) → Keeps P next → Keeps P (then_go x next)
    keep_go Goes next k = k
    keep_go (Leaves j) next k = keep_done P _
    keep_go (Gives v) next k = keep_done P _

    keep_while : (test : Act Bool) (body : Act Flow) (step : Act (Unit {0})) → Keeps P test → Keeps P body → Keeps P step
        → Keeps P (while_loop test body step)
    keep_while test body step kt kb ks =
        keep_loop _ (keep_bind kt (λ go. keep_either go (keep_bind kb
        (λ flow. keep_go (round_of flow) (step >> done Goes) (keep_then ks (keep_done P Goes)))) (keep_done P (Leaves 0))))

    keep_again : (test : Act Bool) (x : Control Value) → Keeps P test → Keeps P (again test x)
    keep_again test Goes kt = keep_bind kt (λ go. keep_either go (keep_done P Goes) (keep_done P (Leaves 0)))
    keep_again test (Leaves j) kt = keep_done P _
    keep_again test (Gives v) kt = keep_done P _

    keep_do : (body : Act Flow) (test : Act Bool) → Keeps P body → Keeps P test → Keeps P (do_loop body test)
    keep_do body test kb kt = keep_loop _ (keep_bind kb (λ flow. keep_again test (round_of flow) kt))

    -- Statements

    keep_flow : (flow : Flow) (next : Act Flow) → Keeps P next → Keeps P (then_do flow next)
    keep_flow Normal next k = k
    keep_flow Breaks next k = keep_done P _
    keep_flow Continues next k = keep_done P _
    keep_flow (Returns v) next k = keep_done P _

    keep_runs_from : (k j : ℕ) (piece : Act Flow) → Keeps P piece → Keeps P (runs_from k j piece)
    keep_runs_from k j piece kp = keep_either (nat_le k j) kp (keep_done P Normal)

    mutual
      pub keep_exec : (s : TypedStatement) → Keeps P (exec s w)
      keep_exec (typed.Block brace items) = keep_exec_items items
      keep_exec (typed.Express e) = keep_then (keep_eval e) (keep_done P Normal)
      keep_exec typed.Empty = keep_done P Normal
      keep_exec (typed.If at paren c s) = keep_bind (keep_eval c) (λ v. keep_either (is_true v) (keep_exec s) (keep_done P Normal))
      keep_exec (typed.IfElse at paren c s r) = keep_bind (keep_eval c) (λ v. keep_either (is_true v) (keep_exec s) (keep_exec r))
      keep_exec (typed.Switch at paren e brace items) =
          keep_bind (keep_eval e) (λ v. keep_bind (keep_integer P v) (λ z. keep_bind (keep_bind (keep_exec_before items (chosen items z))
          (λ flow. keep_flow flow _ (keep_runs_from (chosen items z) (labels items) _ (keep_exec_piece items)))) (λ flow. keep_done P _)))
      keep_exec (typed.While at paren c s) =
          keep_while (condition (Some c) w) (exec s w) (done tt) (keep_condition (Some c)) (keep_exec s) (keep_done P tt)
      keep_exec (typed.DoWhile s at paren c) = keep_do (exec s w) (condition (Some c) w) (keep_exec s) (keep_condition (Some c))
      keep_exec (typed.For at paren first c step s) =
          keep_then (keep_effect first) (keep_while (condition c w) (exec s w) (effect step w) (keep_condition c) (keep_exec s) (keep_effect step))
      keep_exec (typed.ForDeclaration at paren d c step s) =
          keep_then (keep_declare d) (keep_while (condition c w) (exec s w) (effect step w) (keep_condition c) (keep_exec s) (keep_effect step))
      keep_exec (typed.Break at) = keep_done P _
      keep_exec (typed.Continue at) = keep_done P _
      keep_exec (typed.Return at None) = keep_done P _
      keep_exec (typed.Return at (Some e)) =
          keep_bind (keep_eval e) (λ v. keep_bind (keep_returned I w.setting w.frame.depth at (type_of e) v) (λ u. keep_done P _))

      pub keep_exec_items : (items : TypedBlockItems) → Keeps P (exec_items items w)
      keep_exec_items typed.NoBlockItem = keep_done P Normal
      keep_exec_items (typed.AndStatement all s) = keep_bind (keep_exec_items all) (λ flow. keep_flow flow (exec s w) (keep_exec s))
      keep_exec_items (typed.AndDeclaration all d) =
          keep_bind (keep_exec_items all) (λ flow. keep_flow flow (declare d w >> done Normal) (keep_then (keep_declare d) (keep_done P Normal)))
      keep_exec_items (typed.AndCase all at e z) = keep_exec_items all
      keep_exec_items (typed.AndDefault all at) = keep_exec_items all

      keep_exec_piece : (items : TypedBlockItems) → Keeps P (exec_piece items w)
      keep_exec_piece typed.NoBlockItem = keep_done P Normal
      keep_exec_piece (typed.AndStatement all s) = keep_bind (keep_exec_piece all) (λ flow. keep_flow flow (exec s w) (keep_exec s))
      keep_exec_piece (typed.AndDeclaration all d) =
          keep_bind (keep_exec_piece all) (λ flow. keep_flow flow (declare d w >> done Normal) (keep_then (keep_declare d) (keep_done P Normal)))
      keep_exec_piece (typed.AndCase all at e z) = keep_done P Normal
      keep_exec_piece (typed.AndDefault all at) = keep_done P Normal

      keep_exec_before : (items : TypedBlockItems) (k : ℕ) → Keeps P (exec_before items k w)
      keep_exec_before typed.NoBlockItem k = keep_done P Normal
      keep_exec_before (typed.AndStatement all s) k = keep_exec_before all k
      keep_exec_before (typed.AndDeclaration all d) k = keep_exec_before all k
      keep_exec_before (typed.AndCase all at e z) k =
          keep_bind (keep_exec_before all k) (λ flow. keep_flow flow _ (keep_runs_from k (labels all) _ (keep_exec_piece all)))
      keep_exec_before (typed.AndDefault all at) k =
          keep_bind (keep_exec_before all k) (λ flow. keep_flow flow _ (keep_runs_from k (labels all) _ (keep_exec_piece all)))

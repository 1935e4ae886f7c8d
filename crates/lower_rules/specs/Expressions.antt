-- What the code of an expression and of a place is. The operands stand in values one after another, and the result comes into the first.
use Rattle.std.specs.Prelude.{ℕ, suc, ◌+◌, pos, true, false, [], ◌∷◌}
use Rattle.cc_base.specs.declared.number.NodeId.{NodeId}
use Rattle.c_tree.specs.Arithmetic.{operator_of}
use Rattle.c_tree.specs.TypedTree as typed
use Rattle.c_tree.specs.TypedTree.{TypedExpr, TypedPlace, TypedArguments}
use Rattle.c_tree.specs.TypedParts.{type_of, place_type, named_type, pointer_side, place_at, address_node, is_null}
use Rattle.src_mem.specs.Operations.{node_at, pointee_at}
use Rattle.src_machine.specs.Expressions.{is_through_pointer, is_subtract, operator_of_assignment, is_or}
use Rattle.cil_form.specs.declared.instr.Set.TheVariants as set
use Rattle.cil_form.specs.declared.instr.Calculate.TheVariants as calculate
use Rattle.cil_form.specs.declared.instr.Point.TheVariants as point
use Rattle.cil_form.specs.declared.instr.Target.TheVariants as target
use Rattle.cil_form.specs.declared.instr.Instr.TheVariants as instr
use Rattle.lower_rules.specs.declared.after.After.TheVariants as after
use Rattle.lower_rules.specs.Pieces.{Form, Line, Then, Choice, Never}
use Rattle.lower_rules.specs.Words.{Context, value, node_of, is_pointer, Objects, Constant, lowered, lowered_assignment, Prefixes, Calculates, Moves, Compares, LogicalOf, Converts, store_code, updating, Follows, RunsRuntime, Allocates}

-- how many arguments there are
abbrev pub count : TypedArguments → ℕ
count typed.NoArgument = 0
count (typed.AndArgument all e) = suc (count all)

-- a place that is no choice between two structs, so that the node of its address is known from the text
abbrev pub IsFixed : TypedPlace → Type 0
IsFixed (typed.ParenPlace at p) = IsFixed p
IsFixed (typed.StructAssign p at q) = IsFixed p
IsFixed (typed.StructConditional c at p q) = ⊥
IsFixed (typed.StructComma e p) = IsFixed p
IsFixed p = Unit {0}

-- the node of the address of such a place
abbrev pub node_in_place : Context → TypedPlace → NodeId
node_in_place k p = address_node (node_at k.table) p

abbrev mutual
  -- the code of an expression, which leaves its value in value v
  pub IsCodeOf : TypedExpr → Context → ℕ → Form
  IsCodeOf (typed.Integer of n at t) k v = Constant k v t (pos n)
  IsCodeOf (typed.Character z at t) k v = Constant k v t z
  IsCodeOf (typed.Enumerator name z t) k v = Constant k v t z
  IsCodeOf (typed.FunctionName name f node t) k v = Line (instr.Set (set.Function (value v) (record { 0 = f }) t) ∷ [])
  IsCodeOf (typed.RuntimeName name function t) k v = Never
  IsCodeOf (typed.Paren at e) k v = IsCodeOf e k v
  IsCodeOf (typed.Read p) k v = IsCodeOfPlace p k v (Follows (after.Load (place_type p) (place_at p)) v)
  IsCodeOf (typed.Unread p) k v = IsCodeOfPlace p k v (Follows after.Nothing v)
  IsCodeOf (typed.Decay p node t) k v =
      IsCodeOfPlace p k v (Follows (after.Decay (place_type p) (is_through_pointer p) node (pointee_at k.table t) (place_at p)) v)
  IsCodeOf (typed.Convert which at t e) k v = Then (IsCodeOf e k v) (Converts which v at (type_of e) t)
  IsCodeOf (typed.Cast which at name e) k v = Then (IsCodeOf e k v) (Converts which v at (type_of e) (named_type name))
  IsCodeOf (typed.AddressOf at p node t) k v = IsCodeOfPlace p k v (Follows (after.Address node (place_type p)) v)
  IsCodeOf (typed.AddressOfElement at p t) k v = IsCodeOfPlace p k v (Follows after.Nothing v)
  IsCodeOf (typed.AddressOfFunction at e) k v = IsCodeOf e k v
  IsCodeOf (typed.FunctionAt at e) k v = IsCodeOf e k v
  IsCodeOf (typed.Prefix op at e t) k v = Then (IsCodeOf e k v) (Prefixes op v t)
  IsCodeOf (typed.SizeOfPlace at p n t) k v = Constant k v t (pos n)
  IsCodeOf (typed.SizeOfValue at e n t) k v = Constant k v t (pos n)
  IsCodeOf (typed.SizeOfType at paren name n t) k v = Constant k v t (pos n)
  IsCodeOf (typed.StepBefore which at p) k v =
      IsCodeOfPlace p k v (Follows (after.Step false which (is_pointer k (place_type p)) (place_type p) (place_at p) at) v)
  IsCodeOf (typed.StepAfter p which at) k v =
      IsCodeOfPlace p k v (Follows (after.Step true which (is_pointer k (place_type p)) (place_type p) (place_at p) at) v)
  IsCodeOf (typed.Arithmetic op a at b t) k v =
      Then (IsCodeOf a k v) (Then (IsCodeOf b k (suc v)) (Calculates (lowered op) v (type_of a) at))
  IsCodeOf (typed.Moved op which a at b t) k v =
      Then (IsCodeOf a k v) (Then (IsCodeOf b k (suc v)) (Moves which (is_subtract (operator_of op)) v (type_of a) (type_of b) at))
  IsCodeOf (typed.Difference a at b t) k v =
      Then (IsCodeOf a k v) (Then (IsCodeOf b k (suc v))
      (Line (instr.Point (point.Difference (value v) (value v) (type_of a) (value (suc v)) (type_of b) at) ∷ [])))
  IsCodeOf (typed.Compared op a at b t) k v =
      Then (IsCodeOf a k v) (Then (IsCodeOf b k (suc v)) (Compares (is_null a) (is_null b) op v (type_of a) (type_of b) at))
  IsCodeOf (typed.Logical op a at b t) k v =
      Then (IsCodeOf a k v) (LogicalOf (is_or op) v (Then (IsCodeOf b k v) (Line (instr.Calculate (calculate.Truth (value v) (value v)) ∷ []))))
  IsCodeOf (typed.Conditional c at a b t) k v = Then (IsCodeOf c k v) (Choice (value v) (IsCodeOf a k v) (IsCodeOf b k v))
  IsCodeOf (typed.PointerConditional c at a b n t) k v = Then (IsCodeOf c k v) (Choice (value v) (IsCodeOf a k v) (IsCodeOf b k v))
  IsCodeOf (typed.Comma a b) k v = Then (IsCodeOf a k v) (IsCodeOf b k v)
  IsCodeOf (typed.Assign p at e) k v = IsCodeOfPlace p k v (λ n.
      Then (IsCodeOf e k (suc v)) (Line (store_code n (place_type p) (place_at p) at v (value (suc v)) (value (suc v)))))
  IsCodeOf (typed.AssignWith op p at e u) k v = IsCodeOfPlace p k v (λ n.
      Then (IsCodeOf e k (suc v)) (Line (updating (is_pointer k (place_type p)) (lowered_assignment op) (is_subtract (operator_of_assignment op))
      n (place_type p) u (place_at p) at v)))
  IsCodeOf (typed.Call f at arguments t) k v =
      Then (IsCodeOf f k v) (Then (IsCodeOfArguments arguments k (suc v))
      (Line (instr.Call (record { into = value v; callee = value v; ty = type_of f; first = suc v; count = count arguments; place = at }) ∷ [])))
  IsCodeOf (typed.CallRuntime which f at arguments t) k v =
      Then (IsCodeOfArguments arguments k (suc v)) (RunsRuntime which (count arguments) v)
  IsCodeOf (typed.Allocate which f at arguments node t) k v =
      Then (IsCodeOfArguments arguments k (suc v)) (Allocates which (count arguments) v node (pointee_at k.table t) at)
  IsCodeOf (typed.AllocateFor which f at arguments t) k v =
      Then (IsCodeOfArguments arguments k (suc v)) (Allocates which (count arguments) v (node_of k t) (pointee_at k.table t) at)

  -- the code of arguments, which leaves them in the values from v on
  pub IsCodeOfArguments : TypedArguments → Context → ℕ → Form
  IsCodeOfArguments typed.NoArgument k v = Line []
  IsCodeOfArguments (typed.AndArgument all e) k v = Then (IsCodeOfArguments all k v) (IsCodeOf e k (v + count all))

  -- The code of a place, which leaves its address in value v, with what comes after, by the node of the address. What comes after a choice
  -- between two structs stands on both sides.
  pub IsCodeOfPlace : TypedPlace → Context → ℕ → (NodeId → Form) → Form
  IsCodeOfPlace (typed.Variable name node t) k v next = Then (Objects k v node t) (next node)
  IsCodeOfPlace (typed.String pieces node t) k v next = Then (Objects k v node t) (next node)
  IsCodeOfPlace (typed.ParenPlace at p) k v next = IsCodeOfPlace p k v next
  IsCodeOfPlace (typed.Target at e t) k v next = Then (IsCodeOf e k v) (next (node_of k (type_of e)))
  IsCodeOfPlace (typed.Element which a at b t) k v next =
      Then (Then (IsCodeOf a k v) (Then (IsCodeOf b k (suc v)) (Moves which false v (type_of a) (type_of b) at)))
      (next (node_of k (type_of (pointer_side which a b))))
  IsCodeOfPlace (typed.Member p at name i node t) k v next =
      Then (IsCodeOfPlace p k v (Follows (after.Member (place_type p) i node t at) v)) (next node)
  IsCodeOfPlace (typed.MemberAt e at name i node t) k v next =
      Then (Then (IsCodeOf e k v) (Follows (after.Member (pointee_at k.table (type_of e)) i node t at) v (node_of k (type_of e)))) (next node)
  IsCodeOfPlace (typed.StructAssign p at q) k v next = IsCodeOfPlace p k v (λ n.
      Then (IsCodeOfPlace q k (suc v) (Follows (after.Copy (target.Pointer (value v) n) (place_at p) (place_at q) (place_type p) at) (suc v))) (next n))
  IsCodeOfPlace (typed.StructConditional c at p q) k v next =
      Then (IsCodeOf c k v) (Choice (value v) (IsCodeOfPlace p k v next) (IsCodeOfPlace q k v next))
  IsCodeOfPlace (typed.StructComma e p) k v next = Then (IsCodeOf e k v) (IsCodeOfPlace p k v next)

-- The code of an expression, of arguments and of a place does what they do.
use Rattle.std.proofs.Common.{ℕ, suc, ◌+◌, refl, pos, true, false, List, [], ◌∷◌}
use Rattle.cc_base.specs.declared.number.NodeId.{NodeId}
use Rattle.runs.specs.Outcome.{done, from, ◌>>=◌}
use Rattle.integers.specs.Arithmetic.{truth}
use Rattle.c_tree.specs.Arithmetic.{operator_of}
use Rattle.c_tree.specs.TypedTree as typed
use Rattle.c_tree.specs.TypedTree.{TypedExpr, TypedPlace, TypedArguments}
use Rattle.c_tree.specs.TypedParts.{type_of, place_type, named_type, pointer_side, place_at, is_null}
use Rattle.src_mem.specs.Pointers.{Value, Integer, is_true}
use Rattle.src_mem.specs.State.{Act}
use Rattle.src_mem.specs.Operations.{node_in, pointee}
use Rattle.src_mem.specs.Values.{loaded, decayed_value, addressed, member_value, difference_value, allocated}
use Rattle.runtime_calls.specs.Meanings.{call_runtime, call_allocation}
use Rattle.src_machine.specs.World.{World}
use Rattle.src_machine.specs.Expressions.{Where, eval, eval_all, locate, locate_object, is_through_pointer, is_or, is_pointer_in, is_subtract, operator_of_step, operator_of_assignment, moved_by_side, prefixed, converted_value}
use Rattle.cil_form.specs.declared.instr.Set.TheVariants as set
use Rattle.cil_form.specs.declared.instr.Calculate.TheVariants as calculate
use Rattle.cil_form.specs.declared.instr.Point.TheVariants as point
use Rattle.cil_form.specs.declared.instr.Target.TheVariants as target
use Rattle.cil_form.specs.declared.instr.Access.TheVariants as access
use Rattle.cil_form.specs.declared.instr.Instr.{Instr}
use Rattle.cil_form.specs.declared.instr.Instr.TheVariants as instr
use Rattle.cil_form.specs.Computes.{Computes}
use Rattle.lower_rules.specs.declared.after.After.{After}
use Rattle.lower_rules.specs.declared.after.After.TheVariants as after
use Rattle.lower_rules.specs.Pieces.{Form, Line, Then}
use Rattle.lower_rules.specs.Words.{value, constant, Objects, Constant, lowered, lowered_assignment, lowered_step, Prefixes, Calculates, Moves, Compares, Converts, Follows, RunsRuntime, Allocates}
use Rattle.lower_rules.specs.Expressions.{count, IsCodeOf, IsCodeOfArguments, IsCodeOfPlace}
use Rattle.lower_means.proofs.Operators.{same-operator, same-step, same-assignment}
use Rattle.lower_means.proofs.Forms.{context_of, around_of, All, Finishes, Locates, line, finish-line, finish-none, two-line, then-finish, then-all, two, one-of, logicals, objects, located, follows, located-value, located-choice, located-comma}
use Rattle.lower_means.proofs.Values.{calculates, moves, compares, prefixes, converts}
use Rattle.lower_means.proofs.Updates.{assigns, step_at, steps, assigns-with, struct-assigns}
use Rattle.lower_means.proofs.Calls.{Rows, all-no-rows, all-more-rows, then-row, calls, runs, allocates}

-- What comes after the address of a place

pub nothing-after : (w : World) (t : ℕ) (n : NodeId) → Finishes w (Follows after.Nothing t n) done t
nothing-after w t n = follows w after.Nothing t n done (finish-none w done t (λ v s. refl))

constants : (w : World) (t : ℕ) (ty : _) (z : _) → All w (Constant (context_of w) t ty z) (done (Integer (constant w.setting.table ty z))) t
unfolding Constant
constants w t ty z =
    line w (instr.Set (set.Integer (value t) (constant w.setting.table ty z) ty)) (done (Integer (constant w.setting.table ty z))) t (λ c. refl)

mutual
  -- `Z` is not used: the functions of a mutual block have to end in one universe, and a form of what follows is in the next
  pub meaning : (w : World) (e : TypedExpr) (Z : Type 0) (t : ℕ) (code : List Instr) → IsCodeOf e (context_of w) t code
      → Computes code (around_of w) (eval e w) t
  meaning w (typed.Integer of n at ty) Z t code h = constants w t ty (pos n) code h
  meaning w (typed.Character z at ty) Z t code h = constants w t ty z code h
  meaning w (typed.Enumerator name z ty) Z t code h = constants w t ty z code h
  meaning w (typed.FunctionName name f node ty) Z t code h =
      line w (instr.Set (set.Function (value t) (record { 0 = f }) ty)) (eval (typed.FunctionName name f node ty) w) t (λ c. refl) code h
  meaning w (typed.RuntimeName name function ty) Z t code h = absurd h
  meaning w (typed.Paren at e) Z t code h = meaning w e Z t code h
  meaning w (typed.Read p) Z t code h =
      located w (IsCodeOfPlace p (context_of w) t (Follows (after.Load (place_type p) (place_at p)) t)) (locate p w) t
      (Follows (after.Load (place_type p) (place_at p)) t) (λ l. loaded w.setting (place_at p) l.node (place_type p) l.address)
      (λ c d. locates w p t _ c d)
      (λ n. follows w (after.Load (place_type p) (place_at p)) t n (loaded w.setting (place_at p) n (place_type p))
      (finish-line w (instr.Access (access.Load (value t) (value t) n (place_type p) (place_at p))) (loaded w.setting (place_at p) n (place_type p)) t
      (λ c. refl)))
      code h
  meaning w (typed.Unread p) Z t code h =
      located w (IsCodeOfPlace p (context_of w) t (Follows after.Nothing t)) (locate p w) t (Follows after.Nothing t) (λ l. done l.address)
      (λ c d. locates w p t _ c d) (λ n. nothing-after w t n) code h
  meaning w (typed.Decay p node ty) Z t code h =
      located w (IsCodeOfPlace p (context_of w) t (Follows A t)) (locate p w) t (Follows A t)
      (λ l. decayed_value w.setting (place_at p) l.node (place_type p) (is_through_pointer p) node (pointee w.setting ty) l.address)
      (λ c d. locates w p t _ c d)
      (λ n. follows w A t n (decayed_value w.setting (place_at p) n (place_type p) (is_through_pointer p) node (pointee w.setting ty))
      (finish-line w (instr.Point (point.Decay (value t) (value t) n (place_type p) (is_through_pointer p) node (pointee w.setting ty) (place_at p)))
      (decayed_value w.setting (place_at p) n (place_type p) (is_through_pointer p) node (pointee w.setting ty)) t (λ c. refl))) code h
    where
      A : After
      A = after.Decay (place_type p) (is_through_pointer p) node (pointee w.setting ty) (place_at p)
  meaning w (typed.Convert which at ty e) Z t code h =
      then-finish w (IsCodeOf e (context_of w) t) (Converts which t at (type_of e) ty) (eval e w) (converted_value w which at (type_of e) ty) t
      (λ c d. meaning w e Z t c d) (converts w which t at (type_of e) ty) code h
  meaning w (typed.Cast which at name e) Z t code h =
      then-finish w (IsCodeOf e (context_of w) t) (Converts which t at (type_of e) (named_type name)) (eval e w)
      (converted_value w which at (type_of e) (named_type name)) t
      (λ c d. meaning w e Z t c d) (converts w which t at (type_of e) (named_type name)) code h
  meaning w (typed.AddressOf at p node ty) Z t code h =
      located w (IsCodeOfPlace p (context_of w) t (Follows (after.Address node (place_type p)) t)) (locate p w) t
      (Follows (after.Address node (place_type p)) t) (λ l. addressed w.setting node (place_type p) l.address) (λ c d. locates w p t _ c d)
      (λ n. follows w (after.Address node (place_type p)) t n (addressed w.setting node (place_type p))
      (finish-line w (instr.Point (point.Address (value t) (value t) n node (place_type p))) (addressed w.setting node (place_type p)) t
      (λ c. refl))) code h
  meaning w (typed.AddressOfElement at p ty) Z t code h =
      located w (IsCodeOfPlace p (context_of w) t (Follows after.Nothing t)) (locate p w) t (Follows after.Nothing t) (λ l. done l.address)
      (λ c d. locates w p t _ c d) (λ n. nothing-after w t n) code h
  meaning w (typed.AddressOfFunction at e) Z t code h = meaning w e Z t code h
  meaning w (typed.FunctionAt at e) Z t code h = meaning w e Z t code h
  meaning w (typed.Prefix op at e ty) Z t code h =
      then-finish w (IsCodeOf e (context_of w) t) (Prefixes op t ty) (eval e w) (prefixed w op ty) t (λ c d. meaning w e Z t c d)
      (prefixes w op t ty) code h
  meaning w (typed.SizeOfPlace at p n ty) Z t code h = constants w t ty (pos n) code h
  meaning w (typed.SizeOfValue at e n ty) Z t code h = constants w t ty (pos n) code h
  meaning w (typed.SizeOfType at paren name n ty) Z t code h = constants w t ty (pos n) code h
  meaning w (typed.StepBefore which at p) Z t code h =
      located w (IsCodeOfPlace p (context_of w) t (Follows A t)) (locate p w) t (Follows A t)
      (λ l. step_at w (is_pointer_in w (place_type p)) (operator_of_step which) (place_type p) (place_at p) at false l.node l.address)
      (λ c d. locates w p t _ c d)
      (λ n. follows w A t n (step_at w (is_pointer_in w (place_type p)) (operator_of_step which) (place_type p) (place_at p) at false n)
      (steps w t (is_pointer_in w (place_type p)) (lowered_step which) (operator_of_step which) (same-step which) (place_type p)
      (place_at p) at false n)) code h
    where
      A : After
      A = after.Step false which (is_pointer_in w (place_type p)) (place_type p) (place_at p) at
  meaning w (typed.StepAfter p which at) Z t code h =
      located w (IsCodeOfPlace p (context_of w) t (Follows A t)) (locate p w) t (Follows A t)
      (λ l. step_at w (is_pointer_in w (place_type p)) (operator_of_step which) (place_type p) (place_at p) at true l.node l.address)
      (λ c d. locates w p t _ c d)
      (λ n. follows w A t n (step_at w (is_pointer_in w (place_type p)) (operator_of_step which) (place_type p) (place_at p) at true n)
      (steps w t (is_pointer_in w (place_type p)) (lowered_step which) (operator_of_step which) (same-step which) (place_type p)
      (place_at p) at true n)) code h
    where
      A : After
      A = after.Step true which (is_pointer_in w (place_type p)) (place_type p) (place_at p) at
  meaning w (typed.Arithmetic op a at b ty) Z t code h =
      two w (IsCodeOf a (context_of w) t) (IsCodeOf b (context_of w) (suc t)) (Calculates (lowered op) t (type_of a) at) (eval a w) (eval b w) _ t
      (λ c d. meaning w a Z t c d) (λ c d. meaning w b Z (suc t) c d)
      (calculates w (lowered op) (operator_of op) (same-operator op) t (type_of a) at) code h
  meaning w (typed.Moved op which a at b ty) Z t code h =
      two w (IsCodeOf a (context_of w) t) (IsCodeOf b (context_of w) (suc t))
      (Moves which (is_subtract (operator_of op)) t (type_of a) (type_of b) at)
      (eval a w) (eval b w) _ t (λ c d. meaning w a Z t c d) (λ c d. meaning w b Z (suc t) c d)
      (moves w which (is_subtract (operator_of op)) t (type_of a) (type_of b) at) code h
  meaning w (typed.Difference a at b ty) Z t code h =
      two w (IsCodeOf a (context_of w) t) (IsCodeOf b (context_of w) (suc t)) (Line (I ∷ [])) (eval a w) (eval b w)
      (difference_value w.setting at (type_of a) (type_of b)) t (λ c d. meaning w a Z t c d) (λ c d. meaning w b Z (suc t) c d)
      (two-line w I (difference_value w.setting at (type_of a) (type_of b)) t (λ c. refl)) code h
    where
      I : Instr
      I = instr.Point (point.Difference (value t) (value t) (type_of a) (value (suc t)) (type_of b) at)
  meaning w (typed.Compared op a at b ty) Z t code h =
      two w (IsCodeOf a (context_of w) t) (IsCodeOf b (context_of w) (suc t)) (Compares (is_null a) (is_null b) op t (type_of a) (type_of b) at)
      (eval a w) (eval b w) _ t (λ c d. meaning w a Z t c d) (λ c d. meaning w b Z (suc t) c d)
      (compares w (is_null a) (is_null b) op t (type_of a) (type_of b) at) code h
  meaning w (typed.Logical op a at b ty) Z t code h =
      logicals w (is_or op) (IsCodeOf a (context_of w) t) (Then (IsCodeOf b (context_of w) t) (Line (I ∷ []))) (eval a w)
      (eval b w >>= (λ u. done (Integer (truth (is_true u))))) t (λ c d. meaning w a Z t c d)
      (then-finish w (IsCodeOf b (context_of w) t) (Line (I ∷ [])) (eval b w) (λ u. done (Integer (truth (is_true u)))) t (λ c d. meaning w b Z t c d)
      (finish-line w I (λ u. done (Integer (truth (is_true u)))) t (λ c. refl))) code h
    where
      I : Instr
      I = instr.Calculate (calculate.Truth (value t) (value t))
  meaning w (typed.Conditional c at a b ty) Z t code h =
      one-of w (IsCodeOf c (context_of w) t) (IsCodeOf a (context_of w) t) (IsCodeOf b (context_of w) t) (eval c w) (eval a w) (eval b w) t
      (λ x d. meaning w c Z t x d) (λ x d. meaning w a Z t x d) (λ x d. meaning w b Z t x d) code h
  meaning w (typed.PointerConditional c at a b n ty) Z t code h =
      one-of w (IsCodeOf c (context_of w) t) (IsCodeOf a (context_of w) t) (IsCodeOf b (context_of w) t) (eval c w) (eval a w) (eval b w) t
      (λ x d. meaning w c Z t x d) (λ x d. meaning w a Z t x d) (λ x d. meaning w b Z t x d) code h
  meaning w (typed.Comma a b) Z t code h =
      then-all w (IsCodeOf a (context_of w) t) (IsCodeOf b (context_of w) t) (eval a w) (eval b w) t
      (λ c d. meaning w a Z t c d) (λ c d. meaning w b Z t c d) code h
  meaning w (typed.Assign p at e) Z t code h =
      assigns w (IsCodeOf e (context_of w) (suc t)) (IsCodeOfPlace p (context_of w) t _) (locate p w) (eval e w) t (place_type p) (place_at p) at
      (λ c d. meaning w e Z (suc t) c d) (λ c d. locates w p t _ c d) code h
  meaning w (typed.AssignWith op p at e u) Z t code h =
      assigns-with w (IsCodeOf e (context_of w) (suc t)) (IsCodeOfPlace p (context_of w) t _) (locate p w) (eval e w) t
      (is_pointer_in w (place_type p))
      (lowered_assignment op) (operator_of_assignment op) (same-assignment op) (place_type p) u (place_at p) at
      (λ c d. meaning w e Z (suc t) c d) (λ c d. locates w p t _ c d) code h
  meaning w (typed.Call f at arguments ty) Z t code h =
      calls w (IsCodeOf f (context_of w) t) (IsCodeOfArguments arguments (context_of w) (suc t)) (eval f w) (eval_all arguments w) t (count arguments)
      (type_of f) at (λ c d. meaning w f Z t c d) (λ c d. rows w arguments Z (suc t) c d) code h
  meaning w (typed.CallRuntime which f at arguments ty) Z t code h =
      then-row w (IsCodeOfArguments arguments (context_of w) (suc t)) (RunsRuntime which (count arguments) t) (eval_all arguments w)
      (call_runtime which)
      t (count arguments) (λ c d. rows w arguments Z (suc t) c d) (runs w which t (count arguments)) code h
  meaning w (typed.Allocate which f at arguments node ty) Z t code h =
      then-row w (IsCodeOfArguments arguments (context_of w) (suc t)) (Allocates which (count arguments) t node (pointee w.setting ty) at)
      (eval_all arguments w) (λ vs. allocated w.setting at node (pointee w.setting ty)
      (call_allocation w.setting node (pointee w.setting ty) which vs))
      t (count arguments) (λ c d. rows w arguments Z (suc t) c d) (allocates w which t (count arguments) node (pointee w.setting ty) at) code h
  meaning w (typed.AllocateFor which f at arguments ty) Z t code h =
      then-row w (IsCodeOfArguments arguments (context_of w) (suc t))
      (Allocates which (count arguments) t (node_in w.setting ty) (pointee w.setting ty) at)
      (eval_all arguments w)
      (λ vs. allocated w.setting at (node_in w.setting ty) (pointee w.setting ty)
      (call_allocation w.setting (node_in w.setting ty) (pointee w.setting ty) which vs))
      t (count arguments) (λ c d. rows w arguments Z (suc t) c d)
      (allocates w which t (count arguments) (node_in w.setting ty) (pointee w.setting ty) at) code h

  pub rows : (w : World) (l : TypedArguments) (Z : Type 0) (t : ℕ) (code : List Instr) → IsCodeOfArguments l (context_of w) t code
      → Rows w (eval_all l w) t (count l) code
  rows w typed.NoArgument Z t code h = all-no-rows w t code h
  rows w (typed.AndArgument all e) Z t code h =
      all-more-rows w (IsCodeOfArguments all (context_of w) t) (IsCodeOf e (context_of w) (t + count all)) (eval_all all w) (eval e w) t (count all)
      (λ c d. rows w all Z t c d) (λ c d. meaning w e Z (t + count all) c d) code h

  pub locates : (w : World) (p : TypedPlace) (t : ℕ) (next : NodeId → Form) (code : List Instr) → IsCodeOfPlace p (context_of w) t next code
      → Locates w (locate p w) t next code
  locates w (typed.Variable name node ty) t next code h =
      located-value w (Objects (context_of w) t node ty) (locate_object w node ty) node t next (objects w node ty t) code h
  locates w (typed.String pieces node ty) t next code h =
      located-value w (Objects (context_of w) t node ty) (locate_object w node ty) node t next (objects w node ty t) code h
  locates w (typed.ParenPlace at p) t next code h = locates w p t next code h
  locates w (typed.Target at e ty) t next code h =
      located-value w (IsCodeOf e (context_of w) t) (eval e w) (node_in w.setting (type_of e)) t next (λ c d. meaning w e (Unit {0}) t c d) code h
  locates w (typed.Element which a at b ty) t next code h =
      located-value w (Then (IsCodeOf a (context_of w) t) (Then (IsCodeOf b (context_of w) (suc t)) (Moves which false t (type_of a) (type_of b) at)))
      (λ s. from (eval a w s) (λ v r. from (eval b w r) (λ u. moved_by_side w at which false (type_of a) (type_of b) v u)))
      (node_in w.setting (type_of (pointer_side which a b))) t next
      (two w (IsCodeOf a (context_of w) t) (IsCodeOf b (context_of w) (suc t)) (Moves which false t (type_of a) (type_of b) at) (eval a w) (eval b w)
      (moved_by_side w at which false (type_of a) (type_of b)) t (λ c d. meaning w a (Unit {0}) t c d) (λ c d. meaning w b (Unit {0}) (suc t) c d)
      (moves w which false t (type_of a) (type_of b) at)) code h
  locates w (typed.Member p at name i node ty) t next code h =
      located-value w (IsCodeOfPlace p (context_of w) t (Follows A t)) (λ s. from (locate p w s) F) node t next
      (located w (IsCodeOfPlace p (context_of w) t (Follows A t)) (locate p w) t (Follows A t) F (λ c d. locates w p t _ c d)
      (λ n. follows w A t n (member_value w.setting at n (place_type p) i node ty)
      (finish-line w (instr.Point (point.Member (value t) (value t) n (place_type p) i node ty at))
      (member_value w.setting at n (place_type p) i node ty)
      t (λ c. refl)))) code h
    where
      A : After
      A = after.Member (place_type p) i node ty at

      F : Where → Act Value
      F = λ l. member_value w.setting at l.node (place_type p) i node ty l.address
  locates w (typed.MemberAt e at name i node ty) t next code h =
      located-value w (Then (IsCodeOf e (context_of w) t) (Follows A t N)) (λ s. from (eval e w s) F) node t next
      (then-finish w (IsCodeOf e (context_of w) t) (Follows A t N) (eval e w) F t (λ c d. meaning w e (Unit {0}) t c d)
      (follows w A t N F (finish-line w (instr.Point (point.Member (value t) (value t) N (pointee w.setting (type_of e)) i node ty at)) F t
      (λ c. refl)))) code h
    where
      A : After
      A = after.Member (pointee w.setting (type_of e)) i node ty at

      N : NodeId
      N = node_in w.setting (type_of e)

      F : Value → Act Value
      F = member_value w.setting at (node_in w.setting (type_of e)) (pointee w.setting (type_of e)) i node ty
  locates w (typed.StructAssign p at q) t next code h =
      struct-assigns w (IsCodeOfPlace p (context_of w) t _)
      (λ n. IsCodeOfPlace q (context_of w) (suc t)
      (Follows (after.Copy (target.Pointer (value t) n) (place_at p) (place_at q) (place_type p) at) (suc t)))
      (locate p w) (locate q w) t next (place_type p) (place_at p) (place_at q) at
      (λ n y d. locates w q (suc t) _ y d) (λ c d. locates w p t _ c d) code h
  locates w (typed.StructConditional c at p q) t next code h =
      located-choice w (IsCodeOf c (context_of w) t) (IsCodeOfPlace p (context_of w) t next) (IsCodeOfPlace q (context_of w) t next) (eval c w)
      (locate p w) (locate q w) t next (λ x d. meaning w c (Unit {0}) t x d) (λ x d. locates w p t next x d) (λ x d. locates w q t next x d) code h
  locates w (typed.StructComma e p) t next code h =
      located-comma w (IsCodeOf e (context_of w) t) (IsCodeOfPlace p (context_of w) t next) (eval e w) (locate p w) t next
      (λ c d. meaning w e (Unit {0}) t c d) (λ c d. locates w p t next c d) code h

pub means : (w : World) (e : TypedExpr) (t : ℕ) (code : List Instr) → IsCodeOf e (context_of w) t code → Computes code (around_of w) (eval e w) t
means w e t code h = meaning w e (Unit {0}) t code h

-- The code of an expression and of a place converts no pointer to an integer, where the tree is ready.
use Rattle.std.proofs.Common.{ℕ, ℤ, suc, ◌+◌, sym, subst, Bool, true, false, List, [], ◌∷◌, Option, Some, None, pos}
use Rattle.cc_base.specs.declared.place.Place.{Place}
use Rattle.cc_base.specs.declared.number.NodeId.{NodeId}
use Rattle.cc_base.specs.declared.number.TypeId.{TypeId}
use Rattle.c_tree.specs.Arithmetic.{operator_of}
use Rattle.c_tree.specs.TypedTree as typed
use Rattle.c_tree.specs.TypedTree.{TypedExpr, TypedPlace, TypedArguments}
use Rattle.c_tree.specs.TypedParts.{type_of, place_type, place_at, named_type, pointer_side, is_null}
use Rattle.c_tree.specs.declared.operator.Binary.{Binary}
use Rattle.c_tree.specs.declared.operator.Unary.{Unary}
use Rattle.c_tree.specs.declared.operator.Unary.TheVariants as unary
use Rattle.c_tree.specs.declared.typed_word.Conversion.{Conversion}
use Rattle.c_tree.specs.declared.typed_word.Conversion.TheVariants as conversion
use Rattle.c_tree.specs.declared.typed_word.Runtime.{Runtime}
use Rattle.c_tree.specs.declared.typed_word.Runtime.TheVariants as function
use Rattle.c_tree.specs.declared.typed_word.Side.{Side}
use Rattle.c_tree.specs.declared.typed_word.Side.TheVariants as side
use Rattle.c_ready.specs.Ready.{Stage, Fits, IsReady, IsReadyPlace, AreReady}
use Rattle.src_mem.specs.Operations.{pointee_at}
use Rattle.src_machine.specs.Expressions.{is_or, is_subtract, operator_of_step, operator_of_assignment, is_through_pointer, same_type}
use Rattle.cil_form.specs.declared.number.Temp.{Temp}
use Rattle.cil_form.specs.declared.instr.Calculate.TheVariants as calculate
use Rattle.cil_form.specs.declared.instr.Comparison.{Comparison}
use Rattle.cil_form.specs.declared.instr.Operator.{Operator}
use Rattle.cil_form.specs.declared.instr.Point.TheVariants as point
use Rattle.cil_form.specs.declared.instr.Set.TheVariants as set
use Rattle.cil_form.specs.declared.instr.Target.TheVariants as target
use Rattle.cil_form.specs.declared.instr.Instr.{Instr}
use Rattle.cil_form.specs.declared.instr.Instr.TheVariants as instr
use Rattle.cil_facts.specs.Whole.{CodeNumbersNone}
use Rattle.lower_rules.specs.declared.after.After.{After}
use Rattle.lower_rules.specs.declared.after.After.TheVariants as after
use Rattle.lower_rules.specs.Pieces.{Form, Line, Then, When}
use Rattle.lower_rules.specs.Words as lowered
use Rattle.lower_rules.specs.Words.{value, work, node_of, is_pointer, Objects, Constant, Truth, Prefixes, Calculates, Moves, Compares, ComparesBy, comparison_of, LogicalOf, Converts, convert_code, update_code, step_code, store_code, updating, after_code, Follows, RunsRuntime, Allocates}
use Rattle.lower_rules.specs.Expressions.{count, IsCodeOf, IsCodeOfPlace, IsCodeOfArguments}
use Rattle.units_are_safe.proofs.Forms.{Spares, line, then, choice, two, sides}

-- Words

constant : (k : lowered.Context) (t : ℕ) (ty : TypeId) (z : ℤ) → Spares (Constant k t ty z)
unfolding Constant
constant k t ty z = line (instr.Set (set.Integer (value t) (lowered.constant k.table ty z) ty) ∷ []) (tt, tt)

objects : (k : lowered.Context) (t : ℕ) (home : NodeId) (ty : TypeId) → Spares (Objects k t home ty)
unfolding Objects
objects k t home ty c d = subst CodeNumbersNone (sym d.2) (tt, tt)

-- no conversion that fits makes a number of a pointer
converts : (s : Stage) (which : Conversion) (t : ℕ) (at : Place) (from to : TypeId) → Fits s which from to → Spares (Converts which t at from to)
unfolding Converts Line
converts s conversion.IntegerToInteger t at from to fits c d = subst CodeNumbersNone (sym d) (tt, tt)
converts s conversion.IntegerToPointer t at from to fits c d = subst CodeNumbersNone (sym d) (tt, tt)
converts s conversion.PointerToInteger t at from to fits c d = absurd fits
converts s conversion.PointerToPointer t at from to fits c d = subst CodeNumbersNone (sym d) (tt, tt)
converts s conversion.NullToPointer t at from to fits c d = subst CodeNumbersNone (sym d) (tt, tt)
converts s conversion.AllocationToPointer t at from to fits c d = subst CodeNumbersNone (sym d) tt
converts s conversion.ToVoid t at from to fits c d = subst CodeNumbersNone (sym d) tt

prefixes : (op : Unary) (t : ℕ) (ty : TypeId) → Spares (Prefixes op t ty)
unfolding Prefixes Line
prefixes unary.Plus t ty c d = subst CodeNumbersNone (sym d) tt
prefixes unary.Minus t ty c d = subst CodeNumbersNone (sym d) (tt, tt)
prefixes unary.Complement t ty c d = subst CodeNumbersNone (sym d) (tt, tt)
prefixes unary.Not t ty c d = subst CodeNumbersNone (sym d) (tt, tt)
prefixes other t ty c d = absurd d

moves : (which : Side) (back : Bool) (t : ℕ) (u v : TypeId) (at : Place) → Spares (Moves which back t u v at)
unfolding Moves Line
moves side.Left back t u v at c d = subst CodeNumbersNone (sym d) (tt, tt)
moves side.Right back t u v at c d = subst CodeNumbersNone (sym d) (tt, tt)

compares-by : (o : Option Comparison) (t : ℕ) (u v : TypeId) (at : Place) → Spares (ComparesBy o t u v at)
unfolding ComparesBy Line
compares-by None t u v at c d = absurd d
compares-by (Some o) t u v at c d = subst CodeNumbersNone (sym d) (tt, tt)

compares : (p q : Bool) (op : Binary) (t : ℕ) (u v : TypeId) (at : Place) → Spares (Compares p q op t u v at)
unfolding Compares Line
compares true q op t u v at c d = subst CodeNumbersNone (sym d) (tt, tt)
compares false true op t u v at c d = subst CodeNumbersNone (sym d) (tt, tt)
compares false false op t u v at c d = compares-by (comparison_of op) t u v at c d

runtime-calls : (which : Runtime) (l t : ℕ) → Spares (RunsRuntime which l t)
unfolding RunsRuntime When Line
runtime-calls function.Getchar l t c d = subst CodeNumbersNone (sym d.1) (tt, tt)
runtime-calls function.Putchar l t c d = subst CodeNumbersNone (sym d.1) (tt, tt)
runtime-calls function.Free l t c d = subst CodeNumbersNone (sym d.1) (tt, tt)
runtime-calls function.Exit l t c d = subst CodeNumbersNone (sym d.1) (tt, tt)
runtime-calls other l t c d = absurd d

allocates : (which : Runtime) (l t : ℕ) (node : NodeId) (ty : TypeId) (at : Place) → Spares (Allocates which l t node ty at)
unfolding Allocates When Line
allocates function.Malloc l t node ty at c d = subst CodeNumbersNone (sym d.1) (tt, tt)
allocates function.Calloc l t node ty at c d = subst CodeNumbersNone (sym d.1) (tt, tt)
allocates other l t node ty at c d = absurd d

stepped : (pointer back : Bool) (o : Operator) (old : Temp) (ty : TypeId) (at : Place) (rest : List Instr) → CodeNumbersNone rest
    → CodeNumbersNone (step_code pointer back o old ty at rest)
stepped true back o old ty at rest h = (tt, (tt, h))
stepped false back o old ty at rest h = (tt, (tt, h))

converted : (c : Bool) (t : Temp) (u : TypeId) (rest : List Instr) → CodeNumbersNone rest → CodeNumbersNone (convert_code c t u rest)
converted true t u rest h = h
converted false t u rest h = (tt, h)

updated : (pointer back : Bool) (o : Operator) (old by : Temp) (ty u : TypeId) (at : Place) (rest : List Instr) → CodeNumbersNone rest
    → CodeNumbersNone (update_code pointer back o old by ty u at rest)
updated true back o old by ty u at rest h = (tt, h)
updated false back o old by ty u at rest h =
    converted (same_type ty u) old u (instr.Calculate (calculate.Binary old o old by u at) ∷ convert_code (same_type ty u) old ty rest)
    (tt, converted (same_type ty u) old ty rest h)

updating-spares : (pointer : Bool) (o : Operator) (back : Bool) (node : NodeId) (ty u : TypeId) (own at : Place) (t : ℕ)
    → CodeNumbersNone (updating pointer o back node ty u own at t)
updating-spares pointer o back node ty u own at t = (
  tt,
  updated pointer back o (value (suc (suc t))) (value (suc t)) ty u at
      (store_code node ty own at t (value (suc (suc t))) (value (suc (suc t)))) (tt, (tt, tt)),
)

after-spares : (a : After) (t : ℕ) (node : NodeId) → CodeNumbersNone (after_code a t node)
after-spares after.Nothing t node = tt
after-spares (after.Load ty at) t node = (tt, tt)
after-spares (after.Decay array check inner element at) t node = (tt, tt)
after-spares (after.Address inner ty) t node = (tt, tt)
after-spares (after.Member ty i inner u at) t node = (tt, tt)
after-spares (after.Copy to to_place from_place ty at) t node = (tt, tt)
after-spares (after.Step old which pointer ty own at) t node = (
  tt,
  stepped pointer (is_subtract (operator_of_step which)) (lowered.lowered_step which) (value (suc t)) ty at
      (store_code node ty own at t work (lowered.step_result old t)) (tt, (tt, tt)),
)

follows : (a : After) (t : ℕ) (node : NodeId) → Spares (Follows a t node)
unfolding Follows
follows a t node = line (after_code a t node) (after-spares a t node)

logical : (or : Bool) (t : ℕ) (P : Form) → Spares P → Spares (LogicalOf or t P)
unfolding LogicalOf
logical true t P p = choice (value t) (Truth t 1) P (line (instr.Set (set.Integer (value t) (pos 1) lowered.int) ∷ []) (tt, tt)) p
logical false t P p = choice (value t) P (Truth t 0) p (line (instr.Set (set.Integer (value t) (pos 0) lowered.int) ∷ []) (tt, tt))

-- Expressions and places

module _ (s : Stage) (k : lowered.Context) where
  mutual
    -- `Z` is not used: the functions of a mutual block have to end in one universe
    pub spares : (e : TypedExpr) (Z : Type 0) (t : ℕ) → IsReady s e → Spares (IsCodeOf e k t)
    spares (typed.Integer of z at ty) Z t r = constant k t ty (pos z)
    spares (typed.Character z at ty) Z t r = constant k t ty z
    spares (typed.Enumerator name z ty) Z t r = constant k t ty z
    spares (typed.FunctionName name number node ty) Z t r = line (instr.Set (set.Function (value t) (record { 0 = number }) ty) ∷ []) (tt, tt)
    spares (typed.RuntimeName name function ty) Z t r = absurd r
    spares (typed.Paren at e) Z t r = spares e Z t r
    spares (typed.Read p) Z t r =
        spares-place p t (Follows (after.Load (place_type p) (place_at p)) t) r.0 (λ o. follows (after.Load (place_type p) (place_at p)) t o)
    spares (typed.Unread p) Z t r = spares-place p t (Follows after.Nothing t) r.0 (λ o. follows after.Nothing t o)
    spares (typed.Decay p node ty) Z t r =
        spares-place p t (Follows (after.Decay (place_type p) (is_through_pointer p) node (pointee_at k.table ty) (place_at p)) t) r.0
        (λ o. follows (after.Decay (place_type p) (is_through_pointer p) node (pointee_at k.table ty) (place_at p)) t o)
    spares (typed.Convert which at ty e) Z t r =
        then (IsCodeOf e k t) (Converts which t at (type_of e) ty) (spares e Z t r.0) (converts s which t at (type_of e) ty r.1)
    spares (typed.Cast which at name e) Z t r =
        then (IsCodeOf e k t) (Converts which t at (type_of e) (named_type name)) (spares e Z t r.1)
        (converts s which t at (type_of e) (named_type name) r.2)
    spares (typed.AddressOf at p node ty) Z t r =
        spares-place p t (Follows (after.Address node (place_type p)) t) r.0 (λ o. follows (after.Address node (place_type p)) t o)
    spares (typed.AddressOfElement at p ty) Z t r = spares-place p t (Follows after.Nothing t) r.0 (λ o. follows after.Nothing t o)
    spares (typed.AddressOfFunction at e) Z t r = spares e Z t r.0
    spares (typed.FunctionAt at e) Z t r = spares e Z t r.0
    spares (typed.Prefix op at e ty) Z t r = then (IsCodeOf e k t) (Prefixes op t ty) (spares e Z t r.0) (prefixes op t ty)
    spares (typed.SizeOfPlace at p z ty) Z t r = constant k t ty (pos z)
    spares (typed.SizeOfValue at e z ty) Z t r = constant k t ty (pos z)
    spares (typed.SizeOfType at paren name z ty) Z t r = constant k t ty (pos z)
    spares (typed.StepBefore which at p) Z t r =
        spares-place p t (Follows (after.Step false which (is_pointer k (place_type p)) (place_type p) (place_at p) at) t) r.0
        (λ o. follows (after.Step false which (is_pointer k (place_type p)) (place_type p) (place_at p) at) t o)
    spares (typed.StepAfter p which at) Z t r =
        spares-place p t (Follows (after.Step true which (is_pointer k (place_type p)) (place_type p) (place_at p) at) t) r.0
        (λ o. follows (after.Step true which (is_pointer k (place_type p)) (place_type p) (place_at p) at) t o)
    spares (typed.Arithmetic op a at b ty) Z t r =
        two (IsCodeOf a k t) (IsCodeOf b k (suc t)) (Calculates (lowered.lowered op) t (type_of a) at) (spares a Z t r.0) (spares b Z (suc t) r.1)
        (line (instr.Calculate (calculate.Binary (value t) (lowered.lowered op) (value t) (value (suc t)) (type_of a) at) ∷ []) (tt, tt))
    spares (typed.Moved op which a at b ty) Z t r =
        two (IsCodeOf a k t) (IsCodeOf b k (suc t)) (Moves which (is_subtract (operator_of op)) t (type_of a) (type_of b) at) (spares a Z t r.0)
        (spares b Z (suc t) r.1) (moves which (is_subtract (operator_of op)) t (type_of a) (type_of b) at)
    spares (typed.Difference a at b ty) Z t r =
        two (IsCodeOf a k t) (IsCodeOf b k (suc t))
        (Line (instr.Point (point.Difference (value t) (value t) (type_of a) (value (suc t)) (type_of b) at) ∷ [])) (spares a Z t r.0)
        (spares b Z (suc t) r.1)
        (line (instr.Point (point.Difference (value t) (value t) (type_of a) (value (suc t)) (type_of b) at) ∷ []) (tt, tt))
    spares (typed.Compared op a at b ty) Z t r =
        two (IsCodeOf a k t) (IsCodeOf b k (suc t)) (Compares (is_null a) (is_null b) op t (type_of a) (type_of b) at) (spares a Z t r.0)
        (spares b Z (suc t) r.1) (compares (is_null a) (is_null b) op t (type_of a) (type_of b) at)
    spares (typed.Logical op a at b ty) Z t r =
        then (IsCodeOf a k t) (LogicalOf (is_or op) t P) (spares a Z t r.0)
        (logical (is_or op) t P
        (then (IsCodeOf b k t) (Line (instr.Calculate (calculate.Truth (value t) (value t)) ∷ [])) (spares b Z t r.1)
        (line (instr.Calculate (calculate.Truth (value t) (value t)) ∷ []) (tt, tt))))
      where
        P : Form
        P = Then (IsCodeOf b k t) (Line (instr.Calculate (calculate.Truth (value t) (value t)) ∷ []))
    spares (typed.Conditional c at a b ty) Z t r =
        sides (value t) (IsCodeOf c k t) (IsCodeOf a k t) (IsCodeOf b k t) (spares c Z t r.0) (spares a Z t r.1) (spares b Z t r.2)
    spares (typed.PointerConditional c at a b node ty) Z t r =
        sides (value t) (IsCodeOf c k t) (IsCodeOf a k t) (IsCodeOf b k t) (spares c Z t r.0) (spares a Z t r.1) (spares b Z t r.2)
    spares (typed.Comma a b) Z t r = then (IsCodeOf a k t) (IsCodeOf b k t) (spares a Z t r.0) (spares b Z t r.1)
    spares (typed.Assign p at e) Z t r =
        spares-place p t (λ o. Then (IsCodeOf e k (suc t)) (Line (store_code o (place_type p) (place_at p) at t (value (suc t)) (value (suc t))))) r.0
        (λ o. then (IsCodeOf e k (suc t)) (Line (store_code o (place_type p) (place_at p) at t (value (suc t)) (value (suc t))))
        (spares e Z (suc t) r.1) (line (store_code o (place_type p) (place_at p) at t (value (suc t)) (value (suc t))) (tt, (tt, tt))))
    spares (typed.AssignWith op p at e u) Z t r =
        spares-place p t (λ o. Then (IsCodeOf e k (suc t)) (Line (code o))) r.0
        (λ o. then (IsCodeOf e k (suc t)) (Line (code o)) (spares e Z (suc t) r.1)
        (line (code o) (updating-spares (is_pointer k (place_type p)) (lowered.lowered_assignment op) (is_subtract (operator_of_assignment op)) o
        (place_type p) u (place_at p) at t)))
      where
        code : NodeId → List Instr
        code o = updating (is_pointer k (place_type p)) (lowered.lowered_assignment op) (is_subtract (operator_of_assignment op)) o (place_type p) u
            (place_at p) at t
    spares (typed.Call g at l ty) Z t r =
        then (IsCodeOf g k t) (Then (IsCodeOfArguments l k (suc t)) (Line (call ∷ []))) (spares g Z t r.0)
        (then (IsCodeOfArguments l k (suc t)) (Line (call ∷ [])) (spares-rows l Z (suc t) r.1) (line (call ∷ []) (tt, tt)))
      where
        call : Instr
        call = instr.Call (record { into = value t; callee = value t; ty = type_of g; first = suc t; count = count l; place = at })
    spares (typed.CallRuntime which g at l ty) Z t r =
        then (IsCodeOfArguments l k (suc t)) (RunsRuntime which (count l) t) (spares-rows l Z (suc t) r.0) (runtime-calls which (count l) t)
    spares (typed.Allocate which g at l node ty) Z t r =
        then (IsCodeOfArguments l k (suc t)) (Allocates which (count l) t node (pointee_at k.table ty) at) (spares-rows l Z (suc t) r.0)
        (allocates which (count l) t node (pointee_at k.table ty) at)
    spares (typed.AllocateFor which g at l ty) Z t r =
        then (IsCodeOfArguments l k (suc t)) (Allocates which (count l) t (node_of k ty) (pointee_at k.table ty) at) (spares-rows l Z (suc t) r.0)
        (allocates which (count l) t (node_of k ty) (pointee_at k.table ty) at)

    pub spares-rows : (l : TypedArguments) (Z : Type 0) (t : ℕ) → AreReady s l → Spares (IsCodeOfArguments l k t)
    spares-rows typed.NoArgument Z t r = line [] tt
    spares-rows (typed.AndArgument all e) Z t r =
        then (IsCodeOfArguments all k t) (IsCodeOf e k (t + count all)) (spares-rows all Z t r.0) (spares e Z (t + count all) r.1)

    pub spares-place : (p : TypedPlace) (t : ℕ) (next : NodeId → Form) → IsReadyPlace s p → ((o : NodeId) → Spares (next o))
        → Spares (IsCodeOfPlace p k t next)
    spares-place (typed.Variable name home ty) t next r a = then (Objects k t home ty) (next home) (objects k t home ty) (a home)
    spares-place (typed.String pieces home ty) t next r a = then (Objects k t home ty) (next home) (objects k t home ty) (a home)
    spares-place (typed.ParenPlace at p) t next r a = spares-place p t next r a
    spares-place (typed.Target at e ty) t next r a =
        then (IsCodeOf e k t) (next (node_of k (type_of e))) (spares e (Unit {0}) t r.0) (a (node_of k (type_of e)))
    spares-place (typed.Element which x at y ty) t next r a =
        then (Then (IsCodeOf x k t) (Then (IsCodeOf y k (suc t)) (Moves which false t (type_of x) (type_of y) at))) (next node)
        (two (IsCodeOf x k t) (IsCodeOf y k (suc t)) (Moves which false t (type_of x) (type_of y) at) (spares x (Unit {0}) t r.0)
        (spares y (Unit {0}) (suc t) r.1) (moves which false t (type_of x) (type_of y) at)) (a node)
      where
        node : NodeId
        node = node_of k (type_of (pointer_side which x y))
    spares-place (typed.Member p at name i node ty) t next r a =
        then (IsCodeOfPlace p k t (Follows (after.Member (place_type p) i node ty at) t)) (next node)
        (spares-place p t (Follows (after.Member (place_type p) i node ty at) t) r.0 (λ o. follows (after.Member (place_type p) i node ty at) t o))
        (a node)
    spares-place (typed.MemberAt e at name i node ty) t next r a =
        then (Then (IsCodeOf e k t) (Follows A t (node_of k (type_of e)))) (next node)
        (then (IsCodeOf e k t) (Follows A t (node_of k (type_of e))) (spares e (Unit {0}) t r.0) (follows A t (node_of k (type_of e)))) (a node)
      where
        A : After
        A = after.Member (pointee_at k.table (type_of e)) i node ty at
    spares-place (typed.StructAssign p at q) t next r a =
        spares-place p t (λ o. Then (IsCodeOfPlace q k (suc t) (Follows (A o) (suc t))) (next o)) r.0
        (λ o. then (IsCodeOfPlace q k (suc t) (Follows (A o) (suc t))) (next o)
        (spares-place q (suc t) (Follows (A o) (suc t)) r.1 (λ u. follows (A o) (suc t) u)) (a o))
      where
        A : NodeId → After
        A o = after.Copy (target.Pointer (value t) o) (place_at p) (place_at q) (place_type p) at
    spares-place (typed.StructConditional c at p q) t next r a =
        sides (value t) (IsCodeOf c k t) (IsCodeOfPlace p k t next) (IsCodeOfPlace q k t next) (spares c (Unit {0}) t r.0)
        (spares-place p t next r.1 a) (spares-place q t next r.2 a)
    spares-place (typed.StructComma e p) t next r a =
        then (IsCodeOf e k t) (IsCodeOfPlace p k t next) (spares e (Unit {0}) t r.0) (spares-place p t next r.1 a)

  -- a place with what follows its address
  pub spares-followed : (p : TypedPlace) (t : ℕ) (a : After) → IsReadyPlace s p → Spares (IsCodeOfPlace p k t (Follows a t))
  spares-followed p t a r = spares-place p t (Follows a t) r (λ o. follows a t o)

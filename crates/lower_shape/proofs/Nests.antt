-- How deep the code of an expression is nested: less than the expression is high. What comes after a choice between two structs stands in both
-- sides of it, and is flat there.
use Rattle.std.proofs.Common.{ℕ, ℤ, suc, ◌<◌, ◌≤◌, ◌+◌, ◌-◌, max, ◌≡◌, ◌⊎◌, inl, inr, refl, ap, ◌∙◌, sym, subst, Bool, true, false, List, [], ◌∷◌, ◌++◌, arith, Option, Some, None, pos}
use Rattle.cc_base.specs.declared.place.Place.{Place}
use Rattle.cc_base.specs.declared.number.NodeId.{NodeId}
use Rattle.cc_base.specs.declared.number.TypeId.{TypeId}
use Rattle.c_tree.specs.Arithmetic.{operator_of}
use Rattle.c_tree.specs.Depth.{expr_height, arguments_height}
use Rattle.c_tree.specs.Erasure.{erased, erased_place, erased_arguments}
use Rattle.c_tree.specs.Tree as tree
use Rattle.c_tree.specs.TypedTree as typed
use Rattle.c_tree.specs.TypedTree.{TypedExpr, TypedPlace, TypedArguments}
use Rattle.c_tree.specs.TypedParts.{type_of, place_type, place_at, named_type, pointer_side, is_null}
use Rattle.c_tree.specs.declared.operator.Binary.{Binary}
use Rattle.c_tree.specs.declared.operator.Unary.{Unary}
use Rattle.c_tree.specs.declared.operator.Unary.TheVariants as unary
use Rattle.c_tree.specs.declared.typed_word.Conversion.{Conversion}
use Rattle.c_tree.specs.declared.typed_word.Conversion.TheVariants as conversion
use Rattle.c_tree.specs.declared.typed_word.Runtime.{Runtime}
use Rattle.c_tree.specs.declared.typed_word.Runtime.TheVariants as function
use Rattle.c_tree.specs.declared.typed_word.Side.{Side}
use Rattle.c_tree.specs.declared.typed_word.Side.TheVariants as side
use Rattle.c_ready.specs.Rows.{IsLvalue}
use Rattle.c_ready.specs.Ready.{Stage, IsReady, IsReadyPlace, AreReady}
use Rattle.src_mem.specs.Operations.{pointee_at}
use Rattle.src_machine.specs.Expressions.{is_or, is_subtract, operator_of_step, operator_of_assignment, is_through_pointer, same_type}
use Rattle.cil_form.specs.declared.number.Temp.{Temp}
use Rattle.cil_form.specs.declared.instr.Calculate.TheVariants as calculate
use Rattle.cil_form.specs.declared.instr.Comparison.{Comparison}
use Rattle.cil_form.specs.declared.instr.Operator.{Operator}
use Rattle.cil_form.specs.declared.instr.Point.TheVariants as point
use Rattle.cil_form.specs.declared.instr.Set.TheVariants as set
use Rattle.cil_form.specs.declared.instr.Target.TheVariants as target
use Rattle.cil_form.specs.declared.instr.Instr.{Instr, Row_of-Instr, end_of-Instr, more_of-Instr}
use Rattle.cil_form.specs.declared.instr.Instr.TheVariants as instr
use Rattle.cil_form.specs.declared.instr.Instr.TheBlock.{hidden-the_row-Instr-0, items-the_row-Instr, items_hidden-the_row-Instr-0}
use Rattle.cil_form.specs.declared.instr.Code.{Code}
use Rattle.cil_form.specs.Shape.{nest_of, nest_of_row, nest_of_code}
use Rattle.lower_rules.specs.declared.after.After.{After}
use Rattle.lower_rules.specs.declared.after.After.TheVariants as after
use Rattle.lower_rules.specs.Pieces.{Form, Line, Then, Choice, Blocked, Looped, When}
use Rattle.lower_rules.specs.Words as lowered
use Rattle.lower_rules.specs.Words.{value, work, node_of, is_pointer, Objects, Constant, Truth, Prefixes, Calculates, Moves, Compares, ComparesBy, comparison_of, LogicalOf, Converts, convert_code, update_code, step_code, store_code, updating, after_code, Follows, RunsRuntime, Allocates}
use Rattle.lower_rules.specs.Expressions.{count, IsCodeOf, IsCodeOfPlace, IsCodeOfArguments}

-- Forms

-- all code of the form is nested so deep at most
abbrev pub Nests : ℕ → Form → Type 0
Nests n P = (c : List Instr) → P c → nest_of_code c ≤ n

nest-append : (x y : List Instr) (n : ℕ) → nest_of_code x ≤ n → nest_of_code y ≤ n → nest_of_code (x ++ y) ≤ n
nest-append [] y n h l = l
nest-append (i ∷ x) y n h l = let r = nest-append x y n (omega (arith, h)) l in omega (arith, h, r)

nest-row : {m : _} (r : Row_of-Instr m) → nest_of_code (items-the_row-Instr m r) ≡ nest_of_row r
nest-row end_of-Instr = refl
nest-row (more_of-Instr i r) = ap (λ n. max (nest_of i) n) (nest-row r)

-- of the code that an instruction holds
nest-held : (x : Code) → nest_of_row (hidden-the_row-Instr-0 x.0) ≡ nest_of_code x.0.items
nest-held x = sym (nest-row (hidden-the_row-Instr-0 x.0)) ∙ ap nest_of_code (items_hidden-the_row-Instr-0 x.0)

pub nests-more : (P : Form) (m n : ℕ) → m ≤ n → Nests m P → Nests n P
nests-more P m n l h c d = omega (arith, l, h c d)

pub nests-line : (is : List Instr) (n : ℕ) → nest_of_code is ≤ n → Nests n (Line is)
unfolding Line
nests-line is n h c d = subst (λ z. nest_of_code z ≤ n) (sym d) h

pub nests-then : (P Q : Form) (n : ℕ) → Nests n P → Nests n Q → Nests n (Then P Q)
unfolding Then
nests-then P Q n p q c d = subst (λ z. nest_of_code z ≤ n) (sym d.4) (nest-append d.0 d.1 n (p d.0 d.2) (q d.1 d.3))

pub nests-choice : (t : Temp) (P Q : Form) (n : ℕ) → 0 < n → Nests (n - 1) P → Nests (n - 1) Q → Nests n (Choice t P Q)
unfolding Choice
nests-choice t P Q n some p q c d = subst (λ z. nest_of_code z ≤ n) (sym d.4) (both (p d.0.0.items d.2) (q d.1.0.items d.3))
  where
    both : nest_of_code d.0.0.items ≤ n - 1 → nest_of_code d.1.0.items ≤ n - 1 → nest_of_code (instr.If t d.0 d.1 ∷ []) ≤ n
    both h l = omega (arith, h, l, some, nest-held d.0, nest-held d.1)

pub nests-block : (P : Form) (n : ℕ) → 0 < n → Nests (n - 1) P → Nests n (Blocked P)
unfolding Blocked
nests-block P n some p c d = subst (λ z. nest_of_code z ≤ n) (sym d.2) (inner (p d.0.0.items d.1))
  where
    inner : nest_of_code d.0.0.items ≤ n - 1 → nest_of_code (instr.Block d.0 ∷ []) ≤ n
    inner h = omega (arith, h, some, nest-held d.0)

pub nests-loop : (P : Form) (n : ℕ) → 0 < n → Nests (n - 1) P → Nests n (Looped P)
unfolding Looped
nests-loop P n some p c d = subst (λ z. nest_of_code z ≤ n) (sym d.2) (inner (p d.0.0.items d.1))
  where
    inner : nest_of_code d.0.0.items ≤ n - 1 → nest_of_code (instr.Loop d.0 ∷ []) ≤ n
    inner h = omega (arith, h, some, nest-held d.0)

pub nests-two : (P Q R : Form) (n : ℕ) → Nests n P → Nests n Q → Nests n R → Nests n (Then P (Then Q R))
nests-two P Q R n p q r = nests-then P (Then Q R) n p (nests-then Q R n q r)

pub nests-sides : (t : Temp) (P Q R : Form) (n : ℕ) → 0 < n → Nests n P → Nests (n - 1) Q → Nests (n - 1) R → Nests n (Then P (Choice t Q R))
nests-sides t P Q R n some p q r = nests-then P (Choice t Q R) n p (nests-choice t Q R n some q r)

-- Words

constant-flat : (k : lowered.Context) (t n : ℕ) (ty : TypeId) (z : ℤ) → Nests n (Constant k t ty z)
unfolding Constant
constant-flat k t n ty z = nests-line (instr.Set (set.Integer (value t) (lowered.constant k.table ty z) ty) ∷ []) n (omega arith)

objects-flat : (k : lowered.Context) (t n : ℕ) (home : NodeId) (ty : TypeId) → Nests n (Objects k t home ty)
unfolding Objects
objects-flat k t n home ty c d = subst (λ z. nest_of_code z ≤ n) (sym d.2) (omega arith)

converts-flat : (which : Conversion) (t : ℕ) (at : Place) (from to : TypeId) (n : ℕ) → Nests n (Converts which t at from to)
unfolding Converts Line
converts-flat conversion.IntegerToInteger t at from to n c d = subst (λ z. nest_of_code z ≤ n) (sym d) (omega arith)
converts-flat conversion.IntegerToPointer t at from to n c d = subst (λ z. nest_of_code z ≤ n) (sym d) (omega arith)
converts-flat conversion.PointerToInteger t at from to n c d = subst (λ z. nest_of_code z ≤ n) (sym d) (omega arith)
converts-flat conversion.PointerToPointer t at from to n c d = subst (λ z. nest_of_code z ≤ n) (sym d) (omega arith)
converts-flat conversion.NullToPointer t at from to n c d = subst (λ z. nest_of_code z ≤ n) (sym d) (omega arith)
converts-flat conversion.AllocationToPointer t at from to n c d = subst (λ z. nest_of_code z ≤ n) (sym d) (omega arith)
converts-flat conversion.ToVoid t at from to n c d = subst (λ z. nest_of_code z ≤ n) (sym d) (omega arith)

prefixes-flat : (op : Unary) (t : ℕ) (ty : TypeId) (n : ℕ) → Nests n (Prefixes op t ty)
unfolding Prefixes Line
prefixes-flat unary.Plus t ty n c d = subst (λ z. nest_of_code z ≤ n) (sym d) (omega arith)
prefixes-flat unary.Minus t ty n c d = subst (λ z. nest_of_code z ≤ n) (sym d) (omega arith)
prefixes-flat unary.Complement t ty n c d = subst (λ z. nest_of_code z ≤ n) (sym d) (omega arith)
prefixes-flat unary.Not t ty n c d = subst (λ z. nest_of_code z ≤ n) (sym d) (omega arith)
prefixes-flat other t ty n c d = absurd d

moves-flat : (which : Side) (back : Bool) (t : ℕ) (u v : TypeId) (at : Place) (n : ℕ) → Nests n (Moves which back t u v at)
unfolding Moves Line
moves-flat side.Left back t u v at n c d = subst (λ z. nest_of_code z ≤ n) (sym d) (omega arith)
moves-flat side.Right back t u v at n c d = subst (λ z. nest_of_code z ≤ n) (sym d) (omega arith)

compares-by-flat : (o : Option Comparison) (t : ℕ) (u v : TypeId) (at : Place) (n : ℕ) → Nests n (ComparesBy o t u v at)
unfolding ComparesBy Line
compares-by-flat None t u v at n c d = absurd d
compares-by-flat (Some o) t u v at n c d = subst (λ z. nest_of_code z ≤ n) (sym d) (omega arith)

compares-flat : (p q : Bool) (op : Binary) (t : ℕ) (u v : TypeId) (at : Place) (n : ℕ) → Nests n (Compares p q op t u v at)
unfolding Compares Line
compares-flat true q op t u v at n c d = subst (λ z. nest_of_code z ≤ n) (sym d) (omega arith)
compares-flat false true op t u v at n c d = subst (λ z. nest_of_code z ≤ n) (sym d) (omega arith)
compares-flat false false op t u v at n c d = compares-by-flat (comparison_of op) t u v at n c d

runtime-flat : (which : Runtime) (l t n : ℕ) → Nests n (RunsRuntime which l t)
unfolding RunsRuntime When Line
runtime-flat function.Getchar l t n c d = subst (λ z. nest_of_code z ≤ n) (sym d.1) (omega arith)
runtime-flat function.Putchar l t n c d = subst (λ z. nest_of_code z ≤ n) (sym d.1) (omega arith)
runtime-flat function.Free l t n c d = subst (λ z. nest_of_code z ≤ n) (sym d.1) (omega arith)
runtime-flat function.Exit l t n c d = subst (λ z. nest_of_code z ≤ n) (sym d.1) (omega arith)
runtime-flat other l t n c d = absurd d

allocates-flat : (which : Runtime) (l t : ℕ) (node : NodeId) (ty : TypeId) (at : Place) (n : ℕ) → Nests n (Allocates which l t node ty at)
unfolding Allocates When Line
allocates-flat function.Malloc l t node ty at n c d = subst (λ z. nest_of_code z ≤ n) (sym d.1) (omega arith)
allocates-flat function.Calloc l t node ty at n c d = subst (λ z. nest_of_code z ≤ n) (sym d.1) (omega arith)
allocates-flat other l t node ty at n c d = absurd d

step-flat : (pointer back : Bool) (o : Operator) (old : Temp) (ty : TypeId) (at : Place) (rest : List Instr) → nest_of_code rest ≤ 0
    → nest_of_code (step_code pointer back o old ty at rest) ≤ 0
step-flat true back o old ty at rest h = omega (arith, h)
step-flat false back o old ty at rest h = omega (arith, h)

convert-flat : (c : Bool) (t : Temp) (u : TypeId) (rest : List Instr) → nest_of_code rest ≤ 0 → nest_of_code (convert_code c t u rest) ≤ 0
convert-flat true t u rest h = h
convert-flat false t u rest h = omega (arith, h)

update-flat : (pointer back : Bool) (o : Operator) (old by : Temp) (ty u : TypeId) (at : Place) (rest : List Instr) → nest_of_code rest ≤ 0
    → nest_of_code (update_code pointer back o old by ty u at rest) ≤ 0
update-flat true back o old by ty u at rest h = omega (arith, h)
update-flat false back o old by ty u at rest h =
    convert-flat (same_type ty u) old u (instr.Calculate (calculate.Binary old o old by u at) ∷ convert_code (same_type ty u) old ty rest)
    (calculated (convert-flat (same_type ty u) old ty rest h))
  where
    calculated : nest_of_code (convert_code (same_type ty u) old ty rest) ≤ 0
        → nest_of_code (instr.Calculate (calculate.Binary old o old by u at) ∷ convert_code (same_type ty u) old ty rest) ≤ 0
    calculated h = omega (arith, h)

updating-flat : (pointer : Bool) (o : Operator) (back : Bool) (node : NodeId) (ty u : TypeId) (own at : Place) (t : ℕ)
    → nest_of_code (updating pointer o back node ty u own at t) ≤ 0
updating-flat pointer o back node ty u own at t =
    loaded (update-flat pointer back o (value (suc (suc t))) (value (suc t)) ty u at stores (omega arith))
  where
    stores : List Instr
    stores = store_code node ty own at t (value (suc (suc t))) (value (suc (suc t)))

    loaded : nest_of_code (update_code pointer back o (value (suc (suc t))) (value (suc t)) ty u at stores) ≤ 0
        → nest_of_code (updating pointer o back node ty u own at t) ≤ 0
    loaded h = omega (arith, h)

after-flat : (a : After) (t : ℕ) (node : NodeId) → nest_of_code (after_code a t node) ≤ 0
after-flat after.Nothing t node = omega arith
after-flat (after.Load ty at) t node = omega arith
after-flat (after.Decay array check inner element at) t node = omega arith
after-flat (after.Address inner ty) t node = omega arith
after-flat (after.Member ty i inner u at) t node = omega arith
after-flat (after.Copy to to_place from_place ty at) t node = omega arith
after-flat (after.Step old which pointer ty own at) t node =
    loaded (step-flat pointer back (lowered.lowered_step which) (value (suc t)) ty at stores (omega arith))
  where
    back : Bool
    back = is_subtract (operator_of_step which)

    stores : List Instr
    stores = store_code node ty own at t work (lowered.step_result old t)

    loaded : nest_of_code (step_code pointer back (lowered.lowered_step which) (value (suc t)) ty at stores) ≤ 0
        → nest_of_code (after_code (after.Step old which pointer ty own at) t node) ≤ 0
    loaded h = omega (arith, h)

follows-flat : (a : After) (t : ℕ) (node : NodeId) (n : ℕ) → Nests n (Follows a t node)
unfolding Follows
follows-flat a t node n = nests-more (Line (after_code a t node)) 0 n (omega arith) (nests-line (after_code a t node) 0 (after-flat a t node))

logical-nests : (or : Bool) (t : ℕ) (P : Form) (n : ℕ) → 0 < n → Nests (n - 1) P → Nests n (LogicalOf or t P)
unfolding LogicalOf
logical-nests true t P n some p =
    nests-choice (value t) (Truth t 1) P n some (nests-line (instr.Set (set.Integer (value t) (pos 1) lowered.int) ∷ []) (n - 1) (omega arith)) p
logical-nests false t P n some p =
    nests-choice (value t) P (Truth t 0) n some p (nests-line (instr.Set (set.Integer (value t) (pos 0) lowered.int) ∷ []) (n - 1) (omega arith))

-- Heights

pub height-some : (x : tree.Expr) → 0 < expr_height x
height-some (tree.Name name) = omega arith
height-some (tree.Integer of v at) = omega arith
height-some (tree.Character v at) = omega arith
height-some (tree.String pieces) = omega arith
height-some (tree.Paren at e) = omega arith
height-some (tree.Index e at index) = omega arith
height-some (tree.Call f at arguments) = omega arith
height-some (tree.Member e operator at name) = omega arith
height-some (tree.Postfix e operator at) = omega arith
height-some (tree.Prefix operator at e) = omega arith
height-some (tree.SizeOfType at paren name) = omega arith
height-some (tree.Cast at to e) = omega arith
height-some (tree.Infix operator a at b) = omega arith
height-some (tree.Conditional c at a b) = omega arith
height-some (tree.Assign operator a at b) = omega arith
height-some (tree.Comma a b) = omega arith
height-some (tree.Compound at to brace) = omega arith
height-some (tree.SizeOfCompound at paren to brace) = omega arith

abbrev pub height : TypedExpr → ℕ
height e = expr_height (erased e)

-- what comes after a place is flat, or it comes after a place that is no choice
abbrev pub IsFlatOr : ℕ → TypedPlace → Type 0
IsFlatOr deep p = (deep ≡ 0) ⊎ IsLvalue p

module _ (s : Stage) (k : lowered.Context) where
  mutual
    -- `Z` is not used: the functions of a mutual block have to end in one universe
    pub nested : (e : TypedExpr) (Z : Type 0) (t n : ℕ) → IsReady s e → height e ≤ suc n → Nests n (IsCodeOf e k t)
    nested (typed.Integer of z at ty) Z t n r m = constant-flat k t n ty (pos z)
    nested (typed.Character z at ty) Z t n r m = constant-flat k t n ty z
    nested (typed.Enumerator name z ty) Z t n r m = constant-flat k t n ty z
    nested (typed.FunctionName name number node ty) Z t n r m =
        nests-line (instr.Set (set.Function (value t) (record { 0 = number }) ty) ∷ []) n (omega arith)
    nested (typed.RuntimeName name function ty) Z t n r m = absurd r
    nested (typed.Paren at e) Z t n r m = nested e Z t n r (omega (arith, m))
    nested (typed.Read p) Z t n r m = nested-place p t (Follows (after.Load (place_type p) (place_at p)) t) n 0 r.0
        (λ o. follows-flat (after.Load (place_type p) (place_at p)) t o 0) (inl refl)
        (omega arith) m
    nested (typed.Unread p) Z t n r m = nested-place p t (Follows after.Nothing t) n 0 r.0
        (λ o. follows-flat after.Nothing t o 0) (inl refl)
        (omega arith) m
    nested (typed.Decay p node ty) Z t n r m =
        nested-place p t (Follows (after.Decay (place_type p) (is_through_pointer p) node (pointee_at k.table ty) (place_at p)) t) n 0 r.0
        (λ o. follows-flat (after.Decay (place_type p) (is_through_pointer p) node (pointee_at k.table ty) (place_at p)) t o 0) (inl refl)
        (omega arith) m
    nested (typed.Convert which at ty e) Z t n r m =
        nests-then (IsCodeOf e k t) (Converts which t at (type_of e) ty) n (nested e Z t n r.0 m) (converts-flat which t at (type_of e) ty n)
    nested (typed.Cast which at name e) Z t n r m =
        nests-then (IsCodeOf e k t) (Converts which t at (type_of e) (named_type name)) n (nested e Z t n r.1 (omega (arith, m)))
        (converts-flat which t at (type_of e) (named_type name) n)
    nested (typed.AddressOf at p node ty) Z t n r m = nested-place p t (Follows (after.Address node (place_type p)) t) n 0 r.0
        (λ o. follows-flat (after.Address node (place_type p)) t o 0) (inl refl) (omega arith) (omega (arith, m))
    nested (typed.AddressOfElement at p ty) Z t n r m = nested-place p t (Follows after.Nothing t) n 0 r.0
        (λ o. follows-flat after.Nothing t o 0) (inl refl) (omega arith) (omega (arith, m))
    nested (typed.AddressOfFunction at e) Z t n r m = nested e Z t n r.0 (omega (arith, m))
    nested (typed.FunctionAt at e) Z t n r m = nested e Z t n r.0 (omega (arith, m))
    nested (typed.Prefix op at e ty) Z t n r m =
        nests-then (IsCodeOf e k t) (Prefixes op t ty) n (nested e Z t n r.0 (omega (arith, m))) (prefixes-flat op t ty n)
    nested (typed.SizeOfPlace at p z ty) Z t n r m = constant-flat k t n ty (pos z)
    nested (typed.SizeOfValue at e z ty) Z t n r m = constant-flat k t n ty (pos z)
    nested (typed.SizeOfType at paren name z ty) Z t n r m = constant-flat k t n ty (pos z)
    nested (typed.StepBefore which at p) Z t n r m =
        nested-place p t (Follows (after.Step false which (is_pointer k (place_type p)) (place_type p) (place_at p) at) t) n 0 r.0
        (λ o. follows-flat (after.Step false which (is_pointer k (place_type p)) (place_type p) (place_at p) at) t o 0) (inl refl)
        (omega arith) (omega (arith, m))
    nested (typed.StepAfter p which at) Z t n r m =
        nested-place p t (Follows (after.Step true which (is_pointer k (place_type p)) (place_type p) (place_at p) at) t) n 0 r.0
        (λ o. follows-flat (after.Step true which (is_pointer k (place_type p)) (place_type p) (place_at p) at) t o 0) (inl refl)
        (omega arith) (omega (arith, m))
    nested (typed.Arithmetic op a at b ty) Z t n r m =
        nests-two (IsCodeOf a k t) (IsCodeOf b k (suc t)) (Calculates (lowered.lowered op) t (type_of a) at) n
        (nested a Z t n r.0 (omega (arith, m))) (nested b Z (suc t) n r.1 (omega (arith, m)))
        (nests-line (instr.Calculate (calculate.Binary (value t) (lowered.lowered op) (value t) (value (suc t)) (type_of a) at) ∷ []) n (omega arith))
    nested (typed.Moved op which a at b ty) Z t n r m =
        nests-two (IsCodeOf a k t) (IsCodeOf b k (suc t)) (Moves which (is_subtract (operator_of op)) t (type_of a) (type_of b) at) n
        (nested a Z t n r.0 (omega (arith, m))) (nested b Z (suc t) n r.1 (omega (arith, m)))
        (moves-flat which (is_subtract (operator_of op)) t (type_of a) (type_of b) at n)
    nested (typed.Difference a at b ty) Z t n r m =
        nests-two (IsCodeOf a k t) (IsCodeOf b k (suc t))
        (Line (instr.Point (point.Difference (value t) (value t) (type_of a) (value (suc t)) (type_of b) at) ∷ [])) n
        (nested a Z t n r.0 (omega (arith, m))) (nested b Z (suc t) n r.1 (omega (arith, m)))
        (nests-line (instr.Point (point.Difference (value t) (value t) (type_of a) (value (suc t)) (type_of b) at) ∷ []) n (omega arith))
    nested (typed.Compared op a at b ty) Z t n r m =
        nests-two (IsCodeOf a k t) (IsCodeOf b k (suc t)) (Compares (is_null a) (is_null b) op t (type_of a) (type_of b) at) n
        (nested a Z t n r.0 (omega (arith, m))) (nested b Z (suc t) n r.1 (omega (arith, m)))
        (compares-flat (is_null a) (is_null b) op t (type_of a) (type_of b) at n)
    nested (typed.Logical op a at b ty) Z t n r m =
        nests-then (IsCodeOf a k t) (LogicalOf (is_or op) t P) n (nested a Z t n r.0 (omega (arith, m)))
        (logical-nests (is_or op) t P n (omega (arith, m, height-some (erased a)))
        (nests-then (IsCodeOf b k t) (Line (instr.Calculate (calculate.Truth (value t) (value t)) ∷ [])) (n - 1)
        (nested b Z t (n - 1) r.1 (omega (arith, m, height-some (erased a))))
        (nests-line (instr.Calculate (calculate.Truth (value t) (value t)) ∷ []) (n - 1) (omega arith))))
      where
        P : Form
        P = Then (IsCodeOf b k t) (Line (instr.Calculate (calculate.Truth (value t) (value t)) ∷ []))
    nested (typed.Conditional c at a b ty) Z t n r m =
        nests-sides (value t) (IsCodeOf c k t) (IsCodeOf a k t) (IsCodeOf b k t) n (omega (arith, m, height-some (erased c)))
        (nested c Z t n r.0 (omega (arith, m))) (nested a Z t (n - 1) r.1 (omega (arith, m, height-some (erased c))))
        (nested b Z t (n - 1) r.2 (omega (arith, m, height-some (erased c))))
    nested (typed.PointerConditional c at a b node ty) Z t n r m =
        nests-sides (value t) (IsCodeOf c k t) (IsCodeOf a k t) (IsCodeOf b k t) n (omega (arith, m, height-some (erased c)))
        (nested c Z t n r.0 (omega (arith, m))) (nested a Z t (n - 1) r.1 (omega (arith, m, height-some (erased c))))
        (nested b Z t (n - 1) r.2 (omega (arith, m, height-some (erased c))))
    nested (typed.Comma a b) Z t n r m =
        nests-then (IsCodeOf a k t) (IsCodeOf b k t) n (nested a Z t n r.0 (omega (arith, m))) (nested b Z t n r.1 (omega (arith, m)))
    nested (typed.Assign p at e) Z t n r m =
        nested-place p t (λ o. Then (IsCodeOf e k (suc t)) (Line (store_code o (place_type p) (place_at p) at t (value (suc t)) (value (suc t))))) n n
        r.0 (λ o. nests-then (IsCodeOf e k (suc t)) (Line (store_code o (place_type p) (place_at p) at t (value (suc t)) (value (suc t)))) n
        (nested e Z (suc t) n r.1 (omega (arith, m)))
        (nests-line (store_code o (place_type p) (place_at p) at t (value (suc t)) (value (suc t))) n (omega arith)))
        (inr r.2) (omega arith) (omega (arith, m))
    nested (typed.AssignWith op p at e u) Z t n r m =
        nested-place p t (λ o. Then (IsCodeOf e k (suc t)) (Line (code o))) n n r.0
        (λ o. nests-then (IsCodeOf e k (suc t)) (Line (code o)) n (nested e Z (suc t) n r.1 (omega (arith, m)))
        (nests-more (Line (code o)) 0 n (omega arith) (nests-line (code o) 0 (updating-flat (is_pointer k (place_type p))
        (lowered.lowered_assignment op) (is_subtract (operator_of_assignment op)) o (place_type p) u (place_at p) at t))))
        (inr r.2.1) (omega arith) (omega (arith, m))
      where
        code : NodeId → List Instr
        code o = updating (is_pointer k (place_type p)) (lowered.lowered_assignment op) (is_subtract (operator_of_assignment op)) o (place_type p) u
            (place_at p) at t
    nested (typed.Call g at l ty) Z t n r m =
        nests-then (IsCodeOf g k t) (Then (IsCodeOfArguments l k (suc t)) (Line (call ∷ []))) n (nested g Z t n r.0 (omega (arith, m)))
        (nests-then (IsCodeOfArguments l k (suc t)) (Line (call ∷ [])) n (nested-rows l Z (suc t) n r.1 (omega (arith, m)))
        (nests-line (call ∷ []) n (omega arith)))
      where
        call : Instr
        call = instr.Call (record { into = value t; callee = value t; ty = type_of g; first = suc t; count = count l; place = at })
    nested (typed.CallRuntime which g at l ty) Z t n r m =
        nests-then (IsCodeOfArguments l k (suc t)) (RunsRuntime which (count l) t) n (nested-rows l Z (suc t) n r.0 (omega (arith, m)))
        (runtime-flat which (count l) t n)
    nested (typed.Allocate which g at l node ty) Z t n r m =
        nests-then (IsCodeOfArguments l k (suc t)) (Allocates which (count l) t node (pointee_at k.table ty) at) n
        (nested-rows l Z (suc t) n r.0 (omega (arith, m))) (allocates-flat which (count l) t node (pointee_at k.table ty) at n)
    nested (typed.AllocateFor which g at l ty) Z t n r m =
        nests-then (IsCodeOfArguments l k (suc t)) (Allocates which (count l) t (node_of k ty) (pointee_at k.table ty) at) n
        (nested-rows l Z (suc t) n r.0 (omega (arith, m))) (allocates-flat which (count l) t (node_of k ty) (pointee_at k.table ty) at n)

    pub nested-rows : (l : TypedArguments) (Z : Type 0) (t n : ℕ) → AreReady s l → arguments_height (erased_arguments l) ≤ suc n
        → Nests n (IsCodeOfArguments l k t)
    nested-rows typed.NoArgument Z t n r m = nests-line [] n (omega arith)
    nested-rows (typed.AndArgument all e) Z t n r m =
        nests-then (IsCodeOfArguments all k t) (IsCodeOf e k (t + count all)) n (nested-rows all Z t n r.0 (omega (arith, m)))
        (nested e Z (t + count all) n r.1 (omega (arith, m)))

    pub nested-place : (p : TypedPlace) (t : ℕ) (next : NodeId → Form) (n deep : ℕ) → IsReadyPlace s p → ((o : NodeId) → Nests deep (next o))
        → IsFlatOr deep p → deep ≤ n → expr_height (erased_place p) ≤ suc n → Nests n (IsCodeOfPlace p k t next)
    nested-place (typed.Variable name home ty) t next n deep r a f l m =
        nests-then (Objects k t home ty) (next home) n (objects-flat k t n home ty) (nests-more (next home) deep n l (a home))
    nested-place (typed.String pieces home ty) t next n deep r a f l m =
        nests-then (Objects k t home ty) (next home) n (objects-flat k t n home ty) (nests-more (next home) deep n l (a home))
    nested-place (typed.ParenPlace at p) t next n deep r a f l m = nested-place p t next n deep r a f l (omega (arith, m))
    nested-place (typed.Target at e ty) t next n deep r a f l m =
        nests-then (IsCodeOf e k t) (next (node_of k (type_of e))) n (nested e (Unit {0}) t n r.0 (omega (arith, m)))
        (nests-more (next (node_of k (type_of e))) deep n l (a (node_of k (type_of e))))
    nested-place (typed.Element which x at y ty) t next n deep r a f l m =
        nests-then (Then (IsCodeOf x k t) (Then (IsCodeOf y k (suc t)) (Moves which false t (type_of x) (type_of y) at))) (next node) n
        (nests-two (IsCodeOf x k t) (IsCodeOf y k (suc t)) (Moves which false t (type_of x) (type_of y) at) n
        (nested x (Unit {0}) t n r.0 (omega (arith, m))) (nested y (Unit {0}) (suc t) n r.1 (omega (arith, m)))
        (moves-flat which false t (type_of x) (type_of y) at n)) (nests-more (next node) deep n l (a node))
      where
        node : NodeId
        node = node_of k (type_of (pointer_side which x y))
    nested-place (typed.Member p at name i node ty) t next n deep r a f l m =
        nests-then (IsCodeOfPlace p k t (Follows (after.Member (place_type p) i node ty at) t)) (next node) n
        (nested-place p t (Follows (after.Member (place_type p) i node ty at) t) n 0 r.0
        (λ o. follows-flat (after.Member (place_type p) i node ty at) t o 0) (inl refl) (omega arith) (omega (arith, m)))
        (nests-more (next node) deep n l (a node))
    nested-place (typed.MemberAt e at name i node ty) t next n deep r a f l m =
        nests-then (Then (IsCodeOf e k t) (Follows A t (node_of k (type_of e)))) (next node) n
        (nests-then (IsCodeOf e k t) (Follows A t (node_of k (type_of e))) n (nested e (Unit {0}) t n r.0 (omega (arith, m)))
        (follows-flat A t (node_of k (type_of e)) n)) (nests-more (next node) deep n l (a node))
      where
        A : After
        A = after.Member (pointee_at k.table (type_of e)) i node ty at
    nested-place (typed.StructAssign p at q) t next n deep r a f l m =
        nested-place p t (λ o. Then (IsCodeOfPlace q k (suc t) (Follows (A o) (suc t))) (next o)) n n r.0
        (λ o. nests-then (IsCodeOfPlace q k (suc t) (Follows (A o) (suc t))) (next o) n
        (nested-place q (suc t) (Follows (A o) (suc t)) n 0 r.1 (λ u. follows-flat (A o) (suc t) u 0) (inl refl) (omega arith) (omega (arith, m)))
        (nests-more (next o) deep n l (a o))) (inr r.2) (omega arith) (omega (arith, m))
      where
        A : NodeId → After
        A o = after.Copy (target.Pointer (value t) o) (place_at p) (place_at q) (place_type p) at
    nested-place (typed.StructConditional c at p q) t next n deep r a (inr g) l m = absurd (cc (g))
    nested-place (typed.StructConditional c at p q) t next n deep r a (inl g) l m =
        nests-then (IsCodeOf c k t) (Choice (value t) (IsCodeOfPlace p k t next) (IsCodeOfPlace q k t next)) n
        (nested c (Unit {0}) t n r.0 (omega (arith, m)))
        (nests-choice (value t) (IsCodeOfPlace p k t next) (IsCodeOfPlace q k t next) n (omega (arith, m, height-some (erased c)))
        (nested-place p t next (n - 1) deep r.1 a (inl g) (omega (arith, g)) (omega (arith, m, height-some (erased c))))
        (nested-place q t next (n - 1) deep r.2 a (inl g) (omega (arith, g)) (omega (arith, m, height-some (erased c)))))
    nested-place (typed.StructComma e p) t next n deep r a (inr g) l m = absurd (cc (g))
    nested-place (typed.StructComma e p) t next n deep r a (inl g) l m =
        nests-then (IsCodeOf e k t) (IsCodeOfPlace p k t next) n (nested e (Unit {0}) t n r.0 (omega (arith, m)))
        (nested-place p t next n deep r.1 a (inl g) l (omega (arith, m)))

  -- a place with what follows its address
  pub flat-place : (p : TypedPlace) (t : ℕ) (a : After) (n : ℕ) → IsReadyPlace s p → expr_height (erased_place p) ≤ suc n
      → Nests n (IsCodeOfPlace p k t (Follows a t))
  flat-place p t a n r m = nested-place p t (Follows a t) n 0 r (λ o. follows-flat a t o 0) (inl refl)
      (omega arith) m

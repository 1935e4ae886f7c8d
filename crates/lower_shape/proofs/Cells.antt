-- How many pointers the copies of an expression's code move: as many at most as are counted for its assignments of structs and unions.
use Rattle.std.specs.Prelude.{sum}
use Rattle.std.proofs.Common.{ℕ, ℤ, suc, ◌≤◌, ◌+◌, ◌≡◌, refl, ap, ◌∙◌, sym, subst, Bool, true, false, List, [], ◌∷◌, ◌++◌, flat_map, length, append_assoc, arith, Option, Some, None, pos}
use Rattle.std.proofs.lemmas.List.Sums.{sum_by-cons, sum_by-append}
use Rattle.cc_base.specs.declared.place.Place.{Place}
use Rattle.cc_base.specs.declared.number.NodeId.{NodeId}
use Rattle.cc_base.specs.declared.number.TypeId.{TypeId}
use Rattle.c_types.specs.Sound.{IsWellFormed}
use Rattle.c_types.specs.Table.{Table, shape_at}
use Rattle.c_tree.specs.Arithmetic.{operator_of}
use Rattle.c_tree.specs.TypedTree as typed
use Rattle.c_tree.specs.TypedTree.{TypedExpr, TypedPlace, TypedArguments}
use Rattle.c_tree.specs.TypedParts as made
use Rattle.c_tree.specs.TypedParts.{Made, type_of, place_type, place_at, named_type, pointer_side, is_null, made_by, made_by_place, made_by_arguments, made_by_type_name}
use Rattle.c_tree.specs.declared.operator.Binary.{Binary}
use Rattle.c_tree.specs.declared.operator.Unary.{Unary}
use Rattle.c_tree.specs.declared.operator.Unary.TheVariants as unary
use Rattle.c_tree.specs.declared.typed_word.Conversion.{Conversion}
use Rattle.c_tree.specs.declared.typed_word.Conversion.TheVariants as conversion
use Rattle.c_tree.specs.declared.typed_word.Runtime.{Runtime}
use Rattle.c_tree.specs.declared.typed_word.Runtime.TheVariants as function
use Rattle.c_tree.specs.declared.typed_word.Side.{Side}
use Rattle.c_tree.specs.declared.typed_word.Side.TheVariants as side
use Rattle.c_typing.specs.Cells.{pointers_in}
use Rattle.c_unit_typing.specs.Limits.{pointers_copied_by}
use Rattle.c_types.proofs.PointerCounts.{pointers_are}
use Rattle.c_ready.proofs.CellsMoved.{cells-most, offsets-most}
use Rattle.src_mem.specs.Operations.{pointee_at}
use Rattle.src_mem.specs.Uses.{pointer_offsets}
use Rattle.src_machine.specs.Expressions.{is_or, is_subtract, operator_of_step, operator_of_assignment, is_through_pointer, same_type}
use Rattle.cil_form.specs.declared.number.Temp.{Temp}
use Rattle.cil_form.specs.declared.instr.Calculate.TheVariants as calculate
use Rattle.cil_form.specs.declared.instr.Comparison.{Comparison}
use Rattle.cil_form.specs.declared.instr.Operator.{Operator}
use Rattle.cil_form.specs.declared.instr.Point.TheVariants as point
use Rattle.cil_form.specs.declared.instr.Set.TheVariants as set
use Rattle.cil_form.specs.declared.instr.Target.TheVariants as target
use Rattle.cil_form.specs.declared.instr.Instr.{Instr, Row_of-Instr, end_of-Instr, more_of-Instr}
use Rattle.cil_form.specs.declared.instr.Instr.TheVariants as instr
use Rattle.cil_form.specs.declared.instr.Instr.TheBlock.{hidden-the_row-Instr-0, items-the_row-Instr, items_hidden-the_row-Instr-0}
use Rattle.cil_form.specs.declared.instr.Code.{Code}
use Rattle.cil_form.specs.Shape.{cells_moved, cells_moved_by_row, cells_moved_by}
use Rattle.lower_rules.specs.declared.after.After.{After}
use Rattle.lower_rules.specs.declared.after.After.TheVariants as after
use Rattle.lower_rules.specs.Pieces.{Form, Line, Then, Choice, Blocked, Looped, When}
use Rattle.lower_rules.specs.Words as lowered
use Rattle.lower_rules.specs.Words.{value, work, node_of, is_pointer, Objects, Constant, Truth, Prefixes, Calculates, Moves, Compares, ComparesBy, comparison_of, LogicalOf, Converts, convert_code, update_code, step_code, store_code, updating, after_code, Follows, RunsRuntime, Allocates}
use Rattle.lower_rules.specs.Expressions.{count, IsCodeOf, IsCodeOfPlace, IsCodeOfArguments}

-- What is counted

-- the pointers that are counted for what is made
abbrev pub counted : Table → List Made → ℕ
counted T ms = sum (flat_map (pointers_copied_by T) ms)

sum-both : (xs ys : List ℕ) → sum (xs ++ ys) ≡ sum xs + sum ys
sum-both xs ys = sum_by-append (λ (k : ℕ). k) xs ys

flat-append : {A B : Type 0} (f : A → List B) (xs ys : List A) → flat_map f (xs ++ ys) ≡ flat_map f xs ++ flat_map f ys
flat-append f [] ys = refl
flat-append f (x ∷ xs) ys = ap (λ zs. f x ++ zs) (flat-append f xs ys) ∙ sym (append_assoc (f x) (flat_map f xs) (flat_map f ys))

pub counted-both : (T : Table) (xs ys : List Made) → counted T (xs ++ ys) ≡ counted T xs + counted T ys
counted-both T xs ys =
    ap sum (flat-append (pointers_copied_by T) xs ys) ∙ sum-both (flat_map (pointers_copied_by T) xs) (flat_map (pointers_copied_by T) ys)

-- a copy moves as many pointers at most as are counted for its type
pub copied-most : (T : Table) → IsWellFormed T → (t : TypeId) → length (pointer_offsets T t) ≤ pointers_in T t
copied-most T w t =
    omega (arith, offsets-most T w t (shape_at T t) refl, cells-most T w (pointers_in T) (λ u. pointers_are T w.order.0 w.order.1 u) t)

-- Forms

module _ (T : Table) where
  abbrev pub cells : List Instr → ℕ
  cells c = cells_moved_by c T

  -- all code of the form moves so many at most
  abbrev pub Moved : ℕ → Form → Type 0
  Moved n P = (c : List Instr) → P c → cells c ≤ n

  pub cells-append : (x y : List Instr) → cells (x ++ y) ≡ cells x + cells y
  cells-append x y = sum_by-append (λ i. cells_moved i T) x y

  cells-row : {m : _} (r : Row_of-Instr m) → cells (items-the_row-Instr m r) ≡ cells_moved_by_row r T
  cells-row end_of-Instr = refl
  cells-row (more_of-Instr i r) = sum_by-cons (λ j. cells_moved j T) i (items-the_row-Instr _ r) ∙ ap (λ n. cells_moved i T + n) (cells-row r)

  pub cells-held : (x : Code) → cells_moved_by_row (hidden-the_row-Instr-0 x.0) T ≡ cells x.0.items
  cells-held x = sym (cells-row (hidden-the_row-Instr-0 x.0)) ∙ ap cells (items_hidden-the_row-Instr-0 x.0)

  pub moved-more : (P : Form) (m n : ℕ) → m ≤ n → Moved m P → Moved n P
  moved-more P m n l h c d = omega (arith, l, h c d)

  pub moved-line : (is : List Instr) (n : ℕ) → cells is ≤ n → Moved n (Line is)
  unfolding Line
  moved-line is n h c d = subst (λ z. cells z ≤ n) (sym d) h

  pub moved-then : (P Q : Form) (m n : ℕ) → Moved m P → Moved n Q → Moved (m + n) (Then P Q)
  unfolding Then
  moved-then P Q m n p q c d =
      let r = cells-append d.0 d.1 in
      subst (λ z. cells z ≤ m + n) (sym d.4) (omega (arith, r, p d.0 d.2, q d.1 d.3))

  pub moved-choice : (t : Temp) (P Q : Form) (n : ℕ) → Moved n P → Moved n Q → Moved n (Choice t P Q)
  unfolding Choice
  moved-choice t P Q n p q c d =
      let a = cells-held d.0 in let b = cells-held d.1 in
      subst (λ z. cells z ≤ n) (sym d.4) (omega (arith, a, b, p d.0.0.items d.2, q d.1.0.items d.3))

  pub moved-block : (P : Form) (n : ℕ) → Moved n P → Moved n (Blocked P)
  unfolding Blocked
  moved-block P n p c d = let a = cells-held d.0 in subst (λ z. cells z ≤ n) (sym d.2) (omega (arith, a, p d.0.0.items d.1))

  pub moved-loop : (P : Form) (n : ℕ) → Moved n P → Moved n (Looped P)
  unfolding Looped
  moved-loop P n p c d = let a = cells-held d.0 in subst (λ z. cells z ≤ n) (sym d.2) (omega (arith, a, p d.0.0.items d.1))

  -- of two parts, with what comes of them
  moved-two : (P Q R : Form) (m n : ℕ) → Moved m P → Moved n Q → Moved 0 R → Moved (m + n) (Then P (Then Q R))
  moved-two P Q R m n p q r =
      moved-more (Then P (Then Q R)) (m + (n + 0)) (m + n) (omega arith) (moved-then P (Then Q R) m (n + 0) p (moved-then Q R n 0 q r))

  -- Words

  constant-still : (k : lowered.Context) (t : ℕ) (ty : TypeId) (z : ℤ) (n : ℕ) → Moved n (Constant k t ty z)
  unfolding Constant
  constant-still k t ty z n = moved-line (instr.Set (set.Integer (value t) (lowered.constant k.table ty z) ty) ∷ []) n (omega arith)

  objects-still : (k : lowered.Context) (t : ℕ) (home : NodeId) (ty : TypeId) → Moved 0 (Objects k t home ty)
  unfolding Objects
  objects-still k t home ty c d = subst (λ z. cells z ≤ 0) (sym d.2) (omega arith)

  converts-still : (which : Conversion) (t : ℕ) (at : Place) (from to : TypeId) → Moved 0 (Converts which t at from to)
  unfolding Converts Line
  converts-still conversion.IntegerToInteger t at from to c d = subst (λ z. cells z ≤ 0) (sym d) (omega arith)
  converts-still conversion.IntegerToPointer t at from to c d = subst (λ z. cells z ≤ 0) (sym d) (omega arith)
  converts-still conversion.PointerToInteger t at from to c d = subst (λ z. cells z ≤ 0) (sym d) (omega arith)
  converts-still conversion.PointerToPointer t at from to c d = subst (λ z. cells z ≤ 0) (sym d) (omega arith)
  converts-still conversion.NullToPointer t at from to c d = subst (λ z. cells z ≤ 0) (sym d) (omega arith)
  converts-still conversion.AllocationToPointer t at from to c d = subst (λ z. cells z ≤ 0) (sym d) (omega arith)
  converts-still conversion.ToVoid t at from to c d = subst (λ z. cells z ≤ 0) (sym d) (omega arith)

  prefixes-still : (op : Unary) (t : ℕ) (ty : TypeId) → Moved 0 (Prefixes op t ty)
  unfolding Prefixes Line
  prefixes-still unary.Plus t ty c d = subst (λ z. cells z ≤ 0) (sym d) (omega arith)
  prefixes-still unary.Minus t ty c d = subst (λ z. cells z ≤ 0) (sym d) (omega arith)
  prefixes-still unary.Complement t ty c d = subst (λ z. cells z ≤ 0) (sym d) (omega arith)
  prefixes-still unary.Not t ty c d = subst (λ z. cells z ≤ 0) (sym d) (omega arith)
  prefixes-still other t ty c d = absurd d

  moves-still : (which : Side) (back : Bool) (t : ℕ) (u v : TypeId) (at : Place) → Moved 0 (Moves which back t u v at)
  unfolding Moves Line
  moves-still side.Left back t u v at c d = subst (λ z. cells z ≤ 0) (sym d) (omega arith)
  moves-still side.Right back t u v at c d = subst (λ z. cells z ≤ 0) (sym d) (omega arith)

  compares-by-still : (o : Option Comparison) (t : ℕ) (u v : TypeId) (at : Place) → Moved 0 (ComparesBy o t u v at)
  unfolding ComparesBy Line
  compares-by-still None t u v at c d = absurd d
  compares-by-still (Some o) t u v at c d = subst (λ z. cells z ≤ 0) (sym d) (omega arith)

  compares-still : (p q : Bool) (op : Binary) (t : ℕ) (u v : TypeId) (at : Place) → Moved 0 (Compares p q op t u v at)
  unfolding Compares Line
  compares-still true q op t u v at c d = subst (λ z. cells z ≤ 0) (sym d) (omega arith)
  compares-still false true op t u v at c d = subst (λ z. cells z ≤ 0) (sym d) (omega arith)
  compares-still false false op t u v at c d = compares-by-still (comparison_of op) t u v at c d

  runtime-still : (which : Runtime) (l t : ℕ) → Moved 0 (RunsRuntime which l t)
  unfolding RunsRuntime When Line
  runtime-still function.Getchar l t c d = subst (λ z. cells z ≤ 0) (sym d.1) (omega arith)
  runtime-still function.Putchar l t c d = subst (λ z. cells z ≤ 0) (sym d.1) (omega arith)
  runtime-still function.Free l t c d = subst (λ z. cells z ≤ 0) (sym d.1) (omega arith)
  runtime-still function.Exit l t c d = subst (λ z. cells z ≤ 0) (sym d.1) (omega arith)
  runtime-still other l t c d = absurd d

  allocates-still : (which : Runtime) (l t : ℕ) (node : NodeId) (ty : TypeId) (at : Place) → Moved 0 (Allocates which l t node ty at)
  unfolding Allocates When Line
  allocates-still function.Malloc l t node ty at c d = subst (λ z. cells z ≤ 0) (sym d.1) (omega arith)
  allocates-still function.Calloc l t node ty at c d = subst (λ z. cells z ≤ 0) (sym d.1) (omega arith)
  allocates-still other l t node ty at c d = absurd d

  step-still : (pointer back : Bool) (o : Operator) (old : Temp) (ty : TypeId) (at : Place) (rest : List Instr) → cells rest ≤ 0
      → cells (step_code pointer back o old ty at rest) ≤ 0
  step-still true back o old ty at rest h = omega (arith, h)
  step-still false back o old ty at rest h = omega (arith, h)

  convert-still : (c : Bool) (t : Temp) (u : TypeId) (rest : List Instr) → cells rest ≤ 0 → cells (convert_code c t u rest) ≤ 0
  convert-still true t u rest h = h
  convert-still false t u rest h = omega (arith, h)

  update-still : (pointer back : Bool) (o : Operator) (old by : Temp) (ty u : TypeId) (at : Place) (rest : List Instr) → cells rest ≤ 0
      → cells (update_code pointer back o old by ty u at rest) ≤ 0
  update-still true back o old by ty u at rest h = omega (arith, h)
  update-still false back o old by ty u at rest h =
      convert-still (same_type ty u) old u (instr.Calculate (calculate.Binary old o old by u at) ∷ convert_code (same_type ty u) old ty rest)
      (calculated (convert-still (same_type ty u) old ty rest h))
    where
      calculated : cells (convert_code (same_type ty u) old ty rest) ≤ 0
          → cells (instr.Calculate (calculate.Binary old o old by u at) ∷ convert_code (same_type ty u) old ty rest) ≤ 0
      calculated h = omega (arith, h)

  updating-still : (pointer : Bool) (o : Operator) (back : Bool) (node : NodeId) (ty u : TypeId) (own at : Place) (t : ℕ)
      → cells (updating pointer o back node ty u own at t) ≤ 0
  updating-still pointer o back node ty u own at t =
      loaded (update-still pointer back o (value (suc (suc t))) (value (suc t)) ty u at stores (omega arith))
    where
      stores : List Instr
      stores = store_code node ty own at t (value (suc (suc t))) (value (suc (suc t)))

      loaded : cells (update_code pointer back o (value (suc (suc t))) (value (suc t)) ty u at stores) ≤ 0
          → cells (updating pointer o back node ty u own at t) ≤ 0
      loaded h = omega (arith, h)

  -- what comes after an address moves what it copies
  abbrev pub moved_after : After → ℕ
  moved_after (after.Copy to to_place from_place ty at) = length (pointer_offsets T ty)
  moved_after other = 0

  after-moves : (a : After) (t : ℕ) (node : NodeId) → cells (after_code a t node) ≤ moved_after a
  after-moves after.Nothing t node = omega arith
  after-moves (after.Load ty at) t node = omega arith
  after-moves (after.Decay array check inner element at) t node = omega arith
  after-moves (after.Address inner ty) t node = omega arith
  after-moves (after.Member ty i inner u at) t node = omega arith
  after-moves (after.Copy to to_place from_place ty at) t node = omega arith
  after-moves (after.Step old which pointer ty own at) t node =
      loaded (step-still pointer back (lowered.lowered_step which) (value (suc t)) ty at stores (omega arith))
    where
      back : Bool
      back = is_subtract (operator_of_step which)

      stores : List Instr
      stores = store_code node ty own at t work (lowered.step_result old t)

      loaded : cells (step_code pointer back (lowered.lowered_step which) (value (suc t)) ty at stores) ≤ 0
          → cells (after_code (after.Step old which pointer ty own at) t node) ≤ 0
      loaded h = omega (arith, h)

  pub follows-moved : (a : After) (t : ℕ) (node : NodeId) → Moved (moved_after a) (Follows a t node)
  unfolding Follows
  follows-moved a t node = moved-line (after_code a t node) (moved_after a) (after-moves a t node)

  logical-moved : (or : Bool) (t : ℕ) (P : Form) (n : ℕ) → Moved n P → Moved n (LogicalOf or t P)
  unfolding LogicalOf
  logical-moved true t P n p =
      moved-choice (value t) (Truth t 1) P n (moved-line (instr.Set (set.Integer (value t) (pos 1) lowered.int) ∷ []) n (omega arith)) p
  logical-moved false t P n p =
      moved-choice (value t) P (Truth t 0) n p (moved-line (instr.Set (set.Integer (value t) (pos 0) lowered.int) ∷ []) n (omega arith))

-- Expressions

module _ (T : Table) (w : IsWellFormed T) (k : lowered.Context) where
  -- one or two operands, whose code is followed by what moves nothing

  pub one-part : (P Q : Form) (xs : List Made) (n : ℕ) → counted T xs ≤ n → Moved T (counted T xs) P → Moved T 0 Q → Moved T n (Then P Q)
  one-part P Q xs n l p q = moved-more T (Then P Q) (counted T xs + 0) n (omega (arith, l)) (moved-then T P Q (counted T xs) 0 p q)

  pub both-parts : (P Q : Form) (xs ys : List Made) → Moved T (counted T xs) P → Moved T (counted T ys) Q → Moved T (counted T (xs ++ ys)) (Then P Q)
  both-parts P Q xs ys p q =
      moved-more T (Then P Q) (counted T xs + counted T ys) (counted T (xs ++ ys)) (omega (arith, counted-both T xs ys))
      (moved-then T P Q (counted T xs) (counted T ys) p q)

  two-parts : (P Q R : Form) (xs ys : List Made) → Moved T (counted T xs) P → Moved T (counted T ys) Q → Moved T 0 R
      → Moved T (counted T (xs ++ ys)) (Then P (Then Q R))
  two-parts P Q R xs ys p q r =
      moved-more T (Then P (Then Q R)) (counted T xs + counted T ys) (counted T (xs ++ ys)) (omega (arith, counted-both T xs ys))
      (moved-two T P Q R (counted T xs) (counted T ys) p q r)

  sides : (t : Temp) (P Q R : Form) (xs ys zs : List Made) → Moved T (counted T xs) P → Moved T (counted T ys) Q → Moved T (counted T zs) R
      → Moved T (counted T (xs ++ ys ++ zs)) (Then P (Choice t Q R))
  sides t P Q R xs ys zs p q r =
      moved-more T (Then P (Choice t Q R)) (counted T xs + (counted T ys + counted T zs)) (counted T (xs ++ ys ++ zs))
      (omega (arith, counted-both T (xs ++ ys) zs, counted-both T xs ys))
      (moved-then T P (Choice t Q R) (counted T xs) (counted T ys + counted T zs) p
      (moved-choice T t Q R (counted T ys + counted T zs) (moved-more T Q (counted T ys) (counted T ys + counted T zs) (omega arith) q)
      (moved-more T R (counted T zs) (counted T ys + counted T zs) (omega arith) r)))

  -- a place with what comes after its address and moves nothing
  still : (p : TypedPlace) (t : ℕ) (a : After) (xs : List Made) → counted T (made_by_place p) ≤ counted T xs → moved_after T a ≤ 0
      → ((next : NodeId → Form) (n : ℕ) → ((o : NodeId) → Moved T n (next o)) → Moved T (counted T (made_by_place p) + n) (IsCodeOfPlace p k t next))
      → Moved T (counted T xs) (IsCodeOfPlace p k t (Follows a t))
  still p t a xs l z h =
      moved-more T (IsCodeOfPlace p k t (Follows a t)) (counted T (made_by_place p) + moved_after T a) (counted T xs) (omega (arith, l, z))
      (h (Follows a t) (moved_after T a) (λ o. follows-moved T a t o))

  mutual
    -- `Z` is not used: the functions of a mutual block have to end in one universe
    pub value-moved : (e : TypedExpr) (Z : Type 0) (t : ℕ) → Moved T (counted T (made_by e)) (IsCodeOf e k t)
    value-moved (typed.Integer of z at ty) Z t = constant-still T k t ty (pos z) 0
    value-moved (typed.Character z at ty) Z t = constant-still T k t ty z 0
    value-moved (typed.Enumerator name z ty) Z t = constant-still T k t ty z 0
    value-moved (typed.FunctionName name number node ty) Z t =
        moved-line T (instr.Set (set.Function (value t) (record { 0 = number }) ty) ∷ []) 0 (omega arith)
    value-moved (typed.RuntimeName name function ty) Z t = λ c d. absurd d
    value-moved (typed.Paren at e) Z t = value-moved e Z t
    value-moved (typed.Read p) Z t = still p t (after.Load (place_type p) (place_at p)) (made_by_place p) (omega arith) (omega arith)
        (place-moved p t)
    value-moved (typed.Unread p) Z t = still p t after.Nothing (made_by_place p) (omega arith) (omega arith)
        (place-moved p t)
    value-moved (typed.Decay p node ty) Z t =
        still p t (after.Decay (place_type p) (is_through_pointer p) node (pointee_at k.table ty) (place_at p))
        (made_by_place p ++ made.Address node ∷ []) (omega (arith, counted-both T (made_by_place p) (made.Address node ∷ []))) (omega arith)
        (place-moved p t)
    value-moved (typed.Convert which at ty e) Z t =
        one-part (IsCodeOf e k t) (Converts which t at (type_of e) ty) (made_by e) (counted T (made_by e)) (omega arith) (value-moved e Z t)
        (converts-still T which t at (type_of e) ty)
    value-moved (typed.Cast which at name e) Z t =
        one-part (IsCodeOf e k t) (Converts which t at (type_of e) (named_type name)) (made_by e) (counted T (made_by_type_name name ++ made_by e))
        (omega (arith, counted-both T (made_by_type_name name) (made_by e))) (value-moved e Z t)
        (converts-still T which t at (type_of e) (named_type name))
    value-moved (typed.AddressOf at p node ty) Z t =
        still p t (after.Address node (place_type p)) (made_by_place p ++ made.Address node ∷ []) (omega (
          arith,
          counted-both T (made_by_place p)
              (made.Address node ∷ []),
        )) (omega arith)
        (place-moved p t)
    value-moved (typed.AddressOfElement at p ty) Z t = still p t after.Nothing (made_by_place p) (omega arith) (omega arith)
        (place-moved p t)
    value-moved (typed.AddressOfFunction at e) Z t = value-moved e Z t
    value-moved (typed.FunctionAt at e) Z t = value-moved e Z t
    value-moved (typed.Prefix op at e ty) Z t =
        one-part (IsCodeOf e k t) (Prefixes op t ty) (made_by e) (counted T (made_by e)) (omega arith) (value-moved e Z t) (prefixes-still T op t ty)
    value-moved (typed.SizeOfPlace at p z ty) Z t = constant-still T k t ty (pos z) (counted T (made_by_place p))
    value-moved (typed.SizeOfValue at e z ty) Z t = constant-still T k t ty (pos z) (counted T (made_by e))
    value-moved (typed.SizeOfType at paren name z ty) Z t = constant-still T k t ty (pos z) (counted T (made_by_type_name name))
    value-moved (typed.StepBefore which at p) Z t =
        still p t (after.Step false which (is_pointer k (place_type p)) (place_type p) (place_at p) at) (made_by_place p) (omega arith) (omega arith)
        (place-moved p t)
    value-moved (typed.StepAfter p which at) Z t =
        still p t (after.Step true which (is_pointer k (place_type p)) (place_type p) (place_at p) at) (made_by_place p) (omega arith) (omega arith)
        (place-moved p t)
    value-moved (typed.Arithmetic op a at b ty) Z t =
        two-parts (IsCodeOf a k t) (IsCodeOf b k (suc t)) (Calculates (lowered.lowered op) t (type_of a) at) (made_by a) (made_by b)
        (value-moved a Z t) (value-moved b Z (suc t))
        (moved-line T (instr.Calculate (calculate.Binary (value t) (lowered.lowered op) (value t) (value (suc t)) (type_of a) at) ∷ []) 0
        (omega arith))
    value-moved (typed.Moved op which a at b ty) Z t =
        two-parts (IsCodeOf a k t) (IsCodeOf b k (suc t)) (Moves which (is_subtract (operator_of op)) t (type_of a) (type_of b) at) (made_by a)
        (made_by b) (value-moved a Z t) (value-moved b Z (suc t)) (moves-still T which (is_subtract (operator_of op)) t (type_of a) (type_of b) at)
    value-moved (typed.Difference a at b ty) Z t =
        two-parts (IsCodeOf a k t) (IsCodeOf b k (suc t))
        (Line (instr.Point (point.Difference (value t) (value t) (type_of a) (value (suc t)) (type_of b) at) ∷ [])) (made_by a) (made_by b)
        (value-moved a Z t) (value-moved b Z (suc t))
        (moved-line T (instr.Point (point.Difference (value t) (value t) (type_of a) (value (suc t)) (type_of b) at) ∷ []) 0 (omega arith))
    value-moved (typed.Compared op a at b ty) Z t =
        two-parts (IsCodeOf a k t) (IsCodeOf b k (suc t)) (Compares (is_null a) (is_null b) op t (type_of a) (type_of b) at) (made_by a) (made_by b)
        (value-moved a Z t) (value-moved b Z (suc t)) (compares-still T (is_null a) (is_null b) op t (type_of a) (type_of b) at)
    value-moved (typed.Logical op a at b ty) Z t =
        both-parts (IsCodeOf a k t) (LogicalOf (is_or op) t P) (made_by a) (made_by b) (value-moved a Z t)
        (logical-moved T (is_or op) t P (counted T (made_by b))
        (one-part (IsCodeOf b k t) (Line (instr.Calculate (calculate.Truth (value t) (value t)) ∷ [])) (made_by b) (counted T (made_by b))
        (omega arith)
        (value-moved b Z t) (moved-line T (instr.Calculate (calculate.Truth (value t) (value t)) ∷ []) 0 (omega arith))))
      where
        P : Form
        P = Then (IsCodeOf b k t) (Line (instr.Calculate (calculate.Truth (value t) (value t)) ∷ []))
    value-moved (typed.Conditional c at a b ty) Z t =
        sides (value t) (IsCodeOf c k t) (IsCodeOf a k t) (IsCodeOf b k t) (made_by c) (made_by a) (made_by b) (value-moved c Z t) (value-moved a Z t)
        (value-moved b Z t)
    value-moved (typed.PointerConditional c at a b node ty) Z t =
        moved-more T (Then (IsCodeOf c k t) (Choice (value t) (IsCodeOf a k t) (IsCodeOf b k t))) (counted T (made_by c ++ made_by a ++ made_by b))
        (counted T (made_by c ++ made_by a ++ made_by b ++ made.Address node ∷ []))
        (omega (arith, counted-both T (made_by c ++ made_by a ++ made_by b) (made.Address node ∷ [])))
        (sides (value t) (IsCodeOf c k t) (IsCodeOf a k t) (IsCodeOf b k t) (made_by c) (made_by a) (made_by b) (value-moved c Z t)
        (value-moved a Z t)
        (value-moved b Z t))
    value-moved (typed.Comma a b) Z t =
        both-parts (IsCodeOf a k t) (IsCodeOf b k t) (made_by a) (made_by b) (value-moved a Z t) (value-moved b Z t)
    value-moved (typed.Assign p at e) Z t =
        moved-more T (IsCodeOfPlace p k t next) (counted T (made_by_place p) + counted T (made_by e)) (counted T (made_by_place p ++ made_by e))
        (omega (arith, counted-both T (made_by_place p) (made_by e)))
        (place-moved p t next (counted T (made_by e))
        (λ o. one-part (IsCodeOf e k (suc t)) (Line (store_code o (place_type p) (place_at p) at t (value (suc t)) (value (suc t)))) (made_by e)
        (counted T (made_by e)) (omega arith) (value-moved e Z (suc t))
        (moved-line T (store_code o (place_type p) (place_at p) at t (value (suc t)) (value (suc t))) 0 (omega arith))))
      where
        next : NodeId → Form
        next o = Then (IsCodeOf e k (suc t)) (Line (store_code o (place_type p) (place_at p) at t (value (suc t)) (value (suc t))))
    value-moved (typed.AssignWith op p at e u) Z t =
        moved-more T (IsCodeOfPlace p k t (λ o. Then (IsCodeOf e k (suc t)) (Line (code o)))) (counted T (made_by_place p) + counted T (made_by e))
        (counted T (made_by_place p ++ made_by e)) (omega (arith, counted-both T (made_by_place p) (made_by e)))
        (place-moved p t (λ o. Then (IsCodeOf e k (suc t)) (Line (code o))) (counted T (made_by e))
        (λ o. one-part (IsCodeOf e k (suc t)) (Line (code o)) (made_by e) (counted T (made_by e)) (omega arith) (value-moved e Z (suc t))
        (moved-line T (code o) 0 (updating-still T (is_pointer k (place_type p)) (lowered.lowered_assignment op)
        (is_subtract (operator_of_assignment op)) o (place_type p) u (place_at p) at t))))
      where
        code : NodeId → List Instr
        code o = updating (is_pointer k (place_type p)) (lowered.lowered_assignment op) (is_subtract (operator_of_assignment op)) o (place_type p) u
            (place_at p) at t
    value-moved (typed.Call g at l ty) Z t =
        two-parts (IsCodeOf g k t) (IsCodeOfArguments l k (suc t)) (Line (call ∷ [])) (made_by g) (made_by_arguments l) (value-moved g Z t)
        (row-moved l Z (suc t)) (moved-line T (call ∷ []) 0 (omega arith))
      where
        call : Instr
        call = instr.Call (record { into = value t; callee = value t; ty = type_of g; first = suc t; count = count l; place = at })
    value-moved (typed.CallRuntime which g at l ty) Z t =
        one-part (IsCodeOfArguments l k (suc t)) (RunsRuntime which (count l) t) (made_by_arguments l) (counted T (made_by g ++ made_by_arguments l))
        (omega (arith, counted-both T (made_by g) (made_by_arguments l))) (row-moved l Z (suc t)) (runtime-still T which (count l) t)
    value-moved (typed.Allocate which g at l node ty) Z t =
        one-part (IsCodeOfArguments l k (suc t)) (Allocates which (count l) t node (pointee_at k.table ty) at) (made_by_arguments l)
        (counted T (made_by g ++ made_by_arguments l ++ made.Address node ∷ []))
        (omega (arith, counted-both T (made_by g ++ made_by_arguments l) (made.Address node ∷ []), counted-both T (made_by g) (made_by_arguments l)))
        (row-moved l Z (suc t)) (allocates-still T which (count l) t node (pointee_at k.table ty) at)
    value-moved (typed.AllocateFor which g at l ty) Z t =
        one-part (IsCodeOfArguments l k (suc t)) (Allocates which (count l) t (node_of k ty) (pointee_at k.table ty) at) (made_by_arguments l)
        (counted T (made_by g ++ made_by_arguments l)) (omega (arith, counted-both T (made_by g) (made_by_arguments l))) (row-moved l Z (suc t))
        (allocates-still T which (count l) t (node_of k ty) (pointee_at k.table ty) at)

    pub row-moved : (l : TypedArguments) (Z : Type 0) (t : ℕ) → Moved T (counted T (made_by_arguments l)) (IsCodeOfArguments l k t)
    row-moved typed.NoArgument Z t = moved-line T [] 0 (omega arith)
    row-moved (typed.AndArgument all e) Z t =
        both-parts (IsCodeOfArguments all k t) (IsCodeOf e k (t + count all)) (made_by_arguments all) (made_by e) (row-moved all Z t)
        (value-moved e Z (t + count all))

    -- a place with what comes after its address, by what that moves
    pub place-moved : (p : TypedPlace) (t : ℕ) (next : NodeId → Form) (n : ℕ) → ((o : NodeId) → Moved T n (next o))
        → Moved T (counted T (made_by_place p) + n) (IsCodeOfPlace p k t next)
    place-moved (typed.Variable name home ty) t next n a = moved-then T (Objects k t home ty) (next home) 0 n (objects-still T k t home ty) (a home)
    place-moved (typed.String pieces home ty) t next n a =
        moved-more T (Then (Objects k t home ty) (next home)) (0 + n) (counted T (made.Literal pieces home ty ∷ []) + n) (omega arith)
        (moved-then T (Objects k t home ty) (next home) 0 n (objects-still T k t home ty) (a home))
    place-moved (typed.ParenPlace at p) t next n a = place-moved p t next n a
    place-moved (typed.Target at e ty) t next n a =
        moved-then T (IsCodeOf e k t) (next (node_of k (type_of e))) (counted T (made_by e)) n (value-moved e (Unit {0}) t) (a (node_of k
        (type_of e)))
    place-moved (typed.Element which x at y ty) t next n a =
        moved-then T (Then (IsCodeOf x k t) (Then (IsCodeOf y k (suc t)) (Moves which false t (type_of x) (type_of y) at))) (next node)
        (counted T (made_by x ++ made_by y)) n
        (two-parts (IsCodeOf x k t) (IsCodeOf y k (suc t)) (Moves which false t (type_of x) (type_of y) at) (made_by x) (made_by y)
        (value-moved x (Unit {0}) t) (value-moved y (Unit {0}) (suc t)) (moves-still T which false t (type_of x) (type_of y) at)) (a node)
      where
        node : NodeId
        node = node_of k (type_of (pointer_side which x y))
    place-moved (typed.Member p at name i node ty) t next n a =
        moved-then T (IsCodeOfPlace p k t (Follows (after.Member (place_type p) i node ty at) t)) (next node)
        (counted T (made_by_place p ++ made.Address node ∷ [])) n
        (still p t (after.Member (place_type p) i node ty at) (made_by_place p ++ made.Address node ∷ []) (omega (
          arith,
          counted-both T
              (made_by_place p) (made.Address node ∷ []),
        )) (omega arith)
        (place-moved p t)) (a node)
    place-moved (typed.MemberAt e at name i node ty) t next n a =
        moved-then T (Then (IsCodeOf e k t) (Follows A t (node_of k (type_of e)))) (next node) (counted T (made_by e ++ made.Address node ∷ [])) n
        (one-part (IsCodeOf e k t) (Follows A t (node_of k (type_of e))) (made_by e) (counted T (made_by e ++ made.Address node ∷ []))
        (omega (arith, counted-both T (made_by e) (made.Address node ∷ []))) (value-moved e (Unit {0}) t)
        (follows-moved T A t (node_of k (type_of e)))) (a node)
      where
        A : After
        A = after.Member (pointee_at k.table (type_of e)) i node ty at
    place-moved (typed.StructAssign p at q) t next n a =
        moved-more T (IsCodeOfPlace p k t (λ o. Then (IsCodeOfPlace q k (suc t) (Follows (A o) (suc t))) (next o)))
        (counted T (made_by_place p) + (counted T (made_by_place q) + length (pointer_offsets T (place_type p)) + n))
        (counted T (made_by_place p ++ made_by_place q ++ made.Copy (place_type p) ∷ []) + n)
        (omega (
          arith,
          counted-both T (made_by_place p ++ made_by_place q) (made.Copy (place_type p) ∷ []),
          counted-both T (made_by_place p) (made_by_place q),
          copied-most T w (place_type p),
        ))
        (place-moved p t (λ o. Then (IsCodeOfPlace q k (suc t) (Follows (A o) (suc t))) (next o))
        (counted T (made_by_place q) + length (pointer_offsets T (place_type p)) + n)
        (λ o. moved-then T (IsCodeOfPlace q k (suc t) (Follows (A o) (suc t))) (next o)
        (counted T (made_by_place q) + length (pointer_offsets T (place_type p))) n
        (place-moved q (suc t) (Follows (A o) (suc t)) (length (pointer_offsets T (place_type p))) (λ v. follows-moved T (A o) (suc t) v)) (a o)))
      where
        A : NodeId → After
        A o = after.Copy (target.Pointer (value t) o) (place_at p) (place_at q) (place_type p) at
    place-moved (typed.StructConditional c at p q) t next n a =
        moved-more T (Then (IsCodeOf c k t) (Choice (value t) (IsCodeOfPlace p k t next) (IsCodeOfPlace q k t next)))
        (counted T (made_by c) + (counted T (made_by_place p) + counted T (made_by_place q) + n))
        (counted T (made_by c ++ made_by_place p ++ made_by_place q) + n)
        (omega (arith, counted-both T (made_by c ++ made_by_place p) (made_by_place q), counted-both T (made_by c) (made_by_place p)))
        (moved-then T (IsCodeOf c k t) (Choice (value t) (IsCodeOfPlace p k t next) (IsCodeOfPlace q k t next)) (counted T (made_by c))
        (counted T (made_by_place p) + counted T (made_by_place q) + n) (value-moved c (Unit {0}) t)
        (moved-choice T (value t) (IsCodeOfPlace p k t next) (IsCodeOfPlace q k t next) (counted T (made_by_place p) + counted T
        (made_by_place q) + n)
        (moved-more T (IsCodeOfPlace p k t next) (counted T (made_by_place p) + n) (counted T (made_by_place p) + counted T (made_by_place q) + n)
        (omega arith) (place-moved p t next n a))
        (moved-more T (IsCodeOfPlace q k t next) (counted T (made_by_place q) + n) (counted T (made_by_place p) + counted T (made_by_place q) + n)
        (omega arith) (place-moved q t next n a))))
    place-moved (typed.StructComma e p) t next n a =
        moved-more T (Then (IsCodeOf e k t) (IsCodeOfPlace p k t next)) (counted T (made_by e) + (counted T (made_by_place p) + n))
        (counted T (made_by e ++ made_by_place p) + n) (omega (arith, counted-both T (made_by e) (made_by_place p)))
        (moved-then T (IsCodeOf e k t) (IsCodeOfPlace p k t next) (counted T (made_by e)) (counted T (made_by_place p) + n)
        (value-moved e (Unit {0}) t) (place-moved p t next n a))

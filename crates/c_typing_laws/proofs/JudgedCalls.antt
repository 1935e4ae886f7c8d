-- What judging gives for calls, from what it gave for the function and the arguments.
use Rattle.std.proofs.Common.{◌≡◌, Bool, true, false, not, ◌||◌, ◌==◌, List, [], ◌∷◌, ◌++◌, map, fold, length, max, Option, Some, None, refl, ap, sym, subst, ◌∙◌, inl, inr, if◌then◌else◌, arith}
use Rattle.std.specs.List.{AllZip}
use Rattle.std.proofs.lemmas.Bool.Decides.{Decides-eqb}
use Rattle.std.proofs.lemmas.Option.{none-some}
use Rattle.std.proofs.lemmas.List.{map-append, length-map}
use Rattle.cc_base.specs.declared.place.Place.{Place}
use Rattle.cc_base.specs.declared.number.NodeId.{NodeId}
use Rattle.cc_base.specs.declared.number.TypeId.{TypeId}
use Rattle.cc_base.specs.declared.fault.Fault.{Fault}
use Rattle.cc_base.specs.declared.fault.Fault.TheVariants.{Refused}
use Rattle.cc_base.specs.declared.fault.Rule.TheVariants as rule
use Rattle.c_types.specs.declared.shape.TypeShape.{TypeShape}
use Rattle.c_types.specs.declared.shape.TypeShape.TheVariants.{Void, Integer, Pointer, Array, Function, Struct, Union}
use Rattle.c_types.specs.Table.{Table, shape_at}
use Rattle.c_tree.specs.declared.typed_word.Runtime.{Runtime}
use Rattle.c_tree.specs.declared.typed_word.Runtime.TheVariants as runtime
use Rattle.c_tree.specs.Erasure.{erased, erased_arguments}
use Rattle.c_tree.specs.Places.{expr_place}
use Rattle.c_tree.specs.Tree as tree
use Rattle.c_tree.specs.TypedTree as typed
use Rattle.c_tree.specs.TypedTree.{TypedExpr, TypedArguments}
use Rattle.c_tree.specs.TypedParts.{type_of, first_place}
use Rattle.runtime_calls.specs.declared.function.RuntimeType.{RuntimeType}
use Rattle.runtime_calls.specs.declared.function.RuntimeType.TheVariants as prototype
use Rattle.runtime_calls.specs.Prototypes.{prototype_of}
use Rattle.integers.specs.Arithmetic.{int, unsigned_long}
use Rattle.c_typing.specs.Assignments.{converted_to, arguments_as, converted_arguments, runtime_argument, runtime_arguments, runtime_call, called_shape, called, arguments_held, call}
use Rattle.c_typing.specs.Constants.{is_null_constant}
use Rattle.c_typing.specs.Conversions.{implicit, IsConverted}
use Rattle.c_typing.specs.Judging.{State, Gives, pure, by_known}
use Rattle.c_typing.specs.Operands.{Operand, Value, argument_of}
use Rattle.c_typing.specs.Operations.{int_type, size_type}
use Rattle.c_typing.specs.Refusals.{IsElaborated}
use Rattle.c_typing.specs.Rules.{listed_arguments, IsArgument, runtime_named, IsFreed, IsRuntimeArgument, IsRuntimeCallOf}
use Rattle.c_typing.specs.Scopes.{Scopes}
use Rattle.c_typing.specs.Settled.{IsBasic, IsSettled, IsValueOf, AreValuesOf, IsKnown, IsJudged}
use Rattle.c_typing.specs.Shapes.{is_data, is_scalar_shape}
use Rattle.c_typing.specs.Tests.{AsValue, Test, broken_at, first_broken, fits, call_tests, call_tests_of, call_tests_by, argument_tests, runtime_argument_tests, runtime_tests, is_taken_by, pointed_shape, point_to_data}
use Rattle.c_typing.specs.Typing.{IsTyped, AreTyped}
use Rattle.c_typing_laws.proofs.ExtensionLaws.{no_true}
use Rattle.c_typing_laws.proofs.ConstructLaws.{not_false, has_shape}
use Rattle.c_typing_laws.proofs.ConversionLaws.{fits-converted, fits-typed}
use Rattle.c_typing_laws.proofs.InfixLaws.{null_plain}
use Rattle.c_typing_laws.proofs.Outcomes.{construct-gives}
use Rattle.c_typing_laws.proofs.JudgedOperators.{made-here}
use Rattle.c_typing_laws.proofs.JudgedAssignments.{converted-erased}

-- Values, the first first

abbrev Forward : Table → List Value → Scopes → Scopes → Type 0
Forward T [] s s' = s' ≡ s
Forward T (v ∷ vs) s s' = (e : tree.Expr) × (m : Scopes) × IsValueOf T e v.expr s m × (v.place ≡ expr_place e) × Forward T vs m s'

forward_last : (T : Table) (vs : List Value) (v : Value) (e : tree.Expr) (s m s' : Scopes) → Forward T vs s m → IsValueOf T e v.expr m s' → v.place ≡ expr_place e
    → Forward T (vs ++ v ∷ []) s s'
forward_last T [] v e s m s' h val place = (e, s', subst (λ (k : Scopes). IsValueOf T e v.expr k s') h val, place, refl)
forward_last T (w ∷ vs) v e s m s' h val place = (h.0, h.1, h.2, h.3, forward_last T vs v e h.1 m s' h.4 val place)

forward : (T : Table) (all : tree.Arguments) (values : List Value) (s s' : Scopes) → AreValuesOf T all values s s' → Forward T values s s'
forward T tree.NoArgument values s s' h = subst (λ (vs : List Value). Forward T vs s s') (sym h.0) h.1
forward T (tree.AndArgument all e) values s s' h =
    subst (λ (vs : List Value). Forward T vs s s') (sym h.7) (forward_last T h.0 h.2 e s h.1 s' (forward T all h.0 s h.1 h.3) h.4 h.5)

fold_last : {A B : Type 0} (f : B → A → B) (b : B) (xs : List A) (x : A) → fold f b (xs ++ x ∷ []) ≡ f (fold f b xs) x
fold_last f b [] x = refl
fold_last f b (y ∷ xs) x = fold_last f (f b y) xs x

trees : (T : Table) (all : tree.Arguments) (values : List Value) (s s' : Scopes) → AreValuesOf T all values s s'
    → fold tree.AndArgument tree.NoArgument (map (λ (v : Value). erased v.expr) values) ≡ all
trees T tree.NoArgument values s s' h = ap (λ (vs : List Value). fold tree.AndArgument tree.NoArgument (map (λ (v : Value). erased v.expr) vs)) h.0
trees T (tree.AndArgument all e) values s s' h =
    let before = trees T all h.0 s h.1 h.3 in
    let last = h.4.erases in
    ap (λ (vs : List Value). fold tree.AndArgument tree.NoArgument (map (λ (v : Value). erased v.expr) vs)) h.7
    ∙ ap (fold tree.AndArgument tree.NoArgument) (map-append (λ (v : Value). erased v.expr) h.0 (h.2 ∷ []))
    ∙ fold_last tree.AndArgument tree.NoArgument (map (λ (v : Value). erased v.expr) h.0) (erased h.2.expr)
    ∙ (λ i. tree.AndArgument (before i) (last i))

-- Arguments made of a list

abbrev Typing : Table → List TypedExpr → Scopes → Scopes → Type 0
Typing T [] s s' = s' ≡ s
Typing T (e ∷ es) s s' = (m : Scopes) × IsTyped T e s m × Typing T es m s'

typed_fold : (T : Table) (acc : TypedArguments) (es : List TypedExpr) (s m s' : Scopes) → AreTyped T acc s m → Typing T es m s' → AreTyped T (fold typed.AndArgument acc es) s s'
typed_fold T acc [] s m s' h t = subst (AreTyped T acc s) (sym t) h
typed_fold T acc (e ∷ es) s m s' h t = typed_fold T (typed.AndArgument acc e) es s t.0 s' (m, h, t.1) t.2

listed_fold : (acc : TypedArguments) (es : List TypedExpr) → listed_arguments (fold typed.AndArgument acc es) ≡ listed_arguments acc ++ es
listed_fold acc [] = sym (append_nil (listed_arguments acc))
  where
    append_nil : (xs : List TypedExpr) → xs ++ [] ≡ xs
    append_nil [] = refl
    append_nil (x ∷ xs) = ap (λ (l : List TypedExpr). x ∷ l) (append_nil xs)
listed_fold acc (e ∷ es) = listed_fold (typed.AndArgument acc e) es ∙ assoc (listed_arguments acc) e es
  where
    assoc : (xs : List TypedExpr) (y : TypedExpr) (ys : List TypedExpr) → (xs ++ y ∷ []) ++ ys ≡ xs ++ (y ∷ ys)
    assoc [] y ys = refl
    assoc (x ∷ xs) y ys = ap (λ (l : List TypedExpr). x ∷ l) (assoc xs y ys)

erased_fold : (acc : TypedArguments) (es : List TypedExpr) → erased_arguments (fold typed.AndArgument acc es) ≡ fold tree.AndArgument (erased_arguments acc) (map erased es)
erased_fold acc [] = refl
erased_fold acc (e ∷ es) = erased_fold (typed.AndArgument acc e) es

-- each argument made of its value, for a parameter

pub record IsMade (T : Table) (e : TypedExpr) (v : Value) : Type 0 where
  pub typed : (s s' : Scopes) → IsTyped T v.expr s s' → IsTyped T e s s'
  pub same : erased e ≡ erased v.expr

abbrev AreMade : Table → List TypedExpr → List Value → Type 0
AreMade T [] [] = Unit {0}
AreMade T [] (v ∷ vs) = ⊥
AreMade T (e ∷ es) [] = ⊥
AreMade T (e ∷ es) (v ∷ vs) = IsMade T e v × AreMade T es vs

made_typed : (T : Table) (es : List TypedExpr) (vs : List Value) (s s' : Scopes) → AreMade T es vs → Forward T vs s s' → Typing T es s s'
made_typed T [] [] s s' h f = f
made_typed T [] (v ∷ vs) s s' h f = absurd h
made_typed T (e ∷ es) [] s s' h f = absurd h
made_typed T (e ∷ es) (v ∷ vs) s s' h f = (f.1, h.0.typed s f.1 f.2.typed, made_typed T es vs f.1 s' h.1 f.4)

made_erased : (T : Table) (es : List TypedExpr) (vs : List Value) → AreMade T es vs → map erased es ≡ map (λ (v : Value). erased v.expr) vs
made_erased T [] [] h = refl
made_erased T [] (v ∷ vs) h = absurd h
made_erased T (e ∷ es) [] h = absurd h
made_erased T (e ∷ es) (v ∷ vs) h = let head = h.0.same in let tail = made_erased T es vs h.1 in λ i. head i ∷ tail i

-- what is made of a function's arguments
pub record AreArguments (T : Table) (all : tree.Arguments) (es : List TypedExpr) (s s' : Scopes) : Type 0 where
  pub typed : AreTyped T (arguments_as es) s s'
  pub erases : erased_arguments (arguments_as es) ≡ all
  pub listed : listed_arguments (arguments_as es) ≡ es

arguments-are : (T : Table) (all : tree.Arguments) (es : List TypedExpr) (vs : List Value) (s s' : Scopes) → AreMade T es vs → AreValuesOf T all vs s s' → AreArguments T all es s s'
arguments-are T all es vs s s' made h = record {
  typed = typed_fold T typed.NoArgument es s s s' refl (made_typed T es vs s s' made (forward T all vs s s' h));
  erases = erased_fold typed.NoArgument es ∙ ap (fold tree.AndArgument tree.NoArgument) (made_erased T es vs made) ∙ trees T all vs s s' h;
  listed = listed_fold typed.NoArgument es;
}

-- Tests of arguments

first_ok : (b : Bool) (f : Fault) (rest : Option Fault) → (if b then Some f else rest) ≡ None → (b ≡ false) × (rest ≡ None)
first_ok true f rest h = absurd (none-some f (sym h))
first_ok false f rest h = (refl, h)

pub last_ok : (ts : List Test) (t : Test) → first_broken (ts ++ t ∷ []) ≡ None → t.broken ≡ false
last_ok [] t h = (first_ok t.broken (Refused t.place t.rule) None h).0
last_ok (u ∷ ts) t h = last_ok ts t (first_ok u.broken (Refused u.place u.rule) (first_broken (ts ++ t ∷ [])) h).1

same_length : {A B : Type 0} (xs : List A) (ys : List B) → not (length xs == length ys) ≡ false → length xs ≡ length ys
same_length xs ys h = (Decides-eqb (length xs) (length ys)).0 (not_false (length xs == length ys) h)

pub cut_length : {A B : Type 0} (x : A) (xs : List A) (y : B) (ys : List B) → length (x ∷ xs) ≡ length (y ∷ ys) → length xs ≡ length ys
cut_length x xs y ys h = omega (arith, h)

module _ (T : Table) (basic : IsBasic T) where
  -- a value converted to its parameter's type
  argument-made : (t : TypeId) (v : Value) (e : tree.Expr) (s s' : Scopes) → IsValueOf T e v.expr s s' → v.place ≡ expr_place e → fits T (AsValue v.expr) (shape_at T t) ≡ true
      → IsMade T (converted_to T v.place t v.expr) v × IsArgument T t (converted_to T v.place t v.expr)
  argument-made t v e s s' val place fit =
      let same = converted-erased v.place t v.expr (implicit T v.expr t) in
      let first : first_place (converted_to T v.place t v.expr) ≡ v.place = ap expr_place (same ∙ val.erases) ∙ sym place in (
        record { typed = λ m n typed. fits-typed T m n v.place t v.expr val.settled typed fit; same = same },
        subst (λ (p : Place). IsConverted T p t (converted_to T v.place t v.expr)) (sym first) (fits-converted T s s' v.place t v.expr val.settled val.typed fit),
      )

  converted-made : (ts : List TypeId) (vs : List Value) (last : Test) (s s' : Scopes) → Forward T vs s s' → length ts ≡ length vs
      → first_broken (argument_tests T ts (map argument_of vs) ++ last ∷ []) ≡ None
      → AreMade T (converted_arguments T ts vs) vs × AllZip (IsArgument T) ts (converted_arguments T ts vs)
  converted-made [] [] last s s' f l h = (tt, tt)
  converted-made [] (v ∷ vs) last s s' f l h = absurd (omega (arith, l))
  converted-made (t ∷ ts) [] last s s' f l h = absurd (omega (arith, l))
  converted-made (t ∷ ts) (v ∷ vs) last s s' f l h =
      let cut = first_ok (not (fits T (AsValue v.expr) (shape_at T t))) (Refused v.place rule.Mismatch) (first_broken (argument_tests T ts (map argument_of vs) ++ last ∷ [])) h in
      let one = argument-made t v f.0 s f.1 f.2 f.3 (not_false (fits T (AsValue v.expr) (shape_at T t)) cut.0) in
      let more = converted-made ts vs last f.1 s' f.4 (cut_length t ts v vs l) cut.1 in
      ((one.0, more.0), (one.1, more.1))

  -- what `free` takes
  data_pointer : (x : TypeShape) → point_to_data T x ≡ true → (n : NodeId) × (t : TypeId) × (x ≡ Pointer n t) × (is_data T t ≡ true)
  data_pointer (Pointer n t) h = (n, t, refl, h)
  data_pointer Void h = no_true h
  data_pointer (Integer bytes signed) h = no_true h
  data_pointer (Array t n) h = no_true h
  data_pointer (Function ps r) h = no_true h
  data_pointer (Struct n) h = no_true h
  data_pointer (Union n) h = no_true h

  freed_by : (e : TypedExpr) (s s' : Scopes) → IsSettled T e → IsTyped T e s s' → (b : Bool) → point_to_data T (shape_at T (type_of e)) ≡ b
      → (b || is_null_constant T e) ≡ true → IsFreed T e
  freed_by e s s' k h true p q =
      let d = data_pointer (shape_at T (type_of e)) p in
      record {
        plain = k.plain (ap is_scalar_shape d.2);
        type = inl (d.1, (d.0, has_shape T (type_of e) (Pointer d.0 d.1) d.2 refl), d.3);
      }
  freed_by e s s' k h false p q = record { plain = null_plain T s s' e k.unconverted h q; type = inr q }

  runtime-made : (t : RuntimeType) (v : Value) (e : tree.Expr) (s s' : Scopes) → IsValueOf T e v.expr s s' → v.place ≡ expr_place e → is_taken_by T t (AsValue v.expr) ≡ true
      → IsMade T (runtime_argument T t v) v × IsRuntimeArgument T t (runtime_argument T t v)
  runtime-made prototype.Void v e s s' val place h = no_true h
  runtime-made prototype.Int v e s s' val place h =
      let own = basic.integers int (inr (inr (inl refl))) in
      let made = argument-made int_type v e s s' val place (subst (λ (x : TypeShape). fits T (AsValue v.expr) x ≡ true) (sym own.1) h) in
      (made.0, (int_type, own, made.1))
  runtime-made prototype.UnsignedLong v e s s' val place h =
      let own = basic.integers unsigned_long (inr (inr (inr refl))) in
      let made = argument-made size_type v e s s' val place (subst (λ (x : TypeShape). fits T (AsValue v.expr) x ≡ true) (sym own.1) h) in
      (made.0, (size_type, own, made.1))
  runtime-made prototype.VoidPointer v e s s' val place h = (
    record { typed = λ m n typed. typed; same = refl },
    freed_by v.expr s s' val.settled val.typed (point_to_data T (shape_at T (type_of v.expr))) refl h,
  )

  runtimes-made : (ts : List RuntimeType) (vs : List Value) (last : Test) (s s' : Scopes) → Forward T vs s s' → length ts ≡ length vs
      → first_broken (runtime_argument_tests T ts (map argument_of vs) ++ last ∷ []) ≡ None
      → AreMade T (runtime_arguments T ts vs) vs × AllZip (IsRuntimeArgument T) ts (runtime_arguments T ts vs)
  runtimes-made [] [] last s s' f l h = (tt, tt)
  runtimes-made [] (v ∷ vs) last s s' f l h = absurd (omega (arith, l))
  runtimes-made (t ∷ ts) [] last s s' f l h = absurd (omega (arith, l))
  runtimes-made (t ∷ ts) (v ∷ vs) last s s' f l h =
      let cut = first_ok (not (is_taken_by T t (AsValue v.expr))) (Refused v.place rule.Mismatch) (first_broken (runtime_argument_tests T ts (map argument_of vs) ++ last ∷ [])) h in
      let one = runtime-made t v f.0 s f.1 f.2 f.3 (not_false (is_taken_by T t (AsValue v.expr)) cut.0) in
      let more = runtimes-made ts vs last f.1 s' f.4 (cut_length t ts v vs l) cut.1 in
      ((one.0, more.0), (one.1, more.1))

-- Calls

pub lengths : {A : Type 0} (ts : List A) (vs : List Value) → not (length ts == length (map argument_of vs)) ≡ false → length ts ≡ length vs
lengths ts vs h = same_length ts (map argument_of vs) h ∙ length-map vs argument_of

module _ (T : Table) (ef : tree.Expr) (all : tree.Arguments) (f : TypedExpr) (at : Place) (vs : List Value) (s0 m s : Scopes) (basic : IsBasic T)
    (vf : IsValueOf T ef f s0 m) (va : AreValuesOf T all vs m s) where
  call-function : (ps : List TypeId) (r : TypeId) (n : NodeId) (t : TypeId) → shape_at T (type_of f) ≡ Pointer n t → shape_at T t ≡ Function ps r
      → first_broken (call_tests_of T (Function ps r) at (map argument_of vs)) ≡ None
      → IsElaborated T (tree.Call ef at all) (called_shape T f at vs (Function ps r)) s0 s
  call-function ps r n t hf ht u =
      let last : Test = broken_at rule.BadCall at (not (length ps == length (map argument_of vs))) in
      let alike = lengths ps vs (last_ok (argument_tests T ps (map argument_of vs)) last u) in
      let made = converted-made T basic ps vs last m s (forward T all vs m s va) alike u in
      let args = arguments-are T all (converted_arguments T ps vs) vs m s made.0 va in
      let qf = vf.erases in
      let qa = args.erases in (
        (
          m,
          vf.typed,
          args.typed,
          record {
            parameters = ps;
            function = t;
            pointer = record { plain = vf.settled.plain (ap is_scalar_shape hf); type = (n, has_shape T (type_of f) (Pointer n t) hf refl) };
            shape = has_shape T t (Function ps r) ht refl;
            each = subst (AllZip (IsArgument T) ps) (sym args.listed) made.1;
          },
        ),
        (λ i. tree.Call (qf i) at (qa i)),
        refl,
      )

  broken_call : {P : Type 0} → first_broken (broken_at rule.BadCall at true ∷ []) ≡ None → P
  broken_call h = absurd (none-some (Refused at rule.BadCall) (sym h))

  -- by what is called
  call-shape : (n : NodeId) (t : TypeId) (y : TypeShape) → shape_at T (type_of f) ≡ Pointer n t → shape_at T t ≡ y → first_broken (call_tests_of T y at (map argument_of vs)) ≡ None
      → IsElaborated T (tree.Call ef at all) (called_shape T f at vs y) s0 s
  call-shape n t (Function ps r) hf ht u = call-function ps r n t hf ht u
  call-shape n t Void hf ht u = broken_call u
  call-shape n t (Integer bytes signed) hf ht u = broken_call u
  call-shape n t (Pointer w v) hf ht u = broken_call u
  call-shape n t (Array v w) hf ht u = broken_call u
  call-shape n t (Struct w) hf ht u = broken_call u
  call-shape n t (Union w) hf ht u = broken_call u

  call-pointer : (x : TypeShape) → shape_at T (type_of f) ≡ x → first_broken (call_tests_of T (pointed_shape T x) at (map argument_of vs)) ≡ None
      → IsElaborated T (tree.Call ef at all) (called_shape T f at vs (pointed_shape T x)) s0 s
  call-pointer (Pointer n t) hf u = call-shape n t (shape_at T t) hf refl u
  call-pointer Void hf u = broken_call u
  call-pointer (Integer bytes signed) hf u = broken_call u
  call-pointer (Array v w) hf u = broken_call u
  call-pointer (Function ps r) hf u = broken_call u
  call-pointer (Struct w) hf u = broken_call u
  call-pointer (Union w) hf u = broken_call u

  module _ (function : Runtime) (named : runtime_named f ≡ Some function) (u : first_broken (runtime_tests T (prototype_of function).parameters at (map argument_of vs)) ≡ None) where
    es : List TypedExpr
    es = runtime_arguments T (prototype_of function).parameters vs

    made : AreMade T (runtime_arguments T (prototype_of function).parameters vs) vs
        × AllZip (IsRuntimeArgument T) (prototype_of function).parameters (runtime_arguments T (prototype_of function).parameters vs)
    made =
        let ps : List RuntimeType = (prototype_of function).parameters in
        let last : Test = broken_at rule.BadCall at (not (length ps == length (map argument_of vs))) in
        runtimes-made T basic ps vs last m s (forward T all vs m s va) (lengths ps vs (last_ok (runtime_argument_tests T ps (map argument_of vs)) last u)) u

    args : AreArguments T all (runtime_arguments T (prototype_of function).parameters vs) m s
    args = arguments-are T all (runtime_arguments T (prototype_of function).parameters vs) vs m s made.0 va

    call_of : IsRuntimeCallOf T function f (arguments_as (runtime_arguments T (prototype_of function).parameters vs))
    call_of = record { named = named; each = subst (AllZip (IsRuntimeArgument T) (prototype_of function).parameters) (sym args.listed) made.1 }

    same : tree.Call (erased f) at (erased_arguments (arguments_as (runtime_arguments T (prototype_of function).parameters vs))) ≡ tree.Call ef at all
    same = let qf = vf.erases in let qa = args.erases in λ i. tree.Call (qf i) at (qa i)

  call-runtime : (function : Runtime) → runtime_named f ≡ Some function → first_broken (runtime_tests T (prototype_of function).parameters at (map argument_of vs)) ≡ None
      → IsElaborated T (tree.Call ef at all) (runtime_call function f at (arguments_as (runtime_arguments T (prototype_of function).parameters vs)) (prototype_of function).result) s0 s
  call-runtime runtime.Malloc named u =
      ((m, vf.typed, (args runtime.Malloc named u).typed, record { call = call_of runtime.Malloc named u; gives = refl }), same runtime.Malloc named u, refl)
  call-runtime runtime.Calloc named u =
      ((m, vf.typed, (args runtime.Calloc named u).typed, record { call = call_of runtime.Calloc named u; gives = refl }), same runtime.Calloc named u, refl)
  call-runtime runtime.Free named u =
      ((m, vf.typed, (args runtime.Free named u).typed, record { call = call_of runtime.Free named u; result = basic.void }), same runtime.Free named u, refl)
  call-runtime runtime.Getchar named u =
      ((m, vf.typed, (args runtime.Getchar named u).typed, record { call = call_of runtime.Getchar named u; result = basic.integers int (inr (inr (inl refl))) }), same runtime.Getchar named u, refl)
  call-runtime runtime.Putchar named u =
      ((m, vf.typed, (args runtime.Putchar named u).typed, record { call = call_of runtime.Putchar named u; result = basic.integers int (inr (inr (inl refl))) }), same runtime.Putchar named u, refl)
  call-runtime runtime.Exit named u =
      ((m, vf.typed, (args runtime.Exit named u).typed, record { call = call_of runtime.Exit named u; result = basic.void }), same runtime.Exit named u, refl)

  call-by : (o : Option Runtime) → runtime_named f ≡ o → first_broken (call_tests_by o T at (shape_at T (type_of f)) (map argument_of vs)) ≡ None
      → IsElaborated T (tree.Call ef at all) (called T f at vs o) s0 s
  call-by None named u = call-pointer (shape_at T (type_of f)) refl u
  call-by (Some function) named u = call-runtime function named u

pub call-judged : (ef : tree.Expr) (all : tree.Arguments) (f : Value) (at : Place) (values : List Value) (o : Operand) (s0 m : Scopes) (s r : State) → IsKnown s
    → IsValueOf s.table ef f.expr s0 m → AreValuesOf s.table all values m s.seen.scopes → f.place ≡ expr_place ef → call f at values s ≡ Gives o r
    → IsJudged (tree.Call ef at all) o s0 s r
unfolding call
call-judged ef all f at values o s0 m s r k vf va here h =
    let c = construct-gives (λ (q : State). call_tests q.table at (AsValue f.expr) (map argument_of values)) f.place (max f.held (arguments_held 1 values) ∷ [])
    (by_known (λ q. pure (called q.table f.expr at values (runtime_named f.expr)))) s o r h in
    made-here (tree.Call ef at all) (called s.table f.expr at values (runtime_named f.expr)) o s0 s r k c.part (c.place ∙ here)
    (call-by s.table ef all f.expr at values s0 m s.seen.scopes k.basic vf va (runtime_named f.expr) refl c.unbroken)

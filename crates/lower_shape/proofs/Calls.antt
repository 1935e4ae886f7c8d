-- Arguments and calls.
use Rattle.std.proofs.Common.{ℕ, zero, suc, ◌<◌, ◌≤◌, ◌+◌, ◌≡◌, ◌⊎◌, inl, inr, refl, ap, ◌∙◌, sym, subst, List, [], ◌∷◌, ◌++◌, arith, Option, Some, None, IsSome, IsTrue, append_assoc, length, slice_get}
use Rattle.std.specs.List.{Contains, AllZip}
use Rattle.cc_base.specs.declared.place.Place.{Place}
use Rattle.cc_base.specs.declared.number.NodeId.{NodeId}
use Rattle.cc_base.specs.declared.number.TypeId.{TypeId}
use Rattle.kind_sites.specs.declared.site.Site.TheVariants as site
use Rattle.c_types.specs.Table.{shape_at}
use Rattle.integers.specs.Arithmetic.{IntegerType, int, unsigned_long}
use Rattle.c_tree.specs.declared.typed_word.Runtime.{Runtime}
use Rattle.c_tree.specs.declared.typed_word.Runtime.TheVariants as function
use Rattle.c_tree.specs.TypedTree as typed
use Rattle.c_tree.specs.TypedTree.{TypedExpr, TypedArguments}
use Rattle.c_tree.specs.TypedParts.{type_of}
use Rattle.c_typing.specs.Shapes.{IsIntegerType, is_scalar_shape}
use Rattle.c_ready.specs.Rows.{IsArgument, listed_arguments, IsCall, IsRuntimeCall, IsRuntimeCallOf, IsFreed}
use Rattle.c_ready.specs.Ready.{Stage}
use Rattle.c_ready.proofs.Contexts.{context_of}
use Rattle.c_ready.proofs.Suits.{converted-suits}
use Rattle.cil_form.specs.declared.number.Temp.TheVariants as temp
use Rattle.cil_form.specs.declared.instr.Allocate.TheVariants as allocate
use Rattle.cil_form.specs.declared.instr.RuntimeCall.TheVariants as runtime
use Rattle.cil_form.specs.declared.instr.Instr.{Instr}
use Rattle.cil_form.specs.declared.instr.Instr.TheVariants as instr
use Rattle.cil_form.specs.Typing.{HeldType, IntegerOf, PointerTo, Typing, Context, held_by, held_shape, Holds, IsNode, AreShaped, AreArguments, IsBlockType}
use Rattle.lower_rules.specs.Pieces.{Form, Line, Then, When}
use Rattle.lower_rules.specs.Words.{value, RunsRuntime, Allocates}
use Rattle.lower_rules.specs.Expressions.{count}
use Rattle.lower_shape.specs.Stands.{Frame, stand, Knows}
use Rattle.c_tree.specs.TypedParts.{first_place}
use Rattle.c_typing.specs.Constants.{is_null_constant}
use Rattle.lower_shape.proofs.Forms.{Agrees, agrees-then, agrees-lower, agrees-same, IsHeld, Leads, AllLead, Asks, head, of-type, scalar-held, all-as}
use Rattle.lower_shape.proofs.Types.{integer-held, scalar-some}
use Rattle.lower_shape.proofs.Updates.{as-integer, as-pointer}

-- what is known of the values of arguments, from number v on
abbrev pub Row : Context → Typing → ℕ → TypedArguments → Type 0
Row k U v typed.NoArgument = Unit {0}
Row k U v (typed.AndArgument all e) = Row k U v all × IsHeld (held_by k (type_of e)) (U (value (v + count all)))

abbrev pub LeadsRow : Context → List Instr → ℕ → TypedArguments → Type 0
LeadsRow k code v l =
    (T final : Typing) (rest : List Instr) → ((U : Typing) → Agrees v T U → Row k U v l → AreShaped rest k U final)
    → AreShaped (code ++ rest) k T final

agrees-less : (m n : ℕ) (T U : Typing) → m ≤ n → Agrees n T U → Agrees m T U
agrees-less m n T U l h (temp.Value i) p = h (temp.Value i) (omega (arith, l, p))
agrees-less m n T U l h (temp.Switch i) p = h (temp.Switch i) tt
agrees-less m n T U l h (temp.Work w) p = absurd p

row-kept : (k : Context) (U V : Typing) (v : ℕ) (l : TypedArguments) → Agrees (v + count l) U V → Row k U v l → Row k V v l
row-kept k U V v typed.NoArgument a h = tt
row-kept k U V v (typed.AndArgument all e) a h = (
  row-kept k U V v all (agrees-less (v + count all) (v + suc (count all)) U V (omega arith) a) h.0,
  subst (λ z. IsHeld (held_by k (type_of e)) z)
      (sym (a (value (v + count all)) (omega arith))) h.1,
)

-- all code of the form does
abbrev pub AllRow : Context → Form → ℕ → TypedArguments → Type 0
AllRow k P v l = (c : List Instr) → P c → LeadsRow k c v l

pub no-row : (k : Context) (v : ℕ) → LeadsRow k [] v typed.NoArgument
no-row k v T final rest next = next T (agrees-same v T) tt

pub more-row : (k : Context) (x y : List Instr) (v : ℕ) (all : TypedArguments) (e : TypedExpr) → LeadsRow k x v all
    → Leads k y (v + count all) (held_by k (type_of e)) → LeadsRow k (x ++ y) v (typed.AndArgument all e)
more-row k x y v all e h l T final rest next =
    subst (λ c. AreShaped c k T final) (sym (append_assoc x y rest))
    (h T final (y ++ rest) (λ U a r. l U final rest
    (λ V b p. next V (agrees-then v T U V a (agrees-less v (v + count all) U V (omega arith) b)) (row-kept k U V v all b r, p))))

snoc : {X : Type 0} (xs : List X) (x y : X) (i : ℕ) → slice_get (xs ++ x ∷ []) i ≡ Some y → (slice_get xs i ≡ Some y) ⊎ ((i ≡ length xs) × (x ≡ y))
snoc [] x y zero h = inr (refl, some-same x y h)
  where
    some-same : {A : Type 0} (a c : A) → Some a ≡ Some c → a ≡ c
    some-same a c g = cc
snoc [] x y (suc i) h = absurd (cc (h))
snoc (z ∷ xs) x y zero h = inl h
snoc (z ∷ xs) x y (suc i) h = elim (snoc xs x y i h) [ inl g ↦ inl g | inr g ↦ inr (ap suc g.0, g.1) ]

length-snoc : {X : Type 0} (xs : List X) (x : X) → length (xs ++ x ∷ []) ≡ suc (length xs)
length-snoc [] x = refl
length-snoc (y ∷ xs) x = ap suc (length-snoc xs x)

pub count-listed : (l : TypedArguments) → count l ≡ length (listed_arguments l)
count-listed typed.NoArgument = refl
count-listed (typed.AndArgument all e) = ap suc (count-listed all) ∙ sym (length-snoc (listed_arguments all) e)

row-of : (k : Context) (U : Typing) (v : ℕ) (l : TypedArguments) (i : ℕ) (e : TypedExpr) → Row k U v l → slice_get (listed_arguments l) i ≡ Some e
    → (i < count l) × IsHeld (held_by k (type_of e)) (U (value (v + i)))
row-of k U v typed.NoArgument i e h g = absurd (cc (g))
row-of k U v (typed.AndArgument all d) i e h g = elim (snoc (listed_arguments all) d e i g) [
  | inl q ↦ (let r = row-of k U v all i e h.0 q in (omega (arith, r.0), r.1))
  | inr q ↦ (
    omega (arith, q.0, count-listed all),
    subst (λ z. IsHeld (held_by k (type_of z)) (U (value (v + i)))) q.1
        (subst (λ z. IsHeld (held_by k (type_of d)) (U (value (v + z)))) (count-listed all ∙ sym q.0) h.1),
  )
]

zipped : {A B : Type 0} (R : A → B → Type 0) (xs : List A) (ys : List B) → AllZip R xs ys → (i : ℕ) (x : A) → slice_get xs i ≡ Some x → (y : B)
    × (slice_get ys i ≡ Some y) × R x y
zipped R [] ys h i x g = absurd (cc (g))
zipped R (a ∷ xs) [] h i x g = absurd h
zipped R (a ∷ xs) (c ∷ ys) h zero x g = (c, refl, subst (λ z. R z c) (some-same a x g) h.0)
  where
    some-same : {A : Type 0} (a c : A) → Some a ≡ Some c → a ≡ c
    some-same a c g = cc
zipped R (a ∷ xs) (c ∷ ys) h (suc i) x g = zipped R xs ys h.1 i x g

zip-length : {A B : Type 0} (R : A → B → Type 0) (xs : List A) (ys : List B) → AllZip R xs ys → length xs ≡ length ys
zip-length R [] [] h = refl
zip-length R [] (y ∷ ys) h = absurd h
zip-length R (x ∷ xs) [] h = absurd h
zip-length R (x ∷ xs) (y ∷ ys) h = ap suc (zip-length R xs ys h.1)

module _ (s : Stage) (f : Frame) (w : Knows s f) (b : ℕ) (kept : Typing) where
  abbrev Kc : Context
  Kc = stand s f b kept

  arguments-held : (U : Typing) (v : ℕ) (l : TypedArguments) (parameters : List TypeId) → v + count l ≤ 256
      → AllZip (IsArgument s.table) parameters (listed_arguments l) → Row Kc U v l → AreArguments Kc U v parameters
  arguments-held U v l parameters small each row i p got =
      let z = zipped (IsArgument s.table) parameters (listed_arguments l) each i p got in
      let stored = (converted-suits (context_of s []) (first_place z.0) p z.0 z.2).1 in
      let r = row-of Kc U v l i z.0 row z.1 in
      of-type Kc p (v + i) U (omega (arith, small, r.0)) (stored.1, scalar-some (shape_at s.table p) stored.2)
      (subst (λ t. IsHeld (held_by Kc t) (U (value (v + i)))) stored.0 r.1)

  pub calls : (P Q : Form) (t : ℕ) (at : Place) (e : TypedExpr) (l : TypedArguments) (ty : TypeId) → suc t + count l ≤ 256 → t < 256
      → IsCall s.table e l ty → IsSome f.result
      → AllLead Kc P t (held_by Kc (type_of e)) → AllRow Kc Q (suc t) l
      → AllLead Kc (Then P (Then Q (Line
      (instr.Call (record { into = value t; callee = value t; ty = type_of e; first = suc t; count = count l; place = at }) ∷ [])))) t
      (held_by Kc ty)
  unfolding Then Line
  calls P Q t at e l ty small first h inside p q c d T final rest next =
      subst (λ z. AreShaped (z ++ rest) Kc T final) (sym (d.4 ∙ ap (λ z. d.0 ++ z) (d.3.4 ∙ ap (λ z. d.3.0 ++ z) d.3.3)))
      (subst (λ z. AreShaped z Kc T final) (sym (append_assoc d.0 (d.3.0 ++ C ∷ []) rest ∙ ap (λ z. d.0 ++ z) (append_assoc d.3.0 (C ∷ []) rest)))
      (p d.0 d.2 T final (d.3.0 ++ (C ∷ rest)) (λ U a g. q d.3.0 d.3.2 U final (C ∷ rest) (λ V c r.
      head Kc C t (held_by Kc ty) T V final rest (agrees-then t T U V a (agrees-lower t U V c))
      (λ after z. (
        h.pointer.type.0,
        h.function,
        h.parameters,
        ty,
        h.pointer.type.1,
        h.shape.1,
        count-listed l ∙ sym (zip-length (IsArgument s.table) h.parameters (listed_arguments l) h.each),
        inside,
        as-pointer Kc (h.pointer.type.0) h.function (type_of e) t V first h.pointer.type.1
            (subst (λ z. IsHeld (held_by Kc (type_of e)) z) (sym (c (value t) (omega arith))) g),
        arguments-held V (suc t) l h.parameters small h.each r,
        (first, z),
      )) next))))
    where
      C : Instr
      C = instr.Call (record { into = value t; callee = value t; ty = type_of e; first = suc t; count = count l; place = at })

  -- the first argument, and the second
  one-argument : (e : TypedExpr) (t : ℕ) (U : Typing) → Row Kc U (suc t) (typed.AndArgument typed.NoArgument e)
      → IsHeld (held_by Kc (type_of e)) (U (value (suc t)))
  one-argument e t U r = subst (λ z. IsHeld (held_by Kc (type_of e)) (U (value z))) (plus (suc t)) r.1
    where
      plus : (n : ℕ) → n + 0 ≡ n
      plus n = omega arith

  argument-integer : (i : IntegerType) (e : TypedExpr) (U : Typing) (v : ℕ) → v < 256
      → ((t : TypeId) × IsIntegerType s.table i t × IsArgument s.table t e) → IsHeld (held_by Kc (type_of e)) (U (value v))
      → Holds U (value v) (IntegerOf i)
  argument-integer i e U v small (t, h, g) r =
      as-integer Kc i t v U small h (subst (λ z. IsHeld (held_by Kc z) (U (value v)))
      ((converted-suits (context_of s []) (first_place e) t e g).1.0) r)

  -- an instruction behind arguments
  row-line : (P : Form) (i : Instr) (A : Type 0) (t : ℕ) (l : TypedArguments) (R : Option HeldType) → AllRow Kc P (suc t) l
      → (A → (U : Typing) → Row Kc U (suc t) l → Asks Kc i t R U) → AllLead Kc (Then P (When A (Line (i ∷ [])))) t R
  unfolding Then Line When
  row-line P i A t l R h asks c d T final rest next =
      subst (λ z. AreShaped (z ++ rest) Kc T final) (sym (d.4 ∙ ap (λ z. d.0 ++ z) d.3.1))
      (subst (λ z. AreShaped z Kc T final) (sym (append_assoc d.0 (i ∷ []) rest))
      (h d.0 d.2 T final (i ∷ rest) (λ U a r. head Kc i t R T U final rest (agrees-lower t T U a) (asks d.3.0 U r) next)))

  row-never : (P : Form) (Q : Form) (t : ℕ) (R : Option HeldType) → ((c : List Instr) → Q c → ⊥) → AllLead Kc (Then P Q) t R
  unfolding Then
  row-never P Q t R never c d = absurd (never d.1 d.3)

  abbrev pub AreFreed : TypedArguments → Type 0
  AreFreed (typed.AndArgument typed.NoArgument e) = IsTrue (is_null_constant s.table e) → IsTrue (is_scalar_shape (shape_at s.table (type_of e)))
  AreFreed other = Unit {0}

  -- a call of a runtime function that is no allocation
  pub runs : (P : Form) (which : Runtime) (t : ℕ) (l : TypedArguments) (e : TypedExpr) (ty : TypeId) → suc t < 256
      → IsRuntimeCall s.table which e l ty → AreFreed l
      → AllRow Kc P (suc t) l → AllLead Kc (Then P (RunsRuntime which (count l) t)) t (held_by Kc ty)
  unfolding RunsRuntime
  runs P function.Getchar t l e ty small h z p =
      all-as Kc (Then P (When (count l ≡ 0) (Line (instr.Runtime (runtime.Getchar (value t)) ∷ [])))) t (Some (IntegerOf int)) (held_by Kc ty)
      (sym (integer-held (shape_at s.table ty) int h.result.1))
      (row-line P (instr.Runtime (runtime.Getchar (value t))) (count l ≡ 0) t l (Some (IntegerOf int)) p (λ n U r after g. (omega (arith, small), g)))
  runs P function.Putchar t (typed.AndArgument typed.NoArgument a) e ty small h z p =
      all-as Kc (Then P (When (1 ≡ 1) (Line (instr.Runtime (runtime.Putchar (value t) (value (suc t))) ∷ [])))) t (Some (IntegerOf int))
      (held_by Kc ty)
      (sym (integer-held (shape_at s.table ty) int h.result.1))
      (row-line P (instr.Runtime (runtime.Putchar (value t) (value (suc t)))) (1 ≡ 1) t (typed.AndArgument typed.NoArgument a)
      (Some (IntegerOf int)) p
      (λ n U r after g. (argument-integer int a U (suc t) small (h.call.each.0) (one-argument a t U r), (omega (arith, small), g))))
  runs P function.Exit t (typed.AndArgument typed.NoArgument a) e ty small h z p =
      all-as Kc (Then P (When (1 ≡ 1) (Line (instr.Runtime (runtime.Exit (value t) (value (suc t))) ∷ [])))) t None (held_by Kc ty)
      (sym (ap held_shape h.result.1))
      (row-line P (instr.Runtime (runtime.Exit (value t) (value (suc t)))) (1 ≡ 1) t (typed.AndArgument typed.NoArgument a) None p
      (λ n U r after g. (argument-integer int a U (suc t) small (h.call.each.0) (one-argument a t U r), (omega (arith, small), g))))
  runs P function.Free t (typed.AndArgument typed.NoArgument a) e ty small h z p =
      all-as Kc (Then P (When (1 ≡ 1) (Line (instr.Runtime (runtime.Free (value t) (value (suc t))) ∷ [])))) t None (held_by Kc ty)
      (sym (ap held_shape h.result.1))
      (row-line P (instr.Runtime (runtime.Free (value t) (value (suc t)))) (1 ≡ 1) t (typed.AndArgument typed.NoArgument a) None p
      (λ n U r after g. (
        scalar-held (held_by Kc (type_of a)) (suc t) U small (freed h.call.each.0) (one-argument a t U r),
        (omega (arith, small), g),
      )))
    where
      freed : IsFreed s.table a → IsSome (held_by Kc (type_of a))
      freed q = elim q.type [
        | inl g ↦ scalar-some (shape_at s.table (type_of a)) (ap is_scalar_shape g.1.1.1)
        | inr g ↦ scalar-some (shape_at s.table (type_of a)) (z g)
      ]
  runs P function.Putchar t typed.NoArgument e ty small h z p = row-line P _ (0 ≡ 1) t typed.NoArgument (held_by Kc ty) p (λ n. absurd (cc (n)))
  runs P function.Exit t typed.NoArgument e ty small h z p = row-line P _ (0 ≡ 1) t typed.NoArgument (held_by Kc ty) p (λ n. absurd (cc (n)))
  runs P function.Free t typed.NoArgument e ty small h z p = row-line P _ (0 ≡ 1) t typed.NoArgument (held_by Kc ty) p (λ n. absurd (cc (n)))
  runs P function.Putchar t (typed.AndArgument (typed.AndArgument l c) a) e ty small h z p =
      row-line P _ (suc (suc (count l)) ≡ 1) t (typed.AndArgument (typed.AndArgument l c) a) (held_by Kc ty) p (λ n. absurd (cc (n)))
  runs P function.Exit t (typed.AndArgument (typed.AndArgument l c) a) e ty small h z p =
      row-line P _ (suc (suc (count l)) ≡ 1) t (typed.AndArgument (typed.AndArgument l c) a) (held_by Kc ty) p (λ n. absurd (cc (n)))
  runs P function.Free t (typed.AndArgument (typed.AndArgument l c) a) e ty small h z p =
      row-line P _ (suc (suc (count l)) ≡ 1) t (typed.AndArgument (typed.AndArgument l c) a) (held_by Kc ty) p (λ n. absurd (cc (n)))
  runs P function.Malloc t l e ty small h z p = row-never P _ t (held_by Kc ty) (λ c d. d)
  runs P function.Calloc t l e ty small h z p = row-never P _ t (held_by Kc ty) (λ c d. d)

  -- an allocation
  pub allocates : (P : Form) (which : Runtime) (t : ℕ) (at : Place) (l : TypedArguments) (e : TypedExpr) (node : NodeId) (u : TypeId)
      → suc t + count l ≤ 256
      → IsRuntimeCallOf s.table which e l → IsNode Kc node → IsBlockType Kc node u → Contains f.sites (site.Pointee node u) → AllRow Kc P (suc t) l
      → AllLead Kc (Then P (Allocates which (count l) t node u at)) t (Some (PointerTo node u))
  unfolding Allocates
  allocates P function.Malloc t at (typed.AndArgument typed.NoArgument a) e node u small h here block told p =
      row-line P (instr.Allocate (allocate.Malloc (value t) (value (suc t)) node u at)) (1 ≡ 1) t (typed.AndArgument typed.NoArgument a)
      (Some (PointerTo node u)) p
      (λ n U r after g. (
        (
          here,
          block,
          argument-integer unsigned_long a U (suc t) (omega (arith, small)) (h.each.0) (one-argument a t U r),
          (omega (arith, small), g),
        ),
        (told, tt),
      ))
  allocates P function.Calloc t at (typed.AndArgument (typed.AndArgument typed.NoArgument a) c) e node u small h here block told p =
      row-line P (instr.Allocate (allocate.Calloc (value t) (value (suc t)) (value (suc t + 1)) node u at)) (2 ≡ 2) t
      (typed.AndArgument (typed.AndArgument typed.NoArgument a) c) (Some (PointerTo node u)) p
      (λ n U r after g. (
        (
          here,
          block,
          argument-integer unsigned_long a U (suc t) (omega (arith, small)) (h.each.0) (one-argument a t U r.0),
          argument-integer unsigned_long c U (suc t + 1) (omega (arith, small)) (h.each.1.0) r.1,
          (omega (arith, small), g),
        ),
        (told, tt),
      ))
  allocates P function.Malloc t at typed.NoArgument e node u small h here block told p =
      row-line P _ (0 ≡ 1) t typed.NoArgument (Some (PointerTo node u)) p (λ n. absurd (cc (n)))
  allocates P function.Malloc t at (typed.AndArgument (typed.AndArgument l c) a) e node u small h here block told p =
      row-line P _ (suc (suc (count l)) ≡ 1) t (typed.AndArgument (typed.AndArgument l c) a) (Some (PointerTo node u)) p (λ n. absurd (cc (n)))
  allocates P function.Calloc t at typed.NoArgument e node u small h here block told p =
      row-line P _ (0 ≡ 2) t typed.NoArgument (Some (PointerTo node u)) p (λ n. absurd (cc (n)))
  allocates P function.Calloc t at (typed.AndArgument typed.NoArgument a) e node u small h here block told p =
      row-line P _ (1 ≡ 2) t (typed.AndArgument typed.NoArgument a) (Some (PointerTo node u)) p (λ n. absurd (cc (n)))
  allocates P function.Calloc t at (typed.AndArgument (typed.AndArgument (typed.AndArgument l d) c) a) e node u small h here block told p =
      row-line P _ (suc (suc (suc (count l))) ≡ 2) t (typed.AndArgument (typed.AndArgument (typed.AndArgument l d) c) a) (Some (PointerTo node u)) p
      (λ n. absurd (cc (n)))
  allocates P function.Getchar t at l e node u small h here block told p = row-never P _ t (Some (PointerTo node u)) (λ c d. d)
  allocates P function.Putchar t at l e node u small h here block told p = row-never P _ t (Some (PointerTo node u)) (λ c d. d)
  allocates P function.Exit t at l e node u small h here block told p = row-never P _ t (Some (PointerTo node u)) (λ c d. d)
  allocates P function.Free t at l e node u small h here block told p = row-never P _ t (Some (PointerTo node u)) (λ c d. d)

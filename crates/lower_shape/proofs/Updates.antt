-- Steps and compound assignments in shape.
use Rattle.std.proofs.Common.{ℕ, suc, ◌<◌, ◌≡◌, refl, ap, ◌∙◌, sym, subst, pos, Bool, true, false, List, [], ◌∷◌, ◌++◌, arith, Option, Some, append_assoc, ◌==◌}
use Rattle.std.specs.List.{Contains}
use Rattle.std.proofs.lemmas.Bool.Decides.{nat_tests}
use Rattle.cc_base.specs.declared.place.Place.{Place}
use Rattle.cc_base.specs.declared.number.NodeId.{NodeId}
use Rattle.cc_base.specs.declared.number.TypeId.{TypeId}
use Rattle.kind_sites.specs.declared.site.Site.TheVariants as site
use Rattle.integers.specs.Arithmetic as integer
use Rattle.integers.specs.Arithmetic.{IntegerType, converted}
use Rattle.c_tree.specs.declared.operator.Assignment.{Assignment}
use Rattle.c_tree.specs.declared.operator.Assignment.TheVariants as assignment
use Rattle.c_tree.specs.declared.operator.Step.{Step}
use Rattle.c_tree.specs.declared.operator.Step.TheVariants as step
use Rattle.src_mem.specs.Operations.{node_at}
use Rattle.src_machine.specs.Expressions.{same_type}
use Rattle.cil_form.specs.declared.number.Temp.{Temp}
use Rattle.cil_form.specs.declared.number.Temp.TheVariants as temp
use Rattle.cil_form.specs.declared.instr.Set.TheVariants as set
use Rattle.cil_form.specs.declared.instr.Calculate.TheVariants as calculate
use Rattle.cil_form.specs.declared.instr.Point.TheVariants as point
use Rattle.cil_form.specs.declared.instr.Convert.TheVariants as convert
use Rattle.cil_form.specs.declared.instr.Access.TheVariants as access
use Rattle.cil_form.specs.declared.instr.Target.TheVariants as target
use Rattle.cil_form.specs.declared.instr.Instr.{Instr}
use Rattle.cil_form.specs.declared.instr.Instr.TheVariants as instr
use Rattle.cil_form.specs.Typing.{HeldType, IntegerOf, PointerTo, Typing, Context, Includes, with_held, held_by, held_shape, Holds, IsTemp, IsInteger, IsPointer, IsScalar, IsNode, IsObjectType, IsRightOperand, result_type, AreShaped}
use Rattle.cil_form.proofs.TypingLaws.{includes-all}
use Rattle.lower_rules.specs.Pieces.{Form, Line, Then}
use Rattle.lower_rules.specs.Words.{value, work, int, lowered_step, lowered_assignment, direction_of, convert_code, update_code, step_code, stepping, updating, step_result}
use Rattle.lower_shape.proofs.Forms.{Agrees, agrees-then, agrees-lower, agrees-same, with-agrees, with-same, IsHeld, is-held, held-as, AllLead, Carries, head}
use Rattle.lower_shape.proofs.Places.{IsAddressOf, holds-address, address-kept, sets, effects, copied}

-- What is known of a value of a type

pub as-integer : (k : Context) (i : IntegerType) (ty : TypeId) (t : ℕ) (U : Typing) → t < 256 → IsInteger k ty i → IsHeld (held_by k ty) (U (value t))
    → Holds U (value t) (IntegerOf i)
as-integer k i ty t U small h e = (small, subst (λ x. IsHeld x (U (value t))) (ap held_shape h.1) e)

pub as-pointer : (k : Context) (n : NodeId) (u ty : TypeId) (t : ℕ) (U : Typing) → t < 256 → IsPointer k ty n u → IsHeld (held_by k ty) (U (value t))
    → Holds U (value t) (PointerTo n u)
as-pointer k n u ty t U small h e = (small, subst (λ x. IsHeld x (U (value t))) (ap held_shape h.1) e)

-- Steps

-- what a step asks of the type of the place, by whether it is a pointer
abbrev pub IsStep : Context → Bool → TypeId → Place → Type 0
IsStep k true ty at = (n : NodeId) × (u : TypeId) × IsPointer k ty n u × IsObjectType k u × Contains k.sites (site.Arith (node_at k.table ty) at)
IsStep k false ty at = (i : IntegerType) × IsInteger k ty i × (converted i (pos 1) ≡ pos 1)

-- what may be done at an address of the node
abbrev pub IsUsed : Context → NodeId → TypeId → (Option HeldType → Type 0) → Type 0
IsUsed k n ty G = (y : Option HeldType) → G y → IsNode k n × IsAddressOf n ty y

work-agrees : (t : ℕ) (x : Option HeldType) (V : Typing) → Agrees t V (with_held work x V)
work-agrees t x V (temp.Value n) p = refl
work-agrees t x V (temp.Switch n) p = refl
work-agrees t x V (temp.Work w) p = absurd p

step-right : (which : Step) (i : IntegerType) (U : Typing) (t : Temp) → Holds U t (IntegerOf i) → IsRightOperand (lowered_step which) U t i
unfolding lowered_step
step-right step.Increment i U t h = h
step-right step.Decrement i U t h = h

step-type : (which : Step) (i : IntegerType) → result_type (lowered_step which) i ≡ i
unfolding lowered_step
step-type step.Increment i = refl
step-type step.Decrement i = refl

-- the new value in a working temporary
stepped : (k : Context) → IsInteger k int integer.int
    → (pointer back : Bool) (which : Step) (ty : TypeId) (at : Place) (t : ℕ) (V final : Typing) (rest : List Instr)
    → t < 256 → IsStep k pointer ty at → IsHeld (held_by k ty) (V (value t))
    → ((W : Typing) → Agrees (suc t) V W → IsHeld (held_by k ty) (W work) → AreShaped rest k W final)
    → AreShaped (step_code pointer back (lowered_step which) (value t) ty at rest) k V final
stepped k basic true back which ty at t V final rest small (n, u, h, whole, told) e next =
    sets k (instr.Set (set.Integer work (pos 1) int)) work (Some (IntegerOf integer.int)) V final (M ∷ rest)
    (λ after g. (integer.int, basic, refl, (tt, g)))
    (sets k M work (Some (PointerTo n u)) W final rest
    (λ after g. ((n, u, h, whole, as-pointer k n u ty t V small h e, (integer.int, (tt, refl)), (tt, g)), (told, tt)))
    (next (with_held work (Some (PointerTo n u)) W)
    (agrees-then (suc t) V W (with_held work (Some (PointerTo n u)) W) (work-agrees (suc t) (Some (IntegerOf integer.int)) V)
    (work-agrees (suc t) (Some (PointerTo n u)) W))
    (subst (λ z. IsHeld z (Some (PointerTo n u))) (sym (ap held_shape h.1)) refl)))
  where
    M : Instr
    M = instr.Point (point.Move work (value t) work (direction_of back) ty at)

    W : Typing
    W = with_held work (Some (IntegerOf integer.int)) V
stepped k basic false back which ty at t V final rest small (i, h, one) e next =
    sets k (instr.Set (set.Integer work (pos 1) ty)) work (Some (IntegerOf i)) V final (B ∷ rest) (λ after g. (i, h, one, (tt, g)))
    (sets k B work (Some (IntegerOf i)) W final rest
    (λ after g. (
      i,
      h,
      as-integer k i ty t V small h e,
      step-right which i W work (tt, refl),
      (tt, subst (λ z. Includes (with_held work (Some (IntegerOf z)) W) after) (sym (step-type which i)) g),
    ))
    (next (with_held work (Some (IntegerOf i)) W)
    (agrees-then (suc t) V W (with_held work (Some (IntegerOf i)) W) (work-agrees (suc t) (Some (IntegerOf i)) V)
    (work-agrees (suc t) (Some (IntegerOf i)) W))
    (subst (λ z. IsHeld z (Some (IntegerOf i))) (sym (ap held_shape h.1)) refl)))
  where
    B : Instr
    B = instr.Calculate (calculate.Binary work (lowered_step which) (value t) work ty at)

    W : Typing
    W = with_held work (Some (IntegerOf i)) V

step-more : (pointer back : Bool) (which : Step) (old : Temp) (ty : TypeId) (at : Place) (is rest : List Instr)
    → step_code pointer back (lowered_step which) old ty at is ++ rest ≡ step_code pointer back (lowered_step which) old ty at (is ++ rest)
step-more true back which old ty at is rest = refl
step-more false back which old ty at is rest = refl

result-temp : (old : Bool) (t : ℕ) → suc t < 256 → IsTemp (step_result old t)
result-temp true t small = small
result-temp false t small = tt

pub steps : (k : Context) → IsInteger k int integer.int
    → (pointer back old : Bool) (which : Step) (n : NodeId) (G : Option HeldType → Type 0) (ty : TypeId) (t : ℕ)
    (own at : Place) → suc t < 256 → IsScalar k ty → IsUsed k n ty G → IsStep k pointer ty at
    → Carries k (Line (stepping pointer (lowered_step which) back (step_result old t) n ty own at t)) t G (held_by k ty)
unfolding Line
steps k basic pointer back old which n G ty t own at small scalar usable fits c d T U final rest a g next =
    subst (λ z. AreShaped (z ++ rest) k U final) (sym d)
    (sets k L (value (suc t)) (held_by k ty) U final (step_code pointer back (lowered_step which) (value (suc t)) ty at (S ∷ C ∷ []) ++ rest)
    (λ after z. (((usable (U (value t)) g).0, scalar, holds-address U t n ty (omega (arith, small)) (usable (U (value t)) g).1, (small, z)), tt))
    (subst (λ z. AreShaped z k V final) (sym (step-more pointer back which (value (suc t)) ty at (S ∷ C ∷ []) rest))
    (stepped k basic pointer back which ty at (suc t) V final (S ∷ C ∷ rest) small fits
    (subst (λ z. IsHeld (held_by k ty) z) (sym (with-same (suc t) (held_by k ty) U)) (is-held (held_by k ty)))
    (λ W aw hw.
    let same = aw (value t) (omega arith) ∙ with-agrees (suc t) (held_by k ty) U (value t) (omega arith) in
    effects k S W final (C ∷ rest) (
      (
        ((usable (U (value t)) g).0, holds-address W t n ty (omega (arith, small)) (address-kept U W t n ty same (usable (U (value t)) g).1)),
        (scalar, tt, held-as (held_by k ty) (W work) hw scalar.1),
        includes-all W,
      ),
      tt,
    )
    (copied k t (step_result old t) (held_by k ty) T W final rest (omega (arith, small)) (result-temp old t small) (is old W aw hw)
    (agrees-then t T U W a (agrees-then t U V W (agrees-lower t U V (with-agrees (suc t) (held_by k ty) U))
    (agrees-lower t V W (agrees-lower (suc t) V W aw)))) next)))))
  where
    L : Instr
    L = instr.Access (access.Load (value (suc t)) (value t) n ty own)

    S : Instr
    S = instr.Access (access.Store (target.Pointer (value t) n) work ty own at)

    C : Instr
    C = instr.Set (set.Copy (value t) (step_result old t))

    V : Typing
    V = with_held (value (suc t)) (held_by k ty) U

    is : (old : Bool) (W : Typing) → Agrees (suc (suc t)) V W → IsHeld (held_by k ty) (W work) → W (step_result old t) ≡ held_by k ty
    is true W aw hw = aw (value (suc t)) (omega arith) ∙ with-same (suc t) (held_by k ty) U
    is false W aw hw = held-as (held_by k ty) (W work) hw scalar.1

-- Compound assignments

-- What an update asks, by a value of which y is known: of a pointer, that it may move by an integer; of an integer of type ty, that the operator
-- takes it converted to the type u.
abbrev pub IsUpdate : Context → Bool → Assignment → TypeId → TypeId → Option HeldType → Place → Type 0
IsUpdate k true which ty u y at =
    (n : NodeId) × (v : TypeId) × IsPointer k ty n v × IsObjectType k v × Contains k.sites (site.Arith (node_at k.table ty) at)
    × ((i : IntegerType) × (y ≡ Some (IntegerOf i)))
IsUpdate k false which ty u y at = (l j r : IntegerType) × IsInteger k ty l × IsInteger k u j × (y ≡ Some (IntegerOf r))
    × ((U : Typing) (b : Temp) → Holds U b (IntegerOf r) → IsRightOperand (lowered_assignment which) U b j)

assigned-type : (which : Assignment) (i : IntegerType) → result_type (lowered_assignment which) i ≡ i
unfolding lowered_assignment
assigned-type assignment.Multiply i = refl
assigned-type assignment.Divide i = refl
assigned-type assignment.Remainder i = refl
assigned-type assignment.Add i = refl
assigned-type assignment.Subtract i = refl
assigned-type assignment.ShiftLeft i = refl
assigned-type assignment.ShiftRight i = refl
assigned-type assignment.BitAnd i = refl
assigned-type assignment.BitXor i = refl
assigned-type assignment.BitOr i = refl
assigned-type assignment.Assign i = refl

same-number : (a c : TypeId) → same_type a c ≡ true → a ≡ c
same-number a c h = ap (λ (n : ℕ). record { 0 = n }) (eq a.0 c.0 h)
  where
    eq : (m n : ℕ) → (m == n) ≡ true → m ≡ n
    eq m n h = grind (arith, nat_tests, h)

-- value t of type ty is updated by value `by` below it
updated : (k : Context) (pointer back : Bool) (which : Assignment) (ty u : TypeId) (at : Place) (y : Option HeldType) (by t : ℕ) (V final : Typing)
    (rest : List Instr)
    → by < t → t < 256 → IsUpdate k pointer which ty u y at → IsHeld (held_by k ty) (V (value t)) → IsHeld y (V (value by))
    → ((W : Typing) → Agrees t V W → IsHeld (held_by k ty) (W (value t)) → AreShaped rest k W final)
    → AreShaped (update_code pointer back (lowered_assignment which) (value t) (value by) ty u at rest) k V final
updated k true back which ty u at y by t V final rest less small (n, v, h, whole, told, (i, is)) e g next =
    head k (instr.Point (point.Move (value t) (value t) (value by) (direction_of back) ty at)) t (held_by k ty) V V final rest (agrees-same t V)
    (λ after z. (
      (
        n,
        v,
        h,
        whole,
        as-pointer k n v ty t V small h e,
        (i, (omega (arith, less, small), subst (λ x. IsHeld x (V (value by))) is g)),
        (small, subst (λ x. Includes (with_held (value t) x V) after) (ap held_shape h.1) z),
      ),
      (told, tt),
    )) next
updated k false back which ty u at y by t V final rest less small (l, j, r, h, m, is, right) e g next = choice (same_type ty u) refl
  where
    B : Instr
    B = instr.Calculate (calculate.Binary (value t) (lowered_assignment which) (value t) (value by) u at)

    -- the operator, from any typing that has the old value as it is computed in
    computed : (W : Typing) (more : List Instr) → Agrees t V W → W (value t) ≡ Some (IntegerOf j)
        → ((X : Typing) → Agrees t V X → IsHeld (Some (IntegerOf j)) (X (value t)) → AreShaped more k X final) → AreShaped (B ∷ more) k W final
    computed W more a q more-next =
        head k B t (Some (IntegerOf j)) V W final more a
        (λ after z. (
          j,
          m,
          (small, q),
          right W (value by) (omega (arith, less, small), a (value by) less ∙ subst (λ x. IsHeld x (V (value by))) is g),
          (small, subst (λ x. Includes (with_held (value t) (Some (IntegerOf x)) W) after) (sym (assigned-type which j)) z),
        )) more-next

    choice : (c : Bool) → same_type ty u ≡ c → AreShaped (convert_code c (value t) u (B ∷ convert_code c (value t) ty rest)) k V final
    choice true q =
        let one = ap (λ z. held_by k z) (same-number ty u q) in
        computed V rest (agrees-same t V) (subst (λ x. IsHeld x (V (value t))) (one ∙ ap held_shape m.1) e)
        (λ X a p. next X a (subst (λ x. IsHeld x (X (value t))) (sym (one ∙ ap held_shape m.1)) p))
    choice false q =
        head k (instr.Convert (convert.Integer (value t) (value t) u)) t (Some (IntegerOf j)) V V final
        (B ∷ instr.Convert (convert.Integer (value t) (value t) ty) ∷ rest) (agrees-same t V)
        (λ after z. ((j, m, (l, as-integer k l ty t V small h e), (small, z)), tt))
        (λ W a p. computed W (instr.Convert (convert.Integer (value t) (value t) ty) ∷ rest) a p
        (λ X a2 p2. head k (instr.Convert (convert.Integer (value t) (value t) ty)) t (held_by k ty) V X final rest a2
        (λ after z. ((l, h, (j, (small, p2)), (small, subst (λ x. Includes (with_held (value t) x X) after) (ap held_shape h.1) z)), tt)) next))

convert-more : (b c : Bool) (t : Temp) (u ty : TypeId) (i : Instr) (is rest : List Instr)
    → convert_code b t u (i ∷ convert_code c t ty is) ++ rest ≡ convert_code b t u (i ∷ convert_code c t ty (is ++ rest))
convert-more true true t u ty i is rest = refl
convert-more true false t u ty i is rest = refl
convert-more false true t u ty i is rest = refl
convert-more false false t u ty i is rest = refl

update-more : (pointer back : Bool) (which : Assignment) (old by : Temp) (ty u : TypeId) (at : Place) (is rest : List Instr)
    → update_code pointer back (lowered_assignment which) old by ty u at is
    ++ rest ≡ update_code pointer back (lowered_assignment which) old by ty u at (is ++ rest)
update-more true back which old by ty u at is rest = refl
update-more false back which old by ty u at is rest =
    convert-more (same_type ty u) (same_type ty u) old u ty (instr.Calculate (calculate.Binary old (lowered_assignment which) old by u at)) is rest

pub updates : (k : Context) (pointer back : Bool) (which : Assignment) (Q : Form) (n : NodeId) (G : Option HeldType → Type 0) (ty u : TypeId)
    (y : Option HeldType)
    (t : ℕ) (own at : Place) → suc (suc t) < 256 → IsScalar k ty → IsUsed k n ty G → IsUpdate k pointer which ty u y at → AllLead k Q (suc t) y
    → Carries k (Then Q (Line (updating pointer (lowered_assignment which) back n ty u own at t))) t G (held_by k ty)
unfolding Then Line
updates k pointer back which Q n G ty u y t own at small scalar usable fits q c d T U final rest a g next =
    subst (λ z. AreShaped (z ++ rest) k U final) (sym (d.4 ∙ ap (λ z. d.0 ++ z) d.3))
    (subst (λ z. AreShaped z k U final)
    (sym (append_assoc d.0 (L ∷ update_code pointer back (lowered_assignment which) (value (suc (suc t))) (value (suc t)) ty u at (S ∷ C ∷ [])) rest
    ∙ ap (λ z. d.0 ++ (L ∷ z)) (update-more pointer back which (value (suc (suc t))) (value (suc t)) ty u at (S ∷ C ∷ []) rest)))
    (q d.0 d.2 U final (L ∷ update_code pointer back (lowered_assignment which) (value (suc (suc t))) (value (suc t)) ty u at (S ∷ C ∷ rest))
    (λ V b p.
    let near = address-kept U V t n ty (b (value t) (omega arith)) (usable (U (value t)) g).1 in
    sets k L (value (suc (suc t))) (held_by k ty) V final
    (update_code pointer back (lowered_assignment which) (value (suc (suc t))) (value (suc t)) ty u at (S ∷ C ∷ rest))
    (λ after z. (((usable (U (value t)) g).0, scalar, holds-address V t n ty (omega (arith, small)) near, (small, z)), tt))
    (updated k pointer back which ty u at y (suc t) (suc (suc t)) (X V) final (S ∷ C ∷ rest) (omega arith) small fits
    (subst (λ z. IsHeld (held_by k ty) z) (sym (with-same (suc (suc t)) (held_by k ty) V)) (is-held (held_by k ty)))
    (subst (λ z. IsHeld y z) (sym (with-agrees (suc (suc t)) (held_by k ty) V (value (suc t)) (omega arith))) p)
    (λ W aw hw.
    let known = held-as (held_by k ty) (W (value (suc (suc t)))) hw scalar.1 in
    let far = address-kept V W t n ty (aw (value t) (omega arith) ∙ with-agrees (suc (suc t)) (held_by k ty) V (value t) (omega arith)) near in
    effects k S W final (C ∷ rest)
    ((((usable (U (value t)) g).0, holds-address W t n ty (omega (arith, small)) far), (scalar, small, known), includes-all W), tt)
    (copied k t (value (suc (suc t))) (held_by k ty) T W final rest (omega (arith, small)) small known
    (agrees-then t T U W a (agrees-then t U V W (agrees-lower t U V b) (agrees-lower t V W (agrees-lower (suc t) V W
    (agrees-then (suc (suc t)) V (X V) W (with-agrees (suc (suc t)) (held_by k ty) V) aw))))) next))))))
  where
    L : Instr
    L = instr.Access (access.Load (value (suc (suc t))) (value t) n ty own)

    S : Instr
    S = instr.Access (access.Store (target.Pointer (value t) n) (value (suc (suc t))) ty own at)

    C : Instr
    C = instr.Set (set.Copy (value t) (value (suc (suc t))))

    X : Typing → Typing
    X V = with_held (value (suc (suc t))) (held_by k ty) V

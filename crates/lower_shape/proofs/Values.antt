-- Operators, conversions and constants in shape.
use Rattle.std.proofs.Common.{ℕ, ℤ, suc, ◌<◌, ◌≡◌, refl, ap, ◌∙◌, sym, subst, Bool, true, false, [], ◌∷◌, arith, Option, Some, IsSome, pos}
use Rattle.std.specs.List.{Contains}
use Rattle.cc_base.specs.declared.place.Place.{Place}
use Rattle.cc_base.specs.declared.number.NodeId.{NodeId}
use Rattle.cc_base.specs.declared.number.TypeId.{TypeId}
use Rattle.c_types.specs.declared.shape.TypeShape.TheVariants as shape
use Rattle.c_types.specs.Table.{HasShape, shape_at}
use Rattle.c_types.specs.Sameness.{IsSameType}
use Rattle.integers.specs.Arithmetic.{IntegerType, int, long, converted}
use Rattle.c_tree.specs.declared.leaf.Identifier.{Identifier}
use Rattle.c_tree.specs.declared.operator.Binary.{Binary}
use Rattle.c_tree.specs.declared.operator.Unary.{Unary}
use Rattle.c_tree.specs.declared.operator.Unary.TheVariants as unary
use Rattle.c_tree.specs.declared.typed_word.Conversion.{Conversion}
use Rattle.c_tree.specs.declared.typed_word.Conversion.TheVariants as conversion
use Rattle.c_tree.specs.declared.typed_word.Side.{Side}
use Rattle.c_tree.specs.declared.typed_word.Side.TheVariants as side
use Rattle.c_tree.specs.TypedTree.{TypedExpr}
use Rattle.c_tree.specs.TypedParts.{type_of, pointer_side}
use Rattle.c_typing.specs.Shapes.{IsIntegerType, IsPointerTo}
use Rattle.c_typing.specs.Integers as integers
use Rattle.c_ready.specs.Rows as rule
use Rattle.c_ready.specs.Rows.{IsArithmetic, IsPromoted, Meeting, BothPoint, NeverMeet, RightIsNull, LeftIsNull, meeting, meeting_of, AreOrdered, AreEquated, IsCompared, other_side}
use Rattle.c_ready.specs.Ready.{Stage, Fits, IsFunctionNamed, IsPointerToWhole, IsWhole}
use Rattle.c_ready.proofs.Suits.{integer-from}
use Rattle.src_mem.specs.Operations.{integer_of_shape}
use Rattle.src_machine.specs.Sites as tree
use Rattle.src_machine.specs.Sites.{sites_of_conversion}
use Rattle.cil_form.specs.declared.instr.Set.TheVariants as set
use Rattle.cil_form.specs.declared.instr.Calculate.TheVariants as calculate
use Rattle.cil_form.specs.declared.instr.Point.TheVariants as point
use Rattle.cil_form.specs.declared.instr.Convert.TheVariants as convert
use Rattle.cil_form.specs.declared.instr.Instr.{Instr}
use Rattle.cil_form.specs.declared.instr.Instr.TheVariants as instr
use Rattle.cil_form.specs.Sites.{AreAmong}
use Rattle.cil_form.specs.Typing.{HeldType, IntegerOf, PointerTo, Typing, Context, held_by, held_shape, Includes, with_held}
use Rattle.lower_rules.specs.Pieces.{Form, Line, Then, Choice}
use Rattle.lower_rules.specs.Words.{value, lowered, direction_of, Constant, Truth, Prefixes, Calculates, Moves, LogicalOf, Converts}
use Rattle.lower_shape.specs.Stands.{Frame, stand, low, Knows}
use Rattle.lower_shape.proofs.Forms.{IsHeld, AllLead, Carries, CarriesTwo, all-as, all-line, carries-line, carries-none, carries-never, carries-as, two-line, two-as, then-carries, one-of, scalar-held}
use Rattle.lower_shape.proofs.Updates.{as-integer, as-pointer}
use Rattle.lower_shape.proofs.Types.{converted-twice, integer-held, integer-read, pointer-held, scalar-some, operand-integer, operator-result, operator-right}

module _ (s : Stage) (f : Frame) (w : Knows s f) (b : ℕ) (kept : Typing) where
  abbrev K : Context
  K = stand s f b kept

  of-integer : (i : IntegerType) (ty : TypeId) → IsIntegerType s.table i ty → Some (IntegerOf i) ≡ held_by K ty
  of-integer i ty h = sym (integer-held (shape_at s.table ty) i h.1)

  of-pointer : (n : NodeId) (u ty : TypeId) → HasShape s.table ty (shape.Pointer n u) → Some (PointerTo n u) ≡ held_by K ty
  of-pointer n u ty h = sym (pointer-held (shape_at s.table ty) n u h.1)

  pub constants : (t : ℕ) (i : IntegerType) (z : ℤ) (ty : TypeId) → t < 256 → IsIntegerType s.table i ty
      → AllLead K (Constant (low s f) t ty z) t (held_by K ty)
  unfolding Constant
  constants t i z ty small h =
      all-as K (Constant (low s f) t ty z) t (Some (IntegerOf i)) (held_by K ty) (of-integer i ty h)
      (all-line K (instr.Set (set.Integer (value t) (converted (integer_of_shape (shape_at s.table ty)) z) ty)) t (Some (IntegerOf i))
      (λ T after g. (
        i,
        h,
        subst (λ j. converted i (converted j z) ≡ converted j z) (sym (integer-read (shape_at s.table ty) i h.1))
            (converted-twice i z),
        (small, g),
      )))

  pub function-name : (t : ℕ) (name : Identifier) (number : ℕ) (n : NodeId) (ty : TypeId) → t < 256 → IsFunctionNamed s name number n ty
      → AllLead K (Line (instr.Set (set.Function (value t) (record { 0 = number }) ty) ∷ [])) t (held_by K ty)
  function-name t name number n ty small h =
      all-as K (Line (instr.Set (set.Function (value t) (record { 0 = number }) ty) ∷ [])) t (Some (PointerTo n h.function)) (held_by K ty)
      (of-pointer n h.function ty h.type)
      (all-line K (instr.Set (set.Function (value t) (record { 0 = number }) ty)) t (Some (PointerTo n h.function))
      (λ T after g. (let d = w.functions name number n ty h in (n, h.function, d.0, h.type, d.1, d.2, d.3, (small, g)))))

  pub converts : (which : Conversion) (t : ℕ) (at : Place) (ty u : TypeId) → t < 256 → Fits s which ty u
      → AreAmong f.sites (sites_of_conversion s.table which at ty u)
      → Carries K (Converts which t at ty u) t (IsHeld (held_by K ty)) (held_by K u)
  unfolding Converts
  converts conversion.IntegerToInteger t at ty u small ((i, h), (j, l)) told =
      carries-as K (Converts conversion.IntegerToInteger t at ty u) t (IsHeld (held_by K ty)) (Some (IntegerOf j)) (held_by K u) (of-integer j u l)
      (carries-line K (instr.Convert (convert.Integer (value t) (value t) u)) t (IsHeld (held_by K ty)) (Some (IntegerOf j))
      (λ U e after g. ((j, l, (i, as-integer K i ty t U small h e), (small, g)), tt)))
  converts conversion.IntegerToPointer t at ty u small ((i, h), (n, v, l)) told =
      carries-as K (Converts conversion.IntegerToPointer t at ty u) t (IsHeld (held_by K ty)) (Some (PointerTo n v)) (held_by K u)
      (of-pointer n v u l)
      (carries-line K (instr.Convert (convert.ToPointer (value t) (value t) u at)) t (IsHeld (held_by K ty)) (Some (PointerTo n v))
      (λ U e after g. ((n, v, l, (i, as-integer K i ty t U small h e), (small, g)), told)))
  converts conversion.PointerToPointer t at ty u small ((m, y, h), (n, v, l)) told =
      carries-as K (Converts conversion.PointerToPointer t at ty u) t (IsHeld (held_by K ty)) (Some (PointerTo n v)) (held_by K u)
      (of-pointer n v u l)
      (carries-line K (instr.Convert (convert.Pointer (value t) (value t) ty u at)) t (IsHeld (held_by K ty)) (Some (PointerTo n v))
      (λ U e after g. ((m, n, y, v, h, l, as-pointer K m y ty t U small h e, (small, g)), told)))
  converts conversion.NullToPointer t at ty u small (n, v, l) told =
      carries-as K (Converts conversion.NullToPointer t at ty u) t (IsHeld (held_by K ty)) (Some (PointerTo n v)) (held_by K u) (of-pointer n v u l)
      (carries-line K (instr.Set (set.Null (value t) u)) t (IsHeld (held_by K ty)) (Some (PointerTo n v)) (λ U e after g. (n, v, l, (small, g))))
  converts conversion.AllocationToPointer t at ty u small h told =
      carries-none K t (IsHeld (held_by K ty)) (held_by K u) (λ y e. subst (λ z. IsHeld (held_by K z) y) h.0 e)
  converts conversion.ToVoid t at ty u small h told =
      carries-none K t (IsHeld (held_by K ty)) (held_by K u) (λ y e. subst (λ z. IsHeld z y) (sym (ap held_shape h.1)) tt)
  converts conversion.PointerToInteger t at ty u small h told = absurd h

  pub prefixes : (op : Unary) (t : ℕ) (at : Place) (e : TypedExpr) (ty : TypeId) → t < 256 → rule.IsPrefix op s.table at e ty
      → Carries K (Prefixes op t ty) t (IsHeld (held_by K (type_of e))) (held_by K ty)
  unfolding Prefixes
  prefixes unary.Plus t at e ty small h =
      carries-none K t (IsHeld (held_by K (type_of e))) (held_by K ty) (λ y g. subst (λ z. IsHeld z y)
      (integer-held (shape_at s.table (type_of e)) (integers.promoted h.kind) (operand-integer s.table at (integers.promoted h.kind) e h.operand).1
      ∙ of-integer (integers.promoted h.kind) ty h.type) g)
  prefixes unary.Minus t at e ty small h =
      carries-as K (Prefixes unary.Minus t ty) t (IsHeld (held_by K (type_of e))) (Some (IntegerOf (integers.promoted h.kind))) (held_by K ty)
      (of-integer (integers.promoted h.kind) ty h.type)
      (carries-line K (instr.Calculate (calculate.Negate (value t) (value t) ty)) t (IsHeld (held_by K (type_of e)))
      (Some (IntegerOf (integers.promoted h.kind)))
      (λ U q after g. (
        integers.promoted h.kind,
        h.type,
        as-integer K (integers.promoted h.kind) (type_of e) t U small (operand-integer s.table at (integers.promoted h.kind) e h.operand) q,
        (small, g),
      )))
  prefixes unary.Complement t at e ty small h =
      carries-as K (Prefixes unary.Complement t ty) t (IsHeld (held_by K (type_of e))) (Some (IntegerOf (integers.promoted h.kind))) (held_by K ty)
      (of-integer (integers.promoted h.kind) ty h.type)
      (carries-line K (instr.Calculate (calculate.Complement (value t) (value t) ty)) t (IsHeld (held_by K (type_of e)))
      (Some (IntegerOf (integers.promoted h.kind)))
      (λ U q after g. (
        integers.promoted h.kind,
        h.type,
        as-integer K (integers.promoted h.kind) (type_of e) t U small (operand-integer s.table at (integers.promoted h.kind) e h.operand) q,
        (small, g),
      )))
  prefixes unary.Not t at e ty small h =
      carries-as K (Prefixes unary.Not t ty) t (IsHeld (held_by K (type_of e))) (Some (IntegerOf int)) (held_by K ty) (of-integer int ty h.1)
      (carries-line K (instr.Calculate (calculate.Not (value t) (value t))) t (IsHeld (held_by K (type_of e))) (Some (IntegerOf int))
      (λ U q after g. (scalar-held (held_by K (type_of e)) t U small (scalar-some (shape_at s.table (type_of e)) h.0.scalar) q, (small, g))))
  prefixes unary.Increment t at e ty small h = carries-never K t (IsHeld (held_by K (type_of e))) (held_by K ty)
  prefixes unary.Decrement t at e ty small h = carries-never K t (IsHeld (held_by K (type_of e))) (held_by K ty)
  prefixes unary.AddressOf t at e ty small h = carries-never K t (IsHeld (held_by K (type_of e))) (held_by K ty)
  prefixes unary.Dereference t at e ty small h = carries-never K t (IsHeld (held_by K (type_of e))) (held_by K ty)
  prefixes unary.SizeOf t at e ty small h = carries-never K t (IsHeld (held_by K (type_of e))) (held_by K ty)

  pub arithmetic : (op : Binary) (t : ℕ) (at : Place) (a d : TypedExpr) (ty : TypeId) → suc t < 256 → IsArithmetic s.table op a at d ty
      → CarriesTwo K (Calculates (lowered op) t (type_of a) at) t (held_by K (type_of a)) (held_by K (type_of d)) (held_by K ty)
  arithmetic op t at a d ty small h =
      two-as K (Calculates (lowered op) t (type_of a) at) t (held_by K (type_of a)) (held_by K (type_of d))
      (Some (IntegerOf (integers.result_type op h.left h.right)))
      (held_by K ty) (of-integer (integers.result_type op h.left h.right) ty h.type)
      (two-line K (instr.Calculate (calculate.Binary (value t) (lowered op) (value t) (value (suc t)) (type_of a) at)) t (held_by K (type_of a))
      (held_by K (type_of d)) (Some (IntegerOf (integers.result_type op h.left h.right)))
      (λ U e g after r. (
        integers.left_type op h.left h.right,
        first,
        as-integer K (integers.left_type op h.left h.right) (type_of a) t U
            (omega (arith, small)) first e,
        operator-right op h.left h.right U (value (suc t)) (as-integer K (integers.right_type op h.left h.right) (type_of d) (suc t) U small
            (operand-integer s.table at (integers.right_type op h.left h.right) d h.second_converted) g),
        (omega (arith, small), subst (λ z. Includes (with_held (value t) (Some (IntegerOf z)) U) after) (sym (operator-result op h.left h.right)) r),
      )))
    where
      first : IsIntegerType s.table (integers.left_type op h.left h.right) (type_of a)
      first = operand-integer s.table at (integers.left_type op h.left h.right) a h.first_converted

  -- a pointer moves by an integer
  pub moves : (which : Side) (back : Bool) (t : ℕ) (at : Place) (a d : TypedExpr) → suc t < 256
      → IsPointerToWhole s (type_of (pointer_side which a d))
      → ((i : IntegerType) × rule.IsInteger s.table i (other_side which a d))
      → Contains f.sites (tree.moves s.table (type_of (pointer_side which a d)) at)
      → CarriesTwo K (Moves which back t (type_of a) (type_of d) at) t (held_by K (type_of a)) (held_by K (type_of d))
      (held_by K (type_of (pointer_side which a d)))
  unfolding Moves
  moves side.Left back t at a d small (n, u, h, whole) (i, g) told =
      two-as K (Moves side.Left back t (type_of a) (type_of d) at) t (held_by K (type_of a)) (held_by K (type_of d)) (Some (PointerTo n u))
      (held_by K (type_of a))
      (of-pointer n u (type_of a) h)
      (two-line K (instr.Point (point.Move (value t) (value t) (value (suc t)) (direction_of back) (type_of a) at)) t (held_by K (type_of a))
      (held_by K (type_of d))
      (Some (PointerTo n u)) (λ U e l after r. (
        (
          n,
          u,
          h,
          whole,
          as-pointer K n u (type_of a) t U (omega (arith, small)) h e,
          (i, as-integer K i (type_of d) (suc t) U small (integer-from s.table (type_of d) i g.type) l),
          (omega (arith, small), r),
        ),
        (told, tt),
      )))
  moves side.Right back t at a d small (n, u, h, whole) (i, g) told =
      two-as K (Moves side.Right back t (type_of a) (type_of d) at) t (held_by K (type_of a)) (held_by K (type_of d)) (Some (PointerTo n u))
      (held_by K (type_of d))
      (of-pointer n u (type_of d) h)
      (two-line K (instr.Point (point.Move (value t) (value (suc t)) (value t) (direction_of back) (type_of d) at)) t (held_by K (type_of a))
      (held_by K (type_of d))
      (Some (PointerTo n u)) (λ U e l after r. (
        (
          n,
          u,
          h,
          whole,
          as-pointer K n u (type_of d) (suc t) U small h l,
          (i, as-integer K i (type_of a) t U (omega (arith, small)) (integer-from s.table (type_of a) i g.type) e),
          (omega (arith, small), r),
        ),
        (told, tt),
      )))

  pub difference : (t : ℕ) (at : Place) (a d : TypedExpr) (ty : TypeId) → suc t < 256 → IsPointerToWhole s (type_of a)
      → IsPointerToWhole s (type_of d)
      → ((u v : TypeId) × IsPointerTo s.table u (type_of a) × IsPointerTo s.table v (type_of d) × IsSameType s.table u v)
      → IsIntegerType s.table long ty
      → AreAmong f.sites (tree.moves s.table (type_of a) at ∷ tree.moves s.table (type_of d) at ∷ [])
      → CarriesTwo K (Line (instr.Point (point.Difference (value t) (value t) (type_of a) (value (suc t)) (type_of d) at) ∷ [])) t
      (held_by K (type_of a))
      (held_by K (type_of d)) (held_by K ty)
  difference t at a d ty small (m, y', h, hw) (n, v', l, lw) (u, v, (m', g), (n', r), same) i told =
      two-as K (Line (I ∷ [])) t (held_by K (type_of a)) (held_by K (type_of d)) (Some (IntegerOf long)) (held_by K ty) (of-integer long ty i)
      (two-line K I t (held_by K (type_of a)) (held_by K (type_of d)) (Some (IntegerOf long))
      (λ U e k after z. (
        (
          m',
          n',
          u,
          v,
          g,
          r,
          subst (λ c. IsWhole s c) (one m' m u y' (sym g.1 ∙ h.1)) hw,
          subst (λ c. IsWhole s c)
              (one n' n v v' (sym r.1 ∙ l.1)) lw,
          w.same (type_of a) (type_of d) m' n' u v g r same,
          as-pointer K m' u (type_of a) t U (omega (arith, small)) g e,
          as-pointer K n' v (type_of d) (suc t) U small r k,
          (omega (arith, small), z),
        ),
        told,
      )))
    where
      I : Instr
      I = instr.Point (point.Difference (value t) (value t) (type_of a) (value (suc t)) (type_of d) at)

      one : (m n : NodeId) (u v : TypeId) → shape.Pointer m u ≡ shape.Pointer n v → v ≡ u
      one m n u v h = cc

  -- `&&` and `||`

  truth : (t n : ℕ) → t < 256 → converted int (pos n) ≡ pos n → AllLead K (Truth t n) t (Some (IntegerOf int))
  truth t n small fits =
      all-line K (instr.Set (set.Integer (value t) (pos n) (record { 0 = 5 }))) t (Some (IntegerOf int))
      (λ T after g. (int, w.basic, fits, (small, g)))

  truth-of : (t : ℕ) (P : Form) (X : Option HeldType) → t < 256 → IsSome X → AllLead K P t X
      → AllLead K (Then P (Line (instr.Calculate (calculate.Truth (value t) (value t)) ∷ []))) t (Some (IntegerOf int))
  truth-of t P X small some p =
      then-carries K P (Line (instr.Calculate (calculate.Truth (value t) (value t)) ∷ [])) t X (Some (IntegerOf int)) p
      (carries-line K (instr.Calculate (calculate.Truth (value t) (value t))) t (IsHeld X) (Some (IntegerOf int))
      (λ U q after g. (scalar-held X t U small some q, (small, g))))

  pub logicals : (or : Bool) (P Q : Form) (t : ℕ) (X Y : Option HeldType) (ty : TypeId) → t < 256 → IsSome X → IsSome Y → IsIntegerType s.table int ty
      → AllLead K P t X → AllLead K Q t Y
      → AllLead K (Then P (LogicalOf or t (Then Q (Line (instr.Calculate (calculate.Truth (value t) (value t)) ∷ []))))) t (held_by K ty)
  unfolding LogicalOf
  logicals true P Q t X Y ty small sx sy i p q =
      all-as K (Then P (Choice (value t) (Truth t 1) (Then Q (Line (instr.Calculate (calculate.Truth (value t) (value t)) ∷ []))))) t
      (Some (IntegerOf int)) (held_by K ty)
      (of-integer int ty i)
      (one-of K P (Truth t 1) (Then Q (Line (instr.Calculate (calculate.Truth (value t) (value t)) ∷ []))) t X (Some (IntegerOf int)) small sx p
      (truth t 1 small refl) (truth-of t Q Y small sy q))
  logicals false P Q t X Y ty small sx sy i p q =
      all-as K (Then P (Choice (value t) (Then Q (Line (instr.Calculate (calculate.Truth (value t) (value t)) ∷ []))) (Truth t 0))) t
      (Some (IntegerOf int)) (held_by K ty)
      (of-integer int ty i)
      (one-of K P (Then Q (Line (instr.Calculate (calculate.Truth (value t) (value t)) ∷ []))) (Truth t 0) t X (Some (IntegerOf int)) small sx p
      (truth-of t Q Y small sy q) (truth t 0 small refl))

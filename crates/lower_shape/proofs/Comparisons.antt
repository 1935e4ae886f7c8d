-- Comparisons of pointers in shape.
use Rattle.std.proofs.Common.{ℕ, suc, ◌<◌, ◌≡◌, inl, inr, refl, ap, ◌∙◌, sym, subst, false, [], ◌∷◌, arith, Option, Some, None, IsTrue}
use Rattle.cc_base.specs.declared.place.Place.{Place}
use Rattle.cc_base.specs.declared.number.NodeId.{NodeId}
use Rattle.cc_base.specs.declared.number.TypeId.{TypeId}
use Rattle.c_types.specs.declared.shape.TypeShape.TheVariants as shape
use Rattle.c_types.specs.Table.{HasShape, shape_at}
use Rattle.integers.specs.Arithmetic.{int}
use Rattle.c_tree.specs.declared.operator.Binary.{Binary}
use Rattle.c_tree.specs.declared.operator.Binary.TheVariants as binary
use Rattle.c_tree.specs.TypedTree.{TypedExpr}
use Rattle.c_tree.specs.TypedParts.{type_of, is_null}
use Rattle.c_typing.specs.Shapes.{IsIntegerType}
use Rattle.c_typing.specs.Constants.{is_null_constant}
use Rattle.c_types.specs.Equality.{physically_equal}
use Rattle.c_ready.specs.Rows.{IsPlain, bare, IsArithmetic, IsPromoted, Meeting, BothPoint, NeverMeet, RightIsNull, LeftIsNull, meeting, meeting_of, AreOrdered, AreEquated, IsCompared, other_side}
use Rattle.c_typing.specs.Integers as integers
use Rattle.c_ready.specs.Rows as rule
use Rattle.c_ready.specs.Ready.{Stage}
use Rattle.c_ready.proofs.Suits.{plain-bare, shaped-pointer}
use Rattle.src_machine.specs.Expressions.{is_different}
use Rattle.src_machine.specs.Sites as tree
use Rattle.src_machine.specs.Sites.{sites_of_conversion}
use Rattle.cil_form.specs.declared.instr.Comparison.{Comparison}
use Rattle.cil_form.specs.declared.instr.Comparison.TheVariants as comparison
use Rattle.cil_form.specs.declared.instr.Point.TheVariants as point
use Rattle.cil_form.specs.declared.instr.Instr.{Instr}
use Rattle.cil_form.specs.declared.instr.Instr.TheVariants as instr
use Rattle.cil_form.specs.Sites.{Each, AreAmong}
use Rattle.cil_form.specs.Sites as code
use Rattle.cil_form.specs.Typing.{IntegerOf, Typing, Context, held_by, AreComparable}
use Rattle.lower_rules.specs.Pieces.{Line}
use Rattle.lower_rules.specs.Words.{value, comparison_of, ComparesBy, Compares}
use Rattle.lower_shape.specs.Stands.{Frame, stand, Knows}
use Rattle.lower_shape.proofs.Forms.{CarriesTwo, two-line, two-as}
use Rattle.lower_shape.proofs.Updates.{as-pointer}
use Rattle.lower_shape.proofs.Types.{integer-held, plain-no_null, both-point}

module _ (s : Stage) (f : Frame) (w : Knows s f) (b : ℕ) (kept : Typing) where
  abbrev K : Context
  K = stand s f b kept

  -- what two pointers that are compared have to point to, by each comparison that the operator may be
  abbrev AreCompared : Binary → TypeId → TypeId → Type 0
  AreCompared op u v = (c : Comparison) → comparison_of op ≡ Some c → AreComparable K c u v

  ordered : (op : Binary) → IsTrue (integers.is_order op) → (u v : TypeId) → IsTrue (physically_equal s.table u v) → AreCompared op u v
  unfolding comparison_of
  ordered binary.Less o u v h c e = let q : comparison.Less ≡ c = cc (e) in subst (λ z. AreComparable K z u v) q h
  ordered binary.Greater o u v h c e = let q : comparison.Greater ≡ c = cc (e) in subst (λ z. AreComparable K z u v) q h
  ordered binary.LessEqual o u v h c e = let q : comparison.LessOrEqual ≡ c = cc (e) in subst (λ z. AreComparable K z u v) q h
  ordered binary.GreaterEqual o u v h c e = let q : comparison.GreaterOrEqual ≡ c = cc (e) in subst (λ z. AreComparable K z u v) q h
  ordered op o u v h c e = absurd (cc (o))

  equated : (op : Binary) → IsTrue (integers.is_equality op) → (u v : TypeId) → AreCompared op u v
  unfolding comparison_of
  equated binary.Equal o u v c e = let q : comparison.Equal ≡ c = cc (e) in subst (λ z. AreComparable K z u v) q tt
  equated binary.NotEqual o u v c e = let q : comparison.Different ≡ c = cc (e) in subst (λ z. AreComparable K z u v) q tt
  equated op o u v c e = absurd (cc (o))

  compared-sites : (op : Binary) (c : Comparison) → comparison_of op ≡ Some c → (at : Place) (t u : TypeId)
      → AreAmong f.sites (tree.sites_of_comparison s.table op at t u)
      → AreAmong f.sites (code.sites_of_comparison s.table c t u at)
  unfolding comparison_of
  compared-sites binary.Less c e at t u h =
      let q : comparison.Less ≡ c = cc (e) in subst (λ z. AreAmong f.sites (code.sites_of_comparison s.table z t u at)) q h
  compared-sites binary.Greater c e at t u h =
      let q : comparison.Greater ≡ c = cc (e) in subst (λ z. AreAmong f.sites (code.sites_of_comparison s.table z t u at)) q h
  compared-sites binary.LessEqual c e at t u h =
      let q : comparison.LessOrEqual ≡ c = cc (e) in subst (λ z. AreAmong f.sites (code.sites_of_comparison s.table z t u at)) q h
  compared-sites binary.GreaterEqual c e at t u h =
      let q : comparison.GreaterOrEqual ≡ c = cc (e) in subst (λ z. AreAmong f.sites (code.sites_of_comparison s.table z t u at)) q h
  compared-sites binary.Equal c e at t u h =
      let q : comparison.Equal ≡ c = cc (e) in subst (λ z. AreAmong f.sites (code.sites_of_comparison s.table z t u at)) q tt
  compared-sites binary.NotEqual c e at t u h =
      let q : comparison.Different ≡ c = cc (e) in subst (λ z. AreAmong f.sites (code.sites_of_comparison s.table z t u at)) q tt
  compared-sites op c e at t u h = absurd (cc (e))

  compares-by : (op : Binary) (which : Option Comparison) → comparison_of op ≡ which → (t : ℕ) (at : Place) (ta td ty : TypeId) → suc t < 256
      → (m n : NodeId) (u v : TypeId)
      → HasShape s.table ta (shape.Pointer m u) → HasShape s.table td (shape.Pointer n v) → AreCompared op u v → IsIntegerType s.table int ty
      → AreAmong f.sites (tree.sites_of_comparison s.table op at ta td)
      → CarriesTwo K (ComparesBy which t ta td at) t (held_by K ta) (held_by K td) (held_by K ty)
  unfolding ComparesBy
  compares-by op None e t at ta td ty small m n u v h l fits i told = λ c d. absurd d
  compares-by op (Some c) e t at ta td ty small m n u v h l fits i told =
      two-as K (Line (I ∷ [])) t (held_by K ta) (held_by K td) (Some (IntegerOf int)) (held_by K ty)
      (sym (integer-held (shape_at s.table ty) int i.1))
      (two-line K I t (held_by K ta) (held_by K td) (Some (IntegerOf int))
      (λ U j k after z. (
        (
          m,
          n,
          u,
          v,
          h,
          l,
          fits c e,
          as-pointer K m u ta t U (omega (arith, small)) h j,
          as-pointer K n v td (suc t) U small l k,
          (omega (arith, small), z),
        ),
        compared-sites op c e at ta td told,
      )))
    where
      I : Instr
      I = instr.Point (point.Compare (value t) c (value t) ta (value (suc t)) td at)

  -- both sides are pointers, and none a null constant
  pointers : (op : Binary) (t : ℕ) (at : Place) (a d : TypedExpr) (ty : TypeId) → suc t < 256 → (m n : NodeId) (u v : TypeId)
      → HasShape s.table (type_of a) (shape.Pointer m u) → HasShape s.table (type_of d) (shape.Pointer n v) → AreCompared op u v → IsPlain a
      → IsPlain d
      → IsIntegerType s.table int ty → AreAmong f.sites (tree.sites_of_comparison s.table op at (type_of a) (type_of d))
      → CarriesTwo K (Compares (is_null a) (is_null d) op t (type_of a) (type_of d) at) t (held_by K (type_of a)) (held_by K (type_of d))
      (held_by K ty)
  unfolding Compares
  pointers op t at a d ty small m n u v h l fits pa pd i told =
      subst (λ z. CarriesTwo K (Compares z (is_null d) op t (type_of a) (type_of d) at) t (held_by K (type_of a)) (held_by K (type_of d))
      (held_by K ty)) (sym (plain-no_null a pa))
      (subst (λ z. CarriesTwo K (Compares false z op t (type_of a) (type_of d) at) t (held_by K (type_of a)) (held_by K (type_of d)) (held_by K ty))
      (sym (plain-no_null d pd))
      (compares-by op (comparison_of op) refl t at (type_of a) (type_of d) ty small m n u v h l fits i told))

  null-right : (op : Binary) (t : ℕ) (at : Place) (a d r : TypedExpr) (ty : TypeId) → suc t < 256 → IsPlain a → (d ≡ rule.null_of at (type_of a) r)
      → ((n : NodeId) × (u : TypeId) × HasShape s.table (type_of a) (shape.Pointer n u)) → IsIntegerType s.table int ty
      → CarriesTwo K (Compares (is_null a) (is_null d) op t (type_of a) (type_of d) at) t (held_by K (type_of a)) (held_by K (type_of d))
      (held_by K ty)
  unfolding Compares
  null-right op t at a d r ty small pa made (n, u, h) i =
      subst (λ z. CarriesTwo K (Compares z (is_null d) op t (type_of a) (type_of d) at) t (held_by K (type_of a)) (held_by K (type_of d))
      (held_by K ty)) (sym (plain-no_null a pa))
      (subst (λ z. CarriesTwo K (Compares false z op t (type_of a) (type_of d) at) t (held_by K (type_of a)) (held_by K (type_of d)) (held_by K ty))
      (sym (ap is_null made))
      (two-as K (Line (I ∷ [])) t (held_by K (type_of a)) (held_by K (type_of d)) (Some (IntegerOf int)) (held_by K ty)
      (sym (integer-held (shape_at s.table ty) int i.1))
      (two-line K I t (held_by K (type_of a)) (held_by K (type_of d)) (Some (IntegerOf int))
      (λ U j k after z. ((n, u, h, as-pointer K n u (type_of a) t U (omega (arith, small)) h j, (omega (arith, small), z)), tt)))))
    where
      I : Instr
      I = instr.Point (point.IsNull (value t) (value t) (type_of a) (is_different op))

  null-left : (op : Binary) (t : ℕ) (at : Place) (a d r : TypedExpr) (ty : TypeId) → suc t < 256 → (a ≡ rule.null_of at (type_of d) r)
      → ((n : NodeId) × (u : TypeId) × HasShape s.table (type_of d) (shape.Pointer n u)) → IsIntegerType s.table int ty
      → CarriesTwo K (Compares (is_null a) (is_null d) op t (type_of a) (type_of d) at) t (held_by K (type_of a)) (held_by K (type_of d))
      (held_by K ty)
  unfolding Compares
  null-left op t at a d r ty small made (n, u, h) i =
      subst (λ z. CarriesTwo K (Compares z (is_null d) op t (type_of a) (type_of d) at) t (held_by K (type_of a)) (held_by K (type_of d))
      (held_by K ty)) (sym (ap is_null made))
      (two-as K (Line (I ∷ [])) t (held_by K (type_of a)) (held_by K (type_of d)) (Some (IntegerOf int)) (held_by K ty)
      (sym (integer-held (shape_at s.table ty) int i.1))
      (two-line K I t (held_by K (type_of a)) (held_by K (type_of d)) (Some (IntegerOf int))
      (λ U j k after z. ((n, u, h, as-pointer K n u (type_of d) (suc t) U small h k, (omega (arith, small), z)), tt))))
    where
      I : Instr
      I = instr.Point (point.IsNull (value t) (value (suc t)) (type_of d) (is_different op))

  -- what a null constant became is of a pointer type: its conversion fits
  abbrev pub NullFits : TypedExpr → Type 0
  NullFits e = (at : Place) (t : TypeId) (r : TypedExpr) → e ≡ rule.null_of at t r → (n : NodeId) × (u : TypeId)
      × HasShape s.table t (shape.Pointer n u)

  pub compares : (op : Binary) (t : ℕ) (at : Place) (a d : TypedExpr) (ty : TypeId) → suc t < 256 → NullFits a → NullFits d
      → IsCompared s.table op a at d ty
      → AreAmong f.sites (tree.sites_of_comparison s.table op at (type_of a) (type_of d))
      → CarriesTwo K (Compares (is_null a) (is_null d) op t (type_of a) (type_of d) at) t (held_by K (type_of a)) (held_by K (type_of d))
      (held_by K ty)
  compares op t at a d ty small na nd h told = by h.compared
    where
      equal : IsTrue (integers.is_equality op) → (m : Meeting) → meeting s.table (bare a) (bare d) ≡ m → AreEquated m at a d
          → CarriesTwo K (Compares (is_null a) (is_null d) op t (type_of a) (type_of d) at) t (held_by K (type_of a)) (held_by K (type_of d))
          (held_by K ty)
      equal o (RightIsNull v) g (pa, made) = null-right op t at a d (bare d) ty small pa made (nd at (type_of a) (bare d) made) h.type
      equal o (LeftIsNull v) g (made, pd) = null-left op t at a d (bare a) ty small made (na at (type_of d) (bare a) made) h.type
      equal o (BothPoint v) g (pa, pd) =
          let k = both-point s.table (is_null_constant s.table (bare a)) (is_null_constant s.table (bare d)) (shape_at s.table (type_of (bare a)))
          (shape_at s.table (type_of (bare d))) v g in
          let l = shaped-pointer s.table (type_of a) k.0.0 k.0.1 (ap (λ z. shape_at s.table (type_of z)) (sym (plain-bare a pa)) ∙ k.0.2) in
          let r = shaped-pointer s.table (type_of d) k.1.0 k.1.1 (ap (λ z. shape_at s.table (type_of z)) (sym (plain-bare d pd)) ∙ k.1.2) in
          pointers op t at a d ty small k.0.0 k.1.0 k.0.1 k.1.1 l r (equated op o k.0.1 k.1.1) pa pd h.type told
      equal o NeverMeet g none = absurd none

      by : rule.AreCompared s.table op a at d
          → CarriesTwo K (Compares (is_null a) (is_null d) op t (type_of a) (type_of d) at) t (held_by K (type_of a)) (held_by K (type_of d))
          (held_by K ty)
      by (inl (o, g)) =
          pointers op t at a d ty small g.first.type.0 g.second.type.0 g.left g.right g.first.type.1 g.second.type.1
          (ordered op o g.left g.right (w.same (type_of a)
          (type_of d) g.first.type.0 g.second.type.0 g.left g.right g.first.type.1 g.second.type.1 g.same)) g.first.plain g.second.plain h.type told
      by (inr (o, g)) = equal o (meeting s.table (bare a) (bare d)) refl g

-- The code of a ready tree is in shape.
use Rattle.std.proofs.Common.{ℕ, suc, ◌<◌, ◌≤◌, ◌+◌, ◌≡◌, inl, inr, refl, ap, ◌∙◌, sym, subst, Bool, true, false, List, [], ◌∷◌, ◌++◌, arith, Option, Some, None, IsSome, IsTrue, pos}
use Rattle.std.specs.List.{Contains}
use Rattle.cc_base.specs.declared.place.Place.{Place}
use Rattle.cc_base.specs.declared.number.NodeId.{NodeId}
use Rattle.cc_base.specs.declared.number.TypeId.{TypeId}
use Rattle.c_types.specs.declared.shape.TypeShape.{TypeShape}
use Rattle.c_types.specs.declared.shape.TypeShape.TheVariants as shape
use Rattle.kind_sites.specs.declared.site.Site.TheVariants as site
use Rattle.c_types.specs.Table.{HasShape, IsAggregate, shape_at}
use Rattle.integers.specs.Arithmetic.{IntegerType, int, long, unsigned_long}
use Rattle.c_tree.specs.Arithmetic.{operator_of}
use Rattle.c_tree.specs.Erasure.{erased, erased_place, erased_arguments}
use Rattle.c_tree.specs.Tree as tree
use Rattle.c_tree.specs.TypedTree as typed
use Rattle.c_tree.specs.TypedTree.{TypedExpr, TypedPlace, TypedArguments}
use Rattle.c_tree.specs.TypedParts.{type_of, place_type, named_type, pointer_side, place_at}
use Rattle.c_typing.specs.Held.{held, held_by_arguments, count_of}
use Rattle.c_typing.specs.Integers as integers
use Rattle.c_ready.specs.Rows as rule
use Rattle.c_ready.specs.Ready.{Stage, IsReady, IsReadyPlace, AreReady, IsObjectOf, IsStepped, IsUpdated, MayCall, IsWhole}
use Rattle.c_ready.proofs.Suits.{integer-from, scalar-in}
use Rattle.c_typing.specs.Shapes.{is_scalar_shape}
use Rattle.c_ready.specs.Rows.{pointer_behind}
use Rattle.cil_form.specs.declared.number.Object.{Object}
use Rattle.cil_form.specs.declared.number.Temp.{Temp}
use Rattle.c_types.specs.Layouts.{member_at}
use Rattle.std.proofs.Common.{length}
use Rattle.c_types.specs.Table.{is_aggregate_shape, members_at}
use Rattle.c_tree.specs.declared.operator.Assignment.{Assignment}
use Rattle.src_mem.specs.Operations.{node_at, pointee_at}
use Rattle.src_machine.specs.Expressions.{is_or, is_pointer_shape, is_subtract, operator_of_step, operator_of_assignment, is_through_pointer}
use Rattle.src_machine.specs.Pieces.{pieces_of, pieces_of_place, pieces_of_arguments, pieces_of_type_name, Piece, AnExpression, APlace}
use Rattle.src_machine.specs.Sites.{sites_of_piece, addresses_at, address_at, moves_where_pointer}
use Rattle.cil_form.specs.declared.instr.Set.TheVariants as set
use Rattle.cil_form.specs.declared.instr.Point.TheVariants as point
use Rattle.cil_form.specs.declared.instr.Access.TheVariants as access
use Rattle.cil_form.specs.declared.instr.Target.TheVariants as target
use Rattle.cil_form.specs.declared.instr.Instr.{Instr}
use Rattle.cil_form.specs.declared.instr.Instr.TheVariants as instr
use Rattle.cil_form.specs.Sites.{Each, AreAmong}
use Rattle.cil_form.specs.Typing.{HeldType, Holds, IsRightOperand, IntegerOf, PointerTo, PlaceOf, Typing, Context, held_by, held_shape, IsScalar, HoldsArray, IsObject, IsBlockType}
use Rattle.lower_rules.specs.declared.after.After.{After}
use Rattle.lower_rules.specs.declared.after.After.TheVariants as after
use Rattle.lower_rules.specs.Pieces.{Form, Line, Then}
use Rattle.lower_rules.specs.Words.{value, object_in, Objects, lowered, lowered_assignment, Prefixes, Calculates, Moves, Converts, Follows}
use Rattle.lower_rules.specs.Expressions.{count, IsCodeOf, IsCodeOfPlace, IsCodeOfArguments}
use Rattle.lower_shape.specs.Stands.{Frame, stand, low, Knows, Told}
use Rattle.lower_shape.proofs.Forms.{IsHeld, Leads, AllLead, carries-line, carries-none, carries-follows, then-carries, then-all, two, one-of, leads-as, leads-code, leads-one}
use Rattle.lower_shape.proofs.Places.{LeadsPlace, place-less, place-value, place-carries, place-choice, place-comma, holds-address, IsUsable, assigned, struct-assigned}
use Rattle.lower_shape.proofs.Updates.{IsStep, IsUpdate, steps, updates}
use Rattle.lower_shape.proofs.Types.{integer-held, pointer-held, pointer-node, pointer-to, scalar-some, operand-integer}
use Rattle.lower_shape.proofs.Addresses.{In, in-one, IsPlaceOfArray, in-left, in-right, linked-in, LeftBy, left-address, left-place, left-pointer, node-lvalue, array-left, array-node}
use Rattle.lower_shape.proofs.Zeros.{null-scalar}
use Rattle.lower_shape.proofs.Values as values
use Rattle.lower_shape.proofs.Comparisons as comparisons
use Rattle.lower_shape.proofs.Comparisons.{NullFits}
use Rattle.lower_shape.proofs.Calls as calling
use Rattle.lower_shape.proofs.Calls.{LeadsRow, AreFreed, no-row, more-row}
use Rattle.c_ready.proofs.PlacesWhole.{place-whole}
use Rattle.c_tree.specs.declared.operator.Assignment.TheVariants as assignment

-- lists of sites

pub each-left : {X : Type 0} (P : X → Type 0) (xs ys : List X) → Each P (xs ++ ys) → Each P xs
each-left P [] ys h = tt
each-left P (x ∷ xs) ys h = (h.0, each-left P xs ys h.1)

pub each-right : {X : Type 0} (P : X → Type 0) (xs ys : List X) → Each P (xs ++ ys) → Each P ys
each-right P [] ys h = h
each-right P (x ∷ xs) ys h = each-right P xs ys h.1

pub left : (s : Stage) (f : Frame) (xs ys : List Piece) → Told s f (xs ++ ys) → Told s f xs
left s f xs ys h = each-left (λ piece. AreAmong f.sites (sites_of_piece s.table piece)) xs ys h

pub right : (s : Stage) (f : Frame) (xs ys : List Piece) → Told s f (xs ++ ys) → Told s f ys
right s f xs ys h = each-right (λ piece. AreAmong f.sites (sites_of_piece s.table piece)) xs ys h

-- how many are held

pub held-some : (x : tree.Expr) → 0 < held x
held-some (tree.Name name) = omega arith
held-some (tree.Integer of v at) = omega arith
held-some (tree.Character v at) = omega arith
held-some (tree.String pieces) = omega arith
held-some (tree.Paren at e) = omega arith
held-some (tree.Index e at index) = omega arith
held-some (tree.Call f at arguments) = omega arith
held-some (tree.Member e operator at name) = omega arith
held-some (tree.Postfix e operator at) = omega arith
held-some (tree.Prefix operator at e) = omega arith
held-some (tree.SizeOfType at paren name) = omega arith
held-some (tree.Cast at to e) = omega arith
held-some (tree.Infix operator a at b) = omega arith
held-some (tree.Conditional c at a b) = omega arith
held-some (tree.Assign operator a at b) = omega arith
held-some (tree.Comma a b) = omega arith
held-some (tree.Compound at to brace) = omega arith
held-some (tree.SizeOfCompound at paren to brace) = omega arith

pub below : (x : tree.Expr) (t : ℕ) → t + held x ≤ 256 → t < 256
below x t h = omega (arith, h, held-some x)

pub count-same : (l : TypedArguments) → count l ≡ count_of (erased_arguments l)
count-same typed.NoArgument = refl
count-same (typed.AndArgument all e) = omega (arith, count-same all)

-- types

aggregate-none : (x : TypeShape) → IsTrue (is_aggregate_shape x) → held_shape x ≡ None
aggregate-none (shape.Struct n) h = refl
aggregate-none (shape.Union n) h = refl
aggregate-none shape.Void h = refl
aggregate-none (shape.Integer bytes signed) h = absurd (cc (h))
aggregate-none (shape.Pointer n t) h = absurd (cc (h))
aggregate-none (shape.Array t n) h = refl
aggregate-none (shape.Function ps r) h = refl

-- what is told of the address of a place
abbrev pub Good : Stage → TypedPlace → NodeId → Option HeldType → Type 0
Good s p n y = (n.0 < s.nodes) × In n (addresses_at s.table p) × LeftBy p (place_type p) n y

pub some-same : {A : Type 0} (a c : A) → Some a ≡ Some c → a ≡ c
some-same a c h = cc

-- operators

assigned-right : (which : Assignment) (l r : IntegerType) (U : Typing) (t : Temp)
    → Holds U t (IntegerOf (integers.right_type (integers.assigning which) l r))
    → IsRightOperand (lowered_assignment which) U t (integers.left_type (integers.assigning which) l r)
unfolding lowered_assignment
assigned-right assignment.Multiply l r U t h = h
assigned-right assignment.Divide l r U t h = h
assigned-right assignment.Remainder l r U t h = h
assigned-right assignment.Add l r U t h = h
assigned-right assignment.Subtract l r U t h = h
assigned-right assignment.ShiftLeft l r U t h = (integers.promoted r, h)
assigned-right assignment.ShiftRight l r U t h = (integers.promoted r, h)
assigned-right assignment.BitAnd l r U t h = h
assigned-right assignment.BitXor l r U t h = h
assigned-right assignment.BitOr l r U t h = h
assigned-right assignment.Assign l r U t h = h

-- arguments

no-arguments : (k : Context) (v : ℕ) (c : List Instr) → Line [] c → LeadsRow k c v typed.NoArgument
unfolding Line
no-arguments k v c h = subst (λ z. LeadsRow k z v typed.NoArgument) (sym h) (no-row k v)

more-arguments : (k : Context) (P Q : Form) (v : ℕ) (all : TypedArguments) (e : TypedExpr) → ((c : List Instr) → P c → LeadsRow k c v all)
    → AllLead k Q (v + count all) (held_by k (type_of e)) → (c : List Instr) → Then P Q c → LeadsRow k c v (typed.AndArgument all e)
unfolding Then
more-arguments k P Q v all e h l c d =
    subst (λ z. LeadsRow k z v (typed.AndArgument all e)) (sym d.4) (more-row k d.0 d.1 v all e (h d.0 d.2) (l d.1 d.3))

module _ (s : Stage) (f : Frame) (w : Knows s f) (b : ℕ) (kept : Typing) where
  abbrev K : Context
  K = stand s f b kept

  scalar : (t : TypeId) → IsTrue (is_scalar_shape (shape_at s.table t)) → IsScalar K t
  scalar t h = (scalar-in s.table t h, scalar-some (shape_at s.table t) h)

  usable : (p : TypedPlace) → IsUsable K (place_type p) (Good s p)
  usable p n y g = (g.0, left-address p (place_type p) n y g.2)

  -- the pointer that `&` of a place gives back
  behind-pointer : (p : TypedPlace) (e : TypedExpr) → IsReadyPlace s p → pointer_behind p ≡ Some e
      → (m : NodeId) × HasShape s.table (type_of e) (shape.Pointer m (place_type p)) × ((n : NodeId) → In n (addresses_at s.table p) → n ≡ m)
  behind-pointer (typed.ParenPlace at p) e r h = behind-pointer p e r h
  behind-pointer (typed.Target at d t) e r h =
      let q = r.1.type in
      subst (λ z. (m : NodeId) × HasShape s.table (type_of z) (shape.Pointer m t)
      × ((n : NodeId) → In n (addresses_at s.table (typed.Target at d t)) → n ≡ m)) (some-same d e h)
      (q.0, q.1, λ n i. in-one n (node_at s.table (type_of d)) i ∙ pointer-node s.table (type_of d) q.0 t q.1.1)
  behind-pointer (typed.Element which a at d t) e r h =
      let q = r.2.type in
      subst (λ z. (m : NodeId) × HasShape s.table (type_of z) (shape.Pointer m t)
      × ((n : NodeId) → In n (addresses_at s.table (typed.Element which a at d t)) → n ≡ m)) (some-same (pointer_side which a d) e h) (
        q.0,
        q.1,
        λ n i. in-one n (node_at s.table (type_of (pointer_side which a d))) i
            ∙ pointer-node s.table (type_of (pointer_side which a d)) q.0 t q.1.1,
      )
  behind-pointer other e r h = absurd (cc (h))

  step-fits : (ty : TypeId) (at : Place) → IsStepped s ty → AreAmong f.sites (moves_where_pointer (shape_at s.table ty) at)
      → IsStep K (is_pointer_shape (shape_at s.table ty)) ty at
  step-fits ty at (inl (i, h)) told = subst (λ c. IsStep K c ty at) (sym (ap is_pointer_shape h.1)) (i, h, w.ones ty i h)
  step-fits ty at (inr (n, u, h, whole)) told = subst (λ c. IsStep K c ty at) (sym (ap is_pointer_shape h.1)) (
    n,
    u,
    h,
    whole,
    subst (λ z. Contains f.sites (site.Arith z at)) (sym (pointer-node s.table ty n u h.1))
        (subst (λ x. AreAmong f.sites (moves_where_pointer x at)) h.1 told).0,
  )

  step-scalar : (ty : TypeId) → IsStepped s ty → IsScalar K ty
  step-scalar ty (inl (i, h)) = (h.0, scalar-some (shape_at s.table ty) (ap is_scalar_shape h.1))
  step-scalar ty (inr (n, u, h, whole)) = (h.0, scalar-some (shape_at s.table ty) (ap is_scalar_shape h.1))

  update-fits : (which : Assignment) (p : TypedPlace) (at : Place) (e : TypedExpr) (u : TypeId) → IsUpdated s which p at e u
      → AreAmong f.sites (moves_where_pointer (shape_at s.table (place_type p)) at)
      → IsUpdate K (is_pointer_shape (shape_at s.table (place_type p))) which (place_type p) u (held_by K (type_of e)) at × IsScalar K (place_type p)
  update-fits which p at e u (compound, lvalue, inl h) told =
      let l = integer-from s.table (place_type p) h.left h.first in
      let r = operand-integer s.table at (integers.right_type (integers.assigning which) h.left h.right) e h.converted in (
        subst (λ c. IsUpdate K c which (place_type p) u (held_by K (type_of e)) at) (sym (ap is_pointer_shape l.1)) (
          h.left,
          integers.left_type (integers.assigning which) h.left h.right,
          integers.right_type (integers.assigning which) h.left h.right,
          l,
          h.type,
          integer-held (shape_at s.table (type_of e))
              (integers.right_type (integers.assigning which) h.left h.right) r.1,
          λ V v q. assigned-right which h.left h.right V v q,
        ),
        (l.0, scalar-some (shape_at s.table (place_type p)) (ap is_scalar_shape l.1)),
      )
  update-fits which p at e u (compound, lvalue, inr (moves, (n, v, h, whole), (i, g), same)) told =
      let r = integer-from s.table (type_of e) i g.type in (
        subst (λ c. IsUpdate K c which (place_type p) u (held_by K (type_of e)) at) (sym (ap is_pointer_shape h.1)) (
          n,
          v,
          h,
          whole,
          subst (λ z. Contains f.sites (site.Arith z at)) (sym (pointer-node s.table (place_type p) n v h.1))
              (subst (λ x. AreAmong f.sites (moves_where_pointer x at)) h.1 told).0,
          (i, integer-held (shape_at s.table (type_of e)) i r.1),
        ),
        (h.0, scalar-some (shape_at s.table (place_type p)) (ap is_scalar_shape h.1)),
      )

  -- `free` of a null constant: an integer constant or a pointer
  null-freed : (l : TypedArguments) → AreReady s l → AreFreed s f w b kept l
  null-freed (typed.AndArgument typed.NoArgument e) r = null-scalar s e r.1
  null-freed typed.NoArgument r = tt
  null-freed (typed.AndArgument (typed.AndArgument l d) e) r = tt

  choice-types : (c : TypedExpr) (at : Place) (a d : TypedExpr) (ty : TypeId) → rule.IsChoice s.table c at a d ty
      → (held_by K (type_of a) ≡ held_by K ty) × (held_by K (type_of d) ≡ held_by K ty)
  choice-types c at a d ty (k, inl h) =
      let i = integers.common h.left h.right in (
        integer-held (shape_at s.table (type_of a)) i (operand-integer s.table at i a h.first_converted).1
            ∙ sym (integer-held (shape_at s.table ty) i h.type.1),
        integer-held (shape_at s.table (type_of d)) i (operand-integer s.table at i d h.second_converted).1
            ∙ sym (integer-held (shape_at s.table ty) i h.type.1),
      )
  choice-types c at a d ty (k, inr h) =
      (ap held_shape h.first.1.1 ∙ sym (ap held_shape h.type.1), ap held_shape h.second.1.1 ∙ sym (ap held_shape h.type.1))

  calls-in : MayCall s → IsSome f.result
  calls-in (inl h) = w.calls h
  calls-in (inr h) = absurd (cc (h, w.runs))

  array-holds : (p : TypedPlace) (n : NodeId) (t : ℕ) (U : Typing) (c : Bool) → t < 256 → is_through_pointer p ≡ c → IsReadyPlace s p
      → IsPlaceOfArray s p → LeftBy p (place_type p) n (U (value t)) → HoldsArray c U (value t) n (place_type p)
  array-holds p n t U true small e r a h = holds-address U t n (place_type p) small (left-address p (place_type p) n (U (value t)) h)
  array-holds p n t U false small e r a h = (small, array-left s p (place_type p) n (U (value t)) r a e h)

  null-fits : (e : TypedExpr) → IsReady s e → NullFits s f w b kept e
  null-fits e r at t d made = (subst (λ z. IsReady s z) made r).1

  objects-lead : (home : NodeId) (ty : TypeId) (t : ℕ) → t < 256 → ((o : Object) → object_in (low s f) home ≡ Some o → IsObject K o home ty)
      → AllLead K (Objects (low s f) t home ty) t (Some (PlaceOf home ty))
  unfolding Objects
  objects-lead home ty t small h c d =
      leads-code K c (instr.Set (set.Object (value t) d.0 home ty) ∷ []) t (Some (PlaceOf home ty)) d.2
      (leads-one K (instr.Set (set.Object (value t) d.0 home ty)) t (Some (PlaceOf home ty)) (λ T after g. (h d.0 d.1, (small, g))))

  mutual
    -- `Z` is not used: the functions of a mutual block have to end in one universe
    pub leads : (e : TypedExpr) (Z : Type 0) (t : ℕ) (code : List Instr) → IsCodeOf e (low s f) t code → IsReady s e → Told s f (pieces_of e)
        → t + held (erased e) ≤ 256 → Leads K code t (held_by K (type_of e))
    leads (typed.Integer of n at ty) Z t code h r told m =
        values.constants s f w b kept t (integers.constant_type of) (pos n) ty (omega (arith, m)) r code h
    leads (typed.Character z at ty) Z t code h r told m = values.constants s f w b kept t int z ty (omega (arith, m)) r code h
    leads (typed.Enumerator name z ty) Z t code h r told m = values.constants s f w b kept t int z ty (omega (arith, m)) r code h
    leads (typed.FunctionName name number n ty) Z t code h r told m =
        values.function-name s f w b kept t name number n ty (omega (arith, m)) r.1 code h
    leads (typed.RuntimeName name function ty) Z t code h r told m = absurd h
    leads (typed.Paren at e) Z t code h r told m = leads e Z t code h r told (omega (arith, m))
    leads (typed.Read p) Z t code h r told m =
        place-carries K (IsCodeOfPlace p (low s f) t (Follows A t)) t (Good s p) (Follows A t) (held_by K (place_type p))
        (λ c d. locates p t (Follows A t) c d r.0 told m)
        (λ n. carries-follows K A t n (Good s p n) (held_by K (place_type p))
        (carries-line K (instr.Access (access.Load (value t) (value t) n (place_type p) (place_at p))) t (Good s p n) (held_by K (place_type p))
        (λ U g after z. (
          (
            g.0,
            scalar (place_type p) r.1,
            holds-address U t n (place_type p) (below (erased_place p) t m)
                (left-address p (place_type p) n (U (value t)) g.2),
            (below (erased_place p) t m, z),
          ),
          tt,
        )))) code h
      where
        A : After
        A = after.Load (place_type p) (place_at p)
    leads (typed.Unread p) Z t code h r told m =
        place-carries K (IsCodeOfPlace p (low s f) t (Follows after.Nothing t)) t (Good s p) (Follows after.Nothing t) (held_by K (place_type p))
        (λ c d. locates p t (Follows after.Nothing t) c d r.0 told m)
        (λ n. carries-follows K after.Nothing t n (Good s p n) (held_by K (place_type p))
        (carries-none K t (Good s p n) (held_by K (place_type p))
        (λ y g. subst (λ z. IsHeld z y) (sym (aggregate-none (shape_at s.table (place_type p)) r.1)) tt))) code h
    leads (typed.Decay p n ty) Z t code h (r, node, d) told m =
        leads-as K code t (Some (PointerTo n (pointee_at s.table ty))) (held_by K ty)
        (sym (pointer-held (shape_at s.table ty) n (pointee_at s.table ty) (d.type.1 ∙ ap (λ z. shape.Pointer n z) (sym to))))
        (place-carries K (IsCodeOfPlace p (low s f) t (Follows A t)) t (Good s p) (Follows A t) (Some (PointerTo n (pointee_at s.table ty)))
        (λ c g. locates p t (Follows A t) c g r (left s f (pieces_of_place p) (AnExpression (typed.Decay p n ty) ∷ []) told) m)
        (λ outer. carries-follows K A t outer (Good s p outer) (Some (PointerTo n (pointee_at s.table ty)))
        (carries-line K (I outer) t (Good s p outer) (Some (PointerTo n (pointee_at s.table ty)))
        (λ U g after z. (
          (
            g.0,
            node,
            d.array.0,
            (d.count, d.array.1 ∙ ap (λ x. shape.Array x d.count) (sym to)),
            array-holds p outer t U (is_through_pointer p) (below (erased_place p) t m) refl r (d.element, d.count, d.array.1) g.2,
            (below (erased_place p) t m, z),
          ),
          (
            subst (λ x. Contains f.sites (site.Pointee n x)) (sym to) (w.pointees ty n d.element d.type),
            (
              subst (λ x. Contains f.sites (site.Linked n x)) (sym (array-node s p outer r (d.element, d.count, d.array.1) g.1))
                  ((right s f (pieces_of_place p) (AnExpression (typed.Decay p n ty) ∷ []) told).0.0),
              tt,
            ),
          ),
        )))) code h)
      where
        to : pointee_at s.table ty ≡ d.element
        to = pointer-to s.table ty n d.element d.type.1

        A : After
        A = after.Decay (place_type p) (is_through_pointer p) n (pointee_at s.table ty) (place_at p)

        I : NodeId → Instr
        I outer = instr.Point (point.Decay (value t) (value t) outer (place_type p) (is_through_pointer p) n (pointee_at s.table ty) (place_at p))
    leads (typed.Convert which at ty e) Z t code h r told m =
        then-carries K (IsCodeOf e (low s f) t) (Converts which t at (type_of e) ty) t (held_by K (type_of e)) (held_by K ty)
        (λ c g. leads e Z t c g r.0 (left s f (pieces_of e) (AnExpression (typed.Convert which at ty e) ∷ []) told) m)
        (values.converts s f w b kept which t at (type_of e) ty (below (erased e) t m) r.1
        ((right s f (pieces_of e) (AnExpression (typed.Convert which at ty e) ∷ []) told).0)) code h
    leads (typed.Cast which at name e) Z t code h r told m =
        then-carries K (IsCodeOf e (low s f) t) (Converts which t at (type_of e) (named_type name)) t (held_by K (type_of e))
        (held_by K (named_type name))
        (λ c g. leads e Z t c g r.1 (right s f (pieces_of_type_name name) (pieces_of e)
        (left s f (pieces_of_type_name name ++ pieces_of e) (AnExpression (typed.Cast which at name e) ∷ []) told)) (omega (arith, m)))
        (values.converts s f w b kept which t at (type_of e) (named_type name) (omega (arith, m)) r.2
        ((right s f (pieces_of_type_name name ++ pieces_of e) (AnExpression (typed.Cast which at name e) ∷ []) told).0)) code h
    leads (typed.AddressOf at p n ty) Z t code h (r, node, a) told m =
        leads-as K code t (Some (PointerTo n (place_type p))) (held_by K ty) (sym (pointer-held (shape_at s.table ty) n (place_type p) a.type.1))
        (place-carries K (IsCodeOfPlace p (low s f) t (Follows A t)) t (Good s p) (Follows A t) (Some (PointerTo n (place_type p)))
        (λ c g. locates p t (Follows A t) c g r (left s f (pieces_of_place p) (AnExpression (typed.AddressOf at p n ty) ∷ []) told)
        (omega (arith, m)))
        (λ outer. carries-follows K A t outer (Good s p outer) (Some (PointerTo n (place_type p)))
        (carries-line K (instr.Point (point.Address (value t) (value t) outer n (place_type p))) t (Good s p outer)
        (Some (PointerTo n (place_type p)))
        (λ U g after z. (
          (
            g.0,
            node,
            place-whole s p r,
            (omega (arith, m), left-place p (place_type p) outer (U (value t)) a.lvalue a.own g.2),
            (omega (arith, m), z),
          ),
          (
            w.pointees ty n (place_type p) a.type,
            (
              subst (λ x. Contains f.sites (site.Linked n x)) (sym (node-lvalue s.table p outer a.lvalue g.1))
                  ((right s f (pieces_of_place p) (AnExpression (typed.AddressOf at p n ty) ∷ []) told).0.0),
              tt,
            ),
          ),
        )))) code h)
      where
        A : After
        A = after.Address n (place_type p)
    leads (typed.AddressOfElement at p ty) Z t code h (r, a) told m =
        place-carries K (IsCodeOfPlace p (low s f) t (Follows after.Nothing t)) t (Good s p) (Follows after.Nothing t) (held_by K ty)
        (λ c d. locates p t (Follows after.Nothing t) c d r told (omega (arith, m)))
        (λ n. carries-follows K after.Nothing t n (Good s p n) (held_by K ty)
        (carries-none K t (Good s p n) (held_by K ty)
        (λ y g. subst (λ z. IsHeld z y)
        (sym (ap (λ z. held_by K z) (sym a.type) ∙ pointer-held (shape_at s.table (type_of a.pointer)) back.0 (place_type p) back.1.1))
        (left-pointer p (place_type p) n y a.pointer a.behind g.2 ∙ ap (λ z. Some (PointerTo z (place_type p))) (back.2 n g.1))))) code h
      where
        back : (m : NodeId) × HasShape s.table (type_of a.pointer) (shape.Pointer m (place_type p))
            × ((n : NodeId) → In n (addresses_at s.table p) → n ≡ m)
        back = behind-pointer p a.pointer r a.behind
    leads (typed.AddressOfFunction at e) Z t code h r told m = leads e Z t code h r.0 told (omega (arith, m))
    leads (typed.FunctionAt at e) Z t code h r told m = leads e Z t code h r.0 told (omega (arith, m))
    leads (typed.Prefix op at e ty) Z t code h r told m =
        then-carries K (IsCodeOf e (low s f) t) (Prefixes op t ty) t (held_by K (type_of e)) (held_by K ty)
        (λ c g. leads e Z t c g r.0 told (omega (arith, m)))
        (values.prefixes s f w b kept op t at e ty (omega (arith, m)) r.1) code h
    leads (typed.SizeOfPlace at p n ty) Z t code h r told m = values.constants s f w b kept t unsigned_long (pos n) ty (omega (arith, m)) r.3 code h
    leads (typed.SizeOfValue at e n ty) Z t code h r told m = values.constants s f w b kept t unsigned_long (pos n) ty (omega (arith, m)) r.3 code h
    leads (typed.SizeOfType at paren name n ty) Z t code h r told m =
        values.constants s f w b kept t unsigned_long (pos n) ty (omega (arith, m)) r.3 code h
    leads (typed.StepBefore which at p) Z t code h r told m =
        place-carries K (IsCodeOfPlace p (low s f) t (Follows A t)) t (Good s p) (Follows A t) (held_by K (place_type p))
        (λ c d. locates p t (Follows A t) c d r.0 (left s f (pieces_of_place p) (AnExpression (typed.StepBefore which at p) ∷ []) told)
        (omega (arith, m)))
        (λ n. carries-follows K A t n (Good s p n) (held_by K (place_type p))
        (steps K w.basic (is_pointer_shape (shape_at s.table (place_type p))) (is_subtract (operator_of_step which)) false which n (Good s p n)
        (place_type p) t (place_at p) at
        (omega (arith, m)) (step-scalar (place_type p) r.2) (λ y g. usable p n y g)
        (step-fits (place_type p) at r.2 ((right s f (pieces_of_place p) (AnExpression (typed.StepBefore which at p) ∷ []) told).0)))) code h
      where
        A : After
        A = after.Step false which (is_pointer_shape (shape_at s.table (place_type p))) (place_type p) (place_at p) at
    leads (typed.StepAfter p which at) Z t code h r told m =
        place-carries K (IsCodeOfPlace p (low s f) t (Follows A t)) t (Good s p) (Follows A t) (held_by K (place_type p))
        (λ c d. locates p t (Follows A t) c d r.0 (left s f (pieces_of_place p) (AnExpression (typed.StepAfter p which at) ∷ []) told)
        (omega (arith, m)))
        (λ n. carries-follows K A t n (Good s p n) (held_by K (place_type p))
        (steps K w.basic (is_pointer_shape (shape_at s.table (place_type p))) (is_subtract (operator_of_step which)) true which n (Good s p n)
        (place_type p) t (place_at p) at
        (omega (arith, m)) (step-scalar (place_type p) r.2) (λ y g. usable p n y g)
        (step-fits (place_type p) at r.2 ((right s f (pieces_of_place p) (AnExpression (typed.StepAfter p which at) ∷ []) told).0)))) code h
      where
        A : After
        A = after.Step true which (is_pointer_shape (shape_at s.table (place_type p))) (place_type p) (place_at p) at
    leads (typed.Arithmetic op a at d ty) Z t code h r told m =
        two K (IsCodeOf a (low s f) t) (IsCodeOf d (low s f) (suc t)) (Calculates (lowered op) t (type_of a) at) t (held_by K (type_of a))
        (held_by K (type_of d)) (held_by K ty)
        (λ c g. leads a Z t c g r.0 (left s f (pieces_of a) (pieces_of d) told) (omega (arith, m)))
        (λ c g. leads d Z (suc t) c g r.1 (right s f (pieces_of a) (pieces_of d) told) (omega (arith, m)))
        (values.arithmetic s f w b kept op t at a d ty (omega (arith, m)) r.2) code h
    leads (typed.Moved op which a at d ty) Z t code h (ra, rd, allowed, pointer, integer, same) told m =
        leads-as K code t (held_by K (type_of (pointer_side which a d))) (held_by K ty) (ap (λ z. held_by K z) (sym same))
        (two K (IsCodeOf a (low s f) t) (IsCodeOf d (low s f) (suc t)) (Moves which (is_subtract (operator_of op)) t (type_of a) (type_of d) at) t
        (held_by K (type_of a))
        (held_by K (type_of d)) (held_by K (type_of (pointer_side which a d)))
        (λ c g. leads a Z t c g ra (left s f (pieces_of a) (pieces_of d)
        (left s f (pieces_of a ++ pieces_of d) (AnExpression (typed.Moved op which a at d ty) ∷ []) told)) (omega (arith, m)))
        (λ c g. leads d Z (suc t) c g rd
        (right s f (pieces_of a) (pieces_of d) (left s f (pieces_of a ++ pieces_of d) (AnExpression (typed.Moved op which a at d ty) ∷ []) told))
        (omega (arith, m)))
        (values.moves s f w b kept which (is_subtract (operator_of op)) t at a d (omega (arith, m)) pointer integer
        ((right s f (pieces_of a ++ pieces_of d) (AnExpression (typed.Moved op which a at d ty) ∷ []) told).0.0)) code h)
    leads (typed.Difference a at d ty) Z t code h (ra, rd, pa, pd, both, long) told m =
        two K (IsCodeOf a (low s f) t) (IsCodeOf d (low s f) (suc t)) _ t (held_by K (type_of a)) (held_by K (type_of d)) (held_by K ty)
        (λ c g. leads a Z t c g ra (left s f (pieces_of a) (pieces_of d)
        (left s f (pieces_of a ++ pieces_of d) (AnExpression (typed.Difference a at d ty) ∷ []) told)) (omega (arith, m)))
        (λ c g. leads d Z (suc t) c g rd
        (right s f (pieces_of a) (pieces_of d) (left s f (pieces_of a ++ pieces_of d) (AnExpression (typed.Difference a at d ty) ∷ []) told))
        (omega (arith, m)))
        (values.difference s f w b kept t at a d ty (omega (arith, m)) pa pd both long
        ((right s f (pieces_of a ++ pieces_of d) (AnExpression (typed.Difference a at d ty) ∷ []) told).0)) code h
    leads (typed.Compared op a at d ty) Z t code h (ra, rd, compared) told m =
        two K (IsCodeOf a (low s f) t) (IsCodeOf d (low s f) (suc t)) _ t (held_by K (type_of a)) (held_by K (type_of d)) (held_by K ty)
        (λ c g. leads a Z t c g ra (left s f (pieces_of a) (pieces_of d)
        (left s f (pieces_of a ++ pieces_of d) (AnExpression (typed.Compared op a at d ty) ∷ []) told)) (omega (arith, m)))
        (λ c g. leads d Z (suc t) c g rd
        (right s f (pieces_of a) (pieces_of d) (left s f (pieces_of a ++ pieces_of d) (AnExpression (typed.Compared op a at d ty) ∷ []) told))
        (omega (arith, m)))
        (comparisons.compares s f w b kept op t at a d ty (omega (arith, m)) (null-fits a ra) (null-fits d rd) compared
        ((right s f (pieces_of a ++ pieces_of d) (AnExpression (typed.Compared op a at d ty) ∷ []) told).0)) code h
    leads (typed.Logical op a at d ty) Z t code h (ra, rd, l) told m =
        values.logicals s f w b kept (is_or op) (IsCodeOf a (low s f) t) (IsCodeOf d (low s f) t) t (held_by K (type_of a)) (held_by K (type_of d)) ty
        (omega (arith, m))
        (scalar-some (shape_at s.table (type_of a)) l.first.scalar) (scalar-some (shape_at s.table (type_of d)) l.second.scalar) l.type
        (λ c g. leads a Z t c g ra (left s f (pieces_of a) (pieces_of d) told) (omega (arith, m)))
        (λ c g. leads d Z t c g rd (right s f (pieces_of a) (pieces_of d) told) (omega (arith, m))) code h
    leads (typed.Conditional c at a d ty) Z t code h (rc, ra, rd, l) told m =
        one-of K (IsCodeOf c (low s f) t) (IsCodeOf a (low s f) t) (IsCodeOf d (low s f) t) t (held_by K (type_of c)) (held_by K ty)
        (omega (arith, m))
        (scalar-some (shape_at s.table (type_of c)) l.0.scalar)
        (λ x g. leads c Z t x g rc (left s f (pieces_of c) (pieces_of a) (left s f (pieces_of c ++ pieces_of a) (pieces_of d) told))
        (omega (arith, m)))
        (λ x g. leads-as K x t (held_by K (type_of a)) (held_by K ty) ((choice-types c at a d ty l).0)
        (leads a Z t x g ra (right s f (pieces_of c) (pieces_of a) (left s f (pieces_of c ++ pieces_of a) (pieces_of d) told)) (omega (arith, m))))
        (λ x g. leads-as K x t (held_by K (type_of d)) (held_by K ty) ((choice-types c at a d ty l).1)
        (leads d Z t x g rd (right s f (pieces_of c ++ pieces_of a) (pieces_of d) told) (omega (arith, m)))) code h
    leads (typed.PointerConditional c at a d n ty) Z t code h (rc, ra, rd, node, l) told m =
        one-of K (IsCodeOf c (low s f) t) (IsCodeOf a (low s f) t) (IsCodeOf d (low s f) t) t (held_by K (type_of c)) (held_by K ty)
        (omega (arith, m))
        (scalar-some (shape_at s.table (type_of c)) l.condition.scalar)
        (λ x g. leads c Z t x g rc (left s f (pieces_of c) (pieces_of a) (left s f (pieces_of c ++ pieces_of a) (pieces_of d) told))
        (omega (arith, m)))
        (λ x g. leads-as K x t (held_by K (type_of a)) (held_by K ty) (ap (λ z. held_by K (type_of z)) l.first)
        (leads a Z t x g ra (right s f (pieces_of c) (pieces_of a) (left s f (pieces_of c ++ pieces_of a) (pieces_of d) told)) (omega (arith, m))))
        (λ x g. leads-as K x t (held_by K (type_of d)) (held_by K ty) (ap (λ z. held_by K (type_of z)) l.second)
        (leads d Z t x g rd (right s f (pieces_of c ++ pieces_of a) (pieces_of d) told) (omega (arith, m)))) code h
    leads (typed.Comma a d) Z t code h r told m =
        then-all K (IsCodeOf a (low s f) t) (IsCodeOf d (low s f) t) t (held_by K (type_of a)) (held_by K (type_of d))
        (λ c g. leads a Z t c g r.0 (left s f (pieces_of a) (pieces_of d) told) (omega (arith, m)))
        (λ c g. leads d Z t c g r.1 (right s f (pieces_of a) (pieces_of d) told) (omega (arith, m))) code h
    leads (typed.Assign p at e) Z t code h (rp, re, lvalue, stored) told m =
        place-carries K (IsCodeOfPlace p (low s f) t _) t (Good s p) _ (held_by K (place_type p))
        (λ c d. locates p t _ c d rp (left s f (pieces_of_place p) (pieces_of e) told) (omega (arith, m)))
        (λ n. assigned K (IsCodeOf e (low s f) (suc t)) n (Good s p n) (place_type p) t (place_at p) at (omega (arith, m))
        (scalar (place_type p) stored.2) (λ y g. usable p n y g)
        (λ c g. leads-as K c (suc t) (held_by K (type_of e)) (held_by K (place_type p)) (ap (λ z. held_by K z) stored.0)
        (leads e Z (suc t) c g re (right s f (pieces_of_place p) (pieces_of e) told) (omega (arith, m))))) code h
    leads (typed.AssignWith op p at e u) Z t code h (rp, re, updated) told m =
        place-carries K (IsCodeOfPlace p (low s f) t _) t (Good s p) _ (held_by K (place_type p))
        (λ c d. locates p t _ c d rp (left s f (pieces_of_place p) (pieces_of e)
        (left s f (pieces_of_place p ++ pieces_of e) (AnExpression (typed.AssignWith op p at e u) ∷ []) told)) (omega (arith, m)))
        (λ n. updates K (is_pointer_shape (shape_at s.table (place_type p))) (is_subtract (operator_of_assignment op)) op
        (IsCodeOf e (low s f) (suc t)) n (Good s p n)
        (place_type p) u (held_by K (type_of e)) t (place_at p) at (omega (arith, m)) fits.1 (λ y g. usable p n y g) fits.0
        (λ c g. leads e Z (suc t) c g re (right s f (pieces_of_place p) (pieces_of e)
        (left s f (pieces_of_place p ++ pieces_of e) (AnExpression (typed.AssignWith op p at e u) ∷ []) told)) (omega (arith, m)))) code h
      where
        fits : IsUpdate K (is_pointer_shape (shape_at s.table (place_type p))) op (place_type p) u (held_by K (type_of e)) at
            × IsScalar K (place_type p)
        fits = update-fits op p at e u updated
            ((right s f (pieces_of_place p ++ pieces_of e) (AnExpression (typed.AssignWith op p at e u) ∷ []) told).0)
    leads (typed.Call g at arguments ty) Z t code h (rg, ra, call, may) told m =
        calling.calls s f w b kept (IsCodeOf g (low s f) t) (IsCodeOfArguments arguments (low s f) (suc t)) t at g arguments ty
        (omega (arith, m, count-same arguments)) (omega (arith, m)) call (calls-in may)
        (λ c d. leads g Z t c d rg (left s f (pieces_of g) (pieces_of_arguments arguments) told) (omega (arith, m)))
        (λ c d. rows arguments Z t c d ra (right s f (pieces_of g) (pieces_of_arguments arguments) told) (omega (arith, m))) code h
    leads (typed.CallRuntime which g at arguments ty) Z t code h (ra, call, may) told m =
        calling.runs s f w b kept (IsCodeOfArguments arguments (low s f) (suc t)) which t arguments g ty (omega (arith, m)) call
        (null-freed arguments ra)
        (λ c d. rows arguments Z t c d ra told (omega (arith, m))) code h
    leads (typed.Allocate which g at arguments node ty) Z t code h (ra, there, call, may) told m =
        leads-as K code t (Some (PointerTo node (pointee_at s.table ty))) (held_by K ty)
        (sym (pointer-held (shape_at s.table ty) node (pointee_at s.table ty) (call.type.1 ∙ ap (λ z. shape.Pointer node z) (sym to))))
        (calling.allocates s f w b kept (IsCodeOfArguments arguments (low s f) (suc t)) which t at arguments g node (pointee_at s.table ty)
        (omega (arith, m, count-same arguments)) call.call there (subst (λ x. IsBlockType K node x) (sym to) (call.nothing.0, inl call.nothing.1))
        (subst (λ x. Contains f.sites (site.Pointee node x)) (sym to) (w.pointees ty node call.void call.type))
        (λ c d. rows arguments Z t c d ra told (omega (arith, m))) code h)
      where
        to : pointee_at s.table ty ≡ call.void
        to = pointer-to s.table ty node call.void call.type.1
    leads (typed.AllocateFor which g at arguments ty) Z t code h (ra, call, (n, u, p, whole), may) told m =
        leads-as K code t (Some (PointerTo (node_at s.table ty) (pointee_at s.table ty))) (held_by K ty)
        (sym (pointer-held (shape_at s.table ty) (node_at s.table ty) (pointee_at s.table ty)
        (p.1 ∙ ap (λ z. shape.Pointer z u) (sym from) ∙ ap (λ z. shape.Pointer (node_at s.table ty) z) (sym to))))
        (calling.allocates s f w b kept (IsCodeOfArguments arguments (low s f) (suc t)) which t at arguments g (node_at s.table ty)
        (pointee_at s.table ty)
        (omega (arith, m, count-same arguments)) call.call (subst (λ (z : NodeId). z.0 < s.nodes) (sym from) (w.nodes ty n u p))
        (subst (λ z. IsBlockType K z (pointee_at s.table ty)) (sym from) (subst (λ x. IsBlockType K n x) (sym to) (whole.0, inr (whole.1, (ty, p)))))
        (subst (λ z. Contains f.sites (site.Pointee z (pointee_at s.table ty))) (sym from)
        (subst (λ x. Contains f.sites (site.Pointee n x)) (sym to) (w.pointees ty n u p)))
        (λ c d. rows arguments Z t c d ra told (omega (arith, m))) code h)
      where
        from : node_at s.table ty ≡ n
        from = pointer-node s.table ty n u p.1

        to : pointee_at s.table ty ≡ u
        to = pointer-to s.table ty n u p.1

    pub rows : (l : TypedArguments) (Z : Type 0) (t : ℕ) (code : List Instr) → IsCodeOfArguments l (low s f) (suc t) code → AreReady s l
        → Told s f (pieces_of_arguments l) → t + held_by_arguments (erased_arguments l) ≤ 256 → LeadsRow K code (suc t) l
    rows typed.NoArgument Z t code h r told m = no-arguments K (suc t) code h
    rows (typed.AndArgument all e) Z t code h r told m =
        more-arguments K (IsCodeOfArguments all (low s f) (suc t)) (IsCodeOf e (low s f) (suc t + count all)) (suc t) all e
        (λ c d. rows all Z t c d r.0 (left s f (pieces_of_arguments all) (pieces_of e) told) (omega (arith, m)))
        (λ c d. leads e Z (suc t + count all) c d r.1 (right s f (pieces_of_arguments all) (pieces_of e) told)
        (omega (arith, m, count-same all))) code h

    pub locates : (p : TypedPlace) (t : ℕ) (next : NodeId → Form) (code : List Instr) → IsCodeOfPlace p (low s f) t next code → IsReadyPlace s p
        → Told s f (pieces_of_place p) → t + held (erased_place p) ≤ 256 → LeadsPlace K t (Good s p) next code
    locates (typed.Variable name home ty) t next code h r told m =
        place-value K (Objects (low s f) t home ty) (Some (PlaceOf home ty)) t home (Good s (typed.Variable name home ty)) next
        (λ y e. (there.0, inl refl, e))
        (objects-lead home ty t (omega (arith, m)) (λ o e. w.objects o home ty e there)) code h
      where
        there : IsObjectOf true s home ty
        there = subst (λ c. IsObjectOf c s home ty) w.runs r
    locates (typed.String pieces home ty) t next code h r told m =
        place-value K (Objects (low s f) t home ty) (Some (PlaceOf home ty)) t home (Good s (typed.String pieces home ty)) next
        (λ y e. (r.0.0, inl refl, e))
        (objects-lead home ty t (omega (arith, m)) (λ o e. w.literals o home ty e r.0)) code h
    locates (typed.ParenPlace at p) t next code h r told m = locates p t next code h r told (omega (arith, m))
    locates (typed.Target at e ty) t next code h r told m =
        place-value K (IsCodeOf e (low s f) t) (held_by K (type_of e)) t (node_at s.table (type_of e)) (Good s (typed.Target at e ty)) next
        (λ y g. (
          subst (λ (z : NodeId). z.0 < s.nodes) (sym from) (w.nodes (type_of e) (r.1.type.0) ty r.1.type.1),
          inl refl,
          subst (λ z. y ≡ Some (PointerTo z ty)) (sym from)
              (subst (λ x. IsHeld x y) (pointer-held (shape_at s.table (type_of e)) (r.1.type.0) ty r.1.type.1.1) g),
        ))
        (λ c d. leads e (Unit {0}) t c d r.0 told (omega (arith, m))) code h
      where
        from : node_at s.table (type_of e) ≡ r.1.type.0
        from = pointer-node s.table (type_of e) (r.1.type.0) ty r.1.type.1.1
    locates (typed.Element which a at d ty) t next code h (ra, rd, pointer, integer, whole) told m =
        place-value K (Then (IsCodeOf a (low s f) t) (Then (IsCodeOf d (low s f) (suc t)) (Moves which false t (type_of a) (type_of d) at)))
        (held_by K (type_of q)) t
        (node_at s.table (type_of q)) (Good s (typed.Element which a at d ty)) next
        (λ y g. (
          subst (λ (z : NodeId). z.0 < s.nodes) (sym from) (w.nodes (type_of q) (pointer.type.0) ty pointer.type.1),
          inl refl,
          subst (λ z. y ≡ Some (PointerTo z ty)) (sym from)
              (subst (λ x. IsHeld x y) (pointer-held (shape_at s.table (type_of q)) (pointer.type.0) ty pointer.type.1.1) g),
        ))
        (two K (IsCodeOf a (low s f) t) (IsCodeOf d (low s f) (suc t)) (Moves which false t (type_of a) (type_of d) at) t (held_by K (type_of a))
        (held_by K (type_of d))
        (held_by K (type_of q))
        (λ c g. leads a (Unit {0}) t c g ra
        (left s f (pieces_of a) (pieces_of d) (left s f (pieces_of a ++ pieces_of d) (APlace (typed.Element which a at d ty) ∷ []) told))
        (omega (arith, m)))
        (λ c g. leads d (Unit {0}) (suc t) c g rd
        (right s f (pieces_of a) (pieces_of d) (left s f (pieces_of a ++ pieces_of d) (APlace (typed.Element which a at d ty) ∷ []) told))
        (omega (arith, m)))
        (values.moves s f w b kept which false t at a d (omega (arith, m)) (pointer.type.0, ty, pointer.type.1, whole) integer
        ((right s f (pieces_of a ++ pieces_of d) (APlace (typed.Element which a at d ty) ∷ []) told).0.0))) code h
      where
        q : TypedExpr
        q = pointer_side which a d

        from : node_at s.table (type_of q) ≡ pointer.type.0
        from = pointer-node s.table (type_of q) (pointer.type.0) ty pointer.type.1.1
    locates (typed.Member p at name i n ty) t next code h (r, member) told m =
        place-value K (IsCodeOfPlace p (low s f) t (Follows A t)) (Some (PlaceOf n ty)) t n (Good s (typed.Member p at name i n ty)) next
        (λ y e. (member.node, inl refl, e))
        (place-carries K (IsCodeOfPlace p (low s f) t (Follows A t)) t (Good s p) (Follows A t) (Some (PlaceOf n ty))
        (λ c d. locates p t (Follows A t) c d r (left s f (pieces_of_place p) (APlace (typed.Member p at name i n ty) ∷ []) told) (omega (arith, m)))
        (λ outer. carries-follows K A t outer (Good s p outer) (Some (PlaceOf n ty))
        (carries-line K (instr.Point (point.Member (value t) (value t) outer (place_type p) i n ty at)) t (Good s p outer) (Some (PlaceOf n ty))
        (λ U g after z. (
          (
            g.0,
            member.node,
            member.complete,
            member.aggregate,
            member.there,
            sym member.type,
            holds-address U t outer (place_type p) (omega (arith, m)) (left-address p (place_type p) outer (U (value t)) g.2),
            (omega (arith, m), z),
          ),
          (asked.0, (linked-in f.sites n outer (addresses_at s.table p) asked.1 g.1, tt)),
        ))))) code h
      where
        A : After
        A = after.Member (place_type p) i n ty at

        asked : AreAmong f.sites (sites_of_piece s.table (APlace (typed.Member p at name i n ty)))
        asked = (right s f (pieces_of_place p) (APlace (typed.Member p at name i n ty) ∷ []) told).0
    locates (typed.MemberAt e at name i n ty) t next code h (r, (whole, pointer, member)) told m =
        place-value K (Then (IsCodeOf e (low s f) t) (Follows A t N)) (Some (PlaceOf n ty)) t n (Good s (typed.MemberAt e at name i n ty)) next
        (λ y g. (member.node, inl refl, g))
        (then-carries K (IsCodeOf e (low s f) t) (Follows A t N) t (held_by K (type_of e)) (Some (PlaceOf n ty))
        (λ c d. leads e (Unit {0}) t c d r (left s f (pieces_of e) (APlace (typed.MemberAt e at name i n ty) ∷ []) told) (omega (arith, m)))
        (carries-follows K A t N (IsHeld (held_by K (type_of e))) (Some (PlaceOf n ty))
        (carries-line K (instr.Point (point.Member (value t) (value t) N (pointee_at s.table (type_of e)) i n ty at)) t
        (IsHeld (held_by K (type_of e))) (Some (PlaceOf n ty))
        (λ U g after z. (
          (
            subst (λ (x : NodeId). x.0 < s.nodes) (sym from) (w.nodes (type_of e) (pointer.type.0) whole pointer.type.1),
            member.node,
            subst (λ x. IsWhole s x) (sym to) member.complete,
            subst (λ x. IsAggregate s.table x) (sym to) member.aggregate,
            subst (λ x. i < length (members_at s.table x)) (sym to) member.there,
            subst (λ x. member_at s.table x i ≡ ty) (sym to) (sym member.type),
            inl (
              omega (arith, m),
              subst (λ x. U (value t) ≡ Some (PointerTo x (pointee_at s.table (type_of e)))) (sym from)
                  (subst (λ x. U (value t) ≡ Some (PointerTo (pointer.type.0) x)) (sym to)
                  (subst (λ x. IsHeld x (U (value t))) (pointer-held (shape_at s.table (type_of e)) (pointer.type.0) whole pointer.type.1.1) g)),
            ),
            (omega (arith, m), z),
          ),
          (right s f (pieces_of e) (APlace (typed.MemberAt e at name i n ty) ∷ []) told).0,
        ))))) code h
      where
        A : After
        A = after.Member (pointee_at s.table (type_of e)) i n ty at

        N : NodeId
        N = node_at s.table (type_of e)

        from : node_at s.table (type_of e) ≡ pointer.type.0
        from = pointer-node s.table (type_of e) (pointer.type.0) whole pointer.type.1.1

        to : pointee_at s.table (type_of e) ≡ whole
        to = pointer-to s.table (type_of e) (pointer.type.0) whole pointer.type.1.1
    locates (typed.StructAssign p at q) t next code h (rp, rq, lvalue, same, aggregate) told m =
        place-less K (IsCodeOfPlace p (low s f) t _) t (Good s p) (Good s (typed.StructAssign p at q)) next
        (λ n y g. (g.0, inl (node-lvalue s.table p n lvalue g.1), g.2))
        (struct-assigned K t (IsCodeOfPlace p (low s f) t _)
        (λ n. IsCodeOfPlace q (low s f) (suc t)
        (Follows (after.Copy (target.Pointer (value t) n) (place_at p) (place_at q) (place_type p) at) (suc t)))
        (Good s p) (Good s q) next (place_type p) (place_at p) (place_at q) at (omega (arith, m)) (place-whole s p rp) aggregate (usable p)
        (subst (λ z. IsUsable K z (Good s q)) (sym same) (usable q))
        (λ n o x y g l. subst (λ z. Contains f.sites (site.Linked z o)) (sym (node-lvalue s.table p n lvalue g.1))
        (linked-in f.sites (address_at s.table p) o (addresses_at s.table q)
        ((right s f (pieces_of_place p ++ pieces_of_place q) (APlace (typed.StructAssign p at q) ∷ []) told).0) l.1))
        (λ n c d. locates q (suc t) _ c d rq (right s f (pieces_of_place p) (pieces_of_place q)
        (left s f (pieces_of_place p ++ pieces_of_place q) (APlace (typed.StructAssign p at q) ∷ []) told)) (omega (arith, m)))
        (λ c d. locates p t _ c d rp (left s f (pieces_of_place p) (pieces_of_place q)
        (left s f (pieces_of_place p ++ pieces_of_place q) (APlace (typed.StructAssign p at q) ∷ []) told)) (omega (arith, m)))) code h
    locates (typed.StructConditional c at p q) t next code h (rc, rp, rq, condition, same, aggregate) told m =
        place-choice K (IsCodeOf c (low s f) t) (IsCodeOfPlace p (low s f) t next) (IsCodeOfPlace q (low s f) t next) (held_by K (type_of c)) t
        (omega (arith, m))
        (scalar-some (shape_at s.table (type_of c)) condition.scalar) (Good s p) (Good s q) (Good s (typed.StructConditional c at p q)) next
        (λ n y g. (g.0, in-left n (addresses_at s.table p) (addresses_at s.table q) g.1, inl g.2))
        (λ n y g. (g.0, in-right n (addresses_at s.table p) (addresses_at s.table q) g.1, inr (subst (λ z. LeftBy q z n y) (sym same) g.2)))
        (λ x d. leads c (Unit {0}) t x d rc
        (left s f (pieces_of c) (pieces_of_place p) (left s f (pieces_of c ++ pieces_of_place p) (pieces_of_place q)
        (left s f (pieces_of c ++ pieces_of_place p ++ pieces_of_place q) (APlace (typed.StructConditional c at p q) ∷ []) told))) (omega (arith, m)))
        (λ x d. locates p t next x d rp (right s f (pieces_of c) (pieces_of_place p) (left s f (pieces_of c ++ pieces_of_place p) (pieces_of_place q)
        (left s f (pieces_of c ++ pieces_of_place p ++ pieces_of_place q) (APlace (typed.StructConditional c at p q) ∷ []) told))) (omega (arith, m)))
        (λ x d. locates q t next x d rq (right s f (pieces_of c ++ pieces_of_place p) (pieces_of_place q)
        (left s f (pieces_of c ++ pieces_of_place p ++ pieces_of_place q) (APlace (typed.StructConditional c at p q) ∷ []) told))
        (omega (arith, m))) code h
    locates (typed.StructComma e p) t next code h r told m =
        place-comma K (IsCodeOf e (low s f) t) (IsCodeOfPlace p (low s f) t next) (held_by K (type_of e)) t (Good s (typed.StructComma e p)) next
        (λ c d. leads e (Unit {0}) t c d r.0 (left s f (pieces_of e) (pieces_of_place p) told) (omega (arith, m)))
        (λ c d. locates p t next c d r.1 (right s f (pieces_of e) (pieces_of_place p) told) (omega (arith, m))) code h

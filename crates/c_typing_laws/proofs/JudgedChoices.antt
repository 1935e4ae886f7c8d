-- What judging gives for `?:`, from what it gave for its operands.
use Rattle.std.proofs.Common.{◌≡◌, Bool, true, false, not, ◌&&◌, ◌||◌, nat_lt, [], ◌∷◌, Option, Some, None, refl, ap, sym, subst, ◌∙◌, inl, inr, if◌then◌else◌}
use Rattle.std.proofs.lemmas.Option.{none-some}
use Rattle.cc_base.specs.declared.place.Place.{Place}
use Rattle.cc_base.specs.declared.number.TypeId.{TypeId}
use Rattle.cc_base.specs.declared.fault.Fault.TheVariants.{Refused, TooLarge}
use Rattle.cc_base.specs.declared.fault.Limit.TheVariants.{Types}
use Rattle.cc_base.specs.declared.fault.Rule.TheVariants as rule
use Rattle.c_types.specs.declared.shape.TypeShape.{TypeShape}
use Rattle.c_types.specs.declared.shape.TypeShape.TheVariants.{Void, Integer, Pointer, Array, Function, Struct, Union}
use Rattle.c_types.specs.Table.{Table, IsAggregate, shape_at, is_aggregate_shape}
use Rattle.c_types.specs.Sound.{IsIntegerSize}
use Rattle.c_types.specs.Sameness.{is_same_type}
use Rattle.c_tree.specs.Erasure.{erased_place}
use Rattle.c_tree.specs.Places.{expr_place}
use Rattle.c_tree.specs.Tree as tree
use Rattle.c_tree.specs.TypedTree as typed
use Rattle.c_tree.specs.TypedTree.{TypedExpr, TypedPlace}
use Rattle.c_tree.specs.TypedParts.{type_of, place_type}
use Rattle.integers.specs.Arithmetic.{IntegerType}
use Rattle.c_typing.specs.Assignments.{pointer_choice, choice_of_pointers, choice_of_values, choice_of_parts, choice}
use Rattle.c_typing.specs.Constants.{is_null_constant}
use Rattle.c_typing.specs.Conversions.{is_plain, is_droppable, are_data, points_to_void, to_integer}
use Rattle.c_typing.specs.Integers.{promoted, wider, common}
use Rattle.c_typing.specs.Judging.{State, Gives, pure, by_known, new_pointer, void_type, integer_type}
use Rattle.c_typing.specs.Operands.{Operand, Value, side_of}
use Rattle.c_typing.specs.Rules.{IsCondition, Meeting, RightIsNull, LeftIsNull, BothPoint, NeverMeet, meeting_of, meeting, meeting_type, into_choice}
use Rattle.c_typing.specs.Scopes.{Scopes}
use Rattle.c_typing.specs.Settled.{IsValueOf, IsKnown, IsJudged}
use Rattle.c_typing.specs.Shapes.{is_scalar_shape, is_void_shape, is_integer_shape, is_pointer_shape, integer_at, integer_of_shape}
use Rattle.c_typing.specs.Tests.{Elaborated, AsPlace, AsValue, AsAllocation, choice_tests, are_integers, are_one_struct, meet, taken_as, decayed, shape_of}
use Rattle.c_typing.specs.Typing.{IsTyped, IsPlace}
use Rattle.c_typing_laws.proofs.ExtensionLaws.{no_true, and_left, and_right}
use Rattle.c_typing_laws.proofs.ConstructLaws.{one_unbroken, not_false, to_integer-typed, to_integer-bare, integer_size, promoted_size, operand}
use Rattle.c_typing_laws.proofs.KeptConstants.{own-plain}
use Rattle.c_typing_laws.proofs.KeptConversions.{Meets, meeting-kept}
use Rattle.c_typing_laws.proofs.KeptRules.{condition-kept}
use Rattle.c_typing_laws.proofs.KeptTrees.{value-kept}
use Rattle.c_typing_laws.proofs.Outcomes.{construct-gives, never-gives, bind-gives}
use Rattle.c_typing_laws.proofs.KnownStates.{new_pointer-gives}
use Rattle.c_typing_laws.proofs.TypesThere.{value-there}
use Rattle.c_typing_laws.proofs.JudgedOperators.{made-here, made-later, to_integer-erased}

or_else : (a b : Bool) → a ≡ false → (a || b) ≡ true → b ≡ true
or_else true b p h = no_true (sym p)
or_else false b p h = h

or_nothing : (b : Bool) → (b || false) ≡ true → b ≡ true
or_nothing true h = refl
or_nothing false h = h

and_no : (a b : Bool) → a ≡ false → (a && b) ≡ false
and_no true b h = no_true (sym h)
and_no false b h = refl

and_last : (a b : Bool) → b ≡ false → (a && b) ≡ false
and_last true b h = h
and_last false b h = refl

wider_size : (j k : IntegerType) → IsIntegerSize j.bytes → IsIntegerSize k.bytes → IsIntegerSize (wider j k).bytes
wider_size j k p q = by (nat_lt j.bytes k.bytes) (nat_lt k.bytes j.bytes)
  where
    by : (b c : Bool) → IsIntegerSize (if b then k else (if c then j else record { bytes = j.bytes; signed = j.signed && k.signed })).bytes
    by true c = q
    by false true = p
    by false false = p

common_size : (j k : IntegerType) → IsIntegerSize j.bytes → IsIntegerSize k.bytes → IsIntegerSize (common j k).bytes
common_size j k p q = wider_size (promoted j) (promoted k) (promoted_size j p) (promoted_size k q)

void_is : (x : TypeShape) → is_void_shape x ≡ true → x ≡ Void
void_is Void h = refl
void_is (Integer bytes signed) h = no_true h
void_is (Pointer n t) h = no_true h
void_is (Array t n) h = no_true h
void_is (Function ps r) h = no_true h
void_is (Struct n) h = no_true h
void_is (Union n) h = no_true h

integer_shape : (x : TypeShape) (k : IntegerType) → integer_of_shape x ≡ Some k → x ≡ Integer k.bytes k.signed
integer_shape (Integer m r) k h = let q = some_kind (record { bytes = m; signed = r }) k h in λ i. Integer (q i).bytes (q i).signed
  where
    some_kind : (a b : IntegerType) → Some a ≡ Some b → a ≡ b
    some_kind a b p = cc
integer_shape Void k h = absurd (none-some k h)
integer_shape (Pointer n t) k h = absurd (none-some k h)
integer_shape (Array t n) k h = absurd (none-some k h)
integer_shape (Function ps r) k h = absurd (none-some k h)
integer_shape (Struct n) k h = absurd (none-some k h)
integer_shape (Union n) k h = absurd (none-some k h)

no_integer : (x : TypeShape) → integer_of_shape x ≡ None → is_integer_shape x ≡ false
no_integer (Integer m r) h = absurd (none-some (record { bytes = m; signed = r }) (sym h))
no_integer Void h = refl
no_integer (Pointer n t) h = refl
no_integer (Array t n) h = refl
no_integer (Function ps r) h = refl
no_integer (Struct n) h = refl
no_integer (Union n) h = refl

-- the sides of the choice

abbrev pub IsSide : Table → tree.Expr → Elaborated → Scopes → Scopes → Type 0
IsSide T e (AsPlace p) s s' = IsPlace T p s s' × IsAggregate T (place_type p) × (erased_place p ≡ e)
IsSide T e (AsValue v) s s' = IsValueOf T e v s s' × (is_plain v ≡ true)
IsSide T e (AsAllocation v) s s' = ⊥

side-is : (T : Table) (e : tree.Expr) (v : TypedExpr) (s s' : Scopes) → IsValueOf T e v s s' → is_droppable v ≡ true → IsSide T e (side_of v) s s'
side-is T e (typed.Unread p) s s' h d = (h.typed.0, h.typed.1, h.erases)
side-is T e v s s' h d = (h, d)

-- which pointers and null constants meet

met_pointee : (same objects mine yours : Bool) (t u : TypeId) → (same || (objects && (mine || yours))) ≡ true
    → (v : TypeId) × (meeting_type (if same then BothPoint t else (if objects && mine then BothPoint t else (if objects && yours then BothPoint u else NeverMeet))) ≡ Some v)
met_pointee true objects mine yours t u h = (t, refl)
met_pointee false true true yours t u h = (t, refl)
met_pointee false true false true t u h = (u, refl)
met_pointee false true false false t u h = no_true h
met_pointee false false mine yours t u h = no_true h

abbrev takes : Table → TypeShape → TypeShape → Bool
takes = taken_as

abbrev meets : Table → Bool → Bool → TypeShape → TypeShape → Bool
meets T one other x y = (other && is_pointer_shape x) || ((one && is_pointer_shape y) || takes T x y)

takes_none : (T : Table) (x y : TypeShape) → is_pointer_shape y ≡ false → takes T x y ≡ false
takes_none T (Pointer n t) (Pointer w u) p = no_true (sym p)
takes_none T x y p = refl

met_by : (T : Table) (one other : Bool) (x y : TypeShape) → meets T one other x y ≡ true → (v : TypeId) × (meeting_type (meeting_of T one other x y) ≡ Some v)
met_by T true true (Pointer n t) y h = (t, refl)
met_by T false true (Pointer n t) y h = (t, refl)
met_by T true true x (Pointer w u) h = (u, refl)
met_by T true false x (Pointer w u) h = (u, refl)
met_by T false false (Pointer n t) (Pointer w u) h = met_pointee (is_same_type T t u) (are_data T t u) (points_to_void T t) (points_to_void T u) t u h
met_by T true false x y h = no_true (sym (takes_none T x y refl) ∙ h)
met_by T one other x y h = no_true h

type_meets : (m : Meeting) (t : TypeId) → meeting_type m ≡ Some t → Meets m
type_meets (RightIsNull t) u h = tt
type_meets (LeftIsNull t) u h = tt
type_meets (BothPoint t) u h = tt
type_meets NeverMeet u h = absurd (none-some u h)

-- two structs
struct_only : (T : Table) (x y : TypeShape) (same : Bool) → is_aggregate_shape x ≡ true
    → (are_integers (decayed x) y || ((is_void_shape (decayed x) && is_void_shape y)
    || ((is_aggregate_shape x && same) || meets T false false (decayed x) y))) ≡ true → same ≡ true
struct_only T (Struct n) y same a h = or_nothing same h
struct_only T (Union n) y same a h = or_nothing same h
struct_only T Void y same a h = no_true a
struct_only T (Integer bytes signed) y same a h = no_true a
struct_only T (Pointer n t) y same a h = no_true a
struct_only T (Array t n) y same a h = no_true a
struct_only T (Function ps r) y same a h = no_true a

module _ (ec ea eb : tree.Expr) (c : TypedExpr) (begin at : Place) (o : Operand) (s0 m n : Scopes) (s r : State) (k : IsKnown s) (vc : IsValueOf s.table ec c s0 m)
    (scalar : is_scalar_shape (shape_at s.table (type_of c)) ≡ true) (place : o.place ≡ expr_place ec) where
  T : Table
  T = s.table

  condition : IsCondition s.table c
  condition = record { plain = vc.settled.plain scalar; scalar = scalar }

  module _ (a b : TypedExpr) (va : IsValueOf s.table ea a m n) (vb : IsValueOf s.table eb b n s.seen.scopes) (pa : is_plain a ≡ true) (pb : is_plain b ≡ true) where
    by_integers : (j i : IntegerType) → shape_at s.table (type_of a) ≡ Integer j.bytes j.signed → shape_at s.table (type_of b) ≡ Integer i.bytes i.signed
        → Gives (AsValue (typed.Conditional c at (to_integer at (integer_type (common j i)) a) (to_integer at (integer_type (common j i)) b) (integer_type (common j i)))) s ≡ Gives o.part r
        → IsJudged (tree.Conditional ec at ea eb) o s0 s r
    by_integers j i ha hb q =
        let t : TypeId = integer_type (common j i) in
        let size = common_size j i (integer_size s.table (type_of a) j.bytes j.signed k.basic.formed ha) (integer_size s.table (type_of b) i.bytes i.signed k.basic.formed hb) in
        let qc = vc.erases in
        let qa = to_integer-erased at (integer_type (common j i)) a ∙ va.erases in
        let qb = to_integer-erased at (integer_type (common j i)) b ∙ vb.erases in
        made-here (tree.Conditional ec at ea eb)
        (AsValue (typed.Conditional c at (to_integer at (integer_type (common j i)) a) (to_integer at (integer_type (common j i)) b) (integer_type (common j i)))) o s0 s r k q place (
          (
            m,
            n,
            vc.typed,
            to_integer-typed s.table m n at (integer_type (common j i)) a pa va.typed,
            to_integer-typed s.table n s.seen.scopes at (integer_type (common j i)) b pb vb.typed,
            (
              condition,
              inl (record {
                left = j;
                right = i;
                first = ap (λ (v : TypedExpr). integer_at s.table (type_of v)) (to_integer-bare at (integer_type (common j i)) a va.settled.bare) ∙ ap integer_of_shape ha;
                second = ap (λ (v : TypedExpr). integer_at s.table (type_of v)) (to_integer-bare at (integer_type (common j i)) b vb.settled.bare) ∙ ap integer_of_shape hb;
                first_converted = operand s.table at (common j i) a k.basic size pa va.settled.bare;
                second_converted = operand s.table at (common j i) b k.basic size pb vb.settled.bare;
                type = k.basic.integers (common j i) size;
              }),
            ),
          ),
          (λ w. tree.Conditional (qc w) at (qa w) (qb w)),
          refl,
        )

    by_void : (is_void_shape (shape_at s.table (type_of a)) && is_void_shape (shape_at s.table (type_of b))) ≡ true
        → Gives (AsValue (typed.Conditional c at a b void_type)) s ≡ Gives o.part r → IsJudged (tree.Conditional ec at ea eb) o s0 s r
    by_void v q =
        let qc = vc.erases in
        let qa = va.erases in
        let qb = vb.erases in
        let x : TypeShape = shape_at s.table (type_of a) in
        let y : TypeShape = shape_at s.table (type_of b) in
        made-here (tree.Conditional ec at ea eb) (AsValue (typed.Conditional c at a b void_type)) o s0 s r k q place (
          (
            m,
            n,
            vc.typed,
            va.typed,
            vb.typed,
            (
              condition,
              inr (record {
                first = (pa, (value-there s.table k.basic a m n va.typed pa, void_is x (and_left (is_void_shape x) (is_void_shape y) v)));
                second = (pb, (value-there s.table k.basic b n s.seen.scopes vb.typed pb, void_is y (and_right (is_void_shape x) (is_void_shape y) v)));
                type = k.basic.void;
              }),
            ),
          ),
          (λ w. tree.Conditional (qc w) at (qa w) (qb w)),
          refl,
        )

    by_pointers : (to : TypeId) → meeting_type (meeting s.table a b) ≡ Some to → pointer_choice c begin at a b (Some to) s ≡ Gives o.part r
        → IsJudged (tree.Conditional ec at ea eb) o s0 s r
    unfolding pointer_choice
    by_pointers to meets_at q =
        let one = bind-gives (new_pointer begin to s)
        (λ made. by_known (λ p. pure (AsValue (typed.PointerConditional c at (into_choice p.table at made.type a) (into_choice p.table at made.type b) made.node made.type)))) o.part r q in
        let found = new_pointer-gives begin to one.0 s one.1 k one.2 in
        let U : Table = one.1.table in
        let x = found.1.goes.extends in
        let qc = vc.erases in
        let qa = va.erases in
        let qb = vb.erases in
        let later = subst (IsTyped one.1.table b n) (sym found.1.scopes) (value-kept s.table one.1.table x k.basic b n s.seen.scopes vb.typed) in
        made-later (tree.Conditional ec at ea eb)
        (AsValue (typed.PointerConditional c at (into_choice one.1.table at one.0.type a) (into_choice one.1.table at one.0.type b) one.0.node one.0.type)) o s0 s one.1 r found.1.goes one.3 place (
          (
            m,
            n,
            value-kept s.table one.1.table x k.basic c s0 m vc.typed,
            (value-kept s.table one.1.table x k.basic a m n va.typed, pa),
            (later, pb),
            record {
              to = to;
              condition = condition-kept s.table one.1.table x k.basic c condition;
              plain = (pa, pb);
              meets = ap meeting_type (meeting-kept s.table one.1.table x k.basic a b m n n s.seen.scopes va.typed vb.typed (own-plain s.table a pa) (own-plain s.table b pb)
                  (type_meets (meeting s.table a b) to meets_at)) ∙ meets_at;
              type = found.0;
              first = refl;
              second = refl;
            },
          ),
          (λ w. tree.Conditional (qc w) at (qa w) (qb w)),
          refl,
        )

    by_meeting : (to : Option TypeId) → meeting_type (meeting s.table a b) ≡ to → meet s.table (AsValue a) (AsValue b) ≡ true → pointer_choice c begin at a b to s ≡ Gives o.part r
        → IsJudged (tree.Conditional ec at ea eb) o s0 s r
    by_meeting (Some to) e h q = by_pointers to e q
    by_meeting None e h q =
        let met = met_by s.table (is_null_constant s.table a) (is_null_constant s.table b) (shape_at s.table (type_of a)) (shape_at s.table (type_of b)) h in
        absurd (none-some met.0 (sym e ∙ met.1))

    by_no_integers : (v : Bool) → (is_void_shape (shape_at s.table (type_of a)) && is_void_shape (shape_at s.table (type_of b))) ≡ v
        → (v || meet s.table (AsValue a) (AsValue b)) ≡ true → choice_of_pointers c begin at a b v s ≡ Gives o.part r → IsJudged (tree.Conditional ec at ea eb) o s0 s r
    unfolding choice_of_pointers
    by_no_integers true e h q = by_void e q
    by_no_integers false e h q = by_meeting (meeting_type (meeting s.table a b)) refl h q

    by_values : (j i : Option IntegerType) → integer_at s.table (type_of a) ≡ j → integer_at s.table (type_of b) ≡ i
        → (are_integers (shape_at s.table (type_of a)) (shape_at s.table (type_of b))
        || ((is_void_shape (shape_at s.table (type_of a)) && is_void_shape (shape_at s.table (type_of b))) || meet s.table (AsValue a) (AsValue b))) ≡ true
        → choice_of_values c begin at a b j i s ≡ Gives o.part r → IsJudged (tree.Conditional ec at ea eb) o s0 s r
    unfolding choice_of_values
    by_values (Some j) (Some i) ej ei h q =
        by_integers j i (integer_shape (shape_at s.table (type_of a)) j ej) (integer_shape (shape_at s.table (type_of b)) i ei) q
    by_values (Some j) None ej ei h q =
        let x : TypeShape = shape_at s.table (type_of a) in
        let y : TypeShape = shape_at s.table (type_of b) in
        by_no_integers (is_void_shape x && is_void_shape y) refl
        (or_else (are_integers x y) ((is_void_shape x && is_void_shape y) || meet s.table (AsValue a) (AsValue b)) (and_last (is_integer_shape x) (is_integer_shape y) (no_integer y ei)) h) q
    by_values None i ej ei h q =
        let x : TypeShape = shape_at s.table (type_of a) in
        let y : TypeShape = shape_at s.table (type_of b) in
        by_no_integers (is_void_shape x && is_void_shape y) refl
        (or_else (are_integers x y) ((is_void_shape x && is_void_shape y) || meet s.table (AsValue a) (AsValue b)) (and_no (is_integer_shape x) (is_integer_shape y) (no_integer x ej)) h) q

  by_sides : (x y : Elaborated) → IsSide s.table ea x m n → IsSide s.table eb y n s.seen.scopes
      → (are_integers (shape_of s.table x) (shape_of s.table y)
      || ((is_void_shape (shape_of s.table x) && is_void_shape (shape_of s.table y)) || (are_one_struct s.table x y || meet s.table x y))) ≡ true
      → choice_of_parts c begin at x y s ≡ Gives o.part r → IsJudged (tree.Conditional ec at ea eb) o s0 s r
  unfolding choice_of_parts
  by_sides (AsPlace p) (AsPlace q) sx sy h g =
      let same = struct_only s.table (shape_at s.table (place_type p)) (decayed (shape_at s.table (place_type q))) (is_same_type s.table (place_type p) (place_type q)) sx.1 h in
      let qc = vc.erases in
      let qa = sx.2 in
      let qb = sy.2 in
      made-here (tree.Conditional ec at ea eb) (AsPlace (typed.StructConditional c at p q)) o s0 s r k g place
      ((m, n, vc.typed, sx.0, sy.0, condition, record { aggregate = sx.1; same = same }), (λ w. tree.Conditional (qc w) at (qa w) (qb w)))
  by_sides (AsValue a) (AsValue b) sx sy h g =
      by_values a b sx.0 sy.0 sx.1 sy.1 (integer_at s.table (type_of a)) (integer_at s.table (type_of b)) refl refl h g
  by_sides (AsPlace p) (AsValue b) sx sy h g = never-gives o.part (TooLarge begin Types) s r g
  by_sides (AsValue a) (AsPlace q) sx sy h g = never-gives o.part (TooLarge begin Types) s r g
  by_sides (AsAllocation a) y sx sy h g = absurd sx
  by_sides (AsPlace p) (AsAllocation b) sx sy h g = absurd sy
  by_sides (AsValue a) (AsAllocation b) sx sy h g = absurd sy

pub choice-judged : (ec ea eb : tree.Expr) (c : Value) (at : Place) (a b : Value) (o : Operand) (s0 m n : Scopes) (s r : State) → IsKnown s
    → IsValueOf s.table ec c.expr s0 m → IsValueOf s.table ea a.expr m n → IsValueOf s.table eb b.expr n s.seen.scopes
    → is_droppable a.expr ≡ true → is_droppable b.expr ≡ true → c.place ≡ expr_place ec → choice c at a b s ≡ Gives o r
    → IsJudged (tree.Conditional ec at ea eb) o s0 s r
unfolding choice
choice-judged ec ea eb c at a b o s0 m n s r k vc va vb da db here h =
    let x : Elaborated = side_of a.expr in
    let y : Elaborated = side_of b.expr in
    let done = construct-gives (λ (q : State). choice_tests q.table at (AsValue c.expr) (side_of a.expr) (side_of b.expr)) c.place (c.held ∷ a.held ∷ b.held ∷ [])
    (choice_of_parts c.expr c.place at (side_of a.expr) (side_of b.expr)) s o r h in
    let rest : Bool = are_integers (shape_of s.table x) (shape_of s.table y)
    || ((is_void_shape (shape_of s.table x) && is_void_shape (shape_of s.table y)) || (are_one_struct s.table x y || meet s.table x y)) in
    let scalar : Bool = is_scalar_shape (shape_at s.table (type_of c.expr)) in
    let both = not_false (scalar && rest) (one_unbroken (not (scalar && rest)) (Refused at rule.Mismatch) done.unbroken) in
    by_sides ec ea eb c.expr c.place at o s0 m n s r k vc (and_left scalar rest both) (done.place ∙ here) x y
    (side-is s.table ea a.expr m n va da) (side-is s.table eb b.expr n s.seen.scopes vb db) (and_right scalar rest both) done.part

-- The lines of constants, copies, integer operators and truth values are in range.
use Rattle.std.specs.Prelude.{◌-◌, ◌^◌, if◌then◌else◌}
use Rattle.std.proofs.Common.{◌≡◌, ℕ, ◌+◌, ◌<◌, ◌≤◌, Bool, true, false, List, [], ◌∷◌, Option, None, Some, refl, sym, subst, inl, inr, arith}
use Rattle.cc_base.specs.declared.place.Place.{Place}
use Rattle.cc_base.specs.declared.number.TypeId.{TypeId}
use Rattle.cc_base.specs.declared.kind.Kind.{Kind}
use Rattle.cc_base.specs.declared.kind.Kind.TheVariants.{Safe, Seq, Rtti, Wild}
use Rattle.integers.specs.Words.{word}
use Rattle.integers.specs.Arithmetic.{IntegerType, int, bits_of}
use Rattle.cil_form.specs.declared.number.Temp.{Temp}
use Rattle.cil_form.specs.declared.number.Object.{Object}
use Rattle.cil_form.specs.declared.instr.Comparison.{Comparison}
use Rattle.cil_form.specs.declared.instr.Comparison.TheVariants as comparison
use Rattle.cil_form.specs.declared.instr.Operator.{Operator}
use Rattle.cil_form.specs.declared.instr.Operator.TheVariants as operator
use Rattle.cil_form.specs.declared.instr.Set.{Set}
use Rattle.cil_form.specs.declared.instr.Set.TheVariants as set
use Rattle.cil_form.specs.declared.instr.Calculate.{Calculate}
use Rattle.cil_form.specs.declared.instr.Calculate.TheVariants as calculate
use Rattle.cured_code.specs.declared.instr.Instr.{Instr}
use Rattle.cured_code.specs.declared.instr.Instr.TheVariants as instr
use Rattle.cured_code.specs.Ranges.{IsInstrInRange}
use Rattle.check_forms.specs.declared.slots.Fixed.{Fixed}
use Rattle.check_forms.specs.declared.op.Op.TheVariants.{DivideUnsigned, DivideSigned}
use Rattle.check_forms.specs.Pieces.{Line, Then}
use Rattle.sim_relation.specs.Ground.{word_number, function_word}
use Rattle.sim_relation.specs.Points.{Exact, Known, Knowledge, Content, Number, Start}
use Rattle.cure_rules.specs.Slots.{AreSlots, First, Mask, slot_of}
use Rattle.cure_rules.specs.Known.{World, kind_of, column, held_words, an_integer, a_pointer, a_place, copies, noughts}
use Rattle.cure_rules.specs.Functions.{IsKnownContent}
use Rattle.cure_rules.specs.Checks.{Seat, divide_by}
use Rattle.cure_rules.specs.Setting.{Fills, FunctionWords, ObjectWords, CopiedWords, IsCuringSet, is_wide, TestedBy, IsTested, Reckons, Divides, Masks, ShiftsLeft, ShiftsRight, less, comparison_lines, Compares, IsCuringBinary, Tells, IsCuringCalculate}
use Rattle.cure_ranges.proofs.Fitting.{Fits, OperandsFit, Around, names_at, Placed, NamesObject}
use Rattle.cure_ranges.proofs.Tests.{line, in_turn}
use Rattle.cure_ranges.proofs.Guards.{word_few, held_few, at_0, at_1, copied, nulled, narrows, left_at, left_none, exact, lowly, role, nought, kept, room, wide, sets, number, guarded}

module _ (w : World) (s : AreSlots w.slots) (r : Around) (b n : ℕ) (deep : n + 4 ≤ 1024) where
  -- Constants and copies

  fills : (into : Temp) (content : Content) (a : ℕ) (code : List Instr) → IsKnownContent w content → Fills w into content a code → Fits (names_at w r b n) code × (a + 3 ≤ w.slots.count)
  unfolding Line
  fills into content a code k (inl (h, e)) = (line (names_at w r b n) [] code e tt, kept w s a content h)
  fills into content a code k (inr (e, t, h)) =
      let l : a + 3 ≤ w.slots.count = subst (λ m. m + 3 ≤ w.slots.count) (sym e) (room w s into 1 t) in (sets w s r b n content a code (at_0 a w.slots.count l) k h, l)

  function_words : (k : Kind) (into : Temp) (v : ℕ) (code : List Instr) → FunctionWords k w into v code → Fits (names_at w r b n) code × (column w into + 3 ≤ w.slots.count)
  unfolding Line
  function_words Safe into v code (t, e) =
      let l = room w s into 1 t in (line (names_at w r b n) (instr.Const (column w into) v ∷ []) code e (at_0 (column w into) w.slots.count l, tt), l)
  function_words Wild into v code (t, e) =
      let l = room w s into 2 t in
      (line (names_at w r b n) (instr.Const (column w into) v ∷ instr.Const (column w into + 1) v ∷ []) code e (at_0 (column w into) w.slots.count l, (at_1 (column w into) w.slots.count l, tt)), l)
  function_words Seq into v code h = absurd h
  function_words Rtti into v code h = absurd h

  object_words : (k : Kind) (into : Temp) (o : Object) (a : ℕ) (code : List Instr) → IsKnownContent w (Start o) → ObjectWords k w into o a code → Fits (names_at w r b n) code × (a + 3 ≤ w.slots.count)
  unfolding Line Then
  object_words Safe into o a code k h = fills into (Start o) a code k h
  object_words Wild into o a code k (e, t, (x, y, p, q, f)) =
      let l : a + 3 ≤ w.slots.count = subst (λ m. m + 3 ≤ w.slots.count) (sym e) (room w s into 2 t) in
      (in_turn (names_at w r b n) x y code f (sets w s r b n (Start o) a x (at_0 a w.slots.count l) k p) (line (names_at w r b n) (instr.Copy (a + 1) a ∷ []) y q ((at_1 a w.slots.count l, at_0 a w.slots.count l), tt)), l)
  object_words Seq into o a code k h = absurd h
  object_words Rtti into o a code k h = absurd h

  copied_words : (into from : Temp) (x : Option Known) (known after : Knowledge) (code : List Instr) → Placed w known → known from ≡ x
      → CopiedWords w into from x known after code → Fits (names_at w r b n) code × Placed w after
  unfolding Line
  copied_words into from None known after code p e (m, t, u, f, l) =
      (line (names_at w r b n) (copies m (column w into) (column w from)) code f (copied (names_at w r b n) m (column w into) (column w from) (wide w s into m t) (wide w s from m u)), left_none w known into after p l)
  copied_words into from (Some x) known after code p e (a, g, t, f, l) =
      let h = held_few w.whole x.type in
      let i = p from x a e g in
      let j = room w s into (held_words w.whole x.type) t in (
        line (names_at w r b n) (copies (held_words w.whole x.type) (column w into) a) code f (copied (names_at w r b n) (held_words w.whole x.type) (column w into) a (omega (arith, h, j)) (omega (arith, h, i))),
        left_at w known into (record x { place = Some (column w into) }) after (column w into) p refl j l,
      )

  pub set_in_range : (i : Set) (known after : Knowledge) (code : List Instr) → Placed w known → NamesObject w i → IsCuringSet i w known after code → Fits (names_at w r b n) code × Placed w after
  unfolding Line
  set_in_range (set.Integer into z t) known after code p k (i, a, plain, same, f, l) =
      let g = fills into (Number (word z)) a code tt f in (g.0, left_at w known into (an_integer a Exact i) after a p refl g.1 l)
  set_in_range (set.Null into t) known after code p k (m, u, is, t', e, l) =
      let h = word_few (kind_of w m) in
      let j = room w s into (word_number (kind_of w m)) t' in (
        line (names_at w r b n) (noughts (word_number (kind_of w m)) (column w into)) code e (nulled (names_at w r b n) (word_number (kind_of w m)) (column w into) (omega (arith, h, j))),
        left_at w known into (a_pointer (column w into) m u []) after (column w into) p refl j l,
      )
  set_in_range (set.Function into f t) known after code p k (m, u, sure, is, true', h, l) =
      let g = function_words (kind_of w m) into (function_word f.0) code h in (g.0, left_at w known into (a_pointer (column w into) m u sure) after (column w into) p refl g.1 l)
  set_in_range (set.Object into o home t) known after code p k (a, sure, true', h, l) =
      let g = object_words (kind_of w home) into o a code k h in (g.0, left_at w known into (a_place a home t sure) after a p refl g.1 l)
  set_in_range (set.Copy into from) known after code p k h = copied_words into from (known from) known after code p refl h

  -- Truth values

  pub tested : (known : Knowledge) (t : Temp) (a : ℕ) (code : List Instr) → Placed w known → IsTested w known t a code → Fits (names_at w r b n) code × (a < w.slots.count)
  unfolding Line
  tested known t a code p (x, q, e, g, f, h) = by (is_wide w.whole x.type) h
    where
      by : (wide : Bool) → TestedBy wide w q a code → Fits (names_at w r b n) code × (a < w.slots.count)
      by true (same, is) =
          let l : a < w.slots.count = subst (λ m. m < w.slots.count) (sym same) (role w s First) in
          let m = p t x q e g in
          (line (names_at w r b n) (instr.Or a q (q + 1) ∷ []) code is ((l, at_0 q w.slots.count m, at_1 q w.slots.count m), tt), l)
      by false (same, is) =
          (line (names_at w r b n) [] code is tt, subst (λ m. m < w.slots.count) (sym same) (at_0 q w.slots.count (p t x q e g)))

  -- Operators

  reckons : (f : ℕ → ℕ → ℕ → Instr) (into x y : Temp) (t : TypeId) (known after : Knowledge) (code : List Instr)
      → ((v x y : ℕ) → v < w.slots.count → x < w.slots.count → y < w.slots.count → IsInstrInRange (names_at w r b n) (f v x y)) → Placed w known → Reckons f w into x y t known after code → Fits (names_at w r b n) code × Placed w after
  unfolding Line Then
  reckons f into x y t known after code o p (i, u, v, form, plain, lx, ly, t', (first, rest, e1, nr, e), l) =
      let c = room w s into 1 t' in
      let v0 = at_0 (column w into) w.slots.count c in (
        in_turn (names_at w r b n) first rest code e
            (line (names_at w r b n) (f (column w into) u v ∷ []) first e1 (o (column w into) u v v0 (at_0 u w.slots.count (lowly w known x i u p lx)) (at_0 v w.slots.count (lowly w known y i v p ly)), tt))
            (narrows (names_at w r b n) i (column w into) form rest v0 nr),
        left_at w known into (an_integer (column w into) form i) after (column w into) p refl c l,
      )

  divided : (sign : Bool) (x y : ℕ) (least minus : Fixed) → x < w.slots.count → y < w.slots.count → OperandsFit (names_at w r b n) (if sign then DivideSigned x y least minus else DivideUnsigned x y)
  divided true x y least minus l m = (l, m)
  divided false x y least minus l m = (l, m)

  either : (f g : ℕ → ℕ → ℕ → Instr) (sign : Bool) (v x y : ℕ) → IsInstrInRange (names_at w r b n) (f v x y) → IsInstrInRange (names_at w r b n) (g v x y) → IsInstrInRange (names_at w r b n) ((if sign then f else g) v x y)
  either f g true v x y h k = h
  either f g false v x y h k = k

  divides : (f g : ℕ → ℕ → ℕ → Instr) (into x y : Temp) (t : TypeId) (at : Place) (known after : Knowledge) (code : List Instr)
      → ((v x y : ℕ) → v < w.slots.count → x < w.slots.count → y < w.slots.count → IsInstrInRange (names_at w r b n) (f v x y)) → ((v x y : ℕ) → v < w.slots.count → x < w.slots.count → y < w.slots.count → IsInstrInRange (names_at w r b n) (g v x y)) → Placed w known
      → Divides f g w into x y t at known after code → Fits (names_at w r b n) code × Placed w after
  unfolding Line Then
  divides f g into x y t at known after code o q p (i, u, v, seat, plain, lx, ly, t', (first, rest, gu, e1, e), l) =
      let c = room w s into 1 t' in
      let v0 = at_0 (column w into) w.slots.count c in
      let x0 = at_0 u w.slots.count (exact w known x i u p lx) in
      let y0 = at_0 v w.slots.count (exact w known y i v p ly) in (
        in_turn (names_at w r b n) first rest code e
            (guarded w s r b n deep (divide_by seat i u v) Safe at first (divided i.signed u v _ _ x0 y0) gu)
            (line (names_at w r b n) ((if i.signed then f else g) (column w into) u v ∷ []) rest e1 (either f g i.signed (column w into) u v (o (column w into) u v v0 x0 y0) (q (column w into) u v v0 x0 y0), tt)),
        left_at w known into (an_integer (column w into) Exact i) after (column w into) p refl c l,
      )

  masks : (seat : Seat) (i : IntegerType) (q : ℕ) (code : List Instr) → q < w.slots.count → Masks w seat i q code → Fits (names_at w r b n) code
  unfolding Line Then
  masks seat i q code l (x, y, g, e1, e) =
      let m = number w s r b n Mask (bits_of i - 1) (seat Mask) x g in
      in_turn (names_at w r b n) x y code e m.0 (line (names_at w r b n) (instr.And (slot_of w.slots First) q (seat Mask) ∷ []) y e1 ((role w s First, l, m.1), tt))

  shifts_left : (into x y : Temp) (t : TypeId) (known after : Knowledge) (code : List Instr) → Placed w known → ShiftsLeft w into x y t known after code → Fits (names_at w r b n) code × Placed w after
  unfolding Line Then
  shifts_left into x y t known after code p (i, j, u, v, seat, form, plain, lx, ly, t', (first, rest, m, (second, third, e1, nr, e2), e), l) =
      let c = room w s into 1 t' in
      let v0 = at_0 (column w into) w.slots.count c in
      let x0 = at_0 u w.slots.count (lowly w known x i u p lx) in
      let y0 = at_0 v w.slots.count (exact w known y j v p ly) in (
        in_turn (names_at w r b n) first rest code e (masks seat i v first y0 m)
            (in_turn (names_at w r b n) second third rest e2 (line (names_at w r b n) (instr.Shl (column w into) u (slot_of w.slots First) ∷ []) second e1 ((v0, x0, role w s First), tt))
            (narrows (names_at w r b n) i (column w into) form third v0 nr)),
        left_at w known into (an_integer (column w into) form i) after (column w into) p refl c l,
      )

  shifts_right : (into x y : Temp) (t : TypeId) (known after : Knowledge) (code : List Instr) → Placed w known → ShiftsRight w into x y t known after code → Fits (names_at w r b n) code × Placed w after
  unfolding Line Then
  shifts_right into x y t known after code p (i, j, u, v, seat, plain, lx, ly, t', (first, rest, m, e1, e), l) =
      let c = room w s into 1 t' in
      let v0 = at_0 (column w into) w.slots.count c in
      let x0 = at_0 u w.slots.count (exact w known x i u p lx) in
      let y0 = at_0 v w.slots.count (exact w known y j v p ly) in (
        in_turn (names_at w r b n) first rest code e (masks seat i v first y0 m)
            (line (names_at w r b n) ((if i.signed then instr.Sar else instr.Shr) (column w into) u (slot_of w.slots First) ∷ []) rest e1
            (either instr.Sar instr.Shr i.signed (column w into) u (slot_of w.slots First) (v0, x0, role w s First) (v0, x0, role w s First), tt)),
        left_at w known into (an_integer (column w into) Exact i) after (column w into) p refl c l,
      )

  less_in : (sign : Bool) (v x y : ℕ) → v < w.slots.count → x < w.slots.count → y < w.slots.count → IsInstrInRange (names_at w r b n) (less sign v x y)
  less_in true v x y l m o = (l, m, o)
  less_in false v x y l m o = (l, m, o)

  pub compared : (which : Comparison) (sign : Bool) (none v x y : ℕ) → none < w.slots.count → v < w.slots.count → x < w.slots.count → y < w.slots.count → Fits (names_at w r b n) (comparison_lines which sign none v x y)
  compared comparison.Equal sign none v x y z l m o = ((l, m, o), tt)
  compared comparison.Different sign none v x y z l m o = ((l, m, o), tt)
  compared comparison.Less sign none v x y z l m o = (less_in sign v x y l m o, tt)
  compared comparison.LessOrEqual sign none v x y z l m o = (less_in sign v y x l o m, ((l, l, z), tt))
  compared comparison.Greater sign none v x y z l m o = (less_in sign v y x l o m, tt)
  compared comparison.GreaterOrEqual sign none v x y z l m o = (less_in sign v x y l m o, ((l, l, z), tt))

  compares : (which : Comparison) (into x y : Temp) (t : TypeId) (known after : Knowledge) (code : List Instr) → Placed w known → Compares which w into x y t known after code → Fits (names_at w r b n) code × Placed w after
  unfolding Line
  compares which into x y t known after code p (i, u, v, plain, lx, ly, t', e, l) =
      let c = room w s into 1 t' in (
        line (names_at w r b n) (comparison_lines which i.signed w.slots.nought (column w into) u v) code e
            (compared which i.signed w.slots.nought (column w into) u v (nought w s) (at_0 (column w into) w.slots.count c) (at_0 u w.slots.count (exact w known x i u p lx)) (at_0 v w.slots.count (exact w known y i v p ly))),
        left_at w known into (an_integer (column w into) Exact int) after (column w into) p refl c l,
      )

  binary : (which : Operator) (into x y : Temp) (t : TypeId) (at : Place) (known after : Knowledge) (code : List Instr) → Placed w known
      → IsCuringBinary which w into x y t at known after code → Fits (names_at w r b n) code × Placed w after
  binary operator.Add into x y t at known after code p h = reckons instr.Add into x y t known after code (λ u v z l m o. (l, m, o)) p h
  binary operator.Subtract into x y t at known after code p h = reckons instr.Sub into x y t known after code (λ u v z l m o. (l, m, o)) p h
  binary operator.Multiply into x y t at known after code p h = reckons instr.Mul into x y t known after code (λ u v z l m o. (l, m, o)) p h
  binary operator.And into x y t at known after code p h = reckons instr.And into x y t known after code (λ u v z l m o. (l, m, o)) p h
  binary operator.Or into x y t at known after code p h = reckons instr.Or into x y t known after code (λ u v z l m o. (l, m, o)) p h
  binary operator.ExclusiveOr into x y t at known after code p h = reckons instr.Xor into x y t known after code (λ u v z l m o. (l, m, o)) p h
  binary operator.Divide into x y t at known after code p h =
      divides instr.Divs instr.Divu into x y t at known after code (λ u v z l m o. (l, m, o)) (λ u v z l m o. (l, m, o)) p h
  binary operator.Remainder into x y t at known after code p h =
      divides instr.Rems instr.Remu into x y t at known after code (λ u v z l m o. (l, m, o)) (λ u v z l m o. (l, m, o)) p h
  binary operator.ShiftLeft into x y t at known after code p h = shifts_left into x y t known after code p h
  binary operator.ShiftRight into x y t at known after code p h = shifts_right into x y t known after code p h
  binary (operator.Compare which) into x y t at known after code p h = compares which into x y t known after code p h

  tells : (f : ℕ → ℕ → ℕ → Instr) (into x : Temp) (known after : Knowledge) (code : List Instr) → ((v x y : ℕ) → v < w.slots.count → x < w.slots.count → y < w.slots.count → IsInstrInRange (names_at w r b n) (f v x y)) → Placed w known
      → Tells f w into x known after code → Fits (names_at w r b n) code × Placed w after
  unfolding Line Then
  tells f into x known after code o p (u, t', (first, rest, h, e1, e), l) =
      let c = room w s into 1 t' in
      let g = tested known x u first p h in (
        in_turn (names_at w r b n) first rest code e g.0
            (line (names_at w r b n) (f (column w into) u w.slots.nought ∷ []) rest e1 (o (column w into) u w.slots.nought (at_0 (column w into) w.slots.count c) g.1 (nought w s), tt)),
        left_at w known into (an_integer (column w into) Exact int) after (column w into) p refl c l,
      )

  pub calculate_in_range : (i : Calculate) (known after : Knowledge) (code : List Instr) → Placed w known → IsCuringCalculate i w known after code → Fits (names_at w r b n) code × Placed w after
  unfolding Line Then
  calculate_in_range (calculate.Negate into x t) known after code p (i, u, form, plain, lx, t', (first, rest, e1, nr, e), l) =
      let c = room w s into 1 t' in
      let v0 = at_0 (column w into) w.slots.count c in (
        in_turn (names_at w r b n) first rest code e
            (line (names_at w r b n) (instr.Sub (column w into) w.slots.nought u ∷ []) first e1 ((v0, nought w s, at_0 u w.slots.count (lowly w known x i u p lx)), tt))
            (narrows (names_at w r b n) i (column w into) form rest v0 nr),
        left_at w known into (an_integer (column w into) form i) after (column w into) p refl c l,
      )
  calculate_in_range (calculate.Complement into x t) known after code p (i, u, form, seat, plain, lx, t', (first, rest, g, (second, third, e1, nr, e2), e), l) =
      let c = room w s into 1 t' in
      let v0 = at_0 (column w into) w.slots.count c in
      let m = number w s r b n Mask (2 ^ 64 - 1) (seat Mask) first g in (
        in_turn (names_at w r b n) first rest code e m.0
            (in_turn (names_at w r b n) second third rest e2
            (line (names_at w r b n) (instr.Xor (column w into) u (seat Mask) ∷ []) second e1 ((v0, at_0 u w.slots.count (lowly w known x i u p lx), m.1), tt))
            (narrows (names_at w r b n) i (column w into) form third v0 nr)),
        left_at w known into (an_integer (column w into) form i) after (column w into) p refl c l,
      )
  calculate_in_range (calculate.Binary into which x y t at) known after code p h = binary which into x y t at known after code p h
  calculate_in_range (calculate.Truth into x) known after code p h = tells instr.Ne into x known after code (λ u v z l m o. (l, m, o)) p h
  calculate_in_range (calculate.Not into x) known after code p h = tells instr.Eq into x known after code (λ u v z l m o. (l, m, o)) p h

-- The lines of allocations, calls, and the functions of the C library are in range.
use Rattle.std.specs.Prelude.{slice_index, IfSome}
use Rattle.std.proofs.Common.{◌≡◌, ℕ, suc, ◌+◌, ◌<◌, ◌≤◌, Bool, true, false, List, [], ◌∷◌, length, slice_get, Option, None, Some, refl, ap, sym, subst, inl, inr, arith}
use Rattle.cc_base.specs.declared.fault.Check.TheVariants as check
use Rattle.cc_base.specs.declared.place.Place.{Place}
use Rattle.cc_base.specs.declared.number.TypeId.{TypeId}
use Rattle.cc_base.specs.declared.kind.Kind.{Kind}
use Rattle.cc_base.specs.declared.kind.Kind.TheVariants.{Safe, Seq, Rtti, Wild}
use Rattle.c_types.specs.Table.{shape_at, is_function_shape}
use Rattle.c_types.specs.Cells.{holds_pointer}
use Rattle.integers.specs.Arithmetic.{int, unsigned_long}
use Rattle.cil_form.specs.declared.number.Temp.{Temp}
use Rattle.cil_form.specs.declared.number.Temp.TheVariants as temp
use Rattle.cil_form.specs.declared.instr.Allocate.{Allocate}
use Rattle.cil_form.specs.declared.instr.Allocate.TheVariants as allocate
use Rattle.cil_form.specs.declared.instr.Call.{Call}
use Rattle.cil_form.specs.declared.instr.RuntimeCall.{RuntimeCall}
use Rattle.cil_form.specs.declared.instr.RuntimeCall.TheVariants as runtime
use Rattle.cil_form.specs.Typing.{HeldType}
use Rattle.cured_code.specs.declared.instr.Instr.{Instr}
use Rattle.cured_code.specs.declared.instr.Instr.TheVariants as instr
use Rattle.cured_code.specs.declared.instr.Narrow.TheVariants.{U8}
use Rattle.cured_code.specs.declared.parts.Sig.{Sig}
use Rattle.cured_code.specs.Ranges.{CanPass}
use Rattle.check_forms.specs.declared.op.Op.TheVariants as op
use Rattle.check_forms.specs.Pieces.{Line, Then, Choice}
use Rattle.check_forms.specs.Conditions.{HasRoom}
use Rattle.check_forms.specs.Rows.{asked}
use Rattle.sim_relation.specs.Ground.{word_number, function_word}
use Rattle.sim_relation.specs.Points.{Exact, Sure, Knowledge}
use Rattle.cure_rules.specs.Slots.{AreSlots, First, Size, Offset, Word, Amount, Bytes, Charge, Made, slot_of, work_of}
use Rattle.cure_rules.specs.Known.{World, kind_of, cured_size, source_size, column, words_in, held_by, known_at, Leaves, an_integer, a_pointer, pointer_slots, copies}
use Rattle.cure_rules.specs.Checks.{Seat, number_at, call_of}
use Rattle.cure_rules.specs.Pointing.{noded_lines}
use Rattle.cure_rules.specs.Calling.{has_elements, is_tagged_kind, BlockBy, BlockWords, GivesBlock, IsCuringAllocate, AreArguments, CallsAny, CallsKnown, IsCuringCall, IsCuringRuntime}
use Rattle.cure_ranges.proofs.Fitting.{Fits, Around, names_at, Placed, CanPassIn}
use Rattle.cure_ranges.proofs.Tests.{line, in_turn, choice, checks}
use Rattle.cure_ranges.proofs.Guards.{words_few, at_0, at_1, at_2, pointer, copied, left_at, left_none, points, exact, lowly, role, room, work, number, guarded}
use Rattle.cure_ranges.proofs.Pointing.{noded}
use Rattle.cure_ranges.proofs.Accesses.{nests}

module _ (w : World) (s : AreSlots w.slots) (r : Around) where
  -- a new block
  by_elements : (b n : ℕ) (elements : Bool) (seat : Seat) (k : Kind) (t : TypeId) (a d : ℕ) (code : List Instr) → a < w.slots.count → BlockBy elements w seat k t a d code → Fits (names_at w r b n) code × (d < w.slots.count)
  unfolding Line Then
  by_elements b n false seat k t a d code l (same, e) =
      (line (names_at w r b n) (instr.New (is_tagged_kind k) (slot_of w.slots Made) a a ∷ []) code e ((role w s Made, l, l), tt), subst (λ m. m < w.slots.count) (sym same) l)
  by_elements b n true seat k t a d code l (same, (x, y, g, (z, u, g2, e1, e2), e)) =
      let size = number w s r b n Size (source_size w.whole t) (seat Size) x g in
      let cured = number w s r b n Offset (cured_size w.whole t) (seat Offset) z g2 in
      let charge = role w s Charge in let bytes = role w s Bytes in (
        in_turn (names_at w r b n) x y code e size.0
            (in_turn (names_at w r b n) z u y e2 cured.0
            (line (names_at w r b n)
            (instr.Divu (slot_of w.slots Charge) a (seat Size) ∷ instr.Mul (slot_of w.slots Bytes) (slot_of w.slots Charge) (seat Offset)
            ∷ instr.Mul (slot_of w.slots Charge) (slot_of w.slots Charge) (seat Size)
            ∷ instr.New (is_tagged_kind k) (slot_of w.slots Made) (slot_of w.slots Bytes) (slot_of w.slots Charge) ∷ []) u e1
            ((charge, l, size.1), ((bytes, charge, cured.1), ((charge, charge, size.1), ((role w s Made, bytes, charge), tt)))))),
        subst (λ m. m < w.slots.count) (sym same) bytes,
      )

  module _ (b n : ℕ) (deep : n + 4 ≤ 1024) where
    block_words : (k : Kind) (t : TypeId) (v d : ℕ) (code : List Instr) → v + 3 ≤ w.slots.count → d < w.slots.count → BlockWords k w t v d code → Fits (names_at w r b n) code
    unfolding Line Then Choice
    block_words Safe t v d code l m e = line (names_at w r b n) (instr.Copy v (slot_of w.slots Made) ∷ []) code e ((at_0 v w.slots.count l, role w s Made), tt)
    block_words Rtti t v d code l m e = line (names_at w r b n) (noded_lines w v (slot_of w.slots Made) t) code e (noded w s r b n deep v (slot_of w.slots Made) t l (role w s Made))
    block_words Wild t v d code l m e =
        line (names_at w r b n) (instr.Copy v (slot_of w.slots Made) ∷ instr.Copy (v + 1) (slot_of w.slots Made) ∷ []) code e
        ((at_0 v w.slots.count l, role w s Made), ((at_1 v w.slots.count l, role w s Made), tt))
    block_words Seq t v d code l m (x, y, (p, q, h, k, e2), e1, e) =
        in_turn (names_at w r b n) x y code e
        (choice (names_at w r b n) (slot_of w.slots Made) p q x e2 (role w s Made) (nests n deep)
        (line (names_at w r b (n + 1)) (instr.Add (v + 2) (slot_of w.slots Made) d ∷ []) p.0.items h ((at_2 v w.slots.count l, role w s Made, m), tt))
        (line (names_at w r b (n + 1)) (instr.Const (v + 2) 0 ∷ []) q.0.items k (at_2 v w.slots.count l, tt)))
        (line (names_at w r b n) (instr.Copy v (slot_of w.slots Made) ∷ instr.Copy (v + 1) (slot_of w.slots Made) ∷ []) y e1
        ((at_0 v w.slots.count l, role w s Made), ((at_1 v w.slots.count l, role w s Made), tt)))

    gives : (seat : Seat) (k : Kind) (t : TypeId) (v d : ℕ) (at : Place) (code : List Instr) → v + 3 ≤ w.slots.count → d < w.slots.count → GivesBlock w seat k t v d at code → Fits (names_at w r b n) code
    unfolding Then
    gives seat k t v d at code l m (x, y, g, h, e) =
        in_turn (names_at w r b n) x y code e
        (guarded w s r b n deep (op.Allocate (slot_of w.slots Made) d (number_at seat Size (cured_size w.whole t))) k at x (role w s Made, m) g) (block_words k t v d y l m h)

    pub allocate_in_range : (i : Allocate) (known after : Knowledge) (code : List Instr) → Placed w known → IsCuringAllocate i w known after code → Fits (names_at w r b n) code × Placed w after
    unfolding Line Then Choice
    allocate_in_range (allocate.Malloc into m node t at) known after code p (a, d, seat, given, ex, t', (x, y, mk, gv, e), l) =
        let c = room w s into (word_number (kind_of w node)) t' in
        let made = by_elements b n (has_elements (kind_of w node) (holds_pointer w.whole.table t)) seat (kind_of w node) t a d x (at_0 a w.slots.count (exact w known m unsigned_long a p ex)) mk in (
          in_turn (names_at w r b n) x y code e made.0 (gives given (kind_of w node) t (column w into) d at y c made.1 gv),
          left_at w known into (a_pointer (column w into) node t []) after (column w into) p refl c l,
        )
    allocate_in_range (allocate.Calloc into i m node t at) known after code k
        (p, q, d, seat, given, ex, ex2, t', (x, y, e1, (z, u, (c1, c2, h1, h2, e3), (v, o, (c3, c4, h3, h4, e5), gv, e4), e2), e), l) =
        let c = room w s into (word_number (kind_of w node)) t' in
        let lp = at_0 p w.slots.count (exact w known i unsigned_long p k ex) in
        let lq = at_0 q w.slots.count (exact w known m unsigned_long q k ex2) in
        let first = role w s First in
        let made = by_elements b (n + 1) (has_elements (kind_of w node) (holds_pointer w.whole.table t)) seat (kind_of w node) t (slot_of w.slots Amount) d c4.0.items (role w s Amount) h4 in (
          in_turn (names_at w r b n) x y code e (line (names_at w r b n) (instr.Mul (slot_of w.slots Amount) p q ∷ []) x e1 ((role w s Amount, lp, lq), tt))
              (in_turn (names_at w r b n) z u y e2
              (choice (names_at w r b n) p c1 c2 z e3 lp (nests n deep)
              (line (names_at w r b (n + 1)) (instr.Divu (slot_of w.slots First) (slot_of w.slots Amount) p ∷ instr.Ne (slot_of w.slots First) (slot_of w.slots First) q ∷ []) c1.0.items h1
              ((first, role w s Amount, lp), ((first, first, lq), tt)))
              (line (names_at w r b (n + 1)) (instr.Const (slot_of w.slots First) 0 ∷ []) c2.0.items h2 (first, tt)))
              (in_turn (names_at w r b n) v o u e4
              (choice (names_at w r b n) (slot_of w.slots First) c3 c4 v e5 first (nests n deep)
              (line (names_at w r b (n + 1)) (instr.Const (slot_of w.slots Made) 0 ∷ []) c3.0.items h3 (role w s Made, tt)) made.0)
              (gives given (kind_of w node) t (column w into) d at o c made.1 gv))),
          left_at w known into (a_pointer (column w into) node t []) after (column w into) k refl c l,
        )

    pub runtime_in_range : (i : RuntimeCall) (known after : Knowledge) (code : List Instr) → Placed w known → IsCuringRuntime i w known after code → Fits (names_at w r b n) code × Placed w after
    unfolding Line
    runtime_in_range (runtime.Free into q) known after code p (e, l) = (line (names_at w r b n) [] code e tt, left_none w known into after p l)
    runtime_in_range (runtime.Getchar into) known after code p (t', e, l) =
        let c = room w s into 1 t' in
        (line (names_at w r b n) (instr.Get (column w into) ∷ []) code e (at_0 (column w into) w.slots.count c, tt), left_at w known into (an_integer (column w into) Exact int) after (column w into) p refl c l)
    runtime_in_range (runtime.Putchar into v) known after code p (a, low, t', e, l) =
        let c = room w s into 1 t' in
        let la = at_0 a w.slots.count (lowly w known v int a p low) in (
          line (names_at w r b n) (instr.Put a ∷ instr.Ext (column w into) a U8 ∷ []) code e (la, ((at_0 (column w into) w.slots.count c, la), tt)),
          left_at w known into (an_integer (column w into) Exact int) after (column w into) p refl c l,
        )
    runtime_in_range (runtime.Exit into v) known after code p (a, low, e, l) =
        (line (names_at w r b n) (instr.Exit a ∷ []) code e (at_0 a w.slots.count (lowly w known v int a p low), tt), left_none w known into after p l)

    module _ (can : CanPassIn w r) where
      pub passes : (g a v : ℕ) → g < length r.sigs → a + 381 ≤ w.slots.count → v + 3 ≤ w.slots.count → CanPass (names_at w r b n) g a v
      passes g a v l m o = record { there = l; params_held = params (slice_get r.sigs g) refl; results_held = results (slice_get r.sigs g) refl }
        where
          params : (x : Option Sig) → slice_get r.sigs g ≡ x → IfSome x (λ y. a + y.params ≤ w.slots.count)
          params None e = tt
          params (Some x) e = let k = (can.sigs g x e).0 in omega (arith, k, m)

          results : (x : Option Sig) → slice_get r.sigs g ≡ x → IfSome x (λ y. v + y.results ≤ w.slots.count)
          results None e = tt
          results (Some x) e = let k = (can.sigs g x e).1 in omega (arith, k, o)

      arguments : (known : Knowledge) (i : ℕ) (ts : List TypeId) (j : ℕ) (code : List Instr) → Placed w known → AreArguments w known i ts j code → Fits (names_at w r b n) code
      unfolding Line Then
      arguments known i [] j code p e = line (names_at w r b n) [] code e tt
      arguments known i (t ∷ ts) j code p (x, a, e1, pl, held, fit, (y, z, e2, rest, e)) =
          let words = words_in w.whole t in
          let few = words_few w.whole.kind (shape_at w.whole.table t) in
          let la = p (temp.Value i) x a e1 pl in
          let width = can.width in
          let row = can.row in
          in_turn (names_at w r b n) y z code e
          (line (names_at w r b n) (copies (words_in w.whole t) (w.slots.row + j) a) y e2
          (copied (names_at w r b n) (words_in w.whole t) (w.slots.row + j) a (omega (arith, fit, width, row)) (omega (arith, few, la))))
          (arguments known (suc i) ts (j + words_in w.whole t) z p rest)

      calls_any : (known : Knowledge) (call : Call) (k : Kind) (u : TypeId) (ts : List TypeId) (a : ℕ) (code : List Instr) → Placed w known → a + 3 ≤ w.slots.count → column w call.into + 3 ≤ w.slots.count
          → w.whole.signature u < length r.sigs → CallsAny w known call k u ts a code → Fits (names_at w r b n) code
      unfolding Line Then
      calls_any known call k u ts a code p la lv there (seat, (x, y, g, (z, v, ar, e1, e2), e)) =
          in_turn (names_at w r b n) x y code e (guarded w s r b n deep (call_of w seat u (pointer_slots a)) k call.place x (pointer a w.slots.count la) g)
          (in_turn (names_at w r b n) z v y e2 (arguments known call.first ts 0 z p ar)
          (line (names_at w r b n) (instr.Icall (w.whole.signature u) a w.slots.row (column w call.into) ∷ []) v e1
          ((at_0 a w.slots.count la, passes (w.whole.signature u) w.slots.row (column w call.into) there can.row lv), tt)))

      calls_known : (known : Knowledge) (call : Call) (k : Kind) (sure : List Sure) (ts : List TypeId) (code : List Instr) → Placed w known → column w call.into + 3 ≤ w.slots.count
          → CallsKnown w known call k sure ts code → Fits (names_at w r b n) code
      unfolding Line Then
      calls_known known call k sure ts code p lv (f, seat, typed, among, there, (x, y, g, (z, v, ck, (t, u, ar, e1, e3), e2), e)) =
          let word = number w s r b n Word (function_word f) (seat Word) x g in
          let known_function = can.functions f there in
          in_turn (names_at w r b n) x y code e word.0
          (in_turn (names_at w r b n) z v y e2 (checks (names_at w r b n) (work_of w.slots) (asked check.Depth call.place (HasRoom (seat Word)) ∷ []) z (work w s) deep (word.1, omega arith, tt) ck)
          (in_turn (names_at w r b n) t u v e3 (arguments known call.first ts 0 t p ar)
          (line (names_at w r b n) (instr.Call (suc f) w.slots.row (column w call.into) ∷ []) u e1
          ((known_function.0, passes (slice_index r.functions (suc f)) w.slots.row (column w call.into) known_function.1 can.row lv), tt))))

      given : (known : Knowledge) (into : Temp) (o : Option HeldType) (a : ℕ) (after : Knowledge) → Placed w known → a + 3 ≤ w.slots.count → Leaves known into (known_at a o) after → Placed w after
      given known into None a after p l h = left_none w known into after p h
      given known into (Some x) a after p l h = left_at w known into (record { type = x; place = Some a; form = Exact; sure = [] }) after a p refl l h

      pub call_in_range : (call : Call) (known after : Knowledge) (code : List Instr) → Placed w known → IsCuringCall call w known after code → Fits (names_at w r b n) code × Placed w after
      call_in_range call known after code p (m, u, ts, result, a, sure, is, shape, count, number', pts, t', inl h, l) =
          let lv = room w s call.into (words_in w.whole result) t' in (
            calls_any known call (kind_of w m) u ts a code p (points w known call.callee m u a sure p pts) lv (can.types u (ap is_function_shape shape)) h,
            given known call.into (held_by w result) (column w call.into) after p lv l,
          )
      call_in_range call known after code p (m, u, ts, result, a, sure, is, shape, count, number', pts, t', inr h, l) =
          let lv = room w s call.into (words_in w.whole result) t' in
          (calls_known known call (kind_of w m) sure ts code p lv h, given known call.into (held_by w result) (column w call.into) after p lv l)

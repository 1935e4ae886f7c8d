-- The lines of pointer arithmetic, comparisons of pointers, addresses of parts, and conversions are in range.
use Rattle.std.specs.Prelude.{◌||◌, nat_eq, if◌then◌else◌}
use Rattle.std.proofs.Common.{◌≡◌, ℕ, ◌+◌, ◌<◌, ◌≤◌, Bool, true, false, List, [], ◌∷◌, ◌++◌, Some, refl, inl, inr, ◌⊎◌, arith}
use Rattle.cc_base.specs.declared.place.Place.{Place}
use Rattle.cc_base.specs.declared.number.TypeId.{TypeId}
use Rattle.cc_base.specs.declared.kind.Kind.{Kind}
use Rattle.cc_base.specs.declared.kind.Kind.TheVariants.{Safe, Seq, Rtti, Wild}
use Rattle.c_types.specs.declared.flow_class.FlowClass.{FlowClass}
use Rattle.c_types.specs.declared.flow_class.FlowClass.TheVariants.{Equal, UpTile, Up, DownTile, Down, Tile, Bad}
use Rattle.c_types.specs.Layouts.{offset_of}
use Rattle.c_types.specs.Flows.{flow_class}
use Rattle.integers.specs.Arithmetic.{int, long}
use Rattle.cil_form.specs.declared.instr.Comparison.{Comparison}
use Rattle.cil_form.specs.declared.instr.Comparison.TheVariants as comparison
use Rattle.cil_form.specs.declared.instr.Point.{Point}
use Rattle.cil_form.specs.declared.instr.Point.TheVariants as point
use Rattle.cil_form.specs.declared.instr.Convert.{Convert}
use Rattle.cil_form.specs.declared.instr.Convert.TheVariants as convert
use Rattle.cured_code.specs.declared.instr.Instr.{Instr}
use Rattle.cured_code.specs.declared.instr.Instr.TheVariants as instr
use Rattle.cured_code.specs.Ranges.{IsInstrInRange}
use Rattle.check_forms.specs.Pieces.{Line, Then}
use Rattle.check_forms.specs.declared.slots.PointerSlots.{PointerSlots}
use Rattle.check_forms.specs.declared.slots.Fixed.{Fixed}
use Rattle.check_forms.specs.declared.slots.Distance.TheVariants.{Bytes, Elements}
use Rattle.check_forms.specs.declared.op.Op.TheVariants as op
use Rattle.check_forms.specs.Rows.{home_slot}
use Rattle.sim_relation.specs.Ground.{word_number}
use Rattle.cc_base.specs.declared.number.NodeId.{NodeId}
use Rattle.cil_form.specs.declared.number.Temp.{Temp}
use Rattle.sim_relation.specs.Points.{Exact, Knowledge, Sure}
use Rattle.cure_rules.specs.Slots.{AreSlots, First, Second, Moved, Size, Offset, Word, slot_of}
use Rattle.cure_rules.specs.Known.{World, IsAddress, IsArrayAt, kind_of, cured_size, reach_of, column, an_integer, a_pointer, a_place, pointer_slots, copies, narrow_of, narrowed_lines}
use Rattle.cure_rules.specs.Checks.{Seat, need, size_needed, base_needs, number_at, wild_numbers, move_by, address_of_part}
use Rattle.cure_rules.specs.Setting.{is_wide_kind}
use Rattle.cure_rules.specs.Pointing.{moved_words, order_by, quotient_lines, equal_lines, sameness_lines, comparing, compared_lines, null_operation, PartWords, cured_offset, Decays, IsCuringPoint, shrink_by, lower_by, conversion_by, made_type, noded_lines, ConvertedWords, NumberWords, IsCuringConvert}
use Rattle.cure_ranges.proofs.Fitting.{Fits, PointerFits, NeedsFit, MovedBy, ConversionFits, OperandsFit, Around, names_at, Placed, NamesNode}
use Rattle.cure_ranges.proofs.Tests.{appended, line, in_turn}
use Rattle.cure_ranges.proofs.Rows.{home, back}
use Rattle.cure_ranges.proofs.Guards.{at_0, at_1, at_2, pointer, copied, narrowed, left_at, points, addressed, exact, role, nought, room, number, guarded, guarded_with}
use Rattle.cure_ranges.proofs.Setting.{tested, compared}

-- an array that decays has an address
array-address : (check : Bool) (known : Knowledge) (t : Temp) (n : NodeId) (u : TypeId) (a : ℕ) (sure : List Sure) → IsArrayAt check known t n u a sure
    → IsAddress known t n u a sure
array-address true known t n u a sure h = h
array-address false known t n u a sure (x, fact, is, place, listed) = (x, fact, inr is, place, listed)

module _ (w : World) (s : AreSlots w.slots) (r : Around) (b n : ℕ) (deep : n + 4 ≤ 1024) where
  moved : (k : Kind) (v a to : ℕ) → v + 3 ≤ w.slots.count → a + 3 ≤ w.slots.count → to < w.slots.count → Fits (names_at w r b n) (moved_words k v a to)
  moved Safe v a to l m o = ((at_0 v w.slots.count l, o), tt)
  moved Rtti v a to l m o = ((at_0 v w.slots.count l, o), tt)
  moved Seq v a to l m o = ((at_0 v w.slots.count l, o), copied (names_at w r b n) 2 (v + 1) (a + 1) (omega (arith, l)) (omega (arith, m)))
  moved Wild v a to l m o = ((at_0 v w.slots.count l, o), copied (names_at w r b n) 1 (v + 1) (a + 1) (omega (arith, l)) (omega (arith, m)))

  distance : (seat : Seat) (a size : ℕ) (b' : Bool) → a < w.slots.count → MovedBy w.slots.count (if b' then Bytes a else Elements a (number_at seat Size size))
  distance seat a size true l = l
  distance seat a size false l = l

  quotient : (v : ℕ) (size : Fixed) → v < w.slots.count → NeedsFit w.slots.count (size_needed size) → Fits (names_at w r b n) (quotient_lines v size)
  quotient v size l h = by (nat_eq size.value 1) h
    where
      by : (b' : Bool) → NeedsFit w.slots.count (if b' then [] else need Size size ∷ []) → Fits (names_at w r b n) (if b' then [] else instr.Divs v v size.slot ∷ [])
      by true m = tt
      by false m = ((l, l, m.0), tt)

  -- Comparisons

  equal : (wide : Bool) (v : ℕ) (p : PointerSlots) (h : ℕ) (q : PointerSlots) (g : ℕ) → v < w.slots.count → PointerFits w.slots.count p → h < w.slots.count → PointerFits w.slots.count q → g < w.slots.count → Fits (names_at w r b n) (equal_lines w wide v p h q g)
  equal false v p h q g l fp lh fq lg = ((l, fp.first, fq.first), tt)
  equal true v p h q g l fp lh fq lg =
      let x = role w s First in let y = role w s Second in let z = nought w s in
      ((x, lh, z), ((y, lg, z), ((x, x, y), ((y, fp.first, fq.first), ((l, x, y), tt)))))

  same : (k l : Kind) (v : ℕ) (p q : PointerSlots) → v < w.slots.count → PointerFits w.slots.count p → PointerFits w.slots.count q → Fits (names_at w r b n) (sameness_lines w k l v p q)
  same k l v p q m fp fq = equal (is_wide_kind k || is_wide_kind l) v p (home_slot k p) q (home_slot l q) m fp (home w.slots.count k p fp) fq (home w.slots.count l q fq)

  operands : (which : Comparison) (seat : Seat) (k l : Kind) (p q : PointerSlots) → PointerFits w.slots.count p → PointerFits w.slots.count q → OperandsFit (names_at w r b n) (comparing which w seat k p l q)
  operands comparison.Equal seat k l p q fp fq = (fp, fq)
  operands comparison.Different seat k l p q fp fq = (fp, fq)
  operands comparison.Less seat k l p q fp fq = (fp, fq)
  operands comparison.LessOrEqual seat k l p q fp fq = (fp, fq)
  operands comparison.Greater seat k l p q fp fq = (fp, fq)
  operands comparison.GreaterOrEqual seat k l p q fp fq = (fp, fq)

  compares : (which : Comparison) (k l : Kind) (v : ℕ) (p q : PointerSlots) → v < w.slots.count → PointerFits w.slots.count p → PointerFits w.slots.count q → Fits (names_at w r b n) (compared_lines which w k l v p q)
  compares comparison.Equal k l v p q m fp fq = same k l v p q m fp fq
  compares comparison.Different k l v p q m fp fq = appended (names_at w r b n) (sameness_lines w k l v p q) (instr.Eq v v w.slots.nought ∷ []) (same k l v p q m fp fq) ((m, m, nought w s), tt)
  compares comparison.Less k l v p q m fp fq = compared w s r b n deep comparison.Less true w.slots.nought v p.first q.first (nought w s) m fp.first fq.first
  compares comparison.LessOrEqual k l v p q m fp fq = compared w s r b n deep comparison.LessOrEqual true w.slots.nought v p.first q.first (nought w s) m fp.first fq.first
  compares comparison.Greater k l v p q m fp fq = compared w s r b n deep comparison.Greater true w.slots.nought v p.first q.first (nought w s) m fp.first fq.first
  compares comparison.GreaterOrEqual k l v p q m fp fq = compared w s r b n deep comparison.GreaterOrEqual true w.slots.nought v p.first q.first (nought w s) m fp.first fq.first

  nulls : (different : Bool) (v a z : ℕ) → v < w.slots.count → a < w.slots.count → z < w.slots.count → IsInstrInRange (names_at w r b n) (null_operation different v a z)
  nulls true v a z l m o = (l, m, o)
  nulls false v a z l m o = (l, m, o)

  -- Addresses of parts

  parts : (k : Kind) (seat : Seat) (size : ℕ) (t : TypeId) (v a o d : ℕ) (code : List Instr) → v + 3 ≤ w.slots.count → a < w.slots.count → o < w.slots.count → d < w.slots.count → PartWords k w seat size t v a o d code → Fits (names_at w r b n) code
  unfolding Line Then
  parts Safe seat size t v a o d code l la lo ld e = line (names_at w r b n) (instr.Add v a o ∷ []) code e ((at_0 v w.slots.count l, la, lo), tt)
  parts Rtti seat size t v a o d code l la lo ld e =
      line (names_at w r b n) (instr.Add v a o ∷ instr.Const (v + 1) (w.whole.node t) ∷ []) code e ((at_0 v w.slots.count l, la, lo), (at_1 v w.slots.count l, tt))
  parts Seq seat size t v a o d code l la lo ld (x, y, g, f, e) =
      let m = number w s r b n Size size (seat Size) x g in
      in_turn (names_at w r b n) x y code e m.0
      (line (names_at w r b n) (instr.Add v a o ∷ instr.Copy (v + 1) v ∷ instr.Add (v + 2) v (seat Size) ∷ []) y f
      ((at_0 v w.slots.count l, la, lo), ((at_1 v w.slots.count l, at_0 v w.slots.count l), ((at_2 v w.slots.count l, at_0 v w.slots.count l, m.1), tt))))
  parts Wild seat size t v a o d code l la lo ld e =
      line (names_at w r b n) (instr.Add v a o ∷ instr.Copy (v + 1) d ∷ []) code e ((at_0 v w.slots.count l, la, lo), ((at_1 v w.slots.count l, ld), tt))

  decays : (check : Bool) (seat : Seat) (outer inner : Kind) (array element : TypeId) (v a : ℕ) (at : Place) (code : List Instr) → v + 3 ≤ w.slots.count → a + 3 ≤ w.slots.count
      → Decays check w seat outer inner array element v a at code → Fits (names_at w r b n) code
  unfolding Then
  decays true seat outer inner array element v a at code l m (x, y, g, (z, u, h, f, e2), e) =
      let o = number w s r b n Offset 0 (seat Offset) x g in
      in_turn (names_at w r b n) x y code e o.0
      (in_turn (names_at w r b n) z u y e2 (guarded w s r b n deep (address_of_part w seat outer array (pointer_slots a)) outer at z (pointer a w.slots.count m, o.1) h)
      (parts inner seat (cured_size w.whole array) element v a (seat Offset) (a + 1) u l (at_0 a w.slots.count m) o.1 (at_1 a w.slots.count m) f))
  decays false seat outer inner array element v a at code l m h =
      parts inner seat (cured_size w.whole array) element v a w.slots.nought (a + 1) code l (at_0 a w.slots.count m) (nought w s) (at_1 a w.slots.count m) h

  pub point_in_range : (i : Point) (known after : Knowledge) (code : List Instr) → Placed w known → IsCuringPoint i w known after code → Fits (names_at w r b n) code × Placed w after
  unfolding Line Then
  point_in_range (point.Move into p a way t at) known after code k (m, u, q, sure, i, d, seat, is, full, pts, ex, t', (x, y, g, f, e), l) =
      let c = room w s into (word_number (kind_of w m)) t' in
      let lq = points w known p m u q sure k pts in
      let ld = at_0 d w.slots.count (exact w known a i d k ex) in (
        in_turn (names_at w r b n) x y code e
            (guarded w s r b n deep (move_by w seat (kind_of w m) u (pointer_slots q) way i d) (kind_of w m) at x
            (pointer q w.slots.count lq, ld, distance seat d (reach_of w (kind_of w m) u) (nat_eq (reach_of w (kind_of w m) u) 1) ld) g)
            (line (names_at w r b n) (moved_words (kind_of w m) (column w into) q (slot_of w.slots Moved)) y f (moved (kind_of w m) (column w into) q (slot_of w.slots Moved) c lq (role w s Moved))),
        left_at w known into (a_pointer (column w into) m u []) after (column w into) k refl c l,
      )
  point_in_range (point.Difference into x t y t2 at) known after code k (m, o, u, v, p, q, su, sv, seat, is, is2, full, px, py, t', (first, rest, g, f, e), l) =
      let c = room w s into 1 t' in
      let v0 = at_0 (column w into) w.slots.count c in
      let lp = points w known x m u p su k px in
      let lq = points w known y o v q sv k py in
      let size = number_at seat Size (reach_of w (kind_of w m) u) in
      let h = guarded_with w s r b n deep (order_by w seat (kind_of w m) (pointer_slots p) (kind_of w o) (pointer_slots q) (Some (number_at seat Size (reach_of w (kind_of w m) u)))) (kind_of w m) at first
      (pointer p w.slots.count lp, pointer q w.slots.count lq) g in (
        in_turn (names_at w r b n) first rest code e h.0
            (line (names_at w r b n) (instr.Sub (column w into) p q ∷ quotient_lines (column w into) size) rest f (
              (v0, at_0 p w.slots.count lp, at_0 q w.slots.count lq),
              quotient (column w into) size v0
                  (back w.slots.count (base_needs (kind_of w m) (wild_numbers w seat) ++ base_needs (kind_of w o) (wild_numbers w seat)) (size_needed size) h.1),
            )),
        left_at w known into (an_integer (column w into) Exact long) after (column w into) k refl c l,
      )
  point_in_range (point.Compare into which x t y t2 at) known after code k (m, o, u, v, p, q, su, sv, seat, is, is2, px, py, t', (first, rest, g, f, e), l) =
      let c = room w s into 1 t' in
      let lp = pointer p w.slots.count (points w known x m u p su k px) in
      let lq = pointer q w.slots.count (points w known y o v q sv k py) in (
        in_turn (names_at w r b n) first rest code e
            (guarded w s r b n deep (comparing which w seat (kind_of w m) (pointer_slots p) (kind_of w o) (pointer_slots q)) (kind_of w m) at first
            (operands which seat (kind_of w m) (kind_of w o) (pointer_slots p) (pointer_slots q) lp lq) g)
            (line (names_at w r b n) (compared_lines which w (kind_of w m) (kind_of w o) (column w into) (pointer_slots p) (pointer_slots q)) rest f
            (compares which (kind_of w m) (kind_of w o) (column w into) (pointer_slots p) (pointer_slots q) (at_0 (column w into) w.slots.count c) lp lq)),
        left_at w known into (an_integer (column w into) Exact int) after (column w into) k refl c l,
      )
  point_in_range (point.IsNull into p t different) known after code k (m, u, q, sure, a, points, t', (x, y, g, f, e), l) =
      let c = room w s into 1 t' in
      let h = tested w s r b n deep known p a x k g in (
        in_turn (names_at w r b n) x y code e h.0
            (line (names_at w r b n) (null_operation different (column w into) a w.slots.nought ∷ []) y f
            (nulls different (column w into) a w.slots.nought (at_0 (column w into) w.slots.count c) h.1 (nought w s), tt)),
        left_at w known into (an_integer (column w into) Exact int) after (column w into) k refl c l,
      )
  point_in_range (point.Member into from outer t i inner u at) known after code k (a, sure, seat, ad, t', (x, y, g, (z, v, h, f, e2), e), l) =
      let c = room w s into (word_number (kind_of w inner)) t' in
      let la = addressed w known from outer t a sure k ad in
      let o = number w s r b n Offset (cured_offset w (kind_of w outer) t (offset_of w.whole.table t i)) (seat Offset) x g in (
        in_turn (names_at w r b n) x y code e o.0
            (in_turn (names_at w r b n) z v y e2 (guarded w s r b n deep (address_of_part w seat (kind_of w outer) t (pointer_slots a)) (kind_of w outer) at z (pointer a w.slots.count la, o.1) h)
            (parts (kind_of w inner) seat (cured_size w.whole u) u (column w into) a (seat Offset) (a + 1) v c (at_0 a w.slots.count la) o.1 (at_1 a w.slots.count la) f)),
        left_at w known into (a_place (column w into) inner u []) after (column w into) k refl c l,
      )
  point_in_range (point.Decay into from outer array check inner element at) known after code k (a, sure, seat, ad, t', h, l) =
      let c = room w s into (word_number (kind_of w inner)) t' in
      let la = addressed w known from outer array a sure k (array-address check known from outer array a sure ad) in (
        decays check seat (kind_of w outer) (kind_of w inner) array element (column w into) a at code c la h,
        left_at w known into (a_pointer (column w into) inner element []) after (column w into) k refl c l,
      )
  point_in_range (point.Address into from outer inner t) known after code k (a, sure, seat, ad, t', h, l) =
      let c = room w s into (word_number (kind_of w inner)) t' in
      let la = addressed w known from outer t a sure k (array-address false known from outer t a sure ad) in (
        parts (kind_of w inner) seat (cured_size w.whole t) t (column w into) a w.slots.nought (a + 1) code c (at_0 a w.slots.count la) (nought w s) (at_1 a w.slots.count la) h,
        left_at w known into (a_pointer (column w into) inner t []) after (column w into) k refl c l,
      )

  -- Conversions

  lowered : (class : FlowClass) (node : ℕ) → ((class ≡ Down) ⊎ (class ≡ DownTile) → (0 < node) × (node ≤ r.nodes)) → ConversionFits (names_at w r b n) (lower_by class node)
  lowered Down node h = h (inl refl)
  lowered DownTile node h = h (inr refl)
  lowered Equal node h = tt
  lowered UpTile node h = tt
  lowered Up node h = tt
  lowered Tile node h = tt
  lowered Bad node h = tt

  shrunk : (seat : Seat) (class : FlowClass) (from to : ℕ) → ConversionFits (names_at w r b n) (shrink_by seat class from to)
  shrunk seat Down from to = tt
  shrunk seat DownTile from to = tt
  shrunk seat Equal from to = tt
  shrunk seat UpTile from to = tt
  shrunk seat Up from to = tt
  shrunk seat Tile from to = tt
  shrunk seat Bad from to = tt

  converts : (k l : Kind) (seat : Seat) (class : FlowClass) (u v : TypeId) → (k ≡ Rtti → (class ≡ Down) ⊎ (class ≡ DownTile) → (0 < w.whole.node v) × (w.whole.node v ≤ r.nodes))
      → ConversionFits (names_at w r b n) (conversion_by k l w seat class u v)
  converts Rtti l seat class u v h = lowered class (w.whole.node v) (h refl)
  converts Seq Safe seat class u v h = tt
  converts Seq Rtti seat class u v h = shrunk seat class (cured_size w.whole u) (cured_size w.whole v)
  converts Seq Seq seat class u v h = tt
  converts Seq Wild seat class u v h = tt
  converts Safe l seat class u v h = tt
  converts Wild l seat class u v h = tt

  pub noded : (v a : ℕ) (t : TypeId) → v + 3 ≤ w.slots.count → a < w.slots.count → Fits (names_at w r b n) (noded_lines w v a t)
  noded v a t l m =
      ((at_0 v w.slots.count l, m), ((at_1 v w.slots.count l, at_0 v w.slots.count l, nought w s), (role w s Word, ((at_1 v w.slots.count l, at_1 v w.slots.count l, role w s Word), tt))))

  words : (k l : Kind) (class : FlowClass) (u v : TypeId) (c a : ℕ) (code : List Instr) → c + 3 ≤ w.slots.count → a + 3 ≤ w.slots.count → ConvertedWords k l w class u v c a code → Fits (names_at w r b n) code
  unfolding Line
  words Wild Wild class u v c a code l m e = line (names_at w r b n) (copies 2 c a) code e (copied (names_at w r b n) 2 c a (omega (arith, l)) (omega (arith, m)))
  words Seq Seq class u v c a code l m e = line (names_at w r b n) (copies 3 c a) code e (copied (names_at w r b n) 3 c a l m)
  words Seq Safe class u v c a code l m e = line (names_at w r b n) (copies 1 c a) code e (copied (names_at w r b n) 1 c a (omega (arith, l)) (omega (arith, m)))
  words Seq Rtti class u v c a code l m e = line (names_at w r b n) (noded_lines w c a (made_type class u v)) code e (noded c a (made_type class u v) l (at_0 a w.slots.count m))
  words Safe Safe class u v c a code l m e = line (names_at w r b n) (copies 1 c a) code e (copied (names_at w r b n) 1 c a (omega (arith, l)) (omega (arith, m)))
  words Safe Rtti class u v c a code l m e = line (names_at w r b n) (noded_lines w c a u) code e (noded c a u l (at_0 a w.slots.count m))
  words Rtti Safe class u v c a code l m e = line (names_at w r b n) (copies 1 c a) code e (copied (names_at w r b n) 1 c a (omega (arith, l)) (omega (arith, m)))
  words Rtti Rtti class u v c a code l m e = line (names_at w r b n) (copies 2 c a) code e (copied (names_at w r b n) 2 c a (omega (arith, l)) (omega (arith, m)))
  words Wild Safe class u v c a code l m e = absurd e
  words Wild Seq class u v c a code l m e = absurd e
  words Wild Rtti class u v c a code l m e = absurd e
  words Seq Wild class u v c a code l m e = absurd e
  words Safe Seq class u v c a code l m e = absurd e
  words Safe Wild class u v c a code l m e = absurd e
  words Rtti Seq class u v c a code l m e = absurd e
  words Rtti Wild class u v c a code l m e = absurd e

  numbers : (k : Kind) (v a : ℕ) (code : List Instr) → v + 3 ≤ w.slots.count → a < w.slots.count → NumberWords k v a code → Fits (names_at w r b n) code
  unfolding Line
  numbers Seq v a code l m e = line (names_at w r b n) (instr.Copy v a ∷ instr.Const (v + 1) 0 ∷ instr.Const (v + 2) 0 ∷ []) code e ((at_0 v w.slots.count l, m), (at_1 v w.slots.count l, (at_2 v w.slots.count l, tt)))
  numbers Wild v a code l m e = line (names_at w r b n) (instr.Copy v a ∷ instr.Const (v + 1) 0 ∷ []) code e ((at_0 v w.slots.count l, m), (at_1 v w.slots.count l, tt))
  numbers Safe v a code l m e = absurd e
  numbers Rtti v a code l m e = absurd e

  pub convert_in_range : (i : Convert) (known after : Knowledge) (code : List Instr) → Placed w known → NamesNode w r.nodes i → IsCuringConvert i w known after code → Fits (names_at w r b n) code × Placed w after
  unfolding Line Then
  convert_in_range (convert.Integer into from t) known after code k o (i, j, a, plain, ex, t', e, l) =
      let c = room w s into 1 t' in (
        line (names_at w r b n) (narrowed_lines (column w into) a (narrow_of i)) code e (narrowed (names_at w r b n) (column w into) a (narrow_of i) (at_0 (column w into) w.slots.count c) (at_0 a w.slots.count (exact w known from j a k ex))),
        left_at w known into (an_integer (column w into) Exact i) after (column w into) k refl c l,
      )
  convert_in_range (convert.ToPointer into from t at) known after code k o (m, u, j, a, is, ex, t', h, l) =
      let c = room w s into (word_number (kind_of w m)) t' in (
        numbers (kind_of w m) (column w into) a code c (at_0 a w.slots.count (exact w known from j a k ex)) h,
        left_at w known into (a_pointer (column w into) m u []) after (column w into) k refl c l,
      )
  convert_in_range (convert.FromPointer into from t t2) known after code k o (m, u, i, a, sure, is, plain, pts, t', e, l) =
      let c = room w s into 1 t' in (
        line (names_at w r b n) (narrowed_lines (column w into) a (narrow_of i)) code e
            (narrowed (names_at w r b n) (column w into) a (narrow_of i) (at_0 (column w into) w.slots.count c) (at_0 a w.slots.count (points w known from m u a sure k pts))),
        left_at w known into (an_integer (column w into) Exact i) after (column w into) k refl c l,
      )
  convert_in_range (convert.Pointer into from t t2 at) known after code k o (m, d, u, v, a, sure, seat, is, is2, pts, t', (x, y, g, f, e), l) =
      let c = room w s into (word_number (kind_of w d)) t' in
      let la = points w known from m u a sure k pts in (
        in_turn (names_at w r b n) x y code e
            (guarded w s r b n deep (op.Convert (pointer_slots a) (conversion_by (kind_of w m) (kind_of w d) w seat (flow_class w.whole.table u v) u v)) (kind_of w m) at x
            (pointer a w.slots.count la, converts (kind_of w m) (kind_of w d) seat (flow_class w.whole.table u v) u v (λ z. o m d u v is is2 z)) g)
            (words (kind_of w m) (kind_of w d) (flow_class w.whole.table u v) u v (column w into) a y c la f),
        left_at w known into (a_pointer (column w into) d v []) after (column w into) k refl c l,
      )

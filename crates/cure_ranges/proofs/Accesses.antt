-- The lines of loads, stores, clearing and copies are in range.
use Rattle.std.proofs.Common.{◌≡◌, ℕ, ◌+◌, ◌<◌, ◌≤◌, Bool, true, false, List, [], ◌∷◌, Some, refl, sym, subst, inl, inr, arith}
use Rattle.std.proofs.lemmas.Option.{slice_get_within}
use Rattle.cc_base.specs.declared.place.Place.{Place}
use Rattle.cc_base.specs.declared.number.TypeId.{TypeId}
use Rattle.cc_base.specs.declared.kind.Kind.{Kind}
use Rattle.cc_base.specs.declared.kind.Kind.TheVariants.{Safe, Seq, Rtti, Wild}
use Rattle.c_types.specs.Cells.{holds_pointer}
use Rattle.integers.specs.Arithmetic.{IntegerType}
use Rattle.flat_mem.specs.Bytes.{IsAccessSize}
use Rattle.src_mem.specs.Memory.{Planned}
use Rattle.src_mem.specs.Uses.{pointer_offsets}
use Rattle.cil_form.specs.declared.number.Temp.{Temp}
use Rattle.cil_form.specs.declared.number.Object.{Object}
use Rattle.cil_form.specs.declared.number.Object.TheVariants as object
use Rattle.cil_form.specs.declared.instr.Target.{Target}
use Rattle.cil_form.specs.declared.instr.Target.TheVariants as target
use Rattle.cil_form.specs.declared.instr.Access.{Access}
use Rattle.cil_form.specs.declared.instr.Access.TheVariants as access
use Rattle.cil_form.specs.Meaning.{target_node}
use Rattle.cured_code.specs.declared.instr.Instr.{Instr}
use Rattle.cured_code.specs.declared.instr.Instr.TheVariants as instr
use Rattle.check_forms.specs.Pieces.{Line, Then, Choice}
use Rattle.check_forms.specs.declared.slots.PointerSlots.{PointerSlots}
use Rattle.check_forms.specs.declared.op.Op.TheVariants as op
use Rattle.check_forms.specs.Rows.{home_slot}
use Rattle.sim_relation.specs.Ground.{word_number}
use Rattle.sim_relation.specs.Points.{Form, Exact, Zeroed, Low, Knowledge, Start}
use Rattle.cure_rules.specs.Slots.{AreSlots, First, Offset, Address, Base, Word, OtherWord, ThirdWord, Made, slot_of}
use Rattle.cure_rules.specs.Known.{World, kind_of, cured_size, source_size, column, an_integer, a_pointer, pointer_slots, narrow_of, narrowing_lines}
use Rattle.cure_rules.specs.Checks.{Seat, size_at, wild_numbers, read_integer, read_pointer, write_integer, write_pointer}
use Rattle.cure_rules.specs.Functions.{IsKnownContent}
use Rattle.cure_rules.specs.Pointing.{cured_offset}
use Rattle.cure_rules.specs.Accesses.{NarrowsLoaded, words_loaded, TaggedLoaded, PointerLoaded, LoadsInteger, LoadsPointer, Targets, integer_stored, words_stored, TaggedStored, PointerStored, StoresInteger, StoresPointer, plan_of, ClearedBy, CellsKept, plain_copied, PointersCopied, CopiedBy, IsCuringAccess}
use Rattle.cure_ranges.proofs.Fitting.{Fits, PointerFits, Around, names_at, Placed, NamesTarget, NamesPart}
use Rattle.cure_ranges.proofs.Tests.{line, in_turn, choice}
use Rattle.cure_ranges.proofs.Rows.{home}
use Rattle.cure_ranges.proofs.Guards.{word_few, at_0, at_1, pointer, narrowing, left_at, included, points, addressed, lowly, role, nought, room, gets, number, guarded}

pub nests : (n : ℕ) → n + 4 ≤ 1024 → n < 1024
nests n l = omega (arith, l)

-- what is planned is one of the function's objects
pub planned : (w : World) (o : Object) (x : Planned) → plan_of w o ≡ Some x → IsKnownContent w (Start o)
planned w (object.Static v) x e = slice_get_within w.whole.statics v.0 x e
planned w (object.Variable v) x e = slice_get_within w.variables v.0 x e

module _ (w : World) (s : AreSlots w.slots) (r : Around) (b n : ℕ) (deep : n + 4 ≤ 1024) where
  -- Loads

  loaded : (i : IntegerType) (v : ℕ) (f : Form) (code : List Instr) → v < w.slots.count → NarrowsLoaded i v f code → Fits (names_at w r b n) code
  unfolding Line
  loaded i v Zeroed code l e = line (names_at w r b n) [] code e tt
  loaded i v Exact code l e = line (names_at w r b n) (narrowing_lines v (narrow_of i)) code e (narrowing (names_at w r b n) v (narrow_of i) l)
  loaded i v Low code l e = absurd e

  words : (k : Kind) (v a : ℕ) → v + 3 ≤ w.slots.count → a < w.slots.count → Fits (names_at w r b n) (words_loaded k v a)
  words Safe v a l m = ((inr (inr (inr refl)), at_0 v w.slots.count l, m), tt)
  words Rtti v a l m = ((inl refl, omega (arith, l), m), tt)
  words Seq v a l m = ((inr refl, l, m), tt)
  words Wild v a l m = ((inl refl, omega (arith, l), m), tt)

  tagged : (v a : ℕ) (code : List Instr) → v + 3 ≤ w.slots.count → a + 3 ≤ w.slots.count → TaggedLoaded w v a code → Fits (names_at w r b n) code
  unfolding Line Then Choice
  tagged v a code l m (x, y, e1, (z, u, (p, q, h, k, e3), e4, e2), e) =
      in_turn (names_at w r b n) x y code e (line (names_at w r b n) (instr.Tagged (slot_of w.slots Word) a (a + 1) ∷ []) x e1 ((role w s Word, at_0 a w.slots.count m, at_1 a w.slots.count m), tt))
      (in_turn (names_at w r b n) z u y e2
      (choice (names_at w r b n) (slot_of w.slots Word) p q z e3 (role w s Word) (nests n deep)
      (line (names_at w r b (n + 1)) (instr.Base (slot_of w.slots OtherWord) a (a + 1) ∷ []) p.0.items h ((role w s OtherWord, at_0 a w.slots.count m, at_1 a w.slots.count m), tt))
      (line (names_at w r b (n + 1)) (instr.Const (slot_of w.slots OtherWord) 0 ∷ []) q.0.items k (role w s OtherWord, tt)))
      (line (names_at w r b n) (instr.Ld 8 v a ∷ instr.Copy (v + 1) (slot_of w.slots OtherWord) ∷ []) u e4
      ((inr (inr (inr refl)), at_0 v w.slots.count l, at_0 a w.slots.count m), ((at_1 v w.slots.count l, role w s OtherWord), tt))))

  pointer_loaded : (k l : Kind) (v a : ℕ) (code : List Instr) → v + 3 ≤ w.slots.count → a + 3 ≤ w.slots.count → PointerLoaded k l w v a code → Fits (names_at w r b n) code
  unfolding Line
  pointer_loaded Wild Wild v a code l m h = tagged v a code l m h
  pointer_loaded Wild Safe v a code l m h = absurd h
  pointer_loaded Wild Seq v a code l m h = absurd h
  pointer_loaded Wild Rtti v a code l m h = absurd h
  pointer_loaded Safe k v a code l m e = line (names_at w r b n) (words_loaded k v a) code e (words k v a l (at_0 a w.slots.count m))
  pointer_loaded Seq k v a code l m e = line (names_at w r b n) (words_loaded k v a) code e (words k v a l (at_0 a w.slots.count m))
  pointer_loaded Rtti k v a code l m e = line (names_at w r b n) (words_loaded k v a) code e (words k v a l (at_0 a w.slots.count m))

  integer_load : (into : Temp) (t : TypeId) (a : ℕ) (k : Kind) (at : Place) (known after : Knowledge) (code : List Instr) → Placed w known → a + 3 ≤ w.slots.count
      → LoadsInteger w into t a k at known after code → Fits (names_at w r b n) code × Placed w after
  unfolding Line Then
  integer_load into t a k at known after code p la (i, f, seat, plain, t', (x, y, g, (z, u, e1, nr, e2), e), l) =
      let c = room w s into 1 t' in
      let v0 = at_0 (column w into) w.slots.count c in (
        in_turn (names_at w r b n) x y code e (guarded w s r b n deep (read_integer w seat k t (pointer_slots a)) k at x (pointer a w.slots.count la) g)
            (in_turn (names_at w r b n) z u y e2 (line (names_at w r b n) (instr.Ld i.bytes (column w into) a ∷ []) z e1 ((plain.1, v0, at_0 a w.slots.count la), tt)) (loaded i (column w into) f u v0 nr)),
        left_at w known into (an_integer (column w into) f i) after (column w into) p refl c l,
      )

  pointer_load : (into : Temp) (t : TypeId) (a : ℕ) (k : Kind) (at : Place) (known after : Knowledge) (code : List Instr) → Placed w known → a + 3 ≤ w.slots.count
      → LoadsPointer w into t a k at known after code → Fits (names_at w r b n) code × Placed w after
  unfolding Then
  pointer_load into t a k at known after code p la (m, u, seat, is, t', (x, y, g, h, e), l) =
      let c = room w s into (word_number (kind_of w m)) t' in (
        in_turn (names_at w r b n) x y code e (guarded w s r b n deep (read_pointer w seat k t (pointer_slots a)) k at x (pointer a w.slots.count la) g)
            (pointer_loaded k (kind_of w m) (column w into) a y c la h),
        left_at w known into (a_pointer (column w into) m u []) after (column w into) p refl c l,
      )

  -- Stores

  targets : (to : Target) (known : Knowledge) (t : TypeId) (p : PointerSlots) (code : List Instr) → Placed w known → NamesTarget w to → Targets to w known t p code → Fits (names_at w r b n) code × PointerFits w.slots.count p
  unfolding Line Then
  targets (target.Pointer q m) known t p code k o (a, sure, ad, same, e) =
      (line (names_at w r b n) [] code e tt, subst (λ z. PointerFits w.slots.count z) (sym same) (pointer a w.slots.count (addressed w known q m t a sure k ad)))
  targets (target.Part o home' u offset) known t p code k there (d, seat, is, same, (x, y, g, (z, v, g2, e1, e2), e)) =
      let base = gets w s r b n Base (Start o) d x there g in
      let off = number w s r b n Offset (cured_offset w (kind_of w home') u offset) (seat Offset) z g2 in (
        in_turn (names_at w r b n) x y code e base.0
            (in_turn (names_at w r b n) z v y e2 off.0 (line (names_at w r b n) (instr.Add (slot_of w.slots Address) d (seat Offset) ∷ []) v e1 ((role w s Address, base.1, off.1), tt))),
        subst (λ q. PointerFits w.slots.count q) (sym same) (record { first = role w s Address; second = base.1; third = nought w s }),
      )

  pub integer_put : (k : Kind) (bytes : ℕ) (p : PointerSlots) (v : ℕ) → IsAccessSize bytes → PointerFits w.slots.count p → v < w.slots.count → Fits (names_at w r b n) (integer_stored k bytes p v)
  integer_put Wild bytes p v size f l = ((f.first, f.second), ((size, f.first, l), tt))
  integer_put Safe bytes p v size f l = ((size, f.first, l), tt)
  integer_put Seq bytes p v size f l = ((size, f.first, l), tt)
  integer_put Rtti bytes p v size f l = ((size, f.first, l), tt)

  words_put : (k : Kind) (a v : ℕ) → a < w.slots.count → v + word_number k ≤ w.slots.count → Fits (names_at w r b n) (words_stored k a v)
  words_put Safe a v l m = ((inr (inr (inr refl)), l, omega (arith, m)), tt)
  words_put Rtti a v l m = ((inl refl, l, m), tt)
  words_put Seq a v l m = ((inr refl, l, m), tt)
  words_put Wild a v l m = ((inl refl, l, m), tt)

  tagged_put : (p : PointerSlots) (v : ℕ) (code : List Instr) → PointerFits w.slots.count p → v + 2 ≤ w.slots.count → TaggedStored w p v code → Fits (names_at w r b n) code
  unfolding Line Then Choice
  tagged_put p v code f l (x, y, e1, (q, u, h, k, e2), e) =
      in_turn (names_at w r b n) x y code e (line (names_at w r b n) (instr.Or (slot_of w.slots First) v (v + 1) ∷ []) x e1 ((role w s First, omega (arith, l), omega (arith, l)), tt))
      (choice (names_at w r b n) (slot_of w.slots First) q u y e2 (role w s First) (nests n deep)
      (line (names_at w r b (n + 1)) (instr.St 8 p.first v ∷ instr.Mark p.first p.second (v + 1) ∷ []) q.0.items h
      ((inr (inr (inr refl)), f.first, omega (arith, l)), ((f.first, f.second, omega (arith, l)), tt)))
      (line (names_at w r b (n + 1)) (instr.Tzero p.first p.second 8 ∷ []) u.0.items k ((f.first, f.second), tt)))

  pub pointer_put : (k l : Kind) (p : PointerSlots) (v : ℕ) (code : List Instr) → PointerFits w.slots.count p → v + word_number l ≤ w.slots.count → PointerStored k l w p v code → Fits (names_at w r b n) code
  unfolding Line
  pointer_put Wild Wild p v code f l h = tagged_put p v code f l h
  pointer_put Wild Safe p v code f l h = absurd h
  pointer_put Wild Seq p v code f l h = absurd h
  pointer_put Wild Rtti p v code f l h = absurd h
  pointer_put Safe k p v code f l e = line (names_at w r b n) (words_stored k p.first v) code e (words_put k p.first v f.first l)
  pointer_put Seq k p v code f l e = line (names_at w r b n) (words_stored k p.first v) code e (words_put k p.first v f.first l)
  pointer_put Rtti k p v code f l e = line (names_at w r b n) (words_stored k p.first v) code e (words_put k p.first v f.first l)

  integer_store : (v : Temp) (t : TypeId) (p : PointerSlots) (k : Kind) (at : Place) (known : Knowledge) (code : List Instr) → Placed w known → PointerFits w.slots.count p
      → StoresInteger w v t p k at known code → Fits (names_at w r b n) code
  unfolding Line Then
  integer_store v t p k at known code pl f (i, d, seat, plain, low, (x, y, g, e1, e)) =
      in_turn (names_at w r b n) x y code e (guarded w s r b n deep (write_integer w seat k t p) k at x f g)
      (line (names_at w r b n) (integer_stored k i.bytes p d) y e1 (integer_put k i.bytes p d plain.1 f (at_0 d w.slots.count (lowly w known v i d pl low))))

  pointer_store : (v : Temp) (t : TypeId) (p : PointerSlots) (k : Kind) (at assignment : Place) (known : Knowledge) (code : List Instr) → Placed w known → PointerFits w.slots.count p
      → StoresPointer w v t p k at assignment known code → Fits (names_at w r b n) code
  unfolding Then
  pointer_store v t p k at assignment known code pl f (m, u, d, sure, seat, is, pts, (x, y, g, h, e)) =
      let l = points w known v m u d sure pl pts in
      let few = word_few (kind_of w m) in
      in_turn (names_at w r b n) x y code e
      (guarded w s r b n deep (write_pointer w seat k t p (home_slot (kind_of w m) (pointer_slots d)) assignment) k at x (f, home w.slots.count (kind_of w m) (pointer_slots d) (pointer d w.slots.count l)) g)
      (pointer_put k (kind_of w m) p d y f (omega (arith, l, few)) h)

  -- Objects as a whole

  cleared : (k : Kind) (t : TypeId) (a : ℕ) (code : List Instr) → a < w.slots.count → ClearedBy k w t a code → Fits (names_at w r b n) code
  unfolding Line
  cleared Safe t a code l e = line (names_at w r b n) (instr.Zero a (cured_size w.whole t) ∷ []) code e (l, tt)
  cleared Wild t a code l e = line (names_at w r b n) (instr.Tzero a a (source_size w.whole t) ∷ []) code e ((l, l), tt)
  cleared Seq t a code l e = absurd e
  cleared Rtti t a code l e = absurd e

  three : slot_of w.slots Word + 3 ≤ w.slots.count
  three = let l = role w s ThirdWord in omega (arith, l)

  cells : (seat : Seat) (k : Kind) (t : TypeId) (a h : ℕ) (assignment : Place) (is : List ℕ) (code : List Instr) → a < w.slots.count → h < w.slots.count → CellsKept w seat k t a h assignment is code → Fits (names_at w r b n) code
  unfolding Line Then
  cells seat k t a h assignment [] code l m e = line (names_at w r b n) [] code e tt
  cells seat k t a h assignment (i ∷ is) code l m (x, held, (p, q, g, (u, v, e1, (y, z, gu, rest, e3), e2), e)) =
      let o = number w s r b n Offset (cured_offset w k t i) (seat Offset) p g in
      in_turn (names_at w r b n) p q code e o.0
      (in_turn (names_at w r b n) u v q e2
      (line (names_at w r b n) (instr.Add (slot_of w.slots Made) a (seat Offset) ∷ words_loaded (kind_of w x.node) (slot_of w.slots Word) (slot_of w.slots Made)) u e1
      ((role w s Made, l, o.1), words (kind_of w x.node) (slot_of w.slots Word) (slot_of w.slots Made) three (role w s Made)))
      (in_turn (names_at w r b n) y z v e3
      (guarded w s r b n deep (op.KeepCell (home_slot (kind_of w x.node) (pointer_slots (slot_of w.slots Word))) h) k assignment y
      (home w.slots.count (kind_of w x.node) (pointer_slots (slot_of w.slots Word)) (pointer (slot_of w.slots Word) w.slots.count three), m) gu)
      (cells seat k t a h assignment is z l m rest)))

  plain_put : (k : Kind) (p q : PointerSlots) (size : ℕ) → PointerFits w.slots.count p → PointerFits w.slots.count q → Fits (names_at w r b n) (plain_copied k p q size)
  plain_put Wild p q size f g = ((g.first, g.second), ((g.first, f.first), tt))
  plain_put Safe p q size f g = ((g.first, f.first), tt)
  plain_put Seq p q size f g = ((g.first, f.first), tt)
  plain_put Rtti p q size f g = ((g.first, f.first), tt)

  moved : (k l : Kind) (seat : Seat) (t : TypeId) (p q : PointerSlots) (assignment : Place) (code : List Instr) → PointerFits w.slots.count p → PointerFits w.slots.count q
      → Then (CellsKept w seat k t p.first (home_slot l q) assignment (pointer_offsets w.whole.table t)) (Line (instr.Move q.first p.first (cured_size w.whole t) ∷ [])) code → Fits (names_at w r b n) code
  unfolding Line Then
  moved k l seat t p q assignment code f g (x, y, h, e1, e) =
      in_turn (names_at w r b n) x y code e (cells seat k t p.first (home_slot l q) assignment (pointer_offsets w.whole.table t) x f.first (home w.slots.count l q g) h)
      (line (names_at w r b n) (instr.Move q.first p.first (cured_size w.whole t) ∷ []) y e1 ((g.first, f.first), tt))

  pointers_put : (k l : Kind) (seat : Seat) (t : TypeId) (p q : PointerSlots) (assignment : Place) (code : List Instr) → PointerFits w.slots.count p → PointerFits w.slots.count q
      → PointersCopied k l w seat t p q assignment code → Fits (names_at w r b n) code
  unfolding Line
  pointers_put Wild Wild seat t p q assignment code f g e =
      line (names_at w r b n) (instr.Tmove q.first q.second p.first p.second (source_size w.whole t) ∷ []) code e ((g.first, g.second, f.first, f.second), tt)
  pointers_put Wild Safe seat t p q assignment code f g h = absurd h
  pointers_put Wild Seq seat t p q assignment code f g h = absurd h
  pointers_put Wild Rtti seat t p q assignment code f g h = absurd h
  pointers_put Safe Wild seat t p q assignment code f g h = absurd h
  pointers_put Seq Wild seat t p q assignment code f g h = absurd h
  pointers_put Rtti Wild seat t p q assignment code f g h = absurd h
  pointers_put Safe Safe seat t p q assignment code f g h = moved Safe Safe seat t p q assignment code f g h
  pointers_put Safe Seq seat t p q assignment code f g h = moved Safe Seq seat t p q assignment code f g h
  pointers_put Safe Rtti seat t p q assignment code f g h = moved Safe Rtti seat t p q assignment code f g h
  pointers_put Seq Safe seat t p q assignment code f g h = moved Seq Safe seat t p q assignment code f g h
  pointers_put Seq Seq seat t p q assignment code f g h = moved Seq Seq seat t p q assignment code f g h
  pointers_put Seq Rtti seat t p q assignment code f g h = moved Seq Rtti seat t p q assignment code f g h
  pointers_put Rtti Safe seat t p q assignment code f g h = moved Rtti Safe seat t p q assignment code f g h
  pointers_put Rtti Seq seat t p q assignment code f g h = moved Rtti Seq seat t p q assignment code f g h
  pointers_put Rtti Rtti seat t p q assignment code f g h = moved Rtti Rtti seat t p q assignment code f g h

  copied_by : (holds : Bool) (seat others : Seat) (k l : Kind) (t : TypeId) (p q : PointerSlots) (from_place to_place assignment : Place) (code : List Instr)
      → PointerFits w.slots.count p → PointerFits w.slots.count q → CopiedBy holds w seat others k l t p q from_place to_place assignment code → Fits (names_at w r b n) code
  unfolding Line Then
  copied_by false seat others k l t p q from_place to_place assignment code f g (x, y, h, e1, e) =
      in_turn (names_at w r b n) x y code e (guarded w s r b n deep (op.CopyPlain p q l (size_at w seat k t) to_place) k from_place x (f, g) h)
      (line (names_at w r b n) (plain_copied l p q (source_size w.whole t)) y e1 (plain_put l p q (source_size w.whole t) f g))
  copied_by true seat others k l t p q from_place to_place assignment code f g (x, y, h, c, e) =
      in_turn (names_at w r b n) x y code e (guarded w s r b n deep (op.CopyPointers p q l (size_at w seat k t) (wild_numbers w seat) to_place assignment) k from_place x (f, g) h)
      (pointers_put k l others t p q assignment y f g c)

  pub access_in_range : (i : Access) (known after : Knowledge) (code : List Instr) → Placed w known → NamesPart w i → IsCuringAccess i w known after code → Fits (names_at w r b n) code × Placed w after
  unfolding Then
  access_in_range (access.Load into from m t at) known after code p o (a, sure, ad, inl h) =
      integer_load into t a (kind_of w m) at known after code p (addressed w known from m t a sure p ad) h
  access_in_range (access.Load into from m t at) known after code p o (a, sure, ad, inr h) =
      pointer_load into t a (kind_of w m) at known after code p (addressed w known from m t a sure p ad) h
  access_in_range (access.Store to v t at assignment) known after code p o (q, inl (x, y, h, k, e), i) =
      let g = targets to known t q x p o h in
      (in_turn (names_at w r b n) x y code e g.0 (integer_store v t q (kind_of w (target_node to)) at known y p g.1 k), included w known after p i)
  access_in_range (access.Store to v t at assignment) known after code p o (q, inr (x, y, h, k, e), i) =
      let g = targets to known t q x p o h in
      (in_turn (names_at w r b n) x y code e g.0 (pointer_store v t q (kind_of w (target_node to)) at assignment known y p g.1 k), included w known after p i)
  access_in_range (access.Clear o') known after code p o (x, a, pl, (y, z, g, h, e), i) =
      let k = gets w s r b n Address (Start o') a y (planned w o' x pl) g in (in_turn (names_at w r b n) y z code e k.0 (cleared (kind_of w x.node) x.type a z k.1 h), included w known after p i)
  access_in_range (access.Copy to to_place from m from_place t assignment) known after code p o (a, sure, q, seat, others, ad, (x, y, h, k, e), i) =
      let g = targets to known t q x p o h in (
        in_turn (names_at w r b n) x y code e g.0
            (copied_by (holds_pointer w.whole.table t) seat others (kind_of w m) (kind_of w (target_node to)) t (pointer_slots a) q from_place to_place assignment y
            (pointer a w.slots.count (addressed w known from m t a sure p ad)) g.1 k),
        included w known after p i,
      )

-- Constants and copies: an integer, null, and the copy of a temporary.
use Rattle.std.proofs.Common.{◌≡◌, ℕ, zero, suc, ◌+◌, ◌^◌, ◌<◌, ◌≤◌, ◌⊎◌, inl, inr, ℤ, List, [], ◌∷◌, ◌++◌, length, replicate, slice_get, slice_index, slice_set, Option, Some, None, refl, ap, sym, subst, ◌∙◌, arith, length-set, get_or-set_other, get_or-set_same}
use Rattle.std.specs.List.{Contains}
use Rattle.cc_base.specs.declared.number.TypeId.{TypeId}
use Rattle.cc_base.specs.declared.number.NodeId.{NodeId}
use Rattle.cc_base.specs.declared.kind.Kind.{Kind}
use Rattle.cc_base.specs.declared.kind.Kind.TheVariants.{Safe, Seq, Rtti, Wild}
use Rattle.integers.specs.Words.{word}
use Rattle.integers.specs.Arithmetic.{IntegerType, converted}
use Rattle.integers.proofs.WordLaws.{word-below}
use Rattle.runs.specs.Outcome.{Done, Matches}
use Rattle.runs.specs.Control.{Goes}
use Rattle.flat_mem.specs.Bytes.{IsAccessSize, bytes_at}
use Rattle.src_mem.specs.Pointers.{Pointer, Null, Value, Integer, Address}
use Rattle.cil_form.specs.declared.number.Temp.{Temp}
use Rattle.cil_form.specs.declared.instr.Set.TheVariants as set
use Rattle.cil_form.specs.declared.instr.Instr.TheVariants as instr
use Rattle.cil_form.specs.State as code
use Rattle.cil_form.specs.Typing.{HeldType, IntegerOf, PointerTo, PlaceOf}
use Rattle.cil_form.specs.Told.{IsAsked}
use Rattle.cil_form.specs.Meaning as meaning
use Rattle.cured_code.specs.declared.instr.Instr.TheVariants as flat_instr
use Rattle.cured_code.specs.FlatState as flat
use Rattle.cured_code.specs.FlatState.{slot, with_slot}
use Rattle.cured_code.specs.FlatMachine.{Context, run}
use Rattle.check_forms.specs.Pieces.{Line}
use Rattle.sim_relation.specs.Ground.{Ground, row, pointer_words, word_number}
use Rattle.sim_relation.specs.Points.{Form, Exact, HoldsAs, Known, Knowledge, Number, AreWords, PointerStands, StandsFor}
use Rattle.cure_rules.specs.Slots.{AreSlots, Column, Kept}
use Rattle.cure_rules.specs.Known as rules
use Rattle.cure_rules.specs.Known.{IsKept, IsPointer, IsPlainInteger, Takes, an_integer, a_pointer, held_words, noughts, copies}
use Rattle.cure_rules.specs.Setting.{Fills, CopiedWords, IsCuringSet}
use Rattle.cure_rules.specs.Code.{Blocks}
use Rattle.sim_laws.specs.Scenes.{Scene, Running, world_of, around_of, context_of}
use Rattle.sim_laws.specs.Points.{Point, AreInColumn, AreKept, Settled, Fits, IsWordFor, ground_of}
use Rattle.sim_laws.specs.Statements.{Lines, FlatOutcome, StatesEndAlike, Follows}
use Rattle.sim_laws.proofs.Points.{grows-same, same-slots}
use Rattle.sim_laws.proofs.Guards.{kept-at}
use Rattle.sim_laws.proofs.Giving.{Gave, gives-follows, column-room, Changed, wrote-column, wrote-none, changed-one, changed-more, Wrote_by, Cleared, cleared}

append-none : (lines : Lines) → lines ++ [] ≡ lines
append-none [] = refl
append-none (i ∷ lines) = ap (λ (js : Lines). i ∷ js) (append-none lines)

-- the lines alone
pub alone : (ctx : Context) (c : flat.Local) (lines : Lines) (k v : ℕ) (h : Wrote_by ctx c lines k v) → run lines ctx c ≡ Done Goes (record c { slots = h.slots })
alone ctx c lines k v h = ap (λ (js : Lines). run js ctx c) (sym (append-none lines)) ∙ h.runs []

-- An integer in its column

pub gave-integer : (w : Scene) (g : AreSlots w.slots) (b : Running) (known after : Knowledge) (into : Temp) (i : IntegerType) (f : Form) (z : ℤ)
    (l : code.Local) (c : flat.Local) (slots : List ℕ) → Point w g b known l c → Takes (world_of w) into 1 → Changed 1 (w.slots.column into) c.slots slots
    → IsAccessSize i.bytes → converted i z ≡ z → HoldsAs f i z (slice_index slots (w.slots.column into)) → slice_index slots (w.slots.column into) < 2 ^ 64
    → rules.Leaves known into (Some (an_integer (w.slots.column into) f i)) after
    → Gave w g b known after into l c (Integer z) l.state Goes (record c { slots = slots })
gave-integer w g b known after into i f z l c slots p takes changed plain range holds below leave = record {
  goes = refl;
  there = p.there;
  grows = grows-same w.programs b.depth l.state l.state c.state c.state refl refl;
  wrote = wrote-column w g into 1 c.slots slots takes changed;
  fact = Some (an_integer (w.slots.column into) f i);
  fits = λ y e. subst (λ (x : Known). Fits w g b into (Integer z) l.state (record c { slots = slots }) x) (let q : an_integer (w.slots.column into) f i ≡ y = cc (e) in q) (record {
    held = range;
    stands = λ a q. subst (λ (n : ℕ). HoldsAs f i z (slice_index slots n)) (let m : w.slots.column into ≡ a = cc (q) in m) holds;
    word = λ a q. subst (λ (n : ℕ). slice_index slots n < 2 ^ 64) (let m : w.slots.column into ≡ a = cc (q) in m) below;
    settled = record {
      slots = λ a q. inl ((let m : a ≡ w.slots.column into = cc (q) in m), takes.0, takes.1);
      plain = plain;
      asked = tt;
    };
  });
  leave = leave;
}

-- and in a kept slot
gave-kept : (w : Scene) (g : AreSlots w.slots) (b : Running) (known after : Knowledge) (into : Temp) (i : IntegerType) (z : ℤ) (a : ℕ)
    (l : code.Local) (c : flat.Local) → Point w g b known l c → IsKept (world_of w) a (Number (word z)) → IsAccessSize i.bytes → converted i z ≡ z
    → rules.Leaves known into (Some (an_integer a Exact i)) after → Gave w g b known after into l c (Integer z) l.state Goes c
gave-kept w g b known after into i z a l c p kept plain range leave = of (kept-at w (record { slot = a; content = Number (word z) }) kept)
  where
    of : (k : ℕ) × (slice_get w.slots.kept k ≡ Some (record { slot = a; content = Number (word z) })) → Gave w g b known after into l c (Integer z) l.state Goes c
    of (k, found) = record {
      goes = refl;
      there = p.there;
      grows = grows-same w.programs b.depth l.state l.state c.state c.state refl refl;
      wrote = wrote-none w g into c.slots;
      fact = Some (an_integer a Exact i);
      fits = λ y e. subst (λ (x : Known). Fits w g b into (Integer z) l.state c x) (let q : an_integer a Exact i ≡ y = cc (e) in q) (record {
        held = range;
        stands = λ n q. ap (slot c) (let m : n ≡ a = cc (q) in m) ∙ here;
        word = λ n q. subst (λ (m : ℕ). m < 2 ^ 64) (sym (ap (slot c) (let m : n ≡ a = cc (q) in m) ∙ here)) (word-below z);
        settled = record {
          slots = λ n q. inr (λ j less. (
            k,
            ap g.owner (let m : a ≡ n = cc (q) in let r : n + j ≡ a = omega (arith, less, m) in r)
                ∙ (g.kept k (record { slot = a; content = Number (word z) }) found).is,
          ));
          plain = plain;
          asked = tt;
        };
      });
      leave = leave;
    }
      where
        here : slot c a ≡ word z
        here = (p.kept k (record { slot = a; content = Number (word z) }) found).1

-- Set

fills-cases : (w : Scene) (into : Temp) (n a : ℕ) (lines : Lines) → Fills (world_of w) into (Number n) a lines
    → (IsKept (world_of w) a (Number n) × (lines ≡ [])) ⊎ ((a ≡ w.slots.column into) × Takes (world_of w) into 1 × (lines ≡ flat_instr.Const a n ∷ []))
unfolding Line
fills-cases w into n a lines (inl h) = inl h
fills-cases w into n a lines (inr h) = inr h

pub set-integer : (w : Scene) (g : AreSlots w.slots) (b : Running) (into : Temp) (z : ℤ) (t : TypeId) (known after : Knowledge) (blocks : Blocks) (lines : Lines)
    → IsCuringSet (set.Integer into z t) (world_of w) known after lines
    → Follows w g b blocks known after (meaning.act (instr.Set (set.Integer into z t)) (around_of w b)) lines
set-integer w g b into z t known after blocks lines (i, a, plain, range, fills, leave) l c p =
    gives-follows w g b known after blocks into l c p (Done (Integer z) l.state) (run lines (context_of w b) c) (by (fills-cases w into (word z) a lines fills))
  where
    Goal : FlatOutcome → Type 0
    Goal q = Matches (Gave w g b known after into l c) (λ e s f d. StatesEndAlike w.programs e s f d.state) (Done (Integer z) l.state) q

    here : Takes (world_of w) into 1 → slice_index (slice_set c.slots (w.slots.column into) (word z)) (w.slots.column into) ≡ word z
    here takes = get_or-set_same c.slots (w.slots.column into) (word z) 0 (let r = column-room w g into 1 takes (omega arith) in let n = p.count in omega (arith, r, n))

    by : (IsKept (world_of w) a (Number (word z)) × (lines ≡ [])) ⊎ ((a ≡ w.slots.column into) × Takes (world_of w) into 1 × (lines ≡ flat_instr.Const a (word z) ∷ []))
        → Goal (run lines (context_of w b) c)
    by (inl (kept, is)) = subst (λ (js : Lines). Goal (run js (context_of w b) c)) (sym is) (gave-kept w g b known after into i z a l c p kept plain.1 range leave)
    by (inr (same, takes, is)) = subst (λ (js : Lines). Goal (run js (context_of w b) c)) (sym is)
        (subst (λ (v : ℕ). Goal (Done Goes (with_slot v (word z) c))) (sym same)
        (gave-integer w g b known after into i Exact z l c (slice_set c.slots (w.slots.column into) (word z)) p takes (changed-one c.slots (w.slots.column into) (word z)) plain.1 range
        (here takes) (subst (λ (m : ℕ). m < 2 ^ 64) (sym (here takes)) (word-below z))
        (subst (λ (v : ℕ). rules.Leaves known into (Some (an_integer v Exact i)) after) same leave)))

-- Null

pub words-more : (n : ℕ) (ns : List ℕ) → n < 2 ^ 64 → AreWords ns → AreWords (n ∷ ns)
words-more n ns less h = record { below = below }
  where
    below : (m : ℕ) → Contains (n ∷ ns) m → m < 2 ^ 64
    below m (zero, l, e) = subst (λ (k : ℕ). k < 2 ^ 64) e less
    below m (suc k, l, e) = h.below m (k, omega (arith, l), e)

pub words-none : AreWords []
words-none = record { below = λ m h. absurd (let l = h.1 in omega (arith, l)) }

null-words : (k : Kind) → AreWords (row k 0 0 0)
null-words Safe = words-more 0 [] (omega arith) words-none
null-words Rtti = words-more 0 (0 ∷ []) (omega arith) (words-more 0 [] (omega arith) words-none)
null-words Seq = words-more 0 (0 ∷ 0 ∷ []) (omega arith) (words-more 0 (0 ∷ []) (omega arith) (words-more 0 [] (omega arith) words-none))
null-words Wild = words-more 0 (0 ∷ []) (omega arith) (words-more 0 [] (omega arith) words-none)

null-row : (k : Kind) → replicate (word_number k) 0 ≡ row k 0 0 0
null-row Safe = refl
null-row Rtti = refl
null-row Seq = refl
null-row Wild = refl

pub few-words : (k : Kind) → word_number k ≤ 3
few-words Safe = omega arith
few-words Rtti = omega arith
few-words Seq = omega arith
few-words Wild = omega arith

pub set-null : (w : Scene) (g : AreSlots w.slots) (b : Running) (into : Temp) (t : TypeId) (known after : Knowledge) (blocks : Blocks) (lines : Lines)
    → ((n : NodeId) (u : TypeId) → IsPointer (world_of w) t n u → IsAsked w.programs.sites (PointerTo n u)) → IsCuringSet (set.Null into t) (world_of w) known after lines
    → Follows w g b blocks known after (meaning.act (instr.Set (set.Null into t)) (around_of w b)) lines
unfolding Line
set-null w g b into t known after blocks lines asked (n, u, is, takes, js, leave) l c p =
    gives-follows w g b known after blocks into l c p (Done (Address Null) l.state) (run lines (context_of w b) c)
    (subst (λ (ks : Lines). Goal (run ks (context_of w b) c)) (sym js)
    (of (cleared (context_of w b) c k v (let r = column-room w g into k takes (few-words (w.programs.whole.kind n)) in let m = p.count in omega (arith, r, m)))))
  where
    k : ℕ
    k = word_number (w.programs.whole.kind n)

    v : ℕ
    v = w.slots.column into

    Goal : FlatOutcome → Type 0
    Goal q = Matches (Gave w g b known after into l c) (λ e s f d. StatesEndAlike w.programs e s f d.state) (Done (Address Null) l.state) q

    of : Cleared (context_of w b) c k v → Goal (run (noughts k v) (context_of w b) c)
    of h = subst Goal (sym (alone (context_of w b) c (noughts k v) k v h.by)) (record {
      goes = refl;
      there = p.there;
      grows = grows-same w.programs b.depth l.state l.state c.state c.state refl refl;
      wrote = wrote-column w g into k c.slots h.by.slots takes h.by.changed;
      fact = Some (a_pointer v n u []);
      fits = λ y e. subst (λ (x : Known). Fits w g b into (Address Null) l.state (record c { slots = h.by.slots }) x) (let q : a_pointer v n u [] ≡ y = cc (e) in q) (record {
        held = record { held = record { value = tt; reaches = tt }; made = λ s. tt };
        stands = record {
          words = null-words (w.programs.whole.kind n);
          in_slots = λ a q. subst (λ (m : ℕ). bytes_at k h.by.slots m ≡ row (w.programs.whole.kind n) 0 0 0) (let m : v ≡ a = cc (q) in m)
              (h.zeros ∙ null-row (w.programs.whole.kind n));
          sure = λ y s. absurd (let less = s.1 in omega (arith, less));
        };
        word = λ a q. tt;
        settled = record { slots = λ a q. inl ((let m : a ≡ v = cc (q) in m), takes.0, takes.1); plain = tt; asked = asked n u is };
      });
      leave = leave;
    })

-- Copies

pub record Copied (ctx : Context) (c : flat.Local) (k v a : ℕ) : Type 0 where
  pub by : Wrote_by ctx c (copies k v a) k v
  pub values : ((i j : ℕ) → i < j → j < k → a + j ≡ v + i → ⊥) → bytes_at k by.slots v ≡ bytes_at k c.slots a

pub copied : (ctx : Context) (c : flat.Local) (k v a : ℕ) → v + k ≤ length c.slots → Copied ctx c k v a
unfolding bytes_at
copied ctx c zero v a room = record {
  by = record { slots = c.slots; runs = λ rest. refl; changed = record { others = λ a h. refl; long = refl } };
  values = λ h. refl;
}
copied ctx c (suc k) v a room = of (copied ctx (with_slot v (slot c a) c) k (v + 1) (a + 1) (let e = length-set c.slots v (slot c a) in omega (arith, room, e)))
  where
    of : Copied ctx (with_slot v (slot c a) c) k (v + 1) (a + 1) → Copied ctx c (suc k) v a
    of h = record {
      by = record { slots = h.by.slots; runs = h.by.runs; changed = changed-more k v (slot c a) c.slots h.by.slots h.by.changed };
      values = λ apart. ap (λ (n : ℕ). n ∷ bytes_at k h.by.slots (v + 1))
          (h.by.changed.others v (λ j less e. omega (arith, e)) ∙ get_or-set_same c.slots v (slot c a) 0 (omega (arith, room)))
          ∙ ap (λ (ns : List ℕ). slot c a ∷ ns) (h.values (λ i j less m e. apart (suc i) (suc j) (omega (arith, less)) (omega (arith, m)) (omega (arith, e)))
          ∙ same-slots k (a + 1) c.slots (slice_set c.slots v (slot c a))
          (λ j less. get_or-set_other c.slots v (a + 1 + j) (slot c a) 0 (λ e. apart 0 (suc j) (omega arith) (omega (arith, less)) (omega (arith, e)))));
    }

-- a value that stands elsewhere

pointer-moved : (w : Scene) (g : Ground) (slots after : List ℕ) (x : Known) (v a : ℕ) (n : NodeId) (q : Pointer) → x.place ≡ Some a → g.kind ≡ w.programs.whole.kind
    → bytes_at (word_number (w.programs.whole.kind n)) after v ≡ bytes_at (word_number (w.programs.whole.kind n)) slots a
    → PointerStands g slots x n q → PointerStands g after (record x { place = Some v }) n q
pointer-moved w g slots after x v a n q place kinds same s = record {
  words = s.words;
  in_slots = λ m e. subst (λ (i : ℕ). bytes_at (word_number (g.kind n)) after i ≡ pointer_words g (g.kind n) q) (let i : v ≡ m = cc (e) in i)
      (subst (λ (f : NodeId → Kind). bytes_at (word_number (f n)) after v ≡ bytes_at (word_number (f n)) slots a) (sym kinds) same ∙ s.in_slots a place);
  sure = s.sure;
}

one-slot : (slots after : List ℕ) (v a : ℕ) → bytes_at 1 after v ≡ bytes_at 1 slots a → slice_index after v ≡ slice_index slots a
unfolding bytes_at
one-slot slots after v a h = cc (h)

stands-moved : (w : Scene) (g : Ground) (slots after : List ℕ) (x : Known) (v a : ℕ) (h : HeldType) (u : Value) → x.place ≡ Some a → g.kind ≡ w.programs.whole.kind
    → bytes_at (held_words w.programs.whole h) after v ≡ bytes_at (held_words w.programs.whole h) slots a
    → StandsFor g slots x h u → StandsFor g after (record x { place = Some v }) h u
stands-moved w g slots after x v a (IntegerOf i) (Integer z) place kinds same s =
    λ n e. subst (HoldsAs x.form i z) (sym (ap (slice_index after) (let m : n ≡ v = cc (e) in m) ∙ one-slot slots after v a same)) (s a place)
stands-moved w g slots after x v a (IntegerOf i) (Address q) place kinds same s = s
stands-moved w g slots after x v a (PointerTo n u) (Integer z) place kinds same s = s
stands-moved w g slots after x v a (PointerTo n u) (Address q) place kinds same s = pointer-moved w g slots after x v a n q place kinds same s
stands-moved w g slots after x v a (PlaceOf n u) (Integer z) place kinds same s = s
stands-moved w g slots after x v a (PlaceOf n u) (Address q) place kinds same s = pointer-moved w g slots after x v a n q place kinds same s

word-moved : (w : Scene) (slots after : List ℕ) (v a : ℕ) (h : HeldType)
    → bytes_at (held_words w.programs.whole h) after v ≡ bytes_at (held_words w.programs.whole h) slots a
    → IsWordFor h (slice_index slots a) → IsWordFor h (slice_index after v)
word-moved w slots after v a (IntegerOf i) same below = subst (λ (m : ℕ). m < 2 ^ 64) (sym (one-slot slots after v a same)) below
word-moved w slots after v a (PointerTo n u) same below = tt
word-moved w slots after v a (PlaceOf n u) same below = tt

-- where the words of a value stand, and a column that they are copied into: none is written before it is read
pub settled-apart : (w : Scene) (g : AreSlots w.slots) (into from : Temp) (x : Known) (a : ℕ) → Settled w g.owner from x → x.place ≡ Some a
    → Takes (world_of w) into (held_words w.programs.whole x.type) → (i j : ℕ) → i < j → j < held_words w.programs.whole x.type
    → a + j ≡ w.slots.column into + i → ⊥
settled-apart w g into from x a h place takes i j less below same = by (h.slots a place)
  where
    target : g.owner (w.slots.column into + i) ≡ Column into i
    target = (g.columns into i takes.0 (let r = takes.1 in omega (arith, less, below, r))).is

    by : AreInColumn w from x a ⊎ AreKept w g.owner x a → ⊥
    by (inl (is, temp, room)) =
        let one : g.owner (a + j) ≡ Column from j = ap (λ (n : ℕ). g.owner (n + j)) is ∙ (g.columns from j temp (omega (arith, below, room))).is in
        let two : Column from j ≡ Column into i = sym one ∙ ap g.owner same ∙ target in
        let three : j ≡ i = cc (two) in omega (arith, three, less)
    by (inr kept) = let one : Kept (kept j below).0 ≡ Column into i = sym (kept j below).1 ∙ ap g.owner same ∙ target in cc (one)

few-held : (w : Scene) (h : HeldType) → held_words w.programs.whole h ≤ 3
few-held w (IntegerOf i) = omega arith
few-held w (PointerTo n u) = few-words (w.programs.whole.kind n)
few-held w (PlaceOf n u) = few-words (w.programs.whole.kind n)

copy-known : (w : Scene) (g : AreSlots w.slots) (b : Running) (into from : Temp) (x : Known) (known after : Knowledge) (blocks : Blocks) (lines : Lines)
    → known from ≡ Some x → CopiedWords (world_of w) into from (Some x) known after lines
    → Follows w g b blocks known after (meaning.act (instr.Set (set.Copy into from)) (around_of w b)) lines
unfolding Line
copy-known w g b into from x known after blocks lines fact (a, place, takes, js, leave) l c p =
    gives-follows w g b known after blocks into l c p (Done (l.temps from) l.state) (run lines (context_of w b) c)
    (subst (λ (ks : Lines). Goal (run ks (context_of w b) c)) (sym js)
    (of (copied (context_of w b) c k v a (let r = column-room w g into k takes (few-held w x.type) in let m = p.count in omega (arith, r, m)))))
  where
    k : ℕ
    k = held_words w.programs.whole x.type

    v : ℕ
    v = w.slots.column into

    Goal : FlatOutcome → Type 0
    Goal q = Matches (Gave w g b known after into l c) (λ e s f d. StatesEndAlike w.programs e s f d.state) (Done (l.temps from) l.state) q

    of : Copied (context_of w b) c k v a → Goal (run (copies k v a) (context_of w b) c)
    of h = subst Goal (sym (alone (context_of w b) c (copies k v a) k v h.by)) (record {
      goes = refl;
      there = p.there;
      grows = grows-same w.programs b.depth l.state l.state c.state c.state refl refl;
      wrote = wrote-column w g into k c.slots h.by.slots takes h.by.changed;
      fact = Some (record x { place = Some v });
      fits = λ y e. subst (λ (z : Known). Fits w g b into (l.temps from) l.state (record c { slots = h.by.slots }) z) (let q : record x { place = Some v } ≡ y = cc (e) in q) (record {
        held = p.held from x fact;
        stands = stands-moved w (ground_of w.programs l.state c.state) c.slots h.by.slots x v a x.type (l.temps from) place refl
            (h.values (settled-apart w g into from x a (p.settled from x fact) place takes)) (p.stands from x fact);
        word = λ n q. subst (λ (m : ℕ). IsWordFor x.type (slice_index h.by.slots m)) (let m : v ≡ n = cc (q) in m)
            (word-moved w c.slots h.by.slots v a x.type (h.values (settled-apart w g into from x a (p.settled from x fact) place takes)) (p.words from x fact a place));
        settled = record {
          slots = λ n q. inl ((let m : n ≡ v = cc (q) in m), takes.0, takes.1);
          plain = (p.settled from x fact).plain;
          asked = (p.settled from x fact).asked;
        };
      });
      leave = leave;
    })

-- a column lies within the slots, however wide
column-within : (w : Scene) (g : AreSlots w.slots) (into : Temp) (k : ℕ) → Takes (world_of w) into k → w.slots.column into + k ≤ w.slots.count
column-within w g into zero takes = let r = g.column_room into takes.0 in omega (arith, r)
column-within w g into (suc k) takes = let r = (g.columns into k takes.0 (let q = takes.1 in omega (arith, q))).below in omega (arith, r)

copy-unknown : (w : Scene) (g : AreSlots w.slots) (b : Running) (into from : Temp) (known after : Knowledge) (blocks : Blocks) (lines : Lines)
    → CopiedWords (world_of w) into from None known after lines
    → Follows w g b blocks known after (meaning.act (instr.Set (set.Copy into from)) (around_of w b)) lines
unfolding Line
copy-unknown w g b into from known after blocks lines (k, takes, takes_from, js, leave) l c p =
    gives-follows w g b known after blocks into l c p (Done (l.temps from) l.state) (run lines (context_of w b) c)
    (subst (λ (ks : Lines). Goal (run ks (context_of w b) c)) (sym js) (of (copied (context_of w b) c k v (w.slots.column from) room)))
  where
    v : ℕ
    v = w.slots.column into

    room : v + k ≤ length c.slots
    room = let r = column-within w g into k takes in let m = p.count in omega (arith, r, m)

    Goal : FlatOutcome → Type 0
    Goal q = Matches (Gave w g b known after into l c) (λ e s f d. StatesEndAlike w.programs e s f d.state) (Done (l.temps from) l.state) q

    of : Copied (context_of w b) c k v (w.slots.column from) → Goal (run (copies k v (w.slots.column from)) (context_of w b) c)
    of h = subst Goal (sym (alone (context_of w b) c (copies k v (w.slots.column from)) k v h.by)) (record {
      goes = refl;
      there = p.there;
      grows = grows-same w.programs b.depth l.state l.state c.state c.state refl refl;
      wrote = wrote-column w g into k c.slots h.by.slots takes h.by.changed;
      fact = None;
      fits = λ y e. absurd (cc (e));
      leave = leave;
    })

pub set-copy : (w : Scene) (g : AreSlots w.slots) (b : Running) (into from : Temp) (known after : Knowledge) (blocks : Blocks) (lines : Lines)
    → IsCuringSet (set.Copy into from) (world_of w) known after lines
    → Follows w g b blocks known after (meaning.act (instr.Set (set.Copy into from)) (around_of w b)) lines
set-copy w g b into from known after blocks lines h = by (known from) refl h
  where
    by : (o : Option Known) → known from ≡ o → CopiedWords (world_of w) into from o known after lines
        → Follows w g b blocks known after (meaning.act (instr.Set (set.Copy into from)) (around_of w b)) lines
    by None e k = copy-unknown w g b into from known after blocks lines k
    by (Some x) e k = copy-known w g b into from x known after blocks lines e k

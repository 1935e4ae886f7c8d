-- What is known at a point stays known where nothing of it changes, and behind an instruction that writes.
use Rattle.std.proofs.Common.{◌≡◌, ℕ, zero, suc, ◌+◌, ◌<◌, ◌≤◌, ◌⊎◌, inl, inr, Bool, true, false, List, ◌∷◌, length, slice_get, slice_index, Option, Some, refl, ap, sym, subst, ◌∙◌, arith, if◌then◌else◌, nat_eq}
use Rattle.std.proofs.lemmas.Bool.Decides.{nat_tests}
use Rattle.cc_base.specs.declared.kind.Kind.{Kind}
use Rattle.cc_base.specs.declared.kind.Kind.TheVariants.{Safe, Seq, Rtti, Wild}
use Rattle.c_types.specs.Widths.{width_of}
use Rattle.flat_mem.specs.Bytes.{bytes_at}
use Rattle.flat_mem.specs.Memory as flat_memory
use Rattle.src_mem.specs.Pointers.{Pointer, Value, Integer, Address}
use Rattle.src_mem.specs.Memory.{Memory, Planned}
use Rattle.src_mem.specs.State as source
use Rattle.src_mem.specs.Uses.{home}
use Rattle.src_mem.specs.Outlines.{lives_of}
use Rattle.src_mem.specs.Facts.{IsSoundAt}
use Rattle.cil_form.specs.declared.number.Temp.{Temp}
use Rattle.cil_form.specs.declared.number.Temp.TheVariants as temp
use Rattle.cil_form.specs.declared.number.Object.{Object}
use Rattle.cil_form.specs.declared.number.Object.TheVariants as object
use Rattle.cil_form.specs.declared.number.Work.TheVariants.{First, Second}
use Rattle.cil_form.specs.State as code
use Rattle.cil_form.specs.State.{with_temp, is_same}
use Rattle.cil_form.specs.Typing.{HeldType, IntegerOf, PointerTo, PlaceOf}
use Rattle.cured_code.specs.FlatState as flat
use Rattle.cured_code.specs.FlatState.{slot, PlacedArea}
use Rattle.sim_relation.specs.Ground.{Ground, ground, cells, pointer_words, word_number}
use Rattle.sim_relation.specs.Related.{Related}
use Rattle.sim_relation.specs.Points.{Known, Knowledge, Content, Number, Start, End, HoldsAs, AreWords, PointerStands, StandsFor, IsThere, object_number, content_word}
use Rattle.sim_relation.proofs.Room.{value_there}
use Rattle.cure_rules.specs.Slots.{AreSlots, Owner, Column, Working, Argument, Nought, Kept}
use Rattle.cure_rules.specs.Known.{Includes, Leaves, held_words}
use Rattle.sim_laws.specs.Scenes.{Programs, Scene, Running, setting_of}
use Rattle.sim_laws.specs.Points.{Holds, Grows, IsLaid, There, Point, IsSteady, AreInColumn, AreKept, Settled, IsSpared, Wrote, IsLasting, Passed, Fits, IsWordFor, ground_of, planned_at}
use Rattle.sim_laws.proofs.Laid.{laid-same}

pub weaker : (w : Scene) (g : AreSlots w.slots) (b : Running) (known less : Knowledge) (l : code.Local) (c : flat.Local)
    → Includes known less → Point w g b known l c → Point w g b less l c
weaker w g b known less l c h p = record {
  there = p.there;
  outer = p.outer;
  called = p.called;
  variables = p.variables;
  held = λ t x e. p.held t x (h t x e);
  stands = λ t x e. p.stands t x (h t x e);
  words = λ t x e. p.words t x (h t x e);
  kept = p.kept;
  nought = p.nought;
  count = p.count;
  settled = λ t x e. p.settled t x (h t x e);
}

-- Growth

there-more : (n m first : ℕ) (x : Content) → n ≤ m → IsThere n first x → IsThere m first x
there-more n m first (Number k) h q = tt
there-more n m first (Start o) h q = omega (arith, h, q)
there-more n m first (End o) h q = omega (arith, h, q)

pub grows-same : (p : Programs) (depth : ℕ) (s t : source.State) (c d : flat.State) → t.memory ≡ s.memory → d.areas ≡ c.areas → Grows p depth s t c d
grows-same p depth s t c d e f = record {
  more = subst (λ (m : Memory). length s.memory.objects ≤ length m.objects) (sym e) (omega arith);
  lived = λ k x h live some less. subst (λ (m : Memory). slice_get (lives_of m) k ≡ Some x) e h;
  held = λ k l x v h. subst (λ (m : Memory). Holds p (record t { memory = m }) k x v) (sym e) h;
  words = λ k l x q v h. ap (λ (g : Ground). pointer_words g q v) grounds;
  contents = λ first x h. ap (λ (g : Ground). content_word g first x) grounds;
}
  where
    grounds : ground_of p t d ≡ ground_of p s c
    grounds = ap (λ (m : Memory). ground (setting_of p) p.whole.node m.objects d.areas) e
        ∙ ap (λ (zs : List PlacedArea). ground (setting_of p) p.whole.node s.memory.objects zs) f

pub grows-then : (p : Programs) (depth : ℕ) (s t u : source.State) (c d e : flat.State) → Grows p depth s t c d → Grows p depth t u d e → Grows p depth s u c e
grows-then p depth s t u c d e g h = record {
  more = (let a = g.more in let b = h.more in omega (arith, a, b));
  lived = λ k x i live some less. g.lived k x (h.lived k x i live some less) live some less;
  held = λ k l x v i. h.held k l x v (g.held k l x v i);
  words = λ k l x q v i. h.words k l x q v (g.held k l x (Address v) i) ∙ g.words k l x q v i;
  contents = λ first x m. h.contents first x (there-more (length s.memory.objects) (length t.memory.objects) first x g.more m) ∙ g.contents first x m;
}

pub grows-less : (p : Programs) (depth less : ℕ) (s t : source.State) (c d : flat.State) → less ≤ depth → Grows p depth s t c d → Grows p less s t c d
grows-less p depth less s t c d h g = record {
  more = g.more;
  lived = λ k x i live some l. g.lived k x i live some (omega (arith, l, h));
  held = λ k l. g.held k (omega (arith, l, h));
  words = λ k l. g.words k (omega (arith, l, h));
  contents = g.contents;
}

-- an object that code may name is there
pub named-there : (p : Programs) (b : Running) (s : source.State) (c : flat.State) → There p b s c → (o : Object) (v : Planned)
    → planned_at p.whole.statics b.variables o ≡ Some v → object_number b.first o < length s.memory.objects
named-there p b s c h o v e = value_there (setting_of p) s.memory.objects (p.whole.kind v.node) v.type (home p.whole.table (object_number b.first o) v.type)
    (h.objects o v v.type e (inl refl)).0.held.value

-- and its area stays as long as it is
pub width-kept : (p : Programs) (depth : ℕ) (s t : source.State) (c d : flat.State) → Grows p depth s t c d → (first : ℕ) (o : Object)
    → object_number first o < length s.memory.objects
    → width_of p.whole.kind (cells (ground_of p t d) (object_number first o)) ≡ width_of p.whole.kind (cells (ground_of p s c) (object_number first o))
width-kept p depth s t c d grow first o less = let a = grow.contents first (Start o) less in let e = grow.contents first (End o) less in omega (arith, a, e)

-- the states behind an instruction
pub there-on : (p : Programs) (b : Running) (s t : source.State) (c d : flat.State) → b.outer ≤ b.depth → There p b s c
    → Related (setting_of p) p.whole.node t d → IsSoundAt (setting_of p) p.sites t.memory b.depth → IsLaid p t d → d.memory.frames ≡ c.memory.frames
    → Grows p b.depth s t c d → There p b t d
there-on p b s t c d out h r facts laid frames grow = record {
  related = r;
  facts = facts;
  laid = laid;
  frames = frames ∙ h.frames;
  deep = h.deep;
  made = (let a = h.made in let e = grow.more in omega (arith, a, e));
  areas = λ k l. h.areas k l ∙ sym (grow.contents b.first (Start (object.Variable (record { 0 = k }))) (let a = h.made in omega (arith, a, l)));
  own_frame = h.own_frame;
  globals = (let a = h.globals in let e = grow.more in omega (arith, a, e));
  statics = λ k l. h.statics k l ∙ sym (grow.contents 0 (Start (object.Static (record { 0 = k }))) (let a = h.globals in omega (arith, a, l)));
  objects = λ o v u e m. grow.held b.depth (omega arith) (PlaceOf v.node u) (Address (home p.whole.table (object_number b.first o) u)) (h.objects o v u e m);
  wide = λ o v e. width-kept p b.depth s t c d grow b.first o (named-there p b s c h o v e) ∙ h.wide o v e;
  own = λ some k x e live deep. h.own some k x (grow.lived k x e live (omega (arith, some, deep)) (omega (arith, deep))) live deep;
  since = grows-then p b.outer b.start s t b.flat_start c d h.since (grows-less p b.depth b.outer s t c d out grow);
}

-- the same where neither memory nor areas change, nor the input
pub there-same : (p : Programs) (b : Running) (s t : source.State) (c d : flat.State) → b.outer ≤ b.depth → There p b s c
    → Related (setting_of p) p.whole.node t d → t.memory ≡ s.memory → t.input ≡ s.input → d.areas ≡ c.areas → d.memory ≡ c.memory → There p b t d
there-same p b s t c d out h r memory input areas same =
    there-on p b s t c d out h r (subst (λ (m : Memory). IsSoundAt (setting_of p) p.sites m b.depth) (sym memory) h.facts)
    (laid-same p s t c d memory input areas same h.laid) (ap (λ (m : flat_memory.Memory). m.frames) same) (grows-same p b.depth s t c d memory areas)

-- Values in slots

pub some-words : (k : Kind) → 0 < word_number k
some-words Safe = omega arith
some-words Rtti = omega arith
some-words Seq = omega arith
some-words Wild = omega arith

pub same-slots : (k a : ℕ) (slots after : List ℕ) → ((j : ℕ) → j < k → slice_index after (a + j) ≡ slice_index slots (a + j))
    → bytes_at k after a ≡ bytes_at k slots a
unfolding bytes_at
same-slots zero a slots after h = refl
same-slots (suc k) a slots after h =
    ap (λ (n : ℕ). n ∷ bytes_at k after (a + 1)) (ap (slice_index after) (sym none) ∙ h 0 (omega arith) ∙ ap (slice_index slots) none)
    ∙ ap (λ (ns : List ℕ). slice_index slots a ∷ ns) (same-slots k (a + 1) slots after
    (λ j l. ap (slice_index after) (next j) ∙ h (suc j) (omega (arith, l)) ∙ ap (slice_index slots) (sym (next j))))
  where
    none : a + 0 ≡ a
    none = omega arith

    next : (j : ℕ) → a + 1 + j ≡ a + suc j
    next j = omega arith

pointer-on : (g h : Ground) (slots after : List ℕ) (x : Known) (n : _) (q : Pointer) → h.kind ≡ g.kind
    → pointer_words h (g.kind n) q ≡ pointer_words g (g.kind n) q
    → ((a : ℕ) → x.place ≡ Some a → (j : ℕ) → j < word_number (g.kind n) → slice_index after (a + j) ≡ slice_index slots (a + j))
    → PointerStands g slots x n q → PointerStands h after x n q
pointer-on g h slots after x n q kinds words same z = record {
  words = subst AreWords (sym at) z.words;
  in_slots = λ a e. subst (λ (k : Kind). bytes_at (word_number k) after a ≡ pointer_words h k q) (sym kind)
      (same-slots (word_number (g.kind n)) a slots after (same a e) ∙ z.in_slots a e ∙ sym words);
  sure = z.sure;
}
  where
    kind : h.kind n ≡ g.kind n
    kind = ap (λ f. f n) kinds

    at : pointer_words h (h.kind n) q ≡ pointer_words g (g.kind n) q
    at = ap (λ (k : Kind). pointer_words h k q) kind ∙ words

-- a value in its slots, where these and all that it speaks of stay
pub stands-on : (p : Programs) (depth : ℕ) (s t : source.State) (c d : flat.State) (slots after : List ℕ) (x : Known) (h : HeldType) (v : Value)
    → Grows p depth s t c d
    → ((a : ℕ) → x.place ≡ Some a → (j : ℕ) → j < held_words p.whole h → slice_index after (a + j) ≡ slice_index slots (a + j))
    → Holds p s depth h v → StandsFor (ground_of p s c) slots x h v → StandsFor (ground_of p t d) after x h v
stands-on p depth s t c d slots after x (IntegerOf i) (Integer z) grow same held q =
    λ a e. subst (HoldsAs x.form i z) (let r : a + 0 ≡ a = omega arith in sym (ap (slice_index after) (sym r) ∙ same a e 0 (omega arith) ∙ ap (slice_index slots) r)) (q a e)
stands-on p depth s t c d slots after x (IntegerOf i) (Address v) grow same held q = q
stands-on p depth s t c d slots after x (PointerTo n u) (Integer z) grow same held q = q
stands-on p depth s t c d slots after x (PointerTo n u) (Address v) grow same held q =
    pointer-on (ground_of p s c) (ground_of p t d) slots after x n v refl (grow.words depth (omega arith) (PointerTo n u) (p.whole.kind n) v held) same q
stands-on p depth s t c d slots after x (PlaceOf n u) (Integer z) grow same held q = q
stands-on p depth s t c d slots after x (PlaceOf n u) (Address v) grow same held q =
    pointer-on (ground_of p s c) (ground_of p t d) slots after x n v refl (grow.words depth (omega arith) (PlaceOf n u) (p.whole.kind n) v held) same q

-- Two temporaries are one where they are the same

numbers-same : (m n : ℕ) → nat_eq m n ≡ true → m ≡ n
numbers-same m n h = grind (arith, nat_tests, h)

pub same-temp : (t u : Temp) → is_same t u ≡ true → t ≡ u
same-temp (temp.Value m) (temp.Value n) h = ap (λ k. temp.Value k) (numbers-same m n h)
same-temp (temp.Value m) (temp.Switch n) h = absurd (cc (h))
same-temp (temp.Value m) (temp.Work w) h = absurd (cc (h))
same-temp (temp.Switch m) (temp.Value n) h = absurd (cc (h))
same-temp (temp.Switch m) (temp.Switch n) h = ap (λ k. temp.Switch k) (numbers-same m n h)
same-temp (temp.Switch m) (temp.Work w) h = absurd (cc (h))
same-temp (temp.Work v) (temp.Value n) h = absurd (cc (h))
same-temp (temp.Work v) (temp.Switch n) h = absurd (cc (h))
same-temp (temp.Work First) (temp.Work First) h = refl
same-temp (temp.Work First) (temp.Work Second) h = absurd (cc (h))
same-temp (temp.Work Second) (temp.Work First) h = absurd (cc (h))
same-temp (temp.Work Second) (temp.Work Second) h = refl

-- Where words stand, writing another temporary leaves them

pub steady-at : (w : Scene) (g : AreSlots w.slots) (t : Temp) (x : Known) → Settled w g.owner t x → (a : ℕ) → x.place ≡ Some a → (j : ℕ)
    → j < held_words w.programs.whole x.type → IsSteady t (g.owner (a + j))
steady-at w g t x h a e j less = by (h.slots a e)
  where
    by : AreInColumn w t x a ⊎ AreKept w g.owner x a → IsSteady t (g.owner (a + j))
    by (inl (is, temp, room)) = subst (IsSteady t) (sym (ap (λ (n : ℕ). g.owner (n + j)) is ∙ (g.columns t j temp (omega (arith, less, room))).is)) refl
    by (inr kept) = subst (IsSteady t) (sym (kept j less).1) tt

-- of what stands in slots there is a first slot
pub some-held : (p : Programs) (h : HeldType) → 0 < held_words p.whole h
some-held p (IntegerOf i) = omega arith
some-held p (PointerTo n u) = some-words (p.whole.kind n)
some-held p (PlaceOf n u) = some-words (p.whole.kind n)

first-same : (p : Programs) (h : HeldType) (P : ℕ → Type 0) (a : ℕ) → ((j : ℕ) → j < held_words p.whole h → P (a + j)) → P a
first-same p h P a all = subst P (let e : a + 0 ≡ a = omega arith in e) (all 0 (some-held p h))

pub word-on : (h : HeldType) (m n : ℕ) → n ≡ m → IsWordFor h m → IsWordFor h n
word-on h m n e q = subst (IsWordFor h) (sym e) q

-- Behind an instruction

steady-spared : (into t : Temp) (o : Owner) → is_same t into ≡ false → IsSteady t o → IsSpared into o
steady-spared into t (Column u j) e h = subst (λ (v : Temp). is_same v into ≡ false) (sym h) e
steady-spared into t (Working j) e h = absurd h
steady-spared into t (Argument j) e h = absurd h
steady-spared into t Nought e h = absurd h
steady-spared into t (Kept j) e h = tt

-- that has written a temporary
pub written : (w : Scene) (g : AreSlots w.slots) (b : Running) (known after : Knowledge) (into : Temp) (x : Option Known) (v : Value)
    (l : code.Local) (s : source.State) (c d : flat.Local) → Point w g b known l c
    → There w.programs b s d.state → Grows w.programs b.depth l.state s c.state d.state → Wrote w g into c.slots d.slots
    → ((y : Known) → x ≡ Some y → Fits w g b into v s d y) → Leaves known into x after
    → Point w g b after (record { state = s; temps = with_temp into v l.temps }) d
written w g b known after into x v l s c d p there grow wrote fits leave = record {
  there = there;
  outer = p.outer;
  called = p.called;
  variables = p.variables;
  held = λ t y e. held_after t y (is_same t into) refl (leave t y e);
  stands = λ t y e. stands_after t y (is_same t into) refl (leave t y e);
  words = λ t y e. words_after t y (is_same t into) refl (leave t y e);
  kept = λ j y e. (
    there-more (length l.state.memory.objects) (length s.memory.objects) b.first y.content grow.more (p.kept j y e).0,
    wrote.others y.slot (subst (IsSpared into) (sym (g.kept j y e).is) tt) ∙ (p.kept j y e).1 ∙ sym (grow.contents b.first y.content (p.kept j y e).0),
  );
  nought = wrote.others w.slots.nought (subst (IsSpared into) (sym g.nought.is) tt) ∙ p.nought;
  count = wrote.long ∙ p.count;
  settled = λ t y e. settled_after t y (is_same t into) refl (leave t y e);
}
  where
    held_after : (t : Temp) (y : Known) (q : Bool) → is_same t into ≡ q → (if q then x else known t) ≡ Some y
        → Holds w.programs s b.depth y.type (if q then v else l.temps t)
    held_after t y true e h = (fits y h).held
    held_after t y false e h = grow.held b.depth (omega arith) y.type (l.temps t) (p.held t y h)

    stands_after : (t : Temp) (y : Known) (q : Bool) → is_same t into ≡ q → (if q then x else known t) ≡ Some y
        → StandsFor (ground_of w.programs s d.state) d.slots y y.type (if q then v else l.temps t)
    stands_after t y true e h = (fits y h).stands
    stands_after t y false e h = stands-on w.programs b.depth l.state s c.state d.state c.slots d.slots y y.type (l.temps t) grow
        (λ a ae j jl. wrote.others (a + j) (steady-spared into t (g.owner (a + j)) e (steady-at w g t y (p.settled t y h) a ae j jl))) (p.held t y h) (p.stands t y h)

    words_after : (t : Temp) (y : Known) (q : Bool) → is_same t into ≡ q → (if q then x else known t) ≡ Some y → (a : ℕ) → y.place ≡ Some a
        → IsWordFor y.type (slot d a)
    words_after t y true e h = (fits y h).word
    words_after t y false e h = λ a ae. word-on y.type (slot c a) (slot d a)
        (first-same w.programs y.type (λ (n : ℕ). slot d n ≡ slot c n) a
        (λ j jl. wrote.others (a + j) (steady-spared into t (g.owner (a + j)) e (steady-at w g t y (p.settled t y h) a ae j jl))))
        (p.words t y h a ae)

    settled_after : (t : Temp) (y : Known) (q : Bool) → is_same t into ≡ q → (if q then x else known t) ≡ Some y → Settled w g.owner t y
    settled_after t y true e h = subst (λ (u : Temp). Settled w g.owner u y) (sym (same-temp t into e)) (fits y h).settled
    settled_after t y false e h = p.settled t y h

pub steady-lasting : (t : Temp) (o : Owner) → IsSteady t o → IsLasting o
steady-lasting t (Column u j) h = tt
steady-lasting t (Working j) h = absurd h
steady-lasting t (Argument j) h = absurd h
steady-lasting t Nought h = absurd h
steady-lasting t (Kept j) h = tt

-- that has written none
pub unwritten : (w : Scene) (g : AreSlots w.slots) (b : Running) (known after : Knowledge) (l : code.Local) (s : source.State) (c d : flat.Local)
    → Point w g b known l c → There w.programs b s d.state → Grows w.programs b.depth l.state s c.state d.state → Passed w g c.slots d.slots
    → Includes known after → Point w g b after (record l { state = s }) d
unwritten w g b known after l s c d p there grow passed less = record {
  there = there;
  outer = p.outer;
  called = p.called;
  variables = p.variables;
  held = λ t x e. grow.held b.depth (omega arith) x.type (l.temps t) (p.held t x (less t x e));
  stands = λ t x e. stands-on w.programs b.depth l.state s c.state d.state c.slots d.slots x x.type (l.temps t) grow
      (λ a ae j jl. passed.others (a + j) (steady-lasting t (g.owner (a + j)) (steady-at w g t x (p.settled t x (less t x e)) a ae j jl)))
      (p.held t x (less t x e)) (p.stands t x (less t x e));
  words = λ t x e a ae. word-on x.type (slot c a) (slot d a)
      (first-same w.programs x.type (λ (n : ℕ). slot d n ≡ slot c n) a
      (λ j jl. passed.others (a + j) (steady-lasting t (g.owner (a + j)) (steady-at w g t x (p.settled t x (less t x e)) a ae j jl))))
      (p.words t x (less t x e) a ae);
  kept = λ j y e. (
    there-more (length l.state.memory.objects) (length s.memory.objects) b.first y.content grow.more (p.kept j y e).0,
    passed.others y.slot (subst IsLasting (sym (g.kept j y e).is) tt) ∙ (p.kept j y e).1 ∙ sym (grow.contents b.first y.content (p.kept j y e).0),
  );
  nought = passed.others w.slots.nought (subst IsLasting (sym g.nought.is) tt) ∙ p.nought;
  count = passed.long ∙ p.count;
  settled = λ t x e. p.settled t x (less t x e);
}

-- Turns

pub related-turned : (p : Programs) (s : source.State) (c : flat.State) (n : ℕ) → Related (setting_of p) p.whole.node s c
    → Related (setting_of p) p.whole.node (record s { turns = n }) (record c { turns = n })
related-turned p s c n r = record {
  areas = record { count = r.areas.count; sizes = r.areas.sizes; lie = r.areas.lie; apart = r.areas.apart };
  holds = r.holds;
  sound = r.sound;
  small = r.small;
  room = record { frame_charge = r.room.frame_charge; heap_charge = r.room.heap_charge; frames = r.room.frames; heap = r.room.heap };
  outside = record { output = r.outside.output; read = r.outside.read; input = r.outside.input; turns = refl; entered = r.outside.entered };
  accesses = r.accesses;
}

pub there-turned : (p : Programs) (b : Running) (s : source.State) (c : flat.State) (n : ℕ) → b.outer ≤ b.depth → There p b s c
    → There p b (record s { turns = n }) (record c { turns = n })
there-turned p b s c n out there =
    there-same p b s (record s { turns = n }) c (record c { turns = n }) out there (related-turned p s c n there.related) refl refl refl refl

pub turned : (w : Scene) (g : AreSlots w.slots) (b : Running) (known : Knowledge) (l : code.Local) (c : flat.Local) (n : ℕ) → Point w g b known l c
    → Point w g b known (record l { state = record l.state { turns = n } }) (record c { state = record c.state { turns = n } })
turned w g b known l c n p = record {
  there = there-turned w.programs b l.state c.state n p.outer p.there;
  outer = p.outer;
  called = p.called;
  variables = p.variables;
  held = p.held;
  stands = p.stands;
  words = p.words;
  kept = p.kept;
  nought = p.nought;
  count = p.count;
  settled = p.settled;
}

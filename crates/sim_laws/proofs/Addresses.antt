-- The addresses of functions and of objects.
use Rattle.std.proofs.Common.{◌≡◌, ℕ, zero, suc, ◌+◌, ◌^◌, ◌<◌, ◌≤◌, inl, inr, pos, ◌+ℤ◌, true, List, [], ◌∷◌, ◌++◌, length, slice_get, slice_index, slice_set, Some, refl, ap, sym, subst, ◌∙◌, arith, length-set, get_or-set_other, get_or-set_same}
use Rattle.std.proofs.lemmas.Int.{ints}
use Rattle.std.proofs.lemmas.Option.{slice_get_within}
use Rattle.std.specs.List.{Contains}
use Rattle.cc_base.specs.declared.number.TypeId.{TypeId}
use Rattle.cc_base.specs.declared.number.NodeId.{NodeId}
use Rattle.cc_base.specs.declared.kind.Kind.{Kind}
use Rattle.cc_base.specs.declared.kind.Kind.TheVariants.{Safe, Seq, Rtti, Wild}
use Rattle.c_types.specs.Layouts.{size_of}
use Rattle.integers.specs.Words.{word}
use Rattle.integers.proofs.WordLaws.{word-below}
use Rattle.runs.specs.Outcome.{Done, Matches}
use Rattle.runs.specs.Control.{Goes}
use Rattle.flat_mem.specs.Bytes.{bytes_at}
use Rattle.flat_mem.specs.Memory.{Frame, newest_addresses}
use Rattle.src_mem.specs.Pointers.{Location, Pointer, At, Function, Value, Address}
use Rattle.src_mem.specs.Memory as stored
use Rattle.src_mem.specs.Memory.{Planned}
use Rattle.src_mem.specs.State as source
use Rattle.src_mem.specs.Checks.{fits_between}
use Rattle.src_mem.specs.Primitives.{block_pointer}
use Rattle.src_mem.specs.Outlines.{Life, LivesAt, life, lives_of, outlines_of}
use Rattle.src_mem.specs.Facts.{IsFunctionOf, IsValueOf}
use Rattle.src_mem.proofs.Outlines.{mapped-from}
use Rattle.cil_form.specs.declared.number.Temp.{Temp}
use Rattle.cil_form.specs.declared.number.FunctionNumber.{FunctionNumber}
use Rattle.cil_form.specs.declared.number.Object.{Object}
use Rattle.cil_form.specs.declared.number.Object.TheVariants as object
use Rattle.cil_form.specs.declared.instr.Set.TheVariants as set
use Rattle.cil_form.specs.declared.instr.Instr.TheVariants as instr
use Rattle.cil_form.specs.State as code
use Rattle.cil_form.specs.Typing.{PointerTo, PlaceOf}
use Rattle.cil_form.specs.Told.{IsAsked}
use Rattle.cil_form.specs.Meaning as meaning
use Rattle.cil_form.specs.Meaning.{pointer_to, number_of}
use Rattle.cured_code.specs.declared.instr.Instr as flat_code
use Rattle.cured_code.specs.declared.instr.Instr.TheVariants as flat_instr
use Rattle.cured_code.specs.FlatState as flat
use Rattle.cured_code.specs.FlatState.{slot, with_slot}
use Rattle.cured_code.specs.FlatMachine.{Context, run}
use Rattle.check_forms.specs.Pieces.{Line, Then}
use Rattle.sim_relation.specs.Ground.{Ground, address, pointer_words, word_number, function_word}
use Rattle.sim_relation.specs.Related.{Related}
use Rattle.sim_relation.specs.Points.{Known, Knowledge, Start, AreWords, PointerStands, Sure, IsNotNull, IsBased, IsWithin, IsFunction, IsTrueOf, object_number}
use Rattle.cure_rules.specs.Slots.{AreSlots}
use Rattle.cure_rules.specs.Known as rules
use Rattle.cure_rules.specs.Known.{IsKept, IsPointer, Sets, Takes, a_pointer, a_place}
use Rattle.cure_rules.specs.Setting.{FunctionWords, ObjectWords, IsCuringSet}
use Rattle.cure_rules.specs.Code.{Blocks}
use Rattle.sim_laws.specs.Scenes.{Programs, Scene, Running, setting_of, world_of, around_of, context_of}
use Rattle.sim_laws.specs.Points.{There, Point, Wrote, Settled, Fits, Holds, ground_of, planned_at}
use Rattle.sim_laws.specs.Statements.{Lines, FlatOutcome, StatesEndAlike, Follows}
use Rattle.sim_laws.proofs.Points.{grows-same}
use Rattle.sim_laws.proofs.Guards.{kept-at}
use Rattle.sim_laws.proofs.Giving.{Gave, gives-follows, Changed, wrote-column, wrote-none, changed-one, changed-more, column-room}
use Rattle.sim_laws.proofs.Sets.{words-more, words-none}

-- Slots

pub one-at : (slots : List ℕ) (a n : ℕ) → slice_index slots a ≡ n → bytes_at 1 slots a ≡ n ∷ []
unfolding bytes_at
one-at slots a n e = ap (λ (x : ℕ). x ∷ []) e

pub two-at : (slots : List ℕ) (a m n : ℕ) → slice_index slots a ≡ m → slice_index slots (a + 1) ≡ n → bytes_at 2 slots a ≡ m ∷ n ∷ []
unfolding bytes_at
two-at slots a m n e f = ap (λ (x : ℕ). x ∷ slice_index slots (a + 1) ∷ []) e ∙ ap (λ (y : ℕ). m ∷ y ∷ []) f

pub three-at : (slots : List ℕ) (a k m n : ℕ) → slice_index slots a ≡ k → slice_index slots (a + 1) ≡ m → slice_index slots (a + 1 + 1) ≡ n
    → bytes_at 3 slots a ≡ k ∷ m ∷ n ∷ []
unfolding bytes_at
three-at slots a k m n d e f = ap (λ (x : ℕ). x ∷ slice_index slots (a + 1) ∷ slice_index slots (a + 1 + 1) ∷ []) d
    ∙ ap (λ (y : ℕ). k ∷ y ∷ slice_index slots (a + 1 + 1) ∷ []) e ∙ ap (λ (z : ℕ). k ∷ m ∷ z ∷ []) f

-- an instruction has given what is known now, and the states are what they were
gave-known : (w : Scene) (g : AreSlots w.slots) (b : Running) (known after : Knowledge) (into : Temp) (v : Value) (l : code.Local) (c : flat.Local) (slots : List ℕ)
    (y : Known) → Point w g b known l c → Wrote w g into c.slots slots → Fits w g b into v l.state (record c { slots = slots }) y → rules.Leaves known into (Some y) after
    → Gave w g b known after into l c v l.state Goes (record c { slots = slots })
gave-known w g b known after into v l c slots y p wrote fits leave = record {
  goes = refl;
  there = p.there;
  grows = grows-same w.programs b.depth l.state l.state c.state c.state refl refl;
  wrote = wrote;
  fact = Some y;
  fits = λ x e. subst (λ (z : Known). Fits w g b into v l.state (record c { slots = slots }) z) (let q : y ≡ x = cc (e) in q) fits;
  leave = leave;
}

-- a pointer of a kind stands in slots
stands-by : (gr : Ground) (slots : List ℕ) (a : ℕ) (x : Known) (n : NodeId) (q : Pointer) (k : Kind) → gr.kind n ≡ k → x.place ≡ Some a
    → AreWords (pointer_words gr k q) → bytes_at (word_number k) slots a ≡ pointer_words gr k q → ((y : Sure) → Contains x.sure y → IsTrueOf y q)
    → PointerStands gr slots x n q
stands-by gr slots a x n q k e place words is sure = record {
  words = subst (λ (j : Kind). AreWords (pointer_words gr j q)) (sym e) words;
  in_slots = λ m f. subst (λ (i : ℕ). bytes_at (word_number (gr.kind n)) slots i ≡ pointer_words gr (gr.kind n) q) (let i : a ≡ m = cc (place, f) in i)
      (subst (λ (j : Kind). bytes_at (word_number j) slots a ≡ pointer_words gr j q) (sym e) is);
  sure = sure;
}

-- Functions

function-sure : (f : ℕ) (y : Sure) → Contains (IsNotNull ∷ IsFunction f ∷ []) y → IsTrueOf y (Function f)
function-sure f y (zero, l, e) = subst (λ (x : Sure). IsTrueOf x (Function f)) e refl
function-sure f y (suc zero, l, e) = subst (λ (x : Sure). IsTrueOf x (Function f)) e refl
function-sure f y (suc (suc k), l, e) = absurd (omega (arith, l))

pub set-function : (w : Scene) (g : AreSlots w.slots) (b : Running) (into : Temp) (f : FunctionNumber) (t : TypeId) (known after : Knowledge) (blocks : Blocks) (lines : Lines)
    → function_word f.0 < 2 ^ 64 → ((n : NodeId) (u : TypeId) → IsPointer (world_of w) t n u → IsAsked w.programs.sites (PointerTo n u)) → ((n : NodeId) (u : TypeId) → IsPointer (world_of w) t n u → IsFunctionOf (setting_of w.programs) u f.0)
    → IsCuringSet (set.Function into f t) (world_of w) known after lines
    → Follows w g b blocks known after (meaning.act (instr.Set (set.Function into f t)) (around_of w b)) lines
unfolding Line
set-function w g b into f t known after blocks lines small asked is (n, u, sure, pointer, truths, words, leave) l c p =
    gives-follows w g b known after blocks into l c p (Done (Address (Function f.0)) l.state) (run lines (context_of w b) c) (by (w.programs.whole.kind n) refl words)
  where
    v : ℕ
    v = w.slots.column into

    m : ℕ
    m = function_word f.0

    gr : Ground
    gr = ground_of w.programs l.state c.state

    Goal : FlatOutcome → Type 0
    Goal r = Matches (Gave w g b known after into l c) (λ e s h d. StatesEndAlike w.programs e s h d.state) (Done (Address (Function f.0)) l.state) r

    is-of : IsFunctionOf (setting_of w.programs) u f.0
    is-of = is n u pointer

    gave : (k : Kind) → w.programs.whole.kind n ≡ k → IsValueOf (setting_of w.programs) (outlines_of l.state.memory) k u (Function f.0) → Takes (world_of w) into (word_number k)
        → (slots : List ℕ) → Changed (word_number k) v c.slots slots → AreWords (pointer_words gr k (Function f.0))
        → bytes_at (word_number k) slots v ≡ pointer_words gr k (Function f.0)
        → Gave w g b known after into l c (Address (Function f.0)) l.state Goes (record c { slots = slots })
    gave k e value takes slots changed words stand = gave-known w g b known after into (Address (Function f.0)) l c slots (a_pointer v n u sure) p
        (wrote-column w g into (word_number k) c.slots slots takes changed) (record {
          held = record { held = record { value = subst (λ (j : Kind). IsValueOf (setting_of w.programs) (outlines_of l.state.memory) j u (Function f.0)) (sym e) value; reaches = tt }; made = λ s. tt };
          stands = stands-by gr slots v (a_pointer v n u sure) n (Function f.0) k e refl words stand (λ y h. function-sure f.0 y (truths y h));
          word = λ a q. tt;
          settled = record {
            slots = λ a q. inl (
              (let i : a ≡ v = cc (q) in i),
              takes.0,
              (let j : word_number (w.programs.whole.kind n) ≡ word_number k = ap word_number e in
                  let r = takes.1 in omega (arith, j, r)),
            );
            plain = tt;
            asked = asked n u pointer;
          };
        }) leave

    room : (k : ℕ) → Takes (world_of w) into k → k ≤ 3 → v + k ≤ length c.slots
    room k takes few = let r = column-room w g into k takes few in let i = p.count in omega (arith, r, i)

    by : (k : Kind) → w.programs.whole.kind n ≡ k → FunctionWords k (world_of w) into m lines → Goal (run lines (context_of w b) c)
    by Seq e h = absurd h
    by Rtti e h = absurd h
    by Safe e (takes, js) = subst (λ (ks : Lines). Goal (run ks (context_of w b) c)) (sym js)
        (gave Safe e is-of takes (slice_set c.slots v m) (changed-one c.slots v m) (words-more m [] small words-none)
        (one-at (slice_set c.slots v m) v m (get_or-set_same c.slots v m 0 (let r = room 1 takes (omega arith) in omega (arith, r)))))
    by Wild e (takes, js) = subst (λ (ks : Lines). Goal (run ks (context_of w b) c)) (sym js)
        (gave Wild e (is-of.function, is-of.found) takes (slice_set (slice_set c.slots v m) (v + 1) m)
        (changed-more 1 v m c.slots (slice_set (slice_set c.slots v m) (v + 1) m) (changed-one (slice_set c.slots v m) (v + 1) m))
        (words-more m (m ∷ []) small (words-more m [] small words-none))
        (two-at (slice_set (slice_set c.slots v m) (v + 1) m) v m m
        (get_or-set_other (slice_set c.slots v m) (v + 1) v m 0 (λ e. omega (arith, e)) ∙ get_or-set_same c.slots v m 0 (let r = room 2 takes (omega arith) in omega (arith, r)))
        (get_or-set_same (slice_set c.slots v m) (v + 1) m 0 (let r = room 2 takes (omega arith) in let i = length-set c.slots v m in omega (arith, r, i)))))

-- Objects

home-sure : (number m : ℕ) (t : TypeId) (y : Sure) → Contains (IsNotNull ∷ IsBased ∷ IsWithin m ∷ []) y → IsTrueOf y (block_pointer number t m)
home-sure number m t y (zero, l, e) = subst (λ (x : Sure). IsTrueOf x (block_pointer number t m)) e refl
home-sure number m t y (suc zero, l, e) = subst (λ (x : Sure). IsTrueOf x (block_pointer number t m)) e refl
home-sure number m t y (suc (suc zero), l, e) = subst (λ (x : Sure). IsTrueOf x (block_pointer number t m)) e (fits m)
  where
    fits : (m : ℕ) → fits_between 0 m (pos 0) m ≡ true
    fits m = grind (arith, ints)
home-sure number m t y (suc (suc (suc k)), l, e) = absurd (omega (arith, l))

no-offset : (n : ℕ) → n < 2 ^ 32 → word (pos n +ℤ pos 0) ≡ n
no-offset n h = omega arith

lives-there : (lives : List Life) (depth : ℕ) (x y : Location) → At x ≡ At y → LivesAt lives depth y.object → LivesAt lives depth x.object
lives-there lives depth x y e h = subst (λ (z : Location). LivesAt lives depth z.object) (let f : y ≡ x = cc (e) in f) h

-- the area of a living object has a small address
living-address : (p : Programs) (s : source.State) (c : flat.State) (depth n : ℕ) → Related (setting_of p) p.whole.node s c → LivesAt (lives_of s.memory) depth n
    → address (ground_of p s c) n < 2 ^ 32
living-address p s c depth n r h = of (mapped-from life s.memory.objects n h.life h.found)
  where
    of : (o : stored.Object) × (slice_get s.memory.objects n ≡ Some o) × (life o ≡ h.life) → address (ground_of p s c) n < 2 ^ 32
    of (o, found, same) = let a = (r.areas.lie n o found (ap (λ (x : Life). x.live) same ∙ h.live)).inside in let k = r.small in omega (arith, a, k)

-- What code says of an object that it names: it is one of the program's or of the function's, and the pointer to the whole of it is a place of
-- the type that it is named with.
pub record IsNamed (w : Scene) (b : Running) (o : Object) (home : NodeId) (t : TypeId) : Type 0 where
  pub planned : Planned
  pub found : planned_at w.programs.whole.statics w.variables o ≡ Some planned
  pub laid : length w.programs.whole.statics ≤ length w.programs.whole.addresses
  pub asked : IsAsked w.programs.sites (PlaceOf home t)
  pub place : (s : source.State) (c : flat.State) → b.variables ≡ w.variables → There w.programs b s c
      → Holds w.programs s b.depth (PlaceOf home t) (Address (block_pointer (object_number b.first o) t (size_of w.programs.whole.table t)))

-- the line that sets a slot to the address of an object
pub record SetsAddress (ctx : Context) (c : flat.Local) (a n : ℕ) (lines : Lines) : Type 0 where
  pub instr : flat_code.Instr
  pub is : lines ≡ instr ∷ []
  pub runs : (rest : Lines) → run (instr ∷ rest) ctx c ≡ run rest ctx (with_slot a n c)

pub sets-address : (w : Scene) (g : AreSlots w.slots) (b : Running) (known : Knowledge) (l : code.Local) (c : flat.Local) → Point w g b known l c
    → (o : Object) (home : NodeId) (t : TypeId) → IsNamed w b o home t → (a : ℕ) (lines : Lines) → Sets (world_of w) (Start o) a lines
    → SetsAddress (context_of w b) c a (address (ground_of w.programs l.state c.state) (object_number b.first o)) lines
unfolding Line
sets-address w g b known l c p (object.Static k) home t h a lines is = record {
  instr = flat_instr.Const a (slice_index w.programs.whole.addresses k.0);
  is = is;
  runs = λ rest. ap (λ (n : ℕ). run rest (context_of w b) (with_slot a n c))
      (p.there.statics k.0 (let i = slice_get_within w.programs.whole.statics k.0 h.planned h.found in let j = h.laid in omega (arith, i, j)));
}
sets-address w g b known l c p (object.Variable k) home t h a lines is = record {
  instr = flat_instr.Frame a k.0;
  is = is;
  runs = λ rest. ap (λ (n : ℕ). run rest (context_of w b) (with_slot a n c))
      (ap (λ (fs : List Frame). slice_index (newest_addresses fs) k.0) p.there.frames
      ∙ p.there.areas k.0 (let i = slice_get_within w.variables k.0 h.planned h.found in let j : length b.variables ≡ length w.variables = ap length p.variables in omega (arith, i, j)));
}

pub same-number : (w : Scene) (b : Running) (o : Object) → number_of (around_of w b) o ≡ object_number b.first o
same-number w b (object.Static k) = refl
same-number w b (object.Variable k) = refl

pub set-object : (w : Scene) (g : AreSlots w.slots) (b : Running) (into : Temp) (o : Object) (home : NodeId) (t : TypeId) (known after : Knowledge) (blocks : Blocks) (lines : Lines)
    → IsNamed w b o home t → IsCuringSet (set.Object into o home t) (world_of w) known after lines
    → Follows w g b blocks known after (meaning.act (instr.Set (set.Object into o home t)) (around_of w b)) lines
unfolding Line Then
set-object w g b into o home t known after blocks lines named (a, sure, truths, words, leave) l c p =
    gives-follows w g b known after blocks into l c p (Done (Address (pointer_to (around_of w b) o t)) l.state) (run lines (context_of w b) c)
    (subst (λ (k : ℕ). Goal (block_pointer k t size) (run lines (context_of w b) c)) (sym (same-number w b o)) (by (w.programs.whole.kind home) refl words))
  where
    v : ℕ
    v = w.slots.column into

    size : ℕ
    size = size_of w.programs.whole.table t

    number : ℕ
    number = object_number b.first o

    q : Pointer
    q = block_pointer number t size

    gr : Ground
    gr = ground_of w.programs l.state c.state

    n : ℕ
    n = address gr number

    Goal : Pointer → FlatOutcome → Type 0
    Goal r z = Matches (Gave w g b known after into l c) (λ e s h d. StatesEndAlike w.programs e s h d.state) (Done (Address r) l.state) z

    held : Holds w.programs l.state b.depth (PlaceOf home t) (Address q)
    held = named.place l.state c.state p.variables p.there

    small : n < 2 ^ 32
    small = living-address w.programs l.state c.state b.depth number p.there.related
        (lives-there (lives_of l.state.memory) b.depth (record { object = number; part = record { low = 0; high = size }; offset = pos 0; made = t }) held.1.location held.1.is held.1.reaches)

    first-word : word (pos n +ℤ pos 0) ≡ n
    first-word = no-offset n small

    gave : (k : Kind) → w.programs.whole.kind home ≡ k → (slots : List ℕ) → Wrote w g into c.slots slots → AreWords (pointer_words gr k q)
        → bytes_at (word_number k) slots a ≡ pointer_words gr k q → Settled w g.owner into (a_place a home t sure)
        → Gave w g b known after into l c (Address q) l.state Goes (record c { slots = slots })
    gave k e slots wrote words stand settled = gave-known w g b known after into (Address q) l c slots (a_place a home t sure) p wrote (record {
      held = held;
      stands = stands-by gr slots a (a_place a home t sure) home q k e refl words stand (λ y h. home-sure number size t y (truths y h));
      word = λ a q. tt;
      settled = settled;
    }) leave

    column : (k : Kind) → w.programs.whole.kind home ≡ k → a ≡ v → Takes (world_of w) into (word_number k) → Settled w g.owner into (a_place a home t sure)
    column k e same takes = record {
      slots = λ m f. inl (
        (let i : a ≡ m = cc (f) in let j : m ≡ v = sym i ∙ same in j),
        takes.0,
        (let j : word_number (w.programs.whole.kind home) ≡ word_number k = ap word_number e in
            let r = takes.1 in omega (arith, j, r)),
      );
      plain = tt;
      asked = named.asked;
    }

    room : (k : ℕ) → a ≡ v → Takes (world_of w) into k → k ≤ 3 → a + k ≤ length c.slots
    room k same takes few = let r = column-room w g into k takes few in let i = p.count in omega (arith, r, i, same)

    wrote : (k : ℕ) (slots : List ℕ) → a ≡ v → Takes (world_of w) into k → Changed k a c.slots slots → Wrote w g into c.slots slots
    wrote k slots same takes changed = wrote-column w g into k c.slots slots takes (subst (λ (i : ℕ). Changed k i c.slots slots) same changed)

    safe-words : AreWords ((n + 0) ∷ [])
    safe-words = words-more (n + 0) [] (let h = small in omega (arith, h)) words-none

    kept : w.programs.whole.kind home ≡ Safe → IsKept (world_of w) a (Start o) → Goal q (Done Goes c)
    kept e h = of (kept-at w (record { slot = a; content = Start o }) h)
      where
        of : (k : ℕ) × (slice_get w.slots.kept k ≡ Some (record { slot = a; content = Start o })) → Goal q (Done Goes c)
        of (k, found) = gave Safe e c.slots (wrote-none w g into c.slots) safe-words
            (one-at c.slots a (n + 0) (let r = (p.kept k (record { slot = a; content = Start o }) found).1 in let z : n ≡ n + 0 = omega arith in r ∙ z)) (record {
              slots = λ m f. inr (λ j less. (
                k,
                ap g.owner (let i : a ≡ m = cc (f) in let x : word_number (w.programs.whole.kind home) ≡ 1 = ap word_number e in let r : m + j ≡ a = omega (arith, less, i, x) in r)
                    ∙ (g.kept k (record { slot = a; content = Start o }) found).is,
              ));
              plain = tt;
              asked = named.asked;
            })

    safe : w.programs.whole.kind home ≡ Safe → a ≡ v → Takes (world_of w) into 1 → SetsAddress (context_of w b) c a n lines → Goal q (run lines (context_of w b) c)
    safe e same takes h = subst (Goal q) (sym (ap (λ (js : Lines). run js (context_of w b) c) h.is ∙ h.runs []))
        (gave Safe e (slice_set c.slots a n) (wrote 1 (slice_set c.slots a n) same takes (changed-one c.slots a n)) safe-words
        (one-at (slice_set c.slots a n) a (n + 0) (let z : n ≡ n + 0 = omega arith in
        get_or-set_same c.slots a n 0 (let r = room 1 same takes (omega arith) in omega (arith, r)) ∙ z)) (column Safe e same takes))

    wild : w.programs.whole.kind home ≡ Wild → a ≡ v → Takes (world_of w) into 2 → (x y : Lines) → SetsAddress (context_of w b) c a n x
        → y ≡ flat_instr.Copy (a + 1) a ∷ [] → lines ≡ x ++ y → Goal q (run lines (context_of w b) c)
    wild e same takes x y h copies is = subst (Goal q)
        (sym (ap (λ (js : Lines). run js (context_of w b) c) (is ∙ ap (λ (js : Lines). js ++ y) h.is ∙ ap (λ (js : Lines). h.instr ∷ js) copies)
        ∙ h.runs (flat_instr.Copy (a + 1) a ∷ [])))
        (gave Wild e two (wrote 2 two same takes (changed-more 1 a n c.slots two (changed-one one (a + 1) m)))
        (words-more (word (pos n +ℤ pos 0)) (n ∷ []) (word-below (pos n +ℤ pos 0)) (words-more n [] (let h = small in omega (arith, h)) words-none))
        (two-at two a (word (pos n +ℤ pos 0)) n
        (get_or-set_other one (a + 1) a m 0 (λ f. omega (arith, f)) ∙ is-n ∙ sym first-word)
        (get_or-set_same one (a + 1) m 0 (let r = space in let i = length-set c.slots a n in omega (arith, r, i)) ∙ is-n)) (column Wild e same takes))
      where
        one : List ℕ
        one = slice_set c.slots a n

        m : ℕ
        m = slice_index one a

        two : List ℕ
        two = slice_set one (a + 1) m

        space : a + 2 ≤ length c.slots
        space = room 2 same takes (omega arith)

        is-n : m ≡ n
        is-n = get_or-set_same c.slots a n 0 (let r = space in omega (arith, r))

    by : (k : Kind) → w.programs.whole.kind home ≡ k → ObjectWords k (world_of w) into o a lines → Goal q (run lines (context_of w b) c)
    by Seq e h = absurd h
    by Rtti e h = absurd h
    by Safe e (inl (h, is)) = subst (λ (js : Lines). Goal q (run js (context_of w b) c)) (sym is) (kept e h)
    by Safe e (inr (same, takes, is)) = safe e same takes (sets-address w g b known l c p o home t named a lines is)
    by Wild e (same, takes, (x, y, sets, copies, is)) = wild e same takes x y (sets-address w g b known l c p o home t named a x sets) copies is

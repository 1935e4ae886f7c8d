-- The test of a value: an integer that stands exactly, or with zeros above its bytes, and pointers of all kinds.
use Rattle.std.proofs.Common.{◌≡◌, ◌≢◌, ℕ, suc, ◌+◌, ◌≤◌, Bool, true, not, List, [], ◌∷◌, slice_get, Some, refl, ap, sym, subst, ◌∙◌, arith, get_or-set_same}
use Rattle.std.specs.Prelude.{bit_or}
use Rattle.std.proofs.lemmas.Nat.{le_or_l, le_or_r}
use Rattle.cc_base.specs.declared.number.TypeId.{TypeId}
use Rattle.cc_base.specs.declared.kind.Kind.{Kind}
use Rattle.cc_base.specs.declared.kind.Kind.TheVariants.{Safe, Seq, Rtti, Wild}
use Rattle.c_types.specs.Widths.{before}
use Rattle.integers.specs.Words.{is_true_word}
use Rattle.integers.proofs.WordLaws.{is_true_word-other}
use Rattle.flat_mem.specs.Bytes.{bytes_at}
use Rattle.flat_mem.specs.Placement.{function_address}
use Rattle.src_mem.specs.Pointers.{Location, Pointer, Null, Number, At as AtPointer, Function, Value, Integer, Address, is_null, is_true}
use Rattle.src_mem.specs.Memory.{Object}
use Rattle.src_mem.specs.State as source
use Rattle.src_mem.specs.Outlines.{Life, life, outlines_of, lives_of, LivesAt}
use Rattle.src_mem.specs.Facts.{IsValueOf, Reaches}
use Rattle.src_mem.proofs.Outlines.{mapped-from}
use Rattle.cil_form.specs.declared.number.Temp.{Temp}
use Rattle.cil_form.specs.State as code
use Rattle.cil_form.specs.Typing.{HeldType, IntegerOf, PointerTo, PlaceOf}
use Rattle.cured_code.specs.declared.instr.Instr.TheVariants as flat_instr
use Rattle.cured_code.specs.FlatState as flat
use Rattle.cured_code.specs.FlatState.{slot, with_slot}
use Rattle.check_forms.specs.Pieces.{Line}
use Rattle.sim_relation.specs.Ground.{Ground, address, cells, natural, first_word, second_word, pointer_words, word_number}
use Rattle.sim_relation.specs.Related.{Related}
use Rattle.sim_relation.specs.Points.{Low, Known, Knowledge, StandsFor}
use Rattle.cure_rules.specs.Slots.{AreSlots, First, slot_of}
use Rattle.cure_rules.specs.Setting as rules
use Rattle.cure_rules.specs.Setting.{is_wide_kind, TestedBy, IsTested}
use Rattle.sim_laws.specs.Scenes.{Programs, Scene, Running, setting_of, world_of}
use Rattle.sim_laws.specs.Points.{Holds, Point, IsPlainType, ground_of}
use Rattle.sim_laws.specs.Statements.{Lines, Tested}
use Rattle.sim_laws.proofs.Points.{unwritten, grows-same}
use Rattle.sim_laws.proofs.Guards.{passed-role, role-there}
use Rattle.sim_laws.proofs.Integers.{true-integer}

-- Which words of a pointer say that it isn't null

abbrev tells : Kind → ℕ → ℕ → Bool
tells Safe a b = is_true_word a
tells Rtti a b = is_true_word a
tells Seq a b = is_true_word (bit_or a b)
tells Wild a b = is_true_word (bit_or a b)

or-first : (a b : ℕ) → a ≢ 0 → is_true_word (bit_or a b) ≡ true
or-first a b h = is_true_word-other (bit_or a b) (λ e. h (let l = le_or_l a b in omega (arith, l, e)))

or-second : (a b : ℕ) → b ≢ 0 → is_true_word (bit_or a b) ≡ true
or-second a b h = is_true_word-other (bit_or a b) (λ e. h (let l = le_or_r a b in omega (arith, l, e)))

tells-first : (k : Kind) (a b : ℕ) → a ≢ 0 → tells k a b ≡ true
tells-first Safe a b h = is_true_word-other a h
tells-first Rtti a b h = is_true_word-other a h
tells-first Seq a b h = or-first a b h
tells-first Wild a b h = or-first a b h

abbrev Tells : Ground → Kind → Pointer → Type 0
Tells g k q = tells k (first_word g k q) (second_word g k q) ≡ not (is_null q)

tells-null : (g : Ground) (k : Kind) → Tells g k Null
tells-null g Safe = refl
tells-null g Rtti = refl
tells-null g Seq = refl
tells-null g Wild = refl

tells-at : (g : Ground) (k : Kind) (l : Location) → 8 ≤ address g l.object → Tells g k (AtPointer l)
tells-at g Safe l h = is_true_word-other (address g l.object + before g.kind (cells g l.object) (natural l.offset)) (λ e. omega (arith, h, e))
tells-at g Rtti l h = is_true_word-other (address g l.object + before g.kind (cells g l.object) (natural l.offset)) (λ e. omega (arith, h, e))
tells-at g Seq l h = or-second (first_word g Seq (AtPointer l)) (address g l.object + before g.kind (cells g l.object) l.part.low) (λ e. omega (arith, h, e))
tells-at g Wild l h = or-second (first_word g Wild (AtPointer l)) (address g l.object) (λ e. omega (arith, h, e))

-- an object that lives has an area above the first word
lives-above : (p : Programs) (s : source.State) (c : flat.State) (depth n : ℕ) → Related (setting_of p) p.whole.node s c → LivesAt (lives_of s.memory) depth n
    → 8 ≤ address (ground_of p s c) n
lives-above p s c depth n r h = of (mapped-from life s.memory.objects n h.life h.found)
  where
    of : (o : Object) × (slice_get s.memory.objects n ≡ Some o) × (life o ≡ h.life) → 8 ≤ address (ground_of p s c) n
    of (o, found, is) = (r.areas.lie n o found (ap (λ (x : Life). x.live) is ∙ h.live)).above

tells-held : (p : Programs) (s : source.State) (c : flat.State) (depth : ℕ) (k : Kind) (t : TypeId) (q : Pointer) → Related (setting_of p) p.whole.node s c
    → IsValueOf (setting_of p) (outlines_of s.memory) k t q → Reaches (lives_of s.memory) depth q → Tells (ground_of p s c) k q
tells-held p s c depth k t Null r value reaches = tells-null (ground_of p s c) k
tells-held p s c depth Safe t (Number n) r value reaches = absurd value
tells-held p s c depth Rtti t (Number n) r value reaches = absurd value
tells-held p s c depth Seq t (Number n) r value reaches = or-first n 0 value.0
tells-held p s c depth Wild t (Number n) r value reaches = or-first n 0 value.0
tells-held p s c depth k t (AtPointer l) r value reaches = tells-at (ground_of p s c) k l (lives-above p s c depth l.object r reaches)
tells-held p s c depth k t (Function f) r value reaches = tells-first k (function_address (suc f)) (second_word (ground_of p s c) k (Function f)) (λ e. omega (arith, e))

-- The lines

-- none: the slot stands for the value
tested-none : (w : Scene) (g : AreSlots w.slots) (b : Running) (known : Knowledge) (t : Temp) (p a : ℕ) (lines : Lines) (l : code.Local) (c : flat.Local)
    → Point w g b known l c → a ≡ p → lines ≡ [] → is_true_word (slot c p) ≡ is_true (l.temps t) → Tested w g b known t a lines l c
tested-none w g b known t p a lines l c point same is truth =
    subst (λ (n : ℕ). Tested w g b known t n lines l c) (sym same) (subst (λ (js : Lines). Tested w g b known t p js l c) (sym is)
    (record { after = c; runs = λ rest. refl; point = point; truth = truth }))

-- the two first words
tested-or : (w : Scene) (g : AreSlots w.slots) (b : Running) (known : Knowledge) (t : Temp) (p a : ℕ) (lines : Lines) (l : code.Local) (c : flat.Local)
    → Point w g b known l c → a ≡ slot_of w.slots First → lines ≡ flat_instr.Or a p (p + 1) ∷ []
    → is_true_word (bit_or (slot c p) (slot c (p + 1))) ≡ is_true (l.temps t) → Tested w g b known t a lines l c
tested-or w g b known t p a lines l c point same is truth =
    subst (λ (js : Lines). Tested w g b known t a js l c) (sym is) (subst (λ (n : ℕ). Tested w g b known t n (flat_instr.Or n p (p + 1) ∷ []) l c) (sym same) (record {
      after = with_slot x both c;
      runs = λ rest. refl;
      point = unwritten w g b known known l l.state c (with_slot x both c) point point.there
          (grows-same w.programs b.depth l.state l.state c.state c.state refl refl) (passed-role w g c.slots First both) (λ t x e. e);
      truth = ap is_true_word (get_or-set_same c.slots x both 0 (let k = role-there w g First in let e = point.count in omega (arith, k, e))) ∙ truth;
    }))
  where
    x : ℕ
    x = slot_of w.slots First

    both : ℕ
    both = bit_or (slot c p) (slot c (p + 1))

abbrev head : List ℕ → ℕ
head [] = 0
head (x ∷ xs) = x

abbrev next : List ℕ → ℕ
next [] = 0
next (x ∷ xs) = head xs

tested-pointer : (w : Scene) (g : AreSlots w.slots) (b : Running) (known : Knowledge) (t : Temp) (k : Kind) (q : Pointer) (p a : ℕ) (lines : Lines) (l : code.Local) (c : flat.Local)
    → Point w g b known l c → l.temps t ≡ Address q → bytes_at (word_number k) c.slots p ≡ pointer_words (ground_of w.programs l.state c.state) k q
    → Tells (ground_of w.programs l.state c.state) k q → TestedBy (is_wide_kind k) (world_of w) p a lines → Tested w g b known t a lines l c
unfolding Line bytes_at
tested-pointer w g b known t Safe q p a lines l c point value words tell by =
    tested-none w g b known t p a lines l c point by.0 by.1 (ap is_true_word (ap head words) ∙ tell ∙ ap is_true (sym value))
tested-pointer w g b known t Rtti q p a lines l c point value words tell by =
    tested-none w g b known t p a lines l c point by.0 by.1 (ap is_true_word (ap head words) ∙ tell ∙ ap is_true (sym value))
tested-pointer w g b known t Seq q p a lines l c point value words tell by =
    tested-or w g b known t p a lines l c point by.0 by.1
    (ap (λ (n : ℕ). is_true_word (bit_or n (slot c (p + 1)))) (ap head words) ∙ ap (λ (n : ℕ). is_true_word (bit_or (first_word (ground_of w.programs l.state c.state) Seq q) n)) (ap next words) ∙ tell ∙ ap is_true (sym value))
tested-pointer w g b known t Wild q p a lines l c point value words tell by =
    tested-or w g b known t p a lines l c point by.0 by.1
    (ap (λ (n : ℕ). is_true_word (bit_or n (slot c (p + 1)))) (ap head words) ∙ ap (λ (n : ℕ). is_true_word (bit_or (first_word (ground_of w.programs l.state c.state) Wild q) n)) (ap next words) ∙ tell ∙ ap is_true (sym value))

tested-by : (w : Scene) (g : AreSlots w.slots) (b : Running) (known : Knowledge) (t : Temp) (x : Known) (h : HeldType) (v : Value) (p a : ℕ) (lines : Lines)
    (l : code.Local) (c : flat.Local) → Point w g b known l c → l.temps t ≡ v → x.place ≡ Some p → x.form ≢ Low → IsPlainType h
    → Holds w.programs l.state b.depth h v → StandsFor (ground_of w.programs l.state c.state) c.slots x h v
    → TestedBy (rules.is_wide w.programs.whole h) (world_of w) p a lines → Tested w g b known t a lines l c
unfolding Line
tested-by w g b known t x (IntegerOf i) (Integer z) p a lines l c point value place form plain held stands by =
    tested-none w g b known t p a lines l c point by.0 by.1 (true-integer i plain x.form form z (slot c p) held (stands p place) ∙ ap is_true (sym value))
tested-by w g b known t x (IntegerOf i) (Address q) p a lines l c point value place form plain held stands by = absurd held
tested-by w g b known t x (PointerTo n u) (Integer z) p a lines l c point value place form plain held stands by = absurd held
tested-by w g b known t x (PointerTo n u) (Address q) p a lines l c point value place form plain held stands by =
    tested-pointer w g b known t (w.programs.whole.kind n) q p a lines l c point value (stands.in_slots p place)
    (tells-held w.programs l.state c.state b.depth (w.programs.whole.kind n) u q point.there.related held.held.value held.held.reaches) by
tested-by w g b known t x (PlaceOf n u) (Integer z) p a lines l c point value place form plain held stands by = absurd held
tested-by w g b known t x (PlaceOf n u) (Address q) p a lines l c point value place form plain held stands by =
    tested-pointer w g b known t (w.programs.whole.kind n) q p a lines l c point value (stands.in_slots p place)
    (subst (λ (y : Pointer). Tells (ground_of w.programs l.state c.state) (w.programs.whole.kind n) y) (sym held.1.is)
    (tells-at (ground_of w.programs l.state c.state) (w.programs.whole.kind n) held.1.location
    (lives-above w.programs l.state c.state b.depth held.1.location.object point.there.related held.1.reaches))) by

-- THE LAW OF TESTS, for all that is held
pub tested : (w : Scene) (g : AreSlots w.slots) (b : Running) (known : Knowledge) (t : Temp) (a : ℕ) (lines : Lines) → IsTested (world_of w) known t a lines
    → (l : code.Local) (c : flat.Local) → Point w g b known l c → Tested w g b known t a lines l c
tested w g b known t a lines (x, p, e, place, form, by) l c point =
    tested-by w g b known t x x.type (l.temps t) p a lines l c point refl place form (point.settled t x e).plain (point.held t x e) (point.stands t x e) by

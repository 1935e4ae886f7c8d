-- The C library: `free`, `putchar`, `exit` and `getchar`.
use Rattle.std.proofs.Common.{◌≡◌, ℕ, zero, suc, ◌+◌, ◌%◌, ◌<◌, ℤ, pos, negsuc, List, [], ◌∷◌, ◌++◌, drop, slice_get, slice_index, Option, Some, None, refl, ap, sym, subst, ◌∙◌, arith}
use Rattle.std.proofs.lemmas.Bool.Decides.{nat_tests}
use Rattle.integers.specs.Words.{word, residue, low_byte}
use Rattle.integers.specs.Arithmetic.{int, converted}
use Rattle.runs.specs.Outcome.{Outcome, Ended, Done, done, leaves, from, Matches, ◌>>◌}
use Rattle.runs.specs.Control.{Goes, then_go}
use Rattle.runs.specs.Input.{Input, Closed, Open, left}
use Rattle.integers.specs.Operators.{greatest_word}
use Rattle.src_mem.specs.Pointers.{Value, Integer}
use Rattle.src_mem.specs.State as source
use Rattle.src_mem.specs.State.{bytes_of}
use Rattle.src_mem.specs.Primitives.{next_byte, with_read}
use Rattle.src_mem.specs.Runtime.{putchar, exits}
use Rattle.cil_form.specs.declared.number.Temp.{Temp}
use Rattle.cil_form.specs.declared.instr.RuntimeCall.TheVariants as runtime
use Rattle.cil_form.specs.declared.instr.Instr.{Instr}
use Rattle.cil_form.specs.declared.instr.Instr.TheVariants as instr
use Rattle.cil_form.specs.State as code
use Rattle.cil_form.specs.State.{with_temp, beside}
use Rattle.cil_form.specs.Meaning as meaning
use Rattle.cured_code.specs.declared.instr.Instr.TheVariants as flat_instr
use Rattle.cured_code.specs.declared.instr.Narrow.TheVariants.{U8}
use Rattle.cured_code.specs.FlatState as flat
use Rattle.cured_code.specs.FlatState.{slot, byte_read, put_out, read_into, with_slot}
use Rattle.cured_code.specs.FlatMachine.{run}
use Rattle.check_forms.specs.Pieces.{Line}
use Rattle.sim_relation.specs.Related.{Related}
use Rattle.sim_relation.specs.Points.{Low, Knowledge}
use Rattle.cure_rules.specs.Slots.{AreSlots}
use Rattle.cure_rules.specs.Calling.{IsCuringRuntime}
use Rattle.cure_rules.specs.Code.{Blocks}
use Rattle.sim_laws.specs.Scenes.{Programs, Scene, Running, setting_of, world_of, around_of, context_of}
use Rattle.sim_laws.specs.Points.{Point}
use Rattle.sim_laws.specs.Statements.{Lines, CodeOutcome, FlatOutcome, StatesEndAlike, Match, Follows, AllFollow}
use Rattle.sim_laws.proofs.Points.{grows-same, there-same, unwritten}
use Rattle.sim_laws.proofs.Guards.{passed-none}
use Rattle.sim_laws.proofs.Giving.{Gave, gives-follows, wrote-none}
use Rattle.sim_laws.proofs.Calculations.{Operand, lowly, int-size, exact-gives}

pub free-follows : (w : Scene) (g : AreSlots w.slots) (b : Running) (into p : Temp) (known after : Knowledge) (blocks : Blocks) (lines : Lines)
    → IsCuringRuntime (runtime.Free into p) (world_of w) known after lines
    → Follows w g b blocks known after (meaning.act (instr.Runtime (runtime.Free into p)) (around_of w b)) lines
unfolding Line
free-follows w g b into p known after blocks lines (is, leave) l c point =
    subst (λ (js : Lines). Match w g b after blocks (meaning.act (instr.Runtime (runtime.Free into p)) (around_of w b) l) (run js (context_of w b) c)) (sym is)
    (gives-follows w g b known after blocks into l c point (Done (Integer (pos 0)) l.state) (Done Goes c) (record {
      goes = refl;
      there = point.there;
      grows = grows-same w.programs b.depth l.state l.state c.state c.state refl refl;
      wrote = wrote-none w g into c.slots;
      fact = None;
      fits = λ y e. absurd (cc (e));
      leave = leave;
    }))

-- the low byte of an int, by its low bytes
low-byte : (n : ℕ) (z : ℤ) → n % 4294967296 ≡ residue z 4294967296 → low_byte n ≡ residue z 256
low-byte n (pos m) h = omega (arith, h)
low-byte n (negsuc m) h = omega (arith, h)

pub exit-follows : (w : Scene) (g : AreSlots w.slots) (b : Running) (into v : Temp) (known after : Knowledge) (blocks : Blocks) (lines : Lines)
    → IsCuringRuntime (runtime.Exit into v) (world_of w) known after lines
    → Follows w g b blocks known after (meaning.act (instr.Runtime (runtime.Exit into v)) (around_of w b)) lines
unfolding Line
exit-follows w g b into v known after blocks lines (a, hv, is, leave) l c point =
    subst (λ (js : Lines). Match w g b after blocks (meaning.act (instr.Runtime (runtime.Exit into v)) (around_of w b) l) (run js (context_of w b) c)) (sym is)
    (by (lowly w g b known l c point v int a int-size hv))
  where
    by : Operand l c v int a Low
        → Match w g b after blocks (meaning.act (instr.Runtime (runtime.Exit into v)) (around_of w b) l) (run (flat_instr.Exit a ∷ []) (context_of w b) c)
    by m = gives-follows w g b known after blocks into l c point (exits (l.temps v ∷ []) l.state) (run (flat_instr.Exit a ∷ []) (context_of w b) c)
        (subst (λ (u : Value). Matches (Gave w g b known after into l c) (λ e s f d. StatesEndAlike w.programs e s f d.state) (exits (u ∷ []) l.state)
        (run (flat_instr.Exit a ∷ []) (context_of w b) c)) (sym m.value)
        (low-byte (slot c a) m.z m.holds, point.there.related))

-- one more byte of output

related-put : (p : Programs) (s : source.State) (c : flat.State) (n : ℕ) → Related (setting_of p) p.whole.node s c
    → Related (setting_of p) p.whole.node (record s { output = s.output ++ n ∷ [] }) (record c { output = c.output ++ n ∷ [] })
related-put p s c n r = record {
  areas = record { count = r.areas.count; sizes = r.areas.sizes; lie = r.areas.lie; apart = r.areas.apart };
  holds = r.holds;
  sound = r.sound;
  small = r.small;
  room = record { frame_charge = r.room.frame_charge; heap_charge = r.room.heap_charge; frames = r.room.frames; heap = r.room.heap };
  outside = record {
    output = ap (λ (ns : List ℕ). ns ++ n ∷ []) r.outside.output;
    read = r.outside.read;
    input = r.outside.input;
    turns = r.outside.turns;
    entered = r.outside.entered;
  };
  accesses = r.accesses;
}

byte-range : (z : ℤ) → converted int (pos (residue z 256)) ≡ pos (residue z 256)
byte-range z = small (residue z 256) (below z)
  where
    below : (z : ℤ) → residue z 256 < 256
    below (pos n) = omega arith
    below (negsuc n) = omega arith

    small : (n : ℕ) → n < 256 → converted int (pos n) ≡ pos n
    small n h = grind (arith, nat_tests, h)

byte-word : (z : ℤ) → residue z 256 ≡ word (pos (residue z 256))
byte-word (pos n) = omega arith
byte-word (negsuc n) = omega arith

pub put-follows : (w : Scene) (g : AreSlots w.slots) (b : Running) (into v : Temp) (known after : Knowledge) (blocks : Blocks) (lines : Lines)
    → IsCuringRuntime (runtime.Putchar into v) (world_of w) known after lines
    → Follows w g b blocks known after (meaning.act (instr.Runtime (runtime.Putchar into v)) (around_of w b)) lines
unfolding Line
put-follows w g b into v known after blocks lines (a, hv, takes, is, leave) l c point =
    subst (λ (js : Lines). Goal (meaning.act (instr.Runtime (runtime.Putchar into v)) (around_of w b) l) (run js (context_of w b) c)) (sym is)
    (by (lowly w g b known l c point v int a int-size hv))
  where
    Goal : CodeOutcome → FlatOutcome → Type 0
    Goal o q = Match w g b after blocks o q

    by : Operand l c v int a Low → Goal (meaning.act (instr.Runtime (runtime.Putchar into v)) (around_of w b) l)
        (run (flat_instr.Put a ∷ flat_instr.Ext (w.slots.column into) a U8 ∷ []) (context_of w b) c)
    by m = subst (λ (u : Value). Goal (code.gives_to into (putchar (u ∷ [])) l) (run (flat_instr.Put a ∷ flat_instr.Ext (w.slots.column into) a U8 ∷ []) (context_of w b) c))
        (sym m.value)
        (subst (λ (k : ℕ). Goal (code.gives_to into (putchar (Integer m.z ∷ [])) l)
        (Done Goes (with_slot (w.slots.column into) (slot c a % 256) (put_out k c)))) (sym (low-byte (slot c a) m.z m.holds))
        (gives-follows w g b known after blocks into (record { state = next; temps = l.temps }) (put_out n c) there
        (Done (Integer (pos n)) next) (Done Goes (with_slot (w.slots.column into) (slot c a % 256) (put_out n c)))
        (exact-gives w g b known after into (record { state = next; temps = l.temps }) (put_out n c) there int int-size takes leave (pos n) (byte-range m.z) (slot c a % 256)
        (low-byte (slot c a) m.z m.holds ∙ byte-word m.z))))
      where
        n : ℕ
        n = residue m.z 256

        next : source.State
        next = record l.state { output = l.state.output ++ n ∷ [] }

        there : Point w g b known (record { state = next; temps = l.temps }) (put_out n c)
        there = unwritten w g b known known l next c (put_out n c) point
            (there-same w.programs b l.state next c.state (put_out n c).state point.outer point.there (related-put w.programs l.state c.state n point.there.related) refl refl refl refl)
            (grows-same w.programs b.depth l.state next c.state (put_out n c).state refl refl) (passed-none w g c.slots) (λ t x e. e)

-- The next byte of the input

-- what is left of a list once so many are gone
drop-none : (xs : List ℕ) (n : ℕ) → slice_get xs n ≡ None → drop n xs ≡ []
drop-none [] zero e = refl
drop-none [] (suc n) e = refl
drop-none (x ∷ xs) zero e = absurd (cc (e))
drop-none (x ∷ xs) (suc n) e = drop-none xs n e

drop-some : (xs : List ℕ) (n x : ℕ) → slice_get xs n ≡ Some x → drop n xs ≡ x ∷ drop (suc n) xs
drop-some [] n x e = absurd (cc (e))
drop-some (y ∷ xs) zero x e = let f : y ≡ x = cc (e) in ap (λ (z : ℕ). z ∷ xs) f
drop-some (y ∷ xs) (suc n) x e = drop-some xs n x e

get-index : (xs : List ℕ) (n x : ℕ) → slice_get xs n ≡ Some x → slice_index xs n ≡ x
get-index [] n x e = absurd (cc (e))
get-index (y ∷ xs) zero x e = cc (e)
get-index (y ∷ xs) (suc n) x e = get-index xs n x e

byte-same : (n : ℕ) → n < 256 → converted int (pos n) ≡ pos n
byte-same n h = grind (arith, nat_tests, h)

byte-is : (n : ℕ) → n < 256 → n ≡ word (pos n)
byte-is n h = omega (arith, h)

end-same : converted int (negsuc 0) ≡ negsuc 0
end-same = refl

end-is : greatest_word ≡ word (negsuc 0)
end-is = refl

-- one more byte is read
related-read : (p : Programs) (s : source.State) (c : flat.State) (rest : Input) → rest ≡ left s.input (suc s.read) → Related (setting_of p) p.whole.node s c
    → Related (setting_of p) p.whole.node (with_read s) (record c { input = rest; read = c.read + 1 })
related-read p s c rest input r = record {
  areas = record { count = r.areas.count; sizes = r.areas.sizes; lie = r.areas.lie; apart = r.areas.apart };
  holds = r.holds;
  sound = r.sound;
  small = r.small;
  room = record { frame_charge = r.room.frame_charge; heap_charge = r.room.heap_charge; frames = r.room.frames; heap = r.room.heap };
  outside = record {
    output = r.outside.output;
    read = (let e = r.outside.read in omega (arith, e));
    input = input;
    turns = r.outside.turns;
    entered = r.outside.entered;
  };
  accesses = r.accesses;
}

pub get-follows : (w : Scene) (g : AreSlots w.slots) (b : Running) (into : Temp) (known after : Knowledge) (blocks : Blocks) (lines : Lines)
    → IsCuringRuntime (runtime.Getchar into) (world_of w) known after lines
    → Follows w g b blocks known after (meaning.act (instr.Runtime (runtime.Getchar into)) (around_of w b)) lines
unfolding Line
get-follows w g b into known after blocks lines (takes, is, leave) l c point =
    subst (λ (js : Lines). Goal (run js (context_of w b) c)) (sym is)
    (subst (λ (i : Input). Goal (from (read_into v i c) (λ x. then_go x (run [] (context_of w b))))) (sym point.there.related.outside.input) (by l.state.input refl))
  where
    v : ℕ
    v = w.slots.column into

    n : ℕ
    n = l.state.read

    Goal : FlatOutcome → Type 0
    Goal q = Match w g b after blocks (meaning.act (instr.Runtime (runtime.Getchar into)) (around_of w b) l) q

    gives : Outcome source.Ending source.State ℤ → CodeOutcome
    gives o = from (beside l.temps (from o (λ z. done (Integer z)))) (λ v. leaves (λ (k : code.Local). record k { temps = with_temp into v k.temps }) >> done Goes)

    -- what C does and what the machine does, by the input
    Both : Input → Type 0
    Both i = Match w g b after blocks (gives (next_byte i (slice_get (bytes_of i) l.state.read) l.state))
        (from (read_into (w.slots.column into) (left i l.state.read) c) (λ x. then_go x (run [] (context_of w b))))

    -- a byte
    read : (i : Input) → l.state.input ≡ i → (x : ℕ) → slice_get (bytes_of i) l.state.read ≡ Some x → (rest : Input) → rest ≡ left i (suc l.state.read)
        → Match w g b after blocks (gives (Done (pos x) (with_read l.state))) (Done Goes (byte_read (w.slots.column into) x rest c))
    read i e x f rest r =
        gives-follows w g b known after blocks into (record { state = with_read l.state; temps = l.temps }) next there (Done (Integer (pos x)) (with_read l.state)) (Done Goes (with_slot v x next))
        (exact-gives w g b known after into (record { state = with_read l.state; temps = l.temps }) next there int int-size takes leave (pos x) (byte-same x small) x (byte-is x small))
      where
        next : flat.Local
        next = record c { state = record c.state { input = rest; read = c.state.read + 1 } }

        small : x < 256
        small =
            let h = point.there.laid.input.below l.state.read in
            let k : slice_index (bytes_of l.state.input) l.state.read ≡ x = ap (λ (j : Input). slice_index (bytes_of j) l.state.read) e ∙ get-index (bytes_of i) l.state.read x f in
            omega (arith, h, k)

        there : Point w g b known (record { state = with_read l.state; temps = l.temps }) (record c { state = record c.state { input = rest; read = c.state.read + 1 } })
        there = unwritten w g b known known l (with_read l.state) c next point
            (there-same w.programs b l.state (with_read l.state) c.state next.state point.outer point.there
            (related-read w.programs l.state c.state rest (r ∙ ap (λ (j : Input). left j (suc l.state.read)) (sym e)) point.there.related) refl refl refl refl)
            (grows-same w.programs b.depth l.state (with_read l.state) c.state next.state refl refl) (passed-none w g c.slots) (λ t x e. e)

    closed : (bytes : List ℕ) → l.state.input ≡ Closed bytes → (o : Option ℕ) → slice_get bytes l.state.read ≡ o
        → Match w g b after blocks (gives (next_byte (Closed bytes) o l.state)) (from (read_into (w.slots.column into) (Closed (drop l.state.read bytes)) c) (λ x. then_go x (run [] (context_of w b))))
    closed bytes e None f =
        subst (λ (xs : List ℕ). Match w g b after blocks (gives (Done (negsuc 0) l.state)) (from (read_into v (Closed xs) c) (λ x. then_go x (run [] (context_of w b))))) (sym (drop-none bytes n f))
        (gives-follows w g b known after blocks into l c point (Done (Integer (negsuc 0)) l.state) (Done Goes (with_slot v greatest_word c))
        (exact-gives w g b known after into l c point int int-size takes leave (negsuc 0) end-same greatest_word end-is))
    closed bytes e (Some x) f =
        subst (λ (xs : List ℕ). Match w g b after blocks (gives (Done (pos x) (with_read l.state))) (from (read_into v (Closed xs) c) (λ x. then_go x (run [] (context_of w b))))) (sym (drop-some bytes n x f))
        (read (Closed bytes) e x f (Closed (drop (suc n) bytes)) refl)

    opened : (bytes : List ℕ) → l.state.input ≡ Open bytes → (o : Option ℕ) → slice_get bytes l.state.read ≡ o
        → Match w g b after blocks (gives (next_byte (Open bytes) o l.state)) (from (read_into (w.slots.column into) (Open (drop l.state.read bytes)) c) (λ x. then_go x (run [] (context_of w b))))
    opened bytes e None f =
        subst (λ (xs : List ℕ). Match w g b after blocks (gives (Ended source.Wants l.state)) (from (read_into v (Open xs) c) (λ x. then_go x (run [] (context_of w b))))) (sym (drop-none bytes n f))
        (tt, point.there.related)
    opened bytes e (Some x) f =
        subst (λ (xs : List ℕ). Match w g b after blocks (gives (Done (pos x) (with_read l.state))) (from (read_into v (Open xs) c) (λ x. then_go x (run [] (context_of w b))))) (sym (drop-some bytes n x f))
        (read (Open bytes) e x f (Open (drop (suc n) bytes)) refl)

    by : (i : Input) → l.state.input ≡ i → Match w g b after blocks (meaning.act (instr.Runtime (runtime.Getchar into)) (around_of w b) l)
        (from (read_into (w.slots.column into) (left l.state.input l.state.read) c) (λ x. then_go x (run [] (context_of w b))))
    by i e = subst Both (sym e) (of i e)
      where
        of : (i : Input) → l.state.input ≡ i → Both i
        of (Closed bytes) e = closed bytes e (slice_get bytes l.state.read) refl
        of (Open bytes) e = opened bytes e (slice_get bytes l.state.read) refl

-- THE LAW OF THE LIBRARY
pub runtime-follows : (w : Scene) (g : AreSlots w.slots) (b : Running) (whole : List Instr) → AllFollow w g b whole (λ i. instr.Runtime i) IsCuringRuntime
runtime-follows w g b whole (runtime.Free into p) inside known after blocks lines h = free-follows w g b into p known after blocks lines h
runtime-follows w g b whole (runtime.Getchar into) inside known after blocks lines h = get-follows w g b into known after blocks lines h
runtime-follows w g b whole (runtime.Putchar into v) inside known after blocks lines h = put-follows w g b into v known after blocks lines h
runtime-follows w g b whole (runtime.Exit into v) inside known after blocks lines h = exit-follows w g b into v known after blocks lines h

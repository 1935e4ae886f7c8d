-- Conversions: between integers, and from an integer to a pointer.
use Rattle.std.proofs.Common.{◌≡◌, ◌≢◌, ℕ, zero, suc, ◌+◌, ◌^◌, ◌%◌, ◌<◌, ◌≤◌, ◌⊎◌, inl, inr, List, [], ◌∷◌, length, slice_set, Option, Some, None, refl, ap, sym, subst, ◌∙◌, arith, length-set, get_or-set_other, get_or-set_same}
use Rattle.cc_base.specs.declared.kind.Kind.{Kind}
use Rattle.cc_base.specs.declared.kind.Kind.TheVariants.{Safe, Seq, Rtti, Wild}
use Rattle.cc_base.specs.declared.number.TypeId.{TypeId}
use Rattle.cc_base.specs.declared.number.NodeId.{NodeId}
use Rattle.cc_base.specs.declared.place.Place.{Place}
use Rattle.integers.specs.Words.{word}
use Rattle.integers.specs.Arithmetic.{IntegerType, converted, bits_of}
use Rattle.integers.proofs.WordLaws.{word-below}
use Rattle.runs.specs.Outcome.{Outcome, Done, Matches}
use Rattle.runs.specs.Control.{Goes}
use Rattle.src_mem.specs.Pointers.{Number, Value, Integer, Address, pointer_of_word, pointer_of_integer}
use Rattle.src_mem.specs.State as source
use Rattle.src_mem.specs.Values.{converted_integer, pointer_from_integer}
use Rattle.src_mem.specs.Outlines.{outlines_of}
use Rattle.src_mem.specs.Facts.{IsValueOf}
use Rattle.cil_form.specs.declared.number.Temp.{Temp}
use Rattle.cil_form.specs.declared.instr.Convert.TheVariants as convert
use Rattle.cil_form.specs.declared.instr.Instr.TheVariants as instr
use Rattle.cil_form.specs.Typing.{PointerTo}
use Rattle.cil_form.specs.Told.{IsAsked}
use Rattle.cil_form.specs.Meaning as meaning
use Rattle.cured_code.specs.declared.instr.Narrow.{Narrow}
use Rattle.cured_code.specs.FlatState as flat
use Rattle.cured_code.specs.FlatState.{slot, with_slot}
use Rattle.cured_code.specs.FlatMachine.{Context, run}
use Rattle.check_forms.specs.Pieces.{Line}
use Rattle.sim_relation.specs.Ground.{Ground, row, pointer_words, word_number}
use Rattle.sim_relation.specs.Points.{Exact, Low, HoldsAs, Knowledge, AreWords}
use Rattle.cure_rules.specs.Slots.{AreSlots}
use Rattle.cure_rules.specs.Known.{IsPointer, Takes, narrowed_lines, narrow_of}
use Rattle.cure_rules.specs.Pointing.{NumberWords, IsCuringConvert}
use Rattle.cure_rules.specs.Code.{Blocks}
use Rattle.sim_laws.specs.Scenes.{Scene, Running, setting_of, world_of, around_of, context_of}
use Rattle.sim_laws.specs.Points.{Holds, ground_of}
use Rattle.sim_laws.specs.Statements.{Lines, FlatOutcome, StatesEndAlike, Match, Follows}
use Rattle.sim_laws.proofs.Giving.{Gave, gives-follows, column-room, changed-one, changed-more}
use Rattle.sim_laws.proofs.Sets.{words-more, words-none}
use Rattle.sim_laws.proofs.Addresses.{two-at, three-at}
use Rattle.sim_laws.proofs.Integers.{width-of, word-low, converted-low, converted-twice}
use Rattle.sim_laws.proofs.Calculations.{Operand, exactly, integer_type, narrowed_word, exact-word, exact-gives}
use Rattle.sim_laws.proofs.Rows.{HoldsRow, gives-pointer, comes-same}

-- Between integers

narrowed-runs : (ctx : Context) (c : flat.Local) (v a : ℕ) (o : Option Narrow)
    → run (narrowed_lines v a o) ctx c ≡ Done Goes (with_slot v (narrowed_word o (slot c a)) c)
narrowed-runs ctx c v a None = refl
narrowed-runs ctx c v a (Some n) = refl

pub integer-follows : (w : Scene) (g : AreSlots w.slots) (b : Running) (into from : Temp) (t : TypeId) (known after : Knowledge) (blocks : Blocks) (lines : Lines)
    → IsCuringConvert (convert.Integer into from t) (world_of w) known after lines
    → Follows w g b blocks known after (meaning.act (instr.Convert (convert.Integer into from t)) (around_of w b)) lines
unfolding Line
integer-follows w g b into from t known after blocks lines (i, j, a, plain, hx, takes, is, leave) l c point =
    subst (λ (js : Lines). Goal (run js (context_of w b) c)) (sym is)
    (subst Goal (sym (narrowed-runs (context_of w b) c v a (narrow_of i))) (by (exactly w g b known l c point from j a hx)))
  where
    v : ℕ
    v = w.slots.column into

    n : ℕ
    n = narrowed_word (narrow_of i) (slot c a)

    Goal : FlatOutcome → Type 0
    Goal o = Match w g b after blocks (meaning.act (instr.Convert (convert.Integer into from t)) (around_of w b) l) o

    Part : Outcome source.Ending source.State Value → Type 0
    Part o = Matches (Gave w g b known after into l c) (λ e s k d. StatesEndAlike w.programs e s k d.state) o (Done Goes (with_slot v n c))

    by : Operand l c from j a Exact → Goal (Done Goes (with_slot v n c))
    by m = gives-follows w g b known after blocks into l c point (converted_integer (setting_of w.programs) t (l.temps from) l.state) (Done Goes (with_slot v n c))
        (subst (λ (u : Value). Part (converted_integer (setting_of w.programs) t u l.state)) (sym m.value)
        (subst (λ (k : IntegerType). Part (Done (Integer (converted k m.z)) l.state)) (sym (integer_type w t i plain.0))
        (exact-gives w g b known after into l c point i plain.1 takes leave (converted i m.z) (converted-twice i plain.1 m.z) n
        (exact-word i (converted i m.z) (slot c a) plain.1 (converted-twice i plain.1 m.z) low (subst (λ (k : ℕ). k < 2 ^ 64) (sym m.holds) (word-below m.z))))))
      where
        low : HoldsAs Low i (converted i m.z) (slot c a)
        low = ap (λ (k : ℕ). k % 2 ^ bits_of i) m.holds ∙ word-low (2 ^ bits_of i) (width-of i.bytes plain.1) m.z ∙ sym (converted-low i plain.1 m.z)

-- From an integer to a pointer: SEQ or WILD

number-held : (w : Scene) (b : Running) (s : source.State) (n : NodeId) (u : TypeId) (k : Kind) → w.programs.whole.kind n ≡ k → (k ≡ Seq) ⊎ (k ≡ Wild)
    → (m : ℕ) → m < 2 ^ 64 → Holds w.programs s b.depth (PointerTo n u) (Address (pointer_of_word m))
number-held w b s n u k e which zero below = record { held = record { value = tt; reaches = tt }; made = λ x. tt }
number-held w b s n u k e (inl f) (suc m) below =
    record { held = record { value = subst (λ (j : Kind). IsValueOf (setting_of w.programs) (outlines_of s.memory) j u (Number (suc m))) (sym (e ∙ f)) (some, below); reaches = tt }; made = λ x. tt }
  where
    some : suc m ≢ 0
    some h = omega (arith, h)
number-held w b s n u k e (inr f) (suc m) below =
    record { held = record { value = subst (λ (j : Kind). IsValueOf (setting_of w.programs) (outlines_of s.memory) j u (Number (suc m))) (sym (e ∙ f)) (some, below); reaches = tt }; made = λ x. tt }
  where
    some : suc m ≢ 0
    some h = omega (arith, h)

number-words : (gr : Ground) (k : Kind) (m : ℕ) → pointer_words gr k (pointer_of_word m) ≡ row k m 0 0
number-words gr Safe zero = refl
number-words gr Rtti zero = refl
number-words gr Seq zero = refl
number-words gr Wild zero = refl
number-words gr Safe (suc m) = refl
number-words gr Rtti (suc m) = refl
number-words gr Seq (suc m) = refl
number-words gr Wild (suc m) = refl

pub to-pointer-follows : (w : Scene) (g : AreSlots w.slots) (b : Running) (into from : Temp) (t : TypeId) (at : Place) (known after : Knowledge) (blocks : Blocks)
    (lines : Lines) → ((n : NodeId) (u : TypeId) → IsPointer (world_of w) t n u → IsAsked w.programs.sites (PointerTo n u))
    → IsCuringConvert (convert.ToPointer into from t at) (world_of w) known after lines
    → Follows w g b blocks known after (meaning.act (instr.Convert (convert.ToPointer into from t at)) (around_of w b)) lines
unfolding Line
to-pointer-follows w g b into from t at known after blocks lines asked (n, u, j, a, pointer, hx, takes, words, leave) l c point =
    by (exactly w g b known l c point from j a hx)
  where
    v : ℕ
    v = w.slots.column into

    gr : Ground
    gr = ground_of w.programs l.state c.state

    Part : Outcome source.Ending source.State Value → FlatOutcome → Type 0
    Part o q = Matches (Gave w g b known after into l c) (λ e s k d. StatesEndAlike w.programs e s k d.state) o q

    by : Operand l c from j a Exact
        → Match w g b after blocks (meaning.act (instr.Convert (convert.ToPointer into from t at)) (around_of w b) l) (run lines (context_of w b) c)
    by m = gives-follows w g b known after blocks into l c point (pointer_from_integer (l.temps from) l.state) (run lines (context_of w b) c)
        (subst (λ (x : Value). Part (pointer_from_integer x l.state) (run lines (context_of w b) c)) (sym m.value) (of (w.programs.whole.kind n) refl words))
      where
        k : ℕ
        k = slot c a

        gave : (kind : Kind) → w.programs.whole.kind n ≡ kind → (kind ≡ Seq) ⊎ (kind ≡ Wild) → (slots : List ℕ) → HoldsRow (word_number kind) v (row kind (word m.z) 0 0) c.slots slots
            → AreWords (row kind (word m.z) 0 0) → Part (Done (Address (pointer_of_integer m.z)) l.state) (Done Goes (record c { slots = slots }))
        gave kind e which slots holds below =
            gives-pointer w g b known after into l c l.state (record c { slots = slots }) n u (pointer_of_integer m.z)
            (comes-same w g b known into l c slots n (pointer_of_integer m.z) point takes
            (subst AreWords (sym is) below)
            (subst (λ (ws : List ℕ). HoldsRow (word_number (w.programs.whole.kind n)) v ws c.slots slots) (sym is)
            (subst (λ (i : Kind). HoldsRow (word_number i) v (row kind (word m.z) 0 0) c.slots slots) (sym e) holds)))
            (number-held w b l.state n u kind e which (word m.z) (word-below m.z)) (asked n u pointer) leave
          where
            is : pointer_words gr (w.programs.whole.kind n) (pointer_of_integer m.z) ≡ row kind (word m.z) 0 0
            is = ap (λ (i : Kind). pointer_words gr i (pointer_of_integer m.z)) e ∙ number-words gr kind (word m.z)

        room : (i : ℕ) → word_number (w.programs.whole.kind n) ≡ i → i ≤ 3 → v + i ≤ length c.slots
        room i e few = let r = column-room w g into i (subst (Takes (world_of w) into) e takes) few in let q = point.count in omega (arith, r, q)

        of : (kind : Kind) → w.programs.whole.kind n ≡ kind → NumberWords kind v a lines
            → Part (Done (Address (pointer_of_integer m.z)) l.state) (run lines (context_of w b) c)
        of Safe e h = absurd h
        of Rtti e h = absurd h
        of Seq e h = subst (λ (js : Lines). Part (Done (Address (pointer_of_integer m.z)) l.state) (run js (context_of w b) c)) (sym h)
            (subst (λ (i : ℕ). Part (Done (Address (pointer_of_integer m.z)) l.state) (Done Goes (record c { slots = slice_set two i 0 }))) (let f : v + 1 + 1 ≡ v + 2 = omega arith in f)
            (gave Seq e (inl refl) three (record {
              changed = changed-more 2 v k c.slots three (changed-more 1 (v + 1) 0 one three (changed-one two (v + 1 + 1) 0));
              is = three-at three v (word m.z) 0 0
                  (get_or-set_other two (v + 1 + 1) v 0 0 (λ f. omega (arith, f)) ∙ get_or-set_other one (v + 1) v 0 0 (λ f. omega (arith, f))
                  ∙ get_or-set_same c.slots v k 0 (let r = room 3 (ap word_number e) (omega arith) in omega (arith, r)) ∙ m.holds)
                  (get_or-set_other two (v + 1 + 1) (v + 1) 0 0 (λ f. omega (arith, f))
                  ∙ get_or-set_same one (v + 1) 0 0 (let r = room 3 (ap word_number e) (omega arith) in let i = length-set c.slots v k in omega (arith, r, i)))
                  (get_or-set_same two (v + 1 + 1) 0 0 (let r = room 3 (ap word_number e) (omega arith) in let i = length-set c.slots v k in
                  let q = length-set one (v + 1) 0 in omega (arith, r, i, q)));
            }) (words-more (word m.z) (0 ∷ 0 ∷ []) (word-below m.z) (words-more 0 (0 ∷ []) (omega arith) (words-more 0 [] (omega arith) words-none)))))
          where
            one : List ℕ
            one = slice_set c.slots v k

            two : List ℕ
            two = slice_set one (v + 1) 0

            three : List ℕ
            three = slice_set two (v + 1 + 1) 0
        of Wild e h = subst (λ (js : Lines). Part (Done (Address (pointer_of_integer m.z)) l.state) (run js (context_of w b) c)) (sym h)
            (gave Wild e (inr refl) two (record {
              changed = changed-more 1 v k c.slots two (changed-one one (v + 1) 0);
              is = two-at two v (word m.z) 0
                  (get_or-set_other one (v + 1) v 0 0 (λ f. omega (arith, f))
                  ∙ get_or-set_same c.slots v k 0 (let r = room 2 (ap word_number e) (omega arith) in omega (arith, r)) ∙ m.holds)
                  (get_or-set_same one (v + 1) 0 0 (let r = room 2 (ap word_number e) (omega arith) in let i = length-set c.slots v k in omega (arith, r, i)));
            }) (words-more (word m.z) (0 ∷ []) (word-below m.z) (words-more 0 [] (omega arith) words-none)))
          where
            one : List ℕ
            one = slice_set c.slots v k

            two : List ℕ
            two = slice_set one (v + 1) 0

-- The kept slots of a function are set, each to what it is kept for.
use Rattle.std.proofs.Common.{◌≡◌, ◌≢◌, ℕ, zero, suc, ◌<◌, ◌≤◌, List, [], ◌∷◌, ◌++◌, length, slice_get, slice_index, slice_set, Some, refl, ap, sym, subst, ◌∙◌, arith, length-set, get_or-set_other, get_or-set_same}
use Rattle.flat_mem.specs.Memory.{Frame, newest_addresses, frame_area}
use Rattle.src_mem.specs.State as source
use Rattle.src_mem.specs.Memory.{Planned}
use Rattle.cil_form.specs.declared.number.Object.TheVariants as object
use Rattle.cured_code.specs.FlatState as flat
use Rattle.cured_code.specs.FlatState.{slot, with_slot}
use Rattle.cured_code.specs.FlatMachine.{run}
use Rattle.check_forms.specs.Pieces.{Line, Then}
use Rattle.check_forms.proofs.TestLaws.{append-append}
use Rattle.sim_relation.specs.Points.{Content, Number, Start, End, KeptSlot, IsThere, content_word}
use Rattle.cure_rules.specs.Slots.{AreSlots, Kept}
use Rattle.cure_rules.specs.Known.{Sets}
use Rattle.cure_rules.specs.Functions.{IsKnownContent, AreSet}
use Rattle.sim_laws.specs.Scenes.{Scene, Running, world_of, context_of}
use Rattle.sim_laws.specs.Points.{There, ground_of}
use Rattle.sim_laws.specs.Statements.{Lines}

-- no two of these are one slot
abbrev AreApart : List KeptSlot → Type 0
AreApart xs = (i j : ℕ) (x y : KeptSlot) → slice_get xs i ≡ Some x → slice_get xs j ≡ Some y → x.slot ≡ y.slot → i ≡ j

module _ (w : Scene) (g : AreSlots w.slots) (b : Running) (s : source.State) (state : flat.State) (there : There w.programs b s state)
    (variables : b.variables ≡ w.variables) (laid : length w.programs.whole.statics ≤ length w.programs.whole.addresses) where
  -- What the lines that set some slots leave.
  pub record AllSet (xs : List KeptSlot) (lines : Lines) (slots : List ℕ) : Type 0 where
    pub after : List ℕ
    pub runs : (rest : Lines) → run (lines ++ rest) (context_of w b) (record { state = state; slots = slots })
        ≡ run rest (context_of w b) (record { state = state; slots = after })
    pub long : length after ≡ length slots
    pub others : (a : ℕ) → ((j : ℕ) (x : KeptSlot) → slice_get xs j ≡ Some x → a ≢ x.slot) → slice_index after a ≡ slice_index slots a
    pub kept : (j : ℕ) (x : KeptSlot) → slice_get xs j ≡ Some x → IsThere (length s.memory.objects) b.first x.content
        × (slice_index after x.slot ≡ content_word (ground_of w.programs s state) b.first x.content)

  -- One slot: the line sets it.
  record OneSet (content : Content) (a : ℕ) (lines : Lines) (slots : List ℕ) : Type 0 where
    word : ℕ
    runs : (rest : Lines) → run (lines ++ rest) (context_of w b) (record { state = state; slots = slots })
        ≡ run rest (context_of w b) (record { state = state; slots = slice_set slots a word })
    is : IsThere (length s.memory.objects) b.first content × (word ≡ content_word (ground_of w.programs s state) b.first content)

  one-set : (content : Content) (a : ℕ) (lines : Lines) (slots : List ℕ) → IsKnownContent (world_of w) content → Sets (world_of w) content a lines
      → OneSet content a lines slots
  unfolding Line
  one-set (Number n) a lines slots known sets =
      subst (λ (js : Lines). OneSet (Number n) a js slots) (sym sets) (record { word = n; runs = λ rest. refl; is = (tt, refl) })
  one-set (Start (object.Variable k)) a lines slots known sets =
      subst (λ (js : Lines). OneSet (Start (object.Variable k)) a js slots) (sym sets) (record {
        word = frame_area state.memory k.0;
        runs = λ rest. refl;
        is = (
          (let m = there.made in let l = less in omega (arith, m, l)),
          ap (λ (fs : List Frame). slice_index (newest_addresses fs) k.0) there.frames ∙ there.areas k.0 less,
        );
      })
    where
      less : k.0 < length b.variables
      less = subst (λ (vs : List Planned). k.0 < length vs) (sym variables) known
  one-set (Start (object.Static k)) a lines slots known sets =
      subst (λ (js : Lines). OneSet (Start (object.Static k)) a js slots) (sym sets) (record {
        word = slice_index w.programs.whole.addresses k.0;
        runs = λ rest. refl;
        is = ((let m = there.globals in omega (arith, m, laid, known)), there.statics k.0 (omega (arith, laid, known)));
      })
  one-set (End o) a lines slots known sets = absurd sets

  pub all-set : (xs : List KeptSlot) (lines : Lines) (slots : List ℕ) → ((j : ℕ) (x : KeptSlot) → slice_get xs j ≡ Some x → x.slot < length slots) → AreApart xs
      → AreSet (world_of w) xs lines → AllSet xs lines slots
  unfolding Line Then
  all-set [] lines slots room apart set = subst (λ (js : Lines). AllSet [] js slots) (sym set) (record {
    after = slots;
    runs = λ rest. refl;
    long = refl;
    others = λ a h. refl;
    kept = λ j x e. absurd (cc (e));
  })
  all-set (x ∷ xs) lines slots room apart (known, (first, rest, sets, more, is)) = subst (λ (js : Lines). AllSet (x ∷ xs) js slots) (sym is)
      (of (one-set x.content x.slot first slots known sets) (λ n. all-set xs rest (slice_set slots x.slot n)
      (λ j y e. let h = room (suc j) y e in let l = length-set slots x.slot n in omega (arith, h, l))
      (λ i j y z e f q. let m = apart (suc i) (suc j) y z e f q in omega (arith, m)) more))
    where
      of : OneSet x.content x.slot first slots → ((n : ℕ) → AllSet xs rest (slice_set slots x.slot n)) → AllSet (x ∷ xs) (first ++ rest) slots
      of o next = with_rest (next o.word)
        where
          with_rest : AllSet xs rest (slice_set slots x.slot o.word) → AllSet (x ∷ xs) (first ++ rest) slots
          with_rest r = record {
            after = r.after;
            runs = λ last. ap (λ (js : Lines). run js (context_of w b) (record { state = state; slots = slots })) (append-append first rest last)
                ∙ o.runs (rest ++ last) ∙ r.runs last;
            long = r.long ∙ length-set slots x.slot o.word;
            others = λ a h. r.others a (λ j y e. h (suc j) y e) ∙ get_or-set_other slots x.slot a o.word 0 (λ e. h 0 x refl e);
            kept = λ j y e. kept j y e;
          }
            where
              -- the first, which no other is
              own : slice_index r.after x.slot ≡ o.word
              own = r.others x.slot (λ j y e q. let n = apart 0 (suc j) x y refl e q in omega (arith, n))
                  ∙ get_or-set_same slots x.slot o.word 0 (room 0 x refl)

              kept : (j : ℕ) (y : KeptSlot) → slice_get (x ∷ xs) j ≡ Some y → IsThere (length s.memory.objects) b.first y.content
                  × (slice_index r.after y.slot ≡ content_word (ground_of w.programs s state) b.first y.content)
              kept zero y e = subst (λ (z : KeptSlot). IsThere (length s.memory.objects) b.first z.content
                  × (slice_index r.after z.slot ≡ content_word (ground_of w.programs s state) b.first z.content)) (let f : x ≡ y = cc (e) in f) (o.is.0, own ∙ o.is.1)
              kept (suc j) y e = r.kept j y e

  -- those of the function
  kept-apart : AreApart w.slots.kept
  kept-apart i j x y e f q =
      let h : Kept i ≡ Kept j = sym (g.kept i x e).is ∙ ap g.owner q ∙ (g.kept j y f).is in let n : i ≡ j = cc (h) in n

  pub kept-set : (lines : Lines) (slots : List ℕ) → length slots ≡ w.slots.count → AreSet (world_of w) w.slots.kept lines → AllSet w.slots.kept lines slots
  kept-set lines slots long set = all-set w.slots.kept lines slots (λ j x e. let h = (g.kept j x e).below in omega (arith, h, long)) kept-apart set

-- The pointer to a block that was made, and what it is given to: SAFE or SEQ.
use Rattle.std.proofs.Common.{◌≡◌, ◌≢◌, ◌⊎◌, inl, inr, ℕ, ◌+◌, ◌-◌, ◌*◌, ◌^◌, ◌<◌, ◌≤◌, ℤ, pos, ◌+ℤ◌, Bool, true, false, List, [], ◌∷◌, ◌++◌, length, slice_index, slice_set, Option, Some, None, refl, ap, sym, subst, ◌∙◌, arith, nat_eq, get_or-set_other, get_or-set_same, length-set, if◌then◌else◌}
use Rattle.std.specs.List.{Contains, list_all}
use Rattle.std.proofs.Math.Nat.{mod-eq_of_lt}
use Rattle.std.proofs.lemmas.Bool.Decides.{nat_tests}
use Rattle.std.proofs.lemmas.Int.{ints}
use Rattle.cc_base.specs.declared.fault.Check.TheVariants as check
use Rattle.cc_base.specs.declared.kind.Kind.{Kind}
use Rattle.cc_base.specs.declared.kind.Kind.TheVariants.{Safe, Seq}
use Rattle.cc_base.specs.declared.number.NodeId.{NodeId}
use Rattle.cc_base.specs.declared.number.TypeId.{TypeId}
use Rattle.cc_base.specs.declared.place.Place.{Place}
use Rattle.kind_sites.specs.declared.site.Site.TheVariants as site
use Rattle.c_types.specs.declared.shape.TypeShape.{TypeShape}
use Rattle.c_types.specs.Table.{IsComplete, entry_at, is_complete, is_complete_entry, members_at}
use Rattle.c_types.specs.Layouts.{size_of}
use Rattle.c_types.specs.Cells.{holds_pointer}
use Rattle.c_types.specs.Equality.{cells_of}
use Rattle.c_types.specs.Widths.{before, cured_size, cured_distance}
use Rattle.type_laws.proofs.Stairs.{stair-zero}
use Rattle.integers.specs.Words.{word, is_true_word}
use Rattle.integers.specs.Operators.{sum_words}
use Rattle.runs.specs.Outcome.{Outcome, Done, done, leaves, either, from, allowed, Matches, ◌>>◌}
use Rattle.runs.specs.Control.{Goes, then_go}
use Rattle.flat_mem.specs.declared.memory.Bounds.{Bounds}
use Rattle.src_mem.specs.Pointers.{Pointer, Null, Number as OfNumber, At, Function, Value, Address}
use Rattle.src_mem.specs.State as source
use Rattle.src_mem.specs.State.{Setting, as_pointer}
use Rattle.src_mem.specs.Checks.{Condition, null_or_in_bounds, conditions_of_allocation, fits_between, all_checked, holds}
use Rattle.src_mem.specs.Primitives.{block_pointer}
use Rattle.src_mem.specs.Operations.{allocated_for}
use Rattle.facts_kept.specs.Kept.{MakesBlocks}
use Rattle.facts_kept.proofs.Complete.{complete-some}
use Rattle.cil_form.specs.declared.number.Temp.{Temp}
use Rattle.cil_form.specs.State as code
use Rattle.cil_form.specs.State.{with_temp, beside}
use Rattle.cil_form.specs.Typing.{PointerTo}
use Rattle.cured_code.specs.declared.instr.Code.{Code}
use Rattle.cured_code.specs.declared.instr.Instr.TheVariants as flat_instr
use Rattle.cured_code.specs.FlatState as flat
use Rattle.cured_code.specs.FlatState.{goes, slot}
use Rattle.cured_code.specs.FlatMachine.{Context, run}
use Rattle.cured_code.proofs.RunLaws.{act-if}
use Rattle.check_forms.specs.declared.slots.Fixed.{Fixed}
use Rattle.check_forms.specs.Pieces.{Line, Then, Choice}
use Rattle.check_forms.specs.Conditions.{IsAtLeast, Unless, flat_holds}
use Rattle.check_forms.specs.Lines.{IsOther}
use Rattle.check_forms.specs.Rows.{Asked, asked, allocated}
use Rattle.check_forms.specs.RowChecks.{AreChecks, first_false}
use Rattle.sim_relation.specs.Ground.{Ground, address, place, pointer_words, word_number}
use Rattle.sim_relation.specs.Points.{Knowledge, AreWords}
use Rattle.sim_relation.proofs.Bounds.{step_of, cell-steps, distance-is}
use Rattle.sim_checks.specs.Calling.{IsAllocated}
use Rattle.sim_checks.specs.Moving.{all_hold}
use Rattle.sim_checks.proofs.Calling.{allocations-compared, unsized-allocations-compared}
use Rattle.sim_checks.proofs.Sequences.{small, some-size}
use Rattle.cure_rules.specs.Slots.{AreSlots, Role, Amount, Bytes, Made, Size, Column, Working, role_number, slot_of, work_of}
use Rattle.cure_rules.specs.Known as rules
use Rattle.cure_rules.specs.Known.{Takes, a_pointer}
use Rattle.cure_rules.specs.Checks.{Seat, Need, AreGot, need, number_at, allocated_needs}
use Rattle.cure_rules.specs.Calling.{BlockWords, GivesBlock as GivesBlockLines}
use Rattle.cure_rules.specs.Code.{Blocks}
use Rattle.sim_laws.specs.Scenes.{Programs, Scene, Running, setting_of, world_of, context_of}
use Rattle.sim_laws.specs.Points.{Holds, Point, ground_of}
use Rattle.sim_laws.specs.Statements.{Lines, CodeOutcome, FlatOutcome, StatesEndAlike, Match}
use Rattle.sim_laws.proofs.Guards.{lasting-other, role-below, role-other}
use Rattle.sim_laws.proofs.Giving.{Gave, changed-one, column-room}
use Rattle.sim_laws.proofs.Sets.{words-more, words-none}
use Rattle.sim_laws.proofs.Addresses.{one-at, three-at}
use Rattle.sim_laws.proofs.Names.{Names}
use Rattle.sim_laws.proofs.Rows.{HoldsRow, comes-same, gives-pointer}
use Rattle.sim_laws.proofs.Checks.{IsNoneOf, IsSpared, Sparing, StopsAlike, guard-gives, guarded-sparing}
use Rattle.sim_laws.proofs.Accessing.{all-held}
use Rattle.sim_laws.proofs.Converting.{bounds-stop}
use Rattle.sim_laws.proofs.Copying.{plain-width}
use Rattle.sim_laws.proofs.Shrinking.{and-true, unsized}
use Rattle.sim_laws.proofs.Tiles.{still}
use Rattle.sim_laws.proofs.BlocksMade.{BlockMade, IsAmount, Spans}

-- The pointer to a block

-- how far its start is from the start of its part
none-far : (w : Scene) (names : Names w) (t : TypeId) → cured_distance w.programs.whole.table w.programs.whole.kind t (pos 0) ≡ pos 0
none-far w names t = by (is_complete (entry_at w.programs.whole.table t)) refl
  where
    by : (q : Bool) → is_complete (entry_at w.programs.whole.table t) ≡ q → cured_distance w.programs.whole.table w.programs.whole.kind t (pos 0) ≡ pos 0
    by false e = still (setting_of w.programs) t e (pos 0)
    by true e =
        let h = complete-some w.programs.whole.table names.solved.well_formed t e in
        distance-is w.programs.whole.table w.programs.whole.kind t e h.1 (pos 0)
        ∙ stair-zero (before w.programs.whole.kind (cells_of w.programs.whole.table t)) (step_of w.programs.whole.kind (cells_of w.programs.whole.table t))
        (length (cells_of w.programs.whole.table t)) (cell-steps w.programs.whole.kind (cells_of w.programs.whole.table t) h.0)

-- nothing, or a block
abbrev pub IsGiven : Programs → TypeId → ℕ → ℕ → source.State → flat.State → Pointer → Type 0
IsGiven p t made bytes s c q = ((made ≡ 0) × (q ≡ Null)) ⊎ Spans p t made bytes s c q

-- where its part ends
abbrev pub end_by : Bool → ℕ → ℕ → ℕ
end_by true m bytes = sum_words m bytes
end_by false m bytes = 0

safe-words : (w : Scene) (t : TypeId) (made bytes : ℕ) (s : source.State) (c : flat.State) (q : Pointer) → IsGiven w.programs t made bytes s c q
    → pointer_words (ground_of w.programs s c) Safe q ≡ made ∷ []
safe-words w t made bytes s c q (inl (none, is)) = ap (pointer_words (ground_of w.programs s c) Safe) is ∙ ap (λ (n : ℕ). n ∷ []) (sym none)
safe-words w t made bytes s c q (inr x) = ap (pointer_words (ground_of w.programs s c) Safe) x.is ∙ ap (λ (n : ℕ). n ∷ []) (sym x.start)

sequence-words : (w : Scene) (names : Names w) (t : TypeId) (made bytes : ℕ) (s : source.State) (c : flat.State) (q : Pointer)
    → IsGiven w.programs t made bytes s c q → pointer_words (ground_of w.programs s c) Seq q ≡ made ∷ made ∷ end_by (is_true_word made) made bytes ∷ []
sequence-words w names t made bytes s c q (inl (none, is)) =
    ap (pointer_words (ground_of w.programs s c) Seq) is ∙ ap (λ (n : ℕ). n ∷ n ∷ end_by (is_true_word n) n bytes ∷ []) (sym none)
sequence-words w names t made bytes s c q (inr x) =
    ap (pointer_words gr Seq) x.is
    ∙ ap (λ (z : ℤ). word (pos (place gr x.number 0) +ℤ z) ∷ place gr x.number 0 ∷ place gr x.number x.size ∷ []) (none-far w names t)
    ∙ ap (λ (n : ℕ). word (pos n +ℤ pos 0) ∷ n ∷ place gr x.number x.size ∷ []) (sym x.start)
    ∙ ap (λ (n : ℕ). n ∷ made ∷ place gr x.number x.size ∷ []) (flat-word made (let h = x.small in omega (arith, h)))
    ∙ ap (λ (n : ℕ). made ∷ made ∷ n ∷ []) (sym x.end ∙ sym (mod-eq_of_lt (let h = x.small in omega (arith, h))))
    ∙ ap (λ (b : Bool). made ∷ made ∷ end_by b made bytes ∷ []) (sym (some-true made x.some))
  where
    gr : Ground
    gr = ground_of w.programs s c

    flat-word : (n : ℕ) → n < 2 ^ 64 → word (pos n +ℤ pos 0) ≡ n
    flat-word n h = omega (arith, ints, h)

    some-true : (n : ℕ) → 0 < n → is_true_word n ≡ true
    some-true n h = grind (arith, nat_tests, h)

given-small : (p : Programs) (t : TypeId) (made bytes : ℕ) (s : source.State) (c : flat.State) (q : Pointer) → IsGiven p t made bytes s c q → made < 2 ^ 64
given-small p t made bytes s c q (inl (none, is)) = omega (arith, none)
given-small p t made bytes s c q (inr x) = let h = x.small in omega (arith, h)

end-small : (b : Bool) (made bytes : ℕ) → end_by b made bytes < 2 ^ 64
end-small true made bytes = omega arith
end-small false made bytes = omega arith

-- a working slot is in no column
role-column : (w : Scene) (g : AreSlots w.slots) (into : Temp) (k : ℕ) → Takes (world_of w) into k → (r : Role) (j : ℕ) → j < k → slot_of w.slots r ≢ w.slots.column into + j
role-column w g into k takes r j less e =
    let one : g.owner (slot_of w.slots r) ≡ Working (role_number r) = (g.works (role_number r) (role-below r)).is in
    let two : g.owner (w.slots.column into + j) ≡ Column into j = (g.columns into j takes.0 (let h = takes.1 in omega (arith, less, h))).is in
    let same : Working (role_number r) ≡ Column into j = sym one ∙ ap g.owner e ∙ two in cc (same)

-- a choice runs the part that its slot says
pub choice-runs : (ctx : Context) (c : flat.Local) (a : ℕ) (x y : Code) (xs ys rest : Lines) → x.0.items ≡ xs → y.0.items ≡ ys
    → run (flat_instr.If a x y ∷ rest) ctx c ≡ from (either (is_true_word (slot c a)) (run xs ctx) (run ys ctx) c) (λ z. then_go z (run rest ctx))
choice-runs ctx c a x y xs ys rest e f =
    ap (λ (o : FlatOutcome). from o (λ z. then_go z (run rest ctx))) (act-if a x y ctx c
    ∙ ap (λ (js : Lines). either (is_true_word (slot c a)) (run js ctx) (run y.0.items ctx) c) e
    ∙ ap (λ (js : Lines). either (is_true_word (slot c a)) (run xs ctx) (run js ctx) c) f)

-- What an allocation gives: behind BOUNDS where the pointer has one word.
module _ (w : Scene) (names : Names w) (g : AreSlots w.slots) (b : Running) (known after : Knowledge) (blocks : Blocks) (into : Temp) (l : code.Local) (c : flat.Local)
    (node : NodeId) (t : TypeId) (at : Place) (makes : MakesBlocks (setting_of w.programs) node t)
    (told : Contains w.programs.sites (site.Pointee node t)) (takes : Takes (world_of w) into (word_number (w.programs.whole.kind node)))
    (leave : rules.Leaves known into (Some (a_pointer (w.slots.column into) node t [])) after) (outcome : Outcome source.Ending source.State Pointer) (d : ℕ)
    (amount : IsAmount w g d ⊎ (d ≡ slot_of w.slots Bytes)) (first : Lines) (z : BlockMade w g b known l node t outcome d first c) (given : Seat) where
  abbrev Here : Setting
  Here = setting_of w.programs

  abbrev k : Kind
  k = w.programs.whole.kind node

  abbrev needed : Fixed
  needed = number_at given Size (rules.cured_size w.programs.whole t)

  abbrev here : code.Local
  here = record l { state = (z).next }

  abbrev at_made : ℕ
  at_made = slot_of w.slots Made

  -- what C does with the pointer
  abbrev allocates : Outcome source.Ending source.State Pointer → Outcome source.Ending source.State Value
  allocates o = from (from o (λ q. done (Address q))) (λ v. λ s. from (as_pointer v s) (λ q. λ r. from (allocated_for (setting_of w.programs) at node t q r) (λ x. done v)))

  abbrev gave : Outcome source.Ending source.State Value → CodeOutcome
  gave o = from (beside l.temps o) (λ v. leaves (λ (i : code.Local). record i { temps = with_temp into v i.temps }) >> done Goes)

  abbrev F : Outcome source.Ending source.State (Unit {0}) → Outcome source.Ending source.State Value
  F o = from o (λ x. done (Address (z).pointer))

  abbrev conditions : List Condition
  conditions = conditions_of_allocation (w.programs.whole.kind node) (size_of w.programs.whole.table t) (z).pointer

  -- slots that the checks leave
  amount-spared : (needs : List Need) → IsNoneOf Amount needs → IsNoneOf Bytes needs → (slots : List ℕ) → IsSpared w g needs (z).after.slots slots → slice_index slots d ≡ slice_index (z).after.slots d
  amount-spared needs one two slots spared = by amount
    where
      by : IsAmount w g d ⊎ (d ≡ slot_of w.slots Bytes) → slice_index slots d ≡ slice_index (z).after.slots d
      by (inl h) = spared Amount one d h
      by (inr e) = spared Bytes two d (inr e)

  amount-other : IsOther (work_of w.slots) d
  amount-other = by amount
    where
      by : IsAmount w g d ⊎ (d ≡ slot_of w.slots Bytes) → IsOther (work_of w.slots) d
      by (inl (inl lasts)) = lasting-other w g d lasts
      by (inl (inr e)) = subst (IsOther (work_of w.slots)) (sym e) (role-other w Amount (omega arith))
      by (inr e) = subst (IsOther (work_of w.slots)) (sym e) (role-other w Bytes (omega arith))

  -- Behind the guard
  given-by : (needs : List Need) (asks : List Asked) (lines rest : Lines) (y : Sparing w g b known here needs asks lines (z).after) → IsNoneOf Made needs → IsNoneOf Amount needs → IsNoneOf Bytes needs
      → StopsAlike (first_false w.programs.parts (z).after.state.memory asks (slot y.guarded.middle)) (all_checked Here at conditions (z).next) (z).next
      → ((e : flat.Local) → Point w g b known here e → IsGiven w.programs t (slot e at_made) (slot e d) (z).next e.state (z).pointer → Holds w.programs (z).next b.depth (PointerTo node t) (Address (z).pointer)
      → Matches (Gave w g b known after into here e) (λ f x h i. StatesEndAlike w.programs f x h i.state) (Done (Address (z).pointer) (z).next) (run rest (context_of w b) e))
      → Match w g b after blocks (gave (allocates outcome)) (run (first ++ (lines ++ rest)) (context_of w b) c)
  given-by needs asks lines rest y one two three alike words =
      subst (λ (o : Outcome source.Ending source.State Pointer). Match w g b after blocks (gave (allocates o)) (run (first ++ (lines ++ rest)) (context_of w b) c)) (sym (z).source_goes)
      (subst (λ (q : FlatOutcome). Match w g b after blocks (gave (F checks)) q) (sym ((z).runs (lines ++ rest) ∙ y.guarded.runs rest))
      (guard-gives w g b known after blocks into here y.guarded.after y.guarded.point stop checks alike F (λ e x. refl) rest gives))
    where
      checks : Outcome source.Ending source.State (Unit {0})
      checks = all_checked Here at conditions (z).next

      stop : Option Asked
      stop = first_false w.programs.parts (z).after.state.memory asks (slot y.guarded.middle)

      made-stays : slot y.guarded.after at_made ≡ slot (z).after at_made
      made-stays = y.guarded.others at_made (role-other w Made (omega arith)) ∙ y.spared Made one at_made (inr refl)

      amount-stays : slot y.guarded.after d ≡ slot (z).after d
      amount-stays = y.guarded.others d amount-other ∙ amount-spared needs two three y.guarded.middle.slots y.spared

      is : IsGiven w.programs t (slot y.guarded.after at_made) (slot y.guarded.after d) (z).next y.guarded.after.state (z).pointer
      is = subst (λ (x : flat.State). IsGiven w.programs t (slot y.guarded.after at_made) (slot y.guarded.after d) (z).next x (z).pointer) (sym y.guarded.state)
          (subst (λ (n : ℕ). IsGiven w.programs t n (slot y.guarded.after d) (z).next (z).after.state (z).pointer) (sym made-stays)
          (subst (λ (n : ℕ). IsGiven w.programs t (slot (z).after at_made) n (z).next (z).after.state (z).pointer) (sym amount-stays) (z).is))

      gives : stop ≡ None → Matches (Gave w g b known after into here y.guarded.after) (λ f x h i. StatesEndAlike w.programs f x h i.state) (F (Done tt (z).next)) (run rest (context_of w b) y.guarded.after)
      gives none = words y.guarded.after y.guarded.point is (record {
        held = (z).gives.held (all-held Here (λ x. at) conditions (z).next (subst (λ (x : Option Asked). StopsAlike x checks (z).next) none alike));
        made = (z).gives.made;
      })

  -- The words, SAFE
  copy-words : w.programs.whole.kind node ≡ Safe → (e : flat.Local) → Point w g b known here e → IsGiven w.programs t (slot e at_made) (slot e d) (z).next e.state (z).pointer
      → Holds w.programs (z).next b.depth (PointerTo node t) (Address (z).pointer)
      → Matches (Gave w g b known after into here e) (λ f x h i. StatesEndAlike w.programs f x h i.state) (Done (Address (z).pointer) (z).next)
      (run (flat_instr.Copy (w.slots.column into) (slot_of w.slots Made) ∷ []) (context_of w b) e)
  copy-words safe e q is held = gives-pointer w g b known after into here e (z).next (record e { slots = slots }) node t (z).pointer
      (comes-same w g b known into here e slots node (z).pointer q takes
      (subst AreWords (sym words) (words-more (slot e at_made) [] (given-small w.programs t (slot e at_made) (slot e d) (z).next e.state (z).pointer is) words-none))
      (subst (λ (ws : List ℕ). HoldsRow (word_number k) v ws e.slots slots) (sym words)
      (subst (λ (i : Kind). HoldsRow (word_number i) v (slot e at_made ∷ []) e.slots slots) (sym safe)
      (record { changed = changed-one e.slots v (slot e at_made); is = one-at slots v (slot e at_made) (get_or-set_same e.slots v (slot e at_made) 0 room) }))))
      held told leave
    where
      v : ℕ
      v = w.slots.column into

      slots : List ℕ
      slots = slice_set e.slots (w.slots.column into) (slot e at_made)

      room : v < length e.slots
      room = let r = column-room w g into 1 (subst (λ (i : Kind). Takes (world_of w) into (word_number i)) safe takes) (omega arith) in let n = q.count in omega (arith, r, n)

      words : pointer_words (ground_of w.programs (z).next e.state) k (z).pointer ≡ slot e at_made ∷ []
      words = ap (λ (i : Kind). pointer_words (ground_of w.programs (z).next e.state) i (z).pointer) safe
          ∙ safe-words w t (slot e at_made) (slot e d) (z).next e.state (z).pointer is

  -- and SEQ
  sequence-lines : w.programs.whole.kind node ≡ Seq → (rest : Lines) → BlockWords Seq (world_of w) t (w.slots.column into) d rest
      → (e : flat.Local) → Point w g b known here e → IsGiven w.programs t (slot e at_made) (slot e d) (z).next e.state (z).pointer
      → Holds w.programs (z).next b.depth (PointerTo node t) (Address (z).pointer)
      → Matches (Gave w g b known after into here e) (λ f x h i. StatesEndAlike w.programs f x h i.state) (Done (Address (z).pointer) (z).next) (run rest (context_of w b) e)
  unfolding Line Then Choice
  sequence-lines seq rest (choice, last, (x, y, first_is, other_is, chosen), last_is, is_rest) e q is held =
      subst (λ (o : FlatOutcome). Goal o) (sym runs)
      (gives-pointer w g b known after into here e (z).next (record e { slots = slots }) node t (z).pointer
      (comes-same w g b known into here e slots node (z).pointer q takes
      (subst AreWords (sym words) (words-more m (m ∷ end ∷ []) small (words-more m (end ∷ []) small (words-more end [] (end-small (is_true_word m) m (slot e d)) words-none))))
      (subst (λ (ws : List ℕ). HoldsRow (word_number k) v ws e.slots slots) (sym words)
      (subst (λ (i : Kind). HoldsRow (word_number i) v (m ∷ m ∷ end ∷ []) e.slots slots) (sym seq) (record {
        changed = record { others = others; long = length-set two (v + 1) m ∙ length-set one v m ∙ length-set e.slots (v + 2) end };
        is = three-at slots v m m end
            (get_or-set_other two (v + 1) v m 0 (λ f. omega (arith, f)) ∙ get_or-set_same one v m 0 (let r = room in let n = length-set e.slots (v + 2) end in omega (arith, r, n)))
            (get_or-set_same two (v + 1) m 0 (let r = room in let n = length-set e.slots (v + 2) end in let i = length-set one v m in omega (arith, r, n, i)))
            (get_or-set_other two (v + 1) (v + 1 + 1) m 0 (λ f. omega (arith, f)) ∙ get_or-set_other one v (v + 1 + 1) m 0 (λ f. omega (arith, f))
            ∙ ap (slice_index one) (let f : v + 1 + 1 ≡ v + 2 = omega arith in f) ∙ get_or-set_same e.slots (v + 2) end 0 (let r = room in omega (arith, r)));
      })))) held told leave)
    where
      v : ℕ
      v = w.slots.column into

      m : ℕ
      m = slot e at_made

      end : ℕ
      end = end_by (is_true_word (slot e at_made)) (slot e at_made) (slot e d)

      Goal : FlatOutcome → Type 0
      Goal o = Matches (Gave w g b known after into here e) (λ f x h i. StatesEndAlike w.programs f x h i.state) (Done (Address (z).pointer) (z).next) o

      takes3 : Takes (world_of w) into 3
      takes3 = subst (λ (i : Kind). Takes (world_of w) into (word_number i)) seq takes

      room : v + 3 ≤ length e.slots
      room = let r = column-room w g into 3 takes3 (omega arith) in let n = q.count in omega (arith, r, n)

      small : m < 2 ^ 64
      small = given-small w.programs t (slot e at_made) (slot e d) (z).next e.state (z).pointer is

      one : List ℕ
      one = slice_set e.slots (v + 2) end

      two : List ℕ
      two = slice_set one v m

      slots : List ℕ
      slots = slice_set two (v + 1) m

      words : pointer_words (ground_of w.programs (z).next e.state) k (z).pointer ≡ m ∷ m ∷ end ∷ []
      words = ap (λ (i : Kind). pointer_words (ground_of w.programs (z).next e.state) i (z).pointer) seq
          ∙ sequence-words w names t (slot e at_made) (slot e d) (z).next e.state (z).pointer is

      others : (a : ℕ) → ((j : ℕ) → j < 3 → a ≡ v + j → ⊥) → slice_index slots a ≡ slice_index e.slots a
      others a none =
          get_or-set_other two (v + 1) a m 0 (λ f. none 1 (omega arith) f) ∙ get_or-set_other one v a m 0 (λ f. none 0 (omega arith) (omega (arith, f)))
          ∙ get_or-set_other e.slots (v + 2) a end 0 (λ f. none 2 (omega arith) f)

      -- the address stays while the words are written
      stays-one : slot (record e { slots = one }) at_made ≡ m
      stays-one = get_or-set_other e.slots (v + 2) at_made end 0 (λ f. role-column w g into 3 takes3 Made 2 (omega arith) f)

      stays-two : slot (record e { slots = two }) at_made ≡ m
      stays-two = get_or-set_other one v at_made m 0 (λ f. role-column w g into 3 takes3 Made 0 (omega arith) (omega (arith, f))) ∙ stays-one

      ends : (q : Bool) → either q (run (flat_instr.Add (v + 2) at_made d ∷ []) (context_of w b)) (run (flat_instr.Const (v + 2) 0 ∷ []) (context_of w b)) e
          ≡ Done Goes (record e { slots = slice_set e.slots (v + 2) (end_by q (slot e at_made) (slot e d)) })
      ends true = refl
      ends false = refl

      runs : run rest (context_of w b) e ≡ Done Goes (record e { slots = slots })
      runs =
          ap (λ (js : Lines). run js (context_of w b) e) (is_rest ∙ ap (λ (js : Lines). js ++ last) chosen)
          ∙ choice-runs (context_of w b) e at_made x y (flat_instr.Add (v + 2) at_made d ∷ []) (flat_instr.Const (v + 2) 0 ∷ []) last first_is other_is
          ∙ ap (λ (o : FlatOutcome). from o (λ i. then_go i (run last (context_of w b)))) (ends (is_true_word (slot e at_made)))
          ∙ ap (λ (js : Lines). run js (context_of w b) (record e { slots = one })) last_is
          ∙ ap (λ (n : ℕ). run (flat_instr.Copy (v + 1) at_made ∷ []) (context_of w b) (record e { slots = slice_set one v n })) stays-one
          ∙ ap (λ (n : ℕ). Done Goes (record e { slots = slice_set two (v + 1) n })) stays-two

  -- BOUNDS of a block
  safe-given : w.programs.whole.kind node ≡ Safe → (lines rest : Lines)
      → Then (AreGot (world_of w) (allocated_needs Safe needed)) (AreChecks (work_of w.slots) (allocated Safe at_made d needed at)) lines
      → rest ≡ flat_instr.Copy (w.slots.column into) (slot_of w.slots Made) ∷ []
      → Match w g b after blocks (gave (allocates outcome)) (run (first ++ (lines ++ rest)) (context_of w b) c)
  safe-given safe lines rest guard is =
      subst (λ (js : Lines). Match w g b after blocks (gave (allocates outcome)) (run (first ++ (lines ++ js)) (context_of w b) c)) (sym is)
      (by (nat_eq (rules.cured_size w.programs.whole t) 0) refl guard)
    where
      last : Lines
      last = flat_instr.Copy (w.slots.column into) (slot_of w.slots Made) ∷ []

      are : conditions ≡ null_or_in_bounds (size_of w.programs.whole.table t) (z).pointer
      are = ap (λ (i : Kind). conditions_of_allocation i (size_of w.programs.whole.table t) (z).pointer) safe

      -- what has no size: nothing is asked, and C's condition holds
      unsized-goes : nat_eq (rules.cured_size w.programs.whole t) 0 ≡ true → all_checked Here at conditions (z).next ≡ Done tt (z).next
      unsized-goes e = ap (λ (cs : List Condition). all_checked Here at cs (z).next) are ∙ goes (z).pointer (size_of w.programs.whole.table t) (sym compared ∙ nothing)
        where
          none : rules.cured_size w.programs.whole t ≡ 0
          none = grind (arith, nat_tests, e)

          nothing : all_hold w.programs.parts (z).after.state.memory (allocated Safe at_made d needed at) (slot (z).after) ≡ true
          nothing = ap (λ (q : Bool). all_hold w.programs.parts (z).after.state.memory (if q then [] else asked check.Bounds at (Unless at_made (IsAtLeast d needed)) ∷ []) (slot (z).after)) e

          of : (q : Bool) → is_complete (entry_at w.programs.whole.table t) ≡ q → size_of w.programs.whole.table t ≡ 0
          of true h = absurd (let a = some-size Here names.solved.well_formed t h in let f = names.sizes.size t h in omega (arith, a, f, none))
          of false h = unsized Here names.solved.well_formed t h

          block : IsGiven w.programs t (slot (z).after at_made) (slot (z).after d) (z).next (z).after.state (z).pointer
              → ((z).pointer ≡ Null) ⊎ ((n bytes : ℕ) × ((z).pointer ≡ block_pointer n t bytes))
          block (inl i) = inl i.1
          block (inr x) = inr (x.number, x.size, x.is)

          compared : all_hold w.programs.parts (z).after.state.memory (allocated Safe at_made d needed at) (slot (z).after)
              ≡ list_all (holds Here (z).next.memory) (conditions_of_allocation Safe (size_of w.programs.whole.table t) (z).pointer)
          compared = unsized-allocations-compared Here (z).next (z).after.state.memory w.programs.parts t (slot (z).after) at_made d needed at
              (of (is_complete (entry_at w.programs.whole.table t)) refl) none Safe (z).pointer (block (z).is)

          goes : (q : Pointer) (n : ℕ) → list_all (holds Here (z).next.memory) (null_or_in_bounds n q) ≡ true → all_checked Here at (null_or_in_bounds n q) (z).next ≡ Done tt (z).next
          goes Null n h = refl
          goes (OfNumber k) n h = absurd (cc (h))
          goes (At l) n h = ap (λ (y : Bool). from (allowed y (source.Stopped check.Bounds at) (done tt) (z).next) (λ i. done tt))
              (and-true (fits_between l.part.low l.part.high l.offset n) ∙ h)
          goes (Function f) n h = absurd (cc (h))

      by : (q : Bool) → nat_eq (rules.cured_size w.programs.whole t) 0 ≡ q
          → Then (AreGot (world_of w) (if q then [] else need Size needed ∷ []))
          (AreChecks (work_of w.slots) (if q then [] else asked check.Bounds at (Unless at_made (IsAtLeast d needed)) ∷ [])) lines
          → Match w g b after blocks (gave (allocates outcome)) (run (first ++ (lines ++ last)) (context_of w b) c)
      by true e h = given-by [] [] lines last (guarded-sparing w g b known here [] [] lines (z).after (z).point tt h (λ f passed there. record { apart = tt; held = tt; safe = tt }))
          tt tt tt (unsized-goes e) (copy-words safe)
      by false e h = given-by (need Size needed ∷ []) (asked check.Bounds at (Unless at_made (IsAtLeast d needed)) ∷ []) lines last y (refl, tt) (refl, tt) (refl, tt) stops (copy-words safe)
        where
          ask : Asked
          ask = asked check.Bounds at (Unless at_made (IsAtLeast d needed))

          y : Sparing w g b known here (need Size needed ∷ []) (asked check.Bounds at (Unless at_made (IsAtLeast d needed)) ∷ []) lines (z).after
          y = guarded-sparing w g b known here (need Size needed ∷ []) (asked check.Bounds at (Unless at_made (IsAtLeast d needed)) ∷ []) lines (z).after (z).point (refl, tt, tt) h
              (λ f passed there. record {
                apart = ((role-other w Made (omega arith), (amount-other, (there.1, tt))), tt);
                held = (there.0, tt);
                safe = (λ i. tt, λ i. tt);
              })

          complete : IsComplete w.programs.whole.table t
          complete = of makes
            where
              of : MakesBlocks Here node t → IsComplete w.programs.whole.table t
              of (inr i) = i.0
              of (inl void) = absurd (let i : is_complete (entry_at w.programs.whole.table t) ≡ false = ap (λ (x : TypeShape). is_complete_entry x (members_at w.programs.whole.table t)) void in
                  let n = names.sizes.none t i in let f : nat_eq (rules.cured_size w.programs.whole t) 0 ≡ true = ap (λ (x : ℕ). nat_eq x 0) n in cc (e, f))

          some : 0 < size_of w.programs.whole.table t
          some = let i = complete-some w.programs.whole.table names.solved.well_formed t complete in let a = i.0 in let f = i.1 in omega (arith, a, f)

          slots : ℕ → ℕ
          slots = slot y.guarded.middle

          stays : slots at_made ≡ slot (z).after at_made
          stays = y.spared Made (refl, tt) at_made (inr refl)

          block : IsAllocated Here t (slots at_made) (slots d) (z).pointer
          block = subst (λ (n : ℕ). IsAllocated Here t n (slots d) (z).pointer) (sym stays)
              (subst (λ (n : ℕ). IsAllocated Here t (slot (z).after at_made) n (z).pointer) (sym (amount-spared (need Size needed ∷ []) (refl, tt) (refl, tt) y.guarded.middle.slots y.spared))
              (of (z).is))
            where
              of : IsGiven w.programs t (slot (z).after at_made) (slot (z).after d) (z).next (z).after.state (z).pointer
                  → IsAllocated Here t (slot (z).after at_made) (slot (z).after d) (z).pointer
              of (inl i) = inl i
              of (inr x) = inr ((λ i. let a = x.some in omega (arith, a, i)), x.number, x.size, x.is, sizes x.sizes)
                where
                  sizes : ((slot (z).after d ≡ x.size) × (holds_pointer w.programs.whole.table t ≡ false))
                      ⊎ ((i : ℕ) × (x.size ≡ i * size_of w.programs.whole.table t) × (slot (z).after d ≡ i * cured_size w.programs.whole.table w.programs.whole.kind t))
                      → ((slot (z).after d ≡ x.size) × (cured_size w.programs.whole.table w.programs.whole.kind t ≡ size_of w.programs.whole.table t))
                      ⊎ ((i : ℕ) × (x.size ≡ i * size_of w.programs.whole.table t) × (slot (z).after d ≡ i * cured_size w.programs.whole.table w.programs.whole.kind t))
                  sizes (inl i) = inl (i.0, sym (plain-width w names t complete i.1))
                  sizes (inr i) = inr i

          compared : all_hold w.programs.parts (z).after.state.memory (allocated Safe at_made d needed at) slots
              ≡ list_all (holds Here (z).next.memory) (conditions_of_allocation Safe (size_of w.programs.whole.table t) (z).pointer)
          compared = allocations-compared Here (z).next (z).after.state.memory w.programs.parts t slots at_made d needed at some (some-size Here names.solved.well_formed t complete)
              (names.sizes.size t complete) Safe (z).pointer block

          value : flat_holds w.programs.parts (z).after.state.memory (Unless at_made (IsAtLeast d needed)) slots
              ≡ list_all (holds Here (z).next.memory) (null_or_in_bounds (size_of w.programs.whole.table t) (z).pointer)
          value = and-true (flat_holds w.programs.parts (z).after.state.memory (Unless at_made (IsAtLeast d needed)) slots)
              ∙ ap (λ (q : Bool). all_hold w.programs.parts (z).after.state.memory (if q then [] else ask ∷ []) slots) (sym e) ∙ compared

          stops : StopsAlike (first_false w.programs.parts (z).after.state.memory (ask ∷ []) slots) (all_checked Here at conditions (z).next) (z).next
          stops = subst (λ (cs : List Condition). StopsAlike (first_false w.programs.parts (z).after.state.memory (ask ∷ []) slots) (all_checked Here at cs (z).next) (z).next) (sym are)
              (bounds-stop w.programs.parts (z).after.state.memory slots Here (z).next at ask (size_of w.programs.whole.table t) (z).pointer refl refl value)

  sequence-given : w.programs.whole.kind node ≡ Seq → (lines rest : Lines) → Then (AreGot (world_of w) []) (AreChecks (work_of w.slots) []) lines
      → BlockWords Seq (world_of w) t (w.slots.column into) d rest
      → Match w g b after blocks (gave (allocates outcome)) (run (first ++ (lines ++ rest)) (context_of w b) c)
  sequence-given seq lines rest guard words =
      given-by [] [] lines rest (guarded-sparing w g b known here [] [] lines (z).after (z).point tt guard (λ f passed there. record { apart = tt; held = tt; safe = tt })) tt tt tt
      (ap (λ (i : Kind). all_checked Here at (conditions_of_allocation i (size_of w.programs.whole.table t) (z).pointer) (z).next) seq) (sequence-lines seq rest words)

  pub block-given : (w.programs.whole.kind node ≡ Safe) ⊎ (w.programs.whole.kind node ≡ Seq) → (lines : Lines)
      → GivesBlockLines (world_of w) given (w.programs.whole.kind node) t (w.slots.column into) d at lines
      → Match w g b after blocks (from (beside l.temps (from (from outcome (λ q. done (Address q))) (λ v. λ s. from (as_pointer v s)
      (λ q. λ r. from (allocated_for (setting_of w.programs) at node t q r) (λ x. done v)))))
      (λ v. leaves (λ (i : code.Local). record i { temps = with_temp into v i.temps }) >> done Goes)) (run (first ++ lines) (context_of w b) c)
  unfolding Line Then
  block-given kinds lines (guard, rest, checks, words, is) =
      subst (λ (js : Lines). Match w g b after blocks (gave (allocates outcome)) (run (first ++ js) (context_of w b) c)) (sym is) (by kinds)
    where
      Guard : Kind → Type 0
      Guard i = Then (AreGot (world_of w) (allocated_needs i needed)) (AreChecks (work_of w.slots) (allocated i at_made d needed at)) guard

      by : (w.programs.whole.kind node ≡ Safe) ⊎ (w.programs.whole.kind node ≡ Seq) → Match w g b after blocks (gave (allocates outcome)) (run (first ++ (guard ++ rest)) (context_of w b) c)
      by (inl safe) = safe-given safe guard rest (subst Guard safe checks) (subst (λ (i : Kind). BlockWords i (world_of w) t (w.slots.column into) d rest) safe words)
      by (inr seq) = sequence-given seq guard rest (subst Guard seq checks) (subst (λ (i : Kind). BlockWords i (world_of w) t (w.slots.column into) d rest) seq words)

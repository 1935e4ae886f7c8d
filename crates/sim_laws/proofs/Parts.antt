-- Stores into parts of objects without tags that are named: what an initialiser does.
use Rattle.std.proofs.Common.{◌≡◌, ◌≢◌, ℕ, suc, ◌+◌, ◌%◌, ◌^◌, ◌<◌, ◌≤◌, ◌⊎◌, inl, inr, pos, ◌+ℤ◌, List, [], ◌∷◌, ◌++◌, length, slice_get, slice_set, Option, Some, None, false, refl, ap, sym, subst, ◌∙◌, arith, Bool, get_or-set_same, get_or-set_other, if◌then◌else◌}
use Rattle.std.proofs.Math.Nat.{mod-eq_of_lt}
use Rattle.cc_base.specs.declared.fault.Check.TheVariants as check
use Rattle.cc_base.specs.declared.kind.Kind.{Kind}
use Rattle.cc_base.specs.declared.kind.Kind.TheVariants.{Safe, Wild}
use Rattle.cc_base.specs.declared.number.TypeId.{TypeId}
use Rattle.cc_base.specs.declared.number.NodeId.{NodeId}
use Rattle.cc_base.specs.declared.place.Place.{Place}
use Rattle.c_types.specs.declared.shape.TypeShape.{TypeShape}
use Rattle.c_types.specs.declared.shape.TypeShape.TheVariants as shape
use Rattle.c_types.specs.Table.{IsComplete, shape_at, is_function}
use Rattle.c_types.specs.Layouts.{size_of}
use Rattle.c_types.specs.Cells.{Cell, raw, pointer, mixed, incomplete, IsBetweenPointers}
use Rattle.c_types.specs.Equality.{cells_of}
use Rattle.c_types.specs.Flows.{CellsAgree}
use Rattle.c_types.specs.Widths.{before}
use Rattle.integers.specs.Operators.{sum_words}
use Rattle.runs.specs.Outcome.{Outcome, Done, done, from}
use Rattle.runs.specs.Control.{Goes, then_go}
use Rattle.src_mem.specs.Pointers.{Location, Pointer, At, Value, Integer, Address}
use Rattle.src_mem.specs.State as source
use Rattle.src_mem.specs.State.{Setting}
use Rattle.src_mem.specs.Checks.{Condition, all_placed, place_of_write}
use Rattle.src_mem.specs.Primitives.{store_integer}
use Rattle.src_mem.specs.Uses.{conditions_of_write, store_shape}
use Rattle.src_mem.specs.Values.{stored}
use Rattle.src_mem.specs.Outlines.{Outline, outlines_of, lives_of, LivesAt}
use Rattle.src_mem.specs.Facts.{IsSafeAt, IsTypedPlace, IsPlaceAt, IsPlaceIn, IsValueOf}
use Rattle.src_mem.specs.Laws.{Gives}
use Rattle.type_laws.proofs.Pointers.{covers_own}
use Rattle.facts_kept.specs.Kept.{IsKept, asked_of}
use Rattle.facts_kept.proofs.Complete.{complete-some, complete-data}
use Rattle.facts_kept.proofs.Writing.{gives-written_integer_place}
use Rattle.cil_form.specs.declared.number.Temp.{Temp}
use Rattle.cil_form.specs.declared.number.Object.{Object}
use Rattle.cil_form.specs.declared.instr.Access.TheVariants as access
use Rattle.cil_form.specs.declared.instr.Target.TheVariants as target
use Rattle.cil_form.specs.declared.instr.Instr.TheVariants as instr
use Rattle.cil_form.specs.State as code
use Rattle.cil_form.specs.State.{beside}
use Rattle.cil_form.specs.Typing.{Typing, IsObject, IsPart}
use Rattle.cil_form.specs.Meaning as meaning
use Rattle.cil_form.specs.Meaning.{number_of}
use Rattle.cil_facts.proofs.PartStores.{part-placed, whole-complete}
use Rattle.cured_code.specs.declared.instr.Instr.TheVariants as flat_instr
use Rattle.cured_code.specs.FlatState as flat
use Rattle.cured_code.specs.FlatState.{slot, with_slot}
use Rattle.cured_code.specs.FlatMachine.{act, run}
use Rattle.check_forms.specs.Pieces.{Line, Then}
use Rattle.check_forms.specs.Conditions.{IsNotZero}
use Rattle.check_forms.specs.Lines.{IsOther}
use Rattle.check_forms.specs.Rows.{Asked, asked, reached, flat_conditions}
use Rattle.check_forms.specs.RowChecks.{AreChecks, AreChecked, first_false, stopped_by}
use Rattle.check_forms.proofs.RowLaws.{rows}
use Rattle.check_forms.proofs.TestLaws.{append-append}
use Rattle.sim_relation.specs.Ground.{Ground, address, place}
use Rattle.sim_relation.specs.Points.{Knowledge, Number, Start, Low, object_number}
use Rattle.sim_checks.specs.Rows.{AreWordsOf}
use Rattle.sim_checks.proofs.Addresses.{IsThere, there, not-zero}
use Rattle.sim_memory.specs.Found.{IsFound, GoOnAlike}
use Rattle.sim_memory.proofs.Finding.{typed-found}
use Rattle.sim_memory.proofs.Copying.{before-held}
use Rattle.sim_memory.proofs.Storing.{integers-stored}
use Rattle.cure_rules.specs.Slots.{AreSlots, Role, Address, Base, Offset, role_number, slot_of, work_of}
use Rattle.cure_rules.specs.Known.{Includes, Gets}
use Rattle.cure_rules.specs.Checks.{Seat, AreGot, numbers_of, size_at, write_integer}
use Rattle.cure_rules.specs.Pointing.{cured_offset}
use Rattle.cure_rules.specs.Accesses.{StoresInteger, StoresPointer, part_slots}
use Rattle.cure_rules.specs.Code.{Blocks}
use Rattle.sim_laws.specs.Scenes.{Scene, Running, setting_of, world_of, around_of, context_of}
use Rattle.sim_laws.specs.Points.{Point, IsLasting, Passed, ground_of}
use Rattle.sim_laws.specs.Statements.{Lines, CodeOutcome, FlatOutcome, Match, Follows}
use Rattle.sim_laws.proofs.Points.{unwritten}
use Rattle.sim_laws.proofs.Guards.{Got, kept-at, passed-none, passed-role, passed-then, lasting-other, role-other, role-there, ready, got-number}
use Rattle.sim_laws.proofs.Calculations.{Operand, lowly}
use Rattle.sim_laws.proofs.Addresses.{IsNamed, SetsAddress, sets-address, same-number}
use Rattle.sim_laws.proofs.Constants.{named-object}
use Rattle.sim_laws.proofs.Names.{Names, context_in, solved-in, object-held, facts-at, types_of}
use Rattle.sim_laws.proofs.Checks.{passed-point, got-spares}
use Rattle.sim_laws.proofs.Accessing.{asked-of-write, line-of-store, integer-complete, facts-kept}
use Rattle.sim_laws.proofs.Stays.{grows-kept, there-kept}
use Rattle.sim_laws.proofs.Reaching.{Pointed, IsSlotOf, pointed}
use Rattle.sim_laws.proofs.Aiming.{Aimed}
use Rattle.sim_laws.proofs.Storing.{as-address, stored-complete, store-pointer-at}

-- The address of an object: kept, or set in the working slot of its role

-- a slot that lasts, or the role's own
pub start-spot : (w : Scene) (g : AreSlots w.slots) (r : Role) (o : Object) (a : ℕ) (lines : Lines) → Gets (world_of w) r (Start o) a lines
    → IsLasting (g.owner a) ⊎ (a ≡ slot_of w.slots r)
start-spot w g r o a lines (inl h) =
    let k = kept-at w (record { slot = a; content = Start o }) h.0 in inl (subst IsLasting (sym (g.kept k.0 (record { slot = a; content = Start o }) k.1).is) tt)
start-spot w g r o a lines (inr h) = inr h.0

pub got-start : (w : Scene) (g : AreSlots w.slots) (b : Running) (known : Knowledge) (l : code.Local) (c : flat.Local) → Point w g b known l c
    → (o : Object) (home : NodeId) (t : TypeId) → IsNamed w b o home t → (r : Role) → 4 ≤ role_number r → (a : ℕ) (lines : Lines) → Gets (world_of w) r (Start o) a lines
    → Got w g (context_of w b) lines c a (address (ground_of w.programs l.state c.state) (object_number b.first o))
unfolding Line
got-start w g b known l c p o home t named r late a lines (inl h) =
    subst (λ (js : Lines). Got w g (context_of w b) js c a n) (sym h.1) (of (kept-at w (record { slot = a; content = Start o }) h.0))
  where
    n : ℕ
    n = address (ground_of w.programs l.state c.state) (object_number b.first o)

    of : (k : ℕ) × (slice_get w.slots.kept k ≡ Some (record { slot = a; content = Start o }))
        → Got w g (context_of w b) [] c a (address (ground_of w.programs l.state c.state) (object_number b.first o))
    of x = record {
      after = c;
      state = refl;
      passed = passed-none w g c.slots;
      runs = λ rest. refl;
      is = (p.kept x.0 (record { slot = a; content = Start o }) x.1).1;
      other = lasting-other w g a (subst IsLasting (sym (g.kept x.0 (record { slot = a; content = Start o }) x.1).is) tt);
      others = λ k e. refl;
    }
got-start w g b known l c p o home t named r late a lines (inr h) = of (sets-address w g b known l c p o home t named a lines h.1)
  where
    n : ℕ
    n = address (ground_of w.programs l.state c.state) (object_number b.first o)

    of : SetsAddress (context_of w b) c a (address (ground_of w.programs l.state c.state) (object_number b.first o)) lines
        → Got w g (context_of w b) lines c a (address (ground_of w.programs l.state c.state) (object_number b.first o))
    of y = record {
      after = with_slot a n c;
      state = refl;
      passed = subst (λ (k : ℕ). Passed w g c.slots (slice_set c.slots k n)) (sym h.0) (passed-role w g c.slots r n);
      runs = λ rest. ap (λ (js : Lines). run (js ++ rest) (context_of w b) c) y.is ∙ y.runs rest;
      is = get_or-set_same c.slots a n 0 (let k = role-there w g r in let q = p.count in let e = h.0 in omega (arith, k, q, e));
      other = subst (IsOther (work_of w.slots)) (sym h.0) (role-other w r late);
      others = λ k f. get_or-set_other c.slots a k n 0 (λ q. f q);
    }

-- Behind the lines that set it, an address stands in the working slot of its role.
pub record Reached (w : Scene) (g : AreSlots w.slots) (b : Running) (known : Knowledge) (l : code.Local) (lines : Lines) (c : flat.Local) (here : ℕ) : Type 0 where
  pub after : flat.Local
  pub state : after.state ≡ c.state
  pub passed : Passed w g c.slots after.slots
  pub point : Point w g b known l after
  pub runs : (rest : Lines) → run (lines ++ rest) (context_of w b) c ≡ run rest (context_of w b) after
  pub is : slot after (slot_of w.slots Address) ≡ here

-- Where a part stands

-- a byte that agrees with one within a pointer is within one
not-within : (w : Setting) (c : Cell) (n : NodeId) (t : TypeId) (i : ℕ) → CellsAgree w.table w.kind c (pointer n t (suc i))
    → ((m : NodeId) (u : TypeId) (j : ℕ) → c ≡ pointer m u (suc j) → ⊥) → ⊥
not-within w raw n t i a none = absurd a
not-within w (pointer m u j) n t i a none = none m u i (ap (λ (k : ℕ). pointer m u k) a.0)
not-within w (mixed u j) n t i a none = absurd a
not-within w (incomplete u) n t i a none = absurd a

module _ (w : Scene) (names : Names w) (g : AreSlots w.slots) (b : Running) (known : Knowledge) (l : code.Local) (c : flat.Local) (p : Point w g b known l c)
    (blocks : ℕ) (kept : Typing) (o : Object) (home : NodeId) (u : TypeId) (offset : ℕ) (t : TypeId) (safe : w.programs.whole.kind home ≡ Safe)
    (object : IsObject (context_in w names blocks kept) o home u) (part : IsPart w.programs.whole.table u offset t) (complete : IsComplete w.programs.whole.table u) where
  abbrev gr : Ground
  gr = ground_of w.programs l.state c.state

  abbrev number : ℕ
  number = number_of (around_of w b) o

  abbrev spot : Location
  spot = record { object = number_of (around_of w b) o; part = record { low = 0; high = size_of w.programs.whole.table u }; offset = pos 0 +ℤ pos offset; made = u }

  -- the part is a place of its type
  pub placed-part : IsPlaceIn (setting_of w.programs) l.state.memory b.depth (w.programs.whole.kind home) t (At spot)
  placed-part = part-placed (context_in w names blocks kept) (around_of w b) (solved-in w names blocks kept) (types_of known) (types_of known) l
      (facts-at w names g b known l c p blocks kept) o home u offset t object part complete

  pub typed : IsTypedPlace (setting_of w.programs) (outlines_of l.state.memory) t
      (record { object = number_of (around_of w b) o; part = record { low = 0; high = size_of w.programs.whole.table u }; offset = pos 0 +ℤ pos offset; made = u })
  typed = subst (λ (k : Kind). IsPlaceAt (setting_of w.programs) (outlines_of l.state.memory) k t spot) safe
      (subst (λ (x : Location). IsPlaceAt (setting_of w.programs) (outlines_of l.state.memory) (w.programs.whole.kind home) t x)
      (let e = placed-part.is in let f : placed-part.location ≡ spot = cc (e) in f) placed-part.place)

  pub lives-part : LivesAt (lives_of l.state.memory) b.depth (number_of (around_of w b) o)
  lives-part = subst (λ (x : Location). LivesAt (lives_of l.state.memory) b.depth x.object)
      (let e = placed-part.is in let f : placed-part.location ≡ spot = cc (e) in f) placed-part.reaches

  -- and so is the whole object
  abbrev begin : Location
  begin = record { object = object_number b.first o; part = record { low = 0; high = size_of w.programs.whole.table u }; offset = pos 0; made = u }

  whole-placed : IsPlaceIn (setting_of w.programs) l.state.memory b.depth (w.programs.whole.kind home) u (At begin)
  whole-placed = (object-held w names b l.state c.state p.variables p.there blocks kept o home u object).1

  whole : IsTypedPlace (setting_of w.programs) (outlines_of l.state.memory) u begin
  whole = subst (λ (k : Kind). IsPlaceAt (setting_of w.programs) (outlines_of l.state.memory) k u begin) safe
      (subst (λ (x : Location). IsPlaceAt (setting_of w.programs) (outlines_of l.state.memory) (w.programs.whole.kind home) u x)
      (let e = whole-placed.is in let f : whole-placed.location ≡ begin = cc (e) in f) whole-placed.place)

  same-object : typed.object ≡ whole.object
  same-object =
      let a = typed.located.found in let d = whole.located.found in let e = same-number w b o in
      let f : slice_get (outlines_of l.state.memory) (object_number b.first o) ≡ Some typed.object = subst (λ (k : ℕ). slice_get (outlines_of l.state.memory) k ≡ Some typed.object) e a in
      cc (d, f)

  at-part : typed.at ≡ offset
  at-part = let e : pos (0 + offset) ≡ pos typed.at = typed.stands.offset in let f : 0 + offset ≡ typed.at = cc (e) in omega (arith, f)

  at-whole : whole.at ≡ 0
  at-whole = let e : pos 0 ≡ pos whole.at = whole.stands.offset in cc (e)

  within : offset ≤ size_of w.programs.whole.table u
  within = let h = typed.stands.high in let e = at-part in omega (arith, h, e)

  long : length (cells_of w.programs.whole.table u) ≡ size_of w.programs.whole.table u
  long = (complete-some w.programs.whole.table names.solved.well_formed u complete).1

  between : IsBetweenPointers (cells_of w.programs.whole.table u) offset
  between = record { whole = λ n v i e. of n v i (whole.holds.agree offset (pointer n v (suc i)) e) }
    where
      of : (n : NodeId) (v : TypeId) (i : ℕ)
          → ((d : Cell) × (slice_get whole.object.cells (whole.at + offset) ≡ Some d) × CellsAgree w.programs.whole.table w.programs.whole.kind d (pointer n v (suc i))) → ⊥
      of n v i (d, found, agree) = not-within (setting_of w.programs) d n v i agree (λ m y j is. typed.stands.whole.whole m y j
          (let a : whole.at + offset ≡ typed.at = (let x = at-whole in let z = at-part in omega (arith, x, z)) in
          subst (λ (k : ℕ). slice_get typed.object.cells k ≡ Some (pointer m y (suc j))) a
          (subst (λ (q : Outline). slice_get q.cells (whole.at + offset) ≡ Some (pointer m y (suc j))) (sym same-object)
          (subst (λ (q : Cell). slice_get whole.object.cells (whole.at + offset) ≡ Some q) is found))))

  -- its place is so far behind the start of the object
  placed-at : IsThere (setting_of w.programs) w.programs.whole.node l.state c.state number offset typed.object
  placed-at = there (setting_of w.programs) w.programs.whole.node l.state c.state p.there.related b.depth number offset typed.object typed.located.found lives-part typed.typed.untagged

  pub part-at : address (ground_of w.programs l.state c.state) (object_number b.first o) + w.programs.whole.offset u offset
      ≡ place (ground_of w.programs l.state c.state) (number_of (around_of w b) o) offset
  part-at =
      let none : 0 + offset ≡ offset = omega arith in
      let sized : w.programs.whole.offset u offset ≡ before w.programs.whole.kind (cells_of w.programs.whole.table u) offset = names.sizes.offset u offset complete within between in
      let held = before-held (setting_of w.programs) names.solved.well_formed u whole.object.cells whole.at begin.part.high whole.holds offset (let a = within in let e = long in omega (arith, a, e)) in
      let start : before w.programs.whole.kind whole.object.cells whole.at ≡ 0 = ap (before w.programs.whole.kind whole.object.cells) at-whole in
      let here : before w.programs.whole.kind whole.object.cells (whole.at + offset) ≡ before w.programs.whole.kind whole.object.cells offset =
      ap (λ (k : ℕ). before w.programs.whole.kind whole.object.cells (k + offset)) at-whole ∙ ap (before w.programs.whole.kind whole.object.cells) none in
      let cells : before w.programs.whole.kind typed.object.cells offset ≡ before w.programs.whole.kind whole.object.cells offset =
      ap (λ (q : Outline). before w.programs.whole.kind q.cells offset) same-object in
      let is = placed-at.is in
      let same : address gr number ≡ address gr (object_number b.first o) = ap (address gr) (same-number w b o) in
      omega (arith, sized, held, start, here, cells, is, same)

  pub part-some : 8 ≤ place (ground_of w.programs l.state c.state) (number_of (around_of w b) o) offset
  part-some = placed-at.above

  pub part-small : place (ground_of w.programs l.state c.state) (number_of (around_of w b) o) offset < 2 ^ 32 + 1
  part-small = placed-at.below

  pub part-found : IsFound (setting_of w.programs) w.programs.whole.node l.state c.state t (At spot) (place (ground_of w.programs l.state c.state) (number_of (around_of w b) o) offset)
  part-found = subst (λ (j : ℕ). IsFound (setting_of w.programs) w.programs.whole.node l.state c.state t (At spot) (place (ground_of w.programs l.state c.state) (number_of (around_of w b) o) j))
      (let none : 0 + offset ≡ offset = omega arith in none)
      (typed-found (setting_of w.programs) w.programs.whole.node l.state c.state p.there.related b.depth t spot typed lives-part)

  -- the lines that set its address
  pub part-reached : (base : ℕ) (seat : Seat) (x : Lines)
      → Then (Gets (world_of w) Base (Start o) base) (Then (Gets (world_of w) Offset (Number (cured_offset (world_of w) (w.programs.whole.kind home) u offset)) (seat Offset))
      (Line (flat_instr.Add (slot_of w.slots Address) base (seat Offset) ∷ []))) x
      → Reached w g b known l x c (place (ground_of w.programs l.state c.state) (number_of (around_of w b) o) offset)
  unfolding Line Then
  part-reached base seat x (x1, xr, gets_base, (x2, x3, gets_offset, adds, is_rest), is_x) = record {
    after = z3;
    state = z2.state ∙ z1.state;
    passed = passed3;
    point = passed-point w g b known l c z3 p (z2.state ∙ z1.state) passed3;
    runs = λ rest.
        ap (λ (js : Lines). run (js ++ rest) (context_of w b) c) is_x ∙ ap (λ (js : Lines). run js (context_of w b) c) (append-append x1 xr rest) ∙ z1.runs (xr ++ rest)
        ∙ ap (λ (js : Lines). run (js ++ rest) (context_of w b) z1.after) is_rest
        ∙ ap (λ (js : Lines). run js (context_of w b) z1.after) (append-append x2 x3 rest) ∙ z2.runs (x3 ++ rest)
        ∙ ap (λ (js : Lines). run (js ++ rest) (context_of w b) z2.after) adds;
    is = value3;
  }
    where
      here : ℕ
      here = place (ground_of w.programs l.state c.state) (number_of (around_of w b) o) offset

      z1 : Got w g (context_of w b) x1 c base (address (ground_of w.programs l.state c.state) (object_number b.first o))
      z1 = got-start w g b known l c p o home u (named-object w b names blocks kept o home u object) Base (omega arith) base x1 gets_base

      p1 : Point w g b known l z1.after
      p1 = passed-point w g b known l c z1.after p z1.state z1.passed

      far : ℕ
      far = w.programs.whole.offset u offset

      gets_far : Gets (world_of w) Offset (Number far) (seat Offset) x2
      gets_far = subst (λ (k : Kind). Gets (world_of w) Offset (Number (cured_offset (world_of w) k u offset)) (seat Offset) x2) safe gets_offset

      z2 : Got w g (context_of w b) x2 z1.after (seat Offset) far
      z2 = got-number w g b known l z1.after p1 Offset (omega arith) far (seat Offset) x2 gets_far

      base_stays : slot z2.after base ≡ address (ground_of w.programs l.state c.state) (object_number b.first o)
      base_stays = got-spares w g b z1.after Offset far (seat Offset) x2 gets_far z2 Base refl base (start-spot w g Base o base x1 gets_base) ∙ z1.is

      z3 : flat.Local
      z3 = with_slot (slot_of w.slots Address) (sum_words (slot z2.after base) (slot z2.after (seat Offset))) z2.after

      passed3 : Passed w g c.slots z3.slots
      passed3 = passed-then w g c.slots z1.after.slots z3.slots z1.passed (passed-then w g z1.after.slots z2.after.slots z3.slots z2.passed
          (passed-role w g z2.after.slots Address (sum_words (slot z2.after base) (slot z2.after (seat Offset)))))

      value3 : slot z3 (slot_of w.slots Address) ≡ here
      value3 =
          get_or-set_same z2.after.slots (slot_of w.slots Address) (sum_words (slot z2.after base) (slot z2.after (seat Offset))) 0
          (let r = role-there w g Address in let q = z2.passed.long in let m = z1.passed.long in let k = p.count in omega (arith, r, q, m, k))
          ∙ ap (λ (k : ℕ). sum_words k (slot z2.after (seat Offset))) base_stays
          ∙ ap (λ (k : ℕ). sum_words (address (ground_of w.programs l.state c.state) (object_number b.first o)) k) z2.is
          ∙ ap (λ (k : ℕ). k % 2 ^ 64) part-at ∙ mod-eq_of_lt (let h : here < 2 ^ 64 = (let k = part-small in omega (arith, k)) in h)

-- The store

pub safe_not_wild : Safe ≡ Wild → ⊥
safe_not_wild e = absurd (cc (e))

pub store-part-follows : (w : Scene) (names : Names w) (g : AreSlots w.slots) (b : Running) (around : ℕ) (kept : Typing) (o : Object) (home : NodeId) (u : TypeId) (offset : ℕ)
    (v : Temp) (t : TypeId) (at assignment : Place) (known after : Knowledge) (blocks : Blocks) (base : ℕ) (seat : Seat) (x y : Lines)
    → w.programs.whole.kind home ≡ Safe → IsObject (context_in w names around kept) o home u → IsPart w.programs.whole.table u offset t → Includes known after
    → Then (Gets (world_of w) Base (Start o) base) (Then (Gets (world_of w) Offset (Number (cured_offset (world_of w) (w.programs.whole.kind home) u offset)) (seat Offset))
    (Line (flat_instr.Add (slot_of w.slots Address) base (seat Offset) ∷ []))) x
    → StoresInteger (world_of w) v t (part_slots (world_of w) base) (w.programs.whole.kind home) at known y
    → Follows w g b blocks known after (meaning.act (instr.Access (access.Store (target.Part o home u offset) v t at assignment)) (around_of w b)) (x ++ y)
unfolding Line Then
store-part-follows w names g b around kept o home u offset v t at assignment known after blocks base seat x y safe object part less
    gets (i, d, own, integer, low, (first, more, (gx, gy, got, checks, is_guard), line, is_y)) l c p =
    subst (λ (q : FlatOutcome). Match w g b after blocks (changed (stored S at assignment home t (Address (At spot)) (l.temps v) l.state)) q) (sym flat_goes)
    (subst (λ (z : Value). Match w g b after blocks (changed (stored S at assignment home t (Address (At spot)) z l.state)) (Done Goes stores.after)) (sym op.value)
    (subst (λ (z : Outcome source.Ending source.State (Unit {0})). Match w g b after blocks (changed z) (Done Goes stores.after)) (sym source_goes)
    (unwritten w g b known after l stores.next k4.after stores.after p4
    (there-kept w.programs l.state stores.next k4.after.state stores.after.state stores.stays b p.outer p4.there stores.related
    (facts-kept S w.programs.sites l.state.memory stores.next.memory b.depth is_kept p.there.facts))
    (grows-kept w.programs l.state stores.next k4.after.state stores.after.state stores.stays b.depth)
    (subst (λ (xs : List ℕ). Passed w g k4.after.slots xs) (sym stores.slots_are) (passed-none w g k4.after.slots)) less)))
  where
    S : Setting
    S = setting_of w.programs

    spot : Location
    spot = record { object = number_of (around_of w b) o; part = record { low = 0; high = size_of w.programs.whole.table u }; offset = pos 0 +ℤ pos offset; made = u }

    plain : w.programs.whole.kind home ≢ Wild
    plain e = safe_not_wild (sym safe ∙ e)

    complete : IsComplete w.programs.whole.table u
    complete = whole-complete (context_in w names around kept) (around_of w b) (solved-in w names around kept) (types_of known) (types_of known) l
        (facts-at w names g b known l c p around kept) u offset t part (integer-complete w t i integer.0)

    -- where the part stands
    here : ℕ
    here = place (ground_of w.programs l.state c.state) (number_of (around_of w b) o) offset

    some : 8 ≤ here
    some = part-some w names g b known l c p around kept o home u offset t safe object part complete

    z : Reached w g b known l x c here
    z = part-reached w names g b known l c p around kept o home u offset t safe object part complete base seat x gets

    -- NULL passes
    conditions : List Asked
    conditions = reached Safe (part_slots (world_of w) base) (size_at (world_of w) own Safe t) at

    checked : AreChecks (work_of w.slots) (reached Safe (part_slots (world_of w) base) (size_at (world_of w) own Safe t) at) gy
    checked = subst (λ (k : Kind). AreChecks (work_of w.slots) (flat_conditions (write_integer (world_of w) own k t (part_slots (world_of w) base)) k at) gy) safe checks

    no_numbers : gx ≡ []
    no_numbers = subst (λ (k : Kind). AreGot (world_of w) (numbers_of (write_integer (world_of w) own k t (part_slots (world_of w) base)) k) gx) safe got

    k4 : AreChecked (work_of w.slots) (reached Safe (part_slots (world_of w) base) (size_at (world_of w) own Safe t) at) gy (context_of w b) z.after
    k4 = rows (work_of w.slots) conditions gy (context_of w b) z.after (ready w g c z.after p.count p.nought z.passed) (role-other w Address (omega arith), tt) (tt, tt) (tt, λ q. tt) checked

    p4 : Point w g b known l k4.after
    p4 = passed-point w g b known l z.after k4.after z.point k4.state (record { others = λ a h. k4.slots a (lasting-other w g a h); long = k4.count })

    value4 : slot k4.after (slot_of w.slots Address) ≡ here
    value4 = k4.slots (slot_of w.slots Address) (role-other w Address (omega arith)) ∙ z.is

    passes : first_false w.programs.parts z.after.state.memory (reached Safe (part_slots (world_of w) base) (size_at (world_of w) own Safe t) at) (slot z.after) ≡ None
    passes = ap (λ (q : Bool). if q then None else Some (asked check.Null at (IsNotZero (slot_of w.slots Address))))
        (not-zero (slot z.after (slot_of w.slots Address)) (let e = z.is in let h = some in omega (arith, e, h)))

    -- the value is stored
    op : Operand l k4.after v i d Low
    op = lowly w g b known l k4.after p4 v i d integer.1 low

    found : IsFound S w.programs.whole.node l.state k4.after.state t (At spot) (slot k4.after (slot_of w.slots Address))
    found =
        subst (λ (f : flat.State). IsFound S w.programs.whole.node l.state f t (At spot) (slot k4.after (slot_of w.slots Address))) (sym (k4.state ∙ z.state))
        (subst (λ (m : ℕ). IsFound S w.programs.whole.node l.state c.state t (At spot) m) (sym value4)
        (part-found w names g b known l c p around kept o home u offset t safe object part complete))

    stores : GoOnAlike S w.programs.whole.node l.state k4.after (store_integer (w.programs.whole.kind home) i (At spot) op.z l.state)
        (act (flat_instr.St i.bytes (slot_of w.slots Address) d) (context_of w b) k4.after) tt k4.after.slots
    stores = integers-stored S w.programs.whole.node (w.programs.whole.kind home) t i (At spot) op.z l.state (context_of w b) (slot_of w.slots Address) d k4.after plain
        integer.0 integer.1 p4.there.related found op.holds

    changed : Outcome source.Ending source.State (Unit {0}) → CodeOutcome
    changed z = from (beside l.temps z) (λ m. done Goes)

    writes : TypeShape → Outcome source.Ending source.State (Unit {0})
    writes h = from (all_placed S (place_of_write at assignment) (conditions_of_write (w.programs.whole.kind home) h (At spot) (Integer op.z)) l.state)
        (λ m. store_shape (w.programs.whole.kind home) h (At spot) (Integer op.z))

    F : Outcome source.Ending source.State (Unit {0}) → Outcome source.Ending source.State (Unit {0})
    F z = from z (λ m. store_integer (w.programs.whole.kind home) i (At spot) op.z)

    source_goes : stored S at assignment home t (Address (At spot)) (Integer op.z) l.state ≡ Done tt stores.next
    source_goes = ap writes integer.0
        ∙ ap (λ (cs : List Condition). F (all_placed S (place_of_write at assignment) cs l.state))
        (asked-of-write i.bytes (w.programs.whole.kind home) plain (At spot) ∙ ap (λ (k : Kind). asked_of i.bytes k (At spot)) safe)
        ∙ stores.source_goes

    is_kept : IsKept S w.programs.sites l.state.memory stores.next.memory
    is_kept = subst (λ (z : Outcome source.Ending source.State (Unit {0})). Gives z (λ m r. IsKept S w.programs.sites l.state.memory r.memory)) source_goes
        (gives-written_integer_place S names.solved.well_formed w.programs.sites t i integer.0 l.state b.depth p.there.facts.objects op.z at assignment
        (w.programs.whole.kind home) (At spot) p.there.facts.outlines (placed-part w names g b known l c p around kept o home u offset t safe object part complete))

    flat_goes : run (x ++ y) (context_of w b) c ≡ Done Goes stores.after
    flat_goes =
        z.runs y
        ∙ ap (λ (js : Lines). run js (context_of w b) z.after) is_y
        ∙ ap (λ (js : Lines). run (js ++ more) (context_of w b) z.after) is_guard
        ∙ ap (λ (js : Lines). run ((js ++ gy) ++ more) (context_of w b) z.after) no_numbers
        ∙ k4.runs more
        ∙ ap (λ (z : Option Asked). from (stopped_by z k4.after) (λ m. then_go m (run more (context_of w b)))) passes
        ∙ ap (λ (js : Lines). run js (context_of w b) k4.after) (line ∙ line-of-store (w.programs.whole.kind home) plain i.bytes (part_slots (world_of w) base) d)
        ∙ ap (λ (z : FlatOutcome). from z (λ m. then_go m (run [] (context_of w b)))) stores.flat_goes

-- The store of a pointer

-- where a SAFE address leads doesn't depend on the type at which it was made
part-stored : (S : Setting) (at assignment : Place) (home : NodeId) (t : TypeId) (m : NodeId) (u r : TypeId) → shape_at S.table t ≡ shape.Pointer m u → S.kind home ≡ Safe
    → (x : Location) (q : Pointer) (s : source.State)
    → stored S at assignment home t (Address (At x)) (Address q) s ≡ stored S at assignment home t (Address (At (record x { made = r }))) (Address q) s
part-stored S at assignment home t m u r shaped safe x q s = reads (At x) ∙ sym (reads (At (record x { made = r })))
  where
    writes : TypeShape → Kind → Pointer → Outcome source.Ending source.State (Unit {0})
    writes h k z = from (all_placed S (place_of_write at assignment) (conditions_of_write k h z (Address q)) s) (λ y. store_shape k h z (Address q))

    reads : (z : Pointer) → stored S at assignment home t (Address z) (Address q) s ≡ writes (shape.Pointer m u) Safe z
    reads z = ap (λ (h : TypeShape). writes h (S.kind home) z) shaped ∙ ap (λ (k : Kind). writes (shape.Pointer m u) k z) safe

-- a place of a type in an object without tags, as a SAFE pointer to the type
pub safe-place : (S : Setting) (outlines : List Outline) (t : TypeId) (x : Location) → is_function S.table t ≡ false → IsTypedPlace S outlines t x → IsSafeAt S outlines t (record x { made = t })
safe-place S outlines t x data_type h = record {
  object = h.object;
  at = h.at;
  located = record { found = h.located.found; ordered = h.located.ordered; inside = h.located.inside };
  typed = record { untagged = h.typed.untagged; low = h.typed.low; high = h.typed.high };
  stands = record { offset = h.stands.offset; low = h.stands.low; high = h.stands.high; whole = h.stands.whole };
  data_type = data_type;
  holds = h.holds;
  covers = covers_own S.table S.kind t data_type;
}

-- The part is aimed at.
unfoldable pub part-aim : (w : Scene) (names : Names w) (g : AreSlots w.slots) (b : Running) (known : Knowledge) (l : code.Local) (c : flat.Local) (p : Point w g b known l c)
    (blocks : ℕ) (kept : Typing) (o : Object) (home : NodeId) (u : TypeId) (offset : ℕ) (t : TypeId) → w.programs.whole.kind home ≡ Safe
    → IsObject (context_in w names blocks kept) o home u → IsPart w.programs.whole.table u offset t → IsComplete w.programs.whole.table u → is_function w.programs.whole.table t ≡ false
    → (x : Lines) (z : Reached w g b known l x c (place (ground_of w.programs l.state c.state) (number_of (around_of w b) o) offset)) (base : ℕ)
    → Aimed w g b l z.after (part_slots (world_of w) base) (w.programs.whole.kind home) t
part-aim w names g b known l c p blocks kept o home u offset t safe object part complete data_type x z base = record {
  pointer = At spot;
  held = record { value = value; reaches = lives };
  words = subst (λ (k : Kind). AreWordsOf (ground_of w.programs l.state z.after.state) (slot z.after) (part_slots (world_of w) base) k (At spot)) (sym safe)
      (subst (λ (f : flat.State). slot z.after (slot_of w.slots Address) ≡ place (ground_of w.programs l.state f) (number_of (around_of w b) o) (0 + offset)) (sym z.state)
      (z.is ∙ ap (place (ground_of w.programs l.state c.state) (number_of (around_of w b) o)) (let e : offset ≡ 0 + offset = omega arith in e)));
  stays = λ a h. inr (subst (λ (k : Kind). IsSlotOf k (part_slots (world_of w) base) a) safe h);
}
  where
    spot : Location
    spot = record { object = number_of (around_of w b) o; part = record { low = 0; high = size_of w.programs.whole.table u }; offset = pos 0 +ℤ pos offset; made = t }

    value : IsValueOf (setting_of w.programs) (outlines_of l.state.memory) (w.programs.whole.kind home) t (At spot)
    value = subst (λ (k : Kind). IsValueOf (setting_of w.programs) (outlines_of l.state.memory) k t (At spot)) (sym safe)
        (safe-place (setting_of w.programs) (outlines_of l.state.memory) t
        (record { object = number_of (around_of w b) o; part = record { low = 0; high = size_of w.programs.whole.table u }; offset = pos 0 +ℤ pos offset; made = u }) data_type
        (typed w names g b known l c p blocks kept o home u offset t safe object part complete))

    lives : LivesAt (lives_of l.state.memory) b.depth (number_of (around_of w b) o)
    lives = lives-part w names g b known l c p blocks kept o home u offset t safe object part complete

pub store-part-pointer-follows : (w : Scene) (names : Names w) (g : AreSlots w.slots) (b : Running) (around : ℕ) (kept : Typing) (o : Object) (home : NodeId) (u : TypeId) (offset : ℕ)
    (v : Temp) (t : TypeId) (at assignment : Place) (known after : Knowledge) (blocks : Blocks) (base : ℕ) (seat : Seat) (x y : Lines)
    → w.programs.whole.kind home ≡ Safe → IsObject (context_in w names around kept) o home u → IsPart w.programs.whole.table u offset t → Includes known after
    → Then (Gets (world_of w) Base (Start o) base) (Then (Gets (world_of w) Offset (Number (cured_offset (world_of w) (w.programs.whole.kind home) u offset)) (seat Offset))
    (Line (flat_instr.Add (slot_of w.slots Address) base (seat Offset) ∷ []))) x
    → StoresPointer (world_of w) v t (part_slots (world_of w) base) (w.programs.whole.kind home) at assignment known y
    → Follows w g b blocks known after (meaning.act (instr.Access (access.Store (target.Part o home u offset) v t at assignment)) (around_of w b)) (x ++ y)
unfolding part-aim
store-part-pointer-follows w names g b around kept o home u offset v t at assignment known after blocks base seat x y safe object part less gets stores l c p =
    subst (λ (q : FlatOutcome). Match w g b after blocks (changed (stored S at assignment home t (Address (At spot)) (l.temps v) l.state)) q) (sym (z.runs y))
    (subst (λ (r : Outcome source.Ending source.State (Unit {0})). Match w g b after blocks (changed r) (run y (context_of w b) z.after)) (sym (same stores))
    (store-pointer-at w names g b v home t at assignment known after blocks (part_slots (world_of w) base) plain l z.after z.point
    (part-aim w names g b known l c p around kept o home u offset t safe object part complete data_type x z base) (λ wild. absurd (plain wild)) less y stores))
  where
    S : Setting
    S = setting_of w.programs

    spot : Location
    spot = record { object = number_of (around_of w b) o; part = record { low = 0; high = size_of w.programs.whole.table u }; offset = pos 0 +ℤ pos offset; made = u }

    changed : Outcome source.Ending source.State (Unit {0}) → CodeOutcome
    changed r = from (beside l.temps r) (λ m. done Goes)

    plain : w.programs.whole.kind home ≢ Wild
    plain e = safe_not_wild (sym safe ∙ e)

    has_size : IsComplete w.programs.whole.table t
    has_size = stored-complete w v t (part_slots (world_of w) base) (w.programs.whole.kind home) at assignment known y stores

    data_type : is_function w.programs.whole.table t ≡ false
    data_type = complete-data w.programs.whole.table names.solved.well_formed t has_size

    complete : IsComplete w.programs.whole.table u
    complete = whole-complete (context_in w names around kept) (around_of w b) (solved-in w names around kept) (types_of known) (types_of known) l
        (facts-at w names g b known l c p around kept) u offset t part
        has_size

    z : Reached w g b known l x c (place (ground_of w.programs l.state c.state) (number_of (around_of w b) o) offset)
    z = part-reached w names g b known l c p around kept o home u offset t safe object part complete base seat x gets

    same : StoresPointer (world_of w) v t (part_slots (world_of w) base) (w.programs.whole.kind home) at assignment known y
        → stored S at assignment home t (Address (At spot)) (l.temps v) l.state ≡ stored S at assignment home t (Address (At (record spot { made = t }))) (l.temps v) l.state
    same (m, r, d, sure, own, shaped, points, rest) =
        ap (λ (f : Value). stored S at assignment home t (Address (At spot)) f l.state) what.value
        ∙ part-stored S at assignment home t m r t shaped safe spot what.pointer l.state
        ∙ sym (ap (λ (f : Value). stored S at assignment home t (Address (At (record spot { made = t }))) f l.state) what.value)
      where
        what : Pointed w g b l c v m r d
        what = pointed w g b known l c p v m r d sure (as-address known v m r d sure points)

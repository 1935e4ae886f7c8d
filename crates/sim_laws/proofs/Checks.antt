-- Checks: the numbers that they compare with, and that the lines stop exactly where C does.
use Rattle.std.proofs.Common.{◌&&◌, ◌≡◌, ℕ, ◌+◌, ◌<◌, ◌≤◌, ◌⊎◌, inl, inr, Bool, true, false, List, [], ◌∷◌, ◌++◌, slice_index, Option, Some, None, refl, ap, sym, subst, ◌∙◌, arith, nat_eq, nat_le, is_none, if◌then◌else◌}
use Rattle.std.proofs.lemmas.Bool.Decides.{nat_tests}
use Rattle.cc_base.specs.declared.fault.Check.{Check}
use Rattle.cc_base.specs.declared.fault.Check.TheVariants as check_name
use Rattle.cc_base.specs.declared.place.Place.{Place}
use Rattle.runs.specs.Outcome.{Outcome, Ended, Done, done, leaves, from, allowed, Matches, ◌>>◌}
use Rattle.runs.specs.Control.{Goes, then_go}
use Rattle.flat_mem.specs.Memory as flat_memory
use Rattle.src_mem.specs.Pointers.{Value}
use Rattle.src_mem.specs.Memory as stored
use Rattle.src_mem.specs.State as source
use Rattle.src_mem.specs.State.{Setting}
use Rattle.src_mem.specs.Checks.{Condition, check_of, holds, checked, all_placed}
use Rattle.cil_form.specs.declared.number.Temp.{Temp}
use Rattle.cil_form.specs.State as code
use Rattle.cil_form.specs.State.{with_temp, beside}
use Rattle.cured_code.specs.declared.parts.Parts.{Parts}
use Rattle.cured_code.specs.FlatState as flat
use Rattle.cured_code.specs.FlatState.{slot}
use Rattle.cured_code.specs.FlatMachine.{run}
use Rattle.check_forms.specs.Pieces.{Line, Then}
use Rattle.check_forms.specs.Conditions as condition
use Rattle.check_forms.specs.Conditions.{flat_holds}
use Rattle.check_forms.specs.Lines.{IsOther}
use Rattle.check_forms.specs.Rows.{Asked, all_asked}
use Rattle.check_forms.specs.RowChecks.{AreChecks, AreChecked, AreAllApart, AreAllHeld, AreSafe, first_false, stopped_by, slots_after}
use Rattle.check_forms.proofs.RowLaws.{rows}
use Rattle.check_forms.proofs.TestLaws.{append-append}
use Rattle.sim_relation.specs.Points.{Known, Knowledge, Number}
use Rattle.sim_checks.specs.Moving.{all_hold}
use Rattle.cure_rules.specs.Slots.{AreSlots, Role, role_number, slot_of, work_of}
use Rattle.cure_rules.specs.Known.{Gets, held_words}
use Rattle.cure_rules.specs.Checks.{Need, AreGot}
use Rattle.cure_rules.specs.Code.{Blocks}
use Rattle.sim_laws.specs.Scenes.{Scene, Running, world_of, context_of}
use Rattle.sim_laws.specs.Points.{Point, IsLasting, Passed}
use Rattle.sim_laws.specs.Statements.{Lines, CodeOutcome, StatesEndAlike, Match}
use Rattle.sim_laws.proofs.Points.{unwritten, grows-same, some-held, steady-at, steady-lasting}
use Rattle.sim_laws.proofs.Guards.{kept-at, passed-none, passed-then, lasting-apart, lasting-other, role-below, ready, Got, got-number}
use Rattle.sim_laws.proofs.Giving.{Gave, gives-follows}

-- a point at which other working slots are set
pub passed-point : (w : Scene) (g : AreSlots w.slots) (b : Running) (known : Knowledge) (l : code.Local) (c d : flat.Local) → Point w g b known l c
    → d.state ≡ c.state → Passed w g c.slots d.slots → Point w g b known l d
passed-point w g b known l c d p same passed =
    subst (λ (s : flat.State). Point w g b known l (record { state = s; slots = d.slots })) (sym same)
    (unwritten w g b known known l l.state c (record { state = c.state; slots = d.slots }) p p.there
    (grows-same w.programs b.depth l.state l.state c.state c.state refl refl) passed (λ t x e. e))

-- Numbers

-- each stands in its slot, which no check writes
abbrev pub AreThere : Scene → flat.Local → List Need → Type 0
AreThere w c [] = Unit {0}
AreThere w c (x ∷ xs) = (slot c x.number.slot ≡ x.number.value) × IsOther (work_of w.slots) x.number.slot × AreThere w c xs

-- they have roles of their own, none of which is one that checks work in
abbrev pub IsNoneOf : Role → List Need → Type 0
IsNoneOf r [] = Unit {0}
IsNoneOf r (x ∷ xs) = (nat_eq (role_number r) (role_number x.role) ≡ false) × IsNoneOf r xs

abbrev pub AreOfRoles : List Need → Type 0
AreOfRoles [] = Unit {0}
AreOfRoles (x ∷ xs) = (nat_le 4 (role_number x.role) ≡ true) × IsNoneOf x.role xs × AreOfRoles xs

-- the working slot of another role, and each that lasts, is left
abbrev pub IsSpared : (w : Scene) → AreSlots w.slots → List Need → List ℕ → List ℕ → Type 0
IsSpared w g needs slots after = (r : Role) → IsNoneOf r needs → (a : ℕ) → IsLasting (g.owner a) ⊎ (a ≡ slot_of w.slots r) → slice_index after a ≡ slice_index slots a

-- behind the lines that set them
pub record AllGot (w : Scene) (g : AreSlots w.slots) (b : Running) (needs : List Need) (lines : Lines) (c : flat.Local) : Type 0 where
  pub after : flat.Local
  pub state : after.state ≡ c.state
  pub passed : Passed w g c.slots after.slots
  pub runs : (rest : Lines) → run (lines ++ rest) (context_of w b) c ≡ run rest (context_of w b) after
  pub there : AreThere w after needs
  pub spares : IsSpared w g needs c.slots after.slots

-- where a number stands that is kept, or set
pub got-spot : (w : Scene) (g : AreSlots w.slots) (r : Role) (n a : ℕ) (lines : Lines) → Gets (world_of w) r (Number n) a lines
    → IsLasting (g.owner a) ⊎ (a ≡ slot_of w.slots r)
got-spot w g r n a lines (inl h) =
    let k = kept-at w (record { slot = a; content = Number n }) h.0 in inl (subst IsLasting (sym (g.kept k.0 (record { slot = a; content = Number n }) k.1).is) tt)
got-spot w g r n a lines (inr h) = inr h.0

-- setting one leaves the working slots of other roles
pub got-spares : (w : Scene) (g : AreSlots w.slots) (b : Running) (c : flat.Local) (r : Role) (n a : ℕ) (lines : Lines) → Gets (world_of w) r (Number n) a lines
    → (z : Got w g (context_of w b) lines c a n) (q : Role) → nat_eq (role_number q) (role_number r) ≡ false → (d : ℕ)
    → IsLasting (g.owner d) ⊎ (d ≡ slot_of w.slots q) → slot z.after d ≡ slot c d
got-spares w g b c r n a lines gets z q other d (inl lasts) = z.passed.others d lasts
got-spares w g b c r n a lines gets z q other d (inr e) = by (got-spot w g r n a lines gets)
  where
    by : IsLasting (g.owner a) ⊎ (a ≡ slot_of w.slots r) → slot z.after d ≡ slot c d
    by (inl lasts) = z.others d (λ f. lasting-apart w g a (role_number q) lasts (role-below q) (sym f ∙ e))
    by (inr is) = z.others d (λ f. let h : role_number q ≡ role_number r = omega (arith, e, f, is) in let k : nat_eq (role_number q) (role_number r) ≡ true = grind (arith, nat_tests, h) in absurd (cc (other, k)))

pub all-got : (w : Scene) (g : AreSlots w.slots) (b : Running) (known : Knowledge) (l : code.Local) (needs : List Need) (lines : Lines) (c : flat.Local)
    → Point w g b known l c → AreOfRoles needs → AreGot (world_of w) needs lines → AllGot w g b needs lines c
unfolding Line Then
all-got w g b known l [] lines c p roles is = subst (λ (js : Lines). AllGot w g b [] js c) (sym is) (record {
  after = c;
  state = refl;
  passed = passed-none w g c.slots;
  runs = λ rest. refl;
  there = tt;
  spares = λ r none a h. refl;
})
all-got w g b known l (x ∷ xs) lines c p (late, apart, roles) (first, rest, gets, more, is) = subst (λ (js : Lines). AllGot w g b (x ∷ xs) js c) (sym is)
    (let z = got-number w g b known l c p x.role (late-enough (role_number x.role) late) x.number.value x.number.slot first gets in
    with_rest z (all-got w g b known l xs rest z.after (passed-point w g b known l c z.after p z.state z.passed) roles more))
  where
    late-enough : (n : ℕ) → nat_le 4 n ≡ true → 4 ≤ n
    late-enough n h = grind (arith, nat_tests, h)

    with_rest : (z : Got w g (context_of w b) first c x.number.slot x.number.value) → AllGot w g b xs rest z.after → AllGot w g b (x ∷ xs) (first ++ rest) c
    with_rest z y = record {
      after = y.after;
      state = y.state ∙ z.state;
      passed = passed-then w g c.slots z.after.slots y.after.slots z.passed y.passed;
      runs = λ more. ap (λ (js : Lines). run js (context_of w b) c) (append-append first rest more) ∙ z.runs (rest ++ more) ∙ y.runs more;
      there = (y.spares x.role apart x.number.slot (got-spot w g x.role x.number.value x.number.slot first gets) ∙ z.is, z.other, y.there);
      spares = λ r none a h. y.spares r none.1 a h ∙ got-spares w g b c x.role x.number.value x.number.slot first gets z r none.0 a h;
    }

-- Checks behind their numbers

-- what the lines of conditions read is there: operands and numbers are in slots that they don't write, and no line traps
pub record AreReady (w : Scene) (c d : flat.Local) (conditions : List Asked) : Type 0 where
  pub apart : AreAllApart (work_of w.slots) conditions
  pub held : AreAllHeld (slot d) conditions
  pub safe : AreSafe w.programs.parts c.state.memory conditions (slot d)

-- The lines stop at the first condition that is false on the slots behind the numbers, or go on.
pub record Guarded (w : Scene) (g : AreSlots w.slots) (b : Running) (known : Knowledge) (l : code.Local) (needs : List Need) (conditions : List Asked) (lines : Lines)
    (c : flat.Local) : Type 0 where
  pub middle : flat.Local
  pub passed : Passed w g c.slots middle.slots
  pub there : AreThere w middle needs
  pub after : flat.Local
  pub point : Point w g b known l after
  pub state : after.state ≡ c.state
  pub runs : (rest : Lines) → run (lines ++ rest) (context_of w b) c
      ≡ from (stopped_by (first_false w.programs.parts c.state.memory conditions (slot middle)) after) (λ x. then_go x (run rest (context_of w b)))
  pub others : (a : ℕ) → IsOther (work_of w.slots) a → slot after a ≡ slot middle a
  -- where they go on, working slots hold what the tests leave
  pub behind : first_false w.programs.parts c.state.memory conditions (slot middle) ≡ None
      → slot after ≡ slots_after (work_of w.slots) w.programs.parts c.state.memory conditions (slot middle)

-- slots that last are as they were
pub guarded-lasting : (w : Scene) (g : AreSlots w.slots) (b : Running) (known : Knowledge) (l : code.Local) (needs : List Need) (conditions : List Asked) (lines : Lines)
    (c : flat.Local) (z : Guarded w g b known l needs conditions lines c) (a : ℕ) → IsLasting (g.owner a) → slot z.after a ≡ slot c a
guarded-lasting w g b known l needs conditions lines c z a lasts = z.others a (lasting-other w g a lasts) ∙ z.passed.others a lasts

-- the same, where the working slot of a role that no number has is left as well
pub record Sparing (w : Scene) (g : AreSlots w.slots) (b : Running) (known : Knowledge) (l : code.Local) (needs : List Need) (conditions : List Asked) (lines : Lines)
    (c : flat.Local) : Type 0 where
  pub guarded : Guarded w g b known l needs conditions lines c
  pub spared : IsSpared w g needs c.slots guarded.middle.slots

-- checks behind numbers that are got
pub checked-got : (w : Scene) (g : AreSlots w.slots) (b : Running) (known : Knowledge) (l : code.Local) (needs : List Need) (conditions : List Asked) (x y : Lines)
    (c : flat.Local) → Point w g b known l c → (z : AllGot w g b needs x c) → AreChecks (work_of w.slots) conditions y → AreReady w c z.after conditions
    → Sparing w g b known l needs conditions (x ++ y) c
checked-got w g b known l needs conditions x y c p z checks r = with_checks (rows (work_of w.slots) conditions y (context_of w b) z.after
    (ready w g c z.after p.count p.nought z.passed) r.apart r.held
    (subst (λ (s : flat.State). AreSafe w.programs.parts s.memory conditions (slot z.after)) (sym z.state) r.safe) checks)
  where
    with_checks : AreChecked (work_of w.slots) conditions y (context_of w b) z.after → Sparing w g b known l needs conditions (x ++ y) c
    with_checks k = record {
      guarded = record {
        middle = z.after;
        passed = z.passed;
        there = z.there;
        after = k.after;
        point = passed-point w g b known l c k.after p (k.state ∙ z.state)
            (passed-then w g c.slots z.after.slots k.after.slots z.passed
            (record { others = λ a h. k.slots a (lasting-other w g a h); long = k.count }));
        state = k.state ∙ z.state;
        runs = λ rest. ap (λ (js : Lines). run js (context_of w b) c) (append-append x y rest) ∙ z.runs (y ++ rest) ∙ k.runs rest
            ∙ ap (λ (s : flat.State). from (stopped_by (first_false w.programs.parts s.memory conditions (slot z.after)) k.after) (λ u. then_go u (run rest (context_of w b)))) z.state;
        others = k.slots;
        behind = λ passed. k.behind (ap (λ (s : flat.State). first_false w.programs.parts s.memory conditions (slot z.after)) z.state ∙ passed)
            ∙ ap (λ (s : flat.State). slots_after (work_of w.slots) w.programs.parts s.memory conditions (slot z.after)) z.state;
      };
      spared = z.spares;
    }

pub guarded-sparing : (w : Scene) (g : AreSlots w.slots) (b : Running) (known : Knowledge) (l : code.Local) (needs : List Need) (conditions : List Asked) (lines : Lines)
    (c : flat.Local) → Point w g b known l c → AreOfRoles needs → Then (AreGot (world_of w) needs) (AreChecks (work_of w.slots) conditions) lines
    → ((d : flat.Local) → Passed w g c.slots d.slots → AreThere w d needs → AreReady w c d conditions)
    → Sparing w g b known l needs conditions lines c
unfolding Then
guarded-sparing w g b known l needs conditions lines c p roles (x, y, gets, checks, is) are_ready =
    subst (λ (js : Lines). Sparing w g b known l needs conditions js c) (sym is) (of (all-got w g b known l needs x c p roles gets))
  where
    of : AllGot w g b needs x c → Sparing w g b known l needs conditions (x ++ y) c
    of z = checked-got w g b known l needs conditions x y c p z checks (are_ready z.after z.passed z.there)

pub guarded : (w : Scene) (g : AreSlots w.slots) (b : Running) (known : Knowledge) (l : code.Local) (needs : List Need) (conditions : List Asked) (lines : Lines)
    (c : flat.Local) → Point w g b known l c → AreOfRoles needs → Then (AreGot (world_of w) needs) (AreChecks (work_of w.slots) conditions) lines
    → ((d : flat.Local) → Passed w g c.slots d.slots → AreThere w d needs → AreReady w c d conditions) → Guarded w g b known l needs conditions lines c
guarded w g b known l needs conditions lines c p roles guard are_ready =
    (guarded-sparing w g b known l needs conditions lines c p roles guard are_ready).guarded

-- C and the lines

-- C's conditions go on, or stop by the check and at the place of a condition of the lines
abbrev pub StopsAlike : Option Asked → Outcome source.Ending source.State (Unit {0}) → source.State → Type 0
StopsAlike None o s = o ≡ Done tt s
StopsAlike (Some a) o s = o ≡ Ended (source.Stopped a.check a.place) s

-- they are compared one by one: of one whose forerunners hold
abbrev pub AreCompared : Parts → flat_memory.Memory → (ℕ → ℕ) → Setting → stored.Memory → (Condition → Place) → List Asked → List Condition → Type 0
AreCompared parts m e w memory place [] [] = Unit {0}
AreCompared parts m e w memory place [] (c ∷ cs) = ⊥
AreCompared parts m e w memory place (a ∷ as') [] = ⊥
AreCompared parts m e w memory place (a ∷ as') (c ∷ cs) = (a.check ≡ check_of c) × (a.place ≡ place c)
    × (flat_holds parts m a.condition e ≡ holds w memory c) × (holds w memory c ≡ true → AreCompared parts m e w memory place as' cs)

-- one condition, and then more
pub stops-then : (parts : Parts) (m : flat_memory.Memory) (e : ℕ → ℕ) (w : Setting) (place : Condition → Place) (s : source.State) (a : Asked) (as' : List Asked)
    (c : Condition) (cs : List Condition) → a.check ≡ check_of c → a.place ≡ place c → flat_holds parts m a.condition e ≡ holds w s.memory c
    → (holds w s.memory c ≡ true → StopsAlike (first_false parts m as' e) (all_placed w place cs s) s)
    → StopsAlike (first_false parts m (a ∷ as') e) (all_placed w place (c ∷ cs) s) s
stops-then parts m e w place s a as' c cs check at value more = subst (λ (p : Bool). Goal p (holds w s.memory c)) (sym value) (by (holds w s.memory c) refl)
  where
    passes : Bool → Outcome source.Ending source.State (Unit {0})
    passes q = allowed q (source.Stopped (check_of c) (place c)) (done tt) s

    Goal : Bool → Bool → Type 0
    Goal p q = StopsAlike (if p then first_false parts m as' e else Some a) (from (passes q) (λ _. all_placed w place cs)) s

    by : (q : Bool) → holds w s.memory c ≡ q → Goal q q
    by true is = more is
    by false is = ap (λ z. Ended (source.Stopped z (place c)) s) (sym check) ∙ ap (λ z. Ended (source.Stopped a.check z) s) (sym at)

pub stops-alike : (parts : Parts) (m : flat_memory.Memory) (e : ℕ → ℕ) (w : Setting) (place : Condition → Place) (s : source.State) (as' : List Asked)
    (cs : List Condition) → AreCompared parts m e w s.memory place as' cs → StopsAlike (first_false parts m as' e) (all_placed w place cs s) s
stops-alike parts m e w place s [] [] h = refl
stops-alike parts m e w place s [] (c ∷ cs) h = absurd h
stops-alike parts m e w place s (a ∷ as') [] h = absurd h
stops-alike parts m e w place s (a ∷ as') (c ∷ cs) (check, at, value, more) =
    stops-then parts m e w place s a as' c cs check at value (λ is. stops-alike parts m e w place s as' cs (more is))

-- An instruction that gives a value behind what it checks: `F` is what C does with the outcome of its conditions.
pub guard-gives : (w : Scene) (g : AreSlots w.slots) (b : Running) (known after : Knowledge) (blocks : Blocks) (into : Temp) (l : code.Local) (d : flat.Local)
    → Point w g b known l d → (first : Option Asked) (o : Outcome source.Ending source.State (Unit {0})) → StopsAlike first o l.state
    → (F : Outcome source.Ending source.State (Unit {0}) → Outcome source.Ending source.State Value) → ((e : source.Ending) (s : source.State) → F (Ended e s) ≡ Ended e s)
    → (rest : Lines) → (first ≡ None
    → Matches (Gave w g b known after into l d) (λ e s f k. StatesEndAlike w.programs e s f k.state) (F (Done tt l.state)) (run rest (context_of w b) d))
    → Match w g b after blocks
    (from (beside l.temps (F o)) (λ v. leaves (λ (k : code.Local). record k { temps = with_temp into v k.temps }) >> done Goes))
    (from (stopped_by first d) (λ x. then_go x (run rest (context_of w b))))
guard-gives w g b known after blocks into l d p None o alike F ended rest gives =
    subst (λ (z : Outcome source.Ending source.State (Unit {0})). Match w g b after blocks (gave (F z)) (run rest (context_of w b) d)) (sym alike)
    (gives-follows w g b known after blocks into l d p (F (Done tt l.state)) (run rest (context_of w b) d) (gives refl))
  where
    gave : Outcome source.Ending source.State Value → CodeOutcome
    gave y = from (beside l.temps y) (λ v. leaves (λ (k : code.Local). record k { temps = with_temp into v k.temps }) >> done Goes)
guard-gives w g b known after blocks into l d p (Some a) o alike F ended rest gives =
    subst (λ (z : Outcome source.Ending source.State (Unit {0})). Match w g b after blocks (gave (F z)) (Ended (flat.Stopped a.check a.place) d)) (sym alike)
    (subst (λ (z : Outcome source.Ending source.State Value). Match w g b after blocks (gave z) (Ended (flat.Stopped a.check a.place) d))
    (sym (ended (source.Stopped a.check a.place) l.state)) ((refl, refl), p.there.related))
  where
    gave : Outcome source.Ending source.State Value → CodeOutcome
    gave y = from (beside l.temps y) (λ v. leaves (λ (k : code.Local). record k { temps = with_temp into v k.temps }) >> done Goes)

-- Conditions of the lines that stop by one check at one place: together they say what one of C does.

abbrev pub AllStop : Check → Place → List Asked → Type 0
AllStop check at [] = Unit {0}
AllStop check at (a ∷ as') = (a.check ≡ check) × (a.place ≡ at) × AllStop check at as'

-- conditions of SAME at one place
pub all-stop : (at : Place) (cs : List condition.Condition) → AllStop check_name.Same at (all_asked check_name.Same at cs)
all-stop at [] = tt
all-stop at (c ∷ cs) = (refl, refl, all-stop at cs)

stops-by : (parts : Parts) (m : flat_memory.Memory) (e : ℕ → ℕ) (check : Check) (at : Place) (as' : List Asked) → AllStop check at as' → (a : Asked)
    → first_false parts m as' e ≡ Some a → (a.check ≡ check) × (a.place ≡ at)
stops-by parts m e check at [] all a h = absurd (cc (h))
stops-by parts m e check at (x ∷ as') all a h = by (λ f. stops-by parts m e check at as' all.2 a f) (flat_holds parts m x.condition e) h
  where
    by : (first_false parts m as' e ≡ Some a → (a.check ≡ check) × (a.place ≡ at)) → (q : Bool)
        → (if q then first_false parts m as' e else Some x) ≡ Some a → (a.check ≡ check) × (a.place ≡ at)
    by further true f = further f
    by further false f = let same : x ≡ a = cc (f) in subst (λ (z : Asked). (z.check ≡ check) × (z.place ≡ at)) same (all.0, all.1)

pub stops-together : (parts : Parts) (m : flat_memory.Memory) (e : ℕ → ℕ) (w : Setting) (s : source.State) (at : Place) (as' : List Asked) (c : Condition)
    → AllStop (check_of c) at as' → is_none (first_false parts m as' e) ≡ holds w s.memory c
    → StopsAlike (first_false parts m as' e) (checked w at c s) s
stops-together parts m e w s at as' c all value = by (first_false parts m as' e) refl value
  where
    by : (o : Option Asked) → first_false parts m as' e ≡ o → is_none o ≡ holds w s.memory c → StopsAlike o (checked w at c s) s
    by None f v = ap (λ (q : Bool). allowed q (source.Stopped (check_of c) at) (done tt) s) (sym v)
    by (Some a) f v =
        let h = stops-by parts m e (check_of c) at as' all a f in
        ap (λ (q : Bool). allowed q (source.Stopped (check_of c) at) (done tt) s) (sym v)
        ∙ ap (λ z. Ended (source.Stopped z at) s) (sym h.0) ∙ ap (λ z. Ended (source.Stopped a.check z) s) (sym h.1)

-- the only condition of C
pub one-placed : (w : Setting) (place : Condition → Place) (c : Condition) (s : source.State) → all_placed w place (c ∷ []) s ≡ checked w (place c) c s
one-placed w place c s = by (holds w s.memory c)
  where
    passes : Bool → Outcome source.Ending source.State (Unit {0})
    passes q = allowed q (source.Stopped (check_of c) (place c)) (done tt) s

    by : (q : Bool) → from (passes q) (λ _. all_placed w place []) ≡ passes q
    by true = refl
    by false = refl

-- none is false where all hold
pub none-false : (parts : Parts) (m : flat_memory.Memory) (as' : List Asked) (e : ℕ → ℕ) → is_none (first_false parts m as' e) ≡ all_hold parts m as' e
none-false parts m [] e = refl
none-false parts m (a ∷ as') e = by (none-false parts m as' e) (flat_holds parts m a.condition e)
  where
    by : is_none (first_false parts m as' e) ≡ all_hold parts m as' e → (q : Bool) → is_none (if q then first_false parts m as' e else Some a) ≡ (q && all_hold parts m as' e)
    by more true = more
    by more false = refl

-- where a known temporary stands, no check writes
pub known-lasting : (w : Scene) (g : AreSlots w.slots) (b : Running) (known : Knowledge) (l : code.Local) (c : flat.Local) → Point w g b known l c
    → (t : Temp) (x : Known) → known t ≡ Some x → (a : ℕ) → x.place ≡ Some a → (j : ℕ) → j < held_words w.programs.whole x.type → IsLasting (g.owner (a + j))
known-lasting w g b known l c p t x fact a place j less = steady-lasting t (g.owner (a + j)) (steady-at w g t x (p.settled t x fact) a place j less)

pub first-lasting : (w : Scene) (g : AreSlots w.slots) (b : Running) (known : Knowledge) (l : code.Local) (c : flat.Local) → Point w g b known l c
    → (t : Temp) (x : Known) → known t ≡ Some x → (a : ℕ) → x.place ≡ Some a → IsLasting (g.owner a)
first-lasting w g b known l c p t x fact a place =
    subst (λ (n : ℕ). IsLasting (g.owner n)) (let e : a + 0 ≡ a = omega arith in e) (known-lasting w g b known l c p t x fact a place 0 (some-held w.programs x.type))

-- Instructions that give a value: what is shown of each, and the slots that it writes.
use Rattle.std.proofs.Common.{◌≡◌, ℕ, zero, suc, ◌+◌, ◌<◌, ◌≤◌, true, List, ◌∷◌, ◌++◌, length, replicate, slice_index, slice_set, Option, Some, refl, ap, subst, ◌∙◌, arith, nat_eq, length-set, get_or-set_other, get_or-set_same}
use Rattle.std.proofs.lemmas.Bool.Decides.{nat_tests}
use Rattle.runs.specs.Outcome.{Outcome, Done, Ended, done, leaves, from, Matches, ◌>>◌}
use Rattle.runs.specs.Control.{Control, Goes, Leaves, Gives}
use Rattle.flat_mem.specs.Bytes.{bytes_at}
use Rattle.src_mem.specs.Pointers.{Value}
use Rattle.src_mem.specs.State as source
use Rattle.cil_form.specs.declared.number.Temp.{Temp}
use Rattle.cil_form.specs.declared.number.Temp.TheVariants as temp
use Rattle.cil_form.specs.declared.number.Work.TheVariants.{First, Second}
use Rattle.cil_form.specs.State as code
use Rattle.cil_form.specs.State.{with_temp, is_same, beside}
use Rattle.cured_code.specs.FlatState as flat
use Rattle.cured_code.specs.FlatState.{slot, with_slot}
use Rattle.cured_code.specs.FlatMachine.{Context, run}
use Rattle.sim_relation.specs.Points.{Known, Knowledge}
use Rattle.cure_rules.specs.Slots.{AreSlots, Owner, Column, Working, Argument, Nought, Kept}
use Rattle.cure_rules.specs.Known as rules
use Rattle.cure_rules.specs.Known.{Takes, an_integer, held_words, noughts, copies}
use Rattle.sim_laws.specs.Scenes.{Scene, Running, world_of}
use Rattle.sim_laws.specs.Points.{Grows, There, Point, IsSpared, IsLasting, Wrote, Passed, Fits}
use Rattle.sim_laws.specs.Statements.{Lines, FlatOutcome, StatesEndAlike, Match}
use Rattle.cure_rules.specs.Code.{Blocks}
use Rattle.sim_laws.proofs.Points.{written}

-- what an instruction has given into a temporary
pub record Gave (w : Scene) (g : AreSlots w.slots) (b : Running) (known after : Knowledge) (into : Temp) (l : code.Local) (c : flat.Local) (v : Value) (s : source.State) (z : Control (List ℕ)) (d : flat.Local) : Type 0 where
  pub goes : z ≡ Goes
  pub there : There w.programs b s d.state
  pub grows : Grows w.programs b.depth l.state s c.state d.state
  pub wrote : Wrote w g into c.slots d.slots
  pub fact : Option Known
  pub fits : (y : Known) → fact ≡ Some y → Fits w g b into v s d y
  pub leave : rules.Leaves known into fact after

pub gives-follows : (w : Scene) (g : AreSlots w.slots) (b : Running) (known after : Knowledge) (blocks : Blocks) (into : Temp) (l : code.Local) (c : flat.Local)
    → Point w g b known l c → (o : Outcome source.Ending source.State Value) (q : FlatOutcome)
    → Matches (Gave w g b known after into l c) (λ e s f d. StatesEndAlike w.programs e s f d.state) o q
    → Match w g b after blocks (from (beside l.temps o) (λ v. leaves (λ (k : code.Local). record k { temps = with_temp into v k.temps }) >> done Goes)) q
gives-follows w g b known after blocks into l c p (Ended e s) (Ended f d) h = h
gives-follows w g b known after blocks into l c p (Ended e s) (Done z d) h = absurd h
gives-follows w g b known after blocks into l c p (Done v s) (Ended f d) h = absurd h
gives-follows w g b known after blocks into l c p (Done v s) (Done Goes d) h =
    written w g b known after into h.fact v l s c d p h.there h.grows h.wrote h.fits h.leave
gives-follows w g b known after blocks into l c p (Done v s) (Done (Leaves j) d) h = let e = h.goes in absurd (cc (e))
gives-follows w g b known after blocks into l c p (Done v s) (Done (Gives ws) d) h = let e = h.goes in absurd (cc (e))

-- a slot that an instruction leaves lasts
spared-lasting : (into : Temp) (o : Owner) → IsSpared into o → IsLasting o
spared-lasting into (Column t j) h = tt
spared-lasting into (Working j) h = h
spared-lasting into (Argument j) h = h
spared-lasting into Nought h = tt
spared-lasting into (Kept j) h = tt

-- what is given behind lines that write working slots alone
pub gave-past : (w : Scene) (g : AreSlots w.slots) (b : Running) (known after : Knowledge) (into : Temp) (l : code.Local) (c d : flat.Local) → d.state ≡ c.state
    → Passed w g c.slots d.slots → (v : Value) (s : source.State) (z : Control (List ℕ)) (e : flat.Local) → Gave w g b known after into l d v s z e
    → Gave w g b known after into l c v s z e
gave-past w g b known after into l c d same passed v s z e h = record {
  goes = h.goes;
  there = h.there;
  grows = subst (λ (x : flat.State). Grows w.programs b.depth l.state s x e.state) same h.grows;
  wrote = record {
    others = λ a spared. h.wrote.others a spared ∙ passed.others a (spared-lasting into (g.owner a) spared);
    long = h.wrote.long ∙ passed.long;
  };
  fact = h.fact;
  fits = h.fits;
  leave = h.leave;
}

-- Columns

nat-same : (n : ℕ) → nat_eq n n ≡ true
nat-same n = grind (arith, nat_tests)

pub same-self : (t : Temp) → is_same t t ≡ true
same-self (temp.Value n) = nat-same n
same-self (temp.Switch n) = nat-same n
same-self (temp.Work First) = refl
same-self (temp.Work Second) = refl

pub column-free : (into : Temp) (j : ℕ) → IsSpared into (Column into j) → ⊥
column-free into j h = let e = same-self into in absurd (cc (h, e))

-- a slot of the column is none that must stay
pub column-apart : (w : Scene) (g : AreSlots w.slots) (into : Temp) (k : ℕ) → Takes (world_of w) into k → (a j : ℕ) → IsSpared into (g.owner a) → j < k
    → (a ≡ w.slots.column into + j) → ⊥
column-apart w g into k takes a j spared less e =
    column-free into j (subst (IsSpared into) (ap g.owner e ∙ (g.columns into j takes.0 (let r = takes.1 in omega (arith, less, r))).is) spared)

pub column-room : (w : Scene) (g : AreSlots w.slots) (into : Temp) (k : ℕ) → Takes (world_of w) into k → k ≤ 3 → w.slots.column into + k ≤ w.slots.count
column-room w g into k takes few = let r = g.column_room into takes.0 in omega (arith, r, few)

-- so many slots from v on, and no others, have changed
pub record Changed (k v : ℕ) (slots after : List ℕ) : Type 0 where
  pub others : (a : ℕ) → ((j : ℕ) → j < k → a ≡ v + j → ⊥) → slice_index after a ≡ slice_index slots a
  pub long : length after ≡ length slots

pub wrote-column : (w : Scene) (g : AreSlots w.slots) (into : Temp) (k : ℕ) (slots after : List ℕ) → Takes (world_of w) into k → Changed k (w.slots.column into) slots after
    → Wrote w g into slots after
wrote-column w g into k slots after takes h = record {
  others = λ a spared. h.others a (λ j less e. column-apart w g into k takes a j spared less e);
  long = h.long;
}

pub wrote-none : (w : Scene) (g : AreSlots w.slots) (into : Temp) (slots : List ℕ) → Wrote w g into slots slots
wrote-none w g into slots = record { others = λ a h. refl; long = refl }

pub changed-one : (slots : List ℕ) (v n : ℕ) → Changed 1 v slots (slice_set slots v n)
changed-one slots v n = record {
  others = λ a h. get_or-set_other slots v a n 0 (λ e. h 0 (omega arith) (omega (arith, e)));
  long = length-set slots v n;
}

-- a slot more, the first
pub changed-more : (k v n : ℕ) (slots after : List ℕ) → Changed k (v + 1) (slice_set slots v n) after → Changed (suc k) v slots after
changed-more k v n slots after h = record {
  others = λ a q. h.others a (λ j less e. q (suc j) (omega (arith, less)) (omega (arith, e))) ∙ get_or-set_other slots v a n 0 (λ e. q 0 (omega arith) (omega (arith, e)));
  long = h.long ∙ length-set slots v n;
}

-- Zeros and copies, slot by slot

pub record Wrote_by (ctx : Context) (c : flat.Local) (lines : Lines) (k v : ℕ) : Type 0 where
  pub slots : List ℕ
  pub runs : (rest : Lines) → run (lines ++ rest) ctx c ≡ run rest ctx (record c { slots = slots })
  pub changed : Changed k v c.slots slots

pub record Cleared (ctx : Context) (c : flat.Local) (k v : ℕ) : Type 0 where
  pub by : Wrote_by ctx c (noughts k v) k v
  pub zeros : bytes_at k by.slots v ≡ replicate k 0

pub cleared : (ctx : Context) (c : flat.Local) (k v : ℕ) → v + k ≤ length c.slots → Cleared ctx c k v
unfolding bytes_at
cleared ctx c zero v room = record {
  by = record { slots = c.slots; runs = λ rest. refl; changed = record { others = λ a h. refl; long = refl } };
  zeros = refl;
}
cleared ctx c (suc k) v room = of (cleared ctx (with_slot v 0 c) k (v + 1) (let e = length-set c.slots v 0 in omega (arith, room, e)))
  where
    of : Cleared ctx (with_slot v 0 c) k (v + 1) → Cleared ctx c (suc k) v
    of h = record {
      by = record { slots = h.by.slots; runs = h.by.runs; changed = changed-more k v 0 c.slots h.by.slots h.by.changed };
      zeros = ap (λ (n : ℕ). n ∷ bytes_at k h.by.slots (v + 1))
          (h.by.changed.others v (λ j less e. omega (arith, e)) ∙ get_or-set_same c.slots v 0 0 (omega (arith, room))) ∙ ap (λ (ns : List ℕ). 0 ∷ ns) h.zeros;
    }

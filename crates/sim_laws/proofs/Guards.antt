-- Operands that no temporary holds, and checks: what their lines do at a point.
use Rattle.std.proofs.Common.{◌≡◌, ◌≢◌, ℕ, zero, suc, ◌+◌, ◌<◌, ◌≤◌, true, false, List, [], ◌∷◌, ◌++◌, length, slice_get, slice_set, Some, refl, ap, sym, subst, ◌∙◌, arith, nat_eq, inl, inr, length-set, get_or-set_other, get_or-set_same}
use Rattle.std.specs.Prelude.{slice_index_or}
use Rattle.std.specs.List.{Contains}
use Rattle.std.proofs.lemmas.Bool.Decides.{nat_tests}
use Rattle.cil_form.specs.State as code
use Rattle.cured_code.specs.declared.instr.Instr.TheVariants as flat_instr
use Rattle.cured_code.specs.FlatState as flat
use Rattle.cured_code.specs.FlatState.{slot, with_slot}
use Rattle.cured_code.specs.FlatMachine.{Context, run}
use Rattle.check_forms.specs.Pieces.{Line}
use Rattle.check_forms.specs.Lines.{AreWork, IsOther}
use Rattle.check_forms.proofs.ConditionLaws.{IsReady}
use Rattle.sim_relation.specs.Points.{Knowledge, KeptSlot, Number}
use Rattle.cure_rules.specs.Slots.{AreSlots, Role, First, Second, Third, Moved, Size, Least, Span, LeastFactor, SpanFactor, Seven, Eight, Last, Signature, Offset, Mask, Address, Base, Word, OtherWord, ThirdWord, Amount, Bytes, Charge, Made, role_number, role_count, slot_of, work_of}
use Rattle.cure_rules.specs.Known.{Gets}
use Rattle.sim_laws.specs.Scenes.{Scene, Running, world_of, context_of}
use Rattle.sim_laws.specs.Points.{Point, IsLasting, Passed}
use Rattle.sim_laws.specs.Statements.{Lines}

-- Lists

-- an element stands where it is
pub get-of : {X : Type 0} (xs : List X) (k : ℕ) (x : X) → k < length xs → slice_index_or xs k x ≡ x → slice_get xs k ≡ Some x
get-of [] k x h e = absurd (omega (arith, h))
get-of (y ∷ xs) zero x h e = ap Some e
get-of (y ∷ xs) (suc k) x h e = get-of xs k x (omega (arith, h)) e

pub kept-at : (w : Scene) (x : KeptSlot) → Contains w.slots.kept x → (k : ℕ) × (slice_get w.slots.kept k ≡ Some x)
kept-at w x h = (h.0, get-of w.slots.kept h.0 x h.1 h.2)

-- Slots that lines write

pub passed-none : (w : Scene) (g : AreSlots w.slots) (slots : List ℕ) → Passed w g slots slots
passed-none w g slots = record { others = λ a h. refl; long = refl }

pub passed-then : (w : Scene) (g : AreSlots w.slots) (one two three : List ℕ) → Passed w g one two → Passed w g two three → Passed w g one three
passed-then w g one two three x y = record { others = λ a h. y.others a h ∙ x.others a h; long = y.long ∙ x.long }

pub role-below : (r : Role) → role_number r < role_count
role-below First = omega arith
role-below Second = omega arith
role-below Third = omega arith
role-below Moved = omega arith
role-below Size = omega arith
role-below Least = omega arith
role-below Span = omega arith
role-below LeastFactor = omega arith
role-below SpanFactor = omega arith
role-below Seven = omega arith
role-below Eight = omega arith
role-below Last = omega arith
role-below Signature = omega arith
role-below Offset = omega arith
role-below Mask = omega arith
role-below Address = omega arith
role-below Base = omega arith
role-below Word = omega arith
role-below OtherWord = omega arith
role-below ThirdWord = omega arith
role-below Amount = omega arith
role-below Bytes = omega arith
role-below Charge = omega arith
role-below Made = omega arith

off : (a x : ℕ) → a ≢ x → nat_eq a x ≡ false
off a x e = grind (arith, nat_tests, e)

on : (x : ℕ) → nat_eq x x ≡ true
on x = grind (arith, nat_tests)

-- a working slot is none that lasts
pub lasting-apart : (w : Scene) (g : AreSlots w.slots) (a j : ℕ) → IsLasting (g.owner a) → j < role_count → a ≢ w.slots.work + j
lasting-apart w g a j h less e = absurd (subst IsLasting (ap g.owner e ∙ (g.works j less).is) h)

pub lasting-other : (w : Scene) (g : AreSlots w.slots) (a : ℕ) → IsLasting (g.owner a) → IsOther (work_of w.slots) a
lasting-other w g a h = record {
  x = off a (w.slots.work + 0) (lasting-apart w g a 0 h (omega arith));
  y = off a (w.slots.work + 1) (lasting-apart w g a 1 h (omega arith));
  z = off a (w.slots.work + 2) (lasting-apart w g a 2 h (omega arith));
  to = off a (w.slots.work + 3) (lasting-apart w g a 3 h (omega arith));
}

pub role-other : (w : Scene) (r : Role) → 4 ≤ role_number r → IsOther (work_of w.slots) (slot_of w.slots r)
role-other w r h = record {
  x = off (w.slots.work + role_number r) (w.slots.work + 0) (λ e. omega (arith, e, h));
  y = off (w.slots.work + role_number r) (w.slots.work + 1) (λ e. omega (arith, e, h));
  z = off (w.slots.work + role_number r) (w.slots.work + 2) (λ e. omega (arith, e, h));
  to = off (w.slots.work + role_number r) (w.slots.work + 3) (λ e. omega (arith, e, h));
}

-- the working slots of checks are ready wherever the slots that last are
pub are-work : (w : Scene) (g : AreSlots w.slots) (n : ℕ) → n ≡ w.slots.count → AreWork n (work_of w.slots)
are-work w g n e = record {
  x = below 0 (omega arith);
  y = below 1 (omega arith);
  z = below 2 (omega arith);
  to = below 3 (omega arith);
  xx = on (w.slots.work + 0);
  yy = on (w.slots.work + 1);
  zz = on (w.slots.work + 2);
  oo = on (w.slots.work + 3);
  xy = off (w.slots.work + 0) (w.slots.work + 1) (λ q. omega (arith, q));
  yx = off (w.slots.work + 1) (w.slots.work + 0) (λ q. omega (arith, q));
  xz = off (w.slots.work + 0) (w.slots.work + 2) (λ q. omega (arith, q));
  zx = off (w.slots.work + 2) (w.slots.work + 0) (λ q. omega (arith, q));
  yz = off (w.slots.work + 1) (w.slots.work + 2) (λ q. omega (arith, q));
  zy = off (w.slots.work + 2) (w.slots.work + 1) (λ q. omega (arith, q));
  xo = off (w.slots.work + 0) (w.slots.work + 3) (λ q. omega (arith, q));
  ox = off (w.slots.work + 3) (w.slots.work + 0) (λ q. omega (arith, q));
}
  where
    below : (j : ℕ) → j < 24 → w.slots.work + j < n
    below j l = let k = (g.works j l).below in omega (arith, k, e)

pub ready : (w : Scene) (g : AreSlots w.slots) (c d : flat.Local) → length c.slots ≡ w.slots.count → slot c w.slots.nought ≡ 0
    → Passed w g c.slots d.slots → IsReady (length d.slots) (work_of w.slots) (slot d)
ready w g c d count nought passed = record {
  work = are-work w g (length d.slots) (passed.long ∙ count);
  clear = passed.others w.slots.nought lasts ∙ nought;
  none = lasting-other w g w.slots.nought lasts;
}
  where
    lasts : IsLasting (g.owner w.slots.nought)
    lasts = subst IsLasting (sym g.nought.is) tt

-- Operands

-- a number that is kept, or set in the working slot of its role
pub record Got (w : Scene) (g : AreSlots w.slots) (ctx : Context) (lines : Lines) (c : flat.Local) (a n : ℕ) : Type 0 where
  pub after : flat.Local
  pub state : after.state ≡ c.state
  pub passed : Passed w g c.slots after.slots
  pub runs : (rest : Lines) → run (lines ++ rest) ctx c ≡ run rest ctx after
  pub is : slot after a ≡ n
  pub other : IsOther (work_of w.slots) a
  pub others : (k : ℕ) → k ≢ a → slot after k ≡ slot c k

pub passed-role : (w : Scene) (g : AreSlots w.slots) (slots : List ℕ) (r : Role) (n : ℕ) → Passed w g slots (slice_set slots (slot_of w.slots r) n)
passed-role w g slots r n = record {
  others = λ k l. get_or-set_other slots (slot_of w.slots r) k n 0 (λ e. lasting-apart w g k (role_number r) l (role-below r) e);
  long = length-set slots (slot_of w.slots r) n;
}

pub role-there : (w : Scene) (g : AreSlots w.slots) (r : Role) → slot_of w.slots r < w.slots.count
role-there w g r = (g.works (role_number r) (role-below r)).below

pub got-number : (w : Scene) (g : AreSlots w.slots) (b : Running) (known : Knowledge) (l : code.Local) (c : flat.Local) → Point w g b known l c
    → (r : Role) → 4 ≤ role_number r → (n a : ℕ) (lines : Lines) → Gets (world_of w) r (Number n) a lines → Got w g (context_of w b) lines c a n
unfolding Line
got-number w g b known l c p r late n a lines (inl h) = subst (λ (js : Lines). Got w g (context_of w b) js c a n) (sym h.1) (of (kept-at w (record { slot = a; content = Number n }) h.0))
  where
    of : (k : ℕ) × (slice_get w.slots.kept k ≡ Some (record { slot = a; content = Number n })) → Got w g (context_of w b) [] c a n
    of x = record {
      after = c;
      state = refl;
      passed = passed-none w g c.slots;
      runs = λ rest. refl;
      is = (p.kept x.0 (record { slot = a; content = Number n }) x.1).1;
      other = lasting-other w g a (subst IsLasting (sym (g.kept x.0 (record { slot = a; content = Number n }) x.1).is) tt);
      others = λ k e. refl;
    }
got-number w g b known l c p r late n a lines (inr h) =
    subst (λ (js : Lines). Got w g (context_of w b) js c a n) (sym h.1)
    (subst (λ (k : ℕ). Got w g (context_of w b) (set_line k) c k n) (sym h.0) (record {
      after = with_slot (slot_of w.slots r) n c;
      state = refl;
      passed = passed-role w g c.slots r n;
      runs = λ rest. refl;
      is = get_or-set_same c.slots (slot_of w.slots r) n 0 (let k = role-there w g r in let e = p.count in omega (arith, k, e));
      other = role-other w r late;
      others = λ k e. get_or-set_other c.slots (slot_of w.slots r) k n 0 (λ q. e q);
    }))
  where
    set_line : ℕ → Lines
    set_line k = flat_instr.Const k n ∷ []

-- The law of rows: the instructions of what a primitive asks stop by the first condition that is false.
use Rattle.std.proofs.Common.{◌≡◌, ℕ, Bool, true, false, List, [], ◌∷◌, ◌++◌, length, Option, Some, None, refl, ap, sym, subst, ◌∙◌, if◌then◌else◌}
use Rattle.flat_mem.specs.Memory.{Memory}
use Rattle.integers.specs.Operators.{product_words}
use Rattle.runs.specs.Outcome.{from}
use Rattle.runs.specs.Control.{then_go}
use Rattle.cured_code.specs.declared.instr.Instr.{Instr}
use Rattle.cured_code.specs.declared.parts.Parts.{Parts}
use Rattle.cured_code.specs.FlatState.{State, Local, slot}
use Rattle.cured_code.specs.FlatMachine.{Context, run}
use Rattle.check_forms.specs.Conditions.{PointerSlots, Fixed, Distance, Bytes, Elements, Direction, Condition, IsNear, moved, distance_of, flat_holds}
use Rattle.check_forms.specs.Rows.{Asked}
use Rattle.check_forms.specs.Tests.{Checked, slots_behind}
use Rattle.check_forms.specs.Lines.{Work, test_of, IsOther, AreApart, AreHeld}
use Rattle.check_forms.specs.RowChecks.{AreChecks, first_false, stopped_by, slots_after, AreChecked, AreAllApart, AreAllHeld, AreSafe}
use Rattle.check_forms.proofs.TestLaws.{append-append, tests}
use Rattle.check_forms.proofs.ConditionLaws.{IsReady, ready-same, held-same, holds-same, safe-same, exact, kept, can, moved-to}

all-held-same : (k : Work) (more : List Asked) (e f : ℕ → ℕ) → ((a : ℕ) → IsOther k a → f a ≡ e a) → AreAllApart k more → AreAllHeld e more
    → AreAllHeld f more
all-held-same k [] e f s o h = tt
all-held-same k (a ∷ rest) e f s o h = (held-same k a.condition e f s o.0 h.0, all-held-same k rest e f s o.1 h.1)

all-safe-same : (k : Work) (parts : Parts) (m : Memory) (more : List Asked) (e f : ℕ → ℕ) → ((a : ℕ) → IsOther k a → f a ≡ e a) → AreAllApart k more
    → AreSafe parts m more e → AreSafe parts m more f
all-safe-same k parts m [] e f s o h = tt
all-safe-same k parts m (a ∷ rest) e f s o h = (
  safe-same k m a.condition e f s o.0 h.0,
  λ t. all-safe-same k parts m rest e f s o.1
      (h.1 (sym (holds-same k parts m a.condition e f s o.0) ∙ t)),
)

first_false-same : (k : Work) (parts : Parts) (m : Memory) (more : List Asked) (e f : ℕ → ℕ) → ((a : ℕ) → IsOther k a → f a ≡ e a)
    → AreAllApart k more → first_false parts m more f ≡ first_false parts m more e
first_false-same k parts m [] e f s o = refl
first_false-same k parts m (a ∷ rest) e f s o =
    ap (λ q. if q then first_false parts m rest f else Some a) (holds-same k parts m a.condition e f s o.0)
    ∙ ap (λ (z : Option Asked). if flat_holds parts m a.condition e then z else Some a) (first_false-same k parts m rest e f s o.1)

-- one condition before others
row-step : (k : Work) (a : Asked) (more : List Asked) (x y : List Instr) (w : Context) (c : Local) (q : Bool)
    → flat_holds w.parts c.state.memory a.condition (slot c) ≡ q
    → AreAllApart k more → Checked a.check a.place q (slots_behind w.parts c.state.memory (test_of k a.condition) (slot c)) x w c
    → (q ≡ true → (d : Local) → d.state ≡ c.state → length d.slots ≡ length c.slots → ((b : ℕ) → IsOther k b → slot d b ≡ slot c b)
    → AreChecked k more y w d)
    → AreChecked k (a ∷ more) (x ++ y) w c
row-step k a more x y w c true e o one next = of (next refl one.after one.state one.count others)
  where
    others : (b : ℕ) → IsOther k b → slot one.after b ≡ slot c b
    others b z = ap (λ (f : ℕ → ℕ). f b) one.slots ∙ kept k w.parts c.state.memory a.condition (slot c) b z

    same : first_false w.parts one.after.state.memory more (slot one.after) ≡ first_false w.parts c.state.memory (a ∷ more) (slot c)
    same = ap (λ (s : State). first_false w.parts s.memory more (slot one.after)) one.state
        ∙ first_false-same k w.parts c.state.memory more (slot c) (slot one.after) others o
        ∙ sym (ap (λ q. if q then first_false w.parts c.state.memory more (slot c) else Some a) e)

    of : AreChecked k more y w one.after → AreChecked k (a ∷ more) (x ++ y) w c
    of z = record {
      after = z.after;
      runs = λ rest. ap (λ is. run is w c) (append-append x y rest) ∙ one.runs (y ++ rest) ∙ z.runs rest
          ∙ ap (λ (v : Option Asked). from (stopped_by v z.after) (λ u. then_go u (run rest w))) same;
      state = z.state ∙ one.state;
      slots = λ b h. z.slots b h ∙ others b h;
      count = z.count ∙ one.count;
      behind = λ passed. z.behind (same ∙ passed)
          ∙ ap (λ (s : State). slots_after k w.parts s.memory more (slot one.after)) one.state
          ∙ ap (λ (e : ℕ → ℕ). slots_after k w.parts c.state.memory more e) one.slots;
    }
row-step k a more x y w c false e o one next = record {
  after = one.after;
  runs = λ rest.
      ap (λ is. run is w c) (append-append x y rest) ∙ one.runs (y ++ rest)
      ∙ sym (ap (λ q. from (stopped_by (if q then first_false w.parts c.state.memory more (slot c) else Some a) one.after)
      (λ u. then_go u (run rest w))) e);
  state = one.state;
  slots = λ b z. ap (λ (f : ℕ → ℕ). f b) one.slots ∙ kept k w.parts c.state.memory a.condition (slot c) b z;
  count = one.count;
  behind = λ passed. absurd (let f : first_false w.parts c.state.memory (a ∷ more) (slot c) ≡ Some a = ap (λ q. if q then first_false w.parts c.state.memory more (slot c) else Some a) e in cc (f, passed));
}

-- THE LAW OF ROWS
pub rows : (k : Work) (more : List Asked) (is : List Instr) (w : Context) (c : Local) → IsReady (length c.slots) k (slot c) → AreAllApart k more
    → AreAllHeld (slot c) more
    → AreSafe w.parts c.state.memory more (slot c) → AreChecks k more is → AreChecked k more is w c
rows k [] is w c r o h s i =
    subst (λ (js : List Instr). AreChecked k [] js w c) (sym i) (record { after = c; runs = λ rest. refl; state = refl; slots = λ a z. refl; count = refl; behind = λ passed. refl })
rows k (a ∷ more) is w c r o h s i = subst (λ (js : List Instr). AreChecked k (a ∷ more) js w c) (sym i.4)
    (row-step k a more i.0 i.1 w c (flat_holds w.parts c.state.memory a.condition (slot c)) refl o.1
    (subst (λ (q : Bool). Checked a.check a.place q (slots_behind w.parts c.state.memory (test_of k a.condition) (slot c)) i.0 w c)
    (exact (length c.slots) k w.parts c.state.memory a.condition (slot c) r o.0 h.0)
    (tests a.check a.place (test_of k a.condition) i.0 w c i.2 (can (length c.slots) k w.parts c.state.memory a.condition (slot c) r o.0 h.0 s.0)))
    (λ t d state count f. rows k more i.1 w d
    (subst (λ (n : ℕ). IsReady n k (slot d)) (sym count) (ready-same (length c.slots) k (slot c) (slot d) r f))
    o.1 (all-held-same k more (slot c) (slot d) f o.1 h.1)
    (subst (λ (z : State). AreSafe w.parts z.memory more (slot d)) (sym state)
    (all-safe-same k w.parts c.state.memory more (slot c) (slot d) f o.1 (s.1 t))) i.3))

-- A pointer that moves: behind RANGE, which comes after one other condition, the slot that it moves in holds the address that is moved to.

moved-same : (k : Work) (e f : ℕ → ℕ) → ((a : ℕ) → IsOther k a → f a ≡ e a) → (p : PointerSlots) (way : Direction) (d : Distance) (least span : Fixed)
    → AreApart k (IsNear p way d least span) → moved way (f p.first) (distance_of d f) ≡ moved way (e p.first) (distance_of d e)
moved-same k e f same p way (Bytes n) least span o = ap (λ (x : ℕ). moved way x (f n)) (same p.first o.0) ∙ ap (moved way (e p.first)) (same n o.1.1.1.1.0)
moved-same k e f same p way (Elements n size) least span o =
    ap (λ (x : ℕ). moved way x (distance_of (Elements n size) f)) (same p.first o.0)
    ∙ ap (λ (x : ℕ). moved way (e p.first) (product_words x size.value)) (same n o.1.1.1.1.0)

pub moved-behind : (k : Work) (a b : Asked) (p : PointerSlots) (way : Direction) (d : Distance) (least span : Fixed) → b.condition ≡ IsNear p way d least span
    → (is : List Instr) (w : Context) (c : Local) → IsReady (length c.slots) k (slot c) → AreAllApart k (a ∷ b ∷ []) → AreAllHeld (slot c) (a ∷ b ∷ [])
    → (z : AreChecked k (a ∷ b ∷ []) is w c) → first_false w.parts c.state.memory (a ∷ b ∷ []) (slot c) ≡ None
    → slot z.after k.to ≡ moved way (slot c p.first) (distance_of d (slot c))
moved-behind k a b p way d least span near is w c ready apart held z passed =
    ap (λ (e : ℕ → ℕ). e k.to) (z.behind passed) ∙ of b.condition near apart.1.0 held.1.0
  where
    e : ℕ → ℕ
    e = slots_behind w.parts c.state.memory (test_of k a.condition) (slot c)

    others : (x : ℕ) → IsOther k x → slots_behind w.parts c.state.memory (test_of k a.condition) (slot c) x ≡ slot c x
    others x o = kept k w.parts c.state.memory a.condition (slot c) x o

    of : (q : Condition) → q ≡ IsNear p way d least span → AreApart k q → AreHeld (slot c) q
        → slots_behind w.parts c.state.memory (test_of k q) (slots_behind w.parts c.state.memory (test_of k a.condition) (slot c)) k.to
        ≡ moved way (slot c p.first) (distance_of d (slot c))
    of q is o h =
        subst (λ (x : Condition). AreApart k x → AreHeld (slot c) x
        → slots_behind w.parts c.state.memory (test_of k x) (slots_behind w.parts c.state.memory (test_of k a.condition) (slot c)) k.to
        ≡ moved way (slot c p.first) (distance_of d (slot c))) (sym is)
        (λ o h. moved-to (length c.slots) k w.parts c.state.memory p way d least span e (ready-same (length c.slots) k (slot c) e ready others) o
        (held-same k (IsNear p way d least span) (slot c) e others o h)
        ∙ moved-same k (slot c) e others p way d least span o) o h

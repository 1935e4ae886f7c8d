-- How drafts grow.
use Rattle.std.proofs.Common.{◌≡◌, refl, ap, sym, subst, ◌∙◌, ℕ, true, false, List, [], ◌∷◌, ◌++◌, append_assoc, append-nil}
use Rattle.cc_base.specs.declared.fault.Check.{Check}
use Rattle.cc_base.specs.declared.place.Place.{Place}
use Rattle.cured_code.specs.declared.instr.Instr.{Instr}
use Rattle.cured_code.specs.declared.instr.Instr.TheVariants as instr
use Rattle.cured_code.specs.Straight as straight
use Rattle.cured_code.specs.Straight.{instrs}
use Rattle.check_forms.specs.Conditions.{Condition}
use Rattle.check_forms.specs.Pieces as pieces
use Rattle.check_forms.specs.Pieces.{Piece, Line, Choice}
use Rattle.check_forms.specs.Tests.{Test, Pass, Flag, After, Choose, Then}
use Rattle.check_forms.specs.declared.slots.Work.{Work}
use Rattle.check_forms.specs.Lines.{test_of}
use Rattle.check_forms.specs.Rows.{Asked, asked, all_asked}
use Rattle.check_forms.specs.RowChecks.{AreChecks}
use Rattle.check_insert.specs.declared.draft.Draft.{Draft}
use Rattle.check_insert.specs.declared.ends.Stop.{Stop}
use Rattle.check_insert.specs.Drafts.{Grows, Starts, Chosen, AreBothReady, Tests, Asks}

-- one instruction is appended
pub grows_one : (one : Instr) (a b : Draft)
    → (b.fine ≡ true → (a.fine ≡ true) × (b.items.items ≡ a.items.items ++ (one ∷ []))) → b.ready ≡ a.ready
    → Grows (Line (one ∷ [])) (Unit {0}) a b
unfolding Grows Line
grows_one one a b f same = (λ fine. ((f fine).0, (one ∷ [], refl, (f fine).1)), λ r e. same ∙ e)

-- one piece after another
pub grows_then : (P Q : Piece) (R S : Type 0) (a b c : Draft) → Grows P R a b → Grows Q S b c → Grows (pieces.Then P Q) (R × S) a c
unfolding Grows pieces.Then
grows_then P Q R S a b c f g = (
  λ fine.
      let q = g.0 fine in let p = f.0 q.0 in
      (p.0, (p.1.0 ++ q.1.0, (p.1.0, q.1.0, p.1.1, q.1.1, refl), q.1.2 ∙ ap (λ m. m ++ q.1.0) p.1.2 ∙ append_assoc a.items.items p.1.0 q.1.0)),
  λ r e. g.1 r.1 (f.1 r.0 e),
)

-- one piece after another, which together are a third
pub grows_both : (P Q T : Piece) (a b c : Draft) → ((x y : List Instr) → P x → Q y → T (x ++ y))
    → Grows P (Unit {0}) a b → Grows Q (Unit {0}) b c → Grows T (Unit {0}) a c
unfolding Grows
grows_both P Q T a b c join f g = (
  λ fine.
      let q = g.0 fine in let p = f.0 q.0 in
      (p.0, (p.1.0 ++ q.1.0, join p.1.0 q.1.0 p.1.1 q.1.1, q.1.2 ∙ ap (λ m. m ++ q.1.0) p.1.2 ∙ append_assoc a.items.items p.1.0 q.1.0)),
  λ r e. g.1 tt (f.1 tt e),
)

-- a piece that is also another
pub grows_as : (P Q : Piece) (R : Type 0) (a b : Draft) → ((x : List Instr) → P x → Q x) → Grows P R a b → Grows Q R a b
unfolding Grows
grows_as P Q R a b more f = (λ fine. let p = f.0 fine in (p.0, (p.1.0, more p.1.0 p.1.1, p.1.2)), f.1)

pub grows_puts : (x y : List Instr) (a b c : Draft)
    → Grows (Line x) (Unit {0}) a b → Grows (Line y) (Unit {0}) b c → Grows (Line (x ++ y)) (Unit {0}) a c
unfolding Line
grows_puts x y a b c f g = grows_both (Line x) (Line y) (Line (x ++ y)) a b c (λ v w e h. ap (λ z. z ++ w) e ∙ ap (λ z. x ++ z) h) f g

-- nothing is appended
pub grows_nothing : (R : Type 0) (a : Draft) → Grows (Line []) R a a
unfolding Grows Line
grows_nothing R a = (λ fine. (fine, ([], refl, sym (append-nil a.items.items))), λ r e. e)

-- what failed, where something was met that has no code
pub grows_failed : (P : Piece) (R : Type 0) (a b : Draft) → (R → ⊥) → b.fine ≡ false → Grows P R a b
unfolding Grows
grows_failed P R a b never f = ((λ fine. cc), λ r e. absurd (never r))

-- what failed, where all that was met has code
pub grows_skipped : (P : Piece) (R : Type 0) (a b : Draft) → b.ready ≡ a.ready → b.fine ≡ false → Grows P R a b
unfolding Grows
grows_skipped P R a b same f = ((λ fine. cc), λ r e. same ∙ e)

-- Choices. The draft of a side begins empty.

made : (P : Piece) (R : Type 0) (s d : Draft) → Starts s → Grows P R s d → d.fine ≡ true → P d.items.items
unfolding Grows Starts
made P R s d empty f fine = let p = (f.0 fine).1 in subst P (sym (p.2 ∙ ap (λ z. z ++ p.0) empty.0)) p.1

stays : (P : Piece) (R : Type 0) (s d : Draft) → Starts s → Grows P R s d → R → d.ready ≡ true
unfolding Grows Starts
stays P R s d empty f r = f.1 r empty.1

pub grows_chosen : (a : ℕ) (one two b c : Draft) → one.fine ≡ true → two.fine ≡ true → c.ready ≡ b.ready
    → (c.fine ≡ true → (b.fine ≡ true)
    × (c.items.items ≡ b.items.items ++ (instr.If a (record { 0 = one.items }) (record { 0 = two.items }) ∷ [])))
    → Grows (Chosen a one two) (AreBothReady one two) b c
unfolding Grows Chosen Choice Line
grows_chosen a one two b c g h same f = (
  λ fine.
      let q = f fine in (
        q.0,
        (
          instr.If a (record { 0 = one.items }) (record { 0 = two.items }) ∷ [],
          (g, h, (record { 0 = one.items }, record { 0 = two.items }, refl, refl, refl)),
          q.1,
        ),
      ),
  λ r e. same ∙ e,
)

pub grows_choice : (a : ℕ) (P Q : Piece) (R S : Type 0) (s r one two b c : Draft)
    → Grows (Chosen a one two) (AreBothReady one two) b c
    → Grows P R s one → Starts s → Grows Q S r two → Starts r → Grows (Choice a P Q) (R × S) b c
unfolding Grows Chosen Choice Line
grows_choice a P Q R S s r one two b c h f es g er = (
  λ fine.
      let q = h.0 fine in let d = q.1.1 in
      (q.0, (q.1.0, (d.2.0, d.2.1, subst P (sym d.2.2) (made P R s one es f d.0), subst Q (sym d.2.3) (made Q S r two er g d.1), d.2.4), q.1.2)),
  λ z e. h.1 (stays P R s one es f z.0, stays Q S r two er g z.1) e,
)

-- Tests

pub tests_flag : (stop : Stop) (x : ℕ) (a b : Draft) → Grows (Line (instr.Check stop.check stop.place x ∷ [])) (Unit {0}) a b
    → Grows (Tests stop (Flag x)) (Unit {0}) a b
unfolding Tests Line
tests_flag stop x a b f = grows_as (Line (instr.Check stop.check stop.place x ∷ [])) (Tests stop (Flag x)) (Unit {0}) a b (λ v e. e) f

-- an empty draft passes
pub tests_pass : (stop : Stop) (a : Draft) → Grows (Tests stop Pass) (Unit {0}) a a
unfolding Tests Grows
tests_pass stop a = (λ fine. (fine, ([], refl, sym (append-nil a.items.items))), λ r e. e)

pub tests_after : (stop : Stop) (lines : List straight.Line) (t : Test) (a b c : Draft) → Grows (Line (instrs lines)) (Unit {0}) a b
    → Grows (Tests stop t) (Unit {0}) b c → Grows (Tests stop (After lines t)) (Unit {0}) a c
unfolding Tests Line
tests_after stop lines t a b c f g =
    grows_both (Line (instrs lines)) (Tests stop t) (Tests stop (After lines t)) a b c (λ x y e h. (y, h, ap (λ z. z ++ y) e)) f g

pub tests_chosen : (stop : Stop) (x : ℕ) (t u : Test) (s r one two b c : Draft)
    → Grows (Chosen x one two) (AreBothReady one two) b c
    → Grows (Tests stop t) (Unit {0}) s one → Starts s → Grows (Tests stop u) (Unit {0}) r two → Starts r
    → Grows (Tests stop (Choose x t u)) (Unit {0}) b c
unfolding Tests Choice Grows
tests_chosen stop x t u s r one two b c h f es g er =
    let p = grows_choice x (Tests stop t) (Tests stop u) (Unit {0}) (Unit {0}) s r one two b c h f es g er in
    (p.0, λ z e. p.1 (tt, tt) e)

pub tests_then : (stop : Stop) (t u : Test) (a b c : Draft) → Grows (Tests stop t) (Unit {0}) a b → Grows (Tests stop u) (Unit {0}) b c
    → Grows (Tests stop (Then t u)) (Unit {0}) a c
unfolding Tests
tests_then stop t u a b c f g = grows_both (Tests stop t) (Tests stop u) (Tests stop (Then t u)) a b c (λ x y e h. (x, y, e, h, refl)) f g

-- Checks in order

pub asks_nothing : (k : Work) (a b : Draft) → Grows (Line []) (Unit {0}) a b → Grows (Asks k []) (Unit {0}) a b
unfolding Asks Line
asks_nothing k a b f = grows_as (Line []) (Asks k []) (Unit {0}) a b (λ x e. e) f

pub asks_one : (k : Work) (stop : Stop) (c : Condition) (a b : Draft) → Grows (Tests stop (test_of k c)) (Unit {0}) a b
    → Grows (Asks k (asked stop.check stop.place c ∷ [])) (Unit {0}) a b
unfolding Asks Tests
asks_one k stop c a b f =
    grows_as (Tests stop (test_of k c)) (Asks k (asked stop.check stop.place c ∷ [])) (Unit {0}) a b
    (λ x h. (x, [], h, refl, sym (append-nil x))) f

checks_append : (k : Work) (one two : List Asked) (x y : List Instr) → AreChecks k one x → AreChecks k two y → AreChecks k (one ++ two) (x ++ y)
checks_append k [] two x y e h = subst (AreChecks k two) (sym (ap (λ z. z ++ y) e)) h
checks_append k (a ∷ one) two x y f h =
    (f.0, f.1 ++ y, f.2, checks_append k one two f.1 y f.3 h, ap (λ z. z ++ y) f.4 ∙ append_assoc f.0 f.1 y)

pub asks_append : (k : Work) (one two : List Asked) (a b c : Draft) → Grows (Asks k one) (Unit {0}) a b → Grows (Asks k two) (Unit {0}) b c
    → Grows (Asks k (one ++ two)) (Unit {0}) a c
unfolding Asks
asks_append k one two a b c f g = grows_both (Asks k one) (Asks k two) (Asks k (one ++ two)) a b c (checks_append k one two) f g

asked_append : (check : Check) (at : Place) (cs ds : List Condition) → all_asked check at (cs ++ ds) ≡ all_asked check at cs ++ all_asked check at ds
asked_append check at [] ds = refl
asked_append check at (c ∷ cs) ds = ap (λ z. asked check at c ∷ z) (asked_append check at cs ds)

pub all_asked_append : (k : Work) (check : Check) (at : Place) (cs ds : List Condition) (a b c : Draft)
    → Grows (Asks k (all_asked check at cs)) (Unit {0}) a b → Grows (Asks k (all_asked check at ds)) (Unit {0}) b c
    → Grows (Asks k (all_asked check at (cs ++ ds))) (Unit {0}) a c
all_asked_append k check at cs ds a b c f g =
    subst (λ z. Grows (Asks k z) (Unit {0}) a c) (sym (asked_append check at cs ds))
    (asks_append k (all_asked check at cs) (all_asked check at ds) a b c f g)

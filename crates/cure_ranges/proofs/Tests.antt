-- The lines of tests and of conditions are in range.
use Rattle.std.specs.Prelude.{max}
use Rattle.std.proofs.Common.{◌≡◌, ℕ, suc, ◌+◌, ◌<◌, ◌≤◌, List, [], ◌∷◌, ◌++◌, sym, subst, arith}
use Rattle.std.proofs.lemmas.List.Elements.{All-cons}
use Rattle.cc_base.specs.declared.fault.Check.{Check}
use Rattle.cc_base.specs.declared.place.Place.{Place}
use Rattle.cured_code.specs.declared.instr.Instr.{Instr}
use Rattle.cured_code.specs.declared.instr.Instr.TheVariants as instr
use Rattle.cured_code.specs.declared.instr.Code.{Code}
use Rattle.cured_code.specs.Ranges.{Names, IsInstrInRange, AreInstrsInRange, inside_if, inside_block}
use Rattle.cured_code.specs.Straight.{instrs}
use Rattle.cured_code.proofs.RangeLaws.{list-code}
use Rattle.check_forms.specs.declared.slots.PointerSlots.{PointerSlots}
use Rattle.check_forms.specs.declared.slots.Distance.{Distance}
use Rattle.check_forms.specs.declared.slots.Distance.TheVariants.{Bytes, Elements}
use Rattle.check_forms.specs.declared.slots.Direction.{Direction}
use Rattle.check_forms.specs.declared.slots.Direction.TheVariants.{Forward, Backward}
use Rattle.check_forms.specs.declared.slots.Work.{Work}
use Rattle.check_forms.specs.Conditions.{Condition, Never, IsNotZero, IsInPart, IsByteInPart, IsWithinPart, IsInArea, IsByteInArea, IsWithinArea, IsArea, IsNear, IsSmall, IsBelowBound, IsAtLeast, IsAligned, HoldsNoPointer, HoldsPointer, IsNoDeeper, AreNoDeeper, IsNotOwn, IsMadeFor, IsFunctionOf, HasRoom, AreOfPart, AreOfArea, AreElementsApart, IsNoOverflow, Unless, UnlessNull, AreOfPartOr, AreOfAreaOr, Both}
use Rattle.check_forms.specs.Tests.{Test, Pass, Flag, After, Choose, Then, IsTest}
use Rattle.check_forms.specs.Lines.{test_of, stop_if, move_lines}
use Rattle.check_forms.specs.Rows.{Asked}
use Rattle.check_forms.specs.RowChecks.{AreChecks}
use Rattle.cure_ranges.proofs.Fitting.{Fits, TestFits, WorkFits, PointerFits, DistanceFits, Reads, height, AsksFit}

-- Lines

pub all_in_range : (n : Names) (is : List Instr) → Fits n is → AreInstrsInRange n is
all_in_range n [] h = λ k d less. absurd (omega (arith, less))
all_in_range n (i ∷ is) h = All-cons (IsInstrInRange n) i is h.0 (all_in_range n is h.1)

pub appended : (n : Names) (xs ys : List Instr) → Fits n xs → Fits n ys → Fits n (xs ++ ys)
appended n [] ys h k = k
appended n (x ∷ xs) ys h k = (h.0, appended n xs ys h.1 k)

pub line : (n : Names) (is code : List Instr) → code ≡ is → Fits n is → Fits n code
line n is code e h = subst (λ z. Fits n z) (sym e) h

pub in_turn : (n : Names) (x y code : List Instr) → code ≡ x ++ y → Fits n x → Fits n y → Fits n code
in_turn n x y code e a b = line n (x ++ y) code e (appended n x y a b)

pub choice : (n : Names) (a : ℕ) (x y : Code) (code : List Instr) → code ≡ instr.If a x y ∷ [] → a < n.slots → n.nest < 1024
    → Fits (inside_if n) x.0.items → Fits (inside_if n) y.0.items → Fits n code
choice n a x y code e la ln hx hy = line n (instr.If a x y ∷ []) code e
    ((la, ln, list-code (inside_if n) x (all_in_range (inside_if n) x.0.items hx), list-code (inside_if n) y (all_in_range (inside_if n) y.0.items hy)), tt)

pub block : (n : Names) (x : Code) (code : List Instr) → code ≡ instr.Block x ∷ [] → n.nest < 1024 → Fits (inside_block n) x.0.items → Fits n code
block n x code e ln hx = line n (instr.Block x ∷ []) code e ((ln, list-code (inside_block n) x (all_in_range (inside_block n) x.0.items hx)), tt)

pub loop : (n : Names) (x : Code) (code : List Instr) → code ≡ instr.Loop x ∷ [] → n.nest < 1024 → Fits (inside_block n) x.0.items → Fits n code
loop n x code e ln hx = line n (instr.Loop x ∷ []) code e ((ln, list-code (inside_block n) x (all_in_range (inside_block n) x.0.items hx)), tt)

-- Tests

pub tests : (n : Names) (check : Check) (at : Place) (t : Test) (is : List Instr) → TestFits n t → IsTest check at t is → Fits n is
tests n check at Pass is f e = line n [] is e tt
tests n check at (Flag a) is f e = line n (instr.Check check at a ∷ []) is e (f, tt)
tests n check at (After lines t) is f (rest, h, e) = in_turn n (instrs lines) rest is e f.0 (tests n check at t rest f.1 h)
tests n check at (Choose a t u) is f (x, y, h, k, e) =
    choice n a x y is e f.0 f.1 (tests (inside_if n) check at t x.0.items f.2 h) (tests (inside_if n) check at u y.0.items f.3 k)
tests n check at (Then t u) is f (first, rest, h, k, e) = in_turn n first rest is e (tests n check at t first f.0 h) (tests n check at u rest f.1 k)

-- Conditions

-- what a condition reads doesn't depend on what it stands in
within : (n : Names) (c : Condition) → Reads n c → Reads (inside_if n) c
within n Never h = h
within n (IsNotZero a) h = h
within n (IsInPart p size) h = h
within n (IsByteInPart p) h = h
within n (IsWithinPart p) h = h
within n (IsInArea p size) h = h
within n (IsByteInArea p) h = h
within n (IsWithinArea p) h = h
within n (IsArea a last) h = h
within n (IsNear p direction d least span) h = h
within n (IsSmall a least span) h = h
within n (IsBelowBound a bound) h = h
within n (IsAtLeast a least) h = h
within n (IsAligned a seven) h = h
within n (HoldsNoPointer p bytes) h = h
within n (HoldsPointer p eight) h = h
within n (IsNoDeeper home target) h = h
within n (AreNoDeeper p bytes target) h = h
within n (IsNotOwn home) h = h
within n (IsMadeFor a node) h = h
within n (IsFunctionOf p signature) h = h
within n (HasRoom a) h = h
within n (AreOfPart p q) h = h
within n (AreOfArea p q) h = h
within n (AreElementsApart p q size) h = h
within n (IsNoOverflow a b least minus_one) h = h
within n (Unless a c) h = (h.0, within n c h.1)
within n (UnlessNull p c) h = (h.0, within n c h.1)
within n (AreOfPartOr p q c) h = (h.0, h.1, within n c h.2)
within n (AreOfAreaOr p q c) h = (h.0, h.1, within n c h.2)
within n (Both c d) h = (within n c h.0, within n d h.1)

stops : (n : Names) (k : Work) (a : ℕ) → WorkFits n.slots k → a < n.slots → n.nest < 1024 → TestFits n (stop_if k a)
stops n k a w l m = (l, m, w.none, tt)

moves : (n : Names) (k : Work) (p : PointerSlots) (direction : Direction) (d : Distance) → WorkFits n.slots k → PointerFits n.slots p → DistanceFits n.slots d
    → Fits n (instrs (move_lines k p direction d))
moves n k p Forward (Bytes a) w f d = ((w.to, f.first, d), tt)
moves n k p Backward (Bytes a) w f d = ((w.to, f.first, d), tt)
moves n k p Forward (Elements a size) w f d = ((w.x, d.0, d.1), ((w.to, f.first, w.x), tt))
moves n k p Backward (Elements a size) w f d = ((w.x, d.0, d.1), ((w.to, f.first, w.x), tt))

one : (n : Names) (h : ℕ) → n.nest + 2 + h ≤ 1024 → n.nest < 1024
one n h l = omega (arith, l)

two : (n : Names) (h : ℕ) → n.nest + 2 + h ≤ 1024 → n.nest + 1 < 1024
two n h l = omega (arith, l)

further : (n h : ℕ) → n + 2 + suc h ≤ 1024 → n + 1 + 2 + h ≤ 1024
further n h l = omega (arith, l)

left : (n a b : ℕ) → n + 2 + max a b ≤ 1024 → n + 2 + a ≤ 1024
left n a b l = omega (arith, l)

right : (n a b : ℕ) → n + 2 + max a b ≤ 1024 → n + 2 + b ≤ 1024
right n a b l = omega (arith, l)

pub conditions : (n : Names) (k : Work) (c : Condition) → WorkFits n.slots k → n.nest + 2 + height c ≤ 1024 → Reads n c → TestFits n (test_of k c)
conditions n k Never w l r = w.none
conditions n k (IsNotZero a) w l r = r
conditions n k (IsInPart p size) w l r =
    (((w.x, r.0.first, r.0.second), ((w.y, r.0.third, r.0.first), ((w.y, w.y, r.1), ((w.x, w.x, w.y), tt)))), stops n k k.x w w.x (one n 0 l))
conditions n k (IsByteInPart p) w l r = (((w.x, r.first, r.second), ((w.y, r.third, r.second), ((w.x, w.x, w.y), tt))), w.x)
conditions n k (IsWithinPart p) w l r = (((w.x, r.first, r.second), ((w.y, r.third, r.first), ((w.x, w.x, w.y), tt))), stops n k k.x w w.x (one n 0 l))
conditions n k (IsInArea p size) w l r =
    (((w.x, r.0.second), ((w.y, r.0.first, r.0.second), ((w.y, w.x, w.y), ((w.z, w.x, w.y), ((w.y, w.y, r.1), ((w.y, w.z, w.y), tt)))))), stops n k k.y w w.y (one n 0 l))
conditions n k (IsByteInArea p) w l r = (((w.x, r.second), ((w.y, r.first, r.second), ((w.x, w.y, w.x), tt))), w.x)
conditions n k (IsWithinArea p) w l r = (((w.x, r.second), ((w.y, r.first, r.second), ((w.x, w.x, w.y), tt))), stops n k k.x w w.x (one n 0 l))
conditions n k (IsArea a last) w l r = (((w.x, r.1, r.0), tt), w.x)
conditions n k (IsNear p direction d least span) w l r =
    (moves n k p direction d w r.0 r.1, (((w.x, w.to, r.0.second), ((w.x, w.x, r.2), ((w.x, w.x, r.3), tt))), w.x))
conditions n k (IsSmall a least span) w l r = (((w.x, r.0, r.1), ((w.x, w.x, r.2), tt)), w.x)
conditions n k (IsBelowBound a bound) w l r = (((w.x, r.0, r.1), tt), w.x)
conditions n k (IsAtLeast a least) w l r = (((w.x, r.0, r.1), tt), stops n k k.x w w.x (one n 0 l))
conditions n k (IsAligned a seven) w l r = (((w.x, r.0, r.1), tt), stops n k k.x w w.x (one n 0 l))
conditions n k (HoldsNoPointer p bytes) w l r = (((w.x, r.first, r.second), tt), w.x)
conditions n k (HoldsPointer p eight) w l r = (
  ((w.x, r.0.first, r.0.second), tt),
  (w.x, one n 0 l, tt, (((w.y, r.0.first, r.1), ((w.y, w.y), tt)), stops (inside_if n) k k.y w w.y (two n 0 l))),
)
conditions n k (IsNoDeeper home target) w l r = (
  ((w.x, r.0), tt),
  (w.x, one n 0 l, (((w.y, r.1), ((w.y, w.y, w.x), tt)), stops (inside_if n) k k.y w w.y (two n 0 l)), tt),
)
conditions n k (AreNoDeeper p bytes target) w l r = (
  ((w.x, r.0.first, r.0.second), tt),
  (w.x, one n 0 l, (((w.y, r.1), ((w.y, w.y, w.x), tt)), stops (inside_if n) k k.y w w.y (two n 0 l)), tt),
)
conditions n k (IsNotOwn home) w l r = (
  ((w.x, r.0), tt),
  (w.x, one n 0 l, (((w.y, r.1), ((w.y, w.y), ((w.y, w.y, w.x), tt))), stops (inside_if n) k k.y w w.y (two n 0 l)), tt),
)
conditions n k (IsMadeFor a node) w l r = (((w.x, r.0, r.1, r.2), tt), w.x)
conditions n k (IsFunctionOf p signature) w l r =
    (((w.x, r.0.first, r.0.second), ((w.y, r.0.first), ((w.y, w.y, r.1), ((w.x, w.x, w.y), tt)))), w.x)
conditions n k (HasRoom a) w l r = (((w.x, r), tt), w.x)
conditions n k (AreOfPart p q) w l r = (((w.x, r.0.second, r.1.second), ((w.y, r.0.third, r.1.third), ((w.x, w.x, w.y), tt))), w.x)
conditions n k (AreOfArea p q) w l r = (((w.x, r.0.second, r.1.second), tt), w.x)
conditions n k (AreElementsApart p q size) w l r =
    (((w.x, r.0.first, r.1.first), ((w.x, w.x, r.2), tt)), stops n k k.x w w.x (one n 0 l))
conditions n k (IsNoOverflow a b least minus_one) w l r = (
  ((w.x, r.1, r.3), tt),
  (w.x, one n 0 l, (((w.y, r.0, r.2), tt), stops (inside_if n) k k.y w w.y (two n 0 l)), tt),
)
conditions n k (Unless a c) w l r = (r.0, one n (suc (height c)) l, conditions (inside_if n) k c w (further n.nest (height c) l) (within n c r.1), tt)
conditions n k (UnlessNull p c) w l r =
    (((w.x, r.0.first, r.0.second), tt), (w.x, one n (suc (height c)) l, conditions (inside_if n) k c w (further n.nest (height c) l) (within n c r.1), tt))
conditions n k (AreOfPartOr p q c) w l r = (
  ((w.x, r.0.second, r.1.second), ((w.y, r.0.third, r.1.third), ((w.x, w.x, w.y), tt))),
  (w.x, one n (suc (height c)) l, tt, conditions (inside_if n) k c w (further n.nest (height c) l) (within n c r.2)),
)
conditions n k (AreOfAreaOr p q c) w l r = (
  ((w.x, r.0.second, r.1.second), tt),
  (w.x, one n (suc (height c)) l, tt, conditions (inside_if n) k c w (further n.nest (height c) l) (within n c r.2)),
)
conditions n k (Both c d) w l r = (
  conditions n k c w (left n.nest (height c) (height d) l) r.0,
  conditions n k d w (right n.nest (height c) (height d) l) r.1,
)

-- all that is asked
pub checks : (n : Names) (k : Work) (all : List Asked) (is : List Instr) → WorkFits n.slots k → n.nest + 4 ≤ 1024 → AsksFit n all → AreChecks k all is → Fits n is
checks n k [] is w l a e = line n [] is e tt
checks n k (x ∷ xs) is w l a (first, rest, t, c, e) = in_turn n first rest is e
    (tests n x.check x.place (test_of k x.condition) first (conditions n k x.condition w (let h = a.1 in omega (arith, l, h)) a.0) t)
    (checks n k xs rest w l a.2 c)

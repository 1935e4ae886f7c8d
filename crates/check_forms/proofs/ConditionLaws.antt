-- Each condition's lines pass exactly where it holds.
use Rattle.std.proofs.Common.{◌≡◌, ℕ, zero, suc, ◌+◌, ◌-◌, ◌^◌, ◌<◌, Bool, true, false, not, ◌&&◌, ◌||◌, List, [], ◌∷◌, length, refl, ap, sym, subst, ◌∙◌, arith, nat_eq, nat_lt, nat_le, if◌then◌else◌}
use Rattle.std.specs.Prelude.{int_lt, bit_and, bit_or}
use Rattle.std.proofs.lemmas.Bool.Decides.{nat_tests}
use Rattle.std.proofs.lemmas.Nat.{and_mask}
use Rattle.flat_mem.specs.Bytes.{number}
use Rattle.flat_mem.specs.Memory.{Memory, frame_area, depth_of}
use Rattle.wild_tags.specs.Words.{length_at}
use Rattle.wild_tags.specs.Calls.{is_plain, is_tagged, greatest_depth}
use Rattle.integers.specs.Words.{truth_word, is_true_word, equal_words}
use Rattle.integers.specs.Operators.{signed, sum_words, difference_words, product_words, remainder_signed}
use Rattle.integers.proofs.SignedLaws.{is_true-truth}
use Rattle.cured_code.specs.declared.parts.Parts.{Parts}
use Rattle.cured_code.specs.Tables.{function_at, sig_word, has_room, is_below}
use Rattle.cured_code.specs.Straight.{Line, Sets, value_of, with_value, after_line, behind}
use Rattle.check_forms.specs.Conditions.{PointerSlots, Fixed, Distance, Bytes, Elements, Direction, Forward, Backward, Condition, Never, IsNotZero, IsInPart, IsByteInPart, IsWithinPart, IsInArea, IsByteInArea, IsWithinArea, IsArea, IsNear, IsSmall, IsBelowBound, IsAtLeast, IsAligned, HoldsNoPointer, HoldsPointer, IsNoDeeper, AreNoDeeper, IsNotOwn, IsMadeFor, IsFunctionOf, HasRoom, AreOfPart, AreOfArea, AreElementsApart, IsNoOverflow, Unless, UnlessNull, AreOfPartOr, AreOfAreaOr, Both, flat_holds, moved, distance_of}
use Rattle.check_forms.specs.Tests.{Test, Pass, Flag, After, Choose, Then, slots_behind, passes, CanTest}
use Rattle.check_forms.specs.Lines.{Work, part_lines, IsSafe, test_of, AreWork, IsOther, AreApart, AreHeld}

-- Flags

not-zero : (n : ℕ) → is_true_word n ≡ not (nat_eq n 0)
not-zero n = by (nat_eq n 0)
  where
    by : (q : Bool) → (if q then false else true) ≡ not q
    by true = refl
    by false = refl

-- a stop where a flag holds
stops : (p : Bool) → (if is_true_word (truth_word p) then false else true) ≡ not p
stops true = refl
stops false = refl

-- or where one of two does
stops-or : (p q : Bool) → (if is_true_word (bit_or (truth_word p) (truth_word q)) then false else true) ≡ (not p && not q)
stops-or true true = refl
stops-or true false = refl
stops-or false true = refl
stops-or false false = refl

flag-and : (p q : Bool) → is_true_word (bit_and (truth_word p) (truth_word q)) ≡ (p && q)
flag-and true true = refl
flag-and true false = refl
flag-and false true = refl
flag-and false false = refl

-- a stop where a word isn't 0
stops-word : (n : ℕ) → (if is_true_word n then false else true) ≡ nat_eq n 0
stops-word n = by (nat_eq n 0)
  where
    by : (q : Bool) → (if (if q then false else true) then false else true) ≡ q
    by true = refl
    by false = refl

-- more flags

holds-pointer : (t : Bool) (m : Memory) (a : ℕ) → a + 8 < 2 ^ 64
    → (if is_true_word (truth_word t) then true else (if is_true_word (length_at m.bytes (sum_words a 8)) then false else true)) ≡
    (t || nat_eq (number 8 m.bytes a) 0)
holds-pointer true m a h = refl
holds-pointer false m a h =
    stops-word (length_at m.bytes (sum_words a 8)) ∙ ap (λ j. nat_eq (number 8 m.bytes j) 0) (let e : sum_words a 8 - 8 ≡ a = omega (arith, h) in e)

no-deeper : (h t : ℕ) → (if is_true_word h then (if is_true_word (truth_word (nat_lt t h)) then false else true) else true) ≡ nat_le h t
no-deeper zero t = grind (arith, nat_tests)
no-deeper (suc h) t = simp (stops (nat_lt t (suc h))) (grind (arith, nat_tests))

no-overflow : (p q : Bool) → (if is_true_word (truth_word p) then (if is_true_word (truth_word q) then false else true) else true) ≡ not (p && q)
no-overflow true q = stops q
no-overflow false q = refl

unless : (n : ℕ) (p q : Bool) → p ≡ q → (if is_true_word n then p else true) ≡ (nat_eq n 0 || q)
unless n p q h = by (nat_eq n 0)
  where
    by : (b : Bool) → (if (if b then false else true) then p else true) ≡ (b || q)
    by true = refl
    by false = h

not-own : (h t : ℕ) → (if is_true_word h then (if is_true_word (truth_word (nat_eq t h)) then false else true) else true) ≡
    (nat_eq h 0 || not (nat_eq t h))
not-own h t = unless h (if is_true_word (truth_word (nat_eq t h)) then false else true) (not (nat_eq t h)) (stops (nat_eq t h))

or-else : (n : ℕ) (b p q : Bool) → is_true_word n ≡ b → p ≡ q → (if is_true_word n then true else p) ≡ (b || q)
or-else n b p q h g = ap (λ x. if x then true else p) h ∙ by b
  where
    by : (b : Bool) → (if b then true else p) ≡ (b || q)
    by true = refl
    by false = g

-- what the law of a condition takes of the working slots
pub record IsReady (n : ℕ) (k : Work) (e : ℕ → ℕ) : Type 0 where
  pub work : AreWork n k
  pub clear : e k.none ≡ 0
  pub none : IsOther k k.none

pub ready-same : (n : ℕ) (k : Work) (e f : ℕ → ℕ) → IsReady n k e → ((a : ℕ) → IsOther k a → f a ≡ e a) → IsReady n k f
ready-same n k e f r s = record { work = r.work; clear = s k.none r.none ∙ r.clear; none = r.none }

-- A condition reads none of the slots that lines set.

pub held-same : (k : Work) (c : Condition) (e f : ℕ → ℕ) → ((a : ℕ) → IsOther k a → f a ≡ e a) → AreApart k c → AreHeld e c → AreHeld f c
held-same k (IsInPart p size) e f s o h = s _ o.1.1.1.0 ∙ h
held-same k (IsInArea p size) e f s o h = s _ o.1.1.0 ∙ h
held-same k (IsArea a last) e f s o h = s _ o.1.0 ∙ h
held-same k (IsNear p direction (Bytes n) least span) e f s o h = (s _ o.1.1.0 ∙ h.0, s _ o.1.1.1.0 ∙ h.1, tt)
held-same k (IsNear p direction (Elements n size) least span) e f s o h = (s _ o.1.1.0 ∙ h.0, s _ o.1.1.1.0 ∙ h.1, s _ o.1.1.1.1.1.0 ∙ h.2)
held-same k (IsSmall n least span) e f s o h = (s _ o.1.0 ∙ h.0, s _ o.1.1.0 ∙ h.1)
held-same k (IsBelowBound n bound) e f s o h = s _ o.1.0 ∙ h
held-same k (IsAtLeast n least) e f s o h = s _ o.1.0 ∙ h
held-same k (IsAligned a seven) e f s o h = s _ o.1.0 ∙ h
held-same k (HoldsPointer p eight) e f s o h = (s _ o.1.1.0 ∙ h.0, subst (λ (n : ℕ). n + 8 < 2 ^ 64) (sym (s _ o.0)) h.1)
held-same k (IsFunctionOf p signature) e f s o h = s _ o.1.1.0 ∙ h
held-same k (AreElementsApart p q size) e f s o h = s _ o.1.1.0 ∙ h
held-same k (IsNoOverflow a b least minus_one) e f s o h = (s _ o.1.1.0 ∙ h.0, s _ o.1.1.1.0 ∙ h.1)
held-same k (Unless a c) e f s o h = held-same k c e f s o.1 h
held-same k (UnlessNull p c) e f s o h = held-same k c e f s o.1 h
held-same k (AreOfPartOr p q c) e f s o h = held-same k c e f s o.1 h
held-same k (AreOfAreaOr p q c) e f s o h = held-same k c e f s o.1 h
held-same k (Both c d) e f s o h = (held-same k c e f s o.0 h.0, held-same k d e f s o.1 h.1)
held-same k c e f s o h = tt

pub holds-same : (k : Work) (parts : Parts) (m : Memory) (c : Condition) (e f : ℕ → ℕ) → ((a : ℕ) → IsOther k a → f a ≡ e a) → AreApart k c
    → flat_holds parts m c f ≡ flat_holds parts m c e
holds-same k parts m Never e f s o = refl
holds-same k parts m (IsNotZero a) e f s o = simp (s _ o) refl
holds-same k parts m (IsNotOwn home) e f s o = simp (s _ o) refl
holds-same k parts m (IsMadeFor a node) e f s o = simp (s _ o) refl
holds-same k parts m (HasRoom a) e f s o = simp (s _ o) refl
holds-same k parts m (IsInPart p size) e f s o = simp (s _ o.0, s _ o.1.0, s _ o.1.1.0) refl
holds-same k parts m (IsByteInPart p) e f s o = simp (s _ o.0, s _ o.1.0, s _ o.1.1.0) refl
holds-same k parts m (IsWithinPart p) e f s o = simp (s _ o.0, s _ o.1.0, s _ o.1.1.0) refl
holds-same k parts m (IsInArea p size) e f s o = simp (s _ o.0, s _ o.1.0) refl
holds-same k parts m (IsByteInArea p) e f s o = simp (s _ o.0, s _ o.1.0) refl
holds-same k parts m (IsWithinArea p) e f s o = simp (s _ o.0, s _ o.1.0) refl
holds-same k parts m (IsArea a last) e f s o = simp (s _ o.0) refl
holds-same k parts m (IsSmall n least span) e f s o = simp (s _ o.0) refl
holds-same k parts m (IsBelowBound n bound) e f s o = simp (s _ o.0) refl
holds-same k parts m (IsAtLeast n least) e f s o = simp (s _ o.0) refl
holds-same k parts m (IsAligned a seven) e f s o = simp (s _ o.0) refl
holds-same k parts m (HoldsNoPointer p bytes) e f s o = simp (s _ o.0, s _ o.1.0) refl
holds-same k parts m (HoldsPointer p eight) e f s o = simp (s _ o.0, s _ o.1.0) refl
holds-same k parts m (IsNoDeeper home target) e f s o = simp (s _ o.0, s _ o.1.0) refl
holds-same k parts m (AreNoDeeper p bytes target) e f s o = simp (s _ o.0, s _ o.1.0, s _ o.1.1.0) refl
holds-same k parts m (IsFunctionOf p signature) e f s o = simp (s _ o.0, s _ o.1.0) refl
holds-same k parts m (AreOfPart p q) e f s o = simp (s _ o.0, s _ o.1.0, s _ o.1.1.0, s _ o.1.1.1.0) refl
holds-same k parts m (AreOfArea p q) e f s o = simp (s _ o.0, s _ o.1.0) refl
holds-same k parts m (AreElementsApart p q size) e f s o = simp (s _ o.0, s _ o.1.0) refl
holds-same k parts m (IsNoOverflow a b least minus_one) e f s o = simp (s _ o.0, s _ o.1.0) refl
holds-same k parts m (IsNear p Forward (Bytes n) least span) e f s o = simp (s _ o.0, s _ o.1.0, s _ o.1.1.1.1.0) refl
holds-same k parts m (IsNear p Forward (Elements n size) least span) e f s o = simp (s _ o.0, s _ o.1.0, s _ o.1.1.1.1.0) refl
holds-same k parts m (IsNear p Backward (Bytes n) least span) e f s o = simp (s _ o.0, s _ o.1.0, s _ o.1.1.1.1.0) refl
holds-same k parts m (IsNear p Backward (Elements n size) least span) e f s o = simp (s _ o.0, s _ o.1.0, s _ o.1.1.1.1.0) refl
holds-same k parts m (Unless a c) e f s o = simp (s _ o.0, holds-same k parts m c e f s o.1) refl
holds-same k parts m (UnlessNull p c) e f s o = simp (s _ o.0.0, s _ o.0.1.0, holds-same k parts m c e f s o.1) refl
holds-same k parts m (AreOfPartOr p q c) e f s o =
    simp (s _ o.0.0, s _ o.0.1.0, s _ o.0.1.1.0, s _ o.0.1.1.1.0, holds-same k parts m c e f s o.1) refl
holds-same k parts m (AreOfAreaOr p q c) e f s o = simp (s _ o.0.0, s _ o.0.1.0, holds-same k parts m c e f s o.1) refl
holds-same k parts m (Both c d) e f s o = simp (holds-same k parts m c e f s o.0, holds-same k parts m d e f s o.1) refl

pub safe-same : (k : Work) (m : Memory) (c : Condition) (e f : ℕ → ℕ) → ((a : ℕ) → IsOther k a → f a ≡ e a) → AreApart k c → IsSafe m c e
    → IsSafe m c f
safe-same k m (IsInArea p size) e f s o h = simp (s _ o.1.0) h
safe-same k m (IsByteInArea p) e f s o h = simp (s _ o.1.0) h
safe-same k m (IsWithinArea p) e f s o h = simp (s _ o.1.0) h
safe-same k m (HoldsNoPointer p bytes) e f s o h = simp (s _ o.0, s _ o.1.0) h
safe-same k m (AreNoDeeper p bytes target) e f s o h = simp (s _ o.0, s _ o.1.0) h
safe-same k m (AreElementsApart p q size) e f s o h = simp (s _ o.0, s _ o.1.0) h
safe-same k m (HoldsPointer p eight) e f s o h = (simp (s _ o.0, s _ o.1.0) h.0, simp (s _ o.0) h.1)
safe-same k m (Unless a c) e f s o h = λ t. safe-same k m c e f s o.1 (h (ap is_true_word (sym (s _ o.0)) ∙ t))
safe-same k m (UnlessNull p c) e f s o h = safe-same k m c e f s o.1 h
safe-same k m (AreOfPartOr p q c) e f s o h = safe-same k m c e f s o.1 h
safe-same k m (AreOfAreaOr p q c) e f s o h = safe-same k m c e f s o.1 h
safe-same k m (Both c d) e f s o h = (safe-same k m c e f s o.0 h.0, safe-same k m d e f s o.1 h.1)
safe-same k m c e f s o h = tt

-- Lines that don't set a slot leave it as it is.

abbrev pub AvoidLines : ℕ → List Line → Type 0
AvoidLines a [] = Unit {0}
AvoidLines a (Sets v x ∷ lines) = (nat_eq a v ≡ false) × AvoidLines a lines

abbrev pub Avoids : ℕ → Test → Type 0
Avoids a Pass = Unit {0}
Avoids a (Flag b) = Unit {0}
Avoids a (After lines t) = AvoidLines a lines × Avoids a t
Avoids a (Choose b t u) = Avoids a t × Avoids a u
Avoids a (Then t u) = Avoids a t × Avoids a u

lines-kept : (parts : Parts) (m : Memory) (lines : List Line) (e : ℕ → ℕ) (a : ℕ) → AvoidLines a lines → behind parts m lines e a ≡ e a
lines-kept parts m [] e a h = refl
lines-kept parts m (Sets v x ∷ lines) e a h =
    lines-kept parts m lines (after_line parts m (Sets v x) e) a h.1 ∙ ap (λ (q : Bool). if q then value_of parts m x e else e a) h.0

either-kept : (q : Bool) (f g e : ℕ → ℕ) (a : ℕ) → f a ≡ e a → g a ≡ e a → (if q then f else g) a ≡ e a
either-kept true f g e a x y = x
either-kept false f g e a x y = y

pub test-kept : (parts : Parts) (m : Memory) (t : Test) (e : ℕ → ℕ) (a : ℕ) → Avoids a t → slots_behind parts m t e a ≡ e a
test-kept parts m Pass e a h = refl
test-kept parts m (Flag b) e a h = refl
test-kept parts m (After lines t) e a h = test-kept parts m t (behind parts m lines e) a h.1 ∙ lines-kept parts m lines e a h.0
test-kept parts m (Choose b t u) e a h =
    either-kept (is_true_word (e b)) (slots_behind parts m t e) (slots_behind parts m u e) e a (test-kept parts m t e a h.0)
    (test-kept parts m u e a h.1)
test-kept parts m (Then t u) e a h =
    either-kept (passes parts m t e) (slots_behind parts m u (slots_behind parts m t e)) (slots_behind parts m t e) e a
    (test-kept parts m u (slots_behind parts m t e) a h.1 ∙ test-kept parts m t e a h.0) (test-kept parts m t e a h.0)

avoids : (k : Work) (c : Condition) (a : ℕ) → IsOther k a → Avoids a (test_of k c)
avoids k (IsNear p direction (Bytes n) least span) a o = assumption o
avoids k (IsNear p direction (Elements n size) least span) a o = assumption o
avoids k (Unless b c) a o = (avoids k c a o, tt)
avoids k (UnlessNull p c) a o = ((o.x, tt), (avoids k c a o, tt))
avoids k (AreOfPartOr p q c) a o = ((o.x, (o.y, (o.x, tt))), (tt, avoids k c a o))
avoids k (AreOfAreaOr p q c) a o = ((o.x, tt), (tt, avoids k c a o))
avoids k (Both c d) a o = (avoids k c a o, avoids k d a o)
avoids k c a o = assumption o

-- The lines of a condition set working slots alone.
pub kept : (k : Work) (parts : Parts) (m : Memory) (c : Condition) (e : ℕ → ℕ) (a : ℕ) → IsOther k a → slots_behind parts m (test_of k c) e a ≡ e a
kept k parts m c e a o = test-kept parts m (test_of k c) e a (avoids k c a o)

-- A condition's lines pass exactly where it holds.
pub exact : (n : ℕ) (k : Work) (parts : Parts) (m : Memory) (c : Condition) (e : ℕ → ℕ) → IsReady n k e → AreApart k c → AreHeld e c
    → passes parts m (test_of k c) e ≡ flat_holds parts m c e
exact n k parts m Never e r o h = simp (r.clear) refl
exact n k parts m (IsNotZero a) e r o h = not-zero (e a)
exact n k parts m (IsInPart p size) e r o h =
    simp (r.work.xx, r.work.yy, r.work.xy, r.work.yx, o.0.x, o.1.1.0.x, o.1.1.1.0.x, o.1.1.1.0.y, r.none.x, r.none.y, r.clear, h)
    (stops-or (int_lt (signed (e p.first)) (signed (e p.second))) (int_lt (signed (difference_words (e p.third) (e p.first))) (signed size.value)))
exact n k parts m (IsByteInPart p) e r o h =
    simp (r.work.xx, r.work.yy, r.work.xy, r.work.yx, o.1.0.x, o.1.1.0.x)
    (is_true-truth (nat_lt (difference_words (e p.first) (e p.second)) (difference_words (e p.third) (e p.second))))
exact n k parts m (IsWithinPart p) e r o h =
    simp (r.work.xx, r.work.yy, r.work.xy, r.work.yx, o.0.x, o.1.1.0.x, r.none.x, r.none.y, r.clear)
    (stops-or (int_lt (signed (e p.first)) (signed (e p.second))) (int_lt (signed (e p.third)) (signed (e p.first))))
exact n k parts m (IsInArea p size) e r o h =
    simp (
      r.work.xx,
      r.work.yy,
      r.work.xy,
      r.work.yx,
      r.work.zz,
      r.work.zx,
      r.work.yz,
      r.work.zy,
      o.0.x,
      o.1.0.x,
      o.1.1.0.x,
      o.1.1.0.y,
      o.1.1.0.z,
      r.none.x,
      r.none.y,
      r.none.z,
      r.clear,
      h,
    ) (stops-or (nat_lt (length_at m.bytes (e p.second))
    (difference_words (length_at m.bytes (e p.second)) (difference_words (e p.first) (e p.second))))
    (nat_lt (difference_words (length_at m.bytes (e p.second)) (difference_words (e p.first) (e p.second))) size.value))
exact n k parts m (IsByteInArea p) e r o h =
    simp (r.work.xx, r.work.yy, r.work.xy, r.work.yx, o.0.x, o.1.0.x) (is_true-truth
    (nat_lt (difference_words (e p.first) (e p.second)) (length_at m.bytes (e p.second))))
exact n k parts m (IsWithinArea p) e r o h =
    simp (r.work.xx, r.work.yy, r.work.xy, r.work.yx, o.0.x, o.1.0.x, r.none.x, r.none.y, r.clear)
    (stops (nat_lt (length_at m.bytes (e p.second)) (difference_words (e p.first) (e p.second))))
exact n k parts m (IsArea a last) e r o h = simp (r.work.xx, h) (is_true-truth (nat_lt last.value (e a)))
exact n k parts m (IsNear p Forward (Bytes n') least span) e r o h =
    simp (r.work.xx, r.work.oo, r.work.xo, o.1.0.to, o.1.1.0.x, o.1.1.0.to, o.1.1.1.0.x, o.1.1.1.0.to, h.0, h.1)
    (is_true-truth (nat_lt (sum_words (difference_words (sum_words (e p.first) (e n')) (e p.second)) least.value) span.value))
exact n k parts m (IsNear p Forward (Elements n' size) least span) e r o h =
    simp (r.work.xx, r.work.oo, r.work.xo, r.work.ox, o.0.x, o.1.0.x, o.1.0.to, o.1.1.0.x, o.1.1.0.to, o.1.1.1.0.x, o.1.1.1.0.to, h.0, h.1, h.2)
    (is_true-truth (nat_lt (sum_words (difference_words (sum_words (e p.first) (product_words (e n') size.value))
    (e p.second)) least.value) span.value))
exact n k parts m (IsNear p Backward (Bytes n') least span) e r o h =
    simp (r.work.xx, r.work.oo, r.work.xo, o.1.0.to, o.1.1.0.x, o.1.1.0.to, o.1.1.1.0.x, o.1.1.1.0.to, h.0, h.1)
    (is_true-truth (nat_lt (sum_words (difference_words (difference_words (e p.first) (e n')) (e p.second)) least.value) span.value))
exact n k parts m (IsNear p Backward (Elements n' size) least span) e r o h =
    simp (r.work.xx, r.work.oo, r.work.xo, r.work.ox, o.0.x, o.1.0.x, o.1.0.to, o.1.1.0.x, o.1.1.0.to, o.1.1.1.0.x, o.1.1.1.0.to, h.0, h.1, h.2)
    (is_true-truth (nat_lt (sum_words (difference_words (difference_words (e p.first) (product_words (e n') size.value))
    (e p.second)) least.value) span.value))
exact n k parts m (IsSmall n' least span) e r o h =
    simp (r.work.xx, o.1.1.0.x, h.0, h.1) (is_true-truth (nat_lt (sum_words (e n') least.value) span.value))
exact n k parts m (IsBelowBound n' bound) e r o h = simp (r.work.xx, h) (is_true-truth (nat_lt (e n') bound.value))
exact n k parts m (IsAtLeast n' least) e r o h = simp (r.work.xx, r.none.x, r.clear, h) (stops (nat_lt (e n') least.value))
exact n k parts m (IsAligned a seven) e r o h =
    simp (r.work.xx, r.none.x, r.clear, h) (stops-word (bit_and (e a) 7) ∙ ap (λ j. nat_eq j 0) (and_mask (e a) 3))
exact n k parts m (HoldsNoPointer p bytes) e r o h = simp (r.work.xx) (is_true-truth (is_plain m.bytes (e p.first) (e p.second) bytes))
exact n k parts m (HoldsPointer p eight) e r o h =
    simp (r.work.xx, r.work.yy, r.work.yx, o.0.x, o.1.1.0.x, r.none.x, r.none.y, r.clear, h.0)
    (holds-pointer (is_tagged m.bytes (e p.first) (e p.second)) m (e p.first) h.1)
exact n k parts m (IsNoDeeper home target) e r o h =
    simp (r.work.xx, r.work.yy, r.work.xy, r.work.yx, o.1.0.x, r.none.x, r.none.y, r.clear)
    (no-deeper (depth_of m (e home)) (depth_of m (e target)))
exact n k parts m (AreNoDeeper p bytes target) e r o h =
    simp (r.work.xx, r.work.yy, r.work.xy, r.work.yx, o.1.1.0.x, r.none.x, r.none.y, r.clear)
    (no-deeper (greatest_depth m (e p.first) (e p.second) bytes) (depth_of m (e target)))
exact n k parts m (IsNotOwn home) e r o h =
    simp (r.work.xx, r.work.yy, r.work.xy, r.work.yx, r.none.x, r.none.y, r.clear) (not-own (depth_of m (e home)) (depth_of m (frame_area m 0)))
exact n k parts m (IsMadeFor a node) e r o h = simp (r.work.xx) (is_true-truth (is_below parts.nodes (e a) node))
exact n k parts m (IsFunctionOf p signature) e r o h =
    simp (r.work.xx, r.work.yy, r.work.xy, r.work.yx, o.0.x, o.1.1.0.x, o.1.1.0.y, h)
    (flag-and (nat_eq (e p.first) (e p.second)) (nat_eq (sig_word parts (function_at (length parts.functions) (e p.first))) signature.value))
exact n k parts m (HasRoom a) e r o h = simp (r.work.xx) (is_true-truth (has_room parts (function_at (length parts.functions) (e a)) m))
exact n k parts m (AreOfPart p q) e r o h =
    simp (r.work.xx, r.work.yy, r.work.xy, r.work.yx, o.1.0.x, o.1.1.1.0.x)
    (flag-and (nat_eq (e p.second) (e q.second)) (nat_eq (e p.third) (e q.third)))
exact n k parts m (AreOfArea p q) e r o h = simp (r.work.xx) (is_true-truth (nat_eq (e p.second) (e q.second)))
exact n k parts m (AreElementsApart p q size) e r o h =
    simp (r.work.xx, o.1.1.0.x, r.none.x, r.clear, h) (stops-word (remainder_signed (difference_words (e p.first) (e q.first)) size.value))
exact n k parts m (IsNoOverflow a b least minus_one) e r o h =
    simp (r.work.xx, r.work.yy, r.work.yx, o.0.x, o.1.1.0.x, r.none.x, r.none.y, r.clear, h.0, h.1)
    (no-overflow (nat_eq (e b) minus_one.value) (nat_eq (e a) least.value))
exact n k parts m (Unless a c) e r o h = unless (e a) (passes parts m (test_of k c) e) (flat_holds parts m c e) (exact n k parts m c e r o.1 h)
exact n k parts m (UnlessNull p c) e r o h =
    let g : passes parts m (test_of k c) (with_value k.x (bit_or (e p.first) (e p.second)) e) ≡ flat_holds parts m c e =
    (let s : (a : ℕ) → IsOther k a → (with_value k.x (bit_or (e p.first) (e p.second)) e) a ≡ e a = (λ a z. simp (z.x) refl) in exact n k parts m c
    (with_value k.x (bit_or (e p.first) (e p.second)) e) (ready-same n k e (with_value k.x (bit_or (e p.first) (e p.second)) e) r s) o.1
    (held-same k c e (with_value k.x (bit_or (e p.first) (e p.second)) e) s o.1 h)
    ∙ holds-same k parts m c e (with_value k.x (bit_or (e p.first) (e p.second)) e) s o.1) in
    simp (r.work.xx) (unless (bit_or (e p.first) (e p.second)) (passes parts m (test_of k c) (with_value k.x (bit_or (e p.first) (e p.second)) e))
    (flat_holds parts m c e) g)
exact n k parts m (AreOfPartOr p q c) e r o h =
    or-else ((behind parts m (part_lines k p q) e) k.x) (nat_eq (e p.second) (e q.second) && nat_eq (e p.third) (e q.third))
    (passes parts m (test_of k c) (behind parts m (part_lines k p q) e)) (flat_holds parts m c e)
    (simp (r.work.xx, r.work.yy, r.work.xy, o.0.1.0.x, o.0.1.1.1.0.x) (flag-and (nat_eq (e p.second) (e q.second))
    (nat_eq (e p.third) (e q.third))))
    (let s : (a : ℕ) → IsOther k a → (behind parts m (part_lines k p q) e) a ≡ e a =
    (λ a z. lines-kept parts m (part_lines k p q) e a (z.x, (z.y, (z.x, tt)))) in exact n k parts m c (behind parts m (part_lines k p q) e)
    (ready-same n k e (behind parts m (part_lines k p q) e) r s) o.1 (held-same k c e (behind parts m (part_lines k p q) e) s o.1 h)
    ∙ holds-same k parts m c e (behind parts m (part_lines k p q) e) s o.1)
exact n k parts m (AreOfAreaOr p q c) e r o h =
    or-else ((with_value k.x (equal_words (e p.second) (e q.second)) e) k.x) (nat_eq (e p.second) (e q.second))
    (passes parts m (test_of k c) (with_value k.x (equal_words (e p.second) (e q.second)) e)) (flat_holds parts m c e)
    (simp (r.work.xx) (is_true-truth (nat_eq (e p.second) (e q.second))))
    (let s : (a : ℕ) → IsOther k a → (with_value k.x (equal_words (e p.second) (e q.second)) e) a ≡ e a =
    (λ a z. simp (z.x) refl) in exact n k parts m c (with_value k.x (equal_words (e p.second) (e q.second)) e)
    (ready-same n k e (with_value k.x (equal_words (e p.second) (e q.second)) e) r s) o.1
    (held-same k c e (with_value k.x (equal_words (e p.second) (e q.second)) e) s o.1 h)
    ∙ holds-same k parts m c e (with_value k.x (equal_words (e p.second) (e q.second)) e) s o.1)
exact n k parts m (Both c d) e r o h =
    let f : ℕ → ℕ = slots_behind parts m (test_of k c) e in
    let s : (a : ℕ) → IsOther k a → f a ≡ e a = (λ a z. kept k parts m c e a z) in
    ap (λ q. q && passes parts m (test_of k d) f) (exact n k parts m c e r o.0 h.0)
    ∙ ap (λ q. flat_holds parts m c e && q) (exact n k parts m d f (ready-same n k e f r s) o.1 (held-same k d e f s o.1 h.1)
    ∙ holds-same k parts m d e f s o.1)

-- No line of a condition traps where what it looks up is there.
pub can : (n : ℕ) (k : Work) (parts : Parts) (m : Memory) (c : Condition) (e : ℕ → ℕ) → IsReady n k e → AreApart k c → AreHeld e c → IsSafe m c e
    → CanTest n parts m (test_of k c) e
can n k parts m Never e r o h s = tt
can n k parts m (IsNotZero a) e r o h s = tt
can n k parts m (IsInPart p size) e r o h s =
    (((r.work.x, refl), ((r.work.y, refl), ((r.work.y, refl), ((r.work.x, refl), tt)))), (λ t. tt, λ t. tt))
can n k parts m (IsByteInPart p) e r o h s = (((r.work.x, refl), ((r.work.y, refl), ((r.work.x, refl), tt))), tt)
can n k parts m (IsWithinPart p) e r o h s = (((r.work.x, refl), ((r.work.y, refl), ((r.work.x, refl), tt))), (λ t. tt, λ t. tt))
can n k parts m (IsInArea p size) e r o h s =
    (((r.work.x, s), ((r.work.y, refl), ((r.work.y, refl), ((r.work.z, refl), ((r.work.y, refl), ((r.work.y, refl), tt)))))), (λ t. tt, λ t. tt))
can n k parts m (IsByteInArea p) e r o h s = (((r.work.x, s), ((r.work.y, refl), ((r.work.x, refl), tt))), tt)
can n k parts m (IsWithinArea p) e r o h s = (((r.work.x, s), ((r.work.y, refl), ((r.work.x, refl), tt))), (λ t. tt, λ t. tt))
can n k parts m (IsArea a last) e r o h s = (((r.work.x, refl), tt), tt)
can n k parts m (IsNear p Forward (Bytes b) least span) e r o h s =
    (((r.work.to, refl), tt), (((r.work.x, refl), ((r.work.x, refl), ((r.work.x, refl), tt))), tt))
can n k parts m (IsNear p Forward (Elements b size) least span) e r o h s =
    (((r.work.x, refl), ((r.work.to, refl), tt)), (((r.work.x, refl), ((r.work.x, refl), ((r.work.x, refl), tt))), tt))
can n k parts m (IsNear p Backward (Bytes b) least span) e r o h s =
    (((r.work.to, refl), tt), (((r.work.x, refl), ((r.work.x, refl), ((r.work.x, refl), tt))), tt))
can n k parts m (IsNear p Backward (Elements b size) least span) e r o h s =
    (((r.work.x, refl), ((r.work.to, refl), tt)), (((r.work.x, refl), ((r.work.x, refl), ((r.work.x, refl), tt))), tt))
can n k parts m (IsSmall b least span) e r o h s = (((r.work.x, refl), ((r.work.x, refl), tt)), tt)
can n k parts m (IsBelowBound b bound) e r o h s = (((r.work.x, refl), tt), tt)
can n k parts m (IsAtLeast b least) e r o h s = (((r.work.x, refl), tt), (λ t. tt, λ t. tt))
can n k parts m (IsAligned a seven) e r o h s = (((r.work.x, refl), tt), (λ t. tt, λ t. tt))
can n k parts m (HoldsNoPointer p bytes) e r o h s = (((r.work.x, s), tt), tt)
can n k parts m (HoldsPointer p eight) e r o h s =
    (((r.work.x, s.0), tt), (λ t. tt, λ t. (((r.work.y, refl), ((r.work.y, simp (r.work.yy, o.0.x, o.1.1.0.x, h.0) s.1), tt)), (λ t. tt, λ t. tt))))
can n k parts m (IsNoDeeper home target) e r o h s =
    (((r.work.x, refl), tt), (λ t. (((r.work.y, refl), ((r.work.y, refl), tt)), (λ t. tt, λ t. tt)), λ t. tt))
can n k parts m (AreNoDeeper p bytes target) e r o h s =
    (((r.work.x, s), tt), (λ t. (((r.work.y, refl), ((r.work.y, refl), tt)), (λ t. tt, λ t. tt)), λ t. tt))
can n k parts m (IsNotOwn home) e r o h s =
    (((r.work.x, refl), tt), (λ t. (((r.work.y, refl), ((r.work.y, refl), ((r.work.y, refl), tt))), (λ t. tt, λ t. tt)), λ t. tt))
can n k parts m (IsMadeFor a node) e r o h s = (((r.work.x, refl), tt), tt)
can n k parts m (IsFunctionOf p signature) e r o h s = (((r.work.x, refl), ((r.work.y, refl), ((r.work.y, refl), ((r.work.x, refl), tt)))), tt)
can n k parts m (HasRoom a) e r o h s = (((r.work.x, refl), tt), tt)
can n k parts m (AreOfPart p q) e r o h s = (((r.work.x, refl), ((r.work.y, refl), ((r.work.x, refl), tt))), tt)
can n k parts m (AreOfArea p q) e r o h s = (((r.work.x, refl), tt), tt)
can n k parts m (AreElementsApart p q size) e r o h s = (((r.work.x, refl), ((r.work.x, simp (r.work.xx, o.1.1.0.x, h) s), tt)), (λ t. tt, λ t. tt))
can n k parts m (IsNoOverflow a b least minus_one) e r o h s =
    (((r.work.x, refl), tt), (λ t. (((r.work.y, refl), tt), (λ t. tt, λ t. tt)), λ t. tt))
can n k parts m (Unless a c) e r o h s = (λ t. can n k parts m c e r o.1 h (s t), λ t. tt)
can n k parts m (UnlessNull p c) e r o h s = (
  ((r.work.x, refl), tt),
  (
    λ t. (let f : (a : ℕ) → IsOther k a → (with_value k.x (bit_or (e p.first) (e p.second)) e) a ≡ e a =
        (λ a z. simp (z.x) refl) in can n k parts m c (with_value k.x (bit_or (e p.first) (e p.second)) e)
        (ready-same n k e (with_value k.x (bit_or (e p.first) (e p.second)) e) r f) o.1
        (held-same k c e (with_value k.x (bit_or (e p.first) (e p.second)) e) f o.1 h)
        (safe-same k m c e (with_value k.x (bit_or (e p.first) (e p.second)) e) f o.1 s)),
    λ t. tt,
  ),
)
can n k parts m (AreOfPartOr p q c) e r o h s = (
  ((r.work.x, refl), ((r.work.y, refl), ((r.work.x, refl), tt))),
  (
    λ t. tt,
    λ t. (let f : (a : ℕ) → IsOther k a → (behind parts m (part_lines k p q) e) a ≡ e a =
        (λ a z. lines-kept parts m (part_lines k p q) e a (z.x, (z.y, (z.x, tt)))) in can n k parts m c (behind parts m (part_lines k p q) e)
        (ready-same n k e (behind parts m (part_lines k p q) e) r f) o.1 (held-same k c e (behind parts m (part_lines k p q) e) f o.1 h)
        (safe-same k m c e (behind parts m (part_lines k p q) e) f o.1 s)),
  ),
)
can n k parts m (AreOfAreaOr p q c) e r o h s = (
  ((r.work.x, refl), tt),
  (
    λ t. tt,
    λ t. (let f : (a : ℕ) → IsOther k a
        → (with_value k.x (equal_words (e p.second) (e q.second)) e) a ≡ e a = (λ a z. simp (z.x) refl) in can n k parts m c
        (with_value k.x (equal_words (e p.second) (e q.second)) e) (ready-same n k e (with_value k.x (equal_words (e p.second) (e q.second)) e) r f) o.1
        (held-same k c e (with_value k.x (equal_words (e p.second) (e q.second)) e) f o.1 h)
        (safe-same k m c e (with_value k.x (equal_words (e p.second) (e q.second)) e) f o.1 s)),
  ),
)
can n k parts m (Both c d) e r o h s = (
  can n k parts m c e r o.0 h.0 s.0,
  λ t. let f : (a : ℕ) → IsOther k a → slots_behind parts m (test_of k c) e a ≡ e a = (λ a z. kept k parts m c e a z) in
      can n k parts m d (slots_behind parts m (test_of k c) e) (ready-same n k e (slots_behind parts m (test_of k c) e) r f) o.1
      (held-same k d e (slots_behind parts m (test_of k c) e) f o.1 h.1) (safe-same k m d e (slots_behind parts m (test_of k c) e) f o.1 s.1),
)

-- A move's lines leave the address that is moved to.
pub moved-to : (n : ℕ) (k : Work) (parts : Parts) (m : Memory) (p : PointerSlots) (direction : Direction) (d : Distance) (least span : Fixed)
    (e : ℕ → ℕ)
    → IsReady n k e → AreApart k (IsNear p direction d least span) → AreHeld e (IsNear p direction d least span)
    → slots_behind parts m (test_of k (IsNear p direction d least span)) e k.to ≡ moved direction (e p.first) (distance_of d e)
moved-to n k parts m p Forward (Bytes b) least span e r o h = simp (r.work.oo, r.work.ox) refl
moved-to n k parts m p Backward (Bytes b) least span e r o h = simp (r.work.oo, r.work.ox) refl
moved-to n k parts m p Forward (Elements b size) least span e r o h = simp (r.work.oo, r.work.ox, r.work.xx, o.0.x, h.2) refl
moved-to n k parts m p Backward (Elements b size) least span e r o h = simp (r.work.oo, r.work.ox, r.work.xx, o.0.x, h.2) refl

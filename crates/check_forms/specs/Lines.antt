-- The lines of each condition, over working slots. A stop that is seldom run stands behind an `if` on what would make the
-- condition false, so that a flag costs no line to turn it round.
use Rattle.std.specs.Prelude.{◌≡◌, ◌<◌, ℕ, ◌+◌, ◌^◌, true, false, List, [], ◌∷◌, nat_eq}
use Rattle.flat_mem.specs.Memory.{Memory}
use Rattle.wild_tags.specs.Inside.{has_length, allows_plain, allows_tagged, allows_depth}
use Rattle.integers.specs.Words.{is_true_word}
use Rattle.integers.specs.Operators.{sum_words, difference_words, can_divide_signed}
use Rattle.cured_code.specs.Straight.{Operator, Sum, Difference, Product, And, Or, Equal, Less, LessSigned, RemainderSigned, Value, Result, LengthOf, AreaOf, DepthOf, SigOf, IsPlain, IsTagged, IsBelow, GreatestDepth, Line, Sets}
use Rattle.cured_code.specs.Straight as straight
use Rattle.check_forms.specs.Conditions.{PointerSlots, Fixed, Distance, Bytes, Elements, Direction, Forward, Backward, Condition, Never, IsNotZero, IsInPart, IsByteInPart, IsWithinPart, IsInArea, IsByteInArea, IsWithinArea, IsArea, IsNear, IsSmall, IsBelowBound, IsAtLeast, IsAligned, HoldsNoPointer, HoldsPointer, IsNoDeeper, AreNoDeeper, IsNotOwn, IsMadeFor, IsFunctionOf, HasRoom, AreOfPart, AreOfArea, AreElementsApart, IsNoOverflow, Unless, UnlessNull, AreOfPartOr, AreOfAreaOr, Both}
use Rattle.check_forms.specs.Tests.{Test, Pass, Flag, After, Choose, Then}
pub use Rattle.check_forms.specs.declared.slots.Work.{Work}

-- a stop where the slot isn't 0
abbrev pub stop_if : Work → ℕ → Test
stop_if k a = Choose a (Flag k.none) Pass

abbrev pub step_operator : Direction → Operator
step_operator Forward = Sum
step_operator Backward = Difference

-- the address that is moved to
abbrev pub move_lines : Work → PointerSlots → Direction → Distance → List Line
move_lines k p direction (Bytes n) = Sets k.to (Result (step_operator direction) p.first n) ∷ []
move_lines k p direction (Elements n size) = Sets k.x (Result Product n size.slot) ∷ Sets k.to (Result (step_operator direction) p.first k.x) ∷ []

-- the first and the second slot hold whether they are of one part
abbrev pub part_lines : Work → PointerSlots → PointerSlots → List Line
part_lines k p q = Sets k.x (Result Equal p.second q.second) ∷ Sets k.y (Result Equal p.third q.third) ∷ Sets k.x (Result And k.x k.y) ∷ []

abbrev pub test_of : Work → Condition → Test
test_of k Never = Flag k.none
test_of k (IsNotZero a) = Flag a
test_of k (IsInPart p size) =
    After (Sets k.x (Result LessSigned p.first p.second) ∷ Sets k.y (Result Difference p.third p.first) ∷
    Sets k.y (Result LessSigned k.y size.slot) ∷ Sets k.x (Result Or k.x k.y) ∷ []) (stop_if k k.x)
test_of k (IsByteInPart p) =
    After (Sets k.x (Result Difference p.first p.second) ∷ Sets k.y (Result Difference p.third p.second) ∷ Sets k.x (Result Less k.x k.y) ∷ [])
    (Flag k.x)
test_of k (IsWithinPart p) =
    After (Sets k.x (Result LessSigned p.first p.second) ∷ Sets k.y (Result LessSigned p.third p.first) ∷ Sets k.x (Result Or k.x k.y) ∷ [])
    (stop_if k k.x)
test_of k (IsInArea p size) =
    After (Sets k.x (LengthOf p.second) ∷ Sets k.y (Result Difference p.first p.second) ∷ Sets k.y (Result Difference k.x k.y) ∷
    Sets k.z (Result Less k.x k.y) ∷ Sets k.y (Result Less k.y size.slot) ∷ Sets k.y (Result Or k.z k.y) ∷ []) (stop_if k k.y)
test_of k (IsByteInArea p) =
    After (Sets k.x (LengthOf p.second) ∷ Sets k.y (Result Difference p.first p.second) ∷ Sets k.x (Result Less k.y k.x) ∷ []) (Flag k.x)
test_of k (IsWithinArea p) =
    After (Sets k.x (LengthOf p.second) ∷ Sets k.y (Result Difference p.first p.second) ∷ Sets k.x (Result Less k.x k.y) ∷ []) (stop_if k k.x)
test_of k (IsArea a last) = After (Sets k.x (Result Less last.slot a) ∷ []) (Flag k.x)
test_of k (IsNear p direction d least span) =
    After (move_lines k p direction d) (After (Sets k.x (Result Difference k.to p.second) ∷ Sets k.x (Result Sum k.x least.slot) ∷
    Sets k.x (Result Less k.x span.slot) ∷ []) (Flag k.x))
test_of k (IsSmall n least span) = After (Sets k.x (Result Sum n least.slot) ∷ Sets k.x (Result Less k.x span.slot) ∷ []) (Flag k.x)
test_of k (IsBelowBound n bound) = After (Sets k.x (Result Less n bound.slot) ∷ []) (Flag k.x)
test_of k (IsAtLeast n least) = After (Sets k.x (Result Less n least.slot) ∷ []) (stop_if k k.x)
test_of k (IsAligned a seven) = After (Sets k.x (Result And a seven) ∷ []) (stop_if k k.x)
test_of k (HoldsNoPointer p bytes) = After (Sets k.x (IsPlain p.first p.second bytes) ∷ []) (Flag k.x)
test_of k (HoldsPointer p eight) =
    After (Sets k.x (IsTagged p.first p.second) ∷ []) (Choose k.x Pass (After (Sets k.y (Result Sum p.first eight) ∷ Sets k.y (LengthOf k.y) ∷ [])
    (stop_if k k.y)))
test_of k (IsNoDeeper home target) =
    After (Sets k.x (DepthOf home) ∷ []) (Choose k.x (After (Sets k.y (DepthOf target) ∷ Sets k.y (Result Less k.y k.x) ∷ []) (stop_if k k.y)) Pass)
test_of k (AreNoDeeper p bytes target) =
    After (Sets k.x (GreatestDepth p.first p.second bytes) ∷ []) (Choose k.x
    (After (Sets k.y (DepthOf target) ∷ Sets k.y (Result Less k.y k.x) ∷ []) (stop_if k k.y)) Pass)
test_of k (IsNotOwn home) =
    After (Sets k.x (DepthOf home) ∷ []) (Choose k.x (After (Sets k.y (AreaOf 0) ∷ Sets k.y (DepthOf k.y) ∷ Sets k.y (Result Equal k.y k.x) ∷ [])
    (stop_if k k.y)) Pass)
test_of k (IsMadeFor a node) = After (Sets k.x (IsBelow a node) ∷ []) (Flag k.x)
test_of k (IsFunctionOf p signature) =
    After (Sets k.x (Result Equal p.first p.second) ∷ Sets k.y (SigOf p.first) ∷ Sets k.y (Result Equal k.y signature.slot) ∷
    Sets k.x (Result And k.x k.y) ∷ []) (Flag k.x)
test_of k (HasRoom a) = After (Sets k.x (straight.HasRoom a) ∷ []) (Flag k.x)
test_of k (AreOfPart p q) = After (part_lines k p q) (Flag k.x)
test_of k (AreOfArea p q) = After (Sets k.x (Result Equal p.second q.second) ∷ []) (Flag k.x)
test_of k (AreElementsApart p q size) =
    After (Sets k.x (Result Difference p.first q.first) ∷ Sets k.x (Result RemainderSigned k.x size.slot) ∷ []) (stop_if k k.x)
test_of k (IsNoOverflow a b least minus_one) =
    After (Sets k.x (Result Equal b minus_one.slot) ∷ []) (Choose k.x (After (Sets k.y (Result Equal a least.slot) ∷ []) (stop_if k k.y)) Pass)
test_of k (Unless a c) = Choose a (test_of k c) Pass
test_of k (UnlessNull p c) = After (Sets k.x (Result Or p.first p.second) ∷ []) (Choose k.x (test_of k c) Pass)
test_of k (AreOfPartOr p q c) = After (part_lines k p q) (Choose k.x Pass (test_of k c))
test_of k (AreOfAreaOr p q c) = After (Sets k.x (Result Equal p.second q.second) ∷ []) (Choose k.x Pass (test_of k c))
test_of k (Both c d) = Then (test_of k c) (test_of k d)

-- the slots that the lines set are apart from one another, from the one that holds 0, and there
pub record AreWork (count : ℕ) (k : Work) : Type 0 where
  pub x : k.x < count
  pub y : k.y < count
  pub z : k.z < count
  pub to : k.to < count
  pub xx : nat_eq k.x k.x ≡ true
  pub yy : nat_eq k.y k.y ≡ true
  pub zz : nat_eq k.z k.z ≡ true
  pub oo : nat_eq k.to k.to ≡ true
  pub xy : nat_eq k.x k.y ≡ false
  pub yx : nat_eq k.y k.x ≡ false
  pub xz : nat_eq k.x k.z ≡ false
  pub zx : nat_eq k.z k.x ≡ false
  pub yz : nat_eq k.y k.z ≡ false
  pub zy : nat_eq k.z k.y ≡ false
  pub xo : nat_eq k.x k.to ≡ false
  pub ox : nat_eq k.to k.x ≡ false

-- a slot that no line of a check sets
pub record IsOther (k : Work) (a : ℕ) : Type 0 where
  pub x : nat_eq a k.x ≡ false
  pub y : nat_eq a k.y ≡ false
  pub z : nat_eq a k.z ≡ false
  pub to : nat_eq a k.to ≡ false

abbrev pub AreOther : Work → List ℕ → Type 0
AreOther k [] = Unit {0}
AreOther k (a ∷ others) = IsOther k a × AreOther k others

-- the slots that a condition reads
abbrev pub distance_slots : Distance → List ℕ
distance_slots (Bytes n) = n ∷ []
distance_slots (Elements n size) = n ∷ size.slot ∷ []

-- the slots that a condition reads are none that its lines set
abbrev pub AreApart : Work → Condition → Type 0
AreApart k Never = Unit {0}
AreApart k (IsNotZero a) = IsOther k a
AreApart k (IsInPart p size) = AreOther k (p.first ∷ p.second ∷ p.third ∷ size.slot ∷ [])
AreApart k (IsByteInPart p) = AreOther k (p.first ∷ p.second ∷ p.third ∷ [])
AreApart k (IsWithinPart p) = AreOther k (p.first ∷ p.second ∷ p.third ∷ [])
AreApart k (IsInArea p size) = AreOther k (p.first ∷ p.second ∷ size.slot ∷ [])
AreApart k (IsByteInArea p) = AreOther k (p.first ∷ p.second ∷ [])
AreApart k (IsWithinArea p) = AreOther k (p.first ∷ p.second ∷ [])
AreApart k (IsArea a last) = AreOther k (a ∷ last.slot ∷ [])
AreApart k (IsNear p direction d least span) = AreOther k (p.first ∷ p.second ∷ least.slot ∷ span.slot ∷ distance_slots d)
AreApart k (IsSmall n least span) = AreOther k (n ∷ least.slot ∷ span.slot ∷ [])
AreApart k (IsBelowBound n bound) = AreOther k (n ∷ bound.slot ∷ [])
AreApart k (IsAtLeast n least) = AreOther k (n ∷ least.slot ∷ [])
AreApart k (IsAligned a seven) = AreOther k (a ∷ seven ∷ [])
AreApart k (HoldsNoPointer p bytes) = AreOther k (p.first ∷ p.second ∷ [])
AreApart k (HoldsPointer p eight) = AreOther k (p.first ∷ p.second ∷ eight ∷ [])
AreApart k (IsNoDeeper home target) = AreOther k (home ∷ target ∷ [])
AreApart k (AreNoDeeper p bytes target) = AreOther k (p.first ∷ p.second ∷ target ∷ [])
AreApart k (IsNotOwn home) = IsOther k home
AreApart k (IsMadeFor a node) = IsOther k a
AreApart k (IsFunctionOf p signature) = AreOther k (p.first ∷ p.second ∷ signature.slot ∷ [])
AreApart k (HasRoom a) = IsOther k a
AreApart k (AreOfPart p q) = AreOther k (p.second ∷ p.third ∷ q.second ∷ q.third ∷ [])
AreApart k (AreOfArea p q) = AreOther k (p.second ∷ q.second ∷ [])
AreApart k (AreElementsApart p q size) = AreOther k (p.first ∷ q.first ∷ size.slot ∷ [])
AreApart k (IsNoOverflow a b least minus_one) = AreOther k (a ∷ b ∷ least.slot ∷ minus_one.slot ∷ [])
AreApart k (Unless a c) = IsOther k a × AreApart k c
AreApart k (UnlessNull p c) = AreOther k (p.first ∷ p.second ∷ []) × AreApart k c
AreApart k (AreOfPartOr p q c) = AreOther k (p.second ∷ p.third ∷ q.second ∷ q.third ∷ []) × AreApart k c
AreApart k (AreOfAreaOr p q c) = AreOther k (p.second ∷ q.second ∷ []) × AreApart k c
AreApart k (Both c d) = AreApart k c × AreApart k d

abbrev pub IsHeld : (ℕ → ℕ) → Fixed → Type 0
IsHeld e n = e n.slot ≡ n.value

abbrev pub DistanceHeld : (ℕ → ℕ) → Distance → Type 0
DistanceHeld e (Bytes n) = Unit {0}
DistanceHeld e (Elements n size) = IsHeld e size

-- the slots of a condition's numbers hold them
abbrev pub AreHeld : (ℕ → ℕ) → Condition → Type 0
AreHeld e (IsInPart p size) = IsHeld e size
AreHeld e (IsInArea p size) = IsHeld e size
AreHeld e (IsArea a last) = IsHeld e last
AreHeld e (IsNear p direction d least span) = IsHeld e least × IsHeld e span × DistanceHeld e d
AreHeld e (IsSmall n least span) = IsHeld e least × IsHeld e span
AreHeld e (IsBelowBound n bound) = IsHeld e bound
AreHeld e (IsAtLeast n least) = IsHeld e least
AreHeld e (IsAligned a seven) = e seven ≡ 7
AreHeld e (HoldsPointer p eight) = (e eight ≡ 8) × (e p.first + 8 < 2 ^ 64)
AreHeld e (IsFunctionOf p signature) = IsHeld e signature
AreHeld e (AreElementsApart p q size) = IsHeld e size
AreHeld e (IsNoOverflow a b least minus_one) = IsHeld e least × IsHeld e minus_one
AreHeld e (Unless a c) = AreHeld e c
AreHeld e (UnlessNull p c) = AreHeld e c
AreHeld e (AreOfPartOr p q c) = AreHeld e c
AreHeld e (AreOfAreaOr p q c) = AreHeld e c
AreHeld e (Both c d) = AreHeld e c × AreHeld e d
AreHeld e c = Unit {0}

-- what a condition looks up in tagged areas is there, and what it divides can be divided: none of its lines traps
abbrev pub IsSafe : Memory → Condition → (ℕ → ℕ) → Type 0
IsSafe m (IsInArea p size) e = has_length m.bytes (e p.second) ≡ true
IsSafe m (IsByteInArea p) e = has_length m.bytes (e p.second) ≡ true
IsSafe m (IsWithinArea p) e = has_length m.bytes (e p.second) ≡ true
IsSafe m (HoldsNoPointer p bytes) e = allows_plain m.bytes (e p.first) (e p.second) bytes ≡ true
IsSafe m (HoldsPointer p eight) e = (allows_tagged m.bytes (e p.first) (e p.second) ≡ true) × (has_length m.bytes (sum_words (e p.first) 8) ≡ true)
IsSafe m (AreNoDeeper p bytes target) e = allows_depth m.bytes (e p.first) (e p.second) bytes ≡ true
IsSafe m (AreElementsApart p q size) e = can_divide_signed (difference_words (e p.first) (e q.first)) size.value ≡ true
IsSafe m (Unless a c) e = is_true_word (e a) ≡ true → IsSafe m c e
IsSafe m (UnlessNull p c) e = IsSafe m c e
IsSafe m (AreOfPartOr p q c) e = IsSafe m c e
IsSafe m (AreOfAreaOr p q c) e = IsSafe m c e
IsSafe m (Both c d) e = IsSafe m c e × IsSafe m d e
IsSafe m c e = Unit {0}

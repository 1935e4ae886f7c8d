-- What each check of cured code compares, as data, with its value on a state of the flat machine: on the words of its
-- slots (`e`), the memory, and the tables of the program. A SEQ pointer has three words: its address, and the start and the end
-- of its part. A WILD pointer has two: its address, and its area's.
use Rattle.std.specs.Prelude.{ℕ, Bool, false, not, ◌&&◌, ◌||◌, ◌%◌, length, nat_eq, nat_lt, nat_le, int_lt, bit_or}
use Rattle.flat_mem.specs.Bytes.{number}
use Rattle.flat_mem.specs.Memory.{Memory, frame_area, depth_of}
use Rattle.wild_tags.specs.Words.{length_at}
use Rattle.wild_tags.specs.Calls.{is_plain, is_tagged, greatest_depth}
use Rattle.integers.specs.Operators.{signed, sum_words, difference_words, product_words, remainder_signed}
use Rattle.cured_code.specs.declared.parts.Parts.{Parts}
use Rattle.cured_code.specs.Tables.{function_at, sig_word, has_room, is_below}
pub use Rattle.check_forms.specs.declared.slots.PointerSlots.{PointerSlots}
pub use Rattle.check_forms.specs.declared.slots.Fixed.{Fixed}
pub use Rattle.check_forms.specs.declared.slots.Distance.{Distance}
pub use Rattle.check_forms.specs.declared.slots.Distance.TheVariants.{Bytes, Elements}
pub use Rattle.check_forms.specs.declared.slots.Direction.{Direction}
pub use Rattle.check_forms.specs.declared.slots.Direction.TheVariants.{Forward, Backward}

pub data Condition : Type 0 where
  -- it never holds
  Never : Condition
  -- a word isn't 0
  IsNotZero : (a : ℕ) → Condition
  -- SEQ: so many bytes from the address on, or one, lie in the part; the address is in the part or at its end
  IsInPart : (p : PointerSlots) (size : Fixed) → Condition
  IsByteInPart : (p : PointerSlots) → Condition
  IsWithinPart : (p : PointerSlots) → Condition
  -- WILD: so many bytes from the address on, or one, lie in the area; the address is in the area or at its end
  IsInArea : (p : PointerSlots) (size : Fixed) → Condition
  IsByteInArea : (p : PointerSlots) → Condition
  IsWithinArea : (p : PointerSlots) → Condition
  -- WILD: the second word lies above the addresses of all functions, so it is an area's
  IsArea : (a : ℕ) (last : Fixed) → Condition
  -- moved so far, the address lies at least -least and less than span - least behind the second word
  IsNear : (p : PointerSlots) (direction : Direction) (d : Distance) (least span : Fixed) → Condition
  -- an integer of 64 bits is at least -least and less than span - least; an unsigned one is below a bound
  IsSmall : (n : ℕ) (least span : Fixed) → Condition
  IsBelowBound : (n : ℕ) (bound : Fixed) → Condition
  -- a word is at least a number
  IsAtLeast : (n : ℕ) (least : Fixed) → Condition
  -- an address is a multiple of 8; `seven` holds 7
  IsAligned : (a seven : ℕ) → Condition
  -- WILD: none of the words that so many bytes touch holds a pointer
  HoldsNoPointer : (p : PointerSlots) (bytes : ℕ) → Condition
  -- WILD: the word holds a pointer, or is zero; `eight` holds 8
  HoldsPointer : (p : PointerSlots) (eight : ℕ) → Condition
  -- the object of one home word lives at least as long as that of another; the same of each pointer that so many bytes hold
  IsNoDeeper : (home target : ℕ) → Condition
  AreNoDeeper : (p : PointerSlots) (bytes target : ℕ) → Condition
  -- the object is none of this call's own
  IsNotOwn : (home : ℕ) → Condition
  -- RTTI: the node that it was made for is this one or below it
  IsMadeFor : (a node : ℕ) → Condition
  -- WILD: it is a function of this signature; the number is one more than the signature's
  IsFunctionOf : (p : PointerSlots) (signature : Fixed) → Condition
  -- the function at this address can be entered
  HasRoom : (a : ℕ) → Condition
  -- two pointers are of one part, or of one area
  AreOfPart : (p q : PointerSlots) → Condition
  AreOfArea : (p q : PointerSlots) → Condition
  -- two pointers lie a whole number of elements apart
  AreElementsApart : (p q : PointerSlots) (size : Fixed) → Condition
  -- a signed quotient doesn't overflow: it isn't the least integer by -1
  IsNoOverflow : (a b : ℕ) (least minus_one : Fixed) → Condition
  -- a word is 0, or the condition holds; a pointer is null, or it holds
  Unless : (a : ℕ) (c : Condition) → Condition
  UnlessNull : (p : PointerSlots) (c : Condition) → Condition
  -- two pointers are of one part, or of one area, or the condition holds
  AreOfPartOr : (p q : PointerSlots) (c : Condition) → Condition
  AreOfAreaOr : (p q : PointerSlots) (c : Condition) → Condition
  -- both hold
  Both : (c d : Condition) → Condition

-- SEQ: so many bytes at `a` lie between `low` and `high`; the addresses are near enough to one another that their distances are read
-- as signed
abbrev pub is_in_part : ℕ → ℕ → ℕ → ℕ → Bool
is_in_part size a low high = not (int_lt (signed a) (signed low)) && not (int_lt (signed (difference_words high a)) (signed size))

-- the address is in the part or at its end
abbrev pub is_within_part : ℕ → ℕ → ℕ → Bool
is_within_part a low high = not (int_lt (signed a) (signed low)) && not (int_lt (signed high) (signed a))

-- WILD: so many bytes at the distance d lie in an area of this length
abbrev pub is_in_area : ℕ → ℕ → ℕ → Bool
is_in_area size length d = not (nat_lt length (difference_words length d)) && not (nat_lt (difference_words length d) size)

abbrev pub distance_of : Distance → (ℕ → ℕ) → ℕ
distance_of (Bytes n) e = e n
distance_of (Elements n size) e = product_words (e n) size.value

-- the address that is moved to
abbrev pub moved : Direction → ℕ → ℕ → ℕ
moved Forward a d = sum_words a d
moved Backward a d = difference_words a d

-- as a signed number, n is at least -least and less than span - least
abbrev pub is_near : ℕ → ℕ → ℕ → Bool
is_near n least span = nat_lt (sum_words n least) span

-- the value of a condition
abbrev pub flat_holds : Parts → Memory → Condition → (ℕ → ℕ) → Bool
flat_holds parts m Never e = false
flat_holds parts m (IsNotZero a) e = not (nat_eq (e a) 0)
flat_holds parts m (IsInPart p size) e = is_in_part size.value (e p.first) (e p.second) (e p.third)
flat_holds parts m (IsByteInPart p) e = nat_lt (difference_words (e p.first) (e p.second)) (difference_words (e p.third) (e p.second))
flat_holds parts m (IsWithinPart p) e = is_within_part (e p.first) (e p.second) (e p.third)
flat_holds parts m (IsInArea p size) e = is_in_area size.value (length_at m.bytes (e p.second)) (difference_words (e p.first) (e p.second))
flat_holds parts m (IsByteInArea p) e = nat_lt (difference_words (e p.first) (e p.second)) (length_at m.bytes (e p.second))
flat_holds parts m (IsWithinArea p) e = not (nat_lt (length_at m.bytes (e p.second)) (difference_words (e p.first) (e p.second)))
flat_holds parts m (IsArea a last) e = nat_lt last.value (e a)
flat_holds parts m (IsNear p direction d least span) e =
    is_near (difference_words (moved direction (e p.first) (distance_of d e)) (e p.second)) least.value span.value
flat_holds parts m (IsSmall n least span) e = is_near (e n) least.value span.value
flat_holds parts m (IsBelowBound n bound) e = nat_lt (e n) bound.value
flat_holds parts m (IsAtLeast n least) e = not (nat_lt (e n) least.value)
flat_holds parts m (IsAligned a seven) e = nat_eq (e a % 8) 0
flat_holds parts m (HoldsNoPointer p bytes) e = is_plain m.bytes (e p.first) (e p.second) bytes
flat_holds parts m (HoldsPointer p eight) e = is_tagged m.bytes (e p.first) (e p.second) || nat_eq (number 8 m.bytes (e p.first)) 0
flat_holds parts m (IsNoDeeper home target) e = nat_le (depth_of m (e home)) (depth_of m (e target))
flat_holds parts m (AreNoDeeper p bytes target) e = nat_le (greatest_depth m (e p.first) (e p.second) bytes) (depth_of m (e target))
flat_holds parts m (IsNotOwn home) e = nat_eq (depth_of m (e home)) 0 || not (nat_eq (depth_of m (frame_area m 0)) (depth_of m (e home)))
flat_holds parts m (IsMadeFor a node) e = is_below parts.nodes (e a) node
flat_holds parts m (IsFunctionOf p signature) e =
    nat_eq (e p.first) (e p.second) && nat_eq (sig_word parts (function_at (length parts.functions) (e p.first))) signature.value
flat_holds parts m (HasRoom a) e = has_room parts (function_at (length parts.functions) (e a)) m
flat_holds parts m (AreOfPart p q) e = nat_eq (e p.second) (e q.second) && nat_eq (e p.third) (e q.third)
flat_holds parts m (AreOfArea p q) e = nat_eq (e p.second) (e q.second)
flat_holds parts m (AreElementsApart p q size) e = nat_eq (remainder_signed (difference_words (e p.first) (e q.first)) size.value) 0
flat_holds parts m (IsNoOverflow a b least minus_one) e = not (nat_eq (e b) minus_one.value && nat_eq (e a) least.value)
flat_holds parts m (Unless a c) e = nat_eq (e a) 0 || flat_holds parts m c e
flat_holds parts m (UnlessNull p c) e = nat_eq (bit_or (e p.first) (e p.second)) 0 || flat_holds parts m c e
flat_holds parts m (AreOfPartOr p q c) e = (nat_eq (e p.second) (e q.second) && nat_eq (e p.third) (e q.third)) || flat_holds parts m c e
flat_holds parts m (AreOfAreaOr p q c) e = nat_eq (e p.second) (e q.second) || flat_holds parts m c e
flat_holds parts m (Both c d) e = flat_holds parts m c e && flat_holds parts m d e

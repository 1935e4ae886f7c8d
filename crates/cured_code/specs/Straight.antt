-- Straight code: lines that set a slot each from other slots and touch nothing else. Its meaning is read as a function of the
-- slots, so that what a row of such lines computes follows without the states between them.
use Rattle.std.specs.Prelude.{◌≡◌, ℕ, ◌<◌, Bool, true, List, [], ◌∷◌, ◌++◌, length, bit_and, bit_or, bit_xor, nat_eq, if◌then◌else◌}
use Rattle.flat_mem.specs.Memory.{Memory, frame_area, depth_of}
use Rattle.wild_tags.specs.Words.{length_at}
use Rattle.wild_tags.specs.Calls.{is_plain, is_tagged, base_of, greatest_depth}
use Rattle.wild_tags.specs.Inside.{has_length, allows_plain, allows_tagged, allows_base, allows_depth}
use Rattle.integers.specs.Words.{truth_word, equal_words, different_words}
use Rattle.integers.specs.Operators.{sum_words, difference_words, product_words, shifted_left, shifted_right, shifted_signed, quotient_words, quotient_signed, remainder_words, remainder_signed, can_divide_signed, less_words, less_signed}
use Rattle.cured_code.specs.declared.instr.Instr.{Instr}
use Rattle.cured_code.specs.declared.instr.Instr.TheVariants as instr
use Rattle.cured_code.specs.declared.instr.Narrow.{Narrow}
use Rattle.cured_code.specs.declared.parts.Parts.{Parts}
use Rattle.cured_code.specs.Tables.{function_at, sig_word, has_room, is_below}
use Rattle.cured_code.specs.FlatState.{Local, slot}
use Rattle.cured_code.specs.FlatMachine.{Context, narrowed, is_not_zero, run}

-- an operator on two words
pub data Operator : Type 0 where
  Sum Difference Product And Or ExclusiveOr : Operator
  ShiftLeft ShiftRight ShiftSigned : Operator
  Quotient QuotientSigned Remainder RemainderSigned : Operator
  Equal Different Less LessSigned : Operator

-- what a line puts into its slot
pub data Value : Type 0 where
  -- a number; a slot; a part of a slot; an operator's result on two slots
  Number : (n : ℕ) → Value
  Same : (a : ℕ) → Value
  Part : (a : ℕ) (form : Narrow) → Value
  Result : (operator : Operator) (a b : ℕ) → Value
  -- what is looked up: the address of an area of the frame, an address's depth, whether a node is below another, the
  -- signature of a function, whether its frame fits
  AreaOf : (k : ℕ) → Value
  DepthOf : (a : ℕ) → Value
  IsBelow : (a n : ℕ) → Value
  SigOf : (a : ℕ) → Value
  HasRoom : (a : ℕ) → Value
  -- what is asked of the tagged area at b
  LengthOf : (b : ℕ) → Value
  IsPlain : (a b n : ℕ) → Value
  IsTagged : (a b : ℕ) → Value
  BaseOf : (a b : ℕ) → Value
  GreatestDepth : (a b n : ℕ) → Value

-- a line: the slot that it sets, and what it puts there
pub data Line : Type 0 where
  Sets : (v : ℕ) (x : Value) → Line

-- The lines as instructions

abbrev pub operation : Operator → ℕ → ℕ → ℕ → Instr
operation Sum v a b = instr.Add v a b
operation Difference v a b = instr.Sub v a b
operation Product v a b = instr.Mul v a b
operation And v a b = instr.And v a b
operation Or v a b = instr.Or v a b
operation ExclusiveOr v a b = instr.Xor v a b
operation ShiftLeft v a b = instr.Shl v a b
operation ShiftRight v a b = instr.Shr v a b
operation ShiftSigned v a b = instr.Sar v a b
operation Quotient v a b = instr.Divu v a b
operation QuotientSigned v a b = instr.Divs v a b
operation Remainder v a b = instr.Remu v a b
operation RemainderSigned v a b = instr.Rems v a b
operation Equal v a b = instr.Eq v a b
operation Different v a b = instr.Ne v a b
operation Less v a b = instr.Ltu v a b
operation LessSigned v a b = instr.Lts v a b

abbrev pub setting : ℕ → Value → Instr
setting v (Number n) = instr.Const v n
setting v (Same a) = instr.Copy v a
setting v (Part a form) = instr.Ext v a form
setting v (Result operator a b) = operation operator v a b
setting v (AreaOf k) = instr.Frame v k
setting v (DepthOf a) = instr.Depth v a
setting v (IsBelow a n) = instr.Below v a n
setting v (SigOf a) = instr.Sigof v a
setting v (HasRoom a) = instr.Room v a
setting v (LengthOf b) = instr.Len v b
setting v (IsPlain a b n) = instr.Plain v a b n
setting v (IsTagged a b) = instr.Tagged v a b
setting v (BaseOf a b) = instr.Base v a b
setting v (GreatestDepth a b n) = instr.Tdepth v a b n

abbrev pub instr_of : Line → Instr
instr_of (Sets v x) = setting v x

abbrev pub instrs : List Line → List Instr
instrs [] = []
instrs (line ∷ lines) = instr_of line ∷ instrs lines

-- What they put into their slots. `e` gives each slot's word; the parts and the memory stay as they are.

abbrev pub operated : Operator → ℕ → ℕ → ℕ
operated Sum = sum_words
operated Difference = difference_words
operated Product = product_words
operated And = bit_and
operated Or = bit_or
operated ExclusiveOr = bit_xor
operated ShiftLeft = shifted_left
operated ShiftRight = shifted_right
operated ShiftSigned = shifted_signed
operated Quotient = quotient_words
operated QuotientSigned = quotient_signed
operated Remainder = remainder_words
operated RemainderSigned = remainder_signed
operated Equal = equal_words
operated Different = different_words
operated Less = less_words
operated LessSigned = less_signed

abbrev pub value_of : Parts → Memory → Value → (ℕ → ℕ) → ℕ
value_of parts m (Number n) e = n
value_of parts m (Same a) e = e a
value_of parts m (Part a form) e = narrowed form (e a)
value_of parts m (Result operator a b) e = operated operator (e a) (e b)
value_of parts m (AreaOf k) e = frame_area m k
value_of parts m (DepthOf a) e = depth_of m (e a)
value_of parts m (IsBelow a n) e = truth_word (is_below parts.nodes (e a) n)
value_of parts m (SigOf a) e = sig_word parts (function_at (length parts.functions) (e a))
value_of parts m (HasRoom a) e = truth_word (has_room parts (function_at (length parts.functions) (e a)) m)
value_of parts m (LengthOf b) e = length_at m.bytes (e b)
value_of parts m (IsPlain a b n) e = truth_word (is_plain m.bytes (e a) (e b) n)
value_of parts m (IsTagged a b) e = truth_word (is_tagged m.bytes (e a) (e b))
value_of parts m (BaseOf a b) e = base_of m.bytes (e a) (e b)
value_of parts m (GreatestDepth a b n) e = greatest_depth m (e a) (e b) n

-- whether a line goes on; where it doesn't, it traps

abbrev pub operates : Operator → ℕ → ℕ → Bool
operates Quotient a b = is_not_zero a b
operates QuotientSigned a b = can_divide_signed a b
operates Remainder a b = is_not_zero a b
operates RemainderSigned a b = can_divide_signed a b
operates operator a b = true

abbrev pub has_value : Memory → Value → (ℕ → ℕ) → Bool
has_value m (Result operator a b) e = operates operator (e a) (e b)
has_value m (LengthOf b) e = has_length m.bytes (e b)
has_value m (IsPlain a b n) e = allows_plain m.bytes (e a) (e b) n
has_value m (IsTagged a b) e = allows_tagged m.bytes (e a) (e b)
has_value m (BaseOf a b) e = allows_base m.bytes (e a) (e b)
has_value m (GreatestDepth a b n) e = allows_depth m.bytes (e a) (e b) n
has_value m x e = true

-- Lines in order

-- the slots with slot v changed
abbrev pub with_value : ℕ → ℕ → (ℕ → ℕ) → ℕ → ℕ
with_value v n e a = if nat_eq a v then n else e a

abbrev pub after_line : Parts → Memory → Line → (ℕ → ℕ) → ℕ → ℕ
after_line parts m (Sets v x) e = with_value v (value_of parts m x e) e

-- the slots behind the lines
abbrev pub behind : Parts → Memory → List Line → (ℕ → ℕ) → ℕ → ℕ
behind parts m [] e = e
behind parts m (line ∷ lines) e = behind parts m lines (after_line parts m line e)

-- no line traps, and each sets one of so many slots
abbrev pub CanSet : ℕ → Memory → Line → (ℕ → ℕ) → Type 0
CanSet count m (Sets v x) e = (v < count) × (has_value m x e ≡ true)

abbrev pub CanRun : ℕ → Parts → Memory → List Line → (ℕ → ℕ) → Type 0
CanRun count parts m [] e = Unit {0}
CanRun count parts m (line ∷ lines) e = CanSet count m line e × CanRun count parts m lines (after_line parts m line e)

-- what running the lines leaves: what follows runs with these slots, and nothing else has changed
pub record IsBehind (lines : List Line) (w : Context) (c : Local) : Type 0 where
  pub after : Local
  pub runs : (rest : List Instr) → run (instrs lines ++ rest) w c ≡ run rest w after
  pub state : after.state ≡ c.state
  pub slots : (a : ℕ) → slot after a ≡ behind w.parts c.state.memory lines (slot c) a
  pub count : length after.slots ≡ length c.slots

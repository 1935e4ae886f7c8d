-- The slots of a cured function: whose each slot is. All parts are apart, since each slot has one owner.
use Rattle.std.specs.Prelude.{◌≡◌, ◌≢◌, ℕ, ◌+◌, ◌<◌, ◌≤◌, List, slice_get, Some}
use Rattle.cil_form.specs.declared.number.Temp.{Temp}
use Rattle.cil_form.specs.Typing.{IsTemp}
use Rattle.sim_relation.specs.Points.{KeptSlot}
use Rattle.check_forms.specs.declared.slots.Work.{Work}

-- What a working slot is for. Each has one use, so that what an instruction works with is apart.
pub data Role : Type 0 where
  -- what checks work in, and the address that a pointer moves to
  First Second Third Moved : Role
  -- the numbers that checks compare with
  Size Least Span LeastFactor SpanFactor Seven Eight Last Signature : Role
  -- what an instruction adds, and keeps the low bits by
  Offset Mask : Role
  -- the address and the base of an object that is named
  Address Base : Role
  -- the words of a pointer on its way
  Word OtherWord ThirdWord : Role
  -- a new block: its elements and bytes as asked for, in cured bytes, as charged, and its address
  Amount Bytes Charge Made : Role

abbrev pub role_number : Role → ℕ
role_number First = 0
role_number Second = 1
role_number Third = 2
role_number Moved = 3
role_number Size = 4
role_number Least = 5
role_number Span = 6
role_number LeastFactor = 7
role_number SpanFactor = 8
role_number Seven = 9
role_number Eight = 10
role_number Last = 11
role_number Signature = 12
role_number Offset = 13
role_number Mask = 14
role_number Address = 15
role_number Base = 16
role_number Word = 17
role_number OtherWord = 18
role_number ThirdWord = 19
role_number Amount = 20
role_number Bytes = 21
role_number Charge = 22
role_number Made = 23

abbrev pub role_count : ℕ
role_count = 24

pub record Slots : Type 0 where
  -- how many there are
  pub count : ℕ
  -- in the first so many the parameters come
  pub parameters : ℕ
  -- where each temporary's column begins, and how many slots it has
  pub column : Temp → ℕ
  pub width : Temp → ℕ
  -- where the working slots begin, one for each role
  pub work : ℕ
  -- where the row of a call's arguments begins, and how many slots it has
  pub row : ℕ
  pub row_width : ℕ
  -- a slot that is never written
  pub nought : ℕ
  -- slots that hold one thing for the whole body
  pub kept : List KeptSlot

-- the working slot of a role
abbrev pub slot_of : Slots → Role → ℕ
slot_of s r = s.work + role_number r

-- the working slots of checks
abbrev pub work_of : Slots → Work
work_of s = record { x = slot_of s First; y = slot_of s Second; z = slot_of s Third; to = slot_of s Moved; none = s.nought }

pub data Owner : Type 0 where
  -- so many slots from the start of a temporary's column
  Column : Temp → ℕ → Owner
  -- by the number of the role
  Working : ℕ → Owner
  Argument : ℕ → Owner
  Nought : Owner
  -- by the number in the list of kept slots
  Kept : ℕ → Owner

-- the slot is there and has this owner
pub record Owns (count : ℕ) (owner : ℕ → Owner) (a : ℕ) (o : Owner) : Type 0 where
  pub below : a < count
  pub is : owner a ≡ o

-- The slots of a function. Where parameters come, none lies that the prologue writes before they are stored. Where a column begins, and a
-- kept slot, is room for the words of any value.
pub record AreSlots (k : Slots) : Type 0 where
  pub owner : ℕ → Owner
  pub columns : (t : Temp) (j : ℕ) → IsTemp t → j < k.width t → Owns k.count owner (k.column t + j) (Column t j)
  pub works : (j : ℕ) → j < role_count → Owns k.count owner (k.work + j) (Working j)
  pub row : (j : ℕ) → j < k.row_width → Owns k.count owner (k.row + j) (Argument j)
  pub nought : Owns k.count owner k.nought Nought
  pub kept : (j : ℕ) (x : KeptSlot) → slice_get k.kept j ≡ Some x → Owns k.count owner x.slot (Kept j)
  pub column_room : (t : Temp) → IsTemp t → k.column t + 3 ≤ k.count
  pub kept_room : (j : ℕ) (x : KeptSlot) → slice_get k.kept j ≡ Some x → x.slot + 3 ≤ k.count
  pub behind : (a : ℕ) → a < k.parameters → (owner a ≢ Nought) × ((j : ℕ) → owner a ≢ Kept j) × ((j : ℕ) → owner a ≢ Working j)

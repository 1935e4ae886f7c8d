-- The words of typing that ready units are said with: what an operator, a call, an initialiser or a statement asks of trees and types (C99 6.5 to 6.8).
-- None of them speaks of scopes or of a point of the text. What stands above takes them from here, and no rule of typing itself.
pub use Rattle.c_typing.specs.Conversions.{IsPlain, IsOperand, bare}
pub use Rattle.c_typing.specs.Rules.{IsStringType}
pub use Rattle.c_typing.specs.Rules.{IsLvalue, IsInteger, IsPointer, IsCondition, IsDroppable, other_side, pointer_behind, is_designator}
pub use Rattle.c_typing.specs.Rules.{IsDecay, IsAddress, IsElementAddress, IsFunctionAt, IsPrefix, IsPromoted, IsArithmetic, IsLogical, IsIntegerUpdate}
pub use Rattle.c_typing.specs.Rules.{Meeting, RightIsNull, LeftIsNull, BothPoint, NeverMeet, meeting_of, meeting, null_of}
pub use Rattle.c_typing.specs.Rules.{IsCompared, AreCompared, AreOrdered, AreEquated, IsChoice, IsPointerChoice}
pub use Rattle.c_typing.specs.Rules.{IsArgument, IsCall, IsFreed, IsRuntimeArgument, IsRuntimeCallOf, IsRuntimeCall, IsAllocation, IsAllocationFor}
pub use Rattle.c_typing.specs.Rules.{listed_arguments, gives_pointer, is_move, is_compound}
pub use Rattle.c_unit_typing.specs.Initialisers.{IsSlot, Slot, slot_of_shape, items_count, is_only_text, is_char_array}
pub use Rattle.c_unit_typing.specs.Units.{Around, in_a_loop, in_a_switch, IsSwitched}

-- Parts that the code looks at, and the shapes of their values, as plain data.
use Rattle.std.specs.Prelude.{option_copied}
use Rattle.c_types.specs.declared.shape.TypeShape.{TypeShape}
use Rattle.c_typing.specs.KindViews.{shape_or_void}
use Rattle.c_typing.specs.Rules as rules
use Rattle.c_check_operators.specs.declared.meeting.Meeting.{Meeting}
use Rattle.c_check_operators.specs.declared.meeting.Meeting.TheVariants as meeting
use Rattle.c_check_operators.specs.declared.value_shape.ValueShape.{ValueShape}
use Rattle.c_check_operators.specs.declared.value_shape.ValueShape.TheVariants.{Pointer, Same}

abbrev pub value_shape_view : ValueShape → TypeShape
value_shape_view (Pointer shape) = shape
value_shape_view (Same shape) = shape_or_void (option_copied shape)

abbrev pub meeting_view : Meeting → rules.Meeting
meeting_view (meeting.RightIsNull t) = rules.RightIsNull t
meeting_view (meeting.LeftIsNull t) = rules.LeftIsNull t
meeting_view (meeting.BothPoint t) = rules.BothPoint t
meeting_view meeting.NeverMeet = rules.NeverMeet

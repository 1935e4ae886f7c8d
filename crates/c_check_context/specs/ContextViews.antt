-- What is known where a part of a unit is judged, as plain data.
use Rattle.c_check_context.specs.declared.context.Context.{Context}
use Rattle.c_check_context.specs.declared.linkage.Linkage.{Linkage as CodeLinkage}
use Rattle.c_unit_typing.specs.Linkage.{Linkage}
use Rattle.c_unit_typing.specs.UnitJudging.{UnitState}

abbrev pub linkage_view : CodeLinkage → Linkage
linkage_view l = record { linked = l.linked; defined = l.defined; statics = l.statics }

abbrev pub state_of : Context → UnitState
state_of c = record { table = c.types; seen = c.scope; linkage = linkage_view c.linkage }

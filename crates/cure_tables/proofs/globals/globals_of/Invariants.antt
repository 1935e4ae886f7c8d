use Rattle.std.proofs.Common.{take}
use Rattle.cc_base.specs.Kinds.{kind_at}
use Rattle.cure_rules.specs.Programs.{AreGlobals}
use Rattle.cure_tables.proofs.globals.globals_of.Given as goal

abbrev pub invariant-statics : goal.invariant-statics
invariant-statics l = AreGlobals l.layouts.table (kind_at l.kinds) (take l.object-index l.statics) l.all.items

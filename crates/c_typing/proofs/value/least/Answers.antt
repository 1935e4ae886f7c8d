use Rattle.std.proofs.Common.{arith}
use Rattle.c_typing.specs.KindViews.{kind_view}
use Rattle.c_typing.proofs.ValueLaws.{least_of}
use Rattle.c_typing.proofs.value.least.Goals as goal

pub returns-in-1 : goal.returns-in-1
returns-in-1 c = least_of (kind_view c.args.kind) 1 c.in-1.is

pub returns-in-2 : goal.returns-in-2
returns-in-2 c = least_of (kind_view c.args.kind) 2 c.in-2.is

pub returns-in-4 : goal.returns-in-4
returns-in-4 c = least_of (kind_view c.args.kind) 4 c.in-4.is

pub returns-in_default : goal.returns-in_default
returns-in_default c = least_of (kind_view c.args.kind) 8 (omega arith)

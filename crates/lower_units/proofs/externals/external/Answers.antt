use Rattle.std.proofs.Common.{[]}
use Rattle.std.proofs.lemmas.List.Elements.{All-head}
use Rattle.lower_units.specs.Heads.{function_seen}
use Rattle.lower_units.specs.Ready.{HasCodeOfFunction}
use Rattle.lower_units.proofs.externals.external.Goals as goal

pub add-requires : goal.add-requires
add-requires c = All-head (HasCodeOfFunction c.args.k.now.types.now c.args.k.now.statics.now.keys) (function_seen c.in-Function.f) []
    (rw c.in-Function.is at c.requires)

pub returns-in-Function : goal.returns-in-Function
returns-in-Function c = λ all. rw c.in-Function.is (c.add.ensures all)

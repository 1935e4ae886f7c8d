use Rattle.std.proofs.Common.{◌≡◌, map, take}
use Rattle.cil_form.specs.Machine.{plan}
use Rattle.cure_code.proofs.lists.planned.Given as goal

abbrev pub invariant-statics : goal.invariant-statics
invariant-statics l = map plan l.all.items ≡ map (λ o. plan o.planned) (take l.one-index l.statics)

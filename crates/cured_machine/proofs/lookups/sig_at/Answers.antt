use Rattle.std.proofs.Common.{◌∙◌, sym, refl}
use Rattle.cured_machine.proofs.LookupLaws.{sig-found}
use Rattle.cured_machine.proofs.lookups.sig_at.Goals as goal

pub returns-in-Some-get : goal.returns-in-Some-get
returns-in-Some-get c =
    sig-found c.args.functions.now c.args.address c.in-Some.number _ _ c.in-Some-get.function.now (sym c.function_number.ensures ∙ c.in-Some.is) c.in-Some-get.ensures.lookup.1
    (c.from.ensures ∙ c.sig_of.ensures) refl

use Rattle.std.proofs.Common.{◌<◌, length, arith}
use Rattle.std.proofs.lemmas.Result.{IfErr-weaker}
use Rattle.cured_reading.proofs.WordLaws.{no-field}
use Rattle.cured_reading.proofs.lines.Fields.field.Goals as goal

pub returns-clause-none : goal.returns-clause-none
returns-clause-none c =
    let lt : c.self.inside.at < length c.self.inside.line.now = omega (arith, c.self.invariant, c.if-self.false) in
    IfErr-weaker c.name.result _ _
    (λ why h. (h.0, no-field c.self.inside.line.now c.args.self.now c.self.inside.at lt c.if-self-ne32.false c.self.view_is h.1)) c.name.ensures.none

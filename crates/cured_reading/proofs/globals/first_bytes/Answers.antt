use Rattle.std.proofs.Common.{arith, rules, refl, ◌≡◌, ◌∙◌, [], ap, sym}
use Rattle.std.specs.Prelude.{codes, flat_map}
use Rattle.std.proofs.lemmas.Grind.{common_steps}
use Rattle.cured_spelling.specs.Lines.{hex_byte}
use Rattle.cured_reading.proofs.ExitLaws.{exit-passes}
use Rattle.cured_reading.proofs.PairLaws.{no-pairs, hex-some}
use Rattle.cured_reading.proofs.WordLaws.{different}
use Rattle.cured_reading.proofs.globals.first_bytes.Goals as goal

pub returns-in_err-bytes-clause-none : goal.returns-in_err-bytes-clause-none
returns-in_err-bytes-clause-none c =
    let dash : c.as_slice.result.now ≡ codes "-" = first_of (search rules, grind (arith, common_steps)) in
    exit-passes c.from_residual.result _ _ c.from_residual.ensures.1
    (λ others.
    let bad = c.in_err-bytes.ensures.none others in
    (bad.0, no-pairs _ (λ e. different c.args.field.now c.as_slice.result.now c.if-eq.ensures (sym e ∙ sym dash)) bad.1))

pub returns-then-is_empty-clause-none : goal.returns-then-is_empty-clause-none
returns-then-is_empty-clause-none c =
    λ other.
    let empty : c.in_ok-bytes.bytes.items ≡ [] = first_of (search rules, grind (arith, common_steps)) in
    (refl, λ bytes k e. hex-some c.args.field.now bytes (sym c.in_ok-bytes.ensures.found ∙ ap (flat_map hex_byte) empty) e)

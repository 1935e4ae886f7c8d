use Rattle.std.proofs.Common.{sym, ◌∙◌, ap}
use Rattle.flat_mem.specs.Tags.{with_bit}
use Rattle.flat_mem.proofs.TagLaws.{set_bit, clear_bit}
use Rattle.flat_mem.proofs.tags.with_bit.Goals as goal

pub returns-then-bit : goal.returns-then-bit
returns-then-bit c = set_bit _ _ c.requires ∙ ap (λ t. with_bit t c.args.k c.args.byte) (sym c.if-bit.true)

pub returns-else-bit : goal.returns-else-bit
returns-else-bit c = clear_bit _ _ c.requires c.ranges.byte.fits ∙ ap (λ t. with_bit t c.args.k c.args.byte) (sym c.if-bit.false)

use Rattle.cured_machine.proofs.SignedWords.{quotient-cast}
use Rattle.cured_machine.proofs.tests_and_divisions.divide_signed.Goals as goal

pub returns : goal.returns
returns c = quotient-cast c.args.a c.args.b c.cast_unsigned.result c.cast_signed.result c.cast_signed-2.result c.ranges.a.fits c.ranges.b.fits c.cast_signed.ensures c.cast_signed-2.ensures c.cast_unsigned.ensures

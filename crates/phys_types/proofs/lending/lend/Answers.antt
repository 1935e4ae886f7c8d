use Rattle.std.proofs.Common.{arith}
use Rattle.phys_types.proofs.Kept.{kept_once, kept_made}
use Rattle.phys_types.proofs.lending.lend.Goals as goal

pub returns-then-kept-eq1 : goal.returns-then-kept-eq1
returns-then-kept-eq1 c table E t h = kept_once table E t c.args.kept.now (omega arith) h

pub times-requires-clause-low : goal.times-requires-clause-low
times-requires-clause-low c = c.requires.0

pub times-requires-clause-small : goal.times-requires-clause-small
times-requires-clause-small c = c.requires.1

pub returns : goal.returns
returns c table E t h = kept_made table E t c.args.kept.now c.in_ok-whole.whole h c.in_ok-whole.ensures

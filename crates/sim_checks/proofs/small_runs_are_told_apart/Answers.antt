use Rattle.sim_checks.proofs.Small.{other-byte, short-area, no-charge, output-more, unrelated, runs-alike, other-status, faithful, short-range, call-more, memory, other-memory, are-words, too-great, pointer-stands, other-end, not-within}
use Rattle.sim_checks.proofs.small_runs_are_told_apart.Goals as goal

pub returns-clause-byte : goal.returns-clause-byte
returns-clause-byte c = other-byte

pub returns-clause-area : goal.returns-clause-area
returns-clause-area c = short-area

pub returns-clause-charge : goal.returns-clause-charge
returns-clause-charge c = no-charge

pub returns-clause-output : goal.returns-clause-output
returns-clause-output c = output-more

pub returns-clause-unrelated : goal.returns-clause-unrelated
returns-clause-unrelated c = unrelated

pub returns-clause-alike : goal.returns-clause-alike
returns-clause-alike c = runs-alike

pub returns-clause-status : goal.returns-clause-status
returns-clause-status c = other-status

pub returns-clause-faithful : goal.returns-clause-faithful
returns-clause-faithful c = faithful

pub returns-clause-range : goal.returns-clause-range
returns-clause-range c = short-range

pub returns-clause-call : goal.returns-clause-call
returns-clause-call c = call-more

pub returns-clause-memory : goal.returns-clause-memory
returns-clause-memory c = memory

pub returns-clause-other_memory : goal.returns-clause-other_memory
returns-clause-other_memory c = other-memory

pub returns-clause-are_words : goal.returns-clause-are_words
returns-clause-are_words c = are-words

pub returns-clause-no_word : goal.returns-clause-no_word
returns-clause-no_word c = too-great

pub returns-clause-stands : goal.returns-clause-stands
returns-clause-stands c = pointer-stands

pub returns-clause-end : goal.returns-clause-end
returns-clause-end c = other-end

pub returns-clause-sure : goal.returns-clause-sure
returns-clause-sure c = not-within

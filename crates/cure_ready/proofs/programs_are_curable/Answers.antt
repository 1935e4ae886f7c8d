use Rattle.cure_ready.proofs.Programs.{function-curable, initialisers-curable}
use Rattle.cure_ready.proofs.programs_are_curable.Goals as goal

pub returns-clause-functions : goal.returns-clause-functions
returns-clause-functions c p f w shape told solution there inside sizes number few =
    function-curable p f w shape told solution there inside sizes number few

pub returns-clause-initialisers : goal.returns-clause-initialisers
returns-clause-initialisers c p w shape told solution inside sizes few = initialisers-curable p w shape told solution inside sizes few

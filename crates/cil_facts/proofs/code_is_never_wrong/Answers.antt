use Rattle.cil_form.specs.Meaning.{run}
use Rattle.cil_facts.specs.Calling.{IsLeftWell}
use Rattle.cil_facts.proofs.Control.{Well, comes-more, run-well}
use Rattle.cil_facts.proofs.code_is_never_wrong.Goals as goal

pub returns : goal.returns
returns f is k a types after input c none solved calls keeps bytes reads shaped facts =
    comes-more input bytes (Well input bytes k a after c) (IsLeftWell k a after c) (run is a c)
    (run-well input bytes a keeps is k types after c none solved calls reads shaped facts) (λ x d h. h.0)

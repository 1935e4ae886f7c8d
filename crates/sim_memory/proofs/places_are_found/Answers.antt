use Rattle.sim_memory.proofs.Finding.{places-found}
use Rattle.sim_memory.proofs.places_are_found.Goals as goal

pub returns : goal.returns
returns f w number_of s c depth kind t p sound plain r held place = places-found w number_of s c depth kind t p sound plain r held place

use Rattle.sim_checks.proofs.Calling.{functions-compared, room-compared, frames-fit-alike, returns-compared}
use Rattle.sim_checks.proofs.calls_are_compared.Goals as goal

pub returns-clause-function : goal.returns-clause-function
returns-clause-function f w number_of s c parts depth t u q e p signature laid count some classes x =
    functions-compared w number_of s c parts depth t u e p signature laid count some classes q x

pub returns-clause-depth : goal.returns-clause-depth
returns-clause-depth g w s m parts depth f a d e found count is fit = room-compared w s m parts depth f a d e found count is fit

pub returns-clause-frames : goal.returns-clause-frames
returns-clause-frames f w number_of s c areas charge depth r deep limit end room = frames-fit-alike w number_of s c areas charge depth r deep limit end room

pub returns-clause-returning : goal.returns-clause-returning
returns-clause-returning f w number_of s c parts depth kind t q e p k o apart some found live deep area x =
    returns-compared w number_of s c parts depth apart kind t q e p k o some found live deep area x

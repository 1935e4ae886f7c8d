use Rattle.facts_kept.proofs.Arguments.{gives-called}
use Rattle.facts_kept.proofs.Frames.{gives-left}
use Rattle.facts_kept.proofs.Later.{held-later, later-twice, later-grown, later-same}
use Rattle.facts_kept.proofs.calls_keep_the_facts.Goals as goal

pub returns-clause-entry : goal.returns-clause-entry
returns-clause-entry c w sites depth f variables arguments s sound = gives-called w sound sites depth f variables arguments s

pub returns-clause-leaving : goal.returns-clause-leaving
returns-clause-leaving c w sites depth variables s sound = gives-left w sound sites depth variables s

pub returns-clause-caller : goal.returns-clause-caller
returns-clause-caller c w depth kind t p old new = held-later w depth old.objects new.objects kind t p

pub returns-clause-later : goal.returns-clause-later
returns-clause-later c = later-twice

pub returns-clause-stores : goal.returns-clause-stores
returns-clause-stores c w sites depth old new k = later-same depth old.objects new.objects k.outlines k.lives

pub returns-clause-blocks : goal.returns-clause-blocks
returns-clause-blocks c = later-grown

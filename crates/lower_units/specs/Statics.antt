-- Which static initialisers have code.
use Rattle.std.specs.Prelude.{List, [], ◌∷◌}
use Rattle.c_tree.specs.TypedParts.{StaticInitialiser}
use Rattle.lower_rules.specs.Words.{Context}
use Rattle.lower_initialisers.specs.Ready.{HasCodeOfObject}

abbrev pub HaveCodeOfStatics : List StaticInitialiser → Context → Type 0
HaveCodeOfStatics [] k = Unit {0}
HaveCodeOfStatics (i ∷ all) k = HasCodeOfObject i.home i.type i.initialiser k × HaveCodeOfStatics all k

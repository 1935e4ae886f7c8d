-- Homes as names.
use Rattle.std.specs.Prelude.{[], ◌∷◌}
use Rattle.cc_base.specs.declared.number.NodeId.{NodeId}
use Rattle.named_lists.specs.Entries.{Name}

abbrev pub home_name : NodeId → Name
home_name n = n.0 ∷ []

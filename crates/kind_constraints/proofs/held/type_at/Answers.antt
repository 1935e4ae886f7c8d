use Rattle.std.proofs.lemmas.Map.Made.{AllPairs-from_IsDistinct}
use Rattle.kind_constraints.proofs.Belows.{decided_id}
use Rattle.kind_constraints.proofs.held.type_at.Goals as goal

pub returns-clause-once : goal.returns-clause-once
returns-clause-once c = AllPairs-from_IsDistinct decided_id c.args.held.now.keys c.as_slice.ensures.unique

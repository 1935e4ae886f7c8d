use Rattle.flat_mem.proofs.AreaCode.{too_many-bytes}
use Rattle.flat_mem.proofs.areas.size_within.Goals as goal

pub returns-then-area-room : goal.returns-then-area-room
returns-then-area-room c = too_many-bytes _ _ c.if-area-room.true

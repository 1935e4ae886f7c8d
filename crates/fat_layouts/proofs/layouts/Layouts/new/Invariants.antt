use Rattle.fat_layouts.proofs.LayoutLaws.{AreSoFar}
use Rattle.fat_layouts.proofs.layouts.Layouts.new.Given as goal

abbrev pub invariant-types : goal.invariant-types
invariant-types l = AreSoFar l.types l.kinds l.layouts.items l.t

-- Places that are ready are of complete types.
use Rattle.std.proofs.Common.{Bool, true, false, ap}
use Rattle.c_types.specs.declared.shape.TypeShape.{TypeShape}
use Rattle.c_types.specs.Table.{members_at, is_complete_entry}
use Rattle.c_tree.specs.TypedTree as typed
use Rattle.c_tree.specs.TypedTree.{TypedPlace}
use Rattle.c_tree.specs.TypedParts.{place_type}
use Rattle.c_ready.specs.Ready.{Stage, IsWhole, IsObjectOf, IsReadyPlace}

pub place-whole : (k : Stage) (p : TypedPlace) → IsReadyPlace k p → IsWhole k (place_type p)
place-whole k (typed.Variable name h t) r = by k.runs r
  where
    by : (b : Bool) → IsObjectOf b k h t → IsWhole k t
    by true q = q.1
    by false q = q.1
place-whole k (typed.String pieces h t) r = (r.1.shape.0, ap (λ (x : TypeShape). is_complete_entry x (members_at k.table t)) r.1.shape.1)
place-whole k (typed.ParenPlace at p) r = place-whole k p r
place-whole k (typed.Target at e t) r = r.2
place-whole k (typed.Element which a at b t) r = r.4
place-whole k (typed.Member p at name i n t) r = r.1.part
place-whole k (typed.MemberAt e at name i n t) r = r.1.2.part
place-whole k (typed.StructAssign p at q) r = place-whole k p r.0
place-whole k (typed.StructConditional c at p q) r = place-whole k p r.1
place-whole k (typed.StructComma e p) r = place-whole k p r.1

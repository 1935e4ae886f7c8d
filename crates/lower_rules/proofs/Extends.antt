-- The code of a place that is no choice between structs may be made first, and what comes after appended to it.
use Rattle.std.proofs.Common.{ℕ, ◌≡◌, ap, ◌∙◌, List, ◌++◌, append_assoc}
use Rattle.cc_base.specs.declared.number.NodeId.{NodeId}
use Rattle.c_tree.specs.TypedTree as typed
use Rattle.c_tree.specs.TypedTree.{TypedPlace}
use Rattle.cil_form.specs.declared.instr.Instr.{Instr}
use Rattle.lower_rules.specs.Pieces.{Form, Then}
use Rattle.lower_rules.specs.Words.{Context}
use Rattle.lower_rules.specs.Expressions.{IsCodeOfPlace, IsFixed, node_in_place}

then-more : (P F G : Form) (code rest : List Instr) → ((c : List Instr) → F c → G (c ++ rest)) → Then P F code → Then P G (code ++ rest)
unfolding Then
then-more P F G code rest g d = (d.0, d.1 ++ rest, d.2, g d.1 d.3, ap (λ c. c ++ rest) d.4 ∙ append_assoc d.0 d.1 rest)

-- what comes after the node that the text gives may be made more
pub place-extend : (p : TypedPlace) (k : Context) (t : ℕ) (F G : NodeId → Form) (code rest : List Instr)
    → ((c : List Instr) → F (node_in_place k p) c → G (node_in_place k p) (c ++ rest)) → IsFixed p
    → IsCodeOfPlace p k t F code → IsCodeOfPlace p k t G (code ++ rest)
place-extend (typed.Variable name node ty) k t F G code rest g f h = then-more _ (F node) (G node) code rest g h
place-extend (typed.String pieces node ty) k t F G code rest g f h = then-more _ (F node) (G node) code rest g h
place-extend (typed.ParenPlace at p) k t F G code rest g f h = place-extend p k t F G code rest g f h
place-extend (typed.Target at e ty) k t F G code rest g f h = then-more _ (F _) (G _) code rest g h
place-extend (typed.Element which a at b ty) k t F G code rest g f h = then-more _ (F _) (G _) code rest g h
place-extend (typed.Member p at name i node ty) k t F G code rest g f h = then-more _ (F node) (G node) code rest g h
place-extend (typed.MemberAt e at name i node ty) k t F G code rest g f h = then-more _ (F node) (G node) code rest g h
place-extend (typed.StructAssign p at q) k t F G code rest g f h =
    place-extend p k t _ _ code rest (λ c d. then-more _ (F (node_in_place k p)) (G (node_in_place k p)) c rest g d) f h
place-extend (typed.StructConditional c at p q) k t F G code rest g f h = absurd f
place-extend (typed.StructComma e p) k t F G code rest g f h =
    then-more _ (IsCodeOfPlace p k t F) (IsCodeOfPlace p k t G) code rest (λ c d. place-extend p k t F G c rest g f d) h

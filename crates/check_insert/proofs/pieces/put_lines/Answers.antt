use Rattle.std.proofs.Common.{◌≡◌, refl, ap, sym, subst, ◌∙◌, ℕ, ◌+◌, ◌<◌, List, [], ◌∷◌, ◌++◌, map, take, get_or, length}
use Rattle.std.proofs.lemmas.List.{map_more}
use Rattle.cured_code.specs.declared.instr.Instr.{Instr}
use Rattle.cured_code.specs.Straight as straight
use Rattle.cured_code.specs.Straight.{instrs, instr_of}
use Rattle.check_insert.specs.declared.draft.Draft.{Draft}
use Rattle.check_insert.specs.declared.line.SlotLine.{SlotLine}
use Rattle.check_insert.specs.Drafts.{Grows}
use Rattle.check_forms.specs.Pieces.{Line}
use Rattle.check_insert.specs.Views.{straight_of}
use Rattle.check_insert.proofs.Laws.{grows_nothing, grows_puts}
use Rattle.check_insert.proofs.pieces.put_lines.Goals as goal

one-more : (xs : List straight.Line) (x : straight.Line) → instrs (xs ++ (x ∷ [])) ≡ instrs xs ++ (instr_of x ∷ [])
one-more [] x = refl
one-more (y ∷ xs) x = ap (λ z. instr_of y ∷ z) (one-more xs x)

more-lines : (xs : List SlotLine) (i : ℕ) (d : SlotLine) (one : Instr) (a b c : Draft) → i < length xs → one ≡ instr_of (straight_of (get_or xs i d))
    → Grows (Line (instrs (map straight_of (take i xs)))) (Unit {0}) a b → Grows (Line (one ∷ [])) (Unit {0}) b c
    → Grows (Line (instrs (map straight_of (take (i + 1) xs)))) (Unit {0}) a c
more-lines xs i d one a b c within is f g =
    let same : instrs (map straight_of (take (i + 1) xs)) ≡ instrs (map straight_of (take i xs)) ++ (one ∷ [])
    = ap instrs (map_more straight_of xs i d within) ∙ one-more (map straight_of (take i xs)) (straight_of (get_or xs i d))
    ∙ ap (λ z. instrs (map straight_of (take i xs)) ++ (z ∷ [])) (sym is) in
    subst (λ z. Grows (Line z) (Unit {0}) a c) (sym same) (grows_puts _ _ a b c f g)

pub loop-line-init : goal.loop-line-init
loop-line-init c = grows_nothing _ _

pub loop-line-preserved : goal.loop-line-preserved
loop-line-preserved c =
    more-lines _ _ _ _ _ _ _ c.loop-line-test.true c.instruction_of.ensures c.loop-line.invariant c.put.ensures

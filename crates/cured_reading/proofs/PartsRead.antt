-- What is read section by section is a program's spelling.
use Rattle.std.proofs.Common.{ℕ, List, [], ◌∷◌, ◌++◌, ◌≡◌, ◌∙◌, ap, sym, map, length, append_assoc}
use Rattle.std.proofs.lemmas.List.{length-map}
use Rattle.std.specs.Prelude.{codes, flat_map}
use Rattle.cured_code.specs.declared.parts.Sig.{Sig}
use Rattle.cured_code.specs.declared.parts.GlobalLine.{GlobalLine}
use Rattle.cured_code.specs.declared.parts.Function.{Function}
use Rattle.cured_spelling.specs.Lines.{line, line_text}
use Rattle.cured_spelling.specs.Spelling.{counted, sig_line, node_line, area_line, function_line, body_lines, parts_lines}
use Rattle.cured_spelling.proofs.RowLaws.{parts-text}
use Rattle.cured_reading.specs.declared.sections.Head.{Head}
use Rattle.cured_reading.specs.Heads.{head_line}

same-heads : (functions : List Function) (heads : List Head) → map function_line functions ≡ map head_line heads
    → counted (codes "functions") function_line functions ≡ counted (codes "functions") head_line heads
same-heads functions heads e =
    let size : length functions ≡ length heads = sym (length-map functions function_line) ∙ ap length e ∙ length-map heads head_line in
    ap (λ n. line (codes "functions") (n ∷ []) ∷ map function_line functions) size ∙ ap (λ l. line (codes "functions") (length heads ∷ []) ∷ l) e

six : (w v1 v2 v3 v4 v5 v6 t u v x y z : List ℕ) → w ≡ t ++ v1 → v1 ≡ u ++ v2 → v2 ≡ v ++ v3 → v3 ≡ x ++ v4 → v4 ≡ y ++ v5 → v5 ≡ z ++ v6
    → w ≡ (t ++ (u ++ (v ++ (x ++ (y ++ z))))) ++ v6
six w v1 v2 v3 v4 v5 v6 t u v x y z a b c d e f = rw (a, b, c, d, e, f) (simp append_assoc)

pub parts-read : (sigs : List Sig) (nodes : List ℕ) (globals : List GlobalLine) (functions : List Function) (heads : List Head) (w v1 v2 v3 v4 v5 v6 : List ℕ)
    → w ≡ line_text (line (codes "ccured") (1 ∷ [])) ++ v1 → v1 ≡ flat_map line_text (counted (codes "sigs") sig_line sigs) ++ v2
    → v2 ≡ flat_map line_text (counted (codes "nodes") node_line nodes) ++ v3
    → v3 ≡ flat_map line_text (counted (codes "globals") area_line globals) ++ v4
    → v4 ≡ flat_map line_text (counted (codes "functions") head_line heads) ++ v5 → v5 ≡ flat_map line_text (flat_map body_lines functions) ++ v6
    → map function_line functions ≡ map head_line heads → w ≡ flat_map line_text (parts_lines sigs nodes globals functions) ++ v6
parts-read sigs nodes globals functions heads w v1 v2 v3 v4 v5 v6 a b c d e f same =
    let e' : v4 ≡ flat_map line_text (counted (codes "functions") function_line functions) ++ v5 = e
    ∙ ap (λ l. flat_map line_text l ++ v5) (sym (same-heads functions heads same)) in
    six w v1 v2 v3 v4 v5 v6 (line_text (line (codes "ccured") (1 ∷ []))) (flat_map line_text (counted (codes "sigs") sig_line sigs)) (flat_map line_text (counted (codes "nodes") node_line nodes))
    (flat_map line_text (counted (codes "globals") area_line globals)) (flat_map line_text (counted (codes "functions") function_line functions)) (flat_map line_text (flat_map body_lines functions))
    a b c d e' f ∙ ap (λ t. t ++ v6) (sym (parts-text sigs nodes globals functions))

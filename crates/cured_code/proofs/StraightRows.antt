-- A worked row of straight code: the lines that test whether a pointer's next bytes lie in its part, as one function of slots.
use Rattle.std.proofs.Common.{◌≡◌, ℕ, true, false, List, [], ◌∷◌, ap, ◌∙◌, nat_eq}
use Rattle.std.specs.Prelude.{int_lt}
use Rattle.flat_mem.specs.Memory.{Memory}
use Rattle.integers.specs.Words.{truth_word, equal_words}
use Rattle.integers.specs.Operators.{signed, difference_words}
use Rattle.integers.proofs.SignedLaws.{or-truth, neither-truth, is_in_part}
use Rattle.cured_code.specs.declared.parts.Parts.{Parts}
use Rattle.cured_code.specs.Straight.{Line, Sets, Result, Difference, Or, Equal, LessSigned, behind}

abbrev pub bounds : (x y a low high size none : ℕ) → List Line
bounds x y a low high size none =
    Sets x (Result LessSigned a low) ∷ Sets y (Result Difference high a) ∷ Sets y (Result LessSigned y size) ∷ Sets x (Result Or x y) ∷ Sets x (Result Equal x none) ∷ []

-- the last slot is 1 exactly where they do
pub bounds-flag : (parts : Parts) (m : Memory) (x y a low high size none : ℕ) (e : ℕ → ℕ) → nat_eq x x ≡ true → nat_eq y y ≡ true → nat_eq x y ≡ false → nat_eq y x ≡ false
    → nat_eq a x ≡ false → nat_eq high x ≡ false → nat_eq size x ≡ false → nat_eq size y ≡ false → nat_eq none x ≡ false → nat_eq none y ≡ false → e none ≡ 0
    → behind parts m (bounds x y a low high size none) e x ≡ truth_word (is_in_part (e size) (e a) (e low) (e high))
bounds-flag parts m x y a low high size none e xx yy xy yx ax hx sx sy zx zy clear =
    simp (xx, yy, xy, yx, ax, hx, sx, sy, zx, zy, clear)
    (ap (λ n. equal_words n 0) (or-truth (int_lt (signed (e a)) (signed (e low))) (int_lt (signed (difference_words (e high) (e a))) (signed (e size))))
    ∙ neither-truth (int_lt (signed (e a)) (signed (e low))) (int_lt (signed (difference_words (e high) (e a))) (signed (e size))))

-- What is added in several steps.
use Rattle.std.proofs.Common.{List, ℕ, [], ◌++◌, ◌≡◌, append_assoc, append-nil}
use Rattle.std.specs.Prelude.{Result, OnOk}
use Rattle.std.proofs.lemmas.Result.{on_ok_weaker}

-- a whole text of three parts, or of five, is added part by part
pub three-added : (o a b c t u v whole : List ℕ) → a ≡ o ++ t → b ≡ a ++ u → c ≡ b ++ v → whole ≡ t ++ (u ++ (v ++ [])) → c ≡ o ++ whole
three-added o a b c t u v whole e f g h = rw (h, g, f, e) (simp (append_assoc, append-nil))

pub five-added : (o a b c d e t u v w x whole : List ℕ) → a ≡ o ++ t → b ≡ a ++ u → c ≡ b ++ v → d ≡ c ++ w → e ≡ d ++ x → whole ≡ t ++ (u
    ++ (v ++ (w ++ (x ++ [])))) → e ≡ o ++ whole
five-added o a b c d e t u v w x whole f g h i j k = rw (k, j, i, h, g, f) (simp (append_assoc, append-nil))

-- the same where the last step may fail
pub three-put : {T E : Type 0} (r : Result T E) (o a b c t u v whole : List ℕ) → a ≡ o ++ t → b ≡ a ++ u → OnOk r (c ≡ b ++ v) → whole ≡ t
    ++ (u ++ (v ++ [])) → OnOk r (c ≡ o ++ whole)
three-put r o a b c t u v whole e f g h = on_ok_weaker {P = c ≡ b ++ v} {Q = c ≡ o ++ whole} r (λ g. three-added o a b c t u v whole e f g h) g

pub five-put : {T E : Type 0} (r : Result T E) (o a b c d e t u v w x whole : List ℕ) → a ≡ o ++ t → b ≡ a ++ u → c ≡ b ++ v → d ≡ c ++ w
    → OnOk r (e ≡ d ++ x)
    → whole ≡ t ++ (u ++ (v ++ (w ++ (x ++ [])))) → OnOk r (e ≡ o ++ whole)
five-put r o a b c d e t u v w x whole f g h i j k = on_ok_weaker {P = e ≡ d ++ x} {Q = e ≡ o ++ whole} r (λ j. five-added o a b c d e t u v w x whole f g h i j k) j

pub six-put : {T E : Type 0} (r : Result T E) (o a b c d e f t u v w x y whole : List ℕ) → a ≡ o ++ t → b ≡ a ++ u → c ≡ b ++ v → d ≡ c ++ w
    → e ≡ d ++ x → OnOk r (f ≡ e ++ y)
    → whole ≡ t ++ (u ++ (v ++ (w ++ (x ++ y)))) → OnOk r (f ≡ o ++ whole)
six-put r o a b c d e f t u v w x y whole g h i j k l m = on_ok_weaker {P = f ≡ e ++ y} {Q = f ≡ o ++ whole} r (λ l. rw (m, l, k, j, i, h, g) (simp append_assoc)) l

-- Lists that are cut at the first of their elements that is no larger than some number.
use Rattle.std.proofs.Common.{ℕ, ◌<◌, List, [], ◌∷◌, ◌++◌, ◌≡◌, ◌∙◌, ap, append_assoc, refl, sym, arith}
use Rattle.std.specs.Prelude.{flat_map}
use Rattle.std.specs.List.{AllByRecursion as Each}

module _ {X : Type 0} where
  head_or : X → List X → X
  head_or d [] = d
  head_or d (x ∷ xs) = x

  tail_of : List X → List X
  tail_of [] = []
  tail_of (x ∷ xs) = xs

  pub cons_head : {x y : X} {xs ys : List X} → x ∷ xs ≡ y ∷ ys → x ≡ y
  unfolding head_or
  cons_head {x} e = ap (head_or x) e

  pub cons_tail : {x y : X} {xs ys : List X} → x ∷ xs ≡ y ∷ ys → xs ≡ ys
  unfolding tail_of
  cons_tail e = ap tail_of e

  pub each-append : (P : X → Type 0) (xs ys : List X) → Each P xs → Each P ys → Each P (xs ++ ys)
  each-append P [] ys h k = k
  each-append P (x ∷ xs) ys h k = (h.0, each-append P xs ys h.1 k)

  pub each-first : (P : X → Type 0) (xs ys : List X) → Each P (xs ++ ys) → Each P xs
  each-first P [] ys h = tt
  each-first P (x ∷ xs) ys h = (h.0, each-first P xs ys h.1)

  pub each-second : (P : X → Type 0) (xs ys : List X) → Each P (xs ++ ys) → Each P ys
  each-second P [] ys h = h
  each-second P (x ∷ xs) ys h = each-second P xs ys h.1

-- the bytes of a list are above a number
abbrev pub AreAbove : ℕ → List ℕ → Type 0
AreAbove e bytes = Each (λ byte. e < byte) bytes

pub cut : (e : ℕ) (a b r s : List ℕ) → AreAbove e a → AreAbove e b → a ++ (e ∷ r) ≡ b ++ (e ∷ s) → (a ≡ b) × (r ≡ s)
cut e [] [] r s f g h = (refl, cons_tail h)
cut e [] (y ∷ b) r s f g h = absurd (omega (arith, g.0, cons_head h))
cut e (x ∷ a) [] r s f g h = absurd (omega (arith, f.0, cons_head h))
cut e (x ∷ a) (y ∷ b) r s f g h =
    let rest = cut e a b r s f.1 g.1 (cons_tail h) in
    let head : x ≡ y = cons_head h in
    (ap (λ z. z ∷ a) head ∙ ap (λ l. y ∷ l) rest.0, rest.1)

-- lists with an element after each
abbrev pub ended : ℕ → List (List ℕ) → List ℕ
ended e lists = flat_map (λ list. list ++ (e ∷ [])) lists

ends-apart : (e : ℕ) (v more : List ℕ) → [] ≡ (v ++ (e ∷ [])) ++ more → ⊥
ends-apart e [] more h = cc
ends-apart e (x ∷ v) more h = cc

-- lists with a smaller element after each are told apart by it
pub ended_told : (e : ℕ) (ks ls : List (List ℕ)) → Each (AreAbove e) ks → Each (AreAbove e) ls → ended e ks ≡ ended e ls → ks ≡ ls
ended_told e [] [] f g h = refl
ended_told e [] (b ∷ ls) f g h = absurd (ends-apart e b (ended e ls) h)
ended_told e (a ∷ ks) [] f g h = absurd (ends-apart e a (ended e ks) (sym h))
ended_told e (a ∷ ks) (b ∷ ls) f g h =
    let both = cut e a b (ended e ks) (ended e ls) f.0 g.0 (sym (append_assoc a (e ∷ []) (ended e ks)) ∙ h ∙ append_assoc b (e ∷ []) (ended e ls)) in
    ap (λ l. l ∷ ks) both.0 ∙ ap (λ l. b ∷ l) (ended_told e ks ls f.1 g.1 both.1)

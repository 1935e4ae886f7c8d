-- The kinds of words that are read: the option, the option and its value, and other words, which don't begin with `-`.
use Rattle.std.proofs.Common.{ℕ, ◌≡◌, ◌∙◌, sym, ap, refl, subst, List, [], ◌∷◌, ◌++◌, drop, take, Bool, true, false, not, ◌||◌, ◌==◌, nat_eq, bytes_eq, codes, None, true≢false, eqb-true}
use Rattle.std.proofs.lemmas.List.{take-append-drop}
use Rattle.std.proofs.lemmas.Slice.Eq.{bytes_eq-Decides}
use Rattle.clap.specs.Lexer.{strip_byte}
use Rattle.command_words.specs.Commands.{sets_turns}
use Rattle.command_words.specs.Passed.{is_dashed, is_read}

-- what is asked of a word that doesn't begin with `-`
pub record IsPlain (w : List ℕ) : Type 0 where
  pub dashes : bytes_eq w (45 ∷ 45 ∷ []) ≡ false
  pub undashed : strip_byte 45 w ≡ None
  pub option : bytes_eq w (codes "--turns") ≡ false
  pub setting : sets_turns w ≡ false

other_side : (c : ℕ) → (c == 45) ≡ false → nat_eq 45 c ≡ false
other_side c e = go (nat_eq 45 c) refl
  where
    go : (b : Bool) → nat_eq 45 c ≡ b → b ≡ false
    go false same = refl
    go true same =
        let here : 45 ≡ c = eqb-true 45 c same in
        let there : (45 == 45) ≡ false = subst (λ (n : ℕ). (n == 45) ≡ false) (sym here) e in
        there

pub plain : (w : List ℕ) → is_dashed w ≡ false → IsPlain w
plain [] e = record { dashes = refl; undashed = refl; option = refl; setting = refl }
plain (c ∷ cs) e = record {
  dashes = rw e refl;
  undashed = rw e refl;
  option = rw e refl;
  setting = rw (other_side c e) refl;
}

-- what is shown of a word of each kind is shown of each word that is read
module _ (P : List ℕ → Type 0) (of_plain : (w : List ℕ) → IsPlain w → P w) (of_option : P (codes "--turns"))
    (of_setting : (v : List ℕ) → P (codes "--turns=" ++ v)) where
  dashed : (w : List ℕ) (a b : Bool) → bytes_eq w (codes "--turns") ≡ a → sets_turns w ≡ b → (a || b) ≡ true → P w
  dashed w true b same e either = subst P (sym ((bytes_eq-Decides w (codes "--turns")).0 same)) of_option
  dashed w false false same e either = absurd (true≢false (sym either))
  dashed w false true same e either =
      let front : codes "--turns=" ≡ take 8 w = (bytes_eq-Decides (codes "--turns=") (take 8 w)).0 e in
      let whole : codes "--turns=" ++ drop 8 w ≡ w = ap (λ (t : List ℕ). t ++ drop 8 w) front ∙ take-append-drop 8 w in
      subst P whole (of_setting (drop 8 w))

  go : (w : List ℕ) (d : Bool) → is_dashed w ≡ d → (not d || (bytes_eq w (codes "--turns") || sets_turns w)) ≡ true → P w
  go w false d passed = of_plain w (plain w d)
  go w true d passed = dashed w _ _ refl refl passed

  pub by_kind : (w : List ℕ) → is_read w ≡ true → P w
  by_kind w passed = go w _ refl passed

-- Bytes of two hexadecimal digits each.
use Rattle.std.proofs.Common.{ℕ, zero, suc, inl, inr, List, [], ◌∷◌, ◌++◌, ◌≡◌, ◌∙◌, ◌+◌, ◌*◌, ◌/◌, ◌%◌, ◌<◌, ◌≤◌, ap, subst, sym, length, append_assoc, arith}
use Rattle.std.specs.Prelude.{flat_map, codes, ◌⊎◌}
use Rattle.std.specs.List.{AllByRecursion as Each}
use Rattle.std.proofs.lemmas.Grind.{flat_map-append}
use Rattle.cured_spelling.specs.Lines.{hex_byte, hex_digit, hex_text}
use Rattle.cured_spelling.proofs.Cuts.{cons_head, cons_tail, each-append}

two-digits : (h l a b : ℕ) → l < 16 → hex_digit h ≡ a → hex_digit l ≡ b → hex_byte (h * 16 + l) ≡ a ∷ b ∷ []
two-digits h l a b small e f =
    let high : (h * 16 + l) / 16 ≡ h = omega arith in
    let low : (h * 16 + l) % 16 ≡ l = omega arith in
    ap (λ n. hex_digit n ∷ hex_digit ((h * 16 + l) % 16) ∷ []) high ∙ ap (λ n. hex_digit h ∷ hex_digit n ∷ []) low
    ∙ ap (λ n. n ∷ hex_digit l ∷ []) e ∙ ap (λ n. a ∷ n ∷ []) f

-- one more pair
pub next_pair : (all rest tail after bytes more : List ℕ) (a b h l : ℕ) → all ≡ flat_map hex_byte bytes ++ rest → rest ≡ a ∷ tail
    → tail ≡ b ∷ after → l < 16 → hex_digit h ≡ a → hex_digit l ≡ b
    → more ≡ bytes ++ ((h * 16 + l) ∷ []) → all ≡ flat_map hex_byte more ++ after
next_pair all rest tail after bytes more a b h l e f g small x y m =
    rw (e, f, g, m, flat_map-append hex_byte bytes ((h * 16 + l) ∷ []), two-digits h l a b small x y) (simp append_assoc)

pub byte-push : (bytes more : List ℕ) (h l : ℕ) → more ≡ bytes ++ ((h * 16 + l) ∷ []) → h < 16 → l < 16 → Each (λ byte. byte < 256) bytes
    → Each (λ byte. byte < 256) more
byte-push bytes more h l e p q k =
    subst (Each (λ byte. byte < 256)) (sym e) (each-append (λ byte. byte < 256) bytes ((h * 16 + l) ∷ []) k (omega (arith, p, q), tt))

-- a digit is a decimal one, or a letter up to `f`
pub digit-named : (d : ℕ) → d < 16 → ((48 ≤ hex_digit d) × (hex_digit d ≤ 57)) ⊎ ((97 ≤ hex_digit d) × (hex_digit d ≤ 102))
digit-named zero h = inl (omega arith, omega arith)
digit-named (suc zero) h = inl (omega arith, omega arith)
digit-named (suc (suc zero)) h = inl (omega arith, omega arith)
digit-named (suc (suc (suc zero))) h = inl (omega arith, omega arith)
digit-named (suc (suc (suc (suc zero)))) h = inl (omega arith, omega arith)
digit-named (suc (suc (suc (suc (suc zero))))) h = inl (omega arith, omega arith)
digit-named (suc (suc (suc (suc (suc (suc zero)))))) h = inl (omega arith, omega arith)
digit-named (suc (suc (suc (suc (suc (suc (suc zero))))))) h = inl (omega arith, omega arith)
digit-named (suc (suc (suc (suc (suc (suc (suc (suc zero)))))))) h = inl (omega arith, omega arith)
digit-named (suc (suc (suc (suc (suc (suc (suc (suc (suc zero))))))))) h = inl (omega arith, omega arith)
digit-named (suc (suc (suc (suc (suc (suc (suc (suc (suc (suc zero)))))))))) h = inr (omega arith, omega arith)
digit-named (suc (suc (suc (suc (suc (suc (suc (suc (suc (suc (suc zero))))))))))) h = inr (omega arith, omega arith)
digit-named (suc (suc (suc (suc (suc (suc (suc (suc (suc (suc (suc (suc zero)))))))))))) h = inr (omega arith, omega arith)
digit-named (suc (suc (suc (suc (suc (suc (suc (suc (suc (suc (suc (suc (suc zero))))))))))))) h = inr (omega arith, omega arith)
digit-named (suc (suc (suc (suc (suc (suc (suc (suc (suc (suc (suc (suc (suc (suc zero)))))))))))))) h = inr (omega arith, omega arith)
digit-named (suc (suc (suc (suc (suc (suc (suc (suc (suc (suc (suc (suc (suc (suc (suc zero))))))))))))))) h = inr (omega arith, omega arith)
digit-named (suc (suc (suc (suc (suc (suc (suc (suc (suc (suc (suc (suc (suc (suc (suc (suc k)))))))))))))))) h = absurd (omega (arith, h))

-- Digits that are no bytes'

abbrev AreBytes : List ℕ → Type 0
AreBytes bytes = Each (λ byte. byte < 256) bytes

rest-of-pairs : (done all rest : List ℕ) → AreBytes all → flat_map hex_byte all ≡ flat_map hex_byte done ++ rest
    → (more : List ℕ) × AreBytes more × (rest ≡ flat_map hex_byte more)
rest-of-pairs [] all rest k e = (all, k, sym e)
rest-of-pairs (x ∷ done) [] rest k e = let no : ⊥ = cc in absurd no
rest-of-pairs (x ∷ done) (y ∷ all) rest k e = rest-of-pairs done all rest k.1 (cons_tail (cons_tail e))

-- the digits that come next, where they are bytes'
record IsPairNext (high : ℕ) (tail : List ℕ) : Type 0 where
  byte : ℕ
  small : byte < 256
  more : List ℕ
  first : hex_digit (byte / 16) ≡ high
  second : tail ≡ hex_digit (byte % 16) ∷ more

pair-of : (rest tail more : List ℕ) (high : ℕ) → rest ≡ high ∷ tail → AreBytes more → rest ≡ flat_map hex_byte more → IsPairNext high tail
pair-of rest tail [] high e k f = let no : ⊥ = cc in absurd no
pair-of rest tail (y ∷ more) high e k f = record {
  byte = y;
  small = k.0;
  more = flat_map hex_byte more;
  first = sym (cons_head (sym e ∙ f));
  second = cons_tail (sym e ∙ f);
}

module _ (digits done rest tail : List ℕ) (high : ℕ) (e : digits ≡ flat_map hex_byte done ++ rest) (f : rest ≡ high ∷ tail) where
  pair-next : (bytes : List ℕ) → AreBytes bytes → flat_map hex_byte bytes ≡ digits → IsPairNext high tail
  pair-next bytes k g =
      let m = rest-of-pairs done bytes rest k (g ∙ e) in
      pair-of rest tail m.0 high f m.1 m.2

  -- one digit is left
  pub odd-digits : length tail ≡ 0 → (bytes : List ℕ) → AreBytes bytes → flat_map hex_byte bytes ≡ digits → ⊥
  odd-digits none bytes k g = let p = pair-next bytes k g in let second = p.second in omega (arith, none, ap length second)

  -- the first of the next two is none
  pub first-undigit : ((d : ℕ) → d < 16 → hex_digit d ≡ high → ⊥) → (bytes : List ℕ) → AreBytes bytes → flat_map hex_byte bytes ≡ digits → ⊥
  first-undigit none bytes k g = let p = pair-next bytes k g in let small = p.small in none (p.byte / 16) (omega (arith, small)) p.first

  -- the second is none
  pub second-undigit : (low : ℕ) (after : List ℕ) → tail ≡ low ∷ after → ((d : ℕ) → d < 16 → hex_digit d ≡ low → ⊥)
      → (bytes : List ℕ) → AreBytes bytes → flat_map hex_byte bytes ≡ digits → ⊥
  second-undigit low after h none bytes k g =
      let p = pair-next bytes k g in
      none (p.byte % 16) (omega arith) (sym (cons_head (sym h ∙ p.second)))

-- a field is not `-`, and no pairs of digits
pub no-pairs : (field : List ℕ) → (codes "-" ≡ field → ⊥) → ((bytes : List ℕ) → AreBytes bytes → flat_map hex_byte bytes ≡ field → ⊥)
    → (bytes : List ℕ) → AreBytes bytes → hex_text bytes ≡ field → ⊥
no-pairs field none h [] k e = none e
no-pairs field none h (byte ∷ bytes) k e = h (byte ∷ bytes) k e

-- bytes are written by a byte at least
pub hex-some : (field bytes : List ℕ) → field ≡ [] → hex_text bytes ≡ field → ⊥
hex-some field [] e f = cc
hex-some field (byte ∷ bytes) e f = cc

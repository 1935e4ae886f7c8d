-- How long a generated program is.
use Rattle.std.proofs.Common.{◌≡◌, ℕ, zero, suc, ◌+◌, ◌*◌, ◌≤◌, ◌<◌, ◌%◌, List, ◌++◌, length, refl, arith, length-append}
use Rattle.std.specs.Prelude.{codes}
use Rattle.std.specs.Fmt.{decimal}
use Rattle.std.proofs.lemmas.Fmt.{length-decimal-le}
use Rattle.program_gen.specs.Generated.{call, definition, generated, lines}
use Rattle.program_answers.specs.Texts.{text_limit}

five : (a b c d e : List ℕ) → length (a ++ (b ++ (c ++ (d ++ e)))) ≡ length a + (length b + (length c + (length d + length e)))
five a b c d e = rw (length-append a (b ++ (c ++ (d ++ e))), length-append b (c ++ (d ++ e)), length-append c (d ++ e), length-append d e) refl

-- lines of at most 100 bytes each
abbrev IsShort : (ℕ → List ℕ) → Type 0
IsShort line = (i : ℕ) → i ≤ 1000 → length (line i) ≤ 100

definition_short : IsShort definition
definition_short i few =
    let digits : length (decimal i) ≤ 4 = length-decimal-le 4 i (omega arith) (omega arith) (omega arith) in
    let first : length (codes "int f") ≡ 5 = refl in
    let second : length (codes "(int *p,int k){p[k]=p[k]+") ≡ 25 = refl in
    let third : length (codes ";return p[(k+1)%4];}\n") ≡ 21 = refl in
    let all = five (codes "int f") (decimal i) (codes "(int *p,int k){p[k]=p[k]+") (decimal i) (codes ";return p[(k+1)%4];}\n") in
    omega arith

call_short : IsShort call
call_short i few =
    let digits : length (decimal i) ≤ 4 = length-decimal-le 4 i (omega arith) (omega arith) (omega arith) in
    let rest : i % 4 < 4 = omega arith in
    let digit : length (decimal (i % 4)) ≤ 1 = length-decimal-le 1 (i % 4) (omega arith) (omega arith) (omega arith) in
    let first : length (codes "s=s+f") ≡ 5 = refl in
    let second : length (codes "(a,") ≡ 3 = refl in
    let third : length (codes ");\n") ≡ 3 = refl in
    let all = five (codes "s=s+f") (decimal i) (codes "(a,") (decimal (i % 4)) (codes ");\n") in
    omega arith

lines_short : (line : ℕ → List ℕ) → IsShort line → (n : ℕ) → n ≤ 1000 → length (lines line n) ≤ n * 100
lines_short line short zero few = omega arith
lines_short line short (suc n) few =
    let before : length (lines line n) ≤ n * 100 = lines_short line short n (omega arith) in
    let last : length (line (suc n)) ≤ 100 = short (suc n) few in
    let all = length-append (lines line n) (line (suc n)) in
    omega arith

-- a generated program isn't too long for a text of C
pub generated_within : (n : ℕ) → n ≤ 1000 → length (generated n) ≤ text_limit
unfolding text_limit
generated_within n few =
    let definitions = lines_short definition definition_short n few in
    let calls = lines_short call call_short n few in
    let head : length (codes "int main(void){int a[4];int s=0;\n") ≡ 33 = refl in
    let foot : length (codes "putchar(48+s%10);putchar(10);return 0;}\n") ≡ 40 = refl in
    let first =
    length-append (lines definition n)
    (codes "int main(void){int a[4];int s=0;\n" ++ (lines call n ++ codes "putchar(48+s%10);putchar(10);return 0;}\n")) in
    let second = length-append (codes "int main(void){int a[4];int s=0;\n") (lines call n ++ codes "putchar(48+s%10);putchar(10);return 0;}\n") in
    let third = length-append (lines call n) (codes "putchar(48+s%10);putchar(10);return 0;}\n") in
    omega arith

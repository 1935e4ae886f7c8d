-- The text of the generated program of n functions.
use Rattle.std.specs.Prelude.{ℕ, zero, suc, ◌%◌, List, [], ◌++◌, codes}
use Rattle.std.specs.Fmt.{decimal}

-- the line that defines function i: it adds i to an element, and gives the next
abbrev pub definition : ℕ → List ℕ
definition i = codes "int f" ++ (decimal i ++ (codes "(int *p,int k){p[k]=p[k]+" ++ (decimal i ++ codes ";return p[(k+1)%4];}\n")))

-- the line of `main` that calls it
abbrev pub call : ℕ → List ℕ
call i = codes "s=s+f" ++ (decimal i ++ (codes "(a," ++ (decimal (i % 4) ++ codes ");\n")))

-- the lines for 1 to n, in order
abbrev pub lines : (ℕ → List ℕ) → ℕ → List ℕ
lines line zero = []
lines line (suc n) = lines line n ++ line (suc n)

-- n definitions, and a `main` that calls each function once and writes the sum's last digit
abbrev pub generated : ℕ → List ℕ
generated n = lines definition n ++ (codes "int main(void){int a[4];int s=0;\n" ++ (lines call n ++ codes "putchar(48+s%10);putchar(10);return 0;}\n"))

-- Specifiers that may stand together may do so without the last one.
use Rattle.std.proofs.Common.{◌≡◌, ℕ, ◌+◌, ◌≤◌, ◌==◌, nat_le, Bool, true, false, ◌&&◌, ◌||◌, refl, ap, arith}
use Rattle.std.proofs.lemmas.Bool.Decides.{Decides-eqb, leb_tells}
use Rattle.c_lexer.specs.declared.word.Keyword.{Keyword}
use Rattle.c_lexer.specs.declared.word.Keyword.TheVariants as keyword
use Rattle.c_tree.specs.TypedTree as typed
use Rattle.c_tree.specs.TypedTree.{TypedSpecifier}
use Rattle.c_typing.specs.Declarators.{Counted, counting, counting_word, are_allowed}
use Rattle.c_typing.specs.Refusals.{one_named}
use Rattle.c_typing_unique.proofs.Shapes.{no_true}
use Rattle.c_typing_exact.proofs.Unbroken.{or_on}

-- Words that may stand together may do so without the last of them

nat_less : (m n : ℕ) → m ≤ n → nat_le n 1 ≡ true → nat_le m 1 ≡ true
nat_less m n h k = grind (arith, leb_tells)

none_less : (m n : ℕ) → m ≤ n → (n == 0) ≡ true → (m == 0) ≡ true
none_less m n h k =
    let zero : n ≡ 0 = (Decides-eqb n 0).0 k in
    (Decides-eqb m 0).1 (omega arith)

and_less : (a b c d : Bool) → (a ≡ true → c ≡ true) → (b ≡ true → d ≡ true) → (a && b) ≡ true → (c && d) ≡ true
and_less true b c d f g h = (λ i. f refl i && g h i)
and_less false b c d f g h = no_true h

or_less : (a b c d : Bool) → (a ≡ true → c ≡ true) → (b ≡ true → d ≡ true) → (a || b) ≡ true → (c || d) ≡ true
or_less true b c d f g h = ap (λ (x : Bool). x || d) (f refl)
or_less false b c d f g h = or_on c d (g h)

allowed_less : (c d : Counted) → c.storage ≤ d.storage → c.void + c.char + c.short + c.long + c.named ≤ d.void + d.char + d.short + d.long + d.named → c.signed + c.unsigned ≤ d.signed + d.unsigned
    → c.int ≤ d.int → c.char + c.int ≤ d.char + d.int → c.void + c.named ≤ d.void + d.named → c.signed + c.unsigned + c.int ≤ d.signed + d.unsigned + d.int
    → are_allowed d ≡ true → are_allowed c ≡ true
allowed_less c d p q r s t u v h =
    and_less (nat_le d.storage 1) (nat_le (d.void + d.char + d.short + d.long + d.named) 1
    && (nat_le (d.signed + d.unsigned) 1 && (nat_le d.int 1 && (nat_le (d.char + d.int) 1 && ((d.void + d.named == 0) || (d.signed + d.unsigned + d.int == 0))))))
    (nat_le c.storage 1) (nat_le (c.void + c.char + c.short + c.long + c.named) 1
    && (nat_le (c.signed + c.unsigned) 1 && (nat_le c.int 1 && (nat_le (c.char + c.int) 1 && ((c.void + c.named == 0) || (c.signed + c.unsigned + c.int == 0))))))
    (nat_less c.storage d.storage p)
    (and_less (nat_le (d.void + d.char + d.short + d.long + d.named) 1)
    (nat_le (d.signed + d.unsigned) 1 && (nat_le d.int 1 && (nat_le (d.char + d.int) 1 && ((d.void + d.named == 0) || (d.signed + d.unsigned + d.int == 0)))))
    (nat_le (c.void + c.char + c.short + c.long + c.named) 1)
    (nat_le (c.signed + c.unsigned) 1 && (nat_le c.int 1 && (nat_le (c.char + c.int) 1 && ((c.void + c.named == 0) || (c.signed + c.unsigned + c.int == 0)))))
    (nat_less (c.void + c.char + c.short + c.long + c.named) (d.void + d.char + d.short + d.long + d.named) q)
    (and_less (nat_le (d.signed + d.unsigned) 1) (nat_le d.int 1 && (nat_le (d.char + d.int) 1 && ((d.void + d.named == 0) || (d.signed + d.unsigned + d.int == 0))))
    (nat_le (c.signed + c.unsigned) 1) (nat_le c.int 1 && (nat_le (c.char + c.int) 1 && ((c.void + c.named == 0) || (c.signed + c.unsigned + c.int == 0))))
    (nat_less (c.signed + c.unsigned) (d.signed + d.unsigned) r)
    (and_less (nat_le d.int 1) (nat_le (d.char + d.int) 1 && ((d.void + d.named == 0) || (d.signed + d.unsigned + d.int == 0)))
    (nat_le c.int 1) (nat_le (c.char + c.int) 1 && ((c.void + c.named == 0) || (c.signed + c.unsigned + c.int == 0)))
    (nat_less c.int d.int s)
    (and_less (nat_le (d.char + d.int) 1) ((d.void + d.named == 0) || (d.signed + d.unsigned + d.int == 0))
    (nat_le (c.char + c.int) 1) ((c.void + c.named == 0) || (c.signed + c.unsigned + c.int == 0))
    (nat_less (c.char + c.int) (d.char + d.int) t)
    (or_less (d.void + d.named == 0) (d.signed + d.unsigned + d.int == 0) (c.void + c.named == 0) (c.signed + c.unsigned + c.int == 0)
    (none_less (c.void + c.named) (d.void + d.named) u) (none_less (c.signed + c.unsigned + c.int) (d.signed + d.unsigned + d.int) v)))))) h

allowed_before : (word : Keyword) (c : Counted) → are_allowed (counting_word word c) ≡ true → are_allowed c ≡ true
allowed_before keyword.Void c h = allowed_less c (counting_word keyword.Void c) (omega arith) (omega arith) (omega arith) (omega arith) (omega arith) (omega arith) (omega arith) h
allowed_before keyword.Char c h = allowed_less c (counting_word keyword.Char c) (omega arith) (omega arith) (omega arith) (omega arith) (omega arith) (omega arith) (omega arith) h
allowed_before keyword.Short c h = allowed_less c (counting_word keyword.Short c) (omega arith) (omega arith) (omega arith) (omega arith) (omega arith) (omega arith) (omega arith) h
allowed_before keyword.Int c h = allowed_less c (counting_word keyword.Int c) (omega arith) (omega arith) (omega arith) (omega arith) (omega arith) (omega arith) (omega arith) h
allowed_before keyword.Long c h = allowed_less c (counting_word keyword.Long c) (omega arith) (omega arith) (omega arith) (omega arith) (omega arith) (omega arith) (omega arith) h
allowed_before keyword.Signed c h = allowed_less c (counting_word keyword.Signed c) (omega arith) (omega arith) (omega arith) (omega arith) (omega arith) (omega arith) (omega arith) h
allowed_before keyword.Unsigned c h = allowed_less c (counting_word keyword.Unsigned c) (omega arith) (omega arith) (omega arith) (omega arith) (omega arith) (omega arith) (omega arith) h
allowed_before keyword.Auto c h = allowed_less c (counting_word keyword.Auto c) (omega arith) (omega arith) (omega arith) (omega arith) (omega arith) (omega arith) (omega arith) h
allowed_before keyword.Register c h = allowed_less c (counting_word keyword.Register c) (omega arith) (omega arith) (omega arith) (omega arith) (omega arith) (omega arith) (omega arith) h
allowed_before keyword.Static c h = allowed_less c (counting_word keyword.Static c) (omega arith) (omega arith) (omega arith) (omega arith) (omega arith) (omega arith) (omega arith) h
allowed_before keyword.Extern c h = allowed_less c (counting_word keyword.Extern c) (omega arith) (omega arith) (omega arith) (omega arith) (omega arith) (omega arith) (omega arith) h
allowed_before keyword.Typedef c h = allowed_less c (counting_word keyword.Typedef c) (omega arith) (omega arith) (omega arith) (omega arith) (omega arith) (omega arith) (omega arith) h
allowed_before word c h = h

allowed_unnamed : (c : Counted) → are_allowed (one_named c) ≡ true → are_allowed c ≡ true
allowed_unnamed c h = allowed_less c (one_named c) (omega arith) (omega arith) (omega arith) (omega arith) (omega arith) (omega arith) (omega arith) h

pub allowed-without : (one : TypedSpecifier) (c : Counted) → are_allowed (counting one c) ≡ true → are_allowed c ≡ true
allowed-without (typed.Keyword word) c h = allowed_before word.keyword c h
allowed-without one c h = allowed_unnamed c h

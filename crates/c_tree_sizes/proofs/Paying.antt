-- What is made is paid for by tokens, two things for each. A string literal with no piece has no token: it pays for two things itself.
use Rattle.std.proofs.Common.{◌≡◌, ◌≤◌, ◌+◌, ℕ, suc, List, [], ◌∷◌, ◌++◌, length, map, arith, length-append}
use Rattle.cc_base.specs.declared.number.NodeId.{NodeId}
use Rattle.cc_base.specs.declared.number.TypeId.{TypeId}
use Rattle.c_tree.specs.declared.leaf.StringPiece.{StringPiece}
use Rattle.c_tree.specs.Spelling.{piece_symbol}
use Rattle.c_tree.specs.Symbols.{Symbol}
use Rattle.c_tree.specs.TypedParts.{Made, Literal}

-- what a thing pays for that has no token
abbrev pub spare : Made → ℕ
spare (Literal [] home t) = 2
spare made = 0

abbrev pub total : List Made → ℕ
total [] = 0
total (made ∷ more) = spare made + total more

pub total-append : (xs ys : List Made) → total (xs ++ ys) ≡ total xs + total ys
total-append [] ys = omega arith
total-append (x ∷ xs) ys = let h = total-append xs ys in omega (arith, h)

-- what is made is paid for, and so would be `left` things more
pub record IsPaid (left : ℕ) (made : List Made) (tokens : List Symbol) : Type 0 where
  pub enough : length made + left ≤ length tokens + length tokens + total made

pub nothing : {ts : List Symbol} → IsPaid 0 [] ts
nothing {ts} = record { enough = omega arith }

pub one : {m : Made} {t : Symbol} {ts : List Symbol} → IsPaid 0 (m ∷ []) (t ∷ ts)
one {m} {t} {ts} = record { enough = omega arith }

pub literal : (pieces : List StringPiece) {home : NodeId} {t : TypeId} → IsPaid 1 (Literal pieces home t ∷ []) (map piece_symbol pieces)
literal [] {home} {t} = record { enough = omega arith }
literal (p ∷ pieces) {home} {t} = record { enough = omega arith }

pub less : {k : ℕ} {xs : List Made} {ts : List Symbol} → IsPaid (suc k) xs ts → IsPaid k xs ts
less {k} {xs} {ts} p = record { enough = let a = p.enough in omega (arith, a) }

-- one part after another

pub then : {k : ℕ} {xs ys : List Made} {ts us : List Symbol} → IsPaid 0 xs ts → IsPaid k ys us → IsPaid k (xs ++ ys) (ts ++ us)
then {k} {xs} {ys} {ts} {us} p q =
    record { enough = let a = p.enough in let b = q.enough in omega (arith, a, b, length-append xs ys, length-append ts us, total-append xs ys) }

pub three : {k : ℕ} {xs ys zs : List Made} {ts us vs : List Symbol} → IsPaid 0 xs ts → IsPaid 0 ys us → IsPaid k zs vs
    → IsPaid k (xs ++ ys ++ zs) (ts ++ (us ++ vs))
three {k} {xs} {ys} {zs} {ts} {us} {vs} p q r = record {
  enough = let a = p.enough in let b = q.enough in let c = r.enough in
      omega (
        arith,
        a,
        b,
        c,
        length-append (xs ++ ys) zs,
        length-append xs ys,
        length-append ts (us ++ vs),
        length-append us vs,
        total-append (xs ++ ys) zs,
        total-append xs ys,
      );
}

pub four : {k : ℕ} {ws xs ys zs : List Made} {ss ts us vs : List Symbol} → IsPaid 0 ws ss → IsPaid 0 xs ts → IsPaid 0 ys us → IsPaid k zs vs
    → IsPaid k (ws ++ xs ++ ys ++ zs) (ss ++ (ts ++ (us ++ vs)))
four {k} {ws} {xs} {ys} {zs} {ss} {ts} {us} {vs} o p q r = record {
  enough = let h = (three o p q).enough in let c = r.enough in
      omega (
        arith,
        h,
        c,
        length-append (ws ++ xs ++ ys) zs,
        length-append ss (ts ++ us),
        length-append ts us,
        length-append ss (ts ++ (us ++ vs)),
        length-append ts (us ++ vs),
        length-append us vs,
        total-append (ws ++ xs ++ ys) zs,
      );
}

-- more tokens

pub more : {k : ℕ} {xs : List Made} {t : Symbol} {ts : List Symbol} → IsPaid k xs ts → IsPaid k xs (t ∷ ts)
more {k} {xs} {t} {ts} p = record { enough = let a = p.enough in omega (arith, a) }

pub token : {k : ℕ} {xs : List Made} {t : Symbol} {ts : List Symbol} → IsPaid k xs ts → IsPaid (suc k) xs (t ∷ ts)
token {k} {xs} {t} {ts} p = record { enough = let a = p.enough in omega (arith, a) }

pub ended : {k : ℕ} {xs : List Made} {ts : List Symbol} (t : Symbol) → IsPaid k xs ts → IsPaid (suc k) xs (ts ++ t ∷ [])
ended {k} {xs} {ts} t p = record { enough = let a = p.enough in omega (arith, a, length-append ts (t ∷ [])) }

pub ahead : {k : ℕ} {xs : List Made} {ts : List Symbol} (us : List Symbol) → IsPaid k xs ts → IsPaid k xs (us ++ ts)
ahead {k} {xs} {ts} us p = record { enough = let a = p.enough in omega (arith, a, length-append us ts) }

pub followed : {k : ℕ} {xs : List Made} {ts : List Symbol} (us : List Symbol) → IsPaid k xs ts → IsPaid k xs (ts ++ us)
followed {k} {xs} {ts} us p = record { enough = let a = p.enough in omega (arith, a, length-append ts us) }

pub fits : {k : ℕ} {xs : List Made} {ts us : List Symbol} → IsPaid k xs ts → length ts ≤ length us → IsPaid k xs us
fits {k} {xs} {ts} {us} p h = record { enough = let a = p.enough in omega (arith, a, h) }

-- one thing more

pub with_one : {k : ℕ} {xs : List Made} {ts : List Symbol} (m : Made) → IsPaid (suc k) xs ts → IsPaid k (xs ++ m ∷ []) ts
with_one {k} {xs} {ts} m p =
    record { enough = let a = p.enough in omega (arith, a, length-append xs (m ∷ []), total-append xs (m ∷ [])) }

pub at_most_one : {k : ℕ} {xs : List Made} {ts : List Symbol} (ys : List Made) → IsPaid (suc k) xs ts → length ys ≤ 1 → IsPaid k (xs ++ ys) ts
at_most_one {k} {xs} {ts} ys p h =
    record { enough = let a = p.enough in omega (arith, a, h, length-append xs ys, total-append xs ys) }

pub first_one : {k : ℕ} {m : Made} {xs : List Made} {t : Symbol} {ts : List Symbol} → IsPaid k xs ts → IsPaid k (m ∷ xs) (t ∷ ts)
first_one {k} {m} {xs} {t} {ts} p = record { enough = let a = p.enough in omega (arith, a) }

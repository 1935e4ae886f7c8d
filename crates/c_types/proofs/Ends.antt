use Rattle.std.proofs.Common.{◌≡◌, ℕ, ◌+◌, ◌≤◌, List, [], ◌∷◌, ◌++◌, take, drop, map, ap, sym, subst, ◌∙◌, arith}
use Rattle.std.specs.List.{fold}
use Rattle.std.proofs.lemmas.List.{take-append-drop, map-append}
use Rattle.std.proofs.lemmas.List.Sums.{fold-append}
use Rattle.cc_base.specs.declared.number.TypeId.{TypeId}
use Rattle.c_types.specs.declared.layout.Layout.{Layout}
use Rattle.c_types.specs.Layouts.{rounded, members_end, greatest_align, struct_layout}

-- The ends of members never fall, so a struct whose first members pass the limit passes it.

pub rounded_up : (n a : ℕ) → n ≤ rounded n a
rounded_up n a = omega arith

ends_grow : (a : ℕ) (xs : List Layout) → a ≤ fold (λ end m. rounded end m.align + m.size) a xs
ends_grow a [] = omega arith
ends_grow a (x ∷ xs) = let h = ends_grow (rounded a x.align + x.size) xs in let r = rounded_up a x.align in omega arith

pub end_of_part : (f : TypeId → Layout) (members : List TypeId) (i : ℕ) → members_end (map f (take i members)) ≤ members_end (map f members)
end_of_part f members i =
    let e : map f members ≡ map f (take i members) ++ map f (drop i members) =
    ap (map f) (sym (take-append-drop i members)) ∙ map-append f (take i members) (drop i members) in
    let h = ends_grow (members_end (map f (take i members))) (map f (drop i members)) in
    subst (λ n. members_end (map f (take i members)) ≤ n)
    (sym (ap members_end e ∙ fold-append (λ end m. rounded end m.align + m.size) 0 (map f (take i members)) (map f (drop i members)))) h

pub end_of_struct : (f : TypeId → Layout) (members : List TypeId) (i : ℕ) → members_end (map f (take i members)) ≤ (struct_layout (map f members)).size
end_of_struct f members i =
    let h = end_of_part f members i in let r = rounded_up (members_end (map f members)) (greatest_align (map f members)) in omega arith

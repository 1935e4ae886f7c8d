-- What a walk finds, one part after another, and what is sorted by its places.
use Rattle.std.proofs.Common.{◌≡◌, ℕ, zero, suc, ◌+◌, ◌<◌, true, false, List, [], ◌∷◌, ◌++◌, take, get_or, length, refl, sym, ap, ◌∙◌, append_assoc, append-nil, add-one, inl, inr, arith}
use Rattle.std.proofs.lemmas.Grind.{flat_map-append}
use Rattle.std.specs.List.Sorted.{IsSortedByKey}
use Rattle.std.specs.Cmp.{nat_cmp_is}
use Rattle.std.specs.Ordering.{is_lt, nat_cmp, ordering_then}
use Rattle.std.specs.declared.cmp.Ordering.{Ordering}
use Rattle.std.specs.declared.cmp.Ordering.TheVariants.{Equal, Less}
use Rattle.cc_base.specs.Places.{IsBefore}
use Rattle.cc_base.specs.declared.place.Place.{Place}
use Rattle.c_tree.specs.declared.typed_unit.Printed.{Printed}
use Rattle.c_tree.specs.declared.typed_word.TypedStar.{TypedStar}
use Rattle.c_tree.specs.TypedParts.{Made, Written, made_by_stars, printed}
use Rattle.c_printed.specs.declared.found.Found.{Found}
use Rattle.c_printed.specs.Printing.{AreInOrder, Prints, printed_by}

pub prints_then : (x y : List Made) (a b c : Found) → Prints x a b → Prints y b c → Prints (x ++ y) a c
unfolding Prints
prints_then x y a b c f g = λ fine.
    let q = g fine in
    let p = f q.0 in (
      p.0,
      q.1 ∙ ap (λ l. l ++ printed_by y) p.1 ∙ append_assoc a.nodes.items (printed_by x) (printed_by y)
          ∙ ap (λ l. a.nodes.items ++ l) (sym (flat_map-append printed x y)),
    )

pub prints_nothing : (a : Found) → Prints [] a a
unfolding Prints
prints_nothing a = λ fine. (fine, sym (append-nil a.nodes.items))

-- something is made of which nothing is printed
pub prints_other : (x : List Made) (m : Made) (a b : Found) → printed m ≡ [] → Prints x a b → Prints (x ++ m ∷ []) a b
unfolding Prints
prints_other x m a b none f = λ fine.
    let p = f fine in
    let same : printed_by (x ++ m ∷ []) ≡ printed_by x =
    flat_map-append printed x (m ∷ []) ∙ ap (λ l. printed_by x ++ l) (append-nil (printed m) ∙ none) ∙ append-nil (printed_by x) in
    (p.0, p.1 ∙ ap (λ l. a.nodes.items ++ l) (sym same))

-- a node is appended
pub prints_one : (m : Made) (one : Printed) (a b : Found) → printed m ≡ one ∷ []
    → (b.fine ≡ true → (a.fine ≡ true) × (b.nodes.items ≡ a.nodes.items ++ one ∷ [])) → Prints (m ∷ []) a b
unfolding Prints
prints_one m one a b same f = λ fine.
    let p = f fine in
    (p.0, p.1 ∙ ap (λ l. a.nodes.items ++ l) (sym (append-nil (printed m) ∙ same)))

-- what was found from nothing, where nothing failed
pub all_printed : (made : List Made) (a b : Found) → Prints made a b → a.nodes.items ≡ [] → b.fine ≡ true → printed_by made ≡ b.nodes.items
unfolding Prints
all_printed made a b f none fine = sym ((f fine).1 ∙ ap (λ l. l ++ printed_by made) none)

stars_next : (all : List TypedStar) (i : ℕ) (s : TypedStar) → i < length all → s ≡ get_or all i s
    → made_by_stars (take (suc i) all) ≡ made_by_stars (take i all) ++ Written s.star.place s.node ∷ []
stars_next [] i s within at = absurd (omega arith)
stars_next (x ∷ all) zero s within at = ap (λ (t : TypedStar). Written t.star.place t.node ∷ []) (sym at)
stars_next (x ∷ all) (suc i) s within at = ap (λ (l : List Made). Written x.star.place x.node ∷ l) (stars_next all i s (omega arith) at)

-- a star more
pub one_star : (all : List TypedStar) (i : ℕ) (s : TypedStar) → i < length all → s ≡ get_or all i s
    → made_by_stars (take (i + 1) all) ≡ made_by_stars (take i all) ++ Written s.star.place s.node ∷ []
one_star all i s within at = rw add-one (stars_next all i s within at)

-- what is sorted by its places stands in their order

by_place : Place → Place → Ordering
by_place a b = ordering_then (nat_cmp a.line b.line) (nat_cmp a.col b.col)

earlier_is_less : (a b : Place) → IsBefore a b → is_lt (by_place a b) ≡ true
unfolding by_place
earlier_is_less a b (inl less) = rw (sym (nat_cmp_is a.line b.line Less less)) refl
earlier_is_less a b (inr less) = rw (sym (nat_cmp_is a.line b.line Equal less.0), sym (nat_cmp_is a.col b.col Less less.1)) refl

pub in_order_of_sorted : (xs : List Printed) → IsSortedByKey (λ p. p.place) (λ a b. ordering_then (nat_cmp a.line b.line) (nat_cmp a.col b.col)) xs → AreInOrder xs
unfolding by_place
in_order_of_sorted xs up k d within earlier =
    absurd (let e : false ≡ true = sym (up k d (omega arith) within) ∙ earlier_is_less _ _ earlier in cc)

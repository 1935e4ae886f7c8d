-- Points of the text, and the numbers of the nodes that are made between two of them.
use Rattle.std.proofs.Common.{◌≡◌, ℕ, suc, ◌+◌, List, [], ◌∷◌, ◌++◌, map, length, refl, ap, sym, subst, ◌∙◌, arith}
use Rattle.std.specs.List.{range_with_len, flat_map}
use Rattle.std.proofs.lemmas.List.{map-append}
use Rattle.std.proofs.lemmas.Grind.{flat_map-append}
use Rattle.cc_base.specs.declared.number.NodeId.{NodeId}
use Rattle.c_tree.specs.TypedParts.{Made, nodes_made, node_made}
use Rattle.c_typing_unique.specs.Sameness.{AreNumberedFrom}
pub use Rattle.c_typing_unique.specs.Points.{Point, HasOwn, AreFrom, numbers_of, Numbers}

-- what is known at one point
pub scopes-of : (a b : Point) → a ≡ b → a.scopes ≡ b.scopes
scopes-of a b h = ap (λ (p : Point). p.scopes) h

pub node-of : (a b : Point) → a ≡ b → a.node ≡ b.node
node-of a b h = ap (λ (p : Point). p.node) h

numbers_append : (xs ys : List Made) → numbers_of (xs ++ ys) ≡ numbers_of xs ++ numbers_of ys
numbers_append xs ys =
    ap (map (λ (n : NodeId). n.0)) (flat_map-append node_made xs ys) ∙ map-append (λ (n : NodeId). n.0) (flat_map node_made xs) (flat_map node_made ys)

from_split : (xs ys : List ℕ) (a b : ℕ) → AreFrom (xs ++ ys) a b → (m : ℕ) × AreFrom xs a m × AreFrom ys m b
from_split [] ys a b h = (a, refl, h)
from_split (x ∷ xs) ys a b h = let rest = from_split xs ys (a + 1) b h.1 in (rest.0, (h.0, rest.1), rest.2)

-- what two parts make is numbered one part after the other
pub two-parts : (xs ys : List Made) (a b : ℕ) → Numbers (xs ++ ys) a b → (m : ℕ) × Numbers xs a m × Numbers ys m b
two-parts xs ys a b h = from_split (numbers_of xs) (numbers_of ys) a b (subst (λ (ns : List ℕ). AreFrom ns a b) (numbers_append xs ys) h)

from_end : (ns : List ℕ) (a b c : ℕ) → AreFrom ns a b → AreFrom ns a c → b ≡ c
from_end [] a b c h k = h ∙ sym k
from_end (n ∷ ns) a b c h k = from_end ns (a + 1) b c h.1 k.1

-- where one list is numbered from one number, it ends at one number
pub ends : (xs ys : List Made) (a b c d : ℕ) → xs ≡ ys → a ≡ b → Numbers xs a c → Numbers ys b d → c ≡ d
ends xs ys a b c d e f h k =
    from_end (numbers_of xs) a c d h
    (subst (λ (n : ℕ). Numbers xs n d) (sym f) (subst (λ (zs : List Made). Numbers zs b d) (sym e) k))

pub node-same : (n m : NodeId) (a b : ℕ) → a ≡ b → n.0 ≡ a → m.0 ≡ b → n ≡ m
node-same n m a b e p q = let h : n.0 ≡ m.0 = p ∙ e ∙ sym q in (λ i. record { 0 = h i })

from_range : (ns : List ℕ) (a : ℕ) → ns ≡ range_with_len a (length ns) → AreFrom ns a (a + length ns)
from_range [] a h = omega arith
from_range (n ∷ ns) a h =
    let first : n ≡ a = cc in
    let rest : ns ≡ range_with_len (a + 1) (length ns) = cc in
    let there = from_range ns (a + 1) rest in
    let last : a + 1 + length ns ≡ a + suc (length ns) = omega arith in
    (first, subst (AreFrom ns (a + 1)) last there)

map_length : (ns : List NodeId) → length (map (λ (n : NodeId). n.0) ns) ≡ length ns
map_length [] = refl
map_length (n ∷ ns) = ap suc (map_length ns)

pub numbers-from : (made : List Made) (a : ℕ) → AreNumberedFrom a made → Numbers made a (a + length (nodes_made made))
numbers-from made a h =
    let count = map_length (nodes_made made) in
    subst (λ (n : ℕ). Numbers made a (a + n)) count
    (from_range (numbers_of made) a (h ∙ ap (range_with_len a) (sym count)))

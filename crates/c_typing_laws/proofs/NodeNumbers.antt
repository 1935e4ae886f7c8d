-- The numbers of nodes, one after another, and what leaves the next one as it is.
use Rattle.std.proofs.Common.{◌≡◌, ℕ, suc, ◌+◌, Bool, true, false, List, [], ◌∷◌, ◌++◌, map, length, Option, Some, None, refl, ap, sym, subst, ◌∙◌, nat_lt, nat_le, if◌then◌else◌, arith}
use Rattle.std.specs.List.{range_with_len, flat_map}
use Rattle.std.proofs.lemmas.List.{map-append}
use Rattle.std.proofs.lemmas.Grind.{flat_map-append}
use Rattle.cc_base.specs.declared.place.Place.{Place}
use Rattle.cc_base.specs.declared.number.NodeId.{NodeId}
use Rattle.cc_base.specs.declared.number.TypeId.{TypeId}
use Rattle.cc_base.specs.declared.fault.Fault.TheVariants.{TooLarge}
use Rattle.cc_base.specs.declared.fault.Limit.TheVariants.{Types, Object}
use Rattle.c_types.specs.declared.shape.TypeShape.{TypeShape}
use Rattle.c_types.specs.declared.shape.TypeShape.TheVariants.{Pointer}
use Rattle.c_types.specs.Calls.{basic_entry, new_layout}
use Rattle.c_tree.specs.TypedParts.{Made, Address, nodes_made, node_made}
use Rattle.c_typing.specs.Judging.{State, Gives, Stops, ◌>>=◌, pure, new_node, type_among, there_or_added, type_with, pointer_type, Pointing, new_pointer}
use Rattle.c_typing_laws.specs.Numbers.{numbers_of, AreNumberedFrom}
use Rattle.c_typing_laws.proofs.Outcomes.{bind-gives, gives-value, gives-state, never-gives, new_node-gives}

-- numbers one after another, from a up to b
abbrev pub AreFrom : List ℕ → ℕ → ℕ → Type 0
AreFrom [] a b = b ≡ a
AreFrom (n ∷ ns) a b = (n ≡ a) × AreFrom ns (a + 1) b

abbrev pub Numbers : List Made → ℕ → ℕ → Type 0
Numbers made a b = AreFrom (numbers_of made) a b

from_append : (xs ys : List ℕ) (a m b : ℕ) → AreFrom xs a m → AreFrom ys m b → AreFrom (xs ++ ys) a b
from_append [] ys a m b p q = subst (λ (k : ℕ). AreFrom ys k b) p q
from_append (x ∷ xs) ys a m b p q = (p.0, from_append xs ys (a + 1) m b p.1 q)

numbers_append : (xs ys : List Made) → numbers_of (xs ++ ys) ≡ numbers_of xs ++ numbers_of ys
numbers_append xs ys =
    ap (map (λ (n : NodeId). n.0)) (flat_map-append node_made xs ys) ∙ map-append (λ (n : NodeId). n.0) (flat_map node_made xs) (flat_map node_made ys)

pub two-made : (xs ys : List Made) (a m b : ℕ) → Numbers xs a m → Numbers ys m b → Numbers (xs ++ ys) a b
two-made xs ys a m b p q = subst (λ (ns : List ℕ). AreFrom ns a b) (sym (numbers_append xs ys)) (from_append (numbers_of xs) (numbers_of ys) a m b p q)

pub made-as : (xs ys : List Made) (a b : ℕ) → xs ≡ ys → Numbers ys a b → Numbers xs a b
made-as xs ys a b e h = subst (λ (zs : List Made). Numbers zs a b) (sym e) h

-- the next one stays
pub made-to : (xs : List Made) (a b c : ℕ) → c ≡ b → Numbers xs a b → Numbers xs a c
made-to xs a b c e h = subst (Numbers xs a) (sym e) h

pub made-none : (a b : ℕ) → b ≡ a → Numbers [] a b
made-none a b e = e

from_range : (ns : List ℕ) (a b : ℕ) → AreFrom ns a b → (ns ≡ range_with_len a (length ns)) × (b ≡ a + length ns)
from_range [] a b h = (refl, h ∙ plus_none)
  where
    plus_none : a ≡ a + 0
    plus_none = omega arith
from_range (n ∷ ns) a b h =
    let rest = from_range ns (a + 1) b h.1 in
    let head = h.0 in
    let tail = rest.0 in
    let last = rest.1 in
    ((λ i. head i ∷ tail i), omega (arith, last))

map_length : (ns : List NodeId) → length (map (λ (n : NodeId). n.0) ns) ≡ length ns
map_length [] = refl
map_length (n ∷ ns) = ap suc (map_length ns)

pub numbered-from : (made : List Made) (s r : State) → Numbers made s.seen.node r.seen.node → AreNumberedFrom made s r
numbered-from made s r h =
    let range = from_range (numbers_of made) s.seen.node r.seen.node h in
    let count = map_length (nodes_made made) in
    record { numbers = range.0 ∙ ap (range_with_len s.seen.node) count; after = range.1 ∙ ap (λ (n : ℕ). s.seen.node + n) count }

-- Nodes and types

pub node-made : (at : Place) (n : NodeId) (s r : State) → new_node at s ≡ Gives n r → (n.0 ≡ s.seen.node) × (r.seen.node ≡ s.seen.node + 1)
node-made at n s r h = let made = new_node-gives at n s r h in (ap (λ (k : NodeId). k.0) made.0, ap (λ (q : State). q.seen.node) made.1)

pub address-made : (at : Place) (n : NodeId) (s r : State) → new_node at s ≡ Gives n r → Numbers (Address n ∷ []) s.seen.node r.seen.node
address-made at n s r h = node-made at n s r h

pub type_with-node : (at : Place) (x : TypeShape) (t : TypeId) (s r : State) → type_with at x s ≡ Gives t r → r.seen.node ≡ s.seen.node
unfolding type_with
type_with-node at x t s r h = by (type_among 0 s.table x) h
  where
    same : {u : TypeId} {q : State} → Gives u q ≡ Gives t r → r.seen.node ≡ q.seen.node
    same {u} {q} g = ap (λ (w : State). w.seen.node) (sym (gives-state u t q r g))

    added : (room small : Bool) → (if room
        then (if small then Gives (record { 0 = length s.table }) (record s { table = s.table ++ basic_entry x ∷ [] }) else Stops (TooLarge at Object) s)
        else Stops (TooLarge at Types) s) ≡ Gives t r → r.seen.node ≡ s.seen.node
    added true true g = ap (λ (w : State). w.seen.node) (sym (gives-state (record { 0 = length s.table }) t (record s { table = s.table ++ basic_entry x ∷ [] }) r g))
    added true false g = never-gives t (TooLarge at Object) s r g
    added false small g = never-gives t (TooLarge at Types) s r g

    by : (o : Option TypeId) → there_or_added at x s o ≡ Gives t r → r.seen.node ≡ s.seen.node
    by (Some u) g = ap (λ (w : State). w.seen.node) (sym (gives-state u t s r g))
    by None g = added (nat_lt (length s.table) 16384) (nat_le (new_layout s.table x).size 1048576) g

pub pointer-node : (at : Place) (n : NodeId) (to t : TypeId) (s r : State) → pointer_type at n to s ≡ Gives t r → r.seen.node ≡ s.seen.node
unfolding pointer_type
pointer-node at n to t s r h = by (nat_lt to.0 (length s.table)) h
  where
    by : (b : Bool) → (if b then type_with at (Pointer n to) s else Stops (TooLarge at Types) s) ≡ Gives t r → r.seen.node ≡ s.seen.node
    by true g = type_with-node at (Pointer n to) t s r g
    by false g = never-gives t (TooLarge at Types) s r g

pub new_pointer-made : (at : Place) (to : TypeId) (made : Pointing) (s r : State) → new_pointer at to s ≡ Gives made r → Numbers (Address made.node ∷ []) s.seen.node r.seen.node
unfolding new_pointer
new_pointer-made at to made s r h =
    let one = bind-gives (new_node at s) (λ n. pointer_type at n to >>= (λ t. pure (pointing n t))) made r h in
    let two = bind-gives (pointer_type at one.0 to one.1) (λ t. pure (pointing one.0 t)) made r one.3 in
    let node = address-made at one.0 s one.1 one.2 in
    let same = gives-value (pointing one.0 two.0) made two.1 r two.3 in
    let state = gives-state (pointing one.0 two.0) made two.1 r two.3 in
    let stays = pointer-node at one.0 to two.0 one.1 two.1 two.2 in
    subst (λ (p : Pointing). Numbers (Address p.node ∷ []) s.seen.node r.seen.node) same
    (made-to (Address one.0 ∷ []) s.seen.node one.1.seen.node r.seen.node (ap (λ (q : State). q.seen.node) (sym state) ∙ stays) node)
  where
    pointing : NodeId → TypeId → Pointing
    pointing n t = record { node = n; type = t }

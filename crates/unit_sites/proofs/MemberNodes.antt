-- Member expressions among the pieces of a unit, by their nodes, which are their own.
use Rattle.std.specs.List.{All, Contains, IsDistinct}
use Rattle.std.proofs.Common.{◌≡◌, ◌⊎◌, inl, inr, sym, subst, refl, ◌∙◌, ℕ, false, List, [], ◌∷◌, ◌++◌, flat_map, nat_eq}
use Rattle.std.proofs.lemmas.List.Elements.{All-nil, All-cons, All-weaker, All-contains, All-from_recursion, Contains-append_left, Contains-append_right, Contains-push}
use Rattle.cc_base.specs.declared.number.NodeId.{NodeId}
use Rattle.cc_base.specs.declared.number.TypeId.{TypeId}
use Rattle.c_tree.specs.TypedTree as typed
use Rattle.c_ready.specs.Ready.{member_node}
use Rattle.c_ready.proofs.Basics.{all-right}
use Rattle.src_machine.specs.Pieces.{Piece, APlace}
use Rattle.unit_sites.proofs.ObjectsAlike.{same-nat}

-- a member expression with this node, of this type
abbrev pub IsMemberOf : NodeId → TypeId → Piece → Type 0
IsMemberOf n t (APlace (typed.Member p at name i m v)) = (m ≡ n) × (v ≡ t)
IsMemberOf n t (APlace (typed.MemberAt e at name i m v)) = (m ≡ n) × (v ≡ t)
IsMemberOf n t piece = ⊥

abbrev pub HasMember : NodeId → TypeId → List Piece → Type 0
HasMember n t [] = ⊥
HasMember n t (x ∷ xs) = IsMemberOf n t x ⊎ HasMember n t xs

pub member-in : (xs : List Piece) → All (λ x. (n : NodeId) (t : TypeId) → IsMemberOf n t x → HasMember n t xs) xs
member-in [] = All-nil (λ x. (n : NodeId) (t : TypeId) → IsMemberOf n t x → HasMember n t [])
member-in (x ∷ xs) =
    All-cons (λ y. (n : NodeId) (t : TypeId) → IsMemberOf n t y → HasMember n t (x ∷ xs)) x xs (λ n t h. inl h)
    (All-weaker (λ y. (n : NodeId) (t : TypeId) → IsMemberOf n t y → HasMember n t xs)
    (λ y. (n : NodeId) (t : TypeId) → IsMemberOf n t y → HasMember n t (x ∷ xs)) (λ y f n t h. inr (f n t h)) xs (member-in xs))

-- Its node is one of the unit's member nodes

own-node : (n : NodeId) (t : TypeId) (x : Piece) → IsMemberOf n t x → Contains (member_node x) n.0
own-node n t (APlace (typed.Member p at name i m v)) h = subst (λ (z : NodeId). Contains (m.0 ∷ []) z.0) h.0 (Contains-push [] m.0)
own-node n t (APlace (typed.MemberAt e at name i m v)) h = subst (λ (z : NodeId). Contains (m.0 ∷ []) z.0) h.0 (Contains-push [] m.0)
own-node n t x h = absurd h

pub member-listed : (n : NodeId) (t : TypeId) (xs : List Piece) → HasMember n t xs → Contains (flat_map member_node xs) n.0
member-listed n t [] h = absurd h
member-listed n t (x ∷ xs) (inl h) = Contains-append_left (member_node x) (flat_map member_node xs) n.0 (own-node n t x h)
member-listed n t (x ∷ xs) (inr h) = Contains-append_right (member_node x) (flat_map member_node xs) n.0 (member-listed n t xs h)

-- Numbers that are apart

apart : (xs ys : List ℕ) → IsDistinct nat_eq (xs ++ ys) → All (λ x. All (λ y. nat_eq x y ≡ false) ys) xs
unfolding IsDistinct
apart [] ys d = All-nil (λ x. All (λ y. nat_eq x y ≡ false) ys)
apart (x ∷ xs) ys d =
    All-cons (λ z. All (λ y. nat_eq z y ≡ false) ys) x xs
    (all-right (λ y. nat_eq x y ≡ false) xs ys (All-from_recursion (λ y. nat_eq x y ≡ false) (xs ++ ys) d.0)) (apart xs ys d.1)

pub distinct-right : (xs ys : List ℕ) → IsDistinct nat_eq (xs ++ ys) → IsDistinct nat_eq ys
unfolding IsDistinct
distinct-right [] ys d = d
distinct-right (x ∷ xs) ys d = distinct-right xs ys d.1

pub never-both : (xs ys : List ℕ) → IsDistinct nat_eq (xs ++ ys) → (n : ℕ) → Contains xs n → Contains ys n → ⊥
never-both xs ys d n a b =
    same-nat n n refl
    (All-contains (λ y. nat_eq n y ≡ false) ys n (All-contains (λ x. All (λ y. nat_eq x y ≡ false) ys) xs n (apart xs ys d) a) b)

same-member : (n : NodeId) (t u : TypeId) (x : Piece) → IsMemberOf n t x → IsMemberOf n u x → t ≡ u
same-member n t u (APlace (typed.Member p at name i m v)) h g = sym h.1 ∙ g.1
same-member n t u (APlace (typed.MemberAt e at name i m v)) h g = sym h.1 ∙ g.1
same-member n t u x h g = absurd h

pub one-member : (n : NodeId) (t u : TypeId) (xs : List Piece) → IsDistinct nat_eq (flat_map member_node xs) → HasMember n t xs → HasMember n u xs
    → t ≡ u
one-member n t u [] d h g = absurd h
one-member n t u (x ∷ xs) d (inl h) (inl g) = same-member n t u x h g
one-member n t u (x ∷ xs) d (inl h) (inr g) =
    absurd (never-both (member_node x) (flat_map member_node xs) d n.0 (own-node n t x h) (member-listed n u xs g))
one-member n t u (x ∷ xs) d (inr h) (inl g) =
    absurd (never-both (member_node x) (flat_map member_node xs) d n.0 (own-node n u x g) (member-listed n t xs h))
one-member n t u (x ∷ xs) d (inr h) (inr g) = one-member n t u xs (distinct-right (member_node x) (flat_map member_node xs) d) h g

-- The home that a declarator makes is a new node.
use Rattle.std.proofs.Common.{◌≡◌, ℕ, ◌+◌, ◌≤◌, ◌<◌, Bool, true, false, List, [], ◌∷◌, ◌++◌, map, ap, sym, subst, ◌∙◌, ◌⊎◌, inl, inr, arith}
use Rattle.std.specs.List.{flat_map}
use Rattle.std.proofs.lemmas.List.{map-append}
use Rattle.std.proofs.lemmas.List.Concat.{flat_map-cons}
use Rattle.cc_base.specs.declared.number.NodeId.{NodeId}
use Rattle.cc_base.specs.declared.number.TypeId.{TypeId}
use Rattle.c_tree.specs.declared.typed_word.Home.{Home}
use Rattle.c_tree.specs.declared.typed_word.Home.TheVariants as home
use Rattle.c_tree.specs.TypedTree as typed
use Rattle.c_tree.specs.TypedTree.{TypedForm, TypedCore, TypedDeclarator}
use Rattle.c_tree.specs.TypedParts.{Made, node_made, node_of_home, home_of, home_of_form, home_of_core, made_by_stars, made_by_parts, made_by_core, made_by_form, made_by_declarator}
use Rattle.c_typing.specs.Judging.{State}
use Rattle.c_typing_laws.specs.Numbers.{numbers_of, AreNumberedFrom}
use Rattle.c_typing_laws.proofs.NodeNumbers.{AreFrom}
use Rattle.c_typing_laws.proofs.ExtensionLaws.{no_true}
use Rattle.c_unit_typing.proofs.UnitStates.{made-from}

-- one of them makes this node alone
abbrev Makes : NodeId → List Made → Type 0
Makes n [] = ⊥
Makes n (x ∷ xs) = (node_made x ≡ n ∷ []) ⊎ Makes n xs

makes_left : (n : NodeId) (xs ys : List Made) → Makes n xs → Makes n (xs ++ ys)
makes_left n [] ys h = absurd h
makes_left n (x ∷ xs) ys (inl h) = inl h
makes_left n (x ∷ xs) ys (inr h) = inr (makes_left n xs ys h)

makes_right : (n : NodeId) (xs ys : List Made) → Makes n ys → Makes n (xs ++ ys)
makes_right n [] ys h = h
makes_right n (x ∷ xs) ys h = inr (makes_right n xs ys h)

from_rises : (ns : List ℕ) (a b : ℕ) → AreFrom ns a b → a ≤ b
from_rises [] a b h = omega (arith, h)
from_rises (n ∷ ns) a b h = let rest = from_rises ns (a + 1) b h.1 in omega (arith, rest)

from_split : (xs ys : List ℕ) (a b : ℕ) → AreFrom (xs ++ ys) a b → (m : ℕ) × (a ≤ m) × AreFrom ys m b
from_split [] ys a b h = (a, omega arith, h)
from_split (x ∷ xs) ys a b h = let rest = from_split xs ys (a + 1) b h.1 in let up = rest.1 in (rest.0, omega (arith, up), rest.2)

is_none : Home → Bool
is_none home.None = true
is_none h = false

cons_numbers : (x : Made) (xs : List Made) → numbers_of (x ∷ xs) ≡ map (λ (n : NodeId). n.0) (node_made x) ++ numbers_of xs
cons_numbers x xs = ap (map (λ (n : NodeId). n.0)) (flat_map-cons node_made x xs) ∙ map-append (λ (n : NodeId). n.0) (node_made x) (flat_map node_made xs)

made_between : (n : NodeId) (made : List Made) (a b : ℕ) → Makes n made → AreFrom (numbers_of made) a b → (a ≤ n.0) × (n.0 < b)
made_between n [] a b m h = absurd m
made_between n (x ∷ xs) a b (inl e) h =
    let here = subst (λ (ns : List ℕ). AreFrom ns a b) (cons_numbers x xs ∙ ap (λ (ns : List NodeId). map (λ (k : NodeId). k.0) ns ++ numbers_of xs) e) h in
    let same = here.0 in
    let up = from_rises (numbers_of xs) (a + 1) b here.1 in
    (omega (arith, same), omega (arith, same, up))
made_between n (x ∷ xs) a b (inr m) h =
    let cut = from_split (map (λ (k : NodeId). k.0) (node_made x)) (numbers_of xs) a b (subst (λ (ns : List ℕ). AreFrom ns a b) (cons_numbers x xs) h) in
    let rest = made_between n xs cut.0 b m cut.2 in
    let up = cut.1 in
    let low = rest.0 in
    (omega (arith, up, low), rest.1)

mutual
  unfolding is_none

  form_makes_home : (form : TypedForm) (t : TypeId) (n : NodeId) → home_of_form form ≡ home.Static n → Makes n (made_by_form form t)
  form_makes_home (typed.Form stars core parts) t n h =
      makes_left n (made_by_stars stars ++ made_by_core core t) (made_by_parts parts) (makes_right n (made_by_stars stars) (made_by_core core t) (core_makes_home core t n h))

  core_makes_home : (core : TypedCore) (t : TypeId) (n : NodeId) → home_of_core core ≡ home.Static n → Makes n (made_by_core core t)
  core_makes_home (typed.Names name here) t n h = inl (ap node_of_home h)
  core_makes_home typed.Unnamed t n h = no_true (sym (ap is_none h))
  core_makes_home (typed.Nested at form) t n h = form_makes_home form t n h

pub home-between : (one : TypedDeclarator) (n : NodeId) (s r : State) → home_of one ≡ home.Static n → AreNumberedFrom (made_by_declarator one) s r
    → (s.seen.node ≤ n.0) × (n.0 < r.seen.node)
home-between (typed.Declares form t) n s r h numbers =
    made_between n (made_by_form form t) s.seen.node r.seen.node (form_makes_home form t n h) (made-from (made_by_form form t) s r numbers)

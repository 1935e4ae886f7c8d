-- What judging a declarator is made of: stars, names with their homes, and parts.
use Rattle.std.proofs.Common.{◌≡◌, ◌<◌, ℕ, ℤ, pos, false, List, [], ◌∷◌, Option, Some, None, refl, ap, ◌∙◌}
use Rattle.cc_base.specs.declared.place.Place.{Place}
use Rattle.cc_base.specs.declared.number.NodeId.{NodeId}
use Rattle.c_tree.specs.declared.leaf.Identifier.{Identifier}
use Rattle.c_tree.specs.declared.leaf.Star.{Star}
use Rattle.c_tree.specs.declared.leaf.Word.{Word}
use Rattle.c_tree.specs.declared.typed_word.Home.{Home}
use Rattle.c_tree.specs.declared.typed_word.Home.TheVariants as home
use Rattle.c_tree.specs.declared.typed_word.TypedStar.{TypedStar}
use Rattle.c_tree.specs.Tree as tree
use Rattle.c_tree.specs.TypedTree as typed
use Rattle.c_tree.specs.TypedTree.{TypedExpr, TypedForm, TypedCore, TypedParts, TypedDeclared}
use Rattle.c_typing.specs.declared.naming.Naming.{Naming}
use Rattle.c_typing.specs.declared.naming.Naming.TheVariants as naming
use Rattle.c_typing.specs.Constants.{constant_value}
use Rattle.c_typing.specs.Declaring.{home_as, stars_with_nodes, sized, sized_part, size_given}
use Rattle.c_typing.specs.Judging.{State, Outcome, Gives, next, ◌>>=◌, pure, by_known, new_node}
use Rattle.c_typing.specs.Operands.{Value, value}
use Rattle.c_typing.specs.Tests.{AsValue, first_broken, array_size_tests}
use Rattle.c_typing.specs.Walks.{judge, judge_form, judge_core, judge_parts, judge_declared}
use Rattle.c_typing_given.proofs.Steps.{then-is, obeying-is}
use Rattle.c_typing_given.proofs.TypeGiven.{lt_true}

-- What judging is made of

pub judges-form : (which : Naming) (at : Place) (stars : List Star) (core : tree.Core) (parts : tree.Parts) (list : List TypedStar) (one : TypedCore) (all : TypedParts) (s j k r : State)
    → stars_with_nodes at stars s ≡ Gives list j → judge_core which at core j ≡ Gives one k → judge_parts at parts k ≡ Gives all r
    → judge_form which at (tree.Declares stars core parts) s ≡ Gives (typed.Form list one all) r
unfolding judge_form
judges-form which at stars core parts list one all s j k r h g f =
    then-is (stars_with_nodes at stars) (λ l. judge_core which at core >>= (λ c. judge_parts at parts >>= (λ p. pure (typed.Form l c p)))) list s j (Gives (typed.Form list one all) r) h
    (then-is (judge_core which at core) (λ c. judge_parts at parts >>= (λ p. pure (typed.Form list c p))) one j k (Gives (typed.Form list one all) r) g
    (then-is (judge_parts at parts) (λ p. pure (typed.Form list one p)) all k r (Gives (typed.Form list one all) r) f refl))

pub judges-names : (which : Naming) (at : Place) (name : Identifier) (h : Home) (s r : State) → home_as at which s ≡ Gives h r
    → judge_core which at (tree.Names name) s ≡ Gives (typed.Names name h) r
unfolding judge_core
judges-names which at name h s r g = then-is (home_as at which) (λ k. pure (typed.Names name k)) h s r (Gives (typed.Names name h) r) g refl

pub judges-unnamed : (which : Naming) (at : Place) (s : State) → judge_core which at tree.Unnamed s ≡ Gives typed.Unnamed s
unfolding judge_core
judges-unnamed which at s = refl

pub judges-nested : (which : Naming) (at paren : Place) (d : tree.Declarator) (x : TypedForm) (s r : State) → judge_form which at d s ≡ Gives x r
    → judge_core which at (tree.Nested paren d) s ≡ Gives (typed.Nested paren x) r
unfolding judge_core
judges-nested which at paren d x s r g = then-is (judge_form which at d) (λ k. pure (typed.Nested paren k)) x s r (Gives (typed.Nested paren x) r) g refl

pub judges-no-part : (at : Place) (s : State) → judge_parts at tree.NoPart s ≡ Gives typed.NoPart s
unfolding judge_parts
judges-no-part at s = refl

pub judges-array : (at : Place) (all : tree.Parts) (bracket : Place) (words : List Word) (x : TypedParts) (s r : State) → judge_parts at all s ≡ Gives x r
    → judge_parts at (tree.AndArray all bracket words) s ≡ Gives (typed.AndArray x bracket words) r
unfolding judge_parts
judges-array at all bracket words x s r g = then-is (judge_parts at all) (λ k. pure (typed.AndArray k bracket words)) x s r (Gives (typed.AndArray x bracket words) r) g refl

pub judges-sized : (at : Place) (all : tree.Parts) (bracket : Place) (words : List Word) (e : tree.Expr) (x : TypedParts) (v : Value) (s k r : State) (o : Outcome TypedParts)
    → judge_parts at all s ≡ Gives x k → next (judge false e k) value ≡ Gives v r → sized x bracket words v r ≡ o → judge_parts at (tree.AndSizedArray all bracket words e) s ≡ o
unfolding judge_parts
judges-sized at all bracket words e x v s k r o h g l =
    then-is (judge_parts at all) (λ p. (judge false e >>= value) >>= (λ w. sized p bracket words w)) x s k o h
    (then-is (judge false e >>= value) (λ w. sized x bracket words w) v k r o g l)

pub judges-not-declared : (which : Naming) (at : Place) (s : State) → judge_declared which at tree.NotDeclared s ≡ Gives typed.NotDeclared s
unfolding judge_declared
judges-not-declared which at s = refl

pub judges-declared : (which : Naming) (at : Place) (d : tree.Declarator) (x : TypedForm) (s r : State) → judge_form which at d s ≡ Gives x r
    → judge_declared which at (tree.DeclaredBy d) s ≡ Gives (typed.DeclaredBy x) r
unfolding judge_declared
judges-declared which at d x s r g = then-is (judge_form which at d) (λ k. pure (typed.DeclaredBy k)) x s r (Gives (typed.DeclaredBy x) r) g refl

-- Homes

pub home-none : (at : Place) (s : State) → home_as at naming.None s ≡ Gives home.None s
unfolding home_as
home-none at s = refl

pub home-known : (at : Place) (n : NodeId) (s : State) → home_as at (naming.Known n) s ≡ Gives (home.Known n) s
unfolding home_as
home-known at n s = refl

pub home-static : (at : Place) (n : NodeId) (s r : State) → new_node at s ≡ Gives n r → home_as at naming.Static s ≡ Gives (home.Static n) r
unfolding home_as
home-static at n s r h = then-is (new_node at) (λ k. pure (home.Static k)) n s r (Gives (home.Static n) r) h refl

pub home-local : (at : Place) (n : NodeId) (s r : State) → new_node at s ≡ Gives n r → home_as at naming.Local s ≡ Gives (home.Local n) r
unfolding home_as
home-local at n s r h = then-is (new_node at) (λ k. pure (home.Local k)) n s r (Gives (home.Local n) r) h refl

pub home-parameter : (at : Place) (n : NodeId) (s r : State) → new_node at s ≡ Gives n r → home_as at naming.Parameter s ≡ Gives (home.Parameter n) r
unfolding home_as
home-parameter at n s r h = then-is (new_node at) (λ k. pure (home.Parameter k)) n s r (Gives (home.Parameter n) r) h refl

pub stars-none : (at : Place) (s : State) → stars_with_nodes at [] s ≡ Gives [] s
unfolding stars_with_nodes
stars-none at s = refl

pub stars-more : (at : Place) (star : Star) (stars : List Star) (n : NodeId) (list : List TypedStar) (s k r : State) → new_node at s ≡ Gives n k → stars_with_nodes at stars k ≡ Gives list r
    → stars_with_nodes at (star ∷ stars) s ≡ Gives (record { star = star; node = n } ∷ list) r
unfolding stars_with_nodes
stars-more at star stars n list s k r h g =
    then-is (new_node at) (λ m. stars_with_nodes at stars >>= (λ l. pure (record { star = star; node = m } ∷ l))) n s k (Gives (record { star = star; node = n } ∷ list) r) h
    (then-is (stars_with_nodes at stars) (λ l. pure (record { star = star; node = n } ∷ l)) list k r (Gives (record { star = star; node = n } ∷ list) r) g refl)

size_is : (size : ℕ) → size < 18446744073709551616 → size_given (Some (pos size)) ≡ Some size
size_is size h = rw (lt_true size 18446744073709551616 h) refl

pub sized-is : (all : TypedParts) (bracket : Place) (words : List Word) (v : Value) (size : ℕ) (r : State) → first_broken (array_size_tests r.table v.place (AsValue v.expr)) ≡ None
    → constant_value r.table v.expr ≡ Some (pos size) → size < 18446744073709551616 → sized all bracket words v r ≡ Gives (typed.AndSizedArray all bracket words v.expr size) r
unfolding sized sized_part
sized-is all bracket words v size r pass c few =
    obeying-is (λ (s : State). array_size_tests s.table v.place (AsValue v.expr)) (by_known (λ (s : State). sized_part all bracket words v (size_given (constant_value s.table v.expr)))) r
    (Gives (typed.AndSizedArray all bracket words v.expr size) r) pass
    (ap (λ (o : Option ℤ). sized_part all bracket words v (size_given o) r) c ∙ ap (λ (o : Option ℕ). sized_part all bracket words v o r) (size_is size few))

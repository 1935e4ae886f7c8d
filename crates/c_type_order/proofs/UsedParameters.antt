-- What parts of declarators, members and parameters use, behind what stands in them: types, sizes of 64 bits, and names of members.
use Rattle.std.proofs.Common.{◌≡◌, ◌<◌, ℕ, ℤ, pos, negsuc, Bool, true, false, List, [], ◌∷◌, ◌++◌, length, Option, Some, None, refl, ap, sym, subst, ◌∙◌, nat_lt, if◌then◌else◌}
use Rattle.std.proofs.lemmas.List.{append_assoc}
use Rattle.std.proofs.lemmas.Option.{none-some}
use Rattle.cc_base.specs.declared.place.Place.{Place}
use Rattle.cc_base.specs.declared.number.NodeId.{NodeId}
use Rattle.cc_base.specs.declared.number.TypeId.{TypeId}
use Rattle.cc_base.specs.declared.fault.Fault.TheVariants.{TooLarge}
use Rattle.cc_base.specs.declared.fault.Limit.TheVariants.{Types}
use Rattle.c_types.specs.declared.shape.TypeShape.{TypeShape}
use Rattle.c_types.specs.Table.{Table, shape_at}
use Rattle.c_tree.specs.declared.leaf.Identifier.{Identifier}
use Rattle.c_tree.specs.declared.leaf.Star.{Star}
use Rattle.c_tree.specs.declared.leaf.Word.{Word}
use Rattle.c_tree.specs.declared.typed_word.Adjusted.{Adjusted}
use Rattle.c_tree.specs.declared.typed_word.Home.{Home}
use Rattle.c_tree.specs.declared.typed_word.Home.TheVariants as home
use Rattle.c_tree.specs.declared.typed_word.TypedStar.{TypedStar}
use Rattle.c_tree.specs.Places.{nowhere}
use Rattle.c_tree.specs.TypedParts.{name_of_form, declared_home}
use Rattle.c_tree.specs.TypedTree as typed
use Rattle.c_tree.specs.TypedTree.{TypedSpecifierList, TypedMemberDeclarators, TypedForm, TypedParts, TypedParameters, TypedDeclared}
use Rattle.c_typing.specs.declared.naming.Naming.{Naming}
use Rattle.c_typing.specs.declared.naming.Naming.TheVariants as naming
use Rattle.c_typing.specs.Constants.{constant_value}
use Rattle.c_typing.specs.Declarators
use Rattle.c_typing.specs.Declaring.{home_as, stars_with_nodes, size_given, sized_part, sized, form_makes, member_type, member_named, adjusted_with_node, parameter_makes, parameter_declared, parameter, entered, left}
use Rattle.c_typing.specs.Judging.{State, Judging, Gives, Stops, next, ◌>>=◌, pure, unless, by_known, new_node}
use Rattle.c_typing.specs.Operands.{Value}
use Rattle.c_typing.specs.Refusals.{declared_identifier, is_here, has_name}
use Rattle.c_typing.specs.Scopes.{Scopes, leaving}
use Rattle.c_typing.specs.Scopes
use Rattle.c_typing.specs.Specifying
use Rattle.c_typing.specs.Specifying.{specified, in_scopes}
use Rattle.c_typing.specs.Tests
use Rattle.c_typing.specs.Tests.{AsValue, first_broken}
use Rattle.c_typing.specs.Walks.{listed}
use Rattle.c_typing_laws.proofs.Outcomes.{bind-gives, unless-gives, gives-state, never-gives}
use Rattle.c_typing_laws.proofs.ValuesTaken.{given-same}
use Rattle.c_type_order.specs.Uses.{IsUsed}
use Rattle.c_type_order.specs.TypesUsed.{OfSize, OfMember, types_of, made_in, form_steps, parameter_steps, used_by, used_by_specifier_list, used_by_member_declarators, used_by_declarator, used_by_form, used_by_parts, used_by_parameters, used_by_declared}
use Rattle.c_type_order.proofs.Uses.{then_used, used-as, used-still, node-table, sized_use, named_use}
use Rattle.c_type_order.proofs.UsedChains.{chain-used, form-chain, parameter_makes-used}
use Rattle.c_type_order.proofs.UsedSteps.{below}

-- Parts of declarators

-- a size that is given is one of 64 bits
given_small : (o : Option ℤ) (size : ℕ) → size_given o ≡ Some size → size < 18446744073709551616
given_small None size h = absurd (none-some size h)
given_small (Some (negsuc n)) size h = absurd (none-some size h)
given_small (Some (pos n)) size h = by (nat_lt n 18446744073709551616) refl h
  where
    some_same : Some n ≡ Some size → n ≡ size
    some_same e = cc

    by : (b : Bool) → nat_lt n 18446744073709551616 ≡ b → (if b then Some n else None) ≡ Some size → size < 18446744073709551616
    by true small e = subst (λ (m : ℕ). m < 18446744073709551616) (some_same e) (below n 18446744073709551616 small)
    by false small e = absurd (none-some size e)

sized_by : (all parts : TypedParts) (bracket : Place) (words : List Word) (v : Value) (o : Option ℕ) (S : Table) (s r : State)
    → ((size : ℕ) → o ≡ Some size → size < 18446744073709551616)
    → IsUsed (λ U. used_by_parts U all ++ used_by U v.expr) S s.table → sized_part all bracket words v o s ≡ Gives parts r → IsUsed (λ U. used_by_parts U parts) S r.table
unfolding sized_part
sized_by all parts bracket words v None S s r small p h = never-gives parts (TooLarge v.place Types) s r h
sized_by all parts bracket words v (Some n) S s r small p h =
    given-same (λ (w : TypedParts) (q : State). IsUsed (λ U. used_by_parts U w) S q.table) (typed.AndSizedArray all bracket words v.expr n) parts s r h
    (then_used (λ U. used_by_parts U all ++ used_by U v.expr) (λ U. OfSize n ∷ []) S s.table s.table p (sized_use n s.table (small n refl)))

pub sized-used : (all parts : TypedParts) (bracket : Place) (words : List Word) (v : Value) (S : Table) (s r : State)
    → IsUsed (λ U. used_by_parts U all ++ used_by U v.expr) S s.table → sized all bracket words v s ≡ Gives parts r → IsUsed (λ U. used_by_parts U parts) S r.table
unfolding sized
sized-used all parts bracket words v S s r p h =
    let go = unless-gives (first_broken (Tests.array_size_tests s.table v.place (AsValue v.expr)))
    (by_known (λ (q : State). sized_part all bracket words v (size_given (constant_value q.table v.expr)))) s parts r h in
    sized_by all parts bracket words v (size_given (constant_value s.table v.expr)) S s r (given_small (constant_value s.table v.expr)) p go.1

pub stars-table : (at : Place) (stars : List Star) (all : List TypedStar) (s r : State) → stars_with_nodes at stars s ≡ Gives all r → r.table ≡ s.table
unfolding stars_with_nodes
stars-table at [] all s r h = ap (λ (q : State). q.table) (sym (gives-state [] all s r h))
stars-table at (star ∷ stars) all s r h =
    let one = bind-gives (new_node at s) (λ n. stars_with_nodes at stars >>= (λ rest. pure (starred n ∷ rest))) all r h in
    let two = bind-gives (stars_with_nodes at stars one.1) (λ rest. pure (starred one.0 ∷ rest)) all r one.3 in
    ap (λ (q : State). q.table) (sym (gives-state (starred one.0 ∷ two.0) all two.1 r two.3))
    ∙ stars-table at stars two.0 one.1 two.1 two.2 ∙ node-table at one.0 s one.1 one.2
  where
    starred : NodeId → TypedStar
    starred n = record { star = star; node = n }

module _ (at : Place) (h : Home) (s r : State) where
  node_home : (f : NodeId → Home) → next (new_node at s) (λ n. pure (f n)) ≡ Gives h r → r.table ≡ s.table
  node_home f q =
      let one = bind-gives (new_node at s) (λ n. pure (f n)) h r q in
      ap (λ (m : State). m.table) (sym (gives-state (f one.0) h one.1 r one.3)) ∙ node-table at one.0 s one.1 one.2

  pub home-table : (which : Naming) → home_as at which s ≡ Gives h r → r.table ≡ s.table
  unfolding home_as
  home-table naming.None q = ap (λ (m : State). m.table) (sym (gives-state home.None h s r q))
  home-table naming.Static q = node_home home.Static q
  home-table naming.Local q = node_home home.Local q
  home-table naming.Parameter q = node_home home.Parameter q
  home-table (naming.Known k) q = ap (λ (m : State). m.table) (sym (gives-state (home.Known k) h s r q))

-- Members

pub member-used : (names : List Scopes.Name) (all made : TypedMemberDeclarators) (form : TypedForm) (base : TypeId) (o : Option Identifier) (S : Table) (s r : State)
    → name_of_form form ≡ o → IsUsed (λ U. used_by_member_declarators U all ++ used_by_form U form) S s.table → member_named names all form base o s ≡ Gives made r
    → IsUsed (λ U. used_by_member_declarators U made) S r.table
unfolding member_named member_type
member-used names all made form base None S s r same p h = never-gives made (TooLarge nowhere Types) s r h
member-used names all made form base (Some name) S s r same p h =
    let check : TypeId → Judging TypeId = λ u q. unless (first_broken (Tests.member_type_tests q.table q.seen.scopes u name.place)) (pure u) q in
    let finish : TypeId → Judging TypedMemberDeclarators = λ u. pure (typed.AndDeclarator all (typed.Declares form u)) in
    let go = unless-gives (first_broken (Tests.member_name_tests (has_name names (Some name)) name.place))
    (λ (q : State). next (next (form_makes name.place Declarators.Written form base q) check) finish) s made r h in
    let one = bind-gives (next (form_makes name.place Declarators.Written form base s) check) finish made r go.1 in
    let two = bind-gives (form_makes name.place Declarators.Written form base s) check one.0 one.1 one.2 in
    let tested = unless-gives (first_broken (Tests.member_type_tests two.1.table two.1.seen.scopes two.0 name.place)) (pure two.0) two.1 one.0 one.1 two.3 in
    let chain = chain-used (form_steps Declarators.Written form) base two.0 s.table two.1.table (form-chain name.place Declarators.Written form base two.0 s two.1 two.2) in
    let types = given-same (λ (u : TypeId) (q : State). IsUsed (λ U. types_of (made_in U (form_steps Declarators.Written form) u)) s.table q.table) two.0 one.0 two.1 one.1 tested.1 chain in
    given-same (λ (w : TypedMemberDeclarators) (q : State). IsUsed (λ U. used_by_member_declarators U w) S q.table) (typed.AndDeclarator all (typed.Declares form one.0)) made one.1 r one.3
    (then_used (λ U. used_by_member_declarators U all ++ used_by_declarator U Declarators.Written (typed.Declares form one.0)) (λ U. OfMember (name_of_form form) ∷ []) S one.1.table one.1.table
    (used-as (λ U. used_by_member_declarators U all ++ used_by_form U form ++ types_of (made_in U (form_steps Declarators.Written form) one.0))
    (λ U. used_by_member_declarators U all ++ used_by_declarator U Declarators.Written (typed.Declares form one.0)) S one.1.table
    (λ U. sym (append_assoc (used_by_member_declarators U all) (used_by_form U form) (types_of (made_in U (form_steps Declarators.Written form) one.0))))
    (then_used (λ U. used_by_member_declarators U all ++ used_by_form U form) (λ U. types_of (made_in U (form_steps Declarators.Written form) one.0)) S s.table one.1.table p types))
    (named_use (name_of_form form) name one.1.table same))

-- Parameters

adjusted-table : (at : Place) (o : Option Place) (a : Option Adjusted) (s r : State) → adjusted_with_node at o s ≡ Gives a r → r.table ≡ s.table
unfolding adjusted_with_node
adjusted-table at None a s r h = ap (λ (q : State). q.table) (sym (gives-state None a s r h))
adjusted-table at (Some place) a s r h =
    let one = bind-gives (new_node at s) (λ n. pure (Some (made n))) a r h in
    ap (λ (q : State). q.table) (sym (gives-state (Some (made one.0)) a one.1 r one.3)) ∙ node-table at one.0 s one.1 one.2
  where
    made : NodeId → Adjusted
    made n = record { node = n; place = place }

-- the type of a parameter stays what it is where its name is declared
abbrev IsSameType : TypeId → TypeId → State → State → Type 0
IsSameType t u s r = (u ≡ t) × (r.table ≡ s.table)

named-same : (at : Place) (name : Option Identifier) (h : Home) (t u : TypeId) (s r : State) → parameter_declared at name h t s ≡ Gives u r → IsSameType t u s r
unfolding parameter_declared
named-same at (Some name) (home.Parameter k) t u s r q = given-same (λ (v : TypeId) (w : State). IsSameType t v s w) t u (_) r q (refl, refl)
named-same at None h t u s r q = given-same (λ (v : TypeId) (w : State). IsSameType t v s w) t u s r q (refl, refl)
named-same at (Some name) home.None t u s r q = never-gives u (TooLarge at Types) s r q
named-same at (Some name) (home.Static k) t u s r q = never-gives u (TooLarge at Types) s r q
named-same at (Some name) (home.Local k) t u s r q = never-gives u (TooLarge at Types) s r q
named-same at (Some name) (home.Known k) t u s r q = never-gives u (TooLarge at Types) s r q

made_as : (n : ℕ) (t u : TypeId) (S R : Table) → u ≡ t → IsUsed (λ U. types_of (made_in U n t)) S R → IsUsed (λ U. types_of (made_in U n u)) S R
made_as n t u S R e p = subst (λ (v : TypeId). IsUsed (λ U. types_of (made_in U n v)) S R) (sym e) p

pub parameter-used : (void : Bool) (at : Place) (adjusting : TypeShape → Option Place) (list made : TypedParameters) (own : TypedSpecifierList) (one : TypedDeclared) (S : Table) (s r : State)
    → IsUsed (λ U. used_by_parameters U list ++ used_by_specifier_list U own ++ used_by_declared U one) S s.table
    → parameter void at adjusting list (specified own) one s ≡ Gives made r → IsUsed (λ U. used_by_parameters U made) S r.table
unfolding parameter
parameter-used void at adjusting list made own one S s r p h =
    let base : TypeId = listed own in
    let finish : Option Adjusted → TypeId → Judging TypedParameters = λ a u. pure (typed.AndParameter list (specified own) one a u) in
    let check : TypeId → Judging TypeId = λ u q.
    unless (first_broken (Tests.parameter_type_tests q.table q.seen.scopes void u at)) (parameter_declared at (declared_identifier one) (declared_home one) u) q in
    let go = unless-gives (first_broken (Tests.parameter_name_tests (is_here s.seen.scopes (declared_identifier one)) at))
    (λ (q : State). next (adjusted_with_node at (adjusting (shape_at q.table base)) q) (λ a. λ p. next (parameter_makes at a one base p) (λ u. λ w. next (check u w) (finish a)))) s made r h in
    let a = bind-gives (adjusted_with_node at (adjusting (shape_at s.table base)) s) (λ a. λ p. next (parameter_makes at a one base p) (λ u. λ w. next (check u w) (finish a))) made r go.1 in
    let t = bind-gives (parameter_makes at a.0 one base a.1) (λ u. λ w. next (check u w) (finish a.0)) made r a.3 in
    let u = bind-gives (check t.0 t.1) (finish a.0) made r t.3 in
    let tested = unless-gives (first_broken (Tests.parameter_type_tests t.1.table t.1.seen.scopes void t.0 at))
    (parameter_declared at (declared_identifier one) (declared_home one) t.0) t.1 u.0 u.1 u.2 in
    let kept = named-same at (declared_identifier one) (declared_home one) t.0 u.0 t.1 u.1 tested.1 in
    let before = used-still (λ U. used_by_parameters U list ++ used_by_specifier_list U own ++ used_by_declared U one) S s.table a.1.table
    (adjusted-table at (adjusting (shape_at s.table base)) a.0 s a.1 a.2) p in
    let types = used-still (λ U. types_of (made_in U (parameter_steps a.0 one) t.0)) a.1.table t.1.table u.1.table kept.1 (parameter_makes-used at a.0 one base t.0 a.1 t.1 t.2) in
    given-same (λ (w : TypedParameters) (q : State). IsUsed (λ U. used_by_parameters U w) S q.table) (typed.AndParameter list (specified own) one a.0 u.0) made u.1 r u.3
    (then_used (λ U. used_by_parameters U list ++ used_by_specifier_list U own ++ used_by_declared U one) (λ U. types_of (made_in U (parameter_steps a.0 one) u.0)) S a.1.table u.1.table before
    (made_as (parameter_steps a.0 one) t.0 u.0 a.1.table u.1.table kept.0 types))

-- Scopes of prototypes

pub entered-table : (b : Bool) (s r : State) → entered s ≡ Gives b r → r.table ≡ s.table
unfolding entered
entered-table b s r h = ap (λ (q : State). q.table) (sym (gives-state true b (_) r h))

pub left-same : {A : Type 0} (at : Place) (a b : A) (s r : State) → left at a s ≡ Gives b r → (b ≡ a) × (r.table ≡ s.table)
unfolding left
left-same {A = A} at a b s r h = by (nat_lt 1 (length s.seen.scopes.levels)) h
  where
    by : (inner : Bool) → (if inner then Specifying.in_scopes leaving a s else Stops (TooLarge at Types) s) ≡ Gives b r → (b ≡ a) × (r.table ≡ s.table)
    by true q = given-same (λ (v : A) (w : State). (v ≡ a) × (w.table ≡ s.table)) a b (_) r q (refl, refl)
    by false q = never-gives b (TooLarge at Types) s r q

-- what parameters use, in a scope of their own
pub scoped : (at : Place) (b : Bool) (list whole : TypedParameters) (s i n r : State) → entered s ≡ Gives b i → left at list n ≡ Gives whole r
    → IsUsed (λ U. used_by_parameters U list) i.table n.table → IsUsed (λ U. used_by_parameters U whole) s.table r.table
scoped at b list whole s i n r in_scope out p =
    let same = left-same at list whole n r out in
    subst (λ (v : TypedParameters). IsUsed (λ U. used_by_parameters U v) s.table r.table) (sym same.0)
    (used-still (λ U. used_by_parameters U list) s.table n.table r.table same.1
    (subst (λ (T : Table). IsUsed (λ U. used_by_parameters U list) T n.table) (entered-table b s i in_scope) p))

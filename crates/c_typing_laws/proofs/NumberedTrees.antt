-- The nodes that judging makes are numbered one after another, in the order of the text: by one recursion over the tree.
use Rattle.std.proofs.Common.{◌≡◌, ℕ, ◌+◌, ℤ, Bool, true, false, List, [], ◌∷◌, ◌++◌, Option, Some, None, refl, ap, sym, subst, ◌∙◌, nat_lt, length, if◌then◌else◌}
use Rattle.cc_base.specs.declared.place.Place.{Place}
use Rattle.cc_base.specs.declared.number.NodeId.{NodeId}
use Rattle.cc_base.specs.declared.number.TypeId.{TypeId}
use Rattle.cc_base.specs.declared.fault.Fault.TheVariants.{TooLarge}
use Rattle.cc_base.specs.declared.fault.Limit.TheVariants.{Types}
use Rattle.c_types.specs.declared.shape.TypeShape.{TypeShape}
use Rattle.c_types.specs.Table.{Table, IsType, shape_at}
use Rattle.integers.specs.Arithmetic.{int, converted}
use Rattle.c_tree.specs.declared.leaf.Identifier.{Identifier}
use Rattle.c_tree.specs.declared.leaf.Star.{Star}
use Rattle.c_tree.specs.declared.leaf.Word.{Word}
use Rattle.c_tree.specs.declared.operator.AggregateKind.{AggregateKind}
use Rattle.c_tree.specs.declared.operator.Assignment.{Assignment}
use Rattle.c_tree.specs.declared.operator.Assignment.TheVariants as assignment
use Rattle.c_tree.specs.declared.operator.MemberOperator.TheVariants as member
use Rattle.c_tree.specs.declared.operator.Step.TheVariants as step
use Rattle.c_tree.specs.declared.operator.Unary.{Unary}
use Rattle.c_tree.specs.declared.operator.Unary.TheVariants as unary
use Rattle.c_tree.specs.declared.typed_word.Adjusted.{Adjusted}
use Rattle.c_tree.specs.declared.typed_word.Home.{Home}
use Rattle.c_tree.specs.declared.typed_word.Home.TheVariants as home
use Rattle.c_tree.specs.declared.typed_word.TypedStar.{TypedStar}
use Rattle.c_tree.specs.Places.{nowhere}
use Rattle.c_tree.specs.Tree as tree
use Rattle.c_tree.specs.TypedTree as typed
use Rattle.c_tree.specs.TypedTree.{TypedTypeName, TypedSpecifierList, TypedSpecifier, TypedMembers, TypedMemberDeclarators, TypedEnumerators, TypedForm, TypedCore, TypedParts, TypedParameters, TypedDeclared}
use Rattle.c_tree.specs.TypedParts.{Made, Name, made_by, made_by_type_name, made_by_specifier_list, made_by_specifier, made_by_members, made_by_member_declarators, made_by_enumerators, made_by_stars, made_by_form, made_by_core, made_by_parts, made_by_parameters, made_by_adjusted, made_by_declared, declared_home}
use Rattle.c_typing.specs.declared.declared.Declared.{Declared}
use Rattle.c_typing.specs.declared.declared.Declared.TheVariants as declared
use Rattle.c_typing.specs.declared.naming.Naming.{Naming}
use Rattle.c_typing.specs.declared.naming.Naming.TheVariants as naming
use Rattle.c_typing.specs.Adjusting.{derived_by_declared, typedef_place, adjusted_at}
use Rattle.c_typing.specs.Assignments
use Rattle.c_typing.specs.Constants.{constant_value}
use Rattle.c_typing.specs.Declarators.{Counted, counted, counting_word, declarator_names, member_names}
use Rattle.c_typing.specs.Declarators
use Rattle.c_typing.specs.Declaring.{declarator_name, home_as, stars_with_nodes, size_given, sized_part, sized, declared_makes, form_makes, member_type, member_named, adjusted_with_node, parameter_makes, parameter_declared, parameter, entered, left, stopped_outside}
use Rattle.c_typing.specs.Judging.{State, Judging, Gives, Stops, next, ◌>>=◌, pure, unless, by_known, new_node}
use Rattle.c_typing.specs.Operands.{Operand, Value, value}
use Rattle.c_typing.specs.Operations
use Rattle.c_typing.specs.Operations.{prefix, target, target_of, prefix_of}
use Rattle.c_typing.specs.Refusals.{IsElaborated, name_place, one_named, tag_place, is_empty_row, declared_identifier, is_here, is_void_alone, has_name}
use Rattle.c_typing.specs.Scopes.{Scopes, name_in, tag_in, declaring, leaving}
use Rattle.c_typing.specs.Scopes
use Rattle.c_typing.specs.Settled.{IsKnown}
use Rattle.c_typing.specs.Specifying
use Rattle.c_typing.specs.Specifying.{specified, typedef_named, tagged_by, tagged_as, begun, ended, is_taken_at_end, completed, enum_tag, enumerator, enumerator_with, valued_enumerator, enumeration_begun, enumeration}
use Rattle.c_typing.specs.Tests
use Rattle.c_typing.specs.Tests.{AsPlace, AsValue, AsAllocation, Elaborated, first_broken, is_tag_of}
use Rattle.c_typing.specs.Typing.{tag_named_here, enumerated, is_taken_enumeration, next_value, last_value}
use Rattle.c_typing.specs.Walks.{listed, declared_place, judge, judge_arguments, judge_type_name, judge_list, judge_specifier, judge_members, judge_member_declarators, judge_enumerators, judge_form, judge_core, judge_parts, judge_parameters, judge_declared}
use Rattle.c_typing_laws.proofs.JudgedDeclarators.{IsVoidOf, first_alone, stars-judged, entered-judged}
use Rattle.c_typing_laws.proofs.JudgedLists.{list-typed}
use Rattle.c_typing_laws.proofs.JudgedSpecifiers.{begun-judged, enumeration_begun-judged}
use Rattle.c_typing_laws.proofs.JudgedTrees.{value-here, expr-judged, arguments-judged, type_name-judged, specifiers-judged, members-judged, row-judged, enumerators-judged, core-judged, parts-judged, parameters-judged, begun_goes, void_self}
use Rattle.c_typing_laws.proofs.NodeNumbers.{Numbers, two-made, made-as, made-to, node-made}
use Rattle.c_typing_laws.proofs.NodesKept.{form-keeps, declared-keeps, adjusted-keeps, named-keeps, entered-keeps, left-keeps, begun-keeps, ended-keeps, word-keeps, typedef_name-keeps, tagged-keeps, enum-keeps, begun_enumeration-keeps}
use Rattle.c_typing_laws.proofs.NumberedConstructs.{IsNumbered, IsWhole, value-numbered, integer-numbered, character-numbered, literal-numbered, name-numbered, paren-numbered, target-numbered, address-numbered, prefix-numbered, size-numbered, before-numbered, after-numbered, index-numbered, infix-numbered, member-numbered, pointed-numbered, assign-numbered, update-numbered, choice-numbered, comma-numbered, cast-numbered, size_of_type-numbered, made_by_values, values_last, call-numbered}
use Rattle.c_typing_laws.proofs.Outcomes.{bind-gives, unless-gives, gives-value, gives-state, never-gives, outside-gives}
use Rattle.c_typing_laws.proofs.ValuesTaken.{given-same}

-- what a part makes has the numbers from the next one before to the next one after
abbrev pub Makes : List Made → State → State → Type 0
Makes made s r = Numbers made s.seen.node r.seen.node

pub then_makes : (xs ys : List Made) (s m r : State) → Makes xs s m → Makes ys m r → Makes (xs ++ ys) s r
then_makes xs ys s m r p q = two-made xs ys s.seen.node m.seen.node r.seen.node p q

pub still : (xs : List Made) (s m r : State) → r.seen.node ≡ m.seen.node → Makes xs s m → Makes xs s r
still xs s m r e h = made-to xs s.seen.node m.seen.node r.seen.node e h

pub whole_of : (T : Table) (e : tree.Expr) (x : Elaborated) (s s' : Scopes) → IsElaborated T e x s s' → IsWhole x
whole_of T e (AsPlace p) s s' h = tt
whole_of T e (AsValue v) s s' h = tt
whole_of T e (AsAllocation v) s s' h = h.2

-- One step each

abbrev IsMadeWith : {A : Type 0} → (A → List Made) → List Made → State → A → State → Type 0
IsMadeWith made xs s a r = (made a ≡ xs) × (r.seen.node ≡ s.seen.node)

pure-made : {A : Type 0} (made : A → List Made) (x a : A) (s r : State) → Gives x s ≡ Gives a r → IsMadeWith made (made x) s a r
pure-made made x a s r h = given-same (IsMadeWith made (made x) s) x a s r h (refl, refl)

makes-with : {A : Type 0} (made : A → List Made) (xs : List Made) (a : A) (s m r : State) → IsMadeWith made xs m a r → Makes xs s m → Makes (made a) s r
makes-with made xs a s m r c h = made-as (made a) xs s.seen.node r.seen.node c.0 (still xs s m r c.1 h)

enumerator-made : (all list : TypedEnumerators) (name : Identifier) (s r : State) → enumerator all name s ≡ Gives list r → IsMadeWith made_by_enumerators (made_by_enumerators all) s list r
unfolding enumerator
enumerator-made all list name s r h =
    let value = next_value (last_value all) in
    let go = unless-gives (first_broken (Tests.enumerator_tests s.seen.scopes name.bytes name.place))
    (Specifying.in_scopes (declaring name.bytes (declared.Enumerator (next_value (last_value all)))) (typed.AndEnumerator all name (next_value (last_value all)))) s list r h in
    given-same (IsMadeWith made_by_enumerators (made_by_enumerators all) s) (typed.AndEnumerator all name (next_value (last_value all))) list (_) r go.1 (refl, refl)

valued_by : (all list : TypedEnumerators) (name : Identifier) (at : Place) (v : Value) (s r : State) (o : Option ℤ) → enumerator_with all name at v.expr o s ≡ Gives list r
    → IsMadeWith made_by_enumerators (made_by_enumerators all ++ made_by v.expr) s list r
unfolding enumerator_with
valued_by all list name at v s r None h = never-gives list (TooLarge name.place Types) s r h
valued_by all list name at v s r (Some z) h =
    given-same (IsMadeWith made_by_enumerators (made_by_enumerators all ++ made_by v.expr) s) (typed.AndValued all name at v.expr (converted int z)) list (_) r h (refl, refl)

valued-made : (all list : TypedEnumerators) (name : Identifier) (at : Place) (v : Value) (s r : State) → valued_enumerator all name at v s ≡ Gives list r
    → IsMadeWith made_by_enumerators (made_by_enumerators all ++ made_by v.expr) s list r
unfolding valued_enumerator
valued-made all list name at v s r h =
    let go = unless-gives
    (first_broken (Tests.enumerator_tests s.seen.scopes name.bytes name.place ++ Tests.constant_tests s.table v.place (AsValue v.expr)))
    (by_known (λ (q : State). enumerator_with all name at v.expr (constant_value q.table v.expr))) s list r h in
    valued_by all list name at v s r (constant_value s.table v.expr) go.1

enumeration-made : (counts : Counted) (at : Place) (name : Option Identifier) (brace : Place) (list : TypedEnumerators) (comma : Bool) (one : TypedSpecifier) (s r : State)
    → enumeration counts at name brace list comma s ≡ Gives one r → IsMadeWith made_by_specifier (made_by_enumerators list) s one r
unfolding enumeration
enumeration-made counts at name brace list comma one s r h =
    let part : TypedSpecifier = typed.Enumeration at name brace list comma in
    let go = unless-gives
    (first_broken (Tests.enumeration_tests (is_taken_enumeration (tag_named_here s.seen.scopes name)) (tag_place at name) ++ Tests.word_tests at (one_named counts)))
    (Specifying.in_scopes (enumerated name) part) s one r h in
    given-same (IsMadeWith made_by_specifier (made_by_enumerators list) s) part one (_) r go.1 (refl, refl)

ended-made : (counts : Counted) (which : AggregateKind) (at : Place) (name : Option Identifier) (brace : Place) (o : Option TypeId) (rows : TypedMembers) (one : TypedSpecifier) (s r : State)
    → ended counts which at name brace o rows s ≡ Gives one r → made_by_specifier one ≡ made_by_members rows
unfolding ended
ended-made counts which at name brace o rows one s r h =
    let go = unless-gives (first_broken (Tests.aggregate_tests (is_taken_at_end s o) (tag_place at name) (is_empty_row rows) ++ Tests.word_tests at (one_named counts)))
    (λ (q : State). next (completed (tag_place at name) rows o q) (λ u. pure (typed.Aggregate which at name brace rows u))) s one r h in
    let two = bind-gives (completed (tag_place at name) rows o s) (λ u. pure (typed.Aggregate which at name brace rows u)) one r go.1 in
    ap made_by_specifier (sym (gives-value (typed.Aggregate which at name brace rows two.0) one two.1 r two.3))

word-made : (counts : Counted) (w : Word) (one : TypedSpecifier) (s r : State) → Specifying.word counts w s ≡ Gives one r → made_by_specifier one ≡ []
unfolding Specifying.word
word-made counts w one s r h =
    let go = unless-gives (first_broken (Tests.word_tests w.place (counting_word w.keyword counts))) (pure (typed.Keyword w)) s one r h in
    (pure-made made_by_specifier (typed.Keyword w) one s r go.1).0

typedef_by : (name : Identifier) (o : Option Declared) (one : TypedSpecifier) (s r : State) → typedef_named name o s ≡ Gives one r → made_by_specifier one ≡ []
unfolding typedef_named
typedef_by name (Some (declared.Typedef u)) one s r h = (pure-made made_by_specifier (typed.Typedef name u) one s r h).0
typedef_by name (Some (declared.Object u home)) one s r h = never-gives one (TooLarge name.place Types) s r h
typedef_by name (Some (declared.Function u)) one s r h = never-gives one (TooLarge name.place Types) s r h
typedef_by name (Some (declared.Enumerator k)) one s r h = never-gives one (TooLarge name.place Types) s r h
typedef_by name None one s r h = never-gives one (TooLarge name.place Types) s r h

typedef-made : (counts : Counted) (name : Identifier) (one : TypedSpecifier) (s r : State) → Specifying.typedef_name counts name s ≡ Gives one r → made_by_specifier one ≡ []
unfolding Specifying.typedef_name
typedef-made counts name one s r h =
    let go = unless-gives (first_broken (Tests.word_tests name.place (one_named counts))) (by_known (λ (q : State). typedef_named name (name_in q.seen.scopes.levels name.bytes))) s one r h in
    typedef_by name (name_in s.seen.scopes.levels name.bytes) one s r go.1

tagged-made : (counts : Counted) (which : AggregateKind) (at : Place) (name : Identifier) (one : TypedSpecifier) (s r : State) → Specifying.tagged counts which at name s ≡ Gives one r
    → made_by_specifier one ≡ []
unfolding Specifying.tagged tagged_by
tagged-made counts which at name one s r h =
    let go = unless-gives (first_broken (Tests.tag_tests s.seen.scopes (is_tag_of which) name.bytes name.place ++ Tests.word_tests at (one_named counts)))
    (λ (q : State). next (tagged_as which name (tag_in q.seen.scopes.levels name.bytes) q) (λ u. pure (typed.Tagged which at name u))) s one r h in
    let two = bind-gives (tagged_as which name (tag_in s.seen.scopes.levels name.bytes) s) (λ u. pure (typed.Tagged which at name u)) one r go.1 in
    (pure-made made_by_specifier (typed.Tagged which at name two.0) one two.1 r two.3).0

enum-made : (counts : Counted) (at : Place) (name : Identifier) (one : TypedSpecifier) (s r : State) → enum_tag counts at name s ≡ Gives one r → made_by_specifier one ≡ []
unfolding enum_tag
enum-made counts at name one s r h =
    let go = unless-gives (first_broken (Tests.enum_tests s.seen.scopes name.bytes name.place ++ Tests.word_tests at (one_named counts))) (pure (typed.Enum at name)) s one r h in
    (pure-made made_by_specifier (typed.Enum at name) one s r go.1).0

sized_by : (all parts : TypedParts) (bracket : Place) (words : List Word) (v : Value) (o : Option ℕ) (s r : State) → sized_part all bracket words v o s ≡ Gives parts r
    → IsMadeWith made_by_parts (made_by_parts all ++ made_by v.expr) s parts r
unfolding sized_part
sized_by all parts bracket words v None s r h = never-gives parts (TooLarge v.place Types) s r h
sized_by all parts bracket words v (Some n) s r h = pure-made made_by_parts (typed.AndSizedArray all bracket words v.expr n) parts s r h

sized-made : (all parts : TypedParts) (bracket : Place) (words : List Word) (v : Value) (s r : State) → sized all bracket words v s ≡ Gives parts r
    → IsMadeWith made_by_parts (made_by_parts all ++ made_by v.expr) s parts r
unfolding sized
sized-made all parts bracket words v s r h =
    let go = unless-gives (first_broken (Tests.array_size_tests s.table v.place (AsValue v.expr)))
    (by_known (λ (q : State). sized_part all bracket words v (size_given (constant_value q.table v.expr)))) s parts r h in
    sized_by all parts bracket words v (size_given (constant_value s.table v.expr)) s r go.1

-- a member with its type
record IsMemberMade (all : TypedMemberDeclarators) (form : TypedForm) (made : TypedMemberDeclarators) (s r : State) : Type 0 where
  pub type : TypeId
  pub whole : made_by_member_declarators made ≡ made_by_member_declarators all ++ made_by_form form type
  pub node : r.seen.node ≡ s.seen.node

member-made : (names : List Scopes.Name) (all made : TypedMemberDeclarators) (form : TypedForm) (base : TypeId) (o : Option Identifier) (s r : State)
    → member_named names all form base o s ≡ Gives made r → IsMemberMade all form made s r
unfolding member_named member_type
member-made names all made form base None s r h = never-gives made (TooLarge nowhere Types) s r h
member-made names all made form base (Some name) s r h =
    let check : TypeId → Judging TypeId = λ u q. unless (first_broken (Tests.member_type_tests q.table q.seen.scopes u name.place)) (pure u) q in
    let finish : TypeId → Judging TypedMemberDeclarators = λ u. pure (typed.AndDeclarator all (typed.Declares form u)) in
    let go = unless-gives (first_broken (Tests.member_name_tests (has_name names (Some name)) name.place))
    (λ (q : State). next (next (form_makes name.place Declarators.Written form base q) check) finish) s made r h in
    let one = bind-gives (next (form_makes name.place Declarators.Written form base s) check) finish made r go.1 in
    let two = bind-gives (form_makes name.place Declarators.Written form base s) check one.0 one.1 one.2 in
    let tested = unless-gives (first_broken (Tests.member_type_tests two.1.table two.1.seen.scopes two.0 name.place)) (pure two.0) two.1 one.0 one.1 two.3 in
    let kept = form-keeps name.place Declarators.Written form base s s.seen.node refl two.0 two.1 two.2 in
    let state : one.1.seen.node ≡ two.1.seen.node = ap (λ (q : State). q.seen.node) (sym (gives-state two.0 one.0 two.1 one.1 tested.1)) in
    given-same (λ (w : TypedMemberDeclarators) (q : State). IsMemberMade all form w s q) (typed.AndDeclarator all (typed.Declares form one.0)) made one.1 r one.3
    (record { type = one.0; whole = refl; node = state ∙ kept })

-- Stars and names

starred : Star → NodeId → TypedStar
starred star n = record { star = star; node = n }

stars-made : (at : Place) (stars : List Star) (all : List TypedStar) (s r : State) → stars_with_nodes at stars s ≡ Gives all r → Makes (made_by_stars all) s r
unfolding stars_with_nodes starred
stars-made at [] all s r h = given-same (λ (v : List TypedStar) (q : State). Makes (made_by_stars v) s q) [] all s r h refl
stars-made at (star ∷ stars) all s r h =
    let one = bind-gives (new_node at s) (λ n. stars_with_nodes at stars >>= (λ rest. pure (starred star n ∷ rest))) all r h in
    let node = node-made at one.0 s one.1 one.2 in
    let two = bind-gives (stars_with_nodes at stars one.1) (λ rest. pure (starred star one.0 ∷ rest)) all r one.3 in
    let rest = stars-made at stars two.0 one.1 two.1 two.2 in
    given-same (λ (v : List TypedStar) (q : State). Makes (made_by_stars v) s q) (starred star one.0 ∷ two.0) all two.1 r two.3
    (node.0, subst (λ (k : ℕ). Numbers (made_by_stars two.0) k two.1.seen.node) node.1 rest)

module _ (at : Place) (name : Identifier) (t : TypeId) (h : Home) (s r : State) where
  node_home : (f : NodeId → Home) → ((n : NodeId) → n.0 ≡ s.seen.node → (m : State) → m.seen.node ≡ s.seen.node + 1 → Makes (Name name (f n) t ∷ []) s m)
      → next (new_node at s) (λ n. pure (f n)) ≡ Gives h r → Makes (Name name h t ∷ []) s r
  node_home f last q =
      let one = bind-gives (new_node at s) (λ n. pure (f n)) h r q in
      let node = node-made at one.0 s one.1 one.2 in
      given-same (λ (v : Home) (m : State). Makes (Name name v t ∷ []) s m) (f one.0) h one.1 r one.3 (last one.0 node.0 one.1 node.1)

  home-made : (which : Naming) → home_as at which s ≡ Gives h r → Makes (Name name h t ∷ []) s r
  unfolding home_as
  home-made naming.None q = given-same (λ (v : Home) (m : State). Makes (Name name v t ∷ []) s m) home.None h s r q refl
  home-made naming.Static q = node_home home.Static (λ n a m b. (a, b)) q
  home-made naming.Local q = node_home home.Local (λ n a m b. (a, b)) q
  home-made naming.Parameter q = node_home home.Parameter (λ n a m b. (a, b)) q
  home-made (naming.Known k) q = given-same (λ (v : Home) (m : State). Makes (Name name v t ∷ []) s m) (home.Known k) h s r q refl

-- Parameters

adjusted-made : (at : Place) (o : Option Place) (a : Option Adjusted) (s r : State) → adjusted_with_node at o s ≡ Gives a r → Makes (made_by_adjusted a) s r
unfolding adjusted_with_node
adjusted-made at None a s r h = given-same (λ (v : Option Adjusted) (q : State). Makes (made_by_adjusted v) s q) None a s r h refl
adjusted-made at (Some place) a s r h =
    let one = bind-gives (new_node at s) (λ n. pure (Some (made n))) a r h in
    let node = node-made at one.0 s one.1 one.2 in
    given-same (λ (v : Option Adjusted) (q : State). Makes (made_by_adjusted v) s q) (Some (made one.0)) a one.1 r one.3 (node.0, node.1)
  where
    made : NodeId → Adjusted
    made n = record { node = n; place = place }

makes-node : (at : Place) (a : Option Adjusted) (d : TypedDeclared) (base t : TypeId) (s r : State) → parameter_makes at a d base s ≡ Gives t r → r.seen.node ≡ s.seen.node
unfolding parameter_makes
makes-node at None d base t s r h = declared-keeps at Declarators.Written d base s s.seen.node refl t r h
makes-node at (Some adjusted) d base t s r h = adjusted-keeps at adjusted.node d base (Declarators.is_derived_declared d) s s.seen.node refl t r h

record IsParameterMade (list : TypedParameters) (own : TypedSpecifierList) (one : TypedDeclared) (made : TypedParameters) (s r : State) : Type 0 where
  pub type : TypeId
  pub adjusted : Option Adjusted
  pub whole : made_by_parameters made ≡ ((made_by_parameters list ++ made_by_specifier_list own) ++ made_by_declared one type) ++ made_by_adjusted adjusted
  pub node : Makes (made_by_adjusted adjusted) s r

parameter-made : (void : Bool) (at : Place) (adjusting : TypeShape → Option Place) (list made : TypedParameters) (own : TypedSpecifierList) (one : TypedDeclared) (s r : State)
    → parameter void at adjusting list (specified own) one s ≡ Gives made r → IsParameterMade list own one made s r
unfolding parameter
parameter-made void at adjusting list made own one s r h =
    let base : TypeId = listed own in
    let finish : Option Adjusted → TypeId → Judging TypedParameters = λ a u. pure (typed.AndParameter list (specified own) one a u) in
    let check : TypeId → Judging TypeId = λ u q.
    unless (first_broken (Tests.parameter_type_tests q.table q.seen.scopes void u at)) (parameter_declared at (declared_identifier one) (declared_home one) u) q in
    let go = unless-gives (first_broken (Tests.parameter_name_tests (is_here s.seen.scopes (declared_identifier one)) at))
    (λ (q : State). next (adjusted_with_node at (adjusting (shape_at q.table base)) q) (λ a. λ p. next (parameter_makes at a one base p) (λ u. λ w. next (check u w) (finish a)))) s made r h in
    let a = bind-gives (adjusted_with_node at (adjusting (shape_at s.table base)) s) (λ a. λ p. next (parameter_makes at a one base p) (λ u. λ w. next (check u w) (finish a))) made r go.1 in
    let nodes = adjusted-made at (adjusting (shape_at s.table base)) a.0 s a.1 a.2 in
    let t = bind-gives (parameter_makes at a.0 one base a.1) (λ u. λ w. next (check u w) (finish a.0)) made r a.3 in
    let u = bind-gives (check t.0 t.1) (finish a.0) made r t.3 in
    let tested = unless-gives (first_broken (Tests.parameter_type_tests t.1.table t.1.seen.scopes void t.0 at))
    (parameter_declared at (declared_identifier one) (declared_home one) t.0) t.1 u.0 u.1 u.2 in
    let kept = named-keeps at (declared_identifier one) (declared_home one) t.0 t.1 t.1.seen.node refl u.0 u.1 tested.1 in
    let stays = kept ∙ makes-node at a.0 one base t.0 a.1 t.1 t.2 in
    given-same (λ (w : TypedParameters) (q : State). IsParameterMade list own one w s q) (typed.AndParameter list (specified own) one a.0 u.0) made u.1 r u.3
    (record { type = u.0; adjusted = a.0; whole = refl; node = still (made_by_adjusted a.0) s a.1 u.1 stays nodes })

-- The recursion

pub left_same : {A : Type 0} (at : Place) (a b : A) (s r : State) → left at a s ≡ Gives b r → a ≡ b
unfolding left
left_same {A = A} at a b s r h = by (nat_lt 1 (length s.seen.scopes.levels)) h
  where
    by : (inner : Bool) → (if inner then Specifying.in_scopes leaving a s else Stops (TooLarge at Types) s) ≡ Gives b r → a ≡ b
    by true q = gives-value a b (_) r q
    by false q = never-gives b (TooLarge at Types) s r q

abbrev IsNumbering : tree.Expr → State → Type 0
IsNumbering e s = (o : Operand) (q : State) → judge false e s ≡ Gives o q → IsNumbered s.seen.node o.part q

pub value-makes : (e : tree.Expr) (v : Value) (s m : State) → IsKnown s → IsNumbering e s → next (judge false e s) value ≡ Gives v m → Makes (made_by v.expr) s m × IsKnown m
value-makes e v s m k ih h =
    let one = bind-gives (judge false e s) value v m h in
    let j = expr-judged e false one.0 s one.1 k one.2 in (
      value-numbered one.0 v s.seen.node one.1 m (whole_of one.1.table e one.0.part s.seen.scopes one.1.seen.scopes j.judged.part) (ih one.0 one.1 one.2) one.3,
      (value-here false e one.0 v s one.1 m j one.3).value.goes.known,
    )

pub operand-whole : (called : Bool) (e : tree.Expr) (o : Operand) (s m : State) → IsKnown s → judge called e s ≡ Gives o m → IsWhole o.part × IsKnown m
operand-whole called e o s m k h =
    let j = expr-judged e called o s m k h in
    (whole_of m.table e o.part s.seen.scopes m.seen.scopes j.judged.part, j.judged.goes.known)

prefix-makes : (operator : Unary) (at : Place) (x o : Operand) (a : ℕ) (s r : State) → IsWhole x.part → IsNumbered a x.part s → prefix operator at x s ≡ Gives o r → IsNumbered a o.part r
unfolding prefix target
prefix-makes unary.Increment at x o a s r w n h = before-numbered step.Increment at x o a s r n h
prefix-makes unary.Decrement at x o a s r w n h = before-numbered step.Decrement at x o a s r n h
prefix-makes unary.AddressOf at x o a s r w n h = address-numbered at x o a s r n h
prefix-makes unary.SizeOf at x o a s r w n h = size-numbered at x o a s r w n h
prefix-makes unary.Dereference at x o a s r w n h =
    let one = bind-gives (value x s) (target_of at) o r h in target-numbered at one.0 o a one.1 r (value-numbered x one.0 a s one.1 w n one.2) one.3
prefix-makes unary.Plus at x o a s r w n h =
    let one = bind-gives (value x s) (prefix_of unary.Plus at) o r h in prefix-numbered unary.Plus at one.0 o a one.1 r (value-numbered x one.0 a s one.1 w n one.2) one.3
prefix-makes unary.Minus at x o a s r w n h =
    let one = bind-gives (value x s) (prefix_of unary.Minus at) o r h in prefix-numbered unary.Minus at one.0 o a one.1 r (value-numbered x one.0 a s one.1 w n one.2) one.3
prefix-makes unary.Complement at x o a s r w n h =
    let one = bind-gives (value x s) (prefix_of unary.Complement at) o r h in prefix-numbered unary.Complement at one.0 o a one.1 r (value-numbered x one.0 a s one.1 w n one.2) one.3
prefix-makes unary.Not at x o a s r w n h =
    let one = bind-gives (value x s) (prefix_of unary.Not at) o r h in prefix-numbered unary.Not at one.0 o a one.1 r (value-numbered x one.0 a s one.1 w n one.2) one.3

update-makes : (operator : Assignment) (a : tree.Expr) (at : Place) (b : tree.Expr) (o : Operand) (s r : State) → IsKnown s → IsNumbering a s
    → ((m : State) → IsKnown m → IsNumbering b m)
    → next (judge false a s) (λ x. λ m. next (next (judge false b m) value) (λ y. Assignments.update_by operator x at y)) ≡ Gives o r → IsNumbered s.seen.node o.part r
update-makes operator a at b o s r k ia ib h =
    let one = bind-gives (judge false a s) (λ x. λ m. next (next (judge false b m) value) (λ y. Assignments.update_by operator x at y)) o r h in
    let x = operand-whole false a one.0 s one.1 k one.2 in
    let two = bind-gives (next (judge false b one.1) value) (λ y. Assignments.update_by operator one.0 at y) o r one.3 in
    let y = value-makes b two.0 one.1 two.1 x.1 (ib one.1 x.1) two.2 in
    update-numbered operator one.0 at two.0 o s.seen.node one.1.seen.node two.1 r (ia one.0 one.1 one.2) y.0 two.3

mutual
  unfolding judge judge_arguments judge_type_name judge_list judge_specifier judge_members judge_member_declarators judge_enumerators judge_form judge_core judge_parts judge_parameters judge_declared

  pub expr-makes : (e : tree.Expr) (called : Bool) (o : Operand) (s r : State) → IsKnown s → judge called e s ≡ Gives o r → IsNumbered s.seen.node o.part r
  expr-makes (tree.Name word) called o s r k h = name-numbered called word o s r h
  expr-makes (tree.Integer of n at) called o s r k h = integer-numbered of n at o s r h
  expr-makes (tree.Character n at) called o s r k h = character-numbered n at o s r h
  expr-makes (tree.String pieces) called o s r k h = literal-numbered pieces o s r h
  expr-makes (tree.Paren at e) called o s r k h =
      let one = bind-gives (judge called e s) (Operations.paren at) o r h in
      paren-numbered at one.0 o s.seen.node one.1 r (expr-makes e called one.0 s one.1 k one.2) one.3
  expr-makes (tree.Index a at b) called o s r k h =
      let one = bind-gives (next (judge false a s) value) (λ x. λ m. next (next (judge false b m) value) (λ y. Operations.index x at y)) o r h in
      let x = value-makes a one.0 s one.1 k (λ p q t. expr-makes a false p s q k t) one.2 in
      let two = bind-gives (next (judge false b one.1) value) (λ y. Operations.index one.0 at y) o r one.3 in
      let y = value-makes b two.0 one.1 two.1 x.1 (λ p q t. expr-makes b false p one.1 q x.1 t) two.2 in
      index-numbered one.0 at two.0 o s.seen.node two.1 r (then_makes (made_by one.0.expr) (made_by two.0.expr) s one.1 two.1 x.0 y.0) two.3
  expr-makes (tree.Call f at all) called o s r k h =
      let one = bind-gives (judge true f s) (λ x. λ m. next (value x m) (λ g. λ n. next (judge_arguments all n) (λ values. Assignments.call g at values))) o r h in
      let x = operand-whole true f one.0 s one.1 k one.2 in
      let two = bind-gives (value one.0 one.1) (λ g. λ n. next (judge_arguments all n) (λ values. Assignments.call g at values)) o r one.3 in
      let g = value-numbered one.0 two.0 s.seen.node one.1 two.1 x.0 (expr-makes f true one.0 s one.1 k one.2) two.2 in
      let known = (value-here true f one.0 two.0 s one.1 two.1 (expr-judged f true one.0 s one.1 k one.2) two.2).value.goes.known in
      let three = bind-gives (judge_arguments all two.1) (λ values. Assignments.call two.0 at values) o r two.3 in
      let args = arguments-make all three.0 two.1 three.1 known three.2 in
      call-numbered two.0 at three.0 o s.seen.node two.1.seen.node three.1 r g args three.3
  expr-makes (tree.Member e member.Dot at name) called o s r k h =
      let one = bind-gives (judge false e s) (λ x. Operations.member x at name) o r h in
      member-numbered one.0 at name o s.seen.node one.1 r (expr-makes e false one.0 s one.1 k one.2) one.3
  expr-makes (tree.Member e member.Arrow at name) called o s r k h =
      let one = bind-gives (next (judge false e s) value) (λ x. Operations.pointed_member x at name) o r h in
      let x = value-makes e one.0 s one.1 k (λ p q t. expr-makes e false p s q k t) one.2 in
      pointed-numbered one.0 at name o s.seen.node one.1 r x.0 one.3
  expr-makes (tree.Postfix e operator at) called o s r k h =
      let one = bind-gives (judge false e s) (Operations.step_after operator at) o r h in
      after-numbered operator at one.0 o s.seen.node one.1 r (expr-makes e false one.0 s one.1 k one.2) one.3
  expr-makes (tree.Prefix operator at e) called o s r k h =
      let one = bind-gives (judge false e s) (prefix operator at) o r h in
      let x = operand-whole false e one.0 s one.1 k one.2 in
      prefix-makes operator at one.0 o s.seen.node one.1 r x.0 (expr-makes e false one.0 s one.1 k one.2) one.3
  expr-makes (tree.SizeOfType at paren name) called o s r k h =
      let one = bind-gives (judge_type_name name s) (Assignments.size_of_type at paren) o r h in
      size_of_type-numbered at paren one.0 o s.seen.node one.1 r (type_name-makes name one.0 s one.1 k one.2) one.3
  expr-makes (tree.Cast at name e) called o s r k h =
      let one = bind-gives (judge_type_name name s) (λ to. λ m. next (judge false e m) (λ x. Assignments.cast at to x)) o r h in
      let known = (type_name-judged name one.0 s one.1 k one.2).goes.known in
      let two = bind-gives (judge false e one.1) (λ x. Assignments.cast at one.0 x) o r one.3 in
      let x = operand-whole false e two.0 one.1 two.1 known two.2 in
      cast-numbered at one.0 two.0 o s.seen.node one.1.seen.node two.1 r x.0 (type_name-makes name one.0 s one.1 k one.2) (expr-makes e false two.0 one.1 two.1 known two.2) two.3
  expr-makes (tree.Infix operator a at b) called o s r k h =
      let one = bind-gives (next (judge false a s) value) (λ x. λ m. next (next (judge false b m) value) (λ y. Operations.infix_of operator x at y)) o r h in
      let x = value-makes a one.0 s one.1 k (λ p q t. expr-makes a false p s q k t) one.2 in
      let two = bind-gives (next (judge false b one.1) value) (λ y. Operations.infix_of operator one.0 at y) o r one.3 in
      let y = value-makes b two.0 one.1 two.1 x.1 (λ p q t. expr-makes b false p one.1 q x.1 t) two.2 in
      infix-numbered operator one.0 at two.0 o s.seen.node two.1 r (then_makes (made_by one.0.expr) (made_by two.0.expr) s one.1 two.1 x.0 y.0) two.3
  expr-makes (tree.Conditional c at a b) called o s r k h =
      let one = bind-gives (next (judge false c s) value)
      (λ z. λ m. next (next (judge false a m) value) (λ x. λ n. next (next (judge false b n) value) (λ y. Assignments.choice z at x y))) o r h in
      let z = value-makes c one.0 s one.1 k (λ p q t. expr-makes c false p s q k t) one.2 in
      let two = bind-gives (next (judge false a one.1) value) (λ x. λ n. next (next (judge false b n) value) (λ y. Assignments.choice one.0 at x y)) o r one.3 in
      let x = value-makes a two.0 one.1 two.1 z.1 (λ p q t. expr-makes a false p one.1 q z.1 t) two.2 in
      let three = bind-gives (next (judge false b two.1) value) (λ y. Assignments.choice one.0 at two.0 y) o r two.3 in
      let y = value-makes b three.0 two.1 three.1 x.1 (λ p q t. expr-makes b false p two.1 q x.1 t) three.2 in
      choice-numbered one.0 at two.0 three.0 o s.seen.node three.1 r
      (then_makes (made_by one.0.expr ++ made_by two.0.expr) (made_by three.0.expr) s two.1 three.1
      (then_makes (made_by one.0.expr) (made_by two.0.expr) s one.1 two.1 z.0 x.0) y.0) three.3
  expr-makes (tree.Assign assignment.Assign a at b) called o s r k h =
      let one = bind-gives (judge false a s) (λ x. λ m. next (judge false b m) (λ y. Assignments.assign x at y)) o r h in
      let x = operand-whole false a one.0 s one.1 k one.2 in
      let two = bind-gives (judge false b one.1) (λ y. Assignments.assign one.0 at y) o r one.3 in
      let y = operand-whole false b two.0 one.1 two.1 x.1 two.2 in
      assign-numbered one.0 at two.0 o s.seen.node one.1.seen.node two.1 r y.0 (expr-makes a false one.0 s one.1 k one.2) (expr-makes b false two.0 one.1 two.1 x.1 two.2) two.3
  expr-makes (tree.Assign operator a at b) called o s r k h =
      update-makes operator a at b o s r k (λ p q t. expr-makes a false p s q k t) (λ m known p q t. expr-makes b false p m q known t) h
  expr-makes (tree.Comma a b) called o s r k h =
      let one = bind-gives (next (judge false a s) value) (λ x. λ m. next (next (judge false b m) value) (λ y. Assignments.comma x y)) o r h in
      let x = value-makes a one.0 s one.1 k (λ p q t. expr-makes a false p s q k t) one.2 in
      let two = bind-gives (next (judge false b one.1) value) (λ y. Assignments.comma one.0 y) o r one.3 in
      let y = value-makes b two.0 one.1 two.1 x.1 (λ p q t. expr-makes b false p one.1 q x.1 t) two.2 in
      comma-numbered one.0 two.0 o s.seen.node two.1 r (then_makes (made_by one.0.expr) (made_by two.0.expr) s one.1 two.1 x.0 y.0) two.3
  expr-makes (tree.Compound at name brace) called o s r k h = never-gives o (TooLarge nowhere Types) s r h
  expr-makes (tree.SizeOfCompound at paren name brace) called o s r k h = never-gives o (TooLarge nowhere Types) s r h

  pub arguments-make : (all : tree.Arguments) (values : List Value) (s r : State) → IsKnown s → judge_arguments all s ≡ Gives values r → Makes (made_by_values values) s r
  arguments-make tree.NoArgument values s r k h = given-same (λ (v : List Value) (q : State). Makes (made_by_values v) s q) [] values s r h refl
  arguments-make (tree.AndArgument all e) values s r k h =
      let one = bind-gives (judge_arguments all s) (λ before. λ m. next (next (judge false e m) value) (λ v. pure (before ++ v ∷ []))) values r h in
      let before = arguments-make all one.0 s one.1 k one.2 in
      let known = (arguments-judged all one.0 s one.1 k one.2).1.known in
      let two = bind-gives (next (judge false e one.1) value) (λ v. pure (one.0 ++ v ∷ [])) values r one.3 in
      let v = value-makes e two.0 one.1 two.1 known (λ p q t. expr-makes e false p one.1 q known t) two.2 in
      given-same (λ (w : List Value) (q : State). Makes (made_by_values w) s q) (one.0 ++ two.0 ∷ []) values two.1 r two.3
      (made-as (made_by_values (one.0 ++ two.0 ∷ [])) (made_by_values one.0 ++ made_by two.0.expr) s.seen.node two.1.seen.node (values_last one.0 two.0)
      (then_makes (made_by_values one.0) (made_by two.0.expr) s one.1 two.1 before v.0))

  pub type_name-makes : (name : tree.TypeName) (made : TypedTypeName) (s r : State) → IsKnown s → judge_type_name name s ≡ Gives made r → Makes (made_by_type_name made) s r
  type_name-makes (tree.Named specifiers d) made s r k h =
      let at = declared_place specifiers d in
      let one = bind-gives (judge_list specifiers s) (λ list. λ m. next (judge_declared naming.None at d m)
      (λ v. λ n. next (declared_makes at Declarators.Written v (listed list) n) (λ t. pure (typed.Named (specified list) v t)))) made r h in
      let known = (specifiers-judged specifiers one.0 s one.1 k one.2).goes.known in
      let two = bind-gives (judge_declared naming.None at d one.1)
      (λ v. λ n. next (declared_makes at Declarators.Written v (listed one.0) n) (λ t. pure (typed.Named (specified one.0) v t))) made r one.3 in
      let three = bind-gives (declared_makes at Declarators.Written two.0 (listed one.0) two.1) (λ t. pure (typed.Named (specified one.0) two.0 t)) made r two.3 in
      let stays = declared-keeps at Declarators.Written two.0 (listed one.0) two.1 two.1.seen.node refl three.0 three.1 three.2 in
      given-same (λ (v : TypedTypeName) (q : State). Makes (made_by_type_name v) s q) (typed.Named (specified one.0) two.0 three.0) made three.1 r three.3
      (then_makes (made_by_specifier_list one.0) (made_by_declared two.0 three.0) s one.1 three.1 (specifiers-make specifiers one.0 s one.1 k one.2)
      (still (made_by_declared two.0 three.0) one.1 two.1 three.1 stays (declared-make d naming.None at two.0 three.0 one.1 two.1 known two.2)))

  pub specifiers-make : (all : tree.Specifiers) (list : TypedSpecifierList) (s r : State) → IsKnown s → judge_list all s ≡ Gives list r → Makes (made_by_specifier_list list) s r
  specifiers-make tree.NoSpecifier list s r k h = given-same (λ (v : TypedSpecifierList) (q : State). Makes (made_by_specifier_list v) s q) typed.NoSpecifier list s r h refl
  specifiers-make (tree.AndSpecifier all specifier) list s r k h =
      let one = bind-gives (judge_list all s) (λ l. λ m. next (judge_specifier (counted l) specifier m) (λ v. pure (typed.AndSpecifier l v))) list r h in
      let known = (specifiers-judged all one.0 s one.1 k one.2).goes.known in
      let two = bind-gives (judge_specifier (counted one.0) specifier one.1) (λ v. pure (typed.AndSpecifier one.0 v)) list r one.3 in
      given-same (λ (v : TypedSpecifierList) (q : State). Makes (made_by_specifier_list v) s q) (typed.AndSpecifier one.0 two.0) list two.1 r two.3
      (then_makes (made_by_specifier_list one.0) (made_by_specifier two.0) s one.1 two.1 (specifiers-make all one.0 s one.1 k one.2)
      (specifier-makes specifier (counted one.0) two.0 one.1 two.1 known two.2))

  pub specifier-makes : (specifier : tree.Specifier) (counts : Counted) (one : TypedSpecifier) (s r : State) → IsKnown s → judge_specifier counts specifier s ≡ Gives one r
      → Makes (made_by_specifier one) s r
  specifier-makes (tree.Keyword word) counts one s r k h =
      made-as (made_by_specifier one) [] s.seen.node r.seen.node (word-made counts word one s r h) (word-keeps counts word s s.seen.node refl one r h)
  specifier-makes (tree.Typedef name) counts one s r k h =
      made-as (made_by_specifier one) [] s.seen.node r.seen.node (typedef-made counts name one s r h) (typedef_name-keeps counts name s s.seen.node refl one r h)
  specifier-makes (tree.Tagged which at name) counts one s r k h =
      made-as (made_by_specifier one) [] s.seen.node r.seen.node (tagged-made counts which at name one s r h) (tagged-keeps counts which at name s s.seen.node refl one r h)
  specifier-makes (tree.Aggregate which at name brace members) counts one s r k h =
      let start = bind-gives (begun which at name s) (λ t. λ m. next (judge_members members m) (λ rows. ended counts which at name brace t rows)) one r h in
      let b = begun-judged which at name start.0 s start.1 k start.2 in
      let kept = begun-keeps which at name s s.seen.node refl start.0 start.1 start.2 in
      let rows = bind-gives (judge_members members start.1) (λ v. ended counts which at name brace start.0 v) one r start.3 in
      let made = members-make members rows.0 start.1 rows.1 (begun_goes which name start.0 s start.1 b).known rows.2 in
      let stays = ended-keeps counts which at name brace start.0 rows.0 rows.1 rows.1.seen.node refl one r rows.3 in
      made-as (made_by_specifier one) (made_by_members rows.0) s.seen.node r.seen.node (ended-made counts which at name brace start.0 rows.0 one rows.1 r rows.3)
      (still (made_by_members rows.0) s rows.1 r stays (subst (λ (n : ℕ). Numbers (made_by_members rows.0) n rows.1.seen.node) kept made))
  specifier-makes (tree.Enum at name) counts one s r k h =
      made-as (made_by_specifier one) [] s.seen.node r.seen.node (enum-made counts at name one s r h) (enum-keeps counts at name s s.seen.node refl one r h)
  specifier-makes (tree.Enumeration at name brace all comma) counts one s r k h =
      let start = bind-gives (enumeration_begun name s) (λ f. λ m. next (judge_enumerators all m) (λ list. enumeration counts at name brace list comma)) one r h in
      let b = enumeration_begun-judged name start.0 s start.1 k start.2 in
      let kept = begun_enumeration-keeps name s s.seen.node refl start.0 start.1 start.2 in
      let two = bind-gives (judge_enumerators all start.1) (λ list. enumeration counts at name brace list comma) one r start.3 in
      let made = enumerators-make all two.0 start.1 two.1 b.1.known two.2 in
      makes-with made_by_specifier (made_by_enumerators two.0) one s two.1 r (enumeration-made counts at name brace two.0 comma one two.1 r two.3)
      (subst (λ (n : ℕ). Numbers (made_by_enumerators two.0) n two.1.seen.node) kept made)

  pub members-make : (all : tree.Members) (rows : TypedMembers) (s r : State) → IsKnown s → judge_members all s ≡ Gives rows r → Makes (made_by_members rows) s r
  members-make tree.NoMember rows s r k h = given-same (λ (v : TypedMembers) (q : State). Makes (made_by_members v) s q) typed.NoMember rows s r h refl
  members-make (tree.AndMember all specifiers declarators) rows s r k h =
      let one = bind-gives (judge_members all s) (λ a. λ m. next (judge_list specifiers m)
      (λ l. λ n. next (judge_member_declarators (listed l) (member_names a) declarators n) (λ row. pure (typed.AndMember a (specified l) row)))) rows r h in
      let known = (members-judged all one.0 s one.1 k one.2).goes.known in
      let two = bind-gives (judge_list specifiers one.1)
      (λ l. λ n. next (judge_member_declarators (listed l) (member_names one.0) declarators n) (λ row. pure (typed.AndMember one.0 (specified l) row))) rows r one.3 in
      let l = specifiers-judged specifiers two.0 one.1 two.1 known two.2 in
      let named = list-typed specifiers two.0 one.1 two.1 l in
      let three = bind-gives (judge_member_declarators (listed two.0) (member_names one.0) declarators two.1) (λ row. pure (typed.AndMember one.0 (specified two.0) row)) rows r two.3 in
      given-same (λ (v : TypedMembers) (q : State). Makes (made_by_members v) s q) (typed.AndMember one.0 (specified two.0) three.0) rows three.1 r three.3
      (then_makes (made_by_members one.0 ++ made_by_specifier_list two.0) (made_by_member_declarators three.0) s two.1 three.1
      (then_makes (made_by_members one.0) (made_by_specifier_list two.0) s one.1 two.1 (members-make all one.0 s one.1 k one.2) (specifiers-make specifiers two.0 one.1 two.1 known two.2))
      (row-makes declarators (listed two.0) (member_names one.0) three.0 two.1 three.1 l.goes.known named.1 three.2))

  pub row-makes : (all : tree.MemberDeclarators) (base : TypeId) (names : List Scopes.Name) (row : TypedMemberDeclarators) (s r : State) → IsKnown s → IsType s.table base
      → judge_member_declarators base names all s ≡ Gives row r → Makes (made_by_member_declarators row) s r
  row-makes tree.NoDeclarator base names row s r k b h =
      given-same (λ (v : TypedMemberDeclarators) (q : State). Makes (made_by_member_declarators v) s q) typed.NoDeclarator row s r h refl
  row-makes (tree.AndDeclarator all d) base names row s r k b h =
      let at = name_place (declarator_name d) nowhere in
      let one = bind-gives (judge_member_declarators base names all s)
      (λ v. λ m. next (judge_form naming.None at d m) (λ form. member_named (names ++ declarator_names v) v form base (declarator_name d))) row r h in
      let known = (row-judged all base names one.0 s one.1 k b one.2).goes.known in
      let two = bind-gives (judge_form naming.None at d one.1) (λ form. member_named (names ++ declarator_names one.0) one.0 form base (declarator_name d)) row r one.3 in
      let made = member-made (names ++ declarator_names one.0) one.0 row two.0 base (declarator_name d) two.1 r two.3 in
      made-as (made_by_member_declarators row) (made_by_member_declarators one.0 ++ made_by_form two.0 made.type) s.seen.node r.seen.node made.whole
      (still (made_by_member_declarators one.0 ++ made_by_form two.0 made.type) s two.1 r made.node
      (then_makes (made_by_member_declarators one.0) (made_by_form two.0 made.type) s one.1 two.1 (row-makes all base names one.0 s one.1 k b one.2)
      (form-makes d naming.None at two.0 made.type one.1 two.1 known two.2)))
  row-makes (tree.AndBitField all d) base names row s r k b h = never-gives row (TooLarge nowhere Types) s r h
  row-makes (tree.AndUnnamedBitField all) base names row s r k b h = never-gives row (TooLarge nowhere Types) s r h

  pub enumerators-make : (all : tree.Enumerators) (list : TypedEnumerators) (s r : State) → IsKnown s → judge_enumerators all s ≡ Gives list r → Makes (made_by_enumerators list) s r
  enumerators-make tree.NoEnumerator list s r k h = given-same (λ (v : TypedEnumerators) (q : State). Makes (made_by_enumerators v) s q) typed.NoEnumerator list s r h refl
  enumerators-make (tree.AndEnumerator all name) list s r k h =
      let one = bind-gives (judge_enumerators all s) (λ l. enumerator l name) list r h in
      makes-with made_by_enumerators (made_by_enumerators one.0) list s one.1 r (enumerator-made one.0 list name one.1 r one.3) (enumerators-make all one.0 s one.1 k one.2)
  enumerators-make (tree.AndValued all name at e) list s r k h =
      let one = bind-gives (judge_enumerators all s) (λ l. λ m. next (next (judge false e m) value) (λ v. valued_enumerator l name at v)) list r h in
      let known = (enumerators-judged all one.0 s one.1 k one.2).goes.known in
      let two = bind-gives (next (judge false e one.1) value) (λ v. valued_enumerator one.0 name at v) list r one.3 in
      let v = value-makes e two.0 one.1 two.1 known (λ p q t. expr-makes e false p one.1 q known t) two.2 in
      makes-with made_by_enumerators (made_by_enumerators one.0 ++ made_by two.0.expr) list s two.1 r (valued-made one.0 list name at two.0 two.1 r two.3)
      (then_makes (made_by_enumerators one.0) (made_by two.0.expr) s one.1 two.1 (enumerators-make all one.0 s one.1 k one.2) v.0)

  -- whatever the type of the name is
  pub form-makes : (d : tree.Declarator) (which : Naming) (at : Place) (form : TypedForm) (t : TypeId) (s r : State) → IsKnown s → judge_form which at d s ≡ Gives form r
      → Makes (made_by_form form t) s r
  form-makes (tree.Declares stars core parts) which at form t s r k h =
      let one = bind-gives (stars_with_nodes at stars s) (λ l. λ m. next (judge_core which at core m) (λ c. λ n. next (judge_parts at parts n) (λ a. pure (typed.Form l c a)))) form r h in
      let first = stars-judged at stars one.0 s one.1 k one.2 in
      let two = bind-gives (judge_core which at core one.1) (λ c. λ n. next (judge_parts at parts n) (λ a. pure (typed.Form one.0 c a))) form r one.3 in
      let known = (core-judged core which at two.0 one.1 two.1 first.1.goes.known two.2).goes.known in
      let three = bind-gives (judge_parts at parts two.1) (λ a. pure (typed.Form one.0 two.0 a)) form r two.3 in
      given-same (λ (v : TypedForm) (q : State). Makes (made_by_form v t) s q) (typed.Form one.0 two.0 three.0) form three.1 r three.3
      (then_makes (made_by_stars one.0 ++ made_by_core two.0 t) (made_by_parts three.0) s two.1 three.1
      (then_makes (made_by_stars one.0) (made_by_core two.0 t) s one.1 two.1 (stars-made at stars one.0 s one.1 one.2)
      (core-makes core which at two.0 t one.1 two.1 first.1.goes.known two.2))
      (parts-make parts at three.0 two.1 three.1 known three.2))

  pub core-makes : (d : tree.Core) (which : Naming) (at : Place) (core : TypedCore) (t : TypeId) (s r : State) → IsKnown s → judge_core which at d s ≡ Gives core r
      → Makes (made_by_core core t) s r
  core-makes (tree.Names name) which at core t s r k h =
      let one = bind-gives (home_as at which s) (λ v. pure (typed.Names name v)) core r h in
      given-same (λ (v : TypedCore) (q : State). Makes (made_by_core v t) s q) (typed.Names name one.0) core one.1 r one.3 (home-made at name t one.0 s one.1 which one.2)
  core-makes tree.Unnamed which at core t s r k h = given-same (λ (v : TypedCore) (q : State). Makes (made_by_core v t) s q) typed.Unnamed core s r h refl
  core-makes (tree.Nested paren d) which at core t s r k h =
      let one = bind-gives (judge_form which at d s) (λ form. pure (typed.Nested paren form)) core r h in
      given-same (λ (v : TypedCore) (q : State). Makes (made_by_core v t) s q) (typed.Nested paren one.0) core one.1 r one.3 (form-makes d which at one.0 t s one.1 k one.2)

  pub parts-make : (all : tree.Parts) (at : Place) (parts : TypedParts) (s r : State) → IsKnown s → judge_parts at all s ≡ Gives parts r → Makes (made_by_parts parts) s r
  parts-make tree.NoPart at parts s r k h = given-same (λ (v : TypedParts) (q : State). Makes (made_by_parts v) s q) typed.NoPart parts s r h refl
  parts-make (tree.AndArray all bracket words) at parts s r k h =
      let one = bind-gives (judge_parts at all s) (λ p. pure (typed.AndArray p bracket words)) parts r h in
      given-same (λ (v : TypedParts) (q : State). Makes (made_by_parts v) s q) (typed.AndArray one.0 bracket words) parts one.1 r one.3 (parts-make all at one.0 s one.1 k one.2)
  parts-make (tree.AndSizedArray all bracket words e) at parts s r k h =
      let one = bind-gives (judge_parts at all s) (λ p. λ m. next (next (judge false e m) value) (λ v. sized p bracket words v)) parts r h in
      let known = (parts-judged all at one.0 s one.1 k one.2).goes.known in
      let two = bind-gives (next (judge false e one.1) value) (λ v. sized one.0 bracket words v) parts r one.3 in
      let v = value-makes e two.0 one.1 two.1 known (λ p q t. expr-makes e false p one.1 q known t) two.2 in
      makes-with made_by_parts (made_by_parts one.0 ++ made_by two.0.expr) parts s two.1 r (sized-made one.0 parts bracket words two.0 two.1 r two.3)
      (then_makes (made_by_parts one.0) (made_by two.0.expr) s one.1 two.1 (parts-make all at one.0 s one.1 k one.2) v.0)
  parts-make (tree.AndFunction all paren parameters) at parts s r k h =
      let void = is_void_alone parameters in
      let one = bind-gives (judge_parts at all s) (λ p. λ m. next (entered m)
      (λ b. λ i. next (stopped_outside (judge_parameters void parameters i)) (λ list. λ n. next (left at list n) (λ whole. pure (typed.AndFunction p paren whole))))) parts r h in
      let known = (parts-judged all at one.0 s one.1 k one.2).goes.known in
      let two = bind-gives (entered one.1)
      (λ b. λ i. next (stopped_outside (judge_parameters void parameters i)) (λ list. λ n. next (left at list n) (λ whole. pure (typed.AndFunction one.0 paren whole)))) parts r one.3 in
      let inside = entered-judged two.0 one.1 two.1 known two.2 in
      let kept = entered-keeps one.1 one.1.seen.node refl two.0 two.1 two.2 in
      let three = bind-gives (stopped_outside (judge_parameters void parameters two.1)) (λ list. λ n. next (left at list n) (λ whole. pure (typed.AndFunction one.0 paren whole))) parts r two.3 in
      let made = parameters-make parameters void three.0 two.1 three.1 (void_self parameters) inside.1.known (outside-gives (judge_parameters void parameters two.1) three.0 three.1 three.2) in
      let four = bind-gives (left at three.0 three.1) (λ whole. pure (typed.AndFunction one.0 paren whole)) parts r three.3 in
      let out = left-keeps at three.0 three.1 three.1.seen.node refl four.0 four.1 four.2 in
      let same = left_same at three.0 four.0 three.1 four.1 four.2 in
      given-same (λ (v : TypedParts) (q : State). Makes (made_by_parts v) s q) (typed.AndFunction one.0 paren four.0) parts four.1 r four.3
      (then_makes (made_by_parts one.0) (made_by_parameters four.0) s one.1 four.1 (parts-make all at one.0 s one.1 k one.2)
      (still (made_by_parameters four.0) one.1 three.1 four.1 out (subst (λ (v : TypedParameters). Makes (made_by_parameters v) one.1 three.1) same
      (subst (λ (n : ℕ). Numbers (made_by_parameters three.0) n three.1.seen.node) kept made))))

  pub parameters-make : (all : tree.Parameters) (void : Bool) (list : TypedParameters) (s r : State) → IsVoidOf void all → IsKnown s
      → judge_parameters void all s ≡ Gives list r → Makes (made_by_parameters list) s r
  parameters-make tree.NoParameter void list s r fits k h = given-same (λ (v : TypedParameters) (q : State). Makes (made_by_parameters v) s q) typed.NoParameter list s r h refl
  parameters-make (tree.AndParameter all specifiers d) void list s r fits k h =
      let at = declared_place specifiers d in
      let adjusting : TypeShape → Option Place = λ base. adjusted_at (derived_by_declared d) base (typedef_place specifiers) in
      let before = first_alone void all specifiers d fits in
      let one = bind-gives (judge_parameters void all s) (λ a. λ m. next (judge_list specifiers m)
      (λ own. λ n. next (judge_declared naming.Parameter at d n) (λ v. parameter void at adjusting a (specified own) v))) list r h in
      let known = (parameters-judged all void one.0 s one.1 before k one.2).goes.known in
      let two = bind-gives (judge_list specifiers one.1)
      (λ own. λ n. next (judge_declared naming.Parameter at d n) (λ v. parameter void at adjusting one.0 (specified own) v)) list r one.3 in
      let there = (specifiers-judged specifiers two.0 one.1 two.1 known two.2).goes.known in
      let three = bind-gives (judge_declared naming.Parameter at d two.1) (λ v. parameter void at adjusting one.0 (specified two.0) v) list r two.3 in
      let made = parameter-made void at adjusting one.0 list two.0 three.0 three.1 r three.3 in
      let first = made_by_parameters one.0 ++ made_by_specifier_list two.0 in
      made-as (made_by_parameters list) (((made_by_parameters one.0 ++ made_by_specifier_list two.0) ++ made_by_declared three.0 made.type) ++ made_by_adjusted made.adjusted)
      s.seen.node r.seen.node made.whole
      (then_makes ((made_by_parameters one.0 ++ made_by_specifier_list two.0) ++ made_by_declared three.0 made.type) (made_by_adjusted made.adjusted) s three.1 r
      (then_makes (made_by_parameters one.0 ++ made_by_specifier_list two.0) (made_by_declared three.0 made.type) s two.1 three.1
      (then_makes (made_by_parameters one.0) (made_by_specifier_list two.0) s one.1 two.1 (parameters-make all void one.0 s one.1 before k one.2)
      (specifiers-make specifiers two.0 one.1 two.1 known two.2))
      (declared-make d naming.Parameter at three.0 made.type two.1 three.1 there three.2)) made.node)

  pub declared-make : (d : tree.Declared) (which : Naming) (at : Place) (one : TypedDeclared) (t : TypeId) (s r : State) → IsKnown s → judge_declared which at d s ≡ Gives one r
      → Makes (made_by_declared one t) s r
  declared-make tree.NotDeclared which at one t s r k h = given-same (λ (v : TypedDeclared) (q : State). Makes (made_by_declared v t) s q) typed.NotDeclared one s r h refl
  declared-make (tree.DeclaredBy d) which at one t s r k h =
      let two = bind-gives (judge_form which at d s) (λ form. pure (typed.DeclaredBy form)) one r h in
      given-same (λ (v : TypedDeclared) (q : State). Makes (made_by_declared v t) s q) (typed.DeclaredBy two.0) one two.1 r two.3 (form-makes d which at two.0 t s two.1 k two.2)

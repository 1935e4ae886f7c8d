-- What the steps of declarators and specifiers make, and what is counted of them.
use Rattle.std.proofs.Common.{◌≡◌, ℕ, ℤ, Bool, true, false, not, List, [], ◌∷◌, ◌++◌, Option, Some, None, refl, ap, sym, subst, ◌∙◌}
use Rattle.cc_base.specs.declared.place.Place.{Place}
use Rattle.cc_base.specs.declared.number.NodeId.{NodeId}
use Rattle.cc_base.specs.declared.number.TypeId.{TypeId}
use Rattle.cc_base.specs.declared.fault.Fault.TheVariants.{TooLarge, Refused}
use Rattle.cc_base.specs.declared.fault.Rule.TheVariants as rule
use Rattle.cc_base.specs.declared.fault.Limit.TheVariants.{Types}
use Rattle.c_types.specs.declared.shape.TypeShape.{TypeShape}
use Rattle.c_types.specs.declared.shape.TypeShape.TheVariants.{Void, Integer, Pointer, Array, Function, Struct, Union}
use Rattle.c_types.specs.Table.{Table, IsComplete, shape_at, members_at, is_aggregate_shape, is_complete_entry}
use Rattle.integers.specs.Arithmetic.{int, converted}
use Rattle.c_tree.specs.declared.leaf.Identifier.{Identifier}
use Rattle.c_tree.specs.declared.leaf.Star.{Star}
use Rattle.c_tree.specs.declared.leaf.Word.{Word}
use Rattle.c_tree.specs.declared.operator.AggregateKind.{AggregateKind}
use Rattle.c_tree.specs.declared.typed_word.Adjusted.{Adjusted}
use Rattle.c_tree.specs.declared.typed_word.Home.{Home}
use Rattle.c_tree.specs.declared.typed_word.Home.TheVariants as home
use Rattle.c_tree.specs.declared.typed_word.TypedStar.{TypedStar}
use Rattle.c_tree.specs.Places.{nowhere}
use Rattle.c_tree.specs.Tree as tree
use Rattle.c_tree.specs.TypedTree as typed
use Rattle.c_tree.specs.TypedTree.{TypedSpecifierList, TypedSpecifier, TypedMembers, TypedMemberDeclarators, TypedEnumerators, TypedForm, TypedParts, TypedParameters, TypedDeclared}
use Rattle.c_tree.specs.TypedParts.{Made, Name, Written, made_by, made_by_specifier_list, made_by_specifier, made_by_members, made_by_member_declarators, made_by_enumerators, made_by_stars, made_by_form, made_by_parts, made_by_parameters, made_by_adjusted, made_by_declared, declared_home}
use Rattle.c_typing.specs.declared.declared.Declared.{Declared}
use Rattle.c_typing.specs.declared.declared.Declared.TheVariants as declared
use Rattle.c_typing.specs.declared.naming.Naming.{Naming}
use Rattle.c_typing.specs.declared.naming.Naming.TheVariants as naming
use Rattle.c_typing.specs.Constants.{constant_value}
use Rattle.c_typing.specs.Declarators.{Counted, counted, counting_word}
use Rattle.c_typing.specs.Declarators
use Rattle.c_typing.specs.Declaring.{home_as, stars_with_nodes, size_given, sized_part, sized, form_makes, member_type, member_named, adjusted_with_node, parameter_makes, parameter_declared, parameter}
use Rattle.c_typing.specs.Judging.{State, Judging, Gives, next, ◌>>=◌, pure, unless, by_known, new_node}
use Rattle.c_typing.specs.Operands.{Value}
use Rattle.c_typing.specs.Refusals.{one_named, tag_place, is_empty_row, declared_identifier, is_here, is_void_alone, has_name}
use Rattle.c_typing.specs.Scopes.{Scopes, name_in, tag_in, declaring, is_complete_at, is_complete_shape_at}
use Rattle.c_typing.specs.Scopes
use Rattle.c_typing.specs.Specifying
use Rattle.c_typing.specs.Specifying.{specified, typedef_named, tagged_by, tagged_as, ended, is_taken_at_end, completed, enum_tag, enumerator, enumerator_with, valued_enumerator, enumeration}
use Rattle.c_typing.specs.Tests
use Rattle.c_typing.specs.Tests.{AsValue, first_broken, is_tag_of, has_some}
use Rattle.c_typing.specs.Typing.{tag_named_here, enumerated, is_taken_enumeration, next_value, last_value}
use Rattle.c_typing.specs.Walks.{listed, judge_declared}
use Rattle.c_cells_kept.proofs.StepsKept.{form-keeps, declared-keeps, adjusted-keeps, named-keeps}
use Rattle.c_typing_laws.proofs.ConstructLaws.{two_unbroken, not_false}
use Rattle.c_typing_laws.proofs.ExtensionLaws.{no_true}
use Rattle.c_cells_kept.specs.Counted.{Stays, Moves}
use Rattle.c_cells_kept.proofs.CellsMoved.{stays-refl, stays-same, stays-on, two-made, made-as, made-to, made-none, moves-none, node-stays}
use Rattle.c_cells_kept.proofs.WholeScopes.{constant_stays, enumerated_stays}
use Rattle.c_typing_laws.proofs.Outcomes.{bind-gives, unless-gives, gives-value, gives-state, never-gives}
use Rattle.c_typing_laws.proofs.ValuesTaken.{given-same}

-- One step each

abbrev pub IsMadeWith : {A : Type 0} → (A → List Made) → List Made → State → A → State → Type 0
IsMadeWith made xs s a r = (made a ≡ xs) × (Stays s r)

pure-made : {A : Type 0} (made : A → List Made) (x a : A) (s r : State) → Gives x s ≡ Gives a r → IsMadeWith made (made x) s a r
pure-made made x a s r h = given-same (IsMadeWith made (made x) s) x a s r h (refl, stays-refl s)

pub makes-with : {A : Type 0} (made : A → List Made) (xs : List Made) (a : A) (s m r : State) → IsMadeWith made xs m a r → Moves xs s m → Moves (made a) s r
makes-with made xs a s m r c h = made-as (made a) xs s r c.0 (made-to xs s m r c.1 h)

pub enumerator-made : (all list : TypedEnumerators) (name : Identifier) (s r : State) → enumerator all name s ≡ Gives list r → IsMadeWith made_by_enumerators (made_by_enumerators all) s list r
unfolding enumerator
enumerator-made all list name s r h =
    let value = next_value (last_value all) in
    let go = unless-gives (first_broken (Tests.enumerator_tests s.seen.scopes name.bytes name.place))
    (Specifying.in_scopes (declaring name.bytes (declared.Enumerator (next_value (last_value all)))) (typed.AndEnumerator all name (next_value (last_value all)))) s list r h in
    given-same (IsMadeWith made_by_enumerators (made_by_enumerators all) s) (typed.AndEnumerator all name (next_value (last_value all))) list (_) r go.1
    (refl, constant_stays name.bytes (declared.Enumerator (next_value (last_value all))) s s tt (stays-refl s))

valued_by : (all list : TypedEnumerators) (name : Identifier) (at : Place) (v : Value) (s r : State) (o : Option ℤ) → enumerator_with all name at v.expr o s ≡ Gives list r
    → IsMadeWith made_by_enumerators (made_by_enumerators all ++ made_by v.expr) s list r
unfolding enumerator_with
valued_by all list name at v s r None h = never-gives list (TooLarge name.place Types) s r h
valued_by all list name at v s r (Some z) h =
    given-same (IsMadeWith made_by_enumerators (made_by_enumerators all ++ made_by v.expr) s) (typed.AndValued all name at v.expr (converted int z)) list (_) r h
    (refl, constant_stays name.bytes (declared.Enumerator (converted int z)) s s tt (stays-refl s))

pub valued-made : (all list : TypedEnumerators) (name : Identifier) (at : Place) (v : Value) (s r : State) → valued_enumerator all name at v s ≡ Gives list r
    → IsMadeWith made_by_enumerators (made_by_enumerators all ++ made_by v.expr) s list r
unfolding valued_enumerator
valued-made all list name at v s r h =
    let go = unless-gives
    (first_broken (Tests.enumerator_tests s.seen.scopes name.bytes name.place ++ Tests.constant_tests s.table v.place (AsValue v.expr)))
    (by_known (λ (q : State). enumerator_with all name at v.expr (constant_value q.table v.expr))) s list r h in
    valued_by all list name at v s r (constant_value s.table v.expr) go.1

pub enumeration-made : (counts : Counted) (at : Place) (name : Option Identifier) (brace : Place) (list : TypedEnumerators) (comma : Bool) (one : TypedSpecifier) (s r : State)
    → enumeration counts at name brace list comma s ≡ Gives one r → IsMadeWith made_by_specifier (made_by_enumerators list) s one r
unfolding enumeration
enumeration-made counts at name brace list comma one s r h =
    let go = unless-gives
    (first_broken (Tests.enumeration_tests (is_taken_enumeration (tag_named_here s.seen.scopes name)) (tag_place at name) ++ Tests.word_tests at (one_named counts)))
    (Specifying.in_scopes (enumerated name) (typed.Enumeration at name brace list comma)) s one r h in
    given-same (IsMadeWith made_by_specifier (made_by_enumerators list) s) (typed.Enumeration at name brace list comma) one (_) r go.1
    (refl, enumerated_stays name s s (stays-refl s))

pub ended-made : (counts : Counted) (which : AggregateKind) (at : Place) (name : Option Identifier) (brace : Place) (o : Option TypeId) (rows : TypedMembers) (one : TypedSpecifier) (s r : State)
    → ended counts which at name brace o rows s ≡ Gives one r → made_by_specifier one ≡ made_by_members rows
unfolding ended
ended-made counts which at name brace o rows one s r h =
    let go = unless-gives (first_broken (Tests.aggregate_tests (is_taken_at_end s o) (tag_place at name) (is_empty_row rows) ++ Tests.word_tests at (one_named counts)))
    (λ (q : State). next (completed (tag_place at name) rows o q) (λ u. pure (typed.Aggregate which at name brace rows u))) s one r h in
    let two = bind-gives (completed (tag_place at name) rows o s) (λ u. pure (typed.Aggregate which at name brace rows u)) one r go.1 in
    ap made_by_specifier (sym (gives-value (typed.Aggregate which at name brace rows two.0) one two.1 r two.3))

pub word-made : (counts : Counted) (w : Word) (one : TypedSpecifier) (s r : State) → Specifying.word counts w s ≡ Gives one r → made_by_specifier one ≡ []
unfolding Specifying.word
word-made counts w one s r h =
    let go = unless-gives (first_broken (Tests.word_tests w.place (counting_word w.keyword counts))) (pure (typed.Keyword w)) s one r h in
    (pure-made made_by_specifier (typed.Keyword w) one s r go.1).0

typedef_by : (name : Identifier) (o : Option Declared) (one : TypedSpecifier) (s r : State) → typedef_named name o s ≡ Gives one r → made_by_specifier one ≡ []
unfolding typedef_named
typedef_by name (Some (declared.Typedef u)) one s r h = (pure-made made_by_specifier (typed.Typedef name u) one s r h).0
typedef_by name (Some (declared.Object u home)) one s r h = never-gives one (TooLarge name.place Types) s r h
typedef_by name (Some (declared.Function u)) one s r h = never-gives one (TooLarge name.place Types) s r h
typedef_by name (Some (declared.Enumerator k)) one s r h = never-gives one (TooLarge name.place Types) s r h
typedef_by name None one s r h = never-gives one (TooLarge name.place Types) s r h

pub typedef-made : (counts : Counted) (name : Identifier) (one : TypedSpecifier) (s r : State) → Specifying.typedef_name counts name s ≡ Gives one r → made_by_specifier one ≡ []
unfolding Specifying.typedef_name
typedef-made counts name one s r h =
    let go = unless-gives (first_broken (Tests.word_tests name.place (one_named counts))) (by_known (λ (q : State). typedef_named name (name_in q.seen.scopes.levels name.bytes))) s one r h in
    typedef_by name (name_in s.seen.scopes.levels name.bytes) one s r go.1

pub tagged-made : (counts : Counted) (which : AggregateKind) (at : Place) (name : Identifier) (one : TypedSpecifier) (s r : State) → Specifying.tagged counts which at name s ≡ Gives one r
    → made_by_specifier one ≡ []
unfolding Specifying.tagged tagged_by
tagged-made counts which at name one s r h =
    let go = unless-gives (first_broken (Tests.tag_tests s.seen.scopes (is_tag_of which) name.bytes name.place ++ Tests.word_tests at (one_named counts)))
    (λ (q : State). next (tagged_as which name (tag_in q.seen.scopes.levels name.bytes) q) (λ u. pure (typed.Tagged which at name u))) s one r h in
    let two = bind-gives (tagged_as which name (tag_in s.seen.scopes.levels name.bytes) s) (λ u. pure (typed.Tagged which at name u)) one r go.1 in
    (pure-made made_by_specifier (typed.Tagged which at name two.0) one two.1 r two.3).0

pub enum-made : (counts : Counted) (at : Place) (name : Identifier) (one : TypedSpecifier) (s r : State) → enum_tag counts at name s ≡ Gives one r → made_by_specifier one ≡ []
unfolding enum_tag
enum-made counts at name one s r h =
    let go = unless-gives (first_broken (Tests.enum_tests s.seen.scopes name.bytes name.place ++ Tests.word_tests at (one_named counts))) (pure (typed.Enum at name)) s one r h in
    (pure-made made_by_specifier (typed.Enum at name) one s r go.1).0

sized_by : (all parts : TypedParts) (bracket : Place) (words : List Word) (v : Value) (o : Option ℕ) (s r : State) → sized_part all bracket words v o s ≡ Gives parts r
    → IsMadeWith made_by_parts (made_by_parts all ++ made_by v.expr) s parts r
unfolding sized_part
sized_by all parts bracket words v None s r h = never-gives parts (TooLarge v.place Types) s r h
sized_by all parts bracket words v (Some n) s r h = pure-made made_by_parts (typed.AndSizedArray all bracket words v.expr n) parts s r h

pub sized-made : (all parts : TypedParts) (bracket : Place) (words : List Word) (v : Value) (s r : State) → sized all bracket words v s ≡ Gives parts r
    → IsMadeWith made_by_parts (made_by_parts all ++ made_by v.expr) s parts r
unfolding sized
sized-made all parts bracket words v s r h =
    let go = unless-gives (first_broken (Tests.array_size_tests s.table v.place (AsValue v.expr)))
    (by_known (λ (q : State). sized_part all bracket words v (size_given (constant_value q.table v.expr)))) s parts r h in
    sized_by all parts bracket words v (size_given (constant_value s.table v.expr)) s r go.1

-- a member with its type
pub record IsMemberMade (all : TypedMemberDeclarators) (form : TypedForm) (made : TypedMemberDeclarators) (s r : State) : Type 0 where
  pub type : TypeId
  pub whole : made_by_member_declarators made ≡ made_by_member_declarators all ++ made_by_form form type
  pub node : Stays s r

pub member-made : (names : List Scopes.Name) (all made : TypedMemberDeclarators) (form : TypedForm) (base : TypeId) (o : Option Identifier) (s r : State)
    → member_named names all form base o s ≡ Gives made r → IsMemberMade all form made s r
unfolding member_named member_type
member-made names all made form base None s r h = never-gives made (TooLarge nowhere Types) s r h
member-made names all made form base (Some name) s r h =
    let check : TypeId → Judging TypeId = λ u q. unless (first_broken (Tests.member_type_tests q.table q.seen.scopes u name.place)) (pure u) q in
    let finish : TypeId → Judging TypedMemberDeclarators = λ u. pure (typed.AndDeclarator all (typed.Declares form u)) in
    let go = unless-gives (first_broken (Tests.member_name_tests (has_name names (Some name)) name.place))
    (λ (q : State). next (next (form_makes name.place Declarators.Written form base q) check) finish) s made r h in
    let one = bind-gives (next (form_makes name.place Declarators.Written form base s) check) finish made r go.1 in
    let two = bind-gives (form_makes name.place Declarators.Written form base s) check one.0 one.1 one.2 in
    let tested = unless-gives (first_broken (Tests.member_type_tests two.1.table two.1.seen.scopes two.0 name.place)) (pure two.0) two.1 one.0 one.1 two.3 in
    let kept = form-keeps name.place Declarators.Written form base s s (stays-refl s) two.0 two.1 two.2 in
    let state = stays-same two.1 one.1 (gives-state two.0 one.0 two.1 one.1 tested.1) in
    given-same (λ (w : TypedMemberDeclarators) (q : State). IsMemberMade all form w s q) (typed.AndDeclarator all (typed.Declares form one.0)) made one.1 r one.3
    (record { type = one.0; whole = refl; node = stays-on s two.1 one.1 kept state })

-- Stars and names

starred : Star → NodeId → TypedStar
starred star n = record { star = star; node = n }

pub stars-made : (at : Place) (stars : List Star) (all : List TypedStar) (s r : State) → stars_with_nodes at stars s ≡ Gives all r → Moves (made_by_stars all) s r
unfolding stars_with_nodes starred
stars-made at [] all s r h = given-same (λ (v : List TypedStar) (q : State). Moves (made_by_stars v) s q) [] all s r h (moves-none s)
stars-made at (star ∷ stars) all s r h =
    let one = bind-gives (new_node at s) (λ n. stars_with_nodes at stars >>= (λ rest. pure (starred star n ∷ rest))) all r h in
    let node = node-stays at one.0 s one.1 one.2 in
    let two = bind-gives (stars_with_nodes at stars one.1) (λ rest. pure (starred star one.0 ∷ rest)) all r one.3 in
    let rest = stars-made at stars two.0 one.1 two.1 two.2 in
    given-same (λ (v : List TypedStar) (q : State). Moves (made_by_stars v) s q) (starred star one.0 ∷ two.0) all two.1 r two.3
    (two-made (Written star.place one.0 ∷ []) (made_by_stars two.0) s one.1 two.1 (made-none (Written star.place one.0 ∷ []) s one.1 (λ U. refl) node) rest)

module _ (at : Place) (name : Identifier) (t : TypeId) (h : Home) (s r : State) where
  node_home : (f : NodeId → Home) → next (new_node at s) (λ n. pure (f n)) ≡ Gives h r → Moves (Name name h t ∷ []) s r
  node_home f q =
      let one = bind-gives (new_node at s) (λ n. pure (f n)) h r q in
      made-none (Name name h t ∷ []) s r (λ U. refl)
      (subst (Stays s) (gives-state (f one.0) h one.1 r one.3) (node-stays at one.0 s one.1 one.2))

  home_known : (k : Home) → Gives k s ≡ Gives h r → Moves (Name name h t ∷ []) s r
  home_known k q = made-none (Name name h t ∷ []) s r (λ U. refl) (stays-same s r (gives-state k h s r q))

  pub home-made : (which : Naming) → home_as at which s ≡ Gives h r → Moves (Name name h t ∷ []) s r
  unfolding home_as
  home-made naming.None q = home_known home.None q
  home-made naming.Static q = node_home home.Static q
  home-made naming.Local q = node_home home.Local q
  home-made naming.Parameter q = node_home home.Parameter q
  home-made (naming.Known k) q = home_known (home.Known k) q

-- Parameters

adjusted-made : (at : Place) (o : Option Place) (a : Option Adjusted) (s r : State) → adjusted_with_node at o s ≡ Gives a r → Moves (made_by_adjusted a) s r
unfolding adjusted_with_node
adjusted-made at None a s r h = given-same (λ (v : Option Adjusted) (q : State). Moves (made_by_adjusted v) s q) None a s r h (moves-none s)
adjusted-made at (Some place) a s r h =
    let one = bind-gives (new_node at s) (λ n. pure (Some (made n))) a r h in
    let node = node-stays at one.0 s one.1 one.2 in
    given-same (λ (v : Option Adjusted) (q : State). Moves (made_by_adjusted v) s q) (Some (made one.0)) a one.1 r one.3
    (made-none (Written place one.0 ∷ []) s one.1 (λ U. refl) node)
  where
    made : NodeId → Adjusted
    made n = record { node = n; place = place }

makes-node : (at : Place) (a : Option Adjusted) (d : TypedDeclared) (base t : TypeId) (s r : State) → parameter_makes at a d base s ≡ Gives t r → Stays s r
unfolding parameter_makes
makes-node at None d base t s r h = declared-keeps at Declarators.Written d base s s (stays-refl s) t r h
makes-node at (Some adjusted) d base t s r h = adjusted-keeps at adjusted.node d base (Declarators.is_derived_declared d) s s (stays-refl s) t r h

pub record IsParameterMade (list : TypedParameters) (own : TypedSpecifierList) (one : TypedDeclared) (made : TypedParameters) (s r : State) : Type 0 where
  pub type : TypeId
  pub adjusted : Option Adjusted
  pub whole : made_by_parameters made ≡ ((made_by_parameters list ++ made_by_specifier_list own) ++ made_by_declared one type) ++ made_by_adjusted adjusted
  pub node : Moves (made_by_adjusted adjusted) s r

scalar_whole : (c : Scopes) (x : TypeShape) (ms : List TypeId) → is_complete_shape_at c (is_complete_entry x ms) x ≡ true → is_aggregate_shape x ≡ false
    → is_complete_entry x ms ≡ true
scalar_whole c Void ms h p = h
scalar_whole c (Integer bytes signed) ms h p = h
scalar_whole c (Pointer n t) ms h p = h
scalar_whole c (Array t n) ms h p = h
scalar_whole c (Function ps r) ms h p = h
scalar_whole c (Struct n) ms h p = no_true (sym p)
scalar_whole c (Union n) ms h p = no_true (sym p)

-- what stands in `(void)` has no name
pub void_unnamed : (all : tree.Parameters) (specifiers : tree.Specifiers) (d : tree.Declared) (which : Naming) (at : Place) (one : TypedDeclared) (s r : State)
    → is_void_alone (tree.AndParameter all specifiers d) ≡ true → judge_declared which at d s ≡ Gives one r → declared_identifier one ≡ None
unfolding judge_declared
void_unnamed all specifiers tree.NotDeclared which at one s r v h = ap declared_identifier (sym (gives-value typed.NotDeclared one s r h))
void_unnamed tree.NoParameter tree.NoSpecifier (tree.DeclaredBy d) which at one s r v h = no_true v
void_unnamed tree.NoParameter (tree.AndSpecifier tree.NoSpecifier (tree.Keyword word)) (tree.DeclaredBy d) which at one s r v h = no_true v
void_unnamed tree.NoParameter (tree.AndSpecifier tree.NoSpecifier (tree.Typedef name)) (tree.DeclaredBy d) which at one s r v h = no_true v
void_unnamed tree.NoParameter (tree.AndSpecifier tree.NoSpecifier (tree.Tagged kind place name)) (tree.DeclaredBy d) which at one s r v h = no_true v
void_unnamed tree.NoParameter (tree.AndSpecifier tree.NoSpecifier (tree.Aggregate kind place name brace members)) (tree.DeclaredBy d) which at one s r v h = no_true v
void_unnamed tree.NoParameter (tree.AndSpecifier tree.NoSpecifier (tree.Enum place name)) (tree.DeclaredBy d) which at one s r v h = no_true v
void_unnamed tree.NoParameter (tree.AndSpecifier tree.NoSpecifier (tree.Enumeration place name brace list comma)) (tree.DeclaredBy d) which at one s r v h = no_true v
void_unnamed tree.NoParameter (tree.AndSpecifier (tree.AndSpecifier more other) specifier) (tree.DeclaredBy d) which at one s r v h = no_true v
void_unnamed (tree.AndParameter all own one_) specifiers (tree.DeclaredBy d) which at one s r v h = no_true v

parameter_parts : (list : TypedParameters) (own : TypedSpecifierList) (one : TypedDeclared) (a : Option Adjusted) (u : TypeId)
    → made_by_parameters (typed.AndParameter list (specified own) one a u) ≡ ((made_by_parameters list ++ made_by_specifier_list own) ++ made_by_declared one u) ++ made_by_adjusted a
parameter_parts list own one a u = refl

-- a parameter that has a name is a scalar
parameter_whole : (T : Table) (c : Scopes) (void : Bool) (name : Option Identifier) (t : TypeId) (at : Place) → (void ≡ true → name ≡ None)
    → first_broken (Tests.parameter_type_tests T c void t at) ≡ None → has_some name ≡ true → IsComplete T t
parameter_whole T c true name t at unnamed h q = no_true (sym (ap has_some (unnamed refl)) ∙ q)
parameter_whole T c false name t at unnamed h q =
    let two = two_unbroken (not (is_complete_at T c t)) (is_aggregate_shape (shape_at T t)) (Refused at rule.Incomplete) (Refused at rule.Mismatch) h in
    scalar_whole c (shape_at T t) (members_at T t) (not_false (is_complete_at T c t) two.0) two.1

pub parameter-made : (void : Bool) (at : Place) (adjusting : TypeShape → Option Place) (list made : TypedParameters) (own : TypedSpecifierList) (one : TypedDeclared) (s r : State)
    → (void ≡ true → declared_identifier one ≡ None) → parameter void at adjusting list (specified own) one s ≡ Gives made r → IsParameterMade list own one made s r
unfolding parameter
parameter-made void at adjusting list made own one s r unnamed h =
    let base : TypeId = listed own in
    let finish : Option Adjusted → TypeId → Judging TypedParameters = λ a u. pure (typed.AndParameter list (specified own) one a u) in
    let check : TypeId → Judging TypeId = λ u q.
    unless (first_broken (Tests.parameter_type_tests q.table q.seen.scopes void u at)) (parameter_declared at (declared_identifier one) (declared_home one) u) q in
    let go = unless-gives (first_broken (Tests.parameter_name_tests (is_here s.seen.scopes (declared_identifier one)) at))
    (λ (q : State). next (adjusted_with_node at (adjusting (shape_at q.table base)) q) (λ a. λ p. next (parameter_makes at a one base p) (λ u. λ w. next (check u w) (finish a)))) s made r h in
    let a = bind-gives (adjusted_with_node at (adjusting (shape_at s.table base)) s) (λ a. λ p. next (parameter_makes at a one base p) (λ u. λ w. next (check u w) (finish a))) made r go.1 in
    let nodes = adjusted-made at (adjusting (shape_at s.table base)) a.0 s a.1 a.2 in
    let t = bind-gives (parameter_makes at a.0 one base a.1) (λ u. λ w. next (check u w) (finish a.0)) made r a.3 in
    let u = bind-gives (check t.0 t.1) (finish a.0) made r t.3 in
    let tested = unless-gives (first_broken (Tests.parameter_type_tests t.1.table t.1.seen.scopes void t.0 at))
    (parameter_declared at (declared_identifier one) (declared_home one) t.0) t.1 u.0 u.1 u.2 in
    let kept = named-keeps at (declared_identifier one) (declared_home one) t.0 t.1 t.1
    (parameter_whole t.1.table t.1.seen.scopes void (declared_identifier one) t.0 at unnamed tested.0) (stays-refl t.1) u.0 u.1 tested.1 in
    let stays = stays-on a.1 t.1 u.1 (makes-node at a.0 one base t.0 a.1 t.1 t.2) kept in
    given-same (λ (w : TypedParameters) (q : State). IsParameterMade list own one w s q) (typed.AndParameter list (specified own) one a.0 u.0) made u.1 r u.3
    (record { type = u.0; adjusted = a.0; whole = parameter_parts list own one a.0 u.0; node = made-to (made_by_adjusted a.0) s a.1 u.1 stays nodes })

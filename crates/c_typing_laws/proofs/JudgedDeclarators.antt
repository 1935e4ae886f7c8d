-- What judging gives for the parts of declarators, for members, parameters and type names, from what it gave for what stands in them.
use Rattle.std.proofs.Common.{◌≡◌, ℕ, ◌<◌, ℤ, pos, negsuc, Bool, true, false, not, ◌||◌, List, [], ◌∷◌, ◌++◌, length, Option, Some, None, refl, ap, sym, subst, ◌∙◌, nat_lt, bytes_eq, if◌then◌else◌, arith}
use Rattle.std.specs.List.{list_any}
use Rattle.std.proofs.lemmas.Bool.Decides.{nat_tests}
use Rattle.std.proofs.lemmas.Option.{none-some}
use Rattle.std.proofs.lemmas.List.{append_assoc}
use Rattle.std.proofs.lemmas.List.Elements.{All-nil, All-push}
use Rattle.std.proofs.lemmas.Slice.Eq.{bytes_eq-Decides}
use Rattle.cc_base.specs.declared.place.Place.{Place}
use Rattle.cc_base.specs.declared.number.NodeId.{NodeId}
use Rattle.cc_base.specs.declared.number.TypeId.{TypeId}
use Rattle.cc_base.specs.declared.fault.Fault.TheVariants.{Refused, TooLarge}
use Rattle.cc_base.specs.declared.fault.Limit.TheVariants.{Types}
use Rattle.cc_base.specs.declared.fault.Rule.TheVariants as rule
use Rattle.c_lexer.specs.declared.word.Keyword.{Keyword}
use Rattle.c_lexer.specs.declared.word.Keyword.TheVariants as keyword
use Rattle.c_types.specs.declared.shape.TypeShape.{TypeShape}
use Rattle.c_types.specs.declared.shape.TypeShape.TheVariants.{Void}
use Rattle.c_types.specs.Table.{Table, HasShape, IsType, shape_at, entry_at, is_aggregate_shape}
use Rattle.c_tree.specs.declared.leaf.Identifier.{Identifier}
use Rattle.c_tree.specs.declared.leaf.Star.{Star}
use Rattle.c_tree.specs.declared.leaf.Word.{Word}
use Rattle.c_tree.specs.declared.typed_word.Adjusted.{Adjusted}
use Rattle.c_tree.specs.declared.typed_word.Home.{Home}
use Rattle.c_tree.specs.declared.typed_word.Home.TheVariants as home
use Rattle.c_tree.specs.declared.typed_word.TypedStar.{TypedStar}
use Rattle.c_tree.specs.Erasure.{erased_stars, erased_form, erased_core, erased_parts, erased_parameters, erased_declared, erased_members, erased_member_declarators}
use Rattle.c_tree.specs.Places.{nowhere}
use Rattle.c_tree.specs.Tree as tree
use Rattle.c_tree.specs.TypedTree as typed
use Rattle.c_tree.specs.TypedTree.{TypedTypeName, TypedSpecifiers, TypedSpecifierList, TypedMembers, TypedMemberDeclarators, TypedForm, TypedCore, TypedParts, TypedParameters, TypedDeclared}
use Rattle.c_tree.specs.TypedParts.{home_of_form, home_of_core, name_of_form, name_of_core, declared_home, is_void_keyword, is_void_word, is_void_list}
use Rattle.c_typing.specs.declared.declared.Declared.{Declared}
use Rattle.c_typing.specs.declared.declared.Declared.TheVariants as declared
use Rattle.c_typing.specs.declared.naming.Naming.{Naming}
use Rattle.c_typing.specs.declared.naming.Naming.TheVariants as naming
use Rattle.c_typing.specs.Adjusting.{derived_by_declared, typedef_place, adjusted_at, adjusted_place}
use Rattle.c_typing.specs.Constants.{constant_value}
use Rattle.c_typing.specs.Conversions.{is_droppable}
use Rattle.c_typing.specs.Declarators
use Rattle.c_typing.specs.Declarators.{Written, AreOfType, words_shape, none_counted, counting_word, is_object_shape, FormMakes, ParameterMakes, name_bytes, declarator_names, member_names}
use Rattle.c_typing.specs.Declaring.{declarator_name, core_name, home_as, stars_with_nodes, size_given, sized_part, sized, declared_makes, form_makes, member_type, member_named, adjusted_with_node, parameter_makes, parameter_declared, parameter, entered, left}
use Rattle.c_typing.specs.Judging.{State, Judging, Gives, Stops, next, ◌>>=◌, pure, unless, by_known, new_node}
use Rattle.c_typing.specs.Operands.{Value}
use Rattle.c_typing.specs.Refusals.{has_name, declared_identifier, is_here, is_void_alone}
use Rattle.c_typing.specs.Scopes.{Name, Scopes, here, declaring, entering, leaving, is_complete_at, with_scopes}
use Rattle.c_typing.specs.Settled.{IsKnown, GoesOn, GoesOnThere, IsValueOf, IsListJudged}
use Rattle.c_typing.specs.Specifying.{specified, in_scopes}
use Rattle.c_typing.specs.Tests
use Rattle.c_typing.specs.Tests.{AsValue, has_size, first_broken}
use Rattle.c_typing.specs.Typing.{AreMembers, AreMemberDeclarators, IsForm, IsCore, AreParts, AreParameters, IsDeclared, IsHomelessDeclared, IsNewName, DeclaresParameter, IsTakenType, AreDistinct}
use Rattle.c_typing.specs.Walks.{listed}
use Rattle.c_typing_laws.specs.Judged.{IsTypeNameJudged, IsHomeAs, IsHomeOf}
use Rattle.c_typing_laws.proofs.ConstructLaws.{not_false, one_unbroken, two_unbroken}
use Rattle.c_typing_laws.proofs.ExtensionLaws.{no_true, still_in}
use Rattle.c_typing_laws.proofs.JudgedForms.{IsMade, form-made, declared-made}
use Rattle.c_typing_laws.proofs.JudgedLists.{list-typed}
use Rattle.c_typing_laws.proofs.JudgedSpecifiers.{scopes-known, constant_plain, no_name}
use Rattle.c_typing_laws.proofs.KeptDeclarators.{parameter-kept, taken-kept}
use Rattle.c_typing_laws.proofs.KeptTrees.{specifiers-kept, members-kept, member_declarators-kept, form-kept, core-kept, parts-kept, parameters-kept, declared-kept}
use Rattle.c_typing_laws.proofs.KnownScopes.{declared-there, entered-there, left-there}
use Rattle.c_typing_laws.proofs.KnownStates.{stays, goes-on, there-on, node-there}
use Rattle.c_typing_laws.proofs.Outcomes.{bind-gives, unless-gives, never-gives}
use Rattle.c_typing_laws.proofs.ParameterTypes.{complete_object, parameter-made}
use Rattle.c_typing_laws.proofs.ValuesTaken.{given-same}

-- Stars and homes

abbrev starred : Star → NodeId → TypedStar
starred star n = record { star = star; node = n }

pub stars-judged : (at : Place) (stars : List Star) (all : List TypedStar) (s r : State) → IsKnown s → stars_with_nodes at stars s ≡ Gives all r
    → (erased_stars all ≡ stars) × GoesOnThere s r
unfolding stars_with_nodes
stars-judged at [] all s r k h = given-same (λ (v : List TypedStar) (q : State). (erased_stars v ≡ []) × GoesOnThere s q) [] all s r h (refl, stays s k)
stars-judged at (star ∷ stars) all s r k h =
    let one = bind-gives (new_node at s) (λ n. stars_with_nodes at stars >>= (λ rest. pure (starred star n ∷ rest))) all r h in
    let first = node-there at one.0 s one.1 k one.2 in
    let two = bind-gives (stars_with_nodes at stars one.1) (λ rest. pure (starred star one.0 ∷ rest)) all r one.3 in
    let rest = stars-judged at stars two.0 one.1 two.1 first.goes.known two.2 in
    given-same (λ (v : List TypedStar) (q : State). (erased_stars v ≡ star ∷ stars) × GoesOnThere s q) (starred star one.0 ∷ two.0) all two.1 r two.3
    (ap (λ (l : List Star). star ∷ l) rest.0, there-on s one.1 two.1 first rest.1)

abbrev IsHomeJudged : Naming → State → Home → State → Type 0
IsHomeJudged which s h r = IsHomeAs which h × GoesOnThere s r

node_home : (at : Place) (which : Naming) (f : NodeId → Home) (h : Home) (s r : State) → IsKnown s → ((n : NodeId) → IsHomeAs which (f n))
    → next (new_node at s) (λ n. pure (f n)) ≡ Gives h r → IsHomeJudged which s h r
node_home at which f h s r k own q =
    let one = bind-gives (new_node at s) (λ n. pure (f n)) h r q in
    given-same (IsHomeJudged which s) (f one.0) h one.1 r one.3 (own one.0, node-there at one.0 s one.1 k one.2)

pub home-judged : (at : Place) (which : Naming) (h : Home) (s r : State) → IsKnown s → home_as at which s ≡ Gives h r → IsHomeJudged which s h r
unfolding home_as
home-judged at naming.None h s r k q = given-same (IsHomeJudged naming.None s) home.None h s r q (refl, stays s k)
home-judged at naming.Static h s r k q = node_home at naming.Static home.Static h s r k (λ n. (n, refl)) q
home-judged at naming.Local h s r k q = node_home at naming.Local home.Local h s r k (λ n. (n, refl)) q
home-judged at naming.Parameter h s r k q = node_home at naming.Parameter home.Parameter h s r k (λ n. (n, refl)) q
home-judged at (naming.Known n) h s r k q = given-same (IsHomeJudged (naming.Known n) s) (home.Known n) h s r q (refl, stays s k)

-- a name that is to be none has no home
pub no_home : (name : Option Identifier) (h : Home) → IsHomeOf naming.None name h → h ≡ home.None
no_home None h q = q
no_home (Some name) h q = q

-- Forms, cores and parts

pub record IsFormJudged (which : Naming) (d : tree.Declarator) (form : TypedForm) (s r : State) : Type 0 where
  pub typed : IsForm r.table form s.seen.scopes r.seen.scopes
  pub erases : erased_form form ≡ d
  pub home : IsHomeOf which (name_of_form form) (home_of_form form)
  pub goes : GoesOn s r

pub record IsCoreJudged (which : Naming) (d : tree.Core) (core : TypedCore) (s r : State) : Type 0 where
  pub typed : IsCore r.table core s.seen.scopes r.seen.scopes
  pub erases : erased_core core ≡ d
  pub home : IsHomeOf which (name_of_core core) (home_of_core core)
  pub goes : GoesOn s r

pub record ArePartsJudged (all : tree.Parts) (parts : TypedParts) (s r : State) : Type 0 where
  pub typed : AreParts r.table parts s.seen.scopes r.seen.scopes
  pub erases : erased_parts parts ≡ all
  pub goes : GoesOn s r

pub record AreParametersJudged (void : Bool) (all : tree.Parameters) (list : TypedParameters) (s r : State) : Type 0 where
  pub typed : AreParameters r.table void list s.seen.scopes r.seen.scopes
  pub erases : erased_parameters list ≡ all
  pub goes : GoesOn s r

pub record IsDeclaredJudged (which : Naming) (d : tree.Declared) (one : TypedDeclared) (s r : State) : Type 0 where
  pub typed : IsDeclared r.table one s.seen.scopes r.seen.scopes
  pub erases : erased_declared one ≡ d
  pub homeless : which ≡ naming.None → IsHomelessDeclared one
  pub goes : GoesOn s r

pub form-step : (which : Naming) (stars : List Star) (core : tree.Core) (parts : tree.Parts) (list : List TypedStar) (one : TypedCore) (all : TypedParts) (s k m r : State)
    → (erased_stars list ≡ stars) × GoesOnThere s k → IsCoreJudged which core one k m → ArePartsJudged parts all m r
    → IsFormJudged which (tree.Declares stars core parts) (typed.Form list one all) s r
form-step which stars core parts list one all s k m r a b c = record {
  typed = (
    m.seen.scopes,
    subst (λ (w : Scopes). IsCore r.table one w m.seen.scopes) a.1.scopes
        (core-kept m.table r.table c.goes.extends b.goes.known.basic one k.seen.scopes m.seen.scopes b.typed),
    c.typed,
  );
  erases = λ i. tree.Declares (a.0 i) (b.erases i) (c.erases i);
  home = b.home;
  goes = goes-on s k r a.1.goes (goes-on k m r b.goes c.goes);
}

pub name-step : (at : Place) (which : Naming) (name : Identifier) (core : TypedCore) (s r : State) → IsKnown s
    → next (home_as at which s) (λ h. pure (typed.Names name h)) ≡ Gives core r → IsCoreJudged which (tree.Names name) core s r
name-step at which name core s r k h =
    let one = bind-gives (home_as at which s) (λ v. pure (typed.Names name v)) core r h in
    let j = home-judged at which one.0 s one.1 k one.2 in
    given-same (λ (v : TypedCore) (q : State). IsCoreJudged which (tree.Names name) v s q) (typed.Names name one.0) core one.1 r one.3
    (record { typed = j.1.scopes; erases = refl; home = j.0; goes = j.1.goes })

-- the size of an array part

size_is : (o : Option ℤ) (size : ℕ) → size_given o ≡ Some size → o ≡ Some (pos size)
size_is None size h = absurd (none-some size h)
size_is (Some (negsuc n)) size h = absurd (none-some size h)
size_is (Some (pos n)) size h = by (nat_lt n 18446744073709551616) h
  where
    some_same : Some n ≡ Some size → n ≡ size
    some_same e = cc

    by : (b : Bool) → (if b then Some n else None) ≡ Some size → Some (pos n) ≡ Some (pos size)
    by true e = ap (λ (m : ℕ). Some (pos m)) (some_same e)
    by false e = absurd (none-some size e)

some_size : (size : ℕ) (o : Option ℤ) → o ≡ Some (pos size) → Tests.is_size o ≡ true → 0 < size
some_size size o e h = above (ap Tests.is_size (sym e) ∙ h)
  where
    above : nat_lt 0 size ≡ true → 0 < size
    above q = grind (arith, nat_tests)

module _ (all : tree.Parts) (list parts : TypedParts) (bracket : Place) (words : List Word) (e : tree.Expr) (v : Value) (s0 m s r : State)
    (j : ArePartsJudged all list s0 m) (goes : GoesOn m s) (value : IsValueOf s.table e v.expr m.seen.scopes s.seen.scopes) (taken : is_droppable v.expr ≡ true)
    (some : Tests.is_size (constant_value s.table v.expr) ≡ true) where
  sized_by : (o : Option ℕ) → size_given (constant_value s.table v.expr) ≡ o → sized_part list bracket words v o s ≡ Gives parts r
      → ArePartsJudged (tree.AndSizedArray all bracket words e) parts s0 r
  unfolding sized_part
  sized_by None q h = never-gives parts (TooLarge v.place Types) s r h
  sized_by (Some size) q h =
      let constant = size_is (constant_value s.table v.expr) size q in
      given-same (λ (w : TypedParts) (p : State). ArePartsJudged (tree.AndSizedArray all bracket words e) w s0 p) (typed.AndSizedArray list bracket words v.expr size) parts s r h (record {
        typed = (
          m.seen.scopes,
          parts-kept m.table s.table goes.extends j.goes.known.basic list s0.seen.scopes m.seen.scopes j.typed,
          value.typed,
          constant_plain s.table v.expr (pos size) taken constant,
          constant,
          some_size size (constant_value s.table v.expr) constant some,
        );
        erases = λ i. tree.AndSizedArray (j.erases i) bracket words (value.erases i);
        goes = goes-on s0 m s j.goes goes;
      })

pub sized-step : (all : tree.Parts) (list parts : TypedParts) (bracket : Place) (words : List Word) (e : tree.Expr) (v : Value) (s0 m s r : State)
    → ArePartsJudged all list s0 m → GoesOn m s → IsValueOf s.table e v.expr m.seen.scopes s.seen.scopes → is_droppable v.expr ≡ true
    → sized list bracket words v s ≡ Gives parts r → ArePartsJudged (tree.AndSizedArray all bracket words e) parts s0 r
unfolding sized
sized-step all list parts bracket words e v s0 m s r j goes value taken h =
    let go = unless-gives (first_broken (Tests.array_size_tests s.table v.place (AsValue v.expr)))
    (by_known (λ (q : State). sized_part list bracket words v (size_given (constant_value q.table v.expr)))) s parts r h in
    let some = not_false (has_size s.table (AsValue v.expr)) (one_unbroken (not (has_size s.table (AsValue v.expr))) (Refused v.place rule.NotConstant) go.0) in
    sized_by all list parts bracket words e v s0 m s r j goes value taken some (size_given (constant_value s.table v.expr)) refl go.1

-- Scopes of prototypes

pub entered-judged : (b : Bool) (s r : State) → IsKnown s → entered s ≡ Gives b r → (r.seen.scopes ≡ entering s.seen.scopes) × GoesOn s r
unfolding entered
entered-judged b s r k h =
    let c = s.seen.scopes in
    let after : State = record s { seen = with_scopes s.seen (entering c) } in
    given-same (λ (v : Bool) (q : State). (q.seen.scopes ≡ entering c) × GoesOn s q) true b after r h
    (refl, scopes-known s (entering c) k refl (entered-there s.table c.levels k.levels))

pub left-judged : {A : Type 0} (at : Place) (a b : A) (s r : State) → IsKnown s → left at a s ≡ Gives b r
    → (a ≡ b) × (r.seen.scopes ≡ leaving s.seen.scopes) × GoesOn s r
unfolding left
left-judged {A = A} at a b s r k h = by (nat_lt 1 (length s.seen.scopes.levels)) h
  where
    by : (inner : Bool) → (if inner then in_scopes leaving a s else Stops (TooLarge at Types) s) ≡ Gives b r
        → (a ≡ b) × (r.seen.scopes ≡ leaving s.seen.scopes) × GoesOn s r
    by true q =
        let c = s.seen.scopes in
        let after : State = record s { seen = with_scopes s.seen (leaving c) } in
        given-same (λ (v : A) (p : State). (a ≡ v) × (p.seen.scopes ≡ leaving c) × GoesOn s p) a b after r q
        (refl, refl, scopes-known s (leaving c) k refl (left-there s.table c.levels k.levels))
    by false q = never-gives b (TooLarge at Types) s r q

pub voids-alike : (list : TypedParameters) → is_void_list list ≡ is_void_alone (erased_parameters list)
voids-alike typed.NoParameter = refl
voids-alike (typed.AndParameter (typed.AndParameter all own one a u) specifiers d adjusted t) = refl
voids-alike (typed.AndParameter typed.NoParameter specifiers (typed.DeclaredBy form) adjusted t) = not_alone specifiers
  where
    not_alone : (own : TypedSpecifiers) → is_void_list (typed.AndParameter typed.NoParameter own (typed.DeclaredBy form) adjusted t)
        ≡ is_void_alone (erased_parameters (typed.AndParameter typed.NoParameter own (typed.DeclaredBy form) adjusted t))
    not_alone (typed.Specified typed.NoSpecifier u) = refl
    not_alone (typed.Specified (typed.AndSpecifier (typed.AndSpecifier all one) specifier) u) = refl
    not_alone (typed.Specified (typed.AndSpecifier typed.NoSpecifier (typed.Keyword word)) u) = refl
    not_alone (typed.Specified (typed.AndSpecifier typed.NoSpecifier specifier) u) = refl
voids-alike (typed.AndParameter typed.NoParameter (typed.Specified typed.NoSpecifier u) typed.NotDeclared adjusted t) = refl
voids-alike (typed.AndParameter typed.NoParameter (typed.Specified (typed.AndSpecifier (typed.AndSpecifier all one) specifier) u) typed.NotDeclared adjusted t) = refl
voids-alike (typed.AndParameter typed.NoParameter (typed.Specified (typed.AndSpecifier typed.NoSpecifier (typed.Keyword word)) u) typed.NotDeclared adjusted t) = refl
voids-alike (typed.AndParameter typed.NoParameter (typed.Specified (typed.AndSpecifier typed.NoSpecifier specifier) u) typed.NotDeclared adjusted t) = refl

pub function-step : (all : tree.Parts) (parts made : TypedParts) (at paren : Place) (parameters : tree.Parameters) (b : Bool) (list : TypedParameters) (s0 m k n r : State)
    → ArePartsJudged all parts s0 m → entered m ≡ Gives b k → AreParametersJudged (is_void_alone parameters) parameters list k n
    → next (left at list n) (λ whole. pure (typed.AndFunction parts paren whole)) ≡ Gives made r
    → ArePartsJudged (tree.AndFunction all paren parameters) made s0 r
function-step all parts made at paren parameters b list s0 m k n r j e p h =
    let in_scope = entered-judged b m k j.goes.known e in
    let one = bind-gives (left at list n) (λ whole. pure (typed.AndFunction parts paren whole)) made r h in
    let out = left-judged at list one.0 n one.1 p.goes.known one.2 in
    let inside = goes-on m k n in_scope.1 p.goes in
    let whole = goes-on m n one.1 inside out.2 in
    let void : is_void_alone parameters ≡ is_void_list list = ap is_void_alone (sym p.erases) ∙ sym (voids-alike list) in
    let listed_here = parameters-kept n.table one.1.table out.2.extends p.goes.known.basic (is_void_alone parameters) list k.seen.scopes n.seen.scopes p.typed in
    let part : TypedParts = typed.AndFunction parts paren list in
    let same : part ≡ typed.AndFunction parts paren one.0 = ap (typed.AndFunction parts paren) out.0 in
    given-same (λ (w : TypedParts) (q : State). ArePartsJudged (tree.AndFunction all paren parameters) w s0 q) (typed.AndFunction parts paren one.0) made one.1 r one.3
    (subst (λ (w : TypedParts). ArePartsJudged (tree.AndFunction all paren parameters) w s0 one.1) same (record {
      typed = (
        m.seen.scopes,
        n.seen.scopes,
        parts-kept m.table one.1.table whole.extends j.goes.known.basic parts s0.seen.scopes m.seen.scopes j.typed,
        subst (λ (w : Bool). AreParameters one.1.table w list (entering m.seen.scopes) n.seen.scopes) void
            (subst (λ (c : Scopes). AreParameters one.1.table (is_void_alone parameters) list c n.seen.scopes) in_scope.0 listed_here),
        out.1,
      );
      erases = λ i. tree.AndFunction (j.erases i) paren (p.erases i);
      goes = goes-on s0 m one.1 j.goes whole;
    }))

-- Parameters

-- `void` is said of a list that is `(void)`, and of what stands before its end
abbrev pub IsVoidOf : Bool → tree.Parameters → Type 0
IsVoidOf void tree.NoParameter = Unit {0}
IsVoidOf void all = void ≡ true → is_void_alone all ≡ true

pub first_alone : (void : Bool) (all : tree.Parameters) (specifiers : tree.Specifiers) (d : tree.Declared) → IsVoidOf void (tree.AndParameter all specifiers d) → IsVoidOf void all
first_alone void tree.NoParameter specifiers d h = tt
first_alone void (tree.AndParameter all own one) specifiers d h = λ e. no_true (h e)

pub adjusted-judged : (at : Place) (o : Option Place) (a : Option Adjusted) (s r : State) → IsKnown s → adjusted_with_node at o s ≡ Gives a r
    → (adjusted_place a ≡ o) × GoesOnThere s r
unfolding adjusted_with_node
adjusted-judged at None a s r k h = given-same (λ (v : Option Adjusted) (q : State). (adjusted_place v ≡ None) × GoesOnThere s q) None a s r h (refl, stays s k)
adjusted-judged at (Some place) a s r k h =
    let one = bind-gives (new_node at s) (λ n. pure (Some (adjusted_by n))) a r h in
    given-same (λ (v : Option Adjusted) (q : State). (adjusted_place v ≡ Some place) × GoesOnThere s q) (Some (adjusted_by one.0)) a one.1 r one.3
    (refl, node-there at one.0 s one.1 k one.2)
  where
    adjusted_by : NodeId → Adjusted
    adjusted_by n = record { node = n; place = place }

-- where a parameter's name is declared
abbrev DeclaresName : Option Identifier → Home → TypeId → Scopes → Scopes → Type 0
DeclaresName (Some name) (home.Parameter n) t s s' = IsNewName name.bytes (declared.Object t n) s s'
DeclaresName None home t s s' = s' ≡ s
DeclaresName name home t s s' = ⊥

declares_by : (d : TypedDeclared) (t : TypeId) (s s' : Scopes) → DeclaresName (declared_identifier d) (declared_home d) t s s' → DeclaresParameter d t s s'
declares_by typed.NotDeclared t s s' h = h
declares_by (typed.DeclaredBy form) t s s' h = h

record IsNamed (name : Option Identifier) (h : Home) (t u : TypeId) (s r : State) : Type 0 where
  pub same : t ≡ u
  pub declares : DeclaresName name h u s.seen.scopes r.seen.scopes
  pub goes : GoesOn s r

named-judged : (at : Place) (name : Option Identifier) (h : Home) (t u : TypeId) (s r : State) → IsKnown s → IsType s.table t → is_here s.seen.scopes name ≡ false
    → parameter_declared at name h t s ≡ Gives u r → IsNamed name h t u s r
unfolding parameter_declared
named-judged at (Some name) (home.Parameter n) t u s r k b f g =
    let c = s.seen.scopes in
    let what : Declared = declared.Object t n in
    let after : State = record s { seen = with_scopes s.seen (declaring name.bytes what c) } in
    given-same (λ (v : TypeId) (q : State). IsNamed (Some name) (home.Parameter n) t v s q) t u after r g (record {
      same = refl;
      declares = record { fresh = no_name (here c.levels name.bytes) f; after = refl };
      goes = scopes-known s (declaring name.bytes what c) k refl (declared-there s.table name.bytes what c.levels b k.levels);
    })
named-judged at None h t u s r k b f g = given-same (λ (v : TypeId) (q : State). IsNamed None h t v s q) t u s r g (record { same = refl; declares = refl; goes = (stays s k).goes })
named-judged at (Some name) home.None t u s r k b f g = never-gives u (TooLarge at Types) s r g
named-judged at (Some name) (home.Static n) t u s r k b f g = never-gives u (TooLarge at Types) s r g
named-judged at (Some name) (home.Local n) t u s r k b f g = never-gives u (TooLarge at Types) s r g
named-judged at (Some name) (home.Known n) t u s r k b f g = never-gives u (TooLarge at Types) s r g

-- what is taken as `(void)`
void_words : (w : Keyword) → is_void_keyword w ≡ true → words_shape (counting_word w none_counted) ≡ Void
void_words keyword.Void h = refl
void_words w h = no_true h

void_base : (T : Table) (own : TypedSpecifierList) (u : TypeId) → is_void_word own ≡ true → AreOfType T own u → HasShape T u Void
void_base T (typed.AndSpecifier typed.NoSpecifier (typed.Keyword word)) u h t = (t.there, t.type.1 ∙ void_words word.keyword h)
void_base T own u h t = no_true h

void_list : (list : TypedParameters) (own : TypedSpecifierList) (one : TypedDeclared) (a : Option Adjusted) (u t : TypeId)
    → is_void_list (typed.AndParameter list (typed.Specified own u) one a t) ≡ true → (is_void_word own ≡ true) × (one ≡ typed.NotDeclared)
void_list typed.NoParameter own typed.NotDeclared a u t h = (h, refl)
void_list typed.NoParameter own (typed.DeclaredBy form) a u t h = no_true h
void_list (typed.AndParameter list specifiers d b v) own one a u t h = no_true h

void_taken : (T : Table) (c : Scopes) (a : Option Adjusted) (d : TypedDeclared) (base t : TypeId) → d ≡ typed.NotDeclared → HasShape T base Void
    → ParameterMakes T c a d base t → HasShape T t Void
void_taken T c a d base t e b h = undeclared a (subst (λ (w : TypedDeclared). ParameterMakes T c a w base t) e h)
  where
    undeclared : (o : Option Adjusted) → ParameterMakes T c o typed.NotDeclared base t → HasShape T t Void
    undeclared None p = subst (λ (u : TypeId). HasShape T u Void) (sym p.0) b
    undeclared (Some adjusted) p = absurd (subst (λ (x : TypeShape). Declarators.AdjustedShape T adjusted.node x base t) b.1 p)

module _ (T : Table) (c : Scopes) (a : Option Adjusted) (list : TypedParameters) (own : TypedSpecifierList) (one : TypedDeclared) (base t : TypeId) (at : Place)
    (makes : ParameterMakes T c a one base t) (object : is_object_shape (shape_at T t) ≡ true) (named : AreOfType T own base) where
  taken_by : (void : Bool) → (void ≡ true → is_void_list (typed.AndParameter list (typed.Specified own base) one a t) ≡ true)
      → first_broken (Tests.parameter_type_tests T c void t at) ≡ None → IsTakenType void T c t
  taken_by true alone h =
      let fits = void_list list own one a base t (alone refl) in
      void_taken T c a one base t fits.1 (void_base T own base fits.0 named) makes
  taken_by false alone h =
      let two = two_unbroken (not (is_complete_at T c t)) (is_aggregate_shape (shape_at T t)) (Refused at rule.Incomplete) (Refused at rule.Mismatch) h in
      complete_object c (shape_at T t) ((entry_at T t).members) (not_false (is_complete_at T c t) two.0) two.1 object

abbrev adjusting_by : tree.Declared → tree.Specifiers → TypeShape → Option Place
adjusting_by d specifiers base = adjusted_at (derived_by_declared d) base (typedef_place specifiers)

pub parameter-step : (void : Bool) (all : tree.Parameters) (specifiers : tree.Specifiers) (d : tree.Declared) (which : Naming) (at : Place)
    (list made : TypedParameters) (own : TypedSpecifierList) (one : TypedDeclared) (s0 k m s r : State) → IsVoidOf void (tree.AndParameter all specifiers d)
    → AreParametersJudged void all list s0 k → IsListJudged specifiers own k m → IsDeclaredJudged which d one m s
    → parameter void at (λ base. adjusted_at (derived_by_declared d) base (typedef_place specifiers)) list (specified own) one s ≡ Gives made r
    → AreParametersJudged void (tree.AndParameter all specifiers d) made s0 r
unfolding parameter
parameter-step void all specifiers d which at list made own one s0 k m s r fits before l dj h =
    let base : TypeId = listed own in
    let names = list-typed specifiers own k m l in
    let here_base = still_in m.table s.table dj.goes.extends base names.1 in
    let finish : Option Adjusted → TypeId → Judging TypedParameters = λ a u. pure (typed.AndParameter list (specified own) one a u) in
    let check : TypeId → Judging TypeId = λ t q.
    unless (first_broken (Tests.parameter_type_tests q.table q.seen.scopes void t at)) (parameter_declared at (declared_identifier one) (declared_home one) t) q in
    let go = unless-gives (first_broken (Tests.parameter_name_tests (is_here s.seen.scopes (declared_identifier one)) at))
    (λ q. next (adjusted_with_node at (adjusting_by d specifiers (shape_at q.table base)) q) (λ a. λ p. next (parameter_makes at a one base p) (λ t. λ v. next (check t v) (finish a)))) s made r h in
    let fresh = one_unbroken (is_here s.seen.scopes (declared_identifier one)) (Refused at rule.Redeclared) go.0 in
    let a = bind-gives (adjusted_with_node at (adjusting_by d specifiers (shape_at s.table base)) s)
    (λ a. λ p. next (parameter_makes at a one base p) (λ t. λ v. next (check t v) (finish a))) made r go.1 in
    let placed = adjusted-judged at (adjusting_by d specifiers (shape_at s.table base)) a.0 s a.1 dj.goes.known a.2 in
    let t = bind-gives (parameter_makes at a.0 one base a.1) (λ t. λ v. next (check t v) (finish a.0)) made r a.3 in
    let same_base : shape_at a.1.table base ≡ shape_at s.table base = placed.1.goes.extends.shapes base here_base in
    let at_place : adjusted_place a.0 ≡ adjusting_by (erased_declared one) specifiers (shape_at a.1.table base) =
    placed.0 ∙ (λ i. adjusting_by (sym dj.erases i) specifiers (sym same_base i)) in
    let made_type = parameter-made at a.0 one base t.0 (typedef_place specifiers) a.1 t.1 placed.1.goes.known (still_in s.table a.1.table placed.1.goes.extends base here_base) at_place t.2 in
    let u = bind-gives (check t.0 t.1) (finish a.0) made r t.3 in
    let tested = unless-gives (first_broken (Tests.parameter_type_tests t.1.table t.1.seen.scopes void t.0 at))
    (parameter_declared at (declared_identifier one) (declared_home one) t.0) t.1 u.0 u.1 u.2 in
    let scopes : t.1.seen.scopes ≡ s.seen.scopes = made_type.goes.scopes ∙ placed.1.scopes in
    let name = named-judged at (declared_identifier one) (declared_home one) t.0 u.0 t.1 u.1 made_type.goes.goes.known made_type.there
    (subst (λ (c : Scopes). is_here c (declared_identifier one) ≡ false) (sym scopes) fresh) tested.1 in
    let to_type = goes-on s a.1 t.1 placed.1.goes made_type.goes.goes in
    let from_s = goes-on s t.1 u.1 to_type name.goes in
    let from_m = goes-on m s u.1 dj.goes from_s in
    let from_k = goes-on k m u.1 l.goes from_m in
    let U : Table = u.1.table in
    let typed_own = specifiers-kept m.table U from_m.extends l.goes.known.basic (specified own) k.seen.scopes m.seen.scopes names.0 in
    let named_t = specifiers-kept m.table t.1.table (goes-on m s t.1 dj.goes to_type).extends l.goes.known.basic (specified own) k.seen.scopes m.seen.scopes names.0 in
    let whole_erases : erased_parameters (typed.AndParameter list (specified own) one a.0 t.0) ≡ tree.AndParameter all specifiers d =
    λ i. tree.AndParameter (before.erases i) (l.erases i) (dj.erases i) in
    let alone : void ≡ true → is_void_list (typed.AndParameter list (specified own) one a.0 t.0) ≡ true = λ e.
    voids-alike (typed.AndParameter list (specified own) one a.0 t.0) ∙ (ap is_void_alone whole_erases ∙ fits e) in
    let taken = taken_by t.1.table t.1.seen.scopes a.0 list own one base t.0 at made_type.makes.0 made_type.makes.1 named_t.1 void alone tested.0 in
    let basic_t = made_type.goes.goes.known.basic in
    let P : Scopes → TypeId → Type 0 = λ c v. ParameterMakes U c a.0 one base v × IsTakenType void U c v in
    let kept : P t.1.seen.scopes t.0 = (
      parameter-kept t.1.table U name.goes.extends basic_t t.1.seen.scopes a.0 one base t.0 made_type.there made_type.makes.0,
      taken-kept t.1.table U name.goes.extends basic_t void t.1.seen.scopes t.0 taken,
    ) in
    let final : P s.seen.scopes u.0 = subst (P s.seen.scopes) name.same (subst (λ (c : Scopes). P c t.0) scopes kept) in
    given-same (λ (w : TypedParameters) (q : State). AreParametersJudged void (tree.AndParameter all specifiers d) w s0 q)
    (typed.AndParameter list (specified own) one a.0 u.0) made u.1 r u.3 (record {
      typed = (
        k.seen.scopes,
        m.seen.scopes,
        s.seen.scopes,
        parameters-kept k.table U from_k.extends before.goes.known.basic void list s0.seen.scopes k.seen.scopes before.typed,
        typed_own,
        declared-kept s.table U from_s.extends dj.goes.known.basic one m.seen.scopes s.seen.scopes dj.typed,
        placed.0 ∙ (λ i. adjusted_at (derived_by_declared (sym dj.erases i)) (sym (from_s.extends.shapes base here_base) i) (typedef_place (sym l.erases i))),
        final.0,
        final.1,
        declares_by one u.0 s.seen.scopes u.1.seen.scopes
            (subst (λ (c : Scopes). DeclaresName (declared_identifier one) (declared_home one) u.0 c u.1.seen.scopes) scopes name.declares),
      );
      erases = whole_erases;
      goes = goes-on s0 k u.1 before.goes from_k;
    })

-- Members

mutual
  pub form_name : (form : TypedForm) → declarator_name (erased_form form) ≡ name_of_form form
  form_name (typed.Form stars core parts) = core_named core

  core_named : (core : TypedCore) → core_name (erased_core core) ≡ name_of_core core
  core_named (typed.Names name home) = refl
  core_named typed.Unnamed = refl
  core_named (typed.Nested at form) = form_name form

or_both : (a b : Bool) → (a || b) ≡ false → (a ≡ false) × (b ≡ false)
or_both true b h = no_true (sym h)
or_both false b h = (refl, h)

distinct_push : (xs : List Name) (n : Name) → list_any (λ (each : Name). bytes_eq n each) xs ≡ false → AreDistinct xs → AreDistinct (xs ++ n ∷ [])
distinct_push [] n h d = (All-nil (λ (other : Name). ¬ (n ≡ other)), tt)
distinct_push (x ∷ xs) n h d =
    let two = or_both (bytes_eq n x) (list_any (λ (each : Name). bytes_eq n each) xs) h in (
      All-push (λ (other : Name). ¬ (x ≡ other)) xs n d.0 (λ e. no_true (sym two.0 ∙ (bytes_eq-Decides n x).1 (sym e))),
      distinct_push xs n two.1 d.1,
    )

-- declarators of members, which stand behind members of these names
pub record IsRowJudged (base : TypeId) (names : List Name) (all : tree.MemberDeclarators) (row : TypedMemberDeclarators) (s r : State) : Type 0 where
  pub typed : AreMemberDeclarators r.table base row s.seen.scopes r.seen.scopes
  pub erases : erased_member_declarators row ≡ all
  pub distinct : AreDistinct names → AreDistinct (names ++ declarator_names row)
  pub goes : GoesOn s r

pub record AreMembersJudged (all : tree.Members) (rows : TypedMembers) (s r : State) : Type 0 where
  pub typed : AreMembers r.table rows s.seen.scopes r.seen.scopes
  pub erases : erased_members rows ≡ all
  pub distinct : AreDistinct (member_names rows)
  pub goes : GoesOn s r

abbrev ByMember : TypedForm → TypeId → Table → Scopes → TypeId → Type 0
ByMember form base T c t = FormMakes T c form Written base t × (is_complete_at T c t ≡ true)

member_type-made : (at : Place) (form : TypedForm) (base t : TypeId) (s r : State) → IsKnown s → IsType s.table base → member_type at form base s ≡ Gives t r
    → IsMade (ByMember form base) t s r
unfolding member_type
member_type-made at form base t s r k b h =
    let one = bind-gives (form_makes at Written form base s)
    (λ u. λ q. unless (first_broken (Tests.member_type_tests q.table q.seen.scopes u at)) (pure u) q) t r h in
    let made = form-made at Written form base one.0 s one.1 k b one.2 in
    let go = unless-gives (first_broken (Tests.member_type_tests one.1.table one.1.seen.scopes one.0 at)) (pure one.0) one.1 t r one.3 in
    let whole = not_false (is_complete_at one.1.table one.1.seen.scopes one.0)
    (one_unbroken (not (is_complete_at one.1.table one.1.seen.scopes one.0)) (Refused at rule.Incomplete) go.0) in
    given-same (λ (v : TypeId) (q : State). IsMade (ByMember form base) v s q) one.0 t one.1 r go.1
    (record { makes = (made.makes, whole); there = made.there; goes = made.goes })

module _ (base : TypeId) (names : List Name) (all : tree.MemberDeclarators) (d : tree.Declarator) (row made : TypedMemberDeclarators) (form : TypedForm) (s0 m s r : State)
    (rows : IsRowJudged base names all row s0 m) (j : IsFormJudged naming.None d form m s) (b : IsType s.table base) where
  member_by : (o : Option Identifier) → name_of_form form ≡ o → member_named (names ++ declarator_names row) row form base o s ≡ Gives made r
      → IsRowJudged base names (tree.AndDeclarator all d) made s0 r
  unfolding member_named
  member_by None q h = never-gives made (TooLarge nowhere Types) s r h
  member_by (Some name) q h =
      let before = names ++ declarator_names row in
      let finish : TypeId → Judging TypedMemberDeclarators = λ t. pure (typed.AndDeclarator row (typed.Declares form t)) in
      let go = unless-gives (first_broken (Tests.member_name_tests (has_name before (Some name)) name.place))
      (λ p. next (member_type name.place form base p) finish) s made r h in
      let new = one_unbroken (has_name before (Some name)) (Refused name.place rule.Redeclared) go.0 in
      let one = bind-gives (member_type name.place form base s) finish made r go.1 in
      let t = member_type-made name.place form base one.0 s one.1 j.goes.known b one.2 in
      let from_m = goes-on m s one.1 j.goes t.goes.goes in
      let T : Table = one.1.table in
      let bytes : Declarators.name_bytes (name_of_form form) ≡ name.bytes = ap Declarators.name_bytes q in
      let pushed : AreDistinct names → AreDistinct (names ++ (declarator_names row ++ Declarators.name_bytes (name_of_form form) ∷ [])) = λ h0.
      subst AreDistinct (append_assoc names (declarator_names row) (Declarators.name_bytes (name_of_form form) ∷ []))
      (subst (λ (n : Name). AreDistinct (before ++ n ∷ [])) (sym bytes) (distinct_push before name.bytes new (rows.distinct h0))) in
      given-same (λ (w : TypedMemberDeclarators) (p : State). IsRowJudged base names (tree.AndDeclarator all d) w s0 p)
      (typed.AndDeclarator row (typed.Declares form one.0)) made one.1 r one.3 (record {
        typed = (
          m.seen.scopes,
          member_declarators-kept m.table T from_m.extends rows.goes.known.basic base row s0.seen.scopes m.seen.scopes rows.typed,
          subst (IsForm T form m.seen.scopes) (sym t.goes.scopes) (form-kept s.table T t.goes.goes.extends j.goes.known.basic form m.seen.scopes s.seen.scopes j.typed),
          no_home (name_of_form form) (home_of_form form) j.home,
          t.makes.0,
          t.makes.1,
        );
        erases = λ i. tree.AndDeclarator (rows.erases i) (j.erases i);
        distinct = pushed;
        goes = goes-on s0 m one.1 rows.goes from_m;
      })

  pub member-step : member_named (names ++ declarator_names row) row form base (declarator_name d) s ≡ Gives made r
      → IsRowJudged base names (tree.AndDeclarator all d) made s0 r
  member-step h = member_by (declarator_name d) (sym (form_name form) ∙ ap declarator_name j.erases) h

pub members-step : (all : tree.Members) (specifiers : tree.Specifiers) (declarators : tree.MemberDeclarators) (rows : TypedMembers) (list : TypedSpecifierList)
    (row : TypedMemberDeclarators) (s k m r : State) → AreMembersJudged all rows s k → IsListJudged specifiers list k m
    → IsRowJudged (listed list) (member_names rows) declarators row m r
    → AreMembersJudged (tree.AndMember all specifiers declarators) (typed.AndMember rows (specified list) row) s r
members-step all specifiers declarators rows list row s k m r a l j =
    let names = list-typed specifiers list k m l in
    let from_k = goes-on k m r l.goes j.goes in
    record {
      typed = (
        k.seen.scopes,
        m.seen.scopes,
        members-kept k.table r.table from_k.extends a.goes.known.basic rows s.seen.scopes k.seen.scopes a.typed,
        specifiers-kept m.table r.table j.goes.extends l.goes.known.basic (specified list) k.seen.scopes m.seen.scopes names.0,
        j.typed,
      );
      erases = λ i. tree.AndMember (a.erases i) (l.erases i) (j.erases i);
      distinct = j.distinct a.distinct;
      goes = goes-on s k r a.goes from_k;
    }

-- Type names

pub type_name-step : (specifiers : tree.Specifiers) (d : tree.Declared) (at : Place) (list : TypedSpecifierList) (one : TypedDeclared) (made : TypedTypeName) (s0 m s r : State)
    → IsListJudged specifiers list s0 m → IsDeclaredJudged naming.None d one m s
    → next (declared_makes at Written one (listed list) s) (λ t. pure (typed.Named (specified list) one t)) ≡ Gives made r
    → IsTypeNameJudged (tree.Named specifiers d) made s0 r
type_name-step specifiers d at list one made s0 m s r l j h =
    let names = list-typed specifiers list s0 m l in
    let two = bind-gives (declared_makes at Written one (listed list) s) (λ t. pure (typed.Named (specified list) one t)) made r h in
    let t = declared-made at Written one (listed list) two.0 s two.1 j.goes.known (still_in m.table s.table j.goes.extends (listed list) names.1) two.2 in
    let T : Table = two.1.table in
    let from_m = goes-on m s two.1 j.goes t.goes.goes in
    given-same (λ (w : TypedTypeName) (p : State). IsTypeNameJudged (tree.Named specifiers d) w s0 p) (typed.Named (specified list) one two.0) made two.1 r two.3 (record {
      typed = (
        m.seen.scopes,
        specifiers-kept m.table T from_m.extends l.goes.known.basic (specified list) s0.seen.scopes m.seen.scopes names.0,
        subst (IsDeclared T one m.seen.scopes) (sym t.goes.scopes) (declared-kept s.table T t.goes.goes.extends j.goes.known.basic one m.seen.scopes s.seen.scopes j.typed),
        j.homeless refl,
        t.makes,
      );
      erases = λ i. tree.Named (l.erases i) (j.erases i);
      there = t.there;
      goes = goes-on s0 m two.1 l.goes from_m;
    })

-- What a table that goes on keeps: the types that specifiers and declarators give.
use Rattle.std.proofs.Common.{◌≡◌, ℕ, Bool, true, false, not, List, [], ◌∷◌, length, Option, Some, None, refl, ap, sym, subst, ◌∙◌, arith}
use Rattle.std.specs.List.{Contains}
use Rattle.std.proofs.lemmas.Option.{none-some}
use Rattle.std.proofs.lemmas.List.{length-append}
use Rattle.std.proofs.lemmas.List.Elements.{All-contains}
use Rattle.cc_base.specs.declared.number.NodeId.{NodeId}
use Rattle.cc_base.specs.declared.number.TypeId.{TypeId}
use Rattle.c_types.specs.declared.shape.TypeShape.{TypeShape}
use Rattle.c_types.specs.declared.shape.TypeShape.TheVariants.{Void, Integer, Pointer, Array, Function, Struct, Union}
use Rattle.c_types.specs.Table.{Table, Entry, IsType, IsComplete, shape_at, members_at, named_by, is_empty, is_complete_entry}
use Rattle.c_types.proofs.Lists.{contains_head}
use Rattle.c_tree.specs.declared.leaf.Identifier.{Identifier}
use Rattle.c_tree.specs.declared.leaf.Word.{Word}
use Rattle.c_tree.specs.declared.operator.AggregateKind.{AggregateKind}
use Rattle.c_tree.specs.declared.typed_word.Adjusted.{Adjusted}
use Rattle.c_tree.specs.declared.typed_word.TypedStar.{TypedStar}
use Rattle.c_tree.specs.TypedTree as typed
use Rattle.c_tree.specs.TypedTree.{TypedSpecifierList, TypedForm, TypedCore, TypedParts, TypedParameters, TypedDeclared, TypedMembers, TypedMemberDeclarators}
use Rattle.c_tree.specs.TypedParts.{name_of, declared_type}
use Rattle.c_typing.specs.declared.declared.Tag.{Tag}
use Rattle.c_typing.specs.Declarators
use Rattle.c_typing.specs.Declarators.{Named, NoType, IsEnumeration, IsNamedType, AreOfType, Outermost, Written, Counts, Points, MakesArray, is_result_shape, IsFunctionOf, MakesFunction, nearest, PartsMake, StarsMake, outside, FormMakes, CoreMakes, DeclaredMakes, AdjustedShape, is_derived_declared, is_object_shape, MakesAdjusted, ParameterMakes, taken_types, declarator_names, declarator_types, member_names, member_types}
use Rattle.c_typing.specs.Extensions.{IsExtended}
use Rattle.c_typing.specs.Rules.{number_of_shape}
use Rattle.c_typing.specs.Scopes.{Scopes}
use Rattle.c_typing.specs.Settled.{IsBasic}
use Rattle.c_typing.specs.Shapes.{is_void_shape}
use Rattle.c_typing.specs.Typing.{IsNewAggregate, IsTagged, BeginsAggregate, EndsAggregate, IsTakenType}
use Rattle.c_typing_laws.proofs.ExtensionLaws.{no_true, is_in, complete_kept, still_in}
use Rattle.c_typing_laws.proofs.KeptTypes.{complete_exact}
use Rattle.c_typing_laws.proofs.KeptConstants.{scalar_in}
use Rattle.c_typing_laws.proofs.KeptRules.{has-kept, scalar-kept}

-- a struct has as many names of members as types of members

declarators_alike : (all : TypedMemberDeclarators) → length (declarator_names all) ≡ length (declarator_types all)
declarators_alike typed.NoDeclarator = refl
declarators_alike (typed.AndDeclarator all d) =
    let same = declarators_alike all in
    omega (
      arith,
      same,
      length-append (declarator_names all) (Declarators.name_bytes (name_of d) ∷ []),
      length-append (declarator_types all) (declared_type d ∷ []),
    )

pub members_alike : (all : TypedMembers) → length (member_names all) ≡ length (member_types all)
members_alike typed.NoMember = refl
members_alike (typed.AndMember all specifiers declarators) =
    let same = members_alike all in
    let more = declarators_alike declarators in
    omega (arith, same, more, length-append (member_names all) (declarator_names declarators), length-append (member_types all) (declarator_types declarators))

no_empty : {A B : Type 0} (xs : List A) (ys : List B) → length xs ≡ length ys → is_empty xs ≡ false → is_empty ys ≡ false
no_empty [] ys e h = no_true (sym h)
no_empty (x ∷ xs) [] e h = absurd (omega (arith, e))
no_empty (x ∷ xs) (y ∷ ys) e h = refl

pub whole_by : (x : TypeShape) (ms : List TypeId) (k : ℕ) → number_of_shape x ≡ Some k → is_empty ms ≡ false → is_complete_entry x ms ≡ true
whole_by (Struct n) ms k h e = ap not e
whole_by (Union n) ms k h e = ap not e
whole_by Void ms k h e = absurd (none-some k h)
whole_by (Integer bytes signed) ms k h e = absurd (none-some k h)
whole_by (Pointer n t) ms k h e = absurd (none-some k h)
whole_by (Array t n) ms k h e = absurd (none-some k h)
whole_by (Function ps r) ms k h e = absurd (none-some k h)

-- a struct that has ended is complete in the table
pub ended-whole : (T : Table) (members : TypedMembers) (t : TypeId) (s s' : Scopes) → EndsAggregate T members t s s' → IsComplete T t
ended-whole T members t s s' h =
    whole_by (shape_at T t) (members_at T t) h.number h.declared
    (ap is_empty h.types ∙ no_empty (member_names members) (member_types members) (members_alike members) h.some)

number_in : (T : Table) (t : TypeId) (k : ℕ) → number_of_shape (shape_at T t) ≡ Some k → IsType T t
number_in T t k h = is_in T t (by (shape_at T t) h)
  where
    by : (x : TypeShape) → number_of_shape x ≡ Some k → is_void_shape x ≡ false
    by Void p = absurd (none-some k p)
    by (Struct n) p = refl
    by (Union n) p = refl
    by (Integer bytes signed) p = refl
    by (Pointer n u) p = refl
    by (Array u n) p = refl
    by (Function ps r) p = refl

pub ended-in : (T : Table) (members : TypedMembers) (t : TypeId) (s s' : Scopes) → EndsAggregate T members t s s' → IsType T t
ended-in T members t s s' h = number_in T t h.number h.declared

pub taken-in : (void : Bool) (T : Table) (s : Scopes) (t : TypeId) → IsTakenType void T s t → IsType T t
taken-in true T s t h = h.0
taken-in false T s t h = scalar_in T t h

module _ (T U : Table) (x : IsExtended T U) (basic : IsBasic T) where
  named_by-kept : (n : Named) (list : TypedSpecifierList) (t : TypeId) → IsNamedType T n list t → IsNamedType U n list t
  named_by-kept NoType list t h = has-kept T U x basic t (_) h
  named_by-kept (Declarators.IsType u) list t h = h
  named_by-kept IsEnumeration list t h = has-kept T U x basic t (Integer 4 true) h

  pub of_type-kept : (list : TypedSpecifierList) (t : TypeId) → AreOfType T list t → AreOfType U list t
  of_type-kept list t h = record { allowed = h.allowed; there = still_in T U x t h.there; type = named_by-kept (Declarators.named_by_list list) list t h.type }

  pub array-kept : (s : Scopes) (o : Outermost) (words : List Word) (count : Option ℕ) (element t : TypeId) → MakesArray T s o words count element t
      → MakesArray U s o words count element t
  array-kept s (Points n) words count element t h = (complete_kept T U x s element h.0, has-kept T U x basic t (Pointer n element) h.1)
  array-kept s Written words (Some count) element t h = (h.0, (complete_kept T U x s element h.1.0, has-kept T U x basic t (Array element count) h.1.1))
  array-kept s (Counts k) words (Some count) element t h = (h.0, (complete_kept T U x s element h.1.0, has-kept T U x basic t (Array element count) h.1.1))
  array-kept s (Counts count) words None element t h = (h.0, (complete_kept T U x s element h.1.0, has-kept T U x basic t (Array element count) h.1.1))
  array-kept s Written words None element t h = h

  function_of-kept : (parameters : TypedParameters) (result t : TypeId) → IsFunctionOf T parameters result t → IsFunctionOf U parameters result t
  function_of-kept parameters result t h =
      let there : IsType T result = All-contains (IsType T) (named_by (shape_at T t)) result (basic.formed.each t).named
      (subst (λ (y : TypeShape). Contains (named_by y) result) (sym h.shape.1) (contains_head result (taken_types parameters))) in
      record { gives = ap is_result_shape (x.shapes result there) ∙ h.gives; shape = has-kept T U x basic t (_) h.shape }

  pub function-kept : (o : Outermost) (parameters : TypedParameters) (result t : TypeId) → MakesFunction T o parameters result t → MakesFunction U o parameters result t
  function-kept (Points n) parameters result t h = (h.0, function_of-kept parameters result h.0 h.1, has-kept T U x basic t (Pointer n h.0) h.2)
  function-kept Written parameters result t h = function_of-kept parameters result t h
  function-kept (Counts k) parameters result t h = function_of-kept parameters result t h

  pub parts-kept : (s : Scopes) (parts : TypedParts) (o : Outermost) (base t : TypeId) → PartsMake T s parts o base t → PartsMake U s parts o base t
  parts-kept s typed.NoPart o base t h = h
  parts-kept s (typed.AndArray all at words) o base t h = (h.0, array-kept s (nearest all o) words None base h.0 h.1, parts-kept s all o h.0 t h.2)
  parts-kept s (typed.AndSizedArray all at words e size) o base t h =
      (h.0, array-kept s (nearest all o) words (Some size) base h.0 h.1, parts-kept s all o h.0 t h.2)
  parts-kept s (typed.AndFunction all at parameters) o base t h =
      (h.0, function-kept (nearest all o) parameters base h.0 h.1, parts-kept s all o h.0 t h.2)

  pub stars-kept : (stars : List TypedStar) (base t : TypeId) → StarsMake T stars base t → StarsMake U stars base t
  stars-kept [] base t h = h
  stars-kept (star ∷ stars) base t h = (h.0, has-kept T U x basic h.0 (Pointer star.node base) h.1, stars-kept stars h.0 t h.2)

  mutual
    pub form_makes-kept : (s : Scopes) (form : TypedForm) (o : Outermost) (base t : TypeId) → FormMakes T s form o base t → FormMakes U s form o base t
    form_makes-kept s (typed.Form stars core parts) o base t h =
        (h.0, h.1, stars-kept stars base h.0 h.2, parts-kept s parts (outside core o) h.0 h.1 h.3, core_makes-kept s core o h.1 t h.4)

    pub core_makes-kept : (s : Scopes) (core : TypedCore) (o : Outermost) (base t : TypeId) → CoreMakes T s core o base t → CoreMakes U s core o base t
    core_makes-kept s (typed.Names name home) o base t h = h
    core_makes-kept s typed.Unnamed o base t h = h
    core_makes-kept s (typed.Nested at form) o base t h = form_makes-kept s form o base t h

  pub declared_makes-kept : (s : Scopes) (d : TypedDeclared) (o : Outermost) (base t : TypeId) → DeclaredMakes T s d o base t → DeclaredMakes U s d o base t
  declared_makes-kept s typed.NotDeclared o base t h = h
  declared_makes-kept s (typed.DeclaredBy form) o base t h = form_makes-kept s form o base t h

  adjusted_by : (n : NodeId) (y z : TypeShape) (t u : TypeId) → (is_void_shape y ≡ false → z ≡ y) → AdjustedShape T n y t u → AdjustedShape U n z t u
  adjusted_by n (Array element count) z t u same h =
      subst (λ (w : TypeShape). AdjustedShape U n w t u) (sym (same refl)) (has-kept T U x basic u (Pointer n element) h)
  adjusted_by n (Function ps r) z t u same h = subst (λ (w : TypeShape). AdjustedShape U n w t u) (sym (same refl)) (has-kept T U x basic u (Pointer n t) h)
  adjusted_by n Void z t u same h = absurd h
  adjusted_by n (Integer bytes signed) z t u same h = absurd h
  adjusted_by n (Pointer m v) z t u same h = absurd h
  adjusted_by n (Struct k) z t u same h = absurd h
  adjusted_by n (Union k) z t u same h = absurd h

  makes_adjusted-kept : (b : Bool) (s : Scopes) (n : NodeId) (d : TypedDeclared) (base t : TypeId) → MakesAdjusted b T s n d base t → MakesAdjusted b U s n d base t
  makes_adjusted-kept true s n d base t h = declared_makes-kept s d (Points n) base t h
  makes_adjusted-kept false s n d base t h = adjusted_by n (shape_at T base) (shape_at U base) base t (λ v. x.shapes base (is_in T base v)) h

  pub parameter-kept : (s : Scopes) (a : Option Adjusted) (d : TypedDeclared) (base t : TypeId) → IsType T t → ParameterMakes T s a d base t → ParameterMakes U s a d base t
  parameter-kept s None d base t here h = (declared_makes-kept s d Written base t h.0, ap is_object_shape (x.shapes t here) ∙ h.1)
  parameter-kept s (Some adjusted) d base t here h = makes_adjusted-kept (is_derived_declared d) s adjusted.node d base t h

  pub taken-kept : (void : Bool) (s : Scopes) (t : TypeId) → IsTakenType void T s t → IsTakenType void U s t
  taken-kept true s t h = has-kept T U x basic t Void h
  taken-kept false s t h = scalar-kept T U x basic t h

  new-kept : (which : AggregateKind) (name : Option Identifier) (t : TypeId) (s s' : Scopes) → IsNewAggregate T which name t s s' → IsNewAggregate U which name t s s'
  new-kept which name t s s' h = record { shape = has-kept T U x basic t (_) h.shape; after = h.after }

  pub tagged-kept : (o : Option Tag) (which : AggregateKind) (name : Identifier) (t : TypeId) (s s' : Scopes) → IsTagged T o which name t s s' → IsTagged U o which name t s s'
  tagged-kept (Some found) which name t s s' h = h
  tagged-kept None which name t s s' h = new-kept which (Some name) t s s' h

  pub begins-kept : (o : Option Tag) (which : AggregateKind) (name : Option Identifier) (t : TypeId) (s s' : Scopes) → IsType T t
      → BeginsAggregate T o which name t s s' → BeginsAggregate U o which name t s s'
  begins-kept (Some found) which name t s s' here h = (h.0, complete_exact T U x basic s t here ∙ h.1, h.2)
  begins-kept None which name t s s' here h = new-kept which name t s s' h

  pub ends-kept : (members : TypedMembers) (t : TypeId) (s s' : Scopes) → EndsAggregate T members t s s' → EndsAggregate U members t s s'
  ends-kept members t s s' h =
      let same = x.complete t (ended-whole T members t s s' h) in
      record {
        number = h.number;
        declared = ap (λ (d : Entry). number_of_shape d.shape) same ∙ h.declared;
        some = h.some;
        distinct = h.distinct;
        types = ap (λ (d : Entry). d.members) same ∙ h.types;
        unfinished = complete_exact T U x basic s t (ended-in T members t s s' h) ∙ h.unfinished;
        after = h.after;
      }

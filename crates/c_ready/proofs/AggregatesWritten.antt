-- Each struct and union that has members was written with them: a specifier of the unit gives them.
use Rattle.std.specs.List.{Contains}
use Rattle.std.proofs.Common.{◌≡◌, ◌⊎◌, ℕ, zero, suc, Bool, true, false, ◌&&◌, not, List, [], ◌∷◌, ◌++◌, length, Option, Some, None, slice_set, inl, inr, refl, ap, sym, subst, ◌∙◌, true≢false, arith}
use Rattle.std.proofs.lemmas.List.Elements.{Contains-append_left, Contains-append_right, Contains-push}
use Rattle.std.proofs.lemmas.Option.{none-some}
use Rattle.cc_base.specs.declared.place.Place.{Place}
use Rattle.cc_base.specs.declared.number.TypeId.{TypeId}
use Rattle.c_types.specs.declared.shape.TypeShape.{TypeShape}
use Rattle.c_types.specs.declared.shape.TypeShape.TheVariants as shape
use Rattle.c_types.specs.Table.{Table, IsAggregate, IsComplete, is_aggregate_shape, is_complete_entry, is_empty, members_at, shape_at}
use Rattle.c_tree.specs.declared.leaf.Identifier.{Identifier}
use Rattle.c_tree.specs.declared.operator.AggregateKind.{AggregateKind}
use Rattle.c_tree.specs.declared.typed_word.Home.{Home}
use Rattle.c_tree.specs.declared.typed_word.Home.TheVariants as home
use Rattle.c_tree.specs.declared.typed_word.Runtime.{Runtime}
use Rattle.c_tree.specs.TypedTree as typed
use Rattle.c_tree.specs.TypedTree.{TypedExpr, TypedPlace, TypedArguments, TypedTypeName, TypedSpecifiers, TypedSpecifierList, TypedSpecifier, TypedMembers, TypedMemberDeclarators, TypedEnumerators, TypedForm, TypedCore, TypedParts, TypedParameters, TypedDeclared, TypedInitialiser, TypedItems, TypedInitDeclarators, TypedDeclaration, TypedStatement, TypedBlockItems, TypedTranslationUnit}
use Rattle.c_tree.specs.TypedParts.{specified_type, type_of, item_place, home_of_form, is_void_list}
use Rattle.c_typing.specs.declared.declared.Declared.{Declared}
use Rattle.c_typing.specs.declared.declared.Declared.TheVariants as declared
use Rattle.c_typing.specs.declared.declared.Tag.{Tag}
use Rattle.c_typing.specs.declared.declared.Tag.TheVariants as tag
use Rattle.c_typing.specs.Declarators.{Outermost, member_names}
use Rattle.c_typing.specs.Rules.{number_of_shape, runtime_named}
use Rattle.c_typing.specs.Scopes.{Name, Scopes, entering, here, members_named}
use Rattle.c_typing.specs.Shapes.{is_function_shape}
use Rattle.c_typing.specs.Typing.{IsTyped, IsPlace, AreTyped, IsTypeName, AreSpecifiers, AreAlone, AreListed, IsSpecifier, AreMembers, AreMemberDeclarators, AreEnumerators, IsForm, IsCore, AreParts, AreParameters, IsDeclared, IsNewAggregate, IsTagged, BeginsAggregate, EndsAggregate, DeclaresParameter, tagging, tag_named_here, enumerating, EndsEnumeration}
use Rattle.c_unit_typing.specs.Initialisers.{IsInitialiser, AreItems, is_only_text, is_char_array}
use Rattle.c_unit_typing.specs.Units.{Known, Storage, Unstored, AsTypedef, AsExtern, AsStatic, AsAutomatic, storage_of, with_scopes, unless_here, IsLinked, IsLinkedObject, IsStaticOrLocal, IsObjectDeclared, IsOrdinaryDeclared, IsNameDeclared, IsDeclarator, IsDefinedOnce, IsInitialised, AreDeclarators, IsDeclaration, Around, in_a_loop, in_a_switch, entering_known, leaving_known, IsDropped, IsTestedOrNone, IsReturned, IsStatement, AreBlockItems, IsUnitTyped}
use Rattle.c_unit_typing.specs.WellTyped.{IsWellTyped, known_before}
use Rattle.c_ready.specs.Ready.{IsWritten}
use Rattle.src_machine.specs.Pieces.{Piece, ASpecifier, pieces_of, pieces_of_place, pieces_of_arguments, pieces_of_type_name, pieces_of_specifiers, pieces_of_specifier_list, pieces_of_specifier, pieces_of_members, pieces_of_member_declarators, pieces_of_enumerators, pieces_of_form, pieces_of_core, pieces_of_parts, pieces_of_parameters, pieces_of_declared, pieces_of_initialiser, pieces_of_items, pieces_of_init_declarators, pieces_of_declaration, pieces_of_optional, pieces_of_statement, pieces_of_block_items, pieces_of_unit}

-- the names of the members of struct or union number n
abbrev naming : List (List Name) → Scopes
naming ms = record { levels = []; defined = []; members = ms }

counting_names : (ms : List (List Name)) (n : ℕ) → members_named (naming (ms ++ [] ∷ [])) n ≡ members_named (naming ms) n
counting_names [] zero = refl
counting_names [] (suc n) = refl
counting_names (m ∷ ms) zero = refl
counting_names (m ∷ ms) (suc n) = counting_names ms n

-- where one entry is set, the others stay
set_names : (ms : List (List Name)) (k n : ℕ) (names : List Name) → (n ≡ k)
    ⊎ (members_named (naming (slice_set ms k names)) n ≡ members_named (naming ms) n)
set_names [] zero zero names = inl refl
set_names [] zero (suc n) names = inr refl
set_names [] (suc k) n names = inr refl
set_names (m ∷ ms) zero zero names = inl refl
set_names (m ∷ ms) zero (suc n) names = inr refl
set_names (m ∷ ms) (suc k) zero names = inr refl
set_names (m ∷ ms) (suc k) (suc n) names = elim (set_names ms k n names) [
  | inl e ↦ inl (ap suc e)
  | inr e ↦ inr e
]

module _ (T : Table) where
  -- a specifier gives the members of struct or union number n
  pub record HasAggregate (n : ℕ) (xs : List Piece) : Type 0 where
    pub kind : AggregateKind
    pub place : Place
    pub name : Option Identifier
    pub brace : Place
    pub members : TypedMembers
    pub type : TypeId
    pub there : Contains xs (ASpecifier (typed.Aggregate kind place name brace members type))
    pub number : number_of_shape (shape_at T type) ≡ Some n

  -- what has members behind a part and not before it is written in the part
  pub record Grown (s s' : Scopes) (xs : List Piece) : Type 0 where
    pub told : (n : ℕ) → is_empty (members_named s' n) ≡ false → (is_empty (members_named s n) ≡ false) ⊎ HasAggregate n xs

  kept : (s s' : Scopes) (xs : List Piece) → s'.members ≡ s.members → Grown s s' xs
  kept s s' xs e = record { told = λ n h. inl (ap (λ (ms : List (List Name)). is_empty (members_named (naming ms) n)) (sym e) ∙ h) }

  same : (s s' : Scopes) (xs : List Piece) → s' ≡ s → Grown s s' xs
  same s s' xs e = kept s s' xs (ap (λ (q : Scopes). q.members) e)

  left-has : (n : ℕ) (xs ys : List Piece) → HasAggregate n xs → HasAggregate n (xs ++ ys)
  left-has n xs ys h = record {
    kind = h.kind;
    place = h.place;
    name = h.name;
    brace = h.brace;
    members = h.members;
    type = h.type;
    there = Contains-append_left xs ys _ h.there;
    number = h.number;
  }

  right-has : (n : ℕ) (xs ys : List Piece) → HasAggregate n ys → HasAggregate n (xs ++ ys)
  right-has n xs ys h = record {
    kind = h.kind;
    place = h.place;
    name = h.name;
    brace = h.brace;
    members = h.members;
    type = h.type;
    there = Contains-append_right xs ys _ h.there;
    number = h.number;
  }

  both : (s m s' : Scopes) (xs ys : List Piece) → Grown s m xs → Grown m s' ys → Grown s s' (xs ++ ys)
  both s m s' xs ys p q = record {
    told = λ n h. elim (q.told n h) [
      | inl e ↦ elim (p.told n e) [
        | inl f ↦ inl f
        | inr a ↦ inr (left-has n xs ys a)
      ]
      | inr a ↦ inr (right-has n xs ys a)
    ];
  }

  wide : (s s' : Scopes) (xs ys : List Piece) → Grown s s' xs → Grown s s' (xs ++ ys)
  wide s s' xs ys p = both s s' s' xs ys p (same s' s' ys refl)

  first : (s m s' : Scopes) (xs : List Piece) → m.members ≡ s.members → Grown m s' xs → Grown s s' xs
  first s m s' xs e p = record {
    told = λ n h. elim (p.told n h) [
      | inl f ↦ inl (ap (λ (ms : List (List Name)). is_empty (members_named (naming ms) n)) (sym e) ∙ f)
      | inr a ↦ inr a
    ];
  }

  last : (s m s' : Scopes) (xs : List Piece) → s'.members ≡ m.members → Grown s m xs → Grown s s' xs
  last s m s' xs e p = record {
    told = λ n h. p.told n (ap (λ (ms : List (List Name)). is_empty (members_named (naming ms) n)) (sym e) ∙ h);
  }

  runtime-same : (f : TypedExpr) (function : Runtime) (s s' : Scopes) → runtime_named f ≡ Some function → IsTyped T f s s' → s' ≡ s
  runtime-same (typed.RuntimeName name other t) function s s' h q = q.0
  runtime-same (typed.Paren at e) function s s' h q = runtime-same e function s s' h q.0
  runtime-same e function s s' h q = absurd (none-some function h)

  tagging-kept : (name : Option Identifier) (what : Tag) (s : Scopes) → (tagging name what s).members ≡ s.members
  tagging-kept None what s = refl
  tagging-kept (Some name) what s = refl

  new-grown : (which : AggregateKind) (name : Option Identifier) (t : TypeId) (s s' : Scopes) (xs : List Piece) → IsNewAggregate T which name t s s'
      → Grown s s' xs
  new-grown which name t s s' xs h = record {
    told = λ n q. inl (sym (ap (λ (names : List Name). is_empty names)
        (ap (λ (z : Scopes). members_named (naming z.members) n) h.after
        ∙ (ap (λ (ms : List (List Name)). members_named (naming ms) n) (tagging-kept name (tag.Aggregate which t) _)
        ∙ counting_names s.members n))) ∙ q);
  }

  tagged-grown : (o : Option Tag) (which : AggregateKind) (name : Identifier) (t : TypeId) (s s' : Scopes) (xs : List Piece)
      → IsTagged T o which name t s s' → Grown s s' xs
  tagged-grown (Some found) which name t s s' xs h = same s s' xs h.1
  tagged-grown None which name t s s' xs h = new-grown which (Some name) t s s' xs h

  begun-grown : (o : Option Tag) (which : AggregateKind) (name : Option Identifier) (t : TypeId) (s s' : Scopes) (xs : List Piece)
      → BeginsAggregate T o which name t s s' → Grown s s' xs
  begun-grown (Some found) which name t s s' xs h = same s s' xs h.2
  begun-grown None which name t s s' xs h = new-grown which name t s s' xs h

  ended-grown : (which : AggregateKind) (at : Place) (name : Option Identifier) (brace : Place) (members : TypedMembers) (t : TypeId) (s s' : Scopes)
      → EndsAggregate T members t s s' → Grown s s' (ASpecifier (typed.Aggregate which at name brace members t) ∷ [])
  ended-grown which at name brace members t s s' h = record {
    told = λ n q. elim (set_names s.members h.number n (member_names members)) [
      | inl e ↦ inr (record {
        kind = which;
        place = at;
        name = name;
        brace = brace;
        members = members;
        type = t;
        there = Contains-push [] (ASpecifier (typed.Aggregate which at name brace members t));
        number = h.declared ∙ ap (λ i. Some i) (sym e);
      })
      | inr e ↦ inl (sym (ap (λ (names : List Name). is_empty names) (ap (λ (z : Scopes). members_named (naming z.members) n) h.after ∙ e)) ∙ q)
    ];
  }

  enumerating-kept : (name : Option Identifier) (s : Scopes) → (enumerating name s).members ≡ s.members
  enumerating-kept None s = refl
  enumerating-kept (Some name) s = by (tag_named_here s (Some name)) refl
    where
      by : (o : Option Tag) → tag_named_here s (Some name) ≡ o → (enumerating (Some name) s).members ≡ s.members
      by None h = rw h refl
      by (Some found) h = rw h refl

  enumerated-kept : (name : Option Identifier) (s s' : Scopes) → EndsEnumeration name s s' → s'.members ≡ s.members
  enumerated-kept None s s' h = ap (λ (q : Scopes). q.members) h.after
  enumerated-kept (Some name) s s' h = ap (λ (q : Scopes). q.members) h.after

  parameter-kept : (form : TypedForm) (t : TypeId) (s s' : Scopes) → DeclaresParameter (typed.DeclaredBy form) t s s' → s'.members ≡ s.members
  parameter-kept (typed.Form stars (typed.Names name (home.Parameter n)) parts) t s s' h = ap (λ (q : Scopes). q.members) h.after
  parameter-kept (typed.Form stars (typed.Names name other) parts) t s s' h = absurd h
  parameter-kept (typed.Form stars typed.Unnamed parts) t s s' h = ap (λ (q : Scopes). q.members) h
  parameter-kept (typed.Form stars (typed.Nested at form) parts) t s s' h = parameter-kept form t s s' h

  declared-kept : (d : TypedDeclared) (t : TypeId) (s s' : Scopes) → DeclaresParameter d t s s' → s'.members ≡ s.members
  declared-kept typed.NotDeclared t s s' h = ap (λ (q : Scopes). q.members) h
  declared-kept (typed.DeclaredBy form) t s s' h = parameter-kept form t s s' h

  mutual
    pub value-grown : (e : TypedExpr) (s s' : Scopes) → IsTyped T e s s' → Grown s s' (pieces_of e)
    value-grown (typed.Integer of value at t) s s' h = same s s' _ h.0
    value-grown (typed.Character value at t) s s' h = same s s' _ h.0
    value-grown (typed.Enumerator name value t) s s' h = same s s' _ h.0
    value-grown (typed.RuntimeName name function t) s s' h = same s s' _ h.0
    value-grown (typed.FunctionName name number m t) s s' h = same s s' _ h.0
    value-grown (typed.Paren at e) s s' h = value-grown e s s' h.0
    value-grown (typed.Convert which at t e) s s' h = wide s s' (pieces_of e) _ (value-grown e s s' h.0)
    value-grown (typed.AddressOfFunction at e) s s' h = value-grown e s s' h.0
    value-grown (typed.FunctionAt at e) s s' h = value-grown e s s' h.0
    value-grown (typed.Prefix operator at e t) s s' h = value-grown e s s' h.0
    value-grown (typed.SizeOfValue at e size t) s s' h = value-grown e s s' h.0
    value-grown (typed.Read p) s s' h = place-grown p s s' h.0
    value-grown (typed.Unread p) s s' h = place-grown p s s' h.0
    value-grown (typed.AddressOfElement at p t) s s' h = place-grown p s s' h.0
    value-grown (typed.SizeOfPlace at p size t) s s' h = place-grown p s s' h.0
    value-grown (typed.StepBefore operator at p) s s' h = wide s s' (pieces_of_place p) _ (place-grown p s s' h.0)
    value-grown (typed.StepAfter p operator at) s s' h = wide s s' (pieces_of_place p) _ (place-grown p s s' h.0)
    value-grown (typed.Decay p m t) s s' h = wide s s' (pieces_of_place p) _ (place-grown p s s' h.0)
    value-grown (typed.AddressOf at p m t) s s' h = wide s s' (pieces_of_place p) _ (place-grown p s s' h.0)
    value-grown (typed.SizeOfType at paren name size t) s s' h = type_name-grown name s s' h.0
    value-grown (typed.Cast which at to e) s s' h =
        wide s s' (pieces_of_type_name to ++ pieces_of e) _
        (both s h.0 s' (pieces_of_type_name to) (pieces_of e) (type_name-grown to s h.0 h.1) (value-grown e h.0 s' h.2))
    value-grown (typed.Arithmetic operator a at b t) s s' h =
        both s h.0 s' (pieces_of a) (pieces_of b) (value-grown a s h.0 h.1) (value-grown b h.0 s' h.2)
    value-grown (typed.Moved operator which a at b t) s s' h =
        wide s s' (pieces_of a ++ pieces_of b) _ (both s h.0 s' (pieces_of a) (pieces_of b) (value-grown a s h.0 h.1) (value-grown b h.0 s' h.2))
    value-grown (typed.Difference a at b t) s s' h =
        wide s s' (pieces_of a ++ pieces_of b) _ (both s h.0 s' (pieces_of a) (pieces_of b) (value-grown a s h.0 h.1) (value-grown b h.0 s' h.2))
    value-grown (typed.Compared operator a at b t) s s' h =
        wide s s' (pieces_of a ++ pieces_of b) _ (both s h.0 s' (pieces_of a) (pieces_of b) (value-grown a s h.0 h.1) (value-grown b h.0 s' h.2))
    value-grown (typed.Logical operator a at b t) s s' h =
        both s h.0 s' (pieces_of a) (pieces_of b) (value-grown a s h.0 h.1) (value-grown b h.0 s' h.2)
    value-grown (typed.Comma a b) s s' h = both s h.0 s' (pieces_of a) (pieces_of b) (value-grown a s h.0 h.1) (value-grown b h.0 s' h.2)
    value-grown (typed.Conditional c at a b t) s s' h =
        both s h.1 s' (pieces_of c ++ pieces_of a) (pieces_of b)
        (both s h.0 h.1 (pieces_of c) (pieces_of a) (value-grown c s h.0 h.2) (value-grown a h.0 h.1 h.3)) (value-grown b h.1 s' h.4)
    value-grown (typed.PointerConditional c at a b m t) s s' h =
        both s h.1 s' (pieces_of c ++ pieces_of a) (pieces_of b)
        (both s h.0 h.1 (pieces_of c) (pieces_of a) (value-grown c s h.0 h.2) (value-grown a h.0 h.1 h.3)) (value-grown b h.1 s' h.4)
    value-grown (typed.Assign p at e) s s' h =
        both s h.0 s' (pieces_of_place p) (pieces_of e) (place-grown p s h.0 h.1) (value-grown e h.0 s' h.2)
    value-grown (typed.AssignWith operator p at e t) s s' h =
        wide s s' (pieces_of_place p ++ pieces_of e) _
        (both s h.0 s' (pieces_of_place p) (pieces_of e) (place-grown p s h.0 h.1) (value-grown e h.0 s' h.2))
    value-grown (typed.Call f at arguments t) s s' h =
        both s h.0 s' (pieces_of f) (pieces_of_arguments arguments) (value-grown f s h.0 h.1) (arguments-grown arguments h.0 s' h.2)
    value-grown (typed.CallRuntime function f at arguments t) s s' h =
        first s h.0 s' (pieces_of_arguments arguments) (ap (λ (q : Scopes). q.members) (runtime-same f function s h.0 h.3.call.named h.1))
        (arguments-grown arguments h.0 s' h.2)
    value-grown (typed.AllocateFor function f at arguments t) s s' h =
        first s h.0 s' (pieces_of_arguments arguments) (ap (λ (q : Scopes). q.members) (runtime-same f function s h.0 h.3.call.named h.1))
        (arguments-grown arguments h.0 s' h.2)
    value-grown (typed.Allocate function f at arguments m t) s s' h =
        first s h.0 s' (pieces_of_arguments arguments) (ap (λ (q : Scopes). q.members) (runtime-same f function s h.0 h.3.call.named h.1))
        (arguments-grown arguments h.0 s' h.2)

    pub place-grown : (p : TypedPlace) (s s' : Scopes) → IsPlace T p s s' → Grown s s' (pieces_of_place p)
    place-grown (typed.Variable name home t) s s' h = same s s' _ h.0
    place-grown (typed.String pieces home t) s s' h = same s s' _ h.0
    place-grown (typed.ParenPlace at p) s s' h = place-grown p s s' h
    place-grown (typed.Target at e t) s s' h = value-grown e s s' h.0
    place-grown (typed.Element which a at b t) s s' h =
        wide s s' (pieces_of a ++ pieces_of b) _ (both s h.0 s' (pieces_of a) (pieces_of b) (value-grown a s h.0 h.1) (value-grown b h.0 s' h.2))
    place-grown (typed.Member p at name i m t) s s' h = wide s s' (pieces_of_place p) _ (place-grown p s s' h.0)
    place-grown (typed.MemberAt e at name i m t) s s' h = wide s s' (pieces_of e) _ (value-grown e s s' h.0)
    place-grown (typed.StructAssign p at q) s s' h =
        wide s s' (pieces_of_place p ++ pieces_of_place q) _
        (both s h.0 s' (pieces_of_place p) (pieces_of_place q) (place-grown p s h.0 h.1) (place-grown q h.0 s' h.2))
    place-grown (typed.StructConditional c at p q) s s' h =
        wide s s' (pieces_of c ++ pieces_of_place p ++ pieces_of_place q) _
        (both s h.1 s' (pieces_of c ++ pieces_of_place p) (pieces_of_place q)
        (both s h.0 h.1 (pieces_of c) (pieces_of_place p) (value-grown c s h.0 h.2) (place-grown p h.0 h.1 h.3)) (place-grown q h.1 s' h.4))
    place-grown (typed.StructComma e p) s s' h =
        both s h.0 s' (pieces_of e) (pieces_of_place p) (value-grown e s h.0 h.1) (place-grown p h.0 s' h.2)

    pub arguments-grown : (all : TypedArguments) (s s' : Scopes) → AreTyped T all s s' → Grown s s' (pieces_of_arguments all)
    arguments-grown typed.NoArgument s s' h = same s s' [] h
    arguments-grown (typed.AndArgument all e) s s' h =
        both s h.0 s' (pieces_of_arguments all) (pieces_of e) (arguments-grown all s h.0 h.1) (value-grown e h.0 s' h.2)

    pub type_name-grown : (name : TypedTypeName) (s s' : Scopes) → IsTypeName T name s s' → Grown s s' (pieces_of_type_name name)
    type_name-grown (typed.Named specifiers d t) s s' h =
        both s h.0 s' (pieces_of_specifiers specifiers) (pieces_of_declared d) (specifiers-grown specifiers s h.0 h.1) (declared-grown d h.0 s' h.2)

    pub specifiers-grown : (all : TypedSpecifiers) (s s' : Scopes) → AreSpecifiers T all s s' → Grown s s' (pieces_of_specifiers all)
    specifiers-grown (typed.Specified list t) s s' h = listed-grown list s s' h.0

    pub listed-grown : (list : TypedSpecifierList) (s s' : Scopes) → AreListed T list s s' → Grown s s' (pieces_of_specifier_list list)
    listed-grown typed.NoSpecifier s s' h = same s s' [] h
    listed-grown (typed.AndSpecifier all one) s s' h =
        both s h.0 s' (pieces_of_specifier_list all) (pieces_of_specifier one) (listed-grown all s h.0 h.1) (specifier-grown one h.0 s' h.2)

    pub specifier-grown : (x : TypedSpecifier) (s s' : Scopes) → IsSpecifier T x s s' → Grown s s' (pieces_of_specifier x)
    specifier-grown (typed.Keyword word) s s' h = same s s' [] h
    specifier-grown (typed.Typedef name t) s s' h = same s s' [] h.0
    specifier-grown (typed.Tagged which at name t) s s' h = tagged-grown _ which name t s s' [] h
    specifier-grown (typed.Aggregate which at name brace members t) s s' h =
        both s h.1 s' (pieces_of_members members) (ASpecifier (typed.Aggregate which at name brace members t) ∷ [])
        (both s h.0 h.1 [] (pieces_of_members members) (begun-grown _ which name t s h.0 [] h.2) (members-grown members h.0 h.1 h.3))
        (ended-grown which at name brace members t h.1 s' h.4)
    specifier-grown (typed.Enum at name) s s' h = same s s' [] h.0
    specifier-grown (typed.Enumeration at name brace all comma) s s' h =
        first s (enumerating name s) s' (pieces_of_enumerators all) (enumerating-kept name s)
        (last (enumerating name s) h.0 s' (pieces_of_enumerators all) (enumerated-kept name h.0 s' h.2) (enumerators-grown all (enumerating name s) h.0 h.1))

    pub members-grown : (all : TypedMembers) (s s' : Scopes) → AreMembers T all s s' → Grown s s' (pieces_of_members all)
    members-grown typed.NoMember s s' h = same s s' [] h
    members-grown (typed.AndMember all specifiers ds) s s' h =
        both s h.1 s' (pieces_of_members all ++ pieces_of_specifiers specifiers) (pieces_of_member_declarators ds)
        (both s h.0 h.1 (pieces_of_members all) (pieces_of_specifiers specifiers) (members-grown all s h.0 h.2)
        (specifiers-grown specifiers h.0 h.1 h.3)) (member_declarators-grown (specified_type specifiers) ds h.1 s' h.4)

    pub member_declarators-grown : (base : TypeId) (all : TypedMemberDeclarators) (s s' : Scopes) → AreMemberDeclarators T base all s s'
        → Grown s s' (pieces_of_member_declarators all)
    member_declarators-grown base typed.NoDeclarator s s' h = same s s' [] h
    member_declarators-grown base (typed.AndDeclarator all (typed.Declares form t)) s s' h =
        both s h.0 s' (pieces_of_member_declarators all) (pieces_of_form form) (member_declarators-grown base all s h.0 h.1)
        (form-grown form h.0 s' h.2)

    pub enumerators-grown : (all : TypedEnumerators) (s s' : Scopes) → AreEnumerators T all s s' → Grown s s' (pieces_of_enumerators all)
    enumerators-grown typed.NoEnumerator s s' h = same s s' [] h
    enumerators-grown (typed.AndEnumerator all name value) s s' h =
        last s h.0 s' (pieces_of_enumerators all) (ap (λ (q : Scopes). q.members) h.3.after) (enumerators-grown all s h.0 h.1)
    enumerators-grown (typed.AndValued all name at e value) s s' h =
        last s h.1 s' (pieces_of_enumerators all ++ pieces_of e) (ap (λ (q : Scopes). q.members) h.5.after)
        (both s h.0 h.1 (pieces_of_enumerators all) (pieces_of e) (enumerators-grown all s h.0 h.2) (value-grown e h.0 h.1 h.3))

    pub form-grown : (form : TypedForm) (s s' : Scopes) → IsForm T form s s' → Grown s s' (pieces_of_form form)
    form-grown (typed.Form stars core parts) s s' h =
        both s h.0 s' (pieces_of_core core) (pieces_of_parts parts) (core-grown core s h.0 h.1) (parts-grown parts h.0 s' h.2)

    pub core-grown : (core : TypedCore) (s s' : Scopes) → IsCore T core s s' → Grown s s' (pieces_of_core core)
    core-grown (typed.Names name home) s s' h = same s s' [] h
    core-grown typed.Unnamed s s' h = same s s' [] h
    core-grown (typed.Nested at form) s s' h = form-grown form s s' h

    pub parts-grown : (parts : TypedParts) (s s' : Scopes) → AreParts T parts s s' → Grown s s' (pieces_of_parts parts)
    parts-grown typed.NoPart s s' h = same s s' [] h
    parts-grown (typed.AndArray all at words) s s' h = parts-grown all s s' h
    parts-grown (typed.AndSizedArray all at words e size) s s' h =
        both s h.0 s' (pieces_of_parts all) (pieces_of e) (parts-grown all s h.0 h.1) (value-grown e h.0 s' h.2)
    parts-grown (typed.AndFunction all at ps) s s' h =
        last s h.1 s' (pieces_of_parts all ++ pieces_of_parameters ps) (ap (λ (q : Scopes). q.members) h.4)
        (both s h.0 h.1 (pieces_of_parts all) (pieces_of_parameters ps) (parts-grown all s h.0 h.2)
        (first h.0 (entering h.0) h.1 (pieces_of_parameters ps) refl (parameters-grown (is_void_list ps) ps (entering h.0) h.1 h.3)))

    pub parameters-grown : (void : Bool) (all : TypedParameters) (s s' : Scopes) → AreParameters T void all s s'
        → Grown s s' (pieces_of_parameters all)
    parameters-grown void typed.NoParameter s s' h = same s s' [] h
    parameters-grown void (typed.AndParameter all specifiers d adjusted t) s s' h =
        last s h.2 s' (pieces_of_parameters all ++ pieces_of_specifiers specifiers ++ pieces_of_declared d) (declared-kept d t h.2 s' h.9)
        (both s h.1 h.2 (pieces_of_parameters all ++ pieces_of_specifiers specifiers) (pieces_of_declared d)
        (both s h.0 h.1 (pieces_of_parameters all) (pieces_of_specifiers specifiers) (parameters-grown void all s h.0 h.3)
        (specifiers-grown specifiers h.0 h.1 h.4)) (declared-grown d h.1 h.2 h.5))

    pub declared-grown : (d : TypedDeclared) (s s' : Scopes) → IsDeclared T d s s' → Grown s s' (pieces_of_declared d)
    declared-grown typed.NotDeclared s s' h = same s s' [] h
    declared-grown (typed.DeclaredBy form) s s' h = form-grown form s s' h

-- Names that are declared give no members

abbrev known_members : Known → List (List Name)
known_members k = k.scopes.members

here-kept : (o : Option Declared) (name : Name) (what : Declared) (s : Scopes) → (unless_here o name what s).members ≡ s.members
here-kept None name what s = refl
here-kept (Some x) name what s = refl

module _ (T : Table) where
  linked-kept : (name : Name) (what : Declared) (k m : Known) → IsLinked T name what k m → known_members m ≡ known_members k
  linked-kept name what k m h = ap known_members h.after ∙ here-kept (here k.scopes.levels name) name what k.scopes

  object-kept : (name : Name) (h : Home) (t : TypeId) (k m : Known) → IsLinkedObject T name h t k m → known_members m ≡ known_members k
  object-kept name h t k m o = ap known_members o.after ∙ linked-kept name (declared.Object t o.node) k o.middle o.linked

  local-kept : (storage : Storage) (h : Home) (name : Name) (t : TypeId) (k m : Known) → IsStaticOrLocal T storage h name t k m
      → known_members m ≡ known_members k
  local-kept AsStatic (home.Static n) name t k m o = ap known_members o.2 ∙ ap (λ (q : Scopes). q.members) o.1.fresh.after
  local-kept Unstored (home.Local n) name t k m o = ap known_members o.2 ∙ ap (λ (q : Scopes). q.members) o.1.fresh.after
  local-kept AsAutomatic (home.Local n) name t k m o = ap known_members o.2 ∙ ap (λ (q : Scopes). q.members) o.1.fresh.after
  local-kept storage h name t k m o = absurd o

  objects-kept : (file : Bool) (storage : Storage) (h : Home) (name : Name) (t : TypeId) (k m : Known) → IsObjectDeclared T file storage h name t k m
      → known_members m ≡ known_members k
  objects-kept true storage h name t k m o = object-kept name h t k m o
  objects-kept false AsExtern h name t k m o = object-kept name h t k m o
  objects-kept false AsStatic h name t k m o = local-kept AsStatic h name t k m o
  objects-kept false AsTypedef h name t k m o = local-kept AsTypedef h name t k m o
  objects-kept false AsAutomatic h name t k m o = local-kept AsAutomatic h name t k m o
  objects-kept false Unstored h name t k m o = local-kept Unstored h name t k m o

  ordinary-kept : (b : Bool) (file : Bool) (storage : Storage) (h : Home) (name : Name) (t : TypeId) (k m : Known)
      → IsOrdinaryDeclared b T file storage h name t k m → known_members m ≡ known_members k
  ordinary-kept true file storage home.None name t k m o = linked-kept name (declared.Function t) k m o
  ordinary-kept true file storage (home.Static n) name t k m o = absurd o
  ordinary-kept true file storage (home.Local n) name t k m o = absurd o
  ordinary-kept true file storage (home.Parameter n) name t k m o = absurd o
  ordinary-kept true file storage (home.Known n) name t k m o = absurd o
  ordinary-kept false file storage h name t k m o = objects-kept file storage h name t k m o

  typedef-kept : (h : Home) (name : Name) (t : TypeId) (file : Bool) (k m : Known) → IsNameDeclared T file AsTypedef h name t k m
      → known_members m ≡ known_members k
  typedef-kept home.None name t file k m o = ap known_members o.2 ∙ ap (λ (q : Scopes). q.members) o.1.after
  typedef-kept (home.Static n) name t file k m o = absurd o
  typedef-kept (home.Local n) name t file k m o = absurd o
  typedef-kept (home.Parameter n) name t file k m o = absurd o
  typedef-kept (home.Known n) name t file k m o = absurd o

  name-kept : (storage : Storage) (file : Bool) (h : Home) (name : Name) (t : TypeId) (k m : Known) → IsNameDeclared T file storage h name t k m
      → known_members m ≡ known_members k
  name-kept AsTypedef file h name t k m o = typedef-kept h name t file k m o
  name-kept AsExtern file h name t k m o = ordinary-kept (is_function_shape (shape_at T t)) file AsExtern h name t k m o
  name-kept AsStatic file h name t k m o = ordinary-kept (is_function_shape (shape_at T t)) file AsStatic h name t k m o
  name-kept AsAutomatic file h name t k m o = ordinary-kept (is_function_shape (shape_at T t)) file AsAutomatic h name t k m o
  name-kept Unstored file h name t k m o = ordinary-kept (is_function_shape (shape_at T t)) file Unstored h name t k m o

  once-kept : (b : Bool) (name : Name) (k m : Known) → IsDefinedOnce b name k m → known_members m ≡ known_members k
  once-kept true name k m h = ap known_members h.1
  once-kept false name k m h = ap known_members h

  initialised-kept : (h : Home) (k : Known) (name : Name) (i : TypedInitialiser) (m : Known) → IsInitialised T h k name i m
      → known_members m ≡ known_members k
  initialised-kept (home.Local n) k name i m o = ap known_members o
  initialised-kept (home.Static n) k name i m o = once-kept _ name k m o.1
  initialised-kept (home.Known n) k name i m o = once-kept _ name k m o.1
  initialised-kept (home.Parameter n) k name i m o = absurd o
  initialised-kept home.None k name i m o = absurd o

  -- Declarations

  declarator-grown : (file : Bool) (storage : Storage) (base : TypeId) (o : Outermost) (form : TypedForm) (t : TypeId) (k m : Known)
      → IsDeclarator T file storage base o form t k m → Grown T k.scopes m.scopes (pieces_of_form form)
  declarator-grown file storage base o form t k m d =
      last T k.scopes d.inside m.scopes (pieces_of_form form) (name-kept storage file (home_of_form form) d.name.bytes t _ m d.declares)
      (form-grown T form k.scopes d.inside d.parts)

  mutual
    init-grown : (i : TypedInitialiser) (at : Place) (t : TypeId) (s s' : Scopes) → IsInitialiser T i at t s s'
        → Grown T s s' (pieces_of_initialiser i)
    init-grown (typed.Value e) at t s s' h = value-grown T e s s' h.0
    init-grown (typed.Copied p seat) at t s s' h = place-grown T p s s' h.0
    init-grown (typed.Text pieces bytes) at t s s' h = same T s s' [] h.0
    init-grown (typed.Listed brace items comma u) at t s s' h = items-grown items (is_only_text items && is_char_array T t) t s s' h.1

    items-grown : (all : TypedItems) (text : Bool) (t : TypeId) (s s' : Scopes) → AreItems T all text t s s' → Grown T s s' (pieces_of_items all)
    items-grown typed.NoItem text t s s' h = same T s s' [] h
    items-grown (typed.AndItem all offset u i) text t s s' h =
        both T s h.0 s' (pieces_of_items all) (pieces_of_initialiser i) (items-grown all text t s h.0 h.1) (init-grown i (item_place i) u h.0 s' h.2)

  declarators-grown : (file : Bool) (storage : Storage) (base : TypeId) (all : TypedInitDeclarators) (k m : Known)
      → AreDeclarators T file storage base all k m → Grown T k.scopes m.scopes (pieces_of_init_declarators all)
  declarators-grown file storage base typed.NoInitDeclarator k m h = same T k.scopes m.scopes [] (ap (λ (q : Known). q.scopes) h)
  declarators-grown file storage base (typed.AndPlain all (typed.Declares form t)) k m h =
      both T k.scopes h.0.scopes m.scopes (pieces_of_init_declarators all) (pieces_of_form form) (declarators-grown file storage base all k h.0 h.1)
      (declarator-grown file storage base _ form t h.0 m h.2)
  declarators-grown file storage base (typed.AndInitialised all (typed.Declares form t) at i) k m h =
      let x = pieces_of_init_declarators all in let y = pieces_of_form form in let z = pieces_of_initialiser i in
      wide T k.scopes m.scopes (x ++ y ++ z) _
      (last T k.scopes h.2 m.scopes (x ++ y ++ z) (initialised-kept (home_of_form form) _ _ i m h.6)
      (both T k.scopes h.1.scopes h.2 (x ++ y) z
      (both T k.scopes h.0.scopes h.1.scopes x y (declarators-grown file storage base all k h.0 h.3)
      (declarator-grown file storage base _ form t h.0 h.1 h.4)) (init-grown i at t h.1.scopes h.2 h.5)))

  alone-grown : (all : TypedSpecifiers) (s s' : Scopes) → AreAlone T all s s' → Grown T s s' (pieces_of_specifiers all)
  alone-grown (typed.Specified (typed.AndSpecifier typed.NoSpecifier (typed.Tagged which at name t)) u) s s' h =
      tagged-grown T _ which name t s s' [] h.0
  alone-grown (typed.Specified typed.NoSpecifier u) s s' h = specifiers-grown T (typed.Specified typed.NoSpecifier u) s s' h
  alone-grown (typed.Specified (typed.AndSpecifier (typed.AndSpecifier all other) x) u) s s' h =
      specifiers-grown T (typed.Specified (typed.AndSpecifier (typed.AndSpecifier all other) x) u) s s' h
  alone-grown (typed.Specified (typed.AndSpecifier typed.NoSpecifier x) u) s s' h =
      specifiers-grown T (typed.Specified (typed.AndSpecifier typed.NoSpecifier x) u) s s' h

  some-grown : (file : Bool) (specifiers : TypedSpecifiers) (all : TypedInitDeclarators) (k m : Known)
      → ((s : Scopes) × AreSpecifiers T specifiers k.scopes s × AreDeclarators T file (storage_of specifiers) (specified_type specifiers) all
      (with_scopes k s) m) → Grown T k.scopes m.scopes (pieces_of_specifiers specifiers ++ pieces_of_init_declarators all)
  some-grown file specifiers all k m h =
      both T k.scopes h.0 m.scopes (pieces_of_specifiers specifiers) (pieces_of_init_declarators all) (specifiers-grown T specifiers k.scopes h.0 h.1)
      (declarators-grown file (storage_of specifiers) (specified_type specifiers) all (with_scopes k h.0) m h.2)

  declaration-grown : (file : Bool) (d : TypedDeclaration) (k m : Known) → IsDeclaration T file d k m
      → Grown T k.scopes m.scopes (pieces_of_declaration d)
  declaration-grown file (typed.Declare specifiers typed.NoInitDeclarator) k m h =
      last T k.scopes h.0 m.scopes (pieces_of_specifiers specifiers ++ []) (ap known_members h.2)
      (wide T k.scopes h.0 (pieces_of_specifiers specifiers) [] (alone-grown specifiers k.scopes h.0 h.1))
  declaration-grown file (typed.Declare specifiers (typed.AndPlain all d)) k m h = some-grown file specifiers (typed.AndPlain all d) k m h
  declaration-grown file (typed.Declare specifiers (typed.AndInitialised all d at i)) k m h =
      some-grown file specifiers (typed.AndInitialised all d at i) k m h

  -- Statements

  optional-grown : (e : Option TypedExpr) (k m : Known) → IsDropped T e k m → Grown T k.scopes m.scopes (pieces_of_optional e)
  optional-grown None k m h = same T k.scopes m.scopes [] (ap (λ (q : Known). q.scopes) h)
  optional-grown (Some e) k m h = last T k.scopes h.0 m.scopes (pieces_of e) (ap known_members h.3) (value-grown T e k.scopes h.0 h.1)

  test-grown : (e : Option TypedExpr) (k m : Known) → IsTestedOrNone T e k m → Grown T k.scopes m.scopes (pieces_of_optional e)
  test-grown None k m h = same T k.scopes m.scopes [] (ap (λ (q : Known). q.scopes) h)
  test-grown (Some e) k m h = last T k.scopes h.0 m.scopes (pieces_of e) (ap known_members h.3) (value-grown T e k.scopes h.0 h.1)

  return-grown : (at : Place) (t : TypeId) (e : Option TypedExpr) (k m : Known) → IsReturned T at t e k m
      → Grown T k.scopes m.scopes (pieces_of_optional e)
  return-grown at t None k m h = same T k.scopes m.scopes [] (ap (λ (q : Known). q.scopes) h.0)
  return-grown at t (Some e) k m h = last T k.scopes h.0 m.scopes (pieces_of e) (ap known_members h.3) (value-grown T e k.scopes h.0 h.1)

  -- a block begins with the members that there are
  tested-grown : (e : Option TypedExpr) (k m : Known) → IsTestedOrNone T e (entering_known k) m → Grown T k.scopes m.scopes (pieces_of_optional e)
  tested-grown e k m h = first T k.scopes (entering_known k).scopes m.scopes (pieces_of_optional e) refl (test-grown e (entering_known k) m h)

  inner-grown : (k m : Known) (s : TypedStatement) → Grown T (entering_known k).scopes m.scopes (pieces_of_statement s)
      → Grown T k.scopes m.scopes (pieces_of_statement s)
  inner-grown k m s h = first T k.scopes (entering_known k).scopes m.scopes (pieces_of_statement s) refl h

  mutual
    statement-grown : (a : Around) (s : TypedStatement) (k m : Known) → IsStatement T a s k m → Grown T k.scopes m.scopes (pieces_of_statement s)
    statement-grown a (typed.Block brace items) k m h =
        last T k.scopes h.0.scopes m.scopes (pieces_of_block_items items) (ap known_members h.2) (block-grown a None items
        (entering_known k) k h.0 refl h.1)
    statement-grown a (typed.Express e) k m h = last T k.scopes h.0 m.scopes (pieces_of e) (ap known_members h.3) (value-grown T e k.scopes h.0 h.1)
    statement-grown a typed.Empty k m h = same T k.scopes m.scopes [] (ap (λ (q : Known). q.scopes) h)
    statement-grown a (typed.If at paren c s) k m h =
        last T k.scopes h.1.scopes m.scopes (pieces_of c ++ pieces_of_statement s) (ap known_members h.4)
        (both T k.scopes h.0.scopes h.1.scopes (pieces_of c) (pieces_of_statement s) (tested-grown (Some c) k h.0 h.2)
        (inner-grown h.0 h.1 s (statement-grown a s (entering_known h.0) h.1 h.3)))
    statement-grown a (typed.IfElse at paren c s r) k m h =
        last T k.scopes h.2.scopes m.scopes (pieces_of c ++ pieces_of_statement s ++ pieces_of_statement r) (ap known_members h.6)
        (both T k.scopes h.1.scopes h.2.scopes (pieces_of c ++ pieces_of_statement s) (pieces_of_statement r)
        (both T k.scopes h.0.scopes h.1.scopes (pieces_of c) (pieces_of_statement s) (tested-grown (Some c) k h.0 h.3)
        (inner-grown h.0 h.1 s (statement-grown a s (entering_known h.0) h.1 h.4)))
        (first T h.1.scopes (entering_known (leaving_known h.1)).scopes h.2.scopes (pieces_of_statement r) refl
        (statement-grown a r (entering_known (leaving_known h.1)) h.2 h.5)))
    statement-grown a (typed.Switch at paren e brace items) k m h =
        last T k.scopes h.1.scopes m.scopes (pieces_of e ++ pieces_of_block_items items) (ap known_members h.5)
        (both T k.scopes h.0 h.1.scopes (pieces_of e) (pieces_of_block_items items)
        (first T k.scopes (entering k.scopes) h.0 (pieces_of e) refl (value-grown T e (entering k.scopes) h.0 h.2))
        (block-grown (in_a_switch a) (Some (type_of e)) items (entering_known (with_scopes k h.0)) (with_scopes k h.0) h.1 refl h.4))
    statement-grown a (typed.While at paren c s) k m h =
        last T k.scopes h.1.scopes m.scopes (pieces_of c ++ pieces_of_statement s) (ap known_members h.4)
        (both T k.scopes h.0.scopes h.1.scopes (pieces_of c) (pieces_of_statement s) (tested-grown (Some c) k h.0 h.2)
        (inner-grown h.0 h.1 s (statement-grown (in_a_loop a) s (entering_known h.0) h.1 h.3)))
    statement-grown a (typed.DoWhile s at paren c) k m h =
        last T k.scopes h.1.scopes m.scopes (pieces_of_statement s ++ pieces_of c) (ap known_members h.4)
        (both T k.scopes h.0.scopes h.1.scopes (pieces_of_statement s) (pieces_of c)
        (first T k.scopes (entering_known (entering_known k)).scopes h.0.scopes (pieces_of_statement s) refl
        (statement-grown (in_a_loop a) s (entering_known (entering_known k)) h.0 h.2))
        (first T h.0.scopes (leaving_known h.0).scopes h.1.scopes (pieces_of c) refl (test-grown (Some c) (leaving_known h.0) h.1 h.3)))
    statement-grown a (typed.For at paren x y z s) k m h =
        last T k.scopes h.3.scopes m.scopes (pieces_of_optional x ++ pieces_of_optional y ++ pieces_of_optional z ++ pieces_of_statement s)
        (ap known_members h.8)
        (both T k.scopes h.2.scopes h.3.scopes (pieces_of_optional x ++ pieces_of_optional y ++ pieces_of_optional z) (pieces_of_statement s)
        (both T k.scopes h.1.scopes h.2.scopes (pieces_of_optional x ++ pieces_of_optional y) (pieces_of_optional z)
        (both T k.scopes h.0.scopes h.1.scopes (pieces_of_optional x) (pieces_of_optional y)
        (first T k.scopes (entering_known k).scopes h.0.scopes (pieces_of_optional x) refl (optional-grown x (entering_known k) h.0 h.4))
        (test-grown y h.0 h.1 h.5)) (optional-grown z h.1 h.2 h.6))
        (inner-grown h.2 h.3 s (statement-grown (in_a_loop a) s (entering_known h.2) h.3 h.7)))
    statement-grown a (typed.ForDeclaration at paren d y z s) k m h =
        last T k.scopes h.3.scopes m.scopes (pieces_of_declaration d ++ pieces_of_optional y ++ pieces_of_optional z ++ pieces_of_statement s)
        (ap known_members h.8)
        (both T k.scopes h.2.scopes h.3.scopes (pieces_of_declaration d ++ pieces_of_optional y ++ pieces_of_optional z) (pieces_of_statement s)
        (both T k.scopes h.1.scopes h.2.scopes (pieces_of_declaration d ++ pieces_of_optional y) (pieces_of_optional z)
        (both T k.scopes h.0.scopes h.1.scopes (pieces_of_declaration d) (pieces_of_optional y)
        (first T k.scopes (entering_known k).scopes h.0.scopes (pieces_of_declaration d) refl (declaration-grown false d (entering_known k) h.0 h.4))
        (test-grown y h.0 h.1 h.5)) (optional-grown z h.1 h.2 h.6))
        (inner-grown h.2 h.3 s (statement-grown (in_a_loop a) s (entering_known h.2) h.3 h.7)))
    statement-grown a (typed.Break at) k m h = same T k.scopes m.scopes [] (ap (λ (q : Known). q.scopes) h.0)
    statement-grown a (typed.Continue at) k m h = same T k.scopes m.scopes [] (ap (λ (q : Known). q.scopes) h.0)
    statement-grown a (typed.Return at e) k m h = return-grown at a.result e k m h

    -- from a state with the members of another
    block-grown : (a : Around) (on : Option TypeId) (items : TypedBlockItems) (k j m : Known) → known_members k ≡ known_members j
        → AreBlockItems T a on items k m → Grown T j.scopes m.scopes (pieces_of_block_items items)
    block-grown a on typed.NoBlockItem k j m e h =
        first T j.scopes k.scopes m.scopes [] e (same T k.scopes m.scopes [] (ap (λ (q : Known). q.scopes) h))
    block-grown a on (typed.AndStatement all s) k j m e h =
        both T j.scopes h.0.scopes m.scopes (pieces_of_block_items all) (pieces_of_statement s) (block-grown a on all k j h.0 e h.1)
        (statement-grown a s h.0 m h.2)
    block-grown a on (typed.AndDeclaration all d) k j m e h =
        both T j.scopes h.0.scopes m.scopes (pieces_of_block_items all) (pieces_of_declaration d) (block-grown a on all k j h.0 e h.1)
        (declaration-grown false d h.0 m h.2)
    block-grown a on (typed.AndCase all at e value) k j m q h =
        last T j.scopes h.1 m.scopes (pieces_of_block_items all ++ pieces_of e) (ap known_members h.5)
        (both T j.scopes h.0.scopes h.1 (pieces_of_block_items all) (pieces_of e) (block-grown a on all k j h.0 q h.2)
        (value-grown T e h.0.scopes h.1 h.3))
    block-grown a on (typed.AndDefault all at) k j m e h = block-grown a on all k j m e h

  unit-grown : (u : TypedTranslationUnit) (k m : Known) → IsUnitTyped T u k m → Grown T k.scopes m.scopes (pieces_of_unit u)
  unit-grown typed.NoExternal k m h = same T k.scopes m.scopes [] (ap (λ (q : Known). q.scopes) h)
  unit-grown (typed.AndExternal u d) k m h =
      both T k.scopes h.0.scopes m.scopes (pieces_of_unit u) (pieces_of_declaration d) (unit-grown u k h.0 h.1) (declaration-grown true d h.0 m h.2)
  unit-grown (typed.AndFunctionBody u specifiers (typed.Declares form t) brace body) k m h =
      let x = pieces_of_unit u in let y = pieces_of_specifiers specifiers in let z = pieces_of_form form in let v = pieces_of_block_items body in
      let f = h.2 in
      last T k.scopes f.after.scopes m.scopes (x ++ y ++ z ++ v) (ap known_members f.leaves)
      (both T k.scopes f.declared.scopes f.after.scopes (x ++ y ++ z) v
      (both T k.scopes f.before f.declared.scopes (x ++ y) z
      (both T k.scopes h.0.scopes f.before x y (unit-grown u k h.0 h.1) (specifiers-grown T specifiers h.0.scopes f.before f.specified))
      (declarator-grown true (storage_of specifiers) (specified_type specifiers) _ form t (with_scopes h.0 f.before) f.declared f.declares))
      (block-grown (record { result = f.result; in_loop = false; breakable = false }) None body _ f.declared f.after
      refl f.statements))

-- Each that is complete was written

module _ (T : Table) (u : TypedTranslationUnit) (w : IsWellTyped T u) where
  not-true : (b : Bool) → not b ≡ true → b ≡ false
  not-true true g = absurd (true≢false (sym g))
  not-true false g = refl

  has-members : (x : TypeShape) (ms : List TypeId) → is_aggregate_shape x ≡ true → is_complete_entry x ms ≡ true → is_empty ms ≡ false
  has-members (shape.Struct n) ms h c = not-true (is_empty ms) c
  has-members (shape.Union n) ms h c = not-true (is_empty ms) c
  has-members shape.Void ms h c = absurd (true≢false (sym h))
  has-members (shape.Integer a s) ms h c = absurd (true≢false (sym h))
  has-members (shape.Pointer n t) ms h c = absurd (true≢false (sym h))
  has-members (shape.Array t n) ms h c = absurd (true≢false (sym h))
  has-members (shape.Function ps r) ms h c = absurd (true≢false (sym h))

  number-of : (x : TypeShape) → is_aggregate_shape x ≡ true → (n : ℕ) × (number_of_shape x ≡ Some n)
  number-of (shape.Struct n) h = (n, refl)
  number-of (shape.Union n) h = (n, refl)
  number-of shape.Void h = absurd (true≢false (sym h))
  number-of (shape.Integer a s) h = absurd (true≢false (sym h))
  number-of (shape.Pointer n t) h = absurd (true≢false (sym h))
  number-of (shape.Array t n) h = absurd (true≢false (sym h))
  number-of (shape.Function ps r) h = absurd (true≢false (sym h))

  some-names : (names : List Name) (ms : List TypeId) → length names ≡ length ms → is_empty ms ≡ false → is_empty names ≡ false
  some-names [] [] e h = absurd (true≢false h)
  some-names [] (m ∷ ms) e h = absurd (omega (arith, e))
  some-names (n ∷ ns) ms e h = refl

  pub aggregates-written : (t : TypeId) → IsAggregate T t → IsComplete T t → IsWritten u t
  aggregates-written t h c =
      let number = number-of (shape_at T t) h in
      let full = some-names (members_named w.after.scopes number.0) (members_at T t) (w.structs.closed t number.0 number.1)
      (has-members (shape_at T t) (members_at T t) h c) in
      elim ((unit-grown T u (known_before u) w.after w.typed).told number.0 full) [
        | inl before ↦ absurd (true≢false before)
        | inr a ↦ record {
          kind = a.kind;
          place = a.place;
          name = a.name;
          brace = a.brace;
          members = a.members;
          there = subst (λ (x : TypeId). Contains (pieces_of_unit u) (ASpecifier (typed.Aggregate a.kind a.place a.name a.brace a.members x)))
              (w.structs.own a.type t number.0 a.number number.1) a.there;
        }
      ]

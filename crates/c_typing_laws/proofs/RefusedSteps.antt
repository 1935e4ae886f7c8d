-- Steps of what judging refuses: what refuses nothing, one step after another, and what each construct refuses.
use Rattle.std.proofs.Common.{◌≡◌, ℕ, ◌+◌, ℤ, Bool, true, false, not, ◌||◌, List, [], ◌∷◌, ◌++◌, length, Option, Some, None, refl, ap, sym, subst, ◌∙◌, inl, inr, ◌⊎◌, nat_le, nat_lt, if◌then◌else◌}
use Rattle.std.proofs.lemmas.Option.{none-some}
use Rattle.cc_base.specs.declared.place.Place.{Place}
use Rattle.cc_base.specs.declared.number.NodeId.{NodeId}
use Rattle.cc_base.specs.declared.number.TypeId.{TypeId}
use Rattle.cc_base.specs.declared.fault.Fault.{Fault}
use Rattle.cc_base.specs.declared.fault.Fault.TheVariants.{Refused, TooLarge}
use Rattle.cc_base.specs.declared.fault.Limit.TheVariants.{Types, Globals, Object}
use Rattle.cc_base.specs.declared.fault.Rule.{Rule}
use Rattle.cc_base.specs.declared.fault.Rule.TheVariants as rule
use Rattle.c_types.specs.declared.shape.TypeShape.TheVariants.{Array}
use Rattle.c_types.specs.Table.{Table, shape_at}
use Rattle.c_types.specs.Calls.{defined_layout, with_members}
use Rattle.integers.specs.Arithmetic.{int, converted}
use Rattle.c_typing.specs.Integers.{char}
use Rattle.c_lexer.specs.declared.number.IntegerType.{IntegerType as ConstantType}
use Rattle.c_tree.specs.declared.leaf.Identifier.{Identifier}
use Rattle.c_tree.specs.declared.leaf.StringPiece.{StringPiece}
use Rattle.c_tree.specs.declared.leaf.Star.{Star}
use Rattle.c_tree.specs.declared.leaf.Word.{Word}
use Rattle.c_tree.specs.declared.operator.AggregateKind.{AggregateKind}
use Rattle.c_tree.specs.declared.operator.Assignment.{Assignment}
use Rattle.c_tree.specs.declared.operator.Assignment.TheVariants as assignment
use Rattle.c_tree.specs.declared.operator.Step.TheVariants as step
use Rattle.c_tree.specs.declared.operator.Unary.{Unary}
use Rattle.c_tree.specs.declared.operator.Unary.TheVariants as unary
use Rattle.c_tree.specs.declared.typed_word.Home.TheVariants as home
use Rattle.c_tree.specs.declared.typed_word.TypedStar.{TypedStar}
use Rattle.c_tree.specs.Erasure.{erased_declared}
use Rattle.c_tree.specs.Places.{expr_place, pieces_place}
use Rattle.c_tree.specs.Tree as tree
use Rattle.c_tree.specs.TypedTree as typed
use Rattle.c_tree.specs.TypedTree.{TypedExpr, TypedTypeName, TypedSpecifierList, TypedSpecifier, TypedMembers, TypedMemberDeclarators, TypedEnumerators, TypedForm, TypedCore, TypedParts, TypedParameters, TypedDeclared}
use Rattle.c_typing.specs.declared.declared.Declared.{Declared}
use Rattle.c_typing.specs.declared.declared.Declared.TheVariants as declared
use Rattle.c_typing.specs.declared.declared.Tag.{Tag}
use Rattle.c_typing.specs.declared.declared.Tag.TheVariants as tag
use Rattle.c_typing.specs.declared.naming.Naming.{Naming}
use Rattle.c_typing.specs.declared.naming.Naming.TheVariants as naming
use Rattle.c_typing.specs.Assignments
use Rattle.c_typing.specs.Assignments.{part_type, string_type, is_char_array, count_global, literal_size}
use Rattle.c_typing.specs.Constants.{constant_value}
use Rattle.c_typing.specs.Declarators.{Counted, counting_word, member_names, member_types}
use Rattle.c_typing.specs.Declaring.{declared_name, home_as, stars_with_nodes, size_given, sized_part, sized, entered, left}
use Rattle.c_typing.specs.Extensions.{IsExtended}
use Rattle.c_typing.specs.Judging.{State, Outcome, Judging, Gives, Stops, next, ◌>>=◌, pure, by_known, new_node, type_with, integer_type}
use Rattle.c_typing.specs.Operands.{Operand, Value, value, side_of}
use Rattle.c_typing.specs.Operations
use Rattle.c_typing.specs.Operations.{construct, leaf, in_parens, prefix, target, target_of, prefix_of, numbered}
use Rattle.c_typing.specs.Refusals.{After, AreElaborated, Fails, BeginsOrStays, one_named, tag_place, is_empty_row, declared_identifier, Refuses}
use Rattle.c_typing.specs.Rules.{is_compound, number_of_shape}
use Rattle.c_typing.specs.Scopes.{Scopes, tag_in, name_in, declaring, leaving, is_complete_at}
use Rattle.c_typing.specs.Settled.{IsBasic, IsKnown, GoesOn, IsBegun, IsTagThere}
use Rattle.c_typing.specs.Specifying
use Rattle.c_typing.specs.Specifying.{specified, listed_type, obeying, typedef_named, tagged_as, tagged_by, new_aggregate, begun_as, begun, is_taken_at_end, is_definable, defined, completed, ended, enum_tag, enumerator, enumerator_with, valued_enumerator, enumeration_begun, enumeration}
use Rattle.c_typing.specs.Tests
use Rattle.c_typing.specs.Tests.{Elaborated, AsPlace, AsValue, AsAllocation, Test, first_broken, is_tag_of, is_taken_tag}
use Rattle.c_typing.specs.Typing.{tag_named_here, enumerated, is_taken_enumeration, next_value, last_value, shape_of_kind, tagging, counting_aggregate}
use Rattle.c_typing.specs.Walks.{judge, judge_arguments}
use Rattle.c_typing_laws.specs.Judged.{IsRefused}
use Rattle.c_typing_laws.proofs.ExtensionLaws.{no_true, extended_refl}
use Rattle.c_typing_laws.proofs.InfixAlike.{update-refuses}
use Rattle.c_typing_laws.proofs.JudgedDeclarators.{form_name}
use Rattle.c_typing_laws.proofs.JudgedSpecifiers.{named_here-there}
use Rattle.c_typing_laws.proofs.KeptDeclarators.{begins-kept}
use Rattle.c_typing_laws.proofs.JudgedTrees.{IsJudgedFree, expr-judged}
use Rattle.c_typing_laws.proofs.KeptTypes.{complete_exact}
use Rattle.c_typing_laws.proofs.KnownStates.{stays, goes-on, type_with-never}
use Rattle.c_typing_laws.proofs.Outcomes.{bind-gives, bind-stops, construct-refuses, gives-value, gives-state, NeverRefuses, gives-never, large-never, next-never, new_node-never}
use Rattle.c_typing_laws.proofs.PartsTaken.{IsPartTaken, taken-part, constant-alike, size-alike, AreAlike, alike_last}
use Rattle.c_typing_laws.proofs.RefusedConstructs.{numbered-never, address-refused, size-refused, before-refused, target-refused, prefix-refused, update-refused, assign-refused}
use Rattle.c_typing_laws.proofs.RefusedDeclarators.{refused-here, refused-after, obeying-refuses}
use Rattle.c_typing_laws.proofs.SidesAlike.{assign-side}
use Rattle.c_typing_laws.proofs.SidesTaken.{given-side}
use Rattle.c_typing_laws.proofs.TableGrowth.{extended_trans}
use Rattle.c_typing_laws.proofs.TestsAlike.{target-refuses, prefix-refuses}
use Rattle.c_typing_laws.proofs.ValuesTaken
use Rattle.c_typing_laws.proofs.ValuesTaken.{given-same, part-kept, value-never}
use Rattle.c_typing_laws.proofs.TypesThere.{part-there}
use Rattle.c_typing_laws.proofs.JudgedAssignments.{given-gives}

-- What is refused is refused where only the table is the same

pub refused-outside : (P : Table → Type 0) (s q r : State) → q.table ≡ r.table → IsRefused P s q → IsRefused P s r
refused-outside P s q r e i = record { fails = subst P e i.fails; extends = subst (IsExtended s.table) e i.extends }

-- Leaves refuse nothing

leaf-never : (at : Place) (made : Judging Elaborated) (s : State) → NeverRefuses (made s) → NeverRefuses (leaf at made s)
unfolding leaf
leaf-never at made s h = next-never (made s) (λ x. pure (operand x)) h (λ x q. gives-never (operand x) q)
  where
    operand : Elaborated → Operand
    operand x = record { part = x; place = at; held = 1 }

pub integer-never : (of : ConstantType) (n : ℕ) (at : Place) (s : State) → NeverRefuses (Operations.integer of n at s)
unfolding Operations.integer
integer-never of n at s = leaf-never at (pure (AsValue (_))) s (gives-never (AsValue (_)) s)

pub character-never : (n : ℤ) (at : Place) (s : State) → NeverRefuses (Operations.character n at s)
unfolding Operations.character
character-never n at s = leaf-never at (pure (AsValue (_))) s (gives-never (AsValue (_)) s)

string_type-never : (at : Place) (count : ℕ) (s : State) → NeverRefuses (string_type at count s)
unfolding string_type
string_type-never at count s = by (is_char_array s.table count)
  where
    by : (b : Bool) → NeverRefuses (if b then type_with at (Array (integer_type char) count) s else Stops (TooLarge at Types) s)
    by true = type_with-never at (Array (integer_type char) count) s
    by false = large-never TypeId at Types s

count-never : (at : Place) (bytes : ℕ) (s : State) → NeverRefuses (count_global at bytes s)
unfolding count_global
count-never at bytes s = by (nat_le (s.seen.globals + (bytes + 16)) 4194304)
  where
    by : (b : Bool) → NeverRefuses (if b then Gives bytes (record s { seen = record s.seen { globals = s.seen.globals + (bytes + 16) } }) else Stops (TooLarge at Globals) s)
    by true = gives-never bytes (record s { seen = record s.seen { globals = s.seen.globals + (bytes + 16) } })
    by false = large-never ℕ at Globals s

pub literal-never : (pieces : List StringPiece) (s : State) → NeverRefuses (Assignments.literal pieces s)
unfolding Assignments.literal
literal-never pieces s =
    let at = pieces_place pieces in
    leaf-never at (new_node at >>= (λ n. string_type at (literal_size pieces) >>= (λ t. count_global at (literal_size pieces) >>= (λ b. pure (AsPlace (typed.String pieces n t)))))) s
    (next-never (new_node at s) (λ n. string_type at (literal_size pieces) >>= (λ t. count_global at (literal_size pieces) >>= (λ b. pure (AsPlace (typed.String pieces n t)))))
    (new_node-never at s)
    (λ n q. next-never (string_type at (literal_size pieces) q) (λ t. count_global at (literal_size pieces) >>= (λ b. pure (AsPlace (typed.String pieces n t))))
    (string_type-never at (literal_size pieces) q)
    (λ t m. next-never (count_global at (literal_size pieces) m) (λ b. pure (AsPlace (typed.String pieces n t))) (count-never at (literal_size pieces) m)
    (λ b w. gives-never (AsPlace (typed.String pieces n t)) w))))

no_rule : {P : Type 0} (f : Fault) → first_broken [] ≡ Some f → P
no_rule f h = absurd (none-some f h)

pub paren-never : (at : Place) (x : Operand) (s : State) → NeverRefuses (Operations.paren at x s)
unfolding Operations.paren
paren-never at x s p t r h =
    no_rule (Refused p t) (construct-refuses (λ q. []) at (x.held ∷ []) (pure (in_parens at x.part)) s p t r (gives-never (in_parens at x.part) s) h).0

pub comma-never : (a b : Value) (s : State) → NeverRefuses (Assignments.comma a b s)
unfolding Assignments.comma
comma-never a b s p t r h =
    no_rule (Refused p t) (construct-refuses (λ q. []) a.place (a.held ∷ b.held ∷ []) (pure (Assignments.comma_part a.expr (side_of b.expr))) s p t r
    (gives-never (Assignments.comma_part a.expr (side_of b.expr)) s) h).0

-- Specifiers refuse nothing but what breaks a rule

typedef-never : (name : Identifier) (o : Option Declared) (s : State) → NeverRefuses (typedef_named name o s)
unfolding typedef_named
typedef-never name (Some (declared.Typedef u)) s = gives-never (typed.Typedef name u) s
typedef-never name (Some (declared.Object u home)) s = large-never TypedSpecifier name.place Types s
typedef-never name (Some (declared.Function u)) s = large-never TypedSpecifier name.place Types s
typedef-never name (Some (declared.Enumerator n)) s = large-never TypedSpecifier name.place Types s
typedef-never name None s = large-never TypedSpecifier name.place Types s

new_aggregate-never : (which : AggregateKind) (at : Place) (name : Option Identifier) (s : State) → NeverRefuses (new_aggregate which at name s)
unfolding new_aggregate
new_aggregate-never which at name s =
    next-never (numbered at (Some (length s.seen.scopes.members)) s)
    (λ number. type_with at (shape_of_kind which number) >>= (λ u. Specifying.in_scopes (λ (c : Scopes). tagging name (tag.Aggregate which u) (counting_aggregate c)) u))
    (numbered-never at (Some (length s.seen.scopes.members)) s)
    (λ number q. next-never (type_with at (shape_of_kind which number) q) (λ u. Specifying.in_scopes (λ (c : Scopes). tagging name (tag.Aggregate which u) (counting_aggregate c)) u)
    (type_with-never at (shape_of_kind which number) q) (λ u m. gives-never u (_)))

tagged_as-never : (which : AggregateKind) (name : Identifier) (o : Option Tag) (s : State) → NeverRefuses (tagged_as which name o s)
unfolding tagged_as
tagged_as-never which name None s = new_aggregate-never which name.place (Some name) s
tagged_as-never which name (Some (tag.Aggregate other u)) s = gives-never u s
tagged_as-never which name (Some tag.Enumeration) s = large-never TypeId name.place Types s
tagged_as-never which name (Some tag.Enumerating) s = large-never TypeId name.place Types s

pub tagged_by-never : (which : AggregateKind) (at : Place) (name : Identifier) (found : State → Option Tag) (s : State) → NeverRefuses (tagged_by which at name found s)
unfolding tagged_by
tagged_by-never which at name found s =
    next-never (tagged_as which name (found s) s) (λ u. pure (typed.Tagged which at name u)) (tagged_as-never which name (found s) s)
    (λ u q. gives-never (typed.Tagged which at name u) q)

pub begun-never : (which : AggregateKind) (at : Place) (name : Option Identifier) (s : State) → NeverRefuses (begun which at name s)
unfolding begun begun_as
begun-never which at name s = by (is_taken_tag s.table s.seen.scopes which (tag_named_here s.seen.scopes name)) (tag_named_here s.seen.scopes name)
  where
    by : (taken : Bool) (o : Option Tag) → NeverRefuses (begun_as which (tag_place at name) name o taken s)
    by true o = gives-never None s
    by false (Some (tag.Aggregate other u)) = gives-never (Some u) s
    by false (Some tag.Enumeration) = gives-never None s
    by false (Some tag.Enumerating) = gives-never None s
    by false None =
        next-never (new_aggregate which (tag_place at name) name s) (λ u. pure (Some u)) (new_aggregate-never which (tag_place at name) name s) (λ u q. gives-never (Some u) q)

defined-never : (at : Place) (u : TypeId) (members : List TypeId) (s : State) → NeverRefuses (defined at u members s)
unfolding defined
defined-never at u members s = by (is_definable s.table u members) (nat_le (defined_layout s.table u members).size 1048576)
  where
    by : (may small : Bool) → NeverRefuses (if may
        then (if small then Gives u (record s { table = with_members s.table u members }) else Stops (TooLarge at Object) s)
        else Stops (TooLarge at Types) s)
    by true true = gives-never u (record s { table = with_members s.table u members })
    by true false = large-never TypeId at Object s
    by false small = large-never TypeId at Types s

completed-never : (at : Place) (members : TypedMembers) (o : Option TypeId) (s : State) → NeverRefuses (completed at members o s)
unfolding completed
completed-never at members None s = large-never TypeId at Types s
completed-never at members (Some u) s =
    next-never (defined at u (member_types members) s)
    (λ v. by_known (λ q. Specifying.in_scopes (Specifying.completing (number_of_shape (shape_at q.table v)) (member_names members)) v))
    (defined-never at u (member_types members) s) (λ v q. gives-never v (_))

enumerator_with-never : (all : TypedEnumerators) (name : Identifier) (at : Place) (e : TypedExpr) (o : Option ℤ) (s : State) → NeverRefuses (enumerator_with all name at e o s)
unfolding enumerator_with
enumerator_with-never all name at e None s = large-never TypedEnumerators name.place Types s
enumerator_with-never all name at e (Some z) s = gives-never (typed.AndValued all name at e (converted int z)) (_)

sized_part-never : (all : TypedParts) (at : Place) (words : List Word) (v : Value) (o : Option ℕ) (s : State) → NeverRefuses (sized_part all at words v o s)
unfolding sized_part
sized_part-never all at words v None s = large-never TypedParts v.place Types s
sized_part-never all at words v (Some n) s = gives-never (typed.AndSizedArray all at words v.expr n) s

pub stars-never : (at : Place) (stars : List Star) (s : State) → NeverRefuses (stars_with_nodes at stars s)
unfolding stars_with_nodes
stars-never at [] s = gives-never [] s
stars-never at (star ∷ stars) s =
    next-never (new_node at s) (λ n. stars_with_nodes at stars >>= (λ rest. pure (starred n ∷ rest))) (new_node-never at s)
    (λ n q. next-never (stars_with_nodes at stars q) (λ rest. pure (starred n ∷ rest)) (stars-never at stars q) (λ rest m. gives-never (starred n ∷ rest) m))
  where
    starred : NodeId → TypedStar
    starred n = record { star = star; node = n }

pub home-never : (at : Place) (which : Naming) (s : State) → NeverRefuses (home_as at which s)
unfolding home_as
home-never at naming.None s = gives-never home.None s
home-never at naming.Static s = next-never (new_node at s) (λ n. pure (home.Static n)) (new_node-never at s) (λ n q. gives-never (home.Static n) q)
home-never at naming.Local s = next-never (new_node at s) (λ n. pure (home.Local n)) (new_node-never at s) (λ n q. gives-never (home.Local n) q)
home-never at naming.Parameter s = next-never (new_node at s) (λ n. pure (home.Parameter n)) (new_node-never at s) (λ n q. gives-never (home.Parameter n) q)
home-never at (naming.Known n) s = gives-never (home.Known n) s

pub left-never : {A : Type 0} (at : Place) (a : A) (s : State) → NeverRefuses (left at a s)
unfolding left
left-never {A = A} at a s = by (nat_lt 1 (length s.seen.scopes.levels))
  where
    by : (b : Bool) → NeverRefuses (if b then Specifying.in_scopes leaving a s else Stops (TooLarge at Types) s)
    by true = gives-never a (_)
    by false = large-never A at Types s

pub declared_named : (one : TypedDeclared) → declared_name (erased_declared one) ≡ declared_identifier one
declared_named typed.NotDeclared = refl
declared_named (typed.DeclaredBy form) = form_name form

-- Where a struct or union begins, or its tag stays

abbrev pub or_void : Option TypeId → TypeId
or_void None = record { 0 = 0 }
or_void (Some u) = u

abbrev IsStarted : AggregateKind → Option Identifier → State → Option TypeId → State → Type 0
IsStarted which name s None m = (is_taken_tag s.table s.seen.scopes which (tag_named_here s.seen.scopes name) ≡ true) × (m.seen.scopes ≡ s.seen.scopes)
IsStarted which name s (Some u) m = is_taken_tag s.table s.seen.scopes which (tag_named_here s.seen.scopes name) ≡ false

module _ (which : AggregateKind) (at : Place) (name : Option Identifier) (o : Option TypeId) (s m : State) where
  started_by : (taken : Bool) (found : Option Tag) → tag_named_here s.seen.scopes name ≡ found → is_taken_tag s.table s.seen.scopes which (tag_named_here s.seen.scopes name) ≡ taken
      → begun_as which (tag_place at name) name found taken s ≡ Gives o m → IsStarted which name s o m
  unfolding begun_as
  started_by true found q u h = given-same (IsStarted which name s) None o s m h (u, refl)
  started_by false (Some (tag.Aggregate other t)) q u h = given-same (IsStarted which name s) (Some t) o s m h u
  started_by false (Some tag.Enumeration) q u h = no_true (sym u ∙ ap (is_taken_tag s.table s.seen.scopes which) q)
  started_by false (Some tag.Enumerating) q u h = no_true (sym u ∙ ap (is_taken_tag s.table s.seen.scopes which) q)
  started_by false None q u h =
      let two = bind-gives (new_aggregate which (tag_place at name) name s) (λ t. pure (Some t)) o m h in
      given-same (IsStarted which name s) (Some two.0) o two.1 m two.3 u

  pub started-judged : begun which at name s ≡ Gives o m → IsStarted which name s o m
  unfolding begun
  started-judged h =
      started_by (is_taken_tag s.table s.seen.scopes which (tag_named_here s.seen.scopes name)) (tag_named_here s.seen.scopes name) refl refl h

taken_exact : (T U : Table) (x : IsExtended T U) (b : IsBasic T) (c : Scopes) (which : AggregateKind) (o : Option Tag)
    → ((what : Tag) → o ≡ Some what → IsTagThere T what) → is_taken_tag U c which o ≡ is_taken_tag T c which o
taken_exact T U x b c which None h = refl
taken_exact T U x b c which (Some (tag.Aggregate other u)) h =
    ap (λ (v : Bool). not (is_tag_of which (tag.Aggregate other u)) || v) (complete_exact T U x b c u (h (tag.Aggregate other u) refl).1.0)
taken_exact T U x b c which (Some tag.Enumeration) h = refl
taken_exact T U x b c which (Some tag.Enumerating) h = refl

module _ (which : AggregateKind) (at : Place) (name : Option Identifier) (s m : State) (k : IsKnown s) where
  stays_taken : (U : Table) → IsExtended s.table U
      → is_taken_tag U s.seen.scopes which (tag_named_here s.seen.scopes name) ≡ is_taken_tag s.table s.seen.scopes which (tag_named_here s.seen.scopes name)
  stays_taken U x = taken_exact s.table U x k.basic s.seen.scopes which (tag_named_here s.seen.scopes name) (λ what q. named_here-there s.table s.seen.scopes name what k.levels q)

  pub begins_over : (o : Option TypeId) → IsBegun which name s o m → IsStarted which name s o m → (U : Table) → IsExtended m.table U
      → BeginsOrStays U which name (or_void o) s.seen.scopes m.seen.scopes
  begins_over None b st U x = inr (stays_taken U (extended_trans s.table m.table U b.extends x) ∙ st.0, st.1)
  begins_over (Some u) b st U x = inl (begins-kept m.table U x b.2.known.basic (tag_named_here s.seen.scopes name) which name u s.seen.scopes m.seen.scopes b.1 b.0)

  pub taken_over : (o : Option TypeId) (n : State) → IsStarted which name s o m → IsExtended s.table n.table
      → is_taken_at_end n o ≡ (is_taken_tag n.table s.seen.scopes which (tag_named_here s.seen.scopes name) || is_complete_at n.table n.seen.scopes (or_void o))
  taken_over None n st x = sym (ap (λ (v : Bool). v || is_complete_at n.table n.seen.scopes (or_void None)) (stays_taken n.table x ∙ st.0))
  taken_over (Some u) n st x = sym (ap (λ (v : Bool). v || is_complete_at n.table n.seen.scopes u) (stays_taken n.table x ∙ st))

-- One step after another

module _ (p : Place) (t : Rule) where
  pub step-refused : {A B : Type 0} (m : Outcome A) (f : A → Judging B) (P : Table → Type 0) (s r : State) → (m ≡ Stops (Refused p t) r → IsRefused P s r)
      → ((a : A) (q : State) → m ≡ Gives a q → f a q ≡ Stops (Refused p t) r → IsRefused P s r) → next m f ≡ Stops (Refused p t) r → IsRefused P s r
  step-refused m f P s r first more h = elim (bind-stops m f (Refused p t) r h) [ inl q ↦ first q | inr q ↦ more q.0 q.1 q.2 q.3 ]

  weaker : (P Q : Table → Type 0) (s r : State) → ((T : Table) → IsExtended s.table T → P T → Q T) → IsRefused P s r → IsRefused Q s r
  weaker P Q s r f h = record { fails = f r.table h.extends h.fails; extends = h.extends }

  abbrev pub FailsAt : Bool → tree.Expr → State → Table → Type 0
  FailsAt called e s T = Refuses T called e s.seen.scopes (Refused p t)

  abbrev pub IsRefusing : Bool → tree.Expr → State → Type 0
  IsRefusing called e s = (q : State) → judge called e s ≡ Stops (Refused p t) q → IsRefused (FailsAt called e s) s q

  -- an operand is judged first
  pub operand-first : {B : Type 0} (called : Bool) (e : tree.Expr) (s r : State) (rest : Operand → Judging B) (P : Table → Type 0) → IsKnown s → IsRefusing called e s
      → ((T : Table) → IsExtended s.table T → FailsAt called e s T → P T)
      → ((o : Operand) (m : State) → IsJudgedFree called e o s m → rest o m ≡ Stops (Refused p t) r → IsRefused P m r)
      → next (judge called e s) rest ≡ Stops (Refused p t) r → IsRefused P s r
  operand-first called e s r rest P k ih first more h =
      step-refused (judge called e s) rest P s r (λ q. weaker (FailsAt called e s) P s r first (ih r q))
      (λ o m q g. let j = expr-judged e called o s m k q in refused-after P s m r j.judged.goes.extends (more o m j g)) h

  -- the value of an operand is taken first
  pub value-first : {B : Type 0} (e : tree.Expr) (s r : State) (rest : Value → Judging B) (P : Table → Type 0) → IsKnown s → IsRefusing false e s
      → ((T : Table) → IsExtended s.table T → FailsAt false e s T → P T)
      → ((v : Value) (m : State) → IsPartTaken e v s m → rest v m ≡ Stops (Refused p t) r → IsRefused P m r)
      → next (next (judge false e s) value) rest ≡ Stops (Refused p t) r → IsRefused P s r
  value-first e s r rest P k ih first more h =
      step-refused (next (judge false e s) value) rest P s r
      (λ q. operand-first false e s r value P k ih first (λ o m j g. absurd (value-never o m p t r g)) q)
      (λ v m q g.
      let one = bind-gives (judge false e s) value v m q in
      let taken = taken-part false e one.0 v s one.1 m (expr-judged e false one.0 s one.1 k one.2) one.3 in
      refused-after P s m r taken.goes.extends (more v m taken g)) h

  -- what is refused of one operand as it stands
  pub operand-fails : (e : tree.Expr) (s m r : State) (o : Operand) (called : Bool) (j : IsJudgedFree called e o s m) (Next : Table → Elaborated → Scopes → Type 0) → r ≡ m
      → Next m.table o.part m.seen.scopes → IsRefused (λ T. After T e s.seen.scopes (Next T)) m r
  operand-fails e s m r o called j Next same n =
      refused-here (λ T. After T e s.seen.scopes (Next T)) m r same (o.part, m.seen.scopes, j.judged.part, n)

  pub value-fails : (e : tree.Expr) (v : Value) (s m r : State) (a : IsPartTaken e v s m) (Next : Table → Elaborated → Scopes → Type 0) → r ≡ m
      → Next m.table a.x m.seen.scopes → IsRefused (λ T. After T e s.seen.scopes (Next T)) m r
  value-fails e v s m r a Next same n =
      refused-here (λ T. After T e s.seen.scopes (Next T)) m r same (a.x, m.seen.scopes, a.part m.table (extended_refl m.table), n)

  pub second : (F : Table → Type 0) (G : Table → Type 0) (s r : State) → IsRefused G s r → IsRefused (λ T. F T ⊎ G T) s r
  second F G s r h = record { fails = inr h.fails; extends = h.extends }

  -- what is refused behind one operand
  behind : (e : tree.Expr) (v : Value) (s m r : State) (a : IsPartTaken e v s m) (Next : Table → Scopes → Type 0) → IsRefused (λ T. Next T m.seen.scopes) m r
      → IsRefused (λ T. After T e s.seen.scopes (λ x c. Next T c)) m r
  behind e v s m r a Next h = record { fails = (a.x, m.seen.scopes, a.part r.table h.extends, h.fails); extends = h.extends }

  pub behind-operand : (e : tree.Expr) (s m r : State) (o : Operand) (called : Bool) (j : IsJudgedFree called e o s m) (Next : Table → Elaborated → Scopes → Type 0)
      → IsRefused (λ T. Next T o.part m.seen.scopes) m r → IsRefused (λ T. After T e s.seen.scopes (Next T)) m r
  behind-operand e s m r o called j Next h = record {
    fails = (o.part, m.seen.scopes, part-kept m.table r.table h.extends j.judged.goes.known.basic e o.part s.seen.scopes m.seen.scopes j.judged.part, h.fails);
    extends = h.extends;
  }

  pub behind-value : (e : tree.Expr) (v : Value) (s m r : State) (a : IsPartTaken e v s m) (Next : Table → Elaborated → Scopes → Type 0)
      → IsRefused (λ T. Next T a.x m.seen.scopes) m r → IsRefused (λ T. After T e s.seen.scopes (Next T)) m r
  behind-value e v s m r a Next h = record { fails = (a.x, m.seen.scopes, a.part r.table h.extends, h.fails); extends = h.extends }

  -- what is refused of two operands whose values are taken
  pub pair-refused : (a b : tree.Expr) (s r : State) (rest : Value → Value → Judging Operand) (Next : Table → Elaborated → Elaborated → Scopes → Type 0) → IsKnown s
      → IsRefusing false a s → ((m : State) → IsKnown m → IsRefusing false b m)
      → ((x y : Value) (m n : State) (A : IsPartTaken a x s m) (B : IsPartTaken b y m n) → rest x y n ≡ Stops (Refused p t) r → (r ≡ n) × Next n.table A.x B.x n.seen.scopes)
      → next (next (judge false a s) value) (λ x. λ m. next (next (judge false b m) value) (λ y. rest x y)) ≡ Stops (Refused p t) r
      → IsRefused (λ T. FailsAt false a s T ⊎ After T a s.seen.scopes (λ x c. Refuses T false b c (Refused p t) ⊎ After T b c (λ y d. Next T x y d))) s r
  pair-refused a b s r rest Next k ia ib last h =
      let N : Table → Elaborated → Scopes → Type 0 = λ T x c. Refuses T false b c (Refused p t) ⊎ After T b c (λ y d. Next T x y d) in
      value-first a s r (λ x. λ m. next (next (judge false b m) value) (λ y. rest x y)) (λ T. FailsAt false a s T ⊎ After T a s.seen.scopes (N T)) k ia (λ T ext q. inl q)
      (λ x m A g. second (FailsAt false a s) (λ T. After T a s.seen.scopes (N T)) m r (behind-value a x s m r A N
      (value-first b m r (λ y. rest x y) (λ T. N T A.x m.seen.scopes) A.goes.known (ib m A.goes.known) (λ T ext q. inl q)
      (λ y n B w. let c = last x y m n A B w in
      second (FailsAt false b m) (λ T. After T b m.seen.scopes (λ z d. Next T A.x z d)) n r (value-fails b y m n r B (λ T z d. Next T A.x z d) c.0 c.1)) g))) h

  -- arguments whose values are taken
  pub record AreArgumentsTaken (all : tree.Arguments) (values : List Value) (s r : State) : Type 0 where
    pub list : List Tests.Argument
    pub parts : (U : Table) → IsExtended r.table U → AreElaborated U all list s.seen.scopes r.seen.scopes
    pub alike : (U : Table) → IsExtended r.table U → AreAlike U list values
    pub goes : GoesOn s r

  pub arguments-taken : (all : tree.Arguments) (values : List Value) (s r : State) → IsKnown s → judge_arguments all s ≡ Gives values r → AreArgumentsTaken all values s r
  unfolding judge_arguments
  arguments-taken tree.NoArgument values s r k h =
      let same = gives-value [] values s r h in
      let state = gives-state [] values s r h in
      subst (λ (v : List Value). AreArgumentsTaken tree.NoArgument v s r) same
      (subst (AreArgumentsTaken tree.NoArgument [] s) state (record { list = []; parts = λ U ext. (refl, refl); alike = λ U ext. tt; goes = (stays s k).goes }))
  arguments-taken (tree.AndArgument all e) values s r k h =
      let one = bind-gives (judge_arguments all s) (λ before. λ m. next (next (judge false e m) value) (λ v. pure (before ++ v ∷ []))) values r h in
      let before = arguments-taken all one.0 s one.1 k one.2 in
      let two = bind-gives (next (judge false e one.1) value) (λ v. pure (one.0 ++ v ∷ [])) values r one.3 in
      let three = bind-gives (judge false e one.1) value two.0 two.1 two.2 in
      let A = taken-part false e three.0 two.0 one.1 three.1 two.1 (expr-judged e false three.0 one.1 three.1 before.goes.known three.2) three.3 in
      let same = gives-value (one.0 ++ two.0 ∷ []) values two.1 r two.3 in
      let state = gives-state (one.0 ++ two.0 ∷ []) values two.1 r two.3 in
      let last : Tests.Argument = record { part = A.x; place = expr_place e } in
      subst (λ (v : List Value). AreArgumentsTaken (tree.AndArgument all e) v s r) same
      (subst (AreArgumentsTaken (tree.AndArgument all e) (one.0 ++ two.0 ∷ []) s) state (record {
        list = before.list ++ last ∷ [];
        parts = λ U ext. (
          before.list,
          one.1.seen.scopes,
          A.x,
          before.parts U (extended_trans one.1.table two.1.table U A.goes.extends ext),
          A.part U ext,
          refl,
        );
        alike = λ U ext. alike_last U before.list one.0 last two.0 (before.alike U (extended_trans one.1.table two.1.table U A.goes.extends ext)) (A.alike U ext) (sym A.place);
        goes = goes-on s one.1 two.1 before.goes A.goes;
      }))

  -- operators on one operand
  module _ (e : tree.Expr) (at : Place) (o : Operand) (s m r : State) (j : IsJudgedFree false e o s m) where
    taken-refused : (operator : Unary) (rest : Value → Judging Operand) → next (value o m) rest ≡ Stops (Refused p t) r
        → ((v : Value) (n : State) (A : IsPartTaken e v s n) → rest v n ≡ Stops (Refused p t) r → (r ≡ n) × Fails (Tests.prefix_tests n.table n.seen.scopes operator at A.x) (Refused p t))
        → IsRefused (λ T. After T e s.seen.scopes (λ x c. Fails (Tests.prefix_tests T c operator at x) (Refused p t))) m r
    taken-refused operator rest h last =
        let P : Table → Type 0 = λ T. After T e s.seen.scopes (λ x c. Fails (Tests.prefix_tests T c operator at x) (Refused p t)) in
        step-refused (value o m) rest P m r (λ q. absurd (value-never o m p t r q))
        (λ v n q g.
        let A = taken-part false e o v s m n j q in
        let there = (ValuesTaken.value-gives e o v s.seen.scopes m n j.judged.goes.known j.judged.part q).goes in
        let c = last v n A g in
        refused-after P m n r there.goes.extends (value-fails e v s n r A (λ T x d. Fails (Tests.prefix_tests T d operator at x) (Refused p t)) c.0 c.1)) h

    arithmetic-refused : (operator : Unary) → Operations.is_arithmetic_prefix operator ≡ true → next (value o m) (prefix_of operator at) ≡ Stops (Refused p t) r
        → IsRefused (λ T. After T e s.seen.scopes (λ x c. Fails (Tests.prefix_tests T c operator at x) (Refused p t))) m r
    arithmetic-refused operator a h = taken-refused operator (prefix_of operator at) h
        (λ v n A g. ((prefix-refused operator at v n p t r g).1, prefix-refuses operator at A.x v n p t r a (A.alike n.table (extended_refl n.table)) g))

    pub prefix-any : (operator : Unary) → prefix operator at o m ≡ Stops (Refused p t) r
        → IsRefused (λ T. After T e s.seen.scopes (λ x c. Fails (Tests.prefix_tests T c operator at x) (Refused p t))) m r
    unfolding prefix target
    prefix-any unary.Increment h =
        let c = before-refused step.Increment at o m p t r h in operand-fails e s m r o false j (λ T x d. Fails (Tests.step_tests T d at x) (Refused p t)) c.1 c.0
    prefix-any unary.Decrement h =
        let c = before-refused step.Decrement at o m p t r h in operand-fails e s m r o false j (λ T x d. Fails (Tests.step_tests T d at x) (Refused p t)) c.1 c.0
    prefix-any unary.AddressOf h =
        let c = address-refused at o m p t r h in operand-fails e s m r o false j (λ T x d. Fails (Tests.address_tests at x) (Refused p t)) c.1 c.0
    prefix-any unary.SizeOf h =
        let c = size-refused at o m p t r h in operand-fails e s m r o false j (λ T x d. Fails (Tests.size_tests T d at x) (Refused p t)) c.1 c.0
    prefix-any unary.Dereference h = taken-refused unary.Dereference (target_of at) h
        (λ v n A g. ((target-refused at v n p t r g).1, target-refuses at A.x v n p t r (A.alike n.table (extended_refl n.table)) g))
    prefix-any unary.Plus h = arithmetic-refused unary.Plus refl h
    prefix-any unary.Minus h = arithmetic-refused unary.Minus refl h
    prefix-any unary.Complement h = arithmetic-refused unary.Complement refl h
    prefix-any unary.Not h = arithmetic-refused unary.Not refl h

  -- assignments
  pub update-any : (operator : Assignment) (a : tree.Expr) (at : Place) (b : tree.Expr) (s r : State) → is_compound operator ≡ true → IsKnown s → IsRefusing false a s
      → ((m : State) → IsKnown m → IsRefusing false b m)
      → next (judge false a s) (λ x. λ m. next (next (judge false b m) value) (λ y. Assignments.update_by operator x at y)) ≡ Stops (Refused p t) r
      → IsRefused (λ T. FailsAt false a s T ⊎ After T a s.seen.scopes (λ x c. Refuses T false b c (Refused p t)
      ⊎ After T b c (λ y d. Fails (Tests.assign_tests T d operator at x y) (Refused p t)))) s r
  update-any operator a at b s r compound k ia ib h =
      let N : Table → Elaborated → Scopes → Type 0 = λ T x c. Refuses T false b c (Refused p t) ⊎ After T b c (λ y d. Fails (Tests.assign_tests T d operator at x y) (Refused p t)) in
      operand-first false a s r (λ x. λ m. next (next (judge false b m) value) (λ y. Assignments.update_by operator x at y))
      (λ T. FailsAt false a s T ⊎ After T a s.seen.scopes (N T)) k ia (λ T ext q. inl q)
      (λ x m j g. second (FailsAt false a s) (λ T. After T a s.seen.scopes (N T)) m r (behind-operand a s m r x false j N
      (value-first b m r (λ y. Assignments.update_by operator x at y) (λ T. N T x.part m.seen.scopes) j.judged.goes.known (ib m j.judged.goes.known) (λ T ext q. inl q)
      (λ y n B w.
      let c = update-refused operator x at y n p t r w in
      let f = update-refuses operator x at B.x y n p t r compound (B.alike n.table (extended_refl n.table)) w in
      second (FailsAt false b m) (λ T. After T b m.seen.scopes (λ z d. Fails (Tests.assign_tests T d operator at x.part z) (Refused p t))) n r
      (value-fails b y m n r B (λ T z d. Fails (Tests.assign_tests T d operator at x.part z) (Refused p t)) c.1 f)) g))) h

  pub assign-any : (a : tree.Expr) (at : Place) (b : tree.Expr) (s r : State) → IsKnown s → IsRefusing false a s → ((m : State) → IsKnown m → IsRefusing false b m)
      → next (judge false a s) (λ x. λ m. next (judge false b m) (λ y. Assignments.assign x at y)) ≡ Stops (Refused p t) r
      → IsRefused (λ T. FailsAt false a s T ⊎ After T a s.seen.scopes (λ x c. Refuses T false b c (Refused p t)
      ⊎ After T b c (λ y d. Fails (Tests.assign_tests T d assignment.Assign at x y) (Refused p t)))) s r
  assign-any a at b s r k ia ib h =
      let N : Table → Elaborated → Scopes → Type 0 = λ T x c. Refuses T false b c (Refused p t) ⊎ After T b c (λ y d. Fails (Tests.assign_tests T d assignment.Assign at x y) (Refused p t)) in
      operand-first false a s r (λ x. λ m. next (judge false b m) (λ y. Assignments.assign x at y))
      (λ T. FailsAt false a s T ⊎ After T a s.seen.scopes (N T)) k ia (λ T ext q. inl q)
      (λ x m j g. second (FailsAt false a s) (λ T. After T a s.seen.scopes (N T)) m r (behind-operand a s m r x false j N
      (operand-first false b m r (λ y. Assignments.assign x at y) (λ T. N T x.part m.seen.scopes) j.judged.goes.known (ib m j.judged.goes.known) (λ T ext q. inl q)
      (λ y n l w.
      let c = assign-refused x at y n p t r w in
      let known = l.judged.goes.known in
      let there = part-there n.table known.basic a x.part s.seen.scopes m.seen.scopes
      (part-kept m.table n.table l.judged.goes.extends j.judged.goes.known.basic a x.part s.seen.scopes m.seen.scopes j.judged.part) in
      let got = (given-gives b (part_type x.part) y.place y.part c.0 m.seen.scopes n r known there l.judged.part c.1).1 in
      let side = given-side b (part_type x.part) y.place y.part c.0 m.seen.scopes n r known l.judged.part c.1 in
      let fails : Fails (Tests.assign_tests r.table n.seen.scopes assignment.Assign at x.part y.part) (Refused p t) =
      subst (λ (d : Scopes). Fails (Tests.assign_tests r.table d assignment.Assign at x.part y.part) (Refused p t)) got.scopes
      (ap first_broken (assign-side r.table r.seen.scopes at x.part y.part c.0 side) ∙ c.2) in
      record {
        fails = inr (y.part, n.seen.scopes, part-kept n.table r.table got.goes.extends known.basic b y.part m.seen.scopes n.seen.scopes l.judged.part, fails);
        extends = got.goes.extends;
      }) g))) h

  -- members' and enumerators' names and values
  pub enumerator-fails : (all : TypedEnumerators) (name : Identifier) (s r : State) → enumerator all name s ≡ Stops (Refused p t) r
      → Fails (Tests.enumerator_tests s.seen.scopes name.bytes name.place) (Refused p t) × (r ≡ s)
  unfolding enumerator
  enumerator-fails all name s r h =
      obeying-refuses (λ q. Tests.enumerator_tests q.seen.scopes name.bytes name.place)
      (Specifying.in_scopes (declaring name.bytes (declared.Enumerator (next_value (last_value all)))) (typed.AndEnumerator all name (next_value (last_value all)))) s p t r
      (gives-never (typed.AndEnumerator all name (next_value (last_value all))) (_)) h

  pub valued-fails : (all : TypedEnumerators) (name : Identifier) (at : Place) (e : tree.Expr) (v : Value) (s n r : State) (A : IsPartTaken e v s n)
      → valued_enumerator all name at v n ≡ Stops (Refused p t) r
      → (r ≡ n) × Fails (Tests.enumerator_tests n.seen.scopes name.bytes name.place ++ Tests.constant_tests n.table (expr_place e) A.x) (Refused p t)
  unfolding valued_enumerator
  valued-fails all name at e v s n r A h =
      let c = obeying-refuses (λ q. Tests.enumerator_tests q.seen.scopes name.bytes name.place ++ Tests.constant_tests q.table v.place (AsValue v.expr))
      (by_known (λ q. enumerator_with all name at v.expr (constant_value q.table v.expr))) n p t r
      (enumerator_with-never all name at v.expr (constant_value n.table v.expr) n) h in
      let alike = constant-alike n.table A.x v.expr (A.alike n.table (extended_refl n.table)) in
      let place = A.place in
      (c.1, (λ i. first_broken (Tests.enumerator_tests n.seen.scopes name.bytes name.place ++ Tests.broken_at rule.NotConstant (sym place i) (not (alike i)) ∷ [])) ∙ c.0)

  pub sized-fails : (all : TypedParts) (bracket : Place) (words : List Word) (e : tree.Expr) (v : Value) (s n r : State) (A : IsPartTaken e v s n)
      → sized all bracket words v n ≡ Stops (Refused p t) r → (r ≡ n) × Fails (Tests.array_size_tests n.table (expr_place e) A.x) (Refused p t)
  unfolding sized
  sized-fails all bracket words e v s n r A h =
      let c = obeying-refuses (λ q. Tests.array_size_tests q.table v.place (AsValue v.expr))
      (by_known (λ q. sized_part all bracket words v (size_given (constant_value q.table v.expr)))) n p t r
      (sized_part-never all bracket words v (size_given (constant_value n.table v.expr)) n) h in
      let alike = size-alike n.table A.x v.expr (A.alike n.table (extended_refl n.table)) in
      let place = A.place in
      (c.1, (λ i. first_broken (Tests.broken_at rule.NotConstant (sym place i) (not (alike i)) ∷ [])) ∙ c.0)

  -- specifiers by themselves
  pub word-fails : (counts : Counted) (w : Word) (s r : State) → Specifying.word counts w s ≡ Stops (Refused p t) r
      → Fails (Tests.word_tests w.place (counting_word w.keyword counts)) (Refused p t) × (r ≡ s)
  unfolding Specifying.word
  word-fails counts w s r h =
      obeying-refuses (λ q. Tests.word_tests w.place (counting_word w.keyword counts)) (pure (typed.Keyword w)) s p t r (gives-never (typed.Keyword w) s) h

  pub typedef-fails : (counts : Counted) (name : Identifier) (s r : State) → Specifying.typedef_name counts name s ≡ Stops (Refused p t) r
      → Fails (Tests.word_tests name.place (one_named counts)) (Refused p t) × (r ≡ s)
  unfolding Specifying.typedef_name
  typedef-fails counts name s r h =
      obeying-refuses (λ q. Tests.word_tests name.place (one_named counts)) (by_known (λ q. typedef_named name (name_in q.seen.scopes.levels name.bytes))) s p t r
      (typedef-never name (name_in s.seen.scopes.levels name.bytes) s) h

  pub tagged-fails : (counts : Counted) (which : AggregateKind) (at : Place) (name : Identifier) (s r : State) → Specifying.tagged counts which at name s ≡ Stops (Refused p t) r
      → Fails (Tests.tag_tests s.seen.scopes (is_tag_of which) name.bytes name.place ++ Tests.word_tests at (one_named counts)) (Refused p t) × (r ≡ s)
  unfolding Specifying.tagged
  tagged-fails counts which at name s r h =
      obeying-refuses (λ q. Tests.tag_tests q.seen.scopes (is_tag_of which) name.bytes name.place ++ Tests.word_tests at (one_named counts))
      (tagged_by which at name (λ q. tag_in q.seen.scopes.levels name.bytes)) s p t r (tagged_by-never which at name (λ q. tag_in q.seen.scopes.levels name.bytes) s) h

  pub enum-fails : (counts : Counted) (at : Place) (name : Identifier) (s r : State) → enum_tag counts at name s ≡ Stops (Refused p t) r
      → Fails (Tests.enum_tests s.seen.scopes name.bytes name.place ++ Tests.word_tests at (one_named counts)) (Refused p t) × (r ≡ s)
  unfolding enum_tag
  enum-fails counts at name s r h =
      obeying-refuses (λ q. Tests.enum_tests q.seen.scopes name.bytes name.place ++ Tests.word_tests at (one_named counts)) (pure (typed.Enum at name)) s p t r
      (gives-never (typed.Enum at name) s) h

  pub enumeration-fails : (counts : Counted) (at : Place) (name : Option Identifier) (brace : Place) (list : TypedEnumerators) (comma : Bool) (s r : State)
      → enumeration counts at name brace list comma s ≡ Stops (Refused p t) r
      → Fails (Tests.enumeration_tests (is_taken_enumeration (tag_named_here s.seen.scopes name)) (tag_place at name) ++ Tests.word_tests at (one_named counts)) (Refused p t)
      × (r ≡ s)
  unfolding enumeration
  enumeration-fails counts at name brace list comma s r h =
      obeying-refuses
      (λ q. Tests.enumeration_tests (is_taken_enumeration (tag_named_here q.seen.scopes name)) (tag_place at name) ++ Tests.word_tests at (one_named counts))
      (Specifying.in_scopes (enumerated name) (typed.Enumeration at name brace list comma)) s p t r (gives-never (typed.Enumeration at name brace list comma) (_)) h

  pub ended-fails : (counts : Counted) (which : AggregateKind) (at : Place) (name : Option Identifier) (brace : Place) (o : Option TypeId) (rows : TypedMembers) (s r : State)
      → ended counts which at name brace o rows s ≡ Stops (Refused p t) r
      → Fails (Tests.aggregate_tests (is_taken_at_end s o) (tag_place at name) (is_empty_row rows) ++ Tests.word_tests at (one_named counts)) (Refused p t) × (r ≡ s)
  unfolding ended
  ended-fails counts which at name brace o rows s r h =
      obeying-refuses (λ q. Tests.aggregate_tests (is_taken_at_end q o) (tag_place at name) (is_empty_row rows) ++ Tests.word_tests at (one_named counts))
      (λ q. next (completed (tag_place at name) rows o q) (λ u. pure (typed.Aggregate which at name brace rows u))) s p t r
      (next-never (completed (tag_place at name) rows o s) (λ u. pure (typed.Aggregate which at name brace rows u)) (completed-never (tag_place at name) rows o s)
      (λ u q. gives-never (typed.Aggregate which at name brace rows u) q)) h

  pub begun_enumeration-never : (name : Option Identifier) (s : State) → NeverRefuses (enumeration_begun name s)
  unfolding enumeration_begun
  begun_enumeration-never name s = gives-never true (_)

  pub entered-never : (s : State) → NeverRefuses (entered s)
  unfolding entered
  entered-never s = gives-never true (_)

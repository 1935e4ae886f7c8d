-- What judging uses, one after another in the order of the text: by one recursion over the tree.
use Rattle.std.proofs.Common.{◌≡◌, Bool, true, false, List, [], ◌∷◌, ◌++◌, Option, ap, sym, subst, ◌∙◌}
use Rattle.cc_base.specs.declared.place.Place.{Place}
use Rattle.cc_base.specs.declared.number.TypeId.{TypeId}
use Rattle.cc_base.specs.declared.fault.Fault.TheVariants.{TooLarge}
use Rattle.cc_base.specs.declared.fault.Limit.TheVariants.{Types}
use Rattle.c_types.specs.declared.shape.TypeShape.{TypeShape}
use Rattle.c_types.specs.Table.{Table, IsType}
use Rattle.c_tree.specs.declared.operator.Assignment.TheVariants as assignment
use Rattle.c_tree.specs.declared.operator.MemberOperator.TheVariants as member
use Rattle.c_tree.specs.Places.{nowhere}
use Rattle.c_tree.specs.Tree as tree
use Rattle.c_tree.specs.TypedTree as typed
use Rattle.c_tree.specs.TypedTree.{TypedTypeName, TypedSpecifierList, TypedSpecifier, TypedMembers, TypedMemberDeclarators, TypedEnumerators, TypedForm, TypedCore, TypedParts, TypedParameters, TypedDeclared}
use Rattle.c_typing.specs.declared.naming.Naming.{Naming}
use Rattle.c_typing.specs.declared.naming.Naming.TheVariants as naming
use Rattle.c_typing.specs.Adjusting.{derived_by_declared, typedef_place, adjusted_at}
use Rattle.c_typing.specs.Assignments
use Rattle.c_typing.specs.Declarators.{Counted, counted, declarator_names, member_names}
use Rattle.c_typing.specs.Declarators
use Rattle.c_typing.specs.Declaring.{declarator_name, home_as, stars_with_nodes, sized, declared_makes, member_named, parameter, entered, left, stopped_outside}
use Rattle.c_typing.specs.Judging.{State, Gives, next, pure}
use Rattle.c_typing.specs.Operands.{Operand, Value, value}
use Rattle.c_typing.specs.Operations
use Rattle.c_typing.specs.Operations.{prefix}
use Rattle.c_typing.specs.Refusals.{name_place, is_void_alone}
use Rattle.c_typing.specs.Scopes.{Scopes}
use Rattle.c_typing.specs.Scopes
use Rattle.c_typing.specs.Settled.{IsKnown}
use Rattle.c_typing.specs.Specifying.{specified, begun, ended, enumerator, valued_enumerator, enumeration_begun, enumeration}
use Rattle.c_typing.specs.Walks.{listed, declared_place, judge, judge_arguments, judge_type_name, judge_list, judge_specifier, judge_members, judge_member_declarators, judge_enumerators, judge_form, judge_core, judge_parts, judge_parameters, judge_declared}
use Rattle.c_typing_laws.proofs.JudgedDeclarators.{IsVoidOf, first_alone, form_name, stars-judged, entered-judged}
use Rattle.c_typing_laws.proofs.JudgedLists.{list-typed}
use Rattle.c_typing_laws.proofs.JudgedSpecifiers.{begun-judged, enumeration_begun-judged}
use Rattle.c_typing_laws.proofs.JudgedTrees.{value-here, expr-judged, arguments-judged, type_name-judged, specifiers-judged, members-judged, row-judged, enumerators-judged, form-judged, core-judged, parts-judged, parameters-judged, begun_goes, void_self}
use Rattle.c_typing_laws.proofs.Outcomes.{bind-gives, never-gives, outside-gives}
use Rattle.c_typing_laws.proofs.ValuesTaken.{given-same}
use Rattle.c_typing_laws.proofs.NumberedTrees.{operand-whole}
use Rattle.c_type_order.specs.TypesUsed.{types_of, made_in, declared_steps, used_by, used_by_specifier_list, used_by_specifier, used_by_members, used_by_member_declarators, used_by_enumerators, used_by_form, used_by_core, used_by_parts, used_by_parameters, used_by_declared}
use Rattle.c_type_order.specs.Uses.{IsUsed, used_by_values}
use Rattle.c_type_order.proofs.Uses.{used-none, then_used, used-as, used-still}
use Rattle.c_type_order.proofs.UsedConstructs.{PartUsed, value-used, integer-used, character-used, literal-used, name-used, paren-used, after-used}
use Rattle.c_type_order.proofs.UsedOperators
use Rattle.c_type_order.proofs.UsedOperators.{BothUsed, index-used, infix-used, pointed-used}
use Rattle.c_type_order.proofs.UsedAssignments.{NameUsed, assign-used, choice-used, comma-used, cast-used, size_of_type-used, values_last, call-used}
use Rattle.c_type_order.proofs.UsedChains.{chain-used, declared-chain}
use Rattle.c_type_order.proofs.UsedSteps.{SpecifierUsed, word-used, typedef-used, tagged-used, enum-used, begun_uses, begun-used, ended-used, enumerator-used, valued-used, begun-table, enumeration-used}
use Rattle.c_type_order.proofs.UsedParameters.{sized-used, stars-table, home-table, member-used, parameter-used, scoped}
use Rattle.c_type_order.proofs.UsedValues.{value-uses, prefix-uses, update-uses, both_use}

mutual
  unfolding judge judge_arguments judge_type_name judge_list judge_specifier judge_members judge_member_declarators judge_enumerators judge_form judge_core judge_parts judge_parameters judge_declared

  pub expr-uses : (e : tree.Expr) (called : Bool) (o : Operand) (s r : State) → IsKnown s → judge called e s ≡ Gives o r → PartUsed o.part s.table r.table
  expr-uses (tree.Name word) called o s r k h = name-used called word o s r h
  expr-uses (tree.Integer of n at) called o s r k h = integer-used of n at o s r h
  expr-uses (tree.Character n at) called o s r k h = character-used n at o s r h
  expr-uses (tree.String pieces) called o s r k h = literal-used pieces o s r h
  expr-uses (tree.Paren at e) called o s r k h =
      let one = bind-gives (judge called e s) (Operations.paren at) o r h in
      paren-used at one.0 o s.table one.1 r (expr-uses e called one.0 s one.1 k one.2) one.3
  expr-uses (tree.Index a at b) called o s r k h =
      let one = bind-gives (next (judge false a s) value) (λ x. λ m. next (next (judge false b m) value) (λ y. Operations.index x at y)) o r h in
      let x = value-uses a one.0 s one.1 k (λ p q t. expr-uses a false p s q k t) one.2 in
      let two = bind-gives (next (judge false b one.1) value) (λ y. Operations.index one.0 at y) o r one.3 in
      let y = value-uses b two.0 one.1 two.1 x.1 (λ p q t. expr-uses b false p one.1 q x.1 t) two.2 in
      index-used one.0 at two.0 o s.table two.1 r (both_use one.0 two.0 s.table one.1.table two.1.table x.0 y.0) two.3
  expr-uses (tree.Call f at all) called o s r k h =
      let one = bind-gives (judge true f s) (λ x. λ m. next (value x m) (λ g. λ n. next (judge_arguments all n) (λ values. Assignments.call g at values))) o r h in
      let x = operand-whole true f one.0 s one.1 k one.2 in
      let two = bind-gives (value one.0 one.1) (λ g. λ n. next (judge_arguments all n) (λ values. Assignments.call g at values)) o r one.3 in
      let g = value-used one.0 two.0 s.table one.1 two.1 x.0 (expr-uses f true one.0 s one.1 k one.2) two.2 in
      let known = (value-here true f one.0 two.0 s one.1 two.1 (expr-judged f true one.0 s one.1 k one.2) two.2).value.goes.known in
      let three = bind-gives (judge_arguments all two.1) (λ values. Assignments.call two.0 at values) o r two.3 in
      let args = arguments-use all three.0 two.1 three.1 known three.2 in
      call-used two.0 at three.0 o s.table two.1.table three.1 r g args three.3
  expr-uses (tree.Member e member.Dot at name) called o s r k h =
      let one = bind-gives (judge false e s) (λ x. Operations.member x at name) o r h in
      UsedOperators.member-used one.0 at name o s.table one.1 r (expr-uses e false one.0 s one.1 k one.2) one.3
  expr-uses (tree.Member e member.Arrow at name) called o s r k h =
      let one = bind-gives (next (judge false e s) value) (λ x. Operations.pointed_member x at name) o r h in
      let x = value-uses e one.0 s one.1 k (λ p q t. expr-uses e false p s q k t) one.2 in
      pointed-used one.0 at name o s.table one.1 r x.0 one.3
  expr-uses (tree.Postfix e operator at) called o s r k h =
      let one = bind-gives (judge false e s) (Operations.step_after operator at) o r h in
      after-used operator at one.0 o s.table one.1 r (expr-uses e false one.0 s one.1 k one.2) one.3
  expr-uses (tree.Prefix operator at e) called o s r k h =
      let one = bind-gives (judge false e s) (prefix operator at) o r h in
      let x = operand-whole false e one.0 s one.1 k one.2 in
      prefix-uses operator at one.0 o s.table one.1 r x.0 (expr-uses e false one.0 s one.1 k one.2) one.3
  expr-uses (tree.SizeOfType at paren name) called o s r k h =
      let one = bind-gives (judge_type_name name s) (Assignments.size_of_type at paren) o r h in
      size_of_type-used at paren one.0 o s.table one.1 r (type_name-uses name one.0 s one.1 k one.2) one.3
  expr-uses (tree.Cast at name e) called o s r k h =
      let one = bind-gives (judge_type_name name s) (λ to. λ m. next (judge false e m) (λ x. Assignments.cast at to x)) o r h in
      let known = (type_name-judged name one.0 s one.1 k one.2).goes.known in
      let two = bind-gives (judge false e one.1) (λ x. Assignments.cast at one.0 x) o r one.3 in
      let x = operand-whole false e two.0 one.1 two.1 known two.2 in
      cast-used at one.0 two.0 o s.table one.1.table two.1 r x.0 (type_name-uses name one.0 s one.1 k one.2) (expr-uses e false two.0 one.1 two.1 known two.2) two.3
  expr-uses (tree.Infix operator a at b) called o s r k h =
      let one = bind-gives (next (judge false a s) value) (λ x. λ m. next (next (judge false b m) value) (λ y. Operations.infix_of operator x at y)) o r h in
      let x = value-uses a one.0 s one.1 k (λ p q t. expr-uses a false p s q k t) one.2 in
      let two = bind-gives (next (judge false b one.1) value) (λ y. Operations.infix_of operator one.0 at y) o r one.3 in
      let y = value-uses b two.0 one.1 two.1 x.1 (λ p q t. expr-uses b false p one.1 q x.1 t) two.2 in
      infix-used operator one.0 at two.0 o s.table two.1 r (both_use one.0 two.0 s.table one.1.table two.1.table x.0 y.0) two.3
  expr-uses (tree.Conditional c at a b) called o s r k h =
      let one = bind-gives (next (judge false c s) value)
      (λ z. λ m. next (next (judge false a m) value) (λ x. λ n. next (next (judge false b n) value) (λ y. Assignments.choice z at x y))) o r h in
      let z = value-uses c one.0 s one.1 k (λ p q t. expr-uses c false p s q k t) one.2 in
      let two = bind-gives (next (judge false a one.1) value) (λ x. λ n. next (next (judge false b n) value) (λ y. Assignments.choice one.0 at x y)) o r one.3 in
      let x = value-uses a two.0 one.1 two.1 z.1 (λ p q t. expr-uses a false p one.1 q z.1 t) two.2 in
      let three = bind-gives (next (judge false b two.1) value) (λ y. Assignments.choice one.0 at two.0 y) o r two.3 in
      let y = value-uses b three.0 two.1 three.1 x.1 (λ p q t. expr-uses b false p two.1 q x.1 t) three.2 in
      choice-used one.0 at two.0 three.0 o s.table three.1 r
      (then_used (BothUsed one.0.expr two.0.expr) (λ U. used_by U three.0.expr) s.table two.1.table three.1.table
      (both_use one.0 two.0 s.table one.1.table two.1.table z.0 x.0) y.0) three.3
  expr-uses (tree.Assign assignment.Assign a at b) called o s r k h =
      let one = bind-gives (judge false a s) (λ x. λ m. next (judge false b m) (λ y. Assignments.assign x at y)) o r h in
      let x = operand-whole false a one.0 s one.1 k one.2 in
      let two = bind-gives (judge false b one.1) (λ y. Assignments.assign one.0 at y) o r one.3 in
      let y = operand-whole false b two.0 one.1 two.1 x.1 two.2 in
      assign-used one.0 at two.0 o s.table one.1.table two.1 r y.0 (expr-uses a false one.0 s one.1 k one.2) (expr-uses b false two.0 one.1 two.1 x.1 two.2) two.3
  expr-uses (tree.Assign operator a at b) called o s r k h =
      update-uses operator a at b o s r k (λ p q t. expr-uses a false p s q k t) (λ m known p q t. expr-uses b false p m q known t) h
  expr-uses (tree.Comma a b) called o s r k h =
      let one = bind-gives (next (judge false a s) value) (λ x. λ m. next (next (judge false b m) value) (λ y. Assignments.comma x y)) o r h in
      let x = value-uses a one.0 s one.1 k (λ p q t. expr-uses a false p s q k t) one.2 in
      let two = bind-gives (next (judge false b one.1) value) (λ y. Assignments.comma one.0 y) o r one.3 in
      let y = value-uses b two.0 one.1 two.1 x.1 (λ p q t. expr-uses b false p one.1 q x.1 t) two.2 in
      comma-used one.0 two.0 o s.table two.1 r (both_use one.0 two.0 s.table one.1.table two.1.table x.0 y.0) two.3
  expr-uses (tree.Compound at name brace) called o s r k h = never-gives o (TooLarge nowhere Types) s r h
  expr-uses (tree.SizeOfCompound at paren name brace) called o s r k h = never-gives o (TooLarge nowhere Types) s r h

  pub arguments-use : (all : tree.Arguments) (values : List Value) (s r : State) → IsKnown s → judge_arguments all s ≡ Gives values r → IsUsed (used_by_values values) s.table r.table
  arguments-use tree.NoArgument values s r k h = given-same (λ (v : List Value) (q : State). IsUsed (used_by_values v) s.table q.table) [] values s r h (used-none s.table)
  arguments-use (tree.AndArgument all e) values s r k h =
      let one = bind-gives (judge_arguments all s) (λ before. λ m. next (next (judge false e m) value) (λ v. pure (before ++ v ∷ []))) values r h in
      let before = arguments-use all one.0 s one.1 k one.2 in
      let known = (arguments-judged all one.0 s one.1 k one.2).1.known in
      let two = bind-gives (next (judge false e one.1) value) (λ v. pure (one.0 ++ v ∷ [])) values r one.3 in
      let v = value-uses e two.0 one.1 two.1 known (λ p q t. expr-uses e false p one.1 q known t) two.2 in
      given-same (λ (w : List Value) (q : State). IsUsed (used_by_values w) s.table q.table) (one.0 ++ two.0 ∷ []) values two.1 r two.3
      (used-as (λ U. used_by_values one.0 U ++ used_by U two.0.expr) (used_by_values (one.0 ++ two.0 ∷ [])) s.table two.1.table (λ U. values_last U one.0 two.0)
      (then_used (used_by_values one.0) (λ U. used_by U two.0.expr) s.table one.1.table two.1.table before v.0))

  pub type_name-uses : (name : tree.TypeName) (made : TypedTypeName) (s r : State) → IsKnown s → judge_type_name name s ≡ Gives made r → NameUsed made s.table r.table
  type_name-uses (tree.Named specifiers d) made s r k h =
      let at = declared_place specifiers d in
      let one = bind-gives (judge_list specifiers s) (λ list. λ m. next (judge_declared naming.None at d m)
      (λ v. λ n. next (declared_makes at Declarators.Written v (listed list) n) (λ t. pure (typed.Named (specified list) v t)))) made r h in
      let known = (specifiers-judged specifiers one.0 s one.1 k one.2).goes.known in
      let two = bind-gives (judge_declared naming.None at d one.1)
      (λ v. λ n. next (declared_makes at Declarators.Written v (listed one.0) n) (λ t. pure (typed.Named (specified one.0) v t))) made r one.3 in
      let three = bind-gives (declared_makes at Declarators.Written two.0 (listed one.0) two.1) (λ t. pure (typed.Named (specified one.0) two.0 t)) made r two.3 in
      let types = chain-used (declared_steps Declarators.Written two.0) (listed one.0) three.0 two.1.table three.1.table
      (declared-chain at Declarators.Written two.0 (listed one.0) three.0 two.1 three.1 three.2) in
      given-same (λ (v : TypedTypeName) (q : State). NameUsed v s.table q.table) (typed.Named (specified one.0) two.0 three.0) made three.1 r three.3
      (then_used (λ U. used_by_specifier_list U one.0 ++ used_by_declared U two.0) (λ U. types_of (made_in U (declared_steps Declarators.Written two.0) three.0)) s.table two.1.table three.1.table
      (then_used (λ U. used_by_specifier_list U one.0) (λ U. used_by_declared U two.0) s.table one.1.table two.1.table (specifiers-use specifiers one.0 s one.1 k one.2)
      (declared-uses d naming.None at two.0 one.1 two.1 known two.2)) types)

  pub specifiers-use : (all : tree.Specifiers) (list : TypedSpecifierList) (s r : State) → IsKnown s → judge_list all s ≡ Gives list r
      → IsUsed (λ U. used_by_specifier_list U list) s.table r.table
  specifiers-use tree.NoSpecifier list s r k h =
      given-same (λ (v : TypedSpecifierList) (q : State). IsUsed (λ U. used_by_specifier_list U v) s.table q.table) typed.NoSpecifier list s r h (used-none s.table)
  specifiers-use (tree.AndSpecifier all specifier) list s r k h =
      let one = bind-gives (judge_list all s) (λ l. λ m. next (judge_specifier (counted l) specifier m) (λ v. pure (typed.AndSpecifier l v))) list r h in
      let known = (specifiers-judged all one.0 s one.1 k one.2).goes.known in
      let two = bind-gives (judge_specifier (counted one.0) specifier one.1) (λ v. pure (typed.AndSpecifier one.0 v)) list r one.3 in
      given-same (λ (v : TypedSpecifierList) (q : State). IsUsed (λ U. used_by_specifier_list U v) s.table q.table) (typed.AndSpecifier one.0 two.0) list two.1 r two.3
      (then_used (λ U. used_by_specifier_list U one.0) (λ U. used_by_specifier U two.0) s.table one.1.table two.1.table (specifiers-use all one.0 s one.1 k one.2)
      (specifier-uses specifier (counted one.0) two.0 one.1 two.1 known two.2))

  pub specifier-uses : (specifier : tree.Specifier) (counts : Counted) (one : TypedSpecifier) (s r : State) → IsKnown s → judge_specifier counts specifier s ≡ Gives one r
      → SpecifierUsed one s.table r.table
  specifier-uses (tree.Keyword word) counts one s r k h = word-used counts word one s r h
  specifier-uses (tree.Typedef name) counts one s r k h = typedef-used counts name one s r h
  specifier-uses (tree.Tagged which at name) counts one s r k h = tagged-used counts which at name one s r k h
  specifier-uses (tree.Aggregate which at name brace members) counts one s r k h =
      let start = bind-gives (begun which at name s) (λ t. λ m. next (judge_members members m) (λ rows. ended counts which at name brace t rows)) one r h in
      let b = begun-judged which at name start.0 s start.1 k start.2 in
      let rows = bind-gives (judge_members members start.1) (λ v. ended counts which at name brace start.0 v) one r start.3 in
      let made = members-use members rows.0 start.1 rows.1 (begun_goes which name start.0 s start.1 b).known rows.2 in
      ended-used counts which at name brace start.0 rows.0 one s.table rows.1 r
      (then_used (begun_uses start.0) (λ U. used_by_members U rows.0) s.table start.1.table rows.1.table (begun-used which at name start.0 s start.1 k start.2) made) rows.3
  specifier-uses (tree.Enum at name) counts one s r k h = enum-used counts at name one s r h
  specifier-uses (tree.Enumeration at name brace all comma) counts one s r k h =
      let start = bind-gives (enumeration_begun name s) (λ f. λ m. next (judge_enumerators all m) (λ list. enumeration counts at name brace list comma)) one r h in
      let b = enumeration_begun-judged name start.0 s start.1 k start.2 in
      let two = bind-gives (judge_enumerators all start.1) (λ list. enumeration counts at name brace list comma) one r start.3 in
      let made = enumerators-use all two.0 start.1 two.1 b.1.known two.2 in
      enumeration-used counts at name brace two.0 comma one s.table two.1 r
      (subst (λ (T : Table). IsUsed (λ U. used_by_enumerators U two.0) T two.1.table) (begun-table name start.0 s start.1 start.2) made) two.3

  pub members-use : (all : tree.Members) (rows : TypedMembers) (s r : State) → IsKnown s → judge_members all s ≡ Gives rows r → IsUsed (λ U. used_by_members U rows) s.table r.table
  members-use tree.NoMember rows s r k h =
      given-same (λ (v : TypedMembers) (q : State). IsUsed (λ U. used_by_members U v) s.table q.table) typed.NoMember rows s r h (used-none s.table)
  members-use (tree.AndMember all specifiers declarators) rows s r k h =
      let one = bind-gives (judge_members all s) (λ a. λ m. next (judge_list specifiers m)
      (λ l. λ n. next (judge_member_declarators (listed l) (member_names a) declarators n) (λ row. pure (typed.AndMember a (specified l) row)))) rows r h in
      let known = (members-judged all one.0 s one.1 k one.2).goes.known in
      let two = bind-gives (judge_list specifiers one.1)
      (λ l. λ n. next (judge_member_declarators (listed l) (member_names one.0) declarators n) (λ row. pure (typed.AndMember one.0 (specified l) row))) rows r one.3 in
      let l = specifiers-judged specifiers two.0 one.1 two.1 known two.2 in
      let named = list-typed specifiers two.0 one.1 two.1 l in
      let three = bind-gives (judge_member_declarators (listed two.0) (member_names one.0) declarators two.1) (λ row. pure (typed.AndMember one.0 (specified two.0) row)) rows r two.3 in
      given-same (λ (v : TypedMembers) (q : State). IsUsed (λ U. used_by_members U v) s.table q.table) (typed.AndMember one.0 (specified two.0) three.0) rows three.1 r three.3
      (then_used (λ U. used_by_members U one.0 ++ used_by_specifier_list U two.0) (λ U. used_by_member_declarators U three.0) s.table two.1.table three.1.table
      (then_used (λ U. used_by_members U one.0) (λ U. used_by_specifier_list U two.0) s.table one.1.table two.1.table (members-use all one.0 s one.1 k one.2)
      (specifiers-use specifiers two.0 one.1 two.1 known two.2))
      (row-uses declarators (listed two.0) (member_names one.0) three.0 two.1 three.1 l.goes.known named.1 three.2))

  pub row-uses : (all : tree.MemberDeclarators) (base : TypeId) (names : List Scopes.Name) (row : TypedMemberDeclarators) (s r : State) → IsKnown s → IsType s.table base
      → judge_member_declarators base names all s ≡ Gives row r → IsUsed (λ U. used_by_member_declarators U row) s.table r.table
  row-uses tree.NoDeclarator base names row s r k b h =
      given-same (λ (v : TypedMemberDeclarators) (q : State). IsUsed (λ U. used_by_member_declarators U v) s.table q.table) typed.NoDeclarator row s r h (used-none s.table)
  row-uses (tree.AndDeclarator all d) base names row s r k b h =
      let at = name_place (declarator_name d) nowhere in
      let one = bind-gives (judge_member_declarators base names all s)
      (λ v. λ m. next (judge_form naming.None at d m) (λ form. member_named (names ++ declarator_names v) v form base (declarator_name d))) row r h in
      let known = (row-judged all base names one.0 s one.1 k b one.2).goes.known in
      let two = bind-gives (judge_form naming.None at d one.1) (λ form. member_named (names ++ declarator_names one.0) one.0 form base (declarator_name d)) row r one.3 in
      let named = sym (form_name two.0) ∙ ap declarator_name (form-judged d naming.None at two.0 one.1 two.1 known two.2).erases in
      member-used (names ++ declarator_names one.0) one.0 row two.0 base (declarator_name d) s.table two.1 r named
      (then_used (λ U. used_by_member_declarators U one.0) (λ U. used_by_form U two.0) s.table one.1.table two.1.table (row-uses all base names one.0 s one.1 k b one.2)
      (form-uses d naming.None at two.0 one.1 two.1 known two.2)) two.3
  row-uses (tree.AndBitField all d) base names row s r k b h = never-gives row (TooLarge nowhere Types) s r h
  row-uses (tree.AndUnnamedBitField all) base names row s r k b h = never-gives row (TooLarge nowhere Types) s r h

  pub enumerators-use : (all : tree.Enumerators) (list : TypedEnumerators) (s r : State) → IsKnown s → judge_enumerators all s ≡ Gives list r
      → IsUsed (λ U. used_by_enumerators U list) s.table r.table
  enumerators-use tree.NoEnumerator list s r k h =
      given-same (λ (v : TypedEnumerators) (q : State). IsUsed (λ U. used_by_enumerators U v) s.table q.table) typed.NoEnumerator list s r h (used-none s.table)
  enumerators-use (tree.AndEnumerator all name) list s r k h =
      let one = bind-gives (judge_enumerators all s) (λ l. enumerator l name) list r h in
      enumerator-used one.0 list name s.table one.1 r (enumerators-use all one.0 s one.1 k one.2) one.3
  enumerators-use (tree.AndValued all name at e) list s r k h =
      let one = bind-gives (judge_enumerators all s) (λ l. λ m. next (next (judge false e m) value) (λ v. valued_enumerator l name at v)) list r h in
      let known = (enumerators-judged all one.0 s one.1 k one.2).goes.known in
      let two = bind-gives (next (judge false e one.1) value) (λ v. valued_enumerator one.0 name at v) list r one.3 in
      let v = value-uses e two.0 one.1 two.1 known (λ p q t. expr-uses e false p one.1 q known t) two.2 in
      valued-used one.0 list name at two.0 s.table two.1 r
      (then_used (λ U. used_by_enumerators U one.0) (λ U. used_by U two.0.expr) s.table one.1.table two.1.table (enumerators-use all one.0 s one.1 k one.2) v.0) two.3

  pub form-uses : (d : tree.Declarator) (which : Naming) (at : Place) (form : TypedForm) (s r : State) → IsKnown s → judge_form which at d s ≡ Gives form r
      → IsUsed (λ U. used_by_form U form) s.table r.table
  form-uses (tree.Declares stars core parts) which at form s r k h =
      let one = bind-gives (stars_with_nodes at stars s) (λ l. λ m. next (judge_core which at core m) (λ c. λ n. next (judge_parts at parts n) (λ a. pure (typed.Form l c a)))) form r h in
      let first = stars-judged at stars one.0 s one.1 k one.2 in
      let two = bind-gives (judge_core which at core one.1) (λ c. λ n. next (judge_parts at parts n) (λ a. pure (typed.Form one.0 c a))) form r one.3 in
      let known = (core-judged core which at two.0 one.1 two.1 first.1.goes.known two.2).goes.known in
      let three = bind-gives (judge_parts at parts two.1) (λ a. pure (typed.Form one.0 two.0 a)) form r two.3 in
      given-same (λ (v : TypedForm) (q : State). IsUsed (λ U. used_by_form U v) s.table q.table) (typed.Form one.0 two.0 three.0) form three.1 r three.3
      (then_used (λ U. used_by_core U two.0) (λ U. used_by_parts U three.0) s.table two.1.table three.1.table
      (subst (λ (T : Table). IsUsed (λ U. used_by_core U two.0) T two.1.table) (stars-table at stars one.0 s one.1 one.2)
      (core-uses core which at two.0 one.1 two.1 first.1.goes.known two.2))
      (parts-use parts at three.0 two.1 three.1 known three.2))

  pub core-uses : (d : tree.Core) (which : Naming) (at : Place) (core : TypedCore) (s r : State) → IsKnown s → judge_core which at d s ≡ Gives core r
      → IsUsed (λ U. used_by_core U core) s.table r.table
  core-uses (tree.Names name) which at core s r k h =
      let one = bind-gives (home_as at which s) (λ v. pure (typed.Names name v)) core r h in
      given-same (λ (v : TypedCore) (q : State). IsUsed (λ U. used_by_core U v) s.table q.table) (typed.Names name one.0) core one.1 r one.3
      (used-still (λ U. []) s.table s.table one.1.table (home-table at one.0 s one.1 which one.2) (used-none s.table))
  core-uses tree.Unnamed which at core s r k h =
      given-same (λ (v : TypedCore) (q : State). IsUsed (λ U. used_by_core U v) s.table q.table) typed.Unnamed core s r h (used-none s.table)
  core-uses (tree.Nested paren d) which at core s r k h =
      let one = bind-gives (judge_form which at d s) (λ form. pure (typed.Nested paren form)) core r h in
      given-same (λ (v : TypedCore) (q : State). IsUsed (λ U. used_by_core U v) s.table q.table) (typed.Nested paren one.0) core one.1 r one.3
      (form-uses d which at one.0 s one.1 k one.2)

  pub parts-use : (all : tree.Parts) (at : Place) (parts : TypedParts) (s r : State) → IsKnown s → judge_parts at all s ≡ Gives parts r
      → IsUsed (λ U. used_by_parts U parts) s.table r.table
  parts-use tree.NoPart at parts s r k h =
      given-same (λ (v : TypedParts) (q : State). IsUsed (λ U. used_by_parts U v) s.table q.table) typed.NoPart parts s r h (used-none s.table)
  parts-use (tree.AndArray all bracket words) at parts s r k h =
      let one = bind-gives (judge_parts at all s) (λ p. pure (typed.AndArray p bracket words)) parts r h in
      given-same (λ (v : TypedParts) (q : State). IsUsed (λ U. used_by_parts U v) s.table q.table) (typed.AndArray one.0 bracket words) parts one.1 r one.3
      (parts-use all at one.0 s one.1 k one.2)
  parts-use (tree.AndSizedArray all bracket words e) at parts s r k h =
      let one = bind-gives (judge_parts at all s) (λ p. λ m. next (next (judge false e m) value) (λ v. sized p bracket words v)) parts r h in
      let known = (parts-judged all at one.0 s one.1 k one.2).goes.known in
      let two = bind-gives (next (judge false e one.1) value) (λ v. sized one.0 bracket words v) parts r one.3 in
      let v = value-uses e two.0 one.1 two.1 known (λ p q t. expr-uses e false p one.1 q known t) two.2 in
      sized-used one.0 parts bracket words two.0 s.table two.1 r
      (then_used (λ U. used_by_parts U one.0) (λ U. used_by U two.0.expr) s.table one.1.table two.1.table (parts-use all at one.0 s one.1 k one.2) v.0) two.3
  parts-use (tree.AndFunction all paren parameters) at parts s r k h =
      let void = is_void_alone parameters in
      let one = bind-gives (judge_parts at all s) (λ p. λ m. next (entered m)
      (λ b. λ i. next (stopped_outside (judge_parameters void parameters i)) (λ list. λ n. next (left at list n) (λ whole. pure (typed.AndFunction p paren whole))))) parts r h in
      let known = (parts-judged all at one.0 s one.1 k one.2).goes.known in
      let two = bind-gives (entered one.1)
      (λ b. λ i. next (stopped_outside (judge_parameters void parameters i)) (λ list. λ n. next (left at list n) (λ whole. pure (typed.AndFunction one.0 paren whole)))) parts r one.3 in
      let inside = entered-judged two.0 one.1 two.1 known two.2 in
      let three = bind-gives (stopped_outside (judge_parameters void parameters two.1)) (λ list. λ n. next (left at list n) (λ whole. pure (typed.AndFunction one.0 paren whole))) parts r two.3 in
      let made = parameters-use parameters void three.0 two.1 three.1 (void_self parameters) inside.1.known (outside-gives (judge_parameters void parameters two.1) three.0 three.1 three.2) in
      let four = bind-gives (left at three.0 three.1) (λ whole. pure (typed.AndFunction one.0 paren whole)) parts r three.3 in
      given-same (λ (v : TypedParts) (q : State). IsUsed (λ U. used_by_parts U v) s.table q.table) (typed.AndFunction one.0 paren four.0) parts four.1 r four.3
      (then_used (λ U. used_by_parts U one.0) (λ U. used_by_parameters U four.0) s.table one.1.table four.1.table (parts-use all at one.0 s one.1 k one.2)
      (scoped at two.0 three.0 four.0 one.1 two.1 three.1 four.1 two.2 four.2 made))

  pub parameters-use : (all : tree.Parameters) (void : Bool) (list : TypedParameters) (s r : State) → IsVoidOf void all → IsKnown s
      → judge_parameters void all s ≡ Gives list r → IsUsed (λ U. used_by_parameters U list) s.table r.table
  parameters-use tree.NoParameter void list s r fits k h =
      given-same (λ (v : TypedParameters) (q : State). IsUsed (λ U. used_by_parameters U v) s.table q.table) typed.NoParameter list s r h (used-none s.table)
  parameters-use (tree.AndParameter all specifiers d) void list s r fits k h =
      let at = declared_place specifiers d in
      let adjusting : TypeShape → Option Place = λ base. adjusted_at (derived_by_declared d) base (typedef_place specifiers) in
      let before = first_alone void all specifiers d fits in
      let one = bind-gives (judge_parameters void all s) (λ a. λ m. next (judge_list specifiers m)
      (λ own. λ n. next (judge_declared naming.Parameter at d n) (λ v. parameter void at adjusting a (specified own) v))) list r h in
      let known = (parameters-judged all void one.0 s one.1 before k one.2).goes.known in
      let two = bind-gives (judge_list specifiers one.1)
      (λ own. λ n. next (judge_declared naming.Parameter at d n) (λ v. parameter void at adjusting one.0 (specified own) v)) list r one.3 in
      let there = (specifiers-judged specifiers two.0 one.1 two.1 known two.2).goes.known in
      let three = bind-gives (judge_declared naming.Parameter at d two.1) (λ v. parameter void at adjusting one.0 (specified two.0) v) list r two.3 in
      parameter-used void at adjusting one.0 list two.0 three.0 s.table three.1 r
      (then_used (λ U. used_by_parameters U one.0 ++ used_by_specifier_list U two.0) (λ U. used_by_declared U three.0) s.table two.1.table three.1.table
      (then_used (λ U. used_by_parameters U one.0) (λ U. used_by_specifier_list U two.0) s.table one.1.table two.1.table (parameters-use all void one.0 s one.1 before k one.2)
      (specifiers-use specifiers two.0 one.1 two.1 known two.2))
      (declared-uses d naming.Parameter at three.0 two.1 three.1 there three.2)) three.3

  pub declared-uses : (d : tree.Declared) (which : Naming) (at : Place) (one : TypedDeclared) (s r : State) → IsKnown s → judge_declared which at d s ≡ Gives one r
      → IsUsed (λ U. used_by_declared U one) s.table r.table
  declared-uses tree.NotDeclared which at one s r k h =
      given-same (λ (v : TypedDeclared) (q : State). IsUsed (λ U. used_by_declared U v) s.table q.table) typed.NotDeclared one s r h (used-none s.table)
  declared-uses (tree.DeclaredBy d) which at one s r k h =
      let two = bind-gives (judge_form which at d s) (λ form. pure (typed.DeclaredBy form)) one r h in
      given-same (λ (v : TypedDeclared) (q : State). IsUsed (λ U. used_by_declared U v) s.table q.table) (typed.DeclaredBy two.0) one two.1 r two.3
      (form-uses d which at two.0 s two.1 k two.2)

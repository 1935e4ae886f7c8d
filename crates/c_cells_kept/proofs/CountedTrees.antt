-- What judging counts is what the assignments of structs move that it gives: by one recursion over the tree.
use Rattle.std.proofs.Common.{◌≡◌, Bool, true, false, List, [], ◌∷◌, ◌++◌, Option, refl, subst}
use Rattle.cc_base.specs.declared.place.Place.{Place}
use Rattle.cc_base.specs.declared.number.TypeId.{TypeId}
use Rattle.cc_base.specs.declared.fault.Fault.TheVariants.{TooLarge}
use Rattle.cc_base.specs.declared.fault.Limit.TheVariants.{Types}
use Rattle.c_types.specs.declared.shape.TypeShape.{TypeShape}
use Rattle.c_types.specs.Table.{IsType}
use Rattle.c_tree.specs.declared.operator.Assignment.TheVariants as assignment
use Rattle.c_tree.specs.declared.operator.MemberOperator.TheVariants as member
use Rattle.c_tree.specs.Places.{nowhere}
use Rattle.c_tree.specs.Tree as tree
use Rattle.c_tree.specs.TypedTree as typed
use Rattle.c_tree.specs.TypedTree.{TypedTypeName, TypedSpecifierList, TypedSpecifier, TypedMembers, TypedMemberDeclarators, TypedEnumerators, TypedForm, TypedCore, TypedParts, TypedParameters, TypedDeclared}
use Rattle.c_tree.specs.TypedParts.{made_by, made_by_type_name, made_by_specifier_list, made_by_specifier, made_by_members, made_by_member_declarators, made_by_enumerators, made_by_stars, made_by_form, made_by_core, made_by_parts, made_by_parameters, made_by_adjusted, made_by_declared}
use Rattle.c_typing.specs.declared.naming.Naming.{Naming}
use Rattle.c_typing.specs.declared.naming.Naming.TheVariants as naming
use Rattle.c_typing.specs.Adjusting.{derived_by_declared, typedef_place, adjusted_at}
use Rattle.c_typing.specs.Assignments
use Rattle.c_typing.specs.Declarators.{Counted, counted, declarator_names, member_names}
use Rattle.c_typing.specs.Declarators
use Rattle.c_typing.specs.Declaring.{declarator_name, home_as, stars_with_nodes, sized, declared_makes, member_named, parameter, entered, left, stopped_outside}
use Rattle.c_typing.specs.Judging.{State, Gives, next, pure}
use Rattle.c_typing.specs.Operands.{Operand, Value, value}
use Rattle.c_typing.specs.Operations
use Rattle.c_typing.specs.Operations.{prefix}
use Rattle.c_typing.specs.Refusals.{name_place, is_void_alone}
use Rattle.c_typing.specs.Scopes.{Scopes}
use Rattle.c_typing.specs.Scopes
use Rattle.c_typing.specs.Settled.{IsKnown}
use Rattle.c_typing.specs.Specifying.{specified, begun, ended, enumerator, valued_enumerator, enumeration_begun, enumeration}
use Rattle.c_typing.specs.Walks.{listed, declared_place, judge, judge_arguments, judge_type_name, judge_list, judge_specifier, judge_members, judge_member_declarators, judge_enumerators, judge_form, judge_core, judge_parts, judge_parameters, judge_declared}
use Rattle.c_typing_laws.proofs.JudgedDeclarators.{IsVoidOf, first_alone, stars-judged, entered-judged}
use Rattle.c_typing_laws.proofs.JudgedLists.{list-typed}
use Rattle.c_typing_laws.proofs.JudgedSpecifiers.{begun-judged, enumeration_begun-judged}
use Rattle.c_typing_laws.proofs.JudgedTrees.{value-here, expr-judged, arguments-judged, type_name-judged, specifiers-judged, members-judged, row-judged, enumerators-judged, core-judged, parts-judged, parameters-judged, begun_goes, void_self}
use Rattle.c_cells_kept.proofs.StepsKept.{declared-keeps, entered-keeps, left-keeps, begun-keeps, ended-keeps, word-keeps, typedef_name-keeps, tagged-keeps, enum-keeps, begun_enumeration-keeps}
use Rattle.c_typing_laws.proofs.NumberedConstructs.{made_by_values, values_last}
use Rattle.c_typing_laws.proofs.NumberedTrees.{operand-whole, left_same}
use Rattle.c_cells_kept.specs.Counted.{Moves}
use Rattle.c_cells_kept.proofs.CellsMoved.{stays-refl, two-made, made-as, made-to, made-from, made-none, moves-none}
use Rattle.c_cells_kept.proofs.CountedValues.{IsCounted, value-moves, integer-moves, character-moves, literal-moves, name-moves}
use Rattle.c_cells_kept.proofs.CountedOperators.{paren-moves, after-moves, index-moves, infix-moves, member-moves, pointed-moves}
use Rattle.c_cells_kept.proofs.CountedAssignments.{assign-moves, choice-moves, comma-moves, cast-moves, size_of_type-moves, call-moves}
use Rattle.c_typing_laws.proofs.Outcomes.{bind-gives, never-gives, outside-gives}
use Rattle.c_typing_laws.proofs.ValuesTaken.{given-same}
use Rattle.c_cells_kept.proofs.CountedSteps.{ended-made, enum-made, enumeration-made, enumerator-made, home-made, makes-with, member-made, parameter-made, sized-made, stars-made, tagged-made, typedef-made, valued-made, void_unnamed, word-made}
use Rattle.c_cells_kept.proofs.CountedOperands.{operand-place, prefix-makes, update-makes, value-makes}

mutual
  unfolding judge judge_arguments judge_type_name judge_list judge_specifier judge_members judge_member_declarators judge_enumerators judge_form judge_core judge_parts judge_parameters judge_declared

  pub expr-makes : (e : tree.Expr) (called : Bool) (o : Operand) (s r : State) → IsKnown s → judge called e s ≡ Gives o r → IsCounted s o.part r
  expr-makes (tree.Name word) called o s r k h = name-moves called word o s r h
  expr-makes (tree.Integer of n at) called o s r k h = integer-moves of n at o s r h
  expr-makes (tree.Character n at) called o s r k h = character-moves n at o s r h
  expr-makes (tree.String pieces) called o s r k h = literal-moves pieces o s r h
  expr-makes (tree.Paren at e) called o s r k h =
      let one = bind-gives (judge called e s) (Operations.paren at) o r h in
      paren-moves at one.0 o s one.1 r (expr-makes e called one.0 s one.1 k one.2) one.3
  expr-makes (tree.Index a at b) called o s r k h =
      let one = bind-gives (next (judge false a s) value) (λ x. λ m. next (next (judge false b m) value) (λ y. Operations.index x at y)) o r h in
      let x = value-makes a one.0 s one.1 k (λ p q t. expr-makes a false p s q k t) one.2 in
      let two = bind-gives (next (judge false b one.1) value) (λ y. Operations.index one.0 at y) o r one.3 in
      let y = value-makes b two.0 one.1 two.1 x.1 (λ p q t. expr-makes b false p one.1 q x.1 t) two.2 in
      index-moves one.0 at two.0 o s two.1 r (two-made (made_by one.0.expr) (made_by two.0.expr) s one.1 two.1 x.0 y.0) two.3
  expr-makes (tree.Call f at all) called o s r k h =
      let one = bind-gives (judge true f s) (λ x. λ m. next (value x m) (λ g. λ n. next (judge_arguments all n) (λ values. Assignments.call g at values))) o r h in
      let x = operand-whole true f one.0 s one.1 k one.2 in
      let two = bind-gives (value one.0 one.1) (λ g. λ n. next (judge_arguments all n) (λ values. Assignments.call g at values)) o r one.3 in
      let g = value-moves one.0 two.0 s one.1 two.1 x.0 (expr-makes f true one.0 s one.1 k one.2) two.2 in
      let known = (value-here true f one.0 two.0 s one.1 two.1 (expr-judged f true one.0 s one.1 k one.2) two.2).value.goes.known in
      let three = bind-gives (judge_arguments all two.1) (λ values. Assignments.call two.0 at values) o r two.3 in
      let args = arguments-make all three.0 two.1 three.1 known three.2 in
      call-moves two.0 at three.0 o s two.1 three.1 r g args three.3
  expr-makes (tree.Member e member.Dot at name) called o s r k h =
      let one = bind-gives (judge false e s) (λ x. Operations.member x at name) o r h in
      member-moves one.0 at name o s one.1 r (expr-makes e false one.0 s one.1 k one.2) one.3
  expr-makes (tree.Member e member.Arrow at name) called o s r k h =
      let one = bind-gives (next (judge false e s) value) (λ x. Operations.pointed_member x at name) o r h in
      let x = value-makes e one.0 s one.1 k (λ p q t. expr-makes e false p s q k t) one.2 in
      pointed-moves one.0 at name o s one.1 r x.0 one.3
  expr-makes (tree.Postfix e operator at) called o s r k h =
      let one = bind-gives (judge false e s) (Operations.step_after operator at) o r h in
      after-moves operator at one.0 o s one.1 r (expr-makes e false one.0 s one.1 k one.2) one.3
  expr-makes (tree.Prefix operator at e) called o s r k h =
      let one = bind-gives (judge false e s) (prefix operator at) o r h in
      let x = operand-whole false e one.0 s one.1 k one.2 in
      prefix-makes operator at one.0 o s one.1 r x.0 (expr-makes e false one.0 s one.1 k one.2) one.3
  expr-makes (tree.SizeOfType at paren name) called o s r k h =
      let one = bind-gives (judge_type_name name s) (Assignments.size_of_type at paren) o r h in
      size_of_type-moves at paren one.0 o s one.1 r (type_name-makes name one.0 s one.1 k one.2) one.3
  expr-makes (tree.Cast at name e) called o s r k h =
      let one = bind-gives (judge_type_name name s) (λ to. λ m. next (judge false e m) (λ x. Assignments.cast at to x)) o r h in
      let known = (type_name-judged name one.0 s one.1 k one.2).goes.known in
      let two = bind-gives (judge false e one.1) (λ x. Assignments.cast at one.0 x) o r one.3 in
      let x = operand-whole false e two.0 one.1 two.1 known two.2 in
      cast-moves at one.0 two.0 o s one.1 two.1 r x.0 (type_name-makes name one.0 s one.1 k one.2) (expr-makes e false two.0 one.1 two.1 known two.2) two.3
  expr-makes (tree.Infix operator a at b) called o s r k h =
      let one = bind-gives (next (judge false a s) value) (λ x. λ m. next (next (judge false b m) value) (λ y. Operations.infix_of operator x at y)) o r h in
      let x = value-makes a one.0 s one.1 k (λ p q t. expr-makes a false p s q k t) one.2 in
      let two = bind-gives (next (judge false b one.1) value) (λ y. Operations.infix_of operator one.0 at y) o r one.3 in
      let y = value-makes b two.0 one.1 two.1 x.1 (λ p q t. expr-makes b false p one.1 q x.1 t) two.2 in
      infix-moves operator one.0 at two.0 o s two.1 r (two-made (made_by one.0.expr) (made_by two.0.expr) s one.1 two.1 x.0 y.0) two.3
  expr-makes (tree.Conditional c at a b) called o s r k h =
      let one = bind-gives (next (judge false c s) value)
      (λ z. λ m. next (next (judge false a m) value) (λ x. λ n. next (next (judge false b n) value) (λ y. Assignments.choice z at x y))) o r h in
      let z = value-makes c one.0 s one.1 k (λ p q t. expr-makes c false p s q k t) one.2 in
      let two = bind-gives (next (judge false a one.1) value) (λ x. λ n. next (next (judge false b n) value) (λ y. Assignments.choice one.0 at x y)) o r one.3 in
      let x = value-makes a two.0 one.1 two.1 z.1 (λ p q t. expr-makes a false p one.1 q z.1 t) two.2 in
      let three = bind-gives (next (judge false b two.1) value) (λ y. Assignments.choice one.0 at two.0 y) o r two.3 in
      let y = value-makes b three.0 two.1 three.1 x.1 (λ p q t. expr-makes b false p two.1 q x.1 t) three.2 in
      choice-moves one.0 at two.0 three.0 o s three.1 r
      (two-made (made_by one.0.expr ++ made_by two.0.expr) (made_by three.0.expr) s two.1 three.1
      (two-made (made_by one.0.expr) (made_by two.0.expr) s one.1 two.1 z.0 x.0) y.0) three.3
  expr-makes (tree.Assign assignment.Assign a at b) called o s r k h =
      let one = bind-gives (judge false a s) (λ x. λ m. next (judge false b m) (λ y. Assignments.assign x at y)) o r h in
      let x = operand-whole false a one.0 s one.1 k one.2 in
      let two = bind-gives (judge false b one.1) (λ y. Assignments.assign one.0 at y) o r one.3 in
      let y = operand-whole false b two.0 one.1 two.1 x.1 two.2 in
      assign-moves one.0 at two.0 o s one.1 two.1 r y.0 (operand-place a one.0 s one.1 k one.2) (expr-makes a false one.0 s one.1 k one.2) (expr-makes b false two.0 one.1 two.1 x.1 two.2) two.3
  expr-makes (tree.Assign operator a at b) called o s r k h =
      update-makes operator a at b o s r k (λ p q t. expr-makes a false p s q k t) (λ m known p q t. expr-makes b false p m q known t) h
  expr-makes (tree.Comma a b) called o s r k h =
      let one = bind-gives (next (judge false a s) value) (λ x. λ m. next (next (judge false b m) value) (λ y. Assignments.comma x y)) o r h in
      let x = value-makes a one.0 s one.1 k (λ p q t. expr-makes a false p s q k t) one.2 in
      let two = bind-gives (next (judge false b one.1) value) (λ y. Assignments.comma one.0 y) o r one.3 in
      let y = value-makes b two.0 one.1 two.1 x.1 (λ p q t. expr-makes b false p one.1 q x.1 t) two.2 in
      comma-moves one.0 two.0 o s two.1 r (two-made (made_by one.0.expr) (made_by two.0.expr) s one.1 two.1 x.0 y.0) two.3
  expr-makes (tree.Compound at name brace) called o s r k h = never-gives o (TooLarge nowhere Types) s r h
  expr-makes (tree.SizeOfCompound at paren name brace) called o s r k h = never-gives o (TooLarge nowhere Types) s r h

  pub arguments-make : (all : tree.Arguments) (values : List Value) (s r : State) → IsKnown s → judge_arguments all s ≡ Gives values r → Moves (made_by_values values) s r
  arguments-make tree.NoArgument values s r k h = given-same (λ (v : List Value) (q : State). Moves (made_by_values v) s q) [] values s r h (moves-none s)
  arguments-make (tree.AndArgument all e) values s r k h =
      let one = bind-gives (judge_arguments all s) (λ before. λ m. next (next (judge false e m) value) (λ v. pure (before ++ v ∷ []))) values r h in
      let before = arguments-make all one.0 s one.1 k one.2 in
      let known = (arguments-judged all one.0 s one.1 k one.2).1.known in
      let two = bind-gives (next (judge false e one.1) value) (λ v. pure (one.0 ++ v ∷ [])) values r one.3 in
      let v = value-makes e two.0 one.1 two.1 known (λ p q t. expr-makes e false p one.1 q known t) two.2 in
      given-same (λ (w : List Value) (q : State). Moves (made_by_values w) s q) (one.0 ++ two.0 ∷ []) values two.1 r two.3
      (made-as (made_by_values (one.0 ++ two.0 ∷ [])) (made_by_values one.0 ++ made_by two.0.expr) s two.1 (values_last one.0 two.0)
      (two-made (made_by_values one.0) (made_by two.0.expr) s one.1 two.1 before v.0))

  pub type_name-makes : (name : tree.TypeName) (made : TypedTypeName) (s r : State) → IsKnown s → judge_type_name name s ≡ Gives made r → Moves (made_by_type_name made) s r
  type_name-makes (tree.Named specifiers d) made s r k h =
      let at = declared_place specifiers d in
      let one = bind-gives (judge_list specifiers s) (λ list. λ m. next (judge_declared naming.None at d m)
      (λ v. λ n. next (declared_makes at Declarators.Written v (listed list) n) (λ t. pure (typed.Named (specified list) v t)))) made r h in
      let known = (specifiers-judged specifiers one.0 s one.1 k one.2).goes.known in
      let two = bind-gives (judge_declared naming.None at d one.1)
      (λ v. λ n. next (declared_makes at Declarators.Written v (listed one.0) n) (λ t. pure (typed.Named (specified one.0) v t))) made r one.3 in
      let three = bind-gives (declared_makes at Declarators.Written two.0 (listed one.0) two.1) (λ t. pure (typed.Named (specified one.0) two.0 t)) made r two.3 in
      let stays = declared-keeps at Declarators.Written two.0 (listed one.0) two.1 two.1 (stays-refl two.1) three.0 three.1 three.2 in
      given-same (λ (v : TypedTypeName) (q : State). Moves (made_by_type_name v) s q) (typed.Named (specified one.0) two.0 three.0) made three.1 r three.3
      (two-made (made_by_specifier_list one.0) (made_by_declared two.0 three.0) s one.1 three.1 (specifiers-make specifiers one.0 s one.1 k one.2)
      (made-to (made_by_declared two.0 three.0) one.1 two.1 three.1 stays (declared-make d naming.None at two.0 three.0 one.1 two.1 known two.2)))

  pub specifiers-make : (all : tree.Specifiers) (list : TypedSpecifierList) (s r : State) → IsKnown s → judge_list all s ≡ Gives list r → Moves (made_by_specifier_list list) s r
  specifiers-make tree.NoSpecifier list s r k h = given-same (λ (v : TypedSpecifierList) (q : State). Moves (made_by_specifier_list v) s q) typed.NoSpecifier list s r h (moves-none s)
  specifiers-make (tree.AndSpecifier all specifier) list s r k h =
      let one = bind-gives (judge_list all s) (λ l. λ m. next (judge_specifier (counted l) specifier m) (λ v. pure (typed.AndSpecifier l v))) list r h in
      let known = (specifiers-judged all one.0 s one.1 k one.2).goes.known in
      let two = bind-gives (judge_specifier (counted one.0) specifier one.1) (λ v. pure (typed.AndSpecifier one.0 v)) list r one.3 in
      given-same (λ (v : TypedSpecifierList) (q : State). Moves (made_by_specifier_list v) s q) (typed.AndSpecifier one.0 two.0) list two.1 r two.3
      (two-made (made_by_specifier_list one.0) (made_by_specifier two.0) s one.1 two.1 (specifiers-make all one.0 s one.1 k one.2)
      (specifier-makes specifier (counted one.0) two.0 one.1 two.1 known two.2))

  pub specifier-makes : (specifier : tree.Specifier) (counts : Counted) (one : TypedSpecifier) (s r : State) → IsKnown s → judge_specifier counts specifier s ≡ Gives one r
      → Moves (made_by_specifier one) s r
  specifier-makes (tree.Keyword word) counts one s r k h =
      made-as (made_by_specifier one) [] s r (word-made counts word one s r h) (made-none [] s r (λ U. refl) (word-keeps counts word s s (stays-refl s) one r h))
  specifier-makes (tree.Typedef name) counts one s r k h =
      made-as (made_by_specifier one) [] s r (typedef-made counts name one s r h) (made-none [] s r (λ U. refl) (typedef_name-keeps counts name s s (stays-refl s) one r h))
  specifier-makes (tree.Tagged which at name) counts one s r k h =
      made-as (made_by_specifier one) [] s r (tagged-made counts which at name one s r h) (made-none [] s r (λ U. refl) (tagged-keeps counts which at name s s (stays-refl s) one r h))
  specifier-makes (tree.Aggregate which at name brace members) counts one s r k h =
      let start = bind-gives (begun which at name s) (λ t. λ m. next (judge_members members m) (λ rows. ended counts which at name brace t rows)) one r h in
      let b = begun-judged which at name start.0 s start.1 k start.2 in
      let kept = begun-keeps which at name s s (stays-refl s) start.0 start.1 start.2 in
      let rows = bind-gives (judge_members members start.1) (λ v. ended counts which at name brace start.0 v) one r start.3 in
      let made = members-make members rows.0 start.1 rows.1 (begun_goes which name start.0 s start.1 b).known rows.2 in
      let stays = ended-keeps counts which at name brace start.0 rows.0 rows.1 rows.1 (stays-refl rows.1) one r rows.3 in
      made-as (made_by_specifier one) (made_by_members rows.0) s r (ended-made counts which at name brace start.0 rows.0 one rows.1 r rows.3)
      (made-to (made_by_members rows.0) s rows.1 r stays (made-from (made_by_members rows.0) s start.1 rows.1 kept made))
  specifier-makes (tree.Enum at name) counts one s r k h =
      made-as (made_by_specifier one) [] s r (enum-made counts at name one s r h) (made-none [] s r (λ U. refl) (enum-keeps counts at name s s (stays-refl s) one r h))
  specifier-makes (tree.Enumeration at name brace all comma) counts one s r k h =
      let start = bind-gives (enumeration_begun name s) (λ f. λ m. next (judge_enumerators all m) (λ list. enumeration counts at name brace list comma)) one r h in
      let b = enumeration_begun-judged name start.0 s start.1 k start.2 in
      let kept = begun_enumeration-keeps name s s (stays-refl s) start.0 start.1 start.2 in
      let two = bind-gives (judge_enumerators all start.1) (λ list. enumeration counts at name brace list comma) one r start.3 in
      let made = enumerators-make all two.0 start.1 two.1 b.1.known two.2 in
      makes-with made_by_specifier (made_by_enumerators two.0) one s two.1 r (enumeration-made counts at name brace two.0 comma one two.1 r two.3)
      (made-from (made_by_enumerators two.0) s start.1 two.1 kept made)

  pub members-make : (all : tree.Members) (rows : TypedMembers) (s r : State) → IsKnown s → judge_members all s ≡ Gives rows r → Moves (made_by_members rows) s r
  members-make tree.NoMember rows s r k h = given-same (λ (v : TypedMembers) (q : State). Moves (made_by_members v) s q) typed.NoMember rows s r h (moves-none s)
  members-make (tree.AndMember all specifiers declarators) rows s r k h =
      let one = bind-gives (judge_members all s) (λ a. λ m. next (judge_list specifiers m)
      (λ l. λ n. next (judge_member_declarators (listed l) (member_names a) declarators n) (λ row. pure (typed.AndMember a (specified l) row)))) rows r h in
      let known = (members-judged all one.0 s one.1 k one.2).goes.known in
      let two = bind-gives (judge_list specifiers one.1)
      (λ l. λ n. next (judge_member_declarators (listed l) (member_names one.0) declarators n) (λ row. pure (typed.AndMember one.0 (specified l) row))) rows r one.3 in
      let l = specifiers-judged specifiers two.0 one.1 two.1 known two.2 in
      let named = list-typed specifiers two.0 one.1 two.1 l in
      let three = bind-gives (judge_member_declarators (listed two.0) (member_names one.0) declarators two.1) (λ row. pure (typed.AndMember one.0 (specified two.0) row)) rows r two.3 in
      given-same (λ (v : TypedMembers) (q : State). Moves (made_by_members v) s q) (typed.AndMember one.0 (specified two.0) three.0) rows three.1 r three.3
      (two-made (made_by_members one.0 ++ made_by_specifier_list two.0) (made_by_member_declarators three.0) s two.1 three.1
      (two-made (made_by_members one.0) (made_by_specifier_list two.0) s one.1 two.1 (members-make all one.0 s one.1 k one.2) (specifiers-make specifiers two.0 one.1 two.1 known two.2))
      (row-makes declarators (listed two.0) (member_names one.0) three.0 two.1 three.1 l.goes.known named.1 three.2))

  pub row-makes : (all : tree.MemberDeclarators) (base : TypeId) (names : List Scopes.Name) (row : TypedMemberDeclarators) (s r : State) → IsKnown s → IsType s.table base
      → judge_member_declarators base names all s ≡ Gives row r → Moves (made_by_member_declarators row) s r
  row-makes tree.NoDeclarator base names row s r k b h =
      given-same (λ (v : TypedMemberDeclarators) (q : State). Moves (made_by_member_declarators v) s q) typed.NoDeclarator row s r h (moves-none s)
  row-makes (tree.AndDeclarator all d) base names row s r k b h =
      let at = name_place (declarator_name d) nowhere in
      let one = bind-gives (judge_member_declarators base names all s)
      (λ v. λ m. next (judge_form naming.None at d m) (λ form. member_named (names ++ declarator_names v) v form base (declarator_name d))) row r h in
      let known = (row-judged all base names one.0 s one.1 k b one.2).goes.known in
      let two = bind-gives (judge_form naming.None at d one.1) (λ form. member_named (names ++ declarator_names one.0) one.0 form base (declarator_name d)) row r one.3 in
      let made = member-made (names ++ declarator_names one.0) one.0 row two.0 base (declarator_name d) two.1 r two.3 in
      made-as (made_by_member_declarators row) (made_by_member_declarators one.0 ++ made_by_form two.0 made.type) s r made.whole
      (made-to (made_by_member_declarators one.0 ++ made_by_form two.0 made.type) s two.1 r made.node
      (two-made (made_by_member_declarators one.0) (made_by_form two.0 made.type) s one.1 two.1 (row-makes all base names one.0 s one.1 k b one.2)
      (form-makes d naming.None at two.0 made.type one.1 two.1 known two.2)))
  row-makes (tree.AndBitField all d) base names row s r k b h = never-gives row (TooLarge nowhere Types) s r h
  row-makes (tree.AndUnnamedBitField all) base names row s r k b h = never-gives row (TooLarge nowhere Types) s r h

  pub enumerators-make : (all : tree.Enumerators) (list : TypedEnumerators) (s r : State) → IsKnown s → judge_enumerators all s ≡ Gives list r → Moves (made_by_enumerators list) s r
  enumerators-make tree.NoEnumerator list s r k h = given-same (λ (v : TypedEnumerators) (q : State). Moves (made_by_enumerators v) s q) typed.NoEnumerator list s r h (moves-none s)
  enumerators-make (tree.AndEnumerator all name) list s r k h =
      let one = bind-gives (judge_enumerators all s) (λ l. enumerator l name) list r h in
      makes-with made_by_enumerators (made_by_enumerators one.0) list s one.1 r (enumerator-made one.0 list name one.1 r one.3) (enumerators-make all one.0 s one.1 k one.2)
  enumerators-make (tree.AndValued all name at e) list s r k h =
      let one = bind-gives (judge_enumerators all s) (λ l. λ m. next (next (judge false e m) value) (λ v. valued_enumerator l name at v)) list r h in
      let known = (enumerators-judged all one.0 s one.1 k one.2).goes.known in
      let two = bind-gives (next (judge false e one.1) value) (λ v. valued_enumerator one.0 name at v) list r one.3 in
      let v = value-makes e two.0 one.1 two.1 known (λ p q t. expr-makes e false p one.1 q known t) two.2 in
      makes-with made_by_enumerators (made_by_enumerators one.0 ++ made_by two.0.expr) list s two.1 r (valued-made one.0 list name at two.0 two.1 r two.3)
      (two-made (made_by_enumerators one.0) (made_by two.0.expr) s one.1 two.1 (enumerators-make all one.0 s one.1 k one.2) v.0)

  -- whatever the type of the name is
  pub form-makes : (d : tree.Declarator) (which : Naming) (at : Place) (form : TypedForm) (t : TypeId) (s r : State) → IsKnown s → judge_form which at d s ≡ Gives form r
      → Moves (made_by_form form t) s r
  form-makes (tree.Declares stars core parts) which at form t s r k h =
      let one = bind-gives (stars_with_nodes at stars s) (λ l. λ m. next (judge_core which at core m) (λ c. λ n. next (judge_parts at parts n) (λ a. pure (typed.Form l c a)))) form r h in
      let first = stars-judged at stars one.0 s one.1 k one.2 in
      let two = bind-gives (judge_core which at core one.1) (λ c. λ n. next (judge_parts at parts n) (λ a. pure (typed.Form one.0 c a))) form r one.3 in
      let known = (core-judged core which at two.0 one.1 two.1 first.1.goes.known two.2).goes.known in
      let three = bind-gives (judge_parts at parts two.1) (λ a. pure (typed.Form one.0 two.0 a)) form r two.3 in
      given-same (λ (v : TypedForm) (q : State). Moves (made_by_form v t) s q) (typed.Form one.0 two.0 three.0) form three.1 r three.3
      (two-made (made_by_stars one.0 ++ made_by_core two.0 t) (made_by_parts three.0) s two.1 three.1
      (two-made (made_by_stars one.0) (made_by_core two.0 t) s one.1 two.1 (stars-made at stars one.0 s one.1 one.2)
      (core-makes core which at two.0 t one.1 two.1 first.1.goes.known two.2))
      (parts-make parts at three.0 two.1 three.1 known three.2))

  pub core-makes : (d : tree.Core) (which : Naming) (at : Place) (core : TypedCore) (t : TypeId) (s r : State) → IsKnown s → judge_core which at d s ≡ Gives core r
      → Moves (made_by_core core t) s r
  core-makes (tree.Names name) which at core t s r k h =
      let one = bind-gives (home_as at which s) (λ v. pure (typed.Names name v)) core r h in
      given-same (λ (v : TypedCore) (q : State). Moves (made_by_core v t) s q) (typed.Names name one.0) core one.1 r one.3 (home-made at name t one.0 s one.1 which one.2)
  core-makes tree.Unnamed which at core t s r k h = given-same (λ (v : TypedCore) (q : State). Moves (made_by_core v t) s q) typed.Unnamed core s r h (moves-none s)
  core-makes (tree.Nested paren d) which at core t s r k h =
      let one = bind-gives (judge_form which at d s) (λ form. pure (typed.Nested paren form)) core r h in
      given-same (λ (v : TypedCore) (q : State). Moves (made_by_core v t) s q) (typed.Nested paren one.0) core one.1 r one.3 (form-makes d which at one.0 t s one.1 k one.2)

  pub parts-make : (all : tree.Parts) (at : Place) (parts : TypedParts) (s r : State) → IsKnown s → judge_parts at all s ≡ Gives parts r → Moves (made_by_parts parts) s r
  parts-make tree.NoPart at parts s r k h = given-same (λ (v : TypedParts) (q : State). Moves (made_by_parts v) s q) typed.NoPart parts s r h (moves-none s)
  parts-make (tree.AndArray all bracket words) at parts s r k h =
      let one = bind-gives (judge_parts at all s) (λ p. pure (typed.AndArray p bracket words)) parts r h in
      given-same (λ (v : TypedParts) (q : State). Moves (made_by_parts v) s q) (typed.AndArray one.0 bracket words) parts one.1 r one.3 (parts-make all at one.0 s one.1 k one.2)
  parts-make (tree.AndSizedArray all bracket words e) at parts s r k h =
      let one = bind-gives (judge_parts at all s) (λ p. λ m. next (next (judge false e m) value) (λ v. sized p bracket words v)) parts r h in
      let known = (parts-judged all at one.0 s one.1 k one.2).goes.known in
      let two = bind-gives (next (judge false e one.1) value) (λ v. sized one.0 bracket words v) parts r one.3 in
      let v = value-makes e two.0 one.1 two.1 known (λ p q t. expr-makes e false p one.1 q known t) two.2 in
      makes-with made_by_parts (made_by_parts one.0 ++ made_by two.0.expr) parts s two.1 r (sized-made one.0 parts bracket words two.0 two.1 r two.3)
      (two-made (made_by_parts one.0) (made_by two.0.expr) s one.1 two.1 (parts-make all at one.0 s one.1 k one.2) v.0)
  parts-make (tree.AndFunction all paren parameters) at parts s r k h =
      let void = is_void_alone parameters in
      let one = bind-gives (judge_parts at all s) (λ p. λ m. next (entered m)
      (λ b. λ i. next (stopped_outside (judge_parameters void parameters i)) (λ list. λ n. next (left at list n) (λ whole. pure (typed.AndFunction p paren whole))))) parts r h in
      let known = (parts-judged all at one.0 s one.1 k one.2).goes.known in
      let two = bind-gives (entered one.1)
      (λ b. λ i. next (stopped_outside (judge_parameters void parameters i)) (λ list. λ n. next (left at list n) (λ whole. pure (typed.AndFunction one.0 paren whole)))) parts r one.3 in
      let inside = entered-judged two.0 one.1 two.1 known two.2 in
      let kept = entered-keeps one.1 one.1 (stays-refl one.1) two.0 two.1 two.2 in
      let three = bind-gives (stopped_outside (judge_parameters void parameters two.1)) (λ list. λ n. next (left at list n) (λ whole. pure (typed.AndFunction one.0 paren whole))) parts r two.3 in
      let made = parameters-make parameters void three.0 two.1 three.1 (void_self parameters) inside.1.known (outside-gives (judge_parameters void parameters two.1) three.0 three.1 three.2) in
      let four = bind-gives (left at three.0 three.1) (λ whole. pure (typed.AndFunction one.0 paren whole)) parts r three.3 in
      let out = left-keeps at three.0 three.1 three.1 (stays-refl three.1) four.0 four.1 four.2 in
      let same = left_same at three.0 four.0 three.1 four.1 four.2 in
      given-same (λ (v : TypedParts) (q : State). Moves (made_by_parts v) s q) (typed.AndFunction one.0 paren four.0) parts four.1 r four.3
      (two-made (made_by_parts one.0) (made_by_parameters four.0) s one.1 four.1 (parts-make all at one.0 s one.1 k one.2)
      (made-to (made_by_parameters four.0) one.1 three.1 four.1 out (subst (λ (v : TypedParameters). Moves (made_by_parameters v) one.1 three.1) same
      (made-from (made_by_parameters three.0) one.1 two.1 three.1 kept made))))

  pub parameters-make : (all : tree.Parameters) (void : Bool) (list : TypedParameters) (s r : State) → IsVoidOf void all → IsKnown s
      → judge_parameters void all s ≡ Gives list r → Moves (made_by_parameters list) s r
  parameters-make tree.NoParameter void list s r fits k h = given-same (λ (v : TypedParameters) (q : State). Moves (made_by_parameters v) s q) typed.NoParameter list s r h (moves-none s)
  parameters-make (tree.AndParameter all specifiers d) void list s r fits k h =
      let at = declared_place specifiers d in
      let adjusting : TypeShape → Option Place = λ base. adjusted_at (derived_by_declared d) base (typedef_place specifiers) in
      let before = first_alone void all specifiers d fits in
      let one = bind-gives (judge_parameters void all s) (λ a. λ m. next (judge_list specifiers m)
      (λ own. λ n. next (judge_declared naming.Parameter at d n) (λ v. parameter void at adjusting a (specified own) v))) list r h in
      let known = (parameters-judged all void one.0 s one.1 before k one.2).goes.known in
      let two = bind-gives (judge_list specifiers one.1)
      (λ own. λ n. next (judge_declared naming.Parameter at d n) (λ v. parameter void at adjusting one.0 (specified own) v)) list r one.3 in
      let there = (specifiers-judged specifiers two.0 one.1 two.1 known two.2).goes.known in
      let three = bind-gives (judge_declared naming.Parameter at d two.1) (λ v. parameter void at adjusting one.0 (specified two.0) v) list r two.3 in
      let made = parameter-made void at adjusting one.0 list two.0 three.0 three.1 r
      (λ v. void_unnamed all specifiers d naming.Parameter at three.0 two.1 three.1 (fits v) three.2) three.3 in
      let first = made_by_parameters one.0 ++ made_by_specifier_list two.0 in
      made-as (made_by_parameters list) (((made_by_parameters one.0 ++ made_by_specifier_list two.0) ++ made_by_declared three.0 made.type) ++ made_by_adjusted made.adjusted)
      s r made.whole
      (two-made ((made_by_parameters one.0 ++ made_by_specifier_list two.0) ++ made_by_declared three.0 made.type) (made_by_adjusted made.adjusted) s three.1 r
      (two-made (made_by_parameters one.0 ++ made_by_specifier_list two.0) (made_by_declared three.0 made.type) s two.1 three.1
      (two-made (made_by_parameters one.0) (made_by_specifier_list two.0) s one.1 two.1 (parameters-make all void one.0 s one.1 before k one.2)
      (specifiers-make specifiers two.0 one.1 two.1 known two.2))
      (declared-make d naming.Parameter at three.0 made.type two.1 three.1 there three.2)) made.node)

  pub declared-make : (d : tree.Declared) (which : Naming) (at : Place) (one : TypedDeclared) (t : TypeId) (s r : State) → IsKnown s → judge_declared which at d s ≡ Gives one r
      → Moves (made_by_declared one t) s r
  declared-make tree.NotDeclared which at one t s r k h = given-same (λ (v : TypedDeclared) (q : State). Moves (made_by_declared v t) s q) typed.NotDeclared one s r h (moves-none s)
  declared-make (tree.DeclaredBy d) which at one t s r k h =
      let two = bind-gives (judge_form which at d s) (λ form. pure (typed.DeclaredBy form)) one r h in
      given-same (λ (v : TypedDeclared) (q : State). Moves (made_by_declared v t) s q) (typed.DeclaredBy two.0) one two.1 r two.3 (form-makes d which at two.0 t s two.1 k two.2)

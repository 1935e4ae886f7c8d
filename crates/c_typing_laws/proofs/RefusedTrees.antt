-- What judging refuses: the first rule that is broken, by one recursion over the tree, in the order in which its parts are judged.
use Rattle.std.proofs.Common.{◌≡◌, Bool, true, false, List, [], ◌∷◌, ◌++◌, Option, refl, ap, sym, subst, ◌∙◌, inl, inr, ◌⊎◌}
use Rattle.cc_base.specs.declared.place.Place.{Place}
use Rattle.cc_base.specs.declared.number.TypeId.{TypeId}
use Rattle.cc_base.specs.declared.fault.Fault.TheVariants.{Refused}
use Rattle.cc_base.specs.declared.fault.Limit.TheVariants.{Types}
use Rattle.cc_base.specs.declared.fault.Rule.{Rule}
use Rattle.c_types.specs.declared.shape.TypeShape.{TypeShape}
use Rattle.c_types.specs.Table.{Table, IsType}
use Rattle.c_tree.specs.declared.leaf.Identifier.{Identifier}
use Rattle.c_tree.specs.declared.operator.Assignment.TheVariants as assignment
use Rattle.c_tree.specs.declared.operator.MemberOperator.TheVariants as member
use Rattle.c_tree.specs.Places.{nowhere, expr_place, specifiers_place}
use Rattle.c_tree.specs.Tree as tree
use Rattle.c_tree.specs.TypedTree as typed
use Rattle.c_tree.specs.TypedTree.{TypedExpr, TypedTypeName, TypedSpecifierList, TypedSpecifier, TypedMembers, TypedMemberDeclarators, TypedEnumerators, TypedForm, TypedCore, TypedParts, TypedParameters, TypedDeclared}
use Rattle.c_tree.specs.TypedParts.{named_type}
use Rattle.c_typing.specs.declared.naming.Naming.{Naming}
use Rattle.c_typing.specs.declared.naming.Naming.TheVariants as naming
use Rattle.c_typing.specs.Adjusting.{derived_by_declared, typedef_place, adjusted_at}
use Rattle.c_typing.specs.Assignments
use Rattle.c_typing.specs.Assignments.{part_type, string_type, is_char_array, count_global, literal_size}
use Rattle.c_typing.specs.Declarators.{Counted, Written, counted, declarator_names, member_names}
use Rattle.c_typing.specs.Declaring.{declarator_name, declared_name, home_as, stars_with_nodes, sized, declared_makes, member_named, parameter, entered, left, stopped_outside}
use Rattle.c_typing.specs.Extensions.{IsExtended}
use Rattle.c_typing.specs.Judging.{State, Stops, next, pure}
use Rattle.c_typing.specs.Operands.{Operand, value, side_of}
use Rattle.c_typing.specs.Operations
use Rattle.c_typing.specs.Operations.{construct, leaf, in_parens, prefix, target, target_of, prefix_of, numbered}
use Rattle.c_typing.specs.Refusals.{After, AfterTypeName, AreElaborated, Fails, member_shape_tests, type_size_tests, name_place, one_named, tag_place, is_empty_row, is_void_alone, declared_identifier, Refuses, RefusesArguments, RefusesTypeName, RefusesSpecifiers, RefusesSpecifier, RefusesMembers, RefusesMemberDeclarators, RefusesEnumerators, RefusesDeclarator, RefusesCore, RefusesParts, RefusesParameters, RefusesDeclared}
use Rattle.c_typing.specs.Scopes.{Name, Scopes}
use Rattle.c_typing.specs.Settled.{IsKnown}
use Rattle.c_typing.specs.Specifying.{specified, begun, ended, enumerator, valued_enumerator, enumeration_begun, enumeration}
use Rattle.c_typing.specs.Tests
use Rattle.c_typing.specs.Tests.{Elaborated, AsPlace, AsValue, AsAllocation, Test, first_broken, has_some, is_tag_of, is_taken_tag}
use Rattle.c_typing.specs.Typing.{AreEnumerators, IsCore, AreParts}
use Rattle.c_typing.specs.Walks.{listed, declared_place, judge, judge_arguments, judge_type_name, judge_list, judge_specifier, judge_members, judge_member_declarators, judge_enumerators, judge_form, judge_core, judge_parts, judge_parameters, judge_declared}
use Rattle.c_typing_laws.specs.Judged.{IsRefused}
use Rattle.c_typing_laws.proofs.ExtensionLaws.{still_in, extended_refl}
use Rattle.c_typing_laws.proofs.InfixAlike.{infix-refuses, pointed-refuses}
use Rattle.c_typing_laws.proofs.JudgedDeclarators.{IsVoidOf, first_alone, form_name, stars-judged, entered-judged}
use Rattle.c_typing_laws.proofs.JudgedLists.{list-typed}
use Rattle.c_typing_laws.proofs.JudgedSpecifiers.{begun-judged, enumeration_begun-judged}
use Rattle.c_typing_laws.proofs.JudgedTrees.{type_name-judged, specifiers-judged, members-judged, row-judged, enumerators-judged, form-judged, core-judged, parts-judged, parameters-judged, declared-judged, begun_goes, void_self}
use Rattle.c_typing_laws.proofs.KeptTrees.{type_name-kept, specifiers-kept, listed-kept, members-kept, member_declarators-kept, enumerators-kept, form-kept, core-kept, parts-kept, parameters-kept, declared-kept}
use Rattle.c_typing_laws.proofs.KnownStates.{goes-on}
use Rattle.c_typing_laws.proofs.Outcomes.{never-stops, gives-never, large-never, next-never, outside-stops}
use Rattle.c_typing_laws.proofs.PartsTaken.{taken-part, call-alike}
use Rattle.c_typing_laws.proofs.RefusedConstructs.{size_of_type-refused, after-refused, index-refused, infix-refused, member-refused, pointed-refused, choice-refused, call-refused, name-refused, cast-refused}
use Rattle.c_typing_laws.proofs.RefusedDeclarators
use Rattle.c_typing_laws.proofs.RefusedDeclarators.{refused-here, refused-after, obeying-refuses, declared-refused, parameter-refused}
use Rattle.c_typing_laws.proofs.SidesAlike.{cast-side, choice-side}
use Rattle.c_typing_laws.proofs.SidesTaken.{given-side}
use Rattle.c_typing_laws.proofs.TableGrowth.{extended_trans}
use Rattle.c_typing_laws.proofs.TestsAlike.{index-refuses}
use Rattle.c_typing_laws.proofs.ValuesTaken
use Rattle.c_typing_laws.proofs.ValuesTaken.{given-same, part-kept, value-never}
use Rattle.c_typing_laws.proofs.JudgedAssignments.{given-gives}
use Rattle.c_typing_laws.proofs.RefusedSteps.{prefix-any, FailsAt, arguments-taken, assign-any, begins_over, begun-never, begun_enumeration-never, behind-value, character-never, comma-never, declared_named, ended-fails, entered-never, enum-fails, enumeration-fails, enumerator-fails, home-never, integer-never, left-never, literal-never, operand-fails, operand-first, or_void, pair-refused, paren-never, second, sized-fails, stars-never, started-judged, step-refused, tagged-fails, taken_over, typedef-fails, update-any, value-fails, value-first, valued-fails, word-fails, refused-outside}

module _ (p : Place) (t : Rule) where
  mutual
    unfolding judge judge_arguments judge_type_name judge_list judge_specifier judge_members judge_member_declarators judge_enumerators judge_form judge_core judge_parts judge_parameters judge_declared

    pub expr-refuses : (e : tree.Expr) (called : Bool) (s r : State) → IsKnown s → judge called e s ≡ Stops (Refused p t) r → IsRefused (FailsAt p t called e s) s r
    expr-refuses (tree.Name word) called s r k h = let c = name-refused called word s p t r h in refused-here (FailsAt p t called (tree.Name word) s) s r c.1 c.0
    expr-refuses (tree.Integer of n at) called s r k h = absurd (integer-never of n at s p t r h)
    expr-refuses (tree.Character n at) called s r k h = absurd (character-never n at s p t r h)
    expr-refuses (tree.String pieces) called s r k h = absurd (literal-never pieces s p t r h)
    expr-refuses (tree.Paren at e) called s r k h =
        step-refused p t (judge called e s) (Operations.paren at) (FailsAt p t called e s) s r (λ q. expr-refuses e called s r k q) (λ o m q g. absurd (paren-never at o m p t r g)) h
    expr-refuses (tree.Index a at b) called s r k h =
        pair-refused p t a b s r (λ x y. Operations.index x at y) (λ T x y c. Fails (Tests.index_tests T c at x y) (Refused p t)) k
        (λ q g. expr-refuses a false s q k g) (λ m known q g. expr-refuses b false m q known g)
        (λ x y m n A B w. ((index-refused x at y n p t r w).1, index-refuses A.x x at B.x y n p t r (A.alike n.table B.goes.extends) (B.alike n.table (extended_refl n.table)) w)) h
    expr-refuses (tree.Call f at all) called s r k h =
        let N : Table → Elaborated → Scopes → Type 0 = λ T x c. RefusesArguments T all c (Refused p t)
        ⊎ ((list : List Tests.Argument) × (d : Scopes) × AreElaborated T all list c d × Fails (Tests.call_tests T at x list) (Refused p t)) in
        let P : Table → Type 0 = λ T. FailsAt p t true f s T ⊎ After T f s.seen.scopes (N T) in
        operand-first p t true f s r (λ x. λ m. next (value x m) (λ g. λ n. next (judge_arguments all n) (λ values. Assignments.call g at values))) P k
        (λ q g. expr-refuses f true s q k g) (λ T ext q. inl q)
        (λ o m j w. step-refused p t (value o m) (λ g. λ n. next (judge_arguments all n) (λ values. Assignments.call g at values)) P m r (λ q. absurd (value-never o m p t r q))
        (λ g n q w2.
        let A = taken-part true f o g s m n j q in
        let there = (ValuesTaken.value-gives f o g s.seen.scopes m n j.judged.goes.known j.judged.part q).goes in
        refused-after P m n r there.goes.extends (second p t (FailsAt p t true f s) (λ T. After T f s.seen.scopes (N T)) n r (behind-value p t f g s n r A N
        (step-refused p t (judge_arguments all n) (λ values. Assignments.call g at values) (λ T. N T A.x n.seen.scopes) n r
        (λ q2. let i = arguments-refuses all n r A.goes.known q2 in record { fails = inl i.fails; extends = i.extends })
        (λ values v q2 w3.
        let args = arguments-taken p t all values n v A.goes.known q2 in
        let c = call-refused g at values v p t r w3 in
        let alike = call-alike v.table at A.x g.expr args.list values (A.alike v.table args.goes.extends) A.runtime (args.alike v.table (extended_refl v.table)) in
        refused-after (λ T. N T A.x n.seen.scopes) n v r args.goes.extends (refused-here (λ T. N T A.x n.seen.scopes) v r c.1
        (inr (args.list, v.seen.scopes, args.parts v.table (extended_refl v.table), ap first_broken alike ∙ c.0)))) w2)))) w) h
    expr-refuses (tree.Member e member.Dot at name) called s r k h =
        let N : Table → Elaborated → Scopes → Type 0 = λ T x c. Fails (member_shape_tests T member.Dot c x at name) (Refused p t) in
        operand-first p t false e s r (λ x. Operations.member x at name) (λ T. FailsAt p t false e s T ⊎ After T e s.seen.scopes (N T)) k (λ q g. expr-refuses e false s q k g) (λ T ext q. inl q)
        (λ o m j g. let c = member-refused o at name m p t r g in
        second p t (FailsAt p t false e s) (λ T. After T e s.seen.scopes (N T)) m r (operand-fails p t e s m r o false j N c.1 c.0)) h
    expr-refuses (tree.Member e member.Arrow at name) called s r k h =
        let N : Table → Elaborated → Scopes → Type 0 = λ T x c. Fails (member_shape_tests T member.Arrow c x at name) (Refused p t) in
        value-first p t e s r (λ x. Operations.pointed_member x at name) (λ T. FailsAt p t false e s T ⊎ After T e s.seen.scopes (N T)) k (λ q g. expr-refuses e false s q k g) (λ T ext q. inl q)
        (λ v m A g.
        let c = pointed-refused v at name m p t r g in
        let f = pointed-refuses A.x v at name m p t r (A.alike m.table (extended_refl m.table)) g in
        second p t (FailsAt p t false e s) (λ T. After T e s.seen.scopes (N T)) m r (value-fails p t e v s m r A N c.1 f)) h
    expr-refuses (tree.Postfix e operator at) called s r k h =
        let N : Table → Elaborated → Scopes → Type 0 = λ T x c. Fails (Tests.step_tests T c at x) (Refused p t) in
        operand-first p t false e s r (Operations.step_after operator at) (λ T. FailsAt p t false e s T ⊎ After T e s.seen.scopes (N T)) k (λ q g. expr-refuses e false s q k g) (λ T ext q. inl q)
        (λ o m j g. let c = after-refused operator at o m p t r g in
        second p t (FailsAt p t false e s) (λ T. After T e s.seen.scopes (N T)) m r (operand-fails p t e s m r o false j N c.1 c.0)) h
    expr-refuses (tree.Prefix operator at e) called s r k h =
        let N : Table → Elaborated → Scopes → Type 0 = λ T x c. Fails (Tests.prefix_tests T c operator at x) (Refused p t) in
        operand-first p t false e s r (prefix operator at) (λ T. FailsAt p t false e s T ⊎ After T e s.seen.scopes (N T)) k (λ q g. expr-refuses e false s q k g) (λ T ext q. inl q)
        (λ o m j g. second p t (FailsAt p t false e s) (λ T. After T e s.seen.scopes (N T)) m r (prefix-any p t e at o s m r j operator g)) h
    expr-refuses (tree.SizeOfType at paren name) called s r k h =
        let N : Table → TypeId → Scopes → Type 0 = λ T u c. Fails (type_size_tests T c at u) (Refused p t) in
        let P : Table → Type 0 = λ T. RefusesTypeName T name s.seen.scopes (Refused p t) ⊎ AfterTypeName T name s.seen.scopes (N T) in
        step-refused p t (judge_type_name name s) (Assignments.size_of_type at paren) P s r
        (λ q. let i = type_name-refuses name s r k q in record { fails = inl i.fails; extends = i.extends })
        (λ u m q g.
        let j = type_name-judged name u s m k q in
        let c = size_of_type-refused at paren u m p t r g in
        refused-after P s m r j.goes.extends (refused-here P m r c.1 (inr (u, m.seen.scopes, j.typed, j.erases, c.0)))) h
    expr-refuses (tree.Cast at name e) called s r k h =
        let N : Table → TypeId → Scopes → Type 0 = λ T u c. Refuses T false e c (Refused p t) ⊎ After T e c (λ x d. Fails (Tests.cast_tests T at x u) (Refused p t)) in
        let P : Table → Type 0 = λ T. RefusesTypeName T name s.seen.scopes (Refused p t) ⊎ AfterTypeName T name s.seen.scopes (N T) in
        step-refused p t (judge_type_name name s) (λ to. λ m. next (judge false e m) (λ x. Assignments.cast at to x)) P s r
        (λ q. let i = type_name-refuses name s r k q in record { fails = inl i.fails; extends = i.extends })
        (λ to m q g.
        let j = type_name-judged name to s m k q in
        let inner = operand-first p t false e m r (λ x. Assignments.cast at to x) (λ T. N T (named_type to) m.seen.scopes) j.goes.known (λ v w. expr-refuses e false m v j.goes.known w) (λ T ext v. inl v)
        (λ o n l w.
        let c = cast-refused at to o n p t r w in
        let known = l.judged.goes.known in
        let there = still_in m.table n.table l.judged.goes.extends (named_type to) j.there in
        let got = (given-gives e (named_type to) o.place o.part c.0 m.seen.scopes n r known there l.judged.part c.1).1 in
        let side = given-side e (named_type to) o.place o.part c.0 m.seen.scopes n r known l.judged.part c.1 in
        record {
          fails = inr (
            o.part,
            n.seen.scopes,
            part-kept n.table r.table got.goes.extends known.basic e o.part m.seen.scopes n.seen.scopes l.judged.part,
            ap first_broken (cast-side r.table at o.part c.0 (named_type to) side) ∙ c.2,
          );
          extends = got.goes.extends;
        }) g in
        refused-after P s m r j.goes.extends (record {
          fails = inr (to, m.seen.scopes, type_name-kept m.table r.table inner.extends j.goes.known.basic to s.seen.scopes m.seen.scopes j.typed, j.erases, inner.fails);
          extends = inner.extends;
        })) h
    expr-refuses (tree.Infix operator a at b) called s r k h =
        pair-refused p t a b s r (λ x y. Operations.infix_of operator x at y) (λ T x y c. Fails (Tests.infix_tests T c operator at (expr_place a) x y) (Refused p t)) k
        (λ q g. expr-refuses a false s q k g) (λ m known q g. expr-refuses b false m q known g)
        (λ x y m n A B w. (
          (infix-refused operator x at y n p t r w).1,
          subst (λ (begin : Place). Fails (Tests.infix_tests n.table n.seen.scopes operator at begin A.x B.x) (Refused p t)) A.place
              (infix-refuses operator A.x x at B.x y n p t r (A.alike n.table B.goes.extends) (B.alike n.table (extended_refl n.table)) w),
        )) h
    expr-refuses (tree.Conditional c at a b) called s r k h =
        let N : Table → Elaborated → Scopes → Type 0 = λ T z d. Refuses T false a d (Refused p t)
        ⊎ After T a d (λ x e. Refuses T false b e (Refused p t) ⊎ After T b e (λ y f. Fails (Tests.choice_tests T at z x y) (Refused p t))) in
        value-first p t c s r (λ z. λ m. next (next (judge false a m) value) (λ x. λ n. next (next (judge false b n) value) (λ y. Assignments.choice z at x y)))
        (λ T. FailsAt p t false c s T ⊎ After T c s.seen.scopes (N T)) k (λ q g. expr-refuses c false s q k g) (λ T ext q. inl q)
        (λ z l Z g. second p t (FailsAt p t false c s) (λ T. After T c s.seen.scopes (N T)) l r (behind-value p t c z s l r Z N
        (pair-refused p t a b l r (λ x y. Assignments.choice z at x y) (λ T x y d. Fails (Tests.choice_tests T at Z.x x y) (Refused p t)) Z.goes.known
        (λ q w. expr-refuses a false l q Z.goes.known w) (λ m known q w. expr-refuses b false m q known w)
        (λ x y m n A B w.
        let whole = goes-on l m n A.goes B.goes in
        let e = choice-refused z at x y n p t r w in (
          e.1,
          ap first_broken (choice-side n.table at Z.x z.expr A.x (side_of x.expr) B.x (side_of y.expr) (Z.alike n.table whole.extends) (A.side n.table B.goes.extends)
              (B.side n.table (extended_refl n.table))) ∙ e.0,
        )) g))) h
    expr-refuses (tree.Assign assignment.Assign a at b) called s r k h =
        assign-any p t a at b s r k (λ q g. expr-refuses a false s q k g) (λ m known q g. expr-refuses b false m q known g) h
    expr-refuses (tree.Assign operator a at b) called s r k h =
        update-any p t operator a at b s r refl k (λ q g. expr-refuses a false s q k g) (λ m known q g. expr-refuses b false m q known g) h
    expr-refuses (tree.Comma a b) called s r k h =
        let N : Table → Elaborated → Scopes → Type 0 = λ T x c. Refuses T false b c (Refused p t) in
        value-first p t a s r (λ x. λ m. next (next (judge false b m) value) (λ y. Assignments.comma x y)) (λ T. FailsAt p t false a s T ⊎ After T a s.seen.scopes (N T)) k
        (λ q g. expr-refuses a false s q k g) (λ T ext q. inl q)
        (λ x m A g. second p t (FailsAt p t false a s) (λ T. After T a s.seen.scopes (N T)) m r (behind-value p t a x s m r A N
        (value-first p t b m r (λ y. Assignments.comma x y) (λ T. N T A.x m.seen.scopes) A.goes.known (λ q w. expr-refuses b false m q A.goes.known w) (λ T ext q. q)
        (λ y n B w. absurd (comma-never x y n p t r w)) g))) h
    expr-refuses (tree.Compound at name brace) called s r k h = absurd (large-never Operand nowhere Types s p t r h)
    expr-refuses (tree.SizeOfCompound at paren name brace) called s r k h = absurd (large-never Operand nowhere Types s p t r h)

    pub arguments-refuses : (all : tree.Arguments) (s r : State) → IsKnown s → judge_arguments all s ≡ Stops (Refused p t) r
        → IsRefused (λ T. RefusesArguments T all s.seen.scopes (Refused p t)) s r
    arguments-refuses tree.NoArgument s r k h = never-stops [] (Refused p t) s r h
    arguments-refuses (tree.AndArgument all e) s r k h =
        let P : Table → Type 0 = λ T. RefusesArguments T (tree.AndArgument all e) s.seen.scopes (Refused p t) in
        step-refused p t (judge_arguments all s) (λ before. λ m. next (next (judge false e m) value) (λ v. pure (before ++ v ∷ []))) P s r
        (λ q. let i = arguments-refuses all s r k q in record { fails = inl i.fails; extends = i.extends })
        (λ before m q g.
        let args = arguments-taken p t all before s m k q in
        refused-after P s m r args.goes.extends
        (value-first p t e m r (λ v. pure (before ++ v ∷ [])) P args.goes.known (λ v w. expr-refuses e false m v args.goes.known w)
        (λ T ext v. inr (args.list, m.seen.scopes, args.parts T ext, v))
        (λ v n A w. never-stops (before ++ v ∷ []) (Refused p t) n r w) g)) h

    pub type_name-refuses : (name : tree.TypeName) (s r : State) → IsKnown s → judge_type_name name s ≡ Stops (Refused p t) r
        → IsRefused (λ T. RefusesTypeName T name s.seen.scopes (Refused p t)) s r
    type_name-refuses (tree.Named specifiers d) s r k h =
        let at = declared_place specifiers d in
        let P : Table → Type 0 = λ T. RefusesTypeName T (tree.Named specifiers d) s.seen.scopes (Refused p t) in
        step-refused p t (judge_list specifiers s) (λ list. λ m. next (judge_declared naming.None at d m)
        (λ v. λ n. next (declared_makes at Written v (listed list) n) (λ u. pure (typed.Named (specified list) v u)))) P s r
        (λ q. let i = specifiers-refuses specifiers s r k q in record { fails = inl i.fails; extends = i.extends })
        (λ list m q g.
        let l = specifiers-judged specifiers list s m k q in
        let named = list-typed specifiers list s m l in
        refused-after P s m r l.goes.extends
        (step-refused p t (judge_declared naming.None at d m) (λ v. λ n. next (declared_makes at Written v (listed list) n) (λ u. pure (typed.Named (specified list) v u))) P m r
        (λ q2. let i = declared-refuses d naming.None at m r l.goes.known q2 in record {
          fails = inr (
            specified list,
            m.seen.scopes,
            specifiers-kept m.table r.table i.extends l.goes.known.basic (specified list) s.seen.scopes m.seen.scopes named.0,
            l.erases,
            inl i.fails,
          );
          extends = i.extends;
        })
        (λ one n q2 g2.
        let j = declared-judged d naming.None at one m n l.goes.known q2 in
        let place : name_place (declared_identifier one) (specifiers_place specifiers) ≡ declared_place specifiers d =
        ap (λ (w : Option Identifier). name_place w (specifiers_place specifiers)) (sym (declared_named one) ∙ ap declared_name j.erases) in
        refused-after P m n r j.goes.extends
        (step-refused p t (declared_makes at Written one (listed list) n) (λ u. pure (typed.Named (specified list) one u)) P n r
        (λ q3.
        let i = declared-refused p t (specifiers_place specifiers) Written one (listed list) n r j.goes.known (still_in m.table n.table j.goes.extends (listed list) named.1)
        (ap (λ (w : Place). declared_makes w Written one (listed list) n) place ∙ q3) in
        record {
          fails = inr (
            specified list,
            m.seen.scopes,
            specifiers-kept m.table r.table (extended_trans m.table n.table r.table j.goes.extends i.extends) l.goes.known.basic (specified list) s.seen.scopes m.seen.scopes named.0,
            l.erases,
            inr (one, n.seen.scopes, declared-kept n.table r.table i.extends j.goes.known.basic one m.seen.scopes n.seen.scopes j.typed, j.erases, i.fails),
          );
          extends = i.extends;
        })
        (λ u w q3 g3. never-stops (typed.Named (specified list) one u) (Refused p t) w r g3) g2)) g)) h

    pub specifiers-refuses : (all : tree.Specifiers) (s r : State) → IsKnown s → judge_list all s ≡ Stops (Refused p t) r
        → IsRefused (λ T. RefusesSpecifiers T all s.seen.scopes (Refused p t)) s r
    specifiers-refuses tree.NoSpecifier s r k h = never-stops typed.NoSpecifier (Refused p t) s r h
    specifiers-refuses (tree.AndSpecifier all specifier) s r k h =
        let P : Table → Type 0 = λ T. RefusesSpecifiers T (tree.AndSpecifier all specifier) s.seen.scopes (Refused p t) in
        step-refused p t (judge_list all s) (λ l. λ m. next (judge_specifier (counted l) specifier m) (λ v. pure (typed.AndSpecifier l v))) P s r
        (λ q. let i = specifiers-refuses all s r k q in record { fails = inl i.fails; extends = i.extends })
        (λ list m q g.
        let l = specifiers-judged all list s m k q in
        refused-after P s m r l.goes.extends
        (step-refused p t (judge_specifier (counted list) specifier m) (λ v. pure (typed.AndSpecifier list v)) P m r
        (λ q2. let i = specifier-refuses specifier (counted list) m r l.goes.known q2 in record {
          fails = inr (
            list,
            m.seen.scopes,
            listed-kept m.table r.table i.extends l.goes.known.basic list s.seen.scopes m.seen.scopes l.typed,
            l.erases,
            l.allowed,
            i.fails,
          );
          extends = i.extends;
        })
        (λ one n q2 g2. never-stops (typed.AndSpecifier list one) (Refused p t) n r g2) g)) h

    pub specifier-refuses : (specifier : tree.Specifier) (counts : Counted) (s r : State) → IsKnown s → judge_specifier counts specifier s ≡ Stops (Refused p t) r
        → IsRefused (λ T. RefusesSpecifier T counts specifier s.seen.scopes (Refused p t)) s r
    specifier-refuses (tree.Keyword word) counts s r k h =
        let c = word-fails p t counts word s r h in refused-here (λ T. RefusesSpecifier T counts (tree.Keyword word) s.seen.scopes (Refused p t)) s r c.1 c.0
    specifier-refuses (tree.Typedef name) counts s r k h =
        let c = typedef-fails p t counts name s r h in refused-here (λ T. RefusesSpecifier T counts (tree.Typedef name) s.seen.scopes (Refused p t)) s r c.1 c.0
    specifier-refuses (tree.Tagged which at name) counts s r k h =
        let c = tagged-fails p t counts which at name s r h in refused-here (λ T. RefusesSpecifier T counts (tree.Tagged which at name) s.seen.scopes (Refused p t)) s r c.1 c.0
    specifier-refuses (tree.Aggregate which at name brace members) counts s r k h =
        let P : Table → Type 0 = λ T. RefusesSpecifier T counts (tree.Aggregate which at name brace members) s.seen.scopes (Refused p t) in
        step-refused p t (begun which at name s) (λ u. λ m. next (judge_members members m) (λ rows. ended counts which at name brace u rows)) P s r
        (λ q. absurd (begun-never which at name s p t r q))
        (λ o m q g.
        let b = begun-judged which at name o s m k q in
        let st = started-judged which at name o s m q in
        let goes = begun_goes which name o s m b in
        refused-after P s m r goes.extends
        (step-refused p t (judge_members members m) (λ rows. ended counts which at name brace o rows) P m r
        (λ q2. let i = members-refuses members m r goes.known q2 in record {
          fails = (or_void o, m.seen.scopes, begins_over which at name s m k o b st r.table i.extends, inl i.fails);
          extends = i.extends;
        })
        (λ rows n q2 g2.
        let j = members-judged members rows m n goes.known q2 in
        let c = ended-fails p t counts which at name brace o rows n r g2 in
        let taken = taken_over which at name s m k o n st (goes-on s m n goes j.goes).extends in
        refused-after P m n r j.goes.extends (refused-here P n r c.1 (
          or_void o,
          m.seen.scopes,
          begins_over which at name s m k o b st n.table j.goes.extends,
          inr (
            rows,
            n.seen.scopes,
            j.typed,
            j.erases,
            sym (λ i. first_broken (Tests.aggregate_tests (taken i) (tag_place at name) (is_empty_row rows) ++ Tests.word_tests at (one_named counts))) ∙ c.0,
          ),
        ))) g)) h
    specifier-refuses (tree.Enum at name) counts s r k h =
        let c = enum-fails p t counts at name s r h in refused-here (λ T. RefusesSpecifier T counts (tree.Enum at name) s.seen.scopes (Refused p t)) s r c.1 c.0
    specifier-refuses (tree.Enumeration at name brace all comma) counts s r k h =
        let P : Table → Type 0 = λ T. RefusesSpecifier T counts (tree.Enumeration at name brace all comma) s.seen.scopes (Refused p t) in
        step-refused p t (enumeration_begun name s) (λ f. λ m. next (judge_enumerators all m) (λ list. enumeration counts at name brace list comma)) P s r
        (λ q. absurd (begun_enumeration-never p t name s p t r q))
        (λ begun m q g.
        let b = enumeration_begun-judged name begun s m k q in
        refused-after P s m r b.1.extends
        (step-refused p t (judge_enumerators all m) (λ list. enumeration counts at name brace list comma) P m r
        (λ q2. let i = enumerators-refuses all m r b.1.known q2 in record {
          fails = inl (subst (λ (c : Scopes). RefusesEnumerators r.table all c (Refused p t)) b.0 i.fails);
          extends = i.extends;
        })
        (λ list n q2 g2.
        let j = enumerators-judged all list m n b.1.known q2 in
        let c = enumeration-fails p t counts at name brace list comma n r g2 in
        refused-after P m n r j.goes.extends (refused-here P n r c.1 (inr (
          list,
          n.seen.scopes,
          subst (λ (c : Scopes). AreEnumerators n.table list c n.seen.scopes) b.0 j.typed,
          j.erases,
          c.0,
        )))) g)) h

    pub members-refuses : (all : tree.Members) (s r : State) → IsKnown s → judge_members all s ≡ Stops (Refused p t) r
        → IsRefused (λ T. RefusesMembers T all s.seen.scopes (Refused p t)) s r
    members-refuses tree.NoMember s r k h = never-stops typed.NoMember (Refused p t) s r h
    members-refuses (tree.AndMember all specifiers declarators) s r k h =
        let P : Table → Type 0 = λ T. RefusesMembers T (tree.AndMember all specifiers declarators) s.seen.scopes (Refused p t) in
        step-refused p t (judge_members all s) (λ a. λ m. next (judge_list specifiers m)
        (λ l. λ n. next (judge_member_declarators (listed l) (member_names a) declarators n) (λ row. pure (typed.AndMember a (specified l) row)))) P s r
        (λ q. let i = members-refuses all s r k q in record { fails = inl i.fails; extends = i.extends })
        (λ rows m q g.
        let before = members-judged all rows s m k q in
        let basic = before.goes.known.basic in
        refused-after P s m r before.goes.extends
        (step-refused p t (judge_list specifiers m) (λ l. λ n. next (judge_member_declarators (listed l) (member_names rows) declarators n) (λ row. pure (typed.AndMember rows (specified l) row))) P m r
        (λ q2. let i = specifiers-refuses specifiers m r before.goes.known q2 in record {
          fails = inr (rows, m.seen.scopes, members-kept m.table r.table i.extends basic rows s.seen.scopes m.seen.scopes before.typed, before.erases, inl i.fails);
          extends = i.extends;
        })
        (λ list n q2 g2.
        let l = specifiers-judged specifiers list m n before.goes.known q2 in
        let named = list-typed specifiers list m n l in
        refused-after P m n r l.goes.extends
        (step-refused p t (judge_member_declarators (listed list) (member_names rows) declarators n) (λ row. pure (typed.AndMember rows (specified list) row)) P n r
        (λ q3. let i = row-refuses declarators (listed list) (member_names rows) n r l.goes.known named.1 q3 in record {
          fails = inr (
            rows,
            m.seen.scopes,
            members-kept m.table r.table (extended_trans m.table n.table r.table l.goes.extends i.extends) basic rows s.seen.scopes m.seen.scopes before.typed,
            before.erases,
            inr (
              specified list,
              n.seen.scopes,
              specifiers-kept n.table r.table i.extends l.goes.known.basic (specified list) m.seen.scopes n.seen.scopes named.0,
              l.erases,
              i.fails,
            ),
          );
          extends = i.extends;
        })
        (λ row w q3 g3. never-stops (typed.AndMember rows (specified list) row) (Refused p t) w r g3) g2)) g)) h

    pub row-refuses : (all : tree.MemberDeclarators) (base : TypeId) (names : List Name) (s r : State) → IsKnown s → IsType s.table base
        → judge_member_declarators base names all s ≡ Stops (Refused p t) r → IsRefused (λ T. RefusesMemberDeclarators T base names all s.seen.scopes (Refused p t)) s r
    row-refuses tree.NoDeclarator base names s r k b h = never-stops typed.NoDeclarator (Refused p t) s r h
    row-refuses (tree.AndDeclarator all d) base names s r k b h =
        let at = name_place (declarator_name d) nowhere in
        let P : Table → Type 0 = λ T. RefusesMemberDeclarators T base names (tree.AndDeclarator all d) s.seen.scopes (Refused p t) in
        step-refused p t (judge_member_declarators base names all s)
        (λ v. λ m. next (judge_form naming.None at d m) (λ form. member_named (names ++ declarator_names v) v form base (declarator_name d))) P s r
        (λ q. let i = row-refuses all base names s r k b q in record { fails = inl i.fails; extends = i.extends })
        (λ list m q g.
        let before = row-judged all base names list s m k b q in
        let basic = before.goes.known.basic in
        refused-after P s m r before.goes.extends
        (step-refused p t (judge_form naming.None at d m) (λ form. member_named (names ++ declarator_names list) list form base (declarator_name d)) P m r
        (λ q2. let i = form-refuses d naming.None at m r before.goes.known q2 in record {
          fails = inr (list, m.seen.scopes, member_declarators-kept m.table r.table i.extends basic base list s.seen.scopes m.seen.scopes before.typed, before.erases, inl i.fails);
          extends = i.extends;
        })
        (λ form n q2 g2.
        let j = form-judged d naming.None at form m n before.goes.known q2 in
        let there = still_in s.table n.table (goes-on s m n before.goes j.goes).extends base b in
        let i = RefusedDeclarators.member-refused p t (names ++ declarator_names list) list form base (declarator_name d) n r j.goes.known there
        (sym (form_name form) ∙ ap declarator_name j.erases) g2 in
        refused-after P m n r j.goes.extends (record {
          fails = inr (
            list,
            m.seen.scopes,
            member_declarators-kept m.table r.table (extended_trans m.table n.table r.table j.goes.extends i.extends) basic base list s.seen.scopes m.seen.scopes before.typed,
            before.erases,
            inr (form, n.seen.scopes, form-kept n.table r.table i.extends j.goes.known.basic form m.seen.scopes n.seen.scopes j.typed, j.erases, i.fails),
          );
          extends = i.extends;
        })) g)) h
    row-refuses (tree.AndBitField all d) base names s r k b h = absurd (large-never TypedMemberDeclarators nowhere Types s p t r h)
    row-refuses (tree.AndUnnamedBitField all) base names s r k b h = absurd (large-never TypedMemberDeclarators nowhere Types s p t r h)

    pub enumerators-refuses : (all : tree.Enumerators) (s r : State) → IsKnown s → judge_enumerators all s ≡ Stops (Refused p t) r
        → IsRefused (λ T. RefusesEnumerators T all s.seen.scopes (Refused p t)) s r
    enumerators-refuses tree.NoEnumerator s r k h = never-stops typed.NoEnumerator (Refused p t) s r h
    enumerators-refuses (tree.AndEnumerator all name) s r k h =
        let P : Table → Type 0 = λ T. RefusesEnumerators T (tree.AndEnumerator all name) s.seen.scopes (Refused p t) in
        step-refused p t (judge_enumerators all s) (λ l. enumerator l name) P s r
        (λ q. let i = enumerators-refuses all s r k q in record { fails = inl i.fails; extends = i.extends })
        (λ list m q g.
        let j = enumerators-judged all list s m k q in
        let c = enumerator-fails p t list name m r g in
        refused-after P s m r j.goes.extends (refused-here P m r c.1 (inr (list, m.seen.scopes, j.typed, j.erases, c.0)))) h
    enumerators-refuses (tree.AndValued all name at e) s r k h =
        let P : Table → Type 0 = λ T. RefusesEnumerators T (tree.AndValued all name at e) s.seen.scopes (Refused p t) in
        step-refused p t (judge_enumerators all s) (λ l. λ m. next (next (judge false e m) value) (λ v. valued_enumerator l name at v)) P s r
        (λ q. let i = enumerators-refuses all s r k q in record { fails = inl i.fails; extends = i.extends })
        (λ list m q g.
        let j = enumerators-judged all list s m k q in
        let kept : (T : Table) → IsExtended m.table T → AreEnumerators T list s.seen.scopes m.seen.scopes = λ T ext.
        enumerators-kept m.table T ext j.goes.known.basic list s.seen.scopes m.seen.scopes j.typed in
        refused-after P s m r j.goes.extends
        (value-first p t e m r (λ v. valued_enumerator list name at v) P j.goes.known (λ q2 w. expr-refuses e false m q2 j.goes.known w)
        (λ T ext q2. inr (list, m.seen.scopes, kept T ext, j.erases, inl q2))
        (λ v n A w.
        let c = valued-fails p t list name at e v m n r A w in
        refused-here P n r c.0 (inr (list, m.seen.scopes, kept n.table A.goes.extends, j.erases, inr (A.x, n.seen.scopes, A.part n.table (extended_refl n.table), c.1)))) g)) h

    pub form-refuses : (d : tree.Declarator) (which : Naming) (at : Place) (s r : State) → IsKnown s → judge_form which at d s ≡ Stops (Refused p t) r
        → IsRefused (λ T. RefusesDeclarator T d s.seen.scopes (Refused p t)) s r
    form-refuses (tree.Declares stars core parts) which at s r k h =
        let P : Table → Type 0 = λ T. RefusesDeclarator T (tree.Declares stars core parts) s.seen.scopes (Refused p t) in
        step-refused p t (stars_with_nodes at stars s) (λ l. λ m. next (judge_core which at core m) (λ c. λ n. next (judge_parts at parts n) (λ a. pure (typed.Form l c a)))) P s r
        (λ q. absurd (stars-never at stars s p t r q))
        (λ list l q g.
        let first = (stars-judged at stars list s l k q).1 in
        refused-after P s l r first.goes.extends
        (step-refused p t (judge_core which at core l) (λ c. λ n. next (judge_parts at parts n) (λ a. pure (typed.Form list c a))) P l r
        (λ q2. let i = core-refuses core which at l r first.goes.known q2 in record {
          fails = inl (subst (λ (c : Scopes). RefusesCore r.table core c (Refused p t)) first.scopes i.fails);
          extends = i.extends;
        })
        (λ one m q2 g2.
        let c = core-judged core which at one l m first.goes.known q2 in
        refused-after P l m r c.goes.extends
        (step-refused p t (judge_parts at parts m) (λ a. pure (typed.Form list one a)) P m r
        (λ q3. let i = parts-refuses parts at m r c.goes.known q3 in record {
          fails = inr (
            one,
            m.seen.scopes,
            subst (λ (w : Scopes). IsCore r.table one w m.seen.scopes) first.scopes (core-kept m.table r.table i.extends c.goes.known.basic one l.seen.scopes m.seen.scopes c.typed),
            c.erases,
            i.fails,
          );
          extends = i.extends;
        })
        (λ a w q3 g3. never-stops (typed.Form list one a) (Refused p t) w r g3) g2)) g)) h

    pub core-refuses : (d : tree.Core) (which : Naming) (at : Place) (s r : State) → IsKnown s → judge_core which at d s ≡ Stops (Refused p t) r
        → IsRefused (λ T. RefusesCore T d s.seen.scopes (Refused p t)) s r
    core-refuses (tree.Names name) which at s r k h =
        absurd (next-never (home_as at which s) (λ v. pure (typed.Names name v)) (home-never at which s) (λ v q. gives-never (typed.Names name v) q) p t r h)
    core-refuses tree.Unnamed which at s r k h = never-stops typed.Unnamed (Refused p t) s r h
    core-refuses (tree.Nested paren d) which at s r k h =
        step-refused p t (judge_form which at d s) (λ form. pure (typed.Nested paren form)) (λ T. RefusesCore T (tree.Nested paren d) s.seen.scopes (Refused p t)) s r
        (λ q. let i = form-refuses d which at s r k q in record { fails = i.fails; extends = i.extends })
        (λ form m q g. never-stops (typed.Nested paren form) (Refused p t) m r g) h

    pub parts-refuses : (all : tree.Parts) (at : Place) (s r : State) → IsKnown s → judge_parts at all s ≡ Stops (Refused p t) r
        → IsRefused (λ T. RefusesParts T all s.seen.scopes (Refused p t)) s r
    parts-refuses tree.NoPart at s r k h = never-stops typed.NoPart (Refused p t) s r h
    parts-refuses (tree.AndArray all bracket words) at s r k h =
        step-refused p t (judge_parts at all s) (λ a. pure (typed.AndArray a bracket words)) (λ T. RefusesParts T (tree.AndArray all bracket words) s.seen.scopes (Refused p t)) s r
        (λ q. let i = parts-refuses all at s r k q in record { fails = i.fails; extends = i.extends })
        (λ a m q g. never-stops (typed.AndArray a bracket words) (Refused p t) m r g) h
    parts-refuses (tree.AndSizedArray all bracket words e) at s r k h =
        let P : Table → Type 0 = λ T. RefusesParts T (tree.AndSizedArray all bracket words e) s.seen.scopes (Refused p t) in
        step-refused p t (judge_parts at all s) (λ a. λ m. next (next (judge false e m) value) (λ v. sized a bracket words v)) P s r
        (λ q. let i = parts-refuses all at s r k q in record { fails = inl i.fails; extends = i.extends })
        (λ a m q g.
        let j = parts-judged all at a s m k q in
        let kept : (T : Table) → IsExtended m.table T → AreParts T a s.seen.scopes m.seen.scopes = λ T ext.
        parts-kept m.table T ext j.goes.known.basic a s.seen.scopes m.seen.scopes j.typed in
        refused-after P s m r j.goes.extends
        (value-first p t e m r (λ v. sized a bracket words v) P j.goes.known (λ q2 w. expr-refuses e false m q2 j.goes.known w)
        (λ T ext q2. inr (a, m.seen.scopes, kept T ext, j.erases, inl q2))
        (λ v n A w.
        let c = sized-fails p t a bracket words e v m n r A w in
        refused-here P n r c.0 (inr (a, m.seen.scopes, kept n.table A.goes.extends, j.erases, inr (A.x, n.seen.scopes, A.part n.table (extended_refl n.table), c.1)))) g)) h
    parts-refuses (tree.AndFunction all paren parameters) at s r k h =
        let void = is_void_alone parameters in
        let P : Table → Type 0 = λ T. RefusesParts T (tree.AndFunction all paren parameters) s.seen.scopes (Refused p t) in
        step-refused p t (judge_parts at all s) (λ a. λ m. next (entered m)
        (λ b. λ i. next (stopped_outside (judge_parameters void parameters i)) (λ list. λ n. next (left at list n) (λ whole. pure (typed.AndFunction a paren whole))))) P s r
        (λ q. let i = parts-refuses all at s r k q in record { fails = inl i.fails; extends = i.extends })
        (λ a m q g.
        let j = parts-judged all at a s m k q in
        refused-after P s m r j.goes.extends
        (step-refused p t (entered m) (λ b. λ i. next (stopped_outside (judge_parameters void parameters i)) (λ list. λ n. next (left at list n) (λ whole. pure (typed.AndFunction a paren whole)))) P m r
        (λ q2. absurd (entered-never p t m p t r q2))
        (λ b l q2 g2.
        let inside = entered-judged b m l j.goes.known q2 in
        refused-after P m l r inside.1.extends
        (step-refused p t (stopped_outside (judge_parameters void parameters l)) (λ list. λ n. next (left at list n) (λ whole. pure (typed.AndFunction a paren whole))) P l r
        (λ q3.
        let stop = outside-stops (judge_parameters void parameters l) (Refused p t) r q3 in
        let i = refused-outside (λ T. RefusesParameters T void parameters l.seen.scopes (Refused p t)) l stop.0 r stop.2
        (parameters-refuses parameters void l stop.0 (void_self parameters) inside.1.known stop.1) in record {
          fails = inr (
            a,
            m.seen.scopes,
            parts-kept m.table r.table (extended_trans m.table l.table r.table inside.1.extends i.extends) j.goes.known.basic a s.seen.scopes m.seen.scopes j.typed,
            j.erases,
            subst (λ (c : Scopes). RefusesParameters r.table void parameters c (Refused p t)) inside.0 i.fails,
          );
          extends = i.extends;
        })
        (λ list n q3 g3.
        absurd (next-never (left at list n) (λ whole. pure (typed.AndFunction a paren whole)) (left-never at list n) (λ whole w. gives-never (typed.AndFunction a paren whole) w) p t r g3)) g2)) g)) h

    pub parameters-refuses : (all : tree.Parameters) (void : Bool) (s r : State) → IsVoidOf void all → IsKnown s → judge_parameters void all s ≡ Stops (Refused p t) r
        → IsRefused (λ T. RefusesParameters T void all s.seen.scopes (Refused p t)) s r
    parameters-refuses tree.NoParameter void s r fits k h = never-stops typed.NoParameter (Refused p t) s r h
    parameters-refuses (tree.AndParameter all specifiers d) void s r fits k h =
        let at = declared_place specifiers d in
        let adjusting : TypeShape → Option Place = λ base. adjusted_at (derived_by_declared d) base (typedef_place specifiers) in
        let P : Table → Type 0 = λ T. RefusesParameters T void (tree.AndParameter all specifiers d) s.seen.scopes (Refused p t) in
        let before_fits = first_alone void all specifiers d fits in
        step-refused p t (judge_parameters void all s) (λ a. λ m. next (judge_list specifiers m)
        (λ own. λ n. next (judge_declared naming.Parameter at d n) (λ v. parameter void at adjusting a (specified own) v))) P s r
        (λ q. let i = parameters-refuses all void s r before_fits k q in record { fails = inl i.fails; extends = i.extends })
        (λ list l q g.
        let before = parameters-judged all void list s l before_fits k q in
        let basic = before.goes.known.basic in
        refused-after P s l r before.goes.extends
        (step-refused p t (judge_list specifiers l) (λ own. λ n. next (judge_declared naming.Parameter at d n) (λ v. parameter void at adjusting list (specified own) v)) P l r
        (λ q2. let i = specifiers-refuses specifiers l r before.goes.known q2 in record {
          fails = inr (list, l.seen.scopes, parameters-kept l.table r.table i.extends basic void list s.seen.scopes l.seen.scopes before.typed, before.erases, inl i.fails);
          extends = i.extends;
        })
        (λ own m q2 g2.
        let sp = specifiers-judged specifiers own l m before.goes.known q2 in
        let named = list-typed specifiers own l m sp in
        refused-after P l m r sp.goes.extends
        (step-refused p t (judge_declared naming.Parameter at d m) (λ v. parameter void at adjusting list (specified own) v) P m r
        (λ q3. let i = declared-refuses d naming.Parameter at m r sp.goes.known q3 in record {
          fails = inr (
            list,
            l.seen.scopes,
            parameters-kept l.table r.table (extended_trans l.table m.table r.table sp.goes.extends i.extends) basic void list s.seen.scopes l.seen.scopes before.typed,
            before.erases,
            inr (
              specified own,
              m.seen.scopes,
              specifiers-kept m.table r.table i.extends sp.goes.known.basic (specified own) l.seen.scopes m.seen.scopes named.0,
              sp.erases,
              inl i.fails,
            ),
          );
          extends = i.extends;
        })
        (λ one n q3 g3.
        let j = declared-judged d naming.Parameter at one m n sp.goes.known q3 in
        let place : name_place (declared_identifier one) (specifiers_place specifiers) ≡ declared_place specifiers d =
        ap (λ (w : Option Identifier). name_place w (specifiers_place specifiers)) (sym (declared_named one) ∙ ap declared_name j.erases) in
        let i = parameter-refused p t void (specifiers_place specifiers) d specifiers list own one n r j.goes.known (still_in m.table n.table j.goes.extends (listed own) named.1) j.erases
        (ap (λ (w : Place). parameter void w (λ base. adjusted_at (derived_by_declared d) base (typedef_place specifiers)) list (specified own) one n) place ∙ g3) in
        let from_m = extended_trans m.table n.table r.table j.goes.extends i.extends in
        refused-after P m n r j.goes.extends (record {
          fails = inr (
            list,
            l.seen.scopes,
            parameters-kept l.table r.table (extended_trans l.table m.table r.table sp.goes.extends from_m) basic void list s.seen.scopes l.seen.scopes before.typed,
            before.erases,
            inr (
              specified own,
              m.seen.scopes,
              specifiers-kept m.table r.table from_m sp.goes.known.basic (specified own) l.seen.scopes m.seen.scopes named.0,
              sp.erases,
              inr (one, n.seen.scopes, declared-kept n.table r.table i.extends j.goes.known.basic one m.seen.scopes n.seen.scopes j.typed, j.erases, i.fails),
            ),
          );
          extends = i.extends;
        })) g2)) g)) h

    pub declared-refuses : (d : tree.Declared) (which : Naming) (at : Place) (s r : State) → IsKnown s → judge_declared which at d s ≡ Stops (Refused p t) r
        → IsRefused (λ T. RefusesDeclared T d s.seen.scopes (Refused p t)) s r
    declared-refuses tree.NotDeclared which at s r k h = never-stops typed.NotDeclared (Refused p t) s r h
    declared-refuses (tree.DeclaredBy d) which at s r k h =
        step-refused p t (judge_form which at d s) (λ form. pure (typed.DeclaredBy form)) (λ T. RefusesDeclared T (tree.DeclaredBy d) s.seen.scopes (Refused p t)) s r
        (λ q. let i = form-refuses d which at s r k q in record { fails = i.fails; extends = i.extends })
        (λ form m q g. never-stops (typed.DeclaredBy form) (Refused p t) m r g) h

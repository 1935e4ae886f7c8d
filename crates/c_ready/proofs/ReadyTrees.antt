-- What is well typed is ready: the induction.
use Rattle.std.specs.List.{All}
use Rattle.std.proofs.Common.{◌≡◌, Bool, true, false, [], ◌∷◌, ◌++◌, length, refl, sym, subst}
use Rattle.std.proofs.lemmas.List.Elements.{All-head}
use Rattle.cc_base.specs.declared.number.TypeId.{TypeId}
use Rattle.c_types.specs.Table.{shape_at, members_at, is_empty}
use Rattle.c_types.specs.Sound.{IsWellFormed}
use Rattle.c_tree.specs.TypedTree as typed
use Rattle.c_tree.specs.TypedTree.{TypedExpr, TypedPlace, TypedArguments, TypedTypeName, TypedSpecifiers, TypedSpecifierList, TypedSpecifier, TypedMembers, TypedMemberDeclarators, TypedEnumerators, TypedForm, TypedCore, TypedParts, TypedParameters, TypedDeclared}
use Rattle.c_tree.specs.TypedParts.{type_of, place_type, named_type, specified_type, pointer_side, Literal, Address, Copy, made_by, made_by_place, made_by_arguments, made_by_type_name, made_by_specifiers, made_by_specifier_list, made_by_specifier, made_by_members, made_by_member_declarators, made_by_enumerators, made_by_form, made_by_core, made_by_parts, made_by_parameters, made_by_declared, made_by_adjusted, made_by_stars, is_void_list}
use Rattle.runtime_calls.specs.Prototypes.{prototype_of}
use Rattle.c_typing.specs.declared.declared.Declared.TheVariants as declared
use Rattle.c_typing.specs.Scopes.{Scopes, members_named, is_complete_at, entering}
use Rattle.c_typing.specs.Declarators.{Written}
use Rattle.c_typing.specs.Rules.{listed_arguments, IsArgument, IsRuntimeArgument}
use Rattle.c_typing.specs.Typing.{IsTyped, IsPlace, AreTyped, IsTypeName, AreSpecifiers, AreListed, IsSpecifier, AreMembers, AreMemberDeclarators, AreEnumerators, IsForm, IsCore, AreParts, AreParameters, IsDeclared, enumerating, tag_named_here}
use Rattle.c_ready.proofs.Contexts.{Context, unread, IsReady, IsReadyPlace, AreReady, IsReadyTypeName, AreReadySpecifiers, AreReadyListed, IsReadySpecifier, AreReadyMembers, AreReadyMemberDeclarators, AreReadyEnumerators, IsReadyForm, IsReadyCore, AreReadyParts, AreReadyParameters, IsReadyDeclared}
use Rattle.c_ready.proofs.Walked.{AreDeclared, entered-of, seen-of}
use Rattle.c_ready.proofs.Walked
use Rattle.c_ready.proofs.Suits.{Suits, whole-in, plain-suits, droppable-suits, designator-suits, operand-suits, whole-at, assigned-suits, cast-suits, prefix-suits, compared-suits, pointer_choice-suits, choice-suits, argument-suits, runtime-suits, zip-all}
use Rattle.c_ready.proofs.ReadyParts.{Known, values, At, at-left, at-right, at-unread, function-named, member-ready, one-struct, same-whole, steps, pointer-whole, IsMade, AreMade, ml, mr, mu, last-node, side-suits, listed-left, updated-ready, at-names, specified-in, declared-in, HasNoNames, void-names, taken-in, parameter-named, ended-whole}

abbrev IsFormed : Context → Type 0
IsFormed k = IsWellFormed k.table

mutual
  pub value-ready : (k : Context) → IsFormed k → (e : TypedExpr) (s s' : Scopes) → IsTyped k.table e s s' → At k s s' → AreMade k (made_by e)
      → Suits k e → IsReady k e
  value-ready k w (typed.Integer of value at t) s s' h a m q =
      h.1
  value-ready k w (typed.Character value at t) s s' h a m q =
      h.1
  value-ready k w (typed.Enumerator name value t) s s' h a m q =
      h.1.type
  value-ready k w (typed.FunctionName name number n t) s s' h a m q =
      (All-head (IsMade k) (Address n) [] m, function-named k s s' name number n t a h.1)
  value-ready k w (typed.RuntimeName name function t) s s' h a m q =
      absurd q
  value-ready k w (typed.Paren at e) s s' h a m q =
      value-ready k w e s s' h.0 a m q
  value-ready k w (typed.Read p) s s' h a m q =
      (place-ready k w p s s' h.0 a m, h.1)
  value-ready k w (typed.Unread p) s s' h a m q =
      (place-ready k w p s s' h.0 a m, h.1)
  value-ready k w (typed.Decay p n t) s s' h a m q =
      (place-ready k w p s s' h.0 a (ml k (made_by_place p) (Address n ∷ []) m), last-node k (made_by_place p) n m, h.1)
  value-ready k w (typed.Convert which at t e) s s' h a m q =
      (value-ready k w e s s' h.0 a m (plain-suits k e h.1), q)
  value-ready k w (typed.Cast which at to e) s s' h a m q = (
    type_name-ready (unread k) w refl to s h.0 h.1
        (at-unread k s h.0 (at-left k s h.0 s' (Walked.value-kept k.table (Known k) (values k) e h.0 s' h.2).stays a))
        (mu k (made_by_type_name to) (ml k (made_by_type_name to) (made_by e) m)),
    value-ready k w e h.0 s' h.2 (at-right k s h.0 s' (Walked.type_name-kept k.table (Known k) (values k) to s h.0 h.1) a)
        (mr k (made_by_type_name to) (made_by e) m) (cast-suits k s' a.followed which (named_type to) e h.3).0,
    (cast-suits k s' a.followed which (named_type to) e h.3).1,
  )
  value-ready k w (typed.AddressOf at p n t) s s' h a m q =
      (place-ready k w p s s' h.0 a (ml k (made_by_place p) (Address n ∷ []) m), last-node k (made_by_place p) n m, h.1)
  value-ready k w (typed.AddressOfElement at p t) s s' h a m q =
      (place-ready k w p s s' h.0 a m, h.1)
  value-ready k w (typed.AddressOfFunction at e) s s' h a m q =
      (value-ready k w e s s' h.0 a m (designator-suits k e h.1), h.1)
  value-ready k w (typed.FunctionAt at e) s s' h a m q =
      (value-ready k w e s s' h.0 a m (plain-suits k e h.1.pointer.plain), h.1)
  value-ready k w (typed.Prefix operator at e t) s s' h a m q =
      (value-ready k w e s s' h.0 a m (prefix-suits k operator at e t h.1), h.1)
  value-ready k w (typed.SizeOfPlace at p size t) s s' h a m q = (
    place-ready (unread k) w p s s' h.0 (at-unread k s s' a) (mu k (made_by_place p) m),
    (whole-in k.table (place_type p) h.1.known, h.1.known),
    h.1.given,
    h.1.type,
  )
  value-ready k w (typed.SizeOfValue at e size t) s s' h a m q = (
    value-ready (unread k) w e s s' h.0 (at-unread k s s' a) (mu k (made_by e) m) (plain-suits (unread k) e h.1.plain),
    (whole-in k.table (type_of e) h.2.known, h.2.known),
    h.2.given,
    h.2.type,
  )
  value-ready k w (typed.SizeOfType at paren name size t) s s' h a m q = (
    type_name-ready (unread k) w refl name s s' h.0 (at-unread k s s' a) (mu k (made_by_type_name name) m),
    (whole-in k.table (named_type name) h.1.known, h.1.known),
    h.1.given,
    h.1.type,
  )
  value-ready k w (typed.StepBefore operator at p) s s' h a m q =
      (place-ready k w p s s' h.0 a m, h.1.lvalue, steps k s' a.followed (place_type p) (shape_at k.table (place_type p)) refl h.1.steps)
  value-ready k w (typed.StepAfter p operator at) s s' h a m q =
      (place-ready k w p s s' h.0 a m, h.1.lvalue, steps k s' a.followed (place_type p) (shape_at k.table (place_type p)) refl h.1.steps)
  value-ready k w (typed.Arithmetic operator b at c t) s s' h a m q = (
    value-ready k w b s h.0 h.1 (at-left k s h.0 s' (Walked.value-kept k.table (Known k) (values k) c h.0 s' h.2).stays a)
        (ml k (made_by b) (made_by c) m) (operand-suits k at _ h.3.left b h.3.first_converted h.3.first),
    value-ready k w c h.0 s' h.2 (at-right k s h.0 s' (Walked.value-kept k.table (Known k) (values k) b s h.0 h.1) a)
        (mr k (made_by b) (made_by c) m) (operand-suits k at _ h.3.right c h.3.second_converted h.3.second),
    h.3,
  )
  value-ready k w (typed.Moved operator which b at c t) s s' h a m q = (
    value-ready k w b s h.0 h.1 (at-left k s h.0 s' (Walked.value-kept k.table (Known k) (values k) c h.0 s' h.2).stays a)
        (ml k (made_by b) (made_by c) m) (side-suits k which b c h.3.pointer.plain h.3.integer.plain).0,
    value-ready k w c h.0 s' h.2 (at-right k s h.0 s' (Walked.value-kept k.table (Known k) (values k) b s h.0 h.1) a)
        (mr k (made_by b) (made_by c) m) (side-suits k which b c h.3.pointer.plain h.3.integer.plain).1,
    h.3.allowed,
    pointer-whole k s' a.followed (pointer_side which b c) h.3.to h.3.pointer h.3.complete,
    (h.3.kind, h.3.integer),
    h.3.type,
  )
  value-ready k w (typed.Difference b at c t) s s' h a m q = (
    value-ready k w b s h.0 h.1 (at-left k s h.0 s' (Walked.value-kept k.table (Known k) (values k) c h.0 s' h.2).stays a)
        (ml k (made_by b) (made_by c) m) (plain-suits k b h.3.first.plain),
    value-ready k w c h.0 s' h.2 (at-right k s h.0 s' (Walked.value-kept k.table (Known k) (values k) b s h.0 h.1) a)
        (mr k (made_by b) (made_by c) m) (plain-suits k c h.3.second.plain),
    pointer-whole k s' a.followed b h.3.left h.3.first h.3.complete,
    (
      h.3.second.type.0,
      h.3.right,
      h.3.second.type.1,
      (
        whole-in k.table h.3.right (same-whole k.table w h.3.left h.3.right h.3.same (a.followed h.3.left h.3.complete)),
        same-whole k.table w h.3.left h.3.right h.3.same (a.followed h.3.left h.3.complete),
      ),
    ),
    (h.3.left, h.3.right, h.3.first.type, h.3.second.type, h.3.same),
    h.3.type,
  )
  value-ready k w (typed.Compared operator b at c t) s s' h a m q = (
    value-ready k w b s h.0 h.1 (at-left k s h.0 s' (Walked.value-kept k.table (Known k) (values k) c h.0 s' h.2).stays a)
        (ml k (made_by b) (made_by c) m) (compared-suits k operator b at c t h.3).0,
    value-ready k w c h.0 s' h.2 (at-right k s h.0 s' (Walked.value-kept k.table (Known k) (values k) b s h.0 h.1) a)
        (mr k (made_by b) (made_by c) m) (compared-suits k operator b at c t h.3).1,
    h.3,
  )
  value-ready k w (typed.Logical operator b at c t) s s' h a m q = (
    value-ready k w b s h.0 h.1 (at-left k s h.0 s' (Walked.value-kept k.table (Known k) (values k) c h.0 s' h.2).stays a)
        (ml k (made_by b) (made_by c) m) (plain-suits k b h.3.first.plain),
    value-ready k w c h.0 s' h.2 (at-right k s h.0 s' (Walked.value-kept k.table (Known k) (values k) b s h.0 h.1) a)
        (mr k (made_by b) (made_by c) m) (plain-suits k c h.3.second.plain),
    h.3,
  )
  value-ready k w (typed.Conditional b at c d t) s s' h a m q = (
    value-ready k w b s h.0 h.2
        (at-left k s h.0 h.1 (Walked.value-kept k.table (Known k) (values k) c h.0 h.1 h.3).stays
        (at-left k s h.1 s' (Walked.value-kept k.table (Known k) (values k) d h.1 s' h.4).stays a))
        (ml k (made_by b) (made_by c) (ml k ((made_by b) ++ (made_by c)) (made_by d) m)) (choice-suits k b at c d t h.5).0,
    value-ready k w c h.0 h.1 h.3
        (at-left k h.0 h.1 s' (Walked.value-kept k.table (Known k) (values k) d h.1 s' h.4).stays
        (at-right k s h.0 s' (Walked.value-kept k.table (Known k) (values k) b s h.0 h.2) a))
        (mr k (made_by b) (made_by c) (ml k ((made_by b) ++ (made_by c)) (made_by d) m)) (choice-suits k b at c d t h.5).1,
    value-ready k w d h.1 s' h.4
        (at-right k h.0 h.1 s' (Walked.value-kept k.table (Known k) (values k) c h.0 h.1 h.3)
        (at-right k s h.0 s' (Walked.value-kept k.table (Known k) (values k) b s h.0 h.2) a)) (mr k ((made_by b) ++ (made_by c)) (made_by d) m)
        (choice-suits k b at c d t h.5).2,
    h.5,
  )
  value-ready k w (typed.PointerConditional b at c d n t) s s' h a m q = (
    value-ready k w b s h.0 h.2
        (at-left k s h.0 h.1 (Walked.value-kept k.table (Known k) (values k) c h.0 h.1 h.3).stays
        (at-left k s h.1 s' (Walked.value-kept k.table (Known k) (values k) d h.1 s' h.4).stays a))
        (ml k (made_by b) (made_by c)
        (ml k ((made_by b) ++ (made_by c)) (made_by d) (ml k ((made_by b) ++ (made_by c) ++ (made_by d)) (Address n ∷ []) m)))
        (pointer_choice-suits k b at c d n t h.5).0,
    value-ready k w c h.0 h.1 h.3
        (at-left k h.0 h.1 s' (Walked.value-kept k.table (Known k) (values k) d h.1 s' h.4).stays
        (at-right k s h.0 s' (Walked.value-kept k.table (Known k) (values k) b s h.0 h.2) a))
        (mr k (made_by b) (made_by c)
        (ml k ((made_by b) ++ (made_by c)) (made_by d) (ml k ((made_by b) ++ (made_by c) ++ (made_by d)) (Address n ∷ []) m)))
        (pointer_choice-suits k b at c d n t h.5).1,
    value-ready k w d h.1 s' h.4
        (at-right k h.0 h.1 s' (Walked.value-kept k.table (Known k) (values k) c h.0 h.1 h.3)
        (at-right k s h.0 s' (Walked.value-kept k.table (Known k) (values k) b s h.0 h.2) a))
        (mr k ((made_by b) ++ (made_by c)) (made_by d) (ml k ((made_by b) ++ (made_by c) ++ (made_by d)) (Address n ∷ []) m))
        (pointer_choice-suits k b at c d n t h.5).2,
    All-head (IsMade k) (Address n) [] (mr k ((made_by b) ++ (made_by c) ++ (made_by d)) (Address n ∷ []) m),
    h.5,
  )
  value-ready k w (typed.Comma b c) s s' h a m q = (
    value-ready k w b s h.0 h.1 (at-left k s h.0 s' (Walked.value-kept k.table (Known k) (values k) c h.0 s' h.2).stays a)
        (ml k (made_by b) (made_by c) m) (droppable-suits k b h.3),
    value-ready k w c h.0 s' h.2 (at-right k s h.0 s' (Walked.value-kept k.table (Known k) (values k) b s h.0 h.1) a)
        (mr k (made_by b) (made_by c) m) (plain-suits k c h.4),
    h.3,
    h.4,
  )
  value-ready k w (typed.Assign p at e) s s' h a m q = (
    place-ready k w p s h.0 h.1 (at-left k s h.0 s' (Walked.value-kept k.table (Known k) (values k) e h.0 s' h.2).stays a)
        (ml k (made_by_place p) (made_by e) m),
    value-ready k w e h.0 s' h.2
        (at-right k s h.0 s' (Walked.place-kept k.table (Known k) (values k) p s h.0 h.1) a) (mr k (made_by_place p) (made_by e) m)
        (assigned-suits k s' a.followed at (place_type p) e h.3.scalar h.3.assigned).0,
    h.3.lvalue,
    (assigned-suits k s' a.followed at (place_type p) e h.3.scalar h.3.assigned).1,
  )
  value-ready k w (typed.AssignWith operator p at e t) s s' h a m q = (
    place-ready k w p s h.0 h.1 (at-left k s h.0 s' (Walked.value-kept k.table (Known k) (values k) e h.0 s' h.2).stays a)
        (ml k (made_by_place p) (made_by e) m),
    value-ready k w e h.0 s' h.2
        (at-right k s h.0 s' (Walked.place-kept k.table (Known k) (values k) p s h.0 h.1) a) (mr k (made_by_place p) (made_by e) m)
        (updated-ready k s' a.followed operator p at e t h.3).0,
    (updated-ready k s' a.followed operator p at e t h.3).1,
  )
  value-ready k w (typed.Call f at arguments t) s s' h a m q = (
    value-ready k w f s h.0 h.1 (at-left k s h.0 s' (Walked.arguments-kept k.table (Known k) (values k) arguments h.0 s' h.2).stays a)
        (ml k (made_by f) (made_by_arguments arguments) m) (plain-suits k f h.3.pointer.plain),
    arguments-ready k w arguments h.0 s' h.2 (at-right k s h.0 s' (Walked.value-kept k.table (Known k) (values k) f s h.0 h.1) a)
        (mr k (made_by f) (made_by_arguments arguments) m)
        (zip-all (IsArgument k.table) (Suits k) (argument-suits k) h.3.parameters (listed_arguments arguments) h.3.each),
    h.3,
    a.calls,
  )
  value-ready k w (typed.CallRuntime function f at arguments t) s s' h a m q = (
    arguments-ready k w arguments h.0 s' h.2 (at-right k s h.0 s' (Walked.value-kept k.table (Known k) (values k) f s h.0 h.1) a)
        (mr k (made_by f) (made_by_arguments arguments) m)
        (zip-all (IsRuntimeArgument k.table) (Suits k) (runtime-suits k) (prototype_of function).parameters (listed_arguments arguments)
        h.3.call.each),
    h.3,
    a.calls,
  )
  value-ready k w (typed.Allocate function f at arguments n t) s s' h a m q = (
    arguments-ready k w arguments h.0 s' h.2 (at-right k s h.0 s' (Walked.value-kept k.table (Known k) (values k) f s h.0 h.1) a)
        (mr k (made_by f) (made_by_arguments arguments) (ml k ((made_by f) ++ (made_by_arguments arguments)) (Address n ∷ []) m))
        (zip-all (IsRuntimeArgument k.table) (Suits k) (runtime-suits k) (prototype_of function).parameters (listed_arguments arguments)
        h.3.call.each),
    All-head (IsMade k) (Address n) [] (mr k ((made_by f) ++ (made_by_arguments arguments)) (Address n ∷ []) m),
    h.3,
    a.calls,
  )
  value-ready k w (typed.AllocateFor function f at arguments t) s s' h a m q = (
    arguments-ready k w arguments h.0 s' h.2 (at-right k s h.0 s' (Walked.value-kept k.table (Known k) (values k) f s h.0 h.1) a)
        (mr k (made_by f) (made_by_arguments arguments) m)
        (zip-all (IsRuntimeArgument k.table) (Suits k) (runtime-suits k) (prototype_of function).parameters (listed_arguments arguments)
        h.3.call.each),
    h.3,
    q,
    a.calls,
  )

  pub place-ready : (k : Context) → IsFormed k → (p : TypedPlace) (s s' : Scopes) → IsPlace k.table p s s' → At k s s'
      → AreMade k (made_by_place p) → IsReadyPlace k p
  place-ready k w (typed.Variable name home t) s s' h a m =
      seen-of k.table (Known k) name.bytes (declared.Object t home) s.levels a.names h.1
  place-ready k w (typed.String pieces home t) s s' h a m =
      (All-head (IsMade k) (Literal pieces home t) [] m, h.1)
  place-ready k w (typed.ParenPlace at p) s s' h a m =
      place-ready k w p s s' h a m
  place-ready k w (typed.Target at e t) s s' h a m =
      (value-ready k w e s s' h.0 a m (plain-suits k e h.1.pointer.plain), h.1.pointer, whole-at k s' a.followed t h.1.complete)
  place-ready k w (typed.Element which b at c t) s s' h a m = (
    value-ready k w b s h.0 h.1 (at-left k s h.0 s' (Walked.value-kept k.table (Known k) (values k) c h.0 s' h.2).stays a)
        (ml k (made_by b) (made_by c) m) (side-suits k which b c h.3.pointer.plain h.3.integer.plain).0,
    value-ready k w c h.0 s' h.2 (at-right k s h.0 s' (Walked.value-kept k.table (Known k) (values k) b s h.0 h.1) a)
        (mr k (made_by b) (made_by c) m) (side-suits k which b c h.3.pointer.plain h.3.integer.plain).1,
    h.3.pointer,
    (h.3.kind, h.3.integer),
    whole-at k s' a.followed t h.3.complete,
  )
  place-ready k w (typed.Member p at name i n t) s s' h a m = (
    place-ready k w p s s' h.0 a (ml k (made_by_place p) (Address n ∷ []) m),
    member-ready k w s s' a (place_type p) name i n t h.1 (last-node k (made_by_place p) n m),
  )
  place-ready k w (typed.MemberAt e at name i n t) s s' h a m = (
    value-ready k w e s s' h.0 a (ml k (made_by e) (Address n ∷ []) m) (plain-suits k e h.1.pointer.plain),
    (h.1.whole, h.1.pointer, member-ready k w s s' a h.1.whole name i n t h.1.member (last-node k (made_by e) n m)),
  )
  place-ready k w (typed.StructAssign p at c) s s' h a m = (
    place-ready k w p s h.0 h.1 (at-left k s h.0 s' (Walked.place-kept k.table (Known k) (values k) c h.0 s' h.2).stays a)
        (ml k (made_by_place p) (made_by_place c) (ml k ((made_by_place p) ++ (made_by_place c)) (Copy (place_type p) ∷ []) m)),
    place-ready k w c h.0 s' h.2 (at-right k s h.0 s' (Walked.place-kept k.table (Known k) (values k) p s h.0 h.1) a)
        (mr k (made_by_place p) (made_by_place c) (ml k ((made_by_place p) ++ (made_by_place c)) (Copy (place_type p) ∷ []) m)),
    h.3.lvalue,
    one-struct k.table w (place_type p) (place_type c) h.3.types.aggregate h.3.types.same,
    h.3.types.aggregate,
  )
  place-ready k w (typed.StructConditional b at p c) s s' h a m = (
    value-ready k w b s h.0 h.2
        (at-left k s h.0 h.1 (Walked.place-kept k.table (Known k) (values k) p h.0 h.1 h.3).stays
        (at-left k s h.1 s' (Walked.place-kept k.table (Known k) (values k) c h.1 s' h.4).stays a))
        (ml k (made_by b) (made_by_place p) (ml k ((made_by b) ++ (made_by_place p)) (made_by_place c) m)) (plain-suits k b h.5.plain),
    place-ready k w p h.0 h.1 h.3
        (at-left k h.0 h.1 s' (Walked.place-kept k.table (Known k) (values k) c h.1 s' h.4).stays
        (at-right k s h.0 s' (Walked.value-kept k.table (Known k) (values k) b s h.0 h.2) a))
        (mr k (made_by b) (made_by_place p) (ml k ((made_by b) ++ (made_by_place p)) (made_by_place c) m)),
    place-ready k w c h.1 s' h.4
        (at-right k h.0 h.1 s' (Walked.place-kept k.table (Known k) (values k) p h.0 h.1 h.3)
        (at-right k s h.0 s' (Walked.value-kept k.table (Known k) (values k) b s h.0 h.2) a))
        (mr k ((made_by b) ++ (made_by_place p)) (made_by_place c) m),
    h.5,
    one-struct k.table w (place_type p) (place_type c) h.6.aggregate h.6.same,
    h.6.aggregate,
  )
  place-ready k w (typed.StructComma e p) s s' h a m = (
    value-ready k w e s h.0 h.1 (at-left k s h.0 s' (Walked.place-kept k.table (Known k) (values k) p h.0 s' h.2).stays a)
        (ml k (made_by e) (made_by_place p) m) (droppable-suits k e h.3),
    place-ready k w p h.0 s' h.2 (at-right k s h.0 s' (Walked.value-kept k.table (Known k) (values k) e s h.0 h.1) a)
        (mr k (made_by e) (made_by_place p) m),
    h.3,
    h.4,
  )

  pub arguments-ready : (k : Context) → IsFormed k → (all : TypedArguments) (s s' : Scopes) → AreTyped k.table all s s' → At k s s'
      → AreMade k (made_by_arguments all) → All (Suits k) (listed_arguments all) → AreReady k all
  arguments-ready k w typed.NoArgument s s' h a m q = tt
  arguments-ready k w (typed.AndArgument all e) s s' h a m q = (
    arguments-ready k w all s h.0 h.1 (at-left k s h.0 s' (Walked.value-kept k.table (Known k) (values k) e h.0 s' h.2).stays a)
        (ml k (made_by_arguments all) (made_by e) m) (listed-left k all e q).0,
    value-ready k w e h.0 s' h.2 (at-right k s h.0 s' (Walked.arguments-kept k.table (Known k) (values k) all s h.0 h.1) a)
        (mr k (made_by_arguments all) (made_by e) m) (listed-left k all e q).1,
  )

  pub type_name-ready : (k : Context) → IsFormed k → k.runs ≡ false → (name : TypedTypeName) (s s' : Scopes) → IsTypeName k.table name s s'
      → At k s s' → AreMade k (made_by_type_name name) → IsReadyTypeName k name
  type_name-ready k w u (typed.Named specifiers d t) s s' h a m = (
    specifiers-ready k w u specifiers s h.0 h.1 (at-left k s h.0 s' (Walked.declared-kept k.table (Known k) (values k) d h.0 s' h.2).stays a)
        (ml k (made_by_specifiers specifiers) (made_by_declared d t) m),
    declared-ready k w u d t h.0 s' h.2 (at-right k s h.0 s' (Walked.specifiers-kept k.table (Known k) (values k) specifiers s h.0 h.1) a)
        (mr k (made_by_specifiers specifiers) (made_by_declared d t) m),
    declared-in k.table s' d Written (specified_type specifiers) t (specified-in k.table specifiers s h.0 h.1) h.4,
  )

  pub specifiers-ready : (k : Context) → IsFormed k → k.runs ≡ false → (all : TypedSpecifiers) (s s' : Scopes) → AreSpecifiers k.table all s s'
      → At k s s' → AreMade k (made_by_specifiers all) → AreReadySpecifiers k all
  specifiers-ready k w u (typed.Specified list t) s s' h a m = listed-ready k w u list s s' h.0 a m

  pub listed-ready : (k : Context) → IsFormed k → k.runs ≡ false → (list : TypedSpecifierList) (s s' : Scopes) → AreListed k.table list s s'
      → At k s s' → AreMade k (made_by_specifier_list list) → AreReadyListed k list
  listed-ready k w u typed.NoSpecifier s s' h a m = tt
  listed-ready k w u (typed.AndSpecifier all one) s s' h a m = (
    listed-ready k w u all s h.0 h.1 (at-left k s h.0 s' (Walked.specifier-kept k.table (Known k) (values k) one h.0 s' h.2).stays a)
        (ml k (made_by_specifier_list all) (made_by_specifier one) m),
    specifier-ready k w u one h.0 s' h.2 (at-right k s h.0 s' (Walked.listed-kept k.table (Known k) (values k) all s h.0 h.1) a)
        (mr k (made_by_specifier_list all) (made_by_specifier one) m),
  )

  pub specifier-ready : (k : Context) → IsFormed k → k.runs ≡ false → (one : TypedSpecifier) (s s' : Scopes) → IsSpecifier k.table one s s'
      → At k s s' → AreMade k (made_by_specifier one) → IsReadySpecifier k one
  specifier-ready k w u (typed.Keyword word) s s' h a m = tt
  specifier-ready k w u (typed.Typedef name t) s s' h a m = tt
  specifier-ready k w u (typed.Tagged which at name t) s s' h a m = Walked.tagged-aggregate k.table (Known k) (values k) which name t s s' a.names h
  specifier-ready k w u (typed.Aggregate which at name brace members t) s s' h a m =
      let e = ended-whole k members t h.1 s' h.4 in (
        members-ready k w u members h.0 h.1 h.3
            (at-right k s h.0 h.1 (Walked.begun-kept k.table (Known k) (values k) (tag_named_here s name) which name t s h.0 h.2)
            (at-left k s h.1 s' (Walked.ended-kept k.table (Known k) (values k) members t h.1 s' h.4).stays a)) m,
        e.0,
        e.1,
        Walked.begun-kind k.table (Known k) (values k) name which t s h.0 a.names h.2,
      )
  specifier-ready k w u (typed.Enum at name) s s' h a m = tt
  specifier-ready k w u (typed.Enumeration at name brace all comma) s s' h a m =
      enumerators-ready k w u all (enumerating name s) h.0 h.1
      (at-right k s (enumerating name s) h.0 (Walked.enumerating-kept k.table (Known k) (values k) name s)
      (at-left k s h.0 s' (Walked.enumerated-kept k.table (Known k) (values k) name h.0 s' h.2).stays a)) m

  pub members-ready : (k : Context) → IsFormed k → k.runs ≡ false → (all : TypedMembers) (s s' : Scopes) → AreMembers k.table all s s' → At k s s'
      → AreMade k (made_by_members all) → AreReadyMembers k all
  members-ready k w u typed.NoMember s s' h a m = tt
  members-ready k w u (typed.AndMember all specifiers ds) s s' h a m =
      let x = made_by_members all in
      let y = made_by_specifiers specifiers in
      let z = made_by_member_declarators ds in
      let first = Walked.members-kept k.table (Known k) (values k) all s h.0 h.2 in
      let second = Walked.specifiers-kept k.table (Known k) (values k) specifiers h.0 h.1 h.3 in
      let third = Walked.member_declarators-kept k.table (Known k) (values k) (specified_type specifiers) ds h.1 s' h.4 in (
        members-ready k w u all s h.0 h.2 (at-left k s h.0 h.1 second.stays (at-left k s h.1 s' third.stays a)) (ml k x y (ml k (x ++ y) z m)),
        specifiers-ready k w u specifiers h.0 h.1 h.3 (at-left k h.0 h.1 s' third.stays (at-right k s h.0 s' first a)) (mr k x y (ml k (x ++ y) z m)),
        member_declarators-ready k w u (specified_type specifiers) ds h.1 s' h.4 (at-right k h.0 h.1 s' second (at-right k s h.0 s' first a))
            (mr k (x ++ y) z m),
      )

  pub member_declarators-ready : (k : Context) → IsFormed k → k.runs ≡ false → (base : TypeId) (all : TypedMemberDeclarators) (s s' : Scopes)
      → AreMemberDeclarators k.table base all s s' → At k s s'
      → AreMade k (made_by_member_declarators all) → AreReadyMemberDeclarators k all
  member_declarators-ready k w u base typed.NoDeclarator s s' h a m = tt
  member_declarators-ready k w u base (typed.AndDeclarator all (typed.Declares form t)) s s' h a m = (
    member_declarators-ready k w u base all s h.0 h.1 (at-left k s h.0 s' (Walked.form-kept k.table (Known k) (values k) form h.0 s' h.2).stays a)
        (ml k (made_by_member_declarators all) (made_by_form form t) m),
    form-ready k w u form t h.0 s' h.2 (at-right k s h.0 s' (Walked.member_declarators-kept k.table (Known k) (values k) base all s h.0 h.1) a)
        (mr k (made_by_member_declarators all) (made_by_form form t) m),
    whole-at k s' a.followed t h.5,
  )

  pub enumerators-ready : (k : Context) → IsFormed k → k.runs ≡ false → (all : TypedEnumerators) (s s' : Scopes) → AreEnumerators k.table all s s'
      → At k s s' → AreMade k (made_by_enumerators all) → AreReadyEnumerators k all
  enumerators-ready k w u typed.NoEnumerator s s' h a m = tt
  enumerators-ready k w u (typed.AndEnumerator all name value) s s' h a m =
      enumerators-ready k w u all s h.0 h.1
      (at-left k s h.0 s' (Walked.enumerator-kept k.table (Known k) (values k) name.bytes value h.0 s' h.3).stays a) m
  enumerators-ready k w u (typed.AndValued all name at e value) s s' h a m =
      let first = Walked.enumerators-kept k.table (Known k) (values k) all s h.0 h.2 in
      let second = Walked.value-kept k.table (Known k) (values k) e h.0 h.1 h.3 in
      let third = Walked.enumerator-kept k.table (Known k) (values k) name.bytes value h.1 s' h.5 in (
        enumerators-ready k w u all s h.0 h.2 (at-left k s h.0 h.1 second.stays (at-left k s h.1 s' third.stays a))
            (ml k (made_by_enumerators all) (made_by e) m),
        value-ready k w e h.0 h.1 h.3 (at-left k h.0 h.1 s' third.stays (at-right k s h.0 s' first a)) (mr k (made_by_enumerators all) (made_by e) m)
            (plain-suits k e h.4.plain),
      )

  pub form-ready : (k : Context) → IsFormed k → k.runs ≡ false → (form : TypedForm) (t : TypeId) (s s' : Scopes) → IsForm k.table form s s'
      → At k s s' → AreMade k (made_by_form form t) → IsReadyForm k form
  form-ready k w u (typed.Form stars core parts) t s s' h a m =
      let m2 = ml k (made_by_stars stars ++ made_by_core core t) (made_by_parts parts) m in (
        core-ready k w u core t s h.0 h.1 (at-left k s h.0 s' (Walked.parts-kept k.table (Known k) (values k) parts h.0 s' h.2).stays a)
            (mr k (made_by_stars stars) (made_by_core core t) m2),
        parts-ready k w u parts h.0 s' h.2 (at-right k s h.0 s' (Walked.core-kept k.table (Known k) (values k) core s h.0 h.1) a)
            (mr k (made_by_stars stars ++ made_by_core core t) (made_by_parts parts) m),
      )

  pub core-ready : (k : Context) → IsFormed k → k.runs ≡ false → (core : TypedCore) (t : TypeId) (s s' : Scopes) → IsCore k.table core s s'
      → At k s s' → AreMade k (made_by_core core t) → IsReadyCore k core
  core-ready k w u (typed.Names name home) t s s' h a m = tt
  core-ready k w u typed.Unnamed t s s' h a m = tt
  core-ready k w u (typed.Nested at form) t s s' h a m = form-ready k w u form t s s' h a m

  pub parts-ready : (k : Context) → IsFormed k → k.runs ≡ false → (parts : TypedParts) (s s' : Scopes) → AreParts k.table parts s s' → At k s s'
      → AreMade k (made_by_parts parts) → AreReadyParts k parts
  parts-ready k w u typed.NoPart s s' h a m = tt
  parts-ready k w u (typed.AndArray all at words) s s' h a m = parts-ready k w u all s s' h a m
  parts-ready k w u (typed.AndSizedArray all at words e size) s s' h a m = (
    parts-ready k w u all s h.0 h.1 (at-left k s h.0 s' (Walked.value-kept k.table (Known k) (values k) e h.0 s' h.2).stays a)
        (ml k (made_by_parts all) (made_by e) m),
    value-ready k w e h.0 s' h.2 (at-right k s h.0 s' (Walked.parts-kept k.table (Known k) (values k) all s h.0 h.1) a)
        (mr k (made_by_parts all) (made_by e) m) (plain-suits k e h.3),
  )
  parts-ready k w u (typed.AndFunction all at ps) s s' h a m =
      let first = Walked.parts-kept k.table (Known k) (values k) all s h.0 h.2 in
      let inside = Walked.parameters-outer k.table (Known k) (values k) (is_void_list ps) ps (entering h.0) h.1 h.3 in
      let whole = Walked.left-kept k.table (Known k) (values k) h.0 h.1 s' inside h.4 in
      let begins = at-right k s h.0 s' first a in
      let within : At k (entering h.0) h.1 = record {
        names = entered-of k.table (Known k) h.0.levels begins.names;
        defined = begins.defined;
        followed = λ t c. begins.followed t (subst (λ (q : Scopes). is_complete_at k.table q t ≡ true) (sym h.4) c);
        lengths = λ t n g x. subst (λ (q : Scopes). length (members_named q n) ≡ length (members_at k.table t)) h.4
            (begins.lengths t n g (subst (λ (q : Scopes). is_empty (members_named q n) ≡ false) (sym h.4) x));
        calls = begins.calls;
        definitions = begins.definitions;
      } in (
        parts-ready k w u all s h.0 h.2 (at-left k s h.0 s' whole.stays a) (ml k (made_by_parts all) (made_by_parameters ps) m),
        (parameters-ready k w u (is_void_list ps) ps (void-names ps) (entering h.0) h.1 h.3 within
            (mr k (made_by_parts all) (made_by_parameters ps) m)).0,
      )

  pub parameters-ready : (k : Context) → IsFormed k → k.runs ≡ false → (void : Bool) (all : TypedParameters) → (void ≡ true → HasNoNames all)
      → (s s' : Scopes) → AreParameters k.table void all s s' → At k s s'
      → AreMade k (made_by_parameters all) → AreReadyParameters k all × AreDeclared k.table (Known k) s'.levels
  parameters-ready k w u void typed.NoParameter none s s' h a m =
      (tt, subst (λ (q : Scopes). AreDeclared k.table (Known k) q.levels) (sym h) a.names)
  parameters-ready k w u void (typed.AndParameter all specifiers d adjusted t) none s s' h a m =
      let x = made_by_parameters all in
      let y = made_by_specifiers specifiers in
      let z = made_by_declared d t in
      let v = made_by_adjusted adjusted in
      let mz3 = ml k (x ++ y ++ z) v m in
      let my = mr k x y (ml k (x ++ y) z mz3) in
      let mz = mr k (x ++ y) z mz3 in
      let first = Walked.parameters-outer k.table (Known k) (values k) void all s h.0 h.3 in
      let second = Walked.specifiers-kept k.table (Known k) (values k) specifiers h.0 h.1 h.4 in
      let third = Walked.declared-kept k.table (Known k) (values k) d h.1 h.2 h.5 in
      let fourth = Walked.parameter-outer k.table (Known k) (values k) d t h.2 s' h.9 in
      let before = parameters-ready k w u void all (λ q. (none q).0) s h.0 h.3
      (at-left k s h.0 h.1 second.stays (at-left k s h.1 h.2 third.stays (at-left k s h.2 s' fourth a))) (ml k x y (ml k (x ++ y) z mz3)) in
      let behind = at-names k s h.0 s' before.1 first a in
      let own = specifiers-ready k w u specifiers h.0 h.1 h.4 (at-left k h.0 h.1 h.2 third.stays (at-left k h.0 h.2 s' fourth behind)) my in
      let then = at-right k h.0 h.1 s' second behind in
      let one = declared-ready k w u d t h.1 h.2 h.5 (at-left k h.1 h.2 s' fourth then) mz in (
        (before.0, own, one, taken-in void k.table h.2 t h.8),
        parameter-named k u void d (λ q. (none q).1) t h.2 h.2 s' h.8 h.9 mz (at-right k h.1 h.2 s' third then).names,
      )

  pub declared-ready : (k : Context) → IsFormed k → k.runs ≡ false → (d : TypedDeclared) (t : TypeId) (s s' : Scopes) → IsDeclared k.table d s s'
      → At k s s' → AreMade k (made_by_declared d t) → IsReadyDeclared k d
  declared-ready k w u typed.NotDeclared t s s' h a m = tt
  declared-ready k w u (typed.DeclaredBy form) t s s' h a m = form-ready k w u form t s s' h a m

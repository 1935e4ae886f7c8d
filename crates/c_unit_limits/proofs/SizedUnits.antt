-- Each literal in a well typed unit has the size of its type.
use Rattle.std.proofs.Common.{Bool, true, false, [], ◌∷◌, ◌++◌, Option, Some, None}
use Rattle.cc_base.specs.declared.number.TypeId.{TypeId}
use Rattle.c_types.specs.Sound.{IsWellFormed}
use Rattle.c_types.specs.Table.{Table}
use Rattle.c_tree.specs.TypedTree as typed
use Rattle.c_tree.specs.TypedTree.{TypedExpr, TypedForm, TypedInitDeclarators, TypedDeclaration, TypedStatement, TypedBlockItems, TypedTranslationUnit}
use Rattle.c_tree.specs.TypedParts.{type_of, specified_type, made_by, made_by_form, made_by_init_declarators, made_by_declaration, made_by_optional, made_by_statement, made_by_block_items, made_by_unit}
use Rattle.c_typing.specs.Scopes.{Scopes, entering, innermost}
use Rattle.c_typing.specs.Typing.{IsForm}
use Rattle.c_unit_typing.specs.Units.{Known, Storage, Around, storage_of, with_scopes, entering_known, leaving_known, in_a_loop, in_a_switch, AreDeclarators, IsDeclaration, IsTested, IsTestedOrNone, IsStatement, AreBlockItems, going_on, IsUnitTyped}
use Rattle.c_unit_limits.proofs.LastingDeclarations.{alone-alike}
use Rattle.c_unit_limits.proofs.LastingSteps.{dropped-alike, returned-alike, initialiser-alike}
use Rattle.c_unit_limits.proofs.StaticsMade.{AreSized, nothing-sized, two-sized, value-alike, specifiers-alike, form-alike}

module _ (T : Table) (w : IsWellFormed T) where
  form_sized : (form : TypedForm) (t : TypeId) (s s' : Scopes) → IsForm T form s s' → AreSized T (made_by_form form t)
  form_sized form t s s' h = (form-alike T w form t s s' h).sized

  declarators_sized : (file : Bool) (storage : Storage) (base : TypeId) (all : TypedInitDeclarators) (k k' : Known) → AreDeclarators T file storage base all k k'
      → AreSized T (made_by_init_declarators all)
  declarators_sized file storage base typed.NoInitDeclarator k k' h = nothing-sized T
  declarators_sized file storage base (typed.AndPlain all (typed.Declares form t)) k k' h =
      two-sized T (declarators_sized file storage base all k h.0 h.1) (form_sized form t h.0.scopes h.2.inside h.2.parts)
  declarators_sized file storage base (typed.AndInitialised all (typed.Declares form t) at i) k k' h =
      two-sized T (two-sized T (declarators_sized file storage base all k h.0 h.3) (form_sized form t h.0.scopes h.4.inside h.4.parts))
      (initialiser-alike T w i at t h.1.scopes h.2 h.5).sized

  declaration_sized : (file : Bool) (d : TypedDeclaration) (k k' : Known) → IsDeclaration T file d k k' → AreSized T (made_by_declaration d)
  declaration_sized file (typed.Declare x typed.NoInitDeclarator) k k' h = two-sized T (alone-alike T w x k.scopes h.0 h.1).sized (nothing-sized T)
  declaration_sized file (typed.Declare x (typed.AndPlain all d)) k k' h =
      two-sized T (specifiers-alike T w x k.scopes h.0 h.1).sized (declarators_sized file (storage_of x) (specified_type x) (typed.AndPlain all d) (with_scopes k h.0) k' h.2)
  declaration_sized file (typed.Declare x (typed.AndInitialised all d at i)) k k' h =
      two-sized T (specifiers-alike T w x k.scopes h.0 h.1).sized (declarators_sized file (storage_of x) (specified_type x) (typed.AndInitialised all d at i) (with_scopes k h.0) k' h.2)

  tested_sized : (e : TypedExpr) (k k' : Known) → IsTested T e k k' → AreSized T (made_by e)
  tested_sized e k k' h = (value-alike T w e k.scopes h.0 h.1).sized

  tested_or_none_sized : (e : Option TypedExpr) (k k' : Known) → IsTestedOrNone T e k k' → AreSized T (made_by_optional e)
  tested_or_none_sized None k k' h = nothing-sized T
  tested_or_none_sized (Some e) k k' h = tested_sized e k k' h

  mutual
    statement_sized : (x : TypedStatement) (a : Around) (k k' : Known) → IsStatement T a x k k' → AreSized T (made_by_statement x)
    statement_sized (typed.Block brace items) a k k' h = items_sized items a None (entering_known k) h.0 h.1
    statement_sized (typed.Express e) a k k' h = (dropped-alike T w (Some e) k k' h).sized
    statement_sized typed.Empty a k k' h = nothing-sized T
    statement_sized (typed.If at paren c s) a k k' h = two-sized T (tested_sized c (entering_known k) h.0 h.2) (statement_sized s a (entering_known h.0) h.1 h.3)
    statement_sized (typed.IfElse at paren c s r) a k k' h =
        two-sized T (two-sized T (tested_sized c (entering_known k) h.0 h.3) (statement_sized s a (entering_known h.0) h.1 h.4))
        (statement_sized r a (entering_known (leaving_known h.1)) h.2 h.5)
    statement_sized (typed.Switch at paren e brace items) a k k' h =
        two-sized T (value-alike T w e (entering k.scopes) h.0 h.2).sized (items_sized items (in_a_switch a) (Some (type_of e)) (entering_known (with_scopes k h.0)) h.1 h.4)
    statement_sized (typed.While at paren c s) a k k' h = two-sized T (tested_sized c (entering_known k) h.0 h.2) (statement_sized s (in_a_loop a) (entering_known h.0) h.1 h.3)
    statement_sized (typed.DoWhile s at paren c) a k k' h =
        two-sized T (statement_sized s (in_a_loop a) (entering_known (entering_known k)) h.0 h.2) (tested_sized c (leaving_known h.0) h.1 h.3)
    statement_sized (typed.For at paren first test step s) a k k' h =
        two-sized T (two-sized T (two-sized T (dropped-alike T w first (entering_known k) h.0 h.4).sized (tested_or_none_sized test h.0 h.1 h.5)) (dropped-alike T w step h.1 h.2 h.6).sized)
        (statement_sized s (in_a_loop a) (entering_known h.2) h.3 h.7)
    statement_sized (typed.ForDeclaration at paren d test step s) a k k' h =
        two-sized T (two-sized T (two-sized T (declaration_sized false d (entering_known k) h.0 h.4) (tested_or_none_sized test h.0 h.1 h.5)) (dropped-alike T w step h.1 h.2 h.6).sized)
        (statement_sized s (in_a_loop a) (entering_known h.2) h.3 h.7)
    statement_sized (typed.Break at) a k k' h = nothing-sized T
    statement_sized (typed.Continue at) a k k' h = nothing-sized T
    statement_sized (typed.Return at e) a k k' h = (returned-alike T w at a.result e k k' h).sized

    items_sized : (all : TypedBlockItems) (a : Around) (on : Option TypeId) (k k' : Known) → AreBlockItems T a on all k k' → AreSized T (made_by_block_items all)
    items_sized typed.NoBlockItem a on k k' h = nothing-sized T
    items_sized (typed.AndStatement all s) a on k k' h = two-sized T (items_sized all a on k h.0 h.1) (statement_sized s a h.0 k' h.2)
    items_sized (typed.AndDeclaration all d) a on k k' h = two-sized T (items_sized all a on k h.0 h.1) (declaration_sized false d h.0 k' h.2)
    items_sized (typed.AndCase all at e value) a on k k' h = two-sized T (items_sized all a on k h.0 h.2) (value-alike T w e h.0.scopes h.1 h.3).sized
    items_sized (typed.AndDefault all at) a on k k' h = items_sized all a on k k' h

  pub unit-sized : (u : TypedTranslationUnit) (k k' : Known) → IsUnitTyped T u k k' → AreSized T (made_by_unit u)
  unit-sized typed.NoExternal k k' h = nothing-sized T
  unit-sized (typed.AndExternal u d) k k' h = two-sized T (unit-sized u k h.0 h.1) (declaration_sized true d h.0 k' h.2)
  unit-sized (typed.AndFunctionBody u x (typed.Declares form t) brace body) k k' h =
      let d = h.2 in
      two-sized T (two-sized T (two-sized T (unit-sized u k h.0 h.1) (specifiers-alike T w x h.0.scopes d.before d.specified).sized) (form_sized form t d.before d.declares.inside d.declares.parts))
      (items_sized body (record { result = d.result; in_loop = false; breakable = false }) None (record d.declared {
        scopes = going_on (innermost d.inside.levels) d.declared.scopes;
        defined = d.declared.defined ++ d.name.bytes ∷ [];
      }) d.after d.statements)

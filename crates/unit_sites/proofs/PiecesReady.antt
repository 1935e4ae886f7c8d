-- What is ready is so in all of its pieces: what holds of each ready expression, place and specifier holds of each piece of a ready unit.
use Rattle.std.specs.List.{All}
use Rattle.std.proofs.Common.{ℕ, ◌≡◌, ◌∙◌, refl, ap, sym, subst, Bool, true, List, [], ◌∷◌, ◌++◌, Option, Some, None}
use Rattle.std.proofs.lemmas.List.Elements.{All-nil, All-cons, All-append}
use Rattle.cc_base.specs.declared.number.NodeId.{NodeId}
use Rattle.cc_base.specs.declared.number.TypeId.{TypeId}
use Rattle.c_types.specs.Table.{Table}
use Rattle.c_tree.specs.declared.typed_word.Home.{Home}
use Rattle.c_tree.specs.declared.typed_word.Home.TheVariants as home
use Rattle.c_tree.specs.TypedTree as typed
use Rattle.c_tree.specs.TypedTree.{TypedExpr, TypedPlace, TypedArguments, TypedTypeName, TypedSpecifiers, TypedSpecifierList, TypedSpecifier, TypedMembers, TypedMemberDeclarators, TypedEnumerators, TypedDeclarator, TypedForm, TypedCore, TypedParts, TypedParameters, TypedDeclared, TypedInitialiser, TypedItems, TypedInitDeclarators, TypedDeclaration, TypedStatement, TypedBlockItems, TypedTranslationUnit}
use Rattle.c_tree.specs.TypedParts.{home_of, home_of_form, type_of, home_node}
use Rattle.c_ready.specs.Rows.{Around, in_a_loop, in_a_switch}
use Rattle.c_ready.specs.Ready.{IsNode, IsReadyHome, Stage, Named, unread, IsReady, IsReadyPlace, AreReady, IsReadyTypeName, AreReadySpecifiers, AreReadyListed, IsReadySpecifier, AreReadyMembers, AreReadyMemberDeclarators, AreReadyEnumerators, IsReadyForm, IsReadyCore, AreReadyParts, AreReadyParameters, IsReadyDeclared, IsReadyInitialiser, AreReadyItems, initialised_in, AreReadyDeclarators, IsReadyDeclaration, IsReadyOptional, IsReadyTestOrNone, IsReadyReturn, IsReadyStatement, AreReadyBlockItems, AreReadyExternals, variables_named}
use Rattle.c_ready.proofs.Basics.{some-same}
use Rattle.src_machine.specs.Pieces.{Piece, AnExpression, APlace, ASpecifier, AnInitialiser, pieces_of, pieces_of_place, pieces_of_arguments, pieces_of_type_name, pieces_of_specifiers, pieces_of_specifier_list, pieces_of_specifier, pieces_of_members, pieces_of_member_declarators, pieces_of_enumerators, pieces_of_form, pieces_of_core, pieces_of_parts, pieces_of_parameters, pieces_of_declared, pieces_of_initialiser, pieces_of_items, pieces_of_init_declarators, pieces_of_declaration, pieces_of_optional, pieces_of_statement, pieces_of_block_items, pieces_of_unit}

-- the home of an object is a node
node-of-home : (k : Stage) (h : Home) (t : TypeId) → IsReadyHome k h t → (n : NodeId) → home_node h ≡ Some n → IsNode k n
node-of-home k home.None t r n e = absurd (cc (e))
node-of-home k (home.Parameter m) t r n e = absurd r
node-of-home k (home.Static m) t r n e = subst (IsNode k) (some-same m n e) r.0
node-of-home k (home.Known m) t r n e = subst (IsNode k) (some-same m n e) r.0
node-of-home k (home.Local m) t r n e = subst (IsNode k) (some-same m n e) r.0

module _ (Q : Table → ℕ → Piece → Type 0)
    (of-value : (k : Stage) (e : TypedExpr) → IsReady k e → Q k.table k.nodes (AnExpression e))
    (of-place : (k : Stage) (p : TypedPlace) → IsReadyPlace k p → Q k.table k.nodes (APlace p))
    (of-specifier : (k : Stage) (x : TypedSpecifier) → IsReadySpecifier k x → Q k.table k.nodes (ASpecifier x))
    (of-initialiser : (k : Stage) (d : TypedDeclarator) (t : TypeId) (i : TypedInitialiser)
    → ((n : NodeId) → home_node (home_of d) ≡ Some n → IsNode k n) → IsReadyInitialiser k t i → Q k.table k.nodes (AnInitialiser d i)) where
  abbrev Are : Table → ℕ → List Piece → Type 0
  Are T n pieces = All (Q T n) pieces

  none : (T : Table) (n : ℕ) → Are T n []
  none T n = All-nil (Q T n)

  one : (T : Table) (n : ℕ) (x : Piece) → Q T n x → Are T n (x ∷ [])
  one T n x q = All-cons (Q T n) x [] q (All-nil (Q T n))

  both : (T : Table) (n : ℕ) (xs ys : List Piece) → Are T n xs → Are T n ys → Are T n (xs ++ ys)
  both T n xs ys p q = All-append (Q T n) xs ys p q

  own : (k : Stage) (e : TypedExpr) → IsReady k e → Are k.table k.nodes (AnExpression e ∷ [])
  own k e r = one k.table k.nodes (AnExpression e) (of-value k e r)

  own-place : (k : Stage) (p : TypedPlace) → IsReadyPlace k p → Are k.table k.nodes (APlace p ∷ [])
  own-place k p r = one k.table k.nodes (APlace p) (of-place k p r)

  -- an expression of two operands, with or without a piece of its own
  values : (k : Stage) (a b : TypedExpr) → Are k.table k.nodes (pieces_of a) → Are k.table k.nodes (pieces_of b)
      → Are k.table k.nodes (pieces_of a ++ pieces_of b)
  values k a b p q = both k.table k.nodes (pieces_of a) (pieces_of b) p q

  with-own : (k : Stage) (xs : List Piece) (e : TypedExpr) → Are k.table k.nodes xs → IsReady k e → Are k.table k.nodes (xs ++ AnExpression e ∷ [])
  with-own k xs e p r = both k.table k.nodes xs (AnExpression e ∷ []) p (own k e r)

  with-own_place : (k : Stage) (xs : List Piece) (p : TypedPlace) → Are k.table k.nodes xs → IsReadyPlace k p
      → Are k.table k.nodes (xs ++ APlace p ∷ [])
  with-own_place k xs p q r = both k.table k.nodes xs (APlace p ∷ []) q (own-place k p r)

  mutual
    pub value-pieces : (k : Stage) (e : TypedExpr) → IsReady k e → Are k.table k.nodes (pieces_of e)
    value-pieces k (typed.Integer of value at t) r = own k (typed.Integer of value at t) r
    value-pieces k (typed.Character value at t) r = own k (typed.Character value at t) r
    value-pieces k (typed.Enumerator name value t) r = own k (typed.Enumerator name value t) r
    value-pieces k (typed.FunctionName name f n t) r = own k (typed.FunctionName name f n t) r
    value-pieces k (typed.RuntimeName name f t) r = own k (typed.RuntimeName name f t) r
    value-pieces k (typed.Paren at e) r = value-pieces k e r
    value-pieces k (typed.Read p) r = place-pieces k p r.0
    value-pieces k (typed.Unread p) r = place-pieces k p r.0
    value-pieces k (typed.Decay p n t) r = with-own k (pieces_of_place p) (typed.Decay p n t) (place-pieces k p r.0) r
    value-pieces k (typed.Convert which at t e) r = with-own k (pieces_of e) (typed.Convert which at t e) (value-pieces k e r.0) r
    value-pieces k (typed.Cast which at to e) r =
        with-own k (pieces_of_type_name to ++ pieces_of e) (typed.Cast which at to e)
        (both k.table k.nodes (pieces_of_type_name to) (pieces_of e) (type_name-pieces (unread k) to r.0) (value-pieces k e r.1)) r
    value-pieces k (typed.AddressOf at p n t) r = with-own k (pieces_of_place p) (typed.AddressOf at p n t) (place-pieces k p r.0) r
    value-pieces k (typed.AddressOfElement at p t) r = place-pieces k p r.0
    value-pieces k (typed.AddressOfFunction at e) r = value-pieces k e r.0
    value-pieces k (typed.FunctionAt at e) r = value-pieces k e r.0
    value-pieces k (typed.Prefix operator at e t) r = value-pieces k e r.0
    value-pieces k (typed.SizeOfPlace at p size t) r = place-pieces (unread k) p r.0
    value-pieces k (typed.SizeOfValue at e size t) r = value-pieces (unread k) e r.0
    value-pieces k (typed.SizeOfType at paren name size t) r = type_name-pieces (unread k) name r.0
    value-pieces k (typed.StepBefore which at p) r = with-own k (pieces_of_place p) (typed.StepBefore which at p) (place-pieces k p r.0) r
    value-pieces k (typed.StepAfter p which at) r = with-own k (pieces_of_place p) (typed.StepAfter p which at) (place-pieces k p r.0) r
    value-pieces k (typed.Arithmetic operator a at b t) r = values k a b (value-pieces k a r.0) (value-pieces k b r.1)
    value-pieces k (typed.Moved operator which a at b t) r =
        with-own k (pieces_of a ++ pieces_of b) (typed.Moved operator which a at b t) (values k a b (value-pieces k a r.0) (value-pieces k b r.1)) r
    value-pieces k (typed.Difference a at b t) r =
        with-own k (pieces_of a ++ pieces_of b) (typed.Difference a at b t) (values k a b (value-pieces k a r.0) (value-pieces k b r.1)) r
    value-pieces k (typed.Compared operator a at b t) r =
        with-own k (pieces_of a ++ pieces_of b) (typed.Compared operator a at b t) (values k a b (value-pieces k a r.0) (value-pieces k b r.1)) r
    value-pieces k (typed.Logical operator a at b t) r = values k a b (value-pieces k a r.0) (value-pieces k b r.1)
    value-pieces k (typed.Conditional c at a b t) r =
        both k.table k.nodes (pieces_of c ++ pieces_of a) (pieces_of b) (values k c a (value-pieces k c r.0) (value-pieces k a r.1))
        (value-pieces k b r.2)
    value-pieces k (typed.PointerConditional c at a b n t) r =
        both k.table k.nodes (pieces_of c ++ pieces_of a) (pieces_of b) (values k c a (value-pieces k c r.0) (value-pieces k a r.1))
        (value-pieces k b r.2)
    value-pieces k (typed.Comma a b) r = values k a b (value-pieces k a r.0) (value-pieces k b r.1)
    value-pieces k (typed.Assign p at e) r = both k.table k.nodes (pieces_of_place p) (pieces_of e) (place-pieces k p r.0) (value-pieces k e r.1)
    value-pieces k (typed.AssignWith operator p at e t) r =
        with-own k (pieces_of_place p ++ pieces_of e) (typed.AssignWith operator p at e t)
        (both k.table k.nodes (pieces_of_place p) (pieces_of e) (place-pieces k p r.0) (value-pieces k e r.1)) r
    value-pieces k (typed.Call f at arguments t) r =
        both k.table k.nodes (pieces_of f) (pieces_of_arguments arguments) (value-pieces k f r.0) (arguments-pieces k arguments r.1)
    value-pieces k (typed.CallRuntime runtime f at arguments t) r = arguments-pieces k arguments r.0
    value-pieces k (typed.Allocate runtime f at arguments n t) r = arguments-pieces k arguments r.0
    value-pieces k (typed.AllocateFor runtime f at arguments t) r = arguments-pieces k arguments r.0

    pub place-pieces : (k : Stage) (p : TypedPlace) → IsReadyPlace k p → Are k.table k.nodes (pieces_of_place p)
    place-pieces k (typed.Variable name h t) r = none k.table k.nodes
    place-pieces k (typed.String pieces h t) r = own-place k (typed.String pieces h t) r
    place-pieces k (typed.ParenPlace at p) r = place-pieces k p r
    place-pieces k (typed.Target at e t) r = value-pieces k e r.0
    place-pieces k (typed.Element which a at b t) r =
        with-own_place k (pieces_of a ++ pieces_of b) (typed.Element which a at b t) (values k a b (value-pieces k a r.0) (value-pieces k b r.1)) r
    place-pieces k (typed.Member p at name i n t) r = with-own_place k (pieces_of_place p) (typed.Member p at name i n t) (place-pieces k p r.0) r
    place-pieces k (typed.MemberAt e at name i n t) r = with-own_place k (pieces_of e) (typed.MemberAt e at name i n t) (value-pieces k e r.0) r
    place-pieces k (typed.StructAssign p at q) r =
        with-own_place k (pieces_of_place p ++ pieces_of_place q) (typed.StructAssign p at q)
        (both k.table k.nodes (pieces_of_place p) (pieces_of_place q) (place-pieces k p r.0) (place-pieces k q r.1)) r
    place-pieces k (typed.StructConditional c at p q) r =
        with-own_place k (pieces_of c ++ pieces_of_place p ++ pieces_of_place q) (typed.StructConditional c at p q)
        (both k.table k.nodes (pieces_of c ++ pieces_of_place p) (pieces_of_place q)
        (both k.table k.nodes (pieces_of c) (pieces_of_place p) (value-pieces k c r.0) (place-pieces k p r.1)) (place-pieces k q r.2)) r
    place-pieces k (typed.StructComma e p) r = both k.table k.nodes (pieces_of e) (pieces_of_place p) (value-pieces k e r.0) (place-pieces k p r.1)

    pub arguments-pieces : (k : Stage) (all : TypedArguments) → AreReady k all → Are k.table k.nodes (pieces_of_arguments all)
    arguments-pieces k typed.NoArgument r = none k.table k.nodes
    arguments-pieces k (typed.AndArgument all e) r =
        both k.table k.nodes (pieces_of_arguments all) (pieces_of e) (arguments-pieces k all r.0) (value-pieces k e r.1)

    pub type_name-pieces : (k : Stage) (name : TypedTypeName) → IsReadyTypeName k name → Are k.table k.nodes (pieces_of_type_name name)
    type_name-pieces k (typed.Named specifiers d t) r =
        both k.table k.nodes (pieces_of_specifiers specifiers) (pieces_of_declared d) (specifiers-pieces k specifiers r.0) (declared-pieces k d r.1)

    pub specifiers-pieces : (k : Stage) (all : TypedSpecifiers) → AreReadySpecifiers k all → Are k.table k.nodes (pieces_of_specifiers all)
    specifiers-pieces k (typed.Specified list t) r = listed-pieces k list r

    pub listed-pieces : (k : Stage) (list : TypedSpecifierList) → AreReadyListed k list → Are k.table k.nodes (pieces_of_specifier_list list)
    listed-pieces k typed.NoSpecifier r = none k.table k.nodes
    listed-pieces k (typed.AndSpecifier all x) r =
        both k.table k.nodes (pieces_of_specifier_list all) (pieces_of_specifier x) (listed-pieces k all r.0) (specifier-pieces k x r.1)

    pub specifier-pieces : (k : Stage) (x : TypedSpecifier) → IsReadySpecifier k x → Are k.table k.nodes (pieces_of_specifier x)
    specifier-pieces k (typed.Keyword word) r = none k.table k.nodes
    specifier-pieces k (typed.Typedef name t) r = none k.table k.nodes
    specifier-pieces k (typed.Tagged which at name t) r = none k.table k.nodes
    specifier-pieces k (typed.Aggregate which at name brace members t) r =
        both k.table k.nodes (pieces_of_members members) (ASpecifier (typed.Aggregate which at name brace members t) ∷ [])
        (members-pieces k members r.0)
        (one k.table k.nodes (ASpecifier (typed.Aggregate which at name brace members t)) (of-specifier k
        (typed.Aggregate which at name brace members t) r))
    specifier-pieces k (typed.Enum at name) r = none k.table k.nodes
    specifier-pieces k (typed.Enumeration at name brace all comma) r = enumerators-pieces k all r

    pub members-pieces : (k : Stage) (all : TypedMembers) → AreReadyMembers k all → Are k.table k.nodes (pieces_of_members all)
    members-pieces k typed.NoMember r = none k.table k.nodes
    members-pieces k (typed.AndMember all specifiers ds) r =
        both k.table k.nodes (pieces_of_members all ++ pieces_of_specifiers specifiers) (pieces_of_member_declarators ds)
        (both k.table k.nodes (pieces_of_members all) (pieces_of_specifiers specifiers) (members-pieces k all r.0)
        (specifiers-pieces k specifiers r.1))
        (member_declarators-pieces k ds r.2)

    pub member_declarators-pieces : (k : Stage) (all : TypedMemberDeclarators) → AreReadyMemberDeclarators k all
        → Are k.table k.nodes (pieces_of_member_declarators all)
    member_declarators-pieces k typed.NoDeclarator r = none k.table k.nodes
    member_declarators-pieces k (typed.AndDeclarator all (typed.Declares form t)) r =
        both k.table k.nodes (pieces_of_member_declarators all) (pieces_of_form form) (member_declarators-pieces k all r.0) (form-pieces k form r.1)

    pub enumerators-pieces : (k : Stage) (all : TypedEnumerators) → AreReadyEnumerators k all → Are k.table k.nodes (pieces_of_enumerators all)
    enumerators-pieces k typed.NoEnumerator r = none k.table k.nodes
    enumerators-pieces k (typed.AndEnumerator all name value) r = enumerators-pieces k all r
    enumerators-pieces k (typed.AndValued all name at e value) r =
        both k.table k.nodes (pieces_of_enumerators all) (pieces_of e) (enumerators-pieces k all r.0) (value-pieces k e r.1)

    pub form-pieces : (k : Stage) (form : TypedForm) → IsReadyForm k form → Are k.table k.nodes (pieces_of_form form)
    form-pieces k (typed.Form stars core parts) r =
        both k.table k.nodes (pieces_of_core core) (pieces_of_parts parts) (core-pieces k core r.0) (parts-pieces k parts r.1)

    pub core-pieces : (k : Stage) (core : TypedCore) → IsReadyCore k core → Are k.table k.nodes (pieces_of_core core)
    core-pieces k (typed.Names name h) r = none k.table k.nodes
    core-pieces k typed.Unnamed r = none k.table k.nodes
    core-pieces k (typed.Nested at form) r = form-pieces k form r

    pub parts-pieces : (k : Stage) (parts : TypedParts) → AreReadyParts k parts → Are k.table k.nodes (pieces_of_parts parts)
    parts-pieces k typed.NoPart r = none k.table k.nodes
    parts-pieces k (typed.AndArray all at words) r = parts-pieces k all r
    parts-pieces k (typed.AndSizedArray all at words e size) r =
        both k.table k.nodes (pieces_of_parts all) (pieces_of e) (parts-pieces k all r.0) (value-pieces k e r.1)
    parts-pieces k (typed.AndFunction all at ps) r =
        both k.table k.nodes (pieces_of_parts all) (pieces_of_parameters ps) (parts-pieces k all r.0) (parameters-pieces k ps r.1)

    pub parameters-pieces : (k : Stage) (all : TypedParameters) → AreReadyParameters k all → Are k.table k.nodes (pieces_of_parameters all)
    parameters-pieces k typed.NoParameter r = none k.table k.nodes
    parameters-pieces k (typed.AndParameter all specifiers d adjusted t) r =
        both k.table k.nodes (pieces_of_parameters all ++ pieces_of_specifiers specifiers) (pieces_of_declared d)
        (both k.table k.nodes (pieces_of_parameters all) (pieces_of_specifiers specifiers) (parameters-pieces k all r.0)
        (specifiers-pieces k specifiers r.1)) (declared-pieces k d r.2)

    pub declared-pieces : (k : Stage) (d : TypedDeclared) → IsReadyDeclared k d → Are k.table k.nodes (pieces_of_declared d)
    declared-pieces k typed.NotDeclared r = none k.table k.nodes
    declared-pieces k (typed.DeclaredBy form) r = form-pieces k form r

  mutual
    pub initialiser-pieces : (k : Stage) (t : TypeId) (i : TypedInitialiser) → IsReadyInitialiser k t i
        → Are k.table k.nodes (pieces_of_initialiser i)
    initialiser-pieces k t (typed.Value e) r = value-pieces k e r.0
    initialiser-pieces k t (typed.Copied p at) r = place-pieces k p r.0
    initialiser-pieces k t (typed.Text pieces bytes) r = none k.table k.nodes
    initialiser-pieces k t (typed.Listed at items comma u) r = items-pieces k _ t items r.1

    pub items-pieces : (k : Stage) (text : Bool) (t : TypeId) (items : TypedItems) → AreReadyItems k text t items
        → Are k.table k.nodes (pieces_of_items items)
    items-pieces k text t typed.NoItem r = none k.table k.nodes
    items-pieces k text t (typed.AndItem all offset u i) r =
        both k.table k.nodes (pieces_of_items all) (pieces_of_initialiser i) (items-pieces k text t all r.0) (initialiser-pieces k u i r.1)

  optional-pieces : (k : Stage) (e : Option TypedExpr) → IsReadyOptional k e → Are k.table k.nodes (pieces_of_optional e)
  optional-pieces k None r = none k.table k.nodes
  optional-pieces k (Some e) r = value-pieces k e r.0

  test-pieces : (k : Stage) (e : Option TypedExpr) → IsReadyTestOrNone k e → Are k.table k.nodes (pieces_of_optional e)
  test-pieces k None r = none k.table k.nodes
  test-pieces k (Some e) r = value-pieces k e r.0

  return-pieces : (k : Stage) (t : TypeId) (e : Option TypedExpr) → IsReadyReturn k t e → Are k.table k.nodes (pieces_of_optional e)
  return-pieces k t None r = none k.table k.nodes
  return-pieces k t (Some e) r = value-pieces k e r.0

  module _ (static : Stage) where
    -- a part stands outside functions or in one
    abbrev inside : List Named → Stage
    inside variables = record static { variables = variables; calls = true }

    initialised-pieces : (vs : List Named) (h : Home) (t : TypeId) (i : TypedInitialiser)
        → IsReadyInitialiser (initialised_in h (inside vs) static) t i → Are static.table static.nodes (pieces_of_initialiser i)
    initialised-pieces vs (home.Local n) t i r = initialiser-pieces (inside vs) t i r
    initialised-pieces vs (home.Static n) t i r = initialiser-pieces static t i r
    initialised-pieces vs (home.Known n) t i r = initialiser-pieces static t i r
    initialised-pieces vs (home.Parameter n) t i r = initialiser-pieces static t i r
    initialised-pieces vs home.None t i r = initialiser-pieces static t i r

    own-initialiser : (vs : List Named) (d : TypedDeclarator) (h : Home) → home_of d ≡ h → (t : TypeId) (i : TypedInitialiser)
        → IsReadyHome (inside vs) h t → IsReadyInitialiser (initialised_in h (inside vs) static) t i
        → Q static.table static.nodes (AnInitialiser d i)
    own-initialiser vs d (home.Local m) e t i r q =
        of-initialiser (inside vs) d t i (λ n g. node-of-home (inside vs) (home.Local m) t r n (ap home_node (sym e) ∙ g)) q
    own-initialiser vs d (home.Static m) e t i r q =
        of-initialiser static d t i (λ n g. node-of-home (inside vs) (home.Static m) t r n (ap home_node (sym e) ∙ g)) q
    own-initialiser vs d (home.Known m) e t i r q =
        of-initialiser static d t i (λ n g. node-of-home (inside vs) (home.Known m) t r n (ap home_node (sym e) ∙ g)) q
    own-initialiser vs d home.None e t i r q =
        of-initialiser static d t i (λ n g. node-of-home (inside vs) home.None t r n (ap home_node (sym e) ∙ g)) q
    own-initialiser vs d (home.Parameter m) e t i r q = absurd r

    declarators-pieces : (vs : List Named) (all : TypedInitDeclarators) → AreReadyDeclarators (inside vs) static all
        → Are static.table static.nodes (pieces_of_init_declarators all)
    declarators-pieces vs typed.NoInitDeclarator r = none static.table static.nodes
    declarators-pieces vs (typed.AndPlain all (typed.Declares form t)) r =
        both static.table static.nodes (pieces_of_init_declarators all) (pieces_of_form form) (declarators-pieces vs all r.0)
        (form-pieces (unread (inside vs)) form r.1)
    declarators-pieces vs (typed.AndInitialised all (typed.Declares form t) at i) r =
        let x = pieces_of_init_declarators all in let y = pieces_of_form form in let z = pieces_of_initialiser i in
        both static.table static.nodes (x ++ y ++ z) (AnInitialiser (typed.Declares form t) i ∷ [])
        (both static.table static.nodes (x ++ y) z
        (both static.table static.nodes x y (declarators-pieces vs all r.0) (form-pieces (unread (inside vs)) form r.1))
        (initialised-pieces vs (home_of_form form) t i r.5))
        (one static.table static.nodes (AnInitialiser (typed.Declares form t) i) (own-initialiser vs (typed.Declares form t)
        (home_of_form form) refl t i r.3 r.5))

    declaration-pieces : (vs : List Named) (d : TypedDeclaration) → IsReadyDeclaration (inside vs) static d
        → Are static.table static.nodes (pieces_of_declaration d)
    declaration-pieces vs (typed.Declare specifiers all) r =
        both static.table static.nodes (pieces_of_specifiers specifiers) (pieces_of_init_declarators all) (specifiers-pieces (unread
        (inside vs)) specifiers r.0)
        (declarators-pieces vs all r.1)

    mutual
      statement-pieces : (vs : List Named) (a : Around) (s : TypedStatement) → IsReadyStatement (inside vs) static a s
          → Are static.table static.nodes (pieces_of_statement s)
      statement-pieces vs a (typed.Block at items) r = block_items-pieces vs a None items r
      statement-pieces vs a (typed.Express e) r = value-pieces (inside vs) e r.0
      statement-pieces vs a typed.Empty r = none static.table static.nodes
      statement-pieces vs a (typed.If at paren c s) r =
          both static.table static.nodes (pieces_of c) (pieces_of_statement s) (value-pieces (inside vs) c r.0.0) (statement-pieces vs a s r.1)
      statement-pieces vs a (typed.IfElse at paren c s q) r =
          both static.table static.nodes (pieces_of c ++ pieces_of_statement s) (pieces_of_statement q)
          (both static.table static.nodes (pieces_of c) (pieces_of_statement s) (value-pieces (inside vs) c r.0.0) (statement-pieces vs a s r.1))
          (statement-pieces vs a q r.2)
      statement-pieces vs a (typed.Switch at paren e brace items) r =
          both static.table static.nodes (pieces_of e) (pieces_of_block_items items) (value-pieces (inside vs) e r.0)
          (block_items-pieces vs (in_a_switch a) (Some (type_of e)) items r.2)
      statement-pieces vs a (typed.While at paren c s) r =
          both static.table static.nodes (pieces_of c) (pieces_of_statement s) (value-pieces (inside vs) c r.0.0) (statement-pieces vs
          (in_a_loop a) s r.1)
      statement-pieces vs a (typed.DoWhile s at paren c) r =
          both static.table static.nodes (pieces_of_statement s) (pieces_of c) (statement-pieces vs (in_a_loop a) s r.0) (value-pieces
          (inside vs) c r.1.0)
      statement-pieces vs a (typed.For at paren x y z s) r =
          both static.table static.nodes (pieces_of_optional x ++ pieces_of_optional y ++ pieces_of_optional z) (pieces_of_statement s)
          (both static.table static.nodes (pieces_of_optional x ++ pieces_of_optional y) (pieces_of_optional z)
          (both static.table static.nodes (pieces_of_optional x) (pieces_of_optional y) (optional-pieces (inside vs) x r.0) (test-pieces
          (inside vs) y r.1))
          (optional-pieces (inside vs) z r.2)) (statement-pieces vs (in_a_loop a) s r.3)
      statement-pieces vs a (typed.ForDeclaration at paren d y z s) r =
          both static.table static.nodes (pieces_of_declaration d ++ pieces_of_optional y ++ pieces_of_optional z) (pieces_of_statement s)
          (both static.table static.nodes (pieces_of_declaration d ++ pieces_of_optional y) (pieces_of_optional z)
          (both static.table static.nodes (pieces_of_declaration d) (pieces_of_optional y) (declaration-pieces vs d r.0) (test-pieces
          (inside vs) y r.1))
          (optional-pieces (inside vs) z r.2)) (statement-pieces vs (in_a_loop a) s r.3)
      statement-pieces vs a (typed.Break at) r = none static.table static.nodes
      statement-pieces vs a (typed.Continue at) r = none static.table static.nodes
      statement-pieces vs a (typed.Return at e) r = return-pieces (inside vs) a.result e r

      block_items-pieces : (vs : List Named) (a : Around) (on : Option TypeId) (items : TypedBlockItems)
          → AreReadyBlockItems (inside vs) static a on items → Are static.table static.nodes (pieces_of_block_items items)
      block_items-pieces vs a on typed.NoBlockItem r = none static.table static.nodes
      block_items-pieces vs a on (typed.AndStatement all s) r =
          both static.table static.nodes (pieces_of_block_items all) (pieces_of_statement s) (block_items-pieces vs a on all r.0)
          (statement-pieces vs a s r.1)
      block_items-pieces vs a on (typed.AndDeclaration all d) r =
          both static.table static.nodes (pieces_of_block_items all) (pieces_of_declaration d) (block_items-pieces vs a on all r.0)
          (declaration-pieces vs d r.1)
      block_items-pieces vs a on (typed.AndCase all at e value) r =
          both static.table static.nodes (pieces_of_block_items all) (pieces_of e) (block_items-pieces vs a on all r.0)
          (value-pieces (unread (inside vs)) e r.1)
      block_items-pieces vs a on (typed.AndDefault all at) r = block_items-pieces vs a on all r

    pub unit-pieces : (u : TypedTranslationUnit) → AreReadyExternals static u → Are static.table static.nodes (pieces_of_unit u)
    unit-pieces typed.NoExternal r = none static.table static.nodes
    unit-pieces (typed.AndExternal u d) r =
        both static.table static.nodes (pieces_of_unit u) (pieces_of_declaration d) (unit-pieces u r.0) (declaration-pieces static.variables d r.1)
    unit-pieces (typed.AndFunctionBody u specifiers (typed.Declares form t) brace body) r =
        let x = pieces_of_unit u in let y = pieces_of_specifiers specifiers in let z = pieces_of_form form in
        both static.table static.nodes (x ++ y ++ z) (pieces_of_block_items body)
        (both static.table static.nodes (x ++ y) z
        (both static.table static.nodes x y (unit-pieces u r.0) (specifiers-pieces (unread static) specifiers r.1)) (form-pieces
        (unread static) form r.2))
        (block_items-pieces (variables_named (record { declarator = typed.Declares form t; body = body })) _ None body r.4.body)

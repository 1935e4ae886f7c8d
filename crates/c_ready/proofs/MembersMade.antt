-- What pointer types may be of is made, and so are the nodes of member expressions, beside it: no node is made for two of them.
use Rattle.std.proofs.Common.{◌≡◌, ap, ◌∙◌, ℕ, ◌+◌, ◌≤◌, List, [], ◌∷◌, ◌++◌, flat_map, Option, Some, None, refl, arith}
use Rattle.cc_base.specs.declared.number.NodeId.{NodeId}
use Rattle.cc_base.specs.declared.number.TypeId.{TypeId}
use Rattle.c_tree.specs.TypedTree as typed
use Rattle.c_tree.specs.TypedTree.{TypedExpr, TypedPlace, TypedArguments, TypedTypeName, TypedSpecifiers, TypedSpecifierList, TypedSpecifier, TypedMembers, TypedMemberDeclarators, TypedEnumerators, TypedForm, TypedCore, TypedParts, TypedParameters, TypedDeclared, TypedInitialiser, TypedItems, TypedInitDeclarators, TypedDeclaration, TypedStatement, TypedBlockItems, TypedTranslationUnit}
use Rattle.c_tree.specs.TypedParts.{Made, Name, Literal, Address, Copy, place_type, made_by_stars, made_by_adjusted, made_by, made_by_place, made_by_arguments, made_by_type_name, made_by_specifiers, made_by_specifier_list, made_by_specifier, made_by_members, made_by_member_declarators, made_by_enumerators, made_by_form, made_by_core, made_by_parts, made_by_parameters, made_by_declared, made_by_initialiser, made_by_items, made_by_init_declarators, made_by_declaration, made_by_optional, made_by_statement, made_by_block_items, made_by_unit}
use Rattle.c_ready.proofs.NodesUsed.{makes}
use Rattle.c_ready.proofs.PointersMade as pointers
use Rattle.c_ready.proofs.Counting.{one}
use Rattle.c_ready.proofs.HomesApart.{occurs, occurs-none, occurs-node, occurs-append}
use Rattle.c_ready.proofs.Basics.{flat-both}
use Rattle.c_ready.specs.Ready.{member_node}
use Rattle.src_machine.specs.Pieces.{Piece, APlace, pieces_of, pieces_of_place, pieces_of_arguments, pieces_of_type_name, pieces_of_specifiers, pieces_of_specifier_list, pieces_of_specifier, pieces_of_members, pieces_of_member_declarators, pieces_of_enumerators, pieces_of_form, pieces_of_core, pieces_of_parts, pieces_of_parameters, pieces_of_declared, pieces_of_initialiser, pieces_of_items, pieces_of_init_declarators, pieces_of_declaration, pieces_of_optional, pieces_of_statement, pieces_of_block_items, pieces_of_unit}

module _ (n : ℕ) where
  makes-both : (xs ys : List Made) → makes n (xs ++ ys) ≡ makes n xs + makes n ys
  makes-both [] ys = omega arith
  makes-both (m ∷ ms) ys = let r = makes-both ms ys in omega (arith, r)

  -- how many member expressions have the node
  abbrev pub members : List Piece → ℕ
  members xs = occurs n (flat_map member_node xs)

  members-both : (xs ys : List Piece) → members (xs ++ ys) ≡ members xs + members ys
  members-both xs ys = ap (occurs n) (flat-both member_node xs ys) ∙ occurs-append n (flat_map member_node xs) (flat_map member_node ys)

  -- what pointer types may be of and members are all made
  pub record Less (p : List Made) (q : List Piece) (m : List Made) : Type 0 where
    pub few : makes n p + members q ≤ makes n m

  join : {p p' : List Made} {q q' : List Piece} {m m' : List Made} → Less p q m → Less p' q' m' → Less (p ++ p') (q ++ q') (m ++ m')
  join {p} {p'} {q} {q'} {m} {m'} a b = record { few = omega (arith, a.few, b.few, makes-both p p', makes-both m m', members-both q q') }

  all-made : (m : List Made) → Less m [] m
  all-made m = record { few = omega (arith, occurs-none n) }

  own : {p : List Made} {q : List Piece} {m : List Made} (x : Piece) → member_node x ≡ [] → Less p q m → Less p (q ++ x ∷ []) m
  own {p} {q} {m} x e h =
      let s : members (x ∷ []) ≡ 0 = ap (λ (ns : List ℕ). occurs n (ns ++ [])) e ∙ occurs-none n in
      record { few = omega (arith, s, h.few, members-both q (x ∷ [])) }

  address : {p : List Made} {q : List Piece} {m : List Made} (a : NodeId) → Less p q m → Less (p ++ Address a ∷ []) q (m ++ Address a ∷ [])
  address {p} {q} {m} a h = record { few = omega (arith, h.few, makes-both p (Address a ∷ []), makes-both m (Address a ∷ [])) }

  behind : {p : List Made} {q : List Piece} {m : List Made} (x : List Made) → Less p q m → Less (p ++ x) q (m ++ x)
  behind {p} {q} {m} x h = record { few = omega (arith, h.few, makes-both p x, makes-both m x) }

  before : {p : List Made} {q : List Piece} {m : List Made} (x : List Made) → Less p q m → Less (x ++ p) q (x ++ m)
  before {p} {q} {m} x h = record { few = omega (arith, h.few, makes-both x p, makes-both x m) }

  -- the first of two parts has no pieces of its own
  quiet : {p p' : List Made} {q q' : List Piece} {m m' : List Made} → Less p q m → Less p' q' m' → Less (p ++ p') q' (m ++ m')
  quiet {p} {p'} {q} {q'} {m} {m'} a b = record { few = omega (arith, a.few, b.few, makes-both p p', makes-both m m') }

  member : {p : List Made} {q : List Piece} {m : List Made} (x : Piece) (a : NodeId) → member_node x ≡ a.0 ∷ [] → Less p q m
      → Less p (q ++ x ∷ []) (m ++ Address a ∷ [])
  member {p} {q} {m} x a e h =
      let s : members (x ∷ []) ≡ one n a = ap (λ (ns : List ℕ). occurs n (ns ++ [])) e ∙ occurs-node n a in
      record { few = omega (arith, h.few, makes-both m (Address a ∷ []), s, members-both q (x ∷ [])) }

  mutual
    value-less : (e : TypedExpr) → Less (pointers.made_by e) (pieces_of e) (made_by e)
    value-less (typed.Integer of value at t) = own _ refl (all-made [])
    value-less (typed.Character value at t) = own _ refl (all-made [])
    value-less (typed.Enumerator name value t) = own _ refl (all-made [])
    value-less (typed.RuntimeName name function t) = own _ refl (all-made [])
    value-less (typed.FunctionName name number m t) = own _ refl (all-made (Address m ∷ []))
    value-less (typed.Paren at e) = value-less e
    value-less (typed.Convert which at t e) = own _ refl (value-less e)
    value-less (typed.AddressOfFunction at e) = value-less e
    value-less (typed.FunctionAt at e) = value-less e
    value-less (typed.Prefix operator at e t) = value-less e
    value-less (typed.SizeOfValue at e size t) = value-less e
    value-less (typed.Read p) = place-less p
    value-less (typed.Unread p) = place-less p
    value-less (typed.AddressOfElement at p t) = place-less p
    value-less (typed.SizeOfPlace at p size t) = place-less p
    value-less (typed.StepBefore operator at p) = own _ refl (place-less p)
    value-less (typed.StepAfter p operator at) = own _ refl (place-less p)
    value-less (typed.Decay p m t) = own _ refl (address m (place-less p))
    value-less (typed.AddressOf at p m t) = own _ refl (address m (place-less p))
    value-less (typed.SizeOfType at paren name size t) = type_name-less name
    value-less (typed.Cast which at to e) = own _ refl (join (type_name-less to) (value-less e))
    value-less (typed.Arithmetic operator a at b t) = join (value-less a) (value-less b)
    value-less (typed.Moved operator which a at b t) = own _ refl (join (value-less a) (value-less b))
    value-less (typed.Difference a at b t) = own _ refl (join (value-less a) (value-less b))
    value-less (typed.Compared operator a at b t) = own _ refl (join (value-less a) (value-less b))
    value-less (typed.Logical operator a at b t) = join (value-less a) (value-less b)
    value-less (typed.Comma a b) = join (value-less a) (value-less b)
    value-less (typed.Conditional c at a b t) = join (join (value-less c) (value-less a)) (value-less b)
    value-less (typed.PointerConditional c at a b m t) = address m (join (join (value-less c) (value-less a)) (value-less b))
    value-less (typed.Assign p at e) = join (place-less p) (value-less e)
    value-less (typed.AssignWith operator p at e t) = own _ refl (join (place-less p) (value-less e))
    value-less (typed.Call f at arguments t) = join (value-less f) (arguments-less arguments)
    value-less (typed.CallRuntime function f at arguments t) = quiet (value-less f) (arguments-less arguments)
    value-less (typed.AllocateFor function f at arguments t) = quiet (value-less f) (arguments-less arguments)
    value-less (typed.Allocate function f at arguments m t) = address m (quiet (value-less f) (arguments-less arguments))

    place-less : (p : TypedPlace) → Less (pointers.made_by_place p) (pieces_of_place p) (made_by_place p)
    place-less (typed.Variable name home t) = all-made []
    place-less (typed.String pieces home t) = own _ refl (all-made (Literal pieces home t ∷ []))
    place-less (typed.ParenPlace at p) = place-less p
    place-less (typed.Target at e t) = value-less e
    place-less (typed.Element which a at b t) = own _ refl (join (value-less a) (value-less b))
    place-less (typed.Member p at name i m t) = member (APlace (typed.Member p at name i m t)) m refl (place-less p)
    place-less (typed.MemberAt e at name i m t) = member (APlace (typed.MemberAt e at name i m t)) m refl (value-less e)
    place-less (typed.StructAssign p at q) = own _ refl (behind (Copy (place_type p) ∷ []) (join (place-less p) (place-less q)))
    place-less (typed.StructConditional c at p q) = own _ refl (join (join (value-less c) (place-less p)) (place-less q))
    place-less (typed.StructComma e p) = join (value-less e) (place-less p)

    arguments-less : (all : TypedArguments) → Less (pointers.made_by_arguments all) (pieces_of_arguments all) (made_by_arguments all)
    arguments-less typed.NoArgument = all-made []
    arguments-less (typed.AndArgument all e) = join (arguments-less all) (value-less e)

    type_name-less : (name : TypedTypeName) → Less (pointers.made_by_type_name name) (pieces_of_type_name name) (made_by_type_name name)
    type_name-less (typed.Named specifiers d t) = join (specifiers-less specifiers) (declared-less d t)

    specifiers-less : (all : TypedSpecifiers) → Less (pointers.made_by_specifiers all) (pieces_of_specifiers all) (made_by_specifiers all)
    specifiers-less (typed.Specified list t) = listed-less list

    listed-less : (list : TypedSpecifierList)
        → Less (pointers.made_by_specifier_list list) (pieces_of_specifier_list list) (made_by_specifier_list list)
    listed-less typed.NoSpecifier = all-made []
    listed-less (typed.AndSpecifier all one) = join (listed-less all) (specifier-less one)

    specifier-less : (x : TypedSpecifier) → Less (pointers.made_by_specifier x) (pieces_of_specifier x) (made_by_specifier x)
    specifier-less (typed.Keyword word) = all-made []
    specifier-less (typed.Typedef name t) = all-made []
    specifier-less (typed.Tagged which at name t) = all-made []
    specifier-less (typed.Aggregate which at name brace members t) = own _ refl (members-less members)
    specifier-less (typed.Enum at name) = all-made []
    specifier-less (typed.Enumeration at name brace all comma) = enumerators-less all

    members-less : (all : TypedMembers) → Less (pointers.made_by_members all) (pieces_of_members all) (made_by_members all)
    members-less typed.NoMember = all-made []
    members-less (typed.AndMember all specifiers ds) = join (join (members-less all) (specifiers-less specifiers)) (member_declarators-less ds)

    member_declarators-less : (all : TypedMemberDeclarators)
        → Less (pointers.made_by_member_declarators all) (pieces_of_member_declarators all) (made_by_member_declarators all)
    member_declarators-less typed.NoDeclarator = all-made []
    member_declarators-less (typed.AndDeclarator all (typed.Declares form t)) = join (member_declarators-less all) (form-less form t)

    enumerators-less : (all : TypedEnumerators) → Less (pointers.made_by_enumerators all) (pieces_of_enumerators all) (made_by_enumerators all)
    enumerators-less typed.NoEnumerator = all-made []
    enumerators-less (typed.AndEnumerator all name value) = enumerators-less all
    enumerators-less (typed.AndValued all name at e value) = join (enumerators-less all) (value-less e)

    form-less : (form : TypedForm) (t : TypeId) → Less (pointers.made_by_form form t) (pieces_of_form form) (made_by_form form t)
    form-less (typed.Form stars core parts) t = join (before (made_by_stars stars) (core-less core t)) (parts-less parts)

    core-less : (core : TypedCore) (t : TypeId) → Less (pointers.made_by_core core t) (pieces_of_core core) (made_by_core core t)
    core-less (typed.Names name home) t = all-made (Name name home t ∷ [])
    core-less typed.Unnamed t = all-made []
    core-less (typed.Nested at form) t = form-less form t

    parts-less : (parts : TypedParts) → Less (pointers.made_by_parts parts) (pieces_of_parts parts) (made_by_parts parts)
    parts-less typed.NoPart = all-made []
    parts-less (typed.AndArray all at words) = parts-less all
    parts-less (typed.AndSizedArray all at words e size) = join (parts-less all) (value-less e)
    parts-less (typed.AndFunction all at ps) = join (parts-less all) (parameters-less ps)

    parameters-less : (all : TypedParameters) → Less (pointers.made_by_parameters all) (pieces_of_parameters all) (made_by_parameters all)
    parameters-less typed.NoParameter = all-made []
    parameters-less (typed.AndParameter all specifiers d adjusted t) =
        behind (made_by_adjusted adjusted) (join (join (parameters-less all) (specifiers-less specifiers)) (declared-less d t))

    declared-less : (d : TypedDeclared) (t : TypeId) → Less (pointers.made_by_declared d t) (pieces_of_declared d) (made_by_declared d t)
    declared-less typed.NotDeclared t = all-made []
    declared-less (typed.DeclaredBy form) t = form-less form t

  mutual
    initialiser-less : (i : TypedInitialiser) → Less (pointers.made_by_initialiser i) (pieces_of_initialiser i) (made_by_initialiser i)
    initialiser-less (typed.Value e) = value-less e
    initialiser-less (typed.Copied p at) = behind (Copy (place_type p) ∷ []) (place-less p)
    initialiser-less (typed.Text pieces bytes) = all-made []
    initialiser-less (typed.Listed at items comma t) = items-less items

    items-less : (all : TypedItems) → Less (pointers.made_by_items all) (pieces_of_items all) (made_by_items all)
    items-less typed.NoItem = all-made []
    items-less (typed.AndItem all offset t i) = join (items-less all) (initialiser-less i)

  declarators-less : (all : TypedInitDeclarators)
      → Less (pointers.made_by_init_declarators all) (pieces_of_init_declarators all) (made_by_init_declarators all)
  declarators-less typed.NoInitDeclarator = all-made []
  declarators-less (typed.AndPlain all (typed.Declares form t)) = join (declarators-less all) (form-less form t)
  declarators-less (typed.AndInitialised all (typed.Declares form t) at i) =
      own _ refl (join (join (declarators-less all) (form-less form t)) (initialiser-less i))

  declaration-less : (d : TypedDeclaration) → Less (pointers.made_by_declaration d) (pieces_of_declaration d) (made_by_declaration d)
  declaration-less (typed.Declare specifiers all) = join (specifiers-less specifiers) (declarators-less all)

  optional-less : (e : Option TypedExpr) → Less (pointers.made_by_optional e) (pieces_of_optional e) (made_by_optional e)
  optional-less None = all-made []
  optional-less (Some e) = value-less e

  mutual
    statement-less : (s : TypedStatement) → Less (pointers.made_by_statement s) (pieces_of_statement s) (made_by_statement s)
    statement-less (typed.Block at items) = block-less items
    statement-less (typed.Express e) = value-less e
    statement-less typed.Empty = all-made []
    statement-less (typed.If at paren c s) = join (value-less c) (statement-less s)
    statement-less (typed.IfElse at paren c s r) = join (join (value-less c) (statement-less s)) (statement-less r)
    statement-less (typed.Switch at paren e brace items) = join (value-less e) (block-less items)
    statement-less (typed.While at paren c s) = join (value-less c) (statement-less s)
    statement-less (typed.DoWhile s at paren c) = join (statement-less s) (value-less c)
    statement-less (typed.For at paren a b c s) = join (join (join (optional-less a) (optional-less b)) (optional-less c)) (statement-less s)
    statement-less (typed.ForDeclaration at paren d b c s) =
        join (join (join (declaration-less d) (optional-less b)) (optional-less c)) (statement-less s)
    statement-less (typed.Break at) = all-made []
    statement-less (typed.Continue at) = all-made []
    statement-less (typed.Return at e) = optional-less e

    block-less : (all : TypedBlockItems) → Less (pointers.made_by_block_items all) (pieces_of_block_items all) (made_by_block_items all)
    block-less typed.NoBlockItem = all-made []
    block-less (typed.AndStatement all s) = join (block-less all) (statement-less s)
    block-less (typed.AndDeclaration all d) = join (block-less all) (declaration-less d)
    block-less (typed.AndCase all at e value) = join (block-less all) (value-less e)
    block-less (typed.AndDefault all at) = block-less all

  pub unit-less : (u : TypedTranslationUnit) → Less (pointers.made_by_unit u) (pieces_of_unit u) (made_by_unit u)
  unit-less typed.NoExternal = all-made []
  unit-less (typed.AndExternal u d) = join (unit-less u) (declaration-less d)
  unit-less (typed.AndFunctionBody u specifiers (typed.Declares form t) brace items) =
      join (join (join (unit-less u) (specifiers-less specifiers)) (form-less form t)) (block-less items)

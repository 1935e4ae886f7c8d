-- Which refusal a unit gets that is not well typed: its parts are judged in the order of the text, and the first rule that is broken is
-- named. A statement's own rule comes after those of its parts, a declarator before its initialiser, a function's name before its body.
use Rattle.std.specs.Prelude.{◌≡◌, ◌≤◌, ◌⊎◌, ◌==◌, ℕ, ◌+◌, ℤ, Bool, true, false, not, ◌&&◌, ◌||◌, nat_lt, List, [], ◌∷◌, ◌++◌, length, Option, None, Some, if◌then◌else◌}
use Rattle.std.specs.List.{list_any}
use Rattle.std.specs.Ordering.{int_eq}
use Rattle.cc_base.specs.declared.place.Place.{Place}
use Rattle.cc_base.specs.declared.number.NodeId.{NodeId}
use Rattle.cc_base.specs.declared.number.TypeId.{TypeId}
use Rattle.cc_base.specs.declared.fault.Fault.{Fault}
use Rattle.cc_base.specs.declared.fault.Fault.TheVariants.{Refused}
use Rattle.cc_base.specs.declared.fault.Rule.TheVariants as rule
use Rattle.c_types.specs.declared.shape.TypeShape.{TypeShape}
use Rattle.c_types.specs.declared.shape.TypeShape.TheVariants.{Integer, Function}
use Rattle.c_types.specs.Equality.{same_bool}
use Rattle.c_types.specs.Table.{Table, HasShape, shape_at, is_aggregate_shape}
use Rattle.c_types.specs.Sameness.{is_same_type}
use Rattle.c_tree.specs.Literals.{pieces_bytes}
use Rattle.c_tree.specs.declared.leaf.Identifier.{Identifier}
use Rattle.c_tree.specs.declared.leaf.StringPiece.{StringPiece}
use Rattle.c_tree.specs.declared.typed_word.Runtime.{Runtime}
use Rattle.c_tree.specs.Places.{expr_place, initialiser_place, nowhere}
use Rattle.c_tree.specs.Tree as tree
use Rattle.c_tree.specs.TypedTree as typed
use Rattle.c_tree.specs.TypedTree.{TypedExpr, TypedSpecifiers, TypedForm, TypedParameters, TypedItems, TypedInitDeclarators, TypedDeclaration, TypedStatement, TypedBlockItems, TypedTranslationUnit}
use Rattle.c_tree.specs.TypedParts.{place_type, type_of, specified_type, name_of_form, is_void_list}
use Rattle.c_tree.specs.Erasure.{erased, erased_specifiers, erased_form, erased_items, erased_init_declarators, erased_declaration, erased_optional, erased_statement, erased_block_items, erased_unit}
use Rattle.integers.specs.Arithmetic.{IntegerType, converted}
use Rattle.runtime_calls.specs.declared.function.RuntimeType.{RuntimeType}
use Rattle.runtime_calls.specs.declared.function.RuntimeType.TheVariants as prototype
use Rattle.runtime_calls.specs.Prototypes.{prototype_of, runtime_of}
use Rattle.c_typing.specs.Walks.{outermost_of}
use Rattle.c_typing.specs.declared.declared.Declared.{Declared}
use Rattle.c_typing.specs.declared.declared.Declared.TheVariants as declared
use Rattle.c_typing.specs.Shapes.{integer_at, is_integer_shape, is_scalar_shape, is_void_shape, is_function_shape}
use Rattle.c_typing.specs.Scopes.{Name, Scopes, here, innermost, entry_of, entering, leaving, is_complete_at}
use Rattle.c_typing.specs.Constants.{constant_value, with_value, is_void_pointer}
use Rattle.c_typing.specs.Conversions.{IsPlain}
use Rattle.c_typing.specs.Declarators.{Outermost, Written, FormMakes}
use Rattle.c_typing.specs.Typing.{IsTyped, AreSpecifiers, AreParameters, IsForm}
use Rattle.c_typing.specs.Integers.{promoted}
use Rattle.c_typing.specs.Judging.{integer_type}
use Rattle.c_typing.specs.Tests
use Rattle.c_typing.specs.Refusals.{Fails, IsElaborated, Refuses, After, name_place, RefusesSpecifiers, RefusesAlone, RefusesDeclarator, FormFails}
use Rattle.c_unit_typing.specs.InitialiserJudging.{is_only_literal, slot_type}
use Rattle.c_unit_typing.specs.Initialisers.{slot_of_shape, items_count, char_count_of_shape, is_char_array, is_constant, is_constant_place, AreItems, makes_chars}
use Rattle.c_unit_typing.specs.Units.{Known, Storage, AsTypedef, AsExtern, AsStatic, storage_of, with_scopes, is_one_of, is_linked_home, IsDeclarator, AreDeclarators, IsDeclaration, Around, in_a_loop, in_a_switch, IsDropped, entering_known, AreDifferent, labels_of, defaults_in, IsStatement, parameters_of_form, going_on, leaving_known, IsUnitTyped}
use Rattle.c_unit_typing.specs.WellTyped.{HasMain}

-- Initialisers (C99 6.7.8)

-- What is asked of an initialiser: whether it has to be constant, and the homes of what lives as long as the program.
pub record Asked : Type 0 where
  pub constant : Bool
  pub homes : List NodeId

-- a part that is constant once it is read: an array's address is, a variable's value is not
abbrev pub is_constant_part : Table → List NodeId → Tests.Elaborated → Bool
is_constant_part T homes (Tests.AsPlace p) = Tests.is_array_part T (Tests.AsPlace p) && is_constant_place T homes p
is_constant_part T homes (Tests.AsValue e) = is_constant T homes e
is_constant_part T homes (Tests.AsAllocation e) = false

-- a value of the type is what the part becomes, or a struct of the type
abbrev pub initialises_type : Table → TypeId → Tests.Elaborated → Bool
initialises_type T t (Tests.AsPlace p) = Tests.fits T (Tests.AsPlace p) (shape_at T t)
    || (is_aggregate_shape (shape_at T t) && is_same_type T t (place_type p))
initialises_type T t x = Tests.fits T x (shape_at T t)

-- a value that initialises the type; it is converted at the place
abbrev pub value_tests : Table → Asked → Place → Place → TypeId → Tests.Elaborated → List Tests.Test
value_tests T asked at begin t x =
    Tests.broken_at rule.Mismatch at (not (initialises_type T t x))
    ∷ Tests.broken_at rule.NotConstant begin (asked.constant && not (is_constant_part T asked.homes x))
    ∷ []

abbrev pub is_too_long : Option ℕ → List StringPiece → Bool
is_too_long None pieces = true
is_too_long (Some count) pieces = nat_lt count (length (pieces_bytes pieces))

-- a literal for an array of char, or a value
abbrev pub RefusesValue : Table → Asked → tree.Expr → Place → TypeId → Bool → Scopes → Fault → Type 0
RefusesValue T asked (tree.String pieces) at t true s f =
    Fails (Tests.broken_at rule.Mismatch at (is_too_long (char_count_of_shape T (shape_at T t)) pieces) ∷ []) f
RefusesValue T asked e at t of_char s f = Refuses T false e s f ⊎ After T e s (λ x m. Fails (value_tests T asked at (expr_place e) t x) f)

-- the type of the item with this number
abbrev pub item_type : Table → (text : Bool) → TypeId → ℕ → Option TypeId
item_type T true t i = Some t
item_type T false t i = slot_type (slot_of_shape T t (shape_at T t) i)

-- What there is no room for, and what stands in braces inside a scalar's braces, is judged all the same: each expression in it, in the order of
-- the text. It is refused afterwards.
abbrev mutual
  pub IsExcess : Table → tree.Initialiser → Scopes → Scopes → Type 0
  IsExcess T (tree.Value e) s s' = (x : Tests.Elaborated) × IsElaborated T e x s s'
  IsExcess T (tree.Listed brace items comma) s s' = AreExcess T items s s'

  pub AreExcess : Table → tree.Items → Scopes → Scopes → Type 0
  AreExcess T tree.NoItem s s' = s' ≡ s
  AreExcess T (tree.AndItem all i) s s' = (m : Scopes) × AreExcess T all s m × IsExcess T i m s'
  AreExcess T (tree.AndMemberDesignator all at) s s' = ⊥
  AreExcess T (tree.AndIndexDesignator all at) s s' = ⊥

abbrev mutual
  pub RefusesExcess : Table → tree.Initialiser → Scopes → Fault → Type 0
  RefusesExcess T (tree.Value e) s f = Refuses T false e s f
  RefusesExcess T (tree.Listed brace items comma) s f = RefusesAllExcess T items s f

  pub RefusesAllExcess : Table → tree.Items → Scopes → Fault → Type 0
  RefusesAllExcess T tree.NoItem s f = ⊥
  RefusesAllExcess T (tree.AndItem all i) s f = RefusesAllExcess T all s f ⊎ ((m : Scopes) × AreExcess T all s m × RefusesExcess T i m f)
  RefusesAllExcess T (tree.AndMemberDesignator all at) s f = ⊥
  RefusesAllExcess T (tree.AndIndexDesignator all at) s f = ⊥

-- braces that no type is for
abbrev pub RefusesBraces : Table → Place → tree.Items → Scopes → Fault → Type 0
RefusesBraces T brace items s f = RefusesAllExcess T items s f ⊎ ((m : Scopes) × AreExcess T items s m × (f ≡ Refused brace rule.Mismatch))

abbrev mutual
  -- `to` is the type, none where there are more items than there is room for; `single` says that a scalar's braces stand around it
  pub RefusesInitialiser : Table → Asked → tree.Initialiser → Place → (to : Option TypeId) → (single : Bool) → Scopes → Fault → Type 0
  RefusesInitialiser T asked (tree.Value e) at None single s f = Refuses T false e s f ⊎ After T e s (λ x m. f ≡ Refused at rule.Mismatch)
  RefusesInitialiser T asked (tree.Value e) at (Some t) single s f = RefusesValue T asked e at t (is_char_array T t) s f
  RefusesInitialiser T asked (tree.Listed brace items comma) at None single s f = RefusesBraces T brace items s f
  RefusesInitialiser T asked (tree.Listed brace items comma) at (Some t) true s f = RefusesBraces T brace items s f
  RefusesInitialiser T asked (tree.Listed brace items comma) at (Some t) false s f =
      RefusesItems T asked items t (is_only_literal items && is_char_array T t) s f

  pub RefusesItems : Table → Asked → tree.Items → TypeId → (text : Bool) → Scopes → Fault → Type 0
  RefusesItems T asked tree.NoItem t text s f = ⊥
  RefusesItems T asked (tree.AndItem all i) t text s f =
      RefusesItems T asked all t text s f
      ⊎ ((list : TypedItems) × (m : Scopes) × AreItems T list text t s m × (erased_items list ≡ all)
      × RefusesInitialiser T asked i (initialiser_place i) (item_type T text t (items_count list)) (is_scalar_shape (shape_at T t)) m f)
  RefusesItems T asked (tree.AndMemberDesignator all at) t text s f = ⊥
  RefusesItems T asked (tree.AndIndexDesignator all at) t text s f = ⊥

-- Statements (C99 6.8)

-- `if`, `while`, `do` and `for` want a scalar; the place is the keyword's
abbrev pub condition_tests : Table → Place → Tests.Elaborated → List Tests.Test
condition_tests T at x = Tests.broken_at rule.Mismatch at (not (is_scalar_shape (Tests.shape_of T x))) ∷ []

-- the condition of the statement at the place, or none, is no scalar
abbrev pub FailsTest : Table → Place → Option TypedExpr → Fault → Type 0
FailsTest T at None f = ⊥
FailsTest T at (Some c) f = Fails (condition_tests T at (Tests.AsValue c)) f

-- `return`: a value that fits the result, none where that is `void`
abbrev pub return_tests : Table → Place → TypeId → Tests.Elaborated → List Tests.Test
return_tests T at t x = Tests.broken_at rule.Mismatch at (not (Tests.fits T x (shape_at T t))) ∷ []

abbrev pub RefusesReturn : Table → Place → TypeId → Option tree.Expr → Scopes → Fault → Type 0
RefusesReturn T at t None s f = Fails (Tests.broken_at rule.Mismatch at (not (is_void_shape (shape_at T t))) ∷ []) f
RefusesReturn T at t (Some e) s f = Refuses T false e s f ⊎ After T e s (λ x m. Fails (return_tests T at t x) f)

-- `case`: a value that is constant, and that no label before it has; `labels` are those, in the type of the `switch`
abbrev pub label_tests : Table → (value : Option ℤ) → Place → Place → List ℤ → List Tests.Test
label_tests T None at begin labels = Tests.broken_at rule.NotConstant begin true ∷ []
label_tests T (Some z) at begin labels = Tests.broken_at rule.Redeclared at (list_any (λ each. int_eq z each) labels) ∷ []

-- `break` outside of a loop and a `switch`, `continue` outside of a loop
abbrev pub jump_tests : Place → (allowed : Bool) → List Tests.Test
jump_tests at allowed = Tests.broken_at rule.Mismatch at (not allowed) ∷ []

-- Declarations (C99 6.7)

-- a declaration of a name that does not agree with one before it
abbrev pub conflicts : Table → Option Declared → Declared → Bool
conflicts T None what = false
conflicts T (Some (declared.Object t n)) (declared.Object u m) = not (is_same_type T t u)
conflicts T (Some (declared.Function t)) (declared.Function u) = not (is_same_type T t u)
conflicts T (Some other) what = true

abbrev pub is_integer_of : TypeShape → ℕ → Bool → Bool
is_integer_of (Integer bytes signed) count sign = (bytes == count) && same_bool signed sign
is_integer_of shape count sign = false

abbrev pub is_runtime_type : Table → RuntimeType → TypeId → Bool
is_runtime_type T prototype.Void t = is_void_shape (shape_at T t)
is_runtime_type T prototype.Int t = is_integer_of (shape_at T t) 4 true
is_runtime_type T prototype.UnsignedLong t = is_integer_of (shape_at T t) 8 false
is_runtime_type T prototype.VoidPointer t = is_void_pointer T t

abbrev pub are_runtime_types : Table → List RuntimeType → List TypeId → Bool
are_runtime_types T [] [] = true
are_runtime_types T (r ∷ rs) (t ∷ ts) = is_runtime_type T r t && are_runtime_types T rs ts
are_runtime_types T rs ts = false

abbrev pub is_prototype_shape : Table → Runtime → TypeShape → Bool
is_prototype_shape T function (Function parameters result) =
    are_runtime_types T (prototype_of function).parameters parameters && is_runtime_type T (prototype_of function).result result
is_prototype_shape T function shape = false

-- a runtime function that is declared as something else
abbrev pub conflicts_with_runtime : Table → Option Runtime → Declared → Bool
conflicts_with_runtime T None what = false
conflicts_with_runtime T (Some function) (declared.Function t) = not (is_prototype_shape T function (shape_at T t))
conflicts_with_runtime T (Some function) what = true

-- what a declarator's name is declared as
abbrev pub declared_as : Table → Storage → TypeId → Declared
declared_as T AsTypedef t = declared.Typedef t
declared_as T storage t = if is_function_shape (shape_at T t) then declared.Function t else declared.Object t (record { 0 = 0 })

abbrev pub is_function_declared : Declared → Bool
is_function_declared (declared.Function t) = true
is_function_declared what = false

abbrev pub is_object : Declared → Bool
is_object (declared.Object t n) = true
is_object what = false

-- whether the name has linkage: at file scope, with `extern`, and that of a function (C99 6.2.2)
abbrev pub has_linkage : (file : Bool) → Storage → Declared → Bool
has_linkage file storage (declared.Function t) = true
has_linkage true storage (declared.Object t n) = true
has_linkage false AsExtern (declared.Object t n) = true
has_linkage file storage what = false

-- an object of the innermost scope that is not the one with linkage
abbrev pub is_unlinked : Option Declared → (linked : Option Declared) → Bool
is_unlinked (Some (declared.Object t n)) linked = not (is_linked_home linked n)
is_unlinked what linked = false

-- the name is declared before in a way that this declaration does not agree with, or defined before and again here
abbrev pub is_redeclared : Table → Known → (linked defines : Bool) → Name → Declared → Bool
is_redeclared T k true defines name what =
    conflicts T (here k.scopes.levels name) what
    || (is_unlinked (here k.scopes.levels name) (entry_of k.linked name)
    || (conflicts T (entry_of k.linked name) what
    || (conflicts_with_runtime T (runtime_of name) what || (defines && is_one_of k.defined name))))
is_redeclared T k false defines name what = Tests.has_some (here k.scopes.levels name)

-- the names of the six runtime functions belong to the file scope
abbrev pub is_taken_by_runtime : Table → (file : Bool) → Name → Declared → Bool
is_taken_by_runtime T file name what = file && conflicts_with_runtime T (runtime_of name) what

-- the rules of a declarator's name, once it has its type; only an object is defined by an initialiser
abbrev pub declared_tests : Table → Known → (file : Bool) → Storage → (initialised : Bool) → Name → TypeId → Place → List Tests.Test
declared_tests T k file storage initialised name t at =
    Tests.broken_at rule.Redeclared at
    (is_redeclared T k (has_linkage file storage (declared_as T storage t)) (initialised && is_object (declared_as T storage t)) name (declared_as T storage t)
    || is_taken_by_runtime T file name (declared_as T storage t))
    ∷ Tests.broken_at rule.Incomplete at (is_object (declared_as T storage t) && not (is_complete_at T k.scopes t))
    ∷ Tests.broken_at rule.Mismatch at (initialised && not (is_object (declared_as T storage t)))
    ∷ []

-- a declarator is refused: what stands in it, its type, or its name; one without a name, which no text has here, has no place
abbrev pub RefusesName : Table → (file : Bool) → Storage → TypeId → Outermost → (initialised : Bool) → tree.Declarator → Known → Fault → Type 0
RefusesName T file storage base outermost initialised d k f =
    RefusesDeclarator T d k.scopes f
    ⊎ ((form : TypedForm) × (s : Scopes) × IsForm T form k.scopes s × (erased_form form ≡ d)
    × (FormFails T s form outermost base (name_place (name_of_form form) nowhere) f
    ⊎ ((name : Identifier) × (t : TypeId) × (name_of_form form ≡ Some name) × FormMakes T s form outermost base t
    × Fails (declared_tests T (with_scopes k s) file storage initialised name.bytes t name.place) f)))

-- the size that an initialiser gives, as it is written
abbrev pub count_written : tree.Items → ℕ
count_written tree.NoItem = 0
count_written (tree.AndItem all i) = count_written all + 1
count_written (tree.AndMemberDesignator all at) = count_written all
count_written (tree.AndIndexDesignator all at) = count_written all

abbrev pub listed_written : Bool → tree.Items → ℕ
listed_written true (tree.AndItem tree.NoItem (tree.Value (tree.String pieces))) = length (pieces_bytes pieces) + 1
listed_written of_char items = count_written items

abbrev pub size_written : (of_char : Bool) → tree.Initialiser → Option ℕ
size_written true (tree.Value (tree.String pieces)) = Some (length (pieces_bytes pieces) + 1)
size_written of_char (tree.Value e) = None
size_written of_char (tree.Listed brace items comma) = Some (listed_written of_char items)

-- what lives as long as the program has a constant initialiser
abbrev pub is_lasting : (file : Bool) → Storage → Bool
is_lasting true storage = true
is_lasting false AsStatic = true
is_lasting false AsExtern = true
is_lasting false storage = false

abbrev pub RefusesDeclarators : Table → (file : Bool) → Storage → TypeId → tree.InitDeclarators → Known → Fault → Type 0
RefusesDeclarators T file storage base tree.NoInitDeclarator k f = ⊥
RefusesDeclarators T file storage base (tree.AndPlain all d) k f =
    RefusesDeclarators T file storage base all k f
    ⊎ ((list : TypedInitDeclarators) × (m : Known) × AreDeclarators T file storage base list k m × (erased_init_declarators list ≡ all)
    × RefusesName T file storage base Written false d m f)
RefusesDeclarators T file storage base (tree.AndInitialised all d at i) k f =
    RefusesDeclarators T file storage base all k f
    ⊎ ((list : TypedInitDeclarators) × (m : Known) × AreDeclarators T file storage base list k m × (erased_init_declarators list ≡ all)
    × (RefusesName T file storage base (outermost_of (size_written (makes_chars T base d) i)) true d m f
    ⊎ ((form : TypedForm) × (t : TypeId) × (n : Known) × IsDeclarator T file storage base (outermost_of (size_written (makes_chars T base d) i)) form t m n
    × (erased_form form ≡ d)
    × RefusesInitialiser T (record { constant = is_lasting file storage; homes = n.statics }) i at (Some t) false n.scopes f)))

abbrev pub RefusesDeclaration : Table → (file : Bool) → tree.Declaration → Known → Fault → Type 0
RefusesDeclaration T file (tree.Declare specifiers tree.NoInitDeclarator) k f = RefusesAlone T specifiers k.scopes f
RefusesDeclaration T file (tree.Declare specifiers all) k f =
    RefusesSpecifiers T specifiers k.scopes f
    ⊎ ((t : TypedSpecifiers) × (s : Scopes) × AreSpecifiers T t k.scopes s × (erased_specifiers t ≡ specifiers)
    × RefusesDeclarators T file (storage_of t) (specified_type t) all (with_scopes k s) f)

-- Statements

abbrev pub RefusesOptional : Table → Option tree.Expr → Scopes → Fault → Type 0
RefusesOptional T None s f = ⊥
RefusesOptional T (Some e) s f = Refuses T false e s f

-- an expression that is well typed by itself, or none, and what follows it
abbrev pub AfterValue : Table → tree.Expr → Known → (TypedExpr → Known → Type 0) → Type 0
AfterValue T e k Next = (c : TypedExpr) × (m : Known) × IsDropped T (Some c) k m × (erased c ≡ e) × Next c m

abbrev pub AfterDropped : Table → Option tree.Expr → Known → (Option TypedExpr → Known → Type 0) → Type 0
AfterDropped T e k Next = (c : Option TypedExpr) × (m : Known) × IsDropped T c k m × (erased_optional c ≡ e) × Next c m

abbrev pub AfterStatement : Table → Around → tree.Statement → Known → (Known → Type 0) → Type 0
AfterStatement T a s k Next = (t : TypedStatement) × (m : Known) × IsStatement T a t k m × (erased_statement t ≡ s) × Next m

-- the value of a label in the integer type of its `switch`; where that has another type, the value stays
abbrev pub converted_label : Option IntegerType → ℤ → ℤ
converted_label None z = z
converted_label (Some k) z = converted k z

abbrev pub label_value : Table → Option TypeId → Tests.Elaborated → Option ℤ
label_value T (Some t) (Tests.AsValue e) = with_value (constant_value T e) (λ z. Some (converted_label (integer_at T t) z))
label_value T on x = None

-- What a block holds is well typed, but that its `switch` may be on no integer: this is tried after all that the block holds.

abbrev pub IsLabelSoFar : Table → Option TypeId → TypedExpr → ℤ → Type 0
IsLabelSoFar T None e value = ⊥
IsLabelSoFar T (Some t) e value = (z : ℤ) × IsPlain e × (constant_value T e ≡ Some z) × (value ≡ converted_label (integer_at T t) z)

abbrev pub AreItemsSoFar : Table → Around → Option TypeId → TypedBlockItems → Known → Known → Type 0
AreItemsSoFar T a on typed.NoBlockItem k k' = k' ≡ k
AreItemsSoFar T a on (typed.AndStatement all s) k k' = (m : Known) × AreItemsSoFar T a on all k m × IsStatement T a s m k'
AreItemsSoFar T a on (typed.AndDeclaration all d) k k' = (m : Known) × AreItemsSoFar T a on all k m × IsDeclaration T false d m k'
AreItemsSoFar T a on (typed.AndCase all at e value) k k' =
    (m : Known) × (s : Scopes) × AreItemsSoFar T a on all k m × IsTyped T e m.scopes s × IsLabelSoFar T on e value × (k' ≡ with_scopes m s)
AreItemsSoFar T a on (typed.AndDefault all at) k k' = AreItemsSoFar T a on all k k'

-- they are, no two labels of them are alike, and what follows them is refused
abbrev pub AfterItems : Table → Around → Option TypeId → tree.BlockItems → Known → (TypedBlockItems → Known → Type 0) → Type 0
AfterItems T a on items k Next =
    (list : TypedBlockItems) × (m : Known) × AreItemsSoFar T a on list k m × AreDifferent (labels_of list) × (defaults_in list ≤ 1) × (erased_block_items list ≡ items)
    × Next list m

-- the type of a `switch`: that of its integer, promoted; any other type stays
abbrev pub promoted_type : Option IntegerType → TypeId → TypeId
promoted_type None t = t
promoted_type (Some k) t = integer_type (promoted k)

abbrev pub switch_type : Table → TypedExpr → TypeId
switch_type T c = promoted_type (integer_at T (type_of c)) (type_of c)

-- `switch` wants an integer
abbrev pub switch_tests : Table → Place → Tests.Elaborated → List Tests.Test
switch_tests T at x = Tests.broken_at rule.Mismatch at (not (is_integer_shape (Tests.shape_of T x))) ∷ []

abbrev mutual
  pub RefusesStatement : Table → Around → tree.Statement → Known → Fault → Type 0
  RefusesStatement T a (tree.Block brace items) k f = RefusesItemsOf T a None items (entering_known k) f
  RefusesStatement T a (tree.Express e) k f = Refuses T false e k.scopes f
  RefusesStatement T a tree.Empty k f = ⊥
  RefusesStatement T a (tree.If at paren c s) k f =
      Refuses T false c (entering k.scopes) f
      ⊎ AfterValue T c (entering_known k) (λ v m. RefusesStatement T a s (entering_known m) f
      ⊎ AfterStatement T a s (entering_known m) (λ n. FailsTest T at (Some v) f))
  RefusesStatement T a (tree.IfElse at paren c s r) k f =
      Refuses T false c (entering k.scopes) f
      ⊎ AfterValue T c (entering_known k) (λ v m. RefusesStatement T a s (entering_known m) f
      ⊎ AfterStatement T a s (entering_known m) (λ n. RefusesStatement T a r (entering_known (leaving_known n)) f
      ⊎ AfterStatement T a r (entering_known (leaving_known n)) (λ o. FailsTest T at (Some v) f)))
  RefusesStatement T a (tree.Switch at paren e brace items) k f =
      Refuses T false e (entering k.scopes) f
      ⊎ AfterValue T e (entering_known k) (λ v m. RefusesItemsOf T (in_a_switch a) (Some (switch_type T v)) items (entering_known m) f
      ⊎ AfterItems T (in_a_switch a) (Some (switch_type T v)) items (entering_known m) (λ list n. Fails (switch_tests T at (Tests.AsValue v)) f))
  RefusesStatement T a (tree.While at paren c s) k f =
      Refuses T false c (entering k.scopes) f
      ⊎ AfterValue T c (entering_known k) (λ v m. RefusesStatement T (in_a_loop a) s (entering_known m) f
      ⊎ AfterStatement T (in_a_loop a) s (entering_known m) (λ n. FailsTest T at (Some v) f))
  RefusesStatement T a (tree.DoWhile s at paren c) k f =
      RefusesStatement T (in_a_loop a) s (entering_known (entering_known k)) f
      ⊎ AfterStatement T (in_a_loop a) s (entering_known (entering_known k)) (λ m. Refuses T false c (leaving m.scopes) f
      ⊎ AfterValue T c (leaving_known m) (λ v n. FailsTest T at (Some v) f))
  RefusesStatement T a (tree.For at paren first test step s) k f =
      RefusesOptional T first (entering k.scopes) f
      ⊎ AfterDropped T first (entering_known k) (λ b l. RefusesOptional T test l.scopes f
      ⊎ AfterDropped T test l (λ c m. RefusesOptional T step m.scopes f
      ⊎ AfterDropped T step m (λ g n. RefusesStatement T (in_a_loop a) s (entering_known n) f
      ⊎ AfterStatement T (in_a_loop a) s (entering_known n) (λ o. FailsTest T at c f))))
  RefusesStatement T a (tree.ForDeclaration at paren d test step s) k f =
      RefusesDeclaration T false d (entering_known k) f
      ⊎ ((t : TypedDeclaration) × (l : Known) × IsDeclaration T false t (entering_known k) l × (erased_declaration t ≡ d)
      × (RefusesOptional T test l.scopes f
      ⊎ AfterDropped T test l (λ c m. RefusesOptional T step m.scopes f
      ⊎ AfterDropped T step m (λ g n. RefusesStatement T (in_a_loop a) s (entering_known n) f
      ⊎ AfterStatement T (in_a_loop a) s (entering_known n) (λ o. FailsTest T at c f)))))
  RefusesStatement T a (tree.Break at) k f = Fails (jump_tests at a.breakable) f
  RefusesStatement T a (tree.Continue at) k f = Fails (jump_tests at a.in_loop) f
  RefusesStatement T a (tree.Return at e) k f = RefusesReturn T at a.result e k.scopes f

  -- what a block holds; `on` is the type of the `switch` whose block it is
  pub RefusesItemsOf : Table → Around → Option TypeId → tree.BlockItems → Known → Fault → Type 0
  RefusesItemsOf T a on tree.NoBlockItem k f = ⊥
  RefusesItemsOf T a on (tree.AndStatement all s) k f = RefusesItemsOf T a on all k f ⊎ AfterItems T a on all k (λ list m. RefusesStatement T a s m f)
  RefusesItemsOf T a on (tree.AndDeclaration all d) k f =
      RefusesItemsOf T a on all k f ⊎ AfterItems T a on all k (λ list m. RefusesDeclaration T false d m f)
  RefusesItemsOf T a on (tree.AndCase all at e) k f =
      RefusesItemsOf T a on all k f
      ⊎ AfterItems T a on all k (λ list m. Refuses T false e m.scopes f
      ⊎ After T e m.scopes (λ x s. Fails (label_tests T (label_value T on x) at (expr_place e) (labels_of list)) f))
  RefusesItemsOf T a on (tree.AndDefault all at) k f =
      RefusesItemsOf T a on all k f
      ⊎ AfterItems T a on all k (λ list m. Fails (Tests.broken_at rule.Redeclared at (not (defaults_in list == 0)) ∷ []) f)

-- Units (C99 6.9)

-- the rules of the name of a function that is defined; `written` says that the declarator has the function's own parameters
abbrev pub definition_tests : Table → Known → Storage → (written : Bool) → Name → TypeId → Place → List Tests.Test
definition_tests T k storage written name t at =
    Tests.broken_at rule.Redeclared at
    (is_redeclared T k true true name (declared_as T storage t) || Tests.has_some (runtime_of name))
    ∷ Tests.broken_at rule.Mismatch at (not (written && is_function_declared (declared_as T storage t)))
    ∷ []

abbrev pub RefusesDefinition : Table → tree.Specifiers → tree.Declarator → tree.BlockItems → Known → Fault → Type 0
RefusesDefinition T specifiers d items k f =
    RefusesSpecifiers T specifiers k.scopes f
    ⊎ ((u : TypedSpecifiers) × (s : Scopes) × AreSpecifiers T u k.scopes s × (erased_specifiers u ≡ specifiers)
    × (RefusesDeclarator T d s f
    ⊎ ((form : TypedForm) × (m : Scopes) × IsForm T form s m × (erased_form form ≡ d)
    × (FormFails T m form Written (specified_type u) (name_place (name_of_form form) nowhere) f
    ⊎ ((name : Identifier) × (t : TypeId) × (name_of_form form ≡ Some name) × FormMakes T m form Written (specified_type u) t
    × (Fails (definition_tests T (with_scopes k m) (storage_of u) (Tests.has_some (parameters_of_form form None)) name.bytes t name.place) f
    ⊎ ((parameters : TypedParameters) × (n : Known) × (types : List TypeId) × (result : TypeId) × (parameters_of_form form None ≡ Some parameters)
    × HasShape T t (Function types result) × (inside : Scopes) × AreParameters T (is_void_list parameters) parameters (entering s) inside
    × IsDeclarator T true (storage_of u) (specified_type u) Written form t (with_scopes k s) n
    × RefusesItemsOf T (record { result = result; in_loop = false; breakable = false }) None items
    (record n { scopes = going_on (innermost inside.levels) n.scopes; defined = n.defined ++ name.bytes ∷ [] }) f)))))))

abbrev pub RefusesParts : Table → tree.TranslationUnit → Known → Fault → Type 0
RefusesParts T tree.NoExternal k f = ⊥
RefusesParts T (tree.AndExternal u d) k f =
    RefusesParts T u k f
    ⊎ ((t : TypedTranslationUnit) × (m : Known) × IsUnitTyped T t k m × (erased_unit t ≡ u) × RefusesDeclaration T true d m f)
RefusesParts T (tree.AndFunctionBody u specifiers d brace items) k f =
    RefusesParts T u k f
    ⊎ ((t : TypedTranslationUnit) × (m : Known) × IsUnitTyped T t k m × (erased_unit t ≡ u) × RefusesDefinition T specifiers d items m f)

-- no `int main(void)` is tried last
abbrev pub start_of_text : Place
start_of_text = record { line = 1; col = 1 }

pub record LacksMain (T : Table) (u : tree.TranslationUnit) (k : Known) (f : Fault) : Type 0 where
  pub typed : TypedTranslationUnit
  pub after : Known
  pub well : IsUnitTyped T typed k after
  pub erases : erased_unit typed ≡ u
  pub without : HasMain T typed → ⊥
  pub fault : f ≡ Refused start_of_text rule.NoMain

-- the refusal of a unit that breaks a rule; `k` is what is known before its text
abbrev pub RefusesUnit : Table → tree.TranslationUnit → Known → Fault → Type 0
RefusesUnit T u k f = RefusesParts T u k f ⊎ LacksMain T u k f

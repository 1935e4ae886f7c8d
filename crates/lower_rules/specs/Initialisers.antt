-- What the code of an initialiser and of a declaration is (C99 6.7.8).
use Rattle.std.specs.Prelude.{◌≡◌, ℕ, ◌+◌, pos, Bool, true, false, List, [], ◌∷◌, Some}
use Rattle.cc_base.specs.declared.place.Place.{Place}
use Rattle.cc_base.specs.declared.number.NodeId.{NodeId}
use Rattle.cc_base.specs.declared.number.TypeId.{TypeId}
use Rattle.c_types.specs.Table.{Table, shape_at}
use Rattle.c_tree.specs.declared.typed_word.Home.{Home}
use Rattle.c_tree.specs.declared.typed_word.Home.TheVariants as home
use Rattle.c_tree.specs.TypedTree as typed
use Rattle.c_tree.specs.TypedTree.{TypedInitialiser, TypedItems, TypedInitDeclarators, TypedDeclaration}
use Rattle.c_tree.specs.TypedParts.{StaticInitialiser, place_at, item_place, declared_type, home_of}
use Rattle.src_machine.specs.Statements.{clears, element_of_shape}
use Rattle.cil_form.specs.declared.number.Object.{Object}
use Rattle.cil_form.specs.declared.instr.Set.TheVariants as set
use Rattle.cil_form.specs.declared.instr.Target.{Target}
use Rattle.cil_form.specs.declared.instr.Target.TheVariants as target
use Rattle.cil_form.specs.declared.instr.Access.TheVariants as access
use Rattle.cil_form.specs.declared.instr.Instr.{Instr}
use Rattle.cil_form.specs.declared.instr.Instr.TheVariants as instr
use Rattle.lower_rules.specs.declared.after.After.TheVariants as after
use Rattle.lower_rules.specs.Pieces.{Form, Line, Then}
use Rattle.lower_rules.specs.Words.{Context, value, constant, object_in, Follows}
use Rattle.lower_rules.specs.Expressions.{IsCodeOf, IsCodeOfPlace}

-- an object that is initialised, with its home and type
pub record Initialised : Type 0 where
  pub object : Object
  pub node : NodeId
  pub type : TypeId

-- the part of it from this byte on
abbrev pub part : Initialised → ℕ → Target
part o base = target.Part o.object o.node o.type base

-- the bytes of a string literal, one store each
abbrev pub text_code : Table → Initialised → TypeId → Place → ℕ → List ℕ → List Instr
text_code table o char at base [] = []
text_code table o char at base (b ∷ bytes) =
    instr.Set (set.Integer (value 0) (constant table char (pos b)) char)
    ∷ instr.Access (access.Store (part o base) (value 0) char at at)
    ∷ text_code table o char at (base + 1) bytes

abbrev mutual
  -- the code of an initialiser at this place in the text, for what is of type t and begins at this byte of an object
  pub IsCodeOfInitialiser : TypedInitialiser → Context → Place → TypeId → ℕ → Initialised → Form
  IsCodeOfInitialiser (typed.Value e) k at t base o =
      Then (IsCodeOf e k 0) (Line (instr.Access (access.Store (part o base) (value 0) t at at) ∷ []))
  IsCodeOfInitialiser (typed.Copied p place) k at t base o = IsCodeOfPlace p k 0 (Follows (after.Copy (part o base) place (place_at p) t place) 0)
  IsCodeOfInitialiser (typed.Text pieces bytes) k at t base o = Line (text_code k.table o (element_of_shape (shape_at k.table t)) at base bytes)
  IsCodeOfInitialiser (typed.Listed brace items comma u) k at t base o = IsCodeOfItems items k base o

  pub IsCodeOfItems : TypedItems → Context → ℕ → Initialised → Form
  IsCodeOfItems typed.NoItem k base o = Line []
  IsCodeOfItems (typed.AndItem all offset t i) k base o = Then (IsCodeOfItems all k base o) (IsCodeOfInitialiser i k (item_place i) t (base + offset) o)

-- the object is set to zero first
unfoldable pub Clears : Bool → Object → Form
Clears true o = Line (instr.Access (access.Clear o) ∷ [])
Clears false o = Line []

-- the initialiser of the object with this home
abbrev pub IsCodeOfObject : NodeId → TypeId → Place → TypedInitialiser → Context → Form
IsCodeOfObject node t at i k code = (o : Object) × (object_in k node ≡ Some o)
    × Then (Clears (clears k.table i) o) (IsCodeOfInitialiser i k at t 0 (record { object = o; node = node; type = t })) code

-- a static object is initialised before `main` begins, and not where its declaration stands
abbrev pub IsCodeOfDeclared : Home → TypeId → Place → TypedInitialiser → Context → Form
IsCodeOfDeclared (home.Local node) t at i k = IsCodeOfObject node t at i k
IsCodeOfDeclared other t at i k = Line []

abbrev pub IsCodeOfDeclarators : TypedInitDeclarators → Context → Form
IsCodeOfDeclarators typed.NoInitDeclarator k = Line []
IsCodeOfDeclarators (typed.AndPlain all d) k = IsCodeOfDeclarators all k
IsCodeOfDeclarators (typed.AndInitialised all d at i) k = Then (IsCodeOfDeclarators all k) (IsCodeOfDeclared (home_of d) (declared_type d) at i k)

abbrev pub IsCodeOfDeclaration : TypedDeclaration → Context → Form
IsCodeOfDeclaration (typed.Declare specifiers all) k = IsCodeOfDeclarators all k

-- the static initialisers of a unit
abbrev pub IsCodeOfStatics : List StaticInitialiser → Context → Form
IsCodeOfStatics [] k = Line []
IsCodeOfStatics (i ∷ all) k = Then (IsCodeOfObject i.home i.type i.place i.initialiser k) (IsCodeOfStatics all k)

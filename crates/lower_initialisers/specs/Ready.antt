-- Which initialisers and declarations have code: their expressions do, objects have numbers, and so have the bytes of objects.
use Rattle.std.specs.Prelude.{ℕ, ◌+◌, ◌<◌, ◌^◌, length}
use Rattle.cc_base.specs.declared.number.NodeId.{NodeId}
use Rattle.cc_base.specs.declared.number.TypeId.{TypeId}
use Rattle.cc_base.specs.declared.place.Place.{Place}
use Rattle.c_types.specs.Table.{shape_at}
use Rattle.c_tree.specs.declared.typed_word.Home.{Home}
use Rattle.c_tree.specs.declared.typed_word.Home.TheVariants as home
use Rattle.c_tree.specs.TypedTree as typed
use Rattle.c_tree.specs.TypedTree.{TypedInitialiser, TypedItems, TypedInitDeclarators, TypedDeclaration}
use Rattle.c_tree.specs.TypedParts.{declared_type, home_of}
use Rattle.src_machine.specs.Statements.{clears, element_of_shape}
use Rattle.lower_rules.specs.Pieces.{Form, Then}
use Rattle.lower_rules.specs.Words.{Context}
use Rattle.lower_rules.specs.Initialisers.{Initialised, Clears, IsCodeOfInitialiser}
use Rattle.lower_exprs.specs.Ready.{HasCode, HasCodeOfPlace, HasObject, IsConstant}
use Rattle.lower_initialisers.specs.declared.filling.Whole.{Whole}

-- what the relation of trees and code sees of an object that is initialised
abbrev pub initialised_of : Whole → Initialised
initialised_of o = record { object = o.object; node = o.home; type = o.ty }

-- the code of the initialiser of this object
unfoldable pub Fills : Initialised → Place → TypedInitialiser → Context → Form
Fills o at i k = Then (Clears (clears k.table i) o.object) (IsCodeOfInitialiser i k at o.type 0 o)

-- so many bytes of a literal that initialises an array of type t, which begins at this byte
abbrev pub HasCodeOfText : Context → TypeId → ℕ → ℕ → Type 0
HasCodeOfText k t base count = (base + count < 2 ^ 64) × IsConstant k (element_of_shape (shape_at k.table t))

abbrev mutual
  -- the initialiser of what is of type t and begins at this byte of an object
  pub HasCodeOfInitialiser : TypedInitialiser → Context → TypeId → ℕ → Type 0
  HasCodeOfInitialiser (typed.Value e) k t base = HasCode e k 0 × Unit {0}
  HasCodeOfInitialiser (typed.Copied p place) k t base = HasCodeOfPlace p k 0 (Unit {0})
  HasCodeOfInitialiser (typed.Text pieces bytes) k t base = HasCodeOfText k t base (length bytes)
  HasCodeOfInitialiser (typed.Listed brace items comma u) k t base = HasCodeOfItems items k base

  pub HasCodeOfItems : TypedItems → Context → ℕ → Type 0
  HasCodeOfItems typed.NoItem k base = Unit {0}
  HasCodeOfItems (typed.AndItem all offset t i) k base =
      HasCodeOfItems all k base × ((base + offset < 2 ^ 64) × HasCodeOfInitialiser i k t (base + offset))

abbrev pub HasCodeOfObject : NodeId → TypeId → TypedInitialiser → Context → Type 0
HasCodeOfObject node t i k = HasObject k node × (Unit {0} × HasCodeOfInitialiser i k t 0)

abbrev pub HasCodeOfDeclared : Home → TypeId → TypedInitialiser → Context → Type 0
HasCodeOfDeclared (home.Local node) t i k = HasCodeOfObject node t i k
HasCodeOfDeclared other t i k = Unit {0}

abbrev pub HasCodeOfDeclarators : TypedInitDeclarators → Context → Type 0
HasCodeOfDeclarators typed.NoInitDeclarator k = Unit {0}
HasCodeOfDeclarators (typed.AndPlain all d) k = HasCodeOfDeclarators all k
HasCodeOfDeclarators (typed.AndInitialised all d at i) k = HasCodeOfDeclarators all k × HasCodeOfDeclared (home_of d) (declared_type d) i k

abbrev pub HasCodeOfDeclaration : TypedDeclaration → Context → Type 0
HasCodeOfDeclaration (typed.Declare specifiers all) k = HasCodeOfDeclarators all k

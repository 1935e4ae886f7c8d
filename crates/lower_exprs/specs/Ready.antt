-- Which typed expressions have code: there are values enough, homes are those of objects, and numbers fit. A unit that is well typed and
-- within the limits has all of this.
use Rattle.std.specs.Prelude.{◌≡◌, ◌⊎◌, ℕ, suc, ◌+◌, ◌<◌, ◌^◌, Option, Some, None, IsSome}
use Rattle.cc_base.specs.declared.number.NodeId.{NodeId}
use Rattle.cc_base.specs.declared.place.Place.{Place}
use Rattle.cc_base.specs.declared.number.TypeId.{TypeId}
use Rattle.c_types.specs.Sound.{IsIntegerSize}
use Rattle.c_types.specs.Table.{shape_at}
use Rattle.c_tree.specs.TypedTree as typed
use Rattle.c_tree.specs.TypedTree.{TypedExpr, TypedPlace, TypedArguments}
use Rattle.c_tree.specs.TypedParts.{type_of, place_type, place_at, address_node}
use Rattle.c_tree.specs.declared.operator.Binary.{Binary}
use Rattle.c_tree.specs.declared.operator.Unary.{Unary}
use Rattle.c_tree.specs.declared.operator.Unary.TheVariants as unary
use Rattle.c_tree.specs.declared.typed_word.Runtime.{Runtime}
use Rattle.c_tree.specs.declared.typed_word.Runtime.TheVariants as function
use Rattle.src_mem.specs.Operations.{integer_of_shape}
use Rattle.cil_form.specs.declared.number.Object.{Object}
use Rattle.cil_form.specs.declared.number.Object.TheVariants as object
use Rattle.lower_rules.specs.Words.{Context, object_in, comparison_of}
use Rattle.lower_rules.specs.Expressions.{IsFixed, node_in_place, count}
use Rattle.lower_exprs.specs.declared.accessing.Spot.{Spot}
use Rattle.lower_rules.specs.declared.after.After.{After}
use Rattle.lower_rules.specs.declared.after.After.TheVariants as after

-- a type of constants
abbrev pub IsConstant : Context → TypeId → Type 0
IsConstant k t = IsIntegerSize (integer_of_shape (shape_at k.table t)).bytes

abbrev pub IsNumbered : Object → Type 0
IsNumbered (object.Variable i) = i.0 < 4294967296
IsNumbered (object.Static i) = i.0 < 4294967296

-- there is an object with this home
abbrev pub HasObject : Context → NodeId → Type 0
HasObject k home = (o : Object) × (object_in k home ≡ Some o) × IsNumbered o

abbrev pub IsPrefix : Unary → Type 0
IsPrefix unary.Plus = Unit {0}
IsPrefix unary.Minus = Unit {0}
IsPrefix unary.Complement = Unit {0}
IsPrefix unary.Not = Unit {0}
IsPrefix other = ⊥

abbrev pub IsComparison : Binary → Type 0
IsComparison operator = IsSome (comparison_of operator)

-- a call of a runtime function by value v, with so many arguments
abbrev pub IsRuntime : Runtime → ℕ → ℕ → Type 0
IsRuntime function.Getchar n v = n ≡ 0
IsRuntime function.Putchar n v = (n ≡ 1) × (suc v < 256)
IsRuntime function.Free n v = (n ≡ 1) × (suc v < 256)
IsRuntime function.Exit n v = (n ≡ 1) × (suc v < 256)
IsRuntime other n v = ⊥

abbrev pub IsAllocation : Runtime → ℕ → ℕ → Type 0
IsAllocation function.Malloc n v = (n ≡ 1) × (suc v < 256)
IsAllocation function.Calloc n v = (n ≡ 2) × (suc v + 1 < 256)
IsAllocation other n v = ⊥

-- what comes after an address in value v has values enough
abbrev pub HasRoom : After → ℕ → Type 0
HasRoom after.Nothing v = Unit {0}
HasRoom (after.Load t at) v = Unit {0}
HasRoom (after.Decay array check inner element at) v = Unit {0}
HasRoom (after.Address inner t) v = Unit {0}
HasRoom (after.Member t i inner u at) v = Unit {0}
HasRoom (after.Copy to to_place from_place t at) v = Unit {0}
HasRoom (after.Step old which pointer t own at) v = suc v < 256

-- the same of an operand in the next value
abbrev pub Next : ℕ → Type 0 → Type 0
Next v R = (suc v < 256) × R

abbrev mutual
  -- an expression has code that leaves its value in value v
  pub HasCode : TypedExpr → Context → ℕ → Type 0
  HasCode (typed.Integer of n at t) k v = IsConstant k t
  HasCode (typed.Character z at t) k v = IsConstant k t
  HasCode (typed.Enumerator name z t) k v = IsConstant k t
  HasCode (typed.FunctionName name f node t) k v = Unit {0}
  HasCode (typed.RuntimeName name function t) k v = ⊥
  HasCode (typed.Paren at e) k v = HasCode e k v
  HasCode (typed.Read p) k v = HasCodeOfPlace p k v (Unit {0})
  HasCode (typed.Unread p) k v = HasCodeOfPlace p k v (Unit {0})
  HasCode (typed.Decay p node t) k v = HasCodeOfPlace p k v (Unit {0})
  HasCode (typed.Convert which at t e) k v = HasCode e k v × Unit {0}
  HasCode (typed.Cast which at name e) k v = HasCode e k v × Unit {0}
  HasCode (typed.AddressOf at p node t) k v = HasCodeOfPlace p k v (Unit {0})
  HasCode (typed.AddressOfElement at p t) k v = HasCodeOfPlace p k v (Unit {0})
  HasCode (typed.AddressOfFunction at e) k v = HasCode e k v
  HasCode (typed.FunctionAt at e) k v = HasCode e k v
  HasCode (typed.Prefix op at e t) k v = HasCode e k v × IsPrefix op
  HasCode (typed.SizeOfPlace at p n t) k v = IsConstant k t
  HasCode (typed.SizeOfValue at e n t) k v = IsConstant k t
  HasCode (typed.SizeOfType at paren name n t) k v = IsConstant k t
  HasCode (typed.StepBefore which at p) k v = HasCodeOfPlace p k v (suc v < 256)
  HasCode (typed.StepAfter p which at) k v = HasCodeOfPlace p k v (suc v < 256)
  HasCode (typed.Arithmetic op a at b t) k v = HasCode a k v × (Next v (HasCode b k (suc v)) × (suc v < 256))
  HasCode (typed.Moved op which a at b t) k v = HasCode a k v × (Next v (HasCode b k (suc v)) × (suc v < 256))
  HasCode (typed.Difference a at b t) k v = HasCode a k v × (Next v (HasCode b k (suc v)) × (suc v < 256))
  HasCode (typed.Compared op a at b t) k v = HasCode a k v × (Next v (HasCode b k (suc v)) × ((suc v < 256) × IsComparison op))
  HasCode (typed.Logical op a at b t) k v = HasCode a k v × (HasCode b k v × Unit {0})
  HasCode (typed.Conditional c at a b t) k v = HasCode c k v × (HasCode a k v × HasCode b k v)
  HasCode (typed.PointerConditional c at a b n t) k v = HasCode c k v × (HasCode a k v × HasCode b k v)
  HasCode (typed.Comma a b) k v = HasCode a k v × HasCode b k v
  HasCode (typed.Assign p at e) k v =
      IsFixed p × (HasCodeOfPlace p k v (Unit {0}) × (Next v (HasCode e k (suc v)) × (suc v < 256)))
  HasCode (typed.AssignWith op p at e u) k v =
      IsFixed p × (HasCodeOfPlace p k v (Unit {0}) × (Next v (HasCode e k (suc v)) × (suc (suc v) < 256)))
  HasCode (typed.Call f at arguments t) k v =
      HasCode f k v × (HaveCode arguments k (suc v) × ((suc v < 256) × (count arguments < 4294967296)))
  HasCode (typed.CallRuntime which f at arguments t) k v = HaveCode arguments k (suc v) × IsRuntime which (count arguments) v
  HasCode (typed.Allocate which f at arguments node t) k v = HaveCode arguments k (suc v) × IsAllocation which (count arguments) v
  HasCode (typed.AllocateFor which f at arguments t) k v = HaveCode arguments k (suc v) × IsAllocation which (count arguments) v

  -- arguments have code that leaves them in the values from v on
  pub HaveCode : TypedArguments → Context → ℕ → Type 0
  HaveCode typed.NoArgument k v = Unit {0}
  HaveCode (typed.AndArgument all e) k v = HaveCode all k v × ((v + count all < 256) × HasCode e k (v + count all))

  -- a place has code that leaves its address in value v, where S says that what comes after has
  pub HasCodeOfPlace : TypedPlace → Context → ℕ → Type 0 → Type 0
  HasCodeOfPlace (typed.Variable name node t) k v S = HasObject k node × S
  HasCodeOfPlace (typed.String pieces node t) k v S = HasObject k node × S
  HasCodeOfPlace (typed.ParenPlace at p) k v S = HasCodeOfPlace p k v S
  HasCodeOfPlace (typed.Target at e t) k v S = HasCode e k v × S
  HasCodeOfPlace (typed.Element which a at b t) k v S = (HasCode a k v × (Next v (HasCode b k (suc v)) × (suc v < 256))) × S
  HasCodeOfPlace (typed.Member p at name i node t) k v S = HasCodeOfPlace p k v (Unit {0}) × S
  HasCodeOfPlace (typed.MemberAt e at name i node t) k v S = (HasCode e k v × Unit {0}) × S
  HasCodeOfPlace (typed.StructAssign p at q) k v S =
      IsFixed p × (HasCodeOfPlace p k v (Unit {0}) × (Next v (HasCodeOfPlace q k (suc v) (Unit {0})) × S))
  HasCodeOfPlace (typed.StructConditional c at p q) k v S = HasCode c k v × (HasCodeOfPlace p k v S × HasCodeOfPlace q k v S)
  HasCodeOfPlace (typed.StructComma e p) k v S = HasCode e k v × HasCodeOfPlace p k v S

-- the place whose address is in value t, where an operator at `at` writes
abbrev pub spot_of : Context → ℕ → TypedPlace → Place → Spot
spot_of k t p at = record { address = t; node = node_in_place k p; ty = place_type p; own = place_at p; place = at }

-- Every pointer that is known has a site: what its node asks of what it points to is among the sites of the program.
use Rattle.std.proofs.Common.{◌≡◌, refl, subst, inl, Bool, true, false, List, [], ◌∷◌, if◌then◌else◌, Option, Some, None}
use Rattle.cc_base.specs.declared.number.TypeId.{TypeId}
use Rattle.c_types.specs.declared.shape.TypeShape.{TypeShape}
use Rattle.c_types.specs.declared.shape.TypeShape.TheVariants as shape
use Rattle.kind_sites.specs.declared.site.Site.{Site}
use Rattle.c_types.specs.Table.{shape_at}
use Rattle.cil_form.specs.declared.number.Temp.{Temp}
use Rattle.cil_form.specs.declared.instr.Set.{Set}
use Rattle.cil_form.specs.declared.instr.Set.TheVariants as set
use Rattle.cil_form.specs.declared.instr.Calculate.{Calculate}
use Rattle.cil_form.specs.declared.instr.Calculate.TheVariants as calculate
use Rattle.cil_form.specs.declared.instr.Point.{Point}
use Rattle.cil_form.specs.declared.instr.Point.TheVariants as point
use Rattle.cil_form.specs.declared.instr.Convert.{Convert}
use Rattle.cil_form.specs.declared.instr.Convert.TheVariants as convert
use Rattle.cil_form.specs.declared.instr.Access.{Access}
use Rattle.cil_form.specs.declared.instr.Access.TheVariants as access
use Rattle.cil_form.specs.declared.instr.Allocate.{Allocate}
use Rattle.cil_form.specs.declared.instr.Allocate.TheVariants as allocate
use Rattle.cil_form.specs.declared.instr.RuntimeCall.{RuntimeCall}
use Rattle.cil_form.specs.declared.instr.RuntimeCall.TheVariants as runtime
use Rattle.cil_form.specs.declared.instr.Instr.{Instr, Row_of-Instr, end_of-Instr, more_of-Instr}
use Rattle.cil_form.specs.declared.instr.Instr.TheVariants as instr
use Rattle.cil_form.specs.State.{is_same}
use Rattle.cil_form.specs.Typing.{HeldType, IntegerOf, PointerTo, PlaceOf, Typing, Context, Includes, held_shape, held_by, Leaves, Passes, IsShapedSet, IsShapedCalculate, IsShapedPoint, IsShapedConvert, IsShapedAccess, IsShapedAllocate, IsShapedRuntime, IsShaped, IsRowShaped, AreShaped}
use Rattle.cil_form.specs.Sites.{AreAmong, sites_of_point, sites_of_allocate}
use Rattle.cil_form.specs.Told.{IsAsked, AreAsked, TellsOf}

-- a known pointer comes from what was known, or from what was written
asked-by : (sites : List Site) (b : Bool) (o less : Option HeldType) (y : HeldType) → ((x : HeldType) → o ≡ Some x → IsAsked sites x) → ((x : HeldType) → less ≡ Some x → IsAsked sites x)
    → (if b then o else less) ≡ Some y → IsAsked sites y
asked-by sites true o less y h l e = h y e
asked-by sites false o less y h l e = l y e

asked-less : (sites : List Site) (types after : Typing) → AreAsked sites types → Includes types after → AreAsked sites after
asked-less sites types after h l = λ t x e. h t x (l t x e)

asked-leaves : (sites : List Site) (types : Typing) (into : Temp) (o : Option HeldType) (after : Typing) → AreAsked sites types → ((x : HeldType) → o ≡ Some x → IsAsked sites x)
    → Leaves types into o after → AreAsked sites after
asked-leaves sites types into o after h new l = λ t x e. asked-by sites (is_same t into) o (types t) x new (h t) (l.1 t x e)

-- what is written is asked
asked-some : (sites : List Site) (x : HeldType) → IsAsked sites x → (y : HeldType) → Some x ≡ Some y → IsAsked sites y
asked-some sites x h y e = let it : x ≡ y = cc (e) in subst (λ z. IsAsked sites z) it h

asked-none : (sites : List Site) (y : HeldType) → None ≡ Some y → IsAsked sites y
asked-none sites y e = absurd (cc (e))

-- a value of a type of the table
asked-shape : (sites : List Site) (k : Context) (t : TypeId) → TellsOf sites k → (s : TypeShape) → shape_at k.table t ≡ s → (y : HeldType) → held_shape s ≡ Some y → IsAsked sites y
asked-shape sites k t tells (shape.Integer bytes signed) e y d = asked-some sites (IntegerOf (record { bytes = bytes; signed = signed })) tt y d
asked-shape sites k t tells (shape.Pointer node to) e y d = asked-some sites (PointerTo node to) (tells.pointers t node to e) y d
asked-shape sites k t tells shape.Void e y d = asked-none sites y d
asked-shape sites k t tells (shape.Array element count) e y d = asked-none sites y d
asked-shape sites k t tells (shape.Function parameters result) e y d = asked-none sites y d
asked-shape sites k t tells (shape.Struct tag) e y d = asked-none sites y d
asked-shape sites k t tells (shape.Union tag) e y d = asked-none sites y d

-- The sites are the context's, and an instruction's are among them.

set-asked : (i : Set) (k : Context) (types after : Typing) → TellsOf k.sites k → AreAsked k.sites types → IsShapedSet i k types after → AreAsked k.sites after
set-asked (set.Integer into z t) k types after tells h l = asked-leaves k.sites types into _ after h (asked-some k.sites (IntegerOf l.0) tt) l.3
set-asked (set.Null into t) k types after tells h l = asked-leaves k.sites types into _ after h (asked-some k.sites (PointerTo l.0 l.1) (tells.pointers t l.0 l.1 l.2.1)) l.3
set-asked (set.Function into f t) k types after tells h l = asked-leaves k.sites types into _ after h (asked-some k.sites (PointerTo l.0 l.1) (tells.pointers t l.0 l.1 l.3.1)) l.7
set-asked (set.Object into o home t) k types after tells h l = asked-leaves k.sites types into _ after h (asked-some k.sites (PlaceOf home t) (tells.objects o home t l.0)) l.1
set-asked (set.Copy into from) k types after tells h l = asked-leaves k.sites types into (types from) after h (h from) l.1

calculate-asked : (i : Calculate) (k : Context) (types after : Typing) → AreAsked k.sites types → IsShapedCalculate i k types after → AreAsked k.sites after
calculate-asked (calculate.Negate into a t) k types after h l = asked-leaves k.sites types into _ after h (asked-some k.sites (IntegerOf l.0) tt) l.3
calculate-asked (calculate.Complement into a t) k types after h l = asked-leaves k.sites types into _ after h (asked-some k.sites (IntegerOf l.0) tt) l.3
calculate-asked (calculate.Binary into operator a b t at) k types after h l = asked-leaves k.sites types into _ after h (asked-some k.sites (IntegerOf _) tt) l.4
calculate-asked (calculate.Truth into a) k types after h l = asked-leaves k.sites types into _ after h (asked-some k.sites (IntegerOf _) tt) l.1
calculate-asked (calculate.Not into a) k types after h l = asked-leaves k.sites types into _ after h (asked-some k.sites (IntegerOf _) tt) l.1

point-asked : (i : Point) (k : Context) (types after : Typing) → TellsOf k.sites k → AreAsked k.sites types → IsShapedPoint i k types after
    → AreAmong k.sites (sites_of_point k.table i) → AreAsked k.sites after
point-asked (point.Move into p n way t at) k types after tells h l s =
    asked-leaves k.sites types into _ after h (asked-some k.sites (PointerTo l.0 l.1) (tells.pointers t l.0 l.1 l.2.1)) l.6
point-asked (point.Difference into a t b u at) k types after tells h l s = asked-leaves k.sites types into _ after h (asked-some k.sites (IntegerOf _) tt) l.11
point-asked (point.Compare into comparison a t b u at) k types after tells h l s = asked-leaves k.sites types into _ after h (asked-some k.sites (IntegerOf _) tt) l.9
point-asked (point.IsNull into p t different) k types after tells h l s = asked-leaves k.sites types into _ after h (asked-some k.sites (IntegerOf _) tt) l.4
point-asked (point.Member into from outer t i inner u at) k types after tells h l s = asked-leaves k.sites types into _ after h (asked-some k.sites (PlaceOf inner u) (inl s.0)) l.7
point-asked (point.Decay into from outer array check inner element at) k types after tells h l s =
    asked-leaves k.sites types into _ after h (asked-some k.sites (PointerTo inner element) s.0) l.5
point-asked (point.Address into from outer inner t) k types after tells h l s = asked-leaves k.sites types into _ after h (asked-some k.sites (PointerTo inner t) s.0) l.4

convert-asked : (i : Convert) (k : Context) (types after : Typing) → TellsOf k.sites k → AreAsked k.sites types → IsShapedConvert i k types after → AreAsked k.sites after
convert-asked (convert.Integer into from t) k types after tells h l = asked-leaves k.sites types into _ after h (asked-some k.sites (IntegerOf l.0) tt) l.3
convert-asked (convert.ToPointer into from t at) k types after tells h l =
    asked-leaves k.sites types into _ after h (asked-some k.sites (PointerTo l.0 l.1) (tells.pointers t l.0 l.1 l.2.1)) l.4
convert-asked (convert.FromPointer into from t s) k types after tells h l = asked-leaves k.sites types into _ after h (asked-some k.sites (IntegerOf l.2) tt) l.6
convert-asked (convert.Pointer into from t s at) k types after tells h l =
    asked-leaves k.sites types into _ after h (asked-some k.sites (PointerTo l.1 l.3) (tells.pointers s l.1 l.3 l.5.1)) l.7

access-asked : (i : Access) (k : Context) (types after : Typing) → TellsOf k.sites k → AreAsked k.sites types → IsShapedAccess i k types after → AreAsked k.sites after
access-asked (access.Load into from node t at) k types after tells h l =
    asked-leaves k.sites types into (held_by k t) after h (asked-shape k.sites k t tells (shape_at k.table t) refl) l.3
access-asked (access.Store to v t at assignment) k types after tells h l = asked-less k.sites types after h l.2
access-asked (access.Clear o) k types after tells h l = asked-less k.sites types after h l.1
access-asked (access.Copy to to_place from node from_place t assignment) k types after tells h l = asked-less k.sites types after h l.5

allocate-asked : (i : Allocate) (k : Context) (types after : Typing) → AreAsked k.sites types → IsShapedAllocate i k types after
    → AreAmong k.sites (sites_of_allocate i) → AreAsked k.sites after
allocate-asked (allocate.Malloc into n node t at) k types after h l s = asked-leaves k.sites types into _ after h (asked-some k.sites (PointerTo node t) s.0) l.3
allocate-asked (allocate.Calloc into m n node t at) k types after h l s = asked-leaves k.sites types into _ after h (asked-some k.sites (PointerTo node t) s.0) l.4

runtime-asked : (i : RuntimeCall) (k : Context) (types after : Typing) → AreAsked k.sites types → IsShapedRuntime i k types after → AreAsked k.sites after
runtime-asked (runtime.Free into p) k types after h l = asked-leaves k.sites types into None after h (asked-none k.sites) l.1
runtime-asked (runtime.Getchar into) k types after h l = asked-leaves k.sites types into _ after h (asked-some k.sites (IntegerOf _) tt) l
runtime-asked (runtime.Putchar into v) k types after h l = asked-leaves k.sites types into _ after h (asked-some k.sites (IntegerOf _) tt) l.1
runtime-asked (runtime.Exit into v) k types after h l = asked-leaves k.sites types into None after h (asked-none k.sites) l.1

passes-asked : (sites : List Site) (types entry : Typing) (k : Context) (after : Typing) → AreAsked sites types → Passes types entry k after → AreAsked sites after
passes-asked sites types entry k after h l = asked-less sites entry after (asked-less sites types entry h l.begins) l.ends

mutual
  pub instr-asked : (i : Instr) (k : Context) (types after : Typing) → TellsOf k.sites k → AreAsked k.sites types → IsShaped i k types after → AreAsked k.sites after
  instr-asked (instr.Set i) k types after tells h l = set-asked i k types after tells h l
  instr-asked (instr.Calculate i) k types after tells h l = calculate-asked i k types after h l
  instr-asked (instr.Point i) k types after tells h l = point-asked i k types after tells h l.0 l.1
  instr-asked (instr.Convert i) k types after tells h l = convert-asked i k types after tells h l.0
  instr-asked (instr.Access i) k types after tells h l = access-asked i k types after tells h l.0
  instr-asked (instr.Allocate i) k types after tells h l = allocate-asked i k types after h l.0 l.1
  instr-asked (instr.Call i) k types after tells h l =
      asked-leaves k.sites types i.into (held_by k l.3) after h (asked-shape k.sites k l.3 tells (shape_at k.table l.3) refl) l.10
  instr-asked (instr.Runtime i) k types after tells h l = runtime-asked i k types after h l
  instr-asked (instr.If' t shape code shape' other) k types after tells h l = row-asked code k types after tells h l.1
  instr-asked (instr.Block' shape code) k types after tells h l = passes-asked k.sites types l.0 k after h l.1
  instr-asked (instr.Loop' shape code) k types after tells h l = passes-asked k.sites types l.0 k after h l.1
  instr-asked (instr.Break n) k types after tells h l = asked-less k.sites types after h l.2
  instr-asked instr.Return k types after tells h l = asked-less k.sites types after h l.1
  instr-asked (instr.ReturnValue v t at) k types after tells h l = asked-less k.sites types after h l.2

  row-asked : {m : _} (r : Row_of-Instr m) (k : Context) (types after : Typing) → TellsOf k.sites k → AreAsked k.sites types → IsRowShaped r k types after → AreAsked k.sites after
  row-asked end_of-Instr k types after tells h l = asked-less k.sites types after h l
  row-asked (more_of-Instr i r) k types after tells h l = row-asked r k l.0 after tells (instr-asked i k types l.0 tells h l.1) l.2

-- each pointer that is known behind code in shape has a site, where each that is known before it has one
pub code-asked : (is : List Instr) (k : Context) (types after : Typing) → TellsOf k.sites k → AreAsked k.sites types → AreShaped is k types after → AreAsked k.sites after
code-asked [] k types after tells h l = asked-less k.sites types after h l
code-asked (i ∷ is) k types after tells h l = code-asked is k l.0 after tells (instr-asked i k types l.0 tells h l.1) l.2

-- The laws of what is known of temporaries: more may be known before code than it asks, code after code, and the code that instructions hold.
use Rattle.std.proofs.Common.{inl, inr, refl, ◌≡◌, sym, subst, Bool, true, false, List, [], ◌∷◌, ◌++◌, if◌then◌else◌, Option, Some, None, IsSome}
use Rattle.cc_base.specs.declared.number.NodeId.{NodeId}
use Rattle.cc_base.specs.declared.number.TypeId.{TypeId}
use Rattle.integers.specs.Arithmetic.{IntegerType}
use Rattle.cil_form.specs.declared.number.Temp.{Temp}
use Rattle.cil_form.specs.declared.instr.Operator.{Operator}
use Rattle.cil_form.specs.declared.instr.Operator.TheVariants as operator
use Rattle.cil_form.specs.declared.instr.Set.{Set}
use Rattle.cil_form.specs.declared.instr.Set.TheVariants as set
use Rattle.cil_form.specs.declared.instr.Calculate.{Calculate}
use Rattle.cil_form.specs.declared.instr.Calculate.TheVariants as calculate
use Rattle.cil_form.specs.declared.instr.Point.{Point}
use Rattle.cil_form.specs.declared.instr.Point.TheVariants as point
use Rattle.cil_form.specs.declared.instr.Convert.{Convert}
use Rattle.cil_form.specs.declared.instr.Convert.TheVariants as convert
use Rattle.cil_form.specs.declared.instr.Target.{Target}
use Rattle.cil_form.specs.declared.instr.Target.TheVariants as target
use Rattle.cil_form.specs.declared.instr.Access.{Access}
use Rattle.cil_form.specs.declared.instr.Access.TheVariants as access
use Rattle.cil_form.specs.declared.instr.Allocate.{Allocate}
use Rattle.cil_form.specs.declared.instr.Allocate.TheVariants as allocate
use Rattle.cil_form.specs.declared.instr.Call.{Call}
use Rattle.cil_form.specs.declared.instr.RuntimeCall.{RuntimeCall}
use Rattle.cil_form.specs.declared.instr.RuntimeCall.TheVariants as runtime
use Rattle.cil_form.specs.declared.instr.Instr.{Instr, Row_of-Instr, end_of-Instr, more_of-Instr}
use Rattle.cil_form.specs.declared.instr.Instr.TheVariants as instr
use Rattle.cil_form.specs.declared.instr.Instr.TheBlock.{hidden-the_row-Instr-0, items-the_row-Instr, items_hidden-the_row-Instr-0}
use Rattle.cil_form.specs.declared.instr.Code.{Code}
use Rattle.cil_form.specs.State.{is_same}
use Rattle.cil_form.proofs.KeepLaws.{temp-one}
use Rattle.cil_form.specs.Typing.{HeldType, IntegerOf, PointerTo, PlaceOf, Typing, Context, Includes, with_held, held_by, Holds, HoldsInteger, HoldsAddress, HoldsArray, HoldsScalar, HoldsOf, Leaves, IsShapedSet, IsRightOperand, IsShapedCalculate, IsShapedPoint, IsShapedConvert, IsTarget, IsShapedAccess, IsShapedAllocate, IsShapedCall, IsShapedRuntime, Passes, inside, IsShaped, IsRowShaped, AreShaped}

-- What is known

pub includes-all : (types : Typing) → Includes types types
includes-all types = λ t x e. e

pub includes-more : (a b c : Typing) → Includes a b → Includes b c → Includes a c
includes-more a b c h k = λ t x e. h t x (k t x e)

known-by : (b : Bool) (x y z : Option HeldType) (v : HeldType) → (y ≡ Some v → z ≡ Some v) → (if b then x else y) ≡ Some v → (if b then x else z) ≡ Some v
known-by true x y z v h e = e
known-by false x y z v h e = h e

-- the same is written over both
pub includes-with : (more less : Typing) (t : Temp) (x : Option HeldType) → Includes more less → Includes (with_held t x more) (with_held t x less)
includes-with more less t x h = λ u v e. known-by (is_same u t) x (less u) (more u) v (h u v) e

copied-by : (b : Bool) (x x' y z : Option HeldType) (v : HeldType) → (x ≡ Some v → x' ≡ Some v) → (y ≡ Some v → z ≡ Some v) → (if b then x else y) ≡ Some v → (if b then x' else z) ≡ Some v
copied-by true x x' y z v k h e = k e
copied-by false x x' y z v k h e = h e

not-some : (o : Option HeldType) (v : HeldType) → o ≡ None → o ≡ Some v → ⊥
not-some o v e d = absurd (cc (e, d))

over-by : (b : Bool) (t u : Temp) (x : Option HeldType) (less more : Typing) (v : HeldType) → is_same u t ≡ b → less t ≡ None → (less u ≡ Some v → more u ≡ Some v)
    → less u ≡ Some v → (if b then x else more u) ≡ Some v
over-by true t u x less more v e none h d = let it : u ≡ t = temp-one u t e in absurd (not-some (less t) v none (subst (λ n. less n ≡ Some v) it d))
over-by false t u x less more v e none h d = h d

-- a temporary is written of which nothing has to be known
pub includes-over : (more less : Typing) (t : Temp) (x : Option HeldType) → less t ≡ None → Includes more less → Includes (with_held t x more) less
includes-over more less t x none h = λ u v e. over-by (is_same u t) t u x less more v refl none (h u v) e

-- Each rule asks no more where more is known

leaves-more : (more less : Typing) (into : Temp) (x : Option HeldType) (after : Typing) → Includes more less → Leaves less into x after → Leaves more into x after
leaves-more more less into x after h l =
    (l.0, includes-more (with_held into x more) (with_held into x less) after (includes-with more less into x h) l.1)

holds-more : (more less : Typing) (t : Temp) (x : HeldType) → Includes more less → Holds less t x → Holds more t x
holds-more more less t x h l = (l.0, h t x l.1)

address-more : (more less : Typing) (t : Temp) (node : NodeId) (u : TypeId) → Includes more less → HoldsAddress less t node u → HoldsAddress more t node u
address-more more less t node u h (inl l) = inl (holds-more more less t (PointerTo node u) h l)
address-more more less t node u h (inr l) = inr (holds-more more less t (PlaceOf node u) h l)

array-more : (check : Bool) (more less : Typing) (t : Temp) (node : NodeId) (u : TypeId) → Includes more less → HoldsArray check less t node u → HoldsArray check more t node u
array-more true more less t node u h l = address-more more less t node u h l
array-more false more less t node u h l = holds-more more less t (PlaceOf node u) h l

integer-more : (more less : Typing) (t : Temp) → Includes more less → HoldsInteger less t → HoldsInteger more t
integer-more more less t h l = (l.0, holds-more more less t (IntegerOf l.0) h l.1)

known-some : (o x y : Option HeldType) → IsSome o → ((v : HeldType) → x ≡ Some v → y ≡ Some v) → x ≡ o → y ≡ o
known-some (Some v) x y s h e = h v e
known-some None x y s h e = absurd (cc (s))

of-more : (k : Context) (more less : Typing) (v : Temp) (t : TypeId) → Includes more less → HoldsOf k less v t → HoldsOf k more v t
of-more k more less v t h l = (l.0, l.1, known-some (held_by k t) (less v) (more v) l.0.1 (h v) l.2)

set-more : (i : Set) (k : Context) (more less after : Typing) → Includes more less → IsShapedSet i k less after → IsShapedSet i k more after
set-more (set.Integer into z t) k more less after h l = (l.0, l.1, l.2, leaves-more more less into _ after h l.3)
set-more (set.Null into t) k more less after h l = (l.0, l.1, l.2, leaves-more more less into _ after h l.3)
set-more (set.Function into f t) k more less after h l = (l.0, l.1, l.2, l.3, l.4, l.5, l.6, leaves-more more less into _ after h l.7)
set-more (set.Object into o home t) k more less after h l = (l.0, leaves-more more less into _ after h l.1)
set-more (set.Copy into from) k more less after h l = (l.0, (l.1.0, λ u v e. copied-by (is_same u into) (less from) (more from) (less u) (more u) v (h from v) (h u v) (l.1.1 u v e)))

right-more : (operator : Operator) (more less : Typing) (t : Temp) (i : IntegerType) → Includes more less → IsRightOperand operator less t i → IsRightOperand operator more t i
right-more operator.ShiftLeft more less t i h l = integer-more more less t h l
right-more operator.ShiftRight more less t i h l = integer-more more less t h l
right-more operator.Add more less t i h l = holds-more more less t (IntegerOf i) h l
right-more operator.Subtract more less t i h l = holds-more more less t (IntegerOf i) h l
right-more operator.Multiply more less t i h l = holds-more more less t (IntegerOf i) h l
right-more operator.Divide more less t i h l = holds-more more less t (IntegerOf i) h l
right-more operator.Remainder more less t i h l = holds-more more less t (IntegerOf i) h l
right-more operator.And more less t i h l = holds-more more less t (IntegerOf i) h l
right-more operator.Or more less t i h l = holds-more more less t (IntegerOf i) h l
right-more operator.ExclusiveOr more less t i h l = holds-more more less t (IntegerOf i) h l
right-more (operator.Compare c) more less t i h l = holds-more more less t (IntegerOf i) h l

calculate-more : (i : Calculate) (k : Context) (more less after : Typing) → Includes more less → IsShapedCalculate i k less after → IsShapedCalculate i k more after
calculate-more (calculate.Negate into a t) k more less after h l = (l.0, l.1, holds-more more less a _ h l.2, leaves-more more less into _ after h l.3)
calculate-more (calculate.Complement into a t) k more less after h l = (l.0, l.1, holds-more more less a _ h l.2, leaves-more more less into _ after h l.3)
calculate-more (calculate.Binary into operator a b t at) k more less after h l =
    (l.0, l.1, holds-more more less a _ h l.2, right-more operator more less b l.0 h l.3, leaves-more more less into _ after h l.4)
calculate-more (calculate.Truth into a) k more less after h l = ((l.0.0, holds-more more less a l.0.0 h l.0.1), leaves-more more less into _ after h l.1)
calculate-more (calculate.Not into a) k more less after h l = ((l.0.0, holds-more more less a l.0.0 h l.0.1), leaves-more more less into _ after h l.1)

point-more : (i : Point) (k : Context) (more less after : Typing) → Includes more less → IsShapedPoint i k less after → IsShapedPoint i k more after
point-more (point.Move into p n way t at) k more less after h l =
    (l.0, l.1, l.2, l.3, holds-more more less p _ h l.4, integer-more more less n h l.5, leaves-more more less into _ after h l.6)
point-more (point.Difference into a t b s at) k more less after h l =
    (l.0, l.1, l.2, l.3, l.4, l.5, l.6, l.7, l.8, holds-more more less a _ h l.9, holds-more more less b _ h l.10, leaves-more more less into _ after h l.11)
point-more (point.Compare into comparison a t b s at) k more less after h l =
    (l.0, l.1, l.2, l.3, l.4, l.5, l.6, holds-more more less a _ h l.7, holds-more more less b _ h l.8, leaves-more more less into _ after h l.9)
point-more (point.IsNull into p t different) k more less after h l = (l.0, l.1, l.2, holds-more more less p _ h l.3, leaves-more more less into _ after h l.4)
point-more (point.Member into from outer t i inner u at) k more less after h l =
    (l.0, l.1, l.2, l.3, l.4, l.5, address-more more less from _ _ h l.6, leaves-more more less into _ after h l.7)
point-more (point.Decay into from outer array check inner element at) k more less after h l =
    (l.0, l.1, l.2, l.3, array-more check more less from _ _ h l.4, leaves-more more less into _ after h l.5)
point-more (point.Address into from outer inner t) k more less after h l =
    (l.0, l.1, l.2, holds-more more less from _ h l.3, leaves-more more less into _ after h l.4)

convert-more : (i : Convert) (k : Context) (more less after : Typing) → Includes more less → IsShapedConvert i k less after → IsShapedConvert i k more after
convert-more (convert.Integer into from t) k more less after h l = (l.0, l.1, integer-more more less from h l.2, leaves-more more less into _ after h l.3)
convert-more (convert.ToPointer into from t at) k more less after h l =
    (l.0, l.1, l.2, integer-more more less from h l.3, leaves-more more less into _ after h l.4)
convert-more (convert.FromPointer into from t s) k more less after h l =
    (l.0, l.1, l.2, l.3, l.4, holds-more more less from _ h l.5, leaves-more more less into _ after h l.6)
convert-more (convert.Pointer into from t s at) k more less after h l =
    (l.0, l.1, l.2, l.3, l.4, l.5, holds-more more less from _ h l.6, leaves-more more less into _ after h l.7)

target-more : (i : Target) (k : Context) (more less : Typing) (t : TypeId) → Includes more less → IsTarget i k less t → IsTarget i k more t
target-more (target.Pointer p node) k more less t h l = (l.0, address-more more less p _ _ h l.1)
target-more (target.Part o home u offset) k more less t h l = l

access-more : (i : Access) (k : Context) (more less after : Typing) → Includes more less → IsShapedAccess i k less after → IsShapedAccess i k more after
access-more (access.Load into from node t at) k more less after h l = (l.0, l.1, address-more more less from _ _ h l.2, leaves-more more less into _ after h l.3)
access-more (access.Store to v t at assignment) k more less after h l =
    (target-more to k more less t h l.0, of-more k more less v t h l.1, includes-more more less after h l.2)
access-more (access.Clear o) k more less after h l = (l.0, includes-more more less after h l.1)
access-more (access.Copy to to_place from node from_place t assignment) k more less after h l =
    (l.0, l.1, l.2, target-more to k more less t h l.3, address-more more less from _ _ h l.4, includes-more more less after h l.5)

allocate-more : (i : Allocate) (k : Context) (more less after : Typing) → Includes more less → IsShapedAllocate i k less after → IsShapedAllocate i k more after
allocate-more (allocate.Malloc into n node t at) k more less after h l = (l.0, l.1, holds-more more less n _ h l.2, leaves-more more less into _ after h l.3)
allocate-more (allocate.Calloc into m n node t at) k more less after h l =
    (l.0, l.1, holds-more more less m _ h l.2, holds-more more less n _ h l.3, leaves-more more less into _ after h l.4)

call-more : (i : Call) (k : Context) (more less after : Typing) → Includes more less → IsShapedCall i k less after → IsShapedCall i k more after
call-more i k more less after h l =
    (l.0, l.1, l.2, l.3, l.4, l.5, l.6, l.7, holds-more more less i.callee _ h l.8, λ j t e. of-more k more less _ t h (l.9 j t e), leaves-more more less i.into _ after h l.10)

runtime-more : (i : RuntimeCall) (k : Context) (more less after : Typing) → Includes more less → IsShapedRuntime i k less after → IsShapedRuntime i k more after
runtime-more (runtime.Free into p) k more less after h l = ((l.0.0, holds-more more less p l.0.0 h l.0.1), leaves-more more less into _ after h l.1)
runtime-more (runtime.Getchar into) k more less after h l = leaves-more more less into _ after h l
runtime-more (runtime.Putchar into v) k more less after h l = (holds-more more less v _ h l.0, leaves-more more less into _ after h l.1)
runtime-more (runtime.Exit into v) k more less after h l = (holds-more more less v _ h l.0, leaves-more more less into _ after h l.1)

passes-more : (more less entry : Typing) (k : Context) (after : Typing) → Includes more less → Passes less entry k after → Passes more entry k after
passes-more more less entry k after h l = record { between = l.between; begins = includes-more more less entry h l.begins; keeps = l.keeps; ends = l.ends }

mutual
  pub instr-more : (i : Instr) (k : Context) (more less after : Typing) → Includes more less → IsShaped i k less after → IsShaped i k more after
  instr-more (instr.Set i) k more less after h l = set-more i k more less after h l
  instr-more (instr.Calculate i) k more less after h l = calculate-more i k more less after h l
  instr-more (instr.Point i) k more less after h l = (point-more i k more less after h l.0, l.1)
  instr-more (instr.Convert i) k more less after h l = (convert-more i k more less after h l.0, l.1)
  instr-more (instr.Access i) k more less after h l = (access-more i k more less after h l.0, l.1)
  instr-more (instr.Allocate i) k more less after h l = (allocate-more i k more less after h l.0, l.1)
  instr-more (instr.Call i) k more less after h l = call-more i k more less after h l
  instr-more (instr.Runtime i) k more less after h l = runtime-more i k more less after h l
  instr-more (instr.If' t shape code shape' other) k more less after h l =
      ((l.0.0, holds-more more less t l.0.0 h l.0.1), row-more code k more less after h l.1, row-more other k more less after h l.2)
  instr-more (instr.Block' shape code) k more less after h l = (l.0, passes-more more less l.0 k after h l.1, l.2)
  instr-more (instr.Loop' shape code) k more less after h l = (l.0, passes-more more less l.0 k after h l.1, l.2)
  instr-more (instr.Break n) k more less after h l = (l.0, includes-more more less k.kept h l.1, includes-more more less after h l.2)
  instr-more instr.Return k more less after h l = (l.0, includes-more more less after h l.1)
  instr-more (instr.ReturnValue v t at) k more less after h l = (l.0, of-more k more less v t h l.1, includes-more more less after h l.2)

  pub row-more : {m : _} (r : Row_of-Instr m) (k : Context) (more less after : Typing) → Includes more less → IsRowShaped r k less after → IsRowShaped r k more after
  row-more end_of-Instr k more less after h l = includes-more more less after h l
  row-more (more_of-Instr i r) k more less after h l = (l.0, instr-more i k more less l.0 h l.1, l.2)

-- code that is shaped is so where more is known
pub shaped-more : (is : List Instr) (k : Context) (more less after : Typing) → Includes more less → AreShaped is k less after → AreShaped is k more after
shaped-more [] k more less after h l = includes-more more less after h l
shaped-more (i ∷ is) k more less after h l = (l.0, instr-more i k more less l.0 h l.1, l.2)

-- code after code
pub shaped-append : (is js : List Instr) (k : Context) (types middle after : Typing) → AreShaped is k types middle → AreShaped js k middle after → AreShaped (is ++ js) k types after
shaped-append [] js k types middle after h l = shaped-more js k types middle after h l
shaped-append (i ∷ is) js k types middle after h l = (h.0, h.1, shaped-append is js k h.0 middle after h.2 l)

-- less may be kept behind code
pub shaped-less : (is : List Instr) (k : Context) (types after less : Typing) → AreShaped is k types after → Includes after less → AreShaped is k types less
shaped-less [] k types after less h l = includes-more types after less h l
shaped-less (i ∷ is) k types after less h l = (h.0, h.1, shaped-less is k h.0 after less h.2 l)

-- The code that instructions hold

row-list : {m : _} (r : Row_of-Instr m) (k : Context) (types after : Typing) → IsRowShaped r k types after → AreShaped (items-the_row-Instr m r) k types after
row-list end_of-Instr k types after h = h
row-list (more_of-Instr i r) k types after h = (h.0, h.1, row-list r k h.0 after h.2)

list-row : {m : _} (r : Row_of-Instr m) (k : Context) (types after : Typing) → AreShaped (items-the_row-Instr m r) k types after → IsRowShaped r k types after
list-row end_of-Instr k types after h = h
list-row (more_of-Instr i r) k types after h = (h.0, h.1, list-row r k h.0 after h.2)

pub held-shaped : (x : Code) (k : Context) (types after : Typing) → AreShaped x.0.items k types after → IsRowShaped (hidden-the_row-Instr-0 x.0) k types after
held-shaped x k types after h = list-row (hidden-the_row-Instr-0 x.0) k types after (subst (λ l. AreShaped l k types after) (sym (items_hidden-the_row-Instr-0 x.0)) h)

pub shaped-held : (x : Code) (k : Context) (types after : Typing) → IsRowShaped (hidden-the_row-Instr-0 x.0) k types after → AreShaped x.0.items k types after
shaped-held x k types after h = subst (λ l. AreShaped l k types after) (items_hidden-the_row-Instr-0 x.0) (row-list (hidden-the_row-Instr-0 x.0) k types after h)

-- an `if` whose two sides are shaped
pub shaped-if : (t : Temp) (x y : Code) (k : Context) (types after : Typing) → HoldsScalar types t → AreShaped x.0.items k types after → AreShaped y.0.items k types after
    → IsShaped (instr.If t x y) k types after
shaped-if t x y k types after h l m = (h, held-shaped x k types after l, held-shaped y k types after m)

-- a block and a loop whose code is shaped
pub shaped-block : (x : Code) (k : Context) (types entry after : Typing) → Passes types entry k after → AreShaped x.0.items (inside k entry) entry entry
    → IsShaped (instr.Block x) k types after
shaped-block x k types entry after h l = (entry, h, held-shaped x (inside k entry) entry entry l)

pub shaped-loop : (x : Code) (k : Context) (types entry after : Typing) → Passes types entry k after → AreShaped x.0.items (inside k entry) entry entry
    → IsShaped (instr.Loop x) k types after
shaped-loop x k types entry after h l = (entry, h, held-shaped x (inside k entry) entry entry l)

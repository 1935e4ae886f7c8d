-- The lines of instructions without code are cured code of them, from what may be held.
use Rattle.std.proofs.Common.{◌≡◌, refl, sym, subst, ◌∙◌, ℕ, List, Option, Some, None}
use Rattle.cc_base.specs.declared.number.TypeId.{TypeId}
use Rattle.cc_base.specs.declared.number.NodeId.{NodeId}
use Rattle.cc_base.specs.declared.place.Place.{Place}
use Rattle.cured_code.specs.declared.instr.Instr as flat
use Rattle.check_forms.specs.Pieces.{Line}
use Rattle.check_insert.specs.declared.draft.Draft.{Draft}
use Rattle.cil_form.specs.declared.number.Temp.{Temp}
use Rattle.cil_form.specs.declared.number.Object.{Object}
use Rattle.cil_form.specs.declared.instr.Target.{Target}
use Rattle.cil_form.specs.declared.instr.Set.{Set}
use Rattle.cil_form.specs.declared.instr.Set.TheVariants as set
use Rattle.cil_form.specs.declared.instr.Calculate.{Calculate}
use Rattle.cil_form.specs.declared.instr.Calculate.TheVariants as calculate
use Rattle.cil_form.specs.declared.instr.Point.{Point}
use Rattle.cil_form.specs.declared.instr.Point.TheVariants as point
use Rattle.cil_form.specs.declared.instr.Convert.{Convert}
use Rattle.cil_form.specs.declared.instr.Access.{Access}
use Rattle.cil_form.specs.declared.instr.Access.TheVariants as access
use Rattle.cil_form.specs.declared.instr.Allocate.{Allocate}
use Rattle.cil_form.specs.declared.instr.Call.{Call}
use Rattle.cil_form.specs.declared.instr.RuntimeCall.{RuntimeCall}
use Rattle.cil_form.specs.declared.instr.Instr.TheVariants as source
use Rattle.cil_form.specs.Meaning.{into_of_set, into_of_calculate, into_of_point, into_of_convert, into_of_allocate, into_of_runtime}
use Rattle.c_types.specs.Table.{shape_at}
use Rattle.cil_form.specs.Typing.{Context, HeldType, Typing, Includes, with_held, IsTemp, IsShaped, IsShapedSet, IsShapedCalculate, IsShapedPoint}
use Rattle.cure_rules.specs.Known.{Takes, known_of, known_at, copies, held_words}
use Rattle.cure_rules.specs.Setting.{CopiedWords, IsCuringSet}
use Rattle.cure_scope.specs.declared.scope.Scope.{Scope}
use Rattle.cure_scope.specs.Scopes.{fixed_column, whole_of, world_of}
use Rattle.cure_instrs.specs.Cured.{IsIn, SetCured, CalculateCured, AccessCured, IsCopied, IsAsked}
use Rattle.cure_instrs.proofs.KnownLaws.{leaves_held}
use Rattle.cure_points.specs.Cured.{PointCured}
use Rattle.cure_blocks.specs.Cured.{ConvertCured, AllocateCured, RuntimeCured}
use Rattle.cure_calls.specs.Cured.{CallCured}
use Rattle.cure_objects.specs.Cured.{ObjectCured}
use Rattle.cure_bodies.specs.declared.holding.Holdings.{Holdings}
use Rattle.cure_bodies.specs.Holding.{holds_now, Makes, Notes}
use Rattle.cure_bodies.specs.Results.{held_at, called_by, set_result, calculate_result, point_result, convert_result, allocate_result, runtime_result, IsPointAsked}
use Rattle.cure_bodies.specs.Bodies.{InstrCured}
use Rattle.cure_bodies.proofs.Laws.{makes_each, noted, unnoted}
use Rattle.cure_bodies.proofs.Tracks.{set-tracked, calculate-tracked, point-tracked, convert-tracked, load-tracked, allocate-tracked, call-tracked, runtime-tracked}

-- Copies

abbrev SomeWords : Scope → Temp → Temp → List flat.Instr → Type 0
SomeWords k into from code = (n : ℕ) × Takes (world_of k) into n × Takes (world_of k) from n × Line (copies n (fixed_column into) (fixed_column from)) code

place-one : (v : HeldType) (p a : ℕ) → Some p ≡ Some a → a ≡ p
place-one v p a e = cc (e)

some-words : (k : Scope) (into from : Temp) (types less : Typing) (x : Option HeldType) (code : List flat.Instr) → IsTemp from
    → CopiedWords (world_of k) into from (known_at (fixed_column from) x) (known_of (world_of k).slots types) (known_of (world_of k).slots less) code
    → SomeWords k into from code
some-words k into from types less None code is r = (r.0, r.1, r.2, r.3)
some-words k into from types less (Some v) code is r = (
  held_words (whole_of k) v,
  r.2,
  (is, r.2.1),
  subst (λ z. Line (copies (held_words (whole_of k) v) (fixed_column into) z) code) (place-one v (fixed_column from) r.0 r.1) r.3,
)

-- nothing is known of what is copied: words may be
copied-unknown : (k : Scope) (into from : Temp) (types less : Typing) (code : List flat.Instr) → types from ≡ None
    → Includes (with_held into (types from) types) less → SomeWords k into from code
    → IsCuringSet (set.Copy into from) (world_of k) (known_of (world_of k).slots types) (known_of (world_of k).slots less) code
copied-unknown k into from types less code e l words =
    subst (λ z. CopiedWords (world_of k) into from (known_at (fixed_column from) z) (known_of (world_of k).slots types) (known_of (world_of k).slots less) code)
    (sym e)
    (words.0, words.1, words.2, words.3, leaves_held k.parameters types less into None (subst (λ z. Includes (with_held into z types) less) e l))

copied-cured : (k : Scope) (into from : Temp) (T types less : Typing) (x : Option HeldType) (c : Context) (code : List flat.Instr)
    → IsIn (world_of k) c → Includes T types → T from ≡ x → IsShapedSet (set.Copy into from) c types less
    → ((types : Typing) → types from ≡ x → SetCured (set.Copy into from) (world_of k) types code)
    → (o : Option HeldType) → types from ≡ o
    → IsCuringSet (set.Copy into from) (world_of k) (known_of (world_of k).slots types) (known_of (world_of k).slots less) code
unfolding SetCured
copied-cured k into from T types less x c code is more f s p (Some v) e =
    p types (e ∙ sym (more from v e) ∙ f) c less is s
copied-cured k into from T types less x c code is more f s p None e =
    copied-unknown k into from types less code e s.1.1
    (some-words k into from T (with_held into (T from) T) (T from) code s.0
    (p T f c (with_held into (T from) T) is (s.0, (s.1.0, λ u v h. h))))

set-cured : (i : Set) (k : Scope) (T types less : Typing) (x : Option HeldType) (c : Context) (code : List flat.Instr)
    → IsIn (world_of k) c → Includes T types → IsCopied i T x → IsShapedSet i c types less
    → ((types : Typing) → IsCopied i types x → SetCured i (world_of k) types code)
    → IsCuringSet i (world_of k) (known_of (world_of k).slots types) (known_of (world_of k).slots less) code
unfolding SetCured
set-cured (set.Integer into z t) k T types less x c code is more f s p = p types tt c less is s
set-cured (set.Null into t) k T types less x c code is more f s p = p types tt c less is s
set-cured (set.Function into g t) k T types less x c code is more f s p = p types tt c less is s
set-cured (set.Object into o home t) k T types less x c code is more f s p = p types tt c less is s
set-cured (set.Copy into from) k T types less x c code is more f s p =
    copied-cured k into from T types less x c code is more f s p (types from) refl

pub set_made : (k : Scope) (i : Set) (x : Option HeldType) (h g : Holdings) (a b c : Draft) → IsCopied i (holds_now h) x
    → ((types : Typing) → IsCopied i types x → Makes (SetCured i (world_of k) types) a b)
    → Notes (into_of_set i) (set_result i (whole_of k).table x) b h c g → Makes (InstrCured (source.Set i) (world_of k) h g) a c
set_made k i x h g a b c asked made notes =
    noted (source.Set i) (world_of k) (into_of_set i) (set_result i (whole_of k).table x) h g a b c
    (λ code. (types : Typing) → IsCopied i types x → SetCured i (world_of k) types code)
    (λ code cx blocks types less p is more s. set-cured i k (holds_now h) types less x cx code is.stands more asked s p)
    (λ cx blocks types less is more s. set-tracked i (world_of k) cx (holds_now h) types less x is.stands more asked s)
    (makes_each (λ types. IsCopied i types x) (λ types. SetCured i (world_of k) types) (holds_now h) a b asked made) notes

-- Operators

pub calculate-asked : (i : Calculate) (c : Context) (T types less : Typing) (x : Option HeldType) → Includes T types → IsAsked i T x
    → IsShapedCalculate i c types less → IsAsked i types x
calculate-asked (calculate.Negate into a t) c T types less x more f s = tt
calculate-asked (calculate.Complement into a t) c T types less x more f s = tt
calculate-asked (calculate.Binary into operator a b t at) c T types less x more f s = tt
calculate-asked (calculate.Truth into a) c T types less x more f s = s.0.1.1 ∙ sym (more a s.0.0 s.0.1.1) ∙ f
calculate-asked (calculate.Not into a) c T types less x more f s = s.0.1.1 ∙ sym (more a s.0.0 s.0.1.1) ∙ f

pub calculate_made : (k : Scope) (i : Calculate) (x : Option HeldType) (h g : Holdings) (a b c : Draft) → IsAsked i (holds_now h) x
    → ((types : Typing) → IsAsked i types x → Makes (CalculateCured i (world_of k) types) a b)
    → Notes (into_of_calculate i) (calculate_result i (whole_of k).table) b h c g → Makes (InstrCured (source.Calculate i) (world_of k) h g) a c
unfolding CalculateCured
calculate_made k i x h g a b c asked made notes =
    noted (source.Calculate i) (world_of k) (into_of_calculate i) (calculate_result i (whole_of k).table) h g a b c
    (λ code. (types : Typing) → IsAsked i types x → CalculateCured i (world_of k) types code)
    (λ code cx blocks types less p is more s. p types (calculate-asked i cx (holds_now h) types less x more asked s) cx less is.stands s)
    (λ cx blocks types less is more s. calculate-tracked i (world_of k) cx (holds_now h) types less is.stands more s)
    (makes_each (λ types. IsAsked i types x) (λ types. CalculateCured i (world_of k) types) (holds_now h) a b asked made) notes

-- Pointers

pub point-asked : (i : Point) (c : Context) (T types less : Typing) (x : Option HeldType) → Includes T types → IsPointAsked i T x
    → IsShapedPoint i c types less → IsPointAsked i types x
point-asked (point.Move into p n way t at) c T types less x more f s = s.5.1.1 ∙ sym (more n _ s.5.1.1) ∙ f
point-asked (point.IsNull into p t different) c T types less x more f s = s.3.1 ∙ sym (more p _ s.3.1) ∙ f
point-asked (point.Difference into a t b u at) c T types less x more f s = tt
point-asked (point.Compare into which a t b u at) c T types less x more f s = tt
point-asked (point.Member into from outer t i inner u at) c T types less x more f s = tt
point-asked (point.Decay into from outer array check inner element at) c T types less x more f s = tt
point-asked (point.Address into from outer inner t) c T types less x more f s = tt

pub point_made : (k : Scope) (i : Point) (x : Option HeldType) (h g : Holdings) (a b c : Draft) → IsPointAsked i (holds_now h) x
    → ((types : Typing) → IsPointAsked i types x → Makes (PointCured i (world_of k) types) a b)
    → Notes (into_of_point i) (point_result i (whole_of k).table) b h c g → Makes (InstrCured (source.Point i) (world_of k) h g) a c
unfolding PointCured
point_made k i x h g a b c asked made notes =
    noted (source.Point i) (world_of k) (into_of_point i) (point_result i (whole_of k).table) h g a b c
    (λ code. (types : Typing) → IsPointAsked i types x → PointCured i (world_of k) types code)
    (λ code cx blocks types less p is more s. p types (point-asked i cx (holds_now h) types less x more asked s.0) cx less is.stands is.members s.0)
    (λ cx blocks types less is more s. point-tracked i (world_of k) cx (holds_now h) types less is.stands more s.0)
    (makes_each (λ types. IsPointAsked i types x) (λ types. PointCured i (world_of k) types) (holds_now h) a b asked made) notes

-- The others

abbrev Always : Typing → Type 0
Always types = Unit {0}

pub convert_made : (k : Scope) (i : Convert) (h g : Holdings) (a b c : Draft) → ((types : Typing) → Makes (ConvertCured i (world_of k) types) a b)
    → Notes (into_of_convert i) (convert_result i (whole_of k).table) b h c g → Makes (InstrCured (source.Convert i) (world_of k) h g) a c
unfolding ConvertCured
convert_made k i h g a b c made notes =
    noted (source.Convert i) (world_of k) (into_of_convert i) (convert_result i (whole_of k).table) h g a b c
    (λ code. (types : Typing) → Always types → ConvertCured i (world_of k) types code)
    (λ code cx blocks types less p is more s. p types tt cx less is.stands s.0)
    (λ cx blocks types less is more s. convert-tracked i (world_of k) cx (holds_now h) types less is.stands more s.0)
    (makes_each Always (λ types. ConvertCured i (world_of k) types) (holds_now h) a b tt (λ types u. made types)) notes

pub allocate_made : (k : Scope) (i : Allocate) (h g : Holdings) (a b c : Draft) → ((types : Typing) → Makes (AllocateCured i (world_of k) types) a b)
    → Notes (into_of_allocate i) (allocate_result i) b h c g → Makes (InstrCured (source.Allocate i) (world_of k) h g) a c
unfolding AllocateCured
allocate_made k i h g a b c made notes =
    noted (source.Allocate i) (world_of k) (into_of_allocate i) (allocate_result i) h g a b c
    (λ code. (types : Typing) → Always types → AllocateCured i (world_of k) types code)
    (λ code cx blocks types less p is more s. p types tt cx less is.stands s.0)
    (λ cx blocks types less is more s. allocate-tracked i (world_of k) cx (holds_now h) types less is.stands more s.0)
    (makes_each Always (λ types. AllocateCured i (world_of k) types) (holds_now h) a b tt (λ types u. made types)) notes

pub call_made : (k : Scope) (i : Call) (h g : Holdings) (a b c : Draft) → ((types : Typing) → Makes (CallCured i (world_of k) types) a b)
    → Notes i.into (called_by (whole_of k).table (shape_at (whole_of k).table i.ty)) b h c g → Makes (InstrCured (source.Call i) (world_of k) h g) a c
unfolding CallCured
call_made k i h g a b c made notes =
    noted (source.Call i) (world_of k) i.into (called_by (whole_of k).table (shape_at (whole_of k).table i.ty)) h g a b c
    (λ code. (types : Typing) → Always types → CallCured i (world_of k) types code)
    (λ code cx blocks types less p is more s. p types tt cx less is.stands s)
    (λ cx blocks types less is more s. call-tracked i (world_of k) cx (holds_now h) types less is.stands more s)
    (makes_each Always (λ types. CallCured i (world_of k) types) (holds_now h) a b tt (λ types u. made types)) notes

pub runtime_made : (k : Scope) (i : RuntimeCall) (h g : Holdings) (a b c : Draft) → ((types : Typing) → Makes (RuntimeCured i (world_of k) types) a b)
    → Notes (into_of_runtime i) (runtime_result i) b h c g → Makes (InstrCured (source.Runtime i) (world_of k) h g) a c
unfolding RuntimeCured
runtime_made k i h g a b c made notes =
    noted (source.Runtime i) (world_of k) (into_of_runtime i) (runtime_result i) h g a b c
    (λ code. (types : Typing) → Always types → RuntimeCured i (world_of k) types code)
    (λ code cx blocks types less p is more s. p types tt cx less is.stands s)
    (λ cx blocks types less is more s. runtime-tracked i (world_of k) cx (holds_now h) types less is.stands more s)
    (makes_each Always (λ types. RuntimeCured i (world_of k) types) (holds_now h) a b tt (λ types u. made types)) notes

-- Loads, stores and copies

pub of_access : (k : Scope) (i : Access) (types : Typing) (code : List flat.Instr) → AccessCured i (world_of k) types code → ObjectCured i (world_of k) types code
unfolding AccessCured ObjectCured
of_access k i types code f = λ c after is whole s. f c after is s

pub load_made : (k : Scope) (into from : Temp) (n : NodeId) (t : TypeId) (at : Place) (h g : Holdings) (a b c : Draft)
    → ((types : Typing) → Makes (ObjectCured (access.Load into from n t at) (world_of k) types) a b)
    → Notes into (held_at (whole_of k).table t) b h c g → Makes (InstrCured (source.Access (access.Load into from n t at)) (world_of k) h g) a c
unfolding ObjectCured
load_made k into from n t at h g a b c made notes =
    noted (source.Access (access.Load into from n t at)) (world_of k) into (held_at (whole_of k).table t) h g a b c
    (λ code. (types : Typing) → Always types → ObjectCured (access.Load into from n t at) (world_of k) types code)
    (λ code cx blocks types less p is more s. p types tt cx less is.stands is.parts s.0)
    (λ cx blocks types less is more s. load-tracked into from n t at (world_of k) cx (holds_now h) types less is.stands more s.0)
    (makes_each Always (λ types. ObjectCured (access.Load into from n t at) (world_of k) types) (holds_now h) a b tt (λ types u. made types)) notes

-- an access that writes no temporary
silent : (k : Scope) (i : Access) (h : Holdings) (a b : Draft)
    → ((cx : Context) (types less : Typing) → IsShaped (source.Access i) cx types less → Includes types less)
    → ((types : Typing) → Makes (ObjectCured i (world_of k) types) a b) → Makes (InstrCured (source.Access i) (world_of k) h h) a b
unfolding ObjectCured
silent k i h a b keeps made =
    unnoted (source.Access i) (world_of k) h a b
    (λ code. (types : Typing) → Always types → ObjectCured i (world_of k) types code)
    (λ code cx blocks types less p is more s. p types tt cx less is.stands is.parts s.0)
    keeps
    (makes_each Always (λ types. ObjectCured i (world_of k) types) (holds_now h) a b tt (λ types u. made types))

pub store_made : (k : Scope) (to : Target) (v : Temp) (t : TypeId) (at assignment : Place) (h : Holdings) (a b : Draft)
    → ((types : Typing) → Makes (ObjectCured (access.Store to v t at assignment) (world_of k) types) a b)
    → Makes (InstrCured (source.Access (access.Store to v t at assignment)) (world_of k) h h) a b
store_made k to v t at assignment h a b made = silent k (access.Store to v t at assignment) h a b (λ cx types less s. s.0.2) made

pub clear_made : (k : Scope) (o : Object) (h : Holdings) (a b : Draft)
    → ((types : Typing) → Makes (ObjectCured (access.Clear o) (world_of k) types) a b)
    → Makes (InstrCured (source.Access (access.Clear o)) (world_of k) h h) a b
clear_made k o h a b made = silent k (access.Clear o) h a b (λ cx types less s. s.0.1) made

pub copy_made : (k : Scope) (to : Target) (to_place : Place) (from : Temp) (n : NodeId) (from_place : Place) (t : TypeId) (assignment : Place) (h : Holdings)
    (a b : Draft) → ((types : Typing) → Makes (ObjectCured (access.Copy to to_place from n from_place t assignment) (world_of k) types) a b)
    → Makes (InstrCured (source.Access (access.Copy to to_place from n from_place t assignment)) (world_of k) h h) a b
copy_made k to to_place from n from_place t assignment h a b made =
    silent k (access.Copy to to_place from n from_place t assignment) h a b (λ cx types less s. s.0.5) made

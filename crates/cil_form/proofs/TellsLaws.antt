-- The sites of a program tell of all that its code may name.
use Rattle.std.proofs.Common.{ℕ, zero, suc, ◌<◌, ◌≡◌, subst, inl, inr, List, [], ◌∷◌, ◌++◌, length, map, flat_map, slice_get, slice_index_or, Some, arith}
use Rattle.std.specs.List.{Contains}
use Rattle.cc_base.specs.declared.number.NodeId.{NodeId}
use Rattle.cc_base.specs.declared.number.TypeId.{TypeId}
use Rattle.c_types.specs.declared.shape.TypeShape.TheVariants as shape
use Rattle.kind_sites.specs.declared.site.Site.TheVariants.{Home}
use Rattle.c_types.specs.Table.{Table, void_entry}
use Rattle.src_mem.specs.Memory.{Planned}
use Rattle.cil_form.specs.declared.number.Object.{Object}
use Rattle.cil_form.specs.declared.number.Object.TheVariants as object
use Rattle.cil_form.specs.declared.program.Function.{Function}
use Rattle.cil_form.specs.declared.program.Program.{Program}
use Rattle.cil_form.specs.Machine.{plan, variables_of}
use Rattle.cil_form.specs.Sites.{Each}
use Rattle.cil_form.specs.Typing.{PlaceOf, Context, IsObject, IsNamedAs}
use Rattle.cil_form.specs.Shape.{context_of, context_in}
use Rattle.cil_form.specs.Told.{IsAsked, TellsOf, IsToldOf}

-- Lists whose elements have a property

each-left : {X : Type 0} (P : X → Type 0) (xs ys : List X) → Each P (xs ++ ys) → Each P xs
each-left P [] ys h = tt
each-left P (x ∷ xs) ys h = (h.0, each-left P xs ys h.1)

each-right : {X : Type 0} (P : X → Type 0) (xs ys : List X) → Each P (xs ++ ys) → Each P ys
each-right P [] ys h = h
each-right P (x ∷ xs) ys h = each-right P xs ys h.1

each-got : {X : Type 0} (P : X → Type 0) (xs : List X) (n : ℕ) (x : X) → Each P xs → slice_get xs n ≡ Some x → P x
each-got P [] n x h e = absurd (cc (e))
each-got P (y ∷ ys) zero x h e = let it : y ≡ x = cc (e) in subst P it h.0
each-got P (y ∷ ys) (suc n) x h e = each-got P ys n x h.1 e

each-flat : {X A : Type 0} (P : A → Type 0) (f : X → List A) (xs : List X) (k : ℕ) (x : X) → k < length xs → slice_index_or xs k x ≡ x → Each P (flat_map f xs) → Each P (f x)
each-flat P f [] k x less e h = absurd (omega (arith, less))
each-flat P f (y ∷ ys) zero x less e h = subst (λ z. Each P (f z)) e (each-left P (f y) (flat_map f ys) h)
each-flat P f (y ∷ ys) (suc k) x less e h = each-flat P f ys k x (omega (arith, less)) e (each-right P (f y) (flat_map f ys) h)

-- Types

-- what has a shape other than void is in the table
type-there : (table : Table) (n : ℕ) (node : NodeId) (u : TypeId) → (slice_index_or table n void_entry).shape ≡ shape.Pointer node u → n < length table
type-there [] n node u e = absurd (cc (e))
type-there (x ∷ xs) zero node u e = omega arith
type-there (x ∷ xs) (suc n) node u e = let less = type-there xs n node u e in omega (arith, less)

-- Objects

abbrev HasHome : Program → Planned → Type 0
HasHome p o = Contains p.sites (Home o.node o.type)

named-asked : (k : Context) (u home : _) (t : TypeId) → Contains k.sites (Home home u) → IsNamedAs k u t → IsAsked k.sites (PlaceOf home t)
named-asked k u home t h (inl e) = inr (u, h, inl e)
named-asked k u home t h (inr d) = inr (u, h, inr d.1)

statics-told : (p : Program) → IsToldOf p → Each (HasHome p) (map (λ s. plan s.planned) p.statics)
statics-told p h = each-left (HasHome p) (map (λ s. plan s.planned) p.statics) (flat_map variables_of p.functions) h.objects

variables-told : (p : Program) (f : Function) → IsToldOf p → Contains p.functions f → Each (HasHome p) (variables_of f)
variables-told p f h there =
    each-flat (HasHome p) variables_of p.functions there.0 f there.1 there.2
    (each-right (HasHome p) (map (λ s. plan s.planned) p.statics) (flat_map variables_of p.functions) h.objects)

function-objects : (p : Program) (f : Function) → IsToldOf p → Contains p.functions f → (o : Object) (home : NodeId) (t : TypeId) → IsObject (context_in p f) o home t
    → IsAsked p.sites (PlaceOf home t)
function-objects p f h there (object.Static n) home t l = named-asked (context_in p f) l.0 home t (each-got (HasHome p) _ n.0 _ (statics-told p h) l.1) l.2
function-objects p f h there (object.Variable n) home t l =
    named-asked (context_in p f) l.0 home t (each-got (HasHome p) _ n.0 _ (variables-told p f h there) l.1) l.2

outer-objects : (p : Program) → IsToldOf p → (o : Object) (home : NodeId) (t : TypeId) → IsObject (context_of p) o home t → IsAsked p.sites (PlaceOf home t)
outer-objects p h (object.Static n) home t l = named-asked (context_of p) l.0 home t (each-got (HasHome p) _ n.0 _ (statics-told p h) l.1) l.2
outer-objects p h (object.Variable n) home t l = let none = l.1 in absurd (cc (none))

pub function-told : (p : Program) (f : Function) → IsToldOf p → Contains p.functions f → TellsOf p.sites (context_in p f)
function-told p f h there = record {
  pointers = λ t node u e. h.pointers t node u (type-there p.types t.0 node u e, e);
  objects = function-objects p f h there;
}

pub outer-told : (p : Program) → IsToldOf p → TellsOf p.sites (context_of p)
outer-told p h = record {
  pointers = λ t node u e. h.pointers t node u (type-there p.types t.0 node u e, e);
  objects = outer-objects p h;
}

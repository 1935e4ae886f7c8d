-- A program in shape, whose sites are told, is curable under a solution.
use Rattle.std.proofs.Common.{◌≡◌, ◌≢◌, ◌⊎◌, ◌∙◌, Option, None, ⊎_elim, ℕ, zero, suc, true, List, [], ◌∷◌, ◌++◌, map, slice_get, Some, refl, ap, sym, subst}
use Rattle.std.specs.Prelude.{flat_map, IsSome}
use Rattle.std.specs.List.{Contains}
use Rattle.std.proofs.lemmas.Option.{slice_get_within, slice_get-get_or, get_or_from_slice_get}
use Rattle.std.proofs.lemmas.List.Elements.{All-contains}
use Rattle.cc_base.specs.declared.number.TypeId.{TypeId}
use Rattle.kind_sites.specs.declared.site.Site.TheVariants as site
use Rattle.c_types.specs.Table.{is_function, is_function_shape}
use Rattle.kind_sites.specs.Solutions.{IsSolution}
use Rattle.src_mem.specs.Memory.{Planned}
use Rattle.cil_form.specs.declared.number.Object.{Object}
use Rattle.cil_form.specs.declared.number.Object.TheVariants as object
use Rattle.cil_form.specs.declared.program.Function.{Function}
use Rattle.cil_form.specs.declared.program.Program.{Program}
use Rattle.cil_form.specs.Sites.{Each}
use Rattle.cil_form.specs.Shape.{IsInShape, IsPlanInShape, IsStaticInShape, IsFunctionInShape, context_of, context_in}
use Rattle.cil_form.specs.Told.{AreSitesTold, IsToldOf, IsSolutionOf, TellsOf, objects_of}
use Rattle.cil_form.specs.Typing.{Context, IsObjectType, plan_of}
use Rattle.cil_form.proofs.TellsLaws.{function-told, outer-told}
use Rattle.cure_rules.specs.Known.{World, AreSizes}
use Rattle.cure_instrs.specs.Cured.{IsIn}
use Rattle.cure_ready.specs.Curable.{HaveFewParameters, IsCurable}
use Rattle.cil_form.specs.declared.program.Static.{Static}
use Rattle.cil_form.specs.Machine.{plan, variables_of}
use Rattle.std.specs.List.{filter_map}
use Rattle.cc_base.specs.declared.kind.Kind.{Kind}
use Rattle.cc_base.specs.declared.kind.Kind.TheVariants.{Safe, Wild}
use Rattle.cc_base.specs.declared.number.NodeId.{NodeId}
use Rattle.src_mem.specs.Runs as runs
use Rattle.cil_form.specs.declared.program.Parameter.{Parameter}
use Rattle.cil_form.specs.Typing.{IsScalar}
use Rattle.cure_rules.specs.Accesses.{IsHome}
use Rattle.cure_calls.specs.Storing.{HasHome as HasItsHome, HaveHomes, CanStore, CanStoreAll}
use Rattle.cure_ready.proofs.Instructions.{can-store}

-- Lists

each-left : {X : Type 0} (P : X → Type 0) (xs ys : List X) → Each P (xs ++ ys) → Each P xs
each-left P [] ys h = tt
each-left P (x ∷ xs) ys h = (h.0, each-left P xs ys h.1)

each-right : {X : Type 0} (P : X → Type 0) (xs ys : List X) → Each P (xs ++ ys) → Each P ys
each-right P [] ys h = h
each-right P (x ∷ xs) ys h = each-right P xs ys h.1

each-got : {X : Type 0} (P : X → Type 0) (xs : List X) (n : ℕ) (x : X) → Each P xs → slice_get xs n ≡ Some x → P x
each-got P [] n x h e = absurd (cc (e))
each-got P (y ∷ ys) zero x h e = let it : y ≡ x = cc (e) in subst P it h.0
each-got P (y ∷ ys) (suc n) x h e = each-got P ys n x h.1 e

each-flat : {X A : Type 0} (P : A → Type 0) (f : X → List A) (xs : List X) (n : ℕ) (x : X) → Each P (flat_map f xs) → slice_get xs n ≡ Some x
    → Each P (f x)
each-flat P f [] n x h e = absurd (cc (e))
each-flat P f (y ∷ ys) zero x h e = let it : y ≡ x = cc (e) in subst (λ z. Each P (f z)) it (each-left P (f y) (flat_map f ys) h)
each-flat P f (y ∷ ys) (suc n) x h e = each-flat P f ys n x (each-right P (f y) (flat_map f ys) h) e

map-got : {X A : Type 0} (f : X → A) (xs : List X) (n : ℕ) (a : A) → slice_get (map f xs) n ≡ Some a
    → (x : X) × (slice_get xs n ≡ Some x) × (f x ≡ a)
map-got f [] n a e = absurd (cc (e))
map-got f (x ∷ xs) zero a e = let it : f x ≡ a = cc (e) in (x, refl, it)
map-got f (x ∷ xs) (suc n) a e = map-got f xs n a e

listed : {X : Type 0} (xs : List X) (n : ℕ) (x : X) → slice_get xs n ≡ Some x → Contains xs x
listed xs n x e = (n, slice_get_within xs n x e, get_or_from_slice_get xs n x x e)

-- Objects and functions

abbrev HasHome : Program → Planned → Type 0
HasHome p o = Contains p.sites (site.Home o.node o.type)

static-planned : (p : Program) (n : ℕ) (x : Planned) → IsInShape p → IsToldOf p → slice_get (map (λ (s : Static). plan s.planned) p.statics) n ≡ Some x
    → HasHome p x × IsObjectType (context_of p) x.type
static-planned p n x shape told e =
    let s = map-got (λ (s : Static). plan s.planned) p.statics n x e in
    let q = All-contains (IsStaticInShape p) p.statics s.0 shape.statics (listed p.statics n s.0 s.1) in (
      each-got (HasHome p) (map (λ (s : Static). plan s.planned) p.statics) n x
          (each-left (HasHome p) (map (λ (s : Static). plan s.planned) p.statics) (flat_map variables_of p.functions) told.objects) e,
      subst (λ y. IsObjectType (context_of p) y.type) s.2 (let a = q.planned in a.1),
    )

variable-planned : (p : Program) (f : Function) (n : ℕ) (x : Planned) → IsInShape p → IsToldOf p → (m : ℕ) → slice_get p.functions m ≡ Some f
    → slice_get (variables_of f) n ≡ Some x → HasHome p x × IsObjectType (context_of p) x.type
variable-planned p f n x shape told m there e =
    let q = All-contains (IsFunctionInShape p) p.functions f shape.functions (listed p.functions m f there) in (
      each-got (HasHome p) (variables_of f) n x
          (each-flat (HasHome p) variables_of p.functions m f
          (each-right (HasHome p) (map (λ (s : Static). plan s.planned) p.statics) (flat_map variables_of p.functions) told.objects) there) e,
      (let a = each-got (IsPlanInShape p) (variables_of f) n x q.variables e in a.1),
    )

function-typed : (p : Program) (m : ℕ) (v : TypeId) → IsInShape p → slice_get (map (λ (f : Function). f.ty) p.functions) m ≡ Some v
    → is_function p.types v ≡ true
function-typed p m v shape e =
    let s = map-got (λ (f : Function). f.ty) p.functions m v e in
    let q = All-contains (IsFunctionInShape p) p.functions s.0 shape.functions (listed p.functions m s.0 s.1) in
    subst (λ t. is_function p.types t ≡ true) s.2 (ap is_function_shape (let a = q.type in a.2))

-- what holds in a function, and in the initialisers
made-curable : (p : Program) (k : Context) (w : World) → IsInShape p → IsToldOf p → IsSolutionOf p w.whole.kind → k.table ≡ p.types → k.sites ≡ p.sites
    → k.functions ≡ map (λ (f : Function). f.ty) p.functions → IsIn w k → AreSizes w.whole → HaveFewParameters p.types → TellsOf k.sites k
    → ((o : Object) (x : Planned) → plan_of k o ≡ Some x → Contains k.sites (site.Home x.node x.type) × IsObjectType k x.type)
    → (IsSome k.result → w.number ≢ 0) → IsCurable k w
made-curable p k w shape told solution table sites functions inside sizes few tells objects number = record {
  inside = inside;
  solution = subst (λ T. IsSolution T k.sites w.whole.kind) types (subst (λ s. IsSolution p.types s w.whole.kind) (sym sites) solution);
  made = objects_of p;
  told = subst (λ T. AreSitesTold T (objects_of p) k.sites) types (subst (λ s. AreSitesTold p.types (objects_of p) s) (sym sites) told);
  tells = tells;
  objects = objects;
  functions = λ f v e. subst (λ T. is_function T v ≡ true) types (function-typed p f v shape (ap (λ fs. slice_get fs f) (sym functions) ∙ e));
  sizes = sizes;
  number = number;
  few = subst HaveFewParameters types few;
}
  where
    types : p.types ≡ w.whole.table
    types = sym table ∙ inside.table

pub function-curable : (p : Program) (f : Function) (w : World) → IsInShape p → IsToldOf p → IsSolutionOf p w.whole.kind → Contains p.functions f
    → IsIn w (context_in p f) → AreSizes w.whole → w.number ≢ 0 → HaveFewParameters p.types → IsCurable (context_in p f) w
function-curable p f w shape told solution there inside sizes number few =
    made-curable p (context_in p f) w shape told solution refl refl refl inside sizes few (function-told p f told there) objects (λ h. number)
  where
    place : slice_get p.functions there.0 ≡ Some f
    place = slice_get-get_or p.functions there.0 f there.1 ∙ ap Some there.2

    objects : (o : Object) (x : Planned) → plan_of (context_in p f) o ≡ Some x
        → Contains p.sites (site.Home x.node x.type) × IsObjectType (context_in p f) x.type
    objects (object.Static n) x e = static-planned p n.0 x shape told e
    objects (object.Variable n) x e = variable-planned p f n.0 x shape told there.0 place e

pub initialisers-curable : (p : Program) (w : World) → IsInShape p → IsToldOf p → IsSolutionOf p w.whole.kind → IsIn w (context_of p)
    → AreSizes w.whole → HaveFewParameters p.types → IsCurable (context_of p) w
initialisers-curable p w shape told solution inside sizes few =
    made-curable p (context_of p) w shape told solution refl refl refl inside sizes few (outer-told p told) objects (λ h. absurd (cc (h)))
  where
    objects : (o : Object) (x : Planned) → plan_of (context_of p) o ≡ Some x
        → Contains p.sites (site.Home x.node x.type) × IsObjectType (context_of p) x.type
    objects (object.Static n) x e = static-planned p n.0 x shape told e
    objects (object.Variable n) x e = absurd (cc (e))

-- Parameters

plain : (x : Kind) → (x ≡ Safe) ⊎ (x ≡ Wild) → IsHome x
plain x h = ⊎_elim (λ e. subst IsHome (sym e) tt) (λ e. subst IsHome (sym e) tt) h

module _ (p : Program) (f : Function) (w : World) (r : IsCurable (context_in p f) w) where
  stored : (x : TypeId) (o : Option NodeId) → ((home : NodeId) → o ≡ Some home → Contains p.sites (site.Home home x))
      → IsScalar (context_of p) x → HasItsHome w.whole o × CanStore w.whole o x
  stored x None h scalar = (tt, tt)
  stored x (Some home) h scalar =
      let s = r.solution.each (site.Home home x) (h home refl) in
      (plain (w.whole.kind home) s.plain, can-store (context_in p f) w r home x (h home refl) scalar)

  abbrev IsHeadHome : Planned → Type 0
  IsHeadHome o = Contains p.sites (site.Home o.node o.type)

  abbrev head : Parameter → runs.Parameter
  head x = record { type = x.ty; home = x.home }

  first-home : (x : TypeId) (o : Option NodeId) (ps : List runs.Parameter)
      → Each IsHeadHome (filter_map (λ (y : runs.Parameter). runs.planned y.type y.home) (record { type = x; home = o } ∷ ps))
      → ((home : NodeId) → o ≡ Some home → Contains p.sites (site.Home home x))
      × Each IsHeadHome (filter_map (λ (y : runs.Parameter). runs.planned y.type y.home) ps)
  first-home x None ps h = (λ home e. absurd (cc (e)), h)
  first-home x (Some n) ps h = (λ home e. let it : n ≡ home = cc (e) in subst (λ m. Contains p.sites (site.Home m x)) it h.0, h.1)

  all-stored : (ps : List Parameter) → Each IsHeadHome (filter_map (λ (y : runs.Parameter). runs.planned y.type y.home) (map head ps))
      → Each (λ (x : Parameter). IsScalar (context_of p) x.ty) ps → HaveHomes w.whole ps × CanStoreAll w.whole ps
  all-stored [] h scalars = (tt, tt)
  all-stored (x ∷ xs) h scalars =
      let a = first-home x.ty x.home (map head xs) h in
      let b = stored x.ty x.home a.0 scalars.0 in
      let c = all-stored xs a.1 scalars.1 in
      ((b.0, c.0), (b.1, c.1))

  pub parameters-stored : IsInShape p → IsToldOf p → Contains p.functions f → HaveHomes w.whole f.parameters × CanStoreAll w.whole f.parameters
  parameters-stored shape told there =
      let q = All-contains (IsFunctionInShape p) p.functions f shape.functions there in
      let place = slice_get-get_or p.functions there.0 f there.1 ∙ ap Some there.2 in
      all-stored f.parameters
      (each-left IsHeadHome (filter_map (λ (y : runs.Parameter). runs.planned y.type y.home) (map head f.parameters)) (map plan f.locals)
      (each-flat IsHeadHome variables_of p.functions there.0 f
      (each-right IsHeadHome (map (λ (s : Static). plan s.planned) p.statics) (flat_map variables_of p.functions) told.objects) place)) q.scalars

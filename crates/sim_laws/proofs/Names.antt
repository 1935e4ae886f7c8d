-- What code of a function may name, and what the facts of three-address code say of the values that its instructions give.
use Rattle.std.proofs.Common.{◌≡◌, ℕ, ◌≤◌, List, length, Option, Some, None, refl, ap, sym, subst, ◌∙◌, inl, inr, Bool, if◌then◌else◌}
use Rattle.cc_base.specs.declared.number.NodeId.{NodeId}
use Rattle.cc_base.specs.declared.number.TypeId.{TypeId}
use Rattle.kind_sites.specs.declared.site.Site.{Site}
use Rattle.runs.specs.Outcome.{Outcome, Ended, Done, done, leaves, from, ◌>>◌}
use Rattle.runs.specs.Control.{Goes}
use Rattle.src_mem.specs.Pointers.{Value, Address}
use Rattle.src_mem.specs.Memory.{Planned}
use Rattle.src_mem.specs.State as source
use Rattle.src_mem.specs.State.{Exited, Stopped, Turns, Wants, Wrong}
use Rattle.src_mem.specs.Uses.{home}
use Rattle.src_mem.specs.Facts.{IsSoundAt}
use Rattle.src_mem.specs.Laws as laws
use Rattle.cil_form.specs.declared.number.Temp.{Temp}
use Rattle.cil_form.specs.declared.number.Object.{Object}
use Rattle.cil_form.specs.declared.number.Object.TheVariants as object
use Rattle.cil_form.specs.declared.instr.Instr.{Instr}
use Rattle.cil_form.specs.State as code
use Rattle.cil_form.specs.State.{with_temp, is_same, beside}
use Rattle.cil_form.specs.Shape.{source_functions_limit}
use Rattle.cil_form.specs.Typing.{HeldType, PointerTo, PlaceOf, Context, Typing, IsNamedAs, IsObject, IsShaped, no_types, plan_of, with_held}
use Rattle.cil_form.specs.Told.{IsAsked}
use Rattle.cil_form.proofs.AskedLaws.{instr-asked}
use Rattle.cil_facts.specs.Held.{IsHeldAs, IsSolvedFor, AreFacts, AreFactsBehind, GoesOn}
use Rattle.cured_code.specs.FlatState as flat
use Rattle.sim_relation.specs.Points.{Known, Knowledge, object_number}
use Rattle.cure_rules.specs.Slots.{AreSlots}
use Rattle.cure_rules.specs.Known.{AreSizes, IsPointer}
use Rattle.sim_laws.specs.Scenes.{Scene, Running, setting_of, world_of, around_of}
use Rattle.sim_laws.specs.Points.{Holds, NamesAlike, There, Point, planned_at}
use Rattle.sim_laws.proofs.Giving.{same-self}
use Rattle.sim_laws.proofs.Addresses.{same-number}

-- What code of a function of the scene may name beside its objects, somewhere in its body.
abbrev pub context_at : Scene → ℕ → List TypeId → Option TypeId → ℕ → Typing → Context
context_at w nodes functions result blocks kept = record {
  table = w.programs.whole.table;
  nodes = nodes;
  sites = w.programs.sites;
  statics = w.programs.whole.statics;
  variables = w.variables;
  functions = functions;
  result = result;
  blocks = blocks;
  kept = kept;
}

-- The kinds are a solution for the sites of the program, which tell of all that code of the scene may name; each static object has an address;
-- and the sizes of types once cured are those of the kinds.
pub record Names (w : Scene) : Type 0 where
  pub nodes : ℕ
  pub functions : List TypeId
  pub result : Option TypeId
  pub solved : IsSolvedFor (context_at w nodes functions result 0 no_types) (setting_of w.programs)
  pub laid : length w.programs.whole.statics ≤ length w.programs.whole.addresses
  pub few : length (setting_of w.programs).functions ≤ source_functions_limit
  pub sizes : AreSizes w.programs.whole

-- with so many blocks around
abbrev pub context_in : (w : Scene) → Names w → ℕ → Typing → Context
context_in w names blocks kept = context_at w names.nodes names.functions names.result blocks kept

pub solved-in : (w : Scene) (names : Names w) (blocks : ℕ) (kept : Typing) → IsSolvedFor (context_in w names blocks kept) (setting_of w.programs)
solved-in w names blocks kept = record {
  table = names.solved.table;
  well_formed = names.solved.well_formed;
  solution = names.solved.solution;
  made = names.solved.made;
  told = names.solved.told;
  tells = record { pointers = names.solved.tells.pointers; objects = λ o home t h. names.solved.tells.objects o home t h };
  functions = names.solved.functions;
}

-- a site tells of each pointer type
pub pointer-asked : (w : Scene) → Names w → (t : TypeId) (n : NodeId) (u : TypeId) → IsPointer (world_of w) t n u → IsAsked w.programs.sites (PointerTo n u)
pointer-asked w names t n u e = names.solved.tells.pointers t n u e

-- The objects of a scene are those that code may name.
pub same-plan : (w : Scene) (names : Names w) (blocks : ℕ) (kept : Typing) (o : Object)
    → plan_of (context_in w names blocks kept) o ≡ planned_at w.programs.whole.statics w.variables o
same-plan w names blocks kept (object.Static x) = refl
same-plan w names blocks kept (object.Variable x) = refl

named-alike : (w : Scene) (names : Names w) (blocks : ℕ) (kept : Typing) (u t : TypeId) → IsNamedAs (context_in w names blocks kept) u t
    → NamesAlike w.programs.sites u t
named-alike w names blocks kept u t (inl e) = inl e
named-alike w names blocks kept u t (inr h) = inr h.1

-- each is a place of each type that it is named with
pub object-held : (w : Scene) (names : Names w) (b : Running) (s : source.State) (c : flat.State) → b.variables ≡ w.variables → There w.programs b s c
    → (blocks : ℕ) (kept : Typing) (o : Object) (m : NodeId) (t : TypeId) → IsObject (context_in w names blocks kept) o m t
    → Holds w.programs s b.depth (PlaceOf m t) (Address (home w.programs.whole.table (object_number b.first o) t))
object-held w names b s c same there blocks kept o m t (u, found, named) =
    there.objects o (record { type = u; node = m }) t
    (ap (λ (vs : List Planned). planned_at w.programs.whole.statics vs o) same ∙ sym (same-plan w names blocks kept o) ∙ found)
    (named-alike w names blocks kept u t named)

-- What is known, as three-address code has it

abbrev pub held_type : Option Known → Option HeldType
held_type None = None
held_type (Some x) = Some x.type

abbrev pub types_of : Knowledge → Typing
types_of known t = held_type (known t)

pub type-known : (known : Knowledge) (t : Temp) (x : Known) → known t ≡ Some x → types_of known t ≡ Some x.type
type-known known t x e = ap held_type e

known-some : (o : Option Known) (x : HeldType) → held_type o ≡ Some x → (y : Known) × (o ≡ Some y) × (y.type ≡ x)
known-some None x e = absurd (cc (e))
known-some (Some y) x e = (y, refl, (let f : y.type ≡ x = cc (e) in f))

module _ (w : Scene) (names : Names w) (g : AreSlots w.slots) (b : Running) (known : Knowledge) (l : code.Local) (c : flat.Local) (p : Point w g b known l c)
    (blocks : ℕ) (kept : Typing) where
  abbrev k : Context
  k = context_in w names blocks kept

  -- the facts at a point
  pub facts-at : AreFacts k (around_of w b) (types_of known) l
  facts-at = record {
    memory = p.there.facts;
    asked = λ t x e. let y = known-some (known t) x e in subst (IsAsked w.programs.sites) y.2 (p.settled t y.0 y.1).asked;
    held = λ t x e. let y = known-some (known t) x e in subst (λ (h : HeldType). Holds w.programs l.state b.depth h (l.temps t)) y.2 (p.held t y.0 y.1);
    objects = λ o m t h. subst (λ (n : ℕ). Holds w.programs l.state b.depth (PlaceOf m t) (Address (home w.programs.whole.table n t))) (sym (same-number w b o))
        (object-held w names b l.state c.state p.variables p.there blocks kept o m t h);
  }

  -- and of what an instruction in shape gives
  pub gives-asked : (i : Instr) (into : Temp) (x : HeldType) → IsShaped i k (types_of known) (with_held into (Some x) (types_of known)) → IsAsked w.programs.sites x
  gives-asked i into x shaped =
      instr-asked i k (types_of known) (with_held into (Some x) (types_of known)) (solved-in w names blocks kept).tells facts-at.asked shaped into x
      (ap (λ (q : Bool). if q then Some x else types_of known into) (same-self into))

-- the value may be held, in a memory that is sound
pub record IsGiven (w : Scene) (b : Running) (x : HeldType) (v : Value) (s : source.State) : Type 0 where
  pub held : Holds w.programs s b.depth x v
  pub facts : IsSoundAt (setting_of w.programs) w.programs.sites s.memory b.depth

pub gives-held : (w : Scene) (b : Running) (k : Context) (types : Typing) (into : Temp) (x : HeldType) (l : code.Local) (o : Outcome source.Ending source.State Value)
    → k.sites ≡ w.programs.sites
    → GoesOn (from (beside l.temps o) (λ v. leaves (λ (d : code.Local). record d { temps = with_temp into v d.temps }) >> done Goes))
    (AreFactsBehind k (around_of w b) (with_held into (Some x) types) l) → laws.Gives o (IsGiven w b x)
gives-held w b k types into x l (Ended Wrong s) same h = h
gives-held w b k types into x l (Ended (Exited n) s) same h = tt
gives-held w b k types into x l (Ended (Stopped check at) s) same h = tt
gives-held w b k types into x l (Ended Turns s) same h = tt
gives-held w b k types into x l (Ended Wants s) same h = tt
gives-held w b k types into x l (Done v s) same h = record {
  held = subst (λ (sites : List Site). IsHeldAs (setting_of w.programs) sites s.memory b.depth x v) same
      (subst (λ (q : Bool). IsHeldAs (setting_of w.programs) k.sites s.memory b.depth x (if q then v else l.temps into)) (same-self into)
      (h.1.facts.held into x (ap (λ (q : Bool). if q then Some x else types into) (same-self into))));
  facts = subst (λ (sites : List Site). IsSoundAt (setting_of w.programs) sites s.memory b.depth) same h.1.facts.memory;
}

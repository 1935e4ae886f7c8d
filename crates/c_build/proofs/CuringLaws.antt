-- What curing asks of what was inferred, and what it leaves.
use Rattle.std.proofs.Common.{◌≡◌, ◌↔◌, ℕ, zero, suc, ◌≤◌, ◌≢◌, List, [], ◌∷◌, length, slice_index_or, IsFalse, Result, Ok, Err, IfOk, IfErr, sym, ◌∙◌, subst, arith}
use Rattle.std.specs.List.{All, Contains}
use Rattle.std.proofs.lemmas.List.Elements.{All-contains, All-contains_itself, All-head, All-tail, All-weaker}
use Rattle.cc_base.specs.Kinds.{kind_at}
use Rattle.cc_base.specs.declared.fault.Fault.{Fault}
use Rattle.cc_base.specs.declared.fault.Fault.TheVariants.{NoMemory as IsNoMemory}
use Rattle.cc_base.specs.declared.fault.NoMemory.{NoMemory}
use Rattle.cc_base.specs.declared.kind.Kind.{Kind}
use Rattle.cc_base.specs.declared.number.NodeId.{NodeId}
use Rattle.cc_base.specs.declared.number.TypeId.{TypeId}
use Rattle.kind_sites.specs.declared.site.Site.TheVariants.{Flow}
use Rattle.c_types.specs.Table.{Table, Entry, IsType, is_function, void_entry}
use Rattle.c_unit_typing.specs.Limits.{parameters_of_shape}
use Rattle.cil_form.specs.declared.program.Program.{Program}
use Rattle.cil_form.specs.Shape.{IsInShape, IsSiteInShape}
use Rattle.cured_code.specs.declared.parts.Parts.{Parts}
use Rattle.kind_solver.specs.declared.solved.Solved.{Solved}
use Rattle.rtti_nodes.specs.Classes.{IsData}
use Rattle.rtti_nodes.specs.TypeNodes.{TypeNodes, AreTypeNodes, node_at}
use Rattle.cure_ranges.specs.Bodies.{AreTargetsNamed}
use Rattle.cure_ready.specs.Curable.{HaveFewParameters}
use Rattle.cure_rules.specs.Programs.{IsCuredProgram}
use Rattle.c_build.specs.declared.building.Built.{Built}
use Rattle.c_build.specs.declared.inferring.Inferred.{Inferred}
use Rattle.c_build.specs.Built.{IsBuilt, IsCuringOf}
use Rattle.c_build.specs.Inferred.{IsInferred}

-- The list of the data types

module _ (table : Table) (all : List TypeId) (members : (t : TypeId) → Contains all t ↔ IsData table t) where
  pub are_types : All (IsType table) all
  are_types = All-weaker (Contains all) (IsType table) (λ t held. ((members t).0 held).typed) all (All-contains_itself all)

  pub are_plain : All (λ t. IsFalse (is_function table t)) all
  are_plain = All-weaker (Contains all) (λ t. IsFalse (is_function table t)) (λ t held. ((members t).0 held).plain) all (All-contains_itself all)

-- Where each data type has a node, each that an RTTI pointer flows to has one.
pub targets_named : (p : Program) (kind : NodeId → Kind) (n : TypeNodes) → IsInShape p → ((t : TypeId) → Contains n.used t ↔ IsData p.types t)
    → AreTypeNodes n → AreTargetsNamed p kind (node_at n) (length n.parents)
targets_named p kind n in_shape members made a b t u at flows carries plain =
    made.each u ((members u).1 (record { typed = typed (All-contains (IsSiteInShape p.types p.nodes) p.sites (Flow a t b u at) in_shape.sites flows); plain = plain }))
  where
    typed : IsSiteInShape p.types p.nodes (Flow a t b u at) → IsType p.types u
    typed (_, _, _, is) = is

-- the list that the nodes were made of is that of the data types of the code
pub members_of : (p q : Program) (used slice items : List TypeId) → q ≡ p → used ≡ slice → slice ≡ items
    → ((t : TypeId) → Contains items t ↔ IsData q.types t) → (t : TypeId) → Contains used t ↔ IsData p.types t
members_of p q used slice items same first second members =
    subst (λ (r : Program). (t : TypeId) → Contains used t ↔ IsData r.types t) same
    (subst (λ (l : List TypeId). (t : TypeId) → Contains l t ↔ IsData q.types t) (sym (first ∙ second)) members)

-- Functions have few parameters

holds_at : {X : Type 0} (P : X → Type 0) (xs : List X) (i : ℕ) (d : X) → All P xs → P d → P (slice_index_or xs i d)
holds_at P [] i d all other = other
holds_at P (x ∷ xs) zero d all other = All-head P x xs all
holds_at P (x ∷ xs) (suc i) d all other = holds_at P xs i d (All-tail P x xs all) other

pub few_parameters : (table : Table) → All (λ (e : Entry). parameters_of_shape e.shape ≤ 127) table → HaveFewParameters table
few_parameters table all t parameters result is =
    subst (λ s. parameters_of_shape s ≤ 127) is (holds_at (λ e. parameters_of_shape e.shape ≤ 127) table t.0 void_entry all (omega arith))

-- What was made

pub curing_so : (p : Program) (s : Solved) (n : TypeNodes) (r : Result Parts NoMemory) → n.table ≡ p.types → n.kinds ≡ s.kinds
    → ((t : TypeId) → Contains n.used t ↔ IsData p.types t) → AreTypeNodes n → IsInShape p
    → IfOk r (λ c. IsCuredProgram p (kind_at s.kinds) (node_at n) n.parents c) → IfOk r (λ c. IsCuringOf p s c)
curing_so p s n (Err want) table kinds used made in_shape cured = tt {0}
curing_so p s n (Ok c) table kinds used made in_shape cured =
    record { nodes = n; table = table; kinds = kinds; used = used; made = made; in_shape = in_shape; cured = cured }

pub few_of : (text : List ℕ) (i : Inferred) → IsInferred text i.typed i.code i.solved → HaveFewParameters i.code.types
few_of text i is = subst HaveFewParameters (sym is.lowered.types) (few_parameters i.typed.types is.typed.limited.parameters)

pub built_so : (text : List ℕ) (i : Inferred) (r : Result Built Fault)
    → IfOk r (λ b. (text : List ℕ) → IsInferred text i.typed i.code i.solved → IsBuilt text b.typed b.code b.solved b.cured)
    → IsInferred text i.typed i.code i.solved → IfOk r (λ b. IsBuilt text b.typed b.code b.solved b.cured)
built_so text i (Err fault) built inferred = tt {0}
built_so text i (Ok b) built inferred = built text inferred

-- where memory is the one fault, no other is told
pub wanting : {A : Type 0} (P : Fault → Type 0) (r : Result A Fault) → IfErr r (λ fault. fault ≡ IsNoMemory)
    → IfErr r (λ fault. fault ≢ IsNoMemory → P fault)
wanting P (Ok a) wants = tt {0}
wanting P (Err fault) wants = λ other. absurd (other wants)

-- What each instruction asks of the kinds of the nodes, as sites.
use Rattle.std.specs.Prelude.{List, [], ◌∷◌}
use Rattle.std.specs.List.{Contains}
use Rattle.cc_base.specs.declared.number.TypeId.{TypeId}
use Rattle.cc_base.specs.declared.place.Place.{Place}
use Rattle.kind_sites.specs.declared.site.Site.{Site}
use Rattle.kind_sites.specs.declared.site.Site.TheVariants.{Flow, Arith, Integer, Linked, Pointee}
use Rattle.c_types.specs.Table.{Table}
use Rattle.src_mem.specs.Operations.{node_at, pointee_at}
use Rattle.cil_form.specs.declared.instr.Comparison.{Comparison}
use Rattle.cil_form.specs.declared.instr.Comparison.TheVariants as comparison
use Rattle.cil_form.specs.declared.instr.Point.{Point}
use Rattle.cil_form.specs.declared.instr.Point.TheVariants as point
use Rattle.cil_form.specs.declared.instr.Convert.{Convert}
use Rattle.cil_form.specs.declared.instr.Convert.TheVariants as convert
use Rattle.cil_form.specs.declared.instr.Access.{Access}
use Rattle.cil_form.specs.declared.instr.Access.TheVariants as access
use Rattle.cil_form.specs.declared.instr.Allocate.{Allocate}
use Rattle.cil_form.specs.declared.instr.Allocate.TheVariants as allocate
use Rattle.cil_form.specs.Meaning.{target_node}

-- two pointers of the types t and u that are put in order; `==` and `!=` ask nothing of them
abbrev pub sites_of_comparison : Table → Comparison → TypeId → TypeId → Place → List Site
sites_of_comparison table comparison.Equal t u at = []
sites_of_comparison table comparison.Different t u at = []
sites_of_comparison table order t u at = Arith (node_at table t) at ∷ Arith (node_at table u) at ∷ []

abbrev pub sites_of_point : Table → Point → List Site
sites_of_point table (point.Move into p n way t at) = Arith (node_at table t) at ∷ []
sites_of_point table (point.Difference into a t b u at) = Arith (node_at table t) at ∷ Arith (node_at table u) at ∷ []
sites_of_point table (point.Compare into comparison a t b u at) = sites_of_comparison table comparison t u at
sites_of_point table (point.IsNull into p t different) = []
sites_of_point table (point.Member into from outer t i inner u at) = Pointee inner u ∷ Linked inner outer ∷ []
sites_of_point table (point.Decay into from outer array check inner element at) = Pointee inner element ∷ Linked inner outer ∷ []
sites_of_point table (point.Address into from outer inner t) = Pointee inner t ∷ Linked inner outer ∷ []

abbrev pub sites_of_convert : Table → Convert → List Site
sites_of_convert table (convert.Integer into from t) = []
sites_of_convert table (convert.ToPointer into from t at) = Integer (node_at table t) at ∷ []
sites_of_convert table (convert.FromPointer into from t u) = []
sites_of_convert table (convert.Pointer into from t u at) = Flow (node_at table t) (pointee_at table t) (node_at table u) (pointee_at table u) at ∷ []

-- the addresses of the two sides of a copy are both WILD or neither
abbrev pub sites_of_access : Access → List Site
sites_of_access (access.Copy to to_place from node from_place t assignment) = Linked (target_node to) node ∷ []
sites_of_access other = []

abbrev pub sites_of_allocate : Allocate → List Site
sites_of_allocate (allocate.Malloc into n node t at) = Pointee node t ∷ []
sites_of_allocate (allocate.Calloc into m n node t at) = Pointee node t ∷ []

-- a property of each element, one by one
abbrev pub Each : {X : Type 0} → (X → Type 0) → List X → Type 0
Each P [] = Unit {0}
Each P (x ∷ xs) = P x × Each P xs

-- all of these are among the sites
abbrev pub AreAmong : List Site → List Site → Type 0
AreAmong sites list = Each (λ s. Contains sites s) list

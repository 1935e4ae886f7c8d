-- The instructions of the functions of a cured program name what there is; and what that takes of the type nodes.
use Rattle.std.specs.Prelude.{◌≡◌, ℕ, ◌<◌, ◌≤◌, false, length, IfSome, slice_get}
use Rattle.std.specs.List.{Contains}
use Rattle.cc_base.specs.declared.number.TypeId.{TypeId}
use Rattle.cc_base.specs.declared.number.NodeId.{NodeId}
use Rattle.cc_base.specs.declared.place.Place.{Place}
use Rattle.cc_base.specs.declared.kind.Kind.{Kind}
use Rattle.cc_base.specs.declared.kind.Kind.TheVariants.{Rtti}
use Rattle.kind_sites.specs.declared.site.Site.TheVariants.{Flow}
use Rattle.c_types.specs.Table.{is_function}
use Rattle.cil_form.specs.declared.program.Program.{Program}
use Rattle.cured_code.specs.declared.parts.Function.{Function}
use Rattle.cured_code.specs.declared.parts.Parts.{Parts}
use Rattle.cured_code.specs.Ranges.{AreInstrsInRange, names_in, sigs_of}

-- the instructions of the function are in range
abbrev pub IsBodyInRange : Parts → Function → Type 0
IsBodyInRange parts f = IfSome (slice_get parts.sigs f.sig)
    (λ sig. AreInstrsInRange (names_in parts.sigs (sigs_of parts.functions) (length parts.nodes) f sig.results) f.body.0.items)

-- each data type that an RTTI pointer flows to has one of so many type nodes
abbrev pub AreTargetsNamed : Program → (NodeId → Kind) → (TypeId → ℕ) → ℕ → Type 0
AreTargetsNamed p kind node n = (a b : NodeId) (t u : TypeId) (at : Place) → Contains p.sites (Flow a t b u at) → kind a ≡ Rtti → is_function p.types u ≡ false
    → (0 < node u) × (node u ≤ n)

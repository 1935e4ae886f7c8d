-- The statements of the laws: which instructions keep the facts.
use Rattle.std.specs.Prelude.{ℕ, Bool}
use Rattle.cc_base.specs.declared.place.Place.{Place}
use Rattle.cc_base.specs.declared.number.NodeId.{NodeId}
use Rattle.cc_base.specs.declared.number.TypeId.{TypeId}
use Rattle.cil_form.specs.declared.number.Temp.{Temp}
use Rattle.cil_form.specs.declared.number.Object.{Object}
use Rattle.cil_form.specs.declared.instr.Set.{Set}
use Rattle.cil_form.specs.declared.instr.Calculate.{Calculate}
use Rattle.cil_form.specs.declared.instr.Direction.{Direction}
use Rattle.cil_form.specs.declared.instr.Point.TheVariants as point
use Rattle.cil_form.specs.declared.instr.Convert.TheVariants as convert
use Rattle.cil_form.specs.declared.instr.Target.TheVariants as target
use Rattle.cil_form.specs.declared.instr.Access.TheVariants as access
use Rattle.cil_form.specs.declared.instr.Allocate.{Allocate}
use Rattle.cil_form.specs.declared.instr.Call.{Call}
use Rattle.cil_form.specs.declared.instr.Comparison.{Comparison}
use Rattle.cil_form.specs.declared.instr.RuntimeCall.{RuntimeCall}
use Rattle.cil_form.specs.declared.instr.Instr.TheVariants as instr
use Rattle.cil_facts.specs.Held.{KeepsFacts}
use Rattle.cil_facts.specs.Calling.{KeepsFactsAmongCalls}

abbrev pub SettingsKeepTheFacts : Type 0
SettingsKeepTheFacts = (i : Set) → KeepsFacts (instr.Set i)

abbrev pub CalculationsKeepTheFacts : Type 0
CalculationsKeepTheFacts = (i : Calculate) → KeepsFacts (instr.Calculate i)

abbrev pub IntegerConversionsKeepTheFacts : Type 0
IntegerConversionsKeepTheFacts = (into source : Temp) (t : TypeId) → KeepsFacts (instr.Convert (convert.Integer into source t))

abbrev pub ConversionsToPointersKeepTheFacts : Type 0
ConversionsToPointersKeepTheFacts = (into source : Temp) (t : TypeId) (at : Place) → KeepsFacts (instr.Convert (convert.ToPointer into source t at))

abbrev pub PointerConversionsKeepTheFacts : Type 0
PointerConversionsKeepTheFacts =
    (into source : Temp) (t u : TypeId) (at : Place) → KeepsFacts (instr.Convert (convert.Pointer into source t u at))

abbrev pub LoadsKeepTheFacts : Type 0
LoadsKeepTheFacts = (into source : Temp) (node : NodeId) (t : TypeId) (at : Place) → KeepsFacts (instr.Access (access.Load into source node t at))

abbrev pub StoresKeepTheFacts : Type 0
StoresKeepTheFacts = (to value : Temp) (node : NodeId) (t : TypeId) (at assignment : Place)
    → KeepsFacts (instr.Access (access.Store (target.Pointer to node) value t at assignment))

abbrev pub CopiesKeepTheFacts : Type 0
CopiesKeepTheFacts = (to source : Temp) (node to_node : NodeId) (to_place source_place : Place) (t : TypeId) (assignment : Place)
    → KeepsFacts (instr.Access (access.Copy (target.Pointer to to_node) to_place source node source_place t assignment))

abbrev pub MovesKeepTheFacts : Type 0
MovesKeepTheFacts = (into p n : Temp) (way : Direction) (t : TypeId) (at : Place) → KeepsFacts (instr.Point (point.Move into p n way t at))

abbrev pub NullTestsKeepTheFacts : Type 0
NullTestsKeepTheFacts = (into p : Temp) (t : TypeId) (different : Bool) → KeepsFacts (instr.Point (point.IsNull into p t different))

abbrev pub DecaysKeepTheFacts : Type 0
DecaysKeepTheFacts = (into source : Temp) (outer : NodeId) (array : TypeId) (check : Bool) (inner : NodeId) (element : TypeId) (at : Place)
    → KeepsFacts (instr.Point (point.Decay into source outer array check inner element at))

abbrev pub AddressesKeepTheFacts : Type 0
AddressesKeepTheFacts = (into source : Temp) (outer inner : NodeId) (t : TypeId) → KeepsFacts (instr.Point (point.Address into source outer inner t))

abbrev pub MembersKeepTheFacts : Type 0
MembersKeepTheFacts = (into source : Temp) (outer : NodeId) (t : TypeId) (i : ℕ) (inner : NodeId) (u : TypeId) (at : Place)
    → KeepsFacts (instr.Point (point.Member into source outer t i inner u at))

abbrev pub DifferencesKeepTheFacts : Type 0
DifferencesKeepTheFacts = (into p q : Temp) (t u : TypeId) (at : Place) → KeepsFacts (instr.Point (point.Difference into p t q u at))

abbrev pub ComparisonsKeepTheFacts : Type 0
ComparisonsKeepTheFacts =
    (into : Temp) (o : Comparison) (p q : Temp) (t u : TypeId) (at : Place) → KeepsFacts (instr.Point (point.Compare into o p t q u at))

abbrev pub PartStoresKeepTheFacts : Type 0
PartStoresKeepTheFacts = (o : Object) (home : NodeId) (u : TypeId) (offset : ℕ) (value : Temp) (t : TypeId) (at assignment : Place)
    → KeepsFacts (instr.Access (access.Store (target.Part o home u offset) value t at assignment))

abbrev pub ClearingKeepsTheFacts : Type 0
ClearingKeepsTheFacts = (o : Object) → KeepsFacts (instr.Access (access.Clear o))

abbrev pub PartCopiesKeepTheFacts : Type 0
PartCopiesKeepTheFacts = (o : Object) (home : NodeId) (u : TypeId) (offset : ℕ) (source : Temp) (node : NodeId) (to_place source_place : Place)
    (t : TypeId) (assignment : Place)
    → KeepsFacts (instr.Access (access.Copy (target.Part o home u offset) to_place source node source_place t assignment))

abbrev pub AllocationsKeepTheFacts : Type 0
AllocationsKeepTheFacts = (i : Allocate) → KeepsFacts (instr.Allocate i)

abbrev pub CallsAmongCalls : Type 0
CallsAmongCalls = (i : Call) → KeepsFactsAmongCalls (instr.Call i)

abbrev pub RuntimeCallsAmongCalls : Type 0
RuntimeCallsAmongCalls = (i : RuntimeCall) → KeepsFactsAmongCalls (instr.Runtime i)

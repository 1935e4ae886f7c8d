-- Words to write the table of checks with.
use Rattle.std.specs.Prelude.{◌≡◌, ℕ, List}
use Rattle.cc_base.specs.declared.number.TypeId.{TypeId}
use Rattle.cc_base.specs.declared.kind.Kind.{Kind}
use Rattle.cc_base.specs.declared.kind.Kind.TheVariants.{Safe, Seq, Rtti, Wild}
use Rattle.c_types.specs.declared.flow_class.FlowClass.{FlowClass}
use Rattle.src_mem.specs.Pointers.{Pointer}
use Rattle.src_mem.specs.Checks.{Condition, Use, conditions_of, conditions_of_conversion}

-- A row of the table: what a use of a pointer asks of SAFE and RTTI ones alike, of SEQ ones and of WILD ones.
abbrev pub AsksFor : Use → Pointer → List Condition → List Condition → List Condition → Type 0
AsksFor purpose p plain sequence wild =
    (conditions_of purpose Safe p ≡ plain) × (conditions_of purpose Rtti p ≡ plain) × (conditions_of purpose Seq p ≡ sequence) ×
    (conditions_of purpose Wild p ≡ wild)

-- what a conversion asks for, in this class and between these kinds, from a pointee of one size to one of another size, the type u
abbrev pub asked_by : FlowClass → Kind → Kind → ℕ → ℕ → TypeId → Pointer → List Condition
asked_by class from to from_size to_size u p =
    conditions_of_conversion (record { class = class; from = from; to = to; from_size = from_size; to_size = to_size; to_type = u }) p

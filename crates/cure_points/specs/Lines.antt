-- The lines of pointer arithmetic, and of addresses of parts.
use Rattle.std.specs.Prelude.{◌≡◌, ◌≢◌, ℕ, ◌+◌, ◌<◌, ◌≤◌, Bool, true, false, List, [], ◌∷◌, length, Option, Some}
use Rattle.cc_base.specs.declared.number.NodeId.{NodeId}
use Rattle.cc_base.specs.declared.number.TypeId.{TypeId}
use Rattle.cc_base.specs.declared.kind.Kind.{Kind}
use Rattle.cc_base.specs.declared.kind.Kind.TheVariants.{Safe, Seq, Rtti, Wild}
use Rattle.cc_base.specs.declared.place.Place.{Place}
use Rattle.c_types.specs.Table.{IsType, IsComplete, IsAggregate, members_at}
use Rattle.cil_form.specs.Typing.{HeldType, IntegerOf}
use Rattle.cure_instrs.specs.Cured.{HasPointer, IsPointerAt}
use Rattle.c_types.specs.Layouts.{size_of, offset_of}
use Rattle.integers.specs.Arithmetic.{IntegerType}
use Rattle.cil_form.specs.declared.instr.Direction.{Direction}
use Rattle.cured_code.specs.declared.instr.Instr.{Instr}
use Rattle.cured_code.specs.declared.instr.Instr.TheVariants as instr
use Rattle.check_forms.specs.Pieces.{Piece, Line, Then}
use Rattle.check_forms.specs.declared.op.Op.{Op}
use Rattle.cure_rules.specs.Slots.{Size, Offset, Moved}
use Rattle.cure_rules.specs.Known.{Whole, World, cured_size, source_size, pointer_slots, reach_of}
use Rattle.cil_form.specs.declared.instr.Comparison.{Comparison}
use Rattle.cure_rules.specs.Checks.{number_at, move_by, address_of_part}
use Rattle.cure_rules.specs.Pointing.{moved_words, order_by, quotient_lines, comparing, compared_lines}
use Rattle.cure_scope.specs.Scopes.{seat}
use Rattle.cure_scope.specs.Needs.{Guards}

-- the words of the address, of kind k, of so many bytes of type t, which begin where slots a and o together say
abbrev pub part_row : Kind → World → ℕ → TypeId → ℕ → ℕ → ℕ → List Instr
part_row Safe w size t v a o = instr.Add v a o ∷ []
part_row Rtti w size t v a o = instr.Add v a o ∷ instr.Const (v + 1) (w.whole.node t) ∷ []
part_row Seq w size t v a o = instr.Const (seat Size) size ∷ instr.Add v a o ∷ instr.Copy (v + 1) v ∷ instr.Add (v + 2) v (seat Size) ∷ []
part_row Wild w size t v a o = instr.Add v a o ∷ instr.Copy (v + 1) (a + 1) ∷ []

-- a pointer of kind `kind` to u, in slots from a on, moves by the integer in slot n
abbrev pub MovedBy : World → Kind → TypeId → Direction → IntegerType → ℕ → ℕ → ℕ → Place → Piece
MovedBy w kind u way i v a n at = Then (Guards (move_by w seat kind u (pointer_slots a) way i n) kind at) (Line (moved_words kind v a (seat Moved)))

-- the address of a part, `offset` bytes into what is at slot a, behind its check
abbrev pub PartOf : World → Kind → TypeId → Kind → ℕ → TypeId → ℕ → ℕ → ℕ → Place → Piece
PartOf w outer of inner size t offset v a at =
    Then (Line (instr.Const (seat Offset) offset ∷ []))
    (Then (Guards (address_of_part w seat outer of (pointer_slots a)) outer at) (Line (part_row inner w size t v a (seat Offset))))

-- what a use reaches is so small that the numbers of its checks are words
abbrev pub IsSmallReach : World → Kind → TypeId → Type 0
IsSmallReach w kind u = (0 < reach_of w kind u) × (reach_of w kind u ≤ 4194304)

-- member number i is there
abbrev pub HasMember : Whole → TypeId → ℕ → Type 0
HasMember w t i = IsType w.table t × IsComplete w.table t × IsAggregate w.table t × (i < length (members_at w.table t)) × (offset_of w.table t i ≤ size_of w.table t)

-- an integer is held
abbrev pub IsIntegerHeld : Option HeldType → Type 0
IsIntegerHeld (Some (IntegerOf i)) = Unit {0}
IsIntegerHeld x = ⊥

-- a pointer of type t may move by what is held
unfoldable pub CanMove : World → TypeId → Option HeldType → Type 0
CanMove w t x = HasPointer w.whole t × IsIntegerHeld x × ((n : NodeId) (u : TypeId) → IsPointerAt w.whole t n u → IsSmallReach w (w.whole.kind n) u)

-- an array decays, behind its check or without one
abbrev pub DecayOf : Bool → World → Kind → TypeId → Kind → ℕ → TypeId → ℕ → ℕ → Place → Piece
DecayOf true w outer of inner size t v a at = PartOf w outer of inner size t 0 v a at
DecayOf false w outer of inner size t v a at = Line (part_row inner w size t v a 381)

-- what is asked for the address of a part
abbrev pub part_operation : World → Kind → TypeId → ℕ → Op
part_operation w outer of a = address_of_part w seat outer of (pointer_slots a)

-- Two pointers

abbrev pub DifferenceOf : World → Kind → Kind → TypeId → ℕ → ℕ → ℕ → Place → Piece
DifferenceOf w left right u v a b at =
    Then (Guards (order_by w seat left (pointer_slots a) right (pointer_slots b) (Some (number_at seat Size (reach_of w left u)))) left at)
    (Then (Line (instr.Sub v a b ∷ [])) (Line (quotient_lines v (number_at seat Size (reach_of w left u)))))

abbrev pub ComparedBy : Comparison → World → Kind → Kind → ℕ → ℕ → ℕ → Place → Piece
ComparedBy which w left right v a b at = Then (Guards (comparing which w seat left (pointer_slots a) right (pointer_slots b)) left at)
    (Line (compared_lines which w left right v (pointer_slots a) (pointer_slots b)))

-- both are pointer types
unfoldable pub HavePointers : Whole → TypeId → TypeId → Type 0
HavePointers w t s = HasPointer w t × HasPointer w s

-- The lines of allocations whose temporaries each have their own column.
use Rattle.std.specs.Prelude.{ℕ, Bool, true, false, [], ◌∷◌}
use Rattle.cc_base.specs.declared.kind.Kind.{Kind}
use Rattle.cc_base.specs.declared.number.TypeId.{TypeId}
use Rattle.cc_base.specs.declared.place.Place.{Place}
use Rattle.cured_code.specs.declared.instr.Instr.TheVariants as instr
use Rattle.check_forms.specs.declared.op.Op.TheVariants as op
use Rattle.check_forms.specs.Pieces.{Piece, Line, Then, Choice}
use Rattle.cure_rules.specs.Slots.{First, Size, Offset, Amount, Bytes, Charge, Made}
use Rattle.cure_rules.specs.Known.{Whole, World, source_size, cured_size}
use Rattle.cure_rules.specs.Checks.{number_at}
use Rattle.cure_rules.specs.Calling.{BlockWords, has_elements, is_tagged_kind}
use Rattle.cure_scope.specs.Scopes.{seat}
use Rattle.cure_scope.specs.Needs.{Guards}

-- the slot of a block's cured bytes, by whether it consists of whole elements
abbrev pub bytes_slot : Bool → ℕ → ℕ
bytes_slot true n = seat Bytes
bytes_slot false n = n

-- a new block for as many bytes as slot n holds
abbrev pub BlockMade : Bool → Whole → Kind → TypeId → ℕ → Piece
BlockMade false w kind t n = Line (instr.New (is_tagged_kind kind) (seat Made) n n ∷ [])
BlockMade true w kind t n =
    Then (Line (instr.Const (seat Size) (source_size w t) ∷ instr.Const (seat Offset) (cured_size w t) ∷ instr.Divu (seat Charge) n (seat Size)
    ∷ instr.Mul (seat Bytes) (seat Charge) (seat Offset) ∷ instr.Mul (seat Charge) (seat Charge) (seat Size) ∷ []))
    (Line (instr.New (is_tagged_kind kind) (seat Made) (seat Bytes) (seat Charge) ∷ []))

-- what an allocation gives is checked, and becomes a pointer in slots from v on
abbrev pub BlockGiven : World → Kind → TypeId → ℕ → ℕ → Place → Piece
BlockGiven w kind t v b at =
    Then (Guards (op.Allocate (seat Made) b (number_at seat Size (cured_size w.whole t))) kind at) (BlockWords kind w t v b)

abbrev pub MallocLines : World → Kind → Bool → TypeId → ℕ → ℕ → Place → Piece
MallocLines w kind holds t v n at =
    Then (BlockMade (has_elements kind holds) w.whole kind t n) (BlockGiven w kind t v (bytes_slot (has_elements kind holds) n) at)

-- the product of slots p and q, and whether it wraps
abbrev pub AmountLines : ℕ → ℕ → Piece
AmountLines p q = Then (Line (instr.Mul (seat Amount) p q ∷ []))
    (Choice p (Line (instr.Divu (seat First) (seat Amount) p ∷ instr.Ne (seat First) (seat First) q ∷ [])) (Line (instr.Const (seat First) 0 ∷ [])))

abbrev pub CallocLines : World → Kind → Bool → TypeId → ℕ → ℕ → ℕ → Place → Piece
CallocLines w kind holds t v p q at = Then (AmountLines p q)
    (Then (Choice (seat First) (Line (instr.Const (seat Made) 0 ∷ [])) (BlockMade (has_elements kind holds) w.whole kind t (seat Amount)))
    (BlockGiven w kind t v (bytes_slot (has_elements kind holds) (seat Amount)) at))

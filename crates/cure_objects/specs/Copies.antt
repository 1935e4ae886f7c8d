-- The lines that copy structs.
use Rattle.std.specs.Prelude.{ℕ, Bool, true, false, List, [], ◌∷◌}
use Rattle.cc_base.specs.declared.kind.Kind.{Kind}
use Rattle.cc_base.specs.declared.kind.Kind.TheVariants.{Wild}
use Rattle.cc_base.specs.declared.number.TypeId.{TypeId}
use Rattle.cc_base.specs.declared.number.NodeId.{NodeId}
use Rattle.cc_base.specs.declared.place.Place.{Place}
use Rattle.c_types.specs.Cells.{holds_pointer}
use Rattle.c_types.specs.Table.{IsType}
use Rattle.phys_types.specs.declared.spot.Item.{Item}
use Rattle.phys_types.specs.declared.spot.Item.TheVariants.{Pointer}
use Rattle.phys_types.specs.declared.spot.Spot.{Spot}
use Rattle.cured_code.specs.declared.instr.Instr.TheVariants as instr
use Rattle.check_forms.specs.declared.op.Op.TheVariants as op
use Rattle.check_forms.specs.declared.slots.PointerSlots.{PointerSlots}
use Rattle.check_forms.specs.Pieces.{Piece, Line, Then, Never}
use Rattle.check_forms.specs.Rows.{home_slot}
use Rattle.cure_rules.specs.Slots.{Offset, Word, Made}
use Rattle.cure_rules.specs.Known.{Whole, World, cured_size, pointer_slots, source_size}
use Rattle.cure_rules.specs.Checks.{size_at, wild_numbers}
use Rattle.cure_rules.specs.Pointing.{cured_offset}
use Rattle.cure_rules.specs.Accesses.{plain_copied, words_loaded}
use Rattle.cure_scope.specs.Scopes.{seat}
use Rattle.cure_scope.specs.Needs.{Guards}
use Rattle.cure_instrs.specs.Cured.{IsHome}
use Rattle.cure_objects.specs.Cured.{CanPlace}

-- so many bytes with their tags, from one tagged area into one that a pointer of this kind points to
abbrev pub tags_copied : Kind → ℕ → PointerSlots → PointerSlots → Piece
tags_copied Wild bytes source to = Line (instr.Tmove to.first to.second source.first source.second bytes ∷ [])
tags_copied kind bytes source to = Never

-- The pointer of this node, so many bytes into a struct, is loaded, and is checked against the target. Slot a holds the source's
-- address, and h the target's home word.
abbrev pub PointerKept : World → Kind → TypeId → ℕ → ℕ → Place → ℕ → NodeId → Piece
PointerKept w from t a h assignment i node =
    Then (Line (instr.Const (seat Offset) (cured_offset w from t i) ∷ []))
    (Then (Line (instr.Add (seat Made) a (seat Offset) ∷ words_loaded (w.whole.kind node) (seat Word) (seat Made)))
    (Guards (op.KeepCell (home_slot (w.whole.kind node) (pointer_slots (seat Word))) h) from assignment))

abbrev pub ItemKept : World → Kind → TypeId → ℕ → ℕ → Place → ℕ → Item → Piece
ItemKept w from t a h assignment i (Pointer node to) = PointerKept w from t a h assignment i node
ItemKept w from t a h assignment i item = Line []

abbrev pub SpotsKept : World → Kind → TypeId → ℕ → ℕ → Place → List Spot → Piece
SpotsKept w from t a h assignment [] = Line []
SpotsKept w from t a h assignment (s ∷ ss) = Then (ItemKept w from t a h assignment s.start s.item) (SpotsKept w from t a h assignment ss)

-- so many cured bytes to what a pointer of this kind points to, behind the checks of the pointers at the spots
abbrev pub SpotsCopied : Kind → World → Kind → TypeId → List Spot → PointerSlots → PointerSlots → Place → Piece
SpotsCopied Wild w from t ss source to assignment = Never
SpotsCopied kind w from t ss source to assignment =
    Then (SpotsKept w from t source.first (home_slot kind to) assignment ss) (Line (instr.Move to.first source.first (cured_size w.whole t) ∷ []))

-- a struct that holds pointers at these spots
abbrev pub HolderCopied : Kind → Kind → World → TypeId → List Spot → PointerSlots → PointerSlots → Place → Piece
HolderCopied Wild kind w t ss source to assignment = tags_copied kind (source_size w.whole t) source to
HolderCopied from kind w t ss source to assignment = SpotsCopied kind w from t ss source to assignment

-- a struct of type t, with these spots, is copied, which holds pointers or not
abbrev pub StructCopied : World → Bool → List Spot → Kind → Kind → TypeId → PointerSlots → PointerSlots → Place → Place → Place → Piece
StructCopied w false ss from kind t source to from_place to_place assignment =
    Then (Guards (op.CopyPlain source to kind (size_at w seat from t) to_place) from from_place)
    (Line (plain_copied kind source to (source_size w.whole t)))
StructCopied w true ss from kind t source to from_place to_place assignment =
    Then (Guards (op.CopyPointers source to kind (size_at w seat from t) (wild_numbers w seat) to_place assignment) from from_place)
    (HolderCopied from kind w t ss source to assignment)

-- Which copies have code: of a struct with pointers both sides are WILD, or neither is.

abbrev pub IsWild : Kind → Type 0
IsWild Wild = Unit {0}
IsWild kind = ⊥

abbrev pub IsTyped : Kind → Type 0
IsTyped Wild = ⊥
IsTyped kind = Unit {0}

abbrev pub AreCopied : Bool → Kind → Kind → Type 0
AreCopied false from kind = Unit {0}
AreCopied true Wild kind = IsWild kind
AreCopied true from kind = IsTyped kind

unfoldable pub CanCopy : Whole → NodeId → NodeId → TypeId → Type 0
CanCopy w to n t = IsType w.table t × AreCopied (holds_pointer w.table t) (w.kind n) (w.kind to)

unfoldable pub CanCopyPart : Whole → NodeId → TypeId → ℕ → NodeId → TypeId → Type 0
CanCopyPart w home u offset n t =
    IsType w.table t × (CanPlace w u offset × (IsHome (w.kind home) × AreCopied (holds_pointer w.table t) (w.kind n) (w.kind home)))

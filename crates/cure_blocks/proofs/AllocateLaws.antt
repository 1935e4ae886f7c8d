-- The lines of allocations are cured code of them.
use Rattle.std.proofs.Common.{refl, ap, ◌∙◌, ℕ, Bool, true, false, inr, Some, List, [], ◌∷◌, ◌++◌, append_assoc, nat_eq}
use Rattle.cc_base.specs.declared.kind.Kind.{Kind}
use Rattle.cc_base.specs.declared.kind.Kind.TheVariants.{Safe, Seq, Rtti, Wild}
use Rattle.cc_base.specs.declared.number.TypeId.{TypeId}
use Rattle.cc_base.specs.declared.number.NodeId.{NodeId}
use Rattle.cc_base.specs.declared.place.Place.{Place}
use Rattle.c_types.specs.Cells.{holds_pointer}
use Rattle.integers.specs.Arithmetic.{unsigned_long}
use Rattle.cil_form.specs.declared.number.Temp.{Temp}
use Rattle.cil_form.specs.declared.instr.Allocate.TheVariants as allocate
use Rattle.cil_form.specs.Typing.{Typing, PointerTo}
use Rattle.cured_code.specs.declared.instr.Instr.{Instr}
use Rattle.cured_code.specs.declared.instr.Instr.TheVariants as instr
use Rattle.check_forms.specs.declared.op.Op.TheVariants as op
use Rattle.check_forms.specs.Pieces.{Piece, Line, Then, Choice}
use Rattle.cure_rules.specs.Slots.{Size, Offset, Amount, Bytes, Charge, Made}
use Rattle.cure_rules.specs.Known.{source_size, cured_size}
use Rattle.cure_rules.specs.Checks.{number_at, allocated_needs}
use Rattle.cure_rules.specs.Calling.{BlockBy, GivesBlock, has_elements, is_tagged_kind}
use Rattle.cure_scope.specs.declared.scope.Scope.{Scope}
use Rattle.cure_scope.specs.Scopes.{fixed_column, seat, whole_of, world_of}
use Rattle.cure_scope.specs.Needs.{AreSeated}
use Rattle.cure_scope.proofs.GuardLaws.{guarded}
use Rattle.cure_instrs.proofs.KnownLaws.{leaves_held, is_exactly, takes}
use Rattle.cure_blocks.specs.Cured.{AllocateCured}
use Rattle.cure_blocks.specs.Blocks.{bytes_slot, BlockMade, BlockGiven, MallocLines, CallocLines}
use Rattle.cure_blocks.proofs.ConvertLaws.{seated_unless}

made-block : (k : Scope) (e : Bool) (kind : Kind) (t : TypeId) (n : ℕ) (code : List Instr) → BlockMade e (whole_of k) kind t n code
    → BlockBy e (world_of k) seat kind t n (bytes_slot e n) code
unfolding Line Then
made-block k false kind t n code h = (refl, h)
made-block k true kind t n code h =
    let last = instr.New (is_tagged_kind kind) (seat Made) (seat Bytes) (seat Charge) in
    let size = instr.Const (seat Size) (source_size (whole_of k) t) in
    let offset = instr.Const (seat Offset) (cured_size (whole_of k) t) in
    let rest = instr.Divu (seat Charge) n (seat Size) ∷ instr.Mul (seat Bytes) (seat Charge) (seat Offset) ∷ instr.Mul (seat Charge) (seat Charge) (seat Size) ∷ [] in (
      refl,
      (
        size ∷ [],
        offset ∷ (rest ++ (last ∷ [])),
        inr (refl, refl),
        (offset ∷ [], rest ++ (last ∷ []), inr (refl, refl), refl, refl),
        h.4 ∙ ap (λ z. z ++ h.1) h.2 ∙ ap (λ z. (size ∷ offset ∷ rest) ++ z) h.3,
      ),
    )

seated : (kind : Kind) (n : ℕ) → AreSeated (allocated_needs kind (number_at seat Size n))
seated Safe n = seated_unless (nat_eq n 0) (number_at seat Size n) refl
seated Rtti n = seated_unless (nat_eq n 0) (number_at seat Size n) refl
seated Seq n = tt
seated Wild n = tt

given-block : (k : Scope) (kind : Kind) (t : TypeId) (v b : ℕ) (at : Place) (code : List Instr) → BlockGiven (world_of k) kind t v b at code
    → GivesBlock (world_of k) seat kind t v b at code
unfolding Then
given-block k kind t v b at code h = (
  h.0,
  h.1,
  guarded k (op.Allocate (seat Made) b (number_at seat Size (cured_size (whole_of k) t))) kind at h.0
      (seated kind (cured_size (whole_of k) t)) h.2,
  h.3,
  h.4,
)

pub malloc_cured : (k : Scope) (types : Typing) (into n : Temp) (node : NodeId) (t : TypeId) (at : Place) (code : List Instr)
    → MallocLines (world_of k) ((whole_of k).kind node) (holds_pointer k.layouts.now.table t) t (fixed_column into) (fixed_column n) at code
    → AllocateCured (allocate.Malloc into n node t at) (world_of k) types code
unfolding AllocateCured Then
malloc_cured k types into n node t at code line c after is h =
    let kind = (whole_of k).kind node in
    let whole = has_elements kind (holds_pointer k.layouts.now.table t) in
    let b = bytes_slot whole (fixed_column n) in (
      fixed_column n,
      b,
      seat,
      seat,
      is_exactly k.parameters types n unsigned_long h.2,
      takes k into (whole_of k).kind node h.3.0,
      (line.0, line.1, made-block k whole kind t (fixed_column n) line.0 line.2, given-block k kind t (fixed_column into) b at line.1 line.3, line.4),
      leaves_held k.parameters types after into (Some (PointerTo node t)) h.3.1,
    )

-- the amount, and what follows it, in one
regrouped : (P Q R : Piece) (code : List Instr) → Then (Then P Q) R code → Then P (Then Q R) code
unfolding Then
regrouped P Q R code h =
    (h.2.0, h.2.1 ++ h.1, h.2.2, (h.2.1, h.1, h.2.3, h.3, refl), h.4 ∙ ap (λ z. z ++ h.1) h.2.4 ∙ append_assoc h.2.0 h.2.1 h.1)

then-both : (P Q R S : Piece) (code : List Instr) → ((x : List Instr) → P x → R x) → ((x : List Instr) → Q x → S x) → Then P Q code → Then R S code
unfolding Then
then-both P Q R S code f g h = (h.0, h.1, f h.0 h.2, g h.1 h.3, h.4)

second-choice : (a : ℕ) (P Q R : Piece) (code : List Instr) → ((x : List Instr) → Q x → R x) → Choice a P Q code → Choice a P R code
unfolding Choice
second-choice a P Q R code f h = (h.0, h.1, h.2, f h.1.0.items h.3, h.4)

pub calloc_cured : (k : Scope) (types : Typing) (into m n : Temp) (node : NodeId) (t : TypeId) (at : Place) (code : List Instr)
    → CallocLines (world_of k) ((whole_of k).kind node) (holds_pointer k.layouts.now.table t) t (fixed_column into) (fixed_column m) (fixed_column n) at code
    → AllocateCured (allocate.Calloc into m n node t at) (world_of k) types code
unfolding AllocateCured
calloc_cured k types into m n node t at code line c after is h =
    let kind = (whole_of k).kind node in
    let whole = has_elements kind (holds_pointer k.layouts.now.table t) in
    let b = bytes_slot whole (seat Amount) in
    let grouped = regrouped _ _ _ code line in (
      fixed_column m,
      fixed_column n,
      b,
      seat,
      seat,
      is_exactly k.parameters types m unsigned_long h.2,
      is_exactly k.parameters types n unsigned_long h.3,
      takes k into (whole_of k).kind node h.4.0,
      then-both _ _ _ _ code (λ x p. p) (λ x p. then-both _ _ _ _ x (λ y q. q) (λ y q. then-both _ _ _ _ y
          (λ z r. second-choice _ _ _ _ z (made-block k whole kind t (seat Amount)) r) (given-block k kind t (fixed_column into) b at) q) p) grouped,
      leaves_held k.parameters types after into (Some (PointerTo node t)) h.4.1,
    )

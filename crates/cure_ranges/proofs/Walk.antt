-- The lines of a body are in range.
use Rattle.std.specs.Prelude.{max}
use Rattle.std.proofs.Common.{◌≡◌, ℕ, suc, ◌+◌, ◌≤◌, List, [], ◌∷◌, length, refl, ap, arith}
use Rattle.std.proofs.lemmas.Option.{slice_get_within}
use Rattle.cc_base.specs.declared.place.Place.{Place}
use Rattle.cc_base.specs.declared.number.TypeId.{TypeId}
use Rattle.src_mem.specs.Memory.{Planned}
use Rattle.cil_form.specs.declared.number.Temp.{Temp}
use Rattle.cil_form.specs.declared.instr.Instr.{Instr as Code, Row_of-Instr, end_of-Instr, more_of-Instr}
use Rattle.cil_form.specs.declared.instr.Instr.TheVariants as code
use Rattle.cil_form.specs.Shape.{nest_of, nest_of_row, nest_of_code}
use Rattle.cil_form.specs.Typing.{Context, Typing, HeldType, IntegerOf, PointerTo, PlaceOf, IsShaped, IsRowShaped, AreShaped, inside}
use Rattle.cured_code.specs.declared.instr.Instr.{Instr}
use Rattle.cured_code.specs.declared.instr.Instr.TheVariants as instr
use Rattle.check_forms.specs.Pieces.{Line, Then, Choice, Blocked, Looped}
use Rattle.check_forms.specs.declared.op.Op.TheVariants as op
use Rattle.check_forms.specs.Rows.{home_slot}
use Rattle.sim_relation.specs.Points.{Knowledge}
use Rattle.cure_rules.specs.Slots.{AreSlots}
use Rattle.cure_rules.specs.Known.{World, kind_of, pointer_slots}
use Rattle.cure_rules.specs.Code.{Blocks, ReturnGuard, Returns, ReturnsNone, IsCuring, IsCuringRow, AreCuring}
use Rattle.cure_ranges.proofs.Fitting.{Fits, Around, names_at, Placed, CanPassIn, CanReturnIn, IsCuredIn}
use Rattle.cure_ranges.proofs.Tests.{line, in_turn, choice, block, loop}
use Rattle.cure_ranges.proofs.Rows.{home}
use Rattle.cure_ranges.proofs.Guards.{pointer, included, nought, guarded}
use Rattle.cure_ranges.proofs.Setting.{tested, set_in_range, calculate_in_range}
use Rattle.cure_ranges.proofs.Pointing.{point_in_range, convert_in_range}
use Rattle.cure_ranges.proofs.Accesses.{access_in_range, nests}
use Rattle.cure_ranges.proofs.Calling.{allocate_in_range, call_in_range, runtime_in_range}
use Rattle.cure_ranges.proofs.Naming.{set_names, access_names, convert_names}

deep : (n m : ℕ) → n + m ≤ 1000 → n + 4 ≤ 1024
deep n m l = omega (arith, l)

first : (n a b : ℕ) → n + suc (max a b) ≤ 1000 → n + 1 + a ≤ 1000
first n a b l = omega (arith, l)

second : (n a b : ℕ) → n + suc (max a b) ≤ 1000 → n + 1 + b ≤ 1000
second n a b l = omega (arith, l)

one : (n a : ℕ) → n + suc a ≤ 1000 → n + 1 + a ≤ 1000
one n a l = omega (arith, l)

head : (n a b : ℕ) → n + max a b ≤ 1000 → n + a ≤ 1000
head n a b l = omega (arith, l)

rest : (n a b : ℕ) → n + max a b ≤ 1000 → n + b ≤ 1000
rest n a b l = omega (arith, l)

inside_here : (w : World) (r : Around) (k : Context) (entry : Typing) → IsCuredIn w r k → IsCuredIn w r (inside k entry)
inside_here w r k entry h = record { variables = h.variables; statics = h.statics; table = h.table; nodes = h.nodes }

module _ (w : World) (s : AreSlots w.slots) (r : Around) (can : CanPassIn w r) (ret : CanReturnIn w r) where
  -- Returns

  asked : (b n : ℕ) → n + 4 ≤ 1024 → (type : HeldType) (variables : List Planned) (a : ℕ) (at : Place) (is : List Instr) → w.variables ≡ variables → a + 3 ≤ w.slots.count → ReturnGuard type variables w a at is
      → Fits (names_at w r b n) is
  unfolding Line
  asked b n deep (PointerTo m u) (v ∷ vs) a at is e l h =
      guarded w s r b n deep (op.ReturnPointer (home_slot (kind_of w m) (pointer_slots a))) (kind_of w m) at is
      (home w.slots.count (kind_of w m) (pointer_slots a) (pointer a w.slots.count l), (let z = ap length e in omega (arith, z))) h
  asked b n deep (PointerTo m u) [] a at is e l h = line (names_at w r b n) [] is h tt
  asked b n deep (IntegerOf i) [] a at is e l h = line (names_at w r b n) [] is h tt
  asked b n deep (IntegerOf i) (v ∷ vs) a at is e l h = line (names_at w r b n) [] is h tt
  asked b n deep (PlaceOf m u) [] a at is e l h = line (names_at w r b n) [] is h tt
  asked b n deep (PlaceOf m u) (v ∷ vs) a at is e l h = line (names_at w r b n) [] is h tt

  returned : (b n : ℕ) → n + 4 ≤ 1024 → (known : Knowledge) (v : Temp) (t : TypeId) (at : Place) (is : List Instr) → Placed w known → Returns w known v t at is → Fits (names_at w r b n) is
  unfolding Line Then
  returned b n deep known v t at is p (x, a, number, result, e1, pl, form, held, (y, z, g, e2, e)) =
      let l = p v x a e1 pl in
      let few = ret.few in
      in_turn (names_at w r b n) y z is e (asked b n deep x.type w.variables a at y refl l g) (line (names_at w r b n) (instr.Return a ∷ []) z e2 (omega (arith, l, few), tt))

  returned_none : (b n : ℕ) (is : List Instr) → ReturnsNone w is → Fits (names_at w r b n) is
  unfolding Line
  returned_none b n is (t, number, result, none, e) =
      let z = ret.none t number result none in let l = nought w s in line (names_at w r b n) (instr.Return w.slots.nought ∷ []) is e (omega (arith, z, l), tt)

  -- Code

  mutual
    unfolding Line Then Choice Blocked Looped

    pub code_in_range : (i : Code) (k : Context) (types typed : Typing) (bl : Blocks) (b n : ℕ) (known after : Knowledge) (is : List Instr) → IsCuredIn w r k → length bl ≤ b → n + nest_of i ≤ 1000
        → Placed w known → IsShaped i k types typed → IsCuring i w bl known after is → Fits (names_at w r b n) is × Placed w after
    code_in_range (code.Set i) k types typed bl b n known after is here lb ln p sh h = set_in_range w s r b n (deep n 0 ln) i known after is p (set_names w r k here i types typed sh) h
    code_in_range (code.Calculate i) k types typed bl b n known after is here lb ln p sh h = calculate_in_range w s r b n (deep n 0 ln) i known after is p h
    code_in_range (code.Point i) k types typed bl b n known after is here lb ln p sh h = point_in_range w s r b n (deep n 0 ln) i known after is p h
    code_in_range (code.Convert i) k types typed bl b n known after is here lb ln p sh h = convert_in_range w s r b n (deep n 0 ln) i known after is p (convert_names w r k here i sh.1) h
    code_in_range (code.Access i) k types typed bl b n known after is here lb ln p sh h =
        access_in_range w s r b n (deep n 0 ln) i known after is p (access_names w r k here i types typed sh.0) h
    code_in_range (code.Allocate i) k types typed bl b n known after is here lb ln p sh h = allocate_in_range w s r b n (deep n 0 ln) i known after is p h
    code_in_range (code.Call i) k types typed bl b n known after is here lb ln p sh h = call_in_range w s r b n (deep n 0 ln) can i known after is p h
    code_in_range (code.Runtime i) k types typed bl b n known after is here lb ln p sh h = runtime_in_range w s r b n (deep n 0 ln) i known after is p h
    code_in_range (code.If' t shape x shape' y) k types typed bl b n known after is here lb ln p sh (a, (z, u, ts, (cx, cy, hx, hy, e2), e)) =
        let m = suc (max (nest_of_row x) (nest_of_row y)) in
        let g = tested w s r b n (deep n m ln) known t a z p ts in
        let left = row_in_range x k types typed bl b (n + 1) known after cx.0.items here lb (first n (nest_of_row x) (nest_of_row y) ln) p sh.1 hx in
        let right = row_in_range y k types typed bl b (n + 1) known after cy.0.items here lb (second n (nest_of_row x) (nest_of_row y) ln) p sh.2 hy in
        (in_turn (names_at w r b n) z u is e g.0 (choice (names_at w r b n) a cx cy u e2 g.1 (nests n (deep n m ln)) left.0 right.0), left.1)
    code_in_range (code.Block' shape x) k types typed bl b n known after is here lb ln p sh (c, h, e) =
        let m = suc (nest_of_row x) in
        let inner = row_in_range x (inside k sh.0) sh.0 sh.0 (after ∷ bl) (b + 1) (n + 1) known after c.0.items (inside_here w r k sh.0 here) (omega (arith, lb)) (one n (nest_of_row x) ln) p sh.2 h in
        (block (names_at w r b n) c is e (nests n (deep n m ln)) inner.0, inner.1)
    code_in_range (code.Loop' shape x) k types typed bl b n known after is here lb ln p sh (entry, inc, (c, h, e), back) =
        let m = suc (nest_of_row x) in
        let q = included w known entry p inc in
        let inner = row_in_range x (inside k sh.0) sh.0 sh.0 (after ∷ bl) (b + 1) (n + 1) entry entry c.0.items (inside_here w r k sh.0 here) (omega (arith, lb)) (one n (nest_of_row x) ln) q sh.2 h in
        (loop (names_at w r b n) c is e (nests n (deep n m ln)) inner.0, included w entry after q back)
    code_in_range (code.Break m) k types typed bl b n known after is here lb ln p sh (kept, found, inc, e, back) =
        let l = slice_get_within bl m kept found in (line (names_at w r b n) (instr.Break m ∷ []) is e (omega (arith, l, lb), tt), included w known after p back)
    code_in_range code.Return k types typed bl b n known after is here lb ln p sh h = (returned_none b n is h.0, included w known after p h.1)
    code_in_range (code.ReturnValue v t at) k types typed bl b n known after is here lb ln p sh h =
        (returned b n (deep n 0 ln) known v t at is p h.0, included w known after p h.1)

    row_in_range : {m : _} (x : Row_of-Instr m) (k : Context) (types typed : Typing) (bl : Blocks) (b n : ℕ) (known after : Knowledge) (is : List Instr) → IsCuredIn w r k → length bl ≤ b
        → n + nest_of_row x ≤ 1000 → Placed w known → IsRowShaped x k types typed → IsCuringRow x w bl known after is → Fits (names_at w r b n) is × Placed w after
    row_in_range end_of-Instr k types typed bl b n known after is here lb ln p sh (inc, e) = (line (names_at w r b n) [] is e tt, included w known after p inc)
    row_in_range (more_of-Instr i x) k types typed bl b n known after is here lb ln p sh (middle, (y, z, h, g, e)) =
        let one = code_in_range i k types sh.0 bl b n known middle y here lb (head n (nest_of i) (nest_of_row x) ln) p sh.1 h in
        let more = row_in_range x k sh.0 typed bl b n middle after z here lb (rest n (nest_of i) (nest_of_row x) ln) one.1 sh.2 g in
        (in_turn (names_at w r b n) y z is e one.0 more.0, more.1)

  pub body_in_range : (x : List Code) (k : Context) (types typed : Typing) (bl : Blocks) (b n : ℕ) (known after : Knowledge) (is : List Instr) → IsCuredIn w r k → length bl ≤ b
      → n + nest_of_code x ≤ 1000 → Placed w known → AreShaped x k types typed → AreCuring x w bl known after is → Fits (names_at w r b n) is × Placed w after
  unfolding Line Then
  body_in_range [] k types typed bl b n known after is here lb ln p sh (inc, e) = (line (names_at w r b n) [] is e tt, included w known after p inc)
  body_in_range (i ∷ x) k types typed bl b n known after is here lb ln p sh (middle, (y, z, h, g, e)) =
      let one = code_in_range i k types sh.0 bl b n known middle y here lb (head n (nest_of i) (nest_of_code x) ln) p sh.1 h in
      let more = body_in_range x k sh.0 typed bl b n middle after z here lb (rest n (nest_of i) (nest_of_code x) ln) one.1 sh.2 g in
      (in_turn (names_at w r b n) y z is e one.0 more.0, more.1)

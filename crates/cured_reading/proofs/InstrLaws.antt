-- Which instruction a line is that of, by its name.
use Rattle.std.proofs.Common.{ℕ, zero, suc, ◌+◌, ◌<◌, ◌≤◌, Bool, List, [], ◌∷◌, ◌++◌, ◌≡◌, ◌∙◌, length, map, ap, subst, refl, sym, arith}
use Rattle.std.specs.Prelude.{codes, All, ◌^◌, IfSome, slice_get, slice_index}
use Rattle.std.specs.List.{AllByRecursion as Each}
use Rattle.cc_base.specs.declared.fault.Check.{Check}
use Rattle.cc_base.specs.declared.fault.Check.TheVariants as check
use Rattle.cured_code.specs.declared.instr.Narrow.{Narrow}
use Rattle.cured_code.specs.declared.instr.Narrow.TheVariants.{S8, S16, S32, U8, U16, U32}
use Rattle.cured_code.specs.declared.instr.Instr.{Instr}
use Rattle.cured_code.specs.declared.instr.Instr.TheVariants as instr
use Rattle.cured_code.specs.declared.parts.Sig.{Sig}
use Rattle.cured_code.specs.Ranges.{Names, IsInstrInRange, HasSlots, CanPass}
use Rattle.cured_spelling.specs.Lines.{Field, Line}
use Rattle.cured_spelling.specs.Spelling.{line_of}
use Rattle.cured_spelling.proofs.Heads.{Head, One, OpensIf, OpensBlock, OpensLoop, TurnsElse, Ends, head, head_of, head-read, number, form_in, check_in, tag_in, first_field, second_field, third_field, fourth_field, fifth_field}
use Rattle.cured_reading.specs.declared.operation.Operation.{Operation}
use Rattle.cured_reading.specs.declared.operation.Operation.TheVariants as operation
use Rattle.cured_reading.specs.declared.operation.Operands.{Operands}
use Rattle.cured_reading.specs.declared.operation.Wide.{Wide}
use Rattle.cured_reading.specs.declared.operation.Format.{Format}
use Rattle.cured_reading.specs.declared.operation.Format.TheVariants.{One as OneOperand, Two, Three, Four, OneLong, TwoLong, ThreeLong, FourLong, Access}
use Rattle.cured_reading.specs.declared.operation.TheConstants.{OPERATIONS}
use Rattle.cured_reading.specs.declared.words.TheConstants.{FORMS, CHECKS}
use Rattle.cured_reading.specs.Operations.{operation_name, format_of, made, IsPadded}
use Rattle.cured_reading.specs.Faults.{IsStraight}
use Rattle.cured_reading.specs.Refusals.{IsFew}
use Rattle.cured_reading.proofs.FaultLaws.{straight-head}

-- Tables

pub form-each : (P : Narrow → Type 0) → All P FORMS → (x : Narrow) → P x
form-each P h S8 = h 0 S8 (omega arith)
form-each P h S16 = h 1 S16 (omega arith)
form-each P h S32 = h 2 S32 (omega arith)
form-each P h U8 = h 3 U8 (omega arith)
form-each P h U16 = h 4 U16 (omega arith)
form-each P h U32 = h 5 U32 (omega arith)

pub check-each : (P : Check → Type 0) → All P CHECKS → (x : Check) → P x
check-each P h check.Null = h 0 check.Null (omega arith)
check-each P h check.Bounds = h 1 check.Bounds (omega arith)
check-each P h check.Wbounds = h 2 check.Wbounds (omega arith)
check-each P h check.Base = h 3 check.Base (omega arith)
check-each P h check.Range = h 4 check.Range (omega arith)
check-each P h check.Tag = h 5 check.Tag (omega arith)
check-each P h check.Align = h 6 check.Align (omega arith)
check-each P h check.Cast = h 7 check.Cast (omega arith)
check-each P h check.Escape = h 8 check.Escape (omega arith)
check-each P h check.Fun = h 9 check.Fun (omega arith)
check-each P h check.Same = h 10 check.Same (omega arith)
check-each P h check.Divide = h 11 check.Divide (omega arith)
check-each P h check.Depth = h 12 check.Depth (omega arith)

pub operation-each : (P : Operation → Type 0) → All P OPERATIONS → (x : Operation) → P x
operation-each P h operation.Const = h 0 operation.Const (omega arith)
operation-each P h operation.Copy = h 1 operation.Copy (omega arith)
operation-each P h operation.Add = h 2 operation.Add (omega arith)
operation-each P h operation.Sub = h 3 operation.Sub (omega arith)
operation-each P h operation.Mul = h 4 operation.Mul (omega arith)
operation-each P h operation.And = h 5 operation.And (omega arith)
operation-each P h operation.Or = h 6 operation.Or (omega arith)
operation-each P h operation.Xor = h 7 operation.Xor (omega arith)
operation-each P h operation.Shl = h 8 operation.Shl (omega arith)
operation-each P h operation.Shr = h 9 operation.Shr (omega arith)
operation-each P h operation.Sar = h 10 operation.Sar (omega arith)
operation-each P h operation.Divu = h 11 operation.Divu (omega arith)
operation-each P h operation.Divs = h 12 operation.Divs (omega arith)
operation-each P h operation.Remu = h 13 operation.Remu (omega arith)
operation-each P h operation.Rems = h 14 operation.Rems (omega arith)
operation-each P h operation.Eq = h 15 operation.Eq (omega arith)
operation-each P h operation.Ne = h 16 operation.Ne (omega arith)
operation-each P h operation.Ltu = h 17 operation.Ltu (omega arith)
operation-each P h operation.Lts = h 18 operation.Lts (omega arith)
operation-each P h operation.Ld = h 19 operation.Ld (omega arith)
operation-each P h operation.St = h 20 operation.St (omega arith)
operation-each P h operation.Ldw = h 21 operation.Ldw (omega arith)
operation-each P h operation.Stw = h 22 operation.Stw (omega arith)
operation-each P h operation.Move = h 23 operation.Move (omega arith)
operation-each P h operation.Zero = h 24 operation.Zero (omega arith)
operation-each P h operation.Len = h 25 operation.Len (omega arith)
operation-each P h operation.Plain = h 26 operation.Plain (omega arith)
operation-each P h operation.Untag = h 27 operation.Untag (omega arith)
operation-each P h operation.Tagged = h 28 operation.Tagged (omega arith)
operation-each P h operation.Base = h 29 operation.Base (omega arith)
operation-each P h operation.Mark = h 30 operation.Mark (omega arith)
operation-each P h operation.Tmove = h 31 operation.Tmove (omega arith)
operation-each P h operation.Tzero = h 32 operation.Tzero (omega arith)
operation-each P h operation.Tdepth = h 33 operation.Tdepth (omega arith)
operation-each P h operation.Frame = h 34 operation.Frame (omega arith)
operation-each P h operation.Depth = h 35 operation.Depth (omega arith)
operation-each P h operation.Below = h 36 operation.Below (omega arith)
operation-each P h operation.Sigof = h 37 operation.Sigof (omega arith)
operation-each P h operation.Room = h 38 operation.Room (omega arith)
operation-each P h operation.Call = h 39 operation.Call (omega arith)
operation-each P h operation.Icall = h 40 operation.Icall (omega arith)
operation-each P h operation.Get = h 41 operation.Get (omega arith)
operation-each P h operation.Put = h 42 operation.Put (omega arith)
operation-each P h operation.Exit = h 43 operation.Exit (omega arith)
operation-each P h operation.Break = h 44 operation.Break (omega arith)
operation-each P h operation.Return = h 45 operation.Return (omega arith)

-- An instruction, read back from the name and the fields of its line

unfoldable instr_in : Instr → Head → Instr
instr_in d (One i) = i
instr_in d h = d

shape : (i : Instr) (name : List ℕ) → IsStraight i → (line_of i).name ≡ name → i ≡ instr_in i (head (record { name = name; fields = (line_of i).fields }))
unfolding instr_in
shape i name s e =
    let again : List ℕ → Line = λ n. record { name = n; fields = (line_of i).fields } in
    ap (instr_in i) (sym (straight-head i s) ∙ sym (head-read i) ∙ ap (λ n. head (again n)) e)

pub ext-shape : (i : Instr) → IsStraight i → (line_of i).name ≡ codes "ext" → (v : ℕ) × (a : ℕ) × (form : Narrow) × (i ≡ instr.Ext v a form)
unfolding instr_in head
ext-shape i s e =
    let l : Line = record { name = codes "ext"; fields = (line_of i).fields } in
    (number (first_field l), number (second_field l), form_in (third_field l), shape i (codes "ext") s e)

pub new-shape : (i : Instr) → IsStraight i → (line_of i).name ≡ codes "new" → (tagged : Bool) × (v : ℕ) × (n : ℕ) × (s : ℕ) × (i ≡ instr.New tagged v n s)
unfolding instr_in head
new-shape i s e =
    let l : Line = record { name = codes "new"; fields = (line_of i).fields } in
    (tag_in (first_field l), number (second_field l), number (third_field l), number (fourth_field l), shape i (codes "new") s e)

pub check-shape : (i : Instr) → IsStraight i → (line_of i).name ≡ codes "check"
    → (c : Check) × (row : ℕ) × (col : ℕ) × (a : ℕ) × (i ≡ instr.Check c (record { line = row; col = col }) a)
unfolding instr_in head
check-shape i s e =
    let l : Line = record { name = codes "check"; fields = (line_of i).fields } in
    (check_in (first_field l), number (second_field l), number (third_field l), number (fourth_field l), shape i (codes "check") s e)

unfoldable operands_in : Format → Line → Operands
operands_in OneOperand l = record { a = number (first_field l); b = 0; c = 0; d = 0; n = 0 }
operands_in Two l = record { a = number (first_field l); b = number (second_field l); c = 0; d = 0; n = 0 }
operands_in Three l = record { a = number (first_field l); b = number (second_field l); c = number (third_field l); d = 0; n = 0 }
operands_in Four l = record { a = number (first_field l); b = number (second_field l); c = number (third_field l); d = number (fourth_field l); n = 0 }
operands_in OneLong l = record { a = number (first_field l); b = 0; c = 0; d = 0; n = number (second_field l) }
operands_in TwoLong l = record { a = number (first_field l); b = number (second_field l); c = 0; d = 0; n = number (third_field l) }
operands_in ThreeLong l = record { a = number (first_field l); b = number (second_field l); c = number (third_field l); d = 0; n = number (fourth_field l) }
operands_in FourLong l = record { a = number (first_field l); b = number (second_field l); c = number (third_field l); d = number (fourth_field l); n = number (fifth_field l) }
operands_in Access l = record { a = number (second_field l); b = number (third_field l); c = 0; d = 0; n = number (first_field l) }

made-shape-by : (o : Operation) (i : Instr) → IsStraight i → (line_of i).name ≡ operation_name o
    → i ≡ made o (operands_in (format_of o) (record { name = operation_name o; fields = (line_of i).fields }))
unfolding instr_in head operands_in
made-shape-by operation.Const i s e = shape i (codes "const") s e
made-shape-by operation.Copy i s e = shape i (codes "copy") s e
made-shape-by operation.Add i s e = shape i (codes "add") s e
made-shape-by operation.Sub i s e = shape i (codes "sub") s e
made-shape-by operation.Mul i s e = shape i (codes "mul") s e
made-shape-by operation.And i s e = shape i (codes "and") s e
made-shape-by operation.Or i s e = shape i (codes "or") s e
made-shape-by operation.Xor i s e = shape i (codes "xor") s e
made-shape-by operation.Shl i s e = shape i (codes "shl") s e
made-shape-by operation.Shr i s e = shape i (codes "shr") s e
made-shape-by operation.Sar i s e = shape i (codes "sar") s e
made-shape-by operation.Divu i s e = shape i (codes "divu") s e
made-shape-by operation.Divs i s e = shape i (codes "divs") s e
made-shape-by operation.Remu i s e = shape i (codes "remu") s e
made-shape-by operation.Rems i s e = shape i (codes "rems") s e
made-shape-by operation.Eq i s e = shape i (codes "eq") s e
made-shape-by operation.Ne i s e = shape i (codes "ne") s e
made-shape-by operation.Ltu i s e = shape i (codes "ltu") s e
made-shape-by operation.Lts i s e = shape i (codes "lts") s e
made-shape-by operation.Ld i s e = shape i (codes "ld") s e
made-shape-by operation.St i s e = shape i (codes "st") s e
made-shape-by operation.Ldw i s e = shape i (codes "ldw") s e
made-shape-by operation.Stw i s e = shape i (codes "stw") s e
made-shape-by operation.Move i s e = shape i (codes "move") s e
made-shape-by operation.Zero i s e = shape i (codes "zero") s e
made-shape-by operation.Len i s e = shape i (codes "len") s e
made-shape-by operation.Plain i s e = shape i (codes "plain") s e
made-shape-by operation.Untag i s e = shape i (codes "untag") s e
made-shape-by operation.Tagged i s e = shape i (codes "tagged") s e
made-shape-by operation.Base i s e = shape i (codes "base") s e
made-shape-by operation.Mark i s e = shape i (codes "mark") s e
made-shape-by operation.Tmove i s e = shape i (codes "tmove") s e
made-shape-by operation.Tzero i s e = shape i (codes "tzero") s e
made-shape-by operation.Tdepth i s e = shape i (codes "tdepth") s e
made-shape-by operation.Frame i s e = shape i (codes "frame") s e
made-shape-by operation.Depth i s e = shape i (codes "depth") s e
made-shape-by operation.Below i s e = shape i (codes "below") s e
made-shape-by operation.Sigof i s e = shape i (codes "sigof") s e
made-shape-by operation.Room i s e = shape i (codes "room") s e
made-shape-by operation.Call i s e = shape i (codes "call") s e
made-shape-by operation.Icall i s e = shape i (codes "icall") s e
made-shape-by operation.Get i s e = shape i (codes "get") s e
made-shape-by operation.Put i s e = shape i (codes "put") s e
made-shape-by operation.Exit i s e = shape i (codes "exit") s e
made-shape-by operation.Break i s e = shape i (codes "break") s e
made-shape-by operation.Return i s e = shape i (codes "return") s e

pub made-shape : (o : Operation) (i : Instr) → IsStraight i → (line_of i).name ≡ operation_name o → (of : Operands) × (i ≡ made o of)
made-shape o i s e = (operands_in (format_of o) (record { name = operation_name o; fields = (line_of i).fields }), made-shape-by o i s e)

-- each has the name of an operation, or is one of three others
pub named-some : (i : Instr) → IsStraight i → ((o : Operation) → operation_name o ≡ (line_of i).name → ⊥) → ((line_of i).name ≡ codes "ext" → ⊥)
    → ((line_of i).name ≡ codes "new" → ⊥) → ((line_of i).name ≡ codes "check" → ⊥) → ⊥
named-some (instr.Const v n) straight some ext new chk = some operation.Const refl
named-some (instr.Copy v a) straight some ext new chk = some operation.Copy refl
named-some (instr.Ext v a form) straight some ext new chk = ext refl
named-some (instr.Add v a b) straight some ext new chk = some operation.Add refl
named-some (instr.Sub v a b) straight some ext new chk = some operation.Sub refl
named-some (instr.Mul v a b) straight some ext new chk = some operation.Mul refl
named-some (instr.And v a b) straight some ext new chk = some operation.And refl
named-some (instr.Or v a b) straight some ext new chk = some operation.Or refl
named-some (instr.Xor v a b) straight some ext new chk = some operation.Xor refl
named-some (instr.Shl v a b) straight some ext new chk = some operation.Shl refl
named-some (instr.Shr v a b) straight some ext new chk = some operation.Shr refl
named-some (instr.Sar v a b) straight some ext new chk = some operation.Sar refl
named-some (instr.Divu v a b) straight some ext new chk = some operation.Divu refl
named-some (instr.Divs v a b) straight some ext new chk = some operation.Divs refl
named-some (instr.Remu v a b) straight some ext new chk = some operation.Remu refl
named-some (instr.Rems v a b) straight some ext new chk = some operation.Rems refl
named-some (instr.Eq v a b) straight some ext new chk = some operation.Eq refl
named-some (instr.Ne v a b) straight some ext new chk = some operation.Ne refl
named-some (instr.Ltu v a b) straight some ext new chk = some operation.Ltu refl
named-some (instr.Lts v a b) straight some ext new chk = some operation.Lts refl
named-some (instr.Ld n v a) straight some ext new chk = some operation.Ld refl
named-some (instr.St n a v) straight some ext new chk = some operation.St refl
named-some (instr.Ldw k v a) straight some ext new chk = some operation.Ldw refl
named-some (instr.Stw k a v) straight some ext new chk = some operation.Stw refl
named-some (instr.Move a b n) straight some ext new chk = some operation.Move refl
named-some (instr.Zero a n) straight some ext new chk = some operation.Zero refl
named-some (instr.Len v b) straight some ext new chk = some operation.Len refl
named-some (instr.Plain v a b n) straight some ext new chk = some operation.Plain refl
named-some (instr.Untag a b n) straight some ext new chk = some operation.Untag refl
named-some (instr.Tagged v a b) straight some ext new chk = some operation.Tagged refl
named-some (instr.Base v a b) straight some ext new chk = some operation.Base refl
named-some (instr.Mark a b u) straight some ext new chk = some operation.Mark refl
named-some (instr.Tmove a b d e n) straight some ext new chk = some operation.Tmove refl
named-some (instr.Tzero a b n) straight some ext new chk = some operation.Tzero refl
named-some (instr.Tdepth v a b n) straight some ext new chk = some operation.Tdepth refl
named-some (instr.Frame v k) straight some ext new chk = some operation.Frame refl
named-some (instr.Depth v a) straight some ext new chk = some operation.Depth refl
named-some (instr.Below v a n) straight some ext new chk = some operation.Below refl
named-some (instr.Sigof v a) straight some ext new chk = some operation.Sigof refl
named-some (instr.Room v a) straight some ext new chk = some operation.Room refl
named-some (instr.New tagged v n s) straight some ext new chk = new refl
named-some (instr.Call f a v) straight some ext new chk = some operation.Call refl
named-some (instr.Icall g u a v) straight some ext new chk = some operation.Icall refl
named-some (instr.Get v) straight some ext new chk = some operation.Get refl
named-some (instr.Put a) straight some ext new chk = some operation.Put refl
named-some (instr.Exit a) straight some ext new chk = some operation.Exit refl
named-some (instr.Check check place a) straight some ext new chk = chk refl
named-some (instr.If' a s x t y) straight some ext new chk = straight
named-some (instr.Block' s x) straight some ext new chk = straight
named-some (instr.Loop' s x) straight some ext new chk = straight
named-some (instr.Break k) straight some ext new chk = some operation.Break refl
named-some (instr.Return a) straight some ext new chk = some operation.Return refl

pub made-straight : (o : Operation) (of : Operands) → IsStraight (made o of)
made-straight operation.Const of = tt
made-straight operation.Copy of = tt
made-straight operation.Add of = tt
made-straight operation.Sub of = tt
made-straight operation.Mul of = tt
made-straight operation.And of = tt
made-straight operation.Or of = tt
made-straight operation.Xor of = tt
made-straight operation.Shl of = tt
made-straight operation.Shr of = tt
made-straight operation.Sar of = tt
made-straight operation.Divu of = tt
made-straight operation.Divs of = tt
made-straight operation.Remu of = tt
made-straight operation.Rems of = tt
made-straight operation.Eq of = tt
made-straight operation.Ne of = tt
made-straight operation.Ltu of = tt
made-straight operation.Lts of = tt
made-straight operation.Ld of = tt
made-straight operation.St of = tt
made-straight operation.Ldw of = tt
made-straight operation.Stw of = tt
made-straight operation.Move of = tt
made-straight operation.Zero of = tt
made-straight operation.Len of = tt
made-straight operation.Plain of = tt
made-straight operation.Untag of = tt
made-straight operation.Tagged of = tt
made-straight operation.Base of = tt
made-straight operation.Mark of = tt
made-straight operation.Tmove of = tt
made-straight operation.Tzero of = tt
made-straight operation.Tdepth of = tt
made-straight operation.Frame of = tt
made-straight operation.Depth of = tt
made-straight operation.Below of = tt
made-straight operation.Sigof of = tt
made-straight operation.Room of = tt
made-straight operation.Call of = tt
made-straight operation.Icall of = tt
made-straight operation.Get of = tt
made-straight operation.Put of = tt
made-straight operation.Exit of = tt
made-straight operation.Break of = tt
made-straight operation.Return of = tt

-- An operand that is in range is below 2^32

abbrev pub AreSmall : Operands → Type 0
AreSmall of = (of.a < 2 ^ 32) × (of.b < 2 ^ 32) × (of.c < 2 ^ 32) × (of.d < 2 ^ 32)

-- what a format doesn't have is 0
abbrev pub IsPaddedOf : Format → Operands → Type 0
IsPaddedOf f of = IsPadded f (record { a = of.a; b = of.b; c = of.c; d = of.d; n = of.n })

held-first : (sigs : List Sig) (g a slots : ℕ) (size : Sig → ℕ) → g < length sigs → IfSome (slice_get sigs g) (λ s. a + size s ≤ slots) → a ≤ slots
held-first [] g a slots size lt h = absurd (omega arith)
held-first (s ∷ sigs) zero a slots size lt h = omega (arith, h)
held-first (s ∷ sigs) (suc g) a slots size lt h = held-first sigs g a slots size (omega (arith, lt)) h

pass-small : (names : Names) (g a v : ℕ) → IsFew names → CanPass names g a v → (g < 2 ^ 32) × (a < 2 ^ 32) × (v < 2 ^ 32)
pass-small names g a v few c =
    let first : a ≤ names.slots = held-first names.sigs g a names.slots (λ s. s.params) c.there c.params_held in
    let second : v ≤ names.slots = held-first names.sigs g v names.slots (λ s. s.results) c.there c.results_held in
    let there = c.there in
    let sigs = few.sigs in
    let slots = few.slots in
    (omega (arith, there, sigs), omega (arith, first, slots), omega (arith, second, slots))

pub small-operands : (o : Operation) (of : Operands) (names : Names) → IsFew names → IsPaddedOf (format_of o) of → IsInstrInRange names (made o of)
    → AreSmall of
small-operands operation.Const of names few pad h = (omega arith, omega arith, omega arith, omega arith)
small-operands operation.Copy of names few pad h = (omega arith, omega arith, omega arith, omega arith)
small-operands operation.Add of names few pad h = (omega arith, omega arith, omega arith, omega arith)
small-operands operation.Sub of names few pad h = (omega arith, omega arith, omega arith, omega arith)
small-operands operation.Mul of names few pad h = (omega arith, omega arith, omega arith, omega arith)
small-operands operation.And of names few pad h = (omega arith, omega arith, omega arith, omega arith)
small-operands operation.Or of names few pad h = (omega arith, omega arith, omega arith, omega arith)
small-operands operation.Xor of names few pad h = (omega arith, omega arith, omega arith, omega arith)
small-operands operation.Shl of names few pad h = (omega arith, omega arith, omega arith, omega arith)
small-operands operation.Shr of names few pad h = (omega arith, omega arith, omega arith, omega arith)
small-operands operation.Sar of names few pad h = (omega arith, omega arith, omega arith, omega arith)
small-operands operation.Divu of names few pad h = (omega arith, omega arith, omega arith, omega arith)
small-operands operation.Divs of names few pad h = (omega arith, omega arith, omega arith, omega arith)
small-operands operation.Remu of names few pad h = (omega arith, omega arith, omega arith, omega arith)
small-operands operation.Rems of names few pad h = (omega arith, omega arith, omega arith, omega arith)
small-operands operation.Eq of names few pad h = (omega arith, omega arith, omega arith, omega arith)
small-operands operation.Ne of names few pad h = (omega arith, omega arith, omega arith, omega arith)
small-operands operation.Ltu of names few pad h = (omega arith, omega arith, omega arith, omega arith)
small-operands operation.Lts of names few pad h = (omega arith, omega arith, omega arith, omega arith)
small-operands operation.Ld of names few pad h = (omega arith, omega arith, omega arith, omega arith)
small-operands operation.St of names few pad h = (omega arith, omega arith, omega arith, omega arith)
small-operands operation.Ldw of names few pad h = (omega arith, omega arith, omega arith, omega arith)
small-operands operation.Stw of names few pad h = (omega arith, omega arith, omega arith, omega arith)
small-operands operation.Move of names few pad h = (omega arith, omega arith, omega arith, omega arith)
small-operands operation.Zero of names few pad h = (omega arith, omega arith, omega arith, omega arith)
small-operands operation.Len of names few pad h = (omega arith, omega arith, omega arith, omega arith)
small-operands operation.Plain of names few pad h = (omega arith, omega arith, omega arith, omega arith)
small-operands operation.Untag of names few pad h = (omega arith, omega arith, omega arith, omega arith)
small-operands operation.Tagged of names few pad h = (omega arith, omega arith, omega arith, omega arith)
small-operands operation.Base of names few pad h = (omega arith, omega arith, omega arith, omega arith)
small-operands operation.Mark of names few pad h = (omega arith, omega arith, omega arith, omega arith)
small-operands operation.Tmove of names few pad h = (omega arith, omega arith, omega arith, omega arith)
small-operands operation.Tzero of names few pad h = (omega arith, omega arith, omega arith, omega arith)
small-operands operation.Tdepth of names few pad h = (omega arith, omega arith, omega arith, omega arith)
small-operands operation.Frame of names few pad h = (omega arith, omega arith, omega arith, omega arith)
small-operands operation.Depth of names few pad h = (omega arith, omega arith, omega arith, omega arith)
small-operands operation.Below of names few pad h = (omega arith, omega arith, omega arith, omega arith)
small-operands operation.Sigof of names few pad h = (omega arith, omega arith, omega arith, omega arith)
small-operands operation.Room of names few pad h = (omega arith, omega arith, omega arith, omega arith)
small-operands operation.Call of names few pad h =
    let p = pass-small names (slice_index names.functions of.a) of.b of.c few h.1 in
    (omega (arith, h.0, few.functions), p.1, p.2, omega arith)
small-operands operation.Icall of names few pad h =
    let p = pass-small names of.a of.c of.d few h.1 in
    (p.0, omega (arith, h.0, few.slots), p.1, p.2)
small-operands operation.Get of names few pad h = (omega arith, omega arith, omega arith, omega arith)
small-operands operation.Put of names few pad h = (omega arith, omega arith, omega arith, omega arith)
small-operands operation.Exit of names few pad h = (omega arith, omega arith, omega arith, omega arith)
small-operands operation.Break of names few pad h = (omega arith, omega arith, omega arith, omega arith)
small-operands operation.Return of names few pad h = (omega arith, omega arith, omega arith, omega arith)

-- The lines of the instructions whose fields are numbers alone.
use Rattle.std.proofs.Common.{ℕ, List, [], ◌∷◌, ◌++◌, ◌≡◌, map, refl, append_assoc, append-nil}
use Rattle.std.specs.Prelude.{flat_map}
use Rattle.cured_spelling.specs.Lines.{line, line_text, fields_text, Number}
use Rattle.cured_spelling.specs.Spelling.{lines_of}
use Rattle.cured_reading.specs.declared.operation.Operation.{Operation}
use Rattle.cured_reading.specs.declared.operation.Operation.TheVariants as operation
use Rattle.cured_reading.specs.declared.operation.Operands.{Operands}
use Rattle.cured_reading.specs.Operations.{operation_name, format_of, made, numbers_of, wide_numbers_of}
use Rattle.cured_reading.specs.declared.operation.Wide.{Wide}
use Rattle.cured_reading.specs.declared.operation.Format.{Format}
use Rattle.cured_reading.specs.declared.operation.Format.TheVariants.{One, Two, Three, Four, OneLong, TwoLong, ThreeLong, FourLong, Access}

pub made-lines : (o : Operation) (of : Operands) → lines_of (made o of) ≡ line (operation_name o) (numbers_of (format_of o) of) ∷ []
made-lines operation.Const of = refl
made-lines operation.Copy of = refl
made-lines operation.Add of = refl
made-lines operation.Sub of = refl
made-lines operation.Mul of = refl
made-lines operation.And of = refl
made-lines operation.Or of = refl
made-lines operation.Xor of = refl
made-lines operation.Shl of = refl
made-lines operation.Shr of = refl
made-lines operation.Sar of = refl
made-lines operation.Divu of = refl
made-lines operation.Divs of = refl
made-lines operation.Remu of = refl
made-lines operation.Rems of = refl
made-lines operation.Eq of = refl
made-lines operation.Ne of = refl
made-lines operation.Ltu of = refl
made-lines operation.Lts of = refl
made-lines operation.Ld of = refl
made-lines operation.St of = refl
made-lines operation.Ldw of = refl
made-lines operation.Stw of = refl
made-lines operation.Move of = refl
made-lines operation.Zero of = refl
made-lines operation.Len of = refl
made-lines operation.Plain of = refl
made-lines operation.Untag of = refl
made-lines operation.Tagged of = refl
made-lines operation.Base of = refl
made-lines operation.Mark of = refl
made-lines operation.Tmove of = refl
made-lines operation.Tzero of = refl
made-lines operation.Tdepth of = refl
made-lines operation.Frame of = refl
made-lines operation.Depth of = refl
made-lines operation.Below of = refl
made-lines operation.Sigof of = refl
made-lines operation.Room of = refl
made-lines operation.Call of = refl
made-lines operation.Icall of = refl
made-lines operation.Get of = refl
made-lines operation.Put of = refl
made-lines operation.Exit of = refl
made-lines operation.Break of = refl
made-lines operation.Return of = refl

-- the same numbers are the same fields
pub same-numbers : (f : Format) (of : Operands) (wide : Wide) → of.a ≡ wide.a → of.b ≡ wide.b → of.c ≡ wide.c → of.d ≡ wide.d → of.n ≡ wide.n
    → numbers_of f of ≡ wide_numbers_of f wide
same-numbers One of wide a b c d n = cc
same-numbers Two of wide a b c d n = cc
same-numbers Three of wide a b c d n = cc
same-numbers Four of wide a b c d n = cc
same-numbers OneLong of wide a b c d n = cc
same-numbers TwoLong of wide a b c d n = cc
same-numbers ThreeLong of wide a b c d n = cc
same-numbers FourLong of wide a b c d n = cc
same-numbers Access of wide a b c d n = cc

-- the line of an operation, from its name and its fields
pub operation-text : (o : Operation) (of : Operands) (wide : Wide) (fields : List ℕ) → of.a ≡ wide.a → of.b ≡ wide.b → of.c ≡ wide.c
    → of.d ≡ wide.d → of.n ≡ wide.n
    → fields ≡ fields_text (map Number (wide_numbers_of (format_of o) wide)) → operation_name o ++ (fields
    ++ (10 ∷ [])) ≡ flat_map line_text (lines_of (made o of))
operation-text o of wide fields a b c d n e =
    rw (made-lines o of, same-numbers (format_of o) of wide a b c d n, e) (simp (append-nil, append_assoc))

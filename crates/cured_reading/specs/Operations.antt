-- The instructions whose fields are numbers alone.
use Rattle.std.specs.Prelude.{ℕ, ◌≡◌, List, [], ◌∷◌, map, codes}
use Rattle.cured_spelling.specs.Lines.{Field, Number}
use Rattle.cured_code.specs.declared.instr.Instr.{Instr}
use Rattle.cured_code.specs.declared.instr.Instr.TheVariants as instr
use Rattle.cured_reading.specs.declared.operation.Operation.{Operation}
use Rattle.cured_reading.specs.declared.operation.Operation.TheVariants as operation
use Rattle.cured_reading.specs.declared.operation.Format.{Format}
use Rattle.cured_reading.specs.declared.operation.Format.TheVariants.{One, Two, Three, Four, OneLong, TwoLong, ThreeLong, FourLong, Access}
use Rattle.cured_reading.specs.declared.operation.Operands.{Operands}
use Rattle.cured_reading.specs.declared.operation.Wide.{Wide}

abbrev pub operation_name : Operation → List ℕ
operation_name operation.Const = codes "const"
operation_name operation.Copy = codes "copy"
operation_name operation.Add = codes "add"
operation_name operation.Sub = codes "sub"
operation_name operation.Mul = codes "mul"
operation_name operation.And = codes "and"
operation_name operation.Or = codes "or"
operation_name operation.Xor = codes "xor"
operation_name operation.Shl = codes "shl"
operation_name operation.Shr = codes "shr"
operation_name operation.Sar = codes "sar"
operation_name operation.Divu = codes "divu"
operation_name operation.Divs = codes "divs"
operation_name operation.Remu = codes "remu"
operation_name operation.Rems = codes "rems"
operation_name operation.Eq = codes "eq"
operation_name operation.Ne = codes "ne"
operation_name operation.Ltu = codes "ltu"
operation_name operation.Lts = codes "lts"
operation_name operation.Ld = codes "ld"
operation_name operation.St = codes "st"
operation_name operation.Ldw = codes "ldw"
operation_name operation.Stw = codes "stw"
operation_name operation.Move = codes "move"
operation_name operation.Zero = codes "zero"
operation_name operation.Len = codes "len"
operation_name operation.Plain = codes "plain"
operation_name operation.Untag = codes "untag"
operation_name operation.Tagged = codes "tagged"
operation_name operation.Base = codes "base"
operation_name operation.Mark = codes "mark"
operation_name operation.Tmove = codes "tmove"
operation_name operation.Tzero = codes "tzero"
operation_name operation.Tdepth = codes "tdepth"
operation_name operation.Frame = codes "frame"
operation_name operation.Depth = codes "depth"
operation_name operation.Below = codes "below"
operation_name operation.Sigof = codes "sigof"
operation_name operation.Room = codes "room"
operation_name operation.Call = codes "call"
operation_name operation.Icall = codes "icall"
operation_name operation.Get = codes "get"
operation_name operation.Put = codes "put"
operation_name operation.Exit = codes "exit"
operation_name operation.Break = codes "break"
operation_name operation.Return = codes "return"

abbrev pub format_of : Operation → Format
format_of operation.Const = OneLong
format_of operation.Copy = Two
format_of operation.Add = Three
format_of operation.Sub = Three
format_of operation.Mul = Three
format_of operation.And = Three
format_of operation.Or = Three
format_of operation.Xor = Three
format_of operation.Shl = Three
format_of operation.Shr = Three
format_of operation.Sar = Three
format_of operation.Divu = Three
format_of operation.Divs = Three
format_of operation.Remu = Three
format_of operation.Rems = Three
format_of operation.Eq = Three
format_of operation.Ne = Three
format_of operation.Ltu = Three
format_of operation.Lts = Three
format_of operation.Ld = Access
format_of operation.St = Access
format_of operation.Ldw = Three
format_of operation.Stw = Three
format_of operation.Move = TwoLong
format_of operation.Zero = OneLong
format_of operation.Len = Two
format_of operation.Plain = ThreeLong
format_of operation.Untag = TwoLong
format_of operation.Tagged = Three
format_of operation.Base = Three
format_of operation.Mark = Three
format_of operation.Tmove = FourLong
format_of operation.Tzero = TwoLong
format_of operation.Tdepth = ThreeLong
format_of operation.Frame = Two
format_of operation.Depth = Two
format_of operation.Below = Three
format_of operation.Sigof = Two
format_of operation.Room = Two
format_of operation.Call = Three
format_of operation.Icall = Four
format_of operation.Get = One
format_of operation.Put = One
format_of operation.Exit = One
format_of operation.Break = One
format_of operation.Return = One

abbrev pub made : Operation → Operands → Instr
made operation.Const of = instr.Const of.a of.n
made operation.Copy of = instr.Copy of.a of.b
made operation.Add of = instr.Add of.a of.b of.c
made operation.Sub of = instr.Sub of.a of.b of.c
made operation.Mul of = instr.Mul of.a of.b of.c
made operation.And of = instr.And of.a of.b of.c
made operation.Or of = instr.Or of.a of.b of.c
made operation.Xor of = instr.Xor of.a of.b of.c
made operation.Shl of = instr.Shl of.a of.b of.c
made operation.Shr of = instr.Shr of.a of.b of.c
made operation.Sar of = instr.Sar of.a of.b of.c
made operation.Divu of = instr.Divu of.a of.b of.c
made operation.Divs of = instr.Divs of.a of.b of.c
made operation.Remu of = instr.Remu of.a of.b of.c
made operation.Rems of = instr.Rems of.a of.b of.c
made operation.Eq of = instr.Eq of.a of.b of.c
made operation.Ne of = instr.Ne of.a of.b of.c
made operation.Ltu of = instr.Ltu of.a of.b of.c
made operation.Lts of = instr.Lts of.a of.b of.c
made operation.Ld of = instr.Ld of.n of.a of.b
made operation.St of = instr.St of.n of.a of.b
made operation.Ldw of = instr.Ldw of.a of.b of.c
made operation.Stw of = instr.Stw of.a of.b of.c
made operation.Move of = instr.Move of.a of.b of.n
made operation.Zero of = instr.Zero of.a of.n
made operation.Len of = instr.Len of.a of.b
made operation.Plain of = instr.Plain of.a of.b of.c of.n
made operation.Untag of = instr.Untag of.a of.b of.n
made operation.Tagged of = instr.Tagged of.a of.b of.c
made operation.Base of = instr.Base of.a of.b of.c
made operation.Mark of = instr.Mark of.a of.b of.c
made operation.Tmove of = instr.Tmove of.a of.b of.c of.d of.n
made operation.Tzero of = instr.Tzero of.a of.b of.n
made operation.Tdepth of = instr.Tdepth of.a of.b of.c of.n
made operation.Frame of = instr.Frame of.a of.b
made operation.Depth of = instr.Depth of.a of.b
made operation.Below of = instr.Below of.a of.b of.c
made operation.Sigof of = instr.Sigof of.a of.b
made operation.Room of = instr.Room of.a of.b
made operation.Call of = instr.Call of.a of.b of.c
made operation.Icall of = instr.Icall of.a of.b of.c of.d
made operation.Get of = instr.Get of.a
made operation.Put of = instr.Put of.a
made operation.Exit of = instr.Exit of.a
made operation.Break of = instr.Break of.a
made operation.Return of = instr.Return of.a

-- the numbers of a format's fields, in order
abbrev pub numbers_of : Format → Operands → List ℕ
numbers_of One of = of.a ∷ []
numbers_of Two of = of.a ∷ of.b ∷ []
numbers_of Three of = of.a ∷ of.b ∷ of.c ∷ []
numbers_of Four of = of.a ∷ of.b ∷ of.c ∷ of.d ∷ []
numbers_of OneLong of = of.a ∷ of.n ∷ []
numbers_of TwoLong of = of.a ∷ of.b ∷ of.n ∷ []
numbers_of ThreeLong of = of.a ∷ of.b ∷ of.c ∷ of.n ∷ []
numbers_of FourLong of = of.a ∷ of.b ∷ of.c ∷ of.d ∷ of.n ∷ []
numbers_of Access of = of.n ∷ of.a ∷ of.b ∷ []

-- the same of numbers that may be too large for their places
abbrev pub wide_numbers_of : Format → Wide → List ℕ
wide_numbers_of One of = of.a ∷ []
wide_numbers_of Two of = of.a ∷ of.b ∷ []
wide_numbers_of Three of = of.a ∷ of.b ∷ of.c ∷ []
wide_numbers_of Four of = of.a ∷ of.b ∷ of.c ∷ of.d ∷ []
wide_numbers_of OneLong of = of.a ∷ of.n ∷ []
wide_numbers_of TwoLong of = of.a ∷ of.b ∷ of.n ∷ []
wide_numbers_of ThreeLong of = of.a ∷ of.b ∷ of.c ∷ of.n ∷ []
wide_numbers_of FourLong of = of.a ∷ of.b ∷ of.c ∷ of.d ∷ of.n ∷ []
wide_numbers_of Access of = of.n ∷ of.a ∷ of.b ∷ []

-- the same as fields
abbrev pub wide_fields : Format → Wide → List Field
wide_fields format of = map Number (wide_numbers_of format of)

-- what a format doesn't have is 0
abbrev pub IsPadded : Format → Wide → Type 0
IsPadded One of = (of.b ≡ 0) × (of.c ≡ 0) × (of.d ≡ 0)
IsPadded Two of = (of.c ≡ 0) × (of.d ≡ 0)
IsPadded Three of = of.d ≡ 0
IsPadded Four of = Unit {0}
IsPadded OneLong of = (of.b ≡ 0) × (of.c ≡ 0) × (of.d ≡ 0)
IsPadded TwoLong of = (of.c ≡ 0) × (of.d ≡ 0)
IsPadded ThreeLong of = of.d ≡ 0
IsPadded FourLong of = Unit {0}
IsPadded Access of = (of.c ≡ 0) × (of.d ≡ 0)

-- How the words of lines are written, which their names tell.
use Rattle.std.proofs.Common.{ℕ, ◌<◌, ◌≡◌, List, [], ◌∷◌, length, map}
use Rattle.std.specs.Prelude.{cond, replicate, codes}
use Rattle.std.specs.List.{AllByRecursion}
use Rattle.std.specs.Str.{bytes_eq}
use Rattle.cured_spelling.specs.Lines.{Field, Number, Form, Name, Tag, Hex, Line}

-- how a field is written
pub data Writing : Type 0 where
  Digits : Writing
  FormWord : Writing
  CheckWord : Writing
  TagWord : Writing
  HexWord : Writing

abbrev pub writing : Field → Writing
writing (Number n) = Digits
writing (Form form) = FormWord
writing (Name check) = CheckWord
writing (Tag tagged) = TagWord
writing (Hex bytes) = HexWord

-- how the fields of a line are written, by its name and their number: all are numbers but for five names
abbrev pub writings : List ℕ → ℕ → List Writing
writings name n =
    cond (bytes_eq name (codes "ext")) (Digits ∷ Digits ∷ FormWord ∷ [])
    (cond (bytes_eq name (codes "new")) (TagWord ∷ Digits ∷ Digits ∷ Digits ∷ [])
    (cond (bytes_eq name (codes "check")) (CheckWord ∷ Digits ∷ Digits ∷ Digits ∷ [])
    (cond (bytes_eq name (codes "area")) (TagWord ∷ Digits ∷ HexWord ∷ [])
    (cond (bytes_eq name (codes "local")) (TagWord ∷ Digits ∷ []) (replicate n Digits)))))

-- its name has bytes above the space alone, and its fields are written as its name says
pub record IsWritten (line : Line) : Type 0 where
  pub name : AllByRecursion (λ byte. 32 < byte) line.name
  pub fields : map writing line.fields ≡ writings line.name (length line.fields)

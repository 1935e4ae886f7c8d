-- What the code of a statement is. It begins at value 0 and keeps no value.
use Rattle.std.specs.Prelude.{ℕ, suc, ◌<◌, ◌^◌, pos, List, [], ◌∷◌, Option, None, Some}
use Rattle.cc_base.specs.declared.number.TypeId.{TypeId}
use Rattle.cc_base.specs.declared.place.Place.{Place}
use Rattle.c_tree.specs.TypedTree as typed
use Rattle.c_tree.specs.TypedTree.{TypedExpr, TypedStatement, TypedBlockItems}
use Rattle.c_tree.specs.TypedParts.{type_of}
use Rattle.src_machine.specs.Statements.{labels, otherwise}
use Rattle.cil_form.specs.declared.number.Temp.{Temp}
use Rattle.cil_form.specs.declared.number.Temp.TheVariants as temp
use Rattle.cil_form.specs.declared.instr.Comparison.TheVariants as comparison
use Rattle.cil_form.specs.declared.instr.Operator.TheVariants as operator
use Rattle.cil_form.specs.declared.instr.Set.TheVariants as set
use Rattle.cil_form.specs.declared.instr.Calculate.TheVariants as calculate
use Rattle.cil_form.specs.declared.instr.Convert.TheVariants as convert
use Rattle.cil_form.specs.declared.instr.Instr.{Instr}
use Rattle.cil_form.specs.declared.instr.Instr.TheVariants as instr
use Rattle.lower_rules.specs.Pieces.{Form, Line, Then, Choice, Blocked, Looped, When}
use Rattle.lower_rules.specs.Words.{Context, value, work, unsigned_long}
use Rattle.lower_rules.specs.Expressions.{IsCodeOf}
use Rattle.lower_rules.specs.Initialisers.{IsCodeOfDeclaration}

-- How a statement is nested: which block `break` leaves, and which `continue` does, counted from the innermost; and how many `switch`
-- statements are around.
pub record Nesting : Type 0 where
  pub breaks : ℕ
  pub continues : ℕ
  pub switches : ℕ

-- inside the block that the body of a loop is
abbrev pub in_loop : Nesting → Nesting
in_loop v = record { breaks = 1; continues = 0; switches = v.switches }

-- inside the block that a `switch` is
abbrev pub in_switch : Nesting → Nesting
in_switch v = record { breaks = 0; continues = suc v.continues; switches = suc v.switches }

-- Loops

-- the code of an expression, where there is one, for what it does
abbrev pub IsCodeOfEffect : Option TypedExpr → Context → Form
IsCodeOfEffect None k = Line []
IsCodeOfEffect (Some e) k = IsCodeOf e k 0

-- the code of a loop's condition, which leaves the loop where it fails
abbrev pub IsCodeOfTest : Option TypedExpr → Context → Form
IsCodeOfTest None k = Line []
IsCodeOfTest (Some e) k = Then (IsCodeOf e k 0) (Choice (value 0) (Line []) (Line (instr.Break 0 ∷ [])))

-- `switch`. Labels are numbered from 1 in the order of the text, and piece j of the block stands behind label j.

-- where the innermost of so many `switch` statements keeps the number of the label at which it begins
abbrev pub label_of : ℕ → Temp
label_of n = temp.Switch n

-- One choice by value 0: the number of the first `case` that has its value. The last label is tried first.
abbrev pub IsCodeOfTests : TypedBlockItems → ℕ → TypeId → Place → Form
IsCodeOfTests typed.NoBlockItem n t at = Line []
IsCodeOfTests (typed.AndStatement all s) n t at = IsCodeOfTests all n t at
IsCodeOfTests (typed.AndDeclaration all d) n t at = IsCodeOfTests all n t at
IsCodeOfTests (typed.AndCase all place e z) n t at =
    Then (Line (instr.Set (set.Integer (value 1) z t)
    ∷ instr.Calculate (calculate.Binary (value 1) (operator.Compare comparison.Equal) (value 1) (value 0) t at) ∷ []))
    (Then (Choice (value 1) (Line (instr.Set (set.Integer (label_of n) (pos (suc (labels all))) unsigned_long) ∷ [])) (Line []))
    (IsCodeOfTests all n t at))
IsCodeOfTests (typed.AndDefault all place) n t at = IsCodeOfTests all n t at

-- whether piece j runs, in value 0: the `switch` begins at its label or at one before
abbrev pub guard_code : ℕ → ℕ → Place → List Instr
guard_code j n at =
    instr.Set (set.Integer (value 0) (pos j) unsigned_long)
    ∷ instr.Calculate (calculate.Binary (value 0) (operator.Compare comparison.LessOrEqual) (label_of n) (value 0) unsigned_long at) ∷ []

-- piece j, which is P
abbrev pub Guarded : ℕ → ℕ → Place → Form → Form
Guarded j n at P = Then (Line (guard_code j n at)) (Choice (value 0) P (Line []))

abbrev mutual
  pub IsCodeOfStatement : TypedStatement → Context → Nesting → Form
  IsCodeOfStatement (typed.Block brace items) k v = IsCodeOfBlock items k v
  IsCodeOfStatement (typed.Express e) k v = IsCodeOf e k 0
  IsCodeOfStatement typed.Empty k v = Line []
  IsCodeOfStatement (typed.If at paren c s) k v = Then (IsCodeOf c k 0) (Choice (value 0) (IsCodeOfStatement s k v) (Line []))
  IsCodeOfStatement (typed.IfElse at paren c s r) k v =
      Then (IsCodeOf c k 0) (Choice (value 0) (IsCodeOfStatement s k v) (IsCodeOfStatement r k v))
  IsCodeOfStatement (typed.Switch at paren e brace items) k v = When (suc (labels items) < 2 ^ 64)
      (Blocked (Then (IsCodeOf e k 0)
      (Then (Line (instr.Convert (convert.Integer work (value 0) (type_of e))
      ∷ instr.Set (set.Integer (label_of v.switches) (pos (otherwise items)) unsigned_long) ∷ []))
      (Then (IsCodeOfTests items v.switches (type_of e) at) (λ code. (closed last : List Instr) × IsCodeOfPieces items k v at closed last
      × Then (Line closed) (Guarded (labels items) v.switches at (Line last)) code)))))
  IsCodeOfStatement (typed.While at paren c s) k v =
      Looped (Then (IsCodeOfTest (Some c) k) (Blocked (IsCodeOfStatement s k (in_loop v))))
  IsCodeOfStatement (typed.DoWhile s at paren c) k v =
      Looped (Then (Blocked (IsCodeOfStatement s k (in_loop v))) (IsCodeOfTest (Some c) k))
  IsCodeOfStatement (typed.For at paren first c step s) k v = Then (IsCodeOfEffect first k)
      (Looped (Then (IsCodeOfTest c k) (Then (Blocked (IsCodeOfStatement s k (in_loop v))) (IsCodeOfEffect step k))))
  IsCodeOfStatement (typed.ForDeclaration at paren d c step s) k v = Then (IsCodeOfDeclaration d k)
      (Looped (Then (IsCodeOfTest c k) (Then (Blocked (IsCodeOfStatement s k (in_loop v))) (IsCodeOfEffect step k))))
  IsCodeOfStatement (typed.Break at) k v = Line (instr.Break v.breaks ∷ [])
  IsCodeOfStatement (typed.Continue at) k v = Line (instr.Break v.continues ∷ [])
  IsCodeOfStatement (typed.Return at None) k v = Line (instr.Return ∷ [])
  IsCodeOfStatement (typed.Return at (Some e)) k v = Then (IsCodeOf e k 0) (Line (instr.ReturnValue (value 0) (type_of e) at ∷ []))

  -- statements and declarations in order; labels make no code
  pub IsCodeOfBlock : TypedBlockItems → Context → Nesting → Form
  IsCodeOfBlock typed.NoBlockItem k v = Line []
  IsCodeOfBlock (typed.AndStatement all s) k v = Then (IsCodeOfBlock all k v) (IsCodeOfStatement s k v)
  IsCodeOfBlock (typed.AndDeclaration all d) k v = Then (IsCodeOfBlock all k v) (IsCodeOfDeclaration d k)
  IsCodeOfBlock (typed.AndCase all at e z) k v = IsCodeOfBlock all k v
  IsCodeOfBlock (typed.AndDefault all at) k v = IsCodeOfBlock all k v

  -- the pieces of a `switch` before the last, each with its guard, and the code of the last
  pub IsCodeOfPieces : TypedBlockItems → Context → Nesting → Place → List Instr → List Instr → Type 0
  IsCodeOfPieces typed.NoBlockItem k v at closed last = Line [] closed × Line [] last
  IsCodeOfPieces (typed.AndStatement all s) k v at closed last = (x : List Instr) × IsCodeOfPieces all k v at closed x
      × Then (Line x) (IsCodeOfStatement s k (in_switch v)) last
  IsCodeOfPieces (typed.AndDeclaration all d) k v at closed last = (x : List Instr) × IsCodeOfPieces all k v at closed x
      × Then (Line x) (IsCodeOfDeclaration d k) last
  IsCodeOfPieces (typed.AndCase all place e z) k v at closed last = (c x : List Instr) × IsCodeOfPieces all k v at c x
      × Then (Line c) (Guarded (labels all) v.switches at (Line x)) closed × Line [] last
  IsCodeOfPieces (typed.AndDefault all place) k v at closed last = (c x : List Instr) × IsCodeOfPieces all k v at c x
      × Then (Line c) (Guarded (labels all) v.switches at (Line x)) closed × Line [] last

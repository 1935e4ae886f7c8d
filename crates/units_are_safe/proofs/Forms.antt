-- Code of a form converts no pointer to an integer: by the pieces that a form is put together from.
use Rattle.std.proofs.Common.{List, [], ◌∷◌, ◌++◌, sym, subst}
use Rattle.cil_form.specs.declared.number.Temp.{Temp}
use Rattle.cil_form.specs.declared.instr.Instr.{Instr, Row_of-Instr, end_of-Instr, more_of-Instr}
use Rattle.cil_form.specs.declared.instr.Instr.TheBlock.{hidden-the_row-Instr-0, items-the_row-Instr, items_hidden-the_row-Instr-0}
use Rattle.cil_form.specs.declared.instr.Code.{Code}
use Rattle.cil_facts.specs.Whole.{RowNumbersNone, CodeNumbersNone}
use Rattle.lower_rules.specs.Pieces.{Form, Line, Then, Choice, Blocked, Looped}

-- all code of the form
abbrev pub Spares : Form → Type 0
Spares P = (c : List Instr) → P c → CodeNumbersNone c

append : (x y : List Instr) → CodeNumbersNone x → CodeNumbersNone y → CodeNumbersNone (x ++ y)
append [] y h g = g
append (i ∷ x) y h g = (h.0, append x y h.1 g)

row-none : {m : _} (r : Row_of-Instr m) → CodeNumbersNone (items-the_row-Instr m r) → RowNumbersNone r
row-none end_of-Instr h = tt
row-none (more_of-Instr i r) h = (h.0, row-none r h.1)

held-none : (x : Code) → CodeNumbersNone x.0.items → RowNumbersNone (hidden-the_row-Instr-0 x.0)
held-none x h = row-none (hidden-the_row-Instr-0 x.0) (subst (λ l. CodeNumbersNone l) (sym (items_hidden-the_row-Instr-0 x.0)) h)

pub line : (is : List Instr) → CodeNumbersNone is → Spares (Line is)
unfolding Line
line is h c d = subst CodeNumbersNone (sym d) h

pub then : (P Q : Form) → Spares P → Spares Q → Spares (Then P Q)
unfolding Then
then P Q p q c d = subst CodeNumbersNone (sym d.4) (append d.0 d.1 (p d.0 d.2) (q d.1 d.3))

pub choice : (t : Temp) (P Q : Form) → Spares P → Spares Q → Spares (Choice t P Q)
unfolding Choice
choice t P Q p q c d =
    subst CodeNumbersNone (sym d.4) ((held-none d.0 (p d.0.0.items d.2), held-none d.1 (q d.1.0.items d.3)), tt)

pub block : (P : Form) → Spares P → Spares (Blocked P)
unfolding Blocked
block P p c d = subst CodeNumbersNone (sym d.2) (held-none d.0 (p d.0.0.items d.1), tt)

pub loop : (P : Form) → Spares P → Spares (Looped P)
unfolding Looped
loop P p c d = subst CodeNumbersNone (sym d.2) (held-none d.0 (p d.0.0.items d.1), tt)

pub two : (P Q R : Form) → Spares P → Spares Q → Spares R → Spares (Then P (Then Q R))
two P Q R p q r = then P (Then Q R) p (then Q R q r)

pub sides : (t : Temp) (P Q R : Form) → Spares P → Spares Q → Spares R → Spares (Then P (Choice t Q R))
sides t P Q R p q r = then P (Choice t Q R) p (choice t Q R q r)

use Rattle.std.specs.Prelude.{ℕ, Bool, true, false, List, [], ◌∷◌, ◌++◌, Option, None, Some, IsSome, codes, slice_index_or, All, ◌⊎◌, ◌≡◌, ◌<◌}
use Rattle.std.specs.List.{flat_map, count_by}
use Rattle.cc_base.specs.Kinds.{kind_at, same_kind}
use Rattle.cc_base.specs.Names.{kind_name}
use Rattle.cc_base.specs.Places.{place_text}
use Rattle.cc_base.specs.declared.kind.Kind.{Kind}
use Rattle.cc_base.specs.declared.kind.Kind.TheVariants.{Safe, Seq, Rtti, Wild}
use Rattle.cc_base.specs.declared.number.NodeId.{NodeId}
use Rattle.c_tree.specs.declared.typed_unit.Printed.{Printed}
use Rattle.kind_solver.specs.declared.cause.Cause.{Cause}
use Rattle.kind_solver.specs.Names.{why_name}

-- What `kinds` writes of a program: a line for each pointer type of its text, and one for each variable whose home is WILD.

-- where the kind comes from, and why
abbrev pub cause_text : Option Cause → List ℕ
cause_text None = []
cause_text (Some c) = codes " from " ++ place_text c.site ++ codes " " ++ why_name c.why

-- a kind; if it isn't SAFE, with its cause
abbrev pub kind_text : Kind → Option Cause → List ℕ
kind_text Safe cause = kind_name Safe
kind_text Seq cause = kind_name Seq ++ cause_text cause
kind_text Rtti cause = kind_name Rtti ++ cause_text cause
kind_text Wild cause = kind_name Wild ++ cause_text cause

abbrev pub line_text : Printed → List ℕ → Kind → Option Cause → List ℕ
line_text p what kind cause = place_text p.place ++ what ++ kind_text kind cause ++ 10 ∷ []

-- of a home, a line where it is WILD
abbrev pub home_line : Printed → Kind → Option Cause → List ℕ
home_line p Wild cause = line_text p (codes " home ") Wild cause
home_line p Safe cause = []
home_line p Seq cause = []
home_line p Rtti cause = []

abbrev pub line_by : Bool → Printed → Kind → Option Cause → List ℕ
line_by true p kind cause = home_line p kind cause
line_by false p kind cause = line_text p (codes " pointer ") kind cause

abbrev pub cause_at : List (Option Cause) → NodeId → Option Cause
cause_at causes node = slice_index_or causes node.0 None

abbrev pub line_of : List Kind → List (Option Cause) → Printed → List ℕ
line_of kinds causes p = line_by p.home p (kind_at kinds p.node) (cause_at causes p.node)

-- the whole text
abbrev pub report_of : List Kind → List (Option Cause) → List Printed → List ℕ
report_of kinds causes printed = flat_map (line_of kinds causes) printed

-- each node is one of the program's
abbrev pub AreWithin : ℕ → List Printed → Type 0
AreWithin count printed = All (λ p. p.node.0 < count) printed

-- each node that isn't SAFE has a cause
abbrev pub HaveCauses : List Kind → List (Option Cause) → List Printed → Type 0
HaveCauses kinds causes printed = All (λ p. (kind_at kinds p.node ≡ Safe) ⊎ IsSome (cause_at causes p.node)) printed

abbrev pub pointer_by : Bool → Bool → Bool
pointer_by true same = false
pointer_by false same = same

abbrev pub is_pointer_of : List Kind → Kind → Printed → Bool
is_pointer_of kinds kind p = pointer_by p.home (same_kind kind (kind_at kinds p.node))

-- how many pointer types of the text are of a kind
abbrev pub pointers_of : List Kind → Kind → List Printed → ℕ
pointers_of kinds kind printed = count_by (is_pointer_of kinds kind) printed

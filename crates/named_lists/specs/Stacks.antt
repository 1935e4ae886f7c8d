-- Stacks: what a name stands for in one place, and in those inside it. The last is on top.
use Rattle.std.specs.Prelude.{◌≡◌, ◌-◌, List, [], ◌∷◌, ◌++◌, length, take, map, Option, slice_get, slice_set, bytes_eq, if◌then◌else◌}
use Rattle.std.specs.Option.{option_to_list}
use Rattle.named_lists.specs.Entries.{Name, entry_of}

-- what the stack of a name holds; the stack of a name that has none is empty
abbrev pub stack_of : {A : Type 0} → List (Name × List A) → Name → List A
stack_of [] name = []
stack_of (e ∷ es) name = if bytes_eq name e.0 then e.1 else stack_of es name

abbrev pub top_of : {A : Type 0} → List A → Option A
top_of stack = slice_get stack (length stack - 1)

abbrev pub without_top : {A : Type 0} → List A → List A
without_top stack = take (length stack - 1) stack

abbrev pub with_top : {A : Type 0} → A → List A → List A
with_top what stack = slice_set stack (length stack - 1) what

-- the stack of the name is changed by f, and those of the other names stay as they were
abbrev pub ChangesStack : {A : Type 0} → Name → (List A → List A) → List (Name × List A) → List (Name × List A) → Type 0
ChangesStack name f old new = (n : Name) → stack_of new n ≡ (if bytes_eq n name then f (stack_of old n) else stack_of old n)

-- all stacks hold the same
abbrev pub HaveSameStacks : {A : Type 0} → List (Name × List A) → List (Name × List A) → Type 0
HaveSameStacks old new = (n : Name) → stack_of new n ≡ stack_of old n

-- what stands beside a name in each of these lists, as far as it does
abbrev pub entries_of : {A : Type 0} → List (List (Name × A)) → Name → List A
entries_of [] name = []
entries_of (es ∷ later) name = option_to_list (entry_of es name) ++ entries_of later name

-- the stack of each name holds what stands beside it in these lists
abbrev pub AreStacksOf : {A : Type 0} → List (List (Name × A)) → List (Name × List A) → Type 0
AreStacksOf lists stacks = (n : Name) → stack_of stacks n ≡ entries_of lists n

-- whatever lists the stacks were of, they are now of one list more behind them
abbrev pub GetsList : {A : Type 0} → List (Name × A) → List (Name × List A) → List (Name × List A) → Type 0
GetsList {A} es old new = (outer : List (List (Name × A))) → AreStacksOf outer old → AreStacksOf (outer ++ es ∷ []) new

-- or of those before this one
abbrev pub LosesList : {A : Type 0} → List (Name × A) → List (Name × List A) → List (Name × List A) → Type 0
LosesList {A} es old new = (outer : List (List (Name × A))) → AreStacksOf (outer ++ es ∷ []) old → AreStacksOf outer new

-- or of the same
abbrev pub KeepsLists : {A : Type 0} → List (Name × List A) → List (Name × List A) → Type 0
KeepsLists {A} old new = (outer : List (List (Name × A))) → AreStacksOf outer old → AreStacksOf outer new

-- the stacks of a map whose keys hold names
abbrev pub seen_stacks : {K V A : Type 0} → (K → Name) → (V → List A) → List (K × V) → List (Name × List A)
seen_stacks bytes items es = map (λ e. (bytes e.0, items e.1)) es

-- a stack on which each of these is put that stands beside its name
abbrev pub with_each : {A : Type 0} → Name → List (Name × A) → List A → List A
with_each n [] stack = stack
with_each n (e ∷ es) stack = with_each n es (if bytes_eq n e.0 then stack ++ e.1 ∷ [] else stack)

-- a stack without as many of the last as its name stands among these
abbrev pub without_each : {A : Type 0} → Name → List (Name × A) → List A → List A
without_each n [] stack = stack
without_each n (e ∷ es) stack = without_each n es (if bytes_eq n e.0 then without_top stack else stack)

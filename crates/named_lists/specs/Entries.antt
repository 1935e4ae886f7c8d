-- Entries: what stands beside names in a list, the first of a name only.
use Rattle.std.specs.Prelude.{ℕ, List, [], ◌∷◌, map, Option, None, Some, bytes_eq, if◌then◌else◌}

abbrev pub Name : Type 0
Name = List ℕ

-- what stands beside a name in a list
abbrev pub entry_of : {A : Type 0} → List (Name × A) → Name → Option A
entry_of [] name = None
entry_of (e ∷ es) name = if bytes_eq name e.0 then Some e.1 else entry_of es name

-- the entries with this beside the name: where the name stands among them, else at their end
abbrev pub with_entry : {A : Type 0} → Name → A → List (Name × A) → List (Name × A)
with_entry name what [] = (name, what) ∷ []
with_entry name what (e ∷ es) = if bytes_eq name e.0 then (e.0, what) ∷ es else e ∷ with_entry name what es

-- the entries of a map whose keys hold names
abbrev pub seen_entries : {K A : Type 0} → (K → Name) → List (K × A) → List (Name × A)
seen_entries bytes es = map (λ e. (bytes e.0, e.1)) es

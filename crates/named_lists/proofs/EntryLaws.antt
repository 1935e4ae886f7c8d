-- Laws on entries, and on what is seen of the maps that keep them.
use Rattle.std.proofs.Common.{◌≡◌, Bool, true, false, cond, List, [], ◌∷◌, ◌++◌, Option, Some, None, refl, ap, sym, ◌∙◌, bytes_eq, if◌then◌else◌}
use Rattle.std.specs.List.{All}
use Rattle.std.specs.Map.{lookup}
use Rattle.std.proofs.lemmas.Option.{none-some}
use Rattle.std.proofs.lemmas.List.Elements.{All-cons, All-head, All-tail}
use Rattle.indexmap.specs.IndexMap.{insert_entry}
use Rattle.named_lists.specs.Entries.{Name, entry_of, with_entry, seen_entries}

-- an empty map has no entry
pub none-seen : {K A : Type 0} (bytes : K → Name) (name : Name) (es : List (K × A)) → es ≡ [] → None ≡ entry_of (seen_entries bytes es) name
none-seen bytes name es e = rw e refl

-- what is found in a map is the entry of the name
pub lookup-seen : {K A : Type 0} (bytes : K → Name) (test : K → Bool) (name : Name) → ((k : K) → test k ≡ bytes_eq name (bytes k))
    → (es : List (K × A)) → lookup test es ≡ entry_of (seen_entries bytes es) name
lookup-seen bytes test name same [] = refl
lookup-seen bytes test name same (e ∷ es) =
    ap (λ b. cond b (Some e.1) (lookup test es)) (same e.0)
    ∙ ap (λ r. cond (bytes_eq name (bytes e.0)) (Some e.1) r) (lookup-seen bytes test name same es)

inserted : {K A : Type 0} (bytes : K → Name) (e : K × A) (v : A) (es changed : List (K × A)) (rest : List (Name × A)) (b : Bool)
    → seen_entries bytes changed ≡ rest
    → seen_entries bytes (cond b ((e.0, v) ∷ es) (e ∷ changed)) ≡ cond b ((bytes e.0, v) ∷ seen_entries bytes es) ((bytes e.0, e.1) ∷ rest)
inserted bytes e v es changed rest true step = refl
inserted bytes e v es changed rest false step = ap (λ r. (bytes e.0, e.1) ∷ r) step

-- what is put into a map stands beside its name
pub insert-seen : {K A : Type 0} (bytes : K → Name) (eq : K → K → Bool) (k : K) (v : A) → ((x : K) → eq k x ≡ bytes_eq (bytes k) (bytes x))
    → (es : List (K × A)) → seen_entries bytes (insert_entry eq es k v) ≡ with_entry (bytes k) v (seen_entries bytes es)
insert-seen bytes eq k v same [] = refl
insert-seen bytes eq k v same (e ∷ es) =
    ap (λ b. seen_entries bytes (cond b ((e.0, v) ∷ es) (e ∷ insert_entry eq es k v))) (same e.0)
    ∙ inserted bytes e v es (insert_entry eq es k v) (with_entry (bytes k) v (seen_entries bytes es)) (bytes_eq (bytes k) (bytes e.0)) (insert-seen bytes eq k v same es)

entry_last : {A : Type 0} (name : Name) (what : A) (e : Name × A) (es rest : List (Name × A)) (o : Option A) (b : Bool) → cond b (Some e.1) o ≡ None
    → (o ≡ None → rest ≡ es ++ (name, what) ∷ []) → cond b ((e.0, what) ∷ es) (e ∷ rest) ≡ (e ∷ es) ++ (name, what) ∷ []
entry_last name what e es rest o true h step = absurd (none-some e.1 (sym h))
entry_last name what e es rest o false h step = ap (λ r. e ∷ r) (step h)

-- a name that is not there is put at the end
pub entry-last : {A : Type 0} (name : Name) (what : A) (es : List (Name × A)) → entry_of es name ≡ None → with_entry name what es ≡ es ++ (name, what) ∷ []
entry-last name what [] h = refl
entry-last name what (e ∷ es) h =
    entry_last name what e es (with_entry name what es) (entry_of es name) (bytes_eq name e.0) h (λ g. entry-last name what es g)

-- what holds of all entries, where one is put among them
pub entries-with : {A : Type 0} (P : Name → A → Type 0) (name : Name) (what : A) (es : List (Name × A)) → ((n : Name) → P n what)
    → All (λ (e : Name × A). P e.0 e.1) es → All (λ (e : Name × A). P e.0 e.1) (with_entry name what es)
entries-with {A} P name what [] p h = All-cons (λ (d : Name × A). P d.0 d.1) (name, what) [] (p name) h
entries-with {A} P name what (e ∷ es) p h =
    by (bytes_eq name e.0) (All-tail (λ (d : Name × A). P d.0 d.1) e es h) (λ t. entries-with P name what es p t)
  where
    by : (b : Bool) → All (λ (d : Name × A). P d.0 d.1) es
        → (All (λ (d : Name × A). P d.0 d.1) es → All (λ (d : Name × A). P d.0 d.1) (with_entry name what es))
        → All (λ (d : Name × A). P d.0 d.1) (if b then (e.0, what) ∷ es else e ∷ with_entry name what es)
    by true t more = All-cons (λ (d : Name × A). P d.0 d.1) (e.0, what) es (p e.0) t
    by false t more = All-cons (λ (d : Name × A). P d.0 d.1) e (with_entry name what es) (All-head (λ (d : Name × A). P d.0 d.1) e es h) (more t)

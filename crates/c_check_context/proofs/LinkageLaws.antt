-- What is seen of the maps and sets that keep names with linkage.
use Rattle.std.proofs.Common.{◌≡◌, Bool, true, false, cond, ◌||◌, List, [], ◌∷◌, ◌++◌, map, None, refl, ap, sym, ◌∙◌, bytes_eq, subst}
use Rattle.std.specs.List.{list_any}
use Rattle.indexmap.specs.IndexMap.{insert_entry}
use Rattle.indexmap.specs.IndexSet.{insert_key}
use Rattle.c_typing.specs.declared.declared.Declared.{Declared}
use Rattle.c_typing.specs.Scopes.{Name, entry_of, seen_entries, with_entry}
use Rattle.named_lists.proofs.EntryLaws.{insert-seen, entry-last}
use Rattle.c_unit_typing.specs.Linkage.{with_name}

-- a map of names with one more
pub declarations-added : {K : Type 0} (bytes : K → Name) (eq : K → K → Bool) → ((k x : K) → eq k x ≡ bytes_eq (bytes k) (bytes x))
    → (es changed : List (K × Declared)) (k : K) (name : Name) (what : Declared) (l : List (Name × Declared))
    → seen_entries bytes es ≡ l → bytes k ≡ name → changed ≡ insert_entry eq es k what → entry_of l name ≡ None
    → seen_entries bytes changed ≡ l ++ (name, what) ∷ []
declarations-added bytes eq same es changed k name what l seen named made =
    let P : List (Name × Declared) → Type 0 = λ m. entry_of m name ≡ None → seen_entries bytes changed ≡ m ++ (name, what) ∷ [] in
    subst P seen (λ none. ap (seen_entries bytes) made
    ∙ insert-seen bytes eq k what (same k) es
    ∙ ap (λ n. with_entry n what (seen_entries bytes es)) named
    ∙ entry-last name what (seen_entries bytes es) none)

pub any-map : {A B : Type 0} (f : A → B) (p : B → Bool) (xs : List A) → list_any p (map f xs) ≡ list_any (λ x. p (f x)) xs
any-map f p [] = refl
any-map f p (x ∷ xs) = ap (λ b. p (f x) || b) (any-map f p xs)

any-same : {A : Type 0} (p q : A → Bool) → ((x : A) → p x ≡ q x) → (xs : List A) → list_any p xs ≡ list_any q xs
any-same p q same [] = refl
any-same p q same (x ∷ xs) = ap (λ b. b || list_any p xs) (same x) ∙ ap (λ b. q x || b) (any-same p q same xs)

map-push : {A B : Type 0} (f : A → B) (xs : List A) (x : A) → map f (xs ++ x ∷ []) ≡ map f xs ++ f x ∷ []
map-push f [] x = refl
map-push f (y ∷ ys) x = ap (λ r. f y ∷ r) (map-push f ys x)

map-unless : {A B : Type 0} (f : A → B) (xs : List A) (x : A) (b : Bool) → map f (cond b xs (xs ++ x ∷ [])) ≡ cond b (map f xs) (map f xs ++ f x ∷ [])
map-unless f xs x true = refl
map-unless f xs x false = map-push f xs x

-- a set of names with one that may be new
pub names-added : {K : Type 0} (bytes : K → Name) (eq : K → K → Bool) → ((k x : K) → eq k x ≡ bytes_eq (bytes k) (bytes x))
    → (ks changed : List K) (k : K) (name : Name) (l : List Name)
    → map bytes ks ≡ l → bytes k ≡ name → changed ≡ insert_key eq ks k → map bytes changed ≡ with_name name l
names-added bytes eq same ks changed k name l seen named made =
    let P : List Name → Type 0 = λ m. map bytes changed ≡ with_name name m in
    subst P seen (ap (map bytes) made ∙ map-unless bytes ks k (list_any (eq k) ks)
    ∙ ap (λ b. cond b (map bytes ks) (map bytes ks ++ bytes k ∷ []))
    (any-same (eq k) (λ x. bytes_eq (bytes k) (bytes x)) (same k) ks ∙ sym (any-map bytes (bytes_eq (bytes k)) ks))
    ∙ ap (λ n. with_name n (map bytes ks)) named)

-- a set with a new key
pub value-added : {K : Type 0} (eq : K → K → Bool) (ks changed l : List K) (k : K)
    → ks ≡ l → changed ≡ insert_key eq ks k → list_any (eq k) l ≡ false → changed ≡ l ++ k ∷ []
value-added eq ks changed l k seen made new = made ∙ ap (λ m. insert_key eq m k) seen ∙ ap (λ b. cond b l (l ++ k ∷ [])) new

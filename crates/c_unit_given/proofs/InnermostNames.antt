-- Names that the innermost scope doesn't have.
use Rattle.std.proofs.Common.{◌≡◌, Bool, true, false, List, [], ◌∷◌, ◌++◌, Option, Some, None, refl, sym, bytes_eq, if◌then◌else◌}
use Rattle.std.proofs.lemmas.Option.{none-some}
use Rattle.c_typing.specs.declared.declared.Declared.{Declared}
use Rattle.c_typing.specs.Scopes.{Name, Level, at_innermost, entry_of, here}

-- Entries

neither : {A : Type 0} (b : Bool) (x : A) (o : Option A) → (if b then Some x else o) ≡ None → (b ≡ false) × (o ≡ None)
neither true x o h = absurd (none-some x (sym h))
neither false x o h = (refl, h)

none_of : {A : Type 0} (b : Bool) (x : A) (o : Option A) → b ≡ false → o ≡ None → (if b then Some x else o) ≡ None
none_of b x o h k = rw h k

pub entry-before : (es : List (Name × Declared)) (k name : Name) (v : Declared) → entry_of (es ++ (k, v) ∷ []) name ≡ None → (entry_of es name ≡ None) × (bytes_eq name k ≡ false)
entry-before [] k name v h = (refl, (neither (bytes_eq name k) v None h).0)
entry-before (e ∷ es) k name v h =
    let first = neither (bytes_eq name e.0) e.1 (entry_of (es ++ (k, v) ∷ []) name) h in
    let rest = entry-before es k name v first.1 in
    (none_of (bytes_eq name e.0) e.1 (entry_of es name) first.0 rest.0, rest.1)

-- Scopes

pub here-before : (f : Level → Level) (name : Name) → ((l : Level) → entry_of (f l).names name ≡ None → entry_of l.names name ≡ None) → (ls : List Level) → here (at_innermost f ls) name ≡ None → here ls name ≡ None
here-before f name fresh [] h = h
here-before f name fresh (l ∷ []) h = fresh l h
here-before f name fresh (l ∷ (m ∷ [])) h = fresh m h
here-before f name fresh (l ∷ (m ∷ (n ∷ ls))) h = here-before f name fresh (m ∷ (n ∷ ls)) h

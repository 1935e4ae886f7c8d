-- A tag that is not seen is not declared in the innermost scope.
use Rattle.std.proofs.Common.{◌≡◌, refl, sym, List, [], ◌∷◌, Option, None, Some}
use Rattle.std.proofs.lemmas.Option.{none-some}
use Rattle.c_typing.specs.Scopes.{Name, Level, tag_in, tag_here, entry_of, or_outer}

-- the outer one is not there either, where the whole is not
pub none_first : {A : Type 0} (x y : Option A) → or_outer x y ≡ None → x ≡ None
none_first None y p = refl
none_first (Some a) y p = p

pub none_second : {A : Type 0} (x y : Option A) → or_outer x y ≡ None → y ≡ None
none_second None y p = p
none_second (Some a) y p = absurd (none-some a (sym p))

pub not_here : (levels : List Level) (name : Name) → tag_in levels name ≡ None → tag_here levels name ≡ None
not_here [] name p = refl
not_here (l ∷ []) name p = none_second None (entry_of l.tags name) p
not_here (l ∷ (m ∷ ls)) name p = not_here (m ∷ ls) name (none_first (tag_in (m ∷ ls) name) (entry_of l.tags name) p)

-- The runtime function with a name is the one that is found by it.
use Rattle.std.proofs.Common.{◌≡◌, ℕ, List, Option, Some, None, MatchOption, ap, refl}
use Rattle.c_tree.specs.declared.typed_word.Runtime.{Runtime}
use Rattle.c_tree.specs.declared.typed_word.Runtime.TheVariants.{Malloc, Calloc, Free, Getchar, Putchar, Exit}
use Rattle.runtime_calls.specs.Prototypes.{runtime_of, IsNamed, IsNoName}
use Rattle.runtime_calls.proofs.Found.{runtime_of-exact}

no_other : (name : List ℕ) (o : Option Runtime) → IsNoName name → MatchOption o (IsNoName name) (IsNamed name) → None ≡ o
no_other name None n m = refl
no_other name (Some r) n m = absurd (n r m)

pub none_named : (name : List ℕ) → IsNoName name → None ≡ runtime_of name
none_named name n = no_other name (runtime_of name) n (runtime_of-exact name)

-- the names differ
pub one_named : (name : List ℕ) (r : Runtime) → IsNamed name r → Some r ≡ runtime_of name
one_named name Malloc e = ap runtime_of e
one_named name Calloc e = ap runtime_of e
one_named name Free e = ap runtime_of e
one_named name Getchar e = ap runtime_of e
one_named name Putchar e = ap runtime_of e
one_named name Exit e = ap runtime_of e

-- what the search by a name finds
pub found_named : (name : List ℕ) (o : Option Runtime) → MatchOption o (IsNoName name) (IsNamed name) → o ≡ runtime_of name
found_named name None n = none_named name n
found_named name (Some r) e = one_named name r e

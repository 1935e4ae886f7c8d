-- A unit of fewer than 2^29 tokens that is within its limits makes no more things than 32 bits count.
use Rattle.std.proofs.Common.{◌≡◌, ◌≤◌, ◌+◌, ◌*◌, ℕ, List, [], ◌∷◌, length, map, arith}
use Rattle.std.proofs.lemmas.List.Sums.{sum_by-cons}
use Rattle.std.specs.Prelude.{sum}
use Rattle.c_types.specs.Layouts.{size_of}
use Rattle.c_types.specs.Table.{Table}
use Rattle.c_tree.specs.Erasure.{erased_unit}
use Rattle.c_tree.specs.TypedParts.{MadeObject, statics_of}
use Rattle.c_tree.specs.TypedTree.{TypedTranslationUnit}
use Rattle.c_tree_sizes.proofs.PaidUnits.{few-things}
use Rattle.c_unit_typing.specs.Limits.{IsWithinLimits}
use Rattle.c_unit_given.proofs.Countable.{IsCountable}
use Rattle.c_unit_given.specs.Tokens.{HasFewTokens}

abbrev bytes : Table → MadeObject → ℕ
bytes T o = size_of T o.type + 16

-- each object that lasts counts 16 bytes at least
sixteen : (T : Table) (os : List MadeObject) → length os * 16 ≤ sum (map (bytes T) os)
sixteen T [] = omega arith
sixteen T (o ∷ os) =
    let h = sixteen T os in
    let added : sum (bytes T o ∷ map (bytes T) os) ≡ bytes T o + sum (map (bytes T) os) = sum_by-cons (λ (k : ℕ). k) (bytes T o) (map (bytes T) os) in
    omega (arith, h, added)

pub tokens-countable : (T : Table) (whole : TypedTranslationUnit) → IsWithinLimits T whole → HasFewTokens (erased_unit whole) → IsCountable whole
tokens-countable T whole limits few =
    few-things whole few (let g = limits.globals in let h = sixteen T (statics_of whole) in omega (arith, g, h))

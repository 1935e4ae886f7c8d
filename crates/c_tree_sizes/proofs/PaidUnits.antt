-- A unit makes at most two things for each of its tokens, and two more for each object that lives as long as the program.
use Rattle.std.proofs.Common.{◌≤◌, ◌<◌, ◌+◌, List, [], ◌∷◌, length, arith, length-append}
use Rattle.std.specs.Prelude.{flat_map}
use Rattle.c_tree.specs.Erasure.{erased_unit}
use Rattle.c_tree.specs.Spelling.{unit_spelling}
use Rattle.c_tree.specs.TypedParts.{Made, made_by_unit, static_made, statics_of}
use Rattle.c_tree.specs.TypedParts as made
use Rattle.c_tree.specs.TypedTree as typed
use Rattle.c_tree.specs.TypedTree.{TypedTranslationUnit}
use Rattle.c_tree_sizes.proofs.PaidStatements.{declaration-paid, block_items-paid}
use Rattle.c_tree_sizes.proofs.PaidTrees.{specifiers-paid, declarator-paid}
use Rattle.c_tree_sizes.proofs.Paying.{spare, total, IsPaid, nothing, then, four, more, followed}

unit-paid : (u : TypedTranslationUnit) → IsPaid 0 (made_by_unit u) (unit_spelling (erased_unit u))
unit-paid typed.NoExternal = nothing
unit-paid (typed.AndExternal u d) = then (unit-paid u) (declaration-paid d)
unit-paid (typed.AndFunctionBody u specifiers d brace items) =
    four (unit-paid u) (specifiers-paid specifiers) (declarator-paid d) (more (followed _ (block_items-paid items)))

-- a literal is an object that lives as long as the program
spare-static : (m : Made) → spare m ≤ length (static_made m) + length (static_made m)
spare-static (made.Written place n) = omega arith
spare-static (made.Name name home t) = omega arith
spare-static (made.Literal [] home t) = omega arith
spare-static (made.Literal (p ∷ pieces) home t) = omega arith
spare-static (made.Address n) = omega arith
spare-static (made.Copy t) = omega arith

total-statics : (all : List Made) → total all ≤ length (flat_map static_made all) + length (flat_map static_made all)
total-statics [] = omega arith
total-statics (m ∷ all) =
    let h = total-statics all in
    let k = spare-static m in
    omega (arith, h, k, length-append (static_made m) (flat_map static_made all))

pub two-for-a-token : (u : TypedTranslationUnit)
    → length (made_by_unit u)
    ≤ length (unit_spelling (erased_unit u)) + length (unit_spelling (erased_unit u)) + (length (statics_of u) + length (statics_of u))
two-for-a-token u =
    let h = (unit-paid u).enough in
    let k = total-statics (made_by_unit u) in
    omega (arith, h, k)

-- so 32 bits count what a unit of fewer than 2 ^ 29 tokens and at most 2 ^ 18 such objects makes
pub few-things : (u : TypedTranslationUnit) → length (unit_spelling (erased_unit u)) < 536870912 → length (statics_of u) ≤ 262144
    → length (made_by_unit u) ≤ 4294967295
few-things u tokens statics = let h = two-for-a-token u in omega (arith, h, tokens, statics)

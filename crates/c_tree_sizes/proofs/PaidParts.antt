-- What an expression, a place, specifiers or a declarator makes is at most two things for each of its tokens, where each literal has a piece.
use Rattle.std.proofs.Common.{◌≡◌, ◌≤◌, ◌+◌, ℕ, List, [], ◌∷◌, length, arith}
use Rattle.std.specs.List.{All}
use Rattle.std.proofs.lemmas.List.Elements.{All-head, All-tail}
use Rattle.c_tree.specs.Erasure.{erased, erased_place, erased_specifiers, erased_declarator}
use Rattle.c_tree.specs.Spelling.{expr_spelling, specifiers_spelling, declarator_spelling}
use Rattle.c_tree.specs.Symbols.{Symbol}
use Rattle.c_tree.specs.TypedParts.{Made, made_by, made_by_place, made_by_specifiers, made_by_declarator}
use Rattle.c_tree.specs.TypedParts as made
use Rattle.c_tree.specs.TypedTree.{TypedExpr, TypedPlace, TypedSpecifiers, TypedDeclarator}
use Rattle.c_tree_sizes.specs.Pieces.{HasPieces}
use Rattle.c_tree_sizes.proofs.PaidTrees.{expr-paid, place-paid, specifiers-paid, declarator-paid}
use Rattle.c_tree_sizes.proofs.Paying.{spare, total, IsPaid}

no-spare : (m : Made) → HasPieces m → spare m ≡ 0
no-spare (made.Written place n) h = omega arith
no-spare (made.Name name home t) h = omega arith
no-spare (made.Literal [] home t) h = omega (arith, h)
no-spare (made.Literal (p ∷ pieces) home t) h = omega arith
no-spare (made.Address n) h = omega arith
no-spare (made.Copy t) h = omega arith

-- with a piece in each literal, the tokens pay for all
no-total : (all : List Made) → All HasPieces all → total all ≡ 0
no-total [] h = omega arith
no-total (m ∷ all) h =
    let a = no-spare m (All-head HasPieces m all h) in
    let b = no-total all (All-tail HasPieces m all h) in
    omega (arith, a, b)

two-each : {k : ℕ} {all : List Made} {ts : List Symbol} → IsPaid k all ts → All HasPieces all → length all ≤ length ts + length ts
two-each {k} {all} {ts} p h = let a = p.enough in let b = no-total all h in omega (arith, a, b)

pub expression-two : (e : TypedExpr) → All HasPieces (made_by e)
    → length (made_by e) ≤ length (expr_spelling (erased e)) + length (expr_spelling (erased e))
expression-two e h = two-each (expr-paid e) h

pub place-two : (p : TypedPlace) → All HasPieces (made_by_place p)
    → length (made_by_place p) ≤ length (expr_spelling (erased_place p)) + length (expr_spelling (erased_place p))
place-two p h = two-each (place-paid p) h

pub specifiers-two : (x : TypedSpecifiers) → All HasPieces (made_by_specifiers x)
    → length (made_by_specifiers x) ≤ length (specifiers_spelling (erased_specifiers x)) + length (specifiers_spelling (erased_specifiers x))
specifiers-two x h = two-each (specifiers-paid x) h

pub declarator-two : (d : TypedDeclarator) → All HasPieces (made_by_declarator d)
    → length (made_by_declarator d) ≤ length (declarator_spelling (erased_declarator d)) + length (declarator_spelling (erased_declarator d))
declarator-two d h = two-each (declarator-paid d) h

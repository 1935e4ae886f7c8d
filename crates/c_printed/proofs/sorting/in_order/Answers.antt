use Rattle.std.proofs.Common.{◌≡◌, rules}
use Rattle.std.proofs.lemmas.Fn.{always_returns_same}
use Rattle.c_printed.proofs.Laws.{in_order_of_sorted}
use Rattle.c_printed.proofs.sorting.in_order.Goals as goal

pub returns-clause-sorted : goal.returns-clause-sorted
returns-clause-sorted c =
    in_order_of_sorted _ (c.in_ok-sort_by_key.ensures.sorted (λ p. p.place) (always_returns_same _ (λ a r. r ≡ a.0.now.place) _ (λ a r q k. search rules)))

use Rattle.std.proofs.Common.{◌≡◌, ◌*◌, ℕ, List, length, ap, subst, inl, inr, arith}
use Rattle.std.proofs.lemmas.Result.{on_ok_weaker}
use Rattle.phys_types.specs.declared.spot.Spot.{Spot}
use Rattle.phys_types.specs.Found.{Gains}
use Rattle.phys_types.specs.InTurn.{IsInTurn}
use Rattle.phys_types.specs.Standing.{StandBefore}
use Rattle.phys_types.proofs.InCopies.{none_alike, turns_alike, turn_of}
use Rattle.phys_types.proofs.alike.add_copies.Goals as goal
use Rattle.phys_types.proofs.alike.add_copies.Goals.{then-k-eq0-via-then-k-eq0, then-k-eq0-via-else-k-eq0+then-l-eq0}

pub returns-then-k-eq0 : goal.returns-then-k-eq0
returns-then-k-eq0 c =
    let x = c.args.x.now in
    let y = c.args.y.now in
    none_alike x.count x.part.size x.part.spots.items y.count y.part.size y.part.spots.items c.args.found.now
    (elim c.then-k-eq0.branch [
      | then-k-eq0-via-then-k-eq0 w ↦ inl (omega arith)
      | then-k-eq0-via-else-k-eq0+then-l-eq0 w ↦ inr (omega arith)
    ])

pub returns : goal.returns
returns c =
    let x = c.args.x.now in
    let y = c.args.y.now in
    let k : c.len-k.result ≡ length x.part.spots.items = omega arith in
    let l : c.len-l.result ≡ length y.part.spots.items = omega arith in
    let n : ℕ = c.turns-count.result in
    on_ok_weaker c.add_turns.result
    (λ z. turns_alike x.count x.part.size x.part.spots.items y.count y.part.size y.part.spots.items n (x.count * c.len-k.result) (y.count * c.len-l.result)
    c.args.found.now c.add_turns.new.found (ap (λ (m : ℕ). x.count * m) k) (ap (λ (m : ℕ). y.count * m) l)
    c.turns-count.ensures.within_first c.turns-count.ensures.within_second (turn_of x.count x.part.size x.part.spots.items y.count y.part.size y.part.spots.items n c.len-k.result c.len-l.result
    (x.count * c.len-k.result) (y.count * c.len-l.result) k l c.turns-count.ensures.all)
    (subst (λ (ss : List Spot). Gains (StandBefore n (IsInTurn ss) (IsInTurn y.part.spots.items)) c.args.found.now c.add_turns.new.found) c.deref.ensures.value
    (subst (λ (ss : List Spot). Gains (StandBefore n (IsInTurn c.deref.result.now) (IsInTurn ss)) c.args.found.now c.add_turns.new.found) c.deref-2.ensures.value z)))
    c.add_turns.ensures

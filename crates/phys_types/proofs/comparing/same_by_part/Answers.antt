use Rattle.std.proofs.Common.{◌≡◌, List, true, sym, subst, ◌∙◌, arith}
use Rattle.phys_types.specs.declared.spot.Spot.{Spot}
use Rattle.phys_types.specs.Numbers.{number_in, same_spots}
use Rattle.phys_types.proofs.BeginsByPart.{same_by_part}
use Rattle.phys_types.proofs.comparing.same_by_part.Goals as goal

pub returns : goal.returns
returns c = λ h.
    let number = number_in c.args.numbers.now in
    same_by_part number c.args.x.now c.args.y.now (omega arith) (omega arith)
    (subst (λ (ss : List Spot). same_spots number ss c.args.y.now.part.spots.items ≡ true) c.deref.ensures.value
    (subst (λ (ss : List Spot). same_spots number c.deref.result.now ss ≡ true) c.deref-2.ensures.value (sym c.same_spots.ensures ∙ h)))

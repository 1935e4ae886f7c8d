use Rattle.std.proofs.Common.{◌*◌, ◌≤◌, arith, sym, subst}
use Rattle.c_check_declarations.proofs.SlotLaws.{element_fits}
use Rattle.c_check_declarations.proofs.slots.element.Goals as goal

pub overflow_mul-result : goal.overflow_mul-result
overflow_mul-result c =
    let fits = element_fits c.args.types.now c.args.t c.args.element c.args.count c.args.number c.requires.formed c.requires.shape (omega arith) in
    let most = subst (λ s. c.args.number * s ≤ 1048576) (sym c.size_of.ensures) fits in
    omega (arith, most)

use Rattle.std.proofs.Common.{◌≡◌, ℕ, true, length, set, subst, sym, ◌∙◌, arith}
use Rattle.phys_types.specs.Orders.{IsPlacing}
use Rattle.phys_types.proofs.Placing.{placing_more}
use Rattle.phys_types.proofs.order.place.Goals as goal

pub returns-clause-placing : goal.returns-clause-placing
returns-clause-placing c =
    let e : length c.args.list.now.items ≡ c.len.result = omega arith in
    subst (λ (n : ℕ). IsPlacing c.args.types.now c.push.new.self.items (set c.args.places.now c.args.t.0 n) (set c.args.placed.now c.args.t.0 true)) e
    (placing_more c.args.types.now c.args.list.now.items c.push.new.self.items c.args.places.now c.args.placed.now c.args.t c.requires.typed c.requires.placing
    c.if-placed-t.false (sym c.parts_placed.ensures ∙ c.if-not-parts_placed.false) c.in_ok-push.ensures.items)

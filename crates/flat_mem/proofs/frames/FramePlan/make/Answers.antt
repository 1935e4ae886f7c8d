use Rattle.std.proofs.Common.{arith, ◌<◌, ◌^◌, ◌∙◌, ap}
use Rattle.flat_mem.specs.Placement.{areas_size, areas_made}
use Rattle.flat_mem.specs.Plans.{first_words_written}
use Rattle.flat_mem.proofs.PlanLaws.{plan-made, plan-zeroed}
use Rattle.flat_mem.proofs.frames.FramePlan.make.Goals as goal

pub returns-then-self : goal.returns-then-self
returns-then-self c =
    let same = ap areas_size c.self.view_is in
    let small : areas_size c.self.inside.areas.items < 2 ^ 32 = omega (arith, same, c.requires.room, c.requires.small) in
    plan-made _ _ _ _ _ _ _ _ c.self.invariant small c.zero_at.ensures (c.write_first_words.ensures ∙ ap (λ l. first_words_written l c.zero_at.new.bytes c.args.start) c.deref.ensures.value)
    ∙ ap (λ l. areas_made l c.args.bytes.now c.args.start) c.self.view_is

pub returns-else-self : goal.returns-else-self
returns-else-self c =
    let same = ap areas_size c.self.view_is in
    let small : areas_size c.self.inside.areas.items < 2 ^ 32 = omega (arith, same, c.requires.room, c.requires.small) in
    plan-zeroed _ _ _ _ _ _ _ c.self.invariant small c.zero_at.ensures c.if-self.false
    ∙ ap (λ l. areas_made l c.args.bytes.now c.args.start) c.self.view_is

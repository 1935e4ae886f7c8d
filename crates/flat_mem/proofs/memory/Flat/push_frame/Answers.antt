use Rattle.std.proofs.Common.{length, arith, ◌<◌, ◌^◌, ◌++◌, ◌∷◌, [], ◌∙◌, ap, subst, sym, All, ◌+◌, map}
use Rattle.flat_mem.specs.Placement.{areas_size}
use Rattle.flat_mem.specs.Memory.{newest_addresses, next_frame}
use Rattle.flat_mem.proofs.AreaLaws.{length-addresses}
use Rattle.flat_mem.proofs.PlanLaws.{plan-count, plan-size, plan-addresses, plan-small}
use Rattle.flat_mem.proofs.FramesKept.{areas-back, kept-room, kept-pushed, pushed-seen}
use Rattle.flat_mem.proofs.memory.Flat.push_frame.Goals as goal

pub list_shifted-requires-clause-room : goal.list_shifted-requires-clause-room
list_shifted-requires-clause-room c =
    let room = kept-room _ _ _ _ _ _ _ _ _ _ _ _ _ c.self.view_is c.requires c.self.invariant.kept in
    let small : areas_size c.args.plan.now < 2 ^ 32 = (let s = room.small in omega (arith, s)) in
    let count = ap length c.deref.ensures.value ∙ plan-count _ c.args.plan.now _ _ _ c.plan.view_is c.plan.invariant small in
    let free = room.for_addresses in let size = c.self.inside.addresses.ok in let len = size.0 in omega (arith, free, len, count)

pub list_shifted-requires-clause-small : goal.list_shifted-requires-clause-small
list_shifted-requires-clause-small c =
    let room = kept-room _ _ _ _ _ _ _ _ _ _ _ _ _ c.self.view_is c.requires c.self.invariant.kept in
    subst (All (λ o. c.self.inside.top + o < 2 ^ 64)) (sym c.deref.ensures.value) (plan-small _ c.args.plan.now _ _ _ c.self.inside.top c.plan.view_is c.plan.invariant room.small)

pub invariant_of-self : goal.invariant_of-self
invariant_of-self c =
    let room = kept-room _ _ _ _ _ _ _ _ _ _ _ _ _ c.self.view_is c.requires c.self.invariant.kept in
    let small : areas_size c.args.plan.now < 2 ^ 32 = (let s = room.small in omega (arith, s)) in
    let made = areas-back _ _ _ _ _ _ c.deref_mut.ensures.value c.deref_mut.ensures.len c.make.ensures in
    let first = c.len-first.ensures ∙ c.self.inside.addresses.ok.0 in
    let end = ap (λ n. c.self.inside.top + n) (plan-size _ c.args.plan.now _ _ _ c.plan.view_is c.plan.invariant small) in
    let count = c.len.ensures ∙ c.plan.inside.offsets.ok.0 ∙ plan-count _ c.args.plan.now _ _ _ c.plan.view_is c.plan.invariant small in
    let marked = c.push_reserved.ensures.items ∙ ap (λ n. c.self.inside.marks.items ++ record { start = c.self.inside.top; end = c.self.inside.top + c.plan.inside.size; charge = c.args.charge; first = c.len-first.result; count = n } ∷ []) count in
    let listed = c.list_shifted.ensures.added ∙ ap (λ l. c.self.inside.addresses.items ++ l) (ap (map (λ o. c.self.inside.top + o)) c.deref.ensures.value ∙ plan-addresses _ c.args.plan.now _ _ _ c.self.inside.top c.plan.view_is c.plan.invariant small) in
    record {
      kept = kept-pushed _ _ _ _ _ _ _ _ _ _ _ _ _ _ _ _ _ _ _ _ c.self.view_is made first end marked listed c.push_reserved.ensures.capacity c.list_shifted.ensures.capacity c.requires c.self.invariant.kept;
      tags_fit = c.self.invariant.tags_fit;
    }

pub returns : goal.returns
returns c =
    let room = kept-room _ _ _ _ _ _ _ _ _ _ _ _ _ c.self.view_is c.requires c.self.invariant.kept in
    let small : areas_size c.args.plan.now < 2 ^ 32 = (let s = room.small in omega (arith, s)) in
    let made = areas-back _ _ _ _ _ _ c.deref_mut.ensures.value c.deref_mut.ensures.len c.make.ensures in
    let first = c.len-first.ensures ∙ c.self.inside.addresses.ok.0 in
    let end = ap (λ n. c.self.inside.top + n) (plan-size _ c.args.plan.now _ _ _ c.plan.view_is c.plan.invariant small) in
    let count = c.len.ensures ∙ c.plan.inside.offsets.ok.0 ∙ plan-count _ c.args.plan.now _ _ _ c.plan.view_is c.plan.invariant small in
    let marked = c.push_reserved.ensures.items ∙ ap (λ n. c.self.inside.marks.items ++ record { start = c.self.inside.top; end = c.self.inside.top + c.plan.inside.size; charge = c.args.charge; first = c.len-first.result; count = n } ∷ []) count in
    let listed = c.list_shifted.ensures.added ∙ ap (λ l. c.self.inside.addresses.items ++ l) (ap (map (λ o. c.self.inside.top + o)) c.deref.ensures.value ∙ plan-addresses _ c.args.plan.now _ _ _ c.self.inside.top c.plan.view_is c.plan.invariant small) in
    let whole = pushed-seen c.args.self.now _ _ _ _ _ _ _ _ _ _ _ _ _ _ _ _ c.args.plan.now c.self.view_is made first end marked listed c.self.invariant.kept in
    record {
      memory = whole;
      areas = ap (λ m. length (newest_addresses m.frames)) whole ∙ length-addresses c.args.plan.now (next_frame c.args.self.now);
    }

use Rattle.std.proofs.Common.{◌∙◌, ◌≤◌, ap, sym, subst, map, All, rules, arith}
use Rattle.cured_code.specs.declared.parts.Function.{Function}
use Rattle.cured_code.specs.Ranges.{IsInRange}
use Rattle.cured_machine.specs.Ready.{frame_areas, live_limit}
use Rattle.cured_machine.proofs.machine.Machine.new.Goals as goal

pub invariant_of-result : goal.invariant_of-result
unfolding live_limit
invariant_of-result c = (
  record {
    in_range = subst IsInRange (sym c.parts-parts.ensures.same) c.parts-parts.ensures.in_range;
    memory_is = c.in_ok-load_parts.ensures;
    frames_are = c.in_ok-frames_of.ensures ∙ ap (map frame_areas) (c.deref-2.ensures.value ∙ c.functions.view_is);
    width = c.widest-width.result;
    widest = subst (All (λ (f : Function). f.slots ≤ c.widest-width.result)) (c.deref.ensures.value ∙ c.functions.view_is) c.widest-width.ensures;
    slots_room = let e = c.in_ok-vec.ensures.len in let o = c.in_ok-vec.field-0.ok in first_of (search rules, omega (arith, e, o));
    callers_room_is = let e = c.in_ok-with_capacity.ensures.capacity in first_of (search rules, omega (arith, e));
    laid_out = c.in_ok-operations.ensures;
  },
  c.in_ok-with_capacity.ensures.items,
)

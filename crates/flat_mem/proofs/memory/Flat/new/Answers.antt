use Rattle.std.proofs.Common.{length, ◌∙◌, ap, arith, refl}
use Rattle.std.proofs.lemmas.List.{length-replicate}
use Rattle.flat_mem.specs.Placement.{areas_size}
use Rattle.flat_mem.proofs.FramesKept.{areas-back}
use Rattle.flat_mem.proofs.NewCode.{regions-small, globals-word, first_bytes-made, first-seen, kept-first}
use Rattle.flat_mem.proofs.memory.Flat.new.Goals as goal

pub sizes_of-requires : goal.sizes_of-requires
sizes_of-requires c = globals-word c.args.plan.now _ c.requires (c.as_slice-globals.ensures.value ∙ c.globals.view_is)

pub overflow_add-stack_start : goal.overflow_add-stack_start
overflow_add-stack_start c =
    let small = regions-small c.args.plan.now _ _ _ c.requires (c.as_slice-globals.ensures.value ∙ c.globals.view_is) c.from-globals_start.ensures c.sizes_of.ensures in omega (arith, small)

pub overflow_add-stack_end : goal.overflow_add-stack_end
overflow_add-stack_end c =
    let small = regions-small c.args.plan.now _ _ _ c.requires (c.as_slice-globals.ensures.value ∙ c.globals.view_is) c.from-globals_start.ensures c.sizes_of.ensures in omega (arith, small)

pub overflow_add-heap_end : goal.overflow_add-heap_end
overflow_add-heap_end c =
    let small = regions-small c.args.plan.now _ _ _ c.requires (c.as_slice-globals.ensures.value ∙ c.globals.view_is) c.from-globals_start.ensures c.sizes_of.ensures in omega (arith, small)

pub make_areas-requires-clause-small : goal.make_areas-requires-clause-small
make_areas-requires-clause-small c =
    let small = regions-small c.args.plan.now _ _ _ c.requires (c.as_slice-globals.ensures.value ∙ c.globals.view_is) c.from-globals_start.ensures c.sizes_of.ensures in
    let size = ap length c.deref_mut.ensures.value ∙ (ap length c.in_ok-bytes.ensures ∙ length-replicate _ 0) in
    omega (arith, small, size)

pub invariant_of-result : goal.invariant_of-result
invariant_of-result c =
    record {
      kept = let list = c.as_slice-globals.ensures.value ∙ c.globals.view_is in
          let globals = c.sizes_of.ensures ∙ ap areas_size list in
          let made = areas-back _ _ _ _ _ _ c.deref_mut.ensures.value c.deref_mut.ensures.len c.make_areas.ensures.made in
          let bytes = first_bytes-made c.args.plan.now _ _ _ _ _ _ c.from-globals_start.ensures globals list c.in_ok-bytes.ensures refl made in
          kept-first c.args.plan.now _ _ _ _ _ _ _ _ c.requires c.from-globals_start.ensures globals bytes c.in_ok-marks.ensures.items c.in_ok-addresses.ensures.items c.next_multiple_of.ensures.value c.in_ok-marks.ensures.exact (c.in_ok-addresses.ensures.exact ∙ c.div_ceil.ensures);
      tags_fit = omega (arith, c.in_ok-spare_tags.ensures.exact, c.div_ceil-2.ensures);
    }

pub returns : goal.returns
returns c =
    let list = c.as_slice-globals.ensures.value ∙ c.globals.view_is in
    let globals = c.sizes_of.ensures ∙ ap areas_size list in
    let made = areas-back _ _ _ _ _ _ c.deref_mut.ensures.value c.deref_mut.ensures.len c.make_areas.ensures.made in
    let bytes = first_bytes-made c.args.plan.now _ _ _ _ _ _ c.from-globals_start.ensures globals list c.in_ok-bytes.ensures refl made in
    first-seen c.args.plan.now _ _ _ _ _ _ c.from-globals_start.ensures globals bytes c.in_ok-marks.ensures.items c.in_ok-addresses.ensures.items c.next_multiple_of.ensures.value

use Rattle.std.proofs.Common.{inl, refl, length, ap, sym, subst, ◌∙◌, arith}
use Rattle.phys_types.specs.Refining.{IsCoarser}
use Rattle.phys_types.specs.Turning.{AreReaders}
use Rattle.phys_types.proofs.Reading.{Lists}
use Rattle.phys_types.proofs.Refined.{written}
use Rattle.phys_types.proofs.Stable.{respects, coarser_forms}
use Rattle.phys_types.proofs.Turned.{same_turning}
use Rattle.phys_types.proofs.refining.refine.Goals as goal

pub turns-init : goal.turns-init
turns-init c E order o e all s coarse =
    let start =
    coarser_forms c.args.types.now c.requires.formed order c.args.places.now o c.args.layouts.now all E e s c.args.limit c.args.numbers.now c.in_ok-finer.finer.items coarse
    c.in_ok-finer.ensures.numbers in
    let copy = c.in_ok-fresh.ensures.items ∙ c.deref-2.ensures.value in
    record {
      formed = c.requires.formed;
      fits = c.in_ok-targets.ensures.fits;
      same = c.in_ok-finer.ensures.fits;
      many = ap length copy ∙ c.in_ok-finer.ensures.fits;
      read = subst (λ (xs : Lists). AreReaders xs c.in_ok-readers.readers.items) c.deref.ensures.value c.in_ok-readers.ensures;
      respect = respects c.args.types.now c.requires.formed order c.args.places.now o c.args.layouts.now all E e s c.args.limit c.in_ok-targets.targets.items c.in_ok-targets.ensures.targets;
      coarser = start;
      alike = subst (IsCoarser c.args.types.now) (sym copy) start;
      marked = λ t l. inl (c.in_ok-changed.ensures t (let k = ap length copy ∙ c.in_ok-finer.ensures.fits in let n = c.count-2.ensures.number in omega arith));
    }

pub returns-then-is_empty : goal.returns-then-is_empty
returns-then-is_empty c E order o e all s coarse = (c.turns.invariant E order o e all s coarse).coarser

pub returns : goal.returns
returns c E order o e all s coarse = (c.turns.invariant E order o e all s coarse).coarser

pub turns-preserved : goal.turns-preserved
turns-preserved c E order o e all s coarse =
    let inv = c.turns.invariant E order o e all s coarse in
    let a = c.deref_mut.ensures.value in
    let b = c.deref_mut-in-turns.ensures.value in
    let d = c.deref-in-turns.ensures.value in
    let whole = written c.turn.new.numbers c.turns.finer.items c.turns.finer.len (c.in_ok-changed-2.ensures.numbers ∙ ap length a) (sym c.deref_mut.ensures.len ∙ ap length a) in
    let more = written c.turn.new.fresh c.turns.fresh.items c.turns.fresh.len (c.in_ok-changed-2.ensures.fresh ∙ ap length b) (sym c.deref_mut-in-turns.ensures.len ∙ ap length b) in
    same_turning c.args.types.now c.in_ok-targets.targets.items c.in_ok-readers.readers.items _ _ _ _ _ _ (sym whole) (sym more) refl
    (c.in_ok-changed-2.ensures.turned c.args.types.now
    (same_turning c.args.types.now c.in_ok-targets.targets.items c.in_ok-readers.readers.items _ _ _ _ _ _ (sym a) (sym b) (sym d) inv))

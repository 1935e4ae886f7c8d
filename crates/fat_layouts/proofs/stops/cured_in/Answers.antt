use Rattle.std.specs.Prelude.{◌≡◌, List, slice_get, Some}
use Rattle.std.specs.List.Sorted.{IsNonDecreasingBy}
use Rattle.std.proofs.Common.{sym, subst, arith}
use Rattle.fat_layouts.specs.declared.stops.Stop.{Stop}
use Rattle.fat_layouts.specs.Stops.{IsLastPassed, first_stop}
use Rattle.fat_layouts.proofs.LayoutLaws.{part_ordered, part_first, offset_small, offset_is}
use Rattle.fat_layouts.proofs.stops.cured_in.Goals as goal

pub last_passed-stop-requires-clause-ordered : goal.last_passed-stop-requires-clause-ordered
last_passed-stop-requires-clause-ordered c =
    let p = c.requires.part in
    subst (IsNonDecreasingBy (λ (s : Stop). s.end)) (sym c.deref.ensures.value) (part_ordered p.0 p.1 c.args.part.now p.2)

pub last_passed-stop-requires-clause-first : goal.last_passed-stop-requires-clause-first
last_passed-stop-requires-clause-first c =
    let p = c.requires.part in
    subst (λ (xs : List Stop). slice_get xs 0 ≡ Some first_stop) (sym c.deref.ensures.value) (part_first p.0 p.1 c.args.part.now p.2)

pub overflow_add-result : goal.overflow_add-result
overflow_add-result c =
    let p = c.requires.part in
    let l = subst (λ (xs : List Stop). IsLastPassed xs c.args.offset c.last_passed-stop.result) c.deref.ensures.value c.last_passed-stop.ensures in
    let b = offset_small p.0 p.1 c.args.part.now p.2 c.args.offset c.last_passed-stop.result l in
    let s = p.2.small in let w = c.requires.within in omega arith

pub returns-clause-small : goal.returns-clause-small
returns-clause-small c =
    let p = c.requires.part in
    offset_small p.0 p.1 c.args.part.now p.2 c.args.offset c.last_passed-stop.result
    (subst (λ (xs : List Stop). IsLastPassed xs c.args.offset c.last_passed-stop.result) c.deref.ensures.value c.last_passed-stop.ensures)

pub returns-clause-before : goal.returns-clause-before
returns-clause-before c kind spots h between =
    offset_is kind spots c.args.part.now h c.args.offset c.last_passed-stop.result c.requires.within between
    (subst (λ (xs : List Stop). IsLastPassed xs c.args.offset c.last_passed-stop.result) c.deref.ensures.value c.last_passed-stop.ensures)

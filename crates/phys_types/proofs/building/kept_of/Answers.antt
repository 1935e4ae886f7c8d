use Rattle.std.proofs.Common.{refl, sym, ◌∙◌, arith}
use Rattle.std.proofs.lemmas.Result.{IfOk-weaker}
use Rattle.phys_types.specs.Numbers.{number_in, same_number}
use Rattle.phys_types.specs.Shown.{IsKeptOf}
use Rattle.phys_types.proofs.Kept.{kept_low, array_small, array_count, array_kept, once_kept, times_kept, element_kept}
use Rattle.phys_types.proofs.building.kept_of.Goals as goal

-- what is kept of the element
pub kept_times-requires-clause-low : goal.kept_times-requires-clause-low
kept_times-requires-clause-low c =
    let table = c.args.types.now in
    let E = same_number (number_in c.args.numbers.now) in
    let h : IsKeptOf table E c.in-Array.element c.kept-part.result.now =
    element_kept table E c.args.places.now c.args.built.now c.args.t c.in-Array.element c.in-Array.count c.kept-part.result.now (sym c.shape.ensures ∙ c.in-Array.is) c.requires.shown c.kept-part.ensures in
    (kept_low table E c.in-Array.element c.requires.formed c.kept-part.result.now h).0

pub kept_times-requires-clause-small : goal.kept_times-requires-clause-small
kept_times-requires-clause-small c =
    let table = c.args.types.now in
    let E = same_number (number_in c.args.numbers.now) in
    let e = sym c.shape.ensures ∙ c.in-Array.is in
    let h : IsKeptOf table E c.in-Array.element c.kept-part.result.now =
    element_kept table E c.args.places.now c.args.built.now c.args.t c.in-Array.element c.in-Array.count c.kept-part.result.now e c.requires.shown c.kept-part.ensures in
    array_small table c.requires.formed E c.args.t c.in-Array.element c.in-Array.count e c.kept-part.result.now h

pub overflow_mul-times : goal.overflow_mul-times
overflow_mul-times c =
    let table = c.args.types.now in
    let E = same_number (number_in c.args.numbers.now) in
    let e = sym c.shape.ensures ∙ c.in-Array.is in
    let h : IsKeptOf table E c.in-Array.element c.kept-part.result.now =
    element_kept table E c.args.places.now c.args.built.now c.args.t c.in-Array.element c.in-Array.count c.kept-part.result.now e c.requires.shown c.kept-part.ensures in
    let l = array_count table c.requires.formed E c.args.t c.in-Array.element c.in-Array.count e c.kept-part.result.now h in omega arith

pub returns-in-Array : goal.returns-in-Array
returns-in-Array c =
    let table = c.args.types.now in
    let E = same_number (number_in c.args.numbers.now) in
    let e = sym c.shape.ensures ∙ c.in-Array.is in
    let h : IsKeptOf table E c.in-Array.element c.kept-part.result.now =
    element_kept table E c.args.places.now c.args.built.now c.args.t c.in-Array.element c.in-Array.count c.kept-part.result.now e c.requires.shown c.kept-part.ensures in
    IfOk-weaker c.kept_times.result _ _
    (λ k m. array_kept table c.requires.formed E c.args.t c.in-Array.element c.in-Array.count e c.kept-part.result.now h k m) c.kept_times.ensures

pub layout_of-requires-clause-other : goal.layout_of-requires-clause-other
layout_of-requires-clause-other c = λ element n e. c.in_default.not-Array element n (c.shape.ensures ∙ e)

pub returns-in_ok-part-in_default : goal.returns-in_ok-part-in_default
returns-in_ok-part-in_default c =
    once_kept c.args.types.now (same_number (number_in c.args.numbers.now)) c.args.t (record { part = c.in_ok-part-in_default.part; count = 1 }) refl c.in_ok-part-in_default.ensures

-- the member that the type consists of
pub kept_times-requires-in-Some : goal.kept_times-requires-in-Some
kept_times-requires-in-Some c =
    let table = c.args.types.now in
    let E = same_number (number_in c.args.numbers.now) in
    let k = kept_low table E c.args.t c.requires.formed c.in-Some.own.now (c.in-Some.ensures E c.requires.shown) in
    record { low = k.0; small = k.1 }

pub returns-in-Some : goal.returns-in-Some
returns-in-Some c =
    let table = c.args.types.now in
    let E = same_number (number_in c.args.numbers.now) in
    let h : IsKeptOf table E c.args.t c.in-Some.own.now = c.in-Some.ensures E c.requires.shown in
    IfOk-weaker c.kept_times-in-Some.result _ _
    (λ x m. times_kept table E c.args.t c.in-Some.own.now.count c.in-Some.own.now.part h.some h.spots h.cells h.holds x m) c.kept_times-in-Some.ensures

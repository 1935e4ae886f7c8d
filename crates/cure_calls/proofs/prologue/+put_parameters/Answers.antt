use Rattle.std.proofs.Common.{◌≡◌, ◌+◌, suc, length, ap, arith}
use Rattle.cure_calls.proofs.FrameLaws.{no_parameters, named_grows, unnamed_grows}
use Rattle.cure_calls.proofs.prologue.+put_parameters.Goals as goal

pub returns-in_default : goal.returns-in_default
returns-in_default d c = no_parameters c.args.k.now c.args.parameters.now c.args.p c.args.variable _ _ c.in_default.ensures.cases c.keep.ensures

pub put_parameters-requires : goal.put_parameters-requires
put_parameters-requires d c =
    let e : length c.args.parameters.now ≡ suc (length c.in-Some.rest.now) = ap length c.in-Some.ensures.cases.0 in
    let w = c.words_in.ensures.few in
    let s = c.requires.slots in
    let v = c.requires.variables in
    let m = c.decreases in
    (omega arith, (omega (arith, e, w, s), omega (arith, e, v)))

pub put_parameters-requires-in-None : goal.put_parameters-requires-in-None
put_parameters-requires-in-None d c =
    let e : length c.args.parameters.now ≡ suc (length c.in-Some.rest.now) = ap length c.in-Some.ensures.cases.0 in
    let w = c.words_in.ensures.few in
    let s = c.requires.slots in
    let v = c.requires.variables in
    let m = c.decreases in
    (omega arith, (omega (arith, e, w, s), omega (arith, e, v)))

pub returns-in-Some-home : goal.returns-in-Some-home
returns-in-Some-home d c =
    named_grows c.args.k.now c.args.parameters.now c.in-Some.rest.now c.in-Some.first.now c.in-Some-home.home c.args.p c.args.variable _ _ _ _ c.in-Some.ensures.cases.0 c.in-Some-home.is
    (ap (λ n. c.args.p + n) c.words_in.ensures.value) c.put_parameter.ensures c.put_parameters.ensures

pub returns-in-None : goal.returns-in-None
returns-in-None d c =
    unnamed_grows c.args.k.now c.args.parameters.now c.in-Some.rest.now c.in-Some.first.now c.args.p c.args.variable _ _ _ c.in-Some.ensures.cases.0 c.in-None.is
    (ap (λ n. c.args.p + n) c.words_in.ensures.value) c.put_parameters-in-None.ensures

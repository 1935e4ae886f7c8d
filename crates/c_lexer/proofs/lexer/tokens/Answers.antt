use Rattle.std.proofs.Common.{◌∙◌, Err, sym, refl, ap, inl, arith}
use Rattle.cc_base.specs.declared.fault.Fault.TheVariants.{Refused}
use Rattle.c_lexer.proofs.CutLaws.{one_cut, one_refusal, cut_not_refused}
use Rattle.c_lexer.proofs.FewTokens.{few_tokens}
use Rattle.c_lexer.proofs.ReachedLaws.{cut_at, refused_at, reached_all, reached_step, column_room, rest_fits}
use Rattle.c_lexer.proofs.lexer.tokens.Goals as goal

pub returns-in-Err-clause-refused : goal.returns-in-Err-clause-refused
returns-in-Err-clause-refused c = refused_at c.args.text.now _ c.cutting.rest.now c.cutting.position c.in-Err.rule c.cutting.invariant (sym c.cutting-test.ensures) (sym c.in-Err.ensures)

pub split_at-requires : goal.split_at-requires
split_at-requires c = (cut_at c.args.text.now _ c.cutting.rest.now c.cutting.position c.in-Ok.step c.cutting.invariant (sym c.cutting-test.ensures) (sym c.in-Ok.ensures)).fits

pub after-position-requires-clause-column : goal.after-position-requires-clause-column
after-position-requires-clause-column c =
    let s = cut_at c.args.text.now _ c.cutting.rest.now c.cutting.position c.in-Ok.step c.cutting.invariant (sym c.cutting-test.ensures) (sym c.in-Ok.ensures) in
    omega (arith, column_room c.cutting.invariant, rest_fits c.cutting.invariant, s.fits, c.split_at.ensures.front_len)

pub cutting-smaller : goal.cutting-smaller
cutting-smaller c =
    let s = cut_at c.args.text.now _ c.cutting.rest.now c.cutting.position c.in-Ok.step c.cutting.invariant (sym c.cutting-test.ensures) (sym c.in-Ok.ensures) in
    omega (arith, s.positive, s.fits, c.split_at.ensures.back_len)

pub cutting-preserved : goal.cutting-preserved
cutting-preserved c =
    let s = cut_at c.args.text.now _ c.cutting.rest.now c.cutting.position c.in-Ok.step c.cutting.invariant (sym c.cutting-test.ensures) (sym c.in-Ok.ensures) in
    reached_step c.args.text.now _ c.cutting.rest.now c.cutting.position c.in-Ok.step c.cutting.invariant s _ c.split_at.result.0.now _ _ _
    c.split_at.ensures.front c.split_at.ensures.back refl c.in_ok-keep.ensures c.after-position.ensures

pub returns-in-Err-clause-accepts : goal.returns-in-Err-clause-accepts
returns-in-Err-clause-accepts c = λ list cut.
    let refusal = refused_at c.args.text.now _ c.cutting.rest.now c.cutting.position c.in-Err.rule c.cutting.invariant (sym c.cutting-test.ensures) (sym c.in-Err.ensures) in
    absurd (cut_not_refused c.args.text.now list _ _ cut refusal)

pub returns-in-Err-clause-refuses : goal.returns-in-Err-clause-refuses
returns-in-Err-clause-refuses c = λ place rule other.
    let refusal = refused_at c.args.text.now _ c.cutting.rest.now c.cutting.position c.in-Err.rule c.cutting.invariant (sym c.cutting-test.ensures) (sym c.in-Err.ensures) in
    let same = one_refusal c.args.text.now c.cutting.position.place place c.in-Err.rule rule refusal other in
    inl (ap (λ p. Err (Refused p c.in-Err.rule)) same.0 ∙ ap (λ k. Err (Refused place k)) same.1)

pub returns-clause-accepts : goal.returns-clause-accepts
returns-clause-accepts c = λ list cut.
    inl (one_cut c.args.text.now _ list (reached_all c.args.text.now _ c.cutting.rest.now c.cutting.position c.cutting.invariant (sym c.cutting-test.ensures)) cut)

pub returns-clause-refuses : goal.returns-clause-refuses
returns-clause-refuses c = λ place rule refusal.
    absurd (cut_not_refused c.args.text.now _ place rule (reached_all c.args.text.now _ c.cutting.rest.now c.cutting.position c.cutting.invariant (sym c.cutting-test.ensures)) refusal)

pub returns-clause-few : goal.returns-clause-few
returns-clause-few c =
    few_tokens c.args.text.now _ (reached_all c.args.text.now _ c.cutting.rest.now c.cutting.position c.cutting.invariant (sym c.cutting-test.ensures))

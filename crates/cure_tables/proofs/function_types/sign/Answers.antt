use Rattle.std.specs.Prelude.{List, slice_set}
use Rattle.std.proofs.Common.{ap, sym, subst, ◌∙◌, inl, true≢false, refl, arith}
use Rattle.cc_base.specs.declared.number.TypeId.{TypeId}
use Rattle.cc_base.specs.Kinds.{kind_at}
use Rattle.c_types.specs.Table.{is_function}
use Rattle.cure_tables.specs.Signed.{IsAlikeAt}
use Rattle.cure_tables.proofs.Signed.{take_some}
use Rattle.cure_tables.proofs.function_types.sign.Goals as goal

pub returns-in-Some : goal.returns-in-Some
returns-in-Some c = record {
  function = λ f. inl (record {
    place = c.in-Some.place;
    alike = subst (λ (xs : List TypeId). IsAlikeAt c.args.known.now (kind_at c.args.kinds.now) xs c.args.t c.in-Some.place) c.deref.ensures.value
        (take_some _ _ c.in-Some.place c.in-Some.is c.in_ok-place.ensures.found);
    firsts = refl;
    sigs = refl;
    numbers = ap (slice_set c.args.state.now.numbers.items c.args.t.0) (omega arith);
  });
  other = λ f. absurd (true≢false (c.if-not-is_function.ensures ∙ ap (λ table. is_function table c.args.t) (sym c.requires.table) ∙ f));
}

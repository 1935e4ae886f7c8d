use Rattle.std.proofs.Common.{◌≡◌, ◌∙◌, Bool, true, false, Option, refl, rules}
use Rattle.c_tree.specs.Symbols.{Symbol}
use Rattle.c_parse_words.specs.Lists.{enumerators_seen, series_goes_on}
use Rattle.c_parse_words.proofs.StateRounds.{state_stops, state_goes, state_fails}
use Rattle.c_expr_parse.specs.TypeRules.{Upto, goes_on_series}
use Rattle.c_expr_parse.proofs.grammar.Grammar.more_enumerators.Goals as goal

same : {A : Type 0} (x : A) (comma : Bool) (next : Option Symbol) → series_goes_on comma next ≡ goes_on_series (Upto x comma) next
same x true next = refl
same x false next = refl

pub returns-then-not-series_goes_on-clause-reads : goal.returns-then-not-series_goes_on-clause-reads
returns-then-not-series_goes_on-clause-reads g c = state_stops c.loop-turn.invariant.0 _ c.peek.ensures _ (c.series_goes_on.ensures ∙ same (enumerators_seen c.loop-turn.series.list.tree) _ _) c.if-not-series_goes_on.true

pub returns-in_err-series-clause-reads : goal.returns-in_err-series-clause-reads
returns-in_err-series-clause-reads g c =
    let stopped = state_fails c.loop-turn.invariant.0 _ c.peek.ensures _ (c.series_goes_on.ensures ∙ same (enumerators_seen c.loop-turn.series.list.tree) _ _) c.loop-turn-test.true c.if-not-series_goes_on.false c.in_err-series.ensures.reads in
    search rules

pub loop-turn-preserved : goal.loop-turn-preserved
loop-turn-preserved g c = (state_goes c.loop-turn.invariant.0 _ c.peek.ensures _ (c.series_goes_on.ensures ∙ same (enumerators_seen c.loop-turn.series.list.tree) _ _) c.loop-turn-test.true c.if-not-series_goes_on.false c.in_ok-series.ensures.reads, c.in_ok-series.ensures.height)

use Rattle.std.proofs.Common.{◌+◌, length, get_or, ap, ◌∙◌, arith}
use Rattle.std.proofs.lemmas.List.{length_push}
use Rattle.phys_types.specs.Signatures.{front_targets}
use Rattle.phys_types.proofs.Parts.{low_at}
use Rattle.phys_types.proofs.Reading.{lists_more}
use Rattle.phys_types.proofs.refining.targets.Goals as goal

pub kept-own-requires : goal.kept-own-requires
kept-own-requires c = c.requires.kept (record { 0 = c.types.t }) (let n = c.count-t-end.ensures.number in let h = c.types-test.true in omega arith)

pub front_targets-requires-clause-low : goal.front_targets-requires-clause-low
front_targets-requires-clause-low c =
    low_at c.args.places.now c.args.layouts.now (record { 0 = c.types.t }) c.kept-own.result.now
    (c.requires.kept (record { 0 = c.types.t }) (let n = c.count-t-end.ensures.number in let h = c.types-test.true in omega arith)) c.requires.low c.kept-own.ensures

pub types-preserved : goal.types-preserved
types-preserved c = record {
  fits = ap length c.in_ok-push.ensures.items ∙ length_push c.types.targets.items c.in_ok-list.list ∙ ap (λ k. k + 1) c.types.invariant.fits;
  targets = λ d.
      lists_more c.types.targets.items c.push.new.self.items c.types.t c.in_ok-list.list
      (λ t. front_targets c.args.types.now c.args.limit t (get_or c.args.layouts.now (get_or c.args.places.now t.0 0) d)) c.types.invariant.fits c.in_ok-push.ensures.items
      (c.in_ok-list.ensures ∙ ap (front_targets c.args.types.now c.args.limit (record { 0 = c.types.t })) (c.kept-own.ensures d)) (c.types.invariant.targets d);
}

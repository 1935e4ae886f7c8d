use Rattle.std.specs.Prelude.{length}
use Rattle.std.proofs.Common.{true≢false, sym, ◌∙◌}
use Rattle.cc_base.specs.Kinds.{kind_at}
use Rattle.rtti_nodes.proofs.Depths.{agree_told, kinds_agree, numbers_agree, places_in_range}
use Rattle.rtti_nodes.proofs.agreeing.places_agree.Goals as goal

pub returns-then-not-have_one_number : goal.returns-then-not-have_one_number
returns-then-not-have_one_number c = (
  λ h. absurd (true≢false (sym h)),
  λ h. c.if-not-have_one_number.ensures.1
      (numbers_agree c.args.known.now (kind_at c.args.kinds.now) c.args.numbers.now c.args.t c.args.u c.new-found.result c.add_places.new.found c.new-found.ensures
      c.in_ok-add_places.ensures h c.all_pointees.result.now c.all_pointees.ensures),
)

pub have_equal_kinds-requires-clause-first : goal.have_equal_kinds-requires-clause-first
have_equal_kinds-requires-clause-first c a b m =
    (places_in_range c.args.known.now (kind_at c.args.kinds.now) c.args.numbers.now c.args.t c.args.u c.new-found.result c.add_places.new.found c.new-found.ensures
    c.in_ok-add_places.ensures (length c.args.kinds.now) c.requires.formed c.requires.nodes c.deref.result.now (c.deref.ensures.value ∙ c.in_ok-pairs.ensures.pairs) a b m).0

pub have_equal_kinds-requires-clause-second : goal.have_equal_kinds-requires-clause-second
have_equal_kinds-requires-clause-second c a b m =
    (places_in_range c.args.known.now (kind_at c.args.kinds.now) c.args.numbers.now c.args.t c.args.u c.new-found.result c.add_places.new.found c.new-found.ensures
    c.in_ok-add_places.ensures (length c.args.kinds.now) c.requires.formed c.requires.nodes c.deref.result.now (c.deref.ensures.value ∙ c.in_ok-pairs.ensures.pairs) a b m).1

pub returns : goal.returns
returns c = (
  λ h. agree_told c.args.known.now (kind_at c.args.kinds.now) c.args.numbers.now c.args.t c.args.u c.new-found.result c.add_places.new.found c.new-found.ensures
      c.in_ok-add_places.ensures c.deref.result.now c.all_pointees.result.now (c.deref.ensures.value ∙ c.in_ok-pairs.ensures.pairs) c.all_pointees.ensures
      (c.have_equal_kinds.ensures.0 h) (c.have_one_number.ensures.0 c.if-not-have_one_number.false),
  λ h. c.have_equal_kinds.ensures.1
      (kinds_agree c.args.known.now (kind_at c.args.kinds.now) c.args.numbers.now c.args.t c.args.u c.new-found.result c.add_places.new.found c.new-found.ensures
      c.in_ok-add_places.ensures h c.deref.result.now (c.deref.ensures.value ∙ c.in_ok-pairs.ensures.pairs)),
)

use Rattle.std.proofs.Common.{sym}
use Rattle.std.proofs.lemmas.Result.{IfOk-weaker}
use Rattle.cc_base.specs.Kinds.{kind_at}
use Rattle.rtti_nodes.proofs.Depths.{own_alike}
use Rattle.rtti_nodes.proofs.numbering.look_alike.Goals as goal

pub returns-then-t-u : goal.returns-then-t-u
returns-then-t-u c e = own_alike c.args.known.now c.requires.formed (kind_at c.args.kinds.now) c.args.numbers.now c.args.t c.args.u c.if-t-u.true

pub returns : goal.returns
returns c = IfOk-weaker c.places_agree.result _ _ (λ alike h e. (sym c.if-not-is_equal.ensures, h.0 e)) c.places_agree.ensures

use Rattle.std.proofs.Common.{sym, ap, refl, ◌∙◌}
use Rattle.cure_instrs.specs.Lines.{held_views}
use Rattle.cure_scope.specs.Scopes.{world_of}
use Rattle.cure_bodies.proofs.Laws.{makes_of}
use Rattle.cure_bodies.proofs.Parts.{tested_made, tested_failed}
use Rattle.cure_bodies.proofs.Ready.{ready_of, test_known}
use Rattle.cure_bodies.proofs.walk.test.Goals as goal

pub returns-in-Some : goal.returns-in-Some
returns-in-Some c = record {
  made = tested_made c.args.k.now _ _ _ _ _ _ (sym c.held_in.ensures ∙ ap held_views c.in-Some.is) c.put_tested.ensures.slot (makes_of _ _ _ _ c.put_tested.ensures.made);
  ready = λ types more known. ready_of _ _ _ _ c.put_tested.ensures.made tt;
}

pub returns-in-None : goal.returns-in-None
returns-in-None c = record {
  made = tested_failed (world_of c.args.k.now) _ _ _ _ _ c.refuse.ensures;
  ready = λ types more known r. absurd (test_known _ types c.args.t _ refl more known (sym c.held_in.ensures ∙ ap held_views c.in-None.is));
}

use Rattle.std.proofs.Common.{◌∙◌}
use Rattle.check_insert.proofs.Laws.{grows_as, grows_failed}
use Rattle.cure_scope.specs.Scopes.{world_of}
use Rattle.cure_instrs.proofs.PieceLaws.{grows_of}
use Rattle.cure_points.proofs.PointLaws.{move_cured, can_move, no_pointer, no_integer}
use Rattle.cure_points.proofs.moving.put_move.Goals as goal

pub returns-in-Some-integer_held : goal.returns-in-Some-integer_held
returns-in-Some-integer_held c types same =
    let is = rw c.in-Some.is at c.pointer_in.ensures.there in
    grows_of _ _ _ _ _ (can_move (world_of c.args.k.now) c.args.m.ty _ _ _ is)
    (grows_as _ _ _ _ _ (λ code. move_cured c.args.k.now types c.args.m.into c.args.m.pointer c.args.m.amount c.args.m.way c.args.m.ty c.args.at _ _ _ code is
    (same ∙ rw c.in-Some-integer_held.is at c.integer_held.ensures.there))
    (rw (c.kind_of.ensures, c.column.ensures.value, c.column-in-Some-integer_held.ensures.value, c.column-in-Some-integer_held-2.ensures.value) at c.put_small.ensures))

pub returns-in-None-integer_held : goal.returns-in-None-integer_held
returns-in-None-integer_held c types same =
    grows_failed _ _ _ _ (no_integer (world_of c.args.k.now) c.args.m.ty _ (rw c.in-None-integer_held.is at c.integer_held.ensures.none)) c.refuse.ensures

pub returns-in-None : goal.returns-in-None
returns-in-None c types same =
    grows_failed _ _ _ _ (no_pointer (world_of c.args.k.now) c.args.m.ty _ (rw c.in-None.is at c.pointer_in.ensures.none)) c.refuse-in-None.ensures

use Rattle.cure_bodies.proofs.Laws.{makes_of}
use Rattle.cure_bodies.proofs.Ready.{ready_of}
use Rattle.cure_bodies.proofs.points.put_point.Goals as goal

pub returns-in-Move : goal.returns-in-Move
returns-in-Move c = record {
  made = λ types f. rw c.in-Move.is (makes_of _ _ _ _ (c.put_move.ensures types (rw c.in-Move.is at f)));
  ready = λ types f can. ready_of _ _ _ _ (c.put_move.ensures types (rw c.in-Move.is at f)) ((rw c.in-Move.is at can) _ (rw c.in-Move.is at f));
}

pub returns-in-Difference : goal.returns-in-Difference
returns-in-Difference c = record {
  made = λ types f. rw c.in-Difference.is (makes_of _ _ _ _ (c.put_difference.ensures types));
  ready = λ types f can. ready_of _ _ _ _ (c.put_difference.ensures types) (rw c.in-Difference.is at can);
}

pub returns-in-Compare : goal.returns-in-Compare
returns-in-Compare c = record {
  made = λ types f. rw c.in-Compare.is (makes_of _ _ _ _ (c.put_compare.ensures types));
  ready = λ types f can. ready_of _ _ _ _ (c.put_compare.ensures types) (rw c.in-Compare.is at can);
}

pub returns-in-IsNull : goal.returns-in-IsNull
returns-in-IsNull c = record {
  made = λ types f. rw c.in-IsNull.is (makes_of _ _ _ _ (c.put_null.ensures types c.in-IsNull.ty (rw c.in-IsNull.is at f)));
  ready = λ types f can. ready_of _ _ _ _ (c.put_null.ensures types c.in-IsNull.ty (rw c.in-IsNull.is at f)) ((rw c.in-IsNull.is at can) _ (rw c.in-IsNull.is at f));
}

pub returns-in-Member : goal.returns-in-Member
returns-in-Member c = record {
  made = λ types f. rw c.in-Member.is (makes_of _ _ _ _ (c.put_member.ensures types));
  ready = λ types f can. ready_of _ _ _ _ (c.put_member.ensures types) (rw c.in-Member.is at can);
}

pub returns-in-Decay : goal.returns-in-Decay
returns-in-Decay c = record {
  made = λ types f. rw c.in-Decay.is (makes_of _ _ _ _ (c.put_decay.ensures types));
  ready = λ types f can. ready_of _ _ _ _ (c.put_decay.ensures types) tt;
}

pub returns-in-Address : goal.returns-in-Address
returns-in-Address c = record {
  made = λ types f. rw c.in-Address.is (makes_of _ _ _ _ (c.put_address.ensures types c.in-Address.outer));
  ready = λ types f can. ready_of _ _ _ _ (c.put_address.ensures types c.in-Address.outer) tt;
}

use Rattle.std.proofs.Common.{refl}
use Rattle.cil_form.specs.declared.instr.Instr.TheVariants as source
use Rattle.cure_scope.specs.Scopes.{world_of}
use Rattle.cure_bodies.proofs.Laws.{makes_of}
use Rattle.cure_bodies.proofs.Parts.{if_made, block_made, loop_made, break_made, return_made, value_made, forgets, code_begun, code_next, code_ended}
use Rattle.cure_bodies.proofs.Ready.{unmade, ready_of, plain_ready, if_ready, block_ready, loop_ready, rest_begun, rest_next, rest_ended}
use Rattle.cure_bodies.proofs.walk.+curing.Goals as goal

pub put_instr-returns-then-not-out-clause-made : goal.put_instr-returns-then-not-out-clause-made
put_instr-returns-then-not-out-clause-made t c = unmade _ _ _ c.if-not-out.true

pub put_instr-returns-in-Set : goal.put_instr-returns-in-Set
put_instr-returns-in-Set t c = record { made = rw c.in-Set.is c.set.ensures.made; ready = rw c.in-Set.is c.set.ensures.ready }

pub put_instr-returns-in-Calculate : goal.put_instr-returns-in-Calculate
put_instr-returns-in-Calculate t c = record { made = rw c.in-Calculate.is c.calculate.ensures.made; ready = rw c.in-Calculate.is c.calculate.ensures.ready }

pub put_instr-returns-in-Point : goal.put_instr-returns-in-Point
put_instr-returns-in-Point t c = record { made = rw c.in-Point.is c.point.ensures.made; ready = rw c.in-Point.is c.point.ensures.ready }

pub put_instr-returns-in-Convert : goal.put_instr-returns-in-Convert
put_instr-returns-in-Convert t c = record { made = rw c.in-Convert.is c.convert.ensures.made; ready = rw c.in-Convert.is c.convert.ensures.ready }

pub put_instr-returns-in-Access : goal.put_instr-returns-in-Access
put_instr-returns-in-Access t c = record { made = rw c.in-Access.is c.access.ensures.made; ready = rw c.in-Access.is c.access.ensures.ready }

pub put_instr-returns-in-Allocate : goal.put_instr-returns-in-Allocate
put_instr-returns-in-Allocate t c = record { made = rw c.in-Allocate.is c.allocate.ensures.made; ready = rw c.in-Allocate.is c.allocate.ensures.ready }

pub put_instr-returns-in-Call : goal.put_instr-returns-in-Call
put_instr-returns-in-Call t c = record { made = rw c.in-Call.is c.call.ensures.made; ready = rw c.in-Call.is c.call.ensures.ready }

pub put_instr-returns-in-Runtime : goal.put_instr-returns-in-Runtime
put_instr-returns-in-Runtime t c = record { made = rw c.in-Runtime.is c.runtime.ensures.made; ready = rw c.in-Runtime.is c.runtime.ensures.ready }

pub put_instr-returns-in-If : goal.put_instr-returns-in-If
put_instr-returns-in-If t c = record {
  made = rw c.in-If.is (if_made (world_of c.args.k.now) _ _ _ _ _ _ _ _ _ _ _ _ _ _ _ _ c.test-a.ensures.made c.start-yes.ensures
      (rw c.as_slice.ensures.value at c.put_code.ensures.made) c.mark-before.ensures c.rewind.ensures c.start_behind-no.ensures.starts
      (rw c.as_slice-in-If.ensures.value at c.put_code-in-If.ensures.made) c.choose.ensures);
  ready = rw c.in-If.is (if_ready (world_of c.args.k.now) _ _ _ _ _ _ _ _ _ _ _ _ _ _ _ c.if-not-out.false c.test-a.ensures.ready c.start-yes.ensures
      (rw c.as_slice.ensures.value at c.put_code.ensures.made) (rw c.as_slice.ensures.value at c.put_code.ensures.ready) c.mark-before.ensures c.rewind.ensures
      c.start_behind-no.ensures.starts c.start_behind-no.ensures.fine (rw c.as_slice-in-If.ensures.value at c.put_code-in-If.ensures.ready) c.choose.ensures);
}

pub put_instr-returns-in-Block : goal.put_instr-returns-in-Block
put_instr-returns-in-Block t c = record {
  made = rw c.in-Block.is (block_made (world_of c.args.k.now) _ _ _ _ _ _ _ _ _ c.start-inner.ensures
      (rw c.as_slice-in-Block.ensures.value at c.put_code-in-Block.ensures.made) c.mark-before-in-Block.ensures c.rewind-in-Block.ensures c.put_block.ensures.made);
  ready = rw c.in-Block.is (block_ready (world_of c.args.k.now) _ _ _ c.put_block.new.out _ c.put_code-in-Block.new.out c.if-not-out.false c.start-inner.ensures
      (rw c.as_slice-in-Block.ensures.value at c.put_code-in-Block.ensures.ready) c.put_block.ensures.ready);
}

pub put_instr-returns-in-Loop : goal.put_instr-returns-in-Loop
put_instr-returns-in-Loop t c = record {
  made = rw c.in-Loop.is (loop_made (world_of c.args.k.now) _ _ _ _ _ _ _ _ _ (forgets c.args.k.now) c.start-inner-in-Loop.ensures
      (rw c.as_slice-in-Loop.ensures.value at c.put_code-in-Loop.ensures.made) c.mark-before-in-Loop.ensures c.rewind-in-Loop.ensures c.put_loop.ensures.made);
  ready = rw c.in-Loop.is (loop_ready (world_of c.args.k.now) _ _ _ c.put_loop.new.out _ c.put_code-in-Loop.new.out c.if-not-out.false c.start-inner-in-Loop.ensures
      (rw c.as_slice-in-Loop.ensures.value at c.put_code-in-Loop.ensures.ready) c.put_loop.ensures.ready);
}

pub put_instr-returns-in-Break : goal.put_instr-returns-in-Break
put_instr-returns-in-Break t c = record {
  made = rw c.in-Break.is (break_made (world_of c.args.k.now) _ _ _ _ (forgets c.args.k.now) (makes_of _ _ _ _ c.put.ensures));
  ready = λ cx blocks types less at s. ready_of _ _ _ _ c.put.ensures tt at.ready;
}

pub put_instr-returns-in-Return : goal.put_instr-returns-in-Return
put_instr-returns-in-Return t c = record {
  made = rw c.in-Return.is (return_made (world_of c.args.k.now) _ _ _ (forgets c.args.k.now) (makes_of _ _ _ _ c.put-in-Return.ensures));
  ready = λ cx blocks types less at s. ready_of _ _ _ _ c.put-in-Return.ensures tt at.ready;
}

pub put_instr-returns-in-ReturnValue : goal.put_instr-returns-in-ReturnValue
put_instr-returns-in-ReturnValue t c = record {
  made = rw c.in-ReturnValue.is (value_made (world_of c.args.k.now) _ _ _ _ _ _ (forgets c.args.k.now) (λ types. makes_of _ _ _ _ (c.put_return.ensures types)));
  ready = rw c.in-ReturnValue.is
      (plain_ready (source.ReturnValue c.in-ReturnValue.value c.in-ReturnValue.ty c.in-ReturnValue.place) (world_of c.args.k.now) _ _ c.put_return.new.out c.put_return.new.out
      c.if-not-out.false
      (λ cx types less more s. ready_of _ _ _ _ (c.put_return.ensures types)) refl);
}

pub put_code-loop-one-init : goal.put_code-loop-one-init
put_code-loop-one-init t c = (code_begun c.args.code.now (world_of c.args.k.now) _ _, rest_begun c.args.code.now (world_of c.args.k.now) _ _)

pub put_code-loop-one-preserved : goal.put_code-loop-one-preserved
put_code-loop-one-preserved t c = (
  code_next c.args.code.now c.loop-one.one-index c.one-item.result _ _ _ _ _ _ _ c.loop-one-test.true c.one-item.is c.loop-one.invariant.0 c.put_instr.ensures.made,
  rest_next c.args.code.now c.loop-one.one-index c.one-item.result _ _ _ _ _ _ _ c.loop-one-test.true c.one-item.is c.loop-one.invariant.1 c.put_instr.ensures.made
      c.put_instr.ensures.ready,
)

pub put_code-returns : goal.put_code-returns
put_code-returns t c = record {
  made = code_ended c.args.code.now c.loop-one.one-index c.args.k.now _ _ _ _ c.loop-one-test.false c.loop-one.invariant.0;
  ready = rest_ended c.args.code.now _ (world_of c.args.k.now) _ _ _ _ c.loop-one.invariant.1;
}

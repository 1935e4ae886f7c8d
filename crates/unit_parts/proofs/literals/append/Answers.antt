use Rattle.std.proofs.Common.{get_or, refl}
use Rattle.unit_parts.proofs.Laws.{more_taken}
use Rattle.unit_parts.proofs.literals.append.Goals as goal

pub loop-byte-preserved : goal.loop-byte-preserved
loop-byte-preserved c = record {
  text = more_taken c.args.bytes.now c.loop-byte.byte-index (get_or c.args.bytes.now c.loop-byte.byte-index 0) _ _ _ c.loop-byte-test.true refl
      c.loop-byte.invariant.text c.in_ok-push_byte.ensures.text;
  bytes = λ h. c.in_ok-push_byte.ensures.bytes (c.loop-byte.invariant.bytes h);
}

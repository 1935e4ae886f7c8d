use Rattle.std.proofs.Common.{arith, ◌∙◌}
use Rattle.flat_mem.proofs.AreaCode.{no_area, step}
use Rattle.flat_mem.proofs.PlanLaws.{first_words-next, first_words-done, length-first_word}
use Rattle.flat_mem.proofs.areas.write_first_words.Goals as goal

pub write_first_word-requires-clause-room : goal.write_first_word-requires-clause-room
write_first_word-requires-clause-room c = let s = step _ _ no_area _ _ c.loop-area.invariant.place c.loop-area-test.true in let b = s.bytes in omega (arith, b, c.requires.room, c.loop-area.invariant.size)

pub size_of-at-requires : goal.size_of-at-requires
size_of-at-requires c = let s = step _ _ no_area _ _ c.loop-area.invariant.place c.loop-area-test.true in let b = s.bytes in omega (arith, b, c.requires.room, c.requires.small)

pub overflow_add-at : goal.overflow_add-at
overflow_add-at c = let s = step _ _ no_area _ _ c.loop-area.invariant.place c.loop-area-test.true in let b = s.before in omega (arith, b, c.requires.room, c.requires.small, c.size_of-at.ensures)

pub loop-area-preserved : goal.loop-area-preserved
loop-area-preserved c =
    let s = step _ _ no_area _ _ c.loop-area.invariant.place c.loop-area-test.true in let n = s.next in
    record {
      written = first_words-next _ _ _ _ _ _ _ _ _ c.loop-area.invariant.written c.loop-area-test.true c.write_first_word.ensures c.size_of-at.ensures;
      place = omega (arith, n, c.size_of-at.ensures);
      size = length-first_word _ _ _ _ c.write_first_word.ensures ∙ c.loop-area.invariant.size;
    }

pub returns : goal.returns
returns c = first_words-done _ _ _ _ _ _ c.loop-area.invariant.written c.loop-area-test.false

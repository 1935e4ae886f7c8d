use Rattle.std.proofs.Common.{add-one, refl}
use Rattle.check_insert.proofs.Laws.{grows_failed}
use Rattle.cure_scope.specs.Scopes.{world_of}
use Rattle.cure_instrs.proofs.PieceLaws.{refused}
use Rattle.cure_calls.proofs.CallLaws.{no_arguments, one_argument, no_room}
use Rattle.cure_calls.proofs.calling.+put_arguments.Goals as goal

pub returns-in-None : goal.returns-in-None
returns-in-None t c = no_arguments (world_of c.args.k.now) c.args.n c.args.parameters.now c.args.j _ _ c.in-None.ensures.cases c.keep.ensures

pub returns-then-has_room : goal.returns-then-has_room
returns-then-has_room t c =
    let h = c.in-Some.ensures.cases in
    let room = rw c.words_in-words.ensures.value at (c.if-has_room.ensures.room refl) in
    rw h.0 (one_argument (world_of c.args.k.now) c.args.n c.in-Some.t.now c.in-Some.rest.now c.args.j _ _ _ room
    (rw (c.words_in-words.ensures.value, c.column.ensures.value) at c.put_copies.ensures)
    (rw (c.words_in-words.ensures.value, add-one) at c.put_arguments.ensures))

pub returns-else-has_room : goal.returns-else-has_room
returns-else-has_room t c =
    let h = c.in-Some.ensures.cases in
    let exact = rw c.words_in-words.ensures.value at c.has_room.ensures.exact in
    rw h.0 (refused _ _ _ _ c.refuse.ensures (no_room (world_of c.args.k.now) c.args.n c.in-Some.t.now c.in-Some.rest.now c.args.j
    (λ a b. let e = exact a b in let f = c.if-has_room.false in cc)))

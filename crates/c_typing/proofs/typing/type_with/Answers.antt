use Rattle.c_typing.specs.Judging.{known}
use Rattle.c_typing.proofs.GrowingLaws.{type_with-grows}
use Rattle.c_typing.proofs.TypeSearch.{type_with-ok, type_with-limit}
use Rattle.c_typing.proofs.typing.type_with.Goals as goal

pub returns-in-Ok-clause-answers : goal.returns-in-Ok-clause-answers
returns-in-Ok-clause-answers c =
    type_with-ok c.args.types.now c.add.new.self c.args.scope.now c.args.at c.args.shape c.in-Ok.t (record {
      known = c.in-Ok.ensures.known;
      added = c.in-Ok.ensures.added;
      types = c.in-Ok.ensures.types;
      object = c.in-Ok.ensures.object;
      refused = c.in-Ok.ensures.unchanged;
    })

pub returns-in-Err-TooLarge-clause-answers : goal.returns-in-Err-TooLarge-clause-answers
returns-in-Err-TooLarge-clause-answers c = λ _.
    type_with-limit c.args.types.now c.add.new.self c.args.scope.now c.args.at c.args.shape c.in-Err-TooLarge.limit
    (rw c.in-Err-TooLarge.field-0-is at c.in-Err-TooLarge.ensures.refused) (record {
      known = rw c.in-Err-TooLarge.field-0-is at c.in-Err-TooLarge.ensures.known;
      added = c.in-Err-TooLarge.ensures.added;
      types = rw c.in-Err-TooLarge.field-0-is at c.in-Err-TooLarge.ensures.types;
      object = rw c.in-Err-TooLarge.field-0-is at c.in-Err-TooLarge.ensures.object;
      refused = c.in-Err-TooLarge.ensures.unchanged;
    })

pub returns-in-Ok-clause-grows : goal.returns-in-Ok-clause-grows
returns-in-Ok-clause-grows c = λ any first h.
    type_with-grows c.args.at c.args.shape c.in-Ok.t (known c.args.types.now c.args.scope.now) (known c.add.new.self c.args.scope.now)
    (type_with-ok c.args.types.now c.add.new.self c.args.scope.now c.args.at c.args.shape c.in-Ok.t (record {
      known = c.in-Ok.ensures.known;
      added = c.in-Ok.ensures.added;
      types = c.in-Ok.ensures.types;
      object = c.in-Ok.ensures.object;
      refused = c.in-Ok.ensures.unchanged;
    })) any first h

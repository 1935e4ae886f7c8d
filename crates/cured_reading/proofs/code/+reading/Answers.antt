use Rattle.std.proofs.Common.{arith, ◌<◌, ◌≤◌, ◌∷◌, [], ◌≡◌, ◌++◌, ◌∙◌, true, false, ap, sym, subst, refl}
use Rattle.std.specs.Fmt.{decimal}
use Rattle.std.proofs.lemmas.Result.{IfErr-weaker, on_ok_weaker}
use Rattle.cured_code.specs.Ranges.{Names, AreInstrsInRange, flat_nest_limit}
use Rattle.cured_spelling.specs.Lines.{Number, words_text}
use Rattle.cured_reading.specs.Faults.{Part}
use Rattle.cured_reading.specs.Openings.{closing_line}
use Rattle.cured_reading.specs.Refusals.{IsBegun}
use Rattle.cured_reading.proofs.BodyLaws.{begun, no-line, no-name-there, straight-read, straight-refused, else-refused, end-refused, closed, if-unread, if-nested, if-out, if-read, held-unread, held-nested, held-read}
use Rattle.cured_reading.proofs.ExitLaws.{exit-passes}
use Rattle.cured_reading.proofs.PartLaws.{part-ended, pushed, block-read, loop-read, if-read as if-spelled, straight-spelled, branch-spelled, line-shorter, instrs-push, if-in_range, block-in_range, loop-in_range}
use Rattle.cured_reading.proofs.RefusalLaws.{read-on, refused-on, refused-as, wanted}
use Rattle.cured_reading.proofs.WordLaws.{after-field}
use Rattle.cured_reading.proofs.code.+reading.Goals as goal

-- The parts of an `if`

pub branch-returns-clause-spelled : goal.branch-returns-clause-spelled
branch-returns-clause-spelled t c =
    if-spelled c.in_ok-a-2.a _ c.in_ok-first.first c.in_ok-second.second _ _ _ _ _ c.in_ok-a-2.ensures.same c.in_ok-a.ensures.cut c.in_ok-end.ensures.ended c.in_ok-first.ensures.spelled c.in_ok-second.ensures.spelled

pub branch-returns-in_err-a-clause-refused : goal.branch-returns-in_err-a-clause-refused
branch-returns-in_err-a-clause-refused t c =
    exit-passes c.from_residual.result _ _ c.from_residual.ensures.1
    (λ before closing parts rest g.
    refused-as _ _ _ _ _ c.in_err-a.ensures.none.0
    (if-unread c.args.names.now closing parts rest _ before c.args.lines.now g (λ slot small e. c.in_err-a.ensures.none.1 slot [] (small, tt) e)))

pub branch-returns-in_err-end-clause-refused : goal.branch-returns-in_err-end-clause-refused
branch-returns-in_err-end-clause-refused t c =
    exit-passes c.from_residual-in_err-end.result _ _ c.from_residual-in_err-end.ensures.1
    (λ before closing parts rest g.
    refused-as _ _ _ _ _ c.in_err-end.ensures.more.0
    (if-unread c.args.names.now closing parts rest _ before c.args.lines.now g (λ slot small e.
    c.in_err-end.ensures.more.1
    (after-field _ _ (Number c.in_ok-a.a) (Number slot) [] c.in_ok-a.ensures.small small c.in_ok-a.ensures.ends c.in_ok-a.ensures.cut e))))

pub branch-returns-then-names-ge-NEST_LIMIT-clause-refused : goal.branch-returns-then-names-ge-NEST_LIMIT-clause-refused
branch-returns-then-names-ge-NEST_LIMIT-clause-refused t c =
    λ before closing parts rest g.
    if-nested c.args.names.now closing parts rest _ before c.args.lines.now g c.in_ok-a.a c.in_ok-a.ensures.small (c.in_ok-a.ensures.cut ∙ ap (λ l. 32 ∷ (decimal c.in_ok-a.a ++ l)) c.in_ok-end.ensures.ended) (subst (λ (n : Names). flat_nest_limit ≤ n.nest) c.names.view_is c.if-names-ge-NEST_LIMIT.true)

pub branch-returns-in_err-a-2-clause-refused : goal.branch-returns-in_err-a-2-clause-refused
branch-returns-in_err-a-2-clause-refused t c =
    let few = c.requires in
    exit-passes c.from_residual-in_err-a-2.result _ _ c.from_residual-in_err-a-2.ensures.1
    (λ before closing parts rest g.
    refused-as _ _ _ _ _ c.in_err-a-2.ensures.over.0
    (if-out c.args.names.now closing parts rest _ before c.args.lines.now g c.in_ok-a.a c.in_ok-a.ensures.small (c.in_ok-a.ensures.cut ∙ ap (λ l. 32 ∷ (decimal c.in_ok-a.a ++ l)) c.in_ok-end.ensures.ended) (subst (λ (n : Names). n.nest < flat_nest_limit) c.names.view_is c.if-names-ge-NEST_LIMIT.false)
    (omega (arith, few.slots, c.in_err-a-2.ensures.over.1))))

pub branch-returns-then-a-names-clause-refused : goal.branch-returns-then-a-names-clause-refused
branch-returns-then-a-names-clause-refused t c =
    λ before closing parts rest g.
    if-out c.args.names.now closing parts rest _ before c.args.lines.now g c.in_ok-a.a c.in_ok-a.ensures.small (c.in_ok-a.ensures.cut ∙ ap (λ l. 32 ∷ (decimal c.in_ok-a.a ++ l)) c.in_ok-end.ensures.ended) (subst (λ (n : Names). n.nest < flat_nest_limit) c.names.view_is c.if-names-ge-NEST_LIMIT.false)
    (omega (arith, c.in_ok-a-2.ensures.same, subst (λ (n : Names). n.slots ≤ c.in_ok-a-2.a) c.names.view_is c.if-a-names.true))

pub branch-returns-in_err-first-clause-refused : goal.branch-returns-in_err-first-clause-refused
branch-returns-in_err-first-clause-refused t c =
    exit-passes c.from_residual-in_err-first.result _ _ c.from_residual-in_err-first.ensures.1
    (λ before closing parts rest g.
    let here : Part = record { names = c.args.names.now; closing = closing } in
    refused-on _ _ _ _ _ _ (if-read c.args.names.now closing parts rest _ before c.args.lines.now g c.in_ok-a.a c.inside_if-inner.result c.inside_if-inner.ensures c.in_ok-a.ensures.small
    (c.in_ok-a.ensures.cut ∙ ap (λ l. 32 ∷ (decimal c.in_ok-a.a ++ l)) c.in_ok-end.ensures.ended) (subst (λ (n : Names). n.nest < flat_nest_limit) c.names.view_is c.if-names-ge-NEST_LIMIT.false)
    (omega (arith, c.in_ok-a-2.ensures.same, subst (λ (n : Names). c.in_ok-a-2.a < n.slots) c.names.view_is c.if-a-names.false))) (c.in_err-first.ensures.refused (here ∷ parts) rest))

pub branch-returns-in_err-second-clause-refused : goal.branch-returns-in_err-second-clause-refused
branch-returns-in_err-second-clause-refused t c =
    exit-passes c.from_residual-in_err-second.result _ _ c.from_residual-in_err-second.ensures.1
    (λ before closing parts rest g.
    let here : Part = record { names = c.args.names.now; closing = closing } in
    refused-on _ _ _ _ _ _ (read-on _ _ _ _ _ _ (if-read c.args.names.now closing parts rest _ before c.args.lines.now g c.in_ok-a.a c.inside_if-inner.result c.inside_if-inner.ensures c.in_ok-a.ensures.small
    (c.in_ok-a.ensures.cut ∙ ap (λ l. 32 ∷ (decimal c.in_ok-a.a ++ l)) c.in_ok-end.ensures.ended) (subst (λ (n : Names). n.nest < flat_nest_limit) c.names.view_is c.if-names-ge-NEST_LIMIT.false)
    (omega (arith, c.in_ok-a-2.ensures.same, subst (λ (n : Names). c.in_ok-a-2.a < n.slots) c.names.view_is c.if-a-names.false))) (c.in_ok-first.ensures.read (here ∷ parts) rest))
    (c.in_err-second.ensures.refused (here ∷ parts) rest))

pub branch-returns-clause-read : goal.branch-returns-clause-read
branch-returns-clause-read t c =
    λ before closing parts rest g.
    let here : Part = record { names = c.args.names.now; closing = closing } in
    read-on _ _ _ _ _ _ (read-on _ _ _ _ _ _ (if-read c.args.names.now closing parts rest _ before c.args.lines.now g c.in_ok-a.a c.inside_if-inner.result c.inside_if-inner.ensures c.in_ok-a.ensures.small
    (c.in_ok-a.ensures.cut ∙ ap (λ l. 32 ∷ (decimal c.in_ok-a.a ++ l)) c.in_ok-end.ensures.ended) (subst (λ (n : Names). n.nest < flat_nest_limit) c.names.view_is c.if-names-ge-NEST_LIMIT.false)
    (omega (arith, c.in_ok-a-2.ensures.same, subst (λ (n : Names). c.in_ok-a-2.a < n.slots) c.names.view_is c.if-a-names.false))) (c.in_ok-first.ensures.read (here ∷ parts) rest)) (c.in_ok-second.ensures.read (here ∷ parts) rest)

pub branch-returns-clause-kept : goal.branch-returns-clause-kept
branch-returns-clause-kept t c =
    if-in_range c.args.names.now c.in_ok-a-2.a c.in_ok-first.first c.in_ok-second.second (subst (λ (n : Names). c.in_ok-a-2.a < n.slots) c.names.view_is c.if-a-names.false) (subst (λ (n : Names). n.nest < flat_nest_limit) c.names.view_is c.if-names-ge-NEST_LIMIT.false)
    (subst (λ n. AreInstrsInRange n c.in_ok-first.first.0.items) c.inside_if-inner.ensures c.in_ok-first.ensures.kept)
    (subst (λ n. AreInstrsInRange n c.in_ok-second.second.0.items) c.inside_if-inner.ensures c.in_ok-second.ensures.kept)

-- The part of a block or a loop

pub held-returns-in_err-end-clause-refused : goal.held-returns-in_err-end-clause-refused
held-returns-in_err-end-clause-refused t c =
    exit-passes c.from_residual.result _ _ c.from_residual.ensures.1
    (λ is_loop before closing parts rest g.
    refused-as _ _ _ _ _ c.in_err-end.ensures.more.0
    (held-unread c.args.names.now closing parts rest _ before c.args.lines.now is_loop g c.in_err-end.ensures.more.1))

pub held-returns-then-names-ge-NEST_LIMIT-clause-refused : goal.held-returns-then-names-ge-NEST_LIMIT-clause-refused
held-returns-then-names-ge-NEST_LIMIT-clause-refused t c =
    λ is_loop before closing parts rest g.
    held-nested c.args.names.now closing parts rest _ before c.args.lines.now is_loop g c.in_ok-end.ensures.ended (subst (λ (n : Names). flat_nest_limit ≤ n.nest) c.names.view_is c.if-names-ge-NEST_LIMIT.true)

pub held-returns-clause-read : goal.held-returns-clause-read
held-returns-clause-read t c =
    on_ok_weaker c.part.result
    (λ h is_loop before closing parts rest g.
    let here : Part = record { names = c.args.names.now; closing = closing } in
    read-on _ _ _ _ _ _ (held-read c.args.names.now closing parts rest _ before c.args.lines.now is_loop c.inside_block-inner.result c.inside_block-inner.ensures g
    c.in_ok-end.ensures.ended (subst (λ (n : Names). n.nest < flat_nest_limit) c.names.view_is c.if-names-ge-NEST_LIMIT.false)) (h (here ∷ parts) rest))
    c.part.ensures.read

pub held-returns-clause-refused : goal.held-returns-clause-refused
held-returns-clause-refused t c =
    IfErr-weaker c.part.result _ _
    (λ why h is_loop before closing parts rest g.
    let here : Part = record { names = c.args.names.now; closing = closing } in
    refused-on _ _ _ _ _ _ (held-read c.args.names.now closing parts rest _ before c.args.lines.now is_loop c.inside_block-inner.result c.inside_block-inner.ensures g
    c.in_ok-end.ensures.ended (subst (λ (n : Names). n.nest < flat_nest_limit) c.names.view_is c.if-names-ge-NEST_LIMIT.false)) (h (here ∷ parts) rest))
    c.part.ensures.refused

-- A part

pub part-returns-in_err-fields-clause-refused : goal.part-returns-in_err-fields-clause-refused
part-returns-in_err-fields-clause-refused t c =
    exit-passes c.from_residual.result _ _ c.from_residual.ensures.1
    (λ parts rest.
    refused-on _ _ _ _ _ _ (c.reading.invariant.read parts rest)
    (refused-as _ _ _ _ _ c.in_err-fields.ensures.none.0
    (no-line c.args.names.now c.args.closing parts rest _ _ c.in_err-fields.ensures.none.1 c.in_err-fields.ensures.still)))

pub part-returns-in_err-name-clause-refused : goal.part-returns-in_err-name-clause-refused
part-returns-in_err-name-clause-refused t c =
    exit-passes c.from_residual-in_err-name.result _ _ c.from_residual-in_err-name.ensures.1
    (λ parts rest.
    refused-on _ _ _ _ _ _ (c.reading.invariant.read parts rest)
    (refused-as _ _ _ _ _ c.in_err-name.ensures.none.0
    (no-name-there c.args.names.now c.args.closing parts rest _ _ _ _ c.in_ok-fields.ensures.cut c.in_ok-fields.ensures.whole c.in_ok-fields.ensures.counted
    c.in_err-name.ensures.none.1)))

pub part-returns-in_err-close-in-Else-clause-refused : goal.part-returns-in_err-close-in-Else-clause-refused
part-returns-in_err-close-in-Else-clause-refused t c =
    exit-passes c.from_residual-in_err-close-in-Else.result _ _ c.from_residual-in_err-close-in-Else.ensures.1
    (λ parts rest.
    refused-on _ _ _ _ _ _ (c.reading.invariant.read parts rest)
    (refused-as _ _ _ _ _ c.in_err-close-in-Else.ensures.open.0
    (else-refused c.args.names.now parts rest _ c.reading.lines c.next.new.self c.args.closing
    (subst (λ n. IsBegun n c.name.new.self c.reading.lines c.next.new.self) c.in-Else.ensures
    (begun _ _ _ c.reading.lines c.next.new.self c.in_ok-fields.ensures.cut c.in_ok-fields.ensures.whole c.in_ok-fields.ensures.counted c.in_ok-name.ensures.cut
    c.in_ok-name.ensures.word))
    (λ same e. c.in_err-close-in-Else.ensures.open.1 (sym same) e))))

pub part-returns-in-Else-clause-spelled : goal.part-returns-in-Else-clause-spelled
part-returns-in-Else-clause-spelled t c =
    part-ended (closing_line c.args.closing) _ _ _ _ _ _ _ c.reading.invariant.spelled c.in_ok-fields.ensures.cut c.in_ok-name.ensures.cut c.in_ok-close-in-Else.ensures.closed.1
    (c.in-Else.ensures ∙ ap (λ l. words_text (closing_line l)) c.in_ok-close-in-Else.ensures.closed.0)

pub part-returns-in-Else-clause-read : goal.part-returns-in-Else-clause-read
part-returns-in-Else-clause-read t c =
    λ parts rest.
    read-on _ _ _ _ _ _ (c.reading.invariant.read parts rest)
    (closed c.args.names.now parts rest _ c.reading.lines c.next.new.self _ c.args.closing
    (begun _ _ _ c.reading.lines c.next.new.self c.in_ok-fields.ensures.cut c.in_ok-fields.ensures.whole c.in_ok-fields.ensures.counted c.in_ok-name.ensures.cut
    c.in_ok-name.ensures.word)
    c.in_ok-close-in-Else.ensures.closed.1
    (c.in-Else.ensures ∙ ap (λ l. words_text (closing_line l)) c.in_ok-close-in-Else.ensures.closed.0))

pub part-returns-in_err-close-in-End-clause-refused : goal.part-returns-in_err-close-in-End-clause-refused
part-returns-in_err-close-in-End-clause-refused t c =
    exit-passes c.from_residual-in_err-close-in-End.result _ _ c.from_residual-in_err-close-in-End.ensures.1
    (λ parts rest.
    refused-on _ _ _ _ _ _ (c.reading.invariant.read parts rest)
    (refused-as _ _ _ _ _ c.in_err-close-in-End.ensures.open.0
    (end-refused c.args.names.now parts rest _ c.reading.lines c.next.new.self c.args.closing
    (subst (λ n. IsBegun n c.name.new.self c.reading.lines c.next.new.self) c.in-End.ensures
    (begun _ _ _ c.reading.lines c.next.new.self c.in_ok-fields.ensures.cut c.in_ok-fields.ensures.whole c.in_ok-fields.ensures.counted c.in_ok-name.ensures.cut
    c.in_ok-name.ensures.word))
    (λ same e. c.in_err-close-in-End.ensures.open.1 (sym same) e))))

pub part-returns-in-End-clause-spelled : goal.part-returns-in-End-clause-spelled
part-returns-in-End-clause-spelled t c =
    part-ended (closing_line c.args.closing) _ _ _ _ _ _ _ c.reading.invariant.spelled c.in_ok-fields.ensures.cut c.in_ok-name.ensures.cut c.in_ok-close-in-End.ensures.closed.1
    (c.in-End.ensures ∙ ap (λ l. words_text (closing_line l)) c.in_ok-close-in-End.ensures.closed.0)

pub part-returns-in-End-clause-read : goal.part-returns-in-End-clause-read
part-returns-in-End-clause-read t c =
    λ parts rest.
    read-on _ _ _ _ _ _ (c.reading.invariant.read parts rest)
    (closed c.args.names.now parts rest _ c.reading.lines c.next.new.self _ c.args.closing
    (begun _ _ _ c.reading.lines c.next.new.self c.in_ok-fields.ensures.cut c.in_ok-fields.ensures.whole c.in_ok-fields.ensures.counted c.in_ok-name.ensures.cut
    c.in_ok-name.ensures.word)
    c.in_ok-close-in-End.ensures.closed.1
    (c.in-End.ensures ∙ ap (λ l. words_text (closing_line l)) c.in_ok-close-in-End.ensures.closed.0))

pub part-returns-in_err-straight-in-Straight-clause-refused : goal.part-returns-in_err-straight-in-Straight-clause-refused
part-returns-in_err-straight-in-Straight-clause-refused t c =
    let other = c.in-Straight.ensures in
    exit-passes c.from_residual-in_err-straight-in-Straight.result _ _ c.from_residual-in_err-straight-in-Straight.ensures.1
    (λ parts rest.
    refused-on _ _ _ _ _ _ (c.reading.invariant.read parts rest)
    (straight-refused c.args.names.now c.args.closing parts rest _ _ c.reading.lines c.next.new.self
    (begun _ _ _ c.reading.lines c.next.new.self c.in_ok-fields.ensures.cut c.in_ok-fields.ensures.whole c.in_ok-fields.ensures.counted c.in_ok-name.ensures.cut
    c.in_ok-name.ensures.word)
    _ c.in_err-straight-in-Straight.ensures.bad other.0 other.1 other.2 other.3 other.4))

pub part-reading-preserved-in_ok-push-in-Straight : goal.part-reading-preserved-in_ok-push-in-Straight
part-reading-preserved-in_ok-push-in-Straight t c = record {
  spelled = pushed _ _ _ _ _ _ c.reading.invariant.spelled
      (straight-spelled c.in_ok-straight-in-Straight.field-0 _ _ _ c.name.new.self _ c.in_ok-fields.ensures.cut c.in_ok-name.ensures.cut c.in_ok-straight-in-Straight.ensures.spelled)
      c.in_ok-push-in-Straight.ensures.items;
  shorter = omega (arith, line-shorter _ _ _ c.in_ok-fields.ensures.cut, c.reading.invariant.shorter);
  kept = instrs-push c.args.names.now _ _ _ c.in_ok-push-in-Straight.ensures.items c.reading.invariant.kept c.in_ok-straight-in-Straight.ensures.kept;
  read = λ parts rest.
      read-on _ _ _ _ _ _ (c.reading.invariant.read parts rest)
      (straight-read c.args.names.now c.args.closing parts rest _ _ c.reading.lines c.next.new.self
      (begun _ _ _ c.reading.lines c.next.new.self c.in_ok-fields.ensures.cut c.in_ok-fields.ensures.whole c.in_ok-fields.ensures.counted c.in_ok-name.ensures.cut
      c.in_ok-name.ensures.word)
      _ c.in_ok-straight-in-Straight.ensures.line.0 c.in_ok-straight-in-Straight.ensures.line.1 c.in_ok-straight-in-Straight.ensures.kept);
}

pub part-returns-in_err-branch-in-If-clause-refused : goal.part-returns-in_err-branch-in-If-clause-refused
part-returns-in_err-branch-in-If-clause-refused t c =
    exit-passes c.from_residual-in_err-branch-in-If.result _ _ c.from_residual-in_err-branch-in-If.ensures.1
    (λ parts rest.
    refused-on _ _ _ _ _ _ (c.reading.invariant.read parts rest)
    (c.in_err-branch-in-If.ensures.refused c.reading.lines c.args.closing parts rest
    (subst (λ n. IsBegun n c.name.new.self c.reading.lines c.next.new.self) c.in-If.ensures
    (begun _ _ _ c.reading.lines c.next.new.self c.in_ok-fields.ensures.cut c.in_ok-fields.ensures.whole c.in_ok-fields.ensures.counted c.in_ok-name.ensures.cut
    c.in_ok-name.ensures.word))))

pub part-reading-preserved-in_ok-push-in-If : goal.part-reading-preserved-in_ok-push-in-If
part-reading-preserved-in_ok-push-in-If t c = record {
  spelled = pushed _ _ _ _ _ _ c.reading.invariant.spelled
      (branch-spelled c.in_ok-branch-in-If.field-0 _ _ _ c.name.new.self _ _ c.in_ok-fields.ensures.cut c.in_ok-name.ensures.cut c.in-If.ensures c.in_ok-branch-in-If.ensures.spelled)
      c.in_ok-push-in-If.ensures.items;
  shorter = omega (arith, c.in_ok-branch-in-If.ensures.shorter, line-shorter _ _ _ c.in_ok-fields.ensures.cut, c.reading.invariant.shorter);
  kept = instrs-push c.args.names.now _ _ _ c.in_ok-push-in-If.ensures.items c.reading.invariant.kept c.in_ok-branch-in-If.ensures.kept;
  read = λ parts rest.
      read-on _ _ _ _ _ _ (c.reading.invariant.read parts rest)
      (c.in_ok-branch-in-If.ensures.read c.reading.lines c.args.closing parts rest
      (subst (λ n. IsBegun n c.name.new.self c.reading.lines c.next.new.self) c.in-If.ensures
      (begun _ _ _ c.reading.lines c.next.new.self c.in_ok-fields.ensures.cut c.in_ok-fields.ensures.whole c.in_ok-fields.ensures.counted c.in_ok-name.ensures.cut
      c.in_ok-name.ensures.word)));
}

pub part-returns-in_err-code-in-Block-clause-refused : goal.part-returns-in_err-code-in-Block-clause-refused
part-returns-in_err-code-in-Block-clause-refused t c =
    exit-passes c.from_residual-in_err-code-in-Block.result _ _ c.from_residual-in_err-code-in-Block.ensures.1
    (λ parts rest.
    refused-on _ _ _ _ _ _ (c.reading.invariant.read parts rest)
    (c.in_err-code-in-Block.ensures.refused false c.reading.lines c.args.closing parts rest
    (subst (λ n. IsBegun n c.name.new.self c.reading.lines c.next.new.self) c.in-Block.ensures
    (begun _ _ _ c.reading.lines c.next.new.self c.in_ok-fields.ensures.cut c.in_ok-fields.ensures.whole c.in_ok-fields.ensures.counted c.in_ok-name.ensures.cut
    c.in_ok-name.ensures.word))))

pub part-reading-preserved-in_ok-push-in-Block : goal.part-reading-preserved-in_ok-push-in-Block
part-reading-preserved-in_ok-push-in-Block t c = record {
  spelled = pushed _ _ _ _ _ _ c.reading.invariant.spelled
      (block-read c.in_ok-code-in-Block.code _ _ _ _ _ _ c.in_ok-fields.ensures.cut c.in_ok-name.ensures.cut c.in_ok-code-in-Block.ensures.fields c.in-Block.ensures c.in_ok-code-in-Block.ensures.spelled)
      c.in_ok-push-in-Block.ensures.items;
  shorter = omega (arith, c.in_ok-code-in-Block.ensures.shorter, line-shorter _ _ _ c.in_ok-fields.ensures.cut, c.reading.invariant.shorter);
  kept = instrs-push c.args.names.now _ _ _ c.in_ok-push-in-Block.ensures.items c.reading.invariant.kept
      (block-in_range c.args.names.now c.in_ok-code-in-Block.code c.in_ok-code-in-Block.ensures.nest c.in_ok-code-in-Block.ensures.kept);
  read = λ parts rest.
      read-on _ _ _ _ _ _ (c.reading.invariant.read parts rest)
      (c.in_ok-code-in-Block.ensures.read false c.reading.lines c.args.closing parts rest
      (subst (λ n. IsBegun n c.name.new.self c.reading.lines c.next.new.self) c.in-Block.ensures
      (begun _ _ _ c.reading.lines c.next.new.self c.in_ok-fields.ensures.cut c.in_ok-fields.ensures.whole c.in_ok-fields.ensures.counted c.in_ok-name.ensures.cut
      c.in_ok-name.ensures.word)));
}

pub part-returns-in_err-code-in-Loop-clause-refused : goal.part-returns-in_err-code-in-Loop-clause-refused
part-returns-in_err-code-in-Loop-clause-refused t c =
    exit-passes c.from_residual-in_err-code-in-Loop.result _ _ c.from_residual-in_err-code-in-Loop.ensures.1
    (λ parts rest.
    refused-on _ _ _ _ _ _ (c.reading.invariant.read parts rest)
    (c.in_err-code-in-Loop.ensures.refused true c.reading.lines c.args.closing parts rest
    (subst (λ n. IsBegun n c.name.new.self c.reading.lines c.next.new.self) c.in-Loop.ensures
    (begun _ _ _ c.reading.lines c.next.new.self c.in_ok-fields.ensures.cut c.in_ok-fields.ensures.whole c.in_ok-fields.ensures.counted c.in_ok-name.ensures.cut
    c.in_ok-name.ensures.word))))

pub part-reading-preserved : goal.part-reading-preserved
part-reading-preserved t c = record {
  spelled = pushed _ _ _ _ _ _ c.reading.invariant.spelled
      (loop-read c.in_ok-code-in-Loop.code _ _ _ _ _ _ c.in_ok-fields.ensures.cut c.in_ok-name.ensures.cut c.in_ok-code-in-Loop.ensures.fields c.in-Loop.ensures c.in_ok-code-in-Loop.ensures.spelled)
      c.in_ok-push-in-Loop.ensures.items;
  shorter = omega (arith, c.in_ok-code-in-Loop.ensures.shorter, line-shorter _ _ _ c.in_ok-fields.ensures.cut, c.reading.invariant.shorter);
  kept = instrs-push c.args.names.now _ _ _ c.in_ok-push-in-Loop.ensures.items c.reading.invariant.kept
      (loop-in_range c.args.names.now c.in_ok-code-in-Loop.code c.in_ok-code-in-Loop.ensures.nest c.in_ok-code-in-Loop.ensures.kept);
  read = λ parts rest.
      read-on _ _ _ _ _ _ (c.reading.invariant.read parts rest)
      (c.in_ok-code-in-Loop.ensures.read true c.reading.lines c.args.closing parts rest
      (subst (λ n. IsBegun n c.name.new.self c.reading.lines c.next.new.self) c.in-Loop.ensures
      (begun _ _ _ c.reading.lines c.next.new.self c.in_ok-fields.ensures.cut c.in_ok-fields.ensures.whole c.in_ok-fields.ensures.counted c.in_ok-name.ensures.cut
      c.in_ok-name.ensures.word)));
}

use Rattle.std.proofs.Common.{ap, subst, ◌∙◌, ℕ, [], ◌∷◌, ◌++◌, length, arith}
use Rattle.cure_code.specs.Settings.{AreMade, whole_in}
use Rattle.cure_code.proofs.Elements.{item_at}
use Rattle.cure_code.proofs.ProgramLaws.{made_none, made_more}
use Rattle.cure_code.proofs.programs.functions_of.Goals as goal

pub functions-init : goal.functions-init
functions-init c =
    made_none (whole_in c.args.w.now) c.args.w.now.program.now c.in_ok-start.field-0 c.push.new.self.items
    (c.in_ok-push.ensures.items ∙ ap (λ xs. xs ++ c.in_ok-start.field-0 ∷ []) c.new-made.ensures.items) c.in_ok-start.ensures

pub function-requires-clause-function : goal.function-requires-clause-function
function-requires-clause-function c =
    item_at c.as_slice-all.result.now c.args.w.now.program.now.functions c.functions.i c.index-all-i.result
    (c.as_slice-all.ensures.value ∙ c.functions-2.view_is) c.index-all-i.is c.functions-test.true

pub functions-preserved : goal.functions-preserved
functions-preserved c =
    made_more (whole_in c.args.w.now) c.args.w.now.program.now c.functions.i c.index-all-i.result c.in_ok-function.field-0 c.functions.made.items c.push-in-functions.new.self.items
    c.functions.invariant c.in_ok-push-2.ensures.items
    (item_at c.as_slice-all.result.now c.args.w.now.program.now.functions c.functions.i c.index-all-i.result (c.as_slice-all.ensures.value ∙ c.functions-2.view_is) c.index-all-i.is c.functions-test.true)
    c.in_ok-function.ensures

pub returns : goal.returns
returns c =
    let same = ap length (c.as_slice-all.ensures.value ∙ c.functions-2.view_is) in
    let end = c.functions.auto.i-end in
    let test = c.functions-test.false in
    subst (λ (n : ℕ). AreMade (whole_in c.args.w.now) c.args.w.now.program.now n c.functions.made.items) (omega (arith, same, end, test)) c.functions.invariant

use Rattle.std.proofs.Common.{◌≡◌, sym, ap, ◌∙◌, ◌-◌, length, slice_set}
use Rattle.named_lists.proofs.StackLaws.{with-none}
use Rattle.named_lists.proofs.stacks.set_last.Goals as goal

pub returns-then-count-eq0 : goal.returns-then-count-eq0
returns-then-count-eq0 g c =
    let e : c.len-count.result ≡ length c.args.stack.now.items = c.len-count.ensures ∙ c.args.stack.now.ok.0 in
    with-none c.args.stack.now.items c.args.what (sym e ∙ c.if-count-eq0.true)

pub returns : goal.returns
returns g c =
    let e : c.len-count.result ≡ length c.args.stack.now.items = c.len-count.ensures ∙ c.args.stack.now.ok.0 in
    ap (λ n. slice_set c.args.stack.now.items (n - 1) c.args.what) e

use Rattle.std.proofs.Common.{refl, sym, ap}
use Rattle.named_lists.specs.Stacks.{with_top}
use Rattle.named_lists.proofs.StackLaws.{unwritten, written}
use Rattle.named_lists.proofs.stacks.NameStacks.set_top.Goals as goal

pub returns : goal.returns
returns g c =
    written (λ k. k.items) (λ v. v.items) (with_top c.args.what) c.args.name.now _ (λ k. refl) c.self.inside.stacks.entries
    (c.get_mut.follows.lender c.set_last.new.stack).entries
    c.args.self.now c.self.view_is c.in-Some.stack.now c.set_last.new.stack (sym c.in-Some.ensures.value)
    (c.get_mut.follows.holds c.set_last.new.stack).0 c.set_last.ensures

pub returns-in-None : goal.returns-in-None
returns-in-None g c =
    unwritten (λ k. k.items) (λ v. v.items) (with_top c.args.what) c.args.name.now _
    (λ k. refl) c.self.inside.stacks.entries c.get_mut.follows.lender-at-none.entries
    c.args.self.now c.self.view_is (sym c.in-None.ensures.value) (ap (λ m. m.entries) c.get_mut.follows.holds-at-none) refl

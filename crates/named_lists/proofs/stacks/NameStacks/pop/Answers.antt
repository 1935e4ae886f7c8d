use Rattle.std.proofs.Common.{refl, sym, ap, ◌∙◌, ◌-◌, take}
use Rattle.named_lists.specs.Stacks.{without_top}
use Rattle.named_lists.proofs.StackLaws.{unwritten, written}
use Rattle.named_lists.proofs.stacks.NameStacks.pop.Goals as goal

pub returns : goal.returns
returns g c =
    written (λ k. k.items) (λ v. v.items) without_top c.args.name.now _ (λ k. refl) c.self.inside.stacks.entries
    (c.get_mut.follows.lender c.pop.new.self).entries
    c.args.self.now c.self.view_is c.in-Some.stack.now c.pop.new.self (sym c.in-Some.ensures.value) (c.get_mut.follows.holds c.pop.new.self).0
    (c.pop.ensures.rest ∙ ap (λ n. take (n - 1) c.in-Some.stack.now.items) c.in-Some.stack.now.ok.0)

pub returns-in-None : goal.returns-in-None
returns-in-None g c =
    unwritten (λ k. k.items) (λ v. v.items) without_top c.args.name.now _ (λ k. refl) c.self.inside.stacks.entries c.get_mut.follows.lender-at-none.entries
    c.args.self.now c.self.view_is (sym c.in-None.ensures.value) (ap (λ m. m.entries) c.get_mut.follows.holds-at-none) refl

use Rattle.std.proofs.Common.{refl, sym, ap, subst, ◌∙◌, ◌++◌, ◌∷◌, []}
use Rattle.named_lists.specs.Stacks.{stack_of, seen_stacks, ChangesStack}
use Rattle.named_lists.proofs.StackLaws.{on-err, stack-absent, stack-alike, stays-same, written}
use Rattle.named_lists.proofs.stacks.NameStacks.push.Goals as goal

pub returns-in_ok-push-in-Some-clause-pushed : goal.returns-in_ok-push-in-Some-clause-pushed
returns-in_ok-push-in-Some-clause-pushed g c =
    written (λ k. k.items) (λ v. v.items) (λ stack. stack ++ c.args.what ∷ []) c.args.name.now _ (λ k. refl) c.self.inside.stacks.entries
    (c.get_mut.follows.lender c.push.new.self).entries c.args.self.now c.self.view_is c.in-Some.stack.now c.push.new.self (sym c.in-Some.ensures.value)
    (c.get_mut.follows.holds c.push.new.self).0 c.in_ok-push-in-Some.ensures.items

pub returns-in_err-push-in-Some-clause-unchanged : goal.returns-in_err-push-in-Some-clause-unchanged
returns-in_err-push-in-Some-clause-unchanged g c =
    on-err _ c.from_residual.result (stays-same c.args.name.now c.args.self.now _
    (written (λ k. k.items) (λ v. v.items) (λ stack. stack) c.args.name.now _ (λ k. refl) c.self.inside.stacks.entries
    (c.get_mut.follows.lender c.push.new.self).entries c.args.self.now c.self.view_is c.in-Some.stack.now c.push.new.self (sym c.in-Some.ensures.value)
    (c.get_mut.follows.holds c.push.new.self).0 c.in_err-push-in-Some.ensures.items))

pub returns-in_ok-begin-in-None-clause-pushed : goal.returns-in_ok-begin-in-None-clause-pushed
returns-in_ok-begin-in-None-clause-pushed g c =
    let none = stack-absent (λ k. k.items) (λ v. v.items) c.args.name.now _ (λ k. refl) c.self.inside.stacks.entries (sym c.in-None.ensures.value) in
    subst (λ s. ChangesStack c.args.name.now (λ stack. stack ++ c.args.what ∷ []) s c.begin.new.self)
    (ap (λ m. seen_stacks (λ k. k.items) (λ v. v.items) m.entries) c.get_mut.follows.holds-at-none ∙ c.self.view_is)
    (stack-alike (λ stack. c.args.what ∷ []) (λ stack. stack ++ c.args.what ∷ []) c.args.name.now [] _ c.begin.new.self
    (ap (λ m. stack_of (seen_stacks (λ k. k.items) (λ v. v.items) m.entries) c.args.name.now) c.get_mut.follows.holds-at-none
    ∙ none) refl c.in_ok-begin-in-None.ensures.begun)

pub returns-in_err-begin-in-None-clause-unchanged : goal.returns-in_err-begin-in-None-clause-unchanged
returns-in_err-begin-in-None-clause-unchanged g c =
    on-err _ c.from_residual-in_err-begin-in-None.result (λ n.
    ap (λ s. stack_of s n) (c.in_err-begin-in-None.ensures.unchanged
    ∙ ap (λ m. seen_stacks (λ k. k.items) (λ v. v.items) m.entries) c.get_mut.follows.holds-at-none ∙ c.self.view_is))

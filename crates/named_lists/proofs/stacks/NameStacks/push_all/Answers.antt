use Rattle.std.proofs.Common.{◌≡◌, refl, sym, ap, ◌∙◌, ◌+◌, ◌-◌, [], ◌∷◌, ◌++◌, length, take, append-nil, length-append, arith}
use Rattle.named_lists.specs.Entries.{seen_entries}
use Rattle.named_lists.specs.Stacks.{stack_of, with_each}
use Rattle.named_lists.proofs.StackLaws.{all-pushed, done-taken, next-pushed, none-left}
use Rattle.named_lists.proofs.stacks.NameStacks.push_all.Goals as goal

pub names-init : goal.names-init
names-init g c = ([], sym c.as_slice-rest.ensures.entries, λ n. refl)

pub names-preserved : goal.names-preserved
names-preserved g c =
    let inv = c.names.invariant in
    let step = next-pushed (λ k. k.items) c.args.entries.now.entries inv.0 c.names.rest c.in-Some.later (c.in-Some.name.now, c.in-Some.what.now)
    c.deref.result.now c.args.self.now c.names.self c.push.new.self inv.1 c.in-Some.ensures.parts c.deref.ensures.value inv.2 c.in-Ok.ensures.pushed in
    (inv.0 ++ (c.in-Some.name.now, c.in-Some.what.now) ∷ [], step.0, step.1)

pub overflow_sub-count : goal.overflow_sub-count
overflow_sub-count g c =
    let inv = c.names.invariant in
    let l : length c.args.entries.now.entries ≡ length inv.0 + length c.names.rest = ap length inv.1 ∙ length-append inv.0 c.names.rest in
    let a = c.len.ensures ∙ ap length c.as_slice-all.ensures.entries in
    let r = c.len-in-Err.ensures in
    omega (arith, l, a, r)

pub split_at-done-requires : goal.split_at-done-requires
split_at-done-requires g c =
    let a = c.len.ensures in
    omega (arith, a)

pub returns-in-Err-clause-unchanged : goal.returns-in-Err-clause-unchanged
returns-in-Err-clause-unchanged g c =
    let inv = c.names.invariant in
    done-taken (λ k. k.items) c.args.entries.now.entries inv.0 c.names.rest c.split_at-done.result.0 c.args.self.now c.names.self
    c.pop_each.new.self c.push.new.self inv.1
    (c.split_at-done.ensures.front
    ∙ ap (λ k. take (k - c.len-in-Err.result) c.as_slice-all.result) c.len.ensures
    ∙ ap (λ k. take (length c.as_slice-all.result - k) c.as_slice-all.result) c.len-in-Err.ensures
    ∙ ap (λ xs. take (length xs - length c.names.rest) xs) c.as_slice-all.ensures.entries)
    inv.2 c.in-Err.ensures.unchanged c.pop_each.ensures

pub returns-clause-pushed : goal.returns-clause-pushed
returns-clause-pushed g c =
    let inv = c.names.invariant in
    let none : c.names.rest ≡ [] = none-left c.names.rest (λ h. c.in_default.ensures.found.1 h) in
    all-pushed (λ k. k.items) _ (λ k x. refl) c.args.entries.now.entries c.as_slice-all.ensures.unique c.args.self.now c.names.self
    (λ n. inv.2 n
    ∙ ap (λ ds. with_each n (seen_entries (λ k. k.items) ds) (stack_of c.args.self.now n)) (sym (inv.1 ∙ ap (λ r. inv.0 ++ r) none ∙ append-nil inv.0)))

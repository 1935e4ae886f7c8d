use Rattle.std.proofs.Common.{◌≡◌, refl, sym, ap, subst, ◌∙◌, ◌-◌, ◌<◌, length, map, slice_set, None, arith}
use Rattle.named_lists.specs.Stacks.{AreStacksOf}
use Rattle.named_lists.proofs.StackLaws.{same-kept}
use Rattle.c_typing.specs.Scopes.{at_innermost, entry_of, innermost, with_tag_set}
use Rattle.c_typing.proofs.ScopeLaws.{kept-last, stacks-added, stacks-back, stacks-kept, written-last}
use Rattle.c_typing.proofs.inner_scopes.InnerScopes.add_tag.Goals as goal

pub overflow_sub-last : goal.overflow_sub-last
overflow_sub-last c =
    let s = c.self.inside in
    let some : 0 < length s.levels.items = subst (λ ls. 0 < length ls) (sym c.self.view_is) c.requires.some in
    let count : c.len-last.result ≡ length s.levels.items = c.len-last.ensures ∙ s.levels.ok.0 in
    omega (arith, count, some)

pub index_mut-requires : goal.index_mut-requires
index_mut-requires c =
    let s = c.self.inside in
    let some : 0 < length s.levels.items = subst (λ ls. 0 < length ls) (sym c.self.view_is) c.requires.some in
    let len = c.len-last.ensures in
    let count : c.len-last.result ≡ length s.levels.items = c.len-last.ensures ∙ s.levels.ok.0 in
    omega (arith, len, count, some)

pub returns-in-Ok-clause-declared : goal.returns-in-Ok-clause-declared
returns-in-Ok-clause-declared c =
    let s = c.self.inside in
    let some : 0 < length s.levels.items = subst (λ ls. 0 < length ls) (sym c.self.view_is) c.requires.some in
    let count : c.len-last.result ≡ length s.levels.items = c.len-last.ensures ∙ s.levels.ok.0 in
    written-last (with_tag_set c.args.name.now c.args.what) s.levels.items c.len-last.result c.index_mut.result.now c.set_tag.new.self count some
    c.index_mut.ensures.value c.in-Ok.ensures.declared
    ∙ ap (at_innermost (with_tag_set c.args.name.now c.args.what)) c.self.view_is

pub returns-in-Err-clause-unchanged : goal.returns-in-Err-clause-unchanged
returns-in-Err-clause-unchanged c =
    let s = c.self.inside in
    let some : 0 < length s.levels.items = subst (λ ls. 0 < length ls) (sym c.self.view_is) c.requires.some in
    let count : c.len-last.result ≡ length s.levels.items = c.len-last.ensures ∙ s.levels.ok.0 in
    kept-last s.levels.items c.len-last.result c.index_mut.result.now c.set_tag.new.self count some c.index_mut.ensures.value
    c.in-Err.ensures.unchanged ∙ c.self.view_is

pub invariant_of-self : goal.invariant_of-self
invariant_of-self c =
    let s = c.self.inside in (
      c.self.invariant.0,
      same-kept s.tags c.push.new.self c.in_err-push.ensures.unchanged (map (λ l. l.tags) s.levels.items) c.self.invariant.1,
    )

pub invariant_of-self-in-Ok : goal.invariant_of-self-in-Ok
invariant_of-self-in-Ok c =
    let s = c.self.inside in
    let some : 0 < length s.levels.items = subst (λ ls. 0 < length ls) (sym c.self.view_is) c.requires.some in
    let count : c.len-last.result ≡ length s.levels.items = c.len-last.ensures ∙ s.levels.ok.0 in
    let fresh : entry_of (innermost s.levels.items).tags c.args.name.now ≡ None = ap (λ ls. entry_of
    (innermost ls).tags c.args.name.now) c.self.view_is ∙ c.requires.fresh in
    let made = written-last (with_tag_set c.args.name.now c.args.what) s.levels.items c.len-last.result c.index_mut.result.now
    c.set_tag.new.self count some c.index_mut.ensures.value c.in-Ok.ensures.declared in (
      stacks-kept (λ l. l.names) (with_tag_set c.args.name.now c.args.what) s.levels.items _ s.names some made refl c.self.invariant.0,
      stacks-added (λ l. l.tags) (with_tag_set c.args.name.now c.args.what) c.args.name.now c.args.what s.levels.items _ s.tags
          c.push.new.self some made refl fresh
          c.in_ok-push.ensures.pushed c.self.invariant.1,
    )

pub invariant_of-self-in-Err : goal.invariant_of-self-in-Err
invariant_of-self-in-Err c =
    let s = c.self.inside in
    let some : 0 < length s.levels.items = subst (λ ls. 0 < length ls) (sym c.self.view_is) c.requires.some in
    let count : c.len-last.result ≡ length s.levels.items = c.len-last.ensures ∙ s.levels.ok.0 in
    let back : slice_set s.levels.items (c.len-last.result - 1) c.set_tag.new.self ≡ s.levels.items = kept-last s.levels.items c.len-last.result
    c.index_mut.result.now c.set_tag.new.self count some c.index_mut.ensures.value c.in-Err.ensures.unchanged in (
      subst (λ ls. AreStacksOf (map (λ l. l.names) ls) s.names) (sym back) c.self.invariant.0,
      subst (λ ls. AreStacksOf (map (λ l. l.tags) ls) c.pop.new.self) (sym back)
          (same-kept s.tags c.pop.new.self (stacks-back c.args.name.now c.args.what s.tags c.push.new.self c.pop.new.self
          c.in_ok-push.ensures.pushed c.pop.ensures)
          (map (λ l. l.tags) s.levels.items) c.self.invariant.1),
    )

use Rattle.std.proofs.Common.{◌≡◌, refl, sym, ap, subst, ◌∙◌, ◌-◌, ◌<◌, length, map, slice_set, Some, arith}
use Rattle.named_lists.specs.Stacks.{AreStacksOf}
use Rattle.named_lists.proofs.StackLaws.{on-err}
use Rattle.c_typing.specs.Scopes.{at_innermost, entry_of, innermost, with_tag_set}
use Rattle.c_typing.proofs.ScopeLaws.{kept-last, stacks-kept, stacks-set, written-last}
use Rattle.c_typing.proofs.inner_scopes.InnerScopes.replace_tag.Goals as goal

pub overflow_sub-last : goal.overflow_sub-last
overflow_sub-last c =
    let s = c.self.inside in
    let some : 0 < length s.levels.items = subst (λ ls. 0 < length ls) (sym c.self.view_is) c.requires.some in
    let count : c.len-last.result ≡ length s.levels.items = c.len-last.ensures ∙ s.levels.ok.0 in
    omega (arith, count, some)

pub index_mut-requires : goal.index_mut-requires
index_mut-requires c =
    let s = c.self.inside in
    let some : 0 < length s.levels.items = subst (λ ls. 0 < length ls) (sym c.self.view_is) c.requires.some in
    let len = c.len-last.ensures in
    let count : c.len-last.result ≡ length s.levels.items = c.len-last.ensures ∙ s.levels.ok.0 in
    omega (arith, len, count, some)

pub returns-clause-declared : goal.returns-clause-declared
returns-clause-declared c =
    let s = c.self.inside in
    let some : 0 < length s.levels.items = subst (λ ls. 0 < length ls) (sym c.self.view_is) c.requires.some in
    let count : c.len-last.result ≡ length s.levels.items = c.len-last.ensures ∙ s.levels.ok.0 in
    written-last (with_tag_set c.args.name.now c.args.what) s.levels.items c.len-last.result c.index_mut.result.now c.set_tag.new.self count some
    c.index_mut.ensures.value c.in_ok-set_tag.ensures.declared
    ∙ ap (at_innermost (with_tag_set c.args.name.now c.args.what)) c.self.view_is

pub returns-in_err-set_tag-clause-unchanged : goal.returns-in_err-set_tag-clause-unchanged
returns-in_err-set_tag-clause-unchanged c =
    let s = c.self.inside in
    let some : 0 < length s.levels.items = subst (λ ls. 0 < length ls) (sym c.self.view_is) c.requires.some in
    let count : c.len-last.result ≡ length s.levels.items = c.len-last.ensures ∙ s.levels.ok.0 in
    on-err _ c.from_residual.result (kept-last s.levels.items c.len-last.result c.index_mut.result.now c.set_tag.new.self count some c.index_mut.ensures.value
    c.in_err-set_tag.ensures.unchanged ∙ c.self.view_is)

pub invariant_of-self : goal.invariant_of-self
invariant_of-self c =
    let s = c.self.inside in
    let some : 0 < length s.levels.items = subst (λ ls. 0 < length ls) (sym c.self.view_is) c.requires.some in
    let count : c.len-last.result ≡ length s.levels.items = c.len-last.ensures ∙ s.levels.ok.0 in
    let back : slice_set s.levels.items (c.len-last.result - 1) c.set_tag.new.self ≡ s.levels.items = kept-last s.levels.items c.len-last.result
    c.index_mut.result.now c.set_tag.new.self count some c.index_mut.ensures.value c.in_err-set_tag.ensures.unchanged in (
      subst (λ ls. AreStacksOf (map (λ l. l.names) ls) s.names) (sym back) c.self.invariant.0,
      subst (λ ls. AreStacksOf (map (λ l. l.tags) ls) s.tags) (sym back) c.self.invariant.1,
    )

pub invariant_of-self-2 : goal.invariant_of-self-2
invariant_of-self-2 c =
    let s = c.self.inside in
    let some : 0 < length s.levels.items = subst (λ ls. 0 < length ls) (sym c.self.view_is) c.requires.some in
    let count : c.len-last.result ≡ length s.levels.items = c.len-last.ensures ∙ s.levels.ok.0 in
    let known : entry_of (innermost s.levels.items).tags c.args.name.now ≡ Some c.args.was = ap (λ ls. entry_of
    (innermost ls).tags c.args.name.now) c.self.view_is ∙ c.requires.known in
    let made = written-last (with_tag_set c.args.name.now c.args.what) s.levels.items c.len-last.result c.index_mut.result.now
    c.set_tag.new.self count some c.index_mut.ensures.value c.in_ok-set_tag.ensures.declared in (
      stacks-kept (λ l. l.names) (with_tag_set c.args.name.now c.args.what) s.levels.items _ s.names some made refl c.self.invariant.0,
      stacks-set (λ l. l.tags) (with_tag_set c.args.name.now c.args.what) c.args.name.now c.args.what c.args.was s.levels.items _ s.tags
          c.set_top.new.self some made refl known c.set_top.ensures c.self.invariant.1,
    )

use Rattle.std.proofs.Common.{◌≡◌, refl, sym, ap, subst, ◌∙◌, ◌-◌, ◌<◌, length, map, slice_set, None, arith}
use Rattle.named_lists.specs.Stacks.{AreStacksOf}
use Rattle.named_lists.proofs.EntryLaws.{entry-last}
use Rattle.named_lists.proofs.StackLaws.{same-kept}
use Rattle.c_typing.specs.Scopes.{at_innermost, entry_of, innermost, with_name}
use Rattle.c_typing.proofs.ScopeLaws.{kept-last, read-last, stacks-added, stacks-back, stacks-kept, written-last}
use Rattle.c_typing.proofs.inner_scopes.InnerScopes.declare.Goals as goal

pub overflow_sub-last : goal.overflow_sub-last
overflow_sub-last c =
    let s = c.self.inside in
    let some : 0 < length s.levels.items = subst (λ ls. 0 < length ls) (sym c.self.view_is) c.requires.some in
    let count : c.len-last.result ≡ length s.levels.items = c.len-last.ensures ∙ s.levels.ok.0 in
    omega (arith, count, some)

pub index_mut-requires : goal.index_mut-requires
index_mut-requires c =
    let s = c.self.inside in
    let some : 0 < length s.levels.items = subst (λ ls. 0 < length ls) (sym c.self.view_is) c.requires.some in
    let len = c.len-last.ensures in
    let count : c.len-last.result ≡ length s.levels.items = c.len-last.ensures ∙ s.levels.ok.0 in
    omega (arith, len, count, some)

pub declare-requires : goal.declare-requires
declare-requires c =
    let s = c.self.inside in
    let some : 0 < length s.levels.items = subst (λ ls. 0 < length ls) (sym c.self.view_is) c.requires.some in
    let count : c.len-last.result ≡ length s.levels.items = c.len-last.ensures ∙ s.levels.ok.0 in
    ap (λ l. entry_of l.names c.args.name.now) (read-last s.levels.items c.len-last.result c.index_mut.result.now count some c.index_mut.ensures.value)
    ∙ ap (λ ls. entry_of (innermost ls).names c.args.name.now) c.self.view_is
    ∙ c.requires.fresh

pub returns-in-Ok-clause-declared : goal.returns-in-Ok-clause-declared
returns-in-Ok-clause-declared c =
    let s = c.self.inside in
    let some : 0 < length s.levels.items = subst (λ ls. 0 < length ls) (sym c.self.view_is) c.requires.some in
    let count : c.len-last.result ≡ length s.levels.items = c.len-last.ensures ∙ s.levels.ok.0 in
    written-last (with_name c.args.name.now c.args.what) s.levels.items c.len-last.result c.index_mut.result.now c.declare.new.self count some
    c.index_mut.ensures.value c.in-Ok.ensures.declared
    ∙ ap (at_innermost (with_name c.args.name.now c.args.what)) c.self.view_is

pub returns-in-Err-clause-unchanged : goal.returns-in-Err-clause-unchanged
returns-in-Err-clause-unchanged c =
    let s = c.self.inside in
    let some : 0 < length s.levels.items = subst (λ ls. 0 < length ls) (sym c.self.view_is) c.requires.some in
    let count : c.len-last.result ≡ length s.levels.items = c.len-last.ensures ∙ s.levels.ok.0 in
    kept-last s.levels.items c.len-last.result c.index_mut.result.now c.declare.new.self count some c.index_mut.ensures.value
    c.in-Err.ensures.unchanged ∙ c.self.view_is

pub invariant_of-self : goal.invariant_of-self
invariant_of-self c =
    let s = c.self.inside in (
      same-kept s.names c.push.new.self c.in_err-push.ensures.unchanged (map (λ l. l.names) s.levels.items) c.self.invariant.0,
      c.self.invariant.1,
    )

pub invariant_of-self-in-Ok : goal.invariant_of-self-in-Ok
invariant_of-self-in-Ok c =
    let s = c.self.inside in
    let some : 0 < length s.levels.items = subst (λ ls. 0 < length ls) (sym c.self.view_is) c.requires.some in
    let count : c.len-last.result ≡ length s.levels.items = c.len-last.ensures ∙ s.levels.ok.0 in
    let fresh : entry_of (innermost s.levels.items).names c.args.name.now ≡ None = ap (λ ls. entry_of
    (innermost ls).names c.args.name.now) c.self.view_is ∙ c.requires.fresh in
    let made = written-last (with_name c.args.name.now c.args.what) s.levels.items c.len-last.result c.index_mut.result.now
    c.declare.new.self count some c.index_mut.ensures.value c.in-Ok.ensures.declared in (
      stacks-added (λ l. l.names) (with_name c.args.name.now c.args.what) c.args.name.now c.args.what s.levels.items _ s.names
          c.push.new.self some made (sym (entry-last c.args.name.now c.args.what (innermost s.levels.items).names fresh)) fresh
          c.in_ok-push.ensures.pushed c.self.invariant.0,
      stacks-kept (λ l. l.tags) (with_name c.args.name.now c.args.what) s.levels.items _ s.tags some made refl c.self.invariant.1,
    )

pub invariant_of-self-in-Err : goal.invariant_of-self-in-Err
invariant_of-self-in-Err c =
    let s = c.self.inside in
    let some : 0 < length s.levels.items = subst (λ ls. 0 < length ls) (sym c.self.view_is) c.requires.some in
    let count : c.len-last.result ≡ length s.levels.items = c.len-last.ensures ∙ s.levels.ok.0 in
    let back : slice_set s.levels.items (c.len-last.result - 1) c.declare.new.self ≡ s.levels.items = kept-last s.levels.items c.len-last.result
    c.index_mut.result.now c.declare.new.self count some c.index_mut.ensures.value c.in-Err.ensures.unchanged in (
      subst (λ ls. AreStacksOf (map (λ l. l.names) ls) c.pop.new.self) (sym back)
          (same-kept s.names c.pop.new.self (stacks-back c.args.name.now c.args.what s.names c.push.new.self c.pop.new.self
          c.in_ok-push.ensures.pushed c.pop.ensures)
          (map (λ l. l.names) s.levels.items) c.self.invariant.0),
      subst (λ ls. AreStacksOf (map (λ l. l.tags) ls) s.tags) (sym back) c.self.invariant.1,
    )

use Rattle.std.proofs.Common.{◌≡◌, sym, ap, subst, ◌∙◌, ◌<◌, length, arith}
use Rattle.c_typing.specs.Scopes.{entry_of, innermost}
use Rattle.c_typing.proofs.ScopeLaws.{read-last}
use Rattle.c_typing.proofs.inner_scopes.InnerScopes.set_tag.Goals as goal

pub overflow_sub-last : goal.overflow_sub-last
overflow_sub-last c =
    let s = c.self.inside in
    let some : 0 < length s.levels.items = subst (λ ls. 0 < length ls) (sym c.self.view_is) c.requires in
    let count : c.len-last.result ≡ length s.levels.items = c.len-last.ensures ∙ s.levels.ok.0 in
    omega (arith, count, some)

pub index-requires : goal.index-requires
index-requires c =
    let s = c.self.inside in
    let some : 0 < length s.levels.items = subst (λ ls. 0 < length ls) (sym c.self.view_is) c.requires in
    let len = c.len-last.ensures in
    let count : c.len-last.result ≡ length s.levels.items = c.len-last.ensures ∙ s.levels.ok.0 in
    omega (arith, len, count, some)

pub replace_tag-requires : goal.replace_tag-requires
replace_tag-requires c =
    let s = c.self.inside in
    let some : 0 < length s.levels.items = subst (λ ls. 0 < length ls) (sym c.self.view_is) c.requires in
    let count : c.len-last.result ≡ length s.levels.items = c.len-last.ensures ∙ s.levels.ok.0 in
    record {
      some = c.requires;
      known = ap (λ ls. entry_of (innermost ls).tags c.args.name.now) (sym c.self.view_is)
          ∙ ap (λ l. entry_of l.tags c.args.name.now) (sym (read-last s.levels.items c.len-last.result c.index.result.now count some c.index.ensures))
          ∙ sym c.tag.ensures ∙ sym c.copied-was.ensures ∙ c.in-Some.is;
    }

pub add_tag-requires : goal.add_tag-requires
add_tag-requires c =
    let s = c.self.inside in
    let some : 0 < length s.levels.items = subst (λ ls. 0 < length ls) (sym c.self.view_is) c.requires in
    let count : c.len-last.result ≡ length s.levels.items = c.len-last.ensures ∙ s.levels.ok.0 in
    record {
      some = c.requires;
      fresh = ap (λ ls. entry_of (innermost ls).tags c.args.name.now) (sym c.self.view_is)
          ∙ ap (λ l. entry_of l.tags c.args.name.now) (sym (read-last s.levels.items c.len-last.result c.index.result.now count some c.index.ensures))
          ∙ sym c.tag.ensures ∙ sym c.copied-was.ensures ∙ c.in-None.is;
    }

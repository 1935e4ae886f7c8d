use Rattle.std.proofs.Common.{ap, sym, ◌∙◌, ◌<◌, ◌∷◌, length, map, arith}
use Rattle.c_typing.specs.Scopes.{at_innermost, with_tag_set}
use Rattle.c_typing.proofs.ScopeLaws.{at-inner, inner-changed, on_ok}
use Rattle.c_typing.proofs.scope.Scope.set_tag.Goals as goal

pub returns-clause-declared : goal.returns-clause-declared
returns-clause-declared c =
    let s = c.self.inside in
    let some : 0 < length s.inner = let t = c.if-len-eq0.false in let e = c.len.ensures.count in omega (arith, e, t) in
    on_ok _ _ c.set_tag-2.result (λ new.
    inner-changed (at_innermost (with_tag_set c.args.name.now c.args.what)) s.file s.inner c.set_tag-2.new.self (map
    (λ k. k.items) s.defined.keys) s.members.items
    s.next_node s.globals s.cells c.args.self.now c.self.view_is
    (at-inner (with_tag_set c.args.name.now c.args.what) s.file s.inner some ∙ ap (λ ls. s.file ∷ ls) (sym new)))
    c.set_tag-2.ensures.declared

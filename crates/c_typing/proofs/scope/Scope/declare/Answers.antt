use Rattle.std.proofs.Common.{ap, sym, ◌∙◌, ◌<◌, ◌∷◌, length, map, arith}
use Rattle.c_typing.specs.Scopes.{at_innermost, entry_of, here, with_name}
use Rattle.c_typing.proofs.ScopeLaws.{at-inner, inner-changed, innermost-inner, on_ok}
use Rattle.c_typing.proofs.scope.Scope.declare.Goals as goal

pub declare-requires-2 : goal.declare-requires-2
declare-requires-2 c =
    let s = c.self.inside in
    let some : 0 < length s.inner = let t = c.if-len-eq0.false in let e = c.len.ensures.count in omega (arith, e, t) in
    record {
      some = some;
      fresh = ap (λ l. entry_of l.names c.args.name.now) (sym (innermost-inner s.file s.inner some))
          ∙ ap (λ t. here t.scopes.levels c.args.name.now) c.self.view_is ∙ c.requires;
    }

pub returns-clause-declared : goal.returns-clause-declared
returns-clause-declared c =
    let s = c.self.inside in
    let some : 0 < length s.inner = let t = c.if-len-eq0.false in let e = c.len.ensures.count in omega (arith, e, t) in
    on_ok _ _ c.declare-2.result (λ new.
    inner-changed (at_innermost (with_name c.args.name.now c.args.what)) s.file s.inner c.declare-2.new.self (map (λ k. k.items) s.defined.keys) s.members.items
    s.next_node s.globals s.cells c.args.self.now c.self.view_is
    (at-inner (with_name c.args.name.now c.args.what) s.file s.inner some ∙ ap (λ ls. s.file ∷ ls) (sym new)))
    c.declare-2.ensures.declared

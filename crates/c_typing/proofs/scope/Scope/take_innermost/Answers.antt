use Rattle.std.proofs.Common.{ap, sym, ◌∙◌, ◌∷◌, map, Some}
use Rattle.c_typing.specs.Scopes.{innermost, without_innermost}
use Rattle.c_typing.proofs.ScopeLaws.{inner-changed, innermost-inner, some-inner, without-inner}
use Rattle.c_typing.proofs.scope.Scope.take_innermost.Goals as goal

pub returns-clause-left : goal.returns-clause-left
returns-clause-left c =
    let s = c.self.inside in
    let some = some-inner s.file s.inner (map
    (λ k. k.items) s.defined.keys) s.members.items s.next_node s.globals s.cells c.args.self.now c.self.view_is c.requires in
    inner-changed without_innermost s.file s.inner c.leave.new.self (map
    (λ k. k.items) s.defined.keys) s.members.items s.next_node s.globals s.cells c.args.self.now
    c.self.view_is (without-inner s.file s.inner some ∙ ap (λ ls. s.file ∷ ls) (sym c.leave.ensures.left))

pub returns-clause-level : goal.returns-clause-level
returns-clause-level c =
    let s = c.self.inside in
    let some = some-inner s.file s.inner (map
    (λ k. k.items) s.defined.keys) s.members.items s.next_node s.globals s.cells c.args.self.now c.self.view_is c.requires in
    c.leave.ensures.level some
    ∙ ap (λ l. Some l) (sym (innermost-inner s.file s.inner some))
    ∙ ap (λ t. Some (innermost t.scopes.levels)) c.self.view_is

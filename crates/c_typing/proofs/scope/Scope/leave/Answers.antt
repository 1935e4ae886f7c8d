use Rattle.std.proofs.Common.{ap, sym, ◌∙◌, ◌∷◌, map}
use Rattle.c_typing.specs.Scopes.{without_innermost}
use Rattle.c_typing.proofs.ScopeLaws.{inner-changed, some-inner, without-inner}
use Rattle.c_typing.proofs.scope.Scope.leave.Goals as goal

pub returns : goal.returns
returns c =
    let s = c.self.inside in
    let some = some-inner s.file s.inner (map
    (λ k. k.items) s.defined.keys) s.members.items s.next_node s.globals s.cells c.args.self.now c.self.view_is c.requires in
    inner-changed without_innermost s.file s.inner c.leave.new.self (map
    (λ k. k.items) s.defined.keys) s.members.items s.next_node s.globals s.cells c.args.self.now
    c.self.view_is (without-inner s.file s.inner some ∙ ap (λ ls. s.file ∷ ls) (sym c.leave.ensures.left))

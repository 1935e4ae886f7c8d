use Rattle.std.proofs.Common.{subst, sym, MatchOption, Option}
use Rattle.c_tree.specs.declared.typed_word.Runtime.{Runtime}
use Rattle.runtime_calls.specs.Prototypes.{IsNamed, IsNoName}
use Rattle.runtime_calls.proofs.Found.{runtime_of-exact}
use Rattle.runtime_calls.proofs.naming.runtime.Goals as goal

pub returns : goal.returns
returns c =
    let P : Option Runtime → Type 0 = λ o. MatchOption o (IsNoName c.args.name.now) (λ r. IsNamed c.args.name.now r) in
    subst P (sym c.first_named.ensures) (runtime_of-exact c.args.name.now)

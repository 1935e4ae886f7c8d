use Rattle.c_tree.specs.Places.{nowhere}
use Rattle.c_tree.specs.TypedParts.{specified_type}
use Rattle.c_typing.specs.Declaring.{declarator_name}
use Rattle.c_typing.specs.Refusals.{name_place}
use Rattle.c_typing_unique.proofs.DeclaratorSteps.{form-numbers}
use Rattle.c_typing_given.proofs.PrototypesGiven.{prototype-given}
use Rattle.c_typing_given.proofs.TreesGiven.{any-form-given, all-parameters-given}
use Rattle.c_typing_given.proofs.WholeGiven.{declarator-given}
use Rattle.c_typing_given.proofs.declarations.a_declarator_is_given.Goals as goal

pub returns-clause-declarator : goal.returns-clause-declarator
returns-clause-declarator c = λ T which base size d form t s b count basic limits here there erases forms numbers makes home uses room holds.
    declarator-given T basic limits.few (name_place (declarator_name d) nowhere) which (specified_type base) size d (any-form-given T basic limits.few d) form t s b count
    here there (erases, forms, form-numbers form t s.seen.node b.node numbers) makes home uses room holds

pub returns-clause-prototype : goal.returns-clause-prototype
returns-clause-prototype c = λ T at xs list s inside node count basic limits here erases read numbers uses room holds.
    prototype-given T basic limits.few at xs (all-parameters-given T basic limits.few xs) list s (record { scopes = inside; node = node }) count here
    (erases, read, numbers) uses room holds

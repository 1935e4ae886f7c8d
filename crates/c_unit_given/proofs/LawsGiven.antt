-- What declarations and statements ask of expressions and declarators is given.
use Rattle.std.proofs.Common.{refl}
use Rattle.c_types.specs.Table.{Table}
use Rattle.c_tree.specs.Erasure.{erased, erased_place, erased_specifiers, erased_form}
use Rattle.c_tree.specs.Places.{nowhere}
use Rattle.c_tree.specs.TypedParts.{place_type, specified_type}
use Rattle.c_typing.specs.Declaring.{declarator_name}
use Rattle.c_typing.specs.Refusals.{name_place}
use Rattle.c_typing.specs.Settled.{IsBasic}
use Rattle.c_typing_unique.proofs.DeclaratorSteps.{form-numbers}
use Rattle.c_typing_given.specs.Limits.{IsLimited}
use Rattle.c_typing_given.proofs.CheckedGiven.{dropped-given, returned-given, constant-given, copied-given}
use Rattle.c_typing_given.proofs.OvertakenGiven.{assigned-given}
use Rattle.c_typing_given.proofs.TreesGiven.{expr-given, all-specifiers-given, any-form-given}
use Rattle.c_typing_given.proofs.WholeGiven.{listed-given, alone-given, declarator-given}
use Rattle.c_unit_given.proofs.UnitGiven.{AreExpressionsGiven, AreDeclaratorsGiven}
use Rattle.c_unit_given.proofs.Texts.{same_struct}

pub expressions-given : (T : Table) → IsBasic T → IsLimited T → AreExpressionsGiven T
expressions-given T basic limits = record {
  dropped = λ e over runtime holds s b count here needs h numbers uses room.
      dropped-given T basic (erased e) (expr-given T basic limits.few (erased e)) e s b count here (refl, h, numbers) uses room holds (over, runtime);
  initial = λ t at e scalar holds s b count here there h numbers uses room.
      assigned-given T basic t at (erased e) (expr-given T basic limits.few (erased e)) e s b count here there (refl, h.0, numbers) uses room holds h.1;
  copied = λ t at p aggregate same holds s b count here there h numbers uses room.
      copied-given T basic t at (erased_place p) (expr-given T basic limits.few (erased_place p)) p s b count here there (refl, h, numbers) uses room holds aggregate
      (same_struct T t (place_type p) same aggregate) same;
  returned = λ t at e converted holds s b count here there h numbers uses room.
      returned-given T basic t at (erased e) (expr-given T basic limits.few (erased e)) e s b count here there (refl, h, numbers) uses room holds converted;
  constant = λ e z plain known holds s b count here needs h numbers uses room.
      constant-given T basic (erased e) (expr-given T basic limits.few (erased e)) e s b count here (refl, h, numbers) uses room holds plain z known;
}

pub declarators-given : (T : Table) → IsBasic T → IsLimited T → AreDeclaratorsGiven T
declarators-given T basic limits = record {
  specifiers = λ x holds s b count here needs h numbers uses room.
      listed-given T basic (erased_specifiers x) (all-specifiers-given T basic limits.few (erased_specifiers x)) x s b count here (refl, h, numbers) uses room holds;
  alone = λ x holds s b count here needs h numbers uses room.
      alone-given T basic (erased_specifiers x) (all-specifiers-given T basic limits.few (erased_specifiers x)) x s b count here (refl, h, numbers) uses room holds;
  declarator = λ which base size form t home holds s b count here there h numbers uses room.
      declarator-given T basic limits.few (name_place (declarator_name (erased_form form)) nowhere) which (specified_type base) size (erased_form form)
      (any-form-given T basic limits.few (erased_form form)) form t s b count here there (refl, h.0, form-numbers form t s.seen.node b.node numbers) h.1 home uses room holds;
}

-- What a declarator makes with the size that an initialiser gives, it makes with the size that is written.
use Rattle.std.proofs.Common.{◌≡◌, ℕ, Bool, true, false, Option, refl, sym, subst}
use Rattle.c_types.specs.Table.{Table, shape_at}
use Rattle.c_tree.specs.Erasure.{erased_form, erased_initialiser}
use Rattle.c_typing.specs.Walks.{outermost_of}
use Rattle.c_typing.specs.Declarators.{FormMakes}
use Rattle.c_typing_laws.proofs.ExtensionLaws.{and_left, and_right}
use Rattle.c_unit_typing.specs.Initialisers.{is_char_array, is_one_array, is_char_shape, makes_chars, size_given}
use Rattle.c_unit_typing.specs.UnitRefusals.{size_written}
use Rattle.c_unit_typing.proofs.WrittenSizes.{both_false, form_any, one_array_char, size_plain, size_chars, outermost_plain}
use Rattle.c_unit_given.proofs.UnitGiven.{AreSizesWritten}

pub sizes-written : (T : Table) → AreSizesWritten T
sizes-written T c form base t i at s s' typed_here w h = by (makes_chars T base (erased_form form)) (is_char_array T t) refl refl h
  where
    by : (m y : Bool) → makes_chars T base (erased_form form) ≡ m → is_char_array T t ≡ y → FormMakes T c form (outermost_of (size_given y i)) base t
        → FormMakes T c form (outermost_of (size_written m (erased_initialiser i))) base t
    by true true q r g = subst (λ (o : Option ℕ). FormMakes T c form (outermost_of o) base t) (sym (size_chars T i at t s s' r typed_here (w r))) g
    by true false q r g =
        both_false (is_char_array T t) r
        (one_array_char T c form (outermost_of (size_given false i)) base t (and_left (is_one_array (erased_form form)) (is_char_shape (shape_at T base)) q)
        (outermost_plain (size_given false i)) (and_right (is_one_array (erased_form form)) (is_char_shape (shape_at T base)) q) g)
    by false true q r g =
        form_any T c (outermost_of (size_given true i)) (outermost_of (size_written false (erased_initialiser i))) (outermost_plain (size_given true i))
        (outermost_plain (size_written false (erased_initialiser i))) form base t r q g
    by false false q r g = subst (λ (o : Option ℕ). FormMakes T c form (outermost_of o) base t) (sym (size_plain i)) g

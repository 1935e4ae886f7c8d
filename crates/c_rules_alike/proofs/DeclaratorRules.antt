-- The rules of declarators, of structs and unions and of constants in them are over an earlier table what they are over each that goes on
-- from it.
use Rattle.std.proofs.Common.{◌≡◌, Bool, not, ◌&&◌, ◌||◌, List, [], ◌∷◌, Option, None, Some, refl, ap}
use Rattle.cc_base.specs.declared.place.Place.{Place}
use Rattle.cc_base.specs.declared.number.TypeId.{TypeId}
use Rattle.cc_base.specs.declared.fault.Rule.TheVariants as rule
use Rattle.c_types.specs.declared.shape.TypeShape.{TypeShape}
use Rattle.c_types.specs.Table.{Table, IsType, is_aggregate_shape, is_empty}
use Rattle.c_tree.specs.declared.leaf.Word.{Word}
use Rattle.c_tree.specs.declared.operator.AggregateKind.{AggregateKind}
use Rattle.c_typing.specs.declared.declared.Tag.{Tag}
use Rattle.c_typing.specs.declared.declared.Tag.TheVariants as tag
use Rattle.c_typing.specs.Declarators.{Outermost, first_word_place, is_pointed, is_result_shape}
use Rattle.c_typing.specs.Extensions.{IsExtended}
use Rattle.c_typing.specs.Judging.{known}
use Rattle.c_typing.specs.Scopes.{Scopes, Seen, is_complete_at}
use Rattle.c_typing.specs.Settled.{IsBasic}
use Rattle.c_typing.specs.Specifying.{is_taken_at_end}
use Rattle.c_typing.specs.Tests.{Elaborated, broken_at, aggregate_tests, is_tag_of, is_taken_tag, lacks_size, constant_tests, array_size_tests, array_tests, function_tests, member_type_tests, parameter_type_tests}
use Rattle.c_rules_alike.specs.PartsThere.{IsPartThere, IsTagThereIf}
use Rattle.c_rules_alike.proofs.TypesAlike
use Rattle.c_rules_alike.proofs.PartsAlike

module _ (J T : Table) (x : IsExtended J T) (b : IsBasic J) where
  -- constants

  pub constant_tests-over : (begin : Place) (p : Elaborated) → IsPartThere J p → constant_tests J begin p ≡ constant_tests T begin p
  constant_tests-over begin p h = ap (λ (c : Bool). broken_at rule.NotConstant begin (not c) ∷ []) (PartsAlike.has_constant-over J T x b p h)

  pub array_size-over : (begin : Place) (p : Elaborated) → IsPartThere J p → array_size_tests J begin p ≡ array_size_tests T begin p
  array_size-over begin p h = ap (λ (c : Bool). broken_at rule.NotConstant begin (not c) ∷ []) (PartsAlike.has_size-over J T x b p h)

  -- the types that a declarator makes

  pub array_tests-over : (s : Scopes) (outermost : Outermost) (sized : Bool) (bracket : Place) (words : List Word) (t : TypeId) (at : Place)
      → IsType J t → array_tests J s outermost sized bracket words t at ≡ array_tests T s outermost sized bracket words t at
  array_tests-over s outermost sized bracket words t at h =
      let complete = TypesAlike.complete-over J T x b s t h in
      λ i. broken_at rule.Incomplete bracket (lacks_size outermost sized)
      ∷ broken_at rule.Incomplete at (not (complete i))
      ∷ broken_at rule.Mismatch (first_word_place words bracket) (not (is_empty words) && not (is_pointed outermost))
      ∷ []

  pub function-over : (t : TypeId) (at : Place) → IsType J t → function_tests J t at ≡ function_tests T t at
  function-over t at h = ap (λ (y : TypeShape). broken_at rule.Mismatch at (not (is_result_shape y)) ∷ []) (TypesAlike.shape-over J T x b t h)

  pub member_type-over : (s : Scopes) (t : TypeId) (at : Place) → IsType J t → member_type_tests J s t at ≡ member_type_tests T s t at
  member_type-over s t at h = ap (λ (c : Bool). broken_at rule.Incomplete at (not c) ∷ []) (TypesAlike.complete-over J T x b s t h)

  pub parameter_type-over : (s : Scopes) (void : Bool) (t : TypeId) (at : Place) → IsType J t
      → parameter_type_tests J s void t at ≡ parameter_type_tests T s void t at
  parameter_type-over s void t at h =
      let complete = TypesAlike.complete-over J T x b s t h in
      let shape = TypesAlike.shape-over J T x b t h in
      λ i. broken_at rule.Incomplete at (not void && not (complete i)) ∷ broken_at rule.Mismatch at (is_aggregate_shape (shape i)) ∷ []

  -- whether a tag is taken

  pub tag-over : (s : Scopes) (which : AggregateKind) (o : Option Tag) → IsTagThereIf J o → is_taken_tag J s which o ≡ is_taken_tag T s which o
  tag-over s which None h = refl
  tag-over s which (Some (tag.Aggregate k t)) h =
      ap (λ (c : Bool). not (is_tag_of which (tag.Aggregate k t)) || c) (TypesAlike.complete-over J T x b s t h.1.0)
  tag-over s which (Some tag.Enumeration) h = refl
  tag-over s which (Some tag.Enumerating) h = refl

  -- whether a struct or union is taken by the end of its members, and the rules of its end
  pub end-over : (seen : Seen) (begun : Option TypeId) → ((t : TypeId) → begun ≡ Some t → IsType J t)
      → is_taken_at_end (known J seen) begun ≡ is_taken_at_end (known T seen) begun
  end-over seen None h = refl
  end-over seen (Some t) h = TypesAlike.complete-over J T x b seen.scopes t (h t refl)

  pub aggregate-over : (s n : Scopes) (which : AggregateKind) (o : Option Tag) (t : TypeId) (at : Place) (empty : Bool) → IsTagThereIf J o → IsType J t
      → aggregate_tests (is_taken_tag J s which o || is_complete_at J n t) at empty ≡ aggregate_tests (is_taken_tag T s which o || is_complete_at T n t) at empty
  aggregate-over s n which o t at empty h k =
      let tagged = tag-over s which o h in
      let complete = TypesAlike.complete-over J T x b n t k in
      λ i. aggregate_tests (tagged i || complete i) at empty

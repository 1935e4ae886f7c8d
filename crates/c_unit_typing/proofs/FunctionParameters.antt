-- The type of a function that is defined, by the parameters that its declarator begins with.
use Rattle.std.proofs.Common.{◌≡◌, Bool, true, false, List, [], ◌∷◌, Option, Some, None, refl, sym, subst, if◌then◌else◌}
use Rattle.std.specs.List.{All}
use Rattle.std.proofs.lemmas.List.Elements.{All-head}
use Rattle.std.proofs.lemmas.Option.{none-some}
use Rattle.cc_base.specs.declared.number.TypeId.{TypeId}
use Rattle.c_types.specs.declared.shape.TypeShape.{TypeShape}
use Rattle.c_types.specs.declared.shape.TypeShape.TheVariants.{Void, Integer, Pointer, Array, Function, Struct, Union}
use Rattle.c_types.specs.Table.{Table, HasShape, IsType, shape_at, named_by, is_aggregate_shape}
use Rattle.c_tree.specs.declared.typed_word.TypedStar.{TypedStar}
use Rattle.c_tree.specs.TypedTree as typed
use Rattle.c_tree.specs.TypedTree.{TypedForm, TypedCore, TypedParts, TypedParameters}
use Rattle.c_typing.specs.Declarators.{Outermost, Written, Counts, Points, is_pointed, MakesFunction, nearest, PartsMake, StarsMake, is_derived_core, outside, FormMakes, CoreMakes, is_result_shape, taken_types}
use Rattle.c_typing.specs.Scopes.{Scopes}
use Rattle.c_typing.specs.Settled.{IsBasic}
use Rattle.c_typing_laws.proofs.ExtensionLaws.{no_true}
use Rattle.c_unit_typing.specs.Units.{declares_parameters, unless_pointer, parameters_of_form, parameters_of_core}
use Rattle.c_unit_typing.specs.UnitJudged.{IsResult}
use Rattle.c_unit_typing.proofs.NameSteps.{some-same}

-- The type of a declarator that has its own parameters

-- t is a function with these parameters
abbrev pub IsFunctionWith : Table → TypedParameters → TypeId → Type 0
IsFunctionWith T ps t = (result : TypeId) × HasShape T t (Function (taken_types ps) result) × (is_result_shape (shape_at T result) ≡ true)

module _ (T : Table) (c : Scopes) (ps : TypedParameters) where
  nearest_plain : (all : TypedParts) (o : Outermost) → is_pointed o ≡ false → is_pointed (nearest all o) ≡ false
  nearest_plain typed.NoPart o x = x
  nearest_plain (typed.AndArray all at words) o x = refl
  nearest_plain (typed.AndSizedArray all at words e size) o x = refl
  nearest_plain (typed.AndFunction all at qs) o x = refl

  outside_plain : (core : TypedCore) (o : Outermost) → is_pointed o ≡ false → is_pointed (outside core o) ≡ false
  outside_plain core o x = by (is_derived_core core)
    where
      by : (b : Bool) → is_pointed (if b then Written else o) ≡ false
      by true = refl
      by false = x

  made_with : (o : Outermost) (qs : TypedParameters) (result t : TypeId) → is_pointed o ≡ false → MakesFunction T o qs result t → IsFunctionWith T qs t
  made_with (Points n) qs result t x h = no_true (sym x)
  made_with Written qs result t x h = (result, h.shape, h.gives)
  made_with (Counts k) qs result t x h = (result, h.shape, h.gives)

  parts_with : (parts : TypedParts) (outer : Option TypedParameters) (o : Outermost) (base t : TypeId) (rs : TypedParameters) → is_pointed o ≡ false
      → ((qs : TypedParameters) → outer ≡ Some qs → IsFunctionWith T qs base) → declares_parameters parts outer ≡ Some rs → PartsMake T c parts o base t → IsFunctionWith T rs t
  parts_with typed.NoPart outer o base t rs x known q h = subst (IsFunctionWith T rs) (sym h) (known rs q)
  parts_with (typed.AndArray all at words) outer o base t rs x known q h =
      parts_with all None o h.0 t rs x (λ qs e. absurd (none-some qs e)) q h.2
  parts_with (typed.AndSizedArray all at words e size) outer o base t rs x known q h =
      parts_with all None o h.0 t rs x (λ qs e. absurd (none-some qs e)) q h.2
  parts_with (typed.AndFunction all at own) outer o base t rs x known q h =
      parts_with all (Some own) o h.0 t rs x
      (λ qs e. subst (λ (w : TypedParameters). IsFunctionWith T w h.0) (some-same own qs e) (made_with (nearest all o) own base h.0 (nearest_plain all o x) h.1)) q h.2

  stars_with : (stars : List TypedStar) (outer : Option TypedParameters) (base u : TypeId) (qs : TypedParameters)
      → ((rs : TypedParameters) → outer ≡ Some rs → IsFunctionWith T rs base) → unless_pointer stars outer ≡ Some qs → StarsMake T stars base u → IsFunctionWith T qs u
  stars_with [] outer base u qs known q h = subst (IsFunctionWith T qs) (sym h) (known qs q)
  stars_with (star ∷ stars) outer base u qs known q h = absurd (none-some qs q)

  mutual
    form_with : (form : TypedForm) (outer : Option TypedParameters) (o : Outermost) (base t : TypeId) → is_pointed o ≡ false
        → ((rs : TypedParameters) → outer ≡ Some rs → IsFunctionWith T rs base) → parameters_of_form form outer ≡ Some ps → FormMakes T c form o base t → IsFunctionWith T ps t
    form_with (typed.Form stars core parts) outer o base t x known q h =
        core_with core (declares_parameters parts (unless_pointer stars outer)) o h.1 t x
        (λ rs e. parts_with parts (unless_pointer stars outer) (outside core o) h.0 h.1 rs (outside_plain core o x) (λ qs f. stars_with stars outer base h.0 qs known f h.2) e h.3) q h.4

    core_with : (core : TypedCore) (found : Option TypedParameters) (o : Outermost) (base t : TypeId) → is_pointed o ≡ false
        → ((rs : TypedParameters) → found ≡ Some rs → IsFunctionWith T rs base) → parameters_of_core core found ≡ Some ps → CoreMakes T c core o base t → IsFunctionWith T ps t
    core_with (typed.Names name home) found o base t x known q h = subst (IsFunctionWith T ps) (sym h) (known ps q)
    core_with typed.Unnamed found o base t x known q h = subst (IsFunctionWith T ps) (sym h) (known ps q)
    core_with (typed.Nested at form) found o base t x known q h = form_with form found o base t x known q h

pub function-with : (T : Table) (c : Scopes) (form : TypedForm) (base t : TypeId) (ps : TypedParameters) → parameters_of_form form None ≡ Some ps
    → FormMakes T c form Written base t → IsFunctionWith T ps t
function-with T c form base t ps q h = form_with T c ps form None Written base t refl (λ rs e. absurd (none-some rs e)) q h

result_plain : (x : TypeShape) → is_result_shape x ≡ true → is_aggregate_shape x ≡ false
result_plain Void h = refl
result_plain (Integer m r) h = refl
result_plain (Pointer n t) h = refl
result_plain (Array t n) h = no_true h
result_plain (Function ps q) h = no_true h
result_plain (Struct n) h = no_true h
result_plain (Union n) h = no_true h

named_there : (T : Table) (t result : TypeId) (types : List TypeId) → IsBasic T → HasShape T t (Function types result) → All (IsType T) (result ∷ types)
named_there T t result types b h = subst (λ (y : TypeShape). All (IsType T) (named_by y)) h.1 (b.formed.each t).named

pub result-is : (T : Table) (t : TypeId) (ps : TypedParameters) (f : IsFunctionWith T ps t) → IsBasic T → IsResult T f.0
result-is T t ps f b = record {
  there = All-head (IsType T) f.0 (taken_types ps) (named_there T t f.0 (taken_types ps) b f.1);
  no_struct = result_plain (shape_at T f.0) f.2;
}

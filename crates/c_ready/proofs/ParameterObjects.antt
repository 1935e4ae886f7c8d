-- The objects and the types of a function's parameters; a list `(void)` has none.
use Rattle.std.proofs.Common.{◌≡◌, Bool, true, false, List, [], ◌∷◌, ◌++◌, map, flat_map, refl, ap, sym, ◌∙◌, if◌then◌else◌}
use Rattle.std.proofs.lemmas.List.{map-append}
use Rattle.cc_base.specs.declared.number.TypeId.{TypeId}
use Rattle.c_tree.specs.TypedTree as typed
use Rattle.c_tree.specs.TypedTree.{TypedForm, TypedParameters, TypedBlockItems}
use Rattle.c_tree.specs.TypedParts as made
use Rattle.c_tree.specs.TypedParts.{ParameterObject, declared_home, parameter_home, parameter_objects, taken_parameters, parameters_in_form, locals_of}
use Rattle.c_typing.specs.Declarators.{parameter_types, taken_types}
use Rattle.c_ready.specs.Ready.{Named, parameter_named, made_named, variables_named}
use Rattle.c_ready.proofs.Basics.{no_true}

abbrev pub objects_of : TypedParameters → List Named
objects_of ps = flat_map parameter_named (parameter_objects ps)

void-objects : (ps : TypedParameters) → made.is_void_list ps ≡ true → objects_of ps ≡ []
void-objects typed.NoParameter h = refl
void-objects (typed.AndParameter typed.NoParameter (typed.Specified list t) typed.NotDeclared adjusted u) h = refl
void-objects ps h = no_true h

taken-objects : (ps : TypedParameters) → flat_map parameter_named (taken_parameters ps) ≡ objects_of ps
taken-objects ps = by (made.is_void_list ps) refl
  where
    by : (b : Bool) → made.is_void_list ps ≡ b → flat_map parameter_named (if b then [] else parameter_objects ps) ≡ objects_of ps
    by true q = sym (void-objects ps q)
    by false q = refl

-- a function's objects are those of its list of parameters, and its local variables
pub variables-are : (form : TypedForm) (t : TypeId) (body : TypedBlockItems)
    → variables_named (record { declarator = typed.Declares form t; body = body })
    ≡ objects_of (parameters_in_form form typed.NoParameter) ++ map made_named (locals_of body)
variables-are form t body =
    ap (λ (os : List Named). os ++ map made_named (locals_of body)) (taken-objects (parameters_in_form form typed.NoParameter))

-- types

object-types : (ps : TypedParameters) → map (λ (p : ParameterObject). p.type) (parameter_objects ps) ≡ parameter_types ps
object-types typed.NoParameter = refl
object-types (typed.AndParameter all specifiers d adjusted t) =
    map-append (λ (p : ParameterObject). p.type) (parameter_objects all) (record { home = parameter_home (declared_home d); type = t } ∷ [])
    ∙ ap (λ (ts : List TypeId). ts ++ t ∷ []) (object-types all)

pub taken-are : (ps : TypedParameters) → map (λ (p : ParameterObject). p.type) (taken_parameters ps) ≡ taken_types ps
taken-are ps = by (made.is_void_list ps)
  where
    by : (b : Bool) → map (λ (p : ParameterObject). p.type) (if b then [] else parameter_objects ps) ≡ (if b then [] else parameter_types ps)
    by true = refl
    by false = object-types ps

-- What the laws of the crate say.
use Rattle.std.specs.Prelude.{Bool, ◌≡◌, Option, ℕ, List}
use Rattle.cc_base.specs.declared.number.TypeId.{TypeId}
use Rattle.cc_base.specs.declared.place.Place.{Place}
use Rattle.c_types.specs.Table.{IsType}
use Rattle.c_tree.specs.Tree as tree
use Rattle.c_tree.specs.TypedTree.{TypedExpr, TypedDeclarator, TypedSpecifiers}
use Rattle.c_typing.specs.Checking.{checked_value, checked_constant}
use Rattle.c_typing.specs.Judging.{Gives, State, Stops}
use Rattle.c_typing.specs.Settled.{IsKnown, AreValuesOf, GoesOn}
use Rattle.c_typing_laws.specs.Judged.{IsCheckedFor, IsDeclaratorJudged, ConstantFails, DeclaratorFails, IsRefused, SpecifiersFail, ValueFails}
use Rattle.c_tree.specs.TypedParts.{specified_type, made_by_declarator}
use Rattle.c_typing.specs.Walks.{judge_declarator, outermost_of, judge_arguments, judge, judge_prototype, judge_specifiers, judge_specifiers_of, judge_type_name}
use Rattle.c_typing.specs.declared.naming.Naming.{Naming}
use Rattle.c_typing.specs.Operands.{Value}
use Rattle.c_typing_laws.specs.Numbers.{AreNumberedFrom}
use Rattle.cc_base.specs.declared.fault.Fault.TheVariants.{Refused}
use Rattle.cc_base.specs.declared.fault.Rule.{Rule}
use Rattle.c_typing.specs.Refusals.{Refuses, RefusesArguments, RefusesParameters, RefusesSpecifiers, RefusesTypeName, is_void_alone}
use Rattle.c_typing.specs.Scopes.{entering}

abbrev pub ConvertedValuesAreWellTyped : Type 0
ConvertedValuesAreWellTyped =
    (t : TypeId) (at : Place) (init : Bool) (e : tree.Expr) (v : TypedExpr) (s r : State) → IsKnown s → IsType s.table t
    → checked_value t at init e s ≡ Gives v r → IsCheckedFor t at init e v s r

abbrev pub DeclaratorsAreJudged : Type 0
DeclaratorsAreJudged =
    (which : Naming) (base : TypedSpecifiers) (size : Option ℕ) (d : tree.Declarator) (one : TypedDeclarator) (s r : State) → IsKnown s
    → IsType s.table (specified_type base) → judge_declarator which base size d s ≡ Gives one r
    → IsDeclaratorJudged which (outermost_of size) (specified_type base) d one s r

abbrev pub ArgumentsAreJudged : Type 0
ArgumentsAreJudged =
    (all : tree.Arguments) (values : List Value) (s r : State) → IsKnown s → judge_arguments all s ≡ Gives values r
    → AreValuesOf r.table all values s.seen.scopes r.seen.scopes × GoesOn s r

abbrev pub DeclaratorsAreNumbered : Type 0
DeclaratorsAreNumbered =
    (which : Naming) (base : TypedSpecifiers) (size : Option ℕ) (d : tree.Declarator) (one : TypedDeclarator) (s r : State) → IsKnown s
    → judge_declarator which base size d s ≡ Gives one r → AreNumberedFrom (made_by_declarator one) s r

abbrev pub RefusedExpressionsBreakTheirRule : Type 0
RefusedExpressionsBreakTheirRule =
    (called : Bool) (e : tree.Expr) (s : State) (p : Place) (t : Rule) (r : State) → IsKnown s → judge called e s ≡ Stops (Refused p t) r
    → IsRefused (λ T. Refuses T called e s.seen.scopes (Refused p t)) s r

abbrev pub RefusedArgumentsBreakTheirRule : Type 0
RefusedArgumentsBreakTheirRule =
    (all : tree.Arguments) (s : State) (p : Place) (t : Rule) (r : State) → IsKnown s → judge_arguments all s ≡ Stops (Refused p t) r
    → IsRefused (λ T. RefusesArguments T all s.seen.scopes (Refused p t)) s r

abbrev pub RefusedTypeNamesBreakTheirRule : Type 0
RefusedTypeNamesBreakTheirRule =
    (name : tree.TypeName) (s : State) (p : Place) (t : Rule) (r : State) → IsKnown s → judge_type_name name s ≡ Stops (Refused p t) r
    → IsRefused (λ T. RefusesTypeName T name s.seen.scopes (Refused p t)) s r

abbrev pub RefusedSpecifiersBreakTheirRule : Type 0
RefusedSpecifiersBreakTheirRule =
    (all : tree.Specifiers) (s : State) (p : Place) (t : Rule) (r : State) → IsKnown s → judge_specifiers all s ≡ Stops (Refused p t) r
    → IsRefused (λ T. RefusesSpecifiers T all s.seen.scopes (Refused p t)) s r

abbrev pub RefusedSpecifiersAtAPlaceBreakTheirRule : Type 0
RefusedSpecifiersAtAPlaceBreakTheirRule =
    (alone : Bool) (all : tree.Specifiers) (s : State) (p : Place) (t : Rule) (r : State) → IsKnown s
    → judge_specifiers_of alone all s ≡ Stops (Refused p t) r → IsRefused (λ T. SpecifiersFail alone T all s.seen.scopes (Refused p t)) s r

abbrev pub RefusedDeclaratorsBreakTheirRule : Type 0
RefusedDeclaratorsBreakTheirRule =
    (which : Naming) (base : TypedSpecifiers) (size : Option ℕ) (d : tree.Declarator) (s : State) (p : Place) (t : Rule) (r : State) → IsKnown s
    → IsType s.table (specified_type base) → judge_declarator which base size d s ≡ Stops (Refused p t) r
    → IsRefused (λ T. DeclaratorFails T (outermost_of size) (specified_type base) d s.seen.scopes (Refused p t)) s r

abbrev pub RefusedPrototypesBreakTheirRule : Type 0
RefusedPrototypesBreakTheirRule =
    (at : Place) (all : tree.Parameters) (s : State) (p : Place) (t : Rule) (r : State) → IsKnown s → judge_prototype at all s ≡ Stops (Refused p t) r
    → IsRefused (λ T. RefusesParameters T (is_void_alone all) all (entering s.seen.scopes) (Refused p t)) s r

abbrev pub RefusedConversionsBreakTheirRule : Type 0
RefusedConversionsBreakTheirRule =
    (u : TypeId) (at : Place) (init : Bool) (e : tree.Expr) (s : State) (p : Place) (t : Rule) (r : State) → IsKnown s → IsType s.table u
    → checked_value u at init e s ≡ Stops (Refused p t) r → IsRefused (λ T. ValueFails T u at e s.seen.scopes (Refused p t)) s r

abbrev pub RefusedConstantsBreakTheirRule : Type 0
RefusedConstantsBreakTheirRule =
    (e : tree.Expr) (s : State) (p : Place) (t : Rule) (r : State) → IsKnown s → checked_constant e s ≡ Stops (Refused p t) r
    → IsRefused (λ T. ConstantFails T e s.seen.scopes (Refused p t)) s r

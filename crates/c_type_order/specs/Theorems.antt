-- What the laws of the crate say.
use Rattle.std.specs.Prelude.{Bool, Option, ◌≡◌, ℕ}
use Rattle.cc_base.specs.declared.place.Place.{Place}
use Rattle.c_tree.specs.Tree as tree
use Rattle.c_tree.specs.TypedTree.{TypedDeclarator, TypedForm, TypedParameters, TypedSpecifiers, TypedExpr}
use Rattle.c_typing.specs.Declarators.{Written}
use Rattle.c_typing.specs.Judging.{Gives, State}
use Rattle.c_typing.specs.Settled.{IsKnown}
use Rattle.c_typing.specs.Walks.{judge_declarator, judge_form, judge_prototype, judge_specifiers_of}
use Rattle.c_typing.specs.declared.naming.Naming.{Naming}
use Rattle.c_type_order.specs.TypesUsed.{used_by_declarator, used_by_form, used_by_parameters, used_by_specifiers, used_by}
use Rattle.c_type_order.specs.Uses.{IsUsed}
use Rattle.cc_base.specs.declared.number.TypeId.{TypeId}
use Rattle.c_typing.specs.Checking.{checked_value}

abbrev pub SpecifiersUseTypesInOrder : Type 0
SpecifiersUseTypesInOrder =
    (alone : Bool) (all : tree.Specifiers) (t : TypedSpecifiers) (s r : State) → IsKnown s → judge_specifiers_of alone all s ≡ Gives t r
    → IsUsed (λ T. used_by_specifiers T t) s.table r.table

abbrev pub FormsUseTypesInOrder : Type 0
FormsUseTypesInOrder =
    (which : Naming) (at : Place) (d : tree.Declarator) (form : TypedForm) (s r : State) → IsKnown s → judge_form which at d s ≡ Gives form r
    → IsUsed (λ T. used_by_form T form) s.table r.table

abbrev pub DeclaratorsUseTypesInOrder : Type 0
DeclaratorsUseTypesInOrder =
    (which : Naming) (base : TypedSpecifiers) (size : Option ℕ) (d : tree.Declarator) (one : TypedDeclarator) (s r : State) → IsKnown s
    → judge_declarator which base size d s ≡ Gives one r → IsUsed (λ T. used_by_declarator T Written one) s.table r.table

abbrev pub PrototypesUseTypesInOrder : Type 0
PrototypesUseTypesInOrder =
    (at : Place) (all : tree.Parameters) (list : TypedParameters) (s r : State) → IsKnown s → judge_prototype at all s ≡ Gives list r
    → IsUsed (λ T. used_by_parameters T list) s.table r.table

abbrev pub ConversionsUseTypesInOrder : Type 0
ConversionsUseTypesInOrder =
    (t : TypeId) (at : Place) (init : Bool) (e : tree.Expr) (v : TypedExpr) (s r : State) → IsKnown s → checked_value t at init e s ≡ Gives v r
    → IsUsed (λ T. used_by T v) s.table r.table

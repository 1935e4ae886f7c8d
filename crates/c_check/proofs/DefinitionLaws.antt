-- The rules of the name of a function with a body, one after another, and how a definition is judged.
use Rattle.std.proofs.Common.{true, false, ◌≡◌, Bool, ◌&&◌, ◌||◌, not, Some, None, ap, sym, ◌∙◌}
use Rattle.std.specs.Prelude.{if◌then◌else◌}
use Rattle.cc_base.specs.declared.fault.Fault.TheVariants.{Refused}
use Rattle.cc_base.specs.declared.fault.Rule.TheVariants as rule
use Rattle.cc_base.specs.declared.number.TypeId.{TypeId}
use Rattle.cc_base.specs.declared.place.Place.{Place}
use Rattle.c_types.specs.Table.{Table, shape_at}
use Rattle.c_tree.specs.Tree as tree
use Rattle.c_tree.specs.TypedTree as typed
use Rattle.c_tree.specs.TypedTree.{TypedSpecifiers, TypedDeclarator, TypedTranslationUnit}
use Rattle.c_tree.specs.TypedParts.{declared_type, specified_type}
use Rattle.c_typing.specs.Declaring.{declarator_name}
use Rattle.c_typing.specs.Judging as judging
use Rattle.c_typing.specs.Walks.{judge_declarator, judge_specifiers_of}
use Rattle.c_typing.specs.declared.naming.Naming.{Naming}
use Rattle.c_typing.specs.Scopes.{Name, Level}
use Rattle.c_typing.specs.Tests.{first_broken, has_some}
use Rattle.c_typing.specs.declared.declared.Declared.{Declared}
use Rattle.runtime_calls.specs.Prototypes.{runtime_of}
use Rattle.c_unit_typing.specs.DeclarationJudging.{naming_for, linked_first}
use Rattle.c_unit_typing.specs.DefinitionJudging.{body, defined_as, judge_definition, result_of}
use Rattle.c_unit_typing.specs.ParameterScopes.{level_of}
use Rattle.c_unit_typing.specs.UnitJudging.{UnitState, UnitOutcome, Gives, lifted, next, pure}
use Rattle.c_unit_typing.specs.Units.{Known, Storage, storage_of}
use Rattle.c_unit_typing.specs.UnitRefusals.{declared_as, definition_tests, is_function_declared, is_redeclared}

pub definition_by_parts : (T : Table) (k : Known) (storage : Storage) (written : Bool) (name : Name) (t : TypeId) (at : Place) (what : Declared) (x y z : Bool)
    → what ≡ declared_as T storage t
    → x ≡ is_redeclared T k true true name what
    → y ≡ has_some (runtime_of name)
    → z ≡ (written && is_function_declared what)
    → first_broken (definition_tests T k storage written name t at)
    ≡ (if x || y then Some (Refused at rule.Redeclared) else if not z then Some (Refused at rule.Mismatch) else None)
definition_by_parts T k storage written name t at what x y z hw hx hy hz =
    let answer = λ (p : Bool). λ (q : Bool). λ (r : Bool). if p || q then Some (Refused at rule.Redeclared) else if not r then Some (Refused at rule.Mismatch) else None in
    ap (λ w. answer (is_redeclared T k true true name w) (has_some (runtime_of name)) (written && is_function_declared w)) (sym hw)
    ∙ ap (λ v. answer v (has_some (runtime_of name)) (written && is_function_declared what)) (sym hx)
    ∙ ap (λ v. answer x v (written && is_function_declared what)) (sym hy)
    ∙ ap (λ v. answer x y v) (sym hz)

-- behind its declarator a definition goes on with its body
pub definition-goes : (before : TypedTranslationUnit) (specifiers : tree.Specifiers) (d : tree.Declarator) (brace : Place) (items : tree.BlockItems)
    (base : TypedSpecifiers) (which : Naming) (level : Level) (one again : TypedDeclarator) (s k l m : UnitState)
    → lifted (judge_specifiers_of false specifiers) s ≡ Gives base k
    → which ≡ naming_for true (storage_of base) (linked_first k.linkage.linked (declarator_name d))
    → level_of which (specified_type base) d (judging.known k.table k.seen) ≡ level
    → lifted (judge_declarator which base None d) k ≡ Gives one l
    → defined_as (declarator_name d) base one l ≡ Gives again m
    → judge_definition before specifiers d brace items s
    ≡ next (body brace (result_of (shape_at m.table (declared_type one))) level items m) (λ list. pure (typed.AndFunctionBody before base one brace list))
unfolding judge_definition
definition-goes before specifiers d brace items base which level one again s k l m specified named leaves declares defines =
    let last : TypedSpecifiers → Level → TypedDeclarator → UnitState → UnitOutcome TypedTranslationUnit =
    λ b h o t. next (body brace (result_of (shape_at t.table (declared_type o))) h items t) (λ list. pure (typed.AndFunctionBody before b o brace list)) in
    let behind : TypedSpecifiers → Naming → Level → UnitState → UnitOutcome TypedTranslationUnit =
    λ b w h t. next (lifted (judge_declarator w b None d) t) (λ o. λ u. next (defined_as (declarator_name d) b o u) (λ a. last b h o)) in
    ap (λ (x : UnitOutcome TypedSpecifiers). next x (λ b. λ t. behind b (naming_for true (storage_of b) (linked_first t.linkage.linked (declarator_name d)))
    (level_of (naming_for true (storage_of b) (linked_first t.linkage.linked (declarator_name d))) (specified_type b) d (judging.known t.table t.seen)) t)) specified
    ∙ ap (λ (w : Naming). behind base w (level_of w (specified_type base) d (judging.known k.table k.seen)) k) (sym named)
    ∙ ap (λ (h : Level). behind base which h k) leaves
    ∙ ap (λ (x : UnitOutcome TypedDeclarator). next x (λ o. λ u. next (defined_as (declarator_name d) base o u) (λ a. last base level o))) declares
    ∙ ap (λ (x : UnitOutcome TypedDeclarator). next x (λ a. last base level one)) defines

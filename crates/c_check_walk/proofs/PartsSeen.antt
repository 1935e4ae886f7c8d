-- Parts of the code's tree that are structs, as plain data by their fields.
use Rattle.std.proofs.Common.{◌≡◌, ap, sym, ◌∙◌, map, option_map}
use Rattle.c_tree.proofs.ViewLaws.{view-Declarator, view-Members, view-Parameter, view-Specifiers, view-TypeName}
use Rattle.c_tree.specs.declared.expr.Declarator.{Declarator, out-Declarator, roll-out-Declarator}
use Rattle.c_tree.specs.declared.expr.Members.{Members, out-Members, roll-out-Members}
use Rattle.c_tree.specs.declared.expr.Parameter.{Parameter, out-Parameter, roll-out-Parameter}
use Rattle.c_tree.specs.declared.expr.Specifiers.{Specifiers, out-Specifiers, roll-out-Specifiers}
use Rattle.c_tree.specs.declared.expr.TypeName.{TypeName, out-TypeName, roll-out-TypeName}
use Rattle.c_tree.specs.Tree as tree
use Rattle.c_tree.specs.Views.{added, core_view, declarator_view, declared_of, member_declarators_of, members_view, parameter_view, part_view, specifier_view, specifiers_of, specifiers_view, type_name_view}

pub declarator_seen : (d : Declarator)
    → declarator_view d ≡ tree.Declares (out-Declarator d).stars (core_view (out-Declarator d).core) (added tree.NoPart (map part_view (out-Declarator d).parts))
declarator_seen d =
    ap declarator_view (sym (roll-out-Declarator d)) ∙ view-Declarator (out-Declarator d).stars (out-Declarator d).core (out-Declarator d).parts

pub specifiers_seen : (all : Specifiers) → specifiers_view all ≡ specifiers_of (map specifier_view (out-Specifiers all).list)
specifiers_seen all = ap specifiers_view (sym (roll-out-Specifiers all)) ∙ view-Specifiers (out-Specifiers all).list

pub type_name_seen : (name : TypeName)
    → type_name_view name ≡ tree.Named (specifiers_view (out-TypeName name).specifiers) (declared_of (option_map declarator_view (out-TypeName name).declarator))
type_name_seen name =
    ap type_name_view (sym (roll-out-TypeName name)) ∙ view-TypeName (out-TypeName name).specifiers (out-TypeName name).declarator

pub row_seen : (row : Members) (before : tree.Members)
    → members_view row before ≡ tree.AndMember before (specifiers_view (out-Members row).specifiers) (member_declarators_of (map declarator_view (out-Members row).declarators))
row_seen row before =
    ap (λ (m : Members). members_view m before) (sym (roll-out-Members row))
    ∙ ap (λ (f : tree.Members → tree.Members). f before) (view-Members (out-Members row).specifiers (out-Members row).declarators)

pub parameter_seen : (one : Parameter) (before : tree.Parameters)
    → parameter_view one before ≡ tree.AndParameter before (specifiers_view (out-Parameter one).specifiers) (declared_of (option_map declarator_view (out-Parameter one).declarator))
parameter_seen one before =
    ap (λ (p : Parameter). parameter_view p before) (sym (roll-out-Parameter one))
    ∙ ap (λ (f : tree.Parameters → tree.Parameters). f before) (view-Parameter (out-Parameter one).specifiers (out-Parameter one).declarator)

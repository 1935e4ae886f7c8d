-- The rules of a name with linkage, one after another.
use Rattle.std.proofs.Common.{◌≡◌, Bool, true, false, ◌&&◌, ◌||◌, refl, ap, sym, ◌∙◌}
use Rattle.c_types.specs.Table.{Table}
use Rattle.c_typing.specs.Scopes.{Name, here, entry_of}
use Rattle.c_typing.specs.declared.declared.Declared.{Declared}
use Rattle.runtime_calls.specs.Prototypes.{runtime_of}
use Rattle.c_unit_typing.specs.Units.{Known, is_one_of}
use Rattle.c_unit_typing.specs.UnitRefusals.{conflicts, conflicts_with_runtime, is_redeclared, is_unlinked}

regrouped : (a b c d e : Bool) → (a || (b || (c || (d || e)))) ≡ ((a || b) || ((c || d) || e))
regrouped true b c d e = refl
regrouped false true c d e = refl
regrouped false false true d e = refl
regrouped false false false d e = refl

-- a name with linkage does not agree with what is here, or with what is linked, or it is defined again
pub linked_by_parts : (T : Table) (k : Known) (defines : Bool) (name : Name) (what : Declared) (x y z : Bool)
    → x ≡ (conflicts T (here k.scopes.levels name) what || is_unlinked (here k.scopes.levels name) (entry_of k.linked name))
    → y ≡ (conflicts T (entry_of k.linked name) what || conflicts_with_runtime T (runtime_of name) what)
    → z ≡ (defines && is_one_of k.defined name)
    → is_redeclared T k true defines name what ≡ (x || (y || z))
linked_by_parts T k defines name what x y z hx hy hz =
    let a = conflicts T (here k.scopes.levels name) what in
    let b = is_unlinked (here k.scopes.levels name) (entry_of k.linked name) in
    let c = conflicts T (entry_of k.linked name) what in
    let d = conflicts_with_runtime T (runtime_of name) what in
    let e = defines && is_one_of k.defined name in
    regrouped a b c d e
    ∙ ap (λ v. v || ((c || d) || e)) (sym hx)
    ∙ ap (λ v. x || (v || e)) (sym hy)
    ∙ ap (λ v. x || (y || v)) (sym hz)

use Rattle.std.proofs.Common.{◌≡◌, ◌++◌, ◌∷◌, [], ◌<◌, length, ap, sym, ◌∙◌, subst, List}
use Rattle.std.proofs.lemmas.List.{length-map}
use Rattle.indexmap.specs.IndexMap.{insert_entry}
use Rattle.c_types.specs.declared.kept.Kept.{Kept}
use Rattle.c_types.specs.declared.shape.TypeShape.{TypeShape}
use Rattle.c_types.specs.Table.{Table, IsType}
use Rattle.c_types.specs.Layouts.{layout_of, size_of}
use Rattle.c_types.specs.PointerCounts.{pointers_of_shape, pointers_in}
use Rattle.c_types.specs.Kept.{KeptEntry, IsSound, IsFound, AreFirst, table_of, entry_of, firsts_of}
use Rattle.c_types.specs.Calls.{IsNew, IsAddable, basic_entry, new_layout}
use Rattle.c_types.proofs.Shapes.{shape_eq}
use Rattle.c_types.proofs.Adding.{put_new, table_added, sound_added, layouts_others}
use Rattle.c_types.proofs.Firsts.{first_added}
use Rattle.c_types.proofs.table.Types.insert.Goals as goal

abbrev before : goal.Joined-branch-5 → List KeptEntry
before c = c.self.inside.entries.entries

abbrev kept : goal.Joined-branch-5 → Kept
kept c = record { layout = c.args.layout; pointers = c.new_pointers-pointers.result; fields = c.new.result; first = c.in_ok-first.first }

fresh : (c : goal.Joined-branch-5) → IsNew (table_of (before c)) c.args.shape
fresh c = subst (λ (table : Table). IsNew table c.args.shape) (sym c.self.view_is) c.requires.fresh

addable : (c : goal.Joined-branch-5) → IsAddable (table_of (before c)) c.args.shape
addable c = subst (λ (table : Table). IsAddable table c.args.shape) (sym c.self.view_is) c.requires.addable

entries : (c : goal.Joined-branch-5) → c.insert.new.self.entries ≡ before c ++ (c.args.shape, kept c) ∷ []
entries c =
    c.in_ok-insert.ensures.entries
    ∙ ap (λ (es : List KeptEntry). insert_entry shape_eq es c.args.shape (kept c)) c.reserve.ensures.entries
    ∙ put_new (before c) c.args.shape (kept c) (fresh c)

first : (c : goal.Joined-branch-5)
    → AreFirst (table_of (before c) ++ basic_entry c.args.shape ∷ []) (firsts_of (before c) ++ c.in_ok-first.first ∷ []) c.first_with.new.known.entries
first c =
    let same_length : length (firsts_of (before c)) ≡ length (table_of (before c)) =
    length-map (before c) (λ (p : KeptEntry). p.1.first) ∙ sym (length-map (before c) entry_of) in
    first_added (table_of (before c)) c.args.shape (firsts_of (before c)) c.self.inside.known.entries c.first_with.new.known.entries
    (record { 0 = c.len.result }) c.in_ok-first.first c.self.invariant.formed (addable c) c.self.invariant.first same_length
    (c.len.ensures.len ∙ sym (length-map (before c) entry_of))
    (subst (λ (shape : TypeShape). IsFound c.self.inside.known.entries c.first_with.new.known.entries shape (record { 0 = c.len.result }) c.in_ok-first.first)
    c.in_ok-canonical.ensures c.in_ok-first.ensures.found)

pub invariant_of-self-2 : goal.invariant_of-self-2
invariant_of-self-2 c =
    subst (λ (es : List KeptEntry). IsSound es c.first_with.new.known.entries) (sym (entries c))
    (sound_added (before c) c.args.shape (kept c) c.new.ensures.items c.self.inside.known.entries c.first_with.new.known.entries c.self.invariant
    (fresh c) (addable c)
    (subst (λ (table : Table). c.args.layout ≡ new_layout table c.args.shape) (sym c.self.view_is) c.requires.layout)
    (subst (λ (table : Table). c.new_pointers-pointers.result ≡ pointers_of_shape (size_of table) (pointers_in table) c.args.shape []) (sym c.self.view_is) c.new_pointers-pointers.ensures)
    (subst (λ (table : Table). length table < 16384) (sym c.self.view_is) c.requires.room)
    c.requires.small (first c))

pub returns-clause-added : goal.returns-clause-added
returns-clause-added c =
    ap table_of (entries c)
    ∙ table_added (before c) c.args.shape (kept c) c.new.ensures.items
    ∙ ap (λ (table : Table). table ++ basic_entry c.args.shape ∷ []) c.self.view_is

pub returns-clause-others : goal.returns-clause-others
returns-clause-others c t h =
    ap (λ (es : List KeptEntry). layout_of (table_of es) t) (entries c)
    ∙ ap (λ (table : Table). layout_of table t) (table_added (before c) c.args.shape (kept c) c.new.ensures.items)
    ∙ layouts_others (table_of (before c)) c.args.shape c.self.invariant.formed (fresh c) (addable c) t
    (subst (λ (table : Table). IsType table t) (sym c.self.view_is) h)
    ∙ ap (λ (table : Table). layout_of table t) c.self.view_is

use Rattle.std.proofs.Common.{◌≡◌, ◌≤◌, List, [], subst, ap, sym, ◌∙◌}
use Rattle.std.specs.List.{All}
use Rattle.cc_base.specs.declared.number.TypeId.{TypeId}
use Rattle.c_types.specs.declared.kept.Kept.{Kept}
use Rattle.c_types.specs.Table.{Entry, IsType, IsAggregate, IsComplete, members_at, shape_at}
use Rattle.c_types.specs.Layouts.{layout_of, size_of}
use Rattle.c_types.specs.PointerCounts.{pointers_of_shape, pointers_in}
use Rattle.c_types.specs.Kept.{ArePlaces, table_of}
use Rattle.c_types.specs.Calls.{with_members, defined_layout}
use Rattle.c_types.proofs.Defining.{sound_defined, table_defined, others_complete}
use Rattle.c_types.proofs.table.Types.define.Goals as goal

abbrev kept : goal.After-drop-members-2 → Kept
kept c = record { layout = c.in-Some.layout; pointers = c.defined_pointers-pointers.result; fields = c.in_ok-fields.fields; first = c.first_of-first.result }

move : (c : goal.After-drop-members-2) (P : List Entry → Type 0) → P c.args.self.now → P (table_of c.self.inside.entries.entries)
move c P = subst P (sym c.self.view_is)

typed : (c : goal.After-drop-members-2) → IsType (table_of c.self.inside.entries.entries) c.args.t
typed c = move c (λ table. IsType table c.args.t) c.requires.typed

aggregate : (c : goal.After-drop-members-2) → IsAggregate (table_of c.self.inside.entries.entries) c.args.t
aggregate c = move c (λ table. IsAggregate table c.args.t) c.requires.aggregate

open_so_far : (c : goal.After-drop-members-2) → members_at (table_of c.self.inside.entries.entries) c.args.t ≡ []
open_so_far c = move c (λ table. members_at table c.args.t ≡ []) c.requires.unset

complete : (c : goal.After-drop-members-2) → All (IsComplete (table_of c.self.inside.entries.entries)) c.args.members.items
complete c = move c (λ table. All (IsComplete table) c.args.members.items) c.requires.complete

layout : (c : goal.After-drop-members-2) → c.in-Some.layout ≡ defined_layout (table_of c.self.inside.entries.entries) c.args.t c.args.members.items
layout c =
    move c (λ table. c.in-Some.layout ≡ defined_layout table c.args.t c.args.members.items)
    (subst (λ (ms : List TypeId). c.in-Some.layout ≡ defined_layout c.args.self.now c.args.t ms) c.deref.ensures.value c.in-Some.ensures.1)

count : (c : goal.After-drop-members-2) → c.defined_pointers-pointers.result
    ≡ pointers_of_shape (size_of (table_of c.self.inside.entries.entries)) (pointers_in (table_of c.self.inside.entries.entries)) (shape_at (table_of c.self.inside.entries.entries) c.args.t) c.args.members.items
count c =
    move c (λ table. c.defined_pointers-pointers.result ≡ pointers_of_shape (size_of table) (pointers_in table) (shape_at table c.args.t) c.args.members.items)
    (subst (λ (ms : List TypeId). c.defined_pointers-pointers.result ≡ pointers_of_shape (size_of c.args.self.now) (pointers_in c.args.self.now) (shape_at c.args.self.now c.args.t) ms)
    c.deref-2.ensures.value c.defined_pointers-pointers.ensures)

small : (c : goal.After-drop-members-2) → (defined_layout (table_of c.self.inside.entries.entries) c.args.t c.args.members.items).size ≤ 1048576
small c =
    move c (λ table. (defined_layout table c.args.t c.args.members.items).size ≤ 1048576)
    (subst (λ (ms : List TypeId). (defined_layout c.args.self.now c.args.t ms).size ≤ 1048576) c.deref.ensures.value c.in-Some.ensures.0)

places : (c : goal.After-drop-members-2)
    → ArePlaces (layout_of (table_of c.self.inside.entries.entries)) (shape_at (table_of c.self.inside.entries.entries) c.args.t) c.args.members.items c.in_ok-fields.fields.items
places c =
    move c (λ table. ArePlaces (layout_of table) (shape_at table c.args.t) c.args.members.items c.in_ok-fields.fields.items)
    (subst (λ (ms : List TypeId). ArePlaces (layout_of c.args.self.now) (shape_at c.args.self.now c.args.t) ms c.in_ok-fields.fields.items)
    c.deref-3.ensures.value c.in_ok-fields.ensures)

pub invariant_of-self : goal.invariant_of-self
invariant_of-self c =
    sound_defined c.self.inside.entries.entries c.args.t c.args.members.items (kept c) (typed c) (places c) c.self.inside.known.entries c.self.invariant
    (aggregate c) (open_so_far c) c.requires.some (complete c) (layout c) (count c) (small c) c.first_of-first.ensures

pub returns-clause-defined : goal.returns-clause-defined
returns-clause-defined c =
    table_defined c.self.inside.entries.entries c.args.t c.args.members.items (kept c) (typed c) (places c)
    ∙ ap (λ (table : List Entry). with_members table c.args.t c.args.members.items) c.self.view_is

pub returns-clause-others : goal.returns-clause-others
returns-clause-others c u h =
    ap (λ (table : List Entry). layout_of table u) (table_defined c.self.inside.entries.entries c.args.t c.args.members.items (kept c) (typed c) (places c))
    ∙ others_complete (table_of c.self.inside.entries.entries) c.args.t c.args.members.items c.self.invariant.formed (typed c) (aggregate c) (open_so_far c)
    c.requires.some (complete c) u (move c (λ table. IsComplete table u) h)
    ∙ ap (λ (table : List Entry). layout_of table u) c.self.view_is

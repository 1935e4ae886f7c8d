use Rattle.std.specs.Prelude.{List, length, IsFalse}
use Rattle.std.specs.List.{All}
use Rattle.std.proofs.Common.{sym, subst}
use Rattle.cc_base.specs.Kinds.{kind_at}
use Rattle.c_types.specs.Table.{Table, IsType, is_function}
use Rattle.c_types.specs.Sound.{IsWellFormed}
use Rattle.rtti_nodes.specs.declared.ordering.Sized.{Sized}
use Rattle.rtti_nodes.specs.TypeNodes.{AreTypeNodes}
use Rattle.rtti_nodes.specs.Classes.{IsSizedType, AreSorted}
use Rattle.rtti_nodes.proofs.Standing.{all_sized, type_nodes}
use Rattle.rtti_nodes.proofs.nodes.Nodes.make.Goals as goal

pub classes_of-requires-clause-types : goal.classes_of-requires-clause-types
classes_of-requires-clause-types c =
    let typed = subst (λ (table : Table). All (IsType table) c.args.used.now) (sym c.in_ok-known.ensures) c.requires.used in
    let plain = subst (λ (table : Table). All (λ t. IsFalse (is_function table t)) c.args.used.now) (sym c.in_ok-known.ensures) c.requires.data in
    subst (λ (xs : List Sized). All (IsSizedType c.in_ok-known.known) xs) (sym c.deref.ensures.value)
    (all_sized c.in_ok-known.known c.args.used.now typed plain c.in_ok-ordered.ordered.items c.in_ok-ordered.ensures.all)

pub invariant_of-result : goal.invariant_of-result
invariant_of-result c =
    let typed = subst (λ (table : Table). All (IsType table) c.args.used.now) (sym c.in_ok-known.ensures) c.requires.used in
    let plain = subst (λ (table : Table). All (λ t. IsFalse (is_function table t)) c.args.used.now) (sym c.in_ok-known.ensures) c.requires.data in
    let formed = subst IsWellFormed (sym c.in_ok-known.ensures) c.count.ensures.formed in
    let made = c.in_ok-_firsts.field-0 in
    let sorted = subst (λ (xs : List Sized). AreSorted c.in_ok-known.known (kind_at c.args.kinds.now) xs (length xs) made.firsts.items made.parents.items made.numbers.items)
    c.deref.ensures.value c.in_ok-_firsts.ensures in
    subst (λ (table : Table). AreTypeNodes (record {
      table = table;
      kinds = c.args.kinds.now;
      used = c.args.used.now;
      numbers = made.numbers.items;
      parents = made.parents.items;
    })) c.in_ok-known.ensures
    (type_nodes c.in_ok-known.known formed c.args.kinds.now c.args.used.now typed plain c.in_ok-ordered.ordered.items c.in_ok-ordered.ensures.all made.firsts.items made.parents.items
    made.numbers.items sorted)

-- The scope that a definition's list of parameters leaves has objects of complete types, as all scopes have.
use Rattle.std.proofs.Common.{◌≡◌, [], ◌∷◌, List, sym, subst, ap, ◌∙◌}
use Rattle.std.proofs.lemmas.List.Elements.{All-head, All-tail, All-nil, All-weaker}
use Rattle.c_types.specs.Table.{Table}
use Rattle.c_tree.specs.Tree as tree
use Rattle.c_tree.specs.TypedTree.{TypedParameters}
use Rattle.c_typing.specs.declared.declared.Declared.{Declared}
use Rattle.c_typing.specs.declared.declared.Declared.TheVariants as declared
use Rattle.c_typing.specs.declared.naming.Naming.{Naming}
use Rattle.c_typing.specs.Extensions.{IsExtended}
use Rattle.c_typing.specs.Judging.{State}
use Rattle.c_typing.specs.Refusals.{is_void_alone}
use Rattle.c_typing.specs.Scopes.{Name, Level, Scopes, innermost}
use Rattle.c_typing_laws.proofs.JudgedDeclarators.{entered-judged}
use Rattle.c_typing_laws.proofs.JudgedTrees.{void_self}
use Rattle.c_typing_laws.proofs.TableGrowth.{extended_trans}
use Rattle.c_cells_kept.specs.Counted.{IsObjectWhole, IsLevelWhole, AreWhole, IsReady}
use Rattle.c_cells_kept.proofs.CellsMoved.{complete_later, stays-refl}
use Rattle.c_cells_kept.proofs.CountedTrees.{parameters-make}
use Rattle.c_cells_kept.proofs.StepsKept.{entered-keeps}
use Rattle.c_unit_typing.proofs.NearestLists.{IsLevelJudged}

object_later : (T U : Table) → IsExtended T U → (what : Declared) → IsObjectWhole T what → IsObjectWhole U what
object_later T U x (declared.Object t home) h = complete_later T U x t h
object_later T U x (declared.Typedef t) h = tt
object_later T U x (declared.Function t) h = tt
object_later T U x (declared.Enumerator value) h = tt

level_later : (T U : Table) → IsExtended T U → (l : Level) → IsLevelWhole T l → IsLevelWhole U l
level_later T U x l h = record {
  names = All-weaker (λ (e : Name × Declared). IsObjectWhole T e.1) (λ (e : Name × Declared). IsObjectWhole U e.1) (λ e. object_later T U x e.1) l.names h.names;
}

innermost_whole : (T : Table) (ls : List Level) → AreWhole T ls → IsLevelWhole T (innermost ls)
innermost_whole T [] h = record { names = All-nil (λ (e : Name × Declared). IsObjectWhole T e.1) }
innermost_whole T (l ∷ []) h = All-head (IsLevelWhole T) l [] h
innermost_whole T (l ∷ (m ∷ ls)) h = innermost_whole T (m ∷ ls) (All-tail (IsLevelWhole T) l (m ∷ ls) h)

pub level-whole : (naming : Naming) (d : tree.Declarator) (level : Level) (ps : TypedParameters) (s r : State) → IsLevelJudged naming d level ps s r → IsReady s → IsLevelWhole r.table level
level-whole naming d level ps s r l ready =
    let scope = l.list in
    let run = scope.run in
    let from = scope.from in
    let levels : AreWhole from.table from.seen.scopes.levels = subst (λ (c : Scopes). AreWhole from.table c.levels) (sym scope.scopes)
    (All-weaker (IsLevelWhole s.table) (IsLevelWhole from.table) (level_later s.table from.table scope.earlier) s.seen.scopes.levels ready.1) in
    let inside = entered-judged run.flag from run.first scope.before run.enters in
    let first = (entered-keeps from from (stays-refl from) run.flag run.first run.enters (scope.before.basic, levels)).1 in
    let last = (parameters-make scope.list (is_void_alone scope.list) ps run.first run.last (void_self scope.list) inside.1.known run.gives first).1.1 in
    let whole = level_later run.last.table r.table (extended_trans run.last.table l.end.table r.table run.later l.later) (innermost run.last.seen.scopes.levels)
    (innermost_whole run.last.table run.last.seen.scopes.levels last) in
    let same : innermost run.last.seen.scopes.levels ≡ level =
    ap (λ (q : State). innermost q.seen.scopes.levels) scope.last ∙ ap (λ (c : Scopes). innermost c.levels) l.behind ∙ sym l.same in
    subst (IsLevelWhole r.table) same whole

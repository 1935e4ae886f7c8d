-- What judging counts of a declaration is the pointers that assignments of structs in it move.
use Rattle.std.proofs.Common.{◌≡◌, ℕ, Bool, true, false, ◌++◌, Option, Some, None, refl, subst, if◌then◌else◌}
use Rattle.c_types.specs.Table.{IsType}
use Rattle.c_tree.specs.declared.leaf.Identifier.{Identifier}
use Rattle.c_tree.specs.Tree as tree
use Rattle.c_tree.specs.TypedTree as typed
use Rattle.c_tree.specs.TypedTree.{TypedSpecifiers, TypedDeclarator, TypedInitDeclarators, TypedDeclaration}
use Rattle.c_tree.specs.TypedParts.{specified_type, declared_type, home_of, made_by_specifiers, made_by_declarator, made_by_initialiser, made_by_init_declarators, made_by_declaration}
use Rattle.c_typing.specs.Declaring.{declarator_name}
use Rattle.c_typing.specs.Scopes.{entry_of}
use Rattle.c_typing.specs.Walks.{judge_specifiers_of}
use Rattle.c_typing_laws.proofs.ExtensionLaws.{still_in}
use Rattle.c_unit_typing.specs.DeclarationJudging.{is_linked_by, defining, judge_named, judge_init_declarators, is_none, judge_declaration}
use Rattle.c_unit_typing.specs.InitialiserJudging.{judge_initialiser}
use Rattle.c_unit_typing.specs.Initialisers.{makes_chars}
use Rattle.c_unit_typing.specs.Linkage.{with_name}
use Rattle.c_unit_typing.specs.Units.{storage_of}
use Rattle.c_unit_typing.specs.UnitJudged.{state_of, IsUnitKnown}
use Rattle.c_unit_typing.specs.UnitJudging.{UnitState, Gives, next, pure, lifted}
use Rattle.c_unit_typing.specs.UnitRefusals.{is_lasting, size_written}
use Rattle.c_unit_typing.proofs.JudgedDeclarations.{base-judged, declarators-judged}
use Rattle.c_unit_typing.proofs.JudgedDeclarators.{one-judged}
use Rattle.c_unit_typing.proofs.UnitOutcomes.{bind-gives, given-same, gives-state, lifted-gives}
use Rattle.c_cells_kept.proofs.CellsMoved.{stays-refl}
use Rattle.c_cells_kept.proofs.CountedWhole.{specifiers-moves}
use Rattle.c_unit_limits.proofs.CellsInitialisers.{initialiser-moves}
use Rattle.c_unit_limits.proofs.CellsNames.{one-moves}
use Rattle.c_unit_limits.proofs.CellsSteps.{UnitMoves, UnitStays, unit-none, unit-then, unit-inside, unit-still}

-- Specifiers

pub base-moves : (alone : Bool) (all : tree.Specifiers) (base : TypedSpecifiers) (s m : UnitState) → IsUnitKnown s → lifted (judge_specifiers_of alone all) s ≡ Gives base m
    → UnitMoves (made_by_specifiers base) s m
base-moves alone all base s m k h =
    record { moves = specifiers-moves alone all base (state_of s) (state_of m) k.known (lifted-gives (judge_specifiers_of alone all) base s m h).0 }

-- Initialised declarators

defining_stays : (o : Option Identifier) (one again : TypedDeclarator) (s r : UnitState) → defining o one s ≡ Gives again r → UnitStays s r
unfolding defining
defining_stays None one again s r h = subst (UnitStays s) (gives-state one again s r h) (unit-still s)
defining_stays (Some name) one again s r h =
    let after : UnitState = record s {
      linkage = record s.linkage {
        defined = if is_linked_by (entry_of s.linkage.linked name.bytes) (home_of one) then with_name name.bytes s.linkage.defined else s.linkage.defined;
      };
    } in
    subst (UnitStays s) (gives-state one again after r h) (record { stays = stays-refl (state_of s) })

pub declarators-move : (all : tree.InitDeclarators) (file : Bool) (base : TypedSpecifiers) (list : TypedInitDeclarators) (s r : UnitState) → IsUnitKnown s
    → IsType s.table (specified_type base) → judge_init_declarators file base all s ≡ Gives list r → UnitMoves (made_by_init_declarators list) s r
unfolding judge_init_declarators
declarators-move tree.NoInitDeclarator file base list s r k b h =
    given-same (λ (v : TypedInitDeclarators) (q : UnitState). UnitMoves (made_by_init_declarators v) s q) typed.NoInitDeclarator list s r h (unit-none s)
declarators-move (tree.AndPlain all d) file base list s r k b h =
    let e1 = bind-gives (judge_init_declarators file base all s) (λ before. λ m. next (judge_named file base false None d m) (λ one. pure (typed.AndPlain before one))) list r h in
    let l = declarators-judged all file base e1.0 s e1.1 k b e1.2 in
    let there = still_in s.table e1.1.table l.goes.goes.extends (specified_type base) b in
    let e2 = bind-gives (judge_named file base false None d e1.1) (λ one. pure (typed.AndPlain e1.0 one)) list r e1.3 in
    given-same (λ (v : TypedInitDeclarators) (q : UnitState). UnitMoves (made_by_init_declarators v) s q) (typed.AndPlain e1.0 e2.0) list e2.1 r e2.3
    (unit-then (made_by_init_declarators e1.0) (made_by_declarator e2.0) s e1.1 e2.1 (declarators-move all file base e1.0 s e1.1 k b e1.2)
    (one-moves file base false None d e2.0 e1.1 e2.1 l.goes.known there e2.2))
declarators-move (tree.AndInitialised all d at i) file base list s r k b h =
    let size : UnitState → Option ℕ = λ m. size_written (makes_chars m.table (specified_type base) d) i in
    let lasts = is_lasting file (storage_of base) in
    let e1 = bind-gives (judge_init_declarators file base all s) (λ before. λ m. next (judge_named file base true (size m) d m) (λ one. λ n.
    next (judge_initialiser lasts i at (Some (declared_type one)) false n) (λ value. λ q. next (defining (declarator_name d) one q) (λ again. pure (typed.AndInitialised before one at value))))) list r h in
    let m = e1.1 in
    let l = declarators-judged all file base e1.0 s m k b e1.2 in
    let there = still_in s.table m.table l.goes.goes.extends (specified_type base) b in
    let e2 = bind-gives (judge_named file base true (size m) d m) (λ one. λ n.
    next (judge_initialiser lasts i at (Some (declared_type one)) false n) (λ value. λ q. next (defining (declarator_name d) one q) (λ again. pure (typed.AndInitialised e1.0 one at value)))) list r e1.3 in
    let j = one-judged file base true (size m) d e2.0 m e2.1 l.goes.known there e2.2 in
    let e3 = bind-gives (judge_initialiser lasts i at (Some (declared_type e2.0)) false e2.1) (λ value. λ q. next (defining (declarator_name d) e2.0 q) (λ again. pure (typed.AndInitialised e1.0 e2.0 at value))) list r e2.3 in
    let v = initialiser-moves i lasts at (declared_type e2.0) false e3.0 e2.1 e3.1 j.goes.known.known (j.complete refl) e3.2 in
    let e4 = bind-gives (defining (declarator_name d) e2.0 e3.1) (λ again. pure (typed.AndInitialised e1.0 e2.0 at e3.0)) list r e3.3 in
    let same = defining_stays (declarator_name d) e2.0 e4.0 e3.1 e4.1 e4.2 in
    given-same (λ (w : TypedInitDeclarators) (q : UnitState). UnitMoves (made_by_init_declarators w) s q) (typed.AndInitialised e1.0 e2.0 at e3.0) list e4.1 r e4.3
    (unit-then (made_by_init_declarators e1.0 ++ made_by_declarator e2.0) (made_by_initialiser e3.0) s e2.1 e4.1
    (unit-then (made_by_init_declarators e1.0) (made_by_declarator e2.0) s m e2.1 (declarators-move all file base e1.0 s m k b e1.2)
    (one-moves file base true (size m) d e2.0 m e2.1 l.goes.known there e2.2))
    (unit-inside (made_by_initialiser e3.0) e2.1 e2.1 e3.1 e4.1 (unit-still e2.1) v same))

-- Declarations

pub declaration-moves : (file : Bool) (d : tree.Declaration) (one : TypedDeclaration) (s r : UnitState) → IsUnitKnown s → judge_declaration file d s ≡ Gives one r
    → UnitMoves (made_by_declaration one) s r
unfolding judge_declaration
declaration-moves file (tree.Declare specifiers all) one s r k h =
    let e1 = bind-gives (lifted (judge_specifiers_of (is_none all) specifiers) s) (λ base. λ m. next (judge_init_declarators file base all m) (λ list. pure (typed.Declare base list))) one r h in
    let b = base-judged (is_none all) specifiers e1.0 s e1.1 k e1.2 in
    let e2 = bind-gives (judge_init_declarators file e1.0 all e1.1) (λ list. pure (typed.Declare e1.0 list)) one r e1.3 in
    given-same (λ (v : TypedDeclaration) (q : UnitState). UnitMoves (made_by_declaration v) s q) (typed.Declare e1.0 e2.0) one e2.1 r e2.3
    (unit-then (made_by_specifiers e1.0) (made_by_init_declarators e2.0) s e1.1 e2.1 (base-moves (is_none all) specifiers e1.0 s e1.1 k e1.2)
    (declarators-move all file e1.0 e2.0 e1.1 e2.1 b.goes.known b.judged.there e2.2))

-- What judging counts of a declaration is the bytes of all that lasts in it.
use Rattle.std.proofs.Common.{◌≡◌, ℕ, Bool, true, false, ◌++◌, Option, Some, None, refl, ap, sym, subst, if◌then◌else◌}
use Rattle.c_types.specs.Sound.{IsWellFormed}
use Rattle.c_types.specs.Table.{Table, IsType}
use Rattle.c_tree.specs.declared.leaf.Identifier.{Identifier}
use Rattle.c_tree.specs.Tree as tree
use Rattle.c_tree.specs.TypedTree as typed
use Rattle.c_tree.specs.TypedTree.{TypedSpecifiers, TypedDeclarator, TypedInitDeclarators, TypedDeclaration}
use Rattle.c_tree.specs.TypedParts.{specified_type, declared_type, home_of, made_by_specifiers, made_by_declarator, made_by_initialiser, made_by_init_declarators, made_by_declaration}
use Rattle.c_typing.specs.Declaring.{declarator_name}
use Rattle.c_typing.specs.Extensions.{IsExtended}
use Rattle.c_typing.specs.Scopes.{Scopes, entry_of}
use Rattle.c_typing.specs.Settled.{IsBasic}
use Rattle.c_typing.specs.Typing.{AreAlone}
use Rattle.c_typing.specs.Walks.{judge_specifiers_of}
use Rattle.c_typing_laws.specs.Judged.{AreSpecifiersBy}
use Rattle.c_typing_laws.proofs.ExtensionLaws.{still_in, extended_refl}
use Rattle.c_typing_laws.proofs.KeptTrees.{specifiers-kept}
use Rattle.c_typing_laws.proofs.TableGrowth.{extended_trans}
use Rattle.c_unit_typing.specs.DeclarationJudging.{is_linked_by, defining, judge_named, judge_init_declarators, is_none, judge_declaration}
use Rattle.c_unit_typing.specs.InitialiserJudging.{judge_initialiser}
use Rattle.c_unit_typing.specs.Initialisers.{makes_chars}
use Rattle.c_unit_typing.specs.Linkage.{with_name}
use Rattle.c_unit_typing.specs.Units.{storage_of}
use Rattle.c_unit_typing.specs.UnitJudged.{state_of, IsUnitKnown}
use Rattle.c_unit_typing.specs.UnitJudging.{UnitState, Gives, next, pure, lifted}
use Rattle.c_unit_typing.specs.UnitRefusals.{is_lasting, size_written}
use Rattle.c_unit_typing.proofs.JudgedDeclarations.{alone-kept, base-judged, declarators-judged}
use Rattle.c_unit_typing.proofs.JudgedDeclarators.{one-judged}
use Rattle.c_unit_typing.proofs.UnitOutcomes.{bind-gives, given-same, gives-state, lifted-gives}
use Rattle.c_unit_limits.proofs.CountedLiterals.{specifiers-counted}
use Rattle.c_unit_limits.proofs.LastingNames.{IsSame, one-lasts}
use Rattle.c_unit_limits.proofs.LastingSteps.{Lasts, lasts-none, lasts-on, lasts-inside, literals-last, initialiser-lasts}
use Rattle.c_unit_limits.proofs.StaticsMade.{IsAlike, none, specifiers-alike}

-- Specifiers

pub alone-alike : (T : Table) → IsWellFormed T → (all : TypedSpecifiers) (s s' : Scopes) → AreAlone T all s s' → IsAlike T (made_by_specifiers all) 0
alone-alike T w (typed.Specified (typed.AndSpecifier typed.NoSpecifier (typed.Tagged which at name t)) u) s s' h = none T
alone-alike T w (typed.Specified typed.NoSpecifier u) s s' h = none T
alone-alike T w (typed.Specified (typed.AndSpecifier (typed.AndSpecifier all other) one) u) s s' h =
    specifiers-alike T w (typed.Specified (typed.AndSpecifier (typed.AndSpecifier all other) one) u) s s' h
alone-alike T w (typed.Specified (typed.AndSpecifier typed.NoSpecifier one) u) s s' h =
    specifiers-alike T w (typed.Specified (typed.AndSpecifier typed.NoSpecifier one) u) s s' h

base_alike : (alone : Bool) (T U : Table) → IsExtended T U → IsBasic T → IsWellFormed U → (all : TypedSpecifiers) (s s' : Scopes) → AreSpecifiersBy alone T all s s'
    → IsAlike U (made_by_specifiers all) 0
base_alike true T U x b w all s s' h = alone-alike U w all s s' (alone-kept T U x b all s s' h)
base_alike false T U x b w all s s' h = specifiers-alike U w all s s' (specifiers-kept T U x b all s s' h)

pub base-lasts : (alone : Bool) (all : tree.Specifiers) (base : TypedSpecifiers) (s m : UnitState) → IsUnitKnown s → lifted (judge_specifiers_of alone all) s ≡ Gives base m
    → Lasts (made_by_specifiers base) s m
base-lasts alone all base s m k h =
    let l = lifted-gives (judge_specifiers_of alone all) base s m h in
    let b = base-judged alone all base s m k h in
    literals-last (made_by_specifiers base) s m (specifiers-counted alone all base (state_of s) (state_of m) k.known l.0)
    (λ T x w. base_alike alone m.table T x b.judged.goes.known.basic w base s.seen.scopes m.seen.scopes b.judged.typed)

-- Initialised declarators

defining_same : (o : Option Identifier) (one again : TypedDeclarator) (s r : UnitState) → defining o one s ≡ Gives again r → IsSame s r
unfolding defining
defining_same None one again s r h =
    let after = sym (gives-state one again s r h) in
    record { table = ap (λ (q : UnitState). q.table) after; globals = ap (λ (q : UnitState). q.seen.globals) after }
defining_same (Some name) one again s r h =
    let after = sym (gives-state one again (record s {
      linkage = record s.linkage {
        defined = if is_linked_by (entry_of s.linkage.linked name.bytes) (home_of one) then with_name name.bytes s.linkage.defined else s.linkage.defined;
      };
    }) r h) in
    record { table = ap (λ (q : UnitState). q.table) after; globals = ap (λ (q : UnitState). q.seen.globals) after }

same_table : (s r : UnitState) → r.table ≡ s.table → IsExtended s.table r.table
same_table s r e = subst (λ (U : Table). IsExtended s.table U) (sym e) (extended_refl s.table)

pub declarators-last : (all : tree.InitDeclarators) (file : Bool) (base : TypedSpecifiers) (list : TypedInitDeclarators) (s r : UnitState) → IsUnitKnown s
    → IsType s.table (specified_type base) → judge_init_declarators file base all s ≡ Gives list r → Lasts (made_by_init_declarators list) s r
unfolding judge_init_declarators
declarators-last tree.NoInitDeclarator file base list s r k b h =
    given-same (λ (v : TypedInitDeclarators) (q : UnitState). Lasts (made_by_init_declarators v) s q) typed.NoInitDeclarator list s r h (lasts-none s)
declarators-last (tree.AndPlain all d) file base list s r k b h =
    let e1 = bind-gives (judge_init_declarators file base all s) (λ before. λ m. next (judge_named file base false None d m) (λ one. pure (typed.AndPlain before one))) list r h in
    let l = declarators-judged all file base e1.0 s e1.1 k b e1.2 in
    let there = still_in s.table e1.1.table l.goes.goes.extends (specified_type base) b in
    let e2 = bind-gives (judge_named file base false None d e1.1) (λ one. pure (typed.AndPlain e1.0 one)) list r e1.3 in
    let j = one-judged file base false None d e2.0 e1.1 e2.1 l.goes.known there e2.2 in
    given-same (λ (v : TypedInitDeclarators) (q : UnitState). Lasts (made_by_init_declarators v) s q) (typed.AndPlain e1.0 e2.0) list e2.1 r e2.3
    (lasts-on (made_by_init_declarators e1.0) (made_by_declarator e2.0) s e1.1 e2.1 (declarators-last all file base e1.0 s e1.1 k b e1.2)
    (one-lasts file base false None d e2.0 e1.1 e2.1 l.goes.known there e2.2) j.goes.goes.extends)
declarators-last (tree.AndInitialised all d at i) file base list s r k b h =
    let size : UnitState → Option ℕ = λ m. size_written (makes_chars m.table (specified_type base) d) i in
    let lasts = is_lasting file (storage_of base) in
    let e1 = bind-gives (judge_init_declarators file base all s) (λ before. λ m. next (judge_named file base true (size m) d m) (λ one. λ n.
    next (judge_initialiser lasts i at (Some (declared_type one)) false n) (λ value. λ q. next (defining (declarator_name d) one q) (λ again. pure (typed.AndInitialised before one at value))))) list r h in
    let m = e1.1 in
    let l = declarators-judged all file base e1.0 s m k b e1.2 in
    let there = still_in s.table m.table l.goes.goes.extends (specified_type base) b in
    let e2 = bind-gives (judge_named file base true (size m) d m) (λ one. λ n.
    next (judge_initialiser lasts i at (Some (declared_type one)) false n) (λ value. λ q. next (defining (declarator_name d) one q) (λ again. pure (typed.AndInitialised e1.0 one at value)))) list r e1.3 in
    let j = one-judged file base true (size m) d e2.0 m e2.1 l.goes.known there e2.2 in
    let e3 = bind-gives (judge_initialiser lasts i at (Some (declared_type e2.0)) false e2.1) (λ value. λ q. next (defining (declarator_name d) e2.0 q) (λ again. pure (typed.AndInitialised e1.0 e2.0 at value))) list r e2.3 in
    let v = initialiser-lasts lasts i at (declared_type e2.0) false e3.0 e2.1 e3.1 j.goes.known (j.complete refl) e3.2 in
    let e4 = bind-gives (defining (declarator_name d) e2.0 e3.1) (λ again. pure (typed.AndInitialised e1.0 e2.0 at e3.0)) list r e3.3 in
    let same = defining_same (declarator_name d) e2.0 e4.0 e3.1 e4.1 e4.2 in
    let up = same_table e3.1 e4.1 same.table in
    given-same (λ (w : TypedInitDeclarators) (q : UnitState). Lasts (made_by_init_declarators w) s q) (typed.AndInitialised e1.0 e2.0 at e3.0) list e4.1 r e4.3
    (lasts-on (made_by_init_declarators e1.0 ++ made_by_declarator e2.0) (made_by_initialiser e3.0) s e2.1 e4.1
    (lasts-on (made_by_init_declarators e1.0) (made_by_declarator e2.0) s m e2.1 (declarators-last all file base e1.0 s m k b e1.2)
    (one-lasts file base true (size m) d e2.0 m e2.1 l.goes.known there e2.2) j.goes.goes.extends)
    (lasts-inside (made_by_initialiser e3.0) e2.1 e2.1 e3.1 e4.1 refl v.0 same.globals up)
    (extended_trans e2.1.table e3.1.table e4.1.table v.1 up))

-- Declarations

pub declaration-lasts : (file : Bool) (d : tree.Declaration) (one : TypedDeclaration) (s r : UnitState) → IsUnitKnown s → judge_declaration file d s ≡ Gives one r
    → Lasts (made_by_declaration one) s r
unfolding judge_declaration
declaration-lasts file (tree.Declare specifiers all) one s r k h =
    let e1 = bind-gives (lifted (judge_specifiers_of (is_none all) specifiers) s) (λ base. λ m. next (judge_init_declarators file base all m) (λ list. pure (typed.Declare base list))) one r h in
    let b = base-judged (is_none all) specifiers e1.0 s e1.1 k e1.2 in
    let e2 = bind-gives (judge_init_declarators file e1.0 all e1.1) (λ list. pure (typed.Declare e1.0 list)) one r e1.3 in
    let l = declarators-judged all file e1.0 e2.0 e1.1 e2.1 b.goes.known b.judged.there e2.2 in
    given-same (λ (v : TypedDeclaration) (q : UnitState). Lasts (made_by_declaration v) s q) (typed.Declare e1.0 e2.0) one e2.1 r e2.3
    (lasts-on (made_by_specifiers e1.0) (made_by_init_declarators e2.0) s e1.1 e2.1 (base-lasts (is_none all) specifiers e1.0 s e1.1 k e1.2)
    (declarators-last all file e1.0 e2.0 e1.1 e2.1 b.goes.known b.judged.there e2.2) l.goes.goes.extends)

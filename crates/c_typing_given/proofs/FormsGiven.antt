-- What stands in a declarator is given: stars, names with their homes, and array parts.
use Rattle.std.proofs.Common.{◌≡◌, ◌≤◌, ◌<◌, ◌+◌, ℕ, pos, true, not, List, [], ◌∷◌, ◌++◌, length, Some, refl, ap, sym, subst, ◌∙◌, arith}
use Rattle.cc_base.specs.declared.fault.Rule.TheVariants as rule
use Rattle.cc_base.specs.declared.place.Place.{Place}
use Rattle.cc_base.specs.declared.number.NodeId.{NodeId}
use Rattle.c_types.specs.Table.{Table}
use Rattle.c_tree.specs.declared.leaf.Identifier.{Identifier}
use Rattle.c_tree.specs.declared.leaf.Star.{Star}
use Rattle.c_tree.specs.declared.leaf.Word.{Word}
use Rattle.c_tree.specs.declared.typed_word.Home.{Home}
use Rattle.c_tree.specs.declared.typed_word.Home.TheVariants as home
use Rattle.c_tree.specs.declared.typed_word.TypedStar.{TypedStar}
use Rattle.c_tree.specs.Erasure.{erased_stars, erased_core, erased_parts}
use Rattle.c_tree.specs.Tree as tree
use Rattle.c_tree.specs.TypedTree as typed
use Rattle.c_tree.specs.TypedTree.{TypedExpr, TypedForm, TypedCore, TypedParts, TypedDeclared}
use Rattle.c_tree.specs.TypedParts.{Made, Name, Written, made_by, made_by_stars, made_by_core, made_by_form, made_by_parts, made_by_declared, name_of_form, home_of_form, name_of_core, home_of_core, declared_home}
use Rattle.c_typing.specs.declared.naming.Naming.{Naming}
use Rattle.c_typing.specs.declared.naming.Naming.TheVariants as naming
use Rattle.c_typing.specs.Constants.{constant_value}
use Rattle.c_typing.specs.Declaring.{home_as, stars_with_nodes}
use Rattle.c_typing.specs.Judging.{State, Outcome, Gives, new_node}
use Rattle.c_typing.specs.Settled.{IsBasic}
use Rattle.c_typing.specs.Tests.{AsValue, first_broken, array_size_tests, has_size, is_size}
use Rattle.c_typing.specs.Typing.{AreParts}
use Rattle.c_typing.specs.Walks.{judge_form, judge_core, judge_parts, judge_declared}
use Rattle.c_typing_laws.specs.Judged.{IsHomeAs, IsHomeOf}
use Rattle.c_typing_laws.proofs.ExtensionLaws.{extended_refl}
use Rattle.c_typing_unique.specs.Points.{Point, Numbers, IsRead}
use Rattle.c_typing_unique.proofs.DeclaratorSteps.{no_type, IsFormRead, IsCoreRead, IsDeclaredRead, name_declared, is_core, is_declared, declares_parts}
use Rattle.c_typing_unique.proofs.Numbering.{two-parts}
use Rattle.c_typing_unique.proofs.PartSteps.{ArePartsRead, are_parts}
use Rattle.c_typing_unique.proofs.Reading.{plain-bare, point-same}
use Rattle.c_typing_unique.proofs.OperatorLaws.{bare-plain}
use Rattle.c_typing_exact.proofs.SameParts.{distinct}
use Rattle.c_typing_exact.specs.Passing.{Passes}
use Rattle.c_typing_exact.proofs.Unbroken.{passes_one, off}
use Rattle.c_rules_alike.proofs.DeclaratorRules.{array_size-over}
use Rattle.c_rules_alike.proofs.PartsAlike.{constant-over}
use Rattle.c_typing_given.specs.Given.{point_at, IsHere, IsReached, IsGiven, IsGivenAs}
use Rattle.c_unit_typing.specs.Holding.{expr_holds, declarator_holds, core_holds, parts_holds, declared_holds}
use Rattle.c_typing_given.specs.Spending.{HasRoom, HasSpent}
use Rattle.c_type_order.specs.TypesUsed.{AreUses, OfSize, used_by, used_by_form, used_by_core, used_by_parts, used_by_declared}
use Rattle.c_typing_given.proofs.CallsGiven.{reached-none, reached-as}
use Rattle.c_typing_given.proofs.Constructing.{reached-both, uses-at, plain-given, max-left, max-right}
use Rattle.c_typing_given.proofs.Settling.{small-kept, point-after}
use Rattle.c_typing_given.proofs.Spent.{room-first, room-then}
use Rattle.c_typing_given.proofs.Steps.{new_node-is, with_node, with_node-known}
use Rattle.c_typing_given.proofs.TypeGiven.{lt_true, none-same}
use Rattle.c_typing_given.proofs.ValuesGiven.{uses-first}
use Rattle.c_typing_given.proofs.FormSteps.{judges-form, judges-names, judges-unnamed, judges-nested, judges-no-part, judges-array, judges-sized, judges-not-declared, judges-declared, home-none, home-known, home-static, home-local, home-parameter, stars-none, stars-more, sized-is}

module _ (T : Table) (basic : IsBasic T) where
  abbrev pub IsFormGiven : tree.Declarator → Type 0
  IsFormGiven d =
      (which : Naming) (at : Place) (x : TypedForm) (s : State) (b : Point) (count : ℕ) → IsHere T s → IsFormRead T d x (point_at s) b → IsHomeOf which (name_of_form x) (home_of_form x)
      → AreUses (used_by_form T x) (length s.table) count → HasRoom T (made_by_form x no_type) s → declarator_holds d ≤ 256
      → IsGivenAs T (made_by_form x no_type) (judge_form which at d s) x s b count

  abbrev pub IsCoreGiven : tree.Core → Type 0
  IsCoreGiven c =
      (which : Naming) (at : Place) (x : TypedCore) (s : State) (b : Point) (count : ℕ) → IsHere T s → IsCoreRead T c x (point_at s) b → IsHomeOf which (name_of_core x) (home_of_core x)
      → AreUses (used_by_core T x) (length s.table) count → HasRoom T (made_by_core x no_type) s → core_holds c ≤ 256
      → IsGivenAs T (made_by_core x no_type) (judge_core which at c s) x s b count

  abbrev pub ArePartsGiven : tree.Parts → Type 0
  ArePartsGiven xs =
      (at : Place) (x : TypedParts) (s : State) (b : Point) (count : ℕ) → IsHere T s → ArePartsRead T (distinct T basic) xs x (point_at s) b
      → AreUses (used_by_parts T x) (length s.table) count → HasRoom T (made_by_parts x) s → parts_holds xs ≤ 256
      → IsGivenAs T (made_by_parts x) (judge_parts at xs s) x s b count

  -- where a node was made and nothing else
  pub reached-node : (m : Made) (s : State) (b : Point) (count : ℕ) → IsHere T s → HasSpent T (m ∷ []) s (with_node s) → Numbers (m ∷ []) s.seen.node b.node → s.seen.scopes ≡ b.scopes
      → AreUses [] (length s.table) count → IsReached T (m ∷ []) s (with_node s) b count
  reached-node m s b count here spent n same uses = record {
    here = record { known = with_node-known s here.known; first = here.first; small = small-kept s (with_node s) here.small refl refl (omega arith) (λ o. o) (none-same s.table); own = here.own };
    grown = extended_refl s.table;
    point = point-after T basic (m ∷ []) s (with_node s) b n spent same;
    way = record { first = here.first; small = small-kept s (with_node s) here.small refl refl (omega arith) (λ o. o) (none-same s.table); types = sym uses; spent = spent };
  }

  given_as : {A : Type 0} (made made' : List Made) (run : Outcome A) (a : A) (s r : State) (b : Point) (count : ℕ) → run ≡ Gives a r → made ≡ made' → IsReached T made s r b count
      → IsGivenAs T made' run a s b count
  given_as made made' run a s r b count g q h = record { after = r; gives = g; reached = reached-as T basic made made' s r b count q h }

  -- names with their homes

  module _ (at : Place) (name : Identifier) (s : State) (b : Point) (count : ℕ) (here : IsHere T s) (same : b.scopes ≡ s.seen.scopes) (uses : AreUses [] (length s.table) count) where
    no_home : (which : Naming) (h : Home) → home_as at which s ≡ Gives h s → Numbers (Name name h no_type ∷ []) s.seen.node b.node → HasSpent T (Name name h no_type ∷ []) s s
        → IsGivenAs T (Name name h no_type ∷ []) (judge_core which at (tree.Names name) s) (typed.Names name h) s b count
    no_home which h g n spent = record {
      after = s;
      gives = judges-names which at name h s s g;
      reached = record {
        here = here;
        grown = extended_refl s.table;
        point = point-after T basic (Name name h no_type ∷ []) s s b n spent (sym same);
        way = record { first = here.first; small = here.small; types = sym uses; spent = spent };
      };
    }

    own_home : (which : Naming) (h : Home) (n : NodeId) → home_as at which s ≡ Gives h (with_node s) → Numbers (Name name h no_type ∷ []) s.seen.node b.node
        → HasSpent T (Name name h no_type ∷ []) s (with_node s) → IsGivenAs T (Name name h no_type ∷ []) (judge_core which at (tree.Names name) s) (typed.Names name h) s b count
    own_home which h n g k spent = record {
      after = with_node s;
      gives = judges-names which at name h s (with_node s) g;
      reached = reached-node (Name name h no_type) s b count here spent k (sym same) uses;
    }

    node_of : (n : NodeId) → n.0 ≡ s.seen.node → s.seen.node + 1 ≤ 4294967295 → new_node at s ≡ Gives n (with_node s)
    node_of n h few = new_node-is at n s h (omega (arith, few))

    home_given : (which : Naming) (h : Home) → IsHomeAs which h → Numbers (Name name h no_type ∷ []) s.seen.node b.node → HasRoom T (Name name h no_type ∷ []) s
        → IsGivenAs T (Name name h no_type ∷ []) (judge_core which at (tree.Names name) s) (typed.Names name h) s b count
    home_given naming.None h w =
        subst (λ (k : Home). Numbers (Name name k no_type ∷ []) s.seen.node b.node → HasRoom T (Name name k no_type ∷ []) s
        → IsGivenAs T (Name name k no_type ∷ []) (judge_core naming.None at (tree.Names name) s) (typed.Names name k) s b count) (sym w)
        (λ n room. no_home naming.None home.None (home-none at s) n (record { nodes = omega arith; globals = omega arith; cells = omega arith }))
    home_given (naming.Known m) h w =
        subst (λ (k : Home). Numbers (Name name k no_type ∷ []) s.seen.node b.node → HasRoom T (Name name k no_type ∷ []) s
        → IsGivenAs T (Name name k no_type ∷ []) (judge_core (naming.Known m) at (tree.Names name) s) (typed.Names name k) s b count) (sym w)
        (λ n room. no_home (naming.Known m) (home.Known m) (home-known at m s) n (record { nodes = omega arith; globals = omega arith; cells = omega arith }))
    home_given naming.Static h w =
        subst (λ (k : Home). Numbers (Name name k no_type ∷ []) s.seen.node b.node → HasRoom T (Name name k no_type ∷ []) s
        → IsGivenAs T (Name name k no_type ∷ []) (judge_core naming.Static at (tree.Names name) s) (typed.Names name k) s b count) (sym w.1)
        (λ n room. own_home naming.Static (home.Static w.0) w.0
        (home-static at w.0 s (with_node s) (node_of w.0 n.0 (let l = room.nodes in omega (arith, l)))) n (record { nodes = omega arith; globals = omega arith; cells = omega arith }))
    home_given naming.Local h w =
        subst (λ (k : Home). Numbers (Name name k no_type ∷ []) s.seen.node b.node → HasRoom T (Name name k no_type ∷ []) s
        → IsGivenAs T (Name name k no_type ∷ []) (judge_core naming.Local at (tree.Names name) s) (typed.Names name k) s b count) (sym w.1)
        (λ n room. own_home naming.Local (home.Local w.0) w.0
        (home-local at w.0 s (with_node s) (node_of w.0 n.0 (let l = room.nodes in omega (arith, l)))) n (record { nodes = omega arith; globals = omega arith; cells = omega arith }))
    home_given naming.Parameter h w =
        subst (λ (k : Home). Numbers (Name name k no_type ∷ []) s.seen.node b.node → HasRoom T (Name name k no_type ∷ []) s
        → IsGivenAs T (Name name k no_type ∷ []) (judge_core naming.Parameter at (tree.Names name) s) (typed.Names name k) s b count) (sym w.1)
        (λ n room. own_home naming.Parameter (home.Parameter w.0) w.0
        (home-parameter at w.0 s (with_node s) (node_of w.0 n.0 (let l = room.nodes in omega (arith, l)))) n (record { nodes = omega arith; globals = omega arith; cells = omega arith }))

  pub names-given : (name : Identifier) → IsCoreGiven (tree.Names name)
  names-given name which at x s b count here h home uses room holds =
      let i = is_core T (distinct T basic) (tree.Names name) x (point_at s) b h in
      subst (λ (y : TypedCore). IsGivenAs T (made_by_core y no_type) (judge_core which at (tree.Names name) s) y s b count) (sym i.3)
      (home_given at name s b count here i.1 (subst (λ (y : TypedCore). AreUses (used_by_core T y) (length s.table) count) i.3 uses) which i.0
      (subst (λ (y : TypedCore). IsHomeOf which (name_of_core y) (home_of_core y)) i.3 home) i.2 (subst (λ (y : TypedCore). HasRoom T (made_by_core y no_type) s) i.3 room))

  pub unnamed-given : IsCoreGiven tree.Unnamed
  unnamed-given which at x s b count here h home uses room holds =
      let i = is_core T (distinct T basic) tree.Unnamed x (point_at s) b h in
      subst (λ (y : TypedCore). IsGivenAs T (made_by_core y no_type) (judge_core which at tree.Unnamed s) y s b count) (sym i.0)
      (record { after = s; gives = judges-unnamed which at s; reached = reached-none T basic s b count here i.1 (subst (λ (y : TypedCore). AreUses (used_by_core T y) (length s.table) count) i.0 uses) })

  pub nested-given : (paren : Place) (d : tree.Declarator) → IsFormGiven d → IsCoreGiven (tree.Nested paren d)
  nested-given paren d gd which at x s b count here h home uses room holds =
      let i = is_core T (distinct T basic) (tree.Nested paren d) x (point_at s) b h in
      let g =
      gd which at i.0 s b count here i.1 (subst (λ (y : TypedCore). IsHomeOf which (name_of_core y) (home_of_core y)) i.2 home)
      (subst (λ (y : TypedCore). AreUses (used_by_core T y) (length s.table) count) i.2 uses) (subst (λ (y : TypedCore). HasRoom T (made_by_core y no_type) s) i.2 room) holds in
      subst (λ (y : TypedCore). IsGivenAs T (made_by_core y no_type) (judge_core which at (tree.Nested paren d) s) y s b count) (sym i.2)
      (record { after = g.after; gives = judges-nested which at paren d i.0 s g.after g.gives; reached = g.reached })

  -- parts

  pub no-part-given : ArePartsGiven tree.NoPart
  no-part-given at x s b count here h uses room holds =
      let i = are_parts T (distinct T basic) tree.NoPart x (point_at s) b h in
      subst (λ (y : TypedParts). IsGivenAs T (made_by_parts y) (judge_parts at tree.NoPart s) y s b count) (sym i.0)
      (record { after = s; gives = judges-no-part at s; reached = reached-none T basic s b count here i.1 (subst (λ (y : TypedParts). AreUses (used_by_parts T y) (length s.table) count) i.0 uses) })

  pub array-part-given : (all : tree.Parts) (bracket : Place) (words : List Word) → ArePartsGiven all → ArePartsGiven (tree.AndArray all bracket words)
  array-part-given all bracket words ga at x s b count here h uses room holds =
      let i = are_parts T (distinct T basic) (tree.AndArray all bracket words) x (point_at s) b h in
      let g =
      ga at i.0 s b count here i.1 (subst (λ (y : TypedParts). AreUses (used_by_parts T y) (length s.table) count) i.2 uses) (subst (λ (y : TypedParts). HasRoom T (made_by_parts y) s) i.2 room) holds in
      subst (λ (y : TypedParts). IsGivenAs T (made_by_parts y) (judge_parts at (tree.AndArray all bracket words) s) y s b count) (sym i.2)
      (record { after = g.after; gives = judges-array at all bracket words i.0 s g.after g.gives; reached = g.reached })

  above : (n : ℕ) → 0 < n → is_size (Some (pos n)) ≡ true
  above n h = lt_true 0 n h

  size_there : (v : TypedExpr) (size : ℕ) → constant_value T v ≡ Some (pos size) → 0 < size → has_size T (AsValue v) ≡ true
  size_there v size c some = ap is_size c ∙ above size some

  size_passes : (begin : Place) (v : TypedExpr) (size : ℕ) → constant_value T v ≡ Some (pos size) → has_size T (AsValue v) ≡ true → Passes (array_size_tests T begin (AsValue v))
  size_passes begin v size c h = passes_one rule.NotConstant begin (not (has_size T (AsValue v))) (off (has_size T (AsValue v)) h)

  pub sized-part-given : (all : tree.Parts) (bracket : Place) (words : List Word) (e : tree.Expr) → ArePartsGiven all → IsGiven T e → ArePartsGiven (tree.AndSizedArray all bracket words e)
  sized-part-given all bracket words e ga ge at x s b count here h uses room holds =
      let i = are_parts T (distinct T basic) (tree.AndSizedArray all bracket words e) x (point_at s) b h in
      let own = plain-bare i.1 i.4 in
      let some : 0 < i.2 = (subst (λ (y : TypedParts). AreParts T y s.seen.scopes b.scopes) i.6 h.1).5 in
      let us =
      uses-first (used_by_parts T i.0 ++ used_by T i.1) (OfSize i.2 ∷ []) (length s.table) count (subst (λ (y : TypedParts). AreUses (used_by_parts T y) (length s.table) count) i.6 uses) in
      let vs = uses-first (used_by_parts T i.0) (used_by T i.1) (length s.table) us.0 us.1 in
      let last : count ≡ us.0 = us.2.1 in
      let rm = subst (λ (y : TypedParts). HasRoom T (made_by_parts y) s) i.6 room in
      let g = ga at i.0 s i.3.0 vs.0 here i.3.1 vs.1 (room-first T (made_by_parts i.0) (made_by i.1) s rm) (max-left (parts_holds all) (expr_holds e) 256 holds) in
      let read : IsRead T e i.1 (point_at g.after) b = subst (λ (a : Point). IsRead T e i.1 a b) (sym g.reached.point) i.3.2 in
      let d =
      plain-given T basic e ge i.1 g.after b us.0 g.reached.here read (bare-plain i.1 i.4) (uses-at T basic (used_by T i.1) (made_by_parts i.0) s g.after i.3.0 vs.0 us.0 g.reached vs.2)
      (room-then T (made_by_parts i.0) (made_by i.1) s g.after rm g.reached.way.spent) (max-right (parts_holds all) (expr_holds e) 256 holds) in
      let r : State = d.after in
      let same : d.value.expr ≡ i.1 = d.same ∙ own in
      let first = d.reached.way.first in
      let known = d.reached.here.known.basic in
      let constant : constant_value r.table d.value.expr ≡ Some (pos i.2) =
      constant-over r.table T first known d.value.expr d.there ∙ ap (constant_value T) same ∙ i.5 in
      let pass =
      ap first_broken (array_size-over r.table T first known d.value.place (AsValue d.value.expr) d.there)
      ∙ subst (λ (v : TypedExpr). Passes (array_size_tests T d.value.place (AsValue v))) (sym same) (size_passes d.value.place i.1 i.2 i.5 (size_there i.1 i.2 i.5 some)) in
      let whole = reached-both T basic (made_by_parts i.0) (made_by i.1) s g.after d.after i.3.0 b vs.0 us.0 g.reached d.reached in
      subst (λ (y : TypedParts). IsGivenAs T (made_by_parts y) (judge_parts at (tree.AndSizedArray all bracket words e) s) y s b count) (sym i.6)
      (subst (λ (n : ℕ). IsGivenAs T (made_by_parts i.0 ++ made_by i.1) (judge_parts at (tree.AndSizedArray all bracket words e) s) (typed.AndSizedArray i.0 bracket words i.1 i.2) s b n) (sym last)
      (record {
        after = d.after;
        gives = judges-sized at all bracket words e i.0 d.value s g.after d.after (Gives (typed.AndSizedArray i.0 bracket words i.1 i.2) d.after) g.gives d.gives
            (sized-is i.0 bracket words d.value i.2 d.after pass constant us.2.0 ∙ ap (λ (v : TypedExpr). Gives (typed.AndSizedArray i.0 bracket words v i.2) d.after) same);
        reached = whole;
      }))

  -- stars

  stars-given : (at : Place) (list : List TypedStar) (s : State) (b : Point) (count : ℕ) → IsHere T s → Numbers (made_by_stars list) s.seen.node b.node → s.seen.scopes ≡ b.scopes
      → AreUses [] (length s.table) count → HasRoom T (made_by_stars list) s → IsGivenAs T (made_by_stars list) (stars_with_nodes at (erased_stars list) s) list s b count
  stars-given at [] s b count here n same uses room =
      record { after = s; gives = stars-none at s; reached = reached-none T basic s b count here (point-same b (point_at s) (sym same) n) uses }
  stars-given at (x ∷ list) s b count here n same uses room =
      let m : Made = Written x.star.place x.node in
      let mid : Point = record { scopes = b.scopes; node = s.seen.node + 1 } in
      let few = (room-first T (Written x.star.place x.node ∷ []) (made_by_stars list) s room).nodes in
      let spent : HasSpent T (Written x.star.place x.node ∷ []) s (with_node s) = record { nodes = omega arith; globals = omega arith; cells = omega arith } in
      let one = reached-node (Written x.star.place x.node) s (record { scopes = b.scopes; node = s.seen.node + 1 }) (length s.table) here spent (n.0, refl) same refl in
      let node = new_node-is at x.node s n.0 (omega (arith, few)) in
      let g =
      stars-given at list (with_node s) b count one.here n.1 same uses (room-then T (Written x.star.place x.node ∷ []) (made_by_stars list) s (with_node s) room spent) in
      record {
        after = g.after;
        gives = stars-more at x.star (erased_stars list) x.node list s (with_node s) g.after node g.gives;
        reached = reached-both T basic (Written x.star.place x.node ∷ []) (made_by_stars list) s (with_node s) g.after (record { scopes = b.scopes; node = s.seen.node + 1 }) b (length s.table) count one g.reached;
      }

  -- the whole

  pub form-given : (stars : List Star) (core : tree.Core) (parts : tree.Parts) → IsCoreGiven core → ArePartsGiven parts → IsFormGiven (tree.Declares stars core parts)
  form-given stars core parts gc gp which at (typed.Form list one all) s b count here h home uses room holds =
      let left = declares_parts (erased_stars list) stars (erased_core one) core (erased_parts all) parts h.0 in
      let cut = two-parts (made_by_stars list ++ made_by_core one no_type) (made_by_parts all) s.seen.node b.node h.2 in
      let inner = two-parts (made_by_stars list) (made_by_core one no_type) s.seen.node cut.0 cut.1 in
      let begin : Point = record { scopes = s.seen.scopes; node = inner.0 } in
      let middle : Point = record { scopes = h.1.0; node = cut.0 } in
      let us = uses-first (used_by_core T one) (used_by_parts T all) (length s.table) count uses in
      let half = room-first T (made_by_stars list ++ made_by_core one no_type) (made_by_parts all) s room in
      let g =
      stars-given at list s (record { scopes = s.seen.scopes; node = inner.0 }) (length s.table) here inner.1 refl refl (room-first T (made_by_stars list) (made_by_core one no_type) s half) in
      let read_core : IsCoreRead T core one (point_at g.after) (record { scopes = h.1.0; node = cut.0 }) =
      subst (λ (a : Point). IsCoreRead T core one a (record { scopes = h.1.0; node = cut.0 })) (sym g.reached.point) (left.1, h.1.1, inner.2) in
      let d =
      gc which at one g.after (record { scopes = h.1.0; node = cut.0 }) us.0 g.reached.here read_core home
      (uses-at T basic (used_by_core T one) (made_by_stars list) s g.after (record { scopes = s.seen.scopes; node = inner.0 }) (length s.table) us.0 g.reached us.1)
      (room-then T (made_by_stars list) (made_by_core one no_type) s g.after half g.reached.way.spent) (max-left (core_holds core) (parts_holds parts) 256 holds) in
      let two = reached-both T basic (made_by_stars list) (made_by_core one no_type) s g.after d.after (record { scopes = s.seen.scopes; node = inner.0 }) (record { scopes = h.1.0; node = cut.0 }) (length s.table) us.0 g.reached d.reached in
      let read_parts : ArePartsRead T (distinct T basic) parts all (point_at d.after) b =
      subst (λ (a : Point). ArePartsRead T (distinct T basic) parts all a b) (sym d.reached.point) (left.2, h.1.2, cut.2) in
      let f =
      gp at all d.after b count d.reached.here read_parts
      (uses-at T basic (used_by_parts T all) (made_by_stars list ++ made_by_core one no_type) s d.after (record { scopes = h.1.0; node = cut.0 }) us.0 count two us.2)
      (room-then T (made_by_stars list ++ made_by_core one no_type) (made_by_parts all) s d.after room two.way.spent) (max-right (core_holds core) (parts_holds parts) 256 holds) in
      record {
        after = f.after;
        gives = judges-form which at stars core parts list one all s g.after d.after f.after (ap (λ (l : List Star). stars_with_nodes at l s) (sym left.0) ∙ g.gives) d.gives f.gives;
        reached = reached-both T basic (made_by_stars list ++ made_by_core one no_type) (made_by_parts all) s d.after f.after (record { scopes = h.1.0; node = cut.0 }) b us.0 count two f.reached;
      }

  abbrev pub IsDeclaredGiven : tree.Declared → Type 0
  IsDeclaredGiven d =
      (which : Naming) (at : Place) (x : TypedDeclared) (s : State) (b : Point) (count : ℕ) → IsHere T s → IsDeclaredRead T d x (point_at s) b
      → IsHomeOf which (name_declared x) (declared_home x)
      → AreUses (used_by_declared T x) (length s.table) count → HasRoom T (made_by_declared x no_type) s → declared_holds d ≤ 256
      → IsGivenAs T (made_by_declared x no_type) (judge_declared which at d s) x s b count

  pub not-declared-given : IsDeclaredGiven tree.NotDeclared
  not-declared-given which at x s b count here h home uses room holds =
      let i = is_declared T (distinct T basic) tree.NotDeclared x (point_at s) b h in
      subst (λ (y : TypedDeclared). IsGivenAs T (made_by_declared y no_type) (judge_declared which at tree.NotDeclared s) y s b count) (sym i.0)
      (record { after = s; gives = judges-not-declared which at s; reached = reached-none T basic s b count here i.1 (subst (λ (y : TypedDeclared). AreUses (used_by_declared T y) (length s.table) count) i.0 uses) })

  pub declared-by-given : (d : tree.Declarator) → IsFormGiven d → IsDeclaredGiven (tree.DeclaredBy d)
  declared-by-given d gd which at x s b count here h home uses room holds =
      let i = is_declared T (distinct T basic) (tree.DeclaredBy d) x (point_at s) b h in
      let g =
      gd which at i.0 s b count here i.1 (subst (λ (y : TypedDeclared). IsHomeOf which (name_declared y) (declared_home y)) i.2 home)
      (subst (λ (y : TypedDeclared). AreUses (used_by_declared T y) (length s.table) count) i.2 uses) (subst (λ (y : TypedDeclared). HasRoom T (made_by_declared y no_type) s) i.2 room) holds in
      subst (λ (y : TypedDeclared). IsGivenAs T (made_by_declared y no_type) (judge_declared which at (tree.DeclaredBy d) s) y s b count) (sym i.2)
      (record { after = g.after; gives = judges-declared which at d i.0 s g.after g.gives; reached = g.reached })

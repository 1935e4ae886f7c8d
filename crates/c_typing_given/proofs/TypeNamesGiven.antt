-- Type names are given: specifiers, a declarator without a name, and the type that it makes.
use Rattle.std.proofs.Common.{◌≡◌, ◌≤◌, ◌+◌, ℕ, List, ◌++◌, length, Option, Some, None, refl, ap, sym, subst, ◌∙◌, arith}
use Rattle.cc_base.specs.declared.place.Place.{Place}
use Rattle.cc_base.specs.declared.number.TypeId.{TypeId}
use Rattle.c_types.specs.declared.shape.TypeShape.TheVariants.{Function}
use Rattle.c_types.specs.Table.{Table, HasShape, IsType}
use Rattle.c_tree.specs.declared.leaf.Identifier.{Identifier}
use Rattle.c_tree.specs.declared.typed_word.Home.{Home}
use Rattle.c_tree.specs.Erasure.{erased_specifier_list, erased_declared}
use Rattle.c_tree.specs.Tree as tree
use Rattle.c_tree.specs.TypedTree as typed
use Rattle.c_tree.specs.TypedTree.{TypedSpecifierList, TypedForm, TypedCore, TypedDeclared}
use Rattle.c_tree.specs.TypedParts.{Made, Name, made_by_stars, made_by_form, made_by_core, made_by_parts, made_by_declared, made_by_specifier_list, declared_home, home_of_form, name_of_form}
use Rattle.c_typing.specs.Assignments.{literal_cost}
use Rattle.c_typing.specs.declared.naming.Naming.TheVariants as naming
use Rattle.c_typing.specs.Declarators.{Written, DeclaredMakes, named_by_list, counted}
use Rattle.c_typing.specs.Declaring.{declared_makes}
use Rattle.c_typing.specs.Extensions.{IsExtended}
use Rattle.c_typing.specs.Judging.{State, Outcome, Gives, ◌>>=◌, pure}
use Rattle.c_typing.specs.Scopes.{Scopes, Seen}
use Rattle.c_typing.specs.Settled.{IsBasic}
use Rattle.c_typing.specs.Specifying.{specified, listed_type}
use Rattle.c_typing.specs.Typing.{IsHomelessDeclared}
use Rattle.c_typing.specs.Walks.{declared_place, listed, judge_list, judge_declared, judge_type_name}
use Rattle.c_typing_laws.specs.Judged.{IsHomeOf}
use Rattle.c_typing_laws.proofs.ExtensionLaws.{still_in}
use Rattle.c_typing_laws.proofs.JudgedForms.{declared-made}
use Rattle.c_typing_laws.proofs.JudgedLists.{list-typed}
use Rattle.c_typing_laws.proofs.JudgedTrees.{specifiers-judged}
use Rattle.c_typing_laws.proofs.KeptTrees.{specifiers-kept}
use Rattle.c_typing_laws.proofs.TableGrowth.{extended_trans}
use Rattle.c_typing_unique.specs.Points.{Point}
use Rattle.c_typing_unique.specs.Sameness.{HasOwnFunctions}
use Rattle.c_typing_unique.proofs.DeclaratorSteps.{no_type, IsDeclaredRead, name_declared, declared-numbers}
use Rattle.c_typing_unique.proofs.FormLaws.{of-type-one}
use Rattle.c_typing_unique.proofs.Numbering.{two-parts}
use Rattle.c_typing_exact.proofs.SameParts.{distinct}
use Rattle.c_typing_given.specs.Given.{point_at, IsReached, IsNameGiven}
use Rattle.c_unit_typing.specs.Holding.{specifiers_holds, declared_holds}
use Rattle.c_typing_given.specs.Spending.{node_cost, total, HasRoom, HasSpent}
use Rattle.c_type_order.specs.TypesUsed.{made_in, declared_steps, AreUses, types_of, used_by_specifier_list, used_by_declared}
use Rattle.c_typing_given.proofs.Constructing.{reached-both, uses-at, scopes-at, max-left, max-right}
use Rattle.c_typing_given.proofs.FormsGiven.{IsDeclaredGiven}
use Rattle.c_typing_given.proofs.MakesGiven.{IsMakeGiven, declared-given}
use Rattle.c_typing_given.proofs.Settling.{small-kept}
use Rattle.c_typing_given.proofs.SpecifiersGiven.{AreListGiven}
use Rattle.c_typing_given.proofs.Spent.{room-first, room-then, total-append, total-ones}
use Rattle.c_typing_given.proofs.Steps.{then-is}
use Rattle.c_typing_given.proofs.ValuesGiven.{uses-first}
use Rattle.c_cells_kept.specs.Counted.{copied_by}

-- What a declarator costs does not hang on its type

module _ (cost : Made → ℕ) (same : (name : Identifier) (h : Home) (t u : TypeId) → cost (Name name h t) ≡ cost (Name name h u)) where
  mutual
    form_cost : (x : TypedForm) (t u : TypeId) → total cost (made_by_form x t) ≡ total cost (made_by_form x u)
    form_cost (typed.Form stars core parts) t u =
        let c = core_cost core t u in
        omega (
          arith,
          c,
          total-append cost (made_by_stars stars ++ made_by_core core t) (made_by_parts parts),
          total-append cost (made_by_stars stars) (made_by_core core t),
          total-append cost (made_by_stars stars ++ made_by_core core u) (made_by_parts parts),
          total-append cost (made_by_stars stars) (made_by_core core u),
        )

    core_cost : (x : TypedCore) (t u : TypeId) → total cost (made_by_core x t) ≡ total cost (made_by_core x u)
    core_cost (typed.Names name h) t u = ap (λ (n : ℕ). n + 0) (same name h t u)
    core_cost typed.Unnamed t u = refl
    core_cost (typed.Nested at form) t u = form_cost form t u

  declared_cost : (x : TypedDeclared) (t u : TypeId) → total cost (made_by_declared x t) ≡ total cost (made_by_declared x u)
  declared_cost typed.NotDeclared t u = refl
  declared_cost (typed.DeclaredBy form) t u = form_cost form t u

module _ (T : Table) where
  pub declared-room : (x : TypedDeclared) (t u : TypeId) (s : State) → HasRoom T (made_by_declared x t) s → HasRoom T (made_by_declared x u) s
  declared-room x t u s h = record {
    things =
        let a = h.things in
        omega (arith, a, declared_cost (λ m. 1) (λ n k v w. refl) x t u, total-ones (made_by_declared x t), total-ones (made_by_declared x u));
    nodes = let a = h.nodes in omega (arith, a, declared_cost node_cost (λ n k v w. refl) x t u);
    globals = let a = h.globals in omega (arith, a, declared_cost literal_cost (λ n k v w. refl) x t u);
    cells = let a = h.cells in omega (arith, a, declared_cost (copied_by T) (λ n k v w. refl) x t u);
  }

  pub declared-spent : (x : TypedDeclared) (t u : TypeId) (s r : State) → HasSpent T (made_by_declared x t) s r → HasSpent T (made_by_declared x u) s r
  declared-spent x t u s r h = record {
    nodes = let a = h.nodes in omega (arith, a, declared_cost node_cost (λ n k v w. refl) x t u);
    globals = let a = h.globals in omega (arith, a, declared_cost literal_cost (λ n k v w. refl) x t u);
    cells = let a = h.cells in omega (arith, a, declared_cost (copied_by T) (λ n k v w. refl) x t u);
  }

judges_named : (specifiers : tree.Specifiers) (d : tree.Declared) (list : TypedSpecifierList) (one : TypedDeclared) (t : TypeId) (s j k r : State) → judge_list specifiers s ≡ Gives list j
    → judge_declared naming.None (declared_place specifiers d) d j ≡ Gives one k → declared_makes (declared_place specifiers d) Written one (listed list) k ≡ Gives t r
    → judge_type_name (tree.Named specifiers d) s ≡ Gives (typed.Named (specified list) one t) r
unfolding judge_type_name
judges_named specifiers d list one t s j k r h g f =
    then-is (judge_list specifiers)
    (λ l. judge_declared naming.None (declared_place specifiers d) d >>= (λ o. declared_makes (declared_place specifiers d) Written o (listed l) >>= (λ u. pure (typed.Named (specified l) o u)))) list s j
    (Gives (typed.Named (specified list) one t) r) h
    (then-is (judge_declared naming.None (declared_place specifiers d) d) (λ o. declared_makes (declared_place specifiers d) Written o (listed list) >>= (λ u. pure (typed.Named (specified list) o u))) one j k
    (Gives (typed.Named (specified list) one t) r) g
    (then-is (declared_makes (declared_place specifiers d) Written one (listed list)) (λ u. pure (typed.Named (specified list) one u)) t k r (Gives (typed.Named (specified list) one t) r) f refl))

-- what has no home of its own is none
homeless : (x : TypedDeclared) → IsHomelessDeclared x → IsHomeOf naming.None (name_declared x) (declared_home x)
homeless typed.NotDeclared h = refl
homeless (typed.DeclaredBy form) h = by (name_of_form form)
  where
    by : (o : Option Identifier) → IsHomeOf naming.None o (home_of_form form)
    by None = h
    by (Some name) = h

module _ (T : Table) (basic : IsBasic T) (few : (t : TypeId) (parameters : List TypeId) (result : TypeId) → HasShape T t (Function parameters result) → length parameters ≤ 127) where
  -- types are made where the part before them ends
  pub reached-make : (made : List Made) (s k : State) (b : Point) (c count : ℕ) (run : Outcome TypeId) (t : TypeId) → IsReached T made s k b c → (g : IsMakeGiven T basic few run t k count)
      → IsExtended k.table g.after.table → IsReached T made s g.after b count
  reached-make made s k b c count run t r g grown =
      let seen = g.seen in
      let longer = grown.longer in
      let scopes : g.after.seen.scopes ≡ k.seen.scopes = ap (λ (v : Seen). v.scopes) g.seen in
      let small = small-kept k g.after r.here.small (ap (λ (v : Seen). v.scopes.members) g.seen) (ap (λ (v : Seen). v.scopes.defined) g.seen) longer
      (λ o. let e = ap (λ (v : Seen). length v.scopes.levels) g.seen in omega (arith, e, o)) g.bare in
      record {
        here = record { known = g.known; first = g.first; small = small; own = subst HasOwnFunctions (sym scopes) r.here.own };
        grown = extended_trans s.table k.table g.after.table r.grown grown;
        point = ap (λ (v : Seen). record { scopes = v.scopes; node = v.node }) g.seen ∙ r.point;
        way = record {
          first = g.first;
          small = small;
          types = g.types;
          spent = record {
            nodes = let a = r.way.spent.nodes in let e = ap (λ (v : Seen). v.node) seen in omega (arith, a, e);
            globals = let a = r.way.spent.globals in let e = ap (λ (v : Seen). v.globals) seen in omega (arith, a, e);
            cells = let a = r.way.spent.cells in let e = ap (λ (v : Seen). v.cells) seen in omega (arith, a, e);
          };
        };
      }

  pub type-name-given : (specifiers : tree.Specifiers) (d : tree.Declared) → AreListGiven T basic specifiers → IsDeclaredGiven T basic d → IsNameGiven T (tree.Named specifiers d)
  type-name-given specifiers d gs gd (typed.Named (typed.Specified list u) one t) s b count here h uses room holds =
      let left = named_parts (erased_specifier_list list) specifiers (erased_declared one) d h.0 in
      let cut = two-parts (made_by_specifier_list list) (made_by_declared one t) s.seen.node b.node h.2 in
      let m : Point = record { scopes = h.1.0; node = cut.0 } in
      let at : Place = declared_place specifiers d in
      let us =
      uses-first (used_by_specifier_list T list ++ used_by_declared T one) (types_of (made_in T (declared_steps Written one) t)) (length s.table) count uses in
      let vs = uses-first (used_by_specifier_list T list) (used_by_declared T one) (length s.table) us.0 us.1 in
      let g =
      gs list s (record { scopes = h.1.0; node = cut.0 }) vs.0 here (left.0, h.1.1.0, cut.1) h.1.1.1.allowed vs.1 (room-first T (made_by_specifier_list list) (made_by_declared one t) s room)
      (max-left (specifiers_holds specifiers) (declared_holds d) 256 holds) in
      let judged = specifiers-judged specifiers list s g.after here.known g.gives in
      let whole = list-typed specifiers list s g.after judged in
      let over = specifiers-kept g.after.table T g.reached.way.first g.reached.here.known.basic (specified list) s.seen.scopes g.after.seen.scopes whole.0 in
      let base : listed list ≡ u = of-type-one T (distinct T basic) list list (listed_type (named_by_list list) (counted list)) u refl over.1 h.1.1.1 in
      let read : IsDeclaredRead T d one (point_at g.after) b =
      subst (λ (a : Point). IsDeclaredRead T d one a b) (sym g.reached.point) (left.1, h.1.2, declared-numbers one t cut.0 b.node cut.2) in
      let f =
      gd naming.None (declared_place specifiers d) one g.after b us.0 g.reached.here read (homeless one h.1.3)
      (uses-at T basic (used_by_declared T one) (made_by_specifier_list list) s g.after (record { scopes = h.1.0; node = cut.0 }) vs.0 us.0 g.reached vs.2)
      (declared-room T one t no_type g.after (room-then T (made_by_specifier_list list) (made_by_declared one t) s g.after room g.reached.way.spent))
      (max-right (specifiers_holds specifiers) (declared_holds d) 256 holds) in
      let k : State = f.after in
      let there : IsType f.after.table (listed list) = still_in g.after.table f.after.table f.reached.grown (listed list) whole.1 in
      let makes : DeclaredMakes T f.after.seen.scopes one Written (listed list) t =
      subst (λ (v : TypeId). DeclaredMakes T f.after.seen.scopes one Written v t) (sym base)
      (subst (λ (sc : Scopes). DeclaredMakes T sc one Written u t) (sym (scopes-at T basic (made_by_declared one no_type) g.after f.after b us.0 f.reached)) h.1.4) in
      let made =
      declared-given T basic few (declared_place specifiers d) Written one (listed list) t f.after count f.reached.here.known f.reached.way.first there makes
      (subst (λ (n : ℕ). AreUses (types_of (made_in T (declared_steps Written one) t)) n count) (sym f.reached.way.types) us.2) in
      let law = declared-made (declared_place specifiers d) Written one (listed list) t f.after made.after f.reached.here.known there made.gives in
      let second : IsReached T (made_by_declared one t) g.after f.after b us.0 = record {
        here = f.reached.here;
        grown = f.reached.grown;
        point = f.reached.point;
        way = record {
          first = f.reached.way.first;
          small = f.reached.way.small;
          types = f.reached.way.types;
          spent = declared-spent T one no_type t g.after f.after f.reached.way.spent;
        };
      } in
      let both = reached-both T basic (made_by_specifier_list list) (made_by_declared one t) s g.after f.after (record { scopes = h.1.0; node = cut.0 }) b vs.0 us.0 g.reached second in
      record {
        after = made.after;
        gives = judges_named specifiers d list one t s g.after f.after made.after g.gives f.gives made.gives
            ∙ ap (λ (v : TypeId). Gives (typed.Named (typed.Specified list v) one t) made.after) base;
        reached = reached-make (made_by_specifier_list list ++ made_by_declared one t) s f.after b us.0 count
            (declared_makes (declared_place specifiers d) Written one (listed list) f.after) t both made law.goes.goes.extends;
      }
    where
      named_parts : (a c : tree.Specifiers) (e f : tree.Declared) → tree.Named a e ≡ tree.Named c f → (a ≡ c) × (e ≡ f)
      named_parts a c e f q = (cc, cc)

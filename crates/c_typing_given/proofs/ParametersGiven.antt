-- Parameters are given: specifiers and a declarator, the pointer that an array or a function is made, the type, and the name in the scope of
-- the list.
use Rattle.std.proofs.Common.{◌≡◌, ◌≤◌, ℕ, max, Bool, true, false, List, [], ◌∷◌, ◌++◌, length, Option, Some, None, refl, ap, sym, subst, ◌∙◌, arith}
use Rattle.cc_base.specs.declared.fault.Rule.TheVariants as rule
use Rattle.cc_base.specs.declared.place.Place.{Place}
use Rattle.cc_base.specs.declared.number.NodeId.{NodeId}
use Rattle.cc_base.specs.declared.number.TypeId.{TypeId}
use Rattle.c_types.specs.declared.shape.TypeShape.{TypeShape}
use Rattle.c_types.specs.declared.shape.TypeShape.TheVariants as shape
use Rattle.c_types.specs.Table.{Table, HasShape, IsType, shape_at}
use Rattle.c_tree.specs.declared.typed_word.Adjusted.{Adjusted}
use Rattle.c_tree.specs.Erasure.{erased_declared}
use Rattle.c_tree.specs.Tree as tree
use Rattle.c_tree.specs.TypedTree as typed
use Rattle.c_tree.specs.TypedTree.{TypedSpecifiers, TypedSpecifierList, TypedParameters, TypedDeclared}
use Rattle.c_tree.specs.TypedParts.{Written, made_by_parameters, made_by_specifier_list, made_by_declared, made_by_adjusted, declared_home, specified_type}
use Rattle.c_typing.specs.declared.naming.Naming.TheVariants as naming
use Rattle.c_typing.specs.Adjusting.{adjusted_place, adjusted_at, derived_by_declared, typedef_place}
use Rattle.c_typing.specs.Declarators.{Written as AsWritten, Points, ParameterMakes, MakesAdjusted, AdjustedShape, is_derived_declared, counted, named_by_list}
use Rattle.c_typing.specs.Declaring.{adjusted_with_node, adjusted_shape, adjusted_makes, parameter_makes, parameter_declared, parameter}
use Rattle.c_typing.specs.Extensions.{IsExtended}
use Rattle.c_typing.specs.Judging.{State, Gives}
use Rattle.c_typing.specs.Refusals.{is_here, declared_identifier}
use Rattle.c_typing.specs.Scopes.{Name, Scopes, place_among}
use Rattle.c_typing.specs.Settled.{IsBasic, IsKnown}
use Rattle.c_typing.specs.Specifying.{specified, listed_type}
use Rattle.c_typing.specs.Tests.{first_broken, parameter_type_tests}
use Rattle.c_typing.specs.Typing.{IsTakenType}
use Rattle.c_typing.specs.Walks.{declared_place, listed, judge_list, judge_declared, judge_parameters}
use Rattle.c_typing_laws.proofs.ExtensionLaws.{still_in}
use Rattle.c_typing_laws.proofs.JudgedDeclarators.{IsVoidOf, first_alone}
use Rattle.c_typing_laws.proofs.JudgedLists.{list-typed}
use Rattle.c_typing_laws.proofs.JudgedTrees.{specifiers-judged, parameters-judged}
use Rattle.c_typing_laws.proofs.KeptTrees.{specifiers-kept}
use Rattle.c_typing_laws.proofs.ParameterTypes.{parameter-made}
use Rattle.c_typing_unique.specs.Points.{Point, Numbers}
use Rattle.c_typing_unique.proofs.DeclaratorSteps.{no_type, DeclaresName, IsDeclaredRead, declares-by, declared-homeless, name_declared}
use Rattle.c_typing_unique.proofs.FormLaws.{of-type-one}
use Rattle.c_typing_unique.proofs.PartSteps.{AreParametersRead, IsParameterOf, are_parameters}
use Rattle.c_typing_unique.proofs.Reading.{point-same}
use Rattle.c_typing_unique.proofs.SpecifierSteps.{AreListRead}
use Rattle.c_typing_exact.proofs.SameParts.{distinct}
use Rattle.c_typing_exact.proofs.Unbroken.{passes_one}
use Rattle.c_rules_alike.proofs.DeclaratorRules.{parameter_type-over}
use Rattle.c_unit_typing.specs.Holding.{specifiers_holds, declared_holds, parameters_holds}
use Rattle.c_type_order.specs.TypesUsed.{IsUse, made_in, parameter_steps, adjusted_steps, AreUses, types_of, used_by_specifier_list, used_by_declared, used_by_parameters}
use Rattle.c_typing_given.specs.Given.{point_at, IsHere, IsReached, IsGivenAs}
use Rattle.c_typing_given.specs.Spending.{HasRoom, HasSpent}
use Rattle.c_typing_given.proofs.CallsGiven.{reached-none}
use Rattle.c_typing_given.proofs.Constructing.{reached-both, uses-at, max-left, max-right}
use Rattle.c_typing_given.proofs.EnumeratorsGiven.{in_state, reached-in}
use Rattle.c_typing_given.proofs.FormsGiven.{IsDeclaredGiven, reached-node}
use Rattle.c_typing_given.proofs.MakesGiven.{IsMakeGiven, pointed, declared-given}
use Rattle.c_typing_given.proofs.SpecifiersGiven.{AreListGiven}
use Rattle.c_typing_given.proofs.Spent.{room-first, room-then}
use Rattle.c_typing_given.proofs.Steps.{new_node-is, with_node}
use Rattle.c_typing_given.proofs.TypeNamesGiven.{declared-room, declared-spent, reached-make}
use Rattle.c_typing_given.proofs.ValuesGiven.{uses-first, use-one}
use Rattle.c_typing_given.proofs.ParameterSteps.{adjusting-by, judges-no-parameter, judges-parameter, parameter-is, adjusted-none, adjusted-some, same-identifier, same-home, parameter-home, IsDeclaring, declaring-is, taken-passes}

module _ (T : Table) (basic : IsBasic T) where
  adjusted_given : (at : Place) (f : Option Adjusted) (s : State) (b : Point) (count : ℕ) → IsHere T s → Numbers (made_by_adjusted f) s.seen.node b.node → s.seen.scopes ≡ b.scopes
      → AreUses [] (length s.table) count → HasRoom T (made_by_adjusted f) s → IsGivenAs T (made_by_adjusted f) (adjusted_with_node at (adjusted_place f) s) f s b count
  adjusted_given at None s b count here n same uses room =
      record { after = s; gives = adjusted-none at s; reached = reached-none T basic s b count here (point-same b (point_at s) (sym same) n) uses }
  adjusted_given at (Some a) s b count here n same uses room =
      let few = room.nodes in
      let spent : HasSpent T (Written a.place a.node ∷ []) s (with_node s) = record { nodes = omega arith; globals = omega arith; cells = omega arith } in
      record {
        after = with_node s;
        gives = adjusted-some at a s (with_node s) (new_node-is at a.node s n.0 (omega (arith, few)));
        reached = reached-node T basic (Written a.place a.node) s b count here spent n same uses;
      }

  module _ (few : (t : TypeId) (parameters : List TypeId) (result : TypeId) → HasShape T t (shape.Function parameters result) → length parameters ≤ 127) where
    -- the type by a typedef's name is made a pointer
    shape_given : (at : Place) (n : NodeId) (base t : TypeId) (s : State) (m : ℕ) → IsKnown s → IsExtended s.table T → IsUse t (length s.table) m → (x : TypeShape)
        → AdjustedShape T n x base t → IsMakeGiven T basic few (adjusted_shape at n base x s) t s m
    unfolding adjusted_shape
    shape_given at n base t s m k first used (shape.Array element count) h = pointed T basic few at n element t s m k first h used
    shape_given at n base t s m k first used (shape.Function parameters result) h = pointed T basic few at n base t s m k first h used
    shape_given at n base t s m k first used shape.Void h = absurd h
    shape_given at n base t s m k first used (shape.Integer bytes signed) h = absurd h
    shape_given at n base t s m k first used (shape.Pointer p u) h = absurd h
    shape_given at n base t s m k first used (shape.Struct p) h = absurd h
    shape_given at n base t s m k first used (shape.Union p) h = absurd h

    pub makes-given : (at : Place) (f : Option Adjusted) (d : TypedDeclared) (base t : TypeId) (s : State) (m : ℕ) → IsKnown s → IsExtended s.table T → IsType s.table base
        → ParameterMakes T s.seen.scopes f d base t → AreUses (types_of (made_in T (parameter_steps f d) t)) (length s.table) m
        → IsMakeGiven T basic few (parameter_makes at f d base s) t s m
    unfolding parameter_makes adjusted_makes
    makes-given at None d base t s m k first there h uses = declared-given T basic few at AsWritten d base t s m k first there h.0 uses
    makes-given at (Some a) d base t s m k first there h uses = by (is_derived_declared d) h uses
      where
        by : (b : Bool) → MakesAdjusted b T s.seen.scopes a.node d base t → AreUses (types_of (made_in T (adjusted_steps b (Points a.node) d) t)) (length s.table) m
            → IsMakeGiven T basic few (adjusted_makes at a.node d base b s) t s m
        by true h uses = declared-given T basic few at (Points a.node) d base t s m k first there h uses
        by false h uses =
            subst (λ (x : TypeShape). IsMakeGiven T basic few (adjusted_shape at a.node base x s) t s m) (first.shapes base there)
            (shape_given at a.node base t s m k first (use-one t (length s.table) m uses) (shape_at T base) h)

    abbrev pub AreParametersGiven : tree.Parameters → Type 0
    AreParametersGiven xs =
        (void : Bool) (y : TypedParameters) (s : State) (b : Point) (count : ℕ) → IsVoidOf void xs → IsHere T s → AreParametersRead T (distinct T basic) void xs y (point_at s) b
        → AreUses (used_by_parameters T y) (length s.table) count → HasRoom T (made_by_parameters y) s → parameters_holds xs ≤ 256
        → IsGivenAs T (made_by_parameters y) (judge_parameters void xs s) y s b count

    pub no-parameter-given : AreParametersGiven tree.NoParameter
    no-parameter-given void y s b count fits here h uses room holds =
        let i = are_parameters T (distinct T basic) void tree.NoParameter y (point_at s) b h in
        subst (λ (x : TypedParameters). IsGivenAs T (made_by_parameters x) (judge_parameters void tree.NoParameter s) x s b count) (sym i.0)
        (record {
          after = s;
          gives = judges-no-parameter void s;
          reached = reached-none T basic s b count here i.1 (subst (λ (x : TypedParameters). AreUses (used_by_parameters T x) (length s.table) count) i.0 uses);
        })

    -- the pointer that a parameter is made, and its type
    record IsTypeMade (at : Place) (one : TypedDeclared) (f : Option Adjusted) (base t : TypeId) (s : State) (b : Point) (count : ℕ) : Type 0 where
      pub node : State
      pub gives : adjusted_with_node at (adjusted_place f) s ≡ Gives f node
      pub made : IsMakeGiven T basic few (parameter_makes at f one base node) t node count
      pub reached : IsReached T (made_by_adjusted f) s made.after b count

    type_made : (at named : Place) (one : TypedDeclared) (f : Option Adjusted) (base t : TypeId) (s : State) (b : Point) (count : ℕ) → IsHere T s
        → Numbers (made_by_adjusted f) s.seen.node b.node → s.seen.scopes ≡ b.scopes → IsType s.table base
        → adjusted_place f ≡ adjusted_at (derived_by_declared (erased_declared one)) (shape_at T base) named → ParameterMakes T s.seen.scopes f one base t
        → AreUses (types_of (made_in T (parameter_steps f one) t)) (length s.table) count → HasRoom T (made_by_adjusted f) s → IsTypeMade at one f base t s b count
    type_made at named one f base t s b count here n same there adjusted makes uses room = by (adjusted_given at f s b (length s.table) here n same refl room)
      where
        by : IsGivenAs T (made_by_adjusted f) (adjusted_with_node at (adjusted_place f) s) f s b (length s.table) → IsTypeMade at one f base t s b count
        by a =
            let there_a : IsType a.after.table base = still_in s.table a.after.table a.reached.grown base there in
            let made =
            makes-given at f one base t a.after count a.reached.here.known a.reached.way.first there_a
            (subst (λ (c : Scopes). ParameterMakes T c f one base t) (same ∙ sym (ap (λ (p : Point). p.scopes) a.reached.point)) makes)
            (subst (λ (n : ℕ). AreUses (types_of (made_in T (parameter_steps f one) t)) n count) (sym a.reached.way.types) uses) in
            let law =
            parameter-made at f one base t named a.after made.after a.reached.here.known there_a
            (adjusted ∙ ap (λ (x : TypeShape). adjusted_at (derived_by_declared (erased_declared one)) x named) (a.reached.way.first.shapes base there_a)) made.gives in
            record {
              node = a.after;
              gives = a.gives;
              made = made;
              reached = reached-make T basic few (made_by_adjusted f) s a.after b (length s.table) count (parameter_makes at f one base a.after) t a.reached made law.goes.goes.extends;
            }

    -- the end of a parameter: its type is a scalar, or `void` alone, and its name is declared
    record IsEndGiven (void : Bool) (at : Place) (adjusting : TypeShape → Option Place) (list : TypedParameters) (x : TypedSpecifiers) (one : TypedDeclared) (f : Option Adjusted)
        (t : TypeId) (s : State) (b : Point) (count : ℕ) : Type 0 where
      pub made : State
      pub gives : parameter void at adjusting list x one s ≡ Gives (typed.AndParameter list x one f t) (in_state b.scopes made)
      pub reached : IsReached T (made_by_adjusted f) s made (record { scopes = s.seen.scopes; node = b.node }) count
      pub ending : IsDeclaring at (name_declared one) (declared_home one) t made b.scopes

    end_by : (void : Bool) (at : Place) (adjusting : TypeShape → Option Place) (list : TypedParameters) (x : TypedSpecifiers) (one : TypedDeclared) (f : Option Adjusted) (t : TypeId)
        (s : State) (b : Point) (count : ℕ) → adjusting (shape_at s.table (specified_type x)) ≡ adjusted_place f → IsTakenType void T s.seen.scopes t
        → DeclaresName (name_declared one) (declared_home one) t s.seen.scopes b.scopes
        → (m : IsTypeMade at one f (specified_type x) t s (record { scopes = s.seen.scopes; node = b.node }) count) → m.made.after.seen.scopes ≡ s.seen.scopes
        → IsEndGiven void at adjusting list x one f t s b count
    end_by void at adjusting list x one f t s b count adjusted taken names m scopes =
        let ending =
        declaring-is at (name_declared one) (declared_home one) t m.made.after b.scopes
        (subst (λ (c : Scopes). DeclaresName (name_declared one) (declared_home one) t c b.scopes) (sym scopes) names) in
        let fresh : is_here s.seen.scopes (declared_identifier one) ≡ false =
        ap (is_here s.seen.scopes) (same-identifier one) ∙ ap (λ (c : Scopes). is_here c (name_declared one)) (sym scopes) ∙ ending.fresh in
        let tested : first_broken (parameter_type_tests m.made.after.table m.made.after.seen.scopes void t at) ≡ None =
        ap first_broken (parameter_type-over m.made.after.table T m.made.first m.made.known.basic m.made.after.seen.scopes void t at m.made.there)
        ∙ taken-passes T m.made.after.seen.scopes void t at (subst (λ (c : Scopes). IsTakenType void T c t) (sym scopes) taken) in
        record {
          made = m.made.after;
          gives =
              parameter-is void at adjusting list x one f t s m.node m.made.after (in_state b.scopes m.made.after)
              (passes_one rule.Redeclared at (is_here s.seen.scopes (declared_identifier one)) fresh)
              (ap (λ (o : Option Place). adjusted_with_node at o s) adjusted ∙ m.gives) m.made.gives tested
              ((λ i. parameter_declared at (same-identifier one i) (same-home one i) t m.made.after) ∙ ending.gives);
          reached = m.reached;
          ending = ending;
        }

    -- what a parameter is made of: the parameters before it, its specifiers and its declarator
    record AreHeadsGiven (void : Bool) (all : tree.Parameters) (specifiers : tree.Specifiers) (d : tree.Declared) (list : TypedParameters) (own : TypedSpecifierList) (u : TypeId)
        (one : TypedDeclared) (t : TypeId) (s : State) (b : Point) (count : ℕ) : Type 0 where
      pub first : State
      pub second : State
      pub third : State
      pub gives_list : judge_parameters void all s ≡ Gives list first
      pub gives_own : judge_list specifiers first ≡ Gives own second
      pub gives_one : judge_declared naming.Parameter (declared_place specifiers d) d second ≡ Gives one third
      pub base : listed own ≡ u
      pub there : IsType third.table (listed own)
      pub reached : IsReached T (made_by_parameters list ++ made_by_specifier_list own ++ made_by_declared one t) s third b count

    module _ (all : tree.Parameters) (specifiers : tree.Specifiers) (d : tree.Declared) (ga : AreParametersGiven all) (gl : AreListGiven T basic specifiers)
        (gd : IsDeclaredGiven T basic d) (void : Bool) (s : State) (b : Point) (count : ℕ) (fits : IsVoidOf void (tree.AndParameter all specifiers d)) (here : IsHere T s) where
      heads_given : (list : TypedParameters) (own : TypedSpecifierList) (u : TypeId) (one : TypedDeclared) (f : Option Adjusted) (t : TypeId) (m : Point) (c : ℕ)
          → AreParametersRead T (distinct T basic) void all list (point_at s) m → (p : IsParameterOf T (distinct T basic) void specifiers d (typed.Specified own u) one f t m b)
          → AreUses (used_by_parameters T list ++ used_by_specifier_list T own ++ used_by_declared T one) (length s.table) c
          → HasRoom T (made_by_parameters list ++ made_by_specifier_list own ++ made_by_declared one t) s → parameters_holds (tree.AndParameter all specifiers d) ≤ 256
          → AreHeadsGiven void all specifiers d list own u one t s p.inside c
      heads_given list own u one f t m c before p uses room holds =
          let vs = uses-first (used_by_parameters T list ++ used_by_specifier_list T own) (used_by_declared T one) (length s.table) c uses in
          let ws = uses-first (used_by_parameters T list) (used_by_specifier_list T own) (length s.table) vs.0 vs.1 in
          let half = room-first T (made_by_parameters list ++ made_by_specifier_list own) (made_by_declared one t) s room in
          let rest = max-right (parameters_holds all) (max (specifiers_holds specifiers) (declared_holds d)) 256 holds in
          let g =
          ga void list s m ws.0 (first_alone void all specifiers d fits) here before ws.1 (room-first T (made_by_parameters list) (made_by_specifier_list own) s half)
          (max-left (parameters_holds all) (max (specifiers_holds specifiers) (declared_holds d)) 256 holds) in
          let read_list : AreListRead T (distinct T basic) specifiers own (point_at g.after) p.middle =
          subst (λ (a : Point). AreListRead T (distinct T basic) specifiers own a p.middle) (sym g.reached.point) (p.first.0, p.first.1.0, p.first.2) in
          let l =
          gl own g.after p.middle vs.0 g.reached.here read_list p.first.1.1.allowed
          (uses-at T basic (used_by_specifier_list T own) (made_by_parameters list) s g.after m ws.0 vs.0 g.reached ws.2)
          (room-then T (made_by_parameters list) (made_by_specifier_list own) s g.after half g.reached.way.spent)
          (max-left (specifiers_holds specifiers) (declared_holds d) 256 rest) in
          let two = reached-both T basic (made_by_parameters list) (made_by_specifier_list own) s g.after l.after m p.middle ws.0 vs.0 g.reached l.reached in
          let judged = specifiers-judged specifiers own g.after l.after g.reached.here.known l.gives in
          let whole = list-typed specifiers own g.after l.after judged in
          let over = specifiers-kept l.after.table T l.reached.way.first l.reached.here.known.basic (specified own) g.after.seen.scopes l.after.seen.scopes whole.0 in
          let read_one : IsDeclaredRead T d one (point_at l.after) p.inside = subst (λ (a : Point). IsDeclaredRead T d one a p.inside) (sym l.reached.point) p.second in
          let e =
          gd naming.Parameter (declared_place specifiers d) one l.after p.inside c l.reached.here read_one
          (parameter-home (name_declared one) (declared_home one) t p.inside.scopes b.scopes (declared-homeless one) (declares-by one t p.inside.scopes b.scopes p.declares))
          (uses-at T basic (used_by_declared T one) (made_by_parameters list ++ made_by_specifier_list own) s l.after p.middle vs.0 c two vs.2)
          (declared-room T one t no_type l.after
          (room-then T (made_by_parameters list ++ made_by_specifier_list own) (made_by_declared one t) s l.after room two.way.spent))
          (max-right (specifiers_holds specifiers) (declared_holds d) 256 rest) in
          let third : IsReached T (made_by_declared one t) l.after e.after p.inside c = record {
            here = e.reached.here;
            grown = e.reached.grown;
            point = e.reached.point;
            way = record {
              first = e.reached.way.first;
              small = e.reached.way.small;
              types = e.reached.way.types;
              spent = declared-spent T one no_type t l.after e.after e.reached.way.spent;
            };
          } in
          record {
            first = g.after;
            second = l.after;
            third = e.after;
            gives_list = g.gives;
            gives_own = l.gives;
            gives_one = e.gives;
            base = of-type-one T (distinct T basic) own own (listed_type (named_by_list own) (counted own)) u refl over.1 p.first.1.1;
            there = still_in l.after.table e.after.table e.reached.grown (listed own) whole.1;
            reached =
                reached-both T basic (made_by_parameters list ++ made_by_specifier_list own) (made_by_declared one t) s l.after e.after p.middle p.inside vs.0 c two third;
          }

      -- the name and the type, after them
      end_given : (list : TypedParameters) (own : TypedSpecifierList) (u : TypeId) (one : TypedDeclared) (f : Option Adjusted) (t : TypeId) (m : Point) (c : ℕ)
          → (p : IsParameterOf T (distinct T basic) void specifiers d (typed.Specified own u) one f t m b) → (h : AreHeadsGiven void all specifiers d list own u one t s p.inside c)
          → AreUses (types_of (made_in T (parameter_steps f one) t)) (length h.third.table) count → HasRoom T (made_by_adjusted f) h.third
          → IsEndGiven void (declared_place specifiers d) (adjusting-by d specifiers) list (specified own) one f t h.third b count
      end_given list own u one f t m c p h uses room =
          let scopes : h.third.seen.scopes ≡ p.inside.scopes = ap (λ (a : Point). a.scopes) h.reached.point in
          let node : h.third.seen.node ≡ p.inside.node = ap (λ (a : Point). a.node) h.reached.point in
          let adjusted : adjusted_place f ≡ adjusted_at (derived_by_declared (erased_declared one)) (shape_at T (listed own)) (typedef_place specifiers) =
          p.adjusted ∙ (λ i. adjusted_at (derived_by_declared (erased_declared one)) (shape_at T (sym h.base i)) (typedef_place (p.first.0 i))) in
          let asked : adjusting-by d specifiers (shape_at h.third.table (listed own)) ≡ adjusted_place f =
          (λ i. adjusting-by (sym p.second.0 i) specifiers (sym (h.reached.way.first.shapes (listed own) h.there) i)) ∙ sym adjusted in
          let makes : ParameterMakes T h.third.seen.scopes f one (listed own) t =
          subst (λ (v : TypeId). ParameterMakes T h.third.seen.scopes f one v t) (sym h.base) (subst (λ (k : Scopes). ParameterMakes T k f one u t) (sym scopes) p.makes) in
          let made =
          type_made (declared_place specifiers d) (typedef_place specifiers) one f (listed own) t h.third (record { scopes = h.third.seen.scopes; node = b.node }) count h.reached.here
          (subst (λ (n : ℕ). Numbers (made_by_adjusted f) n b.node) (sym node) p.pointer) refl h.there adjusted makes uses room in
          end_by void (declared_place specifiers d) (adjusting-by d specifiers) list (specified own) one f t h.third b count asked
          (subst (λ (k : Scopes). IsTakenType void T k t) (sym scopes) p.taken)
          (subst (λ (k : Scopes). DeclaresName (name_declared one) (declared_home one) t k b.scopes) (sym scopes) (declares-by one t p.inside.scopes b.scopes p.declares)) made
          (ap (λ (a : Point). a.scopes) made.reached.point)

      parameter_by : (list : TypedParameters) (own : TypedSpecifierList) (u : TypeId) (one : TypedDeclared) (f : Option Adjusted) (t : TypeId) (q : Point) (c : ℕ)
          → (h : AreHeadsGiven void all specifiers d list own u one t s q c)
          → (e : IsEndGiven void (declared_place specifiers d) (adjusting-by d specifiers) list (specified own) one f t h.third b count)
          → IsGivenAs T (made_by_parameters (typed.AndParameter list (typed.Specified own u) one f t)) (judge_parameters void (tree.AndParameter all specifiers d) s)
          (typed.AndParameter list (typed.Specified own u) one f t) s b count
      parameter_by list own u one f t q c h e =
          let inner : Point = record { scopes = h.third.seen.scopes; node = b.node } in
          let gives =
          judges-parameter void all specifiers d list own one s h.first h.second h.third
          (Gives (typed.AndParameter list (specified own) one f t) (in_state b.scopes e.made)) h.gives_list h.gives_own h.gives_one e.gives in
          let known =
          (parameters-judged (tree.AndParameter all specifiers d) void (typed.AndParameter list (specified own) one f t) s (in_state b.scopes e.made) fits here.known gives).goes.known in
          let both =
          reached-both T basic (made_by_parameters list ++ made_by_specifier_list own ++ made_by_declared one t) (made_by_adjusted f) s h.third e.made q
          (record { scopes = h.third.seen.scopes; node = b.node }) c count h.reached e.reached in
          record {
            after = in_state b.scopes e.made;
            gives = gives ∙ ap (λ (v : TypeId). Gives (typed.AndParameter list (typed.Specified own v) one f t) (in_state b.scopes e.made)) h.base;
            reached = reached-in T basic (made_by_parameters (typed.AndParameter list (typed.Specified own u) one f t)) s e.made
                (record { scopes = h.third.seen.scopes; node = b.node }) b count b.scopes both known e.ending.members e.ending.defined e.ending.opened
                (λ word number w. e.reached.here.own word number (ap (λ (names : List Name). place_among names word) (sym e.ending.defined) ∙ w)) refl refl;
          }

      parameter_with : (list : TypedParameters) (x : TypedSpecifiers) (one : TypedDeclared) (f : Option Adjusted) (t : TypeId) (m : Point)
          → AreParametersRead T (distinct T basic) void all list (point_at s) m → IsParameterOf T (distinct T basic) void specifiers d x one f t m b
          → AreUses (used_by_parameters T (typed.AndParameter list x one f t)) (length s.table) count → HasRoom T (made_by_parameters (typed.AndParameter list x one f t)) s
          → parameters_holds (tree.AndParameter all specifiers d) ≤ 256
          → IsGivenAs T (made_by_parameters (typed.AndParameter list x one f t)) (judge_parameters void (tree.AndParameter all specifiers d) s)
          (typed.AndParameter list x one f t) s b count
      parameter_with list (typed.Specified own u) one f t m before p uses room holds =
          let us =
          uses-first (used_by_parameters T list ++ used_by_specifier_list T own ++ used_by_declared T one) (types_of (made_in T (parameter_steps f one) t)) (length s.table) count uses in
          let half = room-first T (made_by_parameters list ++ made_by_specifier_list own ++ made_by_declared one t) (made_by_adjusted f) s room in
          let h = heads_given list own u one f t m us.0 before p us.1 half holds in
          parameter_by list own u one f t p.inside us.0 h
          (end_given list own u one f t m us.0 p h
          (uses-at T basic (types_of (made_in T (parameter_steps f one) t)) (made_by_parameters list ++ made_by_specifier_list own ++ made_by_declared one t) s h.third p.inside us.0 count h.reached us.2)
          (room-then T (made_by_parameters list ++ made_by_specifier_list own ++ made_by_declared one t) (made_by_adjusted f) s h.third room h.reached.way.spent))

      parameter_read : (y : TypedParameters) → AreParametersRead T (distinct T basic) void (tree.AndParameter all specifiers d) y (point_at s) b
          → AreUses (used_by_parameters T y) (length s.table) count → HasRoom T (made_by_parameters y) s → parameters_holds (tree.AndParameter all specifiers d) ≤ 256
          → IsGivenAs T (made_by_parameters y) (judge_parameters void (tree.AndParameter all specifiers d) s) y s b count
      parameter_read y h uses room holds =
          let i = are_parameters T (distinct T basic) void (tree.AndParameter all specifiers d) y (point_at s) b h in
          subst (λ (x : TypedParameters). IsGivenAs T (made_by_parameters x) (judge_parameters void (tree.AndParameter all specifiers d) s) x s b count) (sym i.8)
          (parameter_with i.0 i.1 i.2 i.3 i.4 i.5 i.6 i.7 (subst (λ (x : TypedParameters). AreUses (used_by_parameters T x) (length s.table) count) i.8 uses)
          (subst (λ (x : TypedParameters). HasRoom T (made_by_parameters x) s) i.8 room) holds)

    pub parameter-given : (all : tree.Parameters) (specifiers : tree.Specifiers) (d : tree.Declared) → AreParametersGiven all → AreListGiven T basic specifiers
        → IsDeclaredGiven T basic d → AreParametersGiven (tree.AndParameter all specifiers d)
    parameter-given all specifiers d ga gl gd void y s b count fits here h uses room holds = parameter_read all specifiers d ga gl gd void s b count fits here y h uses room holds

-- Enumerations are given, with their enumerators.
use Rattle.std.proofs.Common.{◌≡◌, ◌≤◌, ◌<◌, ℕ, ℤ, Bool, true, false, not, ◌||◌, List, [], ◌++◌, length, Option, Some, None, refl, ap, sym, subst, ◌∙◌, arith}
use Rattle.cc_base.specs.declared.fault.Rule.TheVariants as rule
use Rattle.cc_base.specs.declared.place.Place.{Place}
use Rattle.c_types.specs.Table.{Table}
use Rattle.c_tree.specs.declared.leaf.Identifier.{Identifier}
use Rattle.c_tree.specs.Tree as tree
use Rattle.c_tree.specs.TypedTree as typed
use Rattle.c_tree.specs.TypedTree.{TypedExpr, TypedSpecifier, TypedEnumerators}
use Rattle.c_tree.specs.TypedParts.{Made, made_by, made_by_specifier, made_by_enumerators}
use Rattle.integers.specs.Arithmetic.{int, converted}
use Rattle.c_typing.specs.declared.declared.Declared.{Declared}
use Rattle.c_typing.specs.declared.declared.Declared.TheVariants as declared
use Rattle.c_typing.specs.declared.declared.Tag.{Tag}
use Rattle.c_typing.specs.Constants.{constant_value}
use Rattle.c_typing.specs.Declarators.{Counted, counting, are_allowed}
use Rattle.c_typing.specs.Judging.{State, Gives, next, ◌>>=◌, by_known}
use Rattle.c_typing.specs.Operands.{Value, value}
use Rattle.c_typing.specs.Refusals.{one_named, tag_place}
use Rattle.c_typing.specs.Scopes.{Name, Scopes, here as named_here, declaring, place_among, with_name, with_scopes}
use Rattle.c_typing.specs.Settled.{IsBasic, IsKnown}
use Rattle.c_typing.specs.Specifying.{in_scopes, enumerator, enumerator_with, valued_enumerator, enumeration_begun, enumeration}
use Rattle.c_typing.specs.Tests.{AsValue, first_broken, has_some, has_constant, is_reserved, word_tests, enumerator_tests, constant_tests, enumeration_tests}
use Rattle.c_typing.specs.Typing.{IsNewEnumerator, tag_named_here, enumerating, enumerated, is_taken_enumeration, next_value, last_value}
use Rattle.c_typing.specs.Walks.{judge, judge_specifier, judge_enumerators}
use Rattle.c_typing_laws.proofs.JudgedSpecifiers.{enumeration_begun-judged, enumerated-goes}
use Rattle.c_typing_laws.proofs.JudgedTrees.{enumerators-judged}
use Rattle.c_typing_unique.specs.Points.{Point, IsRead}
use Rattle.c_typing_unique.specs.Sameness.{HasOwnFunctions}
use Rattle.c_typing_unique.proofs.MemberSteps.{are_enumerators}
use Rattle.c_typing_unique.proofs.OperatorLaws.{bare-plain}
use Rattle.c_typing_unique.proofs.Reading.{plain-bare, point-same}
use Rattle.c_typing_unique.proofs.SpecifierSteps.{AreEnumeratorsRead, is_specifier, begun}
use Rattle.c_typing_exact.proofs.SameParts.{distinct}
use Rattle.c_typing_exact.proofs.SpecifierExact.{word_passes}
use Rattle.c_typing_exact.proofs.Unbroken.{passes_one, passes_append, or_off}
use Rattle.c_rules_alike.proofs.PartsAlike.{constant-over}
use Rattle.c_typing_given.specs.Given.{point_at, IsHere, IsReached, IsGiven, IsGivenAs}
use Rattle.c_unit_typing.specs.Holding.{expr_holds, enumerators_holds}
use Rattle.c_typing_given.specs.Spending.{HasRoom}
use Rattle.c_type_order.specs.TypesUsed.{AreUses, used_by, used_by_enumerators, used_by_specifier}
use Rattle.c_typing_given.proofs.CallsGiven.{reached-none}
use Rattle.c_typing_given.proofs.Constructing.{reached-both, uses-at, plain-given, max-left, max-right}
use Rattle.c_typing_given.proofs.LevelsKept.{enumerating-levels, enumerated-levels}
use Rattle.c_typing_given.proofs.Settling.{small-kept}
use Rattle.c_typing_given.proofs.TypeGiven.{none-same}
use Rattle.c_typing_given.proofs.SpecifiersGiven.{IsSpecifierGiven}
use Rattle.c_typing_given.proofs.Spent.{room-first, room-then}
use Rattle.c_typing_given.proofs.Steps.{then-is, obeying-is}
use Rattle.c_typing_given.proofs.ValuesGiven.{uses-first}
use Rattle.c_typing.proofs.OpenScopes.{length-innermost}

abbrev pub in_state : Scopes → State → State
in_state c s = record s { seen = with_scopes s.seen c }

judges_none : (s : State) → judge_enumerators tree.NoEnumerator s ≡ Gives typed.NoEnumerator s
unfolding judge_enumerators
judges_none s = refl

judges_plain : (all : tree.Enumerators) (name : Identifier) (list : TypedEnumerators) (s k : State) → judge_enumerators all s ≡ Gives list k
    → first_broken (enumerator_tests k.seen.scopes name.bytes name.place) ≡ None
    → judge_enumerators (tree.AndEnumerator all name) s
    ≡ Gives (typed.AndEnumerator list name (next_value (last_value list))) (in_state (declaring name.bytes (declared.Enumerator (next_value (last_value list))) k.seen.scopes) k)
unfolding judge_enumerators enumerator
judges_plain all name list s k h pass =
    then-is (judge_enumerators all) (λ l. enumerator l name) list s k
    (Gives (typed.AndEnumerator list name (next_value (last_value list))) (in_state (declaring name.bytes (declared.Enumerator (next_value (last_value list))) k.seen.scopes) k)) h
    (obeying-is (λ (q : State). enumerator_tests q.seen.scopes name.bytes name.place)
    (in_scopes (declaring name.bytes (declared.Enumerator (next_value (last_value list)))) (typed.AndEnumerator list name (next_value (last_value list)))) k
    (Gives (typed.AndEnumerator list name (next_value (last_value list))) (in_state (declaring name.bytes (declared.Enumerator (next_value (last_value list))) k.seen.scopes) k)) pass refl)

judges_valued : (all : tree.Enumerators) (name : Identifier) (at : Place) (e : tree.Expr) (list : TypedEnumerators) (v : Value) (z : ℤ) (s k r : State) → judge_enumerators all s ≡ Gives list k
    → next (judge false e k) value ≡ Gives v r → first_broken (enumerator_tests r.seen.scopes name.bytes name.place ++ constant_tests r.table v.place (AsValue v.expr)) ≡ None
    → constant_value r.table v.expr ≡ Some z
    → judge_enumerators (tree.AndValued all name at e) s
    ≡ Gives (typed.AndValued list name at v.expr (converted int z)) (in_state (declaring name.bytes (declared.Enumerator (converted int z)) r.seen.scopes) r)
unfolding judge_enumerators valued_enumerator enumerator_with
judges_valued all name at e list v z s k r h g pass c =
    then-is (judge_enumerators all) (λ l. (judge false e >>= value) >>= (λ w. valued_enumerator l name at w)) list s k
    (Gives (typed.AndValued list name at v.expr (converted int z)) (in_state (declaring name.bytes (declared.Enumerator (converted int z)) r.seen.scopes) r)) h
    (then-is (judge false e >>= value) (λ w. valued_enumerator list name at w) v k r
    (Gives (typed.AndValued list name at v.expr (converted int z)) (in_state (declaring name.bytes (declared.Enumerator (converted int z)) r.seen.scopes) r)) g
    (obeying-is (λ (q : State). enumerator_tests q.seen.scopes name.bytes name.place ++ constant_tests q.table v.place (AsValue v.expr))
    (by_known (λ (q : State). enumerator_with list name at v.expr (constant_value q.table v.expr))) r
    (Gives (typed.AndValued list name at v.expr (converted int z)) (in_state (declaring name.bytes (declared.Enumerator (converted int z)) r.seen.scopes) r)) pass
    (ap (λ (o : Option ℤ). enumerator_with list name at v.expr o r) c)))

begun_is : (name : Option Identifier) (s : State) → enumeration_begun name s ≡ Gives true (in_state (enumerating name s.seen.scopes) s)
unfolding enumeration_begun
begun_is name s = refl

judges_enumeration : (before : Counted) (at : Place) (name : Option Identifier) (brace : Place) (all : tree.Enumerators) (comma : Bool) (list : TypedEnumerators) (s r : State)
    → judge_enumerators all (in_state (enumerating name s.seen.scopes) s) ≡ Gives list r
    → first_broken (enumeration_tests (is_taken_enumeration (tag_named_here r.seen.scopes name)) (tag_place at name) ++ word_tests at (one_named before)) ≡ None
    → judge_specifier before (tree.Enumeration at name brace all comma) s ≡ Gives (typed.Enumeration at name brace list comma) (in_state (enumerated name r.seen.scopes) r)
unfolding judge_specifier enumeration
judges_enumeration before at name brace all comma list s r h pass =
    let part : TypedSpecifier = typed.Enumeration at name brace list comma in
    let whole = Gives part (in_state (enumerated name r.seen.scopes) r) in
    then-is (enumeration_begun name) (λ begun. judge_enumerators all >>= (λ l. enumeration before at name brace l comma)) true s
    (in_state (enumerating name s.seen.scopes) s) whole (begun_is name s)
    (then-is (judge_enumerators all) (λ l. enumeration before at name brace l comma) list (in_state (enumerating name s.seen.scopes) s) r whole h
    (obeying-is (λ (q : State). enumeration_tests (is_taken_enumeration (tag_named_here q.seen.scopes name)) (tag_place at name) ++ word_tests at (one_named before))
    (in_scopes (enumerated name) part) r whole pass refl))

enumerating_keeps : (name : Option Identifier) (c : Scopes) → ((enumerating name c).members ≡ c.members) × ((enumerating name c).defined ≡ c.defined)
enumerating_keeps None c = (refl, refl)
enumerating_keeps (Some name) c = by (tag_named_here c (Some name)) refl
  where
    by : (o : Option Tag) → tag_named_here c (Some name) ≡ o → ((enumerating (Some name) c).members ≡ c.members) × ((enumerating (Some name) c).defined ≡ c.defined)
    by None q = rw q (refl, refl)
    by (Some w) q = rw q (refl, refl)

enumerated_keeps : (name : Option Identifier) (c : Scopes) → ((enumerated name c).members ≡ c.members) × ((enumerated name c).defined ≡ c.defined)
enumerated_keeps None c = (refl, refl)
enumerated_keeps (Some name) c = (refl, refl)

pub declaring-opened : (name : Name) (what : Declared) (c : Scopes) → 0 < length c.levels → 0 < length (declaring name what c).levels
declaring-opened name what c o = let l = length-innermost (with_name name what) c.levels in omega (arith, l, o)

-- whether no enumerator of the name can be declared
abbrev is_taken : Identifier → Scopes → Bool
is_taken name c = has_some (named_here c.levels name.bytes) || is_reserved c name.bytes

free : (name : Identifier) (value : ℤ) (m b c : Scopes) → c ≡ m → IsNewEnumerator name.bytes value m b → is_taken name c ≡ false
free name value m b c same h =
    ap (is_taken name) same
    ∙ or_off (has_some (named_here m.levels name.bytes)) (is_reserved m name.bytes) (ap has_some h.fresh) h.unreserved

module _ (T : Table) (basic : IsBasic T) where
  abbrev pub AreEnumeratorsGiven : tree.Enumerators → Type 0
  AreEnumeratorsGiven xs =
      (list : TypedEnumerators) (s : State) (b : Point) (count : ℕ) → IsHere T s → AreEnumeratorsRead T (distinct T basic) xs list (point_at s) b
      → AreUses (used_by_enumerators T list) (length s.table) count → HasRoom T (made_by_enumerators list) s → enumerators_holds xs ≤ 256
      → IsGivenAs T (made_by_enumerators list) (judge_enumerators xs s) list s b count

  pub no-enumerator-given : AreEnumeratorsGiven tree.NoEnumerator
  no-enumerator-given list s b count here h uses room holds =
      let i = are_enumerators T (distinct T basic) tree.NoEnumerator list (point_at s) b h in
      subst (λ (y : TypedEnumerators). IsGivenAs T (made_by_enumerators y) (judge_enumerators tree.NoEnumerator s) y s b count) (sym i.0)
      (record { after = s; gives = judges_none s; reached = reached-none T basic s b count here i.1 (subst (λ (y : TypedEnumerators). AreUses (used_by_enumerators T y) (length s.table) count) i.0 uses) })

  -- the same with other scopes
  pub reached-in : (made : List Made) (s k : State) (m b : Point) (count : ℕ) (c : Scopes) → IsReached T made s k m count → IsKnown (in_state c k) → c.members ≡ k.seen.scopes.members
      → c.defined ≡ k.seen.scopes.defined → (0 < length k.seen.scopes.levels → 0 < length c.levels) → HasOwnFunctions c → b.scopes ≡ c → b.node ≡ m.node → IsReached T made s (in_state c k) b count
  reached-in made s k m b count c r known members defined levels own p q =
      let small = small-kept k (in_state c k) r.here.small members defined (omega arith) levels (none-same k.table) in
      record {
        here = record { known = known; first = r.here.first; small = small; own = own };
        grown = r.grown;
        point = point-same (point_at (in_state c k)) b (sym p) (ap (λ (a : Point). a.node) r.point ∙ sym q);
        way = record {
          first = r.way.first;
          small = small;
          types = r.way.types;
          spent = record { nodes = r.way.spent.nodes; globals = r.way.spent.globals; cells = r.way.spent.cells };
        };
      }

  pub enumerator-given : (all : tree.Enumerators) (name : Identifier) → AreEnumeratorsGiven all → AreEnumeratorsGiven (tree.AndEnumerator all name)
  enumerator-given all name ga list s b count here h uses room holds =
      let i = are_enumerators T (distinct T basic) (tree.AndEnumerator all name) list (point_at s) b h in
      let g =
      ga i.0 s i.2 count here i.3 (subst (λ (y : TypedEnumerators). AreUses (used_by_enumerators T y) (length s.table) count) i.7 uses)
      (subst (λ (y : TypedEnumerators). HasRoom T (made_by_enumerators y) s) i.7 room) holds in
      let k : State = g.after in
      let scopes : g.after.seen.scopes ≡ i.2.scopes = ap (λ (a : Point). a.scopes) g.reached.point in
      let pass : first_broken (enumerator_tests g.after.seen.scopes name.bytes name.place) ≡ None =
      passes_one rule.Redeclared name.place (is_taken name g.after.seen.scopes) (free name i.1 i.2.scopes b.scopes g.after.seen.scopes scopes i.5) in
      let gives = judges_plain all name i.0 s g.after g.gives pass in
      let c : Scopes = declaring name.bytes (declared.Enumerator (next_value (last_value i.0))) g.after.seen.scopes in
      let law = enumerators-judged (tree.AndEnumerator all name) (typed.AndEnumerator i.0 name (next_value (last_value i.0))) s
      (in_state (declaring name.bytes (declared.Enumerator (next_value (last_value i.0))) g.after.seen.scopes) g.after) here.known gives in
      let same : typed.AndEnumerator i.0 name (next_value (last_value i.0)) ≡ list = ap (typed.AndEnumerator i.0 name) (sym i.4) ∙ sym i.7 in
      subst (λ (y : TypedEnumerators). IsGivenAs T (made_by_enumerators y) (judge_enumerators (tree.AndEnumerator all name) s) y s b count) same
      (record {
        after = in_state (declaring name.bytes (declared.Enumerator (next_value (last_value i.0))) g.after.seen.scopes) g.after;
        gives = gives;
        reached = reached-in (made_by_enumerators i.0) s g.after i.2 b count (declaring name.bytes (declared.Enumerator (next_value (last_value i.0))) g.after.seen.scopes) g.reached law.goes.known refl refl
            (declaring-opened name.bytes (declared.Enumerator (next_value (last_value i.0))) g.after.seen.scopes) g.reached.here.own (i.5.after ∙ (λ j. declaring name.bytes (declared.Enumerator (i.4 j)) (sym scopes j))) i.6;
      })

  pub valued-given : (all : tree.Enumerators) (name : Identifier) (at : Place) (e : tree.Expr) → AreEnumeratorsGiven all → IsGiven T e → AreEnumeratorsGiven (tree.AndValued all name at e)
  valued-given all name at e ga ge list s b count here h uses room holds =
      let i = are_enumerators T (distinct T basic) (tree.AndValued all name at e) list (point_at s) b h in
      let us =
      uses-first (used_by_enumerators T i.0) (used_by T i.1) (length s.table) count (subst (λ (y : TypedEnumerators). AreUses (used_by_enumerators T y) (length s.table) count) i.10 uses) in
      let rm = subst (λ (y : TypedEnumerators). HasRoom T (made_by_enumerators y) s) i.10 room in
      let g = ga i.0 s i.3 us.0 here i.5 us.1 (room-first T (made_by_enumerators i.0) (made_by i.1) s rm) (max-left (enumerators_holds all) (expr_holds e) 256 holds) in
      let read : IsRead T e i.1 (point_at g.after) i.4 = subst (λ (a : Point). IsRead T e i.1 a i.4) (sym g.reached.point) i.6 in
      let d =
      plain-given T basic e ge i.1 g.after i.4 count g.reached.here read (bare-plain i.1 i.7.plain) (uses-at T basic (used_by T i.1) (made_by_enumerators i.0) s g.after i.3 us.0 count g.reached us.2)
      (room-then T (made_by_enumerators i.0) (made_by i.1) s g.after rm g.reached.way.spent) (max-right (enumerators_holds all) (expr_holds e) 256 holds) in
      let r : State = d.after in
      let v : Value = d.value in
      let same : d.value.expr ≡ i.1 = d.same ∙ plain-bare i.1 i.7.plain in
      let first = d.reached.way.first in
      let known = d.reached.here.known.basic in
      let constant : constant_value d.after.table d.value.expr ≡ Some i.7.constant =
      constant-over d.after.table T first known d.value.expr d.there ∙ ap (constant_value T) same ∙ i.7.known in
      let scopes : d.after.seen.scopes ≡ i.4.scopes = ap (λ (a : Point). a.scopes) d.reached.point in
      let pass : first_broken (enumerator_tests d.after.seen.scopes name.bytes name.place ++ constant_tests d.after.table d.value.place (AsValue d.value.expr)) ≡ None =
      passes_append (enumerator_tests d.after.seen.scopes name.bytes name.place) (constant_tests d.after.table d.value.place (AsValue d.value.expr))
      (passes_one rule.Redeclared name.place (is_taken name d.after.seen.scopes) (free name i.2 i.4.scopes b.scopes d.after.seen.scopes scopes i.8))
      (passes_one rule.NotConstant d.value.place (not (has_constant d.after.table (AsValue d.value.expr))) (ap (λ (o : Option ℤ). not (has_some o)) constant)) in
      let gives = judges_valued all name at e i.0 d.value i.7.constant s g.after d.after g.gives d.gives pass constant in
      let law = enumerators-judged (tree.AndValued all name at e) (typed.AndValued i.0 name at d.value.expr (converted int i.7.constant)) s
      (in_state (declaring name.bytes (declared.Enumerator (converted int i.7.constant)) d.after.seen.scopes) d.after) here.known gives in
      let both = reached-both T basic (made_by_enumerators i.0) (made_by i.1) s g.after d.after i.3 i.4 us.0 count g.reached d.reached in
      let whole : typed.AndValued i.0 name at d.value.expr (converted int i.7.constant) ≡ typed.AndValued i.0 name at i.1 i.2 =
      (λ j. typed.AndValued i.0 name at (same j) (sym i.7.int j)) in
      subst (λ (y : TypedEnumerators). IsGivenAs T (made_by_enumerators y) (judge_enumerators (tree.AndValued all name at e) s) y s b count) (sym i.10)
      (record {
        after = in_state (declaring name.bytes (declared.Enumerator (converted int i.7.constant)) d.after.seen.scopes) d.after;
        gives = gives ∙ ap (λ (y : TypedEnumerators). Gives y (in_state (declaring name.bytes (declared.Enumerator (converted int i.7.constant)) d.after.seen.scopes) d.after)) whole;
        reached = reached-in (made_by_enumerators i.0 ++ made_by i.1) s d.after i.4 b count (declaring name.bytes (declared.Enumerator (converted int i.7.constant)) d.after.seen.scopes) both law.goes.known refl refl
            (declaring-opened name.bytes (declared.Enumerator (converted int i.7.constant)) d.after.seen.scopes) d.reached.here.own (i.8.after ∙ (λ j. declaring name.bytes (declared.Enumerator (i.7.int j)) (sym scopes j))) i.9;
      })

  pub enumeration-given : (at : Place) (name : Option Identifier) (brace : Place) (all : tree.Enumerators) (comma : Bool) → AreEnumeratorsGiven all
      → IsSpecifierGiven T basic (tree.Enumeration at name brace all comma)
  enumeration-given at name brace all comma ga before one s b count here h allowed uses room holds =
      let i = is_specifier T (distinct T basic) (tree.Enumeration at name brace all comma) one (point_at s) b h in
      let ok = subst (λ (y : TypedSpecifier). are_allowed (counting y before) ≡ true) i.2 allowed in
      let keeps = enumerating_keeps name s.seen.scopes in
      let known = (enumeration_begun-judged name true s (in_state (enumerating name s.seen.scopes) s) here.known (begun_is name s)).1.known in
      let start = reached-none T basic s (point_at s) (length s.table) here refl refl in
      let began =
      reached-in [] s s (point_at s) (begun name (point_at s)) (length s.table) (enumerating name s.seen.scopes) start known keeps.0 keeps.1 (λ o. let l = enumerating-levels name s.seen.scopes in omega (arith, l, o)) (own_kept s.seen.scopes (enumerating name s.seen.scopes) keeps.1 here.own) refl refl in
      let inside : Point = record { scopes = i.1.inside; node = b.node } in
      let g =
      ga i.0 (in_state (enumerating name s.seen.scopes) s) inside count began.here i.1.enumerators (subst (λ (y : TypedSpecifier). AreUses (used_by_specifier T y) (length s.table) count) i.2 uses)
      (room_in (subst (λ (y : TypedSpecifier). HasRoom T (made_by_specifier y) s) i.2 room)) holds in
      let c : Scopes = g.after.seen.scopes in
      let same : c ≡ i.1.inside = ap (λ (p : Point). p.scopes) g.reached.point in
      let taken : Bool = is_taken_enumeration (tag_named_here c name) in
      let free : taken ≡ false = ap (λ (d : Scopes). is_taken_enumeration (tag_named_here d name)) same ∙ i.1.ends.unfinished in
      let pass : first_broken (enumeration_tests taken (tag_place at name) ++ word_tests at (one_named before)) ≡ None =
      passes_append (enumeration_tests taken (tag_place at name)) (word_tests at (one_named before))
      (passes_one rule.Redeclared (tag_place at name) taken free) (word_passes at (one_named before) ok) in
      let both =
      reached-both T basic [] (made_by_enumerators i.0) s (in_state (enumerating name s.seen.scopes) s) g.after (begun name (point_at s)) inside (length s.table) count began g.reached in
      let ends = enumerated_keeps name c in
      subst (λ (y : TypedSpecifier). IsGivenAs T (made_by_specifier y) (judge_specifier before (tree.Enumeration at name brace all comma) s) y s b count) (sym i.2)
      (record {
        after = in_state (enumerated name c) g.after;
        gives = judges_enumeration before at name brace all comma i.0 s g.after g.gives pass;
        reached = reached-in (made_by_enumerators i.0) s g.after inside b count (enumerated name c) both (enumerated-goes name g.after g.reached.here.known).known ends.0 ends.1
            (λ o. let l = enumerated-levels name c in omega (arith, l, o)) (own_kept c (enumerated name c) ends.1 g.reached.here.own) (i.1.ends.after ∙ ap (enumerated name) (sym same)) refl;
      })
    where
      own_kept : (c d : Scopes) → d.defined ≡ c.defined → HasOwnFunctions c → HasOwnFunctions d
      own_kept c d e h = λ word number p. h word number (ap (λ (all : List Name). place_among all word) (sym e) ∙ p)

      room_in : {made : List Made} → HasRoom T made s → HasRoom T made (in_state (enumerating name s.seen.scopes) s)
      room_in r = record { things = r.things; nodes = r.nodes; globals = r.globals; cells = r.cells }

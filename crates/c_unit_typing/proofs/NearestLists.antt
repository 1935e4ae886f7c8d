-- The list of parameters that stands nearest to a name is judged first in its declarator: what it leaves in its scope is what the rules say.
use Rattle.std.proofs.Common.{◌≡◌, Bool, false, Option, Some, None, refl, ap, sym, subst, ◌∙◌, ◌⊎◌, inl, inr, List, [], ◌∷◌, ℕ}
use Rattle.std.specs.List.{All}
use Rattle.std.proofs.lemmas.List.Elements.{All-head, All-tail}
use Rattle.std.proofs.lemmas.Option.{none-some}
use Rattle.cc_base.specs.declared.place.Place.{Place}
use Rattle.cc_base.specs.declared.number.TypeId.{TypeId}
use Rattle.cc_base.specs.declared.fault.Fault.TheVariants.{TooLarge}
use Rattle.cc_base.specs.declared.fault.Limit.TheVariants.{Types}
use Rattle.c_types.specs.Table.{Table, IsType, shape_at}
use Rattle.c_tree.specs.declared.leaf.Star.{Star}
use Rattle.c_tree.specs.declared.leaf.Word.{Word}
use Rattle.c_tree.specs.declared.typed_word.Home.{Home}
use Rattle.c_tree.specs.declared.typed_word.TypedStar.{TypedStar}
use Rattle.c_tree.specs.Erasure.{erased_stars}
use Rattle.c_tree.specs.Tree as tree
use Rattle.c_tree.specs.TypedTree as typed
use Rattle.c_tree.specs.TypedTree.{TypedDeclarator, TypedSpecifiers, TypedForm, TypedCore, TypedParts, TypedParameters}
use Rattle.c_tree.specs.TypedParts.{specified_type, is_void_list}
use Rattle.c_tree.specs.Places.{nowhere}
use Rattle.c_typing.specs.declared.naming.Naming.{Naming}
use Rattle.c_typing.specs.Constants.{constant_value}
use Rattle.c_typing.specs.Declaring.{NotDerived, derived_by, declarator_name, is_function_by, unless_function, home_as, stars_with_nodes, size_given, sized, sized_part, form_makes, entered, left, stopped_outside}
use Rattle.c_typing.specs.Extensions.{IsExtended}
use Rattle.c_typing.specs.Judging.{State, Outcome, Gives, next, pure, by_known}
use Rattle.c_typing.specs.Operands.{Value, value}
use Rattle.c_typing.specs.Refusals.{is_void_alone, name_place}
use Rattle.c_typing.specs.Scopes.{Level, Scopes, entering, innermost}
use Rattle.c_typing.specs.Settled.{IsKnown, IsLevelThere}
use Rattle.c_typing.specs.Tests
use Rattle.c_typing.specs.Tests.{AsValue, first_broken}
use Rattle.c_typing.specs.Typing.{AreParameters}
use Rattle.c_typing.specs.Walks
use Rattle.c_typing.specs.Walks.{judge, judge_form, judge_core, judge_parts, judge_parameters, judge_declarator, judge_declarator_at}
use Rattle.c_typing_laws.proofs.ExtensionLaws.{extended_refl, still_in}
use Rattle.c_typing_laws.proofs.JudgedDeclarators.{stars-judged, home-judged, entered-judged, left-judged, voids-alike}
use Rattle.c_typing_laws.proofs.JudgedForms.{form-made}
use Rattle.c_typing_laws.proofs.JudgedTrees.{value-here, expr-judged, form-judged, core-judged, parts-judged, parameters-judged, void_self}
use Rattle.c_typing_laws.proofs.KeptTrees.{parameters-kept}
use Rattle.c_typing_laws.proofs.KnownScopes.{empty-there, levels-kept}
use Rattle.c_typing_laws.proofs.KnownStates.{goes-on}
use Rattle.c_typing_laws.proofs.Outcomes.{bind-gives, unless-gives, never-gives, gives-value, gives-state, outside-gives}
use Rattle.c_typing_laws.proofs.TableGrowth.{extended_trans}
use Rattle.c_unit_typing.specs.ParameterScopes.{parameters_written, scope_of_list, scope_of_declarator, scope_of_core, level_given, level_of}
use Rattle.c_unit_typing.specs.Units.{declares_parameters, unless_pointer, parameters_of_form, parameters_of_core}

-- the list is judged from here, in a scope of its own, and what is judged after it has a later table
pub record IsListRun (qs : tree.Parameters) (ps : TypedParameters) (s r : State) : Type 0 where
  pub flag : Bool
  pub first : State
  pub last : State
  pub enters : entered s ≡ Gives flag first
  pub gives : judge_parameters (is_void_alone qs) qs first ≡ Gives ps last
  pub later : IsExtended last.table r.table

run-later : (qs : tree.Parameters) (ps : TypedParameters) (s m r : State) → IsExtended m.table r.table → IsListRun qs ps s m → IsListRun qs ps s r
run-later qs ps s m r x h = record {
  flag = h.flag;
  first = h.first;
  last = h.last;
  enters = h.enters;
  gives = h.gives;
  later = extended_trans h.last.table m.table r.table h.later x;
}

some-same : {A : Type 0} (a b : A) → Some a ≡ Some b → a ≡ b
some-same a b h = cc

-- parts: one of them has the nearest list, or none, and then nothing is judged before what stands farther out
abbrev PartsRun : tree.Parts → Option tree.Parameters → Option TypedParameters → TypedParameters → State → State → Type 0
PartsRun parts outer found ps s r =
    ((qs : tree.Parameters) × (parameters_written parts outer ≡ Some qs) × IsListRun qs ps s r) ⊎ ((found ≡ Some ps) × (parameters_written parts outer ≡ outer) × (r ≡ s))

abbrev IsSizedPart : Value → TypedParts → TypedParts → Place → List Word → State → State → Type 0
IsSizedPart v list one bracket words s r = (size : ℕ) × (one ≡ typed.AndSizedArray list bracket words v.expr size) × (s ≡ r)

part-of : (v : Value) (list one : TypedParts) (bracket : Place) (words : List Word) (o : Option ℕ) (s r : State) → sized_part list bracket words v o s ≡ Gives one r
    → IsSizedPart v list one bracket words s r
unfolding sized_part
part-of v list one bracket words None s r h = never-gives one (TooLarge v.place Types) s r h
part-of v list one bracket words (Some size) s r h =
    (size, sym (gives-value (typed.AndSizedArray list bracket words v.expr size) one s r h), gives-state (typed.AndSizedArray list bracket words v.expr size) one s r h)

sized-of : (v : Value) (list one : TypedParts) (bracket : Place) (words : List Word) (s r : State) → sized list bracket words v s ≡ Gives one r
    → IsSizedPart v list one bracket words s r
unfolding sized
sized-of v list one bracket words s r h =
    let go = unless-gives (first_broken (Tests.array_size_tests s.table v.place (AsValue v.expr)))
    (by_known (λ (q : State). sized_part list bracket words v (size_given (constant_value q.table v.expr)))) s one r h in
    part-of v list one bracket words (size_given (constant_value s.table v.expr)) s r go.1

module _ (ps : TypedParameters) where
  parts-run : (parts : tree.Parts) (at : Place) (one : TypedParts) (s r : State) → IsKnown s → judge_parts at parts s ≡ Gives one r
      → (outer : Option tree.Parameters) (found : Option TypedParameters) → declares_parameters one found ≡ Some ps → PartsRun parts outer found ps s r
  unfolding judge_parts
  parts-run tree.NoPart at one s r k h outer found q =
      inr (ap (λ (v : TypedParts). declares_parameters v found) (gives-value typed.NoPart one s r h) ∙ q, refl, sym (gives-state typed.NoPart one s r h))
  parts-run (tree.AndArray all bracket words) at one s r k h outer found q =
      let e = bind-gives (judge_parts at all s) (λ p. pure (typed.AndArray p bracket words)) one r h in
      let own = ap (λ (v : TypedParts). declares_parameters v found) (gives-value (typed.AndArray e.0 bracket words) one e.1 r e.3) ∙ q in
      let state = gives-state (typed.AndArray e.0 bracket words) one e.1 r e.3 in
      elim (parts-run all at e.0 s e.1 k e.2 None None own) [
        | inl run ↦ inl (run.0, run.1, subst (IsListRun run.0 ps s) state run.2)
        | inr given ↦ absurd (none-some ps given.0)
      ]
  parts-run (tree.AndSizedArray all bracket words e) at one s r k h outer found q =
      let e1 = bind-gives (judge_parts at all s) (λ p. λ m. next (next (judge false e m) value) (λ v. sized p bracket words v)) one r h in
      let e2 = bind-gives (next (judge false e e1.1) value) (λ v. sized e1.0 bracket words v) one r e1.3 in
      let part = sized-of e2.0 e1.0 one bracket words e2.1 r e2.3 in
      let j = parts-judged all at e1.0 s e1.1 k e1.2 in
      let x = bind-gives (judge false e e1.1) value e2.0 e2.1 e2.2 in
      let v = value-here false e x.0 e2.0 e1.1 x.1 e2.1 (expr-judged e false x.0 e1.1 x.1 j.goes.known x.2) x.3 in
      let own = ap (λ (v : TypedParts). declares_parameters v found) (sym part.1) ∙ q in
      elim (parts-run all at e1.0 s e1.1 k e1.2 None None own) [
        | inl run ↦ inl (run.0, run.1, run-later run.0 ps s e1.1 r (subst (λ (w : State). IsExtended e1.1.table w.table) part.2 v.value.goes.extends) run.2)
        | inr given ↦ absurd (none-some ps given.0)
      ]
  parts-run (tree.AndFunction all paren parameters) at one s r k h outer found q =
      let void = is_void_alone parameters in
      let e1 = bind-gives (judge_parts at all s) (λ p. λ m. next (entered m)
      (λ b. λ i. next (stopped_outside (judge_parameters void parameters i)) (λ list. λ n. next (left at list n) (λ whole. pure (typed.AndFunction p paren whole))))) one r h in
      let j = parts-judged all at e1.0 s e1.1 k e1.2 in
      let e2 = bind-gives (entered e1.1)
      (λ b. λ i. next (stopped_outside (judge_parameters void parameters i)) (λ list. λ n. next (left at list n) (λ whole. pure (typed.AndFunction e1.0 paren whole)))) one r e1.3 in
      let inside = entered-judged e2.0 e1.1 e2.1 j.goes.known e2.2 in
      let e3 = bind-gives (stopped_outside (judge_parameters void parameters e2.1)) (λ list. λ n. next (left at list n) (λ whole. pure (typed.AndFunction e1.0 paren whole))) one r e2.3 in
      let p = parameters-judged parameters void e3.0 e2.1 e3.1 (void_self parameters) inside.1.known (outside-gives (judge_parameters void parameters e2.1) e3.0 e3.1 e3.2) in
      let e4 = bind-gives (left at e3.0 e3.1) (λ whole. pure (typed.AndFunction e1.0 paren whole)) one r e3.3 in
      let out = left-judged at e3.0 e4.0 e3.1 e4.1 p.goes.known e4.2 in
      let part : typed.AndFunction e1.0 paren e3.0 ≡ one = ap (typed.AndFunction e1.0 paren) out.0 ∙ gives-value (typed.AndFunction e1.0 paren e4.0) one e4.1 r e4.3 in
      let state = gives-state (typed.AndFunction e1.0 paren e4.0) one e4.1 r e4.3 in
      let own = ap (λ (v : TypedParts). declares_parameters v found) part ∙ q in
      let last : IsExtended e3.1.table r.table = subst (λ (w : State). IsExtended e3.1.table w.table) state out.2.extends in
      elim (parts-run all at e1.0 s e1.1 k e1.2 (Some parameters) (Some e3.0) own) [
        | inl run ↦ inl (run.0, run.1, run-later run.0 ps s e1.1 r (extended_trans e1.1.table e3.1.table r.table (goes-on e1.1 e2.1 e3.1 inside.1 p.goes).extends last) run.2)
        | inr given ↦ inl (
          parameters,
          given.1,
          record {
            flag = e2.0;
            first = e2.1;
            last = e3.1;
            enters = ap entered (sym given.2) ∙ e2.2;
            gives = subst (λ (w : TypedParameters). judge_parameters void parameters e2.1 ≡ Gives w e3.1) (some-same e3.0 ps given.0) (outside-gives (judge_parameters void parameters e2.1) e3.0 e3.1 e3.2);
            later = last;
          },
        )
      ]

  unstarred : (stars : List TypedStar) (found : Option TypedParameters) → unless_pointer stars found ≡ Some ps → (stars ≡ []) × (found ≡ Some ps)
  unstarred [] found h = (refl, h)
  unstarred (star ∷ stars) found h = absurd (none-some ps h)

  -- a declarator: the list stands in it, or farther out
  pub record IsRunFrom (outcome : Outcome Level) (s r : State) : Type 0 where
    pub from : State
    pub list : tree.Parameters
    pub same : outcome ≡ scope_of_list (Some list) from
    pub run : IsListRun list ps from r
    pub scopes : from.seen.scopes ≡ s.seen.scopes
    pub known : IsKnown from
    pub earlier : IsExtended s.table from.table

  abbrev ScopeRun : Outcome Level → Option tree.Parameters → Option TypedParameters → State → State → Type 0
  ScopeRun outcome outer found s r = IsRunFrom outcome s r ⊎ ((found ≡ Some ps) × (outcome ≡ scope_of_list outer r) × (r.seen.scopes ≡ s.seen.scopes))

  mutual
    unfolding judge_form judge_core scope_of_declarator scope_of_core

    form-run : (d : tree.Declarator) (which : Naming) (at : Place) (one : TypedForm) (s r : State) → IsKnown s → judge_form which at d s ≡ Gives one r
        → (outer : Option tree.Parameters) (found : Option TypedParameters) → parameters_of_form one found ≡ Some ps
        → ScopeRun (scope_of_declarator which at d outer s) outer found s r
    form-run (tree.Declares stars core parts) which at one s r k h outer found q =
        let e1 = bind-gives (stars_with_nodes at stars s) (λ l. λ m. next (judge_core which at core m) (λ c. λ n. next (judge_parts at parts n) (λ a. pure (typed.Form l c a)))) one r h in
        let first = stars-judged at stars e1.0 s e1.1 k e1.2 in
        let e2 = bind-gives (judge_core which at core e1.1) (λ c. λ n. next (judge_parts at parts n) (λ a. pure (typed.Form e1.0 c a))) one r e1.3 in
        let c = core-judged core which at e2.0 e1.1 e2.1 first.1.goes.known e2.2 in
        let e3 = bind-gives (judge_parts at parts e2.1) (λ a. pure (typed.Form e1.0 e2.0 a)) one r e2.3 in
        let a = parts-judged parts at e3.0 e2.1 e3.1 c.goes.known e3.2 in
        let state = gives-state (typed.Form e1.0 e2.0 e3.0) one e3.1 r e3.3 in
        let own = ap (λ (v : TypedForm). parameters_of_form v found) (gives-value (typed.Form e1.0 e2.0 e3.0) one e3.1 r e3.3) ∙ q in
        let inside : Option tree.Parameters = parameters_written parts (unless_pointer stars outer) in
        let begins : scope_of_declarator which at (tree.Declares stars core parts) outer s ≡ scope_of_core which at core inside e1.1 =
        ap (λ (o : Outcome (List TypedStar)). next o (λ list. scope_of_core which at core inside)) e1.2 in
        elim (core-run core which at e2.0 e1.1 e2.1 first.1.goes.known e2.2 inside (declares_parameters e3.0 (unless_pointer e1.0 found)) own) [
          | inl f ↦ inl (record {
            from = f.from;
            list = f.list;
            same = begins ∙ f.same;
            run = run-later f.list ps f.from e2.1 r (subst (λ (w : State). IsExtended e2.1.table w.table) state a.goes.extends) f.run;
            scopes = f.scopes ∙ first.1.scopes;
            known = f.known;
            earlier = extended_trans s.table e1.1.table f.from.table first.1.goes.extends f.earlier;
          })
          | inr g ↦ elim (parts-run parts at e3.0 e2.1 e3.1 c.goes.known e3.2 (unless_pointer stars outer) (unless_pointer e1.0 found) g.0) [
            | inl f ↦ inl (record {
              from = e2.1;
              list = f.0;
              same = begins ∙ g.1 ∙ ap (λ (o : Option tree.Parameters). scope_of_list o e2.1) f.1;
              run = subst (IsListRun f.0 ps e2.1) state f.2;
              scopes = g.2 ∙ first.1.scopes;
              known = c.goes.known;
              earlier = extended_trans s.table e1.1.table e2.1.table first.1.goes.extends c.goes.extends;
            })
            | inr f ↦
                let bare = unstarred e1.0 found f.0 in
                let none : stars ≡ [] = sym first.0 ∙ ap erased_stars bare.0 in
                let end : e2.1 ≡ r = sym f.2 ∙ state in
                inr (
                  bare.1,
                  begins ∙ g.1 ∙ ap (λ (o : Option tree.Parameters). scope_of_list o e2.1) (f.1 ∙ ap (λ (l : List Star). unless_pointer l outer) none) ∙ ap (scope_of_list outer) end,
                  ap (λ (w : State). w.seen.scopes) (sym end) ∙ g.2 ∙ first.1.scopes,
                )
          ]
        ]

    core-run : (d : tree.Core) (which : Naming) (at : Place) (one : TypedCore) (s r : State) → IsKnown s → judge_core which at d s ≡ Gives one r
        → (outer : Option tree.Parameters) (found : Option TypedParameters) → parameters_of_core one found ≡ Some ps
        → ScopeRun (scope_of_core which at d outer s) outer found s r
    core-run (tree.Names name) which at one s r k h outer found q =
        let e = bind-gives (home_as at which s) (λ home. pure (typed.Names name home)) one r h in
        let j = home-judged at which e.0 s e.1 k e.2 in
        let state = gives-state (typed.Names name e.0) one e.1 r e.3 in
        let begins : scope_of_core which at (tree.Names name) outer s ≡ scope_of_list outer e.1 = ap (λ (o : Outcome Home). next o (λ home. scope_of_list outer)) e.2 in
        inr (
          ap (λ (v : TypedCore). parameters_of_core v found) (gives-value (typed.Names name e.0) one e.1 r e.3) ∙ q,
          begins ∙ ap (scope_of_list outer) state,
          ap (λ (w : State). w.seen.scopes) (sym state) ∙ j.1.scopes,
        )
    core-run tree.Unnamed which at one s r k h outer found q =
        let state = gives-state typed.Unnamed one s r h in
        inr (
          ap (λ (v : TypedCore). parameters_of_core v found) (gives-value typed.Unnamed one s r h) ∙ q,
          ap (scope_of_list outer) state,
          ap (λ (w : State). w.seen.scopes) (sym state),
        )
    core-run (tree.Nested paren d) which at one s r k h outer found q =
        let e = bind-gives (judge_form which at d s) (λ form. pure (typed.Nested paren form)) one r h in
        let own = ap (λ (v : TypedCore). parameters_of_core v found) (gives-value (typed.Nested paren e.0) one e.1 r e.3) ∙ q in
        subst (λ (w : State). ScopeRun (scope_of_core which at (tree.Nested paren d) outer s) outer found s w) (gives-state (typed.Nested paren e.0) one e.1 r e.3)
        (form-run d which at e.0 s e.1 k e.2 outer found own)

-- the scope that the list leaves, where a declarator was judged
pub record IsScopeJudged (outcome : Outcome Level) (ps : TypedParameters) (s r : State) : Type 0 where
  pub behind : State
  pub gives : outcome ≡ Gives (innermost behind.seen.scopes.levels) behind
  pub listed : AreParameters behind.table (is_void_list ps) ps (entering s.seen.scopes) behind.seen.scopes
  pub known : IsKnown behind
  pub later : IsExtended behind.table r.table
  pub from : State
  pub list : tree.Parameters
  pub run : IsListRun list ps from r
  pub scopes : from.seen.scopes ≡ s.seen.scopes
  pub before : IsKnown from
  pub earlier : IsExtended s.table from.table
  pub last : run.last ≡ behind

list-scope : (qs : tree.Parameters) (ps : TypedParameters) (s r : State) → IsKnown s → IsListRun qs ps s r → IsScopeJudged (scope_of_list (Some qs) s) ps s r
unfolding scope_of_list
list-scope qs ps s r k run =
    let inside = entered-judged run.flag s run.first k run.enters in
    let p = parameters-judged qs (is_void_alone qs) ps run.first run.last (void_self qs) inside.1.known run.gives in
    let void : is_void_alone qs ≡ is_void_list ps = ap is_void_alone (sym p.erases) ∙ sym (voids-alike ps) in
    record {
      behind = run.last;
      gives = rw run.enters (rw run.gives refl);
      listed = subst (λ (w : Bool). AreParameters run.last.table w ps (entering s.seen.scopes) run.last.seen.scopes) void
          (subst (λ (c : Scopes). AreParameters run.last.table (is_void_alone qs) ps c run.last.seen.scopes) inside.0 p.typed);
      known = p.goes.known;
      later = run.later;
      from = s;
      list = qs;
      run = run;
      scopes = refl;
      before = k;
      earlier = extended_refl s.table;
      last = refl;
    }

pub scope-of-form : (d : tree.Declarator) (which : Naming) (at : Place) (one : TypedForm) (ps : TypedParameters) (s r : State) → IsKnown s → judge_form which at d s ≡ Gives one r
    → parameters_of_form one None ≡ Some ps → IsScopeJudged (scope_of_declarator which at d None s) ps s r
unfolding list-scope
scope-of-form d which at one ps s r k h q = elim (form-run ps d which at one s r k h None None q) [
  | inl f ↦
      let j = list-scope f.list ps f.from r f.known f.run in
      record {
        behind = j.behind;
        gives = f.same ∙ j.gives;
        listed = subst (λ (c : Scopes). AreParameters j.behind.table (is_void_list ps) ps (entering c) j.behind.seen.scopes) f.scopes j.listed;
        known = j.known;
        later = j.later;
        from = f.from;
        list = f.list;
        run = f.run;
        scopes = f.scopes;
        before = f.known;
        earlier = f.earlier;
        last = refl;
      }
  | inr g ↦ absurd (none-some ps g.0)
]

innermost-there : (T : Table) (ls : List Level) → All (IsLevelThere T) ls → IsLevelThere T (innermost ls)
innermost-there T [] h = empty-there T
innermost-there T (l ∷ []) h = All-head (IsLevelThere T) l [] h
innermost-there T (l ∷ (m ∷ ls)) h = innermost-there T (m ∷ ls) (All-tail (IsLevelThere T) l (m ∷ ls) h)

-- a declarator that begins with its own parameters
pub record IsLevelJudged (naming : Naming) (d : tree.Declarator) (level : Level) (ps : TypedParameters) (s r : State) : Type 0 where
  pub inside : Scopes
  pub same : level ≡ innermost inside.levels
  pub listed : (T : Table) → IsExtended r.table T → AreParameters T (is_void_list ps) ps (entering s.seen.scopes) inside
  pub there : IsLevelThere r.table level
  pub end : State
  pub list : IsScopeJudged (scope_of_declarator naming (name_place (declarator_name d) nowhere) d None s) ps s end
  pub later : IsExtended end.table r.table
  pub behind : list.behind.seen.scopes ≡ inside

form_in : TypedDeclarator → TypedForm
form_in (typed.Declares form t) = form

pub level-judged : (which : Naming) (base : TypedSpecifiers) (d : tree.Declarator) (form : TypedForm) (t : TypeId) (ps : TypedParameters) (s r : State) → IsKnown s
    → IsType s.table (specified_type base) → judge_declarator which base None d s ≡ Gives (typed.Declares form t) r → parameters_of_form form None ≡ Some ps
    → IsLevelJudged (unless_function (is_function_by (derived_by d NotDerived) (shape_at s.table (specified_type base))) which) d (level_of which (specified_type base) d s) ps s r
unfolding judge_declarator_at form_in
level-judged which base d form t ps s r k b h q =
    let at = name_place (declarator_name d) nowhere in
    let own : TypeId = specified_type base in
    let naming : Naming = unless_function (is_function_by (derived_by d NotDerived) (shape_at s.table own)) which in
    let one : TypedDeclarator = typed.Declares form t in
    let first = bind-gives (judge_form naming at d s) (λ f. λ m. next (form_makes at (Walks.outermost_of None) f own m) (λ u. pure (typed.Declares f u))) one r h in
    let j = form-judged d naming at first.0 s first.1 k first.2 in
    let two = bind-gives (form_makes at (Walks.outermost_of None) first.0 own first.1) (λ u. pure (typed.Declares first.0 u)) one r first.3 in
    let made = form-made at (Walks.outermost_of None) first.0 own two.0 first.1 two.1 j.goes.known (still_in s.table first.1.table j.goes.extends own b) two.2 in
    let same : first.0 ≡ form = ap form_in (gives-value (typed.Declares first.0 two.0) one two.1 r two.3) in
    let last : IsExtended first.1.table r.table = subst (λ (w : State). IsExtended first.1.table w.table) (gives-state (typed.Declares first.0 two.0) one two.1 r two.3) made.goes.goes.extends in
    let scope = scope-of-form d naming at first.0 ps s first.1 k first.2 (ap (λ (f : TypedForm). parameters_of_form f None) same ∙ q) in
    let level = ap level_given scope.gives in
    let later = extended_trans scope.behind.table first.1.table r.table scope.later last in
    record {
      inside = scope.behind.seen.scopes;
      same = level;
      listed = λ T x. parameters-kept scope.behind.table T (extended_trans scope.behind.table r.table T later x) scope.known.basic (is_void_list ps) ps (entering s.seen.scopes) scope.behind.seen.scopes scope.listed;
      there = subst (IsLevelThere r.table) (sym level)
          (innermost-there r.table scope.behind.seen.scopes.levels (levels-kept scope.behind.table r.table later scope.behind.seen.scopes.levels scope.known.levels));
      end = first.1;
      list = scope;
      later = last;
      behind = refl;
    }

-- What the declarator of a definition tells of the scope that the list of parameters nearest to its name leaves.
use Rattle.std.proofs.Common.{◌≡◌, ◌≢◌, Bool, true, false, ◌&&◌, List, [], ◌∷◌, map, Option, None, Some, refl, ap, sym, subst, ◌∙◌, true≢false, if◌then◌else◌}
use Rattle.cc_base.specs.declared.fault.Fault.{Fault}
use Rattle.cc_base.specs.declared.fault.Fault.TheVariants.{NoMemory}
use Rattle.cc_base.specs.declared.place.Place.{Place}
use Rattle.c_tree.specs.declared.expr.Core.TheOpen as layer
use Rattle.c_tree.specs.declared.expr.Core.TheFolds.{fold_out-Part}
use Rattle.c_tree.specs.declared.expr.Declarator.{Declarator, out-Declarator}
use Rattle.c_tree.specs.declared.expr.Part.{Part}
use Rattle.c_tree.specs.declared.leaf.Identifier.{Identifier}
use Rattle.c_tree.specs.declared.leaf.Star.{Star}
use Rattle.c_tree.specs.declared.typed_word.Home.{Home}
use Rattle.c_tree.specs.declared.typed_word.TypedStar.{TypedStar}
use Rattle.c_tree.proofs.TypedViewLaws.{seen-TypedSpecifiers}
use Rattle.c_tree.specs.Tree as tree
use Rattle.c_tree.specs.Tree.{Parameters}
use Rattle.c_tree.specs.TypedTree as typed
use Rattle.c_tree.specs.Places.{nowhere}
use Rattle.c_tree.specs.TypedParts.{specified_type}
use Rattle.c_tree.specs.TypedTree.{TypedForm, TypedParameters, TypedParts}
use Rattle.c_tree.specs.TypedViews.{typed_specifiers_view}
use Rattle.c_tree.specs.declared.typed_expr.TypedSpecifiers.{out-TypedSpecifiers, roll-out-TypedSpecifiers, TypedSpecifiers as Specifiers}
use Rattle.c_types.specs.Table.{shape_at}
use Rattle.c_tree.specs.Views.{added, core_view, declarator_view, part_view, part_layer, core_layer, enumerator_layer, expr_layer, specifier_layer, declarator_layer, members_layer, parameter_layer, specifiers_layer, type_name_layer}
use Rattle.c_typing.specs.declared.naming.Naming.{Naming}
use Rattle.c_typing.specs.Declaring.{NotDerived, declarator_name, derived_by, entered, form_makes, home_as, is_function_by, stars_with_nodes, unless_function}
use Rattle.c_typing.specs.Refusals.{is_void_alone, name_place}
use Rattle.c_typing.specs.Judging.{State, Outcome, Judging, Gives, Stops, by_known, next, pure}
use Rattle.c_typing.specs.Scopes.{Level, empty_level, innermost}
use Rattle.c_typing.specs.Walks.{judge_declarator, judge_declarator_at, judge_form, judge_parameters, judge_parts, judge_prototype, outermost_of}
use Rattle.c_typing_laws.proofs.Outcomes.{gives-state}
use Rattle.c_unit_typing.specs.ParameterScopes.{level_given, level_of, parameters_written, scope_of_core, scope_of_declarator, scope_of_list}
use Rattle.c_unit_typing.specs.Units.{unless_pointer}
use Rattle.c_check_walk.proofs.PartLaws.{function_judged}
use Rattle.c_check_walk.proofs.PartsSeen.{declarator_seen}
use Rattle.c_check_walk.proofs.SeriesLaws.{stays_behind}
use Rattle.c_check_walk.proofs.StayLaws.{no_parts, parts-stay}
use Rattle.c_check_walk.proofs.OutcomeLaws.{next-next}
use Rattle.c_check_walk.specs.Ending.{EndsIn}
use Rattle.c_check_expr.specs.Leaving.{AreLeaving, Tells, is_bare}

-- where nothing follows
pub tells-none : (f : Option Parameters → Judging Level) (bare : Bool) (level : Level) (s r : State) → Tells f bare level s r → level_given (f None s) ≡ level
unfolding scope_of_list
tells-none f true level s r t = ap level_given (t.follows refl None) ∙ sym (t.nothing refl)
tells-none f false level s r t = t.leaves refl None

-- Cores

pub names-tell : (which : Naming) (at : Place) (name : Identifier) (home : Home) (s r : State) → home_as at which s ≡ Gives home r
    → Tells (scope_of_core which at (tree.Names name)) true empty_level s r
unfolding scope_of_core
names-tell which at name home s r h = record {
  follows = λ b outer. ap (λ o. next o (λ found. scope_of_list outer)) h;
  nothing = λ b. refl;
  leaves = λ b. absurd (true≢false b);
}

pub unnamed-tells : (which : Naming) (at : Place) (s : State) → Tells (scope_of_core which at tree.Unnamed) true empty_level s s
unfolding scope_of_core
unnamed-tells which at s = record {
  follows = λ b outer. refl;
  nothing = λ b. refl;
  leaves = λ b. absurd (true≢false b);
}

pub nested-tells : (which : Naming) (at paren : Place) (d : tree.Declarator) (bare : Bool) (level : Level) (s r : State)
    → Tells (scope_of_declarator which at d) bare level s r → Tells (scope_of_core which at (tree.Nested paren d)) bare level s r
unfolding scope_of_core
nested-tells which at paren d bare level s r t = record { follows = t.follows; nothing = t.nothing; leaves = t.leaves }

-- Parts

-- the scope in which parameters end is that of their list
ends-given : (level : Level) (o : Outcome TypedParameters) → EndsIn level o → level_given (next o (λ list. by_known (λ s. pure (innermost s.seen.scopes.levels)))) ≡ level
ends-given level (Gives list s) h = h
ends-given level (Stops fault s) h = absurd h

pub list-leaves : (parameters : Parameters) (level : Level) (s : State)
    → EndsIn level (next (entered s) (λ _. judge_parameters (is_void_alone parameters) parameters)) → level_given (scope_of_list (Some parameters) s) ≡ level
unfolding scope_of_list
list-leaves parameters level s h =
    ap level_given (sym (next-next (entered s) (λ _. judge_parameters (is_void_alone parameters) parameters) (λ list. by_known (λ t. pure (innermost t.seen.scopes.levels)))))
    ∙ ends-given level _ h

pub no-part-leaves : (s : State) → AreLeaving [] empty_level s
unfolding scope_of_list
no-part-leaves s outer none = ap (λ o. level_given (scope_of_list o s)) (none refl)

-- the parts of a declarator where a list of parameters stands nearest to the name
pub function_nearest : (at paren : Place) (parameters : Parameters) (s : State)
    → judge_parts at (tree.AndFunction tree.NoPart paren parameters) s ≡ next (judge_prototype at parameters s) (λ whole. pure (typed.AndFunction typed.NoPart paren whole))
function_nearest at paren parameters s =
    function_judged at paren parameters tree.NoPart s
    ∙ ap (λ o. next o (λ done. λ t. next (judge_prototype at parameters t) (λ whole. pure (typed.AndFunction done paren whole)))) (no_parts at s)

-- where the part that stands nearest stops, unless memory does
pub first-fails : (at : Place) (parts : List Part) (first : Part) (rest : List Part) → parts ≡ first ∷ rest → (s t : State) (fault : Fault)
    → (fault ≢ NoMemory → judge_parts at (part_view first tree.NoPart) s ≡ Stops fault t)
    → fault ≢ NoMemory → judge_parts at (added tree.NoPart (map part_view parts)) s ≡ Stops fault t
first-fails at parts first rest are s t fault stopped real =
    ap (λ (ps : List Part). judge_parts at (added tree.NoPart (map part_view ps)) s) are
    ∙ stays_behind (judge_parts at) part_view (parts-stay at) rest (part_view first tree.NoPart) s t fault (stopped real)

abbrev Layer : (Type 0 → Type 0 → Type 0 → Type 0 → Type 0 → Type 0 → Type 0 → Type 0 → Type 0 → Type 0 → Type 0) → Type 0
Layer L = L tree.Core (tree.Enumerators → tree.Enumerators) tree.Expr (tree.Parts → tree.Parts) tree.Specifier tree.Declarator
    (tree.Members → tree.Members) (tree.Parameters → tree.Parameters) tree.Specifiers tree.TypeName

-- what is written nearest to the name is written further in than this part, or is this part
abbrev IsWrittenIn : (tree.Parts → tree.Parts) → Type 0
IsWrittenIn add = (all : tree.Parts) (outer : Option Parameters) → (found : Option Parameters) × (parameters_written (add all) outer ≡ parameters_written all found)

layer_written : (y : Layer layer.Part-F) → IsWrittenIn (part_layer y)
layer_written (layer.Array bracket words None) all outer = (None, refl)
layer_written (layer.Array bracket words (Some e)) all outer = (None, refl)
layer_written (layer.Function paren parameters) all outer = (Some (added tree.NoParameter parameters), refl)

part_written : (p : Part) → IsWrittenIn (part_view p)
part_written p =
    subst IsWrittenIn (sym (fold_out-Part tree.Core (tree.Enumerators → tree.Enumerators) tree.Expr (tree.Parts → tree.Parts) tree.Specifier tree.Declarator
    (tree.Members → tree.Members) (tree.Parameters → tree.Parameters) tree.Specifiers tree.TypeName
    core_layer enumerator_layer expr_layer part_layer specifier_layer declarator_layer members_layer parameter_layer specifiers_layer type_name_layer p))
    (layer_written _)

-- what stands nearest decides, whatever stands outside of it
nearest_decides : (first : tree.Parts) (rest : List Part) (level : Level) (s : State)
    → ((outer : Option Parameters) → level_given (scope_of_list (parameters_written first outer) s) ≡ level)
    → (outer : Option Parameters) → level_given (scope_of_list (parameters_written (added first (map part_view rest)) outer) s) ≡ level
nearest_decides first [] level s h = h
nearest_decides first (p ∷ ps) level s h =
    nearest_decides (part_view p first) ps level s
    (λ outer. let w = part_written p first outer in ap (λ o. level_given (scope_of_list o s)) w.1 ∙ h w.0)

pub parts-leave : (first : Part) (rest : List Part) (level : Level) (s : State)
    → ((outer : Option Parameters) → level_given (scope_of_list (parameters_written (part_view first tree.NoPart) outer) s) ≡ level) → AreLeaving (first ∷ rest) level s
parts-leave first rest level s h outer none = nearest_decides (part_view first tree.NoPart) rest level s h outer

-- Declarators

module _ (which : Naming) (at : Place) (core : tree.Core) (list : List TypedStar) (made : TypedParts) (inner level : Level) (s m n r : State) where
  abbrev Whole : List Star → List Part → Option Parameters → Judging Level
  Whole stars parts = scope_of_declarator which at (tree.Declares stars core (added tree.NoPart (map part_view parts)))

  -- the list that is written nearest, where these parts stand between a core and its stars
  abbrev Written : List Star → List Part → Option Parameters → Option Parameters
  Written stars parts outer = parameters_written (added tree.NoPart (map part_view parts)) (unless_pointer stars outer)

  behind_stars : (stars : List Star) (parts : List Part) → stars_with_nodes at stars s ≡ Gives list m → (outer : Option Parameters)
      → Whole stars parts outer s ≡ scope_of_core which at core (Written stars parts outer) m
  unfolding scope_of_declarator
  behind_stars stars parts h outer = ap (λ o. next o (λ made. scope_of_core which at core (Written stars parts outer))) h

  -- a core that tells what is left
  told : (stars : List Star) (parts : List Part) → stars_with_nodes at stars s ≡ Gives list m → Tells (scope_of_core which at core) false inner m n
      → Tells (Whole stars parts) false inner s r
  told stars parts h t = record {
    follows = λ b. absurd (true≢false (sym b));
    nothing = λ b. absurd (true≢false (sym b));
    leaves = λ b outer. ap level_given (behind_stars stars parts h outer) ∙ t.leaves refl (Written stars parts outer);
  }

  -- parts or stars around a bare core
  around : (stars : List Star) (parts : List Part) → ((outer : Option Parameters) → parts ≡ [] → unless_pointer stars outer ≡ None)
      → stars_with_nodes at stars s ≡ Gives list m → Tells (scope_of_core which at core) true inner m n → AreLeaving parts level n → Tells (Whole stars parts) false level s r
  around stars parts none h t a = record {
    follows = λ b. absurd (true≢false (sym b));
    nothing = λ b. absurd (true≢false (sym b));
    leaves = λ b outer.
        ap level_given (behind_stars stars parts h outer ∙ t.follows refl (Written stars parts outer)) ∙ a (unless_pointer stars outer) (none outer);
  }

  -- nothing around a bare core
  alone : stars_with_nodes at [] s ≡ Gives list m → Tells (scope_of_core which at core) true inner m n → AreLeaving [] level n
      → judge_parts at tree.NoPart n ≡ Gives made r → Tells (Whole [] []) true level s r
  unfolding judge_parts scope_of_list
  alone h t a p = record {
    follows = λ b outer. behind_stars [] [] h outer ∙ t.follows refl outer ∙ ap (scope_of_list outer) (gives-state typed.NoPart made n r p);
    nothing = λ b. sym (a None (λ e. refl));
    leaves = λ b. absurd (true≢false b);
  }

  pub declarator-tells : (stars : List Star) (parts : List Part) (bare : Bool) → stars_with_nodes at stars s ≡ Gives list m
      → Tells (scope_of_core which at core) bare inner m n → AreLeaving parts level n → judge_parts at (added tree.NoPart (map part_view parts)) n ≡ Gives made r
      → Tells (Whole stars parts) (bare && is_bare stars parts) (if bare then level else inner) s r
  declarator-tells stars parts false h t a p = told stars parts h t
  declarator-tells [] [] true h t a p = alone h t a p
  declarator-tells [] (first ∷ rest) true h t a p =
      around [] (first ∷ rest) (λ outer e. absurd (true≢false (sym (ap (λ (ps : List Part). is_bare [] ps) e)))) h t a
  declarator-tells (star ∷ stars) parts true h t a p = around (star ∷ stars) parts (λ outer e. refl) h t a

-- a declarator of the code
pub definition-tells : (which : Naming) (at : Place) (d : Declarator) (list : List TypedStar) (made : TypedParts) (inner level given : Level) (bare stays : Bool) (s m n r : State)
    → stays ≡ (bare && is_bare (out-Declarator d).stars (out-Declarator d).parts) → given ≡ (if bare then level else inner)
    → stars_with_nodes at (out-Declarator d).stars s ≡ Gives list m → Tells (scope_of_core which at (core_view (out-Declarator d).core)) bare inner m n
    → AreLeaving (out-Declarator d).parts level n → judge_parts at (added tree.NoPart (map part_view (out-Declarator d).parts)) n ≡ Gives made r
    → Tells (scope_of_declarator which at (declarator_view d)) stays given s r
definition-tells which at d list made inner level given bare stays s m n r b l h t a p =
    let o = out-Declarator d in
    let stars = o.stars in
    let parts = o.parts in
    let core = core_view o.core in
    let tells = declarator-tells which at core list made inner level s m n r stars parts bare h t a p in
    subst (λ (v : tree.Declarator). Tells (scope_of_declarator which at v) stays given s r) (sym (declarator_seen d))
    (subst (λ (k : Bool). Tells (scope_of_declarator which at (tree.Declares stars core (added tree.NoPart (map part_view parts)))) k given s r) (sym b)
    (subst (λ (k : Level). Tells (scope_of_declarator which at (tree.Declares stars core (added tree.NoPart (map part_view parts)))) (bare && is_bare stars parts) k s r) (sym l)
    tells))

-- A declarator behind specifiers

specified : (base : Specifiers) → (out-TypedSpecifiers base).ty ≡ specified_type (typed_specifiers_view base)
specified base =
    sym (ap (λ (b : Specifiers). specified_type (typed_specifiers_view b)) (sym (roll-out-TypedSpecifiers base))
    ∙ ap specified_type (seen-TypedSpecifiers (out-TypedSpecifiers base).list (out-TypedSpecifiers base).ty))

module _ (naming which : Naming) (at : Place) (base : Specifiers) (d : tree.Declarator) (s r : State)
    (named : which ≡ unless_function (is_function_by (derived_by d NotDerived) (shape_at s.table (out-TypedSpecifiers base).ty)) naming)
    (placed : at ≡ name_place (declarator_name d) nowhere) where
  pub definition-judged : (form : TypedForm) → judge_form which at d s ≡ Gives form r
      → judge_declarator naming (typed_specifiers_view base) None d s
      ≡ next (form_makes at (outermost_of None) form (out-TypedSpecifiers base).ty r) (λ t. pure (typed.Declares form t))
  unfolding judge_declarator_at
  definition-judged form judged =
      ap (λ b. judge_declarator_at (name_place (declarator_name d) nowhere) naming b None d s) (sym (specified base))
      ∙ ap (λ a. judge_declarator_at a naming (out-TypedSpecifiers base).ty None d s) (sym placed)
      ∙ ap (λ n. next (judge_form n at d s) (λ f. λ t. next (form_makes at (outermost_of None) f (out-TypedSpecifiers base).ty t) (λ u. pure (typed.Declares f u)))) (sym named)
      ∙ ap (λ o. next o (λ f. λ t. next (form_makes at (outermost_of None) f (out-TypedSpecifiers base).ty t) (λ u. pure (typed.Declares f u)))) judged

  pub definition-stops : (form : TypedForm) (fault : Fault) (t : State) → judge_form which at d s ≡ Gives form r
      → (fault ≢ NoMemory → next (form_makes at (outermost_of None) form (out-TypedSpecifiers base).ty r) (λ u. pure (typed.Declares form u)) ≡ Stops fault t)
      → fault ≢ NoMemory → judge_declarator naming (typed_specifiers_view base) None d s ≡ Stops fault t
  definition-stops form fault t judged stopped real = definition-judged form judged ∙ stopped real

  pub definition-level : (bare : Bool) (level : Level) → Tells (scope_of_declarator which at d) bare level s r
      → level_of naming (specified_type (typed_specifiers_view base)) d s ≡ level
  definition-level bare level tells =
      ap (λ b. level_of naming b d s) (sym (specified base))
      ∙ ap (λ a. level_given (scope_of_declarator (unless_function (is_function_by (derived_by d NotDerived) (shape_at s.table (out-TypedSpecifiers base).ty)) naming) a d None s)) (sym placed)
      ∙ ap (λ n. level_given (scope_of_declarator n at d None s)) (sym named)
      ∙ tells-none (scope_of_declarator which at d) bare level s r tells

pub ruleset leaving = (tells-none, nested-tells, no-part-leaves, parts-leave)

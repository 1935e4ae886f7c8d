-- Lists of specifiers, alone too, and whole declarators are given.
use Rattle.std.proofs.Common.{◌≡◌, ◌≤◌, ◌+◌, ℕ, Bool, true, false, not, List, [], ◌++◌, length, Option, Some, None, if◌then◌else◌, refl, ap, sym, subst, ◌∙◌, arith}
use Rattle.cc_base.specs.declared.fault.Rule.TheVariants as rule
use Rattle.cc_base.specs.declared.place.Place.{Place}
use Rattle.cc_base.specs.declared.number.TypeId.{TypeId}
use Rattle.c_types.specs.declared.shape.TypeShape.TheVariants.{Function}
use Rattle.c_types.specs.Table.{Table, HasShape, IsType, shape_at}
use Rattle.c_tree.specs.declared.leaf.Identifier.{Identifier}
use Rattle.c_tree.specs.declared.operator.AggregateKind.{AggregateKind}
use Rattle.c_tree.specs.Erasure.{erased_specifiers, erased_specifier_list}
use Rattle.c_tree.specs.Tree as tree
use Rattle.c_tree.specs.TypedTree as typed
use Rattle.c_tree.specs.TypedTree.{TypedForm, TypedCore, TypedParts, TypedSpecifiers, TypedSpecifierList, TypedSpecifier, TypedDeclarator}
use Rattle.c_tree.specs.TypedParts.{made_by_form, made_by_specifiers, made_by_specifier_list, home_of_form, name_of_form}
use Rattle.c_typing.specs.declared.declared.Tag.{Tag}
use Rattle.c_typing.specs.declared.declared.Tag.TheVariants as tag
use Rattle.c_typing.specs.declared.naming.Naming.{Naming}
use Rattle.c_typing.specs.Adjusting.{NotDerived, derived_by}
use Rattle.c_typing.specs.Declarators.{Written, Counts, FormMakes, counted, named_by_list, nearest, is_pointed, is_derived_core}
use Rattle.c_typing.specs.Declaring.{is_function_by, unless_function, form_makes}
use Rattle.c_typing.specs.Judging.{State, Gives, next, ◌>>=◌, by_known, pure}
use Rattle.c_typing.specs.Scopes.{Scopes, tag_here}
use Rattle.c_typing.specs.Settled.{IsBasic}
use Rattle.c_typing.specs.Shapes.{is_function_shape}
use Rattle.c_typing.specs.Specifying.{specified, listed_type, tagged_as, tagged_by, tagged_alone}
use Rattle.c_typing.specs.Tests.{first_broken, alone_tests, is_other_tag, is_tag_of}
use Rattle.c_typing.specs.Typing.{IsTagged, AreSpecifiers, AreAlone}
use Rattle.c_typing.specs.Walks.{judge_list, judge_alone_list, judge_form, judge_specifiers, judge_specifiers_of, judge_declarator_at, outermost_of}
use Rattle.c_typing_laws.specs.Judged.{IsHomeOf}
use Rattle.c_typing_laws.proofs.ExtensionLaws.{still_in, no_true}
use Rattle.c_typing_laws.proofs.FunctionNames.{form_tells}
use Rattle.c_typing_laws.proofs.JudgedForms.{form-made}
use Rattle.c_typing_laws.proofs.JudgedLists.{list-typed}
use Rattle.c_typing_laws.proofs.JudgedSpecifiers.{tagged_as-judged}
use Rattle.c_typing_laws.proofs.JudgedTrees.{specifiers-judged}
use Rattle.c_typing_laws.proofs.KeptTrees.{specifiers-kept}
use Rattle.c_typing_laws.proofs.KnownScopes.{tag_here-there}
use Rattle.c_typing_unique.specs.Points.{Point, IsReadAs}
use Rattle.c_typing_unique.specs.Sameness.{HasOwnFunctions}
use Rattle.c_typing_unique.proofs.DeclaratorSteps.{no_type, IsFormRead}
use Rattle.c_typing_unique.proofs.FormLaws.{of-type-one}
use Rattle.c_typing_unique.proofs.Reading.{point-same}
use Rattle.c_typing_exact.proofs.SameParts.{distinct}
use Rattle.c_typing_exact.proofs.Unbroken.{passes_one}
use Rattle.c_unit_typing.specs.Holding.{specifiers_holds, declarator_holds}
use Rattle.c_type_order.specs.TypesUsed.{IsUse, made_in, form_steps, core_steps, parts_steps, function_steps, AreUses, types_of, used_by_form, used_by_specifiers, used_by_specifier_list}
use Rattle.c_typing_given.specs.Given.{point_at, IsHere, IsReached, IsGivenAs}
use Rattle.c_typing_given.specs.Spending.{HasRoom}
use Rattle.c_typing_given.proofs.AggregatesGiven.{old-use}
use Rattle.c_typing_given.proofs.CallsGiven.{reached-none}
use Rattle.c_typing_given.proofs.Constructing.{uses-at}
use Rattle.c_typing_given.proofs.FormsGiven.{IsFormGiven}
use Rattle.c_typing_given.proofs.MakesGiven as making
use Rattle.c_typing_given.proofs.SpecifiersGiven.{AreListGiven, own-tag, tagged-found, tagged-new}
use Rattle.c_typing_given.proofs.Steps.{then-is, obeying-is}
use Rattle.c_typing_given.proofs.TagsGiven.{aggregate-given}
use Rattle.c_typing_given.proofs.TypeNamesGiven.{declared-room, declared-spent, reached-make}
use Rattle.c_typing_given.proofs.ValuesGiven.{uses-first, use-one}

-- What judging is made of

judges_list : (xs : tree.Specifiers) (list : TypedSpecifierList) (s r : State) → judge_list xs s ≡ Gives list r → judge_specifiers_of false xs s ≡ Gives (specified list) r
unfolding judge_specifiers_of judge_specifiers
judges_list xs list s r h = then-is (judge_list xs) (λ l. pure (specified l)) list s r (Gives (specified list) r) h refl

judges_alone : (xs : tree.Specifiers) (list : TypedSpecifierList) (s r : State) → judge_alone_list xs s ≡ Gives list r → judge_specifiers_of true xs s ≡ Gives (specified list) r
unfolding judge_specifiers_of
judges_alone xs list s r h = then-is (judge_alone_list xs) (λ l. pure (specified l)) list s r (Gives (specified list) r) h refl

abbrev tag_alone : AggregateKind → Place → Identifier → tree.Specifiers
tag_alone which at name = tree.AndSpecifier tree.NoSpecifier (tree.Tagged which at name)

judges_tag_alone : (which : AggregateKind) (at : Place) (name : Identifier) (t : TypeId) (s r : State)
    → first_broken (alone_tests s.seen.scopes (is_tag_of which) name.bytes name.place) ≡ None → tagged_as which name (tag_here s.seen.scopes.levels name.bytes) s ≡ Gives t r
    → judge_alone_list (tree.AndSpecifier tree.NoSpecifier (tree.Tagged which at name)) s
    ≡ Gives (typed.AndSpecifier typed.NoSpecifier (typed.Tagged which at name t)) r
unfolding tagged_alone tagged_by
judges_tag_alone which at name t s r pass h =
    then-is (tagged_alone which at name) (λ one. pure (typed.AndSpecifier typed.NoSpecifier one)) (typed.Tagged which at name t) s r
    (Gives (typed.AndSpecifier typed.NoSpecifier (typed.Tagged which at name t)) r)
    (obeying-is (λ (q : State). alone_tests q.seen.scopes (is_tag_of which) name.bytes name.place)
    (λ (q : State). next (tagged_as which name (tag_here q.seen.scopes.levels name.bytes) q) (λ u. pure (typed.Tagged which at name u))) s (Gives (typed.Tagged which at name t) r) pass
    (then-is (λ (q : State). tagged_as which name (tag_here q.seen.scopes.levels name.bytes) q) (λ u. pure (typed.Tagged which at name u)) t s r (Gives (typed.Tagged which at name t) r) h refl))
    refl

judges_declarator : (at : Place) (which : Naming) (base : TypeId) (size : Option ℕ) (d : tree.Declarator) (form : TypedForm) (t : TypeId) (s k r : State)
    → judge_form (unless_function (is_function_by (derived_by d NotDerived) (shape_at s.table base)) which) at d s ≡ Gives form k
    → form_makes at (outermost_of size) form base k ≡ Gives t r → judge_declarator_at at which base size d s ≡ Gives (typed.Declares form t) r
unfolding judge_declarator_at
judges_declarator at which base size d form t s k r h g =
    then-is (by_known (λ (q : State). judge_form (unless_function (is_function_by (derived_by d NotDerived) (shape_at q.table base)) which) at d))
    (λ x. form_makes at (outermost_of size) x base >>= (λ u. pure (typed.Declares x u))) form s k (Gives (typed.Declares form t) r) h
    (then-is (form_makes at (outermost_of size) form base) (λ u. pure (typed.Declares form u)) t k r (Gives (typed.Declares form t) r) g refl)

-- A size that an initialiser gives makes no more types than one that is written

unpointed : (size : Option ℕ) → is_pointed (outermost_of size) ≡ false
unpointed None = refl
unpointed (Some count) = refl

last_counted : (n : ℕ) (all : TypedParts) → function_steps (nearest all (Counts n)) ≡ function_steps (nearest all Written)
last_counted n typed.NoPart = refl
last_counted n (typed.AndArray all at words) = refl
last_counted n (typed.AndSizedArray all at words e size) = refl
last_counted n (typed.AndFunction all at parameters) = refl

parts_counted : (n : ℕ) (parts : TypedParts) → parts_steps (Counts n) parts ≡ parts_steps Written parts
parts_counted n typed.NoPart = refl
parts_counted n (typed.AndArray all at words) = ap (λ (m : ℕ). m + 1) (parts_counted n all)
parts_counted n (typed.AndSizedArray all at words e size) = ap (λ (m : ℕ). m + 1) (parts_counted n all)
parts_counted n (typed.AndFunction all at parameters) = (λ i. parts_counted n all i + last_counted n all i)

outside_counted : (n : ℕ) (parts : TypedParts) (b : Bool) → parts_steps (if b then Written else Counts n) parts ≡ parts_steps (if b then Written else Written) parts
outside_counted n parts true = refl
outside_counted n parts false = parts_counted n parts

mutual
  form_counted : (n : ℕ) (form : TypedForm) → form_steps (Counts n) form ≡ form_steps Written form
  form_counted n (typed.Form stars core parts) = (λ i. core_counted n core i + (outside_counted n parts (is_derived_core core) i + length stars))

  core_counted : (n : ℕ) (core : TypedCore) → core_steps (Counts n) core ≡ core_steps Written core
  core_counted n (typed.Names name home) = refl
  core_counted n typed.Unnamed = refl
  core_counted n (typed.Nested at form) = form_counted n form

steps_given : (size : Option ℕ) (form : TypedForm) → form_steps (outermost_of size) form ≡ form_steps Written form
steps_given None form = refl
steps_given (Some n) form = form_counted n form

-- Lists that stand alone

abbrev is_tag_alone : TypedSpecifierList → Bool
is_tag_alone (typed.AndSpecifier typed.NoSpecifier (typed.Tagged which at name t)) = true
is_tag_alone list = false

alone_list : (list : TypedSpecifierList) → is_tag_alone list ≡ false → (s : State) → judge_alone_list (erased_specifier_list list) s ≡ judge_list (erased_specifier_list list) s
alone_list typed.NoSpecifier h s = refl
alone_list (typed.AndSpecifier (typed.AndSpecifier all one) specifier) h s = refl
alone_list (typed.AndSpecifier typed.NoSpecifier (typed.Tagged which at name t)) h s = no_true (sym h)
alone_list (typed.AndSpecifier typed.NoSpecifier specifier) h s = refl

alone_typed : (T : Table) (list : TypedSpecifierList) (u : TypeId) (c c' : Scopes) → is_tag_alone list ≡ false → AreAlone T (typed.Specified list u) c c'
    → AreSpecifiers T (typed.Specified list u) c c'
alone_typed T typed.NoSpecifier u c c' n h = h
alone_typed T (typed.AndSpecifier (typed.AndSpecifier all one) specifier) u c c' n h = h
alone_typed T (typed.AndSpecifier typed.NoSpecifier (typed.Tagged which at name t)) u c c' n h = no_true (sym n)
alone_typed T (typed.AndSpecifier typed.NoSpecifier specifier) u c c' n h = h

module _ (T : Table) (basic : IsBasic T) where
  pub specifiers-given : (xs : tree.Specifiers) → AreListGiven T basic xs → (list : TypedSpecifierList) (u : TypeId) (s : State) (b : Point) (count : ℕ) → IsHere T s
      → IsReadAs erased_specifiers made_by_specifiers (AreSpecifiers T) xs (typed.Specified list u) (point_at s) b
      → AreUses (used_by_specifier_list T list) (length s.table) count → HasRoom T (made_by_specifier_list list) s → specifiers_holds xs ≤ 256
      → (g : IsGivenAs T (made_by_specifier_list list) (judge_list xs s) list s b count) × (specified list ≡ typed.Specified list u)
  specifiers-given xs gl list u s b count here read uses room holds =
      let g = gl list s b count here (read.0, read.1.0, read.2) read.1.1.allowed uses room holds in
      let whole = list-typed xs list s g.after (specifiers-judged xs list s g.after here.known g.gives) in
      let over = specifiers-kept g.after.table T g.reached.way.first g.reached.here.known.basic (specified list) s.seen.scopes g.after.seen.scopes whole.0 in
      (g, ap (typed.Specified list) (of-type-one T (distinct T basic) list list (listed_type (named_by_list list) (counted list)) u refl over.1 read.1.1))

  pub listed-given : (xs : tree.Specifiers) → AreListGiven T basic xs → (x : TypedSpecifiers) (s : State) (b : Point) (count : ℕ) → IsHere T s
      → IsReadAs erased_specifiers made_by_specifiers (AreSpecifiers T) xs x (point_at s) b
      → AreUses (used_by_specifiers T x) (length s.table) count → HasRoom T (made_by_specifiers x) s → specifiers_holds xs ≤ 256
      → IsGivenAs T (made_by_specifiers x) (judge_specifiers_of false xs s) x s b count
  listed-given xs gl (typed.Specified list u) s b count here read uses room holds =
      let g = specifiers-given xs gl list u s b count here read uses room holds in
      record {
        after = g.0.after;
        gives = judges_list xs list s g.0.after g.0.gives ∙ ap (λ (x : TypedSpecifiers). Gives x g.0.after) g.1;
        reached = g.0.reached;
      }

  -- a tag alone, by what it stands for in the innermost scope
  tag_given : (which : AggregateKind) (at : Place) (name : Identifier) (t : TypeId) (s : State) (c : Scopes) (count : ℕ) → IsHere T s
      → IsTagged T (tag_here s.seen.scopes.levels name.bytes) which name t s.seen.scopes c → IsUse t (length s.table) count
      → IsGivenAs T [] (judge_alone_list (tree.AndSpecifier tree.NoSpecifier (tree.Tagged which at name)) s)
      (typed.AndSpecifier typed.NoSpecifier (typed.Tagged which at name t)) s (record { scopes = c; node = s.seen.node }) count
  tag_given which at name t s c count here tagged used = by (tag_here s.seen.scopes.levels name.bytes) refl tagged
    where
      by : (found : Option Tag) → tag_here s.seen.scopes.levels name.bytes ≡ found → IsTagged T found which name t s.seen.scopes c
          → IsGivenAs T [] (judge_alone_list (tree.AndSpecifier tree.NoSpecifier (tree.Tagged which at name)) s)
          (typed.AndSpecifier typed.NoSpecifier (typed.Tagged which at name t)) s (record { scopes = c; node = s.seen.node }) count
      by (Some found) q h =
          let own : tag_here s.seen.scopes.levels name.bytes ≡ Some (tag.Aggregate which t) = q ∙ ap Some h.0 in
          let there : IsType s.table t = (tag_here-there s.table s.seen.scopes.levels here.known.levels name.bytes (tag.Aggregate which t) own).1.0 in
          let pass = passes_one rule.Redeclared name.place (is_other_tag (is_tag_of which) (tag_here s.seen.scopes.levels name.bytes))
          (ap (is_other_tag (is_tag_of which)) own ∙ ap not (own-tag which t)) in
          record {
            after = s;
            gives = judges_tag_alone which at name t s s pass (ap (λ (o : Option Tag). tagged_as which name o s) own ∙ tagged-found which name t s);
            reached = reached-none T basic s (record { scopes = c; node = s.seen.node }) count here (point-same (record { scopes = c; node = s.seen.node }) (point_at s) h.1 refl)
                (old-use t (length s.table) count used there);
          }
      by None q h =
          let g = aggregate-given T basic which name.place (Some name) t s count here h.shape used in
          let given : tagged_as which name (tag_here s.seen.scopes.levels name.bytes) s ≡ Gives t g.after =
          ap (λ (o : Option Tag). tagged_as which name o s) q ∙ tagged-new which name s ∙ g.gives in
          let fits : is_other_tag (is_tag_of which) (tag_here s.seen.scopes.levels name.bytes) ≡ false = ap (is_other_tag (is_tag_of which)) q in
          let law =
          tagged_as-judged which name t s g.after (tag_here s.seen.scopes.levels name.bytes) here.known
          (λ what e. tag_here-there s.table s.seen.scopes.levels here.known.levels name.bytes what e) fits given in
          let nodes = g.spent.nodes in
          record {
            after = g.after;
            gives = judges_tag_alone which at name t s g.after
                (passes_one rule.Redeclared name.place (is_other_tag (is_tag_of which) (tag_here s.seen.scopes.levels name.bytes)) fits) given;
            reached = record {
              here = record { known = law.2.known; first = g.first; small = g.small; own = subst HasOwnFunctions (sym g.scopes) here.own };
              grown = law.2.extends;
              point = point-same (point_at g.after) (record { scopes = c; node = s.seen.node }) (g.scopes ∙ sym h.after) (omega (arith, nodes));
              way = record { first = g.first; small = g.small; types = g.types; spent = g.spent };
            };
          }

  pub alone-given : (xs : tree.Specifiers) → AreListGiven T basic xs → (x : TypedSpecifiers) (s : State) (b : Point) (count : ℕ) → IsHere T s
      → IsReadAs erased_specifiers made_by_specifiers (AreAlone T) xs x (point_at s) b
      → AreUses (used_by_specifiers T x) (length s.table) count → HasRoom T (made_by_specifiers x) s → specifiers_holds xs ≤ 256
      → IsGivenAs T (made_by_specifiers x) (judge_specifiers_of true xs s) x s b count
  alone-given xs gl (typed.Specified list u) s b count here read uses room holds = by list (is_tag_alone list) refl read uses room
    where
      by : (list : TypedSpecifierList) (alone : Bool) → is_tag_alone list ≡ alone
          → IsReadAs erased_specifiers made_by_specifiers (AreAlone T) xs (typed.Specified list u) (point_at s) b
          → AreUses (used_by_specifier_list T list) (length s.table) count → HasRoom T (made_by_specifier_list list) s
          → IsGivenAs T (made_by_specifier_list list) (judge_specifiers_of true xs s) (typed.Specified list u) s b count
      by list false q read uses room =
          let typed_list = alone_typed T list u s.seen.scopes b.scopes q read.1 in
          let g = specifiers-given xs gl list u s b count here (read.0, typed_list, read.2) uses room holds in
          let same : judge_alone_list xs s ≡ judge_list xs s =
          subst (λ (ys : tree.Specifiers). judge_alone_list ys s ≡ judge_list ys s) read.0 (alone_list list q s) in
          record {
            after = g.0.after;
            gives = judges_alone xs list s g.0.after (same ∙ g.0.gives) ∙ ap (λ (x : TypedSpecifiers). Gives x g.0.after) g.1;
            reached = g.0.reached;
          }
      by (typed.AndSpecifier typed.NoSpecifier (typed.Tagged which at name t)) true q read uses room =
          let g = tag_given which at name t s b.scopes count here read.1.0 (use-one t (length s.table) count uses) in
          let end : Point = record { scopes = b.scopes; node = s.seen.node } in
          record {
            after = g.after;
            gives =
                subst (λ (ys : tree.Specifiers). judge_specifiers_of true ys s ≡ Gives (specified (typed.AndSpecifier typed.NoSpecifier (typed.Tagged which at name t))) g.after) read.0
                (judges_alone (tree.AndSpecifier tree.NoSpecifier (tree.Tagged which at name)) (typed.AndSpecifier typed.NoSpecifier (typed.Tagged which at name t)) s g.after g.gives)
                ∙ ap (λ (v : TypeId). Gives (typed.Specified (typed.AndSpecifier typed.NoSpecifier (typed.Tagged which at name t)) v) g.after) (sym read.1.1);
            reached = subst (λ (p : Point). IsReached T [] s g.after p count) (point-same (record { scopes = b.scopes; node = s.seen.node }) b refl (sym read.2)) g.reached;
          }
      by typed.NoSpecifier true q read uses room = no_true q
      by (typed.AndSpecifier (typed.AndSpecifier all one) specifier) true q read uses room = no_true q
      by (typed.AndSpecifier typed.NoSpecifier specifier) true q read uses room = no_true q

  module _ (few : (t : TypeId) (parameters : List TypeId) (result : TypeId) → HasShape T t (Function parameters result) → length parameters ≤ 127) where
    -- a declarator whose name is to be `which`, unless it is that of a function
    pub declarator-given : (at : Place) (which : Naming) (base : TypeId) (size : Option ℕ) (d : tree.Declarator) → IsFormGiven T basic d → (form : TypedForm) (t : TypeId) (s : State)
        (b : Point) (count : ℕ) → IsHere T s → IsType s.table base → IsFormRead T d form (point_at s) b → FormMakes T b.scopes form (outermost_of size) base t
        → IsHomeOf (unless_function (is_function_shape (shape_at T t)) which) (name_of_form form) (home_of_form form)
        → AreUses (used_by_form T form ++ types_of (made_in T (form_steps Written form) t)) (length s.table) count → HasRoom T (made_by_form form t) s → declarator_holds d ≤ 256
        → IsGivenAs T (made_by_form form t) (judge_declarator_at at which base size d s) (typed.Declares form t) s b count
    declarator-given at which base size d gd form t s b count here there read makes home uses room holds =
        let us = uses-first (used_by_form T form) (types_of (made_in T (form_steps Written form) t)) (length s.table) count uses in
        let told : is_function_by (derived_by d NotDerived) (shape_at s.table base) ≡ is_function_shape (shape_at T t) =
        (λ i. is_function_by (derived_by (sym read.0 i) NotDerived) (sym (here.first.shapes base there) i))
        ∙ form_tells T b.scopes (shape_at T base) form (outermost_of size) base t NotDerived (unpointed size) makes refl in
        let home_here : IsHomeOf (unless_function (is_function_by (derived_by d NotDerived) (shape_at s.table base)) which) (name_of_form form) (home_of_form form) =
        subst (λ (f : Bool). IsHomeOf (unless_function f which) (name_of_form form) (home_of_form form)) (sym told) home in
        let f =
        gd (unless_function (is_function_by (derived_by d NotDerived) (shape_at s.table base)) which) at form s b us.0 here read home_here us.1
        (declared-room T (typed.DeclaredBy form) t no_type s room) holds in
        let there_f : IsType f.after.table base = still_in s.table f.after.table f.reached.grown base there in
        let made =
        making.form-given T basic few at (outermost_of size) form base t f.after count f.reached.here.known f.reached.way.first there_f
        (subst (λ (c : Scopes). FormMakes T c form (outermost_of size) base t) (sym (ap (λ (p : Point). p.scopes) f.reached.point)) makes)
        (subst (λ (n : ℕ). AreUses (types_of (made_in T n t)) (length f.after.table) count) (sym (steps_given size form))
        (uses-at T basic (types_of (made_in T (form_steps Written form) t)) (made_by_form form no_type) s f.after b us.0 count f.reached us.2)) in
        let law = form-made at (outermost_of size) form base t f.after made.after f.reached.here.known there_f made.gives in
        let first : IsReached T (made_by_form form t) s f.after b us.0 = record {
          here = f.reached.here;
          grown = f.reached.grown;
          point = f.reached.point;
          way = record {
            first = f.reached.way.first;
            small = f.reached.way.small;
            types = f.reached.way.types;
            spent = declared-spent T (typed.DeclaredBy form) no_type t s f.after f.reached.way.spent;
          };
        } in
        record {
          after = made.after;
          gives = judges_declarator at which base size d form t s f.after made.after f.gives made.gives;
          reached = reached-make T basic few (made_by_form form t) s f.after b us.0 count (form_makes at (outermost_of size) form base f.after) t first made law.goes.goes.extends;
        }

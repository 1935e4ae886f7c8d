-- What judging refuses of what declarators, members and parameters make: the first rule that is broken, from the specifiers outwards to the name.
use Rattle.std.proofs.Common.{◌≡◌, ℕ, Bool, true, false, List, [], ◌∷◌, length, Option, Some, None, refl, ap, sym, subst, ◌∙◌, inl, inr, nat_lt, if◌then◌else◌}
use Rattle.std.proofs.lemmas.Option.{none-some}
use Rattle.cc_base.specs.declared.place.Place.{Place}
use Rattle.cc_base.specs.declared.number.NodeId.{NodeId}
use Rattle.cc_base.specs.declared.number.TypeId.{TypeId}
use Rattle.cc_base.specs.declared.fault.Fault.{Fault}
use Rattle.cc_base.specs.declared.fault.Fault.TheVariants.{Refused, TooLarge}
use Rattle.cc_base.specs.declared.fault.Limit.TheVariants.{Types, Params}
use Rattle.cc_base.specs.declared.fault.Rule.{Rule}
use Rattle.cc_base.specs.declared.fault.Rule.TheVariants as rule
use Rattle.c_types.specs.declared.shape.TypeShape.{TypeShape}
use Rattle.c_types.specs.declared.shape.TypeShape.TheVariants.{Void, Integer, Pointer, Array, Function, Struct, Union}
use Rattle.c_types.specs.Table.{Table, IsType, shape_at}
use Rattle.c_tree.specs.declared.leaf.Identifier.{Identifier}
use Rattle.c_tree.specs.declared.leaf.Word.{Word}
use Rattle.c_tree.specs.declared.typed_word.Adjusted.{Adjusted}
use Rattle.c_tree.specs.declared.typed_word.Home.{Home}
use Rattle.c_tree.specs.declared.typed_word.Home.TheVariants as home
use Rattle.c_tree.specs.declared.typed_word.TypedStar.{TypedStar}
use Rattle.c_tree.specs.Erasure.{erased_stars, erased_form, erased_core, erased_parts, erased_declared}
use Rattle.c_tree.specs.Places.{nowhere}
use Rattle.c_tree.specs.Tree as tree
use Rattle.c_tree.specs.TypedTree as typed
use Rattle.c_tree.specs.TypedTree.{TypedForm, TypedCore, TypedParts, TypedParameters, TypedDeclared, TypedMemberDeclarators, TypedSpecifierList}
use Rattle.c_tree.specs.TypedParts.{name_of_form, declared_home}
use Rattle.c_typing.specs.Adjusting.{Derived, NotDerived, ByStar, ByArray, ByFunction, by_stars, by_parts, derived_by, derived_by_core, derived_by_declared, typedef_place, adjusted_at, adjusted_place}
use Rattle.c_typing.specs.Declarators
use Rattle.c_typing.specs.Declarators.{Outermost, Written, Counts, Points, MakesArray, nearest, is_no_part, PartsMake, is_derived, is_derived_core, outside, FormMakes, is_derived_declared, taken_types}
use Rattle.c_typing.specs.Declaring.{stars_make, is_element, array_type, array_of, array_makes, counting_parameters, are_types, function_type, function_as, function_makes, last_makes, parts_make, form_makes, core_makes, declared_makes, member_type, member_named, adjusted_with_node, adjusted_shape, adjusted_makes, parameter_makes, parameter_declared, parameter}
use Rattle.c_typing.specs.Extensions.{IsExtended}
use Rattle.c_typing.specs.Judging.{State, Judging, Stops, next, ◌>>=◌, pure, stop, unless, new_node, type_with, pointer_type}
use Rattle.c_typing.specs.Refusals.{Fails, name_place, PartsFail, FormFails, CoreFails, DeclaredFails, has_name, MemberTypeFails, MemberFailsBy, MemberFails, declared_identifier, is_here, ParameterTypeFails, ParameterFailsBy, ParameterFails}
use Rattle.c_typing.specs.Scopes.{Name, Scopes}
use Rattle.c_typing.specs.Settled.{IsKnown}
use Rattle.c_typing.specs.Specifying.{obeying, specified}
use Rattle.c_typing.specs.Tests
use Rattle.c_typing.specs.Tests.{Test, has_some, first_broken}
use Rattle.c_typing.specs.Walks.{listed}
use Rattle.c_typing_laws.specs.Judged.{IsRefused}
use Rattle.c_typing_laws.proofs.ExtensionLaws.{no_true, still_in, extended_refl}
use Rattle.c_typing_laws.proofs.JudgedDeclarators.{adjusted-judged}
use Rattle.c_typing_laws.proofs.JudgedForms.{stars-made, array-made, function-made, parts-made, form-made}
use Rattle.c_typing_laws.proofs.KeptDeclarators.{array-kept, function-kept, parts-kept, stars-kept}
use Rattle.c_typing_laws.proofs.KnownStates.{type_with-never, pointer_type-never}
use Rattle.c_typing_laws.proofs.Outcomes.{bind-stops, unless-stops, never-stops, NeverRefuses, gives-never, large-never, next-never, new_node-never}
use Rattle.c_typing_laws.proofs.ParameterTypes.{core_derived, parameter-made}
use Rattle.c_typing_laws.proofs.TableGrowth.{extended_trans}

pub refused-here : (P : Table → Type 0) (s r : State) → r ≡ s → P s.table → IsRefused P s r
refused-here P s r same h = subst (IsRefused P s) (sym same) (record { fails = h; extends = extended_refl s.table })

pub refused-after : (P : Table → Type 0) (s m r : State) → IsExtended s.table m.table → IsRefused P m r → IsRefused P s r
refused-after P s m r x h = record { fails = h.fails; extends = extended_trans s.table m.table r.table x h.extends }

-- rules that are tried before what never refuses
pub obeying-refuses : {A : Type 0} (rules : State → List Test) (go : Judging A) (s : State) (p : Place) (t : Rule) (r : State) → NeverRefuses (go s)
    → obeying rules go s ≡ Stops (Refused p t) r → (first_broken (rules s) ≡ Some (Refused p t)) × (r ≡ s)
obeying-refuses rules go s p t r never h = elim (unless-stops (first_broken (rules s)) go s (Refused p t) r h) [ inl q ↦ q | inr q ↦ absurd (never p t r q.1) ]

pub one_broken : (b : Bool) (f g : Fault) → (if b then Some f else None) ≡ Some g → (b ≡ true) × (g ≡ f)
one_broken true f g h = (refl, sym (same h))
  where
    same : Some f ≡ Some g → f ≡ g
    same e = cc
one_broken false f g h = absurd (none-some g h)

-- Steps that never refuse

array_type-never : (at : Place) (element : TypeId) (count : ℕ) (s : State) → NeverRefuses (array_type at element count s)
unfolding array_type
array_type-never at element count s = by (is_element s.table element count)
  where
    by : (b : Bool) → NeverRefuses (if b then type_with at (Array element count) s else Stops (TooLarge at Types) s)
    by true = type_with-never at (Array element count) s
    by false = large-never TypeId at Types s

array_of-never : (at : Place) (o : Outermost) (count : Option ℕ) (element : TypeId) (s : State) → NeverRefuses (array_of at o count element s)
unfolding array_of
array_of-never at (Points n) count element s = pointer_type-never at n element s
array_of-never at Written (Some count) element s = array_type-never at element count s
array_of-never at (Counts given) (Some count) element s = array_type-never at element count s
array_of-never at (Counts given) None element s = array_type-never at element given s
array_of-never at Written None element s = large-never TypeId at Types s

counting-never : (at : Place) (parameters : List TypeId) (f : TypeId) (s : State) → NeverRefuses (counting_parameters at parameters f s)
unfolding counting_parameters
counting-never at parameters f s = by (nat_lt 127 (length parameters))
  where
    by : (b : Bool) → NeverRefuses ((if b then stop (TooLarge at Params) else pure f) s)
    by true = large-never TypeId at Params s
    by false = gives-never f s

function_type-never : (at : Place) (parameters : List TypeId) (result : TypeId) (s : State) → NeverRefuses (function_type at parameters result s)
unfolding function_type
function_type-never at parameters result s = by (are_types s.table (result ∷ parameters))
  where
    by : (b : Bool) → NeverRefuses (if b then (type_with at (Function parameters result) >>= counting_parameters at parameters) s else Stops (TooLarge at Types) s)
    by true = next-never (type_with at (Function parameters result) s) (counting_parameters at parameters) (type_with-never at (Function parameters result) s)
        (λ f q. counting-never at parameters f q)
    by false = large-never TypeId at Types s

function_as-never : (at : Place) (o : Outermost) (f : TypeId) (s : State) → NeverRefuses (function_as at o f s)
unfolding function_as
function_as-never at (Points n) f s = pointer_type-never at n f s
function_as-never at Written f s = gives-never f s
function_as-never at (Counts n) f s = gives-never f s

stars-never : (at : Place) (stars : List TypedStar) (base : TypeId) (s : State) → NeverRefuses (stars_make at stars base s)
unfolding stars_make
stars-never at [] base s = gives-never base s
stars-never at (star ∷ stars) base s =
    next-never (pointer_type at star.node base s) (λ u. stars_make at stars u) (pointer_type-never at star.node base s) (λ u q. stars-never at stars u q)

-- Declarators

module _ (p : Place) (t : Rule) where
  array-refused : (at : Place) (o : Outermost) (bracket : Place) (words : List Word) (count : Option ℕ) (element : TypeId) (s r : State)
      → array_makes at o bracket words count element s ≡ Stops (Refused p t) r
      → Fails (Tests.array_tests s.table s.seen.scopes o (has_some count) bracket words element at) (Refused p t) × (r ≡ s)
  unfolding array_makes
  array-refused at o bracket words count element s r h =
      obeying-refuses (λ q. Tests.array_tests q.table q.seen.scopes o (has_some count) bracket words element at) (array_of at o count element) s p t r
      (array_of-never at o count element s) h

  function-refused : (at : Place) (o : Outermost) (parameters : TypedParameters) (result : TypeId) (s r : State)
      → function_makes at o parameters result s ≡ Stops (Refused p t) r → Fails (Tests.function_tests s.table result at) (Refused p t) × (r ≡ s)
  unfolding function_makes
  function-refused at o parameters result s r h =
      obeying-refuses (λ q. Tests.function_tests q.table result at) (λ q. next (function_type at (taken_types parameters) result q) (λ f. function_as at o f)) s p t r
      (next-never (function_type at (taken_types parameters) result s) (λ f. function_as at o f) (function_type-never at (taken_types parameters) result s)
      (λ f q. function_as-never at o f q)) h

  pub parts-refused : (at : Place) (o : Outermost) (parts : TypedParts) (base : TypeId) (s r : State) → IsKnown s → IsType s.table base
      → parts_make at o parts base s ≡ Stops (Refused p t) r → IsRefused (λ T. PartsFail T s.seen.scopes parts o base at (Refused p t)) s r
  unfolding parts_make last_makes
  parts-refused at o typed.NoPart base s r k b h = never-stops base (Refused p t) s r h
  parts-refused at o (typed.AndArray all bracket words) base s r k b h =
      let P : Table → Type 0 = λ T. PartsFail T s.seen.scopes (typed.AndArray all bracket words) o base at (Refused p t) in
      elim (bind-stops (array_makes at (nearest all o) bracket words None base s) (parts_make at o all) (Refused p t) r h) [
        | inl q ↦ let c = array-refused at (nearest all o) bracket words None base s r q in refused-here P s r c.1 (inl c.0)
        | inr q ↦
            let first = array-made at (nearest all o) bracket words None base q.0 s q.1 k b q.2 in
            let rest = parts-refused at o all q.0 q.1 r first.goes.goes.known first.there q.3 in
            let made = subst (λ (c : Scopes). MakesArray q.1.table c (nearest all o) words None base q.0) first.goes.scopes first.makes in
            refused-after P s q.1 r first.goes.goes.extends (record {
              fails = inr (
                q.0,
                array-kept q.1.table r.table rest.extends first.goes.goes.known.basic s.seen.scopes (nearest all o) words None base q.0 made,
                subst (λ (c : Scopes). PartsFail r.table c all o q.0 at (Refused p t)) first.goes.scopes rest.fails,
              );
              extends = rest.extends;
            })
      ]
  parts-refused at o (typed.AndSizedArray all bracket words e size) base s r k b h =
      let P : Table → Type 0 = λ T. PartsFail T s.seen.scopes (typed.AndSizedArray all bracket words e size) o base at (Refused p t) in
      elim (bind-stops (array_makes at (nearest all o) bracket words (Some size) base s) (parts_make at o all) (Refused p t) r h) [
        | inl q ↦ let c = array-refused at (nearest all o) bracket words (Some size) base s r q in refused-here P s r c.1 (inl c.0)
        | inr q ↦
            let first = array-made at (nearest all o) bracket words (Some size) base q.0 s q.1 k b q.2 in
            let rest = parts-refused at o all q.0 q.1 r first.goes.goes.known first.there q.3 in
            let made = subst (λ (c : Scopes). MakesArray q.1.table c (nearest all o) words (Some size) base q.0) first.goes.scopes first.makes in
            refused-after P s q.1 r first.goes.goes.extends (record {
              fails = inr (
                q.0,
                array-kept q.1.table r.table rest.extends first.goes.goes.known.basic s.seen.scopes (nearest all o) words (Some size) base q.0 made,
                subst (λ (c : Scopes). PartsFail r.table c all o q.0 at (Refused p t)) first.goes.scopes rest.fails,
              );
              extends = rest.extends;
            })
      ]
  parts-refused at o (typed.AndFunction all paren parameters) base s r k b h =
      let P : Table → Type 0 = λ T. PartsFail T s.seen.scopes (typed.AndFunction all paren parameters) o base at (Refused p t) in
      elim (bind-stops (function_makes at (nearest all o) parameters base s) (parts_make at o all) (Refused p t) r h) [
        | inl q ↦ let c = function-refused at (nearest all o) parameters base s r q in refused-here P s r c.1 (inl c.0)
        | inr q ↦
            let first = function-made at (nearest all o) parameters base q.0 s q.1 k q.2 in
            let rest = parts-refused at o all q.0 q.1 r first.goes.goes.known first.there q.3 in
            refused-after P s q.1 r first.goes.goes.extends (record {
              fails = inr (
                q.0,
                function-kept q.1.table r.table rest.extends first.goes.goes.known.basic (nearest all o) parameters base q.0 first.makes,
                subst (λ (c : Scopes). PartsFail r.table c all o q.0 at (Refused p t)) first.goes.scopes rest.fails,
              );
              extends = rest.extends;
            })
      ]

  mutual
    unfolding form_makes core_makes

    pub form-refused : (at : Place) (o : Outermost) (form : TypedForm) (base : TypeId) (s r : State) → IsKnown s → IsType s.table base
        → form_makes at o form base s ≡ Stops (Refused p t) r → IsRefused (λ T. FormFails T s.seen.scopes form o base at (Refused p t)) s r
    form-refused at o (typed.Form stars core parts) base s r k b h =
        let P : Table → Type 0 = λ T. FormFails T s.seen.scopes (typed.Form stars core parts) o base at (Refused p t) in
        elim (bind-stops (stars_make at stars base s) (λ u. parts_make at (outside core o) parts u >>= (λ v. core_makes at o core v)) (Refused p t) r h) [
          | inl q ↦ absurd (stars-never at stars base s p t r q)
          | inr q ↦
              let first = stars-made at stars base q.0 s q.1 k b q.2 in
              let basic = first.goes.goes.known.basic in
              elim (bind-stops (parts_make at (outside core o) parts q.0 q.1) (λ v. core_makes at o core v) (Refused p t) r q.3) [
                | inl w ↦
                    let rest = parts-refused at (outside core o) parts q.0 q.1 r first.goes.goes.known first.there w in
                    refused-after P s q.1 r first.goes.goes.extends (record {
                      fails = (
                        q.0,
                        stars-kept q.1.table r.table rest.extends basic stars base q.0 first.makes,
                        inl (subst (λ (c : Scopes). PartsFail r.table c parts (outside core o) q.0 at (Refused p t)) first.goes.scopes rest.fails),
                      );
                      extends = rest.extends;
                    })
                | inr w ↦
                    let second = parts-made at (outside core o) parts q.0 w.0 q.1 w.1 first.goes.goes.known first.there w.2 in
                    let rest = core-refused at o core w.0 w.1 r second.goes.goes.known second.there w.3 in
                    let from_q = extended_trans q.1.table w.1.table r.table second.goes.goes.extends rest.extends in
                    let scopes : w.1.seen.scopes ≡ s.seen.scopes = second.goes.scopes ∙ first.goes.scopes in
                    let made = subst (λ (c : Scopes). PartsMake w.1.table c parts (outside core o) q.0 w.0) scopes second.makes in
                    refused-after P s q.1 r first.goes.goes.extends (record {
                      fails = (
                        q.0,
                        stars-kept q.1.table r.table from_q basic stars base q.0 first.makes,
                        inr (
                          w.0,
                          parts-kept w.1.table r.table rest.extends second.goes.goes.known.basic s.seen.scopes parts (outside core o) q.0 w.0 made,
                          subst (λ (c : Scopes). CoreFails r.table c core o w.0 at (Refused p t)) scopes rest.fails,
                        ),
                      );
                      extends = from_q;
                    })
              ]
        ]

    pub core-refused : (at : Place) (o : Outermost) (core : TypedCore) (base : TypeId) (s r : State) → IsKnown s → IsType s.table base
        → core_makes at o core base s ≡ Stops (Refused p t) r → IsRefused (λ T. CoreFails T s.seen.scopes core o base at (Refused p t)) s r
    core-refused at o (typed.Names name home) base s r k b h = never-stops base (Refused p t) s r h
    core-refused at o typed.Unnamed base s r k b h = never-stops base (Refused p t) s r h
    core-refused at o (typed.Nested paren form) base s r k b h =
        let j = form-refused at o form base s r k b h in record { fails = j.fails; extends = j.extends }

  -- its type is named at its name, or at the place given
  pub declared-refused : (at : Place) (o : Outermost) (d : TypedDeclared) (base : TypeId) (s r : State) → IsKnown s → IsType s.table base
      → declared_makes (name_place (declared_identifier d) at) o d base s ≡ Stops (Refused p t) r → IsRefused (λ T. DeclaredFails T s.seen.scopes d o base at (Refused p t)) s r
  unfolding declared_makes
  declared-refused at o typed.NotDeclared base s r k b h = never-stops base (Refused p t) s r h
  declared-refused at o (typed.DeclaredBy form) base s r k b h =
      let j = form-refused (name_place (name_of_form form) at) o form base s r k b h in record { fails = j.fails; extends = j.extends }

  -- Members

  member_type-refused : (at : Place) (form : TypedForm) (base : TypeId) (s r : State) → IsKnown s → IsType s.table base → member_type at form base s ≡ Stops (Refused p t) r
      → IsRefused (λ T. MemberTypeFails T s.seen.scopes form base at (Refused p t)) s r
  unfolding member_type
  member_type-refused at form base s r k b h =
      let P : Table → Type 0 = λ T. MemberTypeFails T s.seen.scopes form base at (Refused p t) in
      elim (bind-stops (form_makes at Written form base s) (λ u. λ q. unless (first_broken (Tests.member_type_tests q.table q.seen.scopes u at)) (pure u) q) (Refused p t) r h) [
        | inl q ↦ let j = form-refused at Written form base s r k b q in record { fails = inl j.fails; extends = j.extends }
        | inr q ↦
            let made = form-made at Written form base q.0 s q.1 k b q.2 in
            let c = obeying-refuses (λ m. Tests.member_type_tests m.table m.seen.scopes q.0 at) (pure q.0) q.1 p t r (gives-never q.0 q.1) q.3 in
            let here : P q.1.table = inr (
              q.0,
              subst (λ (d : Scopes). FormMakes q.1.table d form Written base q.0) made.goes.scopes made.makes,
              subst (λ (d : Scopes). Fails (Tests.member_type_tests q.1.table d q.0 at) (Refused p t)) made.goes.scopes c.0,
            ) in
            refused-after P s q.1 r made.goes.goes.extends (refused-here P q.1 r c.1 here)
      ]

  pub member-refused : (names : List Name) (all : TypedMemberDeclarators) (form : TypedForm) (base : TypeId) (o : Option Identifier) (s r : State) → IsKnown s
      → IsType s.table base → name_of_form form ≡ o → member_named names all form base o s ≡ Stops (Refused p t) r
      → IsRefused (λ T. MemberFails T s.seen.scopes names form base (Refused p t)) s r
  unfolding member_named
  member-refused names all form base None s r k b e h = absurd (large-never TypedMemberDeclarators nowhere Types s p t r h)
  member-refused names all form base (Some name) s r k b e h =
      let P : Table → Type 0 = λ T. MemberFails T s.seen.scopes names form base (Refused p t) in
      let Q : Table → Bool → Option Identifier → Type 0 = λ T c n. MemberFailsBy c T s.seen.scopes form base (name_place n nowhere) (Refused p t) in
      let finish : TypeId → Judging TypedMemberDeclarators = λ u. pure (typed.AndDeclarator all (typed.Declares form u)) in
      let named : (T : Table) → Q T (has_name names (Some name)) (Some name) → P T = λ T g. subst (λ (n : Option Identifier). Q T (has_name names n) n) (sym e) g in
      elim (unless-stops (first_broken (Tests.member_name_tests (has_name names (Some name)) name.place)) (λ q. next (member_type name.place form base q) finish) s (Refused p t) r h) [
        | inl q ↦
            let c = one_broken (has_name names (Some name)) (Refused name.place rule.Redeclared) (Refused p t) q.0 in
            refused-here P s r q.1 (named s.table (subst (λ (v : Bool). Q s.table v (Some name)) (sym c.0) c.1))
        | inr q ↦ elim (bind-stops (member_type name.place form base s) finish (Refused p t) r q.1) [
          | inl w ↦
              let j = member_type-refused name.place form base s r k b w in
              record { fails = named r.table (by_name r.table (has_name names (Some name)) q.0 j.fails); extends = j.extends }
          | inr w ↦ never-stops (typed.AndDeclarator all (typed.Declares form w.0)) (Refused p t) w.1 r w.3
        ]
      ]
    where
      by_name : (T : Table) (c : Bool) → first_broken (Tests.member_name_tests c name.place) ≡ None → MemberTypeFails T s.seen.scopes form base name.place (Refused p t)
          → MemberFailsBy c T s.seen.scopes form base name.place (Refused p t)
      by_name T true n g = absurd (none-some (Refused name.place rule.Redeclared) (sym n))
      by_name T false n g = g

-- Parameters: one that is not made a pointer has no array or function part, so that none fails

abbrev is_arrayed : Derived → Bool
is_arrayed (ByArray at) = true
is_arrayed (ByFunction at) = true
is_arrayed derived = false

not_arrayed : (d : Derived) (x : TypeShape) (named : Place) → None ≡ adjusted_at d x named → is_arrayed d ≡ false
not_arrayed NotDerived x named h = refl
not_arrayed ByStar x named h = refl
not_arrayed (ByArray at) x named h = absurd (none-some at h)
not_arrayed (ByFunction at) x named h = absurd (none-some at h)

stays_arrayed : (parts : TypedParts) (d : Derived) → is_arrayed d ≡ true → is_arrayed (by_parts (erased_parts parts) d) ≡ true
stays_arrayed typed.NoPart d h = h
stays_arrayed (typed.AndArray all at words) d h = stays_arrayed all (ByArray at) refl
stays_arrayed (typed.AndSizedArray all at words e size) d h = stays_arrayed all (ByArray at) refl
stays_arrayed (typed.AndFunction all at parameters) d h = stays_arrayed all (ByFunction at) refl

parts_arrayed : (parts : TypedParts) (d : Derived) → is_no_part parts ≡ false → is_arrayed (by_parts (erased_parts parts) d) ≡ true
parts_arrayed typed.NoPart d h = no_true (sym h)
parts_arrayed (typed.AndArray all at words) d h = stays_arrayed all (ByArray at) refl
parts_arrayed (typed.AndSizedArray all at words e size) d h = stays_arrayed all (ByArray at) refl
parts_arrayed (typed.AndFunction all at parameters) d h = stays_arrayed all (ByFunction at) refl

module _ (T : Table) (c : Scopes) (at : Place) (f : Fault) where
  mutual
    form_whole : (form : TypedForm) (o : Outermost) (base : TypeId) → is_derived form ≡ false → FormFails T c form o base at f → ⊥
    form_whole (typed.Form [] core typed.NoPart) o base u h = elim h.2 [ inl q ↦ q | inr q ↦ core_whole core o q.0 u q.2 ]
    form_whole (typed.Form [] core (typed.AndArray all b words)) o base u h = no_true (sym u)
    form_whole (typed.Form [] core (typed.AndSizedArray all b words e size)) o base u h = no_true (sym u)
    form_whole (typed.Form [] core (typed.AndFunction all b parameters)) o base u h = no_true (sym u)
    form_whole (typed.Form (star ∷ stars) core parts) o base u h = no_true (sym u)

    core_whole : (core : TypedCore) (o : Outermost) (base : TypeId) → is_derived_core core ≡ false → CoreFails T c core o base at f → ⊥
    core_whole (typed.Names name home) o base u h = h
    core_whole typed.Unnamed o base u h = h
    core_whole (typed.Nested b form) o base u h = form_whole form o base u h

  module _ (n : NodeId) where
    pointed_by : (stars : List TypedStar) (core : TypedCore) (parts : TypedParts) (base : TypeId) (outer : Derived)
        → is_arrayed (derived_by (erased_form (typed.Form stars core parts)) outer) ≡ false → FormFails T c (typed.Form stars core parts) Written base at f
        → (b : Bool) → is_derived_core core ≡ b
        → (is_derived_core core ≡ true → (w : Derived) (v : TypeId) → is_arrayed (derived_by_core (erased_core core) w) ≡ false → CoreFails T c core Written v at f
        → CoreFails T c core (Points n) v at f)
        → FormFails T c (typed.Form stars core parts) (Points n) base at f
    pointed_by stars core parts base outer u h true p inner = (
      h.0,
      h.1,
      elim h.2 [
        | inl q ↦ inl (subst (λ (o : Outermost). PartsFail T c parts o h.0 at f) same q)
        | inr q ↦ inr (
          q.0,
          subst (λ (o : Outermost). PartsMake T c parts o h.0 q.0) same q.1,
          inner p (by_parts (erased_parts parts) (by_stars (erased_stars stars) outer)) q.0 u q.2,
        )
      ],
    )
      where
        same : outside core Written ≡ outside core (Points n)
        same = ap (λ (d : Bool). if d then Written else Written) p ∙ sym (ap (λ (d : Bool). if d then Written else Points n) p)
    pointed_by stars core parts base outer u h false p inner = absurd (by parts refl u h)
      where
        some : (ps : TypedParts) → is_no_part ps ≡ false → is_arrayed (derived_by (erased_form (typed.Form stars core ps)) outer) ≡ false → ⊥
        some ps q v =
            no_true (sym v ∙ ap is_arrayed (core_derived core (by_parts (erased_parts ps) (by_stars (erased_stars stars) outer)) p)
            ∙ parts_arrayed ps (by_stars (erased_stars stars) outer) q)

        by : (ps : TypedParts) → ps ≡ parts → is_arrayed (derived_by (erased_form (typed.Form stars core ps)) outer) ≡ false
            → FormFails T c (typed.Form stars core ps) Written base at f → ⊥
        by typed.NoPart e v g = elim g.2 [ inl q ↦ q | inr q ↦ core_whole core Written q.0 p q.2 ]
        by (typed.AndArray all b words) e v g = some (typed.AndArray all b words) refl v
        by (typed.AndSizedArray all b words d size) e v g = some (typed.AndSizedArray all b words d size) refl v
        by (typed.AndFunction all b parameters) e v g = some (typed.AndFunction all b parameters) refl v

    mutual
      form_pointed : (form : TypedForm) (base : TypeId) (outer : Derived) → is_arrayed (derived_by (erased_form form) outer) ≡ false
          → FormFails T c form Written base at f → FormFails T c form (Points n) base at f
      form_pointed (typed.Form stars core parts) base outer u h =
          pointed_by stars core parts base outer u h (is_derived_core core) refl (λ p w v q g. core_pointed core v w q g)

      core_pointed : (core : TypedCore) (base : TypeId) (outer : Derived) → is_arrayed (derived_by_core (erased_core core) outer) ≡ false
          → CoreFails T c core Written base at f → CoreFails T c core (Points n) base at f
      core_pointed (typed.Names name home) base outer u h = h
      core_pointed typed.Unnamed base outer u h = h
      core_pointed (typed.Nested b form) base outer u h = form_pointed form base outer u h

declared_pointed : (T : Table) (c : Scopes) (at : Place) (f : Fault) (n : NodeId) (d : TypedDeclared) (base : TypeId)
    → is_arrayed (derived_by_declared (erased_declared d)) ≡ false → DeclaredFails T c d Written base at f → DeclaredFails T c d (Points n) base at f
declared_pointed T c at f n typed.NotDeclared base u h = h
declared_pointed T c at f n (typed.DeclaredBy form) base u h = form_pointed T c (name_place (name_of_form form) at) f n form base NotDerived u h

shape-never : (at : Place) (n : NodeId) (base : TypeId) (x : TypeShape) (s : State) → NeverRefuses (adjusted_shape at n base x s)
unfolding adjusted_shape
shape-never at n base (Array element count) s = pointer_type-never at n element s
shape-never at n base (Function parameters result) s = pointer_type-never at n base s
shape-never at n base Void s = large-never TypeId at Types s
shape-never at n base (Integer bytes signed) s = large-never TypeId at Types s
shape-never at n base (Pointer m u) s = large-never TypeId at Types s
shape-never at n base (Struct m) s = large-never TypeId at Types s
shape-never at n base (Union m) s = large-never TypeId at Types s

with_node-never : (at : Place) (o : Option Place) (s : State) → NeverRefuses (adjusted_with_node at o s)
unfolding adjusted_with_node
with_node-never at None s = gives-never None s
with_node-never at (Some place) s = next-never (new_node at s) (λ n. pure (Some (made n))) (new_node-never at s) (λ n q. gives-never (Some (made n)) q)
  where
    made : NodeId → Adjusted
    made n = record { node = n; place = place }

named-never : (at : Place) (name : Option Identifier) (h : Home) (u : TypeId) (s : State) → NeverRefuses (parameter_declared at name h u s)
unfolding parameter_declared
named-never at (Some name) (home.Parameter n) u s = gives-never u (_)
named-never at None h u s = gives-never u s
named-never at (Some name) home.None u s = large-never TypeId at Types s
named-never at (Some name) (home.Static n) u s = large-never TypeId at Types s
named-never at (Some name) (home.Local n) u s = large-never TypeId at Types s
named-never at (Some name) (home.Known n) u s = large-never TypeId at Types s

place_again : (name : Option Identifier) (at : Place) → name_place name (name_place name at) ≡ name_place name at
place_again None at = refl
place_again (Some name) at = refl

module _ (p : Place) (t : Rule) (at : Place) (d : TypedDeclared) (base : TypeId) (named : Place) (s r : State) (k : IsKnown s) (b : IsType s.table base) where
  here : Place
  here = name_place (declared_identifier d) at

  abbrev FailsPointed : Table → Type 0
  FailsPointed T = (n : NodeId) × DeclaredFails T s.seen.scopes d (Points n) base (name_place (declared_identifier d) at) (Refused p t)

  declared_here : (o : Outermost) → declared_makes (name_place (declared_identifier d) at) o d base s ≡ Stops (Refused p t) r
      → IsRefused (λ T. DeclaredFails T s.seen.scopes d o base (name_place (declared_identifier d) at) (Refused p t)) s r
  declared_here o h =
      declared-refused p t (name_place (declared_identifier d) at) o d base s r k b
      (ap (λ (q : Place). declared_makes q o d base s) (place_again (declared_identifier d) at) ∙ h)

  adjusted-refused : (n : NodeId) (derived : Bool) → adjusted_makes (name_place (declared_identifier d) at) n d base derived s ≡ Stops (Refused p t) r → IsRefused FailsPointed s r
  unfolding adjusted_makes
  adjusted-refused n true h = let j = declared_here (Points n) h in record { fails = (n, j.fails); extends = j.extends }
  adjusted-refused n false h = absurd (shape-never (name_place (declared_identifier d) at) n base (shape_at s.table base) s p t r h)

  makes-refused : (adjusted : Option Adjusted) → adjusted_place adjusted ≡ adjusted_at (derived_by_declared (erased_declared d)) (shape_at s.table base) named
      → parameter_makes (name_place (declared_identifier d) at) adjusted d base s ≡ Stops (Refused p t) r → IsRefused FailsPointed s r
  unfolding parameter_makes
  makes-refused None q h =
      let j = declared_here Written h in
      let n : NodeId = record { 0 = 0 } in
      record {
        fails = (
          n,
          declared_pointed r.table s.seen.scopes (name_place (declared_identifier d) at) (Refused p t) n d base
              (not_arrayed (derived_by_declared (erased_declared d)) (shape_at s.table base) named q) j.fails,
        );
        extends = j.extends;
      }
  makes-refused (Some adjusted) q h = adjusted-refused adjusted.node (is_derived_declared d) h

pub parameter-refused : (p : Place) (t : Rule) (void : Bool) (at : Place) (d : tree.Declared) (specifiers : tree.Specifiers) (list : TypedParameters) (own : TypedSpecifierList)
    (one : TypedDeclared) (s r : State) → IsKnown s → IsType s.table (listed own) → erased_declared one ≡ d
    → parameter void (name_place (declared_identifier one) at) (λ base. adjusted_at (derived_by_declared d) base (typedef_place specifiers)) list (specified own) one s ≡ Stops (Refused p t) r
    → IsRefused (λ T. ParameterFails T s.seen.scopes void one (listed own) at (Refused p t)) s r
unfolding parameter
parameter-refused p t void at d specifiers list own one s r k b e h =
    let base : TypeId = listed own in
    let place : Place = name_place (declared_identifier one) at in
    let P : Table → Type 0 = λ T. ParameterFails T s.seen.scopes void one (listed own) at (Refused p t) in
    let adjusting : TypeShape → Option Place = λ x. adjusted_at (derived_by_declared d) x (typedef_place specifiers) in
    let finish : Option Adjusted → TypeId → Judging TypedParameters = λ a u. pure (typed.AndParameter list (specified own) one a u) in
    let check : TypeId → Judging TypeId = λ u q.
    unless (first_broken (Tests.parameter_type_tests q.table q.seen.scopes void u place)) (parameter_declared place (declared_identifier one) (declared_home one) u) q in
    elim (unless-stops (first_broken (Tests.parameter_name_tests (is_here s.seen.scopes (declared_identifier one)) place))
    (λ q. next (adjusted_with_node place (adjusting (shape_at q.table base)) q) (λ a. λ v. next (parameter_makes place a one base v) (λ u. λ w. next (check u w) (finish a)))) s (Refused p t) r h) [
      | inl q ↦
          let c = one_broken (is_here s.seen.scopes (declared_identifier one)) (Refused place rule.Redeclared) (Refused p t) q.0 in
          refused-here P s r q.1 (subst (λ (v : Bool). ParameterFailsBy v s.table s.seen.scopes void one (listed own) place (Refused p t)) (sym c.0) c.1)
      | inr q ↦ elim (bind-stops (adjusted_with_node place (adjusting (shape_at s.table base)) s)
          (λ a. λ v. next (parameter_makes place a one base v) (λ u. λ w. next (check u w) (finish a))) (Refused p t) r q.1) [
            | inl a ↦ absurd (with_node-never place (adjusting (shape_at s.table base)) s p t r a)
            | inr a ↦
                let placed = adjusted-judged place (adjusting (shape_at s.table base)) a.0 s a.1 k a.2 in
                let there = still_in s.table a.1.table placed.1.goes.extends base b in
                let same : shape_at a.1.table base ≡ shape_at s.table base = placed.1.goes.extends.shapes base b in
                let at_place : adjusted_place a.0 ≡ adjusted_at (derived_by_declared (erased_declared one)) (shape_at a.1.table base) (typedef_place specifiers) =
                placed.0 ∙ (λ i. adjusted_at (derived_by_declared (sym e i)) (sym same i) (typedef_place specifiers)) in
                refused-after P s a.1 r placed.1.goes.extends
                (elim (bind-stops (parameter_makes place a.0 one base a.1) (λ u. λ w. next (check u w) (finish a.0)) (Refused p t) r a.3) [
                  | inl w ↦
                      let j = makes-refused p t at one base (typedef_place specifiers) a.1 r placed.1.goes.known there a.0 at_place w in
                      record {
                        fails = by_name r.table place (is_here s.seen.scopes (declared_identifier one)) q.0
                            (inl (subst (λ (c : Scopes). (n : NodeId) × DeclaredFails r.table c one (Points n) (listed own) place (Refused p t)) placed.1.scopes j.fails));
                        extends = j.extends;
                      }
                  | inr u ↦
                      let made = parameter-made place a.0 one base u.0 (typedef_place specifiers) a.1 u.1 placed.1.goes.known there at_place u.2 in
                      let scopes : u.1.seen.scopes ≡ s.seen.scopes = made.goes.scopes ∙ placed.1.scopes in
                      elim (bind-stops (check u.0 u.1) (finish a.0) (Refused p t) r u.3) [
                        | inl w ↦
                            let c = obeying-refuses (λ m. Tests.parameter_type_tests m.table m.seen.scopes void u.0 place)
                            (parameter_declared place (declared_identifier one) (declared_home one) u.0) u.1 p t r
                            (named-never place (declared_identifier one) (declared_home one) u.0 u.1) w in
                            let here_fails : P u.1.table =
                            by_name u.1.table place (is_here s.seen.scopes (declared_identifier one)) q.0
                            (inr (
                              a.0,
                              u.0,
                              subst (λ (c : Scopes). Declarators.ParameterMakes u.1.table c a.0 one (listed own) u.0) scopes made.makes.0,
                              subst (λ (c : Scopes). Fails (Tests.parameter_type_tests u.1.table c void u.0 place) (Refused p t)) scopes c.0,
                            )) in
                            refused-after P a.1 u.1 r made.goes.goes.extends (refused-here P u.1 r c.1 here_fails)
                        | inr w ↦ never-stops (typed.AndParameter list (specified own) one a.0 w.0) (Refused p t) w.1 r w.3
                      ]
                ])
          ]
    ]
  where
    by_name : (T : Table) (place : Place) (c : Bool) → first_broken (Tests.parameter_name_tests c place) ≡ None
        → ParameterTypeFails T s.seen.scopes void one (listed own) place (Refused p t) → ParameterFailsBy c T s.seen.scopes void one (listed own) place (Refused p t)
    by_name T place true n g = absurd (none-some (Refused place rule.Redeclared) (sym n))
    by_name T place false n g = g

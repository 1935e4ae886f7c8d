-- What is known where a struct or union gets its members.
use Rattle.std.proofs.Common.{◌≡◌, ◌≢◌, ℕ, zero, suc, ◌<◌, ◌≤◌, Bool, true, false, not, ◌&&◌, List, [], ◌∷◌, length, slice_set, Option, Some, refl, ap, sym, subst, ◌∙◌, inl, inr, nat_lt, nat_le, if◌then◌else◌, arith}
use Rattle.std.specs.List.{All, Contains, list_all}
use Rattle.std.proofs.lemmas.Bool.Decides.{eqb_tells, nat_tests}
use Rattle.std.proofs.lemmas.List.{length-set}
use Rattle.std.proofs.lemmas.List.Elements.{All-nil, All-cons}
use Rattle.cc_base.specs.declared.place.Place.{Place}
use Rattle.cc_base.specs.declared.number.TypeId.{TypeId}
use Rattle.cc_base.specs.declared.fault.Fault.TheVariants.{TooLarge}
use Rattle.cc_base.specs.declared.fault.Limit.TheVariants.{Types, Object}
use Rattle.c_types.specs.declared.shape.TypeShape.{TypeShape}
use Rattle.c_types.specs.declared.shape.TypeShape.TheVariants.{Void, Integer, Pointer, Array, Function, Struct, Union}
use Rattle.c_types.specs.Table.{Table, Entry, IsType, IsComplete, entry_at, shape_at, members_at, named_by, is_complete, is_aggregate_shape, is_empty}
use Rattle.c_types.specs.Calls.{with_members, defined_layout}
use Rattle.c_types.proofs.Defining.{defines, formed_defined}
use Rattle.c_types.proofs.Growth.{Changes, not_here, layout_other}
use Rattle.c_tree.specs.TypedTree.{TypedMembers}
use Rattle.c_typing.specs.Declarators.{member_names, member_types}
use Rattle.c_typing.specs.Extensions.{IsExtended}
use Rattle.c_typing.specs.Judging.{State, Judging, Gives, Stops, next, by_known}
use Rattle.c_typing.specs.Rules.{number_of_shape}
use Rattle.c_typing.specs.Scopes.{Name, Scopes, members_named, is_complete_shape_at, is_complete_at, with_scopes}
use Rattle.c_typing.specs.Settled.{IsBasic, IsFollowed, AreNumbered, IsKnown, GoesOn}
use Rattle.c_typing.specs.Specifying.{in_scopes, is_definable, defined, completing, completed}
use Rattle.c_typing.specs.Typing.{AreDistinct, EndsAggregate}
use Rattle.c_typing_laws.proofs.ExtensionLaws.{no_true, still_in, and_left, and_right}
use Rattle.c_typing_laws.proofs.KeptDeclarators.{whole_by, members_alike}
use Rattle.c_typing_laws.proofs.KeptTypes.{complete_exact}
use Rattle.c_typing_laws.proofs.KnownScopes.{levels-kept}
use Rattle.c_typing_laws.proofs.Outcomes.{gives-value, gives-state, never-gives}

lt_from : (a b : ℕ) → nat_lt a b ≡ true → a < b
lt_from a b h = grind (arith, nat_tests)

le_from : (a b : ℕ) → nat_le a b ≡ true → a ≤ b
le_from a b h = grind (arith, nat_tests)

same_type : (t u : TypeId) → t.0 ≡ u.0 → t ≡ u
same_type t u s = ap (λ (n : ℕ). record { 0 = n }) s

empty_is : {A : Type 0} (xs : List A) → is_empty xs ≡ true → xs ≡ []
empty_is [] h = refl
empty_is (x ∷ xs) h = no_true h

some_in : {A : Type 0} (xs : List A) → not (is_empty xs) ≡ true → 0 < length xs
some_in [] h = no_true h
some_in (x ∷ xs) h = omega arith

not_empty : {A : Type 0} (xs : List A) → 0 < length xs → is_empty xs ≡ false
not_empty [] h = absurd (omega arith)
not_empty (x ∷ xs) h = refl

some_names : (xs : List Name) → 0 < length xs → is_empty xs ≡ false
some_names [] h = absurd (omega arith)
some_names (x ∷ xs) h = refl

aggregate_number : (x : TypeShape) → is_aggregate_shape x ≡ true → (n : ℕ) × (number_of_shape x ≡ Some n)
aggregate_number (Struct n) h = (n, refl)
aggregate_number (Union n) h = (n, refl)
aggregate_number Void h = no_true h
aggregate_number (Integer bytes signed) h = no_true h
aggregate_number (Pointer n t) h = no_true h
aggregate_number (Array t n) h = no_true h
aggregate_number (Function ps r) h = no_true h

abbrev naming : List (List Name) → Scopes
naming ms = record { levels = []; defined = []; members = ms }

set_names : (ms : List (List Name)) (n k : ℕ) (names : List Name) → n ≢ k → members_named (naming (slice_set ms k names)) n ≡ members_named (naming ms) n
set_names [] n k names h = refl
set_names (m ∷ ms) zero zero names h = absurd (h refl)
set_names (m ∷ ms) zero (suc k) names h = refl
set_names (m ∷ ms) (suc n) zero names h = refl
set_names (m ∷ ms) (suc n) (suc k) names h = set_names ms n k names (λ e. h (ap suc e))

set_here : (ms : List (List Name)) (n : ℕ) (names : List Name) → n < length ms → members_named (naming (slice_set ms n names)) n ≡ names
set_here [] n names h = absurd (omega (arith, h))
set_here (m ∷ ms) zero names h = refl
set_here (m ∷ ms) (suc n) names h = set_here ms n names (omega (arith, h))

some_number : (a b : ℕ) → Some a ≡ Some b → a ≡ b
some_number a b h = cc

other_complete : (c d : Scopes) (w : Bool) (x : TypeShape) → ((n : ℕ) → number_of_shape x ≡ Some n → members_named d n ≡ members_named c n)
    → is_complete_shape_at d w x ≡ is_complete_shape_at c w x
other_complete c d w (Struct n) same = ap (λ (l : List Name). not (is_empty l)) (same n refl)
other_complete c d w (Union n) same = ap (λ (l : List Name). not (is_empty l)) (same n refl)
other_complete c d w Void same = refl
other_complete c d w (Integer bytes signed) same = refl
other_complete c d w (Pointer m t) same = refl
other_complete c d w (Array t m) same = refl
other_complete c d w (Function ps r) same = refl

all_complete : (T : Table) (members : List TypeId) → list_all (λ (m : TypeId). nat_lt m.0 (length T) && is_complete (entry_at T m)) members ≡ true → All (IsComplete T) members
all_complete T [] h = All-nil (IsComplete T)
all_complete T (m ∷ ms) h =
    let rest = list_all (λ (v : TypeId). nat_lt v.0 (length T) && is_complete (entry_at T v)) ms in
    All-cons (IsComplete T) m ms (and_right (nat_lt m.0 (length T)) (is_complete (entry_at T m)) (and_left (nat_lt m.0 (length T) && is_complete (entry_at T m)) rest h))
    (all_complete T ms (and_right (nat_lt m.0 (length T) && is_complete (entry_at T m)) rest h))

module _ (T : Table) (t : TypeId) (members : List TypeId) (k : IsBasic T) (b : IsType T t) (a : is_aggregate_shape (shape_at T t) ≡ true)
    (o : members_at T t ≡ []) (some : 0 < length members) (full : All (IsComplete T) members) (most : (defined_layout T t members).size ≤ 1048576) where
  change : Changes T (with_members T t members) t (record { shape = shape_at T t; members = members })
  change = defines T t members k.formed b a o some full

  entry_here : (u : TypeId) → u.0 ≡ t.0 → entry_at (with_members T t members) u ≡ record { shape = shape_at T t; members = members }
  entry_here u h = ap (λ (n : ℕ). entry_at (with_members T t members) (record { 0 = n })) h ∙ change.here

  pub shapes_stay : (u : TypeId) → shape_at (with_members T t members) u ≡ shape_at T u
  shapes_stay u = elim (eqb_tells u.0 t.0) [
    | inl q ↦ ap (λ (e : Entry). e.shape) (entry_here u q.1) ∙ ap (λ (n : ℕ). shape_at T (record { 0 = n })) (sym q.1)
    | inr n ↦ ap (λ (e : Entry). e.shape) (change.other u n.1)
  ]

  pub grown : IsExtended T (with_members T t members)
  grown = record {
    longer = change.longer;
    shapes = λ u h. shapes_stay u;
    complete = λ u h. change.other u (not_here T (with_members T t members) t (record { shape = shape_at T t; members = members }) change u h);
    layouts = λ u h. layout_other T (with_members T t members) t (record { shape = shape_at T t; members = members }) change k.formed.order.0 k.formed.order.1 k.formed.each u
        (not_here T (with_members T t members) t (record { shape = shape_at T t; members = members }) change u h);
  }

  pub defined-basic : IsBasic (with_members T t members)
  defined-basic = record {
    formed = formed_defined T t members k.formed b a o some full most;
    built = λ u v c. k.built u v (subst (λ (x : TypeShape). Contains (named_by x) v) (shapes_stay u) c);
    void = (still_in T (with_members T t members) grown (_) k.void.0, shapes_stay (_) ∙ k.void.1);
    integers = λ i size. (still_in T (with_members T t members) grown (_) (k.integers i size).0, shapes_stay (_) ∙ (k.integers i size).1);
  }

  module _ (c d : Scopes) (number : ℕ) (names : List Name) (own : number_of_shape (shape_at T t) ≡ Some number) (set : d.members ≡ slice_set c.members number names)
      (numbered : AreNumbered T c) where
    pub defined-numbered : length names ≡ length members → AreNumbered (with_members T t members) d
    defined-numbered alike =
        let l : length d.members ≡ length c.members = ap (λ (ms : List (List Name)). length ms) set ∙ length-set c.members number names in
        record {
          closed = λ u n h. elim (eqb_tells u.0 t.0) [
            | inl q ↦
                let n_is : n ≡ number = sym (some_number number n (sym own ∙ (ap (λ (i : ℕ). number_of_shape (shape_at T (record { 0 = i }))) (sym q.1) ∙ (ap number_of_shape (sym (shapes_stay u)) ∙ h)))) in
                ap (λ (ms : List (List Name)). length (members_named (naming ms) n)) set
                ∙ (ap (λ (i : ℕ). length (members_named (naming (slice_set c.members number names)) i)) n_is
                ∙ (ap (λ (xs : List Name). length xs) (set_here c.members number names (numbered.given t number own))
                ∙ (alike ∙ ap (λ (e : Entry). length e.members) (sym (entry_here u q.1)))))
            | inr m ↦
                let before = ap number_of_shape (sym (shapes_stay u)) ∙ h in
                let apart : n ≢ number = λ e. m.1 (ap (λ (v : TypeId). v.0) (numbered.own u t number (before ∙ ap Some e) own)) in
                ap (λ (ms : List (List Name)). length (members_named (naming ms) n)) set
                ∙ (ap (λ (xs : List Name). length xs) (set_names c.members n number names apart)
                ∙ (numbered.closed u n before ∙ ap (λ (e : Entry). length e.members) (sym (change.other u m.1))))
          ];
          given = λ u n h. let below : n < length c.members = numbered.given u n (ap number_of_shape (sym (shapes_stay u)) ∙ h) in omega (arith, l, below);
          own = λ u v n h g. numbered.own u v n (ap number_of_shape (sym (shapes_stay u)) ∙ h) (ap number_of_shape (sym (shapes_stay v)) ∙ g);
        }

    pub defined-followed : IsFollowed T c → IsFollowed (with_members T t members) d
    defined-followed followed u h = elim (eqb_tells u.0 t.0) [
      | inl q ↦
          subst (λ (e : Entry). is_complete e ≡ true) (sym (entry_here u q.1))
          (whole_by (shape_at T t) members number own (not_empty members some))
      | inr m ↦
          let same = change.other u m.1 in
          let apart : (n : ℕ) → number_of_shape (shape_at T u) ≡ Some n → n ≢ number = λ n p e.
          m.1 (ap (λ (v : TypeId). v.0) (numbered.own u t number (p ∙ ap Some e) own)) in
          subst (λ (e : Entry). is_complete e ≡ true) (sym same)
          (followed u (sym (other_complete c d (is_complete (entry_at T u)) (shape_at T u)
          (λ n p. ap (λ (ms : List (List Name)). members_named (naming ms) n) set ∙ set_names c.members n number names (apart n p)))
          ∙ subst (λ (e : Entry). is_complete_shape_at d (is_complete e) e.shape ≡ true) same h))
    ]

-- a struct or union ends, and all is known again
pub record IsEnded (members : TypedMembers) (t : TypeId) (s r : State) : Type 0 where
  pub ends : EndsAggregate r.table members t s.seen.scopes r.seen.scopes
  pub goes : GoesOn s r

module _ (at : Place) (members : TypedMembers) (t u : TypeId) (s r : State) (k : IsKnown s) (distinct : AreDistinct (member_names members))
    (unfinished : is_complete_at s.table s.seen.scopes t ≡ false) where
  finishing : Option ℕ → State
  finishing o = record { table = with_members s.table t (member_types members); seen = with_scopes s.seen (completing o (member_names members) s.seen.scopes) }

  finished : IsType s.table t → is_aggregate_shape (shape_at s.table t) ≡ true → members_at s.table t ≡ [] → 0 < length (member_types members)
      → All (IsComplete s.table) (member_types members) → (defined_layout s.table t (member_types members)).size ≤ 1048576
      → IsEnded members t s (finishing (number_of_shape (shape_at (with_members s.table t (member_types members)) t)))
  unfolding finishing
  finished b a o some full most =
      let T = s.table in
      let c = s.seen.scopes in
      let ms = member_types members in
      let names = member_names members in
      let number = aggregate_number (shape_at T t) a in
      let d : Scopes = record c { members = slice_set c.members number.0 names } in
      let grows = grown T t ms k.basic b a o some full most in
      let shapes = shapes_stay T t ms k.basic b a o some full most t in
      let known : number_of_shape (shape_at (with_members T t ms) t) ≡ Some number.0 = ap number_of_shape shapes ∙ number.1 in
      let change = defines T t ms k.basic.formed b a o some full in
      let alike = members_alike members in
      subst (λ (n : Option ℕ). IsEnded members t s (finishing n)) (sym known) (record {
        ends = record {
          number = number.0;
          declared = known;
          some = some_names names (omega (arith, alike, some));
          distinct = distinct;
          types = ap (λ (e : Entry). e.members) change.here;
          unfinished = complete_exact T (with_members T t ms) grows k.basic c t b ∙ unfinished;
          after = refl;
        };
        goes = record {
          extends = grows;
          known = record {
            basic = defined-basic T t ms k.basic b a o some full most;
            followed = defined-followed T t ms k.basic b a o some full most c d number.0 names number.1 refl k.numbered k.followed;
            levels = levels-kept T (with_members T t ms) grows c.levels k.levels;
            numbered = defined-numbered T t ms k.basic b a o some full most c d number.0 names number.1 refl k.numbered (omega (arith, alike));
          };
        };
      })

  then_scopes : TypeId → Judging TypeId
  then_scopes v = by_known (λ q. in_scopes (completing (number_of_shape (shape_at q.table v)) (member_names members)) v)

  definable_by : (may small : Bool) → is_definable s.table t (member_types members) ≡ may
      → nat_le (defined_layout s.table t (member_types members)).size 1048576 ≡ small
      → next (if may
      then (if small then Gives t (record s { table = with_members s.table t (member_types members) }) else Stops (TooLarge at Object) s)
      else Stops (TooLarge at Types) s) then_scopes ≡ Gives u r → (u ≡ t) × IsEnded members t s r
  unfolding then_scopes finishing
  definable_by true true p q h =
      let T = s.table in
      let ms = member_types members in
      let whole = list_all (λ (m : TypeId). nat_lt m.0 (length T) && is_complete (entry_at T m)) ms in
      let filled = not (is_empty ms) && whole in
      let unset = is_empty (members_at T t) && filled in
      let shaped = is_aggregate_shape (shape_at T t) && unset in
      let one = and_right (nat_lt t.0 (length T)) shaped p in
      let two = and_right (is_aggregate_shape (shape_at T t)) unset one in
      let three = and_right (is_empty (members_at T t)) filled two in
      let final : State = finishing (number_of_shape (shape_at (with_members s.table t (member_types members)) t)) in (
        sym (gives-value t u final r h),
        subst (IsEnded members t s) (gives-state t u final r h)
            (finished (lt_from t.0 (length T) (and_left (nat_lt t.0 (length T)) shaped p)) (and_left (is_aggregate_shape (shape_at T t)) unset one)
            (empty_is (members_at T t) (and_left (is_empty (members_at T t)) filled two)) (some_in ms (and_left (not (is_empty ms)) whole three))
            (all_complete T ms (and_right (not (is_empty ms)) whole three)) (le_from (defined_layout T t ms).size 1048576 q)),
      )
  definable_by true false p q h = never-gives u (TooLarge at Object) s r h
  definable_by false small p q h = never-gives u (TooLarge at Types) s r h

  -- what is given where a struct or union ends
  pub completed-judged : completed at members (Some t) s ≡ Gives u r → (u ≡ t) × IsEnded members t s r
  unfolding completed defined then_scopes
  completed-judged h =
      definable_by (is_definable s.table t (member_types members)) (nat_le (defined_layout s.table t (member_types members)).size 1048576) refl refl h

-- What declarators make of a type: stars, array and function parts, and what stands in parentheses round the name.
use Rattle.std.proofs.Common.{◌≡◌, ℕ, ◌<◌, Bool, true, false, not, ◌&&◌, List, [], ◌∷◌, length, Option, Some, None, refl, ap, sym, subst, ◌∙◌, nat_lt, if◌then◌else◌, arith}
use Rattle.std.specs.List.{All, list_all}
use Rattle.std.proofs.lemmas.Bool.Decides.{nat_tests}
use Rattle.std.proofs.lemmas.List.Elements.{All-nil, All-cons, All-head}
use Rattle.cc_base.specs.declared.place.Place.{Place}
use Rattle.cc_base.specs.declared.number.TypeId.{TypeId}
use Rattle.cc_base.specs.declared.fault.Fault.TheVariants.{Refused, TooLarge}
use Rattle.cc_base.specs.declared.fault.Limit.TheVariants.{Types, Params}
use Rattle.cc_base.specs.declared.fault.Rule.TheVariants as rule
use Rattle.c_types.specs.declared.shape.TypeShape.{TypeShape}
use Rattle.c_types.specs.declared.shape.TypeShape.TheVariants.{Pointer, Array, Function}
use Rattle.c_types.specs.Table.{Table, HasShape, IsType, IsComplete, entry_at, shape_at, is_complete, is_empty}
use Rattle.c_types.specs.Calls.{IsAddable}
use Rattle.c_tree.specs.declared.leaf.Word.{Word}
use Rattle.c_tree.specs.declared.typed_word.TypedStar.{TypedStar}
use Rattle.c_tree.specs.TypedTree as typed
use Rattle.c_tree.specs.TypedTree.{TypedForm, TypedCore, TypedParts, TypedParameters, TypedDeclared}
use Rattle.c_typing.specs.Declarators.{Outermost, Written, Counts, Points, MakesArray, is_result_shape, is_pointed, first_word_place, taken_types, IsFunctionOf, MakesFunction, nearest, PartsMake, StarsMake, outside, FormMakes, CoreMakes, DeclaredMakes}
use Rattle.c_typing.specs.Declaring.{stars_make, is_element, array_type, array_of, array_makes, counting_parameters, are_types, function_type, function_as, function_makes, last_makes, parts_make, form_makes, core_makes, declared_makes}
use Rattle.c_typing.specs.Judging.{State, Gives, Stops, next, ◌>>=◌, pure, stop, type_with, pointer_type}
use Rattle.c_typing.specs.Scopes.{Scopes, is_complete_at}
use Rattle.c_typing.specs.Settled.{IsKnown, GoesOnThere}
use Rattle.c_typing.specs.Tests
use Rattle.c_typing.specs.Tests.{lacks_size, has_some, first_broken}
use Rattle.c_typing_laws.proofs.ConstructLaws.{one_unbroken, three_unbroken}
use Rattle.c_typing_laws.proofs.ExtensionLaws.{no_true, complete_kept, and_left, and_right}
use Rattle.c_typing_laws.proofs.KeptDeclarators.{array-kept, function-kept, parts-kept, stars-kept}
use Rattle.c_typing_laws.proofs.KeptRules.{has-kept}
use Rattle.c_typing_laws.proofs.KnownStates.{type_with-found, type_with-there, stays, there-on, pointer_type-gives}
use Rattle.c_typing_laws.proofs.Outcomes.{bind-gives, unless-gives, gives-value, gives-state, never-gives}

lt_from : (a b : ℕ) → nat_lt a b ≡ true → a < b
lt_from a b h = grind (arith, nat_tests)

not_false : (b : Bool) → not b ≡ false → b ≡ true
not_false true h = refl
not_false false h = no_true (sym h)

-- t was made, of what was there before
pub record IsMade (P : Table → Scopes → TypeId → Type 0) (t : TypeId) (s r : State) : Type 0 where
  pub makes : P r.table r.seen.scopes t
  pub there : IsType r.table t
  pub goes : GoesOnThere s r

-- nothing is made
same-made : (P : Table → Scopes → TypeId → Type 0) (base t : TypeId) (s r : State) → IsKnown s → IsType s.table base → P s.table s.seen.scopes base
    → Gives base s ≡ Gives t r → IsMade P t s r
same-made P base t s r k b p h =
    subst (λ (u : TypeId). IsMade P u s r) (gives-value base t s r h)
    (subst (λ (q : State). IsMade P base s q) (gives-state base t s r h) (record { makes = p; there = b; goes = stays s k }))

-- Stars

abbrev ByStars : List TypedStar → TypeId → Table → Scopes → TypeId → Type 0
ByStars stars base T s t = StarsMake T stars base t

pub stars-made : (at : Place) (stars : List TypedStar) (base t : TypeId) (s r : State) → IsKnown s → IsType s.table base → stars_make at stars base s ≡ Gives t r
    → IsMade (ByStars stars base) t s r
unfolding stars_make
stars-made at [] base t s r k b h = same-made (ByStars [] base) base t s r k b refl h
stars-made at (star ∷ stars) base t s r k b h =
    let one = bind-gives (pointer_type at star.node base s) (λ u. stars_make at stars u) t r h in
    let first = pointer_type-gives at star.node base one.0 s one.1 k one.2 in
    let rest = stars-made at stars one.0 t one.1 r first.1.goes.known first.0.0 one.3 in
    record {
      makes = (one.0, has-kept one.1.table r.table rest.goes.goes.extends first.1.goes.known.basic one.0 (Pointer star.node base) first.0, rest.makes);
      there = rest.there;
      goes = there-on s one.1 r first.1 rest.goes;
    }

-- Array parts

abbrev ByArrayPart : Outermost → List Word → Option ℕ → TypeId → Table → Scopes → TypeId → Type 0
ByArrayPart outermost words count element T s t = MakesArray T s outermost words count element t

abbrev HasArray : TypeId → ℕ → Table → Scopes → TypeId → Type 0
HasArray element count T s t = HasShape T t (Array element count)

array_addable : (T : Table) (element : TypeId) (count : ℕ) → IsType T element → IsComplete T element → 0 < count → IsAddable T (Array element count)
array_addable T element count h c p = record { proper = p; named = All-cons (IsType T) element [] h (All-nil (IsType T)); parts = c }

array-type : (at : Place) (element t : TypeId) (count : ℕ) (s r : State) → IsKnown s → array_type at element count s ≡ Gives t r → IsMade (HasArray element count) t s r
unfolding array_type
array-type at element t count s r k h = by (is_element s.table element count) refl h
  where
    by : (b : Bool) → is_element s.table element count ≡ b → (if b then type_with at (Array element count) s else Stops (TooLarge at Types) s) ≡ Gives t r
        → IsMade (HasArray element count) t s r
    by true p q =
        let T = s.table in
        let rest = is_complete (entry_at T element) && nat_lt 0 count in
        let there = lt_from element.0 (length T) (and_left (nat_lt element.0 (length T)) rest p) in
        let tail = and_right (nat_lt element.0 (length T)) rest p in
        let whole = and_left (is_complete (entry_at T element)) (nat_lt 0 count) tail in
        let some = lt_from 0 count (and_right (is_complete (entry_at T element)) (nat_lt 0 count) tail) in
        let addable = array_addable T element count there whole some in
        let parts = All-cons (IsComplete T) element [] whole (All-nil (IsComplete T)) in
        let found = type_with-found at (Array element count) t s r k addable parts refl q in
        record { makes = found.shape; there = found.shape.0; goes = type_with-there at (Array element count) t s r k addable parts refl q }
    by false p q = never-gives t (TooLarge at Types) s r q

no_words : (words : List Word) (pointed : Bool) → pointed ≡ false → (not (is_empty words) && not pointed) ≡ false → words ≡ []
no_words [] pointed p h = refl
no_words (w ∷ words) pointed p h = no_true (sym h ∙ ap not p)

module _ (at : Place) (words : List Word) (element t : TypeId) (s r : State) (k : IsKnown s) (there : IsType s.table element)
    (complete : is_complete_at s.table s.seen.scopes element ≡ true) where
  still_complete : GoesOnThere s r → is_complete_at r.table r.seen.scopes element ≡ true
  still_complete g = subst (λ (c : Scopes). is_complete_at r.table c element ≡ true) (sym g.scopes) (complete_kept s.table r.table g.goes.extends s.seen.scopes element complete)

  sized_array : (count : ℕ) → words ≡ [] → array_type at element count s ≡ Gives t r
      → IsMade (λ T c u. (words ≡ []) × (is_complete_at T c element ≡ true) × HasShape T u (Array element count)) t s r
  sized_array count none h =
      let made = array-type at element t count s r k h in
      record { makes = (none, still_complete made.goes, made.makes); there = made.there; goes = made.goes }

  array_by : (outermost : Outermost) (count : Option ℕ) → lacks_size outermost (has_some count) ≡ false → (not (is_empty words) && not (is_pointed outermost)) ≡ false
      → array_of at outermost count element s ≡ Gives t r → IsMade (ByArrayPart outermost words count element) t s r
  unfolding array_of
  array_by (Points n) count l w h =
      let made = pointer_type-gives at n element t s r k h in
      record { makes = (still_complete made.1, made.0); there = made.0.0; goes = made.1 }
  array_by Written (Some count) l w h =
      let made = sized_array count (no_words words false refl w) h in
      record { makes = (made.makes.0, (made.makes.1, made.makes.2)); there = made.there; goes = made.goes }
  array_by (Counts given) (Some count) l w h =
      let made = sized_array count (no_words words false refl w) h in
      record { makes = (made.makes.0, (made.makes.1, made.makes.2)); there = made.there; goes = made.goes }
  array_by (Counts given) None l w h =
      let made = sized_array given (no_words words false refl w) h in
      record { makes = (made.makes.0, (made.makes.1, made.makes.2)); there = made.there; goes = made.goes }
  array_by Written None l w h = never-gives t (TooLarge at Types) s r h

pub array-made : (at : Place) (outermost : Outermost) (bracket : Place) (words : List Word) (count : Option ℕ) (element t : TypeId) (s r : State) → IsKnown s
    → IsType s.table element → array_makes at outermost bracket words count element s ≡ Gives t r → IsMade (ByArrayPart outermost words count element) t s r
unfolding array_makes
array-made at outermost bracket words count element t s r k there h =
    let go = unless-gives (first_broken (Tests.array_tests s.table s.seen.scopes outermost (has_some count) bracket words element at))
    (array_of at outermost count element) s t r h in
    let three = three_unbroken (lacks_size outermost (has_some count)) (not (is_complete_at s.table s.seen.scopes element))
    (not (is_empty words) && not (is_pointed outermost)) (Refused bracket rule.Incomplete) (Refused at rule.Incomplete)
    (Refused (first_word_place words bracket) rule.Mismatch) go.0 in
    array_by at words element t s r k there (not_false (is_complete_at s.table s.seen.scopes element) three.1) outermost count three.0 three.2 go.1

-- Function parts

abbrev ByFunctionPart : Outermost → TypedParameters → TypeId → Table → Scopes → TypeId → Type 0
ByFunctionPart outermost parameters result T s t = MakesFunction T outermost parameters result t

all_types : (T : Table) (all : List TypeId) → list_all (λ (t : TypeId). nat_lt t.0 (length T)) all ≡ true → All (IsType T) all
all_types T [] h = All-nil (IsType T)
all_types T (t ∷ ts) h =
    let rest = list_all (λ (u : TypeId). nat_lt u.0 (length T)) ts in
    All-cons (IsType T) t ts (lt_from t.0 (length T) (and_left (nat_lt t.0 (length T)) rest h)) (all_types T ts (and_right (nat_lt t.0 (length T)) rest h))

counting-same : (at : Place) (parameters : List TypeId) (f t : TypeId) (s r : State) → counting_parameters at parameters f s ≡ Gives t r → (f ≡ t) × (s ≡ r)
unfolding counting_parameters
counting-same at parameters f t s r h = by (nat_lt 127 (length parameters)) h
  where
    by : (b : Bool) → (if b then stop (TooLarge at Params) else pure f) s ≡ Gives t r → (f ≡ t) × (s ≡ r)
    by true q = never-gives t (TooLarge at Params) s r q
    by false q = (gives-value f t s r q, gives-state f t s r q)

abbrev HasFunction : TypedParameters → TypeId → Table → Scopes → TypeId → Type 0
HasFunction parameters result T s t = IsFunctionOf T parameters result t

function-type : (at : Place) (parameters : TypedParameters) (result t : TypeId) (s r : State) → IsKnown s → is_result_shape (shape_at s.table result) ≡ true
    → function_type at (taken_types parameters) result s ≡ Gives t r → IsMade (HasFunction parameters result) t s r
unfolding function_type
function-type at parameters result t s r k gives h = by (are_types s.table (result ∷ taken_types parameters)) refl h
  where
    x : TypeShape
    x = Function (taken_types parameters) result

    by : (b : Bool) → are_types s.table (result ∷ taken_types parameters) ≡ b
        → (if b then (type_with at (Function (taken_types parameters) result) >>= counting_parameters at (taken_types parameters)) s else Stops (TooLarge at Types) s) ≡ Gives t r
        → IsMade (HasFunction parameters result) t s r
    by true p q =
        let T = s.table in
        let shape : TypeShape = Function (taken_types parameters) result in
        let named = all_types T (result ∷ taken_types parameters) p in
        let addable : IsAddable T (Function (taken_types parameters) result) = record { proper = tt; named = named; parts = tt } in
        let one = bind-gives (type_with at shape s) (counting_parameters at (taken_types parameters)) t r q in
        let found = type_with-found at shape one.0 s one.1 k addable (All-nil (IsComplete T)) refl one.2 in
        let same = counting-same at (taken_types parameters) one.0 t one.1 r one.3 in
        subst (λ (u : TypeId). IsMade (HasFunction parameters result) u s r) same.0
        (subst (λ (v : State). IsMade (HasFunction parameters result) one.0 s v) same.1 (record {
          makes = record {
            gives = ap is_result_shape (found.extends.shapes result (All-head (IsType T) result (taken_types parameters) named)) ∙ gives;
            shape = found.shape;
          };
          there = found.shape.0;
          goes = type_with-there at shape one.0 s one.1 k addable (All-nil (IsComplete T)) refl one.2;
        }))
    by false p q = never-gives t (TooLarge at Types) s r q

module _ (at : Place) (parameters : TypedParameters) (result f t : TypeId) (s m r : State) (made : IsMade (HasFunction parameters result) f s m) where
  function_by : (outermost : Outermost) → function_as at outermost f m ≡ Gives t r → IsMade (ByFunctionPart outermost parameters result) t s r
  unfolding function_as
  function_by (Points n) h =
      let pointer = pointer_type-gives at n f t m r made.goes.goes.known h in
      let later = function-kept m.table r.table pointer.1.goes.extends made.goes.goes.known.basic Written parameters result f made.makes in
      record { makes = (f, later, pointer.0); there = pointer.0.0; goes = there-on s m r made.goes pointer.1 }
  function_by Written h =
      subst (λ (u : TypeId). IsMade (ByFunctionPart Written parameters result) u s r) (gives-value f t m r h)
      (subst (λ (q : State). IsMade (ByFunctionPart Written parameters result) f s q) (gives-state f t m r h)
      (record { makes = made.makes; there = made.there; goes = made.goes }))
  function_by (Counts n) h =
      subst (λ (u : TypeId). IsMade (ByFunctionPart (Counts n) parameters result) u s r) (gives-value f t m r h)
      (subst (λ (q : State). IsMade (ByFunctionPart (Counts n) parameters result) f s q) (gives-state f t m r h)
      (record { makes = made.makes; there = made.there; goes = made.goes }))

pub function-made : (at : Place) (outermost : Outermost) (parameters : TypedParameters) (result t : TypeId) (s r : State) → IsKnown s
    → function_makes at outermost parameters result s ≡ Gives t r → IsMade (ByFunctionPart outermost parameters result) t s r
unfolding function_makes
function-made at outermost parameters result t s r k h =
    let go = unless-gives (first_broken (Tests.function_tests s.table result at))
    (λ (q : State). next (function_type at (taken_types parameters) result q) (λ f. function_as at outermost f)) s t r h in
    let gives = not_false (is_result_shape (shape_at s.table result))
    (one_unbroken (not (is_result_shape (shape_at s.table result))) (Refused at rule.Mismatch) go.0) in
    let one = bind-gives (function_type at (taken_types parameters) result s) (λ f. function_as at outermost f) t r go.1 in
    function_by at parameters result one.0 t s one.1 r (function-type at parameters result one.0 s one.1 k gives one.2) outermost one.3

-- The parts of a declarator, the last first

abbrev ByParts : TypedParts → Outermost → TypeId → Table → Scopes → TypeId → Type 0
ByParts parts outermost base T s t = PartsMake T s parts outermost base t

at_scopes : (P : Scopes → Type 0) (s r : State) → GoesOnThere s r → P s.seen.scopes → P r.seen.scopes
at_scopes P s r g h = subst P (sym g.scopes) h

pub parts-made : (at : Place) (outermost : Outermost) (parts : TypedParts) (base t : TypeId) (s r : State) → IsKnown s → IsType s.table base
    → parts_make at outermost parts base s ≡ Gives t r → IsMade (ByParts parts outermost base) t s r
unfolding parts_make last_makes
parts-made at outermost typed.NoPart base t s r k b h = same-made (ByParts typed.NoPart outermost base) base t s r k b refl h
parts-made at outermost (typed.AndArray all bracket words) base t s r k b h =
    let one = bind-gives (array_makes at (nearest all outermost) bracket words None base s) (parts_make at outermost all) t r h in
    let first = array-made at (nearest all outermost) bracket words None base one.0 s one.1 k b one.2 in
    let rest = parts-made at outermost all one.0 t one.1 r first.goes.goes.known first.there one.3 in
    record {
      makes = (
        one.0,
        at_scopes (λ (c : Scopes). MakesArray r.table c (nearest all outermost) words None base one.0) one.1 r rest.goes
            (array-kept one.1.table r.table rest.goes.goes.extends first.goes.goes.known.basic one.1.seen.scopes (nearest all outermost) words None base one.0 first.makes),
        rest.makes,
      );
      there = rest.there;
      goes = there-on s one.1 r first.goes rest.goes;
    }
parts-made at outermost (typed.AndSizedArray all bracket words e size) base t s r k b h =
    let one = bind-gives (array_makes at (nearest all outermost) bracket words (Some size) base s) (parts_make at outermost all) t r h in
    let first = array-made at (nearest all outermost) bracket words (Some size) base one.0 s one.1 k b one.2 in
    let rest = parts-made at outermost all one.0 t one.1 r first.goes.goes.known first.there one.3 in
    record {
      makes = (
        one.0,
        at_scopes (λ (c : Scopes). MakesArray r.table c (nearest all outermost) words (Some size) base one.0) one.1 r rest.goes
            (array-kept one.1.table r.table rest.goes.goes.extends first.goes.goes.known.basic one.1.seen.scopes (nearest all outermost) words (Some size) base one.0 first.makes),
        rest.makes,
      );
      there = rest.there;
      goes = there-on s one.1 r first.goes rest.goes;
    }
parts-made at outermost (typed.AndFunction all paren parameters) base t s r k b h =
    let one = bind-gives (function_makes at (nearest all outermost) parameters base s) (parts_make at outermost all) t r h in
    let first = function-made at (nearest all outermost) parameters base one.0 s one.1 k one.2 in
    let rest = parts-made at outermost all one.0 t one.1 r first.goes.goes.known first.there one.3 in
    record {
      makes = (
        one.0,
        function-kept one.1.table r.table rest.goes.goes.extends first.goes.goes.known.basic (nearest all outermost) parameters base one.0 first.makes,
        rest.makes,
      );
      there = rest.there;
      goes = there-on s one.1 r first.goes rest.goes;
    }

-- The whole

abbrev pub ByForm : TypedForm → Outermost → TypeId → Table → Scopes → TypeId → Type 0
ByForm form outermost base T s t = FormMakes T s form outermost base t

abbrev ByCore : TypedCore → Outermost → TypeId → Table → Scopes → TypeId → Type 0
ByCore core outermost base T s t = CoreMakes T s core outermost base t

abbrev pub ByDeclared : TypedDeclared → Outermost → TypeId → Table → Scopes → TypeId → Type 0
ByDeclared d outermost base T s t = DeclaredMakes T s d outermost base t

mutual
  unfolding form_makes core_makes

  pub form-made : (at : Place) (outermost : Outermost) (form : TypedForm) (base t : TypeId) (s r : State) → IsKnown s → IsType s.table base
      → form_makes at outermost form base s ≡ Gives t r → IsMade (ByForm form outermost base) t s r
  form-made at outermost (typed.Form stars core parts) base t s r k b h =
      let one = bind-gives (stars_make at stars base s) (λ u. parts_make at (outside core outermost) parts u >>= (λ v. core_makes at outermost core v)) t r h in
      let first = stars-made at stars base one.0 s one.1 k b one.2 in
      let two = bind-gives (parts_make at (outside core outermost) parts one.0 one.1) (λ v. core_makes at outermost core v) t r one.3 in
      let second = parts-made at (outside core outermost) parts one.0 two.0 one.1 two.1 first.goes.goes.known first.there two.2 in
      let third = core-made at outermost core two.0 t two.1 r second.goes.goes.known second.there two.3 in
      let later = there-on one.1 two.1 r second.goes third.goes in
      record {
        makes = (
          one.0,
          two.0,
          stars-kept one.1.table r.table later.goes.extends first.goes.goes.known.basic stars base one.0 first.makes,
          at_scopes (λ (c : Scopes). PartsMake r.table c parts (outside core outermost) one.0 two.0) two.1 r third.goes
              (parts-kept two.1.table r.table third.goes.goes.extends second.goes.goes.known.basic two.1.seen.scopes parts (outside core outermost) one.0 two.0 second.makes),
          third.makes,
        );
        there = third.there;
        goes = there-on s one.1 r first.goes later;
      }

  pub core-made : (at : Place) (outermost : Outermost) (core : TypedCore) (base t : TypeId) (s r : State) → IsKnown s → IsType s.table base
      → core_makes at outermost core base s ≡ Gives t r → IsMade (ByCore core outermost base) t s r
  core-made at outermost (typed.Names name home) base t s r k b h = same-made (ByCore (typed.Names name home) outermost base) base t s r k b refl h
  core-made at outermost typed.Unnamed base t s r k b h = same-made (ByCore typed.Unnamed outermost base) base t s r k b refl h
  core-made at outermost (typed.Nested paren form) base t s r k b h =
      let made = form-made at outermost form base t s r k b h in
      record { makes = made.makes; there = made.there; goes = made.goes }

pub declared-made : (at : Place) (outermost : Outermost) (d : TypedDeclared) (base t : TypeId) (s r : State) → IsKnown s → IsType s.table base
    → declared_makes at outermost d base s ≡ Gives t r → IsMade (ByDeclared d outermost base) t s r
unfolding declared_makes
declared-made at outermost typed.NotDeclared base t s r k b h = same-made (ByDeclared typed.NotDeclared outermost base) base t s r k b refl h
declared-made at outermost (typed.DeclaredBy form) base t s r k b h =
    let made = form-made at outermost form base t s r k b h in
    record { makes = made.makes; there = made.there; goes = made.goes }

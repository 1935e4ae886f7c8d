-- Steps that move no pointers.
use Rattle.std.proofs.Common.{◌≡◌, ℕ, Bool, true, false, List, [], ◌∷◌, ◌++◌, length, Option, Some, None, refl, subst, nat_lt, nat_le, if◌then◌else◌}
use Rattle.cc_base.specs.declared.place.Place.{Place}
use Rattle.cc_base.specs.declared.number.NodeId.{NodeId}
use Rattle.cc_base.specs.declared.number.TypeId.{TypeId}
use Rattle.cc_base.specs.declared.fault.Fault.{Fault}
use Rattle.cc_base.specs.declared.fault.Fault.TheVariants.{TooLarge}
use Rattle.cc_base.specs.declared.fault.Limit.TheVariants.{Types, Params, Object}
use Rattle.c_types.specs.declared.shape.TypeShape.{TypeShape}
use Rattle.c_types.specs.declared.shape.TypeShape.TheVariants.{Void, Integer, Pointer, Array, Function, Struct, Union}
use Rattle.c_types.specs.Table.{IsComplete, shape_at}
use Rattle.c_types.specs.Calls.{defined_layout, with_members}
use Rattle.c_tree.specs.declared.leaf.Identifier.{Identifier}
use Rattle.c_tree.specs.declared.leaf.Word.{Word}
use Rattle.c_tree.specs.declared.operator.AggregateKind.{AggregateKind}
use Rattle.c_tree.specs.declared.typed_word.Home.{Home}
use Rattle.c_tree.specs.declared.typed_word.Home.TheVariants as home
use Rattle.c_tree.specs.declared.typed_word.TypedStar.{TypedStar}
use Rattle.c_tree.specs.TypedTree as typed
use Rattle.c_tree.specs.TypedTree.{TypedForm, TypedCore, TypedParts, TypedParameters, TypedDeclared, TypedMembers, TypedSpecifier}
use Rattle.c_typing.specs.declared.declared.Declared.{Declared}
use Rattle.c_typing.specs.declared.declared.Declared.TheVariants as declared
use Rattle.c_typing.specs.declared.declared.Tag.{Tag}
use Rattle.c_typing.specs.declared.declared.Tag.TheVariants as tag
use Rattle.c_typing.specs.Declarators.{Counted, Outermost, Written, Counts, Points, taken_types, nearest, outside, counting_word, member_names, member_types}
use Rattle.c_typing.specs.Declaring.{stars_make, is_element, array_type, array_of, array_makes, counting_parameters, are_types, function_type, function_as, function_makes, last_makes, parts_make, form_makes, core_makes, declared_makes, adjusted_shape, adjusted_makes, parameter_declared, entered, left}
use Rattle.c_typing.specs.Judging.{State, Outcome, Judging, Gives, Stops, next, ◌>>=◌, pure, stop, by_known, type_with, pointer_type}
use Rattle.c_typing.specs.Operations.{numbered}
use Rattle.c_typing.specs.Refusals.{one_named, tag_place, is_empty_row}
use Rattle.c_typing.specs.Rules.{number_of_shape}
use Rattle.c_typing.specs.Scopes.{Scopes, name_in, tag_in, leaving}
use Rattle.c_typing.specs.Specifying
use Rattle.c_typing.specs.Specifying.{obeying, in_scopes, typedef_named, tagged_as, tagged_by, new_aggregate, begun_as, begun, is_definable, defined, completing, completed, ended, is_taken_at_end, enumeration_begun}
use Rattle.c_typing.specs.Tests
use Rattle.c_typing.specs.Tests.{Test, first_broken, has_some, is_tag_of, is_taken_tag}
use Rattle.c_typing.specs.Typing.{shape_of_kind, tagging, counting_aggregate, tag_named_here}
use Rattle.c_cells_kept.specs.Counted.{Stays}
use Rattle.c_cells_kept.proofs.CellsMoved.{MayStand, stays-on, type_with-stays, pointer-stays, array_may, function_may, kind_may}
use Rattle.c_cells_kept.proofs.CountedValues.{number-stays}
use Rattle.c_cells_kept.proofs.WholeScopes.{tagging_stays, completing_stays, members_stay, entered_stays, left_stays, enumerating_stays, declared_stays}
use Rattle.c_typing_laws.proofs.Outcomes.{bind-gives, unless-gives, gives-state, never-gives}

-- where something is given, nothing was counted from the state n on
abbrev pub Keeps : {A : Type 0} → Outcome A → State → Type 0
Keeps {A} m n = (a : A) (r : State) → m ≡ Gives a r → Stays n r

pub gives-keeps : {A : Type 0} (a : A) (s : State) (n : State) → Stays n s → Keeps (Gives a s) n
gives-keeps a s n e b r h = subst (Stays n) (gives-state a b s r h) e

pub stops-keeps : (A : Type 0) (f : Fault) (s : State) (n : State) → Keeps {A = A} (Stops f s) n
stops-keeps A f s n b r h = never-gives b f s r h

pub next-keeps : {A B : Type 0} (m : Outcome A) (f : A → Judging B) (n : State) → Keeps m n → ((a : A) (s : State) → Stays n s → Keeps (f a s) n) → Keeps (next m f) n
next-keeps m f n first second b r h = let one = bind-gives m f b r h in second one.0 one.1 (first one.0 one.1 one.2) b r one.3

pub obeying-keeps : {A : Type 0} (rules : State → List Test) (go : Judging A) (s : State) (n : State) → Keeps (go s) n → Keeps (obeying rules go s) n
obeying-keeps rules go s n h a r g = h a r (unless-gives (first_broken (rules s)) go s a r g).1

type_with-keeps : (at : Place) (x : TypeShape) (s : State) (n : State) → MayStand s.table x → Stays n s → Keeps (type_with at x s) n
type_with-keeps at x s n may e t r h = stays-on n s r e (type_with-stays at x t s r may h)

pointer-keeps : (at : Place) (k : NodeId) (to : TypeId) (s : State) (n : State) → Stays n s → Keeps (pointer_type at k to s) n
pointer-keeps at k to s n e t r h = stays-on n s r e (pointer-stays at k to t s r h)

-- Declarators

stars-keep : (at : Place) (stars : List TypedStar) (base : TypeId) (s : State) (n : State) → Stays n s → Keeps (stars_make at stars base s) n
unfolding stars_make
stars-keep at [] base s n e = gives-keeps base s n e
stars-keep at (star ∷ stars) base s n e =
    next-keeps (pointer_type at star.node base s) (λ u. stars_make at stars u) n (pointer-keeps at star.node base s n e) (λ u q e2. stars-keep at stars u q n e2)

array_type-keeps : (at : Place) (element : TypeId) (count : ℕ) (s : State) (n : State) → Stays n s → Keeps (array_type at element count s) n
unfolding array_type
array_type-keeps at element count s n e = by (is_element s.table element count) refl
  where
    by : (b : Bool) → is_element s.table element count ≡ b → Keeps (if b then type_with at (Array element count) s else Stops (TooLarge at Types) s) n
    by true h = type_with-keeps at (Array element count) s n (array_may s.table element count h) e
    by false h = stops-keeps TypeId (TooLarge at Types) s n

array-keeps : (at : Place) (o : Outermost) (bracket : Place) (words : List Word) (count : Option ℕ) (element : TypeId) (s : State) (n : State) → Stays n s
    → Keeps (array_makes at o bracket words count element s) n
unfolding array_makes array_of
array-keeps at o bracket words count element s n e =
    obeying-keeps (λ q. Tests.array_tests q.table q.seen.scopes o (has_some count) bracket words element at) (array_of at o count element) s n (by o count)
  where
    by : (u : Outermost) (c : Option ℕ) → Keeps (array_of at u c element s) n
    by (Points k) c = pointer-keeps at k element s n e
    by Written (Some c) = array_type-keeps at element c s n e
    by (Counts given) (Some c) = array_type-keeps at element c s n e
    by (Counts given) None = array_type-keeps at element given s n e
    by Written None = stops-keeps TypeId (TooLarge at Types) s n

counting-keeps : (at : Place) (parameters : List TypeId) (f : TypeId) (s : State) (n : State) → Stays n s → Keeps (counting_parameters at parameters f s) n
unfolding counting_parameters
counting-keeps at parameters f s n e = by (nat_lt 127 (length parameters))
  where
    by : (b : Bool) → Keeps ((if b then stop (TooLarge at Params) else pure f) s) n
    by true = stops-keeps TypeId (TooLarge at Params) s n
    by false = gives-keeps f s n e

function_type-keeps : (at : Place) (parameters : List TypeId) (result : TypeId) (s : State) (n : State) → Stays n s → Keeps (function_type at parameters result s) n
unfolding function_type
function_type-keeps at parameters result s n e = by (are_types s.table (result ∷ parameters)) refl
  where
    by : (b : Bool) → are_types s.table (result ∷ parameters) ≡ b → Keeps (if b then (type_with at (Function parameters result) >>= counting_parameters at parameters) s else Stops (TooLarge at Types) s) n
    by true h =
        next-keeps (type_with at (Function parameters result) s) (counting_parameters at parameters) n
        (type_with-keeps at (Function parameters result) s n (function_may s.table parameters result h) e) (λ f q e2. counting-keeps at parameters f q n e2)
    by false h = stops-keeps TypeId (TooLarge at Types) s n

function_as-keeps : (at : Place) (o : Outermost) (f : TypeId) (s : State) (n : State) → Stays n s → Keeps (function_as at o f s) n
unfolding function_as
function_as-keeps at (Points k) f s n e = pointer-keeps at k f s n e
function_as-keeps at Written f s n e = gives-keeps f s n e
function_as-keeps at (Counts k) f s n e = gives-keeps f s n e

function-keeps : (at : Place) (o : Outermost) (parameters : TypedParameters) (result : TypeId) (s : State) (n : State) → Stays n s → Keeps (function_makes at o parameters result s) n
unfolding function_makes
function-keeps at o parameters result s n e =
    obeying-keeps (λ q. Tests.function_tests q.table result at) (λ q. next (function_type at (taken_types parameters) result q) (λ f. function_as at o f)) s n
    (next-keeps (function_type at (taken_types parameters) result s) (λ f. function_as at o f) n (function_type-keeps at (taken_types parameters) result s n e)
    (λ f q e2. function_as-keeps at o f q n e2))

parts-keep : (at : Place) (o : Outermost) (parts : TypedParts) (base : TypeId) (s : State) (n : State) → Stays n s → Keeps (parts_make at o parts base s) n
unfolding parts_make last_makes
parts-keep at o typed.NoPart base s n e = gives-keeps base s n e
parts-keep at o (typed.AndArray all bracket words) base s n e =
    next-keeps (array_makes at (nearest all o) bracket words None base s) (parts_make at o all) n (array-keeps at (nearest all o) bracket words None base s n e)
    (λ u q e2. parts-keep at o all u q n e2)
parts-keep at o (typed.AndSizedArray all bracket words d size) base s n e =
    next-keeps (array_makes at (nearest all o) bracket words (Some size) base s) (parts_make at o all) n (array-keeps at (nearest all o) bracket words (Some size) base s n e)
    (λ u q e2. parts-keep at o all u q n e2)
parts-keep at o (typed.AndFunction all paren parameters) base s n e =
    next-keeps (function_makes at (nearest all o) parameters base s) (parts_make at o all) n (function-keeps at (nearest all o) parameters base s n e)
    (λ u q e2. parts-keep at o all u q n e2)

mutual
  unfolding form_makes core_makes

  pub form-keeps : (at : Place) (o : Outermost) (form : TypedForm) (base : TypeId) (s : State) (n : State) → Stays n s → Keeps (form_makes at o form base s) n
  form-keeps at o (typed.Form stars core parts) base s n e =
      next-keeps (stars_make at stars base s) (λ u. parts_make at (outside core o) parts u >>= (λ v. core_makes at o core v)) n (stars-keep at stars base s n e)
      (λ u q e2. next-keeps (parts_make at (outside core o) parts u q) (λ v. core_makes at o core v) n (parts-keep at (outside core o) parts u q n e2)
      (λ v w e3. core-keeps at o core v w n e3))

  core-keeps : (at : Place) (o : Outermost) (core : TypedCore) (base : TypeId) (s : State) (n : State) → Stays n s → Keeps (core_makes at o core base s) n
  core-keeps at o (typed.Names name home) base s n e = gives-keeps base s n e
  core-keeps at o typed.Unnamed base s n e = gives-keeps base s n e
  core-keeps at o (typed.Nested paren form) base s n e = form-keeps at o form base s n e

pub declared-keeps : (at : Place) (o : Outermost) (d : TypedDeclared) (base : TypeId) (s : State) (n : State) → Stays n s → Keeps (declared_makes at o d base s) n
unfolding declared_makes
declared-keeps at o typed.NotDeclared base s n e = gives-keeps base s n e
declared-keeps at o (typed.DeclaredBy form) base s n e = form-keeps at o form base s n e

shape-keeps : (at : Place) (k : NodeId) (base : TypeId) (x : TypeShape) (s : State) (n : State) → Stays n s → Keeps (adjusted_shape at k base x s) n
unfolding adjusted_shape
shape-keeps at k base (Array element count) s n e = pointer-keeps at k element s n e
shape-keeps at k base (Function parameters result) s n e = pointer-keeps at k base s n e
shape-keeps at k base Void s n e = stops-keeps TypeId (TooLarge at Types) s n
shape-keeps at k base (Integer bytes signed) s n e = stops-keeps TypeId (TooLarge at Types) s n
shape-keeps at k base (Pointer m u) s n e = stops-keeps TypeId (TooLarge at Types) s n
shape-keeps at k base (Struct m) s n e = stops-keeps TypeId (TooLarge at Types) s n
shape-keeps at k base (Union m) s n e = stops-keeps TypeId (TooLarge at Types) s n

pub adjusted-keeps : (at : Place) (k : NodeId) (d : TypedDeclared) (base : TypeId) (b : Bool) (s : State) (n : State) → Stays n s → Keeps (adjusted_makes at k d base b s) n
unfolding adjusted_makes
adjusted-keeps at k d base true s n e = declared-keeps at (Points k) d base s n e
adjusted-keeps at k d base false s n e = shape-keeps at k base (shape_at s.table base) s n e

pub named-keeps : (at : Place) (name : Option Identifier) (h : Home) (u : TypeId) (s : State) (n : State) → (has_some name ≡ true → IsComplete s.table u) → Stays n s → Keeps (parameter_declared at name h u s) n
unfolding parameter_declared
named-keeps at (Some name) (home.Parameter k) u s n c e = gives-keeps u (_) n (declared_stays name.bytes u k n s (c refl) e)
named-keeps at None h u s n c e = gives-keeps u s n e
named-keeps at (Some name) home.None u s n c e = stops-keeps TypeId (TooLarge at Types) s n
named-keeps at (Some name) (home.Static k) u s n c e = stops-keeps TypeId (TooLarge at Types) s n
named-keeps at (Some name) (home.Local k) u s n c e = stops-keeps TypeId (TooLarge at Types) s n
named-keeps at (Some name) (home.Known k) u s n c e = stops-keeps TypeId (TooLarge at Types) s n

pub entered-keeps : (s : State) (n : State) → Stays n s → Keeps (entered s) n
unfolding entered
entered-keeps s n e = gives-keeps true (_) n (entered_stays n s e)

pub left-keeps : {A : Type 0} (at : Place) (a : A) (s : State) (n : State) → Stays n s → Keeps (left at a s) n
unfolding left
left-keeps {A = A} at a s n e = by (nat_lt 1 (length s.seen.scopes.levels))
  where
    by : (b : Bool) → Keeps (if b then in_scopes leaving a s else Stops (TooLarge at Types) s) n
    by true = gives-keeps a (_) n (left_stays n s e)
    by false = stops-keeps A (TooLarge at Types) s n

-- Specifiers

new_aggregate-keeps : (which : AggregateKind) (at : Place) (name : Option Identifier) (s : State) (n : State) → Stays n s → Keeps (new_aggregate which at name s) n
unfolding new_aggregate
new_aggregate-keeps which at name s n e =
    next-keeps (numbered at (Some (length s.seen.scopes.members)) s)
    (λ number. type_with at (shape_of_kind which number) >>= (λ u. in_scopes (λ (c : Scopes). tagging name (tag.Aggregate which u) (counting_aggregate c)) u)) n
    (λ i r h. stays-on n s r e (number-stays at (Some (length s.seen.scopes.members)) i s r h))
    (λ number q e2. next-keeps (type_with at (shape_of_kind which number) q) (λ u. in_scopes (λ (c : Scopes). tagging name (tag.Aggregate which u) (counting_aggregate c)) u) n
    (type_with-keeps at (shape_of_kind which number) q n (kind_may q.table which number) e2)
    (λ u m e3. gives-keeps u (_) n (tagging_stays name (tag.Aggregate which u) n m e3)))

tagged_as-keeps : (which : AggregateKind) (name : Identifier) (o : Option Tag) (s : State) (n : State) → Stays n s → Keeps (tagged_as which name o s) n
unfolding tagged_as
tagged_as-keeps which name None s n e = new_aggregate-keeps which name.place (Some name) s n e
tagged_as-keeps which name (Some (tag.Aggregate other u)) s n e = gives-keeps u s n e
tagged_as-keeps which name (Some tag.Enumeration) s n e = stops-keeps TypeId (TooLarge name.place Types) s n
tagged_as-keeps which name (Some tag.Enumerating) s n e = stops-keeps TypeId (TooLarge name.place Types) s n

typedef-keeps : (name : Identifier) (o : Option Declared) (s : State) (n : State) → Stays n s → Keeps (typedef_named name o s) n
unfolding typedef_named
typedef-keeps name (Some (declared.Typedef u)) s n e = gives-keeps (typed.Typedef name u) s n e
typedef-keeps name (Some (declared.Object u home)) s n e = stops-keeps TypedSpecifier (TooLarge name.place Types) s n
typedef-keeps name (Some (declared.Function u)) s n e = stops-keeps TypedSpecifier (TooLarge name.place Types) s n
typedef-keeps name (Some (declared.Enumerator k)) s n e = stops-keeps TypedSpecifier (TooLarge name.place Types) s n
typedef-keeps name None s n e = stops-keeps TypedSpecifier (TooLarge name.place Types) s n

pub begun-keeps : (which : AggregateKind) (at : Place) (name : Option Identifier) (s : State) (n : State) → Stays n s → Keeps (begun which at name s) n
unfolding begun begun_as
begun-keeps which at name s n e = by (is_taken_tag s.table s.seen.scopes which (tag_named_here s.seen.scopes name)) (tag_named_here s.seen.scopes name)
  where
    by : (taken : Bool) (o : Option Tag) → Keeps (begun_as which (tag_place at name) name o taken s) n
    by true o = gives-keeps None s n e
    by false (Some (tag.Aggregate other u)) = gives-keeps (Some u) s n e
    by false (Some tag.Enumeration) = gives-keeps None s n e
    by false (Some tag.Enumerating) = gives-keeps None s n e
    by false None =
        next-keeps (new_aggregate which (tag_place at name) name s) (λ u. pure (Some u)) n (new_aggregate-keeps which (tag_place at name) name s n e)
        (λ u q e2. gives-keeps (Some u) q n e2)

defined-keeps : (at : Place) (u : TypeId) (members : List TypeId) (s : State) (n : State) → Stays n s → Keeps (defined at u members s) n
unfolding defined
defined-keeps at u members s n e = by (is_definable s.table u members) (nat_le (defined_layout s.table u members).size 1048576) refl refl
  where
    by : (may small : Bool) → is_definable s.table u members ≡ may → nat_le (defined_layout s.table u members).size 1048576 ≡ small → Keeps (if may
        then (if small then Gives u (record s { table = with_members s.table u members }) else Stops (TooLarge at Object) s)
        else Stops (TooLarge at Types) s) n
    by true true p q = gives-keeps u (record s { table = with_members s.table u members }) n (stays-on n s (record s { table = with_members s.table u members }) e (members_stay s u members p q))
    by true false p q = stops-keeps TypeId (TooLarge at Object) s n
    by false small p q = stops-keeps TypeId (TooLarge at Types) s n

completed-keeps : (at : Place) (members : TypedMembers) (o : Option TypeId) (s : State) (n : State) → Stays n s → Keeps (completed at members o s) n
unfolding completed
completed-keeps at members None s n e = stops-keeps TypeId (TooLarge at Types) s n
completed-keeps at members (Some u) s n e =
    next-keeps (defined at u (member_types members) s)
    (λ v. by_known (λ q. in_scopes (completing (number_of_shape (shape_at q.table v)) (member_names members)) v)) n
    (defined-keeps at u (member_types members) s n e) (λ v q e2. gives-keeps v (_) n (completing_stays (number_of_shape (shape_at q.table v)) (member_names members) n q e2))

pub ended-keeps : (counts : Counted) (which : AggregateKind) (at : Place) (name : Option Identifier) (brace : Place) (o : Option TypeId) (rows : TypedMembers) (s : State) (n : State)
    → Stays n s → Keeps (ended counts which at name brace o rows s) n
unfolding ended
ended-keeps counts which at name brace o rows s n e =
    obeying-keeps (λ q. Tests.aggregate_tests (is_taken_at_end q o) (tag_place at name) (is_empty_row rows) ++ Tests.word_tests at (one_named counts))
    (λ q. next (completed (tag_place at name) rows o q) (λ u. pure (typed.Aggregate which at name brace rows u))) s n
    (next-keeps (completed (tag_place at name) rows o s) (λ u. pure (typed.Aggregate which at name brace rows u)) n (completed-keeps (tag_place at name) rows o s n e)
    (λ u q e2. gives-keeps (typed.Aggregate which at name brace rows u) q n e2))

pub word-keeps : (counts : Counted) (w : Word) (s : State) (n : State) → Stays n s → Keeps (Specifying.word counts w s) n
unfolding Specifying.word
word-keeps counts w s n e = obeying-keeps (λ q. Tests.word_tests w.place (counting_word w.keyword counts)) (pure (typed.Keyword w)) s n (gives-keeps (typed.Keyword w) s n e)

pub typedef_name-keeps : (counts : Counted) (name : Identifier) (s : State) (n : State) → Stays n s → Keeps (Specifying.typedef_name counts name s) n
unfolding Specifying.typedef_name
typedef_name-keeps counts name s n e =
    obeying-keeps (λ q. Tests.word_tests name.place (one_named counts)) (by_known (λ q. typedef_named name (name_in q.seen.scopes.levels name.bytes))) s n
    (typedef-keeps name (name_in s.seen.scopes.levels name.bytes) s n e)

pub tagged_by-keeps : (which : AggregateKind) (at : Place) (name : Identifier) (found : State → Option Tag) (s : State) (n : State) → Stays n s
    → Keeps (tagged_by which at name found s) n
unfolding tagged_by
tagged_by-keeps which at name found s n e =
    next-keeps (tagged_as which name (found s) s) (λ u. pure (typed.Tagged which at name u)) n (tagged_as-keeps which name (found s) s n e)
    (λ u q e2. gives-keeps (typed.Tagged which at name u) q n e2)

pub tagged-keeps : (counts : Counted) (which : AggregateKind) (at : Place) (name : Identifier) (s : State) (n : State) → Stays n s → Keeps (Specifying.tagged counts which at name s) n
unfolding Specifying.tagged
tagged-keeps counts which at name s n e =
    obeying-keeps (λ q. Tests.tag_tests q.seen.scopes (is_tag_of which) name.bytes name.place ++ Tests.word_tests at (one_named counts))
    (tagged_by which at name (λ q. tag_in q.seen.scopes.levels name.bytes)) s n (tagged_by-keeps which at name (λ q. tag_in q.seen.scopes.levels name.bytes) s n e)

pub enum-keeps : (counts : Counted) (at : Place) (name : Identifier) (s : State) (n : State) → Stays n s → Keeps (Specifying.enum_tag counts at name s) n
unfolding Specifying.enum_tag
enum-keeps counts at name s n e =
    obeying-keeps (λ q. Tests.enum_tests q.seen.scopes name.bytes name.place ++ Tests.word_tests at (one_named counts)) (pure (typed.Enum at name)) s n
    (gives-keeps (typed.Enum at name) s n e)

pub begun_enumeration-keeps : (name : Option Identifier) (s : State) (n : State) → Stays n s → Keeps (enumeration_begun name s) n
unfolding enumeration_begun
begun_enumeration-keeps name s n e = gives-keeps true (_) n (enumerating_stays name n s e)

-- Specifiers and declarators keep that no function type of the table has more than 127 parameters: each by its steps.
use Rattle.std.proofs.Common.{refl, ℕ, ℤ, Bool, true, false, List, [], ◌∷◌, Option, Some, None}
use Rattle.cc_base.specs.declared.number.NodeId.{NodeId}
use Rattle.cc_base.specs.declared.number.TypeId.{TypeId}
use Rattle.cc_base.specs.declared.place.Place.{Place}
use Rattle.c_types.specs.declared.shape.TypeShape.{TypeShape}
use Rattle.c_types.specs.declared.shape.TypeShape.TheVariants as shape
use Rattle.c_tree.specs.TypedParts.{declared_home}
use Rattle.c_tree.specs.declared.leaf.Identifier.{Identifier}
use Rattle.c_tree.specs.declared.leaf.Star.{Star}
use Rattle.c_tree.specs.declared.leaf.Word.{Word}
use Rattle.c_tree.specs.declared.operator.AggregateKind.{AggregateKind}
use Rattle.c_tree.specs.declared.typed_word.Adjusted.{Adjusted}
use Rattle.c_tree.specs.declared.typed_word.Home.{Home}
use Rattle.c_tree.specs.declared.typed_word.Home.TheVariants as home
use Rattle.c_tree.specs.declared.typed_word.TypedStar.{TypedStar}
use Rattle.c_tree.specs.TypedTree as typed
use Rattle.c_tree.specs.TypedTree.{TypedExpr, TypedSpecifiers, TypedForm, TypedCore, TypedParts, TypedParameters, TypedDeclared, TypedMembers, TypedMemberDeclarators, TypedEnumerators}
use Rattle.c_typing.specs.declared.declared.Declared.{Declared}
use Rattle.c_typing.specs.declared.declared.Declared.TheVariants as declared
use Rattle.c_typing.specs.declared.declared.Tag.{Tag}
use Rattle.c_typing.specs.declared.declared.Tag.TheVariants as tag
use Rattle.c_typing.specs.declared.naming.Naming.{Naming}
use Rattle.c_typing.specs.declared.naming.Naming.TheVariants as naming
use Rattle.c_typing.specs.Declarators.{Counted, Outermost, Written, Counts, Points, is_derived_declared, member_types, nearest, outside, taken_types}
use Rattle.c_typing.specs.Declaring.{home_as, stars_with_nodes, sized_part, sized, stars_make, array_of, array_makes, function_as, function_makes, last_makes, parts_make, form_makes, core_makes, declared_makes, member_type, member_named, adjusted_with_node, adjusted_shape, adjusted_makes, parameter_makes, parameter_declared, parameter}
use Rattle.c_typing.specs.Judging.{State}
use Rattle.c_typing.specs.Operands.{Value}
use Rattle.c_typing.specs.Refusals.{declared_identifier, tag_place}
use Rattle.c_typing.specs.Scopes.{Name}
use Rattle.c_typing.specs.Specifying
use Rattle.c_typing.specs.Specifying.{typedef_named, new_aggregate, tagged_as, tagged_by, tagged_alone, begun_as, begun, completed, ended, enum_tag, enumerator, enumerator_with, valued_enumerator, enumeration_begun, enumeration}
use Rattle.c_unit_limits.proofs.Kept.{IsKept, pure-kept, stop-kept, bind-kept, known-kept, unless-kept, seen-kept}
use Rattle.c_unit_limits.proofs.KeptTypes.{new_node-kept, pointer_type-kept, array_type-kept, function_type-kept, aggregate_type-kept, defined-kept}
use Rattle.c_unit_limits.proofs.KeptConstructs.{numbered-kept}

-- Specifiers

pub word-kept : (before : Counted) (w : Word) → IsKept (Specifying.word before w)
unfolding Specifying.word
word-kept before w = known-kept (λ q. unless-kept (_) (pure-kept (_)))

typedef_named-kept : (name : Identifier) (o : Option Declared) → IsKept (typedef_named name o)
unfolding typedef_named
typedef_named-kept name (Some (declared.Typedef t)) = pure-kept (_)
typedef_named-kept name (Some (declared.Object t n)) = stop-kept (_)
typedef_named-kept name (Some (declared.Function t)) = stop-kept (_)
typedef_named-kept name (Some (declared.Enumerator z)) = stop-kept (_)
typedef_named-kept name None = stop-kept (_)

pub typedef_name-kept : (before : Counted) (name : Identifier) → IsKept (Specifying.typedef_name before name)
unfolding Specifying.typedef_name
typedef_name-kept before name = known-kept (λ q. unless-kept (_) (known-kept (λ s. typedef_named-kept name (_))))

new_aggregate-kept : (which : AggregateKind) (at : Place) (name : Option Identifier) → IsKept (new_aggregate which at name)
unfolding new_aggregate
new_aggregate-kept which at name =
    bind-kept (known-kept (λ s. numbered-kept at (_))) (λ number. bind-kept (aggregate_type-kept at which number) (λ t. seen-kept t (_) (λ s. (refl, refl))))

tagged_as-kept : (which : AggregateKind) (name : Identifier) (o : Option Tag) → IsKept (tagged_as which name o)
unfolding tagged_as
tagged_as-kept which name None = new_aggregate-kept which name.place (Some name)
tagged_as-kept which name (Some (tag.Aggregate k t)) = pure-kept t
tagged_as-kept which name (Some tag.Enumeration) = stop-kept (_)
tagged_as-kept which name (Some tag.Enumerating) = stop-kept (_)

tagged_by-kept : (which : AggregateKind) (at : Place) (name : Identifier) (found : State → Option Tag) → IsKept (tagged_by which at name found)
unfolding tagged_by
tagged_by-kept which at name found = bind-kept (known-kept (λ s. tagged_as-kept which name (found s))) (λ t. pure-kept (_))

pub tagged-kept : (before : Counted) (which : AggregateKind) (at : Place) (name : Identifier) → IsKept (Specifying.tagged before which at name)
unfolding Specifying.tagged
tagged-kept before which at name = known-kept (λ q. unless-kept (_) (tagged_by-kept which at name (_)))

pub tagged_alone-kept : (which : AggregateKind) (at : Place) (name : Identifier) → IsKept (tagged_alone which at name)
unfolding tagged_alone
tagged_alone-kept which at name = known-kept (λ q. unless-kept (_) (tagged_by-kept which at name (_)))

begun_as-kept : (which : AggregateKind) (at : Place) (name : Option Identifier) (found : Option Tag) (taken : Bool) → IsKept (begun_as which at name found taken)
unfolding begun_as
begun_as-kept which at name found true = pure-kept None
begun_as-kept which at name (Some (tag.Aggregate k t)) false = pure-kept (_)
begun_as-kept which at name (Some tag.Enumeration) false = pure-kept None
begun_as-kept which at name (Some tag.Enumerating) false = pure-kept None
begun_as-kept which at name None false = bind-kept (new_aggregate-kept which at name) (λ t. pure-kept (_))

pub begun-kept : (which : AggregateKind) (at : Place) (name : Option Identifier) → IsKept (begun which at name)
unfolding begun
begun-kept which at name = known-kept (λ s. begun_as-kept which (tag_place at name) name (_) (_))

completed-kept : (at : Place) (members : TypedMembers) (o : Option TypeId) → IsKept (completed at members o)
unfolding completed
completed-kept at members None = stop-kept (_)
completed-kept at members (Some t) = bind-kept (defined-kept at t (member_types members)) (λ u. record { kept = λ s. (λ h. h, refl) })

pub ended-kept : (before : Counted) (which : AggregateKind) (at : Place) (name : Option Identifier) (brace : Place) (begun : Option TypeId) (members : TypedMembers)
    → IsKept (ended before which at name brace begun members)
unfolding ended
ended-kept before which at name brace begun members = known-kept (λ q. unless-kept (_) (bind-kept (completed-kept (tag_place at name) members begun) (λ t. pure-kept (_))))

pub enum_tag-kept : (before : Counted) (at : Place) (name : Identifier) → IsKept (enum_tag before at name)
unfolding enum_tag
enum_tag-kept before at name = known-kept (λ q. unless-kept (_) (pure-kept (_)))

pub enumerator-kept : (all : TypedEnumerators) (name : Identifier) → IsKept (enumerator all name)
unfolding enumerator
enumerator-kept all name = known-kept (λ q. unless-kept (_) (seen-kept (_) (_) (λ s. (refl, refl))))

enumerator_with-kept : (all : TypedEnumerators) (name : Identifier) (at : Place) (e : TypedExpr) (o : Option ℤ) → IsKept (enumerator_with all name at e o)
unfolding enumerator_with
enumerator_with-kept all name at e None = stop-kept (_)
enumerator_with-kept all name at e (Some z) = seen-kept (_) (_) (λ s. (refl, refl))

pub valued-kept : (all : TypedEnumerators) (name : Identifier) (at : Place) (v : Value) → IsKept (valued_enumerator all name at v)
unfolding valued_enumerator
valued-kept all name at v = known-kept (λ q. unless-kept (_) (known-kept (λ s. enumerator_with-kept all name at v.expr (_))))

pub enumeration_begun-kept : (name : Option Identifier) → IsKept (enumeration_begun name)
unfolding enumeration_begun
enumeration_begun-kept name = record { kept = λ s. (λ h. h, refl) }

pub enumeration-kept : (before : Counted) (at : Place) (name : Option Identifier) (brace : Place) (all : TypedEnumerators) (comma : Bool)
    → IsKept (enumeration before at name brace all comma)
unfolding enumeration
enumeration-kept before at name brace all comma = known-kept (λ q. unless-kept (_) (seen-kept (_) (_) (λ s. (refl, refl))))

-- Names and parts

pub home_as-kept : (at : Place) (which : Naming) → IsKept (home_as at which)
unfolding home_as
home_as-kept at naming.None = pure-kept (_)
home_as-kept at naming.Static = bind-kept (new_node-kept at) (λ n. pure-kept (_))
home_as-kept at naming.Local = bind-kept (new_node-kept at) (λ n. pure-kept (_))
home_as-kept at naming.Parameter = bind-kept (new_node-kept at) (λ n. pure-kept (_))
home_as-kept at (naming.Known n) = pure-kept (_)

pub stars-kept : (at : Place) (stars : List Star) → IsKept (stars_with_nodes at stars)
unfolding stars_with_nodes
stars-kept at [] = pure-kept []
stars-kept at (star ∷ stars) = bind-kept (new_node-kept at) (λ n. bind-kept (stars-kept at stars) (λ all. pure-kept (_)))

sized_part-kept : (all : TypedParts) (at : Place) (words : List Word) (v : Value) (o : Option ℕ) → IsKept (sized_part all at words v o)
unfolding sized_part
sized_part-kept all at words v None = stop-kept (_)
sized_part-kept all at words v (Some size) = pure-kept (_)

pub sized-kept : (all : TypedParts) (at : Place) (words : List Word) (v : Value) → IsKept (sized all at words v)
unfolding sized
sized-kept all at words v = known-kept (λ q. unless-kept (_) (known-kept (λ s. sized_part-kept all at words v (_))))

-- Types

stars_make-kept : (at : Place) (stars : List TypedStar) (base : TypeId) → IsKept (stars_make at stars base)
unfolding stars_make
stars_make-kept at [] base = pure-kept base
stars_make-kept at (star ∷ stars) base = bind-kept (pointer_type-kept at star.node base) (λ t. stars_make-kept at stars t)

array_of-kept : (at : Place) (outermost : Outermost) (count : Option ℕ) (element : TypeId) → IsKept (array_of at outermost count element)
unfolding array_of
array_of-kept at (Points n) count element = pointer_type-kept at n element
array_of-kept at Written (Some count) element = array_type-kept at element count
array_of-kept at (Counts given) (Some count) element = array_type-kept at element count
array_of-kept at (Counts given) None element = array_type-kept at element given
array_of-kept at Written None element = stop-kept (_)

array_makes-kept : (at : Place) (outermost : Outermost) (bracket : Place) (words : List Word) (count : Option ℕ) (element : TypeId)
    → IsKept (array_makes at outermost bracket words count element)
unfolding array_makes
array_makes-kept at outermost bracket words count element = known-kept (λ q. unless-kept (_) (array_of-kept at outermost count element))

function_as-kept : (at : Place) (outermost : Outermost) (f : TypeId) → IsKept (function_as at outermost f)
unfolding function_as
function_as-kept at (Points n) f = pointer_type-kept at n f
function_as-kept at Written f = pure-kept f
function_as-kept at (Counts given) f = pure-kept f

function_makes-kept : (at : Place) (outermost : Outermost) (parameters : TypedParameters) (result : TypeId) → IsKept (function_makes at outermost parameters result)
unfolding function_makes
function_makes-kept at outermost parameters result =
    known-kept (λ q. unless-kept (_) (bind-kept (function_type-kept at (taken_types parameters) result) (λ f. function_as-kept at outermost f)))

last_makes-kept : (at : Place) (outermost : Outermost) (parts : TypedParts) (base : TypeId) → IsKept (last_makes at outermost parts base)
unfolding last_makes
last_makes-kept at outermost typed.NoPart base = pure-kept base
last_makes-kept at outermost (typed.AndArray all bracket words) base = array_makes-kept at outermost bracket words None base
last_makes-kept at outermost (typed.AndSizedArray all bracket words e size) base = array_makes-kept at outermost bracket words (Some size) base
last_makes-kept at outermost (typed.AndFunction all paren parameters) base = function_makes-kept at outermost parameters base

parts_make-kept : (at : Place) (outermost : Outermost) (parts : TypedParts) (base : TypeId) → IsKept (parts_make at outermost parts base)
unfolding parts_make
parts_make-kept at outermost typed.NoPart base = pure-kept base
parts_make-kept at outermost (typed.AndArray all bracket words) base =
    bind-kept (last_makes-kept at (nearest all outermost) (typed.AndArray all bracket words) base) (λ t. parts_make-kept at outermost all t)
parts_make-kept at outermost (typed.AndSizedArray all bracket words e size) base =
    bind-kept (last_makes-kept at (nearest all outermost) (typed.AndSizedArray all bracket words e size) base) (λ t. parts_make-kept at outermost all t)
parts_make-kept at outermost (typed.AndFunction all paren parameters) base =
    bind-kept (last_makes-kept at (nearest all outermost) (typed.AndFunction all paren parameters) base) (λ t. parts_make-kept at outermost all t)

mutual
  unfolding form_makes core_makes

  pub form_makes-kept : (at : Place) (outermost : Outermost) (form : TypedForm) (base : TypeId) → IsKept (form_makes at outermost form base)
  form_makes-kept at outermost (typed.Form stars core parts) base =
      bind-kept (stars_make-kept at stars base) (λ t. bind-kept (parts_make-kept at (outside core outermost) parts t) (λ u. core_makes-kept at outermost core u))

  core_makes-kept : (at : Place) (outermost : Outermost) (core : TypedCore) (base : TypeId) → IsKept (core_makes at outermost core base)
  core_makes-kept at outermost (typed.Names name home) base = pure-kept base
  core_makes-kept at outermost typed.Unnamed base = pure-kept base
  core_makes-kept at outermost (typed.Nested paren form) base = form_makes-kept at outermost form base

pub declared_makes-kept : (at : Place) (outermost : Outermost) (d : TypedDeclared) (base : TypeId) → IsKept (declared_makes at outermost d base)
unfolding declared_makes
declared_makes-kept at outermost typed.NotDeclared base = pure-kept base
declared_makes-kept at outermost (typed.DeclaredBy form) base = form_makes-kept at outermost form base

-- Members

member_type-kept : (at : Place) (form : TypedForm) (base : TypeId) → IsKept (member_type at form base)
unfolding member_type
member_type-kept at form base = bind-kept (form_makes-kept at Written form base) (λ t. known-kept (λ q. unless-kept (_) (pure-kept t)))

pub member_named-kept : (names : List Name) (all : TypedMemberDeclarators) (form : TypedForm) (base : TypeId) (o : Option Identifier) → IsKept (member_named names all form base o)
unfolding member_named
member_named-kept names all form base None = stop-kept (_)
member_named-kept names all form base (Some name) = known-kept (λ q. unless-kept (_) (bind-kept (member_type-kept name.place form base) (λ t. pure-kept (_))))

-- Parameters

adjusted_with_node-kept : (at : Place) (o : Option Place) → IsKept (adjusted_with_node at o)
unfolding adjusted_with_node
adjusted_with_node-kept at None = pure-kept None
adjusted_with_node-kept at (Some place) = bind-kept (new_node-kept at) (λ n. pure-kept (_))

adjusted_shape-kept : (at : Place) (n : NodeId) (base : TypeId) (x : TypeShape) → IsKept (adjusted_shape at n base x)
unfolding adjusted_shape
adjusted_shape-kept at n base (shape.Array element count) = pointer_type-kept at n element
adjusted_shape-kept at n base (shape.Function parameters result) = pointer_type-kept at n base
adjusted_shape-kept at n base shape.Void = stop-kept (_)
adjusted_shape-kept at n base (shape.Integer bytes signed) = stop-kept (_)
adjusted_shape-kept at n base (shape.Pointer m t) = stop-kept (_)
adjusted_shape-kept at n base (shape.Struct number) = stop-kept (_)
adjusted_shape-kept at n base (shape.Union number) = stop-kept (_)

adjusted_makes-kept : (at : Place) (n : NodeId) (d : TypedDeclared) (base : TypeId) (derived : Bool) → IsKept (adjusted_makes at n d base derived)
unfolding adjusted_makes
adjusted_makes-kept at n d base true = declared_makes-kept at (Points n) d base
adjusted_makes-kept at n d base false = known-kept (λ s. adjusted_shape-kept at n base (_))

parameter_makes-kept : (at : Place) (o : Option Adjusted) (d : TypedDeclared) (base : TypeId) → IsKept (parameter_makes at o d base)
unfolding parameter_makes
parameter_makes-kept at None d base = declared_makes-kept at Written d base
parameter_makes-kept at (Some adjusted) d base = adjusted_makes-kept at adjusted.node d base (is_derived_declared d)

parameter_declared-kept : (at : Place) (o : Option Identifier) (h : Home) (t : TypeId) → IsKept (parameter_declared at o h t)
unfolding parameter_declared
parameter_declared-kept at (Some name) (home.Parameter n) t = seen-kept t (_) (λ s. (refl, refl))
parameter_declared-kept at (Some name) home.None t = stop-kept (_)
parameter_declared-kept at (Some name) (home.Static n) t = stop-kept (_)
parameter_declared-kept at (Some name) (home.Local n) t = stop-kept (_)
parameter_declared-kept at (Some name) (home.Known n) t = stop-kept (_)
parameter_declared-kept at None h t = pure-kept t

pub parameter-kept : (void : Bool) (at : Place) (adjusting : TypeShape → Option Place) (all : TypedParameters) (specifiers : TypedSpecifiers) (d : TypedDeclared)
    → IsKept (parameter void at adjusting all specifiers d)
unfolding parameter
parameter-kept void at adjusting all specifiers d = known-kept (λ q. unless-kept (_)
    (bind-kept (known-kept (λ s. adjusted_with_node-kept at (_))) (λ adjusted.
    bind-kept (parameter_makes-kept at adjusted d (_)) (λ t.
    bind-kept (known-kept (λ q. unless-kept (_) (parameter_declared-kept at (declared_identifier d) (declared_home d) t))) (λ u. pure-kept (_))))))

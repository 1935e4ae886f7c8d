-- The types that leaves, values and operators on one operand use, behind those of their operands.
use Rattle.std.proofs.Common.{◌≡◌, ℕ, ◌+◌, ℤ, Bool, true, false, ◌==◌, List, [], ◌∷◌, ◌++◌, Option, Some, None, refl, ap, sym, subst, nat_lt, nat_le, if◌then◌else◌}
use Rattle.cc_base.specs.declared.place.Place.{Place}
use Rattle.cc_base.specs.declared.number.NodeId.{NodeId}
use Rattle.cc_base.specs.declared.number.TypeId.{TypeId}
use Rattle.cc_base.specs.declared.fault.Fault.TheVariants.{TooLarge}
use Rattle.cc_base.specs.declared.fault.Limit.TheVariants.{Types, Globals}
use Rattle.c_types.specs.declared.shape.TypeShape.TheVariants.{Array}
use Rattle.c_types.specs.Layouts.{size_of}
use Rattle.c_types.specs.Table.{Table, shape_at}
use Rattle.c_lexer.specs.declared.number.IntegerType.{IntegerType as ConstantType}
use Rattle.c_tree.specs.declared.leaf.Identifier.{Identifier}
use Rattle.c_tree.specs.declared.leaf.StringPiece.{StringPiece}
use Rattle.c_tree.specs.declared.operator.Step.{Step}
use Rattle.c_tree.specs.declared.operator.Unary.{Unary}
use Rattle.c_tree.specs.declared.operator.Unary.TheVariants as unary
use Rattle.c_tree.specs.declared.typed_word.Conversion.{Conversion}
use Rattle.c_tree.specs.declared.typed_word.Conversion.TheVariants as conversion
use Rattle.c_tree.specs.declared.typed_word.Runtime.{Runtime}
use Rattle.c_tree.specs.Places.{pieces_place}
use Rattle.c_tree.specs.TypedTree as typed
use Rattle.c_tree.specs.TypedTree.{TypedExpr, TypedPlace}
use Rattle.c_tree.specs.TypedParts.{type_of, place_type}
use Rattle.runtime_calls.specs.Prototypes.{runtime_of}
use Rattle.integers.specs.Arithmetic.{IntegerType}
use Rattle.c_typing.specs.declared.declared.Declared.{Declared}
use Rattle.c_typing.specs.declared.declared.Declared.TheVariants as declared
use Rattle.c_typing.specs.declared.typing.Reading.{Reading}
use Rattle.c_typing.specs.declared.typing.Reading.TheVariants as reading
use Rattle.c_typing.specs.Assignments
use Rattle.c_typing.specs.Assignments.{converted_by, part_expr, called, function_name, named_as, count_global, literal_size, is_char_array, string_type, literal}
use Rattle.c_typing.specs.Conversions.{to_integer, is_taken_over, is_pointer_to_complete}
use Rattle.c_typing.specs.Integers
use Rattle.c_typing.specs.Integers.{char, promoted}
use Rattle.c_typing.specs.Judging.{State, Gives, Stops, next, ◌>>=◌, pure, stop, by_known, new_node, type_with, new_pointer, void_type, integer_type}
use Rattle.c_typing.specs.Operands.{Operand, Value, value, value_of, place_value, reading_of, raw_value, made_raw, made_for, side_of, given_allocation, given}
use Rattle.c_typing.specs.Operations
use Rattle.c_typing.specs.Operations.{in_parens, pointed, pointed_place, target_of, address_behind, address_of_part, address, promoted_operand, operator_on, prefix_of, size_of_part, step_part, step_before, step_after, element, numbered, int_type}
use Rattle.c_typing.specs.Rules.{pointer_behind}
use Rattle.c_typing.specs.Scopes.{name_in, place_among}
use Rattle.c_typing.specs.Shapes.{integer_at, pointee_at, is_function_shape}
use Rattle.c_typing.specs.Tests
use Rattle.c_typing.specs.Tests.{Elaborated, AsPlace, AsValue, AsAllocation, has_some}
use Rattle.c_typing_laws.proofs.ExtensionLaws.{no_true}
use Rattle.c_typing_laws.proofs.Outcomes.{bind-gives, gives-state, never-gives, construct-gives, leaf-gives}
use Rattle.c_typing_laws.proofs.NumberedConstructs.{IsWhole}
use Rattle.c_typing_laws.proofs.ValuesTaken.{given-same}
use Rattle.c_type_order.specs.TypesUsed.{Use, OfType, used_by, used_by_place}
use Rattle.c_type_order.specs.Uses.{IsUsed, used_by_part}
use Rattle.c_type_order.proofs.Uses.{used-none, then_used, used-as, used-still, IsMade, made-used, type_with-made, node-table, new_pointer-used}

-- what is used from the table S on

abbrev pub PartUsed : Elaborated → Table → Table → Type 0
PartUsed x S R = IsUsed (λ U. used_by_part U x) S R

abbrev pub ValueUsed : TypedExpr → Table → Table → Type 0
ValueUsed e S R = IsUsed (λ U. used_by U e) S R

abbrev pub PlaceUsed : TypedPlace → Table → Table → Type 0
PlaceUsed p S R = IsUsed (λ U. used_by_place U p) S R

abbrev pub Alone : TypeId → Table → List Use
Alone t U = OfType t ∷ []

pub part-same : (S : Table) (x y : Elaborated) (s r : State) → Gives x s ≡ Gives y r → PartUsed x S s.table → PartUsed y S r.table
part-same S x y s r h n = given-same (λ (z : Elaborated) (q : State). PartUsed z S q.table) x y s r h n

pub part_as : (S : Table) (f : Table → List Use) (x y : Elaborated) (s r : State) → Gives x s ≡ Gives y r → ((U : Table) → used_by_part U x ≡ f U) → IsUsed f S s.table
    → PartUsed y S r.table
part_as S f x y s r h e n = part-same S x y s r h (used-as f (λ U. used_by_part U x) S s.table e n)

-- conversions use nothing

pub to_integer-used : (U : Table) (at : Place) (t : TypeId) (e : TypedExpr) → used_by U (to_integer at t e) ≡ used_by U e
to_integer-used U at t e = by ((type_of e).0 == t.0)
  where
    by : (b : Bool) → used_by U (if b then e else typed.Convert conversion.IntegerToInteger at t e) ≡ used_by U e
    by true = refl
    by false = refl

pub converted-used : (U : Table) (at : Place) (t : TypeId) (e : TypedExpr) (o : Option Conversion) → used_by U (converted_by o at t e) ≡ used_by U e
converted-used U at t e None = refl
converted-used U at t e (Some conversion.IntegerToInteger) = to_integer-used U at t e
converted-used U at t e (Some which) = refl

pub side-used : (U : Table) (v : TypedExpr) → used_by_part U (side_of v) ≡ used_by U v
side-used U (typed.Unread p) = refl
side-used U v = refl

pub expr-used : (U : Table) (x : Elaborated) → used_by U (part_expr x) ≡ used_by_part U x
expr-used U (AsPlace p) = refl
expr-used U (AsValue e) = refl
expr-used U (AsAllocation e) = refl

for-used : (U : Table) (t : TypeId) (e : TypedExpr) → used_by U (made_for t e) ≡ used_by U e
for-used U t (typed.Paren at e) = for-used U t e
for-used U t (typed.AllocateFor runtime f at arguments u) = refl
for-used U t e = refl

raw-used : (U : Table) (n : NodeId) (t : TypeId) (e : TypedExpr) → is_taken_over e ≡ true → used_by U (made_raw n t e) ≡ used_by U e ++ OfType t ∷ []
raw-used U n t (typed.Paren at e) h = raw-used U n t e h
raw-used U n t (typed.AllocateFor runtime f at arguments u) h = refl
raw-used U n t e h = no_true h

-- Values

place-used : (at : Place) (p : TypedPlace) (how : Reading) (v : TypedExpr) (S : Table) (s r : State) → PlaceUsed p S s.table → place_value at p how s ≡ Gives v r → ValueUsed v S r.table
unfolding place_value
place-used at p (reading.Decays element) v S s r n h =
    let one = bind-gives (new_pointer at element s) (λ made. pure (typed.Decay p made.node made.type)) v r h in
    given-same (λ (w : TypedExpr) (q : State). ValueUsed w S q.table) (typed.Decay p one.0.node one.0.type) v one.1 r one.3
    (then_used (λ U. used_by_place U p) (Alone one.0.type) S s.table one.1.table n (new_pointer-used at element one.0 s one.1 one.2))
place-used at p reading.Reads v S s r n h = given-same (λ (w : TypedExpr) (q : State). ValueUsed w S q.table) (typed.Read p) v s r h n
place-used at p reading.Stays v S s r n h = given-same (λ (w : TypedExpr) (q : State). ValueUsed w S q.table) (typed.Unread p) v s r h n
place-used at p reading.Nothing v S s r n h = never-gives v (TooLarge at Types) s r h

raw_value-used : (at : Place) (e v : TypedExpr) (S : Table) (s r : State) → is_taken_over e ≡ true → ValueUsed e S s.table → raw_value at e s ≡ Gives v r → ValueUsed v S r.table
unfolding raw_value
raw_value-used at e v S s r o n h =
    let one = bind-gives (new_pointer at void_type s) (λ made. pure (made_raw made.node made.type e)) v r h in
    let both = then_used (λ U. used_by U e) (Alone one.0.type) S s.table one.1.table n (new_pointer-used at void_type one.0 s one.1 one.2) in
    given-same (λ (w : TypedExpr) (q : State). ValueUsed w S q.table) (made_raw one.0.node one.0.type e) v one.1 r one.3
    (used-as (λ U. used_by U e ++ OfType one.0.type ∷ []) (λ U. used_by U (made_raw one.0.node one.0.type e)) S one.1.table (λ U. raw-used U one.0.node one.0.type e o) both)

value_of-used : (at : Place) (x : Elaborated) (v : TypedExpr) (S : Table) (s r : State) → IsWhole x → PartUsed x S s.table → value_of at x s ≡ Gives v r → ValueUsed v S r.table
unfolding value_of
value_of-used at (AsPlace p) v S s r w n h = place-used at p (reading_of (shape_at s.table (place_type p))) v S s r n h
value_of-used at (AsValue e) v S s r w n h = given-same (λ (u : TypedExpr) (q : State). ValueUsed u S q.table) e v s r h n
value_of-used at (AsAllocation e) v S s r w n h = raw_value-used at e v S s r w n h

pub value-used : (x : Operand) (v : Value) (S : Table) (s r : State) → IsWhole x.part → PartUsed x.part S s.table → value x s ≡ Gives v r → ValueUsed v.expr S r.table
unfolding value
value-used x v S s r w n h =
    let one = bind-gives (value_of x.place x.part s) (λ e. pure (record { expr = e; place = x.place; held = x.held })) v r h in
    given-same (λ (u : Value) (q : State). ValueUsed u.expr S q.table) (record { expr = one.0; place = x.place; held = x.held }) v one.1 r one.3
    (value_of-used x.place x.part one.0 S s one.1 w n one.2)

pub given-used : (t : TypeId) (at : Place) (x y : Elaborated) (S : Table) (s r : State) → IsWhole x → PartUsed x S s.table → given t at x s ≡ Gives y r → PartUsed y S r.table
unfolding given given_allocation
given-used t at (AsAllocation e) y S s r w n h = by (is_pointer_to_complete s.table s.seen.scopes t) h
  where
    by : (b : Bool) → given_allocation t at e b s ≡ Gives y r → PartUsed y S r.table
    by true q = part_as S (λ U. used_by U e) (AsAllocation (made_for t e)) y s r q (λ U. for-used U t e) n
    by false q =
        let one = bind-gives (raw_value at e s) (λ u. pure (AsValue u)) y r q in
        part-same S (AsValue one.0) y one.1 r one.3 (raw_value-used at e one.0 S s one.1 w n one.2)
given-used t at (AsValue e) y S s r w n h =
    let one = bind-gives (value_of at (AsValue e) s) (λ u. pure (side_of u)) y r h in
    part_as S (λ U. used_by U one.0) (side_of one.0) y one.1 r one.3 (λ U. side-used U one.0) (value_of-used at (AsValue e) one.0 S s one.1 tt n one.2)
given-used t at (AsPlace p) y S s r w n h =
    let one = bind-gives (value_of at (AsPlace p) s) (λ u. pure (side_of u)) y r h in
    part_as S (λ U. used_by U one.0) (side_of one.0) y one.1 r one.3 (λ U. side-used U one.0) (value_of-used at (AsPlace p) one.0 S s one.1 tt n one.2)

-- Leaves, names and literals

pub integer-used : (of : ConstantType) (n : ℕ) (at : Place) (o : Operand) (s r : State) → Operations.integer of n at s ≡ Gives o r → PartUsed o.part s.table r.table
unfolding Operations.integer
integer-used of n at o s r h =
    let one = leaf-gives at (pure (AsValue (typed.Integer of n at (integer_type (Integers.constant_type of))))) s o r h in
    part-same s.table (AsValue (typed.Integer of n at (integer_type (Integers.constant_type of)))) o.part s r one.0 (used-none s.table)

pub character-used : (n : ℤ) (at : Place) (o : Operand) (s r : State) → Operations.character n at s ≡ Gives o r → PartUsed o.part s.table r.table
unfolding Operations.character
character-used n at o s r h =
    let one = leaf-gives at (pure (AsValue (typed.Character n at int_type))) s o r h in
    part-same s.table (AsValue (typed.Character n at int_type)) o.part s r one.0 (used-none s.table)

counted-table : (at : Place) (bytes b : ℕ) (s r : State) → count_global at bytes s ≡ Gives b r → r.table ≡ s.table
unfolding count_global
counted-table at bytes b s r h = by (nat_le (s.seen.globals + (bytes + 16)) 4194304) h
  where
    by : (c : Bool) → (if c then Gives bytes (record s { seen = record s.seen { globals = s.seen.globals + (bytes + 16) } }) else Stops (TooLarge at Globals) s) ≡ Gives b r
        → r.table ≡ s.table
    by true q = ap (λ (w : State). w.table) (sym (gives-state bytes b (record s { seen = record s.seen { globals = s.seen.globals + (bytes + 16) } }) r q))
    by false q = never-gives b (TooLarge at Globals) s r q

string-made : (at : Place) (count : ℕ) (t : TypeId) (s r : State) → string_type at count s ≡ Gives t r → IsMade (Array (integer_type char) count) t s.table r.table
unfolding string_type
string-made at count t s r h = by (is_char_array s.table count) h
  where
    by : (b : Bool) → (if b then type_with at (Array (integer_type char) count) s else Stops (TooLarge at Types) s) ≡ Gives t r → IsMade (Array (integer_type char) count) t s.table r.table
    by true q = type_with-made at (Array (integer_type char) count) t s r q
    by false q = never-gives t (TooLarge at Types) s r q

pub literal-used : (pieces : List StringPiece) (o : Operand) (s r : State) → literal pieces s ≡ Gives o r → PartUsed o.part s.table r.table
unfolding literal
literal-used pieces o s r h =
    let at = pieces_place pieces in
    let size = literal_size pieces in
    let one = leaf-gives at (new_node at >>= (λ n. string_type at size >>= (λ t. count_global at size >>= (λ b. pure (AsPlace (typed.String pieces n t)))))) s o r h in
    let two = bind-gives (new_node at s) (λ n. string_type at size >>= (λ t. count_global at size >>= (λ b. pure (AsPlace (typed.String pieces n t))))) o.part r one.0 in
    let three = bind-gives (string_type at size two.1) (λ t. count_global at size >>= (λ b. pure (AsPlace (typed.String pieces two.0 t)))) o.part r two.3 in
    let four = bind-gives (count_global at size three.1) (λ b. pure (AsPlace (typed.String pieces two.0 three.0))) o.part r three.3 in
    let taken = made-used (Array (integer_type char) (literal_size pieces)) three.0 two.1.table three.1.table (string-made at size three.0 two.1 three.1 three.2) in
    let here = subst (λ (T : Table). IsUsed (Alone three.0) T three.1.table) (node-table at two.0 s two.1 two.2) taken in
    part-same s.table (AsPlace (typed.String pieces two.0 three.0)) o.part four.1 r four.3
    (used-still (Alone three.0) s.table three.1.table four.1.table (counted-table at size four.0 three.1 four.1 four.2) here)

pub number-table : (at : Place) (o : Option ℕ) (i : ℕ) (s r : State) → numbered at o s ≡ Gives i r → r.table ≡ s.table
unfolding numbered
number-table at None i s r h = never-gives i (TooLarge at Types) s r h
number-table at (Some n) i s r h = by (nat_lt n 4294967296) h
  where
    by : (b : Bool) → (if b then pure n else stop (TooLarge at Types)) s ≡ Gives i r → r.table ≡ s.table
    by true q = ap (λ (w : State). w.table) (sym (gives-state n i s r q))
    by false q = never-gives i (TooLarge at Types) s r q

module _ (word : Identifier) (x : Elaborated) (s r : State) where
  named-used : (runtime : Option Runtime) (what : Option Declared) → named_as word runtime what s ≡ Gives x r → PartUsed x s.table r.table
  unfolding named_as function_name
  named-used runtime (Some (declared.Object t home)) h = part-same s.table (AsPlace (typed.Variable word home t)) x s r h (used-none s.table)
  named-used runtime (Some (declared.Enumerator n)) h = part-same s.table (AsValue (typed.Enumerator word n int_type)) x s r h (used-none s.table)
  named-used runtime (Some (declared.Typedef t)) h = never-gives x (TooLarge word.place Types) s r h
  named-used (Some function) (Some (declared.Function t)) h = part-same s.table (AsValue (typed.RuntimeName word function void_type)) x s r h (used-none s.table)
  named-used (Some function) None h = part-same s.table (AsValue (typed.RuntimeName word function void_type)) x s r h (used-none s.table)
  named-used None (Some (declared.Function t)) h =
      let one = bind-gives (numbered word.place (place_among s.seen.scopes.defined word.bytes) s)
      (λ number. new_pointer word.place t >>= (λ made. pure (AsValue (typed.FunctionName word number made.node made.type)))) x r h in
      let two = bind-gives (new_pointer word.place t one.1) (λ made. pure (AsValue (typed.FunctionName word one.0 made.node made.type))) x r one.3 in
      let taken = new_pointer-used word.place t two.0 one.1 two.1 two.2 in
      let same = number-table word.place (place_among s.seen.scopes.defined word.bytes) one.0 s one.1 one.2 in
      part-same s.table (AsValue (typed.FunctionName word one.0 two.0.node two.0.type)) x two.1 r two.3
      (subst (λ (T : Table). IsUsed (Alone two.0.type) T two.1.table) same taken)
  named-used None None h = never-gives x (TooLarge word.place Types) s r h

pub name-used : (called : Bool) (word : Identifier) (o : Operand) (s r : State) → Assignments.name called word s ≡ Gives o r → PartUsed o.part s.table r.table
unfolding Assignments.name
name-used called word o s r h =
    let c = construct-gives (λ (q : State). Tests.name_tests q.seen.scopes (has_some (runtime_of word.bytes)) called word.bytes word.place) word.place []
    (by_known (λ q. named_as word (runtime_of word.bytes) (name_in q.seen.scopes.levels word.bytes))) s o r h in
    named-used word o.part s r (runtime_of word.bytes) (name_in s.seen.scopes.levels word.bytes) c.part

-- Operators on one operand

pub paren-used : (at : Place) (x o : Operand) (S : Table) (s r : State) → PartUsed x.part S s.table → Operations.paren at x s ≡ Gives o r → PartUsed o.part S r.table
unfolding Operations.paren
paren-used at x o S s r n h =
    let c = construct-gives (λ (q : State). []) at (x.held ∷ []) (pure (in_parens at x.part)) s o r h in
    part_as S (λ U. used_by_part U x.part) (in_parens at x.part) o.part s r c.part (λ U. same U x.part) n
  where
    same : (U : Table) (y : Elaborated) → used_by_part U (in_parens at y) ≡ used_by_part U y
    same U (AsPlace p) = refl
    same U (AsValue e) = refl
    same U (AsAllocation e) = refl

pub target-used : (at : Place) (v : Value) (o : Operand) (S : Table) (s r : State) → ValueUsed v.expr S s.table → target_of at v s ≡ Gives o r → PartUsed o.part S r.table
unfolding target_of
target-used at v o S s r n h =
    let c = construct-gives (λ (q : State). Tests.target_tests q.table q.seen.scopes at (AsValue v.expr)) at (v.held ∷ [])
    (by_known (λ q. pure (pointed q.table at v.expr (pointee_at q.table (type_of v.expr))))) s o r h in
    part_as S (λ U. used_by U v.expr) (pointed s.table at v.expr (pointee_at s.table (type_of v.expr))) o.part s r c.part (λ U. same U (pointee_at s.table (type_of v.expr))) n
  where
    by : (U : Table) (t : TypeId) (b : Bool) → used_by_part U (pointed_place at v.expr t b) ≡ used_by U v.expr
    by U t true = refl
    by U t false = refl

    same : (U : Table) (t : Option TypeId) → used_by_part U (pointed s.table at v.expr t) ≡ used_by U v.expr
    same U None = refl
    same U (Some t) = by U t (is_function_shape (shape_at s.table t))

pub address-used : (at : Place) (x o : Operand) (S : Table) (s r : State) → PartUsed x.part S s.table → address at x s ≡ Gives o r → PartUsed o.part S r.table
unfolding address address_of_part address_behind
address-used at x o S s r n h =
    let c = construct-gives (λ (q : State). Tests.address_tests at x.part) at (x.held ∷ []) (address_of_part at x.part) s o r h in
    by_part x.part n c.part
  where
    behind : (p : TypedPlace) (q : Option TypedExpr) → PlaceUsed p S s.table → address_behind at p q s ≡ Gives o.part r → PartUsed o.part S r.table
    behind p (Some e) m g = part-same S (AsValue (typed.AddressOfElement at p (type_of e))) o.part s r g m
    behind p None m g =
        let one = bind-gives (new_pointer at (place_type p) s) (λ made. pure (AsValue (typed.AddressOf at p made.node made.type))) o.part r g in
        part-same S (AsValue (typed.AddressOf at p one.0.node one.0.type)) o.part one.1 r one.3
        (then_used (λ U. used_by_place U p) (Alone one.0.type) S s.table one.1.table m (new_pointer-used at (place_type p) one.0 s one.1 one.2))

    by_part : (y : Elaborated) → PartUsed y S s.table → address_of_part at y s ≡ Gives o.part r → PartUsed o.part S r.table
    by_part (AsPlace p) m g = behind p (pointer_behind p) m g
    by_part (AsValue e) m g = part-same S (AsValue (typed.AddressOfFunction at e)) o.part s r g m
    by_part (AsAllocation e) m g = never-gives o.part (TooLarge at Types) s r g

operator-used : (operator : Unary) (U T : Table) (at : Place) (e : TypedExpr) → used_by U (operator_on T operator at e) ≡ used_by U e
operator-used operator U T at e = by operator
  where
    promoted_by : (u : Unary) (k : Option IntegerType) → used_by U (promoted_operand u at e k) ≡ used_by U e
    promoted_by u (Some k) = to_integer-used U at (integer_type (promoted k)) e
    promoted_by u None = refl

    by : (u : Unary) → used_by U (operator_on T u at e) ≡ used_by U e
    by unary.Not = refl
    by u = promoted_by u (integer_at T (type_of e))

pub prefix-used : (operator : Unary) (at : Place) (v : Value) (o : Operand) (S : Table) (s r : State) → ValueUsed v.expr S s.table → prefix_of operator at v s ≡ Gives o r
    → PartUsed o.part S r.table
unfolding prefix_of
prefix-used operator at v o S s r n h =
    let c = construct-gives (λ (q : State). Tests.prefix_tests q.table q.seen.scopes operator at (AsValue v.expr)) at (v.held ∷ [])
    (by_known (λ q. pure (AsValue (operator_on q.table operator at v.expr)))) s o r h in
    part_as S (λ U. used_by U v.expr) (AsValue (operator_on s.table operator at v.expr)) o.part s r c.part (λ U. operator-used operator U s.table at v.expr) n

pub size-used : (at : Place) (x o : Operand) (S : Table) (s r : State) → IsWhole x.part → PartUsed x.part S s.table → Operations.size at x s ≡ Gives o r → PartUsed o.part S r.table
unfolding Operations.size size_of_part
size-used at x o S s r w n h =
    let c = construct-gives (λ (q : State). Tests.size_tests q.table q.seen.scopes at x.part) at (x.held ∷ []) (size_of_part at x.place x.part) s o r h in
    by_part x.part w n c.part
  where
    of_value : (y : Elaborated) → IsWhole y → PartUsed y S s.table
        → next (value_of x.place y s) (λ e. by_known (λ q. pure (AsValue (typed.SizeOfValue at e (size_of q.table (type_of e)) Operations.size_type)))) ≡ Gives o.part r
        → PartUsed o.part S r.table
    of_value y u m g =
        let one = bind-gives (value_of x.place y s) (λ e. by_known (λ q. pure (AsValue (typed.SizeOfValue at e (size_of q.table (type_of e)) Operations.size_type)))) o.part r g in
        part-same S (AsValue (typed.SizeOfValue at one.0 (size_of one.1.table (type_of one.0)) Operations.size_type)) o.part one.1 r one.3
        (value_of-used x.place y one.0 S s one.1 u m one.2)

    by_part : (y : Elaborated) → IsWhole y → PartUsed y S s.table → size_of_part at x.place y s ≡ Gives o.part r → PartUsed o.part S r.table
    by_part (AsPlace p) u m g = part-same S (AsValue (typed.SizeOfPlace at p (size_of s.table (place_type p)) Operations.size_type)) o.part s r g m
    by_part (AsValue e) u m g = of_value (AsValue e) u m g
    by_part (AsAllocation e) u m g = of_value (AsAllocation e) u m g

step_used : (made : TypedPlace → TypedExpr) (at : Place) (x : Elaborated) (o : Elaborated) (S : Table) (s r : State) → ((U : Table) (p : TypedPlace) → used_by U (made p) ≡ used_by_place U p)
    → PartUsed x S s.table → step_part made at x s ≡ Gives o r → PartUsed o S r.table
unfolding step_part
step_used made at (AsPlace p) o S s r same n h = part_as S (λ U. used_by_place U p) (AsValue (made p)) o s r h (λ U. same U p) n
step_used made at (AsValue e) o S s r same n h = never-gives o (TooLarge at Types) s r h
step_used made at (AsAllocation e) o S s r same n h = never-gives o (TooLarge at Types) s r h

pub before-used : (operator : Step) (at : Place) (x o : Operand) (S : Table) (s r : State) → PartUsed x.part S s.table → step_before operator at x s ≡ Gives o r → PartUsed o.part S r.table
unfolding step_before
before-used operator at x o S s r n h =
    let c = construct-gives (λ (q : State). Tests.step_tests q.table q.seen.scopes at x.part) at (x.held ∷ []) (step_part (λ p. typed.StepBefore operator at p) at x.part) s o r h in
    step_used (λ p. typed.StepBefore operator at p) at x.part o.part S s r (λ U p. refl) n c.part

pub after-used : (operator : Step) (at : Place) (x o : Operand) (S : Table) (s r : State) → PartUsed x.part S s.table → step_after operator at x s ≡ Gives o r → PartUsed o.part S r.table
unfolding step_after
after-used operator at x o S s r n h =
    let c = construct-gives (λ (q : State). Tests.step_tests q.table q.seen.scopes at x.part) x.place (x.held ∷ []) (step_part (λ p. typed.StepAfter p operator at) at x.part) s o r h in
    step_used (λ p. typed.StepAfter p operator at) at x.part o.part S s r (λ U p. refl) n c.part

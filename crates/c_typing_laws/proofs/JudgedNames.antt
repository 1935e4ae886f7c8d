-- What judging gives for names and string literals.
use Rattle.std.proofs.Common.{◌≡◌, ◌≢◌, ℕ, ◌+◌, Bool, true, false, not, ◌&&◌, ◌||◌, nat_le, List, [], length, Option, Some, None, refl, ap, sym, subst, ◌∙◌, inl, inr, if◌then◌else◌, codes, MatchOption, arith, true≢false}
use Rattle.std.proofs.lemmas.List.Elements.{All-nil, All-cons}
use Rattle.cc_base.specs.declared.place.Place.{Place}
use Rattle.cc_base.specs.declared.number.TypeId.{TypeId}
use Rattle.cc_base.specs.declared.fault.Fault.TheVariants.{Refused, TooLarge}
use Rattle.cc_base.specs.declared.fault.Limit.TheVariants.{Types, Globals}
use Rattle.cc_base.specs.declared.fault.Rule.TheVariants as rule
use Rattle.c_types.specs.declared.shape.TypeShape.{TypeShape}
use Rattle.c_types.specs.declared.shape.TypeShape.TheVariants.{Integer, Array}
use Rattle.c_types.specs.Table.{Table, IsType, IsComplete, shape_at, members_at, is_complete_entry}
use Rattle.c_types.specs.Calls.{IsAddable}
use Rattle.c_tree.specs.Literals.{pieces_bytes}
use Rattle.c_tree.specs.declared.leaf.Identifier.{Identifier}
use Rattle.c_tree.specs.declared.leaf.StringPiece.{StringPiece}
use Rattle.c_tree.specs.declared.typed_word.Runtime.{Runtime}
use Rattle.c_tree.specs.Places.{pieces_place}
use Rattle.c_tree.specs.Tree as tree
use Rattle.c_tree.specs.TypedTree as typed
use Rattle.integers.specs.Arithmetic.{int}
use Rattle.runtime_calls.specs.Prototypes.{IsNamed, IsNoName, runtime_of}
use Rattle.runtime_calls.proofs.Found.{runtime_of-exact}
use Rattle.c_typing.specs.declared.declared.Declared.{Declared}
use Rattle.c_typing.specs.declared.declared.Declared.TheVariants as declared
use Rattle.c_typing.specs.Assignments.{string_type, is_char_array, function_name, named_as, name, count_global, literal}
use Rattle.c_typing.specs.Integers.{char}
use Rattle.c_typing.specs.Judging.{State, Gives, Stops, ◌>>=◌, pure, by_known, new_node, new_pointer, type_with, void_type, integer_type}
use Rattle.c_typing.specs.Operands.{Operand}
use Rattle.c_typing.specs.Operations.{int_type, numbered}
use Rattle.c_typing.specs.Rules.{is_hidden}
use Rattle.c_typing.specs.Scopes.{name_in, place_among}
use Rattle.c_typing.specs.Settled.{IsKnown, GoesOnThere, IsJudged}
use Rattle.c_typing.specs.Tests.{AsPlace, AsValue, name_tests, has_some, is_main, is_none, is_function_declared, is_type_declared}
use Rattle.c_typing_laws.proofs.ExtensionLaws.{extended_refl}
use Rattle.c_typing_laws.proofs.ConstructLaws.{two_unbroken, or_left}
use Rattle.c_typing_laws.proofs.Outcomes.{construct-gives, leaf-gives, gives-state, never-gives, bind-gives}
use Rattle.c_typing_laws.proofs.KnownScopes.{object-there}
use Rattle.c_typing_laws.proofs.KnownStates.{there-on, node-there, new_pointer-gives, type_with-found, type_with-there}
use Rattle.c_typing_laws.proofs.KeptRules.{has-kept}
use Rattle.c_typing_laws.proofs.JudgedOperators.{made-here, made-later}
use Rattle.c_typing_laws.proofs.JudgedMembers.{numbered-gives}

runtime_named : (word : List ℕ) (function : Runtime) → runtime_of word ≡ Some function → IsNamed word function
runtime_named word function h = subst (λ (o : Option Runtime). MatchOption o (IsNoName word) (IsNamed word)) h (runtime_of-exact word)

not_main : (word : List ℕ) → is_main word ≡ false → word ≢ codes "main"
not_main word h e = true≢false (sym (ap is_main e) ∙ h)

module _ (called : Bool) (word : Identifier) (o : Operand) (s r : State) (k : IsKnown s) (place : o.place ≡ word.place) where
  function-judged : (t : TypeId) → name_in s.seen.scopes.levels word.bytes ≡ Some (declared.Function t) → is_main word.bytes ≡ false
      → function_name word t s ≡ Gives o.part r → IsJudged (tree.Name word) o s.seen.scopes s r
  unfolding function_name
  function-judged t known main h =
      let one = bind-gives (numbered word.place (place_among s.seen.scopes.defined word.bytes) s)
      (λ number. new_pointer word.place t >>= (λ made. pure (AsValue (typed.FunctionName word number made.node made.type)))) o.part r h in
      let first = numbered-gives word.place (place_among s.seen.scopes.defined word.bytes) one.0 s one.1 one.2 in
      let two = bind-gives (new_pointer word.place t one.1) (λ made. pure (AsValue (typed.FunctionName word one.0 made.node made.type))) o.part r one.3 in
      let found = new_pointer-gives word.place t two.0 s two.1 k (ap (new_pointer word.place t) (sym first.1) ∙ two.2) in
      made-later (tree.Name word) (AsValue (typed.FunctionName word one.0 two.0.node two.0.type)) o s.seen.scopes s two.1 r found.1.goes two.3 place (
        (
          found.1.scopes,
          record { function = t; known = known; defined = first.0; not_main = not_main word.bytes main; type = found.0 },
        ),
        refl,
        refl,
      )

  runtime-judged : (function : Runtime) → runtime_of word.bytes ≡ Some function → is_hidden (name_in s.seen.scopes.levels word.bytes) ≡ false
      → Gives (AsValue (typed.RuntimeName word function void_type)) s ≡ Gives o.part r → IsJudged (tree.Name word) o s.seen.scopes s r
  runtime-judged function known hidden h =
      made-here (tree.Name word) (AsValue (typed.RuntimeName word function void_type)) o s.seen.scopes s r k h place
      ((refl, record { seen = hidden; named = runtime_named word.bytes function known; type = k.basic.void }), refl, refl)

  named-judged : (runtime : Option Runtime) (what : Option Declared) → runtime_of word.bytes ≡ runtime → name_in s.seen.scopes.levels word.bytes ≡ what
      → (is_function_declared what && is_main word.bytes) ≡ false → named_as word runtime what s ≡ Gives o.part r → IsJudged (tree.Name word) o s.seen.scopes s r
  unfolding named_as
  named-judged runtime (Some (declared.Object t home)) q p u h =
      made-here (tree.Name word) (AsPlace (typed.Variable word home t)) o s.seen.scopes s r k h place ((refl, p, object-there s k word.bytes t home p), refl)
  named-judged runtime (Some (declared.Enumerator n)) q p u h =
      made-here (tree.Name word) (AsValue (typed.Enumerator word n int_type)) o s.seen.scopes s r k h place
      ((refl, record { known = p; type = k.basic.integers int (inr (inr (inl refl))) }), refl, refl)
  named-judged runtime (Some (declared.Typedef t)) q p u h = never-gives o.part (TooLarge word.place Types) s r h
  named-judged (Some function) (Some (declared.Function t)) q p u h = runtime-judged function q (ap is_hidden p) h
  named-judged (Some function) None q p u h = runtime-judged function q (ap is_hidden p) h
  named-judged None (Some (declared.Function t)) q p u h = function-judged t p u h
  named-judged None None q p u h = never-gives o.part (TooLarge word.place Types) s r h

pub name-judged : (called : Bool) (word : Identifier) (o : Operand) (s r : State) → IsKnown s → name called word s ≡ Gives o r
    → IsJudged (tree.Name word) o s.seen.scopes s r
unfolding name
name-judged called word o s r k h =
    let runtime : Bool = has_some (runtime_of word.bytes) in
    let what : Option Declared = name_in s.seen.scopes.levels word.bytes in
    let c = construct-gives (λ (q : State). name_tests q.seen.scopes (has_some (runtime_of word.bytes)) called word.bytes word.place) word.place []
    (by_known (λ q. named_as word (runtime_of word.bytes) (name_in q.seen.scopes.levels word.bytes))) s o r h in
    let two = two_unbroken
    ((is_none what && not runtime) || (is_type_declared what || (is_function_declared what && (not runtime && is_none (place_among s.seen.scopes.defined word.bytes)))))
    ((is_function_declared what && is_main word.bytes) || (runtime && (not called && (is_none what || is_function_declared what))))
    (Refused word.place rule.UnknownName) (Refused word.place rule.BadCall) c.unbroken in
    named-judged called word o s r k c.place (runtime_of word.bytes) what refl refl
    (or_left (is_function_declared what && is_main word.bytes) (runtime && (not called && (is_none what || is_function_declared what))) two.1) c.part

-- String literals

counted : ℕ → State → State
counted bytes s = record s { seen = record s.seen { globals = s.seen.globals + (bytes + 16) } }

count-gives : (at : Place) (bytes n : ℕ) (s r : State) → IsKnown s → count_global at bytes s ≡ Gives n r → GoesOnThere s r
unfolding count_global
count-gives at bytes n s r k h = by (nat_le (s.seen.globals + (bytes + 16)) 4194304) h
  where
    after : State
    after = record s { seen = record s.seen { globals = s.seen.globals + (bytes + 16) } }

    here : GoesOnThere s after
    here = record {
      goes = record { extends = extended_refl s.table; known = record { basic = k.basic; followed = k.followed; levels = k.levels; numbered = k.numbered } };
      scopes = refl;
    }

    by : (b : Bool) → (if b then Gives bytes (record s { seen = record s.seen { globals = s.seen.globals + (bytes + 16) } }) else Stops (TooLarge at Globals) s) ≡ Gives n r → GoesOnThere s r
    by true q = subst (GoesOnThere s) (gives-state bytes n after r q) here
    by false q = never-gives n (TooLarge at Globals) s r q

array_addable : (T : Table) (t : TypeId) (count : ℕ) → IsType T t → IsComplete T t → IsAddable T (Array t (count + 1))
array_addable T t count h c = record { proper = omega arith; named = All-cons (IsType T) t [] h (All-nil (IsType T)); parts = c }

integer_complete : (T : Table) (t : TypeId) (w : ℕ) (g : Bool) → shape_at T t ≡ Integer w g → IsComplete T t
integer_complete T t w g h = subst (λ (x : TypeShape). is_complete_entry x (members_at T t) ≡ true) (sym h) refl

-- the type of a literal is added as any other
string_type-gives : (at : Place) (n : ℕ) (t : TypeId) (s r : State) → string_type at n s ≡ Gives t r → type_with at (Array (integer_type char) n) s ≡ Gives t r
unfolding string_type
string_type-gives at n t s r h = by (is_char_array s.table n) h
  where
    by : (b : Bool) → (if b then type_with at (Array (integer_type char) n) s else Stops (TooLarge at Types) s) ≡ Gives t r → type_with at (Array (integer_type char) n) s ≡ Gives t r
    by true q = q
    by false q = never-gives t (TooLarge at Types) s r q

pub literal-judged : (pieces : List StringPiece) (o : Operand) (s r : State) → IsKnown s → literal pieces s ≡ Gives o r
    → IsJudged (tree.String pieces) o s.seen.scopes s r
unfolding literal
literal-judged pieces o s r k h =
    let at : Place = pieces_place pieces in
    let count : ℕ = length (pieces_bytes pieces) in
    let leaf = leaf-gives at (new_node at >>= (λ n. string_type at (count + 1) >>= (λ t. count_global at (count + 1) >>= (λ bytes. pure (AsPlace (typed.String pieces n t))))))
    s o r h in
    let one = bind-gives (new_node at s) (λ n. string_type at (count + 1) >>= (λ t. count_global at (count + 1) >>= (λ bytes. pure (AsPlace (typed.String pieces n t))))) o.part r leaf.0 in
    let first = node-there at one.0 s one.1 k one.2 in
    let known = first.goes.known in
    let own = known.basic.integers char (inl refl) in
    let two = bind-gives (string_type at (count + 1) one.1) (λ t. count_global at (count + 1) >>= (λ bytes. pure (AsPlace (typed.String pieces one.0 t)))) o.part r one.3 in
    let made = string_type-gives at (count + 1) two.0 one.1 two.1 two.2 in
    let whole = integer_complete one.1.table (integer_type char) 1 true own.1 in
    let addable = array_addable one.1.table (integer_type char) count own.0 whole in
    let parts = All-cons (IsComplete one.1.table) (integer_type char) [] whole (All-nil (IsComplete one.1.table)) in
    let found = type_with-found at (Array (integer_type char) (count + 1)) two.0 one.1 two.1 known addable parts refl made in
    let second = type_with-there at (Array (integer_type char) (count + 1)) two.0 one.1 two.1 known addable parts refl made in
    let three = bind-gives (count_global at (count + 1) two.1) (λ bytes. pure (AsPlace (typed.String pieces one.0 two.0))) o.part r two.3 in
    let third = count-gives at (count + 1) three.0 two.1 three.1 second.goes.known three.2 in
    let all = there-on s one.1 three.1 first (there-on one.1 two.1 three.1 second third) in
    let grows = third.goes.extends in
    made-later (tree.String pieces) (AsPlace (typed.String pieces one.0 two.0)) o s.seen.scopes s three.1 r all.goes three.3 leaf.1 (
      (
        all.scopes,
        record {
          element = integer_type char;
          char = third.goes.known.basic.integers char (inl refl);
          shape = has-kept two.1.table three.1.table grows second.goes.known.basic two.0 (Array (integer_type char) (count + 1)) found.shape;
        },
      ),
      refl,
    )

-- Names and string literals are given.
use Rattle.std.proofs.Common.{◌≡◌, ◌≤◌, ◌<◌, ◌+◌, ℕ, Bool, true, false, ◌&&◌, List, [], length, Option, Some, None, MatchOption, refl, ap, sym, subst, ◌∙◌, inl, inr, nat_lt, arith}
use Rattle.std.specs.Prelude.{bytes_eq}
use Rattle.std.proofs.lemmas.List.Elements.{All-nil, All-cons}
use Rattle.std.proofs.lemmas.List.Quantifiers.{position-Some}
use Rattle.std.proofs.lemmas.Option.{none-some}
use Rattle.cc_base.specs.declared.place.Place.{Place}
use Rattle.cc_base.specs.declared.number.NodeId.{NodeId}
use Rattle.cc_base.specs.declared.number.TypeId.{TypeId}
use Rattle.c_types.specs.declared.shape.TypeShape.{TypeShape}
use Rattle.c_types.specs.declared.shape.TypeShape.TheVariants.{Array}
use Rattle.c_types.specs.Table.{Table, HasShape, IsComplete, entry_at, members_at, is_complete, is_complete_entry}
use Rattle.c_tree.specs.declared.leaf.Identifier.{Identifier}
use Rattle.c_tree.specs.declared.leaf.StringPiece.{StringPiece}
use Rattle.c_tree.specs.declared.typed_word.Runtime.{Runtime}
use Rattle.c_tree.specs.Places.{pieces_place}
use Rattle.c_tree.specs.Tree as tree
use Rattle.c_tree.specs.TypedTree as typed
use Rattle.c_tree.specs.TypedTree.{TypedExpr, TypedPlace}
use Rattle.runtime_calls.specs.Prototypes.{IsNamed, IsNoName, runtime_of}
use Rattle.runtime_calls.proofs.Found.{runtime_of-exact}
use Rattle.c_typing.specs.declared.declared.Declared.{Declared}
use Rattle.c_typing.specs.declared.declared.Declared.TheVariants as declared
use Rattle.c_typing.specs.Assignments.{name, named_as, function_name, literal, literal_size, string_type, is_char_array, count_global}
use Rattle.c_typing.specs.Extensions.{IsExtended}
use Rattle.c_typing.specs.Held.{held_with}
use Rattle.c_typing.specs.Integers.{char}
use Rattle.c_typing.specs.Judging.{State, Outcome, Gives, ◌>>=◌, pure, by_known, new_node, new_pointer, Pointing, void_type, integer_type}
use Rattle.c_typing.specs.Operations.{int_type, numbered}
use Rattle.c_typing.specs.Rules.{is_hidden}
use Rattle.c_typing.specs.Scopes.{Scopes, Seen, name_in, place_among}
use Rattle.c_typing.specs.Settled.{IsBasic, IsKnown}
use Rattle.c_typing.specs.Tests.{Elaborated, AsPlace, AsValue, first_broken, name_tests, has_some}
use Rattle.c_typing.specs.Walks.{judge}
use Rattle.c_typing_unique.proofs.Reading.{Part}
use Rattle.c_typing_unique.proofs.Readings.{IsNamed as IsNamedPart, variable, enumerator, defined, library}
use Rattle.c_typing_unique.proofs.Shapes.{no_true}
use Rattle.c_typing_exact.proofs.NamePasses.{variable-passes, enumerator-passes, function-name-passes, runtime-name-passes}
use Rattle.c_typing_given.specs.Given.{point_at, IsPartGiven, IsGiven, IsCallableAs}
use Rattle.c_type_order.specs.TypesUsed.{IsUse}
use Rattle.c_typing_given.proofs.Constructing.{as-place, as-value, of-part, finish, uses-as, room-as}
use Rattle.c_typing_given.proofs.OperatorsGiven.{stay}
use Rattle.c_typing_given.proofs.PlacesGiven.{numbered-is}
use Rattle.c_typing_given.proofs.PointersGiven.{and-both}
use Rattle.c_typing_given.proofs.Settling.{of_part, small-kept}
use Rattle.c_typing_given.proofs.Steps.{then-is, construct-is, leaf-is, new_node-is, with_node, with_node-known, operand_with, pointing}
use Rattle.c_typing_given.proofs.TypeGiven.{IsTypeGiven, type-given, lt_true, le_true}
use Rattle.c_typing_given.proofs.ValuesGiven.{use-one, pointer-here, way-pointer}

judges_name : (called : Bool) (word : Identifier) (s : State) → judge called (tree.Name word) s ≡ name called word s
unfolding judge
judges_name called word s = refl

judges_string : (called : Bool) (pieces : List StringPiece) (s : State) → judge called (tree.String pieces) s ≡ literal pieces s
unfolding judge
judges_string called pieces s = refl

-- What a name stands for

named_object : (word : Identifier) (runtime : Option Runtime) (t : TypeId) (home : NodeId) (s : State)
    → named_as word runtime (Some (declared.Object t home)) s ≡ Gives (AsPlace (typed.Variable word home t)) s
unfolding named_as
named_object word None t home s = refl
named_object word (Some f) t home s = refl

named_enumerator : (word : Identifier) (runtime : Option Runtime) (value : _) (s : State)
    → named_as word runtime (Some (declared.Enumerator value)) s ≡ Gives (AsValue (typed.Enumerator word value int_type)) s
unfolding named_as
named_enumerator word None value s = refl
named_enumerator word (Some f) value s = refl

named_runtime : (word : Identifier) (f : Runtime) (what : Option Declared) (s : State) → is_hidden what ≡ false
    → named_as word (Some f) what s ≡ Gives (AsValue (typed.RuntimeName word f void_type)) s
unfolding named_as
named_runtime word f None s h = refl
named_runtime word f (Some (declared.Function t)) s h = refl
named_runtime word f (Some (declared.Object t home)) s h = no_true (sym h)
named_runtime word f (Some (declared.Typedef t)) s h = no_true (sym h)
named_runtime word f (Some (declared.Enumerator value)) s h = no_true (sym h)

named_function : (word : Identifier) (t : TypeId) (s : State) → named_as word None (Some (declared.Function t)) s ≡ function_name word t s
unfolding named_as
named_function word t s = refl

no_runtime : (word : List ℕ) → IsNoName word → runtime_of word ≡ None
no_runtime word h = by (runtime_of word) (runtime_of-exact word)
  where
    by : (o : Option Runtime) → MatchOption o (IsNoName word) (IsNamed word) → o ≡ None
    by None k = refl
    by (Some f) k = absurd (h f k)

some_runtime : (word : List ℕ) (f : Runtime) → IsNamed word f → (g : Runtime) × (runtime_of word ≡ Some g)
some_runtime word f h = by (runtime_of word) (runtime_of-exact word)
  where
    by : (o : Option Runtime) → MatchOption o (IsNoName word) (IsNamed word) → (g : Runtime) × (o ≡ Some g)
    by None k = absurd (k f h)
    by (Some g) k = (g, refl)

function_is : (word : Identifier) (function : TypeId) (number : ℕ) (n : NodeId) (t : TypeId) (s r : State) → place_among s.seen.scopes.defined word.bytes ≡ Some number
    → number < 4294967296 → new_pointer word.place function s ≡ Gives (pointing n t) r
    → function_name word function s ≡ Gives (AsValue (typed.FunctionName word number n t)) r
unfolding function_name
function_is word function number n t s r h few g =
    then-is (by_known (λ (q : State). numbered word.place (place_among q.seen.scopes.defined word.bytes)))
    (λ (i : ℕ). new_pointer word.place function >>= (λ (made : Pointing). pure (AsValue (typed.FunctionName word i made.node made.type)))) number s s
    (Gives (AsValue (typed.FunctionName word number n t)) r) (ap (λ (o : Option ℕ). numbered word.place o s) h ∙ numbered-is word.place number s few)
    (then-is (new_pointer word.place function) (λ (made : Pointing). pure (AsValue (typed.FunctionName word number made.node made.type))) (pointing n t) s r
    (Gives (AsValue (typed.FunctionName word number n t)) r) g refl)

name_is : (called : Bool) (word : Identifier) (y : Elaborated) (s r : State)
    → first_broken (name_tests s.seen.scopes (has_some (runtime_of word.bytes)) called word.bytes word.place) ≡ None
    → named_as word (runtime_of word.bytes) (name_in s.seen.scopes.levels word.bytes) s ≡ Gives y r → name called word s ≡ Gives (operand_with word.place y (held_with 0 [])) r
unfolding name
name_is called word y s r pass made =
    construct-is (λ (q : State). name_tests q.seen.scopes (has_some (runtime_of word.bytes)) called word.bytes word.place) word.place []
    (by_known (λ (q : State). named_as word (runtime_of word.bytes) (name_in q.seen.scopes.levels word.bytes))) s r y pass (omega arith) made

module _ (T : Table) (basic : IsBasic T) where
  pub name-given : (word : Identifier) → IsGiven T (tree.Name word)
  name-given word called z s b count here h c uses room holds = by (of_part z) refl (of-part T basic (tree.Name word) z (point_at s) b h).0
    where
      as_known : (runtime : Option Runtime) (what : Option Declared) (o : Outcome Elaborated) → runtime_of word.bytes ≡ runtime → name_in s.seen.scopes.levels word.bytes ≡ what
          → named_as word runtime what s ≡ o → named_as word (runtime_of word.bytes) (name_in s.seen.scopes.levels word.bytes) s ≡ o
      as_known runtime what o p q k = (λ i. named_as word (p i) (q i) s) ∙ k

      by : (y : Part) → of_part z ≡ y → IsNamedPart T word (point_at s) b y → IsPartGiven T called (tree.Name word) z s b count
      by _ k (variable home t w) =
          let q = as-place z (typed.Variable word home t) k in
          finish T basic called (tree.Name word) z (AsPlace (typed.Variable word home t)) (operand_with word.place (AsPlace (typed.Variable word home t)) (held_with 0 [])) s s b count here h q
          (judges_name called word s
          ∙ name_is called word (AsPlace (typed.Variable word home t)) s s (variable-passes T s.seen.scopes called word home t w)
          (as_known (runtime_of word.bytes) (Some (declared.Object t home)) (Gives (AsPlace (typed.Variable word home t)) s) refl w (named_object word (runtime_of word.bytes) t home s)))
          (stay T basic s count here (uses-as T basic z (AsPlace (typed.Variable word home t)) (length s.table) count q uses))
      by _ k (enumerator value t w) =
          let q = as-value T basic (tree.Name word) z (typed.Enumerator word value t) (point_at s) b h k refl in
          finish T basic called (tree.Name word) z (AsValue (typed.Enumerator word value t)) (operand_with word.place (AsValue (typed.Enumerator word value int_type)) (held_with 0 [])) s s b count here h q
          (judges_name called word s
          ∙ name_is called word (AsValue (typed.Enumerator word value int_type)) s s (enumerator-passes T s.seen.scopes called word value t w)
          (as_known (runtime_of word.bytes) (Some (declared.Enumerator value)) (Gives (AsValue (typed.Enumerator word value int_type)) s) refl w.known
          (named_enumerator word (runtime_of word.bytes) value s)))
          (stay T basic s count here (uses-as T basic z (AsValue (typed.Enumerator word value t)) (length s.table) count q uses))
      by _ k (defined number n t w node) =
          let q = as-value T basic (tree.Name word) z (typed.FunctionName word number n t) (point_at s) b h k refl in
          let p =
          pointer-here T basic word.place n t w.function s count here w.type node (uses-as T basic z (AsValue (typed.FunctionName word number n t)) (length s.table) count q uses)
          (room-as T basic z (AsValue (typed.FunctionName word number n t)) s q room) in
          let inside = (position-Some (bytes_eq word.bytes) s.seen.scopes.defined number [] w.defined).0 in
          let most = here.small.functions in
          finish T basic called (tree.Name word) z (AsValue (typed.FunctionName word number n t)) (operand_with word.place (AsValue (typed.FunctionName word number n t)) (held_with 0 [])) s p.after b count here h q
          (judges_name called word s
          ∙ name_is called word (AsValue (typed.FunctionName word number n t)) s p.after (function-name-passes T s.seen.scopes called word number n t here.own w)
          (as_known None (Some (declared.Function w.function)) (Gives (AsValue (typed.FunctionName word number n t)) p.after) (no_runtime word.bytes (here.own word.bytes number w.defined)) w.known
          (named_function word w.function s ∙ function_is word w.function number n t s p.after w.defined (omega (arith, inside, most)) p.gives)))
          (way-pointer T basic [] s s (length s.table) count word.place n t w.function here (stay T basic s (length s.table) here refl) p)
      by _ k (library f t w) = runtime called c
        where
          q : z ≡ AsValue (typed.RuntimeName word f t)
          q = as-value T basic (tree.Name word) z (typed.RuntimeName word f t) (point_at s) b h k refl

          runtime : (v : Bool) → IsCallableAs v z → IsPartGiven T v (tree.Name word) z s b count
          runtime true c =
              let g = some_runtime word.bytes f w.named in
              finish T basic true (tree.Name word) z (AsValue (typed.RuntimeName word f t)) (operand_with word.place (AsValue (typed.RuntimeName word g.0 void_type)) (held_with 0 [])) s s b count here h q
              (judges_name true word s
              ∙ name_is true word (AsValue (typed.RuntimeName word g.0 void_type)) s s (runtime-name-passes T s.seen.scopes true word f t refl w)
              (as_known (Some g.0) (name_in s.seen.scopes.levels word.bytes) (Gives (AsValue (typed.RuntimeName word g.0 void_type)) s) g.1 refl
              (named_runtime word g.0 (name_in s.seen.scopes.levels word.bytes) s w.seen)))
              (stay T basic s count here (uses-as T basic z (AsValue (typed.RuntimeName word f t)) (length s.table) count q uses))
          runtime false c = absurd (none-some f (sym (subst (IsCallableAs false) q c)))

  -- String literals

  char_complete : (J : Table) → IsBasic J → IsComplete J (integer_type char)
  char_complete J base =
      subst (λ (x : TypeShape). is_complete_entry x (members_at J (integer_type char)) ≡ true) (sym (base.integers char (inl refl)).1) refl

  string-given : (at : Place) (count : ℕ) (t : TypeId) (s : State) (m : ℕ) → IsKnown s → IsExtended s.table T → HasShape T t (Array (integer_type char) count) → 0 < count
      → IsUse t (length s.table) m → IsTypeGiven T basic (string_type at count s) t s m
  unfolding string_type
  string-given at count t s m k first has some used =
      let full = char_complete s.table k.basic in
      let g = type-given T basic at (Array (integer_type char) count) t s m k first has used (All-cons (IsComplete s.table) (integer_type char) [] full (All-nil (IsComplete s.table))) in
      let there : nat_lt 1 (length s.table) ≡ true = lt_true 1 (length s.table) (k.basic.integers char (inl refl)).0 in
      let b : is_char_array s.table count ≡ true =
      and-both (nat_lt 1 (length s.table)) (is_complete (entry_at s.table (integer_type char)) && nat_lt 0 count) there
      (and-both (is_complete (entry_at s.table (integer_type char))) (nat_lt 0 count) full (lt_true 0 count some)) in
      record { after = g.after; gives = rw b g.gives; first = g.first; count = g.count; seen = g.seen; bare = g.bare }

  count_is : (at : Place) (bytes : ℕ) (s : State) → s.seen.globals + (bytes + 16) ≤ 4194304
      → count_global at bytes s ≡ Gives bytes (record s { seen = record s.seen { globals = s.seen.globals + (bytes + 16) } })
  unfolding count_global
  count_is at bytes s h = rw (le_true (s.seen.globals + (bytes + 16)) 4194304 h) refl

  literal_is : (pieces : List StringPiece) (n : NodeId) (t : TypeId) (s r : State) → new_node (pieces_place pieces) s ≡ Gives n (with_node s)
      → string_type (pieces_place pieces) (literal_size pieces) (with_node s) ≡ Gives t r → r.seen.globals + (literal_size pieces + 16) ≤ 4194304
      → literal pieces s ≡ Gives (operand_with (pieces_place pieces) (AsPlace (typed.String pieces n t)) 1) (record r { seen = record r.seen { globals = r.seen.globals + (literal_size pieces + 16) } })
  unfolding literal
  literal_is pieces n t s r node type few =
      let after : State = record r { seen = record r.seen { globals = r.seen.globals + (literal_size pieces + 16) } } in
      leaf-is (pieces_place pieces)
      (new_node (pieces_place pieces) >>= (λ (m : NodeId). string_type (pieces_place pieces) (literal_size pieces) >>= (λ (u : TypeId). count_global (pieces_place pieces) (literal_size pieces) >>= (λ (bytes : ℕ). pure (AsPlace (typed.String pieces m u))))))
      s (record r { seen = record r.seen { globals = r.seen.globals + (literal_size pieces + 16) } }) (AsPlace (typed.String pieces n t))
      (then-is (new_node (pieces_place pieces)) (λ (m : NodeId). string_type (pieces_place pieces) (literal_size pieces) >>= (λ (u : TypeId). count_global (pieces_place pieces) (literal_size pieces) >>= (λ (bytes : ℕ). pure (AsPlace (typed.String pieces m u)))))
      n s (with_node s) (Gives (AsPlace (typed.String pieces n t)) after) node
      (then-is (string_type (pieces_place pieces) (literal_size pieces)) (λ (u : TypeId). count_global (pieces_place pieces) (literal_size pieces) >>= (λ (bytes : ℕ). pure (AsPlace (typed.String pieces n u))))
      t (with_node s) r (Gives (AsPlace (typed.String pieces n t)) after) type
      (then-is (count_global (pieces_place pieces) (literal_size pieces)) (λ (bytes : ℕ). pure (AsPlace (typed.String pieces n t))) (literal_size pieces) r after
      (Gives (AsPlace (typed.String pieces n t)) after) (count_is (pieces_place pieces) (literal_size pieces) r few) refl)))

  pub literal-given : (pieces : List StringPiece) → IsGiven T (tree.String pieces)
  literal-given pieces called z s b count here h c uses room holds =
      let i = of-part T basic (tree.String pieces) z (point_at s) b h in
      let n : NodeId = i.0 in
      let t : TypeId = i.1 in
      let q = as-place z (typed.String pieces i.0 i.1) i.4 in
      let us = use-one i.1 (length s.table) count (uses-as T basic z (AsPlace (typed.String pieces i.0 i.1)) (length s.table) count q uses) in
      let all = room-as T basic z (AsPlace (typed.String pieces i.0 i.1)) s q room in
      let char_known = basic.integers char (inl refl) in
      let element : i.2.element ≡ integer_type char = basic.formed.distinct i.2.element (integer_type char) i.2.char.0 (char_known.0, char_known.1 ∙ sym i.2.char.1) in
      let shape : HasShape T i.1 (Array (integer_type char) (literal_size pieces)) = (i.2.shape.0, i.2.shape.1 ∙ ap (λ (u : TypeId). Array u (literal_size pieces)) element) in
      let nodes = all.nodes in
      let globals = all.globals in
      let node = new_node-is (pieces_place pieces) i.0 s i.3 (omega (arith, nodes)) in
      let g = string-given (pieces_place pieces) (literal_size pieces) i.1 (with_node s) count (with_node-known s here.known) here.first shape (omega arith) us in
      let seen = g.seen in
      let few : g.after.seen.globals + (literal_size pieces + 16) ≤ 4194304 = let e = ap (λ (v : Seen). v.globals) seen in omega (arith, globals, e) in
      let after : State = record g.after { seen = record g.after.seen { globals = g.after.seen.globals + (literal_size pieces + 16) } } in
      let first = g.first in
      finish T basic called (tree.String pieces) z (AsPlace (typed.String pieces i.0 i.1)) (operand_with (pieces_place pieces) (AsPlace (typed.String pieces i.0 i.1)) 1) s
      (record g.after { seen = record g.after.seen { globals = g.after.seen.globals + (literal_size pieces + 16) } }) b count here h q
      (judges_string called pieces s ∙ literal_is pieces i.0 i.1 s g.after node g.gives few) (record {
        first = g.first;
        small = small-kept s (record g.after { seen = record g.after.seen { globals = g.after.seen.globals + (literal_size pieces + 16) } }) here.small
            (ap (λ (v : Seen). v.scopes.members) seen) (ap (λ (v : Seen). v.scopes.defined) seen) (use_longer i.1 (length s.table) count us g.after g.count)
            (levels_still (ap (λ (v : Seen). v.scopes) seen)) g.bare;
        types = g.count;
        spent = record {
          nodes = let e = ap (λ (v : Seen). v.node) seen in omega (arith, e);
          globals = let e = ap (λ (v : Seen). v.globals) seen in omega (arith, e);
          cells = let e = ap (λ (v : Seen). v.cells) seen in omega (arith, e);
        };
      })
    where
      levels_still : {c d : Scopes} → c ≡ d → 0 < length d.levels → 0 < length c.levels
      levels_still h o = let e = ap (λ (c : Scopes). length c.levels) h in omega (arith, e, o)

      use_longer : (t : TypeId) (n m : ℕ) → IsUse t n m → (r : State) → length r.table ≡ m → n ≤ length r.table
      use_longer t n m (inl u) r e = let k = u.1 in omega (arith, k, e)
      use_longer t n m (inr u) r e = let k = u.1 in omega (arith, k, e)

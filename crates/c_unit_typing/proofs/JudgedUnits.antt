-- What judging gives for a unit is well typed and erases to what was judged.
use Rattle.std.proofs.Common.{◌≡◌, Bool, true, false, ◌||◌, List, [], ◌∷◌, ◌++◌, Option, refl, ap, sym, subst, ◌∙◌, ◌⊎◌, inl, inr, bytes_eq, if◌then◌else◌, ◌≤◌, ◌+◌, ℕ, arith, nat_lt, length, None, Some}
use Rattle.std.specs.List.{All}
use Rattle.std.proofs.lemmas.List.{map-append}
use Rattle.std.proofs.lemmas.List.Elements.{All-nil, All-push, All-weaker}
use Rattle.std.proofs.lemmas.List.Folds.{list_any-append}
use Rattle.std.proofs.lemmas.Slice.Eq.{bytes_eq-Decides}
use Rattle.c_types.specs.Table.{IsType}
use Rattle.c_tree.specs.declared.leaf.Identifier.{Identifier}
use Rattle.c_tree.specs.Tree as tree
use Rattle.c_tree.specs.TypedTree as typed
use Rattle.c_tree.specs.TypedTree.{TypedTranslationUnit}
use Rattle.c_tree.specs.TypedParts.{DefinedFunction, functions_of, name_of, declared_type, made_by_unit, made_by_declaration}
use Rattle.c_typing.specs.Declarators.{name_bytes}
use Rattle.c_typing.specs.declared.declared.Declared.TheVariants as declared
use Rattle.c_typing.specs.Scopes.{Name}
use Rattle.c_typing_laws.proofs.ExtensionLaws.{no_true, still_in}
use Rattle.c_typing_laws.proofs.KeptTypes.{same_exact}
use Rattle.c_typing_laws.proofs.TableGrowth.{extended_trans}
use Rattle.c_type_order.proofs.Uses.{used-none, then_used}
use Rattle.c_unit_typing.specs.DeclarationJudging.{judge_declaration}
use Rattle.c_unit_typing.specs.DefinitionJudging.{judge_definition, judge_unit, with_named, functions_written}
use Rattle.c_unit_typing.specs.Linkage.{with_name}
use Rattle.c_unit_typing.specs.Units.{is_one_of}
use Rattle.c_unit_typing.specs.UnitJudged.{state_of, IsUnitKnown, UnitGoesOn, IsUnitJudged}
use Rattle.c_unit_typing.specs.UnitJudging.{UnitState, Gives, known_of, next, pure}
use Rattle.c_unit_typing.specs.WellTyped.{defined_names}
use Rattle.c_unit_typing.proofs.JudgedDeclarations.{declaration-judged}
use Rattle.c_unit_typing.proofs.JudgedDefinitions.{IsFunctionLinked, definition-judged}
use Rattle.c_unit_typing.proofs.NameSteps.{linked-there}
use Rattle.c_unit_typing.proofs.UnitOutcomes.{bind-gives, given-same}
use Rattle.std.specs.List.{position_or_len}
use Rattle.std.proofs.lemmas.List.{length-append, append_assoc}
use Rattle.std.proofs.lemmas.Option.{none-some}
use Rattle.c_typing.specs.Scopes.{place_among}
use Rattle.c_typing_laws.proofs.ConstructLaws.{or_left, or_right}
use Rattle.c_typing_laws.proofs.ExtensionLaws.{extended_refl}
use Rattle.c_unit_typing.proofs.JudgedDefinitions.{IsPlaced}
use Rattle.c_unit_typing.proofs.NameSteps.{some-same}
use Rattle.c_unit_typing.proofs.UnitStillDefined.{unit-defined}
use Rattle.c_unit_typing.proofs.UnitStates.{numbers-on, numbers-none, unit-stays, unit-on}
use Rattle.c_unit_typing.specs.TypesUsed.{used_by_declaration, used_by_unit}

-- Functions that were defined

abbrev pub name_in_bytes : DefinedFunction → Name
name_in_bytes f = name_bytes (name_of f.declarator)

-- a defined function has linkage, and its type is in the table
abbrev pub IsFunctionHere : UnitState → DefinedFunction → Type 0
IsFunctionHere r f = IsFunctionLinked r.table r.linkage.linked (name_in_bytes f) (declared_type f.declarator) × IsType r.table (declared_type f.declarator)

here_later : (s r : UnitState) → IsUnitKnown s → UnitGoesOn s r → (f : DefinedFunction) → IsFunctionHere s f → IsFunctionHere r f
here_later s r k g f h =
    let first = h.0.first in
    let x = g.goes.extends in (
      record {
        first = first;
        found = g.linked (name_in_bytes f) (declared.Function first) h.0.found;
        same = elim h.0.same [
          | inl e ↦ inl e
          | inr e ↦ inr (same_exact s.table r.table x k.known.basic first (declared_type f.declarator)
              (linked-there s k (name_in_bytes f) (declared.Function first) h.0.found).0 h.1 ∙ e)
        ];
      },
      still_in s.table r.table x (declared_type f.declarator) h.1,
    )

-- a unit, and what is known of the functions that it defines
pub record IsWholeJudged (u : tree.TranslationUnit) (whole : TypedTranslationUnit) (s r : UnitState) : Type 0 where
  pub judged : IsUnitJudged u whole s r
  pub names : defined_names whole ≡ functions_written u
  pub defined : (name : Name) → is_one_of (functions_written u) name ≡ true → is_one_of r.linkage.defined name ≡ true
  pub functions : All (IsFunctionHere r) (functions_of whole)
  -- no more than there is room for, where these are the first of all that the unit defines
  pub few : (rest : List Name) → s.seen.scopes.defined ≡ functions_written u ++ rest → length (functions_written u) ≤ 65535

-- a name behind others, none of which it is
behind_others : (names : List Name) (name : Name) (rest : List Name) → is_one_of names name ≡ false → position_or_len (bytes_eq name) (names ++ name ∷ rest) ≡ length names
behind_others [] name rest h = rw ((bytes_eq-Decides name name).1 refl) refl
behind_others (other ∷ names) name rest h =
    let apart = or_left (bytes_eq name other) (is_one_of names name) h in
    let more = behind_others names name rest (or_right (bytes_eq name other) (is_one_of names name) h) in
    rw apart (omega (arith, more))

place_number : (names : List Name) (name : Name) (number : ℕ) → place_among names name ≡ Some number → number ≡ position_or_len (bytes_eq name) names
place_number names name number h = by (nat_lt (position_or_len (bytes_eq name) names) (length names)) h
  where
    by : (b : Bool) → (if b then Some (position_or_len (bytes_eq name) names) else None) ≡ Some number → number ≡ position_or_len (bytes_eq name) names
    by true g = sym (some-same (position_or_len (bytes_eq name) names) number g)
    by false g = absurd (none-some number g)

one_behind : (names : List Name) (name : Name) (rest all : List Name) → all ≡ names ++ name ∷ rest → is_one_of names name ≡ false → IsPlaced (place_among all name)
    → length (names ++ name ∷ []) ≤ 65535
one_behind names name rest all e new placed =
    let at = place_number (names ++ name ∷ rest) name placed.0 (ap (λ (l : List Name). place_among l name) (sym e) ∙ placed.1) in
    let number = at ∙ behind_others names name rest new in
    let room = placed.2 in
    let count : length (names ++ name ∷ []) ≡ length names + 1 = length-append names (name ∷ []) in
    omega (arith, number, room, count)

not_one : (a b : Bool) → (a ≡ true → b ≡ true) → b ≡ false → a ≡ false
not_one false b f h = refl
not_one true b f h = no_true (sym h ∙ f refl)

or_false : (b : Bool) → (b || false) ≡ b
or_false true = refl
or_false false = refl

one_more : (names : List Name) (k name : Name) → is_one_of (names ++ k ∷ []) name ≡ true → (is_one_of names name ≡ true) ⊎ (k ≡ name)
one_more names k name h =
    by (is_one_of names name) (bytes_eq name k) refl refl
    (sym (list_any-append (λ each. bytes_eq name each) names (k ∷ []) ∙ ap (λ (b : Bool). is_one_of names name || b) (or_false (bytes_eq name k))) ∙ h)
  where
    by : (a b : Bool) → is_one_of names name ≡ a → bytes_eq name k ≡ b → (is_one_of names name || bytes_eq name k) ≡ true → (is_one_of names name ≡ true) ⊎ (k ≡ name)
    by true b p q g = inl p
    by false true p q g = inr (sym ((bytes_eq-Decides name k).0 q))
    by false false p q g = no_true (sym (λ i. p i || q i) ∙ g)

-- a name that nothing has defined is added
added : (names defined : List Name) (k : Name) → ((name : Name) → is_one_of names name ≡ true → is_one_of defined name ≡ true) → is_one_of defined k ≡ false → with_name k names ≡ names ++ k ∷ []
added names defined k more new = by (is_one_of names k) refl
  where
    by : (b : Bool) → is_one_of names k ≡ b → (if b then names else names ++ k ∷ []) ≡ names ++ k ∷ []
    by true q = no_true (sym new ∙ more k q)
    by false q = refl

pub unit-judged : (u : tree.TranslationUnit) (whole : TypedTranslationUnit) (s r : UnitState) → IsUnitKnown s → judge_unit u s ≡ Gives whole r → IsWholeJudged u whole s r
unfolding judge_unit
unit-judged tree.NoExternal whole s r k h =
    given-same (λ (v : TypedTranslationUnit) (q : UnitState). IsWholeJudged tree.NoExternal v s q) typed.NoExternal whole s r h (record {
      judged = record { typed = λ T x. refl; erases = refl; numbers = numbers-none (state_of s) (state_of s) refl; types = used-none s.table; goes = unit-stays s k };
      names = refl;
      defined = λ name e. no_true e;
      functions = All-nil (IsFunctionHere s);
      few = λ rest e. omega arith;
    })
unit-judged (tree.AndExternal u d) whole s r k h =
    let e1 = bind-gives (judge_unit u s) (λ list. λ m. next (judge_declaration true d m) (λ one. pure (typed.AndExternal list one))) whole r h in
    let w = unit-judged u e1.0 s e1.1 k e1.2 in
    let j = w.judged in
    let e2 = bind-gives (judge_declaration true d e1.1) (λ one. pure (typed.AndExternal e1.0 one)) whole r e1.3 in
    let i = declaration-judged true d e2.0 e1.1 e2.1 j.goes.known e2.2 in
    given-same (λ (v : TypedTranslationUnit) (q : UnitState). IsWholeJudged (tree.AndExternal u d) v s q) (typed.AndExternal e1.0 e2.0) whole e2.1 r e2.3 (record {
      judged = record {
        typed = λ T x. (known_of e1.1, j.typed T (extended_trans e1.1.table e2.1.table T i.goes.goes.extends x), i.typed T x);
        erases = λ z. tree.AndExternal (j.erases z) (i.erases z);
        numbers = numbers-on (made_by_unit e1.0) (made_by_declaration e2.0) (state_of s) (state_of e1.1) (state_of e2.1) j.numbers i.numbers;
        types = then_used (λ U. used_by_unit U e1.0) (λ U. used_by_declaration U e2.0) s.table e1.1.table e2.1.table j.types i.types;
        goes = unit-on s e1.1 e2.1 j.goes i.goes;
      };
      names = w.names;
      defined = λ name e. i.goes.defined name (w.defined name e);
      functions = All-weaker (IsFunctionHere e1.1) (IsFunctionHere e2.1) (here_later e1.1 e2.1 j.goes.known i.goes) (functions_of e1.0) w.functions;
      few = w.few;
    })
unit-judged (tree.AndFunctionBody u specifiers d brace items) whole s r k h =
    let e1 = bind-gives (judge_unit u s) (λ list. judge_definition list specifiers d brace items) whole r h in
    let m = e1.1 in
    let w = unit-judged u e1.0 s m k e1.2 in
    let j = w.judged in
    let i = definition-judged e1.0 specifiers d brace items whole m r j.goes.known e1.3 in
    let one : DefinedFunction = record { declarator = typed.Declares i.form i.type; body = i.body } in
    let bytes : name_in_bytes one ≡ i.name.bytes = ap name_bytes i.named in
    let written : functions_written (tree.AndFunctionBody u specifiers d brace items) ≡ functions_written u ++ i.name.bytes ∷ [] =
    ap (λ (o : Option Identifier). with_named o (functions_written u)) i.written ∙ added (functions_written u) m.linkage.defined i.name.bytes w.defined i.fresh in
    subst (λ (v : TypedTranslationUnit). IsWholeJudged (tree.AndFunctionBody u specifiers d brace items) v s r) (sym i.made) (record {
      judged = record {
        typed = λ T x. (known_of m, j.typed T (extended_trans m.table r.table T i.goes.goes.extends x), i.typed T x);
        erases = λ z. tree.AndFunctionBody (j.erases z) (i.specifiers_erase z) (i.declarator_erases z) brace (i.body_erases z);
        numbers = i.numbers (made_by_unit e1.0) (state_of s) j.numbers;
        types = i.types (λ U. used_by_unit U e1.0) s.table j.types;
        goes = unit-on s m r j.goes i.goes;
      };
      names = map-append name_in_bytes (functions_of e1.0) (one ∷ []) ∙ ((λ z. w.names z ++ bytes z ∷ []) ∙ sym written);
      defined = λ name e. elim (one_more (functions_written u) i.name.bytes name (ap (λ (names : List Name). is_one_of names name) (sym written) ∙ e)) [
        | inl before ↦ i.goes.defined name (w.defined name before)
        | inr same ↦ subst (λ (n : Name). is_one_of r.linkage.defined n ≡ true) same i.defined
      ];
      few = λ rest e.
          let same = unit-defined m.table e1.0 (known_of s) (known_of m) (j.typed m.table (extended_refl m.table)) in
          let all : m.seen.scopes.defined ≡ functions_written u ++ i.name.bytes ∷ rest =
          same ∙ (e ∙ (ap (λ (names : List Name). names ++ rest) written ∙ append_assoc (functions_written u) (i.name.bytes ∷ []) rest)) in
          let new = not_one (is_one_of (functions_written u) i.name.bytes) (is_one_of m.linkage.defined i.name.bytes) (w.defined i.name.bytes) i.fresh in
          subst (λ (names : List Name). length names ≤ 65535) (sym written) (one_behind (functions_written u) i.name.bytes rest m.seen.scopes.defined all new i.placed);
      functions = All-push (IsFunctionHere r) (functions_of e1.0) one
          (All-weaker (IsFunctionHere m) (IsFunctionHere r) (here_later m r j.goes.known i.goes) (functions_of e1.0) w.functions)
          (subst (λ (n : Name). IsFunctionLinked r.table r.linkage.linked n i.type) (sym bytes) i.linked, i.there);
    })

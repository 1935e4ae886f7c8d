-- Functions with their bodies, and units, have one typed tree.
use Rattle.std.proofs.Common.{◌≡◌, ℕ, suc, ◌+◌, Bool, true, false, not, cond, List, [], ◌∷◌, ◌++◌, map, length, Option, Some, None, refl, ap, sym, subst, ◌∙◌, nat_lt, bytes_eq, arith}
use Rattle.std.specs.List.{prefix_len}
use Rattle.std.proofs.lemmas.Bool.Decides.{nat_tests}
use Rattle.std.proofs.lemmas.List.{map-append}
use Rattle.std.proofs.lemmas.Slice.Eq.{bytes_eq-Decides}
use Rattle.cc_base.specs.declared.number.TypeId.{TypeId}
use Rattle.c_types.specs.declared.shape.TypeShape.TheVariants.{Function}
use Rattle.c_types.specs.Sound.{IsWellFormed}
use Rattle.c_types.specs.Table.{Table, shape_at}
use Rattle.c_tree.specs.Erasure.{erased_form, erased_declaration, erased_specifiers, erased_block_items, erased_unit}
use Rattle.c_tree.specs.Tree as tree
use Rattle.c_tree.specs.TypedTree as typed
use Rattle.c_tree.specs.TypedTree.{TypedForm, TypedSpecifiers, TypedParameters, TypedDeclaration, TypedBlockItems, TypedTranslationUnit}
use Rattle.c_tree.specs.TypedParts.{DefinedFunction, made_by_form, made_by_specifiers, made_by_declaration, made_by_block_items, made_by_unit, nodes_made, functions_of, name_of, name_of_form, specified_type, is_void_list}
use Rattle.c_typing.specs.Declarators.{Written, name_bytes}
use Rattle.c_typing.specs.Declaring.{declarator_name}
use Rattle.c_typing.specs.Scopes.{Name, Scopes, empty_level, entering, innermost, place_among}
use Rattle.c_typing.specs.Typing.{AreParameters}
use Rattle.c_typing_unique.proofs.DeclaratorSteps.{form-name}
use Rattle.c_typing_unique.proofs.Numbering.{Point, Numbers, numbers-from, two-parts}
use Rattle.c_typing_unique.proofs.Shapes.{IsDistinct, no_true, some-same}
use Rattle.c_typing_unique.proofs.SpecifierSteps.{specifiers-unique}
use Rattle.c_typing_unique.proofs.UniqueTrees.{list-one}
use Rattle.runtime_calls.specs.Prototypes.{IsNoName}
use Rattle.c_unit_typing.specs.Units.{Known, with_scopes, storage_of, Around, IsDeclaration, IsDeclarator, parameters_of_form, going_on, AreBlockItems, leaving_known, IsDefinition, IsUnitTyped}
use Rattle.c_unit_typing.specs.WellTyped.{defined_names, known_before, IsTypable, IsWellTyped}
use Rattle.c_unit_unique.proofs.DeclarationSteps.{Spot, OwnSpot, point_of, spot-same, IsReadIn, IsUniqueIn, declarator-one, declaration-one, same-sized}
use Rattle.c_unit_unique.proofs.HomeLaws.{OwnKnown}
use Rattle.c_unit_unique.proofs.ScopesOnce.{parameters-once}
use Rattle.c_unit_unique.proofs.StatementSteps.{InBoth, in-both, both-one, items-one}

function_result : (ps qs : List TypeId) (t u : TypeId) → Function ps t ≡ Function qs u → t ≡ u
function_result ps qs t u h = cc

abbrev body_around : TypeId → Around
body_around t = record { result = t; in_loop = false; breakable = false }

-- what is known where a body begins
abbrev body_known : Scopes → Name → Known → Known
body_known inside name k = record k { scopes = going_on (innermost inside.levels) k.scopes; defined = k.defined ++ name ∷ [] }

module _ (T : Table) (D : IsDistinct T) where
  record IsFunction (specifiers : tree.Specifiers) (d : tree.Declarator) (items : tree.BlockItems) (words : TypedSpecifiers) (form : TypedForm) (t : TypeId) (body : TypedBlockItems) (a b : Spot) : Type 0 where
    first : ℕ
    second : ℕ
    named : erased_specifiers words ≡ specifiers
    formed : erased_form form ≡ d
    bodied : erased_block_items body ≡ items
    definition : IsDefinition T words form t body a.known b.known
    words_made : Numbers (made_by_specifiers words) a.node first
    form_made : Numbers (made_by_form form t) first second
    body_made : Numbers (made_by_block_items body) second b.node

  function_one : (specifiers : tree.Specifiers) (d : tree.Declarator) (items : tree.BlockItems) (words more : TypedSpecifiers) (x y : TypedForm) (t u : TypeId) (body other : TypedBlockItems) (a b c e : Spot)
      → IsFunction specifiers d items words x t body a b → IsFunction specifiers d items more y u other c e → a ≡ c → OwnSpot a
      → (words ≡ more) × (x ≡ y) × (t ≡ u) × (body ≡ other) × (b ≡ e) × OwnSpot b
  function_one specifiers d items words more x y t u body other a b c e h k o own =
      let p = h.definition in
      let q = k.definition in
      let before : Point = record { scopes = p.before; node = h.first } in
      let before' : Point = record { scopes = q.before; node = k.first } in
      let one = specifiers-unique T D specifiers (list-one T D specifiers) words more (point_of a) before (point_of c) before' (h.named, p.specified, h.words_made) (k.named, q.specified, k.words_made) (ap point_of o) own in
      let list = one.0 in
      let begin : Spot = record { known = with_scopes a.known p.before; node = h.first } in
      let begin' : Spot = record { known = with_scopes c.known q.before; node = k.first } in
      let start : begin ≡ begin' = (λ i. record { known = with_scopes (o i).known (one.1 i).scopes; node = (one.1 i).node }) in
      let middle : Spot = record { known = p.declared; node = h.second } in
      let middle' : Spot = record { known = q.declared; node = k.second } in
      let declares = subst (λ (w : TypedSpecifiers). IsDeclarator T true (storage_of w) (specified_type w) Written y u begin'.known q.declared) (sym list) q.declares in
      let two = declarator-one T D true (storage_of words) (specified_type words) None None x y t u begin middle begin' middle' (h.formed ∙ sym k.formed) p.declares h.form_made declares k.form_made
      start one.2 (same-sized T D t u) in
      let form = two.0 in
      let type = two.1 in
      let name = some-same p.name q.name (sym p.named ∙ ap name_of_form form ∙ q.named) in
      let parameters = some-same p.parameters q.parameters (sym p.written ∙ ap (λ (f : TypedForm). parameters_of_form f None) form ∙ q.written) in
      let result = function_result p.types q.types p.result q.result (sym p.shape.1 ∙ ap (shape_at T) type ∙ q.shape.1) in
      let listed = subst (λ (w : TypedParameters). AreParameters T (is_void_list w) w (entering q.before) q.inside) (sym parameters) q.listed in
      let left : p.inside ≡ q.inside =
      parameters-once T (is_void_list p.parameters) p.parameters (entering p.before) p.inside q.inside p.listed
      (subst (λ (s : Scopes). AreParameters T (is_void_list p.parameters) p.parameters (entering s) q.inside) (sym (ap (λ (s : Point). s.scopes) one.1)) listed) in
      let inside : Spot = record { known = body_known p.inside p.name.bytes p.declared; node = h.second } in
      let inside' : Spot = record { known = body_known q.inside q.name.bytes q.declared; node = k.second } in
      let entry : inside ≡ inside' = (λ i. record { known = body_known (left i) (name i).bytes (two.2 i).known; node = (two.2 i).node }) in
      let after : Spot = record { known = p.after; node = b.node } in
      let after' : Spot = record { known = q.after; node = e.node } in
      let statements = subst (λ (v : TypeId). AreBlockItems T (body_around v) None other inside'.known q.after) (sym result) q.statements in
      let three = items-one T D items (body_around p.result) None body other inside after inside' after' (h.bodied, p.statements, h.body_made) (k.bodied, statements, k.body_made) entry
      two.3 in (
        list,
        form,
        type,
        three.0,
        spot-same b e (p.leaves ∙ ap (λ (s : Spot). leaving_known s.known) three.1 ∙ sym q.leaves) (ap (λ (s : Spot). s.node) three.1),
        subst OwnKnown (sym p.leaves) three.2,
      )

  -- Units

  abbrev IsUnitRead : tree.TranslationUnit → TypedTranslationUnit → Spot → Spot → Type 0
  IsUnitRead = IsReadIn erased_unit made_by_unit (IsUnitTyped T)

  abbrev IsDeclarationRead : tree.Declaration → TypedDeclaration → Spot → Spot → Type 0
  IsDeclarationRead = IsReadIn erased_declaration made_by_declaration (IsDeclaration T true)

  abbrev IsUnitOf : tree.TranslationUnit → TypedTranslationUnit → Spot → Spot → Type 0
  IsUnitOf tree.NoExternal y a b = (y ≡ typed.NoExternal) × (b ≡ a)
  IsUnitOf (tree.AndExternal u x) y a b = (v : TypedTranslationUnit) × (w : TypedDeclaration) × InBoth (IsUnitRead u v) (IsDeclarationRead x w) a b × (y ≡ typed.AndExternal v w)
  IsUnitOf (tree.AndFunctionBody u specifiers d brace items) y a b =
      (v : TypedTranslationUnit) × (words : TypedSpecifiers) × (form : TypedForm) × (t : TypeId) × (body : TypedBlockItems) × (m : Spot) × IsUnitRead u v a m
      × IsFunction specifiers d items words form t body m b × (y ≡ typed.AndFunctionBody v words (typed.Declares form t) brace body)

  unit_of : (y : TypedTranslationUnit) (a b : Spot) → IsUnitTyped T y a.known b.known → Numbers (made_by_unit y) a.node b.node → IsUnitOf (erased_unit y) y a b
  unit_of typed.NoExternal a b h k = (refl, spot-same b a h k)
  unit_of (typed.AndExternal v w) a b h k =
      (v, w, in-both erased_unit made_by_unit (IsUnitTyped T) erased_declaration made_by_declaration (IsDeclaration T true) v w h.0 a b h.1 h.2 k, refl)
  unit_of (typed.AndFunctionBody v words (typed.Declares form t) brace body) a b h k =
      let last = two-parts (made_by_unit v ++ made_by_specifiers words ++ made_by_form form t) (made_by_block_items body) a.node b.node k in
      let next = two-parts (made_by_unit v ++ made_by_specifiers words) (made_by_form form t) a.node last.0 last.1 in
      let first = two-parts (made_by_unit v) (made_by_specifiers words) a.node next.0 next.1 in (
        v,
        words,
        form,
        t,
        body,
        record { known = h.0; node = first.0 },
        (refl, h.1, first.1),
        record { first = next.0; second = last.0; named = refl; formed = refl; bodied = refl; definition = h.2; words_made = first.2; form_made = next.2; body_made = last.2 },
        refl,
      )

  is_unit : (x : tree.TranslationUnit) (y : TypedTranslationUnit) (a b : Spot) → IsUnitRead x y a b → IsUnitOf x y a b
  is_unit x y a b h = subst (λ (w : tree.TranslationUnit). IsUnitOf w y a b) h.0 (unit_of y a b h.1 h.2)

  pub unit-one : (x : tree.TranslationUnit) → IsUniqueIn erased_unit made_by_unit (IsUnitTyped T) x
  unit-one tree.NoExternal y z a b c e h k o own =
      let left = is_unit tree.NoExternal y a b h in
      let right = is_unit tree.NoExternal z c e k in
      (left.0 ∙ sym right.0, left.1 ∙ o ∙ sym right.1, subst OwnSpot (sym left.1) own)
  unit-one (tree.AndExternal u x) y z a b c e h k o own =
      let left = is_unit (tree.AndExternal u x) y a b h in
      let right = is_unit (tree.AndExternal u x) z c e k in
      let one = both-one erased_unit made_by_unit (IsUnitTyped T) erased_declaration made_by_declaration (IsDeclaration T true) u x (unit-one u) (declaration-one T D true x)
      left.0 right.0 left.1 right.1 a b c e left.2 right.2 o own in
      let before = one.0 in
      let last = one.1 in
      let whole : typed.AndExternal left.0 left.1 ≡ typed.AndExternal right.0 right.1 = (λ i. typed.AndExternal (before i) (last i)) in
      (left.3 ∙ whole ∙ sym right.3, one.2, one.3)
  unit-one (tree.AndFunctionBody u specifiers d brace items) y z a b c e h k o own =
      let left = is_unit (tree.AndFunctionBody u specifiers d brace items) y a b h in
      let right = is_unit (tree.AndFunctionBody u specifiers d brace items) z c e k in
      let first = unit-one u left.0 right.0 a left.5 c right.5 left.6 right.6 o own in
      let one = function_one specifiers d items left.1 right.1 left.2 right.2 left.3 right.3 left.4 right.4 left.5 b right.5 e left.7 right.7 first.1 first.2 in
      let before = first.0 in
      let words = one.0 in
      let form = one.1 in
      let type = one.2 in
      let body = one.3 in
      let whole : typed.AndFunctionBody left.0 left.1 (typed.Declares left.2 left.3) brace left.4 ≡ typed.AndFunctionBody right.0 right.1 (typed.Declares right.2 right.3) brace right.4 =
      (λ i. typed.AndFunctionBody (before i) (words i) (typed.Declares (form i) (type i)) brace (body i)) in
      (left.8 ∙ whole ∙ sym right.8, one.4, one.5)

  -- The functions that a unit defines

  -- none is a runtime function
  abbrev AreOwn : List Name → Type 0
  AreOwn [] = Unit {0}
  AreOwn (name ∷ names) = IsNoName name × AreOwn names

  own_push : (xs : List Name) (x : Name) → AreOwn xs → IsNoName x → AreOwn (xs ++ x ∷ [])
  own_push [] x h k = (k, tt)
  own_push (y ∷ xs) x h k = (h.0, own_push xs x h.1 k)

  names_own : (u : TypedTranslationUnit) (k l : Known) → IsUnitTyped T u k l → AreOwn (map (λ (f : DefinedFunction). name_bytes (name_of f.declarator)) (functions_of u))
  names_own typed.NoExternal k l h = tt
  names_own (typed.AndExternal u d) k l h = names_own u k h.0 h.1
  names_own (typed.AndFunctionBody u words (typed.Declares form t) brace body) k l h =
      let this : DefinedFunction = record { declarator = typed.Declares form t; body = body } in
      let name = ap name_bytes h.2.named in
      subst AreOwn (sym (map-append (λ (f : DefinedFunction). name_bytes (name_of f.declarator)) (functions_of u) (this ∷ [])))
      (own_push (map (λ (f : DefinedFunction). name_bytes (name_of f.declarator)) (functions_of u)) (name_bytes (name_of_form form)) (names_own u k h.0 h.1) (subst IsNoName (sym name) h.2.own))

  fewer : (n m : ℕ) → nat_lt (1 + n) (suc m) ≡ true → nat_lt n m ≡ true
  fewer n m h = grind (arith, nat_tests)

  own_by : (name x : Name) (xs : List Name) (b : Bool) → bytes_eq name x ≡ b → nat_lt (cond (not b) (1 + prefix_len (λ (y : Name). not (bytes_eq name y)) xs) 0) (suc (length xs)) ≡ true → IsNoName x
      → (nat_lt (prefix_len (λ (y : Name). not (bytes_eq name y)) xs) (length xs) ≡ true → IsNoName name) → IsNoName name
  own_by name x xs true e g own rest = subst IsNoName (sym ((bytes_eq-Decides name x).0 e)) own
  own_by name x xs false e g own rest = rest (fewer (prefix_len (λ (y : Name). not (bytes_eq name y)) xs) (length xs) g)

  own_among : (name : Name) (xs : List Name) → nat_lt (prefix_len (λ (x : Name). not (bytes_eq name x)) xs) (length xs) ≡ true → AreOwn xs → IsNoName name
  own_among name [] h own = no_true h
  own_among name (x ∷ xs) h own = own_by name x xs (bytes_eq name x) refl h own.0 (λ g. own_among name xs g own.1)

  none_number : {P : Type 0} (n : ℕ) → None ≡ Some n → P
  none_number n h = absurd (let g : ◌≡◌ {A = Option ℕ} None (Some n) = h in cc)

  place_own : (names : List Name) → AreOwn names → (name : Name) (number : ℕ) → place_among names name ≡ Some number → IsNoName name
  place_own names own name number h = by (nat_lt place (length names)) refl h
    where
      place : ℕ
      place = prefix_len (λ (x : Name). not (bytes_eq name x)) names

      by : (b : Bool) → nat_lt (prefix_len (λ (x : Name). not (bytes_eq name x)) names) (length names) ≡ b → cond b (Some (prefix_len (λ (x : Name). not (bytes_eq name x)) names)) None ≡ Some number → IsNoName name
      by true e g = own_among name names e own
      by false e g = none_number number g

  -- their names are those of the text
  erased_names : tree.TranslationUnit → List Name
  erased_names tree.NoExternal = []
  erased_names (tree.AndExternal u d) = erased_names u
  erased_names (tree.AndFunctionBody u specifiers d brace items) = erased_names u ++ name_bytes (declarator_name d) ∷ []

  names_erased : (u : TypedTranslationUnit) → defined_names u ≡ erased_names (erased_unit u)
  unfolding erased_names
  names_erased typed.NoExternal = refl
  names_erased (typed.AndExternal u d) = names_erased u
  names_erased (typed.AndFunctionBody u words (typed.Declares form t) brace body) =
      let this : DefinedFunction = record { declarator = typed.Declares form t; body = body } in
      let before = names_erased u in
      let last = ap name_bytes (sym (form-name form)) in
      map-append (λ (f : DefinedFunction). name_bytes (name_of f.declarator)) (functions_of u) (this ∷ []) ∙ (λ i. before i ++ last i ∷ [])

-- a unit has one typed tree
pub unit-whole : (T : Table) (u v : TypedTranslationUnit) → IsWellFormed T → IsWellTyped T u → IsWellTyped T v → erased_unit u ≡ erased_unit v → u ≡ v
unit-whole T u v formed h k e =
    let D : IsDistinct T = (λ t w a b. formed.distinct t w a b) in
    let names = names_erased T D u ∙ ap (erased_names T D) e ∙ sym (names_erased T D v) in
    let begin : Spot = record { known = known_before u; node = 0 } in
    let begin' : Spot = record { known = known_before v; node = 0 } in
    let start : begin ≡ begin' = (λ i. record {
      known = record { scopes = record { levels = empty_level ∷ []; defined = names i; members = [] }; linked = []; defined = []; statics = [] };
      node = 0;
    }) in
    let last : Spot = record { known = h.after; node = 0 + length (nodes_made (made_by_unit u)) } in
    let last' : Spot = record { known = k.after; node = 0 + length (nodes_made (made_by_unit v)) } in
    let own : OwnSpot begin = place_own T D (defined_names u) (names_own T D u (known_before u) h.after h.typed) in
    (unit-one T D (erased_unit v) u v begin last begin' last' (e, h.typed, numbers-from (made_by_unit u) 0 h.numbered) (refl, k.typed, numbers-from (made_by_unit v) 0 k.numbered) start own).0

pub text-whole : (T : Table) (x : tree.TranslationUnit) → IsWellFormed T → (one other : IsTypable T x) → one.tree ≡ other.tree
text-whole T x formed one other = unit-whole T one.tree other.tree formed one.typed other.typed (one.erases ∙ sym other.erases)

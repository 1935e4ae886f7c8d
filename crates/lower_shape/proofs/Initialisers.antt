-- The code of initialisers and declarations is in shape.
use Rattle.std.proofs.Common.{ℕ, ℤ, suc, ◌<◌, ◌≤◌, ◌+◌, ◌*◌, ◌≡◌, inl, refl, ap, sym, subst, Bool, true, false, List, [], ◌∷◌, ◌++◌, ◌&&◌, arith, None, IsSome, pos, length}
use Rattle.std.specs.List.{Contains}
use Rattle.cc_base.specs.declared.place.Place.{Place}
use Rattle.cc_base.specs.declared.number.NodeId.{NodeId}
use Rattle.cc_base.specs.declared.number.TypeId.{TypeId}
use Rattle.c_types.specs.declared.shape.TypeShape.TheVariants as shape
use Rattle.c_types.specs.Table.{HasShape, IsAggregate, shape_at}
use Rattle.c_types.specs.Layouts.{size_of}
use Rattle.integers.specs.Arithmetic.{converted}
use Rattle.c_tree.specs.Erasure.{erased, erased_place, erased_initialiser, erased_items, erased_init_declarators, erased_declaration}
use Rattle.c_tree.specs.Tree as tree
use Rattle.c_tree.specs.TypedTree as typed
use Rattle.c_tree.specs.TypedTree.{TypedPlace, TypedInitialiser, TypedItems, TypedInitDeclarators, TypedDeclaration, TypedDeclarator}
use Rattle.c_tree.specs.TypedParts.{type_of, place_type, place_at, item_place, home_of, home_node}
use Rattle.c_tree.specs.declared.typed_word.Home.{Home}
use Rattle.c_tree.specs.declared.typed_word.Home.TheVariants as home
use Rattle.c_typing.specs.Held.{held}
use Rattle.c_typing.specs.Shapes.{is_scalar_shape}
use Rattle.c_unit_typing.specs.Holding.{expr_holds, initialiser_holds, items_holds, init_declarators_holds, declaration_holds}
use Rattle.c_ready.specs.Rows.{items_count, is_only_text, is_char_array}
use Rattle.c_ready.specs.Ready.{Stage, IsReadyInitialiser, AreReadyItems, AreReadyDeclarators, IsReadyDeclaration, IsReadyPlace, IsWhole, IsObjectOf, IsReadyHome, initialised_in}
use Rattle.src_mem.specs.Operations.{integer_of_shape}
use Rattle.src_machine.specs.Statements.{element_of_shape, clears}
use Rattle.src_machine.specs.Pieces.{Piece, AnInitialiser, pieces_of_place, pieces_of_initialiser, pieces_of_items, pieces_of_declarator, pieces_of_init_declarators, pieces_of_declaration, pieces_of_specifiers}
use Rattle.src_machine.specs.Sites.{copies_in, copies_in_items, copies_to, linked_to, addresses_at}
use Rattle.cil_form.specs.declared.number.Object.{Object}
use Rattle.cil_form.specs.declared.instr.Set.TheVariants as set
use Rattle.cil_form.specs.declared.instr.Access.TheVariants as access
use Rattle.cil_form.specs.declared.instr.Instr.{Instr}
use Rattle.cil_form.specs.declared.instr.Instr.TheVariants as instr
use Rattle.cil_form.specs.Sites.{AreAmong}
use Rattle.cil_form.specs.Typing.{Typing, Context, Includes, with_held, held_by, IsObject, IsPart, whole, in_element, HoldsAddress, plan_of, AreShaped}
use Rattle.cil_form.proofs.TypingLaws.{includes-all}
use Rattle.lower_rules.specs.declared.after.After.TheVariants as after
use Rattle.lower_rules.specs.Pieces.{Line}
use Rattle.lower_rules.specs.Words.{value, Follows}
use Rattle.lower_rules.specs.Expressions.{IsCodeOf, IsCodeOfPlace}
use Rattle.lower_rules.specs.Initialisers.{Initialised, part, text_code, Clears, IsCodeOfInitialiser, IsCodeOfItems, IsCodeOfObject, IsCodeOfDeclared, IsCodeOfDeclarators, IsCodeOfDeclaration}
use Rattle.lower_shape.specs.Stands.{Frame, stand, low, Knows, Told}
use Rattle.lower_shape.proofs.Forms.{IsHeld, of-type, with-agrees, with-same}
use Rattle.lower_shape.proofs.Types.{scalar-some, integer-held, integer-read, converted-twice}
use Rattle.lower_shape.proofs.Addresses.{linked-in, left-address}
use Rattle.lower_shape.proofs.Places.{sets, effects, holds-address}
use Rattle.lower_shape.proofs.Parts.{part-in, plus-none, slotted, char-size}
use Rattle.lower_shape.proofs.Expressions.{leads, locates, left, right, each-left, each-right}
use Rattle.lower_shape.proofs.Between.{between-agrees, Does, AllDo, does-line, does-nothing, does-one, does-then, value-then, ends-one}

-- an expression holds no more than the most that it or one of its parts does
pub held-within : (e : tree.Expr) (n : ℕ) → expr_holds e ≤ n → held e ≤ n
held-within (tree.Name name) n h = h
held-within (tree.Integer of v at) n h = h
held-within (tree.Character v at) n h = h
held-within (tree.String pieces) n h = h
held-within (tree.Paren at e) n h = omega (arith, h)
held-within (tree.Index e at index) n h = omega (arith, h)
held-within (tree.Call f at arguments) n h = omega (arith, h)
held-within (tree.Member e operator at name) n h = omega (arith, h)
held-within (tree.Postfix e operator at) n h = omega (arith, h)
held-within (tree.Prefix operator at e) n h = omega (arith, h)
held-within (tree.SizeOfType at paren name) n h = omega (arith, h)
held-within (tree.Cast at to e) n h = omega (arith, h)
held-within (tree.Infix operator a at b) n h = omega (arith, h)
held-within (tree.Conditional c at a b) n h = omega (arith, h)
held-within (tree.Assign operator a at b) n h = omega (arith, h)
held-within (tree.Comma a b) n h = omega (arith, h)
held-within (tree.Compound at to brace) n h = omega (arith, h)
held-within (tree.SizeOfCompound at paren to brace) n h = omega (arith, h)

pub held-alone : (e : tree.Expr) → expr_holds e ≤ 256 → 0 + held e ≤ 256
held-alone e h = omega (arith, held-within e 256 h)

module _ (s : Stage) (f : Frame) (w : Knows s f) (b : ℕ) (kept : Typing) (n : ℕ) where
  abbrev K : Context
  K = stand s f b kept

  -- a struct or union that is copied
  copied-in : (p : TypedPlace) (at : Place) (t : TypeId) (base : ℕ) (o : Initialised) → IsReadyPlace s p → IsAggregate s.table t
      → place_type p ≡ t → IsWhole s t → Told s f (pieces_of_place p) → AreAmong f.sites (linked_to s.table o.node p)
      → expr_holds (erased_place p) ≤ 256 → IsObject K o.object o.node o.type → IsPart s.table o.type base t
      → AllDo K n (IsCodeOfPlace p (low s f) 0 (Follows (after.Copy (part o base) at (place_at p) t at) 0))
  unfolding Line Follows
  copied-in p at t base o ready aggregate same complete told copies m object there code h T final rest inc next =
      locates s f w b kept p 0 (Follows (after.Copy (part o base) at (place_at p) t at) 0) code h ready told
      (held-alone (erased_place p) m) 0 None T T
      (λ from c d U a g final2 rest2 last. subst (λ z. AreShaped (z ++ rest2) K U final2) (sym d)
      (effects K (instr.Access (access.Copy (part o base) at (value 0) from (place_at p) t at)) U final2 rest2 (
        (
          g.0,
          complete,
          aggregate,
          (object, there),
          subst (λ z. HoldsAddress U (value 0) from z) same
              (holds-address U 0 from (place_type p) (omega arith) (left-address p (place_type p) from (U (value 0)) g.2)),
          includes-all U,
        ),
        (linked-in f.sites o.node from (addresses_at s.table p) copies g.1, tt),
      )
      (last U a tt))) final rest (λ V v _. next V (between-agrees n T V v inc))

  -- the bytes of a string literal, from one offset on
  texts : (o : Initialised) (char : TypeId) (signed : Bool) (at : Place) (base : ℕ) (bytes : List ℕ)
      → HasShape s.table char (shape.Integer 1 signed)
      → IsObject K o.object o.node o.type → ((i : ℕ) → i < length bytes → IsPart s.table o.type (base + i) char)
      → Does K n (text_code s.table o char at base bytes)
  texts o char signed at base [] h object there T final rest inc next = next T inc
  texts o char signed at base (c ∷ bytes) h object there T final rest inc next =
      sets K (instr.Set (set.Integer (value 0) z char)) (value 0) (held_by K char) T final
      (S ∷ text_code s.table o char at (base + 1) bytes ++ rest)
      (λ after g. (
        record { bytes = 1; signed = signed },
        h,
        fits,
        (
          few,
          subst (λ x. Includes (with_held (value 0) x T) after)
              (integer-held (shape_at s.table char) (record { bytes = 1; signed = signed }) h.1) g,
        ),
      ))
      (effects K S V final (text_code s.table o char at (base + 1) bytes ++ rest) (
        (
          (object, subst (λ m. IsPart s.table o.type m char) (plus-none base) (there 0 (omega arith))),
          ((h.0, scalar-some (shape_at s.table char) (ap is_scalar_shape h.1)), few, with-same 0 (held_by K char) T),
          includes-all V,
        ),
        tt,
      )
      (texts o char signed at (base + 1) bytes h object
      (λ i l. subst (λ m. IsPart s.table o.type m char) (one base i) (there (suc i) (omega (arith, l)))) V final rest
      (between-agrees n T V (with-agrees 0 (held_by K char) T) inc) next))
    where
      z : ℤ
      z = converted (integer_of_shape (shape_at s.table char)) (pos c)

      few : 0 < 256
      few = omega arith

      fits : converted (record { bytes = 1; signed = signed }) z ≡ z
      fits = subst (λ j. converted (record { bytes = 1; signed = signed }) (converted j (pos c)) ≡ converted j (pos c))
          (sym (integer-read (shape_at s.table char) (record { bytes = 1; signed = signed }) h.1))
          (converted-twice (record { bytes = 1; signed = signed }) (pos c))

      S : Instr
      S = instr.Access (access.Store (part o base) (value 0) char at at)

      V : Typing
      V = with_held (value 0) (held_by K char) T

      one : (m i : ℕ) → m + suc i ≡ m + 1 + i
      one m i = omega arith

  mutual
    -- of a part of an object, or of the whole
    pub initialised : (i : TypedInitialiser) (at : Place) (t : TypeId) (base : ℕ) (o : Initialised) → IsReadyInitialiser s t i → IsWhole s t
        → Told s f (pieces_of_initialiser i) → AreAmong f.sites (copies_in s.table o.node i) → initialiser_holds (erased_initialiser i) ≤ 256
        → IsObject K o.object o.node o.type → IsPart s.table o.type base t → AllDo K n (IsCodeOfInitialiser i (low s f) at t base o)
    initialised (typed.Value e) at t base o (ready, stored) complete told copies m object there =
        value-then K n (IsCodeOf e (low s f) 0) (Line (instr.Access (access.Store (part o base) (value 0) t at at) ∷ [])) (held_by K (type_of e))
        (λ c d. leads s f w b kept e (Unit {0}) 0 c d ready told (held-alone (erased e) m))
        (ends-one K n (held_by K (type_of e)) (instr.Access (access.Store (part o base) (value 0) t at at)) (λ U g. (
          (
            (object, there),
            of-type K t 0 U (omega arith) (stored.1, scalar-some (shape_at s.table t) stored.2)
                (subst (λ z. IsHeld (held_by K z) (U (value 0))) stored.0 g),
            includes-all U,
          ),
          tt,
        )))
    initialised (typed.Copied p seat) at t base o (ready, aggregate, same) complete told copies m object there =
        copied-in p seat t base o ready aggregate same complete told copies m object there
    initialised (typed.Text pieces bytes) at t base o (element, count, signed, array, char, few) complete told copies m object there =
        does-line K n (text_code s.table o (element_of_shape (shape_at s.table t)) at base bytes)
        (subst (λ c. Does K n (text_code s.table o c at base bytes)) (sym (ap element_of_shape array.1))
        (texts o element signed at base bytes char object (λ i l. subst (λ z. IsPart s.table o.type (base + z) element) (times i)
        (part-in s.table o.type t element base (i * size_of s.table element + 0) there
        (in_element t element count i 0 element array.1 (omega (arith, l, few)) (whole element))))))
      where
        times : (i : ℕ) → i * size_of s.table element + 0 ≡ i
        times i = subst (λ z. i * z + 0 ≡ i) (sym (char-size s.table element signed char.1)) (omega arith)
    initialised (typed.Listed brace items comma u) at t base o (same, ready) complete told copies m object there =
        listed items (is_only_text items && is_char_array s.table t) t base o ready complete told copies m object there

    pub listed : (l : TypedItems) (text : Bool) (t : TypeId) (base : ℕ) (o : Initialised) → AreReadyItems s text t l → IsWhole s t
        → Told s f (pieces_of_items l) → AreAmong f.sites (copies_in_items s.table o.node l) → items_holds (erased_items l) ≤ 256
        → IsObject K o.object o.node o.type → IsPart s.table o.type base t → AllDo K n (IsCodeOfItems l (low s f) base o)
    listed typed.NoItem text t base o ready complete told copies m object there = does-nothing K n
    listed (typed.AndItem all offset u i) text t base o (before, ready, slot, complete) around told copies m object there =
        does-then K n (IsCodeOfItems all (low s f) base o) (IsCodeOfInitialiser i (low s f) (item_place i) u (base + offset) o)
        (listed all text t base o before around (left s f (pieces_of_items all) (pieces_of_initialiser i) told)
        (each-left (λ z. Contains f.sites z) (copies_in_items s.table o.node all) (copies_in s.table o.node i) copies) (omega (arith, m))
        object there)
        (initialised i (item_place i) u (base + offset) o ready complete (right s f (pieces_of_items all) (pieces_of_initialiser i) told)
        (each-right (λ z. Contains f.sites z) (copies_in_items s.table o.node all) (copies_in s.table o.node i) copies) (omega (arith, m))
        object (part-in s.table o.type t u base offset there (slotted s.table text t (items_count all) offset u around.1 slot)))

  -- Objects and declarations

  clearing : (c : Bool) (o : Object) → IsSome (plan_of K o) → AllDo K n (Clears c o)
  unfolding Clears
  clearing true o p = does-one K n (instr.Access (access.Clear o)) (λ T inc. ((p, includes-all T), tt))
  clearing false o p = does-nothing K n

  pub object-initialised : (node : NodeId) (t : TypeId) (at : Place) (i : TypedInitialiser) → IsObjectOf true s node t → IsReadyInitialiser s t i
      → Told s f (pieces_of_initialiser i) → AreAmong f.sites (copies_in s.table node i) → initialiser_holds (erased_initialiser i) ≤ 256
      → AllDo K n (IsCodeOfObject node t at i (low s f))
  object-initialised node t at i object ready told copies m code (o, got, x) =
      let there = w.objects o node t got object in
      does-then K n (Clears (clears s.table i) o) (IsCodeOfInitialiser i (low s f) at t 0 (record { object = o; node = node; type = t }))
      (clearing (clears s.table i) o (subst (λ z. IsSome z) (sym there.1) refl))
      (initialised i at t 0 (record { object = o; node = node; type = t }) ready object.1 told copies m there (whole t)) code x

  -- a local object is initialised where it is declared, and another before `main` begins
  by-home : (h : Home) (static : Stage) (t : TypeId) (at : Place) (i : TypedInitialiser) → s.runs ≡ true → IsReadyHome s h t
      → IsReadyInitialiser (initialised_in h s static) t i → Told s f (pieces_of_initialiser i)
      → AreAmong f.sites (copies_to s.table (home_node h) i) → initialiser_holds (erased_initialiser i) ≤ 256
      → AllDo K n (IsCodeOfDeclared h t at i (low s f))
  by-home (home.Local node) static t at i runs (number, complete, there) ready told copies m =
      object-initialised node t at i (number, complete, inl there) ready told copies m
  by-home other static t at i runs r ready told copies m = does-nothing K n

  pub declared : (all : TypedInitDeclarators) (static : Stage) → AreReadyDeclarators s static all → Told s f (pieces_of_init_declarators all)
      → init_declarators_holds (erased_init_declarators all) ≤ 256 → AllDo K n (IsCodeOfDeclarators all (low s f))
  declared typed.NoInitDeclarator static r told m = does-nothing K n
  declared (typed.AndPlain all (typed.Declares form t)) static r told m =
      declared all static r.0 (left s f (pieces_of_init_declarators all) (pieces_of_declarator (typed.Declares form t)) told) (omega (arith, m))
  declared (typed.AndInitialised all (typed.Declares form t) at i) static (before, ready, complete, there, object, given) told m =
      does-then K n (IsCodeOfDeclarators all (low s f)) (IsCodeOfDeclared (home_of d) t at i (low s f))
      (declared all static before (left s f A D (left s f (A ++ D) I (left s f (A ++ D ++ I) L told))) (omega (arith, m)))
      (by-home (home_of d) static t at i w.runs there given (right s f (A ++ D) I (left s f (A ++ D ++ I) L told))
      ((right s f (A ++ D ++ I) L told).0) (omega (arith, m)))
    where
      d : TypedDeclarator
      d = typed.Declares form t

      A : List Piece
      A = pieces_of_init_declarators all

      D : List Piece
      D = pieces_of_declarator d

      I : List Piece
      I = pieces_of_initialiser i

      L : List Piece
      L = AnInitialiser d i ∷ []

  pub declares : (d : TypedDeclaration) (static : Stage) → IsReadyDeclaration s static d → Told s f (pieces_of_declaration d)
      → declaration_holds (erased_declaration d) ≤ 256 → AllDo K n (IsCodeOfDeclaration d (low s f))
  declares (typed.Declare specifiers all) static r told m =
      declared all static r.1 (right s f (pieces_of_specifiers specifiers) (pieces_of_init_declarators all) told) (omega (arith, m))

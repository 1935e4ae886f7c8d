-- The initialisers and declarations of a ready tree have code.
use Rattle.std.proofs.Common.{ℕ, suc, zero, ◌<◌, ◌≤◌, ◌+◌, ◌*◌, ◌^◌, ◌≡◌, ◌∙◌, refl, ap, sym, subst, Bool, true, false, List, map, take, length, ◌&&◌, ◌==◌, nat_lt, if◌then◌else◌, arith, inl, inr, Option, Some, None, IsTrue}
use Rattle.std.proofs.lemmas.Bool.Decides.{nat_tests}
use Rattle.std.proofs.Math.Nat.{mul-le-mul_right}
use Rattle.cc_base.specs.declared.number.NodeId.{NodeId}
use Rattle.cc_base.specs.declared.number.TypeId.{TypeId}
use Rattle.c_types.specs.declared.shape.TypeShape.{TypeShape}
use Rattle.c_types.specs.declared.shape.TypeShape.TheVariants as shape
use Rattle.c_types.specs.Sound.{IsWellFormed}
use Rattle.c_types.specs.Table.{Table, HasShape, IsComplete, shape_at, members_at}
use Rattle.c_types.specs.declared.layout.Layout.{Layout}
use Rattle.c_types.specs.Layouts.{layout_of, layout_of_shape, offset_of, offset_of_shape, size_of, member_at}
use Rattle.c_types.proofs.Descent.{layout_is}
use Rattle.phys_types.specs.Shown.{is_struct_shape}
use Rattle.phys_types.proofs.Parts.{offset_small}
use Rattle.c_tree.specs.Depth.{initialiser_height, items_height, init_declarators_height, declaration_height}
use Rattle.c_tree.specs.Erasure.{erased, erased_place, erased_initialiser, erased_items, erased_init_declarators, erased_declaration}
use Rattle.c_tree.specs.TypedTree as typed
use Rattle.c_tree.specs.TypedTree.{TypedInitialiser, TypedItems, TypedInitDeclarators, TypedDeclaration}
use Rattle.c_tree.specs.TypedParts.{home_of}
use Rattle.c_tree.specs.declared.typed_word.Home.{Home}
use Rattle.c_tree.specs.declared.typed_word.Home.TheVariants as home
use Rattle.integers.specs.Arithmetic.{IntegerType}
use Rattle.c_unit_typing.specs.Holding.{initialiser_holds, items_holds, init_declarators_holds, declaration_holds}
use Rattle.c_ready.specs.Rows.{IsSlot, Slot, slot_of_shape, items_count, is_only_text, is_char_array}
use Rattle.c_ready.specs.Ready.{Stage, IsReadyInitialiser, AreReadyItems, AreReadyDeclarators, IsReadyDeclaration, IsReadyHome, IsObjectOf, IsWhole, initialised_in}
use Rattle.src_machine.specs.Statements.{element_of_shape}
use Rattle.lower_rules.specs.Words.{Context}
use Rattle.lower_exprs.specs.Ready.{IsConstant}
use Rattle.lower_initialisers.specs.Ready.{HasCodeOfInitialiser, HasCodeOfItems, HasCodeOfObject, HasCodeOfDeclared, HasCodeOfDeclarators, HasCodeOfDeclaration}
use Rattle.lower_shape.proofs.Initialisers.{held-alone}
use Rattle.lower_shape.proofs.Parts.{char-size, lt-below}
use Rattle.lower_ready.proofs.Expressions.{Numbers, low, has-code, has-place}

-- Offsets: an item of a list in braces stands inside its whole

some-offset : (o : Slot) (offset : ℕ) (u : TypeId) → Some o ≡ Some (record { offset = offset; type = u }) → o.offset ≡ offset
some-offset o offset u h = ap (λ (z : Slot). z.offset) (same o (record { offset = offset; type = u }) h)
  where
    same : (a c : Slot) → Some a ≡ Some c → a ≡ c
    same a c g = cc

low-if : (c : Bool) (o : Slot) (offset : ℕ) (u : TypeId) → (if c then Some o else None) ≡ Some (record { offset = offset; type = u })
    → (c ≡ true → o.offset ≤ 1048576) → offset ≤ 1048576
low-if true o offset u h p = subst (λ z. z ≤ 1048576) (some-offset o offset u h) (p refl)
low-if false o offset u h p = absurd (cc (h))

-- the size of an array
array-size : (T : Table) → IsWellFormed T → (t e : TypeId) (count : ℕ) → shape_at T t ≡ shape.Array e count → size_of T t ≡ count * size_of T e
array-size T w t e count h =
    ap (λ (l : Layout). l.size) (layout_is T w.order.0 w.order.1 t)
    ∙ ap (λ x. (layout_of_shape (layout_of T) x (members_at T t)).size) h

slot-low : (T : Table) → IsWellFormed T → (t : TypeId) → IsComplete T t → (x : TypeShape) → shape_at T t ≡ x → (i offset : ℕ) (u : TypeId)
    → slot_of_shape T t x i ≡ Some (record { offset = offset; type = u }) → offset ≤ 1048576
slot-low T w t c (shape.Array e count) s i offset u h =
    low-if (nat_lt i count) (record { offset = i * size_of T e; type = e }) offset u h
    (λ q. omega (arith, at i (size_of T e) count (less q), array-size T w t e count s, (w.sized t c).most))
  where
    at : (m z n : ℕ) → m ≤ n → m * z ≤ n * z
    at m z n k = mul-le-mul_right z k

    less : nat_lt i count ≡ true → i ≤ count
    less q = omega (arith, lt-below i count q)
slot-low T w t c (shape.Struct n) s i offset u h =
    low-if (nat_lt i (length (members_at T t))) (record { offset = offset_of T t i; type = member_at T t i }) offset u h
    (λ q. offset_small T w t i (ap is_struct_shape s) c (lt-below i (length (members_at T t)) q))
slot-low T w t c (shape.Union n) s i offset u h =
    low-if (i == 0) (record { offset = offset_of T t i; type = member_at T t i }) offset u h (λ q. omega (arith, none))
  where
    none : offset_of T t i ≡ 0
    none = ap (λ x. offset_of_shape x (map (layout_of T) (take i (members_at T t))) (layout_of T (member_at T t i))) s
slot-low T w t c (shape.Integer bytes signed) s i offset u h =
    low-if (i == 0) (record { offset = 0; type = t }) offset u h (λ q. omega arith)
slot-low T w t c (shape.Pointer n v) s i offset u h = low-if (i == 0) (record { offset = 0; type = t }) offset u h (λ q. omega arith)
slot-low T w t c shape.Void s i offset u h = absurd (cc (h))
slot-low T w t c (shape.Function ps r) s i offset u h = absurd (cc (h))

slotted-low : (T : Table) → IsWellFormed T → (text : Bool) (t : TypeId) → IsComplete T t → (i offset : ℕ) (u : TypeId)
    → IsSlot text T t i offset u → offset ≤ 1048576
slotted-low T w true t c i offset u h = omega (arith, h.0)
slotted-low T w false t c i offset u h = slot-low T w t c (shape_at T t) refl i offset u h

module _ (s : Stage) (statics variables : List NodeId) (w : Numbers s (low s statics variables)) (formed : IsWellFormed s.table) where
  abbrev K : Context
  K = low s statics variables

  -- a literal has no more bytes than its array
  text-low : (t element : TypeId) (count : ℕ) (signed : Bool) → IsComplete s.table t → shape_at s.table t ≡ shape.Array element count
      → shape_at s.table element ≡ shape.Integer 1 signed → count ≤ 1048576
  text-low t element count signed c array char =
      let one = char-size s.table element signed char in
      let all : size_of s.table t ≡ count * 1 = array-size s.table formed t element count array ∙ ap (λ z. count * z) one in
      omega (arith, all, (formed.sized t c).most)

  mutual
    -- of what is nested at most so deep in braces, and begins at this byte
    pub has-initialiser : (i : TypedInitialiser) (t : TypeId) (base d : ℕ) → IsReadyInitialiser s t i → IsWhole s t
        → initialiser_holds (erased_initialiser i) ≤ 256 → initialiser_height (erased_initialiser i) ≤ d → base + 1048576 * d ≤ 268435456
        → HasCodeOfInitialiser i K t base
    has-initialiser (typed.Value e) t base d (ready, stored) whole m n b =
        (has-code s statics variables w e (Unit {0}) 0 ready (held-alone (erased e) m), tt)
    has-initialiser (typed.Copied p seat) t base d r whole m n b =
        has-place s statics variables w p (Unit {0}) 0 r.0 (held-alone (erased_place p) m) tt
    has-initialiser (typed.Text pieces bytes) t base d (element, count, signed, array, char, few) whole m n b = (
      omega (arith, n, b, few, text-low t element count signed whole.1 array.1 char.1),
      subst (IsConstant K) (sym (ap element_of_shape array.1)) (w.constants (record { bytes = 1; signed = signed }) element char),
    )
    has-initialiser (typed.Listed brace items comma u) t base zero (same, ready) whole m n b = absurd (omega (arith, n))
    has-initialiser (typed.Listed brace items comma u) t base (suc d) (same, ready) whole m n b =
        has-items items (is_only_text items && is_char_array s.table t) t base d ready whole m (omega (arith, n)) b

    pub has-items : (l : TypedItems) (text : Bool) (t : TypeId) (base d : ℕ) → AreReadyItems s text t l → IsWhole s t
        → items_holds (erased_items l) ≤ 256 → items_height (erased_items l) ≤ d → base + 1048576 * suc d ≤ 268435456
        → HasCodeOfItems l K base
    has-items typed.NoItem text t base d r whole m n b = tt
    has-items (typed.AndItem all offset u i) text t base d (before, ready, slot, complete) whole m n b =
        let o = slotted-low s.table formed text t whole.1 (items_count all) offset u slot in (
          has-items all text t base d before whole (omega (arith, m)) (omega (arith, n)) b,
          (
            omega (arith, b, o),
            has-initialiser i u (base + offset) d ready complete (omega (arith, m)) (omega (arith, n)) (omega (arith, b, o)),
          ),
        )

  pub has-object : (node : NodeId) (t : TypeId) (i : TypedInitialiser) → IsObjectOf true s node t → IsReadyInitialiser s t i
      → initialiser_holds (erased_initialiser i) ≤ 256 → initialiser_height (erased_initialiser i) ≤ 256 → HasCodeOfObject node t i K
  has-object node t i object ready m n =
      (w.objects node t object, (tt, has-initialiser i t 0 256 ready object.1 m n (omega arith)))

  -- a local object is initialised where it is declared
  by-home : (h : Home) (static : Stage) (t : TypeId) (i : TypedInitialiser) → IsReadyHome s h t
      → IsReadyInitialiser (initialised_in h s static) t i → initialiser_holds (erased_initialiser i) ≤ 256
      → initialiser_height (erased_initialiser i) ≤ 256 → HasCodeOfDeclared h t i K
  by-home (home.Local node) static t i (number, complete, there) ready m n =
      has-object node t i (number, complete, inl there) ready m n
  by-home other static t i r ready m n = tt

  has-declarators : (all : TypedInitDeclarators) (static : Stage) → AreReadyDeclarators s static all
      → init_declarators_holds (erased_init_declarators all) ≤ 256 → init_declarators_height (erased_init_declarators all) ≤ 256
      → HasCodeOfDeclarators all K
  has-declarators typed.NoInitDeclarator static r m n = tt
  has-declarators (typed.AndPlain all (typed.Declares form t)) static r m n =
      has-declarators all static r.0 (omega (arith, m)) (omega (arith, n))
  has-declarators (typed.AndInitialised all (typed.Declares form t) at i) static (before, ready, complete, there, object, given) m n = (
    has-declarators all static before (omega (arith, m)) (omega (arith, n)),
    by-home (home_of (typed.Declares form t)) static t i there given (omega (arith, m)) (omega (arith, n)),
  )

  pub has-declaration : (d : TypedDeclaration) (static : Stage) → IsReadyDeclaration s static d
      → declaration_holds (erased_declaration d) ≤ 256 → declaration_height (erased_declaration d) ≤ 256 → HasCodeOfDeclaration d K
  has-declaration (typed.Declare specifiers all) static r m n = has-declarators all static r.1 (omega (arith, m)) (omega (arith, n))

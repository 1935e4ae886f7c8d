-- How drafts grow by declarators, items and bytes.
use Rattle.std.proofs.Common.{◌≡◌, ap, sym, subst, ◌∙◌, zero, ◌+◌, ◌<◌, add-one, map, take, get_or, length, arith, ℕ, suc, false, List, [], ◌∷◌, ◌++◌, append-nil, append_assoc, pos, Some, ◌^◌}
use Rattle.cc_base.specs.declared.number.NodeId.{NodeId}
use Rattle.cc_base.specs.declared.number.TypeId.{TypeId}
use Rattle.cc_base.specs.declared.place.Place.{Place}
use Rattle.c_tree.specs.Views.{added}
use Rattle.c_tree.specs.TypedTree as typed
use Rattle.c_tree.specs.TypedTree.{TypedInitialiser, TypedItems}
use Rattle.c_tree.specs.TypedParts.{item_place}
use Rattle.c_tree.specs.TypedStatementViews.{typed_init_declarator_view}
use Rattle.c_tree.specs.declared.typed_statement.TypedInitDeclarator.{TypedInitDeclarator}
use Rattle.c_tree.proofs.ListLaws.{one_more}
use Rattle.cil_form.specs.declared.instr.Access.TheVariants as access
use Rattle.cil_form.specs.declared.instr.Instr.{Instr}
use Rattle.cil_form.specs.declared.instr.Instr.TheVariants as instr
use Rattle.cil_form.specs.declared.instr.Set.TheVariants as set
use Rattle.c_types.specs.Table.{Table}
use Rattle.cil_form.specs.declared.number.Object.{Object}
use Rattle.lower_rules.specs.Pieces.{Form, Line, Then, When}
use Rattle.lower_rules.specs.Words.{Constant, Context, constant, object_in, value}
use Rattle.lower_rules.specs.Initialisers.{Initialised, IsCodeOfDeclarators, IsCodeOfInitialiser, IsCodeOfItems, IsCodeOfObject, part, text_code}
use Rattle.lower_exprs.specs.declared.draft.Draft.{Draft}
use Rattle.lower_exprs.specs.Drafts.{Grows}
use Rattle.lower_exprs.specs.Ready.{HasObject, IsConstant}
use Rattle.lower_exprs.proofs.Laws.{grows_then}
use Rattle.lower_initialisers.specs.Ready.{Fills, HasCodeOfDeclarators, HasCodeOfInitialiser, HasCodeOfItems}
use Rattle.lower_initialisers.specs.Texts.{Byte}

-- no code behind
pub grows_kept : (P : Form) (R : Type 0) (a b c : Draft) → Grows P R a b → Grows (Line []) (Unit {0}) b c → Grows P R a c
unfolding Grows Line
grows_kept P R a b c f g = (
  λ fine.
      let q = g.0 fine in let p = f.0 q.0 in
      (p.0, (p.1.0, p.1.1, q.1.2 ∙ ap (λ m. b.items.items ++ m) q.1.1 ∙ append-nil b.items.items ∙ p.1.2)),
  λ r e. g.1 tt (f.1 r e),
)

-- Objects

pub grows_found : (k : Context) (node : NodeId) (t : TypeId) (at : Place) (i : TypedInitialiser) (o : Object) (R : Type 0) (a b : Draft)
    → object_in k node ≡ Some o → Grows (Fills (record { object = o; node = node; type = t }) at i k) R a b
    → Grows (IsCodeOfObject node t at i k) (HasObject k node × R) a b
unfolding Grows Fills
grows_found k node t at i o R a b e f =
    (λ fine. let q = f.0 fine in (q.0, (q.1.0, (o, e, q.1.1), q.1.2)), λ r z. f.1 r.1 z)

pub grows_missing : (P : Form) (H R : Type 0) (a b : Draft) → (H → ⊥) → b.fine ≡ false → Grows P (H × R) a b
unfolding Grows
grows_missing P H R a b never f = ((λ fine. cc), λ r e. absurd (never r.0))

pub more_declarators : (ds : List TypedInitDeclarator) (i : ℕ) (d : TypedInitDeclarator) (k : Context) (a c : Draft)
    → i < length ds → d ≡ get_or ds i d
    → Grows (IsCodeOfDeclarators (typed_init_declarator_view d (added typed.NoInitDeclarator (map typed_init_declarator_view (take i ds)))) k)
    (HasCodeOfDeclarators (typed_init_declarator_view d (added typed.NoInitDeclarator (map typed_init_declarator_view (take i ds)))) k) a c
    → Grows (IsCodeOfDeclarators (added typed.NoInitDeclarator (map typed_init_declarator_view (take (i + 1) ds))) k)
    (HasCodeOfDeclarators (added typed.NoInitDeclarator (map typed_init_declarator_view (take (i + 1) ds))) k) a c
more_declarators ds i d k a c within at f =
    let law : added typed.NoInitDeclarator (map typed_init_declarator_view (take (i + 1) ds))
    ≡ typed_init_declarator_view d (added typed.NoInitDeclarator (map typed_init_declarator_view (take i ds)))
    = one_more typed_init_declarator_view ds i d within at typed.NoInitDeclarator in
    subst (λ all. Grows (IsCodeOfDeclarators all k) (HasCodeOfDeclarators all k) a c) (sym law) f

-- Items

-- at a number, where it is one of those that there are
grows_at : (n c : ℕ) (P : ℕ → Form) (R : ℕ → Type 0) (A : Type 0) (a b d : Draft)
    → (A → c ≡ n) → Grows (When A (Line [])) A a b → Grows (P c) (R c) b d → Grows (P n) (A × R n) a d
unfolding Grows When Line
grows_at n c P R A a b d same f g = (
  λ fine.
      let q = g.0 fine in let p = f.0 q.0 in (
        p.0,
        (
          q.1.0,
          subst (λ m. P m q.1.0) (same p.1.1.0) q.1.1,
          q.1.2 ∙ ap (λ m. m ++ q.1.0) (p.1.2 ∙ ap (λ m. a.items.items ++ m) p.1.1.1 ∙ append-nil a.items.items),
        ),
      ),
  λ r e. g.1 (subst R (sym (same r.0)) r.1) (f.1 r.0 e),
)

pub one_item : (all : TypedItems) (k : Context) (base : ℕ) (o : Initialised) (offset c : ℕ) (t : TypeId) (i : TypedInitialiser) (start a b d : Draft)
    → Grows (IsCodeOfItems all k base o) (HasCodeOfItems all k base) start a
    → Grows (When (base + offset < 2 ^ 64) (Line [])) (base + offset < 2 ^ 64) a b → (base + offset < 2 ^ 64 → c ≡ base + offset)
    → Grows (IsCodeOfInitialiser i k (item_place i) t c o) (HasCodeOfInitialiser i k t c) b d
    → Grows (IsCodeOfItems (typed.AndItem all offset t i) k base o) (HasCodeOfItems (typed.AndItem all offset t i) k base) start d
one_item all k base o offset c t i start a b d before room same f =
    grows_then _ _ _ _ start a d before
    (grows_at (base + offset) c (λ n. IsCodeOfInitialiser i k (item_place i) t n o) (λ n. HasCodeOfInitialiser i k t n) _ a b d same room f)

-- String literals

abbrev byte_code : Table → Initialised → TypeId → Place → ℕ → ℕ → List Instr
byte_code table o char at base b =
    instr.Set (set.Integer (value 0) (constant table char (pos b)) char) ∷ instr.Access (access.Store (part o base) (value 0) char at at) ∷ []

text-more : (table : Table) (o : Initialised) (char : TypeId) (at : Place) (base : ℕ) (xs : List ℕ) (i b : ℕ) → i < length xs → b ≡ get_or xs i 0
    → text_code table o char at base (take (suc i) xs) ≡ text_code table o char at base (take i xs) ++ byte_code table o char at (base + i) b
text-more table o char at base [] i b within e = absurd (omega arith)
text-more table o char at base (y ∷ ys) zero b within e =
    let law : base ≡ base + zero = omega arith in
    ap (λ n. byte_code table o char at n y) law ∙ ap (λ z. byte_code table o char at (base + zero) z) (sym e)
text-more table o char at base (y ∷ ys) (suc i) b within e =
    let law : base + 1 + i ≡ base + suc i = omega arith in
    ap (λ m. instr.Set (set.Integer (value 0) (constant table char (pos y)) char) ∷ instr.Access (access.Store (part o base) (value 0) char at at) ∷ m)
    (text-more table o char at (base + 1) ys i b (omega arith) e
    ∙ ap (λ n. text_code table o char at (base + 1) (take i ys) ++ byte_code table o char at n b) law)

pub more_text : (k : Context) (o : Initialised) (char : TypeId) (at : Place) (base : ℕ) (bytes : List ℕ) (i j b : ℕ) (a m c : Draft)
    → i < length bytes → b ≡ get_or bytes i 0 → j ≡ base + i
    → Grows (Line (text_code k.table o char at base (take i bytes))) (IsConstant k char) a m
    → Grows (Byte k o char at j b) (IsConstant k char × Unit {0}) m c
    → Grows (Line (text_code k.table o char at base (take (i + 1) bytes))) (IsConstant k char) a c
unfolding Grows Line Then Constant
more_text k o char at base bytes i j b a m c within e number f g =
    let law : text_code k.table o char at base (take (i + 1) bytes) ≡ text_code k.table o char at base (take i bytes) ++ byte_code k.table o char at (base + i) b
    = rw add-one (text-more k.table o char at base bytes i b within e) in (
      λ fine.
          let q = g.0 fine in let p = f.0 q.0 in let d = q.1.1 in (
            p.0,
            (
              p.1.0 ++ q.1.0,
              ap (λ z. z ++ q.1.0) p.1.1
                  ∙ ap (λ z. text_code k.table o char at base (take i bytes) ++ z)
                  (d.4 ∙ ap (λ z. z ++ d.1) d.2 ∙ ap (λ z. (instr.Set (set.Integer (value 0) (constant k.table char (pos b)) char) ∷ []) ++ z) d.3
                  ∙ ap (λ n. byte_code k.table o char at n b) number)
                  ∙ sym law,
              q.1.2 ∙ ap (λ z. z ++ q.1.0) p.1.2 ∙ append_assoc a.items.items p.1.0 q.1.0,
            ),
          ),
      λ r z. g.1 (r, tt) (f.1 r z),
    )

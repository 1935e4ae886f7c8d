-- How drafts grow.
use Rattle.std.proofs.Common.{◌≡◌, refl, ap, sym, subst, ◌∙◌, ◌+◌, ◌<◌, map, fold, take, get_or, length, add-one, arith, length-take, ℕ, Bool, true, false, List, [], ◌∷◌, ◌++◌, append_assoc, append-nil, Some}
use Rattle.cil_form.specs.declared.number.Temp.{Temp}
use Rattle.cil_form.specs.declared.instr.Instr.{Instr}
use Rattle.cil_form.specs.declared.instr.Instr.TheVariants as instr
use Rattle.cil_form.specs.declared.instr.Set.TheVariants as set
use Rattle.cil_form.specs.declared.number.Object.{Object}
use Rattle.cc_base.specs.declared.number.NodeId.{NodeId}
use Rattle.cc_base.specs.declared.number.TypeId.{TypeId}
use Rattle.c_tree.specs.TypedTree as typed
use Rattle.c_tree.specs.TypedTree.{TypedExpr, TypedPlace, TypedArguments}
use Rattle.c_tree.specs.TypedViews.{typed_expr_view, typed_arguments_of}
use Rattle.c_tree.specs.declared.typed_expr.TypedExpr.{TypedExpr as CodeExpr}
use Rattle.c_tree.proofs.ListLaws.{with_one}
use Rattle.lower_rules.specs.Pieces.{Form, Line, Then, Choice, When}
use Rattle.lower_rules.specs.Words.{Context, value, LogicalOf, Truth, Objects, object_in, Follows}
use Rattle.lower_rules.specs.Expressions.{IsCodeOf, IsCodeOfPlace, IsCodeOfArguments, IsFixed, node_in_place, count}
use Rattle.lower_rules.specs.declared.after.After.{After}
use Rattle.lower_rules.specs.declared.after.After.TheVariants as after
use Rattle.lower_exprs.specs.declared.draft.Draft.{Draft}
use Rattle.lower_exprs.specs.Drafts.{Grows, Starts, Chosen, Decided, AreBothReady, Fixed, Numbered, numbered}
use Rattle.lower_exprs.specs.Ready.{HasCode, HasCodeOfPlace, HaveCode}

-- one instruction is appended
pub grows_one : (one : Instr) (a b : Draft)
    → (b.fine ≡ true → (a.fine ≡ true) × (b.items.items ≡ a.items.items ++ (one ∷ []))) → b.ready ≡ a.ready
    → Grows (Line (one ∷ [])) (Unit {0}) a b
unfolding Grows Line
grows_one one a b f same = (λ fine. ((f fine).0, (one ∷ [], refl, (f fine).1)), λ r e. same ∙ e)

-- one piece after another
pub grows_then : (P Q : Form) (R S : Type 0) (a b c : Draft) → Grows P R a b → Grows Q S b c → Grows (Then P Q) (R × S) a c
unfolding Grows Then
grows_then P Q R S a b c f g = (
  λ fine.
      let q = g.0 fine in let p = f.0 q.0 in
      (p.0, (p.1.0 ++ q.1.0, (p.1.0, q.1.0, p.1.1, q.1.1, refl), q.1.2 ∙ ap (λ m. m ++ q.1.0) p.1.2 ∙ append_assoc a.items.items p.1.0 q.1.0)),
  λ r e. g.1 r.1 (f.1 r.0 e),
)

grows_lines : (x y : List Instr) (a b c : Draft)
    → Grows (Line x) (Unit {0}) a b → Grows (Line y) (Unit {0}) b c → Grows (Line (x ++ y)) (Unit {0}) a c
unfolding Grows Line
grows_lines x y a b c f g = (
  λ fine.
      let q = g.0 fine in let p = f.0 q.0 in (
        p.0,
        (
          x ++ y,
          refl,
          q.1.2 ∙ ap (λ m. m ++ q.1.0) p.1.2 ∙ append_assoc a.items.items p.1.0 q.1.0
              ∙ ap (λ z. a.items.items ++ z) (ap (λ z. z ++ q.1.0) p.1.1 ∙ ap (λ z. x ++ z) q.1.1),
        ),
      ),
  λ r e. g.1 tt (f.1 tt e),
)

pub grows_line : (one : Instr) (y : List Instr) (a b c : Draft)
    → Grows (Line (one ∷ [])) (Unit {0}) a b → Grows (Line y) (Unit {0}) b c → Grows (Line (one ∷ y)) (Unit {0}) a c
grows_line one y a b c f g = grows_lines (one ∷ []) y a b c f g

-- nothing is appended
pub grows_nothing : (R : Type 0) (a : Draft) → Grows (Line []) R a a
unfolding Grows Line
grows_nothing R a = (λ fine. (fine, ([], refl, sym (append-nil a.items.items))), λ r e. e)

-- what failed, where something was met that has no code
pub grows_failed : (P : Form) (R : Type 0) (a b : Draft) → (R → ⊥) → b.fine ≡ false → Grows P R a b
unfolding Grows
grows_failed P R a b never f = ((λ fine. cc), λ r e. absurd (never r))

pub grows_never : (P : Form) (a b : Draft) → b.fine ≡ false → Grows P ⊥ a b
unfolding Grows
grows_never P a b f = ((λ fine. cc), λ r e. absurd r)

-- what failed, where all that was met has code
pub grows_skipped : (P : Form) (R : Type 0) (a b : Draft) → b.ready ≡ a.ready → b.fine ≡ false → Grows P R a b
unfolding Grows
grows_skipped P R a b same f = ((λ fine. cc), λ r e. same ∙ e)

-- what is always ready
pub grows_always : (P : Form) (R : Type 0) (a b : Draft) → Grows P (Unit {0}) a b → Grows P R a b
unfolding Grows
grows_always P R a b f = (f.0, λ r e. f.1 tt e)

-- where something holds
pub grows_when : (A R : Type 0) (P : Form) (a b : Draft) → A → Grows P (Unit {0}) a b → Grows (When A P) R a b
unfolding Grows When
grows_when A R P a b h f = ((λ fine. let q = f.0 fine in (q.0, (q.1.0, (h, q.1.1), q.1.2))), λ r e. f.1 tt e)

-- Choices. The draft of a side begins empty.

made : (P : Form) (R : Type 0) (s d : Draft) → Starts s → Grows P R s d → d.fine ≡ true → P d.items.items
unfolding Grows Starts
made P R s d empty f fine = let p = (f.0 fine).1 in subst P (sym (p.2 ∙ ap (λ z. z ++ p.0) empty.0)) p.1

stays : (P : Form) (R : Type 0) (s d : Draft) → Starts s → Grows P R s d → R → d.ready ≡ true
unfolding Grows Starts
stays P R s d empty f r = f.1 r empty.1

pub grows_chosen : (t : Temp) (one two a b : Draft) → one.fine ≡ true → two.fine ≡ true → b.ready ≡ a.ready
    → (b.fine ≡ true → (a.fine ≡ true)
    × (b.items.items ≡ a.items.items ++ (instr.If t (record { 0 = one.items }) (record { 0 = two.items }) ∷ [])))
    → Grows (Chosen t one two) (AreBothReady one two) a b
unfolding Grows Chosen Choice Line
grows_chosen t one two a b g h same f = (
  λ fine.
      let q = f fine in (
        q.0,
        (
          instr.If t (record { 0 = one.items }) (record { 0 = two.items }) ∷ [],
          (g, h, (record { 0 = one.items }, record { 0 = two.items }, refl, refl, refl)),
          q.1,
        ),
      ),
  λ r e. same ∙ e,
)

pub grows_choice : (t : Temp) (P Q : Form) (R S : Type 0) (s r one two a b : Draft)
    → Grows (Chosen t one two) (AreBothReady one two) a b
    → Grows P R s one → Starts s → Grows Q S r two → Starts r → Grows (Choice t P Q) (R × S) a b
unfolding Grows Chosen Choice Line
grows_choice t P Q R S s r one two a b h f es g er = (
  λ fine.
      let q = h.0 fine in let c = q.1.1 in
      (q.0, (q.1.0, (c.2.0, c.2.1, subst P (sym c.2.2) (made P R s one es f c.0), subst Q (sym c.2.3) (made Q S r two er g c.1), c.2.4), q.1.2)),
  λ z e. h.1 (stays P R s one es f z.0, stays Q S r two er g z.1) e,
)

pub grows_logical : (or : Bool) (t : ℕ) (P : Form) (R : Type 0) (s right a b : Draft)
    → Grows (Decided or t right) (right.ready ≡ true) a b → Grows P R s right → Starts s → Grows (LogicalOf or t P) R a b
unfolding Grows Decided LogicalOf Choice Line
grows_logical true t P R s right a b h f es = (
  λ fine.
      let q = h.0 fine in let c = q.1.1 in
      (q.0, (q.1.0, (c.1.0, c.1.1, c.1.2, subst P (sym c.1.3) (made P R s right es f c.0), c.1.4), q.1.2)),
  λ z e. h.1 (stays P R s right es f z) e,
)
grows_logical false t P R s right a b h f es = (
  λ fine.
      let q = h.0 fine in let c = q.1.1 in
      (q.0, (q.1.0, (c.1.0, c.1.1, subst P (sym c.1.2) (made P R s right es f c.0), c.1.3, c.1.4), q.1.2)),
  λ z e. h.1 (stays P R s right es f z) e,
)

-- the constant of `&&` and `||`
pub grows_decided_true : (t : ℕ) (s constant right a b : Draft)
    → Grows (Chosen (value t) constant right) (AreBothReady constant right) a b → Grows (Truth t 1) (Unit {0}) s constant → Starts s
    → Grows (Decided true t right) (right.ready ≡ true) a b
unfolding Grows Decided Chosen LogicalOf Choice Line
grows_decided_true t s constant right a b h f es = (
  λ fine.
      let q = h.0 fine in let c = q.1.1 in
      (q.0, (q.1.0, (c.1, (c.2.0, c.2.1, c.2.2 ∙ made (Truth t 1) (Unit {0}) s constant es f c.0, c.2.3, c.2.4)), q.1.2)),
  λ z e. h.1 (stays (Truth t 1) (Unit {0}) s constant es f tt, z) e,
)

pub grows_decided_false : (t : ℕ) (s constant right a b : Draft)
    → Grows (Chosen (value t) right constant) (AreBothReady right constant) a b → Grows (Truth t 0) (Unit {0}) s constant → Starts s
    → Grows (Decided false t right) (right.ready ≡ true) a b
unfolding Grows Decided Chosen LogicalOf Choice Line
grows_decided_false t s constant right a b h f es = (
  λ fine.
      let q = h.0 fine in let c = q.1.1 in
      (q.0, (q.1.0, (c.0, (c.2.0, c.2.1, c.2.2, c.2.3 ∙ made (Truth t 0) (Unit {0}) s constant es f c.1, c.2.4)), q.1.2)),
  λ z e. h.1 (z, stays (Truth t 0) (Unit {0}) s constant es f tt) e,
)

-- Places

then-more : (P F G : Form) (code rest : List Instr) → ((c : List Instr) → F c → G (c ++ rest)) → Then P F code → Then P G (code ++ rest)
unfolding Then
then-more P F G code rest g d = (d.0, d.1 ++ rest, d.2, g d.1 d.3, ap (λ c. c ++ rest) d.4 ∙ append_assoc d.0 d.1 rest)

-- what comes after a place that is no choice comes at the end of its code
place_extend : (p : TypedPlace) (k : Context) (t : ℕ) (F G : NodeId → Form) (code rest : List Instr)
    → ((c : List Instr) → F (node_in_place k p) c → G (node_in_place k p) (c ++ rest)) → IsFixed p
    → IsCodeOfPlace p k t F code → IsCodeOfPlace p k t G (code ++ rest)
place_extend (typed.Variable name node ty) k t F G code rest g f h = then-more _ (F node) (G node) code rest g h
place_extend (typed.String pieces node ty) k t F G code rest g f h = then-more _ (F node) (G node) code rest g h
place_extend (typed.ParenPlace at p) k t F G code rest g f h = place_extend p k t F G code rest g f h
place_extend (typed.Target at e ty) k t F G code rest g f h = then-more _ (F _) (G _) code rest g h
place_extend (typed.Element which a at b ty) k t F G code rest g f h = then-more _ (F _) (G _) code rest g h
place_extend (typed.Member p at name i node ty) k t F G code rest g f h = then-more _ (F node) (G node) code rest g h
place_extend (typed.MemberAt e at name i node ty) k t F G code rest g f h = then-more _ (F node) (G node) code rest g h
place_extend (typed.StructAssign p at q) k t F G code rest g f h =
    place_extend p k t _ _ code rest (λ c d. then-more _ (F (node_in_place k p)) (G (node_in_place k p)) c rest g d) f h
place_extend (typed.StructConditional c at p q) k t F G code rest g f h = absurd f
place_extend (typed.StructComma e p) k t F G code rest g f h =
    then-more _ (IsCodeOfPlace p k t F) (IsCodeOfPlace p k t G) code rest (λ c d. place_extend p k t F G c rest g f d) h

joined : (P : Form) (rest c : List Instr) → Line [] c → P rest → P (c ++ rest)
unfolding Line
joined P rest c empty h = subst P (sym (ap (λ z. z ++ rest) empty)) h

pub grows_fixed : (p : TypedPlace) (a : Draft) → IsFixed p → Grows (Fixed p) (IsFixed p) a a
unfolding Grows Fixed Line When
grows_fixed p a h = (λ fine. (fine, ([], (h, refl), sym (append-nil a.items.items))), λ r e. e)

-- the address of a place that is no choice, and then what comes after
pub grows_reached : (p : TypedPlace) (k : Context) (t : ℕ) (G : NodeId → Form) (R S : Type 0) (z a b c : Draft)
    → Grows (Fixed p) (IsFixed p) z a → Grows (IsCodeOfPlace p k t (Follows after.Nothing t)) R a b
    → Grows (G (node_in_place k p)) S b c → Grows (IsCodeOfPlace p k t G) (IsFixed p × (R × S)) z c
unfolding Grows Fixed Follows Line When
grows_reached p k t G R S z a b c fixed f g = (
  λ fine.
      let q = g.0 fine in let r = f.0 q.0 in let s = fixed.0 r.0 in (
        s.0,
        (
          r.1.0 ++ q.1.0,
          place_extend p k t (Follows after.Nothing t) G r.1.0 q.1.0 (λ z e. joined (G (node_in_place k p)) q.1.0 z e q.1.1) s.1.1.0 r.1.1,
          q.1.2 ∙ ap (λ m. m ++ q.1.0) (r.1.2 ∙ ap (λ m. m ++ r.1.0) (s.1.2 ∙ ap (λ m. z.items.items ++ m) s.1.1.1 ∙ append-nil z.items.items))
              ∙ append_assoc z.items.items r.1.0 q.1.0,
        ),
      ),
  λ r e. g.1 r.1.1 (f.1 r.1.0 (fixed.1 r.0 e)),
)

-- the address of an object that was found
pub grows_object : (k : Context) (v : ℕ) (home : NodeId) (t : TypeId) (o : Object) (R : Type 0) (a b : Draft) → object_in k home ≡ Some o
    → (b.fine ≡ true → (a.fine ≡ true) × (b.items.items ≡ a.items.items ++ (instr.Set (set.Object (value v) o home t) ∷ [])))
    → b.ready ≡ a.ready → Grows (Objects k v home t) R a b
unfolding Grows Objects
grows_object k v home t o R a b e f same =
    (λ fine. let q = f fine in (q.0, (instr.Set (set.Object (value v) o home t) ∷ [], (o, e, refl), q.1)), λ r z. same ∙ z)

-- Numbers of values

numbered-is : (n : ℕ) → n < 256 → numbered n ≡ n
unfolding numbered
numbered-is n h = grind (arith, h)

pub grows_numbered : (n : ℕ) (a : Draft) → n < 256 → Grows (Numbered n) (n < 256) a a
unfolding Grows Numbered When Line
grows_numbered n a h = (λ fine. (fine, ([], (h, refl), sym (append-nil a.items.items))), λ r e. e)

-- what is in the value of a number that is there
numbered-code : (n : ℕ) (Q : ℕ → Form) (S : ℕ → Type 0) (a b c : Draft) → Grows (Numbered n) (n < 256) a b
    → Grows (Q (numbered n)) (S (numbered n)) b c → Grows (Q n) ((n < 256) × S n) a c
unfolding Grows Numbered When Line
numbered-code n Q S a b c f g = (
  λ fine.
      let q = g.0 fine in let p = f.0 q.0 in (
        p.0,
        (
          q.1.0,
          subst (λ m. Q m q.1.0) (numbered-is n p.1.1.0) q.1.1,
          q.1.2 ∙ ap (λ m. m ++ q.1.0) (p.1.2 ∙ ap (λ m. a.items.items ++ m) p.1.1.1 ∙ append-nil a.items.items),
        ),
      ),
  λ r e. g.1 (subst S (sym (numbered-is n r.0)) r.1) (f.1 r.0 e),
)

pub grows_operand : (e : TypedExpr) (k : Context) (n : ℕ) (a b c : Draft) → Grows (Numbered n) (n < 256) a b
    → Grows (IsCodeOf e k (numbered n)) (HasCode e k (numbered n)) b c → Grows (IsCodeOf e k n) ((n < 256) × HasCode e k n) a c
grows_operand e k n a b c f g = numbered-code n (IsCodeOf e k) (HasCode e k) a b c f g

pub grows_side : (p : TypedPlace) (k : Context) (n : ℕ) (what : After) (S : Type 0) (a b c : Draft) → Grows (Numbered n) (n < 256) a b
    → Grows (IsCodeOfPlace p k (numbered n) (Follows what (numbered n))) (HasCodeOfPlace p k (numbered n) S) b c
    → Grows (IsCodeOfPlace p k n (Follows what n)) ((n < 256) × HasCodeOfPlace p k n S) a c
grows_side p k n what S a b c f g =
    numbered-code n (λ m. IsCodeOfPlace p k m (Follows what m)) (λ m. HasCodeOfPlace p k m S) a b c f g

-- Arguments

counted : (a : TypedArguments) (es : List CodeExpr) → count (fold typed.AndArgument a (map typed_expr_view es)) ≡ count a + length es
counted a [] = omega arith
counted a (e ∷ es) = counted (typed.AndArgument a (typed_expr_view e)) es ∙ omega arith

pub count_arguments : (es : List CodeExpr) → count (typed_arguments_of (map typed_expr_view es)) ≡ length es
count_arguments es = counted typed.NoArgument es ∙ omega arith

pub one_argument : (es : List CodeExpr) (i : ℕ) (e : CodeExpr) (k : Context) (t j : ℕ) (a b z c : Draft)
    → i < length es → e ≡ get_or es i e → j ≡ i
    → Grows (IsCodeOfArguments (typed_arguments_of (map typed_expr_view (take i es))) k t)
    (HaveCode (typed_arguments_of (map typed_expr_view (take i es))) k t) a b
    → Grows (Numbered (t + j)) (t + j < 256) b z
    → Grows (IsCodeOf (typed_expr_view e) k (numbered (t + j))) (HasCode (typed_expr_view e) k (numbered (t + j))) z c
    → Grows (IsCodeOfArguments (typed_arguments_of (map typed_expr_view (take (i + 1) es))) k t)
    (HaveCode (typed_arguments_of (map typed_expr_view (take (i + 1) es))) k t) a c
one_argument es i e k t j a b z c within at same f n g =
    let all = typed_arguments_of (map typed_expr_view (take i es)) in
    let many : count all ≡ i = count_arguments (take i es) ∙ grind (arith, length-take) in
    let law : typed_arguments_of (map typed_expr_view (take (i + 1) es)) ≡ typed.AndArgument all (typed_expr_view e)
    = rw add-one (with_one typed.AndArgument typed_expr_view es i e within at typed.NoArgument) in
    let last = grows_operand (typed_expr_view e) k (t + j) b z c n g in
    subst (λ more. Grows (IsCodeOfArguments more k t) (HaveCode more k t) a c) (sym law)
    (grows_then _ _ _ _ a b c f
    (subst (λ m. Grows (IsCodeOf (typed_expr_view e) k (t + m)) ((t + m < 256) × HasCode (typed_expr_view e) k (t + m)) b c) (same ∙ sym many) last))

-- what asks for less
pub grows_of : (P : Form) (R S : Type 0) (a b : Draft) → (R → S) → Grows P S a b → Grows P R a b
unfolding Grows
grows_of P R S a b less f = (f.0, λ r e. f.1 (less r) e)

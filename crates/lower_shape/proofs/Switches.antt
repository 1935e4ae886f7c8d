-- The code of `switch` is in shape, over that of its pieces.
use Rattle.std.proofs.Common.{ℕ, ℤ, suc, ◌<◌, ◌≤◌, ◌^◌, ◌≡◌, refl, ap, ◌∙◌, sym, subst, Bool, true, false, List, [], ◌∷◌, ◌++◌, arith, if◌then◌else◌, nat_eq, nat_lt, Option, Some, None, pos, append_assoc}
use Rattle.std.proofs.lemmas.Bool.Decides.{nat_tests}
use Rattle.cc_base.specs.declared.place.Place.{Place}
use Rattle.cc_base.specs.declared.number.TypeId.{TypeId}
use Rattle.c_types.specs.declared.shape.TypeShape.TheVariants as shape
use Rattle.c_types.specs.Table.{HasShape, shape_at}
use Rattle.integers.specs.Arithmetic as integer
use Rattle.integers.specs.Arithmetic.{IntegerType, converted, int}
use Rattle.integers.proofs.WordLaws.{residue-small}
use Rattle.c_tree.specs.TypedTree as typed
use Rattle.c_tree.specs.TypedTree.{TypedBlockItems}
use Rattle.c_ready.specs.Rows.{Around}
use Rattle.c_ready.specs.Ready.{Stage, AreReadyBlockItems}
use Rattle.src_machine.specs.Statements.{labels, otherwise, default_or}
use Rattle.cil_form.specs.declared.number.Temp.TheVariants as temp
use Rattle.cil_form.specs.declared.instr.Comparison.TheVariants as comparison
use Rattle.cil_form.specs.declared.instr.Operator.TheVariants as operator
use Rattle.cil_form.specs.declared.instr.Set.TheVariants as set
use Rattle.cil_form.specs.declared.instr.Calculate.TheVariants as calculate
use Rattle.cil_form.specs.declared.instr.Convert.TheVariants as convert
use Rattle.cil_form.specs.declared.instr.Instr.{Instr}
use Rattle.cil_form.specs.declared.instr.Instr.TheVariants as instr
use Rattle.cil_form.specs.declared.instr.Code.{Code}
use Rattle.cil_form.specs.Typing.{HeldType, IntegerOf, Typing, Context, Includes, with_held, held_by, Holds, IsInteger, AreShaped}
use Rattle.cil_form.proofs.TypingLaws.{includes-all, includes-more, held-shaped}
use Rattle.lower_rules.specs.Pieces.{Form, Line, Then, Choice}
use Rattle.lower_rules.specs.Words.{value, work, unsigned_long}
use Rattle.lower_rules.specs.Statements.{label_of, IsCodeOfTests, Guarded}
use Rattle.lower_shape.proofs.Forms.{Agrees, with-agrees, with-same}
use Rattle.lower_shape.proofs.Types.{integer-held}
use Rattle.lower_shape.proofs.Updates.{as-integer}
use Rattle.lower_shape.proofs.Places.{sets}
use Rattle.lower_shape.proofs.Between.{between, between-agrees, AllDo, Ends, does-nothing, ends-choice}

-- Numbers of labels

-- a number of 64 bits is an unsigned long
pub number-fits : (j : ℕ) → j < 2 ^ 64 → converted integer.unsigned_long (pos j) ≡ pos j
number-fits j h = ap (λ n. pos n) (residue-small j (2 ^ 64) h)

default-few : (items : TypedBlockItems) (d most : ℕ) → labels items ≤ most → d ≤ most → default_or items d ≤ most
default-few typed.NoBlockItem d most h l = l
default-few (typed.AndStatement all t) d most h l = default-few all d most h l
default-few (typed.AndDeclaration all t) d most h l = default-few all d most h l
default-few (typed.AndCase all at e z) d most h l = default-few all d most (omega (arith, h)) l
default-few (typed.AndDefault all at) d most h l = default-few all (suc (labels all)) most (omega (arith, h)) h

pub otherwise-few : (items : TypedBlockItems) (limit : ℕ) → suc (labels items) < limit → otherwise items < limit
otherwise-few items limit h =
    omega (arith, h, default-few items (suc (labels items)) (suc (labels items)) (omega arith) (omega arith))

-- What is known

-- one `switch` more keeps what the others keep
pub between-more : (n : ℕ) → Includes (between (suc n)) (between n)
between-more n (temp.Value j) x e = e
between-more n (temp.Switch j) x e = by (nat_lt j n) refl e
  where
    less : (j n : ℕ) → nat_lt j n ≡ true → nat_lt j (suc n) ≡ true
    less j n h = grind (arith, nat_tests, h)

    by : (c : Bool) → nat_lt j n ≡ c → (if c then Some (IntegerOf integer.unsigned_long) else None) ≡ Some x
        → (if nat_lt j (suc n) then Some (IntegerOf integer.unsigned_long) else None) ≡ Some x
    by true q g = ap (λ c. if c then Some (IntegerOf integer.unsigned_long) else None) (less j n q) ∙ g
    by false q g = absurd (cc (g))
between-more n (temp.Work w) x e = e

-- it is known once its label is
with-label : (n : ℕ) (U : Typing) → Includes U (between n)
    → Includes (with_held (label_of n) (Some (IntegerOf integer.unsigned_long)) U) (between (suc n))
with-label n U h (temp.Value j) x e = absurd (cc (e))
with-label n U h (temp.Switch j) x e = by (nat_eq j n) (nat_lt j (suc n)) refl refl e
  where
    less : (j n : ℕ) → nat_eq j n ≡ false → nat_lt j (suc n) ≡ true → nat_lt j n ≡ true
    less j n h g = grind (arith, nat_tests, h, g)

    by : (c d : Bool) → nat_eq j n ≡ c → nat_lt j (suc n) ≡ d → (if d then Some (IntegerOf integer.unsigned_long) else None) ≡ Some x
        → (if c then Some (IntegerOf integer.unsigned_long) else U (temp.Switch j)) ≡ Some x
    by true true q r g = g
    by true false q r g = absurd (cc (g))
    by false false q r g = absurd (cc (g))
    by false true q r g =
        h (temp.Switch j) x (ap (λ z. if z then Some (IntegerOf integer.unsigned_long) else None) (less j n q r) ∙ g)
with-label n U h (temp.Work w) x e = absurd (cc (e))

label-known : (n : ℕ) → between (suc n) (label_of n) ≡ Some (IntegerOf integer.unsigned_long)
label-known n = ap (λ z. if z then Some (IntegerOf integer.unsigned_long) else None) (less n)
  where
    less : (n : ℕ) → nat_lt n (suc n) ≡ true
    less n = grind (arith, nat_tests)

-- what is known while the labels are tried: value 0, which each is compared with
abbrev testing : ℕ → Option HeldType → Typing
testing n x = with_held (value 0) x (between (suc n))

testing-known : (n : ℕ) (x : Option HeldType) (U : Typing) → Includes U (between (suc n)) → U (value 0) ≡ x → Includes U (testing n x)
testing-known n x U h e (temp.Value j) y g = by (nat_eq j 0) refl g
  where
    zero-only : (j : ℕ) → nat_eq j 0 ≡ true → j ≡ 0
    zero-only j q = grind (arith, nat_tests, q)

    by : (c : Bool) → nat_eq j 0 ≡ c → (if c then x else None) ≡ Some y → U (temp.Value j) ≡ Some y
    by true q r = ap (λ z. U (temp.Value z)) (zero-only j q) ∙ e ∙ r
    by false q r = absurd (cc (r))
testing-known n x U h e (temp.Switch j) y g = h (temp.Switch j) y g
testing-known n x U h e (temp.Work v) y g = absurd (cc (g))

testing-more : (n : ℕ) (x : Option HeldType) → Includes (testing n x) (between (suc n))
testing-more n x (temp.Value j) y g = absurd (cc (g))
testing-more n x (temp.Switch j) y g = g
testing-more n x (temp.Work v) y g = absurd (cc (g))

-- all code of the form keeps what is known while the labels are tried
abbrev pub Tests : Context → ℕ → Option HeldType → Form → Type 0
Tests k n x P = (c : List Instr) → P c → (T final : Typing) (rest : List Instr) → Includes T (between (suc n)) → T (value 0) ≡ x
    → ((U : Typing) → Includes U (between (suc n)) → U (value 0) ≡ x → AreShaped rest k U final) → AreShaped (c ++ rest) k T final

module _ (k : Context) (n : ℕ) (here : n < 256) (number : HasShape k.table unsigned_long (shape.Integer 8 false)) where
  nothing-tested : (x : Option HeldType) → Tests k n x (Line [])
  unfolding Line
  nothing-tested x c d T final rest inc e next = subst (λ z. AreShaped (z ++ rest) k T final) (sym d) (next T inc e)

  -- a label
  one-tested : (t : TypeId) (i : IntegerType) (z : ℤ) (at : Place) (j : ℕ) (Q : Form) → IsInteger k t i → converted i z ≡ z → j < 2 ^ 64
      → Tests k n (held_by k t) Q
      → Tests k n (held_by k t) (Then (Line (instr.Set (set.Integer (value 1) z t)
      ∷ instr.Calculate (calculate.Binary (value 1) (operator.Compare comparison.Equal) (value 1) (value 0) t at) ∷ []))
      (Then (Choice (value 1) (Line (instr.Set (set.Integer (label_of n) (pos j) unsigned_long) ∷ [])) (Line [])) Q))
  unfolding Line Then Choice
  one-tested t i z at j Q is fits few q c d T final rest inc known next =
      subst (λ l. AreShaped (l ++ rest) k T final) (sym same)
      (sets k (instr.Set (set.Integer (value 1) z t)) (value 1) (Some (IntegerOf i)) T final (B ∷ F ∷ (d.3.1 ++ rest))
      (λ after g. (i, is, fits, (omega arith, g)))
      (sets k B (value 1) (Some (IntegerOf int)) T1 final (F ∷ (d.3.1 ++ rest))
      (λ after g. (
        i,
        is,
        (omega arith, refl),
        (omega arith, known ∙ integer-held (shape_at k.table t) i is.1),
        (omega arith, g),
      )) (
        testing n (held_by k t),
        (
          (IntegerOf int, (omega arith, refl)),
          held-shaped a k T2 (testing n (held_by k t))
              (subst (λ l. AreShaped l k T2 (testing n (held_by k t))) (sym d.3.2.2) (
                T3,
                (integer.unsigned_long, number, number-fits j few, (here, includes-all T3)),
                testing-known n (held_by k t) T3
                    (with-label n T2 (includes-more T2 (between (suc n)) (between n) inc2 (between-more n))) known,
              )),
          held-shaped b k T2 (testing n (held_by k t))
              (subst (λ l. AreShaped l k T2 (testing n (held_by k t))) (sym d.3.2.3) (testing-known n (held_by k t) T2 inc2 known)),
        ),
        q d.3.1 d.3.3 (testing n (held_by k t)) final rest (testing-more n (held_by k t)) (with-same 0 (held_by k t) (between (suc n))) next,
      )))
    where
      a : Code
      a = d.3.2.0

      b : Code
      b = d.3.2.1

      B : Instr
      B = instr.Calculate (calculate.Binary (value 1) (operator.Compare comparison.Equal) (value 1) (value 0) t at)

      F : Instr
      F = instr.If (value 1) a b

      same : c ≡ instr.Set (set.Integer (value 1) z t) ∷ B ∷ F ∷ d.3.1
      same = d.4 ∙ ap (λ l. l ++ d.1) d.2
          ∙ ap (λ l. instr.Set (set.Integer (value 1) z t) ∷ B ∷ l) (d.3.4 ∙ ap (λ l. l ++ d.3.1) d.3.2.4)

      T1 : Typing
      T1 = with_held (value 1) (Some (IntegerOf i)) T

      T2 : Typing
      T2 = with_held (value 1) (Some (IntegerOf int)) T1

      T3 : Typing
      T3 = with_held (label_of n) (Some (IntegerOf integer.unsigned_long)) T2

      apart : (U : Typing) (x : Option HeldType) → Agrees 0 U (with_held (value 1) x U)
      apart U x (temp.Value j) p = absurd (omega (arith, p))
      apart U x (temp.Switch j) p = refl
      apart U x (temp.Work q) p = absurd p

      inc2 : Includes T2 (between (suc n))
      inc2 = between-agrees (suc n) T1 T2 (apart T1 (Some (IntegerOf int)))
          (between-agrees (suc n) T T1 (apart T (Some (IntegerOf i))) inc)

  pub tested : (items : TypedBlockItems) (s static : Stage) (a : Around) (t : TypeId) (at : Place) → s.table ≡ k.table
      → suc (labels items) < 2 ^ 64 → AreReadyBlockItems s static a (Some t) items → Tests k n (held_by k t) (IsCodeOfTests items n t at)
  tested typed.NoBlockItem s static a t at same few r = nothing-tested (held_by k t)
  tested (typed.AndStatement all d) s static a t at same few r = tested all s static a t at same few r.0
  tested (typed.AndDeclaration all d) s static a t at same few r = tested all s static a t at same few r.0
  tested (typed.AndDefault all place) s static a t at same few r = tested all s static a t at same (omega (arith, few)) r
  tested (typed.AndCase all place e z) s static a t at same few (before, ready, (i, is, fits)) =
      one-tested t i z at (suc (labels all)) (IsCodeOfTests all n t at) (subst (λ T. HasShape T t (shape.Integer i.bytes i.signed)) same is) fits
      (omega (arith, few)) (tested all s static a t at same (omega (arith, few)) before)

  -- a piece runs where the `switch` began at its label or at one before
  pub guarded : (j : ℕ) (at : Place) (P : Form) → j < 2 ^ 64 → AllDo k (suc n) P → AllDo k (suc n) (Guarded j n at P)
  unfolding Line Then
  guarded j at P few p c d T final rest inc next =
      subst (λ l. AreShaped (l ++ rest) k T final) (sym (d.4 ∙ ap (λ l. l ++ d.1) d.2))
      (sets k (instr.Set (set.Integer (value 0) (pos j) unsigned_long)) (value 0) (Some (IntegerOf integer.unsigned_long)) T final
      (B ∷ (d.1 ++ rest)) (λ after g. (integer.unsigned_long, number, number-fits j few, (omega arith, g)))
      (sets k B (value 0) (Some (IntegerOf int)) T1 final (d.1 ++ rest)
      (λ after g. (
        integer.unsigned_long,
        number,
        (here, inc (label_of n) (IntegerOf integer.unsigned_long) (label-known n)),
        (omega arith, refl),
        (omega arith, g),
      ))
      (ends-choice k (suc n) (Some (IntegerOf int)) P (Line []) refl p (does-nothing k (suc n)) d.1 d.3 T2 final rest inc2 refl next)))
    where
      B : Instr
      B = instr.Calculate (calculate.Binary (value 0) (operator.Compare comparison.LessOrEqual) (label_of n) (value 0) unsigned_long at)

      T1 : Typing
      T1 = with_held (value 0) (Some (IntegerOf integer.unsigned_long)) T

      T2 : Typing
      T2 = with_held (value 0) (Some (IntegerOf int)) T1

      inc2 : Includes T2 (between (suc n))
      inc2 = between-agrees (suc n) T1 T2 (with-agrees 0 (Some (IntegerOf int)) T1)
          (between-agrees (suc n) T T1 (with-agrees 0 (Some (IntegerOf integer.unsigned_long)) T) inc)

  -- The value of a `switch` is kept in a work temporary too, and its label begins at that of `default`; then the labels are tried, and the
  -- pieces run.
  pub begins : (i : IntegerType) (t : TypeId) (j : ℕ) (Q R : Form) → IsInteger k t i → j < 2 ^ 64 → Tests k n (held_by k t) Q → AllDo k (suc n) R
      → Ends k n (held_by k t) (Then (Line (instr.Convert (convert.Integer work (value 0) t)
      ∷ instr.Set (set.Integer (label_of n) (pos j) unsigned_long) ∷ [])) (Then Q R))
  unfolding Line Then
  begins i t j Q R is few q r c d T final rest inc e next =
      subst (λ l. AreShaped (l ++ rest) k T final) (sym (d.4 ∙ ap (λ l. l ++ d.1) d.2))
      (sets k C work (Some (IntegerOf i)) T final (S ∷ (d.1 ++ rest)) (λ after g. ((i, is, (i, known), (tt, g)), tt))
      (sets k S (label_of n) (Some (IntegerOf integer.unsigned_long)) W final (d.1 ++ rest)
      (λ after g. (integer.unsigned_long, number, number-fits j few, (here, g)))
      (subst (λ l. AreShaped (l ++ rest) k V final) (sym d.3.4)
      (subst (λ l. AreShaped l k V final) (sym (append_assoc d.3.0 d.3.1 rest))
      (q d.3.0 d.3.2 V final (d.3.1 ++ rest) (with-label n W (between-agrees n T W worked inc))
      (known.1 ∙ sym (integer-held (shape_at k.table t) i is.1))
      (λ U u f. r d.3.1 d.3.3 U final rest u
      (λ X x. next X (includes-more X (between (suc n)) (between n) x (between-more n)))))))))
    where
      known : Holds T (value 0) (IntegerOf i)
      known = as-integer k i t 0 T (omega arith) is e

      C : Instr
      C = instr.Convert (convert.Integer work (value 0) t)

      S : Instr
      S = instr.Set (set.Integer (label_of n) (pos j) unsigned_long)

      W : Typing
      W = with_held work (Some (IntegerOf i)) T

      V : Typing
      V = with_held (label_of n) (Some (IntegerOf integer.unsigned_long)) W

      worked : Agrees 0 T W
      worked (temp.Value j) p = refl
      worked (temp.Switch j) p = refl
      worked (temp.Work q) p = absurd p

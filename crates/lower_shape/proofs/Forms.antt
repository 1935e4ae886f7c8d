-- Forms of code that is in shape: what is known behind it.
use Rattle.std.proofs.Common.{ℕ, suc, ◌<◌, ◌≡◌, refl, ap, ◌∙◌, sym, subst, Bool, true, false, List, [], ◌∷◌, ◌++◌, arith, nat_eq, nat_lt, if◌then◌else◌, Option, Some, None, IsSome, append_assoc}
use Rattle.std.proofs.lemmas.Bool.Decides.{nat_tests}
use Rattle.std.proofs.lemmas.List.{append-nil}
use Rattle.cc_base.specs.declared.number.NodeId.{NodeId}
use Rattle.cc_base.specs.declared.number.TypeId.{TypeId}
use Rattle.cil_form.specs.declared.number.Temp.{Temp}
use Rattle.cil_form.specs.declared.number.Temp.TheVariants as temp
use Rattle.cil_form.specs.declared.instr.Instr.{Instr}
use Rattle.cil_form.specs.declared.instr.Instr.TheVariants as instr
use Rattle.cil_form.specs.declared.instr.Code.{Code}
use Rattle.cil_form.specs.Laws.{IsBelow}
use Rattle.cil_form.specs.Typing.{HeldType, Typing, Context, Includes, with_held, held_by, HoldsScalar, HoldsOf, IsScalar, IsShaped, AreShaped}
use Rattle.cil_form.proofs.TypingLaws.{held-shaped}
use Rattle.lower_rules.specs.declared.after.After.{After}
use Rattle.lower_rules.specs.Pieces.{Form, Line, Then, Choice, Never}
use Rattle.lower_rules.specs.Words.{value, after_code, Follows}

abbrev pub Agrees : ℕ → Typing → Typing → Type 0
Agrees t T U = (u : Temp) → IsBelow t u → U u ≡ T u

pub agrees-then : (t : ℕ) (T U V : Typing) → Agrees t T U → Agrees t U V → Agrees t T V
agrees-then t T U V h l = λ u p. l u p ∙ h u p

pub agrees-same : (t : ℕ) (T : Typing) → Agrees t T T
agrees-same t T = λ u p. refl

pub agrees-lower : (t : ℕ) (T U : Typing) → Agrees (suc t) T U → Agrees t T U
agrees-lower t T U h (temp.Value n) p = h (temp.Value n) (omega (arith, p))
agrees-lower t T U h (temp.Switch n) p = h (temp.Switch n) tt
agrees-lower t T U h (temp.Work w) p = absurd p

less-other : (n t : ℕ) → n < t → nat_eq n t ≡ false
less-other n t h = grind (arith, nat_tests, h)

same-number : (t : ℕ) → nat_eq t t ≡ true
same-number t = grind (arith, nat_tests)

pub with-agrees : (t : ℕ) (x : Option HeldType) (T : Typing) → Agrees t T (with_held (value t) x T)
with-agrees t x T (temp.Value n) p = ap (λ b. if b then x else T (temp.Value n)) (less-other n t p)
with-agrees t x T (temp.Switch n) p = refl
with-agrees t x T (temp.Work w) p = absurd p

pub with-same : (t : ℕ) (x : Option HeldType) (T : Typing) → with_held (value t) x T (value t) ≡ x
with-same t x T = ap (λ b. if b then x else T (value t)) (same-number t)

-- what is known of a temporary is at least x
abbrev pub IsHeld : Option HeldType → Option HeldType → Type 0
IsHeld None y = Unit {0}
IsHeld (Some x) y = y ≡ Some x

pub is-held : (x : Option HeldType) → IsHeld x x
is-held None = tt
is-held (Some x) = refl

-- a temporary that is known
pub held-as : (x y : Option HeldType) → IsHeld x y → IsSome x → y ≡ x
held-as None y h s = absurd (cc (s))
held-as (Some x) y h s = h

-- code leads to x in value t: whatever follows is in shape where that is known
abbrev pub Leads : Context → List Instr → ℕ → Option HeldType → Type 0
Leads k code t x = (T final : Typing) (rest : List Instr) → ((U : Typing) → Agrees t T U → IsHeld x (U (value t)) → AreShaped rest k U final)
    → AreShaped (code ++ rest) k T final

pub leads-as : (k : Context) (code : List Instr) (t : ℕ) (x y : Option HeldType) → x ≡ y → Leads k code t x → Leads k code t y
leads-as k code t x y e h = subst (λ z. Leads k code t z) e h

pub leads-code : (k : Context) (code is : List Instr) (t : ℕ) (x : Option HeldType) → code ≡ is → Leads k is t x → Leads k code t x
leads-code k code is t x e h = subst (λ c. Leads k c t x) (sym e) h

-- an instruction asks this, and leaves x in value t
abbrev pub Asks : Context → Instr → ℕ → Option HeldType → Typing → Type 0
Asks k i t x T = (after : Typing) → Includes (with_held (value t) x T) after → IsShaped i k T after

pub all-known : (T : Typing) → Includes T T
all-known T = λ u x e. e

pub head : (k : Context) (i : Instr) (t : ℕ) (x : Option HeldType) (S T final : Typing) (rest : List Instr) → Agrees t S T → Asks k i t x T
    → ((U : Typing) → Agrees t S U → IsHeld x (U (value t)) → AreShaped rest k U final) → AreShaped (i ∷ rest) k T final
head k i t x S T final rest a h next = (
  with_held (value t) x T,
  h (with_held (value t) x T) (all-known (with_held (value t) x T)),
  next (with_held (value t) x T)
      (agrees-then t S T (with_held (value t) x T) a (with-agrees t x T))
      (subst (λ z. IsHeld x z) (sym (with-same t x T)) (is-held x)),
)

pub leads-one : (k : Context) (i : Instr) (t : ℕ) (x : Option HeldType) → ((T : Typing) → Asks k i t x T) → Leads k (i ∷ []) t x
leads-one k i t x h T final rest next = head k i t x T T final rest (agrees-same t T) (h T) next

-- all code of the form leads to x in value t
abbrev pub AllLead : Context → Form → ℕ → Option HeldType → Type 0
AllLead k P t x = (c : List Instr) → P c → Leads k c t x

pub all-as : (k : Context) (P : Form) (t : ℕ) (x y : Option HeldType) → x ≡ y → AllLead k P t x → AllLead k P t y
all-as k P t x y e h c d = leads-as k c t x y e (h c d)

pub all-line : (k : Context) (i : Instr) (t : ℕ) (x : Option HeldType) → ((T : Typing) → Asks k i t x T) → AllLead k (Line (i ∷ [])) t x
unfolding Line
all-line k i t x h c d = leads-code k c (i ∷ []) t x d (leads-one k i t x h)

-- All code of the form goes on where H holds of value t, and leads to x there; below t it changes nothing.
abbrev pub Carries : Context → Form → ℕ → (Option HeldType → Type 0) → Option HeldType → Type 0
Carries k P t H x = (c : List Instr) → P c → (S T final : Typing) (rest : List Instr) → Agrees t S T → H (T (value t))
    → ((U : Typing) → Agrees t S U → IsHeld x (U (value t)) → AreShaped rest k U final) → AreShaped (c ++ rest) k T final

-- the same with what is known of values t and t + 1
abbrev pub CarriesTwo : Context → Form → ℕ → Option HeldType → Option HeldType → Option HeldType → Type 0
CarriesTwo k P t X Y x =
    (c : List Instr) → P c → (S T final : Typing) (rest : List Instr) → Agrees t S T → IsHeld X (T (value t)) → IsHeld Y (T (value (suc t)))
    → ((U : Typing) → Agrees t S U → IsHeld x (U (value t)) → AreShaped rest k U final) → AreShaped (c ++ rest) k T final

pub carries-line : (k : Context) (i : Instr) (t : ℕ) (H : Option HeldType → Type 0) (x : Option HeldType)
    → ((T : Typing) → H (T (value t)) → Asks k i t x T)
    → Carries k (Line (i ∷ [])) t H x
unfolding Line
carries-line k i t H x h c d S T final rest a e next =
    subst (λ z. AreShaped (z ++ rest) k T final) (sym d) (head k i t x S T final rest a (h T e) next)

pub carries-none : (k : Context) (t : ℕ) (H : Option HeldType → Type 0) (x : Option HeldType) → ((y : Option HeldType) → H y → IsHeld x y)
    → Carries k (Line []) t H x
unfolding Line
carries-none k t H x h c d S T final rest a e next = subst (λ z. AreShaped (z ++ rest) k T final) (sym d) (next T a (h (T (value t)) e))

pub carries-never : (k : Context) (t : ℕ) (H : Option HeldType → Type 0) (x : Option HeldType) → Carries k Never t H x
carries-never k t H x c d = absurd d

pub carries-follows : (k : Context) (a : After) (t : ℕ) (n : NodeId) (H : Option HeldType → Type 0) (x : Option HeldType)
    → Carries k (Line (after_code a t n)) t H x
    → Carries k (Follows a t n) t H x
unfolding Follows
carries-follows k a t n H x h = h

pub carries-as : (k : Context) (P : Form) (t : ℕ) (H : Option HeldType → Type 0) (x y : Option HeldType) → x ≡ y → Carries k P t H x
    → Carries k P t H y
carries-as k P t H x y e h = subst (λ z. Carries k P t H z) e h

pub two-line : (k : Context) (i : Instr) (t : ℕ) (X Y x : Option HeldType)
    → ((T : Typing) → IsHeld X (T (value t)) → IsHeld Y (T (value (suc t))) → Asks k i t x T) → CarriesTwo k (Line (i ∷ [])) t X Y x
unfolding Line
two-line k i t X Y x h c d S T final rest a e g next =
    subst (λ z. AreShaped (z ++ rest) k T final) (sym d) (head k i t x S T final rest a (h T e g) next)

pub two-as : (k : Context) (P : Form) (t : ℕ) (X Y x y : Option HeldType) → x ≡ y → CarriesTwo k P t X Y x → CarriesTwo k P t X Y y
two-as k P t X Y x y e h = subst (λ z. CarriesTwo k P t X Y z) e h

pub then-carries : (k : Context) (P Q : Form) (t : ℕ) (X x : Option HeldType) → AllLead k P t X → Carries k Q t (IsHeld X) x
    → AllLead k (Then P Q) t x
unfolding Then
then-carries k P Q t X x h l c d T final rest next =
    subst (λ z. AreShaped (z ++ rest) k T final) (sym d.4)
    (subst (λ z. AreShaped z k T final) (sym (append_assoc d.0 d.1 rest))
    (h d.0 d.2 T final (d.1 ++ rest) (λ U a e. l d.1 d.3 T U final rest a e next)))

-- what is known of the first is of no use
pub then-all : (k : Context) (P Q : Form) (t : ℕ) (X x : Option HeldType) → AllLead k P t X → AllLead k Q t x → AllLead k (Then P Q) t x
then-all k P Q t X x h l =
    then-carries k P Q t X x h (λ c d S T final rest a e next. l c d T final rest (λ U g f. next U (agrees-then t S T U a g) f))

pub two : (k : Context) (P Q R : Form) (t : ℕ) (X Y x : Option HeldType) → AllLead k P t X → AllLead k Q (suc t) Y → CarriesTwo k R t X Y x
    → AllLead k (Then P (Then Q R)) t x
unfolding Then
two k P Q R t X Y x h l r c d T final rest next =
    subst (λ z. AreShaped (z ++ rest) k T final) (sym (d.4 ∙ ap (λ z. d.0 ++ z) d.3.4))
    (subst (λ z. AreShaped z k T final) (sym (append_assoc d.0 (d.3.0 ++ d.3.1) rest ∙ ap (λ z. d.0 ++ z) (append_assoc d.3.0 d.3.1 rest)))
    (h d.0 d.2 T final (d.3.0 ++ (d.3.1 ++ rest)) (λ U a e. l d.3.0 d.3.2 U final (d.3.1 ++ rest) (λ V b f.
    r d.3.1 d.3.3 T V final rest (agrees-then t T U V a (agrees-lower t U V b))
    (subst (λ z. IsHeld X z) (sym (b (value t) (omega arith))) e) f next))))

-- Choices

-- what is known behind an expression, and nothing else
abbrev pub behind : ℕ → Option HeldType → Typing → Typing
behind t x T (temp.Value n) = if nat_lt n t then T (temp.Value n) else (if nat_eq n t then x else None)
behind t x T (temp.Switch n) = T (temp.Switch n)
behind t x T (temp.Work w) = None

pub behind-agrees : (t : ℕ) (x : Option HeldType) (T : Typing) → Agrees t T (behind t x T)
behind-agrees t x T (temp.Value n) p = ap (λ b. if b then T (temp.Value n) else (if nat_eq n t then x else None)) (less n t p)
  where
    less : (n t : ℕ) → n < t → nat_lt n t ≡ true
    less n t p = grind (arith, nat_tests, p)
behind-agrees t x T (temp.Switch n) p = refl
behind-agrees t x T (temp.Work w) p = absurd p

pub behind-same : (t : ℕ) (x : Option HeldType) (T : Typing) → behind t x T (value t) ≡ x
behind-same t x T = ap (λ b. if b then T (value t) else (if nat_eq t t then x else None)) (not-less t)
    ∙ ap (λ b. if b then x else None) (same-number t)
  where
    not-less : (t : ℕ) → nat_lt t t ≡ false
    not-less t = grind (arith, nat_tests)

known-at : (x y z : Option HeldType) (w : HeldType) → IsHeld x y → x ≡ Some w → y ≡ Some w
known-at None y z w h e = absurd (cc (e))
known-at (Some x) y z w h e = h ∙ e

pub behind-known : (t : ℕ) (x : Option HeldType) (T U : Typing) → Agrees t T U → IsHeld x (U (value t)) → Includes U (behind t x T)
behind-known t x T U a e (temp.Value n) y h = known (nat_lt n t) (nat_eq n t) refl refl h
  where
    lt-below : (n t : ℕ) → nat_lt n t ≡ true → n < t
    lt-below n t q = grind (arith, nat_tests, q)

    eq-same : (n t : ℕ) → nat_eq n t ≡ true → n ≡ t
    eq-same n t q = grind (arith, nat_tests, q)

    known : (b c : Bool) → nat_lt n t ≡ b → nat_eq n t ≡ c → (if b then T (temp.Value n) else (if c then x else None)) ≡ Some y
        → U (temp.Value n) ≡ Some y
    known true c p q h = a (temp.Value n) (lt-below n t p) ∙ h
    known false true p q h = ap (λ z. U (temp.Value z)) (eq-same n t q) ∙ known-at x (U (value t)) None y e h
    known false false p q h = absurd (cc (h))
behind-known t x T U a e (temp.Switch n) y h = a (temp.Switch n) tt ∙ h
behind-known t x T U a e (temp.Work w) y h = absurd (cc (h))

pub side : (k : Context) (c : Code) (t : ℕ) (x : Option HeldType) (T : Typing) → Leads k c.0.items t x → AreShaped c.0.items k T (behind t x T)
side k c t x T h = subst (λ l. AreShaped l k T (behind t x T)) (append-nil c.0.items) (h T (behind t x T) [] (λ U a e. behind-known t x T U a e))

pub scalar-held : (X : Option HeldType) (t : ℕ) (U : Typing) → t < 256 → IsSome X → IsHeld X (U (value t)) → HoldsScalar U (value t)
scalar-held None t U small s h = absurd (cc (s))
scalar-held (Some x) t U small s h = (x, (small, h))

-- a value of a type
pub of-type : (k : Context) (ty : TypeId) (t : ℕ) (U : Typing) → t < 256 → IsScalar k ty → IsHeld (held_by k ty) (U (value t))
    → HoldsOf k U (value t) ty
of-type k ty t U small scalar h = (scalar, small, held-as (held_by k ty) (U (value t)) h scalar.1)

-- a choice, each side of which leads to x
pub one-of : (k : Context) (P Q R : Form) (t : ℕ) (X x : Option HeldType) → t < 256 → IsSome X → AllLead k P t X → AllLead k Q t x → AllLead k R t x
    → AllLead k (Then P (Choice (value t) Q R)) t x
unfolding Then Choice
one-of k P Q R t X x small s h l r c d T final rest next =
    subst (λ z. AreShaped (z ++ rest) k T final) (sym (d.4 ∙ ap (λ z. d.0 ++ z) d.3.4))
    (subst (λ z. AreShaped z k T final) (sym (append_assoc d.0 (instr.If (value t) d.3.0 d.3.1 ∷ []) rest))
    (h d.0 d.2 T final (instr.If (value t) d.3.0 d.3.1 ∷ rest) (λ U g e. (
      behind t x U,
      (
        scalar-held X t U small s e,
        held-shaped d.3.0 k U (behind t x U) (side k d.3.0 t x U (l d.3.0.0.items d.3.2)),
        held-shaped d.3.1 k U (behind t x U) (side k d.3.1 t x U (r d.3.1.0.items d.3.3)),
      ),
      next (behind t x U) (agrees-then t T U (behind t x U) g (behind-agrees t x U)) (subst (λ z. IsHeld x z) (sym (behind-same t x U)) (is-held x)),
    ))))

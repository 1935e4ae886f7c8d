-- Forms of code between two statements: whatever follows is in shape where what the `switch` statements around keep is known.
use Rattle.std.proofs.Common.{ℕ, ◌<◌, ◌∙◌, sym, subst, List, [], ◌∷◌, ◌++◌, arith, if◌then◌else◌, nat_lt, Option, Some, None, IsSome, append_assoc}
use Rattle.std.proofs.lemmas.List.{append-nil}
use Rattle.integers.specs.Arithmetic.{unsigned_long}
use Rattle.cil_form.specs.declared.number.Temp.TheVariants as temp
use Rattle.cil_form.specs.declared.instr.Instr.{Instr}
use Rattle.cil_form.specs.declared.instr.Instr.TheVariants as instr
use Rattle.cil_form.specs.declared.instr.Code.{Code}
use Rattle.cil_form.specs.Typing.{HeldType, IntegerOf, Typing, Context, Includes, IsBetweenStatements, Passes, inside, IsShaped, AreShaped}
use Rattle.cil_form.proofs.TypingLaws.{includes-all, includes-more, held-shaped}
use Rattle.lower_rules.specs.Pieces.{Form, Line, Then, Choice, Blocked, Looped}
use Rattle.lower_rules.specs.Words.{value}
use Rattle.lower_shape.proofs.Forms.{Agrees, IsHeld, AllLead, scalar-held}
use Rattle.lower_shape.proofs.Places.{effects}

-- what is known between two statements inside n `switch` statements: the label at which each of them begins
abbrev pub between : ℕ → Typing
between n (temp.Value j) = None
between n (temp.Switch j) = if nat_lt j n then Some (IntegerOf unsigned_long) else None
between n (temp.Work w) = None

-- no expression changes it
pub between-agrees : (n : ℕ) (T U : Typing) → Agrees 0 T U → Includes T (between n) → Includes U (between n)
between-agrees n T U a h (temp.Value j) x e = absurd (cc (e))
between-agrees n T U a h (temp.Switch j) x e = a (temp.Switch j) tt ∙ h (temp.Switch j) x e
between-agrees n T U a h (temp.Work w) x e = absurd (cc (e))

between-statements : (n : ℕ) → IsBetweenStatements (between n)
between-statements n (temp.Value j) x e = absurd (cc (e))
between-statements n (temp.Switch j) x e = tt
between-statements n (temp.Work w) x e = absurd (cc (e))

-- whatever follows the code is in shape where as much is known
abbrev pub Does : Context → ℕ → List Instr → Type 0
Does k n code = (T final : Typing) (rest : List Instr) → Includes T (between n)
    → ((U : Typing) → Includes U (between n) → AreShaped rest k U final) → AreShaped (code ++ rest) k T final

-- all code of the form does
abbrev pub AllDo : Context → ℕ → Form → Type 0
AllDo k n P = (c : List Instr) → P c → Does k n c

-- all code of the form goes on where x is known of value 0
abbrev pub Ends : Context → ℕ → Option HeldType → Form → Type 0
Ends k n x P = (c : List Instr) → P c → (T final : Typing) (rest : List Instr) → Includes T (between n) → IsHeld x (T (value 0))
    → ((U : Typing) → Includes U (between n) → AreShaped rest k U final) → AreShaped (c ++ rest) k T final

pub does-line : (k : Context) (n : ℕ) (code : List Instr) → Does k n code → AllDo k n (Line code)
unfolding Line
does-line k n code h c d = subst (λ z. Does k n z) (sym d) h

pub does-nothing : (k : Context) (n : ℕ) → AllDo k n (Line [])
does-nothing k n = does-line k n [] (λ T final rest h next. next T h)

pub does-one : (k : Context) (n : ℕ) (i : Instr) → ((T : Typing) → Includes T (between n) → IsShaped i k T T) → AllDo k n (Line (i ∷ []))
does-one k n i h = does-line k n (i ∷ []) (λ T final rest inc next. effects k i T final rest (h T inc) (next T inc))

pub does-then : (k : Context) (n : ℕ) (P Q : Form) → AllDo k n P → AllDo k n Q → AllDo k n (Then P Q)
unfolding Then
does-then k n P Q p q c d T final rest h next =
    subst (λ z. AreShaped (z ++ rest) k T final) (sym d.4)
    (subst (λ z. AreShaped z k T final) (sym (append_assoc d.0 d.1 rest))
    (p d.0 d.2 T final (d.1 ++ rest) h (λ U u. q d.1 d.3 U final rest u next)))

-- a value of which nothing is used
pub does-value : (k : Context) (n : ℕ) (P : Form) (x : Option HeldType) → AllLead k P 0 x → AllDo k n P
does-value k n P x p c d T final rest h next = p c d T final rest (λ U a e. next U (between-agrees n T U a h))

-- a value, and what is done with it
pub value-then : (k : Context) (n : ℕ) (P Q : Form) (x : Option HeldType) → AllLead k P 0 x → Ends k n x Q → AllDo k n (Then P Q)
unfolding Then
value-then k n P Q x p q c d T final rest h next =
    subst (λ z. AreShaped (z ++ rest) k T final) (sym d.4)
    (subst (λ z. AreShaped z k T final) (sym (append_assoc d.0 d.1 rest))
    (p d.0 d.2 T final (d.1 ++ rest) (λ U a e. q d.1 d.3 U final rest (between-agrees n T U a h) e next)))

pub ends-one : (k : Context) (n : ℕ) (x : Option HeldType) (i : Instr) → ((U : Typing) → IsHeld x (U (value 0)) → IsShaped i k U U)
    → Ends k n x (Line (i ∷ []))
unfolding Line
ends-one k n x i h c d T final rest inc e next =
    subst (λ z. AreShaped (z ++ rest) k T final) (sym d) (effects k i T final rest (h T e) (next T inc))

-- Choices

-- a side of a choice
pub does-side : (k : Context) (n : ℕ) (c : Code) (T : Typing) → Includes T (between n) → Does k n c.0.items → AreShaped c.0.items k T (between n)
does-side k n c T h d =
    subst (λ l. AreShaped l k T (between n)) (append-nil c.0.items) (d T (between n) [] h (λ U u. u))

pub ends-choice : (k : Context) (n : ℕ) (x : Option HeldType) (P Q : Form) → IsSome x → AllDo k n P → AllDo k n Q
    → Ends k n x (Choice (value 0) P Q)
unfolding Choice
ends-choice k n x P Q some p q c d T final rest inc e next =
    subst (λ z. AreShaped (z ++ rest) k T final) (sym d.4) (
      between n,
      (
        scalar-held x 0 T (omega arith) some e,
        held-shaped d.0 k T (between n) (does-side k n d.0 T inc (p d.0.0.items d.2)),
        held-shaped d.1 k T (between n) (does-side k n d.1 T inc (q d.1.0.items d.3)),
      ),
      next (between n) (includes-all (between n)),
    )

pub does-choice : (k : Context) (n : ℕ) (P Q R : Form) (x : Option HeldType) → IsSome x → AllLead k P 0 x → AllDo k n Q → AllDo k n R
    → AllDo k n (Then P (Choice (value 0) Q R))
does-choice k n P Q R x some p q r = value-then k n P (Choice (value 0) Q R) x p (ends-choice k n x Q R some q r)

-- Blocks and loops

-- they begin and end with what the `switch` statements around keep
passes : (k : Context) (n : ℕ) (T : Typing) → Includes T (between n) → Includes (between n) k.kept → Passes T (between n) k (between n)
passes k n T inc h = record { between = between-statements n; begins = inc; keeps = h; ends = includes-all (between n) }

pub does-block : (k : Context) (n : ℕ) (P : Form) → Includes (between n) k.kept → AllDo (inside k (between n)) n P → AllDo k n (Blocked P)
unfolding Blocked
does-block k n P h p c d T final rest inc next =
    subst (λ z. AreShaped (z ++ rest) k T final) (sym d.2) (
      between n,
      (
        between n,
        passes k n T inc h,
        held-shaped d.0 (inside k (between n)) (between n) (between n)
            (does-side (inside k (between n)) n d.0 (between n) (includes-all (between n)) (p d.0.0.items d.1)),
      ),
      next (between n) (includes-all (between n)),
    )

pub does-loop : (k : Context) (n : ℕ) (P : Form) → Includes (between n) k.kept → AllDo (inside k (between n)) n P → AllDo k n (Looped P)
unfolding Looped
does-loop k n P h p c d T final rest inc next =
    subst (λ z. AreShaped (z ++ rest) k T final) (sym d.2) (
      between n,
      (
        between n,
        passes k n T inc h,
        held-shaped d.0 (inside k (between n)) (between n) (between n)
            (does-side (inside k (between n)) n d.0 (between n) (includes-all (between n)) (p d.0.0.items d.1)),
      ),
      next (between n) (includes-all (between n)),
    )

pub does-break : (k : Context) (n j : ℕ) → j < k.blocks → Includes (between n) k.kept → AllDo k n (Line (instr.Break j ∷ []))
does-break k n j less h =
    does-one k n (instr.Break j) (λ T inc. (less, includes-more T (between n) k.kept inc h, includes-all T))

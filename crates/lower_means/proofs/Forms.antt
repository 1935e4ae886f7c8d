-- All code of a form does what an operation does; forms put together.
use Rattle.std.proofs.Common.{ℕ, suc, ◌≡◌, refl, ap, ◌∙◌, sym, subst, pos, Bool, true, false, List, [], ◌∷◌, ◌++◌, Option, None, Some}
use Rattle.std.specs.List.{position}
use Rattle.cc_base.specs.declared.number.NodeId.{NodeId}
use Rattle.cc_base.specs.declared.number.TypeId.{TypeId}
use Rattle.runs.specs.Outcome.{Done, done, from, either, Matches}
use Rattle.runs.proofs.RunLaws.{from-from, from-either, matches-left}
use Rattle.src_mem.specs.Pointers.{Value, Integer, Address, is_true}
use Rattle.src_mem.specs.State.{State, Act, given}
use Rattle.src_mem.specs.Uses.{home}
use Rattle.src_machine.specs.World.{World, number_in, same_node}
use Rattle.src_machine.specs.Expressions.{Where, locate_object, stands, logical}
use Rattle.cil_form.specs.declared.number.Object.{Object}
use Rattle.cil_form.specs.declared.number.Object.TheVariants as object
use Rattle.cil_form.specs.declared.instr.Set.TheVariants as set
use Rattle.cil_form.specs.declared.instr.Instr.{Instr}
use Rattle.cil_form.specs.declared.instr.Instr.TheVariants as instr
use Rattle.cil_form.specs.State.{Temporaries, Local, Around, gives_to}
use Rattle.cil_form.specs.Meaning.{act, run, number_of}
use Rattle.cil_form.specs.Laws.{IsBelow, AreKept}
use Rattle.cil_form.specs.Computes.{EndsAlike, Held, Computes}
use Rattle.cil_form.proofs.ComputesLaws.{then-code, held-over, computes-append}
use Rattle.cil_form.proofs.InstructionLaws.{Relation, at, kept-same, kept-then, last-value, no-code, two-operands, computes-as, computes-one, computes-choice, if-last}
use Rattle.lower_rules.specs.declared.after.After.{After}
use Rattle.lower_rules.specs.Pieces.{Form, Line, Then, Choice, Never}
use Rattle.lower_rules.specs.Words.{Context, value, object_by, Objects, Truth, LogicalOf, after_code, Follows}

-- what the code of a world's function depends on, and what it runs in
abbrev pub context_of : World → Context
context_of w = record { table = w.setting.table; statics = w.statics; variables = w.frame.homes }

abbrev pub around_of : World → Around
around_of w = record { setting = w.setting; depth = w.frame.depth; first = w.frame.first; call = w.call }

-- the value is in value i, and what lies below j is as it was
abbrev pub Into : ℕ → ℕ → Temporaries → Relation Value
Into i j S = Held (value i) (IsBelow j) S

-- all code of the form computes m into value t
abbrev pub All : World → Form → Act Value → ℕ → Type 0
All w P m t = (c : List Instr) → P c → Computes c (around_of w) m t

-- all code of the form does f with what is in value t, and leaves the result there
abbrev pub Finishes : World → Form → (Value → Act Value) → ℕ → Type 0
Finishes w P f t = (c : List Instr) → P c → (s : State) (T : Temporaries) → Matches (Into t t T) EndsAlike (f (T (value t)) s) (run c (around_of w) (at s T))

-- the same with what is in values t and t + 1
abbrev pub FinishesTwo : World → Form → (Value → Value → Act Value) → ℕ → Type 0
FinishesTwo w P f t = (c : List Instr) → P c → (s : State) (T : Temporaries)
    → Matches (Into t t T) EndsAlike (f (T (value t)) (T (value (suc t))) s) (run c (around_of w) (at s T))

-- One instruction

pub line : (w : World) (i : Instr) (m : Act Value) (t : ℕ) → ((c : Local) → act i (around_of w) c ≡ gives_to (value t) m c) → All w (Line (i ∷ [])) m t
unfolding Line
line w i m t e c h = computes-as c (i ∷ []) (around_of w) m t h (computes-one i (around_of w) m t e)

pub finish-line : (w : World) (i : Instr) (f : Value → Act Value) (t : ℕ) → ((c : Local) → act i (around_of w) c ≡ gives_to (value t) (f (c.temps (value t))) c)
    → Finishes w (Line (i ∷ [])) f t
unfolding Line
finish-line w i f t e c h s T =
    subst (λ z. Matches (Into t t T) EndsAlike (f (T (value t)) s) (run z (around_of w) (at s T))) (sym h)
    (last-value t (f (T (value t))) i (around_of w) s T T (e (at s T)) (kept-same (IsBelow t) T))

pub finish-none : (w : World) (f : Value → Act Value) (t : ℕ) → ((v : Value) (s : State) → f v s ≡ Done v s) → Finishes w (Line []) f t
unfolding Line
finish-none w f t e c h s T =
    subst (λ z. Matches (Into t t T) EndsAlike (f (T (value t)) s) (run z (around_of w) (at s T))) (sym h)
    (matches-left (Into t t T) EndsAlike (f (T (value t)) s) (Done (T (value t)) s) (run [] (around_of w) (at s T)) (e (T (value t)) s)
    (no-code t (around_of w) s T T (kept-same (IsBelow t) T)))

pub finish-never : (w : World) (f : Value → Act Value) (t : ℕ) → Finishes w Never f t
finish-never w f t c h = absurd h

pub two-line : (w : World) (i : Instr) (f : Value → Value → Act Value) (t : ℕ)
    → ((c : Local) → act i (around_of w) c ≡ gives_to (value t) (f (c.temps (value t)) (c.temps (value (suc t)))) c) → FinishesTwo w (Line (i ∷ [])) f t
unfolding Line
two-line w i f t e c h s T =
    subst (λ z. Matches (Into t t T) EndsAlike (f (T (value t)) (T (value (suc t))) s) (run z (around_of w) (at s T))) (sym h)
    (last-value t (f (T (value t)) (T (value (suc t)))) i (around_of w) s T T (e (at s T)) (kept-same (IsBelow t) T))

-- Operands

pub then-finish : (w : World) (P Q : Form) (m : Act Value) (f : Value → Act Value) (t : ℕ) → All w P m t → Finishes w Q f t → All w (Then P Q) (λ s. from (m s) f) t
unfolding Then
then-finish w P Q m f t h l c d =
    computes-as c (d.0 ++ d.1) (around_of w) (λ s. from (m s) f) t d.4 (computes-append d.0 d.1 (around_of w) m f t (h d.0 d.2) (λ T s. l d.1 d.3 s T))

pub then-all : (w : World) (P Q : Form) (m n : Act Value) (t : ℕ) → All w P m t → All w Q n t → All w (Then P Q) (λ s. from (m s) (λ _. n)) t
then-all w P Q m n t h l = then-finish w P Q m (λ _. n) t h (λ c d s T. (l c d).by s T)

pub two : (w : World) (P Q R : Form) (m n : Act Value) (f : Value → Value → Act Value) (t : ℕ) → All w P m t → All w Q n (suc t) → FinishesTwo w R f t
    → All w (Then P (Then Q R)) (λ s. from (m s) (λ v r. from (n r) (λ u. f v u))) t
unfolding Then
two w P Q R m n f t h l r c d = record {
  by = λ s T. subst (λ z. Matches (Into t t T) EndsAlike (from (m s) (λ v r. from (n r) (λ u. f v u))) (run z (around_of w) (at s T)))
      (sym (d.4 ∙ ap (λ z. d.0 ++ z) d.3.4))
      (two-operands (Into t t T) d.0 d.3.0 d.3.1 (around_of w) m n t s T f (h d.0 d.2) (l d.3.0 d.3.2)
      (λ U q kept. held-over (value t) (IsBelow t) T U kept (f (U (value t)) (U (value (suc t))) q) (run d.3.1 (around_of w) (at q U)) (r d.3.1 d.3.3 q U)));
}

-- Choices

pub one-of : (w : World) (P Q R : Form) (m n o : Act Value) (t : ℕ) → All w P m t → All w Q n t → All w R o t
    → All w (Then P (Choice (value t) Q R)) (λ s. from (m s) (λ v. either (is_true v) n o)) t
unfolding Then Choice
one-of w P Q R m n o t h l r c d =
    computes-as c (d.0 ++ instr.If (value t) d.3.0 d.3.1 ∷ []) (around_of w) (λ s. from (m s) (λ v. either (is_true v) n o)) t
    (d.4 ∙ ap (λ z. d.0 ++ z) d.3.4)
    (computes-choice d.0 d.3.0 d.3.1 (around_of w) m n o t (h d.0 d.2) (l d.3.0.0.items d.3.2) (r d.3.1.0.items d.3.3))

truth : (w : World) (t n : ℕ) → All w (Truth t n) (done (Integer (pos n))) t
truth w t n = line w (instr.Set (set.Integer (value t) (pos n) (record { 0 = 5 }))) (done (Integer (pos n))) t (λ c. refl)

-- `&&` and `||`; n is the truth of the right operand
pub logicals : (w : World) (or : Bool) (P Q : Form) (m n : Act Value) (t : ℕ) → All w P m t → All w Q n t
    → All w (Then P (LogicalOf or t Q)) (λ s. from (m s) (λ v. logical or (is_true v) n)) t
unfolding LogicalOf
logicals w true P Q m n t h l = one-of w P (Truth t 1) Q m (done (Integer (pos 1))) n t h (truth w t 1) l
logicals w false P Q m n t h l = one-of w P Q (Truth t 0) m n (done (Integer (pos 0))) t h l (truth w t 0)

-- Objects

-- the number of an object in the memory is that of the one with its home
pub object-number : (a : Around) (v s : Option ℕ) (o : Object) → object_by v s ≡ Some o → number_in a.first v s ≡ Some (number_of a o)
object-number a (Some i) s o e = let q : object.Variable (record { 0 = i }) ≡ o = cc (e) in ap (λ z. Some (number_of a z)) q
object-number a None (Some i) o e = let q : object.Static (record { 0 = i }) ≡ o = cc (e) in ap (λ z. Some (number_of a z)) q
object-number a None None o e = absurd (cc (e))

pub objects : (w : World) (node : NodeId) (ty : TypeId) (t : ℕ) → All w (Objects (context_of w) t node ty) (locate_object w node ty) t
unfolding Objects
objects w node ty t c h =
    computes-as c (instr.Set (set.Object (value t) h.0 node ty) ∷ []) (around_of w) (locate_object w node ty) t h.2
    (computes-one (instr.Set (set.Object (value t) h.0 node ty)) (around_of w) (locate_object w node ty) t
    (λ d. ap (λ z. gives_to (value t) (given z (λ number. done (Address (home w.setting.table number ty)))) d)
    (sym (object-number (around_of w) (position (same_node node) w.frame.homes) (position (same_node node) w.statics) h.0 h.1))))

-- Places

-- Code locates a place: what follows it begins with the address in value t, and knows the node.
abbrev pub Locates : World → Act Where → ℕ → (NodeId → Form) → List Instr → Type 0
Locates w m t next code = (i j : ℕ) (S : Temporaries) (f : Where → Act Value) (s : State) (T : Temporaries)
    → ((n : NodeId) (c : List Instr) → next n c → (U : Temporaries) (r : State) → AreKept (IsBelow t) T U
    → Matches (Into i j S) EndsAlike (f (record { node = n; address = U (value t) }) r) (run c (around_of w) (at r U)))
    → Matches (Into i j S) EndsAlike (from (m s) f) (run code (around_of w) (at s T))

abbrev pub AllLocate : World → Form → Act Where → ℕ → (NodeId → Form) → Type 0
AllLocate w P m t next = (c : List Instr) → P c → Locates w m t next c

-- what comes after a place gives a value
pub located : (w : World) (P : Form) (m : Act Where) (t : ℕ) (next : NodeId → Form) (f : Where → Act Value) → AllLocate w P m t next
    → ((n : NodeId) → Finishes w (next n) (λ a. f (record { node = n; address = a })) t) → All w P (λ s. from (m s) f) t
located w P m t next f h l c d = record {
  by = λ s T. h c d t t T f s T
      (λ n e q U r kept. held-over (value t) (IsBelow t) T U kept (f (record { node = n; address = U (value t) }) r) (run e (around_of w) (at r U)) (l n e q r U));
}

-- what comes after is a line
pub follows : (w : World) (a : After) (t : ℕ) (n : NodeId) (f : Value → Act Value) → Finishes w (Line (after_code a t n)) f t → Finishes w (Follows a t n) f t
unfolding Follows
follows w a t n f h = h

-- code computes the address, and then what comes after
pub located-value : (w : World) (P : Form) (m : Act Value) (n : NodeId) (t : ℕ) (next : NodeId → Form) → All w P m t
    → AllLocate w (Then P (next n)) (λ s. from (m s) (stands n)) t next
unfolding Then
located-value w P m n t next h code d i j S f s T goes =
    matches-left (Into i j S) EndsAlike (from (from (m s) (stands n)) f) (from (m s) (λ a. f (record { node = n; address = a })))
    (run code (around_of w) (at s T)) (from-from (m s) (stands n) f)
    (subst (λ c. Matches (Into i j S) EndsAlike (from (m s) (λ a. f (record { node = n; address = a }))) (run c (around_of w) (at s T))) (sym d.4)
    (then-code (Into i j S) d.0 d.1 (around_of w) (value t) (IsBelow t) (m s) (at s T) T (λ a. f (record { node = n; address = a })) ((h d.0 d.2).by s T)
    (λ U r kept. goes n d.1 d.3 U r kept)))

-- a choice of places
pub located-choice : (w : World) (P A B : Form) (m : Act Value) (n o : Act Where) (t : ℕ) (next : NodeId → Form)
    → All w P m t → AllLocate w A n t next → AllLocate w B o t next
    → AllLocate w (Then P (Choice (value t) A B)) (λ s. from (m s) (λ v. either (is_true v) n o)) t next
unfolding Then Choice
located-choice w P A B m n o t next h l r code d i j S f s T goes =
    matches-left (Into i j S) EndsAlike (from (from (m s) (λ v. either (is_true v) n o)) f) (from (m s) (λ v u. from (either (is_true v) n o u) f))
    (run code (around_of w) (at s T)) (from-from (m s) (λ v. either (is_true v) n o) f)
    (subst (λ c. Matches (Into i j S) EndsAlike (from (m s) (λ v u. from (either (is_true v) n o u) f)) (run c (around_of w) (at s T)))
    (sym (d.4 ∙ ap (λ z. d.0 ++ z) d.3.4))
    (then-code (Into i j S) d.0 (instr.If (value t) d.3.0 d.3.1 ∷ []) (around_of w) (value t) (IsBelow t) (m s) (at s T) T
    (λ v u. from (either (is_true v) n o u) f) ((h d.0 d.2).by s T)
    (λ U u kept. matches-left (Into i j S) EndsAlike (from (either (is_true (U (value t))) n o u) f)
    (either (is_true (U (value t))) (λ z. from (n z) f) (λ z. from (o z) f) u) (run (instr.If (value t) d.3.0 d.3.1 ∷ []) (around_of w) (at u U))
    (from-either (is_true (U (value t))) n o f u)
    (if-last (Into i j S) (value t) d.3.0 d.3.1 (around_of w) (λ z. from (n z) f) (λ z. from (o z) f) u U
    (l d.3.0.0.items d.3.2 i j S f u U (λ k c a V z more. goes k c a V z (kept-then (IsBelow t) T U V kept more)))
    (r d.3.1.0.items d.3.3 i j S f u U (λ k c a V z more. goes k c a V z (kept-then (IsBelow t) T U V kept more)))))))

-- a place behind an expression
pub located-comma : (w : World) (P A : Form) (m : Act Value) (n : Act Where) (t : ℕ) (next : NodeId → Form)
    → All w P m t → AllLocate w A n t next → AllLocate w (Then P A) (λ s. from (m s) (λ _. n)) t next
unfolding Then
located-comma w P A m n t next h l code d i j S f s T goes =
    matches-left (Into i j S) EndsAlike (from (from (m s) (λ _. n)) f) (from (m s) (λ _ u. from (n u) f)) (run code (around_of w) (at s T))
    (from-from (m s) (λ _. n) f)
    (subst (λ c. Matches (Into i j S) EndsAlike (from (m s) (λ _ u. from (n u) f)) (run c (around_of w) (at s T))) (sym d.4)
    (then-code (Into i j S) d.0 d.1 (around_of w) (value t) (IsBelow t) (m s) (at s T) T (λ _ u. from (n u) f) ((h d.0 d.2).by s T)
    (λ U u kept. l d.1 d.3 i j S f u U (λ k c a V z more. goes k c a V z (kept-then (IsBelow t) T U V kept more)))))

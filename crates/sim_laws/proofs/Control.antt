-- From the laws of single instructions to all code: rows, `if`, blocks, loops with turns, `break` and `return`.
use Rattle.std.proofs.Common.{◌≡◌, ℕ, zero, suc, inl, inr, Bool, true, false, List, [], ◌∷◌, ◌++◌, refl, ap, sym, subst, ◌∙◌}
use Rattle.runs.specs.Outcome.{Done, Ended, from, either}
use Rattle.runs.specs.Control.{Control, Goes, Leaves, Gives, then_go, block, rounds, Alike}
use Rattle.runs.proofs.RunLaws.{matches-from, matches-as, alike-then, alike-block, alike-rounds}
use Rattle.src_mem.specs.Pointers.{is_true}
use Rattle.src_mem.specs.State as source
use Rattle.cil_form.specs.declared.number.Temp.{Temp}
use Rattle.cil_form.specs.declared.instr.Instr.{Instr, Row_of-Instr, end_of-Instr, more_of-Instr}
use Rattle.cil_form.specs.declared.instr.Instr.TheVariants as instr
use Rattle.cil_form.specs.State as code
use Rattle.cil_form.specs.Meaning as meaning
use Rattle.cil_form.specs.Meaning.{round_of}
use Rattle.cured_code.specs.declared.instr.Instr as cured_instr
use Rattle.cured_code.specs.declared.instr.Instr.TheVariants as flat_instr
use Rattle.cured_code.specs.declared.instr.Code.{Code}
use Rattle.cured_code.specs.FlatState as flat
use Rattle.cured_code.specs.FlatState.{take_turn, turn_of}
use Rattle.cured_code.specs.FlatMachine.{Context, run, act}
use Rattle.cured_code.proofs.RunLaws.{run-append, act-if, act-block, act-loop}
use Rattle.check_forms.specs.Pieces.{Line, Then, Choice, Blocked, Looped}
use Rattle.sim_relation.specs.Points.{Knowledge}
use Rattle.cure_rules.specs.Slots.{AreSlots}
use Rattle.cure_rules.specs.Code.{Blocks, IsCuring, IsCuringRow, AreCuring}
use Rattle.sim_laws.specs.Scenes.{Scene, Running, world_of, around_of, context_of}
use Rattle.sim_laws.specs.Held.{IsIn, IsInRow, IsInCode}
use Rattle.sim_laws.specs.Points.{Point}
use Rattle.sim_laws.specs.Statements.{Lines, CodeOutcome, FlatOutcome, EndsAlike, GivesAlike, Leaving, Match, Follows, Tested, Laws}
use Rattle.sim_laws.proofs.Points.{weaker, turned}

-- a last instruction alone
go-last : (x : Control (List ℕ)) (c : flat.Local) (w : Context) → then_go x (run [] w) c ≡ Done x c
go-last Goes c w = refl
go-last (Leaves k) c w = refl
go-last (Gives v) c w = refl

from-last : (o : FlatOutcome) (w : Context) → from o (λ x. then_go x (run [] w)) ≡ o
from-last (Ended e c) w = refl
from-last (Done x c) w = go-last x c w

pub run-one : (i : cured_instr.Instr) (w : Context) (c : flat.Local) → run (i ∷ []) w c ≡ act i w c
run-one i w c = from-last (act i w c) w

-- a block is left, or one further out, by the list of what is known behind them
inner-left : (w : Scene) (g : AreSlots w.slots) (b : Running) (after : Knowledge) (blocks : Blocks) (l : code.Local) (c : flat.Local)
    → Leaving w g b (after ∷ blocks) 0 l c → Point w g b after l c
inner-left w g b after blocks l c (k, e, p) = subst (λ (x : Knowledge). Point w g b x l c) (let f : k ≡ after = cc (e) in f) p

outer-left : (w : Scene) (g : AreSlots w.slots) (b : Running) (after : Knowledge) (blocks : Blocks) (n : ℕ) (l : code.Local) (c : flat.Local)
    → Leaving w g b (after ∷ blocks) (suc n) l c → Leaving w g b blocks n l c
outer-left w g b after blocks n l c (k, e, p) = (k, e, p)

-- one round: both take a turn, or neither has one
round-follows : (w : Scene) (g : AreSlots w.slots) (b : Running) (entry : Knowledge) (blocks : Blocks) (m : code.Step) (lines : Lines)
    → Follows w g b blocks entry entry m lines → (l : code.Local) (c : flat.Local) → Point w g b entry l c
    → Match w g b entry blocks (round_of m l) (take_turn (run lines (context_of w b)) c)
round-follows w g b entry blocks m lines once l c p = by l.state.turns refl c.state.turns p.there.related.outside.turns
  where
    Goal : CodeOutcome → FlatOutcome → Type 0
    Goal o q = Match w g b entry blocks o q

    by : (n : ℕ) → l.state.turns ≡ n → (k : ℕ) → k ≡ l.state.turns
        → Goal (from (code.beside l.temps (source.turn_of n l.state)) (λ u. m)) (turn_of k (run lines (context_of w b)) c)
    by zero e zero f = (tt, p.there.related)
    by zero e (suc k) f = absurd (cc (e, f))
    by (suc n) e zero f = absurd (cc (e, f))
    by (suc n) e (suc k) f =
        let same : n ≡ k = cc (e, f) in
        subst (λ (k : ℕ). Goal (m (record l { state = record l.state { turns = n } })) (run lines (context_of w b) (record c { state = record c.state { turns = k } }))) same
        (once (record l { state = record l.state { turns = n } }) (record c { state = record c.state { turns = n } }) (turned w g b entry l c n p))

if-follows : (w : Scene) (g : AreSlots w.slots) (b : Running) (known after : Knowledge) (blocks : Blocks) (t : Temp) (a : ℕ) (test choice lines : Lines)
    (m n : code.Step) (x y : Code) → lines ≡ test ++ choice → choice ≡ flat_instr.If a x y ∷ []
    → Follows w g b blocks known after m x.0.items → Follows w g b blocks known after n y.0.items → (l : code.Local) (c : flat.Local)
    → Tested w g b known t a test l c → Match w g b after blocks (either (is_true (l.temps t)) m n l) (run lines (context_of w b) c)
if-follows w g b known after blocks t a test choice lines m n x y is chosen first second l c z =
    subst (Goal (either (is_true (l.temps t)) m n l))
    (sym (ap (λ (js : Lines). run js (context_of w b) c) is ∙ z.runs choice ∙ ap (λ (js : Lines). run js (context_of w b) z.after) chosen
    ∙ run-one (flat_instr.If a x y) (context_of w b) z.after ∙ act-if a x y (context_of w b) z.after
    ∙ ap (λ (q : Bool). either q (run x.0.items (context_of w b)) (run y.0.items (context_of w b)) z.after) z.truth))
    (by (is_true (l.temps t)))
  where
    Goal : CodeOutcome → FlatOutcome → Type 0
    Goal o q = Match w g b after blocks o q

    by : (q : Bool) → Goal (either q m n l) (either q (run x.0.items (context_of w b)) (run y.0.items (context_of w b)) z.after)
    by true = first l z.after z.point
    by false = second l z.after z.point

-- no code: no less is known
none-follows : (w : Scene) (g : AreSlots w.slots) (b : Running) (known after : Knowledge) (blocks : Blocks) (lines : Lines) (l : code.Local) (c : flat.Local)
    → lines ≡ [] → Point w g b after l c → Match w g b after blocks (Done Goes l) (run lines (context_of w b) c)
none-follows w g b known after blocks lines l c is p =
    subst (λ (js : Lines). Match w g b after blocks (Done Goes l) (run js (context_of w b) c)) (sym is) p

-- code after code
then-follows : (w : Scene) (g : AreSlots w.slots) (b : Running) (known middle after : Knowledge) (blocks : Blocks) (m n : code.Step) (x y lines : Lines)
    → lines ≡ x ++ y → Follows w g b blocks known middle m x → Follows w g b blocks middle after n y → (l : code.Local) (c : flat.Local)
    → Point w g b known l c → Match w g b after blocks (from (m l) (λ z. then_go z n)) (run lines (context_of w b) c)
then-follows w g b known middle after blocks m n x y lines is first second l c p =
    matches-as (Alike (Point w g b after) (Leaving w g b blocks) (GivesAlike w b)) (EndsAlike w.programs)
    (from (m l) (λ z. then_go z n)) (from (m l) (λ z. then_go z n))
    (run lines (context_of w b) c) (from (run x (context_of w b) c) (λ z. then_go z (run y (context_of w b))))
    refl (ap (λ (js : Lines). run js (context_of w b) c) is ∙ run-append x y (context_of w b) c)
    (matches-from (Alike (Point w g b middle) (Leaving w g b blocks) (GivesAlike w b)) (EndsAlike w.programs)
    (Alike (Point w g b after) (Leaving w g b blocks) (GivesAlike w b))
    (m l) (run x (context_of w b) c) (λ z. then_go z n) (λ z. then_go z (run y (context_of w b)))
    (first l c p)
    (λ z s u t k. alike-then (Point w g b middle) (Point w g b after) (Leaving w g b blocks) (GivesAlike w b) (EndsAlike w.programs) z s u t n
    (run y (context_of w b)) k (second s t)))

block-follows : (w : Scene) (g : AreSlots w.slots) (b : Running) (known after : Knowledge) (blocks : Blocks) (m : code.Step) (x : Code) (lines : Lines)
    → lines ≡ flat_instr.Block x ∷ [] → Follows w g b (after ∷ blocks) known after m x.0.items → (l : code.Local) (c : flat.Local) → Point w g b known l c
    → Match w g b after blocks (block m l) (run lines (context_of w b) c)
block-follows w g b known after blocks m x lines is inner l c p =
    matches-as (Alike (Point w g b after) (Leaving w g b blocks) (GivesAlike w b)) (EndsAlike w.programs)
    (block m l) (block m l) (run lines (context_of w b) c) (block (run x.0.items (context_of w b)) c)
    refl (ap (λ (js : Lines). run js (context_of w b) c) is ∙ run-one (flat_instr.Block x) (context_of w b) c ∙ act-block x (context_of w b) c)
    (alike-block (Point w g b after) (Leaving w g b (after ∷ blocks)) (Leaving w g b blocks) (GivesAlike w b) (EndsAlike w.programs)
    (inner-left w g b after blocks) (outer-left w g b after blocks) m (run x.0.items (context_of w b)) l c (inner l c p))

loop-follows : (w : Scene) (g : AreSlots w.slots) (b : Running) (entry after : Knowledge) (blocks : Blocks) (m : code.Step) (x : Code) (lines : Lines)
    → lines ≡ flat_instr.Loop x ∷ [] → Follows w g b (after ∷ blocks) entry entry m x.0.items → (l : code.Local) (c : flat.Local) → Point w g b entry l c
    → Match w g b after blocks (meaning.loop m l) (run lines (context_of w b) c)
loop-follows w g b entry after blocks m x lines is inner l c p =
    matches-as (Alike (Point w g b after) (Leaving w g b blocks) (GivesAlike w b)) (EndsAlike w.programs)
    (rounds source.Turns l.state.turns (round_of m) l) (rounds source.Turns l.state.turns (round_of m) l)
    (run lines (context_of w b) c) (rounds flat.Turns l.state.turns (take_turn (run x.0.items (context_of w b))) c)
    refl (ap (λ (js : Lines). run js (context_of w b) c) is ∙ run-one (flat_instr.Loop x) (context_of w b) c ∙ act-loop x (context_of w b) c
    ∙ ap (λ (n : ℕ). rounds flat.Turns n (take_turn (run x.0.items (context_of w b))) c) p.there.related.outside.turns)
    (alike-rounds (Point w g b after) (Point w g b entry) (Leaving w g b (after ∷ blocks)) (Leaving w g b blocks) (GivesAlike w b) (EndsAlike w.programs)
    (inner-left w g b after blocks) (outer-left w g b after blocks)
    source.Turns flat.Turns (round_of m) (take_turn (run x.0.items (context_of w b)))
    (λ s t q. (tt, q.there.related))
    (round-follows w g b entry (after ∷ blocks) m x.0.items inner)
    l.state.turns l c p)

-- All code

mutual
  unfolding Line Then Choice Blocked Looped

  pub follows : (i : Instr) (w : Scene) (g : AreSlots w.slots) (b : Running) (blocks : Blocks) (known after : Knowledge) (lines : Lines) (whole : List Instr) → Laws w g b whole
      → ((j : Instr) → IsIn j i → IsInCode j whole) → IsCuring i (world_of w) blocks known after lines → Follows w g b blocks known after (meaning.act i (around_of w b)) lines
  follows (instr.Set i) w g b blocks known after lines whole laws inside h l c p = laws.set i (inside (instr.Set i) refl) known after blocks lines h l c p
  follows (instr.Calculate i) w g b blocks known after lines whole laws inside h l c p = laws.calculate i (inside (instr.Calculate i) refl) known after blocks lines h l c p
  follows (instr.Point i) w g b blocks known after lines whole laws inside h l c p = laws.point i (inside (instr.Point i) refl) known after blocks lines h l c p
  follows (instr.Convert i) w g b blocks known after lines whole laws inside h l c p = laws.convert i (inside (instr.Convert i) refl) known after blocks lines h l c p
  follows (instr.Access i) w g b blocks known after lines whole laws inside h l c p = laws.access i (inside (instr.Access i) refl) known after blocks lines h l c p
  follows (instr.Allocate i) w g b blocks known after lines whole laws inside h l c p = laws.allocate i (inside (instr.Allocate i) refl) known after blocks lines h l c p
  follows (instr.Call i) w g b blocks known after lines whole laws inside h l c p = laws.call i (inside (instr.Call i) refl) known after blocks lines h l c p
  follows (instr.Runtime i) w g b blocks known after lines whole laws inside h l c p = laws.runtime i (inside (instr.Runtime i) refl) known after blocks lines h l c p
  follows (instr.If' t shape code shape' other) w g b blocks known after lines whole laws inside (a, (test, choice, tested, (x, y, first, second, chosen), is)) l c p =
      if-follows w g b known after blocks t a test choice lines (meaning.act_row code (around_of w b)) (meaning.act_row other (around_of w b)) x y is chosen
      (follows-row code w g b blocks known after x.0.items whole laws (λ j q. inside j (inl q)) first)
      (follows-row other w g b blocks known after y.0.items whole laws (λ j q. inside j (inr q)) second) l c
      (laws.test known t a test tested l c p)
  follows (instr.Block' shape code) w g b blocks known after lines whole laws inside (x, inner, is) l c p =
      block-follows w g b known after blocks (meaning.act_row code (around_of w b)) x lines is
      (follows-row code w g b (after ∷ blocks) known after x.0.items whole laws inside inner) l c p
  follows (instr.Loop' shape code) w g b blocks known after lines whole laws inside (entry, begins, (x, inner, is), ends) l c p =
      loop-follows w g b entry after blocks (meaning.act_row code (around_of w b)) x lines is
      (follows-row code w g b (after ∷ blocks) entry entry x.0.items whole laws inside inner) l c (weaker w g b known entry l c begins p)
  follows (instr.Break n) w g b blocks known after lines whole laws inside (k, found, less, is, more) l c p =
      subst (λ (js : Lines). Match w g b after blocks (Done (Leaves n) l) (run js (context_of w b) c)) (sym is)
      (refl, (k, found, weaker w g b known k l c less p))
  follows instr.Return w g b blocks known after lines whole laws inside (h, more) l c p = laws.given_none known after blocks lines h l c p
  follows (instr.ReturnValue v t at) w g b blocks known after lines whole laws inside (h, more) l c p = laws.given known after blocks v t at lines (inside (instr.ReturnValue v t at) refl) h l c p

  pub follows-row : {m : _} (r : Row_of-Instr m) (w : Scene) (g : AreSlots w.slots) (b : Running) (blocks : Blocks) (known after : Knowledge) (lines : Lines)
      → (whole : List Instr) → Laws w g b whole → ((j : Instr) → IsInRow j r → IsInCode j whole) → IsCuringRow r (world_of w) blocks known after lines → Follows w g b blocks known after (meaning.act_row r (around_of w b)) lines
  follows-row end_of-Instr w g b blocks known after lines whole laws inside h l c p =
      none-follows w g b known after blocks lines l c h.1 (weaker w g b known after l c h.0 p)
  follows-row (more_of-Instr i r) w g b blocks known after lines whole laws inside (middle, (x, y, first, others, is)) l c p =
      then-follows w g b known middle after blocks (meaning.act i (around_of w b)) (meaning.act_row r (around_of w b)) x y lines is
      (follows i w g b blocks known middle x whole laws (λ j q. inside j (inl q)) first)
      (follows-row r w g b blocks middle after y whole laws (λ j q. inside j (inr q)) others) l c p

pub follows-list : (is : List Instr) (w : Scene) (g : AreSlots w.slots) (b : Running) (blocks : Blocks) (known after : Knowledge) (lines : Lines) (whole : List Instr) → Laws w g b whole
    → ((j : Instr) → IsInCode j is → IsInCode j whole) → AreCuring is (world_of w) blocks known after lines → Follows w g b blocks known after (meaning.run is (around_of w b)) lines
unfolding Line Then
follows-list [] w g b blocks known after lines whole laws inside h l c p =
    none-follows w g b known after blocks lines l c h.1 (weaker w g b known after l c h.0 p)
follows-list (i ∷ r) w g b blocks known after lines whole laws inside (middle, (x, y, first, others, is)) l c p =
    then-follows w g b known middle after blocks (meaning.act i (around_of w b)) (meaning.run r (around_of w b)) x y lines is
    (follows i w g b blocks known middle x whole laws (λ j q. inside j (inl q)) first)
    (follows-list r w g b blocks middle after y whole laws (λ j q. inside j (inr q)) others) l c p

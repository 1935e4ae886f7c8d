-- What is judged in a scope of its own is given.
use Rattle.std.proofs.Common.{◌≡◌, ◌≤◌, ◌<◌, ℕ, true, List, [], ◌∷◌, length, refl, ap, sym, subst, ◌∙◌, arith}
use Rattle.std.proofs.lemmas.List.{length-append}
use Rattle.std.proofs.lemmas.List.Elements.{All-nil, All-push}
use Rattle.cc_base.specs.declared.place.Place.{Place}
use Rattle.c_types.specs.Table.{Table}
use Rattle.c_tree.specs.TypedParts.{Made}
use Rattle.c_typing.specs.declared.declared.Declared.{Declared}
use Rattle.c_typing.specs.Declaring.{entered, left}
use Rattle.c_typing.specs.Judging.{State}
use Rattle.c_typing.specs.Scopes as scopes
use Rattle.c_typing.specs.Scopes.{Name, Level, empty_level, entering, leaving, without_innermost}
use Rattle.c_typing.specs.Settled.{IsLevelThere}
use Rattle.c_typing.specs.Specifying as specifying
use Rattle.c_typing_laws.proofs.JudgedDeclarators.{left-judged}
use Rattle.c_typing_laws.proofs.JudgedSpecifiers.{scopes-known}
use Rattle.c_typing_laws.proofs.KnownScopes.{empty-there}
use Rattle.c_type_order.specs.TypesUsed.{Use}
use Rattle.c_typing_given.proofs.Settling.{small-kept}
use Rattle.c_typing_given.proofs.TypeGiven.{lt_true, none-same}
use Rattle.c_unit_typing.specs.Units.{Known, entering_known, leaving_known, going_on}
use Rattle.c_unit_typing.specs.UnitJudged.{state_of}
use Rattle.c_unit_typing.specs.UnitJudging.{UnitState, UnitJudging, UnitOutcome, Gives, Stops, next, lifted, ◌>>=◌}
use Rattle.c_unit_typing.specs.StatementJudging.{within}
use Rattle.c_unit_typing.proofs.UnitStates.{linkage-stays}
use Rattle.c_unit_given.proofs.UnitGiven.{IsHomeBelow, IsUnitHere, IsUnitGivenAs, IsRun}
use Rattle.c_unit_given.proofs.LevelsBelow.{IsLevelBelow, homes-outer}
use Rattle.c_unit_given.proofs.Runs.{then-is, lifted-is}
use Rattle.c_typing.proofs.OpenScopes.{outer-of}

-- Levels

pub two-levels : (ls : List Level) → 1 ≤ length (without_innermost ls) → 1 < length ls
two-levels [] h = omega (arith, h)
two-levels (l ∷ []) h = omega (arith, h)
two-levels (l ∷ (m ∷ ls)) h = omega arith

low : (n : ℕ) → n ≤ n
low n = omega arith

-- States

abbrev pub in_scopes : (scopes.Scopes → scopes.Scopes) → UnitState → UnitState
in_scopes change s = record s { seen = scopes.with_scopes s.seen (change s.seen.scopes) }

pub leave-is : {A : Type 0} (at : Place) (a : A) (s : UnitState) → 1 < length s.seen.scopes.levels → left at a (state_of s) ≡ Rattle.c_typing.specs.Judging.Gives a (state_of (in_scopes leaving s))
unfolding left
leave-is at a s h = rw (lt_true 1 (length s.seen.scopes.levels) h) refl

pub bind-assoc : {A B C : Type 0} (o : UnitOutcome A) (f : A → UnitJudging B) (g : B → UnitJudging C) → next (next o f) g ≡ next o (λ a. f a >>= g)
bind-assoc (Gives a s) f g = refl
bind-assoc (Stops x s) f g = refl

module _ (T : Table) where
  -- a scope begins, with so much in it
  pub opened-here : (level : Level) (s : UnitState) → IsUnitHere T s → IsLevelThere s.table level → IsLevelBelow s.seen.node level → IsUnitHere T (in_scopes (going_on level) s)
  opened-here level s here there below =
      let r : UnitState = in_scopes (going_on level) s in
      let c = s.seen.scopes in
      let goes = scopes-known (state_of s) (going_on level c) here.here.known refl (All-push (IsLevelThere s.table) c.levels level here.here.known.levels there) in
      let was = here.open_ in
      record {
        here = record {
          known = goes.known;
          first = here.here.first;
          small = small-kept (state_of s) (state_of r) here.here.small refl refl (low (length s.table)) (λ p. omega (arith, length-append s.seen.scopes.levels (level ∷ []))) (none-same s.table);
          own = here.here.own;
        };
        unit = (linkage-stays s r here.unit goes refl (low s.seen.node)).known;
        open_ = omega (arith, was, length-append s.seen.scopes.levels (level ∷ []));
        homes = All-push (IsLevelBelow s.seen.node) s.seen.scopes.levels level here.homes below;
      }

  pub enter-here : (s : UnitState) → IsUnitHere T s → IsUnitHere T (in_scopes entering s)
  enter-here s here = opened-here empty_level s here (empty-there s.table) (All-nil (λ (e : Name × Declared). IsHomeBelow s.seen.node e.1))

  pub leave-here : (s : UnitState) → IsUnitHere T s → 1 ≤ length (without_innermost s.seen.scopes.levels) → IsUnitHere T (in_scopes leaving s)
  leave-here s here open_ =
      let r : UnitState = in_scopes leaving s in
      let goes = (left-judged (Rattle.c_tree.specs.Places.nowhere) true true (state_of s) (state_of r) here.here.known
      (leave-is Rattle.c_tree.specs.Places.nowhere true s (two-levels s.seen.scopes.levels open_))).2 in
      record {
        here = record {
          known = goes.known;
          first = here.here.first;
          small = small-kept (state_of s) (state_of r) here.here.small refl refl (low (length s.table)) (λ p. omega (arith, open_)) (none-same s.table);
          own = here.here.own;
        };
        unit = (linkage-stays s r here.unit goes refl (low s.seen.node)).known;
        open_ = open_;
        homes = homes-outer s.seen.node s.seen.scopes.levels here.homes;
      }

  -- what is known outside of a scope, where so much is known inside
  abbrev pub Inside : (Known → Known → Type 0) → Known → Known → Type 0
  Inside P k k' = (l : Known) × P (entering_known k) l × (k' ≡ leaving_known l)

  -- a part is judged in a scope of its own, in which there is so much: it is given from the state inside
  pub opened-given : {A B : Type 0} (G : Table → Type 0) (made : List Made) (m : UnitJudging A) (a : A) (at : Place) (g : A → B) (level : Level) (s : UnitState) (l k : Known) (n count : ℕ) → IsUnitHere T s
      → IsUnitGivenAs T G made (m (in_scopes (going_on level) s)) a (in_scopes (going_on level) s) l n count → k ≡ leaving_known l
      → IsUnitGivenAs T G made ((lifted (specifying.in_scopes (going_on level) true) >>= (λ inside. m >>= (λ x. lifted (left at (g x))))) s) (g a) s k n count
  opened-given G made m a at g level s l k n count here one leaves =
      let s1 : UnitState = in_scopes (going_on level) s in
      let r : UnitState = one.after in
      let outer : without_innermost r.seen.scopes.levels ≡ s.seen.scopes.levels = one.reached.outer ∙ outer-of s.seen.scopes.levels level in
      let was = here.open_ in
      let open_ : 1 ≤ length (without_innermost r.seen.scopes.levels) = subst (λ (ls : List Level). 1 ≤ length ls) (sym outer) was in
      let after : UnitState = in_scopes leaving r in
      record {
        after = after;
        gives = then-is (lifted (specifying.in_scopes (going_on level) true)) (λ inside. m >>= (λ x. lifted (left at (g x)))) true s s1 (Gives (g a) after) refl
            (then-is m (λ x. lifted (left at (g x))) a s1 r (Gives (g a) after) one.gives
            (lifted-is (left at (g a)) (g a) r (state_of after) (leave-is at (g a) r (two-levels r.seen.scopes.levels open_))));
        reached = record {
          here = leave-here r one.reached.here open_;
          grown = one.reached.grown;
          known = ap leaving_known one.reached.known ∙ sym leaves;
          node = one.reached.node;
          types = one.reached.types;
          outer = ap without_innermost outer;
          spent = record { nodes = one.reached.spent.nodes; globals = one.reached.spent.globals; cells = one.reached.spent.cells };
        };
        gains = one.gains;
      }

  pub scoped-given : {A B : Type 0} (G : Table → Type 0) (made : List Made) (m : UnitJudging A) (a : A) (at : Place) (g : A → B) (s : UnitState) (l k : Known) (n count : ℕ) → IsUnitHere T s
      → IsUnitGivenAs T G made (m (in_scopes entering s)) a (in_scopes entering s) l n count → k ≡ leaving_known l
      → IsUnitGivenAs T G made ((lifted entered >>= (λ inside. m >>= (λ x. lifted (left at (g x))))) s) (g a) s k n count
  unfolding entered
  scoped-given G made m a at g s l k n count here one leaves = opened-given G made m a at g empty_level s l k n count here one leaves

  pub scoped-run : {A B : Type 0} (N G : Table → Type 0) (P : Known → Known → Type 0) (made : List Made) (uses : List Use) (m : UnitJudging A) (a : A) (at : Place) (g : A → B)
      → IsRun T N G P made uses m a → IsRun T N G (Inside P) made uses (lifted entered >>= (λ inside. m >>= (λ x. lifted (left at (g x))))) (g a)
  scoped-run N G P made uses m a at g p s k n count here needs h numbers used room =
      scoped-given G made m a at g s h.0 k n count here
      (p (in_scopes entering s) h.0 n count (enter-here s here) needs h.1 numbers used (record { things = room.things; nodes = room.nodes; globals = room.globals; cells = room.cells })) h.2

  pub within-run : {A : Type 0} (N G : Table → Type 0) (P : Known → Known → Type 0) (made : List Made) (uses : List Use) (m : UnitJudging A) (a : A) (at : Place)
      → IsRun T N G P made uses m a → IsRun T N G (Inside P) made uses (within at m) a
  unfolding within
  within-run {A = A} N G P made uses m a at p = scoped-run N G P made uses m a at (λ (x : A). x) p

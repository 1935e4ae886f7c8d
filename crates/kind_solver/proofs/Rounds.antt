use Rattle.std.proofs.Common.{ℕ, Bool, true, false, List, [], ◌∷◌, ◌++◌, None, ◌≡◌, ◌<◌, ◌≤◌, ◌||◌, refl, sym, ap, subst, ◌∙◌, Contains, length, take, ◌+◌, MatchBool, sum_by, arith, get_or, set, get_or-set_same, get_or-set_other, inl, inr}
use Rattle.std.proofs.lemmas.List.{length-set, take_more}
use Rattle.std.proofs.lemmas.List.Sums.{sum_by-set}
use Rattle.std.proofs.lemmas.List.Elements.{Contains-push_cases, Contains-get_or}
use Rattle.std.proofs.lemmas.Bool.{cases_eq}
use Rattle.kind_solver.specs.declared.gathering.Edge.{Edge}
use Rattle.kind_solver.specs.Order.{late}
use Rattle.kind_solver.specs.Chains.{edge, Leads}
use Rattle.kind_solver.specs.Tables.{Table, entry, EdgesWithin, Spread, Comes, Falls, IsClosed, IsEarliest}
use Rattle.kind_solver.proofs.Paths.{Leads-here, Leads-step, Leads-Leads, along_Leads}

-- A round over the edges: `done` are those gone along so far.
pub record Round (all : List Edge) (old : Table) (done : List Edge) (now : Table) (changed : Bool) : Type 0 where
  pub len : length now ≡ length old
  pub comes : Comes all old now
  pub falls : Falls old now
  pub cases : MatchBool changed (sum_by late now < sum_by late old) ((now ≡ old) × IsClosed done old)

pub round_start : (all : List Edge) (old : Table) → Round all old [] old false
round_start all old = record {
  len = refl;
  comes = λ n h. (n, h, Leads-here all n, refl);
  falls = λ n. omega arith;
  cases = (refl, λ x y c. absurd (omega (arith, c.1)));
}

comes_set : (all : List Edge) (old now : Table) (x y : ℕ) → length now ≡ length old → Comes all old now
    → Contains all (edge x y) → x < length now → y < length now → Comes all old (set now y (entry now x))
comes_set all old now x y len comes within x_in y_in n h =
    elim (cases_eq n y) [
      | inl e ↦
          let came = comes x (omega arith) in (
            came.0,
            came.1,
            subst (λ m. Leads all came.0 m) (sym e) (Leads-step all came.0 x y came.2 within),
            ap (λ m. entry (set now y (entry now x)) m) e ∙ get_or-set_same now y (entry now x) None y_in ∙ came.3,
          )
      | inr ne ↦
          let came = comes n h in
          (came.0, came.1, came.2, get_or-set_other now y n (entry now x) None ne ∙ came.3)
    ]

falls_set : (now : Table) (x y : ℕ) → y < length now → late (entry now x) < late (entry now y)
    → Falls now (set now y (entry now x))
falls_set now x y y_in lower n =
    elim (cases_eq n y) [
      | inl e ↦
          let at : entry (set now y (entry now x)) n ≡ entry now x =
          ap (λ m. entry (set now y (entry now x)) m) e ∙ get_or-set_same now y (entry now x) None y_in in
          let here : entry now n ≡ entry now y = ap (λ m. entry now m) e in
          omega (arith, ap late at, ap late here)
      | inr ne ↦
          let at : entry (set now y (entry now x)) n ≡ entry now n = get_or-set_other now y n (entry now x) None ne in
          omega (arith, ap late at)
    ]

sum_falls : (now : Table) (x y : ℕ) → y < length now → late (entry now x) < late (entry now y)
    → sum_by late (set now y (entry now x)) < sum_by late now
sum_falls now x y y_in lower = omega (arith, sum_by-set late now y (entry now x) None y_in)

cases_set : (done more : List Edge) (old now new : Table) (changed : Bool)
    → MatchBool changed (sum_by late now < sum_by late old) ((now ≡ old) × IsClosed done old)
    → sum_by late new < sum_by late now
    → MatchBool (changed || true) (sum_by late new < sum_by late old) ((new ≡ old) × IsClosed more old)
cases_set done more old now new true h lower = omega arith
cases_set done more old now new false h lower = omega (arith, ap (sum_by late) h.0)

closed_push : (done : List Edge) (table : Table) (x y : ℕ) → IsClosed done table
    → late (entry table y) ≤ late (entry table x) → IsClosed (done ++ edge x y ∷ []) table
closed_push done table x y closed here a b within =
    elim (Contains-push_cases done (edge x y) (edge a b) within) [
      | inl before ↦ closed a b before
      | inr same ↦
          let from : x ≡ a = ap (λ (e : Edge). e.from.0) same in
          let to : y ≡ b = ap (λ (e : Edge). e.to.0) same in
          subst (λ m. late (entry table b) ≤ late (entry table m)) from (subst (λ m. late (entry table m) ≤ late (entry table x)) to here)
    ]

cases_kept : (done : List Edge) (old now : Table) (x y : ℕ) (changed : Bool)
    → MatchBool changed (sum_by late now < sum_by late old) ((now ≡ old) × IsClosed done old)
    → late (entry now y) ≤ late (entry now x)
    → MatchBool (changed || false) (sum_by late now < sum_by late old) ((now ≡ old) × IsClosed (done ++ edge x y ∷ []) old)
cases_kept done old now x y true h here = h
cases_kept done old now x y false h here =
    (h.0, closed_push done old x y h.1 (subst (λ t. late (entry t y) ≤ late (entry t x)) h.0 here))

round_set : (all : List Edge) (old : Table) (done : List Edge) (now : Table) (changed : Bool) (x y : ℕ)
    → Round all old done now changed → Contains all (edge x y) → x < length now → y < length now
    → late (entry now x) < late (entry now y)
    → Round all old (done ++ edge x y ∷ []) (set now y (entry now x)) (changed || true)
round_set all old done now changed x y r within x_in y_in lower = record {
  len = length-set now y (entry now x) ∙ r.len;
  comes = comes_set all old now x y r.len r.comes within x_in y_in;
  falls = λ n. omega (arith, r.falls n, falls_set now x y y_in lower n);
  cases = cases_set done (done ++ edge x y ∷ []) old now (set now y (entry now x)) changed r.cases (sum_falls now x y y_in lower);
}

round_kept : (all : List Edge) (old : Table) (done : List Edge) (now : Table) (changed : Bool) (x y : ℕ)
    → Round all old done now changed → late (entry now y) ≤ late (entry now x)
    → Round all old (done ++ edge x y ∷ []) now (changed || false)
round_kept all old done now changed x y r here = record {
  len = r.len;
  comes = r.comes;
  falls = r.falls;
  cases = cases_kept done old now x y changed r.cases here;
}

-- One more edge.
pub round_more : (all : List Edge) (old : Table) (done : List Edge) (now new : Table) (changed moved : Bool) (e : Edge)
    → Round all old done now changed → Contains all e → e.from.0 < length now → e.to.0 < length now
    → Spread e now new moved
    → Round all old (done ++ e ∷ []) new (changed || moved)
round_more all old done now new changed true e r within x_in y_in spread =
    subst (λ t. Round all old (done ++ e ∷ []) t (changed || true)) (sym spread.0)
    (round_set all old done now changed e.from.0 e.to.0 r within x_in y_in spread.1)
round_more all old done now new changed false e r within x_in y_in spread =
    subst (λ t. Round all old (done ++ e ∷ []) t (changed || false)) (sym spread.0)
    (round_kept all old done now changed e.from.0 e.to.0 r spread.1)

-- After the last edge.
pub round_cases : (all : List Edge) (old now : Table) (changed : Bool) → Round all old all now changed
    → MatchBool changed (sum_by late now < sum_by late old) (IsClosed all now)
round_cases all old now true r = r.cases
round_cases all old now false r = subst (λ t. IsClosed all t) (sym r.cases.0) r.cases.1

-- Rounds, one after another.
pub record Rounds (all : List Edge) (first now : Table) : Type 0 where
  pub len : length now ≡ length first
  pub comes : Comes all first now
  pub falls : Falls first now

pub rounds_start : (all : List Edge) (first : Table) → Rounds all first first
rounds_start all first = record { len = refl; comes = λ n h. (n, h, Leads-here all n, refl); falls = λ n. omega arith }

pub rounds_more : (all : List Edge) (first now new : Table) → Rounds all first now → length new ≡ length now
    → Comes all now new → Falls now new → Rounds all first new
rounds_more all first now new r len comes falls = record {
  len = len ∙ r.len;
  comes = λ n h.
      let late_came = comes n (omega (arith, r.len)) in
      let came = r.comes late_came.0 (omega (arith, r.len, late_came.1)) in
      (came.0, came.1, Leads-Leads all came.0 late_came.0 n came.2 late_came.2, late_came.3 ∙ came.3);
  falls = λ n. omega (arith, r.falls n, falls n);
}

pub rounds_end : (all : List Edge) (first now : Table) → Rounds all first now → IsClosed all now → IsEarliest all first now
rounds_end all first now r closed x n leads =
    along_Leads all (λ m. late (entry now m) ≤ late (entry first x))
    (λ a b within here. omega (arith, closed a b within)) x n leads (r.falls x)

-- One more edge of the list.
pub round_next : (all : List Edge) (old : Table) (i n : ℕ) (now new : Table) (changed moved : Bool) (d : Edge) → i < length all
    → EdgesWithin n all → length now ≡ n → Round all old (take i all) now changed
    → Spread (get_or all i d) now new moved → Round all old (take (i + 1) all) new (changed || moved)
round_next all old i n now new changed moved d within nodes len r spread =
    let ends = nodes i d within in
    rw (take_more all i d within)
    (round_more all old (take i all) now new changed moved (get_or all i d) r (Contains-get_or all i d within)
    (omega (arith, ends.0)) (omega (arith, ends.1)) spread)

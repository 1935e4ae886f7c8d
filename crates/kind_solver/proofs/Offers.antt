use Rattle.std.proofs.Common.{ℕ, List, [], ◌∷◌, ◌++◌, None, Some, ◌≡◌, ◌<◌, ◌≤◌, refl, sym, ap, subst, ◌∙◌, Contains, length, take, ◌+◌, arith, get_or, set, get_or-set_same, get_or-set_other, inl, inr}
use Rattle.std.proofs.lemmas.List.{length-set, get_or_past, take_more}
use Rattle.std.proofs.lemmas.List.Elements.{Contains-push, Contains-append_left, Contains-push_cases, All-contains}
use Rattle.std.proofs.lemmas.Option.{none-some, same_Some}
use Rattle.std.proofs.lemmas.Bool.{cases_eq, cases_lt}
use Rattle.kind_solver.specs.declared.gathering.Edge.{Edge}
use Rattle.kind_solver.specs.declared.gathering.Origin.{Origin}
use Rattle.kind_solver.specs.declared.cause.Cause.{Cause}
use Rattle.kind_solver.specs.Order.{late, rank, Fits}
use Rattle.kind_solver.specs.Chains.{origin, Chain}
use Rattle.kind_solver.specs.Tables.{Table, entry, IsEmptyTable, Offered, HoldsOrigins, Comes, Falls, IsEarliest, OriginsFit, OriginsWithin, Shows}
use Rattle.kind_solver.proofs.Ranks.{late_some}

empty_entry : (table : Table) → IsEmptyTable table → (n : ℕ) → entry table n ≡ None
empty_entry table empty n =
    elim (cases_lt n (length table)) [
      | inl within ↦ empty n None within
      | inr past ↦ get_or_past table n None past
    ]

pub holds_none : (table : Table) → IsEmptyTable table → HoldsOrigins [] (length table) table
holds_none table empty = record {
  len = refl;
  real = λ n c e. absurd (none-some c (sym (empty_entry table empty n) ∙ e));
  earliest = λ n c within. absurd (omega (arith, within.1));
}

offered_same : (s : Origin) (old new : Table) → s.node.0 < length old → Offered s old new
    → late (entry new s.node.0) ≤ rank s.cause
offered_same s old new within offered =
    elim offered [
      | inl put ↦
          let at : entry new s.node.0 ≡ Some s.cause =
          ap (λ t. entry t s.node.0) put.0 ∙ get_or-set_same old s.node.0 (Some s.cause) None within in
          omega (arith, ap late at)
      | inr kept ↦ omega (arith, ap (λ t. late (entry t s.node.0)) kept.0, kept.1)
    ]

offered_falls : (s : Origin) (old new : Table) → s.node.0 < length old → Offered s old new → Falls old new
offered_falls s old new within offered n =
    elim offered [
      | inl put ↦ elim (cases_eq n s.node.0) [
        | inl e ↦
            let at : entry new n ≡ Some s.cause =
            ap (λ t. entry t n) put.0 ∙ ap (λ m. entry (set old s.node.0 (Some s.cause)) m) e
            ∙ get_or-set_same old s.node.0 (Some s.cause) None within in
            let here : entry old n ≡ entry old s.node.0 = ap (λ m. entry old m) e in
            omega (arith, ap late at, ap late here, put.1)
        | inr ne ↦
            let at : entry new n ≡ entry old n =
            ap (λ t. entry t n) put.0 ∙ get_or-set_other old s.node.0 n (Some s.cause) None ne in
            omega (arith, ap late at)
      ]
      | inr kept ↦ omega (arith, ap (λ t. late (entry t n)) kept.0)
    ]

offered_real : (s : Origin) (done : List Origin) (old new : Table) → s.node.0 < length old → Offered s old new
    → ((n : ℕ) (c : Cause) → entry old n ≡ Some c → Contains done (origin n c))
    → (n : ℕ) (c : Cause) → entry new n ≡ Some c → Contains (done ++ s ∷ []) (origin n c)
offered_real s done old new within offered real n c e =
    elim offered [
      | inl put ↦ elim (cases_eq n s.node.0) [
        | inl same ↦
            let at : entry new n ≡ Some s.cause =
            ap (λ t. entry t n) put.0 ∙ ap (λ m. entry (set old s.node.0 (Some s.cause)) m) same
            ∙ get_or-set_same old s.node.0 (Some s.cause) None within in
            let cause : s.cause ≡ c = same_Some s.cause c (sym at ∙ e) in
            subst (λ m. Contains (done ++ s ∷ []) (origin m c)) (sym same)
            (subst (λ d. Contains (done ++ s ∷ []) (origin s.node.0 d)) cause (Contains-push done s))
        | inr ne ↦
            let at : entry new n ≡ entry old n =
            ap (λ t. entry t n) put.0 ∙ get_or-set_other old s.node.0 n (Some s.cause) None ne in
            Contains-append_left done (s ∷ []) (origin n c) (real n c (sym at ∙ e))
      ]
      | inr kept ↦ Contains-append_left done (s ∷ []) (origin n c) (real n c (sym (ap (λ t. entry t n) kept.0) ∙ e))
    ]

offered_earliest : (s : Origin) (done : List Origin) (old new : Table) → s.node.0 < length old → Offered s old new
    → ((n : ℕ) (c : Cause) → Contains done (origin n c) → late (entry old n) ≤ rank c)
    → (n : ℕ) (c : Cause) → Contains (done ++ s ∷ []) (origin n c) → late (entry new n) ≤ rank c
offered_earliest s done old new within offered earliest n c found =
    elim (Contains-push_cases done s (origin n c) found) [
      | inl before ↦ omega (arith, earliest n c before, offered_falls s old new within offered n)
      | inr same ↦
          subst (λ (t : Origin). late (entry new t.node.0) ≤ rank t.cause) same (offered_same s old new within offered)
    ]

offered_len : (s : Origin) (old new : Table) → Offered s old new → length new ≡ length old
offered_len s old new offered =
    elim offered [
      | inl put ↦ ap length put.0 ∙ length-set old s.node.0 (Some s.cause)
      | inr kept ↦ ap length kept.0
    ]

pub holds_more : (done : List Origin) (count : ℕ) (old new : Table) (s : Origin) → HoldsOrigins done count old
    → s.node.0 < length old → Offered s old new → HoldsOrigins (done ++ s ∷ []) count new
holds_more done count old new s h within offered = record {
  len = offered_len s old new offered ∙ h.len;
  real = offered_real s done old new within offered h.real;
  earliest = offered_earliest s done old new within offered h.earliest;
}

-- Origins and what spreads from them show the chains.
pub shows_chains : (origins : List Origin) (edges : List Edge) (count : ℕ) (start now : Table) → HoldsOrigins origins count start
    → OriginsFit origins → length now ≡ count → Comes edges start now → IsEarliest edges start now
    → Shows (Chain origins edges) count now
shows_chains origins edges count start now h fit len comes earliest = record {
  len = len;
  fits = λ n c chain. All-contains (λ (s : Origin). Fits s.cause) origins (origin chain.0 c) fit chain.1;
  real = λ n c within e.
      let came = comes n (omega (arith, h.len)) in
      (came.0, h.real came.0 c (sym came.3 ∙ e), came.2);
  first = λ n c within chain.
      late_some (entry now n) c (omega (arith, earliest chain.0 n chain.2, h.earliest chain.0 c chain.1))
      (All-contains (λ (s : Origin). Fits s.cause) origins (origin chain.0 c) fit chain.1);
}

-- One more origin of a list.
pub holds_next : (origins : List Origin) (i n count : ℕ) (old new : Table) (d : Origin) → i < length origins
    → OriginsWithin n origins → length old ≡ n → HoldsOrigins (take i origins) count old → Offered (get_or origins i d) old new
    → HoldsOrigins (take (i + 1) origins) count new
holds_next origins i n count old new d within nodes len h offered =
    let node = nodes i d within in
    rw (take_more origins i d within)
    (holds_more (take i origins) count old new (get_or origins i d) h (omega (arith, node)) offered)

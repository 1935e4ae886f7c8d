use Rattle.std.proofs.Common.{ℕ, List, Option, None, Some, ◌≡◌, ◌<◌, refl, sym, ap, subst, ◌∙◌, arith}
use Rattle.std.proofs.lemmas.Option.{same_Some}
use Rattle.cc_base.specs.Kinds.{kind_at}
use Rattle.cc_base.specs.declared.kind.Kind.{Kind}
use Rattle.kind_solver.specs.declared.cause.Cause.{Cause}
use Rattle.kind_solver.specs.declared.constraint.Constraint.{Constraint}
use Rattle.kind_solver.specs.Constraints.{AreWithin, PlainApart, MeetsAll}
use Rattle.kind_solver.specs.Order.{rank, ComesBefore}
use Rattle.kind_solver.specs.Sets.{Holds, WildFrom, NeedFrom, TypeFrom, HasKind, HasCause, AreKinds, AreCauses, HasLeastWild}
use Rattle.kind_solver.specs.Tables.{Table, entry, Shows, kind_from, cause_from, ReadsOff}
use Rattle.kind_solver.proofs.Least.{wild_at_least}
use Rattle.kind_solver.proofs.Meeting.{has_wild, meets_all}
use Rattle.kind_solver.proofs.Ranks.{rank_before}
use Rattle.kind_solver.proofs.Shown.{no_entry}

-- From three tables to kinds and causes.

-- What an entry says of a relation.
record Says (F : Cause → ℕ → Type 0) (n : ℕ) (o : Option Cause) : Type 0 where
  real : (c : Cause) → o ≡ Some c → F c n
  none : o ≡ None → ¬ (Holds F n)
  first : (c d : Cause) → o ≡ Some c → F d n → ¬ (ComesBefore d c)

says : (F : Cause → ℕ → Type 0) (count n : ℕ) (t : Table) → Shows F count t → n < count → Says F n (entry t n)
says F count n t s within = record {
  real = λ c e. s.real n c within e;
  none = λ e. no_entry F count n t s within e;
  first = λ c d e f before.
      let found = s.first n d within f in
      let same : found.0 ≡ c = same_Some found.0 c (sym found.1 ∙ e) in
      let earlier = rank_before d c (s.fits n d f) (s.fits n c (s.real n c within e)) before in
      let not_later = found.2 in
      omega (arith, ap rank same);
}

has_kind : (list : List Constraint) (n : ℕ) (w s t : Option Cause) → Says (WildFrom list) n w → Says (NeedFrom list) n s
    → Says (TypeFrom list) n t → HasKind list n (kind_from w s t)
has_kind list n (Some c) s t sw ss st = (c, sw.real c refl)
has_kind list n None (Some c) t sw ss st = (sw.none refl, (c, ss.real c refl))
has_kind list n None None (Some c) sw ss st = (sw.none refl, ss.none refl, (c, st.real c refl))
has_kind list n None None None sw ss st = (sw.none refl, ss.none refl, st.none refl)

has_cause : (list : List Constraint) (n : ℕ) (w s t : Option Cause) → Says (WildFrom list) n w → Says (NeedFrom list) n s
    → Says (TypeFrom list) n t → HasCause list n (kind_from w s t) (cause_from w s t)
has_cause list n (Some c) s t sw ss st = (sw.real c refl, λ d f. sw.first c d refl f)
has_cause list n None (Some c) t sw ss st = (ss.real c refl, λ d f. ss.first c d refl f)
has_cause list n None None (Some c) sw ss st = (st.real c refl, λ d f. st.first c d refl f)
has_cause list n None None None sw ss st = refl

pub are_kinds : (list : List Constraint) (count : ℕ) (wild needs types : Table) (kinds : List Kind) (causes : Table)
    → Shows (WildFrom list) count wild → Shows (NeedFrom list) count needs → Shows (TypeFrom list) count types
    → ReadsOff wild needs types count kinds causes → AreKinds list count kinds
are_kinds list count wild needs types kinds causes sw ss st r = record {
  len = r.kinds_len;
  each = λ node within.
      let n : ℕ = node.0 in
      subst (λ k. HasKind list n k) (sym (r.kind n within))
      (has_kind list n (entry wild n) (entry needs n) (entry types n) (says (WildFrom list) count n wild sw within)
      (says (NeedFrom list) count n needs ss within) (says (TypeFrom list) count n types st within));
}

pub are_causes : (list : List Constraint) (count : ℕ) (wild needs types : Table) (kinds : List Kind) (causes : Table)
    → Shows (WildFrom list) count wild → Shows (NeedFrom list) count needs → Shows (TypeFrom list) count types
    → ReadsOff wild needs types count kinds causes → AreCauses list count kinds causes
are_causes list count wild needs types kinds causes sw ss st r = record {
  len = r.causes_len;
  each = λ node within.
      let n : ℕ = node.0 in
      subst (λ k. HasCause list n k (entry causes n)) (sym (r.kind n within))
      (subst (λ o. HasCause list n (kind_from (entry wild n) (entry needs n) (entry types n)) o) (sym (r.cause n within))
      (has_cause list n (entry wild n) (entry needs n) (entry types n) (says (WildFrom list) count n wild sw within)
      (says (NeedFrom list) count n needs ss within) (says (TypeFrom list) count n types st within)));
}

-- No map that meets the list has fewer WILD nodes.
pub least : (list : List Constraint) (count : ℕ) (kinds : List Kind) → AreKinds list count kinds → HasLeastWild list count kinds
least list count kinds h k meets n within e =
    let wild = has_wild list n.0 (kind_at kinds n) (h.each n within) e in
    wild_at_least k list meets n wild.0 wild.1

pub meets : (list : List Constraint) (count : ℕ) (kinds : List Kind) → AreWithin count list → AreKinds list count kinds
    → PlainApart list → MeetsAll (kind_at kinds) list
meets list count kinds nodes h apart = meets_all list count (kind_at kinds) nodes h.each apart

use Rattle.std.proofs.Common.{◌≡◌, ℕ, zero, suc, ◌+◌, ◌-◌, ◌*◌, ◌<◌, ◌≤◌, Bool, true, ◌&&◌, List, [], ◌∷◌, length, get_or, replicate, if◌then◌else◌, true≢false, refl, ap, sym, subst, ◌∙◌, arith}
use Rattle.std.specs.List.{Contains}
use Rattle.std.proofs.lemmas.Bool.{lt-ltb}
use Rattle.std.proofs.lemmas.Bool.Decides.{Decides-eqb}
use lib.Pointwise.{pointwise}
use lib.Dec.{eqb}
use Rattle.c_types.proofs.Shapes.{first_true, second_true}
use Rattle.std.proofs.lemmas.List.Elements.{All-contains, Contains-get_or}
use Rattle.cc_base.specs.declared.number.TypeId.{TypeId}
use Rattle.c_types.specs.Table.{Table, IsType}
use Rattle.c_types.specs.Cells.{Relation, same_type}
use Rattle.c_types.specs.Equality.{within, made_alike, equal_at_level, physically_equal}
use Rattle.c_types.specs.Sound.{IsWellFormed}
use Rattle.phys_types.specs.declared.keeping.Repeated.{Repeated}
use Rattle.phys_types.specs.Numbers.{number_in, same_number}
use Rattle.phys_types.specs.Reach.{IsClosed}
use Rattle.phys_types.specs.Rounds.{IsOrder, AreShown, IsRound, AreSettled}
use Rattle.phys_types.proofs.Agreeing.{cells_agree, made_agree}
use Rattle.phys_types.proofs.RoundLemmas.{round_tells, number_equiv}

-- The numbers after k rounds are equality at level k.

module _ (table : Table) (w : IsWellFormed table) (order : List TypeId) (places : List ℕ) (o : IsOrder table order places) (closed : IsClosed table (Contains order)) where
  pub within_is : (E : Relation) (t u : TypeId) → Contains order t → Contains order u → within table E t u ≡ E t u
  within_is E t u a b =
      λ i. if lt-ltb t.0 (length table) (All-contains (IsType table) order t o.types a) i && lt-ltb u.0 (length table) (All-contains (IsType table) order u o.types b) i then E t u else same_type t u

  -- the numbers tell apart what level k does
  pub AtLevel : ℕ → List ℕ → Type 0
  AtLevel k numbers = (t u : TypeId) → Contains order t → Contains order u → same_number (number_in numbers) t u ≡ equal_at_level table k t u

  none : (n i : ℕ) → get_or {A = ℕ} (replicate n 0) i 0 ≡ 0
  none zero i = refl
  none (suc n) zero = refl
  none (suc n) (suc i) = none n i

  pub level_start : (numbers : List ℕ) (n : ℕ) → numbers ≡ replicate n 0 → AtLevel 0 numbers
  unfolding AtLevel
  level_start numbers n e t u a b =
      (Decides-eqb (number_in numbers t) (number_in numbers u)).1
      (ap (λ xs. get_or xs t.0 0) e ∙ none n t.0 ∙ sym (ap (λ xs. get_or xs u.0 0) e ∙ none n u.0))
      ∙ sym (within_is (λ x y. true) t u a b)

  made_is : (k : ℕ) (numbers : List ℕ) → AtLevel k numbers → (t u : TypeId) → Contains order t → Contains order u
      → made_alike table (same_number (number_in numbers)) t u ≡ equal_at_level table (suc k) t u
  unfolding AtLevel
  made_is k numbers h t u a b =
      made_agree table w (Contains order) closed (same_number (number_in numbers)) (equal_at_level table k) h t u a b
      ∙ sym (within_is (made_alike table (equal_at_level table k)) t u a b)

  pub tells : (numbers next : List ℕ) (layouts : List Repeated) → IsRound table (same_number (number_in numbers)) order next layouts
      → (t u : TypeId) → Contains order t → Contains order u → same_number (number_in next) t u ≡ made_alike table (same_number (number_in numbers)) t u
  tells numbers next layouts r = round_tells table w order places o (same_number (number_in numbers)) (number_equiv (number_in numbers)) next layouts r

  pub level_next : (k : ℕ) (numbers next : List ℕ) (layouts : List Repeated) → AtLevel k numbers → IsRound table (same_number (number_in numbers)) order next layouts
      → AtLevel (k + 1) next
  unfolding AtLevel
  level_next k numbers next layouts h r t u a b =
      tells numbers next layouts r t u a b ∙ made_is k numbers h t u a b ∙ ap (λ j. equal_at_level table j t u) (next_is k)
    where
      next_is : (k : ℕ) → suc k ≡ k + 1
      next_is k = omega arith

  stays : (k : ℕ) (numbers next : List ℕ) (layouts : List Repeated) → AtLevel k numbers → IsRound table (same_number (number_in numbers)) order next layouts → next ≡ numbers
      → (j : ℕ) (t u : TypeId) → Contains order t → Contains order u → same_number (number_in numbers) t u ≡ equal_at_level table (j + k) t u
  unfolding AtLevel
  stays k numbers next layouts h r e zero t u a b = h t u a b ∙ ap (λ n. equal_at_level table n t u) (plus k)
    where
      plus : (k : ℕ) → k ≡ 0 + k
      plus k = omega arith
  stays k numbers next layouts h r e (suc j) t u a b =
      ap (λ xs. same_number (number_in xs) t u) (sym e)
      ∙ tells numbers next layouts r t u a b
      ∙ made_is (j + k) numbers (stays k numbers next layouts h r e j) t u a b
      ∙ ap (λ n. equal_at_level table n t u) (plus j k)
    where
      plus : (j k : ℕ) → suc (j + k) ≡ suc j + k
      plus j k = omega arith

  at_last : (numbers : List ℕ) → AtLevel (length table * length table) numbers → (t u : TypeId) → Contains order t → Contains order u
      → same_number (number_in numbers) t u ≡ physically_equal table t u
  unfolding AtLevel physically_equal
  at_last numbers h = h

  pub shown_agree : (E F : Relation) (layouts : List Repeated) → length layouts ≡ length order → ((t u : TypeId) → Contains order t → Contains order u → E t u ≡ F t u)
      → AreShown table E order layouts → AreShown table F order layouts
  shown_agree E F layouts l agree s i d x b =
      let h = s i d x b in
      let c : Contains order (get_or order i d) = Contains-get_or order i d (omega arith) in
      record { some = h.some; spots = h.spots; cells = h.cells ∙ cells_agree table w (Contains order) closed E F agree (get_or order i d) c; holds = h.holds }

  pub settled : (numbers next : List ℕ) (layouts : List Repeated) → IsRound table (same_number (number_in numbers)) order next layouts
      → ((t u : TypeId) → Contains order t → Contains order u → same_number (number_in numbers) t u ≡ physically_equal table t u)
      → (last : List ℕ) → ((t u : TypeId) → Contains order t → Contains order u → same_number (number_in last) t u ≡ physically_equal table t u)
      → AreSettled table order last layouts
  settled numbers next layouts r h last k = record {
    equal = k;
    all = r.all;
    shown = λ E g. shown_agree (same_number (number_in numbers)) E layouts r.all (λ t u a b. h t u a b ∙ sym (g t u a b)) r.shown;
  }

  pub settled_still : (k : ℕ) (numbers next : List ℕ) (layouts : List Repeated) → AtLevel k numbers → IsRound table (same_number (number_in numbers)) order next layouts → next ≡ numbers
      → k ≤ length table * length table → AreSettled table order next layouts
  unfolding AtLevel
  settled_still k numbers next layouts h r e l =
      let equal : (t u : TypeId) → Contains order t → Contains order u → same_number (number_in numbers) t u ≡ physically_equal table t u =
      at_last numbers (λ t u a b. stays k numbers next layouts h r e (length table * length table - k) t u a b ∙ ap (λ n. equal_at_level table n t u) (back l)) in
      settled numbers next layouts r equal next (λ t u a b. ap (λ xs. same_number (number_in xs) t u) e ∙ equal t u a b)
    where
      back : k ≤ length table * length table → length table * length table - k + k ≡ length table * length table
      back l = omega arith

  pub settled_last : (numbers next : List ℕ) (layouts : List Repeated) → AtLevel (length table * length table) numbers
      → IsRound table (same_number (number_in numbers)) order next layouts → AreSettled table order numbers layouts
  settled_last numbers next layouts h r = settled numbers next layouts r (at_last numbers h) numbers (at_last numbers h)

pub lists_equal : (xs ys : List ℕ) (b : Bool) → b ≡ pointwise eqb xs ys → b ≡ true → xs ≡ ys
lists_equal xs ys b e h = go xs ys (sym e ∙ h)
  where
    go : (xs ys : List ℕ) → pointwise eqb xs ys ≡ true → xs ≡ ys
    go [] [] h = refl
    go [] (y ∷ ys) h = absurd (true≢false (sym h))
    go (x ∷ xs) [] h = absurd (true≢false (sym h))
    go (x ∷ xs) (y ∷ ys) h = λ i. (Decides-eqb x y).0 (first_true (eqb x y) _ h) i ∷ go xs ys (second_true (eqb x y) _ h) i

pub below_square : (k c n : ℕ) → c ≡ n → k < c * c → k ≤ n * n
below_square k c n e l = subst (λ m. k ≤ m * m) e (omega arith)

pub at_square : (k c n : ℕ) → c ≡ n → k ≡ c * c → k ≡ n * n
at_square k c n e f = f ∙ ap (λ m. m * m) e

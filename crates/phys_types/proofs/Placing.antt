use Rattle.std.proofs.Common.{◌≡◌, ◌≢◌, ℕ, zero, suc, ◌+◌, ◌<◌, ◌≤◌, Bool, true, false, not, ◌&&◌, ◌||◌, List, [], ◌∷◌, ◌++◌, length, get_or, set, if◌then◌else◌, refl, ap, sym, subst, ◌∙◌, inl, inr, true≢false, arith}
use Rattle.std.specs.List.{Contains, list_all}
use Rattle.std.proofs.lemmas.Bool.{cases_lt}
use Rattle.std.proofs.lemmas.Bool.Decides.{eqb_tells}
use Rattle.std.proofs.lemmas.List.{get_or-set_same, get_or-set_other, get_or_append_left, get_or_push, length_push, length-set, take-append-le, take_at, get_or_past}
use Rattle.std.proofs.lemmas.List.Elements.{Contains-append_left, All-contains, All-push}
use Rattle.cc_base.specs.declared.number.TypeId.{TypeId}
use Rattle.c_types.specs.Table.{Table, IsType, IsComplete, is_complete, void_entry, parts_at}
use Rattle.c_types.specs.Sound.{IsWellFormed}
use Rattle.c_types.proofs.Lists.{contains_head, contains_tail}
use Rattle.c_types.proofs.Shapes.{first_true, second_true}
use Rattle.phys_types.specs.Orders.{is_marked, IsPlacing, is_done, waiting, Steps, RoundSteps, IsWholeOrder}

-- Placing types one by one.

all_marked : (marks : List Bool) (ts : List TypeId) (t : TypeId) → list_all (is_marked marks) ts ≡ true → Contains ts t → is_marked marks t ≡ true
all_marked marks [] t h c = absurd (omega (arith, c.1))
all_marked marks (x ∷ ts) t h (zero, l, e) = subst (λ y. is_marked marks y ≡ true) e (first_true (is_marked marks x) _ h)
all_marked marks (x ∷ ts) t h (suc i, l, e) = all_marked marks ts t (second_true (is_marked marks x) _ h) (i, omega arith, e)

all_from : (marks : List Bool) (ts : List TypeId) → ((t : TypeId) → Contains ts t → is_marked marks t ≡ true) → list_all (is_marked marks) ts ≡ true
all_from marks [] h = refl
all_from marks (x ∷ ts) h = λ i. h x (contains_head x ts) i && all_from marks ts (λ t c. h t (contains_tail x ts t c)) i

contains_last : (ts : List TypeId) (t : TypeId) → Contains (ts ++ t ∷ []) t
contains_last ts t = (length ts, (let e = length_push ts t in omega arith), get_or_push ts t t (length ts) refl)

module _ (table : Table) where
  pub placing_more : (order new : List TypeId) (places : List ℕ) (marks : List Bool) (t : TypeId) → IsType table t → IsPlacing table order places marks
      → is_marked marks t ≡ false → list_all (is_marked marks) (parts_at table t) ≡ true → new ≡ order ++ t ∷ []
      → IsPlacing table new (set places t.0 (length order)) (set marks t.0 true)
  placing_more order new places marks t ty p f h n = subst (λ xs. IsPlacing table xs (set places t.0 (length order)) (set marks t.0 true)) (sym n) (record {
    so_far = record {
      types = All-push (IsType table) order t p.so_far.types ty;
      fits = length-set places t.0 (length order) ∙ p.so_far.fits;
      placed = λ i d l. elim (cases_lt i (length order)) [
        | inl b ↦
            ap (λ (u : TypeId). get_or (set places t.0 (length order)) u.0 0) (get_or_append_left order (t ∷ []) d i b)
            ∙ get_or-set_other places t.0 (get_or order i d).0 (length order) 0 (other i d b) ∙ p.so_far.placed i d b
        | inr g ↦
            let e : length order ≡ i = (let k = length_push order t in omega arith) in
            ap (λ (u : TypeId). get_or (set places t.0 (length order)) u.0 0) (get_or_push order t d i e)
            ∙ get_or-set_same places t.0 (length order) 0 (let k = p.so_far.fits in omega arith) ∙ e
      ];
      parts = λ i d q l c. elim (cases_lt i (length order)) [
        | inl b ↦
            subst (λ xs. Contains xs q) (sym (take-append-le i order (t ∷ []) (omega arith)))
            (p.so_far.parts i d q b (subst (λ u. Contains (parts_at table u) q) (get_or_append_left order (t ∷ []) d i b) c))
        | inr g ↦
            let e : length order ≡ i = (let k = length_push order t in omega arith) in
            subst (λ xs. Contains xs q) (sym (take_at order (t ∷ []) i e))
            (p.marked q (all_marked marks (parts_at table t) q h (subst (λ u. Contains (parts_at table u) q) (get_or_push order t d i e) c)))
      ];
    };
    fits = length-set marks t.0 true ∙ p.fits;
    marked = λ u m. elim (eqb_tells u.0 t.0) [
      | inl s ↦ subst (Contains (order ++ t ∷ [])) (ap (λ (k : ℕ). record { 0 = k }) (sym s.1)) (contains_last order t)
      | inr s ↦ Contains-append_left order (t ∷ []) u (p.marked u (sym (get_or-set_other marks t.0 u.0 true false s.1) ∙ m))
    ];
    placed = λ i d l. elim (cases_lt i (length order)) [
      | inl b ↦
          ap (is_marked (set marks t.0 true)) (get_or_append_left order (t ∷ []) d i b)
          ∙ get_or-set_other marks t.0 (get_or order i d).0 true false (other i d b) ∙ p.placed i d b
      | inr g ↦
          let e : length order ≡ i = (let k = length_push order t in omega arith) in
          ap (is_marked (set marks t.0 true)) (get_or_push order t d i e)
          ∙ get_or-set_same marks t.0 true false (let k = p.fits in omega arith)
    ];
  })
    where
      other : (i : ℕ) (d : TypeId) → i < length order → (get_or order i d).0 ≢ t.0
      other i d b e = true≢false (sym (p.placed i d b) ∙ ap (λ k. get_or marks k false) e ∙ f)

  pub placing_start : (places : List ℕ) (marks : List Bool) → length places ≡ length table → length marks ≡ length table → ((i : ℕ) → get_or marks i false ≡ false)
      → IsPlacing table [] places marks
  placing_start places marks a b c = record {
    so_far = record {
      types = λ i d l. absurd (omega arith);
      fits = a;
      placed = λ i d l. absurd (omega arith);
      parts = λ i d p l k. absurd (omega arith);
    };
    fits = b;
    marked = λ t m. absurd (true≢false (sym m ∙ c t.0));
    placed = λ i d l. absurd (omega arith);
  }

  -- where each type is done, all are placed
  placed_below : (w : IsWellFormed table) (marks : List Bool) → ((t : TypeId) → IsType table t → is_done table marks t ≡ true)
      → (n : ℕ) (t : TypeId) → w.order.0 t < n → IsType table t → is_marked marks t ≡ true
  placed_below w marks h zero t l ty = absurd (omega arith)
  placed_below w marks h (suc n) t l ty =
      by (is_marked marks t) refl (h t ty)
      (all_from marks (parts_at table t) (λ q c. let f = w.order.1.falls t q c in placed_below w marks h n q (omega arith) (is_type q (All-contains (IsComplete table) (parts_at table t) q (w.each t).parts c))))
    where
      is_type : (q : TypeId) → IsComplete table q → IsType table q
      is_type q c = elim (cases_lt q.0 (length table)) [
        | inl b ↦ b
        | inr g ↦ absurd (true≢false (sym c ∙ ap is_complete (get_or_past table q.0 void_entry g)))
      ]

      by : (b : Bool) → is_marked marks t ≡ b → (if b then true else not (list_all (is_marked marks) (parts_at table t))) ≡ true
          → list_all (is_marked marks) (parts_at table t) ≡ true → is_marked marks t ≡ true
      by true e k a = e
      by false e k a = absurd (true≢false (sym k ∙ ap not a))

  pub whole_order : (w : IsWellFormed table) (order : List TypeId) (places : List ℕ) (marks : List Bool) → IsPlacing table order places marks
      → ((t : TypeId) → IsType table t → is_done table marks t ≡ true) → IsWholeOrder table order places
  whole_order w order places marks p h = record {
    right = p.so_far;
    whole = λ t ty. p.marked t (placed_below w marks h (suc (w.order.0 t)) t (omega arith) ty);
  }

-- one step more of a round
pub round_step : (table : Table) (old mid new : List Bool) (n : ℕ) (changed step : Bool) → RoundSteps table old mid n changed → Steps mid new step
    → is_done table new (record { 0 = n }) ≡ true → RoundSteps table old new (n + 1) (changed || step)
round_step table old mid new n true true h k d = omega arith
round_step table old mid new n true false h k d = subst (λ ms. waiting ms < waiting old) (sym k) h
round_step table old mid new n false true h k d = subst (λ ms. waiting new < waiting ms) h.0 k
round_step table old mid new n false false h k d = (
  k ∙ h.0,
  λ t l. elim (cases_lt t.0 n) [
    | inl b ↦ subst (λ ms. is_done table ms t ≡ true) (sym k) (h.1 t b)
    | inr g ↦ let e : n ≡ t.0 = omega arith in subst (λ (m : ℕ). is_done table new (record { 0 = m }) ≡ true) e d
  ],
)

pub round_all : (table : Table) (old new : List Bool) (n : ℕ) (changed : Bool) → length table ≤ n → RoundSteps table old new n changed → RoundSteps table old new (length table) changed
round_all table old new n true l h = h
round_all table old new n false l h = (h.0, λ t b. h.1 t (omega arith))

pub round_done : (table : Table) (old new : List Bool) (changed : Bool) → changed ≡ false → RoundSteps table old new (length table) changed → (t : TypeId) → IsType table t → is_done table new t ≡ true
round_done table old new true e h t l = absurd (true≢false e)
round_done table old new false e h t l = h.1 t l

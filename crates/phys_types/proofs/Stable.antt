-- Numbers that physically equal types share tell physical equality where types of one number are made alike.
use Rattle.std.specs.Prelude.{IsTrue}
use Rattle.std.proofs.Common.{◌≡◌, ℕ, ◌+◌, ◌<◌, ◌≤◌, Bool, true, false, ◌&&◌, if◌then◌else◌, nat_lt, List, [], ◌∷◌, ◌++◌, length, get_or, map, Option, Some, refl, ap, sym, subst, ◌∙◌, inl, inr, arith}
use Rattle.std.specs.List.{Contains}
use Rattle.std.specs.Cmp.{IsEquivalence}
use Rattle.std.proofs.lemmas.Bool.{cases_lt}
use Rattle.std.proofs.lemmas.Bool.Decides.{Decides-eqb, nat_tests}
use Rattle.std.proofs.lemmas.List.{get_or_append_left, get_or_push, length_push, get_or_default}
use Rattle.cc_base.specs.declared.number.TypeId.{TypeId}
use Rattle.c_types.specs.Table.{Table, IsType}
use Rattle.c_types.specs.Cells.{Relation, same_type}
use Rattle.c_types.specs.Equality.{physically_equal, made_alike, within}
use Rattle.c_types.specs.Sound.{IsWellFormed}
use Rattle.type_laws.proofs.Levels.{widest}
use Rattle.phys_types.specs.declared.keeping.Repeated.{Repeated}
use Rattle.phys_types.specs.Numbers.{number_in, same_number}
use Rattle.phys_types.specs.Orders.{IsWholeOrder}
use Rattle.phys_types.specs.Refining.{IsCoarser, IsWide}
use Rattle.phys_types.specs.Rounds.{AreShown, AreStable, AreSettled}
use Rattle.phys_types.specs.Shown.{all_size, all_spots, IsKeptOf, IsKept}
use Rattle.phys_types.specs.Signatures.{mixed, front_form, front_targets}
use Rattle.phys_types.specs.Turning.{list_in, RespectEqual}
use Rattle.std.specs.Prelude.{Vec}
use Rattle.std.specs.Global.{Global}
use Rattle.phys_types.proofs.Agreeing.{made_agree}
use Rattle.phys_types.proofs.Kept.{kept_spots}
use Rattle.phys_types.proofs.Refined.{equal_look, wide_numbers}
use Rattle.phys_types.proofs.Settled.{within_is, shown_agree}
use Rattle.phys_types.proofs.Signing.{signed}
use Rattle.phys_types.proofs.Turned.{coarser_by}
use Rattle.phys_types.proofs.Unions.{same_answer}
use Rattle.phys_types.proofs.Viewing.{order_closed, place_of}

-- one more layout is shown
pub shown_more : (table : Table) (E : Relation) (order : List TypeId) (i : ℕ) (d : TypeId) (layouts more : List Repeated) (layout : Repeated) → i < length order → length layouts ≡ i
    → more ≡ layouts ++ layout ∷ [] → IsKeptOf table E (get_or order i d) layout → AreShown table E order layouts → AreShown table E order more
shown_more table E order i d layouts more layout l f m h s k e x b = elim (cases_lt k i) [
  | inl c ↦
      subst (λ xs. IsKeptOf table E (get_or order k e) (get_or xs k x)) (sym m)
      (subst (IsKeptOf table E (get_or order k e)) (sym (get_or_append_left layouts (layout ∷ []) x k (omega arith))) (s k e x (omega arith)))
  | inr c ↦
      let g : i ≡ k = (let z = ap length m ∙ length_push layouts layout in omega arith) in
      subst (λ j. IsKeptOf table E (get_or order j e) (get_or more j x)) g
      (subst (λ u. IsKeptOf table E u (get_or more i x)) (get_or_default order i d e l)
      (subst (λ xs. IsKeptOf table E (get_or order i d) (get_or xs i x)) (sym m)
      (subst (IsKeptOf table E (get_or order i d)) (sym (get_or_push layouts layout x i f)) h)))
]

module _ (table : Table) (w : IsWellFormed table) (order : List TypeId) (places : List ℕ) (o : IsWholeOrder table order places) where
  module _ (layouts : List Repeated) (all : length layouts ≡ length order) where
    pub all_kept : (t : TypeId) → IsType table t → IsKept places layouts t
    all_kept t h = let p = place_of table order places o t h in let f = o.right.fits in (omega arith, let e = p.3 in let l = p.1 in omega arith)

    abbrev at : Repeated → TypeId → Repeated
    at d t = get_or layouts (get_or places t.0 0) d

    shown_at : (E : Relation) → AreShown table E order layouts → (d : Repeated) (t : TypeId) → IsType table t → IsKeptOf table E t (at d t)
    shown_at E s d t h =
        let p = place_of table order places o t h in
        subst (λ n. IsKeptOf table E t (get_or layouts n d)) (sym p.3)
        (subst (λ u. IsKeptOf table E u (get_or layouts p.0 d)) p.2 (s p.0 t d (let l = p.1 in omega arith)))

    some : (ls : List Repeated) → 0 < length ls → Repeated
    some [] h = absurd (omega arith)
    some (x ∷ ls) h = x

    one : (t : TypeId) → IsType table t → Repeated
    one t h = some layouts (let p = place_of table order places o t h in let l = p.1 in omega arith)

    module _ (E : Relation) (wide : IsWide table E) (s : AreShown table E order layouts) (limit : ℕ) where
      -- physically equal types look alike by their first spots
      fronts_alike : (ns : List ℕ) → IsCoarser table ns → (d : Repeated) (t u : TypeId) → IsType table t → IsType table u → IsTrue (physically_equal table t u)
          → (front_form table limit t (at d t) ≡ front_form table limit u (at d u))
          × (map (number_in ns) (front_targets table limit t (at d t)) ≡ map (number_in ns) (front_targets table limit u (at d u)))
      fronts_alike ns c d t u a b h =
          let x = shown_at E s d t a in
          let y = shown_at E s d u b in
          signed table E (number_in ns) t u (all_size (at d t)) (all_size (at d u)) limit (all_spots (at d t)) (all_spots (at d u))
          (kept_spots table E t (at d t) x) x.cells (kept_spots table E u (at d u) y) y.cells
          (equal_look table w E (same_number (number_in ns)) wide (wide_numbers table w ns c) t u h)

      pub respects : (targets : List (Vec TypeId Global)) → ((d : Repeated) (t : TypeId) → IsType table t → list_in targets t ≡ front_targets table limit t (get_or layouts (get_or places t.0 0) d))
          → RespectEqual table targets
      respects targets r ns c t u a b h =
          let d = one t a in
          ap (λ xs. map (number_in ns) xs) (r d t a) ∙ (fronts_alike ns c d t u a b h).1 ∙ ap (λ xs. map (number_in ns) xs) (sym (r d u b))

      pub coarser_forms : (numbers forms : List ℕ) → IsCoarser table numbers
          → ((d : Repeated) (t : TypeId) → IsType table t → number_in forms t ≡ mixed (number_in numbers t) (front_form table limit t (get_or layouts (get_or places t.0 0) d)))
          → IsCoarser table forms
      coarser_forms numbers forms c r = coarser_by table w forms (number_in forms) (λ u l. refl) (λ t u a b h.
          let d = one t a in
          r d t a ∙ (λ i. mixed (one_number t u h i) ((fronts_alike numbers c d t u a b h).0 i)) ∙ sym (r d u b))
        where
          one_number : (t u : TypeId) → IsTrue (physically_equal table t u) → number_in numbers t ≡ number_in numbers u
          one_number t u h = (Decides-eqb (number_in numbers t) (number_in numbers u)).0 (c t u h)

  module _ (numbers : List ℕ) (layouts : List Repeated) (all : length layouts ≡ length order) (shown : AreShown table (same_number (number_in numbers)) order layouts)
      (c : IsCoarser table numbers) (stable : AreStable table order numbers) where
    abbrev N : Relation
    N = same_number (number_in numbers)

    agrees : (t u : TypeId) → Contains order t → Contains order u → N t u ≡ within table N t u
    agrees t u a b = sym (within_is table w order places o.right (order_closed table order places o w) N t u a b)

    -- types of one number are made alike, with pointees of one number
    step : (t u : TypeId) → within table N t u ≡ true → within table (made_alike table (within table N)) t u ≡ true
    step t u = by (nat_lt t.0 (length table)) (nat_lt u.0 (length table)) refl refl
      where
        typed : (x : TypeId) → nat_lt x.0 (length table) ≡ true → IsType table x
        typed x e = grind (arith, nat_tests)

        by : (a b : Bool) → nat_lt t.0 (length table) ≡ a → nat_lt u.0 (length table) ≡ b → (if a && b then N t u else same_type t u) ≡ true
            → (if a && b then made_alike table (within table N) t u else same_type t u) ≡ true
        by true true x y h =
            let here = o.whole t (typed t x) in let there = o.whole u (typed u y) in
            sym (made_agree table w (Contains order) (order_closed table order places o w) N (within table N) agrees t u here there)
            ∙ stable t u here there h
        by true false x y h = h
        by false true x y h = h
        by false false x y h = h

    told : (t u : TypeId) → Contains order t → Contains order u → N t u ≡ physically_equal table t u
    told t u a b = same_answer (N t u) (physically_equal table t u) (λ h. widest table w (within table N) step t u (sym (agrees t u a b) ∙ h)) (c t u)

    pub settled_stable : AreSettled table order numbers layouts
    settled_stable = record {
      equal = told;
      all = all;
      shown = λ E g. shown_agree table w order places o.right (order_closed table order places o w) N E layouts all (λ t u a b. told t u a b ∙ sym (g t u a b)) shown;
    }

-- ---- each type is compared with the first of its number

-- what is known of the first i types, by the places that are kept for numbers
abbrev pub AreCompared : Relation → List TypeId → List ℕ → (ℕ → Option ℕ) → ℕ → Type 0
AreCompared R order numbers kept n =
    (i : ℕ) (d : TypeId) → i < n → (k : ℕ) × (kept (number_in numbers (get_or order i d)) ≡ Some k) × IsTrue (R (get_or order k d) (get_or order i d))

pub compared_more : (R : Relation) (order : List TypeId) (numbers : List ℕ) (old new : ℕ → Option ℕ) (i first number : ℕ) (d : TypeId) → i < length order
    → number ≡ number_in numbers (get_or order i d) → new number ≡ Some first → ((n k : ℕ) → old n ≡ Some k → new n ≡ Some k)
    → ((e : TypeId) → IsTrue (R (get_or order first e) (get_or order i e))) → AreCompared R order numbers old i → AreCompared R order numbers new (i + 1)
compared_more R order numbers old new i first number d l n here kept alike inv j e b = elim (cases_lt j i) [
  | inl a ↦ let h = inv j e a in (h.0, kept (number_in numbers (get_or order j e)) h.0 h.1, h.2)
  | inr a ↦
      let q : i ≡ j = omega arith in
      subst (λ m. (k : ℕ) × (new (number_in numbers (get_or order m e)) ≡ Some k) × IsTrue (R (get_or order k e) (get_or order m e))) q
      (first, ap new (ap (number_in numbers) (get_or_default order i e d l) ∙ sym n) ∙ here, alike e)
]

pub compared_all : (R : Relation) → IsEquivalence R → (order : List TypeId) (numbers : List ℕ) (kept : ℕ → Option ℕ) (n : ℕ) → length order ≤ n → AreCompared R order numbers kept n
    → (t u : TypeId) → Contains order t → Contains order u → IsTrue (same_number (number_in numbers) t u) → IsTrue (R t u)
compared_all R q order numbers kept n l inv t u (i, a, e) (j, b, f) h =
    let x = inv i t (omega arith) in
    let y = inv j t (omega arith) in
    let g : get_or order j t ≡ u = get_or_default order j t u b ∙ f in
    let k : number_in numbers t ≡ number_in numbers u = (Decides-eqb (number_in numbers t) (number_in numbers u)).0 h in
    let m : x.0 ≡ y.0 = one (sym x.1 ∙ ap (λ z. kept (number_in numbers z)) e ∙ ap kept k ∙ ap (λ z. kept (number_in numbers z)) (sym g) ∙ y.1) in
    let c : R (get_or order x.0 t) t ≡ true = subst (λ z. R (get_or order x.0 t) z ≡ true) e x.2 in
    let d : R (get_or order y.0 t) u ≡ true = subst (λ z. R (get_or order y.0 t) z ≡ true) g y.2 in
    sym (q.congr (get_or order x.0 t) t u c) ∙ ap (λ (p : ℕ). R (get_or order p t) u) m ∙ d
  where
    one : {a b : ℕ} → Some a ≡ Some b → a ≡ b
    one h = cc h

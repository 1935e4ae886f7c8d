-- Lists of the types that point to a type.
use Rattle.std.specs.Prelude.{slice_set, slice_get, Vec}
use Rattle.std.specs.Global.{Global}
use Rattle.std.proofs.Common.{◌≡◌, ◌≢◌, ℕ, zero, suc, ◌+◌, ◌<◌, ◌≤◌, inl, inr, Some, List, [], ◌∷◌, ◌++◌, length, get_or, take, drop, refl, ap, sym, subst, ◌∙◌, ⊎_elim, arith}
use Rattle.std.specs.List.{Contains}
use Rattle.std.proofs.lemmas.Bool.{cases_lt}
use Rattle.std.proofs.lemmas.List.Elements.{Contains-append_left, Contains-append_right}
use Rattle.std.proofs.lemmas.Bool.Decides.{eqb_tells}
use Rattle.std.proofs.lemmas.List.{take_more, get_or-set_same, length-set, get_or_append_left, get_or_push}
use Rattle.std.proofs.lemmas.Option.{slice_get-get_or}
use Rattle.cc_base.specs.declared.number.TypeId.{TypeId}
use Rattle.phys_types.specs.declared.numbered.Numbered.{Numbered}
use Rattle.phys_types.specs.Numbers.{number_in}
use Rattle.phys_types.specs.Turning.{list_in, items_in, HaveAll, HasType}
use Rattle.phys_types.proofs.Turned.{append_cases, one_of, at_head}

abbrev pub Lists : Type 0
Lists = List (Vec TypeId Global)

set_other : (xs : Lists) (i j : ℕ) (v : Vec TypeId Global) → j ≢ i → slice_get (slice_set xs i v) j ≡ slice_get xs j
set_other [] i j v n = refl
set_other (x ∷ xs) zero zero v n = absurd (n refl)
set_other (x ∷ xs) zero (suc j) v n = refl
set_other (x ∷ xs) (suc i) zero v n = refl
set_other (x ∷ xs) (suc i) (suc j) v n = set_other xs i j v (λ e. n (ap suc e))

module _ (old : Lists) (to : TypeId) (v : Vec TypeId Global) (l : to.0 < length old) where
  set_same : list_in (slice_set old to.0 v) to ≡ v.items
  set_same =
      let k : length (slice_set old to.0 v) ≡ length old = length-set old to.0 v in
      ap items_in (slice_get-get_or (slice_set old to.0 v) to.0 v (omega arith) ∙ ap Some (get_or-set_same old to.0 v v l))

  -- a list is longer
  pub have_set : ((x : TypeId) → Contains (list_in old to) x → Contains v.items x) → HaveAll old (slice_set old to.0 v)
  have_set h x t c = elim (eqb_tells x.0 to.0) [
    | inl s ↦
        let e : x ≡ to = ap (λ (n : ℕ). record { 0 = n }) s.1 in
        subst (λ y. Contains (list_in (slice_set old to.0 v) y) t) (sym e)
        (subst (λ xs. Contains xs t) (sym set_same) (h t (subst (λ y. Contains (list_in old y) t) e c)))
    | inr n ↦ subst (λ o. Contains (items_in o) t) (sym (set_other old to.0 x.0 v n.1)) c
  ]

  pub has_set : (t : TypeId) → Contains v.items t → Contains (list_in (slice_set old to.0 v) to) t
  has_set t c = subst (λ xs. Contains xs t) (sym set_same) c

-- the list that is read at a place
pub list_at : (ls : Lists) (to : TypeId) (v : Vec TypeId Global) → to.0 < length ls → list_in ls to ≡ (get_or ls to.0 v).items
list_at ls to v l = ap items_in (slice_get-get_or ls to.0 v l)

-- one more is read
pub read_more : (targets : List TypeId) (i : ℕ) (d t : TypeId) (start now new : Lists) → i < length targets → HaveAll now new → length now ≡ length start
    → ((get_or targets i d).0 < length now → Contains (list_in new (get_or targets i d)) t)
    → ((to : TypeId) → Contains (take i targets) to → to.0 < length start → Contains (list_in now to) t)
    → (to : TypeId) → Contains (take (i + 1) targets) to → to.0 < length start → Contains (list_in new to) t
read_more targets i d t start now new l k f added inv to c b = ⊎_elim
    (λ a. k to t (inv to a b))
    (λ a. let e = one_of (get_or targets i d) to a in
    subst (λ y. Contains (list_in new y) t) e (added (let m = subst (λ (y : TypeId). y.0 < length start) (sym e) b in omega arith)))
    (append_cases (take i targets) (get_or targets i d ∷ []) to (subst (λ xs. Contains xs to) (take_more targets i d l) c))

pub have_twice : (a b c : Lists) → HaveAll a b → HaveAll b c → HaveAll a c
have_twice a b c h k x t d = k x t (h x t d)

-- a list that is written over all of another
pub written_all : (xs items : Lists) (n : ℕ) → length xs ≡ length items → n ≡ length items → take n (xs ++ drop (length xs) items) ≡ xs
written_all [] [] zero e f = refl
written_all [] [] (suc n) e f = refl
written_all [] (y ∷ items) n e f = absurd (omega arith)
written_all (x ∷ xs) [] n e f = absurd (omega arith)
written_all (x ∷ xs) (y ∷ items) zero e f = absurd (omega arith)
written_all (x ∷ xs) (y ∷ items) (suc n) e f = ap (λ zs. x ∷ zs) (written_all xs items n (omega arith) (omega arith))

same_type : (t : TypeId) (i : ℕ) → t.0 < i + 1 → i ≤ t.0 → t ≡ record { 0 = i }
same_type t i l m = let e : t.0 ≡ i = omega arith in ap (λ (n : ℕ). record { 0 = n }) e

-- the readers of one more type
pub readers_more : (targets : Lists) (count i : ℕ) (now before new : Lists) (list : List TypeId) → before ≡ now → list ≡ list_in targets (record { 0 = i }) → HaveAll before new
    → ((to : TypeId) → Contains list to → to.0 < length before → Contains (list_in new to) (record { 0 = i })) → length now ≡ count
    → ((t to : TypeId) → t.0 < i → to.0 < count → Contains (list_in targets t) to → Contains (list_in now to) t)
    → (t to : TypeId) → t.0 < i + 1 → to.0 < count → Contains (list_in targets t) to → Contains (list_in new to) t
readers_more targets count i now before new list v k kept added fits inv t to l b h = elim (cases_lt t.0 i) [
  | inl a ↦ kept to t (subst (λ (xs : Lists). Contains (list_in xs to) t) (sym v) (inv t to a b h))
  | inr a ↦
      let e = same_type t i l a in
      let z = ap length v in
      subst (λ y. Contains (list_in new to) y) (sym e)
      (added to (subst (λ xs. Contains xs to) (sym k) (subst (λ y. Contains (list_in targets y) to) e h)) (omega arith))
]

-- one more type
pub all_more : (es new : List Numbered) (i : ℕ) → new ≡ es ++ record { ty = record { 0 = i }; number = 0 } ∷ [] → ((t : TypeId) → t.0 < i → HasType es t)
    → (t : TypeId) → t.0 < i + 1 → HasType new t
all_more es new i e inv t l = elim (cases_lt t.0 i) [
  | inl a ↦ let h = inv t a in (h.0, subst (λ xs. Contains xs h.0) (sym e) (Contains-append_left es (last ∷ []) h.0 h.1), h.2)
  | inr a ↦ (last, subst (λ xs. Contains xs last) (sym e) (Contains-append_right es (last ∷ []) last (at_head last [])), sym (same_type t i l a))
]
  where
    last : Numbered
    last = record { ty = record { 0 = i }; number = 0 }

get_left : (ls more : Lists) (j : ℕ) → j < length ls → slice_get (ls ++ more) j ≡ slice_get ls j
get_left [] more j l = absurd (omega arith)
get_left (x ∷ ls) more zero l = refl
get_left (x ∷ ls) more (suc j) l = get_left ls more j (omega arith)

get_last : (ls : Lists) (v : Vec TypeId Global) (j : ℕ) → length ls ≡ j → slice_get (ls ++ v ∷ []) j ≡ Some v
get_last [] v zero l = refl
get_last [] v (suc j) l = absurd (omega arith)
get_last (x ∷ ls) v zero l = absurd (omega arith)
get_last (x ∷ ls) v (suc j) l = get_last ls v j (omega arith)

-- one more list
pub lists_more : (ls new : Lists) (i : ℕ) (v : Vec TypeId Global) (T : TypeId → List TypeId) → length ls ≡ i → new ≡ ls ++ v ∷ [] → v.items ≡ T (record { 0 = i })
    → ((t : TypeId) → t.0 < i → list_in ls t ≡ T t) → (t : TypeId) → t.0 < i + 1 → list_in new t ≡ T t
lists_more ls new i v T f e r inv t l = elim (cases_lt t.0 i) [
  | inl a ↦ ap (λ (xs : Lists). list_in xs t) e ∙ ap items_in (get_left ls (v ∷ []) t.0 (omega arith)) ∙ inv t a
  | inr a ↦
      let q = same_type t i l a in
      ap (λ (xs : Lists). list_in xs t) e ∙ ap (λ y. list_in (ls ++ v ∷ []) y) q ∙ ap items_in (get_last ls v i f) ∙ r ∙ ap T (sym q)
]

-- a number for one more type
pub numbers_more : (old new : List ℕ) (i n : ℕ) (F : TypeId → ℕ) → length old ≡ i → new ≡ old ++ n ∷ [] → n ≡ F (record { 0 = i })
    → ((t : TypeId) → t.0 < i → number_in old t ≡ F t) → (t : TypeId) → t.0 < i + 1 → number_in new t ≡ F t
numbers_more old new i n F f e h inv t l = elim (cases_lt t.0 i) [
  | inl a ↦ ap (λ (xs : List ℕ). get_or xs t.0 0) e ∙ get_or_append_left old (n ∷ []) 0 t.0 (omega arith) ∙ inv t a
  | inr a ↦
      let s = same_type t i l a in
      ap (λ (xs : List ℕ). get_or xs t.0 0) e ∙ ap (λ (u : TypeId). get_or (old ++ n ∷ []) u.0 0) s ∙ get_or_push old n 0 i f ∙ h ∙ ap F (sym s)
]

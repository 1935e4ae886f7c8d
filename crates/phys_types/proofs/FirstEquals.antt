-- The first type with each number, found one type after another.
use Rattle.std.specs.Prelude.{IsTrue}
use Rattle.std.proofs.Common.{◌≡◌, ℕ, ◌+◌, ◌<◌, ◌≤◌, ◌⊎◌, inl, inr, List, [], ◌∷◌, ◌++◌, length, get_or, Option, None, Some, refl, ap, sym, subst, ◌∙◌, ⊎_elim, arith}
use Rattle.std.proofs.lemmas.Bool.{cases_lt}
use Rattle.std.proofs.lemmas.Bool.Decides.{Decides-eqb}
use Rattle.std.proofs.lemmas.List.{get_or_append_left, get_or_push, length_push}
use Rattle.cc_base.specs.declared.number.TypeId.{TypeId}
use Rattle.c_types.specs.Table.{Table, IsType}
use Rattle.c_types.specs.Equality.{physically_equal}
use Rattle.type_laws.proofs.Relations.{equal_equiv}
use Rattle.phys_types.specs.Firsts.{AreFirstsWith, AreFirstEquals}
use Rattle.phys_types.specs.Numbers.{number_in, same_number}

-- what is known of the first n types: the first with the number of each is kept for the number, and what is kept is the first
pub record AreFirsts (number : TypeId → ℕ) (kept : ℕ → Option TypeId) (firsts : List TypeId) (n : ℕ) : Type 0 where
  pub count : length firsts ≡ n
  pub held : (t d : TypeId) → t.0 < n → kept (number t) ≡ Some (get_or firsts t.0 d)
  pub right : (m : ℕ) (f : TypeId) → kept m ≡ Some f → (number f ≡ m) × ((u : TypeId) → number u ≡ m → f.0 ≤ u.0)

same_id : (t : TypeId) (n : ℕ) → t.0 ≡ n → t ≡ record { 0 = n }
same_id t n e = ap (λ (k : ℕ). record { 0 = k }) e

module _ (number : TypeId → ℕ) (old new : ℕ → Option TypeId) (firsts more : List TypeId) (n m : ℕ) (f : TypeId) (inv : AreFirsts number old firsts n)
    (is : m ≡ number (record { 0 = n })) (here : new m ≡ Some f) (still : (k : ℕ) (g : TypeId) → old k ≡ Some g → new k ≡ Some g)
    (only : (k : ℕ) (g : TypeId) → new k ≡ Some g → (old k ≡ Some g) ⊎ ((k ≡ m) × (g ≡ record { 0 = n }) × (old m ≡ None)))
    (pushed : more ≡ firsts ++ f ∷ []) where
  held_more : (t d : TypeId) → t.0 < n + 1 → new (number t) ≡ Some (get_or more t.0 d)
  held_more t d l = elim (cases_lt t.0 n) [
    | inl a ↦
        let c = inv.count in
        still (number t) (get_or firsts t.0 d) (inv.held t d a)
        ∙ ap Some (sym (ap (λ xs. get_or xs t.0 d) pushed ∙ get_or_append_left firsts (f ∷ []) d t.0 (omega arith)))
    | inr a ↦
        let q : t.0 ≡ n = omega arith in
        ap (λ u. new (number u)) (same_id t n q) ∙ ap new (sym is) ∙ here
        ∙ ap Some (sym (ap (λ xs. get_or xs t.0 d) pushed ∙ ap (λ k. get_or (firsts ++ f ∷ []) k d) q ∙ get_or_push firsts f d n inv.count))
  ]

  -- a number for which nothing is kept is no number of an earlier type
  not_before : old m ≡ None → (u : TypeId) → number u ≡ m → n ≤ u.0
  not_before e u h = elim (cases_lt u.0 n) [
    | inl a ↦ absurd (none (sym e ∙ ap old (sym h) ∙ inv.held u u a))
    | inr a ↦ a
  ]
    where
      none : {x : TypeId} → None ≡ Some x → ⊥
      none h = cc

  right_more : (k : ℕ) (g : TypeId) → new k ≡ Some g → (number g ≡ k) × ((u : TypeId) → number u ≡ k → g.0 ≤ u.0)
  right_more k g e = ⊎_elim (λ a. inv.right k g a) (λ b. (
    ap number b.1 ∙ sym is ∙ sym b.0,
    λ u h. subst (λ (x : TypeId). x.0 ≤ u.0) (sym b.1) (not_before b.2 u (h ∙ b.0)),
  )) (only k g e)

  pub firsts_more : AreFirsts number new more (n + 1)
  firsts_more = record {
    count = ap length pushed ∙ length_push firsts f ∙ ap (λ k. k + 1) inv.count;
    held = held_more;
    right = right_more;
  }

pub firsts_told : (number : TypeId → ℕ) (kept : ℕ → Option TypeId) (firsts : List TypeId) (n m : ℕ) → n ≡ m → AreFirsts number kept firsts n → AreFirstsWith number m firsts
firsts_told number kept firsts n m e inv = record {
  count = inv.count ∙ e;
  first = λ t d l.
      let r = inv.right (number t) (get_or firsts t.0 d) (inv.held t d (omega arith)) in
      record { same = r.0; first = r.1 };
}

-- where numbers tell physical equality
pub first_equals_told : (table : Table) (numbers : List ℕ) (firsts : List TypeId)
    → ((t u : TypeId) → IsType table t → IsType table u → same_number (number_in numbers) t u ≡ physically_equal table t u)
    → AreFirstsWith (number_in numbers) (length table) firsts → AreFirstEquals table firsts
first_equals_told table numbers firsts equal a = record {
  count = a.count;
  first = λ t d h.
      let f = a.first t d h in
      let low : (get_or firsts t.0 d).0 ≤ t.0 = f.first t refl in
      let typed : IsType table (get_or firsts t.0 d) = omega arith in
      record {
        equal = sym (equal t (get_or firsts t.0 d) h typed) ∙ (Decides-eqb (number_in numbers t) (number_in numbers (get_or firsts t.0 d))).1 (sym f.same);
        first = λ u k e. f.first u (sym ((Decides-eqb (number_in numbers t) (number_in numbers u)).0 (equal t u h k ∙ e)));
      };
}

-- physically equal types have one first type
pub one_first : (table : Table) (firsts : List TypeId) → AreFirstEquals table firsts → (t u d e : TypeId) → IsType table t → IsType table u → IsTrue (physically_equal table t u)
    → get_or firsts t.0 d ≡ get_or firsts u.0 e
one_first table firsts a t u d e h k s =
    let f = a.first t d h in
    let g = a.first u e k in
    let q = equal_equiv table in
    let low : (get_or firsts t.0 d).0 ≤ t.0 = f.first t h (q.refl t) in
    let less : (get_or firsts u.0 e).0 ≤ u.0 = g.first u k (q.refl u) in
    let m : (get_or firsts t.0 d).0 ≤ (get_or firsts u.0 e).0 = f.first (get_or firsts u.0 e) (omega arith) (q.congr t u (get_or firsts u.0 e) s ∙ g.equal) in
    let n : (get_or firsts u.0 e).0 ≤ (get_or firsts t.0 d).0 = g.first (get_or firsts t.0 d) (omega arith) (q.congr u t (get_or firsts t.0 d) (q.symm u t ∙ s) ∙ f.equal) in
    let z : (get_or firsts t.0 d).0 ≡ (get_or firsts u.0 e).0 = omega arith in
    ap (λ (i : ℕ). record { 0 = i }) z

pub first_typed : (table : Table) (firsts : List TypeId) → AreFirstEquals table firsts → (t d : TypeId) → IsType table t → IsType table (get_or firsts t.0 d)
first_typed table firsts a t d h =
    let low : (get_or firsts t.0 d).0 ≤ t.0 = (a.first t d h).first t h ((equal_equiv table).refl t) in
    omega arith

use Rattle.std.proofs.Common.{◌≡◌, ◌≢◌, ℕ, zero, suc, ◌+◌, ◌<◌, ◌≤◌, true, false, cond, length, ap, sym, subst, ◌∙◌, inl, inr, eqb, true≢false, arith}
use Rattle.std.specs.List.{Contains, All}
use Rattle.std.proofs.lemmas.Bool.Decides.{eqb_tells}
use Rattle.std.proofs.lemmas.List.Elements.{All-weaker, All-contains}
use Rattle.cc_base.specs.declared.number.TypeId.{TypeId}
use Rattle.c_types.specs.Table.{Table, Entry, entry_at, shape_at, members_at, parts_of_shape, parts_at, IsRanked, IsType, IsComplete, is_complete, complete_count}
use Rattle.c_types.specs.Layouts.{layout_of_shape, layout_of}
use Rattle.c_types.specs.Sound.{IsFormed}
use Rattle.c_types.proofs.Descent.{layout_is, layout_local}

-- A table changes at one place, where no complete type was: a type is added or defined.

pub record Changes (old new : Table) (t : TypeId) (e : Entry) : Type 0 where
  pub here : entry_at new t ≡ e
  pub other : (u : TypeId) → u.0 ≢ t.0 → entry_at new u ≡ entry_at old u
  pub vague : is_complete (entry_at old t) ≡ false
  pub longer : length old ≤ length new
  pub count : complete_count new ≡ complete_count old + cond (is_complete e) 1 0
  pub parts : All (IsComplete old) (parts_of_shape e.shape e.members)

module _ (old new : Table) (t : TypeId) (e : Entry) (c : Changes old new t e) where
  -- a type that was complete is another one
  pub not_here : (u : TypeId) → IsComplete old u → u.0 ≢ t.0
  not_here u h s = true≢false (sym h ∙ ap (λ (i : ℕ). is_complete (entry_at old (record { 0 = i }))) s ∙ c.vague)

  pub still_complete : (u : TypeId) → IsComplete old u → IsComplete new u
  still_complete u h = ap is_complete (c.other u (not_here u h)) ∙ h

  pub still_type : (u : TypeId) → IsType old u → IsType new u
  still_type u h = let l = c.longer in omega arith

  pub still_formed : (d : Entry) → IsFormed old d → IsFormed new d
  still_formed d f = record {
    proper = f.proper;
    named = All-weaker (IsType old) (IsType new) still_type _ f.named;
    parts = All-weaker (IsComplete old) (IsComplete new) still_complete _ f.parts;
    plain = f.plain;
  }

  -- the entry at t, by any name of t
  here_too : (u : TypeId) → u.0 ≡ t.0 → entry_at new u ≡ e
  here_too u s = ap (λ (i : ℕ). entry_at new (record { 0 = i })) s ∙ c.here

  pub each_formed : ((u : TypeId) → IsFormed old (entry_at old u)) → IsFormed old e → (u : TypeId) → IsFormed new (entry_at new u)
  each_formed each f u =
      elim (eqb_tells u.0 t.0) [
        | inl s ↦ subst (IsFormed new) (sym (here_too u s.1)) (still_formed e f)
        | inr n ↦ subst (IsFormed new) (sym (c.other u n.1)) (still_formed (entry_at old u) (each u))
      ]

  -- t is completed last
  pub rank_after : (TypeId → ℕ) → TypeId → ℕ
  rank_after rank u = cond (eqb u.0 t.0) (complete_count old) (rank u)

  rank_other : (rank : TypeId → ℕ) (u : TypeId) → u.0 ≢ t.0 → rank_after rank u ≡ rank u
  unfolding rank_after
  rank_other rank u n =
      elim (eqb_tells u.0 t.0) [
        | inl s ↦ absurd (n s.1)
        | inr m ↦ ap (λ b. cond b (complete_count old) (rank u)) m.0
      ]

  rank_here : (rank : TypeId → ℕ) (u : TypeId) → u.0 ≡ t.0 → rank_after rank u ≡ complete_count old
  unfolding rank_after
  rank_here rank u s =
      elim (eqb_tells u.0 t.0) [
        | inl m ↦ ap (λ b. cond b (complete_count old) (rank u)) m.0
        | inr n ↦ absurd (n.1 s)
      ]

  module _ (rank : TypeId → ℕ) (r : IsRanked old rank) (each : (u : TypeId) → IsFormed old (entry_at old u)) where
    grown : complete_count old ≤ complete_count new
    grown = let k = c.count in elim (is_complete e) as (λ b. complete_count new ≡ complete_count old + cond b 1 0 → complete_count old ≤ complete_count new) [ true ↦ λ h. omega arith | false ↦ λ h. omega arith ] k

    below_after : (u : TypeId) → rank_after rank u ≤ complete_count new
    below_after u =
        let g = grown in
        elim (eqb_tells u.0 t.0) [
          | inl s ↦ let h = rank_here rank u s.1 in omega arith
          | inr n ↦ let h = rank_other rank u n.1 in let b = r.below u in omega arith
        ]

    complete_after : (u : TypeId) → IsComplete new u → rank_after rank u < complete_count new
    complete_after u k =
        let g = grown in
        elim (eqb_tells u.0 t.0) [
          | inl s ↦ let h = rank_here rank u s.1 in
              let full : complete_count new ≡ complete_count old + 1 =
              c.count ∙ ap (λ b. complete_count old + cond b 1 0) (sym (ap is_complete (here_too u s.1)) ∙ k) in omega arith
          | inr n ↦ let h = rank_other rank u n.1 in
              let b = r.complete u (sym (ap is_complete (c.other u n.1)) ∙ k) in omega arith
        ]

    part_rank : (part : TypeId) → IsComplete old part → rank_after rank part ≡ rank part
    part_rank part k = rank_other rank part (not_here part k)

    falls_after : (u part : TypeId) → Contains (parts_at new u) part → rank_after rank part < rank_after rank u
    falls_after u part k =
        elim (eqb_tells u.0 t.0) [
          | inl s ↦
              let k2 = subst (λ (d : Entry). Contains (parts_of_shape d.shape d.members) part) (here_too u s.1) k in
              let full = All-contains (IsComplete old) (parts_of_shape e.shape e.members) part c.parts k2 in
              let h = rank_here rank u s.1 in let p = part_rank part full in let b = r.complete part full in omega arith
          | inr n ↦
              let k2 = subst (λ (d : Entry). Contains (parts_of_shape d.shape d.members) part) (c.other u n.1) k in
              let full = All-contains (IsComplete old) (parts_at old u) part (each u).parts k2 in
              let h = rank_other rank u n.1 in let p = part_rank part full in let b = r.falls u part k2 in omega arith
        ]

    pub ranked_after : IsRanked new (rank_after rank)
    ranked_after = record { below = below_after; complete = complete_after; falls = falls_after }

    -- the other types keep their layouts
    pub same_layout : (n : ℕ) (u : TypeId) → rank u < n → u.0 ≢ t.0 → layout_of new u ≡ layout_of old u
    same_layout zero u b m = absurd (omega arith)
    same_layout (suc n) u b m =
        layout_is new (rank_after rank) ranked_after u
        ∙ ap (λ (d : Entry). layout_of_shape (layout_of new) d.shape d.members) (c.other u m)
        ∙ layout_local (layout_of new) (layout_of old) (shape_at old u) (members_at old u)
        (λ part k.
        let full = All-contains (IsComplete old) (parts_at old u) part (each u).parts k in
        let f = r.falls u part k in
        same_layout n part (omega arith) (not_here part full))
        ∙ sym (layout_is old rank r u)

    pub layout_other : (u : TypeId) → u.0 ≢ t.0 → layout_of new u ≡ layout_of old u
    layout_other u m = same_layout (suc (rank u)) u (omega arith) m

    -- and the changed one has the layout of its entry
    pub layout_here : layout_of new t ≡ layout_of_shape (layout_of old) e.shape e.members
    layout_here =
        layout_is new (rank_after rank) ranked_after t
        ∙ ap (λ (d : Entry). layout_of_shape (layout_of new) d.shape d.members) c.here
        ∙ layout_local (layout_of new) (layout_of old) e.shape e.members
        (λ part k. layout_other part (not_here part (All-contains (IsComplete old) (parts_of_shape e.shape e.members) part c.parts k)))

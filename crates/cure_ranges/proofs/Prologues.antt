-- The lines of a prologue are in range.
use Rattle.std.specs.List.{filter_map, cons_option}
use Rattle.std.proofs.Common.{◌≡◌, ℕ, suc, ◌+◌, ◌<◌, ◌≤◌, List, [], ◌∷◌, length, map, slice_get, Option, None, Some, refl, ap, subst, inl, inr, arith}
use Rattle.std.proofs.lemmas.List.Sums.{sum_by-cons}
use Rattle.cc_base.specs.declared.number.TypeId.{TypeId}
use Rattle.cc_base.specs.declared.number.NodeId.{NodeId}
use Rattle.src_mem.specs.Memory.{Planned}
use Rattle.src_mem.specs.Runs.{planned}
use Rattle.src_mem.specs.Runs as runs
use Rattle.cil_form.specs.declared.program.Parameter.{Parameter}
use Rattle.cil_form.specs.declared.number.Object.TheVariants as object
use Rattle.cured_code.specs.declared.instr.Instr.{Instr}
use Rattle.check_forms.specs.Pieces.{Line, Then}
use Rattle.sim_relation.specs.Points.{KeptSlot, Start}
use Rattle.cure_rules.specs.Slots.{AreSlots, Address}
use Rattle.cure_rules.specs.Known.{World, kind_of, words_by, words_in}
use Rattle.cure_rules.specs.Accesses.{integer_stored}
use Rattle.cure_rules.specs.Functions.{AreSet, new_slots, StoresParameter, StoresNamed, AreStored, parameter_words}
use Rattle.cure_ranges.proofs.Fitting.{Fits, PointerFits, Around, names_at}
use Rattle.cure_ranges.proofs.Tests.{line, in_turn}
use Rattle.cure_ranges.proofs.Guards.{nought, sets, gets}
use Rattle.cure_ranges.proofs.Accesses.{integer_put, pointer_put}

-- the parameters that have names, as objects
abbrev pub named : List Parameter → List Planned
named xs = filter_map (λ (p : runs.Parameter). planned p.type p.home) (map (λ (x : Parameter). record { type = x.ty; home = x.home }) xs)

module _ (w : World) (s : AreSlots w.slots) (r : Around) (b n : ℕ) (deep : n + 4 ≤ 1024) where
  pub kept_set : (xs : List KeptSlot) (is : List Instr) → ((j : ℕ) (x : KeptSlot) → slice_get xs j ≡ Some x → x.slot < w.slots.count) → AreSet w xs is → Fits (names_at w r b n) is
  unfolding Line Then
  kept_set [] is l e = line (names_at w r b n) [] is e tt
  kept_set (x ∷ xs) is l (k, (y, z, h, rest, e)) =
      in_turn (names_at w r b n) y z is e (sets w s r b n x.content x.slot y (l 0 x refl) k h) (kept_set xs z (λ j v f. l (suc j) v f) rest)

  new_fits : (a : ℕ) → a < w.slots.count → PointerFits w.slots.count (new_slots w a)
  new_fits a l = record { first = l; second = l; third = nought w s }

  stores : (home : NodeId) (t : TypeId) (p k : ℕ) (is : List Instr) → p + words_in w.whole t ≤ w.slots.count → k < length w.variables → StoresParameter w home t p k is → Fits (names_at w r b n) is
  unfolding Line Then
  stores home t p k is l m (a, home', inl (i, plain, (y, z, g, e1, e))) =
      let words : words_in w.whole t ≡ 1 = ap (words_by w.whole.kind) plain.0 in
      let h = gets w s r b n Address (Start (object.Variable (record { 0 = k }))) a y m g in
      in_turn (names_at w r b n) y z is e h.0
      (line (names_at w r b n) (integer_stored (kind_of w home) i.bytes (new_slots w a) p) z e1 (integer_put w s r b n deep (kind_of w home) i.bytes (new_slots w a) p plain.1 (new_fits a h.1) (omega (arith, l, words))))
  stores home t p k is l m (a, home', inr (v, u, pointer, (y, z, g, put, e))) =
      let words = ap (words_by w.whole.kind) pointer in
      let h = gets w s r b n Address (Start (object.Variable (record { 0 = k }))) a y m g in
      in_turn (names_at w r b n) y z is e h.0 (pointer_put w s r b n deep (kind_of w home) (kind_of w v) (new_slots w a) p z (new_fits a h.1) (subst (λ x. p + x ≤ w.slots.count) words l) put)

  pub stored : (xs : List Parameter) (p k : ℕ) (is : List Instr) → p + parameter_words w.whole xs ≤ w.slots.count → k + length (named xs) ≤ length w.variables → AreStored w xs p k is → Fits (names_at w r b n) is
  unfolding Line Then
  stored [] p k is l m e = line (names_at w r b n) [] is e tt
  stored (x ∷ xs) p k is l m h = by x.home m (λ j z q g. stored xs (p + words_in w.whole x.ty) j z rest q g) h
    where
      words : parameter_words w.whole (x ∷ xs) ≡ words_in w.whole x.ty + parameter_words w.whole xs
      words = sum_by-cons (λ (y : Parameter). words_in w.whole y.ty) x xs

      here : p + words_in w.whole x.ty ≤ w.slots.count
      here = let e = words in omega (arith, l, e)

      rest : p + words_in w.whole x.ty + parameter_words w.whole xs ≤ w.slots.count
      rest = let e = words in omega (arith, l, e)

      by : (home : Option NodeId) → k + length (cons_option (planned x.ty home) (named xs)) ≤ length w.variables
          → ((j : ℕ) (z : List Instr) → j + length (named xs) ≤ length w.variables → AreStored w xs (p + words_in w.whole x.ty) j z → Fits (names_at w r b n) z)
          → StoresNamed w home x.ty p k (AreStored w xs (p + words_in w.whole x.ty)) is → Fits (names_at w r b n) is
      by None q more g = more k is q g
      by (Some home) q more (y, z, g, others, e) =
          in_turn (names_at w r b n) y z is e (stores home x.ty p k y here (omega (arith, q)) g) (more (suc k) z (omega (arith, q)) others)

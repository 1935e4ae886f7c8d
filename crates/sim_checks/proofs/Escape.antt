-- ESCAPE of a pointer that is stored through another: the depths of their words are in order as those of their objects.
use Rattle.std.proofs.Common.{◌≡◌, ◌∙◌, ℕ, zero, suc, ◌+◌, false, ◌&&◌, List, [], ◌∷◌, length, nat_le, nat_lt, slice_get, Some, refl, ap, sym, arith, if◌then◌else◌}
use Rattle.std.proofs.lemmas.Bool.Decides.{nat_tests}
use Rattle.cc_base.specs.declared.kind.Kind.{Kind}
use Rattle.cc_base.specs.declared.kind.Kind.TheVariants.{Safe, Seq, Rtti, Wild}
use Rattle.cc_base.specs.declared.number.TypeId.{TypeId}
use Rattle.flat_mem.specs.Memory.{Frame, depth_in, depth_of}
use Rattle.src_mem.specs.Pointers.{Location, Pointer, Null, Number, At, Function}
use Rattle.src_mem.specs.Memory as memory
use Rattle.src_mem.specs.Memory.{depth_of_object}
use Rattle.src_mem.specs.State as source
use Rattle.src_mem.specs.State.{Setting, Defined}
use Rattle.src_mem.specs.Checks.{Outlives, holds}
use Rattle.src_mem.specs.Facts.{IsHeldIn, IsSafeAt, IsTypedAt, IsSequenceAt, IsWildAt, IsFunctionOf}
use Rattle.src_mem.specs.Outlines.{Outline, outline, outlines_of}
use Rattle.src_mem.proofs.Outlines.{mapped-from, has-outline}
use Rattle.cured_code.specs.FlatState as flat
use Rattle.cured_code.specs.declared.parts.Parts.{Parts}
use Rattle.check_forms.specs.declared.slots.PointerSlots.{PointerSlots}
use Rattle.check_forms.specs.Conditions.{IsNoDeeper, flat_holds}
use Rattle.check_forms.specs.Rows.{home_slot}
use Rattle.sim_relation.specs.Ground.{address, second_word, place, natural}
use Rattle.sim_relation.specs.Objects.{flat_depth}
use Rattle.sim_relation.specs.Related.{Related, ground_of}
use Rattle.sim_checks.specs.Rows.{IsChecked, AreFunctionsApart}
use Rattle.sim_checks.proofs.Addresses.{IsThere, there}

-- no frame has the address 0
none-at_zero : (frames : List Frame) → depth_in frames 0 ≡ 0
none-at_zero [] = refl
none-at_zero (frame ∷ frames) =
    ap (λ b. if b && nat_le 0 frame.end then suc (length frames) else depth_in frames 0) (below frame.start) ∙ none-at_zero frames
  where
    below : (n : ℕ) → nat_lt n 0 ≡ false
    below n = grind (arith, nat_tests)

-- flat depths are in order as depths are
pub ordered-alike : (a b : ℕ) → nat_le (flat_depth a) (flat_depth b) ≡ nat_le a b
ordered-alike zero zero = refl
ordered-alike zero (suc b) = grind (arith, nat_tests)
ordered-alike (suc a) zero = grind (arith, nat_tests)
ordered-alike (suc a) (suc b) = grind (arith, nat_tests)

module _ (w : Setting) (number_of : TypeId → ℕ) (s : source.State) (c : flat.State) (depth : ℕ) (apart : AreFunctionsApart w c.memory) where
  object-depth : (n : ℕ) (o : Outline) → slice_get (outlines_of s.memory) n ≡ Some o → depth_of_object (slice_get s.memory.objects n) ≡ o.depth
  object-depth n o e =
      let x = mapped-from outline s.memory.objects n o e in ap depth_of_object x.1 ∙ ap (λ (z : Outline). z.depth) x.2

  abbrev HasDepth : ℕ → Pointer → Type 0
  HasDepth word q = depth_of c.memory word ≡ flat_depth (memory.depth_of s.memory.objects q)

  at-depth : (l : Location) (o : Outline) (i : ℕ) → slice_get (outlines_of s.memory) l.object ≡ Some o → IsThere w number_of s c l.object i o
      → HasDepth (place (ground_of w number_of s c) l.object i) (At l)
  at-depth l o i e h = h.depth ∙ ap flat_depth (sym (object-depth l.object o e))

  -- the base of a WILD pointer tells how deep its object is
  pub wild-depth : Related w number_of s c → (deeper : ℕ) (t : TypeId) (q : Pointer) → IsHeldIn w s.memory deeper Wild t q
      → HasDepth (second_word (ground_of w number_of s c) Wild q) q
  wild-depth r deeper t Null h = none-at_zero c.memory.frames
  wild-depth r deeper t (Number m) h = none-at_zero c.memory.frames
  wild-depth r deeper t (At l) h =
      let v : IsWildAt w (outlines_of s.memory) l = h.value in
      let o = has-outline s.memory deeper l.object v.object v.found h.reaches in
      let start : address (ground_of w number_of s c) l.object ≡ address (ground_of w number_of s c) l.object + 0 = omega arith in
      ap (depth_of c.memory) start ∙ (r.areas.lie l.object o.object o.found o.live).depth 0 (omega arith)
      ∙ ap (λ (y : Outline). flat_depth y.depth) o.is ∙ ap flat_depth (sym (object-depth l.object v.object v.found))
  wild-depth r deeper t (Function f) h =
      let v : (d : Defined) × (slice_get w.functions f ≡ Some d) = h.value in apart f v.0 v.1

  -- the word that says where a pointer's object lies tells how deep it is
  pub home-depth : (kind : Kind) (t : TypeId) (q : Pointer) (e : ℕ → ℕ) (p : PointerSlots) → IsChecked w number_of s c depth kind t q e p
      → HasDepth (e (home_slot kind p)) q
  home-depth Safe t Null e p x = ap (depth_of c.memory) x.words ∙ none-at_zero c.memory.frames
  home-depth Safe t (Number m) e p x = absurd x.held.value
  home-depth Safe t (At l) e p x =
      let v : IsSafeAt w (outlines_of s.memory) t l = x.held.value in
      ap (depth_of c.memory) x.words ∙ at-depth l v.object (natural l.offset) v.located.found
      (there w number_of s c x.related depth l.object (natural l.offset) v.object v.located.found x.held.reaches v.typed.untagged)
  home-depth Safe t (Function f) e p x =
      let v : IsFunctionOf w t f = x.held.value in ap (depth_of c.memory) x.words ∙ apart f v.function v.found
  home-depth Rtti t Null e p x = ap (depth_of c.memory) x.words.0 ∙ none-at_zero c.memory.frames
  home-depth Rtti t (Number m) e p x = absurd x.held.value
  home-depth Rtti t (At l) e p x =
      let v : IsTypedAt w (outlines_of s.memory) t l = x.held.value in
      ap (depth_of c.memory) x.words.0 ∙ at-depth l v.object (natural l.offset) v.located.found
      (there w number_of s c x.related depth l.object (natural l.offset) v.object v.located.found x.held.reaches v.typed.untagged)
  home-depth Rtti t (Function f) e p x = absurd x.held.value
  home-depth Seq t Null e p x = ap (depth_of c.memory) x.words.1 ∙ none-at_zero c.memory.frames
  home-depth Seq t (Number m) e p x = ap (depth_of c.memory) x.words.1 ∙ none-at_zero c.memory.frames
  home-depth Seq t (At l) e p x =
      let v : IsSequenceAt w (outlines_of s.memory) t l = x.held.value in
      ap (depth_of c.memory) x.words.1 ∙ at-depth l v.object l.part.low v.located.found
      (there w number_of s c x.related depth l.object l.part.low v.object v.located.found x.held.reaches v.typed.untagged)
  home-depth Seq t (Function f) e p x = absurd x.held.value
  home-depth Wild t q e p x = ap (depth_of c.memory) x.words.1 ∙ wild-depth x.related depth t q x.held

  pub escape-compared : (parts : Parts) (kind other : Kind) (t u : TypeId) (q target : Pointer) (e : ℕ → ℕ) (p to : PointerSlots)
      → IsChecked w number_of s c depth kind t q e p → IsChecked w number_of s c depth other u target e to
      → flat_holds parts c.memory (IsNoDeeper (home_slot kind p) (home_slot other to)) e ≡ holds w s.memory (Outlives target q)
  escape-compared parts kind other t u q target e p to x y =
      ap (λ a. nat_le a (depth_of c.memory (e (home_slot other to)))) (home-depth kind t q e p x)
      ∙ ap (λ b. nat_le (flat_depth (memory.depth_of s.memory.objects q)) b) (home-depth other u target e to y)
      ∙ ordered-alike (memory.depth_of s.memory.objects q) (memory.depth_of s.memory.objects target)

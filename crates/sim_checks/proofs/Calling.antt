-- CAST, FUN, DEPTH, ESCAPE of a return, and BOUNDS of an allocation.
use Rattle.std.proofs.Common.{◌≡◌, ◌∙◌, ◌⊎◌, inl, inr, ℕ, zero, suc, ◌+◌, ◌-◌, ◌*◌, ◌/◌, ◌<◌, ◌≤◌, pos, Bool, true, false, not, ◌&&◌, ◌||◌, List, [], ◌∷◌, length, nat_eq, nat_lt, nat_le, slice_get, Option, Some, None, refl, ap, sym, arith, if◌then◌else◌}
use Rattle.std.specs.Prelude.{◌==◌}
use Rattle.std.specs.List.{list_all}
use Rattle.std.proofs.lemmas.Bool.Decides.{nat_tests}
use Rattle.std.proofs.lemmas.Int.{ints}
use Rattle.std.proofs.lemmas.Option.{slice_get_within}
use Rattle.std.proofs.Math.Nat.{mul-le-mul_right}
use Rattle.cc_base.specs.declared.fault.Check.TheVariants as check
use Rattle.cc_base.specs.declared.kind.Kind.{Kind}
use Rattle.cc_base.specs.declared.kind.Kind.TheVariants.{Safe, Seq, Rtti, Wild}
use Rattle.cc_base.specs.declared.number.TypeId.{TypeId}
use Rattle.cc_base.specs.declared.place.Place.{Place}
use Rattle.c_types.specs.Layouts.{size_of}
use Rattle.c_types.specs.Coverage.{covers, of_one_class}
use Rattle.c_types.specs.Widths.{cured_size}
use Rattle.flat_mem.specs.declared.Area.{Area}
use Rattle.flat_mem.specs.Placement.{function_address, areas_size}
use Rattle.flat_mem.specs.Memory as memory
use Rattle.flat_mem.specs.Memory.{Frame, Memory, fits, frame_area, frames_end, next_frame, charges, Consecutive}
use Rattle.src_mem.specs.Pointers.{Location, Pointer, Null, Number, At, Function}
use Rattle.src_mem.specs.Memory as objects
use Rattle.src_mem.specs.Memory.{Object, depth_of_object}
use Rattle.src_mem.specs.State as source
use Rattle.src_mem.specs.State.{Setting, Defined}
use Rattle.src_mem.specs.Checks.{IsMadeFor, IsNotOfFrame, IsFunctionOf, HasRoom, depth_limit, source_frame_limit, has_room, fits_between, function_passes, function_passes_or_none, null_or_in_bounds, conditions_of_allocation, holds}
use Rattle.src_mem.specs.Primitives.{block_pointer}
use Rattle.src_mem.specs.Facts.{IsTypedAt, IsWildAt}
use Rattle.src_mem.specs.Outlines.{outlines_of}
use Rattle.src_mem.proofs.Outlines.{has-outline}
use Rattle.cured_code.specs.FlatState as flat
use Rattle.cured_code.specs.declared.parts.Parts.{Parts}
use Rattle.cured_code.specs.Tables as tables
use Rattle.cured_code.specs.Tables.{call_fits, is_below, sig_word, function_at, number_before}
use Rattle.check_forms.specs.declared.slots.PointerSlots.{PointerSlots}
use Rattle.check_forms.specs.declared.slots.Fixed.{Fixed}
use Rattle.check_forms.specs.Conditions as condition
use Rattle.check_forms.specs.Conditions.{IsNotOwn, Unless, IsAtLeast, flat_holds}
use Rattle.check_forms.specs.Rows.{asked, home_slot, allocated}
use Rattle.sim_relation.specs.Ground.{address, place, natural, function_word}
use Rattle.sim_relation.specs.Objects.{flat_depth}
use Rattle.sim_relation.specs.Related.{Related, ground_of, AreRoomy}
use Rattle.sim_checks.specs.Rows.{IsChecked, AreFunctionsApart, AreFunctionsLaid}
use Rattle.sim_checks.specs.Moving.{all_hold}
use Rattle.sim_checks.specs.Calling.{IsAllocated}
use Rattle.sim_checks.proofs.Addresses.{there}
use Rattle.sim_checks.proofs.Escape.{home-depth}
use Rattle.sim_checks.proofs.Sameness.{eq-true, true-eq, eq-false}

-- CAST

module _ (w : Setting) (number_of : TypeId → ℕ) (s : source.State) (c : flat.State) (parts : Parts) (depth : ℕ) (t u : TypeId) (e : ℕ → ℕ) (p : PointerSlots) (node : ℕ) where
  pub casts-compared : (q : Pointer) → ((l : Location) → q ≡ At l → is_below parts.nodes (number_of l.made) node ≡ covers w.table w.kind l.made u)
      → IsChecked w number_of s c depth Rtti t q e p
      → flat_holds parts c.memory (Unless p.first (condition.IsMadeFor p.second node)) e ≡ holds w s.memory (IsMadeFor u q)
  casts-compared Null below x = ap (λ n. nat_eq n 0 || is_below parts.nodes (e p.second) node) x.words.0
  casts-compared (Number n) below x = absurd x.held.value
  casts-compared (Function f) below x = absurd x.held.value
  casts-compared (At l) below x =
      let v : IsTypedAt w (outlines_of s.memory) t l = x.held.value in
      let h = (there w number_of s c x.related depth l.object (natural l.offset) v.object v.located.found x.held.reaches v.typed.untagged).above in
      ap (λ n. nat_eq n 0 || is_below parts.nodes (e p.second) node) x.words.0
      ∙ ap (λ b. b || is_below parts.nodes (e p.second) node) (eq-false (place (ground_of w number_of s c) l.object (natural l.offset)) 0 (λ z. omega (arith, z, h)))
      ∙ ap (λ n. is_below parts.nodes n node) x.words.1
      ∙ below l refl

-- ESCAPE of a return

module _ (w : Setting) (number_of : TypeId → ℕ) (s : source.State) (c : flat.State) (parts : Parts) (depth : ℕ) (apart : AreFunctionsApart w c.memory) where
  own-alike : (d n : ℕ) → 0 < n → (nat_eq (flat_depth d) 0 || not (nat_eq (flat_depth n) (flat_depth d))) ≡ not (d == n)
  own-alike zero zero h = absurd (omega (arith, h))
  own-alike zero (suc n) h = grind (arith, nat_tests)
  own-alike (suc d) zero h = absurd (omega (arith, h))
  own-alike (suc d) (suc n) h = grind (arith, nat_tests)

  -- the frame of a pointer's object
  frame-of : (q : Pointer) → 0 < depth → holds w s.memory (IsNotOfFrame depth q) ≡ not (objects.depth_of s.memory.objects q == depth)
  frame-of Null h = zero-other depth h
    where
      zero-other : (n : ℕ) → 0 < n → true ≡ not (0 == n)
      zero-other n h = grind (arith, nat_tests)
  frame-of (Number n) h = zero-other depth h
    where
      zero-other : (n : ℕ) → 0 < n → true ≡ not (0 == n)
      zero-other n h = grind (arith, nat_tests)
  frame-of (At l) h = refl
  frame-of (Function f) h = zero-other depth h
    where
      zero-other : (n : ℕ) → 0 < n → true ≡ not (0 == n)
      zero-other n h = grind (arith, nat_tests)

  pub returns-compared : (kind : Kind) (t : TypeId) (q : Pointer) (e : ℕ → ℕ) (p : PointerSlots) (k : ℕ) (o : Object) → 0 < depth
      → slice_get s.memory.objects k ≡ Some o → o.live ≡ true → o.depth ≡ depth → frame_area c.memory 0 ≡ address (ground_of w number_of s c) k
      → IsChecked w number_of s c depth kind t q e p
      → flat_holds parts c.memory (IsNotOwn (home_slot kind p)) e ≡ holds w s.memory (IsNotOfFrame depth q)
  returns-compared kind t q e p k o some found live deep area x =
      let lies = x.related.areas.lie k o found live in
      let zero : address (ground_of w number_of s c) k + 0 ≡ address (ground_of w number_of s c) k = omega arith in
      let mine : memory.depth_of c.memory (frame_area c.memory 0) ≡ flat_depth depth =
      ap (memory.depth_of c.memory) (area ∙ sym zero) ∙ lies.depth 0 (omega arith) ∙ ap flat_depth deep in
      ap (λ n. nat_eq n 0 || not (nat_eq (memory.depth_of c.memory (frame_area c.memory 0)) n)) (home-depth w number_of s c depth apart kind t q e p x)
      ∙ ap (λ n. nat_eq (flat_depth (objects.depth_of s.memory.objects q)) 0 || not (nat_eq n (flat_depth (objects.depth_of s.memory.objects q)))) mine
      ∙ own-alike (objects.depth_of s.memory.objects q) depth some
      ∙ sym (frame-of q some)

-- DEPTH

-- frames reach three bytes for each that they were charged
roomy-end : (start : ℕ) (frames : List Frame) → Consecutive start frames → AreRoomy frames → frames_end start frames ≤ start + 3 * charges frames
roomy-end start [] h r = omega arith
roomy-end start (frame ∷ frames) h r =
    let i = roomy-end start frames h.3 r.1 in let a = h.0 in let b = r.0 in omega (arith, i, a, b)

pub frames-fit-alike : (w : Setting) (number_of : TypeId → ℕ) (s : source.State) (c : flat.State) (areas : List Area) (charge depth : ℕ) → Related w number_of s c
    → length c.memory.frames ≡ depth → c.memory.bounds.stack_limit ≡ source_frame_limit → c.memory.bounds.stack_end ≡ c.memory.bounds.stack_start + 3 * source_frame_limit
    → areas_size areas ≤ 3 * charge
    → fits c.memory areas charge ≡ (nat_lt depth depth_limit && nat_le (s.memory.frame_bytes + charge) source_frame_limit)
frames-fit-alike w number_of s c areas charge depth r deep limit end room =
    ap (λ n. nat_lt n 1024 && (nat_le (charges c.memory.frames + charge) c.memory.bounds.stack_limit && nat_le (next_frame c.memory + areas_size areas) c.memory.bounds.stack_end)) deep
    ∙ ap (λ n. nat_lt depth 1024 && (nat_le (n + charge) c.memory.bounds.stack_limit && nat_le (next_frame c.memory + areas_size areas) c.memory.bounds.stack_end)) r.room.frame_charge
    ∙ ap (λ n. nat_lt depth 1024 && (nat_le (s.memory.frame_bytes + charge) n && nat_le (next_frame c.memory + areas_size areas) c.memory.bounds.stack_end)) limit
    ∙ ap (λ b. nat_lt depth 1024 && b) (of (s.memory.frame_bytes + charge) (next_frame c.memory + areas_size areas) c.memory.bounds.stack_end
    (λ h. let i = roomy-end c.memory.bounds.stack_start c.memory.frames r.sound.consecutive r.room.frames in let f = r.room.frame_charge in omega (arith, h, i, f, end, room)))
  where
    of : (a b n : ℕ) → (a ≤ 1048576 → b ≤ n) → (nat_le a 1048576 && nat_le b n) ≡ nat_le a 1048576
    of a b n h = by (nat_le a 1048576) refl
      where
        less : (a n : ℕ) → nat_le a n ≡ true → a ≤ n
        less a n h = grind (arith, nat_tests, h)

        more : (a n : ℕ) → a ≤ n → nat_le a n ≡ true
        more a n h = grind (arith, nat_tests, h)

        by : (q : Bool) → nat_le a 1048576 ≡ q → (q && nat_le b n) ≡ q
        by true e = more b n (h (less a 1048576 e))
        by false e = refl

function-at : (count f : ℕ) → suc f < count → function_at count (function_word f) ≡ Some (suc f)
function-at count f h = one (number_before (function_word f)) before
  where
    before : number_before (function_word f) ≡ suc f
    before = omega arith

    one : (n : ℕ) → n ≡ suc f → (if nat_eq (function_address n) (function_word f) && nat_lt n count then Some n else None) ≡ Some (suc f)
    one n e =
        ap (λ k. if nat_eq (function_address k) (function_word f) && nat_lt k count then Some k else None) e
        ∙ ap (λ b. if b && nat_lt (suc f) count then Some (suc f) else None) (eq-true (function_address (suc f)) (function_word f) refl)
        ∙ ap (λ b. if b then Some (suc f) else None) (less (suc f) count h)
      where
        less : (a b : ℕ) → a < b → nat_lt a b ≡ true
        less a b h = grind (arith, nat_tests, h)

-- no function stands where areas are
function-none : (count a : ℕ) → 8 * count < a → function_at count a ≡ None
function-none count a h = by (nat_eq (function_address (number_before a)) a) refl
  where
    far : nat_eq (function_address (number_before a)) a ≡ true → nat_lt (number_before a) count ≡ false
    far e = let f : 8 * (a / 8 - 1 + 1) ≡ a = true-eq (function_address (number_before a)) a e in not-less (a / 8 - 1) count (omega (arith, f, h))
      where
        not-less : (a b : ℕ) → b ≤ a → nat_lt a b ≡ false
        not-less a b h = grind (arith, nat_tests, h)

    by : (b : Bool) → nat_eq (function_address (number_before a)) a ≡ b → (if b && nat_lt (number_before a) count then Some (number_before a) else None) ≡ None
    by true e = ap (λ b. if b then Some (number_before a) else None) (far e)
    by false e = refl

pub room-compared : (w : Setting) (s : source.State) (m : Memory) (parts : Parts) (depth f a : ℕ) (d : Defined) (e : ℕ → ℕ) → slice_get w.functions f ≡ Some d
    → length parts.functions ≡ suc (length w.functions) → e a ≡ function_word f → call_fits parts (suc f) m ≡ has_room w s.memory depth d
    → flat_holds parts m (condition.HasRoom a) e ≡ holds w s.memory (HasRoom depth (Function f))
room-compared w s m parts depth f a d e found count is fit =
    ap (λ n. tables.has_room parts (function_at (length parts.functions) n) m) is
    ∙ ap (λ (x : Option ℕ). tables.has_room parts x m) (function-at (length parts.functions) f
    (let h = slice_get_within w.functions f d found in omega (arith, h, count)))
    ∙ fit ∙ sym (ap (λ (x : Option Defined). function_passes_or_none x (has_room w s.memory depth)) found)

-- BOUNDS of an allocation

block-fits : (m bytes : ℕ) → fits_between 0 bytes (pos 0) m ≡ nat_le m bytes
block-fits m bytes = grind (arith, nat_tests, ints)

elements-alike : (k m n : ℕ) → 0 < m → 0 < n → not (nat_lt (k * m) m) ≡ nat_le n (k * n)
elements-alike zero m n hm hn = none m n hm hn
  where
    none : (m n : ℕ) → 0 < m → 0 < n → not (nat_lt (0 * m) m) ≡ nat_le n (0 * n)
    none m n hm hn = grind (arith, nat_tests)
elements-alike (suc k) m n hm hn =
    more (suc k * m) m (let h : 1 * m ≤ suc k * m = mul-le-mul_right m (omega arith) in omega (arith, h))
    ∙ sym (less n (suc k * n) (let h : 1 * n ≤ suc k * n = mul-le-mul_right n (omega arith) in omega (arith, h)))
  where
    more : (a b : ℕ) → b ≤ a → not (nat_lt a b) ≡ true
    more a b h = grind (arith, nat_tests, h)

    less : (a b : ℕ) → a ≤ b → nat_le a b ≡ true
    less a b h = grind (arith, nat_tests, h)

module _ (w : Setting) (s : source.State) (m : Memory) (parts : Parts) (t : TypeId) (e : ℕ → ℕ) (made size : ℕ) (needed : Fixed) (at : Place)
    (some : 0 < size_of w.table t) (wide : 0 < cured_size w.table w.kind t) (is : needed.value ≡ cured_size w.table w.kind t) where
  alone : (b : Bool) → (b && true) ≡ b
  alone true = refl
  alone false = refl

  bounds-alike : (q : Pointer) → IsAllocated w t (e made) (e size) q
      → ((nat_eq (e made) 0 || not (nat_lt (e size) needed.value)) && true) ≡ list_all (holds w s.memory) (conditions_of_allocation Safe (size_of w.table t) q)
  bounds-alike q (inl h) =
      ap (λ b. (b || not (nat_lt (e size) needed.value)) && true) (eq-true (e made) 0 h.0)
      ∙ sym (ap (λ x. list_all (holds w s.memory) (conditions_of_allocation Safe (size_of w.table t) x)) h.1)
  bounds-alike q (inr (some_made, n, bytes, block, sizes)) =
      alone _
      ∙ ap (λ b. b || not (nat_lt (e size) needed.value)) (eq-false (e made) 0 some_made)
      ∙ ap (λ k. not (nat_lt (e size) k)) is
      ∙ by sizes
      ∙ sym (block-fits (size_of w.table t) bytes) ∙ sym (alone _)
      ∙ sym (ap (λ x. list_all (holds w s.memory) (conditions_of_allocation Safe (size_of w.table t) x)) block)
    where
      by : ((e size ≡ bytes) × (cured_size w.table w.kind t ≡ size_of w.table t))
          ⊎ ((k : ℕ) × (bytes ≡ k * size_of w.table t) × (e size ≡ k * cured_size w.table w.kind t))
          → not (nat_lt (e size) (cured_size w.table w.kind t)) ≡ nat_le (size_of w.table t) bytes
      by (inl h) = ap (λ k. not (nat_lt k (cured_size w.table w.kind t))) h.0 ∙ ap (λ k. not (nat_lt bytes k)) h.1 ∙ turned bytes (size_of w.table t)
        where
          turned : (a b : ℕ) → not (nat_lt a b) ≡ nat_le b a
          turned a b = grind (arith, nat_tests)
      by (inr h) =
          ap (λ k. not (nat_lt k (cured_size w.table w.kind t))) h.2 ∙ elements-alike h.0 (cured_size w.table w.kind t) (size_of w.table t) wide some
          ∙ sym (ap (λ k. nat_le (size_of w.table t) k) h.1)

  asked-alike : nat_eq needed.value 0 ≡ false
  asked-alike = eq-false needed.value 0 (λ z. omega (arith, z, is, wide))

  pub allocations-compared : (kind : Kind) (q : Pointer) → IsAllocated w t (e made) (e size) q
      → all_hold parts m (allocated kind made size needed at) e ≡ list_all (holds w s.memory) (conditions_of_allocation kind (size_of w.table t) q)
  allocations-compared Safe q h = ap (λ b. all_hold parts m (if b then [] else asked check.Bounds at (Unless made (IsAtLeast size needed)) ∷ []) e) asked-alike ∙ bounds-alike q h
  allocations-compared Rtti q h = ap (λ b. all_hold parts m (if b then [] else asked check.Bounds at (Unless made (IsAtLeast size needed)) ∷ []) e) asked-alike ∙ bounds-alike q h
  allocations-compared Seq q h = refl
  allocations-compared Wild q h = refl

module _ (w : Setting) (s : source.State) (m : Memory) (parts : Parts) (t : TypeId) (e : ℕ → ℕ) (made size : ℕ) (needed : Fixed) (at : Place) (unsized : size_of w.table t ≡ 0)
    (none : needed.value ≡ 0) where
  block-there : (q : Pointer) → (q ≡ Null) ⊎ ((n bytes : ℕ) × (q ≡ block_pointer n t bytes)) → list_all (holds w s.memory) (null_or_in_bounds (size_of w.table t) q) ≡ true
  block-there q h = ap (λ (n : ℕ). list_all (holds w s.memory) (null_or_in_bounds n q)) unsized ∙ of h
    where
      of : (q ≡ Null) ⊎ ((n bytes : ℕ) × (q ≡ block_pointer n t bytes)) → list_all (holds w s.memory) (null_or_in_bounds 0 q) ≡ true
      of (inl f) = ap (λ (x : Pointer). list_all (holds w s.memory) (null_or_in_bounds 0 x)) f
      of (inr (n, bytes, f)) = ap (λ (x : Pointer). list_all (holds w s.memory) (null_or_in_bounds 0 x)) f ∙ ap (λ b. b && true) (block-fits 0 bytes ∙ any bytes)
        where
          any : (n : ℕ) → nat_le 0 n ≡ true
          any n = grind (arith, nat_tests)

  pub unsized-allocations-compared : (kind : Kind) (q : Pointer) → (q ≡ Null) ⊎ ((n bytes : ℕ) × (q ≡ block_pointer n t bytes))
      → all_hold parts m (allocated kind made size needed at) e ≡ list_all (holds w s.memory) (conditions_of_allocation kind (size_of w.table t) q)
  unsized-allocations-compared Safe q h =
      ap (λ n. all_hold parts m (if nat_eq n 0 then [] else asked check.Bounds at (Unless made (IsAtLeast size needed)) ∷ []) e) none ∙ sym (block-there q h)
  unsized-allocations-compared Rtti q h =
      ap (λ n. all_hold parts m (if nat_eq n 0 then [] else asked check.Bounds at (Unless made (IsAtLeast size needed)) ∷ []) e) none ∙ sym (block-there q h)
  unsized-allocations-compared Seq q h = refl
  unsized-allocations-compared Wild q h = refl

-- FUN

module _ (w : Setting) (number_of : TypeId → ℕ) (s : source.State) (c : flat.State) (parts : Parts) (depth : ℕ) (t u : TypeId) (e : ℕ → ℕ) (p : PointerSlots)
    (signature : Fixed) (laid : AreFunctionsLaid w number_of s c) (count : length parts.functions ≡ suc (length w.functions)) (some : 0 < signature.value)
    (classes : (f : ℕ) (d : Defined) → slice_get w.functions f ≡ Some d
    → nat_eq (sig_word parts (Some (suc f))) signature.value ≡ of_one_class w.table w.kind d.type u) where
  none : (b : Bool) (x : Option ℕ) → x ≡ None → (b && nat_eq (sig_word parts x) signature.value) ≡ false
  none b x h = ap (λ y. b && nat_eq (sig_word parts y) signature.value) h ∙ ap (λ y. b && y) (eq-false 0 signature.value (λ z. omega (arith, z, some))) ∙ last b
    where
      last : (b : Bool) → (b && false) ≡ false
      last true = refl
      last false = refl

  pub functions-compared : (q : Pointer) → IsChecked w number_of s c depth Wild t q e p
      → flat_holds parts c.memory (condition.IsFunctionOf p signature) e ≡ holds w s.memory (IsFunctionOf u q)
  functions-compared Null x =
      ap (λ n. nat_eq n (e p.second) && nat_eq (sig_word parts (function_at (length parts.functions) n)) signature.value) x.words.0
      ∙ none (nat_eq 0 (e p.second)) (function_at (length parts.functions) 0) refl
  functions-compared (Number n) x =
      ap (λ k. nat_eq k (e p.second) && nat_eq (sig_word parts (function_at (length parts.functions) (e p.first))) signature.value) x.words.0
      ∙ ap (λ k. nat_eq n k && nat_eq (sig_word parts (function_at (length parts.functions) (e p.first))) signature.value) x.words.1
      ∙ ap (λ b. b && nat_eq (sig_word parts (function_at (length parts.functions) (e p.first))) signature.value) (eq-false n 0 x.held.value.0)
  functions-compared (At l) x = by (nat_eq (e p.first) (e p.second)) refl
    where
      by : (b : Bool) → nat_eq (e p.first) (e p.second) ≡ b
          → (b && nat_eq (sig_word parts (function_at (length parts.functions) (e p.first))) signature.value) ≡ false
      by false f = refl
      by true f =
          let v : IsWildAt w (outlines_of s.memory) l = x.held.value in
          let o = has-outline s.memory depth l.object v.object v.found x.held.reaches in
          let k = laid.beyond l.object o.object o.found o.live in
          let same : e p.first ≡ address (ground_of w number_of s c) l.object = true-eq (e p.first) (e p.second) f ∙ x.words.1 in
          none true (function_at (length parts.functions) (e p.first)) (function-none (length parts.functions) (e p.first) (omega (arith, k, same, count)))
  functions-compared (Function f) x =
      let d : (d : Defined) × (slice_get w.functions f ≡ Some d) = x.held.value in
      ap (λ n. nat_eq n (e p.second) && nat_eq (sig_word parts (function_at (length parts.functions) n)) signature.value) x.words.0
      ∙ ap (λ n. nat_eq (function_word f) n && nat_eq (sig_word parts (function_at (length parts.functions) (function_word f))) signature.value) x.words.1
      ∙ ap (λ b. b && nat_eq (sig_word parts (function_at (length parts.functions) (function_word f))) signature.value) (eq-true (function_word f) (function_word f) refl)
      ∙ ap (λ (y : Option ℕ). nat_eq (sig_word parts y) signature.value) (function-at (length parts.functions) f
      (let h = slice_get_within w.functions f d.0 d.1 in omega (arith, h, count)))
      ∙ classes f d.0 d.1
      ∙ sym (ap (λ (y : Option Defined). function_passes y (λ z. of_one_class w.table w.kind z.type u)) d.1)

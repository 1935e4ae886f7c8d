-- What was read of a program keeps its ranges and its limits.
use Rattle.std.proofs.Common.{ℕ, zero, suc, ◌+◌, ◌-◌, ◌<◌, ◌≤◌, List, [], ◌∷◌, ◌++◌, ◌≡◌, ◌∙◌, length, map, drop, get_or, ap, subst, refl, sym, arith, add-one, drop-cons, length-append, Some, None}
use Rattle.std.specs.Prelude.{All, IfSome, slice_get, slice_index, sum_by, EachIndex, ◌^◌}
use Rattle.std.proofs.lemmas.List.Elements.{All-push}
use Rattle.std.proofs.lemmas.List.Sums.{sum_by-append, sum_by-cons}
use Rattle.std.proofs.lemmas.List.{length-map}
use Rattle.cured_spelling.proofs.Cuts.{cons_head, cons_tail}
use Rattle.cured_code.specs.declared.parts.Sig.{Sig}
use Rattle.cured_code.specs.declared.parts.GlobalLine.{GlobalLine}
use Rattle.cured_code.specs.declared.parts.Function.{Function}
use Rattle.cured_code.specs.declared.parts.Parts.{Parts}
use Rattle.cured_code.specs.Ranges.{Names, IsInRange, IsSigInRange, IsGlobalInRange, IsFunctionInRange, IsStartBare, IsBare, AreInstrsInRange, AreParentsEarlier, sigs_of, names_in, sigs_limit, nodes_limit, flat_globals_limit, global_bytes_limit, local_bytes_limit}
use Rattle.cured_reading.specs.declared.sections.Head.{Head}
use Rattle.cured_reading.specs.Parts.{Left}
use Rattle.cured_reading.specs.declared.code.Closing.TheVariants as closing
use Rattle.cured_reading.specs.Faults.{Awaited, InBody, names_of, bodies, HasSignature}
use Rattle.cured_reading.specs.Refusals.{IsFew, IsHeadKept, AreHeadsInOrder, AreHeadsKept, IsHeadOf, AreRead, in_part}
use Rattle.cured_reading.proofs.RefusalLaws.{read-on, read-as}

-- The parents of type nodes

one-parent-more : (parents : List ℕ) (parent first : ℕ) → ((k : ℕ) → k < length parents → slice_index parents k ≤ first + k) → parent ≤ first + length parents
    → (k : ℕ) → k < length (parents ++ (parent ∷ [])) → slice_index (parents ++ (parent ∷ [])) k ≤ first + k
one-parent-more [] parent first before last zero lt = omega (arith, last)
one-parent-more [] parent first before last (suc k) lt = absurd (omega (arith, lt))
one-parent-more (x ∷ parents) parent first before last zero lt = before 0 (omega arith)
one-parent-more (x ∷ parents) parent first before last (suc k) lt =
    let rest : slice_index (parents ++ (parent ∷ [])) k ≤ (first + 1) + k =
    one-parent-more parents parent (first + 1) (λ j l. let q : slice_index parents j ≤ first + suc j = before (suc j) (omega (arith, l)) in omega (arith, q))
    (omega (arith, last)) k (omega (arith, lt)) in
    omega (arith, rest)

pub parents-push : (parents more : List ℕ) (parent : ℕ) → more ≡ parents ++ (parent ∷ []) → AreParentsEarlier parents → parent ≤ length parents → AreParentsEarlier more
parents-push parents more parent e before last =
    subst AreParentsEarlier (sym e) (λ k lt.
    let there : slice_index (parents ++ (parent ∷ [])) k ≤ 0 + k =
    one-parent-more parents parent 0 (λ j l. let q = before j l in omega (arith, q)) (omega (arith, last)) k lt in
    omega (arith, there))

-- one more of some

pub all-more : {X : Type 0} (P : X → Type 0) (xs more : List X) (x : X) → more ≡ xs ++ (x ∷ []) → All P xs → P x → All P more
all-more P xs more x e h k = subst (All P) (sym e) (All-push P xs x h k)

-- the bytes of globals, and those that are left for more
pub bytes-more : (globals more : List GlobalLine) (global : GlobalLine) (left most : ℕ) → more ≡ globals ++ (global ∷ []) → global.area.bytes ≤ left
    → sum_by (λ (g : GlobalLine). g.area.bytes) globals + left ≡ most → sum_by (λ (g : GlobalLine). g.area.bytes) more + (left - global.area.bytes) ≡ most
bytes-more globals more global left most e few h =
    let whole : sum_by (λ (g : GlobalLine). g.area.bytes) more ≡ sum_by (λ (g : GlobalLine). g.area.bytes) (globals ++ (global ∷ [])) = ap (sum_by (λ (g : GlobalLine). g.area.bytes)) e in
    let parts = sum_by-append (λ (g : GlobalLine). g.area.bytes) globals (global ∷ []) in
    let one = sum_by-cons (λ (g : GlobalLine). g.area.bytes) global [] in
    let none : sum_by (λ (g : GlobalLine). g.area.bytes) [] ≡ 0 = refl in
    omega (arith, whole, parts, one, none, few, h)

-- The lines of functions

pub heads-push : (sigs : List Sig) (before : ℕ) (heads : List Head) (head : Head) → AreHeadsInOrder sigs before heads → IsHeadKept sigs (before + length heads) head
    → AreHeadsInOrder sigs before (heads ++ (head ∷ []))
heads-push sigs before [] head h k =
    let same : before + 0 ≡ before = omega arith in
    (subst (λ n. IsHeadKept sigs n head) same k, tt)
heads-push sigs before (first ∷ heads) head h k =
    let same : before + suc (length heads) ≡ (before + 1) + length heads = omega arith in
    (h.0, heads-push sigs (before + 1) heads head h.1 (subst (λ n. IsHeadKept sigs n head) same k))

pub heads-more : (sigs : List Sig) (i : ℕ) (heads more : List Head) (head : Head) → more ≡ heads ++ (head ∷ []) → length heads ≡ i
    → AreHeadsInOrder sigs 0 heads → IsHeadKept sigs i head → AreHeadsInOrder sigs 0 more
heads-more sigs i heads more head e size h k =
    let place : i ≡ 0 + length heads = omega (arith, size) in
    subst (AreHeadsInOrder sigs 0) (sym e) (heads-push sigs 0 heads head h (subst (λ n. IsHeadKept sigs n head) place k))

pub head-at : (sigs : List Sig) (before : ℕ) (heads : List Head) (k : ℕ) (other : Head) → AreHeadsInOrder sigs before heads → k < length heads
    → IsHeadKept sigs (before + k) (get_or heads k other)
head-at sigs before [] k other h lt = absurd (omega (arith, lt))
head-at sigs before (first ∷ heads) zero other h lt =
    let same : before ≡ before + 0 = omega arith in
    subst (λ n. IsHeadKept sigs n first) same h.0
head-at sigs before (first ∷ heads) (suc k) other h lt =
    let same : (before + 1) + k ≡ before + suc k = omega arith in
    subst (λ n. IsHeadKept sigs n (get_or heads k other)) same (head-at sigs (before + 1) heads k other h.1 (omega (arith, lt)))

-- a signature that is there is found
pub found-there : (sigs : List Sig) (g : ℕ) → g < length sigs → slice_get sigs g ≡ None → ⊥
found-there [] g lt e = omega (arith, lt)
found-there (s ∷ sigs) zero lt e = cc
found-there (s ∷ sigs) (suc g) lt e = found-there sigs g (omega (arith, lt)) e

-- Functions

abbrev pub names_given : List Sig → List ℕ → ℕ → Head → ℕ → Names
names_given sigs numbers nodes head results = record {
  sigs = sigs;
  functions = numbers;
  nodes = nodes;
  slots = head.slots;
  areas = head.areas;
  results = results;
  blocks = 0;
  nest = 0;
}

results-at : (sigs : List Sig) (g : ℕ) (sig : Sig) → slice_get sigs g ≡ Some sig → slice_index (map (λ s. s.results) sigs) g ≡ sig.results
results-at [] g sig e = cc
results-at (s ∷ sigs) zero sig e = let same : s ≡ sig = cc in ap (λ x. x.results) same
results-at (s ∷ sigs) (suc g) sig e = results-at sigs g sig e

-- what the body of a function may name, as it is made of its line
pub names-made : (sigs : List Sig) (nodes : ℕ) (heads : List Head) (head : Head) (numbers : List ℕ) (sig : Sig) → numbers ≡ map (λ h. h.sig) heads
    → slice_get sigs head.sig ≡ Some sig
    → names_given sigs numbers nodes head sig.results ≡ names_of sigs nodes heads head
names-made sigs nodes heads head numbers sig e found =
    ap (λ l. names_given sigs l nodes head sig.results) e
    ∙ ap (λ r. names_given sigs (map (λ h. h.sig) heads) nodes head r) (sym (results-at sigs head.sig sig found))

pub names-few : (sigs : List Sig) (numbers : List ℕ) (nodes : ℕ) (heads : List Head) (head : Head) (results before : ℕ) → numbers ≡ map (λ h. h.sig) heads
    → length sigs ≤ sigs_limit → nodes ≤ nodes_limit → AreHeadsKept sigs heads → IsHeadKept sigs before head
    → IsFew (names_given sigs numbers nodes head results)
names-few sigs numbers nodes heads head results before e few_sigs few_nodes kept h =
    let count = kept.count in
    let slots = h.slots in
    let areas = h.areas in
    let size : length numbers ≡ length heads = ap length e ∙ length-map heads (λ h. h.sig) in
    record {
      sigs = omega (arith, few_sigs);
      functions = omega (arith, count, size);
      nodes = omega (arith, few_nodes);
      slots = omega (arith, slots);
      areas = omega (arith, areas);
      blocks = omega arith;
      nest = omega arith;
    }

-- the bodies that are left, when one more comes
pub bodies-left : (N : Head → Names) (heads : List Head) (i : ℕ) (other : Head) (names : Names) → i < length heads → names ≡ N (get_or heads i other)
    → bodies (map N (drop i heads)) ≡ bodies (names ∷ map N (drop (i + 1) heads))
bodies-left N heads i other names lt e =
    let front : drop i heads ≡ get_or heads i other ∷ drop (suc i) heads = drop-cons heads i other lt in
    ap (λ l. bodies (map N l)) front ∙ ap (λ n. bodies (n ∷ map N (drop (suc i) heads))) (sym e)
    ∙ ap (λ k. bodies (names ∷ map N (drop k heads))) (sym (add-one i))

pub function-kept : (sigs : List Sig) (numbers : List ℕ) (nodes before : ℕ) (f : Function) (head : Head) (sig : Sig) → IsHeadOf f head → IsHeadKept sigs before head
    → slice_get sigs head.sig ≡ Some sig → All (λ area. area.bytes ≤ local_bytes_limit) f.locals
    → AreInstrsInRange (names_given sigs numbers nodes head sig.results) f.body.0.items
    → IsFunctionInRange sigs numbers nodes f
function-kept sigs numbers nodes before f head sig of h found locals code =
    let there = h.signature.there in
    let slots = h.slots in
    let areas = h.areas in
    let same_sig : slice_get sigs f.sig ≡ Some sig = ap (slice_get sigs) of.sig ∙ found in
    let names : List ℕ → ℕ → ℕ → Names = λ l s a. record { sigs = sigs; functions = l; nodes = nodes; slots = s; areas = a; results = sig.results; blocks = 0; nest = 0 } in
    let body : AreInstrsInRange (names_in sigs numbers nodes f sig.results) f.body.0.items =
    subst (λ s. AreInstrsInRange (names numbers s (length f.locals)) f.body.0.items) (sym of.slots)
    (subst (λ a. AreInstrsInRange (names numbers head.slots a) f.body.0.items) (sym of.areas) code) in
    let params : IfSome (Some sig) (λ s. s.params ≤ head.slots) = subst (λ o. IfSome o (λ s. s.params ≤ head.slots)) found h.signature.params_held in
    record {
      known_sig = omega (arith, there, of.sig);
      params_held = subst (λ o. IfSome o (λ s. s.params ≤ f.slots)) (sym same_sig) (omega (arith, params, of.slots));
      slots_kept = omega (arith, slots, of.slots);
      locals_kept = omega (arith, areas, of.areas);
      locals_bytes = locals;
      body_kept = subst (λ o. IfSome o (λ s. AreInstrsInRange (names_in sigs numbers nodes f s.results) f.body.0.items)) (sym same_sig) body;
    }

-- the areas of a frame, where a body comes
pub areas-read : (names : Names) (n : ℕ) (rest : List Names) (a b : Left) → names.areas ≡ n
    → AreRead (InBody n (record { names = names; closing = closing.End }) [] rest) a (in_part names closing.End [] rest) b
    → AreRead (bodies (names ∷ rest)) a (in_part names closing.End [] rest) b
areas-read names n rest a b e p =
    subst (λ m. AreRead (InBody m (record { names = names; closing = closing.End }) [] rest) a (in_part names closing.End [] rest) b) (sym e) p

-- The program

start-bare : (sigs : List Sig) (functions : List Function) (heads : List Head) → sigs_of functions ≡ map (λ h. h.sig) heads → AreHeadsKept sigs heads
    → IsStartBare sigs functions
start-bare sigs [] [] e h = let some = h.some in absurd (omega (arith, some))
start-bare sigs [] (head ∷ heads) e h = cc
start-bare sigs (f ∷ fs) [] e h = cc
start-bare sigs (f ∷ fs) (head ∷ heads) e h = record {
  there = omega arith;
  bare = subst (λ g. IfSome (slice_get sigs g) IsBare) (sym (cons_head e)) (h.each.0.signature.first_bare refl);
}

pub parts-kept : (p : Parts) (heads : List Head) → length p.sigs ≤ sigs_limit → All IsSigInRange p.sigs → length p.nodes ≤ nodes_limit
    → AreParentsEarlier p.nodes → length p.globals ≤ flat_globals_limit
    → All IsGlobalInRange p.globals
    → sum_by (λ g. g.area.bytes) p.globals ≤ global_bytes_limit
    → AreHeadsKept p.sigs heads
    → sigs_of p.functions ≡ map (λ h. h.sig) heads
    → All (IsFunctionInRange p.sigs (map (λ h. h.sig) heads) (length p.nodes)) p.functions
    → IsInRange p
parts-kept p heads a b d e f g h i j k =
    let count = i.count in
    let size : length p.functions ≡ length heads = sym (length-map p.functions (λ f. f.sig)) ∙ ap length j ∙ length-map heads (λ h. h.sig) in
    record {
      sigs_count = a;
      sigs_kept = b;
      nodes_count = d;
      parents = e;
      globals_count = f;
      globals_kept = g;
      globals_bytes = h;
      functions_count = omega (arith, size, count);
      functions_kept = subst (λ numbers. All (IsFunctionInRange p.sigs numbers (length p.nodes)) p.functions) (sym j) k;
      start = start-bare p.sigs p.functions heads j i;
    }

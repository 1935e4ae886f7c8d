-- What the bytes of a flat memory are, once the first bytes of its globals are written.
use Rattle.std.proofs.Common.{◌≡◌, ℕ, zero, suc, ◌+◌, ◌<◌, ◌≤◌, ◌⊎◌, inl, inr, ⊎_elim, List, [], ◌∷◌, length, slice_get, slice_index, Some, refl, sym, subst, ◌∙◌, arith}
use Rattle.std.proofs.lemmas.List.{length-map, get_or_past}
use Rattle.std.proofs.lemmas.Option.{slice_get_within}
use Rattle.flat_mem.specs.Bytes.{number, written, AreBytes}
use Rattle.flat_mem.specs.Placement.{addresses, areas_size, area_size, contents_size}
use Rattle.flat_mem.proofs.AreaLaws.{area-after_start}
use Rattle.flat_mem.proofs.ByteLaws.{number-same, number-written_apart, get-written_other, get-written_inside, length-written, written-bytes}
use Rattle.cured_code.specs.declared.parts.GlobalLine.{GlobalLine}
use Rattle.cured_code.specs.Tables.{area_of}
use Rattle.cured_code.specs.FlatMachine.{global_areas, globals_written}

-- the bytes that each begins with find room in its area
pub record BeginInside (globals : List GlobalLine) : Type 0 where
  pub each : (k : ℕ) (g : GlobalLine) → slice_get globals k ≡ Some g → length g.first ≤ contents_size (area_of g.area)

others : (g : GlobalLine) (globals : List GlobalLine) → BeginInside (g ∷ globals) → BeginInside globals
others g globals h = record { each = λ k x e. h.each (suc k) x e }

-- what lies before the areas stays, and so does the first word of the first
written-before : (globals : List GlobalLine) (start : ℕ) (bytes : List ℕ) (i : ℕ) → i < start + 8 → slice_index (globals_written globals start bytes) i ≡ slice_index bytes i
written-before [] start bytes i h = refl
written-before (g ∷ globals) start bytes i h =
    written-before globals (start + area_size (area_of g.area)) (written g.first bytes (start + 8)) i (omega (arith, h))
    ∙ get-written_other g.first bytes (start + 8) i (inl h)

pub globals-before : (globals : List GlobalLine) (start : ℕ) (bytes : List ℕ) (i : ℕ) → i < start → slice_index (globals_written globals start bytes) i ≡ slice_index bytes i
globals-before globals start bytes i h = written-before globals start bytes i (omega (arith, h))

sides : (i n : ℕ) → (i < n) ⊎ (n ≤ i)
sides i n = grind arith

-- the first one's bytes, and the zeros behind them
first-inside : (g : GlobalLine) (globals : List GlobalLine) (start : ℕ) (bytes : List ℕ) (i : ℕ) → length g.first ≤ contents_size (area_of g.area)
    → start + area_size (area_of g.area) ≤ length bytes → i < contents_size (area_of g.area) → slice_index bytes (start + 8 + i) ≡ 0
    → slice_index (globals_written (g ∷ globals) start bytes) (start + 8 + i) ≡ slice_index g.first i
first-inside g globals start bytes i fit room less none =
    written-before globals (start + area_size (area_of g.area)) (written g.first bytes (start + 8)) (start + 8 + i) (omega (arith, less))
    ∙ ⊎_elim (λ h. get-written_inside g.first bytes (start + 8) i h (omega (arith, fit, room)))
    (λ h. get-written_other g.first bytes (start + 8) (start + 8 + i) (inr (omega (arith, h))) ∙ none ∙ sym (get_or_past g.first i 0 h)) (sides i (length g.first))

-- the area of a later one lies behind the first
later-area : (globals : List GlobalLine) (start k : ℕ) → k < length globals → start + 8 ≤ slice_index (addresses (global_areas globals) start) k
later-area globals start k h = area-after_start (global_areas globals) start k (let e = length-map globals (λ (g : GlobalLine). area_of g.area) in omega (arith, h, e))

-- In the area of each, where zeros stood, its bytes stand now, and zeros behind them.
pub globals-inside : (globals : List GlobalLine) (start : ℕ) (bytes : List ℕ) (k : ℕ) (g : GlobalLine) (i : ℕ) → slice_get globals k ≡ Some g → BeginInside globals
    → start + areas_size (global_areas globals) ≤ length bytes → i < contents_size (area_of g.area)
    → slice_index bytes (slice_index (addresses (global_areas globals) start) k + i) ≡ 0
    → slice_index (globals_written globals start bytes) (slice_index (addresses (global_areas globals) start) k + i) ≡ slice_index g.first i
unfolding addresses areas_size
globals-inside [] start bytes k g i e fit room less none = absurd (cc (e))
globals-inside (x ∷ globals) start bytes zero g i e fit room less none =
    subst (λ (y : GlobalLine). i < contents_size (area_of y.area) → slice_index (globals_written (x ∷ globals) start bytes) (start + 8 + i) ≡ slice_index y.first i)
    (let f : x ≡ g = cc (e) in f)
    (λ l. first-inside x globals start bytes i (fit.each 0 x refl) (omega (arith, room)) l none) less
globals-inside (x ∷ globals) start bytes (suc k) g i e fit room less none =
    globals-inside globals (start + area_size (area_of x.area)) (written x.first bytes (start + 8)) k g i e (others x globals fit)
    (let l = length-written x.first bytes (start + 8) in omega (arith, room, l)) less
    (get-written_other x.first bytes (start + 8) (slice_index (addresses (global_areas globals) (start + area_size (area_of x.area))) k + i)
    (inr (let f = fit.each 0 x refl in let h = later-area globals (start + area_size (area_of x.area)) k (slice_get_within globals k g e) in omega (arith, f, h))) ∙ none)

-- the first word of each area stays
pub globals-first : (globals : List GlobalLine) (start : ℕ) (bytes : List ℕ) (k place : ℕ) → k < length globals → BeginInside globals
    → slice_index (addresses (global_areas globals) start) k ≡ place + 8 → number 8 (globals_written globals start bytes) place ≡ number 8 bytes place
unfolding addresses
globals-first [] start bytes k place less fit e = absurd (omega (arith, less))
globals-first (x ∷ globals) start bytes zero place less fit e =
    number-same 8 (globals_written (x ∷ globals) start bytes) bytes place place (λ i l. written-before (x ∷ globals) start bytes (place + i) (omega (arith, e, l)))
globals-first (x ∷ globals) start bytes (suc k) place less fit e =
    globals-first globals (start + area_size (area_of x.area)) (written x.first bytes (start + 8)) k place (omega (arith, less)) (others x globals fit) e
    ∙ number-written_apart 8 x.first bytes (start + 8) place
    (inr (let f = fit.each 0 x refl in let h = later-area globals (start + area_size (area_of x.area)) k (omega (arith, less)) in omega (arith, f, h, e)))

pub globals-are : (globals : List GlobalLine) (start : ℕ) (bytes : List ℕ) → ((k : ℕ) (g : GlobalLine) → slice_get globals k ≡ Some g → AreBytes g.first) → AreBytes bytes
    → AreBytes (globals_written globals start bytes)
globals-are [] start bytes each are = are
globals-are (g ∷ globals) start bytes each are =
    globals-are globals (start + area_size (area_of g.area)) (written g.first bytes (start + 8)) (λ k x e. each (suc k) x e)
    (written-bytes g.first bytes (start + 8) (each 0 g refl) are)

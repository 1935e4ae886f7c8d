-- What the code on areas computes is what the definitions say.
use Rattle.std.specs.Prelude.{◌≡◌, ℕ, suc, ◌+◌, ◌-◌, ◌*◌, ◌<◌, ◌≤◌, Bool, true, false, List, [], ◌∷◌, ◌++◌, Some, None, length, drop, nat_le, if◌then◌else◌, refl}
use Rattle.std.specs.Int.{div_ceil}
use Rattle.std.proofs.Common.{Option, sym, ◌∙◌, ap, arith, get_or, drop-cons, append_assoc}
use Rattle.std.proofs.lemmas.Bool.Decides.{nat_tests}
use Rattle.std.proofs.lemmas.List.{drop_all, append-nil}
use Rattle.flat_mem.specs.declared.Area.{Area}
use Rattle.flat_mem.specs.Bytes.{stored, zeroed}
use Rattle.flat_mem.specs.Placement.{round_up, tagged_size, area_size, areas_size, first_word, addresses, area_made, areas_made}
use Rattle.flat_mem.proofs.AreaLaws.{area_size-least}

pub tagged-size_of : (n w t : ℕ) → w ≡ div_ceil n 8 → t ≡ div_ceil w 64 → 8 + 16 * w + 8 * t ≡ 8 + tagged_size n
unfolding tagged_size
tagged-size_of n w t words tags = omega (arith, words, tags)

too_large : (x y : ℕ) → y < x → false ≡ nat_le x y
too_large x y h = grind (arith, nat_tests)

pub size_of-tagged : (area : Area) (w t : ℕ) → area.tagged ≡ true → w ≡ div_ceil area.bytes 8 → t ≡ div_ceil w 64 → 8 + 16 * w + 8 * t ≡ area_size area
size_of-tagged area w t is words tags =
    tagged-size_of area.bytes w t words tags ∙ ap (λ b. 8 + (if b then tagged_size area.bytes else round_up area.bytes)) (sym is)

-- an area of more bytes than there is room doesn't fit
pub too_many-bytes : (area : Area) (room : ℕ) → room < area.bytes → ◌≡◌ {A = Option ℕ} None (if nat_le (area_size area) room then Some (area_size area) else None)
too_many-bytes area room more =
    let least : 8 + area.bytes ≤ area_size area = area_size-least area in
    ap (λ t. if t then Some (area_size area) else None) (too_large (area_size area) room (omega (arith, least, more)))

-- A size that was tested

pub within : (t : Bool) (size x : ℕ) → Some x ≡ (if t then Some size else None) → (x ≡ size) × (t ≡ true)
within true size x is = (cc (is), refl)
within false size x is = absurd (cc (is))

not_within : (t : Bool) (size : ℕ) → ◌≡◌ {A = Option ℕ} None (if t then Some size else None) → t ≡ false
not_within true size is = absurd (cc (is))
not_within false size is = refl

pub le_of : (x y : ℕ) → nat_le x y ≡ true → x ≤ y
le_of x y h = grind (arith, nat_tests)

lt_of : (x y : ℕ) → nat_le x y ≡ false → y < x
lt_of x y h = grind (arith, nat_tests)

fits_true : (x y : ℕ) → x ≤ y → true ≡ nat_le x y
fits_true x y h = grind (arith, nat_tests)

-- making one area: zeroed, then its first word stored
pub area_made-by : (area : Area) (bytes zeros new : List ℕ) (start size first : ℕ) → size ≡ area_size area → zeros ≡ zeroed size bytes start → first ≡ first_word area → new ≡ stored 8 zeros start first → new ≡ area_made area bytes start
unfolding area_made
area_made-by area bytes zeros new start size first is cleared word store =
    store ∙ (ap (stored 8 zeros start) word ∙ ap (λ l. stored 8 l start (first_word area)) (cleared ∙ ap (λ n. zeroed n bytes start) is))

-- what the check has for an element of a list where there is none
abbrev pub no_area : Area
no_area = record { tagged = false; bytes = 0 }

-- The areas that are left in a loop, from area k on

left : (areas : List Area) (k : ℕ) (d : Area) → k < length areas → areas_size (drop k areas) ≡ area_size (get_or areas k d) + areas_size (drop (k + 1) areas)
unfolding areas_size
left areas k d h =
    let more : suc k ≡ k + 1 = omega arith in
    ap areas_size (drop-cons areas k d h) ∙ ap (λ j. area_size (get_or areas k d) + areas_size (drop j areas)) more

none_left : (areas : List Area) (k : ℕ) → length areas ≤ k → areas_size (drop k areas) ≡ 0
unfolding areas_size
none_left areas k h = ap areas_size (drop_all k areas h)

pub all_fit-no : (areas : List Area) (k : ℕ) (d : Area) (room now : ℕ) → (areas_size (drop k areas) + room ≡ areas_size areas + now) × (now ≤ room) → k < length areas → ◌≡◌ {A = Option ℕ} None (if nat_le (area_size (get_or areas k d)) now then Some (area_size (get_or areas k d)) else None) → false ≡ nat_le (areas_size areas) room
all_fit-no areas k d room now kept h is =
    let over : now < area_size (get_or areas k d) = lt_of (area_size (get_or areas k d)) now (not_within (nat_le (area_size (get_or areas k d)) now) (area_size (get_or areas k d)) is) in
    let e : areas_size (drop k areas) ≡ area_size (get_or areas k d) + areas_size (drop (k + 1) areas) = left areas k d h in
    let sum : areas_size (drop k areas) + room ≡ areas_size areas + now = kept.0 in
    too_large (areas_size areas) room (omega (arith, over, e, sum))

pub all_fit-more : (areas : List Area) (k : ℕ) (d : Area) (room now x : ℕ) → (areas_size (drop k areas) + room ≡ areas_size areas + now) × (now ≤ room) → k < length areas → Some x ≡ (if nat_le (area_size (get_or areas k d)) now then Some (area_size (get_or areas k d)) else None) → (areas_size (drop (k + 1) areas) + room ≡ areas_size areas + (now - x)) × (now - x ≤ room)
all_fit-more areas k d room now x kept h is =
    let found = within (nat_le (area_size (get_or areas k d)) now) (area_size (get_or areas k d)) x is in
    let same : x ≡ area_size (get_or areas k d) = found.0 in
    let enough : area_size (get_or areas k d) ≤ now = le_of (area_size (get_or areas k d)) now found.1 in
    let e : areas_size (drop k areas) ≡ area_size (get_or areas k d) + areas_size (drop (k + 1) areas) = left areas k d h in
    let sum : areas_size (drop k areas) + room ≡ areas_size areas + now = kept.0 in
    (omega (arith, same, enough, e, sum), let low : now ≤ room = kept.1 in omega (arith, low))

pub all_fit-yes : (areas : List Area) (k : ℕ) (room now : ℕ) → (areas_size (drop k areas) + room ≡ areas_size areas + now) × (now ≤ room) → length areas ≤ k → true ≡ nat_le (areas_size areas) room
all_fit-yes areas k room now kept h =
    let none : areas_size (drop k areas) ≡ 0 = none_left areas k h in
    let sum : areas_size (drop k areas) + room ≡ areas_size areas + now = kept.0 in
    fits_true (areas_size areas) room (omega (arith, none, sum))

-- Where `at` and the areas from k on make up `end`, area k lies before `end`, and the next place is known
pub record Step (areas : List Area) (k : ℕ) (d : Area) (at end : ℕ) : Type 0 where
  pub next : at + area_size (get_or areas k d) + areas_size (drop (k + 1) areas) ≡ end
  pub before : at + area_size (get_or areas k d) ≤ end
  pub bytes : at + (get_or areas k d).bytes + 8 ≤ end

pub step : (areas : List Area) (k : ℕ) (d : Area) (at end : ℕ) → at + areas_size (drop k areas) ≡ end → k < length areas → Step areas k d at end
step areas k d at end sum h =
    let e : areas_size (drop k areas) ≡ area_size (get_or areas k d) + areas_size (drop (k + 1) areas) = left areas k d h in
    let least : 8 + (get_or areas k d).bytes ≤ area_size (get_or areas k d) = area_size-least (get_or areas k d) in
    record { next = omega (arith, e, sum); before = omega (arith, e, sum); bytes = omega (arith, e, sum, least) }

pub all_done : (areas : List Area) (k at end : ℕ) → at + areas_size (drop k areas) ≡ end → length areas ≤ k → at ≡ end
all_done areas k at end sum h = let none : areas_size (drop k areas) ≡ 0 = none_left areas k h in omega (arith, none, sum)

-- Making the next area, and the last

pub areas_made-next : (areas : List Area) (k : ℕ) (d : Area) (bytes now after : List ℕ) (start at next : ℕ) → areas_made (drop k areas) now at ≡ areas_made areas bytes start → k < length areas → after ≡ area_made (get_or areas k d) now at → next ≡ area_size (get_or areas k d) → areas_made (drop (k + 1) areas) after (at + next) ≡ areas_made areas bytes start
unfolding areas_made
areas_made-next areas k d bytes now after start at next is h made size =
    let more : k + 1 ≡ suc k = omega arith in
    ap (λ j. areas_made (drop j areas) after (at + next)) more
    ∙ (ap (λ l. areas_made (drop (suc k) areas) l (at + next)) made
    ∙ (ap (λ n. areas_made (drop (suc k) areas) (area_made (get_or areas k d) now at) (at + n)) size
    ∙ (sym (ap (λ l. areas_made l now at) (drop-cons areas k d h)) ∙ is)))

pub areas_made-done : (areas : List Area) (k : ℕ) (bytes now : List ℕ) (start at : ℕ) → areas_made (drop k areas) now at ≡ areas_made areas bytes start → length areas ≤ k → now ≡ areas_made areas bytes start
unfolding areas_made
areas_made-done areas k bytes now start at is h = sym (ap (λ l. areas_made l now at) (drop_all k areas h)) ∙ is

-- Listing the next address, and the last

pub addresses-next : (areas : List Area) (k : ℕ) (d : Area) (old now after : List ℕ) (start at next : ℕ) → now ++ addresses (drop k areas) at ≡ old ++ addresses areas start → k < length areas → after ≡ now ++ (at + 8) ∷ [] → next ≡ area_size (get_or areas k d) → after ++ addresses (drop (k + 1) areas) (at + next) ≡ old ++ addresses areas start
unfolding addresses
addresses-next areas k d old now after start at next is h pushed size =
    let more : k + 1 ≡ suc k = omega arith in
    let rest : List ℕ = addresses (drop (suc k) areas) (at + area_size (get_or areas k d)) in
    let cut : now ++ (at + 8) ∷ rest ≡ now ++ addresses (drop k areas) at = sym (ap (λ l. now ++ addresses l at) (drop-cons areas k d h)) in
    ap (λ j. after ++ addresses (drop j areas) (at + next)) more
    ∙ (ap (λ n. after ++ addresses (drop (suc k) areas) (at + n)) size
    ∙ (ap (λ l. l ++ rest) pushed
    ∙ (append_assoc now ((at + 8) ∷ []) rest ∙ (cut ∙ is))))

pub addresses-done : (areas : List Area) (k : ℕ) (old now : List ℕ) (start at : ℕ) → now ++ addresses (drop k areas) at ≡ old ++ addresses areas start → length areas ≤ k → now ≡ old ++ addresses areas start
unfolding addresses
addresses-done areas k old now start at is h =
    sym (append-nil now) ∙ (sym (ap (λ l. now ++ addresses l at) (drop_all k areas h)) ∙ is)

-- no areas

pub none-made : (areas : List Area) (bytes : List ℕ) (start : ℕ) → areas ≡ [] → bytes ≡ areas_made areas bytes start
unfolding areas_made
none-made areas bytes start is = rw is refl

pub none-end : (areas : List Area) (start : ℕ) → areas ≡ [] → start ≡ start + areas_size areas
unfolding areas_size
none-end areas start is = rw is (omega arith)

pub none-listed : (areas : List Area) (list : List ℕ) (start : ℕ) → areas ≡ [] → list ≡ list ++ addresses areas start
unfolding addresses
none-listed areas list start is = rw is (sym (append-nil list))

-- The frames that marks and addresses stand for, as frames are pushed and popped.
use Rattle.std.specs.Prelude.{◌≡◌, ℕ, zero, suc, ◌+◌, ◌-◌, ◌*◌, ◌≤◌, List, [], ◌∷◌, ◌++◌, length, map, reverse, take, drop, refl}
use Rattle.std.proofs.Common.{sym, ◌∙◌, ap, subst, arith, length-drop, length-take-le}
use Rattle.std.proofs.lemmas.List.{reverse-append, take-append-le, take_all, length-reverse, length-map, take-append-drop}
use Rattle.std.proofs.Math.Seq.{drop-length}
use Rattle.flat_mem.specs.declared.Area.{Area}
use Rattle.flat_mem.specs.declared.memory.Mark.{Mark}
use Rattle.flat_mem.specs.Placement.{areas_size}
use Rattle.flat_mem.specs.Memory.{frames_end, Consecutive}
use Rattle.flat_mem.specs.Marks.{frame_seen, frames_seen, MarksLie}

drop-append-le : (n : ℕ) (xs ys : List ℕ) → n ≤ length xs → drop n (xs ++ ys) ≡ drop n xs ++ ys
drop-append-le zero xs ys h = refl
drop-append-le (suc n) [] ys h = absurd (omega arith)
drop-append-le (suc n) (x ∷ xs) ys h = drop-append-le n xs ys (omega arith)

-- the addresses of a frame stay as others are added after them
part-same : (first count : ℕ) (xs ys : List ℕ) → first + count ≤ length xs → take count (drop first (xs ++ ys)) ≡ take count (drop first xs)
part-same first count xs ys h =
    let room : length (drop first xs) ≡ length xs - first = length-drop first xs in
    ap (take count) (drop-append-le first xs ys (omega arith)) ∙ take-append-le count (drop first xs) ys (omega (arith, room))

pub seen-same : (xs ys : List ℕ) (marks : List Mark) (total : ℕ) → MarksLie marks total → total ≤ length xs → map (frame_seen (xs ++ ys)) marks ≡ map (frame_seen xs) marks
seen-same xs ys [] total lie h = refl
seen-same xs ys (mark ∷ marks) total lie h =
    let here : mark.first + mark.count ≡ total = lie.0 in
    let one : frame_seen (xs ++ ys) mark ≡ frame_seen xs mark = ap (λ l. record { start = mark.start; end = mark.end; charge = mark.charge; addresses = l }) (part-same mark.first mark.count xs ys (omega (arith, here, h))) in
    ap (λ f. f ∷ map (frame_seen (xs ++ ys)) marks) one ∙ ap (λ l. frame_seen xs mark ∷ l) (seen-same xs ys marks mark.first lie.2 (omega (arith, here, h)))

-- Pushing a mark whose areas' addresses are added at the end

seen-last : (xs ys : List ℕ) (mark : Mark) → mark.first ≡ length xs → mark.count ≡ length ys → take mark.count (drop mark.first (xs ++ ys)) ≡ ys
seen-last xs ys mark first count =
    ap (λ n. take mark.count (drop n (xs ++ ys))) first
    ∙ (ap (take mark.count) (drop-append-le (length xs) xs ys (omega arith) ∙ ap (λ l. l ++ ys) (drop-length xs))
    ∙ take_all mark.count ys (omega (arith, count)))

pub seen-pushed : (xs ys : List ℕ) (marks : List Mark) (mark : Mark) → MarksLie (reverse marks) (length xs) → mark.first ≡ length xs → mark.count ≡ length ys → frames_seen (xs ++ ys) (marks ++ mark ∷ []) ≡ record { start = mark.start; end = mark.end; charge = mark.charge; addresses = ys } ∷ frames_seen xs marks
seen-pushed xs ys marks mark lie first count =
    let one : frame_seen (xs ++ ys) mark ≡ record { start = mark.start; end = mark.end; charge = mark.charge; addresses = ys } = ap (λ l. record { start = mark.start; end = mark.end; charge = mark.charge; addresses = l }) (seen-last xs ys mark first count) in
    ap (map (frame_seen (xs ++ ys))) (reverse-append marks (mark ∷ []))
    ∙ (ap (λ f. f ∷ map (frame_seen (xs ++ ys)) (reverse marks)) one
    ∙ ap (λ l. record { start = mark.start; end = mark.end; charge = mark.charge; addresses = ys } ∷ l) (seen-same xs ys (reverse marks) (length xs) lie (omega arith)))

-- Taking the last mark away, and the addresses of its areas

lie-last : (marks rest : List Mark) (mark : Mark) (total : ℕ) → marks ≡ rest ++ mark ∷ [] → MarksLie (reverse marks) total → MarksLie (mark ∷ reverse rest) total
lie-last marks rest mark total is lie = subst (λ l. MarksLie l total) (ap reverse is ∙ reverse-append rest (mark ∷ [])) lie

pub lie-popped : (marks rest : List Mark) (mark : Mark) (xs : List ℕ) → marks ≡ rest ++ mark ∷ [] → MarksLie (reverse marks) (length xs) → MarksLie (reverse rest) (length (take mark.first xs))
lie-popped marks rest mark xs is lie =
    let all : MarksLie (mark ∷ reverse rest) (length xs) = lie-last marks rest mark (length xs) is lie in
    let here : mark.first + mark.count ≡ length xs = all.0 in
    let size : mark.first ≡ length (take mark.first xs) = sym (length-take-le mark.first xs (omega (arith, here))) in
    subst (MarksLie (reverse rest)) size all.2

pub seen-popped : (marks rest : List Mark) (mark : Mark) (xs : List ℕ) → marks ≡ rest ++ mark ∷ [] → MarksLie (reverse marks) (length xs) → frames_seen xs marks ≡ frame_seen xs mark ∷ frames_seen (take mark.first xs) rest
seen-popped marks rest mark xs is lie =
    let all : MarksLie (mark ∷ reverse rest) (length xs) = lie-last marks rest mark (length xs) is lie in
    let here : mark.first + mark.count ≡ length xs = all.0 in
    let size : length (take mark.first xs) ≡ mark.first = length-take-le mark.first xs (omega (arith, here)) in
    let same : map (frame_seen xs) (reverse rest) ≡ map (frame_seen (take mark.first xs)) (reverse rest) =
    sym (ap (λ l. map (frame_seen l) (reverse rest)) (take-append-drop mark.first xs)) ∙ seen-same (take mark.first xs) (drop mark.first xs) (reverse rest) mark.first all.2 (omega (arith, size)) in
    ap (map (frame_seen xs)) (ap reverse is ∙ reverse-append rest (mark ∷ [])) ∙ ap (λ l. frame_seen xs mark ∷ l) same

-- Each area has at least eight bytes, so there are no more addresses than the frames have words

pub addresses-most : (start : ℕ) (xs : List ℕ) (marks : List Mark) (total : ℕ) → Consecutive start (map (frame_seen xs) marks) → MarksLie marks total → start + 8 * total ≤ frames_end start (map (frame_seen xs) marks)
addresses-most start xs [] total lie none = omega (arith, none)
addresses-most start xs (mark ∷ marks) total lie marks_lie =
    let rest : start + 8 * mark.first ≤ frames_end start (map (frame_seen xs) marks) = addresses-most start xs marks mark.first lie.3 marks_lie.2 in
    let begins : mark.start ≡ frames_end start (map (frame_seen xs) marks) = lie.0 in
    let sum : mark.first + mark.count ≡ total = marks_lie.0 in
    let words : mark.start + 8 * mark.count ≤ mark.end = marks_lie.1 in
    omega (arith, rest, begins, sum, words)

pub areas_size-words : (areas : List Area) → 8 * length areas ≤ areas_size areas
unfolding areas_size
areas_size-words [] = omega arith
areas_size-words (area ∷ areas) = let rest : 8 * length areas ≤ areas_size areas = areas_size-words areas in omega (arith, rest)

pub length-frames_seen : (xs : List ℕ) (marks : List Mark) → length (frames_seen xs marks) ≡ length marks
length-frames_seen xs marks = length-map (reverse marks) (frame_seen xs) ∙ length-reverse marks

-- The depth of an address is how many frames begin before it.
use Rattle.std.specs.Prelude.{◌≡◌, ℕ, zero, suc, ◌+◌, ◌-◌, ◌<◌, ◌≤◌, ◌⊎◌, Bool, true, false, cond, List, [], ◌∷◌, ◌++◌, length, map, reverse, take, count_by, nat_lt, refl}
use Rattle.std.proofs.Common.{sym, ◌∙◌, ap, subst, arith, inl, get_or, ⊎_elim}
use Rattle.std.proofs.lemmas.Bool.Decides.{nat_tests}
use Rattle.std.specs.List.Sorted.{IsNonDecreasingBy, IsPartitionedBy, IsPartitionPoint}
use Rattle.std.proofs.lemmas.List.{length-map, reverse-reverse, reverse-append, take_all, length_push}
use Rattle.std.proofs.Math.Seq.{get_or-append_seam}
use Rattle.std.proofs.lemmas.List.Sums.{sum_by_push, count_by_more_yes, count_by_more_no}
use Rattle.std.proofs.lemmas.List.Sorted.{IsNonDecreasingBy-short, IsNonDecreasingBy-push, IsPartitionedBy-ltb}
use Rattle.flat_mem.specs.declared.memory.Mark.{Mark}
use Rattle.flat_mem.specs.Memory.{Bounds, Memory, frames_end, Consecutive, depth_in, depth_of}
use Rattle.flat_mem.specs.Marks.{frame_seen, frames_seen, memory_seen, IsKept}
use Rattle.flat_mem.proofs.FrameLaws.{depth_in-newest, depth_in-older, depth_in-below, depth_in-past}

low_or_high : (a x : ℕ) → (a ≤ x) ⊎ (x < a)
low_or_high a x = grind arith

pub depth-past : (m : Memory) (bytes : List ℕ) (b : Bounds) (marks : List Mark) (xs : List ℕ) (t c h k r s a : ℕ) → memory_seen bytes b marks xs h k ≡ m → t < a → IsKept bytes b marks xs t c h k r s → 0 ≡ depth_of m a
depth-past m bytes b marks xs t c h k r s a seen past kept =
    let top : frames_end b.stack_start (frames_seen xs marks) ≡ t = kept.at_top in
    sym (depth_in-past b.stack_start (frames_seen xs marks) a kept.sound.consecutive (omega (arith, top, past))) ∙ ap (λ n. depth_of n a) seen

pub depth-below : (m : Memory) (bytes : List ℕ) (b : Bounds) (marks : List Mark) (xs : List ℕ) (t c h k r s a : ℕ) → memory_seen bytes b marks xs h k ≡ m → a ≤ b.stack_start → IsKept bytes b marks xs t c h k r s → 0 ≡ depth_of m a
depth-below m bytes b marks xs t c h k r s a seen low kept =
    sym (depth_in-below b.stack_start (frames_seen xs marks) a kept.sound.consecutive low) ∙ ap (λ n. depth_of n a) seen

-- a mark's frame begins before the address
abbrev pub begins_before : ℕ → Mark → Bool
begins_before a mark = nat_lt mark.start a

yes : (x a : ℕ) → x < a → nat_lt x a ≡ true
yes x a h = grind (arith, nat_tests)

no : (x a : ℕ) → a ≤ x → nat_lt x a ≡ false
no x a h = grind (arith, nat_tests)

reverse-first : (mark : Mark) (marks : List Mark) → reverse (mark ∷ marks) ≡ reverse marks ++ mark ∷ []
reverse-first mark marks = reverse-append (mark ∷ []) marks

count-newest : (a : ℕ) (mark : Mark) (marks : List Mark) → count_by (begins_before a) (reverse (mark ∷ marks)) ≡ count_by (begins_before a) (reverse marks) + cond (begins_before a mark) 1 0
count-newest a mark marks =
    ap (count_by (begins_before a)) (reverse-first mark marks) ∙ sum_by_push (λ m. cond (begins_before a m) 1 0) (reverse marks) mark

-- an address past all frames has all of them begin before it
count-all : (start a : ℕ) (xs : List ℕ) (marks : List Mark) → Consecutive start (map (frame_seen xs) marks) → frames_end start (map (frame_seen xs) marks) < a → count_by (begins_before a) (reverse marks) ≡ length marks
count-all start a xs [] lie past = refl
count-all start a xs (mark ∷ marks) lie past =
    let rest : count_by (begins_before a) (reverse marks) ≡ length marks = count-all start a xs marks lie.3 (omega (arith, lie.0, lie.1, past)) in
    let here : ◌≡◌ {A = ℕ} (cond (begins_before a mark) 1 0) 1 = ap (λ t. cond t 1 0) (yes mark.start a (omega (arith, lie.1, past))) in
    let sum : count_by (begins_before a) (reverse (mark ∷ marks)) ≡ count_by (begins_before a) (reverse marks) + cond (begins_before a mark) 1 0 = count-newest a mark marks in
    sum ∙ omega (arith, rest, here)

depth-count : (start a : ℕ) (xs : List ℕ) (marks : List Mark) → Consecutive start (map (frame_seen xs) marks) → a ≤ frames_end start (map (frame_seen xs) marks) → depth_in (map (frame_seen xs) marks) a ≡ count_by (begins_before a) (reverse marks)
depth-count start a xs [] lie most = refl
depth-count start a xs (mark ∷ marks) lie most =
    let sum : count_by (begins_before a) (reverse (mark ∷ marks)) ≡ count_by (begins_before a) (reverse marks) + cond (begins_before a mark) 1 0 = count-newest a mark marks in
    let size : length (map (frame_seen xs) marks) ≡ length marks = length-map marks (frame_seen xs) in
    ⊎_elim
    (λ low.
    let here : ◌≡◌ {A = ℕ} (cond (begins_before a mark) 1 0) 0 = ap (λ t. cond t 1 0) (no mark.start a low) in
    let older : depth_in (map (frame_seen xs) (mark ∷ marks)) a ≡ depth_in (map (frame_seen xs) marks) a = depth_in-older (frame_seen xs mark) (map (frame_seen xs) marks) a (inl low) in
    let rest : depth_in (map (frame_seen xs) marks) a ≡ count_by (begins_before a) (reverse marks) = depth-count start a xs marks lie.3 (omega (arith, low, lie.0)) in
    older ∙ (rest ∙ (omega (arith, here) ∙ sym sum)))
    (λ high.
    let here : ◌≡◌ {A = ℕ} (cond (begins_before a mark) 1 0) 1 = ap (λ t. cond t 1 0) (yes mark.start a high) in
    let newest : depth_in (map (frame_seen xs) (mark ∷ marks)) a ≡ suc (length (map (frame_seen xs) marks)) = depth_in-newest (frame_seen xs mark) (map (frame_seen xs) marks) a high most in
    let all : count_by (begins_before a) (reverse marks) ≡ length marks = count-all start a xs marks lie.3 (omega (arith, high, lie.0)) in
    newest ∙ (omega (arith, here, all, size) ∙ sym sum))
    (low_or_high a mark.start)

-- The marks lie in the order of their starts

last-push : (marks : List Mark) (mark d : Mark) → get_or (marks ++ mark ∷ []) (length (marks ++ mark ∷ []) - 1) d ≡ mark
last-push marks mark d =
    let size : length (marks ++ mark ∷ []) ≡ length marks + 1 = length_push marks mark in
    let last : length (marks ++ mark ∷ []) - 1 ≡ length marks = omega (arith, size) in
    ap (λ k. get_or (marks ++ mark ∷ []) k d) last ∙ get_or-append_seam marks mark [] d

newest-last : (mark : Mark) (marks : List Mark) (d : Mark) → get_or (reverse (mark ∷ marks)) (length (reverse (mark ∷ marks)) - 1) d ≡ mark
newest-last mark marks d = ap (λ l. get_or l (length l - 1) d) (reverse-first mark marks) ∙ last-push (reverse marks) mark d

sorted : (start : ℕ) (xs : List ℕ) (marks : List Mark) → Consecutive start (map (frame_seen xs) marks) → IsNonDecreasingBy (λ m. m.start) (reverse marks)
sorted start xs [] lie = IsNonDecreasingBy-short (λ m. m.start) [] (omega arith)
sorted start xs (mark ∷ []) lie = IsNonDecreasingBy-short (λ m. m.start) (mark ∷ []) (omega arith)
sorted start xs (mark ∷ (older ∷ marks)) lie =
    let ends : mark.start ≡ older.end = lie.0 in
    let long : older.start ≤ older.end = lie.3.1 in
    subst (IsNonDecreasingBy (λ m. m.start)) (sym (reverse-first mark (older ∷ marks)))
    (IsNonDecreasingBy-push (λ m. m.start) (reverse (older ∷ marks)) mark (sorted start xs (older ∷ marks) lie.3)
    (λ d h. subst (λ m. m.start ≤ mark.start) (sym (newest-last older marks d)) (omega (arith, ends, long))))

-- The place that a binary search finds is how many pass

no_mark : Mark
no_mark = record { start = 0; end = 0; charge = 0; first = 0; count = 0 }

pass : (p : Mark → Bool) (marks : List Mark) (r i : ℕ) → IsPartitionPoint (λ m. p m ≡ true) (λ m. p m ≡ false) marks r → r ≤ length marks → i ≤ r → count_by p (take i marks) ≡ i
pass p marks r zero part most h = refl
pass p marks r (suc i) part most h =
    let more : suc i ≡ i + 1 = omega arith in
    let before : count_by p (take i marks) ≡ i = pass p marks r i part most (omega arith) in
    let next : count_by p (take (i + 1) marks) ≡ count_by p (take i marks) + 1 = count_by_more_yes p marks i no_mark (omega arith) (part.0 i no_mark (omega arith) (omega arith)) in
    ap (λ k. count_by p (take k marks)) more ∙ omega (arith, next, before)

fail : (p : Mark → Bool) (marks : List Mark) (r j : ℕ) → IsPartitionPoint (λ m. p m ≡ true) (λ m. p m ≡ false) marks r → r + j ≤ length marks → count_by p (take (r + j) marks) ≡ r
fail p marks r zero part most =
    let same : r + 0 ≡ r = omega arith in
    ap (λ k. count_by p (take k marks)) same ∙ pass p marks r r part (omega arith) (omega arith)
fail p marks r (suc j) part most =
    let more : r + suc j ≡ r + j + 1 = omega arith in
    let before : count_by p (take (r + j) marks) ≡ r = fail p marks r j part (omega arith) in
    let next : count_by p (take (r + j + 1) marks) ≡ count_by p (take (r + j) marks) = count_by_more_no p marks (r + j) no_mark (omega arith) (part.1 (r + j) no_mark (omega arith) (omega arith)) in
    ap (λ k. count_by p (take k marks)) more ∙ (next ∙ before)

count-partition : (p : Mark → Bool) (marks : List Mark) (r : ℕ) → r ≤ length marks → IsPartitionPoint (λ m. p m ≡ true) (λ m. p m ≡ false) marks r → count_by p marks ≡ r
count-partition p marks r most part =
    let all : length marks ≡ r + (length marks - r) = omega arith in
    sym (ap (count_by p) (take_all (length marks) marks (omega arith))) ∙ (ap (λ k. count_by p (take k marks)) all ∙ fail p marks r (length marks - r) part (omega arith))

pub starts-partitioned : (bytes : List ℕ) (b : Bounds) (marks lent : List Mark) (xs : List ℕ) (t c h k r s a : ℕ) → lent ≡ marks → IsKept bytes b marks xs t c h k r s → IsPartitionedBy (begins_before a) lent
starts-partitioned bytes b marks lent xs t c h k r s a is kept =
    IsPartitionedBy-ltb (λ m. m.start) lent a
    (subst (IsNonDecreasingBy (λ m. m.start)) (reverse-reverse marks ∙ sym is) (sorted b.stack_start xs (reverse marks) kept.sound.consecutive))

pub depth-partition : (m : Memory) (bytes : List ℕ) (b : Bounds) (marks lent : List Mark) (xs : List ℕ) (t c h k r s a place : ℕ) → lent ≡ marks → memory_seen bytes b marks xs h k ≡ m → a ≤ t → place ≤ length lent → IsPartitionPoint (λ m. begins_before a m ≡ true) (λ m. begins_before a m ≡ false) lent place → IsKept bytes b marks xs t c h k r s → place ≡ depth_of m a
depth-partition m bytes b marks lent xs t c h k r s a place is seen most bound part kept =
    let top : frames_end b.stack_start (frames_seen xs marks) ≡ t = kept.at_top in
    sym (count-partition (begins_before a) lent place bound part)
    ∙ (ap (count_by (begins_before a)) (is ∙ sym (reverse-reverse marks))
    ∙ (sym (depth-count b.stack_start a xs (reverse marks) kept.sound.consecutive (omega (arith, top, most)))
    ∙ ap (λ n. depth_of n a) seen))

-- Laws on stacks, and on what is seen of the maps that keep them.
use Rattle.std.proofs.Common.{◌≡◌, suc, ◌+◌, ◌-◌, ◌<◌, Bool, true, false, cond, List, [], ◌∷◌, ◌++◌, length, take, get_or, slice_get, slice_set, Result, Ok, Err, OnErr, Option, Some, None, refl, ap, sym, ◌∙◌, subst, bytes_eq, if◌then◌else◌, append_assoc, append-nil, length-append, true≢false, arith}
use Rattle.std.specs.List.{IsDistinct, AllByRecursion}
use Rattle.std.specs.Map.{lookup, set_value, keys_of}
use Rattle.std.specs.Option.{option_to_list}
use Rattle.std.proofs.lemmas.Map.Keys.{IsDistinct-head, IsDistinct-tail}
use Rattle.std.proofs.lemmas.Option.{none-some, same_Some, slice_get-get_or}
use Rattle.std.proofs.lemmas.Slice.Eq.{bytes_eq-Decides}
use Rattle.std.proofs.Math.Seq.{take-append_seam, set-append_seam}
use Rattle.indexmap.specs.IndexMap.{insert_entry}
use Rattle.named_lists.specs.Entries.{Name, entry_of, with_entry, seen_entries}
use Rattle.named_lists.specs.Stacks.{stack_of, top_of, without_top, with_top, AreStacksOf, ChangesStack, GetsList, HaveSameStacks, KeepsLists, LosesList, entries_of, seen_stacks, with_each, without_each}

same_name : (a b : Name) → bytes_eq a b ≡ true → a ≡ b
same_name a b h = (bytes_eq-Decides a b).0 h

-- a name that is b is not a, where these differ
apart : (n a b : Name) → bytes_eq a b ≡ false → bytes_eq n b ≡ true → bytes_eq n a ≡ false
apart n a b differ is_b = by (bytes_eq n a) refl
  where
    by : (c : Bool) → bytes_eq n a ≡ c → c ≡ false
    by true is_a = absurd (true≢false (sym ((bytes_eq-Decides a b).1 (sym (same_name n a is_a) ∙ same_name n b is_b)) ∙ differ))
    by false is_a = refl

-- What is looked up in a map

module _ {K V A : Type 0} (bytes : K → Name) (items : V → List A) (name : Name) (test : K → Bool) (same : (k : K) → test k ≡ bytes_eq name (bytes k)) where
  pub stack-found : (es : List (K × V)) (v : V) → lookup test es ≡ Some v → stack_of (seen_stacks bytes items es) name ≡ items v
  stack-found [] v h = absurd (none-some v h)
  stack-found (e ∷ es) v h =
      ap (λ b. if b then items e.1 else stack_of (seen_stacks bytes items es) name) (sym (same e.0)) ∙ by (test e.0) h (λ g. stack-found es v g)
    where
      by : (b : Bool) → cond b (Some e.1) (lookup test es) ≡ Some v → (lookup test es ≡ Some v → stack_of (seen_stacks bytes items es) name ≡ items v)
          → (if b then items e.1 else stack_of (seen_stacks bytes items es) name) ≡ items v
      by true g later = ap items (same_Some e.1 v g)
      by false g later = later g

  pub stack-absent : (es : List (K × V)) → lookup test es ≡ None → stack_of (seen_stacks bytes items es) name ≡ []
  stack-absent [] h = refl
  stack-absent (e ∷ es) h =
      ap (λ b. if b then items e.1 else stack_of (seen_stacks bytes items es) name) (sym (same e.0)) ∙ by (test e.0) h (λ g. stack-absent es g)
    where
      by : (b : Bool) → cond b (Some e.1) (lookup test es) ≡ None → (lookup test es ≡ None → stack_of (seen_stacks bytes items es) name ≡ [])
          → (if b then items e.1 else stack_of (seen_stacks bytes items es) name) ≡ []
      by true g later = absurd (none-some e.1 (sym g))
      by false g later = later g

-- A stack that is changed

-- one entry, where the name is another one: with the entries behind it, before and after
passed : {A : Type 0} (f : List A → List A) (c d : Bool) (here now later : List A) → (d ≡ true → c ≡ false) → now ≡ (if c then f later else later)
    → (if d then here else now) ≡ (if c then f (if d then here else later) else (if d then here else later))
passed f c true here now later other step = sym (ap (λ b. if b then f here else here) (other refl))
passed f true false here now later other step = step
passed f false false here now later other step = step

-- the entry of the name
changed : {A : Type 0} (f : List A → List A) (d : Bool) (here now later : List A) → now ≡ f here
    → (if d then now else later) ≡ (if d then f (if d then here else later) else (if d then here else later))
changed f true here now later step = step
changed f false here now later step = refl

module _ {K V A : Type 0} (bytes : K → Name) (items : V → List A) (f : List A → List A) (name : Name) (test : K → Bool)
    (same : (k : K) → test k ≡ bytes_eq name (bytes k))
    (v w : V) (step : items w ≡ f (items v)) where
  pub stack-written : (es : List (K × V)) → lookup test es ≡ Some v
      → ChangesStack name f (seen_stacks bytes items es) (seen_stacks bytes items (set_value test es w))
  stack-written [] h n = absurd (none-some v h)
  stack-written (e ∷ es) h n = by (test e.0) (sym (same e.0)) h (λ g. stack-written es g n)
    where
      by : (b : Bool) → bytes_eq name (bytes e.0) ≡ b → cond b (Some e.1) (lookup test es) ≡ Some v
          → (lookup test es ≡ Some v → stack_of (seen_stacks bytes items (set_value test es w)) n
          ≡ (if bytes_eq n name then f (stack_of (seen_stacks bytes items es) n) else stack_of (seen_stacks bytes items es) n))
          → stack_of (seen_stacks bytes items (cond b ((e.0, w) ∷ es) (e ∷ set_value test es w))) n
          ≡ (if bytes_eq n name then f (stack_of (seen_stacks bytes items (e ∷ es)) n) else stack_of (seen_stacks bytes items (e ∷ es)) n)
      by true is g later =
          changed f (bytes_eq n (bytes e.0)) (items e.1) (items w) (stack_of (seen_stacks bytes items es) n)
          (step ∙ ap (λ u. f (items u)) (sym (same_Some e.1 v g)))
          ∙ ap (λ m. if bytes_eq n m then f (stack_of (seen_stacks bytes items (e ∷ es)) n) else stack_of (seen_stacks bytes items (e ∷ es)) n)
          (sym (same_name name (bytes e.0) is))
      by false is g later =
          passed f (bytes_eq n name) (bytes_eq n (bytes e.0)) (items e.1) (stack_of (seen_stacks bytes items (set_value test es w)) n)
          (stack_of (seen_stacks bytes items es) n) (apart n name (bytes e.0) is) (later g)

-- what is put into a map is the stack of its name
module _ {K V A : Type 0} (bytes : K → Name) (items : V → List A) (eq : K → K → Bool) (k : K) (v : V)
    (same : (x : K) → eq k x ≡ bytes_eq (bytes k) (bytes x)) where
  pub stack-inserted : (es : List (K × V))
      → ChangesStack (bytes k) (λ stack. items v) (seen_stacks bytes items es) (seen_stacks bytes items (insert_entry eq es k v))
  stack-inserted [] n = refl
  stack-inserted (e ∷ es) n = by (eq k e.0) (sym (same e.0)) (stack-inserted es n)
    where
      by : (b : Bool) → bytes_eq (bytes k) (bytes e.0) ≡ b
          → stack_of (seen_stacks bytes items (insert_entry eq es k v)) n ≡ (if bytes_eq n (bytes k) then items v else stack_of (seen_stacks bytes items es) n)
          → stack_of (seen_stacks bytes items (cond b ((e.0, v) ∷ es) (e ∷ insert_entry eq es k v))) n
          ≡ (if bytes_eq n (bytes k) then items v else stack_of (seen_stacks bytes items (e ∷ es)) n)
      by true is later =
          changed (λ stack. items v) (bytes_eq n (bytes e.0)) (items e.1) (items v) (stack_of (seen_stacks bytes items es) n) refl
          ∙ ap (λ m. if bytes_eq n m then items v else stack_of (seen_stacks bytes items (e ∷ es)) n) (sym (same_name (bytes k) (bytes e.0) is))
      by false is later =
          passed (λ stack. items v) (bytes_eq n (bytes k)) (bytes_eq n (bytes e.0)) (items e.1) (stack_of (seen_stacks bytes items (insert_entry eq es k v)) n)
          (stack_of (seen_stacks bytes items es) n) (apart n (bytes k) (bytes e.0) is) later

-- where the stack of the name is this, g may stand for f if it gives the same of it
pub stack-alike : {A : Type 0} (f g : List A → List A) (name : Name) (stack : List A) (old new : List (Name × List A)) → stack_of old name ≡ stack
    → f stack ≡ g stack
    → ChangesStack name f old new → ChangesStack name g old new
stack-alike f g name stack old new is alike changes n = by (bytes_eq n name) refl (changes n)
  where
    by : (b : Bool) → bytes_eq n name ≡ b → stack_of new n ≡ (if b then f (stack_of old n) else stack_of old n)
        → stack_of new n ≡ (if b then g (stack_of old n) else stack_of old n)
    by true at h =
        let here : stack_of old n ≡ stack = ap (stack_of old) (same_name n name at) ∙ is in
        h ∙ ap f here ∙ alike ∙ ap g (sym here)
    by false at h = h

-- nothing is changed where the stack stays as it is
pub stack-kept : {A : Type 0} (f : List A → List A) (name : Name) (stack : List A) (old : List (Name × List A)) → stack_of old name ≡ stack
    → stack ≡ f stack → ChangesStack name f old old
stack-kept f name stack old is stays = stack-alike (λ s. s) f name stack old old is stays (λ n. both (bytes_eq n name) (stack_of old n))
  where
    both : {A : Type 0} (b : Bool) (s : List A) → s ≡ (if b then s else s)
    both true s = refl
    both false s = refl

pub stays-same : {A : Type 0} (name : Name) (old new : List (Name × List A)) → ChangesStack name (λ stack. stack) old new → HaveSameStacks old new
stays-same name old new changes n = changes n ∙ by (bytes_eq n name)
  where
    by : (b : Bool) → (if b then stack_of old n else stack_of old n) ≡ stack_of old n
    by true = refl
    by false = refl

-- What a map shows after a call that put a stack in, wrote through one, or found none

pub begun : {K V A : Type 0} (bytes : K → Name) (items : V → List A) (eq : K → K → Bool) (k : K) (v : V) → ((x : K) → eq k x ≡ bytes_eq (bytes k) (bytes x))
    → (es after : List (K × V)) (name : Name) (what : List A) (old : List (Name × List A)) → seen_stacks bytes items es ≡ old → bytes k ≡ name → items v ≡ what
    → after ≡ insert_entry eq es k v → ChangesStack name (λ stack. what) old (seen_stacks bytes items after)
begun bytes items eq k v same es after name what old seen named holds made n =
    ap (λ xs. stack_of (seen_stacks bytes items xs) n) made
    ∙ stack-inserted bytes items eq k v same es n
    ∙ ap (λ m. if bytes_eq n m then items v else stack_of (seen_stacks bytes items es) n) named
    ∙ ap (λ l. if bytes_eq n name then l else stack_of (seen_stacks bytes items es) n) holds
    ∙ ap (λ o. if bytes_eq n name then what else stack_of o n) seen

module _ {K V A : Type 0} (bytes : K → Name) (items : V → List A) (f : List A → List A) (name : Name) (test : K → Bool)
    (same : (k : K) → test k ≡ bytes_eq name (bytes k))
    (es after : List (K × V)) (old : List (Name × List A)) (seen : seen_stacks bytes items es ≡ old) where
  pub written : (v w : V) → lookup test es ≡ Some v → after ≡ set_value test es w → items w ≡ f (items v)
      → ChangesStack name f old (seen_stacks bytes items after)
  written v w found made step n =
      ap (λ xs. stack_of (seen_stacks bytes items xs) n) made
      ∙ stack-written bytes items f name test same v w step es found n
      ∙ ap (λ o. if bytes_eq n name then f (stack_of o n) else stack_of o n) seen

  pub unwritten : lookup test es ≡ None → after ≡ es → [] ≡ f [] → ChangesStack name f old (seen_stacks bytes items after)
  unwritten none stays step n =
      ap (λ xs. stack_of (seen_stacks bytes items xs) n) stays
      ∙ stack-kept f name [] (seen_stacks bytes items es) (stack-absent bytes items name test same es none) step n
      ∙ ap (λ o. if bytes_eq n name then f (stack_of o n) else stack_of o n) seen

-- what holds where a call failed
pub on-err : {T E : Type 0} (P : Type 0) (r : Result T E) → P → OnErr r P
on-err P (Ok x) p = tt
on-err P (Err e) p = p

-- What is on top

top_at : {A : Type 0} (xs : List A) (x : A) → length (xs ++ x ∷ []) - 1 ≡ length xs
top_at xs x = let l = length-append xs (x ∷ []) in omega (arith, l)

pub without-pushed : {A : Type 0} (xs : List A) (x : A) → without_top (xs ++ x ∷ []) ≡ xs
without-pushed xs x = ap (λ n. take n (xs ++ x ∷ [])) (top_at xs x) ∙ take-append_seam xs (x ∷ [])

pub with-pushed : {A : Type 0} (xs : List A) (x y : A) → with_top y (xs ++ x ∷ []) ≡ xs ++ y ∷ []
with-pushed xs x y = ap (λ n. slice_set (xs ++ x ∷ []) n y) (top_at xs x) ∙ set-append_seam xs x [] y

pub with-none : {A : Type 0} (xs : List A) (y : A) → length xs ≡ 0 → xs ≡ with_top y xs
with-none [] y h = refl
with-none (x ∷ xs) y h = absurd (omega arith)

-- what is on top of one and more others
pub top-later : {A : Type 0} (x y : A) (ys : List A) → top_of (x ∷ (y ∷ ys)) ≡ Some (get_or (y ∷ ys) (length ys) y)
top-later x y ys =
    let e : length (x ∷ (y ∷ ys)) - 1 ≡ suc (length ys) = omega arith in
    ap (slice_get (x ∷ (y ∷ ys))) e ∙ slice_get-get_or (x ∷ (y ∷ ys)) (suc (length ys)) y (omega arith)

pub top-some : {A : Type 0} (y : A) (ys : List A) → top_of (y ∷ ys) ≡ Some (get_or (y ∷ ys) (length ys) y)
top-some y ys =
    let e : length (y ∷ ys) - 1 ≡ length ys = omega arith in
    ap (slice_get (y ∷ ys)) e ∙ slice_get-get_or (y ∷ ys) (length ys) y (omega arith)

-- Each name of a list

-- a name that is not among these keeps its stack
not_pushed : {K A : Type 0} (bytes : K → Name) (eq : K → K → Bool) (k : K) → ((x : K) → eq k x ≡ bytes_eq (bytes k) (bytes x))
    → (es : List (K × A)) → AllByRecursion (λ x. eq k x ≡ false) (keys_of es)
    → (xs : List A) → with_each (bytes k) (seen_entries bytes es) xs ≡ xs
not_pushed bytes eq k same [] none xs = refl
not_pushed bytes eq k same (e ∷ es) none xs =
    ap (λ b. with_each (bytes k) (seen_entries bytes es) (if b then xs ++ e.1 ∷ [] else xs)) (sym (same e.0) ∙ none.0)
    ∙ not_pushed bytes eq k same es none.1 xs

-- a map has each name once
pub each-pushed : {K A : Type 0} (bytes : K → Name) (eq : K → K → Bool) → ((k x : K) → eq k x ≡ bytes_eq (bytes k) (bytes x)) → (es : List (K × A))
    → IsDistinct eq (keys_of es)
    → (n : Name) (xs : List A) → with_each n (seen_entries bytes es) xs ≡ xs ++ option_to_list (entry_of (seen_entries bytes es) n)
each-pushed bytes eq same [] distinct n xs = sym (append-nil xs)
each-pushed {K} {A} bytes eq same (e ∷ es) distinct n xs =
    by (bytes_eq n (bytes e.0)) refl (each-pushed bytes eq same es (IsDistinct-tail eq e.0 (keys_of es) distinct) n xs)
  where
    by : (b : Bool) → bytes_eq n (bytes e.0) ≡ b → with_each n (seen_entries bytes es) xs ≡ xs ++ option_to_list (entry_of (seen_entries bytes es) n)
        → with_each n (seen_entries bytes es) (if b then xs ++ e.1 ∷ [] else xs)
        ≡ xs ++ option_to_list (if b then Some e.1 else entry_of (seen_entries bytes es) n)
    by true is later =
        subst (λ m. with_each m (seen_entries bytes es) (xs ++ e.1 ∷ []) ≡ xs ++ e.1 ∷ []) (sym (same_name n (bytes e.0) is))
        (not_pushed bytes eq e.0 (same e.0) es (IsDistinct-head eq e.0 (keys_of es) distinct) (xs ++ e.1 ∷ []))
    by false is later = later

without_later : {A : Type 0} (n : Name) (es : List (Name × A)) (xs : List A) → without_each n es (without_top xs) ≡ without_top (without_each n es xs)
without_later n [] xs = refl
without_later {A} n (e ∷ es) xs = by (bytes_eq n e.0) (λ ys. without_later n es ys)
  where
    by : (b : Bool) → ((ys : List A) → without_each n es (without_top ys) ≡ without_top (without_each n es ys))
        → without_each n es (if b then without_top (without_top xs) else without_top xs) ≡ without_top (without_each n es (if b then without_top xs else xs))
    by true later = later (without_top xs)
    by false later = later xs

-- what was put on the stack of each is taken away again
pub each-taken : {A : Type 0} (n : Name) (es : List (Name × A)) (xs : List A) → without_each n es (with_each n es xs) ≡ xs
each-taken n [] xs = refl
each-taken {A} n (e ∷ es) xs = by (bytes_eq n e.0) (λ ys. each-taken n es ys)
  where
    by : (b : Bool) → ((ys : List A) → without_each n es (with_each n es ys) ≡ ys)
        → without_each n es (if b then without_top (with_each n es (if b then xs ++ e.1 ∷ [] else xs))
        else with_each n es (if b then xs ++ e.1 ∷ [] else xs)) ≡ xs
    by true later = without_later n es (with_each n es (xs ++ e.1 ∷ [])) ∙ ap without_top (later (xs ++ e.1 ∷ [])) ∙ without-pushed xs e.1
    by false later = later xs

-- one more
pub with_each-push : {K A : Type 0} (bytes : K → Name) (n : Name) (es : List (K × A)) (e : K × A) (xs : List A)
    → with_each n (seen_entries bytes (es ++ e ∷ [])) xs
    ≡ (if bytes_eq n (bytes e.0) then with_each n (seen_entries bytes es) xs ++ e.1 ∷ [] else with_each n (seen_entries bytes es) xs)
with_each-push bytes n [] e xs = refl
with_each-push bytes n (d ∷ es) e xs = with_each-push bytes n es e (if bytes_eq n (bytes d.0) then xs ++ d.1 ∷ [] else xs)

-- the next of a map's entries is put on its stack
pub next-pushed : {K A : Type 0} (bytes : K → Name) (all done rest later : List (K × A)) (e : K × A) (name : Name) (old now new : List (Name × List A))
    → all ≡ done ++ rest → rest ≡ e ∷ later → name ≡ bytes e.0
    → ((n : Name) → stack_of now n ≡ with_each n (seen_entries bytes done) (stack_of old n)) → ChangesStack name (λ stack. stack ++ e.1 ∷ []) now new
    → (all ≡ (done ++ e ∷ []) ++ later) × ((n : Name) → stack_of new n ≡ with_each n (seen_entries bytes (done ++ e ∷ [])) (stack_of old n))
next-pushed bytes all done rest later e name old now new whole next named made changes = (
  whole ∙ ap (λ r. done ++ r) next ∙ sym (append_assoc done (e ∷ []) later),
  λ n. changes n
      ∙ ap (λ m. if bytes_eq n m then stack_of now n ++ e.1 ∷ [] else stack_of now n) named
      ∙ ap (λ s. if bytes_eq n (bytes e.0) then s ++ e.1 ∷ [] else s) (made n)
      ∙ sym (with_each-push bytes n done e (stack_of old n)),
)

-- a list that has no first entry
pub none-left : {X : Type 0} (rest : List X) → (0 < length rest → false ≡ true) → rest ≡ []
none-left [] h = refl
none-left (x ∷ rest) h = absurd (true≢false (sym (h (omega arith))))

-- Stacks of lists

pub entries-pushed : {A : Type 0} (lists : List (List (Name × A))) (es : List (Name × A)) (n : Name)
    → entries_of (lists ++ es ∷ []) n ≡ entries_of lists n ++ option_to_list (entry_of es n)
entries-pushed [] es n = append-nil (option_to_list (entry_of es n))
entries-pushed (fs ∷ lists) es n =
    ap (λ r. option_to_list (entry_of fs n) ++ r) (entries-pushed lists es n)
    ∙ sym (append_assoc (option_to_list (entry_of fs n)) (entries_of lists n) (option_to_list (entry_of es n)))

-- with a map behind the lists
pub all-pushed : {K A : Type 0} (bytes : K → Name) (eq : K → K → Bool) → ((k x : K) → eq k x ≡ bytes_eq (bytes k) (bytes x)) → (es : List (K × A))
    → IsDistinct eq (keys_of es)
    → (old new : List (Name × List A)) → ((n : Name) → stack_of new n ≡ with_each n (seen_entries bytes es) (stack_of old n))
    → GetsList (seen_entries bytes es) old new
all-pushed bytes eq same es distinct old new made outer are n =
    made n
    ∙ ap (with_each n (seen_entries bytes es)) (are n)
    ∙ each-pushed bytes eq same es distinct n (entries_of outer n)
    ∙ sym (entries-pushed outer (seen_entries bytes es) n)

-- and without it again
pub all-taken : {K A : Type 0} (bytes : K → Name) (eq : K → K → Bool) → ((k x : K) → eq k x ≡ bytes_eq (bytes k) (bytes x)) → (es : List (K × A))
    → IsDistinct eq (keys_of es)
    → (old new : List (Name × List A)) → ((n : Name) → stack_of new n ≡ without_each n (seen_entries bytes es) (stack_of old n))
    → LosesList (seen_entries bytes es) old new
all-taken bytes eq same es distinct old new made outer are n =
    made n
    ∙ ap (without_each n (seen_entries bytes es)) (are n ∙ entries-pushed outer (seen_entries bytes es) n
    ∙ sym (each-pushed bytes eq same es distinct n (entries_of outer n)))
    ∙ each-taken n (seen_entries bytes es) (entries_of outer n)

-- and of the same lists, where the stacks are the same
pub same-kept : {A : Type 0} (old new : List (Name × List A)) → HaveSameStacks old new → KeepsLists old new
same-kept old new same outer are n = same n ∙ are n

-- where one of them was not put: the stacks as they were
pub done-taken : {K A : Type 0} (bytes : K → Name) (all done rest front : List (K × A)) (old now new failed : List (Name × List A))
    → all ≡ done ++ rest → front ≡ take (length all - length rest) all
    → ((n : Name) → stack_of now n ≡ with_each n (seen_entries bytes done) (stack_of old n)) → HaveSameStacks now failed
    → ((n : Name) → stack_of new n ≡ without_each n (seen_entries bytes front) (stack_of failed n)) → HaveSameStacks old new
done-taken bytes all done rest front old now new failed whole taken made same gone n =
    let l : length all ≡ length done + length rest = ap length whole ∙ length-append done rest in
    let e : length all - length rest ≡ length done = omega (arith, l) in
    let f : front ≡ done = taken ∙ ap (λ k. take k all) e ∙ ap (take (length done)) whole ∙ take-append_seam done rest in
    gone n
    ∙ ap (λ es. without_each n (seen_entries bytes es) (stack_of failed n)) f
    ∙ ap (without_each n (seen_entries bytes done)) (same n ∙ made n)
    ∙ each-taken n (seen_entries bytes done) (stack_of old n)

-- One entry more, or another one

entry_with : {A : Type 0} (name : Name) (what : A) (es : List (Name × A)) (n : Name)
    → entry_of (with_entry name what es) n ≡ (if bytes_eq n name then Some what else entry_of es n)
entry_with name what [] n = refl
entry_with name what (e ∷ es) n = by (bytes_eq name e.0) refl (entry_with name what es n)
  where
    two : {A : Type 0} (d : Bool) (x y rest : Option A) → (if d then x else rest) ≡ (if d then x else if d then y else rest)
    two true x y rest = refl
    two false x y rest = refl

    other : {A : Type 0} (c d : Bool) (x y now rest : Option A) → (d ≡ true → c ≡ false) → now ≡ (if c then x else rest)
        → (if d then y else now) ≡ (if c then x else if d then y else rest)
    other c true x y now rest differ step = sym (ap (λ b. if b then x else y) (differ refl))
    other true false x y now rest differ step = step
    other false false x y now rest differ step = step

    by : (b : Bool) → bytes_eq name e.0 ≡ b → entry_of (with_entry name what es) n ≡ (if bytes_eq n name then Some what else entry_of es n)
        → entry_of (if b then (e.0, what) ∷ es else e ∷ with_entry name what es) n ≡ (if bytes_eq n name then Some what else entry_of (e ∷ es) n)
    by true is later =
        two (bytes_eq n e.0) (Some what) (Some e.1) (entry_of es n)
        ∙ ap (λ m. if bytes_eq n m then Some what else entry_of (e ∷ es) n) (sym (same_name name e.0 is))
    by false is later =
        other (bytes_eq n name) (bytes_eq n e.0) (Some what) (Some e.1) (entry_of (with_entry name what es) n) (entry_of es n) (apart n name e.0 is) later

-- what a change of the stack of a name makes of the last list
pub last-changed : {A : Type 0} (f : List A → List A) (name : Name) (what : A)
    → (outer : List (List (Name × A))) (es : List (Name × A)) (old new : List (Name × List A))
    → ((xs : List A) → f (xs ++ option_to_list (entry_of es name)) ≡ xs ++ what ∷ []) → ChangesStack name f old new
    → AreStacksOf (outer ++ es ∷ []) old → AreStacksOf (outer ++ with_entry name what es ∷ []) new
last-changed f name what outer es old new puts changes are n =
    changes n
    ∙ ap (λ s. if bytes_eq n name then f s else s) (are n ∙ entries-pushed outer es n)
    ∙ by (bytes_eq n name) refl
    ∙ sym (entries-pushed outer (with_entry name what es) n ∙ ap (λ o. entries_of outer n ++ option_to_list o) (entry_with name what es n))
  where
    by : (b : Bool) → bytes_eq n name ≡ b
        → (if b then f (entries_of outer n ++ option_to_list (entry_of es n)) else entries_of outer n ++ option_to_list (entry_of es n))
        ≡ entries_of outer n ++ option_to_list (if b then Some what else entry_of es n)
    by true is = ap (λ m. f (entries_of outer n ++ option_to_list (entry_of es m))) (same_name n name is) ∙ puts (entries_of outer n)
    by false is = refl

-- a name that the last list does not have is put there
pub last-pushed : {A : Type 0} (name : Name) (what : A) (outer : List (List (Name × A))) (es : List (Name × A)) (old new : List (Name × List A))
    → entry_of es name ≡ None
    → ChangesStack name (λ stack. stack ++ what ∷ []) old new → AreStacksOf (outer ++ es ∷ []) old → AreStacksOf (outer ++ with_entry name what es ∷ []) new
last-pushed name what outer es old new none =
    last-changed (λ stack. stack ++ what ∷ []) name what outer es old new
    (λ xs. ap (λ o. (xs ++ option_to_list o) ++ what ∷ []) none ∙ ap (λ ys. ys ++ what ∷ []) (append-nil xs))

-- what stands beside a name there becomes another one
pub last-set : {A : Type 0} (name : Name) (what was : A) (outer : List (List (Name × A))) (es : List (Name × A)) (old new : List (Name × List A))
    → entry_of es name ≡ Some was
    → ChangesStack name (with_top what) old new → AreStacksOf (outer ++ es ∷ []) old → AreStacksOf (outer ++ with_entry name what es ∷ []) new
last-set name what was outer es old new some =
    last-changed (with_top what) name what outer es old new
    (λ xs. ap (λ o. with_top what (xs ++ option_to_list o)) some ∙ with-pushed xs was what)

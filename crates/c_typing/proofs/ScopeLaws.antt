-- Laws on scopes, and on what is seen of the maps that keep them.
use Rattle.std.proofs.Common.{◌≡◌, ℕ, suc, ◌+◌, ◌-◌, not, ◌<◌, Bool, true, false, cond, List, [], ◌∷◌, ◌++◌, length, take, get_or, slice_set, map, nat_lt, Result, Ok, Err, OnOk, Option, Some, None, refl, ap, sym, ◌∙◌, bytes_eq, subst, ◌||◌, append-nil, if◌then◌else◌, arith}
use Rattle.std.specs.List.{list_any, position, position_or_len}
use Rattle.std.specs.Option.{option_to_list}
use Rattle.std.proofs.lemmas.List.{length-map, map-append}
use Rattle.std.proofs.lemmas.Bool.Decides.{nat_tests}
use Rattle.std.proofs.lemmas.Option.{none-some}
use Rattle.indexmap.specs.IndexMap.{insert_entry}
use Rattle.indexmap.specs.IndexSet.{insert_key}
use Rattle.c_typing.specs.declared.declared.Declared.{Declared}
use Rattle.c_typing.specs.declared.declared.Tag.{Tag}
use Rattle.named_lists.specs.Stacks.{stack_of, top_of, without_top, with_top, AreStacksOf, ChangesStack, GetsList, HaveSameStacks, LosesList, entries_of}
use Rattle.named_lists.proofs.EntryLaws.{insert-seen, entry-last}
use Rattle.named_lists.proofs.StackLaws.{entries-pushed, last-pushed, last-set, top-later, top-some, without-pushed}
use Rattle.c_typing.specs.Scopes.{Name, Level, Seen, entry_of, with_entry, seen_entries, with_name, with_tag, with_tag_set, with_scopes, empty_level, tag_here, at_innermost, or_outer, name_in, tag_in, innermost, without_innermost, place_among}

abbrev level : List (Name × Declared) → List (Name × Tag) → Level
level names tags = record { names = names; tags = tags }

-- a map of names with one more
pub names-declared : {K : Type 0} (bytes : K → Name) (eq : K → K → Bool) → ((k x : K) → eq k x ≡ bytes_eq (bytes k) (bytes x))
    → (es changed : List (K × Declared)) (tags : List (Name × Tag)) (k : K) (name : Name) (what : Declared) (l : Level)
    → level (seen_entries bytes es) tags ≡ l → bytes k ≡ name → changed ≡ insert_entry eq es k what → entry_of l.names name ≡ None
    → level (seen_entries bytes changed) tags ≡ with_name name what l
names-declared bytes eq same es changed tags k name what l seen named made =
    let P : Level → Type 0 = λ m. entry_of m.names name ≡ None → level (seen_entries bytes changed) tags ≡ with_name name what m in
    subst P seen (λ none. ap (λ ns. level ns tags) (ap (seen_entries bytes) made
    ∙ insert-seen bytes eq k what (same k) es
    ∙ ap (λ n. with_entry n what (seen_entries bytes es)) named
    ∙ entry-last name what (seen_entries bytes es) none))

-- a map of tags in which a tag is set
pub tags-set : {K : Type 0} (bytes : K → Name) (eq : K → K → Bool) → ((k x : K) → eq k x ≡ bytes_eq (bytes k) (bytes x))
    → (es changed : List (K × Tag)) (names : List (Name × Declared)) (k : K) (name : Name) (what : Tag) (l : Level)
    → level names (seen_entries bytes es) ≡ l → bytes k ≡ name → changed ≡ insert_entry eq es k what
    → level names (seen_entries bytes changed) ≡ with_tag_set name what l
tags-set bytes eq same es changed names k name what l seen named made =
    let P : Level → Type 0 = λ m. level names (seen_entries bytes changed) ≡ with_tag_set name what m in
    subst P seen (ap (λ ts. level names ts) (ap (seen_entries bytes) made
    ∙ insert-seen bytes eq k what (same k) es
    ∙ ap (λ n. with_entry n what (seen_entries bytes es)) named))

-- The innermost of several scopes

pub innermost-last : (ls : List Level) (d : Level) → 0 < length ls → innermost ls ≡ get_or ls (length ls - 1) d
innermost-last [] d h = absurd (omega arith)
innermost-last (l ∷ []) d h = refl
innermost-last (l ∷ (m ∷ ls)) d h =
    let e : length ls ≡ length (m ∷ ls) - 1 = omega arith in
    let f : suc (length ls) ≡ length (l ∷ (m ∷ ls)) - 1 = omega arith in
    innermost-last (m ∷ ls) d (omega arith)
    ∙ ap (λ i. get_or (m ∷ ls) i d) (sym e)
    ∙ ap (λ i. get_or (l ∷ (m ∷ ls)) i d) f

pub without-last : (ls : List Level) → without_innermost ls ≡ take (length ls - 1) ls
without-last [] = refl
without-last (l ∷ []) = refl
without-last (l ∷ (m ∷ ls)) =
    let e : length ls ≡ length (m ∷ ls) - 1 = omega arith in
    let f : suc (length ls) ≡ length (l ∷ (m ∷ ls)) - 1 = omega arith in
    ap (λ r. l ∷ r) (without-last (m ∷ ls) ∙ ap (λ i. take i (m ∷ ls)) (sym e))
    ∙ ap (λ i. take i (l ∷ (m ∷ ls))) f

-- the last of the scopes, changed
pub changed-last : (f : Level → Level) (ls : List Level) (m d : Level) → 0 < length ls → m ≡ f (get_or ls (length ls - 1) d)
    → slice_set ls (length ls - 1) m ≡ at_innermost f ls
changed-last f [] m d h e = absurd (omega arith)
changed-last f (l ∷ []) m d h e = ap (λ x. x ∷ []) e
changed-last f (l ∷ (k ∷ ls)) m d h e =
    let g : length ls ≡ length (k ∷ ls) - 1 = omega arith in
    let i : suc (length ls) ≡ length (l ∷ (k ∷ ls)) - 1 = omega arith in
    ap (λ n. slice_set (l ∷ (k ∷ ls)) n m) (sym i)
    ∙ ap (λ n. l ∷ slice_set (k ∷ ls) n m) g
    ∙ ap (λ r. l ∷ r) (changed-last f (k ∷ ls) m d (omega arith)
    (e ∙ ap (λ n. f (get_or (l ∷ (k ∷ ls)) n d)) (sym i) ∙ ap (λ n. f (get_or (k ∷ ls) n d)) g))

pub at-innermost : (f : Level → Level) (ls : List Level) → 0 < length ls → at_innermost f ls ≡ without_innermost ls ++ f (innermost ls) ∷ []
at-innermost f [] h = absurd (omega arith)
at-innermost f (l ∷ []) h = refl
at-innermost f (l ∷ (m ∷ ls)) h = ap (λ r. l ∷ r) (at-innermost f (m ∷ ls) (omega arith))

pub innermost-stays : (ls : List Level) → at_innermost (λ l. l) ls ≡ ls
innermost-stays [] = refl
innermost-stays (l ∷ []) = refl
innermost-stays (l ∷ (m ∷ ls)) = ap (λ r. l ∷ r) (innermost-stays (m ∷ ls))

-- the last of so many scopes, read or written in place
pub read-last : (ls : List Level) (count : ℕ) (was : Level) → count ≡ length ls → 0 < length ls → was ≡ get_or ls (count - 1) was → was ≡ innermost ls
read-last ls count was counted some at = at ∙ ap (λ n. get_or ls (n - 1) was) counted ∙ sym (innermost-last ls was some)

pub written-last : (f : Level → Level) (ls : List Level) (count : ℕ) (was new : Level) → count ≡ length ls → 0 < length ls → was ≡ get_or ls (count - 1) was
    → new ≡ f was → slice_set ls (count - 1) new ≡ at_innermost f ls
written-last f ls count was new counted some at made =
    ap (λ n. slice_set ls (n - 1) new) counted
    ∙ changed-last f ls new was some (made ∙ ap f (at ∙ ap (λ n. get_or ls (n - 1) was) counted))

pub kept-last : (ls : List Level) (count : ℕ) (was new : Level) → count ≡ length ls → 0 < length ls → was ≡ get_or ls (count - 1) was
    → new ≡ was → slice_set ls (count - 1) new ≡ ls
kept-last ls count was new counted some at same = written-last (λ l. l) ls count was new counted some at same ∙ innermost-stays ls

-- The stacks of names, or of tags, as scopes are entered, left and changed

module _ {A : Type 0} (part : Level → List (Name × A)) where
  parts_pushed : (ls : List Level) (l : Level) → map part (ls ++ l ∷ []) ≡ map part ls ++ part l ∷ []
  parts_pushed ls l = map-append part ls (l ∷ [])

  pub stacks-entered : part empty_level ≡ [] → (ls changed : List Level) (stacks : List (Name × List A)) → changed ≡ ls ++ empty_level ∷ []
      → AreStacksOf (map part ls) stacks → AreStacksOf (map part changed) stacks
  stacks-entered empty ls changed stacks made are n =
      are n
      ∙ sym (ap (λ r. entries_of r n) (ap (map part) made ∙ parts_pushed ls empty_level)
      ∙ entries-pushed (map part ls) (part empty_level) n
      ∙ ap (λ es. entries_of (map part ls) n ++ option_to_list (entry_of es n)) empty
      ∙ append-nil (entries_of (map part ls) n))

  pub stacks-left : (ls rest : List Level) (l : Level) (old new : List (Name × List A)) → ls ≡ rest ++ l ∷ []
      → AreStacksOf (map part ls) old → LosesList (part l) old new → AreStacksOf (map part rest) new
  stacks-left ls rest l old new whole are loses =
      loses (map part rest) (λ n. are n ∙ ap (λ r. entries_of r n) (ap (map part) whole ∙ parts_pushed rest l))

  pub stacks-gone_on : (ls changed : List Level) (l : Level) (old new : List (Name × List A)) → changed ≡ ls ++ l ∷ []
      → AreStacksOf (map part ls) old → GetsList (part l) old new → AreStacksOf (map part changed) new
  stacks-gone_on ls changed l old new made are gets n =
      gets (map part ls) are n ∙ ap (λ r. entries_of r n) (sym (ap (map part) made ∙ parts_pushed ls l))

  -- the innermost scope is changed, with the stacks
  stacks_at : (f : Level → Level) (ls changed : List Level) (old new : List (Name × List A)) → 0 < length ls → changed ≡ at_innermost f ls
      → ((outer : List (List (Name × A))) → AreStacksOf (outer ++ part (innermost ls) ∷ []) old → AreStacksOf (outer ++ part (f (innermost ls)) ∷ []) new)
      → AreStacksOf (map part ls) old → AreStacksOf (map part changed) new
  stacks_at f ls changed old new some made step are n =
      step (map part (without_innermost ls))
      (λ m. are m ∙ ap (λ r. entries_of r m) (ap (map part) (sym (innermost-stays ls) ∙ at-innermost (λ l. l) ls some)
      ∙ parts_pushed (without_innermost ls) (innermost ls))) n
      ∙ ap (λ r. entries_of r n) (sym (ap (map part) (made ∙ at-innermost f ls some) ∙ parts_pushed (without_innermost ls) (f (innermost ls))))

  -- a part of it that stays
  pub stacks-kept : (f : Level → Level) (ls changed : List Level) (stacks : List (Name × List A)) → 0 < length ls → changed ≡ at_innermost f ls
      → part (f (innermost ls)) ≡ part (innermost ls) → AreStacksOf (map part ls) stacks → AreStacksOf (map part changed) stacks
  stacks-kept f ls changed stacks some made stays =
      stacks_at f ls changed stacks stacks some made (λ outer are n. are n ∙ ap (λ es. entries_of (outer ++ es ∷ []) n) (sym stays))

  -- a part to which a name is added, and one where a name is set
  pub stacks-added : (f : Level → Level) (name : Name) (what : A) (ls changed : List Level) (old new : List (Name × List A)) → 0 < length ls
      → changed ≡ at_innermost f ls → part (f (innermost ls)) ≡ with_entry name what (part (innermost ls)) → entry_of (part (innermost ls)) name ≡ None
      → ChangesStack name (λ stack. stack ++ what ∷ []) old new → AreStacksOf (map part ls) old → AreStacksOf (map part changed) new
  stacks-added f name what ls changed old new some made adds none changes =
      stacks_at f ls changed old new some made
      (λ outer are n. last-pushed name what outer (part (innermost ls)) old new none changes are n ∙ ap (λ es. entries_of (outer ++ es ∷ []) n) (sym adds))

  pub stacks-set : (f : Level → Level) (name : Name) (what was : A) (ls changed : List Level) (old new : List (Name × List A)) → 0 < length ls
      → changed ≡ at_innermost f ls → part (f (innermost ls)) ≡ with_entry name what (part (innermost ls)) → entry_of (part (innermost ls)) name ≡ Some was
      → ChangesStack name (with_top what) old new → AreStacksOf (map part ls) old → AreStacksOf (map part changed) new
  stacks-set f name what was ls changed old new some made sets known changes =
      stacks_at f ls changed old new some made
      (λ outer are n. last-set name what was outer (part (innermost ls)) old new known changes are n ∙ ap (λ es. entries_of (outer ++ es ∷ []) n) (sym sets))

-- what was put on a stack and taken away again
pub stacks-back : {A : Type 0} (name : Name) (what : A) (old put new : List (Name × List A)) → ChangesStack name (λ stack. stack ++ what ∷ []) old put
    → ChangesStack name without_top put new → HaveSameStacks old new
stacks-back name what old put new pushes pops n = pops n ∙ ap (λ s. if bytes_eq n name then without_top s else s) (pushes n) ∙ by (bytes_eq n name)
  where
    by : (b : Bool) → (if b then without_top (if b then stack_of old n ++ what ∷ [] else stack_of old n) else
        (if b then stack_of old n ++ what ∷ [] else stack_of old n)) ≡ stack_of old n
    by true = without-pushed (stack_of old n) what
    by false = refl

-- The file's scope and those inside it

abbrev pub seen_of : Level → List Level → List Name → List (List Name) → ℕ → ℕ → ℕ → Seen
seen_of file inner defined members node globals cells = record {
  scopes = record { levels = file ∷ inner; defined = defined; members = members };
  node = node;
  globals = globals;
  cells = cells;
}

-- the scopes inside the file's, changed
pub inner-changed : (g : List Level → List Level) (file : Level) (inner changed : List Level) (defined : List Name) (members : List (List Name))
    (node globals cells : ℕ) (now : Seen)
    → seen_of file inner defined members node globals cells ≡ now → g (file ∷ inner) ≡ file ∷ changed
    → seen_of file changed defined members node globals cells ≡ with_scopes now (record now.scopes { levels = g now.scopes.levels })
inner-changed g file inner changed defined members node globals cells now seen made =
    let P : Seen → Type 0 = λ t. seen_of file changed defined members node globals cells ≡ with_scopes t (record t.scopes { levels = g t.scopes.levels }) in
    subst P seen (ap (λ ls. with_scopes (seen_of file inner defined members node globals cells)
    (record { levels = ls; defined = defined; members = members })) (sym made))

pub some-inner : (file : Level) (inner : List Level) (defined : List Name) (members : List (List Name)) (node globals cells : ℕ) (now : Seen)
    → seen_of file inner defined members node globals cells ≡ now → 1 < length now.scopes.levels → 0 < length inner
some-inner file inner defined members node globals cells now seen more =
    let h : 1 < length (file ∷ inner) = subst (λ t. 1 < length t.scopes.levels) (sym seen) more in
    omega arith

pub at-inner : (f : Level → Level) (file : Level) (inner : List Level) → 0 < length inner → at_innermost f (file ∷ inner) ≡ file ∷ at_innermost f inner
at-inner f file [] h = absurd (omega arith)
at-inner f file (l ∷ ls) h = refl

pub without-inner : (file : Level) (inner : List Level) → 0 < length inner → without_innermost (file ∷ inner) ≡ file ∷ without_innermost inner
without-inner file [] h = absurd (omega arith)
without-inner file (l ∷ ls) h = refl

pub innermost-inner : (file : Level) (inner : List Level) → 0 < length inner → innermost (file ∷ inner) ≡ innermost inner
innermost-inner file [] h = absurd (omega arith)
innermost-inner file (l ∷ ls) h = refl

-- What is on top

or-none : {A : Type 0} (o : Option A) → o ≡ or_outer o None
or-none None = refl
or-none (Some x) = refl

-- the innermost that there is
top_behind : {A : Type 0} (o : Option A) (xs : List A) → top_of (option_to_list o ++ xs) ≡ or_outer (top_of xs) o
top_behind None xs = or-none (top_of xs)
top_behind (Some x) [] = top-some x []
top_behind (Some x) (y ∷ ys) = top-later x y ys ∙ sym (ap (λ o. or_outer o (Some x)) (top-some y ys))

pub name-on-top : (ls : List Level) (name : Name) → top_of (entries_of (map (λ l. l.names) ls) name) ≡ name_in ls name
name-on-top [] name = refl
name-on-top (l ∷ ls) name =
    top_behind (entry_of l.names name) (entries_of (map (λ k. k.names) ls) name)
    ∙ ap (λ o. or_outer o (entry_of l.names name)) (name-on-top ls name)

pub tag-on-top : (ls : List Level) (name : Name) → top_of (entries_of (map (λ l. l.tags) ls) name) ≡ tag_in ls name
tag-on-top [] name = refl
tag-on-top (l ∷ ls) name =
    top_behind (entry_of l.tags name) (entries_of (map (λ k. k.tags) ls) name)
    ∙ ap (λ o. or_outer o (entry_of l.tags name)) (tag-on-top ls name)

-- what holds where a call answered Ok
pub on_ok : {T E : Type 0} (P Q : Type 0) (r : Result T E) → (P → Q) → OnOk r P → OnOk r Q
on_ok P Q (Ok x) f p = f p
on_ok P Q (Err e) f p = p

-- Tags

-- a tag that the innermost scope does not have is declared there where it is set
pub tag_set-new : (name : Name) (what : Tag) (ls : List Level) → tag_here ls name ≡ None
    → at_innermost (with_tag_set name what) ls ≡ at_innermost (with_tag name what) ls
tag_set-new name what [] h = refl
tag_set-new name what (l ∷ []) h = ap (λ ts. level l.names ts ∷ []) (entry-last name what l.tags h)
tag_set-new name what (l ∷ (m ∷ ls)) h = ap (λ r. l ∷ r) (tag_set-new name what (m ∷ ls) h)

-- the place of a name among the keys of a set

place-map : {A B : Type 0} (f : A → B) (p : B → Bool) (xs : List A) → position_or_len p (map f xs) ≡ position_or_len (λ x. p (f x)) xs
place-map f p [] = refl
place-map f p (x ∷ xs) = ap (λ n. cond (not (p (f x))) (1 + n) 0) (place-map f p xs)

pub position-map : {A B : Type 0} (f : A → B) (p : B → Bool) (xs : List A) → position p (map f xs) ≡ position (λ x. p (f x)) xs
position-map f p xs =
    ap (λ n. cond (nat_lt n (length (map f xs))) (Some n) None) (place-map f p xs)
    ∙ ap (λ n. cond (nat_lt (position_or_len (λ x. p (f x)) xs) n) (Some (position_or_len (λ x. p (f x)) xs)) None) (length-map xs f)

-- a set of names with one that it may have

any-map : {A B : Type 0} (f : A → B) (p : B → Bool) (xs : List A) → list_any p (map f xs) ≡ list_any (λ x. p (f x)) xs
any-map f p [] = refl
any-map f p (x ∷ xs) = ap (λ b. p (f x) || b) (any-map f p xs)

any-same : {A : Type 0} (p q : A → Bool) → ((x : A) → p x ≡ q x) → (xs : List A) → list_any p xs ≡ list_any q xs
any-same p q same [] = refl
any-same p q same (x ∷ xs) = ap (λ b. b || list_any p xs) (same x) ∙ ap (λ b. q x || b) (any-same p q same xs)

map-push : {A B : Type 0} (f : A → B) (xs : List A) (x : A) → map f (xs ++ x ∷ []) ≡ map f xs ++ f x ∷ []
map-push f [] x = refl
map-push f (y ∷ ys) x = ap (λ r. f y ∷ r) (map-push f ys x)

map-unless : {A B : Type 0} (f : A → B) (xs : List A) (x : A) (b : Bool) → map f (cond b xs (xs ++ x ∷ [])) ≡ cond b (map f xs) (map f xs ++ f x ∷ [])
map-unless f xs x true = refl
map-unless f xs x false = map-push f xs x

pub names-added : {K : Type 0} (bytes : K → Name) (eq : K → K → Bool) → ((k x : K) → eq k x ≡ bytes_eq (bytes k) (bytes x))
    → (ks changed : List K) (k : K) (name : Name) (l : List Name)
    → map bytes ks ≡ l → bytes k ≡ name → changed ≡ insert_key eq ks k → map bytes changed ≡ cond (list_any (bytes_eq name) l) l (l ++ name ∷ [])
names-added bytes eq same ks changed k name l seen named made =
    let P : List Name → Type 0 = λ m. map bytes changed ≡ cond (list_any (bytes_eq name) m) m (m ++ name ∷ []) in
    subst P seen (ap (map bytes) made ∙ map-unless bytes ks k (list_any (eq k) ks)
    ∙ ap (λ b. cond b (map bytes ks) (map bytes ks ++ bytes k ∷ []))
    (any-same (eq k) (λ x. bytes_eq (bytes k) (bytes x)) (same k) ks ∙ sym (any-map bytes (bytes_eq (bytes k)) ks))
    ∙ ap (λ n. cond (list_any (bytes_eq n) (map bytes ks)) (map bytes ks) (map bytes ks ++ n ∷ [])) named)

-- with one that it does not have

missed_by : (b any : Bool) (n l : ℕ) → (nat_lt n l ≡ false → any ≡ false) → nat_lt (cond (not b) (1 + n) 0) (suc l) ≡ false → (b || any) ≡ false
missed_by true any n l step h = absurd (grind (arith, nat_tests))
missed_by false any n l step h = step (grind (arith, nat_tests))

missed : {A : Type 0} (p : A → Bool) (xs : List A) → nat_lt (position_or_len p xs) (length xs) ≡ false → list_any p xs ≡ false
missed p [] h = refl
missed p (x ∷ xs) h = missed_by (p x) (list_any p xs) (position_or_len p xs) (length xs) (missed p xs) h

no_some : (b : Bool) (n : ℕ) → cond b (Some n) None ≡ None → b ≡ false
no_some true n h = absurd (none-some n (sym h))
no_some false n h = refl

pub names-pushed : {K : Type 0} (bytes : K → Name) (eq : K → K → Bool) → ((k x : K) → eq k x ≡ bytes_eq (bytes k) (bytes x))
    → (ks changed : List K) (k : K) (name : Name) (l : List Name)
    → map bytes ks ≡ l → bytes k ≡ name → changed ≡ insert_key eq ks k → place_among l name ≡ None → map bytes changed ≡ l ++ name ∷ []
names-pushed bytes eq same ks changed k name l seen named made fresh =
    names-added bytes eq same ks changed k name l seen named made
    ∙ ap (λ b. cond b l (l ++ name ∷ [])) (missed (bytes_eq name) l (no_some (nat_lt (position_or_len (bytes_eq name) l) (length l))
    (position_or_len (bytes_eq name) l) fresh))

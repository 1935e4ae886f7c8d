-- Static objects, one after another, and the zeros at the end of a text.
use Rattle.std.specs.Prelude.{slice_index, ◌≢◌}
use Rattle.std.proofs.Common.{◌≡◌, ℕ, zero, suc, ◌+◌, ◌-◌, ◌<◌, ◌≤◌, List, [], ◌∷◌, ◌++◌, length, map, take, drop, replicate, get_or, slice_get, Some, refl, ap, sym, subst, ◌∙◌, inl, inr, ◌⊎◌, arith, append_assoc}
use Rattle.std.proofs.lemmas.Option.{slice_get-get_or}
use Rattle.cc_base.specs.declared.number.NodeId.{NodeId}
use Rattle.cc_base.specs.declared.kind.Kind.{Kind}
use Rattle.c_types.specs.Table.{Table}
use Rattle.cil_form.specs.declared.program.Static.{Static}
use Rattle.cil_form.specs.Machine.{plan}
use Rattle.cured_code.specs.declared.parts.GlobalLine.{GlobalLine}
use Rattle.cured_code.specs.Tables.{area_of}
use Rattle.cured_code.specs.FlatState.{PlacedArea}
use Rattle.cured_code.specs.FlatMachine.{global_areas, placed}
use Rattle.flat_mem.specs.Placement.{area_size}
use Rattle.flat_mem.proofs.AreaLaws.{area_size-most}
use Rattle.cure_rules.specs.Functions.{area_for}
use Rattle.cure_rules.specs.Programs.{IsFirstOf, AreGlobals}
use Rattle.cure_tables.specs.Objects.{IsGlobalOf}
use Rattle.cure_tables.proofs.Pushing.{both_next}

same_some : {A : Type 0} (x y : A) → Some x ≡ Some y → x ≡ y
same_some x y h = cc

map_map : {A B C : Type 0} (h : B → C) (f : A → B) (xs : List A) → map h (map f xs) ≡ map (λ x. h (f x)) xs
map_map h f [] = refl
map_map h f (x ∷ xs) = ap (λ l. h (f x) ∷ l) (map_map h f xs)

taken_get : {A : Type 0} (xs : List A) (n k : ℕ) (x : A) → slice_get (take n xs) k ≡ Some x → (k < n) × (slice_get xs k ≡ Some x)
taken_get xs zero k x e = absurd (cc (e))
taken_get [] (suc n) k x e = absurd (cc (e))
taken_get (y ∷ ys) (suc n) zero x e = (omega arith, e)
taken_get (y ∷ ys) (suc n) (suc k) x e = let r = taken_get ys n k x e in (let l = r.0 in omega arith, r.1)

get_taken : {A : Type 0} (xs : List A) (n k : ℕ) (x : A) → k < n → slice_get xs k ≡ Some x → slice_get (take n xs) k ≡ Some x
get_taken xs zero k x l e = absurd (omega (arith, l))
get_taken [] (suc n) k x l e = absurd (cc (e))
get_taken (y ∷ ys) (suc n) zero x l e = e
get_taken (y ∷ ys) (suc n) (suc k) x l e = get_taken ys n k x (omega (arith, l)) e

front_get : {A : Type 0} (xs ys : List A) (i : ℕ) → i < length xs → slice_get (xs ++ ys) i ≡ slice_get xs i
front_get [] ys i h = absurd (omega (arith, h))
front_get (x ∷ xs) ys zero h = refl
front_get (x ∷ xs) ys (suc i) h = front_get xs ys i (omega (arith, h))

last_there : {A : Type 0} (xs : List A) (x : A) (i : ℕ) → i ≡ length xs → slice_get (xs ++ x ∷ []) i ≡ Some x
last_there [] x zero e = refl
last_there [] x (suc i) e = absurd (omega arith)
last_there (z ∷ xs) x zero e = absurd (omega arith)
last_there (z ∷ xs) x (suc i) e = last_there xs x i (omega arith)

before_or : (i n : ℕ) → i < n + 1 → (i < n) ⊎ (i ≡ n)
before_or i n l = grind arith

mapped_length : {A B : Type 0} (f : A → B) (xs : List A) → length (map f xs) ≡ length xs
mapped_length f [] = refl
mapped_length f (x ∷ xs) = ap suc (mapped_length f xs)

taken_length : {A : Type 0} (n : ℕ) (xs : List A) → n ≤ length xs → length (take n xs) ≡ n
taken_length zero xs l = refl
taken_length (suc n) [] l = absurd (omega arith)
taken_length (suc n) (x ∷ xs) l = ap suc (taken_length n xs (omega arith))

module _ (table : Table) (kind : NodeId → Kind) (statics : List Static) where
  pub no_globals : (xs : List Static) → xs ≡ [] → AreGlobals table kind xs []
  no_globals xs e = subst (λ (ys : List Static). AreGlobals table kind ys []) (sym e) (record { areas = refl; first = λ k o g a b. absurd (cc (a)) })

  pub global_next : (i : ℕ) (d : Static) (all new : List GlobalLine) (g : GlobalLine) → i < length statics → AreGlobals table kind (take i statics) all → IsGlobalOf table kind (get_or statics i d) g
      → new ≡ all ++ g ∷ [] → AreGlobals table kind (take (i + 1) statics) new
  global_next i d all new g l a h e = record {
    areas = both_next (λ (o : Static). area_for table kind (plan o.planned)) (λ (x : GlobalLine). area_of x.area) statics all new i d g l
        (a.areas ∙ map_map (area_for table kind) (λ (o : Static). plan o.planned) (take i statics)) e h.area
        ∙ sym (map_map (area_for table kind) (λ (o : Static). plan o.planned) (take (i + 1) statics));
    first = firsts;
  }
    where
      count : length all ≡ i
      count =
          let m = mapped_length (λ (x : GlobalLine). area_of x.area) all in
          let n = mapped_length (area_for table kind) (map (λ (o : Static). plan o.planned) (take i statics)) in
          let o = mapped_length (λ (o : Static). plan o.planned) (take i statics) in
          let q = taken_length i statics (omega (arith, l)) in
          let p = ap length a.areas in omega (arith, m, n, o, q, p)

      firsts : (k : ℕ) (o : Static) (x : GlobalLine) → slice_get (take (i + 1) statics) k ≡ Some o → slice_get new k ≡ Some x → IsFirstOf o.text x.first
      firsts k o x b c = by (before_or k i (taken_get statics (i + 1) k o b).0)
        where
          there : slice_get statics k ≡ Some o
          there = (taken_get statics (i + 1) k o b).1

          c' : slice_get (all ++ g ∷ []) k ≡ Some x
          c' = sym (ap (λ (xs : List GlobalLine). slice_get xs k) e) ∙ c

          by : (k < i) ⊎ (k ≡ i) → IsFirstOf o.text x.first
          by (inl m) =
              a.first k o x (get_taken statics i k o m there)
              (sym (front_get all (g ∷ []) k (let n = count in omega (arith, m, n))) ∙ c')
          by (inr m) =
              let y : g ≡ x = same_some g x (sym (last_there all g k (m ∙ sym count)) ∙ c') in
              let z : get_or statics i d ≡ o = same_some (get_or statics i d) o (sym (slice_get-get_or statics i d l) ∙ ap (slice_get statics) (sym m) ∙ there) in
              subst (λ (v : GlobalLine). IsFirstOf o.text v.first) y (subst (λ (v : Static). IsFirstOf v.text g.first) z h.first)

pub all_taken : {A : Type 0} (n : ℕ) (xs : List A) → n ≡ length xs → take n xs ≡ xs
all_taken zero [] e = refl
all_taken zero (x ∷ xs) e = absurd (omega arith)
all_taken (suc n) [] e = refl
all_taken (suc n) (x ∷ xs) e = ap (λ l. x ∷ l) (all_taken n xs (omega arith))

-- Zeros

index_front : (xs : List ℕ) (n k : ℕ) → k < n → slice_index (take n xs) k ≡ slice_index xs k
index_front xs zero k l = absurd (omega (arith, l))
index_front [] (suc n) k l = refl
index_front (x ∷ xs) (suc n) zero l = refl
index_front (x ∷ xs) (suc n) (suc k) l = index_front xs n k (omega (arith, l))

take_next : (xs : List ℕ) (n : ℕ) → n < length xs → take (suc n) xs ≡ take n xs ++ slice_index xs n ∷ []
take_next [] n l = absurd (omega (arith, l))
take_next (x ∷ xs) zero l = refl
take_next (x ∷ xs) (suc n) l = ap (λ ys. x ∷ ys) (take_next xs n (omega (arith, l)))

-- what is left of a text, and the zeros behind it
abbrev pub AreZerosBehind : List ℕ → ℕ → Type 0
AreZerosBehind text count = (n : ℕ) × (text ≡ take count text ++ replicate n 0)

zeros_before : (text : List ℕ) (count : ℕ) → count < length text → slice_index text count ≡ 0 → AreZerosBehind text (suc count) → AreZerosBehind text count
zeros_before text count l z (n, e) = (
  suc n,
  e ∙ ap (λ xs. xs ++ replicate n 0) (take_next text count l ∙ ap (λ x. take count text ++ x ∷ []) z) ∙ append_assoc (take count text) (0 ∷ []) (replicate n 0),
)

pub zeros_next : (text : List ℕ) (count : ℕ) → 0 < count → count ≤ length text → slice_index text (count - 1) ≡ 0 → AreZerosBehind text count → AreZerosBehind text (count - 1)
zeros_next text count l m z a =
    let e : suc (count - 1) ≡ count = omega (arith, l) in zeros_before text (count - 1) (omega (arith, l, m)) z (subst (AreZerosBehind text) (sym e) a)

pub zeros_none : (text : List ℕ) → AreZerosBehind text (length text)
zeros_none text = (0, sym (ap (λ xs. xs ++ []) (all_taken (length text) text refl) ∙ nil text))
  where
    nil : (xs : List ℕ) → xs ++ [] ≡ xs
    nil [] = refl
    nil (x ∷ xs) = ap (λ ys. x ∷ ys) (nil xs)

pub first_left : (text first : List ℕ) (count : ℕ) → first ≡ take count text → count ≤ length text → (0 < count → slice_index text (count - 1) ≢ 0) → AreZerosBehind text count
    → IsFirstOf (Some text) first
first_left text first count f m z (n, e) = subst (IsFirstOf (Some text)) (sym f) (n, e, λ l. by l)
  where
    same : length (take count text) ≡ count
    same = taken_length count text m

    by : 0 < length (take count text) → slice_index (take count text) (length (take count text) - 1) ≢ 0
    by l h =
        let s = same in
        let k : 0 < count = omega (arith, l, s) in
        z k (sym (index_front text count (count - 1) (omega (arith, k))) ∙ ap (λ i. slice_index (take count text) (i - 1)) (sym s) ∙ h)

-- Addresses

drop_next : (xs : List GlobalLine) (i : ℕ) (d : GlobalLine) → i < length xs → drop i xs ≡ get_or xs i d ∷ drop (i + 1) xs
drop_next [] i d l = absurd (omega (arith, l))
drop_next (x ∷ xs) zero d l = refl
drop_next (x ∷ xs) (suc i) d l = drop_next xs i d (omega (arith, l)) ∙ ap (λ n. get_or xs i d ∷ drop n (x ∷ xs)) (let e : suc (i + 1) ≡ suc i + 1 = omega arith in e)

-- the addresses so far, and those of the areas from `start` on
abbrev pub with_rest : List ℕ → List GlobalLine → ℕ → List ℕ
with_rest all rest start = all ++ map (λ (a : PlacedArea). a.address) (placed (global_areas rest) start)

pub rest_next : (globals : List GlobalLine) (i start : ℕ) (all new : List ℕ) (g : GlobalLine) (next : ℕ) → i < length globals → get_or globals i g ≡ g → new ≡ all ++ (start + 8) ∷ []
    → next ≡ start + area_size (area_of g.area) → with_rest new (drop (i + 1) globals) next ≡ with_rest all (drop i globals) start
rest_next globals i start all new g next l e n s =
    (λ j. n j ++ map (λ (a : PlacedArea). a.address) (placed (global_areas (drop (i + 1) globals)) (s j)))
    ∙ append_assoc all ((start + 8) ∷ []) (map (λ (a : PlacedArea). a.address) (placed (global_areas (drop (i + 1) globals)) (start + area_size (area_of g.area))))
    ∙ sym (ap (λ rest. with_rest all rest start) (drop_next globals i g l ∙ ap (λ x. x ∷ drop (i + 1) globals) e))

pub rest_none : (globals : List GlobalLine) (i start : ℕ) (all : List ℕ) → i ≡ length globals → with_rest all (drop i globals) start ≡ all
rest_none globals i start all e = ap (λ rest. with_rest all rest start) (none globals i e) ∙ nil all
  where
    none : (xs : List GlobalLine) (i : ℕ) → i ≡ length xs → drop i xs ≡ []
    none [] zero e = refl
    none [] (suc i) e = refl
    none (x ∷ xs) zero e = absurd (omega arith)
    none (x ∷ xs) (suc i) e = none xs i (omega arith)

    nil : (xs : List ℕ) → xs ++ [] ≡ xs
    nil [] = refl
    nil (x ∷ xs) = ap (λ ys. x ∷ ys) (nil xs)

pub area_room : (g : GlobalLine) → g.area.bytes ≤ 3145728 → area_size (area_of g.area) ≤ 9437224
area_room g l = let m = area_size-most (area_of g.area) in omega (arith, l, m)

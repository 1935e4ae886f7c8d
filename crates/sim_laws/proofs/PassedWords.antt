-- Words that are passed: how many there are, that they stay, and where they stand in slots.
use Rattle.std.proofs.Common.{◌≡◌, ℕ, suc, ◌+◌, ◌-◌, ◌<◌, ◌≤◌, ◌⊎◌, ⊎_elim, List, [], ◌∷◌, ◌++◌, length, map, slice_index, refl, ap, sym, ◌∙◌, arith}
use Rattle.std.specs.List.{sum_by}
use Rattle.std.proofs.lemmas.List.{get_or_append_left, get_or-append-add, get_or-append_right, length-append}
use Rattle.std.proofs.lemmas.List.Sums.{sum_by-cons}
use Rattle.cc_base.specs.declared.kind.Kind.{Kind}
use Rattle.cc_base.specs.declared.kind.Kind.TheVariants.{Safe, Seq, Rtti, Wild}
use Rattle.cc_base.specs.declared.number.TypeId.{TypeId}
use Rattle.c_types.specs.declared.shape.TypeShape.{TypeShape}
use Rattle.c_types.specs.declared.shape.TypeShape.TheVariants as shape
use Rattle.c_types.specs.Table.{shape_at}
use Rattle.flat_mem.specs.Bytes.{bytes_at}
use Rattle.src_mem.specs.Pointers.{Pointer, Value, Integer, Address}
use Rattle.src_mem.specs.State as source
use Rattle.cil_form.specs.declared.program.Parameter.{Parameter}
use Rattle.cured_code.specs.FlatState as flat
use Rattle.sim_relation.specs.Ground.{Ground, pointer_words, word_number}
use Rattle.sim_relation.specs.Points.{Form, Low}
use Rattle.cure_rules.specs.Known.{words_by, words_in, held_shape}
use Rattle.cure_rules.specs.Functions.{parameter_words}
use Rattle.sim_laws.specs.Scenes.{Programs}
use Rattle.sim_laws.specs.Points.{Grows, ground_of}
use Rattle.sim_laws.specs.Statements.{IsPassed, held_at}
use Rattle.sim_laws.specs.Calls.{AreArgumentsOf}
use Rattle.sim_laws.proofs.Calls.{passed-on}

-- Words that are passed

pub long-row : (g : Ground) (k : Kind) (q : Pointer) → length (pointer_words g k q) ≡ word_number k
long-row g Safe q = refl
long-row g Seq q = refl
long-row g Rtti q = refl
long-row g Wild q = refl

passed-by : (p : Programs) (depth : ℕ) (s : source.State) (c : flat.State) (form : Form) (h : TypeShape) (v : Value) (words : List ℕ)
    → IsPassed p depth s c form (held_shape h) v words → length words ≡ words_by p.whole.kind h
passed-by p depth s c form (shape.Integer bytes signed) (Integer z) words (held, (n, is, holds)) = ap (λ (xs : List ℕ). length xs) is
passed-by p depth s c form (shape.Integer bytes signed) (Address q) words (held, stand) = absurd stand
passed-by p depth s c form (shape.Pointer n u) (Integer z) words (held, stand) = absurd stand
passed-by p depth s c form (shape.Pointer n u) (Address q) words (held, stand) =
    ap (λ (xs : List ℕ). length xs) stand.0 ∙ long-row (ground_of p s c) (p.whole.kind n) q
passed-by p depth s c form other v words h = ap (λ (xs : List ℕ). length xs) h

-- as many as the type has
pub passed-long : (p : Programs) (depth : ℕ) (s : source.State) (c : flat.State) (form : Form) (t : TypeId) (v : Value) (words : List ℕ)
    → IsPassed p depth s c form (held_at p.whole t) v words → length words ≡ words_in p.whole t
passed-long p depth s c form t v words h = passed-by p depth s c form (shape_at p.whole.table t) v words h

pub arguments-long : (p : Programs) (depth : ℕ) (s : source.State) (c : flat.State) (ps : List Parameter) (vs : List Value) (words : List ℕ)
    → AreArgumentsOf p depth s c (map (λ (x : Parameter). x.ty) ps) vs words → length words ≡ parameter_words p.whole ps
arguments-long p depth s c [] [] words h = ap (λ (xs : List ℕ). length xs) h
arguments-long p depth s c [] (v ∷ vs) words h = absurd h
arguments-long p depth s c (x ∷ ps) [] words h = absurd h
arguments-long p depth s c (x ∷ ps) (v ∷ vs) words (first, rest, is, passed, more) =
    ap (λ (xs : List ℕ). length xs) is ∙ length-append first rest
    ∙ ap (λ (n : ℕ). n + length rest) (passed-long p depth s c Low x.ty v first passed)
    ∙ ap (λ (n : ℕ). words_in p.whole x.ty + n) (arguments-long p depth s c ps vs rest more)
    ∙ sym (sum_by-cons (λ (y : Parameter). words_in p.whole y.ty) x ps)

-- they stay what they are where what the call around speaks of stays
pub arguments-on : (p : Programs) (depth : ℕ) (s t : source.State) (c d : flat.State) → Grows p depth s t c d → (ts : List TypeId) (vs : List Value) (words : List ℕ)
    → AreArgumentsOf p depth s c ts vs words → AreArgumentsOf p depth t d ts vs words
arguments-on p depth s t c d grow [] [] words h = h
arguments-on p depth s t c d grow [] (v ∷ vs) words h = absurd h
arguments-on p depth s t c d grow (u ∷ ts) [] words h = absurd h
arguments-on p depth s t c d grow (u ∷ ts) (v ∷ vs) words (first, rest, is, passed, more) =
    (first, rest, is, passed-on p depth s t c d Low (held_at p.whole u) v first grow passed, arguments-on p depth s t c d grow ts vs rest more)

-- a sum over what a list is mapped to
pub sum-mapped : {A B : Type 0} (f : A → B) (g : B → ℕ) (xs : List A) → sum_by g (map f xs) ≡ sum_by (λ x. g (f x)) xs
sum-mapped f g [] = refl
sum-mapped f g (x ∷ xs) = sum_by-cons g (f x) (map f xs) ∙ ap (λ (n : ℕ). g (f x) + n) (sum-mapped f g xs) ∙ sym (sum_by-cons (λ y. g (f y)) x xs)

-- Words in slots

-- words stand in the slots from q on
abbrev pub StandFrom : List ℕ → List ℕ → ℕ → Type 0
StandFrom words slots q = (i : ℕ) → i < length words → slice_index slots (q + i) ≡ slice_index words i

pub row-from : (words slots : List ℕ) (q : ℕ) → StandFrom words slots q → bytes_at (length words) slots q ≡ words
unfolding bytes_at
row-from [] slots q h = refl
row-from (n ∷ words) slots q h =
    ap (λ (m : ℕ). m ∷ bytes_at (length words) slots (q + 1)) (let none : q + 0 ≡ q = omega arith in sym (ap (slice_index slots) none) ∙ h 0 (omega arith))
    ∙ ap (λ (ms : List ℕ). n ∷ ms) (row-from words slots (q + 1) (λ i l. let next : q + 1 + i ≡ q + suc i = omega arith in ap (slice_index slots) next ∙ h (suc i) (omega (arith, l))))

pub first-from : (first rest slots : List ℕ) (q : ℕ) → StandFrom (first ++ rest) slots q → StandFrom first slots q
first-from first rest slots q h i l =
    h i (let e = length-append first rest in omega (arith, e, l)) ∙ get_or_append_left first rest 0 i l

pub rest-from : (first rest slots : List ℕ) (q : ℕ) → StandFrom (first ++ rest) slots q → StandFrom rest slots (q + length first)
rest-from first rest slots q h i l =
    let next : q + length first + i ≡ q + (length first + i) = omega arith in
    ap (slice_index slots) next ∙ h (length first + i) (let e = length-append first rest in omega (arith, e, l)) ∙ get_or-append-add first rest i 0

-- both lists, one behind the other
pub both-from : (first rest slots : List ℕ) (q : ℕ) → StandFrom first slots q → StandFrom rest slots (q + length first) → StandFrom (first ++ rest) slots q
both-from first rest slots q one other i l = ⊎_elim
    (λ h. one i h ∙ sym (get_or_append_left first rest 0 i h))
    (λ h. (let next : q + i ≡ q + length first + (i - length first) = omega (arith, h) in ap (slice_index slots) next)
    ∙ other (i - length first) (let e = length-append first rest in omega (arith, e, l, h))
    ∙ sym (get_or-append_right first rest (length first) i 0 refl h)) (sides i (length first))
  where
    sides : (i n : ℕ) → (i < n) ⊎ (n ≤ i)
    sides i n = grind arith

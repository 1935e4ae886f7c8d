-- Variables, areas and charges, one after another.
use Rattle.std.specs.Prelude.{sum_by}
use Rattle.std.specs.List.{filter_map, cons_option}
use Rattle.std.specs.Option.{option_to_list}
use Rattle.std.proofs.Common.{◌≡◌, ℕ, zero, suc, ◌+◌, ◌<◌, ◌≤◌, true, false, List, [], ◌∷◌, ◌++◌, length, map, take, get_or, slice_get, Option, None, Some, refl, ap, sym, ◌∙◌, true≢false, arith}
use Rattle.std.proofs.lemmas.Option.{get_or_from_slice_get}
use Rattle.std.proofs.lemmas.List.Sums.{sum_by-cons}
use Rattle.cc_base.specs.declared.number.NodeId.{NodeId}
use Rattle.cc_base.specs.declared.kind.Kind.{Kind}
use Rattle.cc_base.specs.declared.kind.Kind.TheVariants.{Safe, Seq, Rtti, Wild}
use Rattle.cc_base.specs.Kinds.{kind_at}
use Rattle.c_types.specs.Cells.{Cell}
use Rattle.c_types.specs.Widths.{width_of}
use Rattle.sim_relation.specs.Objects.{area_by}
use Rattle.cure_rules.specs.Calling.{is_tagged_kind}

pub kind_told : (kinds : List Kind) (n : NodeId) (k : Kind) → slice_get kinds n.0 ≡ Some k → kind_at kinds n ≡ k
kind_told kinds n k e = get_or_from_slice_get kinds n.0 k Safe e

tagged : (f : NodeId → Kind) (k : Kind) (size : ℕ) (cells : List Cell) → is_tagged_kind k ≡ true → area_by f k size cells ≡ record { tagged = true; bytes = size }
tagged f Wild size cells h = refl
tagged f Safe size cells h = absurd (true≢false (sym h))
tagged f Seq size cells h = absurd (true≢false (sym h))
tagged f Rtti size cells h = absurd (true≢false (sym h))

typed : (f : NodeId → Kind) (k : Kind) (size : ℕ) (cells : List Cell) → is_tagged_kind k ≡ false → area_by f k size cells ≡ record { tagged = false; bytes = width_of f cells }
typed f Wild size cells h = absurd (true≢false h)
typed f Safe size cells h = refl
typed f Seq size cells h = refl
typed f Rtti size cells h = refl

-- the area of an object whose home has a kind that is told
pub tagged_area : (kinds : List Kind) (n : NodeId) (k : Kind) (size : ℕ) (cells : List Cell) (bytes : ℕ) → slice_get kinds n.0 ≡ Some k → is_tagged_kind k ≡ true → bytes ≡ size
    → record { tagged = true; bytes = bytes } ≡ area_by (kind_at kinds) (kind_at kinds n) size cells
tagged_area kinds n k size cells bytes e h b =
    (λ i. record { tagged = true; bytes = b i }) ∙ sym (tagged (kind_at kinds) k size cells h) ∙ ap (λ l. area_by (kind_at kinds) l size cells) (sym (kind_told kinds n k e))

pub typed_area : (kinds : List Kind) (n : NodeId) (k : Kind) (size : ℕ) (cells : List Cell) (bytes : ℕ) → slice_get kinds n.0 ≡ Some k → is_tagged_kind k ≡ false → bytes ≡ width_of (kind_at kinds) cells
    → record { tagged = false; bytes = bytes } ≡ area_by (kind_at kinds) (kind_at kinds n) size cells
typed_area kinds n k size cells bytes e h b =
    (λ i. record { tagged = false; bytes = b i }) ∙ sym (typed (kind_at kinds) k size cells h) ∙ ap (λ l. area_by (kind_at kinds) l size cells) (sym (kind_told kinds n k e))

-- lists with one more

map_next : {A B : Type 0} (f : A → B) (xs : List A) (i : ℕ) (d : A) → i < length xs → map f (take (i + 1) xs) ≡ map f (take i xs) ++ f (get_or xs i d) ∷ []
map_next f [] i d h = absurd (omega (arith, h))
map_next f (x ∷ xs) zero d h = refl
map_next f (x ∷ xs) (suc i) d h =
    ap (λ n. map f (take n (x ∷ xs))) (let e : suc i + 1 ≡ suc (i + 1) = omega arith in e) ∙ ap (λ ys. f x ∷ ys) (map_next f xs i d (omega (arith, h)))

map_pushed : {A B : Type 0} (f : A → B) (xs : List A) (x : A) → map f (xs ++ x ∷ []) ≡ map f xs ++ f x ∷ []
map_pushed f [] x = refl
map_pushed f (y ∷ ys) x = ap (λ l. f y ∷ l) (map_pushed f ys x)

-- the images of what was pushed are those of what was gone through
pub both_next : {A B C : Type 0} (f : A → C) (g : B → C) (xs : List A) (ys zs : List B) (i : ℕ) (d : A) (y : B) → i < length xs → map g ys ≡ map f (take i xs) → zs ≡ ys ++ y ∷ []
    → g y ≡ f (get_or xs i d) → map g zs ≡ map f (take (i + 1) xs)
both_next f g xs ys zs i d y l a b e =
    ap (map g) b ∙ map_pushed g ys y ∙ (λ j. a j ++ e j ∷ []) ∙ sym (map_next f xs i d l)

-- Charges

pub sum_next : {A : Type 0} (f : A → ℕ) (xs : List A) (i : ℕ) (d : A) → i < length xs → sum_by f (take (i + 1) xs) ≡ sum_by f (take i xs) + f (get_or xs i d)
sum_next f [] i d h = absurd (omega (arith, h))
sum_next f (x ∷ xs) zero d h = refl
sum_next f (x ∷ xs) (suc i) d h =
    let r = sum_next f xs i d (omega (arith, h)) in
    let e = sum_by-cons f x (take (i + 1) xs) in
    let g = sum_by-cons f x (take i xs) in
    ap (λ n. sum_by f (take n (x ∷ xs))) (let e : suc i + 1 ≡ suc (i + 1) = omega arith in e) ∙ omega (arith, r, e, g)

pub sum_part : {A : Type 0} (f : A → ℕ) (xs : List A) (i : ℕ) → sum_by f (take i xs) ≤ sum_by f xs
sum_part f xs zero = omega arith
sum_part f [] (suc i) = omega arith
sum_part f (x ∷ xs) (suc i) =
    let r = sum_part f xs i in let e = sum_by-cons f x (take i xs) in let g = sum_by-cons f x xs in omega (arith, r, e, g)

pub sum_map : {A B : Type 0} (f : B → ℕ) (g : A → B) (xs : List A) → sum_by f (map g xs) ≡ sum_by (λ x. f (g x)) xs
sum_map f g [] = refl
sum_map f g (x ∷ xs) = sum_by-cons f (g x) (map g xs) ∙ ap (λ n. f (g x) + n) (sum_map f g xs) ∙ sym (sum_by-cons (λ y. f (g y)) x xs)

-- Parameters with names

named_mapped : {A B C : Type 0} (h : B → Option C) (g : A → B) (xs : List A) → filter_map h (map g xs) ≡ filter_map (λ x. h (g x)) xs
named_mapped h g [] = refl
named_mapped h g (x ∷ xs) = ap (cons_option (h (g x))) (named_mapped h g xs)

cons_front : {A : Type 0} (o : Option A) (xs ys : List A) → cons_option o (xs ++ ys) ≡ cons_option o xs ++ ys
cons_front None xs ys = refl
cons_front (Some x) xs ys = refl

cons_only : {A : Type 0} (o : Option A) → cons_option o [] ≡ option_to_list o
cons_only None = refl
cons_only (Some x) = refl

filter_next : {A B : Type 0} (h : A → Option B) (xs : List A) (i : ℕ) (d : A) → i < length xs → filter_map h (take (i + 1) xs) ≡ filter_map h (take i xs) ++ option_to_list (h (get_or xs i d))
filter_next h [] i d l = absurd (omega (arith, l))
filter_next h (x ∷ xs) zero d l = cons_only (h x)
filter_next h (x ∷ xs) (suc i) d l =
    ap (λ n. filter_map h (take n (x ∷ xs))) (let e : suc i + 1 ≡ suc (i + 1) = omega arith in e) ∙ ap (cons_option (h x)) (filter_next h xs i d (omega (arith, l)))
    ∙ cons_front (h x) (filter_map h (take i xs)) (option_to_list (h (get_or xs i d)))

pub named_next : {A B C : Type 0} (h : A → Option C) (g : B → C) (xs : List A) (ys zs : List B) (i : ℕ) (d : A) → i < length xs → map g ys ≡ filter_map h (take i xs)
    → map g zs ≡ map g ys ++ option_to_list (h (get_or xs i d)) → map g zs ≡ filter_map h (take (i + 1) xs)
named_next h g xs ys zs i d l a b = b ∙ ap (λ l. l ++ option_to_list (h (get_or xs i d))) a ∙ sym (filter_next h xs i d l)

map_joined : {A B : Type 0} (f : A → B) (xs ys : List A) → map f (xs ++ ys) ≡ map f xs ++ map f ys
map_joined f [] ys = refl
map_joined f (x ∷ xs) ys = ap (λ l. f x ∷ l) (map_joined f xs ys)

pub all_variables : {A B C D : Type 0} (h : B → Option D) (g : A → B) (f : C → D) (ps qs : List A) (named all ls ms : List C) → map f named ≡ filter_map (λ x. h (g x)) qs → qs ≡ ps
    → all ≡ named ++ ms → ms ≡ ls → map f all ≡ filter_map h (map g ps) ++ map f ls
all_variables h g f ps qs named all ls ms a b c d =
    ap (map f) c ∙ map_joined f named ms ∙ (λ i. (a ∙ ap (filter_map (λ x. h (g x))) b ∙ sym (named_mapped h g ps)) i ++ map f (d i))

pub part_more : {A B : Type 0} (f : B → ℕ) (g : A → B) (xs : List A) (i limit charge : ℕ) → charge ≡ sum_by f (map g (take i xs)) → limit < charge → sum_by f (map g xs) ≤ limit → ⊥
part_more f g xs i limit charge e l m =
    let a = sum_map f g (take i xs) in let b = sum_map f g xs in let c = sum_part (λ x. f (g x)) xs i in omega (arith, e, l, m, a, b, c)

-- `main` among the functions of a unit, one more at a time, and their code.
use Rattle.std.proofs.Common.{◌≡◌, refl, ap, sym, subst, ◌∙◌, ℕ, zero, suc, ◌+◌, ◌<◌, arith, List, [], ◌∷◌, ◌++◌, length, map, get_or, slice_get, Bool, true, false, not, cond, None, Some}
use Rattle.std.specs.List.{All, prefix_len}
use Rattle.std.proofs.lemmas.List.Elements.{All-nil, All-cons, All-head, All-tail}
use Rattle.cc_base.specs.declared.number.NodeId.{NodeId}
use Rattle.c_types.specs.Table.{Table}
use Rattle.c_tree.specs.Views.{added}
use Rattle.c_tree.specs.TypedTree as typed
use Rattle.c_tree.specs.TypedTree.{TypedTranslationUnit}
use Rattle.c_tree.specs.TypedParts.{DefinedFunction, functions_of, name_of}
use Rattle.c_tree.specs.TypedStatementViews.{typed_external_view}
use Rattle.c_tree.specs.declared.typed_statement.TypedExternal.{TypedExternal}
use Rattle.c_tree.specs.declared.typed_statement.TypedExternal.TheVariants as external
use Rattle.src_machine.specs.Machine.{is_main, place_of_function, place_of_name}
use Rattle.cil_form.specs.declared.program.Function.{Function}
use Rattle.lower_rules.specs.Units.{AreCodeOf, IsCodeOfFunction}
use Rattle.lower_units.specs.declared.externals.Found.{Found}
use Rattle.lower_units.specs.Mains.{IsMainOf, is_other}

length_one : {X : Type 0} (xs : List X) (x : X) → length (xs ++ x ∷ []) ≡ suc (length xs)
length_one [] x = refl
length_one (y ∷ xs) x = ap suc (length_one xs x)

get_front : {X : Type 0} (xs : List X) (x : X) (n : ℕ) → n < length xs → slice_get (xs ++ x ∷ []) n ≡ slice_get xs n
get_front [] x n within = absurd (omega arith)
get_front (y ∷ xs) x zero within = refl
get_front (y ∷ xs) x (suc n) within = get_front xs x n (omega arith)

get_last : {X : Type 0} (xs : List X) (x : X) → slice_get (xs ++ x ∷ []) (length xs) ≡ Some x
get_last [] x = refl
get_last (y ∷ xs) x = get_last xs x

-- the elements from the front on that pass, with one more element
prefix_old : {X : Type 0} (q : X → Bool) (xs : List X) (x : X) → prefix_len q xs < length xs → prefix_len q (xs ++ x ∷ []) ≡ prefix_len q xs
prefix_old q [] x within = absurd (omega arith)
prefix_old q (y ∷ xs) x within = by (q y) within (λ h. prefix_old q xs x h)
  where
    by : (b : Bool) → cond b (1 + prefix_len q xs) 0 < suc (length xs) → (prefix_len q xs < length xs → prefix_len q (xs ++ x ∷ []) ≡ prefix_len q xs)
        → cond b (1 + prefix_len q (xs ++ x ∷ [])) 0 ≡ cond b (1 + prefix_len q xs) 0
    by true h k = ap (λ n. 1 + n) (k (omega arith))
    by false h k = refl

prefix_more : {X : Type 0} (q : X → Bool) (xs : List X) (x : X) (n : ℕ) → prefix_len q xs ≡ length xs → cond (q x) 1 0 ≡ n
    → prefix_len q (xs ++ x ∷ []) ≡ length xs + n
prefix_more q [] x n e h = let same : n ≡ 0 + n = omega arith in h ∙ same
prefix_more q (y ∷ xs) x n e h = by (q y) e (λ k. prefix_more q xs x n k h)
  where
    by : (b : Bool) → cond b (1 + prefix_len q xs) 0 ≡ suc (length xs) → (prefix_len q xs ≡ length xs → prefix_len q (xs ++ x ∷ []) ≡ length xs + n)
        → cond b (1 + prefix_len q (xs ++ x ∷ [])) 0 ≡ suc (length xs) + n
    by true g k = let h = k (omega arith) in omega arith
    by false g k = absurd (omega arith)

pub main_stays : (m : Found) (fs : List DefinedFunction) (f : DefinedFunction) → IsMainOf fs (Some m) → IsMainOf (fs ++ f ∷ []) (Some m)
main_stays m fs f h =
    let within : prefix_len is_other fs < length fs = subst (λ n. n < length fs) (sym h.0) h.1 in
    let longer = length_one fs f in
    (prefix_old is_other fs f within ∙ h.0, (let a = h.1 in omega arith), ap place_of_function (get_front fs f m.number h.1) ∙ h.2)

pub main_new : (m : Found) (fs : List DefinedFunction) (f : DefinedFunction) → m.number ≡ length fs → is_main (name_of f.declarator) ≡ true
    → m.place ≡ place_of_name (name_of f.declarator) → IsMainOf fs None → IsMainOf (fs ++ f ∷ []) (Some m)
main_new m fs f number is at none =
    let longer = length_one fs f in
    let law = prefix_more is_other fs f 0 none (ap (λ (b : Bool). cond {A = ℕ} (not b) 1 0) is) in (
      (omega arith),
      (omega arith),
      ap (λ n. place_of_function (slice_get (fs ++ f ∷ []) n)) number ∙ ap place_of_function (get_last fs f) ∙ sym at,
    )

pub main_none : (fs : List DefinedFunction) (f : DefinedFunction) → is_main (name_of f.declarator) ≡ false → IsMainOf fs None → IsMainOf (fs ++ f ∷ []) None
main_none fs f is none =
    let longer = length_one fs f in
    let law = prefix_more is_other fs f 1 none (ap (λ (b : Bool). cond {A = ℕ} (not b) 1 0) is) in
    omega arith

pub ruleset main_rules = (main_stays, main_new, main_none)

-- the code of functions

pub code_count : (table : Table) (statics : List NodeId) (ds : List DefinedFunction) (fs : List Function) → AreCodeOf table statics ds fs → length ds ≡ length fs
code_count table statics [] [] h = refl
code_count table statics [] (f ∷ fs) h = absurd h
code_count table statics (d ∷ ds) [] h = absurd h
code_count table statics (d ∷ ds) (f ∷ fs) h = ap suc (code_count table statics ds fs h.1)

pub code_behind : (table : Table) (statics : List NodeId) (ds : List DefinedFunction) (fs : List Function) (d : DefinedFunction) (f : Function)
    → AreCodeOf table statics ds fs → IsCodeOfFunction table statics d f → AreCodeOf table statics (ds ++ d ∷ []) (fs ++ f ∷ [])
code_behind table statics [] [] d f h g = (g, tt)
code_behind table statics [] (x ∷ fs) d f h g = absurd h
code_behind table statics (y ∷ ds) [] d f h g = absurd h
code_behind table statics (y ∷ ds) (x ∷ fs) d f h g = (h.0, code_behind table statics ds fs d f h.1 g)

-- what is so of each function of a unit

all_front : {X : Type 0} (P : X → Type 0) (xs : List X) (x : X) → All P (xs ++ x ∷ []) → All P xs
all_front P [] x h = All-nil P
all_front P (y ∷ xs) x h = All-cons P y xs (All-head P y (xs ++ x ∷ []) h) (all_front P xs x (All-tail P y (xs ++ x ∷ []) h))

all_last : {X : Type 0} (P : X → Type 0) (xs : List X) (x : X) → All P (xs ++ x ∷ []) → P x
all_last P [] x h = All-head P x [] h
all_last P (y ∷ xs) x h = all_last P xs x (All-tail P y (xs ++ x ∷ []) h)

module _ (P : DefinedFunction → Type 0) where
  abbrev Functions : TypedTranslationUnit → Type 0
  Functions u = All P (functions_of u)

  before_one : (u : TypedTranslationUnit) (one : TypedExternal) → Functions (typed_external_view one u) → Functions u
  before_one u (external.Declaration d) h = h
  before_one u (external.Function f) h = all_front P (functions_of u) _ h

  alone : (u : TypedTranslationUnit) (one : TypedExternal) → Functions (typed_external_view one u) → Functions (typed_external_view one typed.NoExternal)
  alone u (external.Declaration d) h = All-nil P
  alone u (external.Function f) h = All-cons P _ [] (all_last P (functions_of u) _ h) (All-nil P)

  before_all : (u : TypedTranslationUnit) (all : List TypedExternal) → Functions (added u (map typed_external_view all)) → Functions u
  before_all u [] h = h
  before_all u (one ∷ all) h = before_one u one (before_all (typed_external_view one u) all h)

  -- is so of those of each of its parts
  pub one_alone : (u : TypedTranslationUnit) (all : List TypedExternal) (i : ℕ) (one d : TypedExternal) → i < length all → one ≡ get_or all i d
      → Functions (added u (map typed_external_view all)) → Functions (typed_external_view one typed.NoExternal)
  one_alone u [] i one d within at h = absurd (omega arith)
  one_alone u (x ∷ all) zero one d within at h =
      subst (λ (y : TypedExternal). Functions (typed_external_view y typed.NoExternal)) (sym at)
      (alone u x (before_all (typed_external_view x u) all h))
  one_alone u (x ∷ all) (suc i) one d within at h = one_alone (typed_external_view x u) all i one d (omega arith) at h

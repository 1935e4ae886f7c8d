-- How many values are held: what is known is of temporaries that there are, and of values there are 256.
use Rattle.std.proofs.Common.{ℕ, zero, suc, ◌<◌, ◌≤◌, ◌≡◌, refl, sym, subst, Bool, true, false, List, [], ◌∷◌, ◌++◌, length, nat_eq, if◌then◌else◌, Option, Some, None, IsSome, arith}
use Rattle.std.specs.List.{IsDistinct, AllByRecursion}
use Rattle.std.proofs.lemmas.Bool.Decides.{nat_tests}
use Rattle.std.proofs.lemmas.List.Elements.{recursion_from_All}
use Rattle.cil_form.specs.declared.number.Temp.{Temp}
use Rattle.cil_form.specs.declared.number.Temp.TheVariants as temp
use Rattle.cil_form.specs.declared.instr.Set.{Set}
use Rattle.cil_form.specs.declared.instr.Set.TheVariants as set
use Rattle.cil_form.specs.declared.instr.Calculate.{Calculate}
use Rattle.cil_form.specs.declared.instr.Calculate.TheVariants as calculate
use Rattle.cil_form.specs.declared.instr.Point.{Point}
use Rattle.cil_form.specs.declared.instr.Point.TheVariants as point
use Rattle.cil_form.specs.declared.instr.Convert.{Convert}
use Rattle.cil_form.specs.declared.instr.Convert.TheVariants as convert
use Rattle.cil_form.specs.declared.instr.Access.{Access}
use Rattle.cil_form.specs.declared.instr.Access.TheVariants as access
use Rattle.cil_form.specs.declared.instr.Allocate.{Allocate}
use Rattle.cil_form.specs.declared.instr.Allocate.TheVariants as allocate
use Rattle.cil_form.specs.declared.instr.RuntimeCall.{RuntimeCall}
use Rattle.cil_form.specs.declared.instr.RuntimeCall.TheVariants as runtime
use Rattle.cil_form.specs.declared.instr.Instr.{Instr, Row_of-Instr, end_of-Instr, more_of-Instr}
use Rattle.cil_form.specs.declared.instr.Instr.TheVariants as instr
use Rattle.cil_form.specs.declared.instr.Code.{Code}
use Rattle.cil_form.specs.State.{is_same}
use Rattle.cil_form.specs.Typing.{values_limit, HeldType, Typing, no_types, Context, Includes, IsTemp, IsBetweenStatements, AreTemps, HoldsAtMost, Leaves, Passes, inside, IsShapedSet, IsShapedCalculate, IsShapedPoint, IsShapedConvert, IsShapedAccess, IsShapedAllocate, IsShapedRuntime, IsShaped, IsRowShaped, AreShaped}
use Rattle.cil_form.proofs.KeepLaws.{temp-one}
use Rattle.cil_form.proofs.TypingLaws.{includes-all, shaped-held}

-- Different numbers below a limit are no more than the limit

-- the list without the first m in it
abbrev without : ℕ → List ℕ → List ℕ
without m [] = []
without m (x ∷ xs) = if nat_eq x m then xs else x ∷ without m xs

length-by : (b : Bool) (m x : ℕ) (xs : List ℕ) → length xs ≤ suc (length (without m xs)) → length (x ∷ xs) ≤ suc (length (if b then xs else x ∷ without m xs))
length-by true m x xs h = omega arith
length-by false m x xs h = omega (arith, h)

length-without : (m : ℕ) (xs : List ℕ) → length xs ≤ suc (length (without m xs))
length-without m [] = omega arith
length-without m (x ∷ xs) = length-by (nat_eq x m) m x xs (length-without m xs)

part-by : (P : ℕ → Type 0) (b : Bool) (x : ℕ) (xs ys : List ℕ) → P x → AllByRecursion P xs → AllByRecursion P ys → AllByRecursion P (if b then xs else x ∷ ys)
part-by P true x xs ys p h l = h
part-by P false x xs ys p h l = (p, l)

part-without : (P : ℕ → Type 0) (m : ℕ) (xs : List ℕ) → AllByRecursion P xs → AllByRecursion P (without m xs)
part-without P m [] h = tt
part-without P m (x ∷ xs) h = part-by P (nat_eq x m) x xs (without m xs) h.0 h.1 (part-without P m xs h.1)

others-below : (m x : ℕ) (xs : List ℕ) → x ≡ m → AllByRecursion (λ y. nat_eq x y ≡ false) xs → AllByRecursion (λ n. n < suc m) xs → AllByRecursion (λ n. n < m) xs
others-below m x [] e h l = tt
others-below m x (y ∷ ys) e h l = let other = h.0 in let less = l.0 in ((grind (arith, nat_tests, e, other, less)), others-below m x ys e h.1 l.1)

below-by : (b : Bool) (m x : ℕ) (xs : List ℕ) → nat_eq x m ≡ b → x < suc m → AllByRecursion (λ y. nat_eq x y ≡ false) xs → AllByRecursion (λ n. n < suc m) xs
    → AllByRecursion (λ n. n < m) (without m xs) → AllByRecursion (λ n. n < m) (if b then xs else x ∷ without m xs)
below-by true m x xs e less h l rest = others-below m x xs (grind (arith, nat_tests, e)) h l
below-by false m x xs e less h l rest = ((grind (arith, nat_tests, e, less)), rest)

below-without : (m : ℕ) (xs : List ℕ) → AllByRecursion (λ n. n < suc m) xs → IsDistinct nat_eq xs → AllByRecursion (λ n. n < m) (without m xs)
unfolding IsDistinct
below-without m [] h d = tt
below-without m (x ∷ xs) h d = below-by (nat_eq x m) m x xs refl h.0 d.0 h.1 (below-without m xs h.1 d.1)

distinct-by : (b : Bool) (x : ℕ) (xs ys : List ℕ) → IsDistinct nat_eq xs → AllByRecursion (λ y. nat_eq x y ≡ false) ys → IsDistinct nat_eq ys → IsDistinct nat_eq (if b then xs else x ∷ ys)
unfolding IsDistinct
distinct-by true x xs ys d h l = d
distinct-by false x xs ys d h l = (h, l)

distinct-without : (m : ℕ) (xs : List ℕ) → IsDistinct nat_eq xs → IsDistinct nat_eq (without m xs)
unfolding IsDistinct
distinct-without m [] d = tt
distinct-without m (x ∷ xs) d = distinct-by (nat_eq x m) x xs (without m xs) d.1 (part-without (λ y. nat_eq x y ≡ false) m xs d.0) (distinct-without m xs d.1)

at-most : (limit : ℕ) (xs : List ℕ) → AllByRecursion (λ n. n < limit) xs → IsDistinct nat_eq xs → length xs ≤ limit
at-most zero [] h d = omega arith
at-most zero (x ∷ xs) h d = let less = h.0 in absurd (omega (arith, less))
at-most (suc m) xs h d =
    let one = length-without m xs in
    let rest = at-most m (without m xs) (below-without m xs h d) (distinct-without m xs d) in
    omega (arith, one, rest)

-- Values that are known

known-temp : (types : Typing) (n limit : ℕ) → ((x : HeldType) → types (temp.Value n) ≡ Some x → n < limit) → (o : Option HeldType) → types (temp.Value n) ≡ o → IsSome o → n < limit
known-temp types n limit h (Some x) e s = h x e
known-temp types n limit h None e s = absurd (cc (s))

known-below : (types : Typing) (limit : ℕ) (held : List ℕ) → ((n : ℕ) (x : HeldType) → types (temp.Value n) ≡ Some x → n < limit)
    → AllByRecursion (λ n. IsSome (types (temp.Value n))) held → AllByRecursion (λ n. n < limit) held
known-below types limit [] h l = tt
known-below types limit (n ∷ ns) h l = (known-temp types n limit (h n) (types (temp.Value n)) refl l.0, known-below types limit ns h l.1)

pub holds-at-most : (types : Typing) (limit : ℕ) → ((n : ℕ) (x : HeldType) → types (temp.Value n) ≡ Some x → n < limit) → HoldsAtMost limit types
holds-at-most types limit h = λ held distinct known.
    at-most limit held (known-below types limit held h (recursion_from_All (λ n. IsSome (types (temp.Value n))) held known)) distinct

pub temps-hold : (types : Typing) → AreTemps types → HoldsAtMost values_limit types
temps-hold types h = holds-at-most types values_limit (λ n x e. h (temp.Value n) x e)

pub between-hold : (types : Typing) → IsBetweenStatements types → HoldsAtMost 0 types
between-hold types h = holds-at-most types 0 (λ n x e. absurd (h (temp.Value n) x e))

-- What is known is of temporaries that there are

temps-less : (types after : Typing) → AreTemps types → Includes types after → AreTemps after
temps-less types after h l = λ t x e. h t x (l t x e)

temps-by : (b : Bool) (t into : Temp) (o : Option HeldType) (types : Typing) (y : HeldType) → is_same t into ≡ b → IsTemp into → (types t ≡ Some y → IsTemp t)
    → (if b then o else types t) ≡ Some y → IsTemp t
temps-by true t into o types y e it h d = subst IsTemp (sym (temp-one t into e)) it
temps-by false t into o types y e it h d = h d

temps-leaves : (types : Typing) (into : Temp) (o : Option HeldType) (after : Typing) → AreTemps types → Leaves types into o after → AreTemps after
temps-leaves types into o after h l = λ t y e. temps-by (is_same t into) t into o types y refl l.0 (h t y) (l.1 t y e)

set-temps : (i : Set) (k : Context) (types after : Typing) → AreTemps types → IsShapedSet i k types after → AreTemps after
set-temps (set.Integer into z t) k types after h l = temps-leaves types into _ after h l.3
set-temps (set.Null into t) k types after h l = temps-leaves types into _ after h l.3
set-temps (set.Function into f t) k types after h l = temps-leaves types into _ after h l.7
set-temps (set.Object into o home t) k types after h l = temps-leaves types into _ after h l.1
set-temps (set.Copy into from) k types after h l = temps-leaves types into _ after h l.1

calculate-temps : (i : Calculate) (k : Context) (types after : Typing) → AreTemps types → IsShapedCalculate i k types after → AreTemps after
calculate-temps (calculate.Negate into a t) k types after h l = temps-leaves types into _ after h l.3
calculate-temps (calculate.Complement into a t) k types after h l = temps-leaves types into _ after h l.3
calculate-temps (calculate.Binary into operator a b t at) k types after h l = temps-leaves types into _ after h l.4
calculate-temps (calculate.Truth into a) k types after h l = temps-leaves types into _ after h l.1
calculate-temps (calculate.Not into a) k types after h l = temps-leaves types into _ after h l.1

point-temps : (i : Point) (k : Context) (types after : Typing) → AreTemps types → IsShapedPoint i k types after → AreTemps after
point-temps (point.Move into p n way t at) k types after h l = temps-leaves types into _ after h l.6
point-temps (point.Difference into a t b s at) k types after h l = temps-leaves types into _ after h l.11
point-temps (point.Compare into comparison a t b s at) k types after h l = temps-leaves types into _ after h l.9
point-temps (point.IsNull into p t different) k types after h l = temps-leaves types into _ after h l.4
point-temps (point.Member into from outer t i inner u at) k types after h l = temps-leaves types into _ after h l.7
point-temps (point.Decay into from outer array check inner element at) k types after h l = temps-leaves types into _ after h l.5
point-temps (point.Address into from outer inner t) k types after h l = temps-leaves types into _ after h l.4

convert-temps : (i : Convert) (k : Context) (types after : Typing) → AreTemps types → IsShapedConvert i k types after → AreTemps after
convert-temps (convert.Integer into from t) k types after h l = temps-leaves types into _ after h l.3
convert-temps (convert.ToPointer into from t at) k types after h l = temps-leaves types into _ after h l.4
convert-temps (convert.FromPointer into from t s) k types after h l = temps-leaves types into _ after h l.6
convert-temps (convert.Pointer into from t s at) k types after h l = temps-leaves types into _ after h l.7

access-temps : (i : Access) (k : Context) (types after : Typing) → AreTemps types → IsShapedAccess i k types after → AreTemps after
access-temps (access.Load into from node t at) k types after h l = temps-leaves types into _ after h l.3
access-temps (access.Store to v t at assignment) k types after h l = temps-less types after h l.2
access-temps (access.Clear o) k types after h l = temps-less types after h l.1
access-temps (access.Copy to to_place from node from_place t assignment) k types after h l = temps-less types after h l.5

allocate-temps : (i : Allocate) (k : Context) (types after : Typing) → AreTemps types → IsShapedAllocate i k types after → AreTemps after
allocate-temps (allocate.Malloc into n node t at) k types after h l = temps-leaves types into _ after h l.3
allocate-temps (allocate.Calloc into m n node t at) k types after h l = temps-leaves types into _ after h l.4

runtime-temps : (i : RuntimeCall) (k : Context) (types after : Typing) → AreTemps types → IsShapedRuntime i k types after → AreTemps after
runtime-temps (runtime.Free into p) k types after h l = temps-leaves types into _ after h l.1
runtime-temps (runtime.Getchar into) k types after h l = temps-leaves types into _ after h l
runtime-temps (runtime.Putchar into v) k types after h l = temps-leaves types into _ after h l.1
runtime-temps (runtime.Exit into v) k types after h l = temps-leaves types into _ after h l.1

pub entry-temps : (types entry : Typing) (k : Context) (after : Typing) → AreTemps types → Passes types entry k after → AreTemps entry
entry-temps types entry k after h l = temps-less types entry h l.begins

passes-temps : (types entry : Typing) (k : Context) (after : Typing) → AreTemps types → Passes types entry k after → AreTemps after
passes-temps types entry k after h l = temps-less entry after (entry-temps types entry k after h l) l.ends

mutual
  instr-temps : (i : Instr) (k : Context) (types after : Typing) → AreTemps types → IsShaped i k types after → AreTemps after
  instr-temps (instr.Set i) k types after h l = set-temps i k types after h l
  instr-temps (instr.Calculate i) k types after h l = calculate-temps i k types after h l
  instr-temps (instr.Point i) k types after h l = point-temps i k types after h l.0
  instr-temps (instr.Convert i) k types after h l = convert-temps i k types after h l.0
  instr-temps (instr.Access i) k types after h l = access-temps i k types after h l.0
  instr-temps (instr.Allocate i) k types after h l = allocate-temps i k types after h l.0
  instr-temps (instr.Call i) k types after h l = temps-leaves types i.into _ after h l.10
  instr-temps (instr.Runtime i) k types after h l = runtime-temps i k types after h l
  instr-temps (instr.If' t shape code shape' other) k types after h l = row-temps code k types after h l.1
  instr-temps (instr.Block' shape code) k types after h l = passes-temps types l.0 k after h l.1
  instr-temps (instr.Loop' shape code) k types after h l = passes-temps types l.0 k after h l.1
  instr-temps (instr.Break n) k types after h l = temps-less types after h l.2
  instr-temps instr.Return k types after h l = temps-less types after h l.1
  instr-temps (instr.ReturnValue v t at) k types after h l = temps-less types after h l.2

  row-temps : {m : _} (r : Row_of-Instr m) (k : Context) (types after : Typing) → AreTemps types → IsRowShaped r k types after → AreTemps after
  row-temps end_of-Instr k types after h l = temps-less types after h l
  row-temps (more_of-Instr i r) k types after h l = row-temps r k l.0 after (instr-temps i k types l.0 h l.1) l.2

-- a point of code in shape: what is known there
pub known-at : (is js : List Instr) (k : Context) (types after : Typing) → AreTemps types → AreShaped (is ++ js) k types after
    → (middle : Typing) × AreShaped is k types middle × AreShaped js k middle after × AreTemps middle × HoldsAtMost values_limit middle
known-at [] js k types after h l = (types, includes-all types, l, h, temps-hold types h)
known-at (i ∷ is) js k types after h l =
    let rest = known-at is js k l.0 after (instr-temps i k types l.0 h l.1) l.2 in
    (rest.0, (l.0, l.1, rest.1), rest.2, rest.3, rest.4)

pub none-temps : AreTemps no_types
none-temps = λ t x e. absurd (cc (e))

-- both sides of an `if` begin with what is known before it
pub if-sides : (t : Temp) (x y : Code) (k : Context) (types after : Typing) → IsShaped (instr.If t x y) k types after → AreShaped x.0.items k types after × AreShaped y.0.items k types after
if-sides t x y k types after h = (shaped-held x k types after h.1, shaped-held y k types after h.2)

-- blocks and loops begin with their entries, where no value is held
pub block-entry : (x : Code) (k : Context) (types after : Typing) → AreTemps types → IsShaped (instr.Block x) k types after
    → (entry : Typing) × AreShaped x.0.items (inside k entry) entry entry × AreTemps entry × HoldsAtMost 0 entry
block-entry x k types after h l = (l.0, shaped-held x (inside k l.0) l.0 l.0 l.2, entry-temps types l.0 k after h l.1, between-hold l.0 l.1.between)

pub loop-entry : (x : Code) (k : Context) (types after : Typing) → AreTemps types → IsShaped (instr.Loop x) k types after
    → (entry : Typing) × AreShaped x.0.items (inside k entry) entry entry × AreTemps entry × HoldsAtMost 0 entry
loop-entry x k types after h l = (l.0, shaped-held x (inside k l.0) l.0 l.0 l.2, entry-temps types l.0 k after h l.1, between-hold l.0 l.1.between)

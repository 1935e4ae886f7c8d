-- A list whose elements are judged one after another stops where one of them does.
use Rattle.std.proofs.Common.{◌≡◌, ◌≢◌, refl, ap, sym, subst, ◌∙◌, ℕ, zero, suc, ◌+◌, ◌<◌, List, [], ◌∷◌, map, fold, take, get_or, length, Bool, add-one, arith}
use Rattle.cc_base.specs.declared.fault.Fault.{Fault}
use Rattle.cc_base.specs.declared.fault.Fault.TheVariants.{NoMemory}
use Rattle.cc_base.specs.declared.number.TypeId.{TypeId}
use Rattle.c_tree.specs.Tree as tree
use Rattle.c_tree.specs.TypedTree.{TypedSpecifiers}
use Rattle.c_tree.specs.Views.{added}
use Rattle.c_tree.proofs.ListLaws.{with_next}
use Rattle.c_tree.specs.StatementViews.{init_declarator_view}
use Rattle.c_tree.specs.declared.statement.InitDeclarator.{InitDeclarator}
use Rattle.c_tree.specs.declared.statement.InitDeclarator.TheVariants as init
use Rattle.c_unit_typing.specs.UnitJudging.{UnitState, UnitOutcome, UnitJudging, Gives, Stops}
use Rattle.c_unit_typing.specs.InitialiserJudging.{judge_excess, judge_all_excess, judge_items}
use Rattle.c_unit_typing.specs.DeclarationJudging.{judge_init_declarators}

-- where the list before stops, so does the list with one more
abbrev pub Stays : {X A B : Type 0} → (A → UnitJudging B) → (X → A → A) → Type 0
Stays {X} {A} {B} judge view = (x : X) (a : A) (s t : UnitState) (fault : Fault) → judge a s ≡ Stops fault t → judge (view x a) s ≡ Stops fault t

stays_behind : {X A B : Type 0} (judge : A → UnitJudging B) (view : X → A → A) → Stays judge view
    → (xs : List X) (a : A) (s t : UnitState) (fault : Fault) → judge a s ≡ Stops fault t → judge (added a (map view xs)) s ≡ Stops fault t
stays_behind judge view stays [] a s t fault p = p
stays_behind judge view stays (x ∷ xs) a s t fault p = stays_behind judge view stays xs (view x a) s t fault (stays x a s t fault p)

pub stopped_at : {X A B : Type 0} (judge : A → UnitJudging B) (view : X → A → A) → Stays judge view
    → (xs : List X) (i : ℕ) (x : X) → i < length xs → x ≡ get_or xs i x
    → (a : A) (s t : UnitState) (fault : Fault) → judge (view x (added a (map view (take i xs)))) s ≡ Stops fault t → judge (added a (map view xs)) s ≡ Stops fault t
stopped_at judge view stays [] i x within at a s t fault p = absurd (omega arith)
stopped_at judge view stays (y ∷ ys) zero x within at a s t fault p =
    stays_behind judge view stays ys (view y a) s t fault (subst (λ z. judge (view z a) s ≡ Stops fault t) at p)
stopped_at judge view stays (y ∷ ys) (suc i) x within at a s t fault p = stopped_at judge view stays ys i x (omega arith) at (view y a) s t fault p

-- one element more is judged
pub goes : {X A B : Type 0} (judge : A → UnitJudging B) (view : X → A → A) (xs : List X) (i : ℕ) (x : X) → i < length xs → x ≡ get_or xs i x
    → (a : A) (s : UnitState) (o : UnitOutcome B) → judge (view x (added a (map view (take i xs)))) s ≡ o → judge (added a (map view (take (i + 1) xs))) s ≡ o
goes judge view xs i x within here a s o judged = rw add-one (ap (λ z. judge z s) (with_next view xs i x within here a) ∙ judged)

-- an element stops, unless memory does
pub fails : {X A B : Type 0} (judge : A → UnitJudging B) (view : X → A → A) → Stays judge view
    → (xs : List X) (i : ℕ) (x : X) → i < length xs → x ≡ get_or xs i x
    → (a : A) (s t : UnitState) (fault : Fault) → (fault ≢ NoMemory → judge (view x (added a (map view (take i xs)))) s ≡ Stops fault t)
    → fault ≢ NoMemory → judge (added a (map view xs)) s ≡ Stops fault t
fails judge view stays xs i x within here a s t fault p real = stopped_at judge view stays xs i x within here a s t fault (p real)

-- the same for lists whose elements are seen by themselves

folded : {X Y A : Type 0} (add : A → Y → A) (view : X → Y) (xs : List X) (a : A) → added a (map (λ x. λ b. add b (view x)) xs) ≡ fold add a (map view xs)
folded add view [] a = refl
folded add view (x ∷ xs) a = folded add view xs (add a (view x))

pub goes_on : {X Y A B : Type 0} (judge : A → UnitJudging B) (add : A → Y → A) (view : X → Y) (xs : List X) (i : ℕ) (x : X) → i < length xs → x ≡ get_or xs i x
    → (a : A) (s : UnitState) (o : UnitOutcome B) → judge (add (fold add a (map view (take i xs))) (view x)) s ≡ o → judge (fold add a (map view (take (i + 1) xs))) s ≡ o
goes_on {X = X} {A = A} judge add view xs i x within here a s o judged =
    let step = λ (z : X). λ (b : A). add b (view z) in
    ap (λ z. judge z s) (sym (folded add view (take (i + 1) xs) a))
    ∙ goes judge step xs i x within here a s o (ap (λ z. judge (add z (view x)) s) (folded add view (take i xs) a) ∙ judged)

pub fails_on : {X Y A B : Type 0} (judge : A → UnitJudging B) (add : A → Y → A) (view : X → Y)
    → ((y : Y) (a : A) (s t : UnitState) (fault : Fault) → judge a s ≡ Stops fault t → judge (add a y) s ≡ Stops fault t)
    → (xs : List X) (i : ℕ) (x : X) → i < length xs → x ≡ get_or xs i x
    → (a : A) (s t : UnitState) (fault : Fault) → (fault ≢ NoMemory → judge (add (fold add a (map view (take i xs))) (view x)) s ≡ Stops fault t)
    → fault ≢ NoMemory → judge (fold add a (map view xs)) s ≡ Stops fault t
fails_on {X = X} {A = A} judge add view stays xs i x within here a s t fault p real =
    let step = λ (z : X). λ (b : A). add b (view z) in
    ap (λ z. judge z s) (sym (folded add view xs a))
    ∙ stopped_at judge step (λ z. stays (view z)) xs i x within here a s t fault (ap (λ z. judge (add z (view x)) s) (folded add view (take i xs) a) ∙ p real)

-- the lists of a declaration

pub items-stay : (constant text : Bool) (u : TypeId) (i : tree.Initialiser) (all : tree.Items) (s t : UnitState) (f : Fault)
    → judge_items constant all text u s ≡ Stops f t → judge_items constant (tree.AndItem all i) text u s ≡ Stops f t
unfolding judge_items
items-stay constant text u i all s t f stopped = rw stopped refl

pub excess-stays : (i : tree.Initialiser) (all : tree.Items) (s t : UnitState) (f : Fault) → judge_all_excess all s ≡ Stops f t → judge_all_excess (tree.AndItem all i) s ≡ Stops f t
unfolding judge_all_excess
excess-stays i all s t f stopped = rw stopped refl

-- one more that there is no room for
excess_next : (all : tree.Items) (i : tree.Initialiser) (b : Bool) (s k : UnitState) (o : UnitOutcome Bool)
    → judge_all_excess all s ≡ Gives b k → judge_excess i k ≡ o → judge_all_excess (tree.AndItem all i) s ≡ o
unfolding judge_all_excess
excess_next all i b s k o before one = rw before one

pub excess-goes : (all : tree.Items) (i : tree.Initialiser) (b c : Bool) (s k r : UnitState)
    → judge_all_excess all s ≡ Gives b k → judge_excess i k ≡ Gives c r → judge_all_excess (tree.AndItem all i) s ≡ Gives c r
excess-goes all i b c s k r before one = excess_next all i b s k (Gives c r) before one

pub excess-fails : (all : tree.Items) (i : tree.Initialiser) (b : Bool) (s k r : UnitState) (f : Fault)
    → judge_all_excess all s ≡ Gives b k → (f ≢ NoMemory → judge_excess i k ≡ Stops f r) → f ≢ NoMemory → judge_all_excess (tree.AndItem all i) s ≡ Stops f r
excess-fails all i b s k r f before one real = excess_next all i b s k (Stops f r) before (one real)

pub declarators-stay : (file : Bool) (base : TypedSpecifiers) → Stays {X = InitDeclarator} (judge_init_declarators file base) init_declarator_view
unfolding judge_init_declarators
declarators-stay file base (init.Plain d) all s t f stopped = rw stopped refl
declarators-stay file base (init.Initialised d at value) all s t f stopped = rw stopped refl

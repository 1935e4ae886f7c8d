-- Lists of homes, one more at a time. Those of objects that are apart are all new.
use Rattle.std.proofs.Common.{◌≡◌, refl, ap, sym, subst, ◌∙◌, ℕ, ◌+◌, ◌<◌, ◌==◌, ◌||◌, add-one, arith, List, [], ◌∷◌, ◌++◌, append-nil, append_assoc, length, take, get_or, false, Bool, if◌then◌else◌}
use Rattle.std.specs.List.{AllByRecursion, IsDistinct, list_any}
use Rattle.std.proofs.lemmas.Bool.Decides.{nat_tests}
use Rattle.std.proofs.lemmas.List.{map-append}
use Rattle.std.proofs.lemmas.List.Sums.{fold-append}
use Rattle.std.proofs.Math.Seq.{take-suc}
use Rattle.cc_base.specs.declared.number.NodeId.{NodeId}
use Rattle.indexmap.specs.IndexSet.{insert_all, insert_key}
use Rattle.cil_form.specs.declared.number.Planned.{Planned}
use Rattle.cil_form.specs.declared.program.Parameter.{Parameter}
use Rattle.cil_form.specs.declared.program.Static.{Static}
use Rattle.src_machine.specs.World.{same_node}
use Rattle.lower_units.specs.Heads.{homes_of_parameters, homes_of_planned, homes_of_statics, home_or_none}
use Rattle.lower_units.specs.Ready.{AreApart}

taken : {X : Type 0} (xs : List X) (i : ℕ) (x d : X) → i < length xs → x ≡ get_or xs i d → take (i + 1) xs ≡ take i xs ++ x ∷ []
taken xs i x d within at = rw add-one (take-suc xs i d within ∙ ap (λ y. take i xs ++ y ∷ []) (sym at))

-- One more

-- homes behind others
more : (start before own now next : List NodeId) → now ≡ insert_all same_node start before → next ≡ insert_all same_node now own
    → next ≡ insert_all same_node start (before ++ own)
more start before own now next e f =
    f ∙ ap (λ m. insert_all same_node m own) e ∙ sym (fold-append (insert_key same_node) start before own)

pub more_planned : (xs : List Planned) (i : ℕ) (x d : Planned) (start now next : List NodeId) → i < length xs → x ≡ get_or xs i d
    → now ≡ insert_all same_node start (homes_of_planned (take i xs)) → next ≡ insert_key same_node now x.home
    → next ≡ insert_all same_node start (homes_of_planned (take (i + 1) xs))
more_planned xs i x d start now next within at e f =
    more start (homes_of_planned (take i xs)) (x.home ∷ []) now next e f
    ∙ ap (insert_all same_node start) (sym (ap homes_of_planned (taken xs i x d within at) ∙ map-append (λ o. o.home) (take i xs) (x ∷ [])))

pub more_statics : (xs : List Static) (i : ℕ) (x d : Static) (start now next : List NodeId) → i < length xs → x ≡ get_or xs i d
    → now ≡ insert_all same_node start (homes_of_statics (take i xs)) → next ≡ insert_key same_node now x.planned.home
    → next ≡ insert_all same_node start (homes_of_statics (take (i + 1) xs))
more_statics xs i x d start now next within at e f =
    more start (homes_of_statics (take i xs)) (x.planned.home ∷ []) now next e f
    ∙ ap (insert_all same_node start) (sym (ap homes_of_statics (taken xs i x d within at) ∙ map-append (λ o. o.planned.home) (take i xs) (x ∷ [])))

parameters_append : (a b : List Parameter) → homes_of_parameters (a ++ b) ≡ homes_of_parameters a ++ homes_of_parameters b
parameters_append [] b = refl
parameters_append (p ∷ a) b = ap (λ m. home_or_none p.home ++ m) (parameters_append a b) ∙ sym (append_assoc (home_or_none p.home) (homes_of_parameters a) (homes_of_parameters b))

pub more_parameters : (xs : List Parameter) (i : ℕ) (x d : Parameter) (start now next : List NodeId) → i < length xs → x ≡ get_or xs i d
    → now ≡ insert_all same_node start (homes_of_parameters (take i xs)) → next ≡ insert_all same_node now (homes_of_parameters (x ∷ []))
    → next ≡ insert_all same_node start (homes_of_parameters (take (i + 1) xs))
more_parameters xs i x d start now next within at e f =
    more start (homes_of_parameters (take i xs)) (homes_of_parameters (x ∷ [])) now next e f
    ∙ ap (insert_all same_node start) (sym (ap homes_of_parameters (taken xs i x d within at) ∙ parameters_append (take i xs) (x ∷ [])))

-- Homes that are apart

same_either_way : (m n : NodeId) → same_node m n ≡ false → same_node n m ≡ false
same_either_way m n h = by m.0 n.0 h
  where
    by : (a b : ℕ) → (a == b) ≡ false → (b == a) ≡ false
    by a b h = grind (arith, nat_tests)

behind : (P : NodeId → Type 0) (before after : List NodeId) (h : NodeId) → AllByRecursion P (before ++ h ∷ after) → P h
behind P [] after h q = q.0
behind P (x ∷ before) after h q = behind P before after h q.1

-- none of those before is the same
new_home : (before after : List NodeId) (h : NodeId) → AreApart (before ++ h ∷ after) → list_any (same_node h) before ≡ false
unfolding IsDistinct
new_home [] after h d = refl
new_home (x ∷ before) after h d =
    ap (λ (b : Bool). b || list_any (same_node h) before) (same_either_way x h (behind (λ n. same_node x n ≡ false) before after h d.0))
    ∙ new_home before after h d.1

all_new : (before homes : List NodeId) → AreApart (before ++ homes) → insert_all same_node before homes ≡ before ++ homes
all_new before [] d = sym (append-nil before)
all_new before (h ∷ homes) d =
    let at = append_assoc before (h ∷ []) homes in
    ap (λ (b : Bool). insert_all same_node (if b then before else before ++ h ∷ []) homes) (new_home before homes h d)
    ∙ all_new (before ++ h ∷ []) homes (subst AreApart (sym at) d) ∙ at

-- the homes of objects that are apart, where there was none
pub new_homes : (none homes all : List NodeId) → none ≡ [] → all ≡ insert_all same_node none homes → AreApart homes → all ≡ homes
new_homes none homes all empty e d = e ∙ ap (λ m. insert_all same_node m homes) empty ∙ all_new [] homes d

pub new_homes_behind : (none first second now all : List NodeId) → none ≡ [] → now ≡ insert_all same_node none first
    → all ≡ insert_all same_node now second → AreApart (first ++ second) → all ≡ first ++ second
new_homes_behind none first second now all empty e f d = new_homes none (first ++ second) all empty (more none first second now all e f) d

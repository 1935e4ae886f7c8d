-- The code of static initialisers, one after another.
use Rattle.std.proofs.Common.{ap, sym, subst, ◌∙◌, List, [], ◌∷◌, ◌++◌, append_assoc}
use Rattle.cc_base.specs.declared.number.NodeId.{NodeId}
use Rattle.cc_base.specs.declared.number.TypeId.{TypeId}
use Rattle.cc_base.specs.declared.place.Place.{Place}
use Rattle.c_tree.specs.TypedTree.{TypedInitialiser}
use Rattle.c_tree.specs.TypedParts.{StaticInitialiser}
use Rattle.cil_form.specs.declared.instr.Instr.{Instr}
use Rattle.lower_rules.specs.Pieces.{Line, Then}
use Rattle.lower_rules.specs.Words.{Context}
use Rattle.lower_rules.specs.Initialisers.{IsCodeOfObject, IsCodeOfStatics}
use Rattle.lower_exprs.specs.declared.draft.Draft.{Draft}
use Rattle.lower_exprs.specs.Drafts.{Grows}
use Rattle.lower_exprs.proofs.Laws.{grows_nothing, grows_then}
use Rattle.lower_initialisers.specs.Ready.{HasCodeOfObject}
use Rattle.lower_initialisers.proofs.Laws.{grows_kept}
use Rattle.lower_units.specs.Statics.{HaveCodeOfStatics}

code_append : (a b : List StaticInitialiser) (k : Context) (x y : List Instr) → IsCodeOfStatics a k x → IsCodeOfStatics b k y → IsCodeOfStatics (a ++ b) k (x ++ y)
unfolding Line Then
code_append [] b k x y f g = subst (λ m. IsCodeOfStatics b k (m ++ y)) (sym f) g
code_append (i ∷ a) b k x y f g =
    (f.0, f.1 ++ y, f.2, code_append a b k f.1 y f.3 g, ap (λ m. m ++ y) f.4 ∙ append_assoc f.0 f.1 y)

have_first : (a b : List StaticInitialiser) (k : Context) → HaveCodeOfStatics (a ++ b) k → HaveCodeOfStatics a k
have_first [] b k h = tt
have_first (i ∷ a) b k h = (h.0, have_first a b k h.1)

have_second : (a b : List StaticInitialiser) (k : Context) → HaveCodeOfStatics (a ++ b) k → HaveCodeOfStatics b k
have_second [] b k h = h
have_second (i ∷ a) b k h = have_second a b k h.1

pub statics_then : (a b : List StaticInitialiser) (k : Context) (x y z : Draft) → Grows (IsCodeOfStatics a k) (HaveCodeOfStatics a k) x y
    → Grows (IsCodeOfStatics b k) (HaveCodeOfStatics b k) y z → Grows (IsCodeOfStatics (a ++ b) k) (HaveCodeOfStatics (a ++ b) k) x z
unfolding Grows
statics_then a b k x y z f g = (
  λ fine.
      let q = g.0 fine in let p = f.0 q.0 in (
        p.0,
        (
          p.1.0 ++ q.1.0,
          code_append a b k p.1.0 q.1.0 p.1.1 q.1.1,
          q.1.2 ∙ ap (λ m. m ++ q.1.0) p.1.2 ∙ append_assoc x.items.items p.1.0 q.1.0,
        ),
      ),
  λ h e. g.1 (have_second a b k h) (f.1 (have_first a b k h) e),
)

pub statics_none : (k : Context) (x : Draft) → Grows (IsCodeOfStatics [] k) (HaveCodeOfStatics [] k) x x
statics_none k x = grows_nothing _ x

pub statics_kept : (a : List StaticInitialiser) (k : Context) (x y z : Draft) → Grows (IsCodeOfStatics a k) (HaveCodeOfStatics a k) x y
    → Grows (IsCodeOfStatics [] k) (HaveCodeOfStatics [] k) y z → Grows (IsCodeOfStatics a k) (HaveCodeOfStatics a k) x z
statics_kept a k x y z f g = grows_kept _ _ x y z f g

pub statics_one : (home : NodeId) (t : TypeId) (at : Place) (i : TypedInitialiser) (k : Context) (x y : Draft)
    → Grows (IsCodeOfObject home t at i k) (HasCodeOfObject home t i k) x y
    → Grows (IsCodeOfStatics (record { home = home; type = t; place = at; initialiser = i } ∷ []) k)
    (HaveCodeOfStatics (record { home = home; type = t; place = at; initialiser = i } ∷ []) k) x y
statics_one home t at i k x y f = grows_then _ _ _ _ x y y f (grows_nothing _ y)

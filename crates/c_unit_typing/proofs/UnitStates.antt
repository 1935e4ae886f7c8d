-- What is known of states: steps that follow one another, and numbers of nodes.
use Rattle.std.proofs.Common.{◌≡◌, ℕ, zero, suc, ◌+◌, ◌≤◌, true, List, [], ◌++◌, length, refl, ap, sym, subst, ◌∙◌, arith}
use Rattle.std.specs.List.{All, range_with_len}
use Rattle.std.proofs.lemmas.List.Elements.{All-weaker}
use Rattle.cc_base.specs.declared.number.NodeId.{NodeId}
use Rattle.c_tree.specs.TypedParts.{Made, nodes_made}
use Rattle.c_typing.specs.declared.declared.Declared.{Declared}
use Rattle.c_typing.specs.declared.declared.Declared.TheVariants as declared
use Rattle.c_typing.specs.Judging.{State}
use Rattle.c_typing.specs.Extensions.{IsExtended}
use Rattle.c_typing.specs.Scopes.{Name, entry_of}
use Rattle.c_typing.specs.Settled.{IsThere, GoesOn}
use Rattle.c_types.specs.Table.{Table}
use Rattle.c_typing_laws.specs.Numbers.{AreNumberedFrom}
use Rattle.c_typing_laws.proofs.ExtensionLaws.{still_in}
use Rattle.c_typing_laws.proofs.KnownStates.{stays, goes-on}
use Rattle.c_typing_laws.proofs.NodeNumbers.{AreFrom, Numbers, two-made, made-none, numbered-from}
use Rattle.c_unit_typing.specs.Initialisers.{is_among}
use Rattle.c_unit_typing.specs.Linkage.{Linkage}
use Rattle.c_unit_typing.specs.Units.{is_one_of}
use Rattle.c_unit_typing.specs.UnitJudged.{state_of, IsLinkedKnown, IsUnitKnown, UnitGoesOn}
use Rattle.c_unit_typing.specs.UnitJudging.{UnitState}

-- Numbers

range_from : (n a b : ℕ) → b ≡ a + n → AreFrom (range_with_len a n) a b
range_from zero a b e = e ∙ none
  where
    none : a + 0 ≡ a
    none = omega arith
range_from (suc n) a b e = (refl, range_from n (a + 1) b (e ∙ one))
  where
    one : a + suc n ≡ a + 1 + n
    one = omega arith

pub made-from : (made : List Made) (s r : State) → AreNumberedFrom made s r → Numbers made s.seen.node r.seen.node
made-from made s r h =
    subst (λ (ns : List ℕ). AreFrom ns s.seen.node r.seen.node) (sym h.numbers) (range_from (length (nodes_made made)) s.seen.node r.seen.node h.after)

pub numbers-on : (xs ys : List Made) (s m r : State) → AreNumberedFrom xs s m → AreNumberedFrom ys m r → AreNumberedFrom (xs ++ ys) s r
numbers-on xs ys s m r p q =
    numbered-from (xs ++ ys) s r (two-made xs ys s.seen.node m.seen.node r.seen.node (made-from xs s m p) (made-from ys m r q))

-- nothing is made where the next node stays
pub numbers-none : (s r : State) → r.seen.node ≡ s.seen.node → AreNumberedFrom [] s r
numbers-none s r e = numbered-from [] s r (made-none s.seen.node r.seen.node e)

-- what is made before or after is all that is made
pub numbers-before : (xs : List Made) (s m r : State) → AreNumberedFrom xs s m → r.seen.node ≡ m.seen.node → AreNumberedFrom xs s r
numbers-before xs s m r p e = record { numbers = p.numbers; after = e ∙ p.after }

pub numbers-after : (xs : List Made) (s m r : State) → m.seen.node ≡ s.seen.node → AreNumberedFrom xs m r → AreNumberedFrom xs s r
numbers-after xs s m r e p = record {
  numbers = p.numbers ∙ ap (λ (n : ℕ). range_with_len n (length (nodes_made xs))) e;
  after = p.after ∙ ap (λ (n : ℕ). n + length (nodes_made xs)) e;
}

pub numbers-rise : (xs : List Made) (s r : State) → AreNumberedFrom xs s r → s.seen.node ≤ r.seen.node
numbers-rise xs s r p = let e = p.after in omega (arith, e)

-- Steps

pub there-kept : (T U : Table) (x : IsExtended T U) (what : Declared) → IsThere T what → IsThere U what
there-kept T U x (declared.Typedef t) h = still_in T U x t h
there-kept T U x (declared.Object t home) h = still_in T U x t h
there-kept T U x (declared.Function t) h = still_in T U x t h
there-kept T U x (declared.Enumerator value) h = tt

pub linked_known-kept : (s r : UnitState) (what : Declared) → IsExtended s.table r.table → s.seen.node ≤ r.seen.node
    → ((n : NodeId) → is_among s.linkage.statics n ≡ true → is_among r.linkage.statics n ≡ true) → IsLinkedKnown s what → IsLinkedKnown r what
linked_known-kept s r (declared.Object t n) x up lasts h =
    let below = h.1.0 in (still_in s.table r.table x t h.0, (omega (arith, up, below), lasts n h.1.1))
linked_known-kept s r (declared.Typedef t) x up lasts h = (still_in s.table r.table x t h.0, tt)
linked_known-kept s r (declared.Function t) x up lasts h = (still_in s.table r.table x t h.0, tt)
linked_known-kept s r (declared.Enumerator value) x up lasts h = (tt, tt)

pub all-linked_known : (s r : UnitState) (all : List (Name × Declared)) → IsExtended s.table r.table → s.seen.node ≤ r.seen.node
    → ((n : NodeId) → is_among s.linkage.statics n ≡ true → is_among r.linkage.statics n ≡ true)
    → All (λ (e : Name × Declared). IsLinkedKnown s e.1) all → All (λ (e : Name × Declared). IsLinkedKnown r e.1) all
all-linked_known s r all x up lasts h =
    All-weaker (λ (e : Name × Declared). IsLinkedKnown s e.1) (λ (e : Name × Declared). IsLinkedKnown r e.1) (λ e. linked_known-kept s r e.1 x up lasts) all h

-- what has linkage stays as it is
pub linkage-stays : (s r : UnitState) → IsUnitKnown s → GoesOn (state_of s) (state_of r) → r.linkage ≡ s.linkage → s.seen.node ≤ r.seen.node → UnitGoesOn s r
linkage-stays s r k g l up = record {
  goes = g;
  known = record {
    known = g.known;
    linked = subst (λ (w : Linkage). All (λ (e : Name × Declared). IsLinkedKnown r e.1) w.linked) (sym l)
        (all-linked_known s r s.linkage.linked g.extends up (λ n h. ap (λ (w : Linkage). is_among w.statics n) l ∙ h) k.linked);
  };
  linked = λ name what h. ap (λ (w : Linkage). entry_of w.linked name) l ∙ h;
  defined = λ name h. ap (λ (w : Linkage). is_one_of w.defined name) l ∙ h;
}

pub unit-stays : (s : UnitState) → IsUnitKnown s → UnitGoesOn s s
unit-stays s k = record { goes = (stays (state_of s) k.known).goes; known = k; linked = λ name what h. h; defined = λ name h. h }

pub unit-on : (s m r : UnitState) → UnitGoesOn s m → UnitGoesOn m r → UnitGoesOn s r
unit-on s m r g h = record {
  goes = goes-on (state_of s) (state_of m) (state_of r) g.goes h.goes;
  known = h.known;
  linked = λ name what e. h.linked name what (g.linked name what e);
  defined = λ name e. h.defined name (g.defined name e);
}

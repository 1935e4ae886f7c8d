-- What is used one after another, and the steps that find or add a type.
use Rattle.std.proofs.Common.{◌≡◌, ◌<◌, ℕ, Bool, true, false, List, [], ◌∷◌, ◌++◌, length, Option, Some, None, refl, ap, sym, subst, ◌∙◌, inl, inr, nat_lt, nat_le, if◌then◌else◌, arith}
use Rattle.std.proofs.lemmas.List.{length-append, length-set, get_or_append_left, get_or-set_same, get_or-set_other}
use Rattle.std.proofs.lemmas.Bool.Decides.{eqb_tells}
use Rattle.std.proofs.Math.Seq.{get_or-append_seam}
use Rattle.cc_base.specs.declared.place.Place.{Place}
use Rattle.cc_base.specs.declared.number.NodeId.{NodeId}
use Rattle.cc_base.specs.declared.number.TypeId.{TypeId}
use Rattle.cc_base.specs.declared.fault.Fault.TheVariants.{TooLarge}
use Rattle.cc_base.specs.declared.fault.Limit.TheVariants.{Types, Object}
use Rattle.c_types.specs.declared.shape.TypeShape.{TypeShape}
use Rattle.c_types.specs.declared.shape.TypeShape.TheVariants.{Pointer}
use Rattle.c_types.specs.Table.{Table, Entry, HasShape, IsType, shape_at, void_entry}
use Rattle.c_types.specs.Calls.{basic_entry, new_layout, with_members}
use Rattle.c_tree.specs.declared.leaf.Identifier.{Identifier}
use Rattle.c_typing.specs.Extensions.{IsExtended}
use Rattle.c_typing.specs.Judging.{State, Gives, Stops, ◌>>=◌, pure, new_node, type_among, there_or_added, type_with, pointer_type, Pointing, new_pointer}
use Rattle.c_typing.proofs.TypeSearch.{type-found}
use Rattle.c_typing_laws.proofs.Outcomes.{bind-gives, never-gives, new_node-gives}
use Rattle.c_typing_laws.proofs.ValuesTaken.{given-same}
use Rattle.c_type_order.specs.TypesUsed.{IsUse, Use, OfType, OfSize, OfMember, AreUses}
use Rattle.c_type_order.specs.Uses.{IsLater, IsUsed}

-- Later tables

pub later-self : (T : Table) → IsLater T T
later-self T = record { longer = omega arith; shapes = λ t h. refl }

pub later-on : (S T U : Table) → IsLater S T → IsLater T U → IsLater S U
later-on S T U a b = record {
  longer = let l = a.longer in let k = b.longer in omega arith;
  shapes = λ t h. b.shapes t (let l = a.longer in omega (arith, h)) ∙ a.shapes t h;
}

pub later-extended : (T U : Table) → IsExtended T U → IsLater T U
later-extended T U e = record { longer = e.longer; shapes = e.shapes }

added-later : (T : Table) (x : TypeShape) → IsLater T (T ++ basic_entry x ∷ [])
added-later T x = record {
  longer = omega (arith, length-append T (basic_entry x ∷ []));
  shapes = λ t h. ap (λ (e : Entry). e.shape) (get_or_append_left T (basic_entry x ∷ []) void_entry t.0 h);
}

-- members change no shape
pub members-later : (T : Table) (t : TypeId) (members : List TypeId) → IsType T t → IsLater T (with_members T t members)
members-later T t members b = record {
  longer = omega (arith, length-set T t.0 (record { shape = shape_at T t; members = members }));
  shapes = λ u h. elim (eqb_tells u.0 t.0) [
    | inl s ↦
        ap (λ (i : ℕ). shape_at (with_members T t members) (record { 0 = i })) s.1
        ∙ ap (λ (d : Entry). d.shape) (get_or-set_same T t.0 (record { shape = shape_at T t; members = members }) void_entry b)
        ∙ ap (λ (i : ℕ). shape_at T (record { 0 = i })) (sym s.1)
    | inr n ↦ ap (λ (d : Entry). d.shape) (get_or-set_other T t.0 u.0 (record { shape = shape_at T t; members = members }) void_entry n.1)
  ];
}

pub members-length : (T : Table) (t : TypeId) (members : List TypeId) → length (with_members T t members) ≡ length T
members-length T t members = length-set T t.0 (record { shape = shape_at T t; members = members })

-- Uses

pub uses_append : (xs ys : List Use) (a m b : ℕ) → AreUses xs a m → AreUses ys m b → AreUses (xs ++ ys) a b
uses_append [] ys a m b p q = subst (λ (k : ℕ). AreUses ys k b) p q
uses_append (OfType x ∷ xs) ys a m b p q = (p.0, p.1, uses_append xs ys p.0 m b p.2 q)
uses_append (OfSize size ∷ xs) ys a m b p q = (p.0, uses_append xs ys a m b p.1 q)
uses_append (OfMember (Some name) ∷ xs) ys a m b p q = uses_append xs ys a m b p q
uses_append (OfMember None ∷ xs) ys a m b p q = absurd p

pub one_use : (t : TypeId) (a b : ℕ) → IsUse t a b → AreUses (OfType t ∷ []) a b
one_use t a b u = (b, u, refl)

pub used-none : (S : Table) → IsUsed (λ U. []) S S
used-none S = record { uses = λ U l. refl; later = later-self S }

pub then_used : (f g : Table → List Use) (S M R : Table) → IsUsed f S M → IsUsed g M R → IsUsed (λ U. f U ++ g U) S R
then_used f g S M R p q = record {
  uses = λ U l. uses_append (f U) (g U) (length S) (length M) (length R) (p.uses U (later-on M R U q.later l)) (q.uses U l);
  later = later-on S M R p.later q.later;
}

pub used-as : (f g : Table → List Use) (S R : Table) → ((U : Table) → g U ≡ f U) → IsUsed f S R → IsUsed g S R
used-as f g S R e p = record { uses = λ U l. subst (λ (xs : List Use). AreUses xs (length S) (length R)) (sym (e U)) (p.uses U l); later = p.later }

-- a size of 64 bits, and a name
pub sized_use : (size : ℕ) (S : Table) → size < 18446744073709551616 → IsUsed (λ U. OfSize size ∷ []) S S
sized_use size S small = record { uses = λ U l. (small, refl); later = later-self S }

pub named_use : (o : Option Identifier) (name : Identifier) (S : Table) → o ≡ Some name → IsUsed (λ U. OfMember o ∷ []) S S
named_use o name S e = record {
  uses = λ U l. subst (λ (p : Option Identifier). AreUses (OfMember p ∷ []) (length S) (length S)) (sym e) refl;
  later = later-self S;
}

-- the types stay
pub used-still : (f : Table → List Use) (S M R : Table) → R ≡ M → IsUsed f S M → IsUsed f S R
used-still f S M R e p = subst (IsUsed f S) (sym e) p

-- Types that are made

-- t, which has the shape, was used: it was found or added
pub record IsMade (x : TypeShape) (t : TypeId) (S R : Table) : Type 0 where
  pub shape : HasShape R t x
  pub taken : IsUse t (length S) (length R)
  pub later : IsLater S R

pub made-used : (x : TypeShape) (t : TypeId) (S R : Table) → IsMade x t S R → IsUsed (λ U. OfType t ∷ []) S R
made-used x t S R m = record { uses = λ U l. one_use t (length S) (length R) m.taken; later = m.later }

added_made : (T : Table) (x : TypeShape) → IsMade x (record { 0 = length T }) T (T ++ basic_entry x ∷ [])
added_made T x = record {
  shape = (omega (arith, length-append T (basic_entry x ∷ [])), ap (λ (d : Entry). d.shape) (get_or-append_seam T (basic_entry x) [] void_entry));
  taken = inr (refl, length-append T (basic_entry x ∷ []));
  later = added-later T x;
}

pub type_with-made : (at : Place) (x : TypeShape) (t : TypeId) (s r : State) → type_with at x s ≡ Gives t r → IsMade x t s.table r.table
unfolding type_with
type_with-made at x t s r h = by (type_among 0 s.table x) refl h
  where
    P : TypeId → State → Type 0
    P u q = IsMade x u s.table q.table

    added : (room small : Bool) → (if room
        then (if small then Gives (record { 0 = length s.table }) (record s { table = s.table ++ basic_entry x ∷ [] }) else Stops (TooLarge at Object) s)
        else Stops (TooLarge at Types) s) ≡ Gives t r → IsMade x t s.table r.table
    added true true g =
        given-same (λ (u : TypeId) (q : State). IsMade x u s.table q.table) (record { 0 = length s.table }) t (record s { table = s.table ++ basic_entry x ∷ [] }) r g (added_made s.table x)
    added true false g = never-gives t (TooLarge at Object) s r g
    added false small g = never-gives t (TooLarge at Types) s r g

    by : (o : Option TypeId) → type_among 0 s.table x ≡ o → there_or_added at x s o ≡ Gives t r → IsMade x t s.table r.table
    by (Some u) e g =
        let found = type-found s.table x u e in
        given-same (λ (v : TypeId) (q : State). IsMade x v s.table q.table) u t s r g (record { shape = found; taken = inl (found.0, refl); later = later-self s.table })
    by None e g = added (nat_lt (length s.table) 16384) (nat_le (new_layout s.table x).size 1048576) g

pub pointer-made : (at : Place) (n : NodeId) (to t : TypeId) (s r : State) → pointer_type at n to s ≡ Gives t r → IsMade (Pointer n to) t s.table r.table
unfolding pointer_type
pointer-made at n to t s r h = by (nat_lt to.0 (length s.table)) h
  where
    by : (b : Bool) → (if b then type_with at (Pointer n to) s else Stops (TooLarge at Types) s) ≡ Gives t r → IsMade (Pointer n to) t s.table r.table
    by true g = type_with-made at (Pointer n to) t s r g
    by false g = never-gives t (TooLarge at Types) s r g

pub node-table : (at : Place) (n : NodeId) (s r : State) → new_node at s ≡ Gives n r → r.table ≡ s.table
node-table at n s r h = ap (λ (q : State). q.table) (new_node-gives at n s r h).1

pub new_pointer-used : (at : Place) (to : TypeId) (made : Pointing) (s r : State) → new_pointer at to s ≡ Gives made r → IsUsed (λ U. OfType made.type ∷ []) s.table r.table
unfolding new_pointer
new_pointer-used at to made s r h =
    let one = bind-gives (new_node at s) (λ n. pointer_type at n to >>= (λ t. pure (pointing n t))) made r h in
    let two = bind-gives (pointer_type at one.0 to one.1) (λ t. pure (pointing one.0 t)) made r one.3 in
    let taken = made-used (Pointer one.0 to) two.0 one.1.table two.1.table (pointer-made at one.0 to two.0 one.1 two.1 two.2) in
    given-same (λ (p : Pointing) (q : State). IsUsed (λ U. OfType p.type ∷ []) s.table q.table) (pointing one.0 two.0) made two.1 r two.3
    (subst (λ (T : Table). IsUsed (λ U. OfType two.0 ∷ []) T two.1.table) (node-table at one.0 s one.1 one.2) taken)
  where
    pointing : NodeId → TypeId → Pointing
    pointing n t = record { node = n; type = t }

-- Steps of judging that give: one after another, a construct whose rules hold, a node, and a pointer with a node of its own.
use Rattle.std.proofs.Common.{◌≡◌, ℕ, ◌+◌, ◌<◌, ◌≤◌, false, List, length, Option, None, refl, ap, sym, ◌∙◌, nat_lt, arith}
use Rattle.std.proofs.lemmas.Bool.Decides.{leb_tells}
use Rattle.cc_base.specs.declared.place.Place.{Place}
use Rattle.cc_base.specs.declared.number.NodeId.{NodeId}
use Rattle.cc_base.specs.declared.number.TypeId.{TypeId}
use Rattle.cc_base.specs.declared.fault.Fault.{Fault}
use Rattle.c_types.specs.declared.shape.TypeShape.TheVariants.{Pointer}
use Rattle.c_types.specs.Table.{Table, HasShape}
use Rattle.c_typing.specs.Extensions.{IsExtended}
use Rattle.c_typing.specs.Held.{held_with}
use Rattle.c_typing.specs.Judging.{State, Outcome, Judging, Gives, next, ◌>>=◌, pure, unless, new_node, pointer_type, new_pointer, Pointing, holding}
use Rattle.c_typing.specs.Operands.{Operand}
use Rattle.c_typing.specs.Operations.{construct, leaf}
use Rattle.c_typing.specs.Settled.{IsBasic, IsKnown}
use Rattle.c_typing.specs.Specifying.{obeying}
use Rattle.c_typing.specs.Tests.{Elaborated, Test, first_broken}
use Rattle.c_type_order.specs.TypesUsed.{IsUse}
use Rattle.c_typing_given.proofs.TypeGiven.{DefinesNone, lt_true}
use Rattle.c_typing_given.proofs.PointersGiven.{pointer-given}

pub then-is : {A B : Type 0} (m : Judging A) (f : A → Judging B) (a : A) (s k : State) (o : Outcome B) → m s ≡ Gives a k → f a k ≡ o → (m >>= f) s ≡ o
then-is m f a s k o h q = ap (λ v. next v f) h ∙ q

pub obeying-is : {A : Type 0} (rules : State → List Test) (go : Judging A) (s : State) (o : Outcome A) → first_broken (rules s) ≡ None → go s ≡ o
    → obeying rules go s ≡ o
obeying-is rules go s o h k = ap (λ (f : Option Fault). unless f go s) h ∙ k

holding_is : (at : Place) (n : ℕ) (s : State) → n ≤ 256 → holding at n s ≡ Gives n s
unfolding holding
holding_is at n s h = let b : nat_lt 256 n ≡ false = grind (arith, leb_tells) in rw b refl

abbrev pub operand_with : Place → Elaborated → ℕ → Operand
operand_with begin x h = record { part = x; place = begin; held = h }

-- a construct none of whose rules is broken
pub construct-is : (rules : State → List Test) (begin : Place) (held : List ℕ) (made : Judging Elaborated) (s r : State) (x : Elaborated) → first_broken (rules s) ≡ None
    → held_with 0 held ≤ 256 → made s ≡ Gives x r → construct rules begin held made s ≡ Gives (operand_with begin x (held_with 0 held)) r
unfolding construct
construct-is rules begin held made s r x h few k =
    ap (λ (f : Option Fault). unless f (holding begin (held_with 0 held) >>= (λ n. made >>= (λ y. pure (operand_with begin y n)))) s) h
    ∙ then-is (holding begin (held_with 0 held)) (λ n. made >>= (λ y. pure (operand_with begin y n))) (held_with 0 held) s s
    (Gives (operand_with begin x (held_with 0 held)) r) (holding_is begin (held_with 0 held) s few)
    (then-is made (λ y. pure (operand_with begin y (held_with 0 held))) x s r (Gives (operand_with begin x (held_with 0 held)) r) k refl)

pub leaf-is : (at : Place) (made : Judging Elaborated) (s r : State) (x : Elaborated) → made s ≡ Gives x r → leaf at made s ≡ Gives (operand_with at x 1) r
unfolding leaf
leaf-is at made s r x k = then-is made (λ y. pure (operand_with at y 1)) x s r (Gives (operand_with at x 1) r) k refl

-- Nodes

abbrev pub with_node : State → State
with_node s = record s { seen = record s.seen { node = s.seen.node + 1 } }

pub new_node-is : (at : Place) (n : NodeId) (s : State) → n.0 ≡ s.seen.node → s.seen.node < 4294967295 → new_node at s ≡ Gives n (with_node s)
unfolding new_node
new_node-is at n s h few =
    let same : record { 0 = s.seen.node } ≡ n = ap (λ (k : ℕ). record { 0 = k }) (sym h) in
    rw (lt_true s.seen.node 4294967295 few) (ap (λ (k : NodeId). Gives k (with_node s)) same)

pub with_node-known : (s : State) → IsKnown s → IsKnown (with_node s)
with_node-known s k = record { basic = k.basic; followed = k.followed; levels = k.levels; numbered = k.numbered }

abbrev pub pointing : NodeId → TypeId → Pointing
pointing n t = record { node = n; type = t }

module _ (T : Table) (basic : IsBasic T) where
  -- a pointer with a node of its own: T goes on from the table after it, and a node was made
  pub record IsPointerGiven (made : Outcome Pointing) (n : NodeId) (t : TypeId) (s : State) (m : ℕ) : Type 0 where
    pub after : State
    pub gives : made ≡ Gives (pointing n t) after
    pub first : IsExtended after.table T
    pub count : length after.table ≡ m
    pub seen : after.seen ≡ (with_node s).seen
    pub bare : DefinesNone s.table after.table

  pub new_pointer-given : (at : Place) (n : NodeId) (to t : TypeId) (s : State) (m : ℕ) → IsKnown s → IsExtended s.table T → HasShape T t (Pointer n to)
      → IsUse t (length s.table) m → n.0 ≡ s.seen.node → s.seen.node < 4294967295 → IsPointerGiven (new_pointer at to s) n t s m
  unfolding new_pointer
  new_pointer-given at n to t s m k first has used node few =
      let g = pointer-given T basic at n to t (with_node s) m (with_node-known s k) first has used in
      record {
        after = g.after;
        gives =
            then-is (new_node at) (λ c. pointer_type at c to >>= (λ u. pure (pointing c u))) n s (with_node s) (Gives (pointing n t) g.after) (new_node-is at n s node few)
            (then-is (pointer_type at n to) (λ u. pure (pointing n u)) t (with_node s) g.after (Gives (pointing n t) g.after) g.gives refl);
        first = g.first;
        count = g.count;
        seen = g.seen;
        bare = g.bare;
      }

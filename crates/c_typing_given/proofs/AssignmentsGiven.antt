-- Assignments are given: of values, of structs, and with an operator.
use Rattle.std.proofs.Common.{◌≡◌, ◌≤◌, ◌+◌, ℕ, max, Bool, true, false, List, [], ◌∷◌, ◌++◌, length, None, refl, ap, sym, subst, ◌∙◌, arith}
use Rattle.cc_base.specs.declared.place.Place.{Place}
use Rattle.cc_base.specs.declared.number.TypeId.{TypeId}
use Rattle.c_types.specs.Table.{Table}
use Rattle.c_tree.specs.declared.operator.Assignment.{Assignment}
use Rattle.c_tree.specs.declared.operator.Assignment.TheVariants as assignment
use Rattle.c_tree.specs.Tree as tree
use Rattle.c_tree.specs.TypedTree as typed
use Rattle.c_tree.specs.TypedTree.{TypedExpr, TypedPlace}
use Rattle.c_tree.specs.TypedParts.{Made, Copy, made_by, made_by_place, type_of, place_type}
use Rattle.c_typing.specs.Assignments.{assign, assign_given, assign_part, assigned, part_type, update_by, update_part, updated}
use Rattle.c_types.specs.PointerCounts.{pointers_in}
use Rattle.c_typing.specs.Cells.{count_cells}
use Rattle.c_typing.specs.Conversions.{bare, is_plain, takes_over, IsAssignedBy}
use Rattle.c_typing.specs.Held.{held, held_with}
use Rattle.c_typing.specs.Judging.{State, Outcome, Judging, Gives, next, ◌>>=◌}
use Rattle.c_typing.specs.Operands.{Operand, Value, value, given}
use Rattle.c_typing.specs.Rules.{IsAssignment, IsStructAssignment, IsUpdate, is_compound}
use Rattle.c_typing.specs.Scopes.{Scopes}
use Rattle.c_typing.specs.Settled.{IsBasic}
use Rattle.c_typing.specs.Shapes.{integer_at}
use Rattle.c_typing.specs.Tests.{Elaborated, AsPlace, AsValue, AsAllocation, first_broken, assign_tests}
use Rattle.c_typing.specs.Walks.{judge}
use Rattle.c_typing_laws.specs.Numbers.{made_by_part}
use Rattle.c_typing_unique.specs.Points.{Point, IsRead, IsReadPlace}
use Rattle.c_typing_unique.proofs.Reading.{Part, OfValue, OfPlace}
use Rattle.c_typing_unique.proofs.Readings.{Both, IsAssigning, of-scalar, of-struct, updating}
use Rattle.c_typing_unique.proofs.Shapes.{no_true}
use Rattle.c_typing_unique.proofs.ValueLaws.{update-plain}
use Rattle.c_typing_exact.specs.Numbered.{IsElaboratedAt}
use Rattle.c_typing_exact.specs.Passing.{Passes}
use Rattle.c_typing_exact.proofs.ConversionPasses.{given-assign-passes, struct-assign-passes, update-passes}
use Rattle.c_rules_alike.specs.PartsThere.{IsPartThere}
use Rattle.c_rules_alike.proofs.ConversionRules.{assign-over}
use Rattle.c_rules_alike.proofs.PartsThere.{part_there-kept}
use Rattle.c_cells_kept.proofs.PointersKept.{pointers-most}
use Rattle.c_type_order.specs.Uses.{used_by_part}
use Rattle.c_typing_given.specs.Given.{point_at, IsHere, IsPartGiven, IsGiven}
use Rattle.c_unit_typing.specs.Holding.{expr_holds}
use Rattle.c_typing_given.specs.Spending.{HasRoom}
use Rattle.c_type_order.specs.TypesUsed.{AreUses, used_by, used_by_place, Use}
use Rattle.c_typing_given.proofs.Constructing.{as-place, as-value, of-part, finish, uses-as, room-as, uses-at, alike-as, scopes-at, reached-both, plain-given, plain-simple, max-left, max-right, held-as}
use Rattle.c_typing_given.proofs.GivenTo.{given-for, given-as}
use Rattle.c_typing_given.proofs.PlacesGiven.{place-there}
use Rattle.c_typing_given.proofs.SequencesGiven.{unread-read, one-aggregate, side-plain}
use Rattle.c_typing_given.proofs.Settling.{of_part, small-kept}
use Rattle.c_typing_given.proofs.Spent.{room-first, room-then, spent-both}
use Rattle.c_typing_given.proofs.Steps.{then-is, construct-is, operand_with}
use Rattle.c_typing_given.proofs.TypeGiven.{le_true, none-same}
use Rattle.c_typing_given.proofs.ValuesGiven.{uses-first, same-place}

-- What judging is made of

judges_assign : (called : Bool) (x : tree.Expr) (at : Place) (y : tree.Expr) (p q : Operand) (s m k : State) (o : Outcome Operand) → judge false x s ≡ Gives p m
    → judge false y m ≡ Gives q k → assign p at q k ≡ o → judge called (tree.Assign assignment.Assign x at y) s ≡ o
unfolding judge
judges_assign called x at y p q s m k o h j l =
    then-is (judge false x) (λ v. judge false y >>= (λ w. assign v at w)) p s m o h (then-is (judge false y) (λ w. assign p at w) q m k o j l)

-- `update` is what judging does with an operator other than `=`
updates : (x : tree.Expr) (operator : Assignment) (at : Place) (y : tree.Expr) → Judging Operand
updates x operator at y = judge false x >>= (λ p. (judge false y >>= value) >>= (λ v. update_by operator p at v))

judges_update : (called : Bool) (x : tree.Expr) (operator : Assignment) (at : Place) (y : tree.Expr) (s : State) → is_compound operator ≡ true
    → judge called (tree.Assign operator x at y) s ≡ updates x operator at y s
unfolding judge updates
judges_update called x assignment.Assign at y s h = no_true h
judges_update called x assignment.Multiply at y s h = refl
judges_update called x assignment.Divide at y s h = refl
judges_update called x assignment.Remainder at y s h = refl
judges_update called x assignment.Add at y s h = refl
judges_update called x assignment.Subtract at y s h = refl
judges_update called x assignment.ShiftLeft at y s h = refl
judges_update called x assignment.ShiftRight at y s h = refl
judges_update called x assignment.BitAnd at y s h = refl
judges_update called x assignment.BitXor at y s h = refl
judges_update called x assignment.BitOr at y s h = refl

updates_is : (x : tree.Expr) (operator : Assignment) (at : Place) (y : tree.Expr) (p : Operand) (v : Value) (s m k : State) (o : Outcome Operand) → judge false x s ≡ Gives p m
    → next (judge false y m) value ≡ Gives v k → update_by operator p at v k ≡ o → updates x operator at y s ≡ o
unfolding updates
updates_is x operator at y p v s m k o h j l =
    then-is (judge false x) (λ q. (judge false y >>= value) >>= (λ w. update_by operator q at w)) p s m o h (then-is (judge false y >>= value) (λ w. update_by operator p at w) v m k o j l)

assign_is : (x : Operand) (at : Place) (y : Operand) (p : TypedPlace) (u : Elaborated) (k r : State) (o : Outcome Operand) → x.part ≡ AsPlace p
    → given (place_type p) y.place y.part k ≡ Gives u r → assign_given x at (record y { part = u }) r ≡ o → assign x at y k ≡ o
unfolding assign
assign_is x at y p u k r o h g l =
    then-is (given (part_type x.part) y.place y.part) (λ v. assign_given x at (record y { part = v })) u k r o (ap (λ (z : Elaborated). given (part_type z) y.place y.part k) h ∙ g) l

assign_given_is : (x : Operand) (at : Place) (y : Operand) (p : TypedPlace) (u z : Elaborated) (k r : State) → x.part ≡ AsPlace p
    → first_broken (assign_tests k.table k.seen.scopes assignment.Assign at (AsPlace p) u) ≡ None → held_with 0 (x.held ∷ y.held ∷ []) ≤ 256
    → assign_part at (AsPlace p) u k ≡ Gives z r
    → assign_given x at (record y { part = u }) k ≡ Gives (operand_with x.place z (held_with 0 (x.held ∷ y.held ∷ []))) r
unfolding assign_given
assign_given_is x at y p u z k r h pass few made =
    construct-is (λ s. assign_tests s.table s.seen.scopes assignment.Assign at x.part u) x.place (x.held ∷ y.held ∷ []) (assign_part at x.part u) k r z
    (ap (λ (v : Elaborated). first_broken (assign_tests k.table k.seen.scopes assignment.Assign at v u)) h ∙ pass) few (ap (λ (v : Elaborated). assign_part at v u k) h ∙ made)

value_assigned : (at : Place) (p : TypedPlace) (e : TypedExpr) (k : State) → assign_part at (AsPlace p) (AsValue e) k ≡ Gives (assigned k.table at p (AsValue e)) k
unfolding assign_part
value_assigned at p e k = refl

block_assigned : (at : Place) (p : TypedPlace) (e : TypedExpr) (k : State) → assign_part at (AsPlace p) (AsAllocation e) k ≡ Gives (assigned k.table at p (AsAllocation e)) k
unfolding assign_part
block_assigned at p e k = refl

abbrev pub counting_cells : TypeId → State → State
counting_cells t s = record s { seen = record s.seen { cells = s.seen.cells + pointers_in s.table t } }

pub cells-counted : (at : Place) (t : TypeId) (s : State) → s.seen.cells + pointers_in s.table t ≤ 65536 → count_cells at t s ≡ Gives t (counting_cells t s)
unfolding count_cells
cells-counted at t s h = rw (le_true (s.seen.cells + pointers_in s.table t) 65536 h) refl

struct_assigned : (at : Place) (p q : TypedPlace) (k : State) → k.seen.cells + pointers_in k.table (place_type p) ≤ 65536
    → assign_part at (AsPlace p) (AsPlace q) k ≡ Gives (AsPlace (typed.StructAssign p at q)) (counting_cells (place_type p) k)
unfolding assign_part count_cells
struct_assigned at p q k h = rw (le_true (k.seen.cells + pointers_in k.table (place_type p)) 65536 h) refl

update_is : (operator : Assignment) (x : Operand) (at : Place) (v : Value) (p : TypedPlace) (k : State) → x.part ≡ AsPlace p
    → first_broken (assign_tests k.table k.seen.scopes operator at (AsPlace p) (AsValue v.expr)) ≡ None → held_with 0 (x.held ∷ v.held ∷ []) ≤ 256
    → update_by operator x at v k
    ≡ Gives (operand_with x.place (AsValue (updated operator at p v.expr (integer_at k.table (place_type p)) (integer_at k.table (type_of v.expr)))) (held_with 0 (x.held ∷ v.held ∷ []))) k
unfolding update_by update_part
update_is operator x at v p k h pass few =
    construct-is (λ s. assign_tests s.table s.seen.scopes operator at x.part (AsValue v.expr)) x.place (x.held ∷ v.held ∷ []) (update_part operator at x.part v.expr) k k
    (AsValue (updated operator at p v.expr (integer_at k.table (place_type p)) (integer_at k.table (type_of v.expr))))
    (ap (λ (z : Elaborated). first_broken (assign_tests k.table k.seen.scopes operator at z (AsValue v.expr))) h ∙ pass) few (ap (λ (z : Elaborated). update_part operator at z v.expr k) h)

module _ (T : Table) (basic : IsBasic T) where
  module _ (operator : Assignment) (x : tree.Expr) (at : Place) (y : tree.Expr) (gx : IsGiven T x) (gy : IsGiven T y) (called : Bool) (z : Elaborated) (s : State) (b : Point) (count : ℕ)
      (here : IsHere T s) (h : IsElaboratedAt T (tree.Assign operator x at y) z (point_at s) b) (uses : AreUses (used_by_part T z) (length s.table) count)
      (room : HasRoom T (made_by_part z) s) (holds : expr_holds (tree.Assign operator x at y) ≤ 256) where
    hx : expr_holds x ≤ 256
    hx = max-left (expr_holds x) (expr_holds y) 256 (max-right (held (tree.Assign operator x at y)) (max (expr_holds x) (expr_holds y)) 256 holds)

    hy : expr_holds y ≤ 256
    hy = max-right (expr_holds x) (expr_holds y) 256 (max-right (held (tree.Assign operator x at y)) (max (expr_holds x) (expr_holds y)) 256 holds)

    few_of : (i j : ℕ) → i ≡ held x → j ≡ held y → held_with 0 (i ∷ j ∷ []) ≤ 256
    few_of i j p q =
        held-as (held_with 0 (i ∷ j ∷ [])) (held (tree.Assign operator x at y)) 256 (λ l. held_with 0 (p l ∷ q l ∷ []))
        (max-left (held (tree.Assign operator x at y)) (max (expr_holds x) (expr_holds y)) 256 holds)

    -- the left side
    place_first : (p : TypedPlace) (m : Point) (rest : List Use) (made : List Made) → IsReadPlace T x p (point_at s) m → AreUses (used_by_place T p ++ rest) (length s.table) count
        → HasRoom T (made_by_place p ++ made) s
        → (k : ℕ) × IsPartGiven T false x (AsPlace p) s m k × AreUses rest k count
    place_first p m rest made read us rm =
        let cut = uses-first (used_by_place T p) rest (length s.table) count us in
        (cut.0, gx false (AsPlace p) s m cut.0 here read tt cut.1 (room-first T (made_by_place p) made s rm) hx, cut.2)

    scalar_given : (p : TypedPlace) (e : TypedExpr) → operator ≡ assignment.Assign → of_part z ≡ OfValue (typed.Assign p at e) → Both (IsReadPlace T x p) (IsRead T y e) (point_at s) b
        → IsAssignment T b.scopes p at e → IsPartGiven T called (tree.Assign operator x at y) z s b count
    scalar_given p e o k both w =
        let q = as-value T basic (tree.Assign operator x at y) z (typed.Assign p at e) (point_at s) b h k refl in
        let rm = room-as T basic z (AsValue (typed.Assign p at e)) s q room in
        let first = place_first p both.0 (used_by T e) (made_by e) both.1 (uses-as T basic z (AsValue (typed.Assign p at e)) (length s.table) count q uses) rm in
        let g = first.1 in
        let m : State = g.after in
        let read : IsRead T y e (point_at g.after) b = subst (λ (a : Point). IsRead T y e a b) (sym g.reached.point) both.2 in
        let inside = place-there T basic x p s both.0 first.0 g in
        let plain : takes_over T b.scopes (place_type p) e ≡ false → is_plain (bare e) ≡ true = λ f. (subst (λ (c : Bool). IsAssignedBy c T at (place_type p) e) f w.assigned).plain in
        let d =
        given-for T basic (place_type p) y gy e g.after b count g.reached.here read inside.type (uses-at T basic (used_by T e) (made_by_place p) s g.after both.0 first.0 count g.reached first.2)
        (room-then T (made_by_place p) (made_by e) s g.after rm g.reached.way.spent) hy (λ f. (subst (λ (c : Bool). IsAssignedBy c T at (place_type p) e) f w.assigned).over)
        (λ f. plain-simple T basic e (plain f)) in
        let r : State = d.after in
        let whole = reached-both T basic (made_by_place p) (made_by e) s g.after d.after both.0 b first.0 count g.reached d.reached in
        let left = part_there-kept g.after.table d.after.table d.reached.grown g.reached.here.known.basic (AsPlace p) inside in
        let pass =
        ap first_broken (assign-over r.table T d.reached.way.first d.reached.here.known.basic assignment.Assign r.seen.scopes at (AsPlace p) d.part left d.there)
        ∙ subst (λ (sc : Scopes). Passes (assign_tests T sc assignment.Assign at (AsPlace p) d.part)) (sym (scopes-at T basic (made_by e) g.after r b count d.reached))
        (given-assign-passes T b.scopes at p e d.part basic w (given-as T basic (place_type p) y e g.after b count d plain)) in
        let few = few_of g.operand.held d.operand.held g.held d.held in
        finish T basic called (tree.Assign operator x at y) z (AsValue (typed.Assign p at e))
        (operand_with g.operand.place (assigned r.table at p d.part) (held_with 0 (g.operand.held ∷ d.operand.held ∷ []))) s r b count here h q
        (ap (λ (i : Assignment). judge called (tree.Assign i x at y) s) o
        ∙ judges_assign called x at y g.operand d.operand s g.after d.between
        (Gives (operand_with g.operand.place (assigned r.table at p d.part) (held_with 0 (g.operand.held ∷ d.operand.held ∷ []))) r) g.gives d.gives
        (assign_is g.operand at d.operand p d.part d.between r
        (Gives (operand_with g.operand.place (assigned r.table at p d.part) (held_with 0 (g.operand.held ∷ d.operand.held ∷ []))) r) (same-place g.operand.part p g.same) d.giving
        (assign_given_is g.operand at d.operand p d.part (assigned r.table at p d.part) r r (same-place g.operand.part p g.same) pass few
        (made d.part r (takes_over T b.scopes (place_type p) e) refl d.block (λ f. d.plain f ∙ side-plain (bare e) (plain f))))))
        whole.way
      where
        made : (u : Elaborated) (r : State) (c : Bool) → takes_over T b.scopes (place_type p) e ≡ c → (takes_over T b.scopes (place_type p) e ≡ true → (w : TypedExpr) × (u ≡ AsAllocation w))
            → (takes_over T b.scopes (place_type p) e ≡ false → u ≡ AsValue (bare e)) → assign_part at (AsPlace p) u r ≡ Gives (assigned r.table at p u) r
        made u r true f block plain =
            let v = block f in
            subst (λ (i : Elaborated). assign_part at (AsPlace p) i r ≡ Gives (assigned r.table at p i) r) (sym v.1) (block_assigned at p v.0 r)
        made u r false f block plain =
            subst (λ (i : Elaborated). assign_part at (AsPlace p) i r ≡ Gives (assigned r.table at p i) r) (sym (plain f)) (value_assigned at p (bare e) r)

    struct_given : (p p' : TypedPlace) → operator ≡ assignment.Assign → of_part z ≡ OfPlace (typed.StructAssign p at p') → Both (IsReadPlace T x p) (IsReadPlace T y p') (point_at s) b
        → IsStructAssignment T p p' → IsPartGiven T called (tree.Assign operator x at y) z s b count
    struct_given p p' o k both w =
        let e : TypedExpr = typed.Unread p' in
        let q = as-place z (typed.StructAssign p at p') k in
        let rm = room-as T basic z (AsPlace (typed.StructAssign p at p')) s q room in
        let half = room-first T (made_by_place p ++ made_by_place p') (Copy (place_type p) ∷ []) s rm in
        let first = place_first p both.0 (used_by_place T p') (made_by_place p') both.1 (uses-as T basic z (AsPlace (typed.StructAssign p at p')) (length s.table) count q uses) half in
        let g = first.1 in
        let read : IsReadPlace T y p' (point_at g.after) b = subst (λ (a : Point). IsReadPlace T y p' a b) (sym g.reached.point) both.2 in
        let inside = place-there T basic x p s both.0 first.0 g in
        let d =
        given-for T basic (place_type p) y gy (typed.Unread p') g.after b count g.reached.here (unread-read T y p' (point_at g.after) b read (one-aggregate T p p' w.types)) inside.type
        (uses-at T basic (used_by_place T p') (made_by_place p) s g.after both.0 first.0 count g.reached first.2)
        (room-then T (made_by_place p) (made_by_place p') s g.after half g.reached.way.spent) hy (λ f. no_true f) (λ f. (refl, refl)) in
        let r : State = d.after in
        let whole = reached-both T basic (made_by_place p) (made_by_place p') s g.after d.after both.0 b first.0 count g.reached d.reached in
        let left = part_there-kept g.after.table d.after.table d.reached.grown g.reached.here.known.basic (AsPlace p) inside in
        let part : d.part ≡ AsPlace p' = d.plain refl in
        let right = subst (IsPartThere r.table) part d.there in
        let pass =
        ap first_broken (assign-over r.table T d.reached.way.first d.reached.here.known.basic assignment.Assign r.seen.scopes at (AsPlace p) (AsPlace p') left right)
        ∙ struct-assign-passes T r.seen.scopes at p p' w in
        let few = few_of g.operand.held d.operand.held g.held d.held in
        let cells = (room-then T (made_by_place p ++ made_by_place p') (Copy (place_type p) ∷ []) s r rm whole.way.spent).cells in
        let most = pointers-most r.table T d.reached.way.first d.reached.here.known.basic.formed (place_type p) in
        let after : State = record r { seen = record r.seen { cells = r.seen.cells + pointers_in r.table (place_type p) } } in
        finish T basic called (tree.Assign operator x at y) z (AsPlace (typed.StructAssign p at p'))
        (operand_with g.operand.place (AsPlace (typed.StructAssign p at p')) (held_with 0 (g.operand.held ∷ d.operand.held ∷ []))) s
        (record d.after { seen = record d.after.seen { cells = d.after.seen.cells + pointers_in d.after.table (place_type p) } }) b count here h q
        (ap (λ (i : Assignment). judge called (tree.Assign i x at y) s) o
        ∙ judges_assign called x at y g.operand d.operand s g.after d.between
        (Gives (operand_with g.operand.place (AsPlace (typed.StructAssign p at p')) (held_with 0 (g.operand.held ∷ d.operand.held ∷ []))) after) g.gives d.gives
        (assign_is g.operand at d.operand p (AsPlace p') d.between r
        (Gives (operand_with g.operand.place (AsPlace (typed.StructAssign p at p')) (held_with 0 (g.operand.held ∷ d.operand.held ∷ []))) after) (same-place g.operand.part p g.same)
        (d.giving ∙ ap (λ (i : Elaborated). Gives i r) part)
        (assign_given_is g.operand at d.operand p (AsPlace p') (AsPlace (typed.StructAssign p at p')) r after (same-place g.operand.part p g.same) pass few
        (struct_assigned at p p' r (omega (arith, cells, most))))))
        (record {
          first = whole.way.first;
          small = small-kept r (record d.after { seen = record d.after.seen { cells = d.after.seen.cells + pointers_in d.after.table (place_type p) } }) whole.way.small refl refl (omega arith) (λ o. o) (none-same r.table);
          types = whole.way.types;
          spent = spent-both T (made_by_place p ++ made_by_place p') (Copy (place_type p) ∷ []) s r
              (record d.after { seen = record d.after.seen { cells = d.after.seen.cells + pointers_in d.after.table (place_type p) } }) whole.way.spent
              (record { nodes = omega arith; globals = omega arith; cells = omega (arith, most) });
        })

    update_given : (p : TypedPlace) (e : TypedExpr) (t : TypeId) → of_part z ≡ OfValue (typed.AssignWith operator p at e t) → Both (IsReadPlace T x p) (IsRead T y e) (point_at s) b
        → IsUpdate T b.scopes operator p at e t → IsPartGiven T called (tree.Assign operator x at y) z s b count
    update_given p e t k both w =
        let q = as-value T basic (tree.Assign operator x at y) z (typed.AssignWith operator p at e t) (point_at s) b h k refl in
        let rm = room-as T basic z (AsValue (typed.AssignWith operator p at e t)) s q room in
        let first = place_first p both.0 (used_by T e) (made_by e) both.1 (uses-as T basic z (AsValue (typed.AssignWith operator p at e t)) (length s.table) count q uses) rm in
        let g = first.1 in
        let read : IsRead T y e (point_at g.after) b = subst (λ (a : Point). IsRead T y e a b) (sym g.reached.point) both.2 in
        let inside = place-there T basic x p s both.0 first.0 g in
        let d =
        plain-given T basic y gy e g.after b count g.reached.here read (update-plain T b.scopes operator at p e t w)
        (uses-at T basic (used_by T e) (made_by_place p) s g.after both.0 first.0 count g.reached first.2)
        (room-then T (made_by_place p) (made_by e) s g.after rm g.reached.way.spent) hy in
        let v : Value = d.value in
        let r : State = d.after in
        let whole = reached-both T basic (made_by_place p) (made_by e) s g.after d.after both.0 b first.0 count g.reached d.reached in
        let left = part_there-kept g.after.table d.after.table d.reached.grown g.reached.here.known.basic (AsPlace p) inside in
        let pass =
        ap first_broken (assign-over r.table T d.reached.way.first d.reached.here.known.basic operator r.seen.scopes at (AsPlace p) (AsValue v.expr) left d.there)
        ∙ subst (λ (sc : Scopes). Passes (assign_tests T sc operator at (AsPlace p) (AsValue v.expr))) (sym (scopes-at T basic (made_by e) g.after r b count d.reached))
        (update-passes T b.scopes operator at p e t (AsValue v.expr) w (alike-as T basic v.expr (bare e) d.same)) in
        let few = few_of g.operand.held v.held g.held d.held in
        finish T basic called (tree.Assign operator x at y) z (AsValue (typed.AssignWith operator p at e t))
        (operand_with g.operand.place (AsValue (updated operator at p v.expr (integer_at r.table (place_type p)) (integer_at r.table (type_of v.expr)))) (held_with 0 (g.operand.held ∷ v.held ∷ []))) s r b count here h q
        (judges_update called x operator at y s w.compound
        ∙ updates_is x operator at y g.operand v s g.after r
        (Gives (operand_with g.operand.place (AsValue (updated operator at p v.expr (integer_at r.table (place_type p)) (integer_at r.table (type_of v.expr)))) (held_with 0 (g.operand.held ∷ v.held ∷ []))) r)
        g.gives d.gives (update_is operator g.operand at v p r (same-place g.operand.part p g.same) pass few))
        whole.way

  pub assign-given : (operator : Assignment) (x : tree.Expr) (at : Place) (y : tree.Expr) → IsGiven T x → IsGiven T y → IsGiven T (tree.Assign operator x at y)
  assign-given operator x at y gx gy called z s b count here h c uses room holds = by (of_part z) refl (of-part T basic (tree.Assign operator x at y) z (point_at s) b h)
    where
      by : (p : Part) → of_part z ≡ p → IsAssigning T operator x at y (point_at s) b p → IsPartGiven T called (tree.Assign operator x at y) z s b count
      by _ k (of-scalar p e o both w) = scalar_given operator x at y gx gy called z s b count here h uses room holds p e o k both w
      by _ k (of-struct p p' o both w) = struct_given operator x at y gx gy called z s b count here h uses room holds p p' o k both w
      by _ k (updating p e t both w) = update_given operator x at y gx gy called z s b count here h uses room holds p e t k both w

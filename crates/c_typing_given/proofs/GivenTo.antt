-- What is given to a type is given: an allocation that the type takes over, or the value as it stands.
use Rattle.std.proofs.Common.{◌≡◌, ◌≤◌, ℕ, Bool, true, false, ◌&&◌, length, refl, ap, sym, subst, ◌∙◌, inl, arith}
use Rattle.cc_base.specs.declared.place.Place.{Place}
use Rattle.cc_base.specs.declared.number.NodeId.{NodeId}
use Rattle.cc_base.specs.declared.number.TypeId.{TypeId}
use Rattle.c_types.specs.Table.{Table, IsType}
use Rattle.c_tree.specs.Tree as tree
use Rattle.c_tree.specs.TypedTree as typed
use Rattle.c_tree.specs.TypedTree.{TypedExpr, TypedPlace}
use Rattle.c_tree.specs.TypedParts.{made_by}
use Rattle.c_typing.specs.Conversions.{bare, is_plain, is_allocation, is_taken_over, is_pointer_to_complete, takes_over}
use Rattle.c_typing.specs.Held
use Rattle.c_typing.specs.Extensions.{IsExtended}
use Rattle.c_typing.specs.Judging.{State, Gives, pure, new_pointer, Pointing, void_type}
use Rattle.c_typing.specs.Operands.{Operand, value_of, raw_value, given, given_allocation, made_for, made_raw, side_of}
use Rattle.c_typing.specs.Refusals.{IsElaborated}
use Rattle.c_typing.specs.Scopes.{Scopes}
use Rattle.c_typing.specs.Settled.{IsBasic, IsAlike}
use Rattle.c_typing.specs.Tests.{Elaborated, AsPlace, AsValue, AsAllocation}
use Rattle.c_typing.specs.Walks.{judge}
use Rattle.c_typing_laws.proofs.JudgedMembers.{raw_plain}
use Rattle.c_typing_laws.proofs.Outcomes.{bind-gives, gives-value}
use Rattle.c_typing_laws.proofs.TableGrowth.{extended_trans}
use Rattle.c_typing_laws.proofs.ValuesTaken.{value_of-gives}
use Rattle.c_typing_unique.specs.Points.{Point, IsRead}
use Rattle.c_typing_unique.proofs.Shapes.{no_true}
use Rattle.c_typing_exact.specs.Passing.{IsGivenAs}
use Rattle.c_rules_alike.specs.PartsThere.{IsPartThere}
use Rattle.c_rules_alike.proofs.PartsThere.{given-there}
use Rattle.c_rules_alike.proofs.TypesAlike.{pointer_to_complete-over}
use Rattle.c_typing_given.specs.Given.{point_at, IsHere, IsReached, IsGiven, IsValueGiven}
use Rattle.c_unit_typing.specs.Holding.{expr_holds}
use Rattle.c_typing_given.specs.Spending.{HasRoom}
use Rattle.c_type_order.specs.TypesUsed.{AreUses, used_by}
use Rattle.c_typing_given.proofs.AddressesGiven.{IsTakenApart, taken-apart}
use Rattle.c_typing_given.proofs.Constructing.{scopes-at, simple-given, IsSimple}
use Rattle.c_typing_given.proofs.SequencesGiven.{side-plain}
use Rattle.c_typing_given.proofs.Steps.{then-is}
use Rattle.c_typing_given.proofs.ValuesGiven.{same-allocation}

raw_allocation : (n : NodeId) (t : TypeId) (w : TypedExpr) → is_taken_over w ≡ true → is_allocation (made_raw n t w) ≡ true
raw_allocation n t (typed.Paren at e) h = raw_allocation n t e h
raw_allocation n t (typed.AllocateFor runtime f at arguments u) h = refl
raw_allocation n t w h = no_true h

and_first : (a b : Bool) → (a && b) ≡ true → a ≡ true
and_first true b h = refl
and_first false b h = h

and_second : (a b : Bool) → (a && b) ≡ true → b ≡ true
and_second true b h = h
and_second false b h = no_true h

and_not : (a b : Bool) → (a && b) ≡ false → a ≡ true → b ≡ false
and_not true b h k = h
and_not false b h k = no_true k

-- the value of an allocation that nothing takes over
raw_taken : (at : Place) (w v : TypedExpr) (k r : State) → is_taken_over w ≡ true → value_of at (AsAllocation w) k ≡ Gives v r
    → (is_allocation v ≡ true) × (is_plain v ≡ true) × (raw_value at w k ≡ Gives v r)
unfolding value_of raw_value
raw_taken at w v k r o h =
    let one = bind-gives (new_pointer at void_type k) (λ (made : Pointing). pure (made_raw made.node made.type w)) v r h in
    let same : made_raw one.0.node one.0.type w ≡ v = gives-value (made_raw one.0.node one.0.type w) v one.1 r one.3 in
    (ap is_allocation (sym same) ∙ raw_allocation one.0.node one.0.type w o, ap is_plain (sym same) ∙ raw_plain one.0.node one.0.type w o, h)

given_value : (t : TypeId) (at : Place) (u v : TypedExpr) (k r : State) → value_of at (AsValue u) k ≡ Gives v r → given t at (AsValue u) k ≡ Gives (side_of v) r
unfolding given
given_value t at u v k r h = then-is (value_of at (AsValue u)) (λ (w : TypedExpr). pure (side_of w)) v k r (Gives (side_of v) r) h refl

given_place : (t : TypeId) (at : Place) (p : TypedPlace) (v : TypedExpr) (k r : State) → value_of at (AsPlace p) k ≡ Gives v r → given t at (AsPlace p) k ≡ Gives (side_of v) r
unfolding given
given_place t at p v k r h = then-is (value_of at (AsPlace p)) (λ (w : TypedExpr). pure (side_of w)) v k r (Gives (side_of v) r) h refl

given_raw : (t : TypeId) (at : Place) (w v : TypedExpr) (k r : State) → is_pointer_to_complete k.table k.seen.scopes t ≡ false → raw_value at w k ≡ Gives v r
    → given t at (AsAllocation w) k ≡ Gives (AsValue v) r
unfolding given given_allocation
given_raw t at w v k r q h =
    ap (λ (b : Bool). given_allocation t at w b k) q ∙ then-is (raw_value at w) (λ (u : TypedExpr). pure (AsValue u)) v k r (Gives (AsValue v) r) h refl

given_over : (t : TypeId) (at : Place) (w : TypedExpr) (k : State) → is_pointer_to_complete k.table k.seen.scopes t ≡ true
    → given t at (AsAllocation w) k ≡ Gives (AsAllocation (made_for t w)) k
unfolding given given_allocation
given_over t at w k q = ap (λ (b : Bool). given_allocation t at w b k) q

module _ (T : Table) (basic : IsBasic T) where
  -- what is judged of the expression e, and given to the type t, where the tree has v
  pub record IsGivenFor (t : TypeId) (e : tree.Expr) (v : TypedExpr) (s : State) (b : Point) (count : ℕ) : Type 0 where
    pub operand : Operand
    pub between : State
    pub after : State
    pub part : Elaborated
    pub gives : judge false e s ≡ Gives operand between
    pub giving : given t operand.place operand.part between ≡ Gives part after
    pub held : operand.held ≡ Held.held e
    pub there : IsPartThere after.table part
    pub plain : takes_over T b.scopes t v ≡ false → part ≡ side_of (bare v)
    pub block : takes_over T b.scopes t v ≡ true → (w : TypedExpr) × (part ≡ AsAllocation w)
    pub reached : IsReached T (made_by v) s after b count

  module _ (t : TypeId) (e : tree.Expr) (ge : IsGiven T e) (v : TypedExpr) (s : State) (b : Point) (count : ℕ) (here : IsHere T s) (h : IsRead T e v (point_at s) b)
      (there : IsType s.table t) (uses : AreUses (used_by T v) (length s.table) count) (room : HasRoom T (made_by v) s) (holds : expr_holds e ≤ 256) where
    still : (k : State) → IsExtended s.table k.table → IsType k.table t
    still k g = let l = g.longer in omega (arith, l, there)

    over_given : takes_over T b.scopes t v ≡ true → is_taken_over v ≡ true → IsGivenFor t e v s b count
    over_given q over =
        let g = ge false (AsAllocation v) s b count here (h, over) tt uses room holds in
        let k : State = g.after in
        let block = same-allocation g.operand.part v g.same in
        let complete : is_pointer_to_complete k.table k.seen.scopes t ≡ true =
        pointer_to_complete-over k.table T g.reached.way.first g.reached.here.known.basic k.seen.scopes t (still k g.reached.grown)
        ∙ ap (λ (sc : Scopes). is_pointer_to_complete T sc t) (scopes-at T basic (made_by v) s k b count g.reached)
        ∙ and_second (is_allocation (bare v)) (is_pointer_to_complete T b.scopes t) q in
        let giving = ap (λ (x : Elaborated). given t g.operand.place x k) block.1 ∙ given_over t g.operand.place block.0 k complete in
        record {
          operand = g.operand;
          between = k;
          after = k;
          part = AsAllocation (made_for t block.0);
          gives = g.gives;
          giving = giving;
          held = g.held;
          there = given-there e t g.operand.place g.operand.part (AsAllocation (made_for t block.0)) s.seen.scopes k k g.reached.here.known (still k g.reached.grown) g.typed giving;
          plain = λ f. no_true (sym f ∙ q);
          block = λ w. (made_for t block.0, refl);
          reached = g.reached;
        }

    module _ (q : takes_over T b.scopes t v ≡ false) (g : IsValueGiven T false e v s b count) (two : IsTakenApart T basic false e v s b count g) where
      made_of : (y : Elaborated) → two.operand.part ≡ y → value_of two.operand.place y two.between ≡ Gives g.value.expr g.after
          → IsElaborated two.between.table e y s.seen.scopes two.between.seen.scopes
          → given t two.operand.place y two.between ≡ Gives (side_of g.value.expr) g.after
      made_of (AsPlace p) same taking el = given_place t two.operand.place p g.value.expr two.between g.after taking
      made_of (AsValue u) same taking el = given_value t two.operand.place u g.value.expr two.between g.after taking
      made_of (AsAllocation w) same taking el =
          let k : State = two.between in
          let raw = raw_taken two.operand.place w g.value.expr two.between g.after el.2 taking in
          let on = (value_of-gives e two.operand.place (AsAllocation w) g.value.expr s.seen.scopes two.between g.after two.known el taking).1 in
          let incomplete : is_pointer_to_complete two.between.table two.between.seen.scopes t ≡ false =
          pointer_to_complete-over two.between.table T (extended_trans two.between.table g.after.table T on.goes.extends g.reached.way.first) two.known.basic two.between.seen.scopes t
          (still two.between (two.grown))
          ∙ ap (λ (sc : Scopes). is_pointer_to_complete T sc t) (sym on.scopes ∙ scopes-at T basic (made_by v) s g.after b count g.reached)
          ∙ and_not (is_allocation (bare v)) (is_pointer_to_complete T b.scopes t) q (ap is_allocation (sym g.same) ∙ raw.0) in
          given_raw t two.operand.place w g.value.expr two.between g.after incomplete raw.2 ∙ ap (λ (x : Elaborated). Gives x g.after) (sym (side-plain g.value.expr raw.1))

      value_given : IsGivenFor t e v s b count
      value_given =
          let giving = made_of two.operand.part refl two.taking two.typed in
          record {
            operand = two.operand;
            between = two.between;
            after = g.after;
            part = side_of g.value.expr;
            gives = two.gives;
            giving = giving;
            held = two.held;
            there = given-there e t two.operand.place two.operand.part (side_of g.value.expr) s.seen.scopes two.between g.after two.known (still two.between (two.grown)) two.typed giving;
            plain = λ f. ap side_of g.same;
            block = λ f. no_true (sym q ∙ f);
            reached = g.reached;
          }

    pub given-for : (takes_over T b.scopes t v ≡ true → is_taken_over v ≡ true) → (takes_over T b.scopes t v ≡ false → IsSimple T basic v) → IsGivenFor t e v s b count
    given-for over simple = by (takes_over T b.scopes t v) refl
      where
        by : (c : Bool) → takes_over T b.scopes t v ≡ c → IsGivenFor t e v s b count
        by true q = over_given q (over q)
        by false q =
            let g = simple-given T basic e ge v s b count here h (simple q) uses room holds in
            value_given q g (taken-apart T basic false e v s b count g here)

  -- so it stands in the tree
  pub given-as : (t : TypeId) (e : tree.Expr) (v : TypedExpr) (s : State) (b : Point) (count : ℕ) (g : IsGivenFor t e v s b count) → (takes_over T b.scopes t v ≡ false → is_plain (bare v) ≡ true)
      → IsGivenAs T b.scopes t v g.part
  given-as t e v s b count g plain = record {
    alike = λ f. subst (λ (x : Elaborated). IsAlike T x (bare v)) (sym (g.plain f ∙ side-plain (bare v) (plain f))) (record { shape = refl; null = refl; value = inl refl });
    block = g.block;
  }

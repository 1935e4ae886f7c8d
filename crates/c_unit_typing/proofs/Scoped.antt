-- What is judged in a scope of its own: what is known inside, and once the scope is left.
use Rattle.std.proofs.Common.{◌≡◌, Bool, subst}
use Rattle.cc_base.specs.declared.place.Place.{Place}
use Rattle.c_types.specs.Table.{Table}
use Rattle.c_tree.specs.Erasure.{erased_statement}
use Rattle.c_tree.specs.Tree as tree
use Rattle.c_tree.specs.TypedTree.{TypedStatement}
use Rattle.c_tree.specs.TypedParts.{made_by_statement}
use Rattle.c_typing.specs.Declaring.{entered, left}
use Rattle.c_typing.specs.Extensions.{IsExtended}
use Rattle.c_typing_laws.specs.Numbers.{AreNumberedFrom}
use Rattle.c_typing_laws.proofs.TableGrowth.{extended_trans}
use Rattle.c_type_order.specs.Uses.{IsUsed}
use Rattle.c_unit_typing.specs.StatementJudging.{within, judge_statement}
use Rattle.c_unit_typing.specs.TypesUsed.{used_by_statement}
use Rattle.c_unit_typing.specs.UnitJudged.{state_of, OverLater, IsResult, IsUnitKnown, UnitGoesOn, IsStatementJudged}
use Rattle.c_unit_typing.specs.UnitJudging.{UnitState, UnitJudging, Gives, known_of, next, lifted}
use Rattle.c_unit_typing.specs.Units.{Known, Around, entering_known, leaving_known, IsStatement}
use Rattle.c_unit_typing.proofs.StatementParts.{result-kept, enter-judged, leave-judged}
use Rattle.c_unit_typing.proofs.TypesOfTests.{inside-types, enter-table, leave-table}
use Rattle.c_unit_typing.proofs.UnitOutcomes.{bind-gives}
use Rattle.c_unit_typing.proofs.UnitStates.{numbers-before, numbers-after, unit-on}

-- what was left is the same value, with all that is known after
pub record IsLeft {A : Type 0} (one : A) (s : UnitState) (whole : A) (r : UnitState) : Type 0 where
  pub same : one ≡ whole
  pub leaves : known_of r ≡ leaving_known (known_of s)
  pub on : UnitGoesOn s r
  pub node : r.seen.node ≡ s.seen.node

-- what stands in a scope of its own gives this, and then it is left
pub record IsWithin {A : Type 0} (at : Place) (go : UnitJudging A) (whole : A) (s r : UnitState) : Type 0 where
  pub flag : Bool
  pub first : UnitState
  pub one : A
  pub last : UnitState
  pub enters : lifted entered s ≡ Gives flag first
  pub gives : go first ≡ Gives one last
  pub leaves : lifted (left at one) last ≡ Gives whole r
  pub begins : known_of first ≡ entering_known (known_of s)
  pub on : UnitGoesOn s first
  pub node : first.seen.node ≡ s.seen.node
  pub table : first.table ≡ s.table
  pub ends : IsUnitKnown last → IsLeft one last whole r
  pub after : r.table ≡ last.table

pub within-gives : {A : Type 0} (at : Place) (go : UnitJudging A) (whole : A) (s r : UnitState) → IsUnitKnown s → within at go s ≡ Gives whole r → IsWithin at go whole s r
unfolding within
within-gives at go whole s r k h =
    let e1 = bind-gives (lifted entered s) (λ inside. λ m. next (go m) (λ one. lifted (left at one))) whole r h in
    let en = enter-judged e1.0 s e1.1 k e1.2 in
    let e2 = bind-gives (go e1.1) (λ one. lifted (left at one)) whole r e1.3 in
    record {
      flag = e1.0;
      first = e1.1;
      one = e2.0;
      last = e2.1;
      enters = e1.2;
      gives = e2.2;
      leaves = e2.3;
      begins = en.0;
      on = en.1;
      node = en.2;
      table = enter-table e1.0 s e1.1 e1.2;
      ends = λ known. (let out = leave-judged at e2.0 whole e2.1 r known e2.3 in record { same = out.0; leaves = out.1; on = out.2; node = out.3 });
      after = leave-table at e2.0 whole e2.1 r e2.3;
    }

-- A statement with a scope of its own, where it is judged inside

pub record IsOpenJudged (a : Around) (t : tree.Statement) (v : TypedStatement) (k : Known) (s r : UnitState) : Type 0 where
  pub typed : (T : Table) → IsExtended r.table T → (k' : Known) → k' ≡ leaving_known (known_of r) → IsStatement T a v k k'
  pub erases : erased_statement v ≡ t
  pub numbers : AreNumberedFrom (made_by_statement v) (state_of s) (state_of r)
  pub types : IsUsed (λ U. used_by_statement U v) s.table r.table
  pub goes : UnitGoesOn s r

pub scope-judged : (at : Place) (go : UnitJudging TypedStatement) (a : Around) (t : tree.Statement) (whole : TypedStatement) (s r : UnitState) (w : IsWithin at go whole s r)
    → IsOpenJudged a t w.one (known_of s) w.first w.last → IsStatementJudged a t whole s r
scope-judged at go a t whole s r w j =
    let out = w.ends j.goes.known in
    subst (λ (v : TypedStatement). IsStatementJudged a t v s r) out.same (record {
      typed = λ T x. j.typed T (extended_trans w.last.table r.table T out.on.goes.extends x) (known_of r) out.leaves;
      erases = j.erases;
      numbers = numbers-before (made_by_statement w.one) (state_of s) (state_of w.last) (state_of r)
          (numbers-after (made_by_statement w.one) (state_of s) (state_of w.first) (state_of w.last) w.node j.numbers) out.node;
      types = inside-types (λ U. used_by_statement U w.one) s.table w.first.table w.last.table r.table w.table w.after j.types;
      goes = unit-on s w.first r w.on (unit-on w.first w.last r j.goes out.on);
    })

-- A substatement, in its scope

pub record IsSubJudged (a : Around) (t : tree.Statement) (one : TypedStatement) (s r : UnitState) : Type 0 where
  pub last : Known
  pub typed : OverLater r.table (λ T. IsStatement T a one (entering_known (known_of s)) last)
  pub leaves : known_of r ≡ leaving_known last
  pub erases : erased_statement one ≡ t
  pub numbers : AreNumberedFrom (made_by_statement one) (state_of s) (state_of r)
  pub types : IsUsed (λ U. used_by_statement U one) s.table r.table
  pub goes : UnitGoesOn s r

pub sub-judged : (at : Place) (a : Around) (t : tree.Statement) (one : TypedStatement) (s r : UnitState) → IsUnitKnown s → IsResult s.table a.result
    → ((v : TypedStatement) (x y : UnitState) → IsUnitKnown x → IsResult x.table a.result → judge_statement a t x ≡ Gives v y → IsStatementJudged a t v x y)
    → within at (judge_statement a t) s ≡ Gives one r → IsSubJudged a t one s r
sub-judged at a t one s r k b judged h =
    let w = within-gives at (judge_statement a t) one s r k h in
    let j = judged w.one w.first w.last w.on.known (result-kept s.table w.first.table a.result w.on.goes.extends b) w.gives in
    let out = w.ends j.goes.known in
    subst (λ (v : TypedStatement). IsSubJudged a t v s r) out.same (record {
      last = known_of w.last;
      typed = λ T x. subst (λ (c : Known). IsStatement T a w.one c (known_of w.last)) w.begins (j.typed T (extended_trans w.last.table r.table T out.on.goes.extends x));
      leaves = out.leaves;
      erases = j.erases;
      numbers = numbers-before (made_by_statement w.one) (state_of s) (state_of w.last) (state_of r)
          (numbers-after (made_by_statement w.one) (state_of s) (state_of w.first) (state_of w.last) w.node j.numbers) out.node;
      types = inside-types (λ U. used_by_statement U w.one) s.table w.first.table w.last.table r.table w.table w.after j.types;
      goes = unit-on s w.first r w.on (unit-on w.first w.last r j.goes out.on);
    })

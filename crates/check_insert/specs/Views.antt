-- What the data of the code stand for: lines, the ends of tests, conditions.
use Rattle.cured_code.specs.Straight as straight
use Rattle.cured_code.specs.Straight.{Sets, Result}
use Rattle.check_forms.specs.Conditions as form
use Rattle.check_forms.specs.Tests as test
use Rattle.check_forms.specs.Tests.{Test}
use Rattle.check_forms.specs.declared.slots.Work.{Work}
use Rattle.check_forms.specs.Lines.{stop_if}
use Rattle.check_insert.specs.declared.line.SlotLine.{SlotLine}
use Rattle.check_insert.specs.declared.line.SlotLine.TheVariants as line
use Rattle.check_insert.specs.declared.ends.End.{End}
use Rattle.check_insert.specs.declared.ends.End.TheVariants as end
use Rattle.check_insert.specs.declared.condition.Condition.{Condition}
use Rattle.check_insert.specs.declared.condition.Condition.TheVariants as condition

abbrev pub straight_of : SlotLine → straight.Line
straight_of (line.Number v n) = Sets v (straight.Number n)
straight_of (line.Same v a) = Sets v (straight.Same a)
straight_of (line.Part v a form) = Sets v (straight.Part a form)
straight_of (line.Sum v a b) = Sets v (Result straight.Sum a b)
straight_of (line.Difference v a b) = Sets v (Result straight.Difference a b)
straight_of (line.Product v a b) = Sets v (Result straight.Product a b)
straight_of (line.And v a b) = Sets v (Result straight.And a b)
straight_of (line.Or v a b) = Sets v (Result straight.Or a b)
straight_of (line.ExclusiveOr v a b) = Sets v (Result straight.ExclusiveOr a b)
straight_of (line.Quotient v a b) = Sets v (Result straight.Quotient a b)
straight_of (line.QuotientSigned v a b) = Sets v (Result straight.QuotientSigned a b)
straight_of (line.Different v a b) = Sets v (Result straight.Different a b)
straight_of (line.Equal v a b) = Sets v (Result straight.Equal a b)
straight_of (line.Less v a b) = Sets v (Result straight.Less a b)
straight_of (line.LessSigned v a b) = Sets v (Result straight.LessSigned a b)
straight_of (line.RemainderSigned v a b) = Sets v (Result straight.RemainderSigned a b)
straight_of (line.AreaOf v k) = Sets v (straight.AreaOf k)
straight_of (line.DepthOf v a) = Sets v (straight.DepthOf a)
straight_of (line.IsBelow v a n) = Sets v (straight.IsBelow a n)
straight_of (line.SigOf v a) = Sets v (straight.SigOf a)
straight_of (line.HasRoom v a) = Sets v (straight.HasRoom a)
straight_of (line.LengthOf v b) = Sets v (straight.LengthOf b)
straight_of (line.IsPlain v a b n) = Sets v (straight.IsPlain a b n)
straight_of (line.IsTagged v a b) = Sets v (straight.IsTagged a b)
straight_of (line.BaseOf v a b) = Sets v (straight.BaseOf a b)
straight_of (line.GreatestDepth v a b n) = Sets v (straight.GreatestDepth a b n)

-- how a test ends
abbrev pub end_test : Work → End → Test
end_test k (end.Flag a) = test.Flag a
end_test k (end.StopIf a) = stop_if k a

abbrev pub condition_of : Condition → form.Condition
condition_of condition.Never = form.Never
condition_of (condition.IsNotZero a) = form.IsNotZero a
condition_of (condition.IsInPart p size) = form.IsInPart p size
condition_of (condition.IsByteInPart p) = form.IsByteInPart p
condition_of (condition.IsWithinPart p) = form.IsWithinPart p
condition_of (condition.IsInArea p size) = form.IsInArea p size
condition_of (condition.IsByteInArea p) = form.IsByteInArea p
condition_of (condition.IsWithinArea p) = form.IsWithinArea p
condition_of (condition.IsArea a last) = form.IsArea a last
condition_of (condition.IsNear p direction d reach) = form.IsNear p direction d reach.least reach.span
condition_of (condition.IsSmall n least span) = form.IsSmall n least span
condition_of (condition.IsBelowBound n bound) = form.IsBelowBound n bound
condition_of (condition.IsAtLeast n least) = form.IsAtLeast n least
condition_of (condition.IsAligned a seven) = form.IsAligned a seven
condition_of (condition.HoldsNoPointer p bytes) = form.HoldsNoPointer p bytes
condition_of (condition.HoldsPointer p eight) = form.HoldsPointer p eight
condition_of (condition.IsNoDeeper home target) = form.IsNoDeeper home target
condition_of (condition.AreNoDeeper p bytes target) = form.AreNoDeeper p bytes target
condition_of (condition.IsNotOwn home) = form.IsNotOwn home
condition_of (condition.IsMadeFor a node) = form.IsMadeFor a node
condition_of (condition.IsFunctionOf p signature) = form.IsFunctionOf p signature
condition_of (condition.HasRoom a) = form.HasRoom a
condition_of (condition.AreOfPart p q) = form.AreOfPart p q
condition_of (condition.AreOfArea p q) = form.AreOfArea p q
condition_of (condition.AreElementsApart p q size) = form.AreElementsApart p q size
condition_of (condition.IsNoOverflow a b least minus_one) = form.IsNoOverflow a b least minus_one

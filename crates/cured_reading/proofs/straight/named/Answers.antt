use Rattle.std.proofs.Common.{◌≡◌, sym, subst}
use Rattle.std.proofs.lemmas.Result.{IfErr-weaker, IfOk-weaker}
use Rattle.cured_spelling.specs.Spelling.{line_of}
use Rattle.cured_reading.specs.Operations.{operation_name}
use Rattle.cured_reading.specs.Faults.{IsPlaceKept}
use Rattle.cured_reading.specs.Refusals.{IsLineOf, IsBadLine}
use Rattle.cured_reading.proofs.InstrLaws.{operation-each}
use Rattle.cured_reading.proofs.StraightLaws.{unnamed}
use Rattle.cured_reading.proofs.straight.named.Goals as goal

pub returns-in-Ext-clause-bad : goal.returns-in-Ext-clause-bad
returns-in-Ext-clause-bad c =
    IfErr-weaker c.extension.result _ _ (λ why h names few. subst (λ n. IsBadLine names n c.args.fields.now why) (sym c.in-Ext.ensures) (h names few))
    c.extension.ensures.bad

pub returns-in-Ext-clause-line : goal.returns-in-Ext-clause-line
returns-in-Ext-clause-line c =
    IfOk-weaker c.extension.result _ _
    (λ i h. subst (λ n. IsLineOf i n c.args.fields.now × IsPlaceKept (line_of i).fields) (sym c.in-Ext.ensures) h) c.extension.ensures.line

pub returns-in-New-clause-bad : goal.returns-in-New-clause-bad
returns-in-New-clause-bad c =
    IfErr-weaker c.block.result _ _ (λ why h names few. subst (λ n. IsBadLine names n c.args.fields.now why) (sym c.in-New.ensures) (h names few))
    c.block.ensures.bad

pub returns-in-New-clause-line : goal.returns-in-New-clause-line
returns-in-New-clause-line c =
    IfOk-weaker c.block.result _ _
    (λ i h. subst (λ n. IsLineOf i n c.args.fields.now × IsPlaceKept (line_of i).fields) (sym c.in-New.ensures) h) c.block.ensures.line

pub returns-in-Check-clause-bad : goal.returns-in-Check-clause-bad
returns-in-Check-clause-bad c =
    IfErr-weaker c.check.result _ _ (λ why h names few. subst (λ n. IsBadLine names n c.args.fields.now why) (sym c.in-Check.ensures) (h names few))
    c.check.ensures.bad

pub returns-in-Check-clause-line : goal.returns-in-Check-clause-line
returns-in-Check-clause-line c =
    IfOk-weaker c.check.result _ _
    (λ i h. subst (λ n. IsLineOf i n c.args.fields.now × IsPlaceKept (line_of i).fields) (sym c.in-Check.ensures) h) c.check.ensures.line

pub returns-in-None-clause-bad : goal.returns-in-None-clause-bad
returns-in-None-clause-bad c =
    let other = c.in-Numbers.ensures in
    λ names few.
    unnamed names _ _ (operation-each (λ o. operation_name o ≡ c.args.name.now → ⊥) c.in-None.ensures.none) other.0 other.1 other.2

use Rattle.std.proofs.Common.{subst, sym, ◌∙◌}
use Rattle.lower_units.specs.Mains.{IsMainOf}
use Rattle.lower_units.specs.Heads.{function_seen}
use Rattle.lower_units.proofs.MainLaws.{main_new, main_stays}
use Rattle.lower_units.proofs.externals.main_with.Goals as goal

pub returns-in-Some : goal.returns-in-Some
returns-in-Some c = λ fs number h. main_stays c.in-Some.main fs (function_seen c.args.f.now) (subst (IsMainOf fs) c.in-Some.is h)

pub returns-then-is_main : goal.returns-then-is_main
returns-then-is_main c = λ fs number h. main_new (record { number = c.args.number; place = c.place_of.result }) fs (function_seen c.args.f.now) number
    (sym (rw c.declared_name-name.ensures at c.is_main.ensures) ∙ c.if-is_main.true) (rw c.declared_name-name.ensures at c.place_of.ensures)
    (subst (IsMainOf fs) c.in-None.is h)

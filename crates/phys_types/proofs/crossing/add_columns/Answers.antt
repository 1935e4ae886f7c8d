use Rattle.phys_types.specs.Standing.{StandInColumn}
use Rattle.phys_types.proofs.Crossed.{each_start, each_more}
use Rattle.phys_types.proofs.crossing.add_columns.Goals as goal

pub columns-init : goal.columns-init
columns-init c = each_start (StandInColumn c.args.step c.args.xs.now c.args.ys.now) c.args.found.now

pub columns-preserved : goal.columns-preserved
columns-preserved c =
    each_more (StandInColumn c.args.step c.args.xs.now c.args.ys.now) c.columns.first c.args.found.now c.columns.found c.add_column.new.found c.columns.invariant c.in_ok-add_column.ensures

use Rattle.std.proofs.Common.{sym}
use Rattle.c_tree.specs.TypedParts.{declared_type}
use Rattle.c_tree.specs.TypedViews.{typed_declarator_view}
use Rattle.c_tree.specs.TypedStatementViews.{typed_initialiser_view}
use Rattle.lower_exprs.specs.Drafts.{context_of}
use Rattle.lower_units.proofs.StaticLaws.{statics_one}
use Rattle.lower_units.proofs.statics.initialised.Goals as goal

pub returns-in-None : goal.returns-in-None
returns-in-None c = rw (sym c.declared_home.ensures, c.in-None.is) c.skip.ensures

pub returns-in-Static : goal.returns-in-Static
returns-in-Static c = rw (sym c.declared_home.ensures, c.in-Static.is) (statics_one c.in-Static.home (declared_type (typed_declarator_view c.args.d.now)) c.args.at (typed_initialiser_view c.args.i.now)
    (context_of c.args.k.now) c.args.out.now c.initialise.new.out (rw c.declared_type.ensures at c.initialise.ensures))

pub returns-in-Local : goal.returns-in-Local
returns-in-Local c = rw (sym c.declared_home.ensures, c.in-Local.is) c.skip-in-Local.ensures

pub returns-in-Parameter : goal.returns-in-Parameter
returns-in-Parameter c = rw (sym c.declared_home.ensures, c.in-Parameter.is) c.skip-in-Parameter.ensures

pub returns-in-Known : goal.returns-in-Known
returns-in-Known c = rw (sym c.declared_home.ensures, c.in-Known.is) (statics_one c.in-Known.home (declared_type (typed_declarator_view c.args.d.now)) c.args.at (typed_initialiser_view c.args.i.now)
    (context_of c.args.k.now) c.args.out.now c.initialise-in-Known.new.out (rw c.declared_type-in-Known.ensures at c.initialise-in-Known.ensures))

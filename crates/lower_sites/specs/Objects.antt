-- The sites of the objects of a program: each has a home.
use Rattle.std.specs.Prelude.{List, [], ◌∷◌, ◌++◌, flat_map, Option, None, Some}
use Rattle.cc_base.specs.declared.number.NodeId.{NodeId}
use Rattle.cc_base.specs.declared.number.TypeId.{TypeId}
use Rattle.kind_sites.specs.declared.site.Site.{Site}
use Rattle.kind_sites.specs.declared.site.Site.TheVariants as site
use Rattle.cil_form.specs.declared.number.Planned.{Planned}
use Rattle.cil_form.specs.declared.program.Function.{Function}
use Rattle.cil_form.specs.declared.program.Parameter.{Parameter}
use Rattle.cil_form.specs.declared.program.Program.{Program}
use Rattle.cil_form.specs.declared.program.Static.{Static}
use Rattle.kind_sites.specs.Solutions.{sites_of_table}

abbrev pub home_if_named : Option NodeId → TypeId → List Site
home_if_named None t = []
home_if_named (Some node) t = site.Home node t ∷ []

abbrev pub site_of_planned : Planned → List Site
site_of_planned o = site.Home o.home o.ty ∷ []

abbrev pub site_of_static : Static → List Site
site_of_static o = site.Home o.planned.home o.planned.ty ∷ []

abbrev pub site_of_parameter : Parameter → List Site
site_of_parameter p = home_if_named p.home p.ty

abbrev pub sites_of_function : Function → List Site
sites_of_function f = flat_map site_of_parameter f.parameters ++ flat_map site_of_planned f.locals

abbrev pub sites_of_objects : Program → List Site
sites_of_objects p = sites_of_table p.types ++ flat_map site_of_static p.statics ++ flat_map sites_of_function p.functions

-- What the heads of functions and the objects of a unit are made of.
use Rattle.std.specs.Prelude.{List, [], ◌∷◌, ◌++◌, map, Option, None, Some}
use Rattle.cc_base.specs.declared.number.NodeId.{NodeId}
use Rattle.c_tree.specs.TypedParts.{DefinedFunction, ParameterObject}
use Rattle.c_tree.specs.TypedViews.{typed_declarator_view}
use Rattle.c_tree.specs.TypedStatementViews.{typed_block_view}
use Rattle.c_tree.specs.declared.typed_statement.TypedFunction.{TypedFunction}
use Rattle.cil_form.specs.declared.number.Planned.{Planned}
use Rattle.cil_form.specs.declared.program.Parameter.{Parameter}
use Rattle.cil_form.specs.declared.program.Static.{Static}

-- a parameter as the tree has it
abbrev pub taken_as : Parameter → ParameterObject
taken_as p = record { home = p.home; type = p.ty }

-- a function that is defined, as plain data
abbrev pub function_seen : TypedFunction → DefinedFunction
function_seen f = record { declarator = typed_declarator_view f.declarator; body = typed_block_view f.body }

-- the homes of objects
abbrev pub homes_of_planned : List Planned → List NodeId
homes_of_planned all = map (λ o. o.home) all

abbrev pub homes_of_statics : List Static → List NodeId
homes_of_statics all = map (λ o. o.planned.home) all

abbrev pub home_or_none : Option NodeId → List NodeId
home_or_none None = []
home_or_none (Some home) = home ∷ []

abbrev pub homes_of_parameters : List Parameter → List NodeId
homes_of_parameters [] = []
homes_of_parameters (p ∷ all) = home_or_none p.home ++ homes_of_parameters all

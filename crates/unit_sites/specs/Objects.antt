-- The objects of a typed unit, as they are planned.
use Rattle.std.specs.Prelude.{List, ◌++◌, map, flat_map}
use Rattle.c_tree.specs.TypedTree.{TypedTranslationUnit}
use Rattle.c_tree.specs.TypedParts.{statics_of, functions_of}
use Rattle.src_mem.specs.Memory.{Planned}
use Rattle.src_mem.specs.Runs.{variables_of}
use Rattle.src_machine.specs.Machine.{head_of}

-- those that live as long as the program, then the named parameters and local variables of each function
abbrev pub objects_in : TypedTranslationUnit → List Planned
objects_in u = map (λ o. record { type = o.type; node = o.home }) (statics_of u) ++ flat_map (λ f. variables_of (head_of f)) (functions_of u)

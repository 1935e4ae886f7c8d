-- The objects of a function's frame, as they are planned and as they are named.
use Rattle.std.specs.List.{filter_map, cons_option}
use Rattle.std.proofs.Common.{◌≡◌, List, [], ◌∷◌, ◌++◌, map, flat_map, Option, Some, None, refl, ap, ◌∙◌}
use Rattle.std.proofs.lemmas.List.{map-append}
use Rattle.cc_base.specs.declared.number.NodeId.{NodeId}
use Rattle.c_tree.specs.TypedParts.{MadeObject, ParameterObject, DefinedFunction, parameters_of, locals_of}
use Rattle.c_ready.specs.Ready.{Named, made_named, parameter_named, home_named, variables_named}
use Rattle.src_mem.specs.Memory.{Planned}
use Rattle.src_mem.specs.Runs as runs
use Rattle.src_mem.specs.Runs.{variables_of, planned}
use Rattle.src_machine.specs.Machine as source

abbrev pub made_plan : MadeObject → Planned
made_plan o = record { type = o.type; node = o.home }

abbrev pub plan_named : Planned → Named
plan_named o = (o.node, o.type)

parameters-named : (ps : List ParameterObject)
    → map plan_named (filter_map (λ (p : runs.Parameter). planned p.type p.home)
    (map (λ (p : ParameterObject). record { type = p.type; home = p.home }) ps))
    ≡ flat_map parameter_named ps
parameters-named [] = refl
parameters-named (p ∷ ps) = by p.home (parameters-named ps)
  where
    rest : List Planned
    rest = filter_map (λ (q : runs.Parameter). planned q.type q.home) (map (λ (q : ParameterObject). record { type = q.type; home = q.home }) ps)

    by : (o : Option NodeId) → map plan_named rest ≡ flat_map parameter_named ps
        → map plan_named (cons_option (planned p.type o) rest) ≡ home_named o p.type ++ flat_map parameter_named ps
    by None more = more
    by (Some n) more = ap (λ (xs : List Named). (n, p.type) ∷ xs) more

locals-named : (os : List MadeObject) → map plan_named (map made_plan os) ≡ map made_named os
locals-named [] = refl
locals-named (o ∷ os) = ap (λ (xs : List Named). (o.home, o.type) ∷ xs) (locals-named os)

pub frame-named : (d : DefinedFunction) → map plan_named (variables_of (source.head_of d)) ≡ variables_named d
frame-named d =
    let ps = filter_map (λ (p : runs.Parameter). planned p.type p.home)
    (map (λ (p : ParameterObject). record { type = p.type; home = p.home }) (parameters_of d.declarator)) in
    map-append plan_named ps (map made_plan (locals_of d.body))
    ∙ (ap (λ (xs : List Named). xs ++ map plan_named (map made_plan (locals_of d.body))) (parameters-named (parameters_of d.declarator))
    ∙ ap (λ (xs : List Named). flat_map parameter_named (parameters_of d.declarator) ++ xs) (locals-named (locals_of d.body)))

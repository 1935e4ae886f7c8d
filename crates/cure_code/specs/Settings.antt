-- What the functions of a program are cured by.
use Rattle.std.specs.Prelude.{◌≡◌, ℕ, suc, ◌<◌, List, length, map, slice_get, slice_index, Some}
use Rattle.cc_base.specs.Kinds.{kind_at}
use Rattle.cil_form.specs.declared.program.Function.{Function}
use Rattle.cil_form.specs.declared.program.Program.{Program}
use Rattle.cil_form.specs.declared.program.Static.{Static}
use Rattle.cil_form.specs.Machine.{plan}
use Rattle.cil_form.specs.Shape.{IsInShape}
use Rattle.cil_form.specs.Told.{IsToldOf, IsSolutionOf}
use Rattle.cured_code.specs.declared.parts.Function as cured
use Rattle.cure_rules.specs.Known.{Whole, World}
use Rattle.cure_rules.specs.Functions.{world_of, parameter_words, IsCuredFunction}
use Rattle.cure_rules.specs.Programs.{start_world, IsStart}
use Rattle.cure_ready.specs.Curable.{HaveFewParameters}
use Rattle.cure_scope.specs.Scopes.{fixed_slots, size_in, offset_in}
use Rattle.cure_code.specs.declared.setting.Setting.{Setting}

-- what is the same in all functions
abbrev pub whole_in : Setting → Whole
whole_in w = record {
  table = w.layouts.now.table;
  kind = kind_at w.kinds.now;
  size = size_in w.layouts.now;
  offset = offset_in w.layouts.now;
  node = λ t. slice_index w.nodes.now t.0;
  statics = map plan w.statics.now;
  addresses = w.addresses.now;
  functions = w.functions;
  signature = λ t. slice_index w.signatures.now t.0;
}

-- The tables are those of the program, which is in shape and within its limits, and of whose sites the kinds are a solution.
pub record IsSet (w : Setting) : Type 0 where
  pub shape : IsInShape w.program.now
  pub told : IsToldOf w.program.now
  pub solution : IsSolutionOf w.program.now (kind_at w.by_node.now)
  pub few : HaveFewParameters w.program.now.types
  pub table : w.layouts.now.table ≡ w.program.now.types
  pub known : w.known.now ≡ w.program.now.types
  pub kinds : w.layouts.now.kinds ≡ w.by_node.now
  pub listed : w.kinds.now ≡ w.by_node.now
  pub count : length w.by_node.now ≡ w.program.now.nodes
  pub statics : map plan w.statics.now ≡ map (λ (o : Static). plan o.planned) w.program.now.statics
  pub functions : w.functions ≡ length w.program.now.functions

-- the world of function k, and of function 0 of the cured program
abbrev pub world_at : Setting → ℕ → Function → World
world_at w k f = world_of (whole_in w) k f (fixed_slots (parameter_words (whole_in w) f.parameters))

abbrev pub first_world : Setting → World
first_world w = start_world (whole_in w) (fixed_slots 0)

-- the function of this number in the source, and what it is cured to
abbrev pub IsNumber : Setting → ℕ → Function → Type 0
IsNumber w k f = slice_get w.program.now.functions k ≡ Some f

-- Functions that are made

-- function k of the source is there behind function 0
abbrev pub IsMadeAt : Whole → List cured.Function → ℕ → Function → Type 0
IsMadeAt w made k f = (h : cured.Function) × (slice_get made (suc k) ≡ Some h)
    × IsCuredFunction (world_of w k f (fixed_slots (parameter_words w f.parameters))) f h

-- function 0 and the first n functions of the source
pub record AreMade (w : Whole) (p : Program) (n : ℕ) (made : List cured.Function) : Type 0 where
  pub count : length made ≡ suc n
  pub first : cured.Function
  pub found : slice_get made 0 ≡ Some first
  pub start : IsStart (start_world w (fixed_slots 0)) p first
  pub each : (k : ℕ) (f : Function) → k < n → slice_get p.functions k ≡ Some f → IsMadeAt w made k f

-- Three-address code in shape: what lowering ensures, and what curing stands on.
use Rattle.std.specs.Prelude.{◌≡◌, ◌⊎◌, ℕ, Bool, suc, ◌+◌, ◌<◌, ◌≤◌, max, List, [], ◌∷◌, map, length, slice_get, sum_by, All, Option, Some, None}
use Rattle.cc_base.specs.declared.number.TypeId.{TypeId}
use Rattle.c_types.specs.declared.shape.TypeShape.{TypeShape}
use Rattle.c_types.specs.declared.shape.TypeShape.TheVariants as shape
use Rattle.kind_sites.specs.declared.site.Site.{Site}
use Rattle.kind_sites.specs.declared.site.Site.TheVariants as site
use Rattle.c_types.specs.Table.{Table, HasShape, IsType, IsUnion, AreNodesOf, shape_at}
use Rattle.c_types.specs.Sound.{IsWellFormed}
use Rattle.c_types.specs.Layouts.{size_of}
use Rattle.integers.specs.Arithmetic.{int}
use Rattle.src_mem.specs.Memory.{Planned, charge_of}
use Rattle.src_mem.specs.Uses.{pointer_offsets}
use Rattle.cil_form.specs.declared.instr.Access.{Access}
use Rattle.cil_form.specs.declared.instr.Access.TheVariants as access
use Rattle.cil_form.specs.declared.instr.Instr.{Instr, Row_of-Instr, end_of-Instr, more_of-Instr}
use Rattle.cil_form.specs.declared.instr.Instr.TheVariants as instr
use Rattle.cil_form.specs.declared.program.Function.{Function}
use Rattle.cil_form.specs.declared.program.Static.{Static}
use Rattle.cil_form.specs.declared.program.Program.{Program}
use Rattle.cil_form.specs.Machine.{plan, variables_of}
use Rattle.cil_form.specs.Sites.{Each}
use Rattle.cil_form.specs.Typing.{Context, AreShaped, IsObjectType, IsNode, IsScalar, IsInteger, no_types}

-- Limits

abbrev pub source_nest_limit : ℕ
source_nest_limit = 1000

abbrev pub parameters_limit : ℕ
parameters_limit = 127

abbrev pub source_functions_limit : ℕ
source_functions_limit = 65535

-- the bytes of static objects and literals, with 16 more for each
abbrev pub source_globals_limit : ℕ
source_globals_limit = 4194304

-- the pointers that all copies of structs and unions move
abbrev pub cells_limit : ℕ
cells_limit = 65536

-- how deep `if`, block and loop are nested in an instruction
abbrev mutual
  pub nest_of : Instr → ℕ
  nest_of (instr.If' t shape code shape' other) = suc (max (nest_of_row code) (nest_of_row other))
  nest_of (instr.Block' shape code) = suc (nest_of_row code)
  nest_of (instr.Loop' shape code) = suc (nest_of_row code)
  nest_of i = 0

  pub nest_of_row : {m : _} → Row_of-Instr m → ℕ
  nest_of_row end_of-Instr = 0
  nest_of_row (more_of-Instr i rest) = max (nest_of i) (nest_of_row rest)

abbrev pub nest_of_code : List Instr → ℕ
nest_of_code [] = 0
nest_of_code (i ∷ is) = max (nest_of i) (nest_of_code is)

abbrev pub cells_of_access : Table → Access → ℕ
cells_of_access table (access.Copy to to_place from node from_place t assignment) = length (pointer_offsets table t)
cells_of_access table other = 0

-- how many pointers the copies of an instruction move; of an `if` only one side runs, and the greater counts
abbrev mutual
  pub cells_moved : Instr → Table → ℕ
  cells_moved (instr.Access i) table = cells_of_access table i
  cells_moved (instr.If' t shape code shape' other) table = max (cells_moved_by_row code table) (cells_moved_by_row other table)
  cells_moved (instr.Block' shape code) table = cells_moved_by_row code table
  cells_moved (instr.Loop' shape code) table = cells_moved_by_row code table
  cells_moved i table = 0

  pub cells_moved_by_row : {m : _} → Row_of-Instr m → Table → ℕ
  cells_moved_by_row end_of-Instr table = 0
  cells_moved_by_row (more_of-Instr i rest) table = cells_moved i table + cells_moved_by_row rest table

abbrev pub cells_moved_by : List Instr → Table → ℕ
cells_moved_by code table = sum_by (λ i. cells_moved i table) code

-- Parts of a program

-- the nodes and the types of a site are the program's, and a union that is named is one
abbrev pub IsSiteInShape : Table → ℕ → Site → Type 0
IsSiteInShape table nodes (site.Flow from t to u place) = (from.0 < nodes) × IsType table t × (to.0 < nodes) × IsType table u
IsSiteInShape table nodes (site.Arith node place) = node.0 < nodes
IsSiteInShape table nodes (site.Integer node place) = node.0 < nodes
IsSiteInShape table nodes (site.Linked a b) = (a.0 < nodes) × (b.0 < nodes)
IsSiteInShape table nodes (site.Same t u) = IsType table t × IsType table u
IsSiteInShape table nodes (site.Pointee node t) = (node.0 < nodes) × IsType table t
IsSiteInShape table nodes (site.Home node t) = (node.0 < nodes) × IsType table t
IsSiteInShape table nodes (site.Union t place) = IsUnion table t

-- the result's type of a function type
abbrev pub result_of_shape : TypeShape → Option TypeId
result_of_shape (shape.Function parameters result) = Some result
result_of_shape other = None

-- what the code outside all functions may name
abbrev pub context_of : Program → Context
context_of p = record {
  table = p.types;
  nodes = p.nodes;
  sites = p.sites;
  statics = map (λ s. plan s.planned) p.statics;
  variables = [];
  functions = map (λ f. f.ty) p.functions;
  result = None;
  blocks = 0;
  kept = no_types;
}

-- what the body of a function may name
abbrev pub context_in : Program → Function → Context
context_in p f = record (context_of p) { variables = variables_of f; result = result_of_shape (shape_at p.types f.ty) }

-- an object can be made
abbrev pub IsPlanInShape : Program → Planned → Type 0
IsPlanInShape p o = IsNode (context_of p) o.node × IsObjectType (context_of p) o.type

-- a string literal fills its object, an array of chars, byte by byte
abbrev pub IsText : Table → TypeId → Option (List ℕ) → Type 0
IsText table t None = Unit {0}
IsText table t (Some text) = (element : TypeId) × (count : ℕ) × (signed : Bool) × HasShape table t (shape.Array element count)
    × HasShape table element (shape.Integer 1 signed) × (length text ≡ count) × Each (λ b. b < 256) text

pub record IsStaticInShape (p : Program) (s : Static) : Type 0 where
  pub planned : IsPlanInShape p (plan s.planned)
  pub text : IsText p.types s.planned.ty s.text

-- code that begins and ends with nothing known of the temporaries
pub record IsCodeInShape (k : Context) (code : List Instr) : Type 0 where
  pub shaped : AreShaped code k no_types no_types
  pub nested : nest_of_code code ≤ source_nest_limit

-- a function gives a scalar or nothing
abbrev pub IsResult : Program → TypeId → Type 0
IsResult p t = IsScalar (context_of p) t ⊎ (IsType p.types t × (shape_at p.types t ≡ shape.Void))

-- a function has the type of its parameters, which are scalars, and of its result, and its body is in shape
pub record IsFunctionInShape (p : Program) (f : Function) : Type 0 where
  pub type : (result : TypeId) × IsType p.types f.ty × (shape_at p.types f.ty ≡ shape.Function (map (λ x. x.ty) f.parameters) result) × IsResult p result
  pub parameters : length f.parameters ≤ parameters_limit
  pub scalars : Each (λ x. IsScalar (context_of p) x.ty) f.parameters
  pub variables : Each (IsPlanInShape p) (variables_of f)
  pub body : IsCodeInShape (context_in p f) f.body.0.items

-- `main` takes nothing and gives an int (C99 5.1.2.2.1)
abbrev pub IsMain : Program → Function → Type 0
IsMain p f = (result : TypeId) × (shape_at p.types f.ty ≡ shape.Function [] result) × IsInteger (context_of p) result int

-- A program in shape. Its table is well formed, so that no type has more than 1,048,576 bytes.
pub record IsInShape (p : Program) : Type 0 where
  pub formed : IsWellFormed p.types
  pub nodes : All (λ e. AreNodesOf p.nodes e.shape) p.types
  pub sites : All (IsSiteInShape p.types p.nodes) p.sites
  pub statics : All (IsStaticInShape p) p.statics
  pub globals : sum_by (λ s. charge_of (size_of p.types s.planned.ty)) p.statics ≤ source_globals_limit
  pub initialisers : IsCodeInShape (context_of p) p.initialisers.0.items
  pub functions : All (IsFunctionInShape p) p.functions
  pub count : length p.functions ≤ source_functions_limit
  pub main : (f : Function) × (slice_get p.functions p.main.0 ≡ Some f) × IsMain p f
  pub cells : cells_moved_by p.initialisers.0.items p.types + sum_by (λ f. cells_moved_by f.body.0.items p.types) p.functions ≤ cells_limit

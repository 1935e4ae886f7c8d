-- The tables of a program.
use Rattle.std.specs.Prelude.{◌≡◌, ℕ, suc, ◌*◌, ◌≤◌, List, length, map, slice_index}
use Rattle.cc_base.specs.declared.kind.Kind.{Kind}
use Rattle.cc_base.specs.Kinds.{kind_at}
use Rattle.cil_form.specs.declared.program.Program.{Program}
use Rattle.cil_form.specs.declared.program.Static.{Static}
use Rattle.cil_form.specs.Machine.{plan}
use Rattle.cured_code.specs.FlatState.{PlacedArea}
use Rattle.cured_code.specs.FlatMachine.{global_areas, placed}
use Rattle.cure_rules.specs.Known.{Whole}
use Rattle.cure_rules.specs.Functions.{AreSignatures}
use Rattle.cure_rules.specs.Programs.{AreGlobals, Numbers}
use Rattle.fat_layouts.specs.Standing.{Curing}
use Rattle.cure_scope.specs.Scopes.{size_in, offset_in}
use Rattle.cure_code.specs.declared.programs.Tables.{Tables}

-- the tables are those of the program and of the kinds of its nodes
pub record AreTables (p : Program) (kinds : List Kind) (t : Tables) : Type 0 where
  pub listed : t.kinds.items ≡ kinds
  pub known : t.known ≡ p.types
  pub layouts : t.layouts ≡ record { table = p.types; kinds = kinds }
  pub signatures : AreSignatures p.types (kind_at kinds) (λ u. slice_index t.signatures.numbers.items u.0) t.signatures.sigs.items
  pub few : length t.signatures.sigs.items ≤ 65536
  pub statics : map plan t.statics.items ≡ map (λ (o : Static). plan o.planned) p.statics
  pub globals : AreGlobals p.types (kind_at kinds) p.statics t.globals.items
  pub addresses : t.addresses.items ≡ map (λ (a : PlacedArea). a.address) (placed (global_areas t.globals.items) (8 * suc (length p.functions)))

abbrev pub curing_of : Program → List Kind → Curing
curing_of p kinds = record { table = p.types; kinds = kinds }

abbrev pub numbers_with : Program → List Kind → Tables → Numbers
numbers_with p kinds t = record {
  size = size_in (curing_of p kinds);
  offset = offset_in (curing_of p kinds);
  signature = λ u. slice_index t.signatures.numbers.items u.0;
}

-- what is the same in all functions, by these tables and the type nodes of the types
abbrev pub whole_with : Program → List Kind → List ℕ → Tables → Whole
whole_with p kinds nodes t = record {
  table = p.types;
  kind = kind_at kinds;
  size = size_in (curing_of p kinds);
  offset = offset_in (curing_of p kinds);
  node = λ u. slice_index nodes u.0;
  statics = map (λ (o : Static). plan o.planned) p.statics;
  addresses = t.addresses.items;
  functions = length p.functions;
  signature = λ u. slice_index t.signatures.numbers.items u.0;
}

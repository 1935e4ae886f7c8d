-- A program that is lowered from a unit is in shape and means what the unit means.
use Rattle.std.proofs.Common.{◌≡◌, ◌≤◌, ℕ, ap, sym, subst, ◌∙◌, List, [], ◌∷◌, length, Option, None, Some}
use Rattle.cc_base.specs.declared.kind.Kind.{Kind}
use Rattle.cc_base.specs.declared.number.NodeId.{NodeId}
use Rattle.c_types.specs.Table.{Table}
use Rattle.kind_sites.specs.declared.site.Site.{Site}
use Rattle.c_tree.specs.Depth.{unit_height}
use Rattle.c_tree.specs.Erasure.{erased_unit}
use Rattle.c_tree.specs.TypedTree.{TypedTranslationUnit}
use Rattle.c_tree.specs.TypedParts.{made_by_unit, nodes_made}
use Rattle.c_unit_typing.specs.Limits.{IsWithinLimits}
use Rattle.c_unit_typing.specs.WellTyped.{IsWellTyped}
use Rattle.runs.specs.Input.{Input}
use Rattle.src_machine.specs.Machine.{source_run}
use Rattle.src_machine.specs.Sites.{sites_of}
use Rattle.cil_form.specs.Machine.{code_run}
use Rattle.cil_form.specs.Shape.{IsInShape}
use Rattle.cil_form.specs.Sites.{Each}
use Rattle.cil_form.specs.Told.{IsToldOf}
use Rattle.cil_form.specs.declared.program.Program.{Program}
use Rattle.cil_form.specs.declared.program.Static.{Static}
use Rattle.lower_rules.specs.Units.{IsCodeOfUnit}
use Rattle.lower_means.proofs.Units.{code-runs}
use Rattle.lower_shape.specs.Lowered.{AreBytes, IsLoweredFrom}
use Rattle.lower_shape.proofs.SitesKept.{program-told}
use Rattle.lower_shape.proofs.Whole.{program-shaped}
use Rattle.unit_parts.specs.Collecting.{HaveBytes, IsBytes}

one_text : (text : Option (List ℕ)) → IsBytes text → AreBytes text
one_text None h = tt
one_text (Some text) h = h

texts : (all : List Static) → HaveBytes all → Each (λ s. AreBytes s.text) all
texts [] h = tt
texts (o ∷ all) h = (one_text o.text h.0, texts all h.1)

-- with all sites in place of those of its pieces
pub lowered_with : (u : TypedTranslationUnit) (p : Program) (sites : List Site) → IsCodeOfUnit u p → p.nodes ≡ length (nodes_made (made_by_unit u))
    → sites ≡ sites_of u p.types → HaveBytes p.statics → IsLoweredFrom u (record p { sites = sites })
lowered_with u p sites is nodes all bytes = record {
  code = record { functions = is.functions; initialisers = is.initialisers; statics = is.statics; main = is.main; main_place = is.main_place };
  nodes = nodes;
  sites = all;
  texts = texts p.statics bytes;
}

pub shaped : (u : TypedTranslationUnit) (p : Program) (table : Table) → IsLoweredFrom u p → p.types ≡ table → IsWellTyped table u
    → IsWithinLimits table u → unit_height (erased_unit u) ≤ 256 → IsInShape p
shaped u p table l same typed limits height =
    program-shaped u p (subst (λ t. IsWellTyped t u) (sym same) typed) (subst (λ t. IsWithinLimits t u) (sym same) limits) height l

pub means : (u : TypedTranslationUnit) (p : Program) (table : Table) → IsLoweredFrom u p → p.types ≡ table
    → (kind : NodeId → Kind) (input : Input) (turns : ℕ) → code_run p kind input turns ≡ source_run u table kind input turns
means u p table l same kind input turns = code-runs u p l.code kind input turns ∙ ap (λ t. source_run u t kind input turns) same

pub sites_told : (u : TypedTranslationUnit) (p : Program) (table : Table) → IsLoweredFrom u p → p.types ≡ table → p.sites ≡ sites_of u table
sites_told u p table l same = l.sites ∙ ap (λ t. sites_of u t) same

-- its sites tell of all of it
pub told : (u : TypedTranslationUnit) (p : Program) (table : Table) → IsLoweredFrom u p → p.types ≡ table → IsWellTyped table u → IsToldOf p
told u p table l same typed = program-told u p (subst (λ t. IsWellTyped t u) (sym same) typed) l

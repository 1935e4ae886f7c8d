-- A program in three-address code that is lowered from a typed unit.
use Rattle.std.specs.Prelude.{◌≡◌, ℕ, ◌<◌, List, length, Option, Some, None}
use Rattle.c_tree.specs.TypedTree.{TypedTranslationUnit}
use Rattle.c_tree.specs.TypedParts.{made_by_unit, nodes_made}
use Rattle.src_machine.specs.Sites.{sites_of}
use Rattle.cil_form.specs.declared.program.Program.{Program}
use Rattle.cil_form.specs.Sites.{Each}
use Rattle.lower_rules.specs.Units.{IsCodeOfUnit}

-- what a string literal holds is bytes
abbrev pub AreBytes : Option (List ℕ) → Type 0
AreBytes None = Unit {0}
AreBytes (Some text) = Each (λ b. b < 256) text

-- It is code of the unit, and has the unit's nodes and all of its sites.
pub record IsLoweredFrom (u : TypedTranslationUnit) (p : Program) : Type 0 where
  pub code : IsCodeOfUnit u p
  pub nodes : p.nodes ≡ length (nodes_made (made_by_unit u))
  pub sites : p.sites ≡ sites_of u p.types
  pub texts : Each (λ s. AreBytes s.text) p.statics

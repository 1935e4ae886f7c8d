-- What is known where the text of a unit begins.
use Rattle.std.proofs.Common.{◌≡◌, ◌≤◌, ℕ, List, [], length, Some, refl, lit<, lit≤, arith}
use Rattle.std.proofs.lemmas.List.Elements.{All-nil, All-cons}
use Rattle.c_types.specs.Calls.{basic_table}
use Rattle.c_types.specs.Table.{Table}
use Rattle.runtime_calls.specs.Prototypes.{IsNoName}
use Rattle.c_typing.specs.declared.declared.Declared.{Declared}
use Rattle.c_typing.specs.Scopes.{Name, file_scope, empty_level, place_among}
use Rattle.c_typing.specs.Settled.{IsBasic, IsKnown}
use Rattle.c_typing_laws.proofs.FirstState.{first-known}
use Rattle.c_unit_typing.specs.Linkage.{no_linkage}
use Rattle.c_unit_typing.specs.UnitJudged.{state_of, IsLinkedKnown, IsUnitKnown}
use Rattle.c_unit_typing.specs.UnitJudging.{UnitState, known}
use Rattle.c_unit_typing.proofs.BasicTable.{basic-formed}
use Rattle.c_unit_given.proofs.UnitGiven.{IsHomeBelow, IsUnitHere}
use Rattle.c_unit_given.proofs.FirstTypes.{first-types}
use Rattle.c_unit_given.proofs.LevelsBelow.{IsLevelBelow}

-- the state before the text of a unit that defines these functions
abbrev pub before_text : List Name → UnitState
before_text names = known basic_table (file_scope names) no_linkage

types_known : (names : List Name) → IsKnown (state_of (before_text names))
types_known names = first-known names (state_of (before_text names)) basic-formed refl refl

pub text-known : (names : List Name) → IsUnitKnown (before_text names)
text-known names = record { known = types_known names; linked = All-nil (λ (e : Name × Declared). IsLinkedKnown (before_text names) e.1) }

pub text-here : (T : Table) → IsBasic T → (names : List Name) → length names ≤ 65535 → ((name : Name) (number : ℕ) → place_among names name ≡ Some number → IsNoName name)
    → IsUnitHere T (before_text names)
text-here T basic names few own = record {
  here = record {
    known = types_known names;
    first = first-types T basic;
    small = record {
      few = lit≤ tt;
      short = All-nil (λ (all : List Name). length all ≤ 4294967296);
      functions = omega (arith, few);
      opened = lit< tt;
      finished = λ t n h c. absurd (let none = (types_known names).numbered.given t n h in omega (arith, none));
    };
    own = own;
  };
  unit = text-known names;
  open_ = lit≤ tt;
  homes = All-cons (IsLevelBelow 0) empty_level [] (All-nil (λ (e : Name × Declared). IsHomeBelow 0 e.1)) (All-nil (IsLevelBelow 0));
}

-- What a unit that is within its limits costs: there is room for it where its text begins.
use Rattle.std.proofs.Common.{◌≡◌, ◌≤◌, ◌+◌, ℕ, List, [], ◌∷◌, refl, ap, sym, subst, arith}
use Rattle.std.specs.List.{All}
use Rattle.std.proofs.lemmas.List.Elements.{All-head, All-tail, All-get_or}
use Rattle.cc_base.specs.declared.number.TypeId.{TypeId}
use Rattle.c_types.specs.declared.shape.TypeShape.{TypeShape}
use Rattle.c_types.specs.Table.{Table, Entry, void_entry}
use Rattle.c_tree.specs.declared.leaf.Identifier.{Identifier}
use Rattle.c_tree.specs.declared.typed_word.Home.{Home}
use Rattle.c_tree.specs.declared.typed_word.Home.TheVariants as home
use Rattle.c_tree.specs.TypedTree.{TypedTranslationUnit}
use Rattle.c_tree.specs.TypedParts.{Made, Written, Name, Literal, Address, Copy, made_by_unit}
use Rattle.c_types.specs.Sound.{IsWellFormed}
use Rattle.c_typing.specs.Scopes as scopes
use Rattle.c_typing_given.specs.Limits.{IsLimited}
use Rattle.c_typing_given.specs.Spending.{total}
use Rattle.c_typing_given.proofs.NodesMade.{nodes-few}
use Rattle.c_cells_kept.specs.Counted.{copied_by, copied}
use Rattle.c_unit_typing.specs.Limits.{IsWithinLimits, parameters_of_shape}
use Rattle.c_unit_typing.specs.Units.{Known, IsUnitTyped}
use Rattle.c_unit_limits.specs.Literals.{static_bytes, statics_made}
use Rattle.c_unit_limits.proofs.CellsUnits.{copies-sum}
use Rattle.c_unit_limits.proofs.SizedUnits.{unit-sized}
use Rattle.c_unit_limits.proofs.StaticBytes.{global-bytes}
use Rattle.c_unit_limits.proofs.StaticsMade.{IsLiteralSized}
use Rattle.c_unit_given.proofs.Countable.{IsCountable}
use Rattle.c_unit_given.proofs.UnitGiven.{object_cost, HasUnitRoom}
use Rattle.c_unit_given.proofs.BeforeText.{before_text}

module _ (T : Table) where
  -- a literal of the size of its type is counted as the limit counts it

  name_counted : (name : Identifier) (h : Home) (t : TypeId) → object_cost T (Name name h t) ≡ static_bytes T (Name name h t)
  name_counted name home.None t = refl
  name_counted name (home.Static n) t = refl
  name_counted name (home.Local n) t = refl
  name_counted name (home.Parameter n) t = refl
  name_counted name (home.Known n) t = refl

  object_counted : (m : Made) → IsLiteralSized T m → object_cost T m ≡ static_bytes T m
  object_counted (Written at n) h = refl
  object_counted (Name name h t) sized = name_counted name h t
  object_counted (Literal pieces n t) h = ap (λ (k : ℕ). k + 16) (sym h)
  object_counted (Address n) h = refl
  object_counted (Copy t) h = refl

  objects_counted : (made : List Made) → All (IsLiteralSized T) made → total (object_cost T) made ≡ statics_made T made
  objects_counted [] h = refl
  objects_counted (m ∷ made) h =
      let one = object_counted m (All-head (IsLiteralSized T) m made h) in
      let rest = objects_counted made (All-tail (IsLiteralSized T) m made h) in
      (λ i. one i + rest i)

  copy_counted : (m : Made) → copied_by T m ≡ copied_by T m
  copy_counted (Written at n) = refl
  copy_counted (Name name h t) = refl
  copy_counted (Literal pieces n t) = refl
  copy_counted (Address n) = refl
  copy_counted (Copy t) = refl

  copies_counted : (made : List Made) → copied T made ≡ total (copied_by T) made
  copies_counted [] = refl
  copies_counted (m ∷ made) = let one = copy_counted m in let rest = copies_counted made in (λ i. one i + rest i)

  pub text-room : IsWellFormed T → (whole : TypedTranslationUnit) (k l : Known) → IsUnitTyped T whole k l → IsWithinLimits T whole → IsCountable whole
      → (names : List scopes.Name) → HasUnitRoom T (made_by_unit whole) (before_text names)
  text-room formed whole k l typed limits countable names =
      let made = made_by_unit whole in
      record {
        things = omega (arith, countable);
        nodes = let few = nodes-few made in omega (arith, countable, few);
        globals =
            let few = limits.globals in
            let bytes = global-bytes T whole in
            let count = objects_counted made (unit-sized T formed whole k l typed).each in
            omega (arith, few, bytes, count);
        cells = let few = limits.cells in let sum = copies-sum T made in let count = copies_counted made in omega (arith, few, sum, count);
      }

pub unit-limited : (T : Table) (whole : TypedTranslationUnit) → IsWithinLimits T whole → IsLimited T
unit-limited T whole limits = record {
  few = λ t parameters result h.
      subst (λ (x : TypeShape). parameters_of_shape x ≤ 127) h.1 (All-get_or (λ (e : Entry). parameters_of_shape e.shape ≤ 127) T t.0 void_entry h.0 limits.parameters);
}

-- The static objects of a program that is lowered from a well typed unit are in shape.
use Rattle.std.specs.List.{All}
use Rattle.std.specs.Prelude.{sum, sum_by}
use Rattle.std.proofs.Common.{◌≡◌, ℕ, ◌<◌, ◌+◌, ◌≤◌, Bool, true, List, [], ◌∷◌, map, length, Option, Some, None, option_map, refl, ap, sym, subst, ◌∙◌}
use Rattle.std.proofs.lemmas.List.{length-append}
use Rattle.std.proofs.lemmas.List.Sums.{sum_by-cons}
use Rattle.std.proofs.lemmas.List.Elements.{All-map, All-weaker}
use Rattle.cc_base.specs.declared.number.TypeId.{TypeId}
use Rattle.c_types.specs.declared.shape.TypeShape.TheVariants as shape
use Rattle.c_types.specs.Layouts.{size_of}
use Rattle.c_types.specs.Table.{Table, HasShape}
use Rattle.c_tree.specs.declared.leaf.StringPiece.{StringPiece}
use Rattle.c_tree.specs.TypedTree.{TypedTranslationUnit}
use Rattle.c_tree.specs.TypedParts.{MadeObject, statics_of}
use Rattle.c_tree.specs.Literals.{pieces_bytes}
use Rattle.c_unit_typing.specs.Limits.{IsWithinLimits, global_bytes}
use Rattle.c_ready.specs.Ready.{Stage, IsNode, IsWhole, IsTextOf, static_stage, IsReadyUnit}
use Rattle.c_ready.proofs.Basics.{unmap}
use Rattle.src_mem.specs.Memory.{charge_of}
use Rattle.src_mem.specs.Runs as runs
use Rattle.src_machine.specs.Machine as source
use Rattle.cil_form.specs.declared.program.Program.{Program}
use Rattle.cil_form.specs.declared.program.Static.{Static}
use Rattle.cil_form.specs.Shape.{IsStaticInShape, IsText, source_globals_limit}
use Rattle.lower_shape.specs.Lowered.{IsLoweredFrom, AreBytes}
use Rattle.lower_shape.proofs.Functions.{all-both}
use Rattle.lower_shape.proofs.Lists.{all-each}

-- a literal fills an array of chars
abbrev Fills : Table → TypeId → Option (List ℕ) → Type 0
Fills T t None = Unit {0}
Fills T t (Some text) = (element : TypeId) × (count : ℕ) × (signed : Bool) × HasShape T t (shape.Array element count)
    × HasShape T element (shape.Integer 1 signed) × (length text ≡ count)

filled : (T : Table) (t : TypeId) (o : Option (List StringPiece)) → IsTextOf T t o → Fills T t (option_map source.text_of o)
filled T t None h = tt
filled T t (Some pieces) h =
    (h.element, length (pieces_bytes pieces) + 1, true, h.shape, h.char, length-append (pieces_bytes pieces) (0 ∷ []))

text-shaped : (T : Table) (t : TypeId) (o : Option (List ℕ)) → Fills T t o → AreBytes o → IsText T t o
text-shaped T t None h g = tt
text-shaped T t (Some text) h g = (h.0, h.1, h.2, h.3, h.4, h.5, g)

module _ (u : TypedTranslationUnit) (p : Program) (w : IsReadyUnit p.types u) (l : IsLoweredFrom u p) where
  abbrev static : Stage
  static = static_stage p.types u

  abbrev IsFine : runs.Static → Type 0
  IsFine s = ((s.home.0 < static.nodes) × IsWhole static s.type) × Fills p.types s.type s.text

  all-fine : All IsFine (source.statics_in u)
  all-fine =
      All-map IsFine (λ (o : MadeObject). record { type = o.type; home = o.home; text = option_map source.text_of o.literal }) (statics_of u)
      (All-weaker (λ (o : MadeObject). (IsNode static o.home × IsWhole static o.type) × IsTextOf static.table o.type o.literal)
      (λ (o : MadeObject). IsFine (record { type = o.type; home = o.home; text = option_map source.text_of o.literal }))
      (λ o q. (q.0, filled p.types o.type o.literal q.1)) (statics_of u)
      (all-both (λ (o : MadeObject). IsNode static o.home × IsWhole static o.type) (λ (o : MadeObject). IsTextOf static.table o.type o.literal)
      (statics_of u) w.objects.plans w.objects.texts))

  abbrev as_static : Static → runs.Static
  as_static o = record { type = o.planned.ty; home = o.planned.home; text = o.text }

  each-fine : All (λ (s : Static). IsFine (as_static s)) p.statics
  each-fine = unmap IsFine as_static p.statics (subst (All IsFine) (sym l.code.statics) all-fine)

  pub statics-in_shape : All (IsStaticInShape p) p.statics
  statics-in_shape =
      All-weaker (λ (s : Static). IsFine (as_static s) × AreBytes s.text) (IsStaticInShape p)
      (λ s q. record {
        planned = (subst (λ n. s.planned.home.0 < n) (sym l.nodes) q.0.0.0, q.0.0.1);
        text = text-shaped p.types s.planned.ty s.text q.0.1 q.1;
      }) p.statics
      (all-both (λ (s : Static). IsFine (as_static s)) (λ (s : Static). AreBytes s.text) p.statics each-fine
      (all-each (λ (s : Static). AreBytes s.text) p.statics l.texts))

  -- what they take

  charges : (T : Table) (xs : List runs.Static) → sum_by (λ (s : runs.Static). charge_of (size_of T s.type)) xs
      ≡ sum (map (λ (s : runs.Static). size_of T s.type + 16) xs)
  charges T [] = refl
  charges T (x ∷ xs) =
      sum_by-cons (λ (s : runs.Static). charge_of (size_of T s.type)) x xs
      ∙ (ap (λ n. size_of T x.type + 16 + n) (charges T xs)
      ∙ sym (sum_by-cons (λ (n : ℕ). n) (size_of T x.type + 16) (map (λ (s : runs.Static). size_of T s.type + 16) xs)))

  charged : (T : Table) (ss : List Static) → sum_by (λ (s : Static). charge_of (size_of T s.planned.ty)) ss
      ≡ sum_by (λ (s : runs.Static). charge_of (size_of T s.type)) (map as_static ss)
  charged T [] = refl
  charged T (s ∷ ss) =
      sum_by-cons (λ (x : Static). charge_of (size_of T x.planned.ty)) s ss
      ∙ (ap (λ n. charge_of (size_of T s.planned.ty) + n) (charged T ss)
      ∙ sym (sum_by-cons (λ (x : runs.Static). charge_of (size_of T x.type)) (as_static s) (map as_static ss)))

  sizes : (T : Table) (os : List MadeObject)
      → map (λ (s : runs.Static). size_of T s.type + 16)
      (map (λ (o : MadeObject). record { type = o.type; home = o.home; text = option_map source.text_of o.literal }) os)
      ≡ map (λ (o : MadeObject). size_of T o.type + 16) os
  sizes T [] = refl
  sizes T (o ∷ os) = ap (λ (ns : List ℕ). (size_of T o.type + 16) ∷ ns) (sizes T os)

  global : sum_by (λ (s : Static). charge_of (size_of p.types s.planned.ty)) p.statics ≡ global_bytes p.types u
  global =
      charged p.types p.statics
      ∙ (ap (λ (xs : List runs.Static). sum_by (λ (s : runs.Static). charge_of (size_of p.types s.type)) xs) l.code.statics
      ∙ (charges p.types (source.statics_in u) ∙ ap sum (sizes p.types (statics_of u))))

  pub globals-few : IsWithinLimits p.types u → sum_by (λ (s : Static). charge_of (size_of p.types s.planned.ty)) p.statics ≤ source_globals_limit
  globals-few limits = subst (λ n. n ≤ 4194304) (sym global) limits.globals

-- All constants and copies of a program in shape: the laws of instructions that set a temporary.
use Rattle.std.proofs.Common.{◌≡◌, ℕ, ◌^◌, ◌<◌, Bool, true, false, List, slice_get, Some, refl, sym, subst, ◌∙◌, arith}
use Rattle.std.proofs.lemmas.Option.{slice_get_within}
use Rattle.cc_base.specs.declared.number.NodeId.{NodeId}
use Rattle.cc_base.specs.declared.number.TypeId.{TypeId}
use Rattle.c_types.specs.declared.shape.TypeShape.TheVariants as shape
use Rattle.c_types.specs.Table.{is_function}
use Rattle.c_types.specs.Flows.{IsOfOneClass}
use Rattle.src_mem.specs.State.{Defined}
use Rattle.src_mem.specs.Facts.{IsFunctionOf}
use Rattle.facts_kept.proofs.Flow.{equal-data}
use Rattle.cil_form.specs.declared.number.Object.{Object}
use Rattle.cil_form.specs.declared.instr.Set.TheVariants as set
use Rattle.cil_form.specs.declared.instr.Instr.{Instr}
use Rattle.cil_form.specs.declared.instr.Instr.TheVariants as instr
use Rattle.cil_form.specs.Typing.{Typing, IsObject, IsPointer, AreDeclaredAlike, turned, no_types}
use Rattle.cil_form.specs.Meaning as meaning
use Rattle.cil_facts.proofs.Accesses.{alike-class}
use Rattle.sim_relation.specs.Ground.{function_word}
use Rattle.cure_rules.specs.Slots.{AreSlots}
use Rattle.cure_rules.specs.Setting.{IsCuringSet}
use Rattle.sim_laws.specs.Scenes.{Scene, Running, setting_of, around_of}
use Rattle.sim_laws.specs.Held.{IsInCode}
use Rattle.sim_laws.specs.Statements.{Follows, AllFollow}
use Rattle.sim_laws.proofs.Sets.{set-integer, set-null, set-copy}
use Rattle.sim_laws.proofs.Addresses.{IsNamed, set-function, set-object}
use Rattle.sim_laws.proofs.Shaped.{Shaped}
use Rattle.sim_laws.proofs.Names.{Names, context_in, solved-in, pointer-asked, same-plan, object-held}

-- a type that was declared of one name with a function's is a function's
alike-function : (w : Scene) (names : Names w) (b : Running) (t u : TypeId) → AreDeclaredAlike w.programs.sites t u → is_function w.programs.whole.table u ≡ true
    → is_function w.programs.whole.table t ≡ true
alike-function w names b t u alike is = by (is_function w.programs.whole.table t) refl
  where
    by : (q : Bool) → is_function w.programs.whole.table t ≡ q → q ≡ true
    by true e = refl
    by false e = absurd (
        let class = alike-class (context_in w names 0 no_types) (around_of w b) names.solved t u alike in
        let of-data = equal-data w.programs.whole.table names.solved.well_formed t u e class.equal in cc (is, of-data))

named-function : (w : Scene) (names : Names w) (b : Running) (f : ℕ) (u v : TypeId) → slice_get names.functions f ≡ Some v
    → AreDeclaredAlike w.programs.sites u v → IsFunctionOf (setting_of w.programs) u f
named-function w names b f u v found alike = of (names.solved.functions f v found)
  where
    of : (d : Defined) × (slice_get (setting_of w.programs).functions f ≡ Some d) × (d.type ≡ v) × (is_function w.programs.whole.table v ≡ true)
        → IsFunctionOf (setting_of w.programs) u f
    of (d, at, type, is) = record {
      function = d;
      found = at;
      type = alike-function w names b u v alike is;
      class = subst (λ (t : TypeId). IsOfOneClass w.programs.whole.table w.programs.whole.kind t u) (sym type)
          (alike-class (context_in w names 0 no_types) (around_of w b) names.solved v u (turned u v alike));
    }

pub named-object : (w : Scene) (b : Running) (names : Names w) (blocks : ℕ) (kept : Typing) (o : Object) (home : NodeId) (t : TypeId)
    → IsObject (context_in w names blocks kept) o home t → IsNamed w b o home t
named-object w b names blocks kept o home t (u, found, which) = record {
  planned = record { type = u; node = home };
  found = sym (same-plan w names blocks kept o) ∙ found;
  laid = names.laid;
  asked = (solved-in w names blocks kept).tells.objects o home t (u, found, which);
  place = λ s c same there. object-held w names b s c same there blocks kept o home t (u, found, which);
}

-- the law of all of them
pub set-follows : (w : Scene) (g : AreSlots w.slots) (b : Running) (whole : List Instr) (names : Names w)
    → ((j : Instr) → IsInCode j whole → Shaped j (context_in w names 0 no_types)) → AllFollow w g b whole (λ i. instr.Set i) IsCuringSet
set-follows w g b whole names shaped (set.Integer into z t) inside known after blocks lines h = set-integer w g b into z t known after blocks lines h
set-follows w g b whole names shaped (set.Null into t) inside known after blocks lines h =
    set-null w g b into t known after blocks lines (pointer-asked w names t) h
set-follows w g b whole names shaped (set.Copy into from) inside known after blocks lines h = set-copy w g b into from known after blocks lines h
set-follows w g b whole names shaped (set.Object into o home t) inside known after blocks lines h = of (shaped (instr.Set (set.Object into o home t)) inside)
  where
    of : Shaped (instr.Set (set.Object into o home t)) (context_in w names 0 no_types)
        → Follows w g b blocks known after (meaning.act (instr.Set (set.Object into o home t)) (around_of w b)) lines
    of s = set-object w g b into o home t known after blocks lines (named-object w b names s.blocks s.kept o home t s.is.0) h
set-follows w g b whole names shaped (set.Function into f t) inside known after blocks lines h = of (shaped (instr.Set (set.Function into f t)) inside)
  where
    of : Shaped (instr.Set (set.Function into f t)) (context_in w names 0 no_types)
        → Follows w g b blocks known after (meaning.act (instr.Set (set.Function into f t)) (around_of w b)) lines
    of s = by s.is.0 s.is.1 s.is.2 s.is.3 s.is.4 s.is.6
      where
        by : (m : NodeId) (u v : TypeId) → IsPointer (context_in w names 0 no_types) t m u → slice_get names.functions f.0 ≡ Some v
            → AreDeclaredAlike w.programs.sites u v
            → Follows w g b blocks known after (meaning.act (instr.Set (set.Function into f t)) (around_of w b)) lines
        by m u v pointer found alike = set-function w g b into f t known after blocks lines small (pointer-asked w names t)
            (λ n x is. subst (λ (y : TypeId). IsFunctionOf (setting_of w.programs) y f.0)
            (let one : shape.Pointer m u ≡ shape.Pointer n x = sym pointer.1 ∙ is in let two : u ≡ x = cc (one) in two) is-of) h
          where
            is-of : IsFunctionOf (setting_of w.programs) u f.0
            is-of = named-function w names b f.0 u v found alike

            small : function_word f.0 < 2 ^ 64
            small = let i = slice_get_within (setting_of w.programs).functions f.0 is-of.function is-of.found in let j = names.few in omega (arith, i, j)

-- The lines of prologues and of the entry to `main`.
use Rattle.std.proofs.Common.{◌≡◌, refl, sym, subst, ℕ, suc, ◌+◌, inl, inr, List, [], ◌∷◌, length, Option, Some, None, arith}
use Rattle.cc_base.specs.declared.number.TypeId.{TypeId}
use Rattle.cc_base.specs.declared.number.NodeId.{NodeId}
use Rattle.cc_base.specs.declared.place.Place.{Place}
use Rattle.cc_base.specs.declared.kind.Kind.{Kind}
use Rattle.cc_base.specs.declared.kind.Kind.TheVariants.{Safe, Seq, Rtti, Wild}
use Rattle.integers.specs.Arithmetic.{IntegerType}
use Rattle.cil_form.specs.declared.program.Parameter.{Parameter}
use Rattle.cured_code.specs.declared.instr.Instr.{Instr}
use Rattle.cured_code.specs.declared.instr.Instr.TheVariants as instr
use Rattle.check_forms.specs.Pieces.{Line, Then}
use Rattle.check_forms.specs.declared.slots.PointerSlots.{PointerSlots}
use Rattle.check_forms.specs.declared.op.Op.TheVariants.{EnterMain}
use Rattle.check_insert.specs.declared.draft.Draft.{Draft}
use Rattle.check_insert.specs.Drafts.{Grows}
use Rattle.check_insert.proofs.Laws.{grows_as, grows_then}
use Rattle.sim_relation.specs.Ground.{function_word}
use Rattle.cure_rules.specs.Known.{words_in}
use Rattle.cure_rules.specs.Accesses.{integer_stored, PointerStored}
use Rattle.cure_rules.specs.Functions.{StoresNamed, AreStored}
use Rattle.cure_rules.specs.Programs.{EntersMain}
use Rattle.cure_scope.specs.declared.scope.Scope.{Scope}
use Rattle.cure_scope.specs.Scopes.{whole_of, world_of}
use Rattle.cure_scope.specs.Needs.{Guards}
use Rattle.cure_scope.proofs.GuardLaws.{guarded}
use Rattle.cure_instrs.specs.Cured.{IsPointerAt, CanReach}
use Rattle.cure_instrs.specs.Lines.{IsIntegerAt, pointer_stored}
use Rattle.cure_instrs.proofs.PieceLaws.{grows_of}
use Rattle.cure_calls.specs.Storing.{ParameterStored, ParametersStored, CanStore, CanStoreAll, HasHome}

abbrev pub address_slots : PointerSlots
address_slots = record { first = 397; second = 397; third = 381 }

-- a parameter that is an integer
pub integer_parameter : (k : Scope) (home : NodeId) (t : TypeId) (p n : ℕ) (i : IntegerType) (code : List Instr) → IsIntegerAt (whole_of k) t i
    → Then (Line (instr.Frame 397 n ∷ [])) (Line (integer_stored ((whole_of k).kind home) i.bytes address_slots p)) code → ParameterStored (world_of k) home t p n code
unfolding ParameterStored IsIntegerAt Then
integer_parameter k home t p n i code type h is = (397, is, inl (i, (type.0, type.1), (h.0, h.1, inr (refl, h.2), h.3, h.4)))

stored : (k : Scope) (outer kind : Kind) (s : PointerSlots) (v : ℕ) (code : List Instr) → pointer_stored outer kind (world_of k) s v code → PointerStored outer kind (world_of k) s v code
stored k Wild Wild s v code h = h
stored k Wild Safe s v code h = absurd h
stored k Wild Seq s v code h = absurd h
stored k Wild Rtti s v code h = absurd h
stored k Safe kind s v code h = h
stored k Seq kind s v code h = h
stored k Rtti kind s v code h = h

pub pointer_parameter : (k : Scope) (home : NodeId) (t : TypeId) (p n : ℕ) (m : NodeId) (u : TypeId) (code : List Instr) → IsPointerAt (whole_of k) t m u
    → Then (Line (instr.Frame 397 n ∷ [])) (pointer_stored ((whole_of k).kind home) ((whole_of k).kind m) (world_of k) address_slots p) code → ParameterStored (world_of k) home t p n code
unfolding ParameterStored IsPointerAt Then
pointer_parameter k home t p n m u code type h is =
    (397, is, inr (m, u, type, (h.0, h.1, inr (refl, h.2), stored k ((whole_of k).kind home) ((whole_of k).kind m) address_slots p h.1 h.3, h.4)))

-- parameters, one after another
pub named_more : (k : Scope) (x : Parameter) (xs : List Parameter) (home : NodeId) (p n q : ℕ) (code : List Instr) → x.home ≡ Some home → q ≡ p + words_in (whole_of k) x.ty
    → Then (ParameterStored (world_of k) home x.ty p n) (ParametersStored (world_of k) xs q (n + 1)) code → ParametersStored (world_of k) (x ∷ xs) p n code
unfolding ParameterStored ParametersStored Then
named_more k x xs home p n q code e f h homes =
    let own = subst (HasHome (whole_of k)) e homes.0 in
    let rest : AreStored (world_of k) xs (p + words_in (whole_of k) x.ty) (suc n) h.1 =
    subst (λ m. AreStored (world_of k) xs (p + words_in (whole_of k) x.ty) m h.1) (let s : n + 1 ≡ suc n = omega arith in s)
    (subst (λ r. AreStored (world_of k) xs r (n + 1) h.1) f (h.3 homes.1)) in
    subst (λ (o : Option NodeId). StoresNamed (world_of k) o x.ty p n (AreStored (world_of k) xs (p + words_in (whole_of k) x.ty)) code) (sym e) (h.0, h.1, h.2 own, rest, h.4)

pub unnamed_more : (k : Scope) (x : Parameter) (xs : List Parameter) (p n q : ℕ) (code : List Instr) → x.home ≡ None → q ≡ p + words_in (whole_of k) x.ty
    → ParametersStored (world_of k) xs q n code → ParametersStored (world_of k) (x ∷ xs) p n code
unfolding ParametersStored
unnamed_more k x xs p n q code e f h homes =
    subst (λ (o : Option NodeId). StoresNamed (world_of k) o x.ty p n (AreStored (world_of k) xs (p + words_in (whole_of k) x.ty)) code) (sym e)
    (subst (λ r. AreStored (world_of k) xs r n code) f (h homes.1))

pub none_stored : (k : Scope) (p n : ℕ) (code : List Instr) → Line [] code → ParametersStored (world_of k) [] p n code
unfolding ParametersStored
none_stored k p n code h homes = h

-- the entry to `main`
pub enters : (k : Scope) (main word : ℕ) (at : Place) (code : List Instr) → word ≡ function_word main
    → Then (Line (instr.Const 397 word ∷ [])) (Then (Guards (EnterMain 397) Safe at) (Line (instr.Call (main + 1) 0 382 ∷ instr.Exit 382 ∷ []))) code
    → EntersMain (world_of k) main at code
unfolding Then
enters k main word at code e h =
    let s : main + 1 ≡ suc main = omega arith in (
      397,
      (
        h.0,
        h.1,
        inr (refl, subst (λ n. Line (instr.Const 397 n ∷ []) h.0) e h.2),
        (
          h.3.0,
          h.3.1,
          guarded k (EnterMain 397) Safe at h.3.0 tt h.3.2,
          subst (λ n. Line (instr.Call n 0 382 ∷ instr.Exit 382 ∷ []) h.3.1) s h.3.3,
          h.3.4,
        ),
        h.4,
      ),
    )

-- drafts

pub no_parameters : (k : Scope) (ps : List Parameter) (p n : ℕ) (a b : Draft) → length ps ≡ 0 → Grows (Line []) (Unit {0}) a b
    → Grows (ParametersStored (world_of k) ps p n) (CanStoreAll (whole_of k) ps) a b
no_parameters k [] p n a b e f = grows_as (Line []) (ParametersStored (world_of k) [] p n) (Unit {0}) a b (none_stored k p n) f
no_parameters k (x ∷ xs) p n a b e f = absurd (omega (arith, e))

pub named_grows : (k : Scope) (ps rest : List Parameter) (x : Parameter) (home : NodeId) (p n q : ℕ) (a b c : Draft) → ps ≡ x ∷ rest → x.home ≡ Some home → q ≡ p + words_in (whole_of k) x.ty
    → Grows (ParameterStored (world_of k) home x.ty p n) (CanReach (whole_of k) home x.ty) a b → Grows (ParametersStored (world_of k) rest q (n + 1)) (CanStoreAll (whole_of k) rest) b c
    → Grows (ParametersStored (world_of k) ps p n) (CanStoreAll (whole_of k) ps) a c
named_grows k ps rest x home p n q a b c e h f one more =
    subst (λ (xs : List Parameter). Grows (ParametersStored (world_of k) xs p n) (CanStoreAll (whole_of k) xs) a c) (sym e)
    (grows_of (ParametersStored (world_of k) (x ∷ rest) p n) (CanStoreAll (whole_of k) (x ∷ rest)) (CanReach (whole_of k) home x.ty × CanStoreAll (whole_of k) rest) a c
    (λ r. (subst (λ (o : Option NodeId). CanStore (whole_of k) o x.ty) h r.0, r.1))
    (grows_as (Then (ParameterStored (world_of k) home x.ty p n) (ParametersStored (world_of k) rest q (n + 1))) (ParametersStored (world_of k) (x ∷ rest) p n)
    (CanReach (whole_of k) home x.ty × CanStoreAll (whole_of k) rest) a c (λ code g. named_more k x rest home p n q code h f g)
    (grows_then (ParameterStored (world_of k) home x.ty p n) (ParametersStored (world_of k) rest q (n + 1)) (CanReach (whole_of k) home x.ty) (CanStoreAll (whole_of k) rest) a b c one more)))

pub unnamed_grows : (k : Scope) (ps rest : List Parameter) (x : Parameter) (p n q : ℕ) (a b : Draft) → ps ≡ x ∷ rest → x.home ≡ None → q ≡ p + words_in (whole_of k) x.ty
    → Grows (ParametersStored (world_of k) rest q n) (CanStoreAll (whole_of k) rest) a b → Grows (ParametersStored (world_of k) ps p n) (CanStoreAll (whole_of k) ps) a b
unnamed_grows k ps rest x p n q a b e h f more =
    subst (λ (xs : List Parameter). Grows (ParametersStored (world_of k) xs p n) (CanStoreAll (whole_of k) xs) a b) (sym e)
    (grows_of (ParametersStored (world_of k) (x ∷ rest) p n) (CanStoreAll (whole_of k) (x ∷ rest)) (CanStoreAll (whole_of k) rest) a b (λ r. r.1)
    (grows_as (ParametersStored (world_of k) rest q n) (ParametersStored (world_of k) (x ∷ rest) p n) (CanStoreAll (whole_of k) rest) a b
    (λ code g. unnamed_more k x rest p n q code h f g) more))

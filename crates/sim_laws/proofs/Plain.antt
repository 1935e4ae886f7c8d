-- Programs of plain code run as their three-address code: all laws of their instructions, of their frames and of their start are there.
use Rattle.std.specs.Prelude.{All, IsTrue}
use Rattle.std.proofs.Common.{true, false, ◌≡◌, ◌≢◌, ◌⊎◌, ℕ, suc, ◌≤◌, inl, inr, ⊎_elim, List, [], ◌++◌, length, map, slice_get, Some, refl, ap, sym, subst, ◌∙◌, arith}
use Rattle.std.proofs.lemmas.List.{length-map}
use Rattle.std.specs.List.{Contains}
use Rattle.cc_base.specs.declared.kind.Kind.{Kind}
use Rattle.cc_base.specs.declared.kind.Kind.TheVariants.{Safe, Seq, Rtti, Wild}
use Rattle.cc_base.specs.declared.number.NodeId.{NodeId}
use Rattle.cc_base.specs.declared.number.TypeId.{TypeId}
use Rattle.cc_base.specs.declared.place.Place.{Place}
use Rattle.c_types.specs.declared.shape.TypeShape.{TypeShape}
use Rattle.c_types.specs.declared.shape.TypeShape.TheVariants as shape
use Rattle.c_types.specs.Table.{IsComplete, shape_at}
use Rattle.c_types.specs.Cells.{holds_pointer}
use Rattle.c_types.specs.Equality.{physically_equal}
use Rattle.kind_sites.specs.declared.site.Site.TheVariants as site
use Rattle.src_mem.specs.Memory.{Planned}
use Rattle.src_mem.specs.Operations.{node_at, node_of_shape, pointee_of_shape}
use Rattle.cil_form.specs.declared.number.Temp.{Temp}
use Rattle.cil_form.specs.declared.instr.Comparison.{Comparison}
use Rattle.cil_form.specs.declared.instr.Comparison.TheVariants as comparison
use Rattle.cil_form.specs.declared.number.Object.{Object}
use Rattle.cil_form.specs.declared.number.Object.TheVariants as object
use Rattle.cil_form.specs.declared.instr.Allocate.TheVariants as allocate
use Rattle.cil_form.specs.declared.instr.Access.TheVariants as access
use Rattle.cil_form.specs.declared.instr.Target.TheVariants as target
use Rattle.cil_form.specs.declared.instr.Call.{Call}
use Rattle.cil_form.specs.declared.instr.Convert.TheVariants as convert
use Rattle.cil_form.specs.declared.instr.Point.TheVariants as point
use Rattle.cil_form.specs.declared.instr.Instr.{Instr}
use Rattle.cil_form.specs.declared.instr.Instr.TheVariants as instr
use Rattle.cil_form.specs.declared.program.Function.{Function}
use Rattle.cil_form.specs.declared.program.Parameter.{Parameter}
use Rattle.cil_form.specs.declared.program.Program.{Program}
use Rattle.cil_form.specs.Machine.{variables_of}
use Rattle.cil_form.specs.Shape.{IsInShape, IsFunctionInShape, parameters_limit}
use Rattle.cil_form.specs.Told.{IsToldOf, IsSolutionOf}
use Rattle.cil_form.specs.Sites.{AreAmong, sites_of_comparison}
use Rattle.cil_form.specs.Typing.{HeldType, IntegerOf, PointerTo, IsTemp, no_types}
use Rattle.cil_form.specs.Meaning as meaning
use Rattle.cured_code.specs.declared.parts.Parts.{Parts}
use Rattle.check_forms.specs.declared.slots.PointerSlots.{PointerSlots}
use Rattle.check_forms.specs.Pieces.{Line, Then}
use Rattle.sim_relation.specs.Points.{Knowledge}
use Rattle.cure_rules.specs.Slots.{Slots, AreSlots}
use Rattle.cure_rules.specs.Known.{IsPointer, held_shape, pointer_slots}
use Rattle.cure_rules.specs.Setting.{IsCuringSet}
use Rattle.cure_rules.specs.Pointing.{IsCuringPoint, IsCuringConvert}
use Rattle.cure_rules.specs.Accesses.{CopiedBy, StoresInteger, StoresPointer, IsCuringAccess, plan_of}
use Rattle.cure_rules.specs.Calling.{IsCuringAllocate, IsCuringCall}
use Rattle.cure_rules.specs.Code.{Blocks, ReturnGuard, Returns}
use Rattle.cure_rules.specs.Programs.{IsCuredProgram}
use Rattle.sim_laws.specs.Scenes.{Programs, Scene, Running, setting_of, world_of, around_of, first_scene}
use Rattle.sim_laws.specs.Held.{IsInCode}
use Rattle.sim_laws.specs.Statements.{Lines, Follows, AllFollow, Laws}
use Rattle.sim_laws.specs.Calls.{Callee, FrameLaws, InstructionLaws, parameter_types, scene_in}
use Rattle.sim_laws.specs.Runs.{programs_of}
use Rattle.sim_laws.specs.Plain.{IsPlainKind, IsPlainPointer, ArePlainPointers, IsPlainCallee, IsPlainCode, IsPlainHome, IsPlainObject, IsPlainProgram}
use Rattle.sim_laws.specs.Frames.{PlainProgramsRunAlike}
use Rattle.sim_laws.proofs.Run.{all-at, runs-alike}
use Rattle.sim_laws.proofs.Tests.{tested}
use Rattle.sim_laws.proofs.Returns.{ResultFits, given-none, given-integer, result-fits}
use Rattle.sim_laws.proofs.Given.{given-pointer}
use Rattle.sim_laws.proofs.Operators.{calculate-follows}
use Rattle.sim_laws.proofs.Conversions.{integer-follows, to-pointer-follows}
use Rattle.sim_laws.proofs.Library.{runtime-follows}
use Rattle.sim_laws.proofs.Accessing.{load-integer-follows, load-pointer-follows, store-integer-follows}
use Rattle.sim_laws.proofs.Names.{Names, context_in, pointer-asked}
use Rattle.sim_laws.proofs.Parts.{store-part-follows, store-part-pointer-follows}
use Rattle.sim_laws.proofs.Clearing.{clear-follows}
use Rattle.sim_laws.proofs.Copying.{copy-part, copy-through}
use Rattle.sim_laws.proofs.Converting.{convert-pointer-follows}
use Rattle.sim_laws.proofs.Allocating.{calloc-follows, malloc-follows}
use Rattle.sim_laws.proofs.Storing.{store-pointer-follows}
use Rattle.sim_laws.proofs.Reaching.{plain-tags}
use Rattle.sim_laws.proofs.Making.{address-follows, decay-place-follows}
use Rattle.sim_laws.proofs.PartAddresses.{member-follows, decay-follows}
use Rattle.sim_laws.proofs.Moving.{move-follows}
use Rattle.sim_laws.proofs.PointerTests.{null-follows}
use Rattle.sim_laws.proofs.PointerComparisons.{IsOrder, compare-pointers-follows}
use Rattle.sim_laws.proofs.PointerDifferences.{difference-follows}
use Rattle.sim_laws.proofs.Shaped.{Shaped}
use Rattle.sim_laws.proofs.Settled as settled
use Rattle.sim_laws.proofs.Framed as framed
use Rattle.sim_laws.proofs.Calling.{IsCallable, call-follows}
use Rattle.sim_laws.proofs.Prologues.{prologue-stores, safe-home}
use Rattle.sim_laws.proofs.Starting.{started}

-- The instructions of plain code in a scene

safe-or-sequence : (k : Kind) → IsPlainKind k → (k ≡ Safe) ⊎ (k ≡ Seq)
safe-or-sequence Safe h = inl refl
safe-or-sequence Seq h = inr refl
safe-or-sequence Rtti h = absurd h
safe-or-sequence Wild h = absurd h

-- the object that is named has no tags
plain-object : (w : Scene) (o : Object) → IsPlainObject w.programs.whole.kind w.programs.whole.statics w.variables o → (x : Planned) → plan_of (world_of w) o ≡ Some x
    → w.programs.whole.kind x.node ≢ Wild
plain-object w (object.Static n) plain x e = plain x e
plain-object w (object.Variable n) plain x e = plain x e

module _ (w : Scene) (g : AreSlots w.slots) (b : Running) (whole : List Instr)
    (plain : IsPlainCode w.programs.whole.table w.programs.whole.kind w.programs.whole.statics w.variables whole) (names : Names w)
    (shaped : (j : Instr) → IsInCode j whole → Shaped j (context_in w names 0 no_types)) (sets : AllFollow w g b whole (λ i. instr.Set i) IsCuringSet)
    (calls : AllFollow w g b whole (λ i. instr.Call i) IsCuringCall) (result : ResultFits w)
    (count : length w.programs.parts.functions ≡ suc (length (setting_of w.programs).functions)) where
  convert-follows : AllFollow w g b whole (λ i. instr.Convert i) IsCuringConvert
  convert-follows (convert.Integer into from t) inside known after blocks lines h = integer-follows w g b into from t known after blocks lines h
  convert-follows (convert.ToPointer into from t at) inside known after blocks lines h =
      to-pointer-follows w g b into from t at known after blocks lines (pointer-asked w names t) h
  convert-follows (convert.FromPointer into from t s) inside known after blocks lines h = absurd (plain (instr.Convert (convert.FromPointer into from t s)) inside)
  convert-follows (convert.Pointer into from t s at) inside known after blocks lines h =
      convert-pointer-follows w names g b into from t s at known after blocks lines (shaped (instr.Convert (convert.Pointer into from t s at)) inside)
      (λ m n u v pt ps. (
        safe-or-sequence (w.programs.whole.kind m)
            (subst (λ (h : TypeShape). IsPlainKind (w.programs.whole.kind (node_of_shape h))) pt (plain (instr.Convert (convert.Pointer into from t s at)) inside).0),
        safe-or-sequence (w.programs.whole.kind n)
            (subst (λ (h : TypeShape). IsPlainKind (w.programs.whole.kind (node_of_shape h))) ps (plain (instr.Convert (convert.Pointer into from t s at)) inside).1),
      )) h

  -- a pointer that is moved, ordered or subtracted isn't SAFE
  sequence-in : (t : TypeId) (at : Place) → Contains w.programs.sites (site.Arith (node_at w.programs.whole.table t) at) → IsPlainPointer w.programs.whole.table w.programs.whole.kind t
      → (m : NodeId) (u : TypeId) → IsPointer (world_of w) t m u → w.programs.whole.kind m ≡ Seq
  sequence-in t at told is_plain m u pointer =
      subst (λ (h : TypeShape). w.programs.whole.kind (node_of_shape h) ≡ Seq) pointer
      (⊎_elim (λ e. e) (λ e. absurd (plain-tags (w.programs.whole.kind (node_at w.programs.whole.table t)) is_plain e))
      (names.solved.solution.each (site.Arith (node_at w.programs.whole.table t) at) told))

  -- of the kinds of two pointers
  together-in : (t s : TypeId) → ArePlainPointers w.programs.whole.table w.programs.whole.kind t s → (m n : NodeId) (u v : TypeId) → IsPointer (world_of w) t m u → IsPointer (world_of w) s n v
      → IsPlainKind (w.programs.whole.kind m) × IsPlainKind (w.programs.whole.kind n)
  together-in t s h m n u v e f = subst (λ (x : TypeShape). Of x (shape.Pointer n v)) e (subst (λ (y : TypeShape). Of (shape_at w.programs.whole.table t) y) f h)
    where
      Of : TypeShape → TypeShape → Type 0
      Of x y = IsPlainKind (w.programs.whole.kind (node_of_shape x)) × IsPlainKind (w.programs.whole.kind (node_of_shape y))

  -- what a pointer points to
  one-pointee : (t : TypeId) (m n : NodeId) (u v : TypeId) → IsPointer (world_of w) t m u → IsPointer (world_of w) t n v → u ≡ v
  one-pointee t m n u v e f = ap pointee_of_shape (sym e ∙ f)

  orders-told : (which : Comparison) (t s : TypeId) (at : Place) → AreAmong w.programs.sites (sites_of_comparison w.programs.whole.table which t s at) → IsOrder which
      → Contains w.programs.sites (site.Arith (node_at w.programs.whole.table t) at) × Contains w.programs.sites (site.Arith (node_at w.programs.whole.table s) at)
  orders-told comparison.Equal t s at told order = absurd order
  orders-told comparison.Different t s at told order = absurd order
  orders-told comparison.Less t s at told order = (told.0, told.1.0)
  orders-told comparison.LessOrEqual t s at told order = (told.0, told.1.0)
  orders-told comparison.Greater t s at told order = (told.0, told.1.0)
  orders-told comparison.GreaterOrEqual t s at told order = (told.0, told.1.0)

  point-follows : AllFollow w g b whole (λ i. instr.Point i) IsCuringPoint
  point-follows (point.Address into from outer inner t) inside known after blocks lines h = of (shaped (instr.Point (point.Address into from outer inner t)) inside)
    where
      of : Shaped (instr.Point (point.Address into from outer inner t)) (context_in w names 0 no_types)
          → Follows w g b blocks known after (meaning.act (instr.Point (point.Address into from outer inner t)) (around_of w b)) lines
      of z = address-follows w names g b into from outer inner t known after blocks lines (plain (instr.Point (point.Address into from outer inner t)) inside).0
          (plain (instr.Point (point.Address into from outer inner t)) inside).1 z.is.0.2.1 z.is.1.0 h
  point-follows (point.Move into p n way t at) inside known after blocks lines h = of (shaped (instr.Point (point.Move into p n way t at)) inside)
    where
      of : Shaped (instr.Point (point.Move into p n way t at)) (context_in w names 0 no_types)
          → Follows w g b blocks known after (meaning.act (instr.Point (point.Move into p n way t at)) (around_of w b)) lines
      of z = move-follows w names g b into p n way t at known after blocks lines (sequence-in t at z.is.1.0 (plain (instr.Point (point.Move into p n way t at)) inside)) h
  point-follows (point.Difference into a t i s at) inside known after blocks lines h = of (shaped (instr.Point (point.Difference into a t i s at)) inside)
    where
      both : ArePlainPointers w.programs.whole.table w.programs.whole.kind t s
      both = plain (instr.Point (point.Difference into a t i s at)) inside

      of : Shaped (instr.Point (point.Difference into a t i s at)) (context_in w names 0 no_types)
          → Follows w g b blocks known after (meaning.act (instr.Point (point.Difference into a t i s at)) (around_of w b)) lines
      of z = difference-follows w names g b into a t i s at known after blocks lines
          (λ m n u v e f. let a = one-pointee t z.is.0.0 m z.is.0.2 u z.is.0.4.1 e in let b = one-pointee s z.is.0.1 n z.is.0.3 v z.is.0.5.1 f in (
            sequence-in t at z.is.1.0 both.0 m u e,
            sequence-in s at z.is.1.1.0 both.1 n v f,
            subst (IsComplete w.programs.whole.table) b z.is.0.7.1,
            subst (λ (x : TypeId). IsTrue (physically_equal w.programs.whole.table x v)) a
                (subst (λ (y : TypeId). IsTrue (physically_equal w.programs.whole.table z.is.0.2 y)) b z.is.0.8),
          )) h
  point-follows (point.Compare into which a t i s at) inside known after blocks lines h = of (shaped (instr.Point (point.Compare into which a t i s at)) inside)
    where
      both : ArePlainPointers w.programs.whole.table w.programs.whole.kind t s
      both = plain (instr.Point (point.Compare into which a t i s at)) inside

      of : Shaped (instr.Point (point.Compare into which a t i s at)) (context_in w names 0 no_types)
          → Follows w g b blocks known after (meaning.act (instr.Point (point.Compare into which a t i s at)) (around_of w b)) lines
      of z = compare-pointers-follows w names g b into a which t i s at known after blocks lines
          (λ m n u v e f. let k = together-in t s both m n u v e f in (
            k.0,
            k.1,
            λ order. let told = orders-told which t s at z.is.1 order in
                (sequence-in t at told.0 both.0 m u e, sequence-in s at told.1 both.1 n v f),
          )) h
  point-follows (point.IsNull into p t different) inside known after blocks lines h = null-follows w g b into p t different known after blocks lines h
  point-follows (point.Member into from outer t i inner u at) inside known after blocks lines h = of (shaped (instr.Point (point.Member into from outer t i inner u at)) inside)
    where
      of : Shaped (instr.Point (point.Member into from outer t i inner u at)) (context_in w names 0 no_types)
          → Follows w g b blocks known after (meaning.act (instr.Point (point.Member into from outer t i inner u at)) (around_of w b)) lines
      of z = member-follows w names g b into from outer inner t u i at known after blocks lines (plain (instr.Point (point.Member into from outer t i inner u at)) inside).0
          (plain (instr.Point (point.Member into from outer t i inner u at)) inside).1 (⊎_elim (λ h. h.0) (λ h. h.0) z.is.0.6) z.is.0.2.1 z.is.0.3 z.is.0.4 z.is.0.5 z.is.1.0 h
  point-follows (point.Decay into from outer array true inner element at) inside known after blocks lines h = of (shaped (instr.Point (point.Decay into from outer array true inner element at)) inside)
    where
      of : Shaped (instr.Point (point.Decay into from outer array true inner element at)) (context_in w names 0 no_types)
          → Follows w g b blocks known after (meaning.act (instr.Point (point.Decay into from outer array true inner element at)) (around_of w b)) lines
      of z = decay-follows w names g b into from outer inner array element z.is.0.3.0 at known after blocks lines
          (plain (instr.Point (point.Decay into from outer array true inner element at)) inside).0 (plain (instr.Point (point.Decay into from outer array true inner element at)) inside).1
          z.is.0.3.1 z.is.1.0 h
  point-follows (point.Decay into from outer array false inner element at) inside known after blocks lines h = of (shaped (instr.Point (point.Decay into from outer array false inner element at)) inside)
    where
      of : Shaped (instr.Point (point.Decay into from outer array false inner element at)) (context_in w names 0 no_types)
          → Follows w g b blocks known after (meaning.act (instr.Point (point.Decay into from outer array false inner element at)) (around_of w b)) lines
      of z = decay-place-follows w names g b into from outer inner array element z.is.0.3.0 at known after blocks lines
          (plain (instr.Point (point.Decay into from outer array false inner element at)) inside).0 (plain (instr.Point (point.Decay into from outer array false inner element at)) inside).1
          z.is.0.3.1 z.is.1.0 h

  access-follows : AllFollow w g b whole (λ i. instr.Access i) IsCuringAccess
  unfolding Line Then
  access-follows (access.Load into from n t at) inside known after blocks lines (a, sure, address, inl h) =
      load-integer-follows w names g b into from n t at known after blocks lines a sure (plain (instr.Access (access.Load into from n t at)) inside) address h
  access-follows (access.Load into from n t at) inside known after blocks lines (a, sure, address, inr h) =
      load-pointer-follows w names g b into from n t at known after blocks lines a sure (plain (instr.Access (access.Load into from n t at)) inside) address h
  access-follows (access.Store (target.Pointer to n) v t at assignment) inside known after blocks lines (s, inl (x, y, (a, sure, address, same, empty), stores, is), less) =
      subst (λ (js : Lines). Follows w g b blocks known after (meaning.act (instr.Access (access.Store (target.Pointer to n) v t at assignment)) (around_of w b)) js)
      (sym (is ∙ ap (λ (js : Lines). js ++ y) empty))
      (store-integer-follows w names g b to v n t at assignment known after blocks y a sure (plain (instr.Access (access.Store (target.Pointer to n) v t at assignment)) inside) address less
      (subst (λ (z : PointerSlots). StoresInteger (world_of w) v t z (w.programs.whole.kind n) at known y) same stores))
  access-follows (access.Store (target.Pointer to n) v t at assignment) inside known after blocks lines (s, inr (x, y, (a, sure, address, same, empty), stores, is), less) =
      subst (λ (js : Lines). Follows w g b blocks known after (meaning.act (instr.Access (access.Store (target.Pointer to n) v t at assignment)) (around_of w b)) js)
      (sym (is ∙ ap (λ (js : Lines). js ++ y) empty))
      (store-pointer-follows w names g b to v n t at assignment known after blocks y a sure (temp (shaped (instr.Access (access.Store (target.Pointer to n) v t at assignment)) inside))
      (plain (instr.Access (access.Store (target.Pointer to n) v t at assignment)) inside) address less
      (subst (λ (z : PointerSlots). StoresPointer (world_of w) v t z (w.programs.whole.kind n) at assignment known y) same stores))
    where
      temp : Shaped (instr.Access (access.Store (target.Pointer to n) v t at assignment)) (context_in w names 0 no_types) → IsTemp to
      temp z = ⊎_elim (λ h. h.0) (λ h. h.0) z.is.0.0.1
  access-follows (access.Store (target.Part o home u offset) v t at assignment) inside known after blocks lines
      (s, inl (x, y, (base, seat, is_home, same, gets), stores, is), less) =
      subst (λ (js : Lines). Follows w g b blocks known after (meaning.act (instr.Access (access.Store (target.Part o home u offset) v t at assignment)) (around_of w b)) js) (sym is)
      (of (shaped (instr.Access (access.Store (target.Part o home u offset) v t at assignment)) inside))
    where
      of : Shaped (instr.Access (access.Store (target.Part o home u offset) v t at assignment)) (context_in w names 0 no_types)
          → Follows w g b blocks known after (meaning.act (instr.Access (access.Store (target.Part o home u offset) v t at assignment)) (around_of w b)) (x ++ y)
      of z = store-part-follows w names g b z.blocks z.kept o home u offset v t at assignment known after blocks base seat x y
          (safe-home (w.programs.whole.kind home) is_home (plain (instr.Access (access.Store (target.Part o home u offset) v t at assignment)) inside))
          z.is.0.0.0 z.is.0.0.1 less gets
          (subst (λ (q : PointerSlots). StoresInteger (world_of w) v t q (w.programs.whole.kind home) at known y) same stores)
  access-follows (access.Store (target.Part o home u offset) v t at assignment) inside known after blocks lines
      (s, inr (x, y, (base, seat, is_home, same, gets), stores, is), less) =
      subst (λ (js : Lines). Follows w g b blocks known after (meaning.act (instr.Access (access.Store (target.Part o home u offset) v t at assignment)) (around_of w b)) js) (sym is)
      (of (shaped (instr.Access (access.Store (target.Part o home u offset) v t at assignment)) inside))
    where
      of : Shaped (instr.Access (access.Store (target.Part o home u offset) v t at assignment)) (context_in w names 0 no_types)
          → Follows w g b blocks known after (meaning.act (instr.Access (access.Store (target.Part o home u offset) v t at assignment)) (around_of w b)) (x ++ y)
      of z = store-part-pointer-follows w names g b z.blocks z.kept o home u offset v t at assignment known after blocks base seat x y
          (safe-home (w.programs.whole.kind home) is_home (plain (instr.Access (access.Store (target.Part o home u offset) v t at assignment)) inside))
          z.is.0.0.0 z.is.0.0.1 less gets
          (subst (λ (q : PointerSlots). StoresPointer (world_of w) v t q (w.programs.whole.kind home) at assignment known y) same stores)
  access-follows (access.Clear o) inside known after blocks lines h = clear-follows w names g b o known after blocks lines (plain-object w o (plain (instr.Access (access.Clear o)) inside)) h
  access-follows (access.Copy (target.Pointer to m) to_place from n from_place t assignment) inside known after blocks lines
      (a, sure, s, seat, cells, address, (x, y, (d, sure', onto, same, empty), copies, is), less) =
      subst (λ (js : Lines). Follows w g b blocks known after (meaning.act (instr.Access (access.Copy (target.Pointer to m) to_place from n from_place t assignment)) (around_of w b)) js)
      (sym (is ∙ ap (λ (js : Lines). js ++ y) empty))
      (copy-through w names g b from n t from_place to_place assignment known after blocks
      (plain (instr.Access (access.Copy (target.Pointer to m) to_place from n from_place t assignment)) inside).0
      (complete (shaped (instr.Access (access.Copy (target.Pointer to m) to_place from n from_place t assignment)) inside))
      a sure seat cells address less to m d sure' (plain (instr.Access (access.Copy (target.Pointer to m) to_place from n from_place t assignment)) inside).1 onto y
      (subst (λ (q : PointerSlots). CopiedBy (holds_pointer w.programs.whole.table t) (world_of w) seat cells (w.programs.whole.kind n) (w.programs.whole.kind m) t (pointer_slots a) q
      from_place to_place assignment y) same copies))
    where
      complete : Shaped (instr.Access (access.Copy (target.Pointer to m) to_place from n from_place t assignment)) (context_in w names 0 no_types) → IsComplete w.programs.whole.table t
      complete z = z.is.0.1.1
  access-follows (access.Copy (target.Part o home u offset) to_place from n from_place t assignment) inside known after blocks lines
      (a, sure, s, seat, cells, address, (x, y, (base, own, is_home, same, gets), copies, is), less) =
      subst (λ (js : Lines). Follows w g b blocks known after (meaning.act (instr.Access (access.Copy (target.Part o home u offset) to_place from n from_place t assignment)) (around_of w b)) js)
      (sym is) (of (shaped (instr.Access (access.Copy (target.Part o home u offset) to_place from n from_place t assignment)) inside))
    where
      of : Shaped (instr.Access (access.Copy (target.Part o home u offset) to_place from n from_place t assignment)) (context_in w names 0 no_types)
          → Follows w g b blocks known after (meaning.act (instr.Access (access.Copy (target.Part o home u offset) to_place from n from_place t assignment)) (around_of w b)) (x ++ y)
      of z = copy-part w names g b from n t from_place to_place assignment known after blocks
          (plain (instr.Access (access.Copy (target.Part o home u offset) to_place from n from_place t assignment)) inside).0
          z.is.0.1.1 a sure seat cells address less z.blocks z.kept o home u offset base own x y
          (safe-home (w.programs.whole.kind home) is_home (plain (instr.Access (access.Copy (target.Part o home u offset) to_place from n from_place t assignment)) inside).1)
          z.is.0.3.0 z.is.0.3.1 gets
          (subst (λ (q : PointerSlots). CopiedBy (holds_pointer w.programs.whole.table t) (world_of w) seat cells (w.programs.whole.kind n) (w.programs.whole.kind home) t (pointer_slots a) q
          from_place to_place assignment y) same copies)

  allocate-follows : AllFollow w g b whole (λ i. instr.Allocate i) IsCuringAllocate
  allocate-follows (allocate.Malloc into n node t at) inside known after blocks lines h = of (shaped (instr.Allocate (allocate.Malloc into n node t at)) inside)
    where
      of : Shaped (instr.Allocate (allocate.Malloc into n node t at)) (context_in w names 0 no_types)
          → Follows w g b blocks known after (meaning.act (instr.Allocate (allocate.Malloc into n node t at)) (around_of w b)) lines
      of z = malloc-follows w names count g b into n node t at known after blocks lines
          (safe-or-sequence (w.programs.whole.kind node) (plain (instr.Allocate (allocate.Malloc into n node t at)) inside)) z.is.0.1.1 z.is.1.0 h
  allocate-follows (allocate.Calloc into m n node t at) inside known after blocks lines h = of (shaped (instr.Allocate (allocate.Calloc into m n node t at)) inside)
    where
      of : Shaped (instr.Allocate (allocate.Calloc into m n node t at)) (context_in w names 0 no_types)
          → Follows w g b blocks known after (meaning.act (instr.Allocate (allocate.Calloc into m n node t at)) (around_of w b)) lines
      of z = calloc-follows w names count g b into m n node t at known after blocks lines
          (safe-or-sequence (w.programs.whole.kind node) (plain (instr.Allocate (allocate.Calloc into m n node t at)) inside)) z.is.0.1.1 z.is.1.0 h

  given-follows : (known after : Knowledge) (blocks : Blocks) (v : Temp) (t : TypeId) (at : Place) (lines : Lines) → IsInCode (instr.ReturnValue v t at) whole
      → Returns (world_of w) known v t at lines → Follows w g b blocks known after (meaning.act (instr.ReturnValue v t at) (around_of w b)) lines
  unfolding Line Then
  given-follows known after blocks v t at lines inside (x, a, number, is, fact, place, form, held, (first, rest, guard, last, lines_are)) =
      by (shape_at w.programs.whole.table t) refl
    where
      by : (h : TypeShape) → shape_at w.programs.whole.table t ≡ h → Follows w g b blocks known after (meaning.act (instr.ReturnValue v t at) (around_of w b)) lines
      by (shape.Integer bytes signed) e = given-integer w g b result known after blocks v t at lines x (record { bytes = bytes; signed = signed }) a number is fact type place form
          (ap held_shape e) (lines_are ∙ ap (λ (js : Lines). js ++ rest) none ∙ last)
        where
          type : x.type ≡ IntegerOf (record { bytes = bytes; signed = signed })
          type = let f = sym held ∙ ap held_shape e in cc (f)

          none : first ≡ []
          none = subst (λ (h : HeldType). ReturnGuard h w.variables (world_of w) a at first) type guard
      by (shape.Pointer n u) e = given-pointer w g b result known after blocks v t at lines x n u a number is fact type place (ap held_shape e)
          (first, rest, subst (λ (h : HeldType). ReturnGuard h w.variables (world_of w) a at first) type guard, last, lines_are)
        where
          type : x.type ≡ PointerTo n u
          type = let f = sym held ∙ ap held_shape e in cc (f)
      by shape.Void e = absurd (let f = sym held ∙ ap held_shape e in cc (f))
      by (shape.Array n u) e = absurd (let f = sym held ∙ ap held_shape e in cc (f))
      by (shape.Function n u) e = absurd (let f = sym held ∙ ap held_shape e in cc (f))
      by (shape.Struct n) e = absurd (let f = sym held ∙ ap held_shape e in cc (f))
      by (shape.Union n) e = absurd (let f = sym held ∙ ap held_shape e in cc (f))

  pub plain-laws : Laws w g b whole
  plain-laws = record {
    set = sets;
    calculate = calculate-follows w g b whole;
    point = point-follows;
    convert = convert-follows;
    access = access-follows;
    allocate = allocate-follows;
    call = calls;
    runtime = runtime-follows w g b whole;
    test = tested w g b;
    given = given-follows;
    given_none = given-none w g b result;
  }

-- A whole program

module _ (p : Program) (kind : NodeId → Kind) (node : TypeId → ℕ) (parents : List ℕ) (parts : Parts) (shaped : IsInShape p) (told : IsToldOf p)
    (solution : IsSolutionOf p kind) (is : IsCuredProgram p kind node parents parts) (plain : IsPlainProgram p kind) where
  abbrev both : Programs
  both = programs_of p kind node is.numbers p.sites parts

  laid : length both.whole.statics ≤ length both.whole.addresses
  laid = (settled.names-first p kind node is.numbers parents parts shaped told solution is.are_cured is.are_cured.slots).laid

  -- a home of a parameter has no tags
  plain-homes : (n : ℕ) (f : Function) → slice_get p.functions n ≡ Some f → (i : ℕ) (x : Parameter) (m : NodeId) → slice_get f.parameters i ≡ Some x → x.home ≡ Some m
      → kind m ≢ Wild
  plain-homes n f found i x m e home = subst (IsPlainHome kind) home
      (all-at (λ (y : Parameter). IsPlainHome kind y.home) f.parameters
      (all-at (λ (g : Function). All (λ (y : Parameter). IsPlainHome kind y.home) g.parameters) p.functions plain.parameters n f found) i x e)

  frame-laws : FrameLaws both
  frame-laws = record {
    fits = framed.calls-fit p kind node is.numbers parents parts shaped told solution is.are_cured;
    begins = framed.calls-begin p kind node is.numbers parents parts shaped told solution is.are_cured;
    prologue = λ b k call enters arguments words s c there are begun. prologue-stores both k
        (settled.names-in p kind node is.numbers parents parts shaped told solution is.are_cured k.number k.function k.found k.slots)
        (framed.planned-in p kind node is.numbers parents parts shaped told solution is.are_cured k.number k.function k.found) b call enters s c laid
        (plain-homes k.number k.function k.found) arguments words are begun;
    ends = framed.calls-end p kind node is.numbers parents parts shaped told solution is.are_cured;
    none = framed.ends-give-zero p kind node is.numbers parents parts shaped told solution is.are_cured;
  }

  result-in : (k : Callee both) → ResultFits (scene_in both k)
  result-in k = result-fits both k is.are_cured.signatures (map (λ (x : Parameter). x.ty) k.function.parameters) f.type.0 f.type.2
      (let e = length-map k.function.parameters (λ (x : Parameter). x.ty) in let l = f.parameters in omega (arith, e, l))
    where
      f : IsFunctionInShape p k.function
      f = all-at (IsFunctionInShape p) p.functions shaped.functions k.number k.function k.found

  callable : IsCallable both
  callable = record {
    formed = shaped.formed;
    signatures = is.are_cured.signatures;
    cured = is.are_cured.functions;
    count = framed.counted p kind node is.numbers parents parts shaped told solution is.are_cured;
    types = λ n f found. of f (all-at (IsFunctionInShape p) p.functions shaped.functions n f found);
    fits = frame-laws.fits;
  }
    where
      of : (f : Function) → IsFunctionInShape p f
          → (result : TypeId) × (shape_at p.types f.ty ≡ shape.Function (parameter_types f) result) × (length (parameter_types f) ≤ parameters_limit)
      of f h = (h.type.0, h.type.2, (let e = length-map f.parameters (λ (x : Parameter). x.ty) in let l = h.parameters in omega (arith, e, l)))

  -- a callee isn't WILD
  plain-callee : (variables : List Planned) (code : List Instr) → IsPlainCode p.types kind both.whole.statics variables code → (i : Call) → IsInCode (instr.Call i) code → (n : NodeId) (u : TypeId)
      → shape_at p.types i.ty ≡ shape.Pointer n u → kind n ≢ Wild
  plain-callee variables code plain i inside n u e = subst (IsPlainCallee kind) e (plain (instr.Call i) inside)

  -- function 0 calls nothing
  no-call : (slots : Slots) (known after : Knowledge) (i : Call) (lines : Lines) → IsCuringCall i (world_of (first_scene both slots)) known after lines → ⊥
  no-call slots known after i lines h = h.9 refl

  instruction-laws : InstructionLaws both
  instruction-laws = record {
    function = λ k b calls. plain-laws (scene_in both k) k.is.slots.slots b k.function.body.0.items
        (all-at (λ (f : Function). IsPlainCode p.types kind both.whole.statics (variables_of f) f.body.0.items) p.functions plain.functions k.number k.function k.found)
        (settled.names-in p kind node is.numbers parents parts shaped told solution is.are_cured k.number k.function k.found k.slots)
        (settled.shaped-at p kind node is.numbers parents parts shaped told solution is.are_cured k.number k.function k.found k.slots)
        (settled.set-in p kind node is.numbers parents parts shaped told solution is.are_cured k.number k.function k.found k.slots k.is.slots.slots b)
        (λ i inside known after blocks lines h. call-follows (scene_in both k)
        (settled.names-in p kind node is.numbers parents parts shaped told solution is.are_cured k.number k.function k.found k.slots) callable k.is.slots.slots b calls i known after blocks
        lines (plain-callee (variables_of k.function) k.function.body.0.items
        (all-at (λ (f : Function). IsPlainCode p.types kind both.whole.statics (variables_of f) f.body.0.items) p.functions plain.functions k.number k.function k.found) i inside) h)
        (result-in k) (framed.counted p kind node is.numbers parents parts shaped told solution is.are_cured);
    start = λ slots g b. plain-laws (first_scene both slots) g b p.initialisers.0.items plain.initialisers
        (settled.names-first p kind node is.numbers parents parts shaped told solution is.are_cured slots)
        (settled.shaped-begin p kind node is.numbers parents parts shaped told solution is.are_cured slots)
        (settled.set-first p kind node is.numbers parents parts shaped told solution is.are_cured slots g b)
        (λ i inside known after blocks lines h. absurd (no-call slots known after i lines h)) (record { words = λ t e. absurd (cc (e)) })
        (framed.counted p kind node is.numbers parents parts shaped told solution is.are_cured);
  }

-- THE THEOREM OF PLAIN PROGRAMS
pub plain-alike : PlainProgramsRunAlike
plain-alike p kind node parents parts shaped told solution plain is input turns bytes =
    runs-alike p kind node parents parts p.sites input turns shaped is (frame-laws p kind node parents parts shaped told solution is plain)
    (instruction-laws p kind node parents parts shaped told solution is plain)
    (started p kind node is.numbers parents parts shaped told solution is.are_cured input bytes turns)

-- The lines of calls and returns.
use Rattle.std.proofs.Common.{true, false, ⊎_elim, ◌≡◌, ◌≢◌, refl, ap, sym, subst, ◌∙◌, ℕ, suc, ◌+◌, ◌*◌, ◌<◌, ◌≤◌, inl, inr, Option, Some, None, List, [], ◌∷◌, ◌++◌, slice_get, length, arith}
use Rattle.cc_base.specs.declared.number.TypeId.{TypeId}
use Rattle.cc_base.specs.declared.number.NodeId.{NodeId}
use Rattle.cc_base.specs.declared.place.Place.{Place}
use Rattle.cc_base.specs.declared.kind.Kind.{Kind}
use Rattle.cured_code.specs.declared.instr.Instr.{Instr}
use Rattle.check_forms.specs.Pieces.{Piece, Line, Then, When}
use Rattle.check_insert.specs.declared.draft.Draft.{Draft}
use Rattle.check_insert.specs.Drafts.{Grows}
use Rattle.check_insert.proofs.Laws.{grows_then, grows_as, grows_failed}
use Rattle.cure_rules.specs.Known.{World, words_by, words_in, copies, held_shape, held_by, known_at, known_of, pointer_slots}
use Rattle.c_types.specs.Table.{shape_at}
use Rattle.integers.specs.Arithmetic.{IntegerType}
use Rattle.src_mem.specs.Memory.{Planned}
use Rattle.std.specs.Prelude.{IsSome}
use Rattle.cc_base.specs.declared.kind.Kind.TheVariants.{Safe, Seq, Rtti, Wild}
use Rattle.c_types.specs.declared.shape.TypeShape.{TypeShape}
use Rattle.c_types.specs.declared.shape.TypeShape.TheVariants as shape
use Rattle.cil_form.specs.declared.number.Temp.TheVariants as temp
use Rattle.cil_form.specs.declared.instr.Call.{Call}
use Rattle.check_forms.specs.declared.slots.PointerSlots.{PointerSlots}
use Rattle.cure_rules.specs.Checks.{numbers_of, call_of}
use Rattle.cure_rules.specs.Calling.{AreArguments}
use Rattle.cure_scope.specs.Needs.{AreSeated}
use Rattle.cure_instrs.proofs.KnownLaws.{leaves_held, points, few_words}
use Rattle.src_mem.specs.Operations.{node_of_shape, pointee_of_shape}
use Rattle.cil_form.specs.declared.number.Temp.{Temp}
use Rattle.cil_form.specs.Typing as shaped
use Rattle.cil_form.specs.Typing.{Context, Typing, HeldType, IntegerOf, PointerTo}
use Rattle.cured_code.specs.declared.instr.Instr.TheVariants as instr
use Rattle.check_forms.specs.Rows.{home_slot}
use Rattle.check_forms.specs.declared.op.Op.TheVariants as op
use Rattle.sim_relation.specs.Points.{Known, Exact}
use Rattle.cure_rules.specs.Code.{ReturnGuard}
use Rattle.cure_scope.specs.declared.scope.Scope.{Scope}
use Rattle.cure_scope.specs.Scopes.{fixed_column, fixed_slots, seat, whole_of, world_of}
use Rattle.cure_scope.proofs.GuardLaws.{guarded}
use Rattle.cure_instrs.specs.Lines.{IsIntegerAt, HasInteger}
use Rattle.cure_instrs.specs.Cured.{IsIn, IsPointerAt, HasPointer}
use Rattle.cure_calls.specs.Cured.{ReturnCured, CallCured}
use Rattle.cure_calls.specs.Lines.{ArgumentRow, FitsRow, CalledBy, IsFunctionAt, HasFunction, CanCall, ReturnAsks, CanReturn}

pub no_arguments : (w : World) (n : ℕ) (ts : List TypeId) (j : ℕ) (a b : Draft) → length ts ≡ 0 → Grows (Line []) (Unit {0}) a b
    → Grows (ArgumentRow w n ts j) (FitsRow w n ts j) a b
unfolding ArgumentRow FitsRow
no_arguments w n [] j a b e f = f
no_arguments w n (t ∷ ts) j a b e f = absurd (omega (arith, e))

pub one_argument : (w : World) (n : ℕ) (t : TypeId) (ts : List TypeId) (j : ℕ) (a b c : Draft) → j + words_in w.whole t ≤ 381
    → Grows (Line (copies (words_in w.whole t) j (412 + 3 * n))) (Unit {0}) a b
    → Grows (ArgumentRow w (suc n) ts (j + words_in w.whole t)) (FitsRow w (suc n) ts (j + words_in w.whole t)) b c
    → Grows (ArgumentRow w n (t ∷ ts) j) (FitsRow w n (t ∷ ts) j) a c
unfolding Grows ArgumentRow FitsRow When Then
one_argument w n t ts j a b c room f g =
    let p = grows_then (Line (copies (words_in w.whole t) j (412 + 3 * n))) (ArgumentRow w (suc n) ts (j + words_in w.whole t)) (Unit {0}) (FitsRow w (suc n) ts (j + words_in w.whole t)) a b c f g in
    ((λ fine. let q = p.0 fine in (q.0, (q.1.0, (room, q.1.1), q.1.2))), λ r e. p.1 (tt, r.2) e)

pub no_room : (w : World) (n : ℕ) (t : TypeId) (ts : List TypeId) (j : ℕ) → (n < 256 → j + words_in w.whole t ≤ 381 → Prim.⊥) → FitsRow w n (t ∷ ts) j → Prim.⊥
unfolding FitsRow
no_room w n t ts j none h = none h.0 h.1

-- a piece, and then one that is always ready
pub ready_then : (P Q : Piece) (R : Type 0) (a b c : Draft) → Grows P R a b → Grows Q (Unit {0}) b c → Grows (Then P Q) R a c
unfolding Grows
ready_then P Q R a b c f g = let p = grows_then P Q R (Unit {0}) a b c f g in (p.0, λ z e. p.1 (z, tt) e)

-- returns

pub returns_value : (k : Scope) (types : Typing) (v : Temp) (t : TypeId) (at : Place) (i : IntegerType) (code : List Instr) → k.number ≢ 0
    → IsIntegerAt (whole_of k) t i → Line (instr.Return (fixed_column v) ∷ []) code → ReturnCured v t at (world_of k) types code
unfolding ReturnCured IsIntegerAt Then Line
returns_value k types v t at i code inner type h c is same result held =
    let e : shaped.held_by c t ≡ Some (IntegerOf i) = ap (λ z. shaped.held_shape (shape_at z t)) is.table ∙ ap shaped.held_shape type.0 in (
      record { type = IntegerOf i; place = Some (fixed_column v); form = Exact; sure = [] },
      fixed_column v,
      inner,
      sym same ∙ result,
      ap (known_at (fixed_column v)) (held.2 ∙ e),
      refl,
      refl,
      ap held_shape type.0,
      ([], code, refl, h, refl),
    )

asks : (k : Scope) (n : NodeId) (u : TypeId) (vs : List Planned) (a : ℕ) (at : Place) (code : List Instr) → ReturnAsks vs ((whole_of k).kind n) a at code
    → ReturnGuard (PointerTo n u) vs (world_of k) a at code
asks k n u [] a at code h = h
asks k n u (v ∷ vs) a at code h =
    guarded k (op.ReturnPointer (home_slot ((whole_of k).kind n) (pointer_slots a))) ((whole_of k).kind n) at code tt h

pub returns_pointer : (k : Scope) (types : Typing) (v : Temp) (t : TypeId) (at : Place) (n : NodeId) (u : TypeId) (code : List Instr) → k.number ≢ 0
    → IsPointerAt (whole_of k) t n u
    → Then (ReturnAsks (world_of k).variables ((whole_of k).kind n) (fixed_column v) at) (Line (instr.Return (fixed_column v) ∷ [])) code
    → ReturnCured v t at (world_of k) types code
unfolding ReturnCured IsPointerAt Then
returns_pointer k types v t at n u code inner type h c is same result held =
    let e : shaped.held_by c t ≡ Some (PointerTo n u) = ap (λ z. shaped.held_shape (shape_at z t)) is.table ∙ ap shaped.held_shape type in (
      record { type = PointerTo n u; place = Some (fixed_column v); form = Exact; sure = [] },
      fixed_column v,
      inner,
      sym same ∙ result,
      ap (known_at (fixed_column v)) (held.2 ∙ e),
      refl,
      refl,
      ap held_shape type,
      (h.0, h.1, asks k n u (world_of k).variables (fixed_column v) at h.0 h.2, h.3, h.4),
    )

pub no_scalar : (w : World) (t : TypeId) → (HasInteger w.whole t → Prim.⊥) → (HasPointer w.whole t → Prim.⊥) → CanReturn w t → Prim.⊥
unfolding CanReturn
no_scalar w t f g h = ⊎_elim f g h.1

pub no_function : (w : World) (t : TypeId) → w.number ≡ 0 → CanReturn w t → Prim.⊥
unfolding CanReturn
no_function w t e h = h.0 e

-- calls

one_pointer : (w : World) (c : Context) (t : TypeId) (m n : NodeId) (u v : TypeId) → IsIn w c → IsPointerAt w.whole t m u → shaped.IsPointer c t n v
    → (m ≡ n) × (u ≡ v) × (shape_at w.whole.table t ≡ shape.Pointer n v)
unfolding IsPointerAt
one_pointer w c t m n u v is h g =
    let e : shape_at w.whole.table t ≡ shape.Pointer n v = ap (λ z. shape_at z t) (sym is.table) ∙ g.1 in
    (ap node_of_shape (sym h ∙ e), ap pointee_of_shape (sym h ∙ e), e)

abbrev parameters-in : TypeShape → List TypeId
parameters-in (shape.Function ps r) = ps
parameters-in other = []

one-function : (w : World) (c : Context) (t : TypeId) (ts ps : List TypeId) (u v : TypeId) → IsIn w c → IsFunctionAt w.whole t ts u
    → shape_at c.table t ≡ shape.Function ps v → (ts ≡ ps) × (shape_at w.whole.table t ≡ shape.Function ps v)
unfolding IsFunctionAt
one-function w c t ts ps u v is h g =
    let e : shape_at w.whole.table t ≡ shape.Function ps v = ap (λ z. shape_at z t) (sym is.table) ∙ g in
    (ap parameters-in (sym h ∙ e), e)

seated-call : (k : Scope) (kind : Kind) (u : TypeId) (p : PointerSlots) → AreSeated (numbers_of (call_of (world_of k) seat u p) kind)
seated-call k Wild u p = (refl, tt)
seated-call k Safe u p = tt
seated-call k Seq u p = tt
seated-call k Rtti u p = tt

words-few : (kind : NodeId → Kind) (s : TypeShape) → words_by kind s ≤ 3
words-few kind (shape.Integer b s) = omega arith
words-few kind (shape.Pointer n u) = few_words (kind n)
words-few kind shape.Void = omega arith
words-few kind (shape.Array e n) = omega arith
words-few kind (shape.Function ps r) = omega arith
words-few kind (shape.Struct n) = omega arith
words-few kind (shape.Union n) = omega arith

no-some : (o : Option HeldType) → o ≡ None → IsSome o → Prim.⊥
no-some None e h = let f : false ≡ true = h in cc
no-some (Some x) e h = absurd (some_none x e)
  where
    some_none : (x : HeldType) → Some x ≡ None → Prim.⊥
    some_none x e = cc

argument : (k : Scope) (types : Typing) (c : Context) (t : TypeId) (v : Temp) (x : Option HeldType) → shaped.held_by c t ≡ held_by (world_of k) t
    → shaped.held_by c t ≡ x → shaped.HoldsOf c types v t
    → (y : Known) × (known_of (fixed_slots k.parameters) types v ≡ Some y) × (y.place ≡ Some (fixed_column v)) × (held_by (world_of k) t ≡ Some y.type)
argument k types c t v None e f held = absurd (no-some (shaped.held_by c t) f held.0.1)
argument k types c t v (Some h) e f held =
    (record { type = h; place = Some (fixed_column v); form = Exact; sure = [] }, ap (known_at (fixed_column v)) (held.2 ∙ f), refl, sym e ∙ f)

are-arguments : (k : Scope) (types : Typing) (c : Context) (ts : List TypeId) (n j : ℕ) (code : List Instr) → IsIn (world_of k) c
    → ((i : ℕ) (t : TypeId) → slice_get ts i ≡ Some t → shaped.HoldsOf c types (temp.Value (n + i)) t) → ArgumentRow (world_of k) n ts j code
    → AreArguments (world_of k) (known_of (fixed_slots k.parameters) types) n ts j code
unfolding ArgumentRow When Then
are-arguments k types c [] n j code is h row = row
are-arguments k types c (t ∷ ts) n j code is h row =
    let zero-more : n + 0 ≡ n = omega arith in
    let none-more : 0 + j ≡ j = omega arith in
    let held = subst (λ z. shaped.HoldsOf c types (temp.Value z) t) zero-more (h 0 t refl) in
    let x = argument k types c t (temp.Value n) (shaped.held_by c t) (ap (λ z. shaped.held_shape (shape_at z t)) is.table) refl held in
    let one-more : (i : ℕ) → n + suc i ≡ suc n + i = λ i. omega arith in (
      x.0,
      fixed_column (temp.Value n),
      x.1,
      x.2,
      x.3,
      row.0,
      (
        row.1.0,
        row.1.1,
        subst (λ z. Line (copies (words_in (whole_of k) t) z (fixed_column (temp.Value n))) row.1.0) (sym none-more) row.1.2,
        are-arguments k types c ts (suc n) (j + words_in (whole_of k) t) row.1.1 is
            (λ i u e. subst (λ z. shaped.HoldsOf c types (temp.Value z) u) (one-more i) (h (suc i) u e)) row.1.3,
        row.1.4,
      ),
    )

pub call_cured : (k : Scope) (types : Typing) (i : Call) (m : NodeId) (u : TypeId) (ts : List TypeId) (r : TypeId) (code : List Instr) → k.number ≢ 0
    → IsPointerAt (whole_of k) i.ty m u → IsFunctionAt (whole_of k) u ts r
    → CalledBy (world_of k) ((whole_of k).kind m) u ts i.first (fixed_column i.callee) (fixed_column i.into) i.place code
    → CallCured i (world_of k) types code
unfolding CallCured Then
call_cured k types i m u ts r code inner type function h c after is s =
    let e = one_pointer (world_of k) c i.ty m s.0 u s.1 is type s.4 in
    let f = one-function (world_of k) c s.1 ts s.2 r s.3 is (subst (λ z. IsFunctionAt (whole_of k) z ts r) e.1 function) s.5 in
    let kind = (whole_of k).kind s.0 in
    let g = subst (λ z. CalledBy (world_of k) ((whole_of k).kind z) s.1 s.2 i.first (fixed_column i.callee) (fixed_column i.into) i.place code) e.0
    (subst (λ z. CalledBy (world_of k) ((whole_of k).kind m) z s.2 i.first (fixed_column i.callee) (fixed_column i.into) i.place code) e.1
    (subst (λ z. CalledBy (world_of k) ((whole_of k).kind m) u z i.first (fixed_column i.callee) (fixed_column i.into) i.place code) f.0 h)) in
    let held : shaped.held_by c s.3 ≡ held_by (world_of k) s.3 = ap (λ z. shaped.held_shape (shape_at z s.3)) is.table in
    let rest = g.3 in (
      s.0,
      s.1,
      s.2,
      s.3,
      fixed_column i.callee,
      [],
      e.2,
      f.1,
      s.6,
      inner,
      points k.parameters types i.callee s.0 s.1 s.8,
      (s.10.0, words-few (whole_of k).kind (shape_at (whole_of k).table s.3)),
      inl (
        seat,
        (
          g.0,
          g.1,
          guarded k (call_of (world_of k) seat s.1 (pointer_slots (fixed_column i.callee))) kind i.place g.0
              (seated-call k kind s.1 (pointer_slots (fixed_column i.callee))) g.2,
          (rest.0, rest.1, are-arguments k types c s.2 i.first 0 rest.0 is s.9 rest.2, rest.3, rest.4),
          g.4,
        ),
      ),
      leaves_held k.parameters types after i.into (held_by (world_of k) s.3)
          (subst (λ z. shaped.Includes (shaped.with_held i.into z types) after) held s.10.1),
    )

pub can_call : (w : World) (t : TypeId) (n : ℕ) (m : NodeId) (u : TypeId) (ts : List TypeId) (r : TypeId) → IsPointerAt w.whole t m u → IsFunctionAt w.whole u ts r
    → CanCall w t n → FitsRow w n ts 0
unfolding CanCall
can_call w t n m u ts r is function h = (h.2 m u is).1 ts r function

pub calls_no_pointer : (w : World) (t : TypeId) (n : ℕ) → (HasPointer w.whole t → Prim.⊥) → CanCall w t n → Prim.⊥
unfolding CanCall
calls_no_pointer w t n none h = none h.1

pub calls_no_function : (w : World) (t : TypeId) (n : ℕ) (m : NodeId) (u : TypeId) → IsPointerAt w.whole t m u → (HasFunction w.whole u → Prim.⊥) → CanCall w t n → Prim.⊥
unfolding CanCall
calls_no_function w t n m u is none h = none (h.2 m u is).0

pub calls_outside : (w : World) (t : TypeId) (n : ℕ) → w.number ≡ 0 → CanCall w t n → Prim.⊥
unfolding CanCall
calls_outside w t n e h = h.0 e

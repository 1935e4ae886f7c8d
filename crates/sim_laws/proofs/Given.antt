-- The return of a pointer: to none of the call's own objects.
use Rattle.std.proofs.Common.{◌≡◌, ◌≢◌, ℕ, zero, suc, ◌+◌, ◌<◌, ◌≤◌, Bool, true, not, List, [], ◌∷◌, ◌++◌, length, slice_get, slice_index, Option, Some, None, refl, ap, sym, subst, ◌∙◌, arith, inl}
use Rattle.std.specs.Prelude.{◌==◌}
use Rattle.std.proofs.lemmas.Bool.Decides.{nat_tests}
use Rattle.cc_base.specs.declared.fault.Check.TheVariants as check
use Rattle.cc_base.specs.declared.kind.Kind.{Kind}
use Rattle.cc_base.specs.declared.number.TypeId.{TypeId}
use Rattle.cc_base.specs.declared.number.NodeId.{NodeId}
use Rattle.cc_base.specs.declared.place.Place.{Place}
use Rattle.c_types.specs.declared.shape.TypeShape.{TypeShape}
use Rattle.c_types.specs.declared.shape.TypeShape.TheVariants as shape
use Rattle.c_types.specs.Table.{shape_at}
use Rattle.runs.specs.Outcome.{Outcome, Ended, Done, done, from, allowed}
use Rattle.runs.specs.Control.{Gives, then_go}
use Rattle.flat_mem.specs.Memory.{Frame, frame_area, newest_addresses, depth_in}
use Rattle.src_mem.specs.Pointers.{Pointer, Null, Number, At, Function, Value, Address}
use Rattle.src_mem.specs.Memory.{Object, Planned, depth_of_object}
use Rattle.src_mem.specs.Uses.{home}
use Rattle.src_mem.specs.State as source
use Rattle.src_mem.specs.State.{Setting}
use Rattle.src_mem.specs.Checks.{IsNotOfFrame, holds, all_placed}
use Rattle.src_mem.specs.Values.{returned}
use Rattle.src_mem.specs.Outlines.{Life, life, lives_of, LivesAt}
use Rattle.src_mem.specs.Facts.{Reaches, IsHeldBy}
use Rattle.src_mem.proofs.Outlines.{mapped-from}
use Rattle.cil_form.specs.declared.number.Temp.{Temp}
use Rattle.cil_form.specs.declared.number.Object.TheVariants as object
use Rattle.cil_form.specs.declared.instr.Instr.TheVariants as instr
use Rattle.cil_form.specs.State as code
use Rattle.cil_form.specs.Typing.{HeldType, PointerTo, PlaceOf}
use Rattle.cil_form.specs.Meaning as meaning
use Rattle.cured_code.specs.declared.instr.Instr.TheVariants as flat_instr
use Rattle.cured_code.specs.FlatState as flat
use Rattle.cured_code.specs.FlatState.{slot, slots_at}
use Rattle.cured_code.specs.FlatMachine.{run}
use Rattle.cured_code.specs.Tables.{results_of}
use Rattle.check_forms.specs.Pieces.{Line, Then}
use Rattle.check_forms.specs.Conditions.{IsNotOwn}
use Rattle.check_forms.specs.Rows.{Asked, asked, home_slot}
use Rattle.check_forms.specs.RowChecks.{first_false, stopped_by}
use Rattle.sim_relation.specs.Ground.{address, pointer_words, word_number}
use Rattle.sim_relation.specs.Objects.{flat_depth}
use Rattle.sim_relation.specs.Points.{Exact, Known, Knowledge}
use Rattle.sim_checks.proofs.Calling.{returns-compared}
use Rattle.sim_checks.proofs.Sameness.{eq-false}
use Rattle.cure_rules.specs.Slots.{AreSlots}
use Rattle.cure_rules.specs.Known.{Points, words_by, held_shape, held_by, pointer_slots}
use Rattle.cure_rules.specs.Code.{Blocks, ReturnGuard}
use Rattle.sim_laws.specs.Scenes.{Scene, Running, setting_of, world_of, around_of, context_of}
use Rattle.sim_laws.specs.Points.{Holds, Point, ground_of}
use Rattle.sim_laws.specs.Statements.{Lines, CodeOutcome, FlatOutcome, IsPassed, held_result, Match, Follows}
use Rattle.sim_laws.proofs.Checks.{Guarded, StopsAlike, guarded, stops-alike}
use Rattle.sim_laws.proofs.Reaching.{Pointed, pointed, checked-words}
use Rattle.sim_laws.proofs.Accessing.{all-held}
use Rattle.sim_laws.proofs.Storing.{as-address, known-words, home-other}
use Rattle.sim_laws.proofs.Returns.{ResultFits}

-- How deep

flat-same : (a b : ℕ) → flat_depth a ≡ flat_depth b → a ≡ b
flat-same zero zero e = refl
flat-same zero (suc b) e = absurd (cc (e))
flat-same (suc a) zero e = absurd (cc (e))
flat-same (suc a) (suc b) e = omega (arith, e)

-- a variable of the call
pub record IsOwn (w : Scene) (b : Running) (l : code.Local) (c : flat.Local) : Type 0 where
  pub object : Object
  pub found : slice_get l.state.memory.objects (b.first + 0) ≡ Some object
  pub live : object.live ≡ true
  pub depth : object.depth ≡ b.depth
  pub area : frame_area c.state.memory 0 ≡ address (ground_of w.programs l.state c.state) (b.first + 0)

pub first-own : (w : Scene) (g : AreSlots w.slots) (b : Running) (known : Knowledge) (l : code.Local) (c : flat.Local) → Point w g b known l c → (v : Planned) (vs : List Planned)
    → w.variables ≡ v ∷ vs → IsOwn w b l c
first-own w g b known l c p v vs are = of (p.there.objects (object.Variable (record { 0 = 0 })) v v.type (ap (λ (xs : List Planned). slice_get xs 0) (p.variables ∙ are)) (inl refl))
  where
    some : 0 < length b.variables
    some = let e = ap (λ (xs : List Planned). length xs) (p.variables ∙ are) in omega (arith, e)

    area : frame_area c.state.memory 0 ≡ address (ground_of w.programs l.state c.state) (b.first + 0)
    area = ap (λ (fs : List Frame). slice_index (newest_addresses fs) 0) p.there.frames ∙ p.there.areas 0 some

    of : Holds w.programs l.state b.depth (PlaceOf v.node v.type) (Address (home w.programs.whole.table (b.first + 0) v.type)) → IsOwn w b l c
    of h = with_object (mapped-from life l.state.memory.objects (b.first + 0) lives.life lives.found)
      where
        lives : LivesAt (lives_of l.state.memory) b.depth (b.first + 0)
        lives = h.0.held.reaches

        with_object : (o : Object) × (slice_get l.state.memory.objects (b.first + 0) ≡ Some o) × (life o ≡ lives.life) → IsOwn w b l c
        with_object (o, found, is) = record {
          object = o;
          found = found;
          live = live;
          depth = flat-same o.depth b.depth
              (sym ((p.there.related.areas.lie (b.first + 0) o found live).depth 0 (omega arith))
              ∙ ap (depth_in c.state.memory.frames) (let e : address (ground_of w.programs l.state c.state) (b.first + 0) + 0 ≡ address (ground_of w.programs l.state c.state) (b.first + 0) = omega arith in
              e ∙ sym (p.there.areas 0 some))
              ∙ ap (λ (fs : List Frame). depth_in fs (slice_index (newest_addresses b.frames) 0)) p.there.frames ∙ p.there.own_frame 0 some);
          area = area;
        }
          where
            live : o.live ≡ true
            live = ap (λ (x : Life). x.live) is ∙ lives.live

-- What passes may be held by the call around

returned-held : (w : Scene) (b : Running) (l : code.Local) (n : NodeId) (u : TypeId) (q : Pointer) → b.depth ≡ suc b.outer
    → IsHeldBy (setting_of w.programs) w.programs.sites l.state.memory b.depth n u q → holds (setting_of w.programs) l.state.memory (IsNotOfFrame b.depth q) ≡ true
    → IsHeldBy (setting_of w.programs) w.programs.sites l.state.memory b.outer n u q
returned-held w b l n u q called h passes = record { held = record { value = h.held.value; reaches = by q h.held.reaches passes }; made = h.made }
  where
    by : (q : Pointer) → Reaches (lives_of l.state.memory) b.depth q → holds (setting_of w.programs) l.state.memory (IsNotOfFrame b.depth q) ≡ true
        → Reaches (lives_of l.state.memory) b.outer q
    by Null r passes = tt
    by (Number n) r passes = tt
    by (Function f) r passes = tt
    by (At x) r passes = record { life = r.life; found = r.found; live = r.live; older = of (mapped-from life l.state.memory.objects x.object r.life r.found) }
      where
        of : (o : Object) × (slice_get l.state.memory.objects x.object ≡ Some o) × (life o ≡ r.life) → r.life.depth ≤ b.outer
        of (o, found, is) =
            let other : o.depth ≢ b.depth = (λ e. differs o.depth b.depth (sym (ap (λ (y : Option Object). not (depth_of_object y == b.depth)) found) ∙ passes) e) in
            let deep : o.depth ≡ r.life.depth = ap (λ (y : Life). y.depth) is in let less = r.older in below o.depth r.life.depth b.depth b.outer deep less called other
          where
            differs : (m n : ℕ) → not (m == n) ≡ true → m ≡ n → ⊥
            differs m n h e = grind (arith, nat_tests, h, e)

            below : (a b d o : ℕ) → a ≡ b → b ≤ d → d ≡ suc o → a ≢ d → b ≤ o
            below a b d o e h f n = grind (arith, e, h, f, n)

-- of a call without variables nothing is made
none-own : (w : Scene) (g : AreSlots w.slots) (b : Running) (known : Knowledge) (l : code.Local) (c : flat.Local) → Point w g b known l c → b.depth ≡ suc b.outer → w.variables ≡ []
    → (n : NodeId) (u : TypeId) (q : Pointer) → IsHeldBy (setting_of w.programs) w.programs.sites l.state.memory b.depth n u q
    → holds (setting_of w.programs) l.state.memory (IsNotOfFrame b.depth q) ≡ true
none-own w g b known l c p called none n u q h = by q h.held.reaches
  where
    by : (q : Pointer) → Reaches (lives_of l.state.memory) b.depth q → holds (setting_of w.programs) l.state.memory (IsNotOfFrame b.depth q) ≡ true
    by Null r = refl
    by (Number n) r = refl
    by (Function f) r = refl
    by (At x) r = of (mapped-from life l.state.memory.objects x.object r.life r.found)
      where
        of : (o : Object) × (slice_get l.state.memory.objects x.object ≡ Some o) × (life o ≡ r.life) → not (depth_of_object (slice_get l.state.memory.objects x.object) == b.depth) ≡ true
        of (o, found, is) = ap (λ (y : Option Object). not (depth_of_object y == b.depth)) found ∙ ap not (eq-false o.depth b.depth other)
          where
            other : o.depth ≢ b.depth
            other e =
                let m = p.there.own (omega (arith, called)) x.object r.life r.found r.live (sym (ap (λ (y : Life). y.depth) is) ∙ e) in
                let k : length b.variables ≡ 0 = ap (λ (xs : List Planned). length xs) (p.variables ∙ none) in let i = m.0 in let j = m.1 in omega (arith, i, j, k)

held-words : (kind : NodeId → Kind) (h : TypeShape) (n : NodeId) (u : TypeId) → held_shape h ≡ Some (PointerTo n u) → words_by kind h ≡ word_number (kind n)
held-words kind (shape.Pointer m v) n u e = ap (λ (x : HeldType). words_of x) (let f : PointerTo m v ≡ PointerTo n u = cc (e) in f)
  where
    words_of : HeldType → ℕ
    words_of (PointerTo m v) = word_number (kind m)
    words_of x = 0
held-words kind (shape.Integer bytes signed) n u e = absurd (cc (e))
held-words kind other n u e = absurd (cc (e))

-- THE LAW OF RETURNED POINTERS
pub given-pointer : (w : Scene) (g : AreSlots w.slots) (b : Running) → ResultFits w → (known after : Knowledge) (blocks : Blocks) (v : Temp) (t : TypeId) (at : Place) (lines : Lines)
    (x : Known) (n : NodeId) (u : TypeId) (a : ℕ) → w.number ≢ 0 → w.result ≡ Some t → known v ≡ Some x → x.type ≡ PointerTo n u → x.place ≡ Some a
    → held_by (world_of w) t ≡ Some (PointerTo n u) → Then (ReturnGuard (PointerTo n u) w.variables (world_of w) a at) (Line (flat_instr.Return a ∷ [])) lines
    → Follows w g b blocks known after (meaning.act (instr.ReturnValue v t at) (around_of w b)) lines
unfolding Line Then
given-pointer w g b result known after blocks v t at lines x n u a number is fact type place held (first, last, guard, last_is, lines_is) l c p =
    subst (λ (z : Value). Match w g b after blocks (code.on_state (λ s. from (returned S b.depth at t z s) (λ y. done (Gives y))) l) (run lines (context_of w b) c)) (sym m.value)
    (subst (λ (js : Lines). Match w g b after blocks (given (all_placed S (λ y. at) (IsNotOfFrame b.depth m.pointer ∷ []) l.state)) (run js (context_of w b) c))
    (sym (lines_is ∙ ap (λ (js : Lines). first ++ js) last_is)) (by w.variables refl guard))
  where
    S : Setting
    S = setting_of w.programs

    K : Kind
    K = w.programs.whole.kind n

    called : b.depth ≡ suc b.outer
    called = p.called number

    points : Points known v n u a x.sure
    points = (x, fact, type, place, refl)

    m : Pointed w g b l c v n u a
    m = pointed w g b known l c p v n u a x.sure (as-address known v n u a x.sure points)

    given : Outcome source.Ending source.State (Unit {0}) → CodeOutcome
    given o = code.on_state (λ s. from (from o (λ y. done (Address m.pointer))) (λ y. done (Gives y))) l

    -- what is given where the pointer may leave the call
    gives : (d : flat.Local) → Point w g b known l d → holds S l.state.memory (IsNotOfFrame b.depth m.pointer) ≡ true
        → Match w g b after blocks (Done (Gives (Address m.pointer)) l) (run (flat_instr.Return a ∷ []) (context_of w b) d)
    gives d point passes = of (pointed w g b known l d point v n u a x.sure (as-address known v n u a x.sure points))
      where
        of : Pointed w g b l d v n u a → Match w g b after blocks (Done (Gives (Address m.pointer)) l) (run (flat_instr.Return a ∷ []) (context_of w b) d)
        of later = subst (λ (ws : List ℕ). Match w g b after blocks (Done (Gives (Address m.pointer)) l) (Done (Gives ws) d)) (sym words) (
          number,
          point.there,
          subst (λ (r : Option TypeId). IsPassed w.programs b.outer l.state d.state Exact (held_result w.programs.whole r) (Address m.pointer) (pointer_words (ground_of w.programs l.state d.state) K m.pointer)) (sym is)
              (subst (λ (h : Option HeldType). IsPassed w.programs b.outer l.state d.state Exact h (Address m.pointer) (pointer_words (ground_of w.programs l.state d.state) K m.pointer)) (sym held)
              (returned-held w b l n u m.pointer called m.held passes, (refl, known-words w g b known l d point v n u a x.sure points m.pointer m.value))),
        )
          where
            same : later.pointer ≡ m.pointer
            same = let e : Address later.pointer ≡ Address m.pointer = sym later.value ∙ m.value in cc (e)

            words : slots_at (results_of w.programs.parts w.number) a d ≡ pointer_words (ground_of w.programs l.state d.state) K m.pointer
            words = ap (λ (k : ℕ). slots_at k a d) (result.words t is ∙ held-words w.programs.whole.kind (shape_at w.programs.whole.table t) n u held)
                ∙ later.words ∙ ap (pointer_words (ground_of w.programs l.state d.state) K) same

    passed : holds S l.state.memory (IsNotOfFrame b.depth m.pointer) ≡ true → all_placed S (λ y. at) (IsNotOfFrame b.depth m.pointer ∷ []) l.state ≡ Done tt l.state
    passed e = ap (λ (q : Bool). from (allowed q (source.Stopped check.Escape at) (done tt) l.state) (λ _. done tt)) e

    by : (vs : List Planned) → w.variables ≡ vs → ReturnGuard (PointerTo n u) vs (world_of w) a at first
        → Match w g b after blocks (given (all_placed S (λ y. at) (IsNotOfFrame b.depth m.pointer ∷ []) l.state)) (run (first ++ flat_instr.Return a ∷ []) (context_of w b) c)
    by [] none guard =
        let passes = none-own w g b known l c p called none n u m.pointer m.held in
        subst (λ (js : Lines). Match w g b after blocks (given (all_placed S (λ y. at) (IsNotOfFrame b.depth m.pointer ∷ []) l.state)) (run (js ++ flat_instr.Return a ∷ []) (context_of w b) c)) (sym guard)
        (subst (λ (o : Outcome source.Ending source.State (Unit {0})). Match w g b after blocks (given o) (run (flat_instr.Return a ∷ []) (context_of w b) c)) (sym (passed passes))
        (gives c p passes))
    by (y ∷ ys) are guard =
        subst (λ (f : FlatOutcome). Match w g b after blocks (given (all_placed S (λ y. at) (IsNotOfFrame b.depth m.pointer ∷ []) l.state)) f) (sym (z.runs (flat_instr.Return a ∷ [])))
        (stops (first_false w.programs.parts c.state.memory asks (slot z.middle)) refl alike)
      where
        asks : List Asked
        asks = asked check.Escape at (IsNotOwn (home_slot (w.programs.whole.kind n) (pointer_slots a))) ∷ []

        z : Guarded w g b known l [] asks first c
        z = guarded w g b known l [] asks first c p tt guard
            (λ d passed there. record { apart = (home-other w g (w.programs.whole.kind n) a m.lasting, tt); held = (tt, tt); safe = (tt, λ e. tt) })

        own : IsOwn w b l c
        own = first-own w g b known l c p y ys are

        alike : StopsAlike (first_false w.programs.parts c.state.memory asks (slot z.middle)) (all_placed S (λ y. at) (IsNotOfFrame b.depth m.pointer ∷ []) l.state) l.state
        alike = stops-alike w.programs.parts c.state.memory (slot z.middle) S (λ y. at) l.state asks (IsNotOfFrame b.depth m.pointer ∷ []) (
          refl,
          refl,
          returns-compared S w.programs.whole.node l.state c.state w.programs.parts b.depth p.there.laid.functions.apart K u m.pointer (slot z.middle) (pointer_slots a) (b.first + 0) own.object
              (omega (arith, called)) own.found own.live own.depth own.area (checked-words w g b known l c z.middle p z.passed v n u a m),
          λ e. tt,
        )

        stops : (f : Option Asked) → first_false w.programs.parts c.state.memory asks (slot z.middle) ≡ f
            → StopsAlike f (all_placed S (λ y. at) (IsNotOfFrame b.depth m.pointer ∷ []) l.state) l.state
            → Match w g b after blocks (given (all_placed S (λ y. at) (IsNotOfFrame b.depth m.pointer ∷ []) l.state))
            (from (stopped_by f z.after) (λ x. then_go x (run (flat_instr.Return a ∷ []) (context_of w b))))
        stops None f e =
            subst (λ (o : Outcome source.Ending source.State (Unit {0})). Match w g b after blocks (given o) (run (flat_instr.Return a ∷ []) (context_of w b) z.after)) (sym e)
            (gives z.after z.point (all-held S (λ y. at) (IsNotOfFrame b.depth m.pointer ∷ []) l.state e).0)
        stops (Some x) f e =
            subst (λ (o : Outcome source.Ending source.State (Unit {0})). Match w g b after blocks (given o) (Ended (flat.Stopped x.check x.place) z.after)) (sym e)
            ((refl, refl), z.point.there.related)

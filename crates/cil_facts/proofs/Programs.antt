-- A program in shape is wrong nowhere: its static objects, its static initialisers and `main`.
use Rattle.std.proofs.Common.{◌≡◌, ◌≢◌, ◌∙◌, ℕ, zero, suc, ◌<◌, ◌≤◌, List, [], ◌∷◌, length, map, replicate, Option, None, Some, slice_get, slice_index, refl, ap, sym, subst, true, arith}
use Rattle.std.specs.Prelude.{⊤}
use Rattle.std.specs.List.{Contains, repeat}
use Rattle.std.proofs.lemmas.List.{length-replicate}
use Rattle.cc_base.specs.declared.kind.Kind.{Kind}
use Rattle.cc_base.specs.declared.number.NodeId.{NodeId}
use Rattle.cc_base.specs.declared.number.TypeId.{TypeId}
use Rattle.kind_sites.specs.declared.site.Site.{Site}
use Rattle.kind_sites.specs.declared.site.Site.TheVariants as site
use Rattle.c_types.specs.Table.{members_at}
use Rattle.c_types.specs.Layouts.{size_of}
use Rattle.c_types.specs.Cells.{raw, pointer, AreOrdered, cells_of_shape}
use Rattle.c_types.specs.Equality.{cells_of, physically_equal}
use Rattle.c_types.proofs.Cells.{cells_are}
use Rattle.c_types.proofs.OrderedPointers.{cells_ordered}
use Rattle.flat_mem.specs.Bytes.{AreBytes}
use Rattle.runs.specs.Input.{Input}
use Rattle.runs.specs.Outcome.{Outcome, Ended, Done, done, ◌>>◌}
use Rattle.runs.specs.Control.{Control, Goes, Leaves, Gives}
use Rattle.src_mem.specs.Pointers.{Function, Value, Address}
use Rattle.src_mem.specs.Memory.{Object, Memory, Planned, new_variable, new_literal}
use Rattle.src_mem.specs.State.{Ending, Exited, Stopped, Turns, Wants, Wrong, State, Act, Setting, bytes_of, given}
use Rattle.src_mem.specs.Checks.{HasRoom}
use Rattle.src_mem.specs.Uses.{home}
use Rattle.src_mem.specs.Runs as runs
use Rattle.src_mem.specs.Runs.{Callable, call_within, nested_limit, run_main, static_from, static_object, first_state, finished}
use Rattle.src_mem.specs.Outlines.{Outline, Life, outline, life, outlines_of, lives_of}
use Rattle.src_mem.specs.Facts.{IsSoundObject, IsSoundAt}
use Rattle.src_mem.specs.Laws as laws
use Rattle.src_mem.specs.Laws.{Keeps, ReadsWhatIsThere}
use Rattle.src_mem.proofs.Keeping.{keep_wrong}
use Rattle.src_mem.proofs.Outlines.{mapped-from, get-mapped}
use Rattle.facts_kept.proofs.Complete.{complete-some}
use Rattle.facts_kept.proofs.Giving.{gives-from, gives-more, gives-tried}
use Rattle.facts_kept.proofs.Growth.{zero-sound}
use Rattle.cil_form.specs.declared.number.Object.TheVariants as object
use Rattle.cil_form.specs.declared.program.Function.{Function as CodeFunction}
use Rattle.cil_form.specs.declared.program.Static.{Static}
use Rattle.cil_form.specs.declared.program.Program.{Program}
use Rattle.cil_form.specs.State.{Local, no_temps}
use Rattle.cil_form.specs.Typing.{PlaceOf, IsObject, IsNamedAs, no_types}
use Rattle.cil_form.specs.Meaning.{run, pointer_to}
use Rattle.cil_form.specs.Machine.{plan, head_of, statics_of, setting_of, without_temps, callable, static_around, initialise_statics, code_run, body_of}
use Rattle.cil_form.specs.Shape.{IsInShape, IsStaticInShape, IsText, context_of}
use Rattle.cil_form.specs.Sites.{Each}
use Rattle.cil_form.specs.Told.{IsToldOf, IsSolutionOf}
use Rattle.cil_facts.specs.Held.{IsHeldAs, AreFacts}
use Rattle.cil_facts.specs.Calling.{AreArgumentsIn, AreStaticsThere, HasReturned}
use Rattle.cil_facts.specs.Whole.{ProgramNumbersNone}
use Rattle.cil_facts.proofs.Control.{Well, comes-more, run-well}
use Rattle.cil_facts.proofs.Functions.{each-got, each-left, all-got, alone-given, outer-solved, home-variable, named-class, read-kept, body-keeps, calls-keep}
use Rattle.cil_facts.proofs.Homes.{home-named}
use Rattle.cil_facts.proofs.Later.{later-as}

-- Literals

each-index : (xs : List ℕ) → Each (λ b. b < 256) xs → (i : ℕ) → slice_index xs i < 256
each-index [] h i = omega arith
each-index (x ∷ xs) h zero = h.0
each-index (x ∷ xs) h (suc i) = each-index xs h.1 i

repeat-raw : (n : ℕ) → repeat n (raw ∷ []) ≡ replicate n raw
repeat-raw zero = refl
repeat-raw (suc n) = ap (λ cs. raw ∷ cs) (repeat-raw n)

raw-cell : (n k : ℕ) (node : NodeId) (t : TypeId) (j : ℕ) → slice_get (replicate n raw) k ≡ Some (pointer node t j) → ⊥
raw-cell zero k node t j e = absurd (cc (e))
raw-cell (suc n) zero node t j e = absurd (cc (e))
raw-cell (suc n) (suc k) node t j e = raw-cell n k node t j e

literal-sound : (w : Setting) (sites : List Site) (outlines : List Outline) (lives : List Life) (node : NodeId) (text : List ℕ) → Each (λ b. b < 256) text
    → IsSoundObject w sites outlines lives (new_literal node text)
literal-sound w sites outlines lives node text h = record {
  sized = refl;
  bytes = record { below = each-index text h };
  typed = λ a k p e. absurd (cc (e));
  tagged = λ a k p e. absurd (cc (e));
  under = λ k p e. absurd (cc (e));
  zeros = λ a k n t e. absurd (raw-cell (length text) k n t 0 e);
  reaches = λ k p e. absurd (cc (e));
  made = λ k p e. absurd (cc (e));
}

module _ (p : Program) (kind : NodeId → Kind) (shaped : IsInShape p) (told : IsToldOf p) (solution : IsSolutionOf p kind) (none : ProgramNumbersNone p)
    (input : Input) (bytes : AreBytes (bytes_of input)) where
  abbrev w : Setting
  w = setting_of p kind

  abbrev static-of : Static → runs.Static
  static-of o = record { type = o.planned.ty; home = o.planned.home; text = o.text }

  -- the object of a static
  abbrev object_of : Static → Object
  object_of o = static_object w (record { type = o.planned.ty; home = o.planned.home; text = o.text })

  -- a literal's object is outlined as a variable of its type
  literal-cells : (o : Static) (text : List ℕ) → IsText p.types o.planned.ty (Some text)
      → (cells_of w.table o.planned.ty ≡ replicate (length text) raw)
  literal-cells o text h =
      cells_are w.table shaped.formed.order.0 shaped.formed.order.1 (physically_equal w.table) o.planned.ty
      ∙ ap (λ s. cells_of_shape w.table (physically_equal w.table) (cells_of w.table) o.planned.ty s (members_at w.table o.planned.ty)) h.3.1
      ∙ ap (λ cs. repeat h.1 cs) element ∙ repeat-raw h.1 ∙ ap (λ n. replicate n raw) (sym h.5)
    where
      element : cells_of w.table h.0 ≡ raw ∷ []
      element =
          cells_are w.table shaped.formed.order.0 shaped.formed.order.1 (physically_equal w.table) h.0
          ∙ ap (λ s. cells_of_shape w.table (physically_equal w.table) (cells_of w.table) h.0 s (members_at w.table h.0)) h.4.1

  outlined : (o : Static) → IsStaticInShape p o → outline (object_of o) ≡ outline (new_variable w.table 0 (plan o.planned))
  outlined o s = by o.text s.text
    where
      by : (text : Option (List ℕ)) → IsText p.types o.planned.ty text
          → outline (static_from w o.planned.ty o.planned.home text) ≡ outline (new_variable w.table 0 (plan o.planned))
      by None h = refl
      by (Some text) h =
          let cells = literal-cells o text h in
          let long = (complete-some w.table shaped.formed o.planned.ty s.planned.1.1).1 in
          let size : length text ≡ size_of w.table o.planned.ty =
          sym (length-replicate (length text) raw) ∙ ap length (sym cells) ∙ long in
          ap (λ cs. record { depth = 0; node = o.planned.home; size = length text; cells = cs }) (sym cells)
          ∙ ap (λ n. record { depth = 0; node = o.planned.home; size = n; cells = cells_of w.table o.planned.ty }) size

  static-sound : (o : Static) → IsStaticInShape p o → (outlines : List Outline) (lives : List Life) → IsSoundObject w p.sites outlines lives (object_of o)
  static-sound o s outlines lives = by o.text s.text
    where
      by : (text : Option (List ℕ)) → IsText p.types o.planned.ty text
          → IsSoundObject w p.sites outlines lives (static_from w o.planned.ty o.planned.home text)
      by None h = zero-sound w p.sites outlines lives 0 o.planned.home (size_of w.table o.planned.ty) (cells_of w.table o.planned.ty)
      by (Some text) h = literal-sound w p.sites outlines lives o.planned.home text h.6

  lives-there : (o : Static) → life (object_of o) ≡ record { depth = 0; live = true }
  lives-there o = by o.text
    where
      by : (text : Option (List ℕ)) → life (static_from w o.planned.ty o.planned.home text) ≡ record { depth = 0; live = true }
      by None = refl
      by (Some text) = refl

  -- The beginning

  abbrev objects : List Object
  objects = map (static_object w) (statics_of p)

  abbrev memory : Memory
  memory = record { objects = objects; frame_bytes = 0; heap_bytes = 0 }

  -- each object is a static's
  made-of : (n : ℕ) (x : Object) → slice_get objects n ≡ Some x → (o : Static) × (slice_get p.statics n ≡ Some o) × (object_of o ≡ x) × IsStaticInShape p o
  made-of n x e =
      let y = mapped-from (static_object w) (statics_of p) n x e in
      let o = mapped-from static-of p.statics n y.0 y.1 in
      (o.0, o.1, ap (static_object w) o.2 ∙ y.2, all-got (IsStaticInShape p) p.statics n o.0 shaped.statics o.1)

  begins-sound : IsSoundAt w p.sites memory 0
  begins-sound = record {
    objects = record {
      each = λ n x e l. let o = made-of n x e in subst (IsSoundObject w p.sites (outlines_of memory) (lives_of memory)) o.2
          (static-sound o.0 o.3 (outlines_of memory) (lives_of memory));
    };
    outlines = record {
      celled = λ n x e. celled n x (mapped-from outline objects n x e);
      ordered = λ n x e u. ordered n x (mapped-from outline objects n x e);
    };
    lives = record { each = λ n x e l. deep n x (mapped-from life objects n x e) };
  }
    where
      as-variable : (n : ℕ) (x : Object) → slice_get objects n ≡ Some x
          → (o : Static) × (outline (new_variable w.table 0 (plan o.planned)) ≡ outline x) × IsStaticInShape p o
      as-variable n x e = let o = made-of n x e in (o.0, sym (outlined o.0 o.3) ∙ ap outline o.2, o.3)

      celled : (n : ℕ) (x : Outline) → (o : Object) × (slice_get objects n ≡ Some o) × (outline o ≡ x) → length x.cells ≡ x.size
      celled n x o =
          let v = as-variable n o.0 o.1 in
          subst (λ (y : Outline). length y.cells ≡ y.size) (v.1 ∙ o.2) (complete-some w.table shaped.formed (v.0).planned.ty (v.2).planned.1.1).1

      ordered : (n : ℕ) (x : Outline) → (o : Object) × (slice_get objects n ≡ Some o) × (outline o ≡ x) → AreOrdered x.cells
      ordered n x o =
          let v = as-variable n o.0 o.1 in
          subst (λ (y : Outline). AreOrdered y.cells) (v.1 ∙ o.2) (cells_ordered w.table shaped.formed (v.0).planned.ty)

      deep : (n : ℕ) (x : Life) → (o : Object) × (slice_get objects n ≡ Some o) × (life o ≡ x) → x.depth ≤ 0
      deep n x o =
          let s = made-of n o.0 o.1 in
          let e : x.depth ≡ 0 = sym (ap (λ (z : Life). z.depth) (sym (lives-there s.0) ∙ ap life s.2 ∙ o.2)) in omega (arith, e)

  begins-there : AreStaticsThere (context_of p) w memory 0
  begins-there n node t h =
      let o = mapped-from (λ (s : Static). plan s.planned) p.statics n.0 (record { type = h.0; node = node }) h.1 in
      let s = all-got (IsStaticInShape p) p.statics n.0 o.0 shaped.statics o.1 in
      let is = home-variable p kind shaped told solution none (plan (o.0).planned) s.planned
      (each-got (λ x. Contains p.sites (site.Home x.node x.type)) (map (λ (s : Static). plan s.planned) p.statics) n.0 (plan (o.0).planned)
      (each-left (λ x. Contains p.sites (site.Home x.node x.type)) (map (λ (s : Static). plan s.planned) p.statics) _ told.objects)
      (get-mapped (λ (s : Static). plan s.planned) p.statics n.0 o.0 o.1)) in
      let at : slice_get objects n.0 ≡ Some (object_of o.0) =
      get-mapped (static_object w) (statics_of p) n.0 (static-of o.0) (get-mapped static-of p.statics n.0 o.0 o.1) in
      subst (λ m. IsHeldAs w p.sites memory 0 (PlaceOf m t) (Address (home w.table n.0 t))) (ap (λ (z : Planned). z.node) o.2)
      (home-named w shaped.formed memory p.sites n.0 0 0 (plan (o.0).planned) is.complete is.plain
      (get-mapped outline objects n.0 (object_of o.0) at ∙ ap Some (outlined o.0 s))
      (record {
        life = life (object_of o.0);
        found = get-mapped life objects n.0 (object_of o.0) at;
        live = ap (λ (z : Life). z.live) (lives-there o.0);
        older = (let e : (life (object_of o.0)).depth ≡ 0 = ap (λ (z : Life). z.depth) (lives-there o.0) in omega (arith, e));
      })
      t (named-class p kind shaped told solution none (plan (o.0).planned).type t
      (subst (λ u. IsNamedAs (context_of p) u t) (sym (ap (λ (z : Planned). z.type) o.2)) h.2)))

  -- Static initialisers

  -- what is true before `main`
  record HasBegun (r : State) : Type 0 where
    sound : IsSoundAt w p.sites r.memory 0
    statics : AreStaticsThere (context_of p) w r.memory 0
    reads : ReadsWhatIsThere input r

  begins-facts : (turns : ℕ) → AreFacts (context_of p) (static_around w) no_types (record { state = first_state objects input turns; temps = no_temps })
  begins-facts turns = record {
    memory = begins-sound;
    asked = λ t x e. absurd (cc (e));
    held = λ t x e. absurd (cc (e));
    objects = there;
  }
    where
      there : (o : _) (node : NodeId) (t : TypeId) → IsObject (context_of p) o node t
          → IsHeldAs w p.sites memory 0 (PlaceOf node t) (Address (pointer_to (static_around w) o t))
      there (object.Static n) node t h = begins-there n node t h
      there (object.Variable n) node t h = absurd (let e = h.1 in cc (e))

  initialised : (turns : ℕ) → laws.Gives (initialise_statics w p.initialisers.0.items (first_state objects input turns)) (λ x r. HasBegun r)
  initialised turns =
      gives-from (λ x r. HasBegun r) (λ x r. HasBegun r)
      (without_temps (run p.initialisers.0.items (static_around w) (record { state = first_state objects input turns; temps = no_temps })))
      (λ x. done tt)
      (alone-given (λ x r. HasBegun r) (run p.initialisers.0.items (static_around w) start)
      (comes-more input bytes (Well input bytes (context_of p) (static_around w) no_types start) (λ x d. HasBegun d.state)
      (run p.initialisers.0.items (static_around w) start)
      (run-well input bytes (static_around w) (λ f depth vs. keep_wrong (ReadsWhatIsThere input)) p.initialisers.0.items (context_of p) no_types no_types start
      none.initialisers (outer-solved p kind shaped told solution none) (λ some. absurd (cc (some)))
      (record { same = refl; most = omega arith }) shaped.initialisers.shaped (begins-facts turns)) begun)) (λ x r h. h)
    where
      start : Local
      start = record { state = first_state objects input turns; temps = no_temps }

      begun : (x : Control Value) (d : Local) → Well input bytes (context_of p) (static_around w) no_types start x d → HasBegun d.state
      begun Goes d h = record {
        sound = h.0.facts.memory;
        statics = λ n node t o. later-as w p.sites 0 memory d.state.memory h.0.later (PlaceOf node t) (Address (home w.table n.0 t)) (begins-there n node t o);
        reads = h.1;
      }
      begun (Leaves n) d h = absurd (let l = h.0.0 in omega (arith, l))
      begun (Gives v) d h = absurd (let e = h.0.result in cc (e))

  -- `main`

  abbrev code : List Callable
  code = map (callable w) p.functions

  none-named : (ps : List runs.Parameter) → runs.named_arguments ps [] ≡ []
  none-named [] = refl
  none-named (q ∷ ps) = refl

  main-runs : (r : State) → HasBegun r
      → laws.Gives (given (slice_get code p.main.0) (run_main w p.main_place (call_within nested_limit w code) p.main.0) r) (λ v t. ⊤)
  main-runs r begun =
      let g = shaped.main in
      subst (λ o. laws.Gives (given o (run_main w p.main_place (call_within nested_limit w code) p.main.0) r) (λ v t. ⊤))
      (sym (get-mapped (callable w) p.functions p.main.0 g.0 g.1))
      (gives-tried w p.main_place (HasRoom 1 (Function p.main.0)) (main g.0) r (λ v t. ⊤)
      (λ room. gives-more (HasReturned w p.sites 0 (g.0).ty r.memory) (λ v t. ⊤) (main g.0 r)
      (subst (λ vs. laws.Gives (runs.call_body w (call_within nested_limit w code) p.main.0 1 vs (runs.defined (head_of g.0)) (body_of w g.0) r)
      (HasReturned w p.sites 0 (g.0).ty r.memory)) (none-named (head_of g.0).parameters)
      (body-keeps p kind shaped told solution none input bytes p.main.0 g.0 g.1 0 (call_within nested_limit w code)
      (calls-keep p kind shaped told solution none input bytes nested_limit 1) (read-kept p kind shaped told solution none input bytes nested_limit) [] r
      begun.reads begun.sound begun.statics
      (subst (λ sh. AreArgumentsIn w p.sites r.memory 0 sh []) (sym g.2.1) (record { each = λ i t e. absurd (cc (e)) }))))
      (λ v t h. tt)))
    where
      main : CodeFunction → Act Value
      main g = runs.call_body w (call_within nested_limit w code) p.main.0 1 [] (runs.defined (head_of g)) (body_of w g)

  ends-right : (o : Outcome Ending State Value) → laws.Gives o (λ v t. ⊤) → (finished o).ending ≢ Wrong
  ends-right (Ended Wrong s) h = absurd h
  ends-right (Ended (Exited n) s) h = λ e. absurd (cc (e))
  ends-right (Ended (Stopped check at) s) h = λ e. absurd (cc (e))
  ends-right (Ended Turns s) h = λ e. absurd (cc (e))
  ends-right (Ended Wants s) h = λ e. absurd (cc (e))
  ends-right (Done v s) h = λ e. absurd (cc (e))

  pub never-wrong : (turns : ℕ) → (code_run p kind input turns).ending ≢ Wrong
  never-wrong turns =
      ends-right
      ((initialise_statics w p.initialisers.0.items >> given (slice_get code p.main.0) (run_main w p.main_place (call_within nested_limit w code) p.main.0))
      (first_state objects input turns))
      (gives-from (λ x r. HasBegun r) (λ v t. ⊤) (initialise_statics w p.initialisers.0.items (first_state objects input turns))
      (λ x. given (slice_get code p.main.0) (run_main w p.main_place (call_within nested_limit w code) p.main.0)) (initialised turns)
      (λ x r h. main-runs r h))

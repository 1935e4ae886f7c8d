-- Functions of a program in shape keep the facts, however deep their calls are nested.
use Rattle.std.proofs.Common.{◌≡◌, ◌⊎◌, ◌∙◌, inl, inr, ℕ, zero, suc, ◌+◌, ◌-◌, ◌*◌, pos, Bool, true, false, List, [], ◌∷◌, ◌++◌, length, map, flat_map, Option, None, Some, slice_get, get_or, refl, ap, sym, subst, ⊎_elim, arith, if◌then◌else◌}
use Rattle.std.specs.Prelude.{IsSome, All}
use Rattle.std.specs.List.{Contains, filter_map, cons_option}
use Rattle.std.proofs.lemmas.Option.{slice_get-get_or, slice_get_within}
use Rattle.std.proofs.lemmas.Bool.Decides.{nat_tests}
use Rattle.std.proofs.lemmas.Nat.{pow_pos}
use Rattle.cc_base.specs.declared.kind.Kind.{Kind}
use Rattle.cc_base.specs.declared.number.NodeId.{NodeId}
use Rattle.cc_base.specs.declared.number.TypeId.{TypeId}
use Rattle.c_types.proofs.OrderedPointers.{get_back}
use Rattle.c_types.specs.declared.shape.TypeShape.{TypeShape}
use Rattle.c_types.specs.declared.shape.TypeShape.TheVariants as shape
use Rattle.kind_sites.specs.declared.site.Site.TheVariants as site
use Rattle.c_types.specs.Table.{IsType, shape_at, is_function, is_function_shape}
use Rattle.c_types.specs.Flows.{IsOfOneClass}
use Rattle.type_laws.proofs.Pointers.{class_own}
use Rattle.flat_mem.specs.Bytes.{AreBytes}
use Rattle.integers.specs.Arithmetic.{IntegerType, converted}
use Rattle.integers.specs.Words.{as_signed, as_unsigned}
use Rattle.runs.specs.Input.{Input}
use Rattle.runs.specs.Outcome.{Outcome, Ended, Done, done, from, ◌>>=◌, ◌>>◌}
use Rattle.runs.specs.Control.{Control, Goes, Leaves, Gives}
use Rattle.src_mem.specs.Pointers.{Value, Integer, Address}
use Rattle.src_mem.specs.Memory.{Memory, Planned, new_variable}
use Rattle.src_mem.specs.State.{Ending, Exited, Stopped, Turns, Wants, Wrong, State, Setting, Defined, bytes_of, given, turn_of}
use Rattle.src_mem.specs.Primitives.{leave}
use Rattle.src_mem.specs.Uses.{home, store, store_arguments, enter_with}
use Rattle.src_mem.specs.Operations.{zero_of_shape, zero_of_function}
use Rattle.src_mem.specs.Runs as runs
use Rattle.src_mem.specs.Runs.{Calls, Callable, call_body, call_within, planned, named_arguments, if_named}
use Rattle.src_mem.specs.Outlines.{LivesAt, life, outline, outlines_of, lives_of}
use Rattle.src_mem.specs.Facts.{IsSoundAt}
use Rattle.src_mem.specs.Laws as laws
use Rattle.src_mem.specs.Laws.{Keeps, ReadsWhatIsThere}
use Rattle.src_mem.proofs.Invariants.{reads_invariant}
use Rattle.src_mem.proofs.Keeping.{keep_bind, keep_then, keep_done, keep_wrong, keep_store, keep_calls}
use Rattle.src_mem.proofs.Outlines.{get-mapped, mapped-from}
use Rattle.facts_kept.specs.Kept as kept
use Rattle.facts_kept.specs.Kept.{IsLater, IsVariable, IsArgumentOf, HasEntered, HasLeft}
use Rattle.facts_kept.proofs.Arguments.{gives-called}
use Rattle.facts_kept.proofs.Frames.{gives-left}
use Rattle.facts_kept.proofs.Giving.{gives-from}
use Rattle.facts_kept.proofs.Later.{later-twice}
use Rattle.facts_kept.proofs.Places.{reaches-more}
use Rattle.cil_form.specs.declared.number.Object.{Object}
use Rattle.cil_form.specs.declared.number.Object.TheVariants as object
use Rattle.cil_form.specs.declared.program.Function.{Function}
use Rattle.cil_form.specs.declared.program.Parameter.{Parameter}
use Rattle.cil_form.specs.declared.program.Program.{Program}
use Rattle.cil_form.specs.State.{Local, Around, no_temps}
use Rattle.cil_form.specs.Typing.{PlaceOf, IsObject, IsNamedAs, no_types, held_shape}
use Rattle.cil_form.specs.Meaning.{run, pointer_to}
use Rattle.cil_form.specs.Machine.{plan, head_of, variables_of, setting_of, result_of, without_temps, body_of, callable}
use Rattle.cil_form.specs.Shape.{IsInShape, IsFunctionInShape, IsPlanInShape, IsResult, result_of_shape, context_of, context_in}
use Rattle.cil_form.specs.Sites.{Each}
use Rattle.cil_form.specs.Told.{IsToldOf, IsSolutionOf, objects_of}
use Rattle.cil_form.proofs.TellsLaws.{function-told, outer-told}
use Rattle.cil_facts.specs.Held.{IsHeldAs, IsSolvedFor, AreFacts}
use Rattle.cil_facts.specs.Calling.{AreArgumentsOf, AreArgumentsIn, IsResultOf, IsResultIn, IsReturned, AreStaticsThere, HasReturned, CallsKeepTheFacts, ComesTo}
use Rattle.cil_facts.specs.Whole.{CodeNumbersNone, ProgramNumbersNone}
use Rattle.cil_facts.proofs.Accesses.{alike-class}
use Rattle.cil_facts.proofs.Control.{Well, comes-more, run-well}
use Rattle.cil_facts.proofs.Homes.{home-named}
use Rattle.cil_facts.proofs.Invariants.{StateLeft, run-left}
use Rattle.cil_facts.proofs.Later.{later-as}

-- Lists

pub each-got : {X : Type 0} (P : X → Type 0) (xs : List X) (n : ℕ) (x : X) → Each P xs → slice_get xs n ≡ Some x → P x
each-got P [] n x h e = absurd (cc (e))
each-got P (y ∷ ys) zero x h e = let it : y ≡ x = cc (e) in subst P it h.0
each-got P (y ∷ ys) (suc n) x h e = each-got P ys n x h.1 e

pub each-left : {X : Type 0} (P : X → Type 0) (xs ys : List X) → Each P (xs ++ ys) → Each P xs
each-left P [] ys h = tt
each-left P (x ∷ xs) ys h = (h.0, each-left P xs ys h.1)

pub each-right : {X : Type 0} (P : X → Type 0) (xs ys : List X) → Each P (xs ++ ys) → Each P ys
each-right P [] ys h = h
each-right P (x ∷ xs) ys h = each-right P xs ys h.1

pub each-flat : {X A : Type 0} (P : A → Type 0) (f : X → List A) (xs : List X) (n : ℕ) (x : X) → slice_get xs n ≡ Some x → Each P (flat_map f xs) → Each P (f x)
each-flat P f [] n x e h = absurd (cc (e))
each-flat P f (y ∷ ys) zero x e h = let it : y ≡ x = cc (e) in subst (λ z. Each P (f z)) it (each-left P (f y) (flat_map f ys) h)
each-flat P f (y ∷ ys) (suc n) x e h = each-flat P f ys n x e (each-right P (f y) (flat_map f ys) h)

pub all-got : {X : Type 0} (P : X → Type 0) (xs : List X) (n : ℕ) (x : X) → All P xs → slice_get xs n ≡ Some x → P x
all-got P xs n x h e =
    let l = slice_get_within xs n x e in
    let it : get_or xs n x ≡ x = (let f = slice_get-get_or xs n x l in cc (e, f)) in
    subst P it (h n x l)

pub listed : {X : Type 0} (xs : List X) (n : ℕ) (x : X) → slice_get xs n ≡ Some x → Contains xs x
listed xs n x e =
    let l = slice_get_within xs n x e in
    (n, l, (let f = slice_get-get_or xs n x l in cc (e, f)))

-- Zero of a type is a value of it

pub zero-fits : (t : IntegerType) → converted t (pos 0) ≡ pos 0
zero-fits t = by t.signed
  where
    by : (q : Bool) → (if q then as_signed (8 * t.bytes) (pos 0) else as_unsigned (8 * t.bytes) (pos 0)) ≡ pos 0
    by true = let p = pow_pos (8 * t.bytes) in let q = pow_pos (8 * t.bytes - 1) in grind (arith, nat_tests)
    by false = grind (arith, nat_tests)

-- An outcome of code with temporaries of its own

pub alone-given : (P : Control Value → State → Type 0) (m : Outcome Ending Local (Control Value)) → ComesTo m (λ x d. P x d.state) → laws.Gives (without_temps m) P
alone-given P (Ended Wrong d) h = h
alone-given P (Ended (Exited n) d) h = tt
alone-given P (Ended (Stopped check at) d) h = tt
alone-given P (Ended Turns d) h = tt
alone-given P (Ended Wants d) h = tt
alone-given P (Done x d) h = h

module _ (p : Program) (kind : NodeId → Kind) (shaped : IsInShape p) (told : IsToldOf p) (solution : IsSolutionOf p kind) (none : ProgramNumbersNone p) where
  abbrev w : Setting
  w = setting_of p kind

  abbrev code : List Callable
  code = map (callable w) p.functions

  pub function-shaped : (n : ℕ) (g : Function) → slice_get p.functions n ≡ Some g → IsFunctionInShape p g
  function-shaped n g e = all-got (IsFunctionInShape p) p.functions n g shaped.functions e

  -- the type of a function
  abbrev type-of : (n : ℕ) (g : Function) → slice_get p.functions n ≡ Some g
      → (result : TypeId) × IsType p.types g.ty × (shape_at p.types g.ty ≡ shape.Function (map (λ (x : Parameter). x.ty) g.parameters) result)
      × IsResult p result
  type-of n g e = (function-shaped n g e).type

  -- the functions that code names are those of the run
  named-functions : (f : ℕ) (v : TypeId) → slice_get (map (λ (g : Function). g.ty) p.functions) f ≡ Some v
      → (d : Defined) × (slice_get w.functions f ≡ Some d) × (d.type ≡ v) × (is_function w.table v ≡ true)
  named-functions f v e =
      let g = mapped-from (λ (g : Function). g.ty) p.functions f v e in
      let t = type-of f g.0 g.1 in (
        runs.defined (head_of g.0),
        get-mapped (λ g. runs.defined (head_of g)) p.functions f g.0 g.1,
        g.2,
        subst (λ u. is_function w.table u ≡ true) g.2 (ap is_function_shape t.2),
      )

  pub outer-solved : IsSolvedFor (context_of p) w
  outer-solved = record {
    table = refl;
    well_formed = shaped.formed;
    solution = solution;
    made = objects_of p;
    told = told;
    tells = outer-told p told;
    functions = named-functions;
  }

  function-solved : (n : ℕ) (g : Function) → slice_get p.functions n ≡ Some g → IsSolvedFor (context_in p g) w
  function-solved n g e = record {
    table = refl;
    well_formed = shaped.formed;
    solution = solution;
    made = objects_of p;
    told = told;
    tells = function-told p g told (listed p.functions n g e);
    functions = named-functions;
  }

  -- an object that has a home is one of a frame
  pub home-variable : (x : Planned) → IsPlanInShape p x → Contains p.sites (site.Home x.node x.type) → IsVariable w x
  home-variable x s h =
      let home = solution.each (site.Home x.node x.type) h in
      record { complete = s.1.1; plain = home.plain; spreads = home.spreads }

  variable : (n : ℕ) (g : Function) → slice_get p.functions n ≡ Some g → (j : ℕ) (x : Planned) → slice_get (variables_of g) j ≡ Some x → IsVariable w x
  variable n g e j x f =
      home-variable x (each-got (IsPlanInShape p) (variables_of g) j x (function-shaped n g e).variables f)
      (each-got (λ o. Contains p.sites (site.Home o.node o.type)) (variables_of g) j x
      (each-flat (λ o. Contains p.sites (site.Home o.node o.type)) variables_of p.functions n g e
      (each-right (λ o. Contains p.sites (site.Home o.node o.type)) (map (λ s. plan s.planned) p.statics) (flat_map variables_of p.functions) told.objects)) f)

  -- a type that an object is named with is of one class with its own
  pub named-class : (u t : TypeId) → IsNamedAs (context_of p) u t → IsOfOneClass w.table w.kind u t
  named-class u t h = ⊎_elim
      (λ e. subst (λ x. IsOfOneClass w.table w.kind u x) e (class_own w.table w.kind u))
      (λ d. alike-class (context_of p) (record { setting = w; depth = 0; first = 0; call = λ f depth vs. done (Integer (pos 0)) }) outer-solved u t d.1) h

  module _ (input : Input) (bytes : AreBytes (bytes_of input)) where
    pub read-kept : (n f depth : ℕ) (vs : List Value) → Keeps (ReadsWhatIsThere input) (call_within n w code f depth vs)
    read-kept n f depth vs = keep_calls (reads_invariant input) w code bodies n f depth vs
      where
        bodies : (f : ℕ) (c : Callable) → slice_get code f ≡ Some c → (call : Calls)
            → ((g depth : ℕ) (vs : List Value) → Keeps (ReadsWhatIsThere input) (call g depth vs)) → (depth first : ℕ) (zero_value : Value)
            → Keeps (ReadsWhatIsThere input) (c.body depth first call zero_value)
        bodies f c e call keeps depth first zero_value =
            let g = mapped-from (callable w) p.functions f c e in
            subst (λ (x : Callable). Keeps (ReadsWhatIsThere input) (x.body depth first call zero_value)) g.2
            (keep_bind (record {
              by = λ s h. out (run (g.0).body.0.items (record { setting = w; depth = depth; first = first; call = call })
                  (record { state = s; temps = no_temps }))
                  (run-left (reads_invariant input) (record { setting = w; depth = depth; first = first; call = call }) keeps (g.0).body.0.items
                  (record { state = s; temps = no_temps }) h);
            }) (λ x. keep_done (ReadsWhatIsThere input) (result_of zero_value x)))
          where
            out : (m : Outcome Ending Local (Control Value)) → StateLeft (ReadsWhatIsThere input) m
                → ReadsWhatIsThere input (laws.left_by (without_temps m))
            out (Ended e d) h = h
            out (Done x d) h = h

    -- A call begins

    keep_arguments : (number : ℕ) (xs : List Planned) (vs : List Value) → Keeps (ReadsWhatIsThere input) (store_arguments w number xs vs)
    keep_arguments number xs [] = keep_done (ReadsWhatIsThere input) tt
    keep_arguments number [] (v ∷ vs) = keep_wrong (ReadsWhatIsThere input)
    keep_arguments number (x ∷ xs) (v ∷ vs) =
        keep_then {m = store w (w.kind x.node) x.type (home w.table number x.type) v}
        (keep_store (reads_invariant input) (w.kind x.node) (shape_at w.table x.type) (home w.table number x.type) v) (keep_arguments (suc number) xs vs)

    entered-reads : (depth f : ℕ) (xs : List Planned) (vs : List Value) (s : State) → ReadsWhatIsThere input s
        → ReadsWhatIsThere input (laws.left_by (enter_with w depth f xs vs s))
    entered-reads depth f xs vs s h =
        (keep_then ((reads_invariant input).entered w depth f xs) (keep_arguments (length s.memory.objects) xs vs)).by s h

    gives-with : {A : Type 0} (P : A → State → Type 0) (m : Outcome Ending State A) → laws.Gives m P → ReadsWhatIsThere input (laws.left_by m)
        → laws.Gives m (λ x r. P x r × ReadsWhatIsThere input r)
    gives-with P (Ended Wrong r) g h = g
    gives-with P (Ended (Exited n) r) g h = tt
    gives-with P (Ended (Stopped check at) r) g h = tt
    gives-with P (Ended Turns r) g h = tt
    gives-with P (Ended Wants r) g h = tt
    gives-with P (Done x r) g h = (g, h)

    -- the arguments of the parameters that have names
    named-given : (memory : Memory) (depth : ℕ) (ps : List runs.Parameter) (locals : List Planned) (vs : List Value)
        → AreArgumentsOf w p.sites memory depth (map (λ (q : runs.Parameter). q.type) ps) vs
        → kept.AreArgumentsOf w p.sites memory depth (filter_map (λ (q : runs.Parameter). planned q.type q.home) ps ++ locals) (named_arguments ps vs)
    named-given memory depth [] locals vs h = tt
    named-given memory depth (q ∷ ps) locals [] h = tt
    named-given memory depth (q ∷ ps) locals (v ∷ vs) h =
        by q.home (named-given memory depth ps locals vs (record { each = λ i t e. h.each (suc i) t e }))
      where
        first : IsArgumentOf w p.sites memory depth (shape_at w.table q.type) v
        first =
            let x = h.each 0 q.type refl in
            let it : v ≡ x.0 = (let e = x.1 in cc (e)) in
            subst (λ y. IsArgumentOf w p.sites memory depth (shape_at w.table q.type) y) (sym it) x.2

        by : (o : Option NodeId)
            → kept.AreArgumentsOf w p.sites memory depth (filter_map (λ (q : runs.Parameter). planned q.type q.home) ps ++ locals) (named_arguments ps vs)
            → kept.AreArgumentsOf w p.sites memory depth
            (cons_option (planned q.type o) (filter_map (λ (q : runs.Parameter). planned q.type q.home) ps) ++ locals) (if_named o v (named_arguments ps vs))
        by None rest = rest
        by (Some n) rest = (first, rest)

    types-of : (xs : List Parameter) → map (λ (q : runs.Parameter). q.type) (map (λ (x : Parameter). record { type = x.ty; home = x.home }) xs) ≡ map (λ (x : Parameter). x.ty) xs
    types-of [] = refl
    types-of (x ∷ xs) = ap (λ ts. x.ty ∷ ts) (types-of xs)

    length-mapped : {A B : Type 0} (f : A → B) (xs : List A) → length (map f xs) ≡ length xs
    length-mapped f [] = refl
    length-mapped f (x ∷ xs) = ap suc (length-mapped f xs)

    -- what is held stays so for a deeper call
    place-deeper : (memory : Memory) (depth : ℕ) (n : NodeId) (t : TypeId) (v : Value) → IsHeldAs w p.sites memory depth (PlaceOf n t) v
        → IsHeldAs w p.sites memory (suc depth) (PlaceOf n t) v
    place-deeper memory depth n t (Integer z) h = absurd h
    place-deeper memory depth n t (Address q) h = (
      record {
        held = record {
          value = h.0.held.value;
          reaches = reaches-more w shaped.formed (outlines_of memory) (lives_of memory) depth (suc depth) q (omega arith) h.0.held.reaches;
        };
        made = h.0.made;
      },
      let place = h.1 in let r = place.reaches in record {
        location = place.location;
        is = place.is;
        place = place.place;
        reaches = record { life = r.life; found = r.found; live = r.live; older = (let o = r.older in omega (arith, o)) };
      },
    )

    module _ (n : ℕ) (g : Function) (there : slice_get p.functions n ≡ Some g) (depth : ℕ) (call : Calls) (s : State)
        (statics : AreStaticsThere (context_of p) w s.memory depth) where
      abbrev around : Around
      around = record { setting = w; depth = suc depth; first = length s.memory.objects; call = call }

      entered-variable : (r : State) → HasEntered w p.sites depth (variables_of g) s.memory r.memory → (j : ℕ) (x : Planned)
          → slice_get (variables_of g) j ≡ Some x
          → (slice_get (outlines_of r.memory) (length s.memory.objects + j) ≡ Some (outline (new_variable w.table (suc depth) x)))
          × LivesAt (lives_of r.memory) (suc depth) (length s.memory.objects + j)
      entered-variable r entered j x e = (
        ap (λ xs. slice_get xs (length s.memory.objects + j)) entered.outlines
            ∙ ap (λ m. slice_get (outlines_of s.memory ++ map outline (map (new_variable w.table (suc depth)) (variables_of g))) (m + j))
            (sym (length-mapped outline s.memory.objects))
            ∙ get_back (outlines_of s.memory) (map outline (map (new_variable w.table (suc depth)) (variables_of g))) j
            ∙ get-mapped outline (map (new_variable w.table (suc depth)) (variables_of g)) j (new_variable w.table (suc depth) x)
            (get-mapped (new_variable w.table (suc depth)) (variables_of g) j x e),
        record {
          life = life (new_variable w.table (suc depth) x);
          found = ap (λ xs. slice_get xs (length s.memory.objects + j)) entered.lives
              ∙ ap (λ m. slice_get (lives_of s.memory ++ map life (map (new_variable w.table (suc depth)) (variables_of g))) (m + j))
              (sym (length-mapped life s.memory.objects))
              ∙ get_back (lives_of s.memory) (map life (map (new_variable w.table (suc depth)) (variables_of g))) j
              ∙ get-mapped life (map (new_variable w.table (suc depth)) (variables_of g)) j (new_variable w.table (suc depth) x)
              (get-mapped (new_variable w.table (suc depth)) (variables_of g) j x e);
          live = refl;
          older = omega arith;
        },
      )

      entered-facts : (r : State) → HasEntered w p.sites depth (variables_of g) s.memory r.memory
          → AreFacts (context_in p g) around no_types (record { state = r; temps = no_temps })
      entered-facts r entered = record {
        memory = entered.sound;
        asked = λ t x e. absurd (cc (e));
        held = λ t x e. absurd (cc (e));
        objects = objects;
      }
        where
          objects : (o : Object) (node : NodeId) (t : TypeId) → IsObject (context_in p g) o node t
              → IsHeldAs w p.sites r.memory (suc depth) (PlaceOf node t) (Address (pointer_to around o t))
          objects (object.Static k) node t h =
              place-deeper r.memory depth node t (Address (home w.table k.0 t))
              (later-as w p.sites depth s.memory r.memory entered.later (PlaceOf node t) (Address (home w.table k.0 t)) (statics k node t h))
          objects (object.Variable j) node t h =
              let x : Planned = record { type = h.0; node = node } in
              let is = variable n g there j.0 x h.1 in
              let v = entered-variable r entered j.0 x h.1 in
              home-named w shaped.formed r.memory p.sites (length s.memory.objects + j.0) (suc depth) (suc depth) x is.complete is.plain v.0 v.1 t
              (named-class h.0 t h.2)

      -- The body

      -- what the body gives, before the call is left
      record HasRun (result : TypeId) (old : Memory) (v : Value) (r : State) : Type 0 where
        sound : IsSoundAt w p.sites r.memory (suc depth)
        later : IsLater (suc depth) old.objects r.memory.objects
        value : IsReturned w p.sites r.memory (suc depth) (shape_at w.table result) v

      zero-returned : (memory : Memory) (sh : TypeShape) → IsSome (held_shape sh) ⊎ (sh ≡ shape.Void)
          → IsReturned w p.sites memory (suc depth) sh (zero_of_shape sh)
      zero-returned memory (shape.Integer b q) h = zero-fits (record { bytes = b; signed = q })
      zero-returned memory (shape.Pointer m u) h = (record { value = tt; reaches = tt }, tt, refl)
      zero-returned memory shape.Void h = tt
      zero-returned memory (shape.Array element count) h = absurd (⊎_elim (λ x. absurd (cc (x))) (λ x. absurd (cc (x))) h)
      zero-returned memory (shape.Function ps q) h = absurd (⊎_elim (λ x. absurd (cc (x))) (λ x. absurd (cc (x))) h)
      zero-returned memory (shape.Struct tag) h = absurd (⊎_elim (λ x. absurd (cc (x))) (λ x. absurd (cc (x))) h)
      zero-returned memory (shape.Union tag) h = absurd (⊎_elim (λ x. absurd (cc (x))) (λ x. absurd (cc (x))) h)

      module _ (calls : CallsKeepTheFacts (context_of p) w input (suc depth) call)
          (keeps : (f e : ℕ) (vs : List Value) → Keeps (ReadsWhatIsThere input) (call f e vs)) (r : State) (reads : ReadsWhatIsThere input r)
          (entered : HasEntered w p.sites depth (variables_of g) s.memory r.memory) where
        abbrev start : Local
        start = record { state = r; temps = no_temps }

        abbrev none_value : Value
        none_value = zero_of_function w (shape_at w.table g.ty)

        none-is : none_value ≡ zero_of_shape (shape_at w.table (type-of n g there).0)
        none-is = ap (λ sh. zero_of_function w sh) (type-of n g there).2

        ran : (x : Control Value) (d : Local) → Well input bytes (context_in p g) around no_types start x d
            → HasRun (type-of n g there).0 r.memory (result_of none_value x) d.state
        ran Goes d h = record {
          sound = h.0.facts.memory;
          later = h.0.later;
          value = subst (λ v. IsReturned w p.sites d.state.memory (suc depth) (shape_at w.table (type-of n g there).0) v) (sym none-is)
              (zero-returned d.state.memory (shape_at w.table (type-of n g there).0) (⊎_elim (λ a. inl a.1) (λ b. inr b.1) (type-of n g there).3));
        }
        ran (Leaves k) d h = absurd (let l = h.0.0 in omega (arith, l))
        ran (Gives v) d h = record {
          sound = h.0.memory;
          later = h.0.later;
          value =
              let it : h.0.type ≡ (type-of n g there).0 = (let e = h.0.result in let f = ap result_of_shape (type-of n g there).2 in cc (e, f)) in
              subst (λ t. IsReturned w p.sites d.state.memory (suc depth) (shape_at w.table t) v) it h.0.value;
        }

        body-runs : laws.Gives (body_of w g (suc depth) (length s.memory.objects) call none_value r) (HasRun (type-of n g there).0 r.memory)
        body-runs =
            gives-from (λ x t. HasRun (type-of n g there).0 r.memory (result_of none_value x) t) (HasRun (type-of n g there).0 r.memory)
            (without_temps (run g.body.0.items around start)) (λ x. done (result_of none_value x))
            (alone-given (λ x t. HasRun (type-of n g there).0 r.memory (result_of none_value x) t) (run g.body.0.items around start)
            (comes-more input bytes (Well input bytes (context_in p g) around no_types start)
            (λ x d. HasRun (type-of n g there).0 r.memory (result_of none_value x) d.state) (run g.body.0.items around start)
            (run-well input bytes around keeps g.body.0.items (context_in p g) no_types no_types start
            (all-got (λ (f : Function). CodeNumbersNone f.body.0.items) p.functions n g none.functions there) (function-solved n g there)
            (λ some. record { each = λ f d vs t found q sound st passed. calls.each f d vs t found q sound (λ k node u o. st k node u o) passed }) reads
            (function-shaped n g there).body.shaped (entered-facts r entered)) ran)) (λ x t h. h)

      -- The end

      result-left : (result : TypeId) (old new : Memory) → HasLeft w p.sites depth old new → (sh : TypeShape) (v : Value)
          → IsReturned w p.sites old (suc depth) sh v → IsResultOf w p.sites new depth sh v
      result-left result old new left (shape.Integer b q) (Integer z) h = h
      result-left result old new left (shape.Integer b q) (Address x) h = absurd h
      result-left result old new left (shape.Pointer m u) (Integer z) h = absurd h
      result-left result old new left (shape.Pointer m u) (Address x) h = (left.returned (w.kind m) u x h.0 h.2, h.1)
      result-left result old new left shape.Void v h = tt
      result-left result old new left (shape.Array element count) v h = absurd h
      result-left result old new left (shape.Function ps q) v h = absurd h
      result-left result old new left (shape.Struct tag) v h = absurd h
      result-left result old new left (shape.Union tag) v h = absurd h

    pub body-keeps : (n : ℕ) (g : Function) → slice_get p.functions n ≡ Some g → (depth : ℕ) (call : Calls)
        → CallsKeepTheFacts (context_of p) w input (suc depth) call → ((f e : ℕ) (vs : List Value) → Keeps (ReadsWhatIsThere input) (call f e vs))
        → (vs : List Value) (s : State) → ReadsWhatIsThere input s → IsSoundAt w p.sites s.memory depth → AreStaticsThere (context_of p) w s.memory depth
        → AreArgumentsIn w p.sites s.memory depth (shape_at w.table g.ty) vs
        → laws.Gives (call_body w call n (suc depth) (named_arguments (head_of g).parameters vs) (runs.defined (head_of g)) (body_of w g) s)
        (HasReturned w p.sites depth g.ty s.memory)
    body-keeps n g there depth call calls keeps vs s reads sound statics passed =
        gives-from (λ x r. HasEntered w p.sites depth (variables_of g) s.memory r.memory × ReadsWhatIsThere input r) (HasReturned w p.sites depth g.ty s.memory)
        (enter_with w (suc depth) n (variables_of g) (named_arguments (head_of g).parameters vs) s)
        (λ x. body_of w g (suc depth) (length s.memory.objects) call (zero_of_function w (shape_at w.table g.ty)) >>=
        (λ v. leave w (suc depth) (variables_of g) >> done v))
        (gives-with (λ x r. HasEntered w p.sites depth (variables_of g) s.memory r.memory)
        (enter_with w (suc depth) n (variables_of g) (named_arguments (head_of g).parameters vs) s)
        (gives-called w shaped.formed p.sites depth n (variables_of g) (named_arguments (head_of g).parameters vs) s (variable n g there) sound
        (named-given s.memory depth (head_of g).parameters (head_of g).locals vs
        (subst (λ ts. AreArgumentsOf w p.sites s.memory depth ts vs) (sym (types-of g.parameters))
        (subst (λ sh. AreArgumentsIn w p.sites s.memory depth sh vs) (type-of n g there).2 passed))))
        (entered-reads (suc depth) n (variables_of g) (named_arguments (head_of g).parameters vs) s reads))
        (λ x r e.
        gives-from (HasRun n g there depth call s statics (type-of n g there).0 r.memory) (HasReturned w p.sites depth g.ty s.memory)
        (body_of w g (suc depth) (length s.memory.objects) call (zero_of_function w (shape_at w.table g.ty)) r)
        (λ v. leave w (suc depth) (variables_of g) >> done v)
        (body-runs n g there depth call s statics calls keeps r e.1 e.0)
        (λ v q ran. gives-from (λ y t. HasLeft w p.sites depth q.memory t.memory) (HasReturned w p.sites depth g.ty s.memory)
        (leave w (suc depth) (variables_of g) q) (λ y. done v)
        (gives-left w shaped.formed p.sites depth (variables_of g) q ran.sound)
        (λ y t left. record {
          sound = left.sound;
          later = later-twice depth depth s.memory.objects q.memory.objects t.memory.objects (omega arith)
              (later-twice depth (suc depth) s.memory.objects r.memory.objects q.memory.objects (omega arith) e.0.later ran.later) left.later;
          value = subst (λ sh. IsResultIn w p.sites t.memory depth sh v) (sym (type-of n g there).2)
              (result-left n g there depth call s statics (type-of n g there).0 q.memory t.memory left (shape_at w.table (type-of n g there).0) v ran.value);
        })))

    -- Calls that are nested so deep

    -- what a call of a function that is there, or isn't, gives
    abbrev Nested : ℕ → ℕ → State → ℕ → List Value → TypeId → Memory → Option Callable → Type 0
    Nested n depth s f vs t old o =
        laws.Gives (given o (λ c. call_body w (call_within n w code) f (suc depth) (c.named vs) c.defined c.body) s) (HasReturned w p.sites depth t old)

    pub calls-keep : (n depth : ℕ) → CallsKeepTheFacts (context_of p) w input depth (call_within n w code)
    calls-keep zero depth = record { each = λ f d vs s found reads sound statics passed. tt }
    calls-keep (suc n) depth = record { each = λ f d vs s found reads sound statics passed. enters f d vs s found reads sound statics passed (calls-keep n (suc depth)) }
      where
        enters : (f : ℕ) (d : Defined) (vs : List Value) (s : State) → slice_get w.functions f ≡ Some d → ReadsWhatIsThere input s
            → IsSoundAt w p.sites s.memory depth → AreStaticsThere (context_of p) w s.memory depth
            → AreArgumentsIn w p.sites s.memory depth (shape_at w.table d.type) vs → CallsKeepTheFacts (context_of p) w input (suc depth) (call_within n w code)
            → laws.Gives (call_within (suc n) w code f (suc depth) vs s) (HasReturned w p.sites depth d.type s.memory)
        enters f d vs s found reads sound statics passed inner = by s.turns
          where
            by : (m : ℕ) → laws.Gives (from (turn_of m s) (λ x. given (slice_get code f) (λ c. call_body w (call_within n w code) f (suc depth) (c.named vs) c.defined c.body)))
                (HasReturned w p.sites depth d.type s.memory)
            by zero = tt
            by (suc m) =
                let g = mapped-from (λ g. runs.defined (head_of g)) p.functions f d found in
                let same : (g.0).ty ≡ d.type = ap (λ (z : Defined). z.type) g.2 in
                subst (λ t. Nested n depth (record s { turns = m }) f vs t s.memory (slice_get code f)) same
                (subst (Nested n depth (record s { turns = m }) f vs (g.0).ty s.memory) (sym (get-mapped (callable w) p.functions f g.0 g.1))
                (body-keeps f g.0 g.1 depth (call_within n w code) inner (read-kept n) vs (record s { turns = m })
                (record { same = reads.same; most = reads.most }) sound statics
                (subst (λ t. AreArgumentsIn w p.sites s.memory depth (shape_at w.table t) vs) (sym same) passed)))

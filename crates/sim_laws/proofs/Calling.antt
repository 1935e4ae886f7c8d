-- The law of calls: of functions that are known, and through SAFE pointers. The arguments are put into the row, the function is entered where C
-- enters it, and what it gives comes into the column.
use Rattle.std.proofs.Common.{◌≡◌, ◌≢◌, ℕ, zero, suc, ◌+◌, ◌<◌, ◌≤◌, ◌^◌, inl, inr, ⊎_elim, Bool, true, false, List, [], ◌∷◌, ◌++◌, length, slice_get, slice_index, sum_by, Option, Some, None, refl, ap, sym, subst, ◌∙◌, arith, nat_eq, nat_le, if◌then◌else◌}
use Rattle.std.specs.List.{Contains}
use Rattle.std.proofs.lemmas.Bool.Decides.{nat_tests}
use Rattle.std.proofs.lemmas.Option.{slice_get_within}
use Rattle.cc_base.specs.declared.fault.Check.TheVariants as check
use Rattle.cc_base.specs.declared.kind.Kind.{Kind}
use Rattle.cc_base.specs.declared.kind.Kind.TheVariants.{Safe, Wild}
use Rattle.cc_base.specs.declared.number.NodeId.{NodeId}
use Rattle.cc_base.specs.declared.number.TypeId.{TypeId}
use Rattle.cc_base.specs.declared.place.Place.{Place}
use Rattle.kind_sites.specs.declared.site.Site.TheVariants as site
use Rattle.c_types.specs.declared.shape.TypeShape.{TypeShape}
use Rattle.c_types.specs.declared.shape.TypeShape.TheVariants as shape
use Rattle.c_types.specs.Table.{shape_at, is_function, is_function_shape}
use Rattle.c_types.specs.Flows.{IsOfOneClass}
use Rattle.c_types.specs.Sound.{IsWellFormed}
use Rattle.integers.proofs.WordLaws.{word-below}
use Rattle.runs.specs.Outcome.{Outcome, Ended, Done, done, from, leaves, Matches, ◌>>◌}
use Rattle.runs.specs.Control.{Control, Goes, then_go}
use Rattle.flat_mem.specs.Bytes.{bytes_at, written}
use Rattle.src_mem.specs.Pointers.{Pointer, Null, Number, At, Function, Value, Integer, Address}
use Rattle.src_mem.specs.Memory.{Memory}
use Rattle.src_mem.specs.State as source
use Rattle.src_mem.specs.State.{Setting, Defined}
use Rattle.src_mem.specs.Checks as checks
use Rattle.src_mem.specs.Checks.{Condition, NotNull, HasRoom, Call, all_placed, conditions_of, has_room, holds}
use Rattle.src_mem.specs.Primitives.{called}
use Rattle.src_mem.specs.Operations.{node_of_shape, pointee_of_shape}
use Rattle.src_mem.specs.Values.{called_value}
use Rattle.src_mem.specs.Outlines.{outlines_of}
use Rattle.src_mem.specs.Facts.{IsFunctionOf, IsSafeAt, IsValueOf}
use Rattle.src_mem.specs.Runs.{defined}
use Rattle.src_mem.proofs.Outlines.{mapped-from}
use Rattle.facts_kept.specs.Kept.{AllHold}
use Rattle.cil_form.specs.declared.number.Temp.{Temp}
use Rattle.cil_form.specs.declared.instr.Call as code_call
use Rattle.cil_form.specs.declared.instr.Instr.TheVariants as instr
use Rattle.cil_form.specs.declared.program.Function as function
use Rattle.cil_form.specs.declared.program.Parameter.{Parameter}
use Rattle.cil_form.specs.State as code
use Rattle.cil_form.specs.State.{beside, with_temp}
use Rattle.cil_form.specs.Told.{IsAsked}
use Rattle.cil_form.specs.Typing.{HeldType, PointerTo}
use Rattle.cil_form.specs.Meaning as meaning
use Rattle.cil_form.specs.Meaning.{row_of}
use Rattle.cil_form.specs.Machine.{head_of}
use Rattle.cil_form.specs.Shape.{parameters_limit, result_of_shape}
use Rattle.cured_code.specs.declared.instr.Instr as flat_code
use Rattle.cured_code.specs.declared.instr.Instr.TheVariants as flat_instr
use Rattle.cured_code.specs.declared.parts.Function as cured
use Rattle.cured_code.specs.declared.parts.Parts.{Parts}
use Rattle.cured_code.specs.FlatState as flat
use Rattle.cured_code.specs.FlatState.{slot, slots_at, with_slots, turn_of}
use Rattle.cured_code.specs.Tables.{call_fits, function_of, of_sig, has_sig, params_in, params_of, sig_of}
use Rattle.cured_code.specs.FlatMachine.{Context, act, called_at, received, run, turn_in}
use Rattle.cured_code.proofs.RunLaws.{call-fits}
use Rattle.cured_code.proofs.SlotLaws.{slots-set}
use Rattle.cured_code.proofs.TableLaws.{function_at-address}
use Rattle.check_forms.specs.Pieces.{Line, Then}
use Rattle.check_forms.specs.Conditions as condition
use Rattle.check_forms.specs.Conditions.{IsNotZero, flat_holds}
use Rattle.check_forms.specs.Lines.{IsOther}
use Rattle.check_forms.specs.Rows.{Asked, asked, flat_conditions}
use Rattle.check_forms.specs.RowChecks.{AreChecked, AreChecks, first_false}
use Rattle.check_forms.proofs.RowLaws.{rows}
use Rattle.sim_relation.specs.Ground.{function_word, pointer_words, word_number}
use Rattle.sim_relation.specs.Points.{Exact, Knowledge, Sure, IsFunction, IsTrueOf, AreWords, StandsFor}
use Rattle.sim_checks.specs.Rows.{IsChecked}
use Rattle.sim_checks.proofs.Pointing.{null-compared}
use Rattle.sim_checks.proofs.Calling.{room-compared}
use Rattle.cure_rules.specs.Slots.{AreSlots, Owner, Column, Working, Argument, Nought, Kept, Word, work_of}
use Rattle.cure_rules.specs.Known as rules
use Rattle.cure_rules.specs.Known.{Points, Takes, held_by, held_shape, known_at, pointer_slots, words_by, words_in}
use Rattle.cure_rules.specs.Checks.{AreGot, call_of, numbers_of}
use Rattle.cure_rules.specs.Calling.{AreArguments, IsCuringCall}
use Rattle.cure_rules.specs.Code.{Blocks}
use Rattle.cure_rules.specs.Functions.{AreSignatures, bare, parameter_words, signature_by, words_at}
use Rattle.sim_laws.specs.Scenes.{Programs, Scene, Running, setting_of, world_of, around_of, context_of}
use Rattle.sim_laws.specs.Points.{Grows, Point, IsSpared, IsLasting, Passed, ground_of}
use Rattle.sim_laws.specs.Statements.{Lines, CodeOutcome, FlatOutcome, StatesEndAlike, IsPassed, Match, Follows, held_at, held_result}
use Rattle.sim_laws.specs.Calls.{AreArgumentsOf, CallsAlike, CallsFit, Returned, parameter_types, with_turn}
use Rattle.sim_laws.proofs.Points.{grows-same, grows-then, unwritten}
use Rattle.sim_laws.proofs.Calls.{AreCured}
use Rattle.sim_laws.proofs.Guards.{Got, got-number, lasting-other, ready}
use Rattle.sim_laws.proofs.Giving.{Gave, Changed, column-room, wrote-none}
use Rattle.sim_laws.proofs.Rows.{changed-written, comes-same, gives-pointer}
use Rattle.sim_laws.proofs.Sets.{few-words, gave-integer}
use Rattle.sim_laws.proofs.Names.{Names, pointer-asked}
use Rattle.sim_laws.proofs.Checks.{AreCompared, Guarded, StopsAlike, guard-gives, guarded, passed-point, stops-alike}
use Rattle.sim_laws.proofs.Accessing.{all-held}
use Rattle.sim_laws.proofs.Reaching.{Pointed, checked-words, pointed}
use Rattle.sim_laws.proofs.Storing.{as-address}
use Rattle.sim_laws.proofs.PassedWords.{arguments-long, passed-long, row-from, sum-mapped}
use Rattle.sim_laws.proofs.ArgumentRows.{Rowed, access-size, rows-argued}
use Rattle.sim_laws.proofs.Handing.{arguments-handed, result-handed}

-- What calls ask of a program: signatures that tell the classes of functions apart, cured functions, the types of which are those of their parameters,
-- and a stack that has room where C has.
pub record IsCallable (p : Programs) : Type 0 where
  pub formed : IsWellFormed p.whole.table
  pub signatures : AreSignatures p.whole.table p.whole.kind p.whole.signature p.parts.sigs
  pub cured : AreCured p
  pub count : length p.parts.functions ≡ suc (length (setting_of p).functions)
  pub types : (k : ℕ) (f : function.Function) → slice_get p.functions k ≡ Some f → (result : TypeId)
      × (shape_at p.whole.table f.ty ≡ shape.Function (parameter_types f) result) × (length (parameter_types f) ≤ parameters_limit)
  pub fits : CallsFit p

-- function number f of the program, of one class with a type
record IsCallee (p : Programs) (u : TypeId) (f : ℕ) : Type 0 where
  callee : function.Function
  found : slice_get p.functions f ≡ Some callee
  class : IsOfOneClass p.whole.table p.whole.kind callee.ty u
  stands : slice_get (setting_of p).functions f ≡ Some (defined (head_of callee))

callee-of : (p : Programs) (u : TypeId) (f : ℕ) → IsFunctionOf (setting_of p) u f → IsCallee p u f
callee-of p u f h = of (mapped-from (λ (x : function.Function). defined (head_of x)) p.functions f h.function h.found)
  where
    of : (x : function.Function) × (slice_get p.functions f ≡ Some x) × (defined (head_of x) ≡ h.function) → IsCallee p u f
    of (x, found, same) = record {
      callee = x;
      found = found;
      class = subst (λ (t : TypeId). IsOfOneClass p.whole.table p.whole.kind t u) (sym (ap (λ (d : Defined). d.type) same)) h.class;
      stands = h.found ∙ ap Some (sym same);
    }

-- How many words a function takes

params-by : (words : TypeId → ℕ) (parameters : List TypeId) (r : TypeId) → length parameters ≤ parameters_limit
    → (signature_by words (shape.Function parameters r)).params ≡ sum_by words parameters
params-by words parameters r few = by (nat_le (length parameters) parameters_limit) (let h : nat_le (length parameters) parameters_limit ≡ true = grind (arith, nat_tests, few) in h)
  where
    by : (q : Bool) → q ≡ true → (if q then record { params = sum_by words parameters; results = words r } else bare).params ≡ sum_by words parameters
    by true e = refl
    by false e = absurd (cc (e))

params-are : (p : Programs) → IsCallable p → (k : ℕ) (f : function.Function) → slice_get p.functions k ≡ Some f → params_of p.parts (suc k) ≡ parameter_words p.whole f.parameters
params-are p ask k f found =
    let at = ask.cured k f found in let t = ask.types k f found in
    ap (λ (o : Option cured.Function). params_in (sig_of p.parts.sigs o)) at.found ∙ ap (λ (n : ℕ). params_in (slice_get p.parts.sigs n)) at.is.sig
    ∙ ap params_in (ask.signatures.each f.ty (ap is_function_shape t.1)).1
    ∙ ap (λ (h : TypeShape). (signature_by (words_at p.whole.table p.whole.kind) h).params) t.1
    ∙ params-by (words_at p.whole.table p.whole.kind) (parameter_types f) t.0 t.2
    ∙ sum-mapped (λ (x : Parameter). x.ty) (words_at p.whole.table p.whole.kind) f.parameters

-- The flat machine's call

received-slots : (v : ℕ) (c d : flat.Local) (o : Outcome flat.Ending flat.State (List ℕ)) → d.slots ≡ c.slots → received v d o ≡ received v c o
received-slots v c d (Ended e s) same = ap (λ (xs : List ℕ). Ended e (record { state = s; slots = xs })) same
received-slots v c d (Done words s) same = ap (λ (xs : List ℕ). Done Goes (record { state = s; slots = written words xs v })) same

-- its turn is one of the state alone
turned-call : (ctx : Context) (f n a v : ℕ) (c : flat.Local) (turns : ℕ)
    → turn_of turns (λ d. received v d (ctx.enter f (slots_at n a d) d.state)) c ≡ received v c (with_turn turns (ctx.enter f (slots_at n a c)) c.state)
turned-call ctx f n a v c zero = refl
turned-call ctx f n a v c (suc m) =
    received-slots v c (record c { state = record c.state { turns = m } }) (ctx.enter f (slots_at n a c) (record c.state { turns = m })) refl

call-acts : (ctx : Context) (f a v : ℕ) (c : flat.Local) → ctx.function ≢ 0 → call_fits ctx.parts f c.state.memory ≡ true
    → act (flat_instr.Call f a v) ctx c ≡ received v c (with_turn c.state.turns (ctx.enter f (slots_at (params_of ctx.parts f) a c)) c.state)
call-acts ctx f a v c some fits = call-fits f a v ctx c fits ∙ by ctx.function some
  where
    by : (n : ℕ) → n ≢ 0 → turn_in n (λ d. received v d (ctx.enter f (slots_at (params_of ctx.parts f) a d) d.state)) c
        ≡ received v c (with_turn c.state.turns (ctx.enter f (slots_at (params_of ctx.parts f) a c)) c.state)
    by zero some = absurd (some refl)
    by (suc n) some = turned-call ctx f (params_of ctx.parts f) a v c c.state.turns

-- a function at its address, of a signature
sig-found : (parts : Parts) (g f : ℕ) (h : cured.Function) → slice_get parts.functions f ≡ Some h → h.sig ≡ g → of_sig parts g (Some f) ≡ Some f
sig-found parts g f h found is = ap (λ (q : Bool). if q then Some f else None) (ap (λ (o : Option cured.Function). has_sig o g) found
    ∙ (let e : nat_eq h.sig g ≡ true = grind (arith, nat_tests, is) in e))

address-calls : (p : Programs) → IsCallable p → (u : TypeId) (f : ℕ) → IsCallee p u f → is_function p.whole.table u ≡ true
    → function_of p.parts (p.whole.signature u) (function_word f) ≡ Some (suc f)
address-calls p ask u f c function =
    let at = ask.cured f c.callee c.found in let t = ask.types f c.callee c.found in
    ap (of_sig p.parts (p.whole.signature u)) (function_at-address (length p.parts.functions) (suc f) (slice_get_within p.parts.functions (suc f) at.cured at.found))
    ∙ sig-found p.parts (p.whole.signature u) (suc f) at.cured at.found
    (at.is.sig ∙ (ask.signatures.class c.callee.ty u (ap is_function_shape t.1) function).1 c.class)

-- What is given

spared-lasting : (into : Temp) (o : Owner) → IsSpared into o → IsLasting o
spared-lasting into (Column t j) h = tt
spared-lasting into (Working j) h = absurd h
spared-lasting into (Argument j) h = absurd h
spared-lasting into Nought h = tt
spared-lasting into (Kept j) h = tt

one-written : (slots : List ℕ) (v n : ℕ) → bytes_at 1 slots v ≡ n ∷ [] → slice_index slots v ≡ n
unfolding bytes_at
one-written slots v n e = cc (e)

none-written : (slots : List ℕ) (v : ℕ) → written [] slots v ≡ slots
unfolding written
none-written slots v = refl

-- a value is given from a point behind lines that write no temporary
gave-from : (w : Scene) (g : AreSlots w.slots) (b : Running) (known after : Knowledge) (into : Temp) (l k : code.Local) (c d : flat.Local)
    → Grows w.programs b.depth l.state k.state c.state d.state → Passed w g c.slots d.slots → (v : Value) (s : source.State) (z : Control (List ℕ)) (x : flat.Local)
    → Gave w g b known after into k d v s z x → Gave w g b known after into l c v s z x
gave-from w g b known after into l k c d grow passed v s z x y = record {
  goes = y.goes;
  there = y.there;
  grows = grows-then w.programs b.depth l.state k.state s c.state d.state x.state grow y.grows;
  wrote = record {
    others = λ a spared. y.wrote.others a spared ∙ passed.others a (spared-lasting into (g.owner a) spared);
    long = y.wrote.long ∙ passed.long;
  };
  fact = y.fact;
  fits = y.fits;
  leave = y.leave;
}

module _ (w : Scene) (names : Names w) (g : AreSlots w.slots) (b : Running) (known after : Knowledge) (into : Temp) (l : code.Local) (c : flat.Local)
    (p : Point w g b known l c) (t : TypeId) where
  abbrev at : ℕ
  at = w.slots.column into

  -- the words of a result, by its shape
  abbrev result-gave : TypeShape → Value → List ℕ → Type 0
  result-gave h v words = Gave w g b known after into l c v l.state Goes (record c { slots = written words c.slots (w.slots.column into) })

  result-held : (h : TypeShape) → shape_at w.programs.whole.table t ≡ h → (v : Value) (words : List ℕ)
      → IsPassed w.programs b.depth l.state c.state Exact (held_shape h) v words → length words ≡ words_by w.programs.whole.kind h
      → Takes (world_of w) into (words_by w.programs.whole.kind h) → rules.Leaves known into (known_at (w.slots.column into) (held_shape h)) after → result-gave h v words
  result-held (shape.Integer bytes signed) e (Integer z) words (held, (n, is, exact)) long takes leave =
      subst (λ (ws : List ℕ). result-gave (shape.Integer bytes signed) (Integer z) ws) (sym is)
      (gave-integer w g b known after into (record { bytes = bytes; signed = signed }) Exact z l c (written (n ∷ []) c.slots at) p takes (changed-written (n ∷ []) c.slots at)
      (access-size w.programs names.solved.well_formed t bytes signed e) held (here ∙ exact) (subst (λ (m : ℕ). m < 2 ^ 64) (sym (here ∙ exact)) (word-below z)) leave)
    where
      here : slice_index (written (n ∷ []) c.slots (w.slots.column into)) (w.slots.column into) ≡ n
      here = let r = column-room w g into 1 takes (omega arith) in let k = p.count in
          one-written (written (n ∷ []) c.slots at) at n (slots-set at (n ∷ []) c (omega (arith, r, k)))
  result-held (shape.Integer bytes signed) e (Address q) words (held, stand) long takes leave = absurd stand
  result-held (shape.Pointer n u) e (Integer z) words (held, stand) long takes leave = absurd stand
  result-held (shape.Pointer n u) e (Address q) words (held, stand) long takes leave =
      gives-pointer w g b known after into l c l.state (record c { slots = written words c.slots at }) n u q
      (comes-same w g b known into l c (written words c.slots at) n q p takes (subst AreWords stand.0 stand.1) (record {
        changed = subst (λ (k : ℕ). Changed k at c.slots (written words c.slots at)) long (changed-written words c.slots at);
        is = ap (λ (k : ℕ). bytes_at k (written words c.slots at) at) (sym long)
            ∙ slots-set at words c (let r = column-room w g into (word_number (w.programs.whole.kind n)) takes (few-words (w.programs.whole.kind n)) in let k = p.count in
            omega (arith, r, k, long)) ∙ stand.0;
      })) held (pointer-asked w names t n u e) leave
  result-held other e v words is long takes leave =
      subst (λ (ws : List ℕ). result-gave other v ws) (sym is) (subst (λ (xs : List ℕ). Gave w g b known after into l c v l.state Goes (record c { slots = xs })) (sym (none-written c.slots at)) (record {
        goes = refl;
        there = p.there;
        grows = grows-same w.programs b.depth l.state l.state c.state c.state refl refl;
        wrote = wrote-none w g into c.slots;
        fact = None;
        fits = λ y f. absurd (cc (f));
        leave = leave;
      }))

-- The call of a function that is there and has room

module _ (w : Scene) (names : Names w) (ask : IsCallable w.programs) (g : AreSlots w.slots) (b : Running) (alike : CallsAlike w.programs b) (known after : Knowledge)
    (call : code_call.Call) (l : code.Local) (u : TypeId) (parameters : List TypeId) (result : TypeId)
    (shaped : shape_at w.programs.whole.table u ≡ shape.Function parameters result) (count : call.count ≡ length parameters) (number : w.number ≢ 0)
    (takes : Takes (world_of w) call.into (words_in w.programs.whole result))
    (leave : rules.Leaves known call.into (known_at (w.slots.column call.into) (held_by (world_of w) result)) after) where
  abbrev S : Setting
  S = setting_of w.programs

  abbrev ctx : Context
  ctx = context_of w b

  abbrev column : ℕ
  column = w.slots.column call.into

  abbrev arguments : List Value
  arguments = row_of l.temps call.first call.count

  asked-pointer : (t : TypeId) (n : NodeId) (v : TypeId) → shape_at w.programs.whole.table t ≡ shape.Pointer n v
      → IsAsked w.programs.sites (PointerTo n v)
  asked-pointer t n v e = pointer-asked w names t n v e

  module _ (f : ℕ) (c : IsCallee w.programs u f) (d : flat.Local) (p : Point w g b known l d) where
    abbrev own_result : TypeId
    own_result = (ask.types f c.callee c.found).0

    own-shape : shape_at w.programs.whole.table c.callee.ty ≡ shape.Function (parameter_types c.callee) own_result
    own-shape = (ask.types f c.callee c.found).1

    -- what it gives is held as a result of the call's type
    given : (t : source.State) (e : flat.State) (v : Value) (words : List ℕ) → Returned w.programs b c.callee l.state d.state v t words e
        → IsPassed w.programs b.depth t e Exact (held_at w.programs.whole result) v words
    given t e v words r = result-handed w.programs names.solved.well_formed asked-pointer c.callee.ty u c.class (parameter_types c.callee) parameters own_result result own-shape shaped
        b.depth t e Exact v words
        (subst (λ (o : Option TypeId). IsPassed w.programs b.depth t e Exact (held_result w.programs.whole o) v words) (ap result_of_shape own-shape) r.result)

    came-back : (x : flat.Local) → Passed w g d.slots x.slots → (v : Value) (t : source.State) (words : List ℕ) (e : flat.State)
        → Returned w.programs b c.callee l.state d.state v t words e
        → Gave w g b known after call.into l d v t Goes (with_slots column words (record x { state = e }))
    came-back x passed v t words e r =
        gave-from w g b known after call.into l (record l { state = t }) d (record { state = e; slots = x.slots }) r.grows passed v t Goes (with_slots column words (record x { state = e }))
        (result-held w names g b known after call.into (record l { state = t }) (record { state = e; slots = x.slots })
        (unwritten w g b known known l t d (record { state = e; slots = x.slots }) p r.there r.grows passed (λ z y q. q)) result
        (shape_at w.programs.whole.table result) refl v words (given t e v words r) (passed-long w.programs b.depth t e Exact result v words (given t e v words r)) takes leave)

    took : (x : flat.Local) → Passed w g d.slots x.slots → (o : Outcome source.Ending source.State Value) (q : Outcome flat.Ending flat.State (List ℕ))
        → Matches (Returned w.programs b c.callee l.state d.state) (StatesEndAlike w.programs) o q
        → Matches (Gave w g b known after call.into l d) (λ e s h k. StatesEndAlike w.programs e s h k.state) o
        (from (received column x q) (λ z. then_go z (run [] ctx)))
    took x passed (Ended e s) (Ended h k) m = m
    took x passed (Ended e s) (Done ws k) m = absurd m
    took x passed (Done v s) (Ended h k) m = absurd m
    took x passed (Done v s) (Done ws k) m = came-back x passed v s ws k m

    -- the arguments are put into the row, and the call is taken
    enters-function : (lines : Lines) (last : flat_code.Instr) → has_room S l.state.memory (suc b.depth) (defined (head_of c.callee)) ≡ true
        → AreArguments (world_of w) known call.first parameters 0 lines
        → ((e : flat.Local) → Passed w g d.slots e.slots → act last ctx e ≡ act (flat_instr.Call (suc f) w.slots.row column) ctx e)
        → Matches (Gave w g b known after call.into l d) (λ e s h k. StatesEndAlike w.programs e s h k.state) (b.call f (suc b.depth) arguments l.state) (run (lines ++ last ∷ []) ctx d)
    enters-function lines last room put same =
        subst (λ (o : FlatOutcome). Goal o) (sym (r.runs (last ∷ []) ∙ ap (λ (o : FlatOutcome). from o (λ z. then_go z (run [] ctx))) acts))
        (took r.after r.passed (b.call f (suc b.depth) arguments l.state) (with_turn d.state.turns (b.enter (suc f) r.words) d.state)
        (alike f c.callee arguments r.words l.state d.state c.found p.outer p.there are room))
      where
        Goal : FlatOutcome → Type 0
        Goal o = Matches (Gave w g b known after call.into l d) (λ e s h k. StatesEndAlike w.programs e s h k.state) (b.call f (suc b.depth) (row_of l.temps call.first call.count) l.state) o

        r : Rowed w g b l d parameters call.first 0 lines
        r = rows-argued w names.solved.well_formed g b known l parameters call.first 0 lines d p put

        are : AreArgumentsOf w.programs b.depth l.state d.state (parameter_types c.callee) (row_of l.temps call.first call.count) r.words
        are = arguments-handed w.programs names.solved.well_formed asked-pointer c.callee.ty u c.class (parameter_types c.callee) parameters own_result result own-shape shaped
            b.depth l.state d.state (row_of l.temps call.first call.count) r.words
            (subst (λ (k : ℕ). AreArgumentsOf w.programs b.depth l.state d.state parameters (row_of l.temps call.first k) r.words) (sym count) r.are)

        taken : slots_at (params_of w.programs.parts (suc f)) w.slots.row r.after ≡ r.words
        taken = ap (λ (k : ℕ). slots_at k w.slots.row r.after) (params-are w.programs ask f c.callee c.found
            ∙ sym (arguments-long w.programs b.depth l.state d.state c.callee.parameters (row_of l.temps call.first call.count) r.words are))
            ∙ (let none : w.slots.row ≡ w.slots.row + 0 = omega arith in ap (λ (k : ℕ). slots_at (length r.words) k r.after) none)
            ∙ row-from r.words r.after.slots (w.slots.row + 0) r.stand

        fits : call_fits w.programs.parts (suc f) r.after.state.memory ≡ true
        fits = ap (λ (k : flat.State). call_fits w.programs.parts (suc f) k.memory) r.state ∙ ask.fits b f c.callee l.state d.state c.found p.there ∙ room

        acts : act last ctx r.after ≡ received column r.after (with_turn d.state.turns (b.enter (suc f) r.words) d.state)
        acts = same r.after r.passed ∙ call-acts ctx (suc f) w.slots.row column r.after number fits
            ∙ ap (λ (ws : List ℕ). received column r.after (with_turn r.after.state.turns (b.enter (suc f) ws) r.after.state)) taken
            ∙ ap (λ (k : flat.State). received column r.after (with_turn k.turns (b.enter (suc f) r.words) k)) r.state

-- What is called is a function

record IsCalled (w : Setting) (u : TypeId) (q : Pointer) : Type 0 where
  number : ℕ
  is : q ≡ Function number
  function : IsFunctionOf w u number

called-safe : (w : Setting) (memory : Memory) (u : TypeId) (q : Pointer) → is_function w.table u ≡ true → IsValueOf w (outlines_of memory) Safe u q
    → holds w memory (NotNull q) ≡ true → IsCalled w u q
called-safe w memory u Null type value h = absurd (cc (h))
called-safe w memory u (Number n) type value h = absurd value
called-safe w memory u (At l) type value h = absurd (no-object value)
  where
    no-object : IsSafeAt w (outlines_of memory) u l → ⊥
    no-object v = absurd (let d = v.data_type in cc (type, d))
called-safe w memory u (Function f) type value h = record { number = f; is = refl; function = value }

-- a pointer to functions is SAFE or WILD
safe-function : (w : Scene) (names : Names w) (t : TypeId) (n : NodeId) (u : TypeId) → shape_at w.programs.whole.table t ≡ shape.Pointer n u
    → is_function w.programs.whole.table u ≡ true → w.programs.whole.kind n ≢ Wild → w.programs.whole.kind n ≡ Safe
safe-function w names t n u pointer type plain =
    ⊎_elim (λ e. e) (λ e. absurd (plain e)) ((names.solved.solution.each (site.Pointee n u) (pointer-asked w names t n u pointer)).function type)

-- C's call through a pointer
abbrev called-by : Running → Pointer → List Value → Outcome source.Ending source.State (Unit {0}) → Outcome source.Ending source.State Value
called-by b q arguments y = from y (λ u. called q (λ f. b.call f (suc b.depth) arguments))

source-called : (w : Scene) (b : Running) (at : Place) (t : TypeId) (n : NodeId) (u : TypeId) (q : Pointer) (arguments : List Value) (s : source.State)
    → shape_at w.programs.whole.table t ≡ shape.Pointer n u → w.programs.whole.kind n ≡ Safe
    → called_value (setting_of w.programs) b.call b.depth at t (Address q) arguments s
    ≡ called-by b q arguments (all_placed (setting_of w.programs) (λ c. at) (NotNull q ∷ HasRoom (suc b.depth) q ∷ []) s)
source-called w b at t n u q arguments s pointer safe =
    ap (λ (h : TypeShape). by (pointee_of_shape h) (w.programs.whole.kind (node_of_shape h))) pointer ∙ ap (by u) safe
  where
    by : TypeId → Kind → Outcome source.Ending source.State Value
    by v k = called-by b q arguments (all_placed (setting_of w.programs) (λ c. at) (conditions_of (Call v (suc b.depth)) k q) s)

-- where the conditions held
room-held : (w : Setting) (memory : Memory) (depth f : ℕ) (d : Defined) → slice_get w.functions f ≡ Some d → holds w memory (HasRoom depth (Function f)) ≡ true
    → has_room w memory depth d ≡ true
room-held w memory depth f d found h = sym (ap (λ (o : Option Defined). checks.function_passes_or_none o (has_room w memory depth)) found) ∙ h

-- what is sure of a known pointer
known-sure : (w : Scene) (g : AreSlots w.slots) (b : Running) (known : Knowledge) (l : code.Local) (c : flat.Local) → Point w g b known l c → (v : Temp) (n : NodeId) (u : TypeId)
    (a : ℕ) (sure : List Sure) → Points known v n u a sure → (q : Pointer) → l.temps v ≡ Address q → (y : Sure) → Contains sure y → IsTrueOf y q
known-sure w g b known l c p v n u a sure (x, fact, is, place, listed) q value y holds =
    of (subst (λ (z : Value). StandsFor (ground_of w.programs l.state c.state) c.slots x (PointerTo n u) z) value
    (subst (λ (h : HeldType). StandsFor (ground_of w.programs l.state c.state) c.slots x h (l.temps v)) is (p.stands v x fact)))
  where
    of : StandsFor (ground_of w.programs l.state c.state) c.slots x (PointerTo n u) (Address q) → IsTrueOf y q
    of h = h.sure y (subst (λ (ys : List Sure). Contains ys y) (sym listed) holds)

-- where C checks a call, what it hands over, and what it does with what is given
abbrev place-of : code_call.Call → Condition → Place
place-of call q = call.place

abbrev arguments-of : code_call.Call → code.Local → List Value
arguments-of call l = row_of l.temps call.first call.count

abbrev call-gave : Temp → code.Local → Outcome source.Ending source.State Value → CodeOutcome
call-gave into l o = from (beside l.temps o) (λ v. leaves (λ (k : code.Local). record k { temps = with_temp into v k.temps }) >> done Goes)

pub call-follows : (w : Scene) (names : Names w) (ask : IsCallable w.programs) (g : AreSlots w.slots) (b : Running) → CallsAlike w.programs b → (call : code_call.Call)
    (known after : Knowledge) (blocks : Blocks) (lines : Lines)
    → ((n : NodeId) (u : TypeId) → shape_at w.programs.whole.table call.ty ≡ shape.Pointer n u → w.programs.whole.kind n ≢ Wild)
    → IsCuringCall call (world_of w) known after lines → Follows w g b blocks known after (meaning.act (instr.Call call) (around_of w b)) lines
unfolding Then Line
call-follows w names ask g b alike call known after blocks lines plain
    (n, u, parameters, result, a, sure, pointer, shaped, count, number, points, takes, inl (seat, (x, y, (gx, gy, got, checks_are, x_is), (put, last, args, last_is, y_is), is)), leave) l c p =
    subst (λ (js : Lines). Match w g b after blocks (meaning.act (instr.Call call) (around_of w b) l) (run js (context_of w b) c)) (sym is)
    (subst (λ (v : Value). Match w g b after blocks (code.gives_to call.into (called_value S b.call b.depth call.place call.ty v (arguments-of call l)) l) (run (x ++ y) (context_of w b) c)) (sym m.value)
    (subst (λ (o : Outcome source.Ending source.State Value). Match w g b after blocks (call-gave call.into l o) (run (x ++ y) (context_of w b) c))
    (sym (source-called w b call.place call.ty n u m.pointer (arguments-of call l) l.state pointer safe))
    (subst (λ (o : FlatOutcome). Match w g b after blocks (call-gave call.into l (called-by b m.pointer (arguments-of call l) (all_placed S (place-of call) conditions l.state))) o) (sym (z.runs y))
    (guard-gives w g b known after blocks call.into l z.after z.point stop (all_placed S (place-of call) conditions l.state) same (called-by b m.pointer (arguments-of call l)) (λ e s. refl) y goes))))
  where
    S : Setting
    S = setting_of w.programs

    type : is_function w.programs.whole.table u ≡ true
    type = ap is_function_shape shaped

    safe : w.programs.whole.kind n ≡ Safe
    safe = safe-function w names call.ty n u pointer type (plain n u pointer)

    m : Pointed w g b l c call.callee n u a
    m = pointed w g b known l c p call.callee n u a sure (as-address known call.callee n u a sure points)

    conditions : List Condition
    conditions = NotNull m.pointer ∷ HasRoom (suc b.depth) m.pointer ∷ []

    asks : List Asked
    asks = asked check.Null call.place (IsNotZero a) ∷ asked check.Depth call.place (condition.HasRoom a) ∷ []

    value : IsValueOf S (outlines_of l.state.memory) Safe u m.pointer
    value = subst (λ (k : Kind). IsValueOf S (outlines_of l.state.memory) k u m.pointer) safe m.held.held.value

    other : IsOther (work_of w.slots) a
    other = lasting-other w g a (subst (λ (j : ℕ). IsLasting (g.owner j)) (let none : a + 0 ≡ a = omega arith in none)
        (m.lasting 0 (subst (λ (k : Kind). 0 < word_number k) (sym safe) (omega arith))))

    guard : Then (AreGot (world_of w) []) (AreChecks (work_of w.slots) asks) x
    guard = (
      gx,
      gy,
      subst (λ (k : Kind). AreGot (world_of w) (numbers_of (call_of (world_of w) seat u (pointer_slots a)) k) gx) safe got,
      subst (λ (k : Kind). AreChecks (work_of w.slots) (flat_conditions (call_of (world_of w) seat u (pointer_slots a)) k call.place) gy) safe checks_are,
      x_is,
    )

    z : Guarded w g b known l [] asks x c
    z = guarded w g b known l [] asks x c p tt guard (λ d passed there. record { apart = (other, (other, tt)); held = (tt, (tt, tt)); safe = (tt, λ q. (tt, λ r. tt)) })

    stop : Option Asked
    stop = first_false w.programs.parts c.state.memory asks (slot z.middle)

    first-is : slot z.middle a ≡ slot c a
    first-is = z.passed.others a (subst (λ (j : ℕ). IsLasting (g.owner j)) (let none : a + 0 ≡ a = omega arith in none)
        (m.lasting 0 (subst (λ (k : Kind). 0 < word_number k) (sym safe) (omega arith))))

    words-are : (f : ℕ) → m.pointer ≡ Function f → slot c a ≡ function_word f
    words-are f e = one-written c.slots a (function_word f) (subst (λ (k : Kind). bytes_at (word_number k) c.slots a ≡ pointer_words (ground_of w.programs l.state c.state) k m.pointer) safe m.words
        ∙ ap (pointer_words (ground_of w.programs l.state c.state) Safe) e)

    compared : AreCompared w.programs.parts c.state.memory (slot z.middle) S l.state.memory (place-of call) asks conditions
    compared = (
      refl,
      refl,
      null-compared S w.programs.whole.node l.state c.state w.programs.parts b.depth Safe u m.pointer (slot z.middle) (pointer_slots a) (inl refl)
          (subst (λ (k : Kind). IsChecked S w.programs.whole.node l.state c.state b.depth k u m.pointer (slot z.middle) (pointer_slots a)) safe
          (checked-words w g b known l c z.middle p z.passed call.callee n u a m)),
      λ h. (refl, refl, room-alike (called-safe S l.state.memory u m.pointer type value h), λ r. tt),
    )
      where
        room-alike : IsCalled S u m.pointer
            → flat_holds w.programs.parts c.state.memory (condition.HasRoom a) (slot z.middle) ≡ holds S l.state.memory (HasRoom (suc b.depth) m.pointer)
        room-alike k =
            let e = callee-of w.programs u k.number k.function in
            room-compared S l.state c.state.memory w.programs.parts (suc b.depth) k.number a (defined (head_of e.callee)) (slot z.middle) e.stands ask.count
            (first-is ∙ words-are k.number k.is) (ask.fits b k.number e.callee l.state c.state e.found p.there)
            ∙ ap (λ (q : Pointer). holds S l.state.memory (HasRoom (suc b.depth) q)) (sym k.is)

    same : StopsAlike stop (all_placed S (place-of call) conditions l.state) l.state
    same = stops-alike w.programs.parts c.state.memory (slot z.middle) S (place-of call) l.state asks conditions compared

    Goal : Outcome source.Ending source.State Value → Type 0
    Goal o = Matches (Gave w g b known after call.into l z.after) (λ e s h k. StatesEndAlike w.programs e s h k.state) o (run y (context_of w b) z.after)

    goes : stop ≡ None → Goal (called-by b m.pointer (arguments-of call l) (Done tt l.state))
    goes none = of (all-held S (place-of call) conditions l.state (subst (λ (o : Option Asked). StopsAlike o (all_placed S (place-of call) conditions l.state) l.state) none same))
      where
        of : AllHold S l.state.memory conditions → Goal (called-by b m.pointer (arguments-of call l) (Done tt l.state))
        of held = with_function (called-safe S l.state.memory u m.pointer type value held.0)
          where
            with_function : IsCalled S u m.pointer → Goal (called-by b m.pointer (arguments-of call l) (Done tt l.state))
            with_function k =
                subst (λ (q : Pointer). Goal (called-by b q (arguments-of call l) (Done tt l.state))) (sym k.is)
                (subst (λ (js : Lines). Matches (Gave w g b known after call.into l z.after) (λ e s h i. StatesEndAlike w.programs e s h i.state)
                (b.call k.number (suc b.depth) (arguments-of call l) l.state) (run js (context_of w b) z.after)) (sym (y_is ∙ ap (λ (js : Lines). put ++ js) last_is))
                (enters-function w names ask g b alike known after call l u parameters result shaped count number takes leave k.number e z.after z.point put
                (flat_instr.Icall (w.programs.whole.signature u) a w.slots.row (w.slots.column call.into))
                (room-held S l.state.memory (suc b.depth) k.number (defined (head_of e.callee)) e.stands
                (ap (λ (q : Pointer). holds S l.state.memory (HasRoom (suc b.depth) q)) (sym k.is) ∙ held.1.0)) args
                (λ i passed. ap (λ (o : Option ℕ). called_at (context_of w b) o w.slots.row (w.slots.column call.into) i)
                (ap (function_of w.programs.parts (w.programs.whole.signature u)) (address i passed) ∙ address-calls w.programs ask u k.number e type))))
              where
                e : IsCallee w.programs u k.number
                e = callee-of w.programs u k.number k.function

                lasts : IsLasting (g.owner a)
                lasts = subst (λ (j : ℕ). IsLasting (g.owner j)) (let none : a + 0 ≡ a = omega arith in none)
                    (m.lasting 0 (subst (λ (k : Kind). 0 < word_number k) (sym safe) (omega arith)))

                address : (i : flat.Local) → Passed w g z.after.slots i.slots → slot i a ≡ function_word k.number
                address i passed = passed.others a lasts ∙ z.others a (lasting-other w g a lasts) ∙ first-is ∙ words-are k.number k.is
call-follows w names ask g b alike call known after blocks lines plain (
  n,
  u,
  parameters,
  result,
  a,
  sure,
  pointer,
  shaped,
  count,
  number,
  points,
  takes,
  inr (f, seat, other, listed, few, (x, others, gets, (y, rest, (y1, none, test, empty, y_is), (put, last, args, last_is, rest_is), others_is), is)),
  leave,
) l c p =
    subst (λ (js : Lines). Match w g b after blocks (meaning.act (instr.Call call) (around_of w b) l) (run js (context_of w b) c)) (sym (is ∙ ap (λ (js : Lines). x ++ js) others_is))
    (subst (λ (v : Value). Match w g b after blocks (code.gives_to call.into (called_value S b.call b.depth call.place call.ty v (arguments-of call l)) l) (run (x ++ (y ++ rest)) (context_of w b) c))
    (sym (m.value ∙ ap (λ (q : Pointer). Address q) function))
    (subst (λ (o : Outcome source.Ending source.State Value). Match w g b after blocks (call-gave call.into l o) (run (x ++ (y ++ rest)) (context_of w b) c))
    (sym (source-called w b call.place call.ty n u (Function f) (arguments-of call l) l.state pointer safe))
    (subst (λ (o : FlatOutcome). Match w g b after blocks (call-gave call.into l (called-by b (Function f) (arguments-of call l) (all_placed S (place-of call) conditions l.state))) o)
    (sym (z.runs (y ++ rest) ∙ k.runs rest))
    (guard-gives w g b known after blocks call.into l k.after p2 stop (all_placed S (place-of call) conditions l.state) same (called-by b (Function f) (arguments-of call l)) (λ e s. refl) rest goes))))
  where
    S : Setting
    S = setting_of w.programs

    conditions : List Condition
    conditions = HasRoom (suc b.depth) (Function f) ∷ []

    asks : List Asked
    asks = asked check.Depth call.place (condition.HasRoom (seat Word)) ∷ []

    type : is_function w.programs.whole.table u ≡ true
    type = ap is_function_shape shaped

    safe : w.programs.whole.kind n ≡ Safe
    safe = safe-function w names call.ty n u pointer type other

    m : Pointed w g b l c call.callee n u a
    m = pointed w g b known l c p call.callee n u a sure (as-address known call.callee n u a sure points)

    function : m.pointer ≡ Function f
    function = known-sure w g b known l c p call.callee n u a sure points m.pointer m.value (IsFunction f) listed

    e : IsCallee w.programs u f
    e = callee-of w.programs u f (subst (λ (i : Kind). IsValueOf S (outlines_of l.state.memory) i u (Function f)) safe
        (subst (λ (q : Pointer). IsValueOf S (outlines_of l.state.memory) (w.programs.whole.kind n) u q) function m.held.held.value))

    z : Got w g (context_of w b) x c (seat Word) (function_word f)
    z = got-number w g b known l c p Word (omega arith) (function_word f) (seat Word) x gets

    p1 : Point w g b known l z.after
    p1 = passed-point w g b known l c z.after p z.state z.passed

    k : AreChecked (work_of w.slots) (asked check.Depth call.place (condition.HasRoom (seat Word)) ∷ []) y (context_of w b) z.after
    k = rows (work_of w.slots) asks y (context_of w b) z.after (ready w g c z.after p.count p.nought z.passed) (z.other, tt) (tt, tt) (tt, λ q. tt)
        (y1, none, test, empty, y_is)

    p2 : Point w g b known l k.after
    p2 = passed-point w g b known l z.after k.after p1 k.state (record { others = λ i h. k.slots i (lasting-other w g i h); long = k.count })

    stop : Option Asked
    stop = first_false w.programs.parts z.after.state.memory asks (slot z.after)

    same : StopsAlike stop (all_placed S (place-of call) conditions l.state) l.state
    same = stops-alike w.programs.parts z.after.state.memory (slot z.after) S (place-of call) l.state asks conditions (
      refl,
      refl,
      room-compared S l.state z.after.state.memory w.programs.parts (suc b.depth) f (seat Word) (defined (head_of e.callee)) (slot z.after) e.stands ask.count z.is
          (ask.fits b f e.callee l.state z.after.state e.found p1.there),
      λ h. tt,
    )

    goes : stop ≡ None → Matches (Gave w g b known after call.into l k.after) (λ e s h i. StatesEndAlike w.programs e s h i.state)
        (called-by b (Function f) (arguments-of call l) (Done tt l.state)) (run rest (context_of w b) k.after)
    goes stopped =
        subst (λ (js : Lines). Matches (Gave w g b known after call.into l k.after) (λ e s h i. StatesEndAlike w.programs e s h i.state)
        (b.call f (suc b.depth) (arguments-of call l) l.state) (run js (context_of w b) k.after)) (sym (rest_is ∙ ap (λ (js : Lines). put ++ js) last_is))
        (enters-function w names ask g b alike known after call l u parameters result shaped count number takes leave f e k.after p2 put
        (flat_instr.Call (suc f) w.slots.row (w.slots.column call.into))
        (room-held S l.state.memory (suc b.depth) f (defined (head_of e.callee)) e.stands
        (all-held S (place-of call) conditions l.state (subst (λ (o : Option Asked). StopsAlike o (all_placed S (place-of call) conditions l.state) l.state) stopped same)).0) args
        (λ i passed. refl))

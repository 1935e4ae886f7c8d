-- Clearing of an object without tags that is named.
use Rattle.std.proofs.Common.{◌≡◌, ◌≢◌, inl, ℕ, ◌≤◌, pos, Bool, true, false, List, [], ◌∷◌, length, slice_get, Option, Some, refl, ap, sym, subst, ◌∙◌, arith}
use Rattle.cc_base.specs.declared.kind.Kind.{Kind}
use Rattle.cc_base.specs.declared.kind.Kind.TheVariants.{Safe, Seq, Rtti, Wild}
use Rattle.cc_base.specs.declared.number.TypeId.{TypeId}
use Rattle.c_types.specs.Table.{entry_at, is_complete}
use Rattle.c_types.specs.Layouts.{size_of}
use Rattle.c_types.specs.Cells.{Cell}
use Rattle.c_types.specs.Equality.{cells_of}
use Rattle.c_types.specs.Widths.{width_of, cured_size}
use Rattle.runs.specs.Outcome.{Outcome, Done, done, from}
use Rattle.runs.specs.Control.{Goes, then_go}
use Rattle.src_mem.specs.Pointers.{Location, At}
use Rattle.src_mem.specs.Memory.{Planned}
use Rattle.src_mem.specs.State as source
use Rattle.src_mem.specs.State.{Setting}
use Rattle.src_mem.specs.Primitives.{clear}
use Rattle.src_mem.specs.Outlines.{Outline, outline, outlines_of, lives_of, LivesAt}
use Rattle.src_mem.specs.Facts.{IsTypedPlace, IsPlaceAt, IsPlaceIn}
use Rattle.src_mem.specs.Laws.{Gives}
use Rattle.src_mem.proofs.Outlines.{HasOutline, get-mapped, has-outline}
use Rattle.facts_kept.specs.Kept.{IsKept}
use Rattle.facts_kept.proofs.Clearing.{gives-cleared}
use Rattle.cil_form.specs.declared.number.Object.{Object}
use Rattle.cil_form.specs.declared.number.Object.TheVariants as object
use Rattle.cil_form.specs.declared.instr.Access.TheVariants as access
use Rattle.cil_form.specs.declared.instr.Instr.TheVariants as instr
use Rattle.cil_form.specs.State.{beside}
use Rattle.cil_form.specs.Typing.{IsObject, no_types}
use Rattle.cil_form.specs.Meaning as meaning
use Rattle.cil_form.specs.Meaning.{number_of}
use Rattle.cured_code.specs.declared.instr.Instr.TheVariants as flat_instr
use Rattle.cured_code.specs.FlatState as flat
use Rattle.cured_code.specs.FlatState.{slot}
use Rattle.cured_code.specs.FlatMachine.{act, run}
use Rattle.check_forms.specs.Pieces.{Line, Then}
use Rattle.sim_relation.specs.Ground.{address, cells_in}
use Rattle.sim_relation.specs.Points.{Knowledge, object_number}
use Rattle.sim_memory.specs.Found.{GoOnAlike}
use Rattle.sim_memory.proofs.Clearing.{objects-cleared}
use Rattle.cure_rules.specs.Slots.{AreSlots, Address}
use Rattle.cure_rules.specs.Known as rules
use Rattle.cure_rules.specs.Accesses.{ClearedBy, IsCuringAccess, plan_of}
use Rattle.cure_rules.specs.Code.{Blocks}
use Rattle.sim_laws.specs.Scenes.{Scene, Running, setting_of, world_of, around_of, context_of}
use Rattle.sim_laws.specs.Points.{Point, Passed, ground_of, planned_at}
use Rattle.sim_laws.specs.Statements.{Lines, CodeOutcome, FlatOutcome, Match, Follows}
use Rattle.sim_laws.proofs.Points.{unwritten}
use Rattle.sim_laws.proofs.Guards.{Got, passed-none}
use Rattle.sim_laws.proofs.Addresses.{same-number}
use Rattle.sim_laws.proofs.Constants.{named-object}
use Rattle.sim_laws.proofs.Names.{Names, context_in, same-plan}
use Rattle.sim_laws.proofs.Checks.{passed-point}
use Rattle.sim_laws.proofs.Accessing.{facts-kept}
use Rattle.sim_laws.proofs.Parts.{got-start}
use Rattle.sim_laws.proofs.Shrinking.{unsized}
use Rattle.sim_laws.proofs.Stays.{grows-kept, there-kept}

-- what a place holds has the size that the curer has of it
size-held : (w : Scene) (names : Names w) (t : TypeId) → length (cells_of w.programs.whole.table t) ≤ size_of w.programs.whole.table t
    → rules.cured_size w.programs.whole t ≡ cured_size w.programs.whole.table w.programs.whole.kind t
size-held w names t room = by (is_complete (entry_at w.programs.whole.table t)) refl
  where
    by : (q : Bool) → is_complete (entry_at w.programs.whole.table t) ≡ q → rules.cured_size w.programs.whole t ≡ cured_size w.programs.whole.table w.programs.whole.kind t
    by true e = names.sizes.size t e
    by false e = names.sizes.none t e ∙ sym (nothing (cells_of w.programs.whole.table t)
        (let z = unsized (setting_of w.programs) names.solved.well_formed t e in omega (arith, room, z)))
      where
        nothing : (cs : List Cell) → length cs ≡ 0 → width_of w.programs.whole.kind cs ≡ 0
        nothing [] h = refl
        nothing (x ∷ cs) h = absurd (omega (arith, h))

-- the curer names the objects that code does
plan-alike : (w : Scene) (o : Object) → plan_of (world_of w) o ≡ planned_at w.programs.whole.statics w.variables o
plan-alike w (object.Static n) = refl
plan-alike w (object.Variable n) = refl

pub clear-follows : (w : Scene) (names : Names w) (g : AreSlots w.slots) (b : Running) (o : Object) (known after : Knowledge) (blocks : Blocks) (lines : Lines)
    → ((x : Planned) → plan_of (world_of w) o ≡ Some x → w.programs.whole.kind x.node ≢ Wild) → IsCuringAccess (access.Clear o) (world_of w) known after lines
    → Follows w g b blocks known after (meaning.act (instr.Access (access.Clear o)) (around_of w b)) lines
unfolding Line Then
clear-follows w names g b o known after blocks lines others (x, a, plan, (first, rest, gets, clears, is), less) l c p =
    subst (λ (q : FlatOutcome). Match w g b after blocks (changed (clear (number_of (around_of w b) o) l.state)) q) (sym flat_goes)
    (subst (λ (z : Outcome source.Ending source.State (Unit {0})). Match w g b after blocks (changed z) (Done Goes cleared.after)) (sym cleared.source_goes)
    (unwritten w g b known after l cleared.next z.after cleared.after q
    (there-kept w.programs l.state cleared.next z.after.state cleared.after.state cleared.stays b p.outer q.there cleared.related
    (facts-kept S w.programs.sites l.state.memory cleared.next.memory b.depth is_kept p.there.facts))
    (grows-kept w.programs l.state cleared.next z.after.state cleared.after.state cleared.stays b.depth)
    (subst (λ (xs : List ℕ). Passed w g z.after.slots xs) (sym cleared.slots_are) (passed-none w g z.after.slots)) less))
  where
    S : Setting
    S = setting_of w.programs

    number : ℕ
    number = number_of (around_of w b) o

    safe : w.programs.whole.kind x.node ≡ Safe
    safe = by (w.programs.whole.kind x.node) refl clears
      where
        by : (k : Kind) → w.programs.whole.kind x.node ≡ k → ClearedBy k (world_of w) x.type a rest → k ≡ Safe
        by Safe e h = refl
        by Wild e h = absurd (others x plan e)
        by Seq e h = absurd h
        by Rtti e h = absurd h

    changed : Outcome source.Ending source.State (Unit {0}) → CodeOutcome
    changed r = from (beside l.temps r) (λ m. done Goes)

    -- what the object is named with
    named : IsObject (context_in w names 0 no_types) o x.node x.type
    named = (x.type, same-plan w names 0 no_types o ∙ sym (plan-alike w o) ∙ plan, inl refl)

    z : Got w g (context_of w b) first c a (address (ground_of w.programs l.state c.state) (object_number b.first o))
    z = got-start w g b known l c p o x.node x.type (named-object w b names 0 no_types o x.node x.type named) Address (omega arith) a first gets

    q : Point w g b known l z.after
    q = passed-point w g b known l c z.after p z.state z.passed

    planned : planned_at w.programs.whole.statics b.variables o ≡ Some x
    planned = ap (λ (vs : List Planned). planned_at w.programs.whole.statics vs o) p.variables ∙ sym (plan-alike w o) ∙ plan

    begin : Location
    begin = record { object = object_number b.first o; part = record { low = 0; high = size_of w.programs.whole.table x.type }; offset = pos 0; made = x.type }

    placed : IsPlaceIn S l.state.memory b.depth (w.programs.whole.kind x.node) x.type (At begin)
    placed = (p.there.objects o x x.type planned (inl refl)).1

    typed : IsTypedPlace S (outlines_of l.state.memory) x.type begin
    typed = subst (λ (k : Kind). IsPlaceAt S (outlines_of l.state.memory) k x.type begin) safe
        (subst (λ (y : Location). IsPlaceAt S (outlines_of l.state.memory) (w.programs.whole.kind x.node) x.type y)
        (let e = placed.is in let f : placed.location ≡ begin = cc (e) in f) placed.place)

    there : HasOutline l.state.memory b.depth (object_number b.first o) typed.object
    there = has-outline l.state.memory b.depth (object_number b.first o) typed.object typed.located.found
        (subst (λ (y : Location). LivesAt (lives_of l.state.memory) b.depth y.object) (let e = placed.is in let f : placed.location ≡ begin = cc (e) in f) placed.reaches)

    found : slice_get l.state.memory.objects number ≡ Some there.object
    found = ap (slice_get l.state.memory.objects) (same-number w b o) ∙ there.found

    plain : w.programs.whole.kind there.object.node ≢ Wild
    plain = subst (λ (y : Outline). w.programs.whole.kind y.node ≢ Wild) (sym there.is) typed.typed.untagged

    celled : length there.object.cells ≡ there.object.size
    celled = p.there.facts.outlines.celled number (outline there.object) (get-mapped outline l.state.memory.objects number there.object found)

    wide : rules.cured_size w.programs.whole x.type ≡ width_of w.programs.whole.kind there.object.cells
    wide = size-held w names x.type (let h = typed.holds.room in omega (arith, h))
        ∙ sym (sym (ap (λ (y : Option Outline). width_of w.programs.whole.kind (cells_in y))
        (get-mapped outline l.state.memory.objects (object_number b.first o) there.object there.found)) ∙ p.there.wide o x planned)

    cleared : GoOnAlike S w.programs.whole.node l.state z.after (clear number l.state)
        (act (flat_instr.Zero a (rules.cured_size w.programs.whole x.type)) (context_of w b) z.after) tt z.after.slots
    cleared = objects-cleared S w.programs.whole.node number there.object l.state (context_of w b) a (rules.cured_size w.programs.whole x.type) z.after found there.live plain celled
        q.there.related (z.is ∙ ap (λ (y : flat.State). address (ground_of w.programs l.state y) (object_number b.first o)) (sym z.state)
        ∙ ap (address (ground_of w.programs l.state z.after.state)) (sym (same-number w b o))) wide

    is_kept : IsKept S w.programs.sites l.state.memory cleared.next.memory
    is_kept = subst (λ (r : Outcome source.Ending source.State (Unit {0})). Gives r (λ i r. IsKept S w.programs.sites l.state.memory r.memory)) cleared.source_goes
        (gives-cleared S w.programs.sites number there.object l.state p.there.facts.objects found there.live)

    line : rest ≡ flat_instr.Zero a (rules.cured_size w.programs.whole x.type) ∷ []
    line = subst (λ (k : Kind). ClearedBy k (world_of w) x.type a rest) safe clears

    flat_goes : run lines (context_of w b) c ≡ Done Goes cleared.after
    flat_goes =
        ap (λ (js : Lines). run js (context_of w b) c) is ∙ z.runs rest ∙ ap (λ (js : Lines). run js (context_of w b) z.after) line
        ∙ ap (λ (r : FlatOutcome). from r (λ m. then_go m (run [] (context_of w b)))) cleared.flat_goes

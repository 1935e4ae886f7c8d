-- Code in shape is wrong nowhere, where the calls that it makes aren't: by its instructions, blocks and loops.
use Rattle.std.proofs.Common.{◌≡◌, ℕ, zero, suc, ◌<◌, Bool, true, false, List, [], ◌∷◌, refl, sym, subst, arith}
use Rattle.std.specs.Prelude.{IsSome}
use Rattle.flat_mem.specs.Bytes.{AreBytes}
use Rattle.runs.specs.Input.{Input}
use Rattle.runs.specs.Outcome.{Outcome, Ended, Done, done, from, either}
use Rattle.runs.specs.Control.{Control, Goes, Leaves, Gives, then_go, out_of, go_round, rounds}
use Rattle.src_mem.specs.Pointers.{Value, is_true}
use Rattle.src_mem.specs.State.{Ending, Exited, Stopped, Turns, Wants, Wrong, State, bytes_of, turn_of}
use Rattle.src_mem.specs.Laws.{Keeps, ReadsWhatIsThere}
use Rattle.src_mem.proofs.Invariants.{reads_invariant}
use Rattle.facts_kept.specs.Kept.{IsLater}
use Rattle.facts_kept.proofs.Later.{later-same, later-twice}
use Rattle.cil_form.specs.declared.instr.Point.{Point}
use Rattle.cil_form.specs.declared.instr.Point.TheVariants as point
use Rattle.cil_form.specs.declared.instr.Convert.{Convert}
use Rattle.cil_form.specs.declared.instr.Convert.TheVariants as convert
use Rattle.cil_form.specs.declared.instr.Target.TheVariants as target
use Rattle.cil_form.specs.declared.instr.Access.{Access}
use Rattle.cil_form.specs.declared.instr.Access.TheVariants as access
use Rattle.cil_form.specs.declared.instr.Instr.{Instr, Row_of-Instr, end_of-Instr, more_of-Instr}
use Rattle.cil_form.specs.declared.instr.Instr.TheVariants as instr
use Rattle.cil_form.specs.State.{Local, Step, Around, beside}
use Rattle.cil_form.specs.Typing.{Typing, Context, Includes, inside, Passes, IsShaped, IsRowShaped, AreShaped}
use Rattle.cil_form.specs.Meaning.{act, act_row, run, round_of}
use Rattle.cil_facts.specs.Held.{IsSolvedFor, AreFacts, AreFactsBehind, GoesOn}
use Rattle.cil_facts.specs.Calling.{CallsKeepTheFacts, IsLeftWith, IsLeftWell, ComesTo}
use Rattle.cil_facts.specs.Whole.{NumbersNoPointer, NumbersNone, RowNumbersNone, CodeNumbersNone}
use Rattle.cil_facts.proofs.Invariants.{StateLeft, act-left}
use Rattle.cil_facts.proofs.Sets.{set-keeps}
use Rattle.cil_facts.proofs.Calculations.{calculate-keeps}
use Rattle.cil_facts.proofs.Points.{move-keeps, null-keeps, decay-keeps, address-keeps, member-keeps}
use Rattle.cil_facts.proofs.Comparing.{difference-keeps, comparison-keeps}
use Rattle.cil_facts.proofs.Conversions.{integer-keeps, to_pointer-keeps, pointer-keeps}
use Rattle.cil_facts.proofs.Accesses.{load-keeps, store-keeps}
use Rattle.cil_facts.proofs.PartStores.{part_store-keeps, clear-keeps}
use Rattle.cil_facts.proofs.Copies.{copy-keeps, part_copy-keeps}
use Rattle.cil_facts.proofs.Blocks.{allocate-keeps}
use Rattle.cil_facts.proofs.Calls.{call-keeps}
use Rattle.cil_facts.proofs.RuntimeCalls.{runtime-keeps}
use Rattle.cil_facts.proofs.Returns.{value-returns, nothing-returns}

-- The facts where less is asked

includes-own : (types : Typing) → Includes types types
includes-own types t x e = e

includes-twice : (types middle after : Typing) → Includes types middle → Includes middle after → Includes types after
includes-twice types middle after h g t x e = h t x (g t x e)

fewer : (k : Context) (a : Around) (types after : Typing) (c : Local) → Includes types after → AreFacts k a types c → AreFacts k a after c
fewer k a types after c less f = record {
  memory = f.memory;
  asked = λ t x e. f.asked t x (less t x e);
  held = λ t x e. f.held t x (less t x e);
  objects = f.objects;
}

fewer-behind : (k : Context) (a : Around) (types after : Typing) (c d : Local) → Includes types after → AreFactsBehind k a types c d
    → AreFactsBehind k a after c d
fewer-behind k a types after c d less f = record { facts = fewer k a types after d less f.facts; later = f.later }

-- inside a block and outside of it
enters : (k : Context) (a : Around) (entry types : Typing) (c : Local) → AreFacts k a types c → AreFacts (inside k entry) a types c
enters k a entry types c f = record { memory = f.memory; asked = f.asked; held = f.held; objects = λ o home t h. f.objects o home t h }

exits : (k : Context) (a : Around) (entry types : Typing) (c : Local) → AreFacts (inside k entry) a types c → AreFacts k a types c
exits k a entry types c f = record { memory = f.memory; asked = f.asked; held = f.held; objects = λ o home t h. f.objects o home t h }

solved-inside : (k : Context) (a : Around) (entry : Typing) → IsSolvedFor k a.setting → IsSolvedFor (inside k entry) a.setting
solved-inside k a entry s = record {
  table = s.table;
  well_formed = s.well_formed;
  solution = s.solution;
  made = s.made;
  told = s.told;
  tells = record { pointers = s.tells.pointers; objects = λ o home t h. s.tells.objects o home t h };
  functions = s.functions;
}

calls-inside : (input : Input) (k : Context) (a : Around) (entry : Typing) → (IsSome k.result → CallsKeepTheFacts k a.setting input a.depth a.call) → IsSome k.result
    → CallsKeepTheFacts (inside k entry) a.setting input a.depth a.call
calls-inside input k a entry calls some = let it = calls some in record {
  each = λ f d arguments s found reads sound statics given. it.each f d arguments s found reads sound (λ n home t h. statics n home t h) given;
}

module _ (input : Input) (bytes : AreBytes (bytes_of input)) where
  -- how code is left, with the input as it was
  abbrev pub Well : Context → Around → Typing → Local → Control Value → Local → Type 0
  Well k a after c x d = IsLeftWell k a after c x d × ReadsWhatIsThere input d.state

  read-bytes : (s : State) → ReadsWhatIsThere input s → AreBytes (bytes_of s.input)
  read-bytes s h = subst (λ i. AreBytes (bytes_of i)) (sym h.same) bytes

  -- from an earlier point
  later-well : (k : Context) (a : Around) (after : Typing) (c d e : Local) (x : Control Value) → IsLater a.depth c.state.memory.objects d.state.memory.objects
      → Well k a after d x e → Well k a after c x e
  later-well k a after c d e Goes l w =
      (record { facts = w.0.facts; later = later-twice a.depth a.depth _ _ _ (omega arith) l w.0.later }, w.1)
  later-well k a after c d e (Leaves n) l w =
      ((w.0.0, record { facts = w.0.1.facts; later = later-twice a.depth a.depth _ _ _ (omega arith) l w.0.1.later }), w.1)
  later-well k a after c d e (Gives v) l w = (
    record {
      type = w.0.type;
      result = w.0.result;
      value = w.0.value;
      memory = w.0.memory;
      later = later-twice a.depth a.depth _ _ _ (omega arith) l w.0.later;
    },
    w.1,
  )

  -- an instruction that goes on
  gone : (k : Context) (a : Around) (after : Typing) (c : Local) (m : Outcome Ending Local (Control Value)) → GoesOn m (AreFactsBehind k a after c)
      → StateLeft (ReadsWhatIsThere input) m → ComesTo m (Well k a after c)
  gone k a after c (Ended Wrong d) g r = g
  gone k a after c (Ended (Exited n) d) g r = tt
  gone k a after c (Ended (Stopped check at) d) g r = tt
  gone k a after c (Ended Turns d) g r = tt
  gone k a after c (Ended Wants d) g r = tt
  gone k a after c (Done x d) g r = by x g.0 r
    where
      by : (y : Control Value) → y ≡ Goes → ReadsWhatIsThere input d.state → Well k a after c y d
      by Goes e r = (g.1, r)
      by (Leaves n) e r = absurd (cc (e))
      by (Gives v) e r = absurd (cc (e))

  -- one that leaves the function
  left-well : (k : Context) (a : Around) (after : Typing) (c : Local) (m : Outcome Ending Local (Control Value)) → ComesTo m (IsLeftWell k a after c)
      → StateLeft (ReadsWhatIsThere input) m → ComesTo m (Well k a after c)
  left-well k a after c (Ended Wrong d) g r = g
  left-well k a after c (Ended (Exited n) d) g r = tt
  left-well k a after c (Ended (Stopped check at) d) g r = tt
  left-well k a after c (Ended Turns d) g r = tt
  left-well k a after c (Ended Wants d) g r = tt
  left-well k a after c (Done x d) g r = (g, r)

  comes-from : (P Q : Control Value → Local → Type 0) (m : Outcome Ending Local (Control Value)) (f : Control Value → Step) → ComesTo m P
      → ((x : Control Value) (d : Local) → P x d → ComesTo (f x d) Q) → ComesTo (from m f) Q
  comes-from P Q (Ended Wrong d) f g next = g
  comes-from P Q (Ended (Exited n) d) f g next = tt
  comes-from P Q (Ended (Stopped check at) d) f g next = tt
  comes-from P Q (Ended Turns d) f g next = tt
  comes-from P Q (Ended Wants d) f g next = tt
  comes-from P Q (Done x d) f g next = next x d g

  pub comes-more : (P Q : Control Value → Local → Type 0) (m : Outcome Ending Local (Control Value)) → ComesTo m P
      → ((x : Control Value) (d : Local) → P x d → Q x d) → ComesTo m Q
  comes-more P Q (Ended Wrong d) g next = g
  comes-more P Q (Ended (Exited n) d) g next = tt
  comes-more P Q (Ended (Stopped check at) d) g next = tt
  comes-more P Q (Ended Turns d) g next = tt
  comes-more P Q (Ended Wants d) g next = tt
  comes-more P Q (Done x d) g next = next x d g

  comes-either : (P : Control Value → Local → Type 0) (b : Bool) (f g : Step) (c : Local) → ComesTo (f c) P → ComesTo (g c) P → ComesTo (either b f g c) P
  comes-either P true f g c h k = h
  comes-either P false f g c h k = k

  -- what stands behind an instruction
  then-well : (k : Context) (a : Around) (middle after : Typing) (c : Local) (next : Step)
      → ((d : Local) → AreFacts k a middle d → ReadsWhatIsThere input d.state → ComesTo (next d) (Well k a after d))
      → (x : Control Value) (d : Local) → Well k a middle c x d → ComesTo (then_go x next d) (Well k a after c)
  then-well k a middle after c next h Goes d w =
      comes-more (Well k a after d) (Well k a after c) (next d) (h d w.0.facts w.1) (λ x e v. later-well k a after c d e x w.0.later v)
  then-well k a middle after c next h (Leaves n) d w = w
  then-well k a middle after c next h (Gives v) d w = w

  given-out : (k : Context) (a : Around) (entry : Typing) (v : Value) (c d : Local) → IsLeftWith (inside k entry) a v c d → IsLeftWith k a v c d
  given-out k a entry v c d g = record { type = g.type; result = g.result; value = g.value; memory = g.memory; later = g.later }

  below : (m n : ℕ) → suc m < suc n → m < n
  below m n h = omega (arith, h)

  behind-out : (k : Context) (a : Around) (entry types after : Typing) (c d : Local) → Includes types after → AreFactsBehind (inside k entry) a types c d
      → AreFactsBehind k a after c d
  behind-out k a entry types after c d less f =
      record { facts = fewer k a types after d less (exits k a entry types d f.facts); later = f.later }

  -- a block is left
  out-well : (k : Context) (a : Around) (types entry after : Typing) (c : Local) → Passes types entry k after → (x : Control Value) (d : Local)
      → Well (inside k entry) a entry c x d → Well k a after c (out_of x) d
  out-well k a types entry after c passes Goes d w = (behind-out k a entry entry after c d passes.ends w.0, w.1)
  out-well k a types entry after c passes (Leaves zero) d w = (behind-out k a entry entry after c d passes.ends w.0.1, w.1)
  out-well k a types entry after c passes (Leaves (suc n)) d w =
      ((below n k.blocks w.0.0, behind-out k a entry entry k.kept c d passes.keeps w.0.1), w.1)
  out-well k a types entry after c passes (Gives v) d w = (given-out k a entry v c d w.0, w.1)

  -- a round of a loop is over
  round-well : (k : Context) (a : Around) (types entry after : Typing) (c : Local) → Passes types entry k after → (again : Step)
      → ((d : Local) → AreFacts (inside k entry) a entry d → ReadsWhatIsThere input d.state → IsLater a.depth c.state.memory.objects d.state.memory.objects
      → ComesTo (again d) (Well k a after c))
      → (x : Control Value) (d : Local) → Well (inside k entry) a entry c x d → ComesTo (go_round x again d) (Well k a after c)
  round-well k a types entry after c passes again h Goes d w = h d w.0.facts w.1 w.0.later
  round-well k a types entry after c passes again h (Leaves zero) d w = (behind-out k a entry entry after c d passes.ends w.0.1, w.1)
  round-well k a types entry after c passes again h (Leaves (suc n)) d w =
      ((below n k.blocks w.0.0, behind-out k a entry entry k.kept c d passes.keeps w.0.1), w.1)
  round-well k a types entry after c passes again h (Gives v) d w = (given-out k a entry v c d w.0, w.1)

  -- a round takes its turn, which leaves the memory alone
  turned : (k : Context) (a : Around) (entry : Typing) (body : Step)
      → ((d : Local) → AreFacts k a entry d → ReadsWhatIsThere input d.state → ComesTo (body d) (Well k a entry d)) → (d : Local) → AreFacts k a entry d
      → ReadsWhatIsThere input d.state → ComesTo (round_of body d) (Well k a entry d)
  turned k a entry body h d f r = by d.state.turns
    where
      by : (n : ℕ) → ComesTo (from (beside d.temps (turn_of n d.state)) (λ x. body)) (Well k a entry d)
      by zero = tt
      by (suc n) =
          let e : Local = record { state = record d.state { turns = n }; temps = d.temps } in
          comes-more (Well k a entry e) (Well k a entry d) (body e)
          (h e (record { memory = f.memory; asked = f.asked; held = f.held; objects = f.objects }) (record { same = r.same; most = r.most }))
          (λ x g v. later-well k a entry d e g x (later-same a.depth d.state.memory.objects d.state.memory.objects refl refl) v)

  rounds-well : (k : Context) (a : Around) (types entry after : Typing) (c : Local) → Passes types entry k after → (body : Step)
      → ((d : Local) → AreFacts (inside k entry) a entry d → ReadsWhatIsThere input d.state → ComesTo (body d) (Well (inside k entry) a entry d))
      → (n : ℕ) (d : Local) → AreFacts (inside k entry) a entry d → ReadsWhatIsThere input d.state
      → IsLater a.depth c.state.memory.objects d.state.memory.objects → ComesTo (rounds Turns n (round_of body) d) (Well k a after c)
  rounds-well k a types entry after c passes body h zero d f r l = tt
  rounds-well k a types entry after c passes body h (suc n) d f r l =
      comes-from (Well (inside k entry) a entry d) (Well k a after c) (round_of body d) (λ x. go_round x (rounds Turns n (round_of body)))
      (turned (inside k entry) a entry body h d f r)
      (λ x e w. round-well k a types entry after c passes (rounds Turns n (round_of body))
      (λ g fg rg lg. rounds-well k a types entry after c passes body h n g fg rg lg) x e (later-well (inside k entry) a entry c d e x l w))

  -- Instructions that hold no code

  point-goes : (i : Point) (k : Context) (a : Around) (types after : Typing) (c : Local) → IsSolvedFor k a.setting → IsShaped (instr.Point i) k types after
      → AreFacts k a types c → GoesOn (act (instr.Point i) a c) (AreFactsBehind k a after c)
  point-goes (point.Move into p n way t at) k a types after c solved s f = move-keeps k a solved types after c f into p n way t at s
  point-goes (point.Difference into x t y u at) k a types after c solved s f = difference-keeps k a solved types after c f into x y t u at s
  point-goes (point.Compare into o x t y u at) k a types after c solved s f = comparison-keeps k a solved types after c f into o x y t u at s
  point-goes (point.IsNull into p t different) k a types after c solved s f = null-keeps k a solved types after c f into p t different s
  point-goes (point.Member into source outer t i inner u at) k a types after c solved s f =
      member-keeps k a solved types after c f into source outer t i inner u at s
  point-goes (point.Decay into source outer array check inner element at) k a types after c solved s f =
      decay-keeps k a solved types after c f into source outer array check inner element at s
  point-goes (point.Address into source outer inner t) k a types after c solved s f = address-keeps k a solved types after c f into source outer inner t s

  convert-goes : (i : Convert) → NumbersNoPointer i → (k : Context) (a : Around) (types after : Typing) (c : Local) → IsSolvedFor k a.setting
      → IsShaped (instr.Convert i) k types after → AreFacts k a types c → GoesOn (act (instr.Convert i) a c) (AreFactsBehind k a after c)
  convert-goes (convert.Integer into source t) none k a types after c solved s f = integer-keeps k a solved types after c f into source t s
  convert-goes (convert.ToPointer into source t at) none k a types after c solved s f = to_pointer-keeps k a solved types after c f into source t at s
  convert-goes (convert.FromPointer into source t u) none k a types after c solved s f = absurd none
  convert-goes (convert.Pointer into source t u at) none k a types after c solved s f = pointer-keeps k a solved types after c f into source t u at s

  access-goes : (i : Access) (k : Context) (a : Around) (types after : Typing) (c : Local) → IsSolvedFor k a.setting → IsShaped (instr.Access i) k types after
      → AreFacts k a types c → GoesOn (act (instr.Access i) a c) (AreFactsBehind k a after c)
  access-goes (access.Load into source node t at) k a types after c solved s f = load-keeps k a solved types after c f into source node t at s
  access-goes (access.Store (target.Pointer to node) v t at assignment) k a types after c solved s f =
      store-keeps k a solved types after c f to v node t at assignment s
  access-goes (access.Store (target.Part o home u offset) v t at assignment) k a types after c solved s f =
      part_store-keeps k a solved types after c f o home u offset v t at assignment s
  access-goes (access.Clear o) k a types after c solved s f = clear-keeps k a solved types after c f o s
  access-goes (access.Copy (target.Pointer to to_node) to_place source node source_place t assignment) k a types after c solved s f =
      copy-keeps k a solved types after c f to source node to_node to_place source_place t assignment s
  access-goes (access.Copy (target.Part o home u offset) to_place source node source_place t assignment) k a types after c solved s f =
      part_copy-keeps k a solved types after c f o home u offset source node to_place source_place t assignment s

  -- Code

  module _ (a : Around) (kept : (f depth : ℕ) (vs : List Value) → Keeps (ReadsWhatIsThere input) (a.call f depth vs)) where
    abbrev left : (i : Instr) (c : Local) → ReadsWhatIsThere input c.state → StateLeft (ReadsWhatIsThere input) (act i a c)
    left i c r = act-left (reads_invariant input) a kept i c r

    mutual
      instr-well : (i : Instr) (k : Context) (types after : Typing) (c : Local) → NumbersNone i → IsSolvedFor k a.setting
          → (IsSome k.result → CallsKeepTheFacts k a.setting input a.depth a.call) → ReadsWhatIsThere input c.state → IsShaped i k types after
          → AreFacts k a types c → ComesTo (act i a c) (Well k a after c)
      instr-well (instr.Set i) k types after c none solved calls r s f =
          gone k a after c (act (instr.Set i) a c) (set-keeps k a solved types after c f i s) (left (instr.Set i) c r)
      instr-well (instr.Calculate i) k types after c none solved calls r s f =
          gone k a after c (act (instr.Calculate i) a c) (calculate-keeps k a solved types after c f i s) (left (instr.Calculate i) c r)
      instr-well (instr.Point i) k types after c none solved calls r s f =
          gone k a after c (act (instr.Point i) a c) (point-goes i k a types after c solved s f) (left (instr.Point i) c r)
      instr-well (instr.Convert i) k types after c none solved calls r s f =
          gone k a after c (act (instr.Convert i) a c) (convert-goes i none k a types after c solved s f) (left (instr.Convert i) c r)
      instr-well (instr.Access i) k types after c none solved calls r s f =
          gone k a after c (act (instr.Access i) a c) (access-goes i k a types after c solved s f) (left (instr.Access i) c r)
      instr-well (instr.Allocate i) k types after c none solved calls r s f =
          gone k a after c (act (instr.Allocate i) a c) (allocate-keeps k a solved types after c f i s) (left (instr.Allocate i) c r)
      instr-well (instr.Call i) k types after c none solved calls r s f =
          gone k a after c (act (instr.Call i) a c) (call-keeps k a solved types after c f i input calls r s) (left (instr.Call i) c r)
      instr-well (instr.Runtime i) k types after c none solved calls r s f =
          gone k a after c (act (instr.Runtime i) a c) (runtime-keeps k a solved types after c f i (read-bytes c.state r) s) (left (instr.Runtime i) c r)
      instr-well (instr.If' t shape code shape' other) k types after c none solved calls r s f =
          comes-either (Well k a after c) (is_true (c.temps t)) (act_row code a) (act_row other a) c
          (row-well code k types after c none.0 solved calls r s.1 f) (row-well other k types after c none.1 solved calls r s.2 f)
      instr-well (instr.Block' shape code) k types after c none solved calls r s f =
          comes-from (Well (inside k s.0) a s.0 c) (Well k a after c) (act_row code a c) (λ x. done (out_of x))
          (row-well code (inside k s.0) s.0 s.0 c none (solved-inside k a s.0 solved) (calls-inside input k a s.0 calls) r s.2
          (enters k a s.0 s.0 c (fewer k a types s.0 c s.1.begins f)))
          (λ x d w. out-well k a types s.0 after c s.1 x d w)
      instr-well (instr.Loop' shape code) k types after c none solved calls r s f =
          rounds-well k a types s.0 after c s.1 (act_row code a)
          (λ d g q. row-well code (inside k s.0) s.0 s.0 d none (solved-inside k a s.0 solved) (calls-inside input k a s.0 calls) q s.2 g) c.state.turns c
          (enters k a s.0 s.0 c (fewer k a types s.0 c s.1.begins f)) r (later-same a.depth c.state.memory.objects c.state.memory.objects refl refl)
      instr-well (instr.Break n) k types after c none solved calls r s f = (
        (
          s.0,
          record {
            facts = fewer k a types k.kept c s.1 f;
            later = later-same a.depth c.state.memory.objects c.state.memory.objects refl refl;
          },
        ),
        r,
      )
      instr-well instr.Return k types after c none solved calls r s f =
          left-well k a after c (act instr.Return a c) (nothing-returns k a solved types after c f s) (left instr.Return c r)
      instr-well (instr.ReturnValue v t at) k types after c none solved calls r s f =
          left-well k a after c (act (instr.ReturnValue v t at) a c) (value-returns k a solved types after c f v t at s) (left (instr.ReturnValue v t at) c r)

      row-well : {m : _} (row : Row_of-Instr m) (k : Context) (types after : Typing) (c : Local) → RowNumbersNone row → IsSolvedFor k a.setting
          → (IsSome k.result → CallsKeepTheFacts k a.setting input a.depth a.call) → ReadsWhatIsThere input c.state → IsRowShaped row k types after
          → AreFacts k a types c → ComesTo (act_row row a c) (Well k a after c)
      row-well end_of-Instr k types after c none solved calls r s f = (
        record {
          facts = fewer k a types after c s f;
          later = later-same a.depth c.state.memory.objects c.state.memory.objects refl refl;
        },
        r,
      )
      row-well (more_of-Instr i row) k types after c none solved calls r s f =
          comes-from (Well k a s.0 c) (Well k a after c) (act i a c) (λ x. then_go x (act_row row a))
          (instr-well i k types s.0 c none.0 solved calls r s.1 f)
          (λ x d w. then-well k a s.0 after c (act_row row a) (λ e g q. row-well row k s.0 after e none.1 solved calls q s.2 g) x d w)

    pub run-well : (is : List Instr) (k : Context) (types after : Typing) (c : Local) → CodeNumbersNone is → IsSolvedFor k a.setting
        → (IsSome k.result → CallsKeepTheFacts k a.setting input a.depth a.call) → ReadsWhatIsThere input c.state → AreShaped is k types after
        → AreFacts k a types c → ComesTo (run is a c) (Well k a after c)
    run-well [] k types after c none solved calls r s f = (
      record {
        facts = fewer k a types after c s f;
        later = later-same a.depth c.state.memory.objects c.state.memory.objects refl refl;
      },
      r,
    )
    run-well (i ∷ is) k types after c none solved calls r s f =
        comes-from (Well k a s.0 c) (Well k a after c) (act i a c) (λ x. then_go x (run is a))
        (instr-well i k types s.0 c none.0 solved calls r s.1 f)
        (λ x d w. then-well k a s.0 after c (run is a) (λ e g q. run-well is k s.0 after e none.1 solved calls q s.2 g) x d w)

-- Small programs, computed from the definition of the flat machine.
use Rattle.std.proofs.Common.{ℕ, ◌+◌, ◌<◌, ◌≤◌, ◌≡◌, refl, List, [], ◌∷◌, length, Some, true, ap, ◌∙◌, slice_get, arith}
use Rattle.flat_mem.specs.Placement.{areas_size}
use Rattle.flat_mem.specs.Memory.{fits}
use Rattle.runs.specs.Input.{Input}
use Rattle.runs.specs.Outcome.{Ended, from}
use Rattle.runs.specs.Control.{then_go}
use Rattle.integers.specs.Words.{low_byte}
use Rattle.cured_code.specs.declared.instr.Instr.{Instr}
use Rattle.cured_code.specs.declared.instr.Instr.TheVariants as instr
use Rattle.cured_code.specs.declared.parts.Function.{Function}
use Rattle.cured_code.specs.declared.parts.Parts.{Parts}
use Rattle.cured_code.specs.FlatState.{Exited, Trap, State, Local, with_slot, put_out, slot}
use Rattle.cured_code.specs.FlatMachine.{Context, start_context, run, flat_run, started, run_of, first_state, loaded_memory, areas_of, entry, finished, frames_charge_limit, blocks_charge_limit}
use Rattle.cured_code.proofs.RunLaws.{load-outside}
use Rattle.cured_code.proofs.StartLaws.{length-loaded, length-entry, fits-start}

-- straight lines compute to what follows them
pub straight_lines : (w : Context) (c : Local) (is : List Instr) → run (instr.Const 0 72 ∷ instr.Copy 1 0 ∷ instr.Put 1 ∷ is) w c ≡ run is w (put_out (low_byte (slot (with_slot 1 (slot (with_slot 0 72 c) 0) (with_slot 0 72 c)) 1)) (with_slot 1 (slot (with_slot 0 72 c) 0) (with_slot 0 72 c)))
straight_lines w c is = refl

-- a program whose function 0 is f, and has a frame that fits, runs f's lines
pub runs_function_0 : (parts : Parts) (input : Input) (turns : ℕ) (f : Function) → slice_get parts.functions 0 ≡ Some f → fits (loaded_memory parts) (areas_of f.locals) f.charge ≡ true
    → flat_run parts input turns ≡ finished (run f.body.0.items (start_context parts) (entry f (first_state parts input turns)))
runs_function_0 parts input turns f there room =
    ap (λ o. run_of parts o (first_state parts input turns)) there ∙ ap (λ b. started b parts f (first_state parts input turns)) room

-- what function 0 is in the two programs below: it has so many slots, no area and no charge, and these lines
pub record IsPlainStart (parts : Parts) (slots : ℕ) (lines : List Instr) (f : Function) : Type 0 where
  pub there : slice_get parts.functions 0 ≡ Some f
  pub slots_are : f.slots ≡ slots
  pub no_area : f.locals ≡ []
  pub no_charge : f.charge ≡ 0
  pub lines_are : f.body.0.items ≡ lines

-- such a function has a frame that fits
plain-fits : (parts : Parts) (slots : ℕ) (lines : List Instr) (f : Function) → IsPlainStart parts slots lines f → fits (loaded_memory parts) (areas_of f.locals) f.charge ≡ true
unfolding areas_size
plain-fits parts slots lines f h = fits-start parts (areas_of f.locals) f.charge (rw h.no_charge (omega arith)) (rw h.no_area (omega arith))

-- and its run is that of its lines
plain-runs : (parts : Parts) (input : Input) (turns slots : ℕ) (lines : List Instr) (f : Function) → IsPlainStart parts slots lines f
    → flat_run parts input turns ≡ finished (run lines (start_context parts) (entry f (first_state parts input turns)))
plain-runs parts input turns slots lines f h =
    runs_function_0 parts input turns f h.there (plain-fits parts slots lines f h)
    ∙ ap (λ l. finished (run l (start_context parts) (entry f (first_state parts input turns)))) h.lines_are

-- function 0 with no line exits with 0
pub no_line : (parts : Parts) (input : Input) (turns : ℕ) (f : Function) → IsPlainStart parts 0 [] f → (flat_run parts input turns).ending ≡ Exited 0
no_line parts input turns f h = ap (λ o. o.ending) (plain-runs parts input turns 0 [] f h)

abbrev pub far_lines : List Instr
far_lines = instr.Const 0 4611686018427387904 ∷ instr.Ld 1 0 0 ∷ []

-- on one slot and a byte list that ends below that address the lines trap
far_lines-trap : (w : Context) (f : Function) (s : State) → f.slots ≡ 1 → length s.memory.bytes ≤ 4611686018427387904
    → run far_lines w (entry f s) ≡ Ended (Trap w.function) (with_slot 0 4611686018427387904 (entry f s))
far_lines-trap w f s one short =
    let c : Local = with_slot 0 4611686018427387904 (entry f s) in
    let at : slot c 0 ≡ 4611686018427387904 = rw one refl in
    let past : length c.state.memory.bytes < slot c 0 + 1 = rw (at, length-entry f s) (omega arith) in
    ap (λ m. from m (λ x. then_go x (run [] w))) (load-outside 1 0 0 w c (omega arith) past)

-- a load from the address 4611686018427387904 traps in function 0, in a program with one function and no global
pub far_load : (parts : Parts) (input : Input) (turns : ℕ) (f : Function) → parts.globals ≡ [] → length parts.functions ≡ 1 → IsPlainStart parts 1 far_lines f → (flat_run parts input turns).ending ≡ Trap 0
unfolding areas_size frames_charge_limit blocks_charge_limit
far_load parts input turns f none one h =
    let short : length (loaded_memory parts).bytes ≤ 4611686018427387904 = rw (length-loaded parts, none, one) (omega arith) in
    ap (λ o. o.ending) (plain-runs parts input turns 1 far_lines f h)
    ∙ ap (λ m. (finished m).ending) (far_lines-trap (start_context parts) f (first_state parts input turns) h.slots_are short)

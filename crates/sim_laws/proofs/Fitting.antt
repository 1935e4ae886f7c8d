-- Where C has room for a call, the stack has: the flat memory has the bounds of the plan, and its frames three bytes for each that they are charged.
use Rattle.std.proofs.Common.{◌≡◌, ℕ, suc, ◌+◌, ◌*◌, ◌<◌, ◌≤◌, ◌⊎◌, Bool, true, false, ◌&&◌, List, length, Option, refl, ap, sym, ◌∙◌, ⊎_elim, arith, nat_le, nat_lt}
use Rattle.std.proofs.lemmas.Bool.Decides.{nat_tests}
use Rattle.c_types.specs.Sound.{IsWellFormed}
use Rattle.flat_mem.specs.declared.Area.{Area}
use Rattle.flat_mem.specs.declared.memory.Bounds.{Bounds}
use Rattle.flat_mem.specs.Memory.{Frame, charges, fits, next_frame}
use Rattle.flat_mem.specs.Placement.{areas_size}
use Rattle.src_mem.specs.Memory.{Planned, frame_charge}
use Rattle.src_mem.specs.State as source
use Rattle.src_mem.specs.Checks.{depth_limit, source_frame_limit, has_room}
use Rattle.src_mem.specs.Runs.{defined}
use Rattle.cil_form.specs.declared.program.Function.{Function}
use Rattle.cil_form.specs.Machine.{head_of, variables_of}
use Rattle.cured_code.specs.declared.parts.Function as cured
use Rattle.cured_code.specs.FlatState as flat
use Rattle.cured_code.specs.Tables.{areas_of, frame_fits, call_fits}
use Rattle.cured_code.specs.FlatMachine.{frames_charge_limit}
use Rattle.sim_relation.specs.Objects.{frame_areas}
use Rattle.sim_relation.proofs.Room.{AreComplete, whole-types, frame-room}
use Rattle.sim_checks.proofs.Calling.{frames-fit-alike}
use Rattle.cure_rules.specs.Functions.{IsEntered, IsNeverEntered}
use Rattle.cure_rules.specs.Programs.{IsFunctionAt}
use Rattle.sim_laws.specs.Scenes.{Programs, Running, setting_of, world_of, scene_of}
use Rattle.sim_laws.specs.Points.{There}

limit-is : frames_charge_limit ≡ 1048576
unfolding frames_charge_limit
limit-is = refl

-- what is charged more than all frames may be has no room on either machine
no-fit : (deep other : Bool) (charged m limit : ℕ) → limit ≡ 1048576 → 1048576 < m → (deep && (nat_le (charged + m) limit && other)) ≡ false
no-fit true other charged m limit e h = let f : nat_le (charged + m) limit ≡ false = grind (arith, nat_tests, e, h) in ap (λ (q : Bool). q && other) f
no-fit false other charged m limit e h = refl

no-room : (deep : Bool) (charged m : ℕ) → 1048576 < m → (deep && nat_le (charged + m) 1048576) ≡ false
no-room true charged m h = grind (arith, nat_tests, h)
no-room false charged m h = refl

module _ (p : Programs) (formed : IsWellFormed p.whole.table) (b : Running) (s : source.State) (c : flat.State) (there : There p b s c) where
  stack-limit : c.memory.bounds.stack_limit ≡ 1048576
  stack-limit = ap (λ (x : Bounds). x.stack_limit) there.laid.bounds ∙ limit-is

  stack-end : c.memory.bounds.stack_end ≡ c.memory.bounds.stack_start + 3 * 1048576
  stack-end =
      let a = ap (λ (x : Bounds). x.stack_end) there.laid.bounds in let e = ap (λ (x : Bounds). x.stack_start) there.laid.bounds in
      let l = limit-is in omega (arith, a, e, l)

  -- a function that may be entered
  pub entered-fits : (variables : List Planned) → AreComplete (setting_of p) variables → (areas : List Area) (charge : ℕ)
      → areas ≡ frame_areas (setting_of p) variables → charge ≡ frame_charge p.whole.table variables
      → fits c.memory areas charge ≡ (nat_lt (suc b.depth) depth_limit && nat_le (s.memory.frame_bytes + frame_charge p.whole.table variables) source_frame_limit)
  entered-fits variables complete areas charge areas_are charge_is =
      ap (λ (xs : List Area). fits c.memory xs charge) areas_are ∙ ap (fits c.memory (frame_areas (setting_of p) variables)) charge_is
      ∙ frames-fit-alike (setting_of p) p.whole.node s c (frame_areas (setting_of p) variables) (frame_charge p.whole.table variables) (suc b.depth) there.related
      (ap (λ (fs : List Frame). length fs) there.frames ∙ there.deep) stack-limit stack-end
      (frame-room (setting_of p) variables (whole-types (setting_of p) variables formed complete))

  cases : (x : ℕ) → (x ≤ 1048576) ⊎ (1048576 < x)
  cases x = grind arith

  pub call-fits-alike : (k : ℕ) (f : Function) → AreComplete (setting_of p) (variables_of f) → IsFunctionAt p.whole p.parts k f
      → call_fits p.parts (suc k) c.memory ≡ has_room (setting_of p) s.memory (suc b.depth) (defined (head_of f))
  call-fits-alike k f complete at = ap (λ (o : Option cured.Function). frame_fits o c.memory) at.found
      ∙ ⊎_elim (λ l. entered (at.is.entered l)) (λ l. never l (at.is.never l)) (cases (frame_charge p.whole.table (variables_of f)))
    where
      room : Bool
      room = has_room (setting_of p) s.memory (suc b.depth) (defined (head_of f))

      entered : IsEntered (world_of (scene_of p k f at.slots)) f at.cured → fits c.memory (areas_of at.cured.locals) at.cured.charge ≡ room
      entered e = entered-fits (variables_of f) complete (areas_of at.cured.locals) at.cured.charge e.areas e.charge

      never : 1048576 < frame_charge p.whole.table (variables_of f) → IsNeverEntered at.cured → fits c.memory (areas_of at.cured.locals) at.cured.charge ≡ room
      never l e = no-fit (nat_lt (length c.memory.frames) 1024) (nat_le (next_frame c.memory + areas_size (areas_of at.cured.locals)) c.memory.bounds.stack_end)
          (charges c.memory.frames) at.cured.charge c.memory.bounds.stack_limit stack-limit e.charge
          ∙ sym (no-room (nat_lt (suc b.depth) 1024) s.memory.frame_bytes (frame_charge p.whole.table (variables_of f)) l)

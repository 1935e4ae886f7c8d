-- What is true of two states wherever a body has come to, and what of them stays.
use Rattle.std.specs.Prelude.{◌≡◌, ◌≢◌, ◌⊎◌, ℕ, suc, ◌+◌, ◌^◌, ◌<◌, ◌≤◌, ⊤, true, false, List, length, slice_get, slice_index, Option, Some}
use Rattle.cc_base.specs.declared.kind.Kind.{Kind}
use Rattle.cc_base.specs.declared.number.TypeId.{TypeId}
use Rattle.kind_sites.specs.declared.site.Site.{Site}
use Rattle.c_types.specs.Widths.{width_of, cured_size}
use Rattle.flat_mem.specs.Bytes.{IsAccessSize, AreBytes}
use Rattle.flat_mem.specs.Memory.{newest_addresses, depth_in, bounds_of}
use Rattle.src_mem.specs.Pointers.{Pointer, Value, Address}
use Rattle.src_mem.specs.Memory.{Planned}
use Rattle.src_mem.specs.State as source
use Rattle.src_mem.specs.State.{bytes_of}
use Rattle.src_mem.specs.Uses.{home}
use Rattle.src_mem.specs.Outlines.{Life, lives_of}
use Rattle.src_mem.specs.Facts.{IsSoundAt}
use Rattle.cil_form.specs.declared.number.Temp.{Temp}
use Rattle.cil_form.specs.declared.number.Object.{Object}
use Rattle.cil_form.specs.declared.number.Object.TheVariants as object
use Rattle.cil_form.specs.State as code
use Rattle.cil_form.specs.State.{is_same}
use Rattle.cil_form.specs.Typing.{HeldType, IntegerOf, PlaceOf, IsTemp, AreDeclaredAlike}
use Rattle.cil_form.specs.Told.{IsAsked}
use Rattle.cil_facts.specs.Held.{IsHeldAs}
use Rattle.cured_code.specs.FlatState as flat
use Rattle.cured_code.specs.FlatState.{slot}
use Rattle.cured_code.specs.FlatMachine.{plan_of}
use Rattle.sim_relation.specs.Ground.{Ground, address, cells, pointer_words}
use Rattle.sim_relation.specs.Objects.{flat_depth}
use Rattle.sim_relation.specs.Related as relation
use Rattle.sim_relation.specs.Related.{Related}
use Rattle.sim_relation.specs.Points.{Known, Knowledge, Content, KeptSlot, StandsFor, IsThere, object_number, content_word}
use Rattle.sim_checks.specs.Rows.{AreFunctionsLaid}
use Rattle.sim_memory.specs.Laws.{AreBelowHeap}
use Rattle.cure_rules.specs.Slots.{AreSlots, Owner, Column, Working, Argument, Nought, Kept}
use Rattle.cure_rules.specs.Known.{held_words}
use Rattle.sim_laws.specs.Scenes.{Programs, Scene, Running, setting_of}

-- what words are made from
abbrev pub ground_of : Programs → source.State → flat.State → Ground
ground_of p s c = relation.ground_of (setting_of p) p.whole.node s c

-- a call of this depth holds the value in a temporary
abbrev pub Holds : Programs → source.State → ℕ → HeldType → Value → Type 0
Holds p s depth x v = IsHeldAs (setting_of p) p.sites s.memory depth x v

-- From one pair of states to another, all stays that temporaries and kept slots of calls of this depth and less speak of: no object is gone,
-- what is held may be held, with the same words, and what a kept slot holds is the same. What lives of these calls' variables lived before:
-- no new variable is one of theirs.
pub record Grows (p : Programs) (depth : ℕ) (s t : source.State) (c d : flat.State) : Type 0 where
  pub more : length s.memory.objects ≤ length t.memory.objects
  pub lived : (k : ℕ) (x : Life) → slice_get (lives_of t.memory) k ≡ Some x → x.live ≡ true → 0 < x.depth → x.depth ≤ depth → slice_get (lives_of s.memory) k ≡ Some x
  pub held : (e : ℕ) → e ≤ depth → (x : HeldType) (v : Value) → Holds p s e x v → Holds p t e x v
  pub words : (e : ℕ) → e ≤ depth → (x : HeldType) (k : Kind) (q : Pointer) → Holds p s e x (Address q)
      → pointer_words (ground_of p t d) k q ≡ pointer_words (ground_of p s c) k q
  pub contents : (first : ℕ) (x : Content) → IsThere (length s.memory.objects) first x
      → content_word (ground_of p t d) first x ≡ content_word (ground_of p s c) first x

-- the object that code names, by its type and its home
abbrev pub planned_at : List Planned → List Planned → Object → Option Planned
planned_at statics variables (object.Static k) = slice_get statics k.0
planned_at statics variables (object.Variable k) = slice_get variables k.0

-- u is the type t of an object, or one that its name was declared with besides
abbrev pub NamesAlike : List Site → TypeId → TypeId → Type 0
NamesAlike sites t u = (t ≡ u) ⊎ AreDeclaredAlike sites t u

-- What is so in a whole run, beside what is related: the flat memory has the bounds of the program's plan; no block ends behind the place where
-- the next one begins; functions lie before all areas, in no frame, and the word before each is 0; and the input consists of bytes.
pub record IsLaid (p : Programs) (s : source.State) (c : flat.State) : Type 0 where
  pub bounds : c.memory.bounds ≡ bounds_of (plan_of p.parts)
  pub heap : AreBelowHeap (setting_of p) p.whole.node s c
  pub functions : AreFunctionsLaid (setting_of p) p.whole.node s c
  pub input : AreBytes (bytes_of s.input)

-- what lives and was made in the call is one of these variables
abbrev pub AreOwn : ℕ → ℕ → ℕ → List Life → Type 0
AreOwn depth first count lives = (k : ℕ) (x : Life) → slice_get lives k ≡ Some x → x.live ≡ true → x.depth ≡ depth → (first ≤ k) × (k < first + count)

-- The states wherever a call has come to: they are related, C's memory is sound, and all is laid as in the whole run; the frames are those with
-- which the call began, one more than its depth; the areas of its variables are those of its frame, which lies as deep, those of the static
-- objects stand where they were laid; each object that code may name is a place of each type that it is named with, and its area is as long as its
-- type's is once cured; what a function has made and lives is one of its variables; and since the call began all has stayed that calls further out
-- speak of.
pub record There (p : Programs) (b : Running) (s : source.State) (c : flat.State) : Type 0 where
  pub related : Related (setting_of p) p.whole.node s c
  pub facts : IsSoundAt (setting_of p) p.sites s.memory b.depth
  pub laid : IsLaid p s c
  pub frames : c.memory.frames ≡ b.frames
  pub deep : length b.frames ≡ suc b.depth
  pub made : b.first + length b.variables ≤ length s.memory.objects
  pub areas : (k : ℕ) → k < length b.variables → slice_index (newest_addresses b.frames) k ≡ address (ground_of p s c) (b.first + k)
  pub own_frame : (k : ℕ) → k < length b.variables → depth_in b.frames (slice_index (newest_addresses b.frames) k) ≡ flat_depth b.depth
  pub globals : length p.whole.addresses ≤ length s.memory.objects
  pub statics : (k : ℕ) → k < length p.whole.addresses → slice_index p.whole.addresses k ≡ address (ground_of p s c) k
  pub objects : (o : Object) (v : Planned) (t : TypeId) → planned_at p.whole.statics b.variables o ≡ Some v → NamesAlike p.sites v.type t
      → Holds p s b.depth (PlaceOf v.node t) (Address (home p.whole.table (object_number b.first o) t))
  pub wide : (o : Object) (v : Planned) → planned_at p.whole.statics b.variables o ≡ Some v
      → width_of p.whole.kind (cells (ground_of p s c) (object_number b.first o)) ≡ cured_size p.whole.table p.whole.kind v.type
  pub own : 0 < b.depth → AreOwn b.depth b.first (length b.variables) (lives_of s.memory)
  pub since : Grows p b.outer b.start s b.flat_start c

-- a slot that writing another temporary leaves: in the column of the temporary, or kept
abbrev pub IsSteady : Temp → Owner → Type 0
IsSteady t (Column u j) = u ≡ t
IsSteady t (Kept j) = ⊤
IsSteady t owner = ⊥

-- the words begin where the temporary's column does, which has room for them; or each is in a kept slot
abbrev pub AreInColumn : Scene → Temp → Known → ℕ → Type 0
AreInColumn w t x a = (a ≡ w.slots.column t) × IsTemp t × (held_words w.programs.whole x.type ≤ w.slots.width t)

abbrev pub AreKept : Scene → (ℕ → Owner) → Known → ℕ → Type 0
AreKept w owner x a = (j : ℕ) → j < held_words w.programs.whole x.type → (i : ℕ) × (owner (a + j) ≡ Kept i)

-- an integer has 1, 2, 4 or 8 bytes
abbrev pub IsPlainType : HeldType → Type 0
IsPlainType (IntegerOf i) = IsAccessSize i.bytes
IsPlainType x = ⊤

-- what is so of all that is known of a temporary; a site tells of each pointer
pub record Settled (w : Scene) (owner : ℕ → Owner) (t : Temp) (x : Known) : Type 0 where
  pub slots : (a : ℕ) → x.place ≡ Some a → AreInColumn w t x a ⊎ AreKept w owner x a
  pub plain : IsPlainType x.type
  pub asked : IsAsked w.programs.sites x.type

-- a slot holds a word where an integer stands in it, by its low bytes too
abbrev pub IsWordFor : HeldType → ℕ → Type 0
IsWordFor (IntegerOf i) n = n < 2 ^ 64
IsWordFor x n = ⊤

-- The two machines are at one point of a body, which a call one deeper than that around it runs, if it isn't function 0's: beside what is so wherever
-- a call has come to, each temporary of which something is known holds
-- a value of its type, and slots that writing another temporary leaves stand for it; the kept slots hold what they are kept for, and the slot
-- that is never written holds 0.
pub record Point (w : Scene) (g : AreSlots w.slots) (b : Running) (known : Knowledge) (l : code.Local) (c : flat.Local) : Type 0 where
  pub there : There w.programs b l.state c.state
  pub outer : b.outer ≤ b.depth
  -- a function is called from a call that is one less deep
  pub called : w.number ≢ 0 → b.depth ≡ suc b.outer
  pub variables : b.variables ≡ w.variables
  pub held : (t : Temp) (x : Known) → known t ≡ Some x → Holds w.programs l.state b.depth x.type (l.temps t)
  pub stands : (t : Temp) (x : Known) → known t ≡ Some x → StandsFor (ground_of w.programs l.state c.state) c.slots x x.type (l.temps t)
  pub words : (t : Temp) (x : Known) → known t ≡ Some x → (a : ℕ) → x.place ≡ Some a → IsWordFor x.type (slot c a)
  pub kept : (j : ℕ) (x : KeptSlot) → slice_get w.slots.kept j ≡ Some x → IsThere (length l.state.memory.objects) b.first x.content
      × (slot c x.slot ≡ content_word (ground_of w.programs l.state c.state) b.first x.content)
  pub nought : slot c w.slots.nought ≡ 0
  pub count : length c.slots ≡ w.slots.count
  pub settled : (t : Temp) (x : Known) → known t ≡ Some x → Settled w g.owner t x

-- What an instruction may write

-- a slot that an instruction which gives a value into a temporary must leave
abbrev pub IsSpared : Temp → Owner → Type 0
IsSpared into (Column t j) = is_same t into ≡ false
IsSpared into (Working j) = ⊥
IsSpared into (Argument j) = ⊥
IsSpared into Nought = ⊤
IsSpared into (Kept j) = ⊤

pub record Wrote (w : Scene) (g : AreSlots w.slots) (into : Temp) (slots after : List ℕ) : Type 0 where
  pub others : (a : ℕ) → IsSpared into (g.owner a) → slice_index after a ≡ slice_index slots a
  pub long : length after ≡ length slots

-- a slot that an instruction which gives none must leave
abbrev pub IsLasting : Owner → Type 0
IsLasting (Column t j) = ⊤
IsLasting (Working j) = ⊥
IsLasting (Argument j) = ⊥
IsLasting Nought = ⊤
IsLasting (Kept j) = ⊤

pub record Passed (w : Scene) (g : AreSlots w.slots) (slots after : List ℕ) : Type 0 where
  pub others : (a : ℕ) → IsLasting (g.owner a) → slice_index after a ≡ slice_index slots a
  pub long : length after ≡ length slots

-- What is known of a temporary once a value is written into it: it holds the value, and slots that stay stand for it.
pub record Fits (w : Scene) (g : AreSlots w.slots) (b : Running) (into : Temp) (v : Value) (s : source.State) (d : flat.Local) (x : Known) : Type 0 where
  pub held : Holds w.programs s b.depth x.type v
  pub stands : StandsFor (ground_of w.programs s d.state) d.slots x x.type v
  pub word : (a : ℕ) → x.place ≡ Some a → IsWordFor x.type (slot d a)
  pub settled : Settled w g.owner into x

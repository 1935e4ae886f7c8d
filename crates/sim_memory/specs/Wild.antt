-- Memory with tags: what loads and stores through WILD pointers leave of related states.
use Rattle.std.specs.Prelude.{◌≡◌, ◌≢◌, ℕ, ◌+◌, ◌*◌, ◌%◌, ◌^◌, ◌<◌, ◌≤◌, ℤ, pos, true, List, [], ◌∷◌, length, slice_get, slice_set, Some, is_some, nat_le, IsTrue}
use Rattle.cc_base.specs.declared.kind.Kind.{Kind}
use Rattle.cc_base.specs.declared.kind.Kind.TheVariants.{Wild}
use Rattle.cc_base.specs.declared.number.TypeId.{TypeId}
use Rattle.cc_base.specs.declared.number.NodeId.{NodeId}
use Rattle.kind_sites.specs.declared.site.Site.{Site}
use Rattle.c_types.specs.Cells.{Cell, raw, AreOrdered}
use Rattle.c_types.specs.Equality.{cells_of}
use Rattle.integers.specs.Words.{residue, truth_word}
use Rattle.integers.specs.Arithmetic.{IntegerType, bits_of}
use Rattle.flat_mem.specs.Bytes.{IsAccessSize}
use Rattle.flat_mem.specs.declared.Area.{Area}
use Rattle.flat_mem.specs.Memory.{block_fits, block_address}
use Rattle.runs.specs.Outcome.{Done}
use Rattle.runs.specs.Control.{Goes}
use Rattle.src_mem.specs.Pointers.{Location, Pointer, At, Null}
use Rattle.src_mem.specs.Memory.{Object, zero_object, charge_of, holds_none, holds_pointer_at, pointer_or_null}
use Rattle.src_mem.specs.State as source
use Rattle.src_mem.specs.State.{Setting}
use Rattle.src_mem.specs.Checks.{InObject, holds}
use Rattle.src_mem.specs.Facts.{IsSoundMemory}
use Rattle.src_mem.specs.Primitives.{load_pointer, store_integer, store_pointer, clear, copy, with_block, heap_limit}
use Rattle.cured_code.specs.declared.instr.Instr.TheVariants as instr
use Rattle.cured_code.specs.FlatState as flat
use Rattle.cured_code.specs.FlatState.{slot, with_slot}
use Rattle.cured_code.specs.FlatMachine.{Context, act, run}
use Rattle.check_forms.specs.declared.slots.PointerSlots.{PointerSlots}
use Rattle.sim_relation.specs.Ground.{address, first_word, second_word}
use Rattle.sim_relation.specs.Related.{Related, ground_of}
use Rattle.sim_checks.specs.Rows.{IsChecked}
use Rattle.sim_memory.specs.Found.{IsFound, GoOnAlike}
use Rattle.sim_memory.specs.Laws.{IntegerIsLoaded, AreBelowHeap}

-- The pointer stands at so many bytes of a living object with tags; these are the address of the first one and that of the area.
pub record IsFoundTagged (w : Setting) (number_of : TypeId → ℕ) (s : source.State) (c : flat.State) (n : ℕ) (p : Pointer) (a b : ℕ) : Type 0 where
  pub location : Location
  pub is : p ≡ At location
  pub object : Object
  pub at : ℕ
  pub found : slice_get s.memory.objects location.object ≡ Some object
  pub live : object.live ≡ true
  pub tagged : w.kind object.node ≡ Wild
  pub offset : location.offset ≡ pos at
  pub inside : at + n ≤ object.size
  pub base : b ≡ address (ground_of w number_of s c) location.object
  pub here : a ≡ address (ground_of w number_of s c) location.object + at

-- A WILD pointer that WBOUNDS lets pass is found.
abbrev pub WildBytesAreFound : Type 0
WildBytesAreFound = (w : Setting) (number_of : TypeId → ℕ) (s : source.State) (c : flat.State) (depth : ℕ) (t : TypeId) (q : Pointer) (e : ℕ → ℕ) (p : PointerSlots)
    (n : ℕ) → IsChecked w number_of s c depth Wild t q e p → holds w s.memory (InObject n q) ≡ true
    → IsFoundTagged w number_of s c n q (e p.first) (e p.second)

-- the tag of a word, and the base word behind it
abbrev pub TagsAreRead : Type 0
TagsAreRead = (w : Setting) (number_of : TypeId → ℕ) (p : Pointer) (s : source.State) (x : Context) (v a b : ℕ) (c : flat.Local) → Related w number_of s c.state
    → (f : IsFoundTagged w number_of s c.state 8 p (slot c a) (slot c b)) → f.at % 8 ≡ 0
    → act (instr.Tagged v a b) x c ≡ Done Goes (with_slot v (truth_word (is_some (f.object.pointers f.at))) c)

abbrev pub BasesAreRead : Type 0
BasesAreRead = (w : Setting) (number_of : TypeId → ℕ) (p q : Pointer) (s : source.State) (x : Context) (v a b : ℕ) (c : flat.Local) → Related w number_of s c.state
    → (f : IsFoundTagged w number_of s c.state 8 p (slot c a) (slot c b)) → f.at % 8 ≡ 0 → f.object.pointers f.at ≡ Some q
    → act (instr.Base v a b) x c ≡ Done Goes (with_slot v (second_word (ground_of w number_of s c.state) Wild q) c)

-- A WILD pointer is loaded: its first word. Its base is 0 where the word has no tag.
abbrev pub WildPointersAreLoaded : Type 0
WildPointersAreLoaded = (w : Setting) (number_of : TypeId → ℕ) (p : Pointer) (s : source.State) (x : Context) (v a b : ℕ) (c : flat.Local) → Related w number_of s c.state
    → (f : IsFoundTagged w number_of s c.state 8 p (slot c a) (slot c b)) → f.at % 8 ≡ 0 → holds_pointer_at f.at f.object ≡ true
    → GoOnAlike w number_of s c (load_pointer Wild p s) (act (instr.Ld 8 v a) x c) (pointer_or_null (f.object.pointers f.at))
    (slice_set c.slots v (first_word (ground_of w number_of s c.state) Wild (pointer_or_null (f.object.pointers f.at))))

-- an integer is loaded where no pointer stands over its bytes
abbrev pub WildIntegersAreLoaded : Type 0
WildIntegersAreLoaded = (w : Setting) (number_of : TypeId → ℕ) (i : IntegerType) (p : Pointer) (s : source.State) (x : Context) (v a b : ℕ) (c : flat.Local)
    → IsAccessSize i.bytes → Related w number_of s c.state → (f : IsFoundTagged w number_of s c.state i.bytes p (slot c a) (slot c b))
    → holds_none i.bytes f.at f.object ≡ true → IntegerIsLoaded w number_of Wild i p s x v a c

-- A pointer is stored with its tag and its base word, and a null pointer as zeros without one.
abbrev pub WildPointersAreStored : Type 0
WildPointersAreStored = (w : Setting) (number_of : TypeId → ℕ) (p q : Pointer) (s : source.State) (x : Context) (a b v u : ℕ) (c : flat.Local)
    → Related w number_of s c.state → (f : IsFoundTagged w number_of s c.state 8 p (slot c a) (slot c b)) → f.at % 8 ≡ 0 → q ≢ Null
    → slot c v ≡ first_word (ground_of w number_of s c.state) Wild q → slot c u ≡ second_word (ground_of w number_of s c.state) Wild q
    → slot c v < 2 ^ 64 → slot c u < 2 ^ 64
    → GoOnAlike w number_of s c (store_pointer Wild p q s) (run (instr.St 8 a v ∷ instr.Mark a b u ∷ []) x c) tt c.slots

abbrev pub NullsAreStored : Type 0
NullsAreStored = (w : Setting) (number_of : TypeId → ℕ) (p : Pointer) (s : source.State) (x : Context) (a b : ℕ) (c : flat.Local) → Related w number_of s c.state
    → (f : IsFoundTagged w number_of s c.state 8 p (slot c a) (slot c b)) → f.at % 8 ≡ 0
    → GoOnAlike w number_of s c (store_pointer Wild p Null s) (act (instr.Tzero a b 8) x c) tt c.slots

-- An integer is stored: what tags its bytes touch go.
abbrev pub WildIntegersAreStored : Type 0
WildIntegersAreStored = (w : Setting) (sites : List Site) (number_of : TypeId → ℕ) (i : IntegerType) (p : Pointer) (z : ℤ) (s : source.State) (x : Context) (a b v : ℕ)
    (c : flat.Local) → IsAccessSize i.bytes → IsSoundMemory w sites s.memory → Related w number_of s c.state
    → IsFoundTagged w number_of s c.state i.bytes p (slot c a) (slot c b) → slot c v % 2 ^ bits_of i ≡ residue z (2 ^ bits_of i)
    → GoOnAlike w number_of s c (store_integer Wild i p z s) (run (instr.Untag a b i.bytes ∷ instr.St i.bytes a v ∷ []) x c) tt c.slots

-- An object with tags becomes zero as a whole, and all its tags go.
abbrev pub WildObjectsAreCleared : Type 0
WildObjectsAreCleared = (w : Setting) (number_of : TypeId → ℕ) (k : ℕ) (o : Object) (s : source.State) (x : Context) (a b : ℕ) (c : flat.Local)
    → slice_get s.memory.objects k ≡ Some o → o.live ≡ true → w.kind o.node ≡ Wild → 0 < o.size → Related w number_of s c.state
    → slot c a ≡ address (ground_of w number_of s c.state) k → slot c b ≡ address (ground_of w number_of s c.state) k
    → GoOnAlike w number_of s c (clear k s) (act (instr.Tzero a b o.size) x c) tt c.slots

-- Blocks with tags

abbrev pub tagged_area : ℕ → Area
tagged_area size = record { tagged = true; bytes = size }

abbrev pub TaggedBlocksFitAlike : Type 0
TaggedBlocksFitAlike = (w : Setting) (number_of : TypeId → ℕ) (s : source.State) (c : flat.State) (size : ℕ) (cells : List Cell) → Related w number_of s c
    → AreOrdered cells → length cells ≡ size → c.memory.bounds.heap_limit ≡ heap_limit
    → c.memory.bounds.heap_end ≡ c.memory.bounds.stack_end + 3 * heap_limit
    → block_fits c.memory (tagged_area size) (charge_of size) ≡ nat_le (s.memory.heap_bytes + charge_of size) heap_limit

abbrev pub TaggedBlocksAreMade : Type 0
TaggedBlocksAreMade = (w : Setting) (sites : List Site) (number_of : TypeId → ℕ) (s : source.State) (c : flat.State) (n : NodeId) (size : ℕ) (cells : List Cell)
    → w.kind n ≡ Wild → IsSoundMemory w sites s.memory → Related w number_of s c → AreBelowHeap w number_of s c → AreOrdered cells → length cells ≡ size
    → IsTrue (block_fits c.memory (tagged_area size) (charge_of size))
    → Related w number_of (with_block (zero_object 0 n size cells) s) (flat.with_block (tagged_area size) (charge_of size) c)
    × AreBelowHeap w number_of (with_block (zero_object 0 n size cells) s) (flat.with_block (tagged_area size) (charge_of size) c)
    × (address (ground_of w number_of (with_block (zero_object 0 n size cells) s) (flat.with_block (tagged_area size) (charge_of size) c)) (length s.memory.objects)
    ≡ block_address c.memory)

-- Copies

-- Whole words are copied between objects with tags, with all pointers that stand in them; they may be one object.
abbrev pub TaggedWordsAreCopied : Type 0
TaggedWordsAreCopied = (w : Setting) (sites : List Site) (number_of : TypeId → ℕ) (p q : Pointer) (s : source.State) (x : Context) (a b d e n : ℕ) (c : flat.Local)
    → IsSoundMemory w sites s.memory → Related w number_of s c.state → (f : IsFoundTagged w number_of s c.state n p (slot c d) (slot c e))
    → (h : IsFoundTagged w number_of s c.state n q (slot c a) (slot c b)) → 0 < n → n % 8 ≡ 0 → f.at % 8 ≡ 0 → h.at % 8 ≡ 0
    → GoOnAlike w number_of s c (copy n Wild p Wild q s) (act (instr.Tmove a b d e n) x c) tt c.slots

-- Bytes that are no pointer's are copied from an object without tags into one with tags: what tags they touch there go.
abbrev pub PlainBytesAreCopied : Type 0
PlainBytesAreCopied = (w : Setting) (sites : List Site) (number_of : TypeId → ℕ) (kind : Kind) (t : TypeId) (p q : Pointer) (s : source.State) (x : Context) (a b d : ℕ)
    (c : flat.Local) → kind ≢ Wild → ((i : ℕ) → i < length (cells_of w.table t) → slice_get (cells_of w.table t) i ≡ Some raw) → 0 < length (cells_of w.table t)
    → IsSoundMemory w sites s.memory → Related w number_of s c.state → IsFound w number_of s c.state t p (slot c d)
    → IsFoundTagged w number_of s c.state (length (cells_of w.table t)) q (slot c a) (slot c b)
    → GoOnAlike w number_of s c (copy (length (cells_of w.table t)) kind p Wild q s)
    (run (instr.Untag a b (length (cells_of w.table t)) ∷ instr.Move a d (length (cells_of w.table t)) ∷ []) x c) tt c.slots

-- Bytes that are no pointer's are copied between objects with tags, which may be one object, and their places there may overlap: what tags they
-- touch in the target go, and the source's bytes are read as they were.
abbrev pub TaggedPlainBytesAreCopied : Type 0
TaggedPlainBytesAreCopied = (w : Setting) (sites : List Site) (number_of : TypeId → ℕ) (p q : Pointer) (s : source.State) (x : Context) (a b d e n : ℕ)
    (c : flat.Local) → 0 < n → IsSoundMemory w sites s.memory → Related w number_of s c.state
    → (f : IsFoundTagged w number_of s c.state n p (slot c d) (slot c e)) → holds_none n f.at f.object ≡ true
    → IsFoundTagged w number_of s c.state n q (slot c a) (slot c b)
    → GoOnAlike w number_of s c (copy n Wild p Wild q s) (run (instr.Untag a b n ∷ instr.Move a d n ∷ []) x c) tt c.slots

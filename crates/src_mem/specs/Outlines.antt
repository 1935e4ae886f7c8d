-- What pointers and calls know of objects, whatever is stored in them.
use Rattle.std.specs.Prelude.{◌≡◌, ◌≢◌, ℕ, ◌≤◌, Bool, true, List, map, length, slice_get, Some}
use Rattle.cc_base.specs.declared.number.NodeId.{NodeId}
use Rattle.cc_base.specs.declared.kind.Kind.TheVariants.{Wild}
use Rattle.c_types.specs.Cells.{Cell, AreOrdered}
use Rattle.src_mem.specs.Memory.{Object, Memory}
use Rattle.src_mem.specs.State.{Setting}

-- What of an object the pointers to it depend on. It never changes.
pub record Outline : Type 0 where
  -- of how many calls the innermost made it, the node of its home or allocation, its size in bytes, and its cells
  pub depth : ℕ
  pub node : NodeId
  pub size : ℕ
  pub cells : List Cell

-- How long an object lives: as long as the call of this depth. The end of a call changes it, and nothing else does.
pub record Life : Type 0 where
  pub depth : ℕ
  pub live : Bool

abbrev pub outline : Object → Outline
outline o = record { depth = o.depth; node = o.node; size = o.size; cells = o.cells }

abbrev pub life : Object → Life
life o = record { depth = o.depth; live = o.live }

abbrev pub outlines_of : Memory → List Outline
outlines_of memory = map outline memory.objects

abbrev pub lives_of : Memory → List Life
lives_of memory = map life memory.objects

-- Each object has as many cells as bytes, and without tags its pointers are whole. A block for a WILD pointer may end within one.
pub record AreOutlines (w : Setting) (outlines : List Outline) : Type 0 where
  pub celled : (k : ℕ) (o : Outline) → slice_get outlines k ≡ Some o → length o.cells ≡ o.size
  pub ordered : (k : ℕ) (o : Outline) → slice_get outlines k ≡ Some o → w.kind o.node ≢ Wild → AreOrdered o.cells

-- object number n lives, and was made no deeper than this
pub record LivesAt (lives : List Life) (depth n : ℕ) : Type 0 where
  pub life : Life
  pub found : slice_get lives n ≡ Some life
  pub live : life.live ≡ true
  pub older : life.depth ≤ depth

-- no object lives that was made deeper than the running call
pub record AreNoDeeper (lives : List Life) (depth : ℕ) : Type 0 where
  pub each : (n : ℕ) (x : Life) → slice_get lives n ≡ Some x → x.live ≡ true → x.depth ≤ depth

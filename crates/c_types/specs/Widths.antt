use Rattle.std.specs.Prelude.{ℕ, zero, suc, ◌+◌, ℤ, pos, ◌+ℤ◌, ◌*ℤ◌, List, [], ◌∷◌, length, ◌==◌, if◌then◌else◌}
use Rattle.std.specs.Int.{int_div_euclid}
use Rattle.integers.specs.Words.{residue}
use Rattle.cc_base.specs.declared.number.TypeId.{TypeId}
use Rattle.cc_base.specs.declared.number.NodeId.{NodeId}
use Rattle.cc_base.specs.declared.kind.Kind.{Kind}
use Rattle.cc_base.specs.declared.kind.Kind.TheVariants.{Safe, Seq, Rtti, Wild}
use Rattle.c_types.specs.Table.{Table, entry_at, is_complete}
use Rattle.c_types.specs.Layouts.{size_of}
use Rattle.c_types.specs.Cells.{Cell, pointer}
use Rattle.c_types.specs.Equality.{cells_of}

-- How many bytes a cell, a type and a part of an object take once the program is cured.

-- the bytes of a pointer of this kind: an address; with the start and the end of its part; with a
-- type node; with the base of its area
abbrev pub kind_width : Kind → ℕ
kind_width Safe = 8
kind_width Seq = 24
kind_width Rtti = 16
kind_width Wild = 16

-- all of a pointer's width counts at its last byte
abbrev pub cell_width : (NodeId → Kind) → Cell → ℕ
cell_width kind (pointer node to i) = if i == 7 then kind_width (kind node) else 0
cell_width kind cell = 1

-- the bytes that the first i cells take
abbrev pub before : (NodeId → Kind) → List Cell → ℕ → ℕ
before kind cells zero = 0
before kind [] (suc i) = 0
before kind (c ∷ cells) (suc i) = cell_width kind c + before kind cells i

-- the bytes that all of the cells take
abbrev pub width_of : (NodeId → Kind) → List Cell → ℕ
width_of kind cells = before kind cells (length cells)

abbrev pub cured_size : Table → (NodeId → Kind) → TypeId → ℕ
cured_size table kind t = width_of kind (cells_of table t)

-- a stair: each n further are m further, and the first r of n are f r
abbrev pub stair : (ℕ → ℕ) → ℕ → ℕ → ℤ → ℤ
stair f n m z = int_div_euclid z (pos n) *ℤ pos m +ℤ pos (f (residue z n))

-- how far a pointer to t that stands z bytes into its part stands into it once cured; it may stand before its part
abbrev pub cured_distance : Table → (NodeId → Kind) → TypeId → ℤ → ℤ
cured_distance table kind t z =
    if is_complete (entry_at table t)
    then stair (before kind (cells_of table t)) (size_of table t) (cured_size table kind t) z
    else pos 0

-- A range of bytes, from the address `start` up to the address `end`.
pub record ByteRange : Type 0 where
  pub start : ℕ
  pub end : ℕ

-- the cured image of the bytes from `offset` on, as many as `count`, of an object with these
-- cells whose area begins at `address`
abbrev pub cured_image : (NodeId → Kind) → List Cell → ℕ → ℕ → ℕ → ByteRange
cured_image kind cells address offset count = record {
  start = address + before kind cells offset;
  end = address + before kind cells (offset + count);
}

-- an area that carries tags keeps each byte where it was
abbrev pub tagged_image : ℕ → ℕ → ℕ → ByteRange
tagged_image address offset count = record { start = address + offset; end = address + offset + count }

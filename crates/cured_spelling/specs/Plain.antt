-- A program as its parts alone, without the room that its lists have for more.
use Rattle.std.specs.Prelude.{ℕ, List, [], ◌∷◌, map}
use Rattle.cured_code.specs.declared.instr.Instr.{Instr, Row_of-Instr, end_of-Instr, more_of-Instr}
use Rattle.cured_code.specs.declared.instr.Instr.TheVariants as instr
use Rattle.cured_code.specs.declared.parts.Sig.{Sig}
use Rattle.cured_code.specs.declared.parts.AreaLine.{AreaLine}
use Rattle.cured_code.specs.declared.parts.GlobalLine.{GlobalLine}
use Rattle.cured_code.specs.declared.parts.Function.{Function}
use Rattle.cured_code.specs.declared.parts.Parts.{Parts}

-- instructions in order: none, or one with those that it holds and those that come after it
pub data Tree : Type 0 where
  Empty : Tree
  Straight : Instr → Tree → Tree
  If : ℕ → Tree → Tree → Tree → Tree
  Block : Tree → Tree → Tree
  Loop : Tree → Tree → Tree

abbrev mutual
  -- an instruction, and what comes after it
  pub then : Instr → Tree → Tree
  then (instr.If' a s x t y) rest = If a (row_tree x) (row_tree y) rest
  then (instr.Block' s x) rest = Block (row_tree x) rest
  then (instr.Loop' s x) rest = Loop (row_tree x) rest
  then i rest = Straight i rest

  -- the instructions that an instruction holds
  pub row_tree : {m : _} → Row_of-Instr m → Tree
  row_tree end_of-Instr = Empty
  row_tree (more_of-Instr i rest) = then i (row_tree rest)

abbrev pub tree : List Instr → Tree
tree [] = Empty
tree (i ∷ is) = then i (tree is)

pub record PlainFunction : Type 0 where
  pub sig : ℕ
  pub slots : ℕ
  pub charge : ℕ
  pub locals : List AreaLine
  pub body : Tree

pub record PlainProgram : Type 0 where
  pub sigs : List Sig
  pub nodes : List ℕ
  pub globals : List GlobalLine
  pub functions : List PlainFunction

abbrev pub plain_function : Function → PlainFunction
plain_function f = record { sig = f.sig; slots = f.slots; charge = f.charge; locals = f.locals; body = tree f.body.0.items }

abbrev pub plain : Parts → PlainProgram
plain p = record { sigs = p.sigs; nodes = p.nodes; globals = p.globals; functions = map plain_function p.functions }

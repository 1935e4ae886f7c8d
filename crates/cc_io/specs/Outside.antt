-- What contracts see of the sources, the sinks and the files of this crate.
use Rattle.std.specs.Prelude.{ℕ, List, [], map, Option, String, Vec, unwrap_or}
use Rattle.std.specs.declared.alloc.Global.{Global}
use Rattle.std.specs.String.{string_bytes}
use Rattle.std.specs.Str.{bytes_eq}
use Rattle.std.specs.Map.{lookup}
use Rattle.std.specs.BTreeMap.{BTreeMap}

-- bytes in memory that are given in pieces
pub record PiecesState : Type 0 where
  -- the bytes that are left
  pub held : List ℕ
  -- the greatest length of one piece
  pub most : ℕ

-- a source in memory
pub record MemSourceState : Type 0 where
  -- the bytes that are left
  pub held : List ℕ
  -- the greatest length of one read
  pub most : ℕ
  -- the numbers of the calls that fail
  pub fails : List ℕ
  -- how many calls were made
  pub calls : ℕ
  pub faults : ℕ

-- a sink in memory
pub record MemSinkState : Type 0 where
  pub written : List ℕ
  -- how many bytes more it takes
  pub room : ℕ
  -- the numbers of the calls that fail
  pub fails : List ℕ
  -- how many calls were made
  pub calls : ℕ
  pub faults : ℕ

-- the names of the files of a map, each with the bytes of the file
abbrev pub named_files : BTreeMap (String Global) (Vec ℕ Global) → List (List ℕ × List ℕ)
named_files m = map (λ e. (string_bytes e.0, e.1.items)) m.entries

-- the bytes of the file of a name, if there is one
abbrev pub file_of : List (List ℕ × List ℕ) → List ℕ → Option (List ℕ)
file_of files name = lookup (bytes_eq name) files

-- the same where each name that the list doesn't have is that of an empty file
abbrev pub sure_file_of : List (List ℕ × List ℕ) → List ℕ → List ℕ
sure_file_of files name = unwrap_or (file_of files name) []

-- files in memory
pub record MemFilesState : Type 0 where
  -- their names and their bytes
  pub files : List (List ℕ × List ℕ)
  -- the numbers of the calls that fail
  pub fails : List ℕ
  -- how many calls were made
  pub calls : ℕ
  pub faults : ℕ
  -- the name in the last call that failed
  pub last : Option (List ℕ)

-- files in memory that never fail
pub record SureFilesState : Type 0 where
  -- their names and their bytes
  pub files : List (List ℕ × List ℕ)

-- a reader or a writer of std with its count of faults
pub record Counted (T : Type 0) : Type 0 where
  pub inner : T
  pub faults : ℕ

-- the files of the system, of which only their failures are told
pub record DiskState : Type 0 where
  pub faults : ℕ
  -- the name in the last call that failed
  pub last : Option (List ℕ)

-- What is known of names with linkage (C99 6.2.2, 6.9), and of objects that live as long as the program.
use Rattle.std.specs.Prelude.{List, [], ◌∷◌, ◌++◌, if◌then◌else◌}
use Rattle.cc_base.specs.declared.number.NodeId.{NodeId}
use Rattle.c_typing.specs.declared.declared.Declared.{Declared}
use Rattle.c_typing.specs.Scopes.{Name}
use Rattle.c_unit_typing.specs.Units.{is_one_of}

pub record Linkage : Type 0 where
  -- what has linkage, wherever it was declared first
  pub linked : List (Name × Declared)
  -- the names with linkage that have a definition
  pub defined : List Name
  -- the homes of the objects that live as long as the program
  pub statics : List NodeId

-- before the text
abbrev pub no_linkage : Linkage
no_linkage = record { linked = []; defined = []; statics = [] }

-- a name is one of them from here on
abbrev pub with_name : Name → List Name → List Name
with_name name names = if is_one_of names name then names else names ++ name ∷ []

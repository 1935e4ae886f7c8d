-- What is known of the names that a unit declares.
use Rattle.std.specs.Prelude.{◌≡◌, true, List, ◌++◌, flat_map}
use Rattle.cc_base.specs.declared.number.NodeId.{NodeId}
use Rattle.cc_base.specs.declared.number.TypeId.{TypeId}
use Rattle.c_types.specs.Table.{Table}
use Rattle.c_tree.specs.declared.leaf.Identifier.{Identifier}
use Rattle.c_tree.specs.TypedTree.{TypedDeclarator}
use Rattle.named_lists.specs.Entries.{entry_of}
use Rattle.src_machine.specs.Names.{Named, AnObject, AFunction, first_type, named_by}
use Rattle.src_machine.specs.Sites.{sites_of_names}
use Rattle.lower_sites.specs.HomeNames.{home_name}
use Rattle.lower_sites.specs.declared.names.Names.{Names}

-- After these declarations the types of the first ones are known, and the sites are those of all of them.
pub record IsTold (all : List Named) (n : Names) : Type 0 where
  pub objects : (home : NodeId) → entry_of n.objects (home_name home) ≡ first_type all (AnObject home)
  pub functions : (name : Identifier) → entry_of n.functions name.bytes ≡ first_type all (AFunction name)
  pub sites : n.sites.items ≡ sites_of_names all

-- Where nothing failed, these declarations were told besides.
unfoldable pub Tells : List Named → Names → Names → Type 0
Tells more before after = after.fine ≡ true → (before.fine ≡ true) × ((all : List Named) → IsTold all before → IsTold (all ++ more) after)

-- what declarators declare
unfoldable pub named_by_all : Table → List TypedDeclarator → List Named
named_by_all table ds = flat_map (named_by table) ds

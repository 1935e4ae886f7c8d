-- What a typed unit asks of the kinds of its nodes: its sites, construct by construct.
use Rattle.std.specs.Prelude.{if◌then◌else◌, ◌==◌, List, [], ◌∷◌, ◌++◌, map, flat_map, Option, None, Some}
use Rattle.cc_base.specs.declared.place.Place.{Place}
use Rattle.cc_base.specs.declared.number.NodeId.{NodeId}
use Rattle.cc_base.specs.declared.number.TypeId.{TypeId}
use Rattle.cc_base.specs.declared.kind.Kind.{Kind}
use Rattle.c_types.specs.declared.shape.TypeShape.{TypeShape}
use Rattle.c_types.specs.declared.shape.TypeShape.TheVariants as shape
use Rattle.kind_sites.specs.declared.site.Site.{Site}
use Rattle.kind_sites.specs.declared.site.Site.TheVariants as site
use Rattle.c_types.specs.Table.{Table, shape_at}
use Rattle.kind_sites.specs.Solutions as solutions
use Rattle.kind_sites.specs.Solutions.{sites_of_table}
use Rattle.c_tree.specs.declared.operator.AggregateKind.{AggregateKind}
use Rattle.c_tree.specs.declared.operator.AggregateKind.TheVariants as aggregate
use Rattle.c_tree.specs.declared.operator.Binary.{Binary}
use Rattle.c_tree.specs.declared.operator.Binary.TheVariants as binary
use Rattle.c_tree.specs.declared.typed_word.Conversion.{Conversion}
use Rattle.c_tree.specs.declared.typed_word.Conversion.TheVariants as conversion
use Rattle.c_tree.specs.TypedTree as typed
use Rattle.c_tree.specs.TypedTree.{TypedExpr, TypedPlace, TypedSpecifier, TypedInitialiser, TypedItems, TypedTranslationUnit}
use Rattle.c_tree.specs.TypedParts.{type_of, place_type, named_type, pointer_side, address_node, home_of, statics_of, functions_of, home_node}
use Rattle.src_mem.specs.Operations.{node_at, pointee_at}
use Rattle.src_mem.specs.Runs.{variables_of}
use Rattle.src_machine.specs.Machine.{head_of}
use Rattle.src_machine.specs.Pieces.{Piece, AnExpression, APlace, ASpecifier, AnInitialiser, pieces_of_unit}
use Rattle.src_machine.specs.Names.{Named, first_type, named_in}

-- the node of the address of a place
abbrev pub address_at : Table → TypedPlace → NodeId
address_at table p = address_node (node_at table) p

-- the nodes of the addresses that a place may have: of a choice between two structs those of both sides
abbrev pub addresses_at : Table → TypedPlace → List NodeId
addresses_at table (typed.ParenPlace at p) = addresses_at table p
addresses_at table (typed.StructConditional c at p q) = addresses_at table p ++ addresses_at table q
addresses_at table (typed.StructComma e p) = addresses_at table p
addresses_at table other = address_at table other ∷ []

-- a node is WILD exactly where the address of the place is
abbrev pub linked_to : Table → NodeId → TypedPlace → List Site
linked_to table n p = map (site.Linked n) (addresses_at table p)

-- a pointer of type t moves, is subtracted or is put in order
abbrev pub moves : Table → TypeId → Place → Site
moves table t at = site.Arith (node_at table t) at

-- `++`, `--` and compound assignments move a pointer; on integers they ask nothing
abbrev pub moves_where_pointer : TypeShape → Place → List Site
moves_where_pointer (shape.Pointer node to) at = site.Arith node at ∷ []
moves_where_pointer other at = []

-- a conversion of a value of type t to the type u
abbrev pub sites_of_conversion : Table → Conversion → Place → TypeId → TypeId → List Site
sites_of_conversion table conversion.PointerToPointer at t u =
    site.Flow (node_at table t) (pointee_at table t) (node_at table u) (pointee_at table u) at ∷ []
sites_of_conversion table conversion.IntegerToPointer at t u = site.Integer (node_at table u) at ∷ []
sites_of_conversion table which at t u = []

-- `<`, `>`, `<=` and `>=` of pointers of the types t and u
abbrev pub sites_of_comparison : Table → Binary → Place → TypeId → TypeId → List Site
sites_of_comparison table binary.Equal at t u = []
sites_of_comparison table binary.NotEqual at t u = []
sites_of_comparison table order at t u = moves table t at ∷ moves table u at ∷ []

-- What an expression asks by itself
abbrev pub sites_of_expression : Table → TypedExpr → List Site
-- the address of an array's first element, and of a place, is that of a part of its object
sites_of_expression table (typed.Decay p n t) = site.Linked n (address_at table p) ∷ []
sites_of_expression table (typed.AddressOf at p n t) = site.Linked n (address_at table p) ∷ []
sites_of_expression table (typed.Convert which at t e) = sites_of_conversion table which at (type_of e) t
sites_of_expression table (typed.Cast which at to e) = sites_of_conversion table which at (type_of e) (named_type to)
sites_of_expression table (typed.StepBefore which at p) = moves_where_pointer (shape_at table (place_type p)) at
sites_of_expression table (typed.StepAfter p which at) = moves_where_pointer (shape_at table (place_type p)) at
sites_of_expression table (typed.AssignWith operator p at e t) = moves_where_pointer (shape_at table (place_type p)) at
sites_of_expression table (typed.Moved operator which a at b t) = moves table (type_of (pointer_side which a b)) at ∷ []
sites_of_expression table (typed.Difference a at b t) = moves table (type_of a) at ∷ moves table (type_of b) at ∷ []
sites_of_expression table (typed.Compared operator a at b t) = sites_of_comparison table operator at (type_of a) (type_of b)
sites_of_expression table other = []

-- what a place asks by itself
abbrev pub sites_of_place : Table → TypedPlace → List Site
sites_of_place table (typed.Element which a at b t) = moves table (type_of (pointer_side which a b)) at ∷ []
-- a member's place is an address of a part of its struct
sites_of_place table (typed.Member p at name i n t) = site.Pointee n t ∷ linked_to table n p
sites_of_place table (typed.MemberAt e at name i n t) = site.Pointee n t ∷ site.Linked n (node_at table (type_of e)) ∷ []
-- the two sides of an assignment of structs or unions, and of a choice between them
sites_of_place table (typed.StructAssign p at q) = linked_to table (address_at table p) q
sites_of_place table (typed.StructConditional c at p q) = site.Linked (address_at table p) (address_at table q) ∷ []
sites_of_place table other = []

-- the union whose members stand there
abbrev pub sites_of_aggregate : AggregateKind → Place → TypeId → List Site
sites_of_aggregate aggregate.Struct at t = []
sites_of_aggregate aggregate.Union at t = site.Union t at ∷ []

abbrev pub sites_of_specifier : TypedSpecifier → List Site
sites_of_specifier (typed.Aggregate kind at name brace members t) = sites_of_aggregate kind at t
sites_of_specifier other = []

-- an initialiser that is a struct or union is an assignment to the object with this home
abbrev mutual
  pub copies_in : Table → NodeId → TypedInitialiser → List Site
  copies_in table n (typed.Value e) = []
  copies_in table n (typed.Copied p at) = linked_to table n p
  copies_in table n (typed.Text pieces bytes) = []
  copies_in table n (typed.Listed at items comma t) = copies_in_items table n items

  pub copies_in_items : Table → NodeId → TypedItems → List Site
  copies_in_items table n typed.NoItem = []
  copies_in_items table n (typed.AndItem all offset t i) = copies_in_items table n all ++ copies_in table n i

abbrev pub copies_to : Table → Option NodeId → TypedInitialiser → List Site
copies_to table None i = []
copies_to table (Some n) i = copies_in table n i

abbrev pub sites_of_piece : Table → Piece → List Site
sites_of_piece table (AnExpression e) = sites_of_expression table e
sites_of_piece table (APlace p) = sites_of_place table p
sites_of_piece table (ASpecifier s) = sites_of_specifier s
sites_of_piece table (AnInitialiser d i) = copies_to table (home_node (home_of d)) i

-- Homes

-- the home of each static object, literal, named parameter and local variable
abbrev pub sites_of_homes : TypedTranslationUnit → List Site
sites_of_homes u = map (λ o. site.Home o.home o.type) (statics_of u)
    ++ flat_map (λ f. map (λ v. site.Home v.node v.type) (variables_of (head_of f))) (functions_of u)

-- Declarations of one name

-- a type, and the one with which the same was declared first; two that are one need no site
abbrev pub same_as : TypeId → Option TypeId → List Site
same_as t None = []
same_as t (Some first) = if first.0 == t.0 then [] else site.Same first t ∷ []

abbrev pub sites_of_names : List Named → List Site
sites_of_names all = flat_map (λ x. same_as x.type (first_type all x.which)) all

-- all sites of a unit with its table of types, in which each pointer type stands, also that of an address
abbrev pub sites_of : TypedTranslationUnit → Table → List Site
sites_of u table =
    sites_of_table table ++ sites_of_homes u ++ flat_map (sites_of_piece table) (pieces_of_unit u)
    ++ sites_of_names (named_in u table)

-- A map from nodes to kinds is a solution of a typed unit.
abbrev pub IsSolution : TypedTranslationUnit → Table → (NodeId → Kind) → Type 0
IsSolution u table kind = solutions.IsSolution table (sites_of u table) kind

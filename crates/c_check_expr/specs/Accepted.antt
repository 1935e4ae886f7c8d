-- When a call accepts: where a well typed tree of what it was given stands at the point of the text, and no limit is met, the answer is that
-- tree, or memory is wanted.
use Rattle.std.specs.Prelude.{◌≡◌, ◌≤◌, ◌<◌, ◌+◌, ◌*◌, ℕ, List, length, Result, Ok, Err}
use Rattle.std.specs.List.{All}
use Rattle.cc_base.specs.declared.fault.Fault.{Fault}
use Rattle.cc_base.specs.declared.fault.Fault.TheVariants.{NoMemory}
use Rattle.cc_base.specs.declared.number.TypeId.{TypeId}
use Rattle.c_types.specs.Table.{Table, shape_at}
use Rattle.c_tree.specs.Erasure.{erased_declarator}
use Rattle.c_tree.specs.Symbols.{Symbol}
use Rattle.c_tree.specs.Tree as tree
use Rattle.c_tree.specs.TypedParts.{Made, declared_type, home_of, made_by_declarator, name_of, form_of}
use Rattle.c_tree.specs.TypedTree.{TypedDeclarator}
use Rattle.c_tree_sizes.specs.Pieces.{HasPieces}
use Rattle.c_type_order.specs.TypesUsed.{AreUses, Use}
use Rattle.c_typing.specs.Assignments.{literal_cost}
use Rattle.c_typing.specs.declared.naming.Naming.{Naming}
use Rattle.c_typing.specs.Declarators.{FormMakes, Outermost}
use Rattle.c_typing.specs.Declaring.{unless_function}
use Rattle.c_typing.specs.Judging.{State}
use Rattle.c_typing.specs.Settled.{IsBasic}
use Rattle.c_typing.specs.Shapes.{is_function_shape}
use Rattle.c_typing.specs.Typing.{IsForm}
use Rattle.c_typing_given.specs.Given.{IsHere, IsReached}
use Rattle.c_typing_given.specs.Limits.{IsLimited}
use Rattle.c_typing_given.specs.Spending.{total}
use Rattle.c_typing_laws.specs.Judged.{IsHomeOf}
use Rattle.c_typing_unique.specs.Points.{Numbers, Point}
use Rattle.c_cells_kept.specs.Counted.{copied_by}

-- From the state s, at a point of a text whose table is T, a tree can be given that has these tokens, and makes and uses so much, of a text
-- whose expressions hold at most `held` values at once: the types that it uses are numbered in the order of their first use, `count` of them
-- are there after it, and no limit is met.
pub record CanBeGiven (T : Table) (tokens : List Symbol) (made : List Made) (uses : List Use) (held : ℕ) (s : State) (count : ℕ) : Type 0 where
  pub basic : IsBasic T
  pub limited : IsLimited T
  pub here : IsHere T s
  pub used : AreUses uses (length s.table) count
  -- each string literal has a piece
  pub spelled : All HasPieces made
  -- 32 bits can number eight nodes for each token: more are never made
  pub numbered : s.seen.node + 8 * length tokens < 4294967296
  -- the bytes of literals are within their limit
  pub globals : s.seen.globals + total literal_cost made ≤ 4194304
  -- and so are the pointers that assignments of structs move
  pub cells : s.seen.cells + total (copied_by T) made ≤ 65536
  pub few : held ≤ 256

-- A typed declarator of d stands from the point a to the point b, whose name is to be `which`, and it makes its type of the type `base`. The
-- name of a function has no home.
pub record IsDeclaratorRead (T : Table) (which : Naming) (outermost : Outermost) (base : TypeId) (d : tree.Declarator) (one : TypedDeclarator) (a b : Point) : Type 0 where
  pub erases : erased_declarator one ≡ d
  pub form : IsForm T (form_of one) a.scopes b.scopes
  pub numbers : Numbers (made_by_declarator one) a.node b.node
  pub makes : FormMakes T b.scopes (form_of one) outermost base (declared_type one)
  pub home : IsHomeOf (unless_function (is_function_shape (shape_at T (declared_type one))) which) (name_of one) (home_of one)

-- the answer is the tree, and the state after it is at the point b, with `count` types; or memory is wanted
abbrev pub IsTaken : {A B : Type 0} → (B → A) → A → Table → List Made → State → Point → ℕ → Result B Fault → State → Type 0
IsTaken view x T made s b count (Ok answer) after = (view answer ≡ x) × IsReached T made s after b count
IsTaken view x T made s b count (Err fault) after = fault ≡ NoMemory

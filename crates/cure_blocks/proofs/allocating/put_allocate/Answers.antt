use Rattle.c_types.specs.Cells.{holds_pointer}
use Rattle.check_insert.proofs.Laws.{grows_as}
use Rattle.cure_scope.specs.Scopes.{fixed_column, whole_of, world_of}
use Rattle.cure_blocks.specs.Blocks.{MallocLines, CallocLines}
use Rattle.cure_blocks.proofs.ConvertLaws.{grows_found}
use Rattle.cure_blocks.proofs.AllocateLaws.{malloc_cured, calloc_cured}
use Rattle.cure_blocks.proofs.allocating.put_allocate.Goals as goal

pub returns-in-Malloc : goal.returns-in-Malloc
returns-in-Malloc c types =
    let k = c.args.k.now in
    let i = c.in-Malloc in
    let told = rw c.requires at c.holds_pointer-holds.ensures in
    let words = rw (c.kind_of-kind.ensures, c.column.ensures.value, c.column-in-Malloc.ensures.value) at c.put_malloc.ensures in
    rw c.in-Malloc.is (grows_as _ _ _ _ _ (malloc_cured k types i.into i.size i.node i.ty i.place)
    (grows_found c.holds_pointer-holds.result (holds_pointer k.layouts.now.table i.ty)
    (λ x. MallocLines (world_of k) ((whole_of k).kind i.node) x i.ty (fixed_column i.into) (fixed_column i.size) i.place)
    _ _ _ _ told words))

pub returns-in-Calloc : goal.returns-in-Calloc
returns-in-Calloc c types =
    let k = c.args.k.now in
    let i = c.in-Calloc in
    let told = rw c.requires at c.holds_pointer-holds-in-Calloc.ensures in
    let words = rw (c.kind_of-kind-in-Calloc.ensures, c.column-in-Calloc.ensures.value, c.column-in-Calloc-2.ensures.value, c.column-in-Calloc-3.ensures.value)
    at c.put_calloc.ensures in
    rw c.in-Calloc.is (grows_as _ _ _ _ _ (calloc_cured k types i.into i.number i.size i.node i.ty i.place)
    (grows_found c.holds_pointer-holds-in-Calloc.result (holds_pointer k.layouts.now.table i.ty)
    (λ x. CallocLines (world_of k) ((whole_of k).kind i.node) x i.ty (fixed_column i.into) (fixed_column i.number) (fixed_column i.size) i.place)
    _ _ _ _ told words))

-- The flat memory has room for what the program may make, and a call of a sound memory begins with related states.
use Rattle.std.proofs.Common.{◌≡◌, ◌≢◌, ℕ, zero, suc, ◌+◌, ◌-◌, ◌*◌, ◌^◌, ◌<◌, ◌≤◌, ◌⊎◌, inl, inr, Bool, true, false, List, [], ◌∷◌, map, length, slice_get, Some, refl, ap, arith, if◌then◌else◌}
use Rattle.std.specs.Prelude.{◌==◌, slice_index_or, IsTrue}
use Rattle.std.proofs.lemmas.Option.{slice_get-get_or, slice_get_within}
use Rattle.std.proofs.lemmas.Bool.Decides.{nat_tests}
use Rattle.std.proofs.lemmas.List.{length-map}
use Rattle.std.proofs.lemmas.List.Sums.{sum_by-cons}
use Rattle.cc_base.specs.declared.number.TypeId.{TypeId}
use Rattle.cc_base.specs.declared.number.NodeId.{NodeId}
use Rattle.cc_base.specs.declared.kind.Kind.{Kind}
use Rattle.cc_base.specs.declared.kind.Kind.TheVariants.{Safe, Seq, Rtti, Wild}
use Rattle.kind_sites.specs.declared.site.Site.{Site}
use Rattle.c_types.specs.Table.{IsComplete}
use Rattle.c_types.specs.Cells.{Cell, raw, pointer, mixed, incomplete, AreOrdered}
use Rattle.c_types.specs.Layouts.{size_of}
use Rattle.c_types.specs.Equality.{cells_of, physically_equal}
use Rattle.c_types.specs.Sound.{IsWellFormed}
use Rattle.c_types.specs.Widths.{kind_width, cell_width, before, width_of}
use Rattle.c_types.proofs.Cells.{length_cells}
use Rattle.c_types.proofs.OrderedPointers.{first_byte, cells_ordered}
use Rattle.type_laws.proofs.Widths.{before-suc, before-inside}
use Rattle.flat_mem.specs.Placement.{area_size, areas_size, tagged_size}
use Rattle.flat_mem.specs.Memory.{fits}
use Rattle.src_mem.specs.Pointers.{Location, Pointer, Null, Number, At, Function}
use Rattle.src_mem.specs.Memory.{Object, Planned, frame_charge, charge_of}
use Rattle.src_mem.specs.State as source
use Rattle.src_mem.specs.State.{Setting}
use Rattle.src_mem.specs.Primitives as primitive
use Rattle.src_mem.specs.Outlines.{Outline, outline}
use Rattle.src_mem.specs.Facts.{IsValueOf, AreSound, IsSoundMemory}
use Rattle.cured_code.specs.FlatState as flat
use Rattle.cured_code.specs.FlatMachine as machine
use Rattle.sim_relation.specs.Objects.{area_by, variable_area, frame_areas}
use Rattle.sim_relation.specs.Related.{Related}
use Rattle.sim_relation.proofs.Growth.{IsThere, AllThere}
use Rattle.sim_relation.proofs.Frames.{AreWholeTypes, related-frame}

-- a byte takes at most three, counted over whole pointers: cells up to i that begin with a pointer's first byte
three-step : (kind : NodeId → Kind) (cs : List Cell) (i : ℕ) → AreOrdered cs → (c : Cell) → slice_get cs i ≡ Some c → ((k : ℕ) → k ≤ i → before kind cs k ≤ 3 * k) → before kind cs (suc i) ≤ 3 * suc i
three-step kind cs i o raw e h = let s : before kind cs (suc i) ≡ before kind cs i + 1 = before-suc kind cs i raw e in let l = h i (omega arith) in omega (arith, s, l)
three-step kind cs i o (mixed u j) e h = let s : before kind cs (suc i) ≡ before kind cs i + 1 = before-suc kind cs i (mixed u j) e in let l = h i (omega arith) in omega (arith, s, l)
three-step kind cs i o (incomplete u) e h = let s : before kind cs (suc i) ≡ before kind cs i + 1 = before-suc kind cs i (incomplete u) e in let l = h i (omega arith) in omega (arith, s, l)
three-step kind cs i o (pointer n t j) e h =
    let s : before kind cs (suc i) ≡ before kind cs i + cell_width kind (pointer n t j) = before-suc kind cs i (pointer n t j) e in
    let b = o.least i j n t e in
    let f : slice_get cs (i - j) ≡ Some (pointer n t 0) = first_byte cs o j i n t e in
    let k : i - j + j ≡ i = (let m = b.1 in omega arith) in
    let g : before kind cs (i - j + j) ≡ before kind cs (i - j) = before-inside kind cs (i - j) n t o f j b.0 in
    let g' : before kind cs (i - j + j) ≡ before kind cs i = ap (before kind cs) k in
    let l = h (i - j) (omega arith) in
    let d : cell_width kind (pointer n t j) ≤ 3 * (j + 1) = width (kind n) j in
    let m = b.1 in omega (arith, s, g, g', l, d, m)
  where
    most : (x : Kind) → kind_width x ≤ 24
    most Safe = omega arith
    most Seq = omega arith
    most Rtti = omega arith
    most Wild = omega arith

    width : (x : Kind) (j : ℕ) → (if j == 7 then kind_width x else 0) ≤ 3 * (j + 1)
    width x j = by (j == 7) refl
      where
        by : (b : Bool) → (j == 7) ≡ b → (if b then kind_width x else 0) ≤ 3 * (j + 1)
        by true q = let y : j ≡ 7 = grind (arith, nat_tests) in let z = most x in omega arith
        by false q = omega arith

three-all : (kind : NodeId → Kind) (cs : List Cell) → AreOrdered cs → (n i : ℕ) → i ≤ n → n ≤ length cs → before kind cs i ≤ 3 * i
three-all kind cs o n zero h l = omega arith
three-all kind cs o zero (suc i) h l = absurd (omega arith)
three-all kind cs o (suc n) (suc i) h l = three-step kind cs i o (slice_index_or cs i raw) (slice_get-get_or cs i raw (omega arith)) (λ k m. three-all kind cs o n k (omega arith) (omega arith))

pub three-bytes : (kind : NodeId → Kind) (cs : List Cell) → AreOrdered cs → before kind cs (length cs) ≤ 3 * length cs
three-bytes kind cs o = three-all kind cs o (length cs) (length cs) (omega arith) (omega arith)

pub area-room : (kind : NodeId → Kind) (k : Kind) (size : ℕ) (cs : List Cell) → AreOrdered cs → length cs ≡ size → area_size (area_by kind k size cs) ≤ 3 * charge_of size
unfolding tagged_size
area-room kind Safe size cs ordered sized = let h = three-bytes kind cs ordered in omega (arith, h, sized)
area-room kind Seq size cs ordered sized = let h = three-bytes kind cs ordered in omega (arith, h, sized)
area-room kind Rtti size cs ordered sized = let h = three-bytes kind cs ordered in omega (arith, h, sized)
area-room kind Wild size cs ordered sized = omega arith

-- each variable of a frame is of a complete type
pub record AreComplete (w : Setting) (variables : List Planned) : Type 0 where
  pub each : (j : ℕ) (v : Planned) → slice_get variables j ≡ Some v → IsComplete w.table v.type

pub whole-types : (w : Setting) (variables : List Planned) → IsWellFormed w.table → AreComplete w variables → AreWholeTypes w variables
whole-types w variables formed complete = record { each = λ j v e. of v (complete.each j v e) }
  where
    of : (v : Planned) → IsComplete w.table v.type → AreOrdered (cells_of w.table v.type) × (length (cells_of w.table v.type) ≡ size_of w.table v.type) × ((variable_area w v).bytes < 2 ^ 64)
    of v c = (cells_ordered w.table formed v.type, whole, small (w.kind v.node))
      where
        whole : length (cells_of w.table v.type) ≡ size_of w.table v.type
        whole = length_cells w.table formed (physically_equal w.table) v.type c

        most : size_of w.table v.type ≤ 1048576
        most = (formed.sized v.type c).most

        width : width_of w.kind (cells_of w.table v.type) ≤ 3 * length (cells_of w.table v.type)
        width = three-bytes w.kind (cells_of w.table v.type) (cells_ordered w.table formed v.type)

        small : (k : Kind) → (area_by w.kind k (size_of w.table v.type) (cells_of w.table v.type)).bytes < 2 ^ 64
        small Safe = let a = width in let b = whole in let c = most in omega (arith, a, b, c)
        small Seq = let a = width in let b = whole in let c = most in omega (arith, a, b, c)
        small Rtti = let a = width in let b = whole in let c = most in omega (arith, a, b, c)
        small Wild = let c = most in omega (arith, c)

pub frame-room : (w : Setting) (variables : List Planned) → AreWholeTypes w variables → areas_size (frame_areas w variables) ≤ 3 * frame_charge w.table variables
unfolding areas_size
frame-room w [] h = omega arith
frame-room w (v ∷ variables) h =
    let t = h.each 0 v refl in
    let one : area_size (variable_area w v) ≤ 3 * charge_of (size_of w.table v.type) = area-room w.kind (w.kind v.node) (size_of w.table v.type) (cells_of w.table v.type) t.0 t.1 in
    let rest : areas_size (frame_areas w variables) ≤ 3 * frame_charge w.table variables = frame-room w variables (record { each = λ j x e. h.each (suc j) x e }) in
    let sum : frame_charge w.table (v ∷ variables) ≡ charge_of (size_of w.table v.type) + frame_charge w.table variables = sum_by-cons (λ (x : Planned). charge_of (size_of w.table x.type)) v variables in
    omega (arith, one, rest, sum)

-- What is stored in sound objects is there

is_there : (objects : List Object) (k : ℕ) (o : Outline) → slice_get (map outline objects) k ≡ Some o → k < length objects
is_there objects k o e = let h = slice_get_within (map outline objects) k o e in let f = length-map objects outline in omega (arith, h, f)

at_there : (w : Setting) (objects : List Object) (k : Kind) (t : TypeId) (l : Location) → IsValueOf w (map outline objects) k t (At l) → l.object < length objects
at_there w objects Safe t l v = is_there objects l.object v.object v.located.found
at_there w objects Rtti t l v = is_there objects l.object v.object v.located.found
at_there w objects Seq t l v = is_there objects l.object v.object v.located.found
at_there w objects Wild t l v = is_there objects l.object v.object v.found

pub value_there : (w : Setting) (objects : List Object) (k : Kind) (t : TypeId) (p : Pointer) → IsValueOf w (map outline objects) k t p → IsThere (length objects) p
value_there w objects k t Null v = tt
value_there w objects k t (Number n) v = tt
value_there w objects k t (Function f) v = tt
value_there w objects k t (At l) v = at_there w objects k t l v

is_wild : (k : Kind) → (k ≡ Wild) ⊎ (k ≢ Wild)
is_wild Safe = inr (λ e. cc (e))
is_wild Seq = inr (λ e. cc (e))
is_wild Rtti = inr (λ e. cc (e))
is_wild Wild = inl refl

pub all-there : (w : Setting) (sites : List Site) (objects : List Object) → AreSound w sites objects → (k : ℕ) (o : Object) → slice_get objects k ≡ Some o → o.live ≡ true → AllThere (length objects) o
all-there w sites objects sound k o e l = record { each = λ j p f. of j p f (is_wild (w.kind o.node)) }
  where
    of : (j : ℕ) (p : Pointer) → o.pointers j ≡ Some p → (w.kind o.node ≡ Wild) ⊎ (w.kind o.node ≢ Wild) → IsThere (length objects) p
    of j p f (inl h) = value_there w objects Wild (record { 0 = 0 }) p (((sound.each k o e l).tagged h j p f).value (record { 0 = 0 }))
    of j p f (inr h) = let x = (sound.each k o e l).typed h j p f in value_there w objects (w.kind x.node) x.to p x.value

pub related-call : (w : Setting) (sites : List Site) (number_of : TypeId → ℕ) (s : source.State) (c : flat.State) (d : ℕ) (variables : List Planned) → IsWellFormed w.table
    → ((j : ℕ) (v : Planned) → slice_get variables j ≡ Some v → IsComplete w.table v.type) → IsSoundMemory w sites s.memory → Related w number_of s c
    → length c.memory.frames ≡ suc d → IsTrue (fits c.memory (frame_areas w variables) (frame_charge w.table variables))
    → Related w number_of (primitive.with_frame w (suc d) variables s) (machine.with_frame (frame_areas w variables) (frame_charge w.table variables) c)
related-call w sites number_of s c d variables formed complete sound r deep room =
    let types = whole-types w variables formed (record { each = complete }) in
    related-frame w number_of s c d variables r deep room (all-there w sites s.memory.objects sound) types (frame-room w variables types)

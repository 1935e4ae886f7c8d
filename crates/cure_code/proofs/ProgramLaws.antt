-- The parts of a program's cured code.
use Rattle.std.specs.Prelude.{slice_index, if◌then◌else◌}
use Rattle.std.proofs.Common.{◌≡◌, refl, ap, sym, subst, ◌∙◌, ℕ, zero, suc, ◌+◌, ◌*◌, ◌<◌, ◌≤◌, ◌⊎◌, inl, inr, List, [], ◌∷◌, ◌++◌, length, map, slice_get, Some, arith}
use Rattle.std.specs.List.{All}
use Rattle.cc_base.specs.declared.kind.Kind.{Kind}
use Rattle.c_types.specs.Table.{Table, AreNodesOf}
use Rattle.cc_base.specs.Kinds.{kind_at}
use Rattle.c_types.specs.Layouts.{size_of}
use Rattle.c_types.specs.Widths as widths
use Rattle.flat_mem.specs.declared.Area.{Area}
use Rattle.src_mem.specs.Memory.{charge_of}
use Rattle.cil_form.specs.declared.program.Function.{Function}
use Rattle.cil_form.specs.declared.program.Static.{Static}
use Rattle.cil_form.specs.declared.program.Program.{Program}
use Rattle.cil_form.specs.Machine.{plan}
use Rattle.cil_form.specs.Shape.{IsInShape, IsStaticInShape}
use Rattle.cured_code.specs.declared.parts.GlobalLine.{GlobalLine}
use Rattle.cured_code.specs.declared.parts.Function as cured
use Rattle.cured_code.specs.declared.parts.Parts.{Parts}
use Rattle.cured_code.specs.Tables.{area_of}
use Rattle.cured_code.specs.FlatState.{PlacedArea}
use Rattle.cured_code.specs.FlatMachine.{global_areas, placed}
use Rattle.cure_rules.specs.Known.{Whole, AreSizes}
use Rattle.cure_rules.specs.Functions.{IsCuredFunction, area_for, world_of, parameter_words}
use Rattle.cure_rules.specs.Programs.{AreGlobals, IsStart, start_world, whole_of, global_addresses, AreCured, IsCuredProgram}
use Rattle.cure_scope.specs.Scopes.{fixed_slots, size_in, offset_in}
use Rattle.fat_layouts.specs.Standing.{Curing}
use Rattle.cure_tables.specs.Objects.{IsObject}
use Rattle.cure_ranges.proofs.Areas.{area_small}
use Rattle.cured_code.specs.Ranges.{AreParentsEarlier, IsInRange}
use Rattle.cure_ranges.specs.Bodies.{AreTargetsNamed}
use Rattle.cure_ranges.proofs.Parts.{in_range}
use Rattle.cure_ranges.proofs.Bodies.{bodies}
use Rattle.cure_code.specs.declared.setting.Setting.{Setting}
use Rattle.cure_code.specs.declared.programs.Tables.{Tables}
use Rattle.cure_code.specs.Settings.{whole_in, IsSet, IsMadeAt, AreMade}
use Rattle.cure_code.specs.Tabled.{AreTables, curing_of, numbers_with, whole_with}
use Rattle.cure_code.proofs.Elements.{same_some, within, all_at, all_by, mapped_length, mapped_get, sum_sixteen}

-- Lists

front_get : {A : Type 0} (xs ys : List A) (i : ℕ) (x : A) → slice_get xs i ≡ Some x → slice_get (xs ++ ys) i ≡ Some x
front_get [] ys i x e = absurd (cc (e))
front_get (y ∷ xs) ys zero x e = e
front_get (y ∷ xs) ys (suc i) x e = front_get xs ys i x e

last_get : {A : Type 0} (xs : List A) (x : A) (i : ℕ) → i ≡ length xs → slice_get (xs ++ x ∷ []) i ≡ Some x
last_get [] x zero e = refl
last_get [] x (suc i) e = absurd (omega arith)
last_get (z ∷ xs) x zero e = absurd (omega arith)
last_get (z ∷ xs) x (suc i) e = last_get xs x i (omega arith)

pushed_length : {A : Type 0} (xs : List A) (x : A) → length (xs ++ x ∷ []) ≡ suc (length xs)
pushed_length [] x = refl
pushed_length (y ∷ xs) x = ap suc (pushed_length xs x)

before_or : (i n : ℕ) → i < n + 1 → (i < n) ⊎ (i ≡ n)
before_or i n l = grind arith

-- Functions, one after another

module _ (w : Whole) (p : Program) where
  pub made_none : (h : cured.Function) (made : List cured.Function) → made ≡ h ∷ [] → IsStart (start_world w (fixed_slots 0)) p h → AreMade w p 0 made
  made_none h made e start = record {
    count = ap length e;
    first = h;
    found = ap (λ (xs : List cured.Function). slice_get xs 0) e;
    start = start;
    each = λ k f l at. absurd (let m = l in omega (arith, m));
  }

  pub made_more : (n : ℕ) (f : Function) (h : cured.Function) (made new : List cured.Function) → AreMade w p n made → new ≡ made ++ h ∷ [] → slice_get p.functions n ≡ Some f
      → IsCuredFunction (world_of w n f (fixed_slots (parameter_words w f.parameters))) f h → AreMade w p (n + 1) new
  made_more n f h made new a e at is = record {
    count = ap length e ∙ pushed_length made h ∙ ap suc (a.count ∙ (let s : suc n ≡ n + 1 = omega arith in s));
    first = a.first;
    found = ap (λ (xs : List cured.Function). slice_get xs 0) e ∙ front_get made (h ∷ []) 0 a.first a.found;
    start = a.start;
    each = λ k g l b. by k g b (before_or k n l);
  }
    where
      by : (k : ℕ) (g : Function) → slice_get p.functions k ≡ Some g → (k < n) ⊎ (k ≡ n) → IsMadeAt w new k g
      by k g b (inl l) =
          let m = a.each k g l b in
          (m.0, ap (λ (xs : List cured.Function). slice_get xs (suc k)) e ∙ front_get made (h ∷ []) (suc k) m.0 m.1, m.2)
      by k g b (inr l) =
          let same : f ≡ g = same_some f g (sym at ∙ ap (slice_get p.functions) (sym l) ∙ b) in
          let there = ap (λ (xs : List cured.Function). slice_get xs (suc k)) e ∙ last_get made h (suc k) (ap suc l ∙ sym a.count) in (
            h,
            there,
            subst (λ (m : ℕ). IsCuredFunction (world_of w m g (fixed_slots (parameter_words w g.parameters))) g h) (sym l)
                (subst (λ (x : Function). IsCuredFunction (world_of w n x (fixed_slots (parameter_words w x.parameters))) x h) same is),
          )

-- Tables

pub node_kinds : (p : Program) (kinds : List Kind) → IsInShape p → length kinds ≡ p.nodes → All (λ e. AreNodesOf (length kinds) e.shape) p.types
node_kinds p kinds shape count = subst (λ (n : ℕ). All (λ e. AreNodesOf n e.shape) p.types) (sym count) shape.nodes

pub objects_of : (p : Program) (kinds : List Kind) → IsInShape p → length kinds ≡ p.nodes → All (λ (s : Static). IsObject p.types (length kinds) s.planned) p.statics
objects_of p kinds shape count =
    all_by (λ (s : Static). IsObject p.types (length kinds) s.planned) p.statics
    (λ i s e. let h = all_at (IsStaticInShape p) p.statics shape.statics i s e in
    record { complete = h.planned.1.1; home = (let l = h.planned.0 in omega (arith, l, count)) })

pub globals_given : (p : Program) (kinds : List Kind) (c : Curing) (statics : List Static) (globals : List GlobalLine) → c ≡ curing_of p kinds → statics ≡ p.statics
    → AreGlobals c.table (kind_at kinds) statics globals → AreGlobals p.types (kind_at kinds) p.statics globals
globals_given p kinds c statics globals e f g =
    subst (λ (xs : List Static). AreGlobals p.types (kind_at kinds) xs globals) f
    (subst (λ (t : Table). AreGlobals t (kind_at kinds) statics globals) (ap (λ (x : Curing). x.table) e) g)

module _ (p : Program) (kinds : List Kind) (shape : IsInShape p) (globals : List GlobalLine) (g : AreGlobals p.types (kind_at kinds) p.statics globals) where
  same_count : length globals ≡ length p.statics
  same_count =
      let a = mapped_length (λ (x : GlobalLine). area_of x.area) globals in
      let b = mapped_length (area_for p.types (kind_at kinds)) (map (λ (o : Static). plan o.planned) p.statics) in
      let d = mapped_length (λ (o : Static). plan o.planned) p.statics in
      let e = ap length g.areas in omega (arith, a, b, d, e)

  pub globals_few : length globals ≤ 1048576
  globals_few =
      let n = same_count in
      let s = sum_sixteen (λ (x : Static). charge_of (size_of p.types x.planned.ty)) p.statics (λ x. omega arith) in
      let l = shape.globals in omega (arith, n, s, l)

  there : {A : Type 0} (xs : List A) (i : ℕ) → i < length xs → (x : A) × (slice_get xs i ≡ Some x)
  there [] i h = absurd (omega (arith, h))
  there (x ∷ xs) zero h = (x, refl)
  there (x ∷ xs) (suc i) h = there xs i (omega (arith, h))

  pub globals_small : All (λ (x : GlobalLine). x.area.bytes ≤ 3145728) globals
  globals_small = all_by (λ (x : GlobalLine). x.area.bytes ≤ 3145728) globals small
    where
      small : (i : ℕ) (x : GlobalLine) → slice_get globals i ≡ Some x → x.area.bytes ≤ 3145728
      small i x e =
          let n = same_count in
          let o = there p.statics i (let l = within globals i x e in omega (arith, l, n)) in
          let same : area_of x.area ≡ area_for p.types (kind_at kinds) (plan o.0.planned) =
          same_some (area_of x.area) (area_for p.types (kind_at kinds) (plan o.0.planned))
          (sym (mapped_get (λ (y : GlobalLine). area_of y.area) globals i x e) ∙ ap (λ xs. slice_get xs i) g.areas
          ∙ mapped_get (area_for p.types (kind_at kinds)) (map (λ (s : Static). plan s.planned) p.statics) i (plan o.0.planned) (mapped_get (λ (s : Static). plan s.planned) p.statics i o.0 o.1)) in
          let most = area_small p.types shape.formed (kind_at kinds) (plan o.0.planned) (all_at (IsStaticInShape p) p.statics shape.statics i o.0 o.1).planned.1.1 in
          subst (λ (m : ℕ). m ≤ 3145728) (sym (ap (λ (b : Area). b.bytes) same)) most

-- What is the same in all functions

pub same_whole : (w : Setting) (s : IsSet w) (t : Tables) → w.layouts.now ≡ curing_of w.program.now w.by_node.now → w.addresses.now ≡ t.addresses.items
    → w.signatures.now ≡ t.signatures.numbers.items → whole_in w ≡ whole_with w.program.now w.by_node.now w.nodes.now t
same_whole w s t e a g = λ i. record {
  table = (e i).table;
  kind = kind_at (s.listed i);
  size = size_in (e i);
  offset = offset_in (e i);
  node = λ u. slice_index w.nodes.now u.0;
  statics = s.statics i;
  addresses = a i;
  functions = s.functions i;
  signature = λ u. slice_index (g i) u.0;
}

-- The whole

abbrev pub parts_of : List ℕ → Tables → List cured.Function → Parts
parts_of parents t made = record { sigs = t.signatures.sigs.items; nodes = parents; globals = t.globals.items; functions = made }

sizes : (p : Program) (kinds : List Kind) (nodes : List ℕ) (t : Tables) → AreSizes (whole_with p kinds nodes t)
sizes p kinds nodes t = record {
  size = λ u c. ap (λ b. if b then widths.cured_size p.types (kind_at kinds) u else 0) c;
  none = λ u c. ap (λ b. if b then widths.cured_size p.types (kind_at kinds) u else 0) c;
  offset = λ u o c l b. refl;
}

module _ (p : Program) (kinds : List Kind) (nodes parents : List ℕ) (t : Tables) (made : List cured.Function) (a : AreTables p kinds t)
    (m : AreMade (whole_with p kinds nodes t) p (length p.functions) made) where
  at_addresses : t.addresses.items ≡ global_addresses (parts_of parents t made)
  at_addresses = a.addresses ∙ ap (λ n. map (λ (x : PlacedArea). x.address) (placed (global_areas t.globals.items) (8 * n))) (sym m.count)

  whole_same : whole_with p kinds nodes t ≡ whole_of p (kind_at kinds) (λ u. slice_index nodes u.0) (numbers_with p kinds t) (parts_of parents t made)
  whole_same = λ i. record (whole_with p kinds nodes t) { addresses = at_addresses i }

  are_cured : AreCured (whole_with p kinds nodes t) p parents (parts_of parents t made)
  are_cured = record {
    sizes = sizes p kinds nodes t;
    signatures = a.signatures;
    nodes = refl;
    globals = a.globals;
    count = m.count;
    functions = λ k f e.
        let x = m.each k f (within p.functions k f e) e in
        record { cured = x.0; found = x.1; slots = fixed_slots (parameter_words (whole_with p kinds nodes t) f.parameters); is = x.2 };
    first = m.first;
    found = m.found;
    slots = fixed_slots 0;
    start = m.start;
  }

  pub cured_program : IsCuredProgram p (kind_at kinds) (λ u. slice_index nodes u.0) parents (parts_of parents t made)
  cured_program = record {
    numbers = numbers_with p kinds t;
    are_cured = subst (λ (w : Whole). AreCured w p parents (parts_of parents t made)) whole_same are_cured;
  }

-- the same of what is given under other names
pub cured_as : (p code : Program) (kinds : List Kind) (nodes numbers ps parents : List ℕ) (t : Tables) (made : List cured.Function) (parts cured : Parts)
    → p ≡ code → nodes ≡ numbers → ps ≡ parents → AreTables p kinds t → AreMade (whole_with p kinds nodes t) p (length p.functions) made
    → parts ≡ parts_of ps t made → cured ≡ parts → IsCuredProgram code (kind_at kinds) (λ u. slice_index numbers u.0) parents cured
cured_as p code kinds nodes numbers ps parents t made parts cured e f g a m h k =
    subst (λ (x : Parts). IsCuredProgram code (kind_at kinds) (λ u. slice_index numbers u.0) parents x) (sym (k ∙ h))
    (subst (λ (x : Program). IsCuredProgram x (kind_at kinds) (λ u. slice_index numbers u.0) parents (parts_of ps t made)) e
    (subst (λ (x : List ℕ). IsCuredProgram p (kind_at kinds) (λ u. slice_index x u.0) parents (parts_of ps t made)) f
    (subst (λ (x : List ℕ). IsCuredProgram p (kind_at kinds) (λ u. slice_index nodes u.0) x (parts_of ps t made)) g
    (cured_program p kinds nodes ps t made a m))))

-- its numbers are in range
pub in_range_as : (p code : Program) (kinds : List Kind) (nodes numbers ps parents : List ℕ) (t : Tables) (made : List cured.Function) (parts : Parts)
    → p ≡ code → nodes ≡ numbers → ps ≡ parents → AreTables p kinds t → AreMade (whole_with p kinds nodes t) p (length p.functions) made
    → parts ≡ parts_of ps t made → IsInShape code → AreTargetsNamed code (kind_at kinds) (λ u. slice_index numbers u.0) (length parents)
    → length parents ≤ 65536 → AreParentsEarlier parents → IsInRange parts
in_range_as p code kinds nodes numbers ps parents t made parts e f g a m h shape targets few earlier =
    let c = cured_as p code kinds nodes numbers ps parents t made parts parts e f g a m h refl in
    let sigs : length parts.sigs ≤ 65536 = subst (λ (x : Parts). length x.sigs ≤ 65536) (sym h) a.few in
    in_range code (kind_at kinds) (λ u. slice_index numbers u.0) parents parts shape c.numbers c.are_cured
    (bodies code (kind_at kinds) (λ u. slice_index numbers u.0) parents parts shape c.numbers c.are_cured targets) few earlier sigs

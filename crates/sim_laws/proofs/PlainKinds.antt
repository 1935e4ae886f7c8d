-- A program in shape of which each pointer is SAFE or SEQ is plain: every node that its instructions name is one of its own.
use Rattle.std.specs.Prelude.{All}
use Rattle.std.specs.List.{filter_map, cons_option}
use Rattle.std.proofs.Common.{◌≡◌, ◌≢◌, ℕ, ◌<◌, ⊎_elim, List, [], ◌∷◌, map, length, slice_index_or, Option, Some, None, sym, subst}
use Rattle.cc_base.specs.declared.kind.Kind.{Kind}
use Rattle.cc_base.specs.declared.kind.Kind.TheVariants.{Wild}
use Rattle.cc_base.specs.declared.number.NodeId.{NodeId}
use Rattle.cc_base.specs.declared.number.TypeId.{TypeId}
use Rattle.c_types.specs.declared.shape.TypeShape.{TypeShape}
use Rattle.c_types.specs.Table.{AreNodesOf, shape_at, void_entry}
use Rattle.src_mem.specs.Memory.{Planned}
use Rattle.src_mem.specs.Operations.{node_of_shape}
use Rattle.src_mem.specs.Runs as runs
use Rattle.src_mem.proofs.Outlines.{mapped-from}
use Rattle.cil_form.specs.declared.number.Object.{Object}
use Rattle.cil_form.specs.declared.number.Object.TheVariants as object
use Rattle.cil_form.specs.declared.instr.Access.TheVariants as access
use Rattle.cil_form.specs.declared.instr.Target.{Target}
use Rattle.cil_form.specs.declared.instr.Target.TheVariants as target
use Rattle.cil_form.specs.declared.instr.Allocate.TheVariants as allocate
use Rattle.cil_form.specs.declared.instr.Convert.TheVariants as convert
use Rattle.cil_form.specs.declared.instr.Point.TheVariants as point
use Rattle.cil_form.specs.declared.instr.Instr.{Instr, Row_of-Instr, end_of-Instr, more_of-Instr}
use Rattle.cil_form.specs.declared.instr.Instr.TheVariants as instr
use Rattle.cil_form.specs.declared.program.Function.{Function}
use Rattle.cil_form.specs.declared.program.Parameter.{Parameter}
use Rattle.cil_form.specs.declared.program.Program.{Program}
use Rattle.cil_form.specs.declared.program.Static.{Static}
use Rattle.cil_form.specs.Machine.{plan, variables_of}
use Rattle.cil_form.specs.Meaning.{target_node}
use Rattle.cil_form.specs.Shape.{IsInShape, IsPlanInShape, IsStaticInShape, IsFunctionInShape, context_of, context_in}
use Rattle.cil_form.specs.Sites.{Each}
use Rattle.cil_form.specs.Typing.{Context, Typing, no_types, IsNode, IsPointer, IsTarget}
use Rattle.cil_form.proofs.ShapedPrograms.{each-all}
use Rattle.cil_facts.specs.Whole.{NumbersNone, RowNumbersNone, CodeNumbersNone}
use Rattle.cil_facts.proofs.Functions.{each-got, each-left}
use Rattle.sim_laws.specs.Held.{IsIn, IsInRow, IsInCode}
use Rattle.sim_laws.specs.Points.{planned_at}
use Rattle.sim_laws.specs.Plain.{IsPlainKind, IsPlainPointer, IsPlainObject, IsPlainCallee, IsPlainInstr, IsPlainCode, IsPlainHome, IsPlainProgram}
use Rattle.sim_laws.specs.PlainKinds.{ArePlainKinds, IsOfPlainKinds}
use Rattle.sim_laws.proofs.Reaching.{plain-tags}
use Rattle.sim_laws.proofs.Run.{all-at}
use Rattle.sim_laws.proofs.Shaped.{Shaped, shaped-code, shaped-first}

-- An instruction of code that converts no pointer to an integer does so neither

mutual
  none-one : (i j : Instr) → NumbersNone i → IsIn j i → NumbersNone j
  none-one (instr.If' t shape code shape' other) j h q = ⊎_elim (none-row code j h.0) (none-row other j h.1) q
  none-one (instr.Block' shape code) j h q = none-row code j h q
  none-one (instr.Loop' shape code) j h q = none-row code j h q
  none-one (instr.Set i) j h q = subst NumbersNone (sym q) h
  none-one (instr.Calculate i) j h q = subst NumbersNone (sym q) h
  none-one (instr.Point i) j h q = subst NumbersNone (sym q) h
  none-one (instr.Convert i) j h q = subst NumbersNone (sym q) h
  none-one (instr.Access i) j h q = subst NumbersNone (sym q) h
  none-one (instr.Allocate i) j h q = subst NumbersNone (sym q) h
  none-one (instr.Call i) j h q = subst NumbersNone (sym q) h
  none-one (instr.Runtime i) j h q = subst NumbersNone (sym q) h
  none-one (instr.Break n) j h q = subst NumbersNone (sym q) h
  none-one instr.Return j h q = subst NumbersNone (sym q) h
  none-one (instr.ReturnValue v t at) j h q = subst NumbersNone (sym q) h

  none-row : {m : _} (r : Row_of-Instr m) (j : Instr) → RowNumbersNone r → IsInRow j r → NumbersNone j
  none-row end_of-Instr j h q = absurd q
  none-row (more_of-Instr i r) j h q = ⊎_elim (none-one i j h.0) (none-row r j h.1) q

none-code : (is : List Instr) (j : Instr) → CodeNumbersNone is → IsInCode j is → NumbersNone j
none-code [] j h q = absurd q
none-code (i ∷ is) j h q = ⊎_elim (none-one i j h.0) (none-code is j h.1) q

-- What code may name has nodes of the program

module _ (k : Context) (kind : NodeId → Kind) (kinds : ArePlainKinds k.nodes kind) (shapes : (t : TypeId) → t.0 < length k.table → AreNodesOf k.nodes (shape_at k.table t))
    (objects : (o : Object) (x : Planned) → planned_at k.statics k.variables o ≡ Some x → IsNode k x.node) where
  untagged : (n : NodeId) → IsNode k n → kind n ≢ Wild
  untagged n h = plain-tags (kind n) (kinds n h)

  pointer-node : (t : TypeId) (n : NodeId) (u : TypeId) → IsPointer k t n u → IsPlainKind (kind n)
  pointer-node t n u h = kinds n (subst (AreNodesOf k.nodes) h.1 (shapes t h.0))

  pointer-kind : (t : TypeId) (n : NodeId) (u : TypeId) → IsPointer k t n u → IsPlainPointer k.table kind t
  pointer-kind t n u h = subst (λ (x : TypeShape). IsPlainKind (kind (node_of_shape x))) (sym h.1) (pointer-node t n u h)

  plain-object : (o : Object) → IsPlainObject kind k.statics k.variables o
  plain-object o x e = untagged x.node (objects o x e)

  -- inside however many blocks
  plain-target : (to : Target) (blocks : ℕ) (kept types : Typing) (t : TypeId) → IsTarget to (record k { blocks = blocks; kept = kept }) types t → kind (target_node to) ≢ Wild
  plain-target (target.Pointer p n) blocks kept types t h = untagged n h.0
  plain-target (target.Part (object.Static o) n u offset) blocks kept types t h = plain-object (object.Static o) (record { type = h.0.0; node = n }) h.0.1
  plain-target (target.Part (object.Variable o) n u offset) blocks kept types t h = plain-object (object.Variable o) (record { type = h.0.0; node = n }) h.0.1

  -- each instruction in shape is plain, but for the conversions that are excluded
  plain-instr : (j : Instr) → Shaped j k → NumbersNone j → IsPlainInstr k.table kind k.statics k.variables j
  plain-instr (instr.Set i) z none = tt
  plain-instr (instr.Calculate i) z none = tt
  plain-instr (instr.Point (point.Move into p n way t at)) z none = pointer-kind t z.is.0.0 z.is.0.1 z.is.0.2
  plain-instr (instr.Point (point.Difference into a t b s at)) z none =
      (pointer-kind t z.is.0.0 z.is.0.2 z.is.0.4, pointer-kind s z.is.0.1 z.is.0.3 z.is.0.5)
  plain-instr (instr.Point (point.Compare into which a t b s at)) z none =
      (pointer-kind t z.is.0.0 z.is.0.2 z.is.0.4, pointer-kind s z.is.0.1 z.is.0.3 z.is.0.5)
  plain-instr (instr.Point (point.IsNull into p t different)) z none = tt
  plain-instr (instr.Point (point.Member into from outer t i inner u at)) z none = (untagged outer z.is.0.0, kinds inner z.is.0.1)
  plain-instr (instr.Point (point.Decay into from outer array check inner element at)) z none = (untagged outer z.is.0.0, kinds inner z.is.0.1)
  plain-instr (instr.Point (point.Address into from outer inner t)) z none = (untagged outer z.is.0.0, kinds inner z.is.0.1)
  plain-instr (instr.Convert (convert.Integer into from t)) z none = tt
  plain-instr (instr.Convert (convert.ToPointer into from t at)) z none = tt
  plain-instr (instr.Convert (convert.FromPointer into from t s)) z none = absurd none
  plain-instr (instr.Convert (convert.Pointer into from t s at)) z none =
      (pointer-kind t z.is.0.0 z.is.0.2 z.is.0.4, pointer-kind s z.is.0.1 z.is.0.3 z.is.0.5)
  plain-instr (instr.Access (access.Load into from n t at)) z none = untagged n z.is.0.0
  plain-instr (instr.Access (access.Store (target.Pointer p n) v t at assignment)) z none = plain-target (target.Pointer p n) z.blocks z.kept z.types t z.is.0.0
  plain-instr (instr.Access (access.Store (target.Part o n u offset) v t at assignment)) z none = plain-target (target.Part o n u offset) z.blocks z.kept z.types t z.is.0.0
  plain-instr (instr.Access (access.Clear o)) z none = plain-object o
  plain-instr (instr.Access (access.Copy to to_place from n from_place t assignment)) z none = (untagged n z.is.0.0, plain-target to z.blocks z.kept z.types t z.is.0.3)
  plain-instr (instr.Allocate (allocate.Malloc into n node t at)) z none = kinds node z.is.0.0
  plain-instr (instr.Allocate (allocate.Calloc into m n node t at)) z none = kinds node z.is.0.0
  plain-instr (instr.Call i) z none = subst (IsPlainCallee kind) (sym z.is.4.1) (plain-tags (kind z.is.0) (pointer-node i.ty z.is.0 z.is.1 z.is.4))
  plain-instr (instr.Runtime i) z none = tt
  plain-instr (instr.If' t shape code shape' other) z none = tt
  plain-instr (instr.Block' shape code) z none = tt
  plain-instr (instr.Loop' shape code) z none = tt
  plain-instr (instr.Break n) z none = tt
  plain-instr instr.Return z none = tt
  plain-instr (instr.ReturnValue v t at) z none = tt

-- A whole program

module _ (p : Program) (kind : NodeId → Kind) (shape : IsInShape p) (is : IsOfPlainKinds p kind) where
  shapes : (t : TypeId) → t.0 < length p.types → AreNodesOf p.nodes (shape_at p.types t)
  shapes t h = shape.nodes t.0 void_entry h

  objects : (variables : List Planned) → Each (IsPlanInShape p) variables → (o : Object) (x : Planned)
      → planned_at (map (λ (o : Static). plan o.planned) p.statics) variables o ≡ Some x → x.node.0 < p.nodes
  objects variables are (object.Static n) x e =
      let s = mapped-from (λ (o : Static). plan o.planned) p.statics n.0 x e in
      (subst (IsPlanInShape p) s.2 (all-at (IsStaticInShape p) p.statics shape.statics n.0 s.0 s.1).planned).0
  objects variables are (object.Variable n) x e = (each-got (IsPlanInShape p) variables n.0 x are e).0

  -- the homes of parameters are variables
  abbrev named : List Parameter → List Planned
  named ps = filter_map (λ (x : runs.Parameter). runs.planned x.type x.home) (map (λ (x : Parameter). record { type = x.ty; home = x.home }) ps)

  plain-homes : (ps : List Parameter) → Each (IsPlanInShape p) (named ps) → Each (λ (x : Parameter). IsPlainHome kind x.home) ps
  plain-homes [] h = tt
  plain-homes (x ∷ ps) h = by x.home (plain-homes ps) h
    where
      by : (o : Option NodeId) → (Each (IsPlanInShape p) (named ps) → Each (λ (x : Parameter). IsPlainHome kind x.home) ps)
          → Each (IsPlanInShape p) (cons_option (runs.planned x.ty o) (named ps)) → IsPlainHome kind o × Each (λ (x : Parameter). IsPlainHome kind x.home) ps
      by None more h = (tt, more h)
      by (Some n) more h = (plain-tags (kind n) (is.kinds n h.0.0), more h.1)

  pub programs-plain : IsPlainProgram p kind
  programs-plain = record {
    initialisers = λ j inside. plain-instr (context_of p) kind is.kinds shapes (objects [] tt) j (shaped-first p shape j inside)
        (none-code p.initialisers.0.items j is.numbers.initialisers inside);
    parameters = λ n d l. homes-of (slice_index_or p.functions n d) (shape.functions n d l);
    functions = λ n d l. body-of (slice_index_or p.functions n d) (shape.functions n d l) (is.numbers.functions n d l);
  }
    where
      homes-of : (f : Function) → IsFunctionInShape p f → All (λ (x : Parameter). IsPlainHome kind x.home) f.parameters
      homes-of f h = each-all (λ (x : Parameter). IsPlainHome kind x.home) f.parameters
          (plain-homes f.parameters (each-left (IsPlanInShape p) (named f.parameters) (map plan f.locals) h.variables))

      body-of : (f : Function) → IsFunctionInShape p f → CodeNumbersNone f.body.0.items
          → IsPlainCode p.types kind (map (λ (o : Static). plan o.planned) p.statics) (variables_of f) f.body.0.items
      body-of f h none j inside =
          plain-instr (context_in p f) kind is.kinds shapes (objects (variables_of f) h.variables) j
          (shaped-code f.body.0.items j (context_in p f) 0 no_types no_types no_types h.body.shaped inside) (none-code f.body.0.items j none inside)

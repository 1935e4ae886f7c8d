-- Source code in shape names objects that there are, and downcasts to types whose nodes there are.
use Rattle.std.specs.Prelude.{◌&&◌, not, if◌then◌else◌}
use Rattle.std.proofs.Common.{◌≡◌, ◌<◌, Bool, true, false, length, refl, ap, subst, inl, inr, ◌⊎◌}
use Rattle.std.proofs.lemmas.Option.{slice_get_within}
use Rattle.std.specs.List.{Contains}
use Rattle.cc_base.specs.declared.number.TypeId.{TypeId}
use Rattle.cc_base.specs.declared.number.NodeId.{NodeId}
use Rattle.c_types.specs.declared.flow_class.FlowClass.TheVariants.{Equal, UpTile, Up, DownTile, Down, Tile, Bad}
use Rattle.kind_sites.specs.declared.site.Site.TheVariants.{Flow}
use Rattle.c_types.specs.Table.{Table, is_function}
use Rattle.c_types.specs.Equality.{physically_equal, begins_with, tile, cells_of}
use Rattle.c_types.specs.Cells.{begins}
use Rattle.c_types.specs.Flows.{flow_class}
use Rattle.src_mem.specs.Operations.{node_of_shape, pointee_of_shape, node_at, pointee_at}
use Rattle.cil_form.specs.declared.number.Object.{Object}
use Rattle.cil_form.specs.declared.number.Object.TheVariants as object
use Rattle.cil_form.specs.declared.instr.Set.{Set}
use Rattle.cil_form.specs.declared.instr.Set.TheVariants as set
use Rattle.cil_form.specs.declared.instr.Convert.{Convert}
use Rattle.cil_form.specs.declared.instr.Convert.TheVariants as convert
use Rattle.cil_form.specs.declared.instr.Target.{Target}
use Rattle.cil_form.specs.declared.instr.Target.TheVariants as target
use Rattle.cil_form.specs.declared.instr.Access.{Access}
use Rattle.cil_form.specs.declared.instr.Access.TheVariants as access
use Rattle.cil_form.specs.Sites.{AreAmong, sites_of_convert}
use Rattle.cil_form.specs.Typing.{Context, Typing, IsObject, IsTarget, IsShapedSet, IsShapedAccess}
use Rattle.sim_relation.specs.Points.{Start}
use Rattle.cure_rules.specs.Known.{World}
use Rattle.cure_rules.specs.Functions.{IsKnownContent}
use Rattle.cure_ranges.proofs.Fitting.{Around, NamesObject, NamesTarget, NamesPart, NamesNode, IsCuredIn}

-- a flow down goes to a data type

turned : (equal up down tiles : Bool)
    → ((if equal then Equal else (if up then (if tiles then UpTile else Up) else (if down then (if tiles then DownTile else Down) else (if tiles then Tile else Bad)))) ≡ Down)
    ⊎ ((if equal then Equal else (if up then (if tiles then UpTile else Up) else (if down then (if tiles then DownTile else Down) else (if tiles then Tile else Bad)))) ≡ DownTile)
    → down ≡ true
turned true up down tiles (inl h) = absurd (cc (h))
turned true up down tiles (inr h) = absurd (cc (h))
turned false true down true (inl h) = absurd (cc (h))
turned false true down true (inr h) = absurd (cc (h))
turned false true down false (inl h) = absurd (cc (h))
turned false true down false (inr h) = absurd (cc (h))
turned false false true tiles h = refl
turned false false false true (inl h) = absurd (cc (h))
turned false false false true (inr h) = absurd (cc (h))
turned false false false false (inl h) = absurd (cc (h))
turned false false false false (inr h) = absurd (cc (h))

first_false : (f rest : Bool) → (not f && rest) ≡ true → f ≡ false
first_false true rest h = absurd (cc (h))
first_false false rest h = refl

down_to_data : (table : Table) (u v : TypeId) → (flow_class table u v ≡ Down) ⊎ (flow_class table u v ≡ DownTile) → is_function table v ≡ false
down_to_data table u v h =
    first_false (is_function table v) (not (is_function table u) && begins (physically_equal table) (cells_of table v) (cells_of table u))
    (turned (physically_equal table u v) (begins_with table u v) (begins_with table v u) (tile table u v) h)

module _ (w : World) (r : Around) (k : Context) (here : IsCuredIn w r k) where
  object_there : (o : Object) (home : NodeId) (t : TypeId) → IsObject k o home t → IsKnownContent w (Start o)
  object_there (object.Static v) home t (u, e, named) =
      let l = slice_get_within k.statics v.0 _ e in subst (λ xs. v.0 < length xs) here.statics l
  object_there (object.Variable v) home t (u, e, named) =
      let l = slice_get_within k.variables v.0 _ e in subst (λ xs. v.0 < length xs) here.variables l

  pub set_names : (i : Set) (types after : Typing) → IsShapedSet i k types after → NamesObject w i
  set_names (set.Integer into z t) types after h = tt
  set_names (set.Null into t) types after h = tt
  set_names (set.Function into f t) types after h = tt
  set_names (set.Object into o home t) types after h = object_there o home t h.0
  set_names (set.Copy into from) types after h = tt

  target_names : (to : Target) (types : Typing) (t : TypeId) → IsTarget to k types t → NamesTarget w to
  target_names (target.Pointer p n) types t h = tt
  target_names (target.Part o home u offset) types t h = object_there o home u h.0

  pub access_names : (i : Access) (types after : Typing) → IsShapedAccess i k types after → NamesPart w i
  access_names (access.Load into from n t at) types after h = tt
  access_names (access.Store to v t at assignment) types after h = target_names to types t h.0
  access_names (access.Clear o) types after h = tt
  access_names (access.Copy to to_place from n from_place t assignment) types after h = target_names to types t h.3

  pub convert_names : (i : Convert) → AreAmong k.sites (sites_of_convert k.table i) → NamesNode w r.nodes i
  convert_names (convert.Integer into from t) h = tt
  convert_names (convert.ToPointer into from t at) h = tt
  convert_names (convert.FromPointer into from t s) h = tt
  convert_names (convert.Pointer into from t s at) h = λ m n u v e f kind class.
      let site : Contains k.sites (Flow (node_at w.whole.table t) (pointee_at w.whole.table t) (node_at w.whole.table s) (pointee_at w.whole.table s) at) =
      subst (λ z. Contains k.sites (Flow (node_at z t) (pointee_at z t) (node_at z s) (pointee_at z s) at)) here.table h.0 in
      let node : node_at w.whole.table t ≡ m = ap node_of_shape e in
      let to : pointee_at w.whole.table s ≡ v = ap pointee_of_shape f in
      here.nodes m (node_at w.whole.table s) (pointee_at w.whole.table t) v at
      (subst (λ z. Contains k.sites (Flow m (pointee_at w.whole.table t) (node_at w.whole.table s) z at)) to
      (subst (λ z. Contains k.sites (Flow z (pointee_at w.whole.table t) (node_at w.whole.table s) (pointee_at w.whole.table s) at)) node site))
      kind (down_to_data w.whole.table u v class)

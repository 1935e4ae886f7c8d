-- The sites of a program that is lowered from a well typed unit tell all of its table of types and of the objects that it makes.
use Rattle.std.proofs.Common.{◌≡◌, List, [], ◌∷◌, ◌++◌, map, flat_map, refl, ap, sym, subst, ◌∙◌}
use Rattle.cc_base.specs.declared.number.NodeId.{NodeId}
use Rattle.kind_sites.specs.declared.site.Site.{Site}
use Rattle.c_types.specs.Table.{Table}
use Rattle.c_tree.specs.TypedTree.{TypedTranslationUnit}
use Rattle.c_tree.specs.TypedParts.{DefinedFunction, functions_of, statics_of}
use Rattle.c_unit_typing.specs.WellTyped.{IsWellTyped}
use Rattle.c_ready.specs.Ready.{IsReadyUnit}
use Rattle.c_ready.proofs.ReadyUnit.{well-typed-ready}
use Rattle.src_mem.specs.Memory.{Planned}
use Rattle.src_mem.specs.Runs.{variables_of}
use Rattle.src_machine.specs.Machine as source
use Rattle.src_machine.specs.Sites.{sites_of}
use Rattle.cil_form.specs.declared.program.Function.{Function}
use Rattle.cil_form.specs.declared.program.Program.{Program}
use Rattle.cil_form.specs.Machine as code
use Rattle.cil_form.specs.Machine.{plan}
use Rattle.cil_form.specs.Told.{AreSitesTold, IsToldOf, objects_of}
use Rattle.lower_rules.specs.Units as lowered
use Rattle.lower_rules.specs.Units.{AreCodeOf}
use Rattle.lower_shape.specs.Lowered.{IsLoweredFrom}
use Rattle.lower_shape.proofs.Known.{statics-plans}
use Rattle.unit_sites.proofs.UnionsTold.{unions-told}
use Rattle.unit_sites.proofs.FramesNamed.{made_plan}
use Rattle.unit_sites.proofs.SitesTold.{pointers-told, objects-told, flows-told, same-told, pointees-told, homes-told}
use Rattle.unit_sites.specs.Objects.{objects_in}

frames-same : (T : Table) (statics : List NodeId) (ds : List DefinedFunction) (fs : List Function) → AreCodeOf T statics ds fs
    → flat_map code.variables_of fs ≡ flat_map (λ d. variables_of (source.head_of d)) ds
frames-same T statics [] [] c = refl
frames-same T statics [] (f ∷ fs) c = absurd c
frames-same T statics (d ∷ ds) [] c = absurd c
frames-same T statics (d ∷ ds) (f ∷ fs) c =
    ap (λ (vs : List Planned). vs ++ flat_map code.variables_of fs) (ap variables_of c.0.head)
    ∙ ap (λ (vs : List Planned). variables_of (source.head_of d) ++ vs) (frames-same T statics ds fs c.1)

objects-same : (u : TypedTranslationUnit) (p : Program) → IsReadyUnit p.types u → IsLoweredFrom u p → objects_of p ≡ objects_in u
objects-same u p w l =
    ap (λ (os : List Planned). os ++ flat_map code.variables_of p.functions) (statics-plans u p w l)
    ∙ ap (λ (os : List Planned). map made_plan (statics_of u) ++ os)
    (frames-same p.types (lowered.homes_of u) (functions_of u) p.functions l.code.functions)

ready-told : (u : TypedTranslationUnit) (p : Program) → IsReadyUnit p.types u → IsLoweredFrom u p → IsToldOf p
ready-told u p w l =
    subst (λ (sites : List Site). AreSitesTold p.types (objects_of p) sites) (sym l.sites)
    (subst (λ (os : List Planned). AreSitesTold p.types os (sites_of u p.types)) (sym (objects-same u p w l)) (record {
      pointers = pointers-told u p.types;
      objects = objects-told u p.types;
      unions = unions-told p.types u w;
      pointees = pointees-told u p.types w;
      homes = homes-told u p.types w;
      flows = flows-told u p.types w;
      same = same-told u p.types w;
    }))

pub program-told : (u : TypedTranslationUnit) (p : Program) → IsWellTyped p.types u → IsLoweredFrom u p → IsToldOf p
program-told u p typed l = ready-told u p (well-typed-ready p.types u typed) l

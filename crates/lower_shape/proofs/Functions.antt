-- The functions of a program that is lowered from a well typed unit are in shape.
use Rattle.std.specs.List.{All}
use Rattle.std.proofs.Common.{◌≡◌, ◌⊎◌, suc, ◌<◌, ◌≤◌, List, [], ◌∷◌, map, length, inl, inr, refl, ap, sym, subst, ◌∙◌}
use Rattle.std.proofs.lemmas.List.Elements.{All-nil, All-cons, All-head, All-tail, All-weaker, All-get_or}
use Rattle.cc_base.specs.declared.number.NodeId.{NodeId}
use Rattle.cc_base.specs.declared.number.TypeId.{TypeId}
use Rattle.c_types.specs.declared.shape.TypeShape.{TypeShape}
use Rattle.c_types.specs.declared.shape.TypeShape.TheVariants as shape
use Rattle.c_types.specs.Table.{Table, Entry, IsType, shape_at, void_entry}
use Rattle.c_tree.specs.TypedTree.{TypedTranslationUnit}
use Rattle.c_tree.specs.TypedParts.{DefinedFunction, ParameterObject, declared_type, parameters_of, functions_of}
use Rattle.c_typing.specs.Declarators.{taken_types}
use Rattle.c_typing.specs.Shapes as shapes
use Rattle.c_unit_typing.specs.Limits.{IsWithinLimits, parameters_of_shape}
use Rattle.c_ready.specs.Ready.{Stage, Named, IsNode, IsWhole, IsReadyFunction, static_stage, parameters_listed, IsReadyUnit}
use Rattle.c_ready.proofs.Basics.{unmap}
use Rattle.unit_sites.proofs.Elements.{each-of}
use Rattle.src_mem.specs.Memory.{Planned}
use Rattle.src_mem.specs.Runs as runs
use Rattle.src_mem.specs.Runs.{variables_of}
use Rattle.src_machine.specs.Machine as source
use Rattle.cil_form.specs.declared.program.Function.{Function}
use Rattle.cil_form.specs.declared.program.Parameter.{Parameter}
use Rattle.cil_form.specs.declared.program.Program.{Program}
use Rattle.cil_form.specs.Machine as code
use Rattle.cil_form.specs.Shape.{IsFunctionInShape, IsPlanInShape, IsResult, context_of}
use Rattle.cil_form.specs.Sites.{Each}
use Rattle.cil_form.specs.Typing.{IsScalar}
use Rattle.lower_rules.specs.Units as lowered
use Rattle.lower_rules.specs.Units.{IsCodeOfFunction, AreCodeOf}
use Rattle.lower_shape.specs.Lowered.{IsLoweredFrom}
use Rattle.lower_shape.proofs.Addresses.{In}
use Rattle.lower_shape.proofs.Bodies.{IsTold, same-type, body-shaped}
use Rattle.unit_sites.proofs.FramesNamed.{frame-named}
use Rattle.lower_shape.proofs.Lists.{all-in}
use Rattle.lower_shape.proofs.Types.{scalar-some}
use Rattle.lower_shape.proofs.UnitParts.{IsBodyWithin}

-- what holds of each function of the unit holds of its code
pub each-code : (T : Table) (statics : List NodeId) (Q : DefinedFunction → Type 0) (R : Function → Type 0)
    → ((d : DefinedFunction) (f : Function) → Q d → IsCodeOfFunction T statics d f → R f)
    → (ds : List DefinedFunction) (fs : List Function) → All Q ds → AreCodeOf T statics ds fs → All R fs
each-code T statics Q R own [] [] h c = All-nil R
each-code T statics Q R own [] (f ∷ fs) h c = absurd c
each-code T statics Q R own (d ∷ ds) [] h c = absurd c
each-code T statics Q R own (d ∷ ds) (f ∷ fs) h c =
    All-cons R f fs (own d f (All-head Q d ds h) c.0) (each-code T statics Q R own ds fs (All-tail Q d ds h) c.1)

pub as-many : (T : Table) (statics : List NodeId) (ds : List DefinedFunction) (fs : List Function) → AreCodeOf T statics ds fs
    → length fs ≡ length ds
as-many T statics [] [] c = refl
as-many T statics [] (f ∷ fs) c = absurd c
as-many T statics (d ∷ ds) [] c = absurd c
as-many T statics (d ∷ ds) (f ∷ fs) c = ap suc (as-many T statics ds fs c.1)

pub all-both : {A : Type 0} (P Q : A → Type 0) (xs : List A) → All P xs → All Q xs → All (λ x. P x × Q x) xs
all-both P Q [] h g = All-nil (λ x. P x × Q x)
all-both P Q (x ∷ xs) h g =
    All-cons (λ y. P y × Q y) x xs (All-head P x xs h, All-head Q x xs g) (all-both P Q xs (All-tail P x xs h) (All-tail Q x xs g))

length-map : {A B : Type 0} (f : A → B) (xs : List A) → length (map f xs) ≡ length xs
length-map f [] = refl
length-map f (x ∷ xs) = ap suc (length-map f xs)

types-of : (ps : List Parameter) → map (λ (x : runs.Parameter). x.type) (map (λ (p : Parameter). record { type = p.ty; home = p.home }) ps)
    ≡ map (λ (x : Parameter). x.ty) ps
types-of [] = refl
types-of (p ∷ ps) = ap (λ (ts : List TypeId). p.ty ∷ ts) (types-of ps)

types-in : (ps : List ParameterObject)
    → map (λ (x : runs.Parameter). x.type) (map (λ (p : ParameterObject). record { type = p.type; home = p.home }) ps)
    ≡ map (λ (p : ParameterObject). p.type) ps
types-in [] = refl
types-in (p ∷ ps) = ap (λ (ts : List TypeId). p.type ∷ ts) (types-in ps)

module _ (u : TypedTranslationUnit) (p : Program) (w : IsReadyUnit p.types u) (l : IsLoweredFrom u p) (limits : IsWithinLimits p.types u) where
  abbrev static : Stage
  static = static_stage p.types u

  -- the types of its parameters
  taken : (d : DefinedFunction) (f : Function) → IsCodeOfFunction p.types (lowered.homes_of u) d f → IsReadyFunction static d
      → map (λ (x : Parameter). x.ty) f.parameters ≡ taken_types (parameters_listed d.declarator)
  taken d f h r =
      sym (types-of f.parameters)
      ∙ (ap (λ (x : runs.Head). map (λ (q : runs.Parameter). q.type) x.parameters) h.head ∙ (types-in (parameters_of d.declarator) ∙ r.parameters))

  few : (d : DefinedFunction) → (r : IsReadyFunction static d) → length (taken_types (parameters_listed d.declarator)) ≤ 127
  few d r =
      subst (λ (x : TypeShape). parameters_of_shape x ≤ 127) r.types.1
      (All-get_or (λ (e : Entry). parameters_of_shape e.shape ≤ 127) p.types (declared_type d.declarator).0 void_entry r.types.0 limits.parameters)

  scalar : (t : TypeId) → IsType p.types t × shapes.IsScalar p.types t → IsScalar (context_of p) t
  scalar t h = (h.0, scalar-some (shape_at p.types t) h.1)

  result : (t : TypeId) → (IsType p.types t × shapes.IsScalar p.types t) ⊎ shapes.IsVoid p.types t → IsResult p t
  result t (inl h) = inl (scalar t h)
  result t (inr h) = inr h

  planned : (d : DefinedFunction) (f : Function) → IsCodeOfFunction p.types (lowered.homes_of u) d f → IsReadyFunction static d
      → Each (IsPlanInShape p) (code.variables_of f)
  planned d f h r =
      subst (λ (vs : List Planned). Each (IsPlanInShape p) vs) (sym (ap variables_of h.head))
      (each-of (IsPlanInShape p) (variables_of (source.head_of d))
      (All-weaker (λ (o : Planned). IsNode static o.node × IsWhole static o.type) (IsPlanInShape p)
      (λ o q. (subst (λ n. o.node.0 < n) (sym l.nodes) q.0, q.1)) (variables_of (source.head_of d))
      (unmap (λ (o : Named). IsNode static o.0 × IsWhole static o.1) (λ (o : Planned). (o.node, o.type)) (variables_of (source.head_of d))
      (subst (All (λ (o : Named). IsNode static o.0 × IsWhole static o.1)) (sym (frame-named d)) r.plans))))

  function-shaped : (d : DefinedFunction) (f : Function) → (In d (functions_of u) × IsReadyFunction static d) × IsBodyWithin (IsTold u p w l) d
      → IsCodeOfFunction p.types (lowered.homes_of u) d f → IsFunctionInShape p f
  function-shaped d f ((c, r), within) h =
      let same = same-type u p w l d f h in
      record {
        type = (
          r.result,
          subst (λ t. IsType p.types t) (sym same) r.types.0,
          ap (λ t. shape_at p.types t) same ∙ (r.types.1 ∙ ap (λ ts. shape.Function ts r.result) (sym (taken d f h r))),
          result r.result r.gives,
        );
        parameters = subst (λ n. n ≤ 127) (ap length (sym (taken d f h r)) ∙ length-map (λ (x : Parameter). x.ty) f.parameters) (few d r);
        scalars =
            each-of (λ (x : Parameter). IsScalar (context_of p) x.ty) f.parameters
            (unmap (λ t. IsScalar (context_of p) t) (λ (x : Parameter). x.ty) f.parameters
            (subst (All (λ t. IsScalar (context_of p) t)) (sym (taken d f h r))
            (All-weaker (λ t. IsType p.types t × shapes.IsScalar p.types t) (λ t. IsScalar (context_of p) t) scalar
            (taken_types (parameters_listed d.declarator)) r.scalars)));
        variables = planned d f h r;
        body = body-shaped u p w l d c f h r within;
      }

  pub functions-shaped : All (IsBodyWithin (IsTold u p w l)) (functions_of u) → All (IsFunctionInShape p) p.functions
  functions-shaped within =
      each-code p.types (lowered.homes_of u)
      (λ d. (In d (functions_of u) × IsReadyFunction static d) × IsBodyWithin (IsTold u p w l) d) (IsFunctionInShape p) function-shaped
      (functions_of u) p.functions
      (all-both (λ d. In d (functions_of u) × IsReadyFunction static d) (IsBodyWithin (IsTold u p w l)) (functions_of u)
      (all-both (λ d. In d (functions_of u)) (IsReadyFunction static) (functions_of u) (all-in (functions_of u))
      w.functions) within)
      l.code.functions

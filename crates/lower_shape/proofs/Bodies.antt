-- The bodies and the static initialisers of a program that is lowered from a well typed unit are in shape.
use Rattle.std.specs.List.{All, Contains}
use Rattle.std.proofs.Common.{◌≡◌, ℕ, true, false, List, [], ◌∷◌, ◌++◌, map, flat_map, Option, Some, None, refl, ap, sym, subst, ◌∙◌, nat_lt, if◌then◌else◌, arith}
use Rattle.std.proofs.lemmas.Bool.Decides.{nat_tests}
use Rattle.std.proofs.lemmas.List.{append-nil}
use Rattle.std.proofs.lemmas.List.Elements.{All-head, All-tail, All-weaker, All-contains_itself}
use Rattle.std.proofs.lemmas.Option.{none-some}
use Rattle.cc_base.specs.declared.number.NodeId.{NodeId}
use Rattle.cc_base.specs.declared.number.TypeId.{TypeId}
use Rattle.kind_sites.specs.declared.site.Site.{Site}
use Rattle.kind_sites.specs.Solutions.{sites_of_table}
use Rattle.c_types.specs.Table.{Table, shape_at}
use Rattle.c_tree.specs.TypedTree.{TypedTranslationUnit}
use Rattle.c_tree.specs.TypedParts.{DefinedFunction, StaticInitialiser, declared_type, functions_of, static_initialisers}
use Rattle.c_ready.specs.Rows.{Around}
use Rattle.integers.specs.Arithmetic.{unsigned_long}
use Rattle.c_ready.specs.Ready.{Stage, Named, IsReadyFunction, IsReadyStatic, static_stage, variables_named, IsReadyUnit}
use Rattle.c_ready.proofs.Basics.{all-left, all-right}
use Rattle.unit_sites.proofs.Elements.{each-of, unflat}
use Rattle.src_mem.specs.Memory.{Planned}
use Rattle.src_mem.specs.Runs as runs
use Rattle.src_mem.specs.Runs.{variables_of}
use Rattle.src_machine.specs.Machine as source
use Rattle.src_machine.specs.Names.{named_in}
use Rattle.src_machine.specs.Pieces.{Piece, pieces_of_unit}
use Rattle.src_machine.specs.Sites.{copies_in, copies_to, sites_of_homes, sites_of_piece, sites_of_names, sites_of}
use Rattle.cil_form.specs.declared.instr.Instr.{Instr}
use Rattle.cil_form.specs.declared.number.Temp.TheVariants as temp
use Rattle.cil_form.specs.declared.program.Function.{Function}
use Rattle.cil_form.specs.declared.program.Program.{Program}
use Rattle.cil_form.specs.Machine as code
use Rattle.cil_form.specs.Machine.{plan}
use Rattle.cil_form.specs.Shape.{IsCodeInShape, context_of, context_in, result_of_shape}
use Rattle.cil_form.specs.Sites.{Each, AreAmong}
use Rattle.cil_form.specs.Typing.{Context, IntegerOf, Typing, Includes, AreShaped, no_types}
use Rattle.lower_rules.specs.Initialisers.{IsCodeOfObject, IsCodeOfStatics}
use Rattle.lower_rules.specs.Statements.{IsCodeOfBlock}
use Rattle.lower_rules.specs.Units as lowered
use Rattle.lower_rules.specs.Units.{IsCodeOfFunction, outermost}
use Rattle.lower_rules.specs.Words as words
use Rattle.lower_shape.specs.Lowered.{IsLoweredFrom}
use Rattle.lower_shape.specs.Stands.{Frame, stand, low, Told}
use Rattle.lower_shape.proofs.Addresses.{In}
use Rattle.lower_shape.proofs.Between.{between, Does, AllDo, does-nothing, does-then}
use Rattle.lower_shape.proofs.Initialisers.{object-initialised}
use Rattle.lower_shape.proofs.Known.{frame_in, stage_in, known, statics-homes, frame-apart, statics-apart, variable-planned}
use Rattle.lower_shape.proofs.Nests.{Nests, nests-line, nests-then}
use Rattle.lower_shape.proofs.StatementNests.{nested-object, nested-block}
use Rattle.lower_shape.proofs.Statements.{does-items}
use Rattle.lower_shape.proofs.UnitParts.{IsBodyWithin, IsStaticWithin}

-- outside all `switch` statements nothing is kept
nothing-between : Includes no_types (between 0)
nothing-between (temp.Value j) x e = absurd (none-some x e)
nothing-between (temp.Switch j) x e = absurd (none-some x (sym (ap (λ b. if b then Some (IntegerOf unsigned_long) else None) (none-less j)) ∙ e))
  where
    none-less : (n : ℕ) → nat_lt n 0 ≡ false
    none-less n = grind (arith, nat_tests)
nothing-between (temp.Work w) x e = absurd (none-some x e)

nothing-known : (types : Typing) → Includes types no_types
nothing-known types t x e = absurd (none-some x e)

alone-shaped : (k : Context) (c : List Instr) → Does k 0 c → AreShaped c k no_types no_types
alone-shaped k c d =
    subst (λ (x : List Instr). AreShaped x k no_types no_types) (append-nil c) (d no_types no_types [] nothing-between (λ U inc. nothing-known U))

module _ (u : TypedTranslationUnit) (p : Program) (w : IsReadyUnit p.types u) (l : IsLoweredFrom u p) where
  abbrev pub IsTold : Piece → Type 0
  IsTold piece = All (Contains (sites_of u p.types)) (sites_of_piece p.types piece)

  pub pieces-told : All IsTold (pieces_of_unit u)
  pieces-told =
      let A = sites_of_table p.types ++ sites_of_homes u in
      let B = flat_map (sites_of_piece p.types) (pieces_of_unit u) in
      let C = sites_of_names (named_in u p.types) in
      unflat (Contains (sites_of u p.types)) (sites_of_piece p.types) (pieces_of_unit u)
      (all-right (Contains (sites_of u p.types)) A B (all-left (Contains (sites_of u p.types)) (A ++ B) C (All-contains_itself (sites_of u p.types))))

  among : (list : List Site) → All (Contains (sites_of u p.types)) list → AreAmong p.sites list
  among list h = each-of (Contains p.sites) list (subst (λ sites. All (Contains sites) list) (sym l.sites) h)

  told : (s : Stage) (vs : List Planned) (r : Option TypeId) → s.table ≡ p.types → (pieces : List Piece) → All IsTold pieces
      → Told s (frame_in u p w l vs r) pieces
  told s vs r e pieces h =
      subst (λ (T : Table). Each (λ piece. AreAmong p.sites (sites_of_piece T piece)) pieces) (sym e)
      (each-of (λ piece. AreAmong p.sites (sites_of_piece p.types piece)) pieces
      (All-weaker IsTold (λ piece. AreAmong p.sites (sites_of_piece p.types piece)) (λ piece g. among (sites_of_piece p.types piece) g) pieces h))

  -- What code stands in

  abbrev made_in : ℕ → List Planned → Option TypeId → Context
  made_in n vs r = record {
    table = p.types;
    nodes = n;
    sites = p.sites;
    statics = map (λ s. plan s.planned) p.statics;
    variables = vs;
    functions = map (λ f. f.ty) p.functions;
    result = r;
    blocks = 0;
    kept = no_types;
  }

  abbrev static : Stage
  static = static_stage p.types u

  pub same-type : (d : DefinedFunction) (f : Function) → IsCodeOfFunction p.types (lowered.homes_of u) d f → f.ty ≡ declared_type d.declarator
  same-type d f h = ap (λ (x : runs.Head). x.type) h.head

  same-result : (d : DefinedFunction) (f : Function) → IsCodeOfFunction p.types (lowered.homes_of u) d f → (r : IsReadyFunction static d)
      → result_of_shape (shape_at p.types f.ty) ≡ Some r.result
  same-result d f h r = ap (λ t. result_of_shape (shape_at p.types t)) (same-type d f h) ∙ ap result_of_shape r.types.1

  pub body-context : (d : DefinedFunction) (f : Function) → IsCodeOfFunction p.types (lowered.homes_of u) d f → (r : IsReadyFunction static d)
      → context_in p f ≡ stand (stage_in u p w l (variables_named d) true)
      (frame_in u p w l (variables_of (source.head_of d)) (Some r.result)) 0 no_types
  body-context d f h r =
      ap (λ n. made_in n (code.variables_of f) (result_of_shape (shape_at p.types f.ty))) l.nodes
      ∙ (ap (λ vs. made_in static.nodes vs (result_of_shape (shape_at p.types f.ty))) (ap variables_of h.head)
      ∙ ap (λ x. made_in static.nodes (variables_of (source.head_of d)) x) (same-result d f h r))

  pub start-context : context_of p ≡ stand (stage_in u p w l [] false) (frame_in u p w l [] None) 0 no_types
  start-context = ap (λ n. made_in n [] None) l.nodes

  abbrev low-in : (vs : List Planned) → List NodeId → words.Context
  low-in vs statics = record { table = p.types; statics = statics; variables = map (λ (o : Planned). o.node) vs }

  -- Bodies

  pub body-shaped : (d : DefinedFunction) → In d (functions_of u) → (f : Function) → IsCodeOfFunction p.types (lowered.homes_of u) d f
      → IsReadyFunction static d → IsBodyWithin IsTold d → IsCodeInShape (context_in p f) f.body.0.items
  body-shaped d c f h r within =
      let vs = variables_of (source.head_of d) in
      let s = stage_in u p w l (variables_named d) true in
      let fr = frame_in u p w l vs (Some r.result) in
      let K = stand s fr 0 no_types in
      let a : Around = record { result = r.result; in_loop = false; breakable = false } in
      let block = subst (λ (hs : List NodeId). IsCodeOfBlock d.body (low-in vs hs) outermost f.body.0.items) (sym (statics-homes u p w l)) h.body in
      subst (λ k. IsCodeInShape k f.body.0.items) (sym (body-context d f h r)) (record {
        shaped =
            alone-shaped K f.body.0.items (does-items s fr
            (known u p w l (variables_named d) vs true (Some r.result) (λ e. refl) (frame-apart u p w l d c (Some r.result))
            (variable-planned u p w l d)) d.body a None outermost static 0 no_types r.body
            (record { breaks = λ e. absurd (cc (e)); continues = λ e. absurd (cc (e)); result = refl }) (nothing-known (between 0))
            (told s vs (Some r.result) refl _ within.pieces) within.holds (omega (arith, within.height)) f.body.0.items block);
        nested = omega (
          arith,
          nested-block s (low s fr) d.body a None static outermost 510 r.body (omega
              (arith, within.height)) f.body.0.items block,
        );
      })

  -- Static initialisers

  abbrev S : Stage
  S = stage_in u p w l [] false

  abbrev F : Frame
  F = frame_in u p w l [] None

  statics-do : (is : List StaticInitialiser) → All (IsReadyStatic static) is → All (IsStaticWithin IsTold) is
      → AllDo (stand S F 0 no_types) 0 (IsCodeOfStatics is (low S F))
  statics-do [] r h = does-nothing (stand S F 0 no_types) 0
  statics-do (i ∷ is) r h =
      let own = All-head (IsReadyStatic static) i is r in
      let within = All-head (IsStaticWithin IsTold) i is h in
      does-then (stand S F 0 no_types) 0 (IsCodeOfObject i.home i.type i.place i.initialiser (low S F)) (IsCodeOfStatics is (low S F))
      (object-initialised S F (known u p w l [] [] false None (λ e. absurd (cc (e))) (statics-apart u p w l None) (λ g t q. absurd (none-there
      (g, t) q)))
      0 no_types 0 i.home i.type i.place i.initialiser own.1 own.0 (told S [] None refl _ within.pieces)
      (among (copies_in p.types i.home i.initialiser)
      (subst (λ (o : Option NodeId). All (Contains (sites_of u p.types)) (copies_to p.types o i.initialiser)) within.home within.own)) within.holds)
      (statics-do is (All-tail (IsReadyStatic static) i is r) (All-tail (IsStaticWithin IsTold) i is h))
    where
      none-there : (x : Named) → Contains [] x → ⊥
      none-there x q = absurd (omega (arith, q.1))

  statics-nest : (is : List StaticInitialiser) → All (IsReadyStatic static) is → All (IsStaticWithin IsTold) is
      → Nests 255 (IsCodeOfStatics is (low S F))
  statics-nest [] r h = nests-line [] 255 (omega arith)
  statics-nest (i ∷ is) r h =
      nests-then (IsCodeOfObject i.home i.type i.place i.initialiser (low S F)) (IsCodeOfStatics is (low S F)) 255
      (nested-object S (low S F) i.home i.type i.place i.initialiser 255 (All-head (IsReadyStatic static) i is r).0
      (All-head (IsStaticWithin IsTold) i is h).height)
      (statics-nest is (All-tail (IsReadyStatic static) i is r) (All-tail (IsStaticWithin IsTold) i is h))

  pub statics-shaped : All (IsStaticWithin IsTold) (static_initialisers u) → IsCodeInShape (context_of p) p.initialisers.0.items
  statics-shaped within =
      let is = static_initialisers u in
      let ready = w.initialisers in
      let c = subst (λ (hs : List NodeId). IsCodeOfStatics is (low-in [] hs) p.initialisers.0.items) (sym
      (statics-homes u p w l)) l.code.initialisers in
      subst (λ k. IsCodeInShape k p.initialisers.0.items) (sym start-context) (record {
        shaped = alone-shaped (stand S F 0 no_types) p.initialisers.0.items (statics-do is ready within p.initialisers.0.items c);
        nested = omega (arith, statics-nest is ready within p.initialisers.0.items c);
      })

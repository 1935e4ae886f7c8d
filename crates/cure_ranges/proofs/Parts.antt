-- The parts of a cured program are in range, where the instructions of its functions are.
use Rattle.std.specs.Prelude.{sum_by, nat_le, if◌then◌else◌, IfSome, slice_index, ◌≢◌}
use Rattle.std.proofs.Common.{◌≡◌, ℕ, zero, suc, ◌+◌, ◌*◌, ◌-◌, ◌<◌, ◌≤◌, Bool, true, false, List, [], ◌∷◌, ◌++◌, length, map, replicate, get_or, slice_get, Option, None, Some, refl, ap, sym, subst, ◌∙◌, inl, inr, ◌⊎◌, arith}
use Rattle.std.specs.List.{All}
use Rattle.std.proofs.lemmas.Bool.Decides.{nat_tests}
use Rattle.std.proofs.lemmas.Option.{slice_get-get_or, get_or_from_slice_get}
use Rattle.std.proofs.lemmas.List.Sums.{sum_by-cons}
use Rattle.cc_base.specs.declared.number.TypeId.{TypeId}
use Rattle.cc_base.specs.declared.number.NodeId.{NodeId}
use Rattle.cc_base.specs.declared.kind.Kind.{Kind}
use Rattle.flat_mem.specs.declared.Area.{Area}
use Rattle.c_types.specs.declared.shape.TypeShape.{TypeShape}
use Rattle.c_types.specs.Table.{Table, is_function, is_function_shape}
use Rattle.c_types.specs.Layouts.{size_of}
use Rattle.src_mem.specs.Memory.{Planned, charge_of, frame_charge}
use Rattle.src_mem.specs.Checks.{source_frame_limit}
use Rattle.cil_form.specs.declared.program.Static.{Static}
use Rattle.cil_form.specs.declared.program.Parameter.{Parameter}
use Rattle.cil_form.specs.declared.program.Function.{Function}
use Rattle.cil_form.specs.declared.program.Program.{Program}
use Rattle.cil_form.specs.Machine.{plan, variables_of}
use Rattle.cil_form.specs.Shape.{parameters_limit, IsText, IsPlanInShape, IsStaticInShape, IsFunctionInShape, IsInShape}
use Rattle.cil_form.specs.Sites.{Each}
use Rattle.cured_code.specs.declared.parts.AreaLine.{AreaLine}
use Rattle.cured_code.specs.declared.parts.Sig.{Sig}
use Rattle.cured_code.specs.declared.parts.GlobalLine.{GlobalLine}
use Rattle.cured_code.specs.declared.parts.Function as cured
use Rattle.cured_code.specs.declared.parts.Parts.{Parts}
use Rattle.cured_code.specs.Tables.{area_of, areas_of}
use Rattle.cured_code.specs.Ranges.{IsSigInRange, IsGlobalInRange, IsFunctionInRange, IsStartBare, IsBare, AreParentsEarlier, sigs_of, IsInRange}
use Rattle.cure_rules.specs.Functions.{bare, words_at, signature_by, signature_of, AreSignatures, area_for, areas_for, parameter_words, world_of, IsCuredFunction}
use Rattle.cure_rules.specs.Programs.{Numbers, whole_of, start_world, IsFirstOf, IsStart, AreCured}
use Rattle.cure_tables.proofs.Signed.{signature_small}
use Rattle.cure_ranges.specs.Bodies.{IsBodyInRange}
use Rattle.cure_ranges.proofs.Areas.{area_few, area_small, text_fits}

-- Lists

pub same_some : {A : Type 0} (x y : A) → Some x ≡ Some y → x ≡ y
same_some x y h = cc

pub there : {A : Type 0} (xs : List A) (i : ℕ) → i < length xs → (x : A) × (slice_get xs i ≡ Some x)
there [] i h = absurd (omega (arith, h))
there (x ∷ xs) zero h = (x, refl)
there (x ∷ xs) (suc i) h = there xs i (omega (arith, h))

pub within : {A : Type 0} (xs : List A) (i : ℕ) (x : A) → slice_get xs i ≡ Some x → i < length xs
within [] i x h = absurd (cc (h))
within (y ∷ xs) zero x h = omega arith
within (y ∷ xs) (suc i) x h = let k = within xs i x h in omega arith

pub mapped_length : {A B : Type 0} (f : A → B) (xs : List A) → length (map f xs) ≡ length xs
mapped_length f [] = refl
mapped_length f (x ∷ xs) = ap suc (mapped_length f xs)

pub mapped_get : {A B : Type 0} (f : A → B) (xs : List A) (i : ℕ) (x : A) → slice_get xs i ≡ Some x → slice_get (map f xs) i ≡ Some (f x)
mapped_get f [] i x e = absurd (cc (e))
mapped_get f (y ∷ ys) zero x e = ap (λ z. Some (f z)) (same_some y x e)
mapped_get f (y ∷ ys) (suc i) x e = mapped_get f ys i x e

pub each_at : {A : Type 0} (P : A → Type 0) (xs : List A) → All P xs → (i : ℕ) (x : A) → slice_get xs i ≡ Some x → P x
each_at P xs h i x e = subst P (get_or_from_slice_get xs i x x e) (h i x (within xs i x e))

pub each_in : {A : Type 0} (P : A → Type 0) (xs : List A) → Each P xs → (i : ℕ) (x : A) → slice_get xs i ≡ Some x → P x
each_in P [] h i x e = absurd (cc (e))
each_in P (y ∷ ys) h zero x e = subst P (same_some y x e) h.0
each_in P (y ∷ ys) h (suc i) x e = each_in P ys h.1 i x e

pub all_by : {A : Type 0} (P : A → Type 0) (xs : List A) → ((i : ℕ) (x : A) → slice_get xs i ≡ Some x → P x) → All P xs
all_by P xs h i d l = h i (get_or xs i d) (slice_get-get_or xs i d l)

sum_map : {A B : Type 0} (f : B → ℕ) (g : A → B) (xs : List A) → sum_by f (map g xs) ≡ sum_by (λ x. f (g x)) xs
sum_map f g [] = refl
sum_map f g (x ∷ xs) = sum_by-cons f (g x) (map g xs) ∙ ap (λ n. f (g x) + n) (sum_map f g xs) ∙ sym (sum_by-cons (λ y. f (g y)) x xs)

sum_three : {A : Type 0} (f g : A → ℕ) (xs : List A) → ((i : ℕ) (x : A) → slice_get xs i ≡ Some x → f x ≤ 3 * g x) → sum_by f xs ≤ 3 * sum_by g xs
sum_three f g [] h = omega arith
sum_three f g (x ∷ xs) h =
    let r = sum_three f g xs (λ i y e. h (suc i) y e) in let k = h 0 x refl in let a = sum_by-cons f x xs in let b = sum_by-cons g x xs in omega (arith, r, k, a, b)

sum_sixteen : {A : Type 0} (g : A → ℕ) (xs : List A) → ((x : A) → 16 ≤ g x) → 16 * length xs ≤ sum_by g xs
sum_sixteen g [] h = omega arith
sum_sixteen g (x ∷ xs) h = let r = sum_sixteen g xs h in let k = h x in let b = sum_by-cons g x xs in omega (arith, r, k, b)

pred_of : (n : ℕ) → 0 < n → (m : ℕ) × (n ≡ suc m)
pred_of zero h = absurd (omega (arith, h))
pred_of (suc m) h = (m, refl)

-- Signatures

module _ (table : Table) (kind : NodeId → Kind) (signature : TypeId → ℕ) (sigs : List Sig) (s : AreSignatures table kind signature sigs) where
  sig_small : (g : ℕ) (x : Sig) → slice_get sigs g ≡ Some x → IsSigInRange x
  sig_small zero x e = subst IsSigInRange (same_some bare x (sym s.start ∙ e)) (record { params_kept = omega arith; results_kept = omega arith })
  sig_small (suc g) x e =
      let k = s.kept (suc g) (omega arith) (within sigs (suc g) x e) in
      let f : slice_get sigs (suc g) ≡ Some (signature_of table kind k.0) = ap (slice_get sigs) (sym k.2) ∙ (s.each k.0 k.1).1 in
      subst IsSigInRange (same_some (signature_of table kind k.0) x (sym f ∙ e)) (signature_small table kind k.0)

  pub sigs_small : All IsSigInRange sigs
  sigs_small = all_by IsSigInRange sigs sig_small

-- A program

module _ (p : Program) (kind : NodeId → Kind) (node : TypeId → ℕ) (parents : List ℕ) (parts : Parts) (shape : IsInShape p) (numbers : Numbers)
    (c : AreCured (whole_of p kind node numbers parts) p parents parts) where
  -- Globals

  static_shape : (k : ℕ) (o : Static) → slice_get p.statics k ≡ Some o → IsStaticInShape p o
  static_shape k o e = each_at (IsStaticInShape p) p.statics shape.statics k o e

  area_at : Static → Area
  area_at o = area_for p.types kind (plan o.planned)

  global_count : length parts.globals ≡ length p.statics
  global_count =
      let a = mapped_length (λ (g : GlobalLine). area_of g.area) parts.globals in
      let b = mapped_length (area_for p.types kind) (map (λ (o : Static). plan o.planned) p.statics) in
      let d = mapped_length (λ (o : Static). plan o.planned) p.statics in
      let e = ap length c.globals.areas in omega (arith, a, b, d, e)

  -- the static object of a global
  static_of : (k : ℕ) (g : GlobalLine) → slice_get parts.globals k ≡ Some g
      → (o : Static) × (slice_get p.statics k ≡ Some o) × (area_of g.area ≡ area_for p.types kind (plan o.planned))
  static_of k g e =
      let n = global_count in
      let o = there p.statics k (let l = within parts.globals k g e in omega (arith, l, n)) in (
        o.0,
        o.1,
        same_some (area_of g.area) (area_for p.types kind (plan o.0.planned))
            (sym (mapped_get (λ (x : GlobalLine). area_of x.area) parts.globals k g e) ∙ ap (λ xs. slice_get xs k) c.globals.areas
            ∙ mapped_get (area_for p.types kind) (map (λ (x : Static). plan x.planned) p.statics) k (plan o.0.planned) (mapped_get (λ (x : Static). plan x.planned) p.statics k o.0 o.1)),
      )

  bytes_are : (g : GlobalLine) (o : Static) → area_of g.area ≡ area_for p.types kind (plan o.planned) → g.area.bytes ≡ (area_for p.types kind (plan o.planned)).bytes
  bytes_are g o e = ap (λ (a : Area). a.bytes) e

  charges : ℕ
  charges = sum_by (λ (s : Static). charge_of (size_of p.types s.planned.ty)) p.statics

  bytes_together : sum_by (λ (g : GlobalLine). g.area.bytes) parts.globals ≤ 3 * sum_by (λ (s : Static). charge_of (size_of p.types s.planned.ty)) p.statics
  bytes_together =
      let a : sum_by (λ (g : GlobalLine). g.area.bytes) parts.globals ≡ sum_by (λ (x : Area). x.bytes) (map (λ (g : GlobalLine). area_of g.area) parts.globals) =
      sym (sum_map (λ (x : Area). x.bytes) (λ (g : GlobalLine). area_of g.area) parts.globals) in
      let b : sum_by (λ (x : Area). x.bytes) (map (area_for p.types kind) (map (λ (o : Static). plan o.planned) p.statics))
      ≡ sum_by (λ (o : Static). (area_for p.types kind (plan o.planned)).bytes) p.statics =
      sum_map (λ (x : Area). x.bytes) (area_for p.types kind) (map (λ (o : Static). plan o.planned) p.statics)
      ∙ sum_map (λ o. (area_for p.types kind o).bytes) (λ (o : Static). plan o.planned) p.statics in
      let e = ap (sum_by (λ (x : Area). x.bytes)) c.globals.areas in
      let s = sum_three (λ (o : Static). (area_for p.types kind (plan o.planned)).bytes) (λ (o : Static). charge_of (size_of p.types o.planned.ty)) p.statics
      (λ i o f. let k = area_few p.types shape.formed kind (plan o.planned) (static_shape i o f).planned.1.1 in omega (arith, k)) in
      omega (arith, a, b, e, s)

  text_within : (o : Static) (g : GlobalLine) → IsStaticInShape p o → g.area.bytes ≡ (area_for p.types kind (plan o.planned)).bytes → (text : Option (List ℕ)) → o.text ≡ text
      → IsFirstOf text g.first → length g.first ≤ g.area.bytes
  text_within o g s b None e f = let z = ap length f in omega (arith, z)
  text_within o g s b (Some text) e (n, f, z) =
      let t = subst (IsText p.types o.planned.ty) e s.text in
      let a = text_fits p.types shape.formed kind (plan o.planned) t.0 t.1 t.2 s.planned.1.1 t.3.1 t.4.1 in
      let l = ap length f ∙ joined g.first n in
      let m = t.5 in omega (arith, a, l, m, b)
    where
      joined : (xs : List ℕ) (n : ℕ) → length (xs ++ replicate n 0) ≡ length xs + n
      joined [] zero = refl
      joined [] (suc n) = let r = joined [] n in omega (arith, r)
      joined (x ∷ xs) n = let r = joined xs n in omega (arith, r)

  last_kept : (g : GlobalLine) (text : Option (List ℕ)) → IsFirstOf text g.first → 0 < length g.first → slice_index g.first (length g.first - 1) ≢ 0
  last_kept g None f l = absurd (let z = ap length f in omega (arith, z, l))
  last_kept g (Some text) (n, f, z) l = z l

  global_kept : (k : ℕ) (g : GlobalLine) → slice_get parts.globals k ≡ Some g → IsGlobalInRange g
  global_kept k g e =
      let o = static_of k g e in
      let f = c.globals.first k o.0 g o.1 e in
      record { within = text_within o.0 g (static_shape k o.0 o.1) (bytes_are g o.0 o.2) o.0.text refl f; last = last_kept g o.0.text f }

  pub globals_kept : All IsGlobalInRange parts.globals
  globals_kept = all_by IsGlobalInRange parts.globals global_kept

  pub globals_bytes : sum_by (λ (g : GlobalLine). g.area.bytes) parts.globals ≤ 12582912
  globals_bytes = let b = bytes_together in let l = shape.globals in omega (arith, b, l)

  pub globals_few : length parts.globals ≤ 1048576
  globals_few =
      let n = global_count in
      let s = sum_sixteen (λ (s : Static). charge_of (size_of p.types s.planned.ty)) p.statics (λ x. omega arith) in
      let l = shape.globals in omega (arith, n, s, l)

  -- Functions

  abbrev Kept : cured.Function → Type 0
  Kept h = IsFunctionInRange parts.sigs (sigs_of parts.functions) (length parts.nodes) h

  module _ (k : ℕ) (f : Function) (e : slice_get p.functions k ≡ Some f) (h : cured.Function) (slots : _) (is : IsCuredFunction (world_of (whole_of p kind node numbers parts) k f slots) f h)
      (body : IsBodyInRange parts h) where
    in_shape : IsFunctionInShape p f
    in_shape = each_at (IsFunctionInShape p) p.functions shape.functions k f e

    function : is_function p.types f.ty ≡ true
    function = ap is_function_shape in_shape.type.2

    signed : slice_get parts.sigs h.sig ≡ Some (signature_of p.types kind f.ty)
    signed = ap (slice_get parts.sigs) is.sig ∙ (c.signatures.each f.ty function).1

    taken : (signature_of p.types kind f.ty).params ≡ parameter_words (whole_of p kind node numbers parts) f.parameters
    taken =
        ap (λ (s : TypeShape). (signature_by (words_at p.types kind) s).params) in_shape.type.2
        ∙ by (nat_le (length (map (λ (x : Parameter). x.ty) f.parameters)) parameters_limit) refl
      where
        by : (b : Bool) → nat_le (length (map (λ (x : Parameter). x.ty) f.parameters)) parameters_limit ≡ b
            → (if b then record { params = sum_by (words_at p.types kind) (map (λ (x : Parameter). x.ty) f.parameters); results = words_at p.types kind in_shape.type.0 } else bare).params
            ≡ sum_by (λ (x : Parameter). words_at p.types kind x.ty) f.parameters
        by true g = sum_map (words_at p.types kind) (λ (x : Parameter). x.ty) f.parameters
        by false g =
            let l = in_shape.parameters in
            let m = mapped_length (λ (x : Parameter). x.ty) f.parameters in
            let n : parameters_limit < length (map (λ (x : Parameter). x.ty) f.parameters) = grind (arith, nat_tests) in absurd (omega (arith, l, m, n))

    locals_of : (frame_charge p.types (variables_of f) ≤ source_frame_limit) ⊎ (source_frame_limit < frame_charge p.types (variables_of f))
        → (length h.locals ≤ 1048576) × All (λ (a : AreaLine). a.bytes ≤ 3145728) h.locals
    locals_of (inr l) =
        let n = (is.never l).areas in (
          (let z = ap length n in omega (arith, z)),
          subst (λ (xs : List AreaLine). All (λ a. a.bytes ≤ 3145728) xs) (sym n) (λ i d m. absurd (omega (arith, m))),
        )
    locals_of (inl l) = (count, all_by (λ (a : AreaLine). a.bytes ≤ 3145728) h.locals small)
      where
        areas : areas_of h.locals ≡ areas_for p.types kind (variables_of f)
        areas = (is.entered l).areas

        same : length h.locals ≡ length (variables_of f)
        same =
            let a = mapped_length area_of h.locals in let b = mapped_length (area_for p.types kind) (variables_of f) in let z = ap length areas in omega (arith, a, b, z)

        count : length h.locals ≤ 1048576
        count =
            let s = sum_sixteen (λ (v : Planned). charge_of (size_of p.types v.type)) (variables_of f) (λ x. omega arith) in
            let z = same in omega (arith, s, z, l)

        small : (i : ℕ) (a : AreaLine) → slice_get h.locals i ≡ Some a → a.bytes ≤ 3145728
        small i a g =
            let z = same in
            let v = there (variables_of f) i (let m = within h.locals i a g in omega (arith, m, z)) in
            let x : area_of a ≡ area_for p.types kind v.0 =
            same_some (area_of a) (area_for p.types kind v.0)
            (sym (mapped_get area_of h.locals i a g) ∙ ap (λ xs. slice_get xs i) areas ∙ mapped_get (area_for p.types kind) (variables_of f) i v.0 v.1) in
            let y = area_small p.types shape.formed kind v.0 (each_in (IsPlanInShape p) (variables_of f) in_shape.variables i v.0 v.1).1.1 in
            subst (λ (n : ℕ). n ≤ 3145728) (sym (ap (λ (b : Area). b.bytes) x)) y

    order : (a b : ℕ) → (a ≤ b) ⊎ (b < a)
    order a b = grind arith

    function_kept : IsFunctionInRange parts.sigs (sigs_of parts.functions) (length parts.nodes) h
    function_kept = record {
      known_sig = within parts.sigs h.sig (signature_of p.types kind f.ty) signed;
      params_held = subst (λ (o : Option Sig). IfSome o (λ s. s.params ≤ h.slots)) (sym signed)
          (let t = taken in let q = is.slots.parameters in let r = is.slots.held in let z = is.slots.count in omega (arith, t, q, r, z));
      slots_kept = (let r = is.slots.few in let z = is.slots.count in omega (arith, r, z));
      locals_kept = (locals_of (order (frame_charge p.types (variables_of f)) source_frame_limit)).0;
      locals_bytes = (locals_of (order (frame_charge p.types (variables_of f)) source_frame_limit)).1;
      body_kept = body;
    }

  start_kept : (h : cured.Function) (slots : _) → IsStart (start_world (whole_of p kind node numbers parts) slots) p h → IsBodyInRange parts h
      → IsFunctionInRange parts.sigs (sigs_of parts.functions) (length parts.nodes) h
  start_kept h slots is body = record {
    known_sig = (let l = within parts.sigs 0 bare c.signatures.start in let e = is.sig in omega (arith, l, e));
    params_held = subst (λ (o : Option Sig). IfSome o (λ s. s.params ≤ h.slots)) (sym (ap (slice_get parts.sigs) is.sig ∙ c.signatures.start)) (omega arith);
    slots_kept = (let r = is.few in let z = is.count in omega (arith, r, z));
    locals_kept = (let z = ap length is.areas in omega (arith, z));
    locals_bytes = subst (λ (xs : List AreaLine). All (λ a. a.bytes ≤ 3145728) xs) (sym is.areas) (λ i d m. absurd (omega (arith, m)));
    body_kept = body;
  }

  module _ (bodies : All (IsBodyInRange parts) parts.functions) where
    each_kept : (i : ℕ) (h : cured.Function) → slice_get parts.functions i ≡ Some h → IsFunctionInRange parts.sigs (sigs_of parts.functions) (length parts.nodes) h
    each_kept zero h e =
        let same : c.first ≡ h = same_some c.first h (sym c.found ∙ e) in
        start_kept h c.slots (subst (IsStart (start_world (whole_of p kind node numbers parts) c.slots) p) same c.start) (each_at (IsBodyInRange parts) parts.functions bodies 0 h e)
    each_kept (suc k) h e =
        let n = c.count in
        let f = there p.functions k (let l = within parts.functions (suc k) h e in omega (arith, l, n)) in
        let a = c.functions k f.0 f.1 in
        let same : a.cured ≡ h = same_some a.cured h (sym a.found ∙ e) in
        function_kept k f.0 f.1 h a.slots (subst (IsCuredFunction (world_of (whole_of p kind node numbers parts) k f.0 a.slots) f.0) same a.is)
        (each_at (IsBodyInRange parts) parts.functions bodies (suc k) h e)

    bare_start : IsStartBare parts.sigs parts.functions
    bare_start = record {
      there = within parts.functions 0 c.first c.found;
      bare = subst (λ (o : Option cured.Function). IfSome o (λ f. IfSome (slice_get parts.sigs f.sig) IsBare)) (sym c.found)
          (subst (λ (o : Option Sig). IfSome o IsBare) (sym (ap (slice_get parts.sigs) c.start.sig ∙ c.signatures.start)) (record { no_params = refl; no_results = refl }));
    }

    pub in_range : length parents ≤ 65536 → AreParentsEarlier parents → length parts.sigs ≤ 65536 → IsInRange parts
    in_range few earlier sigs = record {
      sigs_count = sigs;
      sigs_kept = sigs_small p.types kind numbers.signature parts.sigs c.signatures;
      nodes_count = (let z = ap length c.nodes in omega (arith, few, z));
      parents = subst AreParentsEarlier (sym c.nodes) earlier;
      globals_count = globals_few;
      globals_kept = globals_kept;
      globals_bytes = globals_bytes;
      functions_count = (let n = c.count in let l = shape.count in omega (arith, n, l));
      functions_kept = all_by (IsFunctionInRange parts.sigs (sigs_of parts.functions) (length parts.nodes)) parts.functions each_kept;
      start = bare_start;
    }

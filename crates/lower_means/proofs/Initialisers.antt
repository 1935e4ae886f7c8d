-- The code of initialisers and declarations does what they do.
use Rattle.std.proofs.Common.{ℕ, ◌+◌, ◌≡◌, refl, ◌∙◌, sym, subst, pos, Bool, true, false, List, [], ◌∷◌, ◌++◌}
use Rattle.std.specs.List.{position}
use Rattle.cc_base.specs.declared.number.NodeId.{NodeId}
use Rattle.cc_base.specs.declared.number.TypeId.{TypeId}
use Rattle.cc_base.specs.declared.place.Place.{Place}
use Rattle.c_types.specs.Table.{shape_at}
use Rattle.integers.specs.Arithmetic.{converted}
use Rattle.runs.specs.Outcome.{Outcome, Ended, Done, done, from, either, Matches, ◌>>◌}
use Rattle.runs.specs.Control.{Goes}
use Rattle.runs.proofs.RunLaws.{from-from, from-same}
use Rattle.c_tree.specs.declared.typed_word.Home.{Home}
use Rattle.c_tree.specs.declared.typed_word.Home.TheVariants as homes
use Rattle.c_tree.specs.TypedTree as typed
use Rattle.c_tree.specs.TypedTree.{TypedPlace, TypedInitialiser, TypedItems, TypedInitDeclarators, TypedDeclaration}
use Rattle.c_tree.specs.TypedParts.{StaticInitialiser, place_at, item_place, declared_type, home_of}
use Rattle.src_mem.specs.Pointers.{Value, Integer}
use Rattle.src_mem.specs.State.{Ending, State, Act, given}
use Rattle.src_mem.specs.Primitives.{clear}
use Rattle.src_mem.specs.Uses.{home}
use Rattle.src_mem.specs.Operations.{integer_in}
use Rattle.src_mem.specs.Values.{stored, copied}
use Rattle.src_machine.specs.World.{World, same_node}
use Rattle.src_machine.specs.Expressions.{Where, eval, locate}
use Rattle.src_machine.specs.Statements.{Whole, part, store_text, clears, element_of_shape, initialise, initialise_items, initialise_object, initialise_declared, declare, declare_all}
use Rattle.src_machine.specs.Machine.{initialise_statics}
use Rattle.cil_form.specs.declared.number.Object.{Object}
use Rattle.cil_form.specs.declared.instr.Set.TheVariants as set
use Rattle.cil_form.specs.declared.instr.Access.TheVariants as access
use Rattle.cil_form.specs.declared.instr.Instr.{Instr}
use Rattle.cil_form.specs.declared.instr.Instr.TheVariants as instr
use Rattle.cil_form.specs.State.{Temporaries, Around, beside, changes_none}
use Rattle.cil_form.specs.Meaning.{act, run, number_of}
use Rattle.cil_form.specs.Laws.{IsAround}
use Rattle.cil_form.specs.Computes.{EndsAlike, LeftAlike, Executes}
use Rattle.cil_form.proofs.ComputesLaws.{left-over, run-one}
use Rattle.cil_form.proofs.InstructionLaws.{at, kept-same, then-set, then-effect, no-code, effect-matches}
use Rattle.lower_rules.specs.declared.after.After.TheVariants as after
use Rattle.lower_rules.specs.Pieces.{Line, Then}
use Rattle.lower_rules.specs.Words.{value, Follows}
use Rattle.lower_rules.specs.Expressions.{IsCodeOf, IsCodeOfPlace}
use Rattle.lower_rules.specs.Initialisers as code
use Rattle.lower_rules.specs.Initialisers.{Initialised, text_code, Clears, IsCodeOfInitialiser, IsCodeOfItems, IsCodeOfObject, IsCodeOfDeclared, IsCodeOfDeclarators, IsCodeOfDeclaration, IsCodeOfStatics}
use Rattle.lower_means.proofs.Forms.{context_of, around_of, Into, object-number}
use Rattle.lower_means.proofs.Means.{means, locates}
use Rattle.lower_means.proofs.Loops.{AllEffect, exec-same, exec-line, exec-value, effect-then, effect-nothing}

-- the object that is initialised, in the memory
abbrev pub whole_of : World → Initialised → Whole
whole_of w o = record { node = o.node; pointer = home w.setting.table (number_of (around_of w) o.object) o.type }

-- One instruction that is the last

effect-beside : (depth : ℕ) (T : Temporaries) (o : Outcome Ending State (Unit {0}))
    → Matches (LeftAlike (IsAround depth) T) EndsAlike (from o (λ _. done Goes)) (from (beside T o) (λ _. done Goes))
effect-beside depth T (Ended e s) = (refl, refl)
effect-beside depth T (Done a s) = record { exit = refl; state = refl; kept = kept-same (IsAround depth) T }

last-effect : (w : Around) (depth : ℕ) (m : Act (Unit {0})) (i : Instr) (s : State) (T : Temporaries) → act i w (at s T) ≡ changes_none m (at s T)
    → Matches (LeftAlike (IsAround depth) T) EndsAlike (from (m s) (λ _. done Goes)) (run (i ∷ []) w (at s T))
last-effect w depth m i s T e =
    subst (λ o. Matches (LeftAlike (IsAround depth) T) EndsAlike (from (m s) (λ _. done Goes)) o) (sym (run-one i w (at s T) ∙ e))
    (effect-beside depth T (m s))

-- an instruction with an effect on the value in value 0
last-line : (w : World) (i : Instr) (f : Value → Act (Unit {0})) (depth : ℕ)
    → ((T : Temporaries) (s : State) → act i (around_of w) (at s T) ≡ changes_none (f (T (value 0))) (at s T))
    → (c : List Instr) → Line (i ∷ []) c → (T : Temporaries) (s : State)
    → Matches (LeftAlike (IsAround depth) T) EndsAlike (from (f (T (value 0)) s) (λ _. done Goes)) (run c (around_of w) (at s T))
unfolding Line
last-line w i f depth e c d T s =
    subst (λ z. Matches (LeftAlike (IsAround depth) T) EndsAlike (from (f (T (value 0)) s) (λ _. done Goes)) (run z (around_of w) (at s T))) (sym d)
    (last-effect (around_of w) depth (f (T (value 0))) i s T (e T s))

-- Texts

-- lines after lines
lines-then : (w : World) (is js : List Instr) (m n : Act (Unit {0})) (depth : ℕ) → AllEffect w (Line is) m depth → AllEffect w (Line js) n depth
    → AllEffect w (Line (is ++ js)) (λ s. from (m s) (λ _. n)) depth
unfolding Line Then
lines-then w is js m n depth h l c d = effect-then w (Line is) (Line js) m n depth h l c (is, js, refl, refl, d)

-- one byte
byte-stored : (w : World) (o : Initialised) (char : TypeId) (place : Place) (base b depth : ℕ)
    → AllEffect w (Line (instr.Set (set.Integer (value 0) (converted (integer_in w.setting char) (pos b)) char)
    ∷ instr.Access (access.Store (code.part o base) (value 0) char place place) ∷ []))
    (stored w.setting place place o.node char (part (whole_of w o) base) (Integer (converted (integer_in w.setting char) (pos b)))) depth
byte-stored w o char place base b depth = exec-line w (S ∷ I ∷ []) (λ s. from (K V s) (λ _. done Goes)) depth (record {
  by = λ s T. then-set (LeftAlike (IsAround depth) T) (value 0) (IsAround depth) V S (I ∷ []) (around_of w) s T (from (K V s) (λ _. done Goes)) refl
      (λ h. h)
      (λ U p kept. subst (λ u. Matches (LeftAlike (IsAround depth) T) EndsAlike (from (K u s) (λ _. done Goes))
      (run (I ∷ []) (around_of w) (at s U))) p
      (left-over (IsAround depth) (IsAround depth) T U (λ u p. p) kept (from (K (U (value 0)) s) (λ _. done Goes))
      (run (I ∷ []) (around_of w) (at s U))
      (last-effect (around_of w) depth (K (U (value 0))) I s U refl)));
})
  where
    V : Value
    V = Integer (converted (integer_in w.setting char) (pos b))

    S : Instr
    S = instr.Set (set.Integer (value 0) (converted (integer_in w.setting char) (pos b)) char)

    I : Instr
    I = instr.Access (access.Store (code.part o base) (value 0) char place place)

    K : Value → Act (Unit {0})
    K = stored w.setting place place o.node char (part (whole_of w o) base)

texts : (w : World) (o : Initialised) (char : TypeId) (place : Place) (base : ℕ) (bytes : List ℕ) (depth : ℕ)
    → AllEffect w (Line (text_code w.setting.table o char place base bytes)) (store_text w place char bytes base (whole_of w o)) depth
texts w o char place base [] depth = effect-nothing w depth
texts w o char place base (b ∷ bytes) depth =
    lines-then w _ (text_code w.setting.table o char place (base + 1) bytes) _ (store_text w place char bytes (base + 1) (whole_of w o)) depth
    (byte-stored w o char place base b depth) (texts w o char place (base + 1) bytes depth)

-- Copies

copies : (w : World) (p : TypedPlace) (o : Initialised) (place : Place) (t : TypeId) (base depth : ℕ)
    → AllEffect w (IsCodeOfPlace p (context_of w) 0 (Follows (after.Copy (code.part o base) place (place_at p) t place) 0))
    (λ s. from (locate p w s) (λ r. copied w.setting t (place_at p) r.node r.address place o.node (part (whole_of w o) base) place)) depth
unfolding Follows Line
copies w p o place t base depth c h = record {
  by = λ s T. subst (λ m. Matches (LeftAlike (IsAround depth) T) EndsAlike m (run c (around_of w) (at s T)))
      (from-from (locate p w s) (λ r u. from (C r u) (λ _. done r.address)) (λ _. done Goes)
      ∙ from-same (locate p w s) (λ r u. from (from (C r u) (λ _. done r.address)) (λ _. done Goes)) (λ r u. from (C r u) (λ _. done Goes))
      (λ r u. from-from (C r u) (λ _. done r.address) (λ _. done Goes))
      ∙ sym (from-from (locate p w s) C (λ _. done Goes)))
      (effect-matches depth T 0 (from (locate p w s) (λ r u. from (C r u) (λ _. done r.address))) (run c (around_of w) (at s T))
      (locates w p 0 _ c h 0 0 T (λ r u. from (C r u) (λ _. done r.address)) s T
      (λ n d q U r kept. subst (λ z. Matches (Into 0 0 T) EndsAlike
      (from (C (record { node = n; address = U (value 0) }) r) (λ _. done (U (value 0))))
      (run z (around_of w) (at r U))) (sym q)
      (then-effect (Into 0 0 T) (C (record { node = n; address = U (value 0) }))
      (instr.Access (access.Copy (code.part o base) place (value 0) n (place_at p) t place)) [] (around_of w) r U (done (U (value 0))) refl
      (λ z. no-code 0 (around_of w) z T U kept)))));
}
  where
    C : Where → Act (Unit {0})
    C = λ r. copied w.setting t (place_at p) r.node r.address place o.node (part (whole_of w o) base) place

-- Initialisers

mutual
  initialises : (w : World) (i : TypedInitialiser) (place : Place) (t : TypeId) (base : ℕ) (o : Initialised) (depth : ℕ) (c : List Instr)
      → IsCodeOfInitialiser i (context_of w) place t base o c
      → Executes c (around_of w) (λ s. from (initialise i place t base (whole_of w o) w s) (λ _. done Goes)) depth
  initialises w (typed.Value e) place t base o depth c h =
      exec-same w (Then (IsCodeOf e (context_of w) 0) (Line (I ∷ []))) (λ s. from (from (eval e w s) K) (λ _. done Goes))
      (λ s. from (eval e w s) (λ v r. from (K v r) (λ _. done Goes))) depth (λ s. from-from (eval e w s) K (λ _. done Goes))
      (exec-value w (IsCodeOf e (context_of w) 0) (Line (I ∷ [])) (eval e w) (λ v r. from (K v r) (λ _. done Goes)) depth (λ x d. means w e 0 x d)
      (last-line w I K depth (λ T s. refl))) c h
    where
      K : Value → Act (Unit {0})
      K = stored w.setting place place o.node t (part (whole_of w o) base)

      I : Instr
      I = instr.Access (access.Store (code.part o base) (value 0) t place place)
  initialises w (typed.Copied p at) place t base o depth c h = copies w p o at t base depth c h
  initialises w (typed.Text pieces bytes) place t base o depth c h =
      texts w o (element_of_shape (shape_at w.setting.table t)) place base bytes depth c h
  initialises w (typed.Listed brace items comma u) place t base o depth c h = initialises-items w items base o depth c h

  initialises-items : (w : World) (items : TypedItems) (base : ℕ) (o : Initialised) (depth : ℕ) (c : List Instr)
      → IsCodeOfItems items (context_of w) base o c
      → Executes c (around_of w) (λ s. from (initialise_items items base (whole_of w o) w s) (λ _. done Goes)) depth
  initialises-items w typed.NoItem base o depth c h = effect-nothing w depth c h
  initialises-items w (typed.AndItem all offset t i) base o depth c h =
      effect-then w (IsCodeOfItems all (context_of w) base o) (IsCodeOfInitialiser i (context_of w) (item_place i) t (base + offset) o)
      (initialise_items all base (whole_of w o) w) (initialise i (item_place i) t (base + offset) (whole_of w o) w) depth
      (λ x d. initialises-items w all base o depth x d) (λ x d. initialises w i (item_place i) t (base + offset) o depth x d) c h

-- Objects and declarations

clears-first : (w : World) (b : Bool) (o : Object) (depth : ℕ)
    → AllEffect w (Clears b o) (either b (clear (number_of (around_of w) o)) (done tt)) depth
unfolding Clears
clears-first w true o depth =
    exec-line w (instr.Access (access.Clear o) ∷ []) (λ s. from (clear (number_of (around_of w) o) s) (λ _. done Goes)) depth
    (record { by = λ s T. last-effect (around_of w) depth (clear (number_of (around_of w) o)) (instr.Access (access.Clear o)) s T refl })
clears-first w false o depth = effect-nothing w depth

pub objects-initialised : (w : World) (node : NodeId) (t : TypeId) (place : Place) (i : TypedInitialiser) (depth : ℕ)
    → AllEffect w (IsCodeOfObject node t place i (context_of w)) (initialise_object w node t place i) depth
objects-initialised w node t place i depth c h =
    subst (λ z. Executes c (around_of w) (λ s. from (given z B s) (λ _. done Goes)) depth)
    (sym (object-number (around_of w) (position (same_node node) w.frame.homes) (position (same_node node) w.statics) h.0 h.1))
    (effect-then w (Clears (clears w.setting.table i) h.0)
    (IsCodeOfInitialiser i (context_of w) place t 0 (record { object = h.0; node = node; type = t }))
    (either (clears w.setting.table i) (clear (number_of (around_of w) h.0)) (done tt))
    (initialise i place t 0 (whole_of w (record { object = h.0; node = node; type = t })) w) depth
    (clears-first w (clears w.setting.table i) h.0 depth)
    (λ x d. initialises w i place t 0 (record { object = h.0; node = node; type = t }) depth x d) c h.2)
  where
    B : ℕ → Act (Unit {0})
    B = λ number. either (clears w.setting.table i) (clear number) (done tt)
        >> initialise i place t 0 (record { node = node; pointer = home w.setting.table number t }) w

declared-home : (w : World) (h : Home) (t : TypeId) (place : Place) (i : TypedInitialiser) (depth : ℕ)
    → AllEffect w (IsCodeOfDeclared h t place i (context_of w)) (initialise_declared w h t place i) depth
declared-home w (homes.Local node) t place i depth = objects-initialised w node t place i depth
declared-home w homes.None t place i depth = effect-nothing w depth
declared-home w (homes.Static n) t place i depth = effect-nothing w depth
declared-home w (homes.Parameter n) t place i depth = effect-nothing w depth
declared-home w (homes.Known n) t place i depth = effect-nothing w depth

declares-all : (w : World) (all : TypedInitDeclarators) (depth : ℕ) → AllEffect w (IsCodeOfDeclarators all (context_of w)) (declare_all all w) depth
declares-all w typed.NoInitDeclarator depth = effect-nothing w depth
declares-all w (typed.AndPlain all d) depth = declares-all w all depth
declares-all w (typed.AndInitialised all d place i) depth =
    effect-then w (IsCodeOfDeclarators all (context_of w)) (IsCodeOfDeclared (home_of d) (declared_type d) place i (context_of w)) (declare_all all w)
    (initialise_declared w (home_of d) (declared_type d) place i) depth (declares-all w all depth)
    (declared-home w (home_of d) (declared_type d) place i depth)

pub declares : (w : World) (d : TypedDeclaration) (depth : ℕ) → AllEffect w (IsCodeOfDeclaration d (context_of w)) (declare d w) depth
declares w (typed.Declare specifiers all) depth = declares-all w all depth

pub statics-initialised : (w : World) (all : List StaticInitialiser) (depth : ℕ)
    → AllEffect w (IsCodeOfStatics all (context_of w)) (initialise_statics all w) depth
statics-initialised w [] depth = effect-nothing w depth
statics-initialised w (i ∷ all) depth =
    effect-then w (IsCodeOfObject i.home i.type i.place i.initialiser (context_of w)) (IsCodeOfStatics all (context_of w))
    (initialise_object w i.home i.type i.place i.initialiser) (initialise_statics all w) depth
    (objects-initialised w i.home i.type i.place i.initialiser depth) (statics-initialised w all depth)

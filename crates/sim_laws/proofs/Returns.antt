-- The return of nothing, and of an integer.
use Rattle.std.proofs.Common.{◌≡◌, ◌≢◌, ℕ, suc, ◌≤◌, Bool, true, false, ℤ, pos, List, [], ◌∷◌, length, slice_get, sum_by, nat_le, if◌then◌else◌, Option, Some, None, refl, ap, sym, subst, ◌∙◌, arith}
use Rattle.std.proofs.lemmas.Bool.Decides.{nat_tests}
use Rattle.cc_base.specs.declared.number.TypeId.{TypeId}
use Rattle.cc_base.specs.declared.number.NodeId.{NodeId}
use Rattle.cc_base.specs.declared.place.Place.{Place}
use Rattle.cc_base.specs.declared.kind.Kind.{Kind}
use Rattle.cc_base.specs.declared.kind.Kind.TheVariants.{Safe, Seq, Rtti, Wild}
use Rattle.c_types.specs.declared.shape.TypeShape.{TypeShape}
use Rattle.c_types.specs.declared.shape.TypeShape.TheVariants as shape
use Rattle.c_types.specs.Table.{shape_at, is_function_shape}
use Rattle.integers.specs.Arithmetic.{IntegerType}
use Rattle.runs.specs.Outcome.{Outcome, Done, done, from}
use Rattle.runs.specs.Control.{Control, Gives}
use Rattle.flat_mem.specs.Bytes.{bytes_at}
use Rattle.src_mem.specs.Pointers.{Value, Integer, Address}
use Rattle.src_mem.specs.State as source
use Rattle.src_mem.specs.Values.{returned}
use Rattle.cil_form.specs.declared.number.Temp.{Temp}
use Rattle.cil_form.specs.declared.instr.Instr.TheVariants as instr
use Rattle.cil_form.specs.State as code
use Rattle.cil_form.specs.Shape.{result_of_shape, parameters_limit}
use Rattle.cil_form.specs.Typing.{HeldType, IntegerOf}
use Rattle.cil_form.specs.Meaning as meaning
use Rattle.cured_code.specs.declared.instr.Instr.TheVariants as flat_instr
use Rattle.cured_code.specs.FlatState as flat
use Rattle.cured_code.specs.FlatState.{slot, slots_at}
use Rattle.cured_code.specs.FlatMachine.{run}
use Rattle.cured_code.specs.declared.parts.Function as cured
use Rattle.cured_code.specs.Tables.{results_of, results_in, sig_of}
use Rattle.check_forms.specs.Pieces.{Line}
use Rattle.sim_relation.specs.Ground.{word_number}
use Rattle.sim_relation.specs.Points.{Form, Exact, HoldsAs, Known, Knowledge, StandsFor}
use Rattle.cure_rules.specs.Slots.{AreSlots}
use Rattle.cure_rules.specs.Known.{words_by, words_in, held_shape, held_by}
use Rattle.cure_rules.specs.Functions.{AreSignatures, signature_by, words_at, bare}
use Rattle.cure_rules.specs.Code.{Blocks, ReturnsNone}
use Rattle.sim_laws.specs.Calls.{Callee, scene_in}
use Rattle.sim_laws.specs.Scenes.{Programs, Scene, Running, setting_of, world_of, around_of, context_of}
use Rattle.sim_laws.specs.Points.{Holds, ground_of}
use Rattle.sim_laws.specs.Statements.{Lines, CodeOutcome, IsPassed, held_result, Match, Follows}

-- the signature gives as many words as the type of the result has
pub record ResultFits (w : Scene) : Type 0 where
  pub words : (t : TypeId) → w.result ≡ Some t → results_of w.programs.parts w.number ≡ words_in w.programs.whole t

some-words : (k : Kind) → word_number k ≡ 0 → ⊥
some-words Safe e = omega (arith, e)
some-words Seq e = omega (arith, e)
some-words Rtti e = omega (arith, e)
some-words Wild e = omega (arith, e)

none-held : (kind : NodeId → Kind) (h : TypeShape) → words_by kind h ≡ 0 → held_shape h ≡ None
none-held kind (shape.Integer bytes signed) e = absurd (omega (arith, e))
none-held kind (shape.Pointer n u) e = absurd (some-words (kind n) e)
none-held kind other e = refl

pub none-at : (a : ℕ) (c : flat.Local) → slots_at 0 a c ≡ []
unfolding bytes_at
none-at a c = refl

one-at : (a : ℕ) (c : flat.Local) → slots_at 1 a c ≡ slot c a ∷ []
unfolding bytes_at
one-at a c = refl

-- nothing is returned
pub given-none : (w : Scene) (g : AreSlots w.slots) (b : Running) → ResultFits w → (known after : Knowledge) (blocks : Blocks) (lines : Lines)
    → ReturnsNone (world_of w) lines → Follows w g b blocks known after (meaning.act instr.Return (around_of w b)) lines
unfolding Line
given-none w g b result known after blocks lines (t, number, is, none, js) l c p =
    subst (λ (ks : Lines). Match w g b after blocks (Done (Gives (Integer (pos 0))) l) (run ks (context_of w b) c)) (sym js) (
      number,
      p.there,
      subst (λ (ws : List ℕ). IsPassed w.programs b.outer l.state c.state Exact (held_result w.programs.whole w.result) (Integer (pos 0)) ws)
          (sym (ap (λ (n : ℕ). slots_at n w.slots.nought c) (result.words t is ∙ none) ∙ none-at w.slots.nought c))
          (subst (λ (o : Option TypeId). IsPassed w.programs b.outer l.state c.state Exact (held_result w.programs.whole o) (Integer (pos 0)) []) (sym is)
          (subst (λ (o : Option HeldType). IsPassed w.programs b.outer l.state c.state Exact o (Integer (pos 0)) [])
          (sym (none-held w.programs.whole.kind (shape_at w.programs.whole.table t) none)) refl)),
    )

-- an integer that stands exactly in a slot
record IntegerIn (w : Scene) (b : Running) (l : code.Local) (v : Value) (i : IntegerType) (form : Form) (n : ℕ) : Type 0 where
  z : ℤ
  value : v ≡ Integer z
  held : Holds w.programs l.state b.outer (IntegerOf i) (Integer z)
  stands : HoldsAs form i z n

integer-in : (w : Scene) (b : Running) (l : code.Local) (c : flat.Local) (x : Known) (i : IntegerType) (v : Value) (a : ℕ) → x.place ≡ Some a
    → Holds w.programs l.state b.depth (IntegerOf i) v → StandsFor (ground_of w.programs l.state c.state) c.slots x (IntegerOf i) v
    → IntegerIn w b l v i x.form (slot c a)
integer-in w b l c x i (Integer z) a place held stands = record { z = z; value = refl; held = held; stands = stands a place }
integer-in w b l c x i (Address q) a place held stands = absurd held

held-words : (kind : NodeId → Kind) (h : TypeShape) (i : IntegerType) → held_shape h ≡ Some (IntegerOf i) → words_by kind h ≡ 1
held-words kind (shape.Integer bytes signed) i e = refl
held-words kind (shape.Pointer n u) i e = absurd (cc (e))
held-words kind other i e = absurd (cc (e))

pub given-integer : (w : Scene) (g : AreSlots w.slots) (b : Running) → ResultFits w → (known after : Knowledge) (blocks : Blocks) (v : Temp) (t : TypeId) (at : Place)
    (lines : Lines) (x : Known) (i : IntegerType) (a : ℕ) → w.number ≢ 0 → w.result ≡ Some t → known v ≡ Some x → x.type ≡ IntegerOf i → x.place ≡ Some a → x.form ≡ Exact
    → held_by (world_of w) t ≡ Some (IntegerOf i) → lines ≡ flat_instr.Return a ∷ []
    → Follows w g b blocks known after (meaning.act (instr.ReturnValue v t at) (around_of w b)) lines
given-integer w g b result known after blocks v t at lines x i a number is fact type place form held js l c p =
    subst (λ (ks : Lines). Match w g b after blocks (meaning.act (instr.ReturnValue v t at) (around_of w b) l) (run ks (context_of w b) c)) (sym js)
    (of (integer-in w b l c x i (l.temps v) a place (subst (λ (h : HeldType). Holds w.programs l.state b.depth h (l.temps v)) type (p.held v x fact))
    (subst (λ (h : HeldType). StandsFor (ground_of w.programs l.state c.state) c.slots x h (l.temps v)) type (p.stands v x fact))))
  where
    Goal : CodeOutcome → List ℕ → Type 0
    Goal o ws = Match w g b after blocks o (Done (Gives ws) c)

    of : IntegerIn w b l (l.temps v) i x.form (slot c a)
        → Goal (meaning.act (instr.ReturnValue v t at) (around_of w b) l) (slots_at (results_of w.programs.parts w.number) a c)
    of o =
        subst (λ (u : Value). Goal (code.on_state (λ s. returned_of u s) l) (slots_at (results_of w.programs.parts w.number) a c)) (sym o.value)
        (subst (λ (ws : List ℕ). Goal (Done (Gives (Integer o.z)) l) ws)
        (sym (ap (λ (n : ℕ). slots_at n a c) (result.words t is ∙ held-words w.programs.whole.kind (shape_at w.programs.whole.table t) i held) ∙ one-at a c)) (
          number,
          p.there,
          subst (λ (r : Option TypeId). IsPassed w.programs b.outer l.state c.state Exact (held_result w.programs.whole r) (Integer o.z) (slot c a ∷ [])) (sym is)
              (subst (λ (h : Option HeldType). IsPassed w.programs b.outer l.state c.state Exact h (Integer o.z) (slot c a ∷ [])) (sym held)
              (o.held, (slot c a, refl, subst (λ (f : Form). HoldsAs f i o.z (slot c a)) form o.stands))),
        ))
      where
        returned_of : Value → source.State → Outcome source.Ending source.State (Control Value)
        returned_of u s = from (returned (setting_of w.programs) b.depth at t u s) (λ y. done (Gives y))

-- A function of a cured program has such a signature, where its type has no more parameters than functions may have.
pub result-fits : (p : Programs) (k : Callee p) → AreSignatures p.whole.table p.whole.kind p.whole.signature p.parts.sigs
    → (parameters : List TypeId) (r : TypeId) → shape_at p.whole.table k.function.ty ≡ shape.Function parameters r → length parameters ≤ parameters_limit
    → ResultFits (scene_in p k)
result-fits p k signatures parameters r type few = record { words = words }
  where
    each : results_of p.parts (suc k.number) ≡ (signature_by (words_at p.whole.table p.whole.kind) (shape.Function parameters r)).results
    each = ap (λ (o : Option cured.Function). results_in (sig_of p.parts.sigs o)) k.stands ∙ ap (λ (n : ℕ). results_in (slice_get p.parts.sigs n)) k.is.sig
        ∙ ap results_in (signatures.each k.function.ty (ap is_function_shape type)).1
        ∙ ap (λ (h : TypeShape). (signature_by (words_at p.whole.table p.whole.kind) h).results) type

    as_many : (signature_by (words_at p.whole.table p.whole.kind) (shape.Function parameters r)).results ≡ words_in p.whole r
    as_many = by (nat_le (length parameters) parameters_limit) (let h : nat_le (length parameters) parameters_limit ≡ true = grind (arith, nat_tests, few) in h)
      where
        by : (q : Bool) → q ≡ true → (if q then record { params = sum_by (words_at p.whole.table p.whole.kind) parameters; results = words_in p.whole r } else bare).results ≡ words_in p.whole r
        by true e = refl
        by false e = absurd (cc (e))

    words : (t : TypeId) → result_of_shape (shape_at p.whole.table k.function.ty) ≡ Some t → results_of p.parts (suc k.number) ≡ words_in p.whole t
    words t e = each ∙ as_many ∙ ap (words_in p.whole) (let f : Some r ≡ Some t = sym (ap result_of_shape type) ∙ e in let g : r ≡ t = cc (f) in g)

-- The lines of constants, addresses and copies.
use Rattle.std.proofs.Common.{ℤ, ◌≡◌, refl, ap, sym, subst, ◌∙◌, ℕ, ◌+◌, ◌≤◌, inl, inr, Option, Some, None, List, [], ◌∷◌, arith}
use mir.Syntax.{w128}
use mir.Val.{to_z, of_z}
use Rattle.cc_base.specs.declared.number.TypeId.{TypeId}
use Rattle.cc_base.specs.declared.number.NodeId.{NodeId}
use Rattle.cc_base.specs.declared.kind.Kind.{Kind}
use Rattle.cc_base.specs.declared.kind.Kind.TheVariants.{Safe, Seq, Rtti, Wild}
use Rattle.c_types.specs.declared.shape.TypeShape.TheVariants as shape
use Rattle.c_types.specs.Table.{shape_at}
use Rattle.c_types.specs.Layouts.{size_of}
use Rattle.integers.specs.Words.{word}
use Rattle.cil_form.specs.declared.number.Temp.{Temp}
use Rattle.cil_form.specs.declared.number.FunctionNumber.{FunctionNumber}
use Rattle.cil_form.specs.declared.number.Object.{Object}
use Rattle.cil_form.specs.declared.number.Object.TheVariants as object
use Rattle.cil_form.specs.declared.instr.Set.TheVariants as set
use Rattle.cil_form.specs.Typing.{Context, Typing, HeldType, IntegerOf, PointerTo, PlaceOf, Includes, with_held, IsTemp}
use Rattle.cured_code.specs.declared.instr.Instr.{Instr}
use Rattle.cured_code.specs.declared.instr.Instr.TheVariants as instr
use Rattle.check_forms.specs.Pieces.{Line, Then}
use Rattle.sim_relation.specs.Ground.{word_number, function_word}
use Rattle.sim_relation.specs.Points.{Sure, IsNotNull, IsBased, IsWithin, IsFunction, Start}
use Rattle.cure_rules.specs.Known.{World, Takes, Sets, copies, noughts, held_words, known_at, known_of}
use Rattle.cure_rules.specs.Setting.{AreTrue, FunctionWords, ObjectWords, CopiedWords}
use Rattle.cure_scope.specs.declared.scope.Scope.{Scope}
use Rattle.cure_scope.specs.Scopes.{fixed_column, whole_of, world_of}
use Rattle.cure_instrs.specs.Cured.{SetCured, IsIn, node_at, kind_in}
use Rattle.cure_instrs.specs.Lines.{function_row, object_row, start_line, copied_lines}
use Rattle.cure_instrs.proofs.FitLaws.{read_back}
use Rattle.cure_instrs.proofs.KnownLaws.{leaves_held, is_plain, kind_same, takes}

pub integer_set : (k : Scope) (types : Typing) (into : Temp) (z : ℤ) (t : TypeId) (code : List Instr)
    → Line (instr.Const (fixed_column into) (word (to_z w128 (of_z w128 z))) ∷ []) code → SetCured (set.Integer into z t) (world_of k) types code
unfolding SetCured
integer_set k types into z t code line c after is h =
    let plain = is_plain (world_of k) c t h.0 is h.1 in
    let line' = subst (λ x. Line (instr.Const (fixed_column into) (word x) ∷ []) code) (read_back h.0 z plain.1 h.2) line in
    (h.0, fixed_column into, plain, h.2, inr (refl, (h.3.0, omega arith), line'), leaves_held k.parameters types after into (Some (IntegerOf h.0)) h.3.1)

pub null_set : (k : Scope) (types : Typing) (into : Temp) (t : TypeId) (code : List Instr)
    → Line (noughts (word_number (kind_in (whole_of k) t)) (fixed_column into)) code → SetCured (set.Null into t) (world_of k) types code
unfolding SetCured
null_set k types into t code line c after is h =
    let e = kind_same (world_of k) c t h.0 h.1 is h.2 in (
      h.0,
      h.1,
      e.0,
      takes k into (whole_of k).kind h.0 h.3.0,
      subst (λ kind. Line (noughts (word_number kind) (fixed_column into)) code) e.1 line,
      leaves_held k.parameters types after into (Some (PointerTo h.0 h.1)) h.3.1,
    )

no_facts : (truths : List Sure) → AreTrue [] truths
no_facts truths y h = absurd (let q = h.1 in omega (arith, q))

function-words : (k : Scope) (kind : Kind) (into : Temp) (n : ℕ) (code : List Instr) → IsTemp into → function_row kind (fixed_column into) n code
    → FunctionWords kind (world_of k) into n code
function-words k Safe into n code is h = ((is, omega arith), h)
function-words k Wild into n code is h = ((is, omega arith), h)
function-words k Seq into n code is h = absurd h
function-words k Rtti into n code is h = absurd h

pub function_set : (k : Scope) (types : Typing) (into : Temp) (f : FunctionNumber) (t : TypeId) (code : List Instr)
    → function_row (kind_in (whole_of k) t) (fixed_column into) (function_word f.0) code → SetCured (set.Function into f t) (world_of k) types code
unfolding SetCured
function_set k types into f t code line c after is h =
    let e = kind_same (world_of k) c t h.0 h.1 is h.3 in
    let leaves = h.7 in (
      h.0,
      h.1,
      [],
      e.0,
      no_facts (IsNotNull ∷ IsFunction f.0 ∷ []),
      function-words k ((whole_of k).kind h.0) into (function_word f.0) code leaves.0
          (subst (λ kind. function_row kind (fixed_column into) (function_word f.0) code) e.1 line),
      leaves_held k.parameters types after into (Some (PointerTo h.0 h.1)) leaves.1,
    )

started : (k : Scope) (o : Object) (v : ℕ) (code : List Instr) → Line (start_line k o v ∷ []) code → Sets (world_of k) (Start o) v code
started k (object.Variable n) v code h = h
started k (object.Static n) v code h = h

object-words : (k : Scope) (kind : Kind) (into : Temp) (o : Object) (code : List Instr) → IsTemp into → object_row kind k o (fixed_column into) code
    → ObjectWords kind (world_of k) into o (fixed_column into) code
unfolding Line Then
object-words k Safe into o code is h = inr (refl, (is, omega arith), started k o (fixed_column into) code h)
object-words k Wild into o code is h = (
  refl,
  (is, omega arith),
  (
    start_line k o (fixed_column into) ∷ [],
    instr.Copy (fixed_column into + 1) (fixed_column into) ∷ [],
    started k o (fixed_column into) (start_line k o (fixed_column into) ∷ []) refl,
    refl,
    h,
  ),
)
object-words k Seq into o code is h = absurd h
object-words k Rtti into o code is h = absurd h

pub object_set : (k : Scope) (types : Typing) (into : Temp) (o : Object) (home : NodeId) (t : TypeId) (code : List Instr)
    → object_row ((whole_of k).kind home) k o (fixed_column into) code → SetCured (set.Object into o home t) (world_of k) types code
unfolding SetCured
object_set k types into o home t code line c after is h = (
  fixed_column into,
  [],
  no_facts (IsNotNull ∷ IsBased ∷ IsWithin (size_of (whole_of k).table t) ∷ []),
  object-words k ((whole_of k).kind home) into o code h.1.0 line,
  leaves_held k.parameters types after into (Some (PlaceOf home t)) h.1.1,
)

copied-words : (k : Scope) (types after : Typing) (into from : Temp) (x : Option HeldType) (code : List Instr) → IsTemp from → IsTemp into
    → Includes (with_held into x types) after
    → copied_lines (whole_of k) x (fixed_column into) (fixed_column from) code
    → CopiedWords (world_of k) into from (known_at (fixed_column from) x) (known_of (world_of k).slots types) (known_of (world_of k).slots after) code
copied-words k types after into from None code at is more h = (0, (is, omega arith), (at, omega arith), h, leaves_held k.parameters types after into None more)
copied-words k types after into from (Some (IntegerOf i)) code at is more h =
    (fixed_column from, refl, (is, omega arith), h, leaves_held k.parameters types after into (Some (IntegerOf i)) more)
copied-words k types after into from (Some (PointerTo n u)) code at is more h =
    (fixed_column from, refl, takes k into (whole_of k).kind n is, h, leaves_held k.parameters types after into (Some (PointerTo n u)) more)
copied-words k types after into from (Some (PlaceOf n u)) code at is more h =
    (fixed_column from, refl, takes k into (whole_of k).kind n is, h, leaves_held k.parameters types after into (Some (PlaceOf n u)) more)

pub copy_set : (k : Scope) (types : Typing) (into from : Temp) (x : Option HeldType) (code : List Instr) → types from ≡ x
    → copied_lines (whole_of k) x (fixed_column into) (fixed_column from) code → SetCured (set.Copy into from) (world_of k) types code
unfolding SetCured
copy_set k types into from x code same line c after is h =
    copied-words k types after into from (types from) code h.0 h.1.0 h.1.1
    (subst (λ y. copied_lines (whole_of k) y (fixed_column into) (fixed_column from) code) (sym same) line)

-- Small programs that are plain, and some that aren't, by their instructions in order.
use Rattle.std.specs.Prelude.{⊤, All}
use Rattle.std.proofs.Common.{◌≡◌, ◌≢◌, ⊎_elim, inl, inr, List, [], ◌∷◌, None, refl, sym, subst, lit<}
use Rattle.std.proofs.lemmas.List.Elements.{All-nil}
use Rattle.std.specs.declared.alloc.Global.{Global}
use Rattle.cc_base.specs.declared.kind.Kind.{Kind}
use Rattle.cc_base.specs.declared.kind.Kind.TheVariants.{Safe, Seq, Wild}
use Rattle.cc_base.specs.declared.number.NodeId.{NodeId}
use Rattle.cc_base.specs.Kinds.{kind_at}
use Rattle.cil_form.specs.declared.instr.Instr.{Instr, Row_of-Instr, end_of-Instr, more_of-Instr}
use Rattle.cil_form.specs.declared.instr.Instr.TheVariants as instr
use Rattle.cil_form.specs.declared.instr.Instr.TheBlock.{hidden-the_row-Instr-0, items-the_row-Instr, items_hidden-the_row-Instr-0}
use Rattle.cil_form.specs.declared.instr.Code.{Code}
use Rattle.cil_form.specs.declared.program.Parameter.{Parameter}
use Rattle.cil_form.specs.declared.program.Function.{Function}
use Rattle.cil_form.specs.declared.program.Program.{Program}
use Rattle.cil_form.specs.Machine.{variables_of}
use Rattle.cil_form.specs.Small.{node, int}
use Rattle.cil_form.specs.Programs.{loop_program, loop_main, call_program, called, calling, access_program, access_main}
use Rattle.cil_form.proofs.ShapedPrograms.{each-all}
use Rattle.sim_laws.specs.Held.{IsIn, IsInRow, IsInCode}
use Rattle.sim_laws.specs.Plain.{IsPlainCode, IsPlainHome, IsPlainInstr, IsPlainProgram}

-- What holds of each instruction that code consists of, in order

abbrev mutual
  HoldsIn : (Instr → Type 0) → Instr → Type 0
  HoldsIn P (instr.If' t shape code shape' other) = HoldsInRow P code × HoldsInRow P other
  HoldsIn P (instr.Block' shape code) = HoldsInRow P code
  HoldsIn P (instr.Loop' shape code) = HoldsInRow P code
  HoldsIn P i = P i

  HoldsInRow : {m : _} → (Instr → Type 0) → Row_of-Instr m → Type 0
  HoldsInRow P end_of-Instr = ⊤
  HoldsInRow P (more_of-Instr i rest) = HoldsIn P i × HoldsInRow P rest

abbrev HoldsInCode : (Instr → Type 0) → List Instr → Type 0
HoldsInCode P [] = ⊤
HoldsInCode P (i ∷ is) = HoldsIn P i × HoldsInCode P is

module _ (P : Instr → Type 0) where
  mutual
    held-one : (i j : Instr) → HoldsIn P i → IsIn j i → P j
    held-one (instr.If' t shape code shape' other) j h q = ⊎_elim (held-row code j h.0) (held-row other j h.1) q
    held-one (instr.Block' shape code) j h q = held-row code j h q
    held-one (instr.Loop' shape code) j h q = held-row code j h q
    held-one (instr.Set i) j h q = subst P (sym q) h
    held-one (instr.Calculate i) j h q = subst P (sym q) h
    held-one (instr.Point i) j h q = subst P (sym q) h
    held-one (instr.Convert i) j h q = subst P (sym q) h
    held-one (instr.Access i) j h q = subst P (sym q) h
    held-one (instr.Allocate i) j h q = subst P (sym q) h
    held-one (instr.Call i) j h q = subst P (sym q) h
    held-one (instr.Runtime i) j h q = subst P (sym q) h
    held-one (instr.Break n) j h q = subst P (sym q) h
    held-one instr.Return j h q = subst P (sym q) h
    held-one (instr.ReturnValue v t at) j h q = subst P (sym q) h

    held-row : {m : _} (r : Row_of-Instr m) (j : Instr) → HoldsInRow P r → IsInRow j r → P j
    held-row end_of-Instr j h q = absurd q
    held-row (more_of-Instr i r) j h q = ⊎_elim (held-one i j h.0) (held-row r j h.1) q

  held-code : (is : List Instr) (j : Instr) → HoldsInCode P is → IsInCode j is → P j
  held-code [] j h q = absurd q
  held-code (i ∷ is) j h q = ⊎_elim (held-one i j h.0) (held-code is j h.1) q

  row-list : {m : _} (r : Row_of-Instr m) → HoldsInCode P (items-the_row-Instr m r) → HoldsInRow P r
  row-list end_of-Instr h = tt
  row-list (more_of-Instr i r) h = (h.0, row-list r h.1)

  -- of the code that an instruction holds
  held : (x : Code) → HoldsInCode P x.0.items → HoldsInRow P (hidden-the_row-Instr-0 x.0)
  held x h = row-list (hidden-the_row-Instr-0 x.0) (subst (HoldsInCode P) (sym (items_hidden-the_row-Instr-0 x.0)) h)

-- a body of a program without static objects
abbrev IsPlainBody : Program → (NodeId → Kind) → Function → Type 0
IsPlainBody p kind f = HoldsInCode (IsPlainInstr p.types kind [] (variables_of f)) f.body.0.items

plain-body : (p : Program) (kind : NodeId → Kind) (f : Function) → IsPlainBody p kind f → IsPlainCode p.types kind [] (variables_of f) f.body.0.items
plain-body p kind f h j inside = held-code (IsPlainInstr p.types kind [] (variables_of f)) f.body.0.items j h inside

safe : Safe ≢ Wild
safe e = absurd (cc e)

seq : Seq ≢ Wild
seq e = absurd (cc e)

abbrev HomesArePlain : (NodeId → Kind) → Function → Type 0
HomesArePlain kind f = All (λ (x : Parameter). IsPlainHome kind x.home) f.parameters

abbrev CodeIsPlain : Program → (NodeId → Kind) → Function → Type 0
CodeIsPlain p kind f = IsPlainCode p.types kind [] (variables_of f) f.body.0.items

-- the kinds of the nodes: the home of a variable; of a variable and what a pointer points to; of an array and the address of its element

abbrev one_safe : NodeId → Kind
one_safe = kind_at (Safe ∷ [])

abbrev both_safe : NodeId → Kind
both_safe = kind_at (Safe ∷ Safe ∷ [])

abbrev safe_and_seq : NodeId → Kind
safe_and_seq = kind_at (Safe ∷ Seq ∷ [])

-- its accesses are two loads and a store in a round of the loop, and a load behind it
loop_body-plain : (alloc : Global) → IsPlainBody (loop_program alloc) one_safe (loop_main alloc)
loop_body-plain alloc =
    (held is _ (tt, (safe, (tt, (tt, ((held is _ tt, held is _ (tt, tt)), (tt, (tt, (tt, (tt, (safe, (tt, (tt, (safe, tt))))))))))))), (tt, (safe, (tt, tt))))
  where
    is : Instr → Type 0
    is = IsPlainInstr (loop_program alloc).types one_safe [] (variables_of (loop_main alloc))

pub loop_program-plain : (alloc : Global) → IsPlainProgram (loop_program alloc) (kind_at (Safe ∷ []))
loop_program-plain alloc = record {
  initialisers = λ j inside. absurd inside;
  parameters = each-all (HomesArePlain one_safe) (loop_program alloc).functions (All-nil _, tt);
  functions = each-all (CodeIsPlain (loop_program alloc) one_safe) (loop_program alloc).functions
      (plain-body (loop_program alloc) one_safe (loop_main alloc) (loop_body-plain alloc), tt);
}

pub call_program-plain : (alloc : Global) → IsPlainProgram (call_program alloc) (kind_at (Safe ∷ Safe ∷ []))
call_program-plain alloc = record {
  initialisers = λ j inside. absurd inside;
  parameters = each-all (HomesArePlain both_safe) (call_program alloc).functions
      (each-all (λ (x : Parameter). IsPlainHome both_safe x.home) (called alloc).parameters (safe, tt), (All-nil _, tt));
  functions = each-all (CodeIsPlain (call_program alloc) both_safe) (call_program alloc).functions (
    plain-body (call_program alloc) both_safe (called alloc) (tt, (safe, (tt, (tt, (tt, tt))))),
    (plain-body (call_program alloc) both_safe (calling alloc) (tt, (tt, (safe, (tt, tt)))), tt),
  );
}

pub access_program-plain : (alloc : Global) → IsPlainProgram (access_program alloc) (kind_at (Safe ∷ Seq ∷ []))
access_program-plain alloc = record {
  initialisers = λ j inside. absurd inside;
  parameters = each-all (HomesArePlain safe_and_seq) (access_program alloc).functions (All-nil _, tt);
  functions = each-all (CodeIsPlain (access_program alloc) safe_and_seq) (access_program alloc).functions
      (plain-body (access_program alloc) safe_and_seq (access_main alloc) (tt, ((safe, tt), (tt, (tt, (tt, (seq, (tt, (tt, tt)))))))), tt);
}

-- the sixth instruction stores through the pointer
pub access_program-wild_pointer : (alloc : Global) (kind : NodeId → Kind) → kind (node 1) ≡ Wild → ¬ (IsPlainProgram (access_program alloc) kind)
access_program-wild_pointer alloc kind e h = h.functions 0 (access_main alloc) (lit< tt) _ (inr (inr (inr (inr (inr (inl refl)))))) e

-- the first parameter of the first function
pub call_program-wild_home : (alloc : Global) (kind : NodeId → Kind) → kind (node 0) ≡ Wild → ¬ (IsPlainProgram (call_program alloc) kind)
call_program-wild_home alloc kind e h = h.parameters 0 (called alloc) (lit< tt) 0 (record { ty = int; home = None }) (lit< tt) e

-- Small programs in three-address code, and what they give.
use Rattle.std.specs.Prelude.{ℕ, pos, false, List, [], ◌∷◌, ◌++◌, None}
use Rattle.std.proofs.Common.{lit<}
use Rattle.std.specs.declared.alloc.Global.{Global}
use Rattle.cc_base.specs.Kinds.{kind_at}
use Rattle.cc_base.specs.declared.kind.Kind.TheVariants.{Safe, Seq}
use Rattle.c_types.specs.declared.shape.TypeShape.TheVariants as shape
use Rattle.kind_sites.specs.declared.site.Site.{Site}
use Rattle.kind_sites.specs.declared.site.Site.TheVariants.{Flow, Arith, Linked, Same, Pointee, Home}
use Rattle.c_types.specs.Table.{Table}
use Rattle.c_types.specs.Calls.{basic_table}
use Rattle.runs.specs.Input.{Closed}
use Rattle.src_mem.specs.Runs.{SourceOutcome}
use Rattle.cil_form.specs.declared.instr.Comparison.TheVariants as comparison
use Rattle.cil_form.specs.declared.instr.Direction.TheVariants as direction
use Rattle.cil_form.specs.declared.instr.Operator.TheVariants as operator
use Rattle.cil_form.specs.declared.instr.Set.TheVariants as set
use Rattle.cil_form.specs.declared.instr.Calculate.TheVariants as calculate
use Rattle.cil_form.specs.declared.instr.Point.TheVariants as point
use Rattle.cil_form.specs.declared.instr.Convert.TheVariants as convert
use Rattle.cil_form.specs.declared.number.Object.{Object}
use Rattle.cil_form.specs.declared.number.Object.TheVariants as object
use Rattle.cil_form.specs.declared.instr.Target.TheVariants as target
use Rattle.cil_form.specs.declared.instr.Access.TheVariants as access
use Rattle.cil_form.specs.declared.instr.RuntimeCall.TheVariants as runtime
use Rattle.cil_form.specs.declared.instr.Code.{Code}
use Rattle.cil_form.specs.declared.instr.Instr.{Instr}
use Rattle.cil_form.specs.declared.instr.Instr.TheVariants as instr
use Rattle.cil_form.specs.declared.program.Function.{Function}
use Rattle.cil_form.specs.declared.program.Program.{Program}
use Rattle.cil_form.specs.Machine.{code_run}
use Rattle.cil_form.specs.Small.{at, node, type, int, entry, value, kept, variable, code, parameter, local, program}

-- an int of a variable, into value t: the address of the variable, and then a load
abbrev read_int : ℕ → ℕ → ℕ → ℕ → List Instr
read_int t k home column =
    instr.Set (set.Object (value t) (variable k) (node home) int)
    ∷ instr.Access (access.Load (value t) (value t) (node home) int (at column))
    ∷ []

-- int main(void){int i;while(i<3){putchar('a');i=i+1;}return i;}

abbrev pub loop_table : Table
loop_table = basic_table ++ entry (shape.Function [] int) ∷ []

-- a round: the condition, and then the body
abbrev pub loop_round : Global → List Instr
loop_round alloc =
    read_int 0 0 0 28
    ++ instr.Set (set.Integer (value 1) (pos 3) int)
    ∷ instr.Calculate (calculate.Binary (value 0) (operator.Compare comparison.Less) (value 0) (value 1) int (at 29))
    ∷ instr.If (value 0) (code alloc [] (lit< tt)) (code alloc (instr.Break 0 ∷ []) (lit< tt))
    ∷ instr.Set (set.Integer (value 0) (pos 97) int)
    ∷ instr.Runtime (runtime.Putchar (value 0) (value 0))
    ∷ instr.Set (set.Object (value 0) (variable 0) (node 0) int)
    ∷ instr.Set (set.Object (value 1) (variable 0) (node 0) int)
    ∷ instr.Access (access.Load (value 1) (value 1) (node 0) int (at 48))
    ∷ instr.Set (set.Integer (value 2) (pos 1) int)
    ∷ instr.Calculate (calculate.Binary (value 1) operator.Add (value 1) (value 2) int (at 49))
    ∷ instr.Access (access.Store (target.Pointer (value 0) (node 0)) (value 1) int (at 46) (at 47))
    ∷ []

abbrev pub loop_body : Global → List Instr
loop_body alloc = instr.Loop (code alloc (loop_round alloc) (lit< tt)) ∷ read_int 0 0 0 60 ++ instr.ReturnValue (value 0) int (at 53) ∷ []

abbrev pub loop_main : Global → Function
loop_main alloc = record { ty = type 9; parameters = []; locals = local 0 int ∷ []; body = code alloc (loop_body alloc) (lit< tt) }

abbrev pub loop_program : Global → Program
loop_program alloc = program loop_table 1 (loop_main alloc ∷ []) 0 (at 5) (Home (node 0) int ∷ []) (code alloc [] (lit< tt))

-- its run with so many turns
abbrev pub loop_run : Global → ℕ → SourceOutcome
loop_run alloc turns = code_run (loop_program alloc) (kind_at []) (Closed []) turns

-- int f(int a){return a+1;}int main(void){return f(4);}

abbrev pub call_table : Table
call_table = basic_table ++ entry (shape.Function (int ∷ []) int) ∷ entry (shape.Function [] int) ∷ entry (shape.Pointer (node 1) (type 9)) ∷ []

abbrev pub called_body : List Instr
called_body =
    read_int 0 0 0 21
    ++ instr.Set (set.Integer (value 1) (pos 1) int)
    ∷ instr.Calculate (calculate.Binary (value 0) operator.Add (value 0) (value 1) int (at 22))
    ∷ instr.ReturnValue (value 0) int (at 14)
    ∷ []

abbrev pub calling_body : List Instr
calling_body =
    instr.Set (set.Function (value 0) (record { 0 = 0 }) (type 11))
    ∷ instr.Set (set.Integer (value 1) (pos 4) int)
    ∷ instr.Call (record { into = value 0; callee = value 0; ty = type 11; first = 1; count = 1; place = at 49 })
    ∷ instr.ReturnValue (value 0) int (at 41)
    ∷ []

abbrev pub called : Global → Function
called alloc = record { ty = type 9; parameters = parameter 0 int ∷ []; locals = []; body = code alloc called_body (lit< tt) }

abbrev pub calling : Global → Function
calling alloc = record { ty = type 10; parameters = []; locals = []; body = code alloc calling_body (lit< tt) }

abbrev pub call_program : Global → Program
call_program alloc =
    program call_table 2 (called alloc ∷ calling alloc ∷ []) 1 (at 30) (Pointee (node 1) (type 9) ∷ Home (node 0) int ∷ []) (code alloc [] (lit< tt))

abbrev pub call_run : Global → SourceOutcome
call_run alloc = code_run (call_program alloc) (kind_at []) (Closed []) 1

-- int main(void){int a[3];a[3]=1;return 0;}

abbrev pub access_table : Table
access_table = basic_table ++ entry (shape.Function [] int) ∷ entry (shape.Array int 3) ∷ entry (shape.Pointer (node 1) int) ∷ []

abbrev pub access_body : List Instr
access_body =
    instr.Set (set.Object (value 0) (variable 0) (node 0) (type 10))
    ∷ instr.Point (point.Decay (value 0) (value 0) (node 0) (type 10) false (node 1) int (at 25))
    ∷ instr.Set (set.Integer (value 1) (pos 3) int)
    ∷ instr.Point (point.Move (value 0) (value 0) (value 1) direction.Forward (type 11) (at 26))
    ∷ instr.Set (set.Integer (value 1) (pos 1) int)
    ∷ instr.Access (access.Store (target.Pointer (value 0) (node 1)) (value 1) int (at 26) (at 29))
    ∷ instr.Set (set.Integer (value 0) (pos 0) int)
    ∷ instr.ReturnValue (value 0) int (at 32)
    ∷ []

abbrev pub access_main : Global → Function
access_main alloc = record { ty = type 9; parameters = []; locals = local 0 (type 10) ∷ []; body = code alloc access_body (lit< tt) }

-- the pointer type, the array, the element's address in it, and the `[3]`
abbrev pub access_sites : List Site
access_sites = Pointee (node 1) int ∷ Home (node 0) (type 10) ∷ Linked (node 1) (node 0) ∷ Arith (node 1) (at 26) ∷ []

abbrev pub access_program : Global → Program
access_program alloc = program access_table 2 (access_main alloc ∷ []) 0 (at 5) access_sites (code alloc [] (lit< tt))

-- its run, where the address of the array's first element is SEQ
abbrev pub access_run : Global → SourceOutcome
access_run alloc = code_run (access_program alloc) (kind_at (Safe ∷ Seq ∷ [])) (Closed []) 1

-- int main(void){switch(getchar()){case 97:for(;;){putchar(49);break;}case 98:putchar(50);}return 0;}

-- `case` z, behind which piece number k stands, where value 0 is what the labels are compared with: the number is kept
abbrev pub case_label : Global → ℕ → ℕ → List Instr
case_label alloc z k =
    instr.Set (set.Integer (value 1) (pos z) int)
    ∷ instr.Calculate (calculate.Binary (value 1) (operator.Compare comparison.Equal) (value 0) (value 1) int (at 16))
    ∷ instr.If (value 1) (code alloc (instr.Set (set.Integer (kept 0) (pos k) int) ∷ []) (lit< tt)) (code alloc [] (lit< tt))
    ∷ []

-- the labels, the last first; where none of them fits and there is no `default`, the number of the pieces is kept
abbrev pub switch_labels : Global → List Instr
switch_labels alloc = instr.Set (set.Integer (kept 0) (pos 2) int) ∷ case_label alloc 98 1 ++ case_label alloc 97 0

-- a piece runs where the first that runs, whose number is kept, is none behind it
abbrev pub piece : Global → ℕ → Code → List Instr
piece alloc k body =
    instr.Set (set.Integer (value 0) (pos k) int)
    ∷ instr.Calculate (calculate.Binary (value 0) (operator.Compare comparison.LessOrEqual) (kept 0) (value 0) int (at 16))
    ∷ instr.If (value 0) body (code alloc [] (lit< tt))
    ∷ []

-- the character of this number is written
abbrev pub write_character : ℕ → List Instr
write_character z = instr.Set (set.Integer (value 0) (pos z) int) ∷ instr.Runtime (runtime.Putchar (value 0) (value 0)) ∷ []

abbrev pub first_round : List Instr
first_round = write_character 49 ++ instr.Break 1 ∷ []

abbrev pub first_loop : Global → List Instr
first_loop alloc = instr.Block (code alloc first_round (lit< tt)) ∷ []

abbrev pub first_piece : Global → List Instr
first_piece alloc = instr.Loop (code alloc (first_loop alloc) (lit< tt)) ∷ []

abbrev pub switch_block : Global → List Instr
switch_block alloc =
    instr.Runtime (runtime.Getchar (value 0))
    ∷ switch_labels alloc
    ++ piece alloc 0 (code alloc (first_piece alloc) (lit< tt))
    ++ piece alloc 1 (code alloc (write_character 50) (lit< tt))

abbrev pub switch_body : Global → List Instr
switch_body alloc =
    instr.Block (code alloc (switch_block alloc) (lit< tt))
    ∷ instr.Set (set.Integer (value 0) (pos 0) int)
    ∷ instr.ReturnValue (value 0) int (at 90)
    ∷ []

abbrev pub switch_main : Global → Function
switch_main alloc = record { ty = type 9; parameters = []; locals = []; body = code alloc (switch_body alloc) (lit< tt) }

abbrev pub switch_program : Global → Program
switch_program alloc = program loop_table 0 (switch_main alloc ∷ []) 0 (at 5) [] (code alloc [] (lit< tt))

-- its run on one byte of input
abbrev pub switch_run : Global → ℕ → SourceOutcome
switch_run alloc byte = code_run (switch_program alloc) (kind_at []) (Closed (byte ∷ [])) 9

-- int x;extern int *p;int *p=&x;int main(void){return 0;}

-- the two declarations of p have two pointer types, and `&x` has one of its own
abbrev pub renamed_table : Table
renamed_table = basic_table ++ entry (shape.Function [] int)
    ∷ entry (shape.Pointer (node 2) int) ∷ entry (shape.Pointer (node 3) int) ∷ entry (shape.Pointer (node 4) int) ∷ []

abbrev pub static_object : ℕ → Object
static_object k = object.Static (record { 0 = k })

-- p was made with its first type, and is named with its second
abbrev pub renamed_start : List Instr
renamed_start =
    instr.Set (set.Object (value 0) (static_object 0) (node 0) int)
    ∷ instr.Point (point.Address (value 0) (value 0) (node 0) (node 4) int)
    ∷ instr.Convert (convert.Pointer (value 0) (value 0) (type 12) (type 11) (at 27))
    ∷ instr.Access (access.Store (target.Part (static_object 1) (node 1) (type 11) 0) (value 0) (type 11) (at 27) (at 27))
    ∷ []

abbrev pub renamed_body : List Instr
renamed_body = instr.Set (set.Integer (value 0) (pos 0) int) ∷ instr.ReturnValue (value 0) int (at 46) ∷ []

abbrev pub renamed_main : Global → Function
renamed_main alloc = record { ty = type 9; parameters = []; locals = []; body = code alloc renamed_body (lit< tt) }

abbrev pub renamed_sites : List Site
renamed_sites = Pointee (node 2) int ∷ Pointee (node 3) int ∷ Pointee (node 4) int ∷ Home (node 0) int ∷ Home (node 1) (type 10)
    ∷ Linked (node 4) (node 0) ∷ Flow (node 4) int (node 3) int (at 27) ∷ Same (type 10) (type 11) ∷ []

abbrev pub renamed_program : Global → Program
renamed_program alloc = record (program renamed_table 5 (renamed_main alloc ∷ []) 0 (at 35) renamed_sites (code alloc renamed_start (lit< tt))) {
  statics = record { planned = local 0 int; text = None } ∷ record { planned = local 1 (type 10); text = None } ∷ [];
}

abbrev pub renamed_run : Global → SourceOutcome
renamed_run alloc = code_run (renamed_program alloc) (kind_at []) (Closed []) 1

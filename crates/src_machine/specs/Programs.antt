-- Small programs as typed trees, each with the kinds of its nodes, and what they give. The C text stands above each; what a tree
-- doesn't say is the text's layout.
use Rattle.std.specs.Prelude.{ℕ, pos, ◌+◌, List, [], ◌∷◌, ◌++◌, codes, Some, false}
use Rattle.cc_base.specs.Kinds.{kind_at}
use Rattle.cc_base.specs.declared.kind.Kind.{Kind}
use Rattle.cc_base.specs.declared.kind.Kind.TheVariants.{Safe, Seq, Rtti, Wild}
use Rattle.c_lexer.specs.declared.number.IntegerType.TheVariants.{Long}
use Rattle.c_types.specs.declared.shape.TypeShape.TheVariants as shape
use Rattle.c_types.specs.Table.{Table}
use Rattle.c_types.specs.Calls.{basic_table}
use Rattle.runs.specs.Outcome.{done, ◌>>=◌}
use Rattle.runs.specs.Input.{Input, Closed}
use Rattle.c_tree.specs.declared.operator.Binary.{Binary}
use Rattle.c_tree.specs.declared.operator.Binary.TheVariants as binary
use Rattle.c_tree.specs.declared.operator.Assignment.TheVariants as assignment
use Rattle.c_tree.specs.declared.operator.Step.TheVariants as step
use Rattle.c_tree.specs.declared.operator.Unary.TheVariants as unary
use Rattle.c_lexer.specs.declared.word.Keyword.TheVariants as keyword
use Rattle.c_tree.specs.declared.typed_word.Home.{Home}
use Rattle.c_tree.specs.declared.typed_word.Home.TheVariants as home
use Rattle.cc_base.specs.declared.number.TypeId.{TypeId}
use Rattle.c_tree.specs.declared.typed_word.Conversion.TheVariants as conversion
use Rattle.c_tree.specs.declared.typed_word.Runtime.TheVariants as runtime
use Rattle.c_tree.specs.declared.typed_word.Side.TheVariants as side
use Rattle.c_tree.specs.TypedTree as typed
use Rattle.c_tree.specs.TypedTree.{TypedExpr, TypedPlace, TypedInitialiser, TypedDeclaration, TypedStatement, TypedBlockItems, TypedTranslationUnit}
use Rattle.src_mem.specs.Runs.{SourceOutcome, run_program}
use Rattle.src_mem.specs.Pointers.{Integer}
use Rattle.src_mem.specs.Memory.{new_variable}
use Rattle.src_machine.specs.World.{World}
use Rattle.src_machine.specs.Statements.{exec_items}
use Rattle.src_machine.specs.Machine.{source_run, setting_of, result_of}
use Rattle.src_machine.specs.Small.{Item, at, at_line, node, type, char, int, long, unsigned_long, entry, name, number, variable, value, null, flows, widened, type_name, arguments, string, specifiers, form, body, local, local_is, declares, does, runs, returns, while, main, function, global, declared, put, get, runtime_call, aggregate}

-- int main(void){int *p;p=0;return *p;}
abbrev pub null_read : SourceOutcome
null_read = source_run program table (kind_at []) (Closed []) 10
  where
    table : Table
    table = basic_table ++ entry (shape.Pointer (node 0) int) ∷ entry (shape.Function [] int) ∷ []

    program : TypedTranslationUnit
    program = main (type 10) (
        declares (local 1 (type 9))
        ∷ does (typed.Assign (variable 23 1 (type 9)) (at 24) (null (type 9)))
        ∷ returns (at 27) (typed.Read (typed.Target (at 34) (value 35 1 (type 9)) int))
        ∷ [])

-- int main(void){int a[3];a[2]=7;putchar(a[2]+48);a[3]=1;return 0;}
abbrev pub past_the_end : SourceOutcome
past_the_end = source_run program table (kind_at (Safe ∷ Seq ∷ Seq ∷ Seq ∷ [])) (Closed []) 10
  where
    table : Table
    table = basic_table ++ entry (shape.Array int 3)
        ∷ entry (shape.Pointer (node 1) int) ∷ entry (shape.Pointer (node 2) int) ∷ entry (shape.Pointer (node 3) int) ∷ entry (shape.Function [] int) ∷ []

    element : ℕ → ℕ → ℕ → ℕ → TypedPlace
    element decay t column i = typed.Element side.Left (typed.Decay (variable column 0 (type 9)) (node decay) (type t)) (at (column + 1)) (number i) int

    program : TypedTranslationUnit
    program = main (type 13) (
        declares (local 0 (type 9))
        ∷ does (typed.Assign (element 1 10 25 2) (at 29) (number 7))
        ∷ does (put (typed.Arithmetic binary.Add (typed.Read (element 2 11 40 2)) (at 44) (number 48) int))
        ∷ does (typed.Assign (element 3 12 49 3) (at 53) (number 1))
        ∷ returns (at 56) (number 0)
        ∷ [])

-- int main(void){int a[3];int *p=a-1;int n=0;while(++p<a+3)n++;return n;}
abbrev pub stepped_over : ℕ → SourceOutcome
stepped_over turns = source_run program table (kind_at (Safe ∷ Seq ∷ Safe ∷ Seq ∷ Safe ∷ Seq ∷ [])) (Closed []) turns
  where
    -- homes of a, p and n: 0, 2, 4; the pointer type of p: 1; the two decays: 3, 5
    table : Table
    table = basic_table ++ entry (shape.Array int 3)
        ∷ entry (shape.Pointer (node 1) int) ∷ entry (shape.Pointer (node 3) int) ∷ entry (shape.Pointer (node 5) int) ∷ entry (shape.Function [] int) ∷ []

    program : TypedTranslationUnit
    program = main (type 13) (
        declares (local 0 (type 9))
        ∷ declares (local_is 2 (type 10) (at 31) (flows (at 31) (type 10)
        (typed.Moved binary.Subtract side.Left (typed.Decay (variable 32 0 (type 9)) (node 3) (type 11)) (at 33) (number 1) (type 11))))
        ∷ declares (local_is 4 int (at 41) (number 0))
        ∷ while (typed.Compared binary.Less (typed.StepBefore step.Increment (at 50) (variable 52 2 (type 10))) (at 53)
        (typed.Moved binary.Add side.Left (typed.Decay (variable 54 0 (type 9)) (node 5) (type 12)) (at 55) (number 3) (type 12)) int)
        (typed.Express (typed.StepAfter (variable 58 4 int) step.Increment (at 59)))
        ∷ returns (at 62) (value 69 4 int)
        ∷ [])

-- int *g;int main(void){int x;g=&x;return 0;}
abbrev pub address_table : Table
address_table = basic_table ++ entry (shape.Pointer (node 0) int) ∷ entry (shape.Pointer (node 3) int) ∷ entry (shape.Function [] int) ∷ []

abbrev pub address_program : TypedTranslationUnit
address_program = function (name (codes "main") (at 12)) (type 11) [] (
    declares (local 2 int)
    ∷ does (typed.Assign (variable 29 1 (type 9)) (at 30) (flows (at 30) (type 9) (typed.AddressOf (at 31) (variable 32 2 int) (node 3) (type 10))))
    ∷ returns (at 34) (number 0)
    ∷ []) (global 1 (type 9) typed.NoExternal)

abbrev pub address_kept : SourceOutcome
address_kept = source_run address_program address_table (kind_at []) (Closed []) 10

-- int g(int);int main(void){typedef char *g(void);return 0;}
abbrev pub hidden_table : Table
hidden_table = basic_table ++ entry (shape.Function (int ∷ []) int) ∷ entry (shape.Pointer (node 0) char) ∷ entry (shape.Function [] (type 10)) ∷ entry (shape.Function [] int) ∷ []

abbrev pub hidden_program : TypedTranslationUnit
hidden_program = function (name (codes "main") (at 0)) (type 12) [] (
    declares (typed.Declare (typed.Specified (typed.AndSpecifier typed.NoSpecifier (typed.Keyword (record { keyword = keyword.Typedef; place = at 0 }))) char)
    (typed.AndPlain typed.NoInitDeclarator (typed.Declares (form (name (codes "g") (at 0)) home.None) (type 11))))
    ∷ returns (at 0) (number 0)
    ∷ []) (declared (codes "g") (type 9) typed.NoExternal)

-- int f(int *);int f(int *);int main(void){int f(int *);return 0;}
abbrev pub redeclared_table : Table
redeclared_table = basic_table ++ entry (shape.Pointer (node 0) int) ∷ entry (shape.Function (type 9 ∷ []) int) ∷ entry (shape.Pointer (node 1) int)
    ∷ entry (shape.Function (type 11 ∷ []) int) ∷ entry (shape.Pointer (node 2) int) ∷ entry (shape.Function (type 13 ∷ []) int) ∷ entry (shape.Function [] int) ∷ []

abbrev pub redeclared_program : TypedTranslationUnit
redeclared_program = function (name (codes "main") (at 0)) (type 15) [] (
    declares (typed.Declare (specifiers int) (typed.AndPlain typed.NoInitDeclarator (typed.Declares (form (name (codes "f") (at 0)) home.None) (type 14))))
    ∷ returns (at 0) (number 0)
    ∷ []) (declared (codes "f") (type 12) (declared (codes "f") (type 10) typed.NoExternal))

-- int main(void){char *p=(char *)malloc(1);*p=107;free(p);putchar(*p);return 0;}
abbrev pub freed_read : SourceOutcome
freed_read = source_run program table (kind_at []) (Closed []) 10
  where
    table : Table
    table = basic_table ++ entry (shape.Pointer (node 0) char) ∷ entry (shape.Pointer (node 2) char) ∷ entry (shape.Function [] int) ∷ []

    block : TypedExpr
    block = typed.Cast conversion.AllocationToPointer (at 24) (type_name (type 10))
        (typed.AllocateFor runtime.Malloc (runtime_call runtime.Malloc) (at 38) (arguments (widened unsigned_long (number 1) ∷ [])) (type 10))

    program : TypedTranslationUnit
    program = main (type 11) (
        declares (local_is 1 (type 9) (at 23) (flows (at 23) (type 9) block))
        ∷ does (typed.Assign (typed.Target (at 42) (value 43 1 (type 9)) char) (at 44) (widened char (number 107)))
        ∷ does (typed.CallRuntime runtime.Free (runtime_call runtime.Free) (at 53) (arguments (value 54 1 (type 9) ∷ [])) (type 0))
        ∷ does (put (widened int (typed.Read (typed.Target (at 65) (value 66 1 (type 9)) char))))
        ∷ returns (at 69) (number 0)
        ∷ [])

-- int main(void){char *q="ab";q++;return sizeof(q);}
abbrev pub size_of_pointer : SourceOutcome
size_of_pointer = source_run program table (kind_at (Seq ∷ Safe ∷ Safe ∷ Seq ∷ [])) (Closed []) 10
  where
    table : Table
    table = basic_table ++ entry (shape.Array char 3)
        ∷ entry (shape.Pointer (node 0) char) ∷ entry (shape.Pointer (node 3) char) ∷ entry (shape.Function [] int) ∷ []

    program : TypedTranslationUnit
    program = main (type 12) (
        declares (local_is 1 (type 10) (at 23) (flows (at 23) (type 10) (typed.Decay (string (codes "\"ab\"") 2 (type 9)) (node 3) (type 11))))
        ∷ does (typed.StepAfter (variable 29 1 (type 10)) step.Increment (at 30))
        ∷ returns (at 33) (widened int (typed.SizeOfPlace (at 40) (typed.ParenPlace (at 46) (variable 47 1 (type 10))) 8 unsigned_long))
        ∷ [])

-- union U{long n;char *p;};
-- int main(void){union U u;u.n=0;if(u.p==0)putchar(48);u.n=5;return *u.p;}
abbrev pub union_read : SourceOutcome
union_read = source_run program table (kind_at (Wild ∷ Wild ∷ Wild ∷ Wild ∷ Wild ∷ Wild ∷ [])) (Closed []) 10
  where
    -- the pointer of the member p: 0; the home of u: 1; the places of the members: 2 to 5
    table : Table
    table = basic_table ++ entry (shape.Pointer (node 0) char) ∷ aggregate (shape.Union 0) (long ∷ type 9 ∷ []) ∷ entry (shape.Function [] int) ∷ []

    n : ℕ → ℕ → TypedPlace
    n place column = typed.Member (variable column 1 (type 10)) (at_line 2 (column + 1)) (name (codes "n") (at_line 2 (column + 2))) 0 (node place) long

    p : ℕ → ℕ → TypedPlace
    p place column = typed.Member (variable column 1 (type 10)) (at_line 2 (column + 1)) (name (codes "p") (at_line 2 (column + 2))) 1 (node place) (type 9)

    program : TypedTranslationUnit
    program = main (type 11) (
        declares (local 1 (type 10))
        ∷ does (typed.Assign (n 2 26) (at_line 2 29) (widened long (number 0)))
        ∷ runs (typed.If (at 0) (at 0) (typed.Compared binary.Equal (typed.Read (p 3 35)) (at_line 2 38) (null (type 9)) int) (typed.Express (put (number 48))))
        ∷ does (typed.Assign (n 4 54) (at_line 2 57) (widened long (number 5)))
        ∷ returns (at_line 2 60) (widened int (typed.Read (typed.Target (at_line 2 67) (typed.Read (p 5 68)) char)))
        ∷ [])

-- int main(void){int z=0;return 5/z;}
abbrev pub divided_by_zero : SourceOutcome
divided_by_zero = source_run program table (kind_at []) (Closed []) 10
  where
    table : Table
    table = basic_table ++ entry (shape.Function [] int) ∷ []

    program : TypedTranslationUnit
    program = main (type 9) (
        declares (local_is 0 int (at 21) (number 0))
        ∷ returns (at 24) (typed.Arithmetic binary.Divide (number 5) (at 32) (value 33 0 int) int)
        ∷ [])

-- int main(void){int c=getchar();if(c<0)putchar(45);return c;}
abbrev pub echoes : Input → SourceOutcome
echoes input = source_run program table (kind_at []) input 10
  where
    table : Table
    table = basic_table ++ entry (shape.Function [] int) ∷ []

    program : TypedTranslationUnit
    program = main (type 9) (
        declares (local_is 0 int (at 21) get)
        ∷ runs (typed.If (at 32) (at 34) (typed.Arithmetic binary.Less (value 35 0 int) (at 36) (number 0) int) (typed.Express (put (number 45))))
        ∷ returns (at 51) (value 58 0 int)
        ∷ [])

-- int main(void){while(1)putchar('a');return 0;}
abbrev pub goes_on : SourceOutcome
goes_on = source_run program table (kind_at []) (Closed []) 5
  where
    table : Table
    table = basic_table ++ entry (shape.Function [] int) ∷ []

    program : TypedTranslationUnit
    program = main (type 9) (
        while (number 1) (typed.Express (put (number 97)))
        ∷ returns (at 37) (number 0)
        ∷ [])

-- int f(int n){return f(n+1);}int main(void){return f(0);}
abbrev recursion_table : Table
recursion_table = basic_table ++ entry (shape.Function [] int) ∷ entry (shape.Function (int ∷ []) int)
    ∷ entry (shape.Pointer (node 1) (type 10)) ∷ entry (shape.Pointer (node 2) (type 10)) ∷ []

abbrev call_f : ℕ → ℕ → ℕ → TypedExpr → TypedExpr
call_f n t column e = typed.Call (typed.FunctionName (name (codes "f") (at column)) 0 (node n) (type t)) (at (column + 1)) (arguments (e ∷ [])) int

abbrev body_of_f : TypedBlockItems
body_of_f = body (returns (at 14) (call_f 1 11 21 (typed.Arithmetic binary.Add (value 23 0 int) (at 24) (number 1) int)) ∷ [])

abbrev recursion_program : TypedTranslationUnit
recursion_program = function (name (codes "main") (at 33)) (type 9) [] (returns (at 44) (call_f 2 12 51 (number 0)) ∷ [])
    (function (name (codes "f") (at 5)) (type 10) ((0, int) ∷ []) ((λ all. body_of_f) ∷ []) typed.NoExternal)

abbrev pub recursion : ℕ → SourceOutcome
recursion turns = source_run recursion_program recursion_table (kind_at []) (Closed []) turns

-- the body of `f` in a call of this depth, whose own calls give 7
abbrev pub recursion_at : ℕ → SourceOutcome
recursion_at depth = run_program (done tt) (exec_items body_of_f world >>= (λ flow. done (result_of (Integer (pos 0)) flow)))
    (new_variable recursion_table depth (record { type = int; node = node 0 }) ∷ []) (Closed []) 0
  where
    world : World
    world = record {
      setting = setting_of recursion_program recursion_table (kind_at []);
      statics = [];
      frame = record { depth = depth; first = 0; homes = node 0 ∷ [] };
      call = λ f d vs. done (Integer (pos 7));
    }

-- int main(void){long v[2];long *p=v;p=p+4611686018427387904;return 0;}
abbrev pub moved_too_far : SourceOutcome
moved_too_far = source_run program table (kind_at (Safe ∷ Seq ∷ Safe ∷ Seq ∷ [])) (Closed []) 10
  where
    table : Table
    table = basic_table ++ entry (shape.Array long 2)
        ∷ entry (shape.Pointer (node 1) long) ∷ entry (shape.Pointer (node 3) long) ∷ entry (shape.Function [] int) ∷ []

    program : TypedTranslationUnit
    program = main (type 12) (
        declares (local 0 (type 9))
        ∷ declares (local_is 2 (type 10) (at 33) (flows (at 33) (type 10) (typed.Decay (variable 34 0 (type 9)) (node 3) (type 11))))
        ∷ does (typed.Assign (variable 36 2 (type 10)) (at 37) (flows (at 37) (type 10)
        (typed.Moved binary.Add side.Left (value 38 2 (type 10)) (at 39) (typed.Integer Long 4611686018427387904 (at 40) long) (type 10))))
        ∷ returns (at 60) (number 0)
        ∷ [])

-- struct S{int t;};
-- struct C{int t;int r;};
-- struct G{int t;struct S *f;};
-- int main(void){
-- struct C c;struct S *s=(struct S *)&c;
-- c.r=66;
-- putchar(((struct C *)s)->r);
-- putchar(((struct G *)s)->t);
-- return 0;}
abbrev pub cast_down : SourceOutcome
cast_down = source_run program table (kind_at (Safe ∷ Safe ∷ Rtti ∷ Safe ∷ Rtti ∷ Rtti ∷ [])) (Closed []) 10
  where
    -- the member f: 0; the homes of c and s: 1, 3; s: 2; the cast to S: 4; the address of c: 5; the casts to C and G: 6, 7; the members' places: 8 to 10
    table : Table
    table = basic_table ++ aggregate (shape.Struct 0) (int ∷ []) ∷ aggregate (shape.Struct 1) (int ∷ int ∷ []) ∷ entry (shape.Pointer (node 0) (type 9))
        ∷ aggregate (shape.Struct 2) (int ∷ type 11 ∷ []) ∷ entry (shape.Pointer (node 2) (type 9)) ∷ entry (shape.Pointer (node 4) (type 9)) ∷ entry (shape.Pointer (node 5) (type 10))
        ∷ entry (shape.Pointer (node 6) (type 10)) ∷ entry (shape.Pointer (node 7) (type 12)) ∷ entry (shape.Function [] int) ∷ []

    cast : ℕ → ℕ → TypedExpr
    cast line t = typed.Cast conversion.PointerToPointer (at_line line 10) (type_name (type t)) (value 0 3 (type 13))

    program : TypedTranslationUnit
    program = main (type 18) (
        declares (local 1 (type 10))
        ∷ declares (local_is 3 (type 13) (at_line 5 23) (flows (at_line 5 23) (type 13)
        (typed.Cast conversion.PointerToPointer (at_line 5 24) (type_name (type 14)) (typed.AddressOf (at_line 5 36) (variable 37 1 (type 10)) (node 5) (type 15)))))
        ∷ does (typed.Assign (typed.Member (variable 1 1 (type 10)) (at_line 6 2) (name [] (at 0)) 1 (node 8) int) (at_line 6 4) (number 66))
        ∷ does (put (typed.Read (typed.MemberAt (cast 7 16) (at_line 7 24) (name [] (at 0)) 1 (node 9) int)))
        ∷ does (put (typed.Read (typed.MemberAt (cast 8 17) (at_line 8 24) (name [] (at 0)) 0 (node 10) int)))
        ∷ returns (at_line 9 1) (number 0)
        ∷ [])

-- int f(int a){return a;}
-- int main(void){
-- int (*p)(int)=f;
-- int (*q)(int,int)=(int (*)(int,int))p;
-- putchar(((int (*)(int))q)(65));
-- return q(1,2);}
abbrev pub called_otherwise : SourceOutcome
called_otherwise = source_run program table (kind_at (Wild ∷ Wild ∷ Wild ∷ Wild ∷ Wild ∷ [])) (Closed []) 10
  where
    -- p, q, the two casts and the name f: 0 to 4; the homes of a, p and q: 5 to 7
    table : Table
    table = basic_table ++ entry (shape.Function (int ∷ []) int) ∷ entry (shape.Function (int ∷ int ∷ []) int) ∷ entry (shape.Function [] int)
        ∷ entry (shape.Pointer (node 0) (type 9)) ∷ entry (shape.Pointer (node 1) (type 10)) ∷ entry (shape.Pointer (node 2) (type 10))
        ∷ entry (shape.Pointer (node 3) (type 9)) ∷ entry (shape.Pointer (node 4) (type 9)) ∷ []

    program : TypedTranslationUnit
    program = function (name (codes "main") (at_line 2 5)) (type 11) [] (
        declares (local_is 6 (type 12) (at_line 3 14) (flows (at_line 3 14) (type 12) (typed.FunctionName (name (codes "f") (at_line 3 15)) 0 (node 4) (type 16))))
        ∷ declares (local_is 7 (type 13) (at_line 4 18) (flows (at_line 4 18) (type 13)
        (typed.Cast conversion.PointerToPointer (at_line 4 19) (type_name (type 14)) (value 0 6 (type 12)))))
        ∷ does (put (typed.Call (typed.Cast conversion.PointerToPointer (at_line 5 10) (type_name (type 15)) (value 0 7 (type 13))) (at_line 5 26)
        (arguments (number 65 ∷ [])) int))
        ∷ returns (at_line 6 1) (typed.Call (value 0 7 (type 13)) (at_line 6 9) (arguments (number 1 ∷ number 2 ∷ [])) int)
        ∷ [])
        (function (name (codes "f") (at 5)) (type 9) ((5, int) ∷ []) (returns (at 14) (value 21 5 int) ∷ []) typed.NoExternal)

-- struct P{int *q;};
-- struct P g;
-- int main(void){int x;struct P l;l.q=&x;g=l;return 0;}
abbrev pub struct_kept : SourceOutcome
struct_kept = source_run program table (kind_at []) (Closed []) 10
  where
    -- the member q: 0; the homes of g, x and l: 1 to 3; the place l.q: 4; the address of x: 5
    table : Table
    table = basic_table ++ entry (shape.Pointer (node 0) int) ∷ aggregate (shape.Struct 0) (type 9 ∷ []) ∷ entry (shape.Pointer (node 5) int) ∷ entry (shape.Function [] int) ∷ []

    program : TypedTranslationUnit
    program = function (name (codes "main") (at_line 3 5)) (type 12) [] (
        declares (local 2 int)
        ∷ declares (local 3 (type 10))
        ∷ does (typed.Assign (typed.Member (variable 33 3 (type 10)) (at_line 3 34) (name [] (at 0)) 0 (node 4) (type 9)) (at_line 3 36)
        (flows (at_line 3 36) (type 9) (typed.AddressOf (at_line 3 37) (variable 38 2 int) (node 5) (type 11))))
        ∷ does (typed.Unread (typed.StructAssign (variable 40 1 (type 10)) (at_line 3 41) (variable 42 3 (type 10))))
        ∷ returns (at_line 3 44) (number 0)
        ∷ []) (global 1 (type 10) typed.NoExternal)

-- int hash(char *s){int h=0;while(*s){h=(h*31+*s)&1023;s++;}return h%16;}
-- int same(char *a,char *b){while(*a&&*a==*b){a++;b++;}return *a==*b;}
-- int main(void){return hash("the")*10+same("cat","cat");}
abbrev pub hashed_and_compared : SourceOutcome
hashed_and_compared = source_run program table (kind_at (Seq ∷ Seq ∷ Seq ∷ Safe ∷ Safe ∷ Seq ∷ Seq ∷ Seq ∷ [])) (Closed []) 20
  where
    -- the pointers s, a and b: 0 to 2; the two functions' names: 3, 4; the decays: 5 to 7; the homes of s, h, a and b: 8 to 11; those of the literals: 12 to 14
    table : Table
    table = basic_table ++ entry (shape.Array char 4)
        ∷ entry (shape.Pointer (node 0) char) ∷ entry (shape.Function (type 10 ∷ []) int)
        ∷ entry (shape.Pointer (node 1) char) ∷ entry (shape.Pointer (node 2) char) ∷ entry (shape.Function (type 12 ∷ type 13 ∷ []) int)
        ∷ entry (shape.Function [] int) ∷ entry (shape.Pointer (node 3) (type 11)) ∷ entry (shape.Pointer (node 4) (type 14))
        ∷ entry (shape.Pointer (node 5) char) ∷ entry (shape.Pointer (node 6) char) ∷ entry (shape.Pointer (node 7) char) ∷ []

    -- `*` of a variable
    target : ℕ → ℕ → TypedExpr
    target n t = widened int (typed.Read (typed.Target (at 0) (value 0 n (type t)) char))

    int_of : Binary → TypedExpr → TypedExpr → TypedExpr
    int_of operator a b = typed.Arithmetic operator a (at 0) b int

    steps : ℕ → ℕ → Item
    steps n t = does (typed.StepAfter (variable 0 n (type t)) step.Increment (at 0))

    hash : TypedTranslationUnit → TypedTranslationUnit
    hash = function (name (codes "hash") (at 5)) (type 11) ((8, type 10) ∷ []) (
        declares (local_is 9 int (at 0) (number 0))
        ∷ while (target 8 10) (typed.Block (at 0) (body (
        does (typed.Assign (variable 0 9 int) (at 0)
        (int_of binary.BitAnd (int_of binary.Add (int_of binary.Multiply (value 0 9 int) (number 31)) (target 8 10)) (number 1023)))
        ∷ steps 8 10 ∷ [])))
        ∷ returns (at 0) (int_of binary.Remainder (value 0 9 int) (number 16))
        ∷ [])

    same : TypedTranslationUnit → TypedTranslationUnit
    same = function (name (codes "same") (at_line 2 5)) (type 14) ((10, type 12) ∷ (11, type 13) ∷ []) (
        while (typed.Logical binary.LogicalAnd (target 10 12) (at 0) (int_of binary.Equal (target 10 12) (target 11 13)) int)
        (typed.Block (at 0) (body (steps 10 12 ∷ steps 11 13 ∷ [])))
        ∷ returns (at 0) (int_of binary.Equal (target 10 12) (target 11 13))
        ∷ [])

    -- a literal as an argument for a parameter of type t
    text : List ℕ → ℕ → ℕ → ℕ → ℕ → TypedExpr
    text bytes literal decay from t = flows (at 0) (type t) (typed.Decay (string bytes literal (type 9)) (node decay) (type from))

    program : TypedTranslationUnit
    program = function (name (codes "main") (at_line 3 5)) (type 15) [] (
        returns (at 0) (int_of binary.Add
        (int_of binary.Multiply (typed.Call (typed.FunctionName (name (codes "hash") (at 0)) 0 (node 3) (type 16)) (at 0)
        (arguments (text (codes "\"the\"") 12 5 18 10 ∷ [])) int) (number 10))
        (typed.Call (typed.FunctionName (name (codes "same") (at 0)) 1 (node 4) (type 17)) (at 0)
        (arguments (text (codes "\"cat\"") 13 6 19 12 ∷ text (codes "\"cat\"") 14 7 20 13 ∷ [])) int))
        ∷ []) (same (hash typed.NoExternal))

-- int f(int n){int r=0;switch(n){case 1:r=r+1;case 2:r=r+2;break;default:r=r+4;case 3:r=r+8;}return r;}
-- int main(void){int i=0;int s=0;
-- do{i++;if(i==2)continue;s=s+i;}while(i<4);
-- for(i=0;i<9;i++){if(i==5)break;s=s+1;}
-- putchar(f(1));putchar(f(2));putchar(f(3));putchar(f(9));putchar(s);putchar(i);return 0;}
abbrev pub controlled : SourceOutcome
controlled = source_run program table (kind_at []) (Closed []) 20
  where
    -- the homes of n, r, i and s: 0 to 3; the name f: 4 to 7
    table : Table
    table = basic_table ++ entry (shape.Function [] int) ∷ entry (shape.Function (int ∷ []) int)
        ∷ entry (shape.Pointer (node 4) (type 10)) ∷ entry (shape.Pointer (node 5) (type 10)) ∷ entry (shape.Pointer (node 6) (type 10)) ∷ entry (shape.Pointer (node 7) (type 10)) ∷ []

    int_of : Binary → TypedExpr → TypedExpr → TypedExpr
    int_of operator a b = typed.Arithmetic operator a (at 0) b int

    -- v = v + e
    adds : ℕ → TypedExpr → Item
    adds v e = does (typed.Assign (variable 0 v int) (at 0) (int_of binary.Add (value 0 v int) e))

    case_of : ℕ → Item
    case_of n all = typed.AndCase all (at 0) (number n) (pos n)

    default_of : Item
    default_of all = typed.AndDefault all (at 0)

    steps : ℕ → TypedExpr
    steps v = typed.StepAfter (variable 0 v int) step.Increment (at 0)

    when : TypedExpr → TypedStatement → Item
    when c s = runs (typed.If (at 0) (at 0) c s)

    call : ℕ → ℕ → ℕ → TypedExpr
    call n t k = typed.Call (typed.FunctionName (name (codes "f") (at 0)) 0 (node n) (type t)) (at 0) (arguments (number k ∷ [])) int

    f : TypedTranslationUnit → TypedTranslationUnit
    f = function (name (codes "f") (at 0)) (type 10) ((0, int) ∷ []) (
        declares (local_is 1 int (at 0) (number 0))
        ∷ runs (typed.Switch (at 0) (at 0) (value 0 0 int) (at 0) (body (
        case_of 1 ∷ adds 1 (number 1) ∷ case_of 2 ∷ adds 1 (number 2) ∷ runs (typed.Break (at 0))
        ∷ default_of ∷ adds 1 (number 4) ∷ case_of 3 ∷ adds 1 (number 8) ∷ [])))
        ∷ returns (at 0) (value 0 1 int)
        ∷ [])

    program : TypedTranslationUnit
    program = function (name (codes "main") (at 0)) (type 9) [] (
        declares (local_is 2 int (at 0) (number 0))
        ∷ declares (local_is 3 int (at 0) (number 0))
        ∷ runs (typed.DoWhile (typed.Block (at 0) (body (
        does (steps 2) ∷ when (int_of binary.Equal (value 0 2 int) (number 2)) (typed.Continue (at 0)) ∷ adds 3 (value 0 2 int) ∷ [])))
        (at 0) (at 0) (int_of binary.Less (value 0 2 int) (number 4)))
        ∷ runs (typed.For (at 0) (at 0) (Some (typed.Assign (variable 0 2 int) (at 0) (number 0))) (Some (int_of binary.Less (value 0 2 int) (number 9))) (Some (steps 2))
        (typed.Block (at 0) (body (when (int_of binary.Equal (value 0 2 int) (number 5)) (typed.Break (at 0)) ∷ adds 3 (number 1) ∷ []))))
        ∷ does (put (call 4 11 1)) ∷ does (put (call 5 12 2)) ∷ does (put (call 6 13 3)) ∷ does (put (call 7 14 9))
        ∷ does (put (value 0 3 int)) ∷ does (put (value 0 2 int))
        ∷ returns (at 0) (number 0)
        ∷ []) (f typed.NoExternal)

-- int a[3]={1,2};
-- int main(void){char t[4]="ab";static int k=3;
-- k+=a[0]+a[1]+a[2];t[3]=k;t[0]-=1;
-- putchar(t[0]);putchar(t[2]);putchar(t[3]);return -1<1u;}
abbrev pub initialised : SourceOutcome
initialised = source_run program table (kind_at (Safe ∷ Safe ∷ Safe ∷ Seq ∷ Seq ∷ Seq ∷ Seq ∷ Seq ∷ Seq ∷ Seq ∷ Seq ∷ [])) (Closed []) 20
  where
    -- the homes of a, t and k: 0 to 2; the decays: 3 to 10
    table : Table
    table = basic_table ++ entry (shape.Array int 3) ∷ entry (shape.Array char 4) ∷ entry (shape.Function [] int)
        ∷ entry (shape.Pointer (node 3) int) ∷ entry (shape.Pointer (node 4) int) ∷ entry (shape.Pointer (node 5) int)
        ∷ entry (shape.Pointer (node 6) char) ∷ entry (shape.Pointer (node 7) char) ∷ entry (shape.Pointer (node 8) char) ∷ entry (shape.Pointer (node 9) char) ∷ entry (shape.Pointer (node 10) char) ∷ []

    a : ℕ → ℕ → ℕ → TypedExpr
    a n t i = typed.Read (typed.Element side.Left (typed.Decay (variable 0 0 (type 9)) (node n) (type t)) (at 0) (number i) int)

    t : ℕ → ℕ → ℕ → TypedPlace
    t n ty i = typed.Element side.Left (typed.Decay (variable 0 1 (type 10)) (node n) (type ty)) (at 0) (number i) char

    add : TypedExpr → TypedExpr → TypedExpr
    add x y = typed.Arithmetic binary.Add x (at 0) y int

    declared : Home → TypeId → TypedInitialiser → TypedDeclaration
    declared h ty i = typed.Declare (specifiers ty) (typed.AndInitialised typed.NoInitDeclarator (typed.Declares (form (name [] (at 0)) h) ty) (at 0) i)

    program : TypedTranslationUnit
    program = function (name (codes "main") (at 0)) (type 11) [] (
        declares (declared (home.Local (node 1)) (type 10) (typed.Text (record { bytes = codes "\"ab\""; place = at 0 } ∷ []) (codes "ab" ++ 0 ∷ [])))
        ∷ declares (declared (home.Static (node 2)) int (typed.Value (number 3)))
        ∷ does (typed.AssignWith assignment.Add (variable 0 2 int) (at 0) (add (add (a 3 12 0) (a 4 13 1)) (a 5 14 2)) int)
        ∷ does (typed.Assign (t 6 15 3) (at 0) (widened char (value 0 2 int)))
        ∷ does (typed.AssignWith assignment.Subtract (t 7 16 0) (at 0) (number 1) int)
        ∷ does (put (widened int (typed.Read (t 8 17 0)))) ∷ does (put (widened int (typed.Read (t 9 18 2)))) ∷ does (put (widened int (typed.Read (t 10 19 3))))
        ∷ returns (at 0) (typed.Arithmetic binary.Less (widened (type 6) (typed.Prefix unary.Minus (at 0) (number 1) int)) (at 0) (widened (type 6) (number 1)) int)
        ∷ [])
        (typed.AndExternal typed.NoExternal (declared (home.Static (node 0)) (type 9)
        (typed.Listed (at 0) (typed.AndItem (typed.AndItem typed.NoItem 0 int (typed.Value (number 1))) 4 int (typed.Value (number 2))) false (type 9))))

-- int main(void){free(0);return 3;}
abbrev pub null_freed : SourceOutcome
null_freed = source_run program table (kind_at []) (Closed []) 10
  where
    table : Table
    table = basic_table ++ entry (shape.Function [] int) ∷ []

    program : TypedTranslationUnit
    program = main (type 9) (
        does (typed.CallRuntime runtime.Free (runtime_call runtime.Free) (at 20) (arguments (number 0 ∷ [])) (type 0))
        ∷ returns (at 24) (number 3)
        ∷ [])

-- int f(void){return 0;}
-- int main(void){
-- int *(*q)(void)=(int *(*)(void))f;
-- *q()=putchar(65);
-- return 0;}
abbrev pub integer_as_address : List Kind → SourceOutcome
integer_as_address list = source_run program table (kind_at list) (Closed []) 10
  where
    -- q, the cast, the home of q, the name f, and the pointers that q and the cast give: 0 to 5
    table : Table
    table = basic_table ++ entry (shape.Pointer (node 4) int) ∷ entry (shape.Function [] (type 9)) ∷ entry (shape.Pointer (node 0) (type 10))
        ∷ entry (shape.Pointer (node 5) int) ∷ entry (shape.Function [] (type 12)) ∷ entry (shape.Pointer (node 1) (type 13))
        ∷ entry (shape.Function [] int) ∷ entry (shape.Pointer (node 3) (type 15)) ∷ []

    program : TypedTranslationUnit
    program = function (name (codes "main") (at_line 2 5)) (type 15) [] (
        declares (local_is 2 (type 11) (at_line 3 16) (flows (at_line 3 16) (type 11)
        (typed.Cast conversion.PointerToPointer (at_line 3 17) (type_name (type 14))
        (typed.FunctionName (name (codes "f") (at_line 3 33)) 0 (node 3) (type 16)))))
        ∷ does (typed.Assign (typed.Target (at_line 4 1) (typed.Call (value 2 2 (type 11)) (at_line 4 3) (arguments []) (type 9)) int)
        (at_line 4 5) (put (number 65)))
        ∷ returns (at_line 5 1) (number 0)
        ∷ []) (function (name (codes "f") (at 5)) (type 15) [] (returns (at 13) (number 0) ∷ []) typed.NoExternal)

-- struct S{int a;};
-- int main(void){
-- struct S s;struct S *p=0;
-- s=SIDE;
-- return 0;}
abbrev copied_from : TypedPlace → SourceOutcome
copied_from side = source_run program table (kind_at []) (Closed []) 10
  where
    -- p: 0; the homes of s and p: 1, 2
    table : Table
    table = basic_table ++ aggregate (shape.Struct 0) (int ∷ []) ∷ entry (shape.Pointer (node 0) (type 9)) ∷ entry (shape.Function [] int) ∷ []

    program : TypedTranslationUnit
    program = function (name (codes "main") (at_line 2 5)) (type 11) [] (
        declares (local 1 (type 9))
        ∷ declares (local_is 2 (type 10) (at_line 3 23) (null (type 10)))
        ∷ does (typed.Unread (typed.StructAssign (variable 1 1 (type 9)) (at_line 4 2) side))
        ∷ returns (at_line 5 1) (number 0)
        ∷ []) typed.NoExternal

-- `*p`
abbrev null_target : ℕ → TypedPlace
null_target column = typed.Target (at_line 4 column) (value (column + 1) 2 (type 10)) (type 9)

-- s=(1?*p:s);
abbrev pub copied_from_choice : SourceOutcome
copied_from_choice = copied_from (typed.ParenPlace (at_line 4 3)
    (typed.StructConditional (number 1) (at_line 4 5) (null_target 6) (variable 9 1 (type 9))))

-- s=(1,*p);
abbrev pub copied_from_comma : SourceOutcome
copied_from_comma = copied_from (typed.ParenPlace (at_line 4 3) (typed.StructComma (number 1) (null_target 6)))

-- s=(s=*p);
abbrev pub copied_from_assignment : SourceOutcome
copied_from_assignment = copied_from (typed.ParenPlace (at_line 4 3)
    (typed.StructAssign (variable 4 1 (type 9)) (at_line 4 5) (null_target 6)))

-- int main(void){int x=2;return (putchar(65),x)?(x=7,x+1):x;}
abbrev pub chosen : SourceOutcome
chosen = source_run program table (kind_at []) (Closed []) 10
  where
    table : Table
    table = basic_table ++ entry (shape.Function [] int) ∷ []

    program : TypedTranslationUnit
    program = main (type 9) (
        declares (local_is 0 int (at 21) (number 2))
        ∷ returns (at 24) (typed.Conditional (typed.Comma (put (number 65)) (value 44 0 int)) (at 46)
        (typed.Comma (typed.Assign (variable 48 0 int) (at 49) (number 7)) (typed.Arithmetic binary.Add (value 52 0 int) (at 53) (number 1) int))
        (value 57 0 int) int)
        ∷ [])

-- int main(void){{typedef int g(int *);}{typedef char *g(void);}return 0;}
abbrev pub block_typedefs_table : Table
block_typedefs_table = basic_table ++ entry (shape.Pointer (node 0) int) ∷ entry (shape.Function (type 9 ∷ []) int) ∷ entry (shape.Pointer (node 1) char)
    ∷ entry (shape.Function [] (type 11)) ∷ entry (shape.Function [] int) ∷ []

abbrev pub block_typedefs : TypedTranslationUnit
block_typedefs = main (type 13) (
    runs (typed.Block (at 16) (body (named int (type 10) ∷ [])))
    ∷ runs (typed.Block (at 39) (body (named char (type 12) ∷ [])))
    ∷ returns (at 63) (number 0)
    ∷ [])
  where
    named : TypeId → TypeId → Item
    named base t = declares (typed.Declare (typed.Specified (typed.AndSpecifier typed.NoSpecifier (typed.Keyword (record { keyword = keyword.Typedef; place = at 0 }))) base)
        (typed.AndPlain typed.NoInitDeclarator (typed.Declares (form (name (codes "g") (at 0)) home.None) t)))

-- int main(void){
-- int a[2];int *p=a+5;char c=100;char d=127;
-- c+=100;d++;(void)putchar(c);(void)putchar(d);
-- return (p!=0)+(0==p)*2+(p==0||p!=0)*4;}
abbrev pub compared_with_null : SourceOutcome
compared_with_null = source_run program table (kind_at (Safe ∷ Seq ∷ Safe ∷ Seq ∷ [])) (Closed []) 10
  where
    -- the homes of a, p, c and d: 0, 2, 4 and 5; p: 1; the decay: 3
    table : Table
    table = basic_table ++ entry (shape.Array int 2)
        ∷ entry (shape.Pointer (node 1) int) ∷ entry (shape.Pointer (node 3) int) ∷ entry (shape.Function [] int) ∷ []

    p : TypedExpr
    p = value 0 2 (type 10)

    is : Binary → TypedExpr → TypedExpr → TypedExpr
    is operator a b = typed.Compared operator a (at 0) b int

    int_of : Binary → TypedExpr → TypedExpr → TypedExpr
    int_of operator a b = typed.Arithmetic operator a (at 0) b int

    put_char : ℕ → Item
    put_char n = does (typed.Cast conversion.ToVoid (at 0) (type_name (type 0)) (put (widened int (value 0 n char))))

    program : TypedTranslationUnit
    program = main (type 12) (
        declares (local 0 (type 9))
        ∷ declares (local_is 2 (type 10) (at 0) (flows (at 0) (type 10)
        (typed.Moved binary.Add side.Left (typed.Decay (variable 0 0 (type 9)) (node 3) (type 11)) (at 0) (number 5) (type 11))))
        ∷ declares (local_is 4 char (at 0) (widened char (number 100)))
        ∷ declares (local_is 5 char (at 0) (widened char (number 127)))
        ∷ does (typed.AssignWith assignment.Add (variable 0 4 char) (at 0) (number 100) int)
        ∷ does (typed.StepAfter (variable 0 5 char) step.Increment (at 0))
        ∷ put_char 4 ∷ put_char 5
        ∷ returns (at 0) (int_of binary.Add (int_of binary.Add (is binary.NotEqual p (null (type 10)))
        (int_of binary.Multiply (is binary.Equal (null (type 10)) p) (number 2)))
        (int_of binary.Multiply (typed.Logical binary.LogicalOr (is binary.Equal p (null (type 10))) (at 0) (is binary.NotEqual p (null (type 10))) int) (number 4)))
        ∷ [])

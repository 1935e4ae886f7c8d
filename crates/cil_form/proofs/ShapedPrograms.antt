-- The small programs are in shape.
use Rattle.std.proofs.Common.{pos, ◌++◌, inl, inr, ℕ, zero, suc, subst, ◌<◌, ◌≡◌, refl, List, [], ◌∷◌, All, Option, Some, lit<, lit≤, arith}
use Rattle.std.proofs.lemmas.List.Elements.{All-cons, All-nil}
use Rattle.std.specs.declared.alloc.Global.{Global}
use Rattle.integers.specs.Arithmetic as integer
use Rattle.c_types.specs.Sound.{IsWellFormed}
use Rattle.c_types.specs.Layouts.{layout_of}
use Rattle.c_types.specs.Cells.{cells_at}
use Rattle.c_types.specs.Equality.{physically_equal}
use Rattle.cil_form.specs.declared.number.Temp.TheVariants as temp
use Rattle.cil_form.specs.Small.{code, node, type, int, value, kept}
use Rattle.cil_form.specs.Programs.{loop_table, loop_round, loop_body, loop_main, loop_program, call_table, called_body, called, calling_body, calling, call_program, access_table, access_body, access_main, access_program, case_label, switch_labels, piece, write_character, first_round, first_loop, first_piece, switch_block, switch_body, switch_main, switch_program, renamed_table, renamed_start, renamed_body, renamed_main, renamed_program}
use denote.Hole.Carrier
use Rattle.cil_form.specs.declared.instr.Instr.TheBlock.{shape-the_row-Instr-0, hidden-the_row-Instr-0}
use Rattle.cil_form.specs.Sites.{Each}
use Rattle.c_types.specs.Table.{AreNodesOf}
use Rattle.cil_form.specs.Shape.{context_of, context_in, IsSiteInShape, IsStaticInShape, IsFunctionInShape, IsInShape}
use Rattle.cil_form.specs.Typing.{Typing, HeldType, IntegerOf, PointerTo, PlaceOf, no_types, with_held, IsTemp, IsBetweenStatements, Includes, Leaves, inside, AreShaped, HoldsOf, AreArguments, same, listed, whole, Context, IsInteger}
use Rattle.cil_form.proofs.TypingLaws.{includes-all, includes-with, includes-over, shaped-if, shaped-block, shaped-loop, shaped-append, shaped-less}
use Rattle.cil_form.specs.declared.instr.Instr.TheVariants as instr
use Rattle.cil_form.specs.declared.instr.Set.TheVariants as set
use Rattle.cil_form.specs.declared.instr.Code.{Code}
use Rattle.cil_form.specs.declared.instr.Instr.{Instr}

-- a property of each element, by its number
pub each-all : {X : Type 0} (P : X → Type 0) (xs : List X) → Each P xs → All P xs
each-all P [] h = All-nil P
each-all P (x ∷ xs) h = All-cons P x xs h.0 (each-all P xs h.1)

is-temp : (t : ℕ) → t < 3 → IsTemp (value t)
is-temp t h = omega (arith, h)

leaves-all : (types : Typing) (t : ℕ) (x : Option HeldType) → t < 3 → Leaves types (value t) x (with_held (value t) x types)
leaves-all types t x h = (is-temp t h, includes-all (with_held (value t) x types))

-- nothing is known between statements
between-none : IsBetweenStatements no_types
between-none = λ t x e. absurd (cc (e))

includes-none : (types : Typing) → Includes types no_types
includes-none types = λ t x e. absurd (cc (e))

abbrev an_int : HeldType
an_int = IntegerOf integer.int

abbrev its_home : HeldType
its_home = PlaceOf (node 0) int

-- what is known in the loop's round, instruction by instruction
abbrev l1 : Typing
l1 = with_held (value 0) (Some its_home) no_types

abbrev l2 : Typing
l2 = with_held (value 0) (Some an_int) l1

abbrev l3 : Typing
l3 = with_held (value 1) (Some an_int) l2

abbrev l4 : Typing
l4 = with_held (value 0) (Some an_int) l3

abbrev l5 : Typing
l5 = with_held (value 0) (Some an_int) l4

abbrev l6 : Typing
l6 = with_held (value 0) (Some an_int) l5

abbrev l7 : Typing
l7 = with_held (value 0) (Some its_home) l6

abbrev l8 : Typing
l8 = with_held (value 1) (Some its_home) l7

abbrev l9 : Typing
l9 = with_held (value 1) (Some an_int) l8

abbrev l10 : Typing
l10 = with_held (value 2) (Some an_int) l9

abbrev l11 : Typing
l11 = with_held (value 1) (Some an_int) l10

loop_choice : (alloc : Global) → AreShaped (instr.Break 0 ∷ []) (inside (context_in (loop_program alloc) (loop_main alloc)) no_types) l4 l4
loop_choice alloc = (l4, (lit< tt, includes-none l4, includes-all l4), includes-all l4)

pub loop_round-shaped : (alloc : Global) → AreShaped (loop_round alloc) (inside (context_in (loop_program alloc) (loop_main alloc)) no_types) no_types no_types
loop_round-shaped alloc = (
  l1,
  ((int, refl, inl refl), leaves-all no_types 0 (Some its_home) (lit< tt)),
  (
    l2,
    ((lit< tt, (lit< tt, refl), inr (is-temp 0 (lit< tt), refl), leaves-all l1 0 (Some an_int) (lit< tt)), tt),
    (
      l3,
      (integer.int, (lit< tt, refl), refl, leaves-all l2 1 (Some an_int) (lit< tt)),
      (
        l4,
        (integer.int, (lit< tt, refl), (is-temp 0 (lit< tt), refl), (is-temp 1 (lit< tt), refl), leaves-all l3 0 (Some an_int) (lit< tt)),
        (
          l4,
          shaped-if (value 0) _ _ _ l4 l4 (an_int, (is-temp 0 (lit< tt), refl)) (includes-all l4) (loop_choice alloc),
          (
            l5,
            (integer.int, (lit< tt, refl), refl, leaves-all l4 0 (Some an_int) (lit< tt)),
            (
              l6,
              ((is-temp 0 (lit< tt), refl), leaves-all l5 0 (Some an_int) (lit< tt)),
              (
                l7,
                ((int, refl, inl refl), leaves-all l6 0 (Some its_home) (lit< tt)),
                (
                  l8,
                  ((int, refl, inl refl), leaves-all l7 1 (Some its_home) (lit< tt)),
                  (
                    l9,
                    ((lit< tt, (lit< tt, refl), inr (is-temp 1 (lit< tt), refl), leaves-all l8 1 (Some an_int) (lit< tt)), tt),
                    (
                      l10,
                      (integer.int, (lit< tt, refl), refl, leaves-all l9 2 (Some an_int) (lit< tt)),
                      (
                        l11,
                        (integer.int, (lit< tt, refl), (is-temp 1 (lit< tt), refl), (is-temp 2 (lit< tt), refl), leaves-all l10 1 (Some an_int) (lit< tt)),
                        (
                          no_types,
                          (((lit< tt, inr (is-temp 0 (lit< tt), refl)), ((lit< tt, refl), is-temp 1 (lit< tt), refl), includes-none l11), tt),
                          includes-all no_types,
                        ),
                      ),
                    ),
                  ),
                ),
              ),
            ),
          ),
        ),
      ),
    ),
  ),
)

pub loop_body-shaped : (alloc : Global) → AreShaped (loop_body alloc) (context_in (loop_program alloc) (loop_main alloc)) no_types no_types
loop_body-shaped alloc = (
  no_types,
  shaped-loop _ _ no_types no_types no_types
      (record { between = between-none; begins = includes-all no_types; keeps = includes-all no_types; ends = includes-all no_types }) (loop_round-shaped alloc),
  (
    l1,
    ((int, refl, inl refl), leaves-all no_types 0 (Some its_home) (lit< tt)),
    (
      l2,
      ((lit< tt, (lit< tt, refl), inr (is-temp 0 (lit< tt), refl), leaves-all l1 0 (Some an_int) (lit< tt)), tt),
      (
        no_types,
        (refl, ((lit< tt, refl), is-temp 0 (lit< tt), refl), includes-none l2),
        includes-all no_types,
      ),
    ),
  ),
)

loop_main-in_shape : (alloc : Global) → IsFunctionInShape (loop_program alloc) (loop_main alloc)
unfolding shape-the_row-Instr-0 hidden-the_row-Instr-0 Carrier.hidden
loop_main-in_shape alloc = record {
  type = (int, lit< tt, refl, inl (lit< tt, refl));
  parameters = lit≤ tt;
  scalars = tt;
  variables = ((lit< tt, (lit< tt, refl)), tt);
  body = record { shaped = loop_body-shaped alloc; nested = lit≤ tt };
}

pub loop_program-in_shape : (alloc : Global) → IsWellFormed (loop_program alloc).types → IsInShape (loop_program alloc)
unfolding shape-the_row-Instr-0 hidden-the_row-Instr-0 Carrier.hidden
loop_program-in_shape alloc formed = record {
  formed = formed;
  nodes = each-all (λ e. AreNodesOf 1 e.shape) loop_table (tt, (tt, (tt, (tt, (tt, (tt, (tt, (tt, (tt, (tt, tt))))))))));
  sites = each-all (IsSiteInShape (loop_program alloc).types 1) (loop_program alloc).sites ((lit< tt, lit< tt), tt);
  statics = All-nil _;
  globals = lit≤ tt;
  initialisers = record { shaped = includes-all no_types; nested = lit≤ tt };
  functions = each-all (IsFunctionInShape (loop_program alloc)) (loop_main alloc ∷ []) (loop_main-in_shape alloc, tt);
  count = lit≤ tt;
  main = (loop_main alloc, refl, (int, refl, (lit< tt, refl)));
  cells = lit≤ tt;
}

-- the function that is called, and the one that calls
pub called_body-shaped : (alloc : Global) → AreShaped called_body (context_in (call_program alloc) (called alloc)) no_types no_types
called_body-shaped alloc = (
  l1,
  ((int, refl, inl refl), leaves-all no_types 0 (Some its_home) (lit< tt)),
  (
    l2,
    ((lit< tt, (lit< tt, refl), inr (is-temp 0 (lit< tt), refl), leaves-all l1 0 (Some an_int) (lit< tt)), tt),
    (
      l3,
      (integer.int, (lit< tt, refl), refl, leaves-all l2 1 (Some an_int) (lit< tt)),
      (
        l4,
        (integer.int, (lit< tt, refl), (is-temp 0 (lit< tt), refl), (is-temp 1 (lit< tt), refl), leaves-all l3 0 (Some an_int) (lit< tt)),
        (
          no_types,
          (refl, ((lit< tt, refl), is-temp 0 (lit< tt), refl), includes-none l4),
          includes-all no_types,
        ),
      ),
    ),
  ),
)

abbrev its_function : HeldType
its_function = PointerTo (node 1) (type 9)

abbrev c1 : Typing
c1 = with_held (value 0) (Some its_function) no_types

abbrev c2 : Typing
c2 = with_held (value 1) (Some an_int) c1

abbrev c3 : Typing
c3 = with_held (value 0) (Some an_int) c2

its_argument : (alloc : Global) → AreArguments (context_in (call_program alloc) (calling alloc)) c2 1 (int ∷ [])
its_argument alloc zero t e =
    let it : int ≡ t = cc (e) in
    let there : HoldsOf (context_in (call_program alloc) (calling alloc)) c2 (value 1) int = ((lit< tt, refl), is-temp 1 (lit< tt), refl) in
    subst (λ u. HoldsOf (context_in (call_program alloc) (calling alloc)) c2 (value 1) u) it there
its_argument alloc (suc i) t e = absurd (cc (e))

pub calling_body-shaped : (alloc : Global) → AreShaped calling_body (context_in (call_program alloc) (calling alloc)) no_types no_types
unfolding physically_equal layout_of cells_at
calling_body-shaped alloc = (
  c1,
  (node 1, type 9, type 9, (lit< tt, refl), refl, refl, same (type 9), leaves-all no_types 0 (Some its_function) (lit< tt)),
  (
    c2,
    (integer.int, (lit< tt, refl), refl, leaves-all c1 1 (Some an_int) (lit< tt)),
    (
      c3,
      (node 1, type 9, int ∷ [], int, (lit< tt, refl), refl, refl, refl, (is-temp 0 (lit< tt), refl), its_argument alloc, leaves-all c2 0 (Some an_int) (lit< tt)),
      (
        no_types,
        (refl, ((lit< tt, refl), is-temp 0 (lit< tt), refl), includes-none c3),
        includes-all no_types,
      ),
    ),
  ),
)

called-in_shape : (alloc : Global) → IsFunctionInShape (call_program alloc) (called alloc)
called-in_shape alloc = record {
  type = (int, lit< tt, refl, inl (lit< tt, refl));
  parameters = lit≤ tt;
  scalars = ((lit< tt, refl), tt);
  variables = ((lit< tt, (lit< tt, refl)), tt);
  body = record { shaped = called_body-shaped alloc; nested = lit≤ tt };
}

calling-in_shape : (alloc : Global) → IsFunctionInShape (call_program alloc) (calling alloc)
calling-in_shape alloc = record {
  type = (int, lit< tt, refl, inl (lit< tt, refl));
  parameters = lit≤ tt;
  scalars = tt;
  variables = tt;
  body = record { shaped = calling_body-shaped alloc; nested = lit≤ tt };
}

pub call_program-in_shape : (alloc : Global) → IsWellFormed (call_program alloc).types → IsInShape (call_program alloc)
call_program-in_shape alloc formed = record {
  formed = formed;
  nodes = each-all (λ e. AreNodesOf 2 e.shape) call_table (tt, (tt, (tt, (tt, (tt, (tt, (tt, (tt, (tt, (tt, (tt, (lit< tt, tt))))))))))));
  sites = each-all (IsSiteInShape (call_program alloc).types 2) (call_program alloc).sites ((lit< tt, lit< tt), ((lit< tt, lit< tt), tt));
  statics = All-nil _;
  globals = lit≤ tt;
  initialisers = record { shaped = includes-all no_types; nested = lit≤ tt };
  functions = each-all (IsFunctionInShape (call_program alloc)) (called alloc ∷ calling alloc ∷ []) (called-in_shape alloc, (calling-in_shape alloc, tt));
  count = lit≤ tt;
  main = (calling alloc, refl, (int, refl, (lit< tt, refl)));
  cells = lit≤ tt;
}

-- the array's store
abbrev its_array : HeldType
its_array = PlaceOf (node 0) (type 10)

abbrev its_element : HeldType
its_element = PointerTo (node 1) int

abbrev a1 : Typing
a1 = with_held (value 0) (Some its_array) no_types

abbrev a2 : Typing
a2 = with_held (value 0) (Some its_element) a1

abbrev a3 : Typing
a3 = with_held (value 1) (Some an_int) a2

abbrev a4 : Typing
a4 = with_held (value 0) (Some its_element) a3

abbrev a5 : Typing
a5 = with_held (value 1) (Some an_int) a4

abbrev a6 : Typing
a6 = with_held (value 0) (Some an_int) a5

pub access_body-shaped : (alloc : Global) → AreShaped access_body (context_in (access_program alloc) (access_main alloc)) no_types no_types
access_body-shaped alloc = (
  a1,
  ((type 10, refl, inl refl), leaves-all no_types 0 (Some its_array) (lit< tt)),
  (
    a2,
    ((lit< tt, lit< tt, lit< tt, (3, refl), (is-temp 0 (lit< tt), refl), leaves-all a1 0 (Some its_element) (lit< tt)), ((0, lit< tt, refl), ((2, lit< tt, refl), tt))),
    (
      a3,
      (integer.int, (lit< tt, refl), refl, leaves-all a2 1 (Some an_int) (lit< tt)),
      (
        a4,
        (
          (node 1, int, (lit< tt, refl), (lit< tt, refl), (is-temp 0 (lit< tt), refl), (integer.int, (is-temp 1 (lit< tt), refl)), leaves-all a3 0 (Some its_element) (lit< tt)),
          ((3, lit< tt, refl), tt),
        ),
        (
          a5,
          (integer.int, (lit< tt, refl), refl, leaves-all a4 1 (Some an_int) (lit< tt)),
          (
            a5,
            (((lit< tt, inl (is-temp 0 (lit< tt), refl)), ((lit< tt, refl), is-temp 1 (lit< tt), refl), includes-all a5), tt),
            (
              a6,
              (integer.int, (lit< tt, refl), refl, leaves-all a5 0 (Some an_int) (lit< tt)),
              (
                no_types,
                (refl, ((lit< tt, refl), is-temp 0 (lit< tt), refl), includes-none a6),
                includes-all no_types,
              ),
            ),
          ),
        ),
      ),
    ),
  ),
)

access_main-in_shape : (alloc : Global) → IsFunctionInShape (access_program alloc) (access_main alloc)
access_main-in_shape alloc = record {
  type = (int, lit< tt, refl, inl (lit< tt, refl));
  parameters = lit≤ tt;
  scalars = tt;
  variables = ((lit< tt, (lit< tt, refl)), tt);
  body = record { shaped = access_body-shaped alloc; nested = lit≤ tt };
}

pub access_program-in_shape : (alloc : Global) → IsWellFormed (access_program alloc).types → IsInShape (access_program alloc)
access_program-in_shape alloc formed = record {
  formed = formed;
  nodes = each-all (λ e. AreNodesOf 2 e.shape) access_table (tt, (tt, (tt, (tt, (tt, (tt, (tt, (tt, (tt, (tt, (tt, (lit< tt, tt))))))))))));
  sites = each-all (IsSiteInShape (access_program alloc).types 2) (access_program alloc).sites ((lit< tt, lit< tt), ((lit< tt, lit< tt), ((lit< tt, lit< tt), (lit< tt, tt))));
  statics = All-nil _;
  globals = lit≤ tt;
  initialisers = record { shaped = includes-all no_types; nested = lit≤ tt };
  functions = each-all (IsFunctionInShape (access_program alloc)) (access_main alloc ∷ []) (access_main-in_shape alloc, tt);
  count = lit≤ tt;
  main = (access_main alloc, refl, (int, refl, (lit< tt, refl)));
  cells = lit≤ tt;
}

-- the switch: what it keeps, and what is known where its labels are tried
abbrev s0 : Typing
s0 = with_held (kept 0) (Some an_int) no_types

abbrev s1 : Typing
s1 = with_held (value 0) (Some an_int) no_types

abbrev s2 : Typing
s2 = with_held (kept 0) (Some an_int) s1

abbrev s3 : Typing
s3 = with_held (value 1) (Some an_int) s2

abbrev s4 : Typing
s4 = with_held (value 1) (Some an_int) s3

-- behind the condition of a piece
abbrev p1 : Typing
p1 = with_held (value 0) (Some an_int) s0

abbrev p2 : Typing
p2 = with_held (value 0) (Some an_int) p1

-- what the switch keeps lives across statements
between-kept : IsBetweenStatements s0
between-kept (temp.Value n) x e = absurd (cc (e))
between-kept (temp.Switch n) x e = tt
between-kept (temp.Work w) x e = absurd (cc (e))

s2-s0 : Includes s2 s0
s2-s0 = includes-with s1 no_types (kept 0) (Some an_int) (includes-none s1)

s4-s2 : Includes s4 s2
s4-s2 = includes-over s3 s2 (value 1) (Some an_int) refl (includes-over s2 s2 (value 1) (Some an_int) refl (includes-all s2))

p2-s0 : Includes p2 s0
p2-s0 = includes-over p1 s0 (value 0) (Some an_int) refl (includes-over s0 s0 (value 0) (Some an_int) refl (includes-all s0))

-- the context of the switch's block, of its first piece's loop and of that loop's round
abbrev in_switch : Global → Context
in_switch alloc = inside (context_in (switch_program alloc) (switch_main alloc)) no_types

abbrev in_loop : Global → Context
in_loop alloc = inside (in_switch alloc) s0

abbrev in_round : Global → Context
in_round alloc = inside (in_loop alloc) s0

chosen-kept : Includes (with_held (kept 0) (Some an_int) s4) s2
chosen-kept = includes-with s4 s1 (kept 0) (Some an_int)
    (includes-over s3 s1 (value 1) (Some an_int) refl (includes-over s2 s1 (value 1) (Some an_int) refl (includes-over s1 s1 (kept 0) (Some an_int) refl (includes-all s1))))

chosen : (alloc : Global) (k : ℕ) → integer.converted integer.int (pos k) ≡ pos k → AreShaped (instr.Set (set.Integer (kept 0) (pos k) int) ∷ []) (in_switch alloc) s4 s2
chosen alloc k fits = (s2, (integer.int, (lit< tt, refl), fits, (lit< tt, chosen-kept)), includes-all s2)

label-shaped : (alloc : Global) (z k : ℕ) → integer.converted integer.int (pos z) ≡ pos z → integer.converted integer.int (pos k) ≡ pos k
    → AreShaped (case_label alloc z k) (in_switch alloc) s2 s2
label-shaped alloc z k fits small = (
  s3,
  (integer.int, (lit< tt, refl), fits, leaves-all s2 1 (Some an_int) (lit< tt)),
  (
    s4,
    (integer.int, (lit< tt, refl), (is-temp 0 (lit< tt), refl), (is-temp 1 (lit< tt), refl), leaves-all s3 1 (Some an_int) (lit< tt)),
    (
      s2,
      shaped-if (value 1) _ _ (in_switch alloc) s4 s2 (an_int, (is-temp 1 (lit< tt), refl)) (chosen alloc k small) s4-s2,
      includes-all s2,
    ),
  ),
)

labels-shaped : (alloc : Global) → AreShaped (switch_labels alloc) (in_switch alloc) s1 s0
labels-shaped alloc = (
  s2,
  (integer.int, (lit< tt, refl), refl, (lit< tt, includes-all s2)),
  shaped-less (case_label alloc 98 1 ++ case_label alloc 97 0) (in_switch alloc) s2 s2 s0
      (shaped-append (case_label alloc 98 1) (case_label alloc 97 0) (in_switch alloc) s2 s2 s2 (label-shaped alloc 98 1 refl refl) (label-shaped alloc 97 0 refl refl)) s2-s0,
)

write-shaped : (alloc : Global) (k : Context) (types : Typing) (z : ℕ) → IsInteger k int integer.int → integer.converted integer.int (pos z) ≡ pos z → Includes types s0 → AreShaped (write_character z) k types s0
write-shaped alloc k types z it fits h = (
  with_held (value 0) (Some an_int) types,
  (integer.int, it, fits, leaves-all types 0 (Some an_int) (lit< tt)),
  (
    s0,
    ((is-temp 0 (lit< tt), refl), (is-temp 0 (lit< tt), includes-over (with_held (value 0) (Some an_int) types) s0 (value 0) (Some an_int) refl (includes-over types s0 (value 0) (Some an_int) refl h))),
    includes-all s0,
  ),
)

round-shaped : (alloc : Global) → AreShaped first_round (in_round alloc) s0 s0
round-shaped alloc = shaped-append (write_character 49) (instr.Break 1 ∷ []) (in_round alloc) s0 s0 s0
    (write-shaped alloc (in_round alloc) s0 49 (lit< tt, refl) refl (includes-all s0)) (s0, (lit< tt, includes-all s0, includes-all s0), includes-all s0)

first_loop-shaped : (alloc : Global) → AreShaped (first_loop alloc) (in_loop alloc) s0 s0
first_loop-shaped alloc =
    (s0, shaped-block _ (in_loop alloc) s0 s0 s0 (record { between = between-kept; begins = includes-all s0; keeps = includes-all s0; ends = includes-all s0 }) (round-shaped alloc), includes-all s0)

first_piece-shaped : (alloc : Global) → AreShaped (first_piece alloc) (in_switch alloc) p2 s0
first_piece-shaped alloc =
    (s0, shaped-loop _ (in_switch alloc) p2 s0 s0 (record { between = between-kept; begins = p2-s0; keeps = includes-none s0; ends = includes-all s0 }) (first_loop-shaped alloc), includes-all s0)

piece-shaped : (alloc : Global) (k : ℕ) (body : Code) → integer.converted integer.int (pos k) ≡ pos k → AreShaped body.0.items (in_switch alloc) p2 s0
    → AreShaped (piece alloc k body) (in_switch alloc) s0 s0
piece-shaped alloc k body small h = (
  p1,
  (integer.int, (lit< tt, refl), small, leaves-all s0 0 (Some an_int) (lit< tt)),
  (
    p2,
    (integer.int, (lit< tt, refl), (lit< tt, refl), (is-temp 0 (lit< tt), refl), leaves-all p1 0 (Some an_int) (lit< tt)),
    (
      s0,
      shaped-if (value 0) body _ (in_switch alloc) p2 s0 (an_int, (is-temp 0 (lit< tt), refl)) h p2-s0,
      includes-all s0,
    ),
  ),
)

abbrev pieces : Global → List Instr
pieces alloc = piece alloc 0 (code alloc (first_piece alloc) (lit< tt)) ++ piece alloc 1 (code alloc (write_character 50) (lit< tt))

pieces-shaped : (alloc : Global) → AreShaped (pieces alloc) (in_switch alloc) s0 s0
pieces-shaped alloc = shaped-append (piece alloc 0 (code alloc (first_piece alloc) (lit< tt))) (piece alloc 1 (code alloc (write_character 50) (lit< tt))) (in_switch alloc) s0 s0 s0
    (piece-shaped alloc 0 (code alloc (first_piece alloc) (lit< tt)) refl (first_piece-shaped alloc))
    (piece-shaped alloc 1 (code alloc (write_character 50) (lit< tt)) refl (write-shaped alloc (in_switch alloc) p2 50 (lit< tt, refl) refl p2-s0))

switch_block-shaped : (alloc : Global) → AreShaped (switch_block alloc) (in_switch alloc) no_types no_types
switch_block-shaped alloc = (
  s1,
  leaves-all no_types 0 (Some an_int) (lit< tt),
  shaped-less (switch_labels alloc ++ pieces alloc) (in_switch alloc) s1 s0 no_types
      (shaped-append (switch_labels alloc) (pieces alloc) (in_switch alloc) s1 s0 s0 (labels-shaped alloc) (pieces-shaped alloc)) (includes-none s0),
)

switch_body-shaped : (alloc : Global) → AreShaped (switch_body alloc) (context_in (switch_program alloc) (switch_main alloc)) no_types no_types
switch_body-shaped alloc = (
  no_types,
  shaped-block _ _ no_types no_types no_types (record { between = between-none; begins = includes-all no_types; keeps = includes-all no_types; ends = includes-all no_types }) (switch_block-shaped alloc),
  (
    s1,
    (integer.int, (lit< tt, refl), refl, leaves-all no_types 0 (Some an_int) (lit< tt)),
    (
      no_types,
      (refl, ((lit< tt, refl), is-temp 0 (lit< tt), refl), includes-none s1),
      includes-all no_types,
    ),
  ),
)

switch_main-in_shape : (alloc : Global) → IsFunctionInShape (switch_program alloc) (switch_main alloc)
unfolding shape-the_row-Instr-0 hidden-the_row-Instr-0 Carrier.hidden
switch_main-in_shape alloc = record {
  type = (int, lit< tt, refl, inl (lit< tt, refl));
  parameters = lit≤ tt;
  scalars = tt;
  variables = tt;
  body = record { shaped = switch_body-shaped alloc; nested = lit≤ tt };
}

pub switch_program-in_shape : (alloc : Global) → IsWellFormed (switch_program alloc).types → IsInShape (switch_program alloc)
unfolding shape-the_row-Instr-0 hidden-the_row-Instr-0 Carrier.hidden
switch_program-in_shape alloc formed = record {
  formed = formed;
  nodes = each-all (λ e. AreNodesOf 0 e.shape) loop_table (tt, (tt, (tt, (tt, (tt, (tt, (tt, (tt, (tt, (tt, tt))))))))));
  sites = All-nil _;
  statics = All-nil _;
  globals = lit≤ tt;
  initialisers = record { shaped = includes-all no_types; nested = lit≤ tt };
  functions = each-all (IsFunctionInShape (switch_program alloc)) (switch_main alloc ∷ []) (switch_main-in_shape alloc, tt);
  count = lit≤ tt;
  main = (switch_main alloc, refl, (int, refl, (lit< tt, refl)));
  cells = lit≤ tt;
}

-- the object with two types
abbrev r1 : Typing
r1 = with_held (value 0) (Some its_home) no_types

abbrev r2 : Typing
r2 = with_held (value 0) (Some (PointerTo (node 4) int)) r1

abbrev r3 : Typing
r3 = with_held (value 0) (Some (PointerTo (node 3) int)) r2

renamed_start-shaped : (alloc : Global) → AreShaped renamed_start (context_of (renamed_program alloc)) no_types no_types
unfolding physically_equal layout_of cells_at
renamed_start-shaped alloc = (
  r1,
  ((int, refl, inl refl), leaves-all no_types 0 (Some its_home) (lit< tt)),
  (
    r2,
    (
      (lit< tt, lit< tt, (lit< tt, refl), (is-temp 0 (lit< tt), refl), leaves-all r1 0 (Some (PointerTo (node 4) int)) (lit< tt)),
      ((2, lit< tt, refl), ((5, lit< tt, refl), tt)),
    ),
    (
      r3,
      (
        (node 4, node 3, int, int, (lit< tt, refl), (lit< tt, refl), (is-temp 0 (lit< tt), refl), leaves-all r2 0 (Some (PointerTo (node 3) int)) (lit< tt)),
        ((6, lit< tt, refl), tt),
      ),
      (
        no_types,
        (
          (
            ((type 10, refl, inr (refl, listed (type 10) (type 11) (7, lit< tt, refl))), whole (type 11)),
            ((lit< tt, refl), is-temp 0 (lit< tt), refl),
            includes-none r3,
          ),
          tt,
        ),
        includes-all no_types,
      ),
    ),
  ),
)

renamed_body-shaped : (alloc : Global) → AreShaped renamed_body (context_in (renamed_program alloc) (renamed_main alloc)) no_types no_types
renamed_body-shaped alloc = (
  s1,
  (integer.int, (lit< tt, refl), refl, leaves-all no_types 0 (Some an_int) (lit< tt)),
  (
    no_types,
    (refl, ((lit< tt, refl), is-temp 0 (lit< tt), refl), includes-none s1),
    includes-all no_types,
  ),
)

renamed_main-in_shape : (alloc : Global) → IsFunctionInShape (renamed_program alloc) (renamed_main alloc)
renamed_main-in_shape alloc = record {
  type = (int, lit< tt, refl, inl (lit< tt, refl));
  parameters = lit≤ tt;
  scalars = tt;
  variables = tt;
  body = record { shaped = renamed_body-shaped alloc; nested = lit≤ tt };
}

pub renamed_program-in_shape : (alloc : Global) → IsWellFormed (renamed_program alloc).types → IsInShape (renamed_program alloc)
unfolding layout_of
renamed_program-in_shape alloc formed = record {
  formed = formed;
  nodes = each-all (λ e. AreNodesOf 5 e.shape) renamed_table
      (tt, (tt, (tt, (tt, (tt, (tt, (tt, (tt, (tt, (tt, (lit< tt, (lit< tt, (lit< tt, tt)))))))))))));
  sites = each-all (IsSiteInShape (renamed_program alloc).types 5) (renamed_program alloc).sites (
    (lit< tt, lit< tt),
    (
      (lit< tt, lit< tt),
      (
        (lit< tt, lit< tt),
        (
          (lit< tt, lit< tt),
          (
            (lit< tt, lit< tt),
            ((lit< tt, lit< tt), ((lit< tt, lit< tt, lit< tt, lit< tt), ((lit< tt, lit< tt), tt))),
          ),
        ),
      ),
    ),
  );
  statics = each-all (IsStaticInShape (renamed_program alloc)) (renamed_program alloc).statics
      (record { planned = (lit< tt, (lit< tt, refl)); text = tt }, (record { planned = (lit< tt, (lit< tt, refl)); text = tt }, tt));
  globals = lit≤ tt;
  initialisers = record { shaped = renamed_start-shaped alloc; nested = lit≤ tt };
  functions = each-all (IsFunctionInShape (renamed_program alloc)) (renamed_main alloc ∷ []) (renamed_main-in_shape alloc, tt);
  count = lit≤ tt;
  main = (renamed_main alloc, refl, (int, refl, (lit< tt, refl)));
  cells = lit≤ tt;
}

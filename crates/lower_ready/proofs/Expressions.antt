-- The expressions and places of a ready tree have code.
use Rattle.std.proofs.Common.{ℕ, suc, ◌<◌, ◌≤◌, ◌+◌, ◌≡◌, ◌∙◌, refl, ap, sym, subst, Bool, true, false, List, [], ◌∷◌, ◌++◌, length, inl, inr, arith, IsSome, IsTrue}
use Rattle.std.proofs.lemmas.Slice.Zip.{AllZip-long}
use Rattle.cc_base.specs.declared.number.NodeId.{NodeId}
use Rattle.cc_base.specs.declared.number.TypeId.{TypeId}
use Rattle.c_types.specs.Table.{Table}
use Rattle.integers.specs.Arithmetic.{IntegerType, int, unsigned_long}
use Rattle.c_tree.specs.Erasure.{erased, erased_place, erased_arguments}
use Rattle.c_tree.specs.TypedTree as typed
use Rattle.c_tree.specs.TypedTree.{TypedExpr, TypedPlace, TypedArguments}
use Rattle.c_tree.specs.declared.operator.Binary.{Binary}
use Rattle.c_tree.specs.declared.operator.Binary.TheVariants as binary
use Rattle.c_tree.specs.declared.operator.Unary.{Unary}
use Rattle.c_tree.specs.declared.operator.Unary.TheVariants as unary
use Rattle.c_tree.specs.declared.typed_word.Runtime.{Runtime}
use Rattle.c_tree.specs.declared.typed_word.Runtime.TheVariants as function
use Rattle.runtime_calls.specs.Prototypes.{prototype_of}
use Rattle.cc_base.specs.declared.place.Place.{Place}
use Rattle.c_typing.specs.Held.{held, held_by_arguments, count_of}
use Rattle.c_typing.specs.Integers as integers
use Rattle.c_typing.specs.Integers.{is_order, is_equality}
use Rattle.c_ready.specs.Rows as rule
use Rattle.c_ready.specs.Rows.{IsLvalue, AreCompared, IsRuntimeArgument, IsRuntimeCallOf, gives_pointer, listed_arguments}
use Rattle.c_typing.specs.Shapes.{IsIntegerType}
use Rattle.c_ready.specs.Ready.{Stage, IsReady, IsReadyPlace, AreReady, IsObjectOf, IsLiteral}
use Rattle.lower_rules.specs.Words.{Context, comparison_of}
use Rattle.lower_rules.specs.Expressions.{count, IsFixed}
use Rattle.lower_exprs.specs.Ready.{HasCode, HaveCode, HasCodeOfPlace, HasObject, IsConstant, IsComparison, IsPrefix, IsRuntime, IsAllocation}
use Rattle.lower_shape.proofs.Expressions.{held-some, count-same}

-- what code depends on in this stage, with these static objects and variables
abbrev pub low : Stage → List NodeId → List NodeId → Context
low s statics variables = record { table = s.table; statics = statics; variables = variables }

-- what the stage names has a number
pub record Numbers (s : Stage) (k : Context) : Type 0 where
  pub runs : s.runs ≡ true
  pub objects : (home : NodeId) (t : TypeId) → IsObjectOf true s home t → HasObject k home
  pub literals : (home : NodeId) (t : TypeId) → IsLiteral s home t → HasObject k home
  pub constants : (i : IntegerType) (t : TypeId) → IsIntegerType s.table i t → IsConstant k t

-- Operators

-- what can be written is no choice between two structs
fixed : (p : TypedPlace) → IsLvalue p → IsFixed p
fixed (typed.Variable name home t) h = tt
fixed (typed.String pieces home t) h = tt
fixed (typed.ParenPlace at p) h = fixed p h
fixed (typed.Target at e t) h = tt
fixed (typed.Element which a at b t) h = tt
fixed (typed.Member p at name i n t) h = tt
fixed (typed.MemberAt e at name i n t) h = tt
fixed (typed.StructAssign p at q) h = absurd (cc (h))
fixed (typed.StructConditional c at p q) h = absurd (cc (h))
fixed (typed.StructComma e p) h = absurd (cc (h))

prefix : (op : Unary) (T : Table) (at : Place) (e : TypedExpr) (t : TypeId) → rule.IsPrefix op T at e t → IsPrefix op
prefix unary.Plus T at e t h = tt
prefix unary.Minus T at e t h = tt
prefix unary.Complement T at e t h = tt
prefix unary.Not T at e t h = tt
prefix other T at e t h = h

order : (op : Binary) → IsTrue (is_order op) → IsComparison op
unfolding comparison_of
order binary.Less h = refl
order binary.Greater h = refl
order binary.LessEqual h = refl
order binary.GreaterEqual h = refl
order other h = absurd (cc (h))

equality : (op : Binary) → IsTrue (is_equality op) → IsComparison op
unfolding comparison_of
equality binary.Equal h = refl
equality binary.NotEqual h = refl
equality other h = absurd (cc (h))

comparison : (T : Table) (op : Binary) (a : TypedExpr) (at : Place) (b : TypedExpr) → AreCompared T op a at b → IsComparison op
comparison T op a at b (inl h) = order op h.0
comparison T op a at b (inr h) = equality op h.0

-- Calls

length-last : {A : Type 0} (xs : List A) (x : A) → length (xs ++ x ∷ []) ≡ suc (length xs)
length-last [] x = refl
length-last (y ∷ ys) x = ap suc (length-last ys x)

listed-count : (l : TypedArguments) → length (listed_arguments l) ≡ count l
listed-count typed.NoArgument = refl
listed-count (typed.AndArgument all e) = length-last (listed_arguments all) e ∙ ap suc (listed-count all)

-- as many arguments as the prototype has parameters
given : (T : Table) (which : Runtime) (f : TypedExpr) (l : TypedArguments) → IsRuntimeCallOf T which f l
    → count l ≡ length (prototype_of which).parameters
given T which f l h =
    sym (listed-count l) ∙ AllZip-long (IsRuntimeArgument T) (prototype_of which).parameters (listed_arguments l) h.each

runtime : (T : Table) (which : Runtime) (f : TypedExpr) (l : TypedArguments) (t : TypeId) (v : ℕ) → rule.IsRuntimeCall T which f l t
    → suc v + count l < 257 → IsRuntime which (count l) v
runtime T function.Getchar f l t v h m = given T function.Getchar f l h.call
runtime T function.Putchar f l t v h m = let n : count l ≡ 1 = given T function.Putchar f l h.call in (n, omega (arith, m, n))
runtime T function.Free f l t v h m = let n : count l ≡ 1 = given T function.Free f l h.call in (n, omega (arith, m, n))
runtime T function.Exit f l t v h m = let n : count l ≡ 1 = given T function.Exit f l h.call in (n, omega (arith, m, n))
runtime T function.Malloc f l t v h m = h.result
runtime T function.Calloc f l t v h m = h.result

allocates : (T : Table) (which : Runtime) (f : TypedExpr) (l : TypedArguments) (v : ℕ) → IsRuntimeCallOf T which f l
    → IsTrue (gives_pointer (prototype_of which).result) → suc v + count l < 257 → IsAllocation which (count l) v
allocates T function.Malloc f l v h g m = let n : count l ≡ 1 = given T function.Malloc f l h in (n, omega (arith, m, n))
allocates T function.Calloc f l v h g m = let n : count l ≡ 2 = given T function.Calloc f l h in (n, omega (arith, m, n))
allocates T function.Getchar f l v h g m = absurd (cc (g))
allocates T function.Putchar f l v h g m = absurd (cc (g))
allocates T function.Free f l v h g m = absurd (cc (g))
allocates T function.Exit f l v h g m = absurd (cc (g))

module _ (s : Stage) (statics variables : List NodeId) (w : Numbers s (low s statics variables)) where
  abbrev K : Context
  K = low s statics variables

  mutual
    -- `Z` is not used: the functions of a mutual block have to end in one universe
    pub has-code : (e : TypedExpr) (Z : Type 0) (v : ℕ) → IsReady s e → v + held (erased e) ≤ 256 → HasCode e K v
    has-code (typed.Integer of n at t) Z v r m = w.constants (integers.constant_type of) t r
    has-code (typed.Character z at t) Z v r m = w.constants int t r
    has-code (typed.Enumerator name z t) Z v r m = w.constants int t r
    has-code (typed.FunctionName name number n t) Z v r m = tt
    has-code (typed.RuntimeName name function t) Z v r m = r
    has-code (typed.Paren at e) Z v r m = has-code e Z v r (omega (arith, m))
    has-code (typed.Read p) Z v r m = has-place p (Unit {0}) v r.0 m tt
    has-code (typed.Unread p) Z v r m = has-place p (Unit {0}) v r.0 m tt
    has-code (typed.Decay p n t) Z v r m = has-place p (Unit {0}) v r.0 m tt
    has-code (typed.Convert which at t e) Z v r m = (has-code e Z v r.0 m, tt)
    has-code (typed.Cast which at name e) Z v (name-ready, r, fits) m = (has-code e Z v r (omega (arith, m)), tt)
    has-code (typed.AddressOf at p n t) Z v r m = has-place p (Unit {0}) v r.0 (omega (arith, m)) tt
    has-code (typed.AddressOfElement at p t) Z v r m = has-place p (Unit {0}) v r.0 (omega (arith, m)) tt
    has-code (typed.AddressOfFunction at e) Z v r m = has-code e Z v r.0 (omega (arith, m))
    has-code (typed.FunctionAt at e) Z v r m = has-code e Z v r.0 (omega (arith, m))
    has-code (typed.Prefix op at e t) Z v (r, fits) m = (has-code e Z v r (omega (arith, m)), prefix op s.table at e t fits)
    has-code (typed.SizeOfPlace at p n t) Z v (r, whole, size, type) m = w.constants unsigned_long t type
    has-code (typed.SizeOfValue at e n t) Z v (r, whole, size, type) m = w.constants unsigned_long t type
    has-code (typed.SizeOfType at paren name n t) Z v (r, whole, size, type) m = w.constants unsigned_long t type
    has-code (typed.StepBefore which at p) Z v r m = has-place p (suc v < 256) v r.0 (omega (arith, m)) (omega (arith, m))
    has-code (typed.StepAfter p which at) Z v r m = has-place p (suc v < 256) v r.0 (omega (arith, m)) (omega (arith, m))
    has-code (typed.Arithmetic op a at b t) Z v (ra, rb, rest) m =
        (has-code a Z v ra (omega (arith, m)), ((omega (arith, m), has-code b Z (suc v) rb (omega (arith, m))), omega (arith, m)))
    has-code (typed.Moved op which a at b t) Z v r m =
        (has-code a Z v r.0 (omega (arith, m)), ((omega (arith, m), has-code b Z (suc v) r.1 (omega (arith, m))), omega (arith, m)))
    has-code (typed.Difference a at b t) Z v r m =
        (has-code a Z v r.0 (omega (arith, m)), ((omega (arith, m), has-code b Z (suc v) r.1 (omega (arith, m))), omega (arith, m)))
    has-code (typed.Compared op a at b t) Z v (ra, rb, h) m = (
      has-code a Z v ra (omega (arith, m)),
      ((omega (arith, m), has-code b Z (suc v) rb (omega (arith, m))), (omega (arith, m), comparison s.table op a at b h.compared)),
    )
    has-code (typed.Logical op a at b t) Z v (ra, rb, rest) m =
        (has-code a Z v ra (omega (arith, m)), (has-code b Z v rb (omega (arith, m)), tt))
    has-code (typed.Conditional c at a b t) Z v (rc, ra, rb, rest) m =
        (has-code c Z v rc (omega (arith, m)), (has-code a Z v ra (omega (arith, m)), has-code b Z v rb (omega (arith, m))))
    has-code (typed.PointerConditional c at a b n t) Z v r m =
        (has-code c Z v r.0 (omega (arith, m)), (has-code a Z v r.1 (omega (arith, m)), has-code b Z v r.2 (omega (arith, m))))
    has-code (typed.Comma a b) Z v r m = (has-code a Z v r.0 (omega (arith, m)), has-code b Z v r.1 (omega (arith, m)))
    has-code (typed.Assign p at e) Z v (rp, re, lvalue, rest) m = (
      fixed p lvalue,
      (
        has-place p (Unit {0}) v rp (omega (arith, m)) tt,
        ((omega (arith, m), has-code e Z (suc v) re (omega (arith, m))), omega (arith, m)),
      ),
    )
    has-code (typed.AssignWith op p at e u) Z v (rp, re, updated) m = (
      fixed p updated.1,
      (
        has-place p (Unit {0}) v rp (omega (arith, m)) tt,
        ((omega (arith, m), has-code e Z (suc v) re (omega (arith, m))), omega (arith, m)),
      ),
    )
    has-code (typed.Call f at arguments t) Z v r m = (
      has-code f Z v r.0 (omega (arith, m)),
      (have-code arguments Z v r.1 (omega (arith, m)), (omega (arith, m), omega (arith, m, count-same arguments))),
    )
    has-code (typed.CallRuntime which f at arguments t) Z v (ra, call, may) m =
        (have-code arguments Z v ra (omega (arith, m)), runtime s.table which f arguments t v call (omega (arith, m, count-same arguments)))
    has-code (typed.Allocate which f at arguments node t) Z v (ra, there, call, may) m = (
      have-code arguments Z v ra (omega (arith, m)),
      allocates s.table which f arguments v call.call call.gives (omega (arith, m, count-same arguments)),
    )
    has-code (typed.AllocateFor which f at arguments t) Z v (ra, call, whole, may) m = (
      have-code arguments Z v ra (omega (arith, m)),
      allocates s.table which f arguments v call.call call.gives (omega (arith, m, count-same arguments)),
    )

    pub have-code : (l : TypedArguments) (Z : Type 0) (v : ℕ) → AreReady s l → v + held_by_arguments (erased_arguments l) ≤ 256
        → HaveCode l K (suc v)
    have-code typed.NoArgument Z v r m = tt
    have-code (typed.AndArgument all e) Z v r m = (
      have-code all Z v r.0 (omega (arith, m)),
      (
        omega (arith, m, count-same all, held-some (erased e)),
        has-code e Z (suc v + count all) r.1 (omega (arith, m, count-same all)),
      ),
    )

    pub has-place : (p : TypedPlace) (S : Type 0) (v : ℕ) → IsReadyPlace s p → v + held (erased_place p) ≤ 256 → S → HasCodeOfPlace p K v S
    has-place (typed.Variable name home t) S v r m after = (w.objects home t (subst (λ c. IsObjectOf c s home t) w.runs r), after)
    has-place (typed.String pieces home t) S v (r, rest) m after = (w.literals home t r, after)
    has-place (typed.ParenPlace at p) S v r m after = has-place p S v r (omega (arith, m)) after
    has-place (typed.Target at e t) S v r m after = (has-code e S v r.0 (omega (arith, m)), after)
    has-place (typed.Element which a at b t) S v r m after = (
      (has-code a S v r.0 (omega (arith, m)), ((omega (arith, m), has-code b S (suc v) r.1 (omega (arith, m))), omega (arith, m))),
      after,
    )
    has-place (typed.Member p at name i n t) S v (r, rest) m after = (has-place p (Unit {0}) v r (omega (arith, m)) tt, after)
    has-place (typed.MemberAt e at name i n t) S v (r, rest) m after = ((has-code e S v r (omega (arith, m)), tt), after)
    has-place (typed.StructAssign p at q) S v r m after = (
      fixed p r.2,
      (
        has-place p (Unit {0}) v r.0 (omega (arith, m)) tt,
        ((omega (arith, m), has-place q (Unit {0}) (suc v) r.1 (omega (arith, m)) tt), after),
      ),
    )
    has-place (typed.StructConditional c at p q) S v r m after = (
      has-code c S v r.0 (omega (arith, m)),
      (has-place p S v r.1 (omega (arith, m)) after, has-place q S v r.2 (omega (arith, m)) after),
    )
    has-place (typed.StructComma e p) S v r m after =
        (has-code e S v r.0 (omega (arith, m)), has-place p S v r.1 (omega (arith, m)) after)

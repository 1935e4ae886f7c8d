-- Constructs of expressions keep that no function type of the table has more than 127 parameters, and hold no more than 256 values.
use Rattle.std.proofs.Common.{◌≡◌, ℕ, ◌≤◌, ℤ, Bool, true, false, List, Option, Some, None, refl, ◌∙◌, nat_lt, if◌then◌else◌, arith}
use Rattle.std.proofs.lemmas.Bool.Decides.{nat_tests}
use Rattle.cc_base.specs.declared.fault.Fault.{Fault}
use Rattle.cc_base.specs.declared.fault.Fault.TheVariants.{TooLarge}
use Rattle.cc_base.specs.declared.fault.Limit.TheVariants.{Types, Held}
use Rattle.cc_base.specs.declared.number.TypeId.{TypeId}
use Rattle.cc_base.specs.declared.place.Place.{Place}
use Rattle.c_types.specs.declared.shape.TypeShape.{TypeShape}
use Rattle.c_lexer.specs.declared.number.IntegerType.{IntegerType as ConstantType}
use Rattle.c_tree.specs.declared.leaf.Identifier.{Identifier}
use Rattle.c_tree.specs.declared.operator.Binary.{Binary}
use Rattle.c_tree.specs.declared.operator.Step.{Step}
use Rattle.c_tree.specs.declared.operator.Unary.{Unary}
use Rattle.c_tree.specs.declared.operator.Unary.TheVariants as unary
use Rattle.c_tree.specs.TypedTree.{TypedExpr, TypedPlace}
use Rattle.c_typing.specs.declared.typing.Reading.{Reading}
use Rattle.c_typing.specs.declared.typing.Reading.TheVariants as reading
use Rattle.c_typing.specs.Held.{held_with}
use Rattle.c_typing.specs.Judging.{State, Outcome, Judging, Gives, Stops, next, ◌>>=◌, pure, stop, by_known, unless, holding}
use Rattle.c_typing.specs.Operands.{Operand, Value, place_value, raw_value, value_of, value, given_allocation, given}
use Rattle.c_typing.specs.Operations as operations
use Rattle.c_typing.specs.Operations.{construct, leaf, paren, target_of, target, address_behind, address_of_part, address, prefix_of, size_of_part, size, step_part, step_before, step_after, prefix, index, infix_of, numbered, found, member_of, member, member_at_pointer, pointed_member}
use Rattle.c_typing.specs.Tests.{Test, Elaborated, AsPlace, AsValue, AsAllocation, first_broken}
use Rattle.c_unit_limits.proofs.Kept.{Out, Keeps, Kept, IsKept, pure-kept, stop-kept, bind-kept, known-kept}
use Rattle.c_unit_limits.proofs.KeptTypes.{new_node-kept, new_pointer-kept}

-- Values

place_value-kept : (at : Place) (p : TypedPlace) (how : Reading) → IsKept (place_value at p how)
unfolding place_value
place_value-kept at p (reading.Decays element) = bind-kept (new_pointer-kept at element) (λ made. pure-kept (_))
place_value-kept at p reading.Reads = pure-kept (_)
place_value-kept at p reading.Stays = pure-kept (_)
place_value-kept at p reading.Nothing = stop-kept (_)

raw_value-kept : (at : Place) (e : TypedExpr) → IsKept (raw_value at e)
unfolding raw_value
raw_value-kept at e = bind-kept (new_pointer-kept at (_)) (λ made. pure-kept (_))

value_of-kept : (at : Place) (x : Elaborated) → IsKept (value_of at x)
unfolding value_of
value_of-kept at (AsPlace p) = known-kept (λ s. place_value-kept at p (_))
value_of-kept at (AsValue e) = pure-kept e
value_of-kept at (AsAllocation e) = raw_value-kept at e

pub value-kept : (x : Operand) → IsKept (value x)
unfolding value
value-kept x = bind-kept (value_of-kept x.place x.part) (λ e. pure-kept (_))

given_allocation-kept : (t : TypeId) (at : Place) (e : TypedExpr) (b : Bool) → IsKept (given_allocation t at e b)
unfolding given_allocation
given_allocation-kept t at e true = pure-kept (_)
given_allocation-kept t at e false = bind-kept (raw_value-kept at e) (λ v. pure-kept (_))

pub given-kept : (t : TypeId) (at : Place) (x : Elaborated) → IsKept (given t at x)
unfolding given
given-kept t at (AsAllocation e) = known-kept (λ s. given_allocation-kept t at e (_))
given-kept t at (AsPlace p) = bind-kept (value_of-kept at (AsPlace p)) (λ v. pure-kept (_))
given-kept t at (AsValue e) = bind-kept (value_of-kept at (AsValue e)) (λ v. pure-kept (_))

-- Constructs

-- what is known is kept, and the operand that is given holds no more than 256 values
abbrev Fits : Outcome Operand → State → Type 0
Fits m s = Out m (λ o r. Keeps s r × (o.held ≤ 256))

pub record IsFit (p : Judging Operand) : Type 0 where
  pub fits : (s : State) → Fits (p s) s

later_fits : (o : Outcome Operand) (s r : State) → Keeps s r → Fits o r → Fits o s
later_fits (Gives b q) s r h k = ((λ x. k.0.0 (h.0 x), k.0.1 ∙ h.1), k.1)
later_fits (Stops x q) s r h k = tt

next_fits : {A : Type 0} (m : Outcome A) (f : A → Judging Operand) (s : State) → Kept m s → ((a : A) → IsFit (f a)) → Fits (next m f) s
next_fits (Gives a r) f s h g = later_fits (f a r) s r h ((g a).fits r)
next_fits (Stops x r) f s h g = tt

pub bind-fit : {A : Type 0} {p : Judging A} {f : A → Judging Operand} → IsKept p → ((a : A) → IsFit (f a)) → IsFit (p >>= f)
bind-fit {p} {f} h g = record { fits = λ s. next_fits (p s) f s (h.kept s) g }

known-fit : {f : State → Judging Operand} → ((q : State) → IsFit (f q)) → IsFit (by_known f)
known-fit h = record { fits = λ s. (h s).fits s }

kept_of : (o : Outcome Operand) (s : State) → Fits o s → Kept o s
kept_of (Gives b q) s h = h.0
kept_of (Stops x q) s h = tt

pub fit-kept : {p : Judging Operand} → IsFit p → IsKept p
fit-kept {p} h = record { kept = λ s. kept_of (p s) s (h.fits s) }

operand_with : Place → ℕ → Elaborated → Operand
operand_with begin h x = record { part = x; place = begin; held = h }

made_fit : (begin : Place) (h : ℕ) (m : Outcome Elaborated) (s : State) → h ≤ 256 → Kept m s → Fits (next m (λ x. pure (operand_with begin h x))) s
unfolding operand_with
made_fit begin h (Gives x r) s le k = (k, le)
made_fit begin h (Stops f r) s le k = tt

few_when : (n : ℕ) → nat_lt 256 n ≡ false → n ≤ 256
few_when n h = grind (arith, nat_tests)

body_fit : (begin : Place) (n : ℕ) {made : Judging Elaborated} → IsKept made → IsFit (holding begin n >>= (λ h. made >>= (λ x. pure (operand_with begin h x))))
unfolding holding
body_fit begin n {made} k = record { fits = λ s. by s (nat_lt 256 n) (few_when n) }
  where
    by : (s : State) (b : Bool) → (b ≡ false → n ≤ 256)
        → Fits (next (if b then Stops (TooLarge begin Held) s else Gives n s) (λ h. made >>= (λ x. pure (operand_with begin h x)))) s
    by s true le = tt
    by s false le = made_fit begin n (made s) s (le refl) (k.kept s)

unless_fit : (o : Option Fault) (go : Judging Operand) → IsFit go → IsFit (unless o go)
unless_fit None go h = h
unless_fit (Some f) go h = record { fits = λ s. tt }

pub construct-fit : (rules : State → List Test) (begin : Place) (held : List ℕ) {made : Judging Elaborated} → IsKept made → IsFit (construct rules begin held made)
unfolding construct operand_with
construct-fit rules begin held {made} k = record { fits = λ s. (unless_fit (first_broken (rules s)) (_) (body_fit begin (held_with 0 held) k)).fits s }

pub leaf-fit : (at : Place) {made : Judging Elaborated} → IsKept made → IsFit (leaf at made)
unfolding leaf operand_with
leaf-fit at {made} k = record { fits = λ s. made_fit at 1 (made s) s (omega arith) (k.kept s) }

pub integer-fit : (of : ConstantType) (n : ℕ) (at : Place) → IsFit (operations.integer of n at)
unfolding operations.integer
integer-fit of n at = leaf-fit at (pure-kept (_))

pub character-fit : (n : ℤ) (at : Place) → IsFit (operations.character n at)
unfolding operations.character
character-fit n at = leaf-fit at (pure-kept (_))

pub paren-fit : (at : Place) (x : Operand) → IsFit (paren at x)
unfolding paren
paren-fit at x = construct-fit (_) at (_) (pure-kept (_))

target_of-fit : (at : Place) (v : Value) → IsFit (target_of at v)
unfolding target_of
target_of-fit at v = construct-fit (_) at (_) (known-kept (λ s. pure-kept (_)))

target-fit : (at : Place) (x : Operand) → IsFit (target at x)
unfolding target
target-fit at x = bind-fit (value-kept x) (λ v. target_of-fit at v)

address_behind-kept : (at : Place) (p : TypedPlace) (o : Option TypedExpr) → IsKept (address_behind at p o)
unfolding address_behind
address_behind-kept at p (Some e) = pure-kept (_)
address_behind-kept at p None = bind-kept (new_pointer-kept at (_)) (λ made. pure-kept (_))

address_of-kept : (at : Place) (x : Elaborated) → IsKept (address_of_part at x)
unfolding address_of_part
address_of-kept at (AsPlace p) = address_behind-kept at p (_)
address_of-kept at (AsValue e) = pure-kept (_)
address_of-kept at (AsAllocation e) = stop-kept (_)

address-fit : (at : Place) (x : Operand) → IsFit (address at x)
unfolding address
address-fit at x = construct-fit (_) at (_) (address_of-kept at x.part)

prefix_of-fit : (operator : Unary) (at : Place) (v : Value) → IsFit (prefix_of operator at v)
unfolding prefix_of
prefix_of-fit operator at v = construct-fit (_) at (_) (known-kept (λ s. pure-kept (_)))

size_of-kept : (at begin : Place) (x : Elaborated) → IsKept (size_of_part at begin x)
unfolding size_of_part
size_of-kept at begin (AsPlace p) = known-kept (λ s. pure-kept (_))
size_of-kept at begin (AsValue e) = bind-kept (value_of-kept begin (AsValue e)) (λ v. known-kept (λ s. pure-kept (_)))
size_of-kept at begin (AsAllocation e) = bind-kept (value_of-kept begin (AsAllocation e)) (λ v. known-kept (λ s. pure-kept (_)))

size-fit : (at : Place) (x : Operand) → IsFit (size at x)
unfolding size
size-fit at x = construct-fit (_) at (_) (size_of-kept at x.place x.part)

step_part-kept : (made : TypedPlace → TypedExpr) (at : Place) (x : Elaborated) → IsKept (step_part made at x)
unfolding step_part
step_part-kept made at (AsPlace p) = pure-kept (_)
step_part-kept made at (AsValue e) = stop-kept (_)
step_part-kept made at (AsAllocation e) = stop-kept (_)

step_before-fit : (operator : Step) (at : Place) (x : Operand) → IsFit (step_before operator at x)
unfolding step_before
step_before-fit operator at x = construct-fit (_) at (_) (step_part-kept (_) at x.part)

pub step_after-fit : (operator : Step) (at : Place) (x : Operand) → IsFit (step_after operator at x)
unfolding step_after
step_after-fit operator at x = construct-fit (_) x.place (_) (step_part-kept (_) at x.part)

pub prefix-fit : (operator : Unary) (at : Place) (x : Operand) → IsFit (prefix operator at x)
unfolding prefix
prefix-fit unary.Increment at x = step_before-fit (_) at x
prefix-fit unary.Decrement at x = step_before-fit (_) at x
prefix-fit unary.AddressOf at x = address-fit at x
prefix-fit unary.Dereference at x = target-fit at x
prefix-fit unary.Plus at x = bind-fit (value-kept x) (λ v. prefix_of-fit unary.Plus at v)
prefix-fit unary.Minus at x = bind-fit (value-kept x) (λ v. prefix_of-fit unary.Minus at v)
prefix-fit unary.Complement at x = bind-fit (value-kept x) (λ v. prefix_of-fit unary.Complement at v)
prefix-fit unary.Not at x = bind-fit (value-kept x) (λ v. prefix_of-fit unary.Not at v)
prefix-fit unary.SizeOf at x = size-fit at x

pub index-fit : (a : Value) (at : Place) (b : Value) → IsFit (index a at b)
unfolding index
index-fit a at b = construct-fit (_) a.place (_) (known-kept (λ s. pure-kept (_)))

pub infix-fit : (operator : Binary) (a : Value) (at : Place) (b : Value) → IsFit (infix_of operator a at b)
unfolding infix_of
infix-fit operator a at b = construct-fit (_) a.place (_) (known-kept (λ s. pure-kept (_)))

-- Members

if_same : {A : Type 0} (b : Bool) (p q : Judging A) → IsKept p → IsKept q → IsKept (if b then p else q)
if_same true p q h k = h
if_same false p q h k = k

pub numbered-kept : (at : Place) (o : Option ℕ) → IsKept (numbered at o)
unfolding numbered
numbered-kept at None = stop-kept (_)
numbered-kept at (Some i) = if_same (nat_lt i 4294967296) (pure i) (stop (TooLarge at Types)) (pure-kept i) (stop-kept (_))

found-kept : (begin : Place) (x : TypeShape) (name : Identifier) → IsKept (found begin x name)
unfolding found
found-kept begin x name = bind-kept (known-kept (λ s. numbered-kept begin (_))) (λ i. bind-kept (new_node-kept begin) (λ n. pure-kept (_)))

member_of-kept : (begin at : Place) (name : Identifier) (x : Elaborated) → IsKept (member_of begin at name x)
unfolding member_of
member_of-kept begin at name (AsPlace p) = bind-kept (known-kept (λ s. found-kept begin (_) name)) (λ i. known-kept (λ s. pure-kept (_)))
member_of-kept begin at name (AsValue e) = stop-kept (_)
member_of-kept begin at name (AsAllocation e) = stop-kept (_)

pub member-fit : (x : Operand) (at : Place) (name : Identifier) → IsFit (member x at name)
unfolding member
member-fit x at name = construct-fit (_) x.place (_) (member_of-kept x.place at name x.part)

behind_kept : (begin at : Place) (name : Identifier) (e : TypedExpr) (o : Option TypeId) → IsKept (member_at_pointer begin at name e o)
unfolding member_at_pointer
behind_kept begin at name e (Some t) = bind-kept (known-kept (λ s. found-kept begin (_) name)) (λ i. known-kept (λ s. pure-kept (_)))
behind_kept begin at name e None = stop-kept (_)

pub pointed-fit : (v : Value) (at : Place) (name : Identifier) → IsFit (pointed_member v at name)
unfolding pointed_member
pointed-fit v at name = construct-fit (_) v.place (_) (known-kept (λ s. behind_kept v.place at name v.expr (_)))

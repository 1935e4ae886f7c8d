-- Members are given to a type that has none.
use Rattle.std.proofs.Common.{◌≡◌, Bool, true, false, ◌&&◌, nat_lt, length, List, [], ◌∷◌, refl, sym, subst, arith}
use Rattle.std.proofs.lemmas.Bool.Decides.{nat_tests}
use Rattle.cc_base.specs.declared.number.TypeId.{TypeId}
use Rattle.c_types.specs.declared.shape.TypeShape.{TypeShape}
use Rattle.c_types.specs.declared.shape.TypeShape.TheVariants as shape
use Rattle.c_types.specs.Table.{Table, IsType, members_at, shape_at, is_aggregate_shape, is_complete_entry, is_empty}
use Rattle.c_typing.specs.Specifying.{is_definable}
use Rattle.c_typing.specs.Growing.{Grows, HasGrown, HasMoreTypes}
use Rattle.c_typing.specs.Judging.{known}
use Rattle.c_typing.specs.Scopes.{Seen}
use Rattle.c_types.specs.Calls.{with_members}
use Rattle.c_typing.proofs.GrowingLaws.{defined-more, types-grown}

both_hold : (a b : Bool) → (a && b) ≡ true → (a ≡ true) × (b ≡ true)
both_hold true b h = (refl, h)
both_hold false b h = absurd (let e : false ≡ true = h in cc)

within : (T : Table) (t : TypeId) → nat_lt t.0 (length T) ≡ true → IsType T t
within T t h = grind (arith, nat_tests)

without_members : (x : TypeShape) (members : List TypeId) → is_aggregate_shape x ≡ true → is_empty members ≡ true → is_complete_entry x members ≡ false
without_members (shape.Struct n) [] a none = refl
without_members (shape.Union n) [] a none = refl
without_members (shape.Struct n) (m ∷ ms) a none = absurd (let e : false ≡ true = none in cc)
without_members (shape.Union n) (m ∷ ms) a none = absurd (let e : false ≡ true = none in cc)
without_members shape.Void members a none = absurd (let e : false ≡ true = a in cc)
without_members (shape.Integer b s) members a none = absurd (let e : false ≡ true = a in cc)
without_members (shape.Pointer n t) members a none = absurd (let e : false ≡ true = a in cc)
without_members (shape.Array t n) members a none = absurd (let e : false ≡ true = a in cc)
without_members (shape.Function ps r) members a none = absurd (let e : false ≡ true = a in cc)

definable-more : (T : Table) (t : TypeId) (members : List TypeId) → is_definable T t members ≡ true → HasMoreTypes T (with_members T t members)
definable-more T t members h =
    let one = both_hold (nat_lt t.0 (length T)) (_) h in
    let two = both_hold (is_aggregate_shape (shape_at T t)) (_) one.1 in
    let three = both_hold (is_empty (members_at T t)) (_) two.1 in
    defined-more T t members (within T t one.0) (without_members (shape_at T t) (members_at T t) two.0 three.0)

pub defined-grows : (T U : Table) (t : TypeId) (members : List TypeId) (a : Seen) → is_definable T t members ≡ true → U ≡ with_members T t members
    → Grows (known T a) (known U a)
defined-grows T U t members a definable defined any first h =
    subst (λ (V : Table). HasGrown any first (known V a)) (sym defined)
    (types-grown any first T (with_members T t members) a (definable-more T t members definable) h)

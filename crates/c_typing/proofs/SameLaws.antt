-- What is no type of the table reads as `void`: it is the same as another where that is `void` too.
use Rattle.std.proofs.Common.{◌≡◌, ◌≤◌, Bool, true, false, ◌&&◌, length, refl, ap, sym, subst}
use Rattle.std.proofs.lemmas.List.{get_or_past}
use Rattle.cc_base.specs.declared.number.TypeId.{TypeId}
use Rattle.c_types.specs.declared.shape.TypeShape.{TypeShape}
use Rattle.c_types.specs.declared.shape.TypeShape.TheVariants.{Void}
use Rattle.c_types.specs.Table.{Table, Entry, void_entry, shape_at, descend}
use Rattle.c_types.specs.Sameness.{is_same_type, same_step, same_shape}
use Rattle.c_typing.specs.Shapes.{is_void_shape}

shape_outside : (T : Table) (t : TypeId) → length T ≤ t.0 → shape_at T t ≡ Void
shape_outside T t b = ap (λ (e : Entry). e.shape) (get_or_past T t.0 void_entry b)

void_left : (f : TypeId → TypeId → Bool) (y : TypeShape) → same_shape f Void y ≡ is_void_shape y
void_left f Void = refl
void_left f y = refl

void_right : (f : TypeId → TypeId → Bool) (x : TypeShape) → same_shape f x Void ≡ (is_void_shape x && true)
void_right f Void = refl
void_right f x = refl

pub outside_left : (T : Table) (t u : TypeId) → length T ≤ t.0 → is_same_type T t u ≡ (is_void_shape (shape_at T t) && is_void_shape (shape_at T u))
unfolding is_same_type
outside_left T t u b =
    subst (λ (x : TypeShape). same_shape (descend (same_step T) (λ v. false) (length T)) x (shape_at T u) ≡ (is_void_shape x && is_void_shape (shape_at T u)))
    (sym (shape_outside T t b)) (void_left (descend (same_step T) (λ v. false) (length T)) (shape_at T u))

pub outside_right : (T : Table) (t u : TypeId) → length T ≤ u.0 → is_same_type T t u ≡ (is_void_shape (shape_at T t) && is_void_shape (shape_at T u))
unfolding is_same_type
outside_right T t u b =
    subst (λ (y : TypeShape). same_shape (descend (same_step T) (λ v. false) (length T)) (shape_at T t) y ≡ (is_void_shape (shape_at T t) && is_void_shape y))
    (sym (shape_outside T u b)) (void_right (descend (same_step T) (λ v. false) (length T)) (shape_at T t))

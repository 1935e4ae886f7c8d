use Rattle.std.proofs.Common.{◌≡◌, List, [], ◌∷◌, Bool, true, false, cond, None, Some, refl, ap, sym, subst, ◌∙◌, inl, inr, true≢false, zero, suc, arith}
use Rattle.std.specs.List.{Contains}
use Rattle.std.specs.Map.{lookup}
use Rattle.std.specs.Option.{option_copied}
use Rattle.std.proofs.lemmas.Map.{NonePasses, none_passes_from_lookup}
use Rattle.indexmap.proofs.CallerLemmas.{insert_entry-new}
use Rattle.cc_base.specs.declared.number.TypeId.{TypeId}
use Rattle.c_types.specs.declared.shape.TypeShape.{TypeShape}
use Rattle.c_types.specs.Kept.{KnownShape}
use Rattle.c_types.proofs.Lists.{contains_head, contains_tail}
use Rattle.c_types.proofs.Shapes.{shape_eq, same_shape, own_shape}
use Rattle.c_types.proofs.canonical.first_with.Goals as goal

known_there : (known : List KnownShape) (shape : TypeShape) (t : TypeId) → lookup (shape_eq shape) known ≡ Some t → Contains {X = KnownShape} known (shape, t)
known_there [] shape t h = absurd (cc)
known_there (e ∷ es) shape t h = by (shape_eq shape e.0) refl h (known_there es shape t)
  where
    by : (b : Bool) → shape_eq shape e.0 ≡ b → cond b (Some e.1) (lookup (shape_eq shape) es) ≡ Some t
        → (lookup (shape_eq shape) es ≡ Some t → Contains {X = KnownShape} es (shape, t)) → Contains {X = KnownShape} (e ∷ es) (shape, t)
    by true s k later =
        let v : e.1 ≡ t = cc in
        subst (λ (p : KnownShape). Contains {X = KnownShape} (e ∷ es) p) (λ i. (sym (same_shape shape e.0 s) i, v i)) (contains_head e es)
    by false s k later = contains_tail e es (shape, t) (later k)

not_there : (known : List KnownShape) (shape : TypeShape) → NonePasses (shape_eq shape) known → (u : TypeId) → Contains {X = KnownShape} known (shape, u) → ⊥
not_there [] shape n u (i, b, e) = absurd (omega (arith, b))
not_there (p ∷ es) shape n u (zero, b, e) = true≢false (sym (own_shape shape) ∙ ap (shape_eq shape) (sym (ap (λ (q : KnownShape). q.0) e)) ∙ n.0)
not_there (p ∷ es) shape n u (suc i, b, e) = not_there es shape n.1 u (i, omega (arith, b), e)

pub returns-in-Some-clause-found : goal.returns-in-Some-clause-found
returns-in-Some-clause-found c =
    inl (known_there c.args.known.now.entries c.args.shape c.in-Some.first.now (sym c.get.ensures.value ∙ ap option_copied c.in-Some.is), refl)

none : (c : goal.In_ok-insert) → lookup (shape_eq c.args.shape) c.args.known.now.entries ≡ None
none c = sym c.get.ensures.value ∙ ap option_copied c.in_default.is

pub returns-clause-found : goal.returns-clause-found
returns-clause-found c =
    inr (
      not_there c.args.known.now.entries c.args.shape (none_passes_from_lookup (shape_eq c.args.shape) c.args.known.now.entries (none c)),
      refl,
      c.in_ok-insert.ensures.entries ∙ insert_entry-new shape_eq c.args.known.now c.args.shape c.args.t (none c),
    )

-- The objects that a ready tree names are those that its code names: the plan at an object's number has the home and the type.
use Rattle.std.proofs.Common.{ℕ, suc, ◌<◌, ◌+◌, ◌≡◌, ◌⊎◌, inl, inr, refl, ap, ◌∙◌, sym, subst, Bool, true, false, cond, not, nat_lt, length, List, [], ◌∷◌, map, arith, Option, Some, None, slice_get, ◌==◌}
use Rattle.std.specs.List.{position, position_or_len}
use Rattle.std.proofs.lemmas.Bool.Decides.{nat_tests}
use Rattle.cc_base.specs.declared.number.NodeId.{NodeId}
use Rattle.cc_base.specs.declared.number.TypeId.{TypeId}
use Rattle.c_ready.specs.Ready.{Stage}
use Rattle.src_mem.specs.Memory.{Planned}
use Rattle.src_machine.specs.World.{same_node}
use Rattle.cil_form.specs.declared.number.Object.{Object}
use Rattle.cil_form.specs.declared.number.Object.TheVariants as object
use Rattle.cil_form.specs.Typing.{no_types, IsObject, IsNamedAs, plan_of}
use Rattle.lower_rules.specs.Words.{object_in, object_by}
use Rattle.lower_shape.specs.Stands.{Frame, stand, low}
use Rattle.lower_shape.proofs.Addresses.{In}
use Rattle.lower_shape.proofs.Expressions.{some-same}
use Rattle.lower_shape.proofs.Parts.{lt-below}

node-same : (m n : NodeId) → same_node m n ≡ true → m ≡ n
node-same m n h = ap (λ (z : ℕ). record { 0 = z }) (same m.0 n.0 h)
  where
    same : (a b : ℕ) → (a == b) ≡ true → a ≡ b
    same a b g = grind (arith, nat_tests, g)

node-self : (n : NodeId) → same_node n n ≡ true
node-self n = same n.0
  where
    same : (a : ℕ) → (a == a) ≡ true
    same a = grind (arith, nat_tests)

-- Positions

abbrev homes : List Planned → List NodeId
homes plans = map (λ o. o.node) plans

abbrev place : NodeId → List Planned → ℕ
place h plans = position_or_len (same_node h) (homes plans)

-- the plan with this number has this home
abbrev IsFound : NodeId → List Planned → ℕ → Type 0
IsFound h plans n = (p : Planned) × (slice_get plans n ≡ Some p) × (p.node ≡ h) × In p plans

found-step : (h : NodeId) (p : Planned) (plans : List Planned) (b : Bool) → same_node h p.node ≡ b
    → (place h plans < length (homes plans) → IsFound h plans (place h plans))
    → cond (not b) (1 + place h plans) 0 < suc (length (homes plans)) → IsFound h (p ∷ plans) (cond (not b) (1 + place h plans) 0)
found-step h p plans true g k l = (p, refl, sym (node-same h p.node g), inl refl)
found-step h p plans false g k l =
    let r = k (omega (arith, l)) in (r.0, ap (λ n. slice_get (p ∷ plans) n) (plus-one (place h plans)) ∙ r.1, r.2, inr r.3)
  where
    plus-one : (n : ℕ) → 1 + n ≡ suc n
    plus-one n = omega arith

found : (h : NodeId) (plans : List Planned) → place h plans < length (homes plans) → IsFound h plans (place h plans)
found h [] l = absurd (omega (arith, l))
found h (p ∷ plans) l = found-step h p plans (same_node h p.node) refl (found h plans) l

-- a plan with this home is found
here-step : (h : NodeId) (x : Planned) (plans : List Planned) (b : Bool) → place h plans < length (homes plans)
    → cond (not b) (1 + place h plans) 0 < suc (length (homes plans))
here-step h x plans true l = omega arith
here-step h x plans false l = omega (arith, l)

here : (h : NodeId) (plans : List Planned) (p : Planned) → In p plans → p.node ≡ h → place h plans < length (homes plans)
here h [] p q g = absurd q
here h (x ∷ plans) p (inl q) g = subst (λ b. cond (not b) (1 + place h plans) 0 < suc (length (homes plans))) (sym same) (omega arith)
  where
    same : same_node h x.node ≡ true
    same = subst (λ (z : NodeId). same_node h z ≡ true) (sym g ∙ ap (λ (z : Planned). z.node) q) (node-self h)
here h (x ∷ plans) p (inr q) g = here-step h x plans (same_node h x.node) (here h plans p q g)

below-lt : (n t : ℕ) → n < t → nat_lt n t ≡ true
below-lt n t q = grind (arith, nat_tests, q)

at-place : (h : NodeId) (plans : List Planned) (i : ℕ) → position (same_node h) (homes plans) ≡ Some i → IsFound h plans i
at-place h plans i e = by (nat_lt (place h plans) (length (homes plans))) refl e
  where
    by : (b : Bool) → nat_lt (place h plans) (length (homes plans)) ≡ b → cond b (Some (place h plans)) None ≡ Some i → IsFound h plans i
    by true g r =
        subst (λ n. IsFound h plans n) (some-same (place h plans) i r) (found h plans (lt-below (place h plans) (length (homes plans)) g))
    by false g r = absurd (cc (r))

missed : (h : NodeId) (plans : List Planned) (p : Planned) → position (same_node h) (homes plans) ≡ None → In p plans → p.node ≡ h → ⊥
missed h plans p e q g =
    absurd (cc (ap (λ b. cond b (Some (place h plans)) None) (below-lt (place h plans) (length (homes plans)) (here h plans p q g)), e))

-- Objects

-- no two objects that code may name have one home
pub record AreApart (f : Frame) : Type 0 where
  pub variables : (p q : Planned) → In p f.variables → In q f.variables → p.node ≡ q.node → p ≡ q
  pub statics : (p q : Planned) → In p f.statics → In q f.statics → p.node ≡ q.node → p ≡ q
  pub between : (p q : Planned) → In p f.variables → In q f.statics → p.node ≡ q.node → ⊥

-- a variable of this home and type, or a static object that may be named with the type
abbrev pub IsPlanned : Stage → Frame → NodeId → TypeId → Type 0
IsPlanned s f h t = In (record { type = t; node = h }) f.variables
    ⊎ ((first : TypeId) × In (record { type = first; node = h }) f.statics × IsNamedAs (stand s f 0 no_types) first t)

pub objects-known : (s : Stage) (f : Frame) → AreApart f
    → (o : Object) (h : NodeId) (t : TypeId) → object_in (low s f) h ≡ Some o → IsPlanned s f h t → IsObject (stand s f 0 no_types) o h t
objects-known s f apart o h t e planned =
    by (position (same_node h) (homes f.variables)) (position (same_node h) (homes f.statics)) refl refl e planned
  where
    variable : (i : ℕ) → IsFound h f.variables i → Some (object.Variable (record { 0 = i })) ≡ Some o
        → In (record { type = t; node = h }) f.variables → IsObject (stand s f 0 no_types) o h t
    variable i k r q = (
      t,
      subst (λ z. plan_of (stand s f 0 no_types) z ≡ Some (record { type = t; node = h })) (some-same (object.Variable (record { 0 = i })) o r)
          (k.1 ∙ ap (λ z. Some z) (apart.variables k.0 (record { type = t; node = h }) k.3 q k.2)),
      inl refl,
    )

    static : (i : ℕ) (first : TypeId) → IsFound h f.statics i → Some (object.Static (record { 0 = i })) ≡ Some o
        → In (record { type = first; node = h }) f.statics → IsNamedAs (stand s f 0 no_types) first t → IsObject (stand s f 0 no_types) o h t
    static i first k r q l = (
      first,
      subst (λ z. plan_of (stand s f 0 no_types) z ≡ Some (record { type = first; node = h })) (some-same (object.Static (record { 0 = i })) o r)
          (k.1 ∙ ap (λ z. Some z) (apart.statics k.0 (record { type = first; node = h }) k.3 q k.2)),
      l,
    )

    by : (v c : Option ℕ) → position (same_node h) (homes f.variables) ≡ v → position (same_node h) (homes f.statics) ≡ c
        → object_by v c ≡ Some o → IsPlanned s f h t → IsObject (stand s f 0 no_types) o h t
    by (Some i) c g l r (inl q) = variable i (at-place h f.variables i g) r q
    by (Some i) c g l r (inr q) =
        let k = at-place h f.variables i g in absurd (apart.between k.0 (record { type = q.0; node = h }) k.3 q.1 k.2)
    by None c g l r (inl q) = absurd (missed h f.variables (record { type = t; node = h }) g q refl)
    by None (Some i) g l r (inr q) = static i q.0 (at-place h f.statics i l) r q.1 q.2
    by None None g l r (inr q) = absurd (cc (r))

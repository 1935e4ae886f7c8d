-- Updates of places: stores, assignments, steps, compound assignments and copies of structs.
use Rattle.std.proofs.Common.{ℕ, suc, ◌≡◌, refl, ap, ◌∙◌, sym, subst, pos, Bool, true, false, List, [], ◌∷◌, ◌++◌, arith}
use Rattle.cc_base.specs.declared.number.NodeId.{NodeId}
use Rattle.cc_base.specs.declared.number.TypeId.{TypeId}
use Rattle.cc_base.specs.declared.place.Place.{Place}
use Rattle.runs.specs.Outcome.{done, from, Matches, ◌>>=◌}
use Rattle.runs.proofs.RunLaws.{from-from, from-done, matches-left}
use Rattle.integers.specs.Arithmetic as integer
use Rattle.src_mem.specs.Pointers.{Value, Integer}
use Rattle.src_mem.specs.State.{State, Act}
use Rattle.src_mem.specs.Values.{calculated, moved_value, converted_integer, loaded, stored, copied}
use Rattle.src_machine.specs.World.{World}
use Rattle.src_machine.specs.Expressions.{Where, stands, updated_where, converted_unless, same_type, is_subtract}
use Rattle.cil_form.specs.declared.number.Temp.{Temp}
use Rattle.cil_form.specs.declared.number.Temp.TheVariants as temp
use Rattle.cil_form.specs.declared.instr.Operator.{Operator}
use Rattle.cil_form.specs.declared.instr.Set.TheVariants as set
use Rattle.cil_form.specs.declared.instr.Calculate.TheVariants as calculate
use Rattle.cil_form.specs.declared.instr.Point.TheVariants as point
use Rattle.cil_form.specs.declared.instr.Convert.TheVariants as convert
use Rattle.cil_form.specs.declared.instr.Access.TheVariants as access
use Rattle.cil_form.specs.declared.instr.Target.TheVariants as target
use Rattle.cil_form.specs.declared.instr.Instr.{Instr}
use Rattle.cil_form.specs.declared.instr.Instr.TheVariants as instr
use Rattle.cil_form.specs.State.{Temporaries, gives_to}
use Rattle.cil_form.specs.Meaning.{run, operator_of}
use Rattle.cil_form.specs.Laws.{IsBelow, AreKept}
use Rattle.cil_form.specs.Computes.{EndsAlike, Held}
use Rattle.cil_form.proofs.ComputesLaws.{then-code}
use Rattle.cil_form.proofs.InstructionLaws.{Relation, at, then-value, then-effect, last-value, no-code, kept-value, kept-lower, kept-then, kept-same}
use Rattle.lower_rules.specs.declared.after.After.TheVariants as after
use Rattle.lower_rules.specs.Pieces.{Form, Line, Then}
use Rattle.lower_rules.specs.Words.{value, work, convert_code, update_code, step_code, store_code, stepping, updating, step_result, direction_of, Follows}
use Rattle.lower_means.proofs.Operators.{same-direction, same-type}
use Rattle.lower_means.proofs.Forms.{around_of, Into, Finishes, All, AllLocate}

-- a value is stored at the address in value t, and is the result
pub store-copy : (w : World) (n : NodeId) (ty : TypeId) (own place : Place) (a b : Temp) (t : ℕ) (s : State) (S T : Temporaries)
    → AreKept (IsBelow t) S T
    → Matches (Held (value t) (IsBelow t) S) EndsAlike (from (stored w.setting own place n ty (T (value t)) (T a) s) (λ _. done (T b)))
    (run (store_code n ty own place t a b) (around_of w) (at s T))
store-copy w n ty own place a b t s S T kept =
    then-effect (Held (value t) (IsBelow t) S) (stored w.setting own place n ty (T (value t)) (T a))
    (instr.Access (access.Store (target.Pointer (value t) n) a ty own place))
    (instr.Set (set.Copy (value t) b) ∷ []) (around_of w) s T (done (T b)) refl
    (λ r. last-value t (done (T b)) (instr.Set (set.Copy (value t) b)) (around_of w) r S T refl kept)

not-below : (t : ℕ) → IsBelow t (temp.Value t) → ⊥
not-below t h = absurd (omega (arith, h))

-- a value in value k that is converted where it has to be
then-convert : (R : Relation Value) (b : Bool) (k : ℕ) (u : TypeId) (is : List Instr) (w : World) (s : State) (T : Temporaries)
    (f : Value → Act Value)
    → ((U : Temporaries) (r : State) → AreKept (IsBelow k) T U → Matches R EndsAlike (f (U (value k)) r) (run is (around_of w) (at r U)))
    → Matches R EndsAlike (from (converted_unless b w u (T (value k)) s) f) (run (convert_code b (value k) u is) (around_of w) (at s T))
then-convert R true k u is w s T f next = next T s (kept-same (IsBelow k) T)
then-convert R false k u is w s T f next =
    then-value R (value k) (IsBelow k) (converted_integer w.setting u (T (value k))) (instr.Convert (convert.Integer (value k) (value k) u)) is
    (around_of w) s T f refl (not-below k) next

pub then-update : (R : Relation Value) (pointer : Bool) (o : Operator) (p : integer.Operator) → operator_of o ≡ p
    → (k : ℕ) (ty u : TypeId) (place : Place) (is : List Instr) (w : World) (s : State) (T : Temporaries) (f : Value → Act Value)
    → ((U : Temporaries) (r : State) → AreKept (IsBelow (suc k)) T U → Matches R EndsAlike (f (U (value (suc k))) r) (run is (around_of w) (at r U)))
    → Matches R EndsAlike (from (updated_where pointer w place p ty u (T (value (suc k))) (T (value k)) s) f)
    (run (update_code pointer (is_subtract p) o (value (suc k)) (value k) ty u place is) (around_of w) (at s T))
then-update R true o p e k ty u place is w s T f next =
    then-value R (value (suc k)) (IsBelow (suc k)) (moved_value w.setting place (is_subtract p) ty (T (value (suc k))) (T (value k)))
    (instr.Point (point.Move (value (suc k)) (value (suc k)) (value k) (direction_of (is_subtract p)) ty place)) is (around_of w) s T f
    (ap (λ b. gives_to (value (suc k)) (moved_value w.setting place b ty (T (value (suc k))) (T (value k))) (at s T))
    (same-direction (is_subtract p))) (not-below (suc k)) next
then-update R false o p e k ty u place is w s T f next =
    matches-left R EndsAlike (from (from (converted_unless (same_type ty u) w u (T (value (suc k))) s) G) f)
    (from (converted_unless (same_type ty u) w u (T (value (suc k))) s) (λ x r. from (G x r) f)) (run C (around_of w) (at s T))
    (from-from (converted_unless (same_type ty u) w u (T (value (suc k))) s) G f)
    (then-convert R (same_type ty u) (suc k) u (I ∷ convert_code (same_type ty u) (value (suc k)) ty is) w s T (λ x r. from (G x r) f)
    (λ U r kept. matches-left R EndsAlike
    (from (from (calculated w.setting place p u (U (value (suc k))) (T (value k)) r) (λ z. converted_unless (same_type ty u) w ty z)) f)
    (from (calculated w.setting place p u (U (value (suc k))) (T (value k)) r) (λ z q. from (converted_unless (same_type ty u) w ty z q) f))
    (run (I ∷ convert_code (same_type ty u) (value (suc k)) ty is) (around_of w) (at r U))
    (from-from (calculated w.setting place p u (U (value (suc k))) (T (value k)) r) (λ z. converted_unless (same_type ty u) w ty z) f)
    (subst (λ a. Matches R EndsAlike (from (calculated w.setting place p u (U (value (suc k))) a r)
    (λ z q. from (converted_unless (same_type ty u) w ty z q) f))
    (run (I ∷ convert_code (same_type ty u) (value (suc k)) ty is) (around_of w) (at r U))) (kept-value k T U kept)
    (then-value R (value (suc k)) (IsBelow (suc k)) (calculated w.setting place p u (U (value (suc k))) (U (value k))) I
    (convert_code (same_type ty u) (value (suc k)) ty is) (around_of w) r U (λ z q. from (converted_unless (same_type ty u) w ty z q) f)
    (ap (λ z. gives_to (value (suc k)) (calculated w.setting place z u (U (value (suc k))) (U (value k))) (at r U)) e) (not-below (suc k))
    (λ V q more. then-convert R (same_type ty u) (suc k) ty is w q V f
    (λ W z last. next W z (kept-then (IsBelow (suc k)) T V W (kept-then (IsBelow (suc k)) T U V kept more) last)))))))
  where
    G : Value → Act Value
    G = λ x r. from (calculated w.setting place p u x (T (value k)) r) (λ z. converted_unless (same_type ty u) w ty z)

    I : Instr
    I = instr.Calculate (calculate.Binary (value (suc k)) o (value (suc k)) (value k) u place)

    C : List Instr
    C = convert_code (same_type ty u) (value (suc k)) u (I ∷ convert_code (same_type ty u) (value (suc k)) ty is)

updated-own : (b : Bool) → b ≡ true → (w : World) (place : Place) (p : integer.Operator) (ty : TypeId) (a v : Value) (s : State)
    → from (converted_unless b w ty a s)
    (λ x r. from (calculated w.setting place p ty x v r) (λ z. converted_unless b w ty z)) ≡ calculated w.setting place p ty a v s
updated-own true e w place p ty a v s = from-done (calculated w.setting place p ty a v s)
updated-own false e w place p ty a v s = absurd (cc (e))

pub then-step : (R : Relation Value) (pointer : Bool) (o : Operator) (p : integer.Operator) → operator_of o ≡ p
    → (k : ℕ) (ty : TypeId) (place : Place) (is : List Instr) (w : World) (s : State) (T : Temporaries) (f : Value → Act Value)
    → ((U : Temporaries) (r : State) → AreKept (IsBelow (suc k)) T U → Matches R EndsAlike (f (U work) r) (run is (around_of w) (at r U)))
    → Matches R EndsAlike (from (updated_where pointer w place p ty ty (T (value k)) (Integer (pos 1)) s) f)
    (run (step_code pointer (is_subtract p) o (value k) ty place is) (around_of w) (at s T))
then-step R true o p e k ty place is w s T f next =
    then-value R work (IsBelow (suc k)) (done (Integer (pos 1))) (instr.Set (set.Integer work (pos 1) (record { 0 = 5 }))) (I ∷ is) (around_of w) s T
    (λ i r. from (moved_value w.setting place (is_subtract p) ty (T (value k)) i r) f) refl (λ h. h)
    (λ U r kept. subst (λ a. Matches R EndsAlike (from (moved_value w.setting place (is_subtract p) ty a (U work) r) f)
    (run (I ∷ is) (around_of w) (at r U))) (kept-value k T U kept)
    (then-value R work (IsBelow (suc k)) (moved_value w.setting place (is_subtract p) ty (U (value k)) (U work)) I is (around_of w) r U f
    (ap (λ b. gives_to work (moved_value w.setting place b ty (U (value k)) (U work)) (at r U)) (same-direction (is_subtract p))) (λ h. h)
    (λ V q more. next V q (kept-then (IsBelow (suc k)) T U V kept more))))
  where
    I : Instr
    I = instr.Point (point.Move work (value k) work (direction_of (is_subtract p)) ty place)
then-step R false o p e k ty place is w s T f next =
    matches-left R EndsAlike (from (updated_where false w place p ty ty (T (value k)) (Integer (pos 1)) s) f)
    (from (calculated w.setting place p ty (T (value k)) (Integer (pos 1)) s) f)
    (run (instr.Set (set.Integer work (pos 1) ty) ∷ I ∷ is) (around_of w) (at s T))
    (ap (λ m. from m f) (updated-own (same_type ty ty) (same-type ty) w place p ty (T (value k)) (Integer (pos 1)) s))
    (then-value R work (IsBelow (suc k)) (done (Integer (pos 1))) (instr.Set (set.Integer work (pos 1) ty)) (I ∷ is) (around_of w) s T
    (λ i r. from (calculated w.setting place p ty (T (value k)) i r) f) refl (λ h. h)
    (λ U r kept. subst (λ a. Matches R EndsAlike (from (calculated w.setting place p ty a (U work) r) f) (run (I ∷ is) (around_of w) (at r U)))
    (kept-value k T U kept)
    (then-value R work (IsBelow (suc k)) (calculated w.setting place p ty (U (value k)) (U work)) I is (around_of w) r U f
    (ap (λ z. gives_to work (calculated w.setting place z ty (U (value k)) (U work)) (at r U)) e) (λ h. h)
    (λ V q more. next V q (kept-then (IsBelow (suc k)) T U V kept more)))))
  where
    I : Instr
    I = instr.Calculate (calculate.Binary work o (value k) work ty place)

-- Assignments

pub assigns : (w : World) (P Q : Form) (m : Act Where) (n : Act Value) (t : ℕ) (ty : TypeId) (own place : Place)
    → All w P n (suc t) → AllLocate w Q m t (λ k. Then P (Line (store_code k ty own place t (value (suc t)) (value (suc t)))))
    → All w Q (λ s. from (m s) (λ l r. from (n r) (λ v u. from (stored w.setting own place l.node ty l.address v u) (λ _. done v)))) t
unfolding Then Line
assigns w P Q m n t ty own place h l code given = record {
  by = λ s T. l code given t t T (λ l r. from (n r) (λ v u. from (stored w.setting own place l.node ty l.address v u) (λ _. done v))) s T
      (λ k c d U r kept. subst (λ z. Matches (Into t t T) EndsAlike (from (n r) (F k (U (value t)))) (run z (around_of w) (at r U)))
      (sym (d.4 ∙ ap (λ z. d.0 ++ z) d.3))
      (then-code (Into t t T) d.0 (store_code k ty own place t (value (suc t)) (value (suc t))) (around_of w) (value (suc t)) (IsBelow (suc t)) (n r)
      (at r U) U (F k (U (value t))) ((h d.0 d.2).by r U)
      (λ V u more. subst (λ a. Matches (Into t t T) EndsAlike (F k a (V (value (suc t))) u)
      (run (store_code k ty own place t (value (suc t)) (value (suc t))) (around_of w) (at u V)))
      (kept-value t U V more)
      (store-copy w k ty own place (value (suc t)) (value (suc t)) t u T V (kept-then (IsBelow t) T U V kept (kept-lower t U V more))))));
}
  where
    F : NodeId → Value → Value → Act Value
    F = λ k a v u. from (stored w.setting own place k ty a v u) (λ _. done v)

-- Steps

-- the value before the step, or after it
abbrev pub picked : Bool → Value → Value → Value
picked true old new = old
picked false old new = new

-- what a step does at an address with this node
abbrev pub step_at : World → Bool → integer.Operator → TypeId → Place → Place → Bool → NodeId → Value → Act Value
step_at w pointer p ty own place before n a r =
    from (loaded w.setting own n ty a r) (λ old u. from (updated_where pointer w place p ty ty old (Integer (pos 1)) u)
    (λ new q. from (stored w.setting own place n ty a new q) (λ _. done (picked before old new))))

pub steps : (w : World) (t : ℕ) (pointer : Bool) (o : Operator) (p : integer.Operator) → operator_of o ≡ p
    → (ty : TypeId) (own place : Place) (before : Bool)
    (n : NodeId) → Finishes w (Line (stepping pointer o (is_subtract p) (step_result before t) n ty own place t))
    (step_at w pointer p ty own place before n) t
unfolding Line
steps w t pointer o p e ty own place before n c h r U =
    subst (λ z. Matches (Into t t U) EndsAlike (step_at w pointer p ty own place before n (U (value t)) r) (run z (around_of w) (at r U))) (sym h)
    (then-value (Into t t U) (value (suc t)) (IsBelow (suc t)) (loaded w.setting own n ty (U (value t)))
    (instr.Access (access.Load (value (suc t)) (value t) n ty own)) (step_code pointer (is_subtract p) o (value (suc t)) ty place rest)
    (around_of w) r U
    (λ old u. from (updated_where pointer w place p ty ty old (Integer (pos 1)) u) (λ new q. from (S new q) (λ _. done (picked before old new))))
    refl (not-below (suc t))
    (λ V u more. then-step (Into t t U) pointer o p e (suc t) ty place rest w u V
    (λ new q. from (S new q) (λ _. done (picked before (V (value (suc t))) new)))
    (λ W z last. ended before V W z more last)))
  where
    rest : List Instr
    rest = store_code n ty own place t work (step_result before t)

    S : Value → Act (Unit {0})
    S = stored w.setting own place n ty (U (value t))

    ended : (before : Bool) (V W : Temporaries) (z : State) → AreKept (IsBelow (suc t)) U V → AreKept (IsBelow (suc (suc t))) V W
        → Matches (Into t t U) EndsAlike (from (S (W work) z) (λ _. done (picked before (V (value (suc t))) (W work))))
        (run (store_code n ty own place t work (step_result before t)) (around_of w) (at z W))
    ended true V W z more last =
        subst (λ a. Matches (Into t t U) EndsAlike (from (stored w.setting own place n ty a (W work) z) (λ _. done (V (value (suc t)))))
        (run (store_code n ty own place t work (value (suc t))) (around_of w) (at z W))) (last (value t) (omega arith) ∙ kept-value t U V more)
        (subst (λ b. Matches (Into t t U) EndsAlike (from (stored w.setting own place n ty (W (value t)) (W work) z) (λ _. done b))
        (run (store_code n ty own place t work (value (suc t))) (around_of w) (at z W))) (kept-value (suc t) V W last)
        (store-copy w n ty own place work (value (suc t)) t z U W
        (kept-then (IsBelow t) U V W (kept-lower t U V more) (kept-lower t V W (kept-lower (suc t) V W last)))))
    ended false V W z more last =
        subst (λ a. Matches (Into t t U) EndsAlike (from (stored w.setting own place n ty a (W work) z) (λ _. done (W work)))
        (run (store_code n ty own place t work work) (around_of w) (at z W))) (last (value t) (omega arith) ∙ kept-value t U V more)
        (store-copy w n ty own place work work t z U W
        (kept-then (IsBelow t) U V W (kept-lower t U V more) (kept-lower t V W (kept-lower (suc t) V W last))))

-- Compound assignments

pub assigns-with : (w : World) (P Q : Form) (m : Act Where) (d : Act Value) (t : ℕ) (pointer : Bool) (o : Operator) (p : integer.Operator)
    → operator_of o ≡ p → (ty u : TypeId) (own place : Place)
    → All w P d (suc t) → AllLocate w Q m t (λ n. Then P (Line (updating pointer o (is_subtract p) n ty u own place t)))
    → All w Q (λ s. from (m s) (λ l r. from (d r) (λ v b. from (loaded w.setting own l.node ty l.address b)
    (λ old a. from (updated_where pointer w place p ty u old v a)
    (λ new q. from (stored w.setting own place l.node ty l.address new q) (λ _. done new)))))) t
unfolding Then Line
assigns-with w P Q m d t pointer o p e ty u own place g h code given = record {
  by = λ s T. h code given t t T (λ l r. from (d r) (F l.node l.address)) s T
      (λ n c q U r kept. subst (λ z. Matches (Into t t T) EndsAlike (from (d r) (F n (U (value t)))) (run z (around_of w) (at r U)))
      (sym (q.4 ∙ ap (λ z. q.0 ++ z) q.3))
      (then-code (Into t t T) q.0 (updating pointer o (is_subtract p) n ty u own place t) (around_of w) (value (suc t)) (IsBelow (suc t)) (d r)
      (at r U) U
      (F n (U (value t))) ((g q.0 q.2).by r U)
      (λ V b more. subst (λ x. Matches (Into t t T) EndsAlike (F n x (V (value (suc t))) b)
      (run (updating pointer o (is_subtract p) n ty u own place t) (around_of w) (at b V))) (kept-value t U V more)
      (then-value (Into t t T) (value (suc (suc t))) (IsBelow (suc (suc t))) (loaded w.setting own n ty (V (value t)))
      (instr.Access (access.Load (value (suc (suc t))) (value t) n ty own))
      (update_code pointer (is_subtract p) o (value (suc (suc t))) (value (suc t)) ty u place (E n)) (around_of w) b V
      (G n (V (value t)) (V (value (suc t)))) refl (not-below (suc (suc t)))
      (λ W c last. subst (λ x. Matches (Into t t T) EndsAlike (G n (V (value t)) x (W (value (suc (suc t)))) c)
      (run (update_code pointer (is_subtract p) o (value (suc (suc t))) (value (suc t)) ty u place (E n)) (around_of w) (at c W)))
      (kept-value (suc t) V W last)
      (then-update (Into t t T) pointer o p e (suc t) ty u place (E n) w c W
      (λ new q. from (stored w.setting own place n ty (V (value t)) new q) (λ _. done new))
      (λ X z end. subst (λ x. Matches (Into t t T) EndsAlike (from (stored w.setting own place n ty x (X (value (suc (suc t)))) z)
      (λ _. done (X (value (suc (suc t)))))) (run (E n) (around_of w) (at z X))) (end (value t) (omega arith) ∙ last (value t) (omega arith))
      (store-copy w n ty own place (value (suc (suc t))) (value (suc (suc t))) t z T X
      (kept-then (IsBelow t) T V X (kept-then (IsBelow t) T U V kept (kept-lower t U V more))
      (kept-then (IsBelow t) V W X (kept-lower t V W (kept-lower (suc t) V W last)) (kept-lower t W X (kept-lower (suc t) W X end))))))))))));
}
  where
    E : NodeId → List Instr
    E = λ n. store_code n ty own place t (value (suc (suc t))) (value (suc (suc t)))

    G : NodeId → Value → Value → Value → Act Value
    G = λ n x v old a. from (updated_where pointer w place p ty u old v a) (λ new q. from (stored w.setting own place n ty x new q) (λ _. done new))

    F : NodeId → Value → Value → Act Value
    F = λ n x v b. from (loaded w.setting own n ty x b) (G n x v)

-- Copies of structs

pub struct-assigns : (w : World) (P : Form) (A : NodeId → Form) (m o : Act Where) (t : ℕ) (next : NodeId → Form) (ty : TypeId)
    (to_place from_place place : Place)
    → ((n : NodeId) → AllLocate w (A n) o (suc t) (Follows (after.Copy (target.Pointer (value t) n) to_place from_place ty place) (suc t)))
    → AllLocate w P m t (λ k. Then (A k) (next k))
    → AllLocate w P (λ s. from (m s) (λ l. (o >>= (λ r u. from (copied w.setting ty from_place r.node r.address to_place l.node l.address place u)
    (λ _. done l.address))) >>= stands l.node)) t next
unfolding Then Line Follows
struct-assigns w P A m o t next ty to_place from_place place h l code given i j S f s T goes =
    matches-left (Into i j S) EndsAlike (from (from (m s) K) f) (from (m s) (λ l u. from (K l u) f)) (run code (around_of w) (at s T))
    (from-from (m s) K f)
    (l code given i j S (λ l u. from (K l u) f) s T
    (λ k e d U r kept. matches-left (Into i j S) EndsAlike (from (K (record { node = k; address = U (value t) }) r) f)
    (from (G k (U (value t)) r) (λ a. f (record { node = k; address = a }))) (run e (around_of w) (at r U))
    (from-from (G k (U (value t)) r) (stands k) f)
    (subst (λ z. Matches (Into i j S) EndsAlike (from (G k (U (value t)) r) (λ a. f (record { node = k; address = a })))
    (run z (around_of w) (at r U)))
    (sym d.4)
    (then-code (Into i j S) d.0 d.1 (around_of w) (value t) (IsBelow t) (G k (U (value t)) r) (at r U) U (λ a. f (record { node = k; address = a }))
    (h k d.0 d.2 t t U (λ r u. from (C k r (U (value t)) u) (λ _. done (U (value t)))) r U
    (λ c x g V u more. subst (λ z. Matches (Into t t U) EndsAlike (from (C k (record { node = c; address = V (value (suc t)) }) (U (value t)) u)
    (λ _. done (U (value t)))) (run z (around_of w) (at u V))) (sym g)
    (subst (λ z. Matches (Into t t U) EndsAlike (from (C k (record { node = c; address = V (value (suc t)) }) z u) (λ _. done z))
    (run (I k c ∷ []) (around_of w) (at u V))) (kept-value t U V more)
    (then-effect (Into t t U) (C k (record { node = c; address = V (value (suc t)) }) (V (value t))) (I k c) [] (around_of w) u V
    (done (V (value t))) refl
    (λ z. no-code t (around_of w) z U V (kept-lower t U V more))))))
    (λ V u more. goes k d.1 d.3 V u (kept-then (IsBelow t) T U V kept more))))))
  where
    C : NodeId → Where → Value → Act (Unit {0})
    C = λ k r a. copied w.setting ty from_place r.node r.address to_place k a place

    G : NodeId → Value → Act Value
    G = λ k a. o >>= (λ r u. from (C k r a u) (λ _. done a))

    K : Where → Act Where
    K = λ l. G l.node l.address >>= stands l.node

    I : NodeId → NodeId → Instr
    I = λ n k. instr.Access (access.Copy (target.Pointer (value t) n) to_place (value (suc t)) k from_place ty place)

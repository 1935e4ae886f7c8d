-- The lines of conversions are cured code of them.
use Rattle.std.proofs.Common.{◌≡◌, refl, ap, sym, subst, ◌∙◌, ℕ, Bool, true, false, arith, Some, List, [], ◌∷◌, ◌++◌, append-nil, nat_eq, if◌then◌else◌}
use Rattle.cc_base.specs.declared.kind.Kind.{Kind}
use Rattle.cc_base.specs.declared.kind.Kind.TheVariants.{Safe, Seq, Rtti, Wild}
use Rattle.cc_base.specs.declared.number.TypeId.{TypeId}
use Rattle.cc_base.specs.declared.number.NodeId.{NodeId}
use Rattle.cc_base.specs.declared.place.Place.{Place}
use Rattle.c_types.specs.declared.flow_class.FlowClass.{FlowClass}
use Rattle.c_types.specs.declared.flow_class.FlowClass.TheVariants.{Equal, UpTile, Up, DownTile, Down, Tile, Bad}
use Rattle.c_types.specs.Table.{shape_at}
use Rattle.c_types.specs.Flows.{flow_class}
use Rattle.cil_form.specs.declared.number.Temp.{Temp}
use Rattle.cil_form.specs.declared.instr.Convert.TheVariants as convert
use Rattle.cil_form.specs.Typing as shaped
use Rattle.cil_form.specs.Typing.{Typing, IntegerOf, PointerTo}
use Rattle.sim_relation.specs.Points.{Exact}
use Rattle.cured_code.specs.declared.instr.Instr.{Instr}
use Rattle.check_forms.specs.declared.slots.Fixed.{Fixed}
use Rattle.check_forms.specs.declared.op.Op.{Op}
use Rattle.check_forms.specs.declared.op.Op.TheVariants as op
use Rattle.check_forms.specs.Pieces.{Piece, Line, Then, When, Choice}
use Rattle.check_insert.specs.declared.draft.Draft.{Draft}
use Rattle.check_insert.specs.Drafts.{Grows, Starts, Chosen, AreBothReady}
use Rattle.check_insert.proofs.Laws.{grows_then, grows_choice}
use Rattle.cure_rules.specs.Slots.{Size}
use Rattle.cure_rules.specs.Known.{Points, known_at, known_of, narrowed_lines, pointer_slots}
use Rattle.cure_rules.specs.Checks.{IsGuarded, need, size_needed, convert_needs}
use Rattle.cure_rules.specs.Pointing.{NumberWords, ConvertedWords, conversion_by}
use Rattle.cure_scope.specs.declared.scope.Scope.{Scope}
use Rattle.cure_scope.specs.Scopes.{fixed_column, fixed_slots, seat, whole_of, world_of}
use Rattle.cure_scope.specs.Needs.{Guards, AreSeated}
use Rattle.cure_scope.proofs.GuardLaws.{guarded}
use Rattle.cure_instrs.specs.Cured.{kind_in}
use Rattle.cure_instrs.proofs.KnownLaws.{leaves_held, is_plain, is_exactly, kind_same, takes}
use Rattle.cure_blocks.specs.Cured.{ConvertCured}
use Rattle.cure_blocks.specs.Rows.{narrow_at, pointee_at, PointerConverted}

-- Drafts

-- what holds is known
pub grows_known : (A R : Type 0) (a : Draft) → A → Grows (When A (Line [])) R a a
unfolding Grows When Line
grows_known A R a h = (λ fine. (fine, ([], (h, refl), sym (append-nil a.items.items))), λ r e. e)

-- a piece for what was found out
pub grows_told : {A : Type 0} (x y : A) (Q : A → Piece) (R S : Type 0) (a b c : Draft) → Grows (When (x ≡ y) (Line [])) R a b → Grows (Q x) S b c
    → Grows (Q y) (R × S) a c
unfolding Grows When Line
grows_told x y Q R S a b c f g = (
  λ fine.
      let q = g.0 fine in let p = f.0 q.0 in (
        p.0,
        (
          q.1.0,
          subst (λ z. Q z q.1.0) p.1.1.0 q.1.1,
          q.1.2 ∙ ap (λ m. m ++ q.1.0) (p.1.2 ∙ ap (λ m. a.items.items ++ m) p.1.1.1 ∙ append-nil a.items.items),
        ),
      ),
  λ r e. g.1 r.1 (f.1 r.0 e),
)

-- a piece that needs nothing, and one behind it
pub grows_behind : (P Q : Piece) (R : Type 0) (a b c : Draft) → Grows P (Unit {0}) a b → Grows Q R b c → Grows (Then P Q) R a c
unfolding Grows
grows_behind P Q R a b c f g = let h = grows_then P Q (Unit {0}) R a b c f g in (h.0, λ r e. h.1 (tt, r) e)

-- a choice whose sides need nothing
pub grows_sides : (a : ℕ) (P Q : Piece) (s r one two b c : Draft) → Grows (Chosen a one two) (AreBothReady one two) b c
    → Grows P (Unit {0}) s one → Starts s → Grows Q (Unit {0}) r two → Starts r → Grows (Choice a P Q) (Unit {0}) b c
unfolding Grows
grows_sides a P Q s r one two b c h f es g er =
    let p = grows_choice a P Q (Unit {0}) (Unit {0}) s r one two b c h f es g er in (p.0, λ z e. p.1 (tt, tt) e)

-- a piece that needs no more than what was found out
pub grows_found : {A : Type 0} (x y : A) (Q : A → Piece) (R : Type 0) (a b c : Draft) → Grows (When (x ≡ y) (Line [])) R a b
    → Grows (Q x) (Unit {0}) b c → Grows (Q y) R a c
unfolding Grows
grows_found x y Q R a b c f g = let h = grows_told x y Q R (Unit {0}) a b c f g in (h.0, λ r e. h.1 (r, tt) e)

-- Integers

pub points : (p : ℕ) (types : Typing) (t : Temp) (n : NodeId) (u : TypeId) → shaped.Holds types t (PointerTo n u)
    → Points (known_of (fixed_slots p) types) t n u (fixed_column t) []
points p types t n u h =
    (record { type = PointerTo n u; place = Some (fixed_column t); form = Exact; sure = [] }, ap (known_at (fixed_column t)) h.1, refl, refl, refl)

pub integer_converted : (k : Scope) (types : Typing) (into from : Temp) (t : TypeId) (code : List Instr)
    → Line (narrowed_lines (fixed_column into) (fixed_column from) (narrow_at (shape_at k.layouts.now.table t))) code
    → ConvertCured (convert.Integer into from t) (world_of k) types code
unfolding ConvertCured
integer_converted k types into from t code line c after is h =
    let plain = is_plain (world_of k) c t h.0 is h.1 in (
      h.0,
      h.2.0,
      fixed_column from,
      plain,
      is_exactly k.parameters types from h.2.0 h.2.1,
      (h.3.0, omega arith),
      subst (λ s. Line (narrowed_lines (fixed_column into) (fixed_column from) (narrow_at s)) code) plain.0 line,
      leaves_held k.parameters types after into (Some (IntegerOf h.0)) h.3.1,
    )

pub number_converted : (k : Scope) (types : Typing) (into from : Temp) (t : TypeId) (at : Place) (code : List Instr)
    → NumberWords (kind_in (whole_of k) t) (fixed_column into) (fixed_column from) code → ConvertCured (convert.ToPointer into from t at) (world_of k) types code
unfolding ConvertCured
number_converted k types into from t at code line c after is h =
    let e = kind_same (world_of k) c t h.0 h.1 is h.2 in (
      h.0,
      h.1,
      h.3.0,
      fixed_column from,
      e.0,
      is_exactly k.parameters types from h.3.0 h.3.1,
      takes k into (whole_of k).kind h.0 h.4.0,
      subst (λ kind. NumberWords kind (fixed_column into) (fixed_column from) code) e.1 line,
      leaves_held k.parameters types after into (Some (PointerTo h.0 h.1)) h.4.1,
    )

pub address_converted : (k : Scope) (types : Typing) (into from : Temp) (t s : TypeId) (code : List Instr)
    → Line (narrowed_lines (fixed_column into) (fixed_column from) (narrow_at (shape_at k.layouts.now.table s))) code
    → ConvertCured (convert.FromPointer into from t s) (world_of k) types code
unfolding ConvertCured
address_converted k types into from t s code line c after is h =
    let e = kind_same (world_of k) c t h.0 h.1 is h.3 in
    let plain = is_plain (world_of k) c s h.2 is h.4 in (
      h.0,
      h.1,
      h.2,
      fixed_column from,
      [],
      e.0,
      plain,
      points k.parameters types from h.0 h.1 h.5,
      (h.6.0, omega arith),
      subst (λ x. Line (narrowed_lines (fixed_column into) (fixed_column from) (narrow_at x)) code) plain.0 line,
      leaves_held k.parameters types after into (Some (IntegerOf h.2)) h.6.1,
    )

-- Pointers

pub grows_converted : (op : Op) (kind : Kind) (at : Place) (Q : Piece) (R : Type 0) (a b c : Draft) → Grows (Guards op kind at) (Unit {0}) a b
    → Grows Q R b c → Grows (Then (Guards op kind at) Q) R a c
grows_converted op kind at Q R a b c f g = grows_behind (Guards op kind at) Q R a b c f g

pub seated_unless : (b : Bool) (size : Fixed) → size.slot ≡ seat Size → AreSeated (if b then [] else need Size size ∷ [])
seated_unless true size e = tt
seated_unless false size e = (e, tt)

pub sized : (size : Fixed) → size.slot ≡ seat Size → AreSeated (size_needed size)
sized size e = seated_unless (nat_eq size.value 1) size e

shrunk : (k : Scope) (class : FlowClass) (u v : TypeId) → AreSeated (convert_needs Seq (conversion_by Seq Rtti (world_of k) seat class u v))
shrunk k Equal u v = sized _ refl
shrunk k UpTile u v = sized _ refl
shrunk k Up u v = sized _ refl
shrunk k DownTile u v = sized _ refl
shrunk k Down u v = sized _ refl
shrunk k Tile u v = sized _ refl
shrunk k Bad u v = sized _ refl

seated : (k : Scope) (from to : Kind) (class : FlowClass) (u v : TypeId)
    → AreSeated (convert_needs from (conversion_by from to (world_of k) seat class u v))
seated k Safe to class u v = tt
seated k Rtti to class u v = tt
seated k Wild to class u v = tt
seated k Seq Safe class u v = sized _ refl
seated k Seq Rtti class u v = shrunk k class u v
seated k Seq Seq class u v = tt
seated k Seq Wild class u v = tt

guarded-words : (k : Scope) (from to : Kind) (class : FlowClass) (u v : TypeId) (c a : ℕ) (at : Place) (code : List Instr)
    → PointerConverted from to (world_of k) class u v c a at code
    → Then (IsGuarded (world_of k) (op.Convert (pointer_slots a) (conversion_by from to (world_of k) seat class u v)) from at)
    (ConvertedWords from to (world_of k) class u v c a) code
unfolding Then
guarded-words k from to class u v c a at code h = (
  h.0,
  h.1,
  guarded k (op.Convert (pointer_slots a) (conversion_by from to (world_of k) seat class u v)) from at h.0 (seated k from to class u v) h.2,
  h.3,
  h.4,
)

pub pointer_converted : (k : Scope) (types : Typing) (into from : Temp) (t s : TypeId) (at : Place) (code : List Instr)
    → PointerConverted (kind_in (whole_of k) t) (kind_in (whole_of k) s) (world_of k)
    (flow_class k.layouts.now.table (pointee_at (shape_at k.layouts.now.table t)) (pointee_at (shape_at k.layouts.now.table s)))
    (pointee_at (shape_at k.layouts.now.table t)) (pointee_at (shape_at k.layouts.now.table s)) (fixed_column into) (fixed_column from) at code
    → ConvertCured (convert.Pointer into from t s at) (world_of k) types code
unfolding ConvertCured
pointer_converted k types into from t s at code line c after is h =
    let w = world_of k in
    let table = k.layouts.now.table in
    let e = kind_same w c t h.0 h.2 is h.4 in
    let f = kind_same w c s h.1 h.3 is h.5 in
    let source = subst (λ x. PointerConverted (kind_in (whole_of k) t) (kind_in (whole_of k) s) w (flow_class table x (pointee_at (shape_at table s)))
    x (pointee_at (shape_at table s)) (fixed_column into) (fixed_column from) at code) (ap pointee_at e.0) line in
    let target = subst (λ x. PointerConverted (kind_in (whole_of k) t) (kind_in (whole_of k) s) w (flow_class table h.2 x)
    h.2 x (fixed_column into) (fixed_column from) at code) (ap pointee_at f.0) source in
    let one = subst (λ x. PointerConverted x (kind_in (whole_of k) s) w (flow_class table h.2 h.3)
    h.2 h.3 (fixed_column into) (fixed_column from) at code) e.1 target in
    let both = subst (λ x. PointerConverted ((whole_of k).kind h.0) x w (flow_class table h.2 h.3)
    h.2 h.3 (fixed_column into) (fixed_column from) at code) f.1 one in (
      h.0,
      h.1,
      h.2,
      h.3,
      fixed_column from,
      [],
      seat,
      e.0,
      f.0,
      points k.parameters types from h.0 h.2 h.6,
      takes k into (whole_of k).kind h.1 h.7.0,
      guarded-words k ((whole_of k).kind h.0) ((whole_of k).kind h.1) (flow_class table h.2 h.3) h.2 h.3 (fixed_column into) (fixed_column from) at code both,
      leaves_held k.parameters types after into (Some (PointerTo h.1 h.3)) h.7.1,
    )

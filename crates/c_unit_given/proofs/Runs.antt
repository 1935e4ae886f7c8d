-- Runs of judging that give, one after another.
use Rattle.std.proofs.Common.{◌≡◌, ◌≤◌, ℕ, List, [], ◌++◌, length, Option, None, refl, ap, sym, subst, ◌∙◌, append_assoc, arith}
use Rattle.std.specs.List.{All}
use Rattle.std.proofs.lemmas.List.Elements.{All-weaker}
use Rattle.cc_base.specs.declared.fault.Fault.{Fault}
use Rattle.c_types.specs.Table.{Table}
use Rattle.c_tree.specs.TypedParts.{Made}
use Rattle.c_typing.specs.declared.declared.Declared.{Declared}
use Rattle.c_typing.specs.declared.declared.Declared.TheVariants as declared
use Rattle.c_typing.specs.Judging as judging
use Rattle.c_typing.specs.Judging.{State, Judging}
use Rattle.c_typing.specs.Scopes.{Level, Scopes}
use Rattle.c_typing.specs.Tests.{Test, first_broken}
use Rattle.c_typing_laws.proofs.ExtensionLaws.{extended_refl, still_in}
use Rattle.c_typing_laws.proofs.TableGrowth.{extended_trans}
use Rattle.c_typing_unique.specs.Points.{Point, Numbers}
use Rattle.c_typing_unique.proofs.Numbering.{two-parts}
use Rattle.c_typing_given.specs.Given.{IsHere, IsReached}
use Rattle.c_type_order.specs.TypesUsed.{Use, AreUses}
use Rattle.c_typing_given.proofs.ValuesGiven.{uses-first}
use Rattle.c_unit_typing.specs.Units.{Known, with_scopes}
use Rattle.c_unit_typing.specs.UnitJudged.{state_of}
use Rattle.c_unit_typing.specs.UnitJudging.{UnitState, UnitJudging, UnitOutcome, Gives, ◌>>=◌, next, unless, known, known_of, obeying, lifted, with_linkage}
use Rattle.c_unit_typing.proofs.UnitStates.{linkage-stays}
use Rattle.c_unit_given.proofs.UnitGiven.{IsHomeBelow, AreHomesBelow, IsScopeKept, IsUnitHere, IsUnitReached, IsRun, IsPartRun, IsKept, Nothing, And, HasType}
use Rattle.c_unit_given.proofs.UnitRoom.{part-room, part-spent, unit-room-first, unit-room-then, unit-spent-both, unit-spent-none}

pub then-is : {A B : Type 0} (m : UnitJudging A) (f : A → UnitJudging B) (a : A) (s k : UnitState) (o : UnitOutcome B) → m s ≡ Gives a k → f a k ≡ o → (m >>= f) s ≡ o
then-is m f a s k o h q = ap (λ v. next v f) h ∙ q

pub obeying-is : {A : Type 0} (rules : UnitState → List Test) (go : UnitJudging A) (s : UnitState) (o : UnitOutcome A) → first_broken (rules s) ≡ None → go s ≡ o
    → obeying rules go s ≡ o
obeying-is rules go s o h k = ap (λ (f : Option Fault). unless f go s) h ∙ k

pub lifted-is : {A : Type 0} (p : Judging A) (a : A) (s : UnitState) (q : State) → p (state_of s) ≡ judging.Gives a q → lifted p s ≡ Gives a (known q.table q.seen s.linkage)
lifted-is p a s q h = ap (with_linkage s.linkage) h

-- Homes

below_later : (n m : ℕ) (what : Declared) → n ≤ m → IsHomeBelow n what → IsHomeBelow m what
below_later n m (declared.Object t k) up h = omega (arith, up, h)
below_later n m (declared.Typedef t) up h = tt
below_later n m (declared.Function t) up h = tt
below_later n m (declared.Enumerator z) up h = tt

pub homes-later : (n m : ℕ) (levels : List Level) → n ≤ m → AreHomesBelow n levels → AreHomesBelow m levels
homes-later n m levels up h =
    All-weaker (λ (l : Level). All (λ (e : List ℕ × Declared). IsHomeBelow n e.1) l.names) (λ (l : Level). All (λ (e : List ℕ × Declared). IsHomeBelow m e.1) l.names)
    (λ l. All-weaker (λ (e : List ℕ × Declared). IsHomeBelow n e.1) (λ (e : List ℕ × Declared). IsHomeBelow m e.1) (λ e. below_later n m e.1 up) l.names) levels h

-- What is needed and gained

pub nothing-kept : IsKept Nothing
nothing-kept J U x b h = tt

pub type-kept : (t : _) → IsKept (HasType t)
type-kept t J U x b h = still_in J U x t h

pub both-kept : (P Q : Table → Type 0) → IsKept P → IsKept Q → IsKept (And P Q)
both-kept P Q p q J U x b h = (p J U x b h.0, q J U x b h.1)

-- one part after another
abbrev pub Then : (Known → Known → Type 0) → (Known → Known → Type 0) → Known → Known → Type 0
Then P Q k k' = (m : Known) × P k m × Q m k'

abbrev pub Stays : Known → Known → Type 0
Stays k k' = k' ≡ k

-- a part of types and names
abbrev pub Among : (Scopes → Scopes → Type 0) → Known → Known → Type 0
Among P k k' = (s : Scopes) × P k.scopes s × (k' ≡ with_scopes k s)

module _ (T : Table) where
  pub reached-then : (xs ys : List Made) (s m r : UnitState) (k l : Known) (n o j count : ℕ) → IsUnitReached T xs s m k n j → IsUnitReached T ys m r l o count
      → IsUnitReached T (xs ++ ys) s r l o count
  reached-then xs ys s m r k l n o j count p q = record {
    here = q.here;
    grown = extended_trans s.table m.table r.table p.grown q.grown;
    known = q.known;
    node = q.node;
    types = q.types;
    outer = q.outer ∙ p.outer;
    spent = unit-spent-both T xs ys s m r p.spent q.spent;
  }

  module _ {A B : Type 0} where
    pub run-then : (N M G : Table → Type 0) → IsKept N → (P Q : Known → Known → Type 0) (xs ys : List Made) (us vs : List Use) (m : UnitJudging A) (f : A → UnitJudging B) (a : A) (c : B)
        → IsRun T N M P xs us m a → IsRun T (And N M) G Q ys vs (f a) c → IsRun T N G (Then P Q) (xs ++ ys) (us ++ vs) (m >>= f) c
    run-then N M G keep P Q xs ys us vs m f a c p q s k n count here needs h numbers uses room =
        let cut = two-parts xs ys s.seen.node n numbers in
        let u = uses-first us vs (length s.table) count uses in
        let one = p s h.0 cut.0 u.0 here needs h.1 cut.1 u.1 (unit-room-first T xs ys s room) in
        let r : UnitState = one.after in
        let two =
        q r k n count one.reached.here (keep s.table r.table one.reached.grown here.here.known.basic needs, one.gains) (subst (λ (l : Known). Q l k) (sym one.reached.known) h.2)
        (subst (λ (i : ℕ). Numbers ys i n) (sym one.reached.node) cut.2) (subst (λ (i : ℕ). AreUses vs i count) (sym one.reached.types) u.2)
        (unit-room-then T xs ys s r room one.reached.spent) in
        record {
          after = two.after;
          gives = then-is m f a s r (Gives c two.after) one.gives two.gives;
          reached = reached-then xs ys s r two.after h.0 k cut.0 n u.0 count one.reached two.reached;
          gains = two.gains;
        }

    -- a part, and then what makes nothing and leaves all as it is
    pub run-last : (N M G : Table → Type 0) → IsKept N → (P : Known → Known → Type 0) (xs : List Made) (us : List Use) (m : UnitJudging A) (f : A → UnitJudging B) (a : A) (c : B)
        → IsRun T N M P xs us m a → ((r : UnitState) → IsUnitHere T r → N r.table → M r.table → (f a r ≡ Gives c r) × G r.table) → IsRun T N G P xs us (m >>= f) c
    run-last N M G keep P xs us m f a c p q s k n count here needs h numbers uses room =
        let one = p s k n count here needs h numbers uses room in
        let last = q one.after one.reached.here (keep s.table one.after.table one.reached.grown here.here.known.basic needs) one.gains in
        record {
          after = one.after;
          gives = then-is m f a s one.after (Gives c one.after) one.gives last.0;
          reached = one.reached;
          gains = last.1;
        }

    -- what leaves all as it is, and then a part
    pub run-first : (N M G : Table → Type 0) (P : Known → Known → Type 0) (xs : List Made) (us : List Use) (m : UnitJudging A) (f : A → UnitJudging B) (a : A) (c : B)
        → ((s : UnitState) → IsUnitHere T s → N s.table → (m s ≡ Gives a s) × M s.table) → IsRun T (And N M) G P xs us (f a) c → IsRun T N G P xs us (m >>= f) c
    run-first N M G P xs us m f a c q p s k n count here needs h numbers uses room =
        let first = q s here needs in
        let one = p s k n count here (needs, first.1) h numbers uses room in
        record {
          after = one.after;
          gives = then-is m f a s s (Gives c one.after) first.0 one.gives;
          reached = one.reached;
          gains = one.gains;
        }

  -- a part of types and names
  pub lift-reached : (made : List Made) (s : UnitState) (q : State) (b : Point) (count : ℕ) → IsUnitHere T s → IsReached T made (state_of s) q b count → IsScopeKept s.seen.scopes b.scopes
      → IsUnitReached T made s (known q.table q.seen s.linkage) (with_scopes (known_of s) b.scopes) b.node count
  lift-reached made s q b count here h keeps =
      let spent = h.way.spent in
      let up : s.seen.node ≤ q.seen.node = let e = spent.nodes in omega (arith, e) in
      let r : UnitState = known q.table q.seen s.linkage in
      let same : q.seen.scopes ≡ b.scopes = ap (λ (p : Point). p.scopes) h.point in
      let kept = subst (IsScopeKept s.seen.scopes) (sym same) keeps in
      let deep = kept.deep in
      let was = here.open_ in
      record {
        here = record {
          here = h.here;
          unit = (linkage-stays s r here.unit (record { extends = h.grown; known = h.here.known }) refl up).known;
          open_ = omega (arith, deep, was);
          homes = homes-later s.seen.node q.seen.node q.seen.scopes.levels up (kept.homes s.seen.node here.homes);
        };
        grown = h.grown;
        known = ap (λ (p : Point). with_scopes (known_of s) p.scopes) h.point;
        node = ap (λ (p : Point). p.node) h.point;
        types = h.way.types;
        outer = kept.outer;
        spent = part-spent T made s r spent;
      }

  module _ {A : Type 0} where
    -- the same part, of which less is said
    pub run-as : (N N' G G' : Table → Type 0) (P P' : Known → Known → Type 0) (xs : List Made) (us : List Use) (m : UnitJudging A) (a : A) → ((J : Table) → N' J → N J)
        → ((J : Table) → G J → G' J) → ((k k' : Known) → P' k k' → P k k') → IsRun T N G P xs us m a → IsRun T N' G' P' xs us m a
    run-as N N' G G' P P' xs us m a needs gains typed p s k n count here h j numbers uses room =
        let one = p s k n count here (needs s.table h) (typed (known_of s) k j) numbers uses room in
        record { after = one.after; gives = one.gives; reached = one.reached; gains = gains one.after.table one.gains }

    -- three parts, however they are joined
    pub run-three : (N G : Table → Type 0) (P : Known → Known → Type 0) (xs ys zs : List Made) (us vs ws : List Use) (m : UnitJudging A) (a : A)
        → IsRun T N G P (xs ++ (ys ++ zs)) (us ++ (vs ++ ws)) m a → IsRun T N G P (xs ++ ys ++ zs) (us ++ vs ++ ws) m a
    run-three N G P xs ys zs us vs ws m a p =
        subst (λ (made : List Made). IsRun T N G P made (us ++ vs ++ ws) m a) (sym (append_assoc xs ys zs))
        (subst (λ (uses : List Use). IsRun T N G P (xs ++ (ys ++ zs)) uses m a) (sym (append_assoc us vs ws)) p)

    -- what makes nothing and leaves all as it is
    pub run-none : (N G : Table → Type 0) (m : UnitJudging A) (a : A) → ((s : UnitState) → IsUnitHere T s → N s.table → (m s ≡ Gives a s) × G s.table) → IsRun T N G Stays [] [] m a
    run-none N G m a f s k n count here needs h numbers uses room =
        let one = f s here needs in
        record {
          after = s;
          gives = one.0;
          reached = record {
            here = here;
            grown = extended_refl s.table;
            known = sym h;
            node = sym numbers;
            types = sym uses;
            outer = refl;
            spent = unit-spent-none T s s refl refl refl;
          };
          gains = one.1;
        }

    pub run-lifted : (N G : Table → Type 0) (P : Scopes → Scopes → Type 0) (made : List Made) (uses : List Use) (Needs : State → Type 0) (p : Judging A) (a : A)
        → ((x y : Scopes) → P x y → IsScopeKept x y) → IsPartRun T P made uses Needs p a → ((s : State) → N s.table → Needs s) → ((s q : State) → IsHere T s → N s.table → p s ≡ judging.Gives a q → G q.table)
        → IsRun T N G (Among P) made uses (lifted p) a
    run-lifted N G P made uses Needs p a keeps run needs gains s k n count here h typed numbers used room =
        let b : Point = record { scopes = typed.0; node = n } in
        let one = run (state_of s) b count here.here (needs (state_of s) h) typed.1 numbers used (part-room T made s room) in
        let r : UnitState = known one.after.table one.after.seen s.linkage in
        record {
          after = r;
          gives = lifted-is p a s one.after one.gives;
          reached = subst (λ (l : Known). IsUnitReached T made s r l n count) (sym typed.2) (lift-reached made s one.after b count here one.reached (keeps s.seen.scopes typed.0 typed.1));
          gains = gains (state_of s) one.after here.here h one.gives;
        }
